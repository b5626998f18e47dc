use Rattle.std.proofs.Common.{◌∙◌, ◌+◌, ◌≤◌, length, sym, subst, ap, arith}
use Rattle.std.specs.Prelude.{⊤}
use Rattle.mr_outside.proofs.Changes.{OfFile-put}
use Rattle.mr_outside.specs.declared.shelf.ShelfErr.TheVariants as shelf
use Rattle.mr_pages.specs.PageBytes.{form_of}
use Rattle.mr_pages.proofs.InPieces.{row_begins, behind_zeros, row_long, links_there, links_may_tell, root_made}
use Rattle.mr_pages.proofs.Put.{siblings}
use Rattle.mr_pages.specs.private.Putting.{AreSiblings}
use Rattle.mr_pages.proofs.Written.{given_up, no_memory, not_put, has_put}
use Rattle.mr_pages.proofs.making.make_inner.Goals as goal

pub show_children-requires : goal.show_children-requires
show_children-requires g c =
    let v = c.args.layout.version in
    let form = form_of c.args.layout in
    let ts = c.args.children.now in
    let links = c.in_ok-links.links.items in
    let row = c.in_ok-links.ensures in
    let all = links_there form g.H.Hashes.of ts row.bytes links c.requires.well row.put in
    let told = links_may_tell form g.H.Hashes.of ts row.bytes links c.requires.well c.requires.layers row.put in
    subst (AreSiblings v) (sym c.deref.ensures.value) (siblings v ts links all told)

pub returns-in_err-page : goal.returns-in_err-page
returns-in_err-page g c =
    let form = form_of c.args.layout in
    let ts = c.args.children.now in
    let links = c.in_ok-links.links.items in
    let row = c.in_ok-links.ensures in
    let before = g.S.Shelf.state c.args.shelf.now in
    let now = g.S.Shelf.state c.make_row.new.shelf in
    given_up c.from_residual-in_err-page.result _ shelf.NoMemory c.args.layout.size c.args.name.now before now
    c.from_residual-in_err-page.ensures.1
    (no_memory c.args.layout.size c.args.name.now row.bytes (behind_zeros form g.H.Hashes.of ts (length ts)) before now
    row.made (row_begins form g.H.Hashes.of ts (length ts) row.bytes links row.put))

pub write_at-requires : goal.write_at-requires
write_at-requires g c =
    let form = form_of c.args.layout in
    let ts = c.args.children.now in
    let row = c.in_ok-links.ensures in
    let room = row_long form g.H.Hashes.of ts (length ts) row.bytes c.in_ok-links.links.items row.put in
    OfFile-put c.args.name.now row.bytes ⊤ (λ held. c.args.layout.size + length c.deref-2.result.now ≤ length held)
    (g.S.Shelf.state c.args.shelf.now).files (g.S.Shelf.state c.make_row.new.shelf).files row.made.files
    (omega (arith, room, ap length c.deref-2.ensures.value, c.in_ok-page.ensures.size))

pub returns-in_err-write_at : goal.returns-in_err-write_at
returns-in_err-write_at g c =
    let form = form_of c.args.layout in
    let ts = c.args.children.now in
    let row = c.in_ok-links.ensures in
    let before = g.S.Shelf.state c.args.shelf.now in
    let now = g.S.Shelf.state c.make_row.new.shelf in
    let after = g.S.Shelf.state c.write_at.new.self in
    let e = c.in_err-write_at.field-0.0 in
    given_up c.from_residual-in_err-write_at.result _ e c.args.layout.size c.args.name.now before after
    c.from_residual-in_err-write_at.ensures.1
    (not_put c.args.layout.size c.args.name.now row.bytes (behind_zeros form g.H.Hashes.of ts (length ts))
    (row_begins form g.H.Hashes.of ts (length ts) row.bytes c.in_ok-links.links.items row.put) before now row.made
    c.deref-2.result.now after e c.in_err-write_at.ensures.writes c.in_err-write_at.ensures.causes)

pub returns : goal.returns
returns g c =
    let form = form_of c.args.layout in
    let ts = c.args.children.now in
    let name = c.args.name.now in
    let links = c.in_ok-links.links.items in
    let row = c.in_ok-links.ensures in
    let page = c.deref-2.result.now in
    let before = g.S.Shelf.state c.args.shelf.now in
    let now = g.S.Shelf.state c.make_row.new.shelf in
    let after = g.S.Shelf.state c.write_at.new.self in
    root_made {shows = c.show_children.new.view} form g.H.Hashes.of ts name before now after links c.deref.result.now
    c.in_ok-links.pages page c.child_on.result c.requires.well row
    (has_put name row.bytes page c.args.layout.size before now after row.made c.in_ok-write_at.ensures.writes.whole
    c.in_ok-write_at.ensures.causes.quiet c.in_ok-write_at.ensures.writes.reads)
    c.deref.ensures.value c.show_children.ensures.shown (c.deref-2.ensures.value ∙ c.in_ok-page.ensures.page)
    (ap length c.deref-2.ensures.value ∙ c.in_ok-page.ensures.size)
    (row_long form g.H.Hashes.of ts (length ts) row.bytes links row.put) c.child_on.ensures
