use Rattle.std.proofs.Common.{◌≡◌, ap, sym, subst}
use Rattle.std.specs.Prelude.{true}
use Rattle.std.proofs.lemmas.Result.{err_from_is_err_and}
use Rattle.mr_record.specs.declared.version.Version.{Version}
use Rattle.mr_tree.specs.Snapshot.{IsSnapshot, snapshot_model, tree_of}
use Rattle.mr_tree.specs.WellFormed.{WellFormed}
use Rattle.mr_tree.specs.declared.child.Child.{Child}
use Rattle.mr_tree.specs.declared.nodes.Top.{Top}
use Rattle.mr_pages.specs.Source.{Origin}
use Rattle.mr_pages.specs.declared.checking.Checked.{Checked}
use Rattle.mr_pages.specs.declared.copying.Copies.{Copies}
use Rattle.mr_pages.specs.PageBytes.{form_of}
use Rattle.mr_pages.proofs.HeadLaws.{form_is}
use Rattle.mr_pages.specs.Opening.{opened_of}
use Rattle.mr_pages.specs.Gathering.{CopiesNodes, MakesTree}
use Rattle.mr_tree.specs.Digest.{by}
use Rattle.mr_pages.proofs.Answered.{checked_some, told_err, told_ok, some_err, some_ok}
use Rattle.mr_pages.proofs.Copied.{snapshot_made, snapshot_whole, snapshot_well}
use Rattle.mr_pages.proofs.whole.SnapshotWhole.open_pages.Goals as goal

-- what the map says of itself
abbrev top : Version → Checked Child → Top
top v checked =
    record { version = v; batch = checked.head.batch; count = checked.head.count; root = checked.made }

pub returns-in_err-checked-clause-told : goal.returns-in_err-checked-clause-told
returns-in_err-checked-clause-told g c =
    let p = err_from_is_err_and c.from_residual.result c.from_residual.ensures.1 in
    rw (p.1, p.2) (told_err (form_of c.args.layout) (form_is c.args.layout c.requires.layout) g.H.Hashes.of
    c.args.name.now (0, 0) c.args.pages (g.S.Shelf.state c.args.shelf.now)
    c.requires.paged Child c.in_err-checked.field-0.0 c.in_err-checked.ensures.told)

pub returns-in_err-checked-clause-of_some_bytes : goal.returns-in_err-checked-clause-of_some_bytes
returns-in_err-checked-clause-of_some_bytes g c =
    let p = err_from_is_err_and c.from_residual.result c.from_residual.ensures.1 in
    rw (p.1, p.2) (some_err (form_of c.args.layout) (form_is c.args.layout c.requires.layout) g.H.Hashes.of
    c.args.name.now _ c.args.pages (g.S.Shelf.state c.args.shelf.now)
    c.requires.paged c.requires.some c.requires.few Child _ c.in_err-checked.field-0.0 g.met.H.Hashes.sized
    c.in_err-checked.ensures.of_some_bytes)

pub over-requires-clause-whole : goal.over-requires-clause-whole
over-requires-clause-whole g c =
    let form = form_of c.args.layout in
    let fits = form_is c.args.layout c.requires.layout in
    let hash = g.H.Hashes.of in
    let s = g.S.Shelf.state c.args.shelf.now in
    let checked = c.in_ok-checked.checked in
    let makes = MakesTree (λ a b d m t. CopiesNodes (by form.version hash) true a.items b.items d m t) c.new.result
    c.check.new.pages.into.now.nodes in
    let some = checked_some form fits hash c.args.name.now _ c.args.pages s c.requires.paged c.requires.some
    c.requires.few Child makes checked c.in_ok-checked.ensures.of_some_bytes in
    let same = c.copies-2-1.given.1 (sym (ap (λ (o : Origin). o.lent.1) c.in_ok-checked.ensures.goes.from_)) in
    subst (λ (k : Copies). IsSnapshot hash k.nodes.items (top c.args.layout.version checked)) (sym same)
    (snapshot_whole (λ v. v.items) form fits hash c.new.result c.check.new.pages.into.now.nodes c.new.ensures.items
    checked some.0 some.1)

pub over-requires-clause-well_formed : goal.over-requires-clause-well_formed
over-requires-clause-well_formed g c =
    let form = form_of c.args.layout in
    let fits = form_is c.args.layout c.requires.layout in
    let hash = g.H.Hashes.of in
    let s = g.S.Shelf.state c.args.shelf.now in
    let checked = c.in_ok-checked.checked in
    let makes = MakesTree (λ a b d m t. CopiesNodes (by form.version hash) true a.items b.items d m t) c.new.result
    c.check.new.pages.into.now.nodes in
    let some = checked_some form fits hash c.args.name.now _ c.args.pages s c.requires.paged c.requires.some
    c.requires.few Child makes checked c.in_ok-checked.ensures.of_some_bytes in
    let same = c.copies-2-1.given.1 (sym (ap (λ (o : Origin). o.lent.1) c.in_ok-checked.ensures.goes.from_)) in
    subst (λ (k : Copies). WellFormed (tree_of k.nodes.items (top c.args.layout.version checked))) (sym same)
    (snapshot_well (λ v. v.items) form fits hash c.new.result c.check.new.pages.into.now.nodes c.new.ensures.items
    checked some.0 some.1)

pub returns-clause-told : goal.returns-clause-told
returns-clause-told g c =
    let form = form_of c.args.layout in
    let fits = form_is c.args.layout c.requires.layout in
    let hash = g.H.Hashes.of in
    let s = g.S.Shelf.state c.args.shelf.now in
    let checked = c.in_ok-checked.checked in
    let makes = MakesTree (λ a b d m t. CopiesNodes (by form.version hash) true a.items b.items d m t) c.new.result
    c.check.new.pages.into.now.nodes in
    let same = c.copies-2-1.given.1 (sym (ap (λ (o : Origin). o.lent.1) c.in_ok-checked.ensures.goes.from_)) in
    told_ok form fits hash c.args.name.now (0, 0) c.args.pages s c.requires.paged Child makes checked
    (opened_of c.over.result)
    (snapshot_made (λ v. v.items) form fits hash c.new.result c.check.new.pages.into.now.nodes c.new.ensures.items
    checked c.over.result.nodes.items c.over.result.top
    (subst (λ (k : Copies). snapshot_model c.over.result.nodes.items c.over.result.top
    ≡ snapshot_model k.nodes.items (top c.args.layout.version checked)) same c.over.ensures))
    c.in_ok-checked.ensures.told c.in_ok-checked.ensures.made

pub returns-clause-of_some_bytes : goal.returns-clause-of_some_bytes
returns-clause-of_some_bytes g c =
    let form = form_of c.args.layout in
    let fits = form_is c.args.layout c.requires.layout in
    let hash = g.H.Hashes.of in
    let s = g.S.Shelf.state c.args.shelf.now in
    let checked = c.in_ok-checked.checked in
    let makes = MakesTree (λ a b d m t. CopiesNodes (by form.version hash) true a.items b.items d m t) c.new.result
    c.check.new.pages.into.now.nodes in
    let same = c.copies-2-1.given.1 (sym (ap (λ (o : Origin). o.lent.1) c.in_ok-checked.ensures.goes.from_)) in
    some_ok form fits hash c.args.name.now _ c.args.pages s c.requires.paged c.requires.some c.requires.few Child makes
    checked (opened_of c.over.result)
    (snapshot_made (λ v. v.items) form fits hash c.new.result c.check.new.pages.into.now.nodes c.new.ensures.items
    checked c.over.result.nodes.items c.over.result.top
    (subst (λ (k : Copies). snapshot_model c.over.result.nodes.items c.over.result.top
    ≡ snapshot_model k.nodes.items (top c.args.layout.version checked)) same c.over.ensures))
    c.in_ok-checked.ensures.of_some_bytes
