use Rattle.std.proofs.Common.{◌∙◌, length, replicate, refl, ap}
use Rattle.mr_outside.specs.declared.shelf.ShelfErr.TheVariants as shelf
use Rattle.mr_tree.specs.Digest.{by}
use Rattle.mr_tree.specs.declared.tree.Tree.TheVariants as tree
use Rattle.mr_pages.specs.PageBytes.{form_of}
use Rattle.mr_pages.specs.Stands.{pages_of}
use Rattle.mr_pages.specs.Saved.{numbered}
use Rattle.mr_pages.proofs.InPieces.{two_pages, row_begun, row_begins, behind_zeros, row_room, inner_can, row_more}
use Rattle.mr_pages.specs.private.Putting.{left}
use Rattle.mr_pages.proofs.LeafEntries.{known_child, left_more}
use Rattle.mr_pages.proofs.Laying.{child_layers, child_few}
use Rattle.mr_pages.proofs.Put.{child_can}
use Rattle.mr_pages.proofs.Written.{given_up, no_memory_more}
use Rattle.mr_pages.proofs.making.make_row.Goals as goal

pub returns-in_err-begin : goal.returns-in_err-begin
returns-in_err-begin g c =
    let size = c.args.layout.size in
    given_up c.from_residual-in_err-begin.result _ c.in_err-begin.field-0.0 size c.args.name.now
    (g.S.Shelf.state c.args.shelf.now) (g.S.Shelf.state c.begin.new.shelf) c.from_residual-in_err-begin.ensures.1
    (c.in_err-begin.ensures size (replicate size 0)
    (two_pages size c.deref.result.now (c.deref.ensures.value ∙ c.in_ok-front.ensures)))

pub loop-child-init : goal.loop-child-init
loop-child-init g c =
    let size = c.args.layout.size in
    let zeros = two_pages size c.deref.result.now (c.deref.ensures.value ∙ c.in_ok-front.ensures) in
    record {
      row =
          row_begun (form_of c.args.layout) g.H.Hashes.of c.args.children.now c.args.name.now
          (g.S.Shelf.state c.args.shelf.now) (g.S.Shelf.state c.begin.new.shelf) c.deref.result.now
          c.new-links.result.items
          (c.in_ok-begin.ensures size (replicate size 0) zeros) zeros c.new-links.ensures.items;
      known = refl;
    }

pub add_tree-requires-clause-can : goal.add_tree-requires-clause-can
add_tree-requires-clause-can g c =
    let ts = c.args.children.now in
    child_can (tree.Inner ts) ts c.loop-child.child-index c.child-item.result refl (inner_can ts c.requires.well)
    c.loop-child-test.true c.child-item.is

pub add_tree-requires-clause-layers : goal.add_tree-requires-clause-layers
add_tree-requires-clause-layers g c =
    let ts = c.args.children.now in
    child_layers c.args.layout.version (tree.Inner ts) ts c.loop-child.child-index c.child-item.result refl
    c.requires.layers c.loop-child-test.true c.child-item.is

pub add_tree-requires-clause-few : goal.add_tree-requires-clause-few
add_tree-requires-clause-few g c =
    let ts = c.args.children.now in
    child_few (tree.Inner ts) ts c.loop-child.child-index c.child-item.result refl c.requires.well.few
    c.loop-child-test.true c.child-item.is

pub add_tree-requires-clause-room : goal.add_tree-requires-clause-room
add_tree-requires-clause-room g c =
    row_room c.args.children.now c.loop-child.child-index c.loop-child.next c.child-item.result c.requires.well
    c.loop-child-test.true c.child-item.is c.loop-child.invariant.row.place

pub add_tree-requires-clause-known : goal.add_tree-requires-clause-known
add_tree-requires-clause-known g c =
    let ts = c.args.children.now in
    known_child (by c.args.layout.version g.H.Hashes.of) (tree.Inner ts) ts c.loop-child.child-index
    c.child-item.result c.args.leaves.now (left c.loop-child.left) refl c.requires.known c.loop-child-test.true
    c.child-item.is c.loop-child.invariant.known

pub returns-in_err-link : goal.returns-in_err-link
returns-in_err-link g c =
    let form = form_of c.args.layout in
    let ts = c.args.children.now in
    let i = c.loop-child.child-index in
    let row = c.loop-child.invariant.row in
    let before = g.S.Shelf.state c.args.shelf.now in
    given_up c.from_residual-in_err-link.result _ c.in_err-link.field-0.0 c.args.layout.size c.args.name.now before
    (g.S.Shelf.state c.add_tree.new.shelf) c.from_residual-in_err-link.ensures.1
    (c.in_err-link.ensures.made before row.bytes (behind_zeros form g.H.Hashes.of ts i) row.made
    (row_begins form g.H.Hashes.of ts i row.bytes c.loop-child.links.items row.put))

pub returns-in_err-add_link : goal.returns-in_err-add_link
returns-in_err-add_link g c =
    let form = form_of c.args.layout in
    let size = c.args.layout.size in
    let ts = c.args.children.now in
    let name = c.args.name.now in
    let i = c.loop-child.child-index in
    let row = c.loop-child.invariant.row in
    let behind = behind_zeros form g.H.Hashes.of ts i in
    let before = g.S.Shelf.state c.args.shelf.now in
    let after = g.S.Shelf.state c.add_tree.new.shelf in
    let begins = row_begins form g.H.Hashes.of ts i row.bytes c.loop-child.links.items row.put in
    given_up c.from_residual-in_err-add_link.result _ shelf.NoMemory size name before after
    c.from_residual-in_err-add_link.ensures.1
    (no_memory_more size name row.bytes behind c.add_tree.new.pages.items before after
    (c.in_ok-link.ensures.made before row.bytes behind row.made begins) begins)

pub page_behind-next-requires-clause-room : goal.page_behind-next-requires-clause-room
page_behind-next-requires-clause-room g c =
    let next = c.loop-child.next in
    let one = c.child-item.result in
    let room = row_room c.args.children.now c.loop-child.child-index next one c.requires.well c.loop-child-test.true
    c.child-item.is c.loop-child.invariant.row.place in (
      length (pages_of (numbered one next)),
      (ap length c.deref-in-loop-child.ensures.value ∙ c.in_ok-link.ensures.put.size, room),
    )

pub loop-child-preserved : goal.loop-child-preserved
loop-child-preserved g c =
    let form = form_of c.args.layout in
    let ts = c.args.children.now in
    let i = c.loop-child.child-index in
    let row = c.loop-child.invariant.row in
    let before = g.S.Shelf.state c.args.shelf.now in
    record {
      row =
          row_more form g.H.Hashes.of ts i c.args.name.now before (g.S.Shelf.state c.loop-child.shelf)
          (g.S.Shelf.state c.add_tree.new.shelf) c.loop-child.links.items c.add_link.new.links.items
          c.child-item.result
          c.in_ok-link.link c.loop-child.next c.page_behind-next.result c.add_tree.new.pages.items
          c.loop-child-test.true c.child-item.is row c.in_ok-link.ensures.put
          (c.in_ok-link.ensures.made before row.bytes (behind_zeros form g.H.Hashes.of ts i) row.made
          (row_begins form g.H.Hashes.of ts i row.bytes c.loop-child.links.items row.put))
          c.in_ok-add_link.ensures
          (c.page_behind-next.ensures _
          (ap length c.deref-in-loop-child.ensures.value ∙ c.in_ok-link.ensures.put.size));
      known =
          left_more (by c.args.layout.version g.H.Hashes.of) ts i c.child-item.result c.args.leaves.now
          (left c.loop-child.left) (left c.add_tree.new.leaves) c.loop-child-test.true c.child-item.is
          c.loop-child.invariant.known c.in_ok-link.ensures.left;
    }
