use Rattle.mr_tree.specs.Digest.{by}
use Rattle.mr_pages.specs.Making.{RowMade}
use Rattle.mr_pages.specs.PageBytes.{form_of}
use Rattle.mr_pages.specs.private.Putting.{left}
use Rattle.mr_pages.proofs.LeafEntries.{LeftBehind}
use Rattle.mr_pages.proofs.making.make_row.Given as goal

-- the pages below the children so far are in the file, and the entries of the other children's
-- leaves are left
abbrev pub invariant-loop-child : goal.invariant-loop-child
invariant-loop-child g l = record {
  row : RowMade (form_of l.layout) g.H.Hashes.of l.children l.child-index l.name (g.S.Shelf.state l.fn.shelf)
      (g.S.Shelf.state l.shelf) l.links.items l.next;
  known : LeftBehind (by l.layout.version g.H.Hashes.of) l.children l.child-index l.leaves (left l.left);
}
