use Rattle.mr_tree.specs.Digest.{by}
use Rattle.mr_tree.specs.Tree.{level}
use Rattle.mr_pages.specs.private.Putting.{PutSoFar, left}
use Rattle.mr_pages.proofs.LeafEntries.{LeftBehind}
use Rattle.mr_pages.specs.PageBytes.{form_of}
use Rattle.mr_pages.proofs.putting.+put_tree.Given as goal

abbrev pub decreases-put_tree : goal.decreases-put_tree
decreases-put_tree g l = level l.tree.now

-- the children so far were put, and the entries of the other children's leaves are left
abbrev pub invariant-loop-child : goal.invariant-loop-child
invariant-loop-child g l = record {
  put : PutSoFar (form_of l.layout) g.H.Hashes.of l.child-items l.child-index l.page l.fn.pages.items l.pages.items
      l.links.items;
  known : LeftBehind (by l.layout.version g.H.Hashes.of) l.child-items l.child-index (left l.fn.leaves)
      (left l.leaves);
}
