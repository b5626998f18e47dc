-- How many pages the steps of a change read between two counts of reads, where the pages are told:
-- each node once or twice, by the pages of the trees that entries stand for.
use Rattle.std.specs.Prelude.{◌≡◌, ℕ, ◌+◌, ◌*◌, ◌≤◌, max, Bool, true, false, List, ◌∷◌, ◌++◌, length, map, sum, Option, Some, None}
use Rattle.mr_geom.specs.Rectangle.{Rectangle}
use Rattle.mr_tree.specs.Digest.{Scheme}
use Rattle.mr_tree.specs.Tree.{records, nodes}
use Rattle.mr_tree.specs.declared.child.Child.{Child}
use Rattle.mr_tree.specs.declared.tree.Tree.{Tree}
use Rattle.mr_pages.specs.Stands.{Placed, tree_of, pages_of, IsChain}
use Rattle.mr_grow.specs.Shrink.{Rest, stays, shrunk}
use Rattle.mr_batch.specs.declared.change.Change.{Change}
use Rattle.mr_batch.specs.Changes.{Changes}
use Rattle.mr_batch.specs.Applied.{may_make, IsAdmissible}
use Rattle.mr_batch.specs.Directory.{DirectoryEntries}
use Rattle.mr_edit.specs.PageMap.{PageMap, HasFree, OwnsEachOnce}
use Rattle.mr_edit.specs.Drafted.{Drafted}
use Rattle.mr_edit.specs.Held.{NamesTree, NameTrees, pages}
use Rattle.mr_edit.specs.Reads.{insertion_reads, change_reads, look_reads, reads_along}
use Rattle.mr_edit.specs.private.Removal.{HaveRect, IsOnce}
use Rattle.mr_edit.specs.Replayed.{OnPages}
use Rattle.mr_edit.specs.declared.removal.Removal.{Removal}

-- ---- below entries

-- each node below an entry is read once at most
abbrev pub ReadsNodesOnce : Scheme → (told : Option PageMap) → Child → (before after : ℕ) → Type 0
ReadsNodesOnce scheme told c before after =
    (a : PageMap) (P : Placed) → told ≡ Some a → NamesTree scheme a c P →
    after ≤ before + length (pages_of P)

-- the same below some entries whose pages are freed
abbrev pub FreesOnce : Scheme → (told : Option PageMap) → (free : ℕ) → List Child →
    (before after : ℕ) → Type 0
FreesOnce scheme told free cs before after =
    (a : PageMap) (chain : List ℕ) (Ps : List Placed) (others : List ℕ) → told ≡ Some a →
    NameTrees scheme a cs Ps → IsChain (HasFree a) free chain →
    OwnsEachOnce a.size (pages Ps ++ (chain ++ others)) → after ≤ before + length (pages Ps)

-- the same beside a page, which is written or freed too
abbrev pub LeavesOnce : Scheme → (told : Option PageMap) → (free page : ℕ) → List Child →
    (before after : ℕ) → Type 0
LeavesOnce scheme told free page cs before after =
    (a : PageMap) (chain : List ℕ) (Ps : List Placed) (others : List ℕ) → told ≡ Some a →
    NameTrees scheme a cs Ps → IsChain (HasFree a) free chain →
    OwnsEachOnce a.size (page ∷ (pages Ps ++ (chain ++ others))) → after ≤ before + length
    (pages Ps)

-- each node below an entry is read twice at most, where a record is taken out whose number stands
-- once and has this rectangle: in the search, and where it is freed
abbrev pub ReadsTwice : Scheme → (told : Option PageMap) → (free : ℕ) → Child → ℕ → Rectangle →
    (before after : ℕ) → Type 0
ReadsTwice scheme told free c n rect before after =
    (a : PageMap) (chain : List ℕ) (P : Placed) (others : List ℕ) → told ≡ Some a →
    NamesTree scheme a c P → IsChain (HasFree a) free chain →
    OwnsEachOnce a.size (pages_of P ++ (chain ++ others)) → HaveRect n rect (records (tree_of P)) →
    IsOnce n (records (tree_of P)) → after ≤ before + 2 * length (pages_of P)

-- the nodes that stay in the place of a subtree below the root
abbrev pub nodes_left : (root : Bool) → Rest → ℕ
nodes_left true r = 0
nodes_left false r = sum (map nodes (stays r))

-- the same; and where the subtree is not the whole tree, the nodes that stay are read only once;
-- and all only once, where the record was not there
abbrev pub TakesTwice : Scheme → (root : Bool) → (told : Option PageMap) → (free : ℕ) → Child → ℕ →
    Rectangle → (before after : ℕ) → Option Removal → Type 0
TakesTwice scheme root told free c n rect before after None = ReadsNodesOnce scheme told c
    before after
TakesTwice scheme root told free c n rect before after (Some l) =
    (a : PageMap) (chain : List ℕ) (P : Placed) (others : List ℕ) → told ≡ Some a →
    NamesTree scheme a c P → IsChain (HasFree a) free chain →
    OwnsEachOnce a.size (pages_of P ++ (chain ++ others)) → HaveRect n rect (records (tree_of P)) →
    IsOnce n (records (tree_of P)) →
    after + nodes_left root (shrunk n (tree_of P)) ≤ before + 2 * length (pages_of P)

-- ---- of a whole draft

-- what a look at all nodes still takes, unless there was one
abbrev pub still_due : (learned : Bool) → ℕ → ℕ
still_due true later = 0
still_due false later = later

-- each node is read once at most, and none where all were looked at before
abbrev pub LearnsOnce : Scheme → (told : Option PageMap) → (free : ℕ) → Option Child →
    (learned learned' : Bool) → (before after : ℕ) → Type 0
LearnsOnce scheme told free root learned learned' before after =
    (t : Tree) (later : ℕ) → Drafted scheme told free root t →
    after + still_due learned' later ≤ before + still_due learned (max (nodes t) later)

-- a record is deleted whose number stands once and has this rectangle
abbrev pub DeletesTwice : Scheme → (told : Option PageMap) → (free : ℕ) → Option Child → ℕ →
    Rectangle → (before after : ℕ) → Type 0
DeletesTwice scheme told free root n rect before after =
    (t : Tree) → Drafted scheme told free root t → HaveRect n rect (records t) →
    IsOnce n (records t) →
    after ≤ before + (2 * nodes t + length (shrunk n t).aside * insertion_reads)

-- a change is made, if it may be: what it reads, and what a look at all nodes then takes later
abbrev pub ChangesWithin : Scheme → (told : Option PageMap) → (free : ℕ) → Option Child →
    DirectoryEntries →
    Change → (learned learned' : Bool) → (before after : ℕ) → Type 0
ChangesWithin scheme told free root dir c learned learned' before after =
    (t : Tree) (least size so_far later : ℕ) →
    OnPages scheme told free root dir t least size so_far → may_make (records t) c ≡ true →
    after + still_due learned' later
    ≤ before + change_reads t c + still_due learned (look_reads t c later)

-- the changes of a batch that may be applied
abbrev pub ReplaysWithin : Scheme → (told : Option PageMap) → (free : ℕ) → Option Child →
    DirectoryEntries →
    Changes → (before after : ℕ) → Type 0
ReplaysWithin scheme told free root dir b before after =
    (t : Tree) (held least size so_far : ℕ) →
    OnPages scheme told free root dir t least size so_far → IsAdmissible (records t) held b →
    after ≤ before + reads_along t b.list
