-- What a walk over the nodes of a map knows on its way. Nothing of this has to be believed: no
-- public contract cites it.
use Rattle.std.specs.Prelude.{◌≡◌, ⊤, ℕ, ◌+◌, ◌≤◌, Bool, true, false, List, [], ◌++◌, map, length, Option, Some, None, IsSome}
use Rattle.std.specs.List.{flat_map, sum_by, AllByRecursion}
use Rattle.mr_record.specs.declared.record.Record.{Record}
use Rattle.mr_record.specs.declared.version.Version.{Version}
use Rattle.mr_tree.specs.Tree.{records}
use Rattle.mr_tree.specs.Digest.{Scheme, entry}
use Rattle.mr_tree.specs.WellFormed.{FilledAs}
use Rattle.mr_tree.specs.View as view
use Rattle.mr_tree.specs.Nodes.{MapModel, IsId, ShowsNode, HasSomeCause, subtrees}
use Rattle.mr_tree.specs.declared.child.Child.{Child}
use Rattle.mr_tree.specs.declared.nodes.NodesErr.{NodesErr}
use Rattle.mr_tree.specs.declared.nodes.NodesErr.TheVariants as errors
use Rattle.mr_tree.specs.declared.tree.Tree.{Tree}
use Rattle.mr_pages.specs.Faults.{numbers_of, repeats}
pub use Rattle.mr_pages.specs.Gathering.{SuitsEntry, IsCounted, moved}
unfoldable pub use Rattle.mr_pages.specs.Gathering.{GathersAll}
use Rattle.mr_pages.specs.private.Judging.{fits_entry}
use Rattle.mr_pages.specs.Walking.{Saw}
use Rattle.mr_pages.specs.declared.visited.Visited.{Visited}
use Rattle.mr_pages.proofs.Lists.{Fresh}
pub use Rattle.mr_store.specs.Blamed.{IsFine}

-- ---- one node

-- the tree below the child is as full as it has to be, where it is told
abbrev pub IsFull : MapModel → Bool → Child → Type 0
IsFull s root c = (t : Tree) → s.node c.id ≡ Some t → FilledAs root t

-- what was met, and that no number below the child is among it, where the tree is told
pub record CanWalk (s : MapModel) (root : Bool) (seen : Visited) (c : Child) : Type 0 where
  pub pages : ℕ
  pub ns : List ℕ
  pub saw : Saw pages seen [] ns
  pub full : IsFull s root c
  pub fresh : (t : Tree) → s.node c.id ≡ Some t → Fresh ns (numbers_of (records t))

-- the numbers of these records were met, none of them twice
abbrev pub AddsNumbers : Visited → Visited → List Record → Type 0
AddsNumbers before after rs = (pages : ℕ) (ns : List ℕ) → Saw pages before [] ns →
    Fresh ns (numbers_of rs) × Saw pages after [] (ns ++ numbers_of rs)

-- no number was met
abbrev pub HasSeenNone : Visited → Type 0
HasSeenNone seen = (pages : ℕ) × Saw pages seen [] []

-- ---- how many nodes

-- how many nodes a tree has, where it is told
unfoldable pub nodes_at : Option Tree → ℕ
nodes_at None = 0
nodes_at (Some t) = length (subtrees t)

-- how many there are below some children
abbrev pub nodes_in : MapModel → List Child → ℕ
nodes_in s children = sum_by (λ (d : Child). nodes_at (s.node d.id)) children

-- ---- what was walked over

-- the tree is the one that is said of, and this was made of it
pub record IsMadeOf (x : Scheme) (root : Bool) (c : Child) (t : Tree) (Made : Type 0)
    : Type 0 where
  pub known : view.child_entry c ≡ entry x t
  pub made : Made

-- Below the child stands this tree, told or not, of which each node was fetched once. It has the
-- digest that is said and breaks no rule, and is the one that is said of, where a root has the
-- count that is said.
pub record Walked (x : Scheme) (s : MapModel) (root : Bool) (c : Child) (before after : Visited)
    (fetches fetches' : ℕ) (Made : Tree → Type 0) : Type 0 where
  pub under : Tree
  pub digest : (entry x under).digest ≡ c.digest
  pub fine : IsFine x.version root under
  pub met : AddsNumbers before after (records under)
  pub same : IsSome s.tree → s.node c.id ≡ Some under
  pub once : fetches' ≤ fetches + length (subtrees under)
  pub is : IsCounted root c (entry x under).count → IsMadeOf x root c under (Made under)

-- the same of some children one after another
pub record WalkedAll (x : Scheme) (s : MapModel) (cs : List Child) (before after : Visited)
    (fetches fetches' : ℕ) (Made : List Tree → Type 0) : Type 0 where
  pub below : List Tree
  pub known : map view.child_entry cs ≡ map (entry x) below
  pub fine : AllByRecursion (IsFine x.version false) below
  pub met : AddsNumbers before after (flat_map records below)
  pub same : IsSome s.tree → map (λ (d : Child). s.node d.id) cs ≡ map Some below
  pub once : fetches' ≤ fetches + length (flat_map subtrees below)
  pub made : Made below

-- ---- why it stops

-- Between these counts of faults a fetch was refused; or a page holds what breaks a rule, which
-- counts none, and which it cannot where the tree is told and what is known beforehand holds.
abbrev pub StopsWalk : MapModel → (before after : ℕ) → (known : Type 0) → NodesErr → Type 0
StopsWalk s before after known (errors.Page page) = IsId s page × (after ≡ before)
    × (IsSome s.tree → known → ⊥)
StopsWalk s before after known e = HasSomeCause s before after e

-- the page of the child is blamed for this node, which a fetch of it may show
pub record IsUnfit (hash : List ℕ → List ℕ) (s : MapModel) (root : Bool) (c : Child)
    (node : view.Node) (e : NodesErr) : Type 0 where
  pub page : e ≡ errors.Page c.id
  pub shows : ShowsNode hash s c node
  pub views : view.IsView node
  pub unfit : fits_entry s.version root c node ≡ false

-- a record's number was met before
abbrev pub IsTwice : (page : ℕ) → Visited → List Record → NodesErr → Type 0
IsTwice page before rs (errors.Page p) = (p ≡ page)
    × ((pages : ℕ) (ns : List ℕ) → Saw pages before [] ns → repeats ns (numbers_of rs) ≡ true)
IsTwice page before rs errors.NoMemory = ⊤
IsTwice page before rs e = ⊥
