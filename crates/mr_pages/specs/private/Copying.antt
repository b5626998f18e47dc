-- What a copy of a map into memory knows on its way. Nothing of this has to be believed: no public
-- contract cites it.
use Rattle.std.specs.Prelude.{◌≡◌, ℕ, ◌+◌, List, [], ◌∷◌, ◌++◌, map, length, All}
use Rattle.std.specs.List.{flat_map}
use Rattle.mr_tree.specs.Digest.{Scheme}
use Rattle.mr_tree.specs.Nodes.{subtrees}
use Rattle.mr_tree.specs.Snapshot.{tree_at, trees, IsLinked, AreLinked}
use Rattle.mr_tree.specs.declared.child.Child.{Child}
use Rattle.mr_tree.specs.declared.stored.Stored.{Stored}
use Rattle.mr_tree.specs.declared.tree.Tree.{Tree}

-- the trees under these children
abbrev pub trees_in : List Tree → List Child → List Tree
trees_in ts cs = map (λ (c : Child). tree_at ts c.id) cs

-- the node was put behind the others, and has this id
pub record IsPut (old new : List Stored) (n : Stored) (id : ℕ) : Type 0 where
  pub list : new ≡ old ++ n ∷ []
  pub last : id ≡ length old + 1

-- the nodes of these trees were put behind the others, one tree after another, and these are the
-- entries of the uppermost ones
pub record ArePlaced (x : Scheme) (old new : List Stored) (cs : List Child) (us : List Tree)
    : Type 0 where
  pub linked : AreLinked x new
  pub grown : trees new ≡ trees old ++ flat_map subtrees us
  pub links : All (IsLinked x (trees new)) cs
  pub are : us ≡ trees_in (trees new) cs
