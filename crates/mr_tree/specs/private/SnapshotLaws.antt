-- Proof that the ids of a snapshot are those of the nodes of its tree, each of which has one.
use Rattle.std.specs.Prelude.{◌≡◌, ℕ, zero, suc, ◌<◌, List, [], ◌∷◌, length, None, IsSome, slice_get, refl}
use Rattle.std.proofs.Common.{arith}
use Rattle.mr_tree.specs.Nodes.{HasIds, subtrees}
use Rattle.mr_record.specs.declared.version.Version.{Version}
use Rattle.mr_tree.specs.Snapshot.{with_id, tree_model, snapshot_model, tree_of}
use Rattle.mr_tree.specs.declared.nodes.Top.{Top}
use Rattle.mr_tree.specs.declared.stored.Stored.{Stored}
use Rattle.mr_tree.specs.declared.tree.Tree.{Tree}

place_within : (ts : List Tree) (i : ℕ) → IsSome (slice_get ts i) → i < length ts
place_within [] i some = let none : IsSome {T = Tree} None = some in cc
place_within (t ∷ ts) zero some = omega arith
place_within (t ∷ ts) (suc i) some = let rest = place_within ts i some in omega (arith, rest)

tree_has_ids : (v : Version) (batch : ℕ) (t : Tree) → HasIds (tree_model v batch t) t
tree_has_ids v batch t = record {
  id = λ k. suc k;
  within = λ k h. (omega arith, omega (arith, h));
  shows = λ k h. refl;
  apart = λ j k h l e. omega (arith, e);
  others = others;
}
  where
    others : (i : ℕ) → IsSome (with_id (subtrees t) i) →
        (k : ℕ) × (k < length (subtrees t)) × (suc k ≡ i)
    others zero some = let none : IsSome {T = Tree} None = some in cc
    others (suc i) some = (i, place_within (subtrees t) i some, refl)

pub has_ids : (ns : List Stored) (top : Top) → HasIds (snapshot_model ns top) (tree_of ns top)
has_ids ns top = tree_has_ids top.version top.batch (tree_of ns top)
