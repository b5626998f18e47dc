-- The leaves of a tree and what is said of them, at each kind of node.
use Rattle.std.proofs.Common.{◌≡◌, List, [], ◌∷◌, ◌++◌, map, refl, ap, ◌∙◌}
use Rattle.std.specs.List.{flat_map}
use Rattle.std.proofs.lemmas.List.{map-append}
use Rattle.std.proofs.lemmas.List.Folds.{flat_map-map}
use Rattle.mr_record.specs.declared.record.Record.{Record}
use Rattle.mr_tree.specs.Digest.{Scheme}
use Rattle.mr_tree.specs.Leaves.{leaves_step, leaves, leaf_entry, leaf_entries}
use Rattle.mr_tree.specs.declared.tree.Tree.{Tree}
use Rattle.mr_tree.specs.declared.tree.Tree.TheVariants as tree
use Rattle.mr_tree.proofs.Folds.{fold-Empty, fold-Leaf, fold-Inner}

pub leaves-Empty : leaves tree.Empty ≡ []
leaves-Empty = fold-Empty (List (List Record)) leaves_step

pub leaves-Leaf : (rs : List Record) → leaves (tree.Leaf rs) ≡ rs ∷ []
leaves-Leaf = fold-Leaf (List (List Record)) leaves_step

pub leaves-Inner : (ts : List Tree) → leaves (tree.Inner ts) ≡ flat_map leaves ts
leaves-Inner ts =
    fold-Inner (List (List Record)) leaves_step ts ∙ flat_map-map (λ list. list) leaves ts

each_of : (s : Scheme) (ts : List Tree) → map (leaf_entry s) (flat_map leaves ts) ≡ flat_map (leaf_entries s) ts
each_of s [] = refl
each_of s (t ∷ ts) =
    map-append (leaf_entry s) (leaves t) (flat_map leaves ts) ∙ ap (λ xs. leaf_entries s t ++ xs) (each_of s ts)

pub leaf_entries-Leaf : (s : Scheme) (rs : List Record) → leaf_entries s (tree.Leaf rs) ≡ leaf_entry s rs ∷ []
leaf_entries-Leaf s rs = ap (map (leaf_entry s)) (leaves-Leaf rs)

pub leaf_entries-Inner : (s : Scheme) (ts : List Tree) →
    leaf_entries s (tree.Inner ts) ≡ flat_map (leaf_entries s) ts
leaf_entries-Inner s ts = ap (map (leaf_entry s)) (leaves-Inner ts) ∙ each_of s ts
