-- An insertion keeps the records, and what stands in a node's place has its level.
use Rattle.std.proofs.Common.{◌≡◌, Bool, true, false, ℕ, zero, suc, ◌<◌, List, [], ◌∷◌, ◌++◌, length, map, refl, sym, ap, subst, ◌∙◌, arith}
use Rattle.std.specs.Prelude.{nat_lt, if◌then◌else◌}
use Rattle.std.specs.List.{flat_map, AllByRecursion}
use Rattle.std.specs.List.Sorted.{IsPermutation}
use Rattle.std.proofs.lemmas.List.{append-nil, map-id, length-map}
use Rattle.std.proofs.lemmas.List.Concat.{flat_map-append, flat_map_single}
use Rattle.std.proofs.lemmas.List.Folds.{flat_map-map}
use Rattle.std.proofs.lemmas.List.Sorted.{IsPermutation-refl, IsPermutation-trans, IsPermutation-sym, IsPermutation-append_left, IsPermutation-append_right, IsPermutation-middle, IsPermutation-to_front}
use Rattle.mr_record.specs.declared.record.Record.{Record}
use Rattle.mr_tree.specs.Tree.{records}
use Rattle.mr_tree.specs.declared.tree.Tree.{Tree}
use Rattle.mr_tree.specs.declared.tree.Tree.TheVariants as tree
use Rattle.mr_tree.specs.declared.tree.Tree.TheFolds.{every-Tree}
use Rattle.mr_tree.proofs.Equations.{records-Inner, records-Leaf, records-Empty}
use Rattle.mr_tree.proofs.Induction.{tree_induction, here-Inner, every_child}
use Rattle.mr_split.specs.Choice.{choose}
use Rattle.mr_split.specs.Split.{sides}
use Rattle.mr_grow.specs.Grow.{outline, grown, ins, root_over, in_place, parted, leaves_over, nodes_over}
use Rattle.mr_grow.specs.Views.{HasRoom}
use Rattle.mr_grow.specs.Parts.{first_part, second_part}
use Rattle.mr_split.proofs.Counts.{choose_within}
use Rattle.mr_grow.proofs.Grown.{beside, firsts, grown-Empty, grown-Leaf, grown-Inner}
use Rattle.mr_grow.proofs.Cutting.{parts_mix}

pub records_below : (ts : List Tree) → records (tree.Inner ts) ≡ flat_map records ts
records_below ts = records-Inner ts ∙ flat_map-map (λ list. list) records ts

-- a list that is split or not has the same items
split_mix : {X A : Type 0} (f : X → List A) (b : Bool) (bs : List Bool) (xs : List X) →
    IsPermutation (flat_map f xs) (flat_map (flat_map f) (if b then first_part bs xs ∷ second_part bs xs ∷ [] else xs
    ∷ []))
split_mix f true bs xs =
    subst (λ us. IsPermutation (flat_map f xs) (flat_map f (first_part bs xs) ++ us))
    (sym (append-nil (flat_map f (second_part bs xs)))) (parts_mix f bs xs)
split_mix f false bs xs = subst (IsPermutation (flat_map f xs)) (sym (append-nil (flat_map f xs)))
    (IsPermutation-refl (flat_map f xs))

abbrev alone : Record → List Record
alone r = r ∷ []

leaf_groups : (gs : List (List Record)) → flat_map records (map (λ g. tree.Leaf g) gs) ≡ flat_map (flat_map alone) gs
leaf_groups [] = refl
leaf_groups (g ∷ gs) = λ i. (records-Leaf g ∙ sym (flat_map_single (λ (r : Record). r) g ∙ map-id g)) i ++ leaf_groups
    gs i

node_groups : (gs : List (List Tree)) → flat_map records (map (λ g. tree.Inner g) gs) ≡ flat_map (flat_map records) gs
node_groups [] = refl
node_groups (g ∷ gs) = λ i. records_below g i ++ node_groups gs i

pub leaves_mix : (rs : List Record) → IsPermutation rs (flat_map records (leaves_over rs))
leaves_mix rs =
    let rects = map (λ (r : Record). r.rect) rs in
    subst (λ us. IsPermutation us (flat_map records (leaves_over rs))) (flat_map_single (λ (r : Record). r) rs
    ∙ map-id rs)
    (subst (IsPermutation (flat_map alone rs)) (sym (leaf_groups (parted 6 16 rects rs)))
    (split_mix alone (nat_lt 16 (length rs)) (sides rects 6) rs))

pub nodes_mix : (ts : List Tree) → IsPermutation (flat_map records ts) (flat_map records (nodes_over ts))
nodes_mix ts =
    subst (IsPermutation (flat_map records ts)) (sym (node_groups (parted 24 64 (map outline ts) ts)))
    (split_mix records (nat_lt 64 (length ts)) (sides (map outline ts) 24) ts)

-- one item gives way to others, which list one thing more
place_mix : (one : Record) (f : Tree → List Tree) (n : ℕ) (ts : List Tree) → n < length ts →
    AllByRecursion (λ t. IsPermutation (one ∷ records t) (flat_map records (f t))) ts → IsPermutation
    (one ∷ flat_map records ts) (flat_map records (in_place n (beside f ts)))
place_mix one f n [] within all = absurd (omega (arith, within))
place_mix one f zero (t ∷ ts) within all =
    subst (IsPermutation (one ∷ flat_map records (t ∷ ts)))
    (sym (flat_map-append records (f t) _ ∙ ap (λ us. flat_map records (f t) ++ flat_map records us) (firsts f ts)))
    (IsPermutation-append_left (flat_map records ts) (one ∷ records t) (flat_map records (f t)) all.0)
place_mix one f (suc n) (t ∷ ts) within all =
    IsPermutation-trans (one ∷ (records t ++ flat_map records ts)) (records t ++ one ∷ flat_map records ts)
    (records t ++ flat_map records (in_place n (beside f ts)))
    (IsPermutation-sym (records t ++ one ∷ flat_map records ts) (one ∷ (records t ++ flat_map records ts))
    (IsPermutation-middle (records t) one (flat_map records ts)))
    (IsPermutation-append_right (records t) (one ∷ flat_map records ts) (flat_map records (in_place n (beside f ts)))
    (place_mix one f n ts (omega (arith, within)) all.1))

abbrev Mixes : Record → Tree → Type 0
Mixes one t = every-Tree HasRoom t → IsPermutation (one ∷ records t) (flat_map records (grown one t))

each_mixes : (one : Record) (ts : List Tree) → AllByRecursion (Mixes one) ts → AllByRecursion (every-Tree HasRoom)
    ts →
    AllByRecursion (λ t. IsPermutation (one ∷ records t) (flat_map records (grown one t))) ts
each_mixes one [] below every = tt
each_mixes one (t ∷ ts) below every = (below.0 every.0, each_mixes one ts below.1 every.1)

pub grown_mixes : (one : Record) (t : Tree) → Mixes one t
grown_mixes one = tree_induction (Mixes one)
    (λ every.
    subst (λ us. IsPermutation (one ∷ records tree.Empty) (flat_map records us)) (sym (grown-Empty one))
    (subst (λ us. IsPermutation (one ∷ us) (records (tree.Leaf (one ∷ [])) ++ [])) (sym records-Empty)
    (subst (λ us. IsPermutation (one ∷ []) (us ++ [])) (sym (records-Leaf (one ∷ [])))
    (IsPermutation-refl (one ∷ [])))))
    (λ rs every.
    subst (λ us. IsPermutation (one ∷ records (tree.Leaf rs)) (flat_map records us)) (sym (grown-Leaf one rs))
    (subst (λ us. IsPermutation (one ∷ us) (flat_map records (leaves_over (rs ++ one ∷ [])))) (sym (records-Leaf rs))
    (IsPermutation-trans (one ∷ rs) (rs ++ one ∷ []) (flat_map records (leaves_over (rs ++ one ∷ [])))
    (IsPermutation-sym (rs ++ one ∷ []) (one ∷ rs) (IsPermutation-to_front rs one)) (leaves_mix (rs ++ one ∷ [])))))
    (λ ts below every.
    let at = choose (map outline ts) one.rect in
    let more = in_place at (beside (grown one) ts) in
    subst (λ us. IsPermutation (one ∷ records (tree.Inner ts)) (flat_map records us)) (sym (grown-Inner one ts))
    (subst (λ us. IsPermutation (one ∷ us) (flat_map records (nodes_over more))) (sym (records_below ts))
    (IsPermutation-trans (one ∷ flat_map records ts) (flat_map records more) (flat_map records (nodes_over more))
    (place_mix one (grown one) at ts (within ts one (here-Inner HasRoom ts every).0)
    (each_mixes one ts below (every_child HasRoom ts every)))
    (nodes_mix more))))
  where
    within : (ts : List Tree) (one : Record) → 0 < length ts → choose (map outline ts) one.rect < length ts
    within ts one some = omega (
      arith,
      length-map ts outline,
      choose_within (map outline ts) one.rect
          (omega (arith, length-map ts outline, some)),
    )

root_mix : (ts : List Tree) → IsPermutation (flat_map records ts) (records (root_over ts))
root_mix [] = subst (IsPermutation []) (sym records-Empty) (IsPermutation-refl [])
root_mix (t ∷ []) = subst (λ us. IsPermutation us (records t)) (sym (append-nil (records t)))
    (IsPermutation-refl (records t))
root_mix (t ∷ u ∷ ts) = subst (IsPermutation (flat_map records (t ∷ u ∷ ts))) (sym (records_below (t ∷ u ∷ ts)))
    (IsPermutation-refl (flat_map records (t ∷ u ∷ ts)))

-- an insertion adds the record and keeps the others
pub ins_mixes : (one : Record) (t : Tree) → every-Tree HasRoom t → IsPermutation (one ∷ records t)
    (records (ins one t))
ins_mixes one t every = IsPermutation-trans (one ∷ records t) (flat_map records (grown one t)) (records (ins one t))
    (grown_mixes one t every) (root_mix (grown one t))
