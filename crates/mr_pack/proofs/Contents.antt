-- The tree that bulk load makes has the records that it was made of, and is well formed where their numbers differ.
use Rattle.std.proofs.Common.{◌≡◌, ℕ, suc, zero, ◌^◌, ◌<◌, ◌≤◌, List, [], ◌∷◌, ◌++◌, length, map, refl, sym, ap, subst, ◌∙◌, arith}
use Rattle.std.specs.Prelude.{All, AllPairs, None}
use Rattle.std.specs.List.{flat_map}
use Rattle.std.specs.List.Sorted.{IsPermutation}
use Rattle.std.proofs.lemmas.List.{append-nil}
use Rattle.std.proofs.lemmas.List.Concat.{flat_map-append}
use Rattle.std.proofs.lemmas.List.Folds.{flat_map-map}
use Rattle.std.proofs.lemmas.List.Sorted.{IsPermutation-refl, IsPermutation-trans, IsPermutation-sym, IsPermutation-map, All-permutation, length_permutation}
use Rattle.mr_record.specs.declared.record.Record.{Record}
use Rattle.mr_record.specs.Record.{IsRecord}
use Rattle.mr_tree.specs.Tree.{records}
use Rattle.mr_tree.specs.WellFormed.{WellFormed}
use Rattle.mr_tree.specs.declared.tree.Tree.{Tree}
use Rattle.mr_tree.specs.declared.tree.Tree.TheVariants as tree
use Rattle.mr_tree.proofs.Equations.{records-Inner, records-Leaf, records-Empty}
use Rattle.mr_pack.specs.Cuts.{group_count}
use Rattle.mr_pack.specs.Entries.{in_groups, arranged}
use Rattle.mr_pack.specs.Pack.{placed_record, placed_nodes, leaves_of, level_above, root_above, pack}
use Rattle.mr_pack.specs.Twice.{numbers_of}
use Rattle.mr_pack.specs.declared.placed.Placed.{Placed}
use Rattle.mr_pack.proofs.Apart.{Apart, each_once, numbers_differ}
use Rattle.mr_pack.proofs.Groups.{arranged_mixes, items, items_mixed, groups_together}
use Rattle.mr_pack.proofs.Numbers.{some_groups}
use Rattle.mr_pack.proofs.Repeats.{tells_of_mixed}
use Rattle.mr_pack.proofs.Roots.{root_of_none, root_of_one, root_of_more, fewer_above}
use Rattle.mr_pack.proofs.Standing.{items_of_nodes, tree_stands}

records_of_leaves : (gs : List (List Record)) → flat_map records (map (λ rs. tree.Leaf rs) gs) ≡ flat_map (λ g. g) gs
records_of_leaves [] = refl
records_of_leaves (g ∷ gs) = λ i. records-Leaf g i ++ records_of_leaves gs i

records_of_inner : (gs : List (List Tree)) →
    flat_map records (map (λ ts. tree.Inner ts) gs) ≡ flat_map records (flat_map (λ g. g) gs)
records_of_inner [] = refl
records_of_inner (g ∷ gs) =
    (λ i. (records-Inner g ∙ flat_map-map (λ list. list) records g) i ++ records_of_inner gs i)
    ∙ sym (flat_map-append records g (flat_map (λ h. h) gs))

items_of_records : (rs : List Record) → items (map placed_record rs) ≡ rs
items_of_records [] = refl
items_of_records (r ∷ rs) = ap (λ us. r ∷ us) (items_of_records rs)

leaves_mix : (rs : List Record) → IsPermutation rs (flat_map records (leaves_of rs))
unfolding leaves_of
leaves_mix rs =
    let es = map placed_record rs in
    let p = group_count (length es) 16 in
    let some : 0 < length es → 0 < p = some_groups (length es) 16 (omega arith) in
    subst (IsPermutation rs) (sym (records_of_leaves (in_groups p es) ∙ groups_together p es some))
    (subst (λ us. IsPermutation us (items (arranged p es))) (items_of_records rs) (items_mixed p es some))

above_mix : (ts : List Tree) → IsPermutation (flat_map records ts) (flat_map records (level_above ts))
unfolding level_above
above_mix ts =
    let es = placed_nodes 0 ts in
    let p = group_count (length es) 64 in
    let some : 0 < length es → 0 < p = some_groups (length es) 64 (omega arith) in
    let of_entry : Placed Tree → List Record = λ e. records e.item in
    let before : flat_map of_entry es ≡ flat_map records ts =
    sym (flat_map-map records (λ (e : Placed Tree). e.item) es)
    ∙ ap (flat_map records) (items_of_nodes 0 ts) in
    let after : flat_map records (map (λ us. tree.Inner us) (in_groups p es)) ≡ flat_map of_entry (arranged p es) =
    records_of_inner (in_groups p es) ∙ ap (flat_map records) (groups_together p es some)
    ∙ flat_map-map records (λ (e : Placed Tree). e.item) (arranged p es) in
    subst (IsPermutation (flat_map records ts)) (sym after)
    (subst (λ us. IsPermutation us (flat_map of_entry (arranged p es))) before (arranged_mixes of_entry p es some))

root_mix : (m : ℕ) (ts : List Tree) → length ts ≤ m → IsPermutation (flat_map records ts) (records (root_above m ts))
root_mix m [] enough =
    subst (IsPermutation []) (sym (ap records (root_of_none m) ∙ records-Empty)) (IsPermutation-refl [])
root_mix m (t ∷ []) enough =
    subst (λ us. IsPermutation us (records (root_above m (t ∷ [])))) (sym (append-nil (records t)))
    (subst (IsPermutation (records t)) (sym (ap records (root_of_one m t))) (IsPermutation-refl (records t)))
root_mix zero (t ∷ u ∷ ts) enough = absurd (omega (arith, enough))
root_mix (suc m) (t ∷ u ∷ ts) enough =
    let us = t ∷ u ∷ ts in
    subst (IsPermutation (flat_map records us)) (sym (ap records (root_of_more m t u ts)))
    (IsPermutation-trans (flat_map records us) (flat_map records (level_above us))
    (records (root_above m (level_above us))) (above_mix us)
    (root_mix m (level_above us) (omega (arith, fewer_above us (omega arith), enough))))

pub tree_mixes : (rs : List Record) → IsPermutation rs (records (pack rs))
unfolding pack
tree_mixes rs =
    IsPermutation-trans rs (flat_map records (leaves_of rs))
    (records (root_above (length (leaves_of rs)) (leaves_of rs))) (leaves_mix rs)
    (root_mix (length (leaves_of rs)) (leaves_of rs) (omega arith))

pub tree_well_formed : (rs : List Record) → length rs ≤ 2 ^ 20 → All IsRecord rs →
    AllPairs Apart rs → WellFormed (pack rs)
tree_well_formed rs small each apart =
    let root = tree_stands rs small in
    let mixed = tree_mixes rs in
    let numbers = IsPermutation-map (λ (r : Record). r.number) rs (records (pack rs)) mixed in
    record {
      one_level = root.one_level;
      shallow = root.shallow;
      filled = root.filled;
      distinct = numbers_differ (records (pack rs))
          (tells_of_mixed None (numbers_of (records (pack rs))) (numbers_of rs)
          (IsPermutation-sym (numbers_of rs) (numbers_of (records (pack rs))) numbers) (each_once rs apart));
      each = All-permutation IsRecord rs (records (pack rs)) mixed each;
      few = omega (arith, length_permutation rs (records (pack rs)) mixed, small);
    }
