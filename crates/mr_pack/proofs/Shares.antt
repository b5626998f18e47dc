-- Leaves over groups of places in the list of records.
use Rattle.std.proofs.Common.{◌≡◌, ℕ, suc, zero, ◌+◌, ◌<◌, ◌≤◌, cond, List, [], ◌∷◌, ◌++◌, length, get_or, map, take, refl, sym, ap, subst, ◌∙◌, arith, add-one}
use Rattle.std.specs.Prelude.{◌==◌, Some}
use Rattle.std.specs.Global.{Vec}
use Rattle.std.specs.List.{flat_map, range_with_len, sum_by}
use Rattle.std.specs.List.Sorted.{IsPermutation}
use Rattle.std.proofs.lemmas.List.{length-map, map_push, take_more, nil_from_length}
use Rattle.std.proofs.lemmas.List.Folds.{flat_map-map}
use Rattle.std.proofs.lemmas.List.FromFn.{length-range_with_len}
use Rattle.std.proofs.lemmas.List.Sorted.{sum_by-IsPermutation}
use Rattle.std.proofs.lemmas.List.Sums.{sum_by-cons, sum_by-append, sum_by_more, sum_by_more_le}
use Rattle.mr_record.specs.declared.record.Record.{Record}
use Rattle.mr_tree.specs.Limits.{leaf_limit}
use Rattle.mr_tree.specs.declared.tree.Tree.{Tree}
use Rattle.mr_tree.specs.declared.tree.Tree.TheVariants as tree
use Rattle.mr_pack.specs.Cuts.{group_count}
use Rattle.mr_pack.specs.Entries.{placed_item, grouped, arranged}
use Rattle.mr_pack.specs.Pack.{placed_record, leaves_of}
use Rattle.mr_pack.specs.Repeats.{occurrences}
use Rattle.mr_pack.specs.private.Remains.{picked}
use Rattle.mr_pack.specs.private.Views.{with_item}
use Rattle.mr_pack.specs.declared.placed.Placed.{Placed}
use Rattle.mr_pack.proofs.Groups.{items, items_mixed, groups_together}
use Rattle.mr_pack.proofs.Levels.{over_groups}
use Rattle.mr_pack.proofs.Natural.{grouped_map}
use Rattle.mr_pack.proofs.Numbers.{groups_within, some_groups}
use Rattle.mr_pack.proofs.Roots.{length_of_groups, leaves_are}

-- ---- entries

range_more : (a n : ℕ) → range_with_len a (suc n) ≡ range_with_len a n ++ (a + n) ∷ []
range_more a zero = let e : a ≡ a + 0 = omega arith in ap (λ k. k ∷ []) e
range_more a (suc n) =
    let e : (a + 1) + n ≡ a + suc n = omega arith in
    ap (λ ks. a ∷ ks) (range_more (a + 1) n ∙ ap (λ k. range_with_len (a + 1) n ++ k ∷ []) e)

pub one_more_number : (i number : ℕ) (entries now : List (Placed ℕ)) (one : Placed ℕ) (r : Record) →
    now ≡ entries ++ one ∷ [] → one ≡ placed_item (Some r.rect) r.number number → number ≡ length entries →
    items entries ≡ range_with_len 0 i → items now ≡ range_with_len 0 (i + 1)
one_more_number i number entries now one r is here at so_far =
    let e : number ≡ 0 + i = omega
    (arith, at, length-map entries (λ (x : Placed ℕ). x.item), ap length so_far, length-range_with_len 0 i) in
    ap items is ∙ map_push (λ (x : Placed ℕ). x.item) entries one
    ∙ (λ k. so_far k ++ (ap (λ (x : Placed ℕ). x.item) here ∙ e) k ∷ [])
    ∙ sym (range_more 0 i) ∙ ap (range_with_len 0) (sym (add-one i))

pub one_more_record : (records : List Record) (d : Record) (i number : ℕ) (entries now : List (Placed ℕ))
    (one : Placed ℕ) (r : Record) → i < length records → r ≡ get_or records i d →
    now ≡ entries ++ one ∷ [] → one ≡ placed_item (Some r.rect) r.number number → number ≡ length entries →
    items entries ≡ range_with_len 0 i →
    map (with_item (λ n. get_or records n d)) entries ≡ map placed_record (take i records) →
    map (with_item (λ n. get_or records n d)) now ≡ map placed_record (take (i + 1) records)
one_more_record records d i number entries now one r low read is here at numbers so_far =
    let f : ℕ → Record = λ n. get_or records n d in
    let e : number ≡ i = omega
    (arith, at, length-map entries (λ (x : Placed ℕ). x.item), ap length numbers, length-range_with_len 0 i) in
    ap (map (with_item f)) is ∙ map_push (with_item f) entries one
    ∙ (λ k. so_far k ++ ap (with_item f) here k ∷ [])
    ∙ ap (λ s. map placed_record (take i records) ++ placed_item (Some r.rect) r.number s ∷ [])
    (ap f e ∙ sym read)
    ∙ ap (λ s. map placed_record (take i records) ++ placed_record s ∷ []) read
    ∙ sym (map_push placed_record (take i records) (get_or records i d))
    ∙ ap (map placed_record) (sym (take_more records i d low))

pub length_of_numbered : (n : ℕ) (entries : List (Placed ℕ)) → items entries ≡ range_with_len 0 n → length entries ≡ n
length_of_numbered n entries numbers = omega
    (arith, length-map entries (λ (x : Placed ℕ). x.item), ap length numbers, length-range_with_len 0 n)

-- ---- groups

abbrev flat : List (Vec ℕ) → List ℕ
flat gs = flat_map (λ (g : Vec ℕ). g.items) gs

-- how often a number occurs in groups
flat_sum : (n : ℕ) (gs : List (Vec ℕ)) → occurrences n (flat gs) ≡ sum_by (λ (g : Vec ℕ). occurrences n g.items) gs
flat_sum n [] = refl
flat_sum n (g ∷ gs) =
    sum_by-append (λ m. cond (m == n) 1 0) g.items (flat gs)
    ∙ ap (λ k. occurrences n g.items + k) (flat_sum n gs)
    ∙ sym (sum_by-cons (λ (h : Vec ℕ). occurrences n h.items) g gs)

pub group_there : (n i : ℕ) (gs : List (Vec ℕ)) (g : Vec ℕ) (now all : List ℕ) → i < length gs → g ≡ get_or gs i g →
    IsPermutation all (flat gs) → occurrences n (flat (take i gs)) + occurrences n now ≡ occurrences n all →
    occurrences n g.items ≤ occurrences n now
group_there n i gs g now all low is mixed so_far =
    let each : Vec ℕ → ℕ = λ h. occurrences n h.items in
    omega (
      arith,
      so_far,
      sum_by-IsPermutation (λ m. cond (m == n) 1 0) all (flat gs) mixed,
      flat_sum n gs,
      flat_sum n (take i gs),
      sum_by_more_le each gs i g low,
      ap each is,
    )

pub group_gone : (n i : ℕ) (gs : List (Vec ℕ)) (g : Vec ℕ) (now then all : List ℕ) → i < length gs →
    g ≡ get_or gs i g → occurrences n (flat (take i gs)) + occurrences n now ≡ occurrences n all →
    occurrences n g.items + occurrences n then ≡ occurrences n now →
    occurrences n (flat (take (i + 1) gs)) + occurrences n then ≡ occurrences n all
group_gone n i gs g now then all low is so_far taken =
    let each : Vec ℕ → ℕ = λ h. occurrences n h.items in
    omega (
      arith,
      so_far,
      taken,
      flat_sum n (take (i + 1) gs),
      flat_sum n (take i gs),
      sum_by_more each gs i g low,
      ap each is,
    )

pub one_more_leaf : {S : Type 0} (f : S → Tree) (over : Vec ℕ → Tree) (i : ℕ) (nodes now : List S) (one : S)
    (gs : List (Vec ℕ)) (g : Vec ℕ) → i < length gs → g ≡ get_or gs i g →
    map f nodes ≡ map over (take i gs) → now ≡ nodes ++ one ∷ [] → f one ≡ over g →
    map f now ≡ map over (take (i + 1) gs)
one_more_leaf f over i nodes now one gs g low read so_far is here =
    ap (map f) is ∙ map_push f nodes one ∙ (λ k. so_far k ++ (here ∙ ap over read) k ∷ [])
    ∙ sym (map_push over (take i gs) (get_or gs i g)) ∙ ap (map over) (sym (take_more gs i g low))

-- groups of all numbers have each once
pub groups_mixed : (n : ℕ) (entries : List (Placed ℕ)) (gs : List (Vec ℕ)) → items entries ≡ range_with_len 0 n →
    map (λ (g : Vec ℕ). g.items) gs ≡ grouped leaf_limit entries → IsPermutation (range_with_len 0 n) (flat gs)
groups_mixed n entries gs numbers groups =
    let p = group_count (length entries) 16 in
    let some : 0 < length entries → 0 < p = some_groups (length entries) 16 (omega arith) in
    let whole : flat gs ≡ items (arranged p entries) =
    sym (flat_map-map (λ (ks : List ℕ). ks) (λ (g : Vec ℕ). g.items) gs)
    ∙ ap (flat_map (λ (ks : List ℕ). ks)) groups ∙ groups_together p entries some in
    subst (λ ks. IsPermutation ks (flat gs)) numbers
    (subst (IsPermutation (items entries)) (sym whole) (items_mixed p entries some))

-- leaves over groups of places are the leaves over the records
pub leaves_of_places : (records : List Record) (entries : List (Placed ℕ)) (gs : List (Vec ℕ)) (ts : List Tree) →
    length entries ≡ length records →
    map (λ (g : Vec ℕ). g.items) gs ≡ grouped leaf_limit entries →
    ((d : Record) → map (with_item (λ n. get_or records n d)) entries ≡ map placed_record records) →
    length ts ≡ length gs →
    ((d : Record) → ts ≡ map (λ (g : Vec ℕ). tree.Leaf (picked records d g.items)) gs) →
    ts ≡ leaves_of records
unfolding leaves_of
leaves_of_places [] entries gs ts many groups placed count leaves =
    let none : length ts ≡ 0 = omega (
      arith,
      count,
      length-map gs (λ (g : Vec ℕ). g.items),
      ap length groups,
      length_of_groups (group_count (length entries) 16) entries,
      ap (λ n. group_count n 16) many,
      groups_within 0 16,
    ) in
    let none_of : length (leaves_of []) ≡ 0 = omega (arith, leaves_are [], groups_within 0 16) in
    nil_from_length ts none ∙ sym (nil_from_length (leaves_of []) none_of)
leaves_of_places (r ∷ rs) entries gs ts many groups placed count leaves =
    let f : ℕ → Record = λ n. get_or (r ∷ rs) n r in
    leaves r
    ∙ over_groups (λ us. tree.Leaf us) f (λ (g : Vec ℕ). g.items) gs
    ∙ ap (map (λ us. tree.Leaf us))
    (ap (map (map f)) groups ∙ sym (grouped_map f leaf_limit entries) ∙ ap (grouped leaf_limit) (placed r))
