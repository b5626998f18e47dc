-- What groups have together, and how many entries each has.
use Rattle.std.proofs.Common.{Bool, ◌≡◌, ℕ, ◌+◌, ◌-◌, ◌*◌, ◌<◌, ◌≤◌, List, [], ◌∷◌, ◌++◌, length, map, drop, sym, subst, ◌∙◌, arith}
use Rattle.std.specs.Prelude.{All, slice_range}
use Rattle.std.specs.List.{flat_map}
use Rattle.std.specs.List.Sorted.{IsPermutation}
use Rattle.std.proofs.lemmas.List.{length-map, take_all}
use Rattle.std.proofs.lemmas.List.Concat.{flat_map-append, flat_map_single}
use Rattle.std.proofs.lemmas.List.Elements.{All-take, All-drop}
use Rattle.std.proofs.lemmas.List.Sorted.{IsPermutation-refl, IsPermutation-trans, IsPermutation-append, All-permutation, length_permutation}
use Rattle.mr_pack.specs.Cuts.{parts, slice_count, group_start, slice_start}
use Rattle.mr_pack.specs.Entries.{is_left, is_below, arranged, in_groups}
use Rattle.mr_record.specs.Sorting.{sorted_by}
use Rattle.mr_pack.specs.declared.placed.Placed.{Placed}
use Rattle.mr_pack.proofs.Cuts.{Climbs, parts_together, all_parts, length_of_range, length_of_sorted}
use Rattle.mr_pack.proofs.Numbers.{slice_first, slice_rises, slice_reaches, slices_within, some_slices, start_first, start_rises, start_reaches, start_within, start_grows, start_bounded}
use Rattle.mr_record.proofs.Sorting.{sorted_mixes}

slices_climb : (n p : ℕ) → Climbs (slice_start n p (slice_count p)) (slice_count p)
slices_climb n p = record {
  first = slice_first n p (slice_count p);
  rises = λ i h. slice_rises n p (slice_count p) i (omega (arith, slices_within p)) (omega arith);
}

sorted_lists_mix : {A B : Type 0} (before : A → A → Bool) (f : A → List B) (xss : List (List A)) →
    IsPermutation (flat_map f (flat_map (λ xs. xs) xss)) (flat_map f (flat_map (sorted_by before) xss))
sorted_lists_mix before f [] = IsPermutation-refl []
sorted_lists_mix before f (xs ∷ xss) =
    subst (λ us. IsPermutation us (flat_map f (sorted_by before xs ++ flat_map (sorted_by before) xss)))
    (sym (flat_map-append f xs (flat_map (λ ys. ys) xss)))
    (subst (IsPermutation (flat_map f xs ++ flat_map f (flat_map (λ ys. ys) xss)))
    (sym (flat_map-append f (sorted_by before xs) (flat_map (sorted_by before) xss)))
    (IsPermutation-append (flat_map f xs) (flat_map f (sorted_by before xs)) (flat_map f (flat_map (λ ys. ys) xss))
    (flat_map f (flat_map (sorted_by before) xss))
    (sorted_mixes before f xs) (sorted_lists_mix before f xss)))

-- entries in slices are the entries
pub arranged_mixes : {T B : Type 0} (f : Placed T → List B) (p : ℕ) (entries : List (Placed T)) →
    (0 < length entries → 0 < p) →
    IsPermutation (flat_map f entries) (flat_map f (arranged p entries))
unfolding arranged
arranged_mixes f p entries some =
    let start = slice_start (length entries) p (slice_count p) in
    let xs = sorted_by is_left entries in
    let whole : flat_map (λ part. part) (parts start (slice_count p) xs) ≡ xs =
    parts_together start (slice_count p) xs (slices_climb (length entries) p)
    ∙ take_all (start (slice_count p)) xs
    (omega (
      arith,
      length_of_sorted is_left entries,
      slice_reaches (length entries) p (slice_count p) some
          (some_slices p),
    )) in
    IsPermutation-trans (flat_map f entries) (flat_map f xs) _ (sorted_mixes is_left f entries)
    (subst (λ us. IsPermutation (flat_map f us)
    (flat_map f (flat_map (sorted_by is_below) (parts start (slice_count p) xs)))) whole
    (sorted_lists_mix is_below f (parts start (slice_count p) xs)))

-- the items of entries
abbrev pub items : {T : Type 0} → List (Placed T) → List T
items {T} entries = map (λ (e : Placed T). e.item) entries

pub items_mixed : {T : Type 0} (p : ℕ) (entries : List (Placed T)) → (0 < length entries → 0 < p) →
    IsPermutation (items entries) (items (arranged p entries))
items_mixed {T} p entries some =
    subst (λ us. IsPermutation us (items (arranged p entries))) (flat_map_single (λ (e : Placed T). e.item) entries)
    (subst (IsPermutation (flat_map (λ (e : Placed T). e.item ∷ []) entries))
    (flat_map_single (λ (e : Placed T). e.item) (arranged p entries))
    (arranged_mixes (λ (e : Placed T). e.item ∷ []) p entries some))

length_of_items : {T : Type 0} (p : ℕ) (entries : List (Placed T)) → (0 < length entries → 0 < p) →
    length (items (arranged p entries)) ≡ length entries
length_of_items {T} p entries some =
    length_permutation (items entries) (items (arranged p entries)) (items_mixed p entries some)
    ∙ length-map entries (λ (e : Placed T). e.item)

groups_climb : (n p : ℕ) → Climbs (group_start n p) p
groups_climb n p = record { first = start_first n p; rises = λ i h. start_rises n p i (omega arith) }

-- groups have together what is in slices
pub groups_together : {T : Type 0} (p : ℕ) (entries : List (Placed T)) → (0 < length entries → 0 < p) →
    flat_map (λ g. g) (in_groups p entries) ≡ items (arranged p entries)
unfolding in_groups
groups_together p entries some =
    parts_together (group_start (length entries) p) p (items (arranged p entries)) (groups_climb (length entries) p)
    ∙ take_all (group_start (length entries) p p) (items (arranged p entries))
    (omega (arith, length_of_items p entries some, start_reaches (length entries) p some))

-- a group of p groups
pub record IsGroup {T : Type 0} (Q : T → Type 0) (p low half high : ℕ) (g : List T) : Type 0 where
  pub each : All Q g
  pub at_least : low ≤ length g
  pub half_full : 1 < p → half ≤ length g
  pub at_most : length g ≤ high

pub all_groups : {T : Type 0} (Q : T → Type 0) (p low half high : ℕ) (entries : List (Placed T)) → 0 < p →
    All Q (items entries) →
    low * p ≤ length entries → (1 < p → half * p ≤ length entries) → length entries ≤ high * p →
    All (IsGroup Q p low half high) (in_groups p entries)
unfolding in_groups
all_groups {T} Q p low half high entries some all lows halves highs =
    all_parts (IsGroup Q p low half high) start p (items (arranged p entries)) (λ i h. record {
      each =
          All-take Q (start (i + 1) - start i) (drop (start i) xs)
          (All-drop Q (start i) xs (All-permutation Q (items entries) xs (items_mixed p entries (λ more. some)) all));
      at_least = omega (arith, size i h, start_grows (length entries) p i low some lows);
      half_full = λ many. omega (arith, size i h, start_grows (length entries) p i half some (halves many));
      at_most = omega (arith, size i h, start_bounded (length entries) p i high some highs);
    })
  where
    xs : List T
    xs = items (arranged p entries)

    start : ℕ → ℕ
    start = group_start (length entries) p

    size : (i : ℕ) → i < p → length (slice_range xs (start i) (start (i + 1))) ≡ start (i + 1) - start i
    size i h =
        length_of_range xs (start i) (start (i + 1))
        (omega (
          arith,
          length_of_items p entries (λ more. some),
          start_within (length entries) p (i + 1) some
              (omega arith),
        ))
