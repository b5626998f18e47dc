-- Grouping does not look at the items of the entries.
use Rattle.std.proofs.Common.{◌≡◌, ℕ, suc, zero, ◌+◌, Bool, true, false, cond, List, [], ◌∷◌, ◌++◌, ◌-◌, length, map, take, drop, refl, sym, ap, ◌∙◌}
use Rattle.std.specs.Prelude.{slice_range}
use Rattle.std.specs.List.{flat_map}
use Rattle.std.proofs.lemmas.List.{length-map, map-append, take-map, drop-map}
use Rattle.mr_pack.specs.Cuts.{parts, group_count, slice_count, group_start, slice_start}
use Rattle.mr_pack.specs.Entries.{is_left, is_below, arranged, in_groups, grouped}
use Rattle.mr_record.specs.Sorting.{put_in, sorted_by}
use Rattle.mr_pack.specs.private.Views.{with_item}
use Rattle.mr_pack.specs.declared.placed.Placed.{Placed}

put_map : {A B : Type 0} (f : A → B) (before : A → A → Bool) (before' : B → B → Bool) →
    ((a b : A) → before' (f a) (f b) ≡ before a b) → (x : A) (ys : List A) →
    put_in before' (f x) (map f ys) ≡ map f (put_in before x ys)
put_map f before before' same x [] = refl
put_map f before before' same x (y ∷ ys) =
    ap (λ b. cond b (f y ∷ put_in before' (f x) (map f ys)) (f x ∷ f y ∷ map f ys)) (same y x)
    ∙ elim (before y x) as (λ b. cond b (f y ∷ put_in before' (f x) (map f ys)) (f x ∷ f y ∷ map f ys) ≡ map f
    (cond b (y ∷ put_in before x ys) (x ∷ y ∷ ys))) [
      | true ↦ ap (λ zs. f y ∷ zs) (put_map f before before' same x ys)
      | false ↦ refl
    ]

pub sorted_map : {A B : Type 0} (f : A → B) (before : A → A → Bool) (before' : B → B → Bool) →
    ((a b : A) → before' (f a) (f b) ≡ before a b) → (xs : List A) →
    sorted_by before' (map f xs) ≡ map f (sorted_by before xs)
sorted_map f before before' same [] = refl
sorted_map f before before' same (x ∷ xs) =
    ap (put_in before' (f x)) (sorted_map f before before' same xs)
    ∙ put_map f before before' same x (sorted_by before xs)

sorted_lists_map : {A B : Type 0} (f : A → B) (before : A → A → Bool) (before' : B → B → Bool) →
    ((a b : A) → before' (f a) (f b) ≡ before a b) → (xss : List (List A)) →
    flat_map (sorted_by before') (map (map f) xss) ≡ map f (flat_map (sorted_by before) xss)
sorted_lists_map f before before' same [] = refl
sorted_lists_map f before before' same (xs ∷ xss) =
    (λ i. sorted_map f before before' same xs i ++ sorted_lists_map f before before' same xss i)
    ∙ sym (map-append f (sorted_by before xs) (flat_map (sorted_by before) xss))

pub parts_map : {A B : Type 0} (f : A → B) (start : ℕ → ℕ) (count : ℕ) (xs : List A) →
    parts start count (map f xs) ≡ map (map f) (parts start count xs)
parts_map f start zero xs = refl
parts_map f start (suc i) xs =
    (λ k. parts_map f start i xs k ++
    (ap (take (start (i + 1) - start i)) (drop-map f (start i) xs)
    ∙ take-map f (start (i + 1) - start i) (drop (start i) xs)) k ∷ [])
    ∙ sym (map-append (map f) (parts start i xs) (slice_range xs (start i) (start (i + 1)) ∷ []))

pub arranged_map : {S T : Type 0} (f : S → T) (p : ℕ) (entries : List (Placed S)) →
    arranged p (map (with_item f) entries) ≡ map (with_item f) (arranged p entries)
unfolding arranged
arranged_map f p entries =
    (λ i. flat_map (sorted_by is_below)
    (parts (slice_start (length-map entries (with_item f) i) p (slice_count p)) (slice_count p)
    (sorted_map (with_item f) is_left is_left (λ a b. refl) entries i)))
    ∙ ap (flat_map (sorted_by is_below))
    (parts_map (with_item f) (slice_start (length entries) p (slice_count p)) (slice_count p)
    (sorted_by is_left entries))
    ∙ sorted_lists_map (with_item f) is_below is_below (λ a b. refl)
    (parts (slice_start (length entries) p (slice_count p)) (slice_count p) (sorted_by is_left entries))

items_map : {S T : Type 0} (f : S → T) (entries : List (Placed S)) →
    map (λ (e : Placed T). e.item) (map (with_item f) entries) ≡ map f (map (λ (e : Placed S). e.item) entries)
items_map f [] = refl
items_map f (e ∷ entries) = ap (λ xs. f e.item ∷ xs) (items_map f entries)

in_groups_map : {S T : Type 0} (f : S → T) (p : ℕ) (entries : List (Placed S)) →
    in_groups p (map (with_item f) entries) ≡ map (map f) (in_groups p entries)
unfolding in_groups
in_groups_map {S} {T} f p entries =
    (λ i. parts (group_start (length-map entries (with_item f) i) p) p
    (map (λ (e : Placed T). e.item) (arranged_map f p entries i)))
    ∙ ap (parts (group_start (length entries) p) p) (items_map f (arranged p entries))
    ∙ parts_map f (group_start (length entries) p) p (map (λ (e : Placed S). e.item) (arranged p entries))

pub grouped_map : {S T : Type 0} (f : S → T) (capacity : ℕ) (entries : List (Placed S)) →
    grouped capacity (map (with_item f) entries) ≡ map (map f) (grouped capacity entries)
grouped_map f capacity entries =
    ap (λ n. in_groups (group_count n capacity) (map (with_item f) entries)) (length-map entries (with_item f))
    ∙ in_groups_map f (group_count (length entries) capacity) entries
