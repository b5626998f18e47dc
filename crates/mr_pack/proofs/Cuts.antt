-- What the parts of a list are together, and how long each is.
use Rattle.std.proofs.Common.{◌≡◌, ℕ, Bool, true, false, cond, length-append, suc, zero, ◌+◌, ◌-◌, ◌<◌, ◌≤◌, List, [], ◌∷◌, ◌++◌, length, map, reverse, take, drop, refl, sym, ap, ◌∙◌, arith, append_assoc, add-one}
use Rattle.std.specs.Prelude.{slice_range, All}
use Rattle.std.specs.List.{flat_map}
use Rattle.std.proofs.lemmas.List.{append-nil, take-take, take-append-drop, take_at, drop_at, length-take-le, length-drop, reverse-append, map-append, drop-drop}
use Rattle.std.proofs.lemmas.List.Concat.{flat_map-append}
use Rattle.std.proofs.lemmas.List.Elements.{All-push, All-nil}
use Rattle.std.proofs.lemmas.Slice.{between_is}
use borrow.Rule.Slice.PartMut.{mid_of, put_mid}
use Rattle.mr_pack.specs.Cuts.{parts}
use Rattle.mr_record.specs.Sorting.{put_in, sorted_by}

-- one place after another
pub record Climbs (start : ℕ → ℕ) (count : ℕ) : Type 0 where
  pub first : start 0 ≡ 0
  pub rises : (i : ℕ) → i < count → start i ≤ start (i + 1)

earlier : (start : ℕ → ℕ) (i : ℕ) → Climbs start (suc i) → Climbs start i
earlier start i up = record { first = up.first; rises = λ k h. up.rises k (omega arith) }

take_on : {A : Type 0} (xs : List A) (a b : ℕ) → a ≤ b → take a xs ++ slice_range xs a b ≡ take b xs
take_on xs a b h =
    ap (λ ys. take a xs ++ ys) (between_is xs a b)
    ∙ ap (λ ys. ys ++ drop a (take b xs)) (sym (take-take a b xs h))
    ∙ take-append-drop a (take b xs)

pub parts_together : {A : Type 0} (start : ℕ → ℕ) (count : ℕ) (xs : List A) → Climbs start count →
    flat_map (λ part. part) (parts start count xs) ≡ take (start count) xs
parts_together start zero xs up = sym (ap (λ n. take n xs) up.first)
parts_together start (suc i) xs up =
    flat_map-append (λ part. part) (parts start i xs) (slice_range xs (start i) (start (i + 1)) ∷ [])
    ∙ (λ k. parts_together start i xs (earlier start i up) k ++ append-nil (slice_range xs (start i) (start (i + 1))) k)
    ∙ take_on xs (start i) (start (i + 1)) (up.rises i (omega arith))
    ∙ ap (λ n. take (start n) xs) (add-one i)

-- a fact of each part
pub all_parts : {A : Type 0} (P : List A → Type 0) (start : ℕ → ℕ) (count : ℕ) (xs : List A) →
    ((i : ℕ) → i < count → P (slice_range xs (start i) (start (i + 1)))) → All P (parts start count xs)
all_parts P start zero xs each = All-nil P
all_parts P start (suc i) xs each =
    All-push P (parts start i xs) _ (all_parts P start i xs (λ k h. each k (omega arith))) (each i (omega arith))

pub length_of_range : {A : Type 0} (xs : List A) (a b : ℕ) → b ≤ length xs → length (slice_range xs a b) ≡ b - a
length_of_range xs a b h = length-take-le (b - a) (drop a xs) (omega (arith, length-drop a xs))

pub length_of_parts : {A : Type 0} (start : ℕ → ℕ) (count : ℕ) (xs : List A) → length (parts start count xs) ≡ count
length_of_parts start zero xs = refl
length_of_parts start (suc i) xs =
    simp (Rattle.std.proofs.lemmas.List.length_push) (ap (λ n. n + 1) (length_of_parts start i xs) ∙ add-one i)

-- the part that is cut off last is the last but those cut off before
pub cut_off : {A : Type 0} (start : ℕ → ℕ) (i : ℕ) (xs rest off : List A) (done all : List (List A)) →
    all ≡ parts start (i + 1) xs ++ reverse done → rest ≡ take (start (i + 1)) xs → off ≡ drop (start i) rest →
    all ≡ parts start i xs ++ reverse (done ++ off ∷ [])
cut_off start i xs rest off done all is left cut =
    is ∙ ap (λ n. parts start n xs ++ reverse done) (add-one i)
    ∙ append_assoc (parts start i xs) (slice_range xs (start i) (start (i + 1)) ∷ []) (reverse done)
    ∙ ap (λ part. parts start i xs ++ (part ∷ reverse done))
    (between_is xs (start i) (start (i + 1)) ∙ ap (drop (start i)) (sym left) ∙ sym cut)
    ∙ ap (λ ys. parts start i xs ++ ys) (sym (reverse-append done (off ∷ [])))

-- the same function of each part, applied part by part to the list itself
pub one_more_part : {A : Type 0} (f : List A → List A) (start : ℕ → ℕ) (i : ℕ) (xs now then part : List A) (k : ℕ) →
    start i ≤ start (i + 1) → start (i + 1) ≤ length xs →
    length (flat_map f (parts start i xs)) ≡ start i → now ≡ flat_map f (parts start i xs) ++ drop (start i) xs →
    k ≡ start (i + 1) - start i → part ≡ f (mid_of (start i) k now) → then ≡ put_mid (start i) k now part →
    then ≡ flat_map f (parts start (i + 1) xs) ++ drop (start (i + 1)) xs
one_more_part f start i xs now then part k up within size is width f_of put =
    let front = flat_map f (parts start i xs) in
    let a = start i in
    let b = start (i + 1) in
    let taken : take a now ≡ front = ap (take a) is ∙ take_at front (drop a xs) a size in
    let dropped : drop a now ≡ drop a xs = ap (drop a) is ∙ drop_at front (drop a xs) a size in
    let middle : part ≡ f (slice_range xs a b) = f_of ∙ (λ j. f (take (width j) (dropped j))) in
    let after : drop k (drop a now) ≡ drop b xs = (λ j. drop (width j) (dropped j)) ∙ drop-drop (b - a) a xs
    ∙ ap (λ n. drop n xs) (omega arith) in
    put
    ∙ (λ j. taken j ++ (middle j ++ after j))
    ∙ sym (append_assoc front (f (slice_range xs a b)) (drop b xs))
    ∙ ap (λ ys. ys ++ drop b xs)
    (ap (λ ys. front ++ ys) (sym (append-nil (f (slice_range xs a b))))
    ∙ sym (flat_map-append f (parts start i xs) (slice_range xs a b ∷ []))
    ∙ ap (λ n. flat_map f (parts start n xs)) (sym (add-one i)))

pub cut_more : {V A : Type 0} (f : V → List A) (start : ℕ → ℕ) (i group : ℕ) (xs rest : List A) (off : V)
    (cut : List V) (all : List (List A)) → group ≡ i + 1 →
    all ≡ parts start group xs ++ reverse (map f cut) → rest ≡ take (start group) xs → f off ≡ drop (start i) rest →
    all ≡ parts start i xs ++ reverse (map f (cut ++ off ∷ []))
cut_more f start i group xs rest off cut all next is left here =
    cut_off start i xs rest (f off) (map f cut) all
    (is ∙ ap (λ n. parts start n xs ++ reverse (map f cut)) next) (left ∙ ap (λ n. take (start n) xs) next) here
    ∙ ap (λ ys. parts start i xs ++ reverse ys) (sym (map-append f cut (off ∷ [])))

-- ---- sorted parts

length_of_put : {A : Type 0} (before : A → A → Bool) (x : A) (ys : List A) →
    length (put_in before x ys) ≡ suc (length ys)
length_of_put before x [] = refl
length_of_put before x (y ∷ ys) =
    elim (before y x) as (λ b. length (cond b (y ∷ put_in before x ys) (x ∷ y ∷ ys)) ≡ suc (suc (length ys))) [
      | true ↦ ap suc (length_of_put before x ys)
      | false ↦ refl
    ]

pub length_of_sorted : {A : Type 0} (before : A → A → Bool) (xs : List A) → length (sorted_by before xs) ≡ length xs
length_of_sorted before [] = refl
length_of_sorted before (x ∷ xs) = length_of_put before x (sorted_by before xs) ∙ ap suc (length_of_sorted before xs)

length_of_sorted_lists : {A : Type 0} (before : A → A → Bool) (xss : List (List A)) →
    length (flat_map (sorted_by before) xss) ≡ length (flat_map (λ xs. xs) xss)
length_of_sorted_lists before [] = refl
length_of_sorted_lists before (xs ∷ xss) =
    length-append (sorted_by before xs) (flat_map (sorted_by before) xss)
    ∙ (λ i. length_of_sorted before xs i + length_of_sorted_lists before xss i)
    ∙ sym (length-append xs (flat_map (λ ys. ys) xss))

pub length_of_sorted_parts : {A : Type 0} (before : A → A → Bool) (start : ℕ → ℕ) (count : ℕ) (xs : List A) →
    Climbs start count → start count ≤ length xs →
    length (flat_map (sorted_by before) (parts start count xs)) ≡ start count
length_of_sorted_parts before start count xs up within =
    length_of_sorted_lists before (parts start count xs) ∙ ap length (parts_together start count xs up)
    ∙ length-take-le (start count) xs within

pub map_reversed : {A B : Type 0} (f : A → B) (xs : List A) → map f (reverse xs) ≡ reverse (map f xs)
map_reversed f [] = refl
map_reversed f (x ∷ xs) =
    ap (map f) (reverse-append (x ∷ []) xs) ∙ map-append f (reverse xs) (x ∷ [])
    ∙ ap (λ ys. ys ++ f x ∷ []) (map_reversed f xs) ∙ sym (reverse-append (f x ∷ []) (map f xs))
