-- Ranked records: those that pass a test which the nearer pass stand before the others.
use Rattle.std.proofs.Common.{◌≡◌, ℕ, suc, ◌≤◌, Bool, true, false, List, [], ◌∷◌, ◌++◌, length, take, refl, ap, ◌∙◌, inl, inr, arith}
use Rattle.std.specs.Prelude.{filter, not}
use Rattle.std.specs.List.{AllByRecursion}
use Rattle.std.proofs.lemmas.Bool.{cases_Bool}
use Rattle.std.proofs.lemmas.List.{take-append-le}
use Rattle.mr_record.specs.Sorting.{put_in, sorted_by}

module _ {A : Type 0} (before : A → A → Bool) where
  -- ---- one more among those that come before others

  put_left : (x : A) (ys zs : List A) → AllByRecursion (λ (z : A). before z x ≡ false) zs
      → put_in before x (ys ++ zs) ≡ put_in before x ys ++ zs
  put_left x [] [] far = refl
  put_left x [] (z ∷ zs) far = rw far.0 refl
  put_left x (y ∷ ys) zs far = elim (cases_Bool (before y x)) [
    | inl t ↦ rw t (ap (λ (rest : List A). y ∷ rest) (put_left x ys zs far))
    | inr f ↦ rw f refl
  ]

  put_right : (x : A) (ys zs : List A) → AllByRecursion (λ (y : A). before y x ≡ true) ys
      → put_in before x (ys ++ zs) ≡ ys ++ put_in before x zs
  put_right x [] zs near = refl
  put_right x (y ∷ ys) zs near = rw near.0 (ap (λ (rest : List A). y ∷ rest) (put_right x ys zs near.1))

  All-put : (Q : A → Type 0) (x : A) (ys : List A) → Q x → AllByRecursion Q ys → AllByRecursion Q (put_in before x ys)
  All-put Q x [] q all = (q, tt)
  All-put Q x (y ∷ ys) q all = elim (cases_Bool (before y x)) [
    | inl t ↦ rw t (all.0, All-put Q x ys q all.1)
    | inr f ↦ rw f (q, all)
  ]

  length-put : (x : A) (ys : List A) → length (put_in before x ys) ≡ suc (length ys)
  length-put x [] = refl
  length-put x (y ∷ ys) = elim (cases_Bool (before y x)) [
    | inl t ↦ rw t (ap suc (length-put x ys))
    | inr f ↦ rw f refl
  ]

  pub length-sorted : (xs : List A) → length (sorted_by before xs) ≡ length xs
  length-sorted [] = refl
  length-sorted (x ∷ xs) = length-put x (sorted_by before xs) ∙ ap suc (length-sorted xs)

  -- ---- a test that splits the order

  -- what passes comes before what does not, and not the other way round
  pub record Splits (test : A → Bool) : Type 0 where
    pub first : (x y : A) → test x ≡ true → test y ≡ false → before x y ≡ true
    pub last : (x y : A) → test x ≡ true → test y ≡ false → before y x ≡ false

  abbrev others : (A → Bool) → A → Bool
  others test x = not (test x)

  passing : (test : A → Bool) (xs : List A)
      → AllByRecursion (λ (x : A). test x ≡ true) (sorted_by before (filter test xs))
  passing test [] = tt
  passing test (x ∷ xs) = elim (cases_Bool (test x)) [
    | inl t ↦ rw t (All-put (λ (x : A). test x ≡ true) x (sorted_by before (filter test xs)) t (passing test xs))
    | inr f ↦ rw f (passing test xs)
  ]

  failing : (test : A → Bool) (xs : List A)
      → AllByRecursion (λ (x : A). test x ≡ false) (sorted_by before (filter (others test) xs))
  failing test [] = tt
  failing test (x ∷ xs) = elim (cases_Bool (test x)) [
    | inl t ↦ rw t (failing test xs)
    | inr f ↦ rw f (All-put (λ (x : A). test x ≡ false) x (sorted_by before (filter (others test) xs)) f
        (failing test xs))
  ]

  all_last : (test : A → Bool) → Splits test → (x : A) → test x ≡ true → (ys : List A)
      → AllByRecursion (λ (y : A). test y ≡ false) ys → AllByRecursion (λ (y : A). before y x ≡ false) ys
  all_last test s x t [] all = tt
  all_last test s x t (y ∷ ys) all = (s.last x y t all.0, all_last test s x t ys all.1)

  all_first : (test : A → Bool) → Splits test → (x : A) → test x ≡ false → (ys : List A)
      → AllByRecursion (λ (y : A). test y ≡ true) ys → AllByRecursion (λ (y : A). before y x ≡ true) ys
  all_first test s x f [] all = tt
  all_first test s x f (y ∷ ys) all = (s.first y x all.0 f, all_first test s x f ys all.1)

  -- those that pass stand in front
  pub sorted_parts : (test : A → Bool) → Splits test → (xs : List A)
      → sorted_by before xs ≡ sorted_by before (filter test xs) ++ sorted_by before (filter (others test) xs)
  sorted_parts test s [] = refl
  sorted_parts test s (x ∷ xs) =
      let front = sorted_by before (filter test xs) in
      let back = sorted_by before (filter (others test) xs) in
      ap (put_in before x) (sorted_parts test s xs) ∙ elim (cases_Bool (test x)) [
        | inl t ↦ rw t (put_left x front back (all_last test s x t back (failing test xs)))
        | inr f ↦ rw f (put_right x front back (all_first test s x f front (passing test xs)))
      ]

  -- the first k of all are those of the ones that pass, if as many do
  pub first_of_passing : (test : A → Bool) → Splits test → (k : ℕ) (xs : List A) → k ≤ length (filter test xs)
      → take k (sorted_by before xs) ≡ take k (sorted_by before (filter test xs))
  first_of_passing test s k xs many =
      let front = sorted_by before (filter test xs) in
      let long = length-sorted (filter test xs) in
      ap (take k) (sorted_parts test s xs)
      ∙ take-append-le k front (sorted_by before (filter (others test) xs)) (omega arith)
