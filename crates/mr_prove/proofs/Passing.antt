-- Sums over what passes a test.
use Rattle.std.proofs.Common.{◌≡◌, ℕ, ◌≤◌, Bool, true, false, cond, List, [], ◌∷◌, refl, ap, inl, inr, arith}
use Rattle.std.specs.Prelude.{filter}
use Rattle.std.specs.List.{AllByRecursion, sum_by}
use Rattle.std.proofs.lemmas.Bool.{cases_Bool}
use Rattle.std.proofs.lemmas.List.Sums.{sum_by-cons}

module _ {X : Type 0} (F : X → ℕ) (f : X → Bool) where
  -- with its first element by itself
  by_first : (x : X) (xs : List X) (b : Bool) → f x ≡ b
      → sum_by F (filter f (x ∷ xs)) ≡ sum_by F (cond b (x ∷ filter f xs) (filter f xs))
  by_first x xs b e = ap (λ b. sum_by F (cond b (x ∷ filter f xs) (filter f xs))) e

  -- no more than over all
  pub sum_of_some : (xs : List X) → sum_by F (filter f xs) ≤ sum_by F xs
  sum_of_some [] = omega arith
  sum_of_some (x ∷ xs) =
      let rest = sum_of_some xs in
      let all = sum_by-cons F x xs in
      elim (cases_Bool (f x)) [
        | inl t ↦
            let here = by_first x xs true t in
            let cons = sum_by-cons F x (filter f xs) in
            omega arith
        | inr g ↦ let here = by_first x xs false g in omega arith
      ]

  -- and as much where what does not pass counts nothing
  pub sum_of_rest_none : (xs : List X) → AllByRecursion (λ x. f x ≡ false → F x ≡ 0) xs
      → sum_by F (filter f xs) ≡ sum_by F xs
  sum_of_rest_none [] none = refl
  sum_of_rest_none (x ∷ xs) none =
      let rest = sum_of_rest_none xs none.1 in
      let all = sum_by-cons F x xs in
      elim (cases_Bool (f x)) [
        | inl t ↦
            let here = by_first x xs true t in
            let cons = sum_by-cons F x (filter f xs) in
            omega arith
        | inr g ↦
            let here = by_first x xs false g in
            let zero_here = none.0 g in
            omega arith
      ]
