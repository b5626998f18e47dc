-- The least number that passes a test.
use Rattle.std.proofs.Common.{◌≡◌, ℕ, suc, zero, ◌<◌, ◌≤◌, Bool, true, false, cond, refl, sym, ap, subst, ◌∙◌, arith, inl, inr}
use Rattle.std.specs.Prelude.{◌⊎◌}
use Rattle.mr_pack.specs.Least.{least}

pub least_within : (p : ℕ → Bool) (n : ℕ) → least p n ≤ n
least_within p zero = omega arith
least_within p (suc n) =
    elim (p (least p n)) as (λ b. cond b (least p n) (suc n) ≤ suc n)
    [ true ↦ omega (arith, least_within p n) | false ↦ omega arith ]

equal_or_below : (k n : ℕ) → k ≤ suc n → (k ≡ suc n) ⊎ (k ≤ n)
equal_or_below k n h = grind arith

-- where the least does not pass, none does
none_passes : (p : ℕ → Bool) (n k : ℕ) → p (least p n) ≡ false → k ≤ n → p k ≡ false
none_passes p zero k e h = let is : k ≡ 0 = omega arith in ap p is ∙ e
none_passes p (suc n) k e h = at (none_passes p n k) (p (least p n)) refl
  where
    at : (p (least p n) ≡ false → k ≤ n → p k ≡ false) → (b : Bool) → p (least p n) ≡ b → p k ≡ false
    at earlier true t =
        let same : cond (p (least p n)) (least p n) (suc n) ≡ least p n = ap (λ b. cond b (least p n) (suc n)) t in
        let both : true ≡ false = sym t ∙ ap p (sym same) ∙ e in cc
    at earlier false t =
        let same : cond (p (least p n)) (least p n) (suc n) ≡ suc n = ap (λ b. cond b (least p n) (suc n)) t in
        elim (equal_or_below k n h) [ inl is ↦ ap p (is ∙ sym same) ∙ e | inr below ↦ earlier t below ]

pub least_passes : (p : ℕ → Bool) (n : ℕ) → p n ≡ true → p (least p n) ≡ true
least_passes p n last = at (p (least p n)) refl
  where
    at : (b : Bool) → p (least p n) ≡ b → p (least p n) ≡ true
    at true t = t
    at false t = let both : true ≡ false = sym last ∙ none_passes p n n t (omega arith) in cc

pub none_below : (p : ℕ → Bool) (n k : ℕ) → k < least p n → p k ≡ false
none_below p zero k h = absurd (omega arith)
none_below p (suc n) k h = at (none_below p n k) (p (least p n)) refl
  where
    at : (k < least p n → p k ≡ false) → (b : Bool) → p (least p n) ≡ b → p k ≡ false
    at earlier true t = earlier (subst (λ m. k < m) (ap (λ b. cond b (least p n) (suc n)) t) h)
    at earlier false t =
        let low : k < suc n = subst (λ m. k < m) (ap (λ b. cond b (least p n) (suc n)) t) h in
        none_passes p n k t (omega (arith, low))

cases : (a b : ℕ) → (a < b) ⊎ ((a ≡ b) ⊎ (b < a))
cases a b = grind arith

-- what passes, where nothing below does, is the least
pub least_is : (p : ℕ → Bool) (n m : ℕ) → m ≤ n → p m ≡ true → ((k : ℕ) → k < m → p k ≡ false) → least p n ≡ m
least_is p n m within passes below =
    elim (cases (least p n) m) [
      | inl low ↦ absurd (both (sym passes ∙ none_passes p n m (below (least p n) low) within))
      | inr rest ↦ elim rest [ inl is ↦ is | inr high ↦ absurd (both (sym passes ∙ none_below p n m high)) ]
    ]
  where
    both : true ≡ false → ⊥
    both e = cc
