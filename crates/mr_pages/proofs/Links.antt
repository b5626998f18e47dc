-- The free chain followed step by step, and the least page that was never reached.
use Rattle.std.proofs.Common.{◌≡◌, ◌≢◌, ℕ, zero, suc, ◌+◌, ◌-◌, ◌<◌, ◌≤◌, true, false, cond, List, [], ◌∷◌, ◌++◌, take, drop, refl, sym, ap, subst, ◌∙◌, append_assoc, ⊎_elim, arith}
use Rattle.std.specs.Prelude.{◌==◌, ◌||◌, not, nat_le, is_none, unwrap_or, Option, Some, Ok}
use Rattle.std.specs.List.{flat_map}
use Rattle.std.proofs.lemmas.Bool.{cases_eq, ne_eqb, not_from_true, not_from_false}
use Rattle.std.proofs.lemmas.List.{append-nil, take-append-drop}
use Rattle.mr_pages.specs.declared.rule.MapRule.TheVariants as rule
use Rattle.mr_pages.specs.declared.visited.Visited.{Visited}
use Rattle.mr_pages.specs.Faults.{fault_if, has, chain, chain_faults, count_from, first_of}
use Rattle.mr_pages.specs.Walking.{Saw, LosesPage}
use Rattle.mr_pages.specs.private.Walks.{StepsOnChain}
use Rattle.mr_pages.proofs.Lists.{nil_both, no_fault}
use Rattle.mr_pages.proofs.Walks.{first_front, first_behind}

chain_append : (free : ℕ → Option ℕ) (pages : ℕ) (before xs ys : List ℕ) →
    chain_faults free pages before (xs ++ ys) ≡ chain_faults free pages before xs ++ chain_faults free pages
    (before ++ xs) ys
chain_append free pages before [] ys = ap (λ b. chain_faults free pages b ys) (sym (append-nil before))
chain_append free pages before (x ∷ xs) ys =
    let here = fault_if (nat_le pages x || (has x before || is_none (free x))) x rule.Free in
    ap (λ fs. here ++ fs)
    (chain_append free pages (before ++ x ∷ []) xs ys ∙ ap
    (λ b. chain_faults free pages (before ++ x ∷ []) xs ++ chain_faults free pages b ys)
    (append_assoc before (x ∷ []) xs))
    ∙ sym (append_assoc here (chain_faults free pages (before ++ x ∷ []) xs)
    (chain_faults free pages (before ++ x ∷ xs) ys))

-- one more of a list, by what is left
drop_one : {A : Type 0} (xs ys : List A) (y : A) (i : ℕ) → drop i xs ≡ y ∷ ys → drop (suc i) xs ≡ ys
drop_one [] ys y zero e = cc
drop_one [] ys y (suc i) e = cc
drop_one (x ∷ xs) ys y zero e = cc
drop_one (x ∷ xs) ys y (suc i) e = drop_one xs ys y i e

take_one : {A : Type 0} (xs ys : List A) (y : A) (i : ℕ) → drop i xs ≡ y ∷ ys → take (suc i) xs ≡ take i xs ++ y ∷ []
take_one [] ys y zero e = cc
take_one [] ys y (suc i) e = cc
take_one (x ∷ xs) ys y zero e = let same : x ≡ y = cc in ap (λ z. z ∷ []) same
take_one (x ∷ xs) ys y (suc i) e = ap (λ zs. x ∷ zs) (take_one xs ys y i e)

take_whole : {A : Type 0} (xs : List A) (i : ℕ) → drop i xs ≡ [] → take i xs ≡ xs
take_whole xs i e = sym (append-nil (take i xs)) ∙ ap (λ ys. take i xs ++ ys) (sym e) ∙ take-append-drop i xs

-- so many pages of the chain were followed, and this is the next
pub record Followed (free : ℕ → Option ℕ) (pages f i next : ℕ) (ps ns : List ℕ) (s : Visited) : Type 0 where
  pub on : drop i (chain free pages f) ≡ chain free (pages - i) next
  pub none : chain_faults free pages ps (take i (chain free pages f)) ≡ []
  pub saw : Saw pages s (ps ++ take i (chain free pages f)) ns

pub follow_starts : (free : ℕ → Option ℕ) (pages f : ℕ) (ps ns : List ℕ) (s : Visited) → Saw pages s ps ns →
    Followed free pages f 0 f ps ns s
follow_starts free pages f ps ns s saw =
    let same : pages ≡ pages - 0 = omega arith in
    record {
      on = ap (λ n. chain free n f) same;
      none = refl;
      saw =
          subst (λ qs. Saw pages s qs ns) (sym (append-nil ps)) saw;
    }

next_on_chain : (free : ℕ → Option ℕ) (pages f i next : ℕ) → i < pages → next ≢ 0 →
    drop i (chain free pages f) ≡ chain free (pages - i) next →
    drop i (chain free pages f) ≡ next ∷ chain free (pages - (i + 1)) (unwrap_or (free next) 0)
next_on_chain free pages f i next low some on =
    let one : pages - i ≡ suc (pages - (i + 1)) = omega (arith, low) in
    on ∙ ap (λ n. chain free n next) one ∙ ap (λ b. cond b []
    (next ∷ chain free (pages - (i + 1)) (unwrap_or (free next) 0))) (ne_eqb next 0 some)

pub follow_more : (free : ℕ → Option ℕ) (pages f i next after : ℕ) (ps ns : List ℕ) (s r : Visited) → i < pages →
    next ≢ 0 → Followed free pages f i next ps ns s →
    StepsOnChain free pages next (ps ++ take i (chain free pages f)) ns (Ok after) r →
    Followed free pages f (i + 1) after ps ns r
follow_more free pages f i next after ps ns s r low some d step =
    let ch = chain free pages f in
    let e = next_on_chain free pages f i next low some d.on in
    let bump : suc i ≡ i + 1 = omega arith in
    let taken : take (i + 1) ch ≡ take i ch ++ next ∷ [] = ap (λ k. take k ch) (sym bump) ∙ take_one ch _ next i e in
    record {
      on = ap (λ k. drop k ch) (sym bump) ∙ drop_one ch _ next i e
          ∙ ap (λ o. chain free (pages - (i + 1)) (unwrap_or o 0)) step.1;
      none = ap (chain_faults free pages ps) taken ∙ chain_append free pages ps (take i ch) (next ∷ [])
          ∙ nil_both (chain_faults free pages ps (take i ch)) _ d.none
          (nil_both (fault_if (nat_le pages next || (has next (ps ++ take i ch) || is_none (free next))) next
          rule.Free) [] (no_fault _ next rule.Free step.0) refl);
      saw = subst (λ qs. Saw pages r qs ns) (append_assoc ps (take i ch) (next ∷ []) ∙ ap (λ zs. ps ++ zs) (sym taken))
          step.2;
    }

pub follow_ends : (free : ℕ → Option ℕ) (pages f i next : ℕ) (ps ns : List ℕ) (s : Visited) →
    Followed free pages f i next ps ns s → chain free (pages - i) next ≡ [] →
    (chain_faults free pages ps (chain free pages f) ≡ []) × Saw pages s (ps ++ chain free pages f) ns
follow_ends free pages f i next ps ns s d e =
    let ch = chain free pages f in
    let all : take i ch ≡ ch = take_whole ch i (d.on ∙ e) in
    (ap (chain_faults free pages ps) (sym all) ∙ d.none, subst (λ qs. Saw pages s (ps ++ qs) ns) all d.saw)

pub chain_of_none : (free : ℕ → Option ℕ) (n f : ℕ) → f ≡ 0 → chain free n f ≡ []
chain_of_none free zero f e = refl
chain_of_none free (suc n) f e = ap (λ g. cond (g == 0) [] (f ∷ chain free n (unwrap_or (free f) 0))) e

pub chain_far : (free : ℕ → Option ℕ) (pages i next : ℕ) → i ≡ pages → chain free (pages - i) next ≡ []
chain_far free pages i next e = let none : pages - i ≡ 0 = omega (arith, e) in ap (λ n. chain free n next) none

pub follow_fails : (free : ℕ → Option ℕ) (pages f i next : ℕ) (ps ns : List ℕ) (s : Visited) → i < pages → next ≢ 0 →
    Followed free pages f i next ps ns s →
    (nat_le pages next || (has next (ps ++ take i (chain free pages f)) || is_none (free next))) ≡ true →
    first_of (chain_faults free pages ps (chain free pages f)) ≡ Some (record { page = next; rule = rule.Free })
follow_fails free pages f i next ps ns s low some d step =
    let ch = chain free pages f in
    let rest = chain free (pages - (i + 1)) (unwrap_or (free next) 0) in
    let whole : ch ≡ take i ch ++ next ∷ rest = sym (take-append-drop i ch)
    ∙ ap (λ zs. take i ch ++ zs) (next_on_chain free pages f i next low some d.on) in
    ap (λ zs. first_of (chain_faults free pages ps zs)) whole
    ∙ ap first_of (chain_append free pages ps (take i ch) (next ∷ rest))
    ∙ first_behind (chain_faults free pages ps (take i ch))
    (chain_faults free pages (ps ++ take i ch) (next ∷ rest)) _ d.none
    (first_front (fault_if (nat_le pages next || (has next (ps ++ take i ch) || is_none (free next))) next rule.Free) _
    _ (ap (λ b. first_of (fault_if b next rule.Free)) step))

-- ---- the least page that was never reached

first_in : (ps : List ℕ) (a n p : ℕ) → ((q : ℕ) → a ≤ q → q < p → has q ps ≡ true) → has p ps ≡ false → a ≤ p →
    p < a + n →
    first_of (flat_map (λ q. fault_if (not (has q ps)) q rule.Free) (count_from a n))
    ≡ Some (record { page = p; rule = rule.Free })
first_in ps a zero p before here low high = absurd (omega (arith, low, high))
first_in ps a (suc n) p before here low high =
    ⊎_elim
    (λ same. first_front (fault_if (not (has a ps)) a rule.Free) _ (record { page = p; rule = rule.Free })
    (subst (λ q. first_of (fault_if (not (has q ps)) q rule.Free) ≡ Some (record { page = p; rule = rule.Free }))
    (sym same) (ap (λ b. first_of (fault_if b p rule.Free)) (not_from_false (has p ps) here))))
    (λ apart. first_behind (fault_if (not (has a ps)) a rule.Free) _ (record { page = p; rule = rule.Free })
    (no_fault _ a rule.Free (not_from_true (has a ps) (before a (omega arith) (omega (arith, low, apart)))))
    (first_in ps (suc a) n p (λ q l h. before q (omega (arith, l)) h) here (omega (arith, low, apart))
    (omega (arith, high))))
    (cases_eq a p)

pub first_lost : (pages : ℕ) (ps : List ℕ) (p : ℕ) → ((q : ℕ) → 1 ≤ q → q < p → has q ps ≡ true) → has p ps ≡ false →
    1 ≤ p → p < pages → LosesPage pages ps (Some (record { page = p; rule = rule.Free }))
first_lost pages ps p before here low high = first_in ps 1 (pages - 1) p before here low (omega (arith, low, high))
