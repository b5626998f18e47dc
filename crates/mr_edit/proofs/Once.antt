-- A number that stands at most once among some records.
use Rattle.std.proofs.Common.{◌≡◌, ◌≢◌, Bool, true, false, ◌||◌, ℕ, zero, suc, ◌+◌, ◌<◌, ◌≤◌, List, [], ◌∷◌, ◌++◌, length, take, get_or, refl, sym, ap, subst, ◌∙◌, arith}
use Rattle.std.specs.Prelude.{◌==◌, if◌then◌else◌, AllPairs}
use Rattle.std.specs.List.{flat_map, list_any, AllByRecursion}
use Rattle.std.proofs.lemmas.Bool.{eqb-true}
use Rattle.std.proofs.lemmas.List.{map-append}
use Rattle.std.proofs.lemmas.List.Elements.{recursion_from_All}
use Rattle.mr_record.specs.declared.record.Record.{Record}
use Rattle.mr_tree.specs.Tree.{records}
use Rattle.mr_tree.specs.declared.tree.Tree.{Tree}
use Rattle.mr_grow.specs.Found.{has}
use Rattle.mr_edit.specs.PageMap.{count_in}
use Rattle.mr_edit.specs.private.Removal.{IsOnce, numbers_in}
use Rattle.mr_edit.proofs.Frame.{count_in-append}
use Rattle.mr_edit.proofs.Searching.{holds}

-- ---- how often a number stands

both : (n : ℕ) (xs ys : List Record) →
    count_in n (numbers_in (xs ++ ys)) ≡ count_in n (numbers_in xs) + count_in n (numbers_in ys)
both n xs ys =
    ap (count_in n) (map-append (λ (r : Record). r.number) xs ys) ∙ count_in-append n (numbers_in xs) (numbers_in ys)

there : (n : ℕ) (rs : List Record) → has n rs ≡ true → 0 < count_in n (numbers_in rs)
there n [] e = cc
there n (r ∷ rs) e = at (r.number == n) e (there n rs)
  where
    at : (b : Bool) → (b || has n rs) ≡ true → (has n rs ≡ true → 0 < count_in n (numbers_in rs)) →
        0 < (if b then suc (count_in n (numbers_in rs)) else count_in n (numbers_in rs))
    at true e rest = omega arith
    at false e rest = rest e

there_below : (n : ℕ) (ts : List Tree) (i : ℕ) (d : Tree) → i < length ts → holds n (get_or ts i d) ≡ true →
    0 < count_in n (numbers_in (flat_map records ts))
there_below n [] i d within e = absurd (omega (arith, within))
there_below n (t ∷ ts) zero d within e =
    omega (arith, there n (records t) e, both n (records t) (flat_map records ts))
there_below n (t ∷ ts) (suc i) d within e =
    omega (arith, there_below n ts i d (omega (arith, within)) e, both n (records t) (flat_map records ts))

-- ---- at most once

-- so below each child
pub once_below : (n : ℕ) (ts : List Tree) (i : ℕ) (d : Tree) → i < length ts → IsOnce n (flat_map records ts) →
    IsOnce n (records (get_or ts i d))
once_below n [] i d within once = absurd (omega (arith, within))
once_below n (t ∷ ts) zero d within once = omega (arith, once, both n (records t) (flat_map records ts))
once_below n (t ∷ ts) (suc i) d within once =
    once_below n ts i d (omega (arith, within)) (omega (arith, once, both n (records t) (flat_map records ts)))

-- no child before the one that has it has it
pub alone_before : (n : ℕ) (ts : List Tree) (i : ℕ) (d : Tree) → i < length ts → IsOnce n (flat_map records ts) →
    holds n (get_or ts i d) ≡ true → list_any (holds n) (take i ts) ≡ false
alone_before n [] i d within once e = absurd (omega (arith, within))
alone_before n (t ∷ ts) zero d within once e = refl
alone_before n (t ∷ ts) (suc i) d within once e =
    let sum = both n (records t) (flat_map records ts) in
    at (holds n t) refl (alone_before n ts i d (omega (arith, within)) (omega (arith, once, sum)) e)
  where
    at : (b : Bool) → holds n t ≡ b → list_any (holds n) (take i ts) ≡ false →
        (b || list_any (holds n) (take i ts)) ≡ false
    at true here rest = absurd (omega (
      arith,
      once,
      both n (records t) (flat_map records ts),
      there n (records t) here,
      there_below n ts i d (omega (arith, within)) e,
    ))
    at false here rest = rest

-- ---- numbers that differ

none_of : (n : ℕ) (rs : List Record) → AllByRecursion (λ (s : Record). n ≢ s.number) rs →
    count_in n (numbers_in rs) ≡ 0
none_of n [] all = refl
none_of n (r ∷ rs) all = at (r.number == n) refl (none_of n rs all.1)
  where
    at : (b : Bool) → (r.number == n) ≡ b → count_in n (numbers_in rs) ≡ 0 →
        (if b then suc (count_in n (numbers_in rs)) else count_in n (numbers_in rs)) ≡ 0
    at true is rest = absurd (all.0 (sym (eqb-true r.number n is)))
    at false is rest = rest

pub once_apart : (n : ℕ) (rs : List Record) → AllPairs (λ (a b : Record). a.number ≢ b.number) rs → IsOnce n rs
once_apart n [] far = omega arith
once_apart n (r ∷ rs) far = at (r.number == n) refl
    (once_apart n rs (λ i j d low high. far (suc i) (suc j) d (omega (arith, low)) (omega (arith, high))))
  where
    others : AllByRecursion (λ (s : Record). r.number ≢ s.number) rs
    others = recursion_from_All (λ (s : Record). r.number ≢ s.number) rs
        (λ k d within. far 0 (suc k) d (omega arith) (omega (arith, within)))

    at : (b : Bool) → (r.number == n) ≡ b → IsOnce n rs →
        (if b then suc (count_in n (numbers_in rs)) else count_in n (numbers_in rs)) ≤ 1
    at true is rest =
        let same : r.number ≡ n = eqb-true r.number n is in
        let none : count_in n (numbers_in rs) ≡ 0 =
        subst (λ k. count_in k (numbers_in rs) ≡ 0) same (none_of r.number rs others) in
        omega (arith, none)
    at false is rest = rest
