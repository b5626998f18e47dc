-- A write changes its own page alone, and who owns a page owns no other's.
use Rattle.std.proofs.Common.{◌≡◌, ◌≢◌, ℕ, ◌+◌, ◌<◌, ◌≤◌, Bool, true, false, List, [], ◌∷◌, refl, sym, ap, subst, ◌∙◌, arith}
use Rattle.std.specs.Prelude.{if◌then◌else◌, nat_lt}
use Rattle.std.proofs.lemmas.Bool.{eq-eqb, ne_eqb}
use Rattle.std.proofs.lemmas.Bool.Decides.{nat_tests}
use Rattle.mr_edit.specs.PageMap.{PageContent, PageMap, with_content, OwnsEachOnce, Agree, count_in}
use Rattle.mr_edit.proofs.Frame.{count_in-append, times_first}

pub content_here : (p : ℕ) (s : PageContent) (b : PageMap) → (with_content p s b).content p ≡ s
content_here p s b = ap (λ t. if t then s else b.content p) (eq-eqb p p refl)

pub content_there : (p : ℕ) (s : PageContent) (b : PageMap) (q : ℕ) → q ≢ p → (with_content p s b).content q ≡
    b.content q
content_there p s b q other = ap (λ t. if t then s else b.content q) (ne_eqb q p other)

pub times_cons : (q x : ℕ) (xs : List ℕ) → count_in q (x ∷ xs) ≡ count_in q (x ∷ []) + count_in q xs
times_cons q x xs = count_in-append q (x ∷ []) xs

pub times_one : (x : ℕ) → count_in x (x ∷ []) ≡ 1
times_one x = ap (λ b. if b then 1 else 0) (eq-eqb x x refl)

pub times_other : (q x : ℕ) → q ≢ x → count_in q (x ∷ []) ≡ 0
times_other q x other = ap (λ b. if b then 1 else 0) (ne_eqb x q (λ e. other (sym e)))

-- what is owned is a page
pub owned_within : (size q : ℕ) (xs : List ℕ) → OwnsEachOnce size xs → 0 < count_in q xs → q < size
owned_within size q xs owned some = at (nat_lt q size) refl
  where
    at : (b : Bool) → nat_lt q size ≡ b → q < size
    at true e = grind (arith, nat_tests, e)
    at false e = let past : size ≤ q = grind (arith, nat_tests, e) in absurd (omega (arith, some, owned.none q past))

-- who owns a page owns it once
pub apart : (size x : ℕ) (rest : List ℕ) (q : ℕ) → OwnsEachOnce size (x ∷ rest) → 0 < count_in q rest → q ≢ x
apart size x rest q owned some same =
    let there : 0 < count_in x rest = subst (λ r. 0 < count_in r rest) same some in
    let within : x < size = owned_within size x (x ∷ rest) owned (times_first x rest) in
    omega (arith, owned.each x within, times_cons x x rest, times_one x, there)

-- a write to one's own page changes no page of the rest
pub kept_by_write : (a : PageMap) (x : ℕ) (s : PageContent) (rest : List ℕ) → OwnsEachOnce a.size (x ∷ rest) →
    Agree a (with_content x s a) rest
kept_by_write a x s rest owned = λ q some. content_there x s a q (apart a.size x rest q owned some)

-- the same numbers in another order
pub same_owned : (size : ℕ) (xs ys : List ℕ) → ((q : ℕ) → count_in q ys ≡ count_in q xs) → OwnsEachOnce size xs →
    OwnsEachOnce size ys
same_owned size xs ys same owned = record {
  each = λ q within. same q ∙ owned.each q within;
  none = λ q past. same q
      ∙ owned.none q past;
}
