-- Lists in which no number stands twice, and lists of faults that are empty.
use Rattle.std.proofs.Common.{◌≡◌, ◌≢◌, ℕ, suc, Bool, true, false, List, [], ◌∷◌, ◌++◌, map, get_or, refl, sym, ap, subst, ◌∙◌, arith, append_assoc}
use Rattle.std.specs.Prelude.{◌==◌, ◌||◌, ⊤, AllPairs, Contains}
use Rattle.std.specs.List.{AllByRecursion, IsDistinct}
use Rattle.std.proofs.lemmas.List.{append-nil}
use Rattle.std.proofs.lemmas.List.Folds.{list_any-append, list_any_at}
use Rattle.std.proofs.lemmas.List.Elements.{recursion_from_All, All-from_recursion}
use Rattle.std.proofs.lemmas.List.Kept.{AllPairs-cons}
use Rattle.std.proofs.lemmas.Bool.{eqb-true, eqb-false, eq-eqb, ne_eqb, or_parts, or_from, or_right}
use Rattle.mr_pages.specs.declared.rule.MapRule.{MapRule}
use Rattle.mr_pages.specs.Faults.{fault_if, has, repeats}

-- ---- empty lists

pub nil_left : {A : Type 0} (xs ys : List A) → xs ++ ys ≡ [] → xs ≡ []
nil_left [] ys e = refl
nil_left (x ∷ xs) ys e = cc

pub nil_right : {A : Type 0} (xs ys : List A) → xs ++ ys ≡ [] → ys ≡ []
nil_right [] ys e = e
nil_right (x ∷ xs) ys e = cc

pub nil_both : {A : Type 0} (xs ys : List A) → xs ≡ [] → ys ≡ [] → xs ++ ys ≡ []
nil_both xs ys p q = λ i. p i ++ q i

pub not_broken : (b : Bool) (page : ℕ) (r : MapRule) → fault_if b page r ≡ [] → b ≡ false
not_broken true page r e = cc
not_broken false page r e = refl

pub no_fault : (b : Bool) (page : ℕ) (r : MapRule) → b ≡ false → fault_if b page r ≡ []
no_fault b page r e = ap (λ c. fault_if c page r) e

-- ---- facts of each element

pub all_append : {A : Type 0} (P : A → Type 0) (xs ys : List A) → AllByRecursion P xs → AllByRecursion P ys →
    AllByRecursion P (xs ++ ys)
all_append P [] ys p q = q
all_append P (x ∷ xs) ys p q = (p.0, all_append P xs ys p.1 q)

pub all_left : {A : Type 0} (P : A → Type 0) (xs ys : List A) → AllByRecursion P (xs ++ ys) → AllByRecursion P xs
all_left P [] ys p = tt
all_left P (x ∷ xs) ys p = (p.0, all_left P xs ys p.1)

pub all_right : {A : Type 0} (P : A → Type 0) (xs ys : List A) → AllByRecursion P (xs ++ ys) → AllByRecursion P ys
all_right P [] ys p = p
all_right P (x ∷ xs) ys p = all_right P xs ys p.1

pub all_map : {A B : Type 0} (P : B → Type 0) (f : A → B) (xs : List A) → AllByRecursion (λ x. P (f x)) xs →
    AllByRecursion P (map f xs)
all_map P f [] p = tt
all_map P f (x ∷ xs) p = (p.0, all_map P f xs p.1)

pub all_weaker : {A : Type 0} (P Q : A → Type 0) → ((x : A) → P x → Q x) →
    (xs : List A) → AllByRecursion P xs → AllByRecursion Q xs
all_weaker P Q f [] p = tt
all_weaker P Q f (x ∷ xs) p = (f x p.0, all_weaker P Q f xs p.1)

-- ---- membership

pub has-append : (n : ℕ) (xs ys : List ℕ) → has n (xs ++ ys) ≡ (has n xs || has n ys)
has-append n xs ys = list_any-append (λ m. n == m) xs ys

pub has_contains : (n : ℕ) (xs : List ℕ) → has n xs ≡ true → Contains xs n
has_contains n [] e = cc
has_contains n (x ∷ xs) e = at (n == x) refl (has_contains n xs)
  where
    at : (b : Bool) → (n == x) ≡ b → (has n xs ≡ true → Contains xs n) → Contains (x ∷ xs) n
    at true same on = (0, omega arith, sym (eqb-true n x same))
    at false same on =
        let rest = on (ap (λ b. b || has n xs) (sym same) ∙ e) in
        (suc rest.0, omega (arith, rest.1), rest.2)

pub contains_has : (n : ℕ) (xs : List ℕ) → Contains xs n → has n xs ≡ true
contains_has n xs c = list_any_at (λ m. n == m) xs c.0 n c.1 (eq-eqb n (get_or xs c.0 n) (sym c.2))

-- a fact of each element is one of each number that the list has
pub all_has : (P : ℕ → Type 0) (xs : List ℕ) → AllByRecursion P xs → (n : ℕ) → has n xs ≡ true → P n
all_has P [] all n e = cc
all_has P (x ∷ xs) all n e = at (n == x) refl (all_has P xs all.1 n)
  where
    at : (b : Bool) → (n == x) ≡ b → (has n xs ≡ true → P n) → P n
    at true same on = subst P (sym (eqb-true n x same)) all.0
    at false same on = on (ap (λ b. b || has n xs) (sym same) ∙ e)

pub has_all : (P : ℕ → Type 0) (xs : List ℕ) → ((n : ℕ) → has n xs ≡ true → P n) → AllByRecursion P xs
has_all P [] f = tt
has_all P (x ∷ xs) f = (
  f x (ap (λ b. b || has x xs) (eq-eqb x x refl)),
  has_all P xs (λ n e. f n (or_right (n == x) (has n xs) e)),
)

-- ---- numbers that are new, one after another

abbrev pub Fresh : List ℕ → List ℕ → Type 0
Fresh before [] = ⊤
Fresh before (n ∷ ns) = (has n before ≡ false) × Fresh (before ++ n ∷ []) ns

pub fresh_append : (b xs ys : List ℕ) → Fresh b xs → Fresh (b ++ xs) ys → Fresh b (xs ++ ys)
fresh_append b [] ys p q = subst (λ c. Fresh c ys) (append-nil b) q
fresh_append b (x ∷ xs) ys p q = (
  p.0,
  fresh_append (b ++ x ∷ []) xs ys p.1
      (subst (λ c. Fresh c ys) (sym (append_assoc b (x ∷ []) xs)) q),
)

pub fresh_left : (b xs ys : List ℕ) → Fresh b (xs ++ ys) → Fresh b xs
fresh_left b [] ys p = tt
fresh_left b (x ∷ xs) ys p = (p.0, fresh_left (b ++ x ∷ []) xs ys p.1)

pub fresh_right : (b xs ys : List ℕ) → Fresh b (xs ++ ys) → Fresh (b ++ xs) ys
fresh_right b [] ys p = subst (λ c. Fresh c ys) (sym (append-nil b)) p
fresh_right b (x ∷ xs) ys p = subst (λ c. Fresh c ys) (append_assoc b (x ∷ []) xs) (fresh_right (b ++ x ∷ []) xs ys p.1)

pub repeats_fresh : (b ns : List ℕ) → repeats b ns ≡ false → Fresh b ns
repeats_fresh b [] e = tt
repeats_fresh b (n ∷ ns) e =
    let parts = or_parts (has n b) (repeats (b ++ n ∷ []) ns) e in
    (parts.0, repeats_fresh (b ++ n ∷ []) ns parts.1)

pub fresh_repeats : (b ns : List ℕ) → Fresh b ns → repeats b ns ≡ false
fresh_repeats b [] p = refl
fresh_repeats b (n ∷ ns) p = or_from (has n b) (repeats (b ++ n ∷ []) ns) p.0 (fresh_repeats (b ++ n ∷ []) ns p.1)

-- no number of the second list is in the first
new_push : (n x : ℕ) (b : List ℕ) → has n (b ++ x ∷ []) ≡ false → (has n b ≡ false) × ((n == x) ≡ false)
new_push n x b e =
    let parts = or_parts (has n b) ((n == x) || false) (sym (has-append n b (x ∷ [])) ∙ e) in
    (parts.0, (or_parts (n == x) false parts.1).0)

push_new : (n x : ℕ) (b : List ℕ) → has n b ≡ false → (n == x) ≡ false → has n (b ++ x ∷ []) ≡ false
push_new n x b p q = has-append n b (x ∷ []) ∙ or_from (has n b) ((n == x) || false) p (or_from (n == x) false q refl)

pub fresh_new : (b ns : List ℕ) → Fresh b ns → AllByRecursion (λ n. has n b ≡ false) ns
fresh_new b [] p = tt
fresh_new b (n ∷ ns) p = (
  p.0,
  all_weaker (λ m. has m (b ++ n ∷ []) ≡ false) (λ m. has m b ≡ false)
      (λ m e. (new_push m n b e).0) ns (fresh_new (b ++ n ∷ []) ns p.1),
)

differs : (n m : ℕ) → (m == n) ≡ false → n ≢ m
differs n m e = λ same. eqb-false m n e (sym same)

pub fresh_apart : (b ns : List ℕ) → Fresh b ns → AllPairs (λ (p q : ℕ). p ≢ q) ns
fresh_apart b [] p = λ i j d low high. absurd (omega (arith, low, high))
fresh_apart b (n ∷ ns) p =
    AllPairs-cons (λ (p q : ℕ). p ≢ q) n ns
    (All-from_recursion (λ m. n ≢ m) ns (all_weaker (λ m. has m (b ++ n ∷ []) ≡ false) (λ m. n ≢ m)
    (λ m e. differs n m (new_push m n b e).1) ns (fresh_new (b ++ n ∷ []) ns p.1)))
    (fresh_apart (b ++ n ∷ []) ns p.1)

apart_head : (n : ℕ) (ns : List ℕ) → AllPairs (λ (p q : ℕ). p ≢ q) (n ∷ ns) → AllByRecursion (λ m. n ≢ m) ns
apart_head n ns far = recursion_from_All (λ m. n ≢ m) ns (λ k d within. far 0 (suc k) d (omega arith) (omega arith))

apart_tail : (n : ℕ) (ns : List ℕ) → AllPairs (λ (p q : ℕ). p ≢ q) (n ∷ ns) → AllPairs (λ (p q : ℕ). p ≢ q) ns
apart_tail n ns far = λ i j d low high. far (suc i) (suc j) d (omega arith) (omega arith)

both : (b : List ℕ) (n : ℕ) (ns : List ℕ) → AllByRecursion (λ m. has m b ≡ false) ns → AllByRecursion (λ m. n ≢ m) ns →
    AllByRecursion (λ m. has m (b ++ n ∷ []) ≡ false) ns
both b n [] p q = tt
both b n (m ∷ ns) p q = (push_new m n b p.0 (ne_eqb m n (λ e. q.0 (sym e))), both b n ns p.1 q.1)

apart_from : (b ns : List ℕ) → AllByRecursion (λ n. has n b ≡ false) ns → AllPairs (λ (p q : ℕ). p ≢ q) ns → Fresh b ns
apart_from b [] new far = tt
apart_from b (n ∷ ns) new far = (
  new.0,
  apart_from (b ++ n ∷ []) ns (both b n ns new.1 (apart_head n ns far))
      (apart_tail n ns far),
)

none_new : (ns : List ℕ) → AllByRecursion (λ n. has n [] ≡ false) ns
none_new [] = tt
none_new (n ∷ ns) = (refl, none_new ns)

pub apart_fresh : (ns : List ℕ) → AllPairs (λ (p q : ℕ). p ≢ q) ns → Fresh [] ns
apart_fresh ns far = apart_from [] ns (none_new ns) far

-- as std says that no key stands twice
pub apart_distinct : (ns : List ℕ) → AllPairs (λ (p q : ℕ). p ≢ q) ns → IsDistinct ◌==◌ ns
unfolding IsDistinct
apart_distinct [] far = tt
apart_distinct (n ∷ ns) far = (
  all_weaker (λ m. n ≢ m) (λ m. (n == m) ≡ false) (λ m. ne_eqb n m) ns
      (apart_head n ns far),
  apart_distinct ns (apart_tail n ns far),
)
