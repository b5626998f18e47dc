-- The best of a list is found by going over it once, with the best so far.
use Rattle.std.proofs.Common.{◌≡◌, ℕ, ◌+◌, ◌-◌, ◌<◌, suc, Bool, true, false, not, ◌||◌, List, [], ◌∷◌, ◌++◌, refl, sym, ap, subst, ◌∙◌, append_assoc, arith}
use Rattle.std.specs.Prelude.{if◌then◌else◌}
use Rattle.std.specs.List.{AllByRecursion, filter, fold, list_any, range_with_len}
use Rattle.std.specs.Cmp.{IsStrictWeakOrder}
use Rattle.std.proofs.lemmas.List.{append-nil}
use Rattle.mr_split.specs.Best.{first_or, best, better}

-- the best of a list: none beats it, and it beats all before it
pub record IsChampion {X : Type 0} (beats : X → X → Bool) (xs : List X) (x : X) : Type 0 where
  pub front : List X
  pub back : List X
  pub is : xs ≡ front ++ x ∷ back
  pub unbeaten : AllByRecursion (λ y. beats y x ≡ false) xs
  pub beaten : AllByRecursion (λ y. beats x y ≡ true) front

all_more : {X : Type 0} (P : X → Type 0) (xs : List X) (x : X) → AllByRecursion P xs → P x → AllByRecursion P
    (xs ++ x ∷ [])
all_more P [] x all here = (here, tt)
all_more P (y ∷ xs) x all here = (all.0, all_more P xs x all.1 here)

all_weaker : {X : Type 0} (P Q : X → Type 0) (xs : List X) → ((x : X) → P x → Q x) → AllByRecursion P xs →
    AllByRecursion Q xs
all_weaker P Q [] f all = tt
all_weaker P Q (x ∷ xs) f all = (f x all.0, all_weaker P Q xs f all.1)

never_self : {X : Type 0} (beats : X → X → Bool) → IsStrictWeakOrder beats → (x : X) → beats x x ≡ false
never_self {X} beats o x = at (beats x x) refl
  where
    at : (b : Bool) → beats x x ≡ b → beats x x ≡ false
    at true e = o.one_way x x e
    at false e = e

-- what beats one beats all that do not beat that one
beats_all : {X : Type 0} (beats : X → X → Bool) → IsStrictWeakOrder beats → (x y z : X) → beats z x ≡ true →
    beats y x ≡ false → beats z y ≡ true
beats_all {X} beats o x y z e n = at (beats z y) refl
  where
    at : (b : Bool) → beats z y ≡ b → beats z y ≡ true
    at true is = is
    at false is = let no : beats z x ≡ false = o.chain z y x is n in cc

champion_more : {X : Type 0} (beats : X → X → Bool) → IsStrictWeakOrder beats → (xs : List X) (x y : X) →
    IsChampion beats xs x → IsChampion beats (xs ++ y ∷ []) (better beats x y)
champion_more {X} beats o xs x y c = at (beats y x) refl
  where
    at : (b : Bool) → beats y x ≡ b → IsChampion beats (xs ++ y ∷ []) (if b then y else x)
    at true e = record {
      front = xs;
      back = [];
      is = refl;
      unbeaten = all_more (λ z. beats z y ≡ false) xs y (all_weaker (λ z. beats z x ≡ false) (λ z. beats z y ≡ false)
          xs (λ z n. o.one_way y z (beats_all beats o x z y e n)) c.unbeaten) (never_self beats o y);
      beaten = all_weaker (λ z. beats z x ≡ false) (λ z. beats y z ≡ true) xs (λ z n. beats_all beats o x z y e n)
          c.unbeaten;
    }
    at false e = record {
      front = c.front;
      back = c.back ++ y ∷ [];
      is = ap (λ us. us ++ y ∷ []) c.is ∙ append_assoc c.front (x ∷ c.back) (y ∷ []);
      unbeaten = all_more (λ z. beats z x ≡ false) xs y c.unbeaten e;
      beaten = c.beaten;
    }

champion_on : {X : Type 0} (beats : X → X → Bool) → IsStrictWeakOrder beats → (xs ys : List X) (x : X) →
    IsChampion beats xs x → IsChampion beats (xs ++ ys) (fold (better beats) x ys)
champion_on beats o xs [] x c = subst (λ us. IsChampion beats us x) (sym (append-nil xs)) c
champion_on beats o xs (y ∷ ys) x c =
    subst (λ us. IsChampion beats us (fold (better beats) (better beats x y) ys)) (append_assoc xs (y ∷ []) ys)
    (champion_on beats o (xs ++ y ∷ []) ys (better beats x y) (champion_more beats o xs x y c))

pub champion : {X : Type 0} (beats : X → X → Bool) → IsStrictWeakOrder beats → (x : X) (xs : List X) →
    IsChampion beats (x ∷ xs) (fold (better beats) x xs)
champion beats o x xs =
    champion_on beats o (x ∷ []) xs x
    (record { front = []; back = []; is = refl; unbeaten = (never_self beats o x, tt); beaten = tt })

none_any : {X : Type 0} (p : X → Bool) (xs : List X) → AllByRecursion (λ x. p x ≡ false) xs → list_any p xs ≡ false
none_any p [] all = refl
none_any p (x ∷ xs) all = (λ i. all.0 i || list_any p xs) ∙ none_any p xs all.1

or_true : (b : Bool) → (b || true) ≡ true
or_true true = refl
or_true false = refl

any_there : {X : Type 0} (p : X → Bool) (front back : List X) (x : X) → p x ≡ true → list_any p (front ++ x ∷ back) ≡
    true
any_there p [] back x e = λ i. e i || list_any p back
any_there p (y ∷ front) back x e = ap (λ b. p y || b) (any_there p front back x e) ∙ or_true (p y)

passed_over : {X : Type 0} (p : X → Bool) (front rest : List X) → AllByRecursion (λ x. p x ≡ false) front → filter p
    (front ++ rest) ≡ filter p rest
passed_over p [] rest all = refl
passed_over p (x ∷ front) rest all = (λ i. if all.0 i then x ∷ filter p (front ++ rest) else filter p (front ++ rest))
    ∙ passed_over p front rest all.1

-- whether none of a list beats it
abbrev is_unbeaten : {X : Type 0} → (X → X → Bool) → List X → X → Bool
is_unbeaten beats xs x = not (list_any (λ y. beats y x) xs)

one_beats : {X : Type 0} (beats : X → X → Bool) (x : X) (xs : List X) (c : IsChampion beats xs x) (y : X) →
    beats x y ≡ true → is_unbeaten beats xs y ≡ false
one_beats beats x xs c y e = ap not (ap (list_any (λ z. beats z y)) c.is ∙ any_there (λ z. beats z y) c.front c.back x
    e)

-- the champion is the best
champion_is_best : {X : Type 0} (beats : X → X → Bool) (none x : X) (xs : List X) → IsChampion beats xs x →
    best beats none xs ≡ x
unfolding best
champion_is_best {X} beats none x xs c =
    let left : is_unbeaten beats xs x ≡ true = ap not (none_any (λ z. beats z x) xs c.unbeaten) in
    (λ i. first_or none (filter (is_unbeaten beats xs) (c.is i)))
    ∙ ap (first_or none) (passed_over (is_unbeaten beats xs) c.front (x ∷ c.back) (all_weaker (λ y. beats x y ≡ true)
    (λ y. is_unbeaten beats xs y ≡ false) c.front (one_beats beats x xs c) c.beaten))
    ∙ (λ i. first_or none (if left i then x ∷ filter (is_unbeaten beats xs) c.back else filter (is_unbeaten beats xs)
    c.back))

pub best_is : {X : Type 0} (beats : X → X → Bool) → IsStrictWeakOrder beats → (none x : X) (xs : List X) →
    best beats none (x ∷ xs) ≡ fold (better beats) x xs
best_is beats o none x xs = champion_is_best beats none (fold (better beats) x xs) (x ∷ xs) (champion beats o x xs)

pub best_champion : {X : Type 0} (beats : X → X → Bool) → IsStrictWeakOrder beats → (none x : X) (xs : List X) →
    IsChampion beats (x ∷ xs) (best beats none (x ∷ xs))
best_champion beats o none x xs = subst (IsChampion beats (x ∷ xs)) (sym (best_is beats o none x xs))
    (champion beats o x xs)

-- ---- going over positions

pub next_position : (i n : ℕ) → i < n → range_with_len i (n - i) ≡ i ∷ range_with_len (i + 1) (n - (i + 1))
next_position i n within = let e : n - i ≡ suc (n - (i + 1)) = omega (arith, within) in ap (range_with_len i) e

-- one position more
pub go_on : {X : Type 0} (f : X → ℕ → X) (i n : ℕ) (x y z : X) → i < n → y ≡ f x i → fold f x
    (range_with_len i (n - i)) ≡ z → fold f y (range_with_len (i + 1) (n - (i + 1))) ≡ z
go_on f i n x y z within is so_far =
    (λ k. fold f (is k) (range_with_len (i + 1) (n - (i + 1)))) ∙ sym (ap (fold f x) (next_position i n within))
    ∙ so_far

-- no position is left
pub at_end : {X : Type 0} (f : X → ℕ → X) (i n : ℕ) (x : X) → n - i ≡ 0 → fold f x (range_with_len i (n - i)) ≡ x
at_end f i n x done = ap (λ k. fold f x (range_with_len i k)) done
