-- Where the first item that passes a test stands, in a list and in lists end to end.
use Rattle.std.proofs.Common.{◌≡◌, Bool, true, false, ◌||◌, ℕ, zero, suc, ◌+◌, ◌<◌, List, [], ◌∷◌, ◌++◌, length, drop, get_or, refl, sym, ap, ◌∙◌, arith}
use Rattle.std.specs.Prelude.{if◌then◌else◌, nat_lt}
use Rattle.std.specs.List.{flat_map, list_any}
use Rattle.std.proofs.lemmas.Bool.Decides.{nat_tests}
use Rattle.std.proofs.lemmas.List.{drop_more}
use Rattle.std.proofs.lemmas.List.Folds.{list_any-append}
use Rattle.mr_tree.specs.Tree.{records}
use Rattle.mr_tree.specs.declared.tree.Tree.{Tree}
use Rattle.mr_grow.specs.Found.{has, is_numbered, place_of}

pub place_within : {X : Type 0} (test : X → Bool) (xs : List X) → list_any test xs ≡ true → place_of test xs < length
    xs
place_within test [] e = cc
place_within {X} test (x ∷ xs) e = at (test x) e (place_within test xs)
  where
    at : (b : Bool) → (b || list_any test xs) ≡ true → (list_any test xs ≡ true → place_of test xs < length xs) →
        (if b then zero else suc (place_of test xs)) < suc (length xs)
    at true e rest = omega arith
    at false e rest = omega (arith, rest e)

pub place_passes : {X : Type 0} (test : X → Bool) (xs : List X) (d : X) → list_any test xs ≡ true → test
    (get_or xs (place_of test xs) d) ≡ true
place_passes test [] d e = cc
place_passes {X} test (x ∷ xs) d e = at (test x) refl e (place_passes test xs d)
  where
    at : (b : Bool) → test x ≡ b → (b || list_any test xs) ≡ true →
        (list_any test xs ≡ true → test (get_or xs (place_of test xs) d) ≡ true)
        → test (get_or (x ∷ xs) (if b then zero else suc (place_of test xs)) d) ≡ true
    at true is e rest = is
    at false is e rest = rest e

shifted : (a b : ℕ) → nat_lt (suc a) (suc b) ≡ nat_lt a b
shifted a b = grind (arith, nat_tests)

pub place_any : {X : Type 0} (test : X → Bool) (xs : List X) → nat_lt (place_of test xs) (length xs) ≡ list_any test
    xs
place_any test [] = refl
place_any {X} test (x ∷ xs) = at (test x) (place_any test xs)
  where
    at : (b : Bool) → nat_lt (place_of test xs) (length xs) ≡ list_any test xs → nat_lt
        (if b then zero else suc (place_of test xs)) (suc (length xs)) ≡ (b || list_any test xs)
    at true e = grind (arith, nat_tests)
    at false e = shifted (place_of test xs) (length xs) ∙ e

pub any_flat : {X A : Type 0} (test : A → Bool) (f : X → List A) (xs : List X) → list_any test (flat_map f xs) ≡
    list_any (λ x. list_any test (f x)) xs
any_flat test f [] = refl
any_flat test f (x ∷ xs) = list_any-append test (f x) (flat_map f xs) ∙ ap (λ b. list_any test (f x) || b)
    (any_flat test f xs)

-- a record that the first of the nodes that are left has not
pub not_in_first : (n : ℕ) (all : Bool) (ts : List Tree) (i : ℕ) (one : Tree) →
    has n (flat_map records (drop i ts)) ≡ all → one ≡ get_or ts i one → i < length ts →
    has n (records one) ≡ false → has n (flat_map records (drop (i + 1) ts)) ≡ all
not_in_first n all ts i one left is within none =
    let rest = flat_map records (drop (i + 1) ts) in
    sym (ap (λ us. has n (flat_map records us)) (drop_more ts i one within)
    ∙ ap (λ t. has n (records t ++ rest)) (sym is)
    ∙ list_any-append (is_numbered n) (records one) rest
    ∙ ap (λ b. b || has n rest) none)
    ∙ left
