-- All pairs of positions, and the best of them.
use Rattle.std.proofs.Common.{◌≡◌, ℕ, ◌+◌, ◌-◌, ◌<◌, ◌≤◌, suc, zero, Bool, true, false, List, ◌∷◌, length, refl, sym, ap, ◌∙◌, arith}
use Rattle.std.specs.Prelude.{if◌then◌else◌}
use Rattle.std.specs.List.{fold, range_with_len}
use Rattle.std.proofs.lemmas.List.Sums.{fold-append}
use Rattle.mr_geom.specs.Rectangle.{Rectangle}
use Rattle.mr_split.specs.Best.{best, better, positions}
use Rattle.mr_split.specs.Seeds.{wastes_more, pairs, pairs_of, first_pair, seeds}
use Rattle.mr_split.specs.declared.seeds.Pair.{Pair}
use Rattle.mr_split.proofs.Champion.{best_is, next_position}
use Rattle.mr_split.proofs.Comparing.{waste_order}

-- one partner more
pub partner_on : (f : Pair → Pair → Pair) (first i n : ℕ) (x y z : Pair) → i < n → y ≡ f x
    (record { first = first; second = i }) →
    fold f x (pairs_of first (range_with_len i (n - i))) ≡ z → fold f y
    (pairs_of first (range_with_len (i + 1) (n - (i + 1)))) ≡ z
partner_on f first i n x y z within is so_far =
    (λ k. fold f (is k) (pairs_of first (range_with_len (i + 1) (n - (i + 1)))))
    ∙ sym (ap (λ js. fold f x (pairs_of first js)) (next_position i n within)) ∙ so_far

-- one first position more
pub pairs_on : (f : Pair → Pair → Pair) (i n : ℕ) (x y z : Pair) → i < n → y ≡ fold f x
    (pairs_of i (range_with_len (i + 1) (n - (i + 1)))) →
    fold f x (pairs (range_with_len i (n - i))) ≡ z → fold f y (pairs (range_with_len (i + 1) (n - (i + 1)))) ≡ z
pairs_on f i n x y z within is so_far =
    let later = range_with_len (i + 1) (n - (i + 1)) in
    (λ k. fold f (is k) (pairs later)) ∙ sym (fold-append f x (pairs_of i later) (pairs later))
    ∙ sym (ap (λ js. fold f x (pairs js)) (next_position i n within)) ∙ so_far

either : {X : Type 0} (b : Bool) (x : X) → (if b then x else x) ≡ x
either true x = refl
either false x = refl

-- the first pair, and the others
pub others : (n : ℕ) → 2 ≤ n → (rest : List Pair) × (pairs (positions n) ≡ first_pair ∷ rest)
others zero some = absurd (omega (arith, some))
others (suc zero) some = absurd (omega (arith, some))
others (suc (suc n)) some = (_, refl)

pub seeds_are : (list : List Rectangle) (i : ℕ) (x : Pair) → 2 ≤ length list → length list ≤ i →
    fold (better (wastes_more list)) x (pairs (range_with_len i (length list - i))) ≡ fold (better (wastes_more list))
    first_pair (pairs (positions (length list))) →
    x ≡ seeds list
unfolding seeds
seeds_are list i x some done rest =
    let beats = wastes_more list in
    let none : length list - i ≡ 0 = omega (arith, done) in
    let more = others (length list) some in
    sym (ap (λ k. fold (better beats) x (pairs (range_with_len i k))) none) ∙ rest ∙ ap
    (fold (better beats) first_pair) more.1
    ∙ ap (λ p. fold (better beats) p more.0) (either (beats first_pair first_pair) first_pair)
    ∙ sym (best_is beats (waste_order list) first_pair first_pair more.0) ∙ ap (best beats first_pair) (sym more.1)
