-- What is said of cuts: no more records are counted than a word counts.
use Rattle.std.proofs.Common.{◌≡◌, ℕ, zero, suc, ◌+◌, ◌-◌, ◌*◌, ◌≤◌, ◌<◌, ◌^◌, ap, subst, arith}
use Rattle.std.specs.Prelude.{sum}
use Rattle.std.proofs.lemmas.List.Sums.{sum_by-cons}
use Rattle.std.proofs.lemmas.Nat.{mul-le}
use Rattle.mr_record.specs.Version.{told}
use Rattle.mr_record.specs.declared.version.Version.{Version}
use Rattle.mr_record.specs.declared.version.Version.TheVariants.{One, Two}
use Rattle.mr_tree.specs.Digest.{Scheme}
use Rattle.mr_tree.specs.Limits.{level_limit}
use Rattle.mr_proof.specs.Limits.{count_limit, leaf_limit}
use Rattle.mr_proof.specs.Cut.{Cut, Cuts, Pruned, Leaf, Inner, no_more, first, number_of_cuts, entry, entries}
use Rattle.mr_proof.specs.Spelling.{FitsCut, FitCuts}
use Rattle.mr_clash.specs.private.Steps.{counts_of, HaveSum}

-- ---- counts

-- the most records that a cut of this level tells of
abbrev most : ℕ → ℕ
most zero = 2 ^ 20
most (suc v) = most v * 64

told_few : (u : Version) (n k : ℕ) → n ≤ k → told u n ≤ k
told_few One n k few = omega arith
told_few Two n k few = few

few_told : (u : Version) (n k : ℕ) → n ≤ told u k → n ≤ k
few_told One n k few = omega (arith, few)
few_told Two n k few = few

most_above : (v : ℕ) → 2 ^ 20 ≤ most v
most_above zero = omega arith
most_above (suc v) = let below = most_above v in omega (arith, below)

one_more : (n m : ℕ) → (n + 1) * m ≡ m + n * m
one_more n m = grind arith

mutual
  count_most : (s : Scheme) (v : ℕ) (P : Cut) → FitsCut s.version v P → (entry s v P).count ≤ most v
  count_most s v (Pruned part) fits =
      let few = few_told s.version part.count count_limit fits.few in omega (arith, few, most_above v)
  count_most s v (Leaf rs) fits =
      let few = told_few s.version _ leaf_limit fits.few in omega (arith, few, most_above v)
  count_most s zero (Inner Ps) fits = let above = fits.0.above in absurd (omega (arith, above))
  count_most s (suc v) (Inner Ps) fits =
      let down : suc v - 1 ≡ v = omega arith in
      let all = counts_most s v Ps (subst (λ k. FitCuts s.version k Ps) down fits.1) in
      let here : (entry s (suc v) (Inner Ps)).count ≡ sum (counts_of (entries s v Ps)) =
      ap (λ k. sum (counts_of (entries s k Ps))) down in
      let few : number_of_cuts Ps * most v ≤ 64 * most v =
      mul-le (number_of_cuts Ps) (most v) 64 (most v) fits.0.few (omega arith) in
      omega (arith, all, few, here)

  counts_most : (s : Scheme) (w : ℕ) (Ps : Cuts) → FitCuts s.version w Ps
      → sum (counts_of (entries s w Ps)) ≤ number_of_cuts Ps * most w
  counts_most s w no_more fits = omega arith
  counts_most s w (first P Ps) fits =
      let here = count_most s w P fits.0 in
      let rest = counts_most s w Ps fits.1 in
      let all = sum_by-cons (λ n. n) (entry s w P).count (counts_of (entries s w Ps)) in
      omega (arith, here, rest, all, one_more (number_of_cuts Ps) (most w))

most_low : (v : ℕ) → v ≤ level_limit → most v < 2 ^ 64
most_low zero low = omega arith
most_low (suc zero) low = omega arith
most_low (suc (suc zero)) low = omega arith
most_low (suc (suc (suc zero))) low = omega arith
most_low (suc (suc (suc (suc zero)))) low = omega arith
most_low (suc (suc (suc (suc (suc zero))))) low = omega arith
most_low (suc (suc (suc (suc (suc (suc zero)))))) low = omega arith
most_low (suc (suc (suc (suc (suc (suc (suc zero))))))) low = omega arith
most_low (suc (suc (suc (suc (suc (suc (suc (suc v)))))))) low = absurd (omega arith)

-- so do the children of a node
pub children_have_sum : (s : Scheme) (w v : ℕ) (Ps : Cuts) → v ≡ w + 1 → v ≤ level_limit
    → FitsCut s.version v (Inner Ps)
    → FitCuts s.version w Ps → HaveSum (entries s w Ps)
children_have_sum s w v Ps above low fits below =
    let all = counts_most s w Ps below in
    let few : number_of_cuts Ps * most w ≤ 64 * most w =
    mul-le (number_of_cuts Ps) (most w) 64 (most w) fits.0.few (omega arith) in
    let most_is : most (suc w) < 2 ^ 64 = most_low (suc w) (omega (arith, above, low)) in
    omega (arith, all, few, most_is)
