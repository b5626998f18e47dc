-- The entries of cuts: how many they are, and of which level.
use Rattle.std.proofs.Common.{◌≡◌, ℕ, ◌+◌, ◌-◌, ◌≤◌, length, refl, sym, ap, arith}
use Rattle.mr_tree.specs.Digest.{Scheme, level_over}
use Rattle.mr_proof.specs.Cut.{Cut, Cuts, Pruned, Leaf, Inner, no_more, first, number_of_cuts, entry, entries}
use Rattle.mr_proof.specs.Spelling.{FitsCut, FitCuts}

pub length-entries : (scheme : Scheme) (w : ℕ) (Ps : Cuts) → length (entries scheme w Ps) ≡
    number_of_cuts Ps
length-entries scheme w no_more = refl
length-entries scheme w (first P Ps) = let rest = length-entries scheme w Ps in omega arith

mutual
  pub entry_at_level : (s : Scheme) (v : ℕ) (P : Cut) → FitsCut s.version v P → (entry s v P).level ≡ v
  entry_at_level s v (Pruned part) fits = refl
  entry_at_level s v (Leaf rs) fits = sym fits.at_leaf
  entry_at_level s v (Inner cuts) fits =
      let below = first_at_level s (v - 1) cuts fits.0.some fits.1 in
      let above = fits.0.above in
      omega (arith, below)

  pub first_at_level : (s : Scheme) (w : ℕ) (Ps : Cuts) → 1 ≤ number_of_cuts Ps → FitCuts s.version w Ps
      → level_over (entries s w Ps) ≡ w + 1
  first_at_level s w no_more some fits = absurd (omega arith)
  first_at_level s w (first P Ps) some fits = ap (λ n. n + 1) (entry_at_level s w P fits.0)
