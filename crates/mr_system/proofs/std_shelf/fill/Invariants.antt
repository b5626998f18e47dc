use Rattle.std.proofs.Common.{length, ◌-◌, ◌≡◌, ◌≤◌, take, drop, ℕ, List, Option}
use Rattle.std.specs.Io.KnownBytes.{Consumes}
use Rattle.mr_system.proofs.std_shelf.fill.Given as goal

-- so many places have what the reader gave, and those behind them are as before
pub record IsFilled (left left_now : Option (List ℕ)) (before now : List ℕ) (count : ℕ) : Type 0 where
  pub within : count ≤ length before
  pub bytes : Consumes left left_now (take count now)
  pub rest : drop count now ≡ drop count before

abbrev pub invariant-loop-count : goal.invariant-loop-count
invariant-loop-count g l =
    IsFilled (g.F.Read.remaining l.initial.file) (g.F.Read.remaining l.file) l.initial.into l.into l.count

abbrev pub decreases-loop-count : goal.decreases-loop-count
decreases-loop-count g l = length l.initial.into - l.count
