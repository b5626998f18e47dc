use Rattle.std.proofs.Common.{◌≡◌, length, ◌-◌, ◌≤◌, ℕ, List, take}
use Rattle.mr_outside.specs.State.{Sunk}
use Rattle.mr_outside.specs.Told.{TakesBytes}
use Rattle.mr_outside.proofs.sink.write_all.Given as goal

-- the first bytes were taken, and no fault was counted
pub record HasTaken (before now : Sunk) (bytes : List ℕ) (done : ℕ) : Type 0 where
  pub within : done ≤ length bytes
  pub takes : TakesBytes before now (take done bytes)
  pub faults : now.faults ≡ before.faults

abbrev pub invariant-loop-done : goal.invariant-loop-done
invariant-loop-done g l = HasTaken (g.W.Sink.state l.initial.out) (g.W.Sink.state l.out) l.bytes l.done

abbrev pub decreases-loop-done : goal.decreases-loop-done
decreases-loop-done g l = length l.bytes - l.done
