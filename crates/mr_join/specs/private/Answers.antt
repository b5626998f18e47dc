-- What private functions answer. Nothing of this has to be believed: no public contract cites it.
use Rattle.std.specs.Prelude.{◌≡◌, ℕ, Result, Ok, Err, ⊤}
use Rattle.mr_join.specs.declared.fault.JoinErr.{JoinErr}
use Rattle.mr_join.specs.declared.fault.JoinErr.TheVariants as errors
use Rattle.mr_join.specs.declared.fault.JoinFault.{JoinFault}
use Rattle.mr_join.specs.declared.joining.Joined.{Joined}
use Rattle.mr_join.specs.Frame.{Frame}
use Rattle.mr_join.specs.Verdict.{Held, first_records, frame_verdict}

-- what is answered for this verdict: the verdict, unless memory ran out
abbrev pub Answers : {A : Type 0} → Result A JoinErr → Result A JoinFault → Type 0
Answers (Ok x) verdict = verdict ≡ Ok x
Answers (Err (errors.Fault f)) verdict = verdict ≡ Err f
Answers (Err errors.NoMemory) verdict = ⊤

-- the same for the pairs of a frame, with the records of the first map
abbrev pub GivesJoined : Held → Held → (at : ℕ) → Frame → Result Joined JoinErr → Type 0
GivesJoined h g at x (Ok j) = (first_records h x.rect x.first ≡ Ok j.records)
    × (frame_verdict h g at x ≡ Ok j.pairs)
GivesJoined h g at x (Err (errors.Fault f)) = frame_verdict h g at x ≡ Err f
GivesJoined h g at x (Err errors.NoMemory) = ⊤
