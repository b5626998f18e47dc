-- What the parts of a join's proof are worth. Nothing of this has to be believed: no public
-- contract cites it.
use Rattle.std.specs.Prelude.{◌≡◌, ℕ, List, [], ◌∷◌, Option, Some, None, Result, Ok, Err, ⊤}
use Rattle.mr_geom.specs.Rectangle.{Rectangle}
use Rattle.mr_tree.specs.Digest.{Scheme}
use Rattle.mr_proof.specs.declared.rule.Fault.{Fault}
use Rattle.mr_proof.specs.Clash as clashes
use Rattle.mr_proof.specs.Clash.{IsCollision}
use Rattle.mr_count.specs.declared.finding.ChoiceFinding.{ChoiceFinding}
use Rattle.mr_count.specs.declared.finding.ChoiceFinding.TheVariants as choices
use Rattle.mr_count.specs.declared.taken.Taken.{Taken}
use Rattle.mr_clash.specs.declared.error.AuditErr.{AuditErr}
use Rattle.mr_clash.specs.declared.error.AuditErr.TheVariants as audits
use Rattle.mr_join.specs.declared.fault.JoinErr.{JoinErr}
use Rattle.mr_join.specs.declared.fault.JoinErr.TheVariants as errors
use Rattle.mr_join.specs.declared.fault.JoinFault.TheVariants as faults
use Rattle.mr_join.specs.declared.finding.JoinFinding.{JoinFinding}
use Rattle.mr_join.specs.declared.finding.JoinFinding.TheVariants as findings
use Rattle.mr_join.specs.declared.finding.Worth.{Worth}
use Rattle.mr_join.specs.declared.finding.Worth.TheVariants as worths
use Rattle.mr_join.specs.declared.pair.Pair.{Pair}
use Rattle.mr_join.specs.Frame.{Frame}
use Rattle.mr_join.specs.Verdict.{part_verdict, frame_verdict}
use Rattle.mr_join.specs.Finding.{finding_of}
use Rattle.mr_join.specs.Accepted.{Owned, held, part_clash, first_part_clash}

abbrev pub worth_of : ChoiceFinding → Worth
worth_of (choices.Refused f) = worths.Refused f
worth_of (choices.Sound x) = worths.Sound
worth_of (choices.Collision owned shown) = worths.Collision owned shown

-- by the verdict on a part and its strings
abbrev pub worth_by : Result Taken Fault → Option clashes.Pair → Worth
worth_by (Err f) pair = worths.Refused f
worth_by (Ok x) None = worths.Sound
worth_by (Ok x) (Some p) = worths.Collision p.owned p.shown

abbrev pub part_worth : Scheme → Owned → List Rectangle → List ℕ → Worth
part_worth s m list bytes = worth_by (part_verdict (held s m) list bytes) (part_clash s m bytes)

-- of the first part, which is not there where there is no rectangle
abbrev pub first_worth : Scheme → Owned → Option Rectangle → List ℕ → Worth
first_worth s m None bytes = worths.Sound
first_worth s m (Some w) bytes = part_worth s m (w ∷ []) bytes

abbrev pub Collides : (List ℕ → List ℕ) → Worth → Type 0
Collides hash (worths.Collision owned shown) =
    IsCollision hash (record { owned = owned; shown = shown })
Collides hash _ = ⊤

-- the finding by the worth of the second part, where the first part is sound
abbrev pub behind : Worth → List Pair → JoinFinding
behind (worths.Refused f) pairs = findings.Refused (faults.Second f)
behind worths.Sound pairs = findings.Sound pairs
behind (worths.Collision owned shown) pairs = findings.Second owned shown

-- by the worth of both
abbrev pub finding_of_worths : Worth → Worth → List Pair → JoinFinding
finding_of_worths (worths.Refused f) second pairs = findings.Refused (faults.First f)
finding_of_worths (worths.Collision owned shown) second pairs = findings.First owned shown
finding_of_worths worths.Sound second pairs = behind second pairs

-- what is answered where the parts give no pairs
abbrev pub Declines : JoinErr → Result JoinFinding AuditErr → Type 0
Declines (errors.Fault f) result = result ≡ Ok (findings.Refused f)
Declines errors.NoMemory result = result ≡ Err audits.NoMemory

-- the finding of the frame's parts
abbrev pub FindsFrame : Scheme → Scheme → Owned → Owned → (at : ℕ) → Frame → JoinFinding → Type 0
FindsFrame s v m n at x finding = finding
    ≡ finding_of (frame_verdict (held s m) (held v n) at x) (first_part_clash s m x.rect x.first)
    (part_clash v n x.second)
