-- What private functions do. Nothing of this has to be believed: no public contract cites it.
use Rattle.std.specs.Prelude.{◌≡◌, Result, Ok, Err}
use Rattle.mr_check.specs.declared.error.CheckErr.{CheckErr}
use Rattle.mr_check.specs.declared.error.CheckErr.TheVariants as checks
use Rattle.mr_check.specs.declared.outline.Collected.{Collected}
use Rattle.mr_clash.specs.declared.question_finding.QuestionFinding.{QuestionFinding}
use Rattle.mr_clash.specs.declared.question_finding.QuestionFinding.TheVariants as question_findings
use Rattle.mr_count.specs.declared.error.ChoiceErr.{ChoiceErr}
use Rattle.mr_count.specs.declared.error.ChoiceErr.TheVariants as errors
use Rattle.mr_count.specs.declared.finding.ChoiceFinding.{ChoiceFinding}
use Rattle.mr_count.specs.declared.finding.ChoiceFinding.TheVariants as findings
use Rattle.mr_count.specs.declared.taken.Taken.{Taken}

-- what is given of what a proof shows
pub record GivesCollected (o : Collected) (x : Taken) : Type 0 where
  pub count : x.count ≡ o.outline.head.count
  pub rect : x.rect ≡ o.outline.rect
  pub whole : x.whole ≡ o.outline.whole
  pub records : x.records ≡ o.records.items

-- what is answered where the check for the choice's question answers this
abbrev pub AnswersAs : Result Collected CheckErr → Result Taken ChoiceErr → Type 0
AnswersAs (Ok o) result = (x : Taken) × (result ≡ Ok x) × GivesCollected o x
AnswersAs (Err (checks.Fault f)) result = result ≡ Err (errors.Fault f)
AnswersAs (Err checks.NoMemory) result = result ≡ Err errors.NoMemory

-- the finding for a choice, by that for its question
abbrev pub FindsOf : QuestionFinding → ChoiceFinding → Type 0
FindsOf (question_findings.Refused f) finding = finding ≡ findings.Refused f
FindsOf (question_findings.Sound o) finding =
    (x : Taken) × (finding ≡ findings.Sound x) × GivesCollected o x
FindsOf (question_findings.Collision owned shown) finding = finding
    ≡ findings.Collision owned shown
