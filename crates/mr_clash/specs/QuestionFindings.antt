-- What the audit of a proof finds, whatever the proof has to show.
use Rattle.std.specs.Prelude.{◌≡◌, ◌↔◌, ℕ, ◌+◌, ◌≤◌, List, Option, Some, None, Result, Ok, Err, ⊤}
use Rattle.mr_tree.specs.Digest.{Scheme, root}
use Rattle.mr_tree.specs.Nodes.{MapModel, IsTop}
use Rattle.mr_tree.specs.declared.nodes.Top.{Top}
use Rattle.mr_tree.specs.declared.tree.Tree.{Tree}
use Rattle.mr_proof.specs.declared.rule.Fault.{Fault}
use Rattle.mr_proof.specs.Tight.{Question}
use Rattle.mr_proof.specs.Honest.{opened_of, IsProofFor}
use Rattle.mr_proof.specs.Spelling.{Parsed}
use Rattle.mr_proof.specs.Reading.{checked}
use Rattle.mr_proof.specs.Clash.{Pair, clash_of, IsCollision}
use Rattle.mr_check.specs.declared.error.CheckErr.{CheckErr}
use Rattle.mr_check.specs.declared.error.CheckErr.TheVariants as errors
use Rattle.mr_check.specs.declared.outline.Collected.{Collected}
use Rattle.mr_check.specs.Judged.{IsCollected}
use Rattle.mr_clash.specs.Finding.{root_at}
use Rattle.mr_record.specs.declared.record.Record.{Record}
use Rattle.mr_query.specs.declared.query.Query.{Query}
use Rattle.mr_query.specs.Scan.{scan}
use Rattle.mr_clash.specs.declared.finding.Finding.{Finding}
use Rattle.mr_clash.specs.declared.finding.Finding.TheVariants as findings
use Rattle.mr_clash.specs.declared.question_finding.QuestionFinding.{QuestionFinding}
use Rattle.mr_clash.specs.declared.question_finding.QuestionFinding.TheVariants as question_findings
use Rattle.mr_clash.specs.declared.error.AuditErr.{AuditErr}
use Rattle.mr_clash.specs.declared.error.AuditErr.TheVariants as audits

-- what is found of bytes by their verdict and the pair that they show, where they are accepted
abbrev pub IsQuestionFindingBy : Question → Result Parsed Fault → Option Pair → QuestionFinding
    → Type 0
IsQuestionFindingBy a verdict pair (question_findings.Refused f) = verdict ≡ Err f
IsQuestionFindingBy a verdict pair (question_findings.Sound o) =
    (x : Parsed) × (verdict ≡ Ok x) × IsCollected x a o × (pair ≡ None)
IsQuestionFindingBy a verdict pair (question_findings.Collision owned shown) =
    (x : Parsed) × (verdict ≡ Ok x) × (pair ≡ Some (record { owned = owned; shown = shown }))

-- of the map with this tree at this batch, what is asked, and bytes that are offered as a proof
abbrev pub IsQuestionFinding : Scheme → Tree → (batch : ℕ) → Question → List ℕ → QuestionFinding
    → Type 0
IsQuestionFinding s t batch a bytes question_finding =
    IsQuestionFindingBy a (checked s.of (root s t batch) a bytes) (clash_of a.kind s t batch bytes)
    question_finding

-- it is said to be the honest proof
abbrev pub IsSoundProof : QuestionFinding → Type 0
IsSoundProof (question_findings.Sound o) = ⊤
IsSoundProof _ = ⊥

-- just the honest proof is found to be sound
abbrev pub FindsHonestProof : Scheme → Tree → (batch : ℕ) → Question → List ℕ → QuestionFinding
    → Type 0
FindsHonestProof s t batch a bytes finding =
    IsSoundProof finding ↔ IsProofFor s a t batch bytes

-- told or not: by the verdict against the root digest of what a map that stands so says of itself,
-- which is this
abbrev pub QuestionFindingFor : (List ℕ → List ℕ) → MapModel → Top → Question → List ℕ
    → QuestionFinding → Type 0
QuestionFindingFor hash s top a bytes question_finding = IsTop hash s top × (pair : Option Pair)
    × IsQuestionFindingBy a (checked hash (hash (root_at top)) a bytes) pair question_finding

-- two byte strings that are shown differ and have one hash
abbrev pub QuestionFindingCollides : (List ℕ → List ℕ) → QuestionFinding → Type 0
QuestionFindingCollides hash (question_findings.Collision owned shown) =
    IsCollision hash (record { owned = owned; shown = shown })
QuestionFindingCollides hash _ = ⊤

-- the number of nodes that accepted bytes open; those that are refused open none
abbrev pub opened_checked : Result Parsed Fault → ℕ
opened_checked (Ok x) = opened_of x.part
opened_checked (Err f) = 0

abbrev pub opened_checked_by : Scheme → Tree → (batch : ℕ) → Question → List ℕ → ℕ
opened_checked_by s t batch a bytes = opened_checked (checked s.of (root s t batch) a bytes)

-- told or not, no more nodes are fetched between these counts than accepted bytes open, by the
-- verdict against the root digest of what a map that stands so says of itself, which is this
abbrev pub FetchesFor : (List ℕ → List ℕ) → MapModel → Top → Question → List ℕ → (before after : ℕ)
    → Type 0
FetchesFor hash s top a bytes before after = IsTop hash s top
    × (after ≤ before + opened_checked (checked hash (hash (root_at top)) a bytes))

-- ---- for private functions

-- what is answered where the check of a proof answers this error
abbrev pub DeclinesCheck : CheckErr → Result QuestionFinding AuditErr → Type 0
DeclinesCheck (errors.Fault f) result = result ≡ Ok (question_findings.Refused f)
DeclinesCheck errors.NoMemory result = result ≡ Err audits.NoMemory

-- what is found of accepted bytes that show this, by the pair
abbrev pub QuestionFindingOf : Collected → Option Pair → QuestionFinding → Type 0
QuestionFindingOf o None question_finding = question_finding ≡ question_findings.Sound o
QuestionFindingOf o (Some p) question_finding = question_finding
    ≡ question_findings.Collision p.owned p.shown

-- the finding for a query, by that for its question
abbrev pub FindsOf : Query → QuestionFinding → Finding → Type 0
FindsOf q (question_findings.Refused f) finding = finding ≡ findings.Refused f
FindsOf q (question_findings.Sound o) finding =
    (answer : List Record) × (finding ≡ findings.Sound answer) × (answer ≡ scan o.records.items q)
FindsOf q (question_findings.Collision owned shown) finding = finding
    ≡ findings.Collision owned shown
