-- What the command `check` says of a proof, by what the check answers for it.
use Rattle.std.proofs.Common.{◌≡◌, ℕ, List, length, refl, sym, ap, subst, ◌∙◌, arith}
use Rattle.std.specs.Prelude.{Result, Ok, Err}
use Rattle.mr_record.specs.declared.record.Record.{Record}
use Rattle.mr_record.specs.declared.text_fault.TextFault.{TextFault}
use Rattle.mr_record.specs.declared.version.Version.{Version}
use Rattle.mr_tree.specs.declared.tree.Tree.{Tree}
use Rattle.mr_query.specs.declared.key.Key.{Key}
use Rattle.mr_query.specs.declared.query.Query.{Query}
use Rattle.mr_proof.specs.declared.way.Way.{Way}
use Rattle.mr_proof.specs.declared.rule.Fault.{Fault}
use Rattle.mr_check.specs.declared.error.CheckErr.{CheckErr}
use Rattle.mr_check.specs.Answers.{AnswersVerdict}
use Rattle.mr_check.specs.Versions.{proof_version}
use Rattle.mr_proof.specs.Halves.{AcceptsHonest}
use Rattle.mr_proof.specs.Honest.{proof}
use Rattle.mr_proof.specs.Reading.{verdict}
use Rattle.mr_proof.specs.Tight.{MayCome, question}
use Rattle.mr_query.specs.Scan.{scan}
use Rattle.mr_tree.specs.Tree.{records}
use Rattle.mr_record.specs.declared.version.Version.TheVariants.{One}
use Rattle.mr_tree.specs.Digest.{by}
use Rattle.mr_tree.specs.WellFormed.{WellFormed, HasLayers}
use Rattle.mr_clash.specs.Finding.{found}
use Rattle.mr_clash.specs.declared.finding.Finding.{Finding}
use Rattle.mr_clash.specs.declared.finding.Finding.TheVariants as findings
use Rattle.mr_count.specs.declared.finding.ChoiceFinding.{ChoiceFinding}
use Rattle.mr_count.specs.declared.finding.ChoiceFinding.TheVariants as counts
use Rattle.mr_count.specs.declared.taken.Taken.{Taken}
use Rattle.mr_plan.specs.Counts.{count_found, count_verdict}
use Rattle.mr_command.specs.Answer.{IsSettled}
use Rattle.mr_plan.specs.First.{first, first_map}
use Rattle.mr_command.specs.Ending.{IsEndingOf, printed_of}
use Rattle.mr_plan.specs.Outcome.{Outcome, Nothing}
use Rattle.mr_plan.specs.Say.{say_verdict, say_check_of, say_count_verdict, say_check_count_of, say_finding, say_audit_of, say_count_finding, say_audit_count_of, say_root_of}
use Rattle.mr_command.specs.declared.ending.Ending.{Ending}
use Rattle.mr_pages.specs.declared.opening.Opened.{Opened}
use Rattle.mr_pages.specs.Law.{map_root}

-- the error that it answers, as one of these
pub checks_as : (hash : List ℕ → List ℕ) (root : List ℕ) (q : Query) (bytes : List ℕ)
    (a b : CheckErr) → a ≡ b
    → AnswersVerdict (Err a) (verdict hash root q bytes)
    → AnswersVerdict (Err b) (verdict hash root q bytes)
checks_as hash root q bytes a b e =
    subst (λ error. AnswersVerdict (Err error) (verdict hash root q bytes)) e

pub says_verdict : (hash : List ℕ → List ℕ) (root : List ℕ) (q : Query) (bytes : List ℕ)
    (v : Result (List Record) Fault) → verdict hash root q bytes ≡ v
    → say_check_of hash root q bytes ≡ say_verdict (proof_version bytes) v
unfolding say_check_of
says_verdict hash root q bytes v is = ap (say_verdict (proof_version bytes)) is

-- an ending of this status and text
pub gives : (said : Outcome) (ending : Ending) → IsSettled said.status → ending.status ≡ said.status
    → printed_of ending ≡ said.printed → IsEndingOf said ending
gives said ending settled status printed = record
    { status = status; printed = printed; settled = subst IsSettled (sym status) settled }

verdict_writes : (version : Version) (v : Result (List Record) Fault) → (say_verdict version v).written ≡ Nothing
verdict_writes version (Ok answer) = refl
verdict_writes version (Err fault) = refl

-- the command `check` writes no file
pub check_writes : (hash : List ℕ → List ℕ) (root : List ℕ) (q : Query) (bytes : List ℕ)
    → (say_check_of hash root q bytes).written ≡ Nothing
unfolding say_check_of
check_writes hash root q bytes = verdict_writes (proof_version bytes) (verdict hash root q bytes)

pub finding_writes : (v : Version) (f : Finding) → (say_finding v f).written ≡ Nothing
finding_writes v (findings.Refused fault) = refl
finding_writes v (findings.Sound answer) = refl
finding_writes v (findings.Collision owned shown) = refl

-- of a count
pub says_count_verdict : (hash : List ℕ → List ℕ) (root : List ℕ) (way : Key → Way) (bytes : List ℕ)
    (v : Result Taken Fault) → count_verdict hash root way bytes ≡ v
    → say_check_count_of hash root way bytes ≡ say_count_verdict way v
unfolding say_check_count_of
says_count_verdict hash root way bytes v is = ap (say_count_verdict way) is

count_verdict_writes : (way : Key → Way) (v : Result Taken Fault) → (say_count_verdict way v).written ≡ Nothing
count_verdict_writes way (Ok taken) = refl
count_verdict_writes way (Err fault) = refl

pub check_count_writes : (hash : List ℕ → List ℕ) (root : List ℕ) (way : Key → Way) (bytes : List ℕ)
    → (say_check_count_of hash root way bytes).written ≡ Nothing
unfolding say_check_count_of
check_count_writes hash root way bytes = count_verdict_writes way (count_verdict hash root way bytes)

pub count_finding_writes : (way : Key → Way) (f : ChoiceFinding) → (say_count_finding way f).written ≡ Nothing
count_finding_writes way (counts.Refused fault) = refl
count_finding_writes way (counts.Sound taken) = refl
count_finding_writes way (counts.Collision owned shown) = refl

pub audit_count_writes : (hash : List ℕ → List ℕ) (way : Key → Way) (map : Opened) (bytes : List ℕ)
    → (say_audit_count_of hash way map bytes).written ≡ Nothing
unfolding say_audit_count_of
audit_count_writes hash way map bytes =
    count_finding_writes way (count_found (by map.version hash) map.tree map.batch way bytes)

pub says_count_finding : (hash : List ℕ → List ℕ) (way : Key → Way) (map : Opened) (bytes : List ℕ) (f : ChoiceFinding)
    → f ≡ count_found (by map.version hash) map.tree map.batch way bytes
    → say_count_finding way f ≡ say_audit_count_of hash way map bytes
unfolding say_audit_count_of
says_count_finding hash way map bytes f is = ap (say_count_finding way) is

-- nor does the command `root`
pub root_writes : (v : Version) (hash : List ℕ → List ℕ) (found : Result (List Record) TextFault)
    → (say_root_of v hash found).written ≡ Nothing
root_writes v hash (Ok records) = refl
root_writes v hash (Err fault) = refl

-- nor does the command `audit`
pub audit_writes : (hash : List ℕ → List ℕ) (q : Query) (map : Opened) (bytes : List ℕ)
    → (say_audit_of hash q map bytes).written ≡ Nothing
unfolding say_audit_of
audit_writes hash q map bytes =
    finding_writes (proof_version bytes) (found (by map.version hash) map.tree map.batch q bytes)

pub says_finding : (hash : List ℕ → List ℕ) (q : Query) (map : Opened) (bytes : List ℕ) (f : Finding)
    → f ≡ found (by map.version hash) map.tree map.batch q bytes
    → say_finding (proof_version bytes) f ≡ say_audit_of hash q map bytes
unfolding say_audit_of
says_finding hash q map bytes f is = ap (say_finding (proof_version bytes)) is

-- the honest proof is accepted with the answer of a scan
pub accepted_scan : (hash : List ℕ → List ℕ) (q : Query) (t : Tree) (root bytes : List ℕ)
    → AcceptsHonest (first hash) q → MayCome (question q) One → WellFormed t → HasLayers One t
    → root ≡ map_root hash (first_map t 0) → bytes ≡ proof (first hash) t 0 q
    → verdict hash root q bytes ≡ Ok (scan (records t) q)
accepted_scan hash q t root bytes accepts may well layers roots own =
    (λ i. verdict hash (roots i) q (own i)) ∙ accepts t 0 may well layers (omega arith)

abbrev Verdict : Type 0
Verdict = Result (List Record) Fault

same_answer : (a b : List Record) → ◌≡◌ {A = Verdict} (Ok a) (Ok b) → a ≡ b
same_answer a b e = cc

-- what is answered is as long as the scan
pub answer_length : (v : Verdict) (answer scanned : List Record) → v ≡ Ok answer → v ≡ Ok scanned
    → length answer ≡ length scanned
answer_length v answer scanned was is = ap length (same_answer answer scanned (sym was ∙ is))

-- and is no fault
pub no_fault : (v : Verdict) (fault : Fault) (scanned : List Record) → v ≡ Err fault → v ≡ Ok scanned → ⊥
no_fault v fault scanned was is = absurd cc
