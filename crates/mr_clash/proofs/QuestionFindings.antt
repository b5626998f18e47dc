-- What an audit finds, whatever is asked.
use Rattle.std.proofs.Common.{◌≡◌, ℕ, ◌+◌, ◌≤◌, List, refl, sym, ap, subst, ◌∙◌, arith}
use Rattle.std.specs.Prelude.{Option, Some, None, IfSome, Result, Ok, Err, IfOk}
use Rattle.mr_tree.specs.Digest.{Scheme, by}
use Rattle.mr_tree.specs.Digest as digests
use Rattle.mr_tree.specs.Nodes.{MapModel, IsTop}
use Rattle.mr_tree.specs.declared.nodes.Top.{Top}
use Rattle.mr_tree.specs.declared.tree.Tree.{Tree}
use Rattle.mr_proof.specs.declared.rule.Fault.{Fault}
use Rattle.mr_proof.specs.Tight.{Question}
use Rattle.mr_proof.specs.Honest.{opened_of}
use Rattle.mr_proof.specs.Spelling.{Parsed}
use Rattle.mr_proof.specs.Reading.{checked}
use Rattle.mr_proof.specs.Clash.{Pair, clash_of}
use Rattle.mr_check.specs.declared.error.CheckErr.{CheckErr}
use Rattle.mr_check.specs.declared.error.CheckErr.TheVariants as errors
use Rattle.mr_check.specs.declared.outline.Collected.{Collected}
use Rattle.mr_check.specs.Judged.{IsCollected, AnswersCollected}
use Rattle.mr_clash.specs.Finding.{root_at}
use Rattle.mr_clash.specs.Causes.{AuditCauses}
use Rattle.mr_clash.specs.declared.question_finding.QuestionFinding.{QuestionFinding}
use Rattle.mr_clash.specs.declared.error.AuditErr.{AuditErr}
use Rattle.mr_clash.specs.QuestionFindings.{IsQuestionFindingBy, IsQuestionFinding, QuestionFindingFor, QuestionFindingCollides, opened_checked, opened_checked_by, FetchesFor, DeclinesCheck, QuestionFindingOf}
use Rattle.mr_clash.specs.private.Steps.{IsClash, AreByteStrings}
use Rattle.mr_clash.proofs.Roots.{root_told}

-- ---- by the verdict and the pair

question_finding_by : (a : Question) (r : Result Parsed Fault) (x : Parsed) (o : Collected) (found pair : Option Pair)
    (question_finding : QuestionFinding)
    → r ≡ Ok x → IsCollected x a o → found ≡ pair → QuestionFindingOf o pair question_finding
    → IsQuestionFindingBy a r found question_finding
question_finding_by a r x o found None question_finding e is same of =
    subst (IsQuestionFindingBy a r found) (sym of) (x, e, is, same)
question_finding_by a r x o found (Some p) question_finding e is same of =
    subst (IsQuestionFindingBy a r found) (sym of) (x, e, same)

pub question_finding_collides : (hash : List ℕ → List ℕ) (o : Collected) (pair : Option Pair)
    (question_finding : QuestionFinding)
    → IfSome pair (IsClash hash) → IfSome pair AreByteStrings → QuestionFindingOf o pair question_finding
    → QuestionFindingCollides hash question_finding
question_finding_collides hash o None question_finding clash bytes of =
    subst (QuestionFindingCollides hash) (sym of) tt
question_finding_collides hash o (Some p) question_finding clash bytes of =
    subst (QuestionFindingCollides hash) (sym of)
    (record { differ = clash.apart; same = clash.same; owned_bytes = bytes.0; shown_bytes = bytes.1 })

-- ---- bytes that are not accepted

module _ (hash : List ℕ → List ℕ) (s : MapModel) (top : Top) (a : Question) (bytes root : List ℕ)
    (is : IsTop hash s top)
    (e : root ≡ hash (root_at top)) where
  checked_is : (t : Tree) → s.tree ≡ Some t → checked hash (digests.root (by s.version hash) t s.batch) a bytes
      ≡ checked hash root a bytes
  checked_is t told = ap (λ r. checked hash r a bytes) (sym (e ∙ ap hash (root_told hash s top t is told)))

  pub declined_told : (error : CheckErr) (r : Result QuestionFinding AuditErr)
      → AnswersCollected hash root a bytes (Err error)
      → DeclinesCheck error r → IfSome s.tree (λ t. IfOk r (IsQuestionFinding (by s.version hash) t s.batch a bytes))
  declined_told error r exact declines = by_tree s.tree refl error exact declines
    where
      by_tree : (o : Option Tree) → s.tree ≡ o → (error : CheckErr) → AnswersCollected hash root a bytes (Err error)
          → DeclinesCheck error r → IfSome o (λ t. IfOk r (IsQuestionFinding (by s.version hash) t s.batch a bytes))
      by_tree None told error exact declines = tt
      by_tree (Some t) told (errors.Fault f) exact declines =
          subst (λ (r : Result QuestionFinding AuditErr). IfOk r (IsQuestionFinding (by s.version hash) t s.batch a
          bytes))
          (sym declines)
          (checked_is t told ∙ exact)
      by_tree (Some t) told errors.NoMemory exact declines =
          subst (λ (r : Result QuestionFinding AuditErr). IfOk r (IsQuestionFinding (by s.version hash) t s.batch a
          bytes))
          (sym declines)
          tt

  pub declined_for : (error : CheckErr) (r : Result QuestionFinding AuditErr)
      → AnswersCollected hash root a bytes (Err error)
      → DeclinesCheck error r → IfOk r (QuestionFindingFor hash s top a bytes)
  declined_for (errors.Fault f) r exact declines =
      subst (λ (r : Result QuestionFinding AuditErr). IfOk r (QuestionFindingFor hash s top a bytes)) (sym declines)
      (is, None, ap (λ x. checked hash x a bytes) (sym e) ∙ exact)
  declined_for errors.NoMemory r exact declines =
      subst (λ (r : Result QuestionFinding AuditErr). IfOk r (QuestionFindingFor hash s top a bytes)) (sym declines) tt

  -- ---- bytes that are accepted

  pub accepted_told : (o : Collected) (pair : Option Pair) (question_finding : QuestionFinding)
      → AnswersCollected hash root a bytes (Ok o)
      → IfSome s.tree (λ t. pair ≡ clash_of a.kind (by s.version hash) t s.batch bytes)
      → QuestionFindingOf o pair question_finding
      → IfSome s.tree (λ t. IsQuestionFinding (by s.version hash) t s.batch a bytes question_finding)
  accepted_told o pair question_finding g own of = by_tree s.tree refl own
    where
      by_tree : (z : Option Tree) → s.tree ≡ z
          → IfSome z (λ t. pair ≡ clash_of a.kind (by s.version hash) t s.batch bytes)
          → IfSome z (λ t. IsQuestionFinding (by s.version hash) t s.batch a bytes question_finding)
      by_tree None told own = tt
      by_tree (Some t) told own =
          question_finding_by a (checked hash (digests.root (by s.version hash) t s.batch) a bytes) g.0 o
          (clash_of a.kind (by s.version hash) t s.batch bytes) pair question_finding (checked_is t told ∙ g.1) g.2
          (sym own) of

  pub accepted_for : (o : Collected) (pair : Option Pair) (question_finding : QuestionFinding)
      → AnswersCollected hash root a bytes (Ok o)
      → QuestionFindingOf o pair question_finding → QuestionFindingFor hash s top a bytes question_finding
  accepted_for o pair question_finding g of = (
    is,
    pair,
    question_finding_by a (checked hash (hash (root_at top)) a bytes) g.0 o pair pair question_finding
        (ap (λ x. checked hash x a bytes) (sym e) ∙ g.1) g.2 refl of,
  )

  pub few_opened : (x : Parsed) (old new : ℕ) → checked hash root a bytes ≡ Ok x → new ≤ old + opened_of x.part
      → IfSome s.tree (λ t. new ≤ old + opened_checked_by (by s.version hash) t s.batch a bytes)
  few_opened x old new exact few = by_tree s.tree refl
    where
      by_tree : (z : Option Tree) → s.tree ≡ z
          → IfSome z (λ t. new ≤ old + opened_checked_by (by s.version hash) t s.batch a bytes)
      by_tree None told = tt
      by_tree (Some t) told =
          let is_verdict = ap opened_checked (checked_is t told ∙ exact) in omega (arith, is_verdict, few)

  pub few_for : (x : Parsed) (old new : ℕ) → checked hash root a bytes ≡ Ok x → new ≤ old + opened_of x.part
      → FetchesFor hash s top a bytes old new
  few_for x old new exact few =
      let is_verdict : opened_checked (checked hash (hash (root_at top)) a bytes) ≡ opened_of x.part =
      ap opened_checked (ap (λ r. checked hash r a bytes) (sym e) ∙ exact) in
      (is, omega (arith, is_verdict, few))

  pub none_for : (n : ℕ) → FetchesFor hash s top a bytes n n
  none_for n = (is, omega arith)

pub declined_causes : (s : MapModel) (n : ℕ) (error : CheckErr) (r : Result QuestionFinding AuditErr) → DeclinesCheck
    error r
    → AuditCauses s n n r
declined_causes s n (errors.Fault f) r declines =
    subst (AuditCauses s n n) (sym declines) (record { cause = tt; faults = omega arith; quiet = refl })
declined_causes s n errors.NoMemory r declines =
    subst (AuditCauses s n n) (sym declines) (record { cause = tt; faults = omega arith; quiet = tt })

pub declined_collides : (hash : List ℕ → List ℕ) (error : CheckErr) (r : Result QuestionFinding AuditErr)
    → DeclinesCheck error r
    → IfOk r (QuestionFindingCollides hash)
declined_collides hash (errors.Fault f) r declines =
    subst (λ (r : Result QuestionFinding AuditErr). IfOk r (QuestionFindingCollides hash)) (sym declines) tt
declined_collides hash errors.NoMemory r declines =
    subst (λ (r : Result QuestionFinding AuditErr). IfOk r (QuestionFindingCollides hash)) (sym declines) tt
