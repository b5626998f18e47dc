-- Just the honest proof is found to be sound, whatever it has to show.
use Rattle.std.proofs.Common.{◌≡◌, ℕ, ◌<◌, ◌^◌, List, sym, ap, subst, ◌∙◌}
use Rattle.std.specs.Prelude.{Option, Some, None, IfSome, Result, Ok, Err, IfOk}
use Rattle.std.proofs.Math.Logic.{∥∥₁_elim}
use Rattle.std.proofs.Props.{props}
use Rattle.mr_tree.specs.Digest.{Scheme, by}
use Rattle.mr_tree.specs.Digest as digests
use Rattle.mr_tree.specs.Nodes.{MapModel, IsTop}
use Rattle.mr_tree.specs.WellFormed.{WellFormed, HasLayers}
use Rattle.mr_record.specs.declared.version.Version.{Version}
use Rattle.mr_record.specs.declared.version.Version.TheVariants.{One, Two}
use Rattle.mr_tree.specs.declared.nodes.Top.{Top}
use Rattle.mr_tree.specs.declared.tree.Tree.{Tree}
use Rattle.mr_proof.specs.declared.rule.Fault.{Fault}
use Rattle.mr_proof.specs.Tight.{Question, MayCome}
use Rattle.mr_proof.specs.Honest.{honest_said, IsProofFor}
use Rattle.mr_proof.specs.Spelling.{Parsed}
use Rattle.mr_proof.specs.Reading.{checked}
use Rattle.mr_proof.specs.Clash.{Pair, clash_of, NoneAnd}
use Rattle.mr_proof.specs.Halves.{AcceptsHonestProof}
use Rattle.mr_proof.specs.Headline.{AcceptedMatchesHonest, HonestProofIsQuiet}
use Rattle.mr_clash.specs.declared.error.AuditErr.{AuditErr}
use Rattle.mr_clash.specs.declared.question_finding.QuestionFinding.{QuestionFinding}
use Rattle.mr_clash.specs.declared.question_finding.QuestionFinding.TheVariants as question_findings
use Rattle.mr_clash.specs.QuestionFindings.{IsQuestionFinding, IsSoundProof, FindsHonestProof}

none_and : {K : Type 0} (hash : List ℕ → List ℕ) (o : Option Pair) → o ≡ None → NoneAnd hash o K → K
none_and hash None e k = k
none_and hash (Some p) e k = absurd cc

abbrev passed : Parsed → Result Parsed Fault
passed x = Ok x

abbrev failed : Fault → Result Parsed Fault
failed f = Err f

not_both : (x : Parsed) (f : Fault) → passed x ≡ failed f → ⊥
not_both x f e = cc

abbrev shown : Pair → Option Pair
shown p = Some p

not_shown : (p : Pair) → shown p ≡ None → ⊥
not_shown p e = cc

module _ (h : Scheme) (a : Question) (t : Tree) (b : ℕ) (bytes : List ℕ) (well : WellFormed t)
    (layers : HasLayers h.version t) (low : b < 2 ^ 64)
    (accepts : AcceptsHonestProof h a) (matches : AcceptedMatchesHonest h a bytes) (quiet : HonestProofIsQuiet h a)
  where
    sound_is_own : (v : QuestionFinding)
        → IsQuestionFinding h t b a bytes v → IsSoundProof v → IsProofFor h a t b bytes
    sound_is_own (question_findings.Refused f) is sound = absurd sound
    sound_is_own (question_findings.Sound o) is sound =
        (none_and h.of (clash_of a.kind h t b bytes) is.3 (matches t b is.0 well layers low is.1)).own
    sound_is_own (question_findings.Collision owned shown) is sound = absurd sound

    own_checked : IsProofFor h a t b bytes
        → checked h.of (digests.root h t b) a bytes ≡ passed (honest_said h a t b)
    own_checked is = ap (checked h.of (digests.root h t b) a) is.own ∙ accepts t b is.may_come well layers low

    own_is_sound : (v : QuestionFinding)
        → IsQuestionFinding h t b a bytes v → IsProofFor h a t b bytes → IsSoundProof v
    own_is_sound (question_findings.Refused f) is own =
        absurd (not_both (honest_said h a t b) f (sym (own_checked own) ∙ is))
    own_is_sound (question_findings.Sound o) is own = tt
    own_is_sound (question_findings.Collision owned shown) is own =
        absurd (not_shown (record { owned = owned; shown = shown })
        (sym is.2 ∙ ap (clash_of a.kind h t b) own.own ∙ quiet t b own.may_come well layers low))

    pub finds_honest_proof : (v : QuestionFinding)
        → IsQuestionFinding h t b a bytes v → FindsHonestProof h t b a bytes v
    finds_honest_proof v is = (sound_is_own v is, own_is_sound v is)

may_prop : (a : Question) (v : Version) → IsProp (MayCome a v)
may_prop a One = hlevel props
may_prop a Two = hlevel props

pub proof_prop : (h : Scheme) (a : Question) (t : Tree) (b : ℕ) (bytes : List ℕ) → IsProp (IsProofFor h a t b bytes)
proof_prop h a t b bytes = hlevel (props, may_prop a h.version)

finds_prop : (h : Scheme) (t : Tree) (b : ℕ) (a : Question) (bytes : List ℕ) (v : QuestionFinding)
    → IsProp (FindsHonestProof h t b a bytes v)
finds_prop h t b a bytes (question_findings.Refused f) = hlevel (props, proof_prop h a t b bytes)
finds_prop h t b a bytes (question_findings.Sound o) = hlevel (props, proof_prop h a t b bytes)
finds_prop h t b a bytes (question_findings.Collision owned shown) = hlevel (props, proof_prop h a t b bytes)

answered_prop : (h : Scheme) (t : Tree) (b : ℕ) (a : Question) (bytes : List ℕ) (r : Result QuestionFinding AuditErr)
    → IsProp (IfOk r (FindsHonestProof h t b a bytes))
answered_prop h t b a bytes (Ok v) = finds_prop h t b a bytes v
answered_prop h t b a bytes (Err e) = hlevel props

-- so of what is found by a told tree, which is well formed and has the layers of its version
pub honest_proof_told : (hash : List ℕ → List ℕ) (a : Question) (bytes : List ℕ) (s : MapModel) (top : Top)
    (r : Result QuestionFinding AuditErr) → IsTop hash s top → top.batch < 2 ^ 64
    → AcceptsHonestProof (by s.version hash) a → AcceptedMatchesHonest (by s.version hash) a bytes
    → HonestProofIsQuiet (by s.version hash) a → IfSome s.tree (λ t. ∥ WellFormed t ∥₁)
    → IfSome s.tree (HasLayers s.version)
    → IfSome s.tree (λ t. IfOk r (IsQuestionFinding (by s.version hash) t s.batch a bytes))
    → IfSome s.tree (λ t. IfOk r (FindsHonestProof (by s.version hash) t s.batch a bytes))
honest_proof_told hash a bytes s top r is low accepts matches quiet wells layers told =
    by_tree s.tree wells layers told
  where
    found_so : (t : Tree) → WellFormed t → HasLayers s.version t → (r : Result QuestionFinding AuditErr)
        → IfOk r (IsQuestionFinding (by s.version hash) t s.batch a bytes)
        → IfOk r (FindsHonestProof (by s.version hash) t s.batch a bytes)
    found_so t well layers (Err e) told = tt
    found_so t well layers (Ok v) told = finds_honest_proof (by s.version hash) a t s.batch bytes well layers
        (subst (λ n. n < 2 ^ 64) is.batch low) accepts matches quiet v told

    by_tree : (o : Option Tree) → IfSome o (λ t. ∥ WellFormed t ∥₁) → IfSome o (HasLayers s.version)
        → IfSome o (λ t. IfOk r (IsQuestionFinding (by s.version hash) t s.batch a bytes))
        → IfSome o (λ t. IfOk r (FindsHonestProof (by s.version hash) t s.batch a bytes))
    by_tree None wells layers told = tt
    by_tree (Some t) wells layers told =
        ∥∥₁_elim wells (answered_prop (by s.version hash) t s.batch a bytes r) (λ well.
        found_so t well layers r told)
