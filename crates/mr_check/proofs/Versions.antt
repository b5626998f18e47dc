-- The version that the bytes of an accepted proof tell.
use Rattle.std.proofs.Common.{◌≡◌, ℕ, Bool, true, List, ◌∷◌, ◌++◌, refl, sym, ap, subst, ◌∙◌}
use Rattle.std.specs.Prelude.{Ok, Err, is_some}
use Rattle.std.specs.Int.{w64, to_be_bytes}
use Rattle.mr_record.proofs.Encodings.{IsBytes}
use Rattle.mr_record.specs.Version.{version_byte}
use Rattle.mr_record.specs.declared.version.Version.{Version}
use Rattle.mr_record.specs.declared.version.Version.TheVariants.{One, Two}
use Rattle.mr_query.specs.declared.query.Query.{Query}
use Rattle.mr_query.specs.declared.query.Shape.{Shape}
use Rattle.mr_query.specs.declared.query.Shape.TheVariants.{Window, Nearest}
use Rattle.mr_proof.specs.Fields.{magic, kind_byte}
use Rattle.mr_proof.specs.Reading.{checked, ending, verdict}
use Rattle.mr_proof.specs.Spelling.{head_bytes, level_bytes, part_bytes, radius_bytes, IsSpelled, Parsed}
use Rattle.mr_proof.specs.declared.head.Head.{Head}
use Rattle.mr_proof.specs.Tight.{kind_of_shape, needs_two, question}
use Rattle.mr_proof.proofs.Soundness.{spelled_whole, take_end, take_whole}
use Rattle.mr_check.specs.Judged.{AnswersCollected}
use Rattle.mr_check.specs.Versions.{AnswersBeside, proof_version}
use Rattle.mr_check.specs.declared.error.CheckErr.{CheckErr}
use Rattle.mr_check.specs.declared.error.CheckErr.TheVariants as errors
use Rattle.mr_check.specs.declared.outline.Collected.{Collected}
use Rattle.mr_check.proofs.Judging.{refused}

byte_tells : (v : Version) (kind : ℕ) (rest part : List ℕ)
    → proof_version ((magic ++ version_byte v ∷ kind ∷ rest) ++ part) ≡ v
byte_tells One kind rest part = refl
byte_tells Two kind rest part = refl

-- the version of the head is that which byte 4 tells
pub head_version : (h : Head) (part : List ℕ) → proof_version (head_bytes h ++ part) ≡ h.version
head_version h part =
    byte_tells h.version (kind_byte h.kind)
    (to_be_bytes w64 h.batch ++ (to_be_bytes w64 h.count ++
    (radius_bytes h.kind h.radius ++ level_bytes h.count h.level))) part

pub head_tells : (x : Parsed) (bytes : List ℕ) → IsSpelled x.head x.part bytes → x.head.version ≡ proof_version bytes
head_tells x bytes is =
    sym (ap proof_version is.whole ∙ head_version x.head (part_bytes x.head.version x.part))

-- a query has proofs of both versions, unless it names a mask
no_choice : (s : Shape) (b : Bool) → needs_two (kind_of_shape s) ≡ true → b ≡ true
no_choice (Window w) b e = absurd cc
no_choice (Nearest p k) b e = absurd cc

-- accepted bytes spell the head and the cut that are read
pub accepted_spelled : (hash : List ℕ → List ℕ) (root : List ℕ) (q : Query) (bytes : List ℕ) (x : Parsed)
    → IsBytes bytes → checked hash root (question q) bytes ≡ Ok x → IsSpelled x.head x.part bytes
unfolding checked
accepted_spelled hash root q bytes x fits is =
    let a = question q in
    let t = take_whole true (ending hash root a) a.kind a.two_only a.way bytes x (no_choice q.shape (is_some q.mask))
    fits is in
    let z = take_end hash root a t.value t.end x t.rest in
    subst (λ (y : Parsed). IsSpelled y.head y.part bytes) z.4
    (spelled_whole true (ending hash root a) a.kind a.two_only a.way bytes x t z.0)

-- ---- what is answered beside it

pub unanswered_beside : (hash : List ℕ → List ℕ) (root : List ℕ) (q : Query) (bytes : List ℕ) (e : CheckErr)
    → AnswersCollected hash root (question q) bytes (Err e)
    → AnswersBeside bytes (Err e) (verdict hash root q bytes)
unanswered_beside hash root q bytes (errors.Fault f) g = refused hash root q bytes f g
unanswered_beside hash root q bytes errors.NoMemory g = tt

-- the version of the head is that of the bytes
pub beside : (hash : List ℕ → List ℕ) (root : List ℕ) (q : Query) (bytes : List ℕ) (o : Collected) → IsBytes bytes
    → AnswersCollected hash root (question q) bytes (Ok o) → o.outline.head.version ≡ proof_version bytes
beside hash root q bytes o fits g =
    ap (λ (h : Head). h.version) g.2.outline.head
    ∙ head_tells g.0 bytes (accepted_spelled hash root q bytes g.0 fits g.1)
