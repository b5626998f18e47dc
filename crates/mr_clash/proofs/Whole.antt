-- What an audit finds.
use Rattle.std.proofs.Common.{◌≡◌, ℕ, ◌+◌, ◌<◌, ◌≤◌, ◌^◌, List, refl, sym, ap, subst, ◌∙◌, arith}
use Rattle.std.specs.Prelude.{Option, Some, None, IfSome, Result, Ok, Err}
use Rattle.mr_tree.specs.Tree.{records}
use Rattle.mr_tree.specs.Digest.{Scheme, by}
use Rattle.mr_tree.specs.Digest as digests
use Rattle.mr_tree.specs.Nodes.{MapModel, IsTop}
use Rattle.mr_tree.specs.declared.nodes.Top.{Top}
use Rattle.mr_tree.specs.declared.tree.Tree.{Tree}
use Rattle.mr_record.specs.declared.record.Record.{Record}
use Rattle.std.proofs.Math.Logic.{∥∥₁_elim}
use Rattle.std.proofs.Props.{props}
use Rattle.std.specs.Coded.{Coded-set as set}
use Rattle.mr_record.specs.contracts.record.Record.{the_row as row}
use Rattle.mr_tree.specs.WellFormed.{WellFormed, HasLayers}
use Rattle.mr_query.specs.Scan.{scan}
use Rattle.mr_query.specs.declared.query.Query.{Query}
use Rattle.mr_proof.specs.declared.rule.Fault.{Fault}
use Rattle.mr_proof.specs.Halves.{AcceptsHonest}
use Rattle.mr_proof.specs.Headline.{IsHonest, AcceptedIsHonest, HonestIsQuiet}
use Rattle.mr_proof.specs.Honest.{IsProof}
use Rattle.mr_proof.specs.Reading.{verdict}
use Rattle.mr_check.proofs.Gathering.{answered}
use Rattle.mr_check.proofs.Judging.{accepted, refused}
use Rattle.mr_clash.specs.Finding.{finding_of, found, root_at, IsSound, FindsFor, FindsHonest, FetchesFew, ShowsCollision, opened_said, opened_by, opened_accepted}
use Rattle.mr_clash.specs.QuestionFindings.{IsQuestionFinding, QuestionFindingFor, QuestionFindingCollides, opened_checked, opened_checked_by, FetchesFor, FindsOf}
use Rattle.mr_clash.specs.declared.question_finding.QuestionFinding.{QuestionFinding}
use Rattle.mr_clash.specs.declared.question_finding.QuestionFinding.TheVariants as question_findings
use Rattle.mr_clash.specs.declared.finding.Finding.{Finding}
use Rattle.mr_clash.specs.declared.finding.Finding.TheVariants as findings
use Rattle.mr_proof.specs.declared.head.Kind.{Kind}
use Rattle.mr_proof.specs.Spelling.{Parsed, IsSpelled}
use Rattle.mr_proof.specs.Tight.{kind_of, kind_of_shape, question}
use Rattle.mr_proof.specs.Reading.{checked}
use Rattle.mr_proof.specs.Halves.{IsQueried}
use Rattle.mr_proof.proofs.Pairs.{kind_spelled, pair_found}
use Rattle.mr_query.specs.declared.query.Shape.{Shape}
use Rattle.mr_query.specs.declared.query.Shape.TheVariants.{Window, Nearest}
use Rattle.mr_proof.specs.Clash.{Pair, clash_of, clash, NoneAnd}
use Rattle.mr_record.proofs.Encodings.{IsBytes}
use Rattle.mr_query.specs.Word.{IsQuery}
use Rattle.mr_proof.proofs.Laws.{is_lawful}
use Rattle.mr_proof.proofs.Soundness.{shows_from}
use Rattle.mr_clash.proofs.HonestProofs.{proof_prop}

-- ---- findings

queried_shape : (x : Shape) → IsQueried (kind_of_shape x)
queried_shape (Window w) = tt
queried_shape (Nearest p k) = tt

pub queried : (q : Query) → IsQueried (kind_of q)
queried q = queried_shape q.shape

-- ---- of what bytes are worth

module _ (q : Query) (bytes : List ℕ) (is : IsQuery q) (fits : IsBytes bytes) where
  spelled_by : (hash : List ℕ → List ℕ) (root : List ℕ) (x : Parsed) → checked hash root (question q) bytes ≡ Ok x
      → (x.head.kind ≡ kind_of q) × IsSpelled x.head x.part bytes
  spelled_by hash root x e =
      let shows = shows_from hash root (question q) bytes x (is_lawful q is) fits e in (shows.kind, shows.spelled)

  -- bytes that are accepted for the query have its kind
  same_clash : (s : Scheme) (t : Tree) (b : ℕ) (x : Parsed)
      → checked s.of (digests.root s t b) (question q) bytes ≡ Ok x
      → clash s t b bytes ≡ clash_of (kind_of q) s t b bytes
  same_clash s t b x e =
      let p = spelled_by s.of (digests.root s t b) x e in
      ap (λ (k : Kind). clash_of k s t b bytes)
      (kind_spelled x.head x.part bytes (subst IsQueried (sym p.0) (queried q)) p.1 ∙ p.0)

  found_from : (s : Scheme) (t : Tree) (b : ℕ) (w : QuestionFinding) (v : Finding)
      → IsQuestionFinding s t b (question q) bytes w
      → FindsOf q w v → v ≡ found s t b q bytes
  found_from s t b (question_findings.Refused f) v is_found of =
      of ∙ sym (ap (λ r. finding_of r (clash s t b bytes)) (refused s.of (digests.root s t b) q bytes f is_found))
  found_from s t b (question_findings.Sound o) v is_found of =
      let exact = answered s.of (digests.root s t b) q bytes o of.0 is fits (is_found.0, is_found.1, is_found.2) of.2 in
      let none = same_clash s t b is_found.0 is_found.1 ∙ is_found.3 in
      of.1 ∙ sym (λ i. finding_of (exact i) (none i))
  found_from s t b (question_findings.Collision owned shown) v is_found of =
      let exact = accepted s.of (digests.root s t b) q bytes is_found.0 is_found.1 in
      let some = same_clash s t b is_found.0 is_found.1 ∙ is_found.2 in
      of ∙ sym (λ i. finding_of (exact i) (some i))

  pub told_from : (s : Scheme) (o : Option Tree) (b : ℕ) (w : QuestionFinding) (v : Finding)
      → IfSome o (λ t. IsQuestionFinding s t b (question q) bytes w) → FindsOf q w v
      → IfSome o (λ t. v ≡ found s t b q bytes)
  told_from s None b w v is_found of = tt
  told_from s (Some t) b w v is_found of = found_from s t b w v is_found of

  pub judged_from : (hash : List ℕ → List ℕ) (s : MapModel) (top : Top) (w : QuestionFinding) (v : Finding)
      → QuestionFindingFor hash s top (question q) bytes w → FindsOf q w v → FindsFor hash s top q bytes v
  judged_from hash s top (question_findings.Refused f) v (at, pair, is_found) of = (
    at,
    pair,
    of ∙ sym (ap (λ r. finding_of r pair) (refused hash (hash (root_at top)) q bytes f is_found)),
  )
  judged_from hash s top (question_findings.Sound o) v (at, pair, is_found) of =
      let exact = answered hash (hash (root_at top)) q bytes o of.0 is fits (is_found.0, is_found.1, is_found.2) of.2 in
      (at, pair, of.1 ∙ sym (λ i. finding_of (exact i) (is_found.3 i)))
  judged_from hash s top (question_findings.Collision owned shown) v (at, pair, is_found) of =
      let exact = accepted hash (hash (root_at top)) q bytes is_found.0 is_found.1 in
      (at, pair, of ∙ sym (λ i. finding_of (exact i) (is_found.2 i)))

  -- accepted bytes open what they spell
  opened_alike : (hash : List ℕ → List ℕ) (root : List ℕ) (r : Result Parsed Fault)
      → checked hash root (question q) bytes ≡ r → opened_checked r ≡ opened_by (verdict hash root q bytes) bytes
  opened_alike hash root (Ok x) e =
      let p = spelled_by hash root x e in
      sym (ap (λ v. opened_by v bytes) (accepted hash root q bytes x e)
      ∙ ap opened_said (pair_found x.head x.part bytes (subst IsQueried (sym p.0) (queried q)) p.1))
  opened_alike hash root (Err f) e = sym (ap (λ v. opened_by v bytes) (refused hash root q bytes f e))

  pub fetched_from : (s : Scheme) (o : Option Tree) (b before after : ℕ)
      → IfSome o (λ t. after ≤ before + opened_checked_by s t b (question q) bytes)
      → IfSome o (λ t. after ≤ before + opened_accepted s t b q bytes)
  fetched_from s None b before after few = tt
  fetched_from s (Some t) b before after few =
      let root = digests.root s t b in
      let same = opened_alike s.of root (checked s.of root (question q) bytes) refl in omega (arith, few, same)

  pub few_from : (hash : List ℕ → List ℕ) (s : MapModel) (top : Top) (before after : ℕ)
      → FetchesFor hash s top (question q) bytes before after → FetchesFew hash s top q bytes before after
  few_from hash s top before after few =
      let root = hash (root_at top) in
      let same = opened_alike hash root (checked hash root (question q) bytes) refl in
      (few.0, omega (arith, few.1, same))

pub finding_collides : (hash : List ℕ → List ℕ) (q : Query) (w : QuestionFinding) (v : Finding)
    → QuestionFindingCollides hash w
    → FindsOf q w v → ShowsCollision hash v
finding_collides hash q (question_findings.Refused f) v collides of = subst (ShowsCollision hash) (sym of) tt
finding_collides hash q (question_findings.Sound o) v collides of = subst (ShowsCollision hash) (sym of.1) tt
finding_collides hash q (question_findings.Collision owned shown) v collides of = subst (ShowsCollision hash) (sym of)
    collides

module _ (h : Scheme) (q : Query) (t : Tree) (b : ℕ) (bytes : List ℕ) (well : WellFormed t)
    (layers : HasLayers h.version t) (low : b < 2 ^ 64) (accepts : AcceptsHonest h q)
    (matches : AcceptedIsHonest h q bytes)
    (quiet : HonestIsQuiet h q) where
  abbrev Honest : List Record → Type 0
  Honest answer = IsHonest h t b q bytes answer

  sound_own : (r : Result (List Record) Fault) (o : Option Pair) (v : Finding)
      → verdict h.of (digests.root h t b) q bytes ≡ r → clash h t b bytes ≡ o → v ≡ finding_of r o
      → (answer : List Record) → v ≡ findings.Sound answer → Honest answer
  sound_own (Err f) o v e d is answer sound = absurd cc
  sound_own (Ok rs) (Some p) v e d is answer sound = absurd cc
  sound_own (Ok rs) None v e d is answer sound =
      let same : rs ≡ answer = same_answer rs answer (sym is ∙ sound) in
      subst Honest same (none_and (clash h t b bytes) d (matches t b rs well layers low e))
    where
      same_answer : (rs answer : List Record) → findings.Sound rs ≡ findings.Sound answer → rs ≡ answer
      same_answer rs answer e = cc

      none_and : {K : Type 0} (o : Option Pair) → o ≡ None → NoneAnd h.of o K → K
      none_and None e k = k
      none_and (Some p) e k = absurd cc

  honest_sound : (v : Finding) → v ≡ found h t b q bytes → IsProof h t b q bytes
      → v ≡ findings.Sound (scan (records t) q)
  honest_sound v is honest =
      is ∙ ap (found h t b q) honest.own
      ∙ (λ i. finding_of (accepts t b honest.may_come well layers low i)
      (quiet t b honest.may_come well layers low i))

  sound_is : (v : Finding) → IsSound v → (answer : List Record) × (v ≡ findings.Sound answer)
  sound_is (findings.Refused f) sound = absurd sound
  sound_is (findings.Sound answer) sound = (answer, refl)
  sound_is (findings.Collision owned shown) sound = absurd sound

  pub finds_honest : (v : Finding) → v ≡ found h t b q bytes → FindsHonest h t b q bytes v
  finds_honest v is = (
    (
      λ sound. let x = sound_is v sound in (sound_own (verdict h.of (digests.root h t b) q bytes)
          (clash h t b bytes) v refl refl is x.0 x.1).own,
      λ honest. subst IsSound (sym (honest_sound v is honest)) tt,
    ),
    λ answer sound. (sound_own (verdict h.of (digests.root h t b) q bytes) (clash h t b bytes) v refl refl is
        answer sound).complete,
  )

finds_prop : (h : Scheme) (t : Tree) (b : ℕ) (q : Query) (bytes : List ℕ) (v : Finding)
    → IsProp (FindsHonest h t b q bytes v)
finds_prop h t b q bytes (findings.Refused f) =
    hlevel (props, set row.coded, proof_prop h (question q) t b bytes)
finds_prop h t b q bytes (findings.Sound answer) =
    hlevel (props, set row.coded, proof_prop h (question q) t b bytes)
finds_prop h t b q bytes (findings.Collision owned shown) =
    hlevel (props, set row.coded, proof_prop h (question q) t b bytes)

-- so of a finding by a told tree, which is well formed and has the layers of its version
pub honest_told : (hash : List ℕ → List ℕ) (q : Query) (bytes : List ℕ) (s : MapModel) (top : Top)
    (v : Finding) → IsTop hash s top → top.batch < 2 ^ 64 → AcceptsHonest (by s.version hash) q
    → AcceptedIsHonest (by s.version hash) q bytes → HonestIsQuiet (by s.version hash) q
    → IfSome s.tree (λ t. ∥ WellFormed t ∥₁) → IfSome s.tree (HasLayers s.version)
    → IfSome s.tree (λ t. v ≡ found (by s.version hash) t s.batch q bytes)
    → IfSome s.tree (λ t. FindsHonest (by s.version hash) t s.batch q bytes v)
honest_told hash q bytes s top v is low accepts matches quiet wells layers told = by_tree s.tree wells layers told
  where
    by_tree : (o : Option Tree) → IfSome o (λ t. ∥ WellFormed t ∥₁) → IfSome o (HasLayers s.version)
        → IfSome o (λ t. v ≡ found (by s.version hash) t s.batch q bytes)
        → IfSome o (λ t. FindsHonest (by s.version hash) t s.batch q bytes v)
    by_tree None wells layers told = tt
    by_tree (Some t) wells layers told =
        ∥∥₁_elim wells (finds_prop (by s.version hash) t s.batch q bytes v) (λ well.
        finds_honest (by s.version hash) q t s.batch bytes well layers (subst (λ n. n < 2 ^ 64) is.batch low) accepts
        matches quiet v told)
