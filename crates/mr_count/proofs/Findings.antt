-- What the check of a proof for a choice gives, and what its audit finds.
use Rattle.std.proofs.Common.{◌≡◌, ℕ, ◌+◌, ◌<◌, ◌≤◌, ◌^◌, List, Option, Some, None, Result, Ok, Err, refl, sym, ap, subst, ◌∙◌}
use Rattle.std.proofs.Props.{props}
use Rattle.std.proofs.lemmas.Bool.Decides.{Decides-and, Decides-eqb, Decides-int_eq, Decides-like}
use Rattle.std.proofs.lemmas.Map.Made.{is_member-Decides}
use Rattle.std.proofs.lemmas.Slice.Eq.{bytes_eq-Decides}
use Rattle.std.specs.Bool.{Decides}
use Rattle.std.specs.Coded.{Coded, Coded-set as set, code_by, coded×, coded_list, coded_option, coded_ℤ}
use Rattle.std.specs.List.{Contains}
use Rattle.std.specs.Ordering.{int_eq}
use Rattle.std.specs.Prelude.{ℤ, Bool, ◌&&◌, ◌==◌, bytes_eq, IfSome, IfOk}
use Rattle.mr_geom.specs.Rectangle.{Rectangle}
use Rattle.mr_record.specs.contracts.record.Record.{the_row as row}
use Rattle.mr_record.specs.declared.record.Record.{Record}
use Rattle.std.proofs.Math.Bridge.{le_prop}
use Rattle.std.proofs.Math.Logic.{∥∥₁_elim}
use Rattle.mr_record.proofs.Encodings.{IsBytes}
use Rattle.mr_tree.specs.Digest.{Scheme, by, root}
use Rattle.mr_tree.specs.Tree.{records}
use Rattle.mr_tree.specs.Nodes.{MapModel}
use Rattle.mr_tree.specs.WellFormed.{WellFormed, HasLayers}
use Rattle.mr_tree.specs.declared.nodes.Top.{Top}
use Rattle.mr_tree.specs.declared.tree.Tree.{Tree}
use Rattle.mr_query.specs.declared.key.Key.{Key}
use Rattle.mr_proof.specs.declared.head.Kind.TheVariants as kind
use Rattle.mr_proof.specs.declared.rule.Fault.{Fault}
use Rattle.mr_proof.specs.declared.way.Way.{Way}
use Rattle.mr_proof.specs.Spelling.{Parsed}
use Rattle.mr_proof.specs.Honest.{honest_said, opened_for, proof_for, IsProofFor}
use Rattle.mr_proof.specs.Halves.{AcceptsHonestProof}
use Rattle.mr_proof.specs.Tight.{IsNarrow, IsLawful}
use Rattle.mr_proof.specs.Reading.{checked, ◌>>=◌}
use Rattle.mr_proof.specs.Clash.{Pair, clash_of, NoneAnd}
use Rattle.mr_proof.specs.Headline.{AcceptedMatchesHonest}
use Rattle.mr_proof.proofs.Soundness.{shows_from}
use Rattle.mr_check.specs.declared.error.CheckErr.{CheckErr}
use Rattle.mr_check.specs.declared.error.CheckErr.TheVariants as checks
use Rattle.mr_check.specs.declared.outline.Collected.{Collected}
use Rattle.mr_check.specs.Judged.{IsCollected, AnswersCollected}
use Rattle.mr_clash.specs.Finding.{root_at}
use Rattle.mr_clash.specs.declared.question_finding.QuestionFinding.{QuestionFinding}
use Rattle.mr_clash.specs.declared.question_finding.QuestionFinding.TheVariants as question_findings
use Rattle.mr_clash.specs.QuestionFindings.{IsQuestionFindingBy, IsQuestionFinding, FindsHonestProof, QuestionFindingFor, QuestionFindingCollides, opened_checked, opened_checked_by}
use Rattle.mr_count.specs.declared.error.ChoiceErr.{ChoiceErr}
use Rattle.mr_count.specs.declared.finding.ChoiceFinding.{ChoiceFinding}
use Rattle.mr_count.specs.declared.finding.ChoiceFinding.TheVariants as findings
use Rattle.mr_count.specs.declared.taken.Taken.{Taken}
use Rattle.mr_count.specs.Chosen.{chosen, taken_of, verdict_for, AnswersChoice, IsChosen, FitsTaken, MayBreak}
use Rattle.mr_count.specs.Accepted.{IsHonestChoice, AcceptedChoiceIsHonest}
use Rattle.mr_count.specs.Finding.{finding_of, found_for, FindsHonestChoice, GivesChosen, FindsForChoice, BreaksNoFlag, GivesFitting, ShowsCollision}
use Rattle.mr_count.specs.private.Steps.{GivesCollected, AnswersAs, FindsOf}
use Rattle.mr_count.proofs.HonestChoices.{answer, accepted}
use Rattle.mr_count.proofs.Fitting.{taken_fits}
use Rattle.mr_count.proofs.Rules.{verdict_breaks}

abbrev given : (Key → Way) → Result Parsed Fault → Result Taken Fault
given way r = r >>= λ x. Ok (taken_of way x)

-- what is given of what is collected is what the head and cut give
same_given : (letter : ℕ) (way : Key → Way) (x : Parsed) (o : Collected) (y : Taken)
    → IsCollected x (chosen letter way) o → GivesCollected o y → taken_of way x ≡ y
same_given letter way x o y is g = λ i. record {
  count = sym (g.count ∙ ap (λ h. h.count) is.outline.head) i;
  rect = sym (g.rect ∙ is.outline.rect) i;
  whole = sym (g.whole ∙ is.outline.whole) i;
  records = sym (g.records ∙ is.records) i;
}

-- ---- the check

pub verdict_fault : (hash : List ℕ → List ℕ) (root : List ℕ) (letter : ℕ) (way : Key → Way) (bytes : List ℕ)
    (f : Fault) → checked hash root (chosen letter way) bytes ≡ Err f
    → verdict_for hash root letter way bytes ≡ Err f
verdict_fault hash root letter way bytes f e = ap (given way) e

pub verdict_given : (hash : List ℕ → List ℕ) (root : List ℕ) (letter : ℕ) (way : Key → Way) (bytes : List ℕ)
    (o : Collected) (y : Taken) → AnswersCollected hash root (chosen letter way) bytes (Ok o) → GivesCollected o y
    → verdict_for hash root letter way bytes ≡ Ok y
verdict_given hash root letter way bytes o y c g =
    ap (given way) c.1 ∙ ap answer (same_given letter way c.0 o y c.2 g)

pub given_fits : (hash : List ℕ → List ℕ) (root : List ℕ) (letter : ℕ) (way : Key → Way) (bytes : List ℕ)
    (o : Collected) (y : Taken) → IsLawful (chosen letter way) → IsBytes bytes
    → AnswersCollected hash root (chosen letter way) bytes (Ok o) → GivesCollected o y → FitsTaken y
given_fits hash root letter way bytes o y law fits c g =
    subst FitsTaken (same_given letter way c.0 o y c.2 g)
    (taken_fits hash root letter way bytes c.0 (shows_from hash root (chosen letter way) bytes c.0 law fits c.1))

pub answers_from : (hash : List ℕ → List ℕ) (root : List ℕ) (letter : ℕ) (way : Key → Way) (bytes : List ℕ)
    (c : Result Collected CheckErr) (r : Result Taken ChoiceErr)
    → AnswersCollected hash root (chosen letter way) bytes c → AnswersAs c r
    → AnswersChoice r (verdict_for hash root letter way bytes)
answers_from hash root letter way bytes (Ok o) r c gives =
    subst (λ (r : Result Taken ChoiceErr). AnswersChoice r (verdict_for hash root letter way bytes)) (sym gives.1)
    (verdict_given hash root letter way bytes o gives.0 c gives.2)
answers_from hash root letter way bytes (Err (checks.Fault f)) r c gives =
    subst (λ (r : Result Taken ChoiceErr). AnswersChoice r (verdict_for hash root letter way bytes)) (sym gives)
    (verdict_fault hash root letter way bytes f c)
answers_from hash root letter way bytes (Err checks.NoMemory) r c gives =
    subst (λ (r : Result Taken ChoiceErr). AnswersChoice r (verdict_for hash root letter way bytes)) (sym gives) tt

pub fits_from : (hash : List ℕ → List ℕ) (root : List ℕ) (letter : ℕ) (way : Key → Way) (bytes : List ℕ)
    (c : Result Collected CheckErr) (r : Result Taken ChoiceErr) → IsLawful (chosen letter way) → IsBytes bytes
    → AnswersCollected hash root (chosen letter way) bytes c → AnswersAs c r → IfOk r FitsTaken
fits_from hash root letter way bytes (Ok o) r law fits c gives =
    subst (λ (r : Result Taken ChoiceErr). IfOk r FitsTaken) (sym gives.1)
    (given_fits hash root letter way bytes o gives.0 law fits c gives.2)
fits_from hash root letter way bytes (Err (checks.Fault f)) r law fits c gives =
    subst (λ (r : Result Taken ChoiceErr). IfOk r FitsTaken) (sym gives) tt
fits_from hash root letter way bytes (Err checks.NoMemory) r law fits c gives =
    subst (λ (r : Result Taken ChoiceErr). IfOk r FitsTaken) (sym gives) tt

-- ---- the audit

found_by : (hash : List ℕ → List ℕ) (root : List ℕ) (letter : ℕ) (way : Key → Way) (bytes : List ℕ)
    (pair : Option Pair) (w : QuestionFinding) (v : ChoiceFinding)
    → IsQuestionFindingBy (chosen letter way) (checked hash root (chosen letter way) bytes) pair w → FindsOf w v
    → v ≡ finding_of (verdict_for hash root letter way bytes) pair
found_by hash root letter way bytes pair (question_findings.Refused f) v is of =
    of ∙ sym (ap (λ (r : Result Taken Fault). finding_of r pair) (verdict_fault hash root letter way bytes f is))
found_by hash root letter way bytes pair (question_findings.Sound o) v is of =
    let exact = verdict_given hash root letter way bytes o of.0 (is.0, is.1, is.2) of.2 in
    of.1 ∙ sym (λ i. finding_of (exact i) (is.3 i))
found_by hash root letter way bytes pair (question_findings.Collision owned shown) v is of =
    let exact : verdict_for hash root letter way bytes ≡ Ok (taken_of way is.0) = ap (given way) is.1 in
    of ∙ sym (λ i. finding_of (exact i) (is.2 i))

none_and : {K : Type 0} (hash : List ℕ → List ℕ) (o : Option Pair) → o ≡ None → NoneAnd hash o K → K
none_and hash None e k = k
none_and hash (Some p) e k = absurd cc

abbrev sound : Taken → ChoiceFinding
sound x = findings.Sound x

same_sound : (x y : Taken) → sound x ≡ sound y → x ≡ y
same_sound x y e = cc

not_refused : (f : Fault) (x : Taken) → findings.Refused f ≡ sound x → ⊥
not_refused f x e = cc

not_shown : (owned shown : List ℕ) (x : Taken) → findings.Collision owned shown ≡ sound x → ⊥
not_shown owned shown x e = cc

-- whether two records are one
abbrev same_rect : Rectangle → Rectangle → Bool
same_rect a b = int_eq a.x0 b.x0 && (int_eq a.y0 b.y0 && (int_eq a.x1 b.x1 && int_eq a.y1 b.y1))

rect_decides : (a b : Rectangle) → Decides (same_rect a b) (a ≡ b)
rect_decides a b =
    Decides-like (same_rect a b)
    (λ p. λ i. record { x0 = p.0 i; y0 = p.1.0 i; x1 = p.1.1.0 i; y1 = p.1.1.1 i })
    (λ e. (
      ap (λ (r : Rectangle). r.x0) e,
      (
        ap (λ (r : Rectangle). r.y0) e,
        (
          ap (λ (r : Rectangle). r.x1) e,
          ap (λ (r : Rectangle). r.y1) e,
        ),
      ),
    ))
    (Decides-and _ _ (Decides-int_eq a.x0 b.x0) (Decides-and _ _ (Decides-int_eq a.y0 b.y0)
    (Decides-and _ _ (Decides-int_eq a.x1 b.x1) (Decides-int_eq a.y1 b.y1))))

abbrev same_record : Record → Record → Bool
same_record a b = a.number == b.number && (same_rect a.rect b.rect && (a.layer == b.layer
    && bytes_eq a.payload b.payload))

record_decides : (a b : Record) → Decides (same_record a b) (a ≡ b)
record_decides a b =
    Decides-like (same_record a b)
    (λ p. λ i. record { number = p.0 i; rect = p.1.0 i; layer = p.1.1.0 i; payload = p.1.1.1 i })
    (λ e. (
      ap (λ (r : Record). r.number) e,
      (
        ap (λ (r : Record). r.rect) e,
        (
          ap (λ (r : Record). r.layer) e,
          ap (λ (r : Record). r.payload) e,
        ),
      ),
    ))
    (Decides-and _ _ (Decides-eqb a.number b.number) (Decides-and _ _ (rect_decides a.rect b.rect)
    (Decides-and _ _ (Decides-eqb a.layer b.layer) (bytes_eq-Decides a.payload b.payload))))

-- a set of rectangles
abbrev rects : Coded Rectangle
rects = code_by (ℤ × (ℤ × (ℤ × ℤ))) (coded× coded_ℤ (coded× coded_ℤ (coded× coded_ℤ coded_ℤ)))
    (λ r. (r.x0, (r.y0, (r.x1, r.y1)))) (λ p. record { x0 = p.0; y0 = p.1.0; x1 = p.1.1.0; y1 = p.1.1.1 }) (λ r. refl)

-- so what merely is among some records is found there
found_among : {K : Type 0} (rs : List Record) (r : Record) → ∥ K ∥₁ → (K → Contains rs r) → Contains rs r
found_among rs r merely among =
    let decides = is_member-Decides record_decides rs r in
    decides.0 (∥∥₁_elim merely (hlevel props) (λ k. decides.1 (among k)))

-- and what is given of a map is known of it where it merely is so
chosen_merely : {K : Type 0} (t : Tree) (way : Key → Way) (x : Taken) → ∥ K ∥₁ → (K → IsChosen t way x)
    → IsChosen t way x
chosen_merely t way x merely is = record {
  count = ∥∥₁_elim merely (hlevel props) (λ k. (is k).count);
  rect = ∥∥₁_elim merely (hlevel (props, set (coded_option rects))) (λ k. (is k).rect);
  among = λ r within. found_among (records t) r merely (λ k. (is k).among r within);
  opened = ∥∥₁_elim merely (hlevel (props, set (coded_list row.coded))) (λ k. (is k).opened);
  whole = ∥∥₁_elim merely (hlevel props) (λ k. (is k).whole);
}

gives_chosen : (s : Scheme) (t : Tree) (b letter : ℕ) (way : Key → Way) (bytes : List ℕ) → ∥ WellFormed t ∥₁
    → HasLayers s.version t → b < 2 ^ 64 → AcceptedChoiceIsHonest s letter way bytes → (w : QuestionFinding)
    (v : ChoiceFinding) → IsQuestionFinding s t b (chosen letter way) bytes w → FindsOf w v → GivesChosen t way v
gives_chosen s t b letter way bytes well layers low honest (question_findings.Refused f) v is of =
    λ x e. absurd (not_refused f x (sym of ∙ e))
gives_chosen s t b letter way bytes well layers low honest (question_findings.Sound o) v is of = λ x e.
    let exact = verdict_given s.of (root s t b) letter way bytes o of.0 (is.0, is.1, is.2) of.2 in
    let own : WellFormed t → IsHonestChoice s t b letter way bytes of.0 =
    λ good. none_and s.of (clash_of (kind.Choice letter) s t b bytes) is.3 (honest t b of.0 good layers low exact) in
    subst (IsChosen t way) (same_sound of.0 x (sym of.1 ∙ e)) (chosen_merely t way of.0 well (λ good. (own good).given))
gives_chosen s t b letter way bytes well layers low honest (question_findings.Collision owned shown) v is of =
    λ x e. absurd (not_shown owned shown x (sym of ∙ e))

finds_honest : (s : Scheme) (t : Tree) (b letter : ℕ) (way : Key → Way) (bytes : List ℕ) (w : QuestionFinding)
    (v : ChoiceFinding) → FindsHonestProof s t b (chosen letter way) bytes w → FindsOf w v
    → FindsHonestChoice s t b letter way bytes v
finds_honest s t b letter way bytes (question_findings.Refused f) v is of =
    subst (FindsHonestChoice s t b letter way bytes) (sym of) is
finds_honest s t b letter way bytes (question_findings.Sound o) v is of =
    subst (FindsHonestChoice s t b letter way bytes) (sym of.1) is
finds_honest s t b letter way bytes (question_findings.Collision owned shown) v is of =
    subst (FindsHonestChoice s t b letter way bytes) (sym of) is

pub collides : (hash : List ℕ → List ℕ) (w : QuestionFinding) (v : ChoiceFinding) → QuestionFindingCollides hash w
    → FindsOf w v → ShowsCollision hash v
collides hash (question_findings.Refused f) v is of = subst (ShowsCollision hash) (sym of) tt
collides hash (question_findings.Sound o) v is of = subst (ShowsCollision hash) (sym of.1) tt
collides hash (question_findings.Collision owned shown) v is of = subst (ShowsCollision hash) (sym of) is

pub judged : (hash : List ℕ → List ℕ) (s : MapModel) (top : Top) (letter : ℕ) (way : Key → Way) (bytes : List ℕ)
    (w : QuestionFinding) (v : ChoiceFinding) → QuestionFindingFor hash s top (chosen letter way) bytes w → FindsOf w v
    → FindsForChoice hash s top letter way bytes v
judged hash s top letter way bytes w v (is, pair, by_pair) of =
    (is, pair, found_by hash _ letter way bytes pair w v by_pair of)

pub finding_fits : (hash : List ℕ → List ℕ) (s : MapModel) (top : Top) (letter : ℕ) (way : Key → Way) (bytes : List ℕ)
    (w : QuestionFinding) (v : ChoiceFinding) → IsLawful (chosen letter way) → IsBytes bytes
    → QuestionFindingFor hash s top (chosen letter way) bytes w → FindsOf w v → GivesFitting v
finding_fits hash s top letter way bytes (question_findings.Refused f) v law fits is of =
    subst GivesFitting (sym of) tt
finding_fits hash s top letter way bytes (question_findings.Sound o) v law fits (is, pair, by_pair) of =
    subst GivesFitting (sym of.1)
    (given_fits hash _ letter way bytes o of.0 law fits (by_pair.0, by_pair.1, by_pair.2) of.2)
finding_fits hash s top letter way bytes (question_findings.Collision owned shown) v law fits is of =
    subst GivesFitting (sym of) tt

breaks_by : (o : Result Taken Fault) (pair : Option Pair) → ((f : Fault) → o ≡ Err f → MayBreak f.rule)
    → BreaksNoFlag (finding_of o pair)
breaks_by (Err f) pair may = may f refl
breaks_by (Ok x) None may = tt
breaks_by (Ok x) (Some p) may = tt

pub finding_breaks : (hash : List ℕ → List ℕ) (s : MapModel) (top : Top) (letter : ℕ) (way : Key → Way) (bytes : List ℕ)
    (w : QuestionFinding) (v : ChoiceFinding) → QuestionFindingFor hash s top (chosen letter way) bytes w → FindsOf w v
    → BreaksNoFlag v
finding_breaks hash s top letter way bytes w v (is, pair, by_pair) of =
    let root = hash (root_at top) in
    subst BreaksNoFlag (sym (found_by hash root letter way bytes pair w v by_pair of))
    (breaks_by (verdict_for hash root letter way bytes) pair (verdict_breaks hash root letter way bytes))

-- ---- where the tree is told

module _ (s : Scheme) (b letter : ℕ) (way : Key → Way) (bytes : List ℕ) (w : QuestionFinding)
    (v : ChoiceFinding) (of : FindsOf w v) where
  pub told_from : (o : Option Tree) → IfSome o (λ t. IsQuestionFinding s t b (chosen letter way) bytes w)
      → IfSome o (λ t. v ≡ found_for s t b letter way bytes)
  told_from None is = tt
  told_from (Some t) is =
      found_by s.of (root s t b) letter way bytes (clash_of (kind.Choice letter) s t b bytes) w v is of

  pub honest_from : (o : Option Tree) → IfSome o (λ t. FindsHonestProof s t b (chosen letter way) bytes w)
      → IfSome o (λ t. FindsHonestChoice s t b letter way bytes v)
  honest_from None is = tt
  honest_from (Some t) is = finds_honest s t b letter way bytes w v is of

  pub given_from : (o : Option Tree) → IsNarrow way → AcceptedMatchesHonest s (chosen letter way) bytes → b < 2 ^ 64
      → IfSome o (λ t. ∥ WellFormed t ∥₁) → IfSome o (HasLayers s.version)
      → IfSome o (λ t. IsQuestionFinding s t b (chosen letter way) bytes w) → IfSome o (λ t. GivesChosen t way v)
  given_from None law matches low wells layers is = tt
  given_from (Some t) law matches low wells layers is =
      gives_chosen s t b letter way bytes wells layers low (accepted s letter way bytes law matches) w v is of

-- so many nodes at most are fetched for the honest proof
pub honest_few : (hash : List ℕ → List ℕ) (s : MapModel) (letter : ℕ) (way : Key → Way) (bytes : List ℕ)
    (from to : ℕ) → AcceptsHonestProof (by s.version hash) (chosen letter way) → s.batch < 2 ^ 64
    → (o : Option Tree) → IfSome o (λ t. ∥ WellFormed t ∥₁) → IfSome o (HasLayers s.version)
    → IfSome o (λ t. to ≤ from + opened_checked_by (by s.version hash) t s.batch (chosen letter way) bytes)
    → IfSome o (λ t. IsProofFor (by s.version hash) (chosen letter way) t s.batch bytes
    → to ≤ from + opened_for (by s.version hash) (chosen letter way) t)
honest_few hash s letter way bytes from to own low None wells layers few = tt
honest_few hash s letter way bytes from to own low (Some t) wells layers few = λ is.
    ∥∥₁_elim wells le_prop (λ well.
    let h = by s.version hash in
    let a = chosen letter way in
    let opens : List ℕ → ℕ = λ bytes. opened_checked (checked hash (root h t s.batch) a bytes) in
    subst (λ n. to ≤ from + n)
    (ap opens is.own ∙ ap opened_checked (own t s.batch is.may_come well layers low)) few)
