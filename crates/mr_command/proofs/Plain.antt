-- The layers of the records of accepted proofs are those of the proof's version.
use Rattle.std.proofs.Common.{◌≡◌, ℕ, ◌-◌, ◌^◌, ◌<◌, List, [], ◌∷◌, drop, refl, sym, subst}
use Rattle.std.specs.Prelude.{All, Option, Some, None, Result, Ok, Err}
use Rattle.std.specs.List.{AllByRecursion}
use Rattle.std.proofs.lemmas.List.Elements.{All-nil, All-append, All-filter, All-take, All-drop, recursion_from_All, All-from_recursion}
use Rattle.mr_record.proofs.Encodings.{IsBytes-from}
use Rattle.mr_outside.specs.Bytes.{AreBytes}
use Rattle.mr_record.specs.Record.{HasLayer}
use Rattle.mr_record.specs.declared.record.Record.{Record}
use Rattle.mr_record.specs.declared.version.Version.{Version}
use Rattle.mr_query.specs.Layers.{asked_layers, is_on}
use Rattle.mr_query.specs.Nearest.{nearest, ranked}
use Rattle.mr_query.specs.Region.{touches}
use Rattle.mr_query.specs.Scan.{scan_shape, scan}
use Rattle.mr_query.specs.declared.query.Query.{Query}
use Rattle.mr_query.specs.declared.query.Shape.{Shape}
use Rattle.mr_query.specs.declared.query.Shape.TheVariants.{Window, Nearest}
use Rattle.mr_tree.specs.Nodes.{MapModel}
use Rattle.mr_proof.specs.Clash.{Pair}
use Rattle.mr_proof.specs.Cut as cut
use Rattle.mr_proof.specs.Cut.{Cut, Cuts, Pruned, Leaf, Inner, no_more, first}
use Rattle.mr_proof.specs.Reading.{◌>>=◌, checked, verdict}
use Rattle.mr_proof.specs.Spelling.{FitCuts, FitsCut, FitsPart, IsSpelled, Parsed, opened_records}
use Rattle.mr_proof.specs.Tight.{question}
use Rattle.mr_proof.specs.declared.head.Head.{Head}
use Rattle.mr_proof.specs.declared.rule.Fault.{Fault}
use Rattle.mr_check.specs.Versions.{proof_version}
use Rattle.mr_check.proofs.Versions.{accepted_spelled, head_tells}
use Rattle.mr_bundle.specs.Bundle.{bytes_of}
use Rattle.mr_bundle.specs.Verdicts.{verdict_of, verdicts}
use Rattle.mr_bundle.specs.declared.reading.Part.{Part}
use Rattle.mr_tree.specs.declared.nodes.Top.{Top}
use Rattle.mr_clash.specs.Finding.{FindsFor, finding_by, finding_of, root_at}
use Rattle.mr_clash.specs.declared.finding.Finding.{Finding}
use Rattle.mr_plan.specs.Judged.{HasLines}
use Rattle.mr_command.specs.private.Steps.{HasAnswerLines}
use Rattle.mr_command.proofs.Layered.{numbered_layers, sorted_each}

-- ---- what is opened

mutual
  cut_layers : (v : Version) (level : ℕ) (P : Cut) → FitsCut v level P → All (HasLayer v) (cut.records P)
  cut_layers v level (Pruned part) fits = All-nil (HasLayer v)
  cut_layers v level (Leaf rs) fits = fits.layers
  cut_layers v level (Inner cuts) fits = cuts_layers v (level - 1) cuts fits.1

  cuts_layers : (v : Version) (level : ℕ) (Ps : Cuts) → FitCuts v level Ps → All (HasLayer v) (cut.all_records Ps)
  cuts_layers v level no_more fits = All-nil (HasLayer v)
  cuts_layers v level (first P Ps) fits =
      All-append (HasLayer v) (cut.records P) (cut.all_records Ps) (cut_layers v level P fits.0)
      (cuts_layers v level Ps fits.1)

part_layers : (h : Head) (P : Option Cut) → FitsPart h P → All (HasLayer h.version) (opened_records P)
part_layers h None fits = All-nil (HasLayer h.version)
part_layers h (Some P) fits = cut_layers h.version h.level P fits.1

shape_layers : (v : Version) (rs : List Record) (s : Shape) → All (HasLayer v) rs → All (HasLayer v) (scan_shape rs s)
unfolding scan_shape nearest
shape_layers v rs (Window w) all =
    numbered_layers v _ (All-filter (λ (r : Record). touches w r.rect) (HasLayer v) rs all)
shape_layers v rs (Nearest p k) all =
    All-take (HasLayer v) k (ranked p rs) (All-from_recursion (HasLayer v) (ranked p rs)
    (sorted_each (HasLayer v) _ rs (recursion_from_All (HasLayer v) rs all)))

scan_layers : (v : Version) (rs : List Record) (q : Query) → All (HasLayer v) rs → All (HasLayer v) (scan rs q)
scan_layers v rs q all =
    shape_layers v _ q.shape (All-filter (is_on (asked_layers q)) (HasLayer v) rs all)

-- ---- what is answered

same_answer : (a b : List Record) → ◌≡◌ {A = Result (List Record) Fault} (Ok a) (Ok b) → a ≡ b
same_answer a b e = cc

spelled_layers : (bytes : List ℕ) (x : Parsed) → IsSpelled x.head x.part bytes
    → All (HasLayer (proof_version bytes)) (opened_records x.part)
spelled_layers bytes x is =
    subst (λ v. All (HasLayer v) (opened_records x.part)) (head_tells x bytes is) (part_layers x.head x.part is.part)

pub answer_layers : (hash : List ℕ → List ℕ) (root : List ℕ) (q : Query) (bytes : List ℕ) (answer : List Record)
    → AreBytes bytes → verdict hash root q bytes ≡ Ok answer → All (HasLayer (proof_version bytes)) answer
unfolding verdict
answer_layers hash root q bytes answer are is = at (checked hash root (question q) bytes) refl is
  where
    at : (r : Result Parsed Fault) → checked hash root (question q) bytes ≡ r
        → (r >>= λ x. Ok (scan (opened_records x.part) q)) ≡ Ok answer → All (HasLayer (proof_version bytes)) answer
    at (Err f) was e = absurd cc
    at (Ok x) was e =
        subst (All (HasLayer (proof_version bytes))) (same_answer (scan (opened_records x.part) q) answer e)
        (scan_layers (proof_version bytes) (opened_records x.part) q
        (spelled_layers bytes x (accepted_spelled hash root q bytes x (IsBytes-from bytes are) was)))

-- ---- what is found of a proof, and of the parts of a bundle

by_pair : (v : Version) (answer : List Record) (pair : Option Pair) → All (HasLayer v) answer →
    HasAnswerLines v (finding_by answer pair)
by_pair v answer None all = all
by_pair v answer (Some p) all = tt

of_verdict : (hash : List ℕ → List ℕ) (root : List ℕ) (q : Query) (bytes : List ℕ) (v : Result (List Record) Fault)
    (pair : Option Pair) → AreBytes bytes → verdict hash root q bytes ≡ v
    → HasAnswerLines (proof_version bytes) (finding_of v pair)
of_verdict hash root q bytes (Err f) pair are is = tt
of_verdict hash root q bytes (Ok answer) pair are is =
    by_pair (proof_version bytes) answer pair (answer_layers hash root q bytes answer are is)

pub finding_layers : (hash : List ℕ → List ℕ) (s : MapModel) (top : Top) (q : Query) (bytes : List ℕ) (f : Finding)
    → AreBytes bytes → FindsFor hash s top q bytes f → HasAnswerLines (proof_version bytes) f
finding_layers hash s top q bytes f are finds =
    let root = hash (root_at top) in
    subst (HasAnswerLines (proof_version bytes)) (sym finds.2)
    (of_verdict hash root q bytes (verdict hash root q bytes) finds.1 are refl)

module _ (hash : List ℕ → List ℕ) (root bundle : List ℕ) (are : AreBytes bundle) where
  one_lines : (q : Query) (bytes : List ℕ) (v : Result (List Record) Fault) → AreBytes bytes
      → verdict hash root q bytes ≡ v → HasLines (verdict_of (proof_version bytes) v)
  one_lines q bytes (Ok answer) all is = answer_layers hash root q bytes answer all is
  one_lines q bytes (Err f) all is = tt

  part_are : (part : Part) → AreBytes (bytes_of bundle part)
  part_are part =
      All-take (λ b. b < 2 ^ 8) (part.end - part.start) (drop part.start bundle)
      (All-drop (λ b. b < 2 ^ 8) part.start bundle are)

  each_lines : (queries : List Query) (parts : List Part)
      → AllByRecursion HasLines (verdicts hash root queries bundle parts)
  each_lines [] parts = tt
  each_lines (q ∷ queries) [] = tt
  each_lines (q ∷ queries) (part ∷ parts) =
      let bytes = bytes_of bundle part in
      (one_lines q bytes (verdict hash root q bytes) (part_are part) refl, each_lines queries parts)

  pub verdicts_lines : (queries : List Query) (parts : List Part)
      → All HasLines (verdicts hash root queries bundle parts)
  verdicts_lines queries parts =
      All-from_recursion HasLines (verdicts hash root queries bundle parts) (each_lines queries parts)
