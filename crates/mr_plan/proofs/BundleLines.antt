-- The lines on a bundle, one more at a time.
use Rattle.std.proofs.Common.{◌≡◌, ℕ, suc, ◌+◌, ◌<◌, List, [], ◌∷◌, ◌++◌, length, get_or, take, sym, ap, ◌∙◌, arith, append_assoc, append-nil}
use Rattle.std.specs.Prelude.{Result, Ok, Err, OnOk, codes, decimal}
use Rattle.std.proofs.lemmas.List.{length-take-le, take_more}
use Rattle.mr_record.specs.RecordText.{text_of}
use Rattle.mr_record.specs.declared.record.Record.{Record}
use Rattle.mr_record.specs.declared.version.Version.{Version}
use Rattle.mr_bundle.specs.declared.verdict.Verdict.{Verdict}
use Rattle.mr_bundle.specs.declared.verdict.Verdict.TheVariants as verdicts
use Rattle.mr_proof.specs.declared.rule.Fault.{Fault}
use Rattle.mr_plan.specs.Judged.{verdict_text, verdict_lines}
use Rattle.mr_plan.specs.Refusal.{refused_line}

before_text : (a b c d t : List ℕ) → (a ++ b ++ c ++ d ++ 10 ∷ []) ++ t ≡ a ++ b ++ c ++ d ++ 10 ∷ t
before_text a b c d t = simp append_assoc

-- a line, and then the records
accepted_text : (query : ℕ) (v : Version) (answer : List Record) (old between new : List ℕ)
    → between ≡ old ++ (codes "query " ++ decimal query ++ codes " ok " ++ decimal (length answer) ++ 10 ∷ [])
    → new ≡ between ++ text_of v answer → new ≡ old ++ verdict_text query (verdicts.Accepted v answer)
unfolding verdict_text
accepted_text query v answer old between new line rest =
    rest ∙ ap (λ t. t ++ text_of v answer) line
    ∙ append_assoc old (codes "query " ++ decimal query ++ codes " ok " ++ decimal (length answer) ++ 10 ∷ [])
    (text_of v answer)
    ∙ ap (λ t. old ++ t) (before_text (codes "query ") (decimal query) (codes " ok ") (decimal (length answer))
    (text_of v answer))

pub accepted_after : {E : Type 0} (query : ℕ) (v : Version) (answer : List Record) (old between new : List ℕ)
    (result : Result Unit E)
    → between ≡ old ++ (codes "query " ++ decimal query ++ codes " ok " ++ decimal (length answer) ++ 10 ∷ [])
    → OnOk result (new ≡ between ++ text_of v answer)
    → OnOk result (new ≡ old ++ verdict_text query (verdicts.Accepted v answer))
accepted_after query v answer old between new (Ok done) line rest =
    accepted_text query v answer old between new line rest
accepted_after query v answer old between new (Err e) line rest = tt

before_line : (a b c t : List ℕ) → (a ++ b ++ c) ++ t ≡ a ++ b ++ c ++ t
before_line a b c t = simp append_assoc

pub refused_text : (query : ℕ) (fault : Fault) (line : List ℕ)
    → line ≡ (codes "query " ++ decimal query ++ codes " ") ++ refused_line fault
    → line ≡ verdict_text query (verdicts.Refused fault)
unfolding verdict_text
refused_text query fault line is = is ∙ before_line (codes "query ") (decimal query) (codes " ") (refused_line fault)

plus_none : (n : ℕ) → n ≡ n + 0
plus_none n = omega arith

one_on : (n m : ℕ) → (n + 1) + m ≡ n + suc m
one_on n m = omega arith

-- one verdict more
pub lines_more : (query : ℕ) (vs : List Verdict) (v : Verdict)
    → verdict_lines query (vs ++ v ∷ []) ≡ verdict_lines query vs ++ verdict_text (query + length vs) v
lines_more query [] v = append-nil (verdict_text query v) ∙ ap (λ n. verdict_text n v) (plus_none query)
lines_more query (w ∷ vs) v =
    ap (λ t. verdict_text query w ++ t) (lines_more (query + 1) vs v
    ∙ ap (λ n. verdict_lines (query + 1) vs ++ verdict_text n v) (one_on query (length vs)))
    ∙ sym (append_assoc (verdict_text query w) (verdict_lines (query + 1) vs)
    (verdict_text (query + suc (length vs)) v))

-- the step of the loop
pub more_lines : (vs : List Verdict) (i : ℕ) (v : Verdict) (old so_far new : List ℕ) → i < length vs
    → v ≡ get_or vs i v → so_far ≡ old ++ verdict_lines 1 (take i vs) → new ≡ so_far ++ verdict_text (i + 1) v
    → new ≡ old ++ verdict_lines 1 (take (i + 1) vs)
more_lines vs i v old so_far new here at is put =
    put ∙ ap (λ t. t ++ verdict_text (i + 1) v) is
    ∙ append_assoc old (verdict_lines 1 (take i vs)) (verdict_text (i + 1) v)
    ∙ ap (λ t. old ++ t) ((λ j. verdict_lines 1 (take i vs) ++ verdict_text (place j) (at j))
    ∙ sym (lines_more 1 (take i vs) (get_or vs i v))
    ∙ ap (verdict_lines 1) (sym (take_more vs i v here)))
  where
    long : length (take i vs) ≡ i
    long = length-take-le i vs (omega arith)

    place : i + 1 ≡ 1 + length (take i vs)
    place = omega (arith, long)
