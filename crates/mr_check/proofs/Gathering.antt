-- A piece of a proof, record by record.
use Rattle.std.proofs.Common.{◌≡◌, ℕ, ◌+◌, ◌≤◌, List, [], ◌∷◌, ◌++◌, length, take, drop, Ok, Err, sym, ap, subst, ◌∙◌, arith}
use Rattle.std.proofs.lemmas.List.{append-nil, append_assoc, take-append-drop}
use Rattle.mr_record.specs.declared.record.Record.{Record}
use Rattle.mr_query.specs.declared.query.Query.{Query}
use Rattle.mr_query.specs.Scan.{scan}
use Rattle.mr_proof.specs.declared.rule.Fault.{Fault}
use Rattle.mr_proof.specs.Spelling.{opened_records}
use Rattle.mr_proof.specs.Tight.{Question, question}
use Rattle.mr_proof.specs.Reading.{checked, verdict}
use Rattle.mr_proof.proofs.Laws.{scan_asked, radius_stands, is_lawful}
use Rattle.mr_proof.proofs.Soundness.{shows_from}
use Rattle.mr_record.proofs.Encodings.{IsBytes}
use Rattle.mr_query.specs.Word.{IsQuery}
use Rattle.std.specs.Global.{Vec}
use Rattle.mr_proof.specs.Handed.{handed_out}
use Rattle.mr_proof.specs.Feeding.{CompletesRecord, IsFinal, IsUnsettled}
use Rattle.mr_tree.specs.declared.hash.Hashes.{Ghosts}
use Rattle.mr_check.specs.declared.error.CheckErr.{CheckErr}
use Rattle.mr_check.specs.declared.error.CheckErr.TheVariants as errors
use Rattle.mr_check.specs.declared.outline.Outline.{Outline}
use Rattle.mr_check.specs.declared.outline.Collected.{Collected}
use Rattle.mr_check.specs.declared.verifier.Verifier.{Verifier}
use Rattle.mr_check.specs.Judged.{WasFed, Took, IsStopped, EndsAs, AnswersCollected}
use Rattle.mr_check.specs.private.Pieces.{TookSoFar}
use Rattle.mr_check.specs.Answers.{AnswersVerdict}
use Rattle.mr_check.proofs.Pieces.{take_both}
use Rattle.mr_check.proofs.Judging.{none_out, refused}

-- what was taken before a piece, its front and its rest
whole_piece : (bytes piece rest : List ℕ) (at : ℕ) → rest ≡ drop at piece
    → (bytes ++ take at piece) ++ rest ≡ bytes ++ piece
whole_piece bytes piece rest at is =
    ap (λ (z : List ℕ). (bytes ++ take at piece) ++ z) is
    ∙ append_assoc bytes (take at piece) (drop at piece)
    ∙ ap (λ (z : List ℕ). bytes ++ z) (take-append-drop at piece)

module _ {H : Type 0} {G : Ghosts H} (hash : List ℕ → List ℕ) (holds : H → List ℕ → Type 0) (q : Question) where
  -- nothing of the piece
  pub gather_begins : (j : Verifier H G) (piece : List ℕ) (old : List Record)
      → TookSoFar hash holds q j j piece 0 old old
  gather_begins j piece old = record {
    within = omega arith;
    so = λ root bytes took. subst (Took hash holds root q j old) (sym (append-nil bytes)) took;
  }

  -- one more record
  pub gather_on : (first now after : Verifier H G) (piece rest : List ℕ) (at n : ℕ) (old kept : List Record)
      (x : Record)
      → rest ≡ drop at piece → at + n ≤ length piece
      → TookSoFar hash holds q first now piece at old kept
      → ((root : List ℕ) (s : List ℕ) → WasFed hash holds root q now s
      → WasFed hash holds root q after (s ++ take n rest))
      → ((root : List ℕ) (s : List ℕ) → WasFed hash holds root q now s → CompletesRecord q s rest n x)
      → TookSoFar hash holds q first after piece (at + n) old (kept ++ x ∷ [])
  gather_on first now after piece rest at n old kept x is within so stands completes = record {
    within = within;
    so = λ root bytes took.
        let front = bytes ++ take at piece in
        let here = so.so root bytes took in
        let place : front ++ take n rest ≡ bytes ++ take (at + n) piece =
        ap (λ (z : List ℕ). front ++ take n z) is ∙ append_assoc bytes (take at piece) (take n (drop at piece))
        ∙ ap (λ (z : List ℕ). bytes ++ z) (take_both at n piece) in
        record {
          stands = subst (WasFed hash holds root q after) place (stands root front here.stands);
          handed = ap (λ (rs : List Record). rs ++ x ∷ []) here.handed
              ∙ sym (completes root front here.stands).item ∙ ap (handed_out q) place;
        };
  }

  -- the rest gives none
  pub gather_ends : (first now after : Verifier H G) (piece rest : List ℕ) (at : ℕ) (old kept : List Record)
      → rest ≡ drop at piece → TookSoFar hash holds q first now piece at old kept
      → ((root : List ℕ) (s : List ℕ) → WasFed hash holds root q now s
      → WasFed hash holds root q after (s ++ rest))
      → ((root : List ℕ) (s : List ℕ) → WasFed hash holds root q now s
      → handed_out q (s ++ rest) ≡ handed_out q s)
      → ((root : List ℕ) (s : List ℕ) → WasFed hash holds root q now s
      → IsUnsettled hash root q (s ++ rest))
      → (root : List ℕ) (bytes : List ℕ) → Took hash holds root q first old bytes
      → Took hash holds root q after kept (bytes ++ piece) × IsUnsettled hash root q (bytes ++ piece)
  gather_ends first now after piece rest at old kept is so stands quiet open_ended root bytes took =
      let front = bytes ++ take at piece in
      let here = so.so root bytes took in
      let place = whole_piece bytes piece rest at is in (
        record {
          stands = subst (WasFed hash holds root q after) place (stands root front here.stands);
          handed = here.handed ∙ sym (quiet root front here.stands) ∙ ap (handed_out q) place;
        },
        subst (IsUnsettled hash root q) place (open_ended root front here.stands),
      )

  -- the rest has a fault
  pub gather_fails : (first now : Verifier H G) (piece rest : List ℕ) (at : ℕ) (old kept : List Record) (f : Fault)
      → rest ≡ drop at piece → TookSoFar hash holds q first now piece at old kept
      → ((root : List ℕ) (s : List ℕ) → WasFed hash holds root q now s → IsFinal hash root q s rest f)
      → (root : List ℕ) (bytes : List ℕ) → Took hash holds root q first old bytes
      → (more : List ℕ) → checked hash root q ((bytes ++ piece) ++ more) ≡ Err f
  gather_fails first now piece rest at old kept f is so fails root bytes took more =
      let front = bytes ++ take at piece in
      let here = so.so root bytes took in
      ap (λ (z : List ℕ). checked hash root q (z ++ more)) (sym (whole_piece bytes piece rest at is))
      ∙ (fails root front here.stands).all more

  -- ---- the end

  pub started : (root : List ℕ) (w : Verifier H G) (kept : List Record) → WasFed hash holds root q w []
      → kept ≡ [] → Took hash holds root q w kept []
  started root w kept stands none = record { stands = stands; handed = none ∙ sym (none_out q) }

  pub gathered : (root : List ℕ) (w : Verifier H G) (bytes : List ℕ) (kept : Vec Record) (o : Outline)
      → Took hash holds root q w kept.items bytes → EndsAs hash root q bytes (Ok o)
      → AnswersCollected hash root q bytes (Ok (record { outline = o; records = kept }))
  gathered root w bytes kept o took ends =
      (ends.said, ends.hands.is_read, record { outline = ends.outline; records = took.handed ∙ ends.hands.all })

pub stopped : (hash : List ℕ → List ℕ) (root : List ℕ) (q : Question) (bytes : List ℕ) (e : CheckErr)
    → IsStopped hash root q bytes e → AnswersCollected hash root q bytes (Err e)
stopped hash root q bytes (errors.Fault f) stops = ap (checked hash root q) (sym (append-nil bytes)) ∙ stops []
stopped hash root q bytes errors.NoMemory stops = tt

-- ---- queries

pub unanswered : (hash : List ℕ → List ℕ) (root : List ℕ) (q : Query) (bytes : List ℕ) (e : CheckErr)
    → AnswersCollected hash root (question q) bytes (Err e) → AnswersVerdict (Err e) (verdict hash root q bytes)
unanswered hash root q bytes (errors.Fault f) g = refused hash root q bytes f g
unanswered hash root q bytes errors.NoMemory g = tt

pub answered : (hash : List ℕ → List ℕ) (root : List ℕ) (q : Query) (bytes : List ℕ) (o : Collected)
    (answer : List Record) → IsQuery q → IsBytes bytes → AnswersCollected hash root (question q) bytes (Ok o)
    → answer ≡ scan o.records.items q → verdict hash root q bytes ≡ Ok answer
unfolding verdict
answered hash root q bytes o answer is fits g same =
    let x = g.0 in
    let right = radius_stands (question q) x.head.radius (opened_records x.part) (is_lawful q is)
    (shows_from hash root (question q) bytes x (is_lawful q is) fits g.1).tight.radius in
    rw g.1 (ap (λ (rs : List Record). Ok rs)
    (sym (scan_asked q x.head.radius (opened_records x.part) is right)
    ∙ ap (λ (rs : List Record). scan rs q) (sym g.2.records) ∙ sym same))
