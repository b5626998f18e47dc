-- A text of records is read as those records, and what is read is written so.
use Rattle.std.proofs.Common.{◌≡◌, ℕ, ◌<◌, Bool, true, false, cond, eqb, List, [], ◌∷◌, ◌++◌, length, get_or, Result, Ok, Err, refl, sym, ap, subst, ◌∙◌, arith}
use Rattle.std.specs.Prelude.{◌≢◌, All, AllPairs, IfOk, IfErr, flat_map}
use Rattle.std.specs.Global.{Vec}
use Rattle.std.proofs.lemmas.Bool.{ne_eqb, both_ways, eq-eqb}
use Rattle.std.proofs.lemmas.List.{length-append, length_push, get_or_append_left, get_or_at}
use Rattle.std.proofs.lemmas.List.Folds.{list_any_none, list_any_at}
use Rattle.std.proofs.lemmas.List.Elements.{All-push, All-get_or}
use Rattle.std.proofs.lemmas.List.Quantifiers.{all_pairs_push}
use Rattle.mr_record.specs.declared.record.Record.{Record}
use Rattle.mr_record.specs.declared.text_fault.TextRule.TheVariants.{Repeat}
use Rattle.mr_record.specs.declared.text_fault.TextErr.{TextErr}
use Rattle.mr_record.specs.declared.text_fault.TextErr.TheVariants as errors
use Rattle.mr_record.specs.declared.version.Version.{Version}
use Rattle.mr_record.specs.Lines.{lines_of, fields_of}
use Rattle.mr_record.specs.LineTexts.{text_by, values_after}
use Rattle.mr_record.specs.Record.{IsRecord, HasLayer}
use Rattle.mr_record.specs.RecordText.{IsRecordList, line_limit, line_of, text_of, Unlayered, record_of_fields, layered, has_number, if_new, new_record, record_lines, records_of_text}
use Rattle.mr_record.specs.Answer.{AnswersText, IsRefusal}
use Rattle.mr_record.specs.Results.{◌>>=◌}
use Rattle.mr_record.proofs.Results.{bind_ok}
use Rattle.mr_record.proofs.RecordLines.{fields_written, line_from, fields_read, line_lacks}
use Rattle.mr_record.proofs.LineTexts.{IsSpelling, line_text, lines_text, spelled_lines, values_written, spelled_again, values_read, first_break}

module _ (v : Version) where
  -- ---- records with different numbers

  number_apart : (n : ℕ) (earlier : List Record) → has_number n earlier ≡ false → (k : ℕ) (d : Record) →
      k < length earlier → (get_or earlier k d).number ≢ n
  number_apart n earlier new k d lt e =
      both_ways (has_number n earlier) new (list_any_at (λ r. eqb r.number n) earlier k d lt (eq-eqb _ _ e))

  guard_ok : {A E : Type 0} (b : Bool) (d : E) (x y : A) → cond b (Err d) (Ok x) ≡ Ok y → (b ≡ false) × (x ≡ y)
  guard_ok true d x y e = absurd cc
  guard_ok false d x y e = (refl, cc)

  IsRecordList-push : (earlier : List Record) (one : Record) → IsRecordList v earlier → length earlier < line_limit →
      IsRecord one → HasLayer v one → has_number one.number earlier ≡ false → IsRecordList v (earlier ++ one ∷ [])
  IsRecordList-push earlier one is room fits low new = record {
    each = All-push IsRecord earlier one is.each fits;
    layers = All-push (HasLayer v) earlier one is.layers low;
    apart =
        all_pairs_push (λ a b. a.number ≢ b.number) earlier one is.apart
        (λ k d lt. number_apart one.number earlier new k d lt);
    count = omega (arith, length_push earlier one);
  }

  empty_list : IsRecordList v []
  empty_list =
      record {
        each = λ k d lt. absurd (omega arith);
        layers = λ k d lt. absurd (omega arith);
        apart = λ i j d below lt. absurd (omega arith);
        count = omega arith;
      }

  is_new : (earlier : List Record) (r : Record) (more : List Record) →
      AllPairs (λ a b. a.number ≢ b.number) (earlier ++ r ∷ more) → has_number r.number earlier ≡ false
  is_new earlier r more apart =
      list_any_none (λ s. eqb s.number r.number) earlier
      (λ k d lt. ne_eqb (get_or earlier k d).number r.number (λ e.
      let pair = apart k (length earlier) d lt (omega (arith, length-append earlier (r ∷ more))) in
      pair (ap (λ (s : Record). s.number) (get_or_append_left earlier (r ∷ more) d k lt) ∙ e
      ∙ sym (ap (λ (s : Record). s.number) (get_or_at earlier r more d (length earlier) refl)))))

  -- the record at a place in a list
  one_has : (P : Record → Type 0) (earlier : List Record) (r : Record) (more : List Record) →
      All P (earlier ++ r ∷ more) → P r
  one_has P earlier r more each =
      let here : length earlier < length (earlier ++ r ∷ more) = omega (arith, length-append earlier (r ∷ more)) in
      subst P (get_or_at earlier r more r (length earlier) refl)
      (All-get_or P (earlier ++ r ∷ more) (length earlier) r here each)

  one_is : (earlier : List Record) (r : Record) (more : List Record) → IsRecordList v (earlier ++ r ∷ more) → IsRecord r
  one_is earlier r more is = one_has IsRecord earlier r more is.each

  -- ---- one line behind others

  new_record-ok : (earlier : List Record) (line : List ℕ) (one : Record) → IsRecordList v earlier →
      length earlier < line_limit → new_record v earlier line ≡ Ok one →
      IsRecordList v (earlier ++ one ∷ []) × (line ≡ line_of v one)
  new_record-ok earlier line one is room e =
      let last = bind_ok (record_of_fields v (fields_of line) >>= if_new earlier) layered one e in
      let read = bind_ok (record_of_fields v (fields_of line)) (if_new earlier) last.0 last.1 in
      let new = guard_ok (has_number read.0.0.number earlier) Repeat read.0 last.0 read.2 in
      let same : read.0 ≡ last.0 = new.1 in
      let facts = fields_written v (fields_of line) last.0 one (read.1 ∙ ap (λ (p : Unlayered). Ok p) same) last.2 in
      let other = subst (λ n. has_number n earlier ≡ false)
      (ap (λ (p : Unlayered). p.0.number) same ∙ sym facts.number) new.0 in
      (IsRecordList-push earlier one is room facts.is facts.layer other, line_from v line one facts.spelled)

  new_record-read : (earlier : List Record) (r : Record) (more : List Record) → IsRecordList v (earlier ++ r ∷ more) →
      new_record v earlier (line_of v r) ≡ Ok r
  new_record-read earlier r more is =
      rw (
        fields_read v r (one_is earlier r more is) (one_has (HasLayer v) earlier r more is.layers),
        is_new earlier r more is.apart,
      ) refl

  pub record_spelling : IsSpelling (record_lines v) (IsRecordList v)
  record_spelling = record {
    none = empty_list;
    lacks = λ earlier r more is. line_lacks v r (one_is earlier r more is);
    few = λ earlier r more is. omega (arith, length-append earlier (r ∷ more), is.count);
    again = new_record-read;
    written = new_record-ok;
  }

  -- ---- the text

  text_of-by : (records : List Record) → text_by (record_lines v) records ≡ text_of v records
  unfolding text_of
  text_of-by records = refl

  text_written : (text : List ℕ) (records : List Record) → records_of_text v text ≡ Ok records →
      IsRecordList v records × (text ≡ text_of v records)
  text_written text records e =
      let w = values_written (record_lines v) (IsRecordList v) record_spelling (lines_of text) records e in (
        w.0,
        sym (lines_text text) ∙ ap (flat_map line_text) w.1 ∙ spelled_lines (record_lines v) records
            ∙ text_of-by records,
      )

  pub answer_written : (text : List ℕ) (answer : Result (Vec Record) TextErr) →
      AnswersText answer (records_of_text v text) →
      IfOk answer (λ read. IsRecordList v read.items × (text ≡ text_of v read.items))
  answer_written text (Ok read) e = text_written text read.items e
  answer_written text (Err rule) e = tt

  pub text_read : (records : List Record) → IsRecordList v records → records_of_text v (text_of v records) ≡ Ok records
  text_read records is =
      ap (records_of_text v) (sym (text_of-by records))
      ∙ ap (values_after (record_lines v) [])
      (spelled_again (record_lines v) (IsRecordList v) record_spelling records is)
      ∙ values_read (record_lines v) (IsRecordList v) record_spelling records is

  pub answer_refused : (text : List ℕ) (answer : Result (Vec Record) TextErr) →
      AnswersText answer (records_of_text v text) →
      IfErr answer (λ e. IsRefusal v text e)
  answer_refused text (Ok read) e = tt
  answer_refused text (Err (errors.Text fault)) e =
      first_break (record_lines v) (IsRecordList v) record_spelling (lines_of text) fault e
  answer_refused text (Err errors.NoMemory) e = tt
