-- A batch text is read as that batch, and what is read is written so.
use Rattle.std.proofs.Common.{◌≡◌, ℕ, ◌^◌, ◌<◌, ◌≤◌, Bool, true, false, cond, not, eqb, leb, List, [], ◌∷◌, ◌++◌, length, map, Option, Some, None, Result, Ok, Err, refl, sym, ap, subst, ◌∙◌, arith, append_assoc, ◌⊎◌, inl, inr, lit≤}
use Rattle.std.specs.Prelude.{IfOk, IfErr, ok_or, flat_map, codes, decimal, bytes_eq}
use Rattle.std.specs.List.{join_with_byte}
use Rattle.std.proofs.lemmas.Bool.{leb-true}
use Rattle.std.proofs.lemmas.List.{length-append, length_push, get_or_at}
use Rattle.std.proofs.lemmas.List.Concat.{flat_map-cons}
use Rattle.std.proofs.lemmas.List.Elements.{All-push, All-get_or, All-cons, All-append, All-weaker, All-nil}
use Rattle.std.proofs.lemmas.List.Splits.{slice_split_at, slice_split_none, join_with_byte-slice_split}
use Rattle.std.proofs.lemmas.Slice.Eq.{bytes_eq-Decides}
use Rattle.std.proofs.lemmas.List.Sums.{AllPass-from_list_all}
use Rattle.mr_record.specs.declared.record.Record.{Record}
use Rattle.mr_record.specs.declared.text_fault.TextRule.{TextRule}
use Rattle.mr_record.specs.declared.text_fault.TextRule.TheVariants.{NoEnd, Head, Form, Number}
use Rattle.mr_record.specs.declared.text_fault.TextFault.{TextFault}
use Rattle.mr_record.specs.declared.text_fault.TextErr.{TextErr}
use Rattle.mr_record.specs.declared.text_fault.TextErr.TheVariants as errors
use Rattle.mr_record.specs.declared.version.Version.{Version}
use Rattle.mr_record.specs.declared.version.Version.TheVariants.{One, Two}
use Rattle.mr_record.specs.Decimal.{u64_of}
use Rattle.mr_record.specs.Lines.{Line, lines_of, fields_of, LacksByte}
use Rattle.mr_record.specs.LineTexts.{text_by, on_line, values_after, IsFirstFaultBy}
use Rattle.mr_record.specs.RecordText.{Unlayered, line_of, record_of_fields, layered}
use Rattle.mr_record.specs.Results.{◌>>=◌}
use Rattle.mr_record.proofs.Results.{bind_ok}
use Rattle.mr_record.proofs.Decimals.{u64_of-decimal}
use Rattle.mr_record.proofs.Fields.{lines_at}
use Rattle.mr_record.proofs.RecordLines.{spelled, some_from_ok, u64_some, fields_written, IsInk, decimal_ink, lacks_space, fields_split, IsDark, dark_ink, dark_space, lacks_feed, line_dark, fields_read}
use Rattle.mr_record.proofs.LineTexts.{IsSpelling, line_text, whole, lines_text, first_lines, ended_line, guard_then, bind_err, on_line-ok, on_line-err, same_fault, spelled_lines, values_written, spelled_again, values_read, first_break}
use Rattle.mr_batch.specs.declared.change.Change.{Change}
use Rattle.mr_batch.specs.declared.change.Change.TheVariants.{Add, Remove}
use Rattle.mr_batch.specs.Changes.{Changes}
use Rattle.mr_batch.specs.BatchText.{change_line, head_line, changes_text, batch_text, change_limit, IsChange, AreChanges, IsBatch, change_lines, head_of_fields, head_of_line, addition_of_fields, removal_of_fields, change_of_fields, change_of_line, number_of_line, batch_behind, batch_of_lines, batch_of_text}
use Rattle.mr_batch.specs.Answer.{AnswersBatch, IsChangeFault, IsFirstFault, IsRefusal}

joined_addition : (u : Version) (r : Record) →
    join_with_byte 32 ((43 ∷ []) ∷ spelled u r) ≡ change_line u (Add r)
unfolding change_line line_of
joined_addition One r = refl
joined_addition Two r = simp append_assoc

module _ (v : Version) where
  -- ---- the line of a change

  same_bytes : (a b : List ℕ) → bytes_eq a b ≡ true → a ≡ b
  same_bytes a b e = (bytes_eq-Decides a b).0 e

  -- the fields of a change's line
  abbrev change_fields : Change → List (List ℕ)
  change_fields (Add r) = (43 ∷ []) ∷ (spelled v) r
  change_fields (Remove n) = (45 ∷ []) ∷ decimal n ∷ []

  ok_same : {A : Type 0} (x y : A) → ◌≡◌ {A = Result A TextRule} (Ok x) (Ok y) → x ≡ y
  ok_same x y e = cc

  abbrev IsSpelled : List (List ℕ) → Change → Type 0
  IsSpelled fields c = (IsChange v) c × (fields ≡ change_fields c)

  -- the fields behind the sign
  behind_sign : (sign first : List ℕ) (fields rest : List (List ℕ)) → sign ≡ first → fields ≡ rest →
      sign ∷ fields ≡ first ∷ rest
  behind_sign sign first fields rest a b = rw (a, b) refl

  addition_written : (sign : List ℕ) (fields : List (List ℕ)) (c : Change) → sign ≡ 43 ∷ [] →
      (addition_of_fields v) fields ≡ Ok c → IsSpelled (sign ∷ fields) c
  addition_written sign fields c is e =
      let read = bind_ok (record_of_fields v fields) (λ p. layered p >>= (λ r. Ok (Add r))) c e in
      let last = bind_ok (layered read.0) (λ r. Ok (Add r)) c read.2 in
      let of = fields_written v fields read.0 last.0 read.1 last.1 in
      subst (IsSpelled (sign ∷ fields)) (ok_same (Add last.0) c last.2)
      ((of.is, of.layer), behind_sign sign (43 ∷ []) fields (spelled v last.0) is of.spelled)

  removal_written : (sign : List ℕ) (fields : List (List ℕ)) (c : Change) → sign ≡ 45 ∷ [] →
      removal_of_fields fields ≡ Ok c → IsSpelled (sign ∷ fields) c
  unfolding removal_of_fields
  removal_written sign [] c is e = absurd cc
  removal_written sign (number ∷ []) c is e =
      let read = bind_ok (ok_or (u64_of number) Number) (λ n. Ok (Remove n)) c e in
      let of = u64_some number read.0 (some_from_ok (u64_of number) Number read.0 read.1) in
      subst (IsSpelled (sign ∷ number ∷ [])) (ok_same (Remove read.0) c read.2)
      (of.1, behind_sign sign (45 ∷ []) (number ∷ []) (decimal read.0 ∷ []) is (ap (λ t. t ∷ []) of.0))
  removal_written sign (number ∷ next ∷ more) c is e = absurd cc

  by_sign : (a b : Bool) (x y : Result Change TextRule) (c : Change) → cond a x (cond b y (Err Form)) ≡ Ok c →
      ((a ≡ true) × (x ≡ Ok c)) ⊎ ((b ≡ true) × (y ≡ Ok c))
  by_sign true b x y c e = inl (refl, e)
  by_sign false true x y c e = inr (refl, e)
  by_sign false false x y c e = absurd cc

  change_fields_written : (fields : List (List ℕ)) (c : Change) → (change_of_fields v) fields ≡ Ok c →
      IsSpelled fields c
  unfolding change_of_fields
  change_fields_written [] c e = absurd cc
  change_fields_written (sign ∷ fields) c e =
      elim (by_sign (bytes_eq sign (codes "+")) (bytes_eq sign (codes "-")) ((addition_of_fields v) fields)
      (removal_of_fields fields) c e) [
        | inl w ↦ addition_written sign fields c (same_bytes sign (43 ∷ []) w.0) w.1
        | inr w ↦ removal_written sign fields c (same_bytes sign (45 ∷ []) w.0) w.1
      ]

  joined_change : (c : Change) → join_with_byte 32 (change_fields c) ≡ (change_line v) c
  unfolding change_line line_of
  joined_change (Add r) = joined_addition v r
  joined_change (Remove n) = refl

  change_written : (line : List ℕ) (c : Change) → (change_of_line v) line ≡ Ok c →
      (IsChange v) c × (line ≡ (change_line v) c)
  change_written line c e =
      let w = change_fields_written (fields_of line) c e in
      (w.0, sym (join_with_byte-slice_split 32 line) ∙ ap (join_with_byte 32) w.1 ∙ joined_change c)

  lacks_one : (b : ℕ) → eqb b 32 ≡ false → LacksByte 32 (b ∷ [])
  lacks_one b e = All-cons (λ x. eqb x 32 ≡ false) b [] e (All-nil (λ x. eqb x 32 ≡ false))

  signed_fields : (sign : ℕ) (rest : List ℕ) → eqb sign 32 ≡ false →
      fields_of (sign ∷ 32 ∷ rest) ≡ (sign ∷ []) ∷ fields_of rest
  signed_fields sign rest e = slice_split_at (λ b. eqb b 32) (sign ∷ []) 32 rest (lacks_one sign e) refl

  addition_fields : (fields : List (List ℕ)) → (change_of_fields v) ((43 ∷ []) ∷ fields) ≡ (addition_of_fields v) fields
  unfolding change_of_fields
  addition_fields fields = refl

  removal_fields : (fields : List (List ℕ)) → (change_of_fields v) ((45 ∷ []) ∷ fields) ≡ removal_of_fields fields
  unfolding change_of_fields
  removal_fields fields = refl

  decimal_field : (n : ℕ) → n < 2 ^ 64 → fields_of (decimal n) ≡ decimal n ∷ []
  decimal_field n low = slice_split_none (λ b. eqb b 32) (decimal n) (lacks_space (decimal n) (decimal_ink n low))

  removal_read : (n : ℕ) → n < 2 ^ 64 → removal_of_fields (decimal n ∷ []) ≡ Ok (Remove n)
  unfolding removal_of_fields
  removal_read n low = rw (u64_of-decimal n low) refl

  change_read : (c : Change) → (IsChange v) c → (change_of_line v) ((change_line v) c) ≡ Ok c
  unfolding change_line
  change_read (Add r) is =
      ap (change_of_fields v) (signed_fields 43 ((line_of v) r) refl) ∙ addition_fields (fields_of ((line_of v) r))
      ∙ ap (λ (x : Result Unlayered TextRule). x >>= (λ p. layered p >>= (λ y. Ok (Add y)))) (fields_read v r is.0 is.1)
  change_read (Remove n) is =
      ap (change_of_fields v) (signed_fields 45 (decimal n) refl) ∙ removal_fields (fields_of (decimal n))
      ∙ ap removal_of_fields (decimal_field n is) ∙ removal_read n is

  -- ---- the first line

  some_then : (b : Bool) (o : Option ℕ) (n : ℕ) → cond b o None ≡ Some n → (b ≡ true) × (o ≡ Some n)
  some_then true o n e = (refl, e)
  some_then false o n e = absurd cc

  head_fields_written : (fields : List (List ℕ)) (n : ℕ) → head_of_fields fields ≡ Some n →
      (n < 2 ^ 64) × (fields ≡ codes "batch" ∷ decimal n ∷ [])
  unfolding head_of_fields
  head_fields_written [] n e = absurd cc
  head_fields_written (word ∷ []) n e = absurd cc
  head_fields_written (word ∷ number ∷ []) n e =
      let w = some_then (bytes_eq word (codes "batch")) (u64_of number) n e in
      let of = u64_some number n w.1 in (
        of.1,
        behind_sign word (codes "batch") (number ∷ []) (decimal n ∷ []) (same_bytes word (codes "batch") w.0)
            (ap (λ t. t ∷ []) of.0),
      )
  head_fields_written (word ∷ number ∷ next ∷ more) n e = absurd cc

  joined_head : (n : ℕ) → join_with_byte 32 (codes "batch" ∷ decimal n ∷ []) ≡ head_line n
  unfolding head_line
  joined_head n = refl

  head_written : (line : List ℕ) (n : ℕ) → head_of_line line ≡ Some n → (n < 2 ^ 64) × (line ≡ head_line n)
  head_written line n e =
      let w = head_fields_written (fields_of line) n e in
      (w.0, sym (join_with_byte-slice_split 32 line) ∙ ap (join_with_byte 32) w.1 ∙ joined_head n)

  word_ink : IsInk (codes "batch")
  word_ink =
      All-weaker (λ b. leb 45 b ≡ true) (λ b. 45 ≤ b) (λ b e. leb-true 45 b e) (codes "batch")
      (AllPass-from_list_all (leb 45) (codes "batch") refl)

  head_two_fields : (n : ℕ) → n < 2 ^ 64 → head_of_fields (codes "batch" ∷ decimal n ∷ []) ≡ Some n
  unfolding head_of_fields
  head_two_fields n low = u64_of-decimal n low

  head_read : (n : ℕ) → n < 2 ^ 64 → head_of_line (head_line n) ≡ Some n
  unfolding head_line
  head_read n low =
      ap head_of_fields (fields_split (codes "batch") (decimal n) word_ink
      ∙ ap (λ (t : List (List ℕ)). codes "batch" ∷ t) (decimal_field n low)) ∙ head_two_fields n low

  -- ---- lines have no line feed

  dark_sign : (sign : ℕ) (rest : List ℕ) → 32 ≤ sign → IsDark rest → IsDark (sign ∷ 32 ∷ rest)
  dark_sign sign rest low dark = All-cons (λ b. 32 ≤ b) sign (32 ∷ rest) low (dark_space rest dark)

  change_lacks : (c : Change) → (IsChange v) c → LacksByte 10 ((change_line v) c)
  unfolding change_line
  change_lacks (Add r) is = lacks_feed (43 ∷ 32 ∷ (line_of v) r)
      (dark_sign 43 ((line_of v) r) (lit≤ tt) (line_dark v r is.0))
  change_lacks (Remove n) is =
      lacks_feed (45 ∷ 32 ∷ decimal n) (dark_sign 45 (decimal n) (lit≤ tt) (dark_ink (decimal n) (decimal_ink n is)))

  word_dark : IsDark (codes "batch ")
  word_dark =
      All-weaker (λ b. leb 32 b ≡ true) (λ b. 32 ≤ b) (λ b e. leb-true 32 b e) (codes "batch ")
      (AllPass-from_list_all (leb 32) (codes "batch ") refl)

  head_lacks : (n : ℕ) → n < 2 ^ 64 → LacksByte 10 (head_line n)
  unfolding head_line
  head_lacks n low =
      lacks_feed (codes "batch " ++ decimal n)
      (All-append (λ b. 32 ≤ b) (codes "batch ") (decimal n) word_dark (dark_ink (decimal n) (decimal_ink n low)))

  -- ---- what is read is written so

  AreChanges-push : (earlier : List Change) (c : Change) → (AreChanges v) earlier → length earlier < change_limit →
      (IsChange v) c → (AreChanges v) (earlier ++ c ∷ [])
  AreChanges-push earlier c are room is =
      record { each = All-push (IsChange v) earlier c are.each is; count = omega (arith, length_push earlier c) }

  -- the change at a place in a list
  one_is : (earlier : List Change) (c : Change) (more : List Change) → (AreChanges v) (earlier ++ c ∷ more) →
      (IsChange v) c
  one_is earlier c more are =
      let here : length earlier < length (earlier ++ c ∷ more) = omega (arith, length-append earlier (c ∷ more)) in
      subst (IsChange v) (get_or_at earlier c more c (length earlier) refl)
      (All-get_or (IsChange v) (earlier ++ c ∷ more) (length earlier) c here are.each)

  pub change_spelling : IsSpelling (change_lines v) (AreChanges v)
  change_spelling = record {
    none = record { each = All-nil (IsChange v); count = omega arith };
    lacks = λ earlier c more are. change_lacks c (one_is earlier c more are);
    few = λ earlier c more are. omega (arith, length-append earlier (c ∷ more), are.count);
    again = λ earlier c more are. change_read c (one_is earlier c more are);
    written = λ earlier line c are room e. let facts = change_written line c e in
        (AreChanges-push earlier c are room facts.0, facts.1);
  }

  number_of_line-ok : (line : Line) (n : ℕ) → number_of_line line ≡ Ok n → (n < 2 ^ 64) × (line ≡ whole (head_line n))
  unfolding number_of_line
  number_of_line-ok line n e =
      let end = guard_then (not line.ended) NoEnd (ok_or (head_of_line line.bytes) Head) n e in
      let facts = head_written line.bytes n (some_from_ok (head_of_line line.bytes) Head n end.1) in
      (facts.0, ended_line line (head_line n) end.0 facts.1)

  changes_by : (changes : List Change) → text_by (change_lines v) changes ≡ (changes_text v) changes
  unfolding changes_text
  changes_by changes = refl

  abbrev whole_change : Change → Line
  whole_change c = whole ((change_line v) c)

  batch_lines : (b : Changes) →
      flat_map line_text (whole (head_line b.number) ∷ map whole_change b.list) ≡ (batch_text v) b
  unfolding batch_text
  batch_lines b =
      flat_map-cons line_text (whole (head_line b.number)) (map whole_change b.list)
      ∙ ap (λ (t : List ℕ). (head_line b.number ++ 10 ∷ []) ++ t)
      (spelled_lines (change_lines v) b.list ∙ changes_by b.list)
      ∙ append_assoc (head_line b.number) (10 ∷ []) ((changes_text v) b.list)

  abbrev IsWritten : List Line → Changes → Type 0
  IsWritten lines b = (IsBatch v) b × (lines ≡ whole (head_line b.number) ∷ map whole_change b.list)

  ok_batch : (a b : Changes) → ◌≡◌ {A = Result Changes TextFault} (Ok a) (Ok b) → a ≡ b
  ok_batch a b e = cc

  batch_of_lines-ok : (lines : List Line) (b : Changes) → (batch_of_lines v) lines ≡ Ok b → IsWritten lines b
  unfolding batch_of_lines batch_behind
  batch_of_lines-ok [] b e = absurd cc
  batch_of_lines-ok (line ∷ lines) b e =
      let first = bind_ok (on_line 1 (number_of_line line)) (λ n. (batch_behind v) n lines) b e in
      let head = number_of_line-ok line first.0 (on_line-ok 1 (number_of_line line) first.0 first.1) in
      let behind = bind_ok (values_after (change_lines v) [] lines)
      (λ changes. Ok (record { number = first.0; list = changes })) b first.2 in
      let rest = values_written (change_lines v) (AreChanges v) change_spelling lines behind.0 behind.1 in
      let made : Changes = record { number = first.0; list = behind.0 } in
      let is : (IsBatch v) made = record { number = head.0; changes = rest.0 } in
      subst (IsWritten (line ∷ lines)) (ok_batch made b behind.2)
      (is, first_lines line (whole (head_line first.0)) lines (map whole_change behind.0) head.1 rest.1)

  batch_written : (text : List ℕ) (b : Changes) → (batch_of_text v) text ≡ Ok b →
      (IsBatch v) b × (text ≡ (batch_text v) b)
  batch_written text b e =
      let w = batch_of_lines-ok (lines_of text) b e in
      (w.0, sym (lines_text text) ∙ ap (flat_map line_text) w.1 ∙ batch_lines b)

  pub answer_written : (text : List ℕ) (answer : Result Changes TextErr) → AnswersBatch answer
      ((batch_of_text v) text) →
      IfOk answer (λ b. (IsBatch v) b × (text ≡ (batch_text v) b))
  answer_written text (Ok b) e = batch_written text b e
  answer_written text (Err rule) e = tt

  -- ---- what is written is read again

  lines_written : (b : Changes) → (IsBatch v) b →
      lines_of ((batch_text v) b) ≡ whole (head_line b.number) ∷ map whole_change b.list
  unfolding batch_text
  lines_written b is =
      lines_at (head_line b.number) ((changes_text v) b.list) (head_lacks b.number is.number)
      ∙ ap (λ (ls : List Line). whole (head_line b.number) ∷ ls)
      (ap lines_of (sym (changes_by b.list))
      ∙ spelled_again (change_lines v) (AreChanges v) change_spelling b.list is.changes)

  number_of_line-read : (n : ℕ) → n < 2 ^ 64 → number_of_line (whole (head_line n)) ≡ Ok n
  unfolding number_of_line
  number_of_line-read n low = rw (head_read n low) refl

  batch_of_lines-read : (b : Changes) → (IsBatch v) b →
      (batch_of_lines v) (whole (head_line b.number) ∷ map whole_change b.list) ≡ Ok b
  unfolding batch_of_lines batch_behind
  batch_of_lines-read b is =
      rw (
        number_of_line-read b.number is.number,
        values_read (change_lines v) (AreChanges v) change_spelling b.list is.changes,
      ) refl

  pub batch_read : (b : Changes) → (IsBatch v) b → (batch_of_text v) ((batch_text v) b) ≡ Ok b
  batch_read b is = ap (batch_of_lines v) (lines_written b is) ∙ batch_of_lines-read b is

  -- ---- the first fault

  -- what is wrong with the first line, where something is
  record IsHeadBreak (lines : List Line) (fault : TextFault) : Type 0 where
    first : fault.line ≡ 1
    empty : lines ≡ [] → fault.rule ≡ Head
    breaks : (line : Line) (rest : List Line) → lines ≡ line ∷ rest → number_of_line line ≡ Err fault.rule

  head_here : (line : Line) (lines : List Line) (fault : TextFault) → on_line 1 (number_of_line line) ≡ Err fault →
      IsHeadBreak (line ∷ lines) fault
  head_here line lines fault e =
      let broken = on_line-err 1 (number_of_line line) fault e in
      record {
        first = broken.1;
        empty = λ none. absurd cc;
        breaks = λ other rest same. let is : line ≡ other = cc in subst (λ l. number_of_line l ≡ Err fault.rule) is
            broken.0;
      }

  no_lines : (fault : TextFault) → ◌≡◌ {A = Result Changes TextFault} (Err (record { line = 1; rule = Head }))
      (Err fault) →
      IsHeadBreak [] fault
  no_lines fault e =
      let same : record { line = 1; rule = Head } ≡ fault = same_fault {A = Changes} (record { line = 1; rule = Head })
      fault e in
      record {
        first = sym (ap (λ (f : TextFault). f.line) same);
        empty = λ none. sym (ap (λ (f : TextFault). f.rule) same);
        breaks = λ line rest is. absurd cc;
      }

  err_before : (n : ℕ) (r : Result (List Change) TextFault) (fault : TextFault) →
      ◌≡◌ {A = Result Changes TextFault} (r >>= (λ changes. Ok (record { number = n; list = changes }))) (Err fault) →
      r ≡ Err fault
  err_before n (Ok changes) fault e = absurd cc
  err_before n (Err other) fault e = cc

  -- behind a first line, the first line that breaks a rule
  record IsChangeBreak (lines : List Line) (fault : TextFault) : Type 0 where
    number : ℕ
    fits : number < 2 ^ 64
    behind : List Line
    parts : lines ≡ whole (head_line number) ∷ behind
    broken : IsFirstFaultBy (change_lines v) (AreChanges v) behind fault

  batch_of_lines-err : (lines : List Line) (fault : TextFault) → (batch_of_lines v) lines ≡ Err fault →
      IsHeadBreak lines fault ⊎ IsChangeBreak lines fault
  unfolding batch_of_lines batch_behind
  batch_of_lines-err [] fault e = inl (no_lines fault e)
  batch_of_lines-err (line ∷ lines) fault e =
      elim (bind_err (on_line 1 (number_of_line line)) (λ n. (batch_behind v) n lines) fault e) [
        | inl here ↦ inl (head_here line lines fault here)
        | inr after ↦
            let head = number_of_line-ok line after.0 (on_line-ok 1 (number_of_line line) after.0 after.1) in
            inr (record {
              number = after.0;
              fits = head.0;
              behind = lines;
              parts = first_lines line (whole (head_line after.0)) lines lines head.1 refl;
              broken = first_break (change_lines v) (AreChanges v) change_spelling lines fault
                  (err_before after.0 (values_after (change_lines v) [] lines) fault after.2);
            })
      ]

  head_alone : (n : ℕ) → n < 2 ^ 64 → (lines : List Line) →
      whole (head_line n) ∷ lines ≡ lines_of (head_line n ++ 10 ∷ []) ++ lines
  unfolding lines_of
  head_alone n low lines =
      ap (λ (ls : List Line). ls ++ lines) (sym (lines_at (head_line n) [] (head_lacks n low)))

  change_fault : (text : List ℕ) (fault : TextFault) → IsChangeBreak (lines_of text) fault →
      (IsChangeFault v) text fault
  change_fault text fault is = record {
    number = is.number;
    fits = is.fits;
    behind = is.behind;
    lines = is.parts ∙ head_alone is.number is.fits is.behind;
    broken = is.broken;
  }

  first_fault : (text : List ℕ) (fault : TextFault) → (batch_of_text v) text ≡ Err fault → (IsFirstFault v) text fault
  first_fault text fault e =
      elim (batch_of_lines-err (lines_of text) fault e) [
        | inl is ↦ inl (record { first = is.first; empty = is.empty; breaks = is.breaks })
        | inr is ↦ inr (change_fault text fault is)
      ]

  pub answer_refused : (text : List ℕ) (answer : Result Changes TextErr) → AnswersBatch answer
      ((batch_of_text v) text) →
      IfErr answer (λ e. (IsRefusal v) text e)
  answer_refused text (Ok b) e = tt
  answer_refused text (Err (errors.Text fault)) e = first_fault text fault e
  answer_refused text (Err errors.NoMemory) e = tt
