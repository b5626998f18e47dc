-- A line of a batch text that is cut at its spaces.
use Rattle.std.proofs.Common.{◌≡◌, ℕ, ◌<◌, ◌≤◌, Bool, true, false, cond, List, [], ◌∷◌, length, None, Result, Ok, Err, refl, ap, ◌∙◌, arith}
use Rattle.std.specs.Prelude.{bytes_eq, codes}
use Rattle.mr_record.specs.declared.text_fault.TextRule.TheVariants.{Form, Head}
use Rattle.mr_record.specs.declared.text_fault.TextFault.{TextFault}
use Rattle.mr_record.specs.declared.text_fault.TextErr.{TextErr}
use Rattle.mr_record.specs.declared.text_fault.TextErr.TheVariants as errors
use Rattle.mr_record.specs.Decimal.{u64_of}
use Rattle.mr_record.specs.Lines.{Line, lines_of, fields_of, LacksByte, IsCutAt}
use Rattle.mr_record.specs.declared.version.Version.{Version}
use Rattle.mr_record.proofs.Fields.{fields_one, fields_cut, fields_filled}
use Rattle.mr_batch.specs.declared.change.Change.{Change}
use Rattle.mr_batch.specs.Changes.{Changes}
use Rattle.mr_batch.specs.BatchText.{head_of_fields, head_of_line, removal_of_fields, change_of_fields, change_of_line, change_lines, batch_behind, batch_of_lines, batch_of_text}
use Rattle.mr_record.specs.Answer.{RefusesText}
use Rattle.mr_record.specs.LineTexts.{values_after}

one_field : (line : List ℕ) → head_of_fields (line ∷ []) ≡ None
unfolding head_of_fields
one_field line = refl

pub head_one : (line : List ℕ) → LacksByte 32 line → head_of_line line ≡ None
head_one line lacks = ap head_of_fields (fields_one line lacks) ∙ one_field line

pub head_other : (word : List ℕ) (fields : List (List ℕ)) → bytes_eq word (codes "batch") ≡ false →
    head_of_fields (word ∷ fields) ≡ None
unfolding head_of_fields
head_other word [] e = refl
head_other word (number ∷ []) e = rw e refl
head_other word (number ∷ next ∷ more) e = refl

pub head_more : (word : List ℕ) (fields : List (List ℕ)) → 2 ≤ length fields → head_of_fields (word ∷ fields) ≡ None
unfolding head_of_fields
head_more word [] many = refl
head_more word (number ∷ []) many = absurd (omega arith)
head_more word (number ∷ next ∷ more) many = refl

pub head_two : (word number : List ℕ) (fields : List (List ℕ)) → bytes_eq word (codes "batch") ≡ true →
    fields ≡ number ∷ [] → head_of_fields (word ∷ fields) ≡ u64_of number
unfolding head_of_fields
head_two word number fields e f = rw (f, e) refl

pub ruleset head_steps = (head_other, head_more, head_two)

pub removal_more : (fields : List (List ℕ)) → 2 ≤ length fields → removal_of_fields fields ≡ Err Form
unfolding removal_of_fields
removal_more [] many = refl
removal_more (number ∷ []) many = absurd (omega arith)
removal_more (number ∷ next ∷ more) many = refl

same_either_way : {A : Type 0} (a b : Bool) (x : A) → cond a x (cond b x x) ≡ x
same_either_way true b x = refl
same_either_way false true x = refl
same_either_way false false x = refl

one_part : (v : Version) (line : List ℕ) → change_of_fields v (line ∷ []) ≡ Err Form
unfolding change_of_fields removal_of_fields
one_part v line = same_either_way (bytes_eq line (codes "+")) (bytes_eq line (codes "-")) (Err Form)

pub change_one : (v : Version) (line : List ℕ) → LacksByte 32 line → change_of_line v line ≡ Err Form
change_one v line lacks = ap (change_of_fields v) (fields_one line lacks) ∙ one_part v line

pub no_head : (v : Version) (text : List ℕ) → length text ≡ 0 →
    batch_of_text v text ≡ Err (record { line = 1; rule = Head })
unfolding lines_of batch_of_lines
no_head v [] none = refl
no_head v (b ∷ text) none = absurd (omega arith)

-- ---- the changes behind the head

pub two_or_more : (text front back : List ℕ) → IsCutAt 32 text front back → 2 ≤ length (fields_of text)
two_or_more text front back cut =
    let more : 0 < length (fields_of back) = fields_filled back in
    rw (fields_cut text front back cut) (omega arith)

pub behind_refused : (v : Version) (n : ℕ) (lines : List Line) (e : TextErr) (meant : Result Changes TextFault) →
    meant ≡ batch_behind v n lines → RefusesText e (values_after (change_lines v) [] lines) → RefusesText e meant
unfolding batch_behind
behind_refused v n lines (errors.Text fault) meant is broken = is ∙ rw broken refl
behind_refused v n lines errors.NoMemory meant is broken = tt

pub behind_read : (v : Version) (n : ℕ) (lines : List Line) (changes : List Change) (meant : Result Changes TextFault) →
    meant ≡ batch_behind v n lines → values_after (change_lines v) [] lines ≡ Ok changes →
    meant ≡ Ok (record { number = n; list = changes })
unfolding batch_behind
behind_read v n lines changes meant is read = is ∙ rw read refl

pub ruleset behind_head = (behind_refused, behind_read)
