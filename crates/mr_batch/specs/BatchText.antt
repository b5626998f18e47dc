-- The text of a batch of a version: the line `batch N`, then a line for each change, `+ ` and a
-- record line or `- ` and a number.
use Rattle.std.specs.Prelude.{ℕ, ◌^◌, ◌<◌, ◌≤◌, not, if◌then◌else◌, List, [], ◌∷◌, ◌++◌, length, All, Option, None, Result, Ok, Err, ok_or, bytes_eq, codes, decimal}
use Rattle.mr_record.specs.declared.text_fault.TextRule.{TextRule}
use Rattle.mr_record.specs.declared.text_fault.TextRule.TheVariants.{NoEnd, Head, Form, Number}
use Rattle.mr_record.specs.declared.text_fault.TextFault.{TextFault}
use Rattle.mr_record.specs.Decimal.{u64_of}
use Rattle.mr_record.specs.Lines.{Line, lines_of, fields_of}
use Rattle.mr_record.specs.Record.{IsRecord, HasLayer}
use Rattle.mr_record.specs.declared.version.Version.{Version}
use Rattle.mr_record.specs.LineTexts.{Reader, text_by, on_line, values_after}
use Rattle.mr_record.specs.RecordText.{line_of, record_of_fields, layered}
use Rattle.mr_record.specs.Results.{◌>>=◌}
use Rattle.mr_batch.specs.declared.change.Change.{Change}
use Rattle.mr_batch.specs.declared.change.Change.TheVariants.{Add, Remove}
use Rattle.mr_batch.specs.Changes.{Changes}

-- ---- the one spelling of a batch

-- the line of a change, without its line feed
unfoldable pub change_line : Version → Change → List ℕ
change_line v (Add r) = 43 ∷ 32 ∷ line_of v r
change_line v (Remove n) = 45 ∷ 32 ∷ decimal n

-- the first line, without its line feed
unfoldable pub head_line : ℕ → List ℕ
head_line n = codes "batch " ++ decimal n

-- the most changes of a batch
abbrev pub change_limit : ℕ
change_limit = 2 ^ 20

-- a record that comes, with a layer of the version, or a number within its range
abbrev pub IsChange : Version → Change → Type 0
IsChange v (Add r) = IsRecord r × HasLayer v r
IsChange v (Remove n) = n < 2 ^ 64

-- changes that a text of this version may hold
pub record AreChanges (v : Version) (changes : List Change) : Type 0 where
  pub each : All (IsChange v) changes
  pub count : length changes ≤ change_limit

-- a batch that a text may hold
pub record IsBatch (v : Version) (b : Changes) : Type 0 where
  pub number : b.number < 2 ^ 64
  pub changes : AreChanges v b.list

-- ---- what a line spells

-- the number of a batch that the fields of the first line spell
unfoldable pub head_of_fields : List (List ℕ) → Option ℕ
head_of_fields (word ∷ number ∷ []) = if bytes_eq word (codes "batch") then u64_of number else None
head_of_fields _ = None

-- the number of a batch that the first line spells
abbrev pub head_of_line : List ℕ → Option ℕ
head_of_line line = head_of_fields (fields_of line)

-- the addition that the fields behind `+` spell, else the first rule that they break
abbrev pub addition_of_fields : Version → List (List ℕ) → Result Change TextRule
addition_of_fields v fields = do
  parts ← record_of_fields v fields
  r ← layered parts
  Ok (Add r)

-- the removal that the fields behind `-` spell, else the first rule that they break
unfoldable pub removal_of_fields : List (List ℕ) → Result Change TextRule
removal_of_fields (number ∷ []) = do
  n ← ok_or (u64_of number) Number
  Ok (Remove n)
removal_of_fields _ = Err Form

-- the change that the fields of a line spell, else the first rule that they break
unfoldable pub change_of_fields : Version → List (List ℕ) → Result Change TextRule
change_of_fields v [] = Err Form
change_of_fields v (sign ∷ fields) =
    if bytes_eq sign (codes "+") then addition_of_fields v fields
    else if bytes_eq sign (codes "-") then removal_of_fields fields
    else Err Form

-- the change that a line without its line feed spells, else the first rule that it breaks
abbrev pub change_of_line : Version → List ℕ → Result Change TextRule
change_of_line v line = change_of_fields v (fields_of line)

-- ---- what a text spells

-- the number on the first line, else the first rule that it breaks
unfoldable pub number_of_line : Line → Result ℕ TextRule
number_of_line line = if not line.ended then Err NoEnd else ok_or (head_of_line line.bytes) Head

-- how the lines behind the first spell changes
abbrev pub change_lines : Version → Reader Change
change_lines v = record {
  limit = change_limit;
  first = 2;
  read = λ earlier. change_of_line v;
  spell = change_line v;
}

-- the lines of the changes, each with its line feed
unfoldable pub changes_text : Version → List Change → List ℕ
changes_text v changes = text_by (change_lines v) changes

-- the lines of the batch, each with its line feed
unfoldable pub batch_text : Version → Changes → List ℕ
batch_text v b = head_line b.number ++ 10 ∷ changes_text v b.list

-- the batch with the number and the changes of the lines, else the first fault
unfoldable pub batch_behind : Version → ℕ → List Line → Result Changes TextFault
batch_behind v number lines = do
  changes ← values_after (change_lines v) [] lines
  Ok (record { number = number; list = changes })

-- the batch of the lines of a text, else its fault
unfoldable pub batch_of_lines : Version → List Line → Result Changes TextFault
batch_of_lines v [] = Err (record { line = 1; rule = Head })
batch_of_lines v (line ∷ lines) = do
  number ← on_line 1 (number_of_line line)
  batch_behind v number lines

-- the batch of a text, else its fault
abbrev pub batch_of_text : Version → List ℕ → Result Changes TextFault
batch_of_text v text = batch_of_lines v (lines_of text)
