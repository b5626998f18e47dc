-- Texts of lines, each of which spells one value: the values of a text, or its first fault. A fault
-- has the least faulty line, and on it the first rule of the list of `TextRule` that the line
-- breaks.
use Rattle.std.specs.Prelude.{◌≡◌, ℕ, ◌+◌, not, nat_le, if◌then◌else◌, List, [], ◌∷◌, ◌++◌, length, Result, Ok, Err, flat_map}
use Rattle.mr_record.specs.declared.text_fault.TextRule.{TextRule}
use Rattle.mr_record.specs.declared.text_fault.TextRule.TheVariants.{TooMany, NoEnd}
use Rattle.mr_record.specs.declared.text_fault.TextFault.{TextFault}
use Rattle.mr_record.specs.Lines.{Line, lines_of}
use Rattle.mr_record.specs.Results.{◌>>=◌}

-- how the lines of a text spell values, each line one
pub record Reader (A : Type 0) : Type 0 where
  -- the most lines
  pub limit : ℕ
  -- what the first line is counted as
  pub first : ℕ
  -- the value of a line without its line feed behind the earlier values, else the first rule that
  -- it breaks
  pub read : List A → List ℕ → Result A TextRule
  -- the line of a value, without its line feed
  pub spell : A → List ℕ

-- ---- the one spelling

-- the lines of the values, each with its line feed
abbrev pub text_by : {A : Type 0} → Reader A → List A → List ℕ
text_by reader values = flat_map (λ x. reader.spell x ++ 10 ∷ []) values

-- ---- what a text spells

-- the value of the line behind the earlier values, else the first rule that it breaks
unfoldable pub value_after : {A : Type 0} → Reader A → List A → Line → Result A TextRule
value_after reader earlier line =
    if nat_le reader.limit (length earlier) then Err TooMany
    else if not line.ended then Err NoEnd
    else reader.read earlier line.bytes

-- the rule broken on a line, as a fault
abbrev pub on_line : {A : Type 0} → ℕ → Result A TextRule → Result A TextFault
on_line n (Ok x) = Ok x
on_line n (Err rule) = Err (record { line = n; rule = rule })

-- the values of the lines behind the earlier values, each of which had a line of its own, else the
-- first fault
unfoldable pub values_after : {A : Type 0} → Reader A → List A → List Line
    → Result (List A) TextFault
values_after reader earlier [] = Ok earlier
values_after reader earlier (line ∷ lines) = do
  one ← on_line (length earlier + reader.first) (value_after reader earlier line)
  values_after reader (earlier ++ one ∷ []) lines

-- The lines before the fault's line are the lines of values that one text may hold, and behind
-- those values the fault's line breaks the fault's rule first.
pub record IsFirstFaultBy {A : Type 0} (reader : Reader A) (Holds : List A → Type 0)
    (all : List Line) (fault : TextFault) : Type 0 where
  pub earlier : List A
  pub held : Holds earlier
  pub counted : fault.line ≡ length earlier + reader.first
  pub line : Line
  pub rest : List Line
  pub lines : all ≡ lines_of (text_by reader earlier) ++ line ∷ rest
  pub breaks : value_after reader earlier line ≡ Err fault.rule
