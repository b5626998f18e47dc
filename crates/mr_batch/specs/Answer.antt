-- What a call that reads a batch text answers.
use Rattle.std.specs.Prelude.{◌≡◌, ℕ, ◌^◌, ◌<◌, List, ◌++◌, ◌∷◌, [], Result, Ok, Err, ⊤, ◌⊎◌}
use Rattle.mr_record.specs.declared.text_fault.TextRule.TheVariants.{Head}
use Rattle.mr_record.specs.declared.text_fault.TextFault.{TextFault}
use Rattle.mr_record.specs.declared.text_fault.TextErr.{TextErr}
use Rattle.mr_record.specs.declared.text_fault.TextErr.TheVariants.{Text, NoMemory}
use Rattle.mr_record.specs.Lines.{Line, lines_of}
use Rattle.mr_record.specs.LineTexts.{IsFirstFaultBy}
use Rattle.mr_record.specs.Answer.{RefusesText}
use Rattle.mr_record.specs.declared.version.Version.{Version}
use Rattle.mr_batch.specs.Changes.{Changes}
use Rattle.mr_batch.specs.BatchText.{head_line, number_of_line, AreChanges, change_lines}

-- the answer is the one that is meant, unless memory ran out
abbrev pub AnswersBatch : Result Changes TextErr → Result Changes TextFault → Type 0
AnswersBatch (Ok b) meant = meant ≡ Ok b
AnswersBatch (Err e) meant = RefusesText e meant

-- the text has no first line, or one that breaks the fault's rule first
pub record IsHeadFault (text : List ℕ) (fault : TextFault) : Type 0 where
  pub first : fault.line ≡ 1
  pub empty : lines_of text ≡ [] → fault.rule ≡ Head
  pub breaks : (line : Line) (rest : List Line) → lines_of text ≡ line ∷ rest
      → number_of_line line ≡ Err fault.rule

-- the first line is that of a batch, and the fault is the first of the lines behind it
pub record IsChangeFault (v : Version) (text : List ℕ) (fault : TextFault) : Type 0 where
  pub number : ℕ
  pub fits : number < 2 ^ 64
  pub behind : List Line
  pub lines : lines_of text ≡ lines_of (head_line number ++ 10 ∷ []) ++ behind
  pub broken : IsFirstFaultBy (change_lines v) (AreChanges v) behind fault

-- the fault is that of the first line, or that of the first line behind it that breaks a rule
abbrev pub IsFirstFault : Version → List ℕ → TextFault → Type 0
IsFirstFault v text fault = IsHeadFault text fault ⊎ IsChangeFault v text fault

-- the refusal is the first fault of the text, or memory ran out
abbrev pub IsRefusal : Version → List ℕ → TextErr → Type 0
IsRefusal v text (Text fault) = IsFirstFault v text fault
IsRefusal v text NoMemory = ⊤
