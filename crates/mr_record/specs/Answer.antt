-- What a call that reads a text of lines answers.
use Rattle.std.specs.Prelude.{◌≡◌, ℕ, List, Result, Ok, Err, ⊤}
use Rattle.std.specs.Global.{Vec}
use Rattle.mr_record.specs.declared.version.Version.{Version}
use Rattle.mr_record.specs.declared.text_fault.TextFault.{TextFault}
use Rattle.mr_record.specs.declared.text_fault.TextErr.{TextErr}
use Rattle.mr_record.specs.declared.text_fault.TextErr.TheVariants.{Text, NoMemory}
use Rattle.mr_record.specs.Lines.{lines_of}
use Rattle.mr_record.specs.LineTexts.{IsFirstFaultBy}
use Rattle.mr_record.specs.RecordText.{IsRecordList, record_lines}

-- the refusal is the fault that is meant, or memory ran out
abbrev pub RefusesText : {A : Type 0} → TextErr → Result A TextFault → Type 0
RefusesText (Text fault) meant = meant ≡ Err fault
RefusesText NoMemory meant = ⊤

-- the answer is the one that is meant, unless memory ran out
abbrev pub AnswersText : {A : Type 0} → Result (Vec A) TextErr → Result (List A) TextFault → Type 0
AnswersText (Ok v) meant = meant ≡ Ok v.items
AnswersText (Err e) meant = RefusesText e meant

-- The lines before the fault's line are the lines of records that one text may hold, and behind
-- those records the fault's line breaks the fault's rule first.
abbrev pub IsFirstFault : Version → List ℕ → TextFault → Type 0
IsFirstFault v text fault =
    IsFirstFaultBy (record_lines v) (IsRecordList v) (lines_of text) fault

-- the refusal is the first fault of the text, or memory ran out
abbrev pub IsRefusal : Version → List ℕ → TextErr → Type 0
IsRefusal v text (Text fault) = IsFirstFault v text fault
IsRefusal v text NoMemory = ⊤
