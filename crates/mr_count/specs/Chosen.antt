-- What the proof for a choice has to show, and what it gives of a map.
use Rattle.std.specs.Prelude.{◌≡◌, ℕ, ◌+◌, ◌≤◌, ⊤, Bool, true, List, length, filter, All, None, Result, Ok, Err}
use Rattle.std.specs.List.{Contains}
use Rattle.mr_record.specs.Record.{HasLayer}
use Rattle.mr_record.specs.declared.record.Record.{Record}
use Rattle.mr_record.specs.declared.version.Version.TheVariants.{Two}
use Rattle.mr_tree.specs.Limits.{count_limit}
use Rattle.mr_tree.specs.Tree.{rect, records}
use Rattle.mr_tree.specs.declared.tree.Tree.{Tree}
use Rattle.mr_query.specs.Region.{record_key}
use Rattle.mr_query.specs.declared.key.Key.{Key}
use Rattle.mr_proof.specs.declared.head.Kind.TheVariants as kind
use Rattle.mr_proof.specs.declared.rule.Rule.{Rule}
use Rattle.mr_proof.specs.declared.rule.Rule.TheVariants as rule
use Rattle.mr_proof.specs.declared.rule.Fault.{Fault}
use Rattle.mr_proof.specs.declared.way.Way.{Way}
use Rattle.mr_proof.specs.Spelling.{Parsed, opened_records}
use Rattle.mr_proof.specs.Tight.{Question, opens_at, keeps_record}
use Rattle.mr_proof.specs.Reading.{checked, ◌>>=◌}
use Rattle.mr_check.specs.Answers.{rect_round}
use Rattle.mr_check.specs.Whole.{is_whole, whole_in}
use Rattle.mr_count.specs.declared.error.ChoiceErr.{ChoiceErr}
use Rattle.mr_count.specs.declared.error.ChoiceErr.TheVariants as errors
use Rattle.mr_count.specs.declared.taken.Taken.{Taken}

-- What the proof for a choice has to show, where its kind is this letter. It is of the second
-- version, and its head has no squared radius.
abbrev pub chosen : (letter : ℕ) → (Key → Way) → Question
chosen letter way = record {
  kind = kind.Choice letter;
  two_only = true;
  around = None;
  way = λ radius part. way part;
}

-- What a head and a cut give: the head's count, the rectangle round the map, the count of the
-- pruned parts that are taken whole, and the opened records that are not left out.
abbrev pub taken_of : (Key → Way) → Parsed → Taken
taken_of way x = record {
  count = x.head.count;
  rect = rect_round x.part;
  whole = whole_in x.head.version way x.part;
  records = filter (keeps_record way) (opened_records x.part);
}

-- what the bytes of a proof for a choice give, or their fault
abbrev pub verdict_for : (List ℕ → List ℕ) → List ℕ → (letter : ℕ) → (Key → Way) → List ℕ
    → Result Taken Fault
verdict_for hash root letter way bytes =
    checked hash root (chosen letter way) bytes >>= λ x. Ok (taken_of way x)

-- what is answered for a proof that has this verdict: the verdict, unless memory ran out
abbrev pub AnswersChoice : Result Taken ChoiceErr → Result Taken Fault → Type 0
AnswersChoice (Ok x) verdict = verdict ≡ Ok x
AnswersChoice (Err (errors.Fault f)) verdict = verdict ≡ Err f
AnswersChoice (Err errors.NoMemory) verdict = ⊤

-- the rules that it may break: any but those on a flag and a squared radius, which it does not have
abbrev pub MayBreak : Rule → Type 0
MayBreak rule.BadFlag = ⊥
MayBreak rule.BadRadius = ⊥
MayBreak rule.WrongRadius = ⊥
MayBreak _ = ⊤

-- ---- what is chosen of a map

-- whether a record is one that is to be opened, and whether it is one that is taken whole
abbrev pub opens_record : (Key → Way) → Record → Bool
opens_record way r = opens_at way (record_key r)

abbrev pub takes_whole : (Key → Way) → Record → Bool
takes_whole way r = is_whole (way (record_key r))

-- how many of the records are taken whole
abbrev pub number_whole : (Key → Way) → List Record → ℕ
number_whole way rs = length (filter (takes_whole way) rs)

-- how many that is in all: below the parts that the proof prunes, and among the records that it
-- gives
abbrev pub total_whole : (Key → Way) → Taken → ℕ
total_whole way x = x.whole + number_whole way x.records

-- What is given is of the map with this tree: its count and its rectangle; its records are the
-- map's, with all in order that are to be opened; and as many are taken whole as of the map.
pub record IsChosen (t : Tree) (way : Key → Way) (x : Taken) : Type 0 where
  pub count : x.count ≡ length (records t)
  pub rect : x.rect ≡ rect t
  pub among : (r : Record) → Contains x.records r → Contains (records t) r
  pub opened : filter (opens_record way) x.records ≡ filter (opens_record way) (records t)
  pub whole : total_whole way x ≡ number_whole way (records t)

-- whatever the map, what accepted bytes give has no more records than their head says, which are as
-- many as a map may have; and their layers are those of version 2
pub record FitsTaken (x : Taken) : Type 0 where
  pub few : x.whole + length x.records ≤ x.count
  pub count : x.count ≤ count_limit
  pub layers : All (HasLayer Two) x.records
