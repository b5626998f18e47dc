-- What a reader of bytes stands for. This serves private functions and proofs: the relation that it
-- defines is known by what contracts say of it.
use Rattle.std.specs.Prelude.{◌≡◌, ◌≢◌, ◌⊎◌, Bool, true, false, ◌==◌, if◌then◌else◌, Result, Ok, Err, ℕ, ◌-◌, ◌+◌, ◌*◌, ◌^◌, ◌<◌, ◌≤◌, ⊤, List, [], ◌∷◌, ◌++◌, length, take, drop, slice_index, vec_len, Option, Some, None}
use Rattle.mr_record.specs.Record.{IsRecord, HasLayer, record_bytes}
use Rattle.mr_record.specs.declared.record.Record.{Record}
use Rattle.mr_record.specs.declared.version.Version.{Version}
use Rattle.mr_record.specs.RecordField.{length_place}
use Rattle.mr_record.specs.Version.{told}
use Rattle.mr_record.specs.declared.version.Version.TheVariants.{One, Two}
use Rattle.mr_tree.specs.Digest.{root_preimage}
use Rattle.mr_proof.specs.Tight.{Question, key_at, opens_at}
use Rattle.mr_proof.specs.declared.rule.Rule.TheVariants as rule
use Rattle.mr_proof.specs.declared.rule.Fault.{Fault}
use Rattle.mr_proof.specs.declared.head.Head.{Head}
use Rattle.mr_proof.specs.declared.want.Want.{Want}
use Rattle.mr_proof.specs.declared.want.Want.TheVariants as want
use Rattle.mr_proof.specs.declared.field.Field.{Field}
use Rattle.mr_proof.specs.declared.field.Field.TheVariants as field
use Rattle.mr_proof.specs.declared.pruned_entry.PrunedEntry.{PrunedEntry}
use Rattle.mr_proof.specs.declared.rule.Rule.{Rule}
use Rattle.mr_proof.specs.Fields.{size_of, field_of, pruned_tag}
use Rattle.mr_proof.specs.Limits.{count_limit, place_limit}
use Rattle.mr_proof.specs.Spelling.{Parsed}
use Rattle.mr_proof.specs.Grammar.{Grammar}
use Rattle.mr_proof.specs.Layout.{fault}
use Rattle.mr_check.specs.declared.stage.Stage.TheVariants as stage
use Rattle.mr_check.specs.declared.reader.Reader.{Reader}
use Rattle.mr_check.specs.declared.reader.Progress.{Progress}
use Rattle.mr_check.specs.declared.reader.Progress.TheVariants as turns
use Rattle.mr_check.specs.declared.fed.Fed.{Fed}
use Rattle.mr_check.specs.declared.outline.Outline.{Outline}
use Rattle.mr_check.specs.declared.fed.Fed.TheVariants as fed
use Rattle.mr_proof.specs.Handed.{handed, handed_out}
use Rattle.mr_proof.specs.Feeding.{CompletesRecord}
use Rattle.mr_check.specs.private.Stops.{waits, fails, stop, cursor_at, stop_of}
use Rattle.mr_check.specs.private.Stages.{want_at, size_in, room_in, FitsStage}
use Rattle.mr_tree.specs.declared.entry.Entry.{Entry}
use Rattle.mr_check.specs.private.Counting.{CountsRecords, other_radius}
use Rattle.mr_check.specs.private.Machine.{WaitsForField, ways_at, counted_so_far, is_other_tally}

-- the field under way of a reader, if any is
abbrev pub want_of : {H : Type 0} → Reader H → Option Want
want_of r = want_at r.machine.head.kind r.machine.stage

-- no more records are counted so far than one part could count at each byte
abbrev pub IsCounted : {H : Type 0} → Reader H → Type 0
IsCounted r = counted_so_far r.machine ≤ r.at * count_limit

-- fewer bytes are held than the field has, and it does not end past the limit
pub record FitsReader {H : Type 0} (r : Reader H) : Type 0 where
  pub stage : FitsStage r.machine.head.kind r.machine.stage (vec_len r.machine.frames.list)
  pub held : length r.held < room_in (want_of r)
  pub place : r.at + size_in (want_of r) ≤ place_limit
  pub counted : IsCounted r

-- the reader stands where the reading of these bytes waits
pub record StandsAt {H : Type 0} (hash : List ℕ → List ℕ) (holds : H → List ℕ → Type 0)
    (q : Question)
    (r : Reader H) (bytes : List ℕ) : Type 0 where
  pub next : Grammar Parsed
  pub last : ℕ
  pub stops : stop_of q bytes ≡ waits next (record { at = r.at; last = last; rest = r.held })
  pub waits : WaitsForField hash holds q r.machine (handed_out q bytes) next

-- or it knows the fault with which that ends
abbrev pub StandsBy : {H : Type 0} → (List ℕ → List ℕ) → (H → List ℕ → Type 0) → Question → Reader H
    → Option Fault → List ℕ → Type 0
StandsBy hash holds q r None bytes = StandsAt hash holds q r bytes
StandsBy hash holds q r (Some f) bytes = stop_of q bytes ≡ fails f

-- what progress comes to, for the bytes before it
abbrev pub MakesProgress : {H : Type 0} → (List ℕ → List ℕ) → (H → List ℕ → Type 0) → Question →
    List ℕ
    → List ℕ → Reader H → Progress → Type 0
MakesProgress hash holds q s piece r turns.More =
    StandsAt hash holds q r (s ++ piece) × (handed_out q (s ++ piece) ≡ handed_out q s)
MakesProgress hash holds q s piece r (turns.Took n) =
    StandsAt hash holds q r (s ++ take n piece)
    × (handed_out q (s ++ take n piece) ≡ handed_out q s)
MakesProgress hash holds q s piece r (turns.Found n) =
    StandsAt hash holds q r (s ++ take n piece)
    × (handed_out q (s ++ take n piece) ≡ handed_out q s ++ r.machine.latest ∷ [])
    × (handed_out q (s ++ take (n - 1) piece) ≡ handed_out q s)
MakesProgress hash holds q s piece r (turns.Broken f) =
    (stop_of q (s ++ piece) ≡ fails f) × (handed_out q (s ++ piece) ≡ handed_out q s)

-- how many bytes of a piece of this length it takes
abbrev pub TakesSome : ℕ → Progress → Type 0
TakesSome long (turns.Took n) = (1 ≤ n) × (n ≤ long)
TakesSome long (turns.Found n) = (1 ≤ n) × (n ≤ long)
TakesSome long _ = ⊤

abbrev pub TakesJust : ℕ → Progress → Type 0
TakesJust n (turns.Took taken) = taken ≡ n
TakesJust n (turns.Found taken) = taken ≡ n
TakesJust n _ = ⊤

-- there is a fault just where it says so
abbrev pub FaultOf : Option Fault → Progress → Type 0
FaultOf fault (turns.Broken f) = fault ≡ Some f
FaultOf fault _ = fault ≡ None

-- behind a field, where this is to be read, reading stops at a field that is under way; these
-- records were handed out before
pub record WaitsBehind {H : Type 0} (hash : List ℕ → List ℕ) (holds : H → List ℕ → Type 0)
    (q : Question) (given : List Record) (at last : ℕ) (r : Reader H) (g : Grammar Parsed) : Type 0
  where
    pub next : Grammar Parsed
    pub stops : stop g (cursor_at at last) ≡ waits next (cursor_at at last)
    pub waits : WaitsForField hash holds q r.machine given next
    pub at_field : r.at ≡ at
    pub empty : r.held ≡ []

-- what a field of which so many bytes were taken comes to
abbrev pub Behind : {H : Type 0} → (List ℕ → List ℕ) → (H → List ℕ → Type 0) → Question
    → List Record
    → ℕ → ℕ → ℕ → Reader H → Grammar Parsed → Progress → Type 0
Behind hash holds q given at last n r g turns.More = ⊥
Behind hash holds q given at last n r g (turns.Took taken) =
    (taken ≡ n) × (handed g (cursor_at at last) ≡ []) × WaitsBehind hash holds q given at last r g
Behind hash holds q given at last n r g (turns.Found taken) =
    (taken ≡ n) × (handed g (cursor_at at last) ≡ r.machine.latest ∷ [])
    × WaitsBehind hash holds q (given ++ r.machine.latest ∷ []) at last r g
Behind hash holds q given at last n r g (turns.Broken f) =
    (handed g (cursor_at at last) ≡ []) × (stop g (cursor_at at last) ≡ fails f)

-- what all progress on a piece comes to, for the bytes before it
abbrev pub FedBy : {H : Type 0} → (List ℕ → List ℕ) → (H → List ℕ → Type 0) → Question → List ℕ
    → List ℕ → Reader H → Fed → Type 0
FedBy hash holds q s piece r fed.More =
    StandsAt hash holds q r (s ++ piece) × (handed_out q (s ++ piece) ≡ handed_out q s)
FedBy hash holds q s piece r (fed.Found taken item) =
    StandsAt hash holds q r (s ++ take taken piece) × CompletesRecord q s piece taken item
FedBy hash holds q s piece r (fed.Fault f) =
    (stop_of q (s ++ piece) ≡ fails f) × (handed_out q (s ++ piece) ≡ handed_out q s)

abbrev pub FaultFed : Option Fault → Fed → Type 0
FaultFed fault (fed.Fault f) = fault ≡ Some f
FaultFed fault _ = fault ≡ None

-- so far of a piece was read, and no record of it was handed out
pub record SoFar {H : Type 0} (hash : List ℕ → List ℕ) (holds : H → List ℕ → Type 0) (q : Question)
    (old new : Reader H) (piece : List ℕ) (at : ℕ) : Type 0 where
  pub within : at ≤ length piece
  pub fits : FitsReader new
  pub none : new.fault ≡ None
  pub stands : (s : List ℕ) → StandsAt hash holds q old s
      → StandsAt hash holds q new (s ++ take at piece)
  pub quiet : (s : List ℕ) → StandsAt hash holds q old s
      → handed_out q (s ++ take at piece) ≡ handed_out q s

-- the record at the front of the piece is under way, nothing of it is held, and it ends by the
-- limit
pub record IsWhole {H : Type 0} (r : Reader H) (piece : List ℕ) (one : Record)
    (size : ℕ) : Type 0 where
  pub stage : r.machine.stage ≡ stage.Number
  pub held : r.held ≡ []
  pub is_record : IsRecord one
  pub layer : HasLayer r.machine.head.version one
  pub bytes : piece ≡ record_bytes r.machine.head.version one ++ drop size piece
  pub sized : size ≡ length (record_bytes r.machine.head.version one)
  pub place : r.at + size ≤ place_limit

-- the place of the last field of a record at this place: its payload, or without one its length
abbrev pub last_field : Version → ℕ → Record → ℕ
last_field v at r =
    if length r.payload == 0 then at + length_place v else (at + length_place v) + 1

-- where the digest of a pruned part stands in it, and how many bytes the part has
abbrev pub digest_place : Version → ℕ
digest_place v = 17 + told v 16

abbrev pub part_size : Version → ℕ
part_size v = digest_place v + 32

-- the value of a field that stands so far into these bytes
abbrev pub value_at : ℕ → Want → List ℕ → Result Field Rule
value_at place w bytes = field_of w (take (size_of w) (drop place bytes))

-- the mask and the count of a pruned part with these bytes
abbrev pub TellsPart : Version → List ℕ → (mask count : ℕ) → Type 0
TellsPart One bytes m c = (m ≡ 0) × (c ≡ 0)
TellsPart Two bytes m c =
    (value_at 17 want.Mask bytes ≡ Ok (field.Num m))
    × (value_at 25 want.Tally bytes ≡ Ok (field.Num c))

-- the bytes begin with those of a pruned part, and no field of it breaks its rule
pub record BeginsWithPart (v : Version) (bytes : List ℕ) (part : PrunedEntry) : Type 0 where
  pub long : part_size v ≤ length bytes
  pub tag : slice_index bytes 0 ≡ pruned_tag
  pub rect : value_at 1 want.Rect bytes ≡ Ok (field.Rect part.rect)
  pub tells : TellsPart v bytes part.mask part.count
  pub few : part.count ≤ count_limit
  pub digest : value_at (digest_place v) want.Digest bytes ≡ Ok (field.Digest part.digest)

-- the pruned part of this level at the front of the piece is under way, nothing of it is held, it
-- is not to be opened, and it ends by the limit
pub record IsWholePart {H : Type 0} (q : Question) (r : Reader H) (piece : List ℕ) (level : ℕ)
    (part : PrunedEntry) : Type 0 where
  pub stage : r.machine.stage ≡ stage.Tag level
  pub held : r.held ≡ []
  pub begins : BeginsWithPart r.machine.head.version piece part
  pub unopened : opens_at (ways_at q r.machine.head)
      (key_at r.machine.head.version part.mask part.rect) ≡ false
  pub place : r.at + part_size r.machine.head.version ≤ place_limit

-- what is found as the root digest, by the head and what is said of the root node
abbrev pub found_at : (List ℕ → List ℕ) → Head → Entry → List ℕ
found_at hash h node = hash (root_preimage h.version h.batch h.count node)

-- whether the radius is another than that of these records is this
abbrev pub OtherRadius : {H : Type 0} → Question → Reader H → Bool → Type 0
OtherRadius q r is =
    (rs : List Record) → CountsRecords q.around r.machine.head.radius rs r.machine.tally.radius
    → other_radius q.around r.machine.head.radius rs ≡ is

-- What is answered behind the last field, where this is said of the root node. Where that is no
-- fault, the head counts no more than its type has, so that what was added up did not stand still.
abbrev pub EndsAt : {H : Type 0} → (List ℕ → List ℕ) → List ℕ → Question → Reader H → Entry
    → Result Outline Fault → Type 0
EndsAt hash root q r node (Ok o) =
    (found_at hash r.machine.head node ≡ root) × OtherRadius q r false
    × (is_other_tally r.machine.head node ≡ false) × (r.machine.head.count < 2 ^ 64)
    × (o ≡ record
    { head = r.machine.head; rect = node.rect; whole = r.machine.tally.whole })
EndsAt hash root q r node (Err f) =
    ((f ≡ fault (rule.WrongRoot (found_at hash r.machine.head node)) r.at)
    × (found_at hash r.machine.head node ≢ root))
    ⊎ (((f ≡ fault rule.WrongRadius r.at) × (found_at hash r.machine.head node ≡ root)
    × OtherRadius q r true)
    ⊎ ((f ≡ fault rule.WrongTally r.at) × (found_at hash r.machine.head node ≡ root)
    × OtherRadius q r false × (is_other_tally r.machine.head node ≡ true)))
