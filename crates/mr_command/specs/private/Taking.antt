-- A proof in a file that is read in pieces and judged as they come. This serves private functions.
use Rattle.std.specs.Prelude.{◌≡◌, ℕ, ◌+◌, ◌-◌, ◌≤◌, min, List, ◌++◌, length, take, drop, Option, Some, ⊤, Result, Ok, Err}
use Rattle.std.specs.Global.{Vec}
use Rattle.mr_outside.specs.Files.{Files, file}
use Rattle.mr_outside.specs.State.{Shelved}
use Rattle.mr_outside.specs.Told.{OfFile, OfFiles, MayMiss}
use Rattle.mr_outside.specs.Bytes.{AreBytes}
use Rattle.mr_record.specs.declared.record.Record.{Record}
use Rattle.mr_record.specs.declared.version.Version.{Version}
use Rattle.mr_tree.specs.declared.hash.Hashes.{Ghosts}
use Rattle.mr_query.specs.declared.query.Query.{Query}
use Rattle.mr_proof.specs.declared.rule.Fault.{Fault}
use Rattle.mr_proof.specs.Feeding.{IsUnsettled}
use Rattle.mr_proof.specs.Tight.{question}
use Rattle.mr_proof.specs.Reading.{verdict}
use Rattle.mr_check.specs.Versions.{proof_version}
use Rattle.mr_check.specs.Judged.{IsTaken}
use Rattle.mr_check.specs.declared.piece_check.PieceCheck.{PieceCheck}
use Rattle.mr_command.specs.Counting.{pieces_of, IsToFault}
use Rattle.mr_command.specs.Ending.{NoneFalls, StopsCommand}
use Rattle.mr_plan.specs.Plan.{IsInput}
use Rattle.mr_outside.specs.declared.shelf.ShelfErr.{ShelfErr}
use Rattle.mr_outside.specs.declared.shelf.ShelfErr.TheVariants as shelf
use Rattle.mr_check.specs.declared.error.CheckErr.{CheckErr}
use Rattle.mr_check.specs.declared.error.CheckErr.TheVariants as errors
use Rattle.mr_command.specs.declared.ending.Halt.TheVariants as halts
use Rattle.mr_command.specs.declared.pieces.Stop.{Stop}
use Rattle.mr_command.specs.declared.pieces.Stop.TheVariants as stops

-- this is what came of a file from this place on, where so many bytes were asked for
pub record IsPiece (told : Option Files) (name : List ℕ) (at wanted count : ℕ) (piece : List ℕ)
    : Type 0 where
  pub long : length piece ≡ count
  pub within : count ≤ wanted
  pub are : AreBytes piece
  pub count_is : OfFile told name ⊥ (λ bytes. count ≡ min wanted (length bytes - at))
  pub bytes_are : OfFile told name ⊥ (λ bytes. piece ≡ take count (drop at bytes))

-- a read neither changes files nor takes a count back, and each refusal has its cause
abbrev pub IsReadCause : {A : Type 0} → List ℕ → Shelved → Shelved → Result A Stop → Type 0
IsReadCause name before after (Ok x) = after.faults ≡ before.faults
IsReadCause name before after (Err (stops.Refused f)) = after.faults ≡ before.faults
IsReadCause name before after (Err stops.Missing) =
    MayMiss before.files name before.faults after.faults
IsReadCause name before after (Err (stops.Halted halt)) = StopsCommand before after halt

pub record HasCauses {A : Type 0} (name : List ℕ) (before after : Shelved) (result : Result A Stop)
    : Type 0 where
  pub counts : NoneFalls before after
  pub files : after.files ≡ before.files
  pub cause : IsReadCause name before after result

-- with the piece that comes next the proof has a fault, whatever follows
abbrev pub StopsNext : (List ℕ → List ℕ) → List ℕ → Query → Option Files → (name : List ℕ)
    (at wanted : ℕ) → List ℕ → Stop → Type 0
StopsNext hash root q told name at wanted front (stops.Refused f) =
    (count : ℕ) × (piece : List ℕ) × IsPiece told name at wanted count piece
    × ((more : List ℕ) → verdict hash root q ((front ++ piece) ++ more) ≡ Err f)
StopsNext hash root q told name at wanted front stops.Missing = ⊤
StopsNext hash root q told name at wanted front (stops.Halted halt) = ⊤

-- the next piece of the file, where the proof was taken so far, is taken too, and fixes no fault;
-- or that is so
abbrev pub TakesNext : {H : Type 0} {G : Ghosts H} → (List ℕ → List ℕ) → (H → List ℕ → Type 0)
    → List ℕ → Query → Option Files → (name : List ℕ) (at wanted : ℕ) → List ℕ
    → Result (PieceCheck H G × ℕ) Stop → Type 0
TakesNext hash holds root q told name at wanted front (Ok next) =
    (piece : List ℕ) × IsPiece told name at wanted next.1 piece
    × IsTaken hash holds root q next.0 (front ++ piece) × IsUnsettled hash root (question q)
    (front ++ piece)
TakesNext hash holds root q told name at wanted front (Err e) =
    StopsNext hash root q told name at wanted front e

-- the file holds some bytes with this verdict: where it is told, those that it holds
pub record HasVerdict (hash : List ℕ → List ℕ) (root : List ℕ) (q : Query) (told : Option Files)
    (name : List ℕ) (v : Result (List Record) Fault) : Type 0 where
  pub bytes : List ℕ
  pub input : IsInput told name (Some bytes)
  pub are : AreBytes bytes
  pub verdict_is : verdict hash root q bytes ≡ v

-- the proof in the file has this fault, where it is refused
abbrev pub StopsFile : (List ℕ → List ℕ) → List ℕ → Query → Option Files → List ℕ → Stop → Type 0
StopsFile hash root q told name (stops.Refused f) = HasVerdict hash root q told name (Err f)
StopsFile hash root q told name stops.Missing = ⊤
StopsFile hash root q told name (stops.Halted halt) = ⊤

-- some bytes that the file holds, all of it where it is told, were taken
pub record IsAllTaken {H : Type 0} {G : Ghosts H} (hash : List ℕ → List ℕ)
    (holds : H → List ℕ → Type 0) (root : List ℕ) (q : Query) (told : Option Files)
    (name : List ℕ) (i : PieceCheck H G) : Type 0 where
  pub bytes : List ℕ
  pub input : IsInput told name (Some bytes)
  pub are : AreBytes bytes
  pub taken : IsTaken hash holds root q i bytes

-- all of the file was taken, or it has a fault
abbrev pub TakesFile : {H : Type 0} {G : Ghosts H} → (List ℕ → List ℕ) → (H → List ℕ → Type 0)
    → List ℕ → Query → Option Files → List ℕ → Result (PieceCheck H G) Stop → Type 0
TakesFile hash holds root q told name (Ok i) = IsAllTaken hash holds root q told name i
TakesFile hash holds root q told name (Err e) = StopsFile hash root q told name e

-- where the files are told, so much of the file was read between these counts: no piece twice, and
-- none behind the one that fixes a fault
abbrev pub ReadsToFault : (List ℕ → List ℕ) → List ℕ → Query → Option Files → List ℕ
    → (before after : ℕ) → Type 0
ReadsToFault hash root q told name before after = OfFiles told (λ files. (n : ℕ)
    × (after ≤ before + n) × (n ≤ pieces_of (file files name))
    × IsToFault hash root q (file files name) n)

-- what the proof in a file proves, beside its version; or its fault
abbrev pub JudgesFile : (List ℕ → List ℕ) → List ℕ → Query → Option Files → List ℕ
    → Result (Version × Vec Record) Stop → Type 0
JudgesFile hash root q told name (Ok a) =
    (is : HasVerdict hash root q told name (Ok a.1.items)) × (a.0 ≡ proof_version is.bytes)
JudgesFile hash root q told name (Err e) = StopsFile hash root q told name e

-- why it has none, where the shelf refused
abbrev pub stop_of_shelf : ShelfErr → Stop
stop_of_shelf shelf.Missing = stops.Missing
stop_of_shelf shelf.Fault = stops.Halted halts.Shelf
stop_of_shelf shelf.NoMemory = stops.Halted halts.NoMemory

-- why it has none, where the client refused
abbrev pub stop_of_check : CheckErr → Stop
stop_of_check (errors.Fault f) = stops.Refused f
stop_of_check errors.NoMemory = stops.Halted halts.NoMemory
