-- What a command says: which files it reads, in which order, and what it comes to by what they
-- hold. Inputs are read first, then its outcome is settled; then the outcome's file is written, and
-- printing comes last.
use Rattle.std.specs.Prelude.{◌≡◌, ◌⊎◌, ℕ, List, Option, Some, None, IfSome}
use Rattle.mr_outside.specs.Files.{Files, file}
use Rattle.mr_journal.specs.Shelves.{bytes_or_none}
use Rattle.mr_outside.specs.Bytes.{AreBytes}
use Rattle.mr_record.specs.declared.version.Version.{Version}
use Rattle.mr_plan.specs.Found.{Found, ShowsMap}
use Rattle.mr_plan.specs.Outcome.{Outcome}

-- an input by its bytes; none where there is no such file
abbrev pub Input : Type 0
Input = Option (List ℕ)

-- it has come to an outcome; or it reads a file and goes on by what that holds; or it goes on by
-- the map that bytes, read in a version, stand for, or by their fault; or it reads a file that may
-- be absent, and then goes on as by one without bytes
pub data Plan : Type 0 where
  comes : Outcome → Plan
  reads : (name : List ℕ) → (Input → Plan) → Plan
  opens : (version : Version) (hash : List ℕ → List ℕ) (bytes : List ℕ) → (Found → Plan) → Plan
  seeks : (name : List ℕ) → (List ℕ → Plan) → Plan

-- where the files are told, this is the named one; else it is any, of bytes
abbrev pub IsInput : Option Files → List ℕ → Input → Type 0
IsInput None name input = IfSome input AreBytes
IsInput (Some files) name input = file files name ≡ input

-- where the files are told, these are the bytes of the named one, none where it is absent; else
-- they are any
abbrev pub IsSought : Option Files → List ℕ → List ℕ → Type 0
IsSought None name bytes = AreBytes bytes
IsSought (Some files) name bytes = bytes_or_none files name ≡ bytes

-- the outcome, by what each file holds that is read; where the files are not told, each read has
-- some content
abbrev pub LeadsToOutcome : Plan → Option Files → Outcome → Type 0
LeadsToOutcome (comes said) told outcome = outcome ≡ said
LeadsToOutcome (reads name next) told outcome = (input : Input) × IsInput told name input
    × LeadsToOutcome (next input) told outcome
LeadsToOutcome (opens v hash bytes next) told outcome = (found : Found) × ShowsMap v hash
    bytes found
    × LeadsToOutcome (next found) told outcome
LeadsToOutcome (seeks name next) told outcome = (bytes : List ℕ) × IsSought told name bytes
    × LeadsToOutcome (next bytes) told outcome

-- the one outcome over files that are told, whatever map or fault their bytes show
abbrev pub IsOutcomeOver : Plan → Files → Outcome → Type 0
IsOutcomeOver (comes said) files outcome = outcome ≡ said
IsOutcomeOver (reads name next) files outcome = IsOutcomeOver (next (file files name)) files outcome
IsOutcomeOver (opens v hash bytes next) files outcome =
    (found : Found) → ShowsMap v hash bytes found → IsOutcomeOver (next found) files outcome
IsOutcomeOver (seeks name next) files outcome =
    IsOutcomeOver (next (bytes_or_none files name)) files outcome

-- the named file is told to be absent
abbrev pub IsAbsent : Option Files → List ℕ → Type 0
IsAbsent None name = ⊥
IsAbsent (Some files) name = file files name ≡ None

-- a file that is read, and has to be there, is told to be absent
abbrev pub LacksInput : Plan → Option Files → Type 0
LacksInput (comes said) told = ⊥
LacksInput (reads name next) told = IsAbsent told name
    ⊎ ((input : Input) × IsInput told name input × LacksInput (next input) told)
LacksInput (opens v hash bytes next) told = (found : Found) × ShowsMap v hash bytes found
    × LacksInput (next found) told
LacksInput (seeks name next) told = (bytes : List ℕ) × IsSought told name bytes
    × LacksInput (next bytes) told
