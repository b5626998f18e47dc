-- What recovery makes of a map and its journal in two files of a shelf that tells its files.
use Rattle.std.specs.Prelude.{◌≡◌, ⊤, Bool, ℕ, List, Option, Some, None, Result, Ok, Err}
use Rattle.mr_outside.specs.Files.{Files}
use Rattle.mr_journal.specs.Format.{is_open, restored, recovered}
use Rattle.mr_journal.specs.Shelves.{image_on}
use Rattle.mr_journal.specs.declared.disk.DiskErr.{DiskErr}

-- the map as recovery leaves it
abbrev pub restored_in : (map journal : List ℕ) → Files → List ℕ
restored_in map journal files = restored (image_on map journal files)

-- the files are told, and have P
abbrev pub FilesHave : Option Files → (Files → Type 0) → Type 0
FilesHave None P = ⊥
FilesHave (Some files) P = P files

-- Of files that are told. Where it is answered: the answer is whether the journal was open, and the
-- two files are what recovery leaves of them. Where it is refused: they restore to what they
-- restored to.
abbrev pub RecoversMap : (map journal : List ℕ) → Option Files → Option Files → Result Bool DiskErr
    → Type 0
RecoversMap map journal None after result = ⊤
RecoversMap map journal (Some files) after (Ok was) = (was ≡ is_open (image_on map journal files))
    × FilesHave after
    (λ new. image_on map journal new ≡ recovered (image_on map journal files))
RecoversMap map journal (Some files) after (Err e) =
    FilesHave after (λ new. restored_in map journal new ≡ restored_in map journal files)
