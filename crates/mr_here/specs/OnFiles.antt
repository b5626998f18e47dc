-- What an update in place makes of a map and its journal in two files of a shelf that tells its
-- files.
use Rattle.std.specs.Prelude.{◌≡◌, ◌⊎◌, ⊤, false, ℕ, List, Option, Some, None, Result, Ok, Err}
use Rattle.mr_outside.specs.Files.{Files}
use Rattle.mr_pages.specs.File.{version_of}
use Rattle.mr_record.specs.declared.version.Version.{Version}
use Rattle.mr_batch.specs.Changes.{Changes}
use Rattle.mr_journal.specs.Format.{is_open, recovered}
use Rattle.mr_journal.specs.Recovered.{FilesHave, restored_in}
use Rattle.mr_journal.specs.Shelves.{image_on}
use Rattle.mr_journal.specs.declared.disk.DiskErr.{DiskErr}
use Rattle.mr_here.specs.declared.error.HereErr.{HereErr}
use Rattle.mr_here.specs.Updated.{Answers, Becomes, IsRefusal}

-- What was answered is so of the files as recovery leaves them, and of what they are now. The
-- journal isn't open where it was answered. Where it was refused, the files restore to what they
-- restored to, or to the map after the batch; where the map or the batch was, and the journal
-- wasn't open, no file was changed, and none was made.
abbrev pub AppliesTo : (List ℕ → List ℕ) → (map journal : List ℕ) → Changes → Option Files
    → Option Files → Result (List ℕ) HereErr → Type 0
AppliesTo hash map journal batch None after result = ⊤
AppliesTo hash map journal batch (Some files) after (Ok digest) = FilesHave after
    (λ new. Answers hash batch (recovered (image_on map journal files))
    (Some (image_on map journal new)) (Ok digest) × (is_open (image_on map journal new) ≡ false))
AppliesTo hash map journal batch (Some files) after (Err e) = FilesHave after
    (λ new. Answers hash batch (recovered (image_on map journal files))
    (Some (image_on map journal new)) (Err e)
    × ((restored_in map journal new ≡ restored_in map journal files)
    ⊎ Becomes hash batch (restored_in map journal files) (restored_in map journal new))
    × (IsRefusal e → is_open (image_on map journal files) ≡ false → new ≡ files))

-- the version of the map as recovery would leave it
abbrev pub TellsVersion : (map journal : List ℕ) → Option Files → Result Version DiskErr → Type 0
TellsVersion map journal None result = ⊤
TellsVersion map journal (Some files) (Ok v) = v ≡ version_of (restored_in map journal files)
TellsVersion map journal (Some files) (Err e) = ⊤
