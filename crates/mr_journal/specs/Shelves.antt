-- A disk over two files of a shelf. A file that is absent counts as one without bytes.
use Rattle.std.specs.Prelude.{◌≡◌, ◌≢◌, ◌≤◌, ℕ, false, List, [], Option, Some, None, option_map}
use Rattle.mr_outside.specs.Files.{Files, file}
use Rattle.mr_outside.specs.State.{Shelved}
use Rattle.mr_journal.specs.Images.{Image, DiskState}

abbrev pub or_none : Option (List ℕ) → List ℕ
or_none None = []
or_none (Some bytes) = bytes

-- the bytes of the named file, none where it is absent
abbrev pub bytes_or_none : Files → List ℕ → List ℕ
bytes_or_none files name = or_none (file files name)

-- the map and its journal, by the names of their files
abbrev pub image_on : (map journal : List ℕ) → Files → Image
image_on map journal files = record {
  map = bytes_or_none files map;
  journal = bytes_or_none files
      journal;
}

-- what the disk tells: its contents where the shelf tells its files, and never what a crash may
-- leave
abbrev pub disk_state : (map journal : List ℕ) → Shelved → DiskState
disk_state map journal s = record {
  contents = option_map (image_on map journal) s.files;
  tells_images = false;
  faults = s.faults;
  clock = 0;
}

-- what counts as an image: the contents
abbrev pub images_on : (map journal : List ℕ) → Shelved → ℕ → Image → Type 0
images_on map journal s t c = option_map (image_on map journal) s.files ≡ Some c

-- each file but these two is as before
abbrev pub KeepsBeside : (map journal : List ℕ) → Option Files → Option Files → Type 0
KeepsBeside map journal None after = after ≡ None
KeepsBeside map journal (Some files) after = (new : Files) × (after ≡ Some new)
    × ((q : List ℕ) → q ≢ map → q ≢ journal → file new q ≡ file files q)

-- what a call of the disk leaves beside its two files: their names, each other file, and counts
-- that do not fall
pub record KeepsShelf (m m' j j' : List ℕ) (before after : Shelved) : Type 0 where
  pub map : m' ≡ m
  pub journal : j' ≡ j
  pub beside : KeepsBeside m j before.files after.files
  pub faults : before.faults ≤ after.faults
  pub reads : before.reads ≤ after.reads
