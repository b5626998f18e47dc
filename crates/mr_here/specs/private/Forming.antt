-- A map that is changed in memory. This serves private functions.
use Rattle.std.specs.Prelude.{◌≡◌, ◌≢◌, ℕ, ◌+◌, ◌*◌, ◌≤◌, max, false, true, List, length, Option, Some, Result, Ok, Err}
use Rattle.mr_outside.specs.Files.{Files}
use Rattle.mr_record.specs.Version.{version_byte}
use Rattle.mr_tree.specs.Tree.{records}
use Rattle.mr_pages.specs.Law.{IsMapFile, map_root}
use Rattle.mr_pages.specs.PageBytes.{form_by}
use Rattle.mr_pages.specs.Source.{told_bytes}
use Rattle.mr_pages.specs.declared.error.MapErr.{MapErr}
use Rattle.mr_pages.specs.declared.error.MapErr.TheVariants as maps
use Rattle.mr_pages.specs.declared.opening.Opened.{Opened}
use Rattle.mr_batch.specs.Admissible.{batch_fault}
use Rattle.mr_batch.specs.Applied.{IsAdmissible}
use Rattle.mr_batch.specs.Changes.{Changes}
use Rattle.mr_batch.specs.Peak.{peak}
use Rattle.mr_edit.specs.declared.error.EditErr.{EditErr}
use Rattle.mr_edit.specs.declared.error.EditErr.TheVariants as edits
use Rattle.mr_journal.specs.Changed.{IsChange, IsLonger}
use Rattle.mr_journal.specs.Format.{page_size}
use Rattle.mr_journal.specs.declared.disk.DiskErr.{DiskErr}
use Rattle.mr_journal.specs.declared.disk.DiskErr.TheVariants as disks
use Rattle.mr_here.specs.Layers.{lacks_layers}
use Rattle.mr_here.specs.Updated.{map_after, IsHindered, MakesNext}
use Rattle.mr_here.specs.declared.error.HereErr.{HereErr}
use Rattle.mr_here.specs.declared.error.HereErr.TheVariants as errors

-- ---- a refusal in a call's own words; in memory nothing fails but for want of it

abbrev pub of_disk : DiskErr → HereErr
of_disk disks.Fault = errors.Fault
of_disk disks.NoMemory = errors.NoMemory

abbrev pub of_edit : EditErr → HereErr
of_edit (edits.Map fault) = errors.Map fault
of_edit e = errors.NoMemory

abbrev pub of_map : MapErr → HereErr
of_map (maps.Map fault) = errors.Map fault
of_map e = errors.NoMemory

-- the root digest of a copy that was sealed, or why it was not
abbrev pub of_sealed : Result (List ℕ) EditErr → Result (List ℕ) HereErr
of_sealed (Ok digest) = Ok digest
of_sealed (Err e) = Err (of_edit e)

-- ---- a map in a file of a shelf in memory

-- each file but the named one is as before
abbrev pub KeepsOthers : (name : List ℕ) → (before after : Option Files) → Type 0
KeepsOthers name before after = (q : List ℕ) → q ≢ name → told_bytes after q ≡ told_bytes before q

-- The file of this name stands for the map after the batch. It has no fewer pages than so many, and
-- no more than these, or than the greatest tree on the way has nodes, and page 0. This is its root
-- digest.
pub record HasMade (hash : List ℕ → List ℕ) (new : List ℕ) (pages : ℕ) (m : Opened)
    (batch : Changes) (told : Option Files) (digest : List ℕ) : Type 0 where
  pub bytes : List ℕ
  pub held : told_bytes told new ≡ Some bytes
  pub stands : IsMapFile hash bytes (map_after m batch)
  pub count : ℕ
  pub whole : length bytes ≡ count * (form_by m.version).size
  pub no_fewer : pages ≤ count
  pub no_more : count ≤ max pages (peak m.tree batch + 1)
  pub digest_is : digest ≡ map_root hash (map_after m batch)

-- it was made, or memory ran out
abbrev pub MakesMap : (List ℕ → List ℕ) → (new : List ℕ) → (pages : ℕ) → Opened → Changes
    → Option Files → Result (List ℕ) HereErr → Type 0
MakesMap hash new pages m batch told (Ok digest) = HasMade hash new pages m batch told digest
MakesMap hash new pages m batch told (Err e) = e ≡ errors.NoMemory

-- it was made of this map, or the batch may not be applied
abbrev pub AdmitsBatch : (List ℕ → List ℕ) → (new : List ℕ) → (pages : ℕ) → Opened → Changes
    → Option Files → Result (List ℕ) HereErr → Type 0
AdmitsBatch hash new pages m batch told (Ok digest) = IsAdmissible (records m.tree) m.batch batch
    × HasMade hash new pages m batch told digest
AdmitsBatch hash new pages m batch told (Err (errors.Batch fault)) =
    batch_fault (records m.tree) m.batch batch ≡ Some fault
AdmitsBatch hash new pages m batch told (Err e) = e ≡ errors.NoMemory

-- or the batch asks for layers that the map has not
abbrev pub JudgesBatch : (List ℕ → List ℕ) → (new : List ℕ) → (pages : ℕ) → Opened → Changes
    → Option Files → Result (List ℕ) HereErr → Type 0
JudgesBatch hash new pages m batch told (Err errors.Layer) =
    lacks_layers m.version batch.list ≡ true
JudgesBatch hash new pages m batch told result = (lacks_layers m.version batch.list ≡ false)
    × AdmitsBatch hash new pages m batch told result

-- the file of this name has the bytes of the map after the batch, whole pages and no fewer than
-- there were
pub record HasEdited (hash : List ℕ → List ℕ) (new : List ℕ) (batch : Changes) (old : List ℕ)
    (told : Option Files) (digest : List ℕ) : Type 0 where
  pub map : Opened
  pub bytes : List ℕ
  pub held : told_bytes told new ≡ Some bytes
  pub makes : MakesNext hash batch map old bytes digest
  pub pages : ℕ
  pub longer : IsLonger (page_size (version_byte map.version)) pages old bytes

-- what is made of the bytes of a file
abbrev pub EditsFile : (List ℕ → List ℕ) → (new : List ℕ) → Changes → (old : List ℕ)
    → Option Files → Result (List ℕ) HereErr → Type 0
EditsFile hash new batch old told (Ok digest) = HasEdited hash new batch old told digest
EditsFile hash new batch old told (Err e) = IsHindered hash batch old e

-- ---- the body of a journal

-- it makes the map after the batch of the old one, with just the pages that changed
pub record IsFormed (hash : List ℕ → List ℕ) (batch : Changes) (old body digest : List ℕ)
    : Type 0 where
  pub map : Opened
  pub made : List ℕ
  pub makes : MakesNext hash batch map old made digest
  pub change : IsChange (version_byte map.version) old made body
