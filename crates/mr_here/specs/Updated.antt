-- What becomes of the bytes of a map by a batch, and why it is not applied.
use Rattle.std.specs.Prelude.{◌≡◌, ⊤, ℕ, ◌+◌, ◌/◌, ◌≤◌, max, false, true, List, [], ◌∷◌, length, Option, Some, Result, Ok, Err}
use Rattle.mr_journal.specs.Changed.{IsChange}
use Rattle.mr_journal.specs.Format.{changed_by}
use Rattle.mr_journal.specs.Images.{Image}
use Rattle.mr_record.specs.Version.{version_byte}
use Rattle.mr_outside.specs.Bytes.{AreBytes}
use Rattle.mr_record.specs.declared.version.Version.{Version}
use Rattle.mr_tree.specs.Tree.{records}
use Rattle.mr_pages.specs.Faults.{mapfault}
use Rattle.mr_pages.specs.File.{file_of, form_at}
use Rattle.mr_pages.specs.Law.{IsMapFile, map_in, map_root}
use Rattle.mr_pages.specs.PageBytes.{form_by}
use Rattle.mr_pages.specs.declared.opening.Opened.{Opened}
use Rattle.mr_batch.specs.Admissible.{batch_fault}
use Rattle.mr_batch.specs.Applied.{IsAdmissible}
use Rattle.mr_batch.specs.Changes.{Changes}
use Rattle.mr_batch.specs.Peak.{peak}
use Rattle.mr_batch.specs.Replay.{replay}
use Rattle.mr_here.specs.Layers.{lacks_layers}
use Rattle.mr_here.specs.declared.error.HereErr.{HereErr}
use Rattle.mr_here.specs.declared.error.HereErr.TheVariants as errors

-- ---- the bytes of a map

-- a map after a batch, in its version
abbrev pub map_after : Opened → Changes → Opened
map_after m batch = map_in m.version (replay m.tree (batch ∷ [])) batch.number

-- how many pages of this version there are
abbrev pub pages_for : Version → List ℕ → ℕ
pages_for v bytes = length bytes / (form_by v).size

-- the bytes stand for this map, and for no other
pub record IsOneMap (hash : List ℕ → List ℕ) (bytes : List ℕ) (m : Opened) : Type 0 where
  pub stands : IsMapFile hash bytes m
  pub only : (n : Opened) → IsMapFile hash bytes n → n ≡ m

-- The new bytes stand for the map after the batch. They have no fewer pages than the old ones, and
-- no more than these, or than the greatest tree on the way has nodes, and page 0.
pub record IsNextMap (hash : List ℕ → List ℕ) (batch : Changes) (m : Opened) (old new : List ℕ)
    : Type 0 where
  pub stands : IsMapFile hash new (map_after m batch)
  pub no_fewer : pages_for m.version old ≤ pages_for m.version new
  pub no_more : pages_for m.version new ≤ max (pages_for m.version old) (peak m.tree batch + 1)

-- The old bytes stand for this map, to which the batch may be applied; the new ones stand for the
-- map after it, whose root digest this is.
pub record MakesNext (hash : List ℕ → List ℕ) (batch : Changes) (m : Opened)
    (old new digest : List ℕ) : Type 0 where
  pub one : IsOneMap hash old m
  pub layers : lacks_layers m.version batch.list ≡ false
  pub may : IsAdmissible (records m.tree) m.batch batch
  pub next : IsNextMap hash batch m old new
  pub digest_is : digest ≡ map_root hash (map_after m batch)

-- The old bytes stand for a map to which the batch may be applied, and the new ones for the map
-- after it. That they do so for whatever map the old ones stand for would say nothing where these
-- stand for none.
abbrev pub Becomes : (List ℕ → List ℕ) → Changes → (old new : List ℕ) → Type 0
Becomes hash batch old new = (m : Opened) × (digest : List ℕ) × MakesNext hash batch m old new
    digest

-- ---- why it is not applied

-- The first fault of the map's file; else that the map has no layers and the batch asks for some;
-- else why the batch may not be applied. Want of memory has no cause here.
abbrev pub IsHindered : (List ℕ → List ℕ) → Changes → (old : List ℕ) → HereErr → Type 0
IsHindered hash batch old (errors.Map fault) = mapfault hash (file_of (form_at old) old) ≡ Some
    fault
IsHindered hash batch old errors.Layer = (m : Opened) × IsOneMap hash old m
    × (lacks_layers m.version batch.list ≡ true)
IsHindered hash batch old (errors.Batch fault) = (m : Opened) × IsOneMap hash old m
    × (lacks_layers m.version batch.list ≡ false)
    × (batch_fault (records m.tree) m.batch batch ≡ Some fault)
IsHindered hash batch old errors.Fault = ⊥
IsHindered hash batch old errors.NoMemory = ⊤

-- the same of a map on a disk, which may fail
abbrev pub MayRefuse : (List ℕ → List ℕ) → Changes → (old : List ℕ) → HereErr → Type 0
MayRefuse hash batch old errors.Fault = ⊤
MayRefuse hash batch old e = IsHindered hash batch old e

-- the map is refused, or the batch for it
abbrev pub IsRefusal : HereErr → Type 0
IsRefusal errors.Fault = ⊥
IsRefusal errors.NoMemory = ⊥
IsRefusal e = ⊤

-- P, where map and batch are judged: the disk did not fail, and memory did not run out
abbrev pub WhereJudged : Result (List ℕ) HereErr → Type 0 → Type 0
WhereJudged (Ok digest) P = P
WhereJudged (Err e) P = IsRefusal e → P

-- ---- what is left

-- The map of this image became the map after the batch, and the journal has just the pages that are
-- new or changed, and page 0, behind a gate that is shut.
pub record IsUpdated (hash : List ℕ → List ℕ) (batch : Changes) (was : Image)
    (after : Option Image) (digest : List ℕ) : Type 0 where
  pub map : Opened
  pub made : List ℕ
  pub makes : MakesNext hash batch map was.map made digest
  pub body : List ℕ
  pub change : IsChange (version_byte map.version) was.map made body
  pub left : after ≡ Some (changed_by body was)

-- what an update in place answers of an image whose journal isn't open, and what it leaves: where
-- map or batch are refused nothing was changed
abbrev pub Answers : (List ℕ → List ℕ) → Changes → (was : Image) → (after : Option Image) →
    Result (List ℕ) HereErr → Type 0
Answers hash batch was after (Ok digest) = IsUpdated hash batch was after digest
Answers hash batch was after (Err e) = MayRefuse hash batch was.map e
    × (IsRefusal e → after ≡ Some was)

-- whether or not the contents are told, it is what is answered of some bytes
abbrev pub AnswersSome : (List ℕ → List ℕ) → Changes → Result (List ℕ) HereErr → Type 0
AnswersSome hash batch (Ok digest) = (old : List ℕ) × AreBytes old × ((m : Opened) × (new : List ℕ)
    × MakesNext hash batch m old new digest)
AnswersSome hash batch (Err e) = (old : List ℕ) × AreBytes old × MayRefuse hash batch old e
