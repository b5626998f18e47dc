-- What a command comes to: its status, what it prints and what it writes.
use Rattle.std.specs.Prelude.{◌≡◌, ◌⊎◌, ⊤, ℕ, ◌+◌, ◌≤◌, max, false, List, ◌++◌, Option, Some, None, IsSomeAnd, option_map}
use Rattle.std.specs.FinMap as map
use Rattle.mr_outside.specs.Files.{Files}
use Rattle.mr_outside.specs.Told.{OfFiles}
use Rattle.mr_journal.specs.Changed.{IsChange}
use Rattle.mr_journal.specs.Format.{changed_by, is_open, recovered, restored}
use Rattle.mr_journal.specs.Images.{Image}
use Rattle.mr_journal.specs.Recovered.{restored_in}
use Rattle.mr_journal.specs.Shelves.{image_on, KeepsBeside}
use Rattle.mr_record.specs.Version.{version_byte}
use Rattle.mr_record.specs.declared.version.Version.{Version}
use Rattle.mr_tree.specs.declared.tree.Tree.{Tree}
use Rattle.mr_pages.specs.File.{version_of}
use Rattle.mr_pages.specs.PageBytes.{form_by}
use Rattle.mr_pages.specs.Law.{IsMapFile, map_in}
use Rattle.mr_pages.specs.Saved.{saved, IsUnsealed}
use Rattle.mr_plan.specs.First.{pages_by}
use Rattle.mr_plan.specs.declared.status.Status.{Status}

-- what an output is to hold
pub data Content : Type 0 where
  text : (bytes : List ℕ) → Content
  -- a map file of this version, of this tree at this batch, laid out anew
  map_of : (version : Version) (hash : List ℕ → List ℕ) (tree : Tree) (batch : ℕ) → Content
  -- a map file of this version, of this tree at this batch, made by changes from one of so many
  -- pages, where no tree on the way had more nodes than `most`
  changed : (version : Version) (hash : List ℕ → List ℕ) (pages most : ℕ) (tree : Tree)
      (batch : ℕ) → Content

-- the map file of this version, of this tree at this batch, that has its nodes in preorder from
-- page 1 on and no free page
pub record IsLaidOut (v : Version) (hash : List ℕ → List ℕ) (tree : Tree) (batch : ℕ)
    (bytes : List ℕ) : Type 0 where
  pub laid : bytes ≡ saved (form_by v) hash tree batch
  pub stands : IsMapFile hash bytes (map_in v tree batch)

-- a map file of this version, of this tree at this batch, whatever its layout, that has no fewer
-- pages than there were, and no more than there were, or than the most nodes and page 0
pub record IsChangedMap (v : Version) (hash : List ℕ → List ℕ) (pages most : ℕ) (tree : Tree)
    (batch : ℕ) (bytes : List ℕ) : Type 0 where
  pub stands : IsMapFile hash bytes (map_in v tree batch)
  pub no_fewer : pages ≤ pages_by v bytes
  pub no_more : pages_by v bytes ≤ max pages (most + 1)

-- these bytes are it, whole
abbrev pub IsWholly : Content → List ℕ → Type 0
IsWholly (text whole) bytes = bytes ≡ whole
IsWholly (map_of v hash tree batch) bytes = IsLaidOut v hash tree batch bytes
IsWholly (changed v hash pages most tree batch) bytes =
    IsChangedMap v hash pages most tree batch bytes

-- these bytes may stand there where its writing stopped: a front of a text; of a map file, what is
-- no map for its size or for want of its seal
abbrev pub IsPartly : Content → List ℕ → Type 0
IsPartly (text whole) bytes = (rest : List ℕ) × (whole ≡ bytes ++ rest)
IsPartly (map_of v hash tree batch) bytes = IsUnsealed hash bytes
IsPartly (changed v hash pages most tree batch) bytes = IsUnsealed hash bytes

-- The file that a command writes; or a map in its own file and its journal beside it, which were
-- this image. They are recovered; then the map becomes the content, if there is one.
pub data Written : Type 0 where
  Nothing : Written
  File : (name : List ℕ) (content : Content) → Written
  InPlace : (map journal : List ℕ) (was : Image) (content : Option Content) → Written

-- Of a map that was recovered the content was made. The journal has just the pages that are new or
-- changed, and page 0, in rising number behind a gate that is shut; what went further in it stays.
pub record IsUpdatedTo (content : Content) (was now : Image) : Type 0 where
  pub wholly : IsWholly content now.map
  pub body : List ℕ
  pub change : IsChange (version_byte (version_of was.map)) was.map now.map body
  pub left : now ≡ changed_by body was

-- what the map and its journal then are
abbrev pub IsMended : (was : Image) → Option Content → (now : Image) → Type 0
IsMended was None now = now ≡ recovered was
IsMended was (Some content) now = IsUpdatedTo content (recovered was) now

-- where nothing is to be done no file is changed, and none is made
abbrev pub StaysClean : (was : Image) → Option Content → (before after : Option Files) → Type 0
StaysClean was None before after = is_open was ≡ false → after ≡ before
StaysClean was (Some content) before after = ⊤

-- what recovery would leave is what it would have left before, or the content
abbrev pub MayRestore : (map journal : List ℕ) → (was : Image) → Option Content → Files → Type 0
MayRestore map journal was content files = (restored_in map journal files ≡ restored was)
    ⊎ IsSomeAnd content (λ made. IsWholly made (restored_in map journal files))

pub record Outcome : Type 0 where
  pub status : Status
  pub printed : List ℕ
  pub written : Written

-- the named file holds these bytes, and each other is as before
abbrev pub IsHeld : List ℕ → List ℕ → Option Files → Option Files → Type 0
IsHeld name bytes before after = after ≡ option_map (λ files. map.insert files name bytes) before

-- what the files are once all is written
abbrev pub LeavesWritten : Written → Option Files → Option Files → Type 0
LeavesWritten Nothing before after = after ≡ before
LeavesWritten (File name content) before after = (bytes : List ℕ) × IsWholly content bytes
    × IsHeld name bytes before after
LeavesWritten (InPlace map journal was content) before after = KeepsBeside map journal before after
    × OfFiles after (λ new. IsMended was content (image_on map journal new))
    × StaysClean was content before after

-- what the files may be where the command stopped before its end: as before, partly written, or as
-- at the end; of a map in its own file and its journal, what recovery may be left to do
abbrev pub MayLeave : Written → Option Files → Option Files → Type 0
MayLeave Nothing before after = after ≡ before
MayLeave (File name content) before after =
    (after ≡ before) ⊎ ((bytes : List ℕ) × (IsPartly content bytes ⊎ IsWholly content bytes)
    × IsHeld name bytes before after)
MayLeave (InPlace map journal was content) before after = (after ≡ before)
    ⊎ (KeepsBeside map journal before after
    × OfFiles after (MayRestore map journal was content))
