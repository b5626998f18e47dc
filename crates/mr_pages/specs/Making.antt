-- How the file of a map is made while its page 0 is zeros, and what is left where it is given up.
use Rattle.std.specs.Prelude.{◌≡◌, ℕ, ◌+◌, ◌≤◌, List, ◌++◌, length, replicate, Option, None}
use Rattle.mr_outside.specs.Faults.{Rose}
use Rattle.mr_outside.specs.Files.{with_file}
use Rattle.mr_outside.specs.State.{Shelved}
use Rattle.mr_outside.specs.Writing.{IsChanged}
use Rattle.mr_outside.specs.declared.shelf.ShelfErr.{ShelfErr}
use Rattle.mr_outside.specs.declared.shelf.ShelfErr.TheVariants as shelf
use Rattle.mr_tree.specs.declared.child.Child.{Child}
use Rattle.mr_tree.specs.declared.tree.Tree.{Tree}
use Rattle.mr_pages.specs.Page.{Form}
use Rattle.mr_pages.specs.private.Putting.{IsImage, PutSoFar, some_row}
use Rattle.mr_pages.specs.Saved.{LeavesFile, saved_pages}
use Rattle.mr_pages.specs.Stands.{all_pages}

-- bytes whose page 0 is zeros, as far as it is there
abbrev pub IsBegun : (size : ℕ) → (bytes : List ℕ) → Type 0
IsBegun size bytes =
    (behind : List ℕ) × (rest : List ℕ) × (replicate size 0 ++ behind ≡ bytes ++ rest)

-- the named file was made and has these bytes, and no fault was counted
pub record HasMade (name bytes : List ℕ) (before now : Shelved) : Type 0 where
  pub files : IsChanged (with_file name) bytes before.files now.files
  pub faults : now.faults ≡ before.faults
  pub reads : now.reads ≡ before.reads

-- the file was given up: what may be left, and why
pub record GivesUpFile (size : ℕ) (name : List ℕ) (before after : Shelved) (why : ShelfErr)
    : Type 0 where
  pub left : LeavesFile (IsBegun size) name before.files after.files
  pub missing : why ≡ shelf.Missing → Rose before.faults after.faults
  pub untold : why ≡ shelf.Missing → before.files ≡ None
  pub fault : why ≡ shelf.Fault → Rose before.faults after.faults
  pub faults : before.faults ≤ after.faults
  pub reads : after.reads ≡ before.reads

-- the file has zeros for page 0 and for the root's page, and the pages below the root's first
-- children; this is to be said of them, and this page is next
pub record RowMade (form : Form) (hash : List ℕ → List ℕ) (ts : List Tree) (i : ℕ)
    (name : List ℕ) (before now : Shelved) (links : List Child) (next : ℕ) : Type 0 where
  pub bytes : List ℕ
  pub put : PutSoFar form hash ts i 1 (replicate form.size 0) bytes links
  pub made : HasMade name bytes before now
  pub place : next ≡ 2 + length (all_pages (some_row 2 ts i))

-- the file has all pages of the map but page 0; this is to be said of the root, and so many pages
-- there are
pub record HasMadePages (form : Form) (hash : List ℕ → List ℕ) (t : Tree) (name : List ℕ)
    (before now : Shelved) (root : Option Child) (pages : ℕ) : Type 0 where
  pub bytes : List ℕ
  pub image : IsImage form hash t bytes root
  pub made : HasMade name bytes before now
  pub count : pages ≡ saved_pages t
