-- What the changes of a batch leave of a draft, of the directory of its records, and of the number
-- of pages of its file.
use Rattle.std.specs.Prelude.{◌≡◌, ⊤, ℕ, ◌+◌, ◌<◌, true, Option, length, take}
use Rattle.mr_record.specs.Record.{HasLayer}
use Rattle.mr_record.specs.declared.version.Version.{Version}
use Rattle.mr_tree.specs.Digest.{Scheme}
use Rattle.mr_tree.specs.Tree.{records}
use Rattle.mr_tree.specs.WellFormed.{WellFormed}
use Rattle.mr_tree.specs.declared.child.Child.{Child}
use Rattle.mr_tree.specs.declared.tree.Tree.{Tree}
use Rattle.mr_batch.specs.declared.change.Change.{Change}
use Rattle.mr_batch.specs.declared.change.Change.TheVariants.{Add, Remove}
use Rattle.mr_batch.specs.Changes.{Changes}
use Rattle.mr_batch.specs.Applied.{may_make, IsAdmissible}
use Rattle.mr_batch.specs.Directory.{DirectoryEntries, IsDirectoryOf}
use Rattle.mr_batch.specs.Replay.{changed, replayed}
use Rattle.mr_batch.specs.Peak.{peak_after, peak_along}
use Rattle.mr_edit.specs.PageMap.{PageMap}
use Rattle.mr_edit.specs.Changing.{CanReplay}
use Rattle.mr_edit.specs.Deleted.{ReachesTree}
use Rattle.mr_edit.specs.Outcome.{NeverMap}
use Rattle.mr_edit.specs.declared.error.EditErr.{EditErr}

-- the draft stands for this tree, which is well formed, and the directory has its records
pub record OnPages (scheme : Scheme) (told : Option PageMap) (free : ℕ) (root : Option Child)
    (dir : DirectoryEntries) (t : Tree) (least size most : ℕ) : Type 0 where
  pub reaches : ReachesTree scheme told free root t least size most
  pub well : WellFormed t
  pub directory : IsDirectoryOf dir (records t)

-- a record that comes has a layer of the version
abbrev pub IsOfVersion : Version → Change → Type 0
IsOfVersion v (Add r) = HasLayer v r
IsOfVersion v (Remove n) = ⊤

-- a change is made, if it may be
abbrev pub ChangesOne : Scheme → (told : Option PageMap) → (free : ℕ) → Option Child →
    DirectoryEntries →
    (told' : Option PageMap) → (free' : ℕ) → Option Child → DirectoryEntries → Change → Type 0
ChangesOne scheme told free root dir told' free' root' dir' c =
    (t : Tree) (least size so_far : ℕ) →
    OnPages scheme told free root dir t least size so_far → may_make (records t) c ≡ true →
    OnPages scheme told' free' root' dir' (changed t c) least size (peak_after so_far t c)

-- the changes of a batch that may be applied are made in their order
abbrev pub ReplaysBatch : Scheme → (told : Option PageMap) → (free : ℕ) → Option Child →
    DirectoryEntries →
    (told' : Option PageMap) → (free' : ℕ) → Option Child → DirectoryEntries → Changes → Type 0
ReplaysBatch scheme told free root dir told' free' root' dir' b =
    (t : Tree) (held least size so_far : ℕ) →
    OnPages scheme told free root dir t least size so_far → IsAdmissible (records t) held b →
    OnPages scheme told' free' root' dir' (replayed t b.list) least size
    (peak_along so_far t b.list)

-- the first changes of a batch as a batch of their own
abbrev pub first_changes : (n : ℕ) → Changes → Changes
first_changes n b = record b { list = take n b.list }

-- A change of a batch was refused. So many were made before it, and were made as a batch of these
-- alone would be: root and directory are those that it leaves. The pages and the first free page
-- beside them are those that the refused change met, which may have changed them. No page is blamed
-- where the refused change could have been made too.
pub record StopsReplay (scheme : Scheme) (told : Option PageMap) (free : ℕ) (root : Option Child)
    (dir : DirectoryEntries) (b : Changes) (root' : Option Child) (dir' : DirectoryEntries)
    (e : EditErr) : Type 0 where
  pub made : ℕ
  pub fewer : made < length b.list
  pub told_then : Option PageMap
  pub free_then : ℕ
  pub replays : ReplaysBatch scheme told free root dir told_then free_then root' dir'
      (first_changes made b)
  -- told or not, both are the very ones of before where the first change is refused
  pub unmoved : made ≡ 0 → (root' ≡ root) × (dir' ≡ dir)
  pub blames_none_told : NeverMap e
      (CanReplay scheme told free root dir (first_changes (made + 1) b))
