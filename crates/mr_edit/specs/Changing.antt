-- What the changes of a batch need to know of a draft whose pages are told, so that none is blamed.
use Rattle.std.specs.Prelude.{◌≡◌, ℕ, true, Option}
use Rattle.mr_tree.specs.Digest.{Scheme}
use Rattle.mr_tree.specs.Tree.{records}
use Rattle.mr_tree.specs.WellFormed.{WellFormed}
use Rattle.mr_tree.specs.declared.child.Child.{Child}
use Rattle.mr_tree.specs.declared.tree.Tree.{Tree}
use Rattle.mr_batch.specs.declared.change.Change.{Change}
use Rattle.mr_batch.specs.Changes.{Changes}
use Rattle.mr_batch.specs.Applied.{may_make, IsAdmissible}
use Rattle.mr_batch.specs.Directory.{DirectoryEntries, IsDirectoryOf}
use Rattle.mr_edit.specs.PageMap.{PageMap}
use Rattle.mr_edit.specs.Drafted.{Drafted}

-- the draft stands for a map, and the directory has its records
pub record KnowsMap (scheme : Scheme) (told : Option PageMap) (free : ℕ) (root : Option Child)
    (dir : DirectoryEntries) : Type 0 where
  pub tree : Tree
  pub draft : Drafted scheme told free root tree
  pub well : WellFormed tree
  pub directory : IsDirectoryOf dir (records tree)

-- the change may be made
pub record CanChange (scheme : Scheme) (told : Option PageMap) (free : ℕ) (root : Option Child)
    (dir : DirectoryEntries) (c : Change) : Type 0 where
  pub map : KnowsMap scheme told free root dir
  pub may : may_make (records map.tree) c ≡ true

-- the batch may be applied
pub record CanReplay (scheme : Scheme) (told : Option PageMap) (free : ℕ) (root : Option Child)
    (dir : DirectoryEntries) (b : Changes) : Type 0 where
  pub map : KnowsMap scheme told free root dir
  pub held : ℕ
  pub admissible : IsAdmissible (records map.tree) held b
