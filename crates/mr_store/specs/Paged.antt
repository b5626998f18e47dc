-- What an opened map stands for, and what its calls leave of it.
use Rattle.std.specs.Prelude.{◌≡◌, ℕ, ◌+◌, ◌≤◌, ◌⊎◌, max, IsSome}
use Rattle.mr_outside.specs.Faults.{last_count}
use Rattle.mr_outside.specs.State.{Shelved}
use Rattle.mr_outside.specs.declared.shelf.Shelf as shelf
use Rattle.mr_tree.specs.declared.hash.Hashes as hashes
use Rattle.mr_tree.specs.Nodes.{MapModel}
use Rattle.mr_store.specs.declared.paged.Paged.{Paged}
use Rattle.mr_store.specs.CachedFile.{IsSameFile, state_of}
use Rattle.mr_store.specs.Stored.{map_on}
use Rattle.mr_store.specs.Kept.{room}

-- reads rose by no more than fetches did, or these stand at their last value
abbrev pub ReadsFew : (reads fetches reads' fetches' : ℕ) → Type 0
ReadsFew r f r' f' = (r' + f ≤ r + f') ⊎ (last_count ≤ f')

module _ {S H : Type 0} {G : shelf.Ghosts S} {K : hashes.Ghosts H} where
  -- the shelf's files, where they are told, and its counts
  abbrev pub shelved : Paged S H G K → Shelved
  shelved p = state_of p.file

  -- what the map stands for
  abbrev pub stands_for : Paged S H G K → MapModel
  stands_for p = map_on p.file p.head

  -- the map and the files are as before
  pub record IsSameMap (p p' : Paged S H G K) : Type 0 where
    pub file : IsSameFile p.file p'.file
    pub head : p'.head ≡ p.head
    pub files : (shelved p').files ≡ (shelved p).files

  -- what a call leaves: the map, the files; the counts do not fall
  pub record Keeps (p p' : Paged S H G K) : Type 0 where
    pub file : IsSameFile p.file p'.file
    pub head : p'.head ≡ p.head
    pub files : (shelved p').files ≡ (shelved p).files
    pub fetches : p.fetches ≤ p'.fetches
    pub faults : (shelved p).faults ≤ (shelved p').faults
    pub reads : (shelved p).reads ≤ (shelved p').reads
    pub few : ReadsFew (shelved p).reads p.fetches (shelved p').reads p'.fetches
    pub most : (shelved p').reads ≤ max (shelved p).reads last_count
    -- where all nodes are kept, nothing is read
    pub still : IsSome (shelved p).files → p.head.pages ≤ room + 1 →
        (shelved p').reads ≡ (shelved p).reads
