-- What a deletion and a batch leave of a draft, and of the number of pages of its file.
use Rattle.std.specs.Prelude.{ℕ, ◌+◌, ◌≤◌, max, List, Option}
use Rattle.mr_geom.specs.Rectangle.{Rectangle}
use Rattle.mr_record.specs.Sorting.{sorted_by_key}
use Rattle.mr_record.specs.declared.record.Record.{Record}
use Rattle.mr_tree.specs.Digest.{Scheme}
use Rattle.mr_tree.specs.Tree.{records}
use Rattle.mr_tree.specs.declared.child.Child.{Child}
use Rattle.mr_tree.specs.declared.tree.Tree.{Tree}
use Rattle.mr_grow.specs.Shrink.{shrunk, shortened, all_in, del}
use Rattle.mr_batch.specs.Peak.{peak_in}
use Rattle.mr_edit.specs.PageMap.{PageMap}
use Rattle.mr_edit.specs.Drafted.{Drafted}
use Rattle.mr_edit.specs.private.Removal.{HaveRect, IsOnce}

-- The draft stands for this tree. Its file has no fewer pages than so many, and no more than
-- `size`, or the most nodes so far and page 0, whichever is more.
pub record ReachesTree (scheme : Scheme) (told : Option PageMap) (free : ℕ) (root : Option Child)
    (t : Tree) (least size most : ℕ) : Type 0 where
  pub draft : Drafted scheme told free root t
  pub no_fewer : least ≤ draft.page_map.size
  pub no_more : draft.page_map.size ≤ max size (most + 1)

-- records are inserted one after the other
abbrev pub InsertsAll : Scheme → (told : Option PageMap) → (free : ℕ) → Option Child →
    (told' : Option PageMap) → (free' : ℕ) → Option Child → List Record → Type 0
InsertsAll scheme told free root told' free' root' rs =
    (t : Tree) (least size so_far : ℕ) → ReachesTree scheme told free root t least size so_far →
    ReachesTree scheme told' free' root' (all_in rs t) least size (peak_in so_far t rs)

-- a record is deleted whose number stands once and has this rectangle
abbrev pub DeletesRecord : Scheme → (told : Option PageMap) → (free : ℕ) → Option Child →
    (told' : Option PageMap) → (free' : ℕ) → Option Child → ℕ → Rectangle → Type 0
DeletesRecord scheme told free root told' free' root' n rect =
    (t : Tree) (least size so_far : ℕ) → ReachesTree scheme told free root t least size so_far →
    HaveRect n rect (records t) → IsOnce n (records t) →
    ReachesTree scheme told' free' root' (del n t) least size
    (peak_in so_far (shortened (shrunk n t).tree)
    (sorted_by_key (λ (r : Record). r.number) (shrunk n t).aside))
