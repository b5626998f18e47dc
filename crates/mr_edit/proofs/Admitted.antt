-- What the changes of a batch need to know holds of each in its turn.
use Rattle.std.proofs.Common.{◌≡◌, ◌^◌, ◌+◌, ◌<◌, ◌≤◌, true, false, ℕ, length, get_or, Option, Some, None, is_some, sym, ap, subst, ◌∙◌, arith}
use Rattle.std.specs.Prelude.{nat_lt}
use Rattle.std.proofs.lemmas.Bool.{ltb-true}
use Rattle.mr_geom.specs.Rectangle.{Rectangle}
use Rattle.mr_record.specs.RecordText.{has_number}
use Rattle.mr_record.specs.declared.record.Record.{Record}
use Rattle.mr_tree.specs.Digest.{Scheme}
use Rattle.mr_tree.specs.Tree.{records}
use Rattle.mr_tree.specs.declared.child.Child.{Child}
use Rattle.mr_grow.proofs.Sizes.{well_rooted}
use Rattle.mr_batch.specs.declared.change.Change.{Change}
use Rattle.mr_batch.specs.declared.change.Change.TheVariants.{Add, Remove}
use Rattle.mr_batch.specs.Changes.{Changes}
use Rattle.mr_batch.specs.Directory.{DirectoryEntries, rect_at}
use Rattle.mr_batch.proofs.Replaying.{numbers_of, next_may}
use Rattle.mr_edit.specs.PageMap.{PageMap}
use Rattle.mr_edit.specs.Causes.{KnowsRoot}
use Rattle.mr_edit.specs.Growing.{CanInsert}
use Rattle.mr_edit.specs.Changing.{CanChange, CanReplay}
use Rattle.mr_edit.specs.Outcome.{NeverMap}
use Rattle.mr_edit.specs.Replayed.{StopsReplay, first_changes}
use Rattle.mr_edit.specs.declared.error.EditErr.{EditErr}
use Rattle.mr_edit.specs.private.Removable.{CanDelete}
use Rattle.mr_edit.proofs.Deletable.{root_sought}
use Rattle.mr_edit.proofs.Directed.{directed}
use Rattle.mr_edit.proofs.Once.{once_apart}
use Rattle.mr_edit.proofs.Sound.{never}
use Rattle.mr_edit.proofs.Turns.{ReplaysFirst, ReplaysFronts, room_part, within_front, here_front, front_made}

-- a record that may be added can be put in
pub add_insert : (scheme : Scheme) (told : Option PageMap) (free : ℕ) (root : Option Child) (dir : DirectoryEntries)
    (one : Record) → CanChange scheme told free root dir (Add one) → CanInsert scheme told free root 1
add_insert scheme told free root dir one k =
    let room : length (records k.map.tree) < 2 ^ 20 = ltb-true (length (records k.map.tree)) (2 ^ 20)
    (room_part (has_number one.number (records k.map.tree)) (nat_lt (length (records k.map.tree)) (2 ^ 20)) k.may) in
    record {
      tree = k.map.tree;
      draft = k.map.draft;
      rooted = well_rooted k.map.tree k.map.well;
      few = omega (arith, room);
    }

-- a number that may be removed is in the directory
pub lists_number : (scheme : Scheme) (told : Option PageMap) (free : ℕ) (root : Option Child) (dir : DirectoryEntries)
    (n : ℕ) → rect_at dir n ≡ None → CanChange scheme told free root dir (Remove n) → ⊥
lists_number scheme told free root dir n none k =
    let here : is_some (rect_at dir n) ≡ true =
    (numbers_of dir (records k.map.tree) k.map.well.distinct k.map.directory).same n ∙ k.may in
    no (sym (ap (λ (o : Option Rectangle). is_some o) none) ∙ here)
  where
    no : false ≡ true → ⊥
    no e = cc

-- and its record can be deleted by the rectangle that stands there
pub remove_delete : (scheme : Scheme) (told : Option PageMap) (free : ℕ) (root : Option Child) (dir : DirectoryEntries)
    (n : ℕ) (rect : Rectangle) → rect_at dir n ≡ Some rect → CanChange scheme told free root dir (Remove n) →
    CanDelete scheme told free root n rect
remove_delete scheme told free root dir n rect known k =
    let m = k.map in
    record {
      tree = m.tree;
      draft = m.draft;
      rooted = well_rooted m.tree m.well;
      few = m.well.few;
      there = k.may;
      rects = directed dir n rect (records m.tree) m.well.distinct m.directory known;
      once = once_apart n (records m.tree) m.well.distinct;
    }

-- where all nodes can be looked at
pub remove_known : (scheme : Scheme) (told : Option PageMap) (free : ℕ) (root : Option Child) (dir : DirectoryEntries)
    (n : ℕ) (rect : Rectangle) → rect_at dir n ≡ Some rect → CanChange scheme told free root dir (Remove n) →
    KnowsRoot scheme told free root
remove_known scheme told free root dir n rect known k c is =
    (root_sought scheme told free c n rect (subst (λ o. CanDelete scheme told free o n rect) is
    (remove_delete scheme told free root dir n rect known k))).below

-- the next change of a batch that may be applied may be made
pub next_change : (scheme : Scheme) (told told1 : Option PageMap) (free free1 : ℕ) (root root1 : Option Child)
    (dir dir1 : DirectoryEntries) (b : Changes) (i : ℕ) (c : Change) → i < length b.list → c ≡ get_or b.list i c →
    ReplaysFirst scheme told free root dir told1 free1 root1 dir1 b i →
    CanReplay scheme told free root dir b → CanChange scheme told1 free1 root1 dir1 c
next_change scheme told told1 free free1 root root1 dir dir1 b i c within here first k =
    let t = k.map.tree in
    let h = first t k.held 0 k.map.draft.page_map.size 0 (record {
      reaches = record { draft = k.map.draft; no_fewer = omega arith; no_more = omega arith };
      well = k.map.well;
      directory = k.map.directory;
    }) k.admissible in
    record {
      map = record {
        tree = h.tree;
        draft = h.pages.reaches.draft;
        well = h.pages.well;
        directory = h.pages.directory;
      };
      may = next_may t h.tree b.list i c within here h.way;
    }

-- the next change is refused, and the directory stays
pub replay_stops : (scheme : Scheme) (told told1 : Option PageMap) (free free1 : ℕ) (root root1 : Option Child)
    (dir dir1 dir2 : DirectoryEntries) (b : Changes) (i : ℕ) (c : Change) (e : EditErr) → i < length b.list →
    c ≡ get_or b.list i c → dir2 ≡ dir1 → ReplaysFronts scheme told free root dir told1 free1 root1 dir1 b i →
    (i ≡ 0 → (root1 ≡ root) × (dir1 ≡ dir)) → NeverMap e (CanChange scheme told1 free1 root1 dir1 c) →
    StopsReplay scheme told free root dir b root1 dir2 e
replay_stops scheme told told1 free free1 root root1 dir dir1 dir2 b i c e within here same fronts unmoved denies =
    let next : i < i + 1 = omega arith in
    let all : i + 1 ≤ length b.list = omega (arith, within) in
    subst (λ d. StopsReplay scheme told free root dir b root1 d e) (sym same) (record {
      made = i;
      fewer = within;
      told_then = told1;
      free_then = free1;
      replays = front_made scheme told told1 free free1 root root1 dir dir1 b i (omega (arith, within)) fronts;
      unmoved = unmoved;
      blames_none_told = never e _ _ (next_change scheme told told1 free free1 root root1 dir dir1
          (first_changes (i + 1) b) i c (within_front b i (i + 1) next all) (here_front b i (i + 1) c next here)
          (fronts (i + 1) (omega arith) all)) denies;
    })
