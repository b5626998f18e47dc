-- Changes one after another.
use Rattle.std.proofs.Common.{◌≡◌, ℕ, ◌+◌, ◌<◌, ◌≤◌, Bool, true, false, cond, not, eqb, ◌&&◌, List, ◌∷◌, length, get_or, take, drop, Option, Some, None, is_some, refl, sym, ap, subst, ◌∙◌, arith}
use Rattle.std.proofs.lemmas.Bool.{eqb-true, ltb-true}
use Rattle.std.specs.List.Sorted.{IsPermutation}
use Rattle.std.proofs.lemmas.List.{length-take-le, get_or-take}
use Rattle.std.proofs.lemmas.List.Sorted.{length_permutation}
use Rattle.mr_geom.specs.Rectangle.{Rectangle}
use Rattle.mr_record.specs.Record.{IsRecord}
use Rattle.mr_record.specs.RecordText.{has_number}
use Rattle.mr_record.specs.declared.record.Record.{Record}
use Rattle.mr_tree.specs.Digest.{Scheme}
use Rattle.mr_tree.specs.Tree.{records}
use Rattle.mr_tree.specs.WellFormed.{WellFormed}
use Rattle.mr_tree.specs.declared.child.Child.{Child}
use Rattle.mr_tree.specs.declared.tree.Tree.{Tree}
use Rattle.mr_grow.specs.Grow.{ins}
use Rattle.mr_grow.specs.Shrink.{del, WithoutOne}
use Rattle.mr_grow.proofs.Distinct.{ins_well_formed, apart_more}
use Rattle.mr_grow.proofs.Dropping.{del_mixes, del_well_formed}
use Rattle.mr_grow.proofs.Kept.{ins_mixes}
use Rattle.mr_grow.proofs.Sizes.{well_rooted, has_room}
use Rattle.mr_batch.specs.declared.change.Change.{Change}
use Rattle.mr_batch.specs.declared.change.Change.TheVariants.{Add, Remove}
use Rattle.mr_batch.specs.Changes.{Changes}
use Rattle.mr_batch.specs.Applied.{may_make, made, IsAdmissible}
use Rattle.mr_batch.specs.Directory.{DirectoryEntries, rect_at, rect_in, IsDirectoryOf}
use Rattle.mr_batch.specs.Replay.{changed, replayed}
use Rattle.mr_batch.specs.Peak.{peak_after, peak_along}
use Rattle.mr_batch.proofs.Directories.{rect_in-absent}
use Rattle.mr_batch.proofs.Numbered.{Apart, apart_head}
use Rattle.mr_batch.proofs.Permuted.{addition_leaves, apart_permuted, rects_permuted}
use Rattle.mr_batch.proofs.Replaying.{IsOnTheWay, numbers_of, removal_mixes, at_start, next_may, after_next, tree_at_end}
use Rattle.mr_batch.proofs.Walking.{rest_of, drop_all}
use Rattle.mr_edit.specs.PageMap.{PageMap}
use Rattle.mr_edit.specs.Drafted.{InsertsRecord}
use Rattle.mr_edit.specs.Deleted.{DeletesRecord}
use Rattle.mr_edit.specs.Replayed.{OnPages, ChangesOne, ReplaysBatch, first_changes}
use Rattle.mr_edit.proofs.Directed.{directed}
use Rattle.mr_edit.proofs.Dropped.{reaches_one}
use Rattle.mr_edit.proofs.Once.{once_apart}

-- ---- the directory

pub new_part : (b c : Bool) → (not b && c) ≡ true → b ≡ false
new_part true c e = cc
new_part false c e = refl

pub room_part : (b c : Bool) → (not b && c) ≡ true → c ≡ true
room_part true c e = cc
room_part false c e = e

directory_permuted : (d : DirectoryEntries) (xs ys : List Record) → Apart xs → IsPermutation xs ys → IsDirectoryOf
    d xs →
    IsDirectoryOf d ys
directory_permuted d xs ys apart mixes is = record {
  rects = λ n. is.rects n ∙ rects_permuted xs ys mixes apart n;
  count = is.count ∙ sym (length_permutation xs ys mixes);
}

directory_added : (old new : DirectoryEntries) (rs : List Record) (r : Record) → is_some (rect_at old r.number) ≡
    false →
    ((n : ℕ) → rect_at new n ≡ cond (eqb r.number n) (Some r.rect) (rect_at old n)) →
    length new ≡ length old + cond (is_some (rect_at old r.number)) 0 1 → IsDirectoryOf old rs →
    IsDirectoryOf new (r ∷ rs)
directory_added old new rs r none put counted is = record {
  rects = λ n. put n ∙ ap (cond (eqb r.number n) (Some r.rect)) (is.rects n);
  count = omega (arith, is.count, counted ∙ ap (λ b. length old + cond b 0 1) none);
}

directory_without : (old new : DirectoryEntries) (rs us : List Record) (n : ℕ) (o : Option Rectangle) → Apart rs →
    WithoutOne n rs us → is_some o ≡ true →
    ((m : ℕ) → rect_at new m ≡ cond (eqb n m) None (rect_at old m)) →
    length new + cond (is_some o) 1 0 ≡ length old → IsDirectoryOf old rs → IsDirectoryOf new us
directory_without old new rs us n o apart w there taken counted is = record {
  rects = λ m. taken m ∙ at m (eqb n m) refl;
  count = omega (
    arith,
    is.count,
    sym (ap (λ b. length new + cond b 1 0) there) ∙ counted,
    length_permutation rs (w.one ∷ us) w.mixes,
  );
}
  where
    all : Apart (w.one ∷ us)
    all = apart_permuted rs (w.one ∷ us) w.mixes apart

    at : (m : ℕ) (b : Bool) → eqb n m ≡ b → cond b None (rect_at old m) ≡ rect_in us m
    at m true e =
        sym (rect_in-absent us m (ap (λ k. has_number k us) (sym (w.numbered ∙ eqb-true n m e))
        ∙ apart_head w.one us all))
    at m false e =
        is.rects m ∙ rects_permuted rs (w.one ∷ us) w.mixes apart m
        ∙ ap (λ b. cond b (Some w.one.rect) (rect_in us m)) (ap (λ k. eqb k m) w.numbered ∙ e)

-- ---- one change

pub change_added : (scheme : Scheme) (told told' : Option PageMap) (free free' : ℕ) (root : Option Child) (c : Child)
    (dir dir' : DirectoryEntries) (one : Record) → IsRecord one → InsertsRecord scheme told free root told' free'
    c one →
    ((n : ℕ) → rect_at dir' n ≡ cond (eqb one.number n) (Some one.rect) (rect_at dir n)) →
    length dir' ≡ length dir + cond (is_some (rect_at dir one.number)) 0 1 →
    ChangesOne scheme told free root dir told' free' (Some c) dir' (Add one)
change_added scheme told told' free free' root c dir dir' one fits inserts put counted t least size so_far p may =
    let absent : has_number one.number (records t) ≡ false = new_part _ _ may in
    let room = ltb-true _ _ (room_part _ _ may) in
    let none = (numbers_of dir (records t) p.well.distinct p.directory).same one.number ∙ absent in
    record {
      reaches = reaches_one scheme told told' free free' root c one t least size so_far inserts p.reaches;
      well = ins_well_formed one t p.well absent room fits;
      directory = directory_permuted dir' (one ∷ records t) (records (ins one t))
          (apart_more one (records t) absent p.well.distinct) (ins_mixes one t (has_room t (well_rooted t p.well)))
          (directory_added dir dir' (records t) one none put counted p.directory);
    }

pub change_removed : (scheme : Scheme) (told told' : Option PageMap) (free free' : ℕ) (root root' : Option Child)
    (dir dir' : DirectoryEntries) (n : ℕ) (rect : Rectangle) (o : Option Rectangle) → rect_at dir n ≡ Some rect →
    o ≡ rect_at dir n → DeletesRecord scheme told free root told' free' root' n rect →
    ((m : ℕ) → rect_at dir' m ≡ cond (eqb n m) None (rect_at dir m)) →
    length dir' + cond (is_some o) 1 0 ≡ length dir →
    ChangesOne scheme told free root dir told' free' root' dir' (Remove n)
change_removed scheme told told' free free' root root' dir dir' n rect o known same deletes taken counted t least size
    so_far p may =
    record {
      reaches = deletes t least size so_far p.reaches
          (directed dir n rect (records t) p.well.distinct p.directory known)
          (once_apart n (records t) p.well.distinct);
      well = del_well_formed n t p.well may;
      directory = directory_without dir dir' (records t) (records (del n t)) n o p.well.distinct
          (del_mixes n t (well_rooted t p.well) may) (ap is_some (same ∙ known)) taken counted p.directory;
    }

-- ---- one more

pub mixes_after : (t : Tree) (c : Change) → WellFormed t → may_make (records t) c ≡ true →
    IsPermutation (made (records t) c) (records (changed t c))
mixes_after t (Add r) well may =
    addition_leaves (records t) (records (ins r t)) r (ins_mixes r t (has_room t (well_rooted t well)))
mixes_after t (Remove n) well may =
    removal_mixes n (records t) (records (del n t)) well.distinct (del_mixes n t (well_rooted t well) may)

-- the first changes were made
pub record Halfway (scheme : Scheme) (told : Option PageMap) (free : ℕ) (root : Option Child) (dir : DirectoryEntries)
    (before : Tree) (cs : List Change) (i least size so_far : ℕ) : Type 0 where
  pub tree : Tree
  pub way : IsOnTheWay before cs i tree
  pub most : ℕ
  pub peak : peak_along most tree (drop i cs) ≡ peak_along so_far before cs
  pub pages : OnPages scheme told free root dir tree least size most

abbrev pub ReplaysFirst : Scheme → (told : Option PageMap) → (free : ℕ) → Option Child → DirectoryEntries →
    (told' : Option PageMap) → (free' : ℕ) → Option Child → DirectoryEntries → Changes → ℕ → Type 0
ReplaysFirst scheme told free root dir told' free' root' dir' b i =
    (t : Tree) (held least size so_far : ℕ) → OnPages scheme told free root dir t least size so_far →
    IsAdmissible (records t) held b → Halfway scheme told' free' root' dir' t b.list i least size so_far

pub replays_none : (scheme : Scheme) (told : Option PageMap) (free : ℕ) (root : Option Child) (dir : DirectoryEntries)
    (b : Changes) → ReplaysFirst scheme told free root dir told free root dir b 0
replays_none scheme told free root dir b t held least size so_far p is = record {
  tree = t;
  way = at_start t held b p.well is;
  most = so_far;
  peak = refl;
  pages = p;
}

pub replays_more : (scheme : Scheme) (told told1 told2 : Option PageMap) (free free1 free2 : ℕ)
    (root root1 root2 : Option Child) (dir dir1 dir2 : DirectoryEntries) (b : Changes) (i : ℕ) (c : Change) →
    i < length b.list → c ≡ get_or b.list i c → ReplaysFirst scheme told free root dir told1 free1 root1 dir1 b i →
    ChangesOne scheme told1 free1 root1 dir1 told2 free2 root2 dir2 c →
    ReplaysFirst scheme told free root dir told2 free2 root2 dir2 b (i + 1)
replays_more scheme told told1 told2 free free1 free2 root root1 root2 dir dir1 dir2 b i c within here first changes t
    held least size so_far p is =
    let h = first t held least size so_far p is in
    let may = next_may t h.tree b.list i c within here h.way in
    let q = changes h.tree least size h.most h.pages may in
    record {
      tree = changed h.tree c;
      way = after_next t h.tree (changed h.tree c) b.list i c within here refl q.well
          (mixes_after h.tree c h.pages.well may) h.way;
      most = peak_after h.most h.tree c;
      peak = sym (ap (peak_along h.most h.tree) (rest_of b.list i c within here)) ∙ h.peak;
      pages = q;
    }

pub replays_all : (scheme : Scheme) (told told1 : Option PageMap) (free free1 : ℕ) (root root1 : Option Child)
    (dir dir1 : DirectoryEntries) (b : Changes) (i : ℕ) → length b.list ≤ i →
    ReplaysFirst scheme told free root dir told1 free1 root1 dir1 b i →
    ReplaysBatch scheme told free root dir told1 free1 root1 dir1 b
replays_all scheme told told1 free free1 root root1 dir dir1 b i past first t held least size so_far p is =
    let h = first t held least size so_far p is in
    let same = tree_at_end t h.tree b.list i past h.way in
    let most : h.most ≡ peak_along so_far t b.list =
    sym (ap (peak_along h.most h.tree) (drop_all b.list i past)) ∙ h.peak in
    subst (λ k. OnPages scheme told1 free1 root1 dir1 (replayed t b.list) least size k) most
    (subst (λ u. OnPages scheme told1 free1 root1 dir1 u least size h.most) same h.pages)

-- ---- the first ones alone

-- the first changes were made, of each batch of first changes that has them
abbrev pub ReplaysFronts : Scheme → (told : Option PageMap) → (free : ℕ) → Option Child → DirectoryEntries →
    (told' : Option PageMap) → (free' : ℕ) → Option Child → DirectoryEntries → Changes → ℕ → Type 0
ReplaysFronts scheme told free root dir told' free' root' dir' b i =
    (n : ℕ) → i ≤ n → n ≤ length b.list →
    ReplaysFirst scheme told free root dir told' free' root' dir' (first_changes n b) i

pub fronts_none : (scheme : Scheme) (told : Option PageMap) (free : ℕ) (root : Option Child) (dir : DirectoryEntries)
    (b : Changes) → ReplaysFronts scheme told free root dir told free root dir b 0
fronts_none scheme told free root dir b n from to = replays_none scheme told free root dir (first_changes n b)

-- the change at a place stands there in a front that has it
pub within_front : (b : Changes) (i n : ℕ) → i < n → n ≤ length b.list → i < length (take n b.list)
within_front b i n low to = omega (arith, low, length-take-le n b.list to)

pub here_front : (b : Changes) (i n : ℕ) (c : Change) → i < n → c ≡ get_or b.list i c → c ≡ get_or (take n b.list) i c
here_front b i n c low here = here ∙ sym (get_or-take n b.list i c low)

pub fronts_more : (scheme : Scheme) (told told1 told2 : Option PageMap) (free free1 free2 : ℕ)
    (root root1 root2 : Option Child) (dir dir1 dir2 : DirectoryEntries) (b : Changes) (i : ℕ) (c : Change) →
    c ≡ get_or b.list i c → ReplaysFronts scheme told free root dir told1 free1 root1 dir1 b i →
    ChangesOne scheme told1 free1 root1 dir1 told2 free2 root2 dir2 c →
    ReplaysFronts scheme told free root dir told2 free2 root2 dir2 b (i + 1)
fronts_more scheme told told1 told2 free free1 free2 root root1 root2 dir dir1 dir2 b i c here fronts changes n from
    to =
    let low : i < n = omega (arith, from) in
    replays_more scheme told told1 told2 free free1 free2 root root1 root2 dir dir1 dir2 (first_changes n b) i c
    (within_front b i n low to) (here_front b i n c low here) (fronts n (omega (arith, low)) to) changes

-- they were made as a batch of their own
pub front_made : (scheme : Scheme) (told told1 : Option PageMap) (free free1 : ℕ) (root root1 : Option Child)
    (dir dir1 : DirectoryEntries) (b : Changes) (i : ℕ) → i ≤ length b.list →
    ReplaysFronts scheme told free root dir told1 free1 root1 dir1 b i →
    ReplaysBatch scheme told free root dir told1 free1 root1 dir1 (first_changes i b)
front_made scheme told told1 free free1 root root1 dir dir1 b i to fronts =
    let size = length-take-le i b.list to in
    replays_all scheme told told1 free free1 root root1 dir dir1 (first_changes i b) i (omega (arith, size))
    (fronts i (omega arith) to)
