-- How many pages changes read, along a batch.
use Rattle.std.proofs.Common.{◌≡◌, Bool, true, false, ℕ, zero, suc, ◌+◌, ◌*◌, ◌<◌, ◌≤◌, List, [], ◌∷◌, ◌++◌, length, get_or, take, drop, refl, sym, ap, subst, ◌∙◌, arith}
use Rattle.std.specs.Prelude.{max, Option, Some, None, option_map, IfSome}
use Rattle.std.specs.Option.{option_to_list}
use Rattle.std.proofs.lemmas.List.{length_push, take_more}
use Rattle.mr_geom.specs.Rectangle.{Rectangle}
use Rattle.mr_record.specs.Sorting.{sorted_by_key}
use Rattle.mr_record.specs.declared.record.Record.{Record}
use Rattle.mr_tree.specs.Digest.{Scheme}
use Rattle.mr_tree.specs.Tree.{records, nodes}
use Rattle.mr_tree.specs.declared.child.Child.{Child}
use Rattle.mr_tree.specs.declared.tree.Tree.{Tree}
use Rattle.mr_grow.specs.Shrink.{shrunk}
use Rattle.mr_batch.specs.Applied.{IsAdmissible}
use Rattle.mr_batch.specs.Changes.{Changes}
use Rattle.mr_batch.specs.Directory.{DirectoryEntries, rect_at}
use Rattle.mr_batch.specs.Peak.{peak_after, peak_along}
use Rattle.mr_batch.specs.Replay.{changed}
use Rattle.mr_batch.specs.declared.change.Change.{Change}
use Rattle.mr_batch.specs.declared.change.Change.TheVariants.{Add, Remove}
use Rattle.mr_batch.proofs.Replaying.{at_start, next_may, after_next}
use Rattle.mr_batch.proofs.Walking.{rest_of}
use Rattle.mr_pages.specs.Page.{Link}
use Rattle.mr_pages.specs.Stands.{Placed, pages_of, link_of, IsWritten, whole_tree, whole_pages}
use Rattle.mr_pages.specs.Walking.{child_link}
use Rattle.mr_edit.specs.PageMap.{PageMap, HasNode, OwnsEachOnce}
use Rattle.mr_edit.specs.Counted.{ReadsNodesOnce, ReadsTwice, LearnsOnce, DeletesTwice, ChangesWithin, ReplaysWithin, still_due}
use Rattle.mr_edit.specs.Drafted.{Drafted}
use Rattle.mr_edit.specs.Reads.{changes_reads, looks_reads, reads_along}
use Rattle.mr_edit.specs.private.Removal.{HaveRect, IsOnce, RemovesRecord}
use Rattle.mr_edit.specs.Replayed.{OnPages, ChangesOne}
use Rattle.mr_edit.proofs.Counts.{a_page_each}
use Rattle.mr_edit.proofs.Deletable.{sorted_length}
use Rattle.mr_edit.proofs.Directed.{directed}
use Rattle.mr_edit.proofs.Dropped.{taken_out}
use Rattle.mr_edit.proofs.Once.{once_apart}
use Rattle.mr_edit.proofs.Places.{same_owned}
use Rattle.mr_edit.proofs.Roots.{start_counts}
use Rattle.mr_edit.proofs.Turns.{Halfway, mixes_after}

-- ---- from the root

pub learns_none : (scheme : Scheme) (told : Option PageMap) (free : ℕ) (root : Option Child) (b b' : Bool) (r r' : ℕ) →
    b' ≡ b → r' ≡ r → LearnsOnce scheme told free root b b' r r'
learns_none scheme told free root b b' r r' is same t later d =
    subst (λ x. r' + still_due x later ≤ r + still_due b (max (nodes t) later)) (sym is) (at b)
  where
    at : (x : Bool) → r' + still_due x later ≤ r + still_due x (max (nodes t) later)
    at true = omega (arith, same)
    at false = omega (arith, same)

-- where there is no root
pub learns_empty : (scheme : Scheme) (told : Option PageMap) (free : ℕ) (root : Option Child) (b b' : Bool) (r r' : ℕ) →
    b ≡ false → b' ≡ true → r' ≡ r → LearnsOnce scheme told free root b b' r r'
learns_empty scheme told free root b b' r r' was is same t later d =
    subst (λ x. r' + still_due x later ≤ r + still_due b (max (nodes t) later)) (sym is)
    (subst (λ y. r' + 0 ≤ r + still_due y (max (nodes t) later)) (sym was) (omega (arith, same)))

pub learns_root : (scheme : Scheme) (told : Option PageMap) (free : ℕ) (c : Child) (b b' : Bool) (r r' : ℕ) →
    b ≡ false → b' ≡ true → ReadsNodesOnce scheme told c r r' → LearnsOnce scheme told free (Some c) b b' r r'
learns_root scheme told free c b b' r r' was became once t later d =
    subst (λ x. r' + still_due x later ≤ r + still_due b (max (nodes t) later)) (sym became)
    (subst (λ y. r' + 0 ≤ r + still_due y (max (nodes t) later)) (sym was)
    (omega (arith, at d.placed d.tree d.root_is d.written)))
  where
    at : (o : Option Placed) → whole_tree o ≡ t → ◌≡◌ {A = Option Link} (Some (child_link c))
        (option_map (link_of scheme) o) → IfSome o (IsWritten scheme (HasNode d.page_map)) → r' ≤ r + nodes t
    at None is root written = cc
    at (Some P) is root written =
        let said : child_link c ≡ link_of scheme P = cc in
        let g = once d.page_map P d.is (record { said = said; written = written }) in
        omega (arith, g, a_page_each P, ap nodes is)

root_twice : (scheme : Scheme) (told : Option PageMap) (free : ℕ) (c : Child) (n : ℕ) (rect : Rectangle) (r r' : ℕ) →
    ReadsTwice scheme told free c n rect r r' → (t : Tree) → Drafted scheme told free (Some c) t →
    HaveRect n rect (records t) → IsOnce n (records t) → r' ≤ r + 2 * nodes t
root_twice scheme told free c n rect r r' twice t d all once = at d.placed d.tree d.root_is d.written d.owned
  where
    at : (o : Option Placed) → whole_tree o ≡ t → ◌≡◌ {A = Option Link} (Some (child_link c))
        (option_map (link_of scheme) o) → IfSome o (IsWritten scheme (HasNode d.page_map)) →
        OwnsEachOnce d.page_map.size (0 ∷ (whole_pages o ++ d.chain)) → r' ≤ r + 2 * nodes t
    at None is root written owned = cc
    at (Some P) is root written owned =
        let said : child_link c ≡ link_of scheme P = cc in
        let g = twice d.page_map d.chain P (0 ∷ []) d.is (record { said = said; written = written }) d.linked
        (same_owned d.page_map.size (0 ∷ (pages_of P ++ d.chain)) _ (λ q. start_counts q (pages_of P) d.chain) owned)
        (subst (λ u. HaveRect n rect (records u)) (sym is) all) (subst (λ u. IsOnce n (records u)) (sym is) once) in
        omega (arith, g, a_page_each P, ap nodes is)

-- ---- records one after another

pub taken_few : (rs : List Record) (i : ℕ) → length (take i rs) ≤ length rs
taken_few [] zero = omega arith
taken_few [] (suc i) = omega arith
taken_few (r ∷ rs) zero = omega arith
taken_few (r ∷ rs) (suc i) = omega (arith, taken_few rs i)

pub taken_more : (rs : List Record) (i : ℕ) → i < length rs → length (take (i + 1) rs) ≡ length (take i rs) + 1
taken_more [] i within = absurd (omega (arith, within))
taken_more (r ∷ rs) i within =
    ap length (take_more (r ∷ rs) i r within) ∙ length_push (take i (r ∷ rs)) (get_or (r ∷ rs) i r)

-- ---- a deletion

pub deletes_none : (scheme : Scheme) (told : Option PageMap) (free : ℕ) (root : Option Child) (n : ℕ) (rect : Rectangle)
    (r r' : ℕ) → r' ≡ r → DeletesTwice scheme told free root n rect r r'
deletes_none scheme told free root n rect r r' same t d all once = omega (arith, same)

-- it stopped before anything went in again
pub deletes_stopped : (scheme : Scheme) (told : Option PageMap) (free : ℕ) (root : Option Child) (c : Child) (n : ℕ)
    (rect : Rectangle) (r r' : ℕ) → root ≡ Some c → ReadsTwice scheme told free c n rect r r' →
    DeletesTwice scheme told free root n rect r r'
deletes_stopped scheme told free root c n rect r r' is twice t d all once =
    let g = root_twice scheme told free c n rect r r' twice t (subst (λ o. Drafted scheme told free o t) is d) all once
    in
    omega (arith, g)

pub deletes_twice : (scheme : Scheme) (told told1 : Option PageMap) (free free1 : ℕ) (root : Option Child) (c : Child)
    (n : ℕ) (rect : Rectangle) (entry : Option Child) (aside sorted : List Record) (r r1 r2 : ℕ) → root ≡ Some c →
    RemovesRecord scheme true told free told1 free1 c n rect (option_to_list entry) aside →
    sorted ≡ sorted_by_key (λ (x : Record). x.number) aside → ReadsTwice scheme told free c n rect r r1 →
    r2 ≤ r1 + length sorted * 17 → DeletesTwice scheme told free root n rect r r2
deletes_twice scheme told told1 free free1 root c n rect entry aside sorted r r1 r2 is removes sorts twice put t d all
    once =
    let e = subst (λ o. Drafted scheme told free o t) is d in
    let g = root_twice scheme told free c n rect r r1 twice t e all once in
    let x = taken_out scheme told told1 free free1 c n rect entry aside removes t e all once in
    let long : length sorted ≡ length (shrunk n t).aside = ap length sorts ∙ sorted_length aside
    ∙ ap length x.aside_is in
    omega (arith, g, put, long)

-- ---- a change

pub within_added : (scheme : Scheme) (told : Option PageMap) (free : ℕ) (root : Option Child) (dir : DirectoryEntries)
    (one : Record) (b b' : Bool) (r r' : ℕ) → b' ≡ b → r' ≤ r + 17 →
    ChangesWithin scheme told free root dir (Add one) b b' r r'
within_added scheme told free root dir one b b' r r' is few t least size so_far later p may =
    omega (arith, few, ap (λ x. still_due x later) is)

still_more : (b : Bool) (m n : ℕ) → m ≤ n → still_due b m ≤ still_due b n
still_more true m n more = omega arith
still_more false m n more = more

pub within_none : (scheme : Scheme) (told : Option PageMap) (free : ℕ) (root : Option Child) (dir : DirectoryEntries)
    (n : ℕ) (b b' : Bool) (r r' : ℕ) → b' ≡ b → r' ≡ r →
    ChangesWithin scheme told free root dir (Remove n) b b' r r'
within_none scheme told free root dir n b b' r r' is same t least size so_far later p may =
    omega (
      arith,
      same,
      ap (λ x. still_due x later) is,
      still_more b later (max (nodes t) later) (omega arith),
    )

-- it stopped where nodes were noted
pub within_learned : (scheme : Scheme) (told : Option PageMap) (free : ℕ) (root : Option Child) (dir : DirectoryEntries)
    (n : ℕ)
    (b b' : Bool) (r r' : ℕ) → LearnsOnce scheme told free root b b' r r' →
    ChangesWithin scheme told free root dir (Remove n) b b' r r'
within_learned scheme told free root dir n b b' r r' learns t least size so_far later p may =
    omega (arith, learns t later p.reaches.draft)

pub within_removed : (scheme : Scheme) (told told1 : Option PageMap) (free free1 : ℕ) (root : Option Child)
    (dir : DirectoryEntries) (n : ℕ) (rect : Rectangle) (b b' : Bool) (r r1 r2 : ℕ) → rect_at dir n ≡ Some rect →
    told1 ≡ told → free1 ≡ free → LearnsOnce scheme told free root b b' r r1 →
    DeletesTwice scheme told1 free1 root n rect r1 r2 →
    ChangesWithin scheme told free root dir (Remove n) b b' r r2
within_removed scheme told told1 free free1 root dir n rect b b' r r1 r2 known same same_free learns deletes t least
    size
    so_far later p may =
    let d = p.reaches.draft in
    let e = subst (λ o. Drafted scheme o free1 root t) (sym same) (subst (λ f. Drafted scheme told f root t)
    (sym same_free) d) in
    let g = deletes t e (directed dir n rect (records t) p.well.distinct p.directory known)
    (once_apart n (records t) p.well.distinct) in
    omega (arith, g, learns t later d)

-- ---- a batch

-- the first changes were made: what they read, and what the others may read, is what all may
abbrev pub ReplaysPart : Scheme → (told : Option PageMap) → (free : ℕ) → Option Child → DirectoryEntries →
    (told' : Option PageMap) → (free' : ℕ) → Option Child → DirectoryEntries → Changes → ℕ → (learned : Bool) →
    (before after : ℕ) → Type 0
ReplaysPart scheme told free root dir told' free' root' dir' b i learned before after =
    (t : Tree) (held least size so_far : ℕ) → OnPages scheme told free root dir t least size so_far →
    IsAdmissible (records t) held b → (h : Halfway scheme told' free' root' dir' t b.list i least size so_far)
    × (after + (changes_reads h.tree (drop i b.list) + still_due learned (looks_reads h.tree (drop i b.list)))
    ≤ before + reads_along t b.list)

pub part_none : (scheme : Scheme) (told : Option PageMap) (free : ℕ) (root : Option Child) (dir : DirectoryEntries)
    (b : Changes)
    (r : ℕ) → ReplaysPart scheme told free root dir told free root dir b 0 false r r
part_none scheme told free root dir b r t held least size so_far p is = (
  record {
    tree = t;
    way = at_start t held b p.well is;
    most = so_far;
    peak = refl;
    pages = p;
  },
  omega arith,
)

pub part_more : (scheme : Scheme) (told told1 told2 : Option PageMap) (free free1 free2 : ℕ)
    (root root1 root2 : Option Child) (dir dir1 dir2 : DirectoryEntries) (b : Changes) (i : ℕ) (c : Change)
    (l l' : Bool)
    (r r1 r2 : ℕ) →
    i < length b.list → c ≡ get_or b.list i c →
    ReplaysPart scheme told free root dir told1 free1 root1 dir1 b i l r r1 →
    ChangesOne scheme told1 free1 root1 dir1 told2 free2 root2 dir2 c →
    ChangesWithin scheme told1 free1 root1 dir1 c l l' r1 r2 →
    ReplaysPart scheme told free root dir told2 free2 root2 dir2 b (i + 1) l' r r2
part_more scheme told told1 told2 free free1 free2 root root1 root2 dir dir1 dir2 b i c l l' r r1 r2 within here first
    changes few t held least size so_far p is =
    let f = first t held least size so_far p is in
    let h = f.0 in
    let may = next_may t h.tree b.list i c within here h.way in
    let q = changes h.tree least size h.most h.pages may in
    let w = few h.tree least size h.most (looks_reads (changed h.tree c) (drop (i + 1) b.list)) h.pages may in (
      record {
        tree = changed h.tree c;
        way = after_next t h.tree (changed h.tree c) b.list i c within here refl q.well
            (mixes_after h.tree c h.pages.well may) h.way;
        most = peak_after h.most h.tree c;
        peak = sym (ap (peak_along h.most h.tree) (rest_of b.list i c within here)) ∙ h.peak;
        pages = q;
      },
      omega (
        arith,
        w,
        f.1,
        ap (λ cs. changes_reads h.tree cs + still_due l (looks_reads h.tree cs)) (rest_of b.list i c within here),
      ),
    )

-- the next one stopped
pub part_stopped : (scheme : Scheme) (told told1 : Option PageMap) (free free1 : ℕ) (root root1 : Option Child)
    (dir dir1 : DirectoryEntries) (b : Changes) (i : ℕ) (c : Change) (l l' : Bool) (r r1 r2 : ℕ) → i < length b.list →
    c ≡ get_or b.list i c → ReplaysPart scheme told free root dir told1 free1 root1 dir1 b i l r r1 →
    ChangesWithin scheme told1 free1 root1 dir1 c l l' r1 r2 → ReplaysWithin scheme told free root dir b r r2
part_stopped scheme told told1 free free1 root root1 dir dir1 b i c l l' r r1 r2 within here first few t held least size
    so_far p is =
    let f = first t held least size so_far p is in
    let h = f.0 in
    let w = few h.tree least size h.most (looks_reads (changed h.tree c) (drop (i + 1) b.list)) h.pages
    (next_may t h.tree b.list i c within here h.way) in
    omega (
      arith,
      w,
      f.1,
      ap (λ cs. changes_reads h.tree cs + still_due l (looks_reads h.tree cs)) (rest_of b.list i c within here),
    )

pub part_all : (scheme : Scheme) (told told1 : Option PageMap) (free free1 : ℕ) (root root1 : Option Child)
    (dir dir1 : DirectoryEntries) (b : Changes) (i : ℕ) (l : Bool) (r r' : ℕ) →
    ReplaysPart scheme told free root dir told1 free1 root1 dir1 b i l r r' →
    ReplaysWithin scheme told free root dir b r r'
part_all scheme told told1 free free1 root root1 dir dir1 b i l r r' first t held least size so_far p is =
    omega (arith, (first t held least size so_far p is).1)
