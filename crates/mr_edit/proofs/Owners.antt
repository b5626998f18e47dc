-- What is known beforehand of what is freed, written or searched next.
use Rattle.std.proofs.Common.{◌≡◌, Bool, false, ℕ, zero, suc, ◌<◌, List, [], ◌∷◌, ◌++◌, length, map, take, drop, get_or, sym, ap, subst, ◌∙◌, arith}
use Rattle.std.specs.Prelude.{Option, IfSome, IsSomeAnd}
use Rattle.std.specs.List.{AllByRecursion}
use Rattle.std.proofs.lemmas.List.{append-nil}
use Rattle.std.proofs.lemmas.List.Concat.{flat_map-append}
use Rattle.mr_record.specs.declared.record.Record.{Record}
use Rattle.mr_tree.specs.Digest.{Scheme}
use Rattle.mr_tree.specs.WellFormed.{IsFilled}
use Rattle.mr_tree.specs.declared.child.Child.{Child}
use Rattle.mr_tree.specs.declared.tree.Tree.{Tree}
use Rattle.mr_tree.specs.declared.tree.Tree.TheVariants as tree
use Rattle.mr_tree.specs.declared.tree.Tree.TheOpen as node
use Rattle.mr_tree.specs.declared.tree.Tree.TheFolds.{every-Tree}
use Rattle.mr_tree.proofs.Induction.{every_child}
use Rattle.mr_pages.specs.Page.{Link}
use Rattle.mr_pages.specs.Stands.{Placed, Leaf, Inner, tree_of, pages_of, all_pages, page_of}
use Rattle.mr_pages.specs.Walking.{child_link}
use Rattle.mr_edit.specs.PageMap.{PageMap, HasNode, OwnsEachOnce, count_in}
use Rattle.mr_edit.specs.Held.{NamesTree, NameTrees, trees, pages, HaveFew}
use Rattle.mr_edit.specs.Causes.{KnowsBelow}
use Rattle.mr_edit.specs.Outcome.{CanWrite}
use Rattle.mr_edit.specs.private.Removal.{Freed, FreesPage, FreesSubtrees}
use Rattle.mr_edit.specs.private.Removable.{CanFree, CanLeave}
use Rattle.mr_edit.proofs.Zips.{same_length, zip_at, zip_take}
use Rattle.mr_edit.proofs.Rows.{row_trees, row_pages}
use Rattle.mr_edit.proofs.Frame.{count_in-append, times_first, agree_left, frame_all}
use Rattle.mr_edit.proofs.Places.{owned_within, same_owned}
use Rattle.mr_edit.proofs.Entries.{opens_inner}
use Rattle.mr_edit.proofs.Looking.{can_look}
use Rattle.mr_edit.proofs.Descending.{around}
use Rattle.mr_edit.proofs.Freed.{turn_counts, back_counts}

-- ---- the pages of a tree

root_page : (P : Placed) → 0 < count_in (page_of P) (pages_of P)
root_page (Leaf p rs) = times_first p []
root_page (Inner p R) = times_first p (all_pages R)

-- the page that an entry names is one of the tree's
pub named_page : (scheme : Scheme) (a : PageMap) (c : Child) (P : Placed) → NamesTree scheme a c P →
    0 < count_in c.id (pages_of P)
named_page scheme a c P names = subst (λ q. 0 < count_in q (pages_of P)) (sym (ap (λ (l : Link). l.page) names.said))
    (root_page P)

-- ---- one subtree below a root

pub one_below : (scheme : Scheme) (told : Option PageMap) (free : ℕ) (c : Child) →
    CanFree scheme told free (c ∷ []) → KnowsBelow scheme false told free c
one_below scheme told free c k = at k.parts k.named k.owned k.filled
  where
    at : (Ps : List Placed) → NameTrees scheme k.page_map (c ∷ []) Ps →
        OwnsEachOnce k.page_map.size (pages Ps ++ (k.chain ++ k.others)) → AllByRecursion (every-Tree IsFilled)
        (trees Ps) →
        KnowsBelow scheme false told free c
    at [] named owned filled = absurd named
    at (P ∷ Q ∷ Ps) named owned filled = absurd named.1
    at (P ∷ []) named owned filled = record {
      page_map = k.page_map;
      is = k.is;
      chain = k.chain;
      linked = k.linked;
      placed = P;
      names = named.0;
      filled = filled.0;
      others = k.others;
      owned = subst (λ ps. OwnsEachOnce k.page_map.size (ps ++ (k.chain ++ k.others))) (append-nil (pages_of P)) owned;
      head = k.head;
    }

-- its page can be written
pub known_writes : (scheme : Scheme) (root : Bool) (told told1 : Option PageMap) (free : ℕ) (c : Child) →
    told1 ≡ told → KnowsBelow scheme root told free c → CanWrite told1 c.id
known_writes scheme root told told1 free c same k =
    let r = (can_look scheme root told free c k).read in
    subst (λ x. IsSomeAnd x (λ b. c.id < b.size)) (sym (same ∙ r.is))
    (r.inside c.id (named_page scheme r.page_map c r.placed r.names)).1

-- ---- after a page was freed

-- the subtrees whose pages were left alone
freed_below : (scheme : Scheme) (a : PageMap) (told : Option PageMap) (free : ℕ) (cs : List Child) (Ps : List Placed)
    (others : List ℕ) → NameTrees scheme a cs Ps → Freed a told free (pages Ps ++ others) → 0 < count_in 0 others →
    AllByRecursion (every-Tree IsFilled) (trees Ps) → CanFree scheme told free cs
freed_below scheme a told free cs Ps others named f head filled = record {
  page_map = f.page_map;
  is = f.is;
  parts = Ps;
  named = frame_all scheme a f.page_map cs Ps (agree_left a f.page_map (pages Ps) others f.kept) named;
  chain = f.chain;
  linked = f.linked;
  others = others;
  owned = same_owned f.page_map.size (f.chain ++ (pages Ps ++ others)) _ (λ q. back_counts q (pages Ps) f.chain others)
      f.owned;
  head = head;
  filled = filled;
}

-- the children of a node whose page was freed
pub left_below : (scheme : Scheme) (told told1 : Option PageMap) (free free1 page : ℕ) (cs : List Child) →
    FreesPage told free told1 free1 page → CanLeave scheme told free page cs → CanFree scheme told1 free1 cs
left_below scheme told told1 free free1 page cs frees k =
    freed_below scheme k.page_map told1 free1 cs k.parts k.others k.named
    (frees k.page_map k.chain (pages k.parts ++ k.others) k.is k.linked
    (same_owned k.page_map.size (page ∷ (pages k.parts ++ (k.chain ++ k.others))) _
    (λ q. turn_counts q page (pages k.parts) k.chain k.others) k.owned)) k.head k.filled

-- a node beside its children can be written
pub leave_writes : (scheme : Scheme) (told : Option PageMap) (free page : ℕ) (cs : List Child) →
    CanLeave scheme told free page cs → CanWrite told page
leave_writes scheme told free page cs k =
    let rest = pages k.parts ++ (k.chain ++ k.others) in
    subst (λ x. IsSomeAnd x (λ b. page < b.size)) (sym k.is)
    (owned_within k.page_map.size page (page ∷ rest) k.owned (times_first page rest))

pub leave_both : (scheme : Scheme) (told : Option PageMap) (free page : ℕ) (cs : List Child) →
    CanLeave scheme told free page cs → CanWrite told page × HaveFew cs
leave_both scheme told free page cs k = (leave_writes scheme told free page cs k, k.few)

pub leave_some : (scheme : Scheme) (told : Option PageMap) (free page : ℕ) (cs : List Child) → length cs ≡ 0 →
    CanLeave scheme told free page cs → ⊥
leave_some scheme told free page cs none k = omega (arith, none, k.some)

pub one_item : {X : Type 0} (xs : List X) (d : X) → length xs ≡ 1 → d ≡ get_or xs 0 d → xs ≡ d ∷ []
one_item [] d one is = absurd (omega (arith, one))
one_item (x ∷ []) d one is = ap (λ y. y ∷ []) (sym is)
one_item (x ∷ y ∷ xs) d one is = absurd (omega (arith, one))

-- the only one
pub only_below : (scheme : Scheme) (told : Option PageMap) (free : ℕ) (cs : List Child) (d : Child) →
    length cs ≡ 1 → d ≡ get_or cs 0 d → CanFree scheme told free cs → KnowsBelow scheme false told free d
only_below scheme told free cs d one is k =
    one_below scheme told free d (subst (CanFree scheme told free) (one_item cs d one is) k)

pub children_below : (scheme : Scheme) (told told1 told2 : Option PageMap) (free free2 : ℕ) (c : Child)
    (cs : List Child) → told1 ≡ told → IfSome told (λ b. HasNode b c.id (node.Inner (map child_link cs))) →
    FreesPage told1 free told2 free2 c.id → KnowsBelow scheme false told free c → CanFree scheme told2 free2 cs
children_below scheme told told1 told2 free free2 c cs same reads frees o =
    let a = o.page_map in
    let has : HasNode a c.id (node.Inner (map child_link cs)) =
    subst (λ x. IfSome x (λ b. HasNode b c.id (node.Inner (map child_link cs)))) o.is reads in
    let op = opens_inner scheme a c cs o.placed o.names has in
    let Ps = op.parts in
    let mine : pages_of o.placed ≡ c.id ∷ pages Ps = ap pages_of op.is ∙ ap (λ ps. c.id ∷ ps) (row_pages Ps) in
    let had : OwnsEachOnce a.size (c.id ∷ (pages Ps ++ (o.chain ++ o.others))) =
    subst (λ ps. OwnsEachOnce a.size (ps ++ (o.chain ++ o.others))) mine o.owned in
    let what : tree_of o.placed ≡ tree.Inner (trees Ps) = ap tree_of op.is ∙ ap tree.Inner (row_trees Ps) in
    freed_below scheme a told2 free2 cs Ps o.others op.named
    (frees a o.chain (pages Ps ++ o.others) (same ∙ o.is) o.linked
    (same_owned a.size (c.id ∷ (pages Ps ++ (o.chain ++ o.others))) _
    (λ q. turn_counts q c.id (pages Ps) o.chain o.others) had)) o.head
    (every_child IsFilled (trees Ps) (subst (every-Tree IsFilled) what o.filled))

-- ---- one subtree after another

apart_from : (f o : List ℕ) → 0 < count_in 0 o → 0 < count_in 0 (f ++ o)
apart_from f o some = omega (arith, some, count_in-append 0 f o)

each_tree : (P : Tree → Type 0) (Ps : List Placed) (n : ℕ) (d : Placed) → n < length Ps →
    AllByRecursion P (trees Ps) → P (tree_of (get_or Ps n d))
each_tree P [] n d within all = absurd (omega (arith, within))
each_tree P (Q ∷ Ps) zero d within all = all.0
each_tree P (Q ∷ Ps) (suc n) d within all = each_tree P Ps n d (omega (arith, within)) all.1

next_counts : (q : ℕ) (l x r f o whole : List ℕ) → whole ≡ l ++ (x ++ r) →
    count_in q (l ++ (f ++ (x ++ (r ++ o)))) ≡ count_in q (whole ++ (f ++ o))
next_counts q l x r f o whole is = omega (
  arith,
  count_in-append q l (f ++ (x ++ (r ++ o))),
  count_in-append q f (x ++ (r ++ o)),
  count_in-append q x (r ++ o),
  count_in-append q r o,
  count_in-append q whole (f ++ o),
  count_in-append q f o,
  ap (count_in q) is,
  count_in-append q l (x ++ r),
  count_in-append q x r,
)

-- the next one, once those before it are free
pub next_below : (scheme : Scheme) (told told1 : Option PageMap) (free free1 : ℕ) (cs : List Child) (i : ℕ)
    (d : Child) (before so_far : List Record) → i < length cs → d ≡ get_or cs i d →
    FreesSubtrees scheme told free told1 free1 (take i cs) before so_far → CanFree scheme told free cs →
    CanFree scheme told1 free1 (d ∷ [])
next_below scheme told told1 free free1 cs i d before so_far within is frees k =
    let a = k.page_map in
    let Ps = k.parts in
    let none : Placed = Leaf 0 [] in
    let low : i < length Ps = omega (arith, within, same_length (NamesTree scheme a) cs Ps k.named) in
    let x : Placed = get_or Ps i none in
    let r = pages (drop (suc i) Ps) in
    let whole : pages Ps ≡ pages (take i Ps) ++ (pages_of x ++ r) = ap pages (around Ps i none low)
    ∙ flat_map-append pages_of (take i Ps) (x ∷ drop (suc i) Ps) in
    let mine : NamesTree scheme a d x = subst (λ e. NamesTree scheme a e x) (sym is)
    (zip_at (NamesTree scheme a) cs Ps i d none k.named within) in
    let f = (frees a k.chain (take i Ps) (pages_of x ++ (r ++ k.others)) k.is
    (zip_take (NamesTree scheme a) i cs Ps k.named) k.linked
    (same_owned a.size (pages Ps ++ (k.chain ++ k.others)) _
    (λ q. next_counts q (pages (take i Ps)) (pages_of x) r k.chain k.others (pages Ps) whole) k.owned)).0 in
    freed_below scheme a told1 free1 (d ∷ []) (x ∷ []) (r ++ k.others) (mine, tt)
    (subst (λ ps. Freed a told1 free1 (ps ++ (r ++ k.others))) (sym (append-nil (pages_of x))) f)
    (apart_from r k.others k.head) (each_tree (every-Tree IsFilled) Ps i none low k.filled, tt)
