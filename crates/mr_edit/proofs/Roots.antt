-- The root after an insertion.
use Rattle.std.proofs.Common.{◌≡◌, ℕ, List, [], ◌∷◌, ◌++◌, refl, sym, ap, subst, ◌∙◌, arith}
use Rattle.std.specs.Prelude.{Option, Some, None, option_map, IfSome}
use Rattle.std.specs.Option.{option_to_list}
use Rattle.mr_record.specs.declared.record.Record.{Record}
use Rattle.mr_tree.specs.Digest.{Scheme}
use Rattle.mr_tree.specs.declared.child.Child.{Child}
use Rattle.mr_tree.specs.declared.tree.Tree.{Tree}
use Rattle.mr_tree.specs.declared.tree.Tree.TheVariants as tree
use Rattle.mr_tree.specs.declared.tree.Tree.TheOpen as node
use Rattle.mr_grow.specs.Grow.{grown, ins, root_over}
use Rattle.mr_grow.proofs.Grown.{grown-Empty}
use Rattle.mr_pages.specs.Page.{Link}
use Rattle.mr_pages.specs.Stands.{Placed, tree_of, pages_of, link_of, IsWritten, whole_tree, whole_pages}
use Rattle.mr_pages.specs.Walking.{child_link}
use Rattle.mr_edit.specs.PageMap.{PageContent, PageMap, HasNode, OwnsEachOnce, count_in}
use Rattle.mr_edit.specs.Held.{NameTrees, trees, pages, entries}
use Rattle.mr_edit.specs.declared.inserted.Inserted.{Inserted}
use Rattle.mr_edit.specs.Outcome.{UsesPages, Same, Outcome, GrowsSubtree, TakesPage, WritesNode, RaisesRoot}
use Rattle.mr_edit.specs.Drafted.{Drafted, InsertsRecord}
use Rattle.mr_edit.proofs.Frame.{count_in-append, frame_all}
use Rattle.mr_edit.proofs.Places.{same_owned, times_cons}
use Rattle.mr_edit.proofs.Writes.{leaf_written, inner_written, weaker, uses_as, uses_both}

root_counts : (q : ℕ) (p f : List ℕ) → count_in q (0 ∷ (p ++ f)) ≡ count_in q ((p ++ []) ++ (f ++ (0 ∷ [])))
root_counts q p f = omega (
  arith,
  times_cons q 0 (p ++ f),
  count_in-append q p f,
  count_in-append q (p ++ []) (f ++ (0 ∷ [])),
  count_in-append q p [],
  count_in-append q f (0 ∷ []),
)

-- one entry that stands for a tree is a root of it
pub rooted : (scheme : Scheme) (a : PageMap) (U : ℕ → List ℕ → Type 0) (told : Option PageMap) (free : ℕ) (t : Tree)
    (c : Child) → Outcome scheme a U told free (0 ∷ []) (t ∷ []) (c ∷ []) →
    (e : Drafted scheme told free (Some c) t) × U e.page_map.size e.chain
rooted scheme a U told free t c o = at o.parts o.named o.stand o.owned
  where
    at : (Ps : List Placed) → NameTrees scheme o.page_map (c ∷ []) Ps → trees Ps ≡ t ∷ [] →
        OwnsEachOnce o.page_map.size (pages Ps ++ (o.chain ++ (0 ∷ []))) →
        (e : Drafted scheme told free (Some c) t) × U e.page_map.size e.chain
    at [] named stand owned = absurd named
    at (P ∷ Q ∷ Ps) named stand owned = absurd named.1
    at (P ∷ []) named stand owned =
        let is : tree_of P ≡ t = cc in (
          record {
            page_map = o.page_map;
            is = o.is;
            placed = Some P;
            tree = is;
            root_is = ap Some named.0.said;
            written = named.0.written;
            chain = o.chain;
            linked = o.linked;
            owned = same_owned o.page_map.size (pages (P ∷ []) ++ (o.chain ++ (0 ∷ []))) _
                (λ q. root_counts q (pages_of P) o.chain) owned;
          },
          o.use_,
        )

-- ---- the first record

pub none_placed : (scheme : Scheme) (o : Option Placed) → ◌≡◌ {A = Option Link} None (option_map (link_of scheme) o) →
    o ≡ None
none_placed scheme None e = refl
none_placed scheme (Some P) e = cc

pub last_counts : (q : ℕ) (f : List ℕ) → count_in q (f ++ (0 ∷ [])) ≡ count_in q (0 ∷ ([] ++ f))
last_counts q f = omega (arith, count_in-append q f (0 ∷ []), times_cons q 0 f)

pub root_first : (scheme : Scheme) (told told1 told' : Option PageMap) (free free1 free' y : ℕ) (rs : List Record)
    (one : Record) (c : Child) → rs ≡ one ∷ [] →
    TakesPage told free told1 free1 y → WritesNode scheme told1 free1 told' free' y (node.Leaf rs) c →
    InsertsRecord scheme told free None told' free' c one
root_first scheme told told1 told' free free1 free' y rs one c alone takes w t d =
    let none = none_placed scheme d.placed d.root_is in
    let empty : t ≡ tree.Empty = sym d.tree ∙ ap whole_tree none in
    let owned : OwnsEachOnce d.page_map.size (0 ∷ ([] ++ d.chain)) = subst
    (λ o. OwnsEachOnce d.page_map.size (0 ∷ (whole_pages o ++ d.chain))) none d.owned in
    let k = takes d.page_map d.chain d.is d.linked in
    let o = leaf_written scheme told1 told' free1 free' y rs c w k.page_map k.chain (0 ∷ []) k.is k.linked
    (k.owned (0 ∷ []) (same_owned d.page_map.size (0 ∷ ([] ++ d.chain)) _ (λ q. last_counts q d.chain) owned)) in
    let what : tree.Leaf rs ≡ ins one t = ap tree.Leaf alone ∙ sym
    (ap root_over (ap (grown one) empty ∙ grown-Empty one)) in
    subst (λ u. (e : Drafted scheme told' free' (Some c) u) × UsesPages d.page_map.size d.chain e.page_map.size
    e.chain) what
    (rooted scheme k.page_map (UsesPages d.page_map.size d.chain) told' free' (tree.Leaf rs) c
    (weaker scheme k.page_map (Same k.page_map.size k.chain) (UsesPages d.page_map.size d.chain) told' free' (0 ∷ [])
    (tree.Leaf rs ∷ [])
    (c ∷ [])
    (λ s ch same. uses_as d.page_map.size d.chain k.page_map.size k.chain s ch k.use_ same.0 same.1) o))

-- ---- below a root

pub start_counts : (q : ℕ) (p f : List ℕ) → count_in q (p ++ (f ++ (0 ∷ []))) ≡ count_in q (0 ∷ (p ++ f))
start_counts q p f = omega (
  arith,
  count_in-append q p (f ++ (0 ∷ [])),
  count_in-append q f (0 ∷ []),
  times_cons q 0 (p ++ f),
  count_in-append q p f,
)

-- what stands in the root's place
pub record Below (scheme : Scheme) (told : Option PageMap) (free : ℕ) (told' : Option PageMap) (free' : ℕ) (c : Child)
    (one : Record) (cs : List Child) (t : Tree) (d : Drafted scheme told free (Some c) t) : Type 0 where
  pub outcome : Outcome scheme d.page_map (UsesPages d.page_map.size d.chain) told' free' (0 ∷ []) (grown one t) cs

pub below_root : (scheme : Scheme) (told told' : Option PageMap) (free free' : ℕ) (c : Child) (one : Record)
    (cs : List Child) → GrowsSubtree scheme told free told' free' c one cs →
    (t : Tree) (d : Drafted scheme told free (Some c) t) → Below scheme told free told' free' c one cs t d
below_root scheme told told' free free' c one cs grows t d = at d.placed d.tree d.root_is d.written d.owned
  where
    at : (o : Option Placed) → whole_tree o ≡ t → ◌≡◌ {A = Option Link} (Some (child_link c))
        (option_map (link_of scheme) o) → IfSome o (IsWritten scheme (HasNode d.page_map)) →
        OwnsEachOnce d.page_map.size (0 ∷ (whole_pages o ++ d.chain)) → Below scheme told free told' free' c one cs t d
    at None is root written owned = cc
    at (Some P) is root written owned =
        let said : child_link c ≡ link_of scheme P = cc in
        record {
          outcome = subst (λ u. Outcome scheme d.page_map (UsesPages d.page_map.size d.chain) told' free' (0 ∷ [])
              (grown one u) cs)
              is
              (grows d.page_map d.chain P (0 ∷ []) d.is (record { said = said; written = written }) d.linked
              (same_owned d.page_map.size (0 ∷ (pages_of P ++ d.chain)) _ (λ q. start_counts q (pages_of P) d.chain)
              owned));
        }

-- the root is not split
pub root_kept : (scheme : Scheme) (told told' : Option PageMap) (free free' : ℕ) (c : Child) (one : Record)
    (s : Inserted) →
    s.second ≡ None → GrowsSubtree scheme told free told' free' c one (entries s) →
    InsertsRecord scheme told free (Some c) told' free' s.first one
root_kept scheme told told' free free' c one s none grows t d =
    let o : Outcome scheme d.page_map (UsesPages d.page_map.size d.chain) told' free' (0 ∷ []) (grown one t)
    (s.first ∷ []) =
    subst (λ x. Outcome scheme d.page_map (UsesPages d.page_map.size d.chain) told' free' (0 ∷ []) (grown one t)
    (s.first ∷ option_to_list x)) none
    (below_root scheme told told' free free' c one (entries s) grows t d).outcome in
    at (grown one t) refl o
  where
    at : (ts : List Tree) → grown one t ≡ ts → Outcome scheme d.page_map (UsesPages d.page_map.size d.chain) told' free'
        (0 ∷ [])
        (grown one t) (s.first ∷ []) →
        (e : Drafted scheme told' free' (Some s.first) (ins one t)) × UsesPages d.page_map.size d.chain e.page_map.size
        e.chain
    at ts is o = one_of ts is o.parts o.named o.stand
      where
        one_of : (ts : List Tree) → grown one t ≡ ts → (Ps : List Placed) → NameTrees scheme o.page_map
            (s.first ∷ []) Ps →
            trees Ps ≡ grown one t →
            (e : Drafted scheme told' free' (Some s.first) (ins one t)) × UsesPages d.page_map.size d.chain
            e.page_map.size e.chain
        one_of (u ∷ []) is Ps named stand =
            subst (λ v. (e : Drafted scheme told' free' (Some s.first) v) × UsesPages d.page_map.size d.chain
            e.page_map.size e.chain) (ap root_over (sym is))
            (rooted scheme d.page_map (UsesPages d.page_map.size d.chain) told' free' u s.first
            (subst (λ us. Outcome scheme d.page_map (UsesPages d.page_map.size d.chain) told' free' (0 ∷ []) us
            (s.first ∷ [])) is
            o))
        one_of ts is [] named stand = absurd named
        one_of [] is (P ∷ []) named stand = cc
        one_of (u ∷ v ∷ us) is (P ∷ []) named stand = cc
        one_of ts is (P ∷ Q ∷ Ps) named stand = absurd named.1

pub raise_counts : (q x : ℕ) (p f o : List ℕ) → count_in q (x ∷ (p ++ (f ++ o))) ≡ count_in q (x ∷ (f ++ (p ++ o)))
raise_counts q x p f o = omega (
  arith,
  times_cons q x (p ++ (f ++ o)),
  count_in-append q p (f ++ o),
  count_in-append q f o,
  times_cons q x (f ++ (p ++ o)),
  count_in-append q f (p ++ o),
  count_in-append q p o,
)

pub move_counts : (q : ℕ) (p f o : List ℕ) → count_in q (f ++ (p ++ o)) ≡ count_in q (p ++ (f ++ o))
move_counts q p f o = omega (
  arith,
  count_in-append q f (p ++ o),
  count_in-append q p o,
  count_in-append q p (f ++ o),
  count_in-append q f o,
)

-- two trees get a root above
pub over_two : (scheme : Scheme) (b : PageMap) (x y : Child) (Ps : List Placed) (ts : List Tree) →
    NameTrees scheme b (x ∷ y ∷ []) Ps → trees Ps ≡ ts → tree.Inner (trees Ps) ≡ root_over ts
over_two scheme b x y [] ts named stand = absurd named
over_two scheme b x y (P ∷ []) ts named stand = absurd named.1
over_two scheme b x y (P ∷ Q ∷ []) ts named stand = ap root_over stand
over_two scheme b x y (P ∷ Q ∷ R ∷ Ps) ts named stand = absurd named.1.1

-- the root is split
pub root_raised : (scheme : Scheme) (told told1 told' : Option PageMap) (free free1 free' : ℕ) (c : Child)
    (one : Record)
    (s : Inserted) (second c' : Child) →
    s.second ≡ Some second → GrowsSubtree scheme told free told1 free1 c one (entries s) →
    RaisesRoot scheme told1 free1 told' free' s.first second c' →
    InsertsRecord scheme told free (Some c) told' free' c' one
root_raised scheme told told1 told' free free1 free' c one s second c' some grows raises t d =
    let cs : List Child = s.first ∷ second ∷ [] in
    let both : entries s ≡ cs = ap (λ x. s.first ∷ option_to_list x) some in
    let o : Outcome scheme d.page_map (UsesPages d.page_map.size d.chain) told1 free1 (0 ∷ []) (grown one t) cs =
    subst (Outcome scheme d.page_map (UsesPages d.page_map.size d.chain) told1 free1 (0 ∷ []) (grown one t)) both
    (below_root scheme told told1 free free1 c one (entries s) grows t d).outcome in
    let page = raises.page in
    let k = raises.takes o.page_map o.chain o.is o.linked in
    let had : OwnsEachOnce o.page_map.size (o.chain ++ (pages o.parts ++ (0 ∷ []))) =
    same_owned o.page_map.size (pages o.parts ++ (o.chain ++ (0 ∷ []))) _ (λ q. move_counts q (pages o.parts) o.chain
    (0 ∷ [])) o.owned in
    let here : NameTrees scheme k.page_map cs o.parts = frame_all scheme o.page_map k.page_map cs o.parts
    (λ q few. ap (λ (f : ℕ → PageContent). f q) k.same) o.named in
    let r = inner_written scheme raises.told_then told' raises.free_then free' page cs c' raises.writes k.page_map
    k.chain
    o.parts (0 ∷ []) k.is here k.linked
    (same_owned k.page_map.size (page ∷ (k.chain ++ (pages o.parts ++ (0 ∷ [])))) _
    (λ q. raise_counts q page (pages o.parts) k.chain (0 ∷ [])) (k.owned (pages o.parts ++ (0 ∷ [])) had)) in
    subst (λ u. (e : Drafted scheme told' free' (Some c') u) × UsesPages d.page_map.size d.chain e.page_map.size
    e.chain)
    (over_two scheme o.page_map s.first second o.parts (grown one t) o.named o.stand)
    (rooted scheme k.page_map (UsesPages d.page_map.size d.chain) told' free' (tree.Inner (trees o.parts)) c'
    (weaker scheme k.page_map (Same k.page_map.size k.chain) (UsesPages d.page_map.size d.chain) told' free' (0 ∷ [])
    (tree.Inner (trees o.parts) ∷ []) (c' ∷ [])
    (λ z ch same. uses_both d.page_map.size d.chain o.page_map.size o.chain
    z ch o.use_ (uses_as o.page_map.size o.chain k.page_map.size k.chain z ch k.use_ same.0 same.1)) r))
