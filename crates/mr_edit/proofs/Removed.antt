-- A record is taken out of the subtree below an entry.
use Rattle.std.proofs.Common.{◌≡◌, Bool, true, false, ◌||◌, ℕ, zero, suc, ◌<◌, ◌≤◌, List, [], ◌∷◌, ◌++◌, length, map, take, drop, get_or, refl, sym, ap, subst, ◌∙◌, arith}
use Rattle.std.specs.Prelude.{Option, Some, IfSome}
use Rattle.std.specs.List.{flat_map, list_any, remove}
use Rattle.std.proofs.lemmas.Bool.{lt-ltb, le-ltb}
use Rattle.std.proofs.lemmas.List.{length-map, map-append, take-map, drop-map}
use Rattle.mr_geom.specs.Rectangle.{Rectangle}
use Rattle.mr_record.specs.declared.record.Record.{Record}
use Rattle.mr_tree.specs.Digest.{Scheme}
use Rattle.mr_tree.specs.Tree.{records}
use Rattle.mr_tree.specs.declared.child.Child.{Child}
use Rattle.mr_tree.specs.declared.tree.Tree.{Tree}
use Rattle.mr_tree.specs.declared.tree.Tree.TheVariants as tree
use Rattle.mr_tree.specs.declared.tree.Tree.TheOpen as node
use Rattle.mr_tree.proofs.Equations.{records-Leaf}
use Rattle.mr_grow.specs.Found.{is_numbered, has, place_of}
use Rattle.mr_grow.specs.Shrink.{Rest, stays, set_aside, shrunk}
use Rattle.mr_grow.proofs.Found.{place_any}
use Rattle.mr_grow.proofs.Kept.{records_below}
use Rattle.mr_grow.proofs.Shrunk.{holder, shrunk-Leaf, shrunk-Inner, has_below}
use Rattle.mr_pages.specs.Stands.{Placed, Leaf, Inner, tree_of, pages_of, IsChain}
use Rattle.mr_pages.specs.Walking.{child_link}
use Rattle.mr_edit.specs.PageMap.{PageMap, HasNode, HasFree, OwnsEachOnce, count_in}
use Rattle.mr_edit.specs.Held.{NamesTree, NameTrees, trees, pages}
use Rattle.mr_edit.specs.private.Removal.{HaveRect, IsOnce, LacksRecord, LeavesSubtree, LeavesLeaf, LeavesInner, RemovesRecord}
use Rattle.mr_edit.proofs.Rows.{row_of, row_trees}
use Rattle.mr_edit.proofs.Zips.{zip_take, zip_drop, zip_both}
use Rattle.mr_edit.proofs.Frame.{frame_all}
use Rattle.mr_edit.proofs.Entries.{opens_leaf}
use Rattle.mr_edit.proofs.Descending.{tree_at, owned_up, step_down, among_left, among_right, among_others}
use Rattle.mr_edit.proofs.Searching.{holds, all_below, place_found}
use Rattle.mr_edit.proofs.Once.{once_below, alone_before}

or_true : (a b : Bool) → b ≡ true → (a || b) ≡ true
or_true true b e = refl
or_true false b e = e

any_at : {X : Type 0} (f : X → Bool) (xs : List X) (i : ℕ) (e : X) → i < length xs → f (get_or xs i e) ≡ true →
    list_any f xs ≡ true
any_at f [] i e within it = absurd (omega (arith, within))
any_at f (y ∷ ys) zero e within it = ap (λ b. b || list_any f ys) it
any_at f (y ∷ ys) (suc i) e within it = or_true (f y) (list_any f ys) (any_at f ys i e (omega (arith, within)) it)

-- ---- a leaf

pub removes_leaf : (scheme : Scheme) (root : Bool) (told told1 told' : Option PageMap) (free free' : ℕ) (c : Child)
    (n : ℕ)
    (r : Rectangle) (rs new : List Record) (at : ℕ) (out : List Child) (aside : List Record) →
    told1 ≡ told → IfSome told (λ b. HasNode b c.id (node.Leaf rs)) → at ≡ place_of (is_numbered n) rs →
    at < length rs → new ≡ remove rs at → LeavesLeaf scheme root told1 free told' free' c.id new out aside →
    RemovesRecord scheme root told free told' free' c n r out aside
removes_leaf scheme root told told1 told' free free' c n r rs new at out aside same reads place within
    removed leaves a chain P others is names linked owned all once =
    let has_node : HasNode a c.id (node.Leaf rs) = subst (λ o. IfSome o (λ b. HasNode b c.id (node.Leaf rs))) is reads
    in
    let here : P ≡ Leaf c.id rs = opens_leaf scheme a c rs P names has_node in
    let it : has n rs ≡ true = sym (place_any (is_numbered n) rs)
    ∙ lt-ltb (place_of (is_numbered n) rs) (length rs) (subst (λ k. k < length rs) place within) in
    let rest : shrunk n (tree_of P) ≡ record { tree = tree.Leaf new; aside = [] } =
    ap (λ Q. shrunk n (tree_of Q)) here ∙ shrunk-Leaf n rs ∙ (λ i. record {
      tree =
          tree.Leaf (sym (removed ∙ ap (remove rs) place) i);
      aside = [];
    }) in (
      ap (λ Q. has n (records (tree_of Q))) here ∙ ap (has n) (records-Leaf rs) ∙ it,
      subst (λ x. LeavesSubtree scheme root a told' free' others x out aside) (sym rest)
          (leaves a chain others (same ∙ is) linked
          (subst (λ Q. OwnsEachOnce a.size (pages_of Q ++ (chain ++ others))) here
          owned)),
    )

pub lacks_leaf : (scheme : Scheme) (told : Option PageMap) (c : Child) (n : ℕ) (r : Rectangle) (rs : List Record)
    (at : ℕ)
    → IfSome told (λ b. HasNode b c.id (node.Leaf rs)) → at ≡ place_of (is_numbered n) rs → length rs ≤ at →
    LacksRecord scheme told c n r
lacks_leaf scheme told c n r rs at reads place past a P is names all =
    let has_node : HasNode a c.id (node.Leaf rs) = subst (λ o. IfSome o (λ b. HasNode b c.id (node.Leaf rs))) is reads
    in
    let here : P ≡ Leaf c.id rs = opens_leaf scheme a c rs P names has_node in
    ap (λ Q. has n (records (tree_of Q))) here ∙ ap (has n) (records-Leaf rs) ∙ sym (place_any (is_numbered n) rs)
    ∙ le-ltb (place_of (is_numbered n) rs) (length rs) (subst (λ k. length rs ≤ k) place past)

-- ---- an inner node

-- the trees that are left
left_trees : (n : ℕ) (Ps ns : List Placed) (at : ℕ) (x : Tree) → at < length Ps → at ≡ holder n (trees Ps) →
    x ≡ get_or (trees Ps) at x → trees ns ≡ stays (shrunk n x) →
    ◌≡◌ {A = Rest} (record {
      tree = tree.Inner (trees (take at Ps ++ (ns ++ drop (suc at) Ps)));
      aside =
          set_aside (shrunk n x);
    }) (shrunk n (tree.Inner (trees Ps)))
left_trees n Ps ns at x within place is stand =
    let ts = trees Ps in
    let size : at < length ts = omega (arith, within, length-map Ps tree_of) in
    (λ i. record {
      tree = tree.Inner
          ((map-append tree_of (take at Ps) (ns ++ drop (suc at) Ps)
          ∙ (λ j. sym (take-map tree_of at Ps) j ++ (map-append tree_of ns (drop (suc at) Ps) j))
          ∙ (λ j. take at ts ++ (stand j ++ sym (drop-map tree_of (suc at) Ps) j))
          ∙ ap (λ k. take k ts ++ (stays (shrunk n x) ++ drop (suc k) ts)) place) i);
      aside = set_aside (shrunk n x);
    })
    ∙ sym (shrunk-Inner n ts x (subst (λ k. k < length ts) place size) (subst (λ k. x ≡ get_or ts k x) place is))

-- A record was taken out below one of the entries. The others, and what stands in the place of that one, are named
-- side by side, and their pages are apart from the node's.
pub record Rejoined (scheme : Scheme) (a : PageMap) (told : Option PageMap) (free : ℕ) (c : Child) (n at : ℕ)
    (cs new : List Child) (before : List Record) (P : Placed) (others : List ℕ) (d : Child) (r : Rectangle)
    (chain : List ℕ) : Type 0 where
  pub parts : List Placed
  pub opened : P ≡ Inner c.id (row_of parts)
  pub had : NameTrees scheme a cs parts
  pub child : Placed
  pub within : at < length parts
  pub tree_is : tree_of child ≡ get_or (trees parts) at (tree_of child)
  pub child_is : child ≡ get_or parts at child
  pub held : NamesTree scheme a d child
  pub apart : OwnsEachOnce a.size
      (pages_of child ++ (chain ++ (c.id ∷ ((pages (take at parts) ++ pages (drop (suc at) parts)) ++ others))))
  pub rects : HaveRect n r (records (tree_of child))
  pub once : IsOnce n (records (tree_of child))
  pub there : has n (records (tree_of child)) ≡ true
  pub left : LeavesSubtree scheme false a told free
      (c.id ∷ ((pages (take at parts) ++ pages (drop (suc at) parts)) ++ others))
      (shrunk n (tree_of child)) new before
  pub named : NameTrees scheme left.outcome.page_map (take at cs ++ (new ++ drop (suc at) cs))
      (take at parts ++ (left.outcome.parts ++ drop (suc at) parts))
  pub owned : OwnsEachOnce left.outcome.page_map.size
      (c.id ∷ (pages (take at parts ++ (left.outcome.parts ++ drop (suc at) parts)) ++ (left.outcome.chain ++ others)))

pub records_opened : (P : Placed) (page : ℕ) (Ps : List Placed) → P ≡ Inner page (row_of Ps) →
    records (tree_of P) ≡ flat_map records (trees Ps)
records_opened P page Ps is = ap (λ Q. records (tree_of Q)) is ∙ ap (λ ts. records (tree.Inner ts)) (row_trees Ps)
    ∙ records_below (trees Ps)

pub rejoined : (scheme : Scheme) (told told1 told2 : Option PageMap) (free free1 free2 : ℕ) (c : Child) (n : ℕ)
    (r : Rectangle) (at : ℕ) (cs new : List Child) (before : List Record) (d : Child) → told1 ≡ told → free1 ≡ free →
    IfSome told (λ b. HasNode b c.id (node.Inner (map child_link cs))) → at < length cs → d ≡ get_or cs at d →
    RemovesRecord scheme false told1 free1 told2 free2 d n r new before → (a : PageMap) (chain : List ℕ) (P : Placed)
    (others : List ℕ) → told ≡ Some a → NamesTree scheme a c P → IsChain (HasFree a) free chain →
    OwnsEachOnce a.size (pages_of P ++ (chain ++ others)) → HaveRect n r (records (tree_of P)) →
    IsOnce n (records (tree_of P)) → Rejoined scheme a told2 free2 c n at cs new before P others d r chain
rejoined scheme told told1 told2 free free1 free2 c n r at cs new before d same same_free reads within is_d removes a
    chain P others is names linked owned all once =
    let has_node : HasNode a c.id (node.Inner (map child_link cs)) =
    subst (λ o. IfSome o (λ b. HasNode b c.id (node.Inner (map child_link cs)))) is reads in
    let st = step_down scheme a chain others P c cs at d names has_node within is_d owned in
    let Ps = st.parts in
    let x : Placed = st.child in
    let lp = pages (take at Ps) in
    let rp = pages (drop (suc at) Ps) in
    let t_is = tree_at Ps at x st.inside st.child_is in
    let each : HaveRect n r (flat_map records (trees Ps)) = subst (HaveRect n r) (records_opened P c.id Ps st.is) all in
    let here : HaveRect n r (records (tree_of x)) = subst (λ u. HaveRect n r (records u)) (sym t_is)
    (all_below (λ (y : Record). y.number ≡ n → y.rect ≡ r) (trees Ps) at (tree_of x)
    (omega (arith, st.inside, length-map Ps tree_of)) each) in
    let alone : IsOnce n (records (tree_of x)) = subst (λ u. IsOnce n (records u)) (sym t_is)
    (once_below n (trees Ps) at (tree_of x) (omega (arith, st.inside, length-map Ps tree_of))
    (subst (IsOnce n) (records_opened P c.id Ps st.is) once)) in
    let g = removes a chain x (c.id ∷ ((lp ++ rp) ++ others)) (same ∙ is) st.held
    (subst (λ f. IsChain (HasFree a) f chain) (sym same_free) linked) st.owned here alone in
    let o = g.1.outcome in
    let stay : (Qs : List Placed) → ((q : ℕ) → 0 < count_in q (pages Qs) → 0 < count_in q
    (c.id ∷ ((lp ++ rp) ++ others))) →
    (us : List Child) → NameTrees scheme a us Qs → NameTrees scheme o.page_map us Qs =
    λ Qs some_of us named. frame_all scheme a o.page_map us Qs (λ q some. o.kept q (some_of q some)) named in
    record {
      parts = Ps;
      opened = st.is;
      had = st.named;
      child = x;
      within = st.inside;
      tree_is = t_is;
      child_is = st.child_is;
      held = st.held;
      apart = st.owned;
      rects = here;
      once = alone;
      there = g.0;
      left = g.1;
      named = zip_both (NamesTree scheme o.page_map) (take at cs) (new ++ drop (suc at) cs) (take at Ps)
          (o.parts ++ drop (suc at) Ps)
          (stay (take at Ps) (λ q some. among_left q c.id lp rp others some) (take at cs)
          (zip_take (NamesTree scheme a) at cs Ps st.named))
          (zip_both (NamesTree scheme o.page_map) new (drop (suc at) cs) o.parts (drop (suc at) Ps) o.named
          (stay (drop (suc at) Ps) (λ q some. among_right q c.id lp rp others some) (drop (suc at) cs)
          (zip_drop (NamesTree scheme a) (suc at) cs Ps st.named)));
      owned = owned_up o.page_map.size c.id at Ps o.parts o.chain others o.owned;
    }

-- what is left of the node is what is left of its tree
pub left_of : (scheme : Scheme) (a : PageMap) (told : Option PageMap) (free : ℕ) (c : Child) (n at : ℕ)
    (cs new : List Child)
    (before : List Record) (P : Placed) (others : List ℕ) (d : Child) (r : Rectangle) (chain : List ℕ)
    (j : Rejoined scheme a told free c n at cs new before P others d r chain) → IsOnce n (records (tree_of P)) →
    ◌≡◌ {A = Rest} (record {
      tree = tree.Inner (trees (take at j.parts ++ (j.left.outcome.parts ++ drop (suc at) j.parts)));
      aside =
          before;
    }) (shrunk n (tree_of P))
left_of scheme a told free c n at cs new before P others d r chain j once =
    let Ps = j.parts in
    let t = tree_of j.child in
    let o = j.left.outcome in
    let alone : IsOnce n (flat_map records (trees Ps)) = subst (IsOnce n) (records_opened P c.id Ps j.opened) once in
    let size : at < length (trees Ps) = omega (arith, j.within, length-map Ps tree_of) in
    let has_it : holds n (get_or (trees Ps) at t) ≡ true = subst (λ u. holds n u ≡ true) j.tree_is j.there in
    let place : at ≡ holder n (trees Ps) = sym (place_found (holds n) (trees Ps) at t size
    (alone_before n (trees Ps) at t size alone has_it) has_it) in
    (λ i. record {
      tree = tree.Inner (trees (take at Ps ++ (o.parts ++ drop (suc at) Ps)));
      aside = j.left.aside_is i;
    })
    ∙ left_trees n Ps o.parts at t j.within place j.tree_is o.stand
    ∙ ap (λ ts. shrunk n (tree.Inner ts)) (sym (row_trees Ps)) ∙ ap (λ Q. shrunk n (tree_of Q)) (sym j.opened)

pub removes_below : (scheme : Scheme) (root : Bool) (told told1 told2 told' : Option PageMap)
    (free free1 free2 free' : ℕ)
    (c : Child) (n : ℕ) (r : Rectangle) (at : ℕ) (cs new out : List Child) (before aside : List Record) (d : Child) →
    told1 ≡ told → free1 ≡ free → IfSome told (λ b. HasNode b c.id (node.Inner (map child_link cs))) → at < length cs →
    d ≡ get_or cs at d → RemovesRecord scheme false told1 free1 told2 free2 d n r new before →
    LeavesInner scheme root told2 free2 told' free' c.id (take at cs ++ (new ++ drop (suc at) cs)) before out aside
    →
    RemovesRecord scheme root told free told' free' c n r out aside
removes_below scheme root told told1 told2 told' free free1 free2 free' c n r at cs new out before aside d same
    same_free reads within is_d removes leaves a chain P others is names linked owned all once =
    let j = rejoined scheme told told1 told2 free free1 free2 c n r at cs new before d same same_free reads within is_d
    removes a chain P others is names linked owned all once in
    let Ps = j.parts in
    let t = tree_of j.child in
    let o = j.left.outcome in
    let size : at < length (trees Ps) = omega (arith, j.within, length-map Ps tree_of) in
    let w = leaves o.page_map o.chain (take at Ps ++ (o.parts ++ drop (suc at) Ps)) others o.is j.named o.linked
    j.owned in
    let has_it : holds n (get_or (trees Ps) at t) ≡ true = subst (λ u. holds n u ≡ true) j.tree_is j.there in
    let rest = left_of scheme a told2 free2 c n at cs new before P others d r chain j once in
    let v = w.outcome in (
      ap (λ Q. has n (records (tree_of Q))) j.opened ∙ ap (λ ts. has n (records (tree.Inner ts))) (row_trees Ps)
          ∙ has_below n (trees Ps)
          ∙ any_at (holds n) (trees Ps) at t size has_it,
      subst (λ y. LeavesSubtree scheme root a told' free' others y out aside) rest (record {
        outcome = record {
          page_map = v.page_map;
          is = v.is;
          parts = v.parts;
          named = v.named;
          stand = v.stand;
          chain = v.chain;
          linked = v.linked;
          owned = v.owned;
          kept = λ q some. v.kept q some
              ∙ o.kept q (among_others q c.id (pages (take at Ps)) (pages (drop (suc at) Ps)) others some);
          use_ = v.use_ ∙ o.use_;
        };
        aside_is = w.aside_is;
      }),
    )
