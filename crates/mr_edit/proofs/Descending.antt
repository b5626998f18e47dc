-- An insertion into the subtree below an entry.
use Rattle.std.proofs.Common.{◌≡◌, ℕ, zero, suc, ◌<◌, List, [], ◌∷◌, ◌++◌, length, map, take, drop, get_or, refl, sym, ap, subst, ◌∙◌, arith}
use Rattle.std.specs.Prelude.{Option, IfSome}
use Rattle.std.proofs.lemmas.List.{length-map, map-append, take-map, drop-map, get_or-map, get_or_default}
use Rattle.std.proofs.lemmas.List.Concat.{flat_map-append}
use Rattle.mr_record.specs.declared.record.Record.{Record}
use Rattle.mr_tree.specs.Digest.{Scheme}
use Rattle.mr_tree.specs.declared.child.Child.{Child}
use Rattle.mr_tree.specs.declared.tree.Tree.{Tree}
use Rattle.mr_tree.specs.declared.tree.Tree.TheVariants as tree
use Rattle.mr_tree.specs.declared.tree.Tree.TheOpen as node
use Rattle.mr_split.specs.Choice.{choose}
use Rattle.mr_grow.specs.Grow.{outline, grown, in_place, leaves_over, nodes_over}
use Rattle.mr_grow.proofs.Grown.{beside, grown-Leaf, grown-Inner, in_place_is}
use Rattle.mr_pages.specs.Stands.{Placed, Leaf, Inner, tree_of, pages_of}
use Rattle.mr_pages.specs.Walking.{child_link}
use Rattle.mr_edit.specs.PageMap.{PageMap, HasNode, OwnsEachOnce, count_in}
use Rattle.mr_edit.specs.Held.{NamesTree, NameTrees, trees, pages}
use Rattle.mr_edit.specs.Outcome.{UsesPages, Outcome, GrowsSubtree, PutsLeaf, PutsInner}
use Rattle.mr_edit.proofs.Rows.{row_of, row_trees, row_pages}
use Rattle.mr_edit.proofs.Zips.{same_length, zip_at, zip_take, zip_drop, zip_both}
use Rattle.mr_edit.proofs.Frame.{count_in-append, frame_all}
use Rattle.mr_edit.proofs.Places.{same_owned, times_cons}
use Rattle.mr_edit.proofs.Entries.{outlines_are, opens_inner, opens_leaf}
use Rattle.mr_edit.proofs.Writes.{uses_both}

-- ---- a leaf

pub grows_leaf : (scheme : Scheme) (told told1 told' : Option PageMap) (free free' : ℕ) (c : Child) (one : Record)
    (rs new : List Record) (out : List Child) →
    told1 ≡ told → IfSome told (λ b. HasNode b c.id (node.Leaf rs)) → new ≡ rs ++ one ∷ [] →
    PutsLeaf scheme told1 free told' free' c.id new out →
    GrowsSubtree scheme told free told' free' c one out
grows_leaf scheme told told1 told' free free' c one rs new out same reads more puts a chain
    P others is names linked owned =
    let has : HasNode a c.id (node.Leaf rs) = subst (λ o. IfSome o (λ b. HasNode b c.id (node.Leaf rs))) is reads in
    let here : P ≡ Leaf c.id rs = opens_leaf scheme a c rs P names has in
    subst (λ ts. Outcome scheme a (UsesPages a.size chain) told' free' others ts out)
    (ap leaves_over more ∙ sym (grown-Leaf one rs) ∙ ap (λ Q. grown one (tree_of Q)) (sym here))
    (puts a chain others (same ∙ is) linked
    (subst (λ Q. OwnsEachOnce a.size (pages_of Q ++ (chain ++ others))) here owned))

-- ---- an inner node

pub around : {X : Type 0} (xs : List X) (n : ℕ) (d : X) → n < length xs →
    xs ≡ take n xs ++ (get_or xs n d ∷ drop (suc n) xs)
around [] n d within = absurd (omega (arith, within))
around (x ∷ xs) zero d within = refl
around (x ∷ xs) (suc n) d within = ap (λ us. x ∷ us) (around xs n d (omega (arith, within)))

-- the pages of a child, its siblings' being others'
pub down_counts : (q x : ℕ) (l c r f o whole mine : List ℕ) → whole ≡ l ++ (c ++ r) → mine ≡ x ∷ whole →
    count_in q (c ++ (f ++ (x ∷ ((l ++ r) ++ o)))) ≡ count_in q (mine ++ (f ++ o))
down_counts q x l c r f o whole mine is all = omega (
  arith,
  count_in-append q c (f ++ (x ∷ ((l ++ r) ++ o))),
  count_in-append q f (x ∷ ((l ++ r) ++ o)),
  times_cons q x ((l ++ r) ++ o),
  count_in-append q (l ++ r) o,
  count_in-append q l r,
  count_in-append q mine (f ++ o),
  count_in-append q f o,
  ap (count_in q) all,
  times_cons q x whole,
  ap (count_in q) is,
  count_in-append q l (c ++ r),
  count_in-append q c r,
)

-- and back
pub up_counts : (q x : ℕ) (l c r f o : List ℕ) → count_in q (x ∷ ((l ++ (c ++ r)) ++ (f ++ o))) ≡ count_in q
    (c ++ (f ++ (x ∷ ((l ++ r) ++ o))))
up_counts q x l c r f o = omega (
  arith,
  times_cons q x ((l ++ (c ++ r)) ++ (f ++ o)),
  count_in-append q (l ++ (c ++ r)) (f ++ o),
  count_in-append q l (c ++ r),
  count_in-append q c r,
  count_in-append q f o,
  count_in-append q c (f ++ (x ∷ ((l ++ r) ++ o))),
  count_in-append q f (x ∷ ((l ++ r) ++ o)),
  times_cons q x ((l ++ r) ++ o),
  count_in-append q (l ++ r) o,
  count_in-append q l r,
)

pub among_left : (q x : ℕ) (l r o : List ℕ) → 0 < count_in q l → 0 < count_in q (x ∷ ((l ++ r) ++ o))
among_left q x l r o some = omega (
  arith,
  some,
  times_cons q x ((l ++ r) ++ o),
  count_in-append q (l ++ r) o,
  count_in-append q l r,
)

pub among_right : (q x : ℕ) (l r o : List ℕ) → 0 < count_in q r → 0 < count_in q (x ∷ ((l ++ r) ++ o))
among_right q x l r o some = omega (
  arith,
  some,
  times_cons q x ((l ++ r) ++ o),
  count_in-append q (l ++ r) o,
  count_in-append q l r,
)

pub among_others : (q x : ℕ) (l r o : List ℕ) → 0 < count_in q o → 0 < count_in q (x ∷ ((l ++ r) ++ o))
among_others q x l r o some = omega (arith, some, times_cons q x ((l ++ r) ++ o), count_in-append q (l ++ r) o)

pub joined_pages : (ls ns rs : List Placed) → pages (ls ++ (ns ++ rs)) ≡ pages ls ++ (pages ns ++ pages rs)
joined_pages ls ns rs = flat_map-append pages_of ls (ns ++ rs)
    ∙ ap (λ us. pages ls ++ us) (flat_map-append pages_of ns rs)

pub tree_at : (Ps : List Placed) (at : ℕ) (x : Placed) → at < length Ps → x ≡ get_or Ps at x →
    tree_of x ≡ get_or (trees Ps) at (tree_of x)
tree_at Ps at x within is = ap tree_of is ∙ sym (get_or-map tree_of Ps at x (tree_of x) within)

-- the pages of the node and of a child's siblings go to the others, and come back
pub owned_up : (size x at : ℕ) (Ps ns : List Placed) (chain others : List ℕ) →
    OwnsEachOnce size (pages ns ++ (chain ++ (x ∷ ((pages (take at Ps) ++ pages (drop (suc at) Ps)) ++ others)))) →
    OwnsEachOnce size (x ∷ (pages (take at Ps ++ (ns ++ drop (suc at) Ps)) ++ (chain ++ others)))
owned_up size x at Ps ns chain others =
    same_owned size
    (pages ns ++ (chain ++ (x ∷ ((pages (take at Ps) ++ pages (drop (suc at) Ps)) ++ others)))) _
    (λ q. ap (λ us. count_in q (x ∷ (us ++ (chain ++ others)))) (joined_pages (take at Ps) ns (drop (suc at) Ps))
    ∙ up_counts q x (pages (take at Ps)) (pages ns) (pages (drop (suc at) Ps)) chain others)

-- a child of a node that was read: its siblings' pages and the node's own are others' pages
pub record Step (scheme : Scheme) (a : PageMap) (chain others : List ℕ) (P : Placed) (c : Child) (cs : List Child)
    (at : ℕ)
    (d : Child) : Type 0 where
  pub parts : List Placed
  pub is : P ≡ Inner c.id (row_of parts)
  pub named : NameTrees scheme a cs parts
  pub inside : at < length parts
  pub child : Placed
  pub child_is : child ≡ get_or parts at child
  pub held : NamesTree scheme a d child
  pub owned : OwnsEachOnce a.size
      (pages_of child ++ (chain ++ (c.id ∷ ((pages (take at parts) ++ pages (drop (suc at) parts)) ++ others))))

pub step_down : (scheme : Scheme) (a : PageMap) (chain others : List ℕ) (P : Placed) (c : Child) (cs : List Child)
    (at : ℕ)
    (d : Child) → NamesTree scheme a c P → HasNode a c.id (node.Inner (map child_link cs)) → at < length cs →
    d ≡ get_or cs at d → OwnsEachOnce a.size (pages_of P ++ (chain ++ others)) → Step scheme a chain others P c cs at d
step_down scheme a chain others P c cs at d names has within is_d owned =
    let op = opens_inner scheme a c cs P names has in
    let Ps = op.parts in
    let none : Placed = Leaf 0 [] in
    let inside : at < length Ps = omega (arith, within, same_length (NamesTree scheme a) cs Ps op.named) in
    let x : Placed = get_or Ps at none in
    let l = pages (take at Ps) in
    let r = pages (drop (suc at) Ps) in
    let whole : pages Ps ≡ l ++ (pages_of x ++ r) = ap pages (around Ps at none inside)
    ∙ flat_map-append pages_of (take at Ps) (x ∷ drop (suc at) Ps) in
    let mine : pages_of P ≡ c.id ∷ pages Ps = ap pages_of op.is ∙ ap (λ ps. c.id ∷ ps) (row_pages Ps) in
    record {
      parts = Ps;
      is = op.is;
      named = op.named;
      inside = inside;
      child = x;
      child_is = get_or_default Ps at none x inside;
      held = subst (λ e. NamesTree scheme a e x) (sym is_d)
          (zip_at (NamesTree scheme a) cs Ps at d none op.named within);
      owned = same_owned a.size (pages_of P ++ (chain ++ others)) _ (λ q. down_counts q c.id l (pages_of x) r chain
          others (pages Ps) (pages_of P) whole mine) owned;
    }

-- an insertion below one of some trees
pub grown_at : (one : Record) (ts : List Tree) (at : ℕ) (t : Tree) → at < length ts → t ≡ get_or ts at t →
    at ≡ choose (map outline ts) one.rect →
    nodes_over (take at ts ++ (grown one t ++ drop (suc at) ts)) ≡ grown one (tree.Inner ts)
grown_at one ts at t within there chosen =
    ap nodes_over (sym (in_place_is (grown one) at ts t within there)
    ∙ ap (λ k. in_place k (beside (grown one) ts)) chosen)
    ∙ sym (grown-Inner one ts)

-- the trees of the parts are those that an insertion leaves
pub joined_trees : (one : Record) (Ps ns : List Placed) (at : ℕ) (x : Placed) → at < length Ps → x ≡ get_or Ps at x →
    trees ns ≡ grown one (tree_of x) → at ≡ choose (map outline (trees Ps)) one.rect →
    nodes_over (trees (take at Ps ++ (ns ++ drop (suc at) Ps))) ≡ grown one (tree.Inner (trees Ps))
joined_trees one Ps ns at x within is stands chosen =
    let ts = trees Ps in
    ap nodes_over
    (map-append tree_of (take at Ps) (ns ++ drop (suc at) Ps)
    ∙ (λ i. sym (take-map tree_of at Ps) i ++ (map-append tree_of ns (drop (suc at) Ps) i))
    ∙ (λ i. take at ts ++ (stands i ++ sym (drop-map tree_of (suc at) Ps) i)))
    ∙ grown_at one ts at (tree_of x) (omega (arith, within, length-map Ps tree_of)) (tree_at Ps at x within is) chosen

pub grows_below : (scheme : Scheme) (told told1 told2 told' : Option PageMap) (free free2 free' : ℕ) (c : Child)
    (one : Record) (at : ℕ) (cs new out : List Child) (d : Child) →
    told1 ≡ told → IfSome told (λ b. HasNode b c.id (node.Inner (map child_link cs))) →
    at ≡ choose (map (λ (e : Child). e.rect) cs) one.rect → at < length cs → d ≡ get_or cs at d →
    GrowsSubtree scheme told1 free told2 free2 d one new → PutsInner scheme told2 free2 told' free' c.id
    (take at cs ++ (new ++ drop (suc at) cs)) out →
    GrowsSubtree scheme told free told' free' c one out
grows_below scheme told told1 told2 told' free free2 free' c one at cs new out d same reads chosen within
    is_d grows puts a chain P others is names linked owned =
    let has : HasNode a c.id (node.Inner (map child_link cs)) =
    subst (λ o. IfSome o (λ b. HasNode b c.id (node.Inner (map child_link cs)))) is reads in
    let op = step_down scheme a chain others P c cs at d names has within is_d owned in
    let Ps = op.parts in
    let x = op.child in
    let l = pages (take at Ps) in
    let r = pages (drop (suc at) Ps) in
    let o = grows a chain x (c.id ∷ ((l ++ r) ++ others)) (same ∙ is) op.held linked op.owned in
    let stays : (Qs : List Placed) → ((q : ℕ) → 0 < count_in q (pages Qs) → 0 < count_in q
    (c.id ∷ ((l ++ r) ++ others))) →
    (us : List Child) → NameTrees scheme a us Qs → NameTrees scheme o.page_map us Qs =
    λ Qs among us all. frame_all scheme a o.page_map us Qs (λ q some. o.kept q (among q some)) all in
    let now : NameTrees scheme o.page_map (take at cs ++ (new ++ drop (suc at) cs))
    (take at Ps ++ (o.parts ++ drop (suc at) Ps))
    =
    zip_both (NamesTree scheme o.page_map) (take at cs) (new ++ drop (suc at) cs) (take at Ps)
    (o.parts ++ drop (suc at) Ps)
    (stays (take at Ps) (λ q some. among_left q c.id l r others some) (take at cs)
    (zip_take (NamesTree scheme a) at cs Ps op.named))
    (zip_both (NamesTree scheme o.page_map) new (drop (suc at) cs) o.parts (drop (suc at) Ps) o.named
    (stays (drop (suc at) Ps) (λ q some. among_right q c.id l r others some) (drop (suc at) cs)
    (zip_drop (NamesTree scheme a) (suc at) cs Ps op.named))) in
    let up = owned_up o.page_map.size c.id at Ps o.parts o.chain others o.owned in
    let w = puts o.page_map o.chain (take at Ps ++ (o.parts ++ drop (suc at) Ps)) others o.is now o.linked up in
    record {
      page_map = w.page_map;
      is = w.is;
      parts = w.parts;
      named = w.named;
      stand =
          w.stand
          ∙ joined_trees one Ps o.parts at x op.inside op.child_is o.stand (chosen
          ∙ ap (λ rects. choose rects one.rect) (outlines_are scheme a cs Ps op.named))
          ∙ ap (λ ts. grown one (tree.Inner ts)) (sym (row_trees Ps)) ∙ ap (λ Q. grown one (tree_of Q)) (sym op.is);
      chain = w.chain;
      linked = w.linked;
      owned = w.owned;
      kept = λ q some. w.kept q some ∙ o.kept q (among_others q c.id l r others some);
      use_ = uses_both a.size chain o.page_map.size o.chain w.page_map.size w.chain o.use_ w.use_;
    }
