-- A node that is looked at, where the pages are told, is the one that its entry is of, and as full as it has to be.
use Rattle.std.proofs.Common.{◌≡◌, ℕ, zero, suc, ◌<◌, ◌≤◌, Bool, true, false, List, ◌++◌, sym, ap, subst, ◌∙◌, arith}
use Rattle.std.specs.Prelude.{not, nat_lt, Option, Some, IfSome}
use Rattle.std.proofs.lemmas.Bool.{le-ltb}
use Rattle.mr_tree.specs.Digest.{Scheme}
use Rattle.mr_tree.specs.View as view
use Rattle.mr_tree.specs.declared.entry.Entry.{Entry}
use Rattle.mr_tree.specs.declared.child.Child.{Child}
use Rattle.mr_tree.specs.declared.tree.Tree.TheOpen.{Leaf, Inner}
use Rattle.mr_pages.specs.Faults.{same_rect, same_sums, size, least_fill}
use Rattle.mr_pages.specs.private.Judging.{fills_node, fits_entry}
use Rattle.mr_pages.specs.Page.{Link, Node, node_entry}
use Rattle.mr_pages.specs.Stands as placed
use Rattle.mr_pages.specs.Stands.{Placed, tree_of, trees_of, pages_of, links_of}
use Rattle.mr_pages.specs.Walking.{child_link, page_node}
use Rattle.mr_pages.proofs.Building.{FilledAs, leaf_filled, inner_filled, length_row}
use Rattle.mr_pages.proofs.Fits.{rect_known, all_fit}
use Rattle.mr_pages.proofs.Judged.{entry_same}
use Rattle.mr_pages.proofs.Rules.{same_rect_self, is_same_sums}
use Rattle.mr_edit.specs.PageMap.{PageMap, HasNode, OwnsEachOnce, count_in}
use Rattle.mr_edit.specs.Held.{NamesTree}
use Rattle.mr_edit.specs.Causes.{CanRead, CanLook, KnowsBelow}
use Rattle.mr_edit.proofs.Frame.{count_in-append}
use Rattle.mr_edit.proofs.Places.{owned_within}
use Rattle.mr_edit.proofs.Entries.{same_node, said_leaf, said_inner}

both : (b : Bool) → b ≡ true → b ≡ false → ⊥
both true p q = cc
both false p q = cc

-- ---- the rectangle

-- the node on the page that an entry names
node_of : Scheme → Placed → Node
node_of scheme (placed.Leaf p rs) = Leaf rs
node_of scheme (placed.Inner p R) = Inner (links_of scheme R)

node_there : (scheme : Scheme) (b : PageMap) (c : Child) (P : Placed) (m : Node) → NamesTree scheme b c P →
    HasNode b c.id m → m ≡ node_of scheme P
unfolding node_of
node_there scheme b c (placed.Leaf p rs) m names has =
    let at : c.id ≡ p = ap (λ (l : Link). l.page) names.said in
    same_node (b.content p).node m (Leaf rs) (subst (λ q. HasNode b q m) at has) names.written
node_there scheme b c (placed.Inner p R) m names has =
    let at : c.id ≡ p = ap (λ (l : Link). l.page) names.said in
    same_node (b.content p).node m (Inner (links_of scheme R)) (subst (λ q. HasNode b q m) at has) names.written.0

node_said : (scheme : Scheme) (c : Child) (P : Placed) → child_link c ≡ placed.link_of scheme P →
    node_entry scheme (node_of scheme P) ≡ view.child_entry c
unfolding node_of
node_said scheme c (placed.Leaf p rs) said = said_leaf scheme rs ∙ sym (ap (λ (l : Link). l.entry) said)
node_said scheme c (placed.Inner p R) said = said_inner scheme R ∙ sym (ap (λ (l : Link). l.entry) said)

round : (scheme : Scheme) (b : PageMap) (c : Child) (P : Placed) (n : view.Node) → NamesTree scheme b c P →
    HasNode b c.id (page_node n) → same_rect (view.rect_of n) (Some c.rect) ≡ true
round scheme b c P n names has =
    let same : view.rect_of n ≡ Some c.rect =
    sym (rect_known scheme n) ∙ ap (λ (e : Entry). e.rect) (entry_same scheme n
    ∙ ap (node_entry scheme) (node_there scheme b c P (page_node n) names has) ∙ node_said scheme c P names.said) in
    ap (λ o. same_rect o (Some c.rect)) same ∙ same_rect_self (Some c.rect)

-- ---- its layers and the number of its records

sums : (scheme : Scheme) (root : Bool) (b : PageMap) (c : Child) (P : Placed) (n : view.Node) → NamesTree scheme b c P →
    HasNode b c.id (page_node n) → same_sums root (view.entry_over scheme n) (child_link c).entry ≡ true
sums scheme root b c P n names has =
    let is : view.entry_over scheme n ≡ view.child_entry c = entry_same scheme n
    ∙ ap (node_entry scheme) (node_there scheme b c P (page_node n) names has)
    ∙ node_said scheme c P names.said in
    is_same_sums root (view.entry_over scheme n) (view.child_entry c)
    (record { mask = ap (λ (e : Entry). e.mask) is; count = λ below. ap (λ (e : Entry). e.count) is })

-- ---- how full it is

full : (scheme : Scheme) (root : Bool) (P : Placed) → FilledAs root (tree_of P) →
    not (nat_lt (size (node_of scheme P)) (least_fill root (node_of scheme P))) ≡ true
unfolding node_of
full scheme root (placed.Leaf p rs) filled = ap not (le-ltb _ _ (leaf_filled root rs filled))
full scheme root (placed.Inner p R) filled =
    ap not (le-ltb _ _ (inner_filled root (links_of scheme R) (trees_of R) (length_row scheme R) filled))

fills : (scheme : Scheme) (root : Bool) (b : PageMap) (c : Child) (P : Placed) (n : view.Node) → NamesTree scheme
    b c P →
    FilledAs root (tree_of P) → HasNode b c.id (page_node n) → fills_node root n ≡ true
fills scheme root b c P n names filled has =
    ap (λ m. not (nat_lt (size m) (least_fill root m))) (node_there scheme b c P (page_node n) names has)
    ∙ full scheme root P filled

-- ---- so it is not blamed

reads_in : (told : Option PageMap) (b : PageMap) (c : Child) (n : view.Node) → told ≡ Some b →
    IfSome told (λ x. HasNode x c.id (page_node n)) → HasNode b c.id (page_node n)
reads_in told b c n is reads = subst (λ o. IfSome o (λ x. HasNode x c.id (page_node n))) is reads

pub fit_blames : (scheme : Scheme) (root : Bool) (told : Option PageMap) (c : Child) (n : view.Node) →
    IfSome told (λ b. HasNode b c.id (page_node n)) → fits_entry scheme.version root c n ≡ false →
    CanLook scheme root told c → ⊥
fit_blames scheme root told c n reads off k =
    let b = k.read.page_map in
    let P = k.read.placed in
    let has = reads_in told b c n k.read.is reads in
    both (fits_entry scheme.version root c n)
    (all_fit scheme root c n (round scheme b c P n k.read.names has) (sums scheme root b c P n k.read.names has)
    (fills scheme root b c P n k.read.names k.filled has)) off

-- ---- what is known of a subtree

-- page 0 has another owner
no_head : (size : ℕ) (mine chain others : List ℕ) → OwnsEachOnce size (mine ++ (chain ++ others)) → 0 < count_in 0
    others →
    (q : ℕ) → 0 < count_in q mine → 1 ≤ q
no_head size mine chain others owned head zero some =
    let all = count_in-append 0 mine (chain ++ others) in
    let rest = count_in-append 0 chain others in
    let within = owned_within size 0 (mine ++ (chain ++ others)) owned (omega (arith, some, all)) in
    absurd (omega (arith, some, all, rest, head, owned.each 0 within))
no_head size mine chain others owned head (suc q) some = omega arith

can_read_below : (scheme : Scheme) (root : Bool) (told : Option PageMap) (free : ℕ) (c : Child) →
    KnowsBelow scheme root told free c → CanRead scheme told c
can_read_below scheme root told free c k = record {
  page_map = k.page_map;
  is = k.is;
  placed = k.placed;
  names = k.names;
  inside = λ q some. (
    no_head k.page_map.size (pages_of k.placed) k.chain k.others k.owned k.head q some,
    owned_within k.page_map.size q (pages_of k.placed ++ (k.chain ++ k.others)) k.owned
        (omega (arith, some, count_in-append q (pages_of k.placed) (k.chain ++ k.others))),
  );
}

pub can_look : (scheme : Scheme) (root : Bool) (told : Option PageMap) (free : ℕ) (c : Child) →
    KnowsBelow scheme root told free c → CanLook scheme root told c
unfolding can_read_below
can_look scheme root told free c k = record { read = can_read_below scheme root told free c k; filled = k.filled }
