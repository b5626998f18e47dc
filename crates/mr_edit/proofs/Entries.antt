-- What is said of a node that stands on a page.
use Rattle.std.proofs.Common.{◌≡◌, List, [], ◌∷◌, map, refl, sym, ap, subst, ◌∙◌}
use Rattle.std.specs.Prelude.{Option, Some}
use Rattle.std.specs.Option.{unwrap_or}
use Rattle.mr_geom.specs.Rectangle.{Rectangle}
use Rattle.mr_record.specs.declared.record.Record.{Record}
use Rattle.mr_tree.specs.Digest.{Scheme, entry, entry_step}
use Rattle.mr_tree.specs.declared.entry.Entry.{Entry}
use Rattle.mr_tree.specs.declared.child.Child.{Child}
use Rattle.mr_tree.specs.declared.tree.Tree.TheVariants as tree
use Rattle.mr_tree.specs.declared.tree.Tree.TheOpen as node
use Rattle.mr_tree.proofs.Equations.{entry_rect}
use Rattle.mr_tree.proofs.Folds.{fold-Leaf, fold-Inner}
use Rattle.mr_split.specs.Choice.{origin}
use Rattle.mr_grow.specs.Grow.{outline}
use Rattle.mr_pages.specs.Page.{Link, Node, node_entry}
use Rattle.mr_pages.specs.Stands.{Placed, Row, Leaf, Inner, no_more, first, tree_of, trees_of, link_of, links_of, AreWritten}
use Rattle.mr_pages.specs.Walking.{child_link}
use Rattle.mr_edit.specs.PageMap.{PageMap, HasNode}
use Rattle.mr_edit.specs.Held.{NamesTree, NameTrees, trees}
use Rattle.mr_edit.proofs.Rows.{row_of, parts_of, row_again}
use Rattle.mr_edit.proofs.Zips.{zip_maps, zip_weaker}

-- ---- what is said of a node is said of its tree

pub said_leaf : (scheme : Scheme) (rs : List Record) → node_entry scheme (node.Leaf rs) ≡ entry scheme (tree.Leaf rs)
said_leaf scheme rs = sym (fold-Leaf Entry (entry_step scheme) rs)

entries_are : (scheme : Scheme) (R : Row) → map (λ (l : Link). l.entry) (links_of scheme R) ≡ map (entry scheme)
    (trees_of R)
entries_are scheme no_more = refl
entries_are scheme (first P R) = ap (λ es. entry scheme (tree_of P) ∷ es) (entries_are scheme R)

pub said_inner : (scheme : Scheme) (R : Row) → node_entry scheme (node.Inner (links_of scheme R)) ≡ entry scheme
    (tree.Inner (trees_of R))
said_inner scheme R = ap (λ es. entry_step scheme (node.Inner es)) (entries_are scheme R)
    ∙ sym (fold-Inner Entry (entry_step scheme) (trees_of R))

-- ---- entries and links

pub links_are : (scheme : Scheme) (b : PageMap) (cs : List Child) (Ps : List Placed) → NameTrees scheme b cs Ps →
    map child_link cs ≡ map (link_of scheme) Ps
links_are scheme b cs Ps named = zip_maps child_link (link_of scheme) cs Ps
    (zip_weaker (NamesTree scheme b) (λ c P. child_link c ≡ link_of scheme P) (λ c P n. n.said) cs Ps named)

outline_of : (scheme : Scheme) (c : Child) (P : Placed) → child_link c ≡ link_of scheme P → c.rect ≡ outline (tree_of P)
outline_of scheme c P said = ap (λ (o : Option Rectangle). unwrap_or o origin) (ap (λ (l : Link). l.entry.rect) said
    ∙ entry_rect scheme (tree_of P))

tree_outlines : (Ps : List Placed) → map (λ P. outline (tree_of P)) Ps ≡ map outline (trees Ps)
tree_outlines [] = refl
tree_outlines (P ∷ Ps) = ap (λ rs. outline (tree_of P) ∷ rs) (tree_outlines Ps)

-- the rectangles of entries are the outlines of their trees
pub outlines_are : (scheme : Scheme) (b : PageMap) (cs : List Child) (Ps : List Placed) → NameTrees scheme b cs Ps →
    map (λ (c : Child). c.rect) cs ≡ map outline (trees Ps)
outlines_are scheme b cs Ps named =
    zip_maps (λ (c : Child). c.rect) (λ P. outline (tree_of P)) cs Ps
    (zip_weaker (NamesTree scheme b) (λ c P. c.rect ≡ outline (tree_of P)) (λ c P n. outline_of scheme c P n.said) cs Ps
    named)
    ∙ tree_outlines Ps

-- ---- what a page that was read opens

row_named : (scheme : Scheme) (b : PageMap) (cs : List Child) (R : Row) → map child_link cs ≡ links_of scheme R →
    AreWritten scheme (HasNode b) R → NameTrees scheme b cs (parts_of R)
row_named scheme b [] no_more e w = tt
row_named scheme b (c ∷ cs) no_more e w = absurd (no e)
  where
    no : child_link c ∷ map child_link cs ≡ [] → ⊥
    no h = cc
row_named scheme b [] (first P R) e w = absurd (no e)
  where
    no : [] ≡ link_of scheme P ∷ links_of scheme R → ⊥
    no h = cc
row_named scheme b (c ∷ cs) (first P R) e w =
    let one : child_link c ≡ link_of scheme P = cc in
    let rest : map child_link cs ≡ links_of scheme R = cc in
    (record { said = one; written = w.0 }, row_named scheme b cs R rest w.1)

-- an inner node, over the trees of its entries
pub record Opened (scheme : Scheme) (b : PageMap) (c : Child) (cs : List Child) (P : Placed) : Type 0 where
  pub parts : List Placed
  pub is : P ≡ Inner c.id (row_of parts)
  pub named : NameTrees scheme b cs parts

pub same_node : (o : Option Node) (m n : Node) → o ≡ Some m → o ≡ Some n → m ≡ n
same_node o m n here there = let both : ◌≡◌ {A = Option Node} (Some m) (Some n) = sym here ∙ there in cc

pub opens_inner : (scheme : Scheme) (b : PageMap) (c : Child) (cs : List Child) (P : Placed) → NamesTree scheme b c P →
    HasNode b c.id (node.Inner (map child_link cs)) → Opened scheme b c cs P
opens_inner scheme b c cs (Leaf p rs) names has =
    let at : c.id ≡ p = ap (λ (l : Link). l.page) names.said in
    absurd (no (same_node (b.content p).node (node.Leaf rs) (node.Inner (map child_link cs)) names.written
    (subst (λ q. HasNode b q (node.Inner (map child_link cs))) at has)))
  where
    no : ◌≡◌ {A = Node} (node.Leaf rs) (node.Inner (map child_link cs)) → ⊥
    no h = cc
opens_inner scheme b c cs (Inner p R) names has =
    let at : c.id ≡ p = ap (λ (l : Link). l.page) names.said in
    let both : ◌≡◌ {A = Node} (node.Inner (links_of scheme R)) (node.Inner (map child_link cs)) =
    same_node (b.content p).node _ _ names.written.0
    (subst (λ q. HasNode b q (node.Inner (map child_link cs))) at has) in
    let links : map child_link cs ≡ links_of scheme R = cc in
    record {
      parts = parts_of R;
      is = λ i. Inner (sym at i) (sym (row_again R) i);
      named =
          row_named scheme b cs R links names.written.1;
    }

-- a leaf
pub opens_leaf : (scheme : Scheme) (b : PageMap) (c : Child) (rs : List Record) (P : Placed) → NamesTree scheme b c P →
    HasNode b c.id (node.Leaf rs) → P ≡ Leaf c.id rs
opens_leaf scheme b c rs (Inner p R) names has =
    let at : c.id ≡ p = ap (λ (l : Link). l.page) names.said in
    absurd (no (same_node (b.content p).node (node.Inner (links_of scheme R)) (node.Leaf rs) names.written.0
    (subst (λ q. HasNode b q (node.Leaf rs)) at has)))
  where
    no : ◌≡◌ {A = Node} (node.Inner (links_of scheme R)) (node.Leaf rs) → ⊥
    no h = cc
opens_leaf scheme b c rs (Leaf p us) names has =
    let at : c.id ≡ p = ap (λ (l : Link). l.page) names.said in
    let both : ◌≡◌ {A = Node} (node.Leaf us) (node.Leaf rs) =
    same_node (b.content p).node _ _ names.written (subst (λ q. HasNode b q (node.Leaf rs)) at has) in
    let same : us ≡ rs = cc in
    λ i. Leaf (sym at i) (same i)

-- and back
pub named_row : (scheme : Scheme) (b : PageMap) (cs : List Child) (Ps : List Placed) → NameTrees scheme b cs Ps →
    AreWritten scheme (HasNode b) (row_of Ps)
named_row scheme b [] [] named = tt
named_row scheme b [] (P ∷ Ps) named = absurd named
named_row scheme b (c ∷ cs) [] named = absurd named
named_row scheme b (c ∷ cs) (P ∷ Ps) named = (named.0.written, named_row scheme b cs Ps named.1)
