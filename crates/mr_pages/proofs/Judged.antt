-- A node that a view shows, and what is judged of it.
use Rattle.std.proofs.Common.{◌≡◌, ◌+◌, ◌≤◌, List, [], ◌∷◌, map, refl, sym, ap, ◌∙◌, arith}
use Rattle.mr_tree.specs.declared.entry.Entry.{Entry}
use Rattle.std.specs.Prelude.{Option, Some, None, IsSome, fold}
use Rattle.mr_geom.specs.Rectangle.{Rectangle, union, join}
use Rattle.mr_record.specs.declared.record.Record.{Record}
use Rattle.mr_tree.specs.Digest.{Scheme, entry_step}
use Rattle.mr_tree.specs.View as view
use Rattle.mr_tree.specs.declared.child.Child.{Child}
use Rattle.mr_tree.specs.declared.tree.Tree.TheOpen.{Empty, Leaf, Inner}
use Rattle.mr_tree.specs.Tree.{first_level}
use Rattle.mr_pages.specs.Page.{Link, level_of, node_entry}
use Rattle.mr_pages.specs.Walking.{child_link, page_node}

entries : (cs : List Child) → map (λ (l : Link). l.entry) (map child_link cs) ≡ map view.child_entry cs
entries [] = refl
entries (c ∷ cs) = ap (λ es. view.child_entry c ∷ es) (entries cs)

-- what is to be said of it
pub entry_same : (hash : Scheme) (n : view.Node) → view.entry_over hash n ≡ node_entry hash (page_node n)
entry_same hash Empty = refl
entry_same hash (Leaf rs) = refl
entry_same hash (Inner cs) = ap (λ es. entry_step hash (Inner es)) (sym (entries cs))

levels : (cs : List Child) → map (λ (c : Child). c.level) cs ≡ map (λ (l : Link). l.entry.level) (map child_link cs)
levels [] = refl
levels (c ∷ cs) = ap (λ ns. c.level ∷ ns) (levels cs)

-- its level
pub level_same : (n : view.Node) → view.level_of n ≡ level_of (page_node n)
level_same Empty = refl
level_same (Leaf rs) = refl
level_same (Inner cs) = ap (λ ns. first_level ns + 1) (levels cs)

joined_there : (a : Rectangle) (xs : List (Option Rectangle)) → fold join (Some a) xs ≡ None → ⊥
joined_there a [] e = cc
joined_there a (None ∷ xs) e = joined_there a xs e
joined_there a (Some b ∷ xs) e = joined_there (union a b) xs e

-- a node with an entry has a rectangle
pub rect_there : (hash : Scheme) (n : view.Node) → 1 ≤ view.size n →
    (node_entry hash (page_node n)).rect ≡ None → ⊥
rect_there hash Empty some e = omega (arith, some)
rect_there hash (Leaf []) some e = omega (arith, some)
rect_there hash (Leaf (r ∷ rs)) some e = joined_there r.rect (map (λ (x : Record). Some x.rect) rs) e
rect_there hash (Inner []) some e = omega (arith, some)
rect_there hash (Inner (c ∷ cs)) some e =
    joined_there c.rect (map (λ (x : Entry). x.rect) (map (λ (l : Link). l.entry) (map child_link cs))) e

-- so has what is said of it
pub rect_some : (hash : Scheme) (n : view.Node) (said : Entry) → 1 ≤ view.size n →
    said ≡ node_entry hash (page_node n) → IsSome said.rect
rect_some hash n said some is = at said.rect refl
  where
    at : (r : Option Rectangle) → said.rect ≡ r → IsSome r
    at None none = absurd (rect_there hash n some (sym (ap (λ (e : Entry). e.rect) is) ∙ none))
    at (Some r) there = refl
