-- One more entry of a level.
use Rattle.std.proofs.Common.{◌≡◌, ℕ, suc, ◌+◌, List, [], ◌∷◌, ◌++◌, length, map, refl, sym, ap, ◌∙◌, arith}
use Rattle.std.specs.Prelude.{Option, Some, None}
use Rattle.std.proofs.lemmas.List.{map_push, length-map}
use Rattle.std.proofs.lemmas.Simd.{map-map}
use Rattle.mr_geom.specs.Rectangle.{Rectangle}
use Rattle.mr_tree.specs.Tree.{rect}
use Rattle.mr_tree.specs.declared.tree.Tree.{Tree}
use Rattle.mr_pack.specs.Entries.{placed_item}
use Rattle.mr_pack.specs.Pack.{placed_nodes}
use Rattle.mr_pack.specs.private.Views.{with_item}
use Rattle.mr_pack.specs.declared.placed.Placed.{Placed}

node_entries_more : (i : ℕ) (ts : List Tree) (t : Tree) →
    placed_nodes i (ts ++ t ∷ []) ≡ placed_nodes i ts ++ placed_item (rect t) (i + length ts) t ∷ []
node_entries_more i [] t = let e : i ≡ i + 0 = omega arith in ap (λ n. placed_item (rect t) n t ∷ []) e
node_entries_more i (u ∷ us) t =
    let e : (i + 1) + length us ≡ i + suc (length us) = omega arith in
    ap (λ es. placed_item (rect u) i u ∷ es)
    (node_entries_more (i + 1) us t ∙ ap (λ n. placed_nodes (i + 1) us ++ placed_item (rect t) n t ∷ []) e)

pub item_of_entry : {S T : Type 0} (f : S → T) (r : Option Rectangle) (tie : ℕ) (x : S) →
    with_item f (placed_item r tie x) ≡ placed_item r tie (f x)
item_of_entry f None tie x = refl
item_of_entry f (Some r) tie x = refl

-- the next node of a level
pub one_more_entry : {S : Type 0} (f : S → Tree) (entries now : List (Placed S)) (nodes : List S) (node : S)
    (one : Placed S) (bounds : Option Rectangle) (position : ℕ) →
    now ≡ entries ++ one ∷ [] → one ≡ placed_item bounds position node → rect (f node) ≡ bounds → position ≡ length
    nodes →
    map (with_item f) entries ≡ placed_nodes 0 (map f nodes) →
    map (with_item f) now ≡ placed_nodes 0 (map f (nodes ++ node ∷ []))
one_more_entry f entries now nodes node one bounds position is here round at so_far =
    let e : position ≡ 0 + length (map f nodes) = omega (arith, at, length-map nodes f) in
    ap (map (with_item f)) is
    ∙ map_push (with_item f) entries one
    ∙ (λ i. so_far i ++ (ap (with_item f) here ∙ item_of_entry f bounds position node) i ∷ [])
    ∙ (λ i. placed_nodes 0 (map f nodes) ++ placed_item (sym round i) (e i) (f node) ∷ [])
    ∙ sym (node_entries_more 0 (map f nodes) (f node))
    ∙ ap (placed_nodes 0) (sym (map_push f nodes node))

-- what nodes of the groups so far stand for, and that of one more
pub one_more_node : {S X : Type 0} (f : S → Tree) (g : X → Tree) (nodes now : List S) (one : S) (groups : List X)
    (group : X) →
    map f nodes ≡ map g groups → now ≡ nodes ++ one ∷ [] → f one ≡ g group →
    map f now ≡ map g (groups ++ group ∷ [])
one_more_node f g nodes now one groups group so_far is here =
    ap (map f) is ∙ map_push f nodes one ∙ (λ i. so_far i ++ here i ∷ []) ∙ sym (map_push g groups group)

-- a node over each group, as what the groups hold
pub over_groups : {X Y B : Type 0} (over : List Y → Tree) (f : X → Y) (items : B → List X) (groups : List B) →
    map (λ g. over (map f (items g))) groups ≡ map over (map (map f) (map items groups))
over_groups over f items groups =
    sym (map-map over (λ g. map f (items g)) groups) ∙ ap (map over) (sym (map-map (map f) items groups))
