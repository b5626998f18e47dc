-- Insertion (Guttman 1984): what stands in the place of a subtree after a record was put into it,
-- one node, or two where it was split.
use Rattle.std.specs.Prelude.{ℕ, zero, suc, nat_lt, if◌then◌else◌, List, [], ◌∷◌, ◌++◌, map, length}
use Rattle.std.specs.Option.{unwrap_or}
use Rattle.mr_geom.specs.Rectangle.{Rectangle}
use Rattle.mr_record.specs.declared.record.Record.{Record}
use Rattle.mr_tree.specs.Limits.{leaf_limit, leaf_fill, inner_limit, inner_fill}
use Rattle.mr_tree.specs.Tree.{rect}
use Rattle.mr_tree.specs.declared.tree.Tree.{Tree}
use Rattle.mr_tree.specs.declared.tree.Tree.TheVariants as tree
use Rattle.mr_tree.specs.declared.tree.Tree.TheOpen.{Tree-F, Empty, Leaf, Inner}
use Rattle.mr_tree.specs.declared.tree.Tree.TheFolds.{para-Tree}
use Rattle.mr_split.specs.Choice.{origin, choose}
use Rattle.mr_split.specs.Split.{sides}
use Rattle.mr_grow.specs.Parts.{first_part, second_part}

-- the rectangle of a node; a node without records, which no tree of a map has, stands at the origin
abbrev pub outline : Tree → Rectangle
outline t = unwrap_or (rect t) origin

-- a list that is too long is split in two
abbrev pub parted : {X : Type 0} → (least most : ℕ) → List Rectangle → List X → List (List X)
parted least most rects xs =
    if nat_lt most (length xs)
    then first_part (sides rects least) xs ∷ second_part (sides rects least) xs ∷ []
    else xs ∷ []

-- the leaves of some records
abbrev pub leaves_over : List Record → List Tree
leaves_over rs =
    map (λ group. tree.Leaf group)
    (parted leaf_fill leaf_limit (map (λ (r : Record). r.rect) rs) rs)

-- the inner nodes over some nodes
abbrev pub nodes_over : List Tree → List Tree
nodes_over ts =
    map (λ group. tree.Inner group) (parted inner_fill inner_limit (map outline ts) ts)

-- the item at this position gives way to what stands beside it
abbrev pub in_place : {X : Type 0} → ℕ → List (X × List X) → List X
in_place n [] = []
in_place zero (c ∷ cs) = c.1 ++ map (λ d. d.0) cs
in_place (suc n) (c ∷ cs) = c.0 ∷ in_place n cs

-- what stands in a node's place, from its children and what would stand in the place of each
abbrev pub grown_step : Record → Tree-F (Tree × List Tree) → List Tree
grown_step one Empty = tree.Leaf (one ∷ []) ∷ []
grown_step one (Leaf records) = leaves_over (records ++ one ∷ [])
grown_step one (Inner children) =
    nodes_over (in_place (choose (map (λ c. outline c.0) children) one.rect) children)

abbrev pub grown : Record → Tree → List Tree
grown one = para-Tree (List Tree) (grown_step one)

-- a root above what stands in the root's place
abbrev pub root_over : List Tree → Tree
root_over [] = tree.Empty
root_over (t ∷ []) = t
root_over (t ∷ u ∷ ts) = tree.Inner (t ∷ u ∷ ts)

-- the tree after an insertion
abbrev pub ins : Record → Tree → Tree
ins one t = root_over (grown one t)
