-- How many nodes a tree has, and room for those that an insertion adds.
use Rattle.std.proofs.Common.{◌≡◌, ◌≢◌, Bool, true, false, ℕ, suc, ◌+◌, ◌*◌, ◌<◌, ◌≤◌, List, [], ◌∷◌, ◌++◌, length, map, take, drop, get_or, refl, sym, ap, subst, ◌∙◌, arith}
use Rattle.std.specs.Prelude.{sum, nat_lt, if◌then◌else◌}
use Rattle.std.specs.List.{flat_map, AllByRecursion}
use Rattle.std.proofs.lemmas.List.{length-append}
use Rattle.std.proofs.lemmas.List.Elements.{recursion_from_All}
use Rattle.std.proofs.lemmas.List.Sums.{sum_by-cons}
use Rattle.mr_record.specs.declared.record.Record.{Record}
use Rattle.mr_tree.specs.Tree.{records, level, nodes, nodes_step, first_level}
use Rattle.mr_tree.specs.WellFormed.{HasOneLevel, IsFilled, IsFilledRoot}
use Rattle.mr_tree.specs.declared.tree.Tree.{Tree}
use Rattle.mr_tree.specs.declared.tree.Tree.TheVariants as tree
use Rattle.mr_tree.specs.declared.tree.Tree.TheFolds.{every-Tree}
use Rattle.mr_tree.proofs.Equations.{records-Leaf}
use Rattle.mr_tree.proofs.Folds.{fold-Empty, fold-Leaf, fold-Inner}
use Rattle.mr_tree.proofs.Induction.{tree_induction, here-Leaf, here-Inner, every_child}
use Rattle.mr_split.specs.Choice.{choose}
use Rattle.mr_split.specs.Split.{sides}
use Rattle.mr_grow.specs.Grow.{outline, grown, root_over, leaves_over, nodes_over}
use Rattle.mr_grow.specs.Parts.{first_part, second_part}
use Rattle.mr_grow.specs.Views.{IsRooted}
use Rattle.mr_grow.proofs.Kept.{records_below}
use Rattle.mr_pages.specs.Stands.{Placed}
use Rattle.mr_edit.specs.Held.{trees, pages}
use Rattle.mr_edit.proofs.Counts.{pages_each}
use Rattle.mr_edit.proofs.Descending.{grown_at}
use Rattle.mr_edit.proofs.Rows.{row_of, row_trees, row_pages}

-- ---- of some trees

abbrev pub all_nodes : List Tree → ℕ
all_nodes ts = sum (map nodes ts)

nodes_cons : (t : Tree) (ts : List Tree) → all_nodes (t ∷ ts) ≡ nodes t + all_nodes ts
nodes_cons t ts = sum_by-cons (λ (k : ℕ). k) (nodes t) (map nodes ts)

nodes_append : (ts us : List Tree) → all_nodes (ts ++ us) ≡ all_nodes ts + all_nodes us
nodes_append [] us = omega arith
nodes_append (t ∷ ts) us = omega (arith, nodes_cons t (ts ++ us), nodes_cons t ts, nodes_append ts us)

-- one for each page
pub nodes_pages : (Ps : List Placed) → length (pages Ps) ≡ all_nodes (trees Ps)
nodes_pages Ps = ap length (sym (row_pages Ps)) ∙ pages_each (row_of Ps) ∙ ap all_nodes (row_trees Ps)

nodes-Inner : (ts : List Tree) → nodes (tree.Inner ts) ≡ suc (all_nodes ts)
nodes-Inner ts = omega (arith, fold-Inner ℕ nodes_step ts)

parts_nodes : (bs : List Bool) (ts : List Tree) → all_nodes (first_part bs ts) + all_nodes (second_part bs ts)
    ≡ all_nodes ts
parts_nodes [] ts = omega arith
parts_nodes (b ∷ bs) [] = refl
parts_nodes (true ∷ bs) (t ∷ ts) = omega (
  arith,
  parts_nodes bs ts,
  nodes_cons t ts,
  nodes_cons t (second_part bs ts),
)
parts_nodes (false ∷ bs) (t ∷ ts) = omega (
  arith,
  parts_nodes bs ts,
  nodes_cons t ts,
  nodes_cons t (first_part bs ts),
)

-- ---- over an insertion

pub some_leaf : (rs : List Record) → 1 ≤ all_nodes (leaves_over rs)
some_leaf rs = at (nat_lt 16 (length rs))
  where
    bs : List Bool
    bs = sides (map (λ (r : Record). r.rect) rs) 6

    at : (b : Bool) → 1 ≤ all_nodes (map (λ group. tree.Leaf group)
        (if b then first_part (sides (map (λ (r : Record). r.rect) rs) 6) rs ∷ second_part
        (sides (map (λ (r : Record). r.rect) rs) 6) rs ∷ [] else rs ∷ []))
    at true = omega (
      arith,
      nodes_cons (tree.Leaf (first_part (sides (map (λ (r : Record). r.rect) rs) 6) rs))
          (tree.Leaf (second_part (sides (map (λ (r : Record). r.rect) rs) 6) rs) ∷ []),
      fold-Leaf ℕ nodes_step (first_part (sides (map (λ (r : Record). r.rect) rs) 6) rs),
    )
    at false = omega (arith, nodes_cons (tree.Leaf rs) [], fold-Leaf ℕ nodes_step rs)

pub nodes_room : (ts : List Tree) → suc (all_nodes ts) ≤ all_nodes (nodes_over ts)
nodes_room ts = at (nat_lt 64 (length ts)) (sides (map outline ts) 24)
  where
    at : (b : Bool) (bs : List Bool) → suc (all_nodes ts) ≤ all_nodes (map (λ group. tree.Inner group)
        (if b then first_part bs ts ∷ second_part bs ts ∷ [] else ts ∷ []))
    at true bs = omega (
      arith,
      nodes_cons (tree.Inner (first_part bs ts)) (tree.Inner (second_part bs ts) ∷ []),
      nodes_cons (tree.Inner (second_part bs ts)) [],
      nodes-Inner (first_part bs ts),
      nodes-Inner (second_part bs ts),
      parts_nodes bs ts,
    )
    at false bs = omega (arith, nodes_cons (tree.Inner ts) [], nodes-Inner ts)

-- below a child there is room for what goes in there
pub child_room : (one : Record) (ts : List Tree) (at : ℕ) (t : Tree) → at < length ts → t ≡ get_or ts at t →
    at ≡ choose (map outline ts) one.rect →
    suc (all_nodes (take at ts) + (all_nodes (grown one t) + all_nodes (drop (suc at) ts)))
    ≤ all_nodes (grown one (tree.Inner ts))
child_room one ts at t within there chosen =
    let new = take at ts ++ (grown one t ++ drop (suc at) ts) in
    omega (
      arith,
      nodes_room new,
      ap all_nodes (grown_at one ts at t within there chosen),
      nodes_append (take at ts) (grown one t ++ drop (suc at) ts),
      nodes_append (grown one t) (drop (suc at) ts),
    )

-- ---- of a tree, by its records

few_each : (ts : List Tree) → AllByRecursion (λ t. 5 * nodes t + 1 ≤ length (records t)) ts →
    5 * all_nodes ts + length ts ≤ length (flat_map records ts)
few_each [] all = omega arith
few_each (t ∷ ts) all =
    omega (arith, all.0, few_each ts all.1, nodes_cons t ts, length-append (records t) (flat_map records ts))

abbrev IsSlim : Tree → Type 0
IsSlim t = t ≢ tree.Empty → every-Tree HasOneLevel t → every-Tree IsFilled t → 5 * nodes t + 1 ≤ length (records t)

slim_each : (ts : List Tree) (k : ℕ) → AllByRecursion IsSlim ts → AllByRecursion (every-Tree HasOneLevel) ts →
    AllByRecursion (every-Tree IsFilled) ts → AllByRecursion (λ t. (t ≢ tree.Empty) × (level t ≡ k)) ts →
    AllByRecursion (λ t. 5 * nodes t + 1 ≤ length (records t)) ts
slim_each [] k all levels fills there = tt
slim_each (t ∷ ts) k all levels fills there = (
  all.0 there.0.0 levels.0 fills.0,
  slim_each ts k all.1 levels.1 fills.1 there.1,
)

few_below : (ts : List Tree) → AllByRecursion IsSlim ts → every-Tree HasOneLevel (tree.Inner ts) →
    AllByRecursion (every-Tree IsFilled) ts → 5 * all_nodes ts + length ts ≤ length (records (tree.Inner ts))
few_below ts all levels fills =
    let each = few_each ts (slim_each ts (first_level (map level ts)) all (every_child HasOneLevel ts levels) fills
    (recursion_from_All (λ t. (t ≢ tree.Empty) × (level t ≡ first_level (map level ts))) ts
    (here-Inner HasOneLevel ts levels))) in
    omega (arith, each, ap length (records_below ts))

-- a node below the root has five records at least for each node in it
slim : (t : Tree) → IsSlim t
slim = tree_induction IsSlim
    (λ there levels filled. absurd (there refl))
    (λ rs there levels filled. omega (
      arith,
      fold-Leaf ℕ nodes_step rs,
      (here-Leaf IsFilled rs filled).0,
      ap length (records-Leaf rs),
    ))
    (λ ts all there levels filled. omega (
      arith,
      nodes-Inner ts,
      (here-Inner IsFilled ts filled).0,
      few_below ts all levels (every_child IsFilled ts filled),
    ))

each_slim : (ts : List Tree) → AllByRecursion IsSlim ts
each_slim [] = tt
each_slim (t ∷ ts) = (slim t, each_slim ts)

abbrev HasFew : Tree → Type 0
HasFew t = IsRooted t → 5 * nodes t ≤ length (records t) + 4

pub few_nodes : (t : Tree) → HasFew t
few_nodes = tree_induction HasFew
    (λ r. omega (arith, fold-Empty ℕ nodes_step))
    (λ rs r. omega (
      arith,
      fold-Leaf ℕ nodes_step rs,
      (subst IsFilledRoot (tree.outs-Leaf rs) r.filled).0,
      ap length (records-Leaf rs),
    ))
    (λ ts all r.
    let f = subst IsFilledRoot (tree.outs-Inner ts) r.filled in
    omega (
      arith,
      nodes-Inner ts,
      f.0,
      few_below ts (each_slim ts) r.one_level (recursion_from_All (every-Tree IsFilled) ts f.2),
    ))

-- a root has one node more at most
pub root_nodes : (ts : List Tree) → all_nodes ts ≤ nodes (root_over ts)
root_nodes [] = omega arith
root_nodes (t ∷ []) = omega (arith, nodes_cons t [])
root_nodes (t ∷ u ∷ ts) = omega (arith, nodes-Inner (t ∷ u ∷ ts))
