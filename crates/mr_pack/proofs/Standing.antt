-- The tree that bulk load makes is well formed, and has the records that it was made of.
use Rattle.std.proofs.Common.{◌≡◌, ◌≢◌, ℕ, suc, zero, ◌+◌, ◌*◌, ◌^◌, ◌<◌, ◌≤◌, List, [], ◌∷◌, length, map, refl, sym, ap, subst, ◌∙◌, arith}
use Rattle.std.specs.Prelude.{All, Option, Some, None}
use Rattle.mr_geom.specs.Rectangle.{Rectangle}
use Rattle.std.proofs.lemmas.List.{length-map, nil_from_length}
use Rattle.std.proofs.lemmas.List.Elements.{recursion_from_All, All-head, All-map, All-weaker}
use Rattle.mr_record.specs.declared.record.Record.{Record}
use Rattle.mr_tree.specs.Tree.{level, first_level, rect}
use Rattle.mr_tree.specs.WellFormed.{HasOneLevel, IsFilled, IsFilledRoot}
use Rattle.mr_tree.specs.declared.tree.Tree.{Tree}
use Rattle.mr_tree.specs.declared.tree.Tree.TheVariants as tree
use Rattle.mr_tree.specs.declared.tree.Tree.TheOpen.{Tree-F, Empty, Leaf}
use Rattle.mr_tree.specs.declared.tree.Tree.TheViews.{out-Tree}
use Rattle.mr_tree.specs.declared.tree.Tree.TheFolds.{every-Tree}
use Rattle.mr_tree.proofs.Filled.{inner_not_empty}
use Rattle.mr_tree.proofs.Equations.{level-Inner, level-Leaf, level-Empty}
use Rattle.mr_tree.proofs.Induction.{every-Empty, every-Leaf, every-Inner}
use Rattle.mr_pack.specs.Cuts.{group_count}
use Rattle.mr_pack.specs.HalfFull.{IsHalfFull, AreChildrenHalfFull, IsHalfFullBelow}
use Rattle.mr_pack.specs.Entries.{in_groups, grouped, placed_item}
use Rattle.mr_tree.specs.Limits.{leaf_limit, inner_limit}
use Rattle.mr_pack.specs.Pack.{placed_record, placed_nodes, leaves_of, level_above, root_above, pack}
use Rattle.mr_pack.proofs.Groups.{IsGroup, all_groups, items}
use Rattle.mr_pack.proofs.Numbers.{groups_hold, groups_within, groups_needed, some_groups, groups_few}
use Rattle.mr_pack.proofs.Roots.{length_of_node_entries, length_above, leaves_are, root_of_none, root_of_one, root_of_more, fewer_above}

-- a node of level n, one of p nodes of that level
pub record Stands (n p : ℕ) (t : Tree) : Type 0 where
  pub here : level t ≡ n
  pub there : t ≢ tree.Empty
  pub one_level : every-Tree HasOneLevel t
  pub filled : 1 < p → every-Tree IsFilled t
  pub half : 1 < p → every-Tree IsHalfFull t
  pub root : IsFilledRoot (out-Tree t)
  pub below : IsHalfFullBelow t

leaf_there : (rs : List Record) → tree.Leaf rs ≢ tree.Empty
leaf_there rs e =
    let opened : ◌≡◌ {A = Tree-F Tree} (Leaf rs) Empty = sym (tree.outs-Leaf rs) ∙ ap out-Tree e ∙ tree.outs-Empty in cc

leaf_stands : (p : ℕ) (rs : List Record) → IsGroup (λ r. Unit {0}) p 1 8 16 rs → Stands 0 p (tree.Leaf rs)
leaf_stands p rs g = record {
  here = level-Leaf rs;
  there = leaf_there rs;
  one_level = every-Leaf HasOneLevel rs tt;
  filled = λ many. every-Leaf IsFilled rs (omega (arith, g.half_full many), g.at_most);
  half = λ many. every-Leaf IsHalfFull rs (g.half_full many);
  root = subst IsFilledRoot (sym (tree.outs-Leaf rs)) (g.at_least, g.at_most);
  below = subst AreChildrenHalfFull (sym (tree.outs-Leaf rs)) tt;
}

level_of_first : (n q : ℕ) (ts : List Tree) → 0 < length ts → All (Stands n q) ts → first_level (map level ts) ≡ n
level_of_first n q [] some all = absurd (omega (arith, some))
level_of_first n q (t ∷ ts) some all = (All-head (Stands n q) t ts all).here

inner_stands : (n p q : ℕ) (ts : List Tree) → 1 < q → IsGroup (Stands n q) p 2 32 64 ts →
    Stands (n + 1) p (tree.Inner ts)
inner_stands n p q ts many g =
    let first = level_of_first n q ts (omega (arith, g.at_least)) g.each in
    record {
      here = level-Inner ts ∙ ap (λ m. m + 1) first;
      there = inner_not_empty ts;
      one_level = every-Inner HasOneLevel ts
          (recursion_from_All (every-Tree HasOneLevel) ts (λ k d within. (g.each k d within).one_level))
          (λ k d within. ((g.each k d within).there, (g.each k d within).here ∙ sym first));
      filled = λ more. every-Inner IsFilled ts
          (recursion_from_All (every-Tree IsFilled) ts (λ k d within. (g.each k d within).filled many))
          (omega (arith, g.half_full more), g.at_most);
      half =
          λ more. every-Inner IsHalfFull ts
          (recursion_from_All (every-Tree IsHalfFull) ts (λ k d within. (g.each k d within).half many))
          (g.half_full more);
      root =
          subst IsFilledRoot (sym (tree.outs-Inner ts))
          (g.at_least, g.at_most, λ k d within. (g.each k d within).filled many);
      below = subst AreChildrenHalfFull (sym (tree.outs-Inner ts)) (λ k d within. (g.each k d within).half many);
    }

-- ---- how full groups are

leaves_half : (n : ℕ) → 1 < group_count n 16 → 8 * group_count n 16 ≤ n
leaves_half n many = half (group_count n 16) n many (groups_needed n 16)
  where
    half : (p n : ℕ) → 1 < p → ((k : ℕ) → k < p → k * 16 < n) → 8 * p ≤ n
    half zero n many needed = omega (arith, many)
    half (suc p) n many needed = omega (arith, needed p (omega arith), many)

inner_half : (n : ℕ) → 1 < group_count n 64 → 32 * group_count n 64 ≤ n
inner_half n many = half (group_count n 64) n many (groups_needed n 64)
  where
    half : (p n : ℕ) → 1 < p → ((k : ℕ) → k < p → k * 64 < n) → 32 * p ≤ n
    half zero n many needed = omega (arith, many)
    half (suc p) n many needed = omega (arith, needed p (omega arith), many)

inner_two : (n : ℕ) → 1 < n → 2 * group_count n 64 ≤ n
inner_two n some = two (group_count n 64) n some (inner_half n)
  where
    two : (p n : ℕ) → 1 < n → (1 < p → 32 * p ≤ n) → 2 * p ≤ n
    two zero n some half = omega arith
    two (suc zero) n some half = omega (arith, some)
    two (suc (suc p)) n some half = omega (arith, half (omega arith))

-- ---- leaves

pub leaves_stand : (rs : List Record) → 0 < length rs → All (Stands 0 (length (leaves_of rs))) (leaves_of rs)
unfolding leaves_of
leaves_stand rs some =
    subst (λ p. All (Stands 0 p) (leaves_of rs)) (sym (leaves_are rs)) (stand (group_count (length rs) 16) refl)
  where
    size : length (map placed_record rs) ≡ length rs
    size = length-map rs placed_record

    stand : (p : ℕ) → p ≡ group_count (length rs) 16 → All (Stands 0 p) (leaves_of rs)
    stand p is =
        let n : group_count (length (map placed_record rs)) 16 ≡ p = ap (λ k. group_count k 16) size ∙ sym is in
        let groups : All (IsGroup (λ (r : Record). Unit {0}) p 1 8 16) (in_groups p (map placed_record rs)) =
        all_groups (λ (r : Record). Unit {0}) p 1 8 16 (map placed_record rs)
        (subst (λ q. 0 < q) (sym is) (some_groups (length rs) 16 (omega arith) some))
        (λ k d within. tt)
        (omega (arith, is, size, groups_within (length rs) 16))
        (λ many. omega (arith, is, size, leaves_half (length rs) (omega (arith, is, many))))
        (omega (arith, is, size, groups_hold (length rs) 16 (omega arith))) in
        All-map (Stands 0 p) (λ gs. tree.Leaf gs) (grouped leaf_limit (map placed_record rs))
        (All-weaker (IsGroup (λ (r : Record). Unit {0}) p 1 8 16) (λ gs. Stands 0 p (tree.Leaf gs)) (leaf_stands p)
        (grouped leaf_limit (map placed_record rs))
        (subst (λ q. All (IsGroup (λ (r : Record). Unit {0}) p 1 8 16) (in_groups q (map placed_record rs))) (sym n)
        groups))

-- ---- the level above

pub items_of_nodes : (i : ℕ) (ts : List Tree) → items (placed_nodes i ts) ≡ ts
items_of_nodes i [] = refl
items_of_nodes i (t ∷ ts) = λ k. item_is (rect t) i t k ∷ items_of_nodes (i + 1) ts k
  where
    item_is : (r : Option Rectangle) (tie : ℕ) (u : Tree) → (placed_item r tie u).item ≡ u
    item_is None tie u = refl
    item_is (Some r) tie u = refl

pub level_stands : (n : ℕ) (ts : List Tree) → 1 < length ts → All (Stands n (length ts)) ts →
    All (Stands (n + 1) (length (level_above ts))) (level_above ts)
unfolding level_above
level_stands n ts some all =
    subst (λ p. All (Stands (n + 1) p) (level_above ts)) (sym (length_above ts))
    (stand (group_count (length ts) 64) refl)
  where
    size : length (placed_nodes 0 ts) ≡ length ts
    size = length_of_node_entries 0 ts

    stand : (p : ℕ) → p ≡ group_count (length ts) 64 → All (Stands (n + 1) p) (level_above ts)
    stand p is =
        let m : group_count (length (placed_nodes 0 ts)) 64 ≡ p = ap (λ k. group_count k 64) size ∙ sym is in
        let groups : All (IsGroup (Stands n (length ts)) p 2 32 64) (in_groups p (placed_nodes 0 ts)) =
        all_groups (Stands n (length ts)) p 2 32 64 (placed_nodes 0 ts)
        (subst (λ q. 0 < q) (sym is) (some_groups (length ts) 64 (omega arith) (omega (arith, some))))
        (subst (All (Stands n (length ts))) (sym (items_of_nodes 0 ts)) all)
        (omega (arith, is, size, inner_two (length ts) some))
        (λ many. omega (arith, is, size, inner_half (length ts) (omega (arith, is, many))))
        (omega (arith, is, size, groups_hold (length ts) 64 (omega arith))) in
        All-map (Stands (n + 1) p) (λ gs. tree.Inner gs) (grouped inner_limit (placed_nodes 0 ts))
        (All-weaker (IsGroup (Stands n (length ts)) p 2 32 64) (λ gs. Stands (n + 1) p (tree.Inner gs))
        (λ gs. inner_stands n p (length ts) gs some) (grouped inner_limit (placed_nodes 0 ts))
        (subst (λ q. All (IsGroup (Stands n (length ts)) p 2 32 64) (in_groups q (placed_nodes 0 ts))) (sym m) groups))

-- ---- the root

-- how many nodes a level has that is at most k levels below the root
abbrev widest : ℕ → ℕ
widest zero = 1
widest (suc k) = widest k * 64

pub record IsRoot (high : ℕ) (t : Tree) : Type 0 where
  pub one_level : every-Tree HasOneLevel t
  pub shallow : level t ≤ high
  pub filled : IsFilledRoot (out-Tree t)
  pub below : IsHalfFullBelow t

empty_root : (high : ℕ) → IsRoot high tree.Empty
empty_root high = record {
  one_level = every-Empty HasOneLevel tt;
  shallow = omega (arith, level-Empty);
  filled = subst IsFilledRoot (sym tree.outs-Empty) tt;
  below = subst AreChildrenHalfFull (sym tree.outs-Empty) tt;
}

root_stands : (m k n : ℕ) (ts : List Tree) → All (Stands n (length ts)) ts → length ts ≤ m → length ts ≤ widest k →
    IsRoot (n + k) (root_above m ts)
root_stands m k n [] all enough few = subst (IsRoot (n + k)) (sym (root_of_none m)) (empty_root (n + k))
root_stands m k n (t ∷ []) all enough few =
    let s = All-head (Stands n 1) t [] all in
    subst (IsRoot (n + k)) (sym (root_of_one m t))
    (record { one_level = s.one_level; shallow = omega (arith, s.here); filled = s.root; below = s.below })
root_stands zero k n (t ∷ u ∷ ts) all enough few = absurd (omega (arith, enough))
root_stands (suc m) zero n (t ∷ u ∷ ts) all enough few = absurd (omega (arith, few))
root_stands (suc m) (suc k) n (t ∷ u ∷ ts) all enough few =
    let us = t ∷ u ∷ ts in
    let some : 1 < length us = omega arith in
    let e : (n + 1) + k ≡ n + suc k = omega arith in
    subst (λ high. IsRoot high (root_above (suc m) us)) e
    (subst (IsRoot ((n + 1) + k)) (sym (root_of_more m t u ts))
    (root_stands m k (n + 1) (level_above us) (level_stands n us some all)
    (omega (arith, fewer_above us some, enough))
    (omega (arith, length_above us, groups_few (length us) 64 (widest k) few))))

pub tree_stands : (rs : List Record) → length rs ≤ 2 ^ 20 → IsRoot 7 (pack rs)
unfolding pack
tree_stands [] few =
    let none : length (leaves_of []) ≡ 0 = omega (arith, leaves_are [], groups_within 0 16) in
    subst (λ ts. IsRoot 7 (root_above (length ts) ts)) (sym (nil_from_length (leaves_of []) none))
    (subst (IsRoot 7) (sym (root_of_none 0)) (empty_root 7))
tree_stands (r ∷ rs) few =
    let low : length (leaves_of (r ∷ rs)) ≤ 65536 = omega
    (arith, leaves_are (r ∷ rs), groups_few (length (r ∷ rs)) 16 65536 few) in
    let s = root_stands (length (leaves_of (r ∷ rs))) 3 0 (leaves_of (r ∷ rs)) (leaves_stand (r ∷ rs) (omega arith))
    (omega arith) (omega (arith, low)) in
    record { one_level = s.one_level; shallow = omega (arith, s.shallow); filled = s.filled; below = s.below }
