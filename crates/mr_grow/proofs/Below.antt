-- A child has fewer nodes than its parent, and what holds of every node below the parent holds below it.
use Rattle.std.proofs.Common.{◌≡◌, ℕ, zero, suc, ◌+◌, ◌<◌, ◌≤◌, List, [], ◌∷◌, ◌++◌, take, drop, length, map, get_or, sym, ap, subst, ◌∙◌, arith}
use Rattle.std.specs.Prelude.{sum}
use Rattle.std.proofs.lemmas.List.Elements.{All-from_recursion}
use Rattle.std.proofs.lemmas.List.Sums.{sum_by-cons}
use Rattle.mr_record.specs.declared.record.Record.{Record}
use Rattle.mr_tree.specs.Tree.{nodes, nodes_step}
use Rattle.mr_tree.specs.declared.tree.Tree.{Tree}
use Rattle.mr_tree.specs.declared.tree.Tree.TheVariants as tree
use Rattle.mr_tree.specs.declared.tree.Tree.TheOpen.{Inner}
use Rattle.mr_tree.specs.declared.tree.Tree.TheFolds.{every-Tree, fold-roll-Tree}
use Rattle.mr_tree.proofs.Induction.{here-Leaf, here-Inner, every_child}
use Rattle.mr_grow.specs.Views.{HasRoom}

nodes-Inner : (ts : List Tree) → nodes (tree.Inner ts) ≡ sum (map nodes ts) + 1
nodes-Inner ts = ap nodes (sym (tree.rolls-Inner ts)) ∙ fold-roll-Tree ℕ nodes_step (Inner ts)

one_of_sum : (ts : List Tree) (n : ℕ) (t : Tree) → n < length ts → nodes (get_or ts n t) ≤ sum (map nodes ts)
one_of_sum [] n t within = absurd (omega (arith, within))
one_of_sum (u ∷ ts) zero t within = omega (arith, sum_by-cons (λ (n : ℕ). n) (nodes u) (map nodes ts))
one_of_sum (u ∷ ts) (suc n) t within = omega (
  arith,
  sum_by-cons (λ (n : ℕ). n) (nodes u) (map nodes ts),
  one_of_sum ts n t (omega (arith, within)),
)

pub record IsBelow (child parent : Tree) : Type 0 where
  pub fewer : nodes child < nodes parent
  pub every : every-Tree HasRoom child

pub child_below : (ts items : List Tree) (n : ℕ) (child parent : Tree) → parent ≡ tree.Inner ts → items ≡ ts →
    child ≡ get_or items n child → n < length items → every-Tree HasRoom parent → IsBelow child parent
child_below ts items n child parent is same at within every =
    let inside : n < length ts = omega (arith, within, ap length same) in
    let here : get_or ts n child ≡ child = ap (λ us. get_or us n child) (sym same) ∙ sym at in
    record {
      fewer = omega (arith, one_of_sum ts n child inside, ap nodes here, nodes-Inner ts, ap nodes is);
      every = subst (every-Tree HasRoom) here (All-from_recursion (every-Tree HasRoom) ts
          (every_child HasRoom ts (subst (every-Tree HasRoom) is every)) n child inside);
    }

pub some_child : (ts items : List Tree) (parent : Tree) → parent ≡ tree.Inner ts → items ≡ ts → every-Tree HasRoom
    parent → 0 < length items
some_child ts items parent is same every = omega
    (arith, (here-Inner HasRoom ts (subst (every-Tree HasRoom) is every)).0, ap length same)

pub fewer_nodes : (ts items : List Tree) (n : ℕ) (child parent : Tree) → parent ≡ tree.Inner ts → items ≡ ts →
    child ≡ get_or items n child → n < length items → nodes child < nodes parent
fewer_nodes ts items n child parent is same at within =
    let inside : n < length ts = omega (arith, within, ap length same) in
    let here : get_or ts n child ≡ child = ap (λ us. get_or us n child) (sym same) ∙ sym at in
    omega (arith, one_of_sum ts n child inside, ap nodes here, nodes-Inner ts, ap nodes is)

pub leaf_room : (rs items : List Record) (parent : Tree) → parent ≡ tree.Leaf rs → items ≡ rs → every-Tree HasRoom
    parent → length items ≤ 16
leaf_room rs items parent is same every = omega (
  arith,
  here-Leaf HasRoom rs (subst (every-Tree HasRoom) is every),
  ap length same,
)

pub inner_room : (ts items : List Tree) (parent : Tree) → parent ≡ tree.Inner ts → items ≡ ts → every-Tree HasRoom
    parent → length items ≤ 64
inner_room ts items parent is same every = omega
    (arith, (here-Inner HasRoom ts (subst (every-Tree HasRoom) is every)).1, ap length same)

pub length_removed : {X : Type 0} (n : ℕ) (xs : List X) → n < length xs → length (take n xs ++ drop (suc n) xs) + 1 ≡
    length xs
length_removed n [] within = absurd (omega (arith, within))
length_removed zero (x ∷ xs) within = omega arith
length_removed (suc n) (x ∷ xs) within = omega (arith, length_removed n xs (omega (arith, within)))
