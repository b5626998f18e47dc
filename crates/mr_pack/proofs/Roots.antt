-- The root above some nodes, level by level.
use Rattle.std.proofs.Common.{◌≡◌, ℕ, suc, zero, ◌+◌, ◌<◌, ◌≤◌, List, [], ◌∷◌, ◌++◌, length, map, refl, sym, ap, ◌∙◌, arith, length-append}
use Rattle.std.proofs.lemmas.List.{length-map}
use Rattle.mr_tree.specs.declared.tree.Tree.{Tree}
use Rattle.mr_tree.specs.declared.tree.Tree.TheVariants as tree
use Rattle.mr_pack.specs.Cuts.{group_count, group_start}
use Rattle.mr_pack.specs.Entries.{in_groups, grouped, arranged}
use Rattle.mr_record.specs.declared.record.Record.{Record}
use Rattle.mr_tree.specs.Limits.{leaf_limit, inner_limit}
use Rattle.mr_pack.specs.Pack.{placed_record, placed_nodes, leaves_of, level_above, root_above}
use Rattle.mr_pack.specs.declared.placed.Placed.{Placed}
use Rattle.mr_pack.proofs.Cuts.{length_of_parts}
use Rattle.mr_pack.proofs.Numbers.{groups_fewer, groups_within}

pub length_of_groups : {T : Type 0} (p : ℕ) (entries : List (Placed T)) → length (in_groups p entries) ≡ p
unfolding in_groups
length_of_groups {T} p entries =
    length_of_parts (group_start (length entries) p) p (map (λ (e : Placed T). e.item) (arranged p entries))

pub length_of_node_entries : (i : ℕ) (ts : List Tree) → length (placed_nodes i ts) ≡ length ts
length_of_node_entries i [] = refl
length_of_node_entries i (t ∷ ts) = ap suc (length_of_node_entries (i + 1) ts)

pub length_above : (ts : List Tree) → length (level_above ts) ≡ group_count (length ts) inner_limit
unfolding level_above
length_above ts =
    length-map (grouped inner_limit (placed_nodes 0 ts)) (λ children. tree.Inner children)
    ∙ length_of_groups (group_count (length (placed_nodes 0 ts)) inner_limit) (placed_nodes 0 ts)
    ∙ ap (λ n. group_count n inner_limit) (length_of_node_entries 0 ts)

pub fewer_above : (ts : List Tree) → 1 < length ts → length (level_above ts) < length ts
fewer_above ts some = omega (arith, length_above ts, groups_fewer (length ts) inner_limit (omega arith) some)

pub root_of_none : (n : ℕ) → root_above n [] ≡ tree.Empty
unfolding root_above
root_of_none zero = refl
root_of_none (suc n) = refl

pub root_of_one : (n : ℕ) (t : Tree) → root_above n (t ∷ []) ≡ t
unfolding root_above
root_of_one zero t = refl
root_of_one (suc n) t = refl

pub root_of_more : (n : ℕ) (t u : Tree) (ts : List Tree) →
    root_above (suc n) (t ∷ u ∷ ts) ≡ root_above n (level_above (t ∷ u ∷ ts))
unfolding root_above
root_of_more n t u ts = refl

-- enough levels are as good as more
pub enough_levels : (m n : ℕ) (ts : List Tree) → length ts ≤ m → length ts ≤ n → root_above m ts ≡ root_above n ts
enough_levels m n [] p q = root_of_none m ∙ sym (root_of_none n)
enough_levels m n (t ∷ []) p q = root_of_one m t ∙ sym (root_of_one n t)
enough_levels zero n (t ∷ u ∷ ts) p q = absurd (omega (arith, p))
enough_levels (suc m) zero (t ∷ u ∷ ts) p q = absurd (omega (arith, q))
enough_levels (suc m) (suc n) (t ∷ u ∷ ts) p q =
    let fewer = fewer_above (t ∷ u ∷ ts) (omega arith) in
    root_of_more m t u ts
    ∙ enough_levels m n (level_above (t ∷ u ∷ ts)) (omega (arith, fewer, p)) (omega (arith, fewer, q))
    ∙ sym (root_of_more n t u ts)

pub one_level_up : (ts us : List Tree) → 1 < length ts → us ≡ level_above ts →
    root_above (length us) us ≡ root_above (length ts) ts
one_level_up [] us some is = absurd (omega (arith, some))
one_level_up (t ∷ []) us some is = absurd (omega (arith, some))
one_level_up (t ∷ u ∷ ts) us some is =
    let fewer = fewer_above (t ∷ u ∷ ts) some in
    (λ i. root_above (length (is i)) (is i))
    ∙ enough_levels (length (level_above (t ∷ u ∷ ts))) (length (u ∷ ts)) (level_above (t ∷ u ∷ ts)) (omega arith)
    (omega (arith, fewer))
    ∙ sym (root_of_more (length (u ∷ ts)) t u ts)

-- the last node of at most one
pub last_left : {S : Type 0} (f : S → Tree) (xs ys : List S) (x : S) → xs ≡ ys ++ x ∷ [] → length xs ≤ 1 →
    f x ≡ root_above (length xs) (map f xs)
last_left f xs [] x is few = sym (ap (λ zs. root_above (length zs) (map f zs)) is ∙ root_of_one 1 (f x))
last_left f xs (y ∷ ys) x is few = absurd (omega (arith, few, ap length is, length-append ys (x ∷ [])))

pub none_left : {S : Type 0} (f : S → Tree) (xs : List S) → xs ≡ [] → tree.Empty ≡ root_above (length xs) (map f xs)
none_left f xs is = sym (ap (λ zs. root_above (length zs) (map f zs)) is ∙ root_of_none 0)

-- the same, of nodes that stand for the trees
pub fewer_of_views : {S : Type 0} (f : S → Tree) (xs ys : List S) → 1 < length xs → map f ys ≡ level_above (map f xs) →
    length ys < length xs
fewer_of_views f xs ys some is =
    omega (
      arith,
      length-map ys f,
      ap length is,
      length-map xs f,
      fewer_above (map f xs)
          (omega (arith, length-map xs f)),
    )

pub above_of_views : {S : Type 0} (f : S → Tree) (xs ys : List S) → 1 < length xs → map f ys ≡ level_above (map f xs) →
    root_above (length ys) (map f ys) ≡ root_above (length xs) (map f xs)
above_of_views f xs ys some is =
    ap (λ n. root_above n (map f ys)) (sym (length-map ys f))
    ∙ one_level_up (map f xs) (map f ys) (omega (arith, length-map xs f)) is
    ∙ ap (λ n. root_above n (map f xs)) (length-map xs f)

-- ---- leaves

pub leaves_are : (rs : List Record) → length (leaves_of rs) ≡ group_count (length rs) leaf_limit
unfolding leaves_of
leaves_are rs =
    length-map (grouped leaf_limit (map placed_record rs)) (λ rs. tree.Leaf rs)
    ∙ length_of_groups (group_count (length (map placed_record rs)) leaf_limit) (map placed_record rs)
    ∙ ap (λ n. group_count n leaf_limit) (length-map rs placed_record)

pub length_of_leaves : (rs : List Record) → length (leaves_of rs) ≤ length rs
length_of_leaves rs = omega (arith, leaves_are rs, groups_within (length rs) leaf_limit)
