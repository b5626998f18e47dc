-- An insertion keeps the fills, and that the children of a node have one level.
use Rattle.std.proofs.Common.{◌≡◌, ◌≢◌, inl, inr, Bool, true, false, ℕ, zero, suc, ◌+◌, ◌*◌, ◌<◌, ◌≤◌, List, [], ◌∷◌, ◌++◌, length, map, refl, sym, ap, subst, ◌∙◌, arith}
use Rattle.std.specs.Prelude.{nat_lt, if◌then◌else◌}
use Rattle.std.specs.List.{AllByRecursion}
use Rattle.std.proofs.lemmas.Bool.{cases_lt}
use Rattle.std.proofs.lemmas.Bool.Decides.{nat_tests}
use Rattle.std.proofs.lemmas.List.{length-map, length-append, length_push}
use Rattle.std.proofs.lemmas.List.Elements.{recursion_from_All, All-from_recursion}
use Rattle.mr_geom.specs.Rectangle.{Rectangle}
use Rattle.mr_record.specs.declared.record.Record.{Record}
use Rattle.mr_tree.specs.Tree.{level, first_level}
use Rattle.mr_tree.specs.WellFormed.{HasOneLevel, IsFilled, IsFilledRoot}
use Rattle.mr_tree.specs.declared.tree.Tree.{Tree}
use Rattle.mr_tree.specs.declared.tree.Tree.TheVariants as tree
use Rattle.mr_tree.specs.declared.tree.Tree.TheOpen.{Tree-F, Empty, Leaf}
use Rattle.mr_tree.specs.declared.tree.Tree.TheViews.{out-Tree}
use Rattle.mr_tree.specs.declared.tree.Tree.TheFolds.{every-Tree}
use Rattle.mr_tree.proofs.Filled.{inner_not_empty}
use Rattle.mr_tree.proofs.Equations.{level-Inner, level-Leaf}
use Rattle.mr_tree.proofs.Induction.{tree_induction, here-Leaf, here-Inner, every_child, every-Leaf, every-Inner}
use Rattle.mr_split.specs.Choice.{choose}
use Rattle.mr_split.specs.Split.{sides}
use Rattle.mr_split.proofs.Counts.{all_both}
use Rattle.mr_grow.specs.Grow.{outline, grown, ins, root_over, in_place, parted, leaves_over, nodes_over}
use Rattle.mr_grow.specs.Parts.{first_part, second_part}
use Rattle.mr_grow.specs.Views.{IsRooted}
use Rattle.mr_grow.proofs.Cutting.{splits, all_first, all_second}
use Rattle.mr_grow.proofs.Grown.{beside, firsts, grown-Empty, grown-Leaf, grown-Inner, leaves_one, leaves_two, nodes_one, nodes_two}

-- a node of level n below the root
pub record Stands (n : ℕ) (t : Tree) : Type 0 where
  pub here : level t ≡ n
  pub there : t ≢ tree.Empty
  pub one_level : every-Tree HasOneLevel t
  pub filled : every-Tree IsFilled t

leaf_there : (rs : List Record) → tree.Leaf rs ≢ tree.Empty
leaf_there rs e = let opened : ◌≡◌ {A = Tree-F Tree} (Leaf rs) Empty = sym (tree.outs-Leaf rs) ∙ ap out-Tree e
    ∙ tree.outs-Empty in cc

pub leaf_stands : (rs : List Record) → 6 ≤ length rs → length rs ≤ 16 → Stands 0 (tree.Leaf rs)
leaf_stands rs low high = record {
  here = level-Leaf rs;
  there = leaf_there rs;
  one_level = every-Leaf HasOneLevel rs
      tt;
  filled = every-Leaf IsFilled rs (low, high);
}

first_is : (k : ℕ) (ts : List Tree) → 0 < length ts → AllByRecursion (Stands k) ts → first_level (map level ts) ≡ k
first_is k [] some all = absurd (omega (arith, some))
first_is k (t ∷ ts) some all = all.0.here

each_level : (k : ℕ) (ts : List Tree) → AllByRecursion (Stands k) ts → AllByRecursion (every-Tree HasOneLevel) ts
each_level k [] all = tt
each_level k (t ∷ ts) all = (all.0.one_level, each_level k ts all.1)

pub each_filled : (k : ℕ) (ts : List Tree) → AllByRecursion (Stands k) ts → AllByRecursion (every-Tree IsFilled) ts
each_filled k [] all = tt
each_filled k (t ∷ ts) all = (all.0.filled, each_filled k ts all.1)

one_level_over : (k : ℕ) (ts : List Tree) → 0 < length ts → AllByRecursion (Stands k) ts → every-Tree HasOneLevel
    (tree.Inner ts)
one_level_over k ts some all =
    every-Inner HasOneLevel ts (each_level k ts all)
    (λ i d within. let s = All-from_recursion (Stands k) ts all i d within in
    (s.there, s.here ∙ sym (first_is k ts some all)))

pub inner_stands : (k : ℕ) (ts : List Tree) → 24 ≤ length ts → length ts ≤ 64 → AllByRecursion (Stands k) ts → Stands
    (k + 1) (tree.Inner ts)
inner_stands k ts low high all = record {
  here = level-Inner ts ∙ ap (λ m. m + 1) (first_is k ts (omega (arith, low)) all);
  there = inner_not_empty ts;
  one_level = one_level_over k ts (omega (arith, low)) all;
  filled = every-Inner IsFilled ts (each_filled k ts all) (low, high);
}

children_stand : (k : ℕ) (ts : List Tree) → AllByRecursion (every-Tree HasOneLevel) ts → AllByRecursion
    (every-Tree IsFilled) ts → AllByRecursion (λ t. (t ≢ tree.Empty) × (level t ≡ k)) ts → AllByRecursion (Stands k)
    ts
children_stand k [] levels fills same = tt
children_stand k (t ∷ ts) levels fills same = (
  record { here = same.0.1; there = same.0.0; one_level = levels.0; filled = fills.0 },
  children_stand k ts
      levels.1 fills.1 same.1,
)

-- the children of a node whose children are filled
pub below_stand : (ts : List Tree) → every-Tree HasOneLevel (tree.Inner ts) → AllByRecursion (every-Tree IsFilled)
    ts → AllByRecursion (Stands (first_level (map level ts))) ts
below_stand ts levels fills =
    children_stand (first_level (map level ts)) ts (every_child HasOneLevel ts levels) fills
    (recursion_from_All (λ t. (t ≢ tree.Empty) × (level t ≡ first_level (map level ts))) ts
    (here-Inner HasOneLevel ts levels))

-- ---- the groups of a full node

parts_length : {X : Type 0} (bs : List Bool) (xs : List X) → length (first_part bs xs) + length (second_part bs xs) ≤
    length xs
parts_length [] xs = omega arith
parts_length (b ∷ bs) [] = omega arith
parts_length (true ∷ bs) (x ∷ xs) = omega (arith, parts_length bs xs)
parts_length (false ∷ bs) (x ∷ xs) = omega (arith, parts_length bs xs)

pub record IsGroup {X : Type 0} (P : X → Type 0) (low high : ℕ) (g : List X) : Type 0 where
  pub at_least : low ≤ length g
  pub at_most : length g ≤ high
  pub each : AllByRecursion P g

-- one group as it is, or two that are filled
pub groups : {X : Type 0} (P : X → Type 0) (low least most : ℕ) (rects : List Rectangle) (xs : List X) →
    length xs ≡ length rects → 0 < least → 2 * least ≤ most →
    low ≤ least → low ≤ length xs → length xs ≤ most + 1 → AllByRecursion P xs → AllByRecursion (IsGroup P low most)
    (parted least most rects xs)
groups P low least most rects xs same some half lower enough few all = at (nat_lt most (length xs)) refl
  where
    at : (b : Bool) → nat_lt most (length xs) ≡ b →
        AllByRecursion (IsGroup P low most) (if b then first_part (sides rects least) xs ∷ second_part
        (sides rects least) xs ∷ [] else xs ∷ [])
    at true e =
        let over : most < length xs = grind (arith, nat_tests, e) in
        let s = splits rects least xs same (omega (arith, some)) (omega (arith, over, half)) in
        let n = parts_length (sides rects least) xs in (
          record {
            at_least = omega (arith, s.first, lower);
            at_most = omega (arith, s.second, n, few, some);
            each = all_first P (sides rects least) xs all;
          },
          (
            record {
              at_least = omega (arith, s.second, lower);
              at_most = omega (arith, s.first, n, few, some);
              each = all_second P (sides rects least) xs all;
            },
            tt,
          ),
        )
    at false e = let within : length xs ≤ most = grind (arith, nat_tests, e) in
        (record { at_least = enough; at_most = within; each = all }, tt)

two_parted : {X : Type 0} (least most : ℕ) (rects : List Rectangle) (xs : List X) →
    (0 < length (parted least most rects xs)) × (length (parted least most rects xs) ≤ 2)
two_parted least most rects xs = at (nat_lt most (length xs))
  where
    at : (b : Bool) → (0 < length (if b then first_part (sides rects least) xs ∷ second_part (sides rects least) xs ∷
        [] else xs ∷ []))
        × (length (if b then first_part (sides rects least) xs ∷ second_part (sides rects least) xs ∷ [] else xs ∷ [])
        ≤ 2)
    at true = (omega arith, omega arith)
    at false = (omega arith, omega arith)

-- one node or two
pub two_grown : (one : Record) (t : Tree) → (0 < length (grown one t)) × (length (grown one t) ≤ 2)
two_grown one = tree_induction (λ t. (0 < length (grown one t)) × (length (grown one t) ≤ 2))
    (omega (arith, ap length (grown-Empty one)), omega (arith, ap length (grown-Empty one)))
    (λ rs.
    let rects = map (λ (r : Record). r.rect) (rs ++ one ∷ []) in
    let two = two_parted 6 16 rects (rs ++ one ∷ []) in
    let n = length-map (parted 6 16 rects (rs ++ one ∷ [])) (λ g. tree.Leaf g) in
    (omega (arith, ap length (grown-Leaf one rs), n, two.0), omega (arith, ap length (grown-Leaf one rs), n, two.1)))
    (λ ts below.
    let more = in_place (choose (map outline ts) one.rect) (beside (grown one) ts) in
    let two = two_parted 24 64 (map outline more) more in
    let n = length-map (parted 24 64 (map outline more) more) (λ g. tree.Inner g) in (
      omega (arith, ap length (grown-Inner one ts), n, two.0),
      omega (
        arith,
        ap length (grown-Inner one ts),
        n,
        two.1,
      ),
    ))

-- ---- the level above

leaves_stand : (gs : List (List Record)) → AllByRecursion (IsGroup (λ (r : Record). Unit {0}) 6 16) gs →
    AllByRecursion (Stands 0) (map (λ g. tree.Leaf g) gs)
leaves_stand [] all = tt
leaves_stand (g ∷ gs) all = (leaf_stands g all.0.at_least all.0.at_most, leaves_stand gs all.1)

nodes_stand : (k : ℕ) (gs : List (List Tree)) → AllByRecursion (IsGroup (Stands k) 24 64) gs → AllByRecursion
    (Stands (k + 1)) (map (λ g. tree.Inner g) gs)
nodes_stand k [] all = tt
nodes_stand k (g ∷ gs) all = (inner_stands k g all.0.at_least all.0.at_most all.0.each, nodes_stand k gs all.1)

any_record : (rs : List Record) → AllByRecursion (λ (r : Record). Unit {0}) rs
any_record [] = tt
any_record (r ∷ rs) = (tt, any_record rs)

-- what stands in place of a child, and how many there are then
pub record Placed (k : ℕ) (n : ℕ) (ts : List Tree) : Type 0 where
  pub each : AllByRecursion (Stands k) ts
  pub at_least : n ≤ length ts
  pub at_most : length ts ≤ n + 1

pub placed : (one : Record) (k i : ℕ) (ts : List Tree) → AllByRecursion (Stands k) ts → AllByRecursion
    (λ t. AllByRecursion (Stands k) (grown one t)) ts → Placed k (length ts) (in_place i (beside (grown one) ts))
placed one k i [] all each = record { each = tt; at_least = omega arith; at_most = omega arith }
placed one k zero (t ∷ ts) all each =
    let n = length-append (grown one t) (map (λ (d : Tree × List Tree). d.0) (beside (grown one) ts)) in
    let m = ap length (firsts (grown one) ts) in
    let two = two_grown one t in
    record {
      each = all_both (Stands k) (grown one t) _ each.0 (subst (AllByRecursion (Stands k))
          (sym (firsts (grown one) ts)) all.1);
      at_least = omega (arith, n, m, two.0);
      at_most = omega (arith, n, m, two.1);
    }
placed one k (suc i) (t ∷ ts) all each =
    let p = placed one k i ts all.1 each.1 in
    record { each = (all.0, p.each); at_least = omega (arith, p.at_least); at_most = omega (arith, p.at_most) }

abbrev Keeps : Record → Tree → Type 0
Keeps one t = (n : ℕ) → Stands n t → AllByRecursion (Stands n) (grown one t)

pub each_keeps : (one : Record) (k : ℕ) (ts : List Tree) → AllByRecursion (Keeps one) ts → AllByRecursion (Stands k)
    ts → AllByRecursion (λ t. AllByRecursion (Stands k) (grown one t)) ts
each_keeps one k [] below all = tt
each_keeps one k (t ∷ ts) below all = (below.0 k all.0, each_keeps one k ts below.1 all.1)

-- below the root, what stands in a node's place stands as the node did
pub grown_stands : (one : Record) (t : Tree) → Keeps one t
grown_stands one = tree_induction (Keeps one)
    (λ n s. absurd (s.there refl))
    (λ rs n s.
    let fill = here-Leaf IsFilled rs s.filled in
    let more = rs ++ one ∷ [] in
    let rects = map (λ (r : Record). r.rect) more in
    let size = length_push rs one in
    subst (λ m. AllByRecursion (Stands m) (grown one (tree.Leaf rs))) (sym (level-Leaf rs) ∙ s.here)
    (subst (AllByRecursion (Stands 0)) (sym (grown-Leaf one rs))
    (leaves_stand (parted 6 16 rects more)
    (groups (λ (r : Record). Unit {0}) 6 6 16 rects more (sym (length-map more (λ (r : Record). r.rect)))
    (omega arith) (omega arith) (omega arith)
    (omega (arith, fill.0, size)) (omega (arith, fill.1, size)) (any_record more)))))
    (λ ts below n s.
    let k = first_level (map level ts) in
    let fill = here-Inner IsFilled ts s.filled in
    let all = below_stand ts s.one_level (every_child IsFilled ts s.filled) in
    let at = choose (map outline ts) one.rect in
    let more = in_place at (beside (grown one) ts) in
    let p = placed one k at ts all (each_keeps one k ts below all) in
    subst (λ m. AllByRecursion (Stands m) (grown one (tree.Inner ts))) (sym (level-Inner ts) ∙ s.here)
    (subst (AllByRecursion (Stands (k + 1))) (sym (grown-Inner one ts))
    (nodes_stand k (parted 24 64 (map outline more) more)
    (groups (Stands k) 24 24 64 (map outline more) more (sym (length-map more outline)) (omega arith) (omega arith)
    (omega arith)
    (omega (arith, p.at_least, fill.0)) (omega (arith, p.at_most, fill.1)) p.each))))

-- ---- the root

pub leaf_root : (rs : List Record) → 1 ≤ length rs → length rs ≤ 16 → IsRooted (tree.Leaf rs)
leaf_root rs low high = record {
  one_level = every-Leaf HasOneLevel rs tt;
  filled = subst IsFilledRoot
      (sym (tree.outs-Leaf rs)) (low, high);
}

pub inner_root : (k : ℕ) (ts : List Tree) → 2 ≤ length ts → length ts ≤ 64 → AllByRecursion (Stands k) ts → IsRooted
    (tree.Inner ts)
inner_root k ts low high all = record {
  one_level = one_level_over k ts (omega (arith, low)) all;
  filled = subst IsFilledRoot (sym (tree.outs-Inner ts)) (
    low,
    high,
    All-from_recursion (every-Tree IsFilled) ts
        (each_filled k ts all),
  );
}

two_root : (k : ℕ) (t u : Tree) (ts : List Tree) → ts ≡ t ∷ u ∷ [] → AllByRecursion (Stands k) ts → IsRooted
    (root_over ts)
two_root k t u ts is all =
    subst (λ us. IsRooted (root_over us)) (sym is) (inner_root k (t ∷ u ∷ []) (omega arith) (omega arith)
    (subst (AllByRecursion (Stands k)) is all))

leaves_root : (rs : List Record) → 1 ≤ length rs → length rs ≤ 17 → IsRooted (root_over (leaves_over rs))
leaves_root rs low high = elim (cases_lt 16 (length rs)) [
  | inl many ↦ two_root 0 _ _ (leaves_over rs) (leaves_two rs many)
      (leaves_stand (parted 6 16 (map (λ (r : Record). r.rect) rs) rs)
      (groups (λ (r : Record). Unit {0}) 6 6 16 (map (λ (r : Record). r.rect) rs) rs
      (sym (length-map rs (λ (r : Record). r.rect))) (omega arith) (omega arith) (omega arith)
      (omega (arith, many)) (omega (arith, high)) (any_record rs)))
  | inr few ↦ subst (λ us. IsRooted (root_over us)) (sym (leaves_one rs few)) (leaf_root rs low few)
]

nodes_root : (k : ℕ) (ts : List Tree) → 2 ≤ length ts → length ts ≤ 65 → AllByRecursion (Stands k) ts → IsRooted
    (root_over (nodes_over ts))
nodes_root k ts low high all = elim (cases_lt 64 (length ts)) [
  | inl many ↦ two_root (k + 1) _ _ (nodes_over ts) (nodes_two ts many)
      (nodes_stand k (parted 24 64 (map outline ts) ts)
      (groups (Stands k) 24 24 64 (map outline ts) ts (sym (length-map ts outline)) (omega arith) (omega arith)
      (omega arith) (omega (arith, many)) (omega (arith, high)) all))
  | inr few ↦ subst (λ us. IsRooted (root_over us)) (sym (nodes_one ts few)) (inner_root k ts low few all)
]

each_of : (one : Record) (ts : List Tree) → AllByRecursion (Keeps one) ts
each_of one [] = tt
each_of one (t ∷ ts) = (grown_stands one t, each_of one ts)

pub ins_root : (one : Record) (t : Tree) → IsRooted t → IsRooted (ins one t)
ins_root one = tree_induction (λ t. IsRooted t → IsRooted (ins one t))
    (λ r. subst (λ us. IsRooted (root_over us)) (sym (grown-Empty one)) (leaf_root (one ∷ []) (omega arith)
    (omega arith)))
    (λ rs r.
    let fill = subst IsFilledRoot (tree.outs-Leaf rs) r.filled in
    let size = length_push rs one in
    subst (λ us. IsRooted (root_over us)) (sym (grown-Leaf one rs))
    (leaves_root (rs ++ one ∷ []) (omega (arith, size)) (omega (arith, size, fill.1))))
    (λ ts below r.
    let k = first_level (map level ts) in
    let fill = subst IsFilledRoot (tree.outs-Inner ts) r.filled in
    let all = below_stand ts r.one_level (recursion_from_All (every-Tree IsFilled) ts fill.2) in
    let at = choose (map outline ts) one.rect in
    let p = placed one k at ts all (each_keeps one k ts (each_of one ts) all) in
    subst (λ us. IsRooted (root_over us)) (sym (grown-Inner one ts))
    (nodes_root k (in_place at (beside (grown one) ts)) (omega (arith, p.at_least, fill.0))
    (omega (arith, p.at_most, fill.1)) p.each))
