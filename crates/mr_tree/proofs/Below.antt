-- The records of a child are some of those of its parent.
use Rattle.std.proofs.Common.{◌≡◌, ℕ, zero, suc, ◌+◌, ◌<◌, ◌≤◌, List, [], ◌∷◌, ◌++◌, map, length, get_or, drop, sym, ap, subst, ◌∙◌, arith, length-append}
use Rattle.std.specs.Prelude.{All}
use Rattle.std.specs.List.{flat_map, AllByRecursion}
use Rattle.std.proofs.lemmas.List.Elements.{recursion_from_All, All-from_recursion}
use Rattle.mr_record.specs.declared.record.Record.{Record}
use Rattle.mr_record.specs.declared.version.Version.{Version}
use Rattle.mr_record.specs.Record.{HasLayer}
use Rattle.mr_tree.specs.Tree.{records}
use Rattle.mr_tree.specs.WellFormed.{HasLayers}
use Rattle.mr_tree.specs.declared.tree.Tree.{Tree}
use Rattle.mr_tree.specs.declared.tree.Tree.TheVariants as tree
use Rattle.mr_tree.proofs.Equations.{records-Inner}

abbrev pub all_of : List Tree → List Record
all_of ts = flat_map (λ list. list) (map records ts)

-- ---- how many

few_each : (n : ℕ) (ts : List Tree) → length (all_of ts) ≤ n → AllByRecursion (λ t. length (records t) ≤ n) ts
few_each n [] few = tt
few_each n (t ∷ ts) few =
    let both = length-append (records t) (all_of ts) in
    (omega (arith, both), few_each n ts (omega (arith, both)))

-- the child at a place of the list
at_place : (P : Tree → Type 0) (ts items : List Tree) (i : ℕ) (one : Tree) → items ≡ ts → one ≡ get_or items i one →
    i < length items → AllByRecursion P ts → P one
at_place P ts items i one same is within each =
    let at : get_or ts i one ≡ one = ap (λ xs. get_or xs i one) (sym same) ∙ sym is in
    subst P at (All-from_recursion P ts each i one (omega (arith, ap length same)))

pub child_few : (ts items : List Tree) (i : ℕ) (one : Tree) → items ≡ ts → one ≡ get_or items i one → i < length items
    → {n : ℕ} → length (records (tree.Inner ts)) ≤ n → length (records one) ≤ n
child_few ts items i one same is within {n} few =
    at_place (λ t. length (records t) ≤ n) ts items i one same is within
    (few_each n ts (omega (arith, ap length (records-Inner ts))))

-- ---- their layers

parts : (P : Record → Type 0) (xs ys : List Record) → AllByRecursion P (xs ++ ys) →
    AllByRecursion P xs × AllByRecursion P ys
parts P [] ys all = (tt, all)
parts P (x ∷ xs) ys all = let rest = parts P xs ys all.1 in ((all.0, rest.0), rest.1)

module _ (v : Version) where
  layers_each : (ts : List Tree) → AllByRecursion (HasLayer v) (all_of ts) → AllByRecursion (HasLayers v) ts
  layers_each [] all = tt
  layers_each (t ∷ ts) all =
      let both = parts (HasLayer v) (records t) (all_of ts) all in
      (All-from_recursion (HasLayer v) (records t) both.0, layers_each ts both.1)

  pub child_layers : (ts items : List Tree) (i : ℕ) (one : Tree) → items ≡ ts → one ≡ get_or items i one →
      i < length items → HasLayers v (tree.Inner ts) → HasLayers v one
  child_layers ts items i one same is within layers =
      at_place (HasLayers v) ts items i one same is within
      (layers_each ts (recursion_from_All (HasLayer v) (all_of ts)
      (subst (All (HasLayer v)) (records-Inner ts) layers)))

-- ---- what is left behind a child

pub left_behind : (ts : List Tree) (i : ℕ) (one : Tree) → one ≡ get_or ts i one → i < length ts →
    length (all_of (drop i ts)) ≡ length (records one) + length (all_of (drop (i + 1) ts))
left_behind [] i one is within = absurd (omega arith)
left_behind (t ∷ ts) zero one is within =
    length-append (records t) (all_of ts) ∙ ap (λ u. length (records u) + length (all_of ts)) (sym is)
left_behind (t ∷ ts) (suc i) one is within =
    let next : suc i + 1 ≡ suc (i + 1) = omega arith in
    left_behind ts i one is (omega arith)
    ∙ ap (λ k. length (records one) + length (all_of (drop k (t ∷ ts)))) (sym next)
