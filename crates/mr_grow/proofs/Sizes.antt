-- A tree of few records has few levels.
use Rattle.std.proofs.Common.{◌≡◌, inl, inr, ℕ, zero, suc, ◌+◌, ◌*◌, ◌^◌, ◌≤◌, List, [], ◌∷◌, length, map, refl, sym, ap, subst, ◌∙◌, arith}
use Rattle.std.specs.List.{AllByRecursion, flat_map}
use Rattle.std.proofs.lemmas.Bool.{cases_lt}
use Rattle.std.proofs.lemmas.List.{length-append}
use Rattle.std.proofs.lemmas.List.Elements.{recursion_from_All}
use Rattle.mr_tree.specs.Tree.{level, first_level, records}
use Rattle.mr_tree.specs.WellFormed.{WellFormed, IsFilled, IsFilledRoot}
use Rattle.mr_tree.specs.declared.tree.Tree.{Tree}
use Rattle.mr_tree.specs.declared.tree.Tree.TheVariants as tree
use Rattle.mr_tree.specs.declared.tree.Tree.TheFolds.{every-Tree}
use Rattle.mr_tree.proofs.Equations.{level-Inner, level-Leaf, level-Empty, records-Leaf}
use Rattle.mr_tree.proofs.Induction.{tree_induction, here-Leaf, here-Inner, every_child, every-Empty, every-Leaf, every-Inner}
use Rattle.mr_grow.specs.Views.{HasRoom, IsRooted}
use Rattle.mr_grow.proofs.Kept.{records_below}
use Rattle.mr_grow.proofs.Standing.{Stands, below_stand}

-- the fewest records of a node that is not the root
abbrev pub fewest : ℕ → ℕ
fewest zero = 6
fewest (suc n) = 24 * fewest n

at_least : (m : ℕ) (ts : List Tree) → AllByRecursion (λ t. m ≤ length (records t)) ts → length ts * m ≤ length
    (flat_map records ts)
at_least m [] all = omega arith
at_least m (t ∷ ts) all =
    let more : suc (length ts) * m ≡ m + length ts * m = grind arith in
    omega (arith, more, all.0, at_least m ts all.1, length-append (records t) (flat_map records ts))

abbrev Holds : Tree → Type 0
Holds t = (n : ℕ) → Stands n t → fewest n ≤ length (records t)

each_holds : (n : ℕ) (ts : List Tree) → AllByRecursion Holds ts → AllByRecursion (Stands n) ts → AllByRecursion
    (λ t. fewest n ≤ length (records t)) ts
each_holds n [] below all = tt
each_holds n (t ∷ ts) below all = (below.0 n all.0, each_holds n ts below.1 all.1)

times : (k m n : ℕ) → k ≤ m → k * n ≤ m * n
times k m n h = grind arith

stands_holds : (t : Tree) → Holds t
stands_holds = tree_induction Holds
    (λ n s. absurd (s.there refl))
    (λ rs n s.
    let e : n ≡ 0 = sym s.here ∙ level-Leaf rs in
    subst (λ k. fewest k ≤ length (records (tree.Leaf rs))) (sym e)
    (omega (arith, (here-Leaf IsFilled rs s.filled).0, ap length (records-Leaf rs))))
    (λ ts below n s.
    let k = first_level (map level ts) in
    let fill = here-Inner IsFilled ts s.filled in
    let all = each_holds k ts below (below_stand ts s.one_level (every_child IsFilled ts s.filled)) in
    let e : n ≡ suc k = omega (arith, s.here, level-Inner ts) in
    subst (λ j. fewest j ≤ length (records (tree.Inner ts))) (sym e)
    (omega (arith, times 24 (length ts) (fewest k) fill.0, at_least (fewest k) ts all, ap length (records_below ts))))

some_records : (n : ℕ) → 6 ≤ fewest n
some_records zero = omega arith
some_records (suc n) = omega (arith, some_records n)

many_records : (n : ℕ) → 4 ≤ n → 1990656 ≤ fewest n
many_records zero high = absurd (omega (arith, high))
many_records (suc zero) high = absurd (omega (arith, high))
many_records (suc (suc zero)) high = absurd (omega (arith, high))
many_records (suc (suc (suc zero))) high = absurd (omega (arith, high))
many_records (suc (suc (suc (suc n)))) high = omega (arith, some_records n)

each_of : (ts : List Tree) → AllByRecursion Holds ts
each_of [] = tt
each_of (t ∷ ts) = (stands_holds t, each_of ts)

pub root_shallow : (t : Tree) → IsRooted t → length (records t) ≤ 2 ^ 20 → level t ≤ 7
root_shallow = tree_induction (λ t. IsRooted t → length (records t) ≤ 2 ^ 20 → level t ≤ 7)
    (λ r few. omega (arith, level-Empty))
    (λ rs r few. omega (arith, level-Leaf rs))
    (λ ts below r few.
    let k = first_level (map level ts) in
    let fill = subst IsFilledRoot (tree.outs-Inner ts) r.filled in
    let all = each_holds k ts (each_of ts) (below_stand ts r.one_level (recursion_from_All (every-Tree IsFilled) ts
    fill.2)) in
    elim (cases_lt k 4) [
      | inl low ↦ omega (arith, low, level-Inner ts)
      | inr high ↦ absurd (omega (
        arith,
        few,
        times 2 (length ts) (fewest k) fill.0,
        at_least (fewest k) ts all,
        ap length (records_below ts),
        many_records k high,
      ))
    ])

-- ---- every node of a well-formed tree has room

room_of_filled : (t : Tree) → every-Tree IsFilled t → every-Tree HasRoom t
room_of_filled = tree_induction (λ t. every-Tree IsFilled t → every-Tree HasRoom t)
    (λ all. every-Empty HasRoom tt)
    (λ rs all. every-Leaf HasRoom rs (here-Leaf IsFilled rs all).1)
    (λ ts below all.
    let fill = here-Inner IsFilled ts all in
    every-Inner HasRoom ts (each ts below (every_child IsFilled ts all)) (omega (arith, fill.0), fill.1))
  where
    each : (ts : List Tree) → AllByRecursion (λ t. every-Tree IsFilled t → every-Tree HasRoom t) ts → AllByRecursion
        (every-Tree IsFilled) ts → AllByRecursion (every-Tree HasRoom) ts
    each [] below all = tt
    each (t ∷ ts) below all = (below.0 all.0, each ts below.1 all.1)

pub has_room : (t : Tree) → IsRooted t → every-Tree HasRoom t
has_room = tree_induction (λ t. IsRooted t → every-Tree HasRoom t)
    (λ r. every-Empty HasRoom tt)
    (λ rs r. every-Leaf HasRoom rs (subst IsFilledRoot (tree.outs-Leaf rs) r.filled).1)
    (λ ts below r.
    let fill = subst IsFilledRoot (tree.outs-Inner ts) r.filled in
    every-Inner HasRoom ts (each ts (recursion_from_All (every-Tree IsFilled) ts fill.2))
    (omega (arith, fill.0), fill.1))
  where
    each : (ts : List Tree) → AllByRecursion (every-Tree IsFilled) ts → AllByRecursion (every-Tree HasRoom) ts
    each [] all = tt
    each (t ∷ ts) all = (room_of_filled t all.0, each ts all.1)

pub well_rooted : (t : Tree) → WellFormed t → IsRooted t
well_rooted t well = record { one_level = well.one_level; filled = well.filled }
