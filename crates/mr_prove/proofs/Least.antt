-- The k least distances, as a heap keeps them.
use Rattle.std.proofs.Common.{◌≡◌, ℕ, ◌+◌, ◌<◌, ◌≤◌, true, false, cond, List, [], ◌∷◌, length, get_or, min, take, sym, ap, subst, ◌∙◌, arith}
use Rattle.std.specs.Prelude.{Option, Some, None, IsSome, IfSome, IfNone, All, option_copied}
use Rattle.std.specs.Borrow.{Bor}
use Rattle.std.specs.BinaryHeap.{IsHeap, IsUpperBound, PopsGreatest}
use Rattle.std.specs.List.Sorted.{IsPermutation}
use Rattle.std.specs.Ordering.{nat_cmp}
use Rattle.std.proofs.lemmas.List.{map-append}
use Rattle.std.proofs.lemmas.List.Elements.{All-cons, All-tail, filter_more, recursion_from_All}
use Rattle.std.proofs.lemmas.List.Sorted.{All-permutation, length_permutation, le_from_greatest}
use Rattle.mr_record.specs.declared.record.Record.{Record}
use Rattle.mr_query.specs.Layers.{is_on}
use Rattle.mr_query.specs.Nearest.{distance, distances}
use Rattle.mr_query.specs.Scan.{on_layers}
use Rattle.mr_query.specs.private.Radius.{below, IsRadius}
use Rattle.mr_query.proofs.Counts.{below-cons, below-append, greatest_gone, greatest_is_radius}
use Rattle.mr_proof.specs.declared.question.Around.{Around}
use Rattle.mr_prove.specs.private.Search.{distances_on, farthest, Best}

abbrev Low : ℕ → Type 0
Low n = n ≤ farthest

-- one more
pub low_pushed : (far : ℕ) (old new : List ℕ) → far ≤ farthest → All Low old → IsPermutation (far ∷ old) new
    → All Low new
low_pushed far old new here low same =
    All-permutation Low (far ∷ old) new same (All-cons Low far old here low)

-- and the greatest of k + 1 goes
pub best_popped : (k len : ℕ) (ms ns : List ℕ) (r : Option ℕ) → IfNone r (len ≡ 0) → 0 < len
    → IfSome r (λ g. IsPermutation ms (g ∷ ns)) → IfSome r (λ g. PopsGreatest nat_cmp ms g ns)
    → IsHeap nat_cmp ms → All Low ms → length ms ≤ k + 1 → Best k ns
best_popped k len ms ns None none some same pops heap low few = absurd (omega arith)
best_popped k len ms ns (Some g) none some same pops heap low few = record {
  heap = (pops heap).0;
  few = let moved = length_permutation ms (g ∷ ns) same in omega arith;
  low = All-tail Low g ns (All-permutation Low ms (g ∷ ns) same low);
}

pub least_popped : (k x len : ℕ) (ms ns : List ℕ) (r : Option ℕ) → IfNone r (len ≡ 0) → 0 < len
    → IfSome r (λ g. IsPermutation ms (g ∷ ns)) → IfSome r (λ g. PopsGreatest nat_cmp ms g ns)
    → IsHeap nat_cmp ms → k < length ms → min k (below x ns) ≡ min k (below x ms)
least_popped k x len ms ns None none some same pops heap many = absurd (omega arith)
least_popped k x len ms ns (Some g) none some same pops heap many =
    greatest_gone k x g ms ns same (recursion_from_All (λ n. n ≤ g) ms (le_from_greatest g ms (pops heap).1)) many

-- the top of a heap of k
pub radius_from_peek : (k : ℕ) (ns : List ℕ) (peeked : Option (Bor ℕ)) (r : Option ℕ) → r ≡ option_copied peeked
    → 1 ≤ k → length ns ≡ k → IsHeap nat_cmp ns → IsSome peeked
    → IfSome peeked (λ g. g.now ≡ get_or ns 0 g.now)
    → IfSome peeked (λ g. IsHeap nat_cmp ns → IsUpperBound nat_cmp g.now ns) → IsRadius k ns r
radius_from_peek k ns None r e some many heap there first greatest = cc
radius_from_peek k ns (Some g) r e some many heap there first greatest =
    subst (IsRadius k ns) (sym e)
    (greatest_is_radius k g.now ns some many
    (recursion_from_All (λ n. n ≤ g.now) ns (le_from_greatest g.now ns (greatest heap))) (sym first))

-- ---- one record more

module _ (a : Around) (x : ℕ) where
  abbrev k : ℕ
  k = a.k

  abbrev counted : List Record → ℕ
  counted rs = below x (distances_on a rs)

  -- on one of the layers
  pub taken_one : (r : Record) (far : ℕ) (old new : List ℕ) → is_on a.layers r ≡ true → far ≡ distance a.center r
      → min k (below x new) ≡ min k (below x (far ∷ old))
      → min k (below x new) ≡ min k (below x old + counted (r ∷ []))
  taken_one r far old new on e taken =
      let one : counted (r ∷ []) ≡ below x (far ∷ []) =
      ap (λ b. below x (distances a.center (cond b (r ∷ []) []))) on ∙ ap (λ n. below x (n ∷ [])) (sym e) in
      let alone = below-cons x far [] in
      let first = below-cons x far old in
      omega arith

  -- or on none
  pub taken_none : (r : Record) (old : List ℕ) → is_on a.layers r ≡ false
      → min k (below x old) ≡ min k (below x old + counted (r ∷ []))
  taken_none r old off =
      let none : counted (r ∷ []) ≡ 0 = ap (λ b. below x (distances a.center (cond b (r ∷ []) []))) off in
      omega arith

  pub taken_more : (rs : List Record) (i : ℕ) (r : Record) (old mid new : List ℕ) → r ≡ get_or rs i r
      → i < length rs → min k (below x mid) ≡ min k (below x old + counted (take i rs))
      → min k (below x new) ≡ min k (below x mid + counted (r ∷ []))
      → min k (below x new) ≡ min k (below x old + counted (take (i + 1) rs))
  taken_more rs i r old mid new is within before after =
      let p = a.center in
      let first = on_layers a.layers (take i rs) in
      let next = on_layers a.layers (get_or rs i r ∷ []) in
      let more : counted (take (i + 1) rs) ≡ counted (take i rs) + counted (r ∷ []) =
      ap (λ (rs : List Record). below x (distances p rs)) (filter_more (is_on a.layers) rs i r within)
      ∙ ap (below x) (map-append (distance p) first next)
      ∙ below-append x (distances p first) (distances p next)
      ∙ ap (λ (r : Record). counted (take i rs) + counted (r ∷ [])) (sym is) in
      omega arith
