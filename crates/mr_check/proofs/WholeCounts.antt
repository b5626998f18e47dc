-- How many records the pruned parts have of which all is asked for.
use Rattle.std.proofs.Common.{◌≡◌, ℕ, ◌+◌, ◌^◌, ◌<◌, ◌≤◌, Bool, true, false, List, [], ◌∷◌, ◌++◌, Option, Some, None, refl, arith}
use Rattle.std.specs.Prelude.{if◌then◌else◌, sum}
use Rattle.std.proofs.lemmas.List.Sums.{sum_by-cons}
use Rattle.mr_record.specs.declared.version.Version.{Version}
use Rattle.mr_record.specs.Version.{told}
use Rattle.mr_tree.proofs.Told.{told_le}
use Rattle.mr_query.specs.declared.key.Key.{Key}
use Rattle.mr_proof.specs.declared.head.Head.{Head}
use Rattle.mr_proof.specs.declared.way.Way.{Way}
use Rattle.mr_proof.specs.Cut.{Cut, Cuts, Pruned, Leaf, Inner, no_more, first, cuts_of, count, counts}
use Rattle.mr_proof.specs.Refused.{is_other_count}
use Rattle.mr_proof.specs.Tight.{key_at}
use Rattle.mr_proof.proofs.Laws.{count_right}
use Rattle.mr_check.specs.Whole.{is_whole, whole_of, wholes_of, whole_in}
use Rattle.mr_check.specs.private.Counting.{capped}
use Rattle.mr_check.specs.private.Machine.{Open, whole_so_far}
use Rattle.mr_check.proofs.Opening.{one_on, closed}

-- ---- one more child

wholes_of-more : (u : Version) (way : Key → Way) (front : List Cut) (P : Cut)
    → wholes_of u way (cuts_of (front ++ P ∷ [])) ≡ wholes_of u way (cuts_of front) + whole_of u way P
wholes_of-more u way [] P = omega arith
wholes_of-more u way (Q ∷ front) P = let rest = wholes_of-more u way front P in omega (arith, rest)

-- behind the last child of a node, whose parts are then those of the node
pub whole_closed : (u : Version) (way : Key → Way) (os : List Open) (o : Open) (P : Cut)
    → whole_so_far u way (o ∷ os) + whole_of u way P ≡ whole_so_far u way os + whole_of u way (closed o P)
whole_closed u way os o P = omega (arith, wholes_of-more u way o.front P)

-- behind a child that others follow
pub whole_on : (u : Version) (way : Key → Way) (os : List Open) (o : Open) (P : Cut)
    → whole_so_far u way (o ∷ os) + whole_of u way P ≡ whole_so_far u way (one_on o P ∷ os)
whole_on u way os o P = whole_closed u way os o P

-- ---- no more than their type has

part_le : (b : Bool) (n : ℕ) → (if b then n else 0) ≤ n
part_le true n = omega arith
part_le false n = omega arith

mutual
  -- no more than all that the cut counts
  whole_le_count : (u : Version) (way : Key → Way) (P : Cut) → whole_of u way P ≤ count u P
  whole_le_count u way (Pruned part) = part_le (is_whole (way (key_at u part.mask part.rect))) part.count
  whole_le_count u way (Leaf rs) = omega arith
  whole_le_count u way (Inner Ps) = wholes_le_counts u way Ps

  wholes_le_counts : (u : Version) (way : Key → Way) (Ps : Cuts) → wholes_of u way Ps ≤ sum (counts u Ps)
  wholes_le_counts u way no_more = omega arith
  wholes_le_counts u way (first P Ps) = omega (
    arith,
    whole_le_count u way P,
    wholes_le_counts u way Ps,
    sum_by-cons (λ (n : ℕ). n) (count u P) (counts u Ps),
  )

-- where a cut counts as many records as its head, which is below the type's end, the sum is exact
pub whole_exact : (h : Head) (way : Key → Way) (part : Option Cut) → h.count < 2 ^ 64
    → is_other_count h part ≡ false → capped (whole_in h.version way part) ≡ whole_in h.version way part
whole_exact h way None few counted = refl
whole_exact h way (Some P) few counted =
    let same : count h.version P ≡ told h.version h.count = count_right h (Some P) counted in
    omega (arith, same, told_le h.version h.count, whole_le_count h.version way P)
