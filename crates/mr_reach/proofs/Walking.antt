-- A walk through the levels of a list, from all of it to one place.
use Rattle.std.proofs.Common.{◌≡◌, ℕ, zero, suc, ◌+◌, ◌-◌, ◌*◌, ◌/◌, ◌^◌, ◌≤◌, ◌<◌, ℤ, List, length, get_or, take, drop, refl, sym, ap, subst, ◌∙◌, arith}
use Rattle.std.specs.Prelude.{int_le}
use Rattle.std.proofs.Math.Nat.{pow-succ'}
use Rattle.std.proofs.lemmas.List.{take_all, length-take, length-drop, drop-drop}
use Rattle.std.proofs.lemmas.List.Sums.{count_by-le-length}
use Rattle.mr_reach.specs.private.Ranks.{at_most}
use Rattle.mr_reach.specs.private.Marks.{rank}
use Rattle.mr_reach.specs.private.Levels.{IsLevel, HasLevels, in_front, in_back}
use Rattle.mr_reach.specs.declared.levels.Level.{Level}
use Rattle.mr_reach.specs.declared.marks.Run.{Run}
use Rattle.mr_reach.proofs.Blocks.{at_most_parts, twice, twice_more}

-- a block of this length holds the place: `sum` numbers before it, and `low` in it, are at most v
pub record Walks (list : List ℤ) (v : ℤ) (at size start sum low : ℕ) : Type 0 where
  pub count : ℕ
  pub block : start ≡ count * size
  pub from : start ≤ at
  pub below : at < start + size
  pub before : sum ≡ at_most v (take start list)
  pub here : low ≡ at_most v (take size (drop start list))

pub walk_all : (list sorted : List ℤ) (levels : List Level) (v : ℤ) (at low : ℕ) → HasLevels list sorted levels
    → at < length list → low ≡ at_most v list → Walks list v at (2 ^ length levels) 0 0 low
walk_all list sorted levels v at low has within low_is =
    let high = has.high in
    record {
      count = 0;
      block = nothing (2 ^ length levels);
      from = omega arith;
      below = omega arith;
      before = refl;
      here = low_is ∙ ap (at_most v) (sym (take_all (2 ^ length levels) list high));
    }
  where
    nothing : (n : ℕ) → 0 ≡ 0 * n
    nothing n = grind arith

pub walk_end : (list : List ℤ) (v : ℤ) (at start sum low : ℕ) → Walks list v at (2 ^ 0) start sum low
    → sum ≡ at_most v (take at list)
walk_end list v at start sum low w =
    let from = w.from in
    let below = w.below in
    let is : start ≡ at = omega arith in
    w.before ∙ ap (λ (n : ℕ). at_most v (take n list)) is

-- what a level says of the block
pub record Fronts (list : List ℤ) (v : ℤ) (half start low : ℕ) (level : Level) : Type 0 where
  pub own : level.half ≡ half
  pub short : half < length list
  pub room : start + low < 64 * length level.runs.items
  pub few : rank level.runs.items (start + low) ≤ length list
  pub some : start / 2 ≤ rank level.runs.items (start + low)
  pub is : rank level.runs.items (start + low) - start / 2 ≡ at_most v (take half (drop start list))
  pub both : low ≡ at_most v (take half (drop start list)) + at_most v (take half (drop half (drop start list)))

pub fronts_of : (list : List ℤ) (v : ℤ) (at half start sum low : ℕ) (level : Level) → at < length list
    → Walks list v at (half + half) start sum low → IsLevel list half level → Fronts list v half start low level
fronts_of list v at half start sum low level within w is =
    let a = in_front list half w.count v in
    let b = in_back list half w.count v in
    let first = count_by-le-length (λ (x : ℤ). int_le x v) (take half (drop start list)) in
    let second = count_by-le-length (λ (x : ℤ). int_le x v) (take half (drop half (drop start list))) in
    let from = w.from in
    let low_fits : start + low ≤ length list =
    omega (
      arith,
      both,
      length-take half (drop start list),
      length-take half (drop half (drop start list)),
      length-drop half (drop start list),
      length-drop start list,
    ) in
    let part : start + at_most v (take half (drop start list)) ≤ length list =
    omega (arith, length-take half (drop start list), length-drop start list) in
    let room = is.room in
    let value = ranked in
    let halved = half_start in
    record {
      own = is.own;
      short = is.short;
      room = omega arith;
      few = omega arith;
      some = omega arith;
      is = omega arith;
      both = both;
    }
  where
    both : low ≡ at_most v (take half (drop start list)) + at_most v (take half (drop half (drop start list)))
    both = w.here ∙ at_most_parts v half half (drop start list)

    inside : w.count * (half + half) < length list
    inside = let from = w.from in let block = w.block in omega arith

    ranked : rank level.runs.items (start + low) ≡ w.count * half + at_most v (take half (drop start list))
    ranked =
        (λ i. rank level.runs.items (w.block i + both i))
        ∙ (λ i. rank level.runs.items (w.count * (half + half) + (at_most v (take half (drop (w.block i) list))
        + at_most v (take half (drop half (drop (w.block i) list))))))
        ∙ is.ranked w.count v inside
        ∙ (λ i. w.count * half + at_most v (take half (drop (sym w.block i) list)))

    half_start : start ≡ w.count * half + w.count * half
    half_start = w.block ∙ double w.count half
      where
        double : (k n : ℕ) → k * (n + n) ≡ k * n + k * n
        double k n = grind arith

pub walk_first : (list : List ℤ) (v : ℤ) (at half start sum low front : ℕ) → Walks list v at (half + half) start sum low
    → front ≡ at_most v (take half (drop start list)) → at < start + half → Walks list v at half start sum front
walk_first list v at half start sum low front w is before = record {
  count = w.count + w.count;
  block = w.block ∙ sym (twice w.count half);
  from = w.from;
  below = before;
  before = w.before;
  here = is;
}

pub walk_second : (list : List ℤ) (v : ℤ) (at half start sum low front : ℕ) →
    Walks list v at (half + half) start sum low
    → front ≡ at_most v (take half (drop start list))
    → low ≡ at_most v (take half (drop start list)) + at_most v (take half (drop half (drop start list)))
    → start + half ≤ at → Walks list v at half (start + half) (sum + front) (low - front)
walk_second list v at half start sum low front w is both behind =
    let below = w.below in
    record {
      count = w.count + w.count + 1;
      block = ap (λ (n : ℕ). n + half) w.block ∙ sym (twice_more w.count half);
      from = behind;
      below = omega arith;
      before = (λ i. w.before i + is i) ∙ sym (at_most_parts v start half list);
      here =
          let second : low - front ≡ at_most v (take half (drop half (drop start list))) = omega arith in
          second ∙ ap (λ (ys : List ℤ). at_most v (take half ys)) (drop-drop half start list);
    }

-- ---- a step to the level below

double_pow : (left : ℕ) → 0 < left → 2 ^ left ≡ 2 ^ (left - 1) + 2 ^ (left - 1)
double_pow zero some = absurd (omega arith)
double_pow (suc n) some =
    let more = pow-succ' 2 n in
    let less : suc n - 1 ≡ n = omega arith in
    let halves : 2 ^ suc n ≡ 2 ^ n + 2 ^ n = omega arith in
    halves ∙ ap (λ (k : ℕ). 2 ^ k + 2 ^ k) (sym less)

module _ (list sorted : List ℤ) (levels : List Level) (v : ℤ) (at left start sum low : ℕ) (level : Level)
    (runs : List Run) (has : HasLevels list sorted levels) (within : at < length list) (some : 0 < left)
    (most : left ≤ length levels) (w : Walks list v at (2 ^ left) start sum low)
    (level_is : level ≡ get_or levels (left - 1) level) (runs_is : runs ≡ level.runs.items) where
  halves : Walks list v at (2 ^ (left - 1) + 2 ^ (left - 1)) start sum low
  halves = subst (λ (n : ℕ). Walks list v at n start sum low) (double_pow left some) w

  known : Fronts list v (2 ^ (left - 1)) start low level
  known =
      let below : left - 1 < length levels = omega arith in
      fronts_of list v at (2 ^ (left - 1)) start sum low level within halves
      (subst (IsLevel list (2 ^ (left - 1))) (sym level_is) (has.each (left - 1) level below))

  same_rank : rank runs (start + low) ≡ rank level.runs.items (start + low)
  same_rank = ap (λ (rs : List Run). rank rs (start + low)) runs_is

  pub step_room : start + low < 64 * length runs
  step_room = let room = known.room in let same = ap length runs_is in omega arith

  pub step_few : rank runs (start + low) ≤ length list
  step_few = let few = known.few in omega (arith, same_rank)

  pub step_some : start / 2 ≤ rank runs (start + low)
  step_some = let least = known.some in omega (arith, same_rank)

  front_is : (front : ℕ) → front ≡ rank runs (start + low) - start / 2
      → front ≡ at_most v (take (2 ^ (left - 1)) (drop start list))
  front_is front is = is ∙ ap (λ (n : ℕ). n - start / 2) same_rank ∙ known.is

  pub step_first : (front : ℕ) → front ≡ rank runs (start + low) - start / 2 → at < start + level.half
      → Walks list v at (2 ^ (left - 1)) start sum front
  step_first front is before =
      let own = known.own in
      let near : at < start + 2 ^ (left - 1) = omega arith in
      walk_first list v at (2 ^ (left - 1)) start sum low front halves (front_is front is) near

  pub step_second : (front : ℕ) → front ≡ rank runs (start + low) - start / 2 → start + level.half ≤ at
      → Walks list v at (2 ^ (left - 1)) (start + level.half) (sum + front) (low - front)
  step_second front is behind =
      let own = known.own in
      let far : start + 2 ^ (left - 1) ≤ at = omega arith in
      subst (λ (n : ℕ). Walks list v at (2 ^ (left - 1)) (start + n) (sum + front) (low - front)) (sym own)
      (walk_second list v at (2 ^ (left - 1)) start sum low front halves (front_is front is) known.both far)

  pub step_low : (front : ℕ) → front ≡ rank runs (start + low) - start / 2 → front ≤ low
  step_low front is = let both = known.both in let own = front_is front is in omega arith

  pub step_sum : (front : ℕ) → front ≡ rank runs (start + low) - start / 2 → sum + front ≤ length list + length list
  step_sum front is =
      let before = w.before in
      let few = count_by-le-length (λ (x : ℤ). int_le x v) (take start list) in
      let least = step_few in
      omega (arith, length-take start list)

  pub step_half : start + level.half ≤ length list + length list
  step_half = let own = known.own in let short = known.short in let from = w.from in omega arith
