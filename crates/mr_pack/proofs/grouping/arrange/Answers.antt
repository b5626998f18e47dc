use Rattle.std.proofs.Common.{ℕ, ◌≡◌, ◌≤◌, ◌<◌, ◌+◌, ◌-◌, ◌++◌, [], length, drop, sym, ap, ◌∙◌, arith}
use Rattle.std.specs.List.{flat_map}
use Rattle.std.proofs.lemmas.List.{append-nil, drop_all}
use borrow.Rule.Slice.PartMut.{mid_of, put_mid}
use Rattle.mr_pack.specs.Cuts.{parts, slice_start, slice_count}
use Rattle.mr_pack.specs.Entries.{is_left, is_below, arranged}
use Rattle.mr_record.specs.Sorting.{sorted_by}
use Rattle.mr_pack.proofs.Numbers.{slice_first, slice_rises, slice_within, slice_reaches}
use Rattle.mr_pack.proofs.Cuts.{one_more_part, length_of_sorted_parts, length_of_sorted, Climbs}
use Rattle.mr_pack.proofs.grouping.arrange.Goals as goal

pub loop-slice-init : goal.loop-slice-init
loop-slice-init g c = record {
  so_far =
      c.in_ok-sort_by_x.ensures
      ∙ ap (λ n. drop n (sorted_by is_left c.args.entries.now))
      (sym (slice_first (length c.sort_by_x.new.entries) c.args.groups c.slice_count-slices.result));
}

-- a slice ends behind its start
ends_later : (from to n p s j : ℕ) → from ≡ slice_start n p s j → to ≡ slice_start n p s (j + 1) → 0 < p → 0 < s →
    from ≤ to
ends_later from to n p s j starts ends some slices = omega (arith, starts, ends, slice_rises n p s j some slices)

pub slice_bounds-sort_by_y-start : goal.slice_bounds-sort_by_y-start
slice_bounds-sort_by_y-start g c =
    omega (
      arith,
      ends_later _ _ (length c.sort_by_x.new.entries) c.args.groups c.slice_count-slices.result c.loop-slice.slice
          c.slice_start-from.ensures.value c.slice_start-to.ensures.value (omega arith) (omega arith),
    )

pub slice_bounds-sort_by_y-count : goal.slice_bounds-sort_by_y-count
slice_bounds-sort_by_y-count g c =
    omega (
      arith,
      ends_later _ _ (length c.sort_by_x.new.entries) c.args.groups c.slice_count-slices.result c.loop-slice.slice
          c.slice_start-from.ensures.value c.slice_start-to.ensures.value (omega arith) (omega arith),
    )

pub loop-slice-preserved : goal.loop-slice-preserved
loop-slice-preserved g c =
    let start = slice_start (length c.sort_by_x.new.entries) c.args.groups c.slice_count-slices.result in
    let i = c.loop-slice.slice in
    let xs = sorted_by is_left c.args.entries.now in
    let n = length c.sort_by_x.new.entries in
    let some : 0 < c.args.groups = omega arith in
    let slices : 0 < c.slice_count-slices.result = omega arith in
    let size : length c.sort_by_x.new.entries ≡ length xs = ap length c.in_ok-sort_by_x.ensures in
    let high : start (i + 1) ≤ length xs = omega
    (arith, size, slice_within n c.args.groups c.slice_count-slices.result (i + 1) some slices (omega arith)) in
    let low : start i ≤ start (i + 1) = slice_rises n c.args.groups c.slice_count-slices.result i some slices in
    let climbs : Climbs start i = record {
      first = slice_first n c.args.groups c.slice_count-slices.result;
      rises = λ k h. slice_rises n c.args.groups c.slice_count-slices.result k some slices;
    } in
    let from : c.slice_start-from.result ≡ start i = c.slice_start-from.ensures.value in
    let to : c.slice_start-to.result ≡ start (i + 1) = c.slice_start-to.ensures.value in
    let k = c.slice_start-to.result - c.slice_start-from.result in
    record {
      so_far = one_more_part (sorted_by is_below) start i xs c.loop-slice.entries
          (put_mid c.slice_start-from.result k c.loop-slice.entries c.sort_by_y.new.entries) c.sort_by_y.new.entries k
          low high
          (length_of_sorted_parts is_below start i xs climbs (omega (arith, low, high)))
          c.loop-slice.invariant.so_far
          (λ j. to j - from j)
          (c.in_ok-sort_by_y.ensures ∙ (λ j. sorted_by is_below (mid_of (from j) k c.loop-slice.entries)))
          (λ j. put_mid (from j) k c.loop-slice.entries c.sort_by_y.new.entries);
    }

pub returns : goal.returns
unfolding arranged
returns g c =
    let xs = sorted_by is_left c.args.entries.now in
    let size : length c.sort_by_x.new.entries ≡ length xs = ap length c.in_ok-sort_by_x.ensures in
    let n : length c.sort_by_x.new.entries ≡ length c.args.entries.now = size
    ∙ length_of_sorted is_left c.args.entries.now in
    let end : c.loop-slice.slice ≡ c.slice_count-slices.result = omega arith in
    let s : c.slice_count-slices.result ≡ slice_count c.args.groups = c.slice_count-slices.ensures.value in
    let start = slice_start (length c.sort_by_x.new.entries) c.args.groups c.slice_count-slices.result in
    let reached = slice_reaches (length c.sort_by_x.new.entries) c.args.groups c.slice_count-slices.result
    (λ h. c.requires.some (omega (arith, n, h))) c.slice_count-slices.ensures.not_empty in
    let none : drop (start c.loop-slice.slice) xs ≡ [] = ap (λ j. drop (start j) xs) end
    ∙ drop_all (start c.slice_count-slices.result) xs (omega (arith, reached, size)) in
    c.loop-slice.invariant.so_far
    ∙ (λ j. flat_map (sorted_by is_below) (parts (slice_start (n j) c.args.groups (s j)) ((end ∙ s) j) xs) ++ none j)
    ∙ append-nil _
