use Rattle.std.proofs.Common.{◌≤◌, ◌<◌, ◌+◌, ◌-◌, ◌/◌, ℕ, length, to_z, of_z, w64, ap, arith, rules}
use Rattle.mr_reach.proofs.Walking.{step_few, step_some, step_half, step_sum, step_low, step_first, step_second}
use Rattle.mr_reach.proofs.corners.Corners.count_before.Goals as goal

pub rank-requires-clause-fits : goal.rank-requires-clause-fits
rank-requires-clause-fits c =
    let within : c.args.at < length c.self.inside.ys.items = search rules in
    let few = step_few c.self.inside.ys.items c.self.inside.heights.items c.self.inside.levels.items
    (to_z w64 (of_z w64 c.args.y)) c.args.at c.loop-left.left c.loop-left.start c.loop-left.sum c.loop-left.low
    c.index-level.result.now c.deref-in-loop-left.result.now c.self.invariant.low within c.loop-left-test.true
    c.loop-left.invariant.within c.loop-left.invariant.walks c.index-level.ensures
    c.deref-in-loop-left.ensures.value in
    let small = c.self.inside.ys.small in
    omega arith

pub overflow_sub-front : goal.overflow_sub-front
overflow_sub-front c =
    let within : c.args.at < length c.self.inside.ys.items = search rules in
    let some = step_some c.self.inside.ys.items c.self.inside.heights.items c.self.inside.levels.items
    (to_z w64 (of_z w64 c.args.y)) c.args.at c.loop-left.left c.loop-left.start c.loop-left.sum c.loop-left.low
    c.index-level.result.now c.deref-in-loop-left.result.now c.self.invariant.low within c.loop-left-test.true
    c.loop-left.invariant.within c.loop-left.invariant.walks c.index-level.ensures
    c.deref-in-loop-left.ensures.value in
    let is = c.rank.ensures in
    omega arith

pub overflow_add-start-in-loop-left : goal.overflow_add-start-in-loop-left
overflow_add-start-in-loop-left c =
    let within : c.args.at < length c.self.inside.ys.items = search rules in
    let far = step_half c.self.inside.ys.items c.self.inside.heights.items c.self.inside.levels.items
    (to_z w64 (of_z w64 c.args.y)) c.args.at c.loop-left.left c.loop-left.start c.loop-left.sum c.loop-left.low
    c.index-level.result.now c.deref-in-loop-left.result.now c.self.invariant.low within c.loop-left-test.true
    c.loop-left.invariant.within c.loop-left.invariant.walks c.index-level.ensures
    c.deref-in-loop-left.ensures.value in
    let small = c.self.inside.ys.small in
    omega arith

pub loop-left-preserved-then-at-start : goal.loop-left-preserved-then-at-start
loop-left-preserved-then-at-start c =
    let within : c.args.at < length c.self.inside.ys.items = search rules in
    record {
      within = search rules;
      walks = step_first c.self.inside.ys.items c.self.inside.heights.items c.self.inside.levels.items
          (to_z w64 (of_z w64 c.args.y)) c.args.at c.loop-left.left c.loop-left.start c.loop-left.sum c.loop-left.low
          c.index-level.result.now c.deref-in-loop-left.result.now c.self.invariant.low within c.loop-left-test.true
          c.loop-left.invariant.within c.loop-left.invariant.walks c.index-level.ensures
          c.deref-in-loop-left.ensures.value (c.rank.result - c.loop-left.start / 2)
          (ap (λ (n : ℕ). n - c.loop-left.start / 2) c.rank.ensures) c.if-at-start.true;
    }

pub overflow_add-sum : goal.overflow_add-sum
overflow_add-sum c =
    let within : c.args.at < length c.self.inside.ys.items = search rules in
    let far = step_sum c.self.inside.ys.items c.self.inside.heights.items c.self.inside.levels.items
    (to_z w64 (of_z w64 c.args.y)) c.args.at c.loop-left.left c.loop-left.start c.loop-left.sum c.loop-left.low
    c.index-level.result.now c.deref-in-loop-left.result.now c.self.invariant.low within c.loop-left-test.true
    c.loop-left.invariant.within c.loop-left.invariant.walks c.index-level.ensures
    c.deref-in-loop-left.ensures.value (c.rank.result - c.loop-left.start / 2)
    (ap (λ (n : ℕ). n - c.loop-left.start / 2) c.rank.ensures) in
    let small = c.self.inside.ys.small in
    omega arith

pub overflow_sub-low : goal.overflow_sub-low
overflow_sub-low c =
    let within : c.args.at < length c.self.inside.ys.items = search rules in
    step_low c.self.inside.ys.items c.self.inside.heights.items c.self.inside.levels.items
    (to_z w64 (of_z w64 c.args.y)) c.args.at c.loop-left.left c.loop-left.start c.loop-left.sum c.loop-left.low
    c.index-level.result.now c.deref-in-loop-left.result.now c.self.invariant.low within c.loop-left-test.true
    c.loop-left.invariant.within c.loop-left.invariant.walks c.index-level.ensures
    c.deref-in-loop-left.ensures.value (c.rank.result - c.loop-left.start / 2)
    (ap (λ (n : ℕ). n - c.loop-left.start / 2) c.rank.ensures)

pub loop-left-preserved : goal.loop-left-preserved
loop-left-preserved c =
    let within : c.args.at < length c.self.inside.ys.items = search rules in
    let behind : c.loop-left.start + c.index-level.result.now.half ≤ c.args.at = search rules in
    record {
      within = search rules;
      walks = step_second c.self.inside.ys.items c.self.inside.heights.items c.self.inside.levels.items
          (to_z w64 (of_z w64 c.args.y)) c.args.at c.loop-left.left c.loop-left.start c.loop-left.sum c.loop-left.low
          c.index-level.result.now c.deref-in-loop-left.result.now c.self.invariant.low within c.loop-left-test.true
          c.loop-left.invariant.within c.loop-left.invariant.walks c.index-level.ensures
          c.deref-in-loop-left.ensures.value (c.rank.result - c.loop-left.start / 2)
          (ap (λ (n : ℕ). n - c.loop-left.start / 2) c.rank.ensures) behind;
    }
