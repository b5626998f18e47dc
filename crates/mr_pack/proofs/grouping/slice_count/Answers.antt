use Rattle.std.proofs.Common.{◌≤◌, arith, below_more}
use Rattle.mr_pack.proofs.Numbers.{slices_are, square_above, squares_rise, positive}
use Rattle.mr_pack.proofs.grouping.slice_count.Goals as goal

pub overflow_mul-slices : goal.overflow_mul-slices
overflow_mul-slices c =
    let low : c.loop-slices.slices ≤ 1048576 = omega (arith, c.loop-slices.invariant.within) in
    omega (arith, squares_rise c.loop-slices.slices 1048576 low)

pub loop-slices-smaller : goal.loop-slices-smaller
loop-slices-smaller c = omega (arith, square_above c.loop-slices.slices c.args.groups c.loop-slices-test.true)

pub loop-slices-preserved : goal.loop-slices-preserved
loop-slices-preserved c = record {
  within = omega (arith, square_above c.loop-slices.slices c.args.groups c.loop-slices-test.true);
  below = below_more _ _ c.loop-slices.invariant.below c.loop-slices-test.true;
}

pub returns-clause-value : goal.returns-clause-value
returns-clause-value c =
    slices_are c.args.groups c.loop-slices.slices c.loop-slices.invariant.within c.loop-slices-test.false
    c.loop-slices.invariant.below

pub returns-clause-not_empty : goal.returns-clause-not_empty
returns-clause-not_empty c = λ h. positive c.loop-slices.slices c.args.groups h c.loop-slices-test.false
