use Rattle.std.proofs.Common.{◌-◌, get_or, false, arith}
use Rattle.mr_reach.proofs.Bits.{byte_low, mask_fits}
use Rattle.mr_reach.proofs.marks.mask.Goals as goal

pub overflow_mul-bits : goal.overflow_mul-bits
overflow_mul-bits c =
    let fits = mask_fits c.args.marks.now c.loop-at.at c.loop-at-test.true c.requires in
    let is = c.loop-at.invariant.is in
    omega arith

pub overflow_add-bits : goal.overflow_add-bits
overflow_add-bits c =
    let fits = mask_fits c.args.marks.now c.loop-at.at c.loop-at-test.true c.requires in
    let is = c.loop-at.invariant.is in
    omega (arith, c.from.ensures, byte_low (get_or c.args.marks.now (c.loop-at.at - 1) false))
