use Rattle.std.proofs.Common.{◌+◌, arith, rules, refl}
use Rattle.mr_reach.proofs.Bits.{runs_more, runs_fit, runs_all}
use Rattle.mr_reach.proofs.marks.runs_of.Goals as goal

pub overflow_add-before : goal.overflow_add-before
overflow_add-before c =
    let fits = runs_fit c.args.marks.now c.loop-rest.rest.now c.split_at.result.0.now c.loop-rest.before
    c.ones-before.result c.loop-rest.runs.items c.mask-bits.result c.loop-rest.invariant c.split_at.ensures.front
    c.mask-bits.ensures c.ones-before.ensures in
    omega arith

pub loop-rest-preserved : goal.loop-rest-preserved
loop-rest-preserved c =
    runs_more c.args.marks.now c.loop-rest.rest.now c.split_at.result.0.now c.split_at.result.1.now
    c.loop-rest.before c.ones-before.result (c.loop-rest.before + c.ones-before.result) c.loop-rest.runs.items
    c.push.new.self.items c.mask-bits.result c.loop-rest.invariant (search rules) c.split_at.ensures.front
    c.split_at.ensures.back c.mask-bits.ensures (search rules) c.ones-before.ensures refl

pub returns : goal.returns
returns c =
    runs_all c.args.marks.now c.loop-rest.rest.now c.loop-rest.before c.loop-rest.runs.items c.push-2.new.self.items
    c.mask-bits-2.result c.loop-rest.invariant (search rules) c.mask-bits-2.ensures (search rules)
