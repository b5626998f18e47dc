use Rattle.mr_check.specs.declared.frame.Frame.{Frame}
use Rattle.std.proofs.Common.{◌-◌, ◌<◌, length, ap, sym, ◌∙◌, arith}
use Rattle.std.proofs.lemmas.List.{get_or_default}
use Rattle.mr_check.proofs.OnTop.{added_on_top}
use Rattle.mr_check.proofs.closing.goes_on.Goals as goal

pub returns-clause-adds : goal.returns-clause-adds
returns-clause-adds g c = λ same.
    let last = c.len-deep.result - 1 in
    let within : last < length c.args.stack.now.list.items = omega (arith, c.len-deep.ensures, c.if-deep-eq0.false) in
    let one = c.index.ensures ∙ get_or_default c.args.stack.now.list.items last c.index.result.now
    c.index_mut.result.now within ∙ sym c.index_mut.ensures.value in
    let some : 0 < c.index_mut.result.now.left =
    omega (arith, c.if-index-eq0.false, ap (λ (f : Frame _). f.left) one) in
    added_on_top c.args.version g.H.Hashes.holds c.args.node.now c.args.stack.now.list.items (c.len-deep.result - 1)
    c.index_mut.result.now c.add.new.frame (omega (arith, c.len-deep.ensures, c.if-deep-eq0.false))
    c.index_mut.ensures.value some c.add.ensures.left c.add.ensures.adds c.add.ensures.counted
