use Rattle.std.proofs.Common.{◌∙◌, sym}
use Rattle.mr_split.proofs.Steps.{first_takes, second_takes, one_goes, all_shared, length_of_placed}
use Rattle.mr_split.proofs.sharing.share.Goals as goal

pub returns-then-needs_all : goal.returns-then-needs_all
returns-then-needs_all c =
    first_takes c.args.left c.loop-placed._placed c.args.least c.args.list.now c.loop-placed.marks c.fill.new.marks _
    c.loop-placed-test.true
    (sym c.needs_all.ensures ∙ c.if-needs_all.true) c.fill.ensures c.loop-placed.invariant.rest

pub returns-then-needs_all-2 : goal.returns-then-needs_all-2
returns-then-needs_all-2 c =
    second_takes c.args.left c.loop-placed._placed c.args.least c.args.list.now c.loop-placed.marks
    c.fill-then-needs_all-2.new.marks _ c.loop-placed-test.true
    (sym c.needs_all.ensures ∙ c.if-needs_all.false) (sym c.needs_all-in-loop-placed.ensures ∙ c.if-needs_all-2.true)
    c.fill-then-needs_all-2.ensures c.loop-placed.invariant.rest

pub loop-placed-preserved : goal.loop-placed-preserved
loop-placed-preserved c = record {
  same = length_of_placed c.args.list.now c.loop-placed.marks c.place_next.new.marks c.place_next.ensures
      ∙ c.loop-placed.invariant.same;
  rest =
      one_goes c.args.left c.loop-placed._placed c.args.least c.args.list.now c.loop-placed.marks
      c.place_next.new.marks _ c.loop-placed-test.true
      (sym c.needs_all.ensures ∙ c.if-needs_all.false) (sym c.needs_all-in-loop-placed.ensures
      ∙ c.if-needs_all-2.false) c.place_next.ensures c.loop-placed.invariant.rest;
}

pub returns : goal.returns
returns c =
    all_shared c.args.left c.loop-placed._placed c.args.least c.args.list.now c.loop-placed.marks _
    c.loop-placed-test.false c.loop-placed.invariant.rest
