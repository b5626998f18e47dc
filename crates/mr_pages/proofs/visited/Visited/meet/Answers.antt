use Rattle.std.proofs.Common.{arith, ◌≡◌, length, ap, refl, take, ◌∙◌}
use Rattle.std.proofs.Math.Seq.{take-length}
use Rattle.std.proofs.lemmas.Bool.{OnFalse_at}
use Rattle.mr_pages.proofs.Meeting.{met_again, still_none, saw_more, met_all}
use Rattle.mr_pages.proofs.visited.Visited.meet.Goals as goal

pub returns-then-branch-clause-told : goal.returns-then-branch-clause-told
returns-then-branch-clause-told c = λ pages ps ns saw.
    let so_far = c.loop-record.invariant.told pages ps ns saw in
    let met = c.in_ok-meet.ensures _ so_far.saw.met in (
      met_again ns c.args.records.now c.loop-record.record-index c.record-item.result
          c.loop-record-test.true c.record-item.is so_far.none met.0 c.if-branch.true,
      tt,
    )

pub loop-record-preserved : goal.loop-record-preserved
loop-record-preserved c = record {
  same = c.loop-record.invariant.same;
  told = λ pages ps ns saw.
      let so_far = c.loop-record.invariant.told pages ps ns saw in
      let met = c.in_ok-meet.ensures _ so_far.saw.met in
      record {
        none = still_none ns c.args.records.now c.loop-record.record-index c.record-item.result
            c.loop-record-test.true c.record-item.is so_far.none met.0 c.if-branch.false;
        saw = saw_more pages ps ns c.loop-record.self (record
            { reached = c.loop-record.self.reached; numbers = c.meet.new.self }) c.args.records.now
            c.loop-record.record-index c.record-item.result
            c.loop-record-test.true c.record-item.is so_far.saw refl (OnFalse_at c.if-branch.false met.1);
      };
}

pub returns-clause-told : goal.returns-clause-told
returns-clause-told c = λ pages ps ns saw.
    let so_far = c.loop-record.invariant.told pages ps ns saw in
    let end : c.loop-record.record-index ≡ length c.args.records.now = omega arith in
    let all : take c.loop-record.record-index c.args.records.now ≡ c.args.records.now =
    ap (λ n. take n c.args.records.now) end ∙ take-length c.args.records.now in
    met_all pages ps ns c.loop-record.self c.args.records.now
    (take c.loop-record.record-index c.args.records.now) all so_far.none so_far.saw
