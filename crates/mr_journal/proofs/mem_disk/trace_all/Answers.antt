use Rattle.std.proofs.Common.{sym, ◌∙◌}
use Rattle.mr_journal.specs.private.Traced.{trace_of}
use Rattle.mr_journal.proofs.Replaying.{stored_next, stored_none}
use Rattle.mr_journal.proofs.mem_disk.trace_all.Goals as goal

pub loop-call-init : goal.loop-call-init
loop-call-init c =
    (λ i. record {
      held = c.in_ok-from_slice.ensures.items i;
      synced = c.in_ok-from_slice-2.ensures.items i;
      touched =
          c.new.ensures.items i;
    })
    ∙ sym (stored_none c.args.area c.args.first.now)

pub loop-call-preserved : goal.loop-call-preserved
loop-call-preserved c =
    stored_next c.args.area c.args.first.now c.args.calls.now c.loop-call.call-index c.call-item.result
    (trace_of c.loop-call.so_far) (trace_of c.in_ok-so_far.so_far)
    c.loop-call-test.true c.call-item.is c.in_ok-so_far.ensures c.loop-call.invariant
