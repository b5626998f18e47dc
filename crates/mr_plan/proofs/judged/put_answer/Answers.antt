use Rattle.mr_plan.proofs.BundleLines.{accepted_after}
use Rattle.mr_plan.proofs.judged.put_answer.Goals as goal

pub returns : goal.returns
returns c =
    accepted_after c.args.query c.args.version c.args.answer.now c.args.out.now.bytes.items
    c.put_answered.new.out.bytes.items
    c.put_records.new.out.bytes.items c.put_records.result c.in_ok-put_answered.ensures c.put_records.ensures
