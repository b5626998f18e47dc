use Rattle.mr_check.proofs.Gathering.{started}
use Rattle.mr_check.proofs.collector.Collector.new.Goals as goal

pub returns : goal.returns
returns g c =
    started g.H.Hashes.of g.H.Hashes.holds (g.A.AsQuestion.question c.args.q.now) c.args.root.now
    c.in_ok-verifier.verifier _
    c.in_ok-verifier.ensures c.new-2.ensures.items
