use Rattle.mr_check.proofs.Gathering.{gathered}
use Rattle.mr_check.proofs.collector.Collector.end.Goals as goal

pub returns-clause-exact : goal.returns-clause-exact
returns-clause-exact g c = λ root bytes is.
    gathered g.H.Hashes.of g.H.Hashes.holds (g.A.AsQuestion.question c.args.q.now) root c.args.self.verifier bytes
    c.args.self.kept
    c.in_ok-outline.outline is (c.in_ok-outline.ensures.closing root bytes is.stands)

pub returns-clause-accepted : goal.returns-clause-accepted
returns-clause-accepted g c = λ v root bytes is. c.in_ok-outline.ensures.accepted v root bytes is.stands

pub returns-in_err-outline-clause-accepted : goal.returns-in_err-outline-clause-accepted
returns-in_err-outline-clause-accepted g c = λ v root bytes is.
    c.in_err-outline.ensures.accepted v root bytes is.stands
