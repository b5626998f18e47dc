use Rattle.mr_tree.specs.Digest.{by}
use Rattle.mr_join.specs.Causes.{watched}
use Rattle.mr_join.proofs.Audited.{part_found}
use Rattle.mr_join.proofs.Fetching.{part_few}
use Rattle.mr_join.proofs.Judged.{part_judged}
use Rattle.mr_join.proofs.Written.{for_each}
use Rattle.mr_join.proofs.auditing.audit_part.Goals as goal

pub returns-clause-told : goal.returns-clause-told
returns-clause-told g c =
    let s = g.N.Nodes.stands c.args.nodes.now in
    for_each s.tree _ _ (λ t e.
    part_found (by s.version g.N.Hash.Hashes.of) t s.batch c.in_ok-meets.meets c.args.list.now c.args.proof.now
    c.in_ok-finding.finding c.worth_of.result c.worth_of.ensures e c.in_ok-meets.ensures) c.in_ok-finding.ensures.told

pub returns-clause-judged : goal.returns-clause-judged
returns-clause-judged g c =
    part_judged g.N.Hash.Hashes.of (g.N.Nodes.stands c.args.nodes.now) (g.N.Nodes.says c.args.nodes.now)
    c.in_ok-meets.meets c.args.list.now c.args.proof.now c.in_ok-finding.finding c.worth_of.result c.worth_of.ensures
    c.in_ok-finding.ensures.judged
    c.in_ok-meets.ensures

pub returns-clause-fetches : goal.returns-clause-fetches
returns-clause-fetches g c =
    part_few g.N.Hash.Hashes.of (watched (g.N.Nodes.stands c.args.nodes.now) (g.N.Nodes.fetches c.args.nodes.now)
    (g.N.Nodes.fetches c.audit_choice.new.nodes)) (g.N.Nodes.says c.args.nodes.now)
    c.in_ok-meets.meets c.args.list.now c.args.proof.now
    c.in_ok-finding.ensures.fetches c.in_ok-meets.ensures

pub returns-in_err-finding-clause-fetches : goal.returns-in_err-finding-clause-fetches
returns-in_err-finding-clause-fetches g c =
    part_few g.N.Hash.Hashes.of (watched (g.N.Nodes.stands c.args.nodes.now) (g.N.Nodes.fetches c.args.nodes.now)
    (g.N.Nodes.fetches c.audit_choice.new.nodes)) (g.N.Nodes.says c.args.nodes.now)
    c.in_ok-meets.meets c.args.list.now c.args.proof.now
    c.in_err-finding.ensures.fetches c.in_ok-meets.ensures
