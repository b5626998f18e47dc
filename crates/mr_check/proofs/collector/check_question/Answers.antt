use Rattle.std.proofs.Common.{arith}
use Rattle.mr_proof.proofs.FirstFault.{faults_just}
use Rattle.mr_proof.proofs.Halves.{shows_just}
use Rattle.mr_proof.proofs.Handed.{hands_opened}
use Rattle.mr_proof.proofs.Longer.{stays_refused}
use Rattle.mr_proof.proofs.Pairs.{one_pair_of, finds_pair_of}
use Rattle.mr_check.proofs.collector.check_question.Goals as goal

pub returns-clause-shows : goal.returns-clause-shows
returns-clause-shows g c =
    shows_just g.H.Hashes.of c.args.root.now (g.A.AsQuestion.question c.args.q.now) c.args.proof.now c.requires
    (λ i. omega (arith, c.type_inv.proof i))

pub returns-clause-faults : goal.returns-clause-faults
returns-clause-faults g c =
    faults_just g.H.Hashes.of c.args.root.now (g.A.AsQuestion.question c.args.q.now) c.args.proof.now

pub returns-clause-accepted : goal.returns-clause-accepted
returns-clause-accepted g c = λ v.
    c.accepted_matches_honest.ensures v (g.A.AsQuestion.question c.args.q.now) c.requires

pub returns-clause-complete : goal.returns-clause-complete
returns-clause-complete g c = λ v.
    c.honest_proof_is_accepted.ensures.accepted v (g.A.AsQuestion.question c.args.q.now) c.requires

pub returns-clause-longer : goal.returns-clause-longer
returns-clause-longer g c =
    stays_refused g.H.Hashes.of c.args.root.now (g.A.AsQuestion.question c.args.q.now) c.args.proof.now

pub returns-clause-one_pair : goal.returns-clause-one_pair
returns-clause-one_pair g c = one_pair_of (g.A.AsQuestion.question c.args.q.now).kind c.args.proof.now

pub returns-clause-pair : goal.returns-clause-pair
returns-clause-pair g c =
    finds_pair_of (g.A.AsQuestion.question c.args.q.now).kind c.args.proof.now
    (λ i. omega (arith, c.type_inv.proof i))

pub returns-clause-handed : goal.returns-clause-handed
returns-clause-handed g c = hands_opened (g.A.AsQuestion.question c.args.q.now) c.args.proof.now
