use Rattle.mr_tree.specs.Digest.{by}
use Rattle.mr_prove.proofs.Whole.{whole_told, front_told, fetched_told, right_none, no_radius_fits}
use Rattle.mr_prove.proofs.proving.prove_question.Goals as goal

pub returns-clause-written : goal.returns-clause-written
returns-clause-written g c =
    let s = g.N.Nodes.stands c.args.nodes.now in
    whole_told (by s.version g.N.Hash.Hashes.of) s.batch (g.A.AsQuestion.question c.args.q.now) s.tree
    (g.W.Sink.state c.args.out.now) (g.W.Sink.state c.write_proof.new.out) c.write_proof.result
    c.write_proof.ensures.whole

pub returns-clause-front : goal.returns-clause-front
returns-clause-front g c =
    let s = g.N.Nodes.stands c.args.nodes.now in
    front_told (by s.version g.N.Hash.Hashes.of) s.batch (g.A.AsQuestion.question c.args.q.now) s.tree
    (g.W.Sink.state c.args.out.now) (g.W.Sink.state c.write_proof.new.out) c.write_proof.result
    c.write_proof.ensures.front

pub returns-clause-fetched : goal.returns-clause-fetched
returns-clause-fetched g c =
    let s = g.N.Nodes.stands c.args.nodes.now in
    fetched_told (by s.version g.N.Hash.Hashes.of) (g.A.AsQuestion.question c.args.q.now) s.tree
    (g.N.Nodes.fetches c.args.nodes.now) (g.N.Nodes.fetches c.write_proof.new.nodes) c.write_proof.ensures.fetched

pub write_proof-requires-clause-right : goal.write_proof-requires-clause-right
write_proof-requires-clause-right g c =
    right_none (g.A.AsQuestion.question c.args.q.now) (g.N.Nodes.stands c.args.nodes.now) c.requires.around

pub write_proof-requires-clause-fits : goal.write_proof-requires-clause-fits
write_proof-requires-clause-fits g c = no_radius_fits (g.A.AsQuestion.question c.args.q.now).kind
