use Rattle.mr_clash.proofs.HonestProofs.{honest_proof_told}
use Rattle.mr_clash.proofs.question_finding.audit_question.Goals as goal

pub returns-clause-honest : goal.returns-clause-honest
returns-clause-honest g c =
    let a = g.A.AsQuestion.question c.args.q.now in
    let s = g.N.Nodes.stands c.args.nodes.now in
    honest_proof_told g.N.Hash.Hashes.of a c.args.proof.now s c.top-top.result
    c.audited_by.result c.top-top.ensures.is c.are_words.ensures.batch
    (c.honest_proof_is_accepted.ensures.accepted s.version a c.requires)
    (c.accepted_matches_honest.ensures s.version a c.requires)
    (c.honest_proof_is_accepted.ensures.quiet s.version a c.requires)
    (g.met.N.Nodes.well_formed c.args.nodes.now) (g.met.N.Nodes.layered c.args.nodes.now) c.audited_by.ensures.told
