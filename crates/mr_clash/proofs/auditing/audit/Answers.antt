use Rattle.std.proofs.Common.{arith}
use Rattle.mr_record.proofs.Encodings.{IsBytes}
use Rattle.mr_tree.specs.Digest.{by}
use Rattle.mr_clash.proofs.Whole.{told_from, judged_from, fetched_from, few_from, finding_collides, honest_told}
use Rattle.mr_clash.proofs.auditing.audit.Goals as goal

pub returns-clause-told : goal.returns-clause-told
returns-clause-told g c =
    let s = g.N.Nodes.stands c.args.nodes.now in
    let fits : IsBytes c.args.proof.now = λ i. omega (arith, c.type_inv.proof i) in
    told_from c.args.q.now c.args.proof.now c.is_query.ensures fits (by s.version g.N.Hash.Hashes.of) s.tree s.batch
    c.in_ok-question_finding.question_finding c.in_ok-finding_of.field-0 c.in_ok-question_finding.ensures.told
    c.in_ok-finding_of.ensures

pub returns-clause-honest : goal.returns-clause-honest
returns-clause-honest g c =
    let s = g.N.Nodes.stands c.args.nodes.now in
    let fits : IsBytes c.args.proof.now = λ i. omega (arith, c.type_inv.proof i) in
    honest_told g.N.Hash.Hashes.of c.args.q.now c.args.proof.now s c.top-top.result c.in_ok-finding_of.field-0
    c.top-top.ensures.is c.are_words.ensures.batch (c.honest_is_accepted.ensures.accepted s.version)
    (c.accepted_is_honest.ensures.accepted s.version) (c.accepted_is_honest.ensures.quiet s.version)
    (g.met.N.Nodes.well_formed c.args.nodes.now) (g.met.N.Nodes.layered c.args.nodes.now)
    (told_from c.args.q.now c.args.proof.now c.is_query.ensures fits (by s.version g.N.Hash.Hashes.of) s.tree s.batch
    c.in_ok-question_finding.question_finding c.in_ok-finding_of.field-0 c.in_ok-question_finding.ensures.told
    c.in_ok-finding_of.ensures)

pub returns-clause-judged : goal.returns-clause-judged
returns-clause-judged g c =
    let fits : IsBytes c.args.proof.now = λ i. omega (arith, c.type_inv.proof i) in
    judged_from c.args.q.now c.args.proof.now c.is_query.ensures fits g.N.Hash.Hashes.of
    (g.N.Nodes.stands c.args.nodes.now) (g.N.Nodes.says c.args.nodes.now)
    c.in_ok-question_finding.question_finding c.in_ok-finding_of.field-0
    c.in_ok-question_finding.ensures.judged
    c.in_ok-finding_of.ensures

pub returns-clause-collides : goal.returns-clause-collides
returns-clause-collides g c =
    finding_collides g.N.Hash.Hashes.of c.args.q.now c.in_ok-question_finding.question_finding
    c.in_ok-finding_of.field-0
    c.in_ok-question_finding.ensures.collides c.in_ok-finding_of.ensures

pub returns-clause-fetched : goal.returns-clause-fetched
returns-clause-fetched g c =
    let s = g.N.Nodes.stands c.args.nodes.now in
    let fits : IsBytes c.args.proof.now = λ i. omega (arith, c.type_inv.proof i) in
    fetched_from c.args.q.now c.args.proof.now c.is_query.ensures fits (by s.version g.N.Hash.Hashes.of) s.tree s.batch
    (g.N.Nodes.fetches c.args.nodes.now) (g.N.Nodes.fetches c.audit_question.new.nodes)
    c.in_ok-question_finding.ensures.fetched

pub returns-in_err-question_finding-clause-fetched : goal.returns-in_err-question_finding-clause-fetched
returns-in_err-question_finding-clause-fetched g c =
    let s = g.N.Nodes.stands c.args.nodes.now in
    let fits : IsBytes c.args.proof.now = λ i. omega (arith, c.type_inv.proof i) in
    fetched_from c.args.q.now c.args.proof.now c.is_query.ensures fits (by s.version g.N.Hash.Hashes.of) s.tree s.batch
    (g.N.Nodes.fetches c.args.nodes.now) (g.N.Nodes.fetches c.audit_question.new.nodes)
    c.in_err-question_finding.ensures.fetched

pub returns-in_err-finding_of-clause-fetched : goal.returns-in_err-finding_of-clause-fetched
returns-in_err-finding_of-clause-fetched g c =
    let s = g.N.Nodes.stands c.args.nodes.now in
    let fits : IsBytes c.args.proof.now = λ i. omega (arith, c.type_inv.proof i) in
    fetched_from c.args.q.now c.args.proof.now c.is_query.ensures fits (by s.version g.N.Hash.Hashes.of) s.tree s.batch
    (g.N.Nodes.fetches c.args.nodes.now) (g.N.Nodes.fetches c.audit_question.new.nodes)
    c.in_ok-question_finding.ensures.fetched

pub returns-clause-fetches : goal.returns-clause-fetches
returns-clause-fetches g c =
    let fits : IsBytes c.args.proof.now = λ i. omega (arith, c.type_inv.proof i) in
    few_from c.args.q.now c.args.proof.now c.is_query.ensures fits g.N.Hash.Hashes.of
    (g.N.Nodes.stands c.args.nodes.now) (g.N.Nodes.says c.args.nodes.now)
    (g.N.Nodes.fetches c.args.nodes.now) (g.N.Nodes.fetches c.audit_question.new.nodes)
    c.in_ok-question_finding.ensures.fetches

pub returns-in_err-question_finding-clause-fetches : goal.returns-in_err-question_finding-clause-fetches
returns-in_err-question_finding-clause-fetches g c =
    let fits : IsBytes c.args.proof.now = λ i. omega (arith, c.type_inv.proof i) in
    few_from c.args.q.now c.args.proof.now c.is_query.ensures fits g.N.Hash.Hashes.of
    (g.N.Nodes.stands c.args.nodes.now) (g.N.Nodes.says c.args.nodes.now)
    (g.N.Nodes.fetches c.args.nodes.now) (g.N.Nodes.fetches c.audit_question.new.nodes)
    c.in_err-question_finding.ensures.fetches

pub returns-in_err-finding_of-clause-fetches : goal.returns-in_err-finding_of-clause-fetches
returns-in_err-finding_of-clause-fetches g c =
    let fits : IsBytes c.args.proof.now = λ i. omega (arith, c.type_inv.proof i) in
    few_from c.args.q.now c.args.proof.now c.is_query.ensures fits g.N.Hash.Hashes.of
    (g.N.Nodes.stands c.args.nodes.now) (g.N.Nodes.says c.args.nodes.now)
    (g.N.Nodes.fetches c.args.nodes.now) (g.N.Nodes.fetches c.audit_question.new.nodes)
    c.in_ok-question_finding.ensures.fetches
