use Rattle.std.proofs.Common.{arith, subst}
use Rattle.std.specs.Prelude.{None, ◌<◌, ◌^◌, ℕ}
use Rattle.mr_record.proofs.Encodings.{IsBytes}
use Rattle.mr_tree.specs.Digest.{by}
use Rattle.mr_count.specs.Chosen.{chosen}
use Rattle.mr_count.proofs.Findings.{told_from, honest_from, given_from, judged, finding_fits, finding_breaks, collides, honest_few}
use Rattle.mr_count.proofs.auditing.audit_choice.Goals as goal

pub returns-clause-told : goal.returns-clause-told
returns-clause-told g c =
    let s = g.N.Nodes.stands c.args.nodes.now in
    told_from (by s.version g.N.Hash.Hashes.of) s.batch c.args.kind (g.C.Choice.ways c.args.choice.now)
    c.args.proof.now c.in_ok-finding.finding c.finding_of.result c.finding_of.ensures s.tree
    c.in_ok-finding.ensures.told

pub returns-clause-honest : goal.returns-clause-honest
returns-clause-honest g c =
    let s = g.N.Nodes.stands c.args.nodes.now in
    honest_from (by s.version g.N.Hash.Hashes.of) s.batch c.args.kind (g.C.Choice.ways c.args.choice.now)
    c.args.proof.now c.in_ok-finding.finding c.finding_of.result c.finding_of.ensures s.tree
    c.in_ok-finding.ensures.honest

pub returns-clause-given : goal.returns-clause-given
returns-clause-given g c =
    let s = g.N.Nodes.stands c.args.nodes.now in
    let way = g.C.Choice.ways c.args.choice.now in
    let law = c.choice_is_lawful.ensures in
    let low = subst (λ (b : ℕ). b < 2 ^ 64) c.top-top.ensures.is.batch c.is_word.ensures in
    given_from (by s.version g.N.Hash.Hashes.of) s.batch c.args.kind way c.args.proof.now c.in_ok-finding.finding
    c.finding_of.result c.finding_of.ensures s.tree (law.narrow None)
    (c.accepted_matches_honest.ensures s.version (chosen c.args.kind way) law) low
    (g.met.N.Nodes.well_formed c.args.nodes.now) (g.met.N.Nodes.layered c.args.nodes.now) c.in_ok-finding.ensures.told

pub returns-clause-judged : goal.returns-clause-judged
returns-clause-judged g c =
    judged g.N.Hash.Hashes.of (g.N.Nodes.stands c.args.nodes.now) (g.N.Nodes.says c.args.nodes.now) c.args.kind
    (g.C.Choice.ways c.args.choice.now) c.args.proof.now c.in_ok-finding.finding c.finding_of.result
    c.in_ok-finding.ensures.judged c.finding_of.ensures

pub returns-clause-fits : goal.returns-clause-fits
returns-clause-fits g c =
    let fits : IsBytes c.args.proof.now = λ i. omega (arith, c.type_inv.proof i) in
    finding_fits g.N.Hash.Hashes.of (g.N.Nodes.stands c.args.nodes.now) (g.N.Nodes.says c.args.nodes.now) c.args.kind
    (g.C.Choice.ways c.args.choice.now) c.args.proof.now c.in_ok-finding.finding c.finding_of.result
    c.choice_is_lawful.ensures fits c.in_ok-finding.ensures.judged c.finding_of.ensures

pub returns-clause-collides : goal.returns-clause-collides
returns-clause-collides g c =
    collides g.N.Hash.Hashes.of c.in_ok-finding.finding c.finding_of.result c.in_ok-finding.ensures.collides
    c.finding_of.ensures

pub returns-clause-rules : goal.returns-clause-rules
returns-clause-rules g c =
    finding_breaks g.N.Hash.Hashes.of (g.N.Nodes.stands c.args.nodes.now) (g.N.Nodes.says c.args.nodes.now)
    c.args.kind (g.C.Choice.ways c.args.choice.now) c.args.proof.now c.in_ok-finding.finding c.finding_of.result
    c.in_ok-finding.ensures.judged c.finding_of.ensures

pub returns-clause-fetched_honest : goal.returns-clause-fetched_honest
returns-clause-fetched_honest g c =
    let s = g.N.Nodes.stands c.args.nodes.now in
    let way = g.C.Choice.ways c.args.choice.now in
    let low = subst (λ (b : ℕ). b < 2 ^ 64) c.top-top.ensures.is.batch c.is_word.ensures in
    honest_few g.N.Hash.Hashes.of s c.args.kind way c.args.proof.now _ _
    (c.honest_proof_is_accepted.ensures.accepted s.version (chosen c.args.kind way) c.choice_is_lawful.ensures) low
    s.tree (g.met.N.Nodes.well_formed c.args.nodes.now) (g.met.N.Nodes.layered c.args.nodes.now)
    c.in_ok-finding.ensures.fetched

pub returns-in_err-finding-clause-fetched_honest : goal.returns-in_err-finding-clause-fetched_honest
returns-in_err-finding-clause-fetched_honest g c =
    let s = g.N.Nodes.stands c.args.nodes.now in
    let way = g.C.Choice.ways c.args.choice.now in
    let low = subst (λ (b : ℕ). b < 2 ^ 64) c.top-top.ensures.is.batch c.is_word.ensures in
    honest_few g.N.Hash.Hashes.of s c.args.kind way c.args.proof.now _ _
    (c.honest_proof_is_accepted.ensures.accepted s.version (chosen c.args.kind way) c.choice_is_lawful.ensures) low
    s.tree (g.met.N.Nodes.well_formed c.args.nodes.now) (g.met.N.Nodes.layered c.args.nodes.now)
    c.in_err-finding.ensures.fetched
