use Rattle.std.proofs.Common.{arith}
use Rattle.std.specs.Prelude.{None}
use Rattle.mr_record.proofs.Encodings.{IsBytes}
use Rattle.mr_record.specs.declared.version.Version.TheVariants.{Two}
use Rattle.mr_tree.specs.Digest.{by}
use Rattle.mr_count.specs.Chosen.{chosen}
use Rattle.mr_count.proofs.HonestChoices.{accepted, accepts}
use Rattle.mr_count.proofs.Findings.{answers_from, fits_from}
use Rattle.mr_count.proofs.Rules.{verdict_breaks}
use Rattle.mr_count.proofs.checking.check_choice.Goals as goal

pub returns-clause-exact : goal.returns-clause-exact
returns-clause-exact g c =
    answers_from g.H.Hashes.of c.args.root.now c.args.kind (g.C.Choice.ways c.args.choice.now) c.args.proof.now
    c.collected_by.result c.answer_of.result c.collected_by.ensures.exact c.answer_of.ensures

pub returns-clause-rules : goal.returns-clause-rules
returns-clause-rules g c = λ f e.
    verdict_breaks g.H.Hashes.of c.args.root.now c.args.kind (g.C.Choice.ways c.args.choice.now) c.args.proof.now f e

pub returns-clause-fits : goal.returns-clause-fits
returns-clause-fits g c =
    let fits : IsBytes c.args.proof.now = λ i. omega (arith, c.type_inv.proof i) in
    fits_from g.H.Hashes.of c.args.root.now c.args.kind (g.C.Choice.ways c.args.choice.now) c.args.proof.now
    c.collected_by.result c.answer_of.result c.choice_is_lawful.ensures fits c.collected_by.ensures.exact
    c.answer_of.ensures

pub returns-clause-accepted : goal.returns-clause-accepted
returns-clause-accepted g c = λ v.
    let way = g.C.Choice.ways c.args.choice.now in
    let law = c.choice_is_lawful.ensures in
    accepted (by v g.H.Hashes.of) c.args.kind way c.args.proof.now (law.narrow None)
    (c.accepted_matches_honest.ensures v (chosen c.args.kind way) law)

pub returns-clause-complete : goal.returns-clause-complete
returns-clause-complete g c =
    let way = g.C.Choice.ways c.args.choice.now in
    let law = c.choice_is_lawful.ensures in
    accepts g.H.Hashes.of c.args.kind way (law.narrow None)
    (c.honest_proof_is_accepted.ensures.accepted Two (chosen c.args.kind way) law)
    (c.honest_proof_is_accepted.ensures.quiet Two (chosen c.args.kind way) law)
