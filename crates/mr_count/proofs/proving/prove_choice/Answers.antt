use Rattle.std.specs.Prelude.{None}
use Rattle.mr_record.specs.declared.version.Version.TheVariants.{Two}
use Rattle.mr_count.specs.Chosen.{chosen}
use Rattle.mr_count.proofs.HonestChoices.{accepts}
use Rattle.mr_count.proofs.proving.prove_choice.Goals as goal

pub returns-clause-accepted : goal.returns-clause-accepted
returns-clause-accepted g c =
    let way = g.C.Choice.ways c.args.choice.now in
    let law = c.choice_is_lawful.ensures in
    accepts g.N.Hash.Hashes.of c.args.kind way (law.narrow None)
    (c.honest_proof_is_accepted.ensures.accepted Two (chosen c.args.kind way) law)
    (c.honest_proof_is_accepted.ensures.quiet Two (chosen c.args.kind way) law)
