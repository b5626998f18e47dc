use Rattle.mr_bundle.proofs.Refusals.{tells_no_memory}
use Rattle.mr_command.proofs.count_command.count_proof.Goals as goal

pub returns-in-Err-NoMemory-clause-answered : goal.returns-in-Err-NoMemory-clause-answered
returns-in-Err-NoMemory-clause-answered g c =
    tells_no_memory (g.N.Nodes.refusal c.args.nodes.now) (g.N.Nodes.refusal c.prove_choice.new.nodes)
    c.in-Err-NoMemory.field-0 c.in-Err-NoMemory.field-0-is c.in-Err-NoMemory.ensures.answered
