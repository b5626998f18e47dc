use Rattle.mr_command.proofs.Refusals.{tells_no_memory}
use Rattle.mr_command.proofs.audit_count_command.count_finding.Goals as goal

pub returns-in-Err-NoMemory-clause-answered : goal.returns-in-Err-NoMemory-clause-answered
returns-in-Err-NoMemory-clause-answered g c =
    tells_no_memory (g.N.Nodes.refusal c.args.nodes.now) (g.N.Nodes.refusal c.audit_choice.new.nodes)
    c.in-Err-NoMemory.field-0 c.in-Err-NoMemory.field-0-is c.in-Err-NoMemory.ensures.answered
