-- The record is that of the same run: written out, so that a body which ends otherwise is refused at
-- once.
use Rattle.mr_tool.proofs.program.run.Goals as goal

pub returns-clause-run : goal.returns-clause-run
returns-clause-run g c = c.answered.ensures.run
