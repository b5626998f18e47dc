use Rattle.mr_tool.proofs.program.serve_on.Goals as goal

pub returns : goal.returns
returns g c = c.serve-came.ensures
