use Rattle.mr_draft.specs.Sheets.{zeros}
use Rattle.mr_draft.proofs.pages.clear.Goals as goal

pub returns : goal.returns
unfolding zeros
returns c = c.clear_all.ensures
