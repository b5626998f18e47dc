use Rattle.mr_pages.proofs.Answered.{cells_are_bytes}
use Rattle.mr_here.proofs.forming.are_bytes.Goals as goal

pub returns : goal.returns
returns c = cells_are_bytes c.args._bytes.now c.type_inv._bytes
