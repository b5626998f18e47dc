use Rattle.mr_pages.proofs.Answered.{cells_are_bytes}
use Rattle.mr_pages.proofs.reading.is_page.Goals as goal

pub returns : goal.returns
returns c = record { size = c.requires; are = cells_are_bytes c.args._bytes.now c.type_inv._bytes }
