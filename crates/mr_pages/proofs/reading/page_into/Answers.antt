use Rattle.mr_pages.specs.PageBytes.{form_of}
use Rattle.mr_pages.proofs.PageReads.{page_told}
use Rattle.mr_pages.proofs.reading.page_into.Goals as goal

pub returns-clause-told : goal.returns-clause-told
returns-clause-told g c =
    page_told (form_of c.args.layout) (g.S.Shelf.state c.args.shelf.now).files c.args.name.now c.args.page
    c.args.into.now
    c.read_filled.new.into
    c.requires.size c.in_ok-read_filled.ensures.bytes
