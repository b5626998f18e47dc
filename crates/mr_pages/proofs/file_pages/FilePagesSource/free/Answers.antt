use Rattle.std.proofs.Common.{sym, ◌∙◌, arith}
use Rattle.mr_pages.specs.PageBytes.{form_of}
use Rattle.mr_pages.proofs.PageReads.{shelf_gives}
use Rattle.mr_pages.proofs.file_pages.FilePagesSource.free.Goals as goal

pub returns-clause-next : goal.returns-clause-next
returns-clause-next g c =
    let s = c.args.self.now in
    shelf_gives (form_of s.layout) (omega (arith, s.fits.room)) s.name.now (s.shelf.ghost_name, s.into.ghost_name)
    s.pages c.args.page c.page_into.new.into (g.S.Shelf.state s.shelf.now) _
    s.paged c.requires c.in_ok-page_into.ensures.told c.in_ok-page_into.ensures.page
    (λ f h. c.free_on.ensures.exact ∙ sym h.free)
