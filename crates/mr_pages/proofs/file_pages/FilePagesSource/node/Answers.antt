use Rattle.std.proofs.Common.{sym, subst, arith}
use Rattle.mr_pages.specs.PageBytes.{form_of}
use Rattle.mr_pages.specs.Faults.{of_level}
use Rattle.mr_pages.specs.Walking.{ShowsWanted}
use Rattle.mr_pages.proofs.PageReads.{shelf_gives}
use Rattle.mr_pages.proofs.file_pages.FilePagesSource.node.Goals as goal

pub returns-clause-shows : goal.returns-clause-shows
returns-clause-shows g c =
    let s = c.args.self.now in
    shelf_gives (form_of s.layout) (omega (arith, s.fits.room)) s.name.now (s.shelf.ghost_name, s.into.ghost_name)
    s.pages c.args.page c.page_into.new.into (g.S.Shelf.state s.shelf.now) _
    s.paged c.requires.within c.in_ok-page_into.ensures.told c.in_ok-page_into.ensures.page
    (λ f h. subst (λ o. ShowsWanted c.node_on.result c.node_on.new.into (of_level c.args.level o)) (sym h.node)
    c.node_on.ensures.exact)
