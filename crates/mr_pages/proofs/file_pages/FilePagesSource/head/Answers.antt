use Rattle.std.proofs.Common.{sym, subst, arith}
use Rattle.mr_pages.specs.PageBytes.{form_of}
use Rattle.mr_pages.specs.Walking.{AnswersHead}
use Rattle.mr_pages.proofs.PageReads.{shelf_gives_head}
use Rattle.mr_pages.proofs.file_pages.FilePagesSource.head.Goals as goal

pub returns-clause-shows : goal.returns-clause-shows
returns-clause-shows g c =
    let s = c.args.self.now in
    shelf_gives_head (form_of s.layout) (omega (arith, s.fits.room)) s.name.now (s.shelf.ghost_name, s.into.ghost_name)
    s.pages s.first.now (g.S.Shelf.state s.shelf.now) _ s.paged c.requires s.headed
    (λ f h. subst (AnswersHead c.head_on.result) (sym h) c.head_on.ensures.exact)
