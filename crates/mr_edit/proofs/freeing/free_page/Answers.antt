use Rattle.mr_edit.proofs.Freed.{page_freed}
use Rattle.mr_edit.proofs.freeing.free_page.Goals as goal

pub returns-clause-frees : goal.returns-clause-frees
returns-clause-frees g c = page_freed (g.F.PageFile.told c.args.pager.now.file)
    (g.F.PageFile.told c.write_free.new.self)
    c.args.pager.now.free c.args.page c.requires c.in_ok-write_free.ensures.put
