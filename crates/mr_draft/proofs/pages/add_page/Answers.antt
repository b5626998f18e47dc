use Rattle.std.proofs.Common.{◌<◌}
use Rattle.mr_pages.specs.Page.{page_limit}
use Rattle.mr_pages.specs.PageBytes.{form_of}
use Rattle.std.specs.String.{string_bytes}
use Rattle.mr_edit.specs.PageMap.{PageMap}
use Rattle.mr_draft.proofs.ReadPages.{none_paged}
use Rattle.mr_draft.proofs.pages.add_page.Goals as goal

pub returns-then-page-eq0-clause-blames_none_told : goal.returns-then-page-eq0-clause-blames_none_told
returns-then-page-eq0-clause-blames_none_told g c =
    let f = c.args.file.now in
    none_paged (form_of f.layout) (g.S.Shelf.state f.shelf).files (string_bytes f.name) f.pages
    (λ (b : PageMap). b.size < page_limit) c.requires c.if-page-eq0.true
