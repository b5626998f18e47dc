use Rattle.std.proofs.Common.{◌∙◌, arith}
use Rattle.mr_draft.specs.Sheets.{page_map_of}
use Rattle.mr_draft.proofs.NodesKept.{free_as, if_ok}
use Rattle.mr_draft.proofs.Objects.{written, kept_page_map}
use Rattle.mr_draft.proofs.keeping.free_page.Goals as goal

pub returns-clause-sheets : goal.returns-clause-sheets
returns-clause-sheets g c =
    written g.H.Hashes.of c.args.file.now c.put_page-put.new.file c.forget.new.self c.put_page-put.ensures.only
    c.forget.ensures.only c.requires.sheets c.args.page c.put_page-put.ensures.pages c.put_page-put.ensures.others
    c.forget.ensures.forgets

pub returns-clause-put : goal.returns-clause-put
returns-clause-put g c =
    let f = c.args.file.now in
    if_ok c.put_page-put.result
    (λ put. kept_page_map c.put_page-put.new.file c.forget.new.self c.forget.ensures.only
    ∙ free_as f.layout (page_map_of f) (page_map_of c.put_page-put.new.file) c.args.page c.put_free.new.page c.args.next
    c.put_free.ensures (omega arith) put) c.put_page-put.ensures.put
