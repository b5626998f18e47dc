use Rattle.std.proofs.Common.{◌∙◌}
use Rattle.mr_pages.specs.Walking.{page_node}
use Rattle.mr_draft.specs.Sheets.{page_map_of}
use Rattle.mr_draft.proofs.NodesKept.{put_as}
use Rattle.mr_draft.proofs.Objects.{written, written_node, kept_page_map, kept_same}
use Rattle.mr_draft.proofs.keeping.write_node.Goals as goal

pub returns-in_err-put-clause-sheets : goal.returns-in_err-put-clause-sheets
returns-in_err-put-clause-sheets g c =
    written g.H.Hashes.of c.args.file.now c.put_page-put.new.file c.forget.new.self c.put_page-put.ensures.only
    c.forget.ensures.only c.requires.sheets c.args.child.now.id c.put_page-put.ensures.pages
    c.put_page-put.ensures.others c.forget.ensures.forgets

pub returns-in_err-remember-clause-sheets : goal.returns-in_err-remember-clause-sheets
returns-in_err-remember-clause-sheets g c =
    kept_same c.forget.new.self c.remember.new.self g.H.Hashes.of c.remember.ensures.only
    c.in_err-remember.ensures.same
    (written g.H.Hashes.of c.args.file.now c.put_page-put.new.file c.forget.new.self c.put_page-put.ensures.only
    c.forget.ensures.only c.requires.sheets c.args.child.now.id c.put_page-put.ensures.pages
    c.put_page-put.ensures.others c.forget.ensures.forgets)

pub returns-clause-sheets : goal.returns-clause-sheets
returns-clause-sheets g c =
    let f = c.args.file.now in
    written_node g.H.Hashes.of f c.put_page-put.new.file c.forget.new.self c.remember.new.self
    c.put_page-put.ensures.only c.forget.ensures.only c.remember.ensures.only c.args.child.now c.args.view.now
    (written g.H.Hashes.of f c.put_page-put.new.file c.forget.new.self c.put_page-put.ensures.only
    c.forget.ensures.only c.requires.sheets c.args.child.now.id c.put_page-put.ensures.pages
    c.put_page-put.ensures.others c.forget.ensures.forgets)
    c.is_view.ensures c.requires.some c.requires.shown c.requires.said
    (put_as f.layout f.fits (page_map_of f) (page_map_of c.put_page-put.new.file) c.args.child.now.id
    c.put_node.new.page
    (page_node c.args.view.now) c.put_node.ensures.page c.put_node.ensures.node c.in_ok-put.ensures.put)
    c.in_ok-remember.ensures.gains

pub returns-clause-put : goal.returns-clause-put
returns-clause-put g c =
    let f = c.args.file.now in
    kept_page_map c.forget.new.self c.remember.new.self c.remember.ensures.only
    ∙ kept_page_map c.put_page-put.new.file c.forget.new.self c.forget.ensures.only
    ∙ put_as f.layout f.fits (page_map_of f) (page_map_of c.put_page-put.new.file) c.args.child.now.id
    c.put_node.new.page
    (page_node c.args.view.now) c.put_node.ensures.page c.put_node.ensures.node c.in_ok-put.ensures.put
