use Rattle.std.proofs.Common.{◌∙◌}
use Rattle.std.proofs.lemmas.Result.{err_from_is_err_and}
use Rattle.mr_tree.specs.Digest.{by}
use Rattle.mr_pages.specs.PageBytes.{form_of}
use Rattle.mr_store.specs.CachedFile.{entries_of}
use Rattle.mr_edit.specs.Causes.{CanRead}
use Rattle.mr_edit.specs.Outcome.{NeverMap}
use Rattle.mr_draft.specs.private.SheetLaws.{sheets_on}
use Rattle.mr_draft.specs.Sheets.{RefusesRead, page_map_of, page_map_on}
use Rattle.mr_draft.proofs.NodesKept.{finds_it, found_level, found_some, found_told, found_node, memory_refuses}
use Rattle.mr_draft.proofs.Objects.{back, recalled, kept_page_map, kept_files, kept_pages, keeps_kept, read_page_map, read_sheets, shown, keeps_read}
use Rattle.mr_draft.proofs.keeping.show_inside.Goals as goal

pub read_node-requires-clause-pages : goal.read_node-requires-clause-pages
read_node-requires-clause-pages g c =
    kept_pages c.args.file.now c.recall.new.self c.recall.ensures.only c.requires.sheets.file_

pub returns-then-recall-clause-sheets : goal.returns-then-recall-clause-sheets
returns-then-recall-clause-sheets g c =
    recalled g.H.Hashes.of c.args.file.now c.recall.new.self c.recall.ensures.only c.requires.sheets
    c.recall.ensures.stays

pub returns-then-recall-clause-same : goal.returns-then-recall-clause-same
returns-then-recall-clause-same g c = kept_page_map c.args.file.now c.recall.new.self c.recall.ensures.only

pub returns-then-recall-clause-kept : goal.returns-then-recall-clause-kept
returns-then-recall-clause-kept g c = keeps_kept c.args.file.now c.recall.new.self c.recall.ensures.only

pub returns-then-recall-clause-level : goal.returns-then-recall-clause-level
returns-then-recall-clause-level g c =
    let f = c.args.file.now in
    found_level (by f.layout.version g.H.Hashes.of) (page_map_of f) (entries_of f) f.cache.cap c.requires.sheets.kept
    c.args.child.now c.recall.new.into
    (finds_it (entries_of f) c.args.child.now c.recall.result c.recall.new.into c.if-recall.true
    c.recall.ensures.finds)

pub returns-then-recall-clause-not_empty : goal.returns-then-recall-clause-not_empty
returns-then-recall-clause-not_empty g c =
    let f = c.args.file.now in
    found_some (by f.layout.version g.H.Hashes.of) (page_map_of f) (entries_of f) f.cache.cap c.requires.sheets.kept
    c.args.child.now c.recall.new.into
    (finds_it (entries_of f) c.args.child.now c.recall.result c.recall.new.into c.if-recall.true
    c.recall.ensures.finds)

pub returns-then-recall-clause-shown : goal.returns-then-recall-clause-shown
returns-then-recall-clause-shown g c =
    let f = c.args.file.now in
    found_told (by f.layout.version g.H.Hashes.of) (page_map_of f) (entries_of f) f.cache.cap c.requires.sheets.kept
    c.args.child.now c.recall.new.into
    (finds_it (entries_of f) c.args.child.now c.recall.result c.recall.new.into c.if-recall.true
    c.recall.ensures.finds)

pub returns-then-recall-clause-node : goal.returns-then-recall-clause-node
returns-then-recall-clause-node g c =
    let f = c.args.file.now in
    found_node (by f.layout.version g.H.Hashes.of) (page_map_of f) (entries_of f) f.cache.cap c.requires.sheets.kept
    c.args.child.now c.recall.new.into
    (finds_it (entries_of f) c.args.child.now c.recall.result c.recall.new.into c.if-recall.true
    c.recall.ensures.finds)

pub returns-in_err-read_node-clause-sheets : goal.returns-in_err-read_node-clause-sheets
returns-in_err-read_node-clause-sheets g c =
    let f1 = c.recall.new.self in
    read_sheets f1 c.read_node.new.file g.H.Hashes.of c.read_node.ensures.only
    (recalled g.H.Hashes.of c.args.file.now f1 c.recall.ensures.only c.requires.sheets c.recall.ensures.stays)

pub returns-in_err-read_node-clause-same : goal.returns-in_err-read_node-clause-same
returns-in_err-read_node-clause-same g c =
    read_page_map c.recall.new.self c.read_node.new.file c.read_node.ensures.only
    ∙ kept_page_map c.args.file.now c.recall.new.self c.recall.ensures.only

pub returns-in_err-read_node-clause-kept : goal.returns-in_err-read_node-clause-kept
returns-in_err-read_node-clause-kept g c =
    sheets_on c.args.file.now c.recall.new.self c.read_node.new.file
    (keeps_kept c.args.file.now c.recall.new.self c.recall.ensures.only)
    (keeps_read c.recall.new.self c.read_node.new.file c.read_node.ensures.only c.read_node.ensures.faults
    c.read_node.ensures.reads)

pub returns-in_err-read_node-clause-given : goal.returns-in_err-read_node-clause-given
returns-in_err-read_node-clause-given g c =
    let p = err_from_is_err_and c.from_residual.result c.from_residual.ensures.1 in
    rw (p.1, p.2)
    (back c.args.file.now c.recall.new.self
    (λ l t n k. RefusesRead (form_of l) g.H.Hashes.of k c.args.child.now c.in_err-read_node.field-0.0)
    c.recall.ensures.only.file (kept_files c.args.file.now c.recall.new.self c.recall.ensures.only)
    c.in_err-read_node.ensures.given)

pub returns-in_err-read_node-clause-blames_none_told : goal.returns-in_err-read_node-clause-blames_none_told
returns-in_err-read_node-clause-blames_none_told g c =
    let p = err_from_is_err_and c.from_residual.result c.from_residual.ensures.1 in
    rw (p.1, p.2)
    (back c.args.file.now c.recall.new.self
    (λ l t n k. NeverMap c.in_err-read_node.field-0.0
    (CanRead (by l.version g.H.Hashes.of) (page_map_on (form_of l) t n k) c.args.child.now))
    c.recall.ensures.only.file (kept_files c.args.file.now c.recall.new.self c.recall.ensures.only)
    c.in_err-read_node.ensures.blames_none_told)

pub returns-in_err-remember-clause-given : goal.returns-in_err-remember-clause-given
returns-in_err-remember-clause-given g c =
    let p = err_from_is_err_and c.from_residual-in_err-remember.result c.from_residual-in_err-remember.ensures.1 in
    rw (p.1, p.2) (memory_refuses (form_of c.args.file.now.layout) g.H.Hashes.of c.args.file.now.pages
    c.args.child.now)

pub returns-clause-sheets : goal.returns-clause-sheets
returns-clause-sheets g c =
    let f = c.args.file.now in
    let f1 = c.recall.new.self in
    let f2 = c.read_node.new.file in
    shown g.H.Hashes.of f1 f2 c.remember.new.self c.read_node.ensures.only c.remember.ensures.only c.args.child.now
    c.read_node.new.into (recalled g.H.Hashes.of f f1 c.recall.ensures.only c.requires.sheets c.recall.ensures.stays)
    c.in_ok-read_node.ensures.read c.in_ok-read_node.ensures.node c.in_ok-remember.ensures.gains
