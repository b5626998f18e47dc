use Rattle.std.proofs.Common.{sym, ◌∙◌}
use Rattle.mr_pages.specs.PageBytes.{form_of}
use Rattle.mr_store.specs.CachedFile.{state_of, name_of}
use Rattle.mr_draft.specs.Sheets.{page_map_of}
use Rattle.mr_draft.proofs.ReadPages.{none_behind, read_content, read_next, no_next, no_next_behind}
use Rattle.mr_draft.proofs.pages.next_free.Goals as goal

pub returns-then-page-file-clause-blames_none_told : goal.returns-then-page-file-clause-blames_none_told
returns-then-page-file-clause-blames_none_told g c =
    let f = c.args.file.now in
    no_next_behind (page_map_of f) f.pages c.args.page (none_behind f.layout (state_of f).files (name_of f) f.pages)
    c.if-page-file.true

pub returns-in-Ok-Some-clause-free : goal.returns-in-Ok-Some-clause-free
returns-in-Ok-Some-clause-free g c =
    let f = c.args.file.now in
    let r = c.in-Ok-Some.ensures.free in
    read_next (form_of f.layout) (page_map_of f) c.args.page r.bytes c.in-Ok-Some.next c.requires.low
    (read_content f.layout (state_of f).files (name_of f) f.pages c.args.page r.bytes c.if-page-file.false r.told)
    (sym c.in-Ok-Some.field-0-is ∙ r.free)

pub returns-in-Ok-None-clause-blames_none_told : goal.returns-in-Ok-None-clause-blames_none_told
returns-in-Ok-None-clause-blames_none_told g c =
    let f = c.args.file.now in
    let r = c.in-Ok-None.ensures.free in
    no_next (form_of f.layout) (page_map_of f) c.args.page r.bytes
    (read_content f.layout (state_of f).files (name_of f) f.pages c.args.page r.bytes c.if-page-file.false r.told)
    (sym c.in-Ok-None.field-0-is ∙ r.free)
