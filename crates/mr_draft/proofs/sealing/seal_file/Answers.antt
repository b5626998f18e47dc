use Rattle.std.proofs.Common.{ap, ◌∙◌}
use Rattle.std.proofs.lemmas.Result.{err_from_is_err_and}
use Rattle.mr_pages.specs.PageBytes.{form_of}
use Rattle.mr_store.specs.CachedFile.{state_of}
use Rattle.mr_draft.specs.Draft.{draft_state}
use Rattle.mr_draft.proofs.Seals.{seals, seal_fails, head_pages}
use Rattle.mr_draft.proofs.sealing.seal_file.Goals as goal

pub returns-in_err-write_first-clause-sealed : goal.returns-in_err-write_first-clause-sealed
returns-in_err-write_first-clause-sealed g c =
    let f = c.args.file.now in
    let h = c.args.head.now in
    let p = err_from_is_err_and c.from_residual.result c.from_residual.ensures.1 in
    rw (p.1, p.2)
    (seal_fails g.H.Hashes.of (draft_state f h.free h.root h.count h.batch) c.requires.sized c.put_head.new.page
    c.is_word.ensures (c.put_head.ensures ∙ ap (form_of f.layout).head_page (head_pages h f.pages c.requires.count))
    (c.put_head.auto.page ∙ c.split_at_mut-page.ensures.front_len) c.requires.pages
    (state_of c.write_first.new.file) c.in_err-write_first.field-0.0 c.write_first.ensures.partly
    c.in_err-write_first.ensures.cause c.write_first.ensures.later)

pub returns-clause-sealed : goal.returns-clause-sealed
returns-clause-sealed g c =
    let f = c.args.file.now in
    let h = c.args.head.now in
    seals g.H.Hashes.of (draft_state f h.free h.root h.count h.batch) c.requires.sized c.put_head.new.page
    c.is_word.ensures (c.put_head.ensures ∙ ap (form_of f.layout).head_page (head_pages h f.pages c.requires.count))
    (c.put_head.auto.page ∙ c.split_at_mut-page.ensures.front_len) c.requires.pages c.head_root.result
    (state_of c.write_first.new.file)
    c.in_ok-write_first.ensures.whole c.in_ok-write_first.ensures.quiet c.head_root.ensures
