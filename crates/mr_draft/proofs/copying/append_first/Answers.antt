use Rattle.std.proofs.Common.{subst}
use Rattle.std.specs.Prelude.{Err}
use Rattle.mr_outside.specs.Causes.{ShelfCauses}
use Rattle.mr_outside.specs.Files.{grown}
use Rattle.mr_outside.specs.Writing.{IsChanged, IsChangedPartly}
use Rattle.mr_pages.specs.PageBytes.{form_of}
use Rattle.mr_store.specs.CachedFile.{state_of, name_of}
use Rattle.mr_draft.proofs.Copied.{first_copied, first_stops}
use Rattle.mr_draft.proofs.copying.append_first.Goals as goal

pub returns-in-Ok-clause-copied : goal.returns-in-Ok-clause-copied
returns-in-Ok-clause-copied g c = λ s old made.
    let f = c.args.file.now in
    first_copied (form_of f.layout) (name_of f) f.pages c.args.page.now c.requires s (state_of f)
    (g.S.Shelf.state c.append.new.self) made c.in-Ok.ensures.writes.reads old c.in-Ok.ensures.causes.quiet
    (subst (λ n. IsChanged (grown n) c.args.page.now (state_of f).files (g.S.Shelf.state c.append.new.self).files)
    c.as_str.ensures.value c.in-Ok.ensures.writes.whole)

pub returns-in-Err-clause-copied : goal.returns-in-Err-clause-copied
returns-in-Err-clause-copied g c = λ s old made.
    let f = c.args.file.now in
    first_stops (form_of f.layout) (name_of f) f.pages c.args.page.now c.requires s (state_of f)
    (g.S.Shelf.state c.append.new.self) made c.in-Err.ensures.writes.reads c.in-Err.error c.refusal_of_made.result
    (subst (λ n. IsChangedPartly (grown n) c.args.page.now (state_of f).files
    (g.S.Shelf.state c.append.new.self).files) c.as_str.ensures.value c.in-Err.ensures.writes.front)
    (subst (λ n. ShelfCauses {A = Unit {0}} n (state_of f) (g.S.Shelf.state c.append.new.self) (Err c.in-Err.error))
    c.as_str.ensures.value c.in-Err.ensures.causes) c.refusal_of_made.ensures
