use Rattle.std.proofs.Common.{[], subst}
use Rattle.std.specs.Prelude.{Err}
use Rattle.mr_outside.specs.Causes.{ShelfCauses}
use Rattle.mr_outside.specs.Files.{with_file}
use Rattle.mr_outside.specs.Writing.{IsChanged}
use Rattle.mr_pages.specs.PageBytes.{form_of}
use Rattle.mr_store.specs.CachedFile.{state_of, name_of}
use Rattle.mr_draft.proofs.Copied.{create_stops}
use Rattle.mr_draft.proofs.copying.begin.Goals as goal

pub returns-in-Ok-clause-copied : goal.returns-in-Ok-clause-copied
returns-in-Ok-clause-copied g c = λ old.
    let f = c.args.file.now in
    c.append_first.ensures.copied (state_of f) old (record {
      files = subst (λ n. IsChanged (with_file n) [] (state_of f).files (g.S.Shelf.state c.create.new.self).files)
          c.as_str.ensures.value c.in-Ok.ensures.made;
      quiet = c.in-Ok.ensures.causes.quiet;
      reads = c.create.ensures.reads;
    })

pub returns-in-Err-clause-copied : goal.returns-in-Err-clause-copied
returns-in-Err-clause-copied g c = λ old.
    let f = c.args.file.now in
    create_stops (form_of f.layout) (name_of f) f.pages (state_of f) (g.S.Shelf.state c.create.new.self)
    c.in-Err.error c.refusal_of_made.result c.in-Err.ensures.never c.in-Err.ensures.refused c.create.ensures.reads
    (subst (λ n. ShelfCauses {A = Unit {0}} n (state_of f) (g.S.Shelf.state c.create.new.self) (Err c.in-Err.error))
    c.as_str.ensures.value c.in-Err.ensures.causes) c.refusal_of_made.ensures
