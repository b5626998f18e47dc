use Rattle.std.proofs.Common.{◌≡◌, ◌+◌, ◌*◌, ◌≤◌, length, take, drop, subst, ◌∙◌}
use Rattle.mr_outside.specs.Told.{OfFile}
use Rattle.mr_pages.specs.PageBytes.{form_of}
use Rattle.mr_store.specs.CachedFile.{state_of, name_of}
use Rattle.mr_draft.proofs.Copied.{was_read, read_stops}
use Rattle.mr_draft.proofs.copying.copy_piece.Goals as goal

pub returns-in-Ok-clause-copied : goal.returns-in-Ok-clause-copied
returns-in-Ok-clause-copied g c = λ s there h.
    let f = c.args.file.now in
    let size = f.layout.size in
    c.append_piece.ensures.copied s c.args.old.now
    (was_read (form_of f.layout) c.args.old.now (name_of f) f.pages c.args.page c.args.count s (state_of f)
    c.requires.differ c.requires.within h c.in-Ok.field-0 (g.S.Shelf.state c.read_filled.new.shelf)
    c.read_filled.new.into (c.read_filled.auto.into ∙ c.requires.size) c.read_filled.ensures.files
    c.in-Ok.ensures.causes.quiet c.in-Ok.ensures.reads
    (subst (λ n. OfFile (state_of f).files c.args.old.now ⊥
    (λ file. c.args.page * size + n ≤ length file →
    c.read_filled.new.into ≡ take n (drop (c.args.page * size) file))) c.requires.size c.in-Ok.ensures.bytes))

pub returns-in-Err-clause-copied : goal.returns-in-Err-clause-copied
returns-in-Err-clause-copied g c = λ s there h.
    let f = c.args.file.now in
    read_stops (form_of f.layout) c.args.old.now (name_of f) f.pages c.args.page c.args.count s (state_of f)
    c.requires.differ c.requires.within h (g.S.Shelf.state c.read_filled.new.shelf) c.in-Err.error c.from.result
    there c.read_filled.ensures.files c.in-Err.ensures.reads c.in-Err.ensures.causes c.from.ensures
