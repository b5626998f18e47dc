use Rattle.mr_outside.specs.Files.{replaced, overwritten}
use Rattle.mr_outside.specs.Writing.{IsChanged}
use Rattle.std.proofs.Common.{subst}
use Rattle.mr_store.specs.CachedFile.{state_of, name_of}
use Rattle.mr_draft.proofs.Filed.{changed}
use Rattle.mr_draft.proofs.sealing.put_first.Goals as goal

pub returns-in-Ok-clause-filed : goal.returns-in-Ok-clause-filed
returns-in-Ok-clause-filed g c =
    let f = c.args.file.now in
    (changed (replaced 0 c.args.page.now) (name_of f) (state_of f).files (g.S.Shelf.state c.write_at.new.self).files
    c.requires.pages.there
    (subst (λ n. IsChanged (overwritten n 0) c.args.page.now (state_of f).files
    (g.S.Shelf.state c.write_at.new.self).files) c.as_str.ensures.value c.in-Ok.ensures.writes.whole)).there

pub returns-in-Err-clause-filed : goal.returns-in-Err-clause-filed
returns-in-Err-clause-filed g c =
    let f = c.args.file.now in
    let p = c.in-Err.ensures.writes.front in
    (changed (replaced 0 p.front) (name_of f) (state_of f).files (g.S.Shelf.state c.write_at.new.self).files
    c.requires.pages.there
    (subst (λ n. IsChanged (overwritten n 0) p.front (state_of f).files
    (g.S.Shelf.state c.write_at.new.self).files) c.as_str.ensures.value p.changed)).there
