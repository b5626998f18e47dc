use Rattle.std.proofs.Common.{sym, subst}
use Rattle.std.specs.Prelude.{Option, Err, OnOk}
use Rattle.mr_outside.specs.Files.{Files}
use Rattle.mr_here.specs.private.Forming.{KeepsOthers, EditsFile}
use Rattle.mr_here.proofs.InMemory.{opened_so, unopened_so}
use Rattle.mr_here.proofs.editing.edit.Goals as goal

pub returns-in-Err-clause-edits : goal.returns-in-Err-clause-edits
returns-in-Err-clause-edits g c bytes is =
    let hash = g.H.Hashes.of in
    let after = g.S.Shelf.state c.in-Err.shelf in
    subst (λ e. EditsFile hash c.args.new.now c.args.batch.now bytes after.files (Err e)) (sym c.unopened.ensures)
    (unopened_so hash c.args.new.now c.args.batch.now c.args.old.now bytes (g.S.Shelf.state c.args.shelf) after
    c.in-Err.error is c.in-Err.ensures.opened)

pub returns-in-Ok-clause-edits : goal.returns-in-Ok-clause-edits
returns-in-Ok-clause-edits g c bytes is =
    opened_so g.H.Hashes.of c.args.new.now c.args.batch.now c.args.old.now bytes (g.S.Shelf.state c.args.shelf)
    (g.S.Shelf.state c.judge.result.1) c.in-Ok.paged c.judge.result.0 is c.in-Ok.ensures.opened c.judge.ensures.made

pub returns-in-Ok-clause-others : goal.returns-in-Ok-clause-others
returns-in-Ok-clause-others g c =
    subst (λ (o : Option Files). OnOk c.judge.result.0
    (KeepsOthers c.args.new.now o (g.S.Shelf.state c.judge.result.1).files)) c.in-Ok.ensures.opened.files
    c.judge.ensures.others
