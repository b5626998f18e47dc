use Rattle.std.proofs.Common.{sym, subst, ◌∙◌}
use Rattle.mr_command.specs.Ending.{halt_of}
use Rattle.mr_command.specs.private.Steps.{SavesFile}
use Rattle.mr_plan.specs.Outcome.{text}
use Rattle.mr_command.proofs.Going.{halted_is}
use Rattle.mr_command.proofs.Texts.{text_begun, text_put, text_unsynced, text_saved}
use Rattle.mr_command.proofs.saving.save_bytes.Goals as goal

pub returns-in_err-append : goal.returns-in_err-append
returns-in_err-append g c =
    let name = c.args.name.now in
    let bytes = c.args.bytes.now in
    let before = g.S.Shelf.state c.args.shelf.now in
    let made = g.S.Shelf.state c.create.new.self in
    let after = g.S.Shelf.state c.append.new.self in
    let error = c.in_err-append.field-0.0 in
    subst (SavesFile name (text bytes) before after)
    (sym (halted_is c.from_residual-in_err-append.result (halt_of error) c.from_residual-in_err-append.ensures.1))
    (text_begun name bytes before made after error c.in_ok-create.ensures.made c.in_ok-create.ensures.causes.quiet
    c.in_ok-create.ensures.reads c.in_err-append.ensures.writes.front c.in_err-append.ensures.writes.reads
    c.in_err-append.ensures.causes)

pub returns-in_err-sync : goal.returns-in_err-sync
returns-in_err-sync g c =
    let name = c.args.name.now in
    let bytes = c.args.bytes.now in
    let before = g.S.Shelf.state c.args.shelf.now in
    let made = g.S.Shelf.state c.create.new.self in
    let full = g.S.Shelf.state c.append.new.self in
    let after = g.S.Shelf.state c.sync.new.self in
    let error = c.in_err-sync.field-0.0 in
    subst (SavesFile name (text bytes) before after)
    (sym (halted_is c.from_residual-in_err-sync.result (halt_of error) c.from_residual-in_err-sync.ensures.1))
    (text_unsynced name bytes before full after error
    (text_put name bytes before made full c.in_ok-create.ensures.made c.in_ok-append.ensures.writes.whole)
    (c.in_ok-append.ensures.causes.quiet ∙ c.in_ok-create.ensures.causes.quiet)
    (c.in_ok-append.ensures.writes.reads ∙ c.in_ok-create.ensures.reads) c.in_err-sync.ensures.files
    c.in_err-sync.ensures.reads c.in_err-sync.ensures.causes)

pub returns : goal.returns
returns g c =
    let name = c.args.name.now in
    let bytes = c.args.bytes.now in
    let before = g.S.Shelf.state c.args.shelf.now in
    let made = g.S.Shelf.state c.create.new.self in
    let full = g.S.Shelf.state c.append.new.self in
    let after = g.S.Shelf.state c.sync.new.self in
    text_saved name bytes before after tt
    (c.in_ok-sync.ensures.files
    ∙ text_put name bytes before made full c.in_ok-create.ensures.made c.in_ok-append.ensures.writes.whole)
    (c.in_ok-sync.ensures.causes.quiet ∙ c.in_ok-append.ensures.causes.quiet ∙ c.in_ok-create.ensures.causes.quiet)
    (c.in_ok-sync.ensures.reads ∙ c.in_ok-append.ensures.writes.reads ∙ c.in_ok-create.ensures.reads)
