use Rattle.std.proofs.Common.{ap, ◌∙◌, Err}
use Rattle.mr_pages.proofs.Answered.{bytes_there}
use Rattle.mr_command.specs.declared.ending.Halt.TheVariants as halts
use Rattle.mr_command.proofs.InPlaceEnds.{halts_so, missing_so, there_so}
use Rattle.mr_command.proofs.recover_command.recover_map.Goals as goal

pub returns-in-Err-Missing : goal.returns-in-Err-Missing
returns-in-Err-Missing g c hash =
    let e = c.size.ensures in
    missing_so c.args.map.now (g.S.Shelf.state c.args.shelf) (g.S.Shelf.state c.size.new.self) e.files e.causes.faults
    e.reads (e.causes.missing (c.in-Err-Missing.is ∙ ap (λ x. Err x) c.in-Err-Missing.field-0-is)) c.missing.result
    c.missing.ensures

pub returns-in-Err-Fault : goal.returns-in-Err-Fault
returns-in-Err-Fault g c hash =
    let e = c.size.ensures in
    halts_so c.args.map.now (g.S.Shelf.state c.args.shelf) (g.S.Shelf.state c.size.new.self) e.files e.causes.faults
    e.reads halts.Shelf (e.causes.fault (c.in-Err-Fault.is ∙ ap (λ x. Err x) c.in-Err-Fault.field-0-is))

pub returns-in-Err-NoMemory : goal.returns-in-Err-NoMemory
returns-in-Err-NoMemory g c hash =
    let e = c.size.ensures in
    halts_so c.args.map.now (g.S.Shelf.state c.args.shelf) (g.S.Shelf.state c.size.new.self) e.files e.causes.faults
    e.reads halts.NoMemory tt

pub returns-in-Ok : goal.returns-in-Ok
returns-in-Ok g c hash =
    let e = c.size.ensures in
    let before = g.S.Shelf.state c.args.shelf in
    there_so c.args.map.now before (g.S.Shelf.state c.size.new.self) e.files e.causes.faults e.reads
    (bytes_there before.files c.args.map.now c.in-Ok.field-0 e.bytes c.in-Ok.ensures.length)
    c.in-Ok.ensures.causes.quiet (g.S.Shelf.state c.recover_there.result.1) c.recover_there.result.0
    c.recover_there.ensures
