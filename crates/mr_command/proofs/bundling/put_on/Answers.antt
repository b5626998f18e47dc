use Rattle.std.proofs.Common.{◌++◌, ◌∙◌}
use Rattle.mr_bundle.specs.Bundle.{part_bytes}
use Rattle.mr_command.specs.Ending.{halt_of}
use Rattle.mr_command.specs.declared.ending.Halt.TheVariants as halts
use Rattle.mr_command.proofs.Piecewise.{given_up, more_made, none_waits, unmade, unput}
use Rattle.mr_command.proofs.bundling.put_on.Goals as goal

pub returns-in_err-put_part : goal.returns-in_err-put_part
returns-in_err-put_part g c = λ before made is.
    let name = c.args.name.now in
    let part = part_bytes c.args.proof.now in
    let now = g.S.Shelf.state c.args.shelf.now in
    given_up name (made ++ part) _ before now c.from_residual.result halts.NoMemory c.from_residual.ensures.1
    (unmade name before made c.args.waits.now.bytes.items now is part)

pub returns-in_err-append : goal.returns-in_err-append
returns-in_err-append g c = λ before made is.
    let name = c.args.name.now in
    let part = part_bytes c.args.proof.now in
    let bytes = c.bytes-2.result.now in
    let now = g.S.Shelf.state c.args.shelf.now in
    let after = g.S.Shelf.state c.append.new.self in
    let more = more_made name before made c.args.waits.now.bytes.items now is part bytes
    (c.bytes-2.ensures ∙ c.in_ok-put_part.ensures) in
    let error = c.in_err-append.field-0.0 in
    given_up name (made ++ part) _ before after c.from_residual-in_err-append.result (halt_of error)
    c.from_residual-in_err-append.ensures.1
    (unput name before (made ++ part) bytes now more after error c.in_err-append.ensures.writes.front
    c.in_err-append.ensures.writes.reads c.in_err-append.ensures.causes)

pub returns : goal.returns
returns g c = λ before made is.
    let name = c.args.name.now in
    let part = part_bytes c.args.proof.now in
    let bytes = c.bytes-2.result.now in
    let now = g.S.Shelf.state c.args.shelf.now in
    let more = more_made name before made c.args.waits.now.bytes.items now is part bytes
    (c.bytes-2.ensures ∙ c.in_ok-put_part.ensures) in
    none_waits name before (made ++ part) bytes now more c.clear.new.self.bytes.items
    (g.S.Shelf.state c.append.new.self) c.in_ok-append.ensures.writes.whole c.in_ok-append.ensures.causes.quiet
    c.in_ok-append.ensures.writes.reads c.clear.ensures
