use Rattle.std.proofs.Common.{take, drop, length-take-le}
use Rattle.std.proofs.lemmas.Result.{err_from_is_err_and}
use Rattle.mr_command.proofs.Taking.{came_piece, next_stops}
use Rattle.mr_command.proofs.pieces.take_next.Goals as goal

pub returns-in_err-next-clause-takes : goal.returns-in_err-next-clause-takes
returns-in_err-next-clause-takes g c = λ root q front had.
    let told = (g.S.Shelf.state c.args.shelf.now).files in
    let room = length-take-le c.args.wanted c.args.buffer.now c.requires in
    let is = came_piece told c.args.name.now c.args.at c.args.wanted c.in_ok-count.count
    (take c.args.wanted c.args.buffer.now) c.read_at.new.into (drop c.args.wanted c.args.buffer.now) room
    c.read_at.auto.into c.in_ok-count.ensures.fills
    c.in_ok-count.ensures.gives c.are_bytes.ensures in
    let p = err_from_is_err_and c.from_residual-in_err-next.result c.from_residual-in_err-next.ensures.1 in
    rw (p.1, p.2) (next_stops g.H.Hashes.of root q told c.args.name.now c.args.at c.args.wanted c.in_ok-count.count
    front
    _ is c.in_err-next.field-0.0 (c.in_err-next.ensures.refused root q front had))

pub returns-clause-takes : goal.returns-clause-takes
returns-clause-takes g c = λ root q front had.
    let told = (g.S.Shelf.state c.args.shelf.now).files in
    let room = length-take-le c.args.wanted c.args.buffer.now c.requires in
    let is = came_piece told c.args.name.now c.args.at c.args.wanted c.in_ok-count.count
    (take c.args.wanted c.args.buffer.now) c.read_at.new.into (drop c.args.wanted c.args.buffer.now) room
    c.read_at.auto.into c.in_ok-count.ensures.fills
    c.in_ok-count.ensures.gives c.are_bytes.ensures in
    let taken = c.in_ok-next.ensures.taken root q front had in (_, is, taken.0, taken.1)
