use Rattle.std.proofs.lemmas.Result.{err_from_is_err_and}
use Rattle.mr_command.proofs.Taking.{ended}
use Rattle.mr_command.proofs.ToFault.{none_to_fault}
use Rattle.mr_command.proofs.pieces.judge_file.Goals as goal

pub returns-in_err-taken-clause-judges : goal.returns-in_err-taken-clause-judges
returns-in_err-taken-clause-judges g c =
    let p = err_from_is_err_and c.from_residual-in_err-taken.result c.from_residual-in_err-taken.ensures.1 in
    rw (p.1, p.2) (rw c.in_ok-size.ensures.files at
    (c.in_err-taken.ensures.takes c.args.root.now c.args.query.now c.in_ok-intake.ensures))

pub returns-in_err-end-clause-judges : goal.returns-in_err-end-clause-judges
returns-in_err-end-clause-judges g c =
    let told = (g.S.Shelf.state c.args.shelf.now).files in
    let all = rw c.in_ok-size.ensures.files at
    (c.in_ok-taken.ensures.takes c.args.root.now c.args.query.now c.in_ok-intake.ensures) in
    let p = err_from_is_err_and c.from_residual-in_err-end.result c.from_residual-in_err-end.ensures.1 in
    rw (p.1, p.2) (ended g.H.Hashes.of g.H.Hashes.holds c.args.root.now c.args.query.now told c.args.name.now
    c.in_ok-size.size c.in_ok-taken.taken all c.in_err-end.field-0.0
    (c.in_err-end.ensures c.args.root.now c.args.query.now all.bytes all.taken))

pub returns-clause-judges : goal.returns-clause-judges
returns-clause-judges g c =
    let all = rw c.in_ok-size.ensures.files at
    (c.in_ok-taken.ensures.takes c.args.root.now c.args.query.now c.in_ok-intake.ensures) in
    let e = c.in_ok-end.ensures c.args.root.now c.args.query.now all.bytes all.taken in (
      record { bytes = all.bytes; input = all.input; are = all.are; verdict_is = e.0 },
      e.1,
    )

-- it was read up to the piece that fixes a fault
pub returns-in_err-taken-clause-stops : goal.returns-in_err-taken-clause-stops
returns-in_err-taken-clause-stops g c =
    rw c.in_ok-size.ensures.reads at (rw c.in_ok-size.ensures.files at
    (c.take_file.ensures.stops c.args.root.now c.args.query.now c.in_ok-intake.ensures))

pub returns-in_err-end-clause-stops : goal.returns-in_err-end-clause-stops
returns-in_err-end-clause-stops g c =
    rw c.in_ok-size.ensures.reads at (rw c.in_ok-size.ensures.files at
    (c.take_file.ensures.stops c.args.root.now c.args.query.now c.in_ok-intake.ensures))

pub returns-clause-stops : goal.returns-clause-stops
returns-clause-stops g c =
    rw c.in_ok-size.ensures.reads at (rw c.in_ok-size.ensures.files at
    (c.take_file.ensures.stops c.args.root.now c.args.query.now c.in_ok-intake.ensures))

pub returns-in_err-size-clause-stops : goal.returns-in_err-size-clause-stops
returns-in_err-size-clause-stops g c =
    none_to_fault g.H.Hashes.of c.args.root.now c.args.query.now (g.S.Shelf.state c.args.shelf.now).files
    c.args.name.now _ _ c.in_err-size.ensures.reads

pub returns-in_err-buffer-clause-stops : goal.returns-in_err-buffer-clause-stops
returns-in_err-buffer-clause-stops g c =
    none_to_fault g.H.Hashes.of c.args.root.now c.args.query.now (g.S.Shelf.state c.args.shelf.now).files
    c.args.name.now _ _ c.in_ok-size.ensures.reads

pub returns-in_err-intake-clause-stops : goal.returns-in_err-intake-clause-stops
returns-in_err-intake-clause-stops g c =
    none_to_fault g.H.Hashes.of c.args.root.now c.args.query.now (g.S.Shelf.state c.args.shelf.now).files
    c.args.name.now _ _ c.in_ok-size.ensures.reads
