use Rattle.std.proofs.Common.{sym}
use Rattle.mr_record.proofs.Fronts.{below_zero_in_front, from_zero_in_front}
use Rattle.mr_record.proofs.front.front_coordinate.Goals as goal

pub returns-in_ok-below : goal.returns-in_ok-below
returns-in_ok-below c =
    below_zero_in_front c.args.line.now c.in_ok-first.digits.now c.in_ok-number.rest.now c.in_ok-first.first.now
    c.in_ok-number.number c.in_ok-below.below c.in_ok-first.ensures.cases.0 c.if-first-eq45.true
    c.in_ok-number.ensures (sym c.in_ok-below.ensures)

pub returns-in_ok-coordinate : goal.returns-in_ok-coordinate
returns-in_ok-coordinate c =
    from_zero_in_front c.args.line.now c.in_ok-first.digits.now c.in_ok-number-2.rest.now c.in_ok-first.first.now
    c.in_ok-number-2.number c.in_ok-coordinate.coordinate c.in_ok-first.ensures.cases.0 c.if-first-eq45.false
    c.in_ok-number-2.ensures (sym c.in_ok-coordinate.ensures)
