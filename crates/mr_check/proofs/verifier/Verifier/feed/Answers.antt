use Rattle.std.proofs.Common.{arith}
use Rattle.mr_check.proofs.Bytes.{more_fed}
use Rattle.mr_check.proofs.verifier.Verifier.feed.Goals as goal

pub returns-clause-fed : goal.returns-clause-fed
returns-clause-fed g c = λ root bytes s. c.feed.ensures.fed root bytes s.stands

pub returns-clause-stands : goal.returns-clause-stands
returns-clause-stands g c = λ root bytes s. record {
  held_root = s.held_root;
  lawful = s.lawful;
  fed = more_fed bytes c.args.piece.now c.feed.result s.fed (λ i. omega (arith, c.type_inv.piece i));
  room = c.feed.new.r.machine.frames.room;
  stands = c.feed.ensures.stands bytes s.stands;
}
