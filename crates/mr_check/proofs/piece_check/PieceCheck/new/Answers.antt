use Rattle.std.proofs.Common.{refl}
use Rattle.mr_check.proofs.piece_check.PieceCheck.new.Goals as goal

pub returns : goal.returns
returns g c = record {
  asked = refl;
  is = c.is_query.ensures;
  took = c.in_ok-collector.ensures;
}
