use Rattle.std.proofs.Common.{refl}
use Rattle.mr_check.proofs.Judging.{fresh_stands}
use Rattle.mr_check.proofs.verifier.fresh.Goals as goal

pub returns-clause-stands : goal.returns-clause-stands
returns-clause-stands g c =
    rw (c.kind.ensures, c.two_only.ensures, c.no_counts.ensures, c.new.ensures) (
      refl,
      fresh_stands g.H.Hashes.of g.H.Hashes.holds (g.A.AsQuestion.question c.args.q.now) c.in_ok-frames.frames
          c.leaf.result c.blank.result
          c.in_ok-frames.ensures.items,
    )
