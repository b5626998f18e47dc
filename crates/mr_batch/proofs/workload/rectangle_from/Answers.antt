use Rattle.std.proofs.Common.{arith, ◌∙◌}
use Rattle.std.proofs.lemmas.Int.{ints}
use Rattle.mr_geom.proofs.Rectangles.{same_rectangle}
use Rattle.mr_batch.proofs.workload.rectangle_from.Goals as goal

pub unreachable-requires : goal.unreachable-requires
unreachable-requires c =
    c.in-None.ensures.ordered (record { x = omega (arith, ints); y = omega (arith, ints) })

pub returns : goal.returns
returns c =
    c.in-Some.ensures.ordered.1
    ∙ same_rectangle _ _ (omega (arith, ints)) (omega (arith, ints)) (omega (arith, ints)) (omega (arith, ints))
