use Rattle.std.proofs.Common.{ℤ, rules}
use Rattle.std.proofs.lemmas.Fn.{always_returns_same}
use Rattle.mr_geom.specs.declared.point.Point.{Point}
use Rattle.mr_reach.proofs.Sides.{sorted_rises}
use Rattle.mr_reach.proofs.corners.sort.Goals as goal

pub returns-clause-order : goal.returns-clause-order
returns-clause-order c =
    let key : Point → ℤ = λ p. p.x in
    sorted_rises c.sort_by_key.new.self.items
    (c.in_ok-sort_by_key.ensures.sorted key (always_returns_same _ _ _ (λ a r f' k. search rules)))
