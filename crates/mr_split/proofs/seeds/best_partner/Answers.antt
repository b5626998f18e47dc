use mir.Syntax.{w128}
use mir.Val.{SFits}
use Rattle.std.proofs.Common.{rules, ◌≡◌, ◌<◌, length, sym, subst, ◌∙◌, arith}
use Rattle.mr_split.specs.Best.{better}
use Rattle.mr_split.specs.Seeds.{wastes_more}
use Rattle.mr_split.specs.declared.seeds.Pair.{Pair}
use Rattle.mr_split.proofs.Comparing.{took, kept, more_waste, less_waste, waste_at, kept_whole}
use Rattle.mr_split.proofs.Pairing.{partner_on}
use Rattle.mr_split.proofs.seeds.best_partner.Goals as goal
use Rattle.mr_split.proofs.seeds.best_partner.Goals.{then-more-most, else-more-most}

pub loop-second-preserved : goal.loop-second-preserved
loop-second-preserved c =
    let list = c.args.list.now in
    let beats = wastes_more list in
    let pair : Pair = record { first = c.args.first; second = c.loop-second.second } in
    let later : c.args.first < c.loop-second.second = omega (arith, c.loop-second.auto.second) in
    let fits : SFits w128 c.waste-more.result = search rules in
    let next : c.if-more-most.best ≡ better beats c.loop-second.best pair =
    elim c.if-more-most.branch [
      | then-more-most w ↦ took beats c.loop-second.best pair c.if-more-most.best (more_waste list pair
          c.loop-second.best _ _ fits c.waste-more.ensures c.loop-second.invariant.most w.if-more-most.true) w.best-is
      | else-more-most w ↦ kept beats c.loop-second.best pair c.if-more-most.best (less_waste list pair
          c.loop-second.best _ _ fits c.waste-more.ensures c.loop-second.invariant.most w.if-more-most.false) w.best-is
    ] in
    record {
      ordered = elim c.if-more-most.branch [
        | then-more-most w ↦ subst (λ (p : Pair). p.first < p.second) (sym w.best-is) later
        | else-more-most w ↦ subst (λ (p : Pair). p.first < p.second) (sym w.best-is) c.loop-second.invariant.ordered
      ];
      inside = elim c.if-more-most.branch [
        | then-more-most w ↦ subst (λ (p : Pair). p.second < length list) (sym w.best-is)
            c.loop-second-test.true
        | else-more-most w ↦ subst (λ (p : Pair). p.second < length list) (sym w.best-is)
            c.loop-second.invariant.inside
      ];
      most = elim c.if-more-most.branch [
        | then-more-most w ↦ waste_at list _ _ pair (w.most-is ∙ kept_whole _ fits ∙ c.waste-more.ensures) w.best-is
        | else-more-most w ↦ waste_at list _ _ c.loop-second.best (w.most-is ∙ c.loop-second.invariant.most) w.best-is
      ];
      rest = partner_on (better beats) c.args.first c.loop-second.second (length list) c.loop-second.best
          c.if-more-most.best _ c.loop-second-test.true next c.loop-second.invariant.rest;
    }
