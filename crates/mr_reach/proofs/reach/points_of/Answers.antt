use Rattle.std.proofs.Common.{◌∙◌, ◌++◌, ◌∷◌, [], List, take, map, sym, ap, subst}
use Rattle.std.proofs.lemmas.List.{map_more}
use Rattle.std.proofs.lemmas.List.Elements.{All-more}
use Rattle.mr_geom.specs.Rectangle.{IsOrdered}
use Rattle.mr_geom.specs.declared.point.Point.{Point}
use Rattle.mr_reach.specs.private.Meeting.{corner_of}
use Rattle.mr_reach.proofs.reach.points_of.Goals as goal

pub loop-rect-preserved : goal.loop-rect-preserved
loop-rect-preserved c =
    let list = c.args.list.now in
    let i = c.loop-rect.rect-index in
    let r = c.rect-item.result in
    let corner = corner_of c.args.right c.args.upper in
    record {
      are = c.in_ok-push.ensures.items ∙ ap (λ (ps : List Point). ps ++ c.corner.result ∷ []) c.loop-rect.invariant.are
          ∙ ap (λ (p : Point). map corner (take i list) ++ p ∷ []) (c.corner.ensures.is ∙ ap corner c.rect-item.is)
          ∙ sym (map_more corner list i r c.loop-rect-test.true);
      ordered = All-more IsOrdered list i r c.loop-rect-test.true c.loop-rect.invariant.ordered
          (subst IsOrdered c.rect-item.is c.corner.ensures.ordered);
    }
