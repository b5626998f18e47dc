use Rattle.std.proofs.Common.{ap, ◌∙◌}
use Rattle.mr_geom.specs.Rectangle.{union, area}
use Rattle.mr_geom.proofs.Rectangles.{area-union, pos-minus}
use Rattle.mr_geom.proofs.rect.Rect.growth.Goals as goal

pub overflow_sub-result : goal.overflow_sub-result
overflow_sub-result c =
    (pos-minus c.area.result c.area-2.result (area (union c.args.self.now c.args.other.now)) (area c.args.self.now)
    (c.area.ensures.value ∙ ap area c.union.ensures.value)
    c.area-2.ensures.value
    (area-union c.args.self.now c.args.other.now c.area-2.ensures.ordered)).0

pub returns-clause-value : goal.returns-clause-value
returns-clause-value c =
    (pos-minus c.area.result c.area-2.result (area (union c.args.self.now c.args.other.now)) (area c.args.self.now)
    (c.area.ensures.value ∙ ap area c.union.ensures.value)
    c.area-2.ensures.value
    (area-union c.args.self.now c.args.other.now c.area-2.ensures.ordered)).1
