use Rattle.std.proofs.Common.{sym, ap, subst, ◌∙◌}
use Rattle.mr_query.specs.Layers.{asked_layers}
use Rattle.mr_count.specs.Inside.{inside_way}
use Rattle.mr_plan.specs.Counts.{shape_ways}
use Rattle.mr_plan.specs.Words.{IsWindow}
use Rattle.mr_command.proofs.counted.inside_of.Goals as goal

pub unreachable-requires : goal.unreachable-requires
unreachable-requires c = subst IsWindow c.in-Nearest.is c.requires

pub returns : goal.returns
returns c =
    ap (inside_way c.in-Window.window) c.layers.ensures
    ∙ sym (ap (shape_ways (asked_layers c.args.query.now)) c.in-Window.is)
