use Rattle.std.proofs.Common.{sym, ◌∙◌}
use Rattle.mr_clash.proofs.OwnNodes.{same_sides}
use Rattle.mr_clash.proofs.own.is_rect.Goals as goal

pub returns-in-Some : goal.returns-in-Some
returns-in-Some c = λ same. c.in-Some.is ∙ same_sides c.in-Some.shown c.args.rect.now (sym c.eq.ensures ∙ same)
