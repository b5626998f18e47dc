use Rattle.std.proofs.Common.{subst, ◌∙◌}
use Rattle.mr_command.specs.Ending.{RunsPlan}
use Rattle.mr_plan.specs.Plan.{comes}
use Rattle.mr_command.proofs.Texts.{says_made}
use Rattle.mr_command.proofs.make_command.make.Goals as goal

pub returns : goal.returns
returns g c =
    subst (λ said. RunsPlan (comes said) (g.S.Shelf.state c.args.shelf.now) (g.S.Shelf.state c.save_text.new.shelf)
    c.save_text.result)
    (says_made c.args.count c.args.seed _ c.args.records.now _ c.in_ok-line.ensures
    (c.bytes.ensures ∙ c.in_ok-text.ensures))
    c.save_text.ensures
