use Rattle.std.proofs.Common.{subst}
use Rattle.std.specs.Prelude.{OnOk}
use Rattle.mr_outside.specs.Told.{TakesBytes, TakesFront}
use Rattle.mr_record.specs.RecordText.{text_of}
use Rattle.mr_command.proofs.Endings.{front_none}
use Rattle.mr_command.proofs.list_command.write_some.Goals as goal

pub returns-in_err-list-clause-front : goal.returns-in_err-list-clause-front
returns-in_err-list-clause-front g c = front_none _ _

pub returns-clause-whole : goal.returns-clause-whole
returns-clause-whole g c =
    subst (λ rs. OnOk c.write_lines.result (TakesBytes (g.W.Sink.state c.args.out.now)
    (g.W.Sink.state c.write_lines.new.out)
    (text_of c.args.version rs))) c.in_ok-list.ensures
    (subst (λ rs. OnOk c.write_lines.result (TakesBytes (g.W.Sink.state c.args.out.now)
    (g.W.Sink.state c.write_lines.new.out) (text_of c.args.version rs))) c.deref.ensures.value
    c.write_lines.ensures.whole)

pub returns-clause-front : goal.returns-clause-front
returns-clause-front g c =
    subst (λ rs. TakesFront (g.W.Sink.state c.args.out.now) (g.W.Sink.state c.write_lines.new.out)
    (text_of c.args.version rs)) c.in_ok-list.ensures
    (subst (λ rs. TakesFront (g.W.Sink.state c.args.out.now) (g.W.Sink.state c.write_lines.new.out)
    (text_of c.args.version rs)) c.deref.ensures.value c.write_lines.ensures.front)
