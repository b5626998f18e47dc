use Rattle.std.proofs.Common.{sym, subst}
use Rattle.std.specs.Prelude.{IfOk, map}
use Rattle.std.specs.String.{string_bytes}
use Rattle.mr_command.specs.Answer.{world}
use Rattle.mr_tool.specs.Run.{EndsWith, IsRun}
use Rattle.mrtree.proofs.given.run_given.Goals as goal

pub returns-in-Ok-clause-given : goal.returns-in-Ok-clause-given
returns-in-Ok-clause-given g c =
    let hash = g.H.Hashes.of in
    let before = world (g.S.Shelf.state c.args.shelf) (g.W.Sink.state c.args.out.now) in
    let after = world (g.S.Shelf.state c.run-status.result.1) (g.W.Sink.state c.run-status.new.out) in
    subst (λ given. IfOk given (λ ws. EndsWith hash (map string_bytes ws.items) before after c.code.result))
    (sym c.in-Ok.is) (
      c.run-status.result.0,
      c.code.ensures,
      subst (λ ws. IsRun hash (map string_bytes ws) before after c.run-status.result.0) c.deref.ensures.value
          c.run-status.ensures.run,
    )
