use Rattle.std.proofs.Common.{refl, subst, ap, ◌∙◌}
use Rattle.std.specs.Prelude.{map, option_map}
use Rattle.std.specs.String.{string_bytes}
use Rattle.mr_command.specs.Answer.{world}
use Rattle.mr_plan.specs.Spelling.{IsSpelled}
use Rattle.mr_plan.specs.Words.{words_of}
use Rattle.mr_tool.proofs.WholeRuns.{run_of, run_of_none}
use Rattle.mr_tool.proofs.program.answered.Goals as goal

pub returns-in-Some-clause-run : goal.returns-in-Some-clause-run
returns-in-Some-clause-run g c =
    let hash = g.H.Hashes.of in
    run_of hash (map string_bytes c.args.words.now)
    (world (g.S.Shelf.state c.args.shelf) (g.W.Sink.state c.args.out.now))
    (world (g.S.Shelf.state c.carry_out-came.result.1) (g.W.Sink.state c.finish.new.out)) c.finish.result
    c.in-Some.command c.carry_out-came.result.0
    (record { long = c.gives_digests.ensures.sized; bytes = c.gives_digests.ensures.bytes })
    (λ command spelled. c.read_words.ensures.read command spelled ∙ ap (option_map words_of) c.in-Some.is)
    c.carry_out-came.ensures c.finish.ensures

pub returns-in-None-clause-run : goal.returns-in-None-clause-run
returns-in-None-clause-run g c =
    let hash = g.H.Hashes.of in
    run_of_none hash (map string_bytes c.args.words.now)
    (world (g.S.Shelf.state c.args.shelf) (g.W.Sink.state c.args.out.now))
    (world (g.S.Shelf.state c.args.shelf) (g.W.Sink.state c.finish-in-None.new.out)) c.finish-in-None.result refl
    (subst (IsSpelled (map string_bytes c.args.words.now)) c.in-None.is c.read_words.ensures.written)
    c.finish-in-None.ensures
