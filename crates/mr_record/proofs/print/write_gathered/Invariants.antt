use Rattle.mr_record.proofs.WrittenLines.{HasGathered}
use Rattle.mr_record.proofs.print.write_gathered.Given as goal

abbrev pub invariant-loop-one : goal.invariant-loop-one
invariant-loop-one g l =
    HasGathered l.version (g.W.Sink.state l.initial.out) (g.W.Sink.state l.out) l.records l.one-index l.piece
