use Rattle.std.proofs.Common.{subst}
use Rattle.mr_outside.specs.Told.{TakesFront}
use Rattle.mr_record.proofs.WrittenLines.{none_gathered, gathered_more, front_gathered}
use Rattle.mr_record.proofs.print.write_gathered.Goals as goal

pub loop-one-init : goal.loop-one-init
loop-one-init g c = none_gathered c.args.version (g.W.Sink.state c.args.out.now) c.args.records.now c.args.piece.now
    c.requires.empty

pub returns-in_err-make_room-clause-front : goal.returns-in_err-make_room-clause-front
returns-in_err-make_room-clause-front g c =
    front_gathered c.args.version (g.W.Sink.state c.args.out.now) (g.W.Sink.state c.loop-one.out)
    (g.W.Sink.state c.make_room.new.out) c.args.records.now c.loop-one.one-index c.loop-one.piece
    c.loop-one.invariant c.make_room.ensures.front

pub loop-one-preserved : goal.loop-one-preserved
loop-one-preserved g c =
    gathered_more c.args.version (g.W.Sink.state c.args.out.now) (g.W.Sink.state c.loop-one.out)
    (g.W.Sink.state c.make_room.new.out) c.args.records.now c.loop-one.one-index c.loop-one.piece
    c.loop-one.invariant c.one-item.result c.make_room.new.piece c.put_line.new.line c.loop-one-test.true
    c.one-item.is c.put_line.ensures.record c.in_ok-make_room.ensures.sent c.in_ok-make_room.ensures.causes.quiet
    c.put_line.ensures.put

pub returns-clause-front : goal.returns-clause-front
returns-clause-front g c =
    front_gathered c.args.version (g.W.Sink.state c.args.out.now) (g.W.Sink.state c.loop-one.out)
    (g.W.Sink.state c.write_all.new.out) c.args.records.now c.loop-one.one-index c.loop-one.piece
    c.loop-one.invariant
    (subst (TakesFront (g.W.Sink.state c.loop-one.out) (g.W.Sink.state c.write_all.new.out))
    c.as_slice.ensures.bytes c.write_all.ensures.front)
