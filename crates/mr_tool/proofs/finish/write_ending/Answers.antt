use Rattle.std.proofs.Common.{subst}
use Rattle.mr_outside.specs.Told.{TakesBytes, TakesFront}
use Rattle.mr_record.specs.RecordText.{text_of}
use Rattle.mr_command.specs.Ending.{records_out}
use Rattle.mr_command.proofs.Endings.{front_before, front_after, whole_after, causes_after}
use Rattle.mr_tool.proofs.finish.write_ending.Goals as goal

pub returns-in_err-write_all-clause-front : goal.returns-in_err-write_all-clause-front
returns-in_err-write_all-clause-front g c =
    let S = g.W.Sink.state in
    front_before (S c.args.out.now) (S c.write_all.new.out) c.args.ending.now.text.items
    (text_of c.args.ending.now.version (records_out c.args.ending.now.records))
    (subst (TakesFront (S c.args.out.now) (S c.write_all.new.out)) c.as_slice.ensures.value c.write_all.ensures.front)

pub returns-clause-front : goal.returns-clause-front
returns-clause-front g c =
    let S = g.W.Sink.state in
    front_after (S c.args.out.now) (S c.write_all.new.out) (S c.write_shown.new.out)
    c.args.ending.now.text.items (text_of c.args.ending.now.version (records_out c.args.ending.now.records))
    (subst (TakesBytes (S c.args.out.now) (S c.write_all.new.out)) c.as_slice.ensures.value
    c.in_ok-write_all.ensures.whole) c.write_shown.ensures.front

pub returns-clause-whole : goal.returns-clause-whole
returns-clause-whole g c =
    let S = g.W.Sink.state in
    whole_after (S c.args.out.now) (S c.write_all.new.out) (S c.write_shown.new.out)
    c.args.ending.now.text.items (text_of c.args.ending.now.version (records_out c.args.ending.now.records))
    c.write_shown.result
    (subst (TakesBytes (S c.args.out.now) (S c.write_all.new.out)) c.as_slice.ensures.value
    c.in_ok-write_all.ensures.whole) c.write_shown.ensures.whole

pub returns-clause-causes : goal.returns-clause-causes
returns-clause-causes g c =
    let S = g.W.Sink.state in
    causes_after (S c.args.out.now) (S c.write_all.new.out) (S c.write_shown.new.out) c.write_shown.result
    c.in_ok-write_all.ensures.causes.quiet c.write_shown.ensures.causes
