use Rattle.std.proofs.Common.{◌≡◌, ◌<◌, length, subst, ap, sym, ◌∙◌, arith, rules}
use Rattle.std.specs.Prelude.{OnOk}
use Rattle.mr_outside.specs.Told.{TakesBytes, TakesFront}
use Rattle.mr_record.specs.RecordText.{text_of}
use Rattle.mr_command.specs.private.Listing.{items_of}
use Rattle.mr_command.proofs.Endings.{text_both, front_before, front_after, whole_after, causes_after}
use Rattle.mr_command.proofs.Numbered.{items_cut, front_layers, back_layers}
use Rattle.mr_command.proofs.list_command.+write_entries.Goals as goal

pub returns-in_err-write_some-clause-front : goal.returns-in_err-write_some-clause-front
returns-in_err-write_some-clause-front g t c =
    let S = g.W.Sink.state in
    let some = items_of c.split_at.result.0.now in
    let others = items_of c.split_at.result.1.now in
    subst (TakesFront (S c.args.out.now) (S c.write_some-2.new.out))
    (sym (text_both c.args.version some others)
    ∙ ap (text_of c.args.version) (sym (items_cut c.args.entries.now c.split_at.result.0.now
    c.split_at.result.1.now 32768 c.split_at.ensures.front c.split_at.ensures.back)))
    (front_before (S c.args.out.now) (S c.write_some-2.new.out) (text_of c.args.version some)
    (text_of c.args.version others)
    c.write_some-2.ensures.front)

pub returns-clause-front : goal.returns-clause-front
returns-clause-front g t c =
    let S = g.W.Sink.state in
    let some = items_of c.split_at.result.0.now in
    let others = items_of c.split_at.result.1.now in
    subst (TakesFront (S c.args.out.now) (S c.write_entries.new.out))
    (sym (text_both c.args.version some others)
    ∙ ap (text_of c.args.version) (sym (items_cut c.args.entries.now c.split_at.result.0.now
    c.split_at.result.1.now 32768 c.split_at.ensures.front c.split_at.ensures.back)))
    (front_after (S c.args.out.now) (S c.write_some-2.new.out) (S c.write_entries.new.out) (text_of c.args.version some)
    (text_of c.args.version others) c.in_ok-write_some.ensures.whole c.write_entries.ensures.front)

pub returns-clause-whole : goal.returns-clause-whole
returns-clause-whole g t c =
    let S = g.W.Sink.state in
    let some = items_of c.split_at.result.0.now in
    let others = items_of c.split_at.result.1.now in
    subst (λ text. OnOk c.write_entries.result (TakesBytes (S c.args.out.now) (S c.write_entries.new.out) text))
    (sym (text_both c.args.version some others)
    ∙ ap (text_of c.args.version) (sym (items_cut c.args.entries.now c.split_at.result.0.now
    c.split_at.result.1.now 32768 c.split_at.ensures.front c.split_at.ensures.back)))
    (whole_after (S c.args.out.now) (S c.write_some-2.new.out) (S c.write_entries.new.out) (text_of c.args.version some)
    (text_of c.args.version others) c.write_entries.result c.in_ok-write_some.ensures.whole
    c.write_entries.ensures.whole)

pub returns-clause-causes : goal.returns-clause-causes
returns-clause-causes g t c =
    let S = g.W.Sink.state in
    causes_after (S c.args.out.now) (S c.write_some-2.new.out) (S c.write_entries.new.out) c.write_entries.result
    c.in_ok-write_some.ensures.causes.quiet c.write_entries.ensures.causes

pub write_some-requires-2 : goal.write_some-requires-2
write_some-requires-2 g t c =
    front_layers c.args.version c.args.entries.now c.split_at.result.0.now c.split_at.result.1.now 32768
    c.split_at.ensures.front c.split_at.ensures.back c.requires

pub write_entries-requires : goal.write_entries-requires
write_entries-requires g t c κs within =
    let here : length c.args.entries.now ≡ t = c.decreases in
    let fewer : length c.split_at.result.1.now < t =
    omega (arith, here, c.if-entries-le-COPIED.false, c.split_at.ensures.back_len) in
    let layers = back_layers c.args.version c.args.entries.now c.split_at.result.0.now c.split_at.result.1.now 32768
    c.split_at.ensures.front c.split_at.ensures.back c.requires in
    (fewer, (search rules, layers))
