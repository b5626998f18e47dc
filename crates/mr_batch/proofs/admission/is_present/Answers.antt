use Rattle.std.proofs.Common.{sym, ap, ◌∙◌, arith, is_some}
use Rattle.std.specs.Prelude.{slice_index}
use Rattle.mr_batch.specs.Changes.{numbers}
use Rattle.mr_batch.specs.private.Presence.{adds, knows}
use Rattle.mr_batch.proofs.Linking.{after_all-last, after_all-none, number_at}
use Rattle.mr_batch.proofs.admission.is_present.Goals as goal

pub returns-in-Some : goal.returns-in-Some
returns-in-Some c =
    let list = c.args.batch.now.list in
    c.is_addition.ensures ∙ ap adds c.change.ensures
    ∙ sym (after_all-last (knows c.args.dir.now) list c.args.i (slice_index (numbers list) c.args.i) c.in-Some.j
    c.change.result.now (omega arith) (c.in-Some.ensures.last c.requires))

pub returns-in-None : goal.returns-in-None
returns-in-None c =
    let list = c.args.batch.now.list in
    let one = c.change-in-None.result.now in
    c.is_some.ensures ∙ ap is_some c.rect.ensures
    ∙ ap (knows c.args.dir.now) (c.number.ensures ∙ sym (number_at list c.args.i one c.requires
    c.change-in-None.ensures))
    ∙ sym (after_all-none (knows c.args.dir.now) list c.args.i (slice_index (numbers list) c.args.i) one (omega arith)
    (c.in-None.ensures.last c.requires))
