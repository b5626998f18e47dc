use Rattle.std.proofs.Common.{refl, ap, sym, subst}
use Rattle.mr_store.specs.Paged.{shelved, stands_for}
use Rattle.mr_command.specs.private.Applying.{ComesBehind, IsFewOfChanges}
use Rattle.mr_plan.specs.Plan.{comes}
use Rattle.mr_plan.specs.Untold.{MaySayApply}
use Rattle.mr_plan.specs.Say.{say_batch}
use Rattle.mr_command.proofs.Applied.{unadmitted, admitted, may_apply, well_in}
use Rattle.mr_command.proofs.Batches.{of_text}
use Rattle.mr_command.proofs.apply_command.apply_batch.Goals as goal

pub change-requires-clause-may : goal.change-requires-clause-may
change-requires-clause-may g c κs within =
    let hash = g.H.Hashes.of in
    let paged = c.args.paged in
    may_apply hash c.args.map.now c.args.new.now c.args.new.now paged c.args.batch.now
    (well_in hash paged c.is_map.ensures) c.args.dir c.requires.lists c.top.result.batch c.top.ensures.is.batch
    (λ rs numbers. (c.in-Ok.ensures.admissible rs numbers).0 refl)

pub change-requires-clause-layers : goal.change-requires-clause-layers
change-requires-clause-layers g c κs within =
    of_text (stands_for c.args.paged).version c.requires.text.0 c.args.batch.now c.requires.text.2

pub returns-in-Err : goal.returns-in-Err
returns-in-Err g c = λ name.
    let hash = g.H.Hashes.of in
    let paged = c.args.paged in
    let before = shelved paged in
    let text = c.requires.text in
    subst (λ w. ComesBehind (MaySayApply hash c.args.map.now name c.args.new.now) (stands_for paged)
    (λ m. comes (say_batch hash c.args.new.now paged.head.pages m c.args.batch.now))
    (IsFewOfChanges paged.head.pages paged.head.batch c.args.batch.now before.reads w.reads) before w
    c.bad_batch.result)
    (sym (ap g.S.Shelf.state c.close.ensures))
    (unadmitted hash c.args.map.now c.args.new.now name paged c.args.batch.now
    (well_in hash paged c.is_map.ensures) c.args.dir c.requires.lists c.top.result.batch c.top.ensures.is.batch
    text.0 c.in-Err.fault c.bad_batch.result text.1 text.2 c.in-Err.ensures.some_records
    c.in-Err.ensures.exact c.bad_batch.ensures)

pub returns-in-Ok : goal.returns-in-Ok
returns-in-Ok g c = λ name.
    let hash = g.H.Hashes.of in
    let paged = c.args.paged in
    admitted hash c.args.map.now c.args.new.now name paged c.args.batch.now
    (well_in hash paged c.is_map.ensures) c.args.dir c.requires.lists c.top.result.batch c.top.ensures.is.batch
    (λ rs numbers. (c.in-Ok.ensures.admissible rs numbers).0 refl) (g.S.Shelf.state c.change.result.1)
    c.change.result.0 (c.change.ensures name)
