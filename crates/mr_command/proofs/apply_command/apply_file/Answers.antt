use Rattle.std.proofs.Common.{◌≡◌, ap, sym, subst}
use Rattle.std.specs.Prelude.{Ok}
use Rattle.mr_batch.specs.BatchText.{batch_of_text}
use Rattle.mr_store.specs.Paged.{shelved, stands_for}
use Rattle.mr_command.specs.private.Applying.{ComesBehind, IsFewOfFile}
use Rattle.mr_plan.specs.Untold.{MaySayApply}
use Rattle.mr_plan.specs.Say.{say_change}
use Rattle.mr_command.proofs.Applied.{file_read_as, file_ended, listed_same, version_same}
use Rattle.mr_command.proofs.apply_command.apply_file.Goals as goal

pub apply_batch-requires-clause-text : goal.apply_batch-requires-clause-text
apply_batch-requires-clause-text g c κs within =
    let paged = c.args.paged in
    let later = c.batch_beside.new.paged in
    let is = c.in-Ok.ensures in
    let read = is.reads in (
      read.0.items,
      read.1.read.1,
      version_same g.H.Hashes.of c.args.map.now c.args.batch.now c.args.new.now paged later is.same
          (λ v. batch_of_text v read.0.items ≡ Ok c.in-Ok.changes) read.2,
    )

pub apply_batch-requires-clause-lists : goal.apply_batch-requires-clause-lists
apply_batch-requires-clause-lists g c κs within =
    listed_same g.H.Hashes.of c.args.map.now c.args.batch.now c.args.new.now c.args.paged c.batch_beside.new.paged
    c.in-Ok.ensures.same c.args.dir c.requires.lists

pub returns-in-Ok : goal.returns-in-Ok
returns-in-Ok g c =
    let is = c.in-Ok.ensures in
    file_read_as g.H.Hashes.of c.args.map.now c.args.batch.now c.args.new.now c.args.paged c.batch_beside.new.paged
    is.same c.in-Ok.changes (g.S.Shelf.state c.apply_batch.result.1) c.apply_batch.result.0 is.reads
    (c.apply_batch.ensures c.args.batch.now)

pub returns-in-Err : goal.returns-in-Err
returns-in-Err g c =
    let hash = g.H.Hashes.of in
    let paged = c.args.paged in
    let before = shelved paged in
    let is = c.in-Err.ensures in
    subst (λ w. ComesBehind (MaySayApply hash c.args.map.now c.args.batch.now c.args.new.now) (stands_for paged)
    (say_change hash c.args.batch.now c.args.new.now paged.head.pages)
    (IsFewOfFile (stands_for paged).version paged.head.pages paged.head.batch before.files c.args.batch.now before.reads
    w.reads) before w c.in-Err.came) (sym (ap g.S.Shelf.state c.close.ensures))
    (file_ended hash c.args.map.now c.args.batch.now c.args.new.now paged c.batch_beside.new.paged is.same
    c.in-Err.came is.reads)
