use Rattle.mr_journal.specs.Format.{entries}
use Rattle.mr_journal.proofs.Walking.{way_start, way_moves, way_step}
use Rattle.mr_journal.proofs.Paging.{way_long}
use Rattle.mr_journal.proofs.carrying.put_entries.Goals as goal

pub loop-left-init : goal.loop-left-init
loop-left-init g c = (
  way_start _ _ c.args.size c.args.count c.args.bytes.now c.requires.whole.0 c.requires.whole.1
      c.requires.begins,
  g.met.D.Disk.kept_self c.args.disk.now,
)

pub put_page-requires-clause-whole : goal.put_page-requires-clause-whole
put_page-requires-clause-whole g c =
    let way = c.loop-left.invariant.0 in
    way_long c.args.size way.low way.reach c.loop-left.left c.loop-left.rest.now c.requires.small.0
    c.loop-left-test.true way.whole

pub returns-in_err-put_page-clause-moves : goal.returns-in_err-put_page-clause-moves
returns-in_err-put_page-clause-moves g c =
    way_moves _ _ _ _ _ _ c.args.size c.loop-left.left (entries c.args.size c.args.count c.args.bytes.now)
    c.loop-left.rest.now c.loop-left-test.true
    (g.met.D.Disk.earlier c.loop-left.disk) c.loop-left.invariant.0 c.put_page.ensures.moves

pub split_at-requires : goal.split_at-requires
split_at-requires g c =
    let way = c.loop-left.invariant.0 in
    way_long c.args.size way.low way.reach c.loop-left.left c.loop-left.rest.now c.requires.small.0
    c.loop-left-test.true way.whole

pub loop-left-preserved : goal.loop-left-preserved
loop-left-preserved g c = (
  way_step _ _ _ _ _ _ c.args.size c.loop-left.left (entries c.args.size c.args.count c.args.bytes.now)
      c.loop-left.rest.now c.split_at.result.1.now c.loop-left-test.true
      (g.met.D.Disk.earlier c.loop-left.disk) c.loop-left.invariant.0 c.split_at.ensures.back
      c.in_ok-put_page.ensures.written c.put_page.ensures.moves c.put_page.ensures.causes.faults
      c.in_ok-put_page.ensures.causes.quiet,
  g.met.D.Disk.kept_on c.args.disk.now c.loop-left.disk c.put_page.new.disk c.loop-left.invariant.1
      c.put_page.ensures.kept,
)
