use Rattle.std.proofs.Common.{refl, ◌∙◌, arith}
use Rattle.mr_edit.specs.Changing.{CanReplay}
use Rattle.mr_edit.specs.Outcome.{IsOfRoot, root_page}
use Rattle.mr_edit.specs.Replayed.{StopsReplay}
use Rattle.mr_edit.proofs.Admitted.{next_change, replay_stops}
use Rattle.mr_edit.proofs.Alike.{handed_on}
use Rattle.mr_edit.proofs.ChangeReads.{part_all, part_more, part_none, part_stopped}
use Rattle.mr_edit.proofs.Sound.{never, handed}
use Rattle.mr_edit.proofs.Turns.{replays_none, replays_more, replays_all, fronts_none, fronts_more}
use Rattle.mr_edit.proofs.replaying.replay.Goals as goal

pub loop-i-init : goal.loop-i-init
loop-i-init g c = record {
  replays = replays_none g.F.PageFile.scheme (g.F.PageFile.told c.args.pager.now.file) c.args.pager.now.free
      c.args.root.now c.args.dir.now c.args.batch.now;
  fronts = fronts_none g.F.PageFile.scheme (g.F.PageFile.told c.args.pager.now.file) c.args.pager.now.free
      c.args.root.now c.args.dir.now c.args.batch.now;
  unmoved = λ none. (refl, refl);
  part = part_none g.F.PageFile.scheme (g.F.PageFile.told c.args.pager.now.file) c.args.pager.now.free
      c.args.root.now c.args.dir.now c.args.batch.now (g.F.PageFile.reads c.args.pager.now.file);
  low = λ is. is;
  told = λ is. is;
  kept = g.met.F.PageFile.kept_self c.args.pager.now.file;
  quiet = refl;
}

pub loop-i-preserved : goal.loop-i-preserved
loop-i-preserved g c = record {
  replays = replays_more g.F.PageFile.scheme (g.F.PageFile.told c.args.pager.now.file)
      (g.F.PageFile.told c.loop-i.pager.file) (g.F.PageFile.told c.make_change.new.pager.file) c.args.pager.now.free
      c.loop-i.pager.free c.make_change.new.pager.free c.args.root.now c.loop-i.root c.in_ok-then.then c.args.dir.now
      c.loop-i.dir c.make_change.new.dir c.args.batch.now c.loop-i.i c.change.result.now (omega arith)
      c.change.ensures c.loop-i.invariant.replays c.in_ok-then.ensures.changes;
  fronts = fronts_more g.F.PageFile.scheme (g.F.PageFile.told c.args.pager.now.file)
      (g.F.PageFile.told c.loop-i.pager.file) (g.F.PageFile.told c.make_change.new.pager.file) c.args.pager.now.free
      c.loop-i.pager.free c.make_change.new.pager.free c.args.root.now c.loop-i.root c.in_ok-then.then c.args.dir.now
      c.loop-i.dir c.make_change.new.dir c.args.batch.now c.loop-i.i c.change.result.now c.change.ensures
      c.loop-i.invariant.fronts c.in_ok-then.ensures.changes;
  unmoved = λ none. absurd (omega (arith, none));
  part = part_more g.F.PageFile.scheme (g.F.PageFile.told c.args.pager.now.file)
      (g.F.PageFile.told c.loop-i.pager.file) (g.F.PageFile.told c.make_change.new.pager.file) c.args.pager.now.free
      c.loop-i.pager.free c.make_change.new.pager.free c.args.root.now c.loop-i.root c.in_ok-then.then c.args.dir.now
      c.loop-i.dir c.make_change.new.dir c.args.batch.now c.loop-i.i c.change.result.now
      c.loop-i.learned c.make_change.new.learned (g.F.PageFile.reads c.args.pager.now.file)
      (g.F.PageFile.reads c.loop-i.pager.file)
      (g.F.PageFile.reads c.make_change.new.pager.file) (omega arith) c.change.ensures c.loop-i.invariant.part
      c.in_ok-then.ensures.changes c.make_change.ensures.within;
  low = λ is. c.in_ok-then.ensures.low;
  told = λ is. c.in_ok-then.ensures.told;
  kept = g.met.F.PageFile.kept_on c.args.pager.now.file c.loop-i.pager.file c.make_change.new.pager.file
      c.loop-i.invariant.kept c.make_change.ensures.kept;
  quiet = c.in_ok-then.ensures.quiet ∙ c.loop-i.invariant.quiet;
}

pub returns-in_err-then-clause-blames_none_told : goal.returns-in_err-then-clause-blames_none_told
returns-in_err-then-clause-blames_none_told g c =
    let scheme = g.F.PageFile.scheme in
    let told = g.F.PageFile.told c.args.pager.now.file in
    handed c.from_residual.result c.in_err-then.field-0.0
    (CanReplay scheme told c.args.pager.now.free c.args.root.now c.args.dir.now c.args.batch.now)
    c.from_residual.ensures.1
    (never c.in_err-then.field-0.0 _ _
    (next_change scheme told (g.F.PageFile.told c.loop-i.pager.file) c.args.pager.now.free c.loop-i.pager.free
    c.args.root.now c.loop-i.root c.args.dir.now c.loop-i.dir c.args.batch.now c.loop-i.i c.change.result.now
    (omega arith) c.change.ensures c.loop-i.invariant.replays) c.in_err-then.ensures.blames_none_told)

pub returns-in_err-then-clause-stops : goal.returns-in_err-then-clause-stops
returns-in_err-then-clause-stops g c =
    let scheme = g.F.PageFile.scheme in
    let told = g.F.PageFile.told c.args.pager.now.file in
    handed_on c.from_residual.result c.in_err-then.field-0.0
    (StopsReplay scheme told c.args.pager.now.free c.args.root.now c.args.dir.now c.args.batch.now c.loop-i.root
    c.make_change.new.dir) c.from_residual.ensures.1
    (replay_stops scheme told (g.F.PageFile.told c.loop-i.pager.file) c.args.pager.now.free c.loop-i.pager.free
    c.args.root.now c.loop-i.root c.args.dir.now c.loop-i.dir c.make_change.new.dir c.args.batch.now c.loop-i.i
    c.change.result.now c.in_err-then.field-0.0 (omega arith) c.change.ensures c.in_err-then.ensures.unchanged
    c.loop-i.invariant.fronts c.loop-i.invariant.unmoved c.in_err-then.ensures.blames_none_told)

pub returns-in_err-then-clause-page : goal.returns-in_err-then-clause-page
returns-in_err-then-clause-page g c =
    handed_on c.from_residual.result c.in_err-then.field-0.0 (IsOfRoot (root_page c.loop-i.root))
    c.from_residual.ensures.1 c.in_err-then.ensures.page

pub returns-clause-replays : goal.returns-clause-replays
returns-clause-replays g c =
    replays_all g.F.PageFile.scheme (g.F.PageFile.told c.args.pager.now.file) (g.F.PageFile.told
    c.loop-i.pager.file)
    c.args.pager.now.free c.loop-i.pager.free c.args.root.now c.loop-i.root c.args.dir.now c.loop-i.dir c.args.batch.now
    c.loop-i.i (omega arith) c.loop-i.invariant.replays

pub returns-in_err-then-clause-within : goal.returns-in_err-then-clause-within
returns-in_err-then-clause-within g c =
    part_stopped g.F.PageFile.scheme (g.F.PageFile.told c.args.pager.now.file)
    (g.F.PageFile.told c.loop-i.pager.file) c.args.pager.now.free c.loop-i.pager.free c.args.root.now c.loop-i.root
    c.args.dir.now c.loop-i.dir c.args.batch.now c.loop-i.i c.change.result.now
    c.loop-i.learned c.make_change.new.learned (g.F.PageFile.reads c.args.pager.now.file)
    (g.F.PageFile.reads c.loop-i.pager.file)
    (g.F.PageFile.reads c.make_change.new.pager.file) (omega arith) c.change.ensures c.loop-i.invariant.part
    c.make_change.ensures.within

pub returns-clause-within : goal.returns-clause-within
returns-clause-within g c =
    part_all g.F.PageFile.scheme (g.F.PageFile.told c.args.pager.now.file)
    (g.F.PageFile.told c.loop-i.pager.file) c.args.pager.now.free c.loop-i.pager.free c.args.root.now c.loop-i.root
    c.args.dir.now c.loop-i.dir c.args.batch.now c.loop-i.i c.loop-i.learned (g.F.PageFile.reads c.args.pager.now.file)
    (g.F.PageFile.reads c.loop-i.pager.file) c.loop-i.invariant.part
