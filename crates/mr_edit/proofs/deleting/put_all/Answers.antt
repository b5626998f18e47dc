use Rattle.std.proofs.Common.{◌+◌, arith, length, refl, subst, ◌∙◌}
use Rattle.std.proofs.lemmas.List.{take_all}
use Rattle.mr_edit.specs.Deleted.{InsertsAll}
use Rattle.mr_edit.specs.Growing.{CanInsert}
use Rattle.mr_edit.proofs.Dropped.{inserts_none, inserts_more}
use Rattle.mr_edit.proofs.ChangeReads.{taken_few, taken_more}
use Rattle.mr_edit.proofs.Growth.{next_insert}
use Rattle.mr_edit.proofs.Sound.{never, handed}
use Rattle.mr_edit.proofs.deleting.put_all.Goals as goal

pub loop-one-init : goal.loop-one-init
loop-one-init g c = record {
  inserts = inserts_none g.F.PageFile.scheme (g.F.PageFile.told c.args.pager.now.file) c.args.pager.now.free
      c.args.root;
  reads = omega arith;
  low = λ is. is;
  told = λ is. is;
  kept = g.met.F.PageFile.kept_self c.args.pager.now.file;
  quiet = refl;
}

pub loop-one-preserved : goal.loop-one-preserved
loop-one-preserved g c = record {
  inserts = inserts_more g.F.PageFile.scheme (g.F.PageFile.told c.args.pager.now.file)
      (g.F.PageFile.told c.loop-one.pager.file) (g.F.PageFile.told c.insert.new.pager.file) c.args.pager.now.free
      c.loop-one.pager.free c.insert.new.pager.free
      c.args.root c.loop-one.root c.in_ok-child.child c.args.records.now c.loop-one.one-index c.one-item.result
      c.loop-one-test.true c.one-item.is c.loop-one.invariant.inserts c.in_ok-child.ensures.inserts;
  reads = omega (
    arith,
    c.loop-one.invariant.reads,
    c.insert.ensures.reads,
    taken_more c.args.records.now c.loop-one.one-index c.loop-one-test.true,
  );
  low = λ is. c.in_ok-child.ensures.low;
  told = λ is. c.in_ok-child.ensures.told;
  kept = g.met.F.PageFile.kept_on c.args.pager.now.file c.loop-one.pager.file c.insert.new.pager.file
      c.loop-one.invariant.kept c.insert.ensures.kept;
  quiet = c.in_ok-child.ensures.quiet ∙ c.loop-one.invariant.quiet;
}

pub returns-clause-inserts : goal.returns-clause-inserts
returns-clause-inserts g c =
    subst (InsertsAll g.F.PageFile.scheme (g.F.PageFile.told c.args.pager.now.file) c.args.pager.now.free
    c.args.root
    (g.F.PageFile.told c.loop-one.pager.file) c.loop-one.pager.free c.loop-one.root)
    (take_all c.loop-one.one-index c.args.records.now c.loop-one-test.false) c.loop-one.invariant.inserts

pub returns-in_err-child-clause-blames_none_told : goal.returns-in_err-child-clause-blames_none_told
returns-in_err-child-clause-blames_none_told g c =
    let scheme = g.F.PageFile.scheme in
    let told = g.F.PageFile.told c.args.pager.now.file in
    handed c.from_residual.result c.in_err-child.field-0.0
    (CanInsert scheme told c.args.pager.now.free c.args.root (length c.args.records.now)) c.from_residual.ensures.1
    (never c.in_err-child.field-0.0 _ _
    (next_insert scheme told (g.F.PageFile.told c.loop-one.pager.file) c.args.pager.now.free c.loop-one.pager.free
    c.args.root c.loop-one.root c.args.records.now c.loop-one.one-index c.loop-one-test.true
    c.loop-one.invariant.inserts)
    c.in_err-child.ensures.blames_none_told)

pub returns-in_err-child-clause-reads : goal.returns-in_err-child-clause-reads
returns-in_err-child-clause-reads g c =
    omega (
      arith,
      c.loop-one.invariant.reads,
      c.insert.ensures.reads,
      taken_more c.args.records.now c.loop-one.one-index c.loop-one-test.true,
      taken_few c.args.records.now (c.loop-one.one-index + 1),
    )

pub returns-clause-reads : goal.returns-clause-reads
returns-clause-reads g c =
    omega (arith, taken_few c.args.records.now c.loop-one.one-index, c.loop-one.invariant.reads)
