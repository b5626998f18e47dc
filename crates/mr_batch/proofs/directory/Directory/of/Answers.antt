use Rattle.mr_batch.proofs.Directories.{IsDirectoryOf-put}
use Rattle.mr_batch.proofs.directory.Directory.of.Goals as goal

pub loop-one-preserved : goal.loop-one-preserved
loop-one-preserved c =
    IsDirectoryOf-put c.loop-one.directory c.put.new.self c.args.list.now c.loop-one.one-index c.one-item.result
    c.requires c.loop-one-test.true c.one-item.is c.loop-one.invariant c.in_ok-put.ensures.put
    c.in_ok-put.ensures.counted
