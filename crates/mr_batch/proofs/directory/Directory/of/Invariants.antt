use Rattle.std.proofs.Common.{take}
use Rattle.mr_batch.specs.Directory.{IsDirectoryOf}
use Rattle.mr_batch.proofs.directory.Directory.of.Given as goal

abbrev pub invariant-loop-one : goal.invariant-loop-one
invariant-loop-one l = IsDirectoryOf l.directory (take l.one-index l.list)
