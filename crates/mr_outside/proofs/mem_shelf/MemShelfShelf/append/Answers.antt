use Rattle.std.proofs.Common.{rules}
use Rattle.mr_outside.specs.Files.{grown}
use Rattle.mr_outside.specs.Memory.{files_of}
use Rattle.mr_outside.proofs.Changes.{grown-none, WritesOrFront-tried}
use Rattle.mr_outside.proofs.mem_shelf.MemShelfShelf.append.Goals as goal

pub returns-then-not-next_fails-clause-writes : goal.returns-then-not-next_fails-clause-writes
returns-then-not-next_fails-clause-writes c =
    WritesOrFront-tried (grown c.args.name.now) c.args.bytes.now c.args.self.now
    (record { files = files_of c.grow.new.files; calls = c.next_fails.new.self; reads = c.self.inside.reads })
    c.grow.result
    (grown-none c.args.name.now _) (search rules) (search rules) (search rules)

pub returns-in-Err-NoMemory-clause-writes : goal.returns-in-Err-NoMemory-clause-writes
returns-in-Err-NoMemory-clause-writes c =
    WritesOrFront-tried (grown c.args.name.now) c.args.bytes.now c.args.self.now
    (record { files = files_of c.grow-2.new.files; calls = c.next_fails.new.self; reads = c.self.inside.reads }) _
    (grown-none c.args.name.now _) (search rules) tt (search rules)
