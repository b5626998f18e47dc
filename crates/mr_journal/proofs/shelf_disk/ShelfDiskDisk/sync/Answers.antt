use Rattle.std.proofs.Common.{refl, arith}
use Rattle.std.specs.String.{string_bytes}
use Rattle.mr_journal.proofs.Shelving.{beside_same, shelf_stays}
use Rattle.mr_journal.proofs.shelf_disk.ShelfDiskDisk.sync.Goals as goal

pub returns-clause-kept : goal.returns-clause-kept
returns-clause-kept g c = record {
  map = refl;
  journal = refl;
  beside = beside_same _ _ _ _ c.sync_file.ensures.files;
  faults = c.sync_file.ensures.faults;
  reads = omega (arith, c.sync_file.ensures.reads);
}

pub returns-clause-passes : goal.returns-clause-passes
returns-clause-passes g c =
    let self = c.args.self.now in
    let e = c.sync_file.ensures in
    shelf_stays (string_bytes self.map) (string_bytes self.journal) (g.S.Shelf.state self.shelf)
    (g.S.Shelf.state c.sync_file.new.shelf) c.sync_file.result e.fault e.faults e.quiet e.files
