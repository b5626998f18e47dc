use Rattle.std.proofs.Common.{◌≡◌, refl, arith, rules}
use Rattle.std.specs.String.{string_bytes}
use Rattle.mr_journal.specs.private.FileChanges.{name_of}
use Rattle.mr_journal.proofs.Shelving.{wrote_kept, under, refused_under, written_under, shelf_wrote}
use Rattle.mr_journal.proofs.shelf_disk.ShelfDiskDisk.write_at.Goals as goal

pub returns-clause-written : goal.returns-clause-written
returns-clause-written g c =
    let self = c.args.self.now in
    let name_in : c.name_in-name.result.now ≡ name_of c.args.area (string_bytes self.map) (string_bytes self.journal) =
    search rules in
    written_under c.args.area (string_bytes self.map) (string_bytes self.journal) c.name_in-name.result.now c.args.at
    c.args.bytes.now _ _ c.write_bytes.result self.differ name_in c.write_bytes.ensures.puts.done

pub returns-clause-refused : goal.returns-clause-refused
returns-clause-refused g c =
    let self = c.args.self.now in
    let name_in : c.name_in-name.result.now ≡ name_of c.args.area (string_bytes self.map) (string_bytes self.journal) =
    search rules in
    refused_under c.args.area (string_bytes self.map) (string_bytes self.journal) c.name_in-name.result.now c.args.at
    c.args.bytes.now _ _ c.write_bytes.result self.differ name_in c.write_bytes.ensures.puts.front

pub returns-clause-passes : goal.returns-clause-passes
returns-clause-passes g c =
    let self = c.args.self.now in
    let name_in : c.name_in-name.result.now ≡ name_of c.args.area (string_bytes self.map) (string_bytes self.journal) =
    search rules in
    shelf_wrote (string_bytes self.map) (string_bytes self.journal) (g.S.Shelf.state self.shelf)
    (g.S.Shelf.state c.write_bytes.new.shelf) c.write_bytes.result c.write_bytes.ensures.fault
    c.write_bytes.ensures.faults c.write_bytes.ensures.quiet
    c.args.area c.args.at c.args.bytes.now self.differ
    (under c.args.area (string_bytes self.map) (string_bytes self.journal) c.name_in-name.result.now c.args.at
    c.args.bytes.now _ _ name_in c.write_bytes.ensures.puts.front)

pub returns-clause-kept : goal.returns-clause-kept
returns-clause-kept g c =
    let self = c.args.self.now in
    let name_in : c.name_in-name.result.now ≡ name_of c.args.area (string_bytes self.map) (string_bytes self.journal) =
    search rules in
    record {
      map = refl;
      journal = refl;
      beside = wrote_kept c.args.area (string_bytes self.map) (string_bytes self.journal) c.name_in-name.result.now
          c.args.at c.args.bytes.now _ _ name_in c.write_bytes.ensures.puts.front;
      faults = c.write_bytes.ensures.faults;
      reads = omega (arith, c.write_bytes.ensures.reads);
    }
