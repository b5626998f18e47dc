use Rattle.std.proofs.Common.{◌≡◌, ℕ, List, ◌++◌, length}
use Rattle.std.specs.Prelude.{All}
use Rattle.std.specs.List.{flat_map}
use Rattle.mr_record.specs.Record.{IsRecord, HasLayer, record_bytes}
use Rattle.mr_record.specs.declared.record.Record.{Record}
use Rattle.mr_clash.specs.private.Steps.{left}
use Rattle.mr_clash.proofs.Taking.{PassedRecords}
use Rattle.mr_clash.proofs.leaf.pass_records.Given as goal

-- so many records were passed over
abbrev pub invariant-loop : goal.invariant-loop
invariant-loop l =
    (rs : List Record) (rest : List ℕ) → length rs ≡ l.count → All IsRecord rs → All (HasLayer l.version) rs
    → left l.initial.from ≡ flat_map (record_bytes l.version) rs ++ rest
    → PassedRecords l.version rs rest l.counter l.rect l.mask (left l.from)
