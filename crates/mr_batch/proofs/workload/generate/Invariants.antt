use Rattle.std.proofs.Common.{◌≡◌, ◌+◌, ◌-◌, ◌≤◌, ◌++◌, All, length}
use Rattle.std.specs.Vec.{vec_len, vec_capacity}
use Rattle.mr_record.specs.Record.{IsRecord}
use Rattle.mr_batch.specs.Workload.{words, of_each, record_of_word, generated}
use Rattle.mr_batch.proofs.workload.generate.Given as goal

abbrev pub invariant-loop-i : goal.invariant-loop-i
invariant-loop-i l = record {
  exact : l.records.items ++ of_each record_of_word (l.i + 1) (words (l.n - l.i) l.generator)
      ≡ generated l.n l.start;
  each : All IsRecord l.records.items;
  count : length l.records.items ≡ l.i;
  len : vec_len l.records ≡ l.i;
  room : l.n ≤ vec_capacity l.records;
}
