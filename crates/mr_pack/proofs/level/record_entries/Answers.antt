use Rattle.std.proofs.Common.{map, ap, ◌∙◌, arith}
use Rattle.std.proofs.lemmas.List.{get_or_read, take_all}
use Rattle.mr_pack.specs.Pack.{placed_record}
use Rattle.mr_pack.proofs.Shares.{one_more_number, one_more_record}
use Rattle.mr_pack.proofs.level.record_entries.Goals as goal

pub loop-record-preserved : goal.loop-record-preserved
loop-record-preserved c = record {
  numbers = one_more_number c.loop-record.record-index c.len-number.result c.loop-record.entries.items
      c.push.new.self.items c.place.result c.record-item.result c.in_ok-push.ensures.items c.place.ensures
      (omega arith) c.loop-record.invariant.numbers;
  placed = λ d. one_more_record c.args.records.now d c.loop-record.record-index c.len-number.result
      c.loop-record.entries.items c.push.new.self.items c.place.result c.record-item.result (omega arith)
      (get_or_read c.args.records.now c.loop-record.record-index c.record-item.result (omega arith)
      c.record-item.is d)
      c.in_ok-push.ensures.items c.place.ensures (omega arith) c.loop-record.invariant.numbers
      (c.loop-record.invariant.placed d);
}

pub returns-clause-placed : goal.returns-clause-placed
returns-clause-placed c = λ d.
    c.loop-record.invariant.placed d
    ∙ ap (map placed_record) (take_all c.loop-record.record-index c.args.records.now (omega arith))
