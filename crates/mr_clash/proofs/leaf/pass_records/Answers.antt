use Rattle.std.proofs.Common.{arith, rules, ap, drop, sym, ◌++◌, ◌+◌, ◌∙◌}
use Rattle.std.specs.List.{flat_map}
use Rattle.mr_record.specs.Record.{record_bytes}
use Rattle.mr_record.specs.Version.{told}
use Rattle.mr_clash.proofs.Taking.{next_record, record_more, all_records}
use Rattle.mr_clash.proofs.leaf.pass_records.Goals as goal

pub loop-preserved : goal.loop-preserved
loop-preserved c = λ rs rest count all low is.
    let v = c.args.version in
    let so = c.loop.invariant rs rest count all low is in
    let n = next_record v rs rest c.loop.counter _ (omega (arith, count, c.loop-test.true)) all low so.left_is in
    let one = c.pass_record-one.ensures n.one
    (flat_map (record_bytes v) (drop (c.loop.counter + 1) rs) ++ rest) n.is n.layer n.here
    in
    record_more v rs rest c.loop.counter c.loop.rect c.joined-rect.result c.loop.mask _ c.pass_record-one.result _ _
    so n one.0 c.joined-rect.ensures (search rules) one.1

pub returns : goal.returns
returns c = λ rs rest count all low is.
    all_records c.args.version rs rest c.loop.counter c.loop.rect c.loop.mask _ _
    (omega (arith, count, c.loop-test.false)) (c.loop.invariant rs rest count all low is)
    (c.as_told.ensures ∙ ap (told c.args.version) (c.from.ensures ∙ sym count))
