use Rattle.std.proofs.Common.{◌++◌, ◌∷◌, length, sym}
use Rattle.std.specs.List.{flat_map}
use Rattle.mr_record.specs.Record.{record_bytes}
use Rattle.mr_proof.specs.Fields.{leaf_tag}
use Rattle.mr_clash.proofs.leaf.leaf_summary.Goals as goal

pub returns : goal.returns
returns c = λ rs rest fits is.
    let v = c.args.version in
    let t = c.byte-tag.ensures leaf_tag (length rs ∷ flat_map (record_bytes v) rs ++ rest) is in
    let n = c.byte-count.ensures (length rs) (flat_map (record_bytes v) rs ++ rest) t.1 in
    c.pass_records.ensures rs rest (sym n.0) fits.each fits.layers n.1
