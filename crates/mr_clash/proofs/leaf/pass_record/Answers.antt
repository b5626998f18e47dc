use Rattle.std.proofs.Common.{◌++◌, ◌∷◌, length, refl, sym, ◌∙◌}
use Rattle.std.specs.Int.{w64, to_be_bytes}
use Rattle.mr_record.specs.Record.{rectangle_bytes, layer_bytes}
use Rattle.mr_clash.proofs.Taking.{record_fields}
use Rattle.mr_clash.proofs.leaf.pass_record.Goals as goal

pub returns : goal.returns
returns c = λ r rest is low here.
    let v = c.args.version in
    let sized = length r.payload ∷ (r.payload ++ rest) in
    let behind = layer_bytes v r.layer ++ sized in
    let a = c.take-number.ensures (to_be_bytes w64 r.number) (rectangle_bytes r.rect ++ behind) refl
    (here ∙ record_fields v r rest) in
    let b = c.rect-rect.ensures r.rect behind is.ordered is.coordinates a.1 in
    let m = c.pass_layer-mask.ensures r.layer sized low b.1 in
    let n = c.byte-size.ensures (length r.payload) (r.payload ++ rest) m.1 in
    let p = c.take-payload.ensures r.payload rest (sym n.0 ∙ sym c.from.ensures) n.1 in
    (λ i. record { rect = b.0 i; mask = m.0 i; count = c.as_told.ensures i }, p.1)
