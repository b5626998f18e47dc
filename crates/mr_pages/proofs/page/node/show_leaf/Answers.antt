use Rattle.std.proofs.Common.{◌<◌, get_or, arith}
use Rattle.mr_pages.proofs.ManyReads.{layers_read}
use Rattle.mr_pages.proofs.page.node.show_leaf.Goals as goal

pub set_leaf-requires-clause-layers : goal.set_leaf-requires-clause-layers
set_leaf-requires-clause-layers c =
    layers_read c.args.version _ c.args.bytes.now c.read_records.new.places c.in-Some.rest.now
    (λ i. let fits : get_or c.args.bytes.now i 0 < 256 = omega (arith, c.type_inv.bytes i) in fits) c.in-Some.ensures
