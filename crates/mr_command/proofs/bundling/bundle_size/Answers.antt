use Rattle.std.proofs.Common.{◌≡◌, ◌+◌, ◌^◌, ◌<◌, length, sym, ap, subst, ◌∙◌, arith}
use Rattle.std.proofs.lemmas.List.Elements.{All-get_or}
use Rattle.mr_bundle.specs.Bundle.{IsShort}
use Rattle.mr_command.proofs.Bundles.{bundle_none}
use Rattle.mr_command.proofs.Piecewise.{size_more}
use Rattle.mr_command.proofs.bundling.bundle_size.Goals as goal

pub loop-proof-init : goal.loop-proof-init
loop-proof-init c = (ap length (sym bundle_none), omega arith)

pub loop-proof-preserved : goal.loop-proof-preserved
loop-proof-preserved c =
    let list = c.args.list.now in
    let i = c.loop-proof.proof-index in
    let p = c.proof-item.result in
    let size = c.loop-proof.size in
    let short : length p < 2 ^ 32 =
    subst IsShort (sym c.proof-item.is) (All-get_or IsShort list i p c.loop-proof-test.true c.requires.short) in
    let same : length c.as_slice.result.now ≡ length p = ap length c.as_slice.ensures in (
      ap (λ n. size + (4 + n)) same
          ∙ size_more list i p size c.loop-proof-test.true c.proof-item.is c.loop-proof.invariant.0,
      omega (arith, same, short, c.loop-proof.invariant.1),
    )
