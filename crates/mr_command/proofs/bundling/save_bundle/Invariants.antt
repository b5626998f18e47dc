use Rattle.std.proofs.Common.{take}
use Rattle.mr_bundle.specs.Bundle.{bundle_of}
use Rattle.mr_command.specs.private.Bundled.{HasMadeText}
use Rattle.mr_command.proofs.bundling.save_bundle.Given as goal

-- the proofs so far
abbrev pub invariant-loop-proof : goal.invariant-loop-proof
invariant-loop-proof g l =
    HasMadeText l.name (bundle_of (take l.proof-index l.list)) l.waits.bytes.items (g.S.Shelf.state l.fn.shelf)
    (g.S.Shelf.state l.shelf)
