use Rattle.std.proofs.Common.{◌≡◌, ◌*◌, ◌≤◌, length, take}
use Rattle.mr_bundle.specs.Bundle.{bundle_of}
use Rattle.mr_command.proofs.bundling.bundle_size.Given as goal

-- the proofs so far
abbrev pub invariant-loop-proof : goal.invariant-loop-proof
invariant-loop-proof l =
    (l.size ≡ length (bundle_of (take l.proof-index l.list))) × (l.size ≤ l.proof-index * 4294967300)
