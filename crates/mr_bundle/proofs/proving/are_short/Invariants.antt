use Rattle.std.proofs.Common.{map, take}
use Rattle.std.specs.Prelude.{All}
use Rattle.mr_bundle.specs.Bundle.{IsShort}
use Rattle.mr_bundle.specs.Proofs.{proof_in}
use Rattle.mr_bundle.proofs.proving.are_short.Given as goal

-- the proofs for the queries so far
abbrev pub invariant-loop-query : goal.invariant-loop-query
invariant-loop-query g l =
    All IsShort (map (proof_in g.H.Hashes.of l.nodes.nodes.items l.nodes.top) (take l.query-index l.queries))
