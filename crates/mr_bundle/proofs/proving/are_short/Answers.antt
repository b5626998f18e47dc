use Rattle.std.proofs.Common.{get_or, map, take, sym, subst}
use Rattle.std.specs.Prelude.{All}
use Rattle.std.proofs.lemmas.List.{map_more, take_all}
use Rattle.std.proofs.lemmas.List.Elements.{All-push}
use Rattle.mr_bundle.specs.Bundle.{IsShort}
use Rattle.mr_bundle.specs.Proofs.{proof_in}
use Rattle.mr_bundle.proofs.proving.are_short.Goals as goal

pub loop-query-preserved : goal.loop-query-preserved
loop-query-preserved g c =
    let f = proof_in g.H.Hashes.of c.args.nodes.now.nodes.items c.args.nodes.now.top in
    let queries = c.args.queries.now in
    let i = c.loop-query.query-index in
    let q = c.query-item.result in
    subst (All IsShort) (sym (map_more f queries i q c.loop-query-test.true))
    (All-push IsShort (map f (take i queries)) (f (get_or queries i q)) c.loop-query.invariant
    (subst (λ q. IsShort (f q)) c.query-item.is c.is_short.ensures))

pub returns : goal.returns
returns g c =
    let f = proof_in g.H.Hashes.of c.args.nodes.now.nodes.items c.args.nodes.now.top in
    subst (λ qs. All IsShort (map f qs)) (take_all c.loop-query.query-index c.args.queries.now c.loop-query-test.false)
    c.loop-query.invariant
