use Rattle.std.proofs.Common.{rules, arith, refl}
use Rattle.mr_join.specs.declared.searching.Node.{Node}
use Rattle.mr_join.proofs.Trees.{parts, searched_none, searched_all}
use Rattle.mr_join.proofs.searching.+search.Goals as goal

pub returns-then-not-reaches : goal.returns-then-not-reaches
returns-then-not-reaches t c =
    let q = c.args.query.now in
    searched_none q c.bounds_of.result c.args.nodes.now c.args.pairs.now.items (search rules) c.requires
    (c.bounds_of.ensures q.rect.x0 c.requires)

pub search-requires : goal.search-requires
search-requires t c =
    let front = c.split_at_mut-front.result.0.now in
    let n = c.in-Some.node.now in
    let back = c.in-Some.back.now in
    let half = c.split_at_mut-front.ensures.front_len in
    let rest = c.split_at_mut-front.ensures.back_len in
    let one = c.in-Some.ensures.cases.1 in (
      omega (arith, half, rest, one, c.decreases),
      (parts c.args.query.now.rect.x0 c.args.nodes.now front n back (search rules) half c.requires).0,
    )

pub search-requires-2 : goal.search-requires-2
search-requires-2 t c =
    let front = c.split_at_mut-front.result.0.now in
    let n = c.in-Some.node.now in
    let back = c.in-Some.back.now in
    let half = c.split_at_mut-front.ensures.front_len in
    let rest = c.split_at_mut-front.ensures.back_len in
    let one = c.in-Some.ensures.cases.1 in (
      omega (arith, half, rest, one, c.decreases),
      (parts c.args.query.now.rect.x0 c.args.nodes.now front n back (search rules) half c.requires).1,
    )

pub returns : goal.returns
returns t c =
    let n : Node = record { entry = c.in-Some.node.now.entry; bounds = c.bounds_round-node.result } in
    searched_all c.args.query.now c.args.nodes.now c.split_at_mut-front.result.0.now c.in-Some.node.now
    c.in-Some.back.now c.search.new.nodes c.search-2.new.nodes c.bounds_round-node.result c.args.pairs.now.items
    c.search.new.pairs.items c.put_met.new.pairs.items c.search-2.new.pairs.items (search rules)
    c.split_at_mut-front.ensures.front_len c.in_ok-search.ensures
    c.in_ok-put_met.ensures c.in_ok-search-2.ensures (c.bounds_round-node.ensures n refl)
