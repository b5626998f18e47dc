use Rattle.std.proofs.Common.{List, ℕ, ◌+◌, ◌≤◌, Some, None, refl}
use Rattle.std.specs.Prelude.{IfSome, OnOk, OnErr}
use Rattle.mr_outside.specs.Told.{TakesBytes, TakesFront}
use Rattle.mr_tree.specs.Tree as trees
use Rattle.mr_tree.specs.declared.tree.Tree.{Tree}
use Rattle.mr_join.specs.Accepted.{owned, join_proof}
use Rattle.mr_join.specs.Fetches.{first_opens, second_opens}
use Rattle.mr_join.proofs.Written.{for_all, for_each, second_told, both_told, without_wells, told_prop, fronts_once, few_once, neither_fetched, rect_known}
use Rattle.mr_join.proofs.proving.prove_join.Goals as goal

pub returns-in-None-clause-written : goal.returns-in-None-clause-written
returns-in-None-clause-written g c =
    let f = g.A.Hash.Hashes.of in
    let h = g.B.Hash.Hashes.of in
    let s = g.A.Nodes.stands c.args.first.now in
    let v = g.B.Nodes.stands c.args.second.now in
    let from = g.W.Sink.state c.args.out.now in
    let to = g.W.Sink.state c.write_alone.new.out in
    let r = c.write_alone.result in
    for_all s.tree (λ (t : Tree). IfSome v.tree (λ u. OnOk r (TakesBytes from to (join_proof f h (owned s t)
    (owned v u)))))
    (λ (t : Tree).
    second_told f h s v c.top-top.result None c.top-top.ensures.is c.in-None.ensures
    (λ (bytes : List ℕ). OnOk r (TakesBytes from to bytes)) t v.tree refl c.write_alone.ensures.written)

pub returns-in-None-clause-front : goal.returns-in-None-clause-front
returns-in-None-clause-front g c =
    let f = g.A.Hash.Hashes.of in
    let h = g.B.Hash.Hashes.of in
    let s = g.A.Nodes.stands c.args.first.now in
    let v = g.B.Nodes.stands c.args.second.now in
    let from = g.W.Sink.state c.args.out.now in
    let to = g.W.Sink.state c.write_alone.new.out in
    let r = c.write_alone.result in
    for_all s.tree (λ (t : Tree). IfSome v.tree (λ u. OnErr r (TakesFront from to (join_proof f h (owned s t)
    (owned v u)))))
    (λ (t : Tree).
    second_told f h s v c.top-top.result None c.top-top.ensures.is c.in-None.ensures
    (λ (bytes : List ℕ). OnErr r (TakesFront from to bytes)) t v.tree refl c.write_alone.ensures.front)

pub returns-in-Some-clause-written : goal.returns-in-Some-clause-written
returns-in-Some-clause-written g c =
    let f = g.A.Hash.Hashes.of in
    let h = g.B.Hash.Hashes.of in
    let s = g.A.Nodes.stands c.args.first.now in
    let v = g.B.Nodes.stands c.args.second.now in
    let from = g.W.Sink.state c.args.out.now in
    let to = g.W.Sink.state c.write_both.new.out in
    let r = c.write_both.result in
    without_wells s.tree
    (λ (t : Tree). IfSome v.tree (λ u. OnOk r (TakesBytes from to (join_proof f h (owned s t) (owned v u)))))
    (λ (t : Tree). told_prop v.tree r from to (λ u. join_proof f h (owned s t) (owned v u)))
    (g.met.A.Nodes.well_formed c.args.first.now)
    (both_told f h s v c.top-top.result (Some c.in-Some.rect) c.top-top.ensures.is c.in-Some.ensures
    (λ (bytes : List ℕ). OnOk r (TakesBytes from to bytes)) s.tree c.write_both.ensures.written)

pub returns-in-Some-clause-front : goal.returns-in-Some-clause-front
returns-in-Some-clause-front g c =
    let f = g.A.Hash.Hashes.of in
    let h = g.B.Hash.Hashes.of in
    let s = g.A.Nodes.stands c.args.first.now in
    let v = g.B.Nodes.stands c.args.second.now in
    let from = g.W.Sink.state c.args.out.now in
    let to = g.W.Sink.state c.write_both.new.out in
    let r = c.write_both.result in
    fronts_once s.tree v.tree r from to (λ t u. join_proof f h (owned s t) (owned v u))
    (g.met.A.Nodes.well_formed c.args.first.now)
    (both_told f h s v c.top-top.result (Some c.in-Some.rect) c.top-top.ensures.is c.in-Some.ensures
    (λ (bytes : List ℕ). OnErr r (TakesFront from to bytes)) s.tree c.write_both.ensures.front)

pub returns-in-None-clause-fetched_first : goal.returns-in-None-clause-fetched_first
returns-in-None-clause-fetched_first g c =
    let s = g.A.Nodes.stands c.args.first.now in
    neither_fetched s.tree (g.B.Nodes.stands c.args.second.now).tree (g.A.Nodes.fetches c.args.first.now)
    (λ t u. first_opens g.A.Hash.Hashes.of (owned s t) (trees.rect u))

pub returns-in-None-clause-fetched_second : goal.returns-in-None-clause-fetched_second
returns-in-None-clause-fetched_second g c =
    let f = g.A.Hash.Hashes.of in
    let h = g.B.Hash.Hashes.of in
    let s = g.A.Nodes.stands c.args.first.now in
    let v = g.B.Nodes.stands c.args.second.now in
    let from = g.B.Nodes.fetches c.args.second.now in
    let to = g.B.Nodes.fetches c.write_alone.new.nodes in
    for_all s.tree (λ (t : Tree). IfSome v.tree (λ u. to ≤ from
    + second_opens f h (owned s t) (owned v u) (trees.rect u)))
    (λ (t : Tree). rect_known h v c.top-top.result None c.top-top.ensures.is c.in-None.ensures
    (λ u o. to ≤ from + second_opens f h (owned s t) (owned v u) o) c.write_alone.ensures.fetched)

pub returns-in-Some-clause-fetched_first : goal.returns-in-Some-clause-fetched_first
returns-in-Some-clause-fetched_first g c =
    let f = g.A.Hash.Hashes.of in
    let s = g.A.Nodes.stands c.args.first.now in
    let v = g.B.Nodes.stands c.args.second.now in
    let from = g.A.Nodes.fetches c.args.first.now in
    let to = g.A.Nodes.fetches c.write_both.new.first in
    for_each s.tree (λ t. to ≤ from + first_opens f (owned s t) (Some c.in-Some.rect))
    (λ t. IfSome v.tree (λ u. to ≤ from + first_opens f (owned s t) (trees.rect u)))
    (λ t few. rect_known g.B.Hash.Hashes.of v c.top-top.result (Some c.in-Some.rect) c.top-top.ensures.is
    c.in-Some.ensures (λ u o. to ≤ from + first_opens f (owned s t) o)
    (for_all v.tree (λ u. to ≤ from + first_opens f (owned s t) (Some c.in-Some.rect)) (λ u. few)))
    c.write_both.ensures.fetched_first

pub returns-in-Some-clause-fetched_second : goal.returns-in-Some-clause-fetched_second
returns-in-Some-clause-fetched_second g c =
    let f = g.A.Hash.Hashes.of in
    let h = g.B.Hash.Hashes.of in
    let s = g.A.Nodes.stands c.args.first.now in
    let v = g.B.Nodes.stands c.args.second.now in
    let from = g.B.Nodes.fetches c.args.second.now in
    let to = g.B.Nodes.fetches c.write_both.new.second in
    for_each s.tree (λ t. IfSome v.tree (λ u. to ≤ from
    + second_opens f h (owned s t) (owned v u) (Some c.in-Some.rect)))
    (λ t. IfSome v.tree (λ u. to ≤ from + second_opens f h (owned s t) (owned v u) (trees.rect u)))
    (λ t few. rect_known h v c.top-top.result (Some c.in-Some.rect) c.top-top.ensures.is c.in-Some.ensures
    (λ u o. to ≤ from + second_opens f h (owned s t) (owned v u) o) few)
    (few_once s.tree v.tree from to
    (λ t u. second_opens f h (owned s t) (owned v u) (Some c.in-Some.rect)) (g.met.A.Nodes.well_formed c.args.first.now)
    c.write_both.ensures.fetched_second)
