use Rattle.std.proofs.Common.{◌≡◌, Bool, [], ◌∷◌, ◌∙◌, true, false, length, sym, subst, arith}
use Rattle.std.specs.Prelude.{IfSome}
use Rattle.std.specs.BinaryHeap.{heap_items}
use Rattle.std.proofs.lemmas.List.Sorted.{sum_by-IsPermutation}
use Rattle.mr_tree.specs.Nodes.{MapModel}
use Rattle.mr_tree.specs.View.{children_in}
use Rattle.mr_prove.specs.private.Search.{aim, IsNear, IsReached, Searching, Visited, weight}
use Rattle.mr_prove.proofs.Queue.{near_from_bound, nothing_left, lighter}
use Rattle.mr_prove.proofs.Rounds.{searching_moved, bounded_moved, visited, radius_reached, fetched_near, bounded_visited, bounded_spent, radius_at_end, fetched_so_far}
use Rattle.mr_prove.proofs.search.best_first.Goals as goal

-- a test that failed tells that its fact does not hold
not_so : (b : Bool) (P : Type 0) → (P → b ≡ true) → b ≡ false → P → ⊥
not_so b P gives failed h =
    let t = gives h in
    let bad : true ≡ false = sym t ∙ failed in
    cc

pub returns-then-is_reached-clause-radius : goal.returns-then-is_reached-clause-radius
returns-then-is_reached-clause-radius g c =
    let hash = g.N.Hash.Hashes.of in
    let s = g.N.Nodes.stands c.args.nodes.now in
    let a = aim c.args.sought.now in
    let next = c.in-Some.next in
    let rest = heap_items c.pop.new.self in
    let best = heap_items c.loop-next.best in
    let known = searching_moved hash a s (heap_items c.loop-next.queue) (next ∷ rest) best
    c.in-Some.ensures.permutation c.loop-next.invariant.searching in
    let near = near_from_bound next rest (c.in-Some.ensures.below_top c.loop-next.invariant.heap) in
    radius_reached hash a s (g.met.N.Nodes.well_formed c.args.nodes.now)
    (g.met.N.Nodes.numbered c.args.nodes.now) next rest best c.radius_of-radius.result known near
    c.radius_of-radius.ensures.radius (c.is_reached.ensures.0 c.if-is_reached.true)

pub returns-then-is_reached-clause-fetched : goal.returns-then-is_reached-clause-fetched
returns-then-is_reached-clause-fetched g c =
    fetched_so_far g.N.Hash.Hashes.of (aim c.args.sought.now) (g.N.Nodes.stands c.args.nodes.now)
    (heap_items c.loop-next.queue) (g.N.Nodes.fetches c.args.nodes.now) (g.N.Nodes.fetches c.loop-next.nodes)
    c.loop-next.invariant.bounded

pub visit-requires-clause-near : goal.visit-requires-clause-near
visit-requires-clause-near g c =
    let hash = g.N.Hash.Hashes.of in
    let s = g.N.Nodes.stands c.args.nodes.now in
    let a = aim c.args.sought.now in
    let next = c.in-Some.next in
    let rest = heap_items c.pop.new.self in
    let best = heap_items c.loop-next.best in
    let same = g.met.N.Nodes.kept_stands c.args.nodes.now c.loop-next.nodes c.loop-next.invariant.kept in
    let known = searching_moved hash a s (heap_items c.loop-next.queue) (next ∷ rest) best
    c.in-Some.ensures.permutation c.loop-next.invariant.searching in
    let near = near_from_bound next rest (c.in-Some.ensures.below_top c.loop-next.invariant.heap) in
    subst (λ (s : MapModel). IfSome s.tree (IsNear a s next.child)) (sym same)
    (fetched_near hash a s (g.met.N.Nodes.well_formed c.args.nodes.now)
    (g.met.N.Nodes.numbered c.args.nodes.now) next rest best c.radius_of-radius.result known near
    c.radius_of-radius.ensures.radius
    (not_so c.is_reached.result (IsReached c.radius_of-radius.result next.far) c.is_reached.ensures.1
    c.if-is_reached.false)
    c.requires.some)

pub loop-next-smaller : goal.loop-next-smaller
loop-next-smaller g c =
    let next = c.in-Some.next in
    let rest = heap_items c.pop.new.self in
    let seen = c.in_ok-visit.ensures.visited in
    let light = lighter (aim c.args.sought.now) (g.N.Nodes.stands c.loop-next.nodes).version next rest
    (heap_items c.visit.new.queue) (children_in seen.node) seen.lower seen.children seen.queued in
    let same = sum_by-IsPermutation weight (heap_items c.loop-next.queue) (next ∷ rest)
    c.in-Some.ensures.permutation in
    omega arith

pub loop-next-preserved : goal.loop-next-preserved
loop-next-preserved g c =
    let hash = g.N.Hash.Hashes.of in
    let a = aim c.args.sought.now in
    let s = g.N.Nodes.stands c.args.nodes.now in
    let next = c.in-Some.next in
    let rest = heap_items c.pop.new.self in
    let best = heap_items c.loop-next.best in
    let same = g.met.N.Nodes.kept_stands c.args.nodes.now c.loop-next.nodes c.loop-next.invariant.kept in
    let seen = subst (λ (s : MapModel). Visited hash a s next.child rest (heap_items c.visit.new.queue) best
    (heap_items c.visit.new.best)) same c.in_ok-visit.ensures.visited in
    let known = searching_moved hash a s (heap_items c.loop-next.queue) (next ∷ rest) best
    c.in-Some.ensures.permutation c.loop-next.invariant.searching in
    let near = near_from_bound next rest (c.in-Some.ensures.below_top c.loop-next.invariant.heap) in
    let bounded = bounded_moved hash a s (heap_items c.loop-next.queue) (next ∷ rest)
    (g.N.Nodes.fetches c.args.nodes.now) (g.N.Nodes.fetches c.loop-next.nodes) c.in-Some.ensures.permutation
    c.loop-next.invariant.bounded in
    record {
      kept = g.met.N.Nodes.kept_on c.args.nodes.now c.loop-next.nodes c.visit.new.nodes c.loop-next.invariant.kept
          c.visit.ensures.kept;
      heap = c.in_ok-visit.ensures.heap;
      best = c.in_ok-visit.ensures.best;
      searching = visited hash a s (g.met.N.Nodes.well_formed c.args.nodes.now)
          (g.met.N.Nodes.numbered c.args.nodes.now) next rest (heap_items c.visit.new.queue) seen.node best
          (heap_items c.visit.new.best) known seen.shows seen.least seen.queued;
      bounded = bounded_visited hash a s (g.met.N.Nodes.well_formed c.args.nodes.now)
          (g.met.N.Nodes.numbered c.args.nodes.now) next rest best c.radius_of-radius.result known near
          c.radius_of-radius.ensures.radius
          (not_so c.is_reached.result (IsReached c.radius_of-radius.result next.far) c.is_reached.ensures.1
          c.if-is_reached.false)
          c.requires.some seen.node (heap_items c.visit.new.queue) (g.N.Nodes.fetches c.args.nodes.now)
          (g.N.Nodes.fetches c.loop-next.nodes) (g.N.Nodes.fetches c.visit.new.nodes) seen.shows seen.queued
          c.visit.ensures.counted bounded;
      still = c.in_ok-visit.ensures.causes.still ∙ c.loop-next.invariant.still;
      unrefused = c.in_ok-visit.ensures.answered.none ∙ c.loop-next.invariant.unrefused;
    }

pub returns-in_err-visit-clause-fetched : goal.returns-in_err-visit-clause-fetched
returns-in_err-visit-clause-fetched g c =
    let hash = g.N.Hash.Hashes.of in
    let a = aim c.args.sought.now in
    let s = g.N.Nodes.stands c.args.nodes.now in
    let next = c.in-Some.next in
    let rest = heap_items c.pop.new.self in
    let best = heap_items c.loop-next.best in
    let known = searching_moved hash a s (heap_items c.loop-next.queue) (next ∷ rest) best
    c.in-Some.ensures.permutation c.loop-next.invariant.searching in
    let near = near_from_bound next rest (c.in-Some.ensures.below_top c.loop-next.invariant.heap) in
    let bounded = bounded_moved hash a s (heap_items c.loop-next.queue) (next ∷ rest)
    (g.N.Nodes.fetches c.args.nodes.now) (g.N.Nodes.fetches c.loop-next.nodes) c.in-Some.ensures.permutation
    c.loop-next.invariant.bounded in
    fetched_so_far hash a s [] (g.N.Nodes.fetches c.args.nodes.now) (g.N.Nodes.fetches c.visit.new.nodes)
    (bounded_spent hash a s (g.met.N.Nodes.well_formed c.args.nodes.now)
    (g.met.N.Nodes.numbered c.args.nodes.now) next rest best c.radius_of-radius.result known near
    c.radius_of-radius.ensures.radius
    (not_so c.is_reached.result (IsReached c.radius_of-radius.result next.far) c.is_reached.ensures.1
    c.if-is_reached.false)
    c.requires.some (g.N.Nodes.fetches c.args.nodes.now) (g.N.Nodes.fetches c.loop-next.nodes)
    (g.N.Nodes.fetches c.visit.new.nodes) c.visit.ensures.counted bounded)

pub returns-clause-radius : goal.returns-clause-radius
returns-clause-radius g c =
    let hash = g.N.Hash.Hashes.of in
    let s = g.N.Nodes.stands c.args.nodes.now in
    let best = heap_items c.loop-next.best in
    let none : length (heap_items c.loop-next.queue) ≡ 0 =
    omega (arith, c.in_default.ensures.none, c.loop-next.queue.data.ok.0) in
    radius_at_end hash (aim c.args.sought.now) s best c.radius_of.result
    (subst (λ q. Searching hash (aim c.args.sought.now) s q best)
    (nothing_left (heap_items c.loop-next.queue) none) c.loop-next.invariant.searching) c.radius_of.ensures.radius

pub returns-clause-fetched : goal.returns-clause-fetched
returns-clause-fetched g c =
    fetched_so_far g.N.Hash.Hashes.of (aim c.args.sought.now) (g.N.Nodes.stands c.args.nodes.now)
    (heap_items c.loop-next.queue) (g.N.Nodes.fetches c.args.nodes.now) (g.N.Nodes.fetches c.loop-next.nodes)
    c.loop-next.invariant.bounded
