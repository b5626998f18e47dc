use Rattle.std.proofs.Common.{◌≡◌, ◌+◌, ◌≤◌, sym, subst}
use Rattle.std.specs.Prelude.{IfOk, IfSome}
use Rattle.std.specs.BinaryHeap.{heap_items}
use Rattle.mr_tree.specs.Digest.{by}
use Rattle.mr_proof.specs.declared.question.Around.{Around}
use Rattle.mr_prove.specs.private.Search.{aim, kth_in, near_opened, Searching}
use Rattle.mr_prove.proofs.Rounds.{kth_found, searching_start, bounded_start}
use Rattle.mr_prove.proofs.search.kth_distance.Goals as goal

pub returns-clause-radius : goal.returns-clause-radius
returns-clause-radius g c =
    let s = g.N.Nodes.stands c.args.nodes.now in
    let is = c.of-sought.ensures.aim in
    subst (λ (a : Around). IfOk c.best_first.result (λ r. IfSome s.tree (λ t. r ≡ kth_in a t))) is
    (kth_found g.N.Hash.Hashes.of (aim c.of-sought.result) s c.best_first.result
    (subst (λ (a : Around). 1 ≤ a.k) (sym is) c.requires) c.best_first.ensures.radius)

pub returns-clause-fetched : goal.returns-clause-fetched
returns-clause-fetched g c =
    let s = g.N.Nodes.stands c.args.nodes.now in
    subst (λ (a : Around). IfSome s.tree (λ t. g.N.Nodes.fetches c.best_first.new.nodes ≤
    g.N.Nodes.fetches c.args.nodes.now + near_opened (by s.version g.N.Hash.Hashes.of) a t)) c.of-sought.ensures.aim
    c.best_first.ensures.fetched

pub best_first-requires-clause-searching : goal.best_first-requires-clause-searching
best_first-requires-clause-searching g c =
    let hash = g.N.Hash.Hashes.of in
    let a = aim c.of-sought.result in
    let s = g.N.Nodes.stands c.args.nodes.now in
    let queue = heap_items c.in_ok-queue.queue in
    subst (λ best. Searching hash a s queue best) (sym c.new-best.ensures.items)
    (searching_start hash a s queue c.in_ok-queue.ensures.root)

pub best_first-requires-clause-bounded : goal.best_first-requires-clause-bounded
best_first-requires-clause-bounded g c =
    bounded_start g.N.Hash.Hashes.of (aim c.of-sought.result) (g.N.Nodes.stands c.args.nodes.now)
    (heap_items c.in_ok-queue.queue) (g.N.Nodes.fetches c.args.nodes.now) c.in_ok-queue.ensures.root
