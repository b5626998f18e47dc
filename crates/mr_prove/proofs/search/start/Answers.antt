use Rattle.std.proofs.Common.{◌++◌, List, [], ◌∷◌, append-nil, subst, sym}
use Rattle.std.specs.BinaryHeap.{heap_items}
use Rattle.std.specs.List.Sorted.{IsPermutation}
use Rattle.mr_record.specs.declared.version.Version.{Version}
use Rattle.mr_prove.specs.declared.waiting.Waiting.{Waiting}
use Rattle.mr_prove.specs.private.Search.{aim, IsStart, waiting_of}
use Rattle.mr_prove.proofs.Rounds.{start_none, start_some}
use Rattle.mr_prove.proofs.search.start.Goals as goal

pub returns-in-None-clause-root : goal.returns-in-None-clause-root
returns-in-None-clause-root g c =
    let hash = g.N.Hash.Hashes.of in
    let a = aim c.args.sought.now in
    let s = g.N.Nodes.stands c.args.nodes.now in
    subst (IsStart hash a s) (sym c.new-queue.ensures.items)
    (start_none hash a s c.top.result c.top.ensures.is c.in-None.is)

pub returns-in_ok-wait_for-in-Some-clause-root : goal.returns-in_ok-wait_for-in-Some-clause-root
returns-in_ok-wait_for-in-Some-clause-root g c =
    let a = aim c.args.sought.now in
    let root = c.in-Some.root ∷ [] in
    let queue = heap_items c.wait_for.new.queue in
    start_some g.N.Hash.Hashes.of a (g.N.Nodes.stands c.args.nodes.now) (g.met.N.Nodes.well_formed c.args.nodes.now)
    (g.met.N.Nodes.numbered c.args.nodes.now) c.top.result c.in-Some.root queue c.top.ensures.is c.in-Some.is
    (subst (λ (v : Version). IsPermutation (waiting_of a v root) queue) c.requires
    (subst (λ (ws : List Waiting). IsPermutation ws queue) (append-nil (waiting_of a c.args.sought.now.version root))
    (subst (λ ws. IsPermutation (waiting_of a c.args.sought.now.version root ++ ws) queue) c.new-queue.ensures.items
    (rw c.in-Some.root-is at c.in_ok-wait_for-in-Some.ensures.joined))))
