use Rattle.std.proofs.Common.{ap}
use Rattle.mr_tree.specs.declared.entry.Entry.{Entry}
use Rattle.mr_proof.specs.Cut.{Pruned}
use Rattle.mr_check.specs.private.Machine.{after, ways_at, frames_of, whole_so_far}
use Rattle.mr_check.proofs.Opening.{after_quiet}
use Rattle.mr_check.proofs.Stepping.{close_steps, closed_at, pruned_read}
use Rattle.mr_check.proofs.inner.pruned.Goals as goal

pub returns-clause-steps : goal.returns-clause-steps
returns-clause-steps g c = λ given a none is.
    let way = ways_at (g.A.AsQuestion.question c.args.q.now) c.args.m.now.head in
    let P = Pruned c.args.part.now in
    rw c.stepped.ensures (close_steps g.H.Hashes.of g.H.Hashes.holds (g.A.AsQuestion.question c.args.q.now)
    c.close.new.m given
    (after way c.args.m.now.head c.args.level a.nodes P) c.close.result
    (after_quiet way c.args.m.now.head c.args.level a.nodes P)
    (closed_at g.H.Hashes.of g.H.Hashes.holds (g.A.AsQuestion.question c.args.q.now) c.close.new.m c.args.m.now.head
    given way c.args.level
    c.entry-node.result.level a.nodes P c.close.result (ap (λ (y : Entry). y.level) c.entry-node.ensures)
    (c.close.ensures.closes given a.nodes P
    (pruned_read g.H.Hashes.of g.H.Hashes.holds (g.A.AsQuestion.question c.args.q.now) c.args.m.now.head
    (frames_of c.args.m.now) c.args.m.now.tally c.add_pruned.new.whole c.args.level c.args.part.now c.entry-node.result
    given a c.entry-node.ensures
    (c.add_pruned.ensures (whole_so_far c.args.m.now.head.version way a.nodes) is.whole) none is))))
