use Rattle.std.proofs.Common.{◌+◌, ◌≤◌, ◌∙◌, false, subst, arith}
use Rattle.std.specs.Prelude.{IsSome}
use Rattle.mr_outside.specs.Told.{TakesBytes, TakesFront}
use Rattle.mr_tree.specs.Digest.{by}
use Rattle.mr_tree.specs.Nodes.{MapModel}
use Rattle.mr_tree.specs.declared.child.Child.{Child}
use Rattle.mr_prove.specs.private.Parts.{child_key, part_at, opened_at}
use Rattle.mr_tree.specs.View.{child_entry}
use Rattle.mr_proof.specs.Cut.{pruned_cut}
use Rattle.mr_proof.specs.Spelling.{cut_bytes}
use Rattle.mr_prove.proofs.Whole.{ok_through}
use Rattle.mr_prove.proofs.Steps.{on_err, chosen_by, written_more, fetched_more, pruned_whole, pruned_front, met_whole, met_front, one_fetch, some_fetches}
use Rattle.mr_prove.proofs.part.+parts.Goals as goal

pub write_part-returns-then-not-is_open-clause-whole : goal.write_part-returns-then-not-is_open-clause-whole
write_part-returns-then-not-is_open-clause-whole g t c =
    let s = g.N.Nodes.stands c.args.nodes.now in
    let way = (g.A.AsQuestion.question c.args.q.now).way c.args.head.now.radius in
    let from = g.W.Sink.state c.args.out.now in
    let to = g.W.Sink.state c.write_pruned.new.out in
    ok_through c.write_pruned.result
    (TakesBytes from to (cut_bytes c.args.head.now.version (pruned_cut (child_entry c.args.child.now))))
    (IsSome s.tree → TakesBytes from to (part_at (by s.version g.N.Hash.Hashes.of) way (s.node c.args.child.now.id)))
    (λ taken told. pruned_whole g.N.Hash.Hashes.of way c.args.head.now.version s c.requires.version c.args.child.now
    c.requires.may told from to
    (chosen_by way c.key_of.result (child_key c.args.head.now.version c.args.child.now) c.way.result c.is_open.result
    false c.key_of.ensures c.way.ensures c.is_open.ensures c.if-not-is_open.true) taken)
    c.write_pruned.ensures.whole

pub write_part-returns-then-not-is_open-clause-front : goal.write_part-returns-then-not-is_open-clause-front
write_part-returns-then-not-is_open-clause-front g t c =
    let s = g.N.Nodes.stands c.args.nodes.now in
    let way = (g.A.AsQuestion.question c.args.q.now).way c.args.head.now.radius in
    let from = g.W.Sink.state c.args.out.now in
    let to = g.W.Sink.state c.write_pruned.new.out in
    on_err c.write_pruned.result
    (IsSome s.tree → TakesFront from to (part_at (by s.version g.N.Hash.Hashes.of) way (s.node c.args.child.now.id)))
    (λ told. pruned_front g.N.Hash.Hashes.of way c.args.head.now.version s c.requires.version c.args.child.now
    c.requires.may told from to
    (chosen_by way c.key_of.result (child_key c.args.head.now.version c.args.child.now) c.way.result c.is_open.result
    false c.key_of.ensures c.way.ensures c.is_open.ensures c.if-not-is_open.true) c.write_pruned.ensures.front)

pub write_part-returns-then-not-is_open-clause-causes : goal.write_part-returns-then-not-is_open-clause-causes
write_part-returns-then-not-is_open-clause-causes g t c =
    c.write_pruned.ensures.causes (g.N.Nodes.stands c.args.nodes.now) (g.N.Nodes.faults c.args.nodes.now)

pub write_part-returns-then-not-is_open-clause-refused : goal.write_part-returns-then-not-is_open-clause-refused
write_part-returns-then-not-is_open-clause-refused g t c = c.write_pruned.ensures.refused
    (g.N.Nodes.refusal c.args.nodes.now)

pub write_part-returns-then-not-is_open-clause-answered : goal.write_part-returns-then-not-is_open-clause-answered
write_part-returns-then-not-is_open-clause-answered g t c = c.write_pruned.ensures.answered
    (g.N.Nodes.refusal c.args.nodes.now)

pub write_met-returns-in_err-open_node-clause-fetched : goal.write_met-returns-in_err-open_node-clause-fetched
write_met-returns-in_err-open_node-clause-fetched g t c =
    λ told. one_fetch g.N.Hash.Hashes.of ((g.A.AsQuestion.question c.args.q.now).way c.args.head.now.radius)
    c.args.head.now.version (g.N.Nodes.stands c.args.nodes.now) c.requires.version c.args.child.now
    c.requires.may told (g.N.Nodes.fetches c.args.nodes.now) (g.N.Nodes.fetches c.open_node.new.nodes)
    c.requires.met c.open_node.ensures.counted

pub write_met-returns-in_err-write_part-clause-front : goal.write_met-returns-in_err-write_part-clause-front
write_met-returns-in_err-write_part-clause-front g t c =
    let s = g.N.Nodes.stands c.args.nodes.now in
    let hash = g.N.Hash.Hashes.of in
    let way = (g.A.AsQuestion.question c.args.q.now).way c.args.head.now.radius in
    let same = g.met.N.Nodes.kept_stands c.args.nodes.now c.loop-next.nodes c.loop-next.invariant.kept in
    let next = subst (λ (s : MapModel). IsSome s.tree → TakesFront (g.W.Sink.state c.loop-next.out)
    (g.W.Sink.state c.write_part.new.out) (part_at (by s.version hash) way (s.node c.next-item.result.id))) same
    c.in_err-write_part.ensures.front in
    on_err c.from_residual-in_err-write_part.result (IsSome s.tree → TakesFront (g.W.Sink.state c.args.out.now)
    (g.W.Sink.state c.write_part.new.out) (part_at (by s.version hash) way (s.node c.args.child.now.id)))
    (λ told. met_front hash way c.args.head.now.version s c.requires.version c.args.child.now c.requires.may
    told c.open_node.new.view
    c.children-next-items.result.now c.loop-next.next-index c.next-item.result (g.W.Sink.state c.args.out.now)
    (g.W.Sink.state c.open_node.new.out) (g.W.Sink.state c.loop-next.out) (g.W.Sink.state c.write_part.new.out)
    c.children-next-items.ensures.value c.in_ok-open_node.ensures.shows c.requires.met
    c.next-item.is c.loop-next-test.true c.in_ok-open_node.ensures.whole (c.loop-next.invariant.whole told)
    (next told))

pub write_met-returns-in_err-write_part-clause-fetched : goal.write_met-returns-in_err-write_part-clause-fetched
write_met-returns-in_err-write_part-clause-fetched g t c =
    let s = g.N.Nodes.stands c.args.nodes.now in
    let hash = g.N.Hash.Hashes.of in
    let way = (g.A.AsQuestion.question c.args.q.now).way c.args.head.now.radius in
    let same = g.met.N.Nodes.kept_stands c.args.nodes.now c.loop-next.nodes c.loop-next.invariant.kept in
    let next = subst (λ (s : MapModel). IsSome s.tree → g.N.Nodes.fetches c.write_part.new.nodes ≤ g.N.Nodes.fetches
    c.loop-next.nodes + opened_at (by s.version hash) way (s.node c.next-item.result.id)) same
    c.write_part.ensures.fetched in
    λ told. some_fetches hash way c.args.head.now.version s c.requires.version c.args.child.now c.requires.may
    told c.open_node.new.view
    c.children-next-items.result.now (c.loop-next.next-index + 1) (g.N.Nodes.fetches c.args.nodes.now)
    (g.N.Nodes.fetches c.open_node.new.nodes) (g.N.Nodes.fetches c.write_part.new.nodes)
    c.children-next-items.ensures.value c.in_ok-open_node.ensures.shows c.requires.met
    c.open_node.ensures.counted
    (fetched_more (λ (d : Child). opened_at (by s.version hash) way (s.node d.id)) c.children-next-items.result.now
    c.loop-next.next-index c.next-item.result (g.N.Nodes.fetches c.open_node.new.nodes)
    (g.N.Nodes.fetches c.loop-next.nodes) (g.N.Nodes.fetches c.write_part.new.nodes) c.next-item.is
    c.loop-next-test.true (c.loop-next.invariant.fetched told) (next told))

pub write_met-loop-next-preserved : goal.write_met-loop-next-preserved
write_met-loop-next-preserved g t c =
    let s = g.N.Nodes.stands c.args.nodes.now in
    let hash = g.N.Hash.Hashes.of in
    let way = (g.A.AsQuestion.question c.args.q.now).way c.args.head.now.radius in
    let same = g.met.N.Nodes.kept_stands c.args.nodes.now c.loop-next.nodes c.loop-next.invariant.kept in
    let written = subst (λ (s : MapModel). IsSome s.tree → TakesBytes (g.W.Sink.state c.loop-next.out)
    (g.W.Sink.state c.write_part.new.out) (part_at (by s.version hash) way (s.node c.next-item.result.id))) same
    c.in_ok-write_part.ensures.whole in
    let few = subst (λ (s : MapModel). IsSome s.tree → g.N.Nodes.fetches c.write_part.new.nodes ≤ g.N.Nodes.fetches
    c.loop-next.nodes + opened_at (by s.version hash) way (s.node c.next-item.result.id)) same
    c.write_part.ensures.fetched in
    record {
      kept = g.met.N.Nodes.kept_on c.args.nodes.now c.loop-next.nodes c.write_part.new.nodes
          c.loop-next.invariant.kept c.write_part.ensures.kept;
      whole = λ told. written_more (λ (d : Child). part_at (by s.version hash) way (s.node d.id))
          c.children-next-items.result.now c.loop-next.next-index c.next-item.result
          (g.W.Sink.state c.open_node.new.out) (g.W.Sink.state c.loop-next.out) (g.W.Sink.state c.write_part.new.out)
          c.next-item.is c.loop-next-test.true (c.loop-next.invariant.whole told) (written told);
      fetched = λ told. fetched_more (λ (d : Child). opened_at (by s.version hash) way (s.node d.id))
          c.children-next-items.result.now c.loop-next.next-index c.next-item.result
          (g.N.Nodes.fetches c.open_node.new.nodes) (g.N.Nodes.fetches c.loop-next.nodes)
          (g.N.Nodes.fetches c.write_part.new.nodes) c.next-item.is c.loop-next-test.true
          (c.loop-next.invariant.fetched told) (few told);
      still = c.in_ok-write_part.ensures.causes.still ∙ c.loop-next.invariant.still;
      unrefused = c.in_ok-write_part.ensures.answered.none ∙ c.loop-next.invariant.unrefused;
      quiet = c.in_ok-write_part.ensures.causes.quiet ∙ c.loop-next.invariant.quiet;
    }

pub write_met-returns-clause-whole : goal.write_met-returns-clause-whole
write_met-returns-clause-whole g t c =
    λ told. met_whole g.N.Hash.Hashes.of ((g.A.AsQuestion.question c.args.q.now).way c.args.head.now.radius)
    c.args.head.now.version (g.N.Nodes.stands c.args.nodes.now) c.requires.version c.args.child.now
    c.requires.may told c.open_node.new.view c.children-next-items.result.now c.loop-next.next-index
    (g.W.Sink.state c.args.out.now) (g.W.Sink.state c.open_node.new.out) (g.W.Sink.state c.loop-next.out)
    c.children-next-items.ensures.value c.in_ok-open_node.ensures.shows c.requires.met
    (omega arith) c.in_ok-open_node.ensures.whole (c.loop-next.invariant.whole told)

pub write_met-returns-clause-fetched : goal.write_met-returns-clause-fetched
write_met-returns-clause-fetched g t c =
    λ told. some_fetches g.N.Hash.Hashes.of ((g.A.AsQuestion.question c.args.q.now).way c.args.head.now.radius)
    c.args.head.now.version (g.N.Nodes.stands c.args.nodes.now) c.requires.version c.args.child.now
    c.requires.may told c.open_node.new.view c.children-next-items.result.now c.loop-next.next-index
    (g.N.Nodes.fetches c.args.nodes.now) (g.N.Nodes.fetches c.open_node.new.nodes)
    (g.N.Nodes.fetches c.loop-next.nodes) c.children-next-items.ensures.value c.in_ok-open_node.ensures.shows
    c.requires.met c.open_node.ensures.counted (c.loop-next.invariant.fetched told)
