use Rattle.std.proofs.Common.{◌≡◌, ◌+◌, ◌*◌, ◌≤◌, take}
use Rattle.std.specs.Prelude.{IsSome}
use Rattle.mr_outside.specs.Told.{TakesBytes}
use Rattle.mr_tree.specs.Digest.{by}
use Rattle.mr_prove.specs.private.Parts.{child_parts, opened_in}
use Rattle.mr_prove.proofs.part.+parts.Given as goal

abbrev pub decreases-write_part : goal.decreases-write_part
decreases-write_part g l = 2 * l.child.now.level + 1

abbrev pub decreases-write_met : goal.decreases-write_met
decreases-write_met g l = 2 * l.child.now.level

abbrev pub invariant-write_met-loop-next : goal.invariant-write_met-loop-next
invariant-write_met-loop-next g l = record {
  kept : g.N.Nodes.kept l.fn.nodes l.nodes;
  whole : IsSome (g.N.Nodes.stands l.fn.nodes).tree →
      TakesBytes (g.W.Sink.state l.initial.out) (g.W.Sink.state l.out)
      (child_parts (by (g.N.Nodes.stands l.fn.nodes).version g.N.Hash.Hashes.of)
      ((g.A.AsQuestion.question l.fn.q).way l.fn.head.radius) (g.N.Nodes.stands l.fn.nodes)
      (take l.next-index l.next-items));
  fetched : IsSome (g.N.Nodes.stands l.fn.nodes).tree →
      g.N.Nodes.fetches l.nodes ≤ g.N.Nodes.fetches l.initial.nodes
      + opened_in (by (g.N.Nodes.stands l.fn.nodes).version g.N.Hash.Hashes.of)
      ((g.A.AsQuestion.question l.fn.q).way l.fn.head.radius) (g.N.Nodes.stands l.fn.nodes)
      (take l.next-index l.next-items);
  still : g.N.Nodes.faults l.nodes ≡ g.N.Nodes.faults l.initial.nodes;
  unrefused : g.N.Nodes.refusal l.nodes ≡ g.N.Nodes.refusal l.initial.nodes;
  quiet : (g.W.Sink.state l.out).faults ≡ (g.W.Sink.state l.initial.out).faults;
}
