use Rattle.std.specs.Prelude.{IsSome, true, ◌≡◌}
use Rattle.mr_outside.specs.Told.{TakesFront}
use Rattle.mr_proof.specs.declared.way.Way.{Way}
use Rattle.mr_query.specs.declared.key.Key.{Key}
use Rattle.mr_proof.specs.Tight.{opens_at}
use Rattle.mr_tree.specs.Digest.{by}
use Rattle.mr_prove.specs.private.Parts.{child_key, part_at}
use Rattle.mr_prove.proofs.Steps.{on_err, node_front}
use Rattle.mr_prove.proofs.part.open_node.Goals as goal

pub returns-in_err-write_node-clause-front : goal.returns-in_err-write_node-clause-front
returns-in_err-write_node-clause-front g c =
    on_err c.from_residual-in_err-write_node.result
    (IsSome (g.N.Nodes.stands c.args.nodes.now).tree → (way : Key → Way)
    → opens_at way (child_key c.args.version c.args.child.now) ≡ true
    → TakesFront (g.W.Sink.state c.args.out.now) (g.W.Sink.state c.write_node.new.out)
    (part_at (by (g.N.Nodes.stands c.args.nodes.now).version g.N.Hash.Hashes.of) way ((g.N.Nodes.stands
    c.args.nodes.now).node c.args.child.now.id)))
    (λ told way m. node_front g.N.Hash.Hashes.of way c.args.version (g.N.Nodes.stands c.args.nodes.now)
    c.requires.version c.args.child.now c.requires.may told c.fetched.new.into (g.W.Sink.state c.args.out.now)
    (g.W.Sink.state c.write_node.new.out)
    c.in_ok-fetched.ensures.shows m c.write_node.ensures.front)
