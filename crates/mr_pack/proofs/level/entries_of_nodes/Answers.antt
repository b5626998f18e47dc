use Rattle.std.proofs.Common.{◌≡◌, ◌+◌, length, ap, ◌∙◌, sym, arith}
use Rattle.std.proofs.lemmas.List.{length_push}
use Rattle.mr_pack.specs.declared.node.Node.{Node}
use Rattle.mr_pack.proofs.Levels.{one_more_entry}
use Rattle.mr_pack.proofs.level.entries_of_nodes.Goals as goal

pub loop-node-preserved : goal.loop-node-preserved
loop-node-preserved c =
    let position : c.len-position.result ≡ length c.loop-node.yielded = omega (arith, c.loop-node.invariant.count) in
    record {
      count =
          ap length c.in_ok-push.ensures.items ∙ length_push c.loop-node.entries.items c.place.result
          ∙ ap (λ n. n + 1) c.loop-node.invariant.count ∙ sym (length_push c.loop-node.yielded c.in-Some.node);
      so_far =
          one_more_entry (λ (n : Node). n.tree) c.loop-node.entries.items c.push.new.self.items c.loop-node.yielded
          c.in-Some.node c.place.result
          c.in-Some.node.bounds c.len-position.result c.in_ok-push.ensures.items c.place.ensures c.in-Some.node.round
          position c.loop-node.invariant.so_far;
    }
