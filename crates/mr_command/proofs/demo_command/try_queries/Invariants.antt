use Rattle.std.proofs.Common.{◌≡◌, ◌*◌, ◌^◌, ◌≤◌, take}
use Rattle.mr_record.specs.declared.version.Version.TheVariants.{One}
use Rattle.mr_tree.specs.Snapshot.{tree_model}
use Rattle.mr_plan.specs.Demo.{all_answers, all_bytes}
use Rattle.mr_command.proofs.demo_command.try_queries.Given as goal

abbrev pub invariant-loop-query : goal.invariant-loop-query
invariant-loop-query g l =
    (g.N.Nodes.stands l.nodes ≡ tree_model One 0 l.tree)
    × (l.answers ≡ all_answers l.tree (take l.query-index l.queries))
    × (l.bytes ≡ all_bytes g.N.Hash.Hashes.of l.tree (take l.query-index l.queries))
    × (l.answers ≤ l.query-index * 2 ^ 64) × (l.bytes ≤ l.query-index * 2 ^ 64)
