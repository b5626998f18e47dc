use Rattle.std.proofs.Common.{sym, subst}
use Rattle.mr_tree.specs.Digest.{by}
use Rattle.mr_tree.specs.Leaves.{leaf_entries}
use Rattle.mr_pages.specs.Leaves.{KnowsFirst}
use Rattle.mr_command.specs.Ending.{RunsPlan}
use Rattle.mr_plan.specs.Plan.{comes}
use Rattle.mr_plan.specs.Say.{say_map}
use Rattle.mr_command.proofs.build_command.build_records.Goals as goal

pub save_map-requires-clause-known : goal.save_map-requires-clause-known
save_map-requires-clause-known g c κs within =
    subst (KnowsFirst (leaf_entries (by c.args.version g.H.Hashes.of) c.in_ok-made.made.0))
    (sym c.deref.ensures.value) c.in_ok-made.ensures.known

pub returns : goal.returns
returns g c =
    subst (λ tree. RunsPlan (comes (say_map c.args.version g.H.Hashes.of c.args.map.now tree 0))
    (g.S.Shelf.state c.args.shelf.now)
    (g.S.Shelf.state c.save_map.new.shelf) c.save_map.result) c.in_ok-made.ensures.exact c.save_map.ensures
