use Rattle.std.proofs.Common.{subst}
use Rattle.mr_query.specs.declared.key.Key.{Key}
use Rattle.mr_proof.specs.declared.way.Way.{Way}
use Rattle.mr_command.specs.Ending.{RunsPlan}
use Rattle.mr_plan.specs.Say.{say_check_count}
use Rattle.mr_command.proofs.check_count_command.check_count.Goals as goal

pub returns : goal.returns
returns g c =
    subst (λ (way : Key → Way). RunsPlan (say_check_count g.H.Hashes.of c.args.root.now way c.args.name.now)
    (g.S.Shelf.state c.args.shelf.now) (g.S.Shelf.state c.check_file.new.shelf) c.check_file.result)
    c.inside_of.ensures c.check_file.ensures
