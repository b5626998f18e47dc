use Rattle.mr_bundle.proofs.Zipped.{judged_all}
use Rattle.mr_bundle.proofs.checking.check_all.Goals as goal

pub returns : goal.returns
returns g c =
    judged_all g.H.Hashes.of c.args.root.now c.args.queries.now c.args.bundle.now c.args.parts.now c.pair.new.all.items
    c.deref.result.now c.in_halves.result c.deref.ensures.value c.in_ok-pair.ensures.each c.in_halves.ensures
