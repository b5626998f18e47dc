use Rattle.std.proofs.Common.{refl}
use Rattle.mr_clash.proofs.Walks.{digest_beside}
use Rattle.mr_clash.proofs.walked.digest_beside.Goals as goal

pub returns-in-None : goal.returns-in-None
returns-in-None g c = λ owned is pair.
    digest_beside g.H.Hashes.of owned c.args.shown.now c.args.held c.args.held c.args.clash.now c.in-None.is is pair
    refl
