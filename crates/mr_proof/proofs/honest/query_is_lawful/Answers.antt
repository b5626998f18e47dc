use Rattle.mr_proof.proofs.Laws.{is_lawful}
use Rattle.mr_proof.proofs.honest.query_is_lawful.Goals as goal

pub returns : goal.returns
returns c = is_lawful c.args.q.now c.is_query.ensures
