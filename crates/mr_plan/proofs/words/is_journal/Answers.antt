use Rattle.std.specs.Prelude.{Some, None}
use Rattle.std.proofs.lemmas.Bool.Decides.{Decides-eqb}
use Rattle.std.proofs.lemmas.Slice.Eq.{strip_prefix_is}
use Rattle.mr_plan.proofs.Journals.{by_rest, no_front}
use Rattle.mr_plan.proofs.words.is_journal.Goals as goal

pub returns-in-None : goal.returns-in-None
returns-in-None c =
    no_front c.args.name.now c.args.map.now
    (strip_prefix_is Decides-eqb c.args.name.now c.args.map.now None c.in-None.ensures.cases)

pub returns-in-Some : goal.returns-in-Some
returns-in-Some c =
    by_rest c.args.name.now c.args.map.now c.in-Some.rest.now c.eq.result
    (strip_prefix_is Decides-eqb c.args.name.now c.args.map.now (Some c.in-Some.rest) c.in-Some.ensures.cases)
    c.eq.ensures
