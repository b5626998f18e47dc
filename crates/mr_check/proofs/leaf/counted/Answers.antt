use Rattle.std.proofs.Common.{◌++◌, ◌∷◌, [], Option, sym, subst}
use Rattle.mr_proof.specs.declared.question.Around.{Around}
use Rattle.mr_check.specs.private.Counting.{CountsRecords}
use Rattle.mr_check.proofs.leaf.counted.Goals as goal

pub returns-then-is_kept-clause-tally : goal.returns-then-is_kept-clause-tally
returns-then-is_kept-clause-tally g c = λ given counts.
    subst (λ (z : Option Around). CountsRecords z c.args.head.now.radius (given ++ c.args.one.now ∷ [])
    c.count.new.tally)
    c.around.ensures (c.count.ensures given
    (subst (λ (z : Option Around). CountsRecords z c.args.head.now.radius given c.args.tally.now) (sym c.around.ensures)
    counts))
