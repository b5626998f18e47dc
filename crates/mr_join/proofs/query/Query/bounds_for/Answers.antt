use Rattle.std.proofs.Common.{rules, arith, ◌≡◌, ◌∙◌, ap, to_z, of_z, w32, w64, FitsSigned}
use Rattle.std.proofs.lemmas.Int.{ints, to_z-of_z}
use Rattle.mr_join.proofs.Trees.{ended, not_due}
use Rattle.mr_join.proofs.query.Query.bounds_for.Goals as goal

pub returns-then-x1-start : goal.returns-then-x1-start
returns-then-x1-start c = ended c.args.self.now.rect.x0 c.none-bounds.result c.args.entry.now (search rules)

pub returns-else-from-self : goal.returns-else-from-self
returns-else-from-self c =
    let wide : FitsSigned w64 c.from-else-from-self.result = search rules in
    let fits : FitsSigned w32 c.corners-x0.result.0 = search rules in
    let at : c.corners-x0.result.0 ≡ c.args.entry.now.rect.x0 = ap (λ r. r.0) c.corners-x0.ensures.value in
    let due : to_z w64 (of_z w64 c.from-else-from-self.result) ≡ c.args.entry.now.rect.x0 =
    to_z-of_z w64 c.from-else-from-self.result wide ∙ c.from-else-from-self.ensures
    ∙ to_z-of_z w32 c.corners-x0.result.0 fits ∙ at in
    not_due c.args.self.now.rect.x0
    (record {
      due = to_z w64 (of_z w64 c.from-else-from-self.result);
      low = c.none-bounds.result.low;
      high = c.none-bounds.result.high;
    })
    c.args.entry.now (omega (arith, ints, due))
