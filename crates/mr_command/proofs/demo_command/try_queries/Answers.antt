use Rattle.std.proofs.Common.{◌+◌, length, take, sym, ap, ◌∙◌, arith}
use Rattle.std.specs.Prelude.{sum_by}
use Rattle.std.proofs.lemmas.List.Sums.{sum_by_more}
use Rattle.mr_tree.specs.Tree.{records}
use Rattle.mr_query.specs.Scan.{scan}
use Rattle.mr_proof.specs.Honest.{proof}
use Rattle.mr_plan.specs.First.{first}
use Rattle.mr_command.proofs.demo_command.try_queries.Goals as goal

pub loop-query-preserved : goal.loop-query-preserved
loop-query-preserved g c =
    let tree = c.args.tree.now in
    let hash = first g.N.Hash.Hashes.of in
    let at = c.loop-query.query-index in
    let queries = c.args.queries.now in
    let on = c.loop-query.invariant in
    let new = c.in_ok-tried.ensures in (
      new.stands,
      (λ i. on.1 i + new.answers i)
          ∙ ap (λ q. sum_by (λ q. length (scan (records tree) q)) (take at queries) + length (scan (records tree) q))
          c.query-item.is
          ∙ sym (sum_by_more (λ q. length (scan (records tree) q)) queries at c.query-item.result
          c.loop-query-test.true),
      (λ i. on.2 i + new.bytes i)
          ∙ ap (λ q. sum_by (λ q. length (proof hash tree 0 q)) (take at queries) + length (proof hash tree 0 q))
          c.query-item.is
          ∙ sym (sum_by_more (λ q. length (proof hash tree 0 q)) queries at c.query-item.result
          c.loop-query-test.true),
      omega (arith, on.3, new.few_answers),
      omega (arith, on.4, new.few_bytes),
    )
