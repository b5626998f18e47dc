use Rattle.std.proofs.Common.{◌∙◌, None, sym, ap, subst, All, length, length-append, arith}
use Rattle.std.proofs.lemmas.List.Elements.{All-nil, All-push}
use Rattle.mr_query.specs.declared.query.Query.{Query}
use Rattle.mr_query.specs.declared.query.Shape.{Shape}
use Rattle.mr_query.specs.Word.{asks, IsAskable}
use Rattle.mr_batch.specs.Workload.{query_of_word}
use Rattle.mr_batch.proofs.Workloads.{one_more, all_made, no_query_made}
use Rattle.mr_batch.proofs.workload.generate_queries.Goals as goal

pub loop-place-init : goal.loop-place-init
loop-place-init c =
    let none = c.in_ok-queries.ensures.items in
    record {
      exact = no_query_made _ c.args.n _ _ none c.seed_from_u64-generator.ensures.same;
      each = subst (All IsAskable) (sym none) (All-nil IsAskable);
      count = ap length none;
      len = c.in_ok-queries.ensures.len;
      room = c.in_ok-queries.ensures.capacity;
    }

pub loop-place-preserved : goal.loop-place-preserved
loop-place-preserved c =
    let pushed = c.push_reserved.ensures.items in
    record {
      exact = one_more query_of_word _ _ _ _ c.loop-place.place c.args.n c.loop-place.place c.loop-place.generator
          c.next_word-word.result c.next_word-word.new.generator c.loop-place-test.true c.next_word-word.ensures
          (c.of.ensures ∙ ap (λ (s : Shape). asks s None) c.shape_of.ensures.value) pushed c.loop-place.invariant.exact;
      each = subst (All IsAskable) (sym pushed)
          (All-push IsAskable _ _ c.loop-place.invariant.each
          (subst IsAskable (sym c.of.ensures) c.shape_of.ensures.counted));
      count = omega (arith, ap length pushed, length-append {A = Query});
      len = omega arith;
      room = omega arith;
    }

pub returns-clause-exact : goal.returns-clause-exact
returns-clause-exact c =
    all_made query_of_word _ _ c.loop-place.place c.args.n c.loop-place.place c.loop-place.generator (omega arith)
    c.loop-place.invariant.exact
