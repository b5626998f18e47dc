use Rattle.std.proofs.Common.{◌∙◌, ◌+◌, sym, ap, subst, All, ℕ, length, length-append, arith}
use Rattle.std.proofs.lemmas.List.Elements.{All-nil, All-push}
use Rattle.mr_record.specs.declared.record.Record.{Record}
use Rattle.mr_record.specs.Record.{IsRecord}
use Rattle.mr_batch.specs.Workload.{record_of_word}
use Rattle.mr_batch.proofs.Workloads.{one_more, all_made, generated_list, no_record_made}
use Rattle.mr_batch.proofs.workload.generate.Goals as goal

pub loop-i-init : goal.loop-i-init
loop-i-init c =
    let none = c.in_ok-records.ensures.items in
    record {
      exact = no_record_made _ c.args.n _ _ none c.seed_from_u64-generator.ensures.same;
      each = subst (All IsRecord) (sym none) (All-nil IsRecord);
      count = ap length none;
      len = c.in_ok-records.ensures.len;
      room = c.in_ok-records.ensures.capacity;
    }

pub loop-i-preserved : goal.loop-i-preserved
loop-i-preserved c =
    let pushed = c.push_reserved.ensures.items in
    let made = c.record_of.ensures.value
    ∙ ap (λ (k : ℕ). record_of_word (k + 1) c.next_word-word.result) c.from.ensures in
    record {
      exact = one_more record_of_word _ _ _ _ (c.loop-i.i + 1) c.args.n c.loop-i.i c.loop-i.generator
          c.next_word-word.result c.next_word-word.new.generator c.loop-i-test.true c.next_word-word.ensures made
          pushed c.loop-i.invariant.exact;
      each = subst (All IsRecord) (sym pushed)
          (All-push IsRecord _ _ c.loop-i.invariant.each c.record_of.ensures.record);
      count = omega (arith, ap length pushed, length-append {A = Record});
      len = omega arith;
      room = omega arith;
    }

pub returns-clause-exact : goal.returns-clause-exact
returns-clause-exact c =
    all_made record_of_word _ _ (c.loop-i.i + 1) c.args.n c.loop-i.i c.loop-i.generator (omega arith)
    c.loop-i.invariant.exact

pub returns-clause-records : goal.returns-clause-records
returns-clause-records c =
    generated_list _ c.args.n c.args.start (returns-clause-exact c) c.loop-i.invariant.each (omega arith) (omega arith)
