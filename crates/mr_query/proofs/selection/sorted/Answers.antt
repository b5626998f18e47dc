use Rattle.std.proofs.Common.{◌≡◌, rules}
use Rattle.std.proofs.lemmas.List.Sorted.{answers_always}
use Rattle.mr_record.specs.declared.record.Record.{Record}
use Rattle.mr_query.proofs.Sorting.{by_number_is}
use Rattle.mr_query.proofs.selection.sorted.Goals as goal

pub returns : goal.returns
returns c =
    by_number_is _ _
    (c.in_ok-sort_by_key.ensures.sorted (λ (r : Record). r.number)
    (answers_always _ (λ a n. n ≡ a.0.now.number) _ (λ f a n g k. search rules)))
    (c.in_ok-sort_by_key.ensures.stable (λ (r : Record). r.number)
    (answers_always _ (λ a n. n ≡ a.0.now.number) _ (λ f a n g k. search rules)))
