use Rattle.std.proofs.Common.{◌≡◌, rules}
use Rattle.std.proofs.lemmas.List.Sorted.{answers_always}
use Rattle.mr_record.proofs.Sorting.{sorted_by_key_is}
use Rattle.mr_record.specs.declared.record.Record.{Record}
use Rattle.mr_grow.proofs.deletion.sort_by_number.Goals as goal

pub returns : goal.returns
returns c =
    sorted_by_key_is (λ (r : Record). r.number) _ _
    (c.in_ok-sort_by_key.ensures.sorted (λ (r : Record). r.number)
    (answers_always _ (λ a n. n ≡ a.0.now.number) _ (λ f a n g k. search rules)))
    (c.in_ok-sort_by_key.ensures.stable (λ (r : Record). r.number)
    (answers_always _ (λ a n. n ≡ a.0.now.number) _ (λ f a n g k. search rules)))
