use Rattle.std.proofs.Common.{◌≡◌, rules}
use Rattle.std.proofs.lemmas.List.Sorted.{answers_always, IsNonDecreasingBy-from_sort}
use Rattle.mr_record.specs.declared.record.Record.{Record}
use Rattle.mr_check.proofs.arranging.sort.Goals as goal

pub returns-clause-sorted : goal.returns-clause-sorted
returns-clause-sorted c =
    IsNonDecreasingBy-from_sort (λ (r : Record). r.number) c.sort_unstable_by_key.new.self.items
    (c.sort_unstable_by_key.ensures.sorted (λ (r : Record). r.number)
    (answers_always _ (λ a n. n ≡ a.0.now.number) _ (λ f a n g k. search rules)))
