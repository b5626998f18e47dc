use Rattle.std.proofs.Common.{◌≡◌, rules}
use Rattle.std.proofs.lemmas.List.Sorted.{answers_always}
use Rattle.mr_record.proofs.Sorting.{sorted_by_key_is}
use Rattle.mr_command.specs.declared.list_command.Numbered.{Numbered}
use Rattle.mr_command.proofs.list_command.sort.Goals as goal

pub returns : goal.returns
returns c =
    sorted_by_key_is (λ (e : Numbered). e.number) _ _
    (c.in_ok-sort_by_key.ensures.sorted (λ (e : Numbered). e.number)
    (answers_always _ (λ a n. n ≡ a.0.now.number) _ (λ f a n g k. search rules)))
    (c.in_ok-sort_by_key.ensures.stable (λ (e : Numbered). e.number)
    (answers_always _ (λ a n. n ≡ a.0.now.number) _ (λ f a n g k. search rules)))
