use Rattle.std.proofs.Common.{rules, ℕ}
use Rattle.std.specs.Prelude.{ℤ}
use Rattle.std.proofs.lemmas.List.Sorted.{answers_always}
use Rattle.mr_pack.specs.Entries.{is_below}
use Rattle.mr_pack.specs.declared.placed.Placed.{Placed}
use Rattle.mr_record.proofs.Sorting.{sorted_is}
use Rattle.mr_pack.proofs.Orders.{below_order, on_ok}
use Rattle.mr_pack.proofs.grouping.sort_by_y.Goals as goal

pub returns : goal.returns
returns g c =
    let key : Placed g.row.T.Denot → ℤ × ℕ = λ e. (e.y, e.tie) in
    on_ok c.sort_by_key.result
    (λ sorted. sorted_is is_below below_order c.args.entries.now c.sort_by_key.new.self
    (sorted key (answers_always _ _ _ (λ f a r f' k. search rules)))
    (c.sort_by_key.ensures.stable key (answers_always _ _ _ (λ f a r f' k. search rules))))
    c.sort_by_key.ensures.sorted
