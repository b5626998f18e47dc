use Rattle.std.proofs.Common.{rules, ℕ}
use Rattle.std.proofs.lemmas.Fn.{always_returns_same}
use Rattle.mr_record.proofs.Sorting.{sorted_is}
use Rattle.mr_join.specs.declared.pair.Pair.{Pair}
use Rattle.mr_join.specs.Pairs.{is_before}
use Rattle.mr_join.proofs.Pairs.{pairs_order}
use Rattle.mr_join.proofs.pairing.sort.Goals as goal

pub returns : goal.returns
returns c =
    let key : Pair → ℕ × ℕ = λ p. (p.first, p.second) in
    sorted_is is_before pairs_order c.args.pairs.now.items c.sort_by_key.new.self.items
    (c.in_ok-sort_by_key.ensures.sorted key (always_returns_same _ _ _ (λ a r f' k. search rules)))
    (c.in_ok-sort_by_key.ensures.stable key (always_returns_same _ _ _ (λ a r f' k. search rules)))
