use Rattle.std.proofs.Common.{rules, ℕ}
use Rattle.std.proofs.lemmas.Fn.{always_returns_same}
use Rattle.mr_record.specs.declared.record.Record.{Record}
use Rattle.mr_record.proofs.Sorting.{sorted_is}
use Rattle.mr_query.specs.Nearest.{distance, is_nearer}
use Rattle.mr_query.proofs.Sorting.{nearer_order}
use Rattle.mr_query.proofs.selection.by_distance.Goals as goal

pub returns : goal.returns
returns c =
    let p = c.args.center.now in
    let key : Record → ℕ × ℕ = λ r. (distance p r, r.number) in
    sorted_is (is_nearer p) (nearer_order p) c.args.records.now.items c.sort_by_key.new.self.items
    (c.in_ok-sort_by_key.ensures.sorted key (always_returns_same _ _ _ (λ a r f' k. search rules)))
    (c.in_ok-sort_by_key.ensures.stable key (always_returns_same _ _ _ (λ a r f' k. search rules)))
