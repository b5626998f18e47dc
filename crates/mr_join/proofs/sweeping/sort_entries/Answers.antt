use Rattle.std.proofs.Common.{rules}
use Rattle.std.specs.Prelude.{ℤ}
use Rattle.std.proofs.lemmas.Fn.{always_returns_same}
use Rattle.mr_join.specs.declared.entry.Entry.{Entry}
use Rattle.mr_join.proofs.Sweeps.{rises}
use Rattle.mr_join.proofs.sweeping.sort_entries.Goals as goal

pub returns-clause-rises : goal.returns-clause-rises
returns-clause-rises c =
    let key : Entry → ℤ = λ e. e.rect.x0 in
    rises c.sort_by_key.new.self.items
    (c.in_ok-sort_by_key.ensures.sorted key (always_returns_same _ _ _ (λ a r f' k. search rules)))
