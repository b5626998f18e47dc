use Rattle.std.specs.Prelude.{◌≡◌, ◌≤◌, ◌-◌, ◌++◌}
use Rattle.std.specs.List.{flat_map}
use Rattle.mr_journal.specs.Format.{spelled_page}
use Rattle.mr_journal.specs.Changed.{changed}
use Rattle.mr_journal.proofs.changing.spell_pages.Given as goal

abbrev pub invariant-loop-number : goal.invariant-loop-number
invariant-loop-number l =
    (l.number ≤ l.pages)
    × (l.body.items ++ flat_map spelled_page (changed l.size l.old l.new l.number (l.pages - l.number))
    ≡ l.fn.body.items ++ flat_map spelled_page (changed l.size l.old l.new 0 l.pages))

abbrev pub decreases-loop-number : goal.decreases-loop-number
decreases-loop-number l = l.pages - l.number
