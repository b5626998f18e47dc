use Rattle.std.specs.Prelude.{◌≡◌, ◌≤◌, ◌+◌, ◌-◌, length}
use Rattle.mr_journal.specs.Changed.{changed}
use Rattle.mr_journal.proofs.changing.count_changed.Given as goal

abbrev pub invariant-loop-number : goal.invariant-loop-number
invariant-loop-number l =
    (l.number ≤ l.pages) × (l.count + length (changed l.size l.old l.new l.number (l.pages - l.number))
    ≡ length (changed l.size l.old l.new 0 l.pages))
    × (l.count ≤ l.number)

abbrev pub decreases-loop-number : goal.decreases-loop-number
decreases-loop-number l = l.pages - l.number
