use Rattle.std.proofs.Common.{◌≡◌, ℕ, List, ◌<◌, ◌≤◌, true}
use Rattle.mr_pages.specs.Faults.{has}
use Rattle.mr_pages.specs.Walking.{Saw}
use Rattle.mr_pages.proofs.visited.Visited.lost.Given as goal

-- each page below was reached
abbrev pub invariant-loop-page : goal.invariant-loop-page
invariant-loop-page l = (ps ns : List ℕ) → Saw l.pages l.self ps ns → (q : ℕ) → 1 ≤ q → q < l.page → has q ps ≡ true
