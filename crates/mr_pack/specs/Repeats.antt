-- Numbers that stand twice in a list. This file names nothing of the source.
use Rattle.std.specs.Prelude.{ℕ, ◌<◌, ◌≤◌, ◌==◌, if◌then◌else◌, List, [], ◌∷◌, Option, Some, None, count_by}

-- how often a number stands in a list
abbrev pub occurrences : ℕ → List ℕ → ℕ
occurrences n ns = count_by (λ m. m == n) ns

-- n is the least number that stands twice in the list
pub record IsLeastTwice (n : ℕ) (ns : List ℕ) : Type 0 where
  pub twice : 2 ≤ occurrences n ns
  pub least : (m : ℕ) → m < n → occurrences m ns ≤ 1

-- the first number of the list `last ∷ ns` that stands behind itself
abbrev pub repeat_after : ℕ → List ℕ → Option ℕ
repeat_after last [] = None
repeat_after last (n ∷ ns) = if n == last then Some last else repeat_after n ns
