-- Records that differ in their numbers. This serves private functions.
use Rattle.std.specs.Prelude.{ℕ, ◌≤◌, ◌==◌, ◌&&◌, nat_lt, Bool, true, List, [], ◌∷◌, map, count_by}
use Rattle.std.specs.List.Sorted.{IsNonDecreasingBy}
use Rattle.mr_record.specs.declared.record.Record.{Record}

-- each number is above the one before it, where `last` stands before the others
abbrev pub rise_after : ℕ → List ℕ → Bool
rise_after last [] = true
rise_after last (n ∷ ns) = nat_lt last n && rise_after n ns

abbrev pub rise : List ℕ → Bool
rise [] = true
rise (n ∷ ns) = rise_after n ns

abbrev pub numbers_of : List Record → List ℕ
numbers_of records = map (λ (r : Record). r.number) records

-- no two of the records have one number
abbrev pub EachOnce : List Record → Type 0
EachOnce records = (n : ℕ) → count_by (λ (r : Record). r.number == n) records ≤ 1

-- no number is below one before it
abbrev pub AreInOrder : List Record → Type 0
AreInOrder records = IsNonDecreasingBy (λ (r : Record). r.number) records
