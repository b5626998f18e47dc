-- The numbers of earlier records, by an end below which all are, or by a set.
use Rattle.std.proofs.Common.{◌≡◌, ◌<◌, ◌≤◌, ℕ, List, false, eqb, arith}
use Rattle.std.specs.Prelude.{All}
use Rattle.std.proofs.lemmas.Bool.{eqb-true, false_from_ne_true}
use Rattle.std.proofs.lemmas.List.Folds.{list_any_none}
use Rattle.mr_record.specs.declared.record.Record.{Record}
use Rattle.mr_record.specs.RecordText.{has_number}

-- a number that is not below the end is none of those that are
pub none_above : (end n : ℕ) (rs : List Record) → All (λ (r : Record). r.number < end) rs → end ≤ n
    → has_number n rs ≡ false
none_above end n rs low above = list_any_none (λ (r : Record). eqb r.number n) rs (λ k d within.
    let less = low k d within in
    false_from_ne_true _ (λ same. let one = eqb-true _ _ same in omega (arith, one, less, above)))
