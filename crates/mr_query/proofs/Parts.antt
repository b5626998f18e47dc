-- Parts from a cut at their comma.
use Rattle.std.proofs.Common.{◌≡◌, ℕ, ◌<◌, eqb, List, [], ◌∷◌, length, refl, arith, Err}
use Rattle.std.proofs.lemmas.List.Splits.{slice_split_none, slice_split_at, length-slice_split}
use Rattle.mr_record.specs.Lines.{LacksByte, IsCutAt}
use Rattle.mr_query.specs.declared.query.QueryFault.TheVariants as faults
use Rattle.mr_query.specs.Word.{comma_parts, window_of_parts, nearest_of_parts}

pub part_cut : (text front back : List ℕ) → IsCutAt 44 text front back → comma_parts text ≡ front ∷ comma_parts back
part_cut text front back cut = rw cut.parts (slice_split_at (λ b. eqb b 44) front 44 back cut.first refl)

pub part_one : (text : List ℕ) → LacksByte 44 text → comma_parts text ≡ text ∷ []
part_one text lacks = slice_split_none (λ b. eqb b 44) text lacks

more_than_four : (a b c d : List ℕ) (others : List (List ℕ)) → 0 < length others →
    window_of_parts (a ∷ b ∷ c ∷ d ∷ others) ≡ Err faults.Parts
unfolding window_of_parts
more_than_four a b c d [] filled = absurd (omega arith)
more_than_four a b c d (e ∷ others) filled = refl

pub five_parts : (a b c d rest : List ℕ) → window_of_parts (a ∷ b ∷ c ∷ d ∷ comma_parts rest) ≡ Err faults.Parts
five_parts a b c d rest =
    more_than_four a b c d (comma_parts rest) (omega (arith, length-slice_split (λ x. eqb x 44) rest))

more_than_three : (a b c : List ℕ) (others : List (List ℕ)) → 0 < length others →
    nearest_of_parts (a ∷ b ∷ c ∷ others) ≡ Err faults.Parts
unfolding nearest_of_parts
more_than_three a b c [] filled = absurd (omega arith)
more_than_three a b c (d ∷ others) filled = refl

pub four_parts : (a b c rest : List ℕ) → nearest_of_parts (a ∷ b ∷ c ∷ comma_parts rest) ≡ Err faults.Parts
four_parts a b c rest =
    more_than_three a b c (comma_parts rest) (omega (arith, length-slice_split (λ x. eqb x 44) rest))
