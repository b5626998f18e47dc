-- Parts, each with the query at its place, and what is found of them.
use Rattle.std.proofs.Common.{◌≡◌, ℕ, ◌+◌, ◌<◌, ◌≤◌, List, [], ◌∷◌, ◌++◌, length, map, take, get_or, refl, sym, ap, ◌∙◌, arith}
use Rattle.std.specs.Prelude.{IfOk, Result, Ok, Err}
use Rattle.std.specs.Global.{Vec}
use Rattle.std.proofs.lemmas.List.{take_all, take_more, length-map, get_or-map, map-append}
use Rattle.std.proofs.lemmas.Slice.Zip.{length-zip, get_or-zip}
use Rattle.mr_query.specs.declared.query.Query.{Query}
use Rattle.mr_bundle.specs.Bundle.{bytes_of}
use Rattle.mr_bundle.specs.Verdicts.{asked, judged, asked_values, verdicts}
use Rattle.mr_bundle.specs.declared.checking.Asked.{Asked}
use Rattle.mr_bundle.specs.declared.reading.Part.{Part}
use Rattle.mr_bundle.specs.declared.verdict.Verdict.{Verdict}

module _ (queries : List Query) (bundle : List ℕ) (parts : List Part) (few : length parts ≤ length queries) where
  abbrev ends : List (List ℕ)
  ends = map (bytes_of bundle) parts

  asked_length : length (asked queries bundle parts) ≡ length parts
  asked_length = omega (arith, length-zip queries ends, length-map parts (bytes_of bundle), few)

  -- one part more
  asked_more : (i : ℕ) (q : Query) (p : Part) → i < length parts
      → take (i + 1) (asked queries bundle parts)
      ≡ take i (asked queries bundle parts) ++ (get_or queries i q, bytes_of bundle (get_or parts i p)) ∷ []
  asked_more i q p here =
      let long : length ends ≡ length parts = length-map parts (bytes_of bundle) in
      let first : i < length queries = omega (arith, here, few) in
      let second : i < length ends = omega (arith, long, here) in
      take_more (asked queries bundle parts) i (q, bytes_of bundle p) (omega (arith, asked_length, here))
      ∙ ap (λ x. take i (asked queries bundle parts) ++ x ∷ [])
      (get_or-zip queries ends i (q, bytes_of bundle p) first second
      ∙ ap (λ b. (get_or queries i q, b)) (get_or-map (bytes_of bundle) parts i p (bytes_of bundle p) here))

  pub one_more : (i : ℕ) (q : Query) (p : Part) (all more : List Asked) (one : Asked) → i < length parts
      → map asked_values all ≡ take i (asked queries bundle parts) → more ≡ all ++ one ∷ []
      → asked_values one ≡ (get_or queries i q, bytes_of bundle (get_or parts i p))
      → map asked_values more ≡ take (i + 1) (asked queries bundle parts)
  one_more i q p all more one here so_far put is =
      ap (map asked_values) put ∙ map-append asked_values all (one ∷ []) ∙ (λ j. so_far j ++ is j ∷ [])
      ∙ sym (asked_more i q p here)

  pub all_asked : (i : ℕ) → length parts ≤ i → take i (asked queries bundle parts) ≡ asked queries bundle parts
  all_asked i past = take_all i (asked queries bundle parts) (omega (arith, asked_length, past))

-- what is found of each
pub judged_all : {E : Type 0} (hash : List ℕ → List ℕ) (root : List ℕ) (queries : List Query) (bundle : List ℕ)
    (parts : List Part)
    (all lent : List Asked) (result : Result (Vec Verdict) E) → lent ≡ all
    → map asked_values all ≡ asked queries bundle parts
    → IfOk result (λ v. v.items ≡ map (λ (one : Asked). judged hash root (asked_values one)) lent)
    → IfOk result (λ v. v.items ≡ verdicts hash root queries bundle parts)
judged_all hash root queries bundle parts all lent (Ok v) same are is =
    is ∙ ap (map (λ (one : Asked). judged hash root (asked_values one))) same
    ∙ twice all ∙ ap (map (judged hash root)) are
  where
    twice : (xs : List Asked)
        → map (λ (one : Asked). judged hash root (asked_values one)) xs ≡ map (judged hash root) (map asked_values xs)
    twice [] = refl
    twice (x ∷ xs) = ap (λ vs. judged hash root (asked_values x) ∷ vs) (twice xs)
judged_all hash root queries bundle parts all lent (Err e) same are is = tt
