-- Pieces of a proof, field by field.
use Rattle.std.proofs.Common.{◌≡◌, ℕ, ◌-◌, ◌+◌, ◌≤◌, List, [], ◌∷◌, ◌++◌, length, take, drop, None, sym, ap, subst, ◌∙◌, append_assoc, arith}
use Rattle.std.proofs.lemmas.List.{append-nil, take-append-drop, take-take, drop-take}
use Rattle.mr_record.specs.declared.record.Record.{Record}
use Rattle.mr_proof.specs.declared.rule.Fault.{Fault}
use Rattle.mr_check.specs.declared.reader.Reader.{Reader}
use Rattle.mr_check.specs.declared.reader.Progress.TheVariants as turns
use Rattle.mr_check.specs.declared.fed.Fed.TheVariants as fed
use Rattle.mr_proof.specs.Handed.{handed_out}
use Rattle.mr_check.specs.private.Stops.{stop_of}
use Rattle.mr_proof.specs.Tight.{Question}
use Rattle.mr_check.specs.private.Reads.{FitsReader, StandsAt, MakesProgress, FedBy, SoFar}

-- the front of a list, and then the front of what is left
pub take_both : {X : Type 0} (at n : ℕ) (xs : List X) → take at xs ++ take n (drop at xs) ≡ take (at + n) xs
take_both at n xs =
    (λ i. sym (take-take at (at + n) xs (omega arith)) i ++ sym (drop-take at n xs) i)
    ∙ take-append-drop at (take (at + n) xs)

pub begins : {H : Type 0} (hash : List ℕ → List ℕ) (holds : H → List ℕ → Type 0) (q : Question) (r : Reader H)
    (piece : List ℕ) → FitsReader r → r.fault ≡ None → SoFar hash holds q r r piece 0
begins hash holds q r piece fits none = record {
  within = omega arith;
  fits = fits;
  none = none;
  stands = λ s at. subst (λ (x : List ℕ). StandsAt hash holds q r x) (sym (append-nil s)) at;
  quiet = λ s at. ap (handed_out q) (append-nil s);
}

joined : (s piece : List ℕ) (at n : ℕ)
    → (s ++ take at piece) ++ take n (drop at piece) ≡ s ++ take (at + n) piece
joined s piece at n =
    append_assoc s (take at piece) (take n (drop at piece)) ∙ ap (λ (x : List ℕ). s ++ x) (take_both at n piece)

whole : (s piece : List ℕ) (at : ℕ) → (s ++ take at piece) ++ drop at piece ≡ s ++ piece
whole s piece at =
    append_assoc s (take at piece) (drop at piece) ∙ ap (λ (x : List ℕ). s ++ x) (take-append-drop at piece)

pub took : {H : Type 0} (hash : List ℕ → List ℕ) (holds : H → List ℕ → Type 0) (q : Question) (old r new : Reader H)
    (piece rest : List ℕ) (at n : ℕ) → rest ≡ drop at piece → SoFar hash holds q old r piece at → FitsReader new
    → new.fault ≡ None → at + n ≤ length piece
    → ((s : List ℕ) → StandsAt hash holds q r s → MakesProgress hash holds q s rest new (turns.Took n))
    → SoFar hash holds q old new piece (at + n)
took hash holds q old r new piece rest at n is so fits none within turn = record {
  within = within;
  fits = fits;
  none = none;
  stands = λ s here.
      let t = turn (s ++ take at piece) (so.stands s here) in
      let place = ap (λ (x : List ℕ). (s ++ take at piece) ++ take n x) is ∙ joined s piece at n in
      subst (λ (x : List ℕ). StandsAt hash holds q new x) place t.0;
  quiet = λ s here.
      let t = turn (s ++ take at piece) (so.stands s here) in
      let place = ap (λ (x : List ℕ). (s ++ take at piece) ++ take n x) is ∙ joined s piece at n in
      ap (handed_out q) (sym place) ∙ t.1 ∙ so.quiet s here;
}

pub all_taken : {H : Type 0} (hash : List ℕ → List ℕ) (holds : H → List ℕ → Type 0) (q : Question)
    (old r new : Reader H)
    (piece rest : List ℕ) (at : ℕ) → rest ≡ drop at piece → SoFar hash holds q old r piece at
    → ((s : List ℕ) → StandsAt hash holds q r s → MakesProgress hash holds q s rest new turns.More)
    → (s : List ℕ) → StandsAt hash holds q old s → FedBy hash holds q s piece new fed.More
all_taken hash holds q old r new piece rest at is so turn s here =
    let t = turn (s ++ take at piece) (so.stands s here) in
    let place = ap (λ (x : List ℕ). (s ++ take at piece) ++ x) is ∙ whole s piece at in (
      subst (λ (x : List ℕ). StandsAt hash holds q new x) place t.0,
      ap (handed_out q) (sym place) ∙ t.1 ∙ so.quiet s here,
    )

pub found : {H : Type 0} (hash : List ℕ → List ℕ) (holds : H → List ℕ → Type 0) (q : Question) (old r new : Reader H)
    (piece rest : List ℕ) (at n : ℕ) → rest ≡ drop at piece → 1 ≤ n → SoFar hash holds q old r piece at
    → ((s : List ℕ) → StandsAt hash holds q r s → MakesProgress hash holds q s rest new (turns.Found n))
    → (s : List ℕ) → StandsAt hash holds q old s → FedBy hash holds q s piece new
    (fed.Found (at + n) new.machine.latest)
found hash holds q old r new piece rest at n is some so turn s here =
    let t = turn (s ++ take at piece) (so.stands s here) in
    let place = ap (λ (x : List ℕ). (s ++ take at piece) ++ take n x) is ∙ joined s piece at n in
    let one_less : at + (n - 1) ≡ (at + n) - 1 = omega arith in
    let before = ap (λ (x : List ℕ). (s ++ take at piece) ++ take (n - 1) x) is ∙ joined s piece at (n - 1)
    ∙ ap (λ (k : ℕ). s ++ take k piece) one_less in (
      subst (λ (x : List ℕ). StandsAt hash holds q new x) place t.0,
      record {
        item = ap (handed_out q) (sym place) ∙ t.1 ∙ ap (λ (rs : List Record). rs ++ new.machine.latest ∷ [])
            (so.quiet s here);
        none_before = ap (handed_out q) (sym before) ∙ t.2 ∙ so.quiet s here;
      },
    )

pub broken : {H : Type 0} (hash : List ℕ → List ℕ) (holds : H → List ℕ → Type 0) (q : Question) (old r new : Reader H)
    (piece rest : List ℕ) (at : ℕ) (f : Fault) → rest ≡ drop at piece → SoFar hash holds q old r piece at
    → ((s : List ℕ) → StandsAt hash holds q r s → MakesProgress hash holds q s rest new (turns.Broken f))
    → (s : List ℕ) → StandsAt hash holds q old s → FedBy hash holds q s piece new (fed.Fault f)
broken hash holds q old r new piece rest at f is so turn s here =
    let t = turn (s ++ take at piece) (so.stands s here) in
    let place = ap (λ (x : List ℕ). (s ++ take at piece) ++ x) is ∙ whole s piece at in (
      ap (stop_of q) (sym place) ∙ t.0,
      ap (handed_out q) (sym place) ∙ t.1 ∙ so.quiet s here,
    )
