-- Records whose numbers are met one after another.
use Rattle.std.proofs.Common.{◌≡◌, ℕ, ◌+◌, ◌<◌, Bool, true, false, List, [], ◌∷◌, ◌++◌, length, get_or, take, drop, refl, sym, ap, subst, ◌∙◌, append_assoc}
use Rattle.std.specs.Prelude.{◌||◌, slice_index_or}
use Rattle.std.proofs.lemmas.List.{map-append, take_more, take-append-drop}
use Rattle.mr_record.specs.declared.record.Record.{Record}
use Rattle.mr_pages.specs.declared.visited.Visited.{Visited}
use Rattle.mr_pages.specs.Faults.{has, repeats, numbers_of}
use Rattle.mr_pages.specs.Walking.{Saw}
use Rattle.mr_pages.specs.private.Numbers.{Met}
use Rattle.mr_pages.proofs.Walks.{repeats_append}

-- one more number
numbers_push : (rs : List Record) (i : ℕ) (r : Record) → i < length rs → r ≡ get_or rs i r →
    numbers_of (take (i + 1) rs) ≡ numbers_of (take i rs) ++ r.number ∷ []
numbers_push rs i r within is =
    ap numbers_of (take_more rs i r within ∙ ap (λ x. take i rs ++ x ∷ []) (sym is))
    ∙ map-append (λ (x : Record). x.number) (take i rs) (r ∷ [])

new_or_not : (ns xs : List ℕ) (n : ℕ) → repeats ns xs ≡ false → repeats ns (xs ++ n ∷ []) ≡ has n (ns ++ xs)
new_or_not ns xs n none = repeats_append ns xs (n ∷ []) ∙ ap (λ b. b || (has n (ns ++ xs) || false)) none
    ∙ or_false (has n (ns ++ xs))
  where
    or_false : (b : Bool) → (b || false) ≡ b
    or_false true = refl
    or_false false = refl

rest_repeats : (ns xs ys : List ℕ) → repeats ns xs ≡ true → repeats ns (xs ++ ys) ≡ true
rest_repeats ns xs ys e = repeats_append ns xs ys ∙ ap (λ b. b || repeats (ns ++ xs) ys) e

split_numbers : (rs : List Record) (i : ℕ) → numbers_of (take i rs) ++ numbers_of (drop i rs) ≡ numbers_of rs
split_numbers rs i = sym (map-append (λ (x : Record). x.number) (take i rs) (drop i rs))
    ∙ ap numbers_of (take-append-drop i rs)

pub met_again : (ns : List ℕ) (rs : List Record) (i : ℕ) (r : Record) → i < length rs →
    r ≡ get_or rs i r → repeats ns (numbers_of (take i rs)) ≡ false →
    {old : Bool} → old ≡ has r.number (ns ++ numbers_of (take i rs)) → old ≡ true → true ≡ repeats ns (numbers_of rs)
met_again ns rs i r within is none {old} met is_old =
    let now : repeats ns (numbers_of (take (i + 1) rs)) ≡ true =
    ap (repeats ns) (numbers_push rs i r within is) ∙ new_or_not ns (numbers_of (take i rs)) r.number none
    ∙ sym met ∙ is_old in
    sym (ap (repeats ns) (sym (split_numbers rs (i + 1)))
    ∙ rest_repeats ns (numbers_of (take (i + 1) rs)) (numbers_of (drop (i + 1) rs)) now)

pub met_all : (pages : ℕ) (ps ns : List ℕ) (s : Visited) (rs xs : List Record) → xs ≡ rs →
    repeats ns (numbers_of xs) ≡ false → Saw pages s ps (ns ++ numbers_of xs) →
    (false ≡ repeats ns (numbers_of rs)) × Saw pages s ps (ns ++ numbers_of rs)
met_all pages ps ns s rs xs e none saw = (
  sym none ∙ ap (λ ys. repeats ns (numbers_of ys)) e,
  subst
      (λ ys. Saw pages s ps (ns ++ numbers_of ys)) e saw,
)

pub still_none : (ns : List ℕ) (rs : List Record) (i : ℕ) (r : Record) → i < length rs →
    r ≡ get_or rs i r → repeats ns (numbers_of (take i rs)) ≡ false →
    {old : Bool} → old ≡ has r.number (ns ++ numbers_of (take i rs)) → old ≡ false →
    repeats ns (numbers_of (take (i + 1) rs)) ≡ false
still_none ns rs i r within is none {old} met is_new =
    ap (repeats ns) (numbers_push rs i r within is) ∙ new_or_not ns (numbers_of (take i rs)) r.number none
    ∙ sym met ∙ is_new

pub saw_more : (pages : ℕ) (ps ns : List ℕ) (s r' : Visited) (rs : List Record) (i : ℕ) (r : Record) → i < length rs →
    r ≡ get_or rs i r → Saw pages s ps (ns ++ numbers_of (take i rs)) → r'.reached ≡ s.reached →
    Met r'.numbers ((ns ++ numbers_of (take i rs)) ++ r.number ∷ []) →
    Saw pages r' ps (ns ++ numbers_of (take (i + 1) rs))
saw_more pages ps ns s r' rs i r within is saw same met = record {
  count = ap (λ v. length v.items) same ∙ saw.count;
  reached = λ p low. ap (λ v. slice_index_or v.items p false) same ∙ saw.reached p low;
  met = subst (Met r'.numbers) (append_assoc ns (numbers_of (take i rs)) (r.number ∷ [])
      ∙ ap (λ xs. ns ++ xs) (sym (numbers_push rs i r within is))) met;
}
