-- The front of a file, read at once, with zeros behind it.
use Rattle.std.proofs.Common.{◌≡◌, ℕ, zero, suc, ◌+◌, ◌-◌, ◌≤◌, min, List, [], ◌∷◌, ◌++◌, length, get_or, take, drop, replicate, refl, sym, ap, ◌∙◌, inl, inr, arith}
use Rattle.std.specs.Prelude.{if◌then◌else◌, ◌==◌}
use Rattle.std.proofs.lemmas.Bool.{cases_lt}
use Rattle.std.proofs.Math.Seq.{take-append-add}
use Rattle.std.proofs.lemmas.List.{append-nil, append_assoc, replicate-append-replicate, take-append-drop, take-append-le, take-replicate, take-take, take_all, length-take, length-take-le, get_or-take}
use Rattle.mr_record.specs.declared.version.Version.TheVariants.{One, Two}
use Rattle.mr_pages.specs.Source.{IsFrontOfFile}

abbrev zeros : ℕ → List ℕ
zeros n = replicate n 0

zeros_at : (n i : ℕ) → get_or (zeros n) i 0 ≡ 0
zeros_at zero i = refl
zeros_at (suc n) zero = refl
zeros_at (suc n) (suc i) = zeros_at n i

-- zeros behind a list change nothing of what is 0 where there is nothing
before_zeros_at : (xs : List ℕ) (n i : ℕ) → get_or (xs ++ zeros n) i 0 ≡ get_or xs i 0
before_zeros_at [] n i = zeros_at n i
before_zeros_at (x ∷ xs) n zero = refl
before_zeros_at (x ∷ xs) n (suc i) = before_zeros_at xs n i

front_at : (file : List ℕ) (k i : ℕ) → k ≡ min (length file) 8192 → i ≤ 8191 →
    get_or (take k file) i 0 ≡ get_or file i 0
front_at file k i cut low = elim (cases_lt i k) [
  | inl within ↦ get_or-take k file i 0 within
  | inr past ↦ ap (λ (xs : List ℕ). get_or xs i 0) (take_all k file (omega (arith, cut, low, past)))
]

pub is_front : (file front room : List ℕ) (n k : ℕ) → k ≡ min (length file) 8192 → front ≡ take k file →
    room ≡ front ++ zeros n → length room ≡ 8192 → IsFrontOfFile file room
is_front file front room n k cut is whole long =
    let made : room ≡ take k file ++ zeros n = whole ∙ ap (λ (xs : List ℕ). xs ++ zeros n) is in
    let size : length (take k file) ≡ k = length-take-le k file (omega (arith, cut)) in
    record {
      version = ap (λ (b : ℕ). if b == 2 then Two else One)
          (ap (λ (xs : List ℕ). get_or xs 4 0) made ∙ before_zeros_at (take k file) n 4
          ∙ front_at file k 4 cut (omega arith));
      starts = λ m in_room in_file.
          ap (take m) made
          ∙ take-append-le m (take k file) (zeros n) (omega (arith, size, cut, in_room, in_file, long))
          ∙ take-take m k file (omega (arith, cut, in_room, in_file, long));
    }

-- so much of a list with as many zeros behind it
fill_to : (m n : ℕ) (xs : List ℕ) → n ≡ min m (length xs) → take m (xs ++ zeros m) ≡ take n xs ++ zeros (m - n)
fill_to m n xs cut = elim (cases_lt (length xs) m) [
  | inl short ↦
      let all : n ≡ length xs = omega (arith, cut, short) in
      let split : m ≡ length xs + (m - n) = omega (arith, all, short) in
      ap (λ (i : ℕ). take i (xs ++ zeros m)) split
      ∙ take-append-add xs (zeros m) (m - n)
      ∙ ap (λ (ys : List ℕ). xs ++ ys) (take-replicate (m - n) m 0 (omega arith))
      ∙ ap (λ (ys : List ℕ). ys ++ zeros (m - n)) (sym (take_all n xs (omega (arith, all))))
  | inr long ↦
      let all : n ≡ m = omega (arith, cut, long) in
      let none : m - n ≡ 0 = omega (arith, all) in
      take-append-le m xs (zeros m) long
      ∙ ap (λ (i : ℕ). take i xs) (sym all)
      ∙ sym (append-nil (take n xs))
      ∙ ap (λ (i : ℕ). take n xs ++ zeros i) (sym none)
]

-- What a read of so much gave, and zeros behind it: so much of the file, and zeros.
pub is_filled_front : (file front room : List ℕ) (size n k : ℕ) → k ≡ min size 8192 → n ≡ min k (length file - 0) →
    take n front ≡ take n file → drop n front ≡ zeros (k - n) → room ≡ front ++ zeros (8192 - k) →
    room ≡ take 8192 (take size file ++ zeros 8192)
is_filled_front file front room size n k whole cut given rest is =
    let part = take size file in
    let few : n ≡ min 8192 (length part) = omega (arith, whole, cut, length-take size file) in
    is
    ∙ ap (λ (xs : List ℕ). xs ++ zeros (8192 - k)) (sym (take-append-drop n front) ∙ (λ i. given i ++ rest i))
    ∙ append_assoc (take n file) (zeros (k - n)) (zeros (8192 - k))
    ∙ ap (λ (xs : List ℕ). take n file ++ xs) (replicate-append-replicate (k - n) (8192 - k) 0)
    ∙ ap (λ (i : ℕ). take n file ++ zeros i) (omega (arith, whole, cut))
    ∙ ap (λ (xs : List ℕ). xs ++ zeros (8192 - n)) (sym (take-take n size file (omega (arith, whole, cut))))
    ∙ sym (fill_to 8192 n part few)
