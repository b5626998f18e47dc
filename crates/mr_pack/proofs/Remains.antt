-- An item is taken out of what remains of a list, and the last one is put in its place.
use Rattle.std.proofs.Common.{◌≡◌, ◌≢◌, ℕ, suc, ◌+◌, ◌-◌, ◌<◌, ◌≤◌, Bool, true, false, cond, List, [], ◌∷◌, ◌++◌, length, get_or, set, take, refl, sym, ap, subst, ◌∙◌, arith}
use Rattle.std.specs.Prelude.{◌==◌}
use Rattle.std.specs.List.{swap_remove, range_with_len}
use Rattle.std.proofs.lemmas.List.{map_push, take_more, get_or_default, length-set, get_or-set_same, get_or-set_other}
use Rattle.std.proofs.lemmas.List.FromFn.{length-range_with_len, get_or-range_with_len}
use Rattle.std.proofs.lemmas.List.Sums.{sum_by-cons, sum_by_more, sum_by_more_le, sum_by-swap_remove}
use borrow.Author.Tests.{eqb-true, eqb-false, eq-eqb}
use Rattle.mr_pack.specs.Repeats.{occurrences}
use Rattle.mr_pack.specs.private.Remains.{IsIndexed, AreNumbered, picked}
use Rattle.mr_pack.proofs.Repeats.{other_more}

-- a number that occurs stands somewhere
somewhere : (n : ℕ) (ns : List ℕ) → 0 < occurrences n ns → (k : ℕ) × (k < length ns) × (get_or ns k 0 ≡ n)
somewhere n [] some = absurd (omega (arith, some))
somewhere n (m ∷ ms) some = at (somewhere n ms) (m == n) refl
  where
    at : (0 < occurrences n ms → (k : ℕ) × (k < length ms) × (get_or ms k 0 ≡ n)) → (b : Bool) → (m == n) ≡ b →
        (k : ℕ) × (k < length (m ∷ ms)) × (get_or (m ∷ ms) k 0 ≡ n)
    at later true e = (0, omega arith, eqb-true m n e)
    at later false e =
        let found = later (omega (arith, some, other_more n m ms e)) in
        (suc found.0, omega (arith, found.1), found.2)

pub record StandsAt (n place : ℕ) (ns places : List ℕ) : Type 0 where
  pub known : n < length places
  pub within : place < length ns
  pub here : get_or ns place 0 ≡ n

-- where the place of a number is kept, the number stands there
pub stands_at : (n place count : ℕ) (ns places : List ℕ) → IsIndexed count ns places → 0 < occurrences n ns →
    place ≡ get_or places n 0 → StandsAt n place ns places
stands_at n place count ns places indexed some is =
    let at = somewhere n ns some in
    let same : place ≡ at.0 = is ∙ ap (λ m. get_or places m 0) (sym at.2) ∙ indexed.found at.0 at.1 in
    record {
      known = subst (λ m. m < length places) at.2 (indexed.inside at.0 at.1);
      within = omega (arith, same, at.1);
      here = ap (λ k. get_or ns k 0) same ∙ at.2;
    }

-- the last takes the place of one that is taken out
pub record IsFilled {X : Type 0} (place : ℕ) (xs ys : List X) : Type 0 where
  pub fewer : length ys + 1 ≡ length xs
  pub last : (d : X) → place + 1 < length xs → get_or ys place d ≡ get_or xs (length xs - 1) d
  pub others : (k : ℕ) (d : X) → k ≢ place → k + 1 < length xs → get_or ys k d ≡ get_or xs k d

-- where what stands at a place stood before
stood : {X : Type 0} (place : ℕ) (xs ys : List X) → IsFilled place xs ys → (k : ℕ) → k < length ys →
    (j : ℕ) × (j < length xs) × ((k ≡ place → j + 1 ≡ length xs) × (k ≢ place → j ≡ k))
    × ((d : X) → get_or ys k d ≡ get_or xs j d)
stood place xs ys filled k low = at (k == place) refl
  where
    at : (b : Bool) → (k == place) ≡ b →
        (j : ℕ) × (j < length xs) × ((k ≡ place → j + 1 ≡ length xs) × (k ≢ place → j ≡ k))
        × ((d : _) → get_or ys k d ≡ get_or xs j d)
    at true e =
        let same = eqb-true k place e in (
          length xs - 1,
          omega (arith, low, filled.fewer),
          ((λ p. omega (arith, low, filled.fewer)), λ other. absurd (other same)),
          λ d. ap (λ m. get_or ys m d) same ∙ filled.last d (omega (arith, low, filled.fewer, same)),
        )
    at false e =
        let other = eqb-false k place e in (
          k,
          omega (arith, low, filled.fewer),
          ((λ same. absurd (other same)), λ p. refl),
          λ d. filled.others k d other (omega (arith, low, filled.fewer)),
        )

-- the place kept for the number that was moved
pub indexed_after : (place count count' : ℕ) (ns ns' ps : List ℕ) → IsIndexed count ns ps → IsFilled place ns ns' →
    place < length ns' → length ns' ≡ count' → IsIndexed count' ns' (set ps (get_or ns' place 0) place)
indexed_after place count count' ns ns' ps indexed filled low many = record {
  as_many = many;
  inside = λ k h.
      let from = stood place ns ns' filled k h in
      omega (arith, length-set ps (get_or ns' place 0) place, indexed.inside from.0 from.1, from.3 0);
  found = λ k h. at k h (k == place) refl;
}
  where
    moved : ℕ
    moved = get_or ns' place 0

    last : (j : ℕ) × (j < length ns) × (j + 1 ≡ length ns) × (moved ≡ get_or ns j 0)
    last =
        let from = stood place ns ns' filled place low in
        (from.0, from.1, from.2.0 refl, from.3 0)

    at : (k : ℕ) → k < length ns' → (b : Bool) → (k == place) ≡ b → get_or (set ps moved place) (get_or ns' k 0) 0 ≡ k
    at k h true e =
        let same = eqb-true k place e in
        ap (λ m. get_or (set ps moved place) (get_or ns' m 0) 0) same
        ∙ get_or-set_same ps moved place 0
        (subst (λ m. m < length ps) (sym last.3) (indexed.inside last.0 last.1))
        ∙ sym same
    at k h false e =
        let from = stood place ns ns' filled k h in
        let stays : from.0 ≡ k = from.2.1 (eqb-false k place e) in
        let apart : get_or ns' k 0 ≢ moved = λ equal.
        let alike : get_or ns from.0 0 ≡ get_or ns last.0 0 = sym (from.3 0) ∙ equal ∙ last.3 in
        omega (
          arith,
          h,
          filled.fewer,
          stays,
          last.2,
          sym (indexed.found from.0 from.1) ∙ ap (λ m. get_or ps m 0) alike ∙ indexed.found last.0 last.1,
        ) in
        get_or-set_other ps moved (get_or ns' k 0) place 0 apart
        ∙ ap (λ m. get_or ps m 0) (from.3 0) ∙ indexed.found from.0 from.1 ∙ stays

-- no number was moved
pub indexed_without : (place count count' : ℕ) (ns ns' ps : List ℕ) → IsIndexed count ns ps → IsFilled place ns ns' →
    length ns' ≤ place → length ns' ≡ count' → IsIndexed count' ns' ps
indexed_without place count count' ns ns' ps indexed filled high many = record {
  as_many = many;
  inside = λ k h.
      let from = stood place ns ns' filled k h in
      subst (λ m. m < length ps) (sym (from.3 0)) (indexed.inside from.0 from.1);
  found = λ k h.
      let from = stood place ns ns' filled k h in
      let stays : from.0 ≡ k = from.2.1 (λ same. absurd (omega (arith, h, high, same))) in
      ap (λ m. get_or ps m 0) (from.3 0) ∙ indexed.found from.0 from.1 ∙ stays;
}

-- the items that remain are still those of their numbers
pub numbered_after : {X : Type 0} (place : ℕ) (all xs ys : List X) (ns ns' : List ℕ) → length ns ≡ length xs →
    IsFilled place xs ys → IsFilled place ns ns' → AreNumbered all xs ns → AreNumbered all ys ns'
numbered_after place all xs ys ns ns' many items numbers before k d low =
    at (k == place) refl
  where
    at : (b : Bool) → (k == place) ≡ b → get_or ys k d ≡ get_or all (get_or ns' k 0) d
    at true e =
        let same = eqb-true k place e in
        ap (λ m. get_or ys m d) same
        ∙ items.last d (omega (arith, low, same, items.fewer))
        ∙ before (length xs - 1) d (omega (arith, low, items.fewer))
        ∙ ap (λ m. get_or all m d)
        (ap (λ m. get_or ns (m - 1) 0) (sym many)
        ∙ sym (numbers.last 0 (omega (arith, low, same, items.fewer, numbers.fewer, many)))
        ∙ ap (λ m. get_or ns' m 0) (sym same))
    at false e =
        let other = eqb-false k place e in
        items.others k d other (omega (arith, low, items.fewer))
        ∙ before k d (omega (arith, low, items.fewer))
        ∙ ap (λ m. get_or all m d) (sym (numbers.others k 0 other (omega (arith, low, items.fewer, many))))

-- how often a number occurs, before and after one is taken out
pub fewer_by_one : (n place number d : ℕ) (ns ns' : List ℕ) → place < length ns → d ≡ get_or ns place d →
    get_or ns place 0 ≡ number →
    ns' ≡ swap_remove ns place d → occurrences n (number ∷ ns') ≡ occurrences n ns
fewer_by_one n place number d ns ns' low is here gone =
    let same : get_or ns place d ≡ number = get_or_default ns place d 0 low ∙ here in
    let one : ℕ → ℕ = λ m. cond (m == n) 1 0 in
    omega (
      arith,
      sum_by-cons one number ns',
      ap (occurrences n) gone,
      sum_by-swap_remove one ns place d low,
      ap one same,
    )

-- ---- a group

pub more_taken : (n i : ℕ) (group before now then : List ℕ) → i < length group →
    occurrences n (take i group) + occurrences n now ≡ occurrences n before →
    occurrences n (get_or group i 0 ∷ then) ≡ occurrences n now →
    occurrences n (take (i + 1) group) + occurrences n then ≡ occurrences n before
more_taken n i group before now then low so_far one =
    let f : ℕ → ℕ = λ m. cond (m == n) 1 0 in
    omega (arith, so_far, one, sum_by-cons f (get_or group i 0) then, sum_by_more f group i 0 low)

pub is_there : (i number : ℕ) (group before now : List ℕ) → i < length group → number ≡ get_or group i 0 →
    occurrences number group ≤ occurrences number before →
    occurrences number (take i group) + occurrences number now ≡ occurrences number before →
    0 < occurrences number now
is_there i number group before now low is enough so_far =
    let f : ℕ → ℕ = λ m. cond (m == number) 1 0 in
    let one : f (get_or group i 0) ≡ 1 =
    ap f (sym is) ∙ ap (λ b. cond b 1 0) (eq-eqb number number refl) in
    omega (arith, enough, so_far, one, sum_by_more_le f group i 0 low)

-- the item of the next number is pushed
pub more_picked : {X : Type 0} (whole : List X) (d : X) (i : ℕ) (group : List ℕ) (taken now : List X) (one : X) →
    i < length group → taken ≡ picked whole d (take i group) → one ≡ get_or whole (get_or group i 0) d →
    now ≡ taken ++ one ∷ [] → now ≡ picked whole d (take (i + 1) group)
more_picked whole d i group taken now one low so_far here is =
    is ∙ (λ k. so_far k ++ here k ∷ [])
    ∙ sym (map_push (λ n. get_or whole n d) (take i group) (get_or group i 0))
    ∙ ap (picked whole d) (sym (take_more group i 0 low))

-- ---- the whole list

pub all_indexed : (count : ℕ) (ns ps : List ℕ) → ns ≡ range_with_len 0 count → ps ≡ range_with_len 0 count →
    IsIndexed count ns ps
all_indexed count ns ps numbers places = record {
  as_many = many;
  inside = λ k h. omega (arith, h, many, at ns numbers k h, ap length places, length-range_with_len 0 count);
  found = λ k h.
      ap (λ m. get_or ps m 0) (at ns numbers k h)
      ∙ at ps places k (omega (arith, h, many, ap length places, length-range_with_len 0 count));
}
  where
    many : length ns ≡ count
    many = ap length numbers ∙ length-range_with_len 0 count

    at : (ms : List ℕ) → ms ≡ range_with_len 0 count → (k : ℕ) → k < length ms → get_or ms k 0 ≡ k
    at ms is k h =
        let low : k < count = omega (arith, h, ap length is, length-range_with_len 0 count) in
        let none : 0 + k ≡ k = omega arith in
        ap (λ us. get_or us k 0) is ∙ get_or-range_with_len 0 count k 0 low ∙ none

pub all_numbered : {X : Type 0} (xs : List X) (ns : List ℕ) → ns ≡ range_with_len 0 (length xs) → AreNumbered xs xs ns
all_numbered xs ns numbers k d h =
    let none : 0 + k ≡ k = omega arith in
    ap (λ m. get_or xs m d)
    (sym (ap (λ us. get_or us k 0) numbers ∙ get_or-range_with_len 0 (length xs) k 0 h ∙ none))
