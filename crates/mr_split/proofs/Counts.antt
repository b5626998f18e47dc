-- How many have each mark, from the seeds on until all entries are in groups.
use Rattle.std.proofs.Common.{◌≡◌, ◌≢◌, inl, inr, ℕ, zero, suc, ◌+◌, ◌-◌, ◌*◌, ◌<◌, ◌≤◌, Bool, true, false, not, List, [], ◌∷◌, ◌++◌, length, map, get_or, set, replicate, refl, sym, ap, subst, ◌∙◌, arith}
use Rattle.std.specs.Prelude.{if◌then◌else◌, Option, nat_lt, ℤ, ◌≤ℤ◌, int_lt, AllPairs}
use Rattle.std.specs.List.{AllByRecursion, count_by, range_with_len}
use Rattle.std.specs.List.Sorted.{IsPermutation}
use Rattle.std.proofs.Math.ListN.{length-set}
use Rattle.std.proofs.lemmas.Bool.{cases_lt}
use Rattle.std.proofs.lemmas.Bool.Decides.{nat_tests}
use Rattle.std.proofs.lemmas.List.{length-map, length-replicate, get_or-set_other, get_or-replicate}
use Rattle.std.proofs.lemmas.List.Recursion.{is_count_by}
use Rattle.std.proofs.lemmas.List.Sums.{length-filter}
use Rattle.std.proofs.lemmas.List.Sorted.{IsPermutation-filter_both}
use Rattle.std.specs.Ordering.{is_lt, ordering_then, int_cmp}
use Rattle.std.specs.declared.cmp.Ordering.{Ordering}
use Rattle.std.specs.declared.cmp.Ordering.TheVariants.{Less, Equal, Greater}
use Rattle.std.proofs.lemmas.Int.{ints}
use Rattle.std.proofs.lemmas.List.FromFn.{length-range_with_len, get_or-range_with_len}
use Rattle.std.proofs.lemmas.List.Kept.{AllPairs-filter}
use Rattle.mr_geom.specs.Rectangle.{Rectangle, area}
use Rattle.mr_split.specs.Best.{best, positions}
use Rattle.mr_split.specs.Choice.{rect_at, choose, is_fitter_at, growth, is_fitter}
use Rattle.mr_split.specs.Seeds.{pairs, pairs_of, seeds, first_pair, wastes_more}
use Rattle.mr_split.specs.Split.{is, mark_at, count, urgency, is_more_urgent, most_urgent, next, bounds, is_second_fitter, group_for, seeded, needs_all, filled, with_next_placed, shared, sides, is_on, group}
use Rattle.mr_split.specs.declared.mark.Mark.{Mark}
use Rattle.mr_split.specs.declared.mark.Mark.TheVariants.{Open, First, Second}
use Rattle.mr_split.specs.declared.seeds.Pair.{Pair}
use Rattle.mr_split.proofs.Champion.{IsChampion, best_champion}
use Rattle.mr_split.proofs.Comparing.{all_positions, urgency_order, waste_order, fitter_order}
use Rattle.mr_split.proofs.Pairing.{others}

-- how many pass, by recursion
abbrev pub many : {X : Type 0} → (X → Bool) → List X → ℕ
many p [] = 0
many p (x ∷ xs) = if p x then 1 + many p xs else many p xs

pub many_is : {X : Type 0} (p : X → Bool) (xs : List X) → many p xs ≡ count_by p xs
many_is p = is_count_by (many p) p refl (λ x xs. refl)

-- ---- one mark is another

moved : (a b : Bool) (k : ℕ) → (if a then 1 + k else k) + (if b then 1 else 0) ≡ (if b then 1 + k else k) +
    (if a then 1 else 0)
moved true true k = refl
moved true false k = omega arith
moved false true k = omega arith
moved false false k = refl

on_top : (a : Bool) (k l m n : ℕ) → k + m ≡ l + n → (if a then 1 + k else k) + m ≡ (if a then 1 + l else l) + n
on_top true k l m n e = omega (arith, e)
on_top false k l m n e = e

pub many_set : {X : Type 0} (p : X → Bool) (xs : List X) (n : ℕ) (v d : X) → n < length xs →
    many p (set xs n v) + (if p (get_or xs n d) then 1 else 0) ≡ many p xs + (if p v then 1 else 0)
many_set p [] n v d within = absurd (omega (arith, within))
many_set p (x ∷ xs) zero v d within = moved (p v) (p x) (many p xs)
many_set p (x ∷ xs) (suc n) v d within =
    on_top (p x) (many p (set xs n v)) (many p xs) (if p (get_or xs n d) then 1 else 0) (if p v then 1 else 0)
    (many_set p xs n v d (omega (arith, within)))

-- the same, where the mark that goes is known
change : (p : Mark → Bool) (ms : List Mark) (n : ℕ) (v o : Mark) → n < length ms → mark_at ms n ≡ o →
    many p (set ms n v) + (if p o then 1 else 0) ≡ many p ms + (if p v then 1 else 0)
change p ms n v o within is = subst (λ m. many p (set ms n v) + (if p m then 1 else 0) ≡ many p ms +
    (if p v then 1 else 0)) is (many_set p ms n v Open within)

-- ---- each has one of the three marks

pub three : (ms : List Mark) → (many (is Open) ms + many (is First) ms) + many (is Second) ms ≡ length ms
three [] = refl
three (Open ∷ ms) = omega (arith, three ms)
three (First ∷ ms) = omega (arith, three ms)
three (Second ∷ ms) = omega (arith, three ms)

pub first_filled : (ms : List Mark) → (many (is First) (filled First ms) ≡ many (is First) ms + many (is Open) ms) ×
    (many (is Second) (filled First ms) ≡ many (is Second) ms)
first_filled [] = (refl, refl)
first_filled (Open ∷ ms) = let r = first_filled ms in (omega (arith, r.0), r.1)
first_filled (First ∷ ms) = let r = first_filled ms in (omega (arith, r.0), r.1)
first_filled (Second ∷ ms) = let r = first_filled ms in (r.0, omega (arith, r.1))

pub second_filled : (ms : List Mark) → (many (is Second) (filled Second ms) ≡ many (is Second) ms + many (is Open) ms)
    × (many (is First) (filled Second ms) ≡ many (is First) ms)
second_filled [] = (refl, refl)
second_filled (Open ∷ ms) = let r = second_filled ms in (omega (arith, r.0), r.1)
second_filled (First ∷ ms) = let r = second_filled ms in (r.0, omega (arith, r.1))
second_filled (Second ∷ ms) = let r = second_filled ms in (omega (arith, r.0), r.1)

-- ---- what holds of all positions

pub of_position : (P : ℕ → Type 0) (a n k : ℕ) → AllByRecursion P (range_with_len a n) → a ≤ k → k < a + n → P k
of_position P a zero k all low high = absurd (omega (arith, low, high))
of_position P a (suc n) k all low high = elim (cases_lt a k) [
  | inl later ↦ of_position P (a + 1) n k all.1 (omega (arith, later)) (omega (arith, high))
  | inr here ↦ let e : a ≡ k = omega (arith, here, low) in subst P e all.0
]

positions_within : (a n m : ℕ) → a + n ≤ m → AllByRecursion (λ k. k < m) (range_with_len a n)
positions_within a zero m h = tt
positions_within a (suc n) m h = (omega (arith, h), positions_within (a + 1) n m (omega (arith, h)))

among : {X : Type 0} (P : X → Type 0) (front back : List X) (x : X) → AllByRecursion P (front ++ x ∷ back) → P x
among P [] back x all = all.0
among P (y ∷ front) back x all = among P front back x all.1

-- what holds of all holds of the best
pub of_champion : {X : Type 0} (P : X → Type 0) (beats : X → X → Bool) (xs : List X) (x : X) → IsChampion beats xs x →
    AllByRecursion P xs → P x
of_champion P beats xs x c all = among P c.front c.back x (subst (AllByRecursion P) c.is all)

-- the best of some positions
pub best_position : (beats : ℕ → ℕ → Bool) (n x : ℕ) → 0 < n → IsChampion beats (positions n) x → x < n
best_position beats n x some c = of_champion (λ k. k < n) beats (positions n) x c
    (positions_within 0 n n (omega arith))

-- ---- the next entry is an open one

some_open : (ms : List Mark) → 0 < many (is Open) ms → (k : ℕ) × (k < length ms) × (is Open (mark_at ms k) ≡ true)
some_open [] some = absurd (omega (arith, some))
some_open (Open ∷ ms) some = (0, omega arith, refl)
some_open (First ∷ ms) some = let r = some_open ms some in (suc r.0, omega (arith, r.1), r.2)
some_open (Second ∷ ms) some = let r = some_open ms some in (suc r.0, omega (arith, r.1), r.2)

urgency_open : (f s : Option Rectangle) (m : Mark) (r : Rectangle) → is Open m ≡ true → 0 < urgency f s m r
urgency_open f s Open r e = omega arith
urgency_open f s First r e = cc
urgency_open f s Second r e = cc

open_urgency : (f s : Option Rectangle) (m : Mark) (r : Rectangle) → 0 < urgency f s m r → is Open m ≡ true
open_urgency f s Open r h = refl
open_urgency f s First r h = absurd (omega (arith, h))
open_urgency f s Second r h = absurd (omega (arith, h))

pub urgent_champion : (list : List Rectangle) (marks : List Mark) (f s : Option Rectangle) → 0 < length list →
    IsChampion (is_more_urgent list marks f s) (positions (length list)) (most_urgent list marks f s)
unfolding most_urgent
urgent_champion list marks f s some =
    subst (λ ns. IsChampion (is_more_urgent list marks f s) ns (best (is_more_urgent list marks f s) 0 ns))
    (sym (all_positions (length list) some))
    (best_champion (is_more_urgent list marks f s) (urgency_order list marks f s) 0 0
    (range_with_len 1 (length list - 1)))

pub record IsNext (list : List Rectangle) (marks : List Mark) (n : ℕ) : Type 0 where
  pub within : n < length list
  pub left : is Open (mark_at marks n) ≡ true

pub next_is_open : (list : List Rectangle) (marks : List Mark) (f s : Option Rectangle) → length marks ≡ length list →
    0 < many (is Open) marks → IsNext list marks (most_urgent list marks f s)
next_is_open list marks f s same some =
    let o = some_open marks some in
    let n = most_urgent list marks f s in
    let nonempty : 0 < length list = omega (arith, same, o.1) in
    let c = urgent_champion list marks f s nonempty in
    let unbeaten : nat_lt (urgency f s (mark_at marks n) (rect_at list n)) (urgency f s (mark_at marks o.0)
    (rect_at list o.0)) ≡ false =
    of_position (λ k. is_more_urgent list marks f s k n ≡ false) 0 (length list) o.0 c.unbeaten (omega arith)
    (omega (arith, o.1, same)) in
    record {
      within = best_position (is_more_urgent list marks f s) (length list) n nonempty c;
      left = open_urgency f s (mark_at marks n) (rect_at list n)
          (above (urgency f s (mark_at marks n) (rect_at list n)) (urgency f s (mark_at marks o.0) (rect_at list o.0))
          unbeaten (urgency_open f s (mark_at marks o.0) (rect_at list o.0) o.2));
    }
  where
    above : (a b : ℕ) → nat_lt a b ≡ false → 0 < b → 0 < a
    above a b e h = let le : b ≤ a = grind (arith, nat_tests, e) in omega (arith, le, h)

-- ---- what an entry that goes changes

pub record Goes (old new : List Mark) : Type 0 where
  pub fewer : many (is Open) new + 1 ≡ many (is Open) old
  pub first : many (is First) old ≤ many (is First) new
  pub second : many (is Second) old ≤ many (is Second) new
  pub same : length new ≡ length old

goes : (marks : List Mark) (n : ℕ) (b : Bool) → n < length marks → is Open (mark_at marks n) ≡ true → Goes marks
    (set marks n (if b then Second else First))
goes marks n b within left = at b (mark_at marks n) refl left
  where
    at : (b : Bool) (m : Mark) → mark_at marks n ≡ m → is Open m ≡ true → Goes marks
        (set marks n (if b then Second else First))
    at true Open here e = record {
      fewer = omega (arith, change (is Open) marks n Second Open within here);
      first = omega (arith, change (is First) marks n Second Open within here);
      second = omega (arith, change (is Second) marks n Second Open within here);
      same = length-set marks n Second;
    }
    at false Open here e = record {
      fewer = omega (arith, change (is Open) marks n First Open within here);
      first = omega (arith, change (is First) marks n First Open within here);
      second = omega (arith, change (is Second) marks n First Open within here);
      same = length-set marks n First;
    }
    at b First here e = cc
    at b Second here e = cc

-- ---- until all are in groups

pub record Splits (least : ℕ) (marks : List Mark) : Type 0 where
  pub first : least ≤ many (is First) marks
  pub second : least ≤ many (is Second) marks

-- what a group can still have is enough
pub record CanSplit (least size : ℕ) (marks : List Mark) : Type 0 where
  pub first : least ≤ many (is First) marks + many (is Open) marks
  pub second : least ≤ many (is Second) marks + many (is Open) marks
  pub same : length marks ≡ size

needed : (least : ℕ) (g : Mark) (marks : List Mark) → needs_all least g marks ≡ true → many (is g) marks + many
    (is Open) marks ≡ least
needed least g marks e =
    let is_equal : count g marks + count Open marks ≡ least = grind (arith, nat_tests, e) in
    omega (arith, is_equal, many_is (is g) marks, many_is (is Open) marks)

not_needed : (least : ℕ) (g : Mark) (marks : List Mark) → needs_all least g marks ≡ false → many (is g) marks + many
    (is Open) marks ≢ least
not_needed least g marks e same =
    let is_equal : count g marks + count Open marks ≡ least = omega (
      arith,
      same,
      many_is (is g) marks,
      many_is
          (is Open) marks,
    ) in
    absurd (grind (arith, nat_tests, e, is_equal))

more_left : (least m o l n : ℕ) → least ≤ m + o → m + o ≢ least → n + 1 ≡ o → m ≤ l → least ≤ l + n
more_left least m o l n enough more fewer grows = omega (arith, enough, more, fewer, grows)

pub all_split : (left least size : ℕ) (list : List Rectangle) (marks : List Mark) → length list ≡ size →
    2 * least ≤ size → many (is Open) marks ≡ left →
    CanSplit least size marks → Splits least (shared left least list marks)
unfolding shared
all_split zero least size list marks length_is half few can = record {
  first = omega (arith, few, can.first);
  second = omega (arith, few, can.second);
}
all_split (suc left) least size list marks length_is half few can =
    at (needs_all least First marks) (needs_all least Second marks) refl refl
    (λ few can. all_split left least size list (with_next_placed list marks) length_is half few can)
  where
    at : (a b : Bool) → needs_all least First marks ≡ a → needs_all least Second marks ≡ b →
        (many (is Open) (with_next_placed list marks) ≡ left → CanSplit least size (with_next_placed list marks) →
        Splits least
        (shared left least list (with_next_placed list marks))) →
        Splits least (if a then filled First marks else (if b then filled Second marks else shared left least list
        (with_next_placed list marks)))
    at true b p q rest =
        let f = first_filled marks in
        let n = needed least First marks p in
        record { first = omega (arith, f.0, n); second = omega (arith, f.1, n, three marks, can.same, half) }
    at false true p q rest =
        let f = second_filled marks in
        let n = needed least Second marks q in
        record { first = omega (arith, f.1, n, three marks, can.same, half); second = omega (arith, f.0, n) }
    at false false p q rest =
        let is_next = next_is_open list marks (bounds list marks First) (bounds list marks Second)
        (can.same ∙ sym length_is) (omega (arith, few)) in
        let g = goes marks (next list marks)
        (is_second_fitter (bounds list marks First) (bounds list marks Second) (count First marks)
        (count Second marks) (rect_at list (next list marks)))
        (omega (arith, is_next.within, length_is, can.same)) is_next.left in
        rest (omega (arith, g.fewer, few))
        (record {
          first = more_left least _ _ _ _ can.first (not_needed least First marks p) g.fewer g.first;
          second = more_left least _ _ _ _ can.second (not_needed least Second marks q) g.fewer g.second;
          same = g.same ∙ can.same;
        })

-- ---- the seeds

row_within : (i a n m : ℕ) → i < a → a + n ≤ m → AllByRecursion (λ (p : Pair). (p.first < p.second) × (p.second < m))
    (pairs_of i (range_with_len a n))
row_within i a zero m low high = tt
row_within i a (suc n) m low high = (
  (low, omega (arith, high)),
  row_within i (a + 1) n m (omega (arith, low))
      (omega (arith, high)),
)

pub all_both : {X : Type 0} (P : X → Type 0) (xs ys : List X) → AllByRecursion P xs → AllByRecursion P ys →
    AllByRecursion P (xs ++ ys)
all_both P [] ys a b = b
all_both P (x ∷ xs) ys a b = (a.0, all_both P xs ys a.1 b)

pairs_within : (a n m : ℕ) → a + n ≤ m → AllByRecursion (λ (p : Pair). (p.first < p.second) × (p.second < m))
    (pairs (range_with_len a n))
pairs_within a zero m h = tt
pairs_within a (suc n) m h =
    all_both (λ (p : Pair). (p.first < p.second) × (p.second < m)) (pairs_of a (range_with_len (a + 1) n))
    (pairs (range_with_len (a + 1) n))
    (row_within a (a + 1) n m (omega arith) (omega (arith, h))) (pairs_within (a + 1) n m (omega (arith, h)))

pub seeds_within : (list : List Rectangle) → 2 ≤ length list → ((seeds list).first < (seeds list).second) ×
    ((seeds list).second < length list)
unfolding seeds
seeds_within list some =
    let beats = wastes_more list in
    let P : Pair → Type 0 = λ p. (p.first < p.second) × (p.second < length list) in
    let more = others (length list) some in
    let c : IsChampion beats (pairs (positions (length list)))
    (best beats first_pair (pairs (positions (length list)))) =
    subst (λ ps. IsChampion beats ps (best beats first_pair ps)) (sym more.1) (best_champion beats (waste_order list)
    first_pair first_pair more.0) in
    of_champion P beats (pairs (positions (length list))) (best beats first_pair (pairs (positions (length list)))) c
    (pairs_within 0 (length list) (length list) (omega arith))

none_of : {X : Type 0} (p : X → Bool) (n : ℕ) (x : X) → p x ≡ false → many p (replicate n x) ≡ 0
none_of p zero x e = refl
none_of p (suc n) x e = (λ i. if e i then 1 + many p (replicate n x) else many p (replicate n x)) ∙ none_of p n x e

all_of : {X : Type 0} (p : X → Bool) (n : ℕ) (x : X) → p x ≡ true → many p (replicate n x) ≡ n
all_of p zero x e = refl
all_of p (suc n) x e = (λ i. if e i then 1 + many p (replicate n x) else many p (replicate n x)) ∙
    (let more : 1 + many p (replicate n x) ≡ suc n = omega (arith, all_of p n x e) in more)

pub record IsSeeded (n : ℕ) (marks : List Mark) : Type 0 where
  pub left : many (is Open) marks ≡ n - 2
  pub first : many (is First) marks ≡ 1
  pub second : many (is Second) marks ≡ 1
  pub same : length marks ≡ n

seeded_counts : (n i j : ℕ) → i < j → j < n → IsSeeded n (set (set (replicate n Open) i First) j Second)
seeded_counts n i j low high =
    let none = replicate n Open in
    let one = set none i First in
    let size : length none ≡ n = length-replicate n Open in
    let size_one : length one ≡ n = length-set none i First ∙ size in
    let here : mark_at none i ≡ Open = get_or-replicate n i Open Open (omega (arith, low, high)) in
    let other : j ≢ i = λ e. omega (arith, low, e) in
    let there : mark_at one j ≡ Open = get_or-set_other none i j First Open other ∙ get_or-replicate n j Open Open
    high in
    let in_none : i < length none = omega (arith, low, high, size) in
    let in_one : j < length one = omega (arith, high, size_one) in
    record {
      left = omega (
        arith,
        low,
        high,
        change (is Open) none i First Open in_none here,
        change (is Open) one j Second
            Open in_one there,
        all_of (is Open) n Open refl,
      );
      first = omega (
        arith,
        change (is First) none i First Open in_none here,
        change (is First) one j Second Open
            in_one there,
        none_of (is First) n Open refl,
      );
      second = omega (
        arith,
        change (is Second) none i First Open in_none here,
        change (is Second) one j Second Open
            in_one there,
        none_of (is Second) n Open refl,
      );
      same = length-set one j Second ∙ size_one;
    }

pub is_seeded : (list : List Rectangle) → 2 ≤ length list → IsSeeded (length list) (seeded list)
is_seeded list some = let s = seeds_within list some in seeded_counts (length list) (seeds list).first
    (seeds list).second s.0 s.1

-- ---- the sides

pub record AreSides (least size : ℕ) (bs : List Bool) : Type 0 where
  pub first : least ≤ many not bs
  pub second : least ≤ many (λ b. b) bs
  pub all : length bs ≡ size

first_sides : (ms : List Mark) → many (is First) ms ≤ many not (map (is Second) ms)
first_sides [] = omega arith
first_sides (Open ∷ ms) = omega (arith, first_sides ms)
first_sides (First ∷ ms) = omega (arith, first_sides ms)
first_sides (Second ∷ ms) = first_sides ms

second_sides : (ms : List Mark) → many (is Second) ms ≡ many (λ b. b) (map (is Second) ms)
second_sides [] = refl
second_sides (Open ∷ ms) = second_sides ms
second_sides (First ∷ ms) = second_sides ms
second_sides (Second ∷ ms) = omega (arith, second_sides ms)

filled_size : (g : Mark) (ms : List Mark) → length (filled g ms) ≡ length ms
filled_size g ms = length-map ms (λ mark. if is Open mark then g else mark)

pub shared_size : (left least : ℕ) (list : List Rectangle) (marks : List Mark) → length (shared left least list marks)
    ≡ length marks
unfolding shared
shared_size zero least list marks = refl
shared_size (suc left) least list marks =
    at (needs_all least First marks) (needs_all least Second marks)
    (shared_size left least list (with_next_placed list marks) ∙ length-set marks (next list marks)
    (group_for list marks (rect_at list (next list marks))))
  where
    at : (a b : Bool) → length (shared left least list (with_next_placed list marks)) ≡ length marks →
        length (if a then filled First marks else (if b then filled Second marks else shared left least list
        (with_next_placed list marks))) ≡ length marks
    at true b rest = filled_size First marks
    at false true rest = filled_size Second marks
    at false false rest = rest

pub are_sides : (list : List Rectangle) (least : ℕ) → 1 ≤ least → 2 * least ≤ length list → AreSides least
    (length list) (sides list least)
unfolding sides
are_sides list least some half =
    let s = is_seeded list (omega (arith, some, half)) in
    let r = shared (length list - 2) least list (seeded list) in
    let split = all_split (length list - 2) least (length list) list (seeded list) refl half s.left
    (record {
      first = omega (arith, s.first, s.left, some, half);
      second = omega (
        arith,
        s.second,
        s.left,
        some,
        half,
      );
      same = s.same;
    }) in
    record {
      first = omega (arith, split.first, first_sides r);
      second = omega (arith, split.second, second_sides r);
      all = length-map r (is Second) ∙ shared_size (length list - 2) least list (seeded list) ∙ s.same;
    }

-- ---- the positions on the sides

counted : {X : Type 0} (f : ℕ → Bool) (p : X → Bool) (a : ℕ) (xs : List X) (d : X) →
    ((k : ℕ) → k < length xs → f (a + k) ≡ p (get_or xs k d)) →
    many f (range_with_len a (length xs)) ≡ many p xs
counted f p a [] d h = refl
counted {X} f p a (x ∷ xs) d h =
    let e : a + 0 ≡ a = omega arith in
    let here : f a ≡ p x = sym (ap f e) ∙ h 0 (omega arith) in
    let rest : many f (range_with_len (a + 1) (length xs)) ≡ many p xs = counted f p (a + 1) xs d later in
    λ i. if here i then 1 + rest i else rest i
  where
    later : (k : ℕ) → k < length xs → f ((a + 1) + k) ≡ p (get_or xs k d)
    later k within = let e : (a + 1) + k ≡ a + suc k = omega arith in ap f e ∙ h (suc k) (omega (arith, within))

group_size : (bs : List Bool) (side : Bool) → length (group bs side) ≡ many (is_on side) bs
group_size bs side =
    length-filter (λ n. is_on side (get_or bs n false)) (positions (length bs))
    ∙ sym (many_is (λ n. is_on side (get_or bs n false)) (positions (length bs)))
    ∙ counted (λ n. is_on side (get_or bs n false)) (is_on side) 0 bs false (λ k within. let e : 0 + k ≡ k = omega
    arith in ap (λ n. is_on side (get_or bs n false)) e)

same_many : {X : Type 0} (p q : X → Bool) (xs : List X) → ((x : X) → p x ≡ q x) → many p xs ≡ many q xs
same_many p q [] e = refl
same_many p q (x ∷ xs) e = λ i. if e x i then 1 + same_many p q xs e i else same_many p q xs e i

pub first_size : (bs : List Bool) → length (group bs false) ≡ many not bs
first_size bs = group_size bs false ∙ same_many (is_on false) not bs (λ b. refl)

pub second_size : (bs : List Bool) → length (group bs true) ≡ many (λ b. b) bs
second_size bs = group_size bs true ∙ same_many (is_on true) (λ b. b) bs (λ b. refl)

pub groups_mix : (bs : List Bool) → IsPermutation (positions (length bs)) (group bs false ++ group bs true)
groups_mix bs = IsPermutation-filter_both (λ n. is_on false (get_or bs n false)) (λ n. is_on true (get_or bs n false))
    (λ n. twice (get_or bs n false)) (positions (length bs))
  where
    twice : (b : Bool) → b ≡ not (not b)
    twice true = refl
    twice false = refl

-- ---- the choice

choose_champion : (list : List Rectangle) (new : Rectangle) → 0 < length list →
    IsChampion (is_fitter_at list new) (positions (length list)) (choose list new)
unfolding choose
choose_champion list new some =
    subst (λ ns. IsChampion (is_fitter_at list new) ns (best (is_fitter_at list new) 0 ns))
    (sym (all_positions (length list) some))
    (best_champion (is_fitter_at list new) (fitter_order list new) 0 0 (range_with_len 1 (length list - 1)))

not_less : (x y : ℤ) (o : Ordering) → is_lt (ordering_then (int_cmp x y) o) ≡ false → y ≤ℤ x
not_less x y o e = at (int_lt x y) refl e
  where
    at : (b : Bool) → int_lt x y ≡ b →
        is_lt (ordering_then (if b then Less else (if int_lt y x then Greater else Equal)) o) ≡ false → y ≤ℤ x
    at true is e = cc
    at false is e = grind (arith, ints, is)

not_fitter : (new a b : Rectangle) → is_fitter new a b ≡ false → growth b new ≤ℤ growth a new
unfolding is_fitter
not_fitter new a b e = not_less (growth a new) (growth b new) (int_cmp (area a) (area b)) e

-- no rectangle grows less than the chosen one
pub choose_least : (list : List Rectangle) (new : Rectangle) (i : ℕ) → i < length list →
    growth (rect_at list (choose list new)) new ≤ℤ growth (rect_at list i) new
choose_least list new i within =
    let c = choose_champion list new (omega (arith, within)) in
    not_fitter new (rect_at list i) (rect_at list (choose list new))
    (of_position (λ k. is_fitter_at list new k (choose list new) ≡ false) 0 (length list) i c.unbeaten (omega arith)
    (omega (arith, within)))

-- ---- rising positions

positions_rise : (n : ℕ) → AllPairs (λ i j. i < j) (positions n)
positions_rise n = λ i j d h within.
    let inside : j < n = omega (arith, within, length-range_with_len 0 n) in
    omega (
      arith,
      h,
      get_or-range_with_len 0 n i d (omega (arith, h, inside)),
      get_or-range_with_len 0 n j d inside,
    )

pub group_rises : (bs : List Bool) (side : Bool) → AllPairs (λ i j. i < j) (group bs side)
group_rises bs side =
    AllPairs-filter (λ i j. i < j) (λ n. is_on side (get_or bs n false)) (positions (length bs))
    (positions_rise (length bs))

pub choose_within : (list : List Rectangle) (new : Rectangle) → 0 < length list → choose list new < length list
choose_within list new some =
    best_position (is_fitter_at list new) (length list) (choose list new) some (choose_champion list new some)
