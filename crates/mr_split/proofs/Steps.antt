-- One step of each loop over the marks.
use Rattle.std.proofs.Common.{◌≡◌, ℕ, ◌+◌, ◌-◌, ◌<◌, ◌≤◌, suc, Bool, true, false, List, [], ◌∷◌, ◌++◌, length, map, refl, sym, ap, ◌∙◌, append_assoc, arith}
use Rattle.std.specs.Prelude.{ℤ, pos, ◌-ℤ◌, unsigned_abs, if◌then◌else◌, Option, Some, None}
use Rattle.std.specs.Int.{abs_diff}
use Rattle.std.specs.List.{fold, filter, range_with_len}
use Rattle.std.proofs.lemmas.Int.{ints}
use Rattle.std.proofs.Math.ListN.{length-set}
use Rattle.mr_geom.specs.Rectangle.{Rectangle, join, area, union}
use Rattle.mr_split.specs.Choice.{rect_at}
use Rattle.mr_split.specs.Split.{area_of, growth_of, member, bounds, shared, with_next_placed, next, group_for, filled, needs_all, group, preference}
use Rattle.mr_split.specs.declared.mark.Mark.{Mark}
use Rattle.mr_split.specs.declared.mark.Mark.TheVariants.{First, Second}
use Rattle.mr_split.proofs.Champion.{next_position}

pub member_on : (list : List Rectangle) (marks : List Mark) (g : Mark) (i n : ℕ) (x y z : Option Rectangle) → i < n →
    y ≡ join x (member list marks g i) →
    fold join x (map (member list marks g) (range_with_len i (n - i))) ≡ z → fold join y
    (map (member list marks g) (range_with_len (i + 1) (n - (i + 1)))) ≡ z
member_on list marks g i n x y z within is so_far =
    (λ k. fold join (is k) (map (member list marks g) (range_with_len (i + 1) (n - (i + 1)))))
    ∙ sym (ap (λ js. fold join x (map (member list marks g) js)) (next_position i n within)) ∙ so_far

pub from_start : (list : List Rectangle) (marks : List Mark) (g : Mark) → fold join None
    (map (member list marks g) (range_with_len 0 (length list - 0))) ≡ bounds list marks g
unfolding bounds
from_start list marks g = let e : length list - 0 ≡ length list = omega arith in
    ap (λ n. fold join None (map (member list marks g) (range_with_len 0 n))) e

pub growth_of_none : (group : Option Rectangle) (r : Rectangle) (n : ℕ) → group ≡ None → pos n ≡ area r →
    pos n ≡ growth_of group r
unfolding growth_of
growth_of_none group r n none is =
    let e : area r ≡ area r -ℤ pos 0 = omega (arith, ints) in
    is ∙ e ∙ sym (λ i. area_of (join (none i) (Some r)) -ℤ area_of (none i))

pub growth_of_some : (group : Option Rectangle) (all r : Rectangle) (n : ℕ) → group ≡ Some all → pos n ≡ area
    (union all r) -ℤ area all → pos n ≡ growth_of group r
unfolding growth_of
growth_of_some group all r n some is = is ∙ sym (λ i. area_of (join (some i) (Some r)) -ℤ area_of (some i))

pub apart : (a b : ℕ) (x y : ℤ) → pos a ≡ x → pos b ≡ y → abs_diff a b ≡ unsigned_abs (x -ℤ y)
apart a b x y p q = distance a b ∙ (λ i. unsigned_abs (p i -ℤ q i))
  where
    distance : (a b : ℕ) → abs_diff a b ≡ unsigned_abs (pos a -ℤ pos b)
    distance a b = omega (arith, ints)

-- ---- positions on a side

pub side_on : (p : ℕ → Bool) (i n : ℕ) (xs ys zs : List ℕ) (b : Bool) → i < n → p i ≡ b → ys ≡
    (if b then xs ++ i ∷ [] else xs) →
    xs ++ filter p (range_with_len i (n - i)) ≡ zs → ys ++ filter p (range_with_len (i + 1) (n - (i + 1))) ≡ zs
side_on p i n xs ys zs b within test is so_far =
    let later = filter p (range_with_len (i + 1) (n - (i + 1))) in
    (λ k. is k ++ later) ∙ at b ∙ sym (λ k. xs ++ (if test k then i ∷ later else later)) ∙ sym
    (ap (λ js. xs ++ filter p js) (next_position i n within)) ∙ so_far
  where
    at : (b : Bool) →
        (if b then xs ++ i ∷ [] else xs) ++ filter p (range_with_len (i + 1) (n - (i + 1)))
        ≡ xs ++ (if b then i ∷ filter p (range_with_len (i + 1) (n - (i + 1))) else filter p
        (range_with_len (i + 1) (n - (i + 1))))
    at true = append_assoc xs (i ∷ []) (filter p (range_with_len (i + 1) (n - (i + 1))))
    at false = refl

-- ---- how much it matters

pub urgent : (b : Bool) (d p : ℕ) → b ≡ true → d ≡ p → d + 1 ≡ (if b then suc p else 0)
urgent b d p e is = let more : d + 1 ≡ suc p = omega (arith, is) in more ∙ sym (λ i. if e i then suc p else 0)

pub prefers : (f s : Option Rectangle) (r : Rectangle) (a b d : ℕ) → pos a ≡ growth_of f r → pos b ≡ growth_of s r →
    d ≡ abs_diff a b → d ≡ preference f s r
unfolding preference
prefers f s r a b d p q is = is ∙ apart a b (growth_of f r) (growth_of s r) p q

-- ---- one entry more

next_left : (i n : ℕ) → i < n → n - i ≡ suc (n - (i + 1))
next_left i n within = omega (arith, within)

pub shared_now : (left least : ℕ) (list : List Rectangle) (marks : List Mark) (a b : Bool) → needs_all least First
    marks ≡ a → needs_all least Second marks ≡ b →
    shared (suc left) least list marks ≡ (if a then filled First marks else (if b then filled Second marks else shared
    left least list (with_next_placed list marks)))
unfolding shared
shared_now left least list marks a b p q = λ i. if p i then filled First marks else
    (if q i then filled Second marks else shared left least list (with_next_placed list marks))

pub first_takes : (n i least : ℕ) (list : List Rectangle) (marks new z : List Mark) → i < n → needs_all least First
    marks ≡ true → new ≡ filled First marks →
    shared (n - i) least list marks ≡ z → new ≡ z
first_takes n i least list marks new z within e is so_far =
    is ∙ sym (shared_now (n - (i + 1)) least list marks true (needs_all least Second marks) e refl) ∙ sym
    (ap (λ k. shared k least list marks) (next_left i n within)) ∙ so_far

pub second_takes : (n i least : ℕ) (list : List Rectangle) (marks new z : List Mark) → i < n → needs_all least First
    marks ≡ false → needs_all least Second marks ≡ true → new ≡ filled Second marks →
    shared (n - i) least list marks ≡ z → new ≡ z
second_takes n i least list marks new z within d e is so_far =
    is ∙ sym (shared_now (n - (i + 1)) least list marks false true d e) ∙ sym (ap (λ k. shared k least list marks)
    (next_left i n within)) ∙ so_far

pub one_goes : (n i least : ℕ) (list : List Rectangle) (marks new z : List Mark) → i < n → needs_all least First
    marks ≡ false → needs_all least Second marks ≡ false → new ≡ with_next_placed list marks →
    shared (n - i) least list marks ≡ z → shared (n - (i + 1)) least list new ≡ z
one_goes n i least list marks new z within d e is so_far =
    ap (shared (n - (i + 1)) least list) is ∙ sym (shared_now (n - (i + 1)) least list marks false false d e) ∙ sym
    (ap (λ k. shared k least list marks) (next_left i n within)) ∙ so_far

pub all_shared : (n i least : ℕ) (list : List Rectangle) (marks z : List Mark) → n ≤ i → shared (n - i) least list
    marks ≡ z → marks ≡ z
unfolding shared
all_shared n i least list marks z done so_far = let none : n - i ≡ 0 = omega (arith, done) in
    sym (ap (λ k. shared k least list marks) none) ∙ so_far

pub length_of_placed : (list : List Rectangle) (marks new : List Mark) → new ≡ with_next_placed list marks → length new
    ≡ length
    marks
length_of_placed list marks new is = ap length is ∙ length-set marks (next list marks)
    (group_for list marks (rect_at list (next list marks)))

-- one of a side, or one that is not
pub pushed : (b : Bool) (xs ys : List ℕ) (i : ℕ) → b ≡ true → ys ≡ xs ++ i ∷ [] → ys ≡
    (if b then xs ++ i ∷ [] else xs)
pushed b xs ys i e is = is ∙ sym (λ k. if e k then xs ++ i ∷ [] else xs)

pub left_out : (b : Bool) (xs ys : List ℕ) (i : ℕ) → b ≡ false → ys ≡ xs → ys ≡ (if b then xs ++ i ∷ [] else xs)
left_out b xs ys i e is = is ∙ sym (λ k. if e k then xs ++ i ∷ [] else xs)
