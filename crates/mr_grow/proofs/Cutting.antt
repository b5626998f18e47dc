-- The two parts of a list: one item more, and what they have together.
use Rattle.std.proofs.Common.{◌≡◌, ℕ, ◌*◌, ◌≤◌, Bool, true, false, not, arith, List, [], ◌∷◌, ◌++◌, length, get_or, refl, sym, ap, subst, ◌∙◌, append_assoc}
use Rattle.std.specs.Prelude.{if◌then◌else◌}
use Rattle.std.specs.List.{flat_map, AllByRecursion}
use Rattle.std.specs.List.Sorted.{IsPermutation}
use Rattle.std.proofs.lemmas.List.{append-nil}
use Rattle.std.proofs.lemmas.List.Sorted.{IsPermutation-refl, IsPermutation-trans, IsPermutation-append_left, IsPermutation-append_right, IsPermutation-append_comm}
use Rattle.mr_geom.specs.Rectangle.{Rectangle}
use Rattle.mr_split.specs.Split.{sides}
use Rattle.mr_split.proofs.Counts.{many, are_sides}
use Rattle.mr_grow.specs.Parts.{first_part, second_part}

pub first_none : {X : Type 0} (bs : List Bool) → first_part {X = X} bs [] ≡ []
first_none [] = refl
first_none (b ∷ bs) = refl

pub second_none : {X : Type 0} (bs : List Bool) → second_part {X = X} bs [] ≡ []
second_none [] = refl
second_none (b ∷ bs) = refl

pushed : {X : Type 0} (y : X) (b : Bool) (us vs : List X) → y ∷ (if b then us else vs) ≡
    (if b then y ∷ us else y ∷ vs)
pushed y true us vs = refl
pushed y false us vs = refl

pub first_more : {X : Type 0} (bs : List Bool) (xs : List X) (x : X) →
    first_part bs (xs ++ x ∷ []) ≡ (if get_or bs (length xs) false then first_part bs xs else first_part bs xs ++ x ∷
    [])
first_more [] xs x = refl
first_more (true ∷ bs) [] x = first_none bs
first_more (false ∷ bs) [] x = ap (λ us. x ∷ us) (first_none bs)
first_more (true ∷ bs) (y ∷ xs) x = first_more bs xs x
first_more (false ∷ bs) (y ∷ xs) x = ap (λ us. y ∷ us) (first_more bs xs x) ∙ pushed y (get_or bs (length xs) false)
    (first_part bs xs) (first_part bs xs ++ x ∷ [])

pub second_more : {X : Type 0} (bs : List Bool) (xs : List X) (x : X) →
    second_part bs (xs ++ x ∷ []) ≡ (if get_or bs (length xs) false then second_part bs xs ++ x ∷ [] else second_part
    bs xs)
second_more [] xs x = refl
second_more (true ∷ bs) [] x = ap (λ us. x ∷ us) (second_none bs)
second_more (false ∷ bs) [] x = second_none bs
second_more (true ∷ bs) (y ∷ xs) x = ap (λ us. y ∷ us) (second_more bs xs x) ∙ pushed y (get_or bs (length xs) false)
    (second_part bs xs ++ x ∷ []) (second_part bs xs)
second_more (false ∷ bs) (y ∷ xs) x = second_more bs xs x

-- one step of the loop
pub first_kept : {X : Type 0} (bs : List Bool) (xs : List X) (x : X) (old new : List X) (b : Bool) → b ≡ get_or bs
    (length xs) false →
    old ≡ first_part bs xs → new ≡ (if b then old else old ++ x ∷ []) → new ≡ first_part bs (xs ++ x ∷ [])
first_kept bs xs x old new b at so_far is = is ∙ (λ i. if at i then so_far i else so_far i ++ x ∷ []) ∙ sym
    (first_more bs xs x)

pub second_kept : {X : Type 0} (bs : List Bool) (xs : List X) (x : X) (old new : List X) (b : Bool) → b ≡ get_or bs
    (length xs) false →
    old ≡ second_part bs xs → new ≡ (if b then old ++ x ∷ [] else old) → new ≡ second_part bs (xs ++ x ∷ [])
second_kept bs xs x old new b at so_far is = is ∙ (λ i. if at i then so_far i ++ x ∷ [] else so_far i) ∙ sym
    (second_more bs xs x)

-- a b c, with a moved behind b
pub moved : {X : Type 0} (a b c : List X) → IsPermutation (a ++ (b ++ c)) (b ++ (a ++ c))
moved a b c =
    subst (λ us. IsPermutation us (b ++ (a ++ c))) (append_assoc a b c)
    (subst (IsPermutation ((a ++ b) ++ c)) (append_assoc b a c)
    (IsPermutation-append_left c (a ++ b) (b ++ a) (IsPermutation-append_comm a b)))

-- whatever is listed of each item, the parts list it together
pub parts_mix : {X A : Type 0} (f : X → List A) (bs : List Bool) (xs : List X) →
    IsPermutation (flat_map f xs) (flat_map f (first_part bs xs) ++ flat_map f (second_part bs xs))
parts_mix f [] xs = subst (IsPermutation (flat_map f xs)) (sym (append-nil (flat_map f xs)))
    (IsPermutation-refl (flat_map f xs))
parts_mix f (b ∷ bs) [] = IsPermutation-refl []
parts_mix f (false ∷ bs) (x ∷ xs) =
    subst (IsPermutation (f x ++ flat_map f xs))
    (sym (append_assoc (f x) (flat_map f (first_part bs xs)) (flat_map f (second_part bs xs))))
    (IsPermutation-append_right (f x) (flat_map f xs) _ (parts_mix f bs xs))
parts_mix f (true ∷ bs) (x ∷ xs) =
    let a = flat_map f (first_part bs xs) in
    let b = flat_map f (second_part bs xs) in
    IsPermutation-trans (f x ++ flat_map f xs) (f x ++ (a ++ b)) (a ++ (f x ++ b))
    (IsPermutation-append_right (f x) (flat_map f xs) (a ++ b) (parts_mix f bs xs))
    (moved (f x) a b)

-- ---- how many each part has

pub first_length : {X : Type 0} (bs : List Bool) (xs : List X) → length bs ≡ length xs → length (first_part bs xs) ≡
    many not bs
first_length [] [] same = refl
first_length [] (x ∷ xs) same = absurd (omega (arith, same))
first_length (b ∷ bs) [] same = absurd (omega (arith, same))
first_length (true ∷ bs) (x ∷ xs) same = first_length bs xs (omega (arith, same))
first_length (false ∷ bs) (x ∷ xs) same = omega (arith, first_length bs xs (omega (arith, same)))

pub second_length : {X : Type 0} (bs : List Bool) (xs : List X) → length bs ≡ length xs → length (second_part bs xs) ≡
    many (λ b. b) bs
second_length [] [] same = refl
second_length [] (x ∷ xs) same = absurd (omega (arith, same))
second_length (b ∷ bs) [] same = absurd (omega (arith, same))
second_length (true ∷ bs) (x ∷ xs) same = omega (arith, second_length bs xs (omega (arith, same)))
second_length (false ∷ bs) (x ∷ xs) same = second_length bs xs (omega (arith, same))

-- each part has at least so many
pub record IsSplit {X : Type 0} (bs : List Bool) (least : ℕ) (xs : List X) : Type 0 where
  pub first : least ≤ length (first_part bs xs)
  pub second : least ≤ length (second_part bs xs)

pub splits : {X : Type 0} (rects : List Rectangle) (least : ℕ) (xs : List X) → length xs ≡ length rects → 1 ≤ least →
    2 * least ≤ length xs →
    IsSplit (sides rects least) least xs
splits rects least xs same some half =
    let s = are_sides rects least some (omega (arith, half, same)) in
    let all = s.all ∙ sym same in
    record {
      first = omega (arith, s.first, first_length (sides rects least) xs all);
      second = omega (arith, s.second, second_length (sides rects least) xs all);
    }

-- ---- what holds of all

pub all_first : {X : Type 0} (P : X → Type 0) (bs : List Bool) (xs : List X) → AllByRecursion P xs → AllByRecursion P
    (first_part bs xs)
all_first P [] xs all = all
all_first P (b ∷ bs) [] all = tt
all_first P (true ∷ bs) (x ∷ xs) all = all_first P bs xs all.1
all_first P (false ∷ bs) (x ∷ xs) all = (all.0, all_first P bs xs all.1)

pub all_second : {X : Type 0} (P : X → Type 0) (bs : List Bool) (xs : List X) → AllByRecursion P xs → AllByRecursion P
    (second_part bs xs)
all_second P [] xs all = tt
all_second P (b ∷ bs) [] all = tt
all_second P (true ∷ bs) (x ∷ xs) all = (all.0, all_second P bs xs all.1)
all_second P (false ∷ bs) (x ∷ xs) all = all_second P bs xs all.1
