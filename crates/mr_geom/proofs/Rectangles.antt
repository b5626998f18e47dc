-- Facts on rectangles as four numbers: equality, unions, areas.
use Rattle.std.proofs.Common.{◌≡◌, ℕ, cond, ◌-◌, ◌*◌, ◌^◌, ◌≤◌, ℤ, pos, negsuc, ◌≤ℤ◌, ◌-ℤ◌, ◌*ℤ◌, FitsSigned, arith, Bool, true, false, T, List, [], ◌∷◌, ◌++◌, refl, sym, ap, ◌∙◌, inl, inr}
use Rattle.std.specs.Prelude.{int_le, fold, Option, Some, None, SomeIff}
use Rattle.std.proofs.lemmas.Float.{T_from_true}
use Rattle.std.proofs.lemmas.Bool.{and_parts, cases_Bool}
use Rattle.std.proofs.lemmas.List.Sums.{fold-append}
use Rattle.std.proofs.lemmas.Nat.{mul-le}
use Rattle.std.specs.Int.{int_min, int_max, w32}
use Rattle.std.proofs.lemmas.Int.{ints, clamps}
use Rattle.mr_geom.specs.Rectangle.{Rectangle, IsOrdered, FitsMap, in_order, if_ordered, rectangle_of, union, join, union_of, area}

-- two rectangles with the same sides are one
pub same_rectangle : (a b : Rectangle) → a.x0 ≡ b.x0 → a.y0 ≡ b.y0 → a.x1 ≡ b.x1 → a.y1 ≡ b.y1 → a ≡ b
same_rectangle a b p q r s = λ i. record { x0 = p i; y0 = q i; x1 = r i; y1 = s i }

int_min_comm : (a b : ℤ) → int_min a b ≡ int_min b a
int_min_comm a b = omega (arith, ints, clamps)

int_max_comm : (a b : ℤ) → int_max a b ≡ int_max b a
int_max_comm a b = omega (arith, ints, clamps)

int_min_assoc : (a b c : ℤ) → int_min (int_min a b) c ≡ int_min a (int_min b c)
int_min_assoc a b c = omega (arith, ints, clamps)

int_max_assoc : (a b c : ℤ) → int_max (int_max a b) c ≡ int_max a (int_max b c)
int_max_assoc a b c = omega (arith, ints, clamps)

int_min_same : (a : ℤ) → int_min a a ≡ a
int_min_same a = omega (arith, ints, clamps)

int_max_same : (a : ℤ) → int_max a a ≡ a
int_max_same a = omega (arith, ints, clamps)

-- the union of rectangles that are equal to two
pub union_at : (a a' b b' r : Rectangle) → a ≡ a' → b ≡ b' → r ≡ union a b → r ≡ union a' b'
union_at a a' b b' r p q h = h ∙ (λ i. union (p i) (q i))

pub union_comm : (a b : Rectangle) → union a b ≡ union b a
union_comm a b =
    same_rectangle _ _ (int_min_comm a.x0 b.x0) (int_min_comm a.y0 b.y0) (int_max_comm a.x1 b.x1)
    (int_max_comm a.y1 b.y1)

pub union_assoc : (a b c : Rectangle) → union (union a b) c ≡ union a (union b c)
union_assoc a b c =
    same_rectangle _ _ (int_min_assoc a.x0 b.x0 c.x0) (int_min_assoc a.y0 b.y0 c.y0) (int_max_assoc a.x1 b.x1 c.x1)
    (int_max_assoc a.y1 b.y1 c.y1)

pub union_same : (a : Rectangle) → union a a ≡ a
union_same a = same_rectangle _ _ (int_min_same a.x0) (int_min_same a.y0) (int_max_same a.x1) (int_max_same a.y1)

pub IsOrdered-union : (a b : Rectangle) → IsOrdered a → IsOrdered b → IsOrdered (union a b)
IsOrdered-union a b p q = record { x = omega (arith, ints, clamps); y = omega (arith, ints, clamps) }

FitsSigned-int_min : (a b : ℤ) → FitsSigned w32 a → FitsSigned w32 b → FitsSigned w32 (int_min a b)
FitsSigned-int_min a b p q = omega (arith, ints, clamps)

FitsSigned-int_max : (a b : ℤ) → FitsSigned w32 a → FitsSigned w32 b → FitsSigned w32 (int_max a b)
FitsSigned-int_max a b p q = omega (arith, ints, clamps)

pub FitsMap-union : (a b : Rectangle) → FitsMap a → FitsMap b → FitsMap (union a b)
FitsMap-union a b p q = record {
  x0 = FitsSigned-int_min a.x0 b.x0 p.x0 q.x0;
  y0 = FitsSigned-int_min a.y0 b.y0 p.y0 q.y0;
  x1 = FitsSigned-int_max a.x1 b.x1 p.x1 q.x1;
  y1 = FitsSigned-int_max a.y1 b.y1 p.y1 q.y1;
}

product-≤ : (a b c d : ℤ) → pos 0 ≤ℤ a → a ≤ℤ c → pos 0 ≤ℤ b → b ≤ℤ d → (a *ℤ b) ≤ℤ (c *ℤ d)
product-≤ (pos a) (pos b) (pos c) (pos d) p q r s =
    let first : a ≤ c = omega (arith, ints) in
    let second : b ≤ d = omega (arith, ints) in
    let product : a * b ≤ c * d = mul-le a b c d first second in
    omega (arith, ints)
product-≤ (negsuc a) b c d p q r s = absurd (omega (arith, ints))
product-≤ (pos a) (negsuc b) c d p q r s = absurd (omega (arith, ints))
product-≤ (pos a) (pos b) (negsuc c) d p q r s = absurd (omega (arith, ints))
product-≤ (pos a) (pos b) (pos c) (negsuc d) p q r s = absurd (omega (arith, ints))

side-0 : (low high : ℤ) → low ≤ℤ high → pos 0 ≤ℤ (high -ℤ low)
side-0 low high h = omega (arith, ints)

side-≤ : (a b c d : ℤ) → c ≤ℤ a → b ≤ℤ d → (b -ℤ a) ≤ℤ (d -ℤ c)
side-≤ a b c d p q = omega (arith, ints)

-- the further apart the sides, the greater the area
pub area-≤ : (a b : Rectangle) → IsOrdered a → b.x0 ≤ℤ a.x0 → a.x1 ≤ℤ b.x1 → b.y0 ≤ℤ a.y0 → a.y1 ≤ℤ b.y1 →
    area a ≤ℤ area b
area-≤ a b o left right low high =
    product-≤ (a.x1 -ℤ a.x0) (a.y1 -ℤ a.y0) (b.x1 -ℤ b.x0) (b.y1 -ℤ b.y0)
    (side-0 a.x0 a.x1 o.x)
    (side-≤ a.x0 a.x1 b.x0 b.x1 left right)
    (side-0 a.y0 a.y1 o.y)
    (side-≤ a.y0 a.y1 b.y0 b.y1 low high)

pub area-0 : (r : Rectangle) → IsOrdered r → pos 0 ≤ℤ area r
area-0 r o =
    product-≤ (pos 0) (pos 0) (r.x1 -ℤ r.x0) (r.y1 -ℤ r.y0)
    (omega (arith, ints))
    (side-0 r.x0 r.x1 o.x)
    (omega (arith, ints))
    (side-0 r.y0 r.y1 o.y)

side_bound : (low high : ℤ) → FitsSigned w32 low → FitsSigned w32 high → (high -ℤ low) ≤ℤ pos (2 ^ 32 - 1)
side_bound low high p q = omega (arith, ints)

pub area_bound : (r : Rectangle) → IsOrdered r → FitsMap r → area r ≤ℤ pos ((2 ^ 32 - 1) * (2 ^ 32 - 1))
area_bound r o f =
    product-≤ (r.x1 -ℤ r.x0) (r.y1 -ℤ r.y0) (pos (2 ^ 32 - 1)) (pos (2 ^ 32 - 1))
    (side-0 r.x0 r.x1 o.x)
    (side_bound r.x0 r.x1 f.x0 f.x1)
    (side-0 r.y0 r.y1 o.y)
    (side_bound r.y0 r.y1 f.y0 f.y1)

int_min_below : (a b : ℤ) → int_min a b ≤ℤ a
int_min_below a b = omega (arith, ints, clamps)

int_max_above : (a b : ℤ) → a ≤ℤ int_max a b
int_max_above a b = omega (arith, ints, clamps)

-- a union has at least the area of its parts
pub area-union : (a b : Rectangle) → IsOrdered a → area a ≤ℤ area (union a b)
area-union a b o =
    area-≤ a (union a b) o
    (int_min_below a.x0 b.x0)
    (int_max_above a.x1 b.x1)
    (int_min_below a.y0 b.y0)
    (int_max_above a.y1 b.y1)

-- what is left of one natural number after another, as a difference of whole numbers
pub pos-minus : (m n : ℕ) (a b : ℤ) → pos m ≡ a → pos n ≡ b → b ≤ℤ a → (n ≤ m) × (pos (m - n) ≡ a -ℤ b)
pos-minus m n a b p q h = (omega (arith, ints), omega (arith, ints))

-- ---- sides in order, as a test

pub true_from_T : (b : Bool) → T b → b ≡ true
true_from_T true t = refl
true_from_T false t = absurd t

pub in_order_is : (r : Rectangle) → in_order r ≡ true → IsOrdered r
in_order_is r t =
    let both = and_parts (int_le r.x0 r.x1) (int_le r.y0 r.y1) t in
    record { x = record { le = T_from_true _ both.0 }; y = record { le = T_from_true _ both.1 } }

pub is_in_order : (r : Rectangle) → IsOrdered r → in_order r ≡ true
is_in_order r o = rw (true_from_T (int_le r.x0 r.x1) o.x.le, true_from_T (int_le r.y0 r.y1) o.y.le) refl

-- what is a rectangle just where its sides are in order is the rectangle of its four numbers
pub if_ordered_is : (r : Rectangle) (o : Option Rectangle) → SomeIff o (IsOrdered r) r → o ≡ if_ordered r
if_ordered_is r (Some q) h = ap Some h.1 ∙ rw (is_in_order r h.0) refl
if_ordered_is r None h = elim (cases_Bool (in_order r)) [
  | inl t ↦ absurd (h (in_order_is r t))
  | inr f ↦ rw f refl
]

some_same : (r s : Rectangle) → ◌≡◌ {A = Option Rectangle} (Some r) (Some s) → r ≡ s
some_same r s e = cc

guard_some : (b : Bool) (x y : Rectangle) → cond b (Some x) None ≡ Some y → (b ≡ true) × (x ≡ y)
guard_some true x y e = (refl, some_same x y e)
guard_some false x y e = absurd cc

-- a rectangle of four numbers has these sides, in order
pub rectangle_of_some : (a b c d : ℤ) (r : Rectangle) → rectangle_of a b c d ≡ Some r →
    IsOrdered (record { x0 = a; y0 = b; x1 = c; y1 = d }) × (record { x0 = a; y0 = b; x1 = c; y1 = d } ≡ r)
rectangle_of_some a b c d r e =
    let made : Rectangle = record { x0 = a; y0 = b; x1 = c; y1 = d } in
    let guard = guard_some (in_order made) made r e in
    (in_order_is made guard.0, guard.1)

-- ---- the rectangle round two that may be missing

pub join_assoc : (a b c : Option Rectangle) → join (join a b) c ≡ join a (join b c)
join_assoc None b c = refl
join_assoc (Some a) None c = refl
join_assoc (Some a) (Some b) None = refl
join_assoc (Some a) (Some b) (Some c) = ap Some (union_assoc a b c)

pub join_none : (a : Option Rectangle) → join a None ≡ a
join_none None = refl
join_none (Some a) = refl

pub fold_join : (a : Option Rectangle) (xs : List (Option Rectangle)) → fold join a xs ≡ join a (union_of xs)
fold_join a [] = sym (join_none a)
fold_join a (x ∷ xs) = fold_join (join a x) xs ∙ join_assoc a x (union_of xs) ∙ ap (join a) (sym (fold_join x xs))

pub union_of-append : (xs ys : List (Option Rectangle)) → union_of (xs ++ ys) ≡ join (union_of xs) (union_of ys)
union_of-append xs ys = fold-append join None xs ys ∙ fold_join (union_of xs) ys
