-- Facts on the points of rectangles: what meets, what lies in what, and the least rectangle round two.
use Rattle.std.proofs.Common.{◌≡◌, ℤ, ◌≤ℤ◌, Bool, true, false, T, IsTrue, ◌↔◌, refl, sym, subst, inl, inr, arith}
use Rattle.std.specs.Prelude.{int_le, ◌&&◌}
use Rattle.std.proofs.lemmas.Float.{T_from_true}
use Rattle.std.proofs.lemmas.Bool.{and_parts, cases_Bool, false≢true}
use Rattle.std.specs.Int.{int_min, int_max}
use Rattle.std.proofs.lemmas.Int.{ints, clamps}
use Rattle.mr_geom.specs.Rectangle.{Rectangle, IsOrdered, union, area}
use Rattle.mr_geom.specs.Plane.{HoldsPoint, SharesPoint, touches, Inside, IsLeastRound}
use Rattle.mr_geom.proofs.Rectangles.{IsOrdered-union, area-≤, true_from_T}

-- what holds of two rectangles holds of those that are equal to them
pub at_both : (a a' b b' : Rectangle) (P : Rectangle → Rectangle → Type 0) → a ≡ a' → b ≡ b' → P a b → P a' b'
at_both a a' b b' P p q h = subst (P a') q (subst (λ r. P r b) p h)

-- neither lies wholly to one side of the other
pub record SidesMeet (a b : Rectangle) : Type 0 where
  pub left : a.x0 ≤ℤ b.x1
  pub right : b.x0 ≤ℤ a.x1
  pub low : a.y0 ≤ℤ b.y1
  pub high : b.y0 ≤ℤ a.y1

-- the sides of the first lie between those of the second
pub record SidesInside (a b : Rectangle) : Type 0 where
  pub left : b.x0 ≤ℤ a.x0
  pub right : a.x1 ≤ℤ b.x1
  pub low : b.y0 ≤ℤ a.y0
  pub high : a.y1 ≤ℤ b.y1

int_max_lower : (a b c : ℤ) → a ≤ℤ c → b ≤ℤ c → int_max a b ≤ℤ c
int_max_lower a b c p q = omega (arith, ints, clamps)

int_max_first : (a b : ℤ) → a ≤ℤ int_max a b
int_max_first a b = omega (arith, ints, clamps)

int_max_second : (a b : ℤ) → b ≤ℤ int_max a b
int_max_second a b = omega (arith, ints, clamps)

int_min_upper : (a b c : ℤ) → c ≤ℤ a → c ≤ℤ b → c ≤ℤ int_min a b
int_min_upper a b c p q = omega (arith, ints, clamps)

int_min_first : (a b : ℤ) → int_min a b ≤ℤ a
int_min_first a b = omega (arith, ints, clamps)

int_min_second : (a b : ℤ) → int_min a b ≤ℤ b
int_min_second a b = omega (arith, ints, clamps)

≤ℤ-same : (a : ℤ) → a ≤ℤ a
≤ℤ-same a = omega (arith, ints)

≤ℤ-through : (a b c : ℤ) → a ≤ℤ b → b ≤ℤ c → a ≤ℤ c
≤ℤ-through a b c p q = omega (arith, ints)

pub SidesMeet-SharesPoint : (a b : Rectangle) → SharesPoint a b → SidesMeet a b
SidesMeet-SharesPoint a b (p, h, k) = record {
  left = ≤ℤ-through a.x0 p.x b.x1 h.left k.right;
  right = ≤ℤ-through b.x0 p.x a.x1 k.left h.right;
  low = ≤ℤ-through a.y0 p.y b.y1 h.low k.high;
  high = ≤ℤ-through b.y0 p.y a.y1 k.low h.high;
}

pub SharesPoint-SidesMeet : (a b : Rectangle) → IsOrdered a → IsOrdered b → SidesMeet a b → SharesPoint a b
SharesPoint-SidesMeet a b o q s = (
  record { x = int_max a.x0 b.x0; y = int_max a.y0 b.y0 },
  record {
    left = int_max_first a.x0 b.x0;
    right = int_max_lower a.x0 b.x0 a.x1 o.x s.right;
    low = int_max_first a.y0 b.y0;
    high = int_max_lower a.y0 b.y0 a.y1 o.y s.high;
  },
  record {
    left = int_max_second a.x0 b.x0;
    right = int_max_lower a.x0 b.x0 b.x1 s.left q.x;
    low = int_max_second a.y0 b.y0;
    high = int_max_lower a.y0 b.y0 b.y1 s.low q.y;
  },
)

pub SidesInside-Inside : (a b : Rectangle) → IsOrdered a → Inside a b → SidesInside a b
SidesInside-Inside a b o h =
    let low_corner : HoldsPoint b (record { x = a.x0; y = a.y0 }) =
    h (record { x = a.x0; y = a.y0 }) (record { left = ≤ℤ-same a.x0; right = o.x; low = ≤ℤ-same a.y0; high = o.y }) in
    let high_corner : HoldsPoint b (record { x = a.x1; y = a.y1 }) =
    h (record { x = a.x1; y = a.y1 }) (record { left = o.x; right = ≤ℤ-same a.x1; low = o.y; high = ≤ℤ-same a.y1 }) in
    record { left = low_corner.left; right = high_corner.right; low = low_corner.low; high = high_corner.high }

pub Inside-SidesInside : (a b : Rectangle) → SidesInside a b → Inside a b
Inside-SidesInside a b s = λ p h. record {
  left = ≤ℤ-through b.x0 a.x0 p.x s.left h.left;
  right = ≤ℤ-through p.x a.x1 b.x1 h.right s.right;
  low = ≤ℤ-through b.y0 a.y0 p.y s.low h.low;
  high = ≤ℤ-through p.y a.y1 b.y1 h.high s.high;
}

-- what contains an ordered rectangle is ordered
pub IsOrdered-Inside : (a b : Rectangle) → IsOrdered a → Inside a b → IsOrdered b
IsOrdered-Inside a b o h =
    let s = SidesInside-Inside a b o h in
    record {
      x = ≤ℤ-through b.x0 a.x1 b.x1 (≤ℤ-through b.x0 a.x0 a.x1 s.left o.x) s.right;
      y = ≤ℤ-through b.y0 a.y1 b.y1 (≤ℤ-through b.y0 a.y0 a.y1 s.low o.y) s.high;
    }

pub Inside-through : (a b c : Rectangle) → Inside a b → Inside b c → Inside a c
Inside-through a b c h k = λ p held. k p (h p held)

pub SharesPoint_comm : (a b : Rectangle) → SharesPoint a b → SharesPoint b a
SharesPoint_comm a b (p, h, k) = (p, k, h)

-- what meets a rectangle meets each rectangle that contains it
pub SharesPoint-Inside : (a b c : Rectangle) → Inside b c → SharesPoint a b → SharesPoint a c
SharesPoint-Inside a b c inside (p, h, k) = (p, h, inside p k)

pub Inside-union_first : (a b : Rectangle) → Inside a (union a b)
Inside-union_first a b = Inside-SidesInside a (union a b) (record {
  left = int_min_first a.x0 b.x0;
  right = int_max_first a.x1 b.x1;
  low = int_min_first a.y0 b.y0;
  high = int_max_first a.y1 b.y1;
})

pub Inside-union_second : (a b : Rectangle) → Inside b (union a b)
Inside-union_second a b = Inside-SidesInside b (union a b) (record {
  left = int_min_second a.x0 b.x0;
  right = int_max_second a.x1 b.x1;
  low = int_min_second a.y0 b.y0;
  high = int_max_second a.y1 b.y1;
})

pub union-Inside : (a b c : Rectangle) → IsOrdered a → IsOrdered b → Inside a c → Inside b c → Inside (union a b) c
union-Inside a b c o q h k =
    let s = SidesInside-Inside a c o h in
    let t = SidesInside-Inside b c q k in
    Inside-SidesInside (union a b) c (record {
      left = int_min_upper a.x0 b.x0 c.x0 s.left t.left;
      right = int_max_lower a.x1 b.x1 c.x1 s.right t.right;
      low = int_min_upper a.y0 b.y0 c.y0 s.low t.low;
      high = int_max_lower a.y1 b.y1 c.y1 s.high t.high;
    })

pub IsLeastRound-union : (a b : Rectangle) → IsOrdered a → IsOrdered b → IsLeastRound a b (union a b)
IsLeastRound-union a b o q = record {
  ordered = IsOrdered-union a b o q;
  first = Inside-union_first a b;
  second = Inside-union_second a b;
  least = λ c _ h k. union-Inside a b c o q h k;
}

-- where the two share numbers along x, a test of the other axis says whether they meet
pub meets_across : (a b : Rectangle) (t : Bool) → IsOrdered a → IsOrdered b → a.x0 ≤ℤ b.x1 → b.x0 ≤ℤ a.x1 →
    (IsTrue t ↔ ((a.y0 ≤ℤ b.y1) × (b.y0 ≤ℤ a.y1))) → IsTrue t ↔ SharesPoint a b
meets_across a b t o q left right h = (
  λ yes. SharesPoint-SidesMeet a b o q (record { left = left; right = right; low = (h.0 yes).0; high = (h.0 yes).1 }),
  λ met. let s = SidesMeet-SharesPoint a b met in h.1 (s.low, s.high),
)

-- where the two share no number along x, they do not meet
pub misses_along : (a b : Rectangle) (t : Bool) → t ≡ false → (((a.x0 ≤ℤ b.x1) × (b.x0 ≤ℤ a.x1)) → IsTrue t) →
    IsTrue t ↔ SharesPoint a b
misses_along a b t fails h = (λ yes. cc, λ met. let s = SidesMeet-SharesPoint a b met in h (s.left, s.right))

-- where the first lies in the second along x, a test of the other axis says whether it lies in it
pub inside_across : (a b : Rectangle) (t : Bool) → IsOrdered a → b.x0 ≤ℤ a.x0 → a.x1 ≤ℤ b.x1 →
    (IsTrue t ↔ ((b.y0 ≤ℤ a.y0) × (a.y1 ≤ℤ b.y1))) → IsTrue t ↔ Inside a b
inside_across a b t o left right h = (
  λ yes. Inside-SidesInside a b (record { left = left; right = right; low = (h.0 yes).0; high = (h.0 yes).1 }),
  λ inside. let s = SidesInside-Inside a b o inside in h.1 (s.low, s.high),
)

-- where the first does not lie in the second along x, it does not lie in it
pub outside_along : (a b : Rectangle) (t : Bool) → IsOrdered a → t ≡ false →
    (((b.x0 ≤ℤ a.x0) × (a.x1 ≤ℤ b.x1)) → IsTrue t) → IsTrue t ↔ Inside a b
outside_along a b t o fails h = (λ yes. cc, λ inside. let s = SidesInside-Inside a b o inside in h (s.left, s.right))

-- what lies in a rectangle has at most its area
pub area-Inside : (a b : Rectangle) → IsOrdered a → Inside a b → area a ≤ℤ area b
area-Inside a b o h = let s = SidesInside-Inside a b o h in area-≤ a b o s.left s.right s.low s.high

-- ---- whether two rectangles share a point, as a test

pub touches-sides : (a b : Rectangle) → SidesMeet a b → touches a b ≡ true
touches-sides a b s =
    rw (
      true_from_T (int_le a.x0 b.x1) s.left.le,
      true_from_T (int_le b.x0 a.x1) s.right.le,
      true_from_T
          (int_le a.y0 b.y1) s.low.le,
      true_from_T (int_le b.y0 a.y1) s.high.le,
    ) refl

pub sides-touches : (a b : Rectangle) → touches a b ≡ true → SidesMeet a b
sides-touches a b t =
    let both = and_parts (int_le a.x0 b.x1 && int_le b.x0 a.x1) (int_le a.y0 b.y1 && int_le b.y0 a.y1) t in
    let across = and_parts (int_le a.x0 b.x1) (int_le b.x0 a.x1) both.0 in
    let along = and_parts (int_le a.y0 b.y1) (int_le b.y0 a.y1) both.1 in
    record {
      left = record { le = T_from_true _ across.0 };
      right = record { le = T_from_true _ across.1 };
      low = record { le = T_from_true _ along.0 };
      high = record { le = T_from_true _ along.1 };
    }

-- a test that is true exactly where the two share a point is the test on the sides
pub touches_is : (a b : Rectangle) (r : Bool) → IsOrdered a → IsOrdered b → (IsTrue r ↔ SharesPoint a b) → r ≡
    touches a b
touches_is a b true o q e = sym (touches-sides a b (SidesMeet-SharesPoint a b (e.0 refl)))
touches_is a b false o q e = elim (cases_Bool (touches a b)) [
  | inl t ↦ absurd (false≢true (e.1 (SharesPoint-SidesMeet a b o q (sides-touches a b t))))
  | inr f ↦ sym f
]

-- the same of rectangles that are equal to two in order
pub touches_at : (a a' b b' : Rectangle) (r : Bool) → a ≡ a' → b ≡ b' → IsOrdered a → IsOrdered b →
    (IsTrue r ↔ SharesPoint a' b') → r ≡ touches a' b'
touches_at a a' b b' r p q o ordered = touches_is a' b' r (subst IsOrdered p o) (subst IsOrdered q ordered)

-- the same, the other way round
pub touches-meets : (a b : Rectangle) → IsOrdered a → IsOrdered b → (touches a b ≡ true) ↔ SharesPoint a b
touches-meets a b o q = (
  λ t. SharesPoint-SidesMeet a b o q (sides-touches a b t),
  λ met. touches-sides a b (SidesMeet-SharesPoint a b met),
)
