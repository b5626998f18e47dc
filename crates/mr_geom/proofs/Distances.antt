-- Facts on squared distances.
use Rattle.std.proofs.Common.{◌≡◌, ℕ, zero, suc, ◌+◌, ◌-◌, ◌*◌, ◌^◌, ◌≤◌, ◌↔◌, ℤ, ◌-ℤ◌, ◌≤ℤ◌, refl, arith}
use Rattle.std.specs.Prelude.{unsigned_abs, FitsSigned}
use Rattle.std.specs.Int.{int_min, int_max, w32}
use Rattle.std.proofs.lemmas.Int.{ints, clamps}
use Rattle.mr_geom.specs.Rectangle.{Rectangle, IsOrdered, FitsMap}
use Rattle.mr_geom.specs.Plane.{HoldsPoint, Inside}
use Rattle.mr_geom.specs.Distance.{square, squared_distance, IsLeastDistance, nearest_point, least_squared_distance}
use Rattle.mr_geom.specs.declared.point.Point.{Point}

clamped_left : (low high at : ℤ) → low ≤ℤ int_max low (int_min at high)
clamped_left low high at = omega (arith, ints, clamps)

clamped_right : (low high at : ℤ) → low ≤ℤ high → int_max low (int_min at high) ≤ℤ high
clamped_right low high at h = omega (arith, ints, clamps)

clamped_nearest : (low high at other : ℤ) → low ≤ℤ other → other ≤ℤ high →
    unsigned_abs (at -ℤ int_max low (int_min at high)) ≤ unsigned_abs (at -ℤ other)
clamped_nearest low high at other h k = omega (arith, ints, clamps)

square-≤ : (m n : ℕ) → m ≤ n → square m ≤ square n
square-≤ m n h = grind arith

sum-0 : (m n : ℕ) → m + n ≡ 0 → (m ≡ 0) × (n ≡ 0)
sum-0 m n h = (omega arith, omega arith)

zero-sum : (m n : ℕ) → m ≡ 0 → n ≡ 0 → square m + square n ≡ 0
zero-sum m n h k = rw (h, k) refl

pub HoldsPoint-nearest_point : (r : Rectangle) (p : Point) → IsOrdered r → HoldsPoint r (nearest_point r p)
HoldsPoint-nearest_point r p o = record {
  left = clamped_left r.x0 r.x1 p.x;
  right = clamped_right r.x0 r.x1 p.x o.x;
  low = clamped_left r.y0 r.y1 p.y;
  high = clamped_right r.y0 r.y1 p.y o.y;
}

sum-≤ : (a b c d : ℕ) → a ≤ c → b ≤ d → a + b ≤ c + d
sum-≤ a b c d p q = omega arith

pub nearest : (r : Rectangle) (p q : Point) → HoldsPoint r q → squared_distance p (nearest_point r p) ≤
    squared_distance p q
nearest r p q h =
    let along : square (unsigned_abs (p.x -ℤ (nearest_point r p).x)) ≤ square (unsigned_abs (p.x -ℤ q.x)) =
    square-≤ _ _ (clamped_nearest r.x0 r.x1 p.x q.x h.left h.right) in
    let across : square (unsigned_abs (p.y -ℤ (nearest_point r p).y)) ≤ square (unsigned_abs (p.y -ℤ q.y)) =
    square-≤ _ _ (clamped_nearest r.y0 r.y1 p.y q.y h.low h.high) in
    sum-≤ _ _ _ _ along across

pub IsLeastDistance-least_squared_distance : (r : Rectangle) (p : Point) → IsOrdered r →
    IsLeastDistance r p (least_squared_distance r p)
unfolding least_squared_distance
IsLeastDistance-least_squared_distance r p o = record {
  reached = (nearest_point r p, HoldsPoint-nearest_point r p o, refl);
  least = nearest r p;
}

-- what contains a rectangle is at most as far away
pub least_squared_distance-Inside : (a b : Rectangle) (p : Point) → IsOrdered a → Inside a b →
    least_squared_distance b p ≤ least_squared_distance a p
unfolding least_squared_distance
least_squared_distance-Inside a b p o h =
    nearest b p (nearest_point a p) (h (nearest_point a p) (HoldsPoint-nearest_point a p o))

square-0 : (n : ℕ) → square n ≡ 0 → n ≡ 0
square-0 zero h = refl
square-0 (suc n) h = absurd (omega arith)

clamped_same : (low high at : ℤ) → low ≤ℤ high → unsigned_abs (at -ℤ int_max low (int_min at high)) ≡ 0 →
    (low ≤ℤ at) × (at ≤ℤ high)
clamped_same low high at o h = (omega (arith, ints, clamps), omega (arith, ints, clamps))

clamped_within : (low high at : ℤ) → low ≤ℤ at → at ≤ℤ high → unsigned_abs (at -ℤ int_max low (int_min at high)) ≡ 0
clamped_within low high at h k = omega (arith, ints, clamps)

-- the rectangle holds the points at distance 0, and no others
pub least_squared_distance-0 : (r : Rectangle) (p : Point) → IsOrdered r → (least_squared_distance r p ≡ 0) ↔
    HoldsPoint r p
unfolding least_squared_distance
least_squared_distance-0 r p o = (
  λ none.
      let along : unsigned_abs (p.x -ℤ int_max r.x0 (int_min p.x r.x1)) ≡ 0 = square-0 _ (sum-0 _ _ none).0 in
      let across : unsigned_abs (p.y -ℤ int_max r.y0 (int_min p.y r.y1)) ≡ 0 = square-0 _ (sum-0 _ _ none).1 in
      let x = clamped_same r.x0 r.x1 p.x o.x along in
      let y = clamped_same r.y0 r.y1 p.y o.y across in
      record { left = x.0; right = x.1; low = y.0; high = y.1 },
  λ h. zero-sum _ _ (clamped_within r.x0 r.x1 p.x h.left h.right) (clamped_within r.y0 r.y1 p.y h.low h.high),
)

-- the square sums that the sides and the point give
pub least_squared_distance-parts : (r : Rectangle) (p : Point) (m n : ℕ) →
    m ≡ square (unsigned_abs (p.x -ℤ int_max r.x0 (int_min p.x r.x1))) →
    n ≡ square (unsigned_abs (p.y -ℤ int_max r.y0 (int_min p.y r.y1))) → m + n ≡ least_squared_distance r p
unfolding least_squared_distance
least_squared_distance-parts r p m n h k = cc

clamped_bound : (low high at : ℤ) → FitsSigned w32 low → FitsSigned w32 high → FitsSigned w32 at →
    unsigned_abs (at -ℤ int_max low (int_min at high)) ≤ 2 ^ 32 - 1
clamped_bound low high at p q r = omega (arith, ints, clamps)

square_bound : (m n : ℕ) → m ≤ 2 ^ 32 - 1 → n ≤ 2 ^ 32 - 1 → square m + square n ≤ 2 * ((2 ^ 32 - 1) * (2 ^ 32 - 1))
square_bound m n p q =
    let first : square m ≤ square (2 ^ 32 - 1) = square-≤ m (2 ^ 32 - 1) p in
    let second : square n ≤ square (2 ^ 32 - 1) = square-≤ n (2 ^ 32 - 1) q in
    omega arith

pub least_squared_distance_bound : (r : Rectangle) (p : Point) → FitsMap r → FitsSigned w32 p.x → FitsSigned w32 p.y →
    least_squared_distance r p ≤ 2 * ((2 ^ 32 - 1) * (2 ^ 32 - 1))
unfolding least_squared_distance
least_squared_distance_bound r p f x y =
    square_bound _ _ (clamped_bound r.x0 r.x1 p.x f.x0 f.x1 x) (clamped_bound r.y0 r.y1 p.y f.y0 f.y1 y)
