-- That the choice of the records which meet some rectangles is lawful. This serves its impl.
use Rattle.std.specs.Prelude.{◌≡◌, ◌≢◌, Bool, true, false, List, [], ◌∷◌, refl}
use Rattle.std.proofs.Common.{sym, ap, ◌∙◌, inl, inr, arith}
use Rattle.std.proofs.lemmas.Bool.{cases_Bool, false≢true}
use Rattle.std.proofs.lemmas.Int.{ints}
use Rattle.mr_geom.specs.Rectangle.{Rectangle}
use Rattle.mr_geom.specs.Plane.{touches}
use Rattle.mr_geom.proofs.Planes.{SidesMeet, SidesInside, SidesInside-Inside, touches-sides, sides-touches}
use Rattle.mr_proof.specs.declared.way.Way.TheVariants as ways
use Rattle.mr_proof.specs.Tight.{IsNarrow, way_if}
use Rattle.mr_join.specs.Meets.{meets_one, meets_way}

-- what a part of a rectangle meets, the rectangle meets
meets_outer : (w a b : Rectangle) → SidesMeet a w → SidesInside a b → SidesMeet b w
meets_outer w a b s t =
    let left = s.left in
    let right = s.right in
    let low = s.low in
    let high = s.high in
    let west = t.left in
    let east = t.right in
    let south = t.low in
    let north = t.high in
    record {
      left = omega (arith, ints);
      right = omega (arith, ints);
      low = omega (arith, ints);
      high = omega (arith, ints);
    }

pub touches_outer : (w a b : Rectangle) → SidesInside a b → touches a w ≡ true → touches b w ≡ true
touches_outer w a b inside t = touches-sides b w (meets_outer w a b (sides-touches a w t) inside)

missed : (w a b : Rectangle) → SidesInside a b → touches b w ≡ false → touches a w ≡ false
missed w a b inside none = elim (cases_Bool (touches a w)) [
  | inl t ↦ absurd (false≢true (sym none ∙ touches_outer w a b inside t))
  | inr f ↦ f
]

-- what lies in a rectangle that meets none meets none
none_met : (list : List Rectangle) (a b : Rectangle) → SidesInside a b → meets_one list b ≡ false
    → meets_one list a ≡ false
none_met [] a b inside none = refl
none_met (w ∷ ws) a b inside none =
    by_test (touches b w) refl (none_met ws a b inside)
  where
    by_test : (t : Bool) → touches b w ≡ t
        → (meets_one ws b ≡ false → meets_one ws a ≡ false) → meets_one (w ∷ ws) a ≡ false
    by_test true e rest =
        let met : true ≡ false = rw e at none in absurd (false≢true (sym met))
    by_test false e rest = rw (missed w a b inside e) (rest (rw e at none))

closed_none : (t : Bool) → way_if t ≢ ways.Open → t ≡ false
closed_none true closed = absurd (closed refl)
closed_none false closed = refl

pub meets_narrow : (list : List Rectangle) → IsNarrow (meets_way list)
meets_narrow list = λ a b o q f g inside among closed.
    let none = closed_none (meets_one list b.rect) closed in
    ap way_if
    (none_met list a.rect b.rect (SidesInside-Inside a.rect b.rect o inside) none ∙ sym none)
