-- That the choice of the records inside a window is lawful. This serves its impl.
use Rattle.std.specs.Prelude.{◌≡◌, ◌≢◌, ℕ, ◌^◌, ◌≤◌, Bool, true, false, not, ◌&&◌, int_le, if◌then◌else◌, bit_and, bit_or, refl}
use Rattle.std.proofs.Common.{sym, ap, ◌∙◌, ◌/◌, ◌%◌, inl, inr, arith, IsTrue, ◌↔◌}
use Rattle.std.proofs.lemmas.Bool.{cases_Bool, false≢true, and_parts, eqb-true, eq-eqb, ne_eqb}
use Rattle.std.proofs.lemmas.Float.{T_from_true}
use Rattle.std.proofs.lemmas.Int.{ints}
use Rattle.std.proofs.lemmas.Nat.Bits.{bit_at_or, bit_at_and, same_from_bits}
use Rattle.mr_geom.specs.Rectangle.{Rectangle, IsOrdered}
use Rattle.mr_geom.specs.Plane.{touches, Inside}
use Rattle.mr_geom.proofs.Rectangles.{true_from_T}
use Rattle.mr_geom.proofs.Planes.{SidesMeet, SidesInside, SidesInside-Inside, Inside-SidesInside, touches-sides, sides-touches}
use Rattle.mr_query.specs.Layers.{share_layer}
use Rattle.mr_query.proofs.Masks.{shares_less}
use Rattle.mr_proof.specs.declared.way.Way.{Way}
use Rattle.mr_proof.specs.declared.way.Way.TheVariants as ways
use Rattle.mr_proof.specs.Tight.{IsNarrow}
use Rattle.mr_count.specs.Inside.{lies_in, has_only, inside_way}

-- ---- sides

meets_outer : (w a b : Rectangle) → SidesMeet w a → SidesInside a b → SidesMeet w b
meets_outer w a b s t =
    let left = s.left in
    let right = s.right in
    let low = s.low in
    let high = s.high in
    let west = t.left in
    let east = t.right in
    let south = t.low in
    let north = t.high in
    record {
      left = omega (arith, ints);
      right = omega (arith, ints);
      low = omega (arith, ints);
      high = omega (arith, ints);
    }

both_inside : (a b w : Rectangle) → SidesInside a b → SidesInside b w → SidesInside a w
both_inside a b w s t =
    let left = s.left in
    let right = s.right in
    let low = s.low in
    let high = s.high in
    let west = t.left in
    let east = t.right in
    let south = t.low in
    let north = t.high in
    record {
      left = omega (arith, ints);
      right = omega (arith, ints);
      low = omega (arith, ints);
      high = omega (arith, ints);
    }

-- what lies in a window meets it
inside_meets : (a w : Rectangle) → IsOrdered a → SidesInside a w → SidesMeet w a
inside_meets a w o s =
    let across = o.x in
    let along = o.y in
    let left = s.left in
    let right = s.right in
    let low = s.low in
    let high = s.high in
    record {
      left = omega (arith, ints);
      right = omega (arith, ints);
      low = omega (arith, ints);
      high = omega (arith, ints);
    }

sides_lie : (a w : Rectangle) → SidesInside a w → lies_in a w ≡ true
sides_lie a w s =
    rw (
      true_from_T (int_le w.x0 a.x0) s.left.le,
      true_from_T (int_le a.x1 w.x1) s.right.le,
      true_from_T (int_le w.y0 a.y0) s.low.le,
      true_from_T (int_le a.y1 w.y1) s.high.le,
    ) refl

lie_sides : (a w : Rectangle) → lies_in a w ≡ true → SidesInside a w
lie_sides a w t =
    let x0 = and_parts (int_le w.x0 a.x0)
    (int_le a.x1 w.x1 && (int_le w.y0 a.y0 && int_le a.y1 w.y1)) t in
    let x1 = and_parts (int_le a.x1 w.x1) (int_le w.y0 a.y0 && int_le a.y1 w.y1) x0.1 in
    let y = and_parts (int_le w.y0 a.y0) (int_le a.y1 w.y1) x1.1 in
    record {
      left = record { le = T_from_true (int_le w.x0 a.x0) x0.0 };
      right = record { le = T_from_true (int_le a.x1 w.x1) x1.0 };
      low = record { le = T_from_true (int_le w.y0 a.y0) y.0 };
      high = record { le = T_from_true (int_le a.y1 w.y1) y.1 };
    }

-- lying in a window is lying in it point by point
pub lies_inside : (a w : Rectangle) → IsOrdered a → (lies_in a w ≡ true) ↔ Inside a w
lies_inside a w o = (
  λ t. Inside-SidesInside a w (lie_sides a w t),
  λ inside. sides_lie a w (SidesInside-Inside a w o inside),
)

-- so a test of that is the test on the sides
pub lies_is : (a w : Rectangle) (t : Bool) → IsOrdered a → (IsTrue t ↔ Inside a w) → t ≡ lies_in a w
lies_is a w true o e = sym ((lies_inside a w o).1 (e.0 refl))
lies_is a w false o e = elim (cases_Bool (lies_in a w)) [
  | inl t ↦ absurd (false≢true (e.1 ((lies_inside a w o).0 t)))
  | inr f ↦ sym f
]

pub lies_touches : (a w : Rectangle) → IsOrdered a → lies_in a w ≡ true → touches w a ≡ true
lies_touches a w o t = touches-sides w a (inside_meets a w o (lie_sides a w t))

-- ---- layers

-- layers among a mask all of whose layers are among others
only_less : (a b m : ℕ) → bit_or a b ≡ b → has_only b m ≡ true → has_only a m ≡ true
only_less a b m among only =
    let whole : bit_or b m ≡ m = eqb-true (bit_or b m) m only in
    eq-eqb (bit_or a m) m (same_from_bits (bit_or a m) m (λ i. omega (
      arith,
      bit_at_or a m i,
      bit_at_or b m i,
      bit_at_or a b i,
      ap (λ (n : ℕ). n / 2 ^ i % 2) whole,
      ap (λ (n : ℕ). n / 2 ^ i % 2) among,
    )))

-- some layers that are all among others share one with those
pub only_shares : (a m : ℕ) → 1 ≤ a → has_only a m ≡ true → share_layer a m ≡ true
only_shares a m some only =
    let whole : bit_or a m ≡ m = eqb-true (bit_or a m) m only in
    let own : bit_and a m ≡ a = same_from_bits (bit_and a m) a (λ i. omega (
      arith,
      bit_at_and a m i,
      bit_at_or a m i,
      ap (λ (n : ℕ). n / 2 ^ i % 2) whole,
    )) in
    ap not (ne_eqb (bit_and a m) 0 (λ none. let zero : a ≡ 0 = sym own ∙ none in omega arith))

-- ---- the law

abbrev pub way_by : Bool → Bool → Way
way_by met inside = if met then if inside then ways.Whole else ways.Open else ways.Skip

narrow_by : (ma ia mb ib : Bool) → (ma ≡ true → mb ≡ true) → (ib ≡ true → ia ≡ true)
    → (ia ≡ true → ma ≡ true)
    → way_by mb ib ≢ ways.Open → way_by ma ia ≡ way_by mb ib
narrow_by ma ia true false up down here closed = absurd (closed refl)
narrow_by true true true true up down here closed = refl
narrow_by true false true true up down here closed = absurd (false≢true (down refl))
narrow_by false true true true up down here closed = absurd (false≢true (here refl))
narrow_by false false true true up down here closed = absurd (false≢true (down refl))
narrow_by true ia false ib up down here closed = absurd (false≢true (up refl))
narrow_by false ia false ib up down here closed = refl

both_true : (p q : Bool) → p ≡ true → q ≡ true → (p && q) ≡ true
both_true p q e f = rw (e, f) refl

shares_more : (a b m : ℕ) → bit_or a b ≡ b → share_layer a m ≡ true → share_layer b m ≡ true
shares_more a b m among shared = elim (cases_Bool (share_layer b m)) [
  | inl t ↦ t
  | inr f ↦ absurd (false≢true (sym (shares_less a b m among f) ∙ shared))
]

pub inside_narrow : (w : Rectangle) (layers : ℕ) → IsNarrow (inside_way w layers)
inside_narrow w layers = λ a b o n f g inside among closed.
    let s = SidesInside-Inside a.rect b.rect o inside in
    narrow_by (touches w a.rect && share_layer a.mask layers)
    (lies_in a.rect w && has_only a.mask layers)
    (touches w b.rect && share_layer b.mask layers) (lies_in b.rect w && has_only b.mask layers)
    (λ t.
    let both = and_parts (touches w a.rect) (share_layer a.mask layers) t in
    both_true (touches w b.rect) (share_layer b.mask layers)
    (touches-sides w b.rect (meets_outer w a.rect b.rect (sides-touches w a.rect both.0) s))
    (shares_more a.mask b.mask layers among.among both.1))
    (λ t.
    let both = and_parts (lies_in b.rect w) (has_only b.mask layers) t in
    both_true (lies_in a.rect w) (has_only a.mask layers)
    (sides_lie a.rect w (both_inside a.rect b.rect w s (lie_sides b.rect w both.0)))
    (only_less a.mask b.mask layers among.among both.1))
    (λ t.
    let both = and_parts (lies_in a.rect w) (has_only a.mask layers) t in
    both_true (touches w a.rect) (share_layer a.mask layers) (lies_touches a.rect w o both.0)
    (only_shares a.mask layers among.one both.1))
    closed
