-- A choice for tests: what a window misses is taken whole, and all else is opened.
use Rattle.std.specs.Prelude.{◌≡◌, ◌≢◌, ℕ, refl}
use Rattle.std.proofs.Common.{ap}
use Rattle.mr_geom.specs.Rectangle.{Rectangle}
use Rattle.mr_query.specs.declared.key.Key.{Key}
use Rattle.mr_proof.specs.declared.way.Way.{Way}
use Rattle.mr_proof.specs.declared.way.Way.TheVariants as ways
use Rattle.mr_proof.specs.Tight.{IsNarrow}
use Rattle.mr_count.specs.Inside.{inside_way}
use Rattle.mr_count.specs.private.InsideLaws.{inside_narrow}

abbrev pub beside : Way → Way
beside ways.Skip = ways.Whole
beside ways.Whole = ways.Open
beside ways.Open = ways.Open

abbrev pub beside_way : Rectangle → (layers : ℕ) → Key → Way
beside_way w layers part = beside (inside_way w layers part)

-- ---- for the impl

still : (x y : Way) → (y ≢ ways.Open → x ≡ y) → beside y ≢ ways.Open → beside x ≡ beside y
still x ways.Skip same closed = ap beside (same (λ c. cc))
still x ways.Whole same closed = absurd (closed refl)
still x ways.Open same closed = absurd (closed refl)

pub beside_narrow : (w : Rectangle) (layers : ℕ) → IsNarrow (beside_way w layers)
beside_narrow w layers = λ a b o q f g inside among closed.
    still (inside_way w layers a) (inside_way w layers b)
    (inside_narrow w layers a b o q f g inside among) closed
