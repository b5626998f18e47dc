-- What a scan is, for a shape of each kind.
use Rattle.std.proofs.Common.{◌≡◌, ℕ, Bool, true, false, List, [], ◌∷◌, refl, sym, ap, ◌∙◌}
use Rattle.std.specs.Prelude.{filter}
use Rattle.mr_geom.specs.Rectangle.{Rectangle}
use Rattle.mr_geom.specs.declared.point.Point.{Point}
use Rattle.mr_record.specs.declared.record.Record.{Record}
use Rattle.mr_query.specs.declared.query.Shape.TheVariants.{Window, Nearest}
use Rattle.mr_query.specs.Nearest.{nearest}
use Rattle.mr_query.specs.Region.{touches}
use Rattle.mr_query.specs.Scan.{by_number, scan_shape}

pub window_scan : (records : List Record) (w : Rectangle)
    → scan_shape records (Window w) ≡ by_number (filter (λ (r : Record). touches w r.rect) records)
unfolding scan_shape
window_scan records w = refl

pub nearest_scan : (records : List Record) (p : Point) (k : ℕ) → scan_shape records (Nearest p k) ≡ nearest p k records
unfolding scan_shape
nearest_scan records p k = refl

-- ---- what passes a test passes it again

twice_step : (p : Record → Bool) (r : Record) (rs : List Record) (b : Bool) → p r ≡ b
    → filter p (filter p rs) ≡ filter p rs → filter p (filter p (r ∷ rs)) ≡ filter p (r ∷ rs)
twice_step p r rs true e h =
    let one : filter p (r ∷ rs) ≡ r ∷ filter p rs = rw e refl in
    let two : filter p (r ∷ filter p rs) ≡ r ∷ filter p (filter p rs) = rw e refl in
    ap (filter p) one ∙ two ∙ ap (λ (xs : List Record). r ∷ xs) h ∙ sym one
twice_step p r rs false e h = let one : filter p (r ∷ rs) ≡ filter p rs = rw e refl in ap (filter p) one ∙ h ∙ sym one

pub filter_twice : (p : Record → Bool) (rs : List Record) → filter p (filter p rs) ≡ filter p rs
filter_twice p [] = refl
filter_twice p (r ∷ rs) = twice_step p r rs (p r) refl (filter_twice p rs)

-- the records that the window misses do not matter
pub window_scan_reached : (records : List Record) (w : Rectangle)
    → scan_shape (filter (λ (r : Record). touches w r.rect) records) (Window w) ≡ scan_shape records (Window w)
window_scan_reached records w =
    let p = λ (r : Record). touches w r.rect in
    window_scan (filter p records) w ∙ ap by_number (filter_twice p records) ∙ sym (window_scan records w)
