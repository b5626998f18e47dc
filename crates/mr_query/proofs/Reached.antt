-- What the layers and the region that a query asks for leave of some records.
use Rattle.std.proofs.Common.{◌≡◌, ℕ, ◌≤◌, Bool, true, false, ◌&&◌, List, [], ◌∷◌, Option, refl, sym, ap, ◌∙◌}
use Rattle.std.specs.Prelude.{filter}
use Rattle.mr_geom.specs.Rectangle.{Rectangle}
use Rattle.mr_geom.specs.declared.point.Point.{Point}
use Rattle.mr_record.specs.declared.record.Record.{Record}
use Rattle.mr_query.specs.declared.query.Query.{Query}
use Rattle.mr_query.specs.declared.query.Shape.TheVariants.{Window, Nearest}
use Rattle.mr_query.specs.Layers.{layers_named, asked_layers, is_on}
use Rattle.mr_query.specs.Nearest.{distances, kth_least, is_within}
use Rattle.mr_query.specs.Region.{touches, meets_region, record_key, reaches}
use Rattle.mr_query.specs.Scan.{by_number, on_layers, scan_shape, scan}
use Rattle.mr_query.specs.Word.{asks}
use Rattle.mr_query.proofs.Nearest.{SameNearest, same_nearest}
use Rattle.mr_query.proofs.Scans.{filter_twice, window_scan, window_scan_reached, nearest_scan}

-- ---- records on some layers

pub on_layers_twice : (m : ℕ) (rs : List Record) → on_layers m (on_layers m rs) ≡ on_layers m rs
on_layers_twice m rs = filter_twice (is_on m) rs

-- two tests one after the other
both_step : (p o : Record → Bool) (r : Record) (rs : List Record) (a b : Bool) → p r ≡ a → o r ≡ b
    → filter (λ (r : Record). p r && o r) rs ≡ filter p (filter o rs)
    → filter (λ (r : Record). p r && o r) (r ∷ rs) ≡ filter p (filter o (r ∷ rs))
both_step p o r rs true true ep eo h = rw (ep, eo) (rw ep (ap (λ (xs : List Record). r ∷ xs) h))
both_step p o r rs true false ep eo h = rw (ep, eo) h
both_step p o r rs false true ep eo h = rw (ep, eo) (rw ep h)
both_step p o r rs false false ep eo h = rw (ep, eo) h

pub filter_both : (p o : Record → Bool) (rs : List Record)
    → filter (λ (r : Record). p r && o r) rs ≡ filter p (filter o rs)
filter_both p o [] = refl
filter_both p o (r ∷ rs) = both_step p o r rs (p r) (o r) refl refl (filter_both p o rs)

swapped_step : (p o : Record → Bool) (r : Record) (rs : List Record) (a b : Bool) → p r ≡ a → o r ≡ b
    → filter o (filter p rs) ≡ filter p (filter o rs)
    → filter o (filter p (r ∷ rs)) ≡ filter p (filter o (r ∷ rs))
swapped_step p o r rs true true ep eo h =
    rw (ep, eo) (rw ep (ap (λ (xs : List Record). r ∷ xs) h))
swapped_step p o r rs true false ep eo h = rw (ep, eo) h
swapped_step p o r rs false true ep eo h = rw (ep, eo) (rw ep h)
swapped_step p o r rs false false ep eo h = rw (ep, eo) h

filter_swapped : (p o : Record → Bool) (rs : List Record) → filter o (filter p rs) ≡ filter p (filter o rs)
filter_swapped p o [] = refl
filter_swapped p o (r ∷ rs) = swapped_step p o r rs (p r) (o r) refl refl (filter_swapped p o rs)

-- what passes both tests is, of what passes the second, what passes the first
pub filter_second : (p o : Record → Bool) (rs : List Record)
    → filter o (filter (λ (r : Record). p r && o r) rs) ≡ filter p (filter o rs)
filter_second p o rs =
    ap (filter o) (filter_both p o rs) ∙ filter_swapped p o (filter o rs) ∙ ap (filter p) (filter_twice o rs)

-- ---- records near a point on some layers

-- within a squared radius, or anywhere where there is none, and on the layers
abbrev pub is_near_on : Point → Option ℕ → ℕ → Record → Bool
is_near_on p radius layers r = is_within p radius r.rect && is_on layers r

pub near_on : (p : Point) (radius : Option ℕ) (layers : ℕ) (rs : List Record)
    → on_layers layers (filter (is_near_on p radius layers) rs)
    ≡ filter (λ (r : Record). is_within p radius r.rect) (on_layers layers rs)
near_on p radius layers rs = filter_second (λ (r : Record). is_within p radius r.rect) (is_on layers) rs

-- lists with the same records on the layers within the radius of the first have there one radius and the same nearest
-- records
pub same_nearest_on : (p : Point) (k layers : ℕ) (radius : Option ℕ) (rs ss : List Record) → 1 ≤ k
    → radius ≡ kth_least k (distances p (on_layers layers rs))
    → filter (is_near_on p radius layers) rs ≡ filter (is_near_on p radius layers) ss
    → SameNearest p k (on_layers layers rs) (on_layers layers ss)
same_nearest_on p k layers radius rs ss some is e =
    let near = λ (r : Record). is_within p radius r.rect in
    same_nearest p k radius (on_layers layers rs) (on_layers layers ss) some is
    (sym (filter_both near (is_on layers) rs) ∙ e ∙ filter_both near (is_on layers) ss)

-- ---- records in reach

-- the records of some that are in reach of a query
abbrev pub reached_of : Query → Option ℕ → List Record → List Record
reached_of q radius rs = filter (λ (r : Record). reaches q radius (record_key r)) rs

-- are those on the layers that the region meets
pub reached_is : (q : Query) (radius : Option ℕ) (rs : List Record)
    → reached_of q radius rs
    ≡ filter (λ (r : Record). meets_region q.shape radius r.rect) (on_layers (asked_layers q) rs)
reached_is q radius rs = filter_both (λ (r : Record). meets_region q.shape radius r.rect) (is_on (asked_layers q)) rs

-- those on the layers, of the records in reach, are all of them
pub reached_on : (q : Query) (radius : Option ℕ) (rs : List Record)
    → on_layers (asked_layers q) (reached_of q radius rs) ≡ reached_of q radius rs
reached_on q radius rs =
    filter_second (λ (r : Record). meets_region q.shape radius r.rect) (is_on (asked_layers q)) rs
    ∙ sym (reached_is q radius rs)

pub window_reached : (w : Rectangle) (mask radius : Option ℕ) (rs : List Record)
    → reached_of (asks (Window w) mask) radius rs
    ≡ filter (λ (r : Record). touches w r.rect) (on_layers (layers_named mask) rs)
unfolding meets_region
window_reached w mask radius rs = reached_is (asks (Window w) mask) radius rs

pub nearest_reached : (p : Point) (k : ℕ) (mask radius : Option ℕ) (rs : List Record)
    → reached_of (asks (Nearest p k) mask) radius rs
    ≡ filter (λ (r : Record). is_within p radius r.rect) (on_layers (layers_named mask) rs)
unfolding meets_region
nearest_reached p k mask radius rs = reached_is (asks (Nearest p k) mask) radius rs

-- the records out of reach do not matter to a window
pub window_scan_asked : (w : Rectangle) (mask radius : Option ℕ) (rs : List Record)
    → scan (reached_of (asks (Window w) mask) radius rs) (asks (Window w) mask) ≡ scan rs (asks (Window w) mask)
window_scan_asked w mask radius rs =
    let q = asks (Window w) mask in
    ap (λ xs. scan_shape xs (Window w)) (reached_on q radius rs ∙ window_reached w mask radius rs)
    ∙ window_scan_reached (on_layers (layers_named mask) rs) w

-- and lists with the same records in reach have one answer
pub window_same_asked : (w : Rectangle) (mask radius : Option ℕ) (rs ss : List Record)
    → reached_of (asks (Window w) mask) radius rs ≡ reached_of (asks (Window w) mask) radius ss
    → scan rs (asks (Window w) mask) ≡ scan ss (asks (Window w) mask)
window_same_asked w mask radius rs ss e =
    let layers = layers_named mask in
    window_scan (on_layers layers rs) w
    ∙ ap by_number (sym (window_reached w mask radius rs) ∙ e ∙ window_reached w mask radius ss)
    ∙ sym (window_scan (on_layers layers ss) w)

-- lists with the same records in reach of the radius of the first, among those that are on the layers, have there one
-- radius and one answer
pub nearest_asked : (p : Point) (k : ℕ) (mask radius : Option ℕ) (rs ss : List Record) → 1 ≤ k
    → radius ≡ kth_least k (distances p (on_layers (layers_named mask) rs))
    → reached_of (asks (Nearest p k) mask) radius rs ≡ reached_of (asks (Nearest p k) mask) radius ss
    → SameNearest p k (on_layers (layers_named mask) rs) (on_layers (layers_named mask) ss)
unfolding meets_region
nearest_asked p k mask radius rs ss some is e = same_nearest_on p k (layers_named mask) radius rs ss some is e

pub nearest_same_asked : (p : Point) (k : ℕ) (mask radius : Option ℕ) (rs ss : List Record) → 1 ≤ k
    → radius ≡ kth_least k (distances p (on_layers (layers_named mask) rs))
    → reached_of (asks (Nearest p k) mask) radius rs ≡ reached_of (asks (Nearest p k) mask) radius ss
    → scan rs (asks (Nearest p k) mask) ≡ scan ss (asks (Nearest p k) mask)
nearest_same_asked p k mask radius rs ss some is e =
    let layers = layers_named mask in
    nearest_scan (on_layers layers rs) p k ∙ (nearest_asked p k mask radius rs ss some is e).answer
    ∙ sym (nearest_scan (on_layers layers ss) p k)

-- the records out of reach of that radius do not matter to the nearest
pub nearest_scan_asked : (p : Point) (k : ℕ) (mask radius : Option ℕ) (rs : List Record) → 1 ≤ k
    → radius ≡ kth_least k (distances p (on_layers (layers_named mask) rs))
    → scan (reached_of (asks (Nearest p k) mask) radius rs) (asks (Nearest p k) mask)
    ≡ scan rs (asks (Nearest p k) mask)
nearest_scan_asked p k mask radius rs some is =
    let test = λ (r : Record). reaches (asks (Nearest p k) mask) radius (record_key r) in
    sym (nearest_same_asked p k mask radius rs (filter test rs) some is (sym (filter_twice test rs)))
