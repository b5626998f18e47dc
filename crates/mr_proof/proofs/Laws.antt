-- What is owed by what is asked: its ways and its radius hang together, and the rule on the radius is broken just
-- where the radius is another than that of the records. And what queries owe besides: their answers.
use Rattle.std.proofs.Common.{◌≡◌, ◌≢◌, ℕ, ◌+◌, ◌<◌, ◌≤◌, Bool, true, false, leb, ltb, ◌||◌, List, [], ◌∷◌, length, Option, Some, None, refl, sym, ap, subst, ◌∙◌, inl, inr, arith}
use Rattle.std.specs.Prelude.{filter, IfSome, All, not, ◌&&◌, ◌==◌}
use Rattle.std.specs.List.{AllByRecursion}
use Rattle.std.proofs.lemmas.Bool.{false≢true, cases_Bool, and_parts, eqb-true, eq-eqb, leb-true, leb-false, ltb-false, le-leb, lt-leb, le-ltb}
use Rattle.std.proofs.lemmas.Int.{ints}
use Rattle.std.proofs.lemmas.List.Elements.{recursion_from_All}
use Rattle.mr_geom.specs.Rectangle.{Rectangle, IsOrdered}
use Rattle.mr_geom.specs.Plane.{Inside}
use Rattle.mr_geom.specs.Distance.{least_squared_distance}
use Rattle.mr_geom.specs.declared.point.Point.{Point}
use Rattle.mr_geom.proofs.Distances.{least_squared_distance_bound, least_squared_distance-Inside}
use Rattle.mr_geom.proofs.Planes.{SidesMeet, SidesInside, SidesInside-Inside, touches-sides, sides-touches}
use Rattle.mr_record.specs.Record.{IsRecord}
use Rattle.mr_record.specs.declared.record.Record.{Record}
use Rattle.mr_record.specs.declared.version.Version.{Version}
use Rattle.mr_record.specs.declared.version.Version.TheVariants.{One, Two}
use Rattle.mr_record.specs.Version.{told}
use Rattle.mr_query.specs.Layers.{layers_named, share_layer, is_on}
use Rattle.mr_query.specs.Nearest.{distance, distances, kth_least, is_within, nearer_than, not_farther_than}
use Rattle.mr_query.specs.private.Radius.{IsRadius}
use Rattle.mr_query.specs.Region.{touches, meets_region, record_key, reaches}
use Rattle.mr_query.specs.Scan.{by_number, on_layers, scan}
use Rattle.mr_query.specs.Word.{FitsPoint, asks, IsShape, IsQuery}
use Rattle.mr_query.specs.declared.key.Key.{Key}
use Rattle.mr_query.specs.declared.query.Query.{Query}
use Rattle.mr_query.specs.declared.query.Shape.{Shape}
use Rattle.mr_query.specs.declared.query.Shape.TheVariants.{Window, Nearest}
use Rattle.mr_query.proofs.Counts.{below-all, below-length, below-rises}
use Rattle.mr_query.proofs.Kth.{kth_is_radius}
use Rattle.mr_query.proofs.Masks.{shares_less}
use Rattle.mr_query.proofs.Nearest.{all_pass, no_radius, few_without, radius_by_counts, counts_of_radius, nearer_near, not_farther_near}
use Rattle.mr_query.proofs.Reached.{reached_of, reached_on, window_reached, nearest_reached, window_scan_asked, nearest_asked, nearest_scan_asked}
use Rattle.mr_query.proofs.Scans.{window_scan, nearest_scan}
use Rattle.mr_proof.specs.declared.question.Around.{Around}
use Rattle.mr_proof.specs.declared.head.Kind.{Kind}
use Rattle.mr_proof.specs.declared.head.Kind.TheVariants as kind
use Rattle.mr_proof.specs.declared.head.Head.{Head}
use Rattle.mr_proof.specs.Limits.{radius_limit}
use Rattle.mr_proof.specs.Cut.{Cut, count}
use Rattle.mr_proof.specs.Spelling.{FitsProofHead, FitsRadius, FitsVersion}
use Rattle.mr_proof.specs.declared.way.Way.{Way}
use Rattle.mr_proof.specs.declared.way.Way.TheVariants as ways
use Rattle.mr_proof.specs.Tight.{is_open, is_kept, way_if, opens_at, keeps_record, Question, MayCome, needs_two, AreAmong, radius_by, FitsAround, IsCircle, IsLawful, around_of, question}
use Rattle.mr_proof.specs.Refused.{is_other_radius, has_other_radius, is_other_count}

-- ---- ways by a test

pub open_if : (b : Bool) → is_open (way_if b) ≡ b
open_if true = refl
open_if false = refl

pub kept_if : (b : Bool) → is_kept (way_if b) ≡ b
kept_if true = refl
kept_if false = refl

-- where what lies in a part passes only if the part does
narrow_if : (p q : Bool) → (p ≡ true → q ≡ true) → way_if q ≢ ways.Open → way_if p ≡ way_if q
narrow_if p true up closed = absurd (closed refl)
narrow_if true false up closed = absurd (false≢true (up refl))
narrow_if false false up closed = refl

inside_meets : (w a b : Rectangle) → SidesMeet w a → SidesInside a b → SidesMeet w b
inside_meets w a b s t =
    let left = s.left in
    let right = s.right in
    let low = s.low in
    let high = s.high in
    let west = t.left in
    let east = t.right in
    let south = t.low in
    let north = t.high in
    record {
      left = omega (arith, ints);
      right = omega (arith, ints);
      low = omega (arith, ints);
      high = omega (arith, ints);
    }

window_narrow : (w a b : Rectangle) → IsOrdered a → Inside a b → touches w a ≡ true → touches w b ≡ true
window_narrow w a b o inside met =
    touches-sides w b (inside_meets w a b (sides-touches w a met) (SidesInside-Inside a b o inside))

circle_narrow : (p : Point) (radius : Option ℕ) (a b : Rectangle) → IsOrdered a → Inside a b
    → is_within p radius a ≡ true → is_within p radius b ≡ true
circle_narrow p None a b o inside met = refl
circle_narrow p (Some n) a b o inside met =
    let near : least_squared_distance a p ≤ n = leb-true (least_squared_distance a p) n met in
    let nearer : least_squared_distance b p ≤ least_squared_distance a p =
    least_squared_distance-Inside a b p o inside in
    le-leb (least_squared_distance b p) n (omega arith)

-- what shares a layer with some of a mask shares it with all
layers_narrow : (m a b : ℕ) → AreAmong a b → share_layer a m ≡ true → share_layer b m ≡ true
layers_narrow m a b some met = elim (cases_Bool (share_layer b m)) [
  | inl t ↦ t
  | inr f ↦ absurd (false≢true (sym (shares_less a b m some.among f) ∙ met))
]

both_narrow : (p q s t : Bool) → (p ≡ true → q ≡ true) → (s ≡ true → t ≡ true) → (p && s) ≡ true
    → (q && t) ≡ true
both_narrow p q s t first second e = let both = and_parts p s e in rw (first both.0, second both.1) refl

-- ---- what a query asks is lawful

lawful_by : (shape : Shape) (named : Option ℕ) → IsShape shape → IsLawful (question (asks shape named))
unfolding meets_region
lawful_by (Window w) named is = record {
  letter = tt;
  two_only = λ e. absurd (false≢true e);
  around = refl;
  circle = tt;
  narrow = λ radius a b o n f g inside some closed.
      let m = layers_named named in
      narrow_if (touches w a.rect && share_layer a.mask m) (touches w b.rect && share_layer b.mask m)
      (both_narrow (touches w a.rect) (touches w b.rect) (share_layer a.mask m) (share_layer b.mask m)
      (window_narrow w a.rect b.rect o inside) (layers_narrow m a.mask b.mask some)) closed;
}
lawful_by (Nearest p k) named is = record {
  letter = tt;
  two_only = λ e. absurd (false≢true e);
  around = (is.0, is.1.0);
  circle = λ radius part. refl;
  narrow = λ radius a b o n f g inside some closed.
      let m = layers_named named in
      narrow_if (is_within p radius a.rect && share_layer a.mask m) (is_within p radius b.rect && share_layer b.mask m)
      (both_narrow (is_within p radius a.rect) (is_within p radius b.rect) (share_layer a.mask m)
      (share_layer b.mask m) (circle_narrow p radius a.rect b.rect o inside) (layers_narrow m a.mask b.mask some))
      closed;
}

pub is_lawful : (q : Query) → IsQuery q → IsLawful (question q)
is_lawful q is = lawful_by q.shape q.mask is.shape

-- ---- the version that may come

-- where a proof of the first version may come, one of either may
pub either_comes : (a : Question) (v : Version) → MayCome a v → v ≡ One → a.two_only ≡ false
either_comes a One may e = may
either_comes a Two may e = absurd cc

-- and back
pub may_come : (a : Question) (v : Version) → (v ≡ One → a.two_only ≡ false) → MayCome a v
may_come a One only = only refl
may_come a Two only = tt

-- where only the second version comes for a kind that needs it, what comes is of one that the kind has
pub fits_version : (k : Kind) (two_only : Bool) (v : Version) → (needs_two k ≡ true → two_only ≡ true)
    → (v ≡ One → two_only ≡ false) → FitsVersion k v
fits_version kind.W two_only v needs may = tt
fits_version kind.K two_only v needs may = tt
fits_version (kind.Choice letter) two_only One needs may = absurd (false≢true (sym (may refl) ∙ needs refl))
fits_version (kind.Choice letter) two_only Two needs may = refl

-- ---- the number of records

pub count_stands : (h : Head) (P : Option Cut) → IfSome P (λ P. count h.version P ≡ told h.version h.count)
    → is_other_count h P ≡ false
count_stands h None e = refl
count_stands h (Some P) e = ap not (eq-eqb (count h.version P) (told h.version h.count) e)

pub count_right : (h : Head) (P : Option Cut) → is_other_count h P ≡ false
    → IfSome P (λ P. count h.version P ≡ told h.version h.count)
count_right h None e = tt
count_right h (Some P) e =
    eqb-true (count h.version P) (told h.version h.count) (not_false (count h.version P == told h.version h.count) e)
  where
    not_false : (b : Bool) → not b ≡ false → b ≡ true
    not_false true e = refl
    not_false false e = absurd (false≢true (sym e))

-- ---- equal opened records have one radius

-- the query for those near a point that are on the layers
abbrev near_query : Around → Query
near_query x = asks (Nearest x.center x.k) (Some x.layers)

abbrev is_near : Around → Option ℕ → Record → Bool
is_near x radius r = reaches (near_query x) radius (record_key r)

opened_near : (x : Around) (way : Option ℕ → Key → Way) → IsCircle (Some x) way → (radius : Option ℕ)
    → ◌≡◌ {A = Record → Bool} (λ (r : Record). opens_at (way radius) (record_key r)) (is_near x radius)
unfolding meets_region
opened_near x way law radius = λ i r. (
    ap is_open (law radius (record_key r)) ∙ open_if (is_within x.center radius r.rect && is_on x.layers r)
    ) i

kept_near : (x : Around) (way : Option ℕ → Key → Way) → IsCircle (Some x) way → (radius : Option ℕ)
    → ◌≡◌ {A = Record → Bool} (keeps_record (way radius)) (is_near x radius)
unfolding meets_region
kept_near x way law radius = λ i r. (
    ap is_kept (law radius (record_key r)) ∙ kept_if (is_within x.center radius r.rect && is_on x.layers r)
    ) i

-- a kind that has a radius has a number of records
some_near : (k : Kind) (x : Around) → FitsAround k (Some x) → FitsPoint x.center × (1 ≤ x.k)
some_near kind.W x fits = absurd cc
some_near kind.K x fits = fits
some_near (kind.Choice letter) x fits = absurd cc

same_by : (k : Kind) (x : Option Around) (way : Option ℕ → Key → Way) → FitsAround k x → IsCircle x way
    → (rs ss : List Record)
    → filter (λ (r : Record). opens_at (way (radius_by x rs)) (record_key r)) rs
    ≡ filter (λ (r : Record). opens_at (way (radius_by x rs)) (record_key r)) ss → radius_by x rs ≡ radius_by x ss
same_by k None way fits law rs ss e = refl
same_by k (Some x) way fits law rs ss e =
    let near = opened_near x way law (radius_by (Some x) rs) in
    (nearest_asked x.center x.k (Some x.layers) (radius_by (Some x) rs) rs ss (some_near k x fits).1 refl
    (ap (λ (test : Record → Bool). filter test rs) (sym near) ∙ e ∙ ap (λ (test : Record → Bool). filter test ss)
    near)).radius

pub same_radius : (a : Question) → IsLawful a → (rs ss : List Record)
    → filter (λ (r : Record). opens_at (a.way (radius_by a.around rs)) (record_key r)) rs
    ≡ filter (λ (r : Record). opens_at (a.way (radius_by a.around rs)) (record_key r)) ss
    → radius_by a.around rs ≡ radius_by a.around ss
same_radius a law = same_by a.kind a.around a.way law.around law.circle

-- ---- the rule on the radius

neither : (a b : Bool) → (a || b) ≡ false → (a ≡ false) × (b ≡ false)
neither true b e = absurd cc
neither false b e = (refl, e)

both_false : (a b : Bool) → a ≡ false → b ≡ false → (a || b) ≡ false
both_false a b e f = λ i. e i || f i

by_counts : (x : Around) (r : Option ℕ) (rs : List Record) → 1 ≤ x.k
    → is_other_radius x r rs ≡ false → r ≡ kth_least x.k (distances x.center rs)
by_counts x None rs some right = no_radius x.center x.k rs some (leb-false x.k (length rs) right)
by_counts x (Some n) rs some right =
    let p = x.center in
    let k = x.k in
    let both = neither (leb k (nearer_than p n rs)) (ltb (not_farther_than p n rs) k) right in
    radius_by_counts p k n rs some (leb-false k (nearer_than p n rs) both.0)
    (ltb-false (not_farther_than p n rs) k both.1)

right_by : (k : Kind) (x : Option Around) (r : Option ℕ) (rs : List Record) → FitsAround k x → FitsRadius k r
    → has_other_radius x r rs ≡ false → r ≡ radius_by x rs
right_by kind.W None r rs law fits right = fits
right_by kind.W (Some x) r rs law fits right = absurd cc
right_by kind.K None r rs law fits right = absurd law
right_by kind.K (Some x) r rs law fits right = by_counts x r (on_layers x.layers rs) law.1 right
right_by (kind.Choice letter) None r rs law fits right = fits
right_by (kind.Choice letter) (Some x) r rs law fits right = absurd cc

-- a head of the right kind that does not break the rule on the radius has that of the records
pub right_radius : (a : Question) (h : Head) (rs : List Record) → IsLawful a → h.kind ≡ a.kind → FitsProofHead h
    → has_other_radius a.around h.radius rs ≡ false → h.radius ≡ radius_by a.around rs
right_radius a h rs law k fits right =
    right_by a.kind a.around h.radius rs law.around (subst (λ (k : Kind). FitsRadius k h.radius) k fits.radius) right

near_stands : (x : Around) (r : Option ℕ) (rs : List Record) → 1 ≤ x.k → r ≡ kth_least x.k (distances x.center rs)
    → is_other_radius x r rs ≡ false
near_stands x None rs some e = lt-leb x.k (length rs) (few_without x.center x.k rs some e)
near_stands x (Some n) rs some e =
    let p = x.center in
    let k = x.k in
    let c = counts_of_radius p k n rs some e in
    both_false (leb k (nearer_than p n rs)) (ltb (not_farther_than p n rs) k) (lt-leb k (nearer_than p n rs) c.0)
    (le-ltb (not_farther_than p n rs) k c.1)

stands_by : (k : Kind) (x : Option Around) (r : Option ℕ) (rs : List Record) → FitsAround k x → r ≡ radius_by x rs
    → has_other_radius x r rs ≡ false
stands_by k None r rs law e = refl
stands_by k (Some x) r rs law e = near_stands x r (on_layers x.layers rs) (some_near k x law).1 e

-- the radius of the records breaks no rule
pub radius_stands : (a : Question) (r : Option ℕ) (rs : List Record) → IsLawful a → r ≡ radius_by a.around rs
    → has_other_radius a.around r rs ≡ false
radius_stands a r rs law e = stands_by a.kind a.around r rs law.around e

-- ---- what is left out matters neither for the rule nor for the answer

-- whether the record is handed out
abbrev pub asked : Question → Option ℕ → Record → Bool
asked a radius r = keeps_record (a.way radius) r

-- those near the point, of the records on the layers
near_on : (x : Around) (radius : Option ℕ) (rs : List Record)
    → on_layers x.layers (filter (is_near x radius) rs)
    ≡ filter (λ (r : Record). is_within x.center radius r.rect) (on_layers x.layers rs)
near_on x radius rs =
    reached_on (near_query x) radius rs ∙ nearest_reached x.center x.k (Some x.layers) radius rs

within_same : (x : Around) (radius : Option ℕ) (rs : List Record)
    → is_other_radius x radius (filter (λ (r : Record). is_within x.center radius r.rect) rs)
    ≡ is_other_radius x radius rs
within_same x None rs = ap (λ (ts : List Record). leb x.k (length ts)) (all_pass rs)
within_same x (Some n) rs =
    λ i. leb x.k (nearer_near x.center n rs i) || ltb (not_farther_near x.center n rs i) x.k

other_near : (x : Around) (radius : Option ℕ) (rs : List Record)
    → has_other_radius (Some x) radius (filter (is_near x radius) rs) ≡ has_other_radius (Some x) radius rs
other_near x radius rs =
    ap (is_other_radius x radius) (near_on x radius rs) ∙ within_same x radius (on_layers x.layers rs)

other_by : (x : Option Around) (way : Option ℕ → Key → Way) → IsCircle x way → (radius : Option ℕ)
    (rs : List Record)
    → has_other_radius x radius (filter (keeps_record (way radius)) rs) ≡ has_other_radius x radius rs
other_by None way law radius rs = refl
other_by (Some x) way law radius rs =
    ap (λ (test : Record → Bool). has_other_radius (Some x) radius (filter test rs)) (kept_near x way law radius)
    ∙ other_near x radius rs

pub other_asked : (a : Question) (radius : Option ℕ) (rs : List Record) → IsLawful a
    → has_other_radius a.around radius (filter (asked a radius) rs) ≡ has_other_radius a.around radius rs
other_asked a radius rs law = other_by a.around a.way law.circle radius rs

reached : (q : Query) (radius : Option ℕ)
    → ◌≡◌ {A = Record → Bool} (asked (question q) radius) (λ (r : Record). reaches q radius (record_key r))
reached q radius = λ i r. kept_if (reaches q radius (record_key r)) i

scan_by : (shape : Shape) (named radius : Option ℕ) (rs : List Record) → IsShape shape
    → has_other_radius (around_of (asks shape named)) radius rs ≡ false
    → scan (reached_of (asks shape named) radius rs) (asks shape named) ≡ scan rs (asks shape named)
scan_by (Window w) named radius rs is right = window_scan_asked w named radius rs
scan_by (Nearest p k) named radius rs is right =
    nearest_scan_asked p k named radius rs is.1.0
    (by_counts (record { center = p; k = k; layers = layers_named named }) radius (on_layers (layers_named named) rs)
    is.1.0 right)

pub scan_asked : (q : Query) (radius : Option ℕ) (rs : List Record) → IsQuery q
    → has_other_radius (around_of q) radius rs ≡ false → scan (filter (asked (question q) radius) rs) q ≡ scan rs q
scan_asked q radius rs is right =
    ap (λ (test : Record → Bool). scan (filter test rs) q) (reached q radius)
    ∙ scan_by q.shape q.mask radius rs is.shape right

-- records of which the same are opened by their own radius have one answer
opened_reached : (q : Query) (radius : Option ℕ)
    → ◌≡◌ {A = Record → Bool} (λ (r : Record). opens_at ((question q).way radius) (record_key r))
    (λ (r : Record). reaches q radius (record_key r))
opened_reached q radius = λ i r. open_if (reaches q radius (record_key r)) i

same_by_shape : (shape : Shape) (named : Option ℕ) (rs ss : List Record) → IsShape shape
    → reached_of (asks shape named) (radius_by (around_of (asks shape named)) rs) rs
    ≡ reached_of (asks shape named) (radius_by (around_of (asks shape named)) rs) ss
    → scan rs (asks shape named) ≡ scan ss (asks shape named)
same_by_shape (Window w) named rs ss is e =
    let layers = layers_named named in
    window_scan (on_layers layers rs) w
    ∙ ap by_number (sym (window_reached w named None rs) ∙ e ∙ window_reached w named None ss)
    ∙ sym (window_scan (on_layers layers ss) w)
same_by_shape (Nearest p k) named rs ss is e =
    let layers = layers_named named in
    let s = nearest_asked p k named (kth_least k (distances p (on_layers layers rs))) rs ss is.1.0 refl e in
    nearest_scan (on_layers layers rs) p k ∙ s.answer ∙ sym (nearest_scan (on_layers layers ss) p k)

pub same_answer : (q : Query) (rs ss : List Record) → IsQuery q
    → filter (λ (r : Record). opens_at ((question q).way (radius_by (around_of q) rs)) (record_key r)) rs
    ≡ filter (λ (r : Record). opens_at ((question q).way (radius_by (around_of q) rs)) (record_key r)) ss
    → scan rs q ≡ scan ss q
same_answer q rs ss is e =
    let near = opened_reached q (radius_by (around_of q) rs) in
    same_by_shape q.shape q.mask rs ss is.shape
    (ap (λ (test : Record → Bool). filter test rs) (sym near) ∙ e ∙ ap (λ (test : Record → Bool). filter test ss) near)

-- ---- the radius of some records is one that a proof may have

abbrev Near : Point → Record → Type 0
Near p r = distance p r < radius_limit + 1

near_map : (p : Point) → FitsPoint p → (rs : List Record) → AllByRecursion IsRecord rs
    → AllByRecursion (λ n. n < radius_limit + 1) (distances p rs)
near_map p fits [] all = tt
near_map p fits (r ∷ rs) all =
    let low : distance p r ≤ radius_limit =
    least_squared_distance_bound r.rect p all.0.coordinates fits.x fits.y in
    (omega arith, near_map p fits rs all.1)

all_on : (layers : ℕ) (rs : List Record) → AllByRecursion IsRecord rs → AllByRecursion IsRecord (on_layers layers rs)
all_on layers [] all = tt
all_on layers (r ∷ rs) all = elim (cases_Bool (is_on layers r)) [
  | inl t ↦ rw t (all.0, all_on layers rs all.1)
  | inr f ↦ rw f (all_on layers rs all.1)
]

few_far : (k n : ℕ) (ns : List ℕ) → IsRadius k ns (Some n) → AllByRecursion (λ m. m < radius_limit + 1) ns
    → n ≤ radius_limit
few_far k n ns h all =
    let whole = below-all (radius_limit + 1) ns all in
    let few = h.0 in
    let many = h.1 in
    let most = below-length (n + 1) ns in
    by_less n radius_limit (λ lt. let more = below-rises (radius_limit + 1) n ns (omega arith) in omega arith)
  where
    by_less : (a b : ℕ) → (b < a → ⊥) → a ≤ b
    by_less a b h = omega arith

limited : (k : ℕ) (ns : List ℕ) (r : Option ℕ) → IsRadius k ns r → AllByRecursion (λ m. m < radius_limit + 1) ns
    → IfSome r (λ n. n ≤ radius_limit)
limited k ns None h all = tt
limited k ns (Some n) h all = few_far k n ns h all

fits_by : (k : Kind) (x : Option Around) (rs : List Record) → FitsAround k x → All IsRecord rs
    → FitsRadius k (radius_by x rs)
fits_by kind.W None rs law each = refl
fits_by kind.W (Some x) rs law each = absurd cc
fits_by kind.K None rs law each = absurd law
fits_by kind.K (Some x) rs law each =
    let some = on_layers x.layers rs in
    let ns = distances x.center some in
    limited x.k ns (kth_least x.k ns) (kth_is_radius x.k ns law.1)
    (near_map x.center law.0 some (all_on x.layers rs (recursion_from_All IsRecord rs each)))
fits_by (kind.Choice letter) None rs law each = refl
fits_by (kind.Choice letter) (Some x) rs law each = absurd cc

pub radius_fits : (a : Question) (rs : List Record) → IsLawful a → All IsRecord rs
    → FitsRadius a.kind (radius_by a.around rs)
radius_fits a rs law each = fits_by a.kind a.around rs law.around each
