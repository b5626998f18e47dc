-- The radius and the nearest of some records depend on those alone that lie within the radius; and the radius is told
-- by counts.
use Rattle.std.proofs.Common.{◌≡◌, ℕ, ◌+◌, ◌<◌, ◌≤◌, Bool, true, false, cond, leb, ltb, List, [], ◌∷◌, length, Option, Some, None, refl, sym, ap, subst, ◌∙◌, inl, inr, arith}
use Rattle.std.specs.Prelude.{filter}
use Rattle.std.proofs.lemmas.Bool.{cases_Bool, leb-true, leb-false, lt-ltb, le-ltb, ne_eqb}
use Rattle.std.proofs.lemmas.List.{length-map}
use Rattle.std.proofs.lemmas.List.Sums.{sum_by-cons}
use Rattle.mr_geom.specs.declared.point.Point.{Point}
use Rattle.mr_record.specs.declared.record.Record.{Record}
use Rattle.mr_query.specs.Nearest.{distance, distances, kth_least, is_within, nearer_than, not_farther_than, is_nearer, nearest}
use Rattle.mr_query.specs.private.Radius.{below, IsRadius}
use Rattle.mr_query.proofs.Counts.{one_below, one_below-lt, one_below-le, below-cons}
use Rattle.mr_query.proofs.Kth.{kth_is_radius, radius_is_kth}
use Rattle.mr_query.proofs.Ranks.{Splits, first_of_passing}

-- ---- what is nearer than another comes before it

pub nearer_first : (p : Point) (a b : Record) → distance p a < distance p b → is_nearer p a b ≡ true
nearer_first p a b lt = rw (lt-ltb (distance p a) (distance p b) lt) refl

pub nearer_last : (p : Point) (a b : Record) → distance p a < distance p b → is_nearer p b a ≡ false
nearer_last p a b lt =
    rw (
      le-ltb (distance p b) (distance p a) (omega arith),
      ne_eqb (distance p b) (distance p a) (λ e. omega arith),
    ) refl

-- within a squared distance
abbrev pub near : Point → ℕ → Record → Bool
near p n r = leb (distance p r) n

near_splits : (p : Point) (n : ℕ) → Splits (is_nearer p) (near p n)
near_splits p n = record {
  first = λ x y t f.
      let low = leb-true (distance p x) n t in let high = leb-false (distance p y) n f in
      nearer_first p x y (omega arith);
  last = λ x y t f.
      let low = leb-true (distance p x) n t in let high = leb-false (distance p y) n f in
      nearer_last p x y (omega arith);
}

-- ---- counts of the records within a distance

pub nearer_below : (p : Point) (n : ℕ) (rs : List Record) → nearer_than p n rs ≡ below n (distances p rs)
nearer_below p n [] = refl
nearer_below p n (r ∷ rs) =
    sum_by-cons (λ (s : Record). cond (ltb (distance p s) n) 1 0) r rs
    ∙ ap (λ m. one_below n (distance p r) + m) (nearer_below p n rs)
    ∙ sym (below-cons n (distance p r) (distances p rs))

one_not_farther : (n d : ℕ) → cond (leb d n) 1 0 ≡ one_below (n + 1) d
one_not_farther n d = elim (cases_Bool (leb d n)) [
  | inl t ↦ let low = leb-true d n t in rw t (sym (one_below-lt (n + 1) d (omega arith)))
  | inr f ↦ let high = leb-false d n f in rw f (sym (one_below-le (n + 1) d (omega arith)))
]

pub not_farther_below : (p : Point) (n : ℕ) (rs : List Record)
    → not_farther_than p n rs ≡ below (n + 1) (distances p rs)
not_farther_below p n [] = refl
not_farther_below p n (r ∷ rs) =
    sum_by-cons (λ (s : Record). cond (leb (distance p s) n) 1 0) r rs
    ∙ (λ i. one_not_farther n (distance p r) i + not_farther_below p n rs i)
    ∙ sym (below-cons (n + 1) (distance p r) (distances p rs))

count_near : (p : Point) (n : ℕ) (rs : List Record) → length (filter (near p n) rs) ≡ below (n + 1) (distances p rs)
count_near p n [] = refl
count_near p n (r ∷ rs) =
    let cons = below-cons (n + 1) (distance p r) (distances p rs) in
    let rest = count_near p n rs in
    elim (cases_Bool (leb (distance p r) n)) [
      | inl t ↦
          let low = leb-true (distance p r) n t in
          let one = one_below-lt (n + 1) (distance p r) (omega arith) in
          rw t (omega arith)
      | inr f ↦
          let high = leb-false (distance p r) n f in
          let none = one_below-le (n + 1) (distance p r) (omega arith) in
          rw f (omega arith)
    ]

-- what lies beyond a distance counts below none that is not greater
pub below_near : (p : Point) (n x : ℕ) (rs : List Record) → x ≤ n + 1
    → below x (distances p (filter (near p n) rs)) ≡ below x (distances p rs)
below_near p n x [] le = refl
below_near p n x (r ∷ rs) le =
    let cons = below-cons x (distance p r) (distances p rs) in
    let rest = below_near p n x rs le in
    elim (cases_Bool (leb (distance p r) n)) [
      | inl t ↦ rw t (let more = below-cons x (distance p r) (distances p (filter (near p n) rs)) in omega arith)
      | inr f ↦
          let high = leb-false (distance p r) n f in
          let none = one_below-le x (distance p r) (omega arith) in
          rw f (omega arith)
    ]

-- ---- two lists with the same records within the radius of the first

pub record SameNearest (p : Point) (k : ℕ) (rs ss : List Record) : Type 0 where
  pub radius : kth_least k (distances p rs) ≡ kth_least k (distances p ss)
  pub answer : nearest p k rs ≡ nearest p k ss

pub all_pass : (rs : List Record) → filter (λ (r : Record). true) rs ≡ rs
all_pass [] = refl
all_pass (r ∷ rs) = ap (λ (rest : List Record). r ∷ rest) (all_pass rs)

same_below : (p : Point) (n x : ℕ) (rs ss : List Record) → x ≤ n + 1 → filter (near p n) rs ≡ filter (near p n) ss
    → below x (distances p rs) ≡ below x (distances p ss)
same_below p n x rs ss le e =
    sym (below_near p n x rs le) ∙ ap (λ (ts : List Record). below x (distances p ts)) e ∙ below_near p n x ss le

nearest_near : (p : Point) (k n : ℕ) (rs : List Record) → k ≤ length (filter (near p n) rs)
    → nearest p k rs ≡ nearest p k (filter (near p n) rs)
unfolding nearest
nearest_near p k n rs many = first_of_passing (is_nearer p) (near p n) (near_splits p n) k rs many

radius_at : (p : Point) (k n : ℕ) (rs : List Record) → 1 ≤ k → Some n ≡ kth_least k (distances p rs)
    → IsRadius k (distances p rs) (Some n)
radius_at p k n rs some is = subst (IsRadius k (distances p rs)) (sym is) (kth_is_radius k (distances p rs) some)

same_at : (p : Point) (k n : ℕ) (rs ss : List Record) → 1 ≤ k → Some n ≡ kth_least k (distances p rs)
    → filter (near p n) rs ≡ filter (near p n) ss → SameNearest p k rs ss
same_at p k n rs ss some is e =
    let h = radius_at p k n rs some is in
    let low = same_below p n n rs ss (omega arith) e in
    let high = same_below p n (n + 1) rs ss (omega arith) e in
    let few = h.0 in
    let many = h.1 in
    let other : Some n ≡ kth_least k (distances p ss) =
    radius_is_kth k (distances p ss) (Some n) some (omega arith, omega arith) in
    let a = count_near p n rs in
    let b = count_near p n ss in
    record {
      radius = sym is ∙ other;
      answer =
          nearest_near p k n rs (omega arith) ∙ ap (nearest p k) e ∙ sym (nearest_near p k n ss (omega arith));
    }

-- equal records within the radius of the first list: both have this radius, and the same nearest records
pub same_nearest : (p : Point) (k : ℕ) (radius : Option ℕ) (rs ss : List Record) → 1 ≤ k
    → radius ≡ kth_least k (distances p rs)
    → filter (λ (r : Record). is_within p radius r.rect) rs ≡ filter (λ (r : Record). is_within p radius r.rect) ss
    → SameNearest p k rs ss
same_nearest p k None rs ss some is e =
    let same : rs ≡ ss = sym (all_pass rs) ∙ e ∙ all_pass ss in
    record { radius = ap (λ (ts : List Record). kth_least k (distances p ts)) same; answer = ap (nearest p k) same }
same_nearest p k (Some n) rs ss some is e = same_at p k n rs ss some is e

-- ---- the radius by counts

pub no_radius : (p : Point) (k : ℕ) (rs : List Record) → 1 ≤ k → length rs < k → None ≡ kth_least k (distances p rs)
no_radius p k rs some few =
    radius_is_kth k (distances p rs) None some (omega (arith, length-map rs (distance p)))

pub few_without : (p : Point) (k : ℕ) (rs : List Record) → 1 ≤ k → None ≡ kth_least k (distances p rs) → length rs < k
few_without p k rs some is =
    let h : length (distances p rs) < k =
    subst (IsRadius k (distances p rs)) (sym is) (kth_is_radius k (distances p rs) some) in
    omega (arith, length-map rs (distance p))

pub radius_by_counts : (p : Point) (k n : ℕ) (rs : List Record) → 1 ≤ k → nearer_than p n rs < k
    → k ≤ not_farther_than p n rs → Some n ≡ kth_least k (distances p rs)
radius_by_counts p k n rs some few many =
    let a = nearer_below p n rs in
    let b = not_farther_below p n rs in
    radius_is_kth k (distances p rs) (Some n) some (omega arith, omega arith)

pub counts_of_radius : (p : Point) (k n : ℕ) (rs : List Record) → 1 ≤ k → Some n ≡ kth_least k (distances p rs)
    → (nearer_than p n rs < k) × (k ≤ not_farther_than p n rs)
counts_of_radius p k n rs some is =
    let h = radius_at p k n rs some is in
    let few = h.0 in
    let many = h.1 in
    let a = nearer_below p n rs in
    let b = not_farther_below p n rs in
    (omega arith, omega arith)

-- the counts of the records within the radius are those of all
pub nearer_near : (p : Point) (n : ℕ) (rs : List Record) → nearer_than p n (filter (near p n) rs) ≡ nearer_than p n rs
nearer_near p n rs =
    nearer_below p n (filter (near p n) rs) ∙ below_near p n n rs (omega arith) ∙ sym (nearer_below p n rs)

pub not_farther_near : (p : Point) (n : ℕ) (rs : List Record)
    → not_farther_than p n (filter (near p n) rs) ≡ not_farther_than p n rs
not_farther_near p n rs =
    not_farther_below p n (filter (near p n) rs) ∙ below_near p n (n + 1) rs (omega arith)
    ∙ sym (not_farther_below p n rs)
