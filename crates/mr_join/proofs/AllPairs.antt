-- What is given of two maps has all pairs of records that meet.
use Rattle.std.proofs.Common.{◌≡◌, Bool, true, false, List, [], ◌∷◌, ◌++◌, get_or, map, Option, Some, None, refl, sym, ap, subst, ◌∙◌, inl, inr, arith}
use Rattle.std.specs.Prelude.{filter, fold, IfSome}
use Rattle.std.specs.List.{Contains, AllByRecursion, flat_map}
use Rattle.std.proofs.lemmas.Bool.{cases_Bool, false≢true}
use Rattle.std.proofs.lemmas.List.Elements.{Contains-append_cases, Contains-push_cases, Contains-get_or, recursion_from_All}
use Rattle.mr_geom.specs.Rectangle.{Rectangle, union, join}
use Rattle.mr_geom.specs.Plane.{touches}
use Rattle.mr_geom.proofs.Planes.{SidesInside, touches-sides, sides-touches}
use Rattle.mr_record.specs.Sorting.{sorted_by}
use Rattle.mr_record.specs.declared.record.Record.{Record}
use Rattle.mr_tree.specs.Tree as trees
use Rattle.mr_tree.specs.declared.tree.Tree.{Tree}
use Rattle.mr_tree.proofs.Joins.{rect_round}
use Rattle.mr_proof.proofs.Laws.{open_if}
use Rattle.mr_count.specs.Chosen.{opens_record}
use Rattle.mr_join.specs.declared.pair.Pair.{Pair}
use Rattle.mr_join.specs.Meets.{meets_one, meets_way, rects_of}
use Rattle.mr_join.specs.Pairs.{pair_of, pairs_with, is_before, pairs_of}
use Rattle.mr_join.proofs.Inside.{meets_outer, inside_itself, inside_through, in_first, in_second}

-- ---- lists that are filtered

passes : {A : Type 0} (p : A → Bool) (x : A) (xs : List A) → p x ≡ true → filter p (x ∷ xs) ≡ x ∷ filter p xs
passes p x xs e = rw e refl

fails : {A : Type 0} (p : A → Bool) (x : A) (xs : List A) → p x ≡ false → filter p (x ∷ xs) ≡ filter p xs
fails p x xs e = rw e refl

-- what fails gives nothing
flat_passing : (f : Record → List Pair) (p : Record → Bool) → ((r : Record) → p r ≡ false → f r ≡ [])
    → (rs : List Record) → flat_map f rs ≡ flat_map f (filter p rs)
flat_passing f p none [] = refl
flat_passing f p none (r ∷ rs) = by_test (p r) refl (flat_passing f p none rs)
  where
    by_test : (b : Bool) → p r ≡ b → flat_map f rs ≡ flat_map f (filter p rs)
        → flat_map f (r ∷ rs) ≡ flat_map f (filter p (r ∷ rs))
    by_test true e rest =
        ap (λ (ps : List Pair). f r ++ ps) rest ∙ ap (flat_map f) (sym (passes p r rs e))
    by_test false e rest =
        ap (λ (ps : List Pair). ps ++ flat_map f rs) (none r e) ∙ rest ∙ ap (flat_map f) (sym (fails p r rs e))

-- what passes the one test passes the other
filter_through : (q p : Record → Bool) → ((r : Record) → q r ≡ true → p r ≡ true) → (rs : List Record)
    → filter q rs ≡ filter q (filter p rs)
filter_through q p up [] = refl
filter_through q p up (r ∷ rs) = by_test (q r) (p r) refl refl (filter_through q p up rs)
  where
    by_test : (a b : Bool) → q r ≡ a → p r ≡ b → filter q rs ≡ filter q (filter p rs)
        → filter q (r ∷ rs) ≡ filter q (filter p (r ∷ rs))
    by_test true true e t rest =
        passes q r rs e ∙ ap (λ (xs : List Record). r ∷ xs) rest ∙ sym (passes q r (filter p rs) e)
        ∙ ap (filter q) (sym (passes p r rs t))
    by_test true false e t rest = absurd (false≢true (sym t ∙ up r e))
    by_test false true e t rest =
        fails q r rs e ∙ rest ∙ sym (fails q r (filter p rs) e) ∙ ap (filter q) (sym (passes p r rs t))
    by_test false false e t rest = fails q r rs e ∙ rest ∙ ap (filter q) (sym (fails p r rs t))

flat_same : (f g : Record → List Pair) (rs : List Record) → AllByRecursion (λ (r : Record). f r ≡ g r) rs
    → flat_map f rs ≡ flat_map g rs
flat_same f g [] all = refl
flat_same f g (r ∷ rs) all =
    ap (λ (ps : List Pair). ps ++ flat_map f rs) all.0 ∙ ap (λ (ps : List Pair). g r ++ ps) (flat_same f g rs all.1)

each_within : (P : Record → Type 0) (rs : List Record) → ((r : Record) → Contains rs r → P r) → AllByRecursion P rs
each_within P rs here = recursion_from_All P rs (λ k d within. here (get_or rs k d) (Contains-get_or rs k d within))

none_in : {X : Type 0} (x : X) → Contains [] x → ⊥
none_in x within = let low = within.1 in omega arith

one_in : {X : Type 0} (y x : X) → Contains (y ∷ []) x → y ≡ x
one_in y x within = elim (Contains-push_cases [] y x within) [
  | inl none ↦ absurd (none_in x none)
  | inr same ↦ same
]

-- ---- rectangles

touches_back : (a b : Rectangle) → touches a b ≡ true → touches b a ≡ true
touches_back a b t =
    let s = sides-touches a b t in
    touches-sides b a (record { left = s.right; right = s.left; low = s.high; high = s.low })

-- what misses a rectangle misses what lies in it
misses_in : (q a b : Rectangle) → SidesInside a b → touches q b ≡ false → touches q a ≡ false
misses_in q a b inside missed = elim (cases_Bool (touches q a)) [
  | inl t ↦ absurd (false≢true (sym missed ∙ touches-sides q b (meets_outer q a b (sides-touches q a t) inside)))
  | inr f ↦ f
]

round_from : (o : Option Rectangle) (rs : List Record) (w : Rectangle)
    → fold join o (map (λ (r : Record). Some r.rect) rs) ≡ Some w
    → IfSome o (λ a. SidesInside a w) × AllByRecursion (λ (r : Record). SidesInside r.rect w) rs
round_from None [] w e = (tt, tt)
round_from (Some a) [] w e = let same : a ≡ w = cc in (subst (SidesInside a) same (inside_itself a), tt)
round_from None (r ∷ rs) w e = let rest = round_from (Some r.rect) rs w e in (tt, (rest.0, rest.1))
round_from (Some a) (r ∷ rs) w e =
    let rest = round_from (Some (union a r.rect)) rs w e in (
      inside_through a (union a r.rect) w (in_first a r.rect) rest.0,
      (inside_through r.rect (union a r.rect) w (in_second a r.rect) rest.0, rest.1),
    )

-- the records of a map lie in its rectangle
pub lie_within : (t : Tree) (w : Rectangle) → trees.rect t ≡ Some w
    → AllByRecursion (λ (r : Record). SidesInside r.rect w) (trees.records t)
lie_within t w e = (round_from None (trees.records t) w (sym (rect_round t) ∙ e)).1

-- a map without a rectangle has no records
some_from : (a : Rectangle) (rs : List Record) → fold join (Some a) (map (λ (r : Record). Some r.rect) rs) ≡ None → ⊥
some_from a [] e = absurd cc
some_from a (r ∷ rs) e = some_from (union a r.rect) rs e

none_round : (rs : List Record) → fold join None (map (λ (r : Record). Some r.rect) rs) ≡ None → rs ≡ []
none_round [] e = refl
none_round (r ∷ rs) e = absurd (some_from r.rect rs e)

pub no_records : (t : Tree) → trees.rect t ≡ None → trees.records t ≡ []
no_records t e = none_round (trees.records t) (sym (rect_round t) ∙ e)

-- ---- records that meet

-- a record that misses a rectangle has no pair with those in it
no_pairs : (w : Rectangle) (us : List Record) → AllByRecursion (λ (q : Record). SidesInside q.rect w) us
    → (r : Record) → touches r.rect w ≡ false → pairs_with us r ≡ []
no_pairs w [] inside r missed = refl
no_pairs w (q ∷ us) inside r missed =
    ap (map (pair_of r)) (fails (λ (x : Record). touches r.rect x.rect) q us
    (misses_in r.rect q.rect w inside.0 missed)) ∙ no_pairs w us inside.1 r missed

meets_within : (rs : List Record) (r : Record) (b : Rectangle) → Contains rs r → touches b r.rect ≡ true
    → meets_one (rects_of rs) b ≡ true
meets_within [] r b within met = absurd (none_in r within)
meets_within (x ∷ rs) r b within met = elim (Contains-append_cases (x ∷ []) rs r within) [
  | inl here ↦
      let same : x ≡ r = one_in x r here in
      let first : touches b x.rect ≡ true = ap (λ (z : Record). touches b z.rect) same ∙ met in
      rw first refl
  | inr behind ↦ by_test (touches b x.rect) refl (meets_within rs r b behind met)
]
  where
    by_test : (t : Bool) → touches b x.rect ≡ t → meets_one (rects_of rs) b ≡ true
        → meets_one (rects_of (x ∷ rs)) b ≡ true
    by_test true e rest = rw e refl
    by_test false e rest = rw e rest

only_one : (w b : Rectangle) → meets_one (w ∷ []) b ≡ false → touches b w ≡ false
only_one w b none = by_test (touches b w) refl
  where
    by_test : (t : Bool) → touches b w ≡ t → touches b w ≡ false
    by_test true e = absurd (false≢true (sym (rw e at none)))
    by_test false e = e

-- ---- the pairs

-- of two maps' records, the second's in this rectangle, and what is given of them
pub all_given : (w : Rectangle) (ts us xs ys : List Record)
    → AllByRecursion (λ (q : Record). SidesInside q.rect w) us
    → filter (opens_record (meets_way (w ∷ []))) xs ≡ filter (opens_record (meets_way (w ∷ []))) ts
    → filter (opens_record (meets_way (rects_of xs))) ys ≡ filter (opens_record (meets_way (rects_of xs))) us
    → pairs_of xs ys ≡ pairs_of ts us
unfolding pairs_of
all_given w ts us xs ys inside first second = ap (sorted_by is_before) (sym same_flat)
  where
    alone : (r : Record) → opens_record (meets_way (w ∷ [])) r ≡ false → pairs_with us r ≡ []
    alone r closed = no_pairs w us inside r
        (only_one w r.rect (sym (open_if (meets_one (w ∷ []) r.rect)) ∙ closed))

    partners : (r : Record) → Contains xs r → pairs_with us r ≡ pairs_with ys r
    partners r within =
        let up : (q : Record) → touches r.rect q.rect ≡ true
        → opens_record (meets_way (rects_of xs)) q ≡ true = λ q met.
        open_if (meets_one (rects_of xs) q.rect)
        ∙ meets_within xs r q.rect within (touches_back r.rect q.rect met) in
        ap (map (pair_of r))
        (filter_through (λ (q : Record). touches r.rect q.rect) (opens_record (meets_way (rects_of xs))) up us
        ∙ ap (filter (λ (q : Record). touches r.rect q.rect)) (sym second)
        ∙ sym (filter_through (λ (q : Record). touches r.rect q.rect) (opens_record (meets_way (rects_of xs))) up ys))

    same_flat : flat_map (pairs_with us) ts ≡ flat_map (pairs_with ys) xs
    same_flat =
        flat_passing (pairs_with us) (opens_record (meets_way (w ∷ []))) alone ts
        ∙ ap (flat_map (pairs_with us)) (sym first)
        ∙ sym (flat_passing (pairs_with us) (opens_record (meets_way (w ∷ []))) alone xs)
        ∙ flat_same (pairs_with us) (pairs_with ys) xs
        (each_within (λ (r : Record). pairs_with us r ≡ pairs_with ys r) xs partners)

-- where the second has none
no_partners : (rs : List Record) → flat_map (pairs_with []) rs ≡ []
no_partners [] = refl
no_partners (r ∷ rs) = no_partners rs

pub none_given : (ts us ys : List Record) → us ≡ [] → pairs_of [] ys ≡ pairs_of ts us
unfolding pairs_of
none_given ts us ys none =
    sym (ap (λ (qs : List Record). sorted_by is_before (flat_map (pairs_with qs) ts)) none
    ∙ ap (sorted_by is_before) (no_partners ts))
