-- Children that are tried in another order, that to which a way turns first: each once, so that no more is read than
-- there are nodes below all.
use Rattle.std.proofs.Common.{◌≡◌, ◌≢◌, Bool, true, false, ℕ, zero, suc, ◌+◌, ◌-◌, ◌<◌, ◌≤◌, List, [], ◌∷◌, length, map, take, get_or, refl, sym, ap, subst, ◌∙◌, arith}
use Rattle.std.specs.Prelude.{◌==◌, ◌&&◌, not, if◌then◌else◌, Option, Some}
use Rattle.std.proofs.lemmas.Bool.{eq-eqb, eqb-true, eqb-false}
use Rattle.std.proofs.lemmas.List.{length-map, length-append, get_or-map, get_or_default}
use Rattle.mr_geom.specs.Rectangle.{Rectangle}
use Rattle.mr_tree.specs.Digest.{Scheme}
use Rattle.mr_tree.specs.declared.child.Child.{Child}
use Rattle.mr_pages.specs.Stands.{Placed, pages_of}
use Rattle.mr_edit.specs.PageMap.{PageMap}
use Rattle.mr_edit.specs.Counted.{ReadsNodesOnce}
use Rattle.mr_edit.specs.Held.{NameTrees, pages}
use Rattle.mr_edit.specs.private.Removal.{LacksRecord}
use Rattle.mr_edit.proofs.Searching.{NoneYet, among, none_tried}

-- ---- sums

abbrev pub whole : List ℕ → ℕ
whole [] = 0
whole (w ∷ ws) = w + whole ws

-- over the first ones without one
abbrev pub but_one : (turn i : ℕ) → List ℕ → ℕ
but_one turn zero ws = 0
but_one turn (suc i) [] = 0
but_one zero (suc i) (w ∷ ws) = whole (take i ws)
but_one (suc turn) (suc i) (w ∷ ws) = w + but_one turn i ws

-- over what was tried: the one to which the way turns, and the first ones without it
abbrev pub tried_sum : (turn n : ℕ) → List ℕ → ℕ
tried_sum turn zero ws = 0
tried_sum turn (suc i) ws = get_or ws turn 0 + but_one turn i ws

none_there : (i : ℕ) → ◌≡◌ {A = ℕ} (get_or [] i 0) 0
none_there zero = refl
none_there (suc i) = refl

one_le : (i : ℕ) (ws : List ℕ) → get_or ws i 0 ≤ whole ws
one_le i [] = omega (arith, none_there i)
one_le zero (w ∷ ws) = omega arith
one_le (suc i) (w ∷ ws) = omega (arith, one_le i ws)

front_le : (i : ℕ) (ws : List ℕ) → whole (take i ws) ≤ whole ws
front_le zero ws = omega arith
front_le (suc i) [] = omega arith
front_le (suc i) (w ∷ ws) = omega (arith, front_le i ws)

front_more : (i : ℕ) (ws : List ℕ) → whole (take i ws) ≤ whole (take (suc i) ws)
front_more zero ws = omega arith
front_more (suc i) [] = omega arith
front_more (suc i) (w ∷ ws) = omega (arith, front_more i ws)

front_step : (i : ℕ) (ws : List ℕ) → i < length ws → whole (take (suc i) ws) ≡ whole (take i ws) + get_or ws i 0
front_step i [] within = absurd (omega (arith, within))
front_step zero (w ∷ ws) within = omega arith
front_step (suc i) (w ∷ ws) within = omega (arith, front_step i ws (omega (arith, within)))

but_le : (turn i : ℕ) (ws : List ℕ) → get_or ws turn 0 + but_one turn i ws ≤ whole ws
but_le turn zero ws = omega (arith, one_le turn ws)
but_le turn (suc i) [] = omega (arith, none_there turn)
but_le zero (suc i) (w ∷ ws) = omega (arith, front_le i ws)
but_le (suc turn) (suc i) (w ∷ ws) = omega (arith, but_le turn i ws)

but_more : (turn i : ℕ) (ws : List ℕ) → but_one turn i ws ≤ but_one turn (suc i) ws
but_more turn zero ws = omega arith
but_more turn (suc i) [] = omega arith
but_more zero (suc i) (w ∷ ws) = front_more i ws
but_more (suc turn) (suc i) (w ∷ ws) = omega (arith, but_more turn i ws)

but_step : (turn i : ℕ) (ws : List ℕ) → i ≢ turn → i < length ws →
    but_one turn (suc i) ws ≡ but_one turn i ws + get_or ws i 0
but_step turn i [] other within = absurd (omega (arith, within))
but_step zero zero (w ∷ ws) other within = absurd (other refl)
but_step zero (suc i) (w ∷ ws) other within = front_step i ws (omega (arith, within))
but_step (suc turn) zero (w ∷ ws) other within = omega arith
but_step (suc turn) (suc i) (w ∷ ws) other within =
    omega (arith, but_step turn i ws (λ e. other (ap suc e)) (omega (arith, within)))

pub tried_within : (turn n : ℕ) (ws : List ℕ) → tried_sum turn n ws ≤ whole ws
tried_within turn zero ws = omega arith
tried_within turn (suc i) ws = but_le turn i ws

later_sum : (turn n : ℕ) (ws : List ℕ) → tried_sum turn n ws ≤ tried_sum turn (suc n) ws
later_sum turn zero ws = omega arith
later_sum turn (suc i) ws = omega (arith, but_more turn i ws)

next_sum : (turn n at : ℕ) (ws : List ℕ) → at ≡ (if n == 0 then turn else n - 1) → (n ≢ 0 → at ≢ turn) →
    at < length ws → tried_sum turn n ws + get_or ws at 0 ≤ tried_sum turn (suc n) ws
next_sum turn zero at ws place other within = omega (arith, ap (λ k. get_or ws k 0) place)
next_sum turn (suc i) at ws place other within =
    let here : at ≡ i = by_case (suc i == 0) refl place in
    let there : i ≢ turn = λ e. other (λ z. omega (arith, z)) (here ∙ e) in
    omega (
      arith,
      but_step turn i ws there (subst (λ k. k < length ws) here within),
      ap (λ k. get_or ws k 0) here,
    )
  where
    by_case : (b : Bool) → (suc i == 0) ≡ b → at ≡ (if b then turn else suc i - 1) → at ≡ i
    by_case true e p = absurd (omega (arith, eqb-true (suc i) 0 e))
    by_case false e p = omega (arith, p)

-- ---- the pages below children

abbrev pub weights : List Placed → List ℕ
weights Ps = map (λ (P : Placed). length (pages_of P)) Ps

pub pages_weighed : (Ps : List Placed) → length (pages Ps) ≡ whole (weights Ps)
pages_weighed [] = refl
pages_weighed (P ∷ Ps) = omega (arith, length-append (pages_of P) (pages Ps), pages_weighed Ps)

weight_at : (Ps : List Placed) (at : ℕ) (x : Placed) → at < length Ps → x ≡ get_or Ps at x →
    get_or (weights Ps) at 0 ≡ length (pages_of x)
weight_at Ps at x within is =
    get_or-map (λ (P : Placed). length (pages_of P)) Ps at x 0 within
    ∙ ap (λ (P : Placed). length (pages_of P)) (sym is)

-- what was tried, and one that was not, are no more than all
pub child_sum : (Ps : List Placed) (turn n at : ℕ) (x : Placed) → at ≡ (if n == 0 then turn else n - 1) →
    (n ≢ 0 → at ≢ turn) → at < length Ps → x ≡ get_or Ps at x →
    tried_sum turn n (weights Ps) + length (pages_of x) ≤ length (pages Ps)
child_sum Ps turn n at x place other within is =
    let size : at < length (weights Ps) = omega (
      arith,
      within,
      length-map Ps (λ (P : Placed). length (pages_of P)),
    ) in
    omega (
      arith,
      next_sum turn n at (weights Ps) place other size,
      tried_within turn (suc n) (weights Ps),
      pages_weighed Ps,
      weight_at Ps at x within is,
    )

-- ---- tries

-- the nodes below the children that were tried were read once
abbrev pub TriedOnce : Scheme → (told : Option PageMap) → List Child → (turn n : ℕ) → (before after : ℕ) → Type 0
TriedOnce scheme told cs turn n before after =
    (a : PageMap) (Ps : List Placed) → told ≡ Some a → NameTrees scheme a cs Ps →
    after ≤ before + tried_sum turn n (weights Ps)

pub tried_none : (scheme : Scheme) (told : Option PageMap) (cs : List Child) (turn r : ℕ) →
    TriedOnce scheme told cs turn 0 r r
tried_none scheme told cs turn r a Ps is named = omega arith

-- nothing is read at the next one
pub tried_still : (scheme : Scheme) (told : Option PageMap) (cs : List Child) (turn n r r' : ℕ) →
    TriedOnce scheme told cs turn n r r' → TriedOnce scheme told cs turn (n + 1) r r'
tried_still scheme told cs turn n r r' tried =
    let up : suc n ≡ n + 1 = omega arith in
    subst (λ k. TriedOnce scheme told cs turn k r r') up
    (λ a Ps is named. omega (arith, tried a Ps is named, later_sum turn n (weights Ps)))

-- the next one is read
pub tried_next : (scheme : Scheme) (told : Option PageMap) (cs : List Child) (turn n at : ℕ) (d : Child) (r r1 r2 : ℕ) →
    at ≡ (if n == 0 then turn else n - 1) → (n ≢ 0 → at ≢ turn) → at < length cs → d ≡ get_or cs at d →
    ReadsNodesOnce scheme told d r1 r2 → TriedOnce scheme told cs turn n r r1 →
    TriedOnce scheme told cs turn (n + 1) r r2
tried_next scheme told cs turn n at d r r1 r2 place other within is_d once tried =
    let up : suc n ≡ n + 1 = omega arith in
    subst (λ k. TriedOnce scheme told cs turn k r r2) up
    (λ a Ps is named.
    let m = among scheme a cs Ps at d named within is_d in
    let size : at < length (weights Ps) = omega (
      arith,
      m.within,
      length-map Ps (λ (P : Placed). length (pages_of P)),
    ) in
    omega (
      arith,
      tried a Ps is named,
      once a m.part is m.names,
      weight_at Ps at m.part m.within m.is,
      next_sum turn n at (weights Ps) place other size,
    ))

-- ---- the one that was tried first

-- it does not have the record
abbrev pub Turned : Scheme → (told : Option PageMap) → List Child → ℕ → Rectangle → (turn : ℕ) → Type 0
Turned scheme told cs n r turn =
    (d : Child) → turn < length cs → d ≡ get_or cs turn d → LacksRecord scheme told d n r

same_at : (xs : List Child) (k : ℕ) (x y : Child) → k < length xs → get_or xs k x ≡ get_or xs k y
same_at [] k x y low = absurd (omega (arith, low))
same_at (z ∷ xs) zero x y low = refl
same_at (z ∷ xs) (suc k) x y low = same_at xs k x y (omega (arith, low))

-- after a try
pub turned_on : (scheme : Scheme) (told : Option PageMap) (cs : List Child) (n : ℕ) (r : Rectangle) (i turn at : ℕ)
    (d : Child) → at ≡ (if i == 0 then turn else i - 1) → at < length cs → d ≡ get_or cs at d →
    LacksRecord scheme told d n r → (i ≢ 0 → Turned scheme told cs n r turn) → Turned scheme told cs n r turn
turned_on scheme told cs n r i turn at d place within is lacks before = by_case (i == 0) refl place
  where
    by_case : (b : Bool) → (i == 0) ≡ b → at ≡ (if b then turn else i - 1) → Turned scheme told cs n r turn
    by_case true e here = λ f low is_f.
        let same : f ≡ d = is_f ∙ ap (λ k. get_or cs k f) (sym here) ∙ same_at cs at f d within ∙ sym is in
        subst (λ x. LacksRecord scheme told x n r) (sym same) lacks
    by_case false e here = before (eqb-false i 0 e)

-- where none stands there
pub turned_past : (scheme : Scheme) (told : Option PageMap) (cs : List Child) (n : ℕ) (r : Rectangle) (i turn at : ℕ) →
    at ≡ (if i == 0 then turn else i - 1) → length cs ≤ at → (i ≢ 0 → Turned scheme told cs n r turn) →
    Turned scheme told cs n r turn
turned_past scheme told cs n r i turn at place past before = by_case (i == 0) refl place
  where
    by_case : (b : Bool) → (i == 0) ≡ b → at ≡ (if b then turn else i - 1) → Turned scheme told cs n r turn
    by_case true e here = λ d within is. absurd (omega (arith, within, past, here))
    by_case false e here = before (eqb-false i 0 e)

-- ---- one after another

-- the nodes below the first ones were read once
abbrev pub SeenOnce : Scheme → (told : Option PageMap) → List Child → (i : ℕ) → (before after : ℕ) → Type 0
SeenOnce scheme told cs i before after =
    (a : PageMap) (Ps : List Placed) → told ≡ Some a → NameTrees scheme a cs Ps →
    after ≤ before + whole (take i (weights Ps))

pub seen_none : (scheme : Scheme) (told : Option PageMap) (cs : List Child) (r : ℕ) → SeenOnce scheme told cs 0 r r
seen_none scheme told cs r a Ps is named = omega arith

pub seen_next : (scheme : Scheme) (told : Option PageMap) (cs : List Child) (i : ℕ) (d : Child) (r r1 r2 : ℕ) →
    i < length cs → d ≡ get_or cs i d → SeenOnce scheme told cs i r r1 → ReadsNodesOnce scheme told d r1 r2 →
    SeenOnce scheme told cs (i + 1) r r2
seen_next scheme told cs i d r r1 r2 within is_d seen once =
    let up : suc i ≡ i + 1 = omega arith in
    subst (λ k. SeenOnce scheme told cs k r r2) up
    (λ a Ps is named.
    let m = among scheme a cs Ps i d named within is_d in
    let size : i < length (weights Ps) = omega (
      arith,
      m.within,
      length-map Ps (λ (P : Placed). length (pages_of P)),
    ) in
    omega (
      arith,
      seen a Ps is named,
      once a m.part is m.names,
      weight_at Ps i m.part m.within m.is,
      front_step i (weights Ps) size,
    ))

pub seen_within : (i : ℕ) (ws : List ℕ) → whole (take i ws) ≤ whole ws
seen_within = front_le

-- ---- which one is tried

not_both : (b q : Bool) → (not b && q) ≡ true → (b ≡ false) × (q ≡ true)
not_both true q e = cc
not_both false q e = (refl, e)

both_not : (b q : Bool) → (not b && q) ≡ false → b ≡ false → q ≡ true → ⊥
both_not true q e low high = cc
both_not false q e low high = cc

-- it was not tried before
pub new_try : (n turn at : ℕ) → (not (n == 0) && (at == turn)) ≡ false → n ≢ 0 → at ≢ turn
new_try n turn at e some same = by_case (n == 0) refl
  where
    by_case : (b : Bool) → (n == 0) ≡ b → ⊥
    by_case true is = some (eqb-true n 0 is)
    by_case false is = both_not (n == 0) (at == turn) e is (eq-eqb at turn same)

-- it was: none has the record up to here
pub none_again : (scheme : Scheme) (told : Option PageMap) (cs : List Child) (n : ℕ) (r : Rectangle) (i turn at : ℕ)
    (e : Child) → at ≡ (if i == 0 then turn else i - 1) → at < length cs → (not (i == 0) && (at == turn)) ≡ true →
    (i ≢ 0 → Turned scheme told cs n r turn) → NoneYet scheme told cs n r (i - 1) →
    NoneYet scheme told cs n r (i + 1 - 1)
none_again scheme told cs n r i turn at e place within again turned none =
    let b = not_both (i == 0) (at == turn) again in
    let same : at ≡ turn = eqb-true at turn b.1 in
    let d : Child = get_or cs at e in
    let here : d ≡ get_or cs at d = get_or_default cs at e d within in
    none_tried scheme told cs n r i turn at d place within here
    (turned (eqb-false i 0 b.0) d (subst (λ k. k < length cs) same within) (subst (λ k. d ≡ get_or cs k d) same here))
    none

-- where none stands there
pub none_past : (scheme : Scheme) (told : Option PageMap) (cs : List Child) (n : ℕ) (r : Rectangle) (i turn at : ℕ) →
    at ≡ (if i == 0 then turn else i - 1) → length cs ≤ at → i < length cs + 1 → NoneYet scheme told cs n r (i - 1) →
    NoneYet scheme told cs n r (i + 1 - 1)
none_past scheme told cs n r i turn at place past within none = by_case (i == 0) refl place
  where
    by_case : (b : Bool) → (i == 0) ≡ b → at ≡ (if b then turn else i - 1) → NoneYet scheme told cs n r (i + 1 - 1)
    by_case true e here =
        let first : i ≡ 0 = eqb-true i 0 e in
        let same : i - 1 ≡ i + 1 - 1 = omega (arith, first) in
        subst (NoneYet scheme told cs n r) same none
    by_case false e here =
        let later : i ≢ 0 = eqb-false i 0 e in
        absurd (omega (arith, here, later, past, within))

pub turned_again : (scheme : Scheme) (told : Option PageMap) (cs : List Child) (n : ℕ) (r : Rectangle) (i turn at : ℕ) →
    (not (i == 0) && (at == turn)) ≡ true → (i ≢ 0 → Turned scheme told cs n r turn) → Turned scheme told cs n r turn
turned_again scheme told cs n r i turn at again turned =
    turned (eqb-false i 0 (not_both (i == 0) (at == turn) again).0)
