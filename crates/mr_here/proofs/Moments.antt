-- An update in place, between the calls that carry it out: what a crash may leave of it.
use Rattle.std.proofs.Common.{◌≡◌, ◌⊎◌, inl, inr, ⊎_elim, ℕ, List, [], length, ◌≤◌, arith, true, is_some, Option, Some, None, IfSome, IfErr, IsSomeAnd, Result, Ok, Err, OnOk, refl, sym, ap, ◌∙◌, subst}
use Rattle.std.proofs.lemmas.Result.{on_ok_weaker}
use Rattle.mr_journal.specs.declared.disk.DiskErr.{DiskErr}
use Rattle.mr_journal.specs.Images.{Image, DiskState, Unchanged}
use Rattle.mr_journal.specs.Moments.{ImagesSince, EveryImage, IsAfterStep, AddsOnly, AddsSteps, LeadsThrough}
use Rattle.mr_journal.specs.Format.{ready, carried, restored}
use Rattle.mr_journal.specs.States.{IsShutAt, IsArmedFor, IsSettledAt, RestoresAs, EitherOf}
use Rattle.mr_journal.proofs.Running.{Earlier, Held, now_from, course_weaker, course_then, course_none, moves_course}
use Rattle.mr_journal.proofs.Gating.{Counts, told_cases, now_same, shut_restores}
use Rattle.mr_here.specs.Crashes.{Makes, IsMadeOf, IsDoneBy, BecomesBy, EndsBy}

none_some : (x : Image) (o : Option Image) → o ≡ None → o ≡ Some x → ⊥
none_some x o a b = cc

none_is : (o : Option Image) → o ≡ None → is_some o ≡ true → ⊥
none_is o a b = cc

abbrev Any : Image → Type 0
Any image = Unit {0}

abbrev Never : Image → Type 0
Never image = ⊥

-- what the pages of an edit make of the map
abbrev Made : List ℕ → List ℕ → Image → Type 0
Made map made = EitherOf (IsShutAt map) (EitherOf (IsArmedFor made) (IsShutAt made))

made_of : (makes : Makes) (map made : List ℕ) → makes map made → (x : Image) → Made map made x → IsMadeOf makes map x
made_of makes map made given x q =
    ⊎_elim (λ y. inl (shut_restores map x y))
    (λ z. ⊎_elim (λ y. inr (subst (makes map) (sym y.restores) given))
    (λ y. inr (subst (makes map) (sym (shut_restores made x y)) given)) z) q

module _ (a b c : DiskState) (s u w : ImagesSince) (makes : Makes) (early : Earlier u) (late : Earlier w)
    (held : Held c w) (counts : Counts a s)
    (moves : AddsSteps a b s u Unchanged) (same : b.contents ≡ a.contents) (body loaded : List ℕ)
    (read : IfSome a.contents (λ k. loaded ≡ k.map))
    (fit : ready (length loaded) body ≡ true) (given : makes loaded (carried body loaded))
    (r : Result (Unit {0}) DiskErr)
    (leads : (m : List ℕ) → ready (length m) body ≡ true → LeadsThrough b c u w r (IsSettledAt m b.contents)
    (Made m (carried body m)) (IsSettledAt (carried body m) c.contents))
    (map : List ℕ) (all : EveryImage a s (IsSettledAt map a.contents)) where
  stays_any : AddsOnly a b s u Any
  stays_any = course_weaker a b s u (IsAfterStep a s Unchanged) Any moves (λ x y. tt)

  -- where nothing is told
  never : a.contents ≡ None → AddsOnly a c s w Never
  never none =
      let vacuous : EveryImage b u (IsSettledAt loaded b.contents) = λ x now. absurd
      (none_some x a.contents none ((all x (now_same a b s u early moves x now)).is)) in
      course_none a c s w Any Never none held (course_then a b c s u w Any (Made loaded (carried body loaded)) Any
      stays_any ((leads loaded fit).meanwhile vacuous) (λ x p. tt) (λ x q. tt))

  same_map : (k : Image) → a.contents ≡ Some k → loaded ≡ map
  same_map k some = subst (λ (o : Option Image). IfSome o (λ i. loaded ≡ i.map)) some read ∙
      (all k (counts k some)).shut.map_is

  settled_still : EveryImage b u (IsSettledAt map b.contents)
  settled_still x now =
      let p = all x (now_same a b s u early moves x now) in
      record { shut = p.shut; is = same ∙ p.is }

  fits_map : loaded ≡ map → ready (length map) body ≡ true
  fits_map is = ap (λ (m : List ℕ). ready (length m) body) (sym is) ∙ fit

  gives_map : loaded ≡ map → makes map (carried body map)
  gives_map is = subst (λ (m : List ℕ). makes m (carried body m)) is given

  pub edit_course : AddsOnly a c s w (IsMadeOf makes map)
  edit_course =
      ⊎_elim
      (λ none. course_weaker a c s w Never (IsMadeOf makes map) (never none) (λ x n. absurd n))
      (λ some.
      let is = same_map some.0 some.1 in
      course_then a b c s u w (IsMadeOf makes map) (Made map (carried body map)) (IsMadeOf makes map)
      (moves_course a b s u Unchanged (IsSettledAt map a.contents) (IsMadeOf makes map) moves all
      (λ d x p e. inl (ap restored e ∙ shut_restores map d p.shut)))
      ((leads map (fits_map is)).meanwhile settled_still) (λ x p. p)
      (made_of makes map (carried body map) (gives_map is)))
      (told_cases a.contents)

  pub edit_done : OnOk r (EveryImage c w (IsDoneBy makes map c.contents))
  edit_done =
      ⊎_elim
      (λ none. on_ok_weaker r (λ d x now. absurd (⊎_elim (λ y. none_some x a.contents none (all x y).is) (λ y. y)
      (now_from a c s w Never late (never none) x now)))
      ((leads loaded fit).done (λ x now. absurd (none_some x a.contents none
      ((all x (now_same a b s u early moves x now)).is)))))
      (λ some.
      let is = same_map some.0 some.1 in
      on_ok_weaker r (λ d x now. record { made = carried body map; given = gives_map is; settled = d x now })
      ((leads map (fits_map is)).done settled_still))
      (told_cases a.contents)

module _ (a b c : DiskState) (s u w : ImagesSince) (makes : Makes) (late : Earlier w) (here : Held a s)
    (held : Held c w) (counts : Counts a s)
    (first : AddsOnly a b s u (RestoresAs a s)) (ready_now : EveryImage b u
    (λ x. IsSomeAnd a.contents (λ k. IsSettledAt (restored k) b.contents x)))
    (second : (map : List ℕ) → EveryImage b u (IsSettledAt map b.contents) → AddsOnly b c u w (IsMadeOf makes map))
  where
    vacuous : a.contents ≡ None → (map : List ℕ) → EveryImage b u (IsSettledAt map b.contents)
    vacuous none map x now = absurd (subst (λ (o : Option Image). IsSomeAnd o
        (λ k. IsSettledAt (restored k) b.contents x)) none (ready_now x now))

    settled_at : (k : Image) → a.contents ≡ Some k → EveryImage b u (IsSettledAt (restored k) b.contents)
    settled_at k some x now =
        subst (λ (o : Option Image). IsSomeAnd o (λ i. IsSettledAt (restored i) b.contents x)) some (ready_now x now)

    nothing : a.contents ≡ None → AddsOnly a c s w Never
    nothing none = course_none a c s w Any Never none held (course_then a b c s u w (RestoresAs a s) (IsMadeOf makes [])
        Any first (second [] (vacuous none [])) (λ x p. tt) (λ x q. tt))

    pub here_course : AddsOnly a c s w (BecomesBy makes a s)
    here_course =
        ⊎_elim
        (λ none. course_weaker a c s w Never (BecomesBy makes a s) (nothing none) (λ x n. absurd n))
        (λ some. course_then a b c s u w (RestoresAs a s) (IsMadeOf makes (restored some.0)) (BecomesBy makes a s) first
        (second (restored some.0) (settled_at some.0 some.1))
        (λ x p. (p.0, p.1, inl p.2)) (λ x q. (some.0, counts some.0 some.1, q)))
        (told_cases a.contents)

    pub here_done : {A E : Type 0} (r : Result A E) → ((map : List ℕ) → EveryImage b u (IsSettledAt map b.contents)
        → OnOk r (EveryImage c w (IsDoneBy makes map c.contents)))
        → OnOk r (EveryImage c w (EndsBy makes a.contents c.contents))
    here_done r done =
        ⊎_elim
        (λ none. on_ok_weaker r (λ d x now. absurd (⊎_elim (λ y. none_is a.contents none (here a.clock x y)) (λ y. y)
        (now_from a c s w Never late (nothing none) x now))) (done [] (vacuous none [])))
        (λ some. on_ok_weaker r (λ d x now. subst (λ (o : Option Image). IsSomeAnd o
        (λ k. IsDoneBy makes (restored k) c.contents x)) (sym some.1) (d x now))
        (done (restored some.0) (settled_at some.0 some.1)))
        (told_cases a.contents)

    -- where it is refused for what it says of the map
    pub here_refused : {A E : Type 0} (r : Result A E) (Said : E → Type 0)
        → ((map : List ℕ) → EveryImage b u (IsSettledAt map b.contents)
        → IfErr r (λ e. Said e → EveryImage c w (IsSettledAt map c.contents)))
        → IfErr r (λ e. Said e
        → EveryImage c w (λ x. IsSomeAnd a.contents (λ k. IsSettledAt (restored k) c.contents x)))
    here_refused (Ok v) Said refused = tt
    here_refused (Err e) Said refused =
        ⊎_elim
        (λ none said x now. absurd (⊎_elim (λ y. none_is a.contents none (here a.clock x y)) (λ y. y)
        (now_from a c s w Never late (nothing none) x now)))
        (λ some said x now. subst (λ (o : Option Image). IsSomeAnd o (λ k. IsSettledAt (restored k) c.contents x))
        (sym some.1) (refused (restored some.0) (settled_at some.0 some.1) said x now))
        (told_cases a.contents)

-- before a call that changes nothing, and after it
pub still_settled : (a b : DiskState) (s u : ImagesSince) (map : List ℕ) → Earlier u → AddsSteps a b s u Unchanged
    → b.contents ≡ a.contents → EveryImage a s (IsSettledAt map a.contents)
    → EveryImage b u (IsSettledAt map b.contents)
still_settled a b s u map early moves same all x now =
    let p = all x (now_same a b s u early moves x now) in
    record { shut = p.shut; is = same ∙ p.is }

-- The theorem in the words of a caller. Where every image at the start restores to a map that has P, and the update
-- makes of a map with P one with Q, every image at every moment restores to one with P or with Q.
pub stands_either : (P Q : List ℕ → Type 0) (a c : DiskState) (s w : ImagesSince) (makes : Makes)
    → ((m n : List ℕ) → makes m n → P m → Q n) → AddsOnly a c s w (BecomesBy makes a s)
    → EveryImage a s (λ x. P (restored x)) → (x : Image) → w a.clock x → P (restored x) ⊎ Q (restored x)
stands_either P Q a c s w makes meant run all x since =
    ⊎_elim (λ y. inl (all x y))
    (λ y. ⊎_elim (λ e. inl (subst P (sym e) (all y.0 y.1))) (λ g. inr
    (meant (restored y.0) (restored x) g (all y.0 y.1))) y.2)
    (run.added a.clock x (le_self a.clock) since)
  where
    le_self : (n : ℕ) → n ≤ n
    le_self n = omega arith

some_and : (o : Option Image) (P : Image → Type 0) → IsSomeAnd o P → (k : Image) × (o ≡ Some k) × P k
some_and None P h = absurd h
some_and (Some k) P h = (k, refl, h)

-- and after Ok to one with Q
pub ends_always : {A E : Type 0} (r : Result A E) (P Q : List ℕ → Type 0) (a c : DiskState) (s w : ImagesSince)
    (makes : Makes) → ((m n : List ℕ) → makes m n → P m → Q n) → Counts a s
    → OnOk r (EveryImage c w (EndsBy makes a.contents c.contents)) → EveryImage a s (λ x. P (restored x))
    → OnOk r (EveryImage c w (λ x. Q (restored x)))
ends_always r P Q a c s w makes meant counts done all =
    on_ok_weaker r
    (λ d x now.
    let e = some_and a.contents (λ k. IsDoneBy makes (restored k) c.contents x) (d x now) in
    subst Q (sym (shut_restores e.2.made x e.2.settled.shut))
    (meant (restored e.0) e.2.made e.2.given (all e.0 (counts e.0 e.1)))) done

-- the pages that were formed, handed on
pub body_at : (map items now : List ℕ) → now ≡ items → ready (length map) items ≡ true → ready (length map) now ≡ true
body_at map items now is fit = ap (ready (length map)) is ∙ fit

pub makes_at : (makes : Makes) (map items now : List ℕ) → now ≡ items → makes map (carried items map)
    → makes map (carried now map)
makes_at makes map items now is given = subst (λ (l : List ℕ). makes map (carried l map)) (sym is) given
