-- Calls one after the other, and what they add to what a crash may leave.
use Rattle.std.proofs.Common.{◌≡◌, ◌⊎◌, inl, inr, ⊎_elim, ℕ, ◌≤◌, Result, Ok, Some, None, true, is_some, IsSome, sym, ◌∙◌, refl, subst, arith}
use Rattle.std.specs.Result.{IsErr}
use Rattle.std.proofs.lemmas.Result.{IfOk-from_err}
use Rattle.mr_journal.specs.declared.disk.DiskErr.{DiskErr}
use Rattle.mr_journal.specs.Images.{Image, DiskState, Unchanged}
use Rattle.mr_journal.specs.Moments.{ImagesSince, EveryImage, IsAfterStep, AddsOnly, AddsSteps, LeadsThrough}

-- an image of a later time is one of an earlier
abbrev pub Earlier : ImagesSince → Type 0
Earlier now = (t u : ℕ) (c : Image) → t ≤ u → now u c → now t c

pub course_start : (a : DiskState) (s : ImagesSince) (P : Image → Type 0) → AddsOnly a a s s P
course_start a s P = record { later = omega arith; tells_images = refl; told = refl; added = λ t c le x. inl x }

pub course_weaker : (a b : DiskState) (s u : ImagesSince) (P Q : Image → Type 0) → AddsOnly a b s u P
    → ((c : Image) → P c → Q c) → AddsOnly a b s u Q
course_weaker a b s u P Q run weaker = record {
  later = run.later;
  tells_images = run.tells_images;
  told = run.told;
  added = λ t c le x. ⊎_elim (λ y. inl y) (λ y. inr (weaker c y)) (run.added t c le x);
}

pub course_then : (a b c : DiskState) (s u w : ImagesSince) (P Q R : Image → Type 0) → AddsOnly a b s u P
    → AddsOnly b c u w Q → ((x : Image) → P x → R x) → ((x : Image) → Q x → R x) → AddsOnly a c s w R
course_then a b c s u w P Q R first second left right = record {
  later = omega (arith, first.later, second.later);
  tells_images = second.tells_images ∙ first.tells_images;
  told = second.told ∙ first.told;
  added = λ t x le y. ⊎_elim
      (λ z. ⊎_elim (λ v. inl v) (λ p. inr (left x p)) (first.added t x le z))
      (λ q. inr (right x q))
      (second.added t x (omega (arith, le, first.later)) y);
}

-- an image of the moment after is one of the moment before, or was added
pub now_from : (a b : DiskState) (s u : ImagesSince) (P : Image → Type 0) → Earlier u → AddsOnly a b s u P → (x : Image)
    → u b.clock x → s a.clock x ⊎ P x
now_from a b s u P earlier run x now = run.added a.clock x (omega arith) (earlier a.clock b.clock x run.later now)

pub every_after : (a b : DiskState) (s u : ImagesSince) (P Q : Image → Type 0) → Earlier u → AddsOnly a b s u Q
    → EveryImage a s P → ((x : Image) → P x → Q x) → EveryImage b u Q
every_after a b s u P Q earlier run all weaker x now = ⊎_elim (λ y. weaker x (all x y)) (λ q. q)
    (now_from a b s u Q earlier run x now)

-- steps from images that have P
pub moves_course : (a b : DiskState) (s u : ImagesSince) (step : Image → Image → Type 0) (P Q : Image → Type 0)
    → AddsSteps a b s u step → EveryImage a s P → ((d x : Image) → P d → step d x → Q x) → AddsOnly a b s u Q
moves_course a b s u step P Q run all leads = record {
  later = run.later;
  tells_images = run.tells_images;
  told = run.told;
  added = λ t x le y. ⊎_elim (λ z. inl z) (λ z. inr (leads z.0 x (all z.0 z.1) z.2)) (run.added t x le y);
}

-- two calls as one
pub moves_then : (a b c : DiskState) (s u w : ImagesSince) (first second both : Image → Image → Type 0) → Earlier u
    → AddsSteps a b s u first → AddsSteps b c u w second
    → ((d x : Image) → first d x → both d x) → ((d x : Image) → second d x → both d x)
    → ((d e x : Image) → first d e → second e x → both d x) → AddsSteps a c s w both
moves_then a b c s u w first second both earlier one two left right join = record {
  later = omega (arith, one.later, two.later);
  tells_images = two.tells_images ∙ one.tells_images;
  told = two.told ∙ one.told;
  added = λ t x le y. ⊎_elim
      (λ z. ⊎_elim (λ v. inl v) (λ v. inr (v.0, v.1, left v.0 x v.2)) (one.added t x le z))
      (λ z. ⊎_elim (λ v. inr (z.0, v, right z.0 x z.2)) (λ v. inr (v.0, v.1, join v.0 z.0 x v.2 z.2))
      (now_from a b s u (IsAfterStep a s first) earlier one z.0 z.1))
      (two.added t x (omega (arith, le, one.later)) y);
}

abbrev pub answered : {A : Type 0} → A → Result A DiskErr
answered x = Ok x

-- where the first call answered Ok, and the second goes on from there
pub leads_then : {A B : Type 0} (a b c : DiskState) (s u w : ImagesSince) (x : A) (r : Result B DiskErr)
    (P Q R Q' S T : Image → Type 0) → LeadsThrough a b s u (answered x) P Q R → LeadsThrough b c u w r R Q' S
    → ((i : Image) → Q i → T i) → ((i : Image) → Q' i → T i) → LeadsThrough a c s w r P T S
leads_then a b c s u w x r P Q R Q' S T first second left right = record {
  meanwhile = λ all. course_then a b c s u w Q Q' T (first.meanwhile all)
      (second.meanwhile (first.done all)) left right;
  done = λ all. second.done (first.done all);
}

-- where it was refused, and so is the whole
pub leads_refused : {A B : Type 0} (a b : DiskState) (s u : ImagesSince) (q : Result A DiskErr) (r : Result B DiskErr)
    (P Q R T S : Image → Type 0) → IsErr r → LeadsThrough a b s u q P Q R → ((i : Image) → Q i → T i)
    → LeadsThrough a b s u r P T S
leads_refused a b s u q r P Q R T S err first left = record {
  meanwhile = λ all. course_weaker a b s u Q T (first.meanwhile all) left;
  done = λ all. IfOk-from_err r (λ _. EveryImage b u S) err;
}

-- a disk that tells its contents alone: they are what counts as an image
pub contents_move : (a b : DiskState) (step : Image → Image → Type 0) → a.clock ≤ b.clock
    → b.tells_images ≡ a.tells_images → is_some b.contents ≡ is_some a.contents
    → ((k : Image) → b.contents ≡ Some k → (d : Image) × (a.contents ≡ Some d) × step d k)
    → AddsSteps a b (λ t c. a.contents ≡ Some c) (λ t c. b.contents ≡ Some c) step
contents_move a b step later tells_images told from =
    record { later = later; tells_images = tells_images; told = told; added = λ t c le now. inr (from c now) }

-- after a call that changes nothing
pub leads_stays : {A : Type 0} (a b c : DiskState) (s u w : ImagesSince) (r : Result A DiskErr)
    (P P' Q R : Image → Type 0) → Earlier u → AddsSteps a b s u Unchanged
    → ((x : Image) → P x → P' x) → ((x : Image) → P x → Q x) → LeadsThrough b c u w r P' Q R
    → LeadsThrough a c s w r P Q R
leads_stays a b c s u w r P P' Q R earlier moves first kept leads =
    let next : EveryImage a s P → EveryImage b u P' = λ all x now. first x
    (⊎_elim (λ y. all x y) (λ y. subst P (sym y.2) (all y.0 y.1))
    (now_from a b s u (IsAfterStep a s Unchanged) earlier moves x now)) in
    record {
      meanwhile = λ all. course_then a b c s u w Q Q Q
          (moves_course a b s u Unchanged P Q moves all (λ d x p e. subst Q (sym e) (kept d p)))
          (leads.meanwhile (next all)) (λ x q. q) (λ x q. q);
      done = λ all. leads.done (next all);
    }

-- from fewer images
pub leads_from : {A : Type 0} (a b : DiskState) (s u : ImagesSince) (r : Result A DiskErr) (P P' Q R : Image → Type 0)
    → ((x : Image) → P x → P' x) → LeadsThrough a b s u r P' Q R → LeadsThrough a b s u r P Q R
leads_from a b s u r P P' Q R first leads = record {
  meanwhile = λ all. leads.meanwhile (λ x now. first x (all x now));
  done = λ all. leads.done (λ x now. first x (all x now));
}

-- one call that is refused
pub leads_err : {A : Type 0} (a b : DiskState) (s u : ImagesSince) (r : Result A DiskErr)
    (step : Image → Image → Type 0) (P Q R : Image → Type 0) → IsErr r → AddsSteps a b s u step
    → ((d x : Image) → P d → step d x → Q x) → LeadsThrough a b s u r P Q R
leads_err a b s u r step P Q R err moves leads = record {
  meanwhile = λ all. moves_course a b s u step P Q moves all leads;
  done = λ all. IfOk-from_err r (λ _. EveryImage b u R) err;
}

-- an image is told only where the contents are
abbrev pub Held : DiskState → ImagesSince → Type 0
Held at now = (t : ℕ) (c : Image) → now t c → IsSome at.contents

-- where nothing is told, nothing is added
pub course_none : (a b : DiskState) (s u : ImagesSince) (P Q : Image → Type 0) → a.contents ≡ None → Held b u
    → AddsOnly a b s u P → AddsOnly a b s u Q
course_none a b s u P Q none held run = record {
  later = run.later;
  tells_images = run.tells_images;
  told = run.told;
  added = λ t c le x. absurd (not_told a b none run.told (held t c x));
}
  where
    not_told : (a b : DiskState) → a.contents ≡ None → is_some b.contents ≡ is_some a.contents
        → is_some b.contents ≡ true → ⊥
    not_told a b none told is = cc
