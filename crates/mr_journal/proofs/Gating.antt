-- What the steps of an update leave of its images.
use Rattle.std.proofs.Common.{◌≡◌, ◌⊎◌, inl, inr, ⊎_elim, ℕ, suc, ◌+◌, ◌<◌, true, false, eqb, List, [], ◌∷◌, ◌++◌, length, get_or, drop, Option, Some, None, option_map, IfSome, IsSomeAnd, Result, Ok, Err, OnOk, refl, sym, ap, ◌∙◌, subst, arith}
use Rattle.std.proofs.lemmas.List.{ext_get_or, append-nil}
use Rattle.std.proofs.lemmas.Bool.{cases_eq, and_left, and_right, eq-eqb, ne_eqb, cond-true, cond-false}
use Rattle.std.proofs.lemmas.Result.{on_ok_weaker}
use Rattle.mr_outside.specs.Files.{replaced}
use Rattle.mr_journal.specs.declared.disk.Area.TheVariants.{Map, Journal}
use Rattle.mr_journal.specs.declared.disk.DiskErr.{DiskErr}
use Rattle.mr_journal.specs.Images.{Image, DiskState, written, InArea, Unchanged}
use Rattle.mr_journal.specs.Torn.{Torn, TornAt}
use Rattle.mr_journal.specs.Moments.{ImagesSince, EveryImage, IsAfterStep, AddsOnly, AddsSteps, IsDurable, IsOnlyImage, LeadsThrough}
use Rattle.mr_journal.specs.Format.{number_of, entries, pages_fit, put_pages, ready, carried, opens, body_of, is_open, restored}
use Rattle.mr_journal.specs.private.Parsed.{places, with_pages, first_of, gated, IsParsed}
use Rattle.mr_journal.specs.States.{IsShutAt, IsArmedFor, IsSettledAt, EitherOf, RestoresAs}
use Rattle.mr_journal.specs.private.Progress.{HasGate, IsClearedAt, IsInvalidAt, IsFilledBy, IsArmedBy, IsCarriedBy}
use Rattle.mr_journal.proofs.Paging.{placed_more, absorbed, ready_append, carried_append, head_kept, head_put, way_long}
use Rattle.mr_journal.proofs.Running.{Earlier, now_from, every_after, course_weaker, course_then, moves_course, answered}

-- a gate other than 4f
pub shut_gate : (n gate : ℕ) (body : List ℕ) → (gate ≡ 79 → ⊥) → opens n (gate ∷ body) ≡ false
shut_gate n gate body ne = and_left (eqb gate 79) (ready n body) (ne_eqb gate 79 ne)

pub shut_body : (n gate : ℕ) (body : List ℕ) → ready n body ≡ false → opens n (gate ∷ body) ≡ false
shut_body n gate body not = and_right (eqb gate 79) (ready n body) not

not_ready : (n : ℕ) (rest : List ℕ) → ready n (0 ∷ rest) ≡ false
unfolding ready
not_ready n rest = refl

-- the first byte is written over
torn_first : (gate : ℕ) (body new : List ℕ) → TornAt 0 1 (gate ∷ body) new → (g : ℕ) × (new ≡ g ∷ body)
torn_first gate body [] t = absurd (omega (arith, t.no_shorter))
torn_first gate body (g ∷ rest) t =
    let same : rest ≡ body = ext_get_or 0 rest body (omega (arith, t.no_shorter, t.no_longer))
    (λ i lt. t.else_stays (suc i) (omega (arith, t.no_shorter, t.no_longer))
    (λ x. ⊎_elim (λ y. absurd (omega (arith, y.1))) (λ y. y) x)) in
    (g, ap (λ (l : List ℕ). g ∷ l) same)

torn_none : (new : List ℕ) (n : ℕ) → TornAt 0 1 [] new → opens n new ≡ false
unfolding ready
torn_none [] n t = refl
torn_none (g ∷ []) n t = and_right (eqb g 79) false refl
torn_none (g ∷ h ∷ new) n t = absurd (omega (arith, t.no_longer))

-- the bytes behind it are written over
torn_behind : (n gate : ℕ) (body new : List ℕ) → TornAt 1 n (gate ∷ body) new → (b : List ℕ) × (new ≡ gate ∷ b)
torn_behind n gate body [] t = absurd (omega (arith, t.no_shorter))
torn_behind n gate body (g ∷ rest) t =
    let same : g ≡ gate = t.else_stays 0 (omega arith) (λ x. ⊎_elim (λ y. absurd (omega (arith, y.0))) (λ y. y) x) in
    (rest, ap (λ (k : ℕ). k ∷ rest) same)

shut_by : (map : List ℕ) (x : Image) → x.map ≡ map → ((n : ℕ) → n ≡ length map → opens n x.journal ≡ false)
    → IsShutAt map x
shut_by map x is shut = record { map_is = is; shut = shut (length x.map) (ap length is) }

-- one gate is cleared
invalid_lists : (n : ℕ) (old new : List ℕ) → ((gate : ℕ) (body : List ℕ) → old ≡ gate ∷ body → ready n body ≡ false)
    → TornAt 0 1 old new → opens n new ≡ false
invalid_lists n [] new w t = torn_none new n t
invalid_lists n (gate ∷ body) new w t =
    let f = torn_first gate body new t in
    ap (opens n) f.1 ∙ shut_body n f.0 body (w gate body refl)

pub cleared_torn : (map : List ℕ) (d x : Image) → IsInvalidAt map d → InArea Journal (TornAt 0 1) d x → IsShutAt map x
cleared_torn map d x p t =
    shut_by map x (t.1 ∙ p.map_is) (λ n is. invalid_lists n d.journal x.journal
    (λ g b e. subst (λ (m : ℕ). ready m b ≡ false) (sym is) (p.whatever g b e)) t.0)

-- What an image is after a write of the journal that was synced.
pub record Left (a : DiskState) (s : ImagesSince) (b : DiskState) (at : ℕ) (bytes : List ℕ) (x : Image) : Type 0 where
  pub from : Image
  pub was : s a.clock from
  pub map_is : x.map ≡ from.map
  pub held : Image
  pub held_was : s a.clock held
  pub journal_is : x.journal ≡ replaced at bytes held.journal
  pub now_is : b.contents ≡ Some (written Journal at bytes held)

abbrev pub Counts : DiskState → ImagesSince → Type 0
Counts a s = (k : Image) → a.contents ≡ Some k → s a.clock k

pub told_cases : (o : Option Image) → (o ≡ None) ⊎ ((k : Image) × (o ≡ Some k))
told_cases None = inl refl
told_cases (Some k) = inr (k, refl)

pub put_left : (a b : DiskState) (s u : ImagesSince) (at n : ℕ) (bytes : List ℕ) → Earlier u → Counts a s
    → AddsSteps a b s u (InArea Journal (TornAt at n))
    → b.contents ≡ option_map (written Journal at bytes) a.contents → IsDurable Journal b u → (x : Image) → u b.clock x
    → Left a s b at bytes x
put_left a b s u at n bytes earlier counts moves put durable x now =
    let from : (d : Image) × s a.clock d × (x.map ≡ d.map) =
    ⊎_elim (λ y. (x, y, refl)) (λ y. (y.0, y.1, y.2.1))
    (now_from a b s u (IsAfterStep a s (InArea Journal (TornAt at n))) earlier moves x now) in
    ⊎_elim
    (λ none. absurd (subst (λ (o : Option Image). IsSomeAnd o (λ k. x.journal ≡ k.journal))
    (put ∙ ap (option_map (written Journal at bytes)) none) (durable x now)))
    (λ some.
    let is : b.contents ≡ Some (written Journal at bytes some.0) = put
    ∙ ap (option_map (written Journal at bytes)) some.1 in
    record {
      from = from.0;
      was = from.1;
      map_is = from.2;
      held = some.0;
      held_was = counts some.0 some.1;
      journal_is = subst (λ (o : Option Image). IsSomeAnd o (λ k. x.journal ≡ k.journal)) is (durable x now);
      now_is = is;
    })
    (told_cases a.contents)

pub cleared_left : (a b : DiskState) (s : ImagesSince) (map : List ℕ) (x : Image) → EveryImage a s (IsInvalidAt map)
    → Left a s b 0 (0 ∷ []) x → IsClearedAt map x
cleared_left a b s map x all l = record {
  map_is = l.map_is ∙ (all l.from l.was).map_is;
  gate = record { body = drop 1 l.held.journal; is = l.journal_is };
}

-- a version is written over
abbrev pub HasShutGate : List ℕ → ℕ → Image → Type 0
HasShutGate map gate c = IsShutAt map c × HasGate gate c

pub invalid_torn : (map : List ℕ) (gate n : ℕ) → (gate ≡ 79 → ⊥) → (d x : Image) → HasShutGate map gate d
    → InArea Journal (TornAt 1 n) d x → IsShutAt map x
invalid_torn map gate n ne d x p t =
    let f = torn_behind n gate p.1.body x.journal (subst (λ (j : List ℕ). TornAt 1 n j x.journal) p.1.is t.0) in
    shut_by map x (t.1 ∙ p.0.map_is) (λ m is. ap (opens m) f.1 ∙ shut_gate m gate f.0 ne)

tail_is : (g h : ℕ) (b c : List ℕ) → g ∷ b ≡ h ∷ c → b ≡ c
tail_is g h b c e = cc

pub invalid_left : (a b : DiskState) (s : ImagesSince) (map : List ℕ) (gate : ℕ) (x : Image)
    → EveryImage a s (HasShutGate map gate) → Left a s b 1 (0 ∷ []) x → IsInvalidAt map x
invalid_left a b s map gate x all l =
    let h = (all l.held l.held_was).1 in
    let journal : x.journal ≡ gate ∷ 0 ∷ drop 1 h.body = l.journal_is ∙ ap (replaced 1 (0 ∷ [])) h.is in
    record {
      map_is = l.map_is ∙ (all l.from l.was).0.map_is;
      whatever = λ g body e. subst (λ (c : List ℕ). ready (length map) c ≡ false)
          (tail_is gate g (0 ∷ drop 1 h.body) body (sym journal ∙ e)) (not_ready (length map) (drop 1 h.body));
    }

-- a body is filled in
zero_gate : (g : ℕ) → g ≡ 0 → g ≡ 79 → ⊥
zero_gate g a b = omega arith

pub filled_torn : (map : List ℕ) (n : ℕ) (d x : Image) → IsClearedAt map d → InArea Journal (TornAt 1 n) d x
    → IsShutAt map x
filled_torn map n d x p t =
    let f = torn_behind n 0 p.gate.body x.journal (subst (λ (j : List ℕ). TornAt 1 n j x.journal) p.gate.is t.0) in
    shut_by map x (t.1 ∙ p.map_is) (λ m is. ap (opens m) f.1 ∙ shut_gate m 0 f.0 (zero_gate 0 refl))

pub filled_left : (a b : DiskState) (s : ImagesSince) (map body : List ℕ) (x : Image) → EveryImage a s (IsClearedAt map)
    → Left a s b 1 body x → IsFilledBy body map x
filled_left a b s map body x all l =
    let h = (all l.held l.held_was).gate in
    record {
      map_is = l.map_is ∙ (all l.from l.was).map_is;
      filled = record { rest = drop (1 + length body) (0 ∷ h.body); is = l.journal_is ∙ ap (replaced 1 body) h.is };
    }

-- an armed image restores to the map that its body makes
pub armed_for : (body map : List ℕ) (x : Image) → IsArmedBy body map x → IsArmedFor map x
unfolding restored
armed_for body map x p =
    let is_opened : is_open x ≡ true = ap (opens (length x.map)) p.open_by.is
    ∙ ready_append (length x.map) body p.open_by.rest p.fit in
    record {
      armed = is_opened;
      restores =
          cond-true (is_open x) (carried (body_of x.journal) x.map) x.map is_opened
          ∙ ap (λ (j : List ℕ). carried (body_of j) x.map) p.open_by.is
          ∙ carried_append (length x.map) body p.open_by.rest x.map p.fit
          ∙ p.makes;
    }

pub shut_restores : (map : List ℕ) (x : Image) → IsShutAt map x → restored x ≡ map
unfolding restored
shut_restores map x p = cond-false (is_open x) (carried (body_of x.journal) x.map) x.map p.shut ∙ p.map_is

-- a gate is opened
pub opened_torn : (body map : List ℕ) → ready (length map) body ≡ true → (d x : Image) → IsFilledBy body map d
    → InArea Journal (TornAt 0 1) d x → EitherOf (IsShutAt map) (IsArmedFor (carried body map)) x
opened_torn body map fit d x p t =
    let f = torn_first 0 (body ++ p.filled.rest) x.journal
    (subst (λ (j : List ℕ). TornAt 0 1 j x.journal) p.filled.is t.0) in
    let map_is = t.1 ∙ p.map_is in
    ⊎_elim
    (λ e. inr (armed_for body (carried body map) x (record {
      open_by = record { rest = p.filled.rest; is = f.1 ∙ ap (λ (g : ℕ). g ∷ (body ++ p.filled.rest)) e };
      fit = ap (λ (m : List ℕ). ready (length m) body) map_is ∙ fit;
      makes = ap (carried body) map_is;
    })))
    (λ ne. inl (shut_by map x map_is (λ m is. ap (opens m) f.1 ∙ shut_gate m f.0 (body ++ p.filled.rest) ne)))
    (cases_eq f.0 79)

pub opened_left : (a b : DiskState) (s : ImagesSince) (body map : List ℕ) → ready (length map) body ≡ true → (x : Image)
    → EveryImage a s (IsFilledBy body map) → Left a s b 0 (79 ∷ []) x → IsArmedBy body (carried body map) x
opened_left a b s body map fit x all l =
    let h = (all l.held l.held_was).filled in
    let map_is = l.map_is ∙ (all l.from l.was).map_is in
    record {
      open_by = record { rest = h.rest; is = l.journal_is ∙ ap (replaced 0 (79 ∷ [])) h.is };
      fit = ap (λ (m : List ℕ). ready (length m) body) map_is ∙ fit;
      makes = ap (carried body) map_is;
    }

-- a gate is closed
pub closed_torn : (body map : List ℕ) (d x : Image) → IsCarriedBy body map d → InArea Journal (TornAt 0 1) d x
    → EitherOf (IsShutAt map) (IsArmedFor map) x
closed_torn body map d x p t =
    let o = p.armed.open_by in
    let f = torn_first 79 (body ++ o.rest) x.journal (subst (λ (j : List ℕ). TornAt 0 1 j x.journal) o.is t.0) in
    ⊎_elim
    (λ e. inr (armed_for body map x (record {
      open_by = record { rest = o.rest; is = f.1 ∙ ap (λ (g : ℕ). g ∷ (body ++ o.rest)) e };
      fit = ap (λ (m : List ℕ). ready (length m) body) t.1 ∙ p.armed.fit;
      makes = ap (carried body) t.1 ∙ p.armed.makes;
    })))
    (λ ne. inl (shut_by map x (t.1 ∙ p.map_is) (λ m is. ap (opens m) f.1 ∙ shut_gate m f.0 (body ++ o.rest) ne)))
    (cases_eq f.0 79)

same_image : (x k : Image) → x.map ≡ k.map → x.journal ≡ k.journal → k ≡ x
same_image x k m j = λ i. record { map = sym m i; journal = sym j i }

pub closed_left : (a b : DiskState) (s : ImagesSince) (body map : List ℕ) (x : Image)
    → EveryImage a s (IsCarriedBy body map) → Left a s b 0 (0 ∷ []) x → IsSettledAt map b.contents x
closed_left a b s body map x all l =
    let map_is = l.map_is ∙ (all l.from l.was).map_is in
    record {
      shut = shut_by map x map_is (λ m is. ap (opens m) l.journal_is
          ∙ shut_gate m 0 (drop 1 l.held.journal) (zero_gate 0 refl));
      is = l.now_is ∙ ap Some (same_image x (written Journal 0 (0 ∷ []) l.held)
          (map_is ∙ sym (all l.held l.held_was).map_is) l.journal_is);
    }

-- pages are written over
pub armed_torn : (body : List ℕ) (size count : ℕ) (bytes : List ℕ) → IsParsed body size count bytes
    → (map : List ℕ) (d x : Image)
    → IsArmedBy body map d → InArea Map (Torn (places size (entries size count bytes))) d x → IsArmedBy body map x
armed_torn body size count bytes p map d x a t =
    let fit : pages_fit size 0 (length d.map) (entries size count bytes) ≡ true = sym (p.fits (length d.map)) ∙ a.fit in
    record {
      open_by = record { rest = a.open_by.rest; is = t.1 ∙ a.open_by.is };
      fit = p.fits (length x.map) ∙ placed_more size 0 (length d.map) (length x.map) (entries size count bytes)
          t.0.no_shorter fit;
      makes = p.makes x.map ∙ absorbed size 0 (entries size count bytes) d.map x.map fit t.0
          ∙ sym (p.makes d.map) ∙ a.makes;
    }

pub carried_left : (body : List ℕ) (size count : ℕ) (bytes : List ℕ) → IsParsed body size count bytes
    → (map : List ℕ) (a c : DiskState) (s w : ImagesSince)
    → Counts a s → EveryImage a s (IsArmedBy body map)
    → c.contents ≡ option_map (with_pages size (entries size count bytes)) a.contents → IsDurable Map c w
    → (x : Image) → w c.clock x → IsArmedBy body map x → IsCarriedBy body map x
carried_left body size count bytes p map a c s w counts all put durable x now armed =
    ⊎_elim
    (λ none. absurd (subst (λ (o : Option Image). IsSomeAnd o (λ k. x.map ≡ k.map))
    (put ∙ ap (option_map (with_pages size (entries size count bytes))) none) (durable x now)))
    (λ some. record {
      armed = armed;
      map_is = subst (λ (o : Option Image). IsSomeAnd o (λ k. x.map ≡ k.map))
          (put ∙ ap (option_map (with_pages size (entries size count bytes))) some.1) (durable x now)
          ∙ sym (p.makes some.0.map) ∙ (all some.0 (counts some.0 some.1)).makes;
    })
    (told_cases a.contents)

-- both areas are synced
both_parts : (o : Option Image) (x : Image) → IsSomeAnd o (λ k. x.map ≡ k.map)
    → IsSomeAnd o (λ k. x.journal ≡ k.journal) → o ≡ Some x
both_parts None x m j = absurd m
both_parts (Some k) x m j = ap Some (same_image x k m j)

pub now_same : (a b : DiskState) (s u : ImagesSince) → Earlier u → AddsSteps a b s u Unchanged → (x : Image)
    → u b.clock x → s a.clock x
now_same a b s u earlier moves x now =
    ⊎_elim (λ y. y) (λ y. subst (λ (i : Image). s a.clock i) (sym y.2) y.1)
    (now_from a b s u (IsAfterStep a s Unchanged) earlier moves x now)

pub settled_only : (b c : DiskState) (u w : ImagesSince) → Earlier w → AddsSteps b c u w Unchanged
    → c.contents ≡ b.contents → IsDurable Map b u → IsDurable Journal c w → IsOnlyImage c w
settled_only b c u w earlier moves same first second x now =
    both_parts c.contents x
    (subst (λ (o : Option Image). IsSomeAnd o (λ k. x.map ≡ k.map)) (sym same)
    (first x (now_same b c u w earlier moves x now)))
    (second x now)

pub restores_or : (map : List ℕ) (x : Image) → EitherOf (IsShutAt map) (IsArmedFor map) x → restored x ≡ map
restores_or map x (inl shut) = shut_restores map x shut
restores_or map x (inr armed) = armed.restores

-- what is read again, restores as before
pub restores_same : (a b : DiskState) (s u : ImagesSince) → AddsSteps a b s u Unchanged
    → AddsOnly a b s u (RestoresAs a s)
restores_same a b s u moves = course_weaker a b s u (IsAfterStep a s Unchanged) (RestoresAs a s) moves
    (λ x y. (y.0, y.1, ap restored y.2))

-- a journal that isn't open
pub kept_done : (a b : DiskState) (s u : ImagesSince) → Earlier u → AddsSteps a b s u Unchanged
    → b.contents ≡ a.contents → IsOnlyImage a s
    → ((k : Image) → a.contents ≡ Some k → is_open k ≡ false) → (x : Image) → u b.clock x
    → IsSomeAnd a.contents (λ k. IsSettledAt (restored k) b.contents x)
kept_done a b s u earlier moves same only shut x now =
    let is : a.contents ≡ Some x = only x (now_same a b s u earlier moves x now) in
    let closed = shut x is in
    subst (λ (o : Option Image). IsSomeAnd o (λ k. IsSettledAt (restored k) b.contents x)) (sym is)
    (record {
      shut = record { map_is = sym (shut_restores x.map x (record { map_is = refl; shut = closed })); shut = closed };
      is = same ∙ is;
    })

some_is : (k x : Image) (o : Option Image) → o ≡ Some k → o ≡ Some x → x ≡ k
some_is k x o a b = cc

none_some : (x : Image) (o : Option Image) → o ≡ None → o ≡ Some x → ⊥
none_some x o a b = cc

two_maps : (x : Image) → restored x ≡ [] → restored x ≡ 0 ∷ [] → ⊥
two_maps x a b = cc

two_lists : (l : List ℕ) → l ≡ [] → l ≡ 0 ∷ [] → ⊥
two_lists l a b = cc

pub armed_whole : (body : List ℕ) (k : Image) → k.journal ≡ 79 ∷ body → ready (length k.map) body ≡ true
    → IsArmedBy body (restored k) k
unfolding restored
armed_whole body k is fit =
    let whole : k.journal ≡ 79 ∷ (body ++ []) = is ∙ ap (λ (b : List ℕ). 79 ∷ b) (sym (append-nil body)) in
    let opened : is_open k ≡ true = ap (opens (length k.map)) is ∙ fit in
    record {
      open_by = record { rest = []; is = whole };
      fit = fit;
      makes = sym (cond-true (is_open k) (carried (body_of k.journal) k.map) k.map opened
          ∙ ap (λ (j : List ℕ). carried (body_of j) k.map) is);
    }

-- an open journal that is carried out
module _ (a b c : DiskState) (s u w : ImagesSince) (earlier : Earlier u) (moves : AddsSteps a b s u Unchanged)
    (body : List ℕ) where
  abbrev Opened : Type 0
  Opened = (k : Image) → a.contents ≡ Some k → (k.journal ≡ 79 ∷ body) × (ready (length k.map) body ≡ true)

  armed_only : IsOnlyImage a s → Opened → (k : Image) → a.contents ≡ Some k
      → EveryImage b u (IsArmedBy body (restored k))
  armed_only only opened k is x now =
      let o = only x (now_same a b s u earlier moves x now) in
      let e : x ≡ k = some_is k x a.contents is o in
      let f = opened k is in
      subst (λ (i : Image). IsArmedBy body (restored k) i) (sym e) (armed_whole body k f.0 f.1)

  pub carried_course : {A : Type 0} (r : Result A DiskErr) → Counts a s → IsOnlyImage a s → Opened
      → ((map : List ℕ) → LeadsThrough b c u w r (IsArmedBy body map) (EitherOf (IsShutAt map) (IsArmedFor map))
      (IsSettledAt map c.contents))
      → AddsOnly a c s w (RestoresAs a s)
  carried_course r counts only opened leads =
      ⊎_elim
      (λ none.
      let first = (leads []).meanwhile (λ x now. absurd
      (none_some x a.contents none (only x (now_same a b s u earlier moves x now)))) in
      let second = (leads (0 ∷ [])).meanwhile
      (λ x now. absurd (none_some x a.contents none (only x (now_same a b s u earlier moves x now)))) in
      record {
        later = omega (arith, moves.later, first.later);
        tells_images = first.tells_images ∙ moves.tells_images;
        told = first.told ∙ moves.told;
        added = λ t x le y. ⊎_elim
            (λ z. (restores_same a b s u moves).added t x le z)
            (λ p. ⊎_elim
            (λ z. (restores_same a b s u moves).added t x le z)
            (λ q. absurd (two_maps x (restores_or [] x p) (restores_or (0 ∷ []) x q)))
            (second.added t x (omega (arith, le, moves.later)) y))
            (first.added t x (omega (arith, le, moves.later)) y);
      })
      (λ some.
      course_then a b c s u w (RestoresAs a s) (EitherOf (IsShutAt (restored some.0)) (IsArmedFor (restored some.0)))
      (RestoresAs a s)
      (restores_same a b s u moves) ((leads (restored some.0)).meanwhile (armed_only only opened some.0 some.1))
      (λ x p. p) (λ x q. (some.0, counts some.0 some.1, restores_or (restored some.0) x q)))
      (told_cases a.contents)

  pub carried_done : {A : Type 0} (v : A) → IsOnlyImage a s → Opened
      → ((map : List ℕ) → LeadsThrough b c u w (answered v) (IsArmedBy body map)
      (EitherOf (IsShutAt map) (IsArmedFor map)) (IsSettledAt map c.contents))
      → EveryImage c w (λ x. IsSomeAnd a.contents (λ k. IsSettledAt (restored k) c.contents x))
  carried_done v only opened leads x now =
      ⊎_elim
      (λ none.
      let no : EveryImage b u (IsArmedBy body []) = λ y n. absurd
      (none_some y a.contents none (only y (now_same a b s u earlier moves y n))) in
      let not : EveryImage b u (IsArmedBy body (0 ∷ [])) = λ y n. absurd
      (none_some y a.contents none (only y (now_same a b s u earlier moves y n))) in
      absurd (two_lists x.map (((leads []).done no x now).shut.map_is) (((leads (0 ∷ [])).done not x now).shut.map_is)))
      (λ some. subst (λ (o : Option Image). IsSomeAnd o (λ k. IsSettledAt (restored k) c.contents x)) (sym some.1)
      ((leads (restored some.0)).done (armed_only only opened some.0 some.1) x now))
      (told_cases a.contents)

-- a write of the journal that is synced
pub leads_put : (a b : DiskState) (s u : ImagesSince) (at n : ℕ) (bytes : List ℕ) (r : Result (Unit {0}) DiskErr)
    (P Q R : Image → Type 0) → Earlier u → Counts a s → AddsSteps a b s u (InArea Journal (TornAt at n))
    → OnOk r (b.contents ≡ option_map (written Journal at bytes) a.contents) → OnOk r (IsDurable Journal b u)
    → ((d x : Image) → P d → InArea Journal (TornAt at n) d x → Q x)
    → ((x : Image) → EveryImage a s P → Left a s b at bytes x → R x) → LeadsThrough a b s u r P Q R
leads_put a b s u at n bytes (Ok v) P Q R earlier counts moves put durable torn left = record {
  meanwhile = λ all. moves_course a b s u (InArea Journal (TornAt at n)) P Q moves all torn;
  done = λ all x now. left x all (put_left a b s u at n bytes earlier counts moves put durable x now);
}
leads_put a b s u at n bytes (Err e) P Q R earlier counts moves put durable torn left = record {
  meanwhile = λ all. moves_course a b s u (InArea Journal (TornAt at n)) P Q moves all torn;
  done = λ all. tt;
}

-- an open gate, of a journal that isn't open
pub invalid_open : (map : List ℕ) (gate : ℕ) → gate ≡ 79 → (x : Image) → HasShutGate map gate x → IsInvalidAt map x
invalid_open map gate is x p = record {
  map_is = p.0.map_is;
  whatever = λ g b e.
      let same : x.journal ≡ 79 ∷ b = open_journal x.journal gate g p.1.body b p.1.is e is in
      ap (λ (m : List ℕ). ready (length m) b) (sym p.0.map_is) ∙ sym (ap (opens (length x.map)) same) ∙ p.0.shut;
}
  where
    open_journal : (j : List ℕ) (gate g : ℕ) (c b : List ℕ) → j ≡ gate ∷ c → j ≡ g ∷ b → gate ≡ 79 → j ≡ 79 ∷ b
    open_journal j gate g c b p q is = cc

none_first : (j : List ℕ) (g : ℕ) (b : List ℕ) → None ≡ first_of j → j ≡ g ∷ b → ⊥
none_first [] g b n e = cc
none_first (h ∷ t) g b n e = cc

some_first : (j : List ℕ) (g : ℕ) → Some g ≡ first_of j → (b : List ℕ) × (j ≡ g ∷ b)
some_first [] g n = absurd cc
some_first (h ∷ t) g n = let e : h ≡ g = cc in (t, ap (λ (k : ℕ). k ∷ t) e)

pub invalid_none : (map : List ℕ) (contents : Option Image) → IfSome contents (λ k. None ≡ first_of k.journal)
    → (x : Image) → IsSettledAt map contents x → IsInvalidAt map x
invalid_none map contents gate x p =
    let first = subst (λ (o : Option Image). IfSome o (λ k. None ≡ first_of k.journal)) p.is gate in
    record { map_is = p.shut.map_is; whatever = λ g b e. absurd (none_first x.journal g b first e) }

pub gated_some : (map : List ℕ) (contents : Option Image) (gate : ℕ)
    → IfSome contents (λ k. Some gate ≡ first_of k.journal) → (x : Image) → IsSettledAt map contents x
    → HasShutGate map gate x
gated_some map contents gate is x p =
    let first = subst (λ (o : Option Image). IfSome o (λ k. Some gate ≡ first_of k.journal)) p.is is in
    let f = some_first x.journal gate first in
    (p.shut, record { body = f.0; is = f.1 })

-- pages that are written and synced
pub carry_leads : (a b c : DiskState) (s u w : ImagesSince) (body : List ℕ) (size count : ℕ) (bytes : List ℕ)
    (r : Result (Unit {0}) DiskErr) → IsParsed body size count bytes → Earlier u → Earlier w → Counts a s
    → AddsSteps a b s u (InArea Map (Torn (places size (entries size count bytes))))
    → b.contents ≡ option_map (with_pages size (entries size count bytes)) a.contents
    → AddsSteps b c u w Unchanged → c.contents ≡ b.contents → OnOk r (IsDurable Map c w) → (map : List ℕ)
    → LeadsThrough a c s w r (IsArmedBy body map) (IsArmedBy body map) (IsCarriedBy body map)
carry_leads a b c s u w body size count bytes r p early earlier counts moves put stays same durable map =
    let P = IsArmedBy body map in
    let first : EveryImage a s P → AddsOnly a b s u P = λ all. moves_course a b s u
    (InArea Map (Torn (places size (entries size count bytes)))) P P moves all
    (armed_torn body size count bytes p map) in
    let course : EveryImage a s P → AddsOnly a c s w P = λ all. course_then a b c s u w P P P (first all)
    (moves_course b c u w Unchanged P P stays (every_after a b s u P P early (first all) all (λ x q. q))
    (λ d x q e. subst P (sym e) q)) (λ x q. q) (λ x q. q) in
    record {
      meanwhile = course;
      done = λ all. on_ok_weaker r (λ d x now. carried_left body size count bytes p map a c s w counts all (same ∙ put)
          d x now (every_after a c s w P P earlier (course all) all (λ y q. q) x now)) durable;
    }

-- what is read of a journal
gated_all : (gate : ℕ) (body : List ℕ) → gate ≡ 79 → gated (gate ∷ body) ≡ gate ∷ body
gated_all gate body is = cond-true (eqb gate 79) (gate ∷ body) [] (eq-eqb gate 79 is)

gated_none : (gate : ℕ) (body : List ℕ) → (gate ≡ 79 → ⊥) → gated (gate ∷ body) ≡ []
gated_none gate body ne = cond-false (eqb gate 79) (gate ∷ body) [] (ne_eqb gate 79 ne)

gated_opens : (n : ℕ) (journal : List ℕ) → opens n (gated journal) ≡ opens n journal
gated_opens n [] = refl
gated_opens n (gate ∷ body) = ⊎_elim
    (λ is. ap (opens n) (gated_all gate body is))
    (λ ne. ap (opens n) (gated_none gate body ne) ∙ sym (shut_gate n gate body ne))
    (cases_eq gate 79)

none_whole : (body : List ℕ) → [] ≡ 79 ∷ body → ⊥
none_whole body e = cc

gated_whole : (journal body : List ℕ) → gated journal ≡ 79 ∷ body → journal ≡ 79 ∷ body
gated_whole [] body e = e
gated_whole (gate ∷ rest) body e = ⊎_elim
    (λ is. sym (gated_all gate rest is) ∙ e)
    (λ ne. absurd (none_whole body (sym (gated_none gate rest ne) ∙ e)))
    (cases_eq gate 79)

-- it restores to the same map
gated_restores : (map journal : List ℕ)
    → restored (record { map = map; journal = gated journal }) ≡ restored (record { map = map; journal = journal })
gated_restores map [] = refl
gated_restores map (gate ∷ body) = ⊎_elim
    (λ is. ap (λ (j : List ℕ). restored (record { map = map; journal = j })) (gated_all gate body is))
    (λ ne.
    let shut = shut_gate (length map) gate body ne in
    shut_restores map (record { map = map; journal = gated (gate ∷ body) })
    (record { map_is = refl; shut = gated_opens (length map) (gate ∷ body) ∙ shut })
    ∙ sym (shut_restores map (record { map = map; journal = gate ∷ body })
    (record { map_is = refl; shut = shut })))
    (cases_eq gate 79)

-- what was read says whether the journal is open
abbrev IsRead : List ℕ → ℕ → Option Image → Type 0
IsRead journal n contents = IfSome contents (λ k. (journal ≡ gated k.journal) × (n ≡ length k.map))

read_some : (journal : List ℕ) (n : ℕ) (contents : Option Image) (k : Image) → IsRead journal n contents
    → contents ≡ Some k → (journal ≡ gated k.journal) × (n ≡ length k.map)
read_some journal n contents k read is = subst (λ (o : Option Image). IsRead journal n o) is read

pub shut_read : (journal : List ℕ) (n : ℕ) (contents : Option Image) → IsRead journal n contents
    → opens n journal ≡ false → (k : Image) → contents ≡ Some k → is_open k ≡ false
shut_read journal n contents read shut k is =
    let r = read_some journal n contents k read is in
    sym (gated_opens (length k.map) k.journal) ∙ (λ i. opens (sym r.1 i) (sym r.0 i)) ∙ shut

pub opened_read : (journal : List ℕ) (n : ℕ) (contents : Option Image) (body : List ℕ) → IsRead journal n contents
    → journal ≡ 79 ∷ body → ready n body ≡ true
    → (k : Image) → contents ≡ Some k → (k.journal ≡ 79 ∷ body) × (ready (length k.map) body ≡ true)
opened_read journal n contents body read is fit k some =
    let r = read_some journal n contents k read some in
    (gated_whole k.journal body (sym r.0 ∙ is), ap (λ (m : ℕ). ready m body) (sym r.1) ∙ fit)

pub ready_read : (journal : List ℕ) (n : ℕ) (contents : Option Image) (body : List ℕ) → IsRead journal n contents
    → ready n body ≡ true → IfSome contents (λ k. ready (length k.map) body ≡ true)
ready_read journal n None body read fit = read
ready_read journal n (Some k) body read fit = ap (λ (m : ℕ). ready m body) (sym read.1) ∙ fit

pub answer_shut : (journal : List ℕ) (n : ℕ) (contents : Option Image) → IsRead journal n contents
    → opens n journal ≡ false → IfSome contents (λ k. false ≡ is_open k)
answer_shut journal n None read shut = read
answer_shut journal n (Some k) read shut = sym (shut_read journal n (Some k) read shut k refl)

pub answer_open : (journal : List ℕ) (n : ℕ) (contents : Option Image) (body : List ℕ) → IsRead journal n contents
    → journal ≡ 79 ∷ body → ready n body ≡ true → IfSome contents (λ k. true ≡ is_open k)
answer_open journal n None body read is fit = read
answer_open journal n (Some k) body read is fit =
    let o = opened_read journal n (Some k) body read is fit k refl in
    sym (ap (opens (length k.map)) o.0 ∙ o.1)

-- byte 4 of the restored map
pub head_shut : (map journal : List ℕ) (n : ℕ) → length map ≡ n → opens n journal ≡ false
    → get_or (restored (record { map = map; journal = journal })) 4 0 ≡ get_or map 4 0
head_shut map journal n is shut =
    ap (λ (m : List ℕ). get_or m 4 0) (shut_restores map (record { map = map; journal = journal })
    (record { map_is = refl; shut = ap (λ (k : ℕ). opens k journal) is ∙ shut }))

restored_parsed : (map journal body : List ℕ) (n size count : ℕ) (bytes : List ℕ) → length map ≡ n → journal ≡ 79 ∷ body
    → ready n body ≡ true → IsParsed body size count bytes
    → restored (record { map = map; journal = journal }) ≡ put_pages size (entries size count bytes) map
restored_parsed map journal body n size count bytes long is fit p =
    sym (armed_whole body (record { map = map; journal = journal }) is
    (ap (λ (k : ℕ). ready k body) long ∙ fit)).makes ∙ p.makes map

placed_in : (map body : List ℕ) (n size count : ℕ) (bytes : List ℕ) → length map ≡ n → ready n body ≡ true
    → IsParsed body size count bytes → pages_fit size 0 (length map) (entries size count bytes) ≡ true
placed_in map body n size count bytes long fit p = sym (p.fits (length map)) ∙ ap (λ (k : ℕ). ready k body) long ∙ fit

pub head_same : (map journal body : List ℕ) (n size count : ℕ) (bytes : List ℕ) → length map ≡ n → journal ≡ 79 ∷ body
    → ready n body ≡ true → IsParsed body size count bytes → (number_of bytes ≡ 0 → ⊥)
    → get_or (restored (record { map = map; journal = journal })) 4 0 ≡ get_or map 4 0
head_same map journal body n size count bytes long is fit p some =
    ap (λ (m : List ℕ). get_or m 4 0) (restored_parsed map journal body n size count bytes long is fit p)
    ∙ head_kept size count bytes map p.large (placed_in map body n size count bytes long fit p) some

pub head_first : (map journal body : List ℕ) (n size count : ℕ) (bytes : List ℕ) → length map ≡ n → journal ≡ 79 ∷ body
    → ready n body ≡ true → IsParsed body size count bytes → number_of bytes ≡ 0
    → get_or (restored (record { map = map; journal = journal })) 4 0 ≡ get_or bytes 8 0
head_first map journal body n size count bytes long is fit p none =
    ap (λ (m : List ℕ). get_or m 4 0) (restored_parsed map journal body n size count bytes long is fit p)
    ∙ head_put size count bytes map p.large p.some (placed_in map body n size count bytes long fit p) none

pub head_there : (body : List ℕ) (n size count : ℕ) (bytes : List ℕ) → ready n body ≡ true
    → IsParsed body size count bytes → 8 < length bytes
head_there body n size count bytes fit p =
    omega (arith, p.large, way_long size 0 n count bytes p.small.0 (omega (arith, p.some)) (sym (p.fits n) ∙ fit))

-- byte 4 of the map to which a disk restores, by what was read of its journal
pub version_first : (journal : List ℕ) (n : ℕ) (contents : Option Image) (byte : ℕ) → IsRead journal n contents
    → ((map : List ℕ) → length map ≡ n → get_or (restored (record { map = map; journal = journal })) 4 0 ≡ byte)
    → IfSome contents (λ k. eqb byte 2 ≡ eqb (get_or (restored k) 4 0) 2)
version_first journal n None byte read first = read
version_first journal n (Some k) byte read first =
    ap (λ (b : ℕ). eqb b 2) (sym (first k.map (sym read.1))
    ∙ ap (λ (j : List ℕ). get_or (restored (record { map = k.map; journal = j })) 4 0) read.0
    ∙ ap (λ (m : List ℕ). get_or m 4 0) (gated_restores k.map k.journal))

pub version_same : (journal : List ℕ) (n : ℕ) (contents : Option Image) (byte : ℕ) → IsRead journal n contents
    → ((map : List ℕ) → length map ≡ n
    → get_or (restored (record { map = map; journal = journal })) 4 0 ≡ get_or map 4 0)
    → IfSome contents (λ k. byte ≡ get_or k.map 4 0)
    → IfSome contents (λ k. eqb byte 2 ≡ eqb (get_or (restored k) 4 0) 2)
version_same journal n None byte read same held = read
version_same journal n (Some k) byte read same held =
    ap (λ (b : ℕ). eqb b 2) (held ∙ sym (same k.map (sym read.1))
    ∙ ap (λ (j : List ℕ). get_or (restored (record { map = k.map; journal = j })) 4 0) read.0
    ∙ ap (λ (m : List ℕ). get_or m 4 0) (gated_restores k.map k.journal))
