-- What is picked is one of the things that a crash may have left.
use Rattle.std.proofs.Common.{◌≡◌, ◌⊎◌, inl, inr, ⊎_elim, ℕ, zero, suc, ◌+◌, ◌<◌, ◌≤◌, min, List, [], ◌∷◌, ◌++◌, length, get_or, take, refl, sym, ap, ◌∙◌, subst, arith}
use Rattle.std.proofs.lemmas.List.{take_more, take_all, length_push, get_or_push, get_or_append_left, get_or_default, take_min}
use Rattle.std.proofs.lemmas.Bool.{cases_eq, cases_lt}
use Rattle.mr_journal.specs.Torn.{Range, IsTouched}
use Rattle.mr_journal.specs.declared.disk.Area.{Area}
use Rattle.mr_journal.specs.declared.mem_disk.Call.{Call}
use Rattle.mr_journal.specs.MemoryDisk.{AreaState, area_after, MayBeLeft}
use Rattle.mr_journal.specs.Picks.{IsGarbledByte, IsGarbled, IsPicked}
use Rattle.mr_journal.specs.private.MemoryLaws.{IsFine}
use Rattle.mr_journal.specs.private.TornLaws.{torn_same}

abbrev LiesIn : Range → ℕ → Type 0
LiesIn r place = (r.0 ≤ place) × (place < r.0 + r.1)

pub touched_at : (rs : List Range) (i place : ℕ) (r : Range) → i < length rs → r ≡ get_or rs i r → LiesIn r place
    → IsTouched rs place
touched_at [] i place r lt is inside = absurd (omega arith)
touched_at (s ∷ rs) zero place r lt is inside = inl (subst (λ (q : Range). LiesIn q place) is inside)
touched_at (s ∷ rs) (suc i) place r lt is inside = inr (touched_at rs i place r (omega arith) is inside)

touched_append : (front back : List Range) (place : ℕ) → IsTouched (front ++ back) place
    → IsTouched front place ⊎ IsTouched back place
touched_append [] back place t = inr t
touched_append (r ∷ front) back place (inl t) = inl (inl t)
touched_append (r ∷ front) back place (inr t) = ⊎_elim (λ x. inl (inr x)) (λ x. inr x)
    (touched_append front back place t)

pub untouched_more : (rs : List Range) (i place : ℕ) (r : Range) → i < length rs → r ≡ get_or rs i r
    → (IsTouched (take i rs) place → ⊥) → (LiesIn r place → ⊥) → IsTouched (take (i + 1) rs) place → ⊥
untouched_more rs i place r lt is before outside t =
    let more : take (i + 1) rs ≡ take i rs ++ r ∷ [] = take_more rs i r lt
    ∙ ap (λ (q : Range). take i rs ++ q ∷ []) (sym is) in
    ⊎_elim before (λ x. ⊎_elim outside (λ y. y) x)
    (touched_append (take i rs) (r ∷ []) place (subst (λ (qs : List Range). IsTouched qs place) more t))

pub untouched_all : (rs : List Range) (i place : ℕ) → length rs ≤ i → (IsTouched (take i rs) place → ⊥)
    → IsTouched rs place → ⊥
untouched_all rs i place le not t = not (subst (λ (qs : List Range). IsTouched qs place) (sym (take_all i rs le)) t)

-- one byte more
pub record GarblesSo (s : AreaState) (bytes : List ℕ) : Type 0 where
  pub within : length bytes ≤ length s.held
  pub each : (i : ℕ) → i < length bytes → IsGarbledByte s i (get_or bytes i 0)

pub garbled_more : (s : AreaState) (bytes after : List ℕ) (byte : ℕ) → after ≡ bytes ++ byte ∷ []
    → length bytes < length s.held → IsGarbledByte s (length bytes) byte → GarblesSo s bytes → GarblesSo s after
garbled_more s bytes after byte is lt here so = subst (GarblesSo s) (sym is) (record {
  within = omega (arith, length_push bytes byte);
  each = λ i le. ⊎_elim
      (λ before. subst (IsGarbledByte s i) (sym (get_or_append_left bytes (byte ∷ []) 0 i before)) (so.each i before))
      (λ last.
      let e : i ≡ length bytes = omega (arith, length_push bytes byte) in
      subst (λ (k : ℕ). IsGarbledByte s k (get_or (bytes ++ byte ∷ []) k 0)) (sym e)
      (subst (IsGarbledByte s (length bytes)) (sym (get_or_push bytes byte 0 (length bytes) refl)) here))
      (cases_lt i (length bytes));
})

garbled_may : (s : AreaState) (bytes : List ℕ) → IsFine s → IsGarbled s bytes → MayBeLeft s bytes
garbled_may s bytes fine b = record {
  no_shorter = omega (arith, b.long, fine.no_shorter);
  no_longer = omega (arith, b.long, fine.no_longer);
  else_stays = λ i lt un. (b.each i (omega (arith, b.long, fine.no_shorter))).kept lt un ∙ fine.else_stays i lt un;
}

pub picked_may : (pick : ℕ) (s : AreaState) (bytes : List ℕ) → IsFine s → IsPicked pick s bytes → MayBeLeft s bytes
picked_may pick s bytes fine p =
    ⊎_elim
    (λ zero. subst (MayBeLeft s) (sym (p.synced zero)) (torn_same s.touched s.synced))
    (λ some. ⊎_elim
    (λ two. garbled_may s bytes fine (p.garbles two))
    (λ other. subst (MayBeLeft s) (sym (p.else_held some other)) fine)
    (cases_eq pick 2))
    (cases_eq pick 0)

pub picked_at : (pick : ℕ) (area : Area) (first first' : List ℕ) (calls lent calls' : List Call) (step n size : ℕ)
    (s : AreaState) (v : List ℕ)
    → s ≡ area_after area first' calls' → first' ≡ first → calls' ≡ take n lent → lent ≡ calls → n ≡ min size step
    → size ≡ length calls → IsPicked pick s v → IsPicked pick (area_after area first (take step calls)) v
picked_at pick area first first' calls lent calls' step n size s v traced same cut whole count long p =
    let few : n ≡ min step (length calls) = omega (arith, count, long) in
    let front : calls' ≡ take step calls = cut ∙ (λ i. take (few i) (whole i)) ∙ take_min step calls in
    subst (λ (t : AreaState). IsPicked pick t v) (traced ∙ (λ i. area_after area (same i) (front i))) p

pub touched_read : (rs : List Range) (i place : ℕ) (d : Range) → i < length rs → LiesIn (get_or rs i d) place
    → IsTouched rs place
touched_read rs i place d lt inside = touched_at rs i place (get_or rs i d) lt
    (get_or_default rs i d (get_or rs i d) lt) inside

pub untouched_read : (rs : List Range) (i place : ℕ) (d : Range) → i < length rs → (IsTouched (take i rs) place → ⊥)
    → (LiesIn (get_or rs i d) place → ⊥) → IsTouched (take (i + 1) rs) place → ⊥
untouched_read rs i place d lt before outside = untouched_more rs i place (get_or rs i d) lt
    (get_or_default rs i d (get_or rs i d) lt) before outside
