-- A directory follows the records that were put into it.
use Rattle.std.proofs.Common.{◌≡◌, ℕ, ◌+◌, ◌<◌, ◌≢◌, true, false, cond, eqb, List, [], ◌∷◌, ◌++◌, length, get_or, take, Option, Some, None, refl, sym, ap, subst, ◌∙◌, arith, ⊎_elim, AllPairs, is_some}
use Rattle.std.proofs.lemmas.Bool.{eq-eqb, ne_eqb, both_ways, or_parts, cases_Bool, eqb-true}
use Rattle.std.proofs.lemmas.List.{take_more, length_push, length-take, get_or-take, get_or_default}
use Rattle.std.proofs.lemmas.List.Folds.{list_any_none}
use Rattle.mr_geom.specs.Rectangle.{Rectangle}
use Rattle.mr_record.specs.declared.record.Record.{Record}
use Rattle.mr_record.specs.RecordText.{has_number}
use Rattle.mr_batch.specs.Directory.{DirectoryEntries, rect_at, rect_in, IsDirectoryOf}

pub rect_in-push : (rs : List Record) (r : Record) (n : ℕ) → has_number r.number rs ≡ false →
    rect_in (rs ++ r ∷ []) n ≡ cond (eqb r.number n) (Some r.rect) (rect_in rs n)
rect_in-push [] r n new = refl
rect_in-push (s ∷ rs) r n new =
    let parts = or_parts (eqb s.number r.number) (has_number r.number rs) new in
    let ih = rect_in-push rs r n parts.1 in
    ⊎_elim
    (λ (t : eqb s.number n ≡ true).
    let f : eqb r.number n ≡ false = ne_eqb r.number n
    (λ e. both_ways (eqb s.number r.number) parts.0 (eq-eqb s.number r.number (eqb-true s.number n t ∙ sym e))) in
    rw (t, f) refl)
    (λ (f : eqb s.number n ≡ false). rw f ih) (cases_Bool (eqb s.number n))

pub rect_in-absent : (rs : List Record) (n : ℕ) → has_number n rs ≡ false → rect_in rs n ≡ None
rect_in-absent [] n none = refl
rect_in-absent (r ∷ rs) n none =
    let parts = or_parts (eqb r.number n) (has_number n rs) none in
    rw parts.0 (rect_in-absent rs n parts.1)

number_is_new : (rs : List Record) (i : ℕ) (r : Record) → AllPairs (λ a b. a.number ≢ b.number) rs → i < length rs →
    r ≡ get_or rs i r → has_number r.number (take i rs) ≡ false
number_is_new rs i r apart low e =
    list_any_none (λ s. eqb s.number r.number) (take i rs)
    (λ k d inside.
    let below : k < i = omega (arith, length-take i rs) in
    ne_eqb (get_or (take i rs) k d).number r.number
    (λ same. apart k i r below low
    (ap (λ (s : Record). s.number) (get_or_default rs k r d (omega arith) ∙ sym (get_or-take i rs k d below)) ∙ same
    ∙ ap (λ (s : Record). s.number) e)))

pub IsDirectoryOf-put : (old new : DirectoryEntries) (rs : List Record) (i : ℕ) (r : Record) →
    AllPairs (λ a b. a.number ≢ b.number) rs → i < length rs → r ≡ get_or rs i r → IsDirectoryOf old (take i rs) →
    ((n : ℕ) → rect_at new n ≡ cond (eqb r.number n) (Some r.rect) (rect_at old n)) →
    length new ≡ length old + cond (is_some (rect_at old r.number)) 0 1 → IsDirectoryOf new (take (i + 1) rs)
IsDirectoryOf-put old new rs i r apart low e is put counted =
    let fresh = number_is_new rs i r apart low e in
    let more : take (i + 1) rs ≡ take i rs ++ r ∷ [] = take_more rs i r low ∙ ap (λ s. take i rs ++ s ∷ []) (sym e) in
    let none : rect_at old r.number ≡ None = is.rects r.number ∙ rect_in-absent (take i rs) r.number fresh in
    let one : length new ≡ length old + 1 = counted ∙ ap (λ (o : Option Rectangle). length old + cond (is_some o) 0 1)
    none in
    let len = length_push (take i rs) r in
    let was = is.count in
    subst (IsDirectoryOf new) (sym more) (record {
      rects = λ n. put n ∙ ap (cond (eqb r.number n) (Some r.rect)) (is.rects n)
          ∙ sym (rect_in-push (take i rs) r n fresh);
      count = omega arith;
    })
