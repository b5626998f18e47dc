-- What a byte string breaks, any longer one breaks too, but for what is only found at its end.
use Rattle.std.proofs.Common.{◌≡◌, ℕ, ◌+◌, ◌<◌, ◌≤◌, Bool, true, false, cond, ltb, List, ◌++◌, length, take, drop, Result, Ok, Err, refl, sym, ap, subst, ◌∙◌, inl, inr, arith}
use Rattle.std.specs.Prelude.{if◌then◌else◌, nat_lt, not, bytes_eq}
use Rattle.std.proofs.lemmas.Bool.{cases_Bool, ltb-true, ltb-false, le-ltb, lt-ltb}
use Rattle.std.proofs.lemmas.List.{length-append, take-append-le, drop-append-le}
use Rattle.mr_proof.specs.declared.rule.Rule.{Rule}
use Rattle.mr_proof.specs.declared.rule.Rule.TheVariants as rule
use Rattle.mr_proof.specs.declared.rule.Fault.{Fault}
use Rattle.mr_proof.specs.declared.want.Want.{Want}
use Rattle.mr_proof.specs.declared.field.Field.{Field}
use Rattle.mr_proof.specs.Limits.{place_limit}
use Rattle.mr_proof.specs.Fields.{size_of, field_of}
use Rattle.mr_proof.specs.Spelling.{Parsed, opened_records}
use Rattle.mr_proof.specs.Tight.{Question}
use Rattle.mr_proof.specs.Accepted.{root_found}
use Rattle.mr_proof.specs.Grammar.{Grammar, must, opens, done, reads, notes, whole}
use Rattle.mr_proof.specs.Layout.{fault, Cursor, start, field_or_fault, field_at}
use Rattle.mr_proof.specs.Refused.{has_other_radius, has_other_count}
use Rattle.mr_proof.specs.Reading.{◌>>=◌, walk, ending, checked}
use Rattle.mr_proof.specs.Halves.{IsSettled, StaysRefused}
use Rattle.mr_proof.proofs.FirstFault.{faults_just}
use Rattle.mr_proof.proofs.Values.{same_fault}

-- the same place in a longer string
abbrev longer : List ℕ → Cursor → Cursor
longer more s = record { at = s.at; last = s.last; rest = s.rest ++ more }

-- ---- one field

-- a field that is read is read again, and a settled fault comes again
abbrev Again : Want → Cursor → List ℕ → Result (Field × Cursor) Fault → Type 0
Again w s more (Ok x) = field_at w (longer more s) ≡ Ok (x.0, longer more x.1)
Again w s more (Err f) = IsSettled f.rule → field_at w (longer more s) ≡ Err f

value_again : (w : Want) (s : Cursor) (more : List ℕ) (r : Result Field Rule)
    → drop (size_of w) (s.rest ++ more) ≡ drop (size_of w) s.rest ++ more
    → field_at w (longer more s) ≡ field_or_fault w (longer more s) r → Again w s more (field_or_fault w s r)
value_again w s more (Ok v) tail e =
    e ∙ ap (λ (rest : List ℕ). Ok (v, record { at = s.at + size_of w; last = s.at; rest = rest })) tail
value_again w s more (Err d) tail e = λ settled. e

field_again : (w : Want) (s : Cursor) (more : List ℕ) → Again w s more (field_at w s)
unfolding field_at
field_again w s more = elim (cases_Bool (ltb place_limit (s.at + size_of w))) [
  | inl long ↦
      let there : field_at w (longer more s) ≡ Err (fault rule.Long s.at) = unfold field_at in rw long refl in
      rw long (λ settled. there)
  | inr fits ↦ elim (cases_Bool (ltb (length s.rest) (size_of w))) [
    | inl short ↦ rw (fits, short) (λ settled. absurd settled)
    | inr enough ↦
        let le : size_of w ≤ length s.rest = ltb-false (length s.rest) (size_of w) enough in
        let still : ltb (length (s.rest ++ more)) (size_of w) ≡ false = le-ltb (length (s.rest ++ more)) (size_of w)
        (omega (arith, length-append s.rest more)) in
        let front : take (size_of w) (s.rest ++ more) ≡ take (size_of w) s.rest = take-append-le
        (size_of w) s.rest more le in
        let back : drop (size_of w) (s.rest ++ more) ≡ drop (size_of w) s.rest ++ more = drop-append-le
        (size_of w) s.rest more le in
        let there : field_at w (longer more s) ≡ field_or_fault w (longer more s)
        (field_of w (take (size_of w) s.rest)) = unfold field_at in rw (fits, still, front) refl in
        rw (fits, enough) (value_again w s more (field_of w (take (size_of w) s.rest)) back there)
  ]
]

-- ---- a layout

step_stays : {B : Type 0} (w : Want) (s : Cursor) (more : List ℕ) (r : Result (Field × Cursor) Fault) → Again w s more r
    → (k : Field × Cursor → Result B Fault) (f : Fault) → IsSettled f.rule
    → ((x : Field × Cursor) → k x ≡ Err f → k (x.0, longer more x.1) ≡ Err f) → (r >>= k) ≡ Err f
    → (field_at w (longer more s) >>= k) ≡ Err f
step_stays w s more (Ok x) again k f settled rest e = rw again (rest x e)
step_stays w s more (Err g) again k f settled rest e =
    let same : g ≡ f = same_fault g f e in
    rw (again (subst (λ (h : Fault). IsSettled h.rule) (sym same) settled)) e

walk_stays : {A B : Type 0} (e : A → Cursor → Result B Fault) (more : List ℕ) (f : Fault) → IsSettled f.rule
    → ((x : A) (s : Cursor) → e x s ≡ Err f → e x (longer more s) ≡ Err f) → (g : Grammar A) (s : Cursor)
    → walk true e g s ≡ Err f → walk true e g (longer more s) ≡ Err f
walk_stays e more f settled last (done x) s is = last x s is
walk_stays e more f settled last (reads w next) s is =
    step_stays w s more (field_at w s) (field_again w s more) (λ x. walk true e (next x.0) x.1) f settled
    (λ x. walk_stays e more f settled last (next x.0) x.1) is
walk_stays e more f settled last (notes (must r true) next) s is = walk_stays e more f settled last next s is
walk_stays e more f settled last (notes (must r false) next) s is = is
walk_stays e more f settled last (notes (opens x met) next) s is = walk_stays e more f settled last next s is

-- ---- the whole

end_stays : (b c d o b2 : Bool) (t w r y f : Fault) (x : Parsed) (after : Result Parsed Fault)
    → (b ≡ true → b2 ≡ true)
    → (IsSettled w.rule → ⊥) → (IsSettled r.rule → ⊥) → (IsSettled y.rule → ⊥) → IsSettled f.rule
    → cond b (Err t) (cond (not c) (Err w) (cond d (Err r) (cond o (Err y) (Ok x)))) ≡ Err f
    → cond b2 (Err t) after ≡ Err f
end_stays true c d o b2 t w r y f x after more no_w no_r no_y settled e = rw (more refl) e
end_stays false true true o b2 t w r y f x after more no_w no_r no_y settled e =
    absurd (no_r (subst (λ (h : Fault). IsSettled h.rule) (sym (same_fault r f e)) settled))
end_stays false true false true b2 t w r y f x after more no_w no_r no_y settled e =
    absurd (no_y (subst (λ (h : Fault). IsSettled h.rule) (sym (same_fault y f e)) settled))
end_stays false true false false b2 t w r y f x after more no_w no_r no_y settled e = absurd cc
end_stays false false d o b2 t w r y f x after more no_w no_r no_y settled e =
    absurd (no_w (subst (λ (h : Fault). IsSettled h.rule) (sym (same_fault w f e)) settled))

ending_stays : (hash : List ℕ → List ℕ) (root : List ℕ) (a : Question) (more : List ℕ) (f : Fault) → IsSettled f.rule
    → (x : Parsed) (s : Cursor) → ending hash root a x s ≡ Err f → ending hash root a x (longer more s) ≡ Err f
unfolding ending
ending_stays hash root a more f settled x s is =
    let found = root_found hash x.head x.part in
    let other = has_other_radius a.around x.head.radius (opened_records x.part) in
    let counted = has_other_count x in
    let end = s.at + length s.rest in
    let far = s.at + length (s.rest ++ more) in
    end_stays (nat_lt 0 (length s.rest)) (bytes_eq found root) other counted (nat_lt 0 (length (s.rest ++ more)))
    (fault rule.Trailing s.at) (fault (rule.WrongRoot found) end) (fault rule.WrongRadius end)
    (fault rule.WrongTally end) f x
    (if not (bytes_eq found root) then Err (fault (rule.WrongRoot found) far) else if other then Err
    (fault rule.WrongRadius far) else if counted then Err (fault rule.WrongTally far) else Ok x)
    (λ t. let some : 0 < length s.rest = ltb-true 0 (length s.rest) t in
    lt-ltb 0 (length (s.rest ++ more)) (omega (arith, length-append s.rest more)))
    (λ h. h) (λ h. h) (λ h. h) settled is

checked_stays : (hash : List ℕ → List ℕ) (root : List ℕ) (a : Question) (bytes : List ℕ) (f : Fault) (more : List ℕ)
    → IsSettled f.rule → checked hash root a bytes ≡ Err f → checked hash root a (bytes ++ more) ≡ Err f
unfolding checked
checked_stays hash root a bytes f more settled e =
    walk_stays (ending hash root a) more f settled (ending_stays hash root a more f settled)
    (whole a.kind a.two_only a.way) (start bytes) e

pub stays_refused : (hash : List ℕ → List ℕ) (root : List ℕ) (a : Question) (bytes : List ℕ)
    → StaysRefused hash root a bytes
stays_refused hash root a bytes = λ f more settled r.
    (faults_just hash root a (bytes ++ more) f).0
    (checked_stays hash root a bytes f more settled ((faults_just hash root a bytes f).1 r))
