-- How the reading of a longer string goes on from where that of its front stops.
use Rattle.std.proofs.Common.{◌≡◌, ℕ, ◌+◌, ◌<◌, ◌≤◌, Bool, true, false, ltb, List, [], ◌∷◌, ◌++◌, length, take, drop, Result, Ok, Err, refl, sym, ap, subst, ◌∙◌, inl, inr, arith}
use Rattle.std.specs.Prelude.{not, ◌&&◌}
use Rattle.std.proofs.lemmas.Bool.{cases_Bool, ltb-true, ltb-false, le-ltb, lt-ltb}
use Rattle.std.proofs.lemmas.List.{length-append, take-append-le, drop-append-le}
use Rattle.mr_record.specs.declared.record.Record.{Record}
use Rattle.mr_proof.specs.declared.rule.Rule.{Rule}
use Rattle.mr_proof.specs.declared.rule.Rule.TheVariants as rule
use Rattle.mr_proof.specs.declared.rule.Fault.{Fault}
use Rattle.mr_proof.specs.declared.want.Want.{Want}
use Rattle.mr_proof.specs.declared.want.Want.TheVariants as want
use Rattle.mr_proof.specs.declared.field.Field.{Field}
use Rattle.mr_proof.specs.Limits.{place_limit}
use Rattle.mr_proof.specs.Fields.{size_of, field_of, only_if}
use Rattle.mr_proof.specs.Tight.{Question}
use Rattle.mr_proof.specs.Grammar.{Grammar, must, opens, done, reads, notes, whole}
use Rattle.mr_proof.specs.Layout.{fault, Cursor, start, behind, field_or_fault, field_at}
use Rattle.mr_proof.specs.Refused.{rank}
use Rattle.mr_proof.specs.Reading.{◌>>=◌, walk, ending, checked}
use Rattle.mr_proof.specs.Halves.{IsSettled}
use Rattle.mr_proof.proofs.FirstFault.{IsJudged, Sized, sized_whole}
use Rattle.mr_proof.specs.Handed.{is_fixed, if_read, if_handed, handed}
use Rattle.mr_check.specs.private.Stops.{Stop, waits, fails, with_value, stop, longer, resume, stop_of}

abbrev failed : {A : Type 0} → Fault → Stop A
failed f = fails f

same_stop : {A : Type 0} (f g : Fault) → failed {A = A} f ≡ failed g → f ≡ g
same_stop f g e = cc

-- ---- more bytes

value_more : {A : Type 0} (more : List ℕ) (w : Want) (s : Cursor) (next : Field → Grammar A)
    → drop (size_of w) (s.rest ++ more) ≡ drop (size_of w) s.rest ++ more
    → ((v : Field) → stop (next v) (longer more (behind w s)) ≡ resume (stop (next v) (behind w s)) more)
    → (r : Result Field Rule)
    → with_value r s.at (λ v. stop (next v) (behind w (longer more s)))
    ≡ resume (with_value r s.at (λ v. stop (next v) (behind w s))) more
value_more more w s next back rest (Ok v) =
    ap (λ (bytes : List ℕ). stop (next v) (record { at = s.at + size_of w; last = s.at; rest = bytes })) back ∙ rest v
value_more more w s next back rest (Err d) = refl

-- reading goes on from where it stopped
pub stop_more : {A : Type 0} (more : List ℕ) (g : Grammar A) (s : Cursor)
    → stop g (longer more s) ≡ resume (stop g s) more
stop_more more (done x) s = elim (cases_Bool (ltb 0 (length s.rest))) [
  | inl t ↦
      let some : 0 < length s.rest = ltb-true 0 (length s.rest) t in
      let still : ltb 0 (length (s.rest ++ more)) ≡ true = lt-ltb 0 (length (s.rest ++ more))
      (omega (arith, length-append s.rest more)) in
      rw (t, still) refl
  | inr f ↦
      let here : stop (done x) s ≡ waits (done x) s = rw f refl in
      sym (ap (λ (z : Stop _). resume z more) here)
]
stop_more more (reads w next) s = elim (cases_Bool (ltb place_limit (s.at + size_of w))) [
  | inl long ↦ rw long refl
  | inr fits ↦ elim (cases_Bool (ltb (length s.rest) (size_of w))) [
    | inl short ↦
        let here : stop (reads w next) s ≡ waits (reads w next) s = rw (fits, short) refl in
        sym (ap (λ (z : Stop _). resume z more) here)
    | inr enough ↦
        let le : size_of w ≤ length s.rest = ltb-false (length s.rest) (size_of w) enough in
        let still : ltb (length (s.rest ++ more)) (size_of w) ≡ false = le-ltb (length (s.rest ++ more)) (size_of w)
        (omega (arith, length-append s.rest more)) in
        let front : take (size_of w) (s.rest ++ more) ≡ take (size_of w) s.rest = take-append-le
        (size_of w) s.rest more le in
        let back : drop (size_of w) (s.rest ++ more) ≡ drop (size_of w) s.rest ++ more = drop-append-le
        (size_of w) s.rest more le in
        rw (fits, still, enough, front)
        (value_more more w s next back (λ v. stop_more more (next v) (behind w s))
        (field_of w (take (size_of w) s.rest)))
  ]
]
stop_more more (notes (must r true) next) s = stop_more more next s
stop_more more (notes (must r false) next) s = refl
stop_more more (notes (opens r met) next) s = stop_more more next s

-- ---- the records that are handed out

-- those with more bytes, behind where reading stopped
abbrev pub handed_on : {A : Type 0} → Stop A → List ℕ → List Record
handed_on (waits g s) more = handed g (longer more s)
handed_on (fails f) more = []

value_handed : {A : Type 0} (more : List ℕ) (w : Want) (s : Cursor) (next : Field → Grammar A)
    → drop (size_of w) (s.rest ++ more) ≡ drop (size_of w) s.rest ++ more
    → ((v : Field) → handed (next v) (longer more (behind w s))
    ≡ handed (next v) (behind w s) ++ handed_on (stop (next v) (behind w s)) more)
    → (r : Result Field Rule)
    → if_read (field_or_fault w (longer more s) r) (λ x. handed (next x.0) x.1)
    ≡ if_read (field_or_fault w s r) (λ x. handed (next x.0) x.1)
    ++ handed_on (with_value r s.at (λ v. stop (next v) (behind w s))) more
value_handed more w s next back rest (Ok v) =
    ap (λ (bytes : List ℕ). handed (next v) (record { at = s.at + size_of w; last = s.at; rest = bytes })) back ∙ rest v
value_handed more w s next back rest (Err d) = refl

put_more : (out : Bool) (r : Record) (xs ys zs : List Record) → xs ≡ ys ++ zs
    → if_handed out r xs ≡ if_handed out r ys ++ zs
put_more true r xs ys zs e = ap (λ (rs : List Record). r ∷ rs) e
put_more false r xs ys zs e = e

-- more bytes take nothing back of what was handed out
pub handed_more : {A : Type 0} (more : List ℕ) (g : Grammar A) (s : Cursor)
    → handed g (longer more s) ≡ handed g s ++ handed_on (stop g s) more
unfolding field_at
handed_more more (done x) s = elim (cases_Bool (ltb 0 (length s.rest))) [
  | inl t ↦ rw t refl
  | inr f ↦ rw f refl
]
handed_more more (reads w next) s = elim (cases_Bool (ltb place_limit (s.at + size_of w))) [
  | inl long ↦ rw long refl
  | inr fits ↦ elim (cases_Bool (ltb (length s.rest) (size_of w))) [
    | inl short ↦
        let here : stop (reads w next) s ≡ waits (reads w next) s = rw (fits, short) refl in
        let none : handed (reads w next) s ≡ [] = unfold field_at in rw (fits, short) refl in
        sym (λ i. none i ++ handed_on (here i) more)
    | inr enough ↦
        let le : size_of w ≤ length s.rest = ltb-false (length s.rest) (size_of w) enough in
        let still : ltb (length (s.rest ++ more)) (size_of w) ≡ false = le-ltb (length (s.rest ++ more)) (size_of w)
        (omega (arith, length-append s.rest more)) in
        let front : take (size_of w) (s.rest ++ more) ≡ take (size_of w) s.rest = take-append-le
        (size_of w) s.rest more le in
        let back : drop (size_of w) (s.rest ++ more) ≡ drop (size_of w) s.rest ++ more = drop-append-le
        (size_of w) s.rest more le in
        rw (fits, still, enough, front)
        (value_handed more w s next back (λ v. handed_more more (next v) (behind w s))
        (field_of w (take (size_of w) s.rest)))
  ]
]
handed_more more (notes (must r true) next) s = handed_more more next s
handed_more more (notes (must r false) next) s = refl
handed_more more (notes (opens r met) next) s =
    put_more (met && not (is_fixed next s.at)) r (handed next (longer more s)) (handed next s)
    (handed_on (stop next s) more) (handed_more more next s)

-- ---- the verdict of the bytes so far

-- what reading the whole gives, by where it stops
abbrev pub ends_at : {A B : Type 0} → (A → Cursor → Result B Fault) → Stop A → Result B Fault
ends_at e (waits (done x) s) = e x s
ends_at e (waits (reads w next) s) = Err (fault rule.Short s.at)
ends_at e (waits (notes n next) s) = Err (fault rule.Short s.at)
ends_at e (fails f) = Err f

-- an ending that refuses bytes behind the last field
abbrev Trails : {A B : Type 0} → (A → Cursor → Result B Fault) → Type 0
Trails {A} e = (x : A) (s : Cursor) → 0 < length s.rest → e x s ≡ Err (fault rule.Trailing s.at)

value_ends : {A B : Type 0} (e : A → Cursor → Result B Fault) (w : Want) (s : Cursor) (next : Field → Grammar A)
    → ((v : Field) → walk true e (next v) (behind w s) ≡ ends_at e (stop (next v) (behind w s)))
    → (r : Result Field Rule)
    → (field_or_fault w s r >>= λ x. walk true e (next x.0) x.1)
    ≡ ends_at e (with_value r s.at (λ v. stop (next v) (behind w s)))
value_ends e w s next rest (Ok v) = rest v
value_ends e w s next rest (Err d) = refl

pub walk_stop : {A B : Type 0} (e : A → Cursor → Result B Fault) → Trails e → (g : Grammar A) (s : Cursor)
    → walk true e g s ≡ ends_at e (stop g s)
unfolding field_at
walk_stop e trails (done x) s = elim (cases_Bool (ltb 0 (length s.rest))) [
  | inl t ↦ rw t (trails x s (ltb-true 0 (length s.rest) t))
  | inr f ↦ rw f refl
]
walk_stop e trails (reads w next) s = elim (cases_Bool (ltb place_limit (s.at + size_of w))) [
  | inl long ↦ rw long refl
  | inr fits ↦ elim (cases_Bool (ltb (length s.rest) (size_of w))) [
    | inl short ↦ rw (fits, short) refl
    | inr enough ↦ rw (fits, enough)
        (value_ends e w s next (λ v. walk_stop e trails (next v) (behind w s)) (field_of w (take (size_of w) s.rest)))
  ]
]
walk_stop e trails (notes (must r true) next) s = walk_stop e trails next s
walk_stop e trails (notes (must r false) next) s = refl
walk_stop e trails (notes (opens r met) next) s = walk_stop e trails next s

ending_trails : (hash : List ℕ → List ℕ) (root : List ℕ) (q : Question) → Trails (ending hash root q)
unfolding ending
ending_trails hash root q x s some = let t : ltb 0 (length s.rest) ≡ true = lt-ltb 0 (length s.rest) some in rw t refl

pub checked_stop : (hash : List ℕ → List ℕ) (root : List ℕ) (q : Question) (bytes : List ℕ)
    → checked hash root q bytes ≡ ends_at (ending hash root q) (stop_of q bytes)
unfolding checked stop_of
checked_stop hash root q bytes =
    walk_stop (ending hash root q) (ending_trails hash root q) (whole q.kind q.two_only q.way) (start bytes)

-- ---- a fault at which reading stops is settled

broken_is : (b : Bool) (v : Field) (r d : Rule) → only_if b v r ≡ Err d → r ≡ d
broken_is true v r d e = absurd cc
broken_is false v r d e = cc

settles : (r d : Rule) → r ≡ d → IsSettled r → IsSettled d
settles r d e h = subst IsSettled e h

field_settled : (w : Want) (raw : List ℕ) (d : Rule) → field_of w raw ≡ Err d → IsSettled d
unfolding field_of
field_settled want.Magic raw d e = settles rule.BadMagic d (broken_is _ _ _ d e) tt
field_settled (want.Version two_only) raw d e = settles rule.BadVersion d (broken_is _ _ _ d e) tt
field_settled (want.Kind k) raw d e = settles rule.WrongKind d (broken_is _ _ _ d e) tt
field_settled want.Batch raw d e = absurd cc
field_settled want.Count raw d e = settles rule.BadCount d (broken_is _ _ _ d e) tt
field_settled want.Flag raw d e = settles rule.BadFlag d (broken_is _ _ _ d e) tt
field_settled want.Radius raw d e = settles rule.BadRadius d (broken_is _ _ _ d e) tt
field_settled want.Level raw d e = settles rule.BadLevel d (broken_is _ _ _ d e) tt
field_settled (want.Tag v) raw d e = settles rule.BadTag d (broken_is _ _ _ d e) tt
field_settled want.LeafCount raw d e = settles rule.BadEntries d (broken_is _ _ _ d e) tt
field_settled want.InnerCount raw d e = settles rule.BadEntries d (broken_is _ _ _ d e) tt
field_settled want.Number raw d e = absurd cc
field_settled want.Rect raw d e = settles rule.BadRect d (broken_is _ _ _ d e) tt
field_settled want.Layer raw d e = settles rule.BadLayer d (broken_is _ _ _ d e) tt
field_settled want.Length raw d e = settles rule.BadLength d (broken_is _ _ _ d e) tt
field_settled (want.Payload n) raw d e = absurd cc
field_settled want.Mask raw d e = absurd cc
field_settled want.Tally raw d e = settles rule.BadCount d (broken_is _ _ _ d e) tt
field_settled want.Digest raw d e = absurd cc

judged_settled : (r : Rule) → IsJudged r → IsSettled r
judged_settled r (inl e) = settles rule.Hidden r (sym e) tt
judged_settled r (inr e) = settles rule.Needless r (sym e) tt

stop_fault : {A : Type 0} (f g : Fault) → failed {A = A} f ≡ failed g → IsSettled f.rule → IsSettled g.rule
stop_fault {A} f g e h = subst (λ (x : Fault). IsSettled x.rule) (same_stop {A = A} f g e) h

value_settled : {A : Type 0} (w : Want) (s : Cursor) (next : Field → Grammar A) (f : Fault) (raw : List ℕ)
    (r : Result Field Rule) → field_of w raw ≡ r
    → ((v : Field) → stop (next v) (behind w s) ≡ fails f → IsSettled f.rule)
    → with_value r s.at (λ v. stop (next v) (behind w s)) ≡ fails f → IsSettled f.rule
value_settled w s next f raw (Ok v) is rest e = rest v e
value_settled {A} w s next f raw (Err d) is rest e = stop_fault {A = A} (fault d s.at) f e (field_settled w raw d is)

pub stop_settled : {A : Type 0} (n : ℕ) (g : Grammar A) → Sized n g → (s : Cursor) (f : Fault) → stop g s ≡ fails f
    → IsSettled f.rule
stop_settled {A} n (done x) sized s f e = elim (cases_Bool (ltb 0 (length s.rest))) [
  | inl t ↦ stop_fault {A = A} (fault rule.Trailing s.at) f (rw t at e) tt
  | inr t ↦ let no = rw t at e in absurd cc
]
stop_settled {A} n (reads w next) sized s f e = elim (cases_Bool (ltb place_limit (s.at + size_of w))) [
  | inl long ↦ stop_fault {A = A} (fault rule.Long s.at) f (rw long at e) tt
  | inr fits ↦ elim (cases_Bool (ltb (length s.rest) (size_of w))) [
    | inl short ↦ let no = rw (fits, short) at e in absurd cc
    | inr enough ↦ value_settled w s next f (take (size_of w) s.rest) (field_of w (take (size_of w) s.rest)) refl
        (λ v. stop_settled 0 (next v) (sized.1 v) (behind w s) f) (rw (fits, enough) at e)
  ]
]
stop_settled n (notes (must r true) next) sized s f e = stop_settled (rank r) next sized.2 s f e
stop_settled {A} n (notes (must r false) next) sized s f e =
    stop_fault {A = A} (fault r s.last) f e (judged_settled r sized.0)
stop_settled n (notes (opens r met) next) sized s f e = stop_settled n next sized s f e

pub fault_settled : (q : Question) (bytes : List ℕ) (f : Fault) → stop_of q bytes ≡ fails f → IsSettled f.rule
unfolding stop_of
fault_settled q bytes f e =
    stop_settled 0 (whole q.kind q.two_only q.way) (sized_whole q.kind q.two_only q.way) (start bytes) f e
