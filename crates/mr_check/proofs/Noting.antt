-- One field that is whole, and the notes behind it.
use Rattle.std.proofs.Common.{◌≡◌, ℕ, ◌+◌, ◌<◌, ◌≤◌, Bool, true, false, ltb, List, [], ◌∷◌, ◌++◌, length, take, drop, Result, Ok, Err, refl, ap, ◌∙◌, inl, inr, arith}
use Rattle.std.specs.Prelude.{if◌then◌else◌, not, ◌&&◌}
use Rattle.std.proofs.lemmas.Bool.{cases_Bool, le-ltb, lt-ltb}
use Rattle.std.proofs.lemmas.List.{take_all, drop_all}
use Rattle.mr_record.specs.declared.record.Record.{Record}
use Rattle.mr_proof.specs.declared.rule.Rule.{Rule}
use Rattle.mr_proof.specs.declared.rule.Rule.TheVariants as rule
use Rattle.mr_proof.specs.declared.want.Want.{Want}
use Rattle.mr_proof.specs.declared.field.Field.{Field}
use Rattle.mr_proof.specs.Limits.{place_limit}
use Rattle.mr_proof.specs.Fields.{size_of, field_of}
use Rattle.mr_proof.specs.Grammar.{Grammar, must, opens, done, reads, notes}
use Rattle.mr_proof.specs.Layout.{fault, Cursor, field_or_fault, field_at}
use Rattle.mr_proof.specs.Handed.{is_fixed, if_read, if_handed, handed}
use Rattle.mr_check.specs.private.Stops.{waits, fails, with_value, stop, longer, cursor_at, past_notes, noted}

-- ---- a field

-- with the last bytes of its field, reading goes on behind it
pub whole_field : {A : Type 0} (w : Want) (next : Field → Grammar A) (s : Cursor) (front : List ℕ)
    → s.at + size_of w ≤ place_limit → length (s.rest ++ front) ≡ size_of w
    → stop (reads w next) (longer front s)
    ≡ with_value (field_of w (s.rest ++ front)) s.at (λ v. stop (next v) (cursor_at (s.at + size_of w) s.at))
whole_field w next s front within long =
    let fits : ltb place_limit (s.at + size_of w) ≡ false = le-ltb place_limit (s.at + size_of w) within in
    let enough : ltb (length (s.rest ++ front)) (size_of w) ≡ false = le-ltb (length (s.rest ++ front)) (size_of w)
    (omega arith) in
    let all : take (size_of w) (s.rest ++ front) ≡ s.rest ++ front = take_all (size_of w) (s.rest ++ front)
    (omega arith)
    in
    let none : drop (size_of w) (s.rest ++ front) ≡ [] = drop_all (size_of w) (s.rest ++ front) (omega arith) in
    rw (fits, enough, all, none) refl

pub whole_handed : {A : Type 0} (w : Want) (next : Field → Grammar A) (s : Cursor) (front : List ℕ)
    → s.at + size_of w ≤ place_limit → length (s.rest ++ front) ≡ size_of w
    → handed (reads w next) (longer front s)
    ≡ if_read (field_or_fault w (longer front s) (field_of w (s.rest ++ front))) (λ x. handed (next x.0) x.1)
unfolding field_at
whole_handed w next s front within long =
    let fits : ltb place_limit (s.at + size_of w) ≡ false = le-ltb place_limit (s.at + size_of w) within in
    let enough : ltb (length (s.rest ++ front)) (size_of w) ≡ false = le-ltb (length (s.rest ++ front)) (size_of w)
    (omega arith) in
    let all : take (size_of w) (s.rest ++ front) ≡ s.rest ++ front = take_all (size_of w) (s.rest ++ front)
    (omega arith)
    in
    rw (fits, enough, all) refl

-- what is read of a field, and where reading stands behind it
pub read_stop : {A : Type 0} (w : Want) (next : Field → Grammar A) (s : Cursor) (front : List ℕ) (v : Field)
    → s.at + size_of w ≤ place_limit → length (s.rest ++ front) ≡ size_of w → field_of w (s.rest ++ front) ≡ Ok v
    → stop (reads w next) (longer front s) ≡ stop (next v) (cursor_at (s.at + size_of w) s.at)
read_stop w next s front v within long is = whole_field w next s front within long ∙ (rw is refl)

pub read_handed : {A : Type 0} (w : Want) (next : Field → Grammar A) (s : Cursor) (front : List ℕ) (v : Field)
    → s.at + size_of w ≤ place_limit → length (s.rest ++ front) ≡ size_of w → field_of w (s.rest ++ front) ≡ Ok v
    → handed (reads w next) (longer front s) ≡ handed (next v) (cursor_at (s.at + size_of w) s.at)
read_handed w next s front v within long is =
    let none : drop (size_of w) (s.rest ++ front) ≡ [] = drop_all (size_of w) (s.rest ++ front) (omega arith) in
    whole_handed w next s front within long ∙ (rw (is, none) refl)

pub broken_stop : {A : Type 0} (w : Want) (next : Field → Grammar A) (s : Cursor) (front : List ℕ) (d : Rule)
    → s.at + size_of w ≤ place_limit → length (s.rest ++ front) ≡ size_of w → field_of w (s.rest ++ front) ≡ Err d
    → stop (reads w next) (longer front s) ≡ fails (fault d s.at)
broken_stop w next s front d within long is = whole_field w next s front within long ∙ (rw is refl)

pub broken_handed : {A : Type 0} (w : Want) (next : Field → Grammar A) (s : Cursor) (front : List ℕ) (d : Rule)
    → s.at + size_of w ≤ place_limit → length (s.rest ++ front) ≡ size_of w → field_of w (s.rest ++ front) ≡ Err d
    → handed (reads w next) (longer front s) ≡ []
broken_handed w next s front d within long is = whole_handed w next s front within long ∙ (rw is refl)

-- ---- a field that is not whole

pub short_stop : {A : Type 0} (w : Want) (next : Field → Grammar A) (s : Cursor)
    → s.at + size_of w ≤ place_limit → length s.rest < size_of w → stop (reads w next) s ≡ waits (reads w next) s
short_stop w next s within less =
    let fits : ltb place_limit (s.at + size_of w) ≡ false = le-ltb place_limit (s.at + size_of w) within in
    let short : ltb (length s.rest) (size_of w) ≡ true = lt-ltb (length s.rest) (size_of w) less in
    rw (fits, short) refl

pub short_handed : {A : Type 0} (w : Want) (next : Field → Grammar A) (s : Cursor) → length s.rest < size_of w
    → handed (reads w next) s ≡ []
unfolding field_at
short_handed w next s less =
    let short : ltb (length s.rest) (size_of w) ≡ true = lt-ltb (length s.rest) (size_of w) less in
    elim (cases_Bool (ltb place_limit (s.at + size_of w))) [
      | inl long ↦ rw long refl
      | inr fits ↦ rw (fits, short) refl
    ]

pub long_stop : {A : Type 0} (w : Want) (next : Field → Grammar A) (s : Cursor) → place_limit < s.at + size_of w
    → stop (reads w next) s ≡ fails (fault rule.Long s.at)
long_stop w next s past =
    let long : ltb place_limit (s.at + size_of w) ≡ true = lt-ltb place_limit (s.at + size_of w) past in
    rw long refl

pub long_fixed : {A : Type 0} (w : Want) (next : Field → Grammar A) (at : ℕ) → place_limit < at + size_of w
    → is_fixed (reads w next) at ≡ true
long_fixed w next at past = lt-ltb place_limit (at + size_of w) past

pub short_fixed : {A : Type 0} (w : Want) (next : Field → Grammar A) (at : ℕ) → at + size_of w ≤ place_limit
    → is_fixed (reads w next) at ≡ false
short_fixed w next at within = le-ltb place_limit (at + size_of w) within

-- ---- the end

pub end_stop : {A : Type 0} (x : A) (s : Cursor) → length s.rest ≡ 0 → stop (done x) s ≡ waits (done x) s
end_stop x s none =
    let f : ltb 0 (length s.rest) ≡ false = le-ltb 0 (length s.rest) (omega arith) in
    rw f refl

pub trailing_stop : {A : Type 0} (x : A) (s : Cursor) → 0 < length s.rest
    → stop (done x) s ≡ fails (fault rule.Trailing s.at)
trailing_stop x s some = let t : ltb 0 (length s.rest) ≡ true = lt-ltb 0 (length s.rest) some in rw t refl

-- ---- notes

abbrev goes_on : {A : Type 0} → Grammar A → Result (Grammar A) Rule
goes_on g = Ok g

abbrev broken : {A : Type 0} → Rule → Result (Grammar A) Rule
broken r = Err r

same_broken : {A : Type 0} (r d : Rule) → broken {A = A} r ≡ broken d → r ≡ d
same_broken r d e = cc

same_next : {A : Type 0} (g h : Grammar A) → goes_on g ≡ goes_on h → g ≡ h
same_next g h e = cc

-- a broken note
pub noted_stop : {A : Type 0} (g : Grammar A) (s : Cursor) (r : Rule) → past_notes g ≡ Err r
    → stop g s ≡ fails (fault r s.last)
noted_stop (done x) s r e = absurd cc
noted_stop (reads w next) s r e = absurd cc
noted_stop (notes (must d true) next) s r e = noted_stop next s r e
noted_stop {A} (notes (must d false) next) s r e =
    ap (λ (x : Rule). fails (fault x s.last)) (same_broken {A = A} d r e)
noted_stop (notes (opens x met) next) s r e = noted_stop next s r e

noted_fixed : {A : Type 0} (g : Grammar A) (at : ℕ) (r : Rule) → past_notes g ≡ Err r → is_fixed g at ≡ true
noted_fixed (done x) at r e = absurd cc
noted_fixed (reads w next) at r e = absurd cc
noted_fixed (notes (must d true) next) at r e = noted_fixed next at r e
noted_fixed (notes (must d false) next) at r e = refl
noted_fixed (notes (opens x met) next) at r e = noted_fixed next at r e

not_out : (met fixed : Bool) (r : Record) (rs : List Record) → fixed ≡ true → rs ≡ []
    → if_handed (met && not fixed) r rs ≡ []
not_out true true r rs e none = none
not_out true false r rs e none = absurd cc
not_out false fixed r rs e none = none

pub noted_handed : {A : Type 0} (g : Grammar A) (s : Cursor) (r : Rule) → past_notes g ≡ Err r → handed g s ≡ []
noted_handed (done x) s r e = absurd cc
noted_handed (reads w next) s r e = absurd cc
noted_handed (notes (must d true) next) s r e = noted_handed next s r e
noted_handed (notes (must d false) next) s r e = refl
noted_handed (notes (opens x met) next) s r e =
    not_out met (is_fixed next s.at) x (handed next s) (noted_fixed next s.at r e) (noted_handed next s r e)

-- no note is broken
pub past_stop : {A : Type 0} (g h : Grammar A) (s : Cursor) → past_notes g ≡ Ok h → stop g s ≡ stop h s
past_stop (done x) h s e = ap (λ g. stop g s) (same_next (done x) h e)
past_stop (reads w next) h s e = ap (λ g. stop g s) (same_next (reads w next) h e)
past_stop (notes (must d true) next) h s e = past_stop next h s e
past_stop (notes (must d false) next) h s e = absurd cc
past_stop (notes (opens x met) next) h s e = past_stop next h s e

past_fixed : {A : Type 0} (g h : Grammar A) (at : ℕ) → past_notes g ≡ Ok h → is_fixed g at ≡ is_fixed h at
past_fixed (done x) h at e = ap (λ g. is_fixed g at) (same_next (done x) h e)
past_fixed (reads w next) h at e = ap (λ g. is_fixed g at) (same_next (reads w next) h e)
past_fixed (notes (must d true) next) h at e = past_fixed next h at e
past_fixed (notes (must d false) next) h at e = absurd cc
past_fixed (notes (opens x met) next) h at e = past_fixed next h at e

-- the records noted here, unless a fault is fixed
abbrev pub unless : Bool → List Record → List Record
unless fixed rs = if fixed then [] else rs

unless_none : (b : Bool) → [] ≡ unless b []
unless_none true = refl
unless_none false = refl

put_out : (met fixed known : Bool) (r : Record) (out rs : List Record) → fixed ≡ known → out ≡ unless known rs
    → if_handed (met && not fixed) r out ≡ unless known (if met then r ∷ rs else rs)
put_out true true true r out rs e is = is
put_out true true false r out rs e is = absurd cc
put_out true false true r out rs e is = absurd cc
put_out true false false r out rs e is = ap (λ (xs : List Record). r ∷ xs) is
put_out false fixed known r out rs e is = is

pub past_handed : {A : Type 0} (g h : Grammar A) (s : Cursor) → past_notes g ≡ Ok h → handed h s ≡ []
    → handed g s ≡ unless (is_fixed h s.at) (noted g)
past_handed (done x) h s e none = unless_none (is_fixed h s.at)
past_handed (reads w next) h s e none =
    ap (λ g. handed g s) (same_next (reads w next) h e) ∙ none ∙ unless_none (is_fixed h s.at)
past_handed (notes (must d true) next) h s e none = past_handed next h s e none
past_handed (notes (must d false) next) h s e none = absurd cc
past_handed (notes (opens x met) next) h s e none =
    put_out met (is_fixed next s.at) (is_fixed h s.at) x (handed next s) (noted next) (past_fixed next h s.at e)
    (past_handed next h s e none)
