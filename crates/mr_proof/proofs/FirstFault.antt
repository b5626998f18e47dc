-- What is read up to the first fault is the first of all faults of the layout.
use Rattle.std.proofs.Common.{◌≡◌, ◌⊎◌, ℕ, zero, suc, ◌+◌, ◌<◌, ◌≤◌, Bool, true, false, cond, eqb, List, [], ◌∷◌, ◌++◌, length, take, All, ◌↔◌, Result, Ok, Err, Option, Some, None, refl, sym, ap, subst, ◌∙◌, inl, inr, arith}
use Rattle.std.specs.Prelude.{if◌then◌else◌, ◌==◌, nat_lt, not, bytes_eq}
use Rattle.std.specs.List.{Contains}
use Rattle.std.proofs.lemmas.Bool.{ltb-true, cases_Bool, cases_lt, eqb-false}
use Rattle.std.proofs.lemmas.List.Elements.{All-cons, All-nil, All-append, All-weaker, All-contains, All-contains_itself, All-head}
use Rattle.mr_geom.specs.Rectangle.{Rectangle}
use Rattle.mr_record.specs.declared.record.Record.{Record}
use Rattle.mr_record.specs.declared.version.Version.{Version}
use Rattle.mr_record.specs.declared.version.Version.TheVariants.{One, Two}
use Rattle.mr_query.specs.declared.query.Query.{Query}
use Rattle.mr_query.specs.Scan.{scan}
use Rattle.mr_proof.specs.declared.head.Kind.{Kind}
use Rattle.mr_proof.specs.declared.head.Kind.TheVariants as kind
use Rattle.mr_proof.specs.declared.head.Head.{Head}
use Rattle.mr_proof.specs.declared.rule.Rule.{Rule}
use Rattle.mr_proof.specs.declared.rule.Rule.TheVariants as rule
use Rattle.mr_proof.specs.declared.rule.Fault.{Fault}
use Rattle.mr_proof.specs.declared.want.Want.{Want}
use Rattle.mr_proof.specs.declared.want.Want.TheVariants as want
use Rattle.mr_proof.specs.declared.field.Field.{Field}
use Rattle.mr_proof.specs.Limits.{place_limit}
use Rattle.mr_proof.specs.Fields.{size_of, field_of, pruned_tag}
use Rattle.mr_proof.specs.Cut.{Cut, Cuts, Pruned, Leaf, Inner, no_more, first}
use Rattle.mr_proof.specs.Spelling.{Parsed, said, opened_records}
use Rattle.mr_proof.specs.declared.way.Way.{Way}
use Rattle.mr_query.specs.declared.key.Key.{Key}
use Rattle.mr_proof.specs.Tight.{keeps_record, Question, question}
use Rattle.mr_proof.specs.Accepted.{root_found}
use Rattle.mr_proof.specs.Grammar.{must, opens, Grammar, done, reads, notes, number_in, version_in, tag_in, rect_in, wide_in, bytes_in, payload, layer, one_record, some_records, opened, leaf, some_items, inner, layers_and_count, pruned, item, radius, level, head, part, whole}
use Rattle.mr_proof.specs.Layout.{fault, Cursor, start, behind, field_or_fault, field_at}
use Rattle.mr_proof.specs.Refused.{rank, Before, IsFirst, with_field, if_fault, faults, has_other_radius, has_other_count, last_faults, all_faults, IsRefused}
use Rattle.mr_proof.specs.Reading.{◌>>=◌, walk, ending, checked, verdict}
use Rattle.mr_proof.proofs.Values.{record_of, part_of, head_of, same_value, failed, same_fault}

-- ---- the first of some faults

both_before : (f g : Fault) → Before f g → Before g f → ⊥
both_before f g (inl a) (inl b) = omega arith
both_before f g (inl a) (inr b) = omega arith
both_before f g (inr a) (inl b) = omega arith
both_before f g (inr a) (inr b) = omega arith

-- no other fault is one of these
pub one_first : (f g : Fault) (fs : List Fault) → IsFirst f fs → IsFirst g fs → f ≡ g
one_first f g fs p q =
    elim (All-contains (λ x. (x ≡ f) ⊎ Before f x) fs g p.least q.is_one) [
      | inl e ↦ sym e
      | inr earlier ↦ elim (All-contains (λ x. (x ≡ g) ⊎ Before g x) fs f q.least p.is_one) [
        | inl e ↦ e
        | inr later ↦ absurd (both_before f g earlier later)
      ]
    ]

front_is_first : (f : Fault) (fs : List Fault) → All (λ x. (x ≡ f) ⊎ Before f x) fs → IsFirst f (f ∷ fs)
front_is_first f fs all = record {
  is_one = All-head (Contains (f ∷ fs)) f fs (All-contains_itself (f ∷ fs));
  least = All-cons (λ x. (x ≡ f) ⊎ Before f x) f fs (inl refl) all;
}

-- ---- a field

same_error : {B : Type 0} (f g : Fault) → failed {A = B} f ≡ failed g → f ≡ g
same_error f g e = cc

behind_of : (w : Want) (s : Cursor) (b c : Bool) (r : Result Field Rule) (f g : Fault) (x : Field × Cursor)
    → cond b (Err f) (cond c (Err g) (field_or_fault w s r)) ≡ Ok x → x.1 ≡ behind w s
behind_of w s true c r f g x e = absurd cc
behind_of w s false true r f g x e = absurd cc
behind_of w s false false (Ok v) f g x e = ap (λ (y : Field × Cursor). y.1) (sym (same_value (v, behind w s) x e))
behind_of w s false false (Err d) f g x e = absurd cc

field_behind : (w : Want) (s : Cursor) (x : Field × Cursor) → field_at w s ≡ Ok x → x.1 ≡ behind w s
unfolding field_at
field_behind w s x e =
    behind_of w s (nat_lt place_limit (s.at + size_of w)) (nat_lt (length s.rest) (size_of w))
    (field_of w (take (size_of w) s.rest)) (fault rule.Long s.at) (fault rule.Short s.at) x e

place_of : (w : Want) (s : Cursor) (b c : Bool) (r : Result Field Rule) (f g h : Fault) → f.at ≡ s.at → g.at ≡ s.at
    → cond b (Err f) (cond c (Err g) (field_or_fault w s r)) ≡ Err h → h.at ≡ s.at
place_of w s true c r f g h p q e = ap (λ (y : Fault). y.at) (sym (same_fault f h e)) ∙ p
place_of w s false true r f g h p q e = ap (λ (y : Fault). y.at) (sym (same_fault g h e)) ∙ q
place_of w s false false (Ok v) f g h p q e = absurd cc
place_of w s false false (Err d) f g h p q e = ap (λ (y : Fault). y.at) (sym (same_fault (fault d s.at) h e))

field_place : (w : Want) (s : Cursor) (f : Fault) → field_at w s ≡ Err f → f.at ≡ s.at
unfolding field_at
field_place w s f e =
    place_of w s (nat_lt place_limit (s.at + size_of w)) (nat_lt (length s.rest) (size_of w))
    (field_of w (take (size_of w) s.rest)) (fault rule.Long s.at) (fault rule.Short s.at) f refl refl e

-- ---- all faults of a layout lie behind where it stands

-- the rules of notes
abbrev pub IsJudged : Rule → Type 0
IsJudged r = (r ≡ rule.Hidden) ⊎ (r ≡ rule.Needless)

same_rule : (a b : Rule) → IsJudged a → IsJudged b → rank a ≡ rank b → a ≡ b
same_rule a b (inl p) (inl q) e = p ∙ sym q
same_rule a b (inr p) (inr q) e = p ∙ sym q
same_rule a b (inl p) (inr q) e =
    let x : rank a ≡ 13 = ap rank p in let y : rank b ≡ 14 = ap rank q in absurd (omega arith)
same_rule a b (inr p) (inl q) e =
    let x : rank a ≡ 14 = ap rank p in let y : rank b ≡ 13 = ap rank q in absurd (omega arith)

-- each field has a byte, and the notes behind one come in the order of their rules, here from this number on
abbrev pub Sized : {A : Type 0} → ℕ → Grammar A → Type 0
Sized n (done x) = Unit {0}
Sized n (reads w next) = (0 < size_of w) × ((f : Field) → Sized 0 (next f))
Sized n (notes (must r b) next) = IsJudged r × (n ≤ rank r) × Sized (rank r) next
Sized n (notes (opens x met) next) = Sized n next

sized_any : {A : Type 0} (n : ℕ) (g : Grammar A) → Sized n g → Sized 0 g
sized_any n (done x) h = tt
sized_any n (reads w next) h = h
sized_any n (notes (must r b) next) h = (h.0, omega arith, h.2)
sized_any n (notes (opens x met) next) h = sized_any n next h

-- at the next field or behind it, or of a note at the last field, whose rule has this number or a later one
abbrev Late : ℕ → Cursor → Fault → Type 0
Late n s f = (s.at ≤ f.at) ⊎ ((f.at ≡ s.last) × IsJudged f.rule × (n ≤ rank f.rule))

by_field : (w : Want) (s : Cursor) (k : Field → Cursor → List Fault) (P : Fault → Type 0)
    (r : Result (Field × Cursor) Fault)
    → field_at w s ≡ r → ((f : Fault) → f.at ≡ s.at → P f) → ((v : Field) → All P (k v (behind w s)))
    → All P (with_field r k)
by_field w s k P (Ok x) e own rest = subst (λ (t : Cursor). All P (k x.0 t)) (sym (field_behind w s x e)) (rest x.0)
by_field w s k P (Err f) e own rest = All-cons P f [] (own f (field_place w s f e)) (All-nil P)

from_late : (w : Want) (s : Cursor) (fs : List Fault) → 0 < size_of w → All (Late 0 (behind w s)) fs
    → All (λ f. s.at ≤ f.at) fs
from_late w s fs some all = All-weaker (Late 0 (behind w s)) (λ f. s.at ≤ f.at) (λ f l. elim l [
  | inl le ↦ omega arith
  | inr e ↦ let at : f.at ≡ s.at = e.0 in omega arith
]) fs all

if_fault_all : (P : Fault → Type 0) (b : Bool) (f : Fault) → P f → All P (if_fault b f)
if_fault_all P true f h = All-cons P f [] h (All-nil P)
if_fault_all P false f h = All-nil P

late_from : (n m : ℕ) (s : Cursor) (fs : List Fault) → n ≤ m → All (Late m s) fs → All (Late n s) fs
late_from n m s fs le all = All-weaker (Late m s) (Late n s) (λ f l. elim l [
  | inl p ↦ inl p
  | inr e ↦ let more : m ≤ rank f.rule = e.2 in inr (e.0, e.1, omega arith)
]) fs all

late : {A : Type 0} (final : A → Cursor → List Fault) (last : (x : A) (s : Cursor) → All (λ f. s.at ≤ f.at) (final x s))
    (n : ℕ) (g : Grammar A) → Sized n g → (s : Cursor) → s.last < s.at → All (Late n s) (faults final g s)
late final last n (done x) sized s lt = All-weaker (λ f. s.at ≤ f.at) (Late n s) (λ f le. inl le) (final x s) (last x s)
late final last n (reads w next) sized s lt =
    All-weaker (λ f. s.at ≤ f.at) (Late n s) (λ f le. inl le) _
    (by_field w s (λ v t. faults final (next v) t) (λ f. s.at ≤ f.at) (field_at w s) refl (λ f e. omega arith)
    (λ v. from_late w s _ sized.0
    (late final last 0 (next v) (sized.1 v) (behind w s) (let some : 0 < size_of w = sized.0 in omega arith))))
late final last n (notes (must r true) next) sized s lt =
    late_from n (rank r) s (faults final next s) sized.1 (late final last (rank r) next sized.2 s lt)
late final last n (notes (must r false) next) sized s lt =
    All-cons (Late n s) (fault r s.last) (faults final next s) (inr (refl, sized.0, sized.1))
    (late_from n (rank r) s (faults final next s) sized.1 (late final last (rank r) next sized.2 s lt))
late final last n (notes (opens x met) next) sized s lt = late final last n next sized s lt

-- ---- reading and the layout

-- there is no fault, or this is the first
abbrev Agrees : {B : Type 0} → Result B Fault → List Fault → Type 0
Agrees (Ok x) fs = fs ≡ []
Agrees (Err f) fs = IsFirst f fs

agree_field : {B : Type 0} (w : Want) (s : Cursor) (e : Field → Cursor → Result B Fault)
    (k : Field → Cursor → List Fault)
    (r : Result (Field × Cursor) Fault) → field_at w s ≡ r →
    ((v : Field) → Agrees (e v (behind w s)) (k v (behind w s)))
    → Agrees (r >>= λ x. e x.0 x.1) (with_field r k)
agree_field w s e k (Ok x) is rest =
    subst (λ (t : Cursor). Agrees (e x.0 t) (k x.0 t)) (sym (field_behind w s x is)) (rest x.0)
agree_field w s e k (Err f) is rest = front_is_first f [] (All-nil (λ x. (x ≡ f) ⊎ Before f x))

-- a broken note goes before all that is found behind it
note_first : (r : Rule) (s : Cursor) (f : Fault) → IsJudged r → s.last < s.at → Late (rank r) s f
    → (f ≡ fault r s.last) ⊎ Before (fault r s.last) f
note_first r s f judged lt (inl le) = inr (inl (omega arith))
note_first r s f judged lt (inr e) = elim (cases_lt (rank r) (rank f.rule)) [
  | inl less ↦ inr (inr (sym e.0, less))
  | inr more ↦
      let least : rank r ≤ rank f.rule = e.2 in
      let same : f.rule ≡ r = same_rule f.rule r e.1 judged (omega arith) in
      inl (λ i. record { rule = same i; at = e.0 i })
]

agree : {A B : Type 0} (e : A → Cursor → Result B Fault) (final : A → Cursor → List Fault)
    (ends : (x : A) (s : Cursor) → Agrees (e x s) (final x s))
    (last : (x : A) (s : Cursor) → All (λ f. s.at ≤ f.at) (final x s)) (n : ℕ) (g : Grammar A) → Sized n g
    → (s : Cursor) → s.last < s.at → Agrees (walk true e g s) (faults final g s)
agree e final ends last n (done x) sized s lt = ends x s
agree e final ends last n (reads w next) sized s lt =
    agree_field w s (λ v t. walk true e (next v) t) (λ v t. faults final (next v) t) (field_at w s) refl
    (λ v. agree e final ends last 0 (next v) (sized.1 v) (behind w s) (let some : 0 < size_of w = sized.0 in
    omega arith))
agree e final ends last n (notes (must r true) next) sized s lt = agree e final ends last (rank r) next sized.2 s lt
agree e final ends last n (notes (must r false) next) sized s lt =
    front_is_first (fault r s.last) (faults final next s)
    (All-weaker (Late (rank r) s) (λ x. (x ≡ fault r s.last) ⊎ Before (fault r s.last) x)
    (λ f l. note_first r s f sized.0 lt l)
    (faults final next s) (late final last (rank r) next sized.2 s lt))
agree e final ends last n (notes (opens x met) next) sized s lt = agree e final ends last n next sized s lt

-- ---- the ending

-- a fault that is found goes before those that are found after it
ends_step : {B : Type 0} (b : Bool) (f : Fault) (r : Result B Fault) (fs : List Fault)
    → (b ≡ true → All (Before f) fs) → Agrees r fs → Agrees (cond b (Err f) r) (if_fault b f ++ fs)
ends_step true f r fs before a =
    front_is_first f fs (All-weaker (Before f) (λ x. (x ≡ f) ⊎ Before f x) (λ x p. inr p) fs (before refl))
ends_step false f r fs before a = a

ends_last : {B : Type 0} (b : Bool) (f : Fault) (x : B) → Agrees (cond b (Err f) (Ok x)) (if_fault b f)
ends_last true f x = front_is_first f [] (All-nil (λ x. (x ≡ f) ⊎ Before f x))
ends_last false f x = refl

ending_agrees : (hash : List ℕ → List ℕ) (root : List ℕ) (a : Question) (x : Parsed) (s : Cursor)
    → Agrees (ending hash root a x s) (last_faults hash root a x s)
unfolding ending
ending_agrees hash root a x s =
    let found = root_found hash x.head x.part in
    let end = s.at + length s.rest in
    let left = nat_lt 0 (length s.rest) in
    let other_root = not (bytes_eq found root) in
    let other_radius = has_other_radius a.around x.head.radius (opened_records x.part) in
    let other_count = has_other_count x in
    let trailing = fault rule.Trailing s.at in
    let wrong_root = fault (rule.WrongRoot found) end in
    let wrong_radius = fault rule.WrongRadius end in
    let wrong_tally = fault rule.WrongTally end in
    let counts : Agrees (if other_count then Err wrong_tally else Ok x) (if_fault other_count wrong_tally) =
    ends_last other_count wrong_tally x in
    let radii : Agrees (if other_radius then Err wrong_radius else if other_count then Err wrong_tally else Ok x)
    (if_fault other_radius wrong_radius ++ if_fault other_count wrong_tally) =
    ends_step other_radius wrong_radius (if other_count then Err wrong_tally else Ok x)
    (if_fault other_count wrong_tally)
    (λ t. if_fault_all (Before wrong_radius) other_count wrong_tally (inr (refl, omega arith))) counts in
    let roots : Agrees (if other_root then Err wrong_root else if other_radius then Err wrong_radius else if other_count
    then Err wrong_tally else Ok x)
    (if_fault other_root wrong_root ++ (if_fault other_radius wrong_radius ++ if_fault other_count wrong_tally)) =
    ends_step other_root wrong_root
    (if other_radius then Err wrong_radius else if other_count then Err wrong_tally else Ok x)
    (if_fault other_radius wrong_radius ++ if_fault other_count wrong_tally)
    (λ t. All-append (Before wrong_root) _ _
    (if_fault_all (Before wrong_root) other_radius wrong_radius (inr (refl, omega arith)))
    (if_fault_all (Before wrong_root) other_count wrong_tally (inr (refl, omega arith)))) radii in
    ends_step left trailing
    (if other_root then Err wrong_root else if other_radius then Err wrong_radius else if other_count
    then Err wrong_tally else Ok x)
    (if_fault other_root wrong_root ++ (if_fault other_radius wrong_radius ++ if_fault other_count wrong_tally))
    (λ t. let some : 0 < length s.rest = ltb-true 0 (length s.rest) t in
    All-append (Before trailing) _ _ (if_fault_all (Before trailing) other_root wrong_root (inl (omega arith)))
    (All-append (Before trailing) _ _ (if_fault_all (Before trailing) other_radius wrong_radius (inl (omega arith)))
    (if_fault_all (Before trailing) other_count wrong_tally (inl (omega arith))))) roots

ending_late : (hash : List ℕ → List ℕ) (root : List ℕ) (a : Question) (x : Parsed) (s : Cursor)
    → All (λ f. s.at ≤ f.at) (last_faults hash root a x s)
ending_late hash root a x s =
    All-append (λ f. s.at ≤ f.at) _ _
    (if_fault_all (λ f. s.at ≤ f.at) (nat_lt 0 (length s.rest)) (fault rule.Trailing s.at) (omega arith))
    (All-append (λ f. s.at ≤ f.at) _ _
    (if_fault_all (λ f. s.at ≤ f.at) (not (bytes_eq (root_found hash x.head x.part) root))
    (fault (rule.WrongRoot (root_found hash x.head x.part)) (s.at + length s.rest)) (omega arith))
    (All-append (λ f. s.at ≤ f.at) _ _
    (if_fault_all (λ f. s.at ≤ f.at) (has_other_radius a.around x.head.radius (opened_records x.part))
    (fault rule.WrongRadius (s.at + length s.rest)) (omega arith))
    (if_fault_all (λ f. s.at ≤ f.at) (has_other_count x) (fault rule.WrongTally (s.at + length s.rest))
    (omega arith))))

-- ---- each field of a proof has a byte, and its notes stand in order

sized_payload : {A : Type 0} (n : ℕ) (next : List ℕ → Grammar A) → ((p : List ℕ) → Sized 0 (next p))
    → Sized 0 (payload n next)
sized_payload n next h = elim (cases_Bool (eqb n 0)) [
  | inl t ↦ rw t (h [])
  | inr f ↦ let some : (n ≡ 0 → ⊥) = eqb-false n 0 f in rw f (omega arith, λ p. h (bytes_in p))
]

sized_layer : {A : Type 0} (v : Version) (next : ℕ → Grammar A) → ((i : ℕ) → Sized 0 (next i)) → Sized 0 (layer v next)
sized_layer One next h = h 0
sized_layer Two next h = (omega arith, λ l. h (number_in l))

sized_record : {A : Type 0} (v : Version) (n : ℕ) (next : Record → Grammar A) → ((r : Record) → Sized 0 (next r))
    → Sized n (one_record v next)
sized_record v m next h = (
  omega arith,
  λ n. (
    omega arith,
    λ r. sized_layer v
        (λ i. reads want.Length (λ l. payload (number_in l) (λ p. next (record_of (number_in n) (rect_in r) i p))))
        (λ i. (
          omega arith,
          λ l.
              sized_payload (number_in l) (λ p. next (record_of (number_in n) (rect_in r) i p))
              (λ p. h (record_of (number_in n) (rect_in r) i p)),
        )),
  ),
)

sized_records : {A : Type 0} (v : Version) (way : Key → Way) (n : ℕ) (next : List Record → Grammar A) →
    ((rs : List Record) → Sized 0 (next rs))
    → Sized 0 (some_records v way n next)
sized_records v way zero next h = h []
sized_records v way (suc n) next h =
    sized_record v 0 (λ r. notes (opens r (keeps_record way r)) (some_records v way n (λ rs. next (r ∷ rs))))
    (λ r. sized_records v way n (λ rs. next (r ∷ rs)) (λ rs. h (r ∷ rs)))

-- behind an item the notes are those of opened nodes
abbrev Follows : {A : Type 0} {X : Type 0} → (X → Grammar A) → Type 0
Follows {A} {X} next = (x : X) → Sized 14 (next x)

sized_leaf : {A : Type 0} (v : Version) (way : Key → Way) (next : Cut → Grammar A) → Follows next
    → Sized 0 (leaf v way next)
sized_leaf v way next h = (
  omega arith,
  λ n. sized_records v way (number_in n) (λ rs. opened v way (Leaf rs) next)
      (λ rs. (inr refl, omega arith, h (Leaf rs))),
)

sized_layers : {A : Type 0} (v : Version) (way : Key → Way) (r : Rectangle) (next : ℕ → ℕ → Grammar A)
    → ((m c : ℕ) → Sized 13 (next m c)) → Sized 0 (layers_and_count v way r next)
sized_layers One way r next h = (inl refl, omega arith, h 0 0)
sized_layers Two way r next h = (
  omega arith,
  λ m. (
    inl refl,
    omega arith,
    (omega arith, λ c. sized_any 13 (next (number_in m) (number_in c)) (h (number_in m) (number_in c))),
  ),
)

sized_pruned : {A : Type 0} (v : Version) (way : Key → Way) (next : Cut → Grammar A) → Follows next
    → Sized 0 (pruned v way next)
sized_pruned v way next h = (
  omega arith,
  λ r. sized_layers v way (rect_in r)
      (λ m c. reads want.Digest (λ d. next (Pruned (part_of (rect_in r) m c (bytes_in d)))))
      (λ m c. (
        omega arith,
        λ d. sized_any 14 (next (Pruned (part_of (rect_in r) m c (bytes_in d))))
            (h (Pruned (part_of (rect_in r) m c (bytes_in d)))),
      )),
)

sized_items : {A : Type 0} (one : (Cut → Grammar A) → Grammar A)
    (one_sized : (next : Cut → Grammar A) → Follows next → Sized 14 (one next)) (n : ℕ) (next : Cuts → Grammar A)
    → Follows next → Sized 14 (some_items one n next)
sized_items one one_sized zero next h = h no_more
sized_items one one_sized (suc n) next h =
    one_sized (λ P. some_items one n (λ Ps. next (first P Ps)))
    (λ P. sized_items one one_sized n (λ Ps. next (first P Ps)) (λ Ps. h (first P Ps)))

sized_choice : {A : Type 0} (n : ℕ) (b : Bool) (g k : Grammar A) → Sized n g → Sized n k → Sized n (if b then g else k)
sized_choice n true g k p q = p
sized_choice n false g k p q = q

sized_item : {A : Type 0} (v : Version) (way : Key → Way) (l n : ℕ) (next : Cut → Grammar A) → Follows next
    → Sized n (item v way l next)
sized_item v way zero n next h = (
  omega arith,
  λ t. sized_choice 0 (tag_in t == pruned_tag) (pruned v way next) (leaf v way next)
      (sized_pruned v way next h) (sized_leaf v way next h),
)
sized_item v way (suc l) n next h = (
  omega arith,
  λ t. sized_choice 0 (tag_in t == pruned_tag) (pruned v way next) (inner v way (item v way l) next)
      (sized_pruned v way next h) (
        omega arith,
        λ n. sized_any 14 (some_items (item v way l) (number_in n) (λ Ps. opened v way (Inner Ps) next))
            (sized_items (item v way l) (sized_item v way l 14) (number_in n) (λ Ps. opened v way (Inner Ps) next)
            (λ Ps. (inr refl, omega arith, h (Inner Ps)))),
      ),
)

sized_level : {A : Type 0} (count : ℕ) (next : ℕ → Grammar A) → ((n : ℕ) → Sized 0 (next n))
    → Sized 0 (level count next)
sized_level count next h =
    sized_choice 0 (count == 0) (next 0) (reads want.Level (λ l. next (number_in l))) (h 0)
    (omega arith, λ l. h (number_in l))

sized_radius : {A : Type 0} (k : Kind) (next : Option ℕ → Grammar A) → ((r : Option ℕ) → Sized 0 (next r))
    → Sized 0 (radius k next)
sized_radius kind.W next h = h None
sized_radius (kind.Choice letter) next h = h None
sized_radius kind.K next h = (
  omega arith,
  λ f. sized_choice 0 (number_in f == 0) (next None) (reads want.Radius (λ r. next (Some (wide_in r))))
      (h None) (omega arith, λ r. h (Some (wide_in r))),
)

sized_head : {A : Type 0} (k : Kind) (two_only : Bool) (next : Head → Grammar A) → ((h : Head) → Sized 0 (next h))
    → Sized 0 (head k two_only next)
sized_head k two_only next h = (
  omega arith,
  λ m. (
    omega arith,
    λ v. (
      omega arith,
      λ w. (
        omega arith,
        λ b. (
          omega arith,
          λ c.
              sized_radius k (λ r. level (number_in c)
              (λ l. next (head_of (version_in v) k (number_in b) (number_in c) r l)))
              (λ r.
              sized_level (number_in c) (λ l. next (head_of (version_in v) k (number_in b) (number_in c) r l))
              (λ l. h (head_of (version_in v) k (number_in b) (number_in c) r l))),
        ),
      ),
    ),
  ),
)

pub sized_whole : (k : Kind) (two_only : Bool) (way : Option ℕ → Key → Way) → Sized 0 (whole k two_only way)
sized_whole k two_only way =
    sized_head k two_only (part way) (λ h.
    sized_choice 0 (h.count == 0) (done (said h None))
    (item h.version (way h.radius) h.level (λ P. done (said h (Some P)))) tt
    (sized_item h.version (way h.radius) h.level 0 (λ P. done (said h (Some P))) (λ P. tt)))

-- ---- the whole

-- a field comes first
abbrev Begins : {A : Type 0} → Grammar A → Type 0
Begins (done x) = ⊥
Begins (reads w next) = Unit {0}
Begins (notes n next) = ⊥

agree_first : {A B : Type 0} (e : A → Cursor → Result B Fault) (final : A → Cursor → List Fault)
    (ends : (x : A) (s : Cursor) → Agrees (e x s) (final x s))
    (last : (x : A) (s : Cursor) → All (λ f. s.at ≤ f.at) (final x s)) (g : Grammar A) → Sized 0 g → Begins g
    → (s : Cursor) → s.last ≤ s.at → Agrees (walk true e g s) (faults final g s)
agree_first e final ends last (done x) sized begins s le = absurd begins
agree_first e final ends last (reads w next) sized begins s le =
    agree_field w s (λ v t. walk true e (next v) t) (λ v t. faults final (next v) t) (field_at w s) refl
    (λ v. agree e final ends last 0 (next v) (sized.1 v) (behind w s) (let some : 0 < size_of w = sized.0 in
    omega arith))
agree_first e final ends last (notes n next) sized begins s le = absurd begins

checked_agrees : (hash : List ℕ → List ℕ) (root : List ℕ) (a : Question) (bytes : List ℕ)
    → Agrees (checked hash root a bytes) (all_faults hash root a bytes)
unfolding checked
checked_agrees hash root a bytes =
    agree_first (ending hash root a) (last_faults hash root a) (ending_agrees hash root a) (ending_late hash root a)
    (whole a.kind a.two_only a.way)
    (sized_whole a.kind a.two_only a.way) tt (start bytes) (omega arith)

answer_agrees : {A B : Type 0} (r : Result A Fault) (m : A → B) (fs : List Fault) → Agrees r fs
    → Agrees (r >>= λ x. Ok (m x)) fs
answer_agrees (Ok x) m fs a = a
answer_agrees (Err f) m fs a = a

verdict_agrees : (hash : List ℕ → List ℕ) (root : List ℕ) (q : Query) (bytes : List ℕ)
    → Agrees (verdict hash root q bytes) (all_faults hash root (question q) bytes)
unfolding verdict
verdict_agrees hash root q bytes =
    answer_agrees (checked hash root (question q) bytes) (λ x. scan (opened_records x.part) q)
    (all_faults hash root (question q) bytes) (checked_agrees hash root (question q) bytes)

no_first : (f : Fault) (fs : List Fault) → fs ≡ [] → IsFirst f fs → ⊥
no_first f fs e p =
    let within : p.is_one.0 < length fs = p.is_one.1 in let none : length fs ≡ 0 = ap length e in omega arith

refused_just : {B : Type 0} (r : Result B Fault) (fs : List Fault) (f : Fault) → Agrees r fs
    → (r ≡ Err f) ↔ IsFirst f fs
refused_just (Ok x) fs f a = (λ e. absurd cc, λ p. absurd (no_first f fs a p))
refused_just (Err g) fs f a =
    (λ e. subst (λ (h : Fault). IsFirst h fs) (same_error g f e) a, λ p. ap Err (one_first g f fs a p))

pub faults_just : (hash : List ℕ → List ℕ) (root : List ℕ) (a : Question) (bytes : List ℕ) (f : Fault)
    → (checked hash root a bytes ≡ Err f) ↔ IsRefused hash root a bytes f
faults_just hash root a bytes f =
    refused_just (checked hash root a bytes) (all_faults hash root a bytes) f (checked_agrees hash root a bytes)

pub refuses_just : (hash : List ℕ → List ℕ) (root : List ℕ) (q : Query) (bytes : List ℕ) (f : Fault)
    → (verdict hash root q bytes ≡ Err f) ↔ IsRefused hash root (question q) bytes f
refuses_just hash root q bytes f =
    refused_just (verdict hash root q bytes) (all_faults hash root (question q) bytes) f
    (verdict_agrees hash root q bytes)
