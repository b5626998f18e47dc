-- The records that a reader hands out of bytes that spell a head and a cut.
use Rattle.std.proofs.Common.{◌≡◌, ℕ, zero, suc, ◌+◌, Bool, true, false, eqb, List, [], ◌∷◌, ◌++◌, Result, Ok, Err, Option, Some, None, refl, sym, ap, subst, ◌∙◌, inl, inr, append_assoc}
use Rattle.std.specs.Prelude.{if◌then◌else◌, ◌==◌, not, ◌&&◌, nat_lt, filter, IfSome}
use Rattle.std.proofs.lemmas.Bool.{false≢true, cases_Bool}
use Rattle.std.proofs.lemmas.List.{append-nil}
use Rattle.std.proofs.lemmas.List.Elements.{filter-append}
use Rattle.mr_geom.specs.Rectangle.{Rectangle}
use Rattle.mr_record.specs.declared.record.Record.{Record}
use Rattle.mr_record.specs.declared.version.Version.{Version}
use Rattle.mr_record.specs.declared.version.Version.TheVariants.{One, Two}
use Rattle.mr_proof.specs.declared.head.Kind.{Kind}
use Rattle.mr_proof.specs.declared.head.Kind.TheVariants as kind
use Rattle.mr_proof.specs.declared.head.Head.{Head}
use Rattle.mr_proof.specs.declared.rule.Rule.TheVariants as rule
use Rattle.mr_proof.specs.declared.rule.Fault.{Fault}
use Rattle.mr_proof.specs.declared.want.Want.{Want}
use Rattle.mr_proof.specs.declared.want.Want.TheVariants as want
use Rattle.mr_proof.specs.declared.field.Field.{Field}
use Rattle.mr_proof.specs.declared.way.Way.{Way}
use Rattle.mr_proof.specs.Limits.{place_limit}
use Rattle.mr_proof.specs.Fields.{size_of, pruned_tag}
use Rattle.mr_proof.specs.Cut.{Cut, Cuts, Pruned, Leaf, Inner, no_more, first, records, all_records}
use Rattle.mr_proof.specs.Spelling.{Parsed, said, opened_records, IsSpelled}
use Rattle.mr_query.specs.declared.key.Key.{Key}
use Rattle.mr_proof.specs.Tight.{keeps_record, Question, MayCome, IsTightCut}
use Rattle.mr_proof.specs.Grammar.{must, opens, Grammar, done, reads, notes, number_in, version_in, wide_in, tag_in, rect_in, bytes_in, payload, layer, one_record, some_records, opened, leaf, some_items, inner, layers_and_count, pruned, item, radius, level, head, part, whole}
use Rattle.mr_proof.specs.Layout.{fault, Cursor, start, field_at}
use Rattle.mr_proof.specs.Reading.{◌>>=◌, walk}
use Rattle.mr_proof.specs.Handed.{is_fixed, if_read, if_handed, handed, handed_out}
use Rattle.mr_proof.specs.Feeding.{IsFrontOfRecords, kept_records, HandsOpened}
use Rattle.mr_proof.proofs.Laws.{either_comes}
use Rattle.mr_proof.proofs.Values.{record_of, part_of, head_of, same_value}
use Rattle.mr_proof.proofs.Completeness.{whole_again}

-- the records on the way to the last field that are not left out, whatever the notes say is broken
abbrev kept : {A : Type 0} → Grammar A → Cursor → List Record
kept (done x) s = []
kept (reads w next) s = if_read (field_at w s) (λ x. kept (next x.0) x.1)
kept (notes (must r passes) next) s = kept next s
kept (notes (opens r met) next) s = if_handed met r (kept next s)

-- ---- those handed out are the first of them

past_limit : (w : Want) (s : Cursor) → nat_lt place_limit (s.at + size_of w) ≡ true
    → field_at w s ≡ Err (fault rule.Long s.at)
unfolding field_at
past_limit w s e = rw e refl

not_handed : (met b : Bool) (r : Record) (rs : List Record) → b ≡ true → rs ≡ [] → if_handed (met && not b) r rs ≡ []
not_handed true true r rs e none = none
not_handed false true r rs e none = none
not_handed met false r rs e none = absurd (false≢true e)

-- where a fault is fixed, none is handed out any more
none_behind : {A : Type 0} (g : Grammar A) (s : Cursor) → is_fixed g s.at ≡ true → handed g s ≡ []
none_behind (done x) s e = refl
none_behind (reads w next) s e = rw (past_limit w s e) refl
none_behind (notes (must r true) next) s e = none_behind next s e
none_behind (notes (must r false) next) s e = refl
none_behind (notes (opens r met) next) s e =
    not_handed met (is_fixed next s.at) r (handed next s) e (none_behind next s e)

front_read : (r : Result (Field × Cursor) Fault) (h k : Field × Cursor → List Record)
    → ((x : Field × Cursor) → IsFrontOfRecords (h x) (k x)) → IsFrontOfRecords (if_read r h) (if_read r k)
front_read (Ok x) h k each = each x
front_read (Err f) h k each = ([], refl)

front_opens : (met b : Bool) (r : Record) (hs ks : List Record) → (b ≡ true → hs ≡ []) → IsFrontOfRecords hs ks
    → IsFrontOfRecords (if_handed (met && not b) r hs) (if_handed met r ks)
front_opens true true r hs ks none p = (r ∷ ks, ap (λ (z : List Record). z ++ r ∷ ks) (sym (none refl)))
front_opens true false r hs ks none p = (p.0, ap (λ (z : List Record). r ∷ z) p.1)
front_opens false true r hs ks none p = p
front_opens false false r hs ks none p = p

front : {A : Type 0} (g : Grammar A) (s : Cursor) → IsFrontOfRecords (handed g s) (kept g s)
front (done x) s = ([], refl)
front (reads w next) s =
    front_read (field_at w s) (λ x. handed (next x.0) x.1) (λ x. kept (next x.0) x.1) (λ x. front (next x.0) x.1)
front (notes (must r true) next) s = front next s
front (notes (must r false) next) s = (kept next s, refl)
front (notes (opens r met) next) s =
    front_opens met (is_fixed next s.at) r (handed next s) (kept next s) (none_behind next s) (front next s)

-- ---- and all of them, where no note says that a rule is broken

-- what is read up to the last field
abbrev reached : {A : Type 0} → A → Cursor → Result A Fault
reached x s = Ok x

abbrev read_well : {A : Type 0} → A → Result A Fault
read_well x = Ok x

abbrev read_badly : {A : Type 0} → Fault → Result A Fault
read_badly f = Err f

well_or_badly : {A : Type 0} (x : A) (f : Fault) → read_well x ≡ read_badly f → ⊥
well_or_badly x f e = cc

within_limit : (w : Want) (s : Cursor) (x : Field × Cursor) → field_at w s ≡ Ok x
    → nat_lt place_limit (s.at + size_of w) ≡ false
within_limit w s x is = elim (cases_Bool (nat_lt place_limit (s.at + size_of w))) [
  | inl t ↦ absurd (well_or_badly x (fault rule.Long s.at) (sym is ∙ past_limit w s t))
  | inr f ↦ f
]

all_read : {A : Type 0} (w : Want) (s : Cursor) (next : Field → Grammar A) (y : A) (r : Result (Field × Cursor) Fault)
    → field_at w s ≡ r
    → ((v : Field) (t : Cursor) → walk true reached (next v) t ≡ Ok y → handed (next v) t ≡ kept (next v) t)
    → (r >>= λ x. walk true reached (next x.0) x.1) ≡ Ok y
    → (nat_lt place_limit (s.at + size_of w) ≡ false)
    × (if_read r (λ x. handed (next x.0) x.1) ≡ if_read r (λ x. kept (next x.0) x.1))
all_read w s next y (Ok x) is each e = (within_limit w s x is, each x.0 x.1 e)
all_read w s next y (Err f) is each e = absurd (well_or_badly y f (sym e))

all_opens : (met b : Bool) (r : Record) (hs ks : List Record) → b ≡ false → hs ≡ ks
    → if_handed (met && not b) r hs ≡ if_handed met r ks
all_opens true true r hs ks e same = absurd (false≢true (sym e))
all_opens true false r hs ks e same = ap (λ (z : List Record). r ∷ z) same
all_opens false b r hs ks e same = same

all_out : {A : Type 0} (g : Grammar A) (s : Cursor) (y : A) → walk true reached g s ≡ Ok y
    → (is_fixed g s.at ≡ false) × (handed g s ≡ kept g s)
all_out (done x) s y e = (refl, refl)
all_out (reads w next) s y e =
    all_read w s next y (field_at w s) refl (λ v t p. (all_out (next v) t y p).1) e
all_out (notes (must r true) next) s y e = all_out next s y e
all_out (notes (must r false) next) s y e = absurd (well_or_badly y (fault r s.last) (sym e))
all_out (notes (opens r met) next) s y e =
    let p = all_out next s y e in (p.0, all_opens met (is_fixed next s.at) r (handed next s) (kept next s) p.0 p.1)

-- ---- by what is read, whatever the values of the fields are

-- of all that may be read this is so, with the records that were kept before and on the way there
abbrev Ends : {A : Type 0} → (A → List Record → Type 0) → List Record → Grammar A → Type 0
Ends Q before (done x) = Q x before
Ends Q before (reads w next) = (f : Field) → Ends Q before (next f)
Ends Q before (notes (must r passes) next) = Ends Q before next
Ends Q before (notes (opens r met) next) = Ends Q (before ++ if_handed met r []) next

one_more : (met : Bool) (before : List Record) (r : Record) (rs : List Record)
    → (before ++ if_handed met r []) ++ rs ≡ before ++ if_handed met r rs
one_more true before r rs = append_assoc before (r ∷ []) rs
one_more false before r rs = ap (λ (z : List Record). z ++ rs) (append-nil before)

kept_read : {A : Type 0} (Q : A → List Record → Type 0) (before : List Record) (next : Field → Grammar A) (y : A)
    (r : Result (Field × Cursor) Fault)
    → ((v : Field) (t : Cursor) → walk false reached (next v) t ≡ Ok y → Q y (before ++ kept (next v) t))
    → (r >>= λ x. walk false reached (next x.0) x.1) ≡ Ok y → Q y (before ++ if_read r (λ x. kept (next x.0) x.1))
kept_read Q before next y (Ok x) each e = each x.0 x.1 e
kept_read Q before next y (Err f) each e = absurd (well_or_badly y f (sym e))

kept_ends : {A : Type 0} (Q : A → List Record → Type 0) (before : List Record) (g : Grammar A) (s : Cursor) (y : A)
    → Ends Q before g → walk false reached g s ≡ Ok y → Q y (before ++ kept g s)
kept_ends Q before (done x) s y ends e =
    subst (λ z. Q z (before ++ [])) (same_value x y e) (subst (Q x) (sym (append-nil before)) ends)
kept_ends Q before (reads w next) s y ends e =
    kept_read Q before next y (field_at w s) (λ v t p. kept_ends Q before (next v) t y (ends v) p) e
kept_ends Q before (notes (must r passes) next) s y ends e = kept_ends Q before next s y ends e
kept_ends Q before (notes (opens r met) next) s y ends e =
    subst (Q y) (one_more met before r (kept next s))
    (kept_ends Q (before ++ if_handed met r []) next s y ends e)

-- the records that are not left out
abbrev out : (Key → Way) → List Record → List Record
out way rs = filter (keeps_record way) rs

module _ {A : Type 0} (Q : A → List Record → Type 0) where
  none_more : (before : List Record) (g : Grammar A) → Ends Q (before ++ []) g → Ends Q before g
  none_more before g ends = subst (λ (z : List Record). Ends Q z g) (append-nil before) ends

  ends_payload : (before : List Record) (n : ℕ) (next : List ℕ → Grammar A)
      → ((p : List ℕ) → Ends Q before (next p)) → Ends Q before (payload n next)
  ends_payload before n next h = elim (cases_Bool (eqb n 0)) [
    | inl t ↦ rw t (h [])
    | inr f ↦ rw f (λ p. h (bytes_in p))
  ]

  ends_layer : (before : List Record) (v : Version) (next : ℕ → Grammar A) → ((i : ℕ) → Ends Q before (next i))
      → Ends Q before (layer v next)
  ends_layer before One next h = h 0
  ends_layer before Two next h = λ l. h (number_in l)

  ends_record : (before : List Record) (v : Version) (next : Record → Grammar A)
      → ((r : Record) → Ends Q before (next r)) → Ends Q before (one_record v next)
  ends_record before v next h = λ n r. ends_layer before v
      (λ i. reads want.Length (λ l. payload (number_in l)
      (λ p. next (record_of (number_in n) (rect_in r) i p))))
      (λ i l. ends_payload before (number_in l)
      (λ p. next (record_of (number_in n) (rect_in r) i p))
      (λ p. h (record_of (number_in n) (rect_in r) i p)))

  ends_records : (before : List Record) (v : Version) (way : Key → Way) (n : ℕ) (next : List Record → Grammar A)
      → ((rs : List Record) → Ends Q (before ++ out way rs) (next rs)) → Ends Q before (some_records v way n next)
  ends_records before v way zero next h = none_more before (next []) (h [])
  ends_records before v way (suc n) next h =
      ends_record before v (λ r. notes (opens r (keeps_record way r)) (some_records v way n (λ rs. next (r ∷ rs))))
      (λ r. ends_records (before ++ if_handed (keeps_record way r) r []) v way n (λ rs. next (r ∷ rs)) (λ rs.
      subst (λ (z : List Record). Ends Q z (next (r ∷ rs)))
      (sym (one_more (keeps_record way r) before r (out way rs))) (h (r ∷ rs))))

  -- what follows a cut, with its records
  abbrev Behind : (Key → Way) → List Record → (Cut → Grammar A) → Type 0
  Behind way before next = (P : Cut) → Ends Q (before ++ out way (records P)) (next P)

  ends_leaf : (before : List Record) (v : Version) (way : Key → Way) (next : Cut → Grammar A) → Behind way before next
      → Ends Q before (leaf v way next)
  ends_leaf before v way next h = λ n.
      ends_records before v way (number_in n) (λ rs. opened v way (Leaf rs) next) (λ rs. h (Leaf rs))

  ends_layers : (before : List Record) (v : Version) (way : Key → Way) (r : Rectangle) (next : ℕ → ℕ → Grammar A)
      → ((m c : ℕ) → Ends Q before (next m c)) → Ends Q before (layers_and_count v way r next)
  ends_layers before One way r next h = h 0 0
  ends_layers before Two way r next h = λ m c. h (number_in m) (number_in c)

  ends_pruned : (before : List Record) (v : Version) (way : Key → Way) (next : Cut → Grammar A)
      → Behind way before next → Ends Q before (pruned v way next)
  ends_pruned before v way next h = λ r. ends_layers before v way (rect_in r)
      (λ m c. reads want.Digest
      (λ d. next (Pruned (part_of (rect_in r) m c (bytes_in d)))))
      (λ m c d. none_more before
      (next (Pruned (part_of (rect_in r) m c (bytes_in d))))
      (h (Pruned (part_of (rect_in r) m c (bytes_in d)))))

  two_parts : (before : List Record) (way : Key → Way) (xs ys : List Record)
      → before ++ out way (xs ++ ys) ≡ (before ++ out way xs) ++ out way ys
  two_parts before way xs ys =
      ap (λ (z : List Record). before ++ z) (filter-append (keeps_record way) xs ys)
      ∙ sym (append_assoc before (out way xs) (out way ys))

  ends_items : (way : Key → Way) (one : (Cut → Grammar A) → Grammar A)
      → ((before : List Record) (next : Cut → Grammar A) → Behind way before next → Ends Q before (one next))
      → (before : List Record) (n : ℕ) (next : Cuts → Grammar A)
      → ((Ps : Cuts) → Ends Q (before ++ out way (all_records Ps)) (next Ps))
      → Ends Q before (some_items one n next)
  ends_items way one each before zero next h = none_more before (next no_more) (h no_more)
  ends_items way one each before (suc n) next h =
      each before (λ P. some_items one n (λ Ps. next (first P Ps)))
      (λ P. ends_items way one each (before ++ out way (records P)) n (λ Ps. next (first P Ps)) (λ Ps.
      subst (λ (z : List Record). Ends Q z (next (first P Ps))) (two_parts before way (records P) (all_records Ps))
      (h (first P Ps))))

  ends_choice : (before : List Record) (b : Bool) (g k : Grammar A) → Ends Q before g → Ends Q before k
      → Ends Q before (if b then g else k)
  ends_choice before true g k p q = p
  ends_choice before false g k p q = q

  ends_item : (v : Version) (way : Key → Way) (l : ℕ) (before : List Record) (next : Cut → Grammar A)
      → Behind way before next → Ends Q before (item v way l next)
  ends_item v way zero before next h = λ t.
      ends_choice before (tag_in t == pruned_tag) (pruned v way next) (leaf v way next)
      (ends_pruned before v way next h) (ends_leaf before v way next h)
  ends_item v way (suc l) before next h = λ t.
      ends_choice before (tag_in t == pruned_tag) (pruned v way next) (inner v way (item v way l) next)
      (ends_pruned before v way next h) (λ n.
      ends_items way (item v way l) (ends_item v way l) before (number_in n)
      (λ Ps. opened v way (Inner Ps) next) (λ Ps. h (Inner Ps)))

  ends_level : (before : List Record) (count : ℕ) (next : ℕ → Grammar A) → ((n : ℕ) → Ends Q before (next n))
      → Ends Q before (level count next)
  ends_level before count next h =
      ends_choice before (count == 0) (next 0) (reads want.Level (λ l. next (number_in l))) (h 0)
      (λ l. h (number_in l))

  ends_radius : (before : List Record) (k : Kind) (next : Option ℕ → Grammar A)
      → ((r : Option ℕ) → Ends Q before (next r)) → Ends Q before (radius k next)
  ends_radius before kind.W next h = h None
  ends_radius before (kind.Choice letter) next h = h None
  ends_radius before kind.K next h = λ f.
      ends_choice before (number_in f == 0) (next None) (reads want.Radius (λ r. next (Some (wide_in r)))) (h None)
      (λ r. h (Some (wide_in r)))

  ends_head : (before : List Record) (k : Kind) (two_only : Bool) (next : Head → Grammar A)
      → ((h : Head) → Ends Q before (next h)) → Ends Q before (head k two_only next)
  ends_head before k two_only next each = λ m v w b c.
      ends_radius before k (λ r. level (number_in c)
      (λ l. next (head_of (version_in v) k (number_in b) (number_in c) r l)))
      (λ r. ends_level before (number_in c)
      (λ l. next (head_of (version_in v) k (number_in b) (number_in c) r l))
      (λ l. each (head_of (version_in v) k (number_in b) (number_in c) r l)))

-- ---- the whole

-- these are the records of the cut that are not left out
abbrev AreKept : (Option ℕ → Key → Way) → Parsed → List Record → Type 0
AreKept way x rs = rs ≡ out (way x.head.radius) (opened_records x.part)

ends_whole : (k : Kind) (two_only : Bool) (way : Option ℕ → Key → Way) → Ends (AreKept way) [] (whole k two_only way)
ends_whole k two_only way =
    ends_head (AreKept way) [] k two_only (part way) (λ h.
    ends_choice (AreKept way) [] (h.count == 0) (done (said h None))
    (item h.version (way h.radius) h.level (λ P. done (said h (Some P)))) refl
    (ends_item (AreKept way) h.version (way h.radius) h.level [] (λ P. done (said h (Some P))) (λ P. refl)))

-- what bytes spell is read
read_spelled : (heeds : Bool) (a : Question) (bytes : List ℕ) (h : Head) (P : Option Cut) → h.kind ≡ a.kind
    → MayCome a h.version → IsSpelled h P bytes
    → (heeds ≡ true → IfSome P (IsTightCut h.version (a.way h.radius)))
    → walk heeds reached (whole a.kind a.two_only a.way) (start bytes) ≡ Ok (said h P)
read_spelled heeds a bytes h P k may spelled tight =
    let x = whole_again heeds reached a.two_only a.way bytes h P (either_comes a h.version may) spelled tight in
    subst (λ (z : Kind). walk heeds reached (whole z a.two_only a.way) (start bytes) ≡ Ok (said h P)) k x.same

kept_spelled : (a : Question) (bytes : List ℕ) (h : Head) (P : Option Cut) → h.kind ≡ a.kind → MayCome a h.version
    → IsSpelled h P bytes → kept (whole a.kind a.two_only a.way) (start bytes) ≡ kept_records a h P
kept_spelled a bytes h P k may spelled =
    kept_ends (AreKept a.way) [] (whole a.kind a.two_only a.way) (start bytes) (said h P)
    (ends_whole a.kind a.two_only a.way) (read_spelled false a bytes h P k may spelled (λ e. absurd (false≢true e)))

pub hands_opened : (a : Question) (bytes : List ℕ) → HandsOpened a bytes
unfolding handed_out
hands_opened a bytes = record {
  front = λ h P k may spelled.
      subst (IsFrontOfRecords (handed (whole a.kind a.two_only a.way) (start bytes)))
      (kept_spelled a bytes h P k may spelled) (front (whole a.kind a.two_only a.way) (start bytes));
  tight = λ h P k may spelled tight.
      (all_out (whole a.kind a.two_only a.way) (start bytes) (said h P)
      (read_spelled true a bytes h P k may spelled (λ e. tight))).1
      ∙ kept_spelled a bytes h P k may spelled;
}
