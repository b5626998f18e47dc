-- A text of lines is read as the values that they spell, and what is read is written so, for any
-- reader of one line.
use Rattle.std.proofs.Common.{◌≡◌, ℕ, ◌+◌, ◌<◌, Bool, true, false, cond, not, eqb, leb, List, [], ◌∷◌, ◌++◌, length, map, Result, Ok, Err, refl, sym, ap, subst, ◌∙◌, arith, append_assoc, ◌⊎◌, inl, inr}
use Rattle.std.specs.Prelude.{flat_map}
use Rattle.std.proofs.lemmas.Bool.{eqb-true, lt-leb, leb-false, cond_both, not-false}
use Rattle.std.proofs.lemmas.List.{append-nil}
use Rattle.std.proofs.lemmas.List.Concat.{flat_map-cons}
use Rattle.std.proofs.lemmas.List.Folds.{flat_map-map}
use Rattle.mr_record.specs.declared.text_fault.TextRule.{TextRule}
use Rattle.mr_record.specs.declared.text_fault.TextRule.TheVariants.{TooMany, NoEnd}
use Rattle.mr_record.specs.declared.text_fault.TextFault.{TextFault}
use Rattle.mr_record.specs.Lines.{Line, lines_of, onto_line, LacksByte}
use Rattle.mr_record.specs.LineTexts.{Reader, text_by, value_after, on_line, values_after, IsFirstFaultBy}
use Rattle.mr_record.proofs.Fields.{lines_at}
use Rattle.mr_record.specs.Results.{◌>>=◌}
use Rattle.mr_record.proofs.Results.{bind_ok}

-- ---- the loop

pub all_read : {A : Type 0} (reader : Reader A) (values : List A) (rest : List ℕ) (meant : Result (List A) TextFault) →
    length rest ≡ 0 → values_after reader values (lines_of rest) ≡ meant → meant ≡ Ok values
unfolding lines_of values_after
all_read reader values [] meant none e = sym e
all_read reader values (b ∷ rest) meant none e = absurd (omega arith)

-- ---- a text is its lines

abbrev pub line_text : Line → List ℕ
line_text line = cond line.ended (line.bytes ++ 10 ∷ []) line.bytes

-- a line with its line feed
abbrev pub whole : List ℕ → Line
whole bytes = record { bytes = bytes; ended = true }

onto_line-text : (b : ℕ) (lines : List Line) → flat_map line_text (onto_line b lines) ≡ b ∷ flat_map line_text lines
onto_line-text b [] = refl
onto_line-text b (line ∷ lines) =
    cond_both line.ended (line.bytes ++ 10 ∷ []) line.bytes
    (λ (t : List ℕ). cond line.ended ((b ∷ line.bytes) ++ 10 ∷ []) (b ∷ line.bytes) ++ flat_map line_text lines ≡ b ∷
    (t ++ flat_map line_text lines))
    (λ t. rw t refl) (λ t. rw t refl)

pub lines_text : (text : List ℕ) → flat_map line_text (lines_of text) ≡ text
unfolding lines_of
lines_text [] = refl
lines_text (b ∷ text) =
    cond_both (eqb b 10) (record { bytes = []; ended = true } ∷ lines_of text) (onto_line b (lines_of text))
    (λ (lines : List Line). flat_map line_text lines ≡ b ∷ text)
    (λ t. let feed : b ≡ 10 = eqb-true b 10 t in let ih = lines_text text in rw (feed, ih) refl)
    (λ t. let ih = lines_text text in onto_line-text b (lines_of text) ∙ ap (λ (x : List ℕ). b ∷ x) ih)

pub first_lines : (line first : Line) (lines rest : List Line) → line ≡ first → lines ≡ rest →
    line ∷ lines ≡ first ∷ rest
first_lines line first lines rest a b = rw (a, b) refl

made_line : (a b : List ℕ) (s t : Bool) → a ≡ b → s ≡ t →
    ◌≡◌ {A = Line} (record { bytes = a; ended = s }) (record { bytes = b; ended = t })
made_line a b s t e f = rw (e, f) refl

pub ended_line : (line : Line) (bytes : List ℕ) → not line.ended ≡ false → line.bytes ≡ bytes → line ≡ whole bytes
ended_line line bytes e h =
    let t : line.ended ≡ true = not-false line.ended e in made_line line.bytes bytes line.ended true h t

-- ---- steps that may fail

pub guard_then : {A E : Type 0} (b : Bool) (d : E) (r : Result A E) (y : A) → cond b (Err d) r ≡ Ok y →
    (b ≡ false) × (r ≡ Ok y)
guard_then true d r y e = absurd cc
guard_then false d r y e = (refl, e)

pub bind_err : {A B E : Type 0} (r : Result A E) (f : A → Result B E) (d : E) → (r >>= f) ≡ Err d →
    (r ≡ Err d) ⊎ ((x : A) × (r ≡ Ok x) × (f x ≡ Err d))
bind_err (Ok x) f d e = inr (x, refl, e)
bind_err (Err c) f d e = inl cc

pub on_line-ok : {A : Type 0} (n : ℕ) (r : Result A TextRule) (x : A) → on_line n r ≡ Ok x → r ≡ Ok x
on_line-ok n (Ok y) x e = cc
on_line-ok n (Err rule) x e = absurd cc

pub same_fault : {A : Type 0} (f g : TextFault) → ◌≡◌ {A = Result A TextFault} (Err f) (Err g) → f ≡ g
same_fault f g e = cc

pub on_line-err : {A : Type 0} (n : ℕ) (r : Result A TextRule) (fault : TextFault) → on_line n r ≡ Err fault →
    (r ≡ Err fault.rule) × (fault.line ≡ n)
on_line-err n (Ok x) fault e = absurd cc
on_line-err {A} n (Err rule) fault e =
    let same : record { line = n; rule = rule } ≡ fault = same_fault {A = A} (record { line = n; rule = rule }) fault e
    in
    (ap (λ (f : TextFault). Err f.rule) same, sym (ap (λ (f : TextFault). f.line) same))

-- ---- values that one text may hold

-- what is to be known of a reader, and of the values that one text may hold
pub record IsSpelling {A : Type 0} (reader : Reader A) (Holds : List A → Type 0) : Type 0 where
  pub none : Holds []
  pub lacks : (earlier : List A) (one : A) (more : List A) → Holds (earlier ++ one ∷ more) → LacksByte 10
      (reader.spell one)
  pub few : (earlier : List A) (one : A) (more : List A) → Holds (earlier ++ one ∷ more) → length earlier < reader.limit
  pub again : (earlier : List A) (one : A) (more : List A) → Holds (earlier ++ one ∷ more) →
      reader.read earlier (reader.spell one) ≡ Ok one
  pub written : (earlier : List A) (line : List ℕ) (one : A) → Holds earlier → length earlier < reader.limit →
      reader.read earlier line ≡ Ok one → Holds (earlier ++ one ∷ []) × (line ≡ reader.spell one)

abbrev whole_by : {A : Type 0} → Reader A → A → Line
whole_by reader x = whole (reader.spell x)

pub spelled_lines : {A : Type 0} (reader : Reader A) (values : List A) →
    flat_map line_text (map (λ x. whole (reader.spell x)) values) ≡ text_by reader values
spelled_lines reader values = flat_map-map line_text (whole_by reader) values

ok_values : {A : Type 0} (a b : List A) → ◌≡◌ {A = Result (List A) TextFault} (Ok a) (Ok b) → a ≡ b
ok_values a b e = cc

both_lines : {A : Type 0} (reader : Reader A) (line : Line) (lines : List Line) (one : A) (more : List A) →
    line ≡ whole (reader.spell one) → lines ≡ map (whole_by reader) more →
    line ∷ lines ≡ map (whole_by reader) (one ∷ more)
both_lines reader line lines one more a b = rw (a, b) refl

more_lines : {A : Type 0} (reader : Reader A) (line : Line) (lines : List Line) (one : A) (more : List A) (next : Line)
    (rest : List Line) → line ≡ whole (reader.spell one) → lines ≡ map (whole_by reader) more ++ next ∷ rest →
    line ∷ lines ≡ map (whole_by reader) (one ∷ more) ++ next ∷ rest
more_lines reader line lines one more next rest a b = rw (a, b) refl

-- what the line behind the earlier values spells
record IsNext {A : Type 0} (reader : Reader A) (Holds : List A → Type 0) (earlier : List A) (line : Line) (one : A)
    : Type 0 where
  spelled : line ≡ whole (reader.spell one)
  held : Holds (earlier ++ one ∷ [])

module _ {A : Type 0} (reader : Reader A) (Holds : List A → Type 0) (is : IsSpelling reader Holds) where
  value_after-ok : (earlier : List A) (line : Line) (one : A) → Holds earlier → value_after reader earlier line
      ≡ Ok one →
      IsNext reader Holds earlier line one
  unfolding value_after
  value_after-ok earlier line one held e =
      let few = guard_then (leb reader.limit (length earlier)) TooMany
      (cond (not line.ended) (Err NoEnd) (reader.read earlier line.bytes)) one e in
      let end = guard_then (not line.ended) NoEnd (reader.read earlier line.bytes) one few.1 in
      let facts = is.written earlier line.bytes one held (leb-false reader.limit (length earlier) few.0) end.1 in
      record { spelled = ended_line line (reader.spell one) end.0 facts.1; held = facts.0 }

  record IsRest (earlier : List A) (lines : List Line) (values : List A) : Type 0 where
    more : List A
    all : values ≡ earlier ++ more
    spelled : lines ≡ map (whole_by reader) more
    held : Holds values

  values_after-ok : (earlier : List A) (lines : List Line) (values : List A) → Holds earlier →
      values_after reader earlier lines ≡ Ok values → IsRest earlier lines values
  unfolding values_after
  values_after-ok earlier [] values held e =
      let same : earlier ≡ values = ok_values earlier values e in
      record { more = []; all = sym same ∙ sym (append-nil earlier); spelled = refl; held = subst Holds same held }
  values_after-ok earlier (line ∷ lines) values held e =
      let first = bind_ok (on_line (length earlier + reader.first) (value_after reader earlier line))
      (λ one. values_after reader (earlier ++ one ∷ []) lines) values e in
      let next = value_after-ok earlier line first.0 held
      (on_line-ok (length earlier + reader.first) (value_after reader earlier line) first.0 first.1) in
      let rest = values_after-ok (earlier ++ first.0 ∷ []) lines values next.held first.2 in
      record {
        more = first.0 ∷ rest.more;
        all = rest.all ∙ append_assoc earlier (first.0 ∷ []) rest.more;
        spelled = both_lines reader line lines first.0 rest.more next.spelled rest.spelled;
        held = rest.held;
      }

  -- ---- what is read is written so

  pub values_written : (lines : List Line) (values : List A) → values_after reader [] lines ≡ Ok values →
      Holds values × (lines ≡ map (λ x. whole (reader.spell x)) values)
  values_written lines values e =
      let rest = values_after-ok [] lines values is.none e in
      (rest.held, rest.spelled ∙ ap (map (whole_by reader)) (sym rest.all))

  -- ---- what is written is read again

  lines_behind : (earlier more : List A) → Holds (earlier ++ more) →
      lines_of (text_by reader more) ≡ map (whole_by reader) more
  unfolding lines_of
  lines_behind earlier [] held = refl
  lines_behind earlier (x ∷ more) held =
      let ih = lines_behind (earlier ++ x ∷ []) more (subst Holds (sym (append_assoc earlier (x ∷ []) more)) held) in
      ap lines_of (flat_map-cons (λ y. reader.spell y ++ 10 ∷ []) x more
      ∙ append_assoc (reader.spell x) (10 ∷ []) (text_by reader more))
      ∙ lines_at (reader.spell x) (text_by reader more) (is.lacks earlier x more held)
      ∙ ap (λ (ls : List Line). whole (reader.spell x) ∷ ls) ih

  pub spelled_again : (values : List A) → Holds values →
      lines_of (text_by reader values) ≡ map (λ x. whole (reader.spell x)) values
  spelled_again values held = lines_behind [] values held

  value_after-read : (earlier : List A) (x : A) → length earlier < reader.limit →
      reader.read earlier (reader.spell x) ≡ Ok x → value_after reader earlier (whole (reader.spell x)) ≡ Ok x
  unfolding value_after
  value_after-read earlier x room again = rw (lt-leb reader.limit (length earlier) room, again) refl

  values_after-read : (earlier more : List A) → Holds (earlier ++ more) →
      values_after reader earlier (map (whole_by reader) more) ≡ Ok (earlier ++ more)
  unfolding values_after
  values_after-read earlier [] held = ap (λ (xs : List A). Ok xs) (sym (append-nil earlier))
  values_after-read earlier (x ∷ more) held =
      let one = value_after-read earlier x (is.few earlier x more held) (is.again earlier x more held) in
      let regroup = append_assoc earlier (x ∷ []) more in
      let ih = values_after-read (earlier ++ x ∷ []) more (subst Holds (sym regroup) held) in
      rw one (ih ∙ ap (λ (xs : List A). Ok xs) regroup)

  pub values_read : (values : List A) → Holds values →
      values_after reader [] (map (λ x. whole (reader.spell x)) values) ≡ Ok values
  values_read values held = values_after-read [] values held

  -- ---- the first fault

  -- values behind the earlier ones, and the first line that breaks a rule
  record IsBreak (earlier : List A) (lines : List Line) (fault : TextFault) : Type 0 where
    more : List A
    line : Line
    rest : List Line
    held : Holds (earlier ++ more)
    counted : fault.line ≡ length (earlier ++ more) + reader.first
    spelled : lines ≡ map (whole_by reader) more ++ line ∷ rest
    breaks : value_after reader (earlier ++ more) line ≡ Err fault.rule

  IsBreak-here : (earlier : List A) (line : Line) (lines : List Line) (fault : TextFault) → Holds earlier →
      on_line (length earlier + reader.first) (value_after reader earlier line) ≡ Err fault →
      IsBreak earlier (line ∷ lines) fault
  IsBreak-here earlier line lines fault held e =
      let broken = on_line-err (length earlier + reader.first) (value_after reader earlier line) fault e in
      let same = append-nil earlier in
      record {
        more = [];
        line = line;
        rest = lines;
        held = subst Holds (sym same) held;
        counted = subst (λ (xs : List A). fault.line ≡ length xs + reader.first) (sym same) broken.1;
        spelled = refl;
        breaks = subst (λ (xs : List A). value_after reader xs line ≡ Err fault.rule) (sym same) broken.0;
      }

  IsBreak-behind : (earlier : List A) (line : Line) (lines : List Line) (one : A) (fault : TextFault) →
      line ≡ whole (reader.spell one) → IsBreak (earlier ++ one ∷ []) lines fault →
      IsBreak earlier (line ∷ lines) fault
  IsBreak-behind earlier line lines one fault e broken =
      let same : (earlier ++ one ∷ []) ++ broken.more ≡ earlier ++ (one ∷ broken.more) =
      append_assoc earlier (one ∷ []) broken.more in
      record {
        more = one ∷ broken.more;
        line = broken.line;
        rest = broken.rest;
        held = subst Holds same broken.held;
        counted = subst (λ (xs : List A). fault.line ≡ length xs + reader.first) same broken.counted;
        spelled = more_lines reader line lines one broken.more broken.line broken.rest e broken.spelled;
        breaks = subst (λ (xs : List A). value_after reader xs broken.line ≡ Err fault.rule) same broken.breaks;
      }

  values_after-err : (earlier : List A) (lines : List Line) (fault : TextFault) → Holds earlier →
      values_after reader earlier lines ≡ Err fault → IsBreak earlier lines fault
  unfolding values_after
  values_after-err earlier [] fault held e = absurd cc
  values_after-err earlier (line ∷ lines) fault held e =
      elim (bind_err (on_line (length earlier + reader.first) (value_after reader earlier line))
      (λ one. values_after reader (earlier ++ one ∷ []) lines) fault e) [
        | inl here ↦ IsBreak-here earlier line lines fault held here
        | inr after ↦
            let next = value_after-ok earlier line after.0 held
            (on_line-ok (length earlier + reader.first) (value_after reader earlier line) after.0 after.1) in
            IsBreak-behind earlier line lines after.0 fault next.spelled
            (values_after-err (earlier ++ after.0 ∷ []) lines fault next.held after.2)
      ]

  pub first_break : (lines : List Line) (fault : TextFault) → values_after reader [] lines ≡ Err fault →
      IsFirstFaultBy reader Holds lines fault
  first_break lines fault e =
      let broken = values_after-err [] lines fault is.none e in
      record {
        earlier = broken.more;
        held = broken.held;
        counted = broken.counted;
        line = broken.line;
        rest = broken.rest;
        lines = broken.spelled
            ∙ ap (λ (ls : List Line). ls ++ broken.line ∷ broken.rest) (sym (spelled_again broken.more broken.held));
        breaks = broken.breaks;
      }
