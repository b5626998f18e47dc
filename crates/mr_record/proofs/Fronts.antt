-- Fields in front of a line, which were read in one pass.
use Rattle.std.proofs.Common.{◌≡◌, ℕ, ◌+◌, ◌*◌, ◌-◌, ◌^◌, ◌<◌, ◌≤◌, Bool, true, false, cond, eqb, ltb, leb, ◌&&◌, ◌||◌, not, List, [], ◌∷◌, ◌++◌, length, get_or, take, drop, Option, Some, None, Ok, refl, sym, ap, subst, ◌∙◌, arith}
use Rattle.std.specs.Prelude.{ℤ, ok_or}
use Rattle.std.specs.Char.{is_ascii_digit, digit_value}
use Rattle.std.specs.Int.{w32, cast_signed, cast_unsigned}
use Rattle.std.specs.List.{list_all}
use Rattle.std.specs.Str.Parse.{digits_value}
use Rattle.std.proofs.lemmas.Bool.{and_parts, ltb-true, leb-true, le-leb, lt-ltb, ne_eqb}
use Rattle.std.proofs.lemmas.Int.{to_z-of_z}
use Rattle.std.proofs.lemmas.Int.Digits.{digits_value_more}
use Rattle.std.proofs.lemmas.Str.{digit_value_digit}
use Rattle.std.proofs.lemmas.List.{take-append-drop, get_or-take, drop_more, length-drop, length-take-le, take_all}
use Rattle.std.proofs.lemmas.List.Elements.{All-cons}
use Rattle.std.proofs.lemmas.List.Folds.{list_all_more}
use Rattle.std.proofs.lemmas.List.Sums.{AllPass-from_list_all}
use Rattle.mr_geom.specs.Rectangle.{Rectangle, rectangle_of}
use Rattle.mr_record.specs.declared.text_fault.TextRule.TheVariants.{Form, Number, Coordinate, Order, Payload}
use Rattle.mr_record.specs.declared.version.Version.{Version}
use Rattle.mr_record.specs.declared.version.Version.TheVariants.{One, Two}
use Rattle.mr_record.specs.Decimal.{is_canonical, u64_of, i32_of, negative, not_negative, at_most}
use Rattle.mr_record.specs.Lines.{fields_of, LacksByte}
use Rattle.mr_record.specs.Results.{◌>>=◌}
use Rattle.mr_record.specs.RecordText.{payload_of, layer_of, Last, last_of, rectangle_of_fields, record_from, record_of_fields}
use Rattle.mr_record.specs.private.Fronts.{StandsInFront, HasPointInFront, HasLayerInFront}
use Rattle.mr_record.proofs.Decimals.{u64_of-some}
use Rattle.mr_record.proofs.Fields.{fields_cut, fields_one, last_one, last_two}
use Rattle.mr_record.proofs.Payloads.{payload_of-written}
use Rattle.mr_record.proofs.RecordLines.{i32_some, digit_ink, payload_ink, lacks_space}

-- ---- the loop over the digits

-- one digit more
pub digits_more : (line : List ℕ) (at number digit : ℕ) → at < length line → digit ≡ get_or line at 0 →
    is_ascii_digit digit ≡ true → list_all is_ascii_digit (take at line) ≡ true →
    number ≡ digits_value 10 (take at line)
    → (list_all is_ascii_digit (take (at + 1) line) ≡ true)
    × (number * 10 + (digit - 48) ≡ digits_value 10 (take (at + 1) line))
digits_more line at number digit lt is one all value =
    let read : is_ascii_digit (get_or line at 0) ≡ true = subst (λ d. is_ascii_digit d ≡ true) is one in
    let ends = and_parts (leb 48 digit) (leb digit 57) one in
    let low : 48 ≤ digit = leb-true 48 digit ends.0 in
    let high : digit ≤ 57 = leb-true digit 57 ends.1 in
    let worth : digit_value digit + 48 ≡ digit = digit_value_digit digit (low, high) in
    let here : digit - 48 ≡ digit_value (get_or line at 0) = omega (arith, worth, ap digit_value is) in
    let more = digits_value_more 10 line at lt in (
      list_all_more is_ascii_digit line at 0 lt ∙ (λ i. all i && read i),
      (λ i. value i * 10 + here i) ∙ sym more,
    )

canonical_front : (line : List ℕ) (at : ℕ) → at < length line → list_all is_ascii_digit (take at line) ≡ true →
    (ltb 0 at && (not (eqb (get_or line 0 0) 48) || eqb at 1)) ≡ true → is_canonical (take at line) ≡ true
canonical_front line at lt digits e =
    let parts = and_parts (ltb 0 at) (not (eqb (get_or line 0 0) 48) || eqb at 1) e in
    let len : length (take at line) ≡ at = length-take-le at line (omega arith) in
    let first : get_or (take at line) 0 0 ≡ get_or line 0 0 = get_or-take at line 0 0 (ltb-true 0 at parts.0) in
    rw (len, first, parts.0, parts.1, digits) refl

pub number_in_front : (line : List ℕ) (at number : ℕ) → at < length line → get_or line at 0 ≡ 32 →
    list_all is_ascii_digit (take at line) ≡ true → number ≡ digits_value 10 (take at line) → number < 2 ^ 64 →
    (ltb 0 at && (not (eqb (get_or line 0 0) 48) || eqb at 1)) ≡ true →
    StandsInFront u64_of number line (take (length line - (at + 1)) (drop (at + 1) line))
number_in_front line at number lt space digits value fits begins =
    let back : List ℕ = drop (at + 1) line in
    let all : take (length line - (at + 1)) back ≡ back = take_all (length line - (at + 1)) back
    (omega (arith, length-drop (at + 1) line)) in
    record {
      field = take at line;
      spells = u64_of-some (take at line) (canonical_front line at lt digits begins)
          ∙ (rw (← value, lt-ltb number (2 ^ 64) fits) refl);
      cut = record {
        parts = sym (take-append-drop at line)
            ∙ ap (λ (t : List ℕ). take at line ++ t) (drop_more line at 0 lt ∙ (λ i. space i ∷ sym all i));
        first = lacks_space (take at line)
            (λ k d below. digit_ink _ (AllPass-from_list_all is_ascii_digit (take at line) digits k d below));
      };
    }

-- ---- coordinates

-- a number in two's complement of 32 bits
abbrev kept : ℤ → ℤ
kept z = cast_signed w32 (cast_unsigned w32 z)

coordinate_kept : (line rest : List ℕ) (z : ℤ) → StandsInFront i32_of z line rest →
    StandsInFront i32_of (kept z) line rest
coordinate_kept line rest z s =
    subst (λ k. StandsInFront i32_of k line rest) (sym (to_z-of_z w32 z (i32_some s.field z s.spells).1)) s

point_kept : (line rest : List ℕ) (x y : ℤ) → HasPointInFront x y line rest →
    HasPointInFront (kept x) (kept y) line rest
point_kept line rest x y s = record {
  between = s.between;
  first = coordinate_kept line s.between x s.first;
  second = coordinate_kept s.between rest y s.second;
}

signed : (line behind rest : List ℕ) (first n : ℕ) (z : ℤ) → line ≡ first ∷ behind → first ≡ 45 →
    StandsInFront u64_of n behind rest → negative (Some n) ≡ Some z → StandsInFront i32_of z line rest
unfolding i32_of
signed line behind rest first n z e sign s value = record {
  field = 45 ∷ s.field;
  spells = ap negative s.spells ∙ value;
  cut = record {
    parts = e ∙ (λ i. sign i ∷ s.cut.parts i);
    first = All-cons (λ b. eqb b 32 ≡ false) 45 s.field refl s.cut.first;
  };
}

pub below_zero_in_front : (line behind rest : List ℕ) (first n : ℕ) (z : ℤ) → line ≡ first ∷ behind → first ≡ 45 →
    StandsInFront u64_of n behind rest → negative (Some n) ≡ Some z → StandsInFront i32_of (kept z) line rest
below_zero_in_front line behind rest first n z e sign s value =
    coordinate_kept line rest z (signed line behind rest first n z e sign s value)

unsigned : (field line behind rest : List ℕ) (first n : ℕ) (z : ℤ) → line ≡ first ∷ behind → line ≡ field ++ 32 ∷ rest
    → eqb first 45 ≡ false → u64_of field ≡ Some n → not_negative (Some n) ≡ Some z → i32_of field ≡ Some z
unfolding u64_of i32_of
unsigned [] line behind rest first n z e parts sign spells value = absurd cc
unsigned (f ∷ field) line behind rest first n z e parts sign spells value =
    let both : f ∷ (field ++ 32 ∷ rest) ≡ first ∷ behind = sym parts ∙ e in
    let same : f ≡ first = cc in
    ap (λ b. cond b (negative (u64_of field)) (not_negative (u64_of (f ∷ field)))) (ap (λ x. eqb x 45) same ∙ sign)
    ∙ ap not_negative spells ∙ value

pub from_zero_in_front : (line behind rest : List ℕ) (first n : ℕ) (z : ℤ) → line ≡ first ∷ behind → (first ≡ 45 → ⊥)
    → StandsInFront u64_of n line rest → not_negative (Some n) ≡ Some z → StandsInFront i32_of (kept z) line rest
from_zero_in_front line behind rest first n z e sign s value = coordinate_kept line rest z (record {
  field = s.field;
  spells = unsigned s.field line behind rest first n z e s.cut.parts (ne_eqb first 45 sign) s.spells value;
  cut = s.cut;
})

-- ---- the layer

pub layer_in_front : (line rest : List ℕ) (n : ℕ) → StandsInFront u64_of n line rest → n ≤ 63 →
    StandsInFront layer_of n line rest
unfolding layer_of
layer_in_front line rest n s low = record {
  field = s.field;
  spells = ap (at_most 63) s.spells ∙ ap (λ (b : Bool). cond b (Some n) None) (le-leb n 63 low);
  cut = s.cut;
}

-- ---- the record

rectangle_of_four : (a b c d : List ℕ) (x0 y0 x1 y1 : ℤ) (rect : Rectangle) → i32_of a ≡ Some x0 → i32_of b ≡ Some y0 →
    i32_of c ≡ Some x1 → i32_of d ≡ Some y1 → rectangle_of x0 y0 x1 y1 ≡ Some rect →
    rectangle_of_fields a b c d ≡ Ok rect
unfolding rectangle_of_fields
rectangle_of_four a b c d x0 y0 x1 y1 rect p q r s e =
    (λ i. ok_or (p i) Coordinate >>= (λ left. ok_or (q i) Coordinate >>= (λ low. ok_or (r i) Coordinate >>=
    (λ right. ok_or (s i) Coordinate >>= (λ high. ok_or (rectangle_of left low right high) Order)))))
    ∙ ap (λ (o : Option Rectangle). ok_or o Order) e

record_of_parts : (number a b c d : List ℕ) (last : Option Last) (n : ℕ) (rect : Rectangle) (layer : ℕ)
    (field payload : List ℕ) → last ≡ Some (record { layer = Some layer; payload = field }) → u64_of number ≡ Some n →
    rectangle_of_fields a b c d ≡ Ok rect → payload_of field ≡ Some payload →
    record_from number a b c d last
    ≡ Ok (record { number = n; rect = rect; layer = 0; payload = payload }, Some layer)
unfolding record_from
record_of_parts number a b c d last n rect layer field payload p q r s =
    (λ i. ok_or (p i) Form >>= (λ end. ok_or (q i) Number >>= (λ m. r i >>= (λ box.
    ok_or (payload_of end.payload) Payload >>= (λ bytes. Ok
    (record { number = m; rect = box; layer = 0; payload = bytes }, end.layer))))))
    ∙ ap (λ (o : Option (List ℕ)). ok_or o Payload >>= (λ bytes. Ok
    (record { number = n; rect = rect; layer = 0; payload = bytes }, Some layer))) s

last_in_front : (v : Version) (line rest : List ℕ) (layer : ℕ) → HasLayerInFront v layer line rest → LacksByte 32 rest →
    last_of (fields_of line) v ≡ Some (record { layer = Some layer; payload = rest })
last_in_front One line rest layer has lacks =
    ap (λ (f : List (List ℕ)). last_of f One) (ap fields_of has.1 ∙ fields_one rest lacks) ∙ last_one rest
    ∙ (λ i. Some (record { layer = Some (sym has.0 i); payload = rest }))
last_in_front Two line rest layer has lacks =
    ap (λ (f : List (List ℕ)). last_of f Two)
    (fields_cut line has.field rest has.cut ∙ ap (λ (f : List (List ℕ)). has.field ∷ f) (fields_one rest lacks))
    ∙ last_two has.field rest ∙ (λ i. Some (record { layer = has.spells i; payload = rest }))

pub record_in_front : (v : Version) (line first second third rest : List ℕ) (n : ℕ) (x0 y0 x1 y1 : ℤ) (layer : ℕ)
    (rect : Rectangle) (payload : List ℕ) → StandsInFront u64_of n line first → HasPointInFront x0 y0 first second →
    HasPointInFront x1 y1 second third → HasLayerInFront v layer third rest →
    rectangle_of (kept x0) (kept y0) (kept x1) (kept y1) ≡ Some rect → payload_of rest ≡ Some payload →
    record_of_fields v (fields_of line)
    ≡ Ok (record { number = n; rect = rect; layer = 0; payload = payload }, Some layer)
record_in_front v line first second third rest n x0 y0 x1 y1 layer rect payload number low high last box bytes =
    let lower = point_kept first second x0 y0 low in
    let upper = point_kept second third x1 y1 high in
    let a = lower.first in
    let b = lower.second in
    let c = upper.first in
    let d = upper.second in
    let w = payload_of-written rest payload bytes in
    let lacks : LacksByte 32 rest = subst (LacksByte 32) (sym w.spelled)
    (lacks_space _ (payload_ink payload w.fits)) in
    ap (record_of_fields v) (fields_cut line number.field first number.cut
    ∙ ap (λ (f : List (List ℕ)). number.field ∷ f) (fields_cut first a.field lower.between a.cut
    ∙ ap (λ (f : List (List ℕ)). a.field ∷ f) (fields_cut lower.between b.field second b.cut
    ∙ ap (λ (f : List (List ℕ)). b.field ∷ f) (fields_cut second c.field upper.between c.cut
    ∙ ap (λ (f : List (List ℕ)). c.field ∷ f) (fields_cut upper.between d.field third d.cut)))))
    ∙ record_of_parts number.field a.field b.field c.field d.field (last_of (fields_of third) v) n
    rect layer rest payload
    (last_in_front v third rest layer last lacks) number.spells
    (rectangle_of_four a.field b.field c.field d.field (kept x0) (kept y0) (kept x1) (kept y1) rect
    a.spells b.spells c.spells d.spells box) bytes
