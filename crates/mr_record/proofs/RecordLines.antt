-- A record's line is read as that record, and what is read is written so.
use Rattle.std.proofs.Common.{◌≡◌, ℕ, suc, ◌^◌, ◌<◌, ◌≤◌, Bool, true, false, cond, eqb, leb, length, append_assoc, List, [], ◌∷◌, ◌++◌, get_or, Option, Some, None, Result, Ok, Err, refl, sym, ap, subst, ◌∙◌, arith, inl, inr, lit≤}
use Rattle.std.specs.Prelude.{ℤ, pos, negsuc, All, IfOk, ok_or, FitsSigned, decimal}
use Rattle.std.specs.List.{join_with_byte}
use Rattle.std.specs.Int.{w32}
use Rattle.std.specs.Char.{is_ascii_digit}
use Rattle.std.specs.Fmt.{signed_decimal}
use Rattle.std.proofs.lemmas.Bool.{and_parts, leb-true, le-leb, ne_eqb, or_cases}
use Rattle.std.proofs.lemmas.List.Elements.{All-append, All-cons, All-nil, All-weaker}
use Rattle.std.proofs.lemmas.List.Splits.{slice_split_at, slice_split_none, join_with_byte-slice_split}
use Rattle.std.proofs.lemmas.List.Sums.{AllPass-from_list_all}
use Rattle.mr_geom.specs.Rectangle.{Rectangle, IsOrdered, FitsMap, rectangle_of}
use Rattle.mr_geom.proofs.Rectangles.{rectangle_of_some, true_from_T}
use Rattle.mr_record.specs.declared.record.Record.{Record}
use Rattle.mr_record.specs.declared.text_fault.TextRule.{TextRule}
use Rattle.mr_record.specs.declared.text_fault.TextRule.TheVariants.{Form, Number, Coordinate, Order, Payload}
use Rattle.mr_outside.specs.Bytes.{AreBytes}
use Rattle.mr_record.specs.Decimal.{u64_of, i32_of, at_most}
use Rattle.mr_record.specs.Lines.{fields_of, LacksByte}
use Rattle.mr_record.specs.Results.{◌>>=◌}
use Rattle.mr_record.proofs.Results.{bind_ok}
use Rattle.mr_record.specs.Record.{IsRecord, HasLayer}
use Rattle.mr_record.specs.declared.version.Version.{Version}
use Rattle.mr_record.specs.declared.version.Version.TheVariants.{One, Two}
use Rattle.mr_record.specs.Version.{highest_layer, from_two}
use Rattle.mr_record.specs.RecordText.{is_lower_digit, payload_text, layer_text, payload_of, layer_of, Last, last_of, Unlayered, rectangle_of_fields, record_from, record_of_fields, layered, record_of_line, line_of}
use Rattle.mr_record.proofs.Decimals.{is_canonical-decimal, are_digits-canonical, u64_of-written, u64_of-decimal, i32_of-written, i32_of-signed}
use Rattle.mr_record.proofs.Payloads.{payload_of-written, payload_of-text, all_lower_text}

-- the fields behind the coordinates
abbrev pub last_fields : Version → (layer : ℕ) → (payload : List ℕ) → List (List ℕ)
last_fields v layer payload = from_two v (decimal layer ∷ []) ++ payload ∷ []

-- the fields of a record's line
abbrev pub spelled : Version → Record → List (List ℕ)
spelled v r =
    decimal r.number ∷ signed_decimal r.rect.x0 ∷ signed_decimal r.rect.y0 ∷ signed_decimal r.rect.x1 ∷ signed_decimal
    r.rect.y1 ∷ last_fields v r.layer (payload_text r.payload)

-- ---- what is read is written so

pub some_from_ok : {A : Type 0} (o : Option A) (rule : TextRule) (x : A) → ok_or o rule ≡ Ok x → o ≡ Some x
some_from_ok (Some y) rule x e = cc
some_from_ok None rule x e = absurd cc

pub u64_some : (text : List ℕ) (n : ℕ) → u64_of text ≡ Some n → (text ≡ decimal n) × (n < 2 ^ 64)
u64_some text n e = let w = u64_of-written text in rw e at w

pub i32_some : (text : List ℕ) (z : ℤ) → i32_of text ≡ Some z → (text ≡ signed_decimal z) × FitsSigned w32 z
i32_some text z e = let w = i32_of-written text in rw e at w

-- ---- layers

at_most_some : (limit : ℕ) (o : Option ℕ) (n : ℕ) → at_most limit o ≡ Some n → (o ≡ Some n) × (n ≤ limit)
at_most_some limit None n e = absurd cc
at_most_some limit (Some m) n e = limited (leb m limit) refl e
  where
    limited : (b : Bool) → leb m limit ≡ b → cond b (Some m) None ≡ Some n → (Some m ≡ Some n) × (n ≤ limit)
    limited true low same = (same, let is : m ≡ n = cc in subst (λ k. k ≤ limit) is (leb-true m limit low))
    limited false low same = absurd cc

layer_some : (text : List ℕ) (n : ℕ) → layer_of text ≡ Some n → (text ≡ decimal n) × (n ≤ 63)
unfolding layer_of
layer_some text n e =
    let w = at_most_some 63 (u64_of text) n e in
    ((u64_some text n w.0).0, w.1)

layer_again : (n : ℕ) → n ≤ 63 → layer_of (decimal n) ≡ Some n
unfolding layer_of
layer_again n low =
    ap (at_most 63) (u64_of-decimal n (omega arith)) ∙ ap (λ (b : Bool). cond b (Some n) None) (le-leb n 63 low)

-- what stands behind the coordinates, once its layer is one
record IsLast (v : Version) (fields : List (List ℕ)) (last : Last) (layer : ℕ) : Type 0 where
  low : layer ≤ highest_layer v
  spelled : fields ≡ last_fields v layer last.payload

same_last : (a b : Last) → Some a ≡ Some b → a ≡ b
same_last a b e = cc

last_is : (v : Version) (fields : List (List ℕ)) (last : Last) (layer : ℕ) → last_of fields v ≡ Some last
    → last.layer ≡ Some layer → IsLast v fields last layer
unfolding last_of
last_is One [] last layer e at = absurd cc
last_is One (payload ∷ []) last layer e at =
    let same = same_last (record { layer = Some 0; payload = payload }) last e in
    let none : Some 0 ≡ Some layer = ap (λ (l : Last). l.layer) same ∙ at in
    let zero : 0 ≡ layer = cc in
    record { low = omega (arith, zero); spelled = ap (λ (l : Last). l.payload ∷ []) same }
last_is One (a ∷ b ∷ []) last layer e at = absurd cc
last_is One (a ∷ b ∷ c ∷ others) last layer e at = absurd cc
last_is Two [] last layer e at = absurd cc
last_is Two (a ∷ []) last layer e at = absurd cc
last_is Two (field ∷ payload ∷ []) last layer e at =
    let same = same_last (record { layer = layer_of field; payload = payload }) last e in
    let is = layer_some field layer (ap (λ (l : Last). l.layer) same ∙ at) in
    record { low = is.1; spelled = λ i. is.0 i ∷ (same i).payload ∷ [] }
last_is Two (a ∷ b ∷ c ∷ others) last layer e at = absurd cc

last_again : (v : Version) (layer : ℕ) (payload : List ℕ) → layer ≤ highest_layer v →
    last_of (last_fields v layer payload) v ≡ Some (record { layer = Some layer; payload = payload })
unfolding last_of
last_again One layer payload low =
    let zero : 0 ≡ layer = omega arith in λ i. Some (record { layer = Some (zero i); payload = payload })
last_again Two layer payload low = λ i. Some (record { layer = layer_again layer low i; payload = payload })

record IsRect (x0 y0 x1 y1 : List ℕ) (r : Rectangle) : Type 0 where
  left : x0 ≡ signed_decimal r.x0
  low : y0 ≡ signed_decimal r.y0
  right : x1 ≡ signed_decimal r.x1
  high : y1 ≡ signed_decimal r.y1
  ordered : IsOrdered r
  coordinates : FitsMap r

IsRect-from : (x0 y0 x1 y1 : List ℕ) (a b c d : ℤ) (r : Rectangle) → ok_or (i32_of x0) Coordinate ≡ Ok a →
    ok_or (i32_of y0) Coordinate ≡ Ok b → ok_or (i32_of x1) Coordinate ≡ Ok c → ok_or (i32_of y1) Coordinate ≡ Ok d
    → rectangle_of a b c d ≡ Some r → IsRect x0 y0 x1 y1 r
IsRect-from x0 y0 x1 y1 a b c d r ea eb ec ed e =
    let whole = rectangle_of_some a b c d r e in
    let left = i32_some x0 a (some_from_ok (i32_of x0) Coordinate a ea) in
    let low = i32_some y0 b (some_from_ok (i32_of y0) Coordinate b eb) in
    let right = i32_some x1 c (some_from_ok (i32_of x1) Coordinate c ec) in
    let high = i32_some y1 d (some_from_ok (i32_of y1) Coordinate d ed) in
    subst (IsRect x0 y0 x1 y1) whole.1 (record {
      left = left.0;
      low = low.0;
      right = right.0;
      high = high.0;
      ordered = whole.0;
      coordinates = record { x0 = left.1; y0 = low.1; x1 = right.1; y1 = high.1 };
    })

rectangle_written : (x0 y0 x1 y1 : List ℕ) (r : Rectangle) → rectangle_of_fields x0 y0 x1 y1 ≡ Ok r →
    IsRect x0 y0 x1 y1 r
unfolding rectangle_of_fields
rectangle_written x0 y0 x1 y1 r e =
    let a = bind_ok (ok_or (i32_of x0) Coordinate)
    (λ left. ok_or (i32_of y0) Coordinate >>= λ low. ok_or (i32_of x1) Coordinate >>= λ right. ok_or (i32_of y1)
    Coordinate >>= λ high. ok_or (rectangle_of left low right high) Order) r e in
    let b = bind_ok (ok_or (i32_of y0) Coordinate)
    (λ low. ok_or (i32_of x1) Coordinate >>= λ right. ok_or (i32_of y1) Coordinate >>= λ high. ok_or
    (rectangle_of a.0 low right high) Order) r a.2 in
    let c = bind_ok (ok_or (i32_of x1) Coordinate)
    (λ right. ok_or (i32_of y1) Coordinate >>= λ high. ok_or (rectangle_of a.0 b.0 right high) Order) r b.2 in
    let d = bind_ok (ok_or (i32_of y1) Coordinate) (λ high. ok_or (rectangle_of a.0 b.0 c.0 high) Order) r c.2 in
    IsRect-from x0 y0 x1 y1 a.0 b.0 c.0 d.0 r a.1 b.1 c.1 d.1 (some_from_ok (rectangle_of a.0 b.0 c.0 d.0) Order r d.2)

ok_found : (p q : Unlayered) → ◌≡◌ {A = Result Unlayered TextRule} (Ok p) (Ok q) → p ≡ q
ok_found p q e = cc

-- the fields of a record but for its layer, and those behind the coordinates
record IsFound (v : Version) (fields : List (List ℕ)) (p : Unlayered) : Type 0 where
  number : p.0.number < 2 ^ 64
  ordered : IsOrdered p.0.rect
  coordinates : FitsMap p.0.rect
  payload : length p.0.payload ≤ 200
  bytes : AreBytes p.0.payload
  spelled : (layer : ℕ) → p.1 ≡ Some layer →
      (layer ≤ highest_layer v) × (fields ≡ spelled v (record p.0 { layer = layer }))

same_fields : (v : Version) (r : Record) (number x0 y0 x1 y1 payload : List ℕ) (last : List (List ℕ)) →
    number ≡ decimal r.number → x0 ≡ signed_decimal r.rect.x0 → y0 ≡ signed_decimal r.rect.y0
    → x1 ≡ signed_decimal r.rect.x1 → y1 ≡ signed_decimal r.rect.y1 → payload ≡ payload_text r.payload
    → last ≡ last_fields v r.layer payload → number ∷ x0 ∷ y0 ∷ x1 ∷ y1 ∷ last ≡ spelled v r
same_fields v r number x0 y0 x1 y1 payload last a b c d e f g =
    λ i. a i ∷ b i ∷ c i ∷ d i ∷ e i ∷ (g ∙ ap (last_fields v r.layer) f) i

parts_written : (v : Version) (number x0 y0 x1 y1 : List ℕ) (fields : List (List ℕ)) (p : Unlayered) →
    record_from number x0 y0 x1 y1 (last_of fields v) ≡ Ok p →
    IsFound v (number ∷ x0 ∷ y0 ∷ x1 ∷ y1 ∷ fields) p
unfolding record_from
parts_written v number x0 y0 x1 y1 fields p e =
    let z = bind_ok (ok_or (last_of fields v) Form)
    (λ last. ok_or (u64_of number) Number >>= λ n. rectangle_of_fields x0 y0 x1 y1 >>= λ rect.
    ok_or (payload_of last.payload) Payload >>= λ bytes. Ok
    (record { number = n; rect = rect; layer = 0; payload = bytes }, last.layer)) p e in
    let a = bind_ok (ok_or (u64_of number) Number)
    (λ n. rectangle_of_fields x0 y0 x1 y1 >>= λ rect. ok_or (payload_of z.0.payload) Payload >>= λ bytes. Ok
    (record { number = n; rect = rect; layer = 0; payload = bytes }, z.0.layer)) p z.2 in
    let b = bind_ok (rectangle_of_fields x0 y0 x1 y1)
    (λ rect. ok_or (payload_of z.0.payload) Payload >>= λ bytes. Ok
    (record { number = a.0; rect = rect; layer = 0; payload = bytes }, z.0.layer)) p a.2 in
    let c = bind_ok (ok_or (payload_of z.0.payload) Payload)
    (λ bytes. Ok (record { number = a.0; rect = b.0; layer = 0; payload = bytes }, z.0.layer)) p b.2 in
    let of = u64_some number a.0 (some_from_ok (u64_of number) Number a.0 a.1) in
    let is = rectangle_written x0 y0 x1 y1 b.0 b.1 in
    let w = payload_of-written z.0.payload c.0 (some_from_ok (payload_of z.0.payload) Payload c.0 c.1) in
    let last = some_from_ok (last_of fields v) Form z.0 z.1 in
    subst (IsFound v (number ∷ x0 ∷ y0 ∷ x1 ∷ y1 ∷ fields))
    (ok_found (record { number = a.0; rect = b.0; layer = 0; payload = c.0 }, z.0.layer) p c.2)
    (record {
      number = of.1;
      ordered = is.ordered;
      coordinates = is.coordinates;
      payload = w.within;
      bytes = w.fits;
      spelled = λ layer at.
          let end = last_is v fields z.0 layer last at in (
            end.low,
            same_fields v (record { number = a.0; rect = b.0; layer = layer; payload = c.0 }) number x0 y0 x1 y1
                z.0.payload fields of.0 is.left is.low is.right is.high w.spelled end.spelled,
          );
    })

found_is : (v : Version) (fields : List (List ℕ)) (p : Unlayered) → record_of_fields v fields ≡ Ok p →
    IsFound v fields p
found_is v [] p e = absurd cc
found_is v (a ∷ []) p e = absurd cc
found_is v (a ∷ b ∷ []) p e = absurd cc
found_is v (a ∷ b ∷ c ∷ []) p e = absurd cc
found_is v (a ∷ b ∷ c ∷ d ∷ []) p e = absurd cc
found_is v (number ∷ x0 ∷ y0 ∷ x1 ∷ y1 ∷ last) p e = parts_written v number x0 y0 x1 y1 last p e

-- a layer of either version is one
any_layer : (v : Version) (layer : ℕ) → layer ≤ highest_layer v → layer ≤ 63
any_layer One layer low = omega arith
any_layer Two layer low = low

-- the record, once its layer is one
pub record IsRead (v : Version) (fields : List (List ℕ)) (p : Unlayered) (r : Record) : Type 0 where
  pub is : IsRecord r
  pub layer : HasLayer v r
  pub spelled : fields ≡ spelled v r
  pub number : r.number ≡ p.0.number

layered_is : (v : Version) (fields : List (List ℕ)) (p : Unlayered) (r : Record) → IsFound v fields p →
    layered p ≡ Ok r → IsRead v fields p r
layered_is v fields (one, None) r is e = absurd cc
layered_is v fields (one, Some layer) r is e =
    let made : Record = record one { layer = layer } in
    let same : made ≡ r = cc in
    let low = is.spelled layer refl in
    subst (IsRead v fields (one, Some layer)) same (record {
      is = record {
        number = is.number;
        ordered = is.ordered;
        coordinates = is.coordinates;
        layer = any_layer v layer low.0;
        payload = is.payload;
        bytes = is.bytes;
      };
      layer = low.0;
      spelled = low.1;
      number = refl;
    })

pub fields_written : (v : Version) (fields : List (List ℕ)) (p : Unlayered) (r : Record) →
    record_of_fields v fields ≡ Ok p → layered p ≡ Ok r → IsRead v fields p r
fields_written v fields p r e f = layered_is v fields p r (found_is v fields p e) f

pub line_from : (v : Version) (line : List ℕ) (r : Record) → fields_of line ≡ spelled v r → line ≡ line_of v r
unfolding line_of
line_from v line r e = sym (join_with_byte-slice_split 32 line) ∙ ap (join_with_byte 32) e ∙ joined v r
  where
    joined : (v : Version) (r : Record) → join_with_byte 32 (spelled v r) ≡ line_of v r
    joined One r = refl
    joined Two r = simp append_assoc

pub line_written : (v : Version) (line : List ℕ) (r : Record) → record_of_line v line ≡ Ok r →
    IsRecord r × HasLayer v r × (line ≡ line_of v r)
line_written v line r e =
    let p = bind_ok (record_of_fields v (fields_of line)) layered r e in
    let w = fields_written v (fields_of line) p.0 r p.1 p.2 in
    (w.is, w.layer, line_from v line r w.spelled)

pub result_written : (v : Version) (line : List ℕ) (answer : Result Record TextRule) → answer ≡ record_of_line v line →
    IfOk answer (λ r. IsRecord r × HasLayer v r × (line ≡ line_of v r))
result_written v line (Ok r) e = line_written v line r (sym e)
result_written v line (Err rule) e = tt

-- ---- what is written is read again

-- no space, no comma and no line feed
abbrev pub IsInk : List ℕ → Type 0
IsInk text = All (λ b. 45 ≤ b) text

pub digit_ink : (b : ℕ) → is_ascii_digit b ≡ true → 45 ≤ b
digit_ink b e = let low : 48 ≤ b = leb-true 48 b (and_parts (leb 48 b) (leb b 57) e).0 in omega arith

pub decimal_ink : (n : ℕ) → n < 2 ^ 64 → IsInk (decimal n)
decimal_ink n lt k d at =
    digit_ink _ (AllPass-from_list_all is_ascii_digit (decimal n)
    (are_digits-canonical (decimal n) (is_canonical-decimal n lt)) k d at)

pub signed_ink : (z : ℤ) → FitsSigned w32 z → IsInk (signed_decimal z)
signed_ink (pos n) fits = decimal_ink n (omega arith)
signed_ink (negsuc n) fits = All-cons (λ b. 45 ≤ b) 45 (decimal (suc n)) (lit≤ tt) (decimal_ink (suc n) (omega arith))

lower_ink : (b : ℕ) → is_lower_digit b ≡ true → 45 ≤ b
lower_ink b e = elim (or_cases _ _ e) [
  | inl t ↦ let low : 48 ≤ b = leb-true 48 b (and_parts (leb 48 b) (leb b 57) t).0 in omega arith
  | inr t ↦ let low : 97 ≤ b = leb-true 97 b (and_parts (leb 97 b) (leb b 102) t).0 in omega arith
]

pub payload_ink : (bytes : List ℕ) → AreBytes bytes → IsInk (payload_text bytes)
payload_ink [] fits = All-cons (λ b. 45 ≤ b) 45 [] (lit≤ tt) (All-nil (λ b. 45 ≤ b))
payload_ink (b ∷ bytes) fits =
    λ k d at. lower_ink _ (AllPass-from_list_all is_lower_digit (payload_text (b ∷ bytes))
    (all_lower_text b bytes fits) k d at)

pub lacks_space : (text : List ℕ) → IsInk text → LacksByte 32 text
lacks_space text ink k d at = let low = ink k d at in ne_eqb (get_or text k d) 32 (λ e. omega arith)

pub fields_split : (front rest : List ℕ) → IsInk front → fields_of (front ++ 32 ∷ rest) ≡ front ∷ fields_of rest
fields_split front rest ink = slice_split_at (λ b. eqb b 32) front 32 rest (lacks_space front ink) refl

last_split : (v : Version) (layer : ℕ) (payload : List ℕ) → layer ≤ 63 → IsInk payload →
    fields_of (layer_text v layer ++ payload) ≡ last_fields v layer payload
last_split One layer payload low ink = slice_split_none (λ b. eqb b 32) payload (lacks_space payload ink)
last_split Two layer payload low ink =
    ap fields_of (append_assoc (decimal layer) (32 ∷ []) payload)
    ∙ fields_split (decimal layer) payload (decimal_ink layer (omega arith))
    ∙ ap (λ (t : List (List ℕ)). decimal layer ∷ t)
    (slice_split_none (λ b. eqb b 32) payload (lacks_space payload ink))

spelled_fields : (v : Version) (r : Record) → IsRecord r → fields_of (line_of v r) ≡ spelled v r
unfolding line_of
spelled_fields v r is =
    let x0 = signed_decimal r.rect.x0 in
    let y0 = signed_decimal r.rect.y0 in
    let x1 = signed_decimal r.rect.x1 in
    let y1 = signed_decimal r.rect.y1 in
    let p = layer_text v r.layer ++ payload_text r.payload in
    fields_split (decimal r.number) (x0 ++ 32 ∷ (y0 ++ 32 ∷ (x1 ++ 32 ∷ (y1 ++ 32 ∷ p))))
    (decimal_ink r.number is.number)
    ∙ ap (λ (t : List (List ℕ)). decimal r.number ∷ t)
    (fields_split x0 (y0 ++ 32 ∷ (x1 ++ 32 ∷ (y1 ++ 32 ∷ p))) (signed_ink r.rect.x0 is.coordinates.x0))
    ∙ ap (λ (t : List (List ℕ)). decimal r.number ∷ x0 ∷ t)
    (fields_split y0 (x1 ++ 32 ∷ (y1 ++ 32 ∷ p)) (signed_ink r.rect.y0 is.coordinates.y0))
    ∙ ap (λ (t : List (List ℕ)). decimal r.number ∷ x0 ∷ y0 ∷ t)
    (fields_split x1 (y1 ++ 32 ∷ p) (signed_ink r.rect.x1 is.coordinates.x1))
    ∙ ap (λ (t : List (List ℕ)). decimal r.number ∷ x0 ∷ y0 ∷ x1 ∷ t)
    (fields_split y1 p (signed_ink r.rect.y1 is.coordinates.y1))
    ∙ ap (λ (t : List (List ℕ)). decimal r.number ∷ x0 ∷ y0 ∷ x1 ∷ y1 ∷ t)
    (last_split v r.layer (payload_text r.payload) is.layer (payload_ink r.payload is.bytes))

spelled_read : (v : Version) (r : Record) → IsRecord r → HasLayer v r →
    record_of_fields v (spelled v r) ≡ Ok (record r { layer = 0 }, Some r.layer)
unfolding record_from rectangle_of_fields
spelled_read v r is low =
    rw (
      last_again v r.layer (payload_text r.payload) low,
      u64_of-decimal r.number is.number,
      i32_of-signed r.rect.x0 is.coordinates.x0,
      i32_of-signed r.rect.y0 is.coordinates.y0,
      i32_of-signed r.rect.x1 is.coordinates.x1,
      i32_of-signed r.rect.y1 is.coordinates.y1,
      true_from_T _ is.ordered.x.le,
      true_from_T _ is.ordered.y.le,
      payload_of-text r.payload is.payload is.bytes,
    ) refl

pub fields_read : (v : Version) (r : Record) → IsRecord r → HasLayer v r →
    record_of_fields v (fields_of (line_of v r)) ≡ Ok (record r { layer = 0 }, Some r.layer)
fields_read v r is low = ap (record_of_fields v) (spelled_fields v r is) ∙ spelled_read v r is low

pub line_read : (v : Version) (r : Record) → IsRecord r → HasLayer v r → record_of_line v (line_of v r) ≡ Ok r
line_read v r is low = λ i. (fields_read v r is low i) >>= layered

-- ---- a line has no line feed

-- no line feed, but spaces
abbrev pub IsDark : List ℕ → Type 0
IsDark text = All (λ b. 32 ≤ b) text

pub dark_ink : (text : List ℕ) → IsInk text → IsDark text
dark_ink text ink = All-weaker (λ b. 45 ≤ b) (λ b. 32 ≤ b) (λ b h. omega arith) text ink

pub lacks_feed : (text : List ℕ) → IsDark text → LacksByte 10 text
lacks_feed text dark k d at = let low = dark k d at in ne_eqb (get_or text k d) 10 (λ e. omega arith)

-- a space and what is behind it
pub dark_space : (rest : List ℕ) → IsDark rest → IsDark (32 ∷ rest)
dark_space rest dark = All-cons (λ b. 32 ≤ b) 32 rest (lit≤ tt) dark

dark_field : (front rest : List ℕ) → IsInk front → IsDark rest → IsDark (front ++ 32 ∷ rest)
dark_field front rest ink dark =
    All-append (λ b. 32 ≤ b) front (32 ∷ rest) (dark_ink front ink) (dark_space rest dark)

last_dark : (v : Version) (layer : ℕ) (rest : List ℕ) → layer ≤ 63 → IsDark rest → IsDark (layer_text v layer ++ rest)
last_dark One layer rest low dark = dark
last_dark Two layer rest low dark =
    All-append (λ b. 32 ≤ b) (decimal layer ++ 32 ∷ []) rest
    (dark_field (decimal layer) [] (decimal_ink layer (omega arith)) (All-nil (λ b. 32 ≤ b))) dark

pub line_dark : (v : Version) (r : Record) → IsRecord r → IsDark (line_of v r)
unfolding line_of
line_dark v r is =
    dark_field (decimal r.number) _ (decimal_ink r.number is.number)
    (dark_field (signed_decimal r.rect.x0) _ (signed_ink r.rect.x0 is.coordinates.x0)
    (dark_field (signed_decimal r.rect.y0) _ (signed_ink r.rect.y0 is.coordinates.y0)
    (dark_field (signed_decimal r.rect.x1) _ (signed_ink r.rect.x1 is.coordinates.x1)
    (dark_field (signed_decimal r.rect.y1) _ (signed_ink r.rect.y1 is.coordinates.y1)
    (last_dark v r.layer _ is.layer (dark_ink (payload_text r.payload) (payload_ink r.payload is.bytes)))))))

pub line_lacks : (v : Version) (r : Record) → IsRecord r → LacksByte 10 (line_of v r)
line_lacks v r is = lacks_feed (line_of v r) (line_dark v r is)
