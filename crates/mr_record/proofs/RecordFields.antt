-- A record is read from the bytes that spell it, and from no others.
use Rattle.std.proofs.Common.{◌≡◌, ℕ, ◌+◌, ◌-◌, ◌≤◌, Bool, true, false, cond, List, [], ◌∷◌, ◌++◌, length, get_or, take, drop, Result, Ok, Err, Option, Some, None, refl, sym, ap, subst, ◌∙◌, arith, append_assoc, length-append}
use Rattle.std.specs.Prelude.{slice_range, IfOk, nat_le, ok_or}
use Rattle.std.specs.Int.{w64, from_be_bytes, to_be_bytes}
use Rattle.std.proofs.lemmas.Bool.{le-leb, leb-true}
use Rattle.std.proofs.lemmas.List.{take_at, drop_at, length-take-le, length-drop}
use Rattle.std.proofs.lemmas.List.Folds.{drop_split}
use Rattle.std.proofs.lemmas.Nat.{from_be_bytes-to_be_bytes_8}
use Rattle.mr_geom.specs.Rectangle.{Rectangle, IsOrdered, FitsMap, in_order}
use Rattle.mr_geom.proofs.Rectangles.{in_order_is}
use Rattle.mr_outside.specs.Bytes.{AreBytes}
use Rattle.mr_record.specs.Record.{IsRecord, HasLayer, layer_bytes, record_bytes, rectangle_bytes, sides_of}
use Rattle.mr_record.specs.Version.{highest_layer, told}
use Rattle.mr_record.specs.declared.version.Version.{Version}
use Rattle.mr_record.specs.declared.version.Version.TheVariants.{One, Two}
use Rattle.mr_record.specs.Results.{◌>>=◌}
use Rattle.mr_record.specs.RecordField.{broken, field_at, rectangle_in, rectangle_at, layer_in, layer_at, length_place, payload_behind, payload_at, record_in}
use Rattle.mr_record.specs.declared.record.Record.{Record}
use Rattle.mr_record.specs.declared.record_fault.RecordFault.{RecordFault}
use Rattle.mr_record.specs.declared.record_fault.RecordRule.TheVariants.{Short, BadRect, BadLength, BadLayer}
use Rattle.mr_record.proofs.Results.{bind_ok}
use Rattle.mr_record.proofs.Encodings.{IsBytes, IsBytes-take, IsBytes-drop, AreBytes-from, word_is, word_below, sides_are, sides_fit, rectangle_read}

-- ---- fields

picked : {A E : Type 0} (b : Bool) (x y : A) (e : E) → cond b (Ok x) (Err e) ≡ Ok y → (b ≡ true) × (x ≡ y)
picked true x y e h = (refl, cc)
picked false x y e h = absurd cc

-- a field that was read
record Taken (bytes : List ℕ) (at n : ℕ) (raw : List ℕ) : Type 0 where
  within : at + n ≤ length bytes
  is : raw ≡ slice_range bytes at (at + n)
  long : length raw ≡ n
  fits : IsBytes raw

taken : (bytes : List ℕ) (at n : ℕ) (raw : List ℕ) → IsBytes bytes → field_at bytes at n ≡ Ok raw → Taken bytes at n raw
taken bytes at n raw fits e =
    let p = picked (nat_le (at + n) (length bytes)) (slice_range bytes at (at + n)) raw (broken _ at) e in
    let within : at + n ≤ length bytes = leb-true (at + n) (length bytes) p.0 in
    record {
      within = within;
      is = sym p.1;
      long = subst (λ (r : List ℕ). length r ≡ n) p.1 (length-take-le _ (drop at bytes)
          (omega (arith, length-drop at bytes)) ∙ (omega arith));
      fits = subst IsBytes p.1 (IsBytes-take _ (drop at bytes) (IsBytes-drop at bytes fits));
    }

-- a field is read between what stands before it and behind it
field_again : (front raw back : List ℕ) (at n : ℕ) → length front ≡ at → length raw ≡ n →
    field_at (front ++ (raw ++ back)) at n ≡ Ok raw
field_again front raw back at n p q =
    let long : at + n ≤ length (front ++ (raw ++ back)) =
    omega (arith, length-append front (raw ++ back), length-append raw back) in
    let test : nat_le (at + n) (length (front ++ (raw ++ back))) ≡ true =
    le-leb (at + n) (length (front ++ (raw ++ back))) long in
    ap (λ (t : Bool). cond t (Ok (slice_range (front ++ (raw ++ back)) at (at + n))) (Err (broken Short at))) test
    ∙ ap Ok (ap (take (at + n - at)) (drop_at front (raw ++ back) at p) ∙ take_at raw back (at + n - at) (omega arith))

-- the one byte of a list
pub single : (raw : List ℕ) → length raw ≡ 1 → raw ≡ get_or raw 0 0 ∷ []
single [] long = absurd (omega arith)
single (a ∷ []) long = refl
single (a ∷ b ∷ rest) long = absurd (omega arith)

-- ---- lengths

pub length-rectangle_bytes : (r : Rectangle) → length (rectangle_bytes r) ≡ 16
unfolding rectangle_bytes
length-rectangle_bytes r = refl

pub length-layer_bytes : (v : Version) (layer : ℕ) → length (layer_bytes v layer) ≡ told v 1
length-layer_bytes One layer = refl
length-layer_bytes Two layer = refl

pub length-record_bytes : (v : Version) (r : Record) → length (record_bytes v r) ≡ length_place v + 1 + length r.payload
unfolding record_bytes
length-record_bytes v r =
    omega (
      arith,
      length-rectangle_bytes r.rect,
      length-layer_bytes v r.layer,
      length-append (to_be_bytes w64 r.number ++ rectangle_bytes r.rect ++ layer_bytes v r.layer)
          (length r.payload ∷ r.payload),
      length-append (to_be_bytes w64 r.number ++ rectangle_bytes r.rect) (layer_bytes v r.layer),
      length-append (to_be_bytes w64 r.number) (rectangle_bytes r.rect),
    )

-- ---- what is spelled is read

steps : (v : Version) (s raw : List ℕ) (rect : Rectangle) (layer : ℕ) (payload : List ℕ) → field_at s 0 8 ≡ Ok raw →
    rectangle_at s ≡ Ok rect → layer_at v s ≡ Ok layer → payload_at v s ≡ Ok payload → record_in v s ≡ Ok (
      record
          { number = from_be_bytes w64 raw; rect = rect; layer = layer; payload = payload },
      length_place v + 1 + length payload,
    )
unfolding record_in
steps v s raw rect layer payload a b l c = λ i. (a i) >>= (λ n. (b i) >>=
    (λ r. (l i) >>= (λ k. (c i) >>= (λ p. Ok (
      record { number = from_be_bytes w64 n; rect = r; layer = k; payload = p },
      length_place v + 1 + length p,
    )))))

rectangle_again : (s : List ℕ) (r : Rectangle) → IsOrdered r → FitsMap r → field_at s 8 16 ≡ Ok (rectangle_bytes r) →
    rectangle_at s ≡ Ok r
unfolding rectangle_at
rectangle_again s r ordered fits a =
    (λ i. (a i) >>= rectangle_in) ∙ ap (λ (o : Option Rectangle). ok_or o (broken BadRect 8))
    (rectangle_read (rectangle_bytes r) r ordered fits refl)

layer_again : (v : Version) (front : List ℕ) (layer : ℕ) (back : List ℕ) → length front ≡ 24 → layer ≤ highest_layer v →
    layer_at v (front ++ (layer_bytes v layer ++ back)) ≡ Ok layer
unfolding layer_at
layer_again One front layer back long low = ap Ok (omega arith)
layer_again Two front layer back long low =
    (λ i. (field_again front (layer ∷ []) back 24 1 long refl i) >>= (λ raw. layer_in (get_or raw 0 0)))
    ∙ ap (λ (t : Bool). cond t (Ok layer) (Err (broken BadLayer 24))) (le-leb layer 63 low)

payload_again : (v : Version) (s payload : List ℕ) → length payload ≤ 200 →
    field_at s (length_place v) 1 ≡ Ok (length payload ∷ []) →
    field_at s (length_place v + 1) (length payload) ≡ Ok payload → payload_at v s ≡ Ok payload
unfolding payload_at
payload_again v s payload short a b =
    (λ i. (a i) >>= (λ raw. payload_behind v s (get_or raw 0 0)))
    ∙ ap (λ (t : Bool). cond t (field_at s (length_place v + 1) (length payload))
    (Err (broken BadLength (length_place v))))
    (le-leb (length payload) 200 short) ∙ b

pub record_again : (v : Version) (r : Record) (rest : List ℕ) → IsRecord r → HasLayer v r →
    record_in v (record_bytes v r ++ rest) ≡ Ok (r, length (record_bytes v r))
unfolding record_bytes
record_again v r rest is low =
    let N : List ℕ = to_be_bytes w64 r.number in
    let R : List ℕ = rectangle_bytes r.rect in
    let L : List ℕ = layer_bytes v r.layer in
    let P : List ℕ = r.payload in
    let s : List ℕ = record_bytes v r ++ rest in
    let long : length R ≡ 16 = length-rectangle_bytes r.rect in
    let size : length L ≡ told v 1 = length-layer_bytes v r.layer in
    let two = length-append N R in
    let three = length-append (N ++ R) L in
    let four = length-append (N ++ R ++ L) (length P ∷ []) in
    let a : s ≡ [] ++ (N ++ (R ++ (L ++ (length P ∷ P ++ rest)))) = simp append_assoc in
    let b : s ≡ N ++ (R ++ (L ++ (length P ∷ P ++ rest))) = simp append_assoc in
    let l : s ≡ (N ++ R) ++ (L ++ (length P ∷ P ++ rest)) = simp append_assoc in
    let c : s ≡ (N ++ R ++ L) ++ ((length P ∷ []) ++ (P ++ rest)) = simp append_assoc in
    let d : s ≡ (N ++ R ++ L ++ length P ∷ []) ++ (P ++ rest) = simp append_assoc in
    let number : field_at s 0 8 ≡ Ok N = ap (λ (t : List ℕ). field_at t 0 8) a
    ∙ field_again [] N (R ++ (L ++ (length P ∷ P ++ rest))) 0 8 refl refl in
    let rect : field_at s 8 16 ≡ Ok R = ap (λ (t : List ℕ). field_at t 8 16) b
    ∙ field_again N R (L ++ (length P ∷ P ++ rest)) 8 16 refl long in
    let layer : layer_at v s ≡ Ok r.layer = ap (λ (t : List ℕ). layer_at v t) l
    ∙ layer_again v (N ++ R) r.layer (length P ∷ P ++ rest) (omega (arith, two, long)) low in
    let len : field_at s (length_place v) 1 ≡ Ok (length P ∷ []) = ap (λ (t : List ℕ). field_at t (length_place v) 1) c
    ∙ field_again (N ++ R ++ L) (length P ∷ []) (P ++ rest) (length_place v) 1
    (omega (arith, two, three, long, size)) refl in
    let payload : field_at s (length_place v + 1) (length P) ≡ Ok P =
    ap (λ (t : List ℕ). field_at t (length_place v + 1) (length P)) d
    ∙ field_again (N ++ R ++ L ++ length P ∷ []) P rest (length_place v + 1) (length P)
    (omega (arith, two, three, four, long, size)) refl in
    steps v s N r.rect r.layer P number (rectangle_again s r.rect is.ordered is.coordinates rect) layer
    (payload_again v s P is.payload len payload)
    ∙ (λ i. Ok (
      record {
        number = from_be_bytes-to_be_bytes_8 r.number is.number i;
        rect = r.rect;
        layer = r.layer;
        payload = r.payload;
      },
      sym (length-record_bytes v r) i,
    ))

-- ---- what is read is spelled

-- the record that was read, and the number of its bytes
pub record IsSpelled (v : Version) (bytes : List ℕ) (r : Record) (n : ℕ) : Type 0 where
  pub is : IsRecord r
  pub layer : HasLayer v r
  pub spelled : bytes ≡ record_bytes v r ++ drop n bytes
  pub long : n ≡ length (record_bytes v r)

pub record IsRectangle (raw : List ℕ) (r : Rectangle) : Type 0 where
  pub spelled : raw ≡ rectangle_bytes r
  pub ordered : IsOrdered r
  pub fits : FitsMap r

in_order_cases : (b : Bool) (q r : Rectangle) → ok_or (cond b (Some q) None) (broken BadRect 8) ≡ Ok r →
    (b ≡ true) × (q ≡ r)
in_order_cases true q r e = (refl, cc)
in_order_cases false q r e = absurd cc

pub rectangle_is : (raw : List ℕ) (r : Rectangle) → length raw ≡ 16 → IsBytes raw → rectangle_in raw ≡ Ok r →
    IsRectangle raw r
rectangle_is raw r long fits e =
    let p = in_order_cases (in_order (sides_of raw)) (sides_of raw) r e in
    subst (IsRectangle raw) p.1 (record {
      spelled = sides_are raw long fits;
      ordered = in_order_is (sides_of raw) p.0;
      fits = sides_fit raw fits;
    })

-- the payload that was read
record IsPayload (v : Version) (bytes payload : List ℕ) : Type 0 where
  short : length payload ≤ 200
  fits : AreBytes payload
  len : slice_range bytes (length_place v) (length_place v + 1) ≡ length payload ∷ []
  rest : slice_range bytes (length_place v + 1) (length_place v + 1 + length payload) ≡ payload

limited : {A E : Type 0} (b : Bool) (m : Result A E) (e : E) (y : A) → cond b m (Err e) ≡ Ok y → (b ≡ true) × (m ≡ Ok y)
limited true m e y h = (refl, h)
limited false m e y h = absurd cc

payload_is : (v : Version) (bytes payload : List ℕ) → IsBytes bytes → payload_at v bytes ≡ Ok payload →
    IsPayload v bytes payload
unfolding payload_at
payload_is v bytes payload fits e =
    let at : ℕ = length_place v in
    let p = bind_ok (field_at bytes at 1) (λ raw. payload_behind v bytes (get_or raw 0 0)) payload e in
    let one = taken bytes at 1 p.0 fits p.1 in
    let n : ℕ = get_or p.0 0 0 in
    let q = limited (nat_le n 200) (field_at bytes (at + 1) n) (broken BadLength at) payload p.2 in
    let all = taken bytes (at + 1) n payload fits q.1 in
    let short : n ≤ 200 = leb-true n 200 q.0 in
    record {
      short = omega (arith, all.long);
      fits = AreBytes-from payload all.fits;
      len = sym one.is ∙ single p.0 one.long ∙ ap (λ (k : ℕ). k ∷ []) (sym all.long);
      rest = subst (λ (k : ℕ). slice_range bytes (at + 1) (at + 1 + k) ≡ payload) (sym all.long) (sym all.is);
    }

-- the layer that was read
record IsLayer (v : Version) (bytes : List ℕ) (layer : ℕ) : Type 0 where
  low : layer ≤ highest_layer v
  spelled : slice_range bytes 24 (length_place v) ≡ layer_bytes v layer

layer_is : (v : Version) (bytes : List ℕ) (layer : ℕ) → IsBytes bytes → layer_at v bytes ≡ Ok layer →
    IsLayer v bytes layer
unfolding layer_at
layer_is One bytes layer fits e = let same : 0 ≡ layer = cc in record { low = omega arith; spelled = refl }
layer_is Two bytes layer fits e =
    let p = bind_ok (field_at bytes 24 1) (λ raw. layer_in (get_or raw 0 0)) layer e in
    let one = taken bytes 24 1 p.0 fits p.1 in
    let n : ℕ = get_or p.0 0 0 in
    let q = picked (nat_le n 63) n layer (broken BadLayer 24) p.2 in
    let low : n ≤ 63 = leb-true n 63 q.0 in
    record {
      low = subst (λ (k : ℕ). k ≤ 63) q.1 low;
      spelled = sym one.is ∙ single p.0 one.long ∙ ap (λ (k : ℕ). k ∷ []) q.1;
    }

-- any layer of this version is one
HasLayer-two : (v : Version) (layer : ℕ) → layer ≤ highest_layer v → layer ≤ 63
HasLayer-two One layer low = omega arith
HasLayer-two Two layer low = low

-- five fields side by side are the whole, up to what is left
in_fields : (bytes : List ℕ) (a n : ℕ) → bytes ≡ slice_range bytes 0 8
    ++ (slice_range bytes 8 24 ++ (slice_range bytes 24 (24 + a) ++ (slice_range bytes (24 + a) (24 + a + 1)
    ++ (slice_range bytes (24 + a + 1) (24 + a + 1 + n) ++ drop (24 + a + 1 + n) bytes))))
in_fields bytes a n =
    drop_split bytes 0 8 (omega arith)
    ∙ ap (λ (t : List ℕ). slice_range bytes 0 8 ++ t) (drop_split bytes 8 24 (omega arith)
    ∙ ap (λ (t : List ℕ). slice_range bytes 8 24 ++ t) (drop_split bytes 24 (24 + a) (omega arith)
    ∙ ap (λ (t : List ℕ). slice_range bytes 24 (24 + a) ++ t) (drop_split bytes (24 + a) (24 + a + 1) (omega arith)
    ∙ ap (λ (t : List ℕ). slice_range bytes (24 + a) (24 + a + 1) ++ t)
    (drop_split bytes (24 + a + 1) (24 + a + 1 + n) (omega arith)))))

regrouped : (v : Version) (r : Record) (rest : List ℕ) → to_be_bytes w64 r.number
    ++ (rectangle_bytes r.rect ++ (layer_bytes v r.layer ++ (length r.payload ∷ [] ++ (r.payload ++ rest))))
    ≡ record_bytes v r ++ rest
unfolding record_bytes
regrouped v r rest = simp append_assoc

pub record_is : (v : Version) (bytes : List ℕ) (r : Record) (n : ℕ) → IsBytes bytes → record_in v bytes ≡ Ok (r, n) →
    IsSpelled v bytes r n
unfolding record_in rectangle_at
record_is v bytes r n fits e =
    let p = bind_ok (field_at bytes 0 8) (λ raw. rectangle_at bytes >>= (λ rect. layer_at v bytes >>=
    (λ layer. payload_at v bytes >>= (λ payload. Ok (
      record { number = from_be_bytes w64 raw; rect = rect; layer = layer; payload = payload },
      length_place v + 1 + length payload,
    ))))) (r, n) e in
    let q = bind_ok (rectangle_at bytes) (λ rect. layer_at v bytes >>= (λ layer. payload_at v bytes >>=
    (λ payload. Ok (
      record { number = from_be_bytes w64 p.0; rect = rect; layer = layer; payload = payload },
      length_place v + 1 + length payload,
    )))) (r, n) p.2 in
    let k = bind_ok (layer_at v bytes) (λ layer. payload_at v bytes >>=
    (λ payload. Ok (
      record { number = from_be_bytes w64 p.0; rect = q.0; layer = layer; payload = payload },
      length_place v + 1 + length payload,
    ))) (r, n) q.2 in
    let l = bind_ok (payload_at v bytes) (λ payload. Ok (
      record { number = from_be_bytes w64 p.0; rect = q.0; layer = k.0; payload = payload },
      length_place v + 1 + length payload,
    )) (r, n) k.2 in
    let same : (
      record { number = from_be_bytes w64 p.0; rect = q.0; layer = k.0; payload = l.0 },
      length_place v + 1 + length l.0,
    ) ≡ (r, n) =
    cc (l.2) in
    let number = taken bytes 0 8 p.0 fits p.1 in
    let raw = bind_ok (field_at bytes 8 16) rectangle_in q.0 q.1 in
    let sides = taken bytes 8 16 raw.0 fits raw.1 in
    let rect = rectangle_is raw.0 q.0 sides.long sides.fits raw.2 in
    let layer = layer_is v bytes k.0 fits k.1 in
    let payload = payload_is v bytes l.0 fits l.1 in
    let N : slice_range bytes 0 8 ≡ to_be_bytes w64 (from_be_bytes w64 p.0) =
    sym number.is ∙ word_is p.0 number.long number.fits in
    let R : slice_range bytes 8 24 ≡ rectangle_bytes q.0 = sym sides.is ∙ rect.spelled in
    let found : Record = record { number = from_be_bytes w64 p.0; rect = q.0; layer = k.0; payload = l.0 } in
    let done : IsSpelled v bytes found (length_place v + 1 + length l.0) = record {
      is = record {
        number = word_below p.0 number.fits;
        ordered = rect.ordered;
        coordinates = rect.fits;
        layer = HasLayer-two v k.0 layer.low;
        payload = payload.short;
        bytes = payload.fits;
      };
      layer = layer.low;
      spelled = in_fields bytes (told v 1) (length l.0)
          ∙ (λ i. N i ++ (R i ++ (layer.spelled i ++ (payload.len i ++ (payload.rest i
          ++ drop (length_place v + 1 + length l.0) bytes)))))
          ∙ regrouped v found (drop (length_place v + 1 + length l.0) bytes);
      long = sym (length-record_bytes v found);
    } in
    subst (λ (x : Record × ℕ). IsSpelled v bytes x.0 x.1) same done

pub read_written : (v : Version) (bytes : List ℕ) (result : Result (Record × ℕ) RecordFault) → IsBytes bytes →
    result ≡ record_in v bytes
    → IfOk result (λ p. IsRecord p.0 × HasLayer v p.0 × (bytes ≡ record_bytes v p.0 ++ drop p.1 bytes))
read_written v bytes (Ok p) fits e = let s = record_is v bytes p.0 p.1 fits (sym e) in (s.is, s.layer, s.spelled)
read_written v bytes (Err f) fits e = tt

pub read_sized : (v : Version) (bytes : List ℕ) (result : Result (Record × ℕ) RecordFault) → IsBytes bytes →
    result ≡ record_in v bytes → IfOk result (λ p. p.1 ≡ length (record_bytes v p.0))
read_sized v bytes (Ok p) fits e = (record_is v bytes p.0 p.1 fits (sym e)).long
read_sized v bytes (Err f) fits e = tt
