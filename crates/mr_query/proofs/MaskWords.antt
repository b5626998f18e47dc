-- The text of a mask is read as that mask, and what is read is written so.
use Rattle.std.proofs.Common.{◌≡◌, ℕ, zero, suc, ◌+◌, ◌*◌, ◌^◌, ◌<◌, ◌≤◌, Bool, true, false, cond, eqb, leb, ◌&&◌, List, [], ◌∷◌, length, Option, Some, None, refl, sym, ap, subst, ◌∙◌, arith}
use Rattle.std.specs.Prelude.{bytes_eq, option_map}
use Rattle.std.specs.List.{list_all}
use Rattle.std.specs.Int.{w64, byte_at, bytes_high_first, from_be_bytes, to_be_bytes}
use Rattle.std.proofs.lemmas.Bool.{and_parts, le-leb, eqb-true, false_from_ne_true}
use Rattle.std.proofs.lemmas.List.Elements.{All-cons, All-nil}
use Rattle.std.proofs.lemmas.Nat.{from_be_bytes-to_be_bytes_8}
use Rattle.std.proofs.lemmas.Slice.Eq.{bytes_eq-Decides}
use Rattle.hex.specs.Hex.{lower_digits, encode_lower, decode_of}
use Rattle.hex.proofs.HexLemmas.{length-encode_with, decode_of-encode_lower}
use Rattle.mr_outside.specs.Bytes.{AreBytes}
use Rattle.mr_record.specs.RecordText.{is_lower_digit, ok_bytes, payload_of}
use Rattle.mr_record.proofs.Encodings.{IsBytes-from, word_is, word_below}
use Rattle.mr_record.proofs.Payloads.{IsPayload, payload_of-written, all_lower_text}
use Rattle.mr_query.specs.Word.{mask_of_text}

-- ---- bytes of a number

byte_below : (i n : ℕ) → byte_at i n < 2 ^ 8
byte_below zero n = omega arith
byte_below (suc i) n = omega arith

high_first : (k n : ℕ) → AreBytes (bytes_high_first k n)
high_first zero n = All-nil (λ b. b < 2 ^ 8)
high_first (suc k) n =
    All-cons (λ b. b < 2 ^ 8) (byte_at k n) (bytes_high_first k n) (byte_below k n) (high_first k n)

-- ---- what is read is written so

guard_some : {A : Type 0} (b : Bool) (x : Option A) (y : A) → cond b x None ≡ Some y → (b ≡ true) × (x ≡ Some y)
guard_some true x y e = (refl, e)
guard_some false x y e = absurd cc

number_some : (o : Option (List ℕ)) (m : ℕ) → option_map (λ bytes. from_be_bytes w64 bytes) o ≡ Some m
    → (bytes : List ℕ) × (o ≡ Some bytes) × (from_be_bytes w64 bytes ≡ m)
number_some (Some bytes) m e = (bytes, refl, cc)
number_some None m e = absurd cc

no_dash : (text : List ℕ) → length text ≡ 16 → bytes_eq text (45 ∷ []) ≡ false
no_dash text long =
    false_from_ne_true (bytes_eq text (45 ∷ []))
    (λ t. let same : text ≡ 45 ∷ [] = (bytes_eq-Decides text (45 ∷ [])).0 t in omega (arith, ap length same))

as_payload : (text bytes : List ℕ) → length text ≡ 16 → list_all is_lower_digit text ≡ true
    → ok_bytes (decode_of text) ≡ Some bytes → payload_of text ≡ Some bytes
unfolding payload_of
as_payload text bytes long lower ok =
    let least : leb 2 (length text) ≡ true = le-leb 2 (length text) (omega arith) in
    let most : leb (length text) 400 ≡ true = le-leb (length text) 400 (omega arith) in
    rw (no_dash text long, least, most, lower) ok

abbrev IsMaskText : List ℕ → ℕ → Type 0
IsMaskText text m = (text ≡ encode_lower (to_be_bytes w64 m)) × (m < 2 ^ 64)

of_payload : (text bytes : List ℕ) → length text ≡ 16 → IsPayload text bytes
    → IsMaskText text (from_be_bytes w64 bytes)
of_payload text [] long is = absurd (omega (arith, ap length is.spelled))
of_payload text (b ∷ bytes) long is =
    let wide : length (encode_lower (b ∷ bytes)) ≡ 2 * length (b ∷ bytes) =
    length-encode_with lower_digits (b ∷ bytes) in
    let same : length text ≡ length (encode_lower (b ∷ bytes)) = ap length is.spelled in
    let eight : length (b ∷ bytes) ≡ 8 = omega arith in
    let fits = IsBytes-from (b ∷ bytes) is.fits in
    (is.spelled ∙ ap encode_lower (word_is (b ∷ bytes) eight fits), word_below (b ∷ bytes) fits)

pub mask_written : (text : List ℕ) (m : ℕ) → mask_of_text text ≡ Some m
    → (text ≡ encode_lower (to_be_bytes w64 m)) × (m < 2 ^ 64)
unfolding mask_of_text
mask_written text m e =
    let guard = guard_some (eqb (length text) 16 && list_all is_lower_digit text)
    (option_map (λ bytes. from_be_bytes w64 bytes) (ok_bytes (decode_of text))) m e in
    let parts = and_parts (eqb (length text) 16) (list_all is_lower_digit text) guard.0 in
    let long : length text ≡ 16 = eqb-true (length text) 16 parts.0 in
    let some = number_some (ok_bytes (decode_of text)) m guard.1 in
    let is = payload_of-written text some.0 (as_payload text some.0 long parts.1 some.1) in
    subst (IsMaskText text) some.2 (of_payload text some.0 long is)

-- ---- what is written is read again

all_lower : (bytes : List ℕ) → length bytes ≡ 8 → AreBytes bytes → list_all is_lower_digit (encode_lower bytes) ≡ true
all_lower [] long are = absurd (omega arith)
all_lower (b ∷ bytes) long are = all_lower_text b bytes are

bytes_read : (bytes : List ℕ) → length bytes ≡ 8 → AreBytes bytes
    → mask_of_text (encode_lower bytes) ≡ Some (from_be_bytes w64 bytes)
unfolding mask_of_text
bytes_read bytes eight are =
    let wide : length (encode_lower bytes) ≡ 2 * length bytes = length-encode_with lower_digits bytes in
    let long : length (encode_lower bytes) ≡ 16 = omega arith in
    let sized : eqb (length (encode_lower bytes)) 16 ≡ true = ap (λ n. eqb n 16) long in
    let lower = all_lower bytes eight are in
    let back = decode_of-encode_lower bytes (IsBytes-from bytes are) in
    λ i. cond (sized i && lower i) (option_map (λ bytes. from_be_bytes w64 bytes) (ok_bytes (back i))) None

pub mask_read : (m : ℕ) → m < 2 ^ 64 → mask_of_text (encode_lower (to_be_bytes w64 m)) ≡ Some m
mask_read m low =
    bytes_read (to_be_bytes w64 m) refl (high_first 8 m) ∙ ap Some (from_be_bytes-to_be_bytes_8 m low)

-- the text of a mask is lower-case digits
pub mask_digits : (m : ℕ) → list_all is_lower_digit (encode_lower (to_be_bytes w64 m)) ≡ true
mask_digits m = all_lower (to_be_bytes w64 m) refl (high_first 8 m)
