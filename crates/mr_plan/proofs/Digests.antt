-- The word of a digest is read as that digest, and what is read is written so.
use Rattle.std.proofs.Common.{◌≡◌, ℕ, ◌*◌, Bool, true, false, cond, eqb, leb, ◌&&◌, List, [], ◌∷◌, length, Option, Some, None, refl, ap, arith, inl, inr}
use Rattle.std.specs.Prelude.{bytes_eq}
use Rattle.std.specs.List.{list_all}
use Rattle.std.proofs.lemmas.Bool.{and_parts, le-leb, eqb-true, false_from_ne_true, cases_lt}
use Rattle.std.proofs.lemmas.Slice.Eq.{bytes_eq-Decides}
use Rattle.std.proofs.lemmas.List.{get_or_past}
use Rattle.hex.specs.Hex.{IsBytes, lower_digits, encode_lower, decode_of}
use Rattle.hex.proofs.HexLemmas.{length-encode_with, decode_of-encode_lower}
use Rattle.mr_outside.specs.Bytes.{AreBytes}
use Rattle.mr_record.specs.RecordText.{is_lower_digit, ok_bytes, payload_of}
use Rattle.mr_record.proofs.Payloads.{IsPayload, payload_of-written, all_lower_text}
use Rattle.mr_plan.specs.private.Asking.{digest_of_word}
use Rattle.mr_plan.specs.Words.{IsDigest}

guard_some : (b : Bool) (x : Option (List ℕ)) (y : List ℕ) → cond b x None ≡ Some y → (b ≡ true)
    × (x ≡ Some y)
guard_some true x y e = (refl, e)
guard_some false x y e = absurd cc

no_dash : (word : List ℕ) → length word ≡ 64 → bytes_eq word (45 ∷ []) ≡ false
no_dash word long = false_from_ne_true (bytes_eq word (45 ∷ []))
    (λ t. let same : word ≡ 45 ∷ [] = (bytes_eq-Decides word (45 ∷ [])).0 t in omega
    (arith, ap length same))

as_payload : (word bytes : List ℕ) → length word ≡ 64 → list_all is_lower_digit word ≡ true
    → ok_bytes (decode_of word) ≡ Some bytes → payload_of word ≡ Some bytes
unfolding payload_of
as_payload word bytes long lower ok =
    let least : leb 2 (length word) ≡ true = le-leb 2 (length word) (omega arith) in
    let most : leb (length word) 400 ≡ true = le-leb (length word) 400 (omega arith) in
    rw (no_dash word long, least, most, lower) ok

-- the digest of a payload's text of 64 digits
of_payload : (word bytes : List ℕ) → length word ≡ 64 → IsPayload word bytes → IsDigest bytes
    × (word ≡ encode_lower bytes)
of_payload word [] long is = absurd (omega (arith, ap length is.spelled))
of_payload word (b ∷ bytes) long is =
    let wide : length (encode_lower (b ∷ bytes)) ≡ 2 * length (b ∷ bytes) = length-encode_with
    lower_digits (b ∷ bytes) in
    let same : length word ≡ length (encode_lower (b ∷ bytes)) = ap length is.spelled in
    (record { size = omega arith; each = is.fits }, is.spelled)

pub digest_written : (word bytes : List ℕ) → digest_of_word word ≡ Some bytes → IsDigest bytes
    × (word ≡ encode_lower bytes)
unfolding digest_of_word
digest_written word bytes e =
    let guard = guard_some (eqb (length word) 64 && list_all is_lower_digit word)
    (ok_bytes (decode_of word)) bytes e in
    let parts = and_parts (eqb (length word) 64) (list_all is_lower_digit word) guard.0 in
    let long : length word ≡ 64 = eqb-true (length word) 64 parts.0 in
    of_payload word bytes long (payload_of-written word bytes
    (as_payload word bytes long parts.1 guard.1))

IsBytes-from : (bytes : List ℕ) → AreBytes bytes → IsBytes bytes
IsBytes-from bytes fits i = elim (cases_lt i (length bytes)) [
  | inl lt ↦ fits i 0 lt
  | inr past ↦ rw (get_or_past bytes i 0 past) (omega arith)
]

all_lower : (bytes : List ℕ) → IsDigest bytes → list_all is_lower_digit (encode_lower bytes) ≡ true
all_lower [] is = absurd (omega (arith, is.size))
all_lower (b ∷ bytes) is = all_lower_text b bytes is.each

pub digest_read : (bytes : List ℕ) → IsDigest bytes
    → digest_of_word (encode_lower bytes) ≡ Some bytes
unfolding digest_of_word
digest_read bytes is =
    let size = is.size in
    let wide : length (encode_lower bytes) ≡ 2 * length bytes = length-encode_with lower_digits
    bytes in
    let long : length (encode_lower bytes) ≡ 64 = omega arith in
    let sized : eqb (length (encode_lower bytes)) 64 ≡ true = ap (λ n. eqb n 64) long in
    let lower = all_lower bytes is in
    let back = decode_of-encode_lower bytes (IsBytes-from bytes is.each) in
    λ i. cond (sized i && lower i) (ok_bytes (back i)) None
