-- Proofs of the laws of a hash function, for the two that there are: a digest has 32 cells, and
-- each of them is a byte.
use Rattle.std.specs.Prelude.{◌≡◌, ℕ, zero, suc, ◌^◌, ◌<◌, List, [], ◌∷◌, fold, length, replicate, bit_xor, slice_index, refl}
use Rattle.std.specs.Int.{w32, byte_at, bytes_high_first, to_be_bytes}
use Rattle.std.specs.List.{AllByRecursion}
use Rattle.std.proofs.Common.{arith}
use Rattle.std.proofs.lemmas.List.Elements.{All-append, All-cons, All-nil, All-replicate, recursion_from_All}
use Rattle.std.proofs.lemmas.Nat.{xor_lt}
use Rattle.sha2.specs.Sha256.{sha256, digest_bytes}
use Rattle.mr_outside.specs.Bytes.{AreBytes}
use Rattle.mr_tree.specs.Hash.{xor_of}

abbrev IsByte : ℕ → Type 0
IsByte b = b < 2 ^ 8

-- ---- the exclusive or

pub length-xor_of : (bytes : List ℕ) → length (xor_of bytes) ≡ 32
length-xor_of bytes = refl

fold_below : (a : ℕ) (bytes : List ℕ) → IsByte a → AllByRecursion IsByte bytes →
    IsByte (fold bit_xor a bytes)
fold_below a [] h all = h
fold_below a (b ∷ bytes) h all = fold_below (bit_xor a b) bytes (xor_lt 8 a b h all.0) all.1

pub AreBytes-xor_of : (bytes : List ℕ) → AreBytes bytes → AreBytes (xor_of bytes)
AreBytes-xor_of bytes h =
    All-append IsByte (replicate 31 0) (fold bit_xor 0 bytes ∷ [])
    (All-replicate IsByte 31 0 (omega arith))
    (All-cons IsByte (fold bit_xor 0 bytes) []
    (fold_below 0 bytes (omega arith) (recursion_from_All IsByte bytes h)) (All-nil IsByte))

-- ---- SHA-256

byte_at_below : (i n : ℕ) → IsByte (byte_at i n)
byte_at_below zero n = omega arith
byte_at_below (suc i) n = omega arith

AreBytes-bytes_high_first : (k n : ℕ) → AreBytes (bytes_high_first k n)
AreBytes-bytes_high_first zero n = All-nil IsByte
AreBytes-bytes_high_first (suc k) n =
    All-cons IsByte (byte_at k n) (bytes_high_first k n)
    (byte_at_below k n) (AreBytes-bytes_high_first k n)

AreBytes-digest_bytes : (words : List ℕ) (n : ℕ) → AreBytes (digest_bytes words n)
unfolding digest_bytes
AreBytes-digest_bytes words zero = All-nil IsByte
AreBytes-digest_bytes words (suc n) =
    All-append IsByte (digest_bytes words n) (to_be_bytes w32 (slice_index words n))
    (AreBytes-digest_bytes words n) (AreBytes-bytes_high_first 4 (slice_index words n))

pub AreBytes-sha256 : (bytes : List ℕ) → AreBytes bytes → AreBytes (sha256 bytes)
unfolding sha256
AreBytes-sha256 bytes h = AreBytes-digest_bytes _ 8
