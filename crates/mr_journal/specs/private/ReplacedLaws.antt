-- Bytes that stand in a list in place of those from a place on.
use Rattle.std.proofs.Common.{◌≡◌, ℕ, ◌+◌, ◌-◌, ◌<◌, ◌≤◌, min, List, ◌++◌, length, get_or, take, drop, ap, ◌∙◌, arith}
use Rattle.std.proofs.lemmas.List.{length-append, length-take, length-drop, length-take-le, get_or_append_left, get_or-append_right, get_or-take, get_or-drop}
use Rattle.mr_outside.specs.Files.{replaced}

pub length-replaced : (at : ℕ) (bytes m : List ℕ) → length (replaced at bytes m)
    ≡ min at (length m) + length bytes + (length m - (at + length bytes))
length-replaced at bytes m =
    omega (
      arith,
      length-append (take at m ++ bytes) (drop (at + length bytes) m),
      length-append (take at m) bytes,
      length-take at m,
      length-drop (at + length bytes) m,
    )

front_length : (at : ℕ) (bytes m : List ℕ) → length (take at m ++ bytes)
    ≡ min at (length m) + length bytes
front_length at bytes m = omega (arith, length-append (take at m) bytes, length-take at m)

pub replaced_before : (at : ℕ) (bytes m : List ℕ) (i : ℕ) → i < at → i < length m
    → get_or (replaced at bytes m) i 0 ≡ get_or m i 0
replaced_before at bytes m i low within =
    get_or_append_left (take at m ++ bytes) (drop (at + length bytes) m) 0 i
    (omega (arith, front_length at bytes m))
    ∙ get_or_append_left (take at m) bytes 0 i (omega (arith, length-take at m))
    ∙ get_or-take at m i 0 low

pub replaced_within : (at : ℕ) (bytes m : List ℕ) (i : ℕ) → at ≤ length m → at ≤ i
    → i < at + length bytes → get_or (replaced at bytes m) i 0 ≡ get_or bytes (i - at) 0
replaced_within at bytes m i le low high =
    get_or_append_left (take at m ++ bytes) (drop (at + length bytes) m) 0 i
    (omega (arith, front_length at bytes m))
    ∙ get_or-append_right (take at m) bytes at i 0 (length-take-le at m le) low

pub replaced_behind : (at : ℕ) (bytes m : List ℕ) (i : ℕ) → at ≤ length m → at + length bytes ≤ i
    → get_or (replaced at bytes m) i 0 ≡ get_or m i 0
replaced_behind at bytes m i le low =
    let size : length (take at m ++ bytes)
    ≡ at + length bytes = omega (arith, front_length at bytes m) in
    let same : at + length bytes + (i - (at + length bytes)) ≡ i = omega arith in
    get_or-append_right (take at m ++ bytes) (drop (at + length bytes) m) (at + length bytes) i 0
    size low
    ∙ get_or-drop (at + length bytes) m (i - (at + length bytes)) 0
    ∙ ap (λ k. get_or m k 0) same
