-- A piece of a file that is read, and zeros behind it.
use Rattle.std.proofs.Common.{◌≡◌, ℕ, ◌+◌, ◌-◌, ◌≤◌, List, ◌++◌, length, take, drop, replicate, Option, ap, ◌∙◌, arith}
use Rattle.std.proofs.lemmas.List.{append-nil, drop_all, drop_at, length-drop, length-take-le, take_all, take_at}
use Rattle.mr_outside.specs.Files.{Files}
use Rattle.mr_outside.specs.Told.{OfFile}
use Rattle.mr_outside.specs.Reading.{GivesFrom}
use Rattle.mr_outside.proofs.Pieces.{OfFile-map}
use Rattle.mr_pages.specs.PageBytes.{filled}

-- a piece from a place on was read whole, where the file goes so far
abbrev pub IsPiece : (at : ℕ) → (before after bytes : List ℕ) → Type 0
IsPiece at before after bytes =
    at + length before ≤ length bytes → after ≡ take (length before) (drop at bytes)

-- what a read gives, and zeros behind it
pub piece_over : (told : Option Files) (name : List ℕ) (at n : ℕ) (old after final : List ℕ) →
    length after ≡ length old → final ≡ filled (length after) (take n after) →
    OfFile told name ⊥ (GivesFrom at old after n) → OfFile told name ⊥ (IsPiece at old final)
piece_over told name at n old after final long is gives =
    OfFile-map told name _ _
    (λ bytes g room.
    let all : n ≡ length old = omega (arith, g.count_is, room) in
    let whole : after ≡ take (length old) (drop at bytes) =
    g.bytes_are ∙ (λ i. take (all i) (drop at bytes) ++ drop_all n old (omega (arith, all)) i)
    ∙ append-nil (take (length old) (drop at bytes)) in
    let none : length after - length (take n after) ≡ 0 =
    omega (arith, long, all, length-take-le n after (omega (arith, long, all))) in
    is ∙ (λ i. take n after ++ replicate (none i) 0) ∙ append-nil (take n after)
    ∙ take_all n after (omega (arith, long, all)) ∙ whole) gives

pub zeros_over : (n : ℕ) (old after final : List ℕ) → length after ≡ length old → n ≤ length old →
    final ≡ filled (length after) (take n after) → drop n final ≡ replicate (length old - n) 0
zeros_over n old after final long within is =
    let some : length (take n after) ≡ n = length-take-le n after (omega (arith, long, within)) in
    let left : length after - length (take n after) ≡ length old - n = omega (arith, some, long) in
    ap (drop n) is ∙ drop_at (take n after) (replicate (length after - length (take n after)) 0) n some
    ∙ ap (λ k. replicate k 0) left

-- what a read gives stands in front, however short it is
pub front_over : (told : Option Files) (name : List ℕ) (at n : ℕ) (old after final : List ℕ) →
    length after ≡ length old → n ≤ length old → final ≡ filled (length after) (take n after) →
    OfFile told name ⊥ (GivesFrom at old after n) →
    OfFile told name ⊥ (λ bytes. take n final ≡ take n (drop at bytes))
front_over told name at n old after final long within is gives =
    OfFile-map told name _ _
    (λ bytes g.
    let there : length (take n (drop at bytes)) ≡ n =
    length-take-le n (drop at bytes) (omega (arith, g.count_is, length-drop at bytes)) in
    let first : take n after ≡ take n (drop at bytes) =
    ap (take n) g.bytes_are ∙ take_at (take n (drop at bytes)) (drop n old) n there in
    let some : length (take n after) ≡ n = length-take-le n after (omega (arith, long, within)) in
    ap (take n) is ∙ take_at (take n after) (replicate (length after - length (take n after)) 0) n some
    ∙ first) gives
