-- A file that is read from its front, piece by piece.
use Rattle.std.proofs.Common.{◌≡◌, ℕ, ◌+◌, ◌-◌, ◌<◌, ◌≤◌, min, List, [], ◌++◌, length, take, drop, Option, Some, None, is_some, MatchOption, Result, OnOk, subst, refl, sym, ap, ◌∙◌, arith, length-append, length-take-le, length-drop, take_all}
use Rattle.std.proofs.Math.Seq.{take-add}
use Rattle.mr_outside.specs.Files.{Files, file}
use Rattle.mr_outside.specs.Told.{OfFile, MayMiss}
use Rattle.mr_outside.specs.State.{Shelved}
use Rattle.mr_outside.specs.Causes.{ShelfCauses}
use Rattle.mr_outside.specs.Reading.{piece_count}
use Rattle.mr_outside.specs.declared.shelf.ShelfErr.{ShelfErr}
use Rattle.mr_outside.proofs.Rises.{later_then_rose}

-- first calls in which the count does not fall, then one that finds no such file
later_then_miss : (told : Option Files) (name : List ℕ) (before between now : ℕ) → before ≤ between
    → MayMiss told name between now → MayMiss told name before now
later_then_miss None name before between now later miss = later_then_rose before between now later miss
later_then_miss (Some files) name before between now later miss = miss

-- first an answered call that leaves the files as they are, then one that is refused for its cause or answered
pub ShelfCauses-later : {A : Type 0} (name : List ℕ) (before between after : Shelved) (result : Result A ShelfErr)
    → between.files ≡ before.files → between.faults ≡ before.faults
    → ShelfCauses name between after result → ShelfCauses name before after result
ShelfCauses-later name before between after result files quiet later = record {
  missing = λ e. later_then_miss before.files name before.faults between.faults after.faults (omega (arith, quiet))
      (subst (λ told. MayMiss told name between.faults after.faults) files (later.missing e));
  fault = λ e. later_then_rose before.faults between.faults after.faults (omega (arith, quiet)) (later.fault e);
  faults = omega (arith, quiet, later.faults);
  quiet = subst (λ n. OnOk result (after.faults ≡ n)) quiet later.quiet;
  absent = λ e told. later.absent e (ap is_some files ∙ told) ∙ quiet;
}

of_found : (found : Option (List ℕ)) (P Q : List ℕ → Type 0) → ((bytes : List ℕ) → P bytes → Q bytes)
    → MatchOption found ⊥ P → MatchOption found ⊥ Q
of_found None P Q f h = h
of_found (Some bytes) P Q f h = f bytes h

-- what follows from a fact of the file's bytes
pub OfFile-map : (told : Option Files) (name : List ℕ) (P Q : List ℕ → Type 0) → ((bytes : List ℕ) → P bytes → Q bytes)
    → OfFile told name ⊥ P → OfFile told name ⊥ Q
OfFile-map None name P Q f h = tt
OfFile-map (Some files) name P Q f h = of_found (file files name) P Q f h

both_found : (found : Option (List ℕ)) (P Q : List ℕ → Type 0) → MatchOption found ⊥ P → MatchOption found ⊥ Q
    → MatchOption found ⊥ (λ bytes. P bytes × Q bytes)
both_found None P Q p q = p
both_found (Some bytes) P Q p q = (p, q)

pub OfFile-both : (told : Option Files) (name : List ℕ) (P Q : List ℕ → Type 0) → OfFile told name ⊥ P
    → OfFile told name ⊥ Q → OfFile told name ⊥ (λ bytes. P bytes × Q bytes)
OfFile-both None name P Q p q = tt
OfFile-both (Some files) name P Q p q = both_found (file files name) P Q p q

-- the file has this length and this front
pub record HasFront (size : ℕ) (front bytes : List ℕ) : Type 0 where
  pub size_is : size ≡ length bytes
  pub front_is : front ≡ take (length front) bytes

abbrev pub FrontOfFile : Option Files → List ℕ → ℕ → List ℕ → Type 0
FrontOfFile told name size front = OfFile told name ⊥ (HasFront size front)

pub FrontOfFile-none : (told : Option Files) (name : List ℕ) (size : ℕ)
    → OfFile told name ⊥ (λ bytes. size ≡ length bytes) → FrontOfFile told name size []
FrontOfFile-none told name size = OfFile-map told name _ _ (λ bytes e. record { size_is = e; front_is = refl })

length-more : (front bytes : List ℕ) (wanted n : ℕ) → n ≡ min wanted (length bytes - length front)
    → length (front ++ take n (drop (length front) bytes)) ≡ length front + n
length-more front bytes wanted n count =
    length-append front _
    ∙ ap (λ k. length front + k)
    (length-take-le n (drop (length front) bytes) (omega (arith, count, length-drop (length front) bytes)))

HasFront-more : (size : ℕ) (front bytes : List ℕ) (wanted n : ℕ) → HasFront size front bytes
    → n ≡ min wanted (length bytes - length front) → HasFront size (front ++ take n (drop (length front) bytes)) bytes
HasFront-more size front bytes wanted n h count = record {
  size_is = h.size_is;
  front_is = ap (λ xs. xs ++ take n (drop (length front) bytes)) h.front_is
      ∙ sym (take-add (length front) n bytes)
      ∙ ap (λ k. take k bytes) (sym (length-more front bytes wanted n count));
}

-- and the piece that follows
pub FrontOfFile-more : (told : Option Files) (name : List ℕ) (size : ℕ) (front more : List ℕ) (wanted n : ℕ)
    → FrontOfFile told name size front
    → OfFile told name ⊥ (λ bytes. n ≡ min wanted (length bytes - length front))
    → OfFile told name ⊥ (λ bytes. more ≡ front ++ take n (drop (length front) bytes))
    → FrontOfFile told name size more
FrontOfFile-more told name size front more wanted n h count bytes =
    OfFile-map told name _ _ (λ all w. rw w.1 (HasFront-more size front all wanted n w.0.0 w.0.1))
    (OfFile-both told name _ _ (OfFile-both told name _ _ h count) bytes)

-- a front that is as long as the file
pub FrontOfFile-whole : (told : Option Files) (name : List ℕ) (size : ℕ) (front : List ℕ) → size ≤ length front
    → FrontOfFile told name size front → OfFile told name ⊥ (λ bytes. front ≡ bytes)
FrontOfFile-whole told name size front long =
    OfFile-map told name _ _ (λ bytes h. h.front_is ∙ take_all (length front) bytes (omega (arith, long, h.size_is)))

-- a told file gives no piece that is too short
pub FrontOfFile-short : (told : Option Files) (name : List ℕ) (size : ℕ) (front : List ℕ) (wanted n : ℕ)
    (P : List ℕ → Type 0) → FrontOfFile told name size front
    → OfFile told name ⊥ (λ bytes. n ≡ min wanted (length bytes - length front))
    → wanted ≤ size - length front → n < wanted
    → OfFile told name ⊥ P
FrontOfFile-short told name size front wanted n P h count room short =
    OfFile-map told name _ _ (λ bytes w. absurd (omega (arith, w.0.size_is, w.1, room, short)))
    (OfFile-both told name _ _ h count)

-- one read more, of as much as a piece holds of what is left
pub piece_count-read : (size done more wanted n reads reads' most : ℕ)
    → done < size → wanted ≡ min (size - done) 65536 → wanted ≤ n → more ≡ done + n → reads' ≤ reads + 1
    → reads + piece_count (size - done) ≤ most → reads' + piece_count (size - more) ≤ most
piece_count-read size done more wanted n reads reads' most left wanted_is all grown one bound =
    omega (arith, left, wanted_is, all, grown, one, bound)

of_pieces : (found : Option (List ℕ)) (size before after : ℕ) → after ≤ before + piece_count size
    → MatchOption found ⊥ (λ bytes. size ≡ length bytes)
    → MatchOption found (after ≡ before) (λ bytes. after ≤ before + piece_count (length bytes))
of_pieces None size before after bound absent = absurd absent
of_pieces (Some bytes) size before after bound is = subst (λ n. after ≤ before + piece_count n) is bound

-- the reads of a file, by its pieces
pub OfFile-pieces : (told : Option Files) (name : List ℕ) (size before after : ℕ) → after ≤ before + piece_count size
    → OfFile told name ⊥ (λ bytes. size ≡ length bytes)
    → OfFile told name (after ≡ before) (λ bytes. after ≤ before + piece_count (length bytes))
OfFile-pieces None name size before after bound is = tt
OfFile-pieces (Some files) name size before after bound is = of_pieces (file files name) size before after bound is

of_no_read : (found : Option (List ℕ)) (before after : ℕ) → after ≡ before
    → MatchOption found (after ≡ before) (λ bytes. after ≤ before + piece_count (length bytes))
of_no_read None before after same = same
of_no_read (Some bytes) before after same = omega (arith, same)

-- no read at all
pub OfFile-no_read : (told : Option Files) (name : List ℕ) (before after : ℕ) → after ≡ before
    → OfFile told name (after ≡ before) (λ bytes. after ≤ before + piece_count (length bytes))
OfFile-no_read None name before after same = tt
OfFile-no_read (Some files) name before after same = of_no_read (file files name) before after same
