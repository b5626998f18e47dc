-- What the calls of a shelf make of a disk over two of its files.
use Rattle.std.proofs.Common.{◌≡◌, ◌≢◌, ◌⊎◌, inl, inr, ⊎_elim, ℕ, ◌+◌, ◌<◌, ◌≤◌, List, [], ◌∷◌, ◌++◌, length, take, drop, true, false, is_some, Option, Some, None, Result, Ok, Err, IsSome, IfSome, IsSomeAnd, MatchOption, OnOk, OnErr, IsErrOf, refl, sym, ap, ◌∙◌, subst, arith, length-append, add-zero}
use Rattle.std.proofs.lemmas.Bool.{cases_lt}
use Rattle.std.specs.Prelude.{option_map, ⊤}
use Rattle.std.specs.Result.{IsErr}
use Rattle.std.proofs.lemmas.Result.{IfOk-from_err, on_ok_weaker}
use Rattle.std.proofs.lemmas.List.{drop_all, append-nil, append_assoc, take-append-drop}
use Rattle.mr_outside.specs.Files.{Files, file, with_file, with_change, replaced, grown, overwritten}
use Rattle.mr_outside.specs.Faults.{Rose}
use Rattle.mr_outside.specs.State.{Shelved}
use Rattle.mr_outside.specs.Told.{OfFiles}
use Rattle.mr_outside.specs.Writing.{IsThere, IsChanged, IsChangedPartly}
use Rattle.mr_outside.proofs.Changes.{with_change-found, file-with_file, file-with_other}
use Rattle.mr_journal.specs.declared.disk.Area.{Area}
use Rattle.mr_journal.specs.declared.disk.Area.TheVariants.{Map, Journal}
use Rattle.mr_journal.specs.declared.disk.DiskErr.{DiskErr}
use Rattle.mr_journal.specs.declared.disk.DiskErr.TheVariants.{Fault}
use Rattle.mr_journal.specs.Images.{Image, part, with_part, written, InArea, Unchanged}
use Rattle.mr_journal.specs.Torn.{TornAt}
use Rattle.mr_journal.specs.Moments.{AddsSteps, IsDiskCall, IsDurable}
use Rattle.mr_journal.specs.Shelves.{or_none, bytes_or_none, image_on, disk_state, images_on, KeepsBeside}
use Rattle.mr_journal.specs.private.FileChanges.{name_of, KeepsRest, ChangesFile, WritesFront, AppendsFront, WritesBytes}
use Rattle.mr_journal.proofs.Running.{contents_move}
use Rattle.mr_journal.proofs.Quiet.{some_map}
use Rattle.mr_journal.proofs.Replaying.{written_torn}

-- ---- bytes

pub replaced_none : (at : ℕ) (held : List ℕ) → replaced at [] held ≡ held
replaced_none at held =
    ap (λ (l : List ℕ). l ++ drop (at + 0) held) (append-nil (take at held))
    ∙ ap (λ (n : ℕ). take at held ++ drop n held) (add-zero at)
    ∙ take-append-drop at held

pub replaced_more : (at : ℕ) (front rest held : List ℕ) → (rest ≡ []) ⊎ (at + length front ≡ length held)
    → replaced at (front ++ rest) held ≡ replaced at front held ++ rest
replaced_more at front rest held (inl none) = subst
    (λ (r : List ℕ). replaced at (front ++ r) held ≡ replaced at front held ++ r) (sym none)
    (ap (λ (l : List ℕ). replaced at l held) (append-nil front) ∙ sym (append-nil (replaced at front held)))
replaced_more at front rest held (inr end) =
    ap (λ (l : List ℕ). (take at held ++ (front ++ rest)) ++ l)
    (drop_all (at + length (front ++ rest)) held (omega (arith, end, length-append front rest)))
    ∙ joined (take at held) front rest
    ∙ ap (λ (l : List ℕ). ((take at held ++ front) ++ l) ++ rest)
    (sym (drop_all (at + length front) held (omega (arith, end))))
  where
    joined : (a b c : List ℕ) → (a ++ (b ++ c)) ++ [] ≡ ((a ++ b) ++ []) ++ c
    joined a b c = simp (append-nil, append_assoc)

-- ---- one file

pub turns_same : (name : List ℕ) (told told' : Option Files) → told' ≡ told → ChangesFile name (λ held. held) told told'
turns_same name None told' is = is
turns_same name (Some files) told' is = (files, is, refl, λ q differs. refl)

pub turns_as : (name : List ℕ) (f g : List ℕ → List ℕ) (told told' : Option Files)
    → OfFiles told (λ files. f (bytes_or_none files name) ≡ g (bytes_or_none files name)) → ChangesFile name f
    told told'
    → ChangesFile name g told told'
turns_as name f g None told' same turns = turns
turns_as name f g (Some files) told' same turns = (turns.0, turns.1, turns.2 ∙ same, turns.3)

pub turns_then : (name : List ℕ) (f g : List ℕ → List ℕ) (a b c : Option Files) → ChangesFile name f a b
    → ChangesFile name g b c → ChangesFile name (λ held. g (f held)) a c
turns_then name f g None b c first second = subst (λ (o : Option Files). ChangesFile name g o c) first second
turns_then name f g (Some files) b c first second =
    let then = subst (λ (o : Option Files). ChangesFile name g o c) first.1 second in
    (then.0, then.1, then.2 ∙ ap g first.2, λ q differs. then.3 q differs ∙ first.3 q differs)

pub turns_made : (name : List ℕ) (told told' : Option Files) → OfFiles told (λ files. file files name ≡ None)
    → IsChanged (with_file name) [] told told' → ChangesFile name (λ held. held) told told'
turns_made name None told' absent is = is
turns_made name (Some files) told' absent is = (
  with_file name [] files,
  is,
  ap or_none (file-with_file name [] files) ∙ sym (ap or_none absent),
  λ q differs. file-with_other name [] files q differs,
)

pub made_there : (name : List ℕ) (told told' : Option Files) → IsChanged (with_file name) [] told told'
    → IsThere told' name
made_there name None told' is = subst (λ (o : Option Files). IsThere o name) (sym is) tt
made_there name (Some files) told' is = subst (λ (o : Option Files). IsThere o name) (sym is)
    (subst (λ (o : Option (List ℕ)). MatchOption o ⊥ (λ bytes. ⊤)) (sym (file-with_file name [] files)) tt)

changed_in : (name : List ℕ) (change : List ℕ → List ℕ) (files : Files) (told' : Option Files) (found : Option (List ℕ))
    → file files name ≡ found → MatchOption found ⊥ (λ bytes. ⊤)
    → told' ≡ Some (with_change name change files) → ChangesFile name change (Some files) told' × IsThere told' name
changed_in name change files told' None is there changed = absurd there
changed_in name change files told' (Some held) is there changed =
    let found = with_change-found name change files held is in
    let new = with_file name (change held) files in (
      (
        new,
        changed ∙ ap Some found,
        ap or_none (file-with_file name (change held) files) ∙ ap change (sym (ap or_none is)),
        λ q differs. file-with_other name (change held) files q differs,
      ),
      subst (λ (o : Option Files). IsThere o name) (sym (changed ∙ ap Some found))
          (subst (λ (o : Option (List ℕ)). MatchOption o ⊥ (λ bytes. ⊤))
          (sym (file-with_file name (change held) files)) tt),
    )

-- a file that is there is changed, and is there
pub turns_changed : (name : List ℕ) (change : List ℕ → List ℕ) (told told' : Option Files) → IsThere told name
    → told' ≡ option_map (with_change name change) told → ChangesFile name change told told' × IsThere told' name
turns_changed name change None told' there is = (is, subst (λ (o : Option Files). IsThere o name) (sym is) tt)
turns_changed name change (Some files) told' there is = changed_in name change files told'
    (file files name) refl there is

-- ---- a write

still_held : (name : List ℕ) (at : ℕ) (o : Option Files)
    → OfFiles o (λ files. bytes_or_none files name ≡ replaced at [] (bytes_or_none files name))
still_held name at None = tt
still_held name at (Some files) = sym (replaced_none at (bytes_or_none files name))

-- nothing was written
pub puts_none : (name : List ℕ) (at : ℕ) (bytes : List ℕ) (told told' : Option Files)
    → ChangesFile name (λ held. held) told told' → WritesFront name at bytes told told'
puts_none name at bytes told told' turns = record {
  front = [];
  rest = bytes;
  whole = refl;
  turns = turns_as name (λ held. held) (replaced at []) told told' (still_held name at told) turns;
}

none_of : (bytes : List ℕ) → length bytes ≡ 0 → bytes ≡ []
none_of [] e = refl
none_of (x ∷ xs) e = absurd (omega (arith, e))

pub puts_refused : {A : Type 0} (name : List ℕ) (at : ℕ) (bytes : List ℕ) (told told' : Option Files)
    (r : Result A DiskErr) → IsErr r → WritesFront name at bytes told told' → WritesBytes name at bytes told told' r
puts_refused name at bytes told told' r err front =
    record { done = IfOk-from_err r (λ _. ChangesFile name (replaced at bytes) told told') err; front = front }

pub puts_whole : {A : Type 0} (name : List ℕ) (at : ℕ) (bytes : List ℕ) (told told' : Option Files)
    (r : Result A DiskErr) → ChangesFile name (replaced at bytes) told told' → WritesBytes name at bytes told told' r
puts_whole name at bytes told told' (Ok x) turns =
    record { done = turns; front = record { front = bytes; rest = []; whole = sym (append-nil bytes); turns = turns } }
puts_whole name at bytes told told' (Err e) turns =
    record { done = tt; front = record { front = bytes; rest = []; whole = sym (append-nil bytes); turns = turns } }

pub puts_empty : {A : Type 0} (name : List ℕ) (at : ℕ) (bytes : List ℕ) (told : Option Files) (r : Result A DiskErr)
    → length bytes ≡ 0 → WritesBytes name at bytes told told r
puts_empty name at bytes told r none =
    puts_whole name at bytes told told r
    (subst (λ (l : List ℕ). ChangesFile name (replaced at l) told told) (sym (none_of bytes none))
    (turns_as name (λ held. held) (replaced at []) told told (still_held name at told)
    (turns_same name told told refl)))

-- a write of a file that is there
pub puts_over : {A : Type 0} (name : List ℕ) (at : ℕ) (bytes : List ℕ) (told told' : Option Files) (e : DiskErr)
    → IsThere told name → IsChangedPartly (overwritten name at) bytes told told'
    → WritesBytes {A = A} name at bytes told told' (Err e)
puts_over name at bytes told told' e there partly = record {
  done = tt;
  front = record {
    front = partly.front;
    rest = partly.rest;
    whole = partly.whole;
    turns = (turns_changed name (replaced at partly.front) told told' there partly.changed).0;
  };
}

-- behind a call that changes nothing
pub puts_behind : (name : List ℕ) (at : ℕ) (bytes more : List ℕ) (a b c : Option Files)
    → ChangesFile name (λ held. held) a b → WritesFront name at bytes b c → WritesFront name at (bytes ++ more) a c
puts_behind name at bytes more a b c first second = record {
  front = second.front;
  rest = second.rest ++ more;
  whole = ap (λ (l : List ℕ). l ++ more) second.whole ∙ append_assoc second.front second.rest more;
  turns = turns_then name (λ held. held) (replaced at second.front) a b c first second.turns;
}

grown_none : (name : List ℕ) (told : Option Files) → ChangesFile name (λ held. held ++ []) told told
grown_none name told = turns_as name (λ held. held) (λ held. held ++ []) told told (still told)
    (turns_same name told told refl)
  where
    still : (o : Option Files) → OfFiles o (λ files. bytes_or_none files name ≡ bytes_or_none files name ++ [])
    still None = tt
    still (Some files) = sym (append-nil (bytes_or_none files name))

pub grown_empty : (name bytes : List ℕ) (told : Option Files) → length bytes ≡ 0
    → ChangesFile name (λ held. held ++ bytes) told told
grown_empty name bytes told none = subst (λ (l : List ℕ). ChangesFile name (λ held. held ++ l) told told)
    (sym (none_of bytes none)) (grown_none name told)

pub grows_whole : (name bytes : List ℕ) (told told' : Option Files)
    → ChangesFile name (λ held. held ++ bytes) told told' → AppendsFront name bytes told told'
grows_whole name bytes told told' turns =
    record { front = bytes; rest = []; whole = sym (append-nil bytes); turns = turns }

pub grows_partly : (name bytes : List ℕ) (told told' : Option Files) → IsThere told name
    → IsChangedPartly (grown name) bytes told told' → AppendsFront name bytes told told'
grows_partly name bytes told told' there partly = record {
  front = partly.front;
  rest = partly.rest;
  whole = partly.whole;
  turns = (turns_changed name (λ held. held ++ partly.front) told told' there partly.changed).0;
}

none_front : (a b : List ℕ) → [] ≡ a ++ b → a ≡ []
none_front [] b e = refl
none_front (x ∷ xs) b e = absurd (omega (arith, ap length e, length-append (x ∷ xs) b))

module _ (name : List ℕ) (at : ℕ) (bytes front rest : List ℕ) (a b c : Option Files) (whole : bytes ≡ front ++ rest)
    (end : OfFiles a (λ files. (rest ≡ []) ⊎ (at + length front ≡ length (bytes_or_none files name))))
    (first : ChangesFile name (λ held. held) a b) (second : ChangesFile name (replaced at front) b c) where
  so_far : ChangesFile name (replaced at front) a c
  so_far = turns_then name (λ held. held) (replaced at front) a b c first second

  as_one : (more : List ℕ) (told : Option Files) → ((rest ≡ []) → (more ≡ []))
      → OfFiles told (λ files. (rest ≡ []) ⊎ (at + length front ≡ length (bytes_or_none files name)))
      → OfFiles told (λ files. replaced at front (bytes_or_none files name) ++ more ≡ replaced at (front ++ more)
      (bytes_or_none files name))
  as_one more None none e = tt
  as_one more (Some files) none e = sym (replaced_more at front more (bytes_or_none files name)
      (⊎_elim (λ x. inl (none x)) (λ y. inr y) e))

  grown_on : (more : List ℕ) (d : Option Files) → ((rest ≡ []) → (more ≡ []))
      → ChangesFile name (λ held. held ++ more) c d → ChangesFile name (replaced at (front ++ more)) a d
  grown_on more d none third =
      turns_as name (λ held. replaced at front held ++ more) (replaced at (front ++ more)) a d (as_one more a none end)
      (turns_then name (replaced at front) (λ held. held ++ more) a c d so_far third)

  pub put_all : (d : Option Files) → ChangesFile name (λ held. held ++ rest) c d
      → ChangesFile name (replaced at bytes) a d
  put_all d third = subst (λ (l : List ℕ). ChangesFile name (replaced at l) a d) (sym whole)
      (grown_on rest d (λ e. e) third)

  pub put_some : (d : Option Files) → AppendsFront name rest c d → WritesFront name at bytes a d
  put_some d grows = record {
    front = front ++ grows.front;
    rest = grows.rest;
    whole = whole ∙ ap (λ (l : List ℕ). front ++ l) grows.whole ∙ sym (append_assoc front grows.front grows.rest);
    turns = grown_on grows.front d (λ e. none_front grows.front grows.rest (sym e ∙ grows.whole)) grows.turns;
  }

  pub put_both : {A : Type 0} (r : Result A DiskErr) (d : Option Files)
      → OnOk r (ChangesFile name (λ held. held ++ rest) c d) → AppendsFront name rest c d
      → WritesBytes name at bytes a d r
  put_both r d done grows = record { done = on_ok_weaker r (put_all d) done; front = put_some d grows }

-- ---- what the disk tells

other_part : (name other : List ℕ) (files new : Files) → other ≢ name → KeepsRest name files new
    → bytes_or_none new other ≡ bytes_or_none files other
other_part name other files new differs kept = ap or_none (kept other differs)

pub image_turned : (area : Area) (m j : List ℕ) (change : List ℕ → List ℕ) (files new : Files) → m ≢ j
    → bytes_or_none new (name_of area m j) ≡ change (bytes_or_none files (name_of area m j))
    → KeepsRest (name_of area m j) files new
    → image_on m j new ≡ with_part area (change (part area (image_on m j files))) (image_on m j files)
image_turned Map m j change files new differ is kept =
    λ i. record { map = is i; journal = other_part m j files new (λ e. differ (sym e)) kept i }
image_turned Journal m j change files new differ is kept =
    λ i. record { map = other_part j m files new differ kept i; journal = is i }

pub contents_turned : (area : Area) (m j : List ℕ) (change : List ℕ → List ℕ) (a b : Option Files) → m ≢ j
    → ChangesFile (name_of area m j) change a b
    → option_map (image_on m j) b ≡ option_map (λ (k : Image). with_part area (change (part area k)) k)
    (option_map (image_on m j) a)
contents_turned area m j change None b differ turns = ap (option_map (image_on m j)) turns
contents_turned area m j change (Some files) b differ turns =
    ap (option_map (image_on m j)) turns.1 ∙ ap Some (image_turned area m j change files turns.0 differ turns.2 turns.3)

pub beside_turned : (area : Area) (m j : List ℕ) (change : List ℕ → List ℕ) (a b : Option Files)
    → ChangesFile (name_of area m j) change a b → KeepsBeside m j a b
beside_turned area m j change None b turns = turns
beside_turned Map m j change (Some files) b turns = (turns.0, turns.1, λ q x y. turns.3 q x)
beside_turned Journal m j change (Some files) b turns = (turns.0, turns.1, λ q x y. turns.3 q y)

pub beside_same : (m j : List ℕ) (a b : Option Files) → b ≡ a → KeepsBeside m j a b
beside_same m j None b same = same
beside_same m j (Some files) b same = (files, same, λ q x y. refl)

-- a write that is refused
pub contents_front : (area : Area) (m j : List ℕ) (at : ℕ) (bytes : List ℕ) (a b : Option Files) → m ≢ j
    → WritesFront (name_of area m j) at bytes a b
    → IfSome (option_map (image_on m j) a) (λ k. (x : Image) × (option_map (image_on m j) b ≡ Some x)
    × InArea area (TornAt at (length bytes)) k x)
contents_front area m j at bytes None b differ puts = tt
contents_front area m j at bytes (Some files) b differ puts = (
  written area at puts.front (image_on m j files),
  contents_turned area m j (replaced at puts.front) (Some files) b differ puts.turns,
  written_torn area at (length bytes) puts.front (image_on m j files)
      (omega (arith, ap length puts.whole, length-append puts.front puts.rest)),
)

same_told : (m j : List ℕ) (a b : Option Files) → KeepsBeside m j a b
    → is_some (option_map (image_on m j) b) ≡ is_some (option_map (image_on m j) a)
same_told m j None b kept = ap (λ (o : Option Files). is_some (option_map (image_on m j) o)) kept
same_told m j (Some files) b kept = ap (λ (o : Option Files). is_some (option_map (image_on m j) o)) kept.1

none_some : (k : Image) (o : Option Image) → o ≡ None → o ≡ Some k → ⊥
none_some k o a b = cc

some_same : (k x : Image) (o : Option Image) → o ≡ Some x → o ≡ Some k → x ≡ k
some_same k x o a b = cc

moved_from : (area : Area) (m j : List ℕ) (at : ℕ) (bytes : List ℕ) (a b : Option Files) → m ≢ j
    → WritesFront (name_of area m j) at bytes a b
    → (k : Image) → option_map (image_on m j) b ≡ Some k → (d : Image) × (option_map (image_on m j) a ≡ Some d)
    × InArea area (TornAt at (length bytes)) d k
moved_from area m j at bytes None b differ puts k is = absurd
    (none_some k (option_map (image_on m j) b) (ap (option_map (image_on m j)) puts.turns) is)
moved_from area m j at bytes (Some files) b differ puts k is =
    let x = contents_front area m j at bytes (Some files) b differ puts in (
      image_on m j files,
      refl,
      subst (λ (i : Image). InArea area (TornAt at (length bytes)) (image_on m j files) i)
          (some_same k x.0 _ x.1 is) x.2,
    )

not_true : false ≡ true → ⊥
not_true t = cc

module _ {A : Type 0} (m j : List ℕ) (s u : Shelved) (r : Result A DiskErr) (fault : IsErrOf r Fault
    → Rose s.faults u.faults) (faults : s.faults ≤ u.faults)
    (quiet : IsSome s.files → OnOk r (u.faults ≡ s.faults)) where
  passed : (step : Image → Image → Type 0)
      → AddsSteps (disk_state m j s) (disk_state m j u) (images_on m j s) (images_on m j u) step
      → IsDiskCall (disk_state m j s) (disk_state m j u) (images_on m j s) (images_on m j u) r step
  passed step moves = record {
    moves = moves;
    ticks = record { rises = λ t n. absurd (not_true t); keeps = λ t. absurd (not_true t) };
    causes = record {
      fault = fault;
      faults = faults;
      told = moves.told;
      quiet = λ some. quiet (sym (some_map (image_on m j) s.files) ∙ some);
    };
  }

  pub shelf_wrote : (area : Area) (at : ℕ) (bytes : List ℕ) → m ≢ j
      → WritesFront (name_of area m j) at bytes s.files u.files
      → IsDiskCall (disk_state m j s) (disk_state m j u) (images_on m j s) (images_on m j u) r
      (InArea area (TornAt at (length bytes)))
  shelf_wrote area at bytes differ puts = passed (InArea area (TornAt at (length bytes)))
      (contents_move (disk_state m j s) (disk_state m j u) (InArea area (TornAt at (length bytes))) (omega arith) refl
      (same_told m j s.files u.files (beside_turned area m j (replaced at puts.front) s.files u.files puts.turns))
      (moved_from area m j at bytes s.files u.files differ puts))

  pub shelf_stays : u.files ≡ s.files → IsDiskCall (disk_state m j s) (disk_state m j u) (images_on m j s)
      (images_on m j u) r Unchanged
  shelf_stays same = passed Unchanged
      (contents_move (disk_state m j s) (disk_state m j u) Unchanged (omega arith) refl
      (ap (λ (o : Option Files). is_some (option_map (image_on m j) o)) same)
      (λ k is. (k, ap (option_map (image_on m j)) (sym same) ∙ is, refl)))

pub shelf_durable : (area : Area) (m j : List ℕ) (u : Shelved) → IsDurable area (disk_state m j u) (images_on m j u)
shelf_durable area m j u c is = subst (λ (o : Option Image). IsSomeAnd o (λ k. part area c ≡ part area k)) (sym is) refl

-- ---- a write in its parts

-- where the file is no shorter than the place, what lies behind what overlaps is at its end
pub ends_there : (name : List ℕ) (at within length_ : ℕ) (front rest bytes : List ℕ) (told : Option Files)
    → OfFiles told (λ files. at ≤ length (bytes_or_none files name))
    → OfFiles told (λ files. length_ ≡ length (bytes_or_none files name))
    → (at ≤ length_ → within < length bytes → at + within ≡ length_) → within ≤ length bytes → length front ≡ within
    → bytes ≡ front ++ rest
    → OfFiles told (λ files. (rest ≡ []) ⊎ (at + length front ≡ length (bytes_or_none files name)))
ends_there name at within length_ front rest bytes None le is end few long whole = tt
ends_there name at within length_ front rest bytes (Some files) le is end few long whole = elim
    (cases_lt within (length bytes)) [
      | inl lt ↦ inr (omega (arith, long, is, end (omega (arith, le, is)) lt))
      | inr ge ↦ inl (none_of rest (omega (arith, ge, few, long, ap length whole, length-append front rest)))
    ]

-- what was so before a call that changes nothing
pub kept_length : (name : List ℕ) (P : ℕ → Type 0) (told told' : Option Files)
    → ChangesFile name (λ held. held) told told' → OfFiles told (λ files. P (length (bytes_or_none files name)))
    → OfFiles told' (λ files. P (length (bytes_or_none files name)))
kept_length name P None told' turns p = subst
    (λ (o : Option Files). OfFiles o (λ files. P (length (bytes_or_none files name)))) (sym turns) tt
kept_length name P (Some files) told' turns p = subst
    (λ (o : Option Files). OfFiles o (λ files. P (length (bytes_or_none files name)))) (sym turns.1)
    (subst P (ap length (sym turns.2)) p)

pub has_room : (name : List ℕ) (at within : ℕ) (length_ : ℕ) (front : List ℕ) (told told' : Option Files)
    → ChangesFile name (λ held. held) told told' → OfFiles told (λ files. at ≤ length (bytes_or_none files name))
    → OfFiles told (λ files. length_ ≡ length (bytes_or_none files name)) → (at ≤ length_ → at + within ≤ length_)
    → length front ≡ within → OfFiles told' (λ files. at + length front ≤ length (bytes_or_none files name))
has_room name at within length_ front told told' turns le is room long = kept_length name (λ n. at + length front ≤ n)
    told told' turns (fits told le is)
  where
    fits : (o : Option Files) → OfFiles o (λ files. at ≤ length (bytes_or_none files name))
        → OfFiles o (λ files. length_ ≡ length (bytes_or_none files name))
        → OfFiles o (λ files. at + length front ≤ length (bytes_or_none files name))
    fits None x y = tt
    fits (Some files) x y = omega (arith, long, y, room (omega (arith, x, y)))

-- ---- under the name of an area

pub wrote_kept : (area : Area) (m j name : List ℕ) (at : ℕ) (bytes : List ℕ) (a b : Option Files)
    → name ≡ name_of area m j → WritesFront name at bytes a b → KeepsBeside m j a b
wrote_kept area m j name at bytes a b is puts = beside_turned area m j (replaced at puts.front) a b
    (subst (λ (n : List ℕ). ChangesFile n (replaced at puts.front) a b) is puts.turns)

pub under : (area : Area) (m j name : List ℕ) (at : ℕ) (bytes : List ℕ) (a b : Option Files) → name ≡ name_of area m j
    → WritesFront name at bytes a b → WritesFront (name_of area m j) at bytes a b
under area m j name at bytes a b is puts = subst (λ (n : List ℕ). WritesFront n at bytes a b) is puts

pub refused_under : {A : Type 0} (area : Area) (m j name : List ℕ) (at : ℕ) (bytes : List ℕ) (a b : Option Files)
    (r : Result A DiskErr) → m ≢ j → name ≡ name_of area m j → WritesFront name at bytes a b
    → OnErr r (IfSome (option_map (image_on m j) a) (λ k. (x : Image) × (option_map (image_on m j) b ≡ Some x)
    × InArea area (TornAt at (length bytes)) k x))
refused_under area m j name at bytes a b (Ok v) differ is puts = tt
refused_under area m j name at bytes a b (Err e) differ is puts = contents_front area m j at bytes a b differ
    (under area m j name at bytes a b is puts)

pub written_under : {A : Type 0} (area : Area) (m j name : List ℕ) (at : ℕ) (bytes : List ℕ) (a b : Option Files)
    (r : Result A DiskErr) → m ≢ j → name ≡ name_of area m j → OnOk r (ChangesFile name (replaced at bytes) a b)
    → OnOk r (option_map (image_on m j) b ≡ option_map (written area at bytes) (option_map (image_on m j) a))
written_under area m j name at bytes a b r differ is done =
    on_ok_weaker r (λ turns. contents_turned area m j (replaced at bytes) a b differ
    (subst (λ (n : List ℕ). ChangesFile n (replaced at bytes) a b) is turns)) done
