-- A file that is made by one call after another, and what a refused one leaves.
use Rattle.std.proofs.Common.{◌≡◌, ◌≤◌, ◌+◌, ℕ, List, [], ◌++◌, length, take, drop, replicate, refl, sym, ap, subst, ◌∙◌, append-nil, append_assoc, length-append, arith, inl, inr}
use Rattle.std.specs.Prelude.{Option, Some, None, MatchOption, MatchResult, IsErrAnd, ⊤, Result, Ok, Err, OnOk}
use Rattle.std.proofs.lemmas.List.{length-drop, length-replicate, length-take-le, take_at}
use Rattle.std.proofs.lemmas.Result.{err_from_is_err_and}
use Rattle.mr_outside.specs.Faults.{Rose}
use Rattle.mr_outside.specs.Files.{Files, file, with_file, grown, replaced, overwritten}
use Rattle.mr_outside.specs.State.{Shelved}
use Rattle.mr_outside.specs.Told.{MayMiss, OfFile}
use Rattle.mr_outside.specs.Causes.{ShelfCauses}
use Rattle.mr_outside.specs.Writing.{IsChanged, IsChangedPartly, WritesOrFront}
use Rattle.mr_outside.specs.declared.shelf.ShelfErr.{ShelfErr}
use Rattle.mr_outside.specs.declared.shelf.ShelfErr.TheVariants as shelf
use Rattle.mr_outside.proofs.Changes.{IsChanged-grown, IsChanged-overwritten, file-with_file, with_file-same, overwritten-none}
use Rattle.mr_pages.specs.Saved.{LeavesFile, SaveCauses}
use Rattle.mr_pages.specs.Making.{IsBegun, HasMade, GivesUpFile}

-- ---- causes

there : (name held : List ℕ) (files : Files) → file (with_file name held files) name ≡ None → ⊥
there name held files e = no (sym (file-with_file name held files) ∙ e)
  where
    no : ◌≡◌ {A = Option (List ℕ)} (Some held) None → ⊥
    no q = cc

miss_rose : (name held : List ℕ) (before between : Option Files) (n m : ℕ) →
    IsChanged (with_file name) held before between →
    MayMiss between name n m → Rose n m
miss_rose name held None between n m put miss = subst (λ o. MayMiss o name n m) put miss
miss_rose name held (Some files) between n m put miss =
    absurd (there name held files (subst (λ o. MayMiss o name n m) put miss))

miss_untold : (name held : List ℕ) (before between : Option Files) (n m : ℕ) →
    IsChanged (with_file name) held before between →
    MayMiss between name n m → before ≡ None
miss_untold name held None between n m put miss = refl
miss_untold name held (Some files) between n m put miss =
    absurd (there name held files (subst (λ o. MayMiss o name n m) put miss))

-- what changes a file tells no more and no less
changed_untold : (f : List ℕ → Files → Files) (bytes : List ℕ) (before between : Option Files) →
    IsChanged f bytes before between → between ≡ None → before ≡ None
changed_untold f bytes None between put none = refl
changed_untold f bytes (Some files) between put none = absurd (no (sym put ∙ none))
  where
    no : ◌≡◌ {A = Option Files} (Some (f bytes files)) None → ⊥
    no q = cc

-- a call on a file that was made before
pub causes_there : {A : Type 0} (name held : List ℕ) (before between after : Shelved) (result : Result A ShelfErr) →
    IsChanged (with_file name) held before.files between.files → between.faults ≡ before.faults →
    ShelfCauses name between after result → SaveCauses before after result
causes_there name held before between after result put quiet c = record {
  missing = λ e. subst (λ n. Rose n after.faults) quiet
      (miss_rose name held before.files between.files between.faults after.faults put (c.missing e));
  untold = λ e. miss_untold name held before.files between.files between.faults after.faults put (c.missing e);
  fault = λ e. subst (λ n. Rose n after.faults) quiet (c.fault e);
  faults = omega (arith, quiet, c.faults);
  quiet = subst (λ n. OnOk result (after.faults ≡ n)) quiet c.quiet;
}

-- a call that began when no fault was counted
pub causes_from : {A : Type 0} (name held : List ℕ) (before between after : Shelved) (result : Result A ShelfErr) →
    IsChanged (with_file name) held before.files between.files →
    between.faults ≡ before.faults → SaveCauses between after result → SaveCauses before after result
causes_from name held before between after result put quiet c = record {
  missing = λ e. subst (λ n. Rose n after.faults) quiet (c.missing e);
  untold = λ e. changed_untold (with_file name) held before.files between.files put (c.untold e);
  fault = λ e. subst (λ n. Rose n after.faults) quiet (c.fault e);
  faults = omega (arith, quiet, c.faults);
  quiet = subst (λ n. OnOk result (after.faults ≡ n)) quiet c.quiet;
}

err_same : {A : Type 0} (e f : ShelfErr) → ◌≡◌ {A = Result A ShelfErr} (Err e) (Err f) → e ≡ f
err_same e f q = cc

-- what was given up
pub causes_given_up : {A : Type 0} (size : ℕ) (name : List ℕ) (before after : Shelved) (e : ShelfErr) →
    GivesUpFile size name before after e → SaveCauses {A = A} before after (Err e)
causes_given_up {A = A} size name before after e u = record {
  missing = λ q. u.missing (err_same {A = A} e shelf.Missing q);
  untold = λ q. u.untold (err_same {A = A} e shelf.Missing q);
  fault = λ q. u.fault (err_same {A = A} e shelf.Fault q);
  faults = u.faults;
  quiet = tt;
}

-- no memory was left
pub causes_no_memory : {A : Type 0} (before now : Shelved) → now.faults ≡ before.faults →
    SaveCauses {A = A} before now (Err shelf.NoMemory)
causes_no_memory {A = A} before now same = record {
  missing = λ q. absurd (no (err_same {A = A} shelf.NoMemory shelf.Missing q));
  untold = λ q. absurd (no (err_same {A = A} shelf.NoMemory shelf.Missing q));
  fault = λ q. absurd (no_fault (err_same {A = A} shelf.NoMemory shelf.Fault q));
  faults = omega (arith, same);
  quiet = tt;
}
  where
    no : ◌≡◌ {A = ShelfErr} shelf.NoMemory shelf.Missing → ⊥
    no q = cc

    no_fault : ◌≡◌ {A = ShelfErr} shelf.NoMemory shelf.Fault → ⊥
    no_fault q = cc

-- the same causes, whatever is answered on Ok
pub causes_kept : {A B : Type 0} (before after : Shelved) (e : ShelfErr) → SaveCauses {A = A} before after (Err e) →
    SaveCauses {A = B} before after (Err e)
causes_kept {B = B} before after e c = record {
  missing = λ q. c.missing (ap Err (err_same {A = B} e shelf.Missing q));
  untold = λ q. c.untold (ap Err (err_same {A = B} e shelf.Missing q));
  fault = λ q. c.fault (ap Err (err_same {A = B} e shelf.Fault q));
  faults = c.faults;
  quiet = tt;
}

pub causes_done : {A B : Type 0} (before after : Shelved) (a : A) (b : B) → SaveCauses before after (Ok a) →
    SaveCauses before after (Ok b)
causes_done before after a b c = record {
  missing = λ q. cc;
  untold = λ q. cc;
  fault = λ q. cc;
  faults = c.faults;
  quiet = c.quiet;
}

-- it is handed on
pub failed : {A : Type 0} (r : Result A ShelfErr) (e : ShelfErr) (before after : Shelved) → IsErrAnd r (λ f. f ≡ e) →
    SaveCauses {A = A} before after (Err e) → SaveCauses before after r
failed {A = A} r e before after is c =
    let p = err_from_is_err_and r is in
    subst (λ (q : Result A ShelfErr). SaveCauses before after q) (sym (p.1 ∙ ap Err p.2)) c

pub on_ok : {A E P : Type 0} (r : Result A E) → P → OnOk r P
on_ok (Ok a) p = p
on_ok (Err e) p = tt

-- ---- bytes with zeros for page 0

pub begun_all : (size : ℕ) (behind bytes : List ℕ) → bytes ≡ replicate size 0 ++ behind → IsBegun size bytes
begun_all size behind bytes is = (behind, [], sym is ∙ sym (append-nil bytes))

begun_front : (size : ℕ) (behind bytes front rest : List ℕ) → bytes ≡ replicate size 0 ++ behind →
    bytes ≡ front ++ rest → IsBegun size front
begun_front size behind bytes front rest is whole = (behind, rest, sym is ∙ whole)

begun_more : (size : ℕ) (behind held more : List ℕ) → held ≡ replicate size 0 ++ behind → IsBegun size (held ++ more)
begun_more size behind held more is =
    begun_all size (behind ++ more) (held ++ more)
    (ap (λ bs. bs ++ more) is ∙ append_assoc (replicate size 0) behind more)

-- ---- the file is made

-- a call that was refused and left the files as this
gives_up : {A : Type 0} (size : ℕ) (name : List ℕ) (before after : Shelved) (e : ShelfErr) →
    LeavesFile (IsBegun size) name before.files after.files → SaveCauses {A = A} before after (Err e) →
    after.reads ≡ before.reads → GivesUpFile size name before after e
gives_up size name before after e left c reads = record {
  left = left;
  missing = λ q. c.missing (ap Err q);
  untold = λ q. c.untold (ap Err q);
  fault = λ q. c.fault (ap Err q);
  faults = c.faults;
  reads = reads;
}

-- it is handed on
pub given_up : {A : Type 0} (r : Result A ShelfErr) (P : A → Type 0) (e : ShelfErr) (size : ℕ) (name : List ℕ)
    (before after : Shelved) → IsErrAnd r (λ f. f ≡ e) → GivesUpFile size name before after e →
    MatchResult r P (GivesUpFile size name before after)
given_up r P e size name before after is u =
    let p = err_from_is_err_and r is in
    subst (λ q. MatchResult q P (GivesUpFile size name before after)) (sym (p.1 ∙ ap Err p.2)) u

-- there was no memory before the first call
pub none_begun : (size : ℕ) (name : List ℕ) (now : Shelved) → GivesUpFile size name now now shelf.NoMemory
none_begun size name now =
    gives_up {A = Unit {0}} size name now now shelf.NoMemory (inl refl) (causes_no_memory now now refl) refl

-- nor was there any between two
pub no_memory : (size : ℕ) (name held behind : List ℕ) (before now : Shelved) →
    HasMade name held before now → held ≡ replicate size 0 ++ behind → GivesUpFile size name before now shelf.NoMemory
no_memory size name held behind before now made is =
    gives_up {A = Unit {0}} size name before now shelf.NoMemory
    (inr (held, begun_all size behind held is, made.files)) (causes_no_memory before now made.faults) made.reads

-- nor behind what had grown
pub no_memory_more : (size : ℕ) (name held behind more : List ℕ) (before now : Shelved) →
    HasMade name (held ++ more) before now → held ≡ replicate size 0 ++ behind →
    GivesUpFile size name before now shelf.NoMemory
no_memory_more size name held behind more before now made is =
    no_memory size name (held ++ more) (behind ++ more) before now made
    (ap (λ bs. bs ++ more) is ∙ append_assoc (replicate size 0) behind more)

pub not_created : {A : Type 0} (size : ℕ) (name : List ℕ) (before after : Shelved) (e : ShelfErr) →
    after.files ≡ before.files → (◌≡◌ {A = Result A ShelfErr} (Err e) (Err shelf.Missing) → before.files ≡ None) →
    ShelfCauses {A = A} name before after (Err e) →
    after.reads ≡ before.reads → GivesUpFile size name before after e
not_created {A = A} size name before after e same never c reads =
    gives_up {A = A} size name before after e (inl same)
    (record {
      missing = λ q. subst (λ o. MayMiss o name before.faults after.faults) (never q) (c.missing q);
      untold = never;
      fault = c.fault;
      faults = c.faults;
      quiet = tt;
    }) reads

module _ (size : ℕ) (name bytes behind : List ℕ) (is : bytes ≡ replicate size 0 ++ behind)
    (before made : Shelved) (create : IsChanged (with_file name) [] before.files made.files)
    (quiet : made.faults ≡ before.faults) (reads : made.reads ≡ before.reads) where
  -- the first bytes were appended in part
  pub not_begun : {A : Type 0} (after : Shelved) (e : ShelfErr) →
      WritesOrFront {A = A} (grown name) bytes made after (Err e) → ShelfCauses {A = A} name made after (Err e) →
      GivesUpFile size name before after e
  not_begun {A = A} after e w c =
      gives_up {A = A} size name before after e
      (inr (
        w.front.front,
        begun_front size behind bytes w.front.front w.front.rest is w.front.whole,
        IsChanged-grown name [] w.front.front before.files made.files after.files create w.front.changed,
      ))
      (causes_there name [] before made after (Err e) create quiet c) (w.reads ∙ reads)

  begun : (after : Shelved) → IsChanged (grown name) bytes made.files after.files →
      after.faults ≡ made.faults → after.reads ≡ made.reads → HasMade name bytes before after
  begun after put still same = record {
    files = IsChanged-grown name [] bytes before.files made.files after.files create put;
    faults = still ∙ quiet;
    reads = same ∙ reads;
  }

  pub begun_or_not : {A : Type 0} (after : Shelved) (r : Result A ShelfErr) →
      WritesOrFront {A = A} (grown name) bytes made after r →
      ShelfCauses {A = A} name made after r →
      MatchResult r (λ done. HasMade name bytes before after) (GivesUpFile size name before after)
  begun_or_not after (Ok done) w c = begun after w.whole c.quiet w.reads
  begun_or_not after (Err e) w c = not_begun after e w c

module _ (size : ℕ) (name held behind : List ℕ) (is : held ≡ replicate size 0 ++ behind)
    (before now : Shelved) (made : HasMade name held before now) where
  -- more bytes were appended in part
  pub not_grown : {A : Type 0} (more : List ℕ) (after : Shelved) (e : ShelfErr) →
      WritesOrFront {A = A} (grown name) more now after (Err e) → ShelfCauses {A = A} name now after (Err e) →
      GivesUpFile size name before after e
  not_grown {A = A} more after e w c =
      gives_up {A = A} size name before after e
      (inr (
        held ++ w.front.front,
        begun_more size behind held w.front.front is,
        IsChanged-grown name held w.front.front before.files now.files after.files made.files w.front.changed,
      ))
      (causes_there name held before now after (Err e) made.files made.faults c) (w.reads ∙ made.reads)

  -- bytes behind page 0 were written over in part
  pub not_put : {A : Type 0} (more : List ℕ) (after : Shelved) (e : ShelfErr) →
      WritesOrFront {A = A} (overwritten name size) more now after (Err e) → ShelfCauses {A = A} name now after
      (Err e) →
      GivesUpFile size name before after e
  not_put {A = A} more after e w c =
      let front = w.front.front in
      let zeros : List ℕ = replicate size 0 in
      let first : take size held ≡ zeros =
      ap (take size) is ∙ take_at zeros behind size (length-replicate {A = ℕ} size 0) in
      gives_up {A = A} size name before after e
      (inr (
        replaced size front held,
        begun_all size (front ++ drop (size + length front) held) (replaced size front held)
            (ap (λ bs. (bs ++ front) ++ drop (size + length front) held) first
            ∙ append_assoc zeros front (drop (size + length front) held)),
        IsChanged-overwritten name size held front before.files now.files after.files made.files w.front.changed,
      ))
      (causes_there name held before now after (Err e) made.files made.faults c) (w.reads ∙ made.reads)

pub has_put : (name held more : List ℕ) (at : ℕ) (before now after : Shelved) → HasMade name held before now →
    IsChanged (overwritten name at) more now.files after.files → after.faults ≡ now.faults → after.reads ≡ now.reads →
    HasMade name (replaced at more held) before after
has_put name held more at before now after made put still same = record {
  files = IsChanged-overwritten name at held more before.files now.files after.files made.files put;
  faults = still ∙ made.faults;
  reads = same ∙ made.reads;
}

pub length_replaced : (n : ℕ) (front held : List ℕ) → n + length front ≤ length held →
    length (replaced n front held) ≡ length held
length_replaced n front held room =
    omega (
      arith,
      length-append (take n held ++ front) (drop (n + length front) held),
      length-append (take n held) front,
      length-take-le n held (omega (arith, room)),
      length-drop (n + length front) held,
      room,
    )

pub has_grown : (name held more : List ℕ) (before now after : Shelved) → HasMade name held before now →
    IsChanged (grown name) more now.files after.files → after.faults ≡ now.faults → after.reads ≡ now.reads →
    HasMade name (held ++ more) before after
has_grown name held more before now after made put still same = record {
  files = IsChanged-grown name held more before.files now.files after.files made.files put;
  faults = still ∙ made.faults;
  reads = same ∙ made.reads;
}

-- ---- a file that is there

untouched_at : (found : Option (List ℕ)) (name : List ℕ) (files : Files) (P : List ℕ → Type 0) →
    file files name ≡ found → MatchOption found ⊥ P → (held : List ℕ) × (with_file name held files ≡ files)
untouched_at None name files P e p = absurd p
untouched_at (Some held) name files P e p = (held, with_file-same name held files e)

-- it is as if it had just been made
pub untouched : (told : Option Files) (name : List ℕ) (P : List ℕ → Type 0) → OfFile told name ⊥ P →
    (held : List ℕ) × IsChanged (with_file name) held told told
untouched None name P p = ([], refl)
untouched (Some files) name P p =
    let u = untouched_at (file files name) name files P refl p in
    (u.0, ap Some (sym u.1))

room_at : (found : Option (List ℕ)) (P Q : List ℕ → Type 0) → ((bytes : List ℕ) → P bytes → Q bytes) →
    MatchOption found ⊥ P → MatchOption found ⊤ Q
room_at None P Q f p = tt
room_at (Some bytes) P Q f p = f bytes p

-- there is room in it
pub room_there : (told now : Option Files) (name : List ℕ) (P Q : List ℕ → Type 0) →
    ((bytes : List ℕ) → P bytes → Q bytes) → now ≡ told → OfFile told name ⊥ P → OfFile now name ⊤ Q
room_there told now name P Q f same p = subst (λ o. OfFile o name ⊤ Q) (sym same) (at told p)
  where
    at : (told : Option Files) → OfFile told name ⊥ P → OfFile told name ⊤ Q
    at None p = tt
    at (Some files) p = room_at (file files name) P Q f p

-- nothing was written over
pub not_over : (name bytes : List ℕ) (at : ℕ) (before after : Option Files) → after ≡ before →
    IsChangedPartly (overwritten name at) bytes before after
not_over name bytes at before after same =
    record { front = []; rest = bytes; whole = refl; changed = same ∙ none before }
  where
    none : (told : Option Files) → IsChanged (overwritten name at) [] told told
    none None = refl
    none (Some files) = ap Some (sym (overwritten-none name at files))

pub over_whole : (name bytes : List ℕ) (at : ℕ) (before after : Option Files) →
    IsChanged (overwritten name at) bytes before after → IsChangedPartly (overwritten name at) bytes before after
over_whole name bytes at before after put =
    record { front = bytes; rest = []; whole = sym (append-nil bytes); changed = put }
