-- A copy of a file, piece by piece.
use Rattle.std.proofs.Common.{◌≡◌, ◌≢◌, ℕ, ◌+◌, ◌-◌, ◌*◌, ◌≤◌, List, [], ◌++◌, length, take, drop, inl, inr, refl, sym, ap, subst, ◌∙◌, append_assoc, append-nil, arith}
use Rattle.std.specs.Prelude.{Option, Some, None, option_map, IsSome, IsErrOf, MatchOption, Ok, Err}
use Rattle.std.proofs.lemmas.List.{drop-drop}
use Rattle.std.proofs.Math.Seq.{take-add}
use Rattle.mr_outside.specs.Faults.{Rose, next_count}
use Rattle.mr_outside.specs.Files.{Files, with_file, grown}
use Rattle.mr_outside.specs.State.{Shelved}
use Rattle.mr_outside.specs.Told.{OfFile, MayMiss}
use Rattle.mr_outside.specs.Causes.{ShelfCauses, CountsRead}
use Rattle.mr_outside.specs.Writing.{IsChanged, IsChangedPartly}
use Rattle.mr_outside.specs.declared.shelf.ShelfErr.{ShelfErr}
use Rattle.mr_outside.specs.declared.shelf.ShelfErr.TheVariants as shelf
use Rattle.mr_outside.proofs.Changes.{IsChanged-grown, file-with_file, file-with_other}
use Rattle.mr_pages.specs.Page.{Form}
use Rattle.mr_pages.specs.Source.{told_bytes}
use Rattle.mr_draft.specs.Sheets.{zeros, HasMadeEmpty, WasRead, HasCopied, CopyStops, IsFiled}
use Rattle.mr_edit.specs.Shelves.{HasShelfCause, of_shelf, of_made}
use Rattle.mr_edit.specs.declared.error.EditErr.{EditErr}
use Rattle.mr_edit.specs.declared.error.EditErr.TheVariants as errors
use Rattle.mr_draft.proofs.Filed.{shelf_cause}
use Rattle.mr_draft.proofs.Sizes.{no_pages, pages_behind, pages_most, pages_sum}

-- ---- files of which one was set

pub set_there : (name bytes : List ℕ) (before after : Option Files) → IsChanged (with_file name) bytes before after →
    IsFiled after name
set_there name bytes None after put = subst (λ o. IsFiled o name) (sym put) tt
set_there name bytes (Some files) after put =
    subst (λ o. IsFiled o name) (sym put)
    (subst (IsSome {T = List ℕ}) (sym (file-with_file name bytes files)) refl)

set_other : (old name bytes : List ℕ) (told : Option Files) → old ≢ name →
    told_bytes (option_map (with_file name bytes) told) old ≡ told_bytes told old
set_other old name bytes None differ = refl
set_other old name bytes (Some files) differ = file-with_other name bytes files old differ

pub other_bytes : (old name bytes : List ℕ) (before after : Option Files) → old ≢ name →
    IsChanged (with_file name) bytes before after → told_bytes after old ≡ told_bytes before old
other_bytes old name bytes before after differ put = ap (λ o. told_bytes o old) put
    ∙ set_other old name bytes before differ

other_filed : (old name bytes : List ℕ) (told : Option Files) → old ≢ name → IsFiled told old →
    IsFiled (option_map (with_file name bytes) told) old
other_filed old name bytes None differ there = tt
other_filed old name bytes (Some files) differ there =
    subst (IsSome {T = List ℕ}) (sym (file-with_other name bytes files old differ)) there

pub other_there : (old name bytes : List ℕ) (before after : Option Files) → old ≢ name →
    IsChanged (with_file name) bytes before after → IsFiled before old → IsFiled after old
other_there old name bytes before after differ put there =
    subst (λ o. IsFiled o old) (sym put) (other_filed old name bytes before differ there)

pub of_bytes : (told : Option Files) (name bytes : List ℕ) (P : List ℕ → Type 0) → told_bytes told name ≡ Some bytes →
    OfFile told name ⊥ P → P bytes
of_bytes None name bytes P e h = let no : ◌≡◌ {A = Option (List ℕ)} None (Some bytes) = e in absurd cc
of_bytes (Some files) name bytes P e h = subst (λ o. MatchOption o ⊥ P) e h

none_before : (name bytes : List ℕ) (before after : Option Files) → IsChanged (with_file name) bytes before after →
    after ≡ None → before ≡ None
none_before name bytes None after put none = refl
none_before name bytes (Some files) after put none =
    let no : ◌≡◌ {A = Option Files} (Some (with_file name bytes files)) None = sym put ∙ none in absurd cc

-- ---- why a call is refused

-- a file that is there is missing only where no file is told
not_told : {A : Type 0} (name : List ℕ) (before after : Shelved) (e : ShelfErr) (r : EditErr) →
    IsFiled before.files name → ShelfCauses {A = A} name before after (Err e) → r ≡ of_shelf e → r ≡ errors.Missing →
    before.files ≡ None
not_told name before after shelf.Missing r there c is missing = at before.files refl there (c.missing refl)
  where
    at : (o : Option Files) → before.files ≡ o → IsFiled o name → MayMiss o name before.faults after.faults →
        before.files ≡ None
    at None found there miss = found
    at (Some files) found there miss =
        let none : IsSome {T = List ℕ} None = subst (IsSome {T = List ℕ}) miss there in absurd cc
not_told name before after shelf.Fault r there c is missing =
    let no : ◌≡◌ {A = EditErr} errors.Fault errors.Missing = sym is ∙ missing in absurd cc
not_told name before after shelf.NoMemory r there c is missing =
    let no : ◌≡◌ {A = EditErr} errors.NoMemory errors.Missing = sym is ∙ missing in absurd cc

-- the file that is made is never said to be missing
not_missing : (e : ShelfErr) (r : EditErr) → r ≡ of_made e → r ≡ errors.Missing → ⊥
not_missing shelf.Missing r is missing =
    let no : ◌≡◌ {A = EditErr} errors.Fault errors.Missing = sym is ∙ missing in cc
not_missing shelf.Fault r is missing =
    let no : ◌≡◌ {A = EditErr} errors.Fault errors.Missing = sym is ∙ missing in cc
not_missing shelf.NoMemory r is missing =
    let no : ◌≡◌ {A = EditErr} errors.NoMemory errors.Missing = sym is ∙ missing in cc

made_cause : {A : Type 0} (name : List ℕ) (before after : Shelved) (e : ShelfErr) (r : EditErr) →
    IsFiled before.files name → ShelfCauses {A = A} name before after (Err e) → r ≡ of_made e →
    HasShelfCause before.faults after.faults r
made_cause name before after shelf.Missing r there c is =
    subst (HasShelfCause before.faults after.faults) (sym is)
    (shelf_cause name before after shelf.Missing errors.Missing there c refl)
made_cause name before after shelf.Fault r there c is = shelf_cause name before after shelf.Fault r there c is
made_cause name before after shelf.NoMemory r there c is = shelf_cause name before after shelf.NoMemory r there c is

-- ---- the first page

create_rose : (told : Option Files) (name : List ℕ) (a b : ℕ) → told ≡ None → MayMiss told name a b → Rose a b
create_rose told name a b none miss = subst (λ o. MayMiss o name a b) none miss

pub create_stops : {A : Type 0} (form : Form) (new : List ℕ) (pages : ℕ) (s b : Shelved) (e : ShelfErr) (r : EditErr) →
    (IsErrOf {T = A} (Err e) shelf.Missing → s.files ≡ None) → b.files ≡ s.files → b.reads ≡ s.reads →
    ShelfCauses {A = A} new s b (Err e) → r ≡ of_made e → CopyStops form new pages s b r
create_stops {A = A} form new pages s b e r never files reads c is = record {
  left = inl files;
  cause = at e c never is;
  untold = λ missing. absurd (not_missing e r is missing);
  later = c.faults;
  more = omega (arith, reads);
  few = omega (arith, reads);
}
  where
    at : (e : ShelfErr) → ShelfCauses {A = A} new s b (Err e) → (IsErrOf {T = A} (Err e) shelf.Missing →
        s.files ≡ None) →
        r ≡ of_made e → HasShelfCause s.faults b.faults r
    at shelf.Missing c never is =
        subst (HasShelfCause s.faults b.faults) (sym is)
        (create_rose s.files new s.faults b.faults (never refl) (c.missing refl))
    at shelf.Fault c never is = subst (HasShelfCause s.faults b.faults) (sym is) (c.fault refl)
    at shelf.NoMemory c never is = subst (HasShelfCause s.faults b.faults) (sym is) tt

module _ (form : Form) (new : List ℕ) (pages : ℕ) (page : List ℕ) (zero_page : page ≡ zeros form.size)
    (s a b : Shelved) (made : HasMadeEmpty new s a) (same : b.reads ≡ a.reads) where
  pub first_copied : (old : List ℕ) → b.faults ≡ a.faults → IsChanged (grown new) page a.files b.files →
      HasCopied form old new pages 1 s b
  first_copied old quiet put = record {
    some = omega arith;
    nodes = [];
    files = subst (λ bytes. IsChanged (with_file new) bytes s.files b.files)
        (zero_page ∙ sym (append-nil (zeros form.size))) (IsChanged-grown new [] page s.files a.files b.files made.files
        put);
    so_far = λ bytes told whole. sym (ap (λ k. take k (drop form.size bytes)) (no_pages form.size));
    quiet = quiet ∙ made.quiet;
    more = omega (arith, same, made.reads);
    few = omega (arith, same, made.reads);
  }

  pub first_stops : {A : Type 0} (e : ShelfErr) (r : EditErr) → IsChangedPartly (grown new) page a.files b.files →
      ShelfCauses {A = A} new a b (Err e) → r ≡ of_made e → CopyStops form new pages s b r
  first_stops e r p c is = record {
    left = inr (
      p.front,
      ([], p.rest, append-nil (zeros form.size) ∙ sym zero_page ∙ p.whole),
      IsChanged-grown new [] p.front s.files a.files b.files made.files p.changed,
    );
    cause = subst (λ n. HasShelfCause n b.faults r) made.quiet
        (made_cause new a b e r (set_there new [] s.files a.files made.files) c is);
    untold = λ missing. absurd (not_missing e r is missing);
    later = omega (arith, c.faults, made.quiet);
    more = omega (arith, same, made.reads);
    few = omega (arith, same, made.reads);
  }

-- ---- a piece

read_few : (a b : ℕ) → b ≡ next_count a → (a ≤ b) × (b ≤ a + 1)
read_few a b e = (omega (arith, e), omega (arith, e))

module _ (form : Form) (old new : List ℕ) (pages page count : ℕ) (s a : Shelved) (differ : old ≢ new)
    (within : page + count ≤ pages) (h : HasCopied form old new pages page s a) where
  pub was_read : {A : Type 0} (x : A) (b : Shelved) (piece : List ℕ) → length piece ≡ count * form.size →
      b.files ≡ a.files →
      b.faults ≡ a.faults → CountsRead a b (Ok x) →
      OfFile a.files old ⊥ (λ file. page * form.size + count * form.size ≤ length file →
      piece ≡ take (count * form.size) (drop (page * form.size) file)) → WasRead form old new pages page piece s b
  was_read x b piece size files quiet reads filled =
      let one = read_few a.reads b.reads reads.answered in
      record {
        some = h.some;
        nodes = h.nodes;
        files = files ∙ h.files;
        so_far = λ bytes told whole.
            let there : told_bytes a.files old ≡ Some bytes =
            other_bytes old new (zeros form.size ++ h.nodes) s.files a.files differ h.files ∙ told in
            let part : piece ≡ take (count * form.size) (drop (page * form.size) bytes) =
            of_bytes a.files old bytes (λ file. page * form.size + count * form.size ≤ length file →
            piece ≡ take (count * form.size) (drop (page * form.size) file)) there filled
            (omega (
              arith,
              whole,
              pages_sum page count form.size,
              pages_most (page + count) pages form.size within,
            )) in
            let n : ℕ = (page - 1) * form.size in
            let at : form.size + n ≡ page * form.size = pages_behind page form.size h.some in
            (λ i. h.so_far bytes told whole i ++ part i)
            ∙ ap (λ k. take n (drop form.size bytes) ++ take (count * form.size) (drop k bytes)) (sym at)
            ∙ ap (λ xs. take n (drop form.size bytes) ++ take (count * form.size) xs)
            (sym (drop-drop n form.size bytes))
            ∙ sym (take-add n (count * form.size) (drop form.size bytes))
            ∙ ap (λ m. take (n + m) (drop form.size bytes)) (sym size);
        quiet = quiet ∙ h.quiet;
        more = omega (arith, h.more, one.0);
        few = omega (arith, h.few, one.1);
      }

  pub read_stops : {A : Type 0} (b : Shelved) (e : ShelfErr) (r : EditErr) → IsFiled s.files old → b.files ≡ a.files →
      CountsRead {A = A} a b (Err e) → ShelfCauses {A = A} old a b (Err e) → r ≡ of_shelf e →
      CopyStops form new pages s b r
  read_stops b e r there files reads c is = record {
    left = inr (
      zeros form.size ++ h.nodes,
      (h.nodes, [], sym (append-nil (zeros form.size ++ h.nodes))),
      files ∙ h.files,
    );
    cause = subst (λ n. HasShelfCause n b.faults r) h.quiet
        (shelf_cause old a b e r (other_there old new (zeros form.size ++ h.nodes) s.files a.files differ h.files there)
        c is);
    untold = λ missing. none_before new (zeros form.size ++ h.nodes) s.files a.files h.files
        (not_told old a b e r
        (other_there old new (zeros form.size ++ h.nodes) s.files a.files differ h.files there) c is
        missing);
    later = omega (arith, c.faults, h.quiet);
    more = omega (arith, h.more, reads.refused);
    few = omega (arith, h.few, reads.refused, within);
  }

module _ (form : Form) (old new : List ℕ) (pages page count : ℕ) (piece : List ℕ) (s a b : Shelved)
    (size : length piece ≡ count * form.size)
    (within : page + count ≤ pages) (some : 1 ≤ count) (w : WasRead form old new pages page piece s a)
    (same : b.reads ≡ a.reads)
  where
    pub piece_copied : b.faults ≡ a.faults → IsChanged (grown new) piece a.files b.files →
        HasCopied form old new pages (page + count) s b
    piece_copied quiet put = record {
      some = omega (arith, w.some);
      nodes = w.nodes ++ piece;
      files = subst (λ bytes. IsChanged (with_file new) bytes s.files b.files)
          (append_assoc (zeros form.size) w.nodes piece)
          (IsChanged-grown new (zeros form.size ++ w.nodes) piece s.files a.files b.files w.files put);
      so_far = λ bytes told whole. w.so_far bytes told whole
          ∙ ap (λ n. take n (drop form.size bytes))
          (let n : (page - 1) * form.size + length piece ≡ (page + count - 1) * form.size = omega (
            arith,
            size,
            pages_sum page count form.size,
            pages_behind page form.size w.some,
            pages_behind (page + count) form.size (omega (arith, w.some)),
          ) in n);
      quiet = quiet ∙ w.quiet;
      more = omega (arith, w.more, same);
      few = omega (arith, w.few, same, some);
    }

    pub piece_stops : {A : Type 0} (e : ShelfErr) (r : EditErr) → IsChangedPartly (grown new) piece a.files b.files →
        ShelfCauses {A = A} new a b (Err e) → r ≡ of_made e → CopyStops form new pages s b r
    piece_stops e r p c is = record {
      left = inr (
        (zeros form.size ++ w.nodes) ++ p.front,
        (
          w.nodes ++ p.front,
          [],
          sym (append_assoc (zeros form.size) w.nodes p.front)
              ∙ sym (append-nil ((zeros form.size ++ w.nodes) ++ p.front)),
        ),
        IsChanged-grown new (zeros form.size ++ w.nodes) p.front s.files a.files b.files w.files p.changed,
      );
      cause = subst (λ n. HasShelfCause n b.faults r) w.quiet
          (made_cause new a b e r (set_there new (zeros form.size ++ w.nodes) s.files a.files w.files) c is);
      untold = λ missing. absurd (not_missing e r is missing);
      later = omega (arith, c.faults, w.quiet);
      more = omega (arith, w.more, same);
      few = omega (arith, w.few, same, within);
    }
