-- Files before and after one of them was changed.
use Rattle.std.proofs.Common.{◌≡◌, ℕ, ◌+◌, Bool, true, false, T, cond, List, [], ◌++◌, take, drop, Option, Some, None, MatchOption, OnOk, OnErr, Result, Ok, Err, refl, sym, ap, subst, ◌∙◌, append-nil, add-zero, take-append-drop}
use Rattle.std.specs.Prelude.{⊤, option_map}
use Rattle.std.specs.Ordering.{nat_cmp, is_eq, eq_by_cmp}
use Rattle.std.specs.Cmp.{eq_by_cmp_equiv}
use Rattle.std.specs.Cmp.Lexicographic.{slice_cmp, nat_list_cmp_total}
use Rattle.std.specs.FinMap.{get-insert, same_map, slice_cmp-IsAntisymmetric, nat_cmp-IsAntisymmetric}
use Rattle.std.specs.declared.cmp.Ordering.{Ordering}
use Rattle.std.specs.declared.cmp.Ordering.TheVariants.{Less, Equal, Greater}
use Rattle.mr_outside.specs.Files.{Files, file, with_file, with_found, with_change, grown, replaced, overwritten}
use Rattle.mr_outside.specs.Told.{OfFile}
use Rattle.mr_outside.specs.Memory.{MemoryShelf, shelved}
use Rattle.mr_outside.specs.Writing.{IsThere, IsChanged, IsChangedPartly, WritesOrFront}
use Rattle.mr_outside.specs.declared.shelf.ShelfErr.{ShelfErr}

-- ---- one file

is_eq-Equal : (r : Ordering) → is_eq r ≡ true → r ≡ Equal
is_eq-Equal Less e = absurd (subst T (sym e) tt)
is_eq-Equal Equal e = refl
is_eq-Equal Greater e = absurd (subst T (sym e) tt)

same_name : (q name : List ℕ) → eq_by_cmp (slice_cmp nat_cmp) q name ≡ true → q ≡ name
same_name q name e = slice_cmp-IsAntisymmetric nat_cmp-IsAntisymmetric q name (is_eq-Equal (slice_cmp nat_cmp q name) e)

same_at : (b : Bool) (name bytes : List ℕ) (files : Files) (q : List ℕ) → eq_by_cmp (slice_cmp nat_cmp) q name ≡ b
    → file files name ≡ Some bytes → cond b (Some bytes) (file files q) ≡ file files q
same_at false name bytes files q e found = refl
same_at true name bytes files q e found = sym found ∙ ap (file files) (sym (same_name q name e))

-- to set a file to what it has changes nothing
pub with_file-same : (name bytes : List ℕ) (files : Files) → file files name ≡ Some bytes
    → with_file name bytes files ≡ files
with_file-same name bytes files found =
    same_map nat_list_cmp_total (slice_cmp-IsAntisymmetric nat_cmp-IsAntisymmetric) _ _
    (λ q. get-insert nat_list_cmp_total files name bytes q ∙ same_at _ name bytes files q refl found)

pub with_change-found : (name : List ℕ) (change : List ℕ → List ℕ) (files : Files) (held : List ℕ)
    → file files name ≡ Some held → with_change name change files ≡ with_file name (change held) files
with_change-found name change files held found = ap (with_found name change files) found

pub with_change-absent : (name : List ℕ) (change : List ℕ → List ℕ) (files : Files)
    → file files name ≡ None → with_change name change files ≡ files
with_change-absent name change files absent = ap (with_found name change files) absent

found_same : (found : Option (List ℕ)) (name : List ℕ) (change : List ℕ → List ℕ) (files : Files)
    → ((held : List ℕ) → change held ≡ held) → file files name ≡ found → with_found name change files found ≡ files
found_same None name change files same is = refl
found_same (Some held) name change files same is =
    ap (λ bytes. with_file name bytes files) (same held) ∙ with_file-same name held files is

with_change-same : (name : List ℕ) (change : List ℕ → List ℕ) (files : Files)
    → ((held : List ℕ) → change held ≡ held) → with_change name change files ≡ files
with_change-same name change files same = found_same (file files name) name change files same refl

pub grown-none : (name : List ℕ) (files : Files) → grown name [] files ≡ files
grown-none name files = with_change-same name _ files (λ held. append-nil held)

replaced-none : (place : ℕ) (held : List ℕ) → replaced place [] held ≡ held
replaced-none place held =
    ap (λ front. front ++ drop (place + 0) held) (append-nil (take place held))
    ∙ ap (λ n. take place held ++ drop n held) (add-zero place)
    ∙ take-append-drop place held

pub overwritten-none : (name : List ℕ) (place : ℕ) (files : Files) → overwritten name place [] files ≡ files
overwritten-none name place files = with_change-same name _ files (replaced-none place)

put_at : (b : Bool) (first second : List ℕ) (rest : Option (List ℕ))
    → cond b (Some second) (cond b (Some first) rest) ≡ cond b (Some second) rest
put_at true first second rest = refl
put_at false first second rest = refl

-- what is set last stands
pub with_file-twice : (name first second : List ℕ) (files : Files)
    → with_file name second (with_file name first files) ≡ with_file name second files
with_file-twice name first second files =
    same_map nat_list_cmp_total (slice_cmp-IsAntisymmetric nat_cmp-IsAntisymmetric) _ _
    (λ q. get-insert nat_list_cmp_total (with_file name first files) name second q
    ∙ ap (cond (eq_by_cmp (slice_cmp nat_cmp) q name) (Some second)) (get-insert nat_list_cmp_total files name first q)
    ∙ put_at _ first second (file files q)
    ∙ sym (get-insert nat_list_cmp_total files name second q))

pub file-with_file : (name bytes : List ℕ) (files : Files) → file (with_file name bytes files) name ≡ Some bytes
file-with_file name bytes files =
    get-insert nat_list_cmp_total files name bytes name
    ∙ ap (λ b. cond b (Some bytes) (file files name)) ((eq_by_cmp_equiv nat_list_cmp_total).refl name)

-- each other file is as it was
pub file-with_other : (name bytes : List ℕ) (files : Files) (other : List ℕ) → (other ≡ name → ⊥)
    → file (with_file name bytes files) other ≡ file files other
file-with_other name bytes files other differs =
    get-insert nat_list_cmp_total files name bytes other ∙ other_at _ name bytes files other differs refl
  where
    other_at : (b : Bool) (name bytes : List ℕ) (files : Files) (other : List ℕ) → (other ≡ name → ⊥)
        → eq_by_cmp (slice_cmp nat_cmp) other name ≡ b → cond b (Some bytes) (file files other) ≡ file files other
    other_at true name bytes files other differs e = absurd (differs (same_name other name e))
    other_at false name bytes files other differs e = refl

-- a file that was set is changed further
pub with_change-with_file : (name : List ℕ) (change : List ℕ → List ℕ) (held : List ℕ) (files : Files)
    → with_change name change (with_file name held files) ≡ with_file name (change held) files
with_change-with_file name change held files =
    with_change-found name change (with_file name held files) held (file-with_file name held files)
    ∙ with_file-twice name held (change held) files

changed_told : (told : Option Files) (name held : List ℕ) (change : List ℕ → List ℕ)
    → option_map (with_change name change) (option_map (with_file name held) told)
    ≡ option_map (with_file name (change held)) told
changed_told None name held change = refl
changed_told (Some files) name held change = ap Some (with_change-with_file name change held files)

-- a file that was set, and then grew
pub IsChanged-grown : (name held more : List ℕ) (before between after : Option Files)
    → IsChanged (with_file name) held before between → IsChanged (grown name) more between after
    → IsChanged (with_file name) (held ++ more) before after
IsChanged-grown name held more before between after first then =
    then ∙ ap (option_map (grown name more)) first ∙ changed_told before name held (λ bytes. bytes ++ more)

-- a file that was set, and then overwritten
pub IsChanged-overwritten : (name : List ℕ) (place : ℕ) (held bytes : List ℕ) (before between after : Option Files)
    → IsChanged (with_file name) held before between → IsChanged (overwritten name place) bytes between after
    → IsChanged (with_file name) (replaced place bytes held) before after
IsChanged-overwritten name place held bytes before between after first then =
    then ∙ ap (option_map (overwritten name place bytes)) first ∙ changed_told before name held (replaced place bytes)

of_put : (told : Option Files) (name held : List ℕ) (Q : Type 0) (P : List ℕ → Type 0) → P held
    → OfFile (option_map (with_file name held) told) name Q P
of_put None name held Q P p = tt
of_put (Some files) name held Q P p = subst (λ o. MatchOption o Q P) (sym (file-with_file name held files)) p

-- what holds of the bytes that were set holds of the file
pub OfFile-put : (name held : List ℕ) (Q : Type 0) (P : List ℕ → Type 0) (before after : Option Files)
    → IsChanged (with_file name) held before after → P held → OfFile after name Q P
OfFile-put name held Q P before after put p =
    subst (λ told. OfFile told name Q P) (sym put) (of_put before name held Q P p)

-- ---- what a call that writes leaves

told_there : (found : Option (List ℕ)) (held : List ℕ) → found ≡ Some held → MatchOption found ⊥ (λ bytes. ⊤)
told_there None held e = subst (λ o. MatchOption o ⊥ (λ bytes. ⊤)) (sym e) tt
told_there (Some bytes) held e = tt

pub there : (name : List ℕ) (files : Files) (held : List ℕ) → file files name ≡ Some held → IsThere (Some files) name
there name files held found = told_there (file files name) held found

-- what is known of the file's bytes
pub of_held : (name : List ℕ) (files : Files) (held : List ℕ) (P : List ℕ → Type 0) → file files name ≡ Some held
    → OfFile (Some files) name ⊤ P → P held
of_held name files held P found known = subst (λ o. MatchOption o ⊤ P) found known

-- the change was made by some front of the bytes
by_front : (change : List ℕ → Files → Files) (front rest bytes : List ℕ) (old new : Files) → bytes ≡ front ++ rest
    → new ≡ change front old → IsChangedPartly change bytes (Some old) (Some new)
by_front change front rest bytes old new whole is =
    record { front = front; rest = rest; whole = whole; changed = ap Some is }

-- It was made by all of them or, at a refusal, by none.
pub WritesOrFront-tried : (change : List ℕ → Files → Files) (bytes : List ℕ) (before after : MemoryShelf)
    (result : Result (Unit {0}) ShelfErr) → change [] before.files ≡ before.files → after.reads ≡ before.reads
    → OnOk result (after.files ≡ change bytes before.files) → OnErr result (after.files ≡ before.files)
    → WritesOrFront change bytes (shelved before) (shelved after) result
WritesOrFront-tried change bytes before after (Ok x) none reads done refused = record {
  whole = ap Some done;
  front = by_front change bytes [] bytes before.files after.files (sym (append-nil bytes)) done;
  reads = reads;
}
WritesOrFront-tried change bytes before after (Err e) none reads done refused = record {
  whole = tt;
  front = by_front change [] bytes bytes before.files after.files refl (refused ∙ sym none);
  reads = reads;
}
