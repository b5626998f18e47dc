-- An update in place of a map in a file of a shelf that tells its files.
use Rattle.std.proofs.Common.{◌≡◌, ◌⊎◌, inl, inr, ⊎_elim, ℕ, List, Option, Some, None, Result, Ok, Err, IfSome, IsSomeAnd, OnOk, refl, sym, ap, ◌∙◌, subst}
use Rattle.std.specs.Prelude.{option_map, false, IfOk, IfErr}
use Rattle.mr_outside.specs.Files.{Files}
use Rattle.mr_outside.specs.State.{Shelved}
use Rattle.mr_record.specs.declared.version.Version.{Version}
use Rattle.mr_pages.specs.File.{version_of}
use Rattle.mr_batch.specs.Changes.{Changes}
use Rattle.mr_journal.specs.Images.{Image}
use Rattle.mr_journal.specs.Moments.{EveryImage, AddsOnly}
use Rattle.mr_journal.specs.Format.{is_open, restored, recovered}
use Rattle.mr_journal.specs.Recovered.{FilesHave, restored_in}
use Rattle.mr_journal.specs.Shelves.{image_on, disk_state, images_on, KeepsBeside, KeepsShelf}
use Rattle.mr_journal.specs.declared.disk.DiskErr.{DiskErr}
use Rattle.mr_journal.proofs.OnFiles.{still_told, from_course}
use Rattle.mr_here.specs.Crashes.{IsDoneBy, BecomesBy, EndsBy}
use Rattle.mr_here.specs.OnFiles.{AppliesTo, TellsVersion}
use Rattle.mr_here.specs.Updated.{Answers, Becomes, IsRefusal}
use Rattle.mr_here.specs.declared.error.HereErr.{HereErr}
use Rattle.mr_here.specs.declared.error.HereErr.TheVariants as errors

same_image : (x y : Image) → Some x ≡ Some y → x ≡ y
same_image x y e = cc

same_files : (x y : Files) → Some x ≡ Some y → x ≡ y
same_files x y e = cc

told_at : (b : Option Files) (new : Files) (P : Files → Type 0) → b ≡ Some new → P new → FilesHave b P
told_at b new P is p = subst (λ (o : Option Files). FilesHave o P) (sym is) p

module _ (hash : List ℕ → List ℕ) (b : Changes) (m j : List ℕ) (s u : Shelved)
    (kept : KeepsBeside m j s.files u.files)
    (any : AddsOnly (disk_state m j s) (disk_state m j u) (images_on m j s) (images_on m j u)
    (BecomesBy (Becomes hash b) (disk_state m j s) (images_on m j s))) where
  module _ (files : Files) (is : s.files ≡ Some files) where
    contents_are : (disk_state m j s).contents ≡ Some (image_on m j files)
    contents_are = ap (option_map (image_on m j)) is

    abbrev new : Files
    new = (still_told m j s.files u.files files is kept).0

    now : u.files ≡ Some new
    now = (still_told m j s.files u.files files is kept).1

    now_are : (disk_state m j u).contents ≡ Some (image_on m j new)
    now_are = ap (option_map (image_on m j)) now

    restores_on : (restored_in m j new ≡ restored_in m j files)
        ⊎ Becomes hash b (restored_in m j files) (restored_in m j new)
    restores_on =
        ⊎_elim (λ same. inl (ap restored same))
        (λ p.
        let first : p.0 ≡ image_on m j files = same_image p.0 (image_on m j files) (sym p.1 ∙ contents_are) in
        ⊎_elim (λ e. inl (e ∙ ap restored first))
        (λ g. inr (subst (λ (i : Image). Becomes hash b (restored i) (restored_in m j new)) first g)) p.2)
        (from_course m j s u (BecomesBy (Becomes hash b) (disk_state m j s) (images_on m j s)) files new is now any)

    answers_on : (r : Result (List ℕ) HereErr)
        → IfSome (disk_state m j s).contents (λ k. Answers hash b (recovered k) (disk_state m j u).contents r)
        → Answers hash b (recovered (image_on m j files)) (Some (image_on m j new)) r
    answers_on r answer =
        subst (λ (o : Option Image). Answers hash b (recovered (image_on m j files)) o r) now_are
        (subst (λ (o : Option Image). IfSome o (λ k. Answers hash b (recovered k) (disk_state m j u).contents r))
        contents_are answer)

    shut_on : EveryImage (disk_state m j u) (images_on m j u)
        (EndsBy (Becomes hash b) (disk_state m j s).contents (disk_state m j u).contents)
        → is_open (image_on m j new) ≡ false
    shut_on all =
        (subst (λ (o : Option Image). IsSomeAnd o
        (λ k. IsDoneBy (Becomes hash b) (restored k) (disk_state m j u).contents (image_on m j new))) contents_are
        (all (image_on m j new) now_are)).settled.shut.shut

    still_on : (e : HereErr)
        → (IsRefusal e → IfSome (disk_state m j s).contents (λ k. is_open k ≡ false → u.files ≡ s.files))
        → IsRefusal e → is_open (image_on m j files) ≡ false → new ≡ files
    still_on e still said shut =
        same_files new files
        (sym now
        ∙ subst (λ (o : Option Image). IfSome o (λ k. is_open k ≡ false → u.files ≡ s.files)) contents_are (still said)
        shut ∙ is)

    applies_some : (r : Result (List ℕ) HereErr)
        → OnOk r (EveryImage (disk_state m j u) (images_on m j u)
        (EndsBy (Becomes hash b) (disk_state m j s).contents (disk_state m j u).contents))
        → IfSome (disk_state m j s).contents (λ k. Answers hash b (recovered k) (disk_state m j u).contents r)
        → IfErr r (λ e. IsRefusal e → IfSome (disk_state m j s).contents
        (λ k. is_open k ≡ false → u.files ≡ s.files))
        → AppliesTo hash m j b (Some files) u.files r
    applies_some (Ok digest) done answer still =
        told_at u.files new
        (λ n. Answers hash b (recovered (image_on m j files)) (Some (image_on m j n)) (Ok digest)
        × (is_open (image_on m j n) ≡ false)) now (answers_on (Ok digest) answer, shut_on done)
    applies_some (Err e) done answer still =
        told_at u.files new
        (λ n. Answers hash b (recovered (image_on m j files)) (Some (image_on m j n)) (Err e)
        × ((restored_in m j n ≡ restored_in m j files) ⊎ Becomes hash b (restored_in m j files) (restored_in m j n))
        × (IsRefusal e → is_open (image_on m j files) ≡ false → n ≡ files))
        now (answers_on (Err e) answer, restores_on, still_on e still)

  applies : (r : Result (List ℕ) HereErr)
      → OnOk r (EveryImage (disk_state m j u) (images_on m j u)
      (EndsBy (Becomes hash b) (disk_state m j s).contents (disk_state m j u).contents))
      → IfSome (disk_state m j s).contents (λ k. Answers hash b (recovered k) (disk_state m j u).contents r)
      → IfErr r (λ e. IsRefusal e → IfSome (disk_state m j s).contents
      (λ k. is_open k ≡ false → u.files ≡ s.files))
      → AppliesTo hash m j b s.files u.files r
  applies r done answer still = by_files s.files refl
    where
      by_files : (o : Option Files) → s.files ≡ o → AppliesTo hash m j b o u.files r
      by_files None is = tt
      by_files (Some files) is = applies_some files is r done answer still

-- the same of a disk under names that no call changes
pub applies_as : (hash : List ℕ → List ℕ) (b : Changes) (m j m0 m1 j0 j1 : List ℕ) (s u : Shelved) → m0 ≡ m → j0 ≡ j
    → KeepsShelf m0 m1 j0 j1 s u
    → AddsOnly (disk_state m0 j0 s) (disk_state m1 j1 u) (images_on m0 j0 s) (images_on m1 j1 u)
    (BecomesBy (Becomes hash b) (disk_state m0 j0 s) (images_on m0 j0 s)) → (r : Result (List ℕ) HereErr)
    → OnOk r (EveryImage (disk_state m1 j1 u) (images_on m1 j1 u)
    (EndsBy (Becomes hash b) (disk_state m0 j0 s).contents (disk_state m1 j1 u).contents))
    → IfSome (disk_state m0 j0 s).contents (λ k. Answers hash b (recovered k) (disk_state m1 j1 u).contents r)
    → IfErr r (λ e. IsRefusal e → IfSome (disk_state m0 j0 s).contents
    (λ k. is_open k ≡ false → u.files ≡ s.files))
    → AppliesTo hash m j b s.files u.files r
applies_as hash b m j m0 m1 j0 j1 s u named also kept any r done answer still =
    let R : Image → Type 0 = BecomesBy (Becomes hash b) (disk_state m0 j0 s) (images_on m0 j0 s) in
    let A : List ℕ → List ℕ → Type 0 = λ x y. AddsOnly (disk_state m0 j0 s) (disk_state x y u) (images_on m0 j0 s)
    (images_on x y u) R in
    let D : List ℕ → List ℕ → Type 0 = λ x y. OnOk r (EveryImage (disk_state x y u) (images_on x y u)
    (EndsBy (Becomes hash b) (disk_state m0 j0 s).contents (disk_state x y u).contents)) in
    let E : List ℕ → List ℕ → Type 0 = λ x y. IfSome (disk_state m0 j0 s).contents
    (λ k. Answers hash b (recovered k) (disk_state x y u).contents r) in
    subst (λ x. AppliesTo hash x j b s.files u.files r) named
    (subst (λ y. AppliesTo hash m0 y b s.files u.files r) also
    (applies hash b m0 j0 s u kept.beside (subst (λ x. A x j0) kept.map (subst (λ y. A m1 y) kept.journal any)) r
    (subst (λ x. D x j0) kept.map (subst (λ y. D m1 y) kept.journal done))
    (subst (λ x. E x j0) kept.map (subst (λ y. E m1 y) kept.journal answer)) still))

-- memory ran out before anything was done
pub applies_none : (hash : List ℕ → List ℕ) (b : Changes) (m j : List ℕ) (told : Option Files)
    → AppliesTo hash m j b told told (Err errors.NoMemory)
applies_none hash b m j None = tt
applies_none hash b m j (Some files) = ((tt, λ said. absurd said), inl refl, λ said shut. absurd said)

-- ---- the version

pub tells_as : (m j m0 j0 : List ℕ) (told : Option Files) (r : Result Version DiskErr) → m0 ≡ m → j0 ≡ j
    → IfOk r (λ v. IfSome (option_map (image_on m0 j0) told) (λ k. v ≡ version_of (restored k)))
    → TellsVersion m j told r
tells_as m j m0 j0 told r named also tells =
    at told r (subst (λ x. IfOk r (λ v. IfSome (option_map (image_on x j) told) (λ k. v ≡ version_of (restored k))))
    named
    (subst (λ y. IfOk r (λ v. IfSome (option_map (image_on m0 y) told) (λ k. v ≡ version_of (restored k)))) also tells))
  where
    at : (told : Option Files) (r : Result Version DiskErr)
        → IfOk r (λ v. IfSome (option_map (image_on m j) told) (λ k. v ≡ version_of (restored k)))
        → TellsVersion m j told r
    at None r tells = tt
    at (Some files) (Ok v) tells = tells
    at (Some files) (Err e) tells = tt

pub tells_none : (m j : List ℕ) (told : Option Files) (e : DiskErr) → TellsVersion m j told (Err e)
tells_none m j None e = tt
tells_none m j (Some files) e = tt
