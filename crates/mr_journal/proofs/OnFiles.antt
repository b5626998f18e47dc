-- A disk over two files of a shelf that tells them, and what is left of them.
use Rattle.std.proofs.Common.{◌≡◌, ◌⊎◌, inl, inr, ⊎_elim, ℕ, List, Bool, Option, Some, None, Result, Ok, Err, IfSome, OnOk, IfOk, refl, sym, ap, ◌∙◌, subst, arith}
use Rattle.std.specs.Prelude.{option_map}
use Rattle.mr_outside.specs.Files.{Files}
use Rattle.mr_outside.specs.State.{Shelved}
use Rattle.mr_journal.specs.declared.disk.DiskErr.{DiskErr}
use Rattle.mr_journal.specs.Images.{Image}
use Rattle.mr_journal.specs.Moments.{AddsOnly}
use Rattle.mr_journal.specs.Format.{is_open, restored, recovered}
use Rattle.mr_journal.specs.States.{RestoresAs}
use Rattle.mr_journal.specs.Shelves.{image_on, disk_state, images_on, KeepsBeside, KeepsShelf}
use Rattle.mr_journal.specs.Recovered.{FilesHave, restored_in, RecoversMap}

same_image : (x y : Image) → Some x ≡ Some y → x ≡ y
same_image x y e = cc

-- the files stay told
pub still_told : (m j : List ℕ) (a b : Option Files) (files : Files) → a ≡ Some files → KeepsBeside m j a b
    → (new : Files) × (b ≡ Some new)
still_told m j a b files is kept =
    let k = subst (λ (o : Option Files). KeepsBeside m j o b) is kept in
    (k.0, k.1)

-- an image behind a call is the one before it, or was added
pub from_course : (m j : List ℕ) (s u : Shelved) (P : Image → Type 0) (files new : Files) → s.files ≡ Some files
    → u.files ≡ Some new → AddsOnly (disk_state m j s) (disk_state m j u) (images_on m j s) (images_on m j u) P
    → (image_on m j new ≡ image_on m j files) ⊎ P (image_on m j new)
from_course m j s u P files new is now run =
    ⊎_elim (λ same. inl (same_image (image_on m j new) (image_on m j files)
    (sym same ∙ ap (option_map (image_on m j)) is))) (λ p. inr p)
    (run.added 0 (image_on m j new) (omega arith) (ap (option_map (image_on m j)) now))

module _ (m j : List ℕ) (s u : Shelved) (kept : KeepsBeside m j s.files u.files)
    (any : AddsOnly (disk_state m j s) (disk_state m j u) (images_on m j s) (images_on m j u)
    (RestoresAs (disk_state m j s) (images_on m j s))) where
  restores : (files new : Files) → s.files ≡ Some files → u.files ≡ Some new
      → restored_in m j new ≡ restored_in m j files
  restores files new is now =
      ⊎_elim (λ same. ap restored same)
      (λ p. p.2 ∙ ap restored (same_image p.0 (image_on m j files) (sym p.1 ∙ ap (option_map (image_on m j)) is)))
      (from_course m j s u (RestoresAs (disk_state m j s) (images_on m j s)) files new is now any)

  told_by : (o o' : Option Files) (files : Files) → s.files ≡ o → o ≡ Some files → u.files ≡ o' → (P : Files → Type 0)
      → ((new : Files) → u.files ≡ Some new → P new) → FilesHave o' P
  told_by o None files is some now P p = absurd
      (gone (still_told m j s.files u.files files (is ∙ some) kept).0
      ((sym now) ∙ (still_told m j s.files u.files files (is ∙ some) kept).1))
    where
      gone : (new : Files) → None ≡ Some new → ⊥
      gone new e = cc
  told_by o (Some new) files is some now P p = p new now

  -- after Ok the two files are what recovery leaves
  left_so : (files new : Files) → s.files ≡ Some files → u.files ≡ Some new
      → (disk_state m j u).contents ≡ option_map recovered (disk_state m j s).contents
      → image_on m j new ≡ recovered (image_on m j files)
  left_so files new is now left = same_image (image_on m j new) (recovered (image_on m j files))
      (sym (ap (option_map (image_on m j)) now) ∙ left
      ∙ ap (λ o. option_map recovered (option_map (image_on m j) o)) is)

  pub recovers : (r : Result Bool DiskErr)
      → OnOk r ((disk_state m j u).contents ≡ option_map recovered (disk_state m j s).contents)
      → IfOk r (λ was. IfSome (disk_state m j s).contents (λ k. was ≡ is_open k)) → RecoversMap m j s.files u.files r
  recovers r left answer = by_files s.files refl r left answer
    where
      by_files : (o : Option Files) → s.files ≡ o → (r : Result Bool DiskErr)
          → OnOk r ((disk_state m j u).contents ≡ option_map recovered (disk_state m j s).contents)
          → IfOk r (λ was. IfSome (disk_state m j s).contents (λ k. was ≡ is_open k)) → RecoversMap m j o u.files r
      by_files None is r left answer = tt
      by_files (Some files) is (Ok was) left answer = (
        subst (λ (o : Option Image). IfSome o (λ k. was ≡ is_open k)) (ap (option_map (image_on m j)) is) answer,
        told_by (Some files) u.files files is refl refl (λ new. image_on m j new ≡ recovered (image_on m j files))
            (λ new now. left_so files new is now left),
      )
      by_files (Some files) is (Err e) left answer = told_by (Some files) u.files files is refl refl
          (λ new. restored_in m j new ≡ restored_in m j files) (λ new now. restores files new is now)

-- nothing was done
pub recovers_none : (m j : List ℕ) (told : Option Files) (e : DiskErr) → RecoversMap m j told told (Err e)
recovers_none m j None e = tt
recovers_none m j (Some files) e = refl

-- the same of a disk under names that no call changes
pub recovers_as : (m j m0 m1 j0 j1 : List ℕ) (s u : Shelved) → m0 ≡ m → j0 ≡ j → KeepsShelf m0 m1 j0 j1 s u
    → AddsOnly (disk_state m0 j0 s) (disk_state m1 j1 u) (images_on m0 j0 s) (images_on m1 j1 u)
    (RestoresAs (disk_state m0 j0 s) (images_on m0 j0 s)) → (r : Result Bool DiskErr)
    → OnOk r ((disk_state m1 j1 u).contents ≡ option_map recovered (disk_state m0 j0 s).contents)
    → IfOk r (λ was. IfSome (disk_state m0 j0 s).contents (λ k. was ≡ is_open k)) → RecoversMap m j s.files u.files r
recovers_as m j m0 m1 j0 j1 s u name_in also kept any r left answer =
    let R : Image → Type 0 = RestoresAs (disk_state m0 j0 s) (images_on m0 j0 s) in
    let A : List ℕ → List ℕ → Type 0 = λ x y. AddsOnly (disk_state m0 j0 s) (disk_state x y u) (images_on m0 j0 s)
    (images_on x y u) R in
    let L : List ℕ → List ℕ → Type 0 = λ x y. OnOk r
    ((disk_state x y u).contents ≡ option_map recovered (disk_state m0 j0 s).contents) in
    subst (λ x. RecoversMap x j s.files u.files r) name_in
    (subst (λ y. RecoversMap m0 y s.files u.files r) also
    (recovers m0 j0 s u kept.beside (subst (λ x. A x j0) kept.map (subst (λ y. A m1 y) kept.journal any)) r
    (subst (λ x. L x j0) kept.map (subst (λ y. L m1 y) kept.journal left)) answer))
