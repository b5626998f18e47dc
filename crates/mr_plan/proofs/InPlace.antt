-- A map in its own file: what a command leaves that came to its end may be left by one that stopped; and what recovery
-- leaves is what `recover` says.
use Rattle.std.proofs.Common.{◌≡◌, ℕ, Bool, true, false, List, ◌∷◌, length, Option, Some, None, refl, sym, ap, subst, ◌∙◌, inl, inr}
use Rattle.std.specs.Prelude.{⊤, if◌then◌else◌, IfOk, Result, Ok, Err}
use Rattle.mr_outside.specs.Files.{Files}
use Rattle.mr_outside.specs.Told.{OfFiles}
use Rattle.mr_journal.specs.Format.{is_open, opens, body_of, carried, changed_by, restored, recovered}
use Rattle.mr_journal.specs.Images.{Image}
use Rattle.mr_journal.specs.Recovered.{FilesHave, RecoversMap}
use Rattle.mr_journal.specs.Shelves.{image_on, KeepsBeside}
use Rattle.mr_journal.specs.declared.disk.DiskErr.{DiskErr}
use Rattle.mr_journal.proofs.Gating.{shut_restores}
use Rattle.mr_plan.specs.Outcome.{Content, InPlace, IsWholly, IsMended, MayRestore, LeavesWritten, MayLeave}

-- what is so of the files, where they are told
of_files : (told : Option Files) (P Q : Files → Type 0) → ((files : Files) → P files → Q files) → OfFiles told P
    → OfFiles told Q
of_files None P Q on p = tt
of_files (Some files) P Q on p = on files p

have_files : (told : Option Files) (P Q : Files → Type 0) → ((files : Files) → P files → Q files) → FilesHave told P
    → OfFiles told Q
have_files None P Q on p = tt
have_files (Some files) P Q on p = on files p

-- where the journal is not open, recovery leaves the map as it is
shut_map : (k : Image) → is_open k ≡ false → restored k ≡ k.map
shut_map k shut = shut_restores k.map k (record { map_is = refl; shut = shut })

-- the journal is not open behind recovery
shut_by : (b : Bool) (k : Image) → is_open k ≡ b → is_open (recovered k) ≡ false
unfolding recovered restored
shut_by true k e =
    ap (λ t. opens (length (if t then carried (body_of k.journal) k.map else k.map))
    (if t then 0 ∷ body_of k.journal else k.journal)) e
shut_by false k e =
    ap (λ t. opens (length (if t then carried (body_of k.journal) k.map else k.map))
    (if t then 0 ∷ body_of k.journal else k.journal)) e ∙ e

-- nor behind an update
changed_shut : (body : List ℕ) (k : Image) → is_open (changed_by body k) ≡ false
unfolding changed_by
changed_shut body k = refl

pub recovered_map : (k : Image) → (recovered k).map ≡ restored k
unfolding recovered
recovered_map k = refl

pub mended_shut : (was : Image) (content : Option Content) (now : Image) → IsMended was content now
    → is_open now ≡ false
mended_shut was None now is = ap is_open is ∙ shut_by (is_open was) was refl
mended_shut was (Some content) now is = ap is_open is.left ∙ changed_shut is.body (recovered was)

mended_restores : (map journal : List ℕ) (was : Image) (content : Option Content) (files : Files)
    → IsMended was content (image_on map journal files) → MayRestore map journal was content files
mended_restores map journal was None files is =
    let now = image_on map journal files in
    inl (shut_map now (mended_shut was None now is) ∙ ap (λ (k : Image). k.map) is ∙ recovered_map was)
mended_restores map journal was (Some content) files is =
    let now = image_on map journal files in
    inr (subst (IsWholly content) (sym (shut_map now (mended_shut was (Some content) now is))) is.wholly)

pub mended_may : (map journal : List ℕ) (was : Image) (content : Option Content) (before after : Option Files)
    → LeavesWritten (InPlace map journal was content) before after → MayLeave (InPlace map journal was content)
    before after
mended_may map journal was content before after left =
    inr (
      left.0,
      of_files after (λ new. IsMended was content (image_on map journal new)) (MayRestore map journal was content)
          (mended_restores map journal was content) left.1,
    )

-- where files are not told, they are as before
pub untold_beside : (map journal : List ℕ) (before after : Option Files) → before ≡ None
    → KeepsBeside map journal before after → after ≡ before
untold_beside map journal before after none kept =
    subst (λ o. KeepsBeside map journal o after) none kept ∙ sym none

-- what a call leaves that recovers two files
abbrev pub LeavesRecovered : (map journal : List ℕ) → Option Files → Option Files → Result Bool DiskErr → Type 0
LeavesRecovered map journal None after result = ⊤
LeavesRecovered map journal (Some files) after (Ok was) =
    LeavesWritten (InPlace map journal (image_on map journal files) None) (Some files) after
LeavesRecovered map journal (Some files) after (Err e) =
    MayLeave (InPlace map journal (image_on map journal files) None) (Some files) after

pub recovered_left : (map journal : List ℕ) (before after : Option Files) (result : Result Bool DiskErr)
    → KeepsBeside map journal before after → IfOk result (λ was. was ≡ false → after ≡ before)
    → RecoversMap map journal before after result → LeavesRecovered map journal before after result
recovered_left map journal None after result kept clean so = tt
recovered_left map journal (Some files) after (Ok was) kept clean so =
    let held = image_on map journal files in (
      kept,
      have_files after (λ new. image_on map journal new ≡ recovered held)
          (λ new. IsMended held None (image_on map journal new)) (λ new same. same) so.1,
      λ shut. clean (so.0 ∙ shut),
    )
recovered_left map journal (Some files) after (Err e) kept clean so =
    let held = image_on map journal files in
    inr (
      kept,
      have_files after (λ new. restored (image_on map journal new) ≡ restored held)
          (MayRestore map journal held None) (λ new same. inl same) so,
    )
