-- What the calls of a shelf leave of the pages of a file under edit.
use Rattle.std.proofs.Common.{◌≡◌, ℕ, ◌+◌, ◌*◌, ◌<◌, ◌≤◌, List, ◌++◌, length, inl, inr, refl, sym, ap, subst, ◌∙◌, arith}
use Rattle.std.specs.Prelude.{⊤, Option, Some, None, option_map, IfSome, IsSome, MatchOption, Err}
use Rattle.std.specs.Option.{option_and_then}
use Rattle.std.specs.String.{string_bytes}
use Rattle.mr_outside.specs.Bytes.{AreBytes}
use Rattle.mr_outside.specs.Faults.{Rose}
use Rattle.mr_outside.specs.Files.{Files, file, with_file, with_change, grown, replaced, overwritten}
use Rattle.mr_outside.specs.State.{Shelved}
use Rattle.mr_outside.specs.Told.{MayMiss}
use Rattle.mr_outside.specs.Causes.{ShelfCauses}
use Rattle.mr_outside.specs.declared.shelf.ShelfErr.{ShelfErr}
use Rattle.mr_outside.specs.declared.shelf.ShelfErr.TheVariants as shelf
use Rattle.mr_outside.proofs.Changes.{with_change-found, file-with_file}
use Rattle.mr_outside.specs.declared.shelf.Shelf.{Ghosts}
use Rattle.mr_pages.specs.declared.layout.Layout.{Layout}
use Rattle.mr_pages.specs.PageBytes.{form_of}
use Rattle.mr_pages.specs.Page.{Form, page_limit}
use Rattle.mr_pages.specs.Saved.{LeavesFile}
use Rattle.mr_pages.specs.Source.{told_bytes}
use Rattle.mr_store.specs.CachedFile.{IsSameFile, name_of, state_of}
use Rattle.mr_store.specs.declared.cached_file.CachedFile.{CachedFile}
use Rattle.mr_edit.specs.PageMap.{with_content, longer}
use Rattle.mr_edit.specs.Causes.{HasEditCause}
use Rattle.mr_edit.specs.Outcome.{NeverMap}
use Rattle.mr_edit.specs.Shelves.{HasShelfCause, of_shelf}
use Rattle.mr_draft.specs.Sheets.{content_of, page_map_in, page_map_on, zeros, HasUnsealedPages, ArePages, KeepsSheets, ChangesPage, LosesPages}
use Rattle.mr_edit.specs.declared.error.EditErr.{EditErr}
use Rattle.mr_edit.specs.declared.error.EditErr.TheVariants as errors
use Rattle.mr_draft.proofs.Overwrites.{has_replaced, page_map_put, page_map_others}
use Rattle.mr_draft.proofs.ZeroPages.{has_grown, has_more, page_map_more, page_map_loses}

-- ---- why it refuses

pub absent_rose : (told : Option Files) (name : List ℕ) (before after : ℕ) →
    MatchOption told ⊤ (λ files. IsSome (file files name)) → MayMiss told name before after → Rose before after
absent_rose None name before after there miss = miss
absent_rose (Some files) name before after there miss =
    let none : IsSome {T = List ℕ} None = subst (IsSome {T = List ℕ}) miss there in absurd cc

pub shelf_cause : {A : Type 0} (name : List ℕ) (before after : Shelved) (e : ShelfErr) (r : EditErr) →
    MatchOption before.files ⊤ (λ files. IsSome (file files name)) →
    ShelfCauses {A = A} name before after (Err e) → r ≡ of_shelf e → HasShelfCause before.faults after.faults r
shelf_cause name before after shelf.Missing r there c is =
    subst (HasShelfCause before.faults after.faults) (sym is)
    (absent_rose before.files name before.faults after.faults there (c.missing refl))
shelf_cause name before after shelf.Fault r there c is =
    subst (HasShelfCause before.faults after.faults) (sym is) (c.fault refl)
shelf_cause name before after shelf.NoMemory r there c is =
    subst (HasShelfCause before.faults after.faults) (sym is) tt

pub edit_cause : (before after : ℕ) (e : EditErr) → HasShelfCause before after e → HasEditCause before after e
edit_cause before after (errors.Map fault) h = absurd h
edit_cause before after errors.Missing h = h
edit_cause before after errors.Fault h = h
edit_cause before after errors.NoMemory h = tt

pub never_map : (P : Type 0) (before after : ℕ) (e : EditErr) → HasShelfCause before after e → NeverMap e P
never_map P before after (errors.Map fault) h = absurd h
never_map P before after errors.Missing h = tt
never_map P before after errors.Fault h = tt
never_map P before after errors.NoMemory h = tt

-- ---- a file that is changed

pub record Changed (change : List ℕ → List ℕ) (name : List ℕ) (told after : Option Files) : Type 0 where
  pub bytes : told_bytes after name ≡ option_map change (told_bytes told name)
  pub there : MatchOption after ⊤ (λ files. IsSome (file files name))
  pub left : LeavesFile (λ bytes. ⊤) name told after

pub changed : (change : List ℕ → List ℕ) (name : List ℕ) (told after : Option Files) →
    MatchOption told ⊤ (λ files. IsSome (file files name)) → after ≡ option_map (with_change name change) told →
    Changed change name told after
changed change name None after there e = record {
  bytes = ap (λ o. told_bytes o name) e;
  there = subst (λ o. MatchOption o ⊤ (λ files. IsSome (file files name))) (sym e) tt;
  left = inl e;
}
changed change name (Some files) after there e = at (file files name) refl there
  where
    at : (o : Option (List ℕ)) → file files name ≡ o → IsSome o → Changed change name (Some files) after
    at None found some = let none : IsSome {T = List ℕ} None = some in absurd cc
    at (Some held) found some =
        let is : after ≡ Some (with_file name (change held) files) =
        e ∙ ap Some (with_change-found name change files held found) in
        record {
          bytes = ap (λ o. told_bytes o name) is ∙ file-with_file name (change held) files
              ∙ sym (ap (option_map change) found);
          there = subst (λ o. MatchOption o ⊤ (λ files. IsSome (file files name))) (sym is)
              (subst (IsSome {T = List ℕ}) (sym (file-with_file name (change held) files)) refl);
          left = inr (change held, tt, is);
        }

-- ---- a page is written

module _ (layout : Layout) (told after : Option Files) (name : List ℕ) (pages page : ℕ) (front : List ℕ)
    (are : ArePages (form_of layout) told name pages) (low : 1 ≤ page) (within : page < pages) (new : AreBytes front)
    (short : length front ≤ layout.size)
    (put : after ≡ option_map (overwritten name (page * layout.size) front) told) where
  abbrev form : Form
  form = form_of layout

  abbrev size : ℕ
  size = layout.size

  made : Changed (replaced (page * size) front) name told after
  made = changed (replaced (page * size) front) name told after are.there put

  pub put_pages : ArePages form after name pages
  put_pages = record {
    there = made.there;
    have = subst (λ o. IfSome o (HasUnsealedPages form pages)) (sym made.bytes) (at (told_bytes told name) are.have);
  }
    where
      at : (o : Option (List ℕ)) → IfSome o (HasUnsealedPages form pages) →
          IfSome (option_map (replaced (page * size) front) o) (HasUnsealedPages form pages)
      at None have = tt
      at (Some held) have = has_replaced layout pages page held front have low within short new

  pub put_others : ChangesPage page (page_map_on form told name pages) (page_map_on form after name pages)
  put_others =
      subst (λ o. ChangesPage page (page_map_on form told name pages) (option_and_then (page_map_in form pages) o))
      (sym made.bytes)
      (at (told_bytes told name) are.have)
    where
      at : (o : Option (List ℕ)) → IfSome o (HasUnsealedPages form pages) →
          ChangesPage page (option_and_then (page_map_in form pages) o)
          (option_and_then (page_map_in form pages) (option_map (replaced (page * size) front) o))
      at None have = tt
      at (Some held) have = page_map_others layout pages page held front have low within short

  pub put_whole : length front ≡ size →
      page_map_on form after name pages ≡ option_map (with_content page (content_of form front))
      (page_map_on form told name pages)
  put_whole whole = ap (option_and_then (page_map_in form pages)) made.bytes ∙ at (told_bytes told name) are.have
    where
      at : (o : Option (List ℕ)) → IfSome o (HasUnsealedPages form pages) →
          option_and_then (page_map_in form pages) (option_map (replaced (page * size) front) o)
          ≡ option_map (with_content page (content_of form front)) (option_and_then (page_map_in form pages) o)
      at None have = refl
      at (Some held) have = page_map_put layout pages page held front have low within short whole

  pub put_left : LeavesFile (λ bytes. ⊤) name told after
  put_left = made.left

-- ---- a page is added

module _ (layout : Layout) (told after : Option Files) (name : List ℕ) (pages : ℕ) (front : List ℕ)
    (are : ArePages (form_of layout) told name pages) (put : after ≡ option_map (grown name front) told) where
  abbrev form2 : Form
  form2 = form_of layout

  abbrev size2 : ℕ
  size2 = layout.size

  longer_ : Changed (λ held. held ++ front) name told after
  longer_ = changed (λ held. held ++ front) name told after are.there put

  pub add_pages : AreBytes front → ArePages form2 after name pages
  add_pages new = record {
    there = longer_.there;
    have = subst (λ o. IfSome o (HasUnsealedPages form2 pages)) (sym longer_.bytes)
        (at (told_bytes told name) are.have);
  }
    where
      at : (o : Option (List ℕ)) → IfSome o (HasUnsealedPages form2 pages) →
          IfSome (option_map (λ held. held ++ front) o) (HasUnsealedPages form2 pages)
      at None have = tt
      at (Some held) have = has_grown layout held pages have front new

  pub add_loses : LosesPages (page_map_on form2 told name pages) (page_map_on form2 after name pages)
  add_loses =
      subst (λ o. LosesPages (page_map_on form2 told name pages) (option_and_then (page_map_in form2 pages) o))
      (sym longer_.bytes)
      (at (told_bytes told name) are.have)
    where
      at : (o : Option (List ℕ)) → IfSome o (HasUnsealedPages form2 pages) →
          LosesPages (option_and_then (page_map_in form2 pages) o)
          (option_and_then (page_map_in form2 pages) (option_map (λ held. held ++ front) o))
      at None have = inl refl
      at (Some held) have = page_map_loses layout held pages front have.long

  pub add_more : pages < page_limit → front ≡ zeros size2 → ArePages form2 after name (pages + 1)
  add_more few whole = record {
    there = longer_.there;
    have = subst (λ o. IfSome o (HasUnsealedPages form2 (pages + 1))) (sym longer_.bytes)
        (at (told_bytes told name) are.have);
  }
    where
      at : (o : Option (List ℕ)) → IfSome o (HasUnsealedPages form2 pages) →
          IfSome (option_map (λ held. held ++ front) o) (HasUnsealedPages form2 (pages + 1))
      at None have = tt
      at (Some held) have =
          subst (λ xs. HasUnsealedPages form2 (pages + 1) (held ++ xs)) (sym whole)
          (has_more layout held pages have few)

  pub add_longer : front ≡ zeros size2 →
      page_map_on form2 after name (pages + 1) ≡ option_map longer (page_map_on form2 told name pages)
  add_longer whole = ap (option_and_then (page_map_in form2 (pages + 1))) longer_.bytes ∙ at (told_bytes told name)
    where
      at : (o : Option (List ℕ)) → option_and_then (page_map_in form2 (pages + 1))
          (option_map (λ held. held ++ front) o)
          ≡ option_map longer (option_and_then (page_map_in form2 pages) o)
      at None = refl
      at (Some held) = ap (λ xs. page_map_in form2 (pages + 1) (held ++ xs)) whole ∙ page_map_more layout held pages

  pub add_left : LeavesFile (λ bytes. ⊤) name told after
  add_left = longer_.left

-- ---- what a call leaves

pub keeps : {S : Type 0} {G : Ghosts S} (f f' : CachedFile S G) → IsSameFile f f' →
    LeavesFile (λ bytes. ⊤) (name_of f) (state_of f).files (state_of f').files →
    (state_of f).faults ≤ (state_of f').faults → (state_of f).reads ≤ (state_of f').reads → KeepsSheets f f'
keeps f f' same left faults reads = record {
  name = ap string_bytes same.name;
  layout = same.layout;
  pages = omega (arith, same.pages);
  files = left;
  faults = faults;
  reads = reads;
}
