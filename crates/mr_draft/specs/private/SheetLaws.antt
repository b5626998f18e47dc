-- Proof that what two calls leave of a file under edit, one after the other, is what one may leave.
use Rattle.std.proofs.Common.{◌≡◌, ℕ, List, inl, inr, refl, ap, subst, ◌∙◌, arith}
use Rattle.std.specs.Prelude.{⊤, Option, Some, None, option_map}
use Rattle.mr_outside.specs.Files.{Files, with_file}
use Rattle.mr_outside.specs.declared.shelf.Shelf.{Ghosts}
use Rattle.mr_outside.proofs.Changes.{with_file-twice}
use Rattle.mr_pages.specs.Saved.{LeavesFile}
use Rattle.mr_store.specs.CachedFile.{name_of, state_of}
use Rattle.mr_store.specs.declared.cached_file.CachedFile.{CachedFile}
use Rattle.mr_draft.specs.Sheets.{KeepsSheets, KeepsLent}

pub set_twice : (name first second : List ℕ) (told : Option Files) →
    option_map (with_file name second) (option_map (with_file name first) told)
    ≡ option_map (with_file name second) told
set_twice name first second None = refl
set_twice name first second (Some files) = ap Some (with_file-twice name first second files)

pub leaves_on : (P Q : List ℕ → Type 0) (name : List ℕ) (a b c : Option Files) →
    ((bytes : List ℕ) → P bytes → Q bytes) → LeavesFile P name a b → LeavesFile Q name b c →
    LeavesFile Q name a c
leaves_on P Q name a b c f (inl same) (inl same') = inl (same' ∙ same)
leaves_on P Q name a b c f (inl same) (inr set) =
    inr (set.0, set.1, set.2 ∙ ap (option_map (with_file name set.0)) same)
leaves_on P Q name a b c f (inr set) (inl same) = inr (set.0, f set.0 set.1, same ∙ set.2)
leaves_on P Q name a b c f (inr set) (inr set') = inr (
  set'.0,
  set'.1,
  set'.2 ∙ ap (option_map (with_file name set'.0)) set.2 ∙ set_twice name set.0 set'.0 a,
)

module _ {S : Type 0} {G : Ghosts S} where
  pub sheets_self : (f : CachedFile S G) → KeepsSheets f f
  sheets_self f = record {
    name = refl;
    layout = refl;
    pages = omega arith;
    files = inl refl;
    faults = omega arith;
    reads = omega arith;
  }

  pub sheets_on : (f g h : CachedFile S G) → KeepsSheets f g → KeepsSheets g h → KeepsSheets f h
  sheets_on f g h a b = record {
    name = b.name ∙ a.name;
    layout = b.layout ∙ a.layout;
    pages = omega (arith, a.pages, b.pages);
    files = leaves_on (λ bytes. ⊤) (λ bytes. ⊤) (name_of f) (state_of f).files (state_of g).files
        (state_of h).files (λ bytes k. k) a.files
        (subst (λ m. LeavesFile (λ bytes. ⊤) m (state_of g).files (state_of h).files) a.name
        b.files);
    faults = omega (arith, a.faults, b.faults);
    reads = omega (arith, a.reads, b.reads);
  }

  pub lent_self : (n : ℕ) (f : CachedFile S G) → KeepsLent n n f f
  lent_self n f = record { same = refl; file = sheets_self f }

  pub lent_on : (n n' n'' : ℕ) (f g h : CachedFile S G) → KeepsLent n n' f g →
      KeepsLent n' n'' g h →
      KeepsLent n n'' f h
  lent_on n n' n'' f g h a b = record {
    same = b.same ∙ a.same;
    file = sheets_on f g h a.file b.file;
  }
