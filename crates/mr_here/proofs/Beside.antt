-- A map that is changed in memory, in another file: each file but that one stays.
use Rattle.std.proofs.Common.{◌≡◌, ◌≢◌, inl, inr, ℕ, List, arith, refl, ap, sym, subst, ◌∙◌}
use Rattle.std.specs.Prelude.{Option, Some, None, codes, get_or, option_map, OnOk, MatchResult, Result, Ok, Err}
use Rattle.mr_outside.specs.Files.{Files, file, with_file}
use Rattle.mr_outside.specs.State.{Shelved}
use Rattle.mr_outside.specs.Writing.{IsChanged}
use Rattle.mr_outside.proofs.Changes.{file-with_other}
use Rattle.mr_pages.specs.Saved.{LeavesFile}
use Rattle.mr_pages.specs.Source.{told_bytes}
use Rattle.mr_pages.specs.Saved.{IsUnsealed}
use Rattle.mr_pages.specs.declared.head.MapHead.{MapHead}
use Rattle.mr_outside.specs.declared.shelf.Shelf as shelves
use Rattle.mr_store.specs.CachedFile.{state_of}
use Rattle.mr_store.specs.declared.cached_file.CachedFile.{CachedFile}
use Rattle.mr_draft.specs.Draft.{DraftState, CopiesMap, KeepsDraft, SealsMap, SealFails}
use Rattle.mr_edit.specs.declared.error.EditErr.{EditErr}
use Rattle.mr_here.specs.declared.error.HereErr.{HereErr}
use Rattle.mr_here.specs.private.Forming.{of_sealed, KeepsOthers}

pub changed : (name bytes : List ℕ) (before after : Option Files) → IsChanged (with_file name) bytes before after
    → KeepsOthers name before after
changed name bytes None after is = λ q other. ap (λ o. told_bytes o q) is
changed name bytes (Some files) after is = λ q other. ap (λ o. told_bytes o q) is
    ∙ file-with_other name bytes files q other

pub left : (P : List ℕ → Type 0) (name : List ℕ) (before after : Option Files) → LeavesFile P name before after
    → KeepsOthers name before after
left P name before after (inl same) = λ q other. ap (λ o. told_bytes o q) same
left P name before after (inr held) = changed name held.0 before after held.2

pub then : (name : List ℕ) (a b c : Option Files) → KeepsOthers name a b → KeepsOthers name b c → KeepsOthers name a c
then name a b c first second = λ q other. second q other ∙ first q other

-- of a draft that is sealed
seals : (hash : List ℕ → List ℕ) (d : DraftState) (r : Result (List ℕ) EditErr) (after : Shelved)
    → MatchResult r (λ digest. SealsMap hash d digest after) (SealFails hash d after)
    → OnOk (of_sealed r) (KeepsOthers d.name d.shelf.files after.files)
seals hash d (Ok digest) after is = changed d.name is.bytes d.shelf.files after.files is.files
seals hash d (Err e) after is = tt

on : (r : Result (List ℕ) EditErr) (P Q : Type 0) → (P → Q) → OnOk (of_sealed r) P → OnOk (of_sealed r) Q
on (Ok digest) P Q from is = from is
on (Err e) P Q from is = tt

-- and of one that was made of a map's file, and changed
pub sealed : {S : Type 0} {G : shelves.Ghosts S} (hash : List ℕ → List ℕ) (old : CachedFile S G) (h : MapHead)
    (new : List ℕ) (d : DraftState) → CopiesMap hash old h new d → (e : DraftState) → KeepsDraft hash d e
    → (r : Result (List ℕ) EditErr) (after : Shelved)
    → MatchResult r (λ digest. SealsMap hash e digest after) (SealFails hash e after)
    → OnOk (of_sealed r) (KeepsOthers new (state_of old).files after.files)
sealed hash old h new d copies e keeps r after is =
    let started : KeepsOthers new (state_of old).files d.shelf.files =
    changed new copies.bytes (state_of old).files d.shelf.files copies.files in
    let kept : KeepsOthers new d.shelf.files e.shelf.files =
    subst (λ n. KeepsOthers n d.shelf.files e.shelf.files) copies.named
    (left (IsUnsealed hash) d.name d.shelf.files e.shelf.files keeps.left) in
    on r (KeepsOthers e.name e.shelf.files after.files) (KeepsOthers new (state_of old).files after.files)
    (λ last. then new (state_of old).files d.shelf.files after.files started
    (then new d.shelf.files e.shelf.files after.files kept
    (subst (λ n. KeepsOthers n e.shelf.files after.files) (keeps.name ∙ copies.named) last)))
    (seals hash e r after is)

-- ---- two files of a shelf in memory

pub differ : codes "map" ≡ codes "new" → ⊥
differ e = omega (arith, ap (λ l. get_or l 0 0) e)

pub on_file : (r : Result (List ℕ) HereErr) (name q : List ℕ) (before after : Files) → (q ≡ name → ⊥)
    → OnOk r (KeepsOthers name (Some before) (Some after)) → OnOk r (file after q ≡ file before q)
on_file (Ok digest) name q before after other kept = kept q other
on_file (Err e) name q before after other kept = tt
