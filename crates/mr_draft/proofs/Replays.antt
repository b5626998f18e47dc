-- What a change through a reference comes to is said of the file behind it.
use Rattle.std.proofs.Common.{◌≡◌, ℕ, List, subst, sym}
use Rattle.std.specs.Prelude.{IfErr, IfOk, Option, Result}
use Rattle.mr_outside.specs.declared.shelf.Shelf.{Ghosts}
use Rattle.mr_record.specs.declared.version.Version.{Version}
use Rattle.mr_tree.specs.Digest.{Scheme, by}
use Rattle.mr_tree.specs.declared.child.Child.{Child}
use Rattle.mr_batch.specs.Changes.{Changes}
use Rattle.mr_batch.specs.Directory.{DirectoryEntries}
use Rattle.mr_store.specs.CachedFile.{state_of}
use Rattle.mr_store.specs.declared.cached_file.CachedFile.{CachedFile}
use Rattle.mr_edit.specs.Counted.{ReplaysWithin}
use Rattle.mr_edit.specs.Replayed.{ReplaysBatch, StopsReplay}
use Rattle.mr_edit.specs.declared.error.EditErr.{EditErr}
use Rattle.mr_draft.specs.Sheets.{page_map_of}

module _ {S : Type 0} {G : Ghosts S} (s : Scheme) (root : Option Child) (dir : DirectoryEntries) (b : Changes)
    (f g f' g' : CachedFile S G) (m n : ℕ) (before : f ≡ g) (free : m ≡ n) (after : f' ≡ g') where
  pub replays_on : (m' : ℕ) (root' : Option Child) (dir' : DirectoryEntries) →
      ReplaysBatch s (page_map_of f) m root dir (page_map_of f') m' root' dir' b →
      ReplaysBatch s (page_map_of g) n root dir (page_map_of g') m' root' dir' b
  replays_on m' root' dir' x =
      subst (λ (y : CachedFile S G). ReplaysBatch s (page_map_of y) n root dir (page_map_of g') m' root' dir' b) before
      (subst (λ k. ReplaysBatch s (page_map_of f) k root dir (page_map_of g') m' root' dir' b) free
      (subst (λ (y : CachedFile S G). ReplaysBatch s (page_map_of f) m root dir (page_map_of y) m' root' dir' b)
      after x))

  pub within_on : ReplaysWithin s (page_map_of f) m root dir b (state_of f).reads (state_of f').reads →
      ReplaysWithin s (page_map_of g) n root dir b (state_of g).reads (state_of g').reads
  within_on x =
      subst (λ (y : CachedFile S G). ReplaysWithin s (page_map_of y) n root dir b (state_of y).reads
      (state_of g').reads)
      before
      (subst (λ k. ReplaysWithin s (page_map_of f) k root dir b (state_of f).reads (state_of g').reads) free
      (subst (λ (y : CachedFile S G). ReplaysWithin s (page_map_of f) m root dir b (state_of f).reads
      (state_of y).reads)
      after x))

module _ {S : Type 0} {G : Ghosts S} (s : Scheme) (root root' : Option Child) (dir dir' : DirectoryEntries)
    (b : Changes)
    (e : EditErr) (f g : CachedFile S G) (m n : ℕ) (before : f ≡ g) (free : m ≡ n) where
  pub stops_on : StopsReplay s (page_map_of f) m root dir b root' dir' e →
      StopsReplay s (page_map_of g) n root dir b root' dir' e
  stops_on x =
      subst (λ (y : CachedFile S G). StopsReplay s (page_map_of y) n root dir b root' dir' e) before
      (subst (λ k. StopsReplay s (page_map_of f) k root dir b root' dir' e) free x)

-- in the file's version
module _ {S : Type 0} {G : Ghosts S} (hash : List ℕ → List ℕ) (v w : Version) (same : v ≡ w) (root : Option Child)
    (dir : DirectoryEntries) (b : Changes) (f f' : CachedFile S G) (m : ℕ) where
  pub replays_in : {E : Type 0} (r : Result ℕ E) (root' : Option Child) (dir' : DirectoryEntries) →
      IfOk r (λ k. ReplaysBatch (by w hash) (page_map_of f) m root dir (page_map_of f') k root' dir' b) →
      IfOk r (λ k. ReplaysBatch (by v hash) (page_map_of f) m root dir (page_map_of f') k root' dir' b)
  replays_in r root' dir' x =
      subst (λ u. IfOk r (λ k. ReplaysBatch (by u hash) (page_map_of f) m root dir (page_map_of f') k root' dir' b))
      (sym same) x

  pub within_in : ReplaysWithin (by w hash) (page_map_of f) m root dir b (state_of f).reads (state_of f').reads →
      ReplaysWithin (by v hash) (page_map_of f) m root dir b (state_of f).reads (state_of f').reads
  within_in x =
      subst (λ u. ReplaysWithin (by u hash) (page_map_of f) m root dir b (state_of f).reads (state_of f').reads)
      (sym same) x

  pub stops_in : {A : Type 0} (r : Result A EditErr) (root' : Option Child) (dir' : DirectoryEntries) →
      IfErr r (StopsReplay (by w hash) (page_map_of f) m root dir b root' dir') →
      IfErr r (StopsReplay (by v hash) (page_map_of f) m root dir b root' dir')
  stops_in r root' dir' x =
      subst (λ u. IfErr r (StopsReplay (by u hash) (page_map_of f) m root dir b root' dir')) (sym same) x
