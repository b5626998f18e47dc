-- A file under edit after a call that left the most of it as it was.
use Rattle.std.proofs.Common.{◌≡◌, ℕ, ◌+◌, ◌<◌, ◌≤◌, List, inl, refl, sym, ap, subst, ◌∙◌, arith}
use Rattle.std.specs.Prelude.{Option, IfSome, OnErr, OnOk, Result, Ok, Err, option_map}
use Rattle.std.specs.String.{string_bytes}
use Rattle.lru.specs.LruCache.{LruCache}
use Rattle.mr_outside.specs.Files.{Files}
use Rattle.mr_outside.specs.declared.shelf.Shelf.{Ghosts}
use Rattle.mr_tree.specs.Digest.{by}
use Rattle.mr_tree.specs.Snapshot.{HasShape}
use Rattle.mr_tree.specs.View as view
use Rattle.mr_tree.specs.declared.child.Child.{Child}
use Rattle.mr_pages.specs.declared.layout.Layout.{Layout}
use Rattle.mr_pages.specs.Page.{page_limit}
use Rattle.mr_pages.specs.PageBytes.{form_of, layout_by}
use Rattle.mr_pages.specs.Walking.{page_node}
use Rattle.mr_store.specs.CachedFile.{IsRead, IsSameFile, OnlyKeeps, OnlyReads, entries_of, name_of, state_of}
use Rattle.mr_store.specs.Kept.{CacheEntries, Forgets, GainsNode, KeepsEntries}
use Rattle.mr_store.specs.declared.cached_file.CachedFile.{CachedFile}
use Rattle.mr_store.specs.declared.cached_node.CachedNode.{CachedNode}
use Rattle.mr_edit.specs.PageMap.{HasNode, longer, node_content, with_content}
use Rattle.mr_edit.specs.Held.{IsEntryOf}
use Rattle.mr_draft.specs.Sheets.{AreKept, AreSheets, ArePages, ChangesPage, HasAllPages, IsSheets, KeepsSheets, LosesPages, OnlyWrites, page_map_of, page_map_on}
use Rattle.mr_draft.proofs.NodesKept.{kept_elsewhere, kept_longer, kept_lost, kept_more, put_node, said_digest, said_level, still_kept, view_shape}

-- all that is known of a file in a draft is known of its parts
pub moved_sheets : (hash : List ℕ → List ℕ) (l l' : Layout) (t t' : Option Files) (n n' : List ℕ) (p p' : ℕ)
    (es es' : CacheEntries) (k k' : ℕ) → l' ≡ l → t' ≡ t → n' ≡ n → p' ≡ p → es' ≡ es → k' ≡ k →
    AreSheets hash l t n p es k → AreSheets hash l' t' n' p' es' k'
moved_sheets hash l l' t t' n n' p p' es es' k k' a b c d e f x =
    subst (λ y. AreSheets hash y t' n' p' es' k') (sym a)
    (subst (λ y. AreSheets hash l y n' p' es' k') (sym b)
    (subst (λ y. AreSheets hash l t y p' es' k') (sym c)
    (subst (λ y. AreSheets hash l t n y es' k') (sym d)
    (subst (λ y. AreSheets hash l t n p y k') (sym e)
    (subst (AreSheets hash l t n p es) (sym f) x)))))

module _ {S : Type 0} {G : Ghosts S} (f f' : CachedFile S G) where
  pub page_map_same : IsSameFile f f' → (state_of f').files ≡ (state_of f).files → page_map_of f' ≡ page_map_of f
  page_map_same same files =
      λ i. page_map_on (form_of (same.layout i)) (files i) (string_bytes (same.name i)) (same.pages i)

  pub pages_same : IsSameFile f f' → (state_of f').files ≡ (state_of f).files → HasAllPages f → HasAllPages f'
  pages_same same files have =
      subst (λ (l : Layout). ArePages (form_of l) (state_of f').files (name_of f') f'.pages) (sym same.layout)
      (subst (λ t. ArePages (form_of f.layout) t (name_of f') f'.pages) (sym files)
      (subst (λ n. ArePages (form_of f.layout) (state_of f).files n f'.pages) (sym (ap string_bytes same.name))
      (subst (ArePages (form_of f.layout) (state_of f).files (name_of f)) (sym same.pages) have)))

  -- what is said of its parts then is said of those before
  pub back : (Q : Layout → Option Files → List ℕ → ℕ → Type 0) → IsSameFile f f' →
      (state_of f').files ≡ (state_of f).files → Q f'.layout (state_of f').files (name_of f') f'.pages →
      Q f.layout (state_of f).files (name_of f) f.pages
  back Q same files x =
      subst (λ l. Q l (state_of f).files (name_of f) f.pages) same.layout
      (subst (λ t. Q f'.layout t (name_of f) f.pages) files
      (subst (λ n. Q f'.layout (state_of f').files n f.pages) (ap string_bytes same.name)
      (subst (Q f'.layout (state_of f').files (name_of f')) same.pages x)))

  -- ---- what is kept changed

  pub kept_files : OnlyKeeps f f' → (state_of f').files ≡ (state_of f).files
  kept_files only = ap (λ s. (G.state s).files) only.shelf

  pub kept_page_map : OnlyKeeps f f' → page_map_of f' ≡ page_map_of f
  kept_page_map only = page_map_same only.file (kept_files only)

  pub kept_pages : OnlyKeeps f f' → HasAllPages f → HasAllPages f'
  kept_pages only have = pages_same only.file (kept_files only) have

  pub kept_sheets : (hash : List ℕ → List ℕ) → OnlyKeeps f f' →
      AreSheets hash f.layout (state_of f).files (name_of f) f.pages (entries_of f') f.cache.cap → IsSheets hash f'
  kept_sheets hash only x =
      moved_sheets hash f.layout f'.layout (state_of f).files (state_of f').files (name_of f) (name_of f') f.pages
      f'.pages (entries_of f') (entries_of f') f.cache.cap f'.cache.cap only.file.layout (kept_files only)
      (ap string_bytes only.file.name) only.file.pages refl only.cap x

  -- nothing of it
  pub kept_same : (hash : List ℕ → List ℕ) → OnlyKeeps f f' → f'.cache ≡ f.cache → IsSheets hash f → IsSheets hash f'
  kept_same hash only same x =
      kept_sheets hash only
      (subst (λ es. AreSheets hash f.layout (state_of f).files (name_of f) f.pages es f.cache.cap)
      (sym (ap (λ (m : LruCache ℕ CachedNode). m.entries) same)) x)

  pub keeps_kept : OnlyKeeps f f' → KeepsSheets f f'
  keeps_kept only = record {
    name = ap string_bytes only.file.name;
    layout = only.file.layout;
    pages = omega (arith, only.file.pages);
    files = inl (kept_files only);
    faults = omega (arith, ap (λ s. (G.state s).faults) only.shelf);
    reads = omega (arith, ap (λ s. (G.state s).reads) only.shelf);
  }

  -- ---- pages were read

  pub read_page_map : OnlyReads f f' → page_map_of f' ≡ page_map_of f
  read_page_map only = page_map_same only.file only.files

  pub read_pages : OnlyReads f f' → HasAllPages f → HasAllPages f'
  read_pages only have = pages_same only.file only.files have

  pub read_sheets : (hash : List ℕ → List ℕ) → OnlyReads f f' → IsSheets hash f → IsSheets hash f'
  read_sheets hash only x =
      moved_sheets hash f.layout f'.layout (state_of f).files (state_of f').files (name_of f) (name_of f') f.pages
      f'.pages (entries_of f) (entries_of f') f.cache.cap f'.cache.cap only.file.layout only.files
      (ap string_bytes only.file.name) only.file.pages (ap (λ (m : LruCache ℕ CachedNode). m.entries) only.cache)
      (ap (λ (m : LruCache ℕ CachedNode). m.cap) only.cache) x

  pub keeps_read : OnlyReads f f' → (state_of f).faults ≤ (state_of f').faults →
      (state_of f).reads ≤ (state_of f').reads → KeepsSheets f f'
  keeps_read only faults reads = record {
    name = ap string_bytes only.file.name;
    layout = only.file.layout;
    pages = omega (arith, only.file.pages);
    files = inl only.files;
    faults = faults;
    reads = reads;
  }

-- a node was shown that is kept
module _ {S : Type 0} {G : Ghosts S} (hash : List ℕ → List ℕ) (f f1 : CachedFile S G) (only : OnlyKeeps f f1)
    (sheets : IsSheets hash f) where
  pub recalled : KeepsEntries (entries_of f) (entries_of f1) → IsSheets hash f1
  recalled stays = kept_sheets f f1 hash only (record {
    sized = sheets.sized;
    few = sheets.few;
    file_ = sheets.file_;
    kept = still_kept (by f.layout.version hash) (page_map_of f) (entries_of f) f.cache.cap sheets.kept (entries_of f1)
        f.cache.cap stays refl;
  })

  -- or is kept now
  pub kept_now : (c : Child) (n : view.Node) → HasShape n → view.AreTold f.layout.version n →
      view.level_of n ≡ c.level → hash (view.preimage_of f.layout.version n) ≡ c.digest →
      IfSome (page_map_of f) (λ b. HasNode b c.id (page_node n)) → GainsNode f.cache.cap (entries_of f)
      (entries_of f1) c n →
      IsSheets hash f1
  kept_now c n shape told level digest node gains = kept_sheets f f1 hash only (record {
    sized = sheets.sized;
    few = sheets.few;
    file_ = sheets.file_;
    kept = kept_more (by f.layout.version hash) (page_map_of f) (entries_of f) f.cache.cap sheets.kept c n f.cache.cap
        (entries_of f1) f.cache.cap shape told level digest node gains refl;
  })

-- a node was read, and is kept
pub shown : {S : Type 0} {G : Ghosts S} (hash : List ℕ → List ℕ) (f f1 f2 : CachedFile S G) → OnlyReads f f1 →
    OnlyKeeps f1 f2 → (c : Child) (n : view.Node) → IsSheets hash f → IsRead hash f c n →
    IfSome (page_map_of f) (λ b. HasNode b c.id (page_node n)) → GainsNode f1.cache.cap (entries_of f1)
    (entries_of f2) c n →
    IsSheets hash f2
shown hash f f1 f2 reads only c n sheets read there gains =
    let same : f.layout.version ≡ f1.layout.version = ap (λ (l : Layout). l.version) (sym reads.file.layout) in
    kept_now hash f1 f2 only (read_sheets f f1 hash reads sheets) c n read.shape
    (subst (λ w. view.AreTold w n) same read.told) read.level
    (subst (λ w. hash (view.preimage_of w n) ≡ c.digest) same read.digest)
    (subst (λ o. IfSome o (λ b. HasNode b c.id (page_node n))) (sym (read_page_map f f1 reads)) there) gains

-- ---- a page was written, and then nothing is kept of it

module _ {S : Type 0} {G : Ghosts S} (hash : List ℕ → List ℕ) (f f1 f2 : CachedFile S G) (writes : OnlyWrites f f1)
    (only : OnlyKeeps f1 f2) (sheets : IsSheets hash f) (page : ℕ) where
  pub written : HasAllPages f1 → ChangesPage page (page_map_of f) (page_map_of f1) →
      Forgets page (entries_of f1) (entries_of f2) → IsSheets hash f2
  written pages changes forgets =
      let same : f1.layout ≡ f.layout = writes.file.layout in
      let among : Forgets page (entries_of f) (entries_of f2) =
      subst (λ es. Forgets page es (entries_of f2)) (ap (λ (m : LruCache ℕ CachedNode). m.entries) writes.cache)
      forgets in
      let cap : f1.cache.cap ≡ f.cache.cap = ap (λ (m : LruCache ℕ CachedNode). m.cap) writes.cache in
      kept_sheets f1 f2 hash only (record {
        sized = subst (λ (l : Layout). l.size ≡ (layout_by l.version).size) (sym same) sheets.sized;
        few = omega (arith, sheets.few, writes.file.pages);
        file_ = pages;
        kept = subst (λ (l : Layout). AreKept (by l.version hash) (page_map_of f1) (entries_of f2) f1.cache.cap)
            (sym same)
            (kept_elsewhere (by f.layout.version hash) (page_map_of f) (entries_of f) f.cache.cap sheets.kept page
            (page_map_of f1) (entries_of f2) f1.cache.cap among cap changes);
      })

-- the node that was written is kept
pub written_node : {S : Type 0} {G : Ghosts S} (hash : List ℕ → List ℕ) (f f1 f2 f3 : CachedFile S G) →
    OnlyWrites f f1 → OnlyKeeps f1 f2 → OnlyKeeps f2 f3 → (c : Child) (n : view.Node) → IsSheets hash f2 →
    view.IsView n → 1 ≤ view.size n → view.AreTold f.layout.version n → IsEntryOf (by f.layout.version hash) c n →
    page_map_of f1 ≡ option_map (with_content c.id (node_content (page_node n))) (page_map_of f) →
    GainsNode f2.cache.cap (entries_of f2) (entries_of f3) c n → IsSheets hash f3
written_node hash f f1 f2 f3 writes only keeps c n sheets is some told said put gains =
    let v = f.layout.version in
    let same : f2.layout ≡ f.layout = only.file.layout ∙ writes.file.layout in
    let back_to : v ≡ f2.layout.version = ap (λ (l : Layout). l.version) (sym same) in
    let here : page_map_of f2 ≡ option_map (with_content c.id (node_content (page_node n))) (page_map_of f) =
    kept_page_map f1 f2 only ∙ put in
    kept_now hash f2 f3 keeps sheets c n (view_shape v n is some told) (subst (λ w. view.AreTold w n) back_to told)
    (said_level (by v hash) c n said)
    (subst (λ w. hash (view.preimage_of w n) ≡ c.digest) back_to (said_digest (by v hash) c n said))
    (put_node (page_map_of f) (page_map_of f2) c.id (page_node n) here) gains

-- ---- a page was added, or none

module _ {S : Type 0} {G : Ghosts S} (hash : List ℕ → List ℕ) (f f' : CachedFile S G) (same : f'.layout ≡ f.layout)
    (cache : f'.cache ≡ f.cache) (pages : HasAllPages f') (sheets : IsSheets hash f) where
  with_kept : f'.pages ≤ page_limit → AreKept (by f.layout.version hash) (page_map_of f') (entries_of f) f.cache.cap →
      IsSheets hash f'
  with_kept few kept = record {
    sized = subst (λ (l : Layout). l.size ≡ (layout_by l.version).size) (sym same) sheets.sized;
    few = few;
    file_ = pages;
    kept = subst (λ (l : Layout). AreKept (by l.version hash) (page_map_of f') (entries_of f') f'.cache.cap) (sym same)
        (subst (λ (m : LruCache ℕ CachedNode). AreKept (by f.layout.version hash) (page_map_of f') m.entries m.cap)
        (sym cache)
        kept);
  }

  pub more_sheets : f.pages < page_limit → f'.pages ≡ f.pages + 1 → page_map_of f' ≡ option_map longer (page_map_of f) →
      IsSheets hash f'
  more_sheets few one more = with_kept (omega (arith, few, one))
      (kept_longer (by f.layout.version hash) (page_map_of f) (entries_of f) f.cache.cap sheets.kept
      (page_map_of f') more)

  pub lost_sheets : f'.pages ≡ f.pages → LosesPages (page_map_of f) (page_map_of f') → IsSheets hash f'
  lost_sheets none loses = with_kept (omega (arith, sheets.few, none))
      (kept_lost (by f.layout.version hash) (page_map_of f) (entries_of f) f.cache.cap sheets.kept (page_map_of f')
      loses)

  pub grown_sheets : {A E : Type 0} (r : Result A E) → OnOk r (f.pages < page_limit) →
      OnOk r (f'.pages ≡ f.pages + 1) → OnOk r (page_map_of f' ≡ option_map longer (page_map_of f)) →
      OnErr r (LosesPages (page_map_of f) (page_map_of f')) → OnErr r (f'.pages ≡ f.pages) → IsSheets hash f'
  grown_sheets (Ok a) few one more loses none = more_sheets few one more
  grown_sheets (Err e) few one more loses none = lost_sheets none loses
