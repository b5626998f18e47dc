-- What is known of a file whose pages are read one by one, before it is known to stand for a map.
use Rattle.std.specs.Prelude.{◌≡◌, ⊤, false, ℕ, ◌+◌, ◌/◌, ◌<◌, ◌≤◌, List, length, Contains, Option, Some, IfSome, IsSome, MatchOption, nat_eq}
use Rattle.std.specs.Map.{lookup}
use Rattle.mr_outside.specs.Files.{Files, file}
use Rattle.mr_outside.specs.Bytes.{AreBytes}
use Rattle.mr_outside.specs.declared.shelf.Shelf.{Ghosts}
use Rattle.mr_tree.specs.Digest.{Scheme, by}
use Rattle.mr_pages.specs.Page.{Form, page_limit}
use Rattle.mr_pages.specs.File.{file_of, is_odd_size}
use Rattle.mr_pages.specs.Source.{Sourced}
use Rattle.mr_pages.specs.private.Walks.{HasFirst, on_shelf}
use Rattle.mr_pages.specs.Walking.{page_node}
use Rattle.mr_store.specs.declared.cached_node.CachedNode.{CachedNode}
use Rattle.mr_store.specs.Kept.{CacheEntries, room, IsGood, node_of}
use Rattle.mr_pages.specs.Source.{told_bytes}
use Rattle.mr_store.specs.declared.cached_file.CachedFile.{CachedFile}
use Rattle.mr_store.specs.CachedFile.{state_of, name_of, page_form, entries_of}

-- the pages of the file, as a walk over them sees them
abbrev pub sourced : {S : Type 0} {G : Ghosts S} → CachedFile S G → Sourced
sourced f = on_shelf (page_form f) (0, 0) f.pages (state_of f) (name_of f)

-- the page is kept, where there is room for all pages
abbrev pub HoldsPage : ℕ → CacheEntries → ℕ → Type 0
HoldsPage pages es page = pages ≤ room + 1 → IsSome (lookup (nat_eq page) es)

-- a page that is kept is in the file, and what is kept of it is good
pub record IsGoodEntry (s : Scheme) (pages : ℕ) (e : ℕ × CachedNode) : Type 0 where
  pub low : 1 ≤ e.0
  pub within : e.0 < pages
  pub good : IsGood s pages e.1

-- where the file's bytes are told: they are so many pages, and each page that is kept holds what is
-- kept of it
pub record IsFileOf (form : Form) (pages : ℕ) (es : CacheEntries) (bytes : List ℕ) : Type 0 where
  pub are : AreBytes bytes
  pub even : is_odd_size form.size (length bytes) ≡ false
  pub count : pages ≡ length bytes / form.size
  pub same : (e : ℕ × CachedNode) → Contains es e →
      (file_of form bytes).node e.0 ≡ Some (page_node (node_of e.1.node))

-- page 0, which was read before, is the first of these pages
pub record IsPaging (form : Form) (hash : List ℕ → List ℕ) (told : Option Files) (name : List ℕ)
    (pages : ℕ) (first : List ℕ) (es : CacheEntries) (size : ℕ) : Type 0 where
  pub some : 1 ≤ pages
  pub few : pages ≤ page_limit
  pub cap : size ≡ room
  pub each : (e : ℕ × CachedNode) → Contains es e → IsGoodEntry (by form.version hash) pages e
  pub there : MatchOption told ⊤ (λ files. IsSome (file files name))
  pub headed : HasFirst form told name first
  pub file_ : IfSome (told_bytes told name) (IsFileOf form pages es)

-- the same of a file with its cache
abbrev pub IsUnchecked : {S : Type 0} {G : Ghosts S} → (List ℕ → List ℕ) → CachedFile S G →
    (first : List ℕ) → Type 0
IsUnchecked hash f first =
    IsPaging (page_form f) hash (state_of f).files (name_of f) f.pages first (entries_of f)
    f.cache.cap
