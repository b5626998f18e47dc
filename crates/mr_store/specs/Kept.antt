-- What a cache of node pages holds.
use Rattle.std.specs.Prelude.{◌≡◌, ◌≢◌, ℕ, ◌<◌, ◌≤◌, ◌⊎◌, ◌+◌, Bool, true, false, List, length, All, Contains, Some, IsSome, IsSomeAnd, nat_eq, ltb}
use Rattle.std.specs.Map.{lookup}
use Rattle.lru.specs.LruCache.{lru_cache, promoted, put_entries}
use Rattle.mr_tree.specs.Digest.{Scheme}
use Rattle.mr_tree.specs.View.{Node, AreTold, children_in, level_of, preimage_of}
use Rattle.mr_tree.specs.Snapshot.{HasShape}
use Rattle.mr_tree.specs.declared.child.Child.{Child}
use Rattle.mr_pages.specs.declared.node.Node as owned_type
use Rattle.mr_pages.specs.declared.node.Node.TheVariants as owned_node
use Rattle.mr_pages.specs.Walking.{owned}
use Rattle.mr_store.specs.declared.cached_node.CachedNode.{CachedNode}

abbrev pub node_of : owned_type.Node → Node
node_of = owned

-- the most pages besides page 0 that are all kept
abbrev pub room : ℕ
room = 256

-- whether a node is kept as the pages of a file are judged, where so many are kept already: an
-- inner node always, and a leaf where there is room
abbrev pub keeps_opened : (count : ℕ) → owned_type.Node → Bool
keeps_opened count (owned_node.Inner children) = true
keeps_opened count (owned_node.Leaf records) = ltb count room

-- the pages with what is kept of them
abbrev pub CacheEntries : Type 0
CacheEntries = List (ℕ × CachedNode)

-- the page is kept with the level and the digest of the child
pub record IsThat (c : Child) (k : CachedNode) : Type 0 where
  pub level : k.level ≡ c.level
  pub digest : k.digest ≡ c.digest

-- the page of the child is kept, with its level and its digest
abbrev pub IsHeld : CacheEntries → Child → Type 0
IsHeld es c = IsSomeAnd (lookup (nat_eq c.id) es) (IsThat c)

-- each child's page is in a file of so many pages, and not page 0
abbrev pub AreInside : ℕ → Node → Type 0
AreInside pages n = All (λ (c : Child). (1 ≤ c.id) × (c.id < pages)) (children_in n)

-- what is kept can be shown
pub record IsShown (k : CachedNode) : Type 0 where
  pub shape : HasShape (node_of k.node)
  pub level : level_of (node_of k.node) ≡ k.level

-- what is kept is a node of the version with this level and this digest, whose children are in the
-- file
pub record IsGood (s : Scheme) (pages : ℕ) (k : CachedNode) : Type 0 where
  pub shape : HasShape (node_of k.node)
  pub level : level_of (node_of k.node) ≡ k.level
  pub told : AreTold s.version (node_of k.node)
  pub digest : s.of (preimage_of s.version (node_of k.node)) ≡ k.digest
  pub inside : AreInside pages (node_of k.node)

-- the node of the child was found there
pub record IsFound (es : CacheEntries) (c : Child) (n : Node) : Type 0 where
  pub kept : CachedNode
  pub there : lookup (nat_eq c.id) es ≡ Some kept
  pub that : IsThat c kept
  pub node : n ≡ node_of kept.node

abbrev pub FindsNode : CacheEntries → Child → Bool → Node → Type 0
FindsNode es c true n = IsFound es c n
FindsNode es c false n = ¬ (IsHeld es c)

-- nothing is kept that was not before, and no page is dropped
pub record KeepsEntries (before after : CacheEntries) : Type 0 where
  pub none_new : (e : ℕ × CachedNode) → Contains after e → Contains before e
  pub none_lost : (page : ℕ) → IsSome (lookup (nat_eq page) before) →
      IsSome (lookup (nat_eq page) after)

-- the node of the child is what is kept
pub record IsKeptOf (c : Child) (n : Node) (e : ℕ × CachedNode) : Type 0 where
  pub page : e.0 ≡ c.id
  pub that : IsThat c e.1
  pub node : node_of e.1.node ≡ n

-- the node of the child was put there
pub record GainsNode (room : ℕ) (before after : CacheEntries) (c : Child) (n : Node) : Type 0 where
  pub each : (e : ℕ × CachedNode) → Contains after e → Contains before e ⊎ IsKeptOf c n e
  pub put : IsSome (lookup (nat_eq c.id) after)
  pub held : IsHeld after c
  -- no page is dropped where it was there before, or there is room
  pub none_lost : IsSome (lookup (nat_eq c.id) before) ⊎ (length before < room) → (page : ℕ) →
      IsSome (lookup (nat_eq page) before) →
      IsSome (lookup (nat_eq page) after)

-- nothing is kept that was not before, of this page nothing, and of each other what was before
pub record Forgets (page : ℕ) (before after : CacheEntries) : Type 0 where
  pub none_new : (e : ℕ × CachedNode) → Contains after e → Contains before e
  pub gone : (e : ℕ × CachedNode) → Contains after e → e.0 ≢ page
  pub others : (other : ℕ) → other ≢ page →
      lookup (nat_eq other) after ≡ lookup (nat_eq other) before

-- ---- the order of the last use, and what is dropped

-- the pages that are kept, the one that was used last first, once this one is used
abbrev pub used : (page : ℕ) → CacheEntries → CacheEntries
used page es = promoted (nat_eq page) es

-- The node of the child was put: it is now the one that was used last, and takes the place of what
-- was kept of its page. Where nothing was, and the cache is full, the one that was used longest ago
-- is dropped, and no other.
pub record PutsNode (room : ℕ) (before after : CacheEntries) (c : Child) (n : Node) : Type 0 where
  pub kept : CachedNode
  pub that : IsThat c kept
  pub node : node_of kept.node ≡ n
  pub entries : after ≡ put_entries nat_eq (lru_cache before room) c.id kept
