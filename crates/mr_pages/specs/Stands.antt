-- Trees whose nodes have pages, and which files stand for a map.
use Rattle.std.specs.Prelude.{◌≡◌, ◌≢◌, ◌↔◌, ⊤, ℕ, ◌*◌, ◌^◌, ◌<◌, ◌≤◌, List, [], ◌∷◌, ◌++◌, length, AllPairs, Contains, Option, Some, None, option_map, IfSome}
use Rattle.mr_record.specs.declared.record.Record.{Record}
use Rattle.mr_tree.specs.Tree.{records}
use Rattle.mr_tree.specs.Digest.{Scheme, by, entry}
use Rattle.mr_tree.specs.declared.tree.Tree.{Tree}
use Rattle.mr_tree.specs.declared.tree.Tree.TheVariants as tree
use Rattle.mr_tree.specs.declared.tree.Tree.TheOpen as node
use Rattle.mr_pages.specs.Page.{Link, Node, Head, Form, page_limit}
use Rattle.mr_pages.specs.File.{page_at}

-- ---- trees whose nodes have pages

mutual
  -- a tree with a page for each of its nodes
  pub data Placed : Type 0 where
    Leaf : ℕ → List Record → Placed
    Inner : ℕ → Row → Placed

  -- such trees side by side, left to right
  pub data Row : Type 0 where
    no_more : Row
    first : Placed → Row → Row

abbrev mutual
  -- the tree alone
  pub tree_of : Placed → Tree
  tree_of (Leaf p rs) = tree.Leaf rs
  tree_of (Inner p Ps) = tree.Inner (trees_of Ps)

  pub trees_of : Row → List Tree
  trees_of no_more = []
  trees_of (first P Ps) = tree_of P ∷ trees_of Ps

abbrev mutual
  -- the pages of all nodes, a node's before its children's
  pub pages_of : Placed → List ℕ
  pages_of (Leaf p rs) = p ∷ []
  pages_of (Inner p Ps) = p ∷ all_pages Ps

  pub all_pages : Row → List ℕ
  all_pages no_more = []
  all_pages (first P Ps) = pages_of P ++ all_pages Ps

-- the page of the root node
abbrev pub page_of : Placed → ℕ
page_of (Leaf p rs) = p
page_of (Inner p Ps) = p

-- what whoever names the tree has to say of it
abbrev pub link_of : Scheme → Placed → Link
link_of s P = record { page = page_of P; entry = entry s (tree_of P) }

abbrev pub links_of : Scheme → Row → List Link
links_of s no_more = []
links_of s (first P Ps) = link_of s P ∷ links_of s Ps

-- ---- what has to stand on the pages

abbrev mutual
  -- each node stands on its page, a leaf with its records and an inner node with a link to each
  -- child; `on p n` says that node n stands on page p
  pub IsWritten : Scheme → (on : ℕ → Node → Type 0) → Placed → Type 0
  IsWritten s on (Leaf p rs) = on p (node.Leaf rs)
  IsWritten s on (Inner p Ps) = on p (node.Inner (links_of s Ps)) × AreWritten s on Ps

  pub AreWritten : Scheme → (on : ℕ → Node → Type 0) → Row → Type 0
  AreWritten s on no_more = ⊤
  AreWritten s on (first P Ps) = IsWritten s on P × AreWritten s on Ps

-- these pages follow one another from f on, the last one naming page 0; `names p g` says that p is
-- a free page which names g
abbrev pub IsChain : (names : ℕ → ℕ → Type 0) → ℕ → List ℕ → Type 0
IsChain names f [] = f ≡ 0
IsChain names f (p ∷ ps) = (g : ℕ) × (f ≡ p) × names p g × IsChain names g ps

-- these are the pages of a file of n pages but page 0, each once
pub record AreAllPages (n : ℕ) (pages : List ℕ) : Type 0 where
  pub each : (p : ℕ) → Contains pages p ↔ ((0 < p) × (p < n))
  pub once : AllPairs (λ (p q : ℕ). p ≢ q) pages

-- the tree, empty where there is no root
abbrev pub whole_tree : Option Placed → Tree
whole_tree None = tree.Empty
whole_tree (Some P) = tree_of P

abbrev pub whole_pages : Option Placed → List ℕ
whole_pages None = []
whole_pages (Some P) = pages_of P

abbrev pub HasNode : Form → List ℕ → ℕ → Node → Type 0
HasNode form bytes p n = page_at form bytes p ≡ form.node_page n

abbrev pub HasFree : Form → List ℕ → ℕ → ℕ → Type 0
HasFree form bytes p g = page_at form bytes p ≡ form.free_page g

-- The pages but page 0: each node of the tree has exactly one, and each other page is exactly once
-- on the chain of free pages, which begins at this one.
pub record IsLaidOn (form : Form) (hash : List ℕ → List ℕ) (bytes : List ℕ) (pages : ℕ)
    (placed : Option Placed) (first_free : ℕ) : Type 0 where
  pub written : IfSome placed (IsWritten (by form.version hash) (HasNode form bytes))
  pub chain : List ℕ
  pub linked : IsChain (HasFree form bytes) first_free chain
  pub all : AreAllPages pages (whole_pages placed ++ chain)

-- The file stands for this tree at this batch. Which node has which page is left open.
pub record StandsForTree (form : Form) (hash : List ℕ → List ℕ) (bytes : List ℕ) (t : Tree)
    (batch : ℕ)
    : Type 0 where
  pub head : Head
  -- whole pages, and so many
  pub size : length bytes ≡ head.pages * form.size
  pub some : 0 < head.pages
  pub few : head.pages ≤ page_limit
  -- page 0, and what it says
  pub sealed : page_at form bytes 0 ≡ form.head_page head
  pub at_batch : head.batch ≡ batch
  pub batch_fits : batch < 2 ^ 64
  pub count : head.count ≡ length (records t)
  pub placed : Option Placed
  pub root : head.root ≡ option_map (link_of (by form.version hash)) placed
  -- the other pages
  pub tree : whole_tree placed ≡ t
  pub lies : IsLaidOn form hash bytes head.pages placed head.free
