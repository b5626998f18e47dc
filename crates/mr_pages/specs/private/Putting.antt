-- How the pages of a tree's nodes are put one behind the other.
use Rattle.std.specs.Prelude.{◌≡◌, ◌≢◌, ⊤, ℕ, suc, ◌+◌, ◌*◌, ◌≤◌, List, ◌++◌, length, map, take, replicate, All, Option, option_map}
use Rattle.std.specs.List.{flat_map}
use Rattle.mr_record.specs.declared.version.Version.{Version}
use Rattle.mr_tree.specs.Limits.{level_limit, leaf_limit, inner_limit}
use Rattle.mr_tree.specs.Tree.{level}
use Rattle.mr_tree.specs.Digest.{by}
use Rattle.mr_tree.specs.WellFormed.{HasOneLevel}
use Rattle.mr_tree.specs.View.{MayTell}
use Rattle.mr_tree.specs.declared.child.Child.{Child}
use Rattle.mr_tree.specs.declared.entry.Entry.{Entry}
use Rattle.mr_tree.specs.declared.tree.Tree.{Tree}
use Rattle.mr_tree.specs.declared.tree.Tree.TheVariants as tree
use Rattle.mr_tree.specs.declared.tree.Tree.TheOpen.{Tree-F, Empty, Leaf, Inner}
use Rattle.mr_tree.specs.declared.tree.Tree.TheFolds.{every-Tree}
use Rattle.mr_pages.specs.declared.putting.LeavesLeft.{LeavesLeft}
use Rattle.mr_pages.specs.Page.{Form}
use Rattle.mr_pages.specs.Stands.{Row, pages_of, all_pages, link_of, links_of}
use Rattle.mr_pages.specs.Walking.{child_link}
use Rattle.mr_pages.specs.Saved.{number_row, numbered, numbered_whole, nodes_of, all_nodes, saved_nodes, saved_pages}

-- the children of one inner node, as a page of this version may name them
pub record AreSiblings (v : Version) (links : List Child) : Type 0 where
  pub some : 1 ≤ length links
  pub few : length links ≤ inner_limit
  -- the node's level
  pub above : ℕ
  pub low : 1 ≤ above
  pub high : above ≤ level_limit
  pub below : All (λ (c : Child). c.level + 1 ≡ above) links
  pub told : All (λ (c : Child). MayTell v c.mask c.count) links

-- the entries that are left
abbrev pub left : LeavesLeft → List Entry
left l = l.entries.now

-- as many entries as a page holds, and one at least
abbrev pub HasEntries : Tree-F Tree → Type 0
HasEntries Empty = ⊤
HasEntries (Leaf records) = (1 ≤ length records) × (length records ≤ leaf_limit)
HasEntries (Inner children) = (1 ≤ length children) × (length children ≤ inner_limit)

-- a tree whose nodes fit pages
pub record CanBePut (t : Tree) : Type 0 where
  pub there : t ≢ tree.Empty
  pub one_level : every-Tree HasOneLevel t
  pub entries : every-Tree HasEntries t
  pub shallow : level t ≤ level_limit

-- the pages of the tree's nodes, from this one on, were put behind the others, and this is said of
-- the tree
pub record IsPut (form : Form) (hash : List ℕ → List ℕ) (t : Tree) (page : ℕ)
    (before after : List ℕ) (child : Child) : Type 0 where
  pub pages : after
      ≡ before ++ flat_map form.node_page (nodes_of (by form.version hash) (numbered t page))
  pub size : length after ≡ length before + length (pages_of (numbered t page)) * form.size
  pub link : child_link child ≡ link_of (by form.version hash) (numbered t page)

-- the first children of a node, with their pages from n on
abbrev pub some_row : (n : ℕ) → List Tree → ℕ → Row
some_row n ts i = number_row n (map numbered (take i ts))

-- the pages of the nodes below the first children were put behind the zeros for their node's page,
-- which stands behind the others, and this is said of them
pub record PutSoFar (form : Form) (hash : List ℕ → List ℕ) (ts : List Tree) (i page : ℕ)
    (before now : List ℕ) (links : List Child) : Type 0 where
  pub pages : now ≡ (before ++ replicate form.size 0) ++ flat_map form.node_page
      (all_nodes (by form.version hash) (some_row (suc page) ts i))
  pub links_are : map child_link links
      ≡ links_of (by form.version hash) (some_row (suc page) ts i)
  pub size : length now
      ≡ length before + suc (length (all_pages (some_row (suc page) ts i))) * form.size

-- the pages of a map's file while page 0 is zeros, and what is said of the root
pub record IsImage (form : Form) (hash : List ℕ → List ℕ) (t : Tree) (pages : List ℕ)
    (root : Option Child) : Type 0 where
  pub bytes : pages ≡ replicate form.size 0 ++ saved_nodes form hash t
  pub size : length pages ≡ saved_pages t * form.size
  pub link : option_map child_link root
      ≡ option_map (link_of (by form.version hash)) (numbered_whole t)
