-- The file that a map is saved as: its nodes in preorder from page 1 on, and no free page.
use Rattle.std.specs.Prelude.{◌≡◌, ◌≤◌, ◌⊎◌, Result, IsErrOf, OnOk, ℕ, suc, ◌+◌, List, [], ◌∷◌, ◌++◌, length, Option, Some, None, option_map}
use Rattle.std.specs.List.{flat_map}
use Rattle.mr_tree.specs.Tree.{records}
use Rattle.mr_tree.specs.Digest.{Scheme, by}
use Rattle.mr_tree.specs.declared.tree.Tree.{Tree}
use Rattle.mr_tree.specs.declared.tree.Tree.TheOpen as node
use Rattle.mr_tree.specs.declared.tree.Tree.TheViews.{out-Tree}
use Rattle.mr_tree.specs.declared.tree.Tree.TheFolds.{fold-Tree}
use Rattle.mr_outside.specs.Faults.{Rose}
use Rattle.mr_outside.specs.Files.{Files, with_file}
use Rattle.mr_outside.specs.State.{Shelved}
use Rattle.mr_outside.specs.Writing.{IsChanged}
use Rattle.mr_outside.specs.declared.shelf.ShelfErr.{ShelfErr}
use Rattle.mr_outside.specs.declared.shelf.ShelfErr.TheVariants as shelf
use Rattle.mr_pages.specs.declared.rule.MapRule.TheVariants as rule
use Rattle.mr_pages.specs.File.{file_of, form_at}
use Rattle.mr_pages.specs.Faults.{mapfault}
use Rattle.mr_pages.specs.Page.{Node, Head, Form}
use Rattle.mr_pages.specs.Stands.{Placed, Row, Leaf, Inner, no_more, first, pages_of, whole_pages, link_of, links_of}

-- ---- a tree whose nodes have the pages from n on, a node before its children

abbrev pub number_row : ℕ → List (ℕ → Placed) → Row
number_row n [] = no_more
number_row n (f ∷ fs) = first (f n) (number_row (n + length (pages_of (f n))) fs)

abbrev pub number_step : node.Tree-F (ℕ → Placed) → ℕ → Placed
number_step node.Empty n = Leaf n []
number_step (node.Leaf rs) n = Leaf n rs
number_step (node.Inner fs) n = Inner n (number_row (suc n) fs)

abbrev pub numbered : Tree → (n : ℕ) → Placed
numbered = fold-Tree (ℕ → Placed) number_step

-- the same, none where the tree is empty
abbrev pub unless_empty : node.Tree-F Tree → Placed → Option Placed
unless_empty node.Empty P = None
unless_empty _ P = Some P

abbrev pub numbered_whole : Tree → Option Placed
numbered_whole t = unless_empty (out-Tree t) (numbered t 1)

-- ---- the nodes and what they hold of their children, a node before its children

abbrev mutual
  pub nodes_of : Scheme → Placed → List Node
  nodes_of s (Leaf p rs) = node.Leaf rs ∷ []
  nodes_of s (Inner p Ps) = node.Inner (links_of s Ps) ∷ all_nodes s Ps

  pub all_nodes : Scheme → Row → List Node
  all_nodes s no_more = []
  all_nodes s (first P Ps) = nodes_of s P ++ all_nodes s Ps

abbrev pub whole_nodes : Scheme → Option Placed → List Node
whole_nodes s None = []
whole_nodes s (Some P) = nodes_of s P

-- ---- the file

-- how many pages
abbrev pub saved_pages : Tree → ℕ
saved_pages t = suc (length (whole_pages (numbered_whole t)))

abbrev pub saved_head : Form → (List ℕ → List ℕ) → Tree → (batch : ℕ) → Head
saved_head form hash t batch = record {
  batch = batch;
  count = length (records t);
  pages = saved_pages t;
  root = option_map (link_of (by form.version hash)) (numbered_whole t);
  free = 0;
}

-- the pages behind page 0
abbrev pub saved_nodes : Form → (List ℕ → List ℕ) → Tree → List ℕ
saved_nodes form hash t =
    flat_map form.node_page (whole_nodes (by form.version hash) (numbered_whole t))

abbrev pub saved : Form → (List ℕ → List ℕ) → Tree → (batch : ℕ) → List ℕ
saved form hash t batch =
    form.head_page (saved_head form hash t batch) ++ saved_nodes form hash t

-- ---- what stands while it is not saved

-- bytes that are no map, whichever version they say: they are no whole pages or have no seal
abbrev pub IsUnsealed : (List ℕ → List ℕ) → (bytes : List ℕ) → Type 0
IsUnsealed hash bytes =
    (mapfault hash (file_of (form_at bytes) bytes)
    ≡ Some (record { page = 0; rule = rule.Size }))
    ⊎ (mapfault hash (file_of (form_at bytes) bytes)
    ≡ Some (record { page = 0; rule = rule.Unsealed }))

-- what a save that is refused may leave: no map yet, or all
abbrev pub MayStand : Form → (List ℕ → List ℕ) → Tree → (batch : ℕ) → (bytes : List ℕ) → Type 0
MayStand form hash t batch bytes =
    IsUnsealed hash bytes ⊎ (bytes ≡ saved form hash t batch)

-- the files are as before, or the named one has such bytes and each other is as before
abbrev pub LeavesFile : (List ℕ → Type 0) → (name : List ℕ) → (before after : Option Files) → Type 0
LeavesFile P name before after =
    (after ≡ before) ⊎ ((bytes : List ℕ) × P bytes × IsChanged (with_file name) bytes before after)

-- each refusal has its cause: Missing comes only where no files are told, since the call makes its
-- file
pub record SaveCauses {A : Type 0} (before after : Shelved) (result : Result A ShelfErr)
    : Type 0 where
  pub missing : IsErrOf result shelf.Missing → Rose before.faults after.faults
  pub untold : IsErrOf result shelf.Missing → before.files ≡ None
  pub fault : IsErrOf result shelf.Fault → Rose before.faults after.faults
  pub faults : before.faults ≤ after.faults
  pub quiet : OnOk result (after.faults ≡ before.faults)
