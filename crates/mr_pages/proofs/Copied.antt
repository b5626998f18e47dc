-- The nodes that a walk over a file without a fault put into a list are a snapshot of its map.
use Rattle.mr_record.specs.declared.version.Version.{Version}
use Rattle.std.proofs.Common.{Vec, Global, ◌≡◌, ℕ, true, List, [], ◌++◌, refl, sym, ap, subst, ◌∙◌}
use Rattle.std.specs.Prelude.{Option, Some, None, option_map, Ok}
use Rattle.std.proofs.lemmas.List.Elements.{All-nil}
use Rattle.mr_tree.specs.Digest.{by, entry}
use Rattle.mr_tree.specs.Nodes.{subtrees}
use Rattle.mr_tree.specs.WellFormed.{WellFormed}
use Rattle.mr_tree.specs.View.{child_entry}
use Rattle.mr_tree.specs.Snapshot as snapshot
use Rattle.mr_tree.specs.Snapshot.{AreLinked, IsRooted, IsSnapshot, trees}
use Rattle.mr_tree.specs.declared.child.Child.{Child}
use Rattle.mr_tree.specs.declared.entry.Entry.{Entry}
use Rattle.mr_tree.specs.declared.nodes.Top.{Top}
use Rattle.mr_tree.specs.declared.stored.Stored.{Stored}
use Rattle.mr_tree.specs.declared.tree.Tree.{Tree}
use Rattle.mr_tree.specs.declared.tree.Tree.TheVariants as tree
use Rattle.mr_tree.proofs.Reading.{rooted_empty, snapshot_of}
use Rattle.mr_pages.specs.Page.{Link}
use Rattle.mr_pages.specs.File.{File, IsFile}
use Rattle.mr_pages.specs.Faults.{mapfault}
use Rattle.mr_pages.specs.Gathering.{MakesTree}
use Rattle.mr_pages.specs.Stands.{link_of, tree_of, whole_tree}
use Rattle.mr_pages.specs.Walking.{child_link, head_of}
use Rattle.mr_pages.specs.private.Spelled.{place, placed_at}
use Rattle.mr_pages.specs.declared.head.MapHead.{MapHead}
use Rattle.mr_pages.proofs.AsRead.{ReadsAt, reads_there}
use Rattle.mr_pages.specs.Opening.{opened_in}
use Rattle.mr_pages.specs.Page.{Form, IsForm}
use Rattle.mr_pages.specs.File.{file_of}
use Rattle.mr_pages.specs.declared.checking.Checked.{Checked}
use Rattle.mr_pages.proofs.Agreement.{is_file}
use Rattle.mr_pages.proofs.Answered.{IsChecked, IsMadeOf}
use Rattle.mr_pages.proofs.Copies.{Copies}
use Rattle.mr_tree.specs.Nodes.{MapModel}

module _ {S : Type 0} (nodes : S → List Stored) (hash : List ℕ → List ℕ) (file : File) (s u : S)
    (none : nodes s ≡ []) where
  rooted_at : (root made : Option Child) →
      option_map child_link root ≡ option_map (link_of (by file.version hash))
      (placed_at file.node (option_map child_link root)) →
      MakesTree (Copies nodes (by file.version hash) true) s u root made file →
      IsRooted (by file.version hash) (nodes u) made (whole_tree (placed_at file.node (option_map child_link root)))
  rooted_at None None same made =
      rooted_empty (by file.version hash) (nodes u) tree.Empty (ap nodes made ∙ none) refl
  rooted_at (Some c) (Some m) same made =
      let P = place file.node c.level (child_link c) in
      let known : child_entry c ≡ entry (by file.version hash) (tree_of P) =
      ap (λ (l : Link). l.entry) (of_some (child_link c) (link_of (by file.version hash) P) same) in
      let linked : AreLinked (by file.version hash) (nodes s) =
      subst (AreLinked (by file.version hash)) (sym none) (record { each = All-nil _; over = refl }) in
      let placed = made.placed (λ is. ap (λ (e : Entry). e.count) known) linked in
      record {
        linked = placed.linked;
        whole = placed.grown ∙ ap (λ us. trees us ++ subtrees (tree_of P)) none;
        tree = placed.here;
        root = placed.link;
      }
    where
      of_some : (a b : Link) → Some a ≡ Some b → a ≡ b
      of_some a b e = cc
  rooted_at None (Some m) same made = absurd made
  rooted_at (Some c) None same made = absurd made

  module _ (is : IsFile file) (fault : mapfault hash file ≡ None) (h : MapHead) (sealed : file.head ≡ Ok (head_of h))
      (made : Option Child) (makes : MakesTree (Copies nodes (by file.version hash) true) s u h.root made file) where
    reads : ReadsAt hash file (head_of h) (placed_at file.node (option_map child_link h.root))
    reads = reads_there hash file is fault (head_of h) sealed

    rooted : IsRooted (by file.version hash) (nodes u) made
        (whole_tree (placed_at file.node (option_map child_link h.root)))
    rooted = rooted_at h.root made reads.root makes

    abbrev top : Top
    top = record { version = file.version; batch = h.batch; count = h.count; root = made }

    -- the tree that was read
    pub copied_tree : snapshot.tree_of (nodes u) top ≡ whole_tree (placed_at file.node (option_map child_link h.root))
    copied_tree = rooted.tree

    pub copied_well : WellFormed (snapshot.tree_of (nodes u) top)
    copied_well = subst WellFormed (sym rooted.tree) reads.well

    pub copied_whole : IsSnapshot hash (nodes u) top
    copied_whole =
        snapshot_of (by file.version hash) h.batch h.count
        (whole_tree (placed_at file.node (option_map child_link h.root))) reads.well reads.layers reads.count (nodes u)
        made rooted

-- ---- what was checked of the file's pages

-- what was put into a list of one's own
abbrev pub MakesList : (List ℕ → List ℕ) → (was now : Vec Stored Global) → Version → Option Child → Option Child
    → File → Type 0
MakesList hash was now v = MakesTree (Copies (λ (a : Vec Stored Global). a.items) (by v hash) true) was now

module _ {S : Type 0} (nodes : S → List Stored) (form : Form) (fits : IsForm form) (hash : List ℕ → List ℕ) (s u : S)
    (none : nodes s ≡ []) (c : Checked Child) where
  abbrev top_of : Top
  top_of = record { version = form.version; batch = c.head.batch; count = c.head.count; root = c.made }

  some_same : (a b : Tree) → ◌≡◌ {A = Option Tree} (Some a) (Some b) → a ≡ b
  some_same a b e = cc

  -- a snapshot of these nodes is of the tree
  pub snapshot_made : (ns : List Stored) (top : Top) →
      snapshot.snapshot_model ns top ≡ snapshot.snapshot_model (nodes u) top_of →
      IsMadeOf form hash (MakesTree (Copies nodes (by form.version hash) true) s u) c (opened_in ns top)
  snapshot_made ns top same = record {
    version = ap (λ (m : MapModel). m.version) same;
    batch = ap (λ (m : MapModel). m.batch) same;
    tree = λ bytes are checks made.
        some_same (snapshot.tree_of ns top) (snapshot.tree_of (nodes u) top_of) (ap (λ (m : MapModel). m.tree) same)
        ∙ copied_tree nodes hash (file_of form bytes) s u none (is_file form fits bytes are) checks.0 c.head checks.1
        c.made made;
  }

  module _ (bytes : List ℕ)
      (is : IsChecked form hash (MakesTree (Copies nodes (by form.version hash) true) s u) c bytes) where
    pub snapshot_whole : IsSnapshot hash (nodes u) top_of
    snapshot_whole =
        copied_whole nodes hash (file_of form bytes) s u none (is_file form fits bytes is.are) is.fault c.head is.head
        c.made is.made

    pub snapshot_well : WellFormed (snapshot.tree_of (nodes u) top_of)
    snapshot_well =
        copied_well nodes hash (file_of form bytes) s u none (is_file form fits bytes is.are) is.fault c.head is.head
        c.made is.made
