-- What is listed of a map's pages as they are checked.
use Rattle.std.proofs.Common.{◌≡◌, ℕ, ◌≤◌, true, List, [], ◌∷◌, ◌++◌, map, Option, Some, None, refl, sym, ap, subst, ◌∙◌, arith, append_assoc}
use Rattle.std.specs.Prelude.{option_map, Result, Ok, Err, IfOk, IfSome}
use Rattle.std.specs.List.{flat_map}
use Rattle.std.proofs.lemmas.List.{append-nil, map-append}
use Rattle.mr_outside.specs.State.{Shelved}
use Rattle.mr_record.specs.declared.record.Record.{Record}
use Rattle.mr_tree.specs.Digest.{Scheme, by, entry}
use Rattle.mr_tree.specs.Tree.{records}
use Rattle.mr_tree.specs.View.{child_entry, children_in}
use Rattle.mr_tree.specs.declared.child.Child.{Child}
use Rattle.mr_tree.specs.declared.tree.Tree.{Tree}
use Rattle.mr_tree.proofs.Equations.{records-Empty, records-Leaf, records-Inner}
use Rattle.mr_pages.specs.declared.checking.Checked.{Checked}
use Rattle.mr_pages.specs.declared.head.MapHead.{MapHead}
use Rattle.mr_pages.specs.declared.node.Node as owned_type
use Rattle.mr_pages.specs.declared.node.Node.TheVariants as owned_node
use Rattle.mr_pages.specs.File.{File, file_of}
use Rattle.mr_pages.specs.Gathering.{AreMade, MakesTree, tree_over}
use Rattle.mr_pages.specs.Page.{Form, Link, IsForm, page_limit}
use Rattle.mr_pages.specs.Source.{CheckedWhole, ChecksFile, GivesFile}
use Rattle.mr_pages.specs.Stands.{Placed, link_of, whole_tree}
use Rattle.mr_pages.specs.Walking.{child_link, head_of, owned}
use Rattle.mr_pages.specs.private.Spelled.{placed_at}
use Rattle.mr_pages.specs.private.Walks.{on_shelf}
use Rattle.mr_pages.proofs.Agreement.{is_file}
use Rattle.mr_pages.proofs.AsRead.{reads_there}
use Rattle.mr_pages.proofs.Building.{of_images}
use Rattle.mr_batch.specs.Directory.{DirectoryEntries, IsDirectoryOf}
use Rattle.mr_store.specs.Kept.{CacheEntries}
use Rattle.mr_store.specs.Stored.{nodes_on_pages, read_map, top_in, IsListedAs, IsOpen}
use Rattle.mr_store.specs.declared.record_list.RecordList.{RecordList}
use Rattle.mr_store.specs.private.Laws.{opened}
use Rattle.mr_store.specs.private.Listing.{directory_entry, GathersDirectory, ListsMore, ListsNode, ListsSome}
use Rattle.mr_store.proofs.Openings.{as_file}

pub any_ok : {A E : Type 0} (r : Result A E) (P : A → Type 0) → ((x : A) → P x) → IfOk r P
any_ok (Ok x) P f = f x
any_ok (Err e) P f = tt

-- ---- one node behind those below it

none_more : (s : RecordList) → ListsMore s s []
none_more s = record { wanted = refl; entries = λ w. sym (append-nil s.entries.items) }

more_then : (s v u : RecordList) (rs qs : List Record) → ListsMore s v rs → ListsMore v u qs → ListsMore s u (rs ++ qs)
more_then s v u rs qs a b = record {
  wanted = b.wanted ∙ a.wanted;
  entries = λ w.
      b.entries (a.wanted ∙ w)
      ∙ ap (λ es. es ++ map directory_entry qs) (a.entries w)
      ∙ append_assoc s.entries.items (map directory_entry rs) (map directory_entry qs)
      ∙ ap (λ es. s.entries.items ++ es) (sym (map-append directory_entry rs qs));
}

-- what is made of a node is what is listed of its records and of those below it
abbrev pub Lists : RecordList → RecordList → Child → Unit {0} → Tree → Type 0
Lists s u c one t = ListsMore s u (records t)

all_more : (s u : RecordList) (cs : List Child) (ms : List (Unit {0})) (ts : List Tree) → AreMade Lists s u cs ms ts →
    ListsMore s u (flat_map records ts)
all_more s u [] [] [] all = subst (λ l. ListsMore s l []) (sym all) (none_more s)
all_more s u (c ∷ cs) (m ∷ ms) (t ∷ ts) all =
    more_then s all.0 u (records t) (flat_map records ts) all.1 (all_more all.0 u cs ms ts all.2)
all_more s u [] [] (t ∷ ts) all = absurd all
all_more s u [] (m ∷ ms) ts all = absurd all
all_more s u (c ∷ cs) [] ts all = absurd all
all_more s u (c ∷ cs) (m ∷ ms) [] all = absurd all

pub listed_over : (n : owned_type.Node) (before mid after : RecordList) (below : List (Unit {0})) (ts : List Tree) →
    AreMade Lists before mid (children_in (owned n)) below ts → ListsNode mid after n →
    ListsMore before after (records (tree_over n ts))
listed_over (owned_node.Leaf rs) before mid after [] [] all node =
    subst (ListsMore before after) (sym (records-Leaf rs.items)) (subst (λ l. ListsMore l after rs.items) all node)
listed_over (owned_node.Leaf rs) before mid after [] (t ∷ ts) all node = absurd all
listed_over (owned_node.Leaf rs) before mid after (m ∷ ms) ts all node = absurd all
listed_over (owned_node.Inner cs) before mid after below ts all node =
    subst (ListsMore before after) (sym (records-Inner ts ∙ of_images ts))
    (subst (λ l. ListsMore before l (flat_map records ts)) (sym node) (all_more before mid cs.items below ts all))

-- ---- the whole map

module _ (form : Form) (h : MapHead) (s u : RecordList) where
  below : (bytes : List ℕ) (root : Option Child) (made : Option (Unit {0})) →
      MakesTree Lists s u root made (file_of form bytes) →
      ListsMore s u (records (whole_tree (placed_at (file_of form bytes).node (option_map child_link root))))
  below bytes None None all =
      subst (ListsMore s u) (sym records-Empty) (subst (λ l. ListsMore s l []) (sym all) (none_more s))
  below bytes (Some c) (Some m) all = all
  below bytes None (Some m) all = absurd all
  below bytes (Some c) None all = absurd all

  pub whole_listed : (bytes : List ℕ) (made : Option (Unit {0})) → s.wanted ≡ true → s.entries.items ≡ [] →
      MakesTree Lists s u h.root made (file_of form bytes) →
      u.entries.items ≡ map directory_entry (records (whole_tree (nodes_on_pages form h bytes)))
  whole_listed bytes made wanted none all =
      let t = whole_tree (nodes_on_pages form h bytes) in
      (below bytes h.root made all).entries wanted ∙ ap (λ es. es ++ map directory_entry (records t)) none

  -- where the file is told
  pub told_listed : (o : Option (List ℕ)) (made : Option (Unit {0})) → s.wanted ≡ true → s.entries.items ≡ [] →
      ((f : File) → option_map (file_of form) o ≡ Some f → MakesTree Lists s u h.root made f) →
      IfSome (read_map form h o).tree (λ t. u.entries.items ≡ map directory_entry (records t))
  told_listed None made wanted none all = tt
  told_listed (Some bytes) made wanted none all =
      whole_listed bytes made wanted none (all (file_of form bytes) refl)

-- told or not
pub some_listed : (form : Form) (is : IsForm form) (hash : List ℕ → List ℕ) (pages : ℕ) (st : Shelved) (name : List ℕ)
    (some : 1 ≤ pages) (few : pages ≤ page_limit) (s u : RecordList) (c : Checked (Unit {0})) → s.wanted ≡ true →
    s.entries.items ≡ [] →
    GivesFile (on_shelf form (0, 0) pages st name)
    (CheckedWhole form.version hash (MakesTree Lists s u) pages (Ok c)) → ListsSome form hash c.head u.entries.items
some_listed form is hash pages st name some few s u c wanted none g =
    let same = as_file form is hash pages st name some few g.bytes g.size in
    let checks = subst (λ f. ChecksFile {M = Unit {0}} hash f (Ok c)) same (g.so.checks refl refl) in
    record {
      some = record { bytes = g.bytes; are = g.are; fault = checks.0; head = checks.1 };
      lists = whole_listed form c.head s u g.bytes c.made wanted none
          (subst (MakesTree Lists s u c.head.root c.made) same g.so.made);
    }

-- ---- the directory

module _ (form : Form) (is : IsForm form) (hash : List ℕ → List ℕ) (h : MapHead) (all d : DirectoryEntries)
    (gathers : GathersDirectory all d) where
  pub told_directory : (es : CacheEntries) (o : Option (List ℕ)) → IfSome o (IsOpen form hash h es) →
      IfSome (read_map form h o).tree (λ t. all ≡ map directory_entry (records t)) →
      IfSome (read_map form h o).tree (λ t. IsDirectoryOf d (records t))
  told_directory es None op lists = tt
  told_directory es (Some bytes) op lists =
      gathers (records (whole_tree (nodes_on_pages form h bytes))) lists
      (opened form is hash h es bytes op).reads.well.distinct

  said_root : (s : Scheme) (root : Option Child) (po : Option Placed) →
      option_map child_link root ≡ option_map (link_of s) po →
      IfSome root (λ c. entry s (whole_tree po) ≡ child_entry c)
  said_root s None po e = tt
  said_root s (Some c) None e = cc
  said_root s (Some c) (Some P) e =
      let same : child_link c ≡ link_of s P = cc in ap (λ (l : Link). l.entry) (sym same)

  pub some_directory : ListsSome form hash h all → IsListedAs hash (top_in form.version h) 0 0 d
  some_directory l =
      let bytes = l.some.bytes in
      let r = reads_there hash (file_of form bytes) (is_file form is bytes l.some.are) l.some.fault (head_of h)
      l.some.head in
      let t = whole_tree (nodes_on_pages form h bytes) in
      record {
        tree = t;
        well_formed = r.well;
        layers = r.layers;
        lists = gathers (records t) l.lists r.well.distinct;
        count = sym r.count;
        root = said_root (by form.version hash) h.root (nodes_on_pages form h bytes) r.root;
        few = omega arith;
      }
