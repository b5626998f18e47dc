-- What a walk over a map's nodes lists is what its tree has.
use Rattle.std.proofs.Common.{◌≡◌, ℕ, true, ◌+◌, ◌<◌, ◌≤◌, List, [], ◌∷◌, ◌++◌, length, map, get_or, take, Option, Some, None, refl, sym, ap, subst, ◌∙◌, arith, append_assoc}
use Rattle.std.specs.Prelude.{IfSome, IsSome, IsSomeAnd, IsNone}
use Rattle.std.specs.List.{flat_map}
use Rattle.std.proofs.Math.Logic.{∥∥₁_elim}
use Rattle.std.proofs.lemmas.List.{append-nil, length-map, map-append, take_more}
use Rattle.mr_record.specs.declared.record.Record.{Record}
use Rattle.mr_record.specs.declared.version.Version.{Version}
use Rattle.mr_record.specs.Version.{told}
use Rattle.mr_tree.specs.Digest.{Scheme, by, entry}
use Rattle.mr_tree.specs.declared.entry.Entry.{Entry}
use Rattle.mr_tree.specs.View.{child_entry}
use Rattle.mr_tree.specs.WellFormed.{IsFilledRoot, WellFormed}
use Rattle.mr_tree.specs.Tree.{records}
use Rattle.mr_tree.specs.Nodes.{MapModel, IsTop, MayFetch, HasSomeCause, tree_under}
use Rattle.mr_tree.specs.declared.child.Child.{Child}
use Rattle.mr_tree.specs.declared.nodes.NodesErr.{NodesErr}
use Rattle.mr_tree.specs.declared.nodes.NodesErr.TheVariants as errors
use Rattle.mr_tree.specs.declared.nodes.Top.{Top}
use Rattle.mr_tree.specs.declared.tree.Tree.{Tree}
use Rattle.mr_tree.specs.declared.tree.Tree.TheVariants as tree
use Rattle.mr_tree.specs.declared.tree.Tree.TheViews.{out-Tree}
use Rattle.mr_tree.proofs.Equations.{entry_count, entry_level, records-Empty, records-Leaf, records-Inner}
use Rattle.mr_tree.proofs.Told.{count_told}
use Rattle.mr_pages.specs.Faults.{numbers_of}
use Rattle.mr_pages.specs.private.Numbers.{count_kept}
use Rattle.mr_pages.specs.declared.visited.Visited.{Visited}
use Rattle.mr_pages.proofs.AsRead.{numbers_apart, records_apart}
use Rattle.mr_pages.proofs.Building.{of_images}
use Rattle.mr_pages.proofs.Lists.{apart_fresh, fresh_apart}
use Rattle.mr_batch.specs.Directory.{DirectoryEntries, IsDirectoryOf}
use Rattle.mr_store.specs.private.Walk.{CanWalk, IsCounted, GathersAll, HasSeenNone, Walked, StopsWalk}
use Rattle.mr_store.specs.private.Listing.{directory_entry, AreApart, ListsAt, GathersDirectory, HasAt, ListsTree, CanList, CanListAll}
use Rattle.mr_store.specs.Stored.{IsListedAs}
use Rattle.mr_store.proofs.Walks.{some_same}
use Rattle.mr_store.proofs.Wholes.{empty_layers, empty_well}

-- ---- the records of a leaf

-- one more
pub listed_more : (before old : DirectoryEntries) (rs : List Record) (i : ℕ) (r : Record) → i < length rs →
    r ≡ get_or rs i r → old ≡ before ++ map directory_entry (take i rs) →
    old ++ directory_entry r ∷ [] ≡ before ++ map directory_entry (take (i + 1) rs)
listed_more before old rs i r within here is =
    let more : take (i + 1) rs ≡ take i rs ++ r ∷ [] =
    take_more rs i r within ∙ ap (λ x. take i rs ++ x ∷ []) (sym here) in
    ap (λ all. all ++ directory_entry r ∷ []) is
    ∙ append_assoc before (map directory_entry (take i rs)) (directory_entry r ∷ [])
    ∙ ap (λ all. before ++ all) (sym (map-append directory_entry (take i rs) (r ∷ [])) ∙ ap (map directory_entry)
    (sym more))

pub listed_leaf : (before : DirectoryEntries) (rs : List Record) →
    before ++ map directory_entry rs ≡ before ++ map directory_entry (records (tree.Leaf rs))
listed_leaf before rs = ap (λ qs. before ++ map directory_entry qs) (sym (records-Leaf rs))

pub listed_inner : (before : DirectoryEntries) (us : List Tree) →
    before ++ map directory_entry (flat_map records us) ≡ before ++ map directory_entry (records (tree.Inner us))
listed_inner before us = ap (λ qs. before ++ map directory_entry qs) (sym (records-Inner us ∙ of_images us))

-- ---- one after another

module _ {S : Type 0} (entries : S → DirectoryEntries) where
  abbrev pub Lists : S → S → Child → Tree → Type 0
  Lists s t c u = entries t ≡ entries s ++ map directory_entry (records u)

  pub all_listed : (s u : S) (cs : List Child) (ts : List Tree) → GathersAll Lists s u cs ts →
      entries u ≡ entries s ++ map directory_entry (flat_map records ts)
  unfolding GathersAll
  all_listed s u [] [] same = ap entries same ∙ sym (append-nil (entries s))
  all_listed s u (c ∷ cs) (t ∷ ts) all =
      all_listed all.0 u cs ts all.2 ∙ ap (λ es. es ++ map directory_entry (flat_map records ts)) all.1
      ∙ append_assoc (entries s) (map directory_entry (records t)) (map directory_entry (flat_map records ts))
      ∙ ap (λ es. entries s ++ es) (sym (map-append directory_entry (records t) (flat_map records ts)))
  all_listed s u [] (t ∷ ts) all = absurd all
  all_listed s u (c ∷ cs) [] all = absurd all

-- ---- the whole map

pub can_begin : (s : MapModel) (root : Child) (seen : Visited) → HasSeenNone seen → CanList s root →
    CanWalk s true seen root
can_begin s root seen none can = record {
  pages = none.0;
  ns = [];
  saw = none.1;
  full = can.full;
  fresh = λ t e. apart_fresh (numbers_of (records t)) (numbers_apart (records t) (can.apart t e));
}

-- where the tree is told, its root has the count that is said
told_count : (v : Version) (hash : List ℕ → List ℕ) (s : MapModel) (c : Child) (t : Tree) → s.version ≡ v →
    MayFetch hash s c → IsSome s.tree → s.node c.id ≡ Some t → IsCounted true c (entry (by v hash) t).count
told_count v hash s c t one may told is root =
    ap (λ (e : Entry). e.count) (subst (λ o. IsSomeAnd o (λ u. child_entry c ≡ entry (by s.version hash) u)) is
    (may.known told) ∙ ap (λ u. entry (by u hash) t) one)

pub lists_at : (v : Version) (hash : List ℕ → List ℕ) (s : MapModel) (c : Child) (start all : DirectoryEntries)
    (met now : Visited) (f f' : ℕ) → s.version ≡ v → MayFetch hash s c → start ≡ [] → HasSeenNone met →
    Walked (by v hash) s true c met now f f' (λ t. all ≡ start ++ map directory_entry (records t)) → ListsAt s c all
lists_at v hash s c start all met now f f' one may empty none walked told =
    let t = walked.under in
    let is = walked.is (told_count v hash s c t one may told (walked.same told)) in (
      t,
      walked.same told,
      is.made ∙ ap (λ before. before ++ map directory_entry (records t)) empty,
      records_apart (records t) (fresh_apart [] (numbers_of (records t)) (walked.met none.0 [] none.1).0),
    )

pub has_at : (s : MapModel) (c : Child) (all d : DirectoryEntries) → ListsAt s c all → GathersDirectory all d →
    HasAt s c d
has_at s c all d lists gathers told =
    let l = lists told in
    (l.0, l.1, gathers (records l.0) l.2 l.3)

-- ---- told or not

module _ (x : Scheme) (s : MapModel) (root : Child) (start all : DirectoryEntries) (met now : Visited)
    (f f' count : ℕ) (none : HasSeenNone met)
    (walked : Walked x s true root met now f f' (λ t. all ≡ start ++ map directory_entry (records t))) where
  abbrev t : Tree
  t = walked.under

  -- as many numbers were met as the tree has records
  met_all : count_kept now.numbers ≡ length (records t)
  met_all =
      (walked.met none.0 [] none.1).1.met.count ∙ length-map (records t) (λ (r : Record). r.number)

  pub lists_tree : start ≡ [] → root.count ≡ told x.version count → count_kept now.numbers ≡ count →
      ListsTree x root count f f' (λ rs. all ≡ map directory_entry rs)
  lists_tree empty said same =
      let many : length (records t) ≡ count = sym met_all ∙ same in
      let made = walked.is
      (λ e. said ∙ ap (told x.version) (sym many) ∙ sym (entry_count x t ∙ count_told x.version t)) in
      record {
        tree = t;
        known = made.known;
        fine = walked.fine;
        apart = records_apart (records t) (fresh_apart [] (numbers_of (records t)) (walked.met none.0 [] none.1).0);
        counted = many;
        lists = made.made ∙ ap (λ before. before ++ map directory_entry (records t)) empty;
        once = walked.once;
      }

  pub miscounted : (a b : ℕ) → (1 ≤ root.id) × (root.id < s.span) → b ≡ a → (count_kept now.numbers ≡ count → ⊥) →
      StopsWalk s a b (CanListAll s root count) (errors.Page root.id)
  miscounted a b id quiet other =
      (id, quiet, λ is_told can. other (met_all ∙ sym (can.counted t (walked.same is_told))))

pub tree_gathered : (x : Scheme) (root : Child) (count f f' : ℕ) (all d : DirectoryEntries) →
    ListsTree x root count f f' (λ rs. all ≡ map directory_entry rs) → GathersDirectory all d →
    ListsTree x root count f f' (IsDirectoryOf d)
tree_gathered x root count f f' all d l gathers = record {
  tree = l.tree;
  known = l.known;
  fine = l.fine;
  apart = l.apart;
  counted = l.counted;
  lists = gathers (records l.tree) l.lists l.apart;
  once = l.once;
}

-- a map without a node
pub none_listed : (hash : List ℕ → List ℕ) (s : MapModel) (top : Top) (f : ℕ) (d : DirectoryEntries) →
    IsTop hash s top → top.root ≡ None → IsDirectoryOf d [] → IsListedAs hash top f f d
none_listed hash s top f d is root lists = record {
  tree = tree.Empty;
  well_formed = empty_well;
  layers = empty_layers top.version;
  lists = subst (IsDirectoryOf d) (sym records-Empty) lists;
  count = ap length records-Empty ∙ sym (is.none.1 (subst (IsNone {T = Child}) (sym root) refl));
  root = subst (λ o. IfSome o (λ c. entry (by top.version hash) tree.Empty ≡ child_entry c)) (sym root) tt;
  few = omega arith;
}

-- a map with a root
pub some_listed : (hash : List ℕ → List ℕ) (s : MapModel) (top : Top) (r : Child) (f f' : ℕ) (d : DirectoryEntries) →
    IsTop hash s top → top.root ≡ Some r → ListsTree (by top.version hash) r top.count f f' (IsDirectoryOf d) →
    IsListedAs hash top f f' d
some_listed hash s top r f f' d is root l = record {
  tree = l.tree;
  well_formed = record {
    one_level = l.fine.one_level;
    shallow = omega (arith, may.low, ap (λ (e : Entry). e.level) l.known, entry_level (by top.version hash) l.tree);
    filled = l.fine.filled;
    distinct = l.apart;
    each = l.fine.each;
    few = omega (arith, is.few, l.counted);
  };
  layers = l.fine.layers;
  lists = l.lists;
  count = l.counted;
  root = subst (λ o. IfSome o (λ c. entry (by top.version hash) l.tree ≡ child_entry c)) (sym root) (sym l.known);
  few = l.once;
}
  where
    may : MayFetch hash s r
    may = subst (λ o. IfSome o (MayFetch hash s)) root is.root

-- ---- why it stops

module _ (hash : List ℕ → List ℕ) (s : MapModel) (top : Top) (r : Child) (is : IsTop hash s top)
    (root : top.root ≡ Some r) where
  under : (u : Tree) → s.tree ≡ Some u → s.node r.id ≡ Some u
  under u told =
      subst (λ o. tree_under s o ≡ Some u) root
      (subst (λ x. IfSome x (λ v. tree_under s top.root ≡ Some v)) told is.tree)

  same : (u v : Tree) → s.tree ≡ Some u → s.node r.id ≡ Some v → u ≡ v
  same u v told e = some_same u v (sym (under u told) ∙ e)

  can_start : (u : Tree) → s.tree ≡ Some u → WellFormed u → CanListAll s r top.count
  can_start u told well = record {
    can = record {
      full = λ v e. subst (λ w. IsFilledRoot (out-Tree w)) (same u v told e) well.filled;
      apart = λ v e. subst (λ w. AreApart (records w)) (same u v told e) well.distinct;
    };
    counted = λ v e. subst (λ w. top.count ≡ length (records w)) (same u v told e)
        (subst (λ x. IfSome x (λ w. top.count ≡ length (records w))) told is.count);
  }

  pub all_refuses : (a b : ℕ) (e : NodesErr) → IfSome s.tree (λ u. ∥ WellFormed u ∥₁) →
      StopsWalk s a b (CanListAll s r top.count) e → HasSomeCause s a b e
  all_refuses a b (errors.Page page) wells h = (at s.tree refl wells, h.0, h.1)
    where
      at : (o : Option Tree) → s.tree ≡ o → IfSome o (λ u. ∥ WellFormed u ∥₁) → IsNone o
      at None e wells = refl
      at (Some u) e wells =
          absurd (∥∥₁_elim wells (λ x y. absurd x)
          (λ well. h.2 (subst (IsSome {T = Tree}) (sym e) refl) (can_start u e well)))
  all_refuses a b (errors.Changed page held found) wells h = h
  all_refuses a b (errors.Outside page) wells h = h
  all_refuses a b errors.Missing wells h = h
  all_refuses a b errors.Fault wells h = h
  all_refuses a b errors.NoMemory wells h = h

  pub root_listed : (d : DirectoryEntries) → HasAt s r d → IfSome s.tree (λ t. IsDirectoryOf d (records t))
  root_listed d below = at s.tree refl
    where
      at : (o : Option Tree) → s.tree ≡ o → IfSome o (λ t. IsDirectoryOf d (records t))
      at None e = tt
      at (Some t) e =
          let l = below (subst (IsSome {T = Tree}) (sym e) refl) in
          subst (λ u. IsDirectoryOf d (records u)) (sym (same t l.0 e l.1)) l.2
