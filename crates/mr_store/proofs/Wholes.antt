-- The copy of a whole map is a snapshot of it.
use Rattle.std.proofs.Common.{◌≡◌, ◌≢◌, ℕ, ◌+◌, ◌≤◌, true, List, [], ◌++◌, length, refl, sym, ap, subst, ◌∙◌, arith}
use Rattle.std.specs.Prelude.{All, AllPairs, Option, Some, None, IfSome, IsSome, IsNone}
use Rattle.std.proofs.Math.Logic.{∥∥₁_elim}
use Rattle.std.proofs.lemmas.List.{length-map}
use Rattle.std.proofs.lemmas.List.Elements.{All-nil}
use Rattle.mr_record.specs.Record.{IsRecord, HasLayer}
use Rattle.mr_record.specs.declared.record.Record.{Record}
use Rattle.mr_record.specs.declared.version.Version.{Version}
use Rattle.mr_tree.specs.Tree.{records}
use Rattle.mr_tree.specs.Digest.{Scheme, by, entry}
use Rattle.mr_record.specs.Version.{told}
use Rattle.mr_tree.specs.View.{MayTell, child_entry}
use Rattle.mr_tree.specs.declared.entry.Entry.{Entry}
use Rattle.mr_tree.specs.WellFormed.{IsFilledRoot, WellFormed, HasLayers}
use Rattle.mr_tree.specs.Nodes.{MapModel, IsTop, MayFetch, HasSomeCause, tree_under, subtrees}
use Rattle.mr_tree.specs.declared.nodes.NodesErr.{NodesErr}
use Rattle.mr_tree.specs.declared.nodes.NodesErr.TheVariants as errors
use Rattle.mr_tree.specs.Snapshot.{tree_at, trees, snapshot_model, tree_model, AreLinked, IsPlaced, IsSnapshot, IsRooted}
use Rattle.mr_tree.specs.declared.child.Child.{Child}
use Rattle.mr_tree.specs.declared.nodes.Top.{Top}
use Rattle.mr_tree.specs.declared.stored.Stored.{Stored}
use Rattle.mr_tree.specs.declared.tree.Tree.{Tree}
use Rattle.mr_tree.specs.declared.tree.Tree.TheVariants as tree
use Rattle.mr_tree.specs.declared.tree.Tree.TheViews.{out-Tree}
use Rattle.mr_tree.proofs.Equations.{entry_level, entry_count, level-Empty, records-Empty}
use Rattle.mr_tree.proofs.Induction.{every-Empty}
use Rattle.mr_tree.proofs.Told.{count_told}
use Rattle.mr_tree.proofs.Reading.{rooted_empty, snapshot_of}
use Rattle.mr_pages.specs.Faults.{numbers_of}
use Rattle.mr_pages.specs.private.Numbers.{count_kept}
use Rattle.mr_pages.specs.Walking.{Saw}
use Rattle.mr_pages.specs.declared.visited.Visited.{Visited}
use Rattle.mr_pages.proofs.AsRead.{records_apart, numbers_apart}
use Rattle.mr_pages.proofs.Lists.{Fresh, fresh_apart, apart_fresh}
use Rattle.mr_store.specs.private.Walk.{CanWalk, IsMadeOf, Walked, StopsWalk, nodes_at}
use Rattle.mr_store.specs.Stored.{IsSaid, IsSnapshotOf}
use Rattle.mr_store.proofs.Walks.{some_same}

-- ---- before the first node

pub none_linked : (x : Scheme) (ns : List Stored) → ns ≡ [] → AreLinked x ns
none_linked x ns e = subst (AreLinked x) (sym e) (record { each = All-nil _; over = refl })

-- the model of a tree is that of the map, where this is the map's tree
stands_as : (hash : List ℕ → List ℕ) (s : MapModel) (top : Top) (u t : Tree) → IsTop hash s top → u ≡ t →
    tree_model top.version top.batch u ≡ tree_model s.version s.batch t
stands_as hash s top u t is same = λ i. tree_model (is.version i) (is.batch i) (same i)

told_root : (hash : List ℕ → List ℕ) (s : MapModel) (top : Top) (o : Option Child) (t : Tree) → IsTop hash s top →
    top.root ≡ o → s.tree ≡ Some t → tree_under s o ≡ Some t
told_root hash s top o t is root told =
    subst (λ r. tree_under s r ≡ Some t) root
    (subst (λ u. IfSome u (λ v. tree_under s top.root ≡ Some v)) told is.tree)

-- the count of the root is that of the head, as the version tells it
pub said_count : (hash : List ℕ → List ℕ) (s : MapModel) (top : Top) (r : Child) → IsTop hash s top →
    top.root ≡ Some r → r.count ≡ told top.version top.count
said_count hash s top r is root =
    (subst (λ o. IfSome o (λ d. MayTell s.version d.mask d.count × (d.count ≡ told s.version top.count))) root
    is.told).1 ∙ ap (λ v. told v top.count) (sym is.version)

-- ---- a map without a node

pub empty_layers : (v : Version) → HasLayers v tree.Empty
empty_layers v = subst (All (HasLayer v)) (sym records-Empty) (All-nil (HasLayer v))

pub empty_well : WellFormed tree.Empty
empty_well = record {
  one_level = every-Empty _ tt;
  shallow = omega (arith, level-Empty);
  filled = subst IsFilledRoot (sym tree.outs-Empty) tt;
  distinct = subst (AllPairs (λ (a b : Record). a.number ≢ b.number)) (sym records-Empty)
      (λ i j d low high. absurd (omega (arith, low, high)));
  each = subst (All IsRecord) (sym records-Empty) (All-nil IsRecord);
  few = omega (arith, ap length records-Empty);
}

module _ (hash : List ℕ → List ℕ) (s : MapModel) (top : Top) (ns : List Stored)
    (is : IsTop hash s top) (root : top.root ≡ None) (none : ns ≡ []) where
  abbrev empty_top : Top
  empty_top = record { version = top.version; batch = top.batch; count = top.count; root = None }

  no_records : top.count ≡ length (records tree.Empty)
  no_records =
      is.none.1 (subst (IsNone {T = Child}) (sym root) refl) ∙ sym (ap length records-Empty)

  pub empty_whole : IsSnapshot hash ns empty_top
  empty_whole =
      snapshot_of (by top.version hash) top.batch top.count tree.Empty empty_well (empty_layers top.version) no_records
      ns None (rooted_empty (by top.version hash) ns tree.Empty none refl)

  pub empty_stands : IsSnapshotOf s ns empty_top
  empty_stands t told =
      stands_as hash s top tree.Empty t is
      (some_same tree.Empty t (told_root hash s top None t is root told))

  pub empty_said : IsSaid hash top (snapshot_model ns empty_top)
  empty_said = record {
    version = refl;
    batch = refl;
    tree = tree.Empty;
    told = refl;
    count = sym no_records;
    root = subst (λ o. IfSome o (λ c. entry (by top.version hash) tree.Empty ≡ child_entry c)) (sym root) tt;
  }

-- ---- a map with a root

module _ (hash : List ℕ → List ℕ) (s : MapModel) (top : Top) (r c : Child) (old ns : List Stored)
    (before after : Visited) (pages f f' : ℕ) (is : IsTop hash s top) (root : top.root ≡ Some r) (none : old ≡ [])
    (start : Saw pages before [] []) (same_entry : child_entry c ≡ child_entry r)
    (walked : Walked (by top.version hash) s true r before after f f'
    (λ u. AreLinked (by top.version hash) old → IsPlaced (by top.version hash) old ns c u (subtrees u))) where
  abbrev x : Scheme
  x = by top.version hash

  abbrev t : Tree
  t = walked.under

  abbrev whole_top : Top
  whole_top = record { version = top.version; batch = top.batch; count = top.count; root = Some c }

  met : Saw pages after [] (numbers_of (records t))
  met = (walked.met pages [] start).1

  pub counted : count_kept after.numbers ≡ length (records t)
  counted = met.met.count ∙ length-map (records t) (λ (y : Record). y.number)

  may : MayFetch hash s r
  may = subst (λ o. IfSome o (MayFetch hash s)) root is.root

  said : r.count ≡ told top.version top.count
  said = said_count hash s top r is root

  told_tree : (u : Tree) → s.tree ≡ Some u → t ≡ u
  told_tree u told_ =
      some_same t u (sym (walked.same (subst (IsSome {T = Tree}) (sym told_) refl))
      ∙ told_root hash s top (Some r) u is root told_)

  module _ (same : top.count ≡ count_kept after.numbers) where
    has_count : r.count ≡ (entry x t).count
    has_count =
        said ∙ ap (told top.version) (same ∙ counted) ∙ sym (entry_count x t ∙ count_told top.version t)

    built : IsMadeOf x true r t (AreLinked x old → IsPlaced x old ns c t (subtrees t))
    built = walked.is (λ e. has_count)

    placed : IsPlaced x old ns c t (subtrees t)
    placed = built.made (none_linked x old none)

    -- the tree where the copy has it
    here : tree_at (trees ns) c.id ≡ t
    here = placed.here

    well : WellFormed t
    well = record {
      one_level = walked.fine.one_level;
      shallow = omega (arith, may.low, ap (λ (e : Entry). e.level) built.known, entry_level x t);
      filled = walked.fine.filled;
      distinct = records_apart (records t) (fresh_apart [] (numbers_of (records t)) (walked.met pages [] start).0);
      each = walked.fine.each;
      few = omega (arith, is.few, same, counted);
    }

    pub whole_well : WellFormed (tree_at (trees ns) c.id)
    whole_well = subst WellFormed (sym here) well

    rooted : IsRooted x ns (Some c) t
    rooted = record {
      linked = placed.linked;
      whole = placed.grown ∙ ap (λ us. trees us ++ subtrees t) none;
      tree = here;
      root = placed.link;
    }

    pub whole_snapshot : IsSnapshot hash ns whole_top
    whole_snapshot = snapshot_of x top.batch top.count t well walked.fine.layers (same ∙ counted) ns (Some c) rooted

    pub whole_stands : IsSnapshotOf s ns whole_top
    whole_stands u is_told = stands_as hash s top (tree_at (trees ns) c.id) u is (here ∙ told_tree u is_told)

    pub whole_said : IsSaid hash top (snapshot_model ns whole_top)
    whole_said = record {
      version = refl;
      batch = refl;
      tree = tree_at (trees ns) c.id;
      told = refl;
      count = ap (λ u. length (records u)) here ∙ sym (same ∙ counted);
      root = subst (λ o. IfSome o (λ d. entry x (tree_at (trees ns) c.id) ≡ child_entry d)) (sym root)
          (sym placed.link.entry ∙ same_entry);
    }

    pub once_each : f' ≤ f + length (subtrees (tree_at (trees ns) c.id))
    once_each = omega (arith, walked.once, ap (λ u. length (subtrees u)) here)

  -- another number of records is met only where the tree is not told
  pub miscounted : (top.count ≡ count_kept after.numbers → ⊥) → IsNone s.tree
  miscounted other = at s.tree refl is.count
    where
      at : (o : Option Tree) → s.tree ≡ o → IfSome o (λ u. top.count ≡ length (records u)) → IsNone o
      at None e count = refl
      at (Some u) e count =
          absurd (other (count ∙ ap (λ v. length (records v)) (sym (told_tree u e)) ∙ sym counted))

-- ---- why it stops

module _ (hash : List ℕ → List ℕ) (s : MapModel) (top : Top) (r : Child) (before : Visited) (pages : ℕ)
    (is : IsTop hash s top) (root : top.root ≡ Some r) (start : Saw pages before [] []) where
  can_start : (u : Tree) → s.tree ≡ Some u → WellFormed u → CanWalk s true before r
  can_start u told well = record {
    pages = pages;
    ns = [];
    saw = start;
    full = λ v e. subst (λ w. IsFilledRoot (out-Tree w)) (same v e) well.filled;
    fresh = λ v e. subst (λ w. Fresh [] (numbers_of (records w))) (same v e)
        (apart_fresh (numbers_of (records u)) (numbers_apart (records u) well.distinct));
  }
    where
      same : (v : Tree) → s.node r.id ≡ Some v → u ≡ v
      same v e = some_same u v (sym (told_root hash s top (Some r) u is root told) ∙ e)

  pub refuses_all : (a b : ℕ) (e : NodesErr) → IfSome s.tree (λ u. ∥ WellFormed u ∥₁) →
      StopsWalk s a b (CanWalk s true before r) e → HasSomeCause s a b e
  refuses_all a b (errors.Page page) wells h = (at s.tree refl wells, h.0, h.1)
    where
      at : (o : Option Tree) → s.tree ≡ o → IfSome o (λ u. ∥ WellFormed u ∥₁) → IsNone o
      at None e wells = refl
      at (Some u) e wells =
          absurd (∥∥₁_elim wells (λ y z. absurd y)
          (λ well. h.2 (subst (IsSome {T = Tree}) (sym e) refl) (can_start u e well)))
  refuses_all a b (errors.Changed page held found) wells h = h
  refuses_all a b (errors.Outside page) wells h = h
  refuses_all a b errors.Missing wells h = h
  refuses_all a b errors.Fault wells h = h
  refuses_all a b errors.NoMemory wells h = h

-- ---- how many nodes are fetched

pub none_fetched : (o : Option Tree) (f : ℕ) → IfSome o (λ t. f ≤ f + length (subtrees t))
none_fetched None f = tt
none_fetched (Some t) f = omega arith

pub root_fetched : (hash : List ℕ → List ℕ) (s : MapModel) (top : Top) (r : Child) (f f' : ℕ) → IsTop hash s top →
    top.root ≡ Some r → (IsSome s.tree → f' ≤ f + nodes_at (s.node r.id)) →
    IfSome s.tree (λ t. f' ≤ f + length (subtrees t))
unfolding nodes_at
root_fetched hash s top r f f' is root few = at s.tree refl
  where
    at : (o : Option Tree) → s.tree ≡ o → IfSome o (λ t. f' ≤ f + length (subtrees t))
    at None e = tt
    at (Some t) e =
        subst (λ u. f' ≤ f + nodes_at u) (told_root hash s top (Some r) t is root e)
        (few (subst (IsSome {T = Tree}) (sym e) refl))
