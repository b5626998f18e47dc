-- What a snapshot shows of its tree.
use Rattle.std.proofs.Common.{◌≡◌, ℕ, zero, suc, ◌+◌, ◌-◌, ◌<◌, ◌≤◌, List, [], ◌∷◌, map, length, get_or, refl, sym, ap, subst, ◌∙◌, arith}
use Rattle.std.specs.Prelude.{Option, Some, None, IsSomeAnd, IfSome, All, slice_get}
use Rattle.std.specs.List.{AllByRecursion}
use Rattle.std.proofs.lemmas.Option.{slice_get-get_or, get_or_from_slice_get}
use Rattle.std.proofs.lemmas.List.{length-map}
use Rattle.std.proofs.lemmas.List.Elements.{recursion_from_All, All-from_recursion}
use Rattle.mr_geom.specs.Rectangle.{union_of}
use Rattle.mr_record.specs.declared.record.Record.{Record}
use Rattle.mr_tree.specs.Tree.{level, records}
use Rattle.mr_record.specs.declared.version.Version.{Version}
use Rattle.mr_tree.specs.Digest.{Scheme, by, entry, entry_step}
use Rattle.mr_tree.specs.declared.entry.Entry.{Entry}
use Rattle.mr_tree.specs.WellFormed.{WellFormed, HasLayers}
use Rattle.mr_record.specs.Version.{told}
use Rattle.mr_tree.proofs.Told.{any_layers, may_tell, count_told}
use Rattle.mr_tree.specs.View.{Node, MayTell, level_of, child_entry}
use Rattle.mr_tree.specs.Nodes.{MapModel, MayFetch, IsNodeOf, ShowsNode, IsTop, subtrees}
use Rattle.mr_tree.specs.Snapshot.{with_id, tree_model, snapshot_model, node_of, tree_at, tree_over, trees, tree_of, HasShape, IsLinked, IsNode, AreLinked, IsSnapshot, IsRooted}
use Rattle.mr_tree.specs.declared.child.Child.{Child}
use Rattle.mr_tree.specs.declared.nodes.Top.{Top}
use Rattle.mr_tree.specs.declared.stored.Stored.{Stored}
use Rattle.mr_tree.specs.declared.stored.Stored.TheVariants.{Records, Children}
use Rattle.mr_tree.specs.declared.tree.Tree.{Tree}
use Rattle.mr_tree.specs.declared.tree.Tree.TheVariants as tree
use Rattle.mr_tree.specs.declared.tree.Tree.TheOpen.{Leaf, Inner}
use Rattle.mr_tree.proofs.Equations.{entry_rect, entry_count, records-Empty}
use Rattle.mr_tree.proofs.Folds.{fold-Leaf, fold-Inner}
use Rattle.mr_tree.proofs.Joins.{rects_of, rect_round}
use Rattle.mr_tree.proofs.Subtrees.{subtrees-Empty}
use Rattle.mr_tree.proofs.Placements.{length_trees, link_level, level_over_children, entries_of}

-- ---- ids

pub with_id_at : (ts : List Tree) (id : ℕ) → 1 ≤ id → id ≤ length ts → with_id ts id ≡ Some (tree_at ts id)
with_id_at ts zero low high = absurd (omega arith)
with_id_at ts (suc i) low high =
    let place : i ≡ suc i - 1 = omega arith in
    slice_get-get_or ts i tree.Empty (omega arith) ∙ ap (λ k. Some (get_or ts k tree.Empty)) place

-- ---- what may be fetched

-- a snapshot's model, by the trees under its nodes
abbrev stood : Version → ℕ → Tree → List Tree → MapModel
stood v batch t ts = record { version = v; batch = batch; span = length ts + 1; tree = Some t; node = with_id ts }

module _ (hash : Scheme) (batch : ℕ) (whole : Tree) (ts : List Tree) where
  pub may_fetch : (c : Child) → IsLinked hash ts c → c.level ≤ 7 →
      MayFetch hash.of (stood hash.version batch whole ts) c
  may_fetch c link low = record {
    positive = link.positive;
    within = omega (arith, link.within);
    low = low;
    known = λ told. subst (λ o. IsSomeAnd o (λ t. child_entry c ≡ entry hash t))
        (sym (with_id_at ts c.id link.positive link.within)) link.entry;
  }

  below : (n : ℕ) (cs : List Child) → n ≤ 7 → AllByRecursion (IsLinked hash ts) cs →
      AllByRecursion (λ (c : Child). c.level + 1 ≡ n) cs →
      AllByRecursion (MayFetch hash.of (stood hash.version batch whole ts)) cs
  below n [] low links alike = tt
  below n (c ∷ cs) low links alike =
      (may_fetch c links.0 (omega (arith, alike.0, low)), below n cs low links.1 alike.1)

  ids_of : (cs : List Child) → AllByRecursion (IsLinked hash ts) cs →
      map (λ (c : Child). with_id ts c.id) cs ≡ map Some (map (λ (c : Child). tree_at ts c.id) cs)
  ids_of [] links = refl
  ids_of (c ∷ cs) links = λ i. with_id_at ts c.id links.0.positive links.0.within i ∷ ids_of cs links.1 i

  shows_at : (c : Child) (s : Stored) → IsNode hash ts s → 1 ≤ c.id → c.id ≤ length ts →
      tree_at ts c.id ≡ tree_over ts s → child_entry c ≡ entry hash (tree_over ts s) →
      ShowsNode hash.of (stood hash.version batch whole ts) c (node_of s)
  shows_at c (Records rs) here low high is known =
      let parts : child_entry c ≡ entry_step hash (Leaf rs) = known ∙ fold-Leaf Entry (entry_step hash) rs in
      record {
        some = here.shape.some;
        level = sym (ap (λ (e : Entry). e.level) parts);
        digest = sym (ap (λ (e : Entry). e.digest) parts);
        told = here.told;
        children = λ k d within. absurd (omega arith);
        node = subst (λ o. IfSome o (λ t. IsNodeOf (stood hash.version batch whole ts) t (Leaf rs)))
            (sym (with_id_at ts c.id low high)) is;
      }
  shows_at c (Children cs) here low high is known =
      let links = recursion_from_All (IsLinked hash ts) cs here.links in
      let us = map (λ (c : Child). tree_at ts c.id) cs in
      let parts : child_entry c ≡ entry_step hash (Inner (map child_entry cs)) = known ∙ fold-Inner Entry
      (entry_step hash) us
      ∙ ap (λ es. entry_step hash (Inner es)) (sym (entries_of hash ts cs links)) in
      record {
        some = here.shape.some;
        level = level_over_children cs ∙ sym (ap (λ (e : Entry). e.level) parts);
        digest = sym (ap (λ (e : Entry). e.digest) parts);
        told = here.told;
        children = All-from_recursion (MayFetch hash.of (stood hash.version batch whole ts)) cs
            (below (level_of (Inner cs)) cs here.shape.low links
            (recursion_from_All (λ (c : Child). c.level + 1 ≡ level_of (Inner cs)) cs here.shape.alike));
        node = subst (λ o. IfSome o (λ t. IsNodeOf (stood hash.version batch whole ts) t (Inner cs)))
            (sym (with_id_at ts c.id low high)) (us, is, ids_of cs links);
      }

over_at : (ts : List Tree) (ns : List Stored) (k : ℕ) (d : Stored) → k < length ns →
    get_or (map (tree_over ts) ns) k tree.Empty ≡ tree_over ts (get_or ns k d)
over_at ts [] k d h = absurd (omega arith)
over_at ts (n ∷ ns) zero d h = refl
over_at ts (n ∷ ns) (suc k) d h = over_at ts ns k d (omega arith)

node_at : (ns : List Stored) (k : ℕ) (d : Stored) (n : Node) → k < length ns → Some n ≡ slice_get (map node_of ns) k →
    node_of (get_or ns k d) ≡ n
node_at [] k d n h e = absurd (omega arith)
node_at (s ∷ ns) zero d n h e = let same : Some n ≡ Some (node_of s) = e in cc
node_at (s ∷ ns) (suc k) d n h e = node_at ns k d n (omega arith) e

from_some : (o : Option Tree) (t : Tree) (P : Tree → Type 0) → o ≡ Some t → IsSomeAnd o P → P t
from_some o t P e p = subst (λ o. IsSomeAnd o P) e p

reads_from : (hash : Scheme) (batch : ℕ) (whole : Tree) (ns : List Stored) (c : Child) (n : Node) →
    AreLinked hash ns → MayFetch hash.of (stood hash.version batch whole (trees ns)) c →
    Some n ≡ slice_get (map node_of ns) (c.id - 1) → ShowsNode hash.of (stood hash.version batch whole (trees ns)) c n
reads_from hash batch whole ns c n linked may e =
    let ts = trees ns in
    let s = get_or ns (c.id - 1) (Records []) in
    let high : c.id ≤ length (trees ns) = omega (arith, may.within) in
    let inside : c.id - 1 < length ns = omega (arith, may.positive, high, length_trees ns) in
    let is : tree_at ts c.id ≡ tree_over ts s =
    ap (λ us. get_or us (c.id - 1) tree.Empty) (sym linked.over) ∙ over_at ts ns (c.id - 1) (Records []) inside in
    let known : child_entry c ≡ entry hash (tree_at ts c.id) =
    from_some (with_id ts c.id) (tree_at ts c.id) (λ t. child_entry c ≡ entry hash t)
    (with_id_at ts c.id may.positive high) (may.known refl) in
    subst (ShowsNode hash.of (stood hash.version batch whole ts) c) (node_at ns (c.id - 1) (Records []) n inside e)
    (shows_at hash batch whole ts c s (linked.each (c.id - 1) (Records []) inside) may.positive high is
    (known ∙ ap (entry hash) is))

pub reads : (hash : List ℕ → List ℕ) (ns : List Stored) (top : Top) (c : Child) (n : Node) → IsSnapshot hash ns top →
    MayFetch hash (snapshot_model ns top) c → Some n ≡ slice_get (map node_of ns) (c.id - 1) →
    ShowsNode hash (snapshot_model ns top) c n
reads hash ns top c n snapshot may e =
    subst (λ us. ShowsNode hash (stood top.version top.batch (tree_of ns top) us) c n) snapshot.whole
    (reads_from (by top.version hash) top.batch (tree_of ns top) ns c n snapshot.linked
    (subst (λ us. MayFetch hash (stood top.version top.batch (tree_of ns top) us) c) (sym snapshot.whole) may) e)

pub place_of : (hash : List ℕ → List ℕ) (ns : List Stored) (top : Top) (c : Child) → IsSnapshot hash ns top →
    MayFetch hash (snapshot_model ns top) c → c.id - 1 < length ns
place_of hash ns top c snapshot may =
    omega (arith, may.positive, may.within, length_trees ns, ap length snapshot.whole)

pub shapes_of : (hash : Scheme) (ts : List Tree) (ns : List Stored) → AllByRecursion (IsNode hash ts) ns →
    AllByRecursion HasShape (map node_of ns)
shapes_of hash ts [] each = tt
shapes_of hash ts (n ∷ ns) each = (each.0.shape, shapes_of hash ts ns each.1)

pub shown_at : (ns : List Stored) (k : ℕ) (s : Stored) → s ≡ get_or ns k s → k < length ns →
    slice_get (map node_of ns) k ≡ Some (node_of s)
shown_at [] k s is h = absurd (omega arith)
shown_at (n ∷ ns) zero s is h = ap (λ s. Some (node_of s)) (sym is)
shown_at (n ∷ ns) (suc k) s is h = shown_at ns k s is (omega arith)

pub shape_at : (ns : List Stored) (k : ℕ) (s : Stored) → All HasShape (map node_of ns) → s ≡ get_or ns k s →
    k < length ns → HasShape (node_of s)
shape_at ns k s all is h =
    subst HasShape
    (get_or_from_slice_get (map node_of ns) k (node_of s) (node_of s) (shown_at ns k s is h))
    (all k (node_of s) (omega (arith, h, length-map ns node_of)))

pub shapes_at : (hash : List ℕ → List ℕ) (ns : List Stored) (top : Top) → IsSnapshot hash ns top →
    All HasShape (map node_of ns)
shapes_at hash ns top snapshot =
    All-from_recursion HasShape (map node_of ns)
    (shapes_of (by top.version hash) (trees ns) ns
    (recursion_from_All (IsNode (by top.version hash) (trees ns)) ns snapshot.linked.each))

-- ---- the head

pub rooted_empty : (hash : Scheme) (ns : List Stored) (t : Tree) → ns ≡ [] → t ≡ tree.Empty →
    IsRooted hash ns None t
rooted_empty hash ns t none empty =
    subst (λ ns. IsRooted hash ns None t) (sym none)
    (record {
      linked = record { each = λ k d within. absurd (omega arith); over = refl };
      whole = sym subtrees-Empty ∙ ap subtrees (sym empty);
      tree = sym empty;
      root = tt;
    })

filled : (hash : Scheme) (t : Tree) (c : Child) → child_entry c ≡ entry hash t → length (records t) ≡ 0 → ⊥
filled hash t c same none = at (records t) refl
  where
    at : (rs : List Record) → records t ≡ rs → ⊥
    at [] e =
        let gone : Some c.rect ≡ None =
        ap (λ (e : Entry). e.rect) same ∙ entry_rect hash t ∙ rect_round t ∙ ap (λ rs. union_of (rects_of rs)) e in
        cc
    at (r ∷ rs) e = let some : length (records t) ≡ suc (length rs) = ap length e in absurd (omega (arith, none, some))

module _ (hash : Scheme) (batch count : ℕ) (t : Tree) (well : WellFormed t) (layers : HasLayers hash.version t)
    (counted : count ≡ length (records t)) where
  told_of : (c : Child) → child_entry c ≡ entry hash t →
      MayTell hash.version c.mask c.count × (c.count ≡ told hash.version count)
  told_of c same =
      let may = may_tell hash t (some_records c same) (omega (arith, well.few))
      (any_layers hash.version (records t) layers) in (
        subst (λ (e : Entry). MayTell hash.version e.mask e.count) (sym same) may,
        ap (λ (e : Entry). e.count) same ∙ entry_count hash t ∙ count_told hash.version t
            ∙ ap (told hash.version) (sym counted),
      )
    where
      some_records : (c : Child) → child_entry c ≡ entry hash t → 1 ≤ length (records t)
      some_records c same = at (length (records t)) refl
        where
          at : (n : ℕ) → length (records t) ≡ n → 1 ≤ length (records t)
          at zero e = absurd (filled hash t c same e)
          at (suc n) e = omega (arith, e)

  head_of : (ns : List Stored) (o : Option Child) → IsRooted hash ns o t →
      IsTop hash.of (stood hash.version batch t (trees ns))
      (record { version = hash.version; batch = batch; count = count; root = o })
  head_of ns None rooted = record {
    version = refl;
    batch = refl;
    few = omega (arith, well.few, counted);
    none = (λ _. refl, λ _. counted ∙ ap (λ u. length (records u)) (sym rooted.tree) ∙ ap length records-Empty);
    root = tt;
    count = counted;
    told = tt;
    tree = ap Some rooted.tree;
  }
  head_of ns (Some c) rooted =
      let link = rooted.root in
      let same : child_entry c ≡ entry hash t = link.entry ∙ ap (entry hash) rooted.tree in
      let low : c.level ≤ 7 =
      omega (arith, well.shallow, link_level hash (trees ns) c link, ap level rooted.tree) in
      record {
        version = refl;
        batch = refl;
        few = omega (arith, well.few, counted);
        none = (λ z. absurd (filled hash t c same (sym counted ∙ z)), λ none. cc);
        root = may_fetch hash batch t (trees ns) c link low;
        count = counted;
        told = told_of c same;
        tree = with_id_at (trees ns) c.id link.positive link.within ∙ ap Some rooted.tree;
      }

  pub snapshot_of : (ns : List Stored) (o : Option Child) → IsRooted hash ns o t →
      IsSnapshot hash.of ns (record { version = hash.version; batch = batch; count = count; root = o })
  snapshot_of ns o rooted = record {
    linked = rooted.linked;
    whole = rooted.whole ∙ ap subtrees (sym rooted.tree);
    head = subst (λ u. IsTop hash.of (tree_model hash.version batch u)
        (record { version = hash.version; batch = batch; count = count; root = o }))
        (sym rooted.tree)
        (subst (λ us. IsTop hash.of (stood hash.version batch t us)
        (record { version = hash.version; batch = batch; count = count; root = o }))
        rooted.whole (head_of ns o rooted));
  }
