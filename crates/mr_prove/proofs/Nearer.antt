-- What lies in a node is no nearer than its rectangle, and on no layer but its own.
use Rattle.std.proofs.Common.{◌≡◌, ℕ, ◌≤◌, zero, suc, false, List, [], ◌∷◌, ◌++◌, map, refl, sym, ap, subst, ◌∙◌, arith}
use Rattle.std.specs.Prelude.{Option, Some, None, IsSome, IfSome, IsSomeAnd, fold}
use Rattle.std.specs.List.{AllByRecursion, flat_map, slice_get}
use Rattle.std.proofs.Math.Logic.{∥∥₁_elim}
use Rattle.std.proofs.Math.Nat.{ℕ_set}
use Rattle.std.proofs.lemmas.List.Elements.{recursion_from_All}
use Rattle.mr_geom.specs.Rectangle.{Rectangle, union}
use Rattle.mr_geom.specs.Plane.{Inside}
use Rattle.mr_geom.specs.Distance.{least_squared_distance}
use Rattle.mr_geom.specs.declared.point.Point.{Point}
use Rattle.mr_geom.proofs.Planes.{Inside-union_first, Inside-union_second}
use Rattle.mr_geom.proofs.Distances.{least_squared_distance-Inside}
use Rattle.mr_record.specs.Record.{IsRecord}
use Rattle.mr_record.specs.declared.record.Record.{Record}
use Rattle.mr_record.specs.declared.version.Version.{Version}
use Rattle.mr_record.specs.declared.version.Version.TheVariants.{One, Two}
use Rattle.mr_tree.specs.Tree.{records, join, union_of, rect, mask_of, layer_bit}
use Rattle.mr_tree.specs.Digest.{Scheme, by, entry}
use Rattle.mr_tree.specs.View.{child_entry}
use Rattle.mr_tree.specs.Nodes.{MapModel, HasIds, MayFetch, subtrees}
use Rattle.mr_tree.specs.WellFormed.{WellFormed}
use Rattle.mr_tree.specs.declared.child.Child.{Child}
use Rattle.mr_tree.specs.declared.entry.Entry.{Entry}
use Rattle.mr_tree.specs.declared.tree.Tree.{Tree}
use Rattle.mr_tree.specs.declared.tree.Tree.TheVariants as tree
use Rattle.mr_tree.proofs.Equations.{entry_rect, records-Inner}
use Rattle.mr_tree.proofs.Induction.{tree_induction}
use Rattle.mr_tree.proofs.Joins.{rects_of, rect_round}
use Rattle.mr_tree.proofs.Subtrees.{subtrees-Empty, subtrees-Leaf, subtrees-Inner}
use Rattle.mr_tree.proofs.Told.{mask_told}
use Rattle.mr_query.specs.Layers.{all_layers, share_layer, layer_mask, is_on}
use Rattle.mr_query.specs.Nearest.{distance, distances}
use Rattle.mr_query.specs.Scan.{on_layers}
use Rattle.mr_query.specs.private.Radius.{below}
use Rattle.mr_query.proofs.Counts.{one_below, below-none}
use Rattle.mr_query.proofs.Masks.{or_all_layers, layer_fits, shares_less, each_shares_none}
use Rattle.mr_proof.specs.declared.question.Around.{Around}
use Rattle.mr_proof.specs.Tight.{mask_seen}
use Rattle.mr_prove.specs.private.Search.{distances_on, has_layer, distances_at}
use Rattle.mr_prove.proofs.Passing.{sum_of_some}
use Rattle.mr_prove.proofs.Pieces.{sum_by_map, mask_is}

-- ---- records within the rectangle round them

all_inside : (a whole : Rectangle) (rs : List Record) → fold join (Some a) (rects_of rs) ≡ Some whole
    → Inside a whole × AllByRecursion (λ (r : Record). Inside r.rect whole) rs
all_inside a whole [] e = let same : a ≡ whole = cc in (subst (Inside a) same (λ q h. h), tt)
all_inside a whole (r ∷ rs) e =
    let rest = all_inside (union a r.rect) whole rs e in (
      λ q h. rest.0 q (Inside-union_first a r.rect q h),
      (λ q h. rest.0 q (Inside-union_second a r.rect q h), rest.1),
    )

records_inside : (whole : Rectangle) (rs : List Record) → union_of (rects_of rs) ≡ Some whole
    → AllByRecursion (λ (r : Record). Inside r.rect whole) rs
records_inside whole [] e = tt
records_inside whole (r ∷ rs) e = let both = all_inside r.rect whole rs e in (both.0, both.1)

abbrev AreRecords : List Record → Type 0
AreRecords rs = AllByRecursion IsRecord rs

no_nearer : (p : Point) (x : ℕ) (whole : Rectangle) (rs : List Record) → x ≤ least_squared_distance whole p
    → AllByRecursion (λ (r : Record). Inside r.rect whole) rs → AreRecords rs
    → AllByRecursion (λ n. x ≤ n) (distances p rs)
no_nearer p x whole [] h inside each = tt
no_nearer p x whole (r ∷ rs) h inside each =
    let here = least_squared_distance-Inside r.rect whole p each.0.ordered inside.0 in
    (omega (arith, h, here), no_nearer p x whole rs h inside.1 each.1)

-- those on some layers are no more than all
few_on : (a : Around) (x : ℕ) (rs : List Record)
    → below x (distances_on a rs) ≤ below x (distances a.center rs)
few_on a x rs =
    let p = a.center in
    let some = sum_by_map (one_below x) (distance p) (on_layers a.layers rs) in
    let all = sum_by_map (one_below x) (distance p) rs in
    let fewer = sum_of_some (λ (r : Record). one_below x (distance p r)) (is_on a.layers) rs in
    omega arith

none_in : (scheme : Scheme) (a : Around) (t : Tree) (c : Child) (x : ℕ) → child_entry c ≡ entry scheme t
    → AreRecords (records t) → x ≤ least_squared_distance c.rect a.center → below x (distances_on a (records t)) ≡ 0
none_in scheme a t c x e each h =
    let p = a.center in
    let around : rect t ≡ Some c.rect = sym (entry_rect scheme t) ∙ ap (λ (x : Entry). x.rect) (sym e) in
    let none = below-none x (distances p (records t))
    (no_nearer p x c.rect (records t) h (records_inside c.rect (records t) (sym (rect_round t) ∙ around)) each) in
    let few = few_on a x (records t) in
    omega arith

-- ---- a part without any of the layers has no record on them

on_none : (layers : ℕ) (r : Record) (rs : List Record) → is_on layers r ≡ false → on_layers layers rs ≡ []
    → on_layers layers (r ∷ rs) ≡ []
on_none layers r rs e none = rw e none

none_of_all : (layers : ℕ) (rs : List Record) → share_layer all_layers layers ≡ false → AreRecords rs
    → on_layers layers rs ≡ []
none_of_all layers [] none each = refl
none_of_all layers (r ∷ rs) none each =
    let among = or_all_layers (layer_mask r) (layer_fits r.layer each.0.layer) in
    on_none layers r rs (shares_less (layer_mask r) all_layers layers among none)
    (none_of_all layers rs none each.1)

none_of_these : (layers : ℕ) (rs : List Record)
    → AllByRecursion (λ n. share_layer n layers ≡ false) (map (layer_bit Two) rs) → on_layers layers rs ≡ []
none_of_these layers [] none = refl
none_of_these layers (r ∷ rs) none = on_none layers r rs none.0 (none_of_these layers rs none.1)

none_on : (v : Version) (layers mask : ℕ) (rs : List Record) → mask ≡ mask_of (map (layer_bit v) rs)
    → share_layer (mask_seen v mask) layers ≡ false → AreRecords rs → on_layers layers rs ≡ []
none_on One layers mask rs is none each = none_of_all layers rs none each
none_on Two layers mask rs is none each =
    none_of_these layers rs
    (each_shares_none layers (map (layer_bit Two) rs)
    (subst (λ (m : ℕ). share_layer m layers ≡ false) is none))

none_on_asked : (scheme : Scheme) (a : Around) (t : Tree) (c : Child) (x : ℕ) → child_entry c ≡ entry scheme t
    → AreRecords (records t) → has_layer a scheme.version c ≡ false → below x (distances_on a (records t)) ≡ 0
none_on_asked scheme a t c x e each f =
    let v = scheme.version in
    ap (λ (rs : List Record). below x (distances a.center rs))
    (none_on v a.layers c.mask (records t) (sym (mask_is scheme t c e) ∙ mask_told v t) f each)

-- ---- the records of every node are records

record_parts : (rs ss : List Record) → AreRecords (rs ++ ss) → AreRecords rs × AreRecords ss
record_parts [] ss all = (tt, all)
record_parts (r ∷ rs) ss all = let rest = record_parts rs ss all.1 in ((all.0, rest.0), rest.1)

records_joined : (ts us : List Tree) → AllByRecursion (λ t. AreRecords (records t)) ts
    → AllByRecursion (λ t. AreRecords (records t)) us → AllByRecursion (λ t. AreRecords (records t)) (ts ++ us)
records_joined [] us all rest = rest
records_joined (t ∷ ts) us all rest = (all.0, records_joined ts us all.1 rest)

abbrev RecordsBelow : Tree → Type 0
RecordsBelow t = AreRecords (records t) → AllByRecursion (λ u. AreRecords (records u)) (subtrees t)

records_of_children : (ts : List Tree) → AllByRecursion RecordsBelow ts
    → AreRecords (flat_map (λ list. list) (map records ts))
    → AllByRecursion (λ u. AreRecords (records u)) (flat_map subtrees ts)
records_of_children [] below all = tt
records_of_children (t ∷ ts) below all =
    let both = record_parts (records t) (flat_map (λ list. list) (map records ts)) all in
    records_joined (subtrees t) (flat_map subtrees ts) (below.0 both.0) (records_of_children ts below.1 both.1)

records_below : (t : Tree) → RecordsBelow t
records_below = tree_induction RecordsBelow
    (λ all. subst (AllByRecursion (λ u. AreRecords (records u))) (sym subtrees-Empty) tt)
    (λ rs all. subst (AllByRecursion (λ u. AreRecords (records u))) (sym (subtrees-Leaf rs)) (all, tt))
    (λ ts below all. subst (AllByRecursion (λ u. AreRecords (records u))) (sym (subtrees-Inner ts))
    (records_joined (flat_map subtrees ts) (tree.Inner ts ∷ [])
    (records_of_children ts below (subst AreRecords (records-Inner ts) all)) (all, tt)))

at_index : (P : Tree → Type 0) (ts : List Tree) (i : ℕ) → AllByRecursion P ts → IfSome (slice_get ts i) P
at_index P [] i all = tt
at_index P (t ∷ ts) zero all = all.0
at_index P (t ∷ ts) (suc i) all = at_index P ts i all.1

node_records : (s : MapModel) (t : Tree) (i : ℕ) → HasIds s t → WellFormed t → IsSome (s.node i)
    → IfSome (s.node i) (λ u. AreRecords (records u))
node_records s t i ids well some =
    let found = ids.others i some in
    subst (λ (o : Option Tree). IfSome o (λ u. AreRecords (records u)))
    (sym (ids.shows found.0 found.1) ∙ ap s.node found.2)
    (at_index (λ u. AreRecords (records u)) (subtrees t) found.0
    (records_below t (recursion_from_All IsRecord (records t) well.each)))

-- ---- what is none for the tree under a child by its entry is none

none_at : (scheme : Scheme) (n : Option Tree → ℕ) (o : Option Tree) (c : Child)
    → IsSomeAnd o (λ t. child_entry c ≡ entry scheme t) → (IsSome o → IfSome o (λ t. AreRecords (records t)))
    → ((t : Tree) → child_entry c ≡ entry scheme t → AreRecords (records t) → n (Some t) ≡ 0) → n o ≡ 0
none_at scheme n None c known each none = absurd known
none_at scheme n (Some t) c known each none = none t known (each refl)

none_told : (scheme : Scheme) (n : Option Tree → ℕ) (s : MapModel) (o : Option Tree) (c : Child)
    → IfSome o (λ t. ∥ WellFormed t ∥₁) → IfSome o (HasIds s) → IsSome o
    → IsSomeAnd (s.node c.id) (λ t. child_entry c ≡ entry scheme t)
    → ((t : Tree) → child_entry c ≡ entry scheme t → AreRecords (records t) → n (Some t) ≡ 0) → n (s.node c.id) ≡ 0
none_told scheme n s None c wells ids told known none = cc
none_told scheme n s (Some t) c wells ids told known none =
    ∥∥₁_elim wells (ℕ_set (n (s.node c.id)) 0)
    (λ well. none_at scheme n (s.node c.id) c known (λ some. node_records s t c.id ids well some) none)

module _ (hash : List ℕ → List ℕ) (a : Around) (s : MapModel) (c : Child) (x : ℕ)
    (wells : IfSome s.tree (λ t. ∥ WellFormed t ∥₁)) (ids : IfSome s.tree (HasIds s)) (told : IsSome s.tree)
    (may : MayFetch hash s c) where
  abbrev count : Option Tree → ℕ
  count o = below x (distances_at a o)

  -- below the distance of a node's rectangle there is none of its records
  pub none_below : x ≤ least_squared_distance c.rect a.center → below x (distances_at a (s.node c.id)) ≡ 0
  unfolding distances_at
  none_below h =
      none_told (by s.version hash) count s s.tree c wells ids told (may.known told)
      (λ t e each. none_in (by s.version hash) a t c x e each h)

  -- and of a node without any of the layers none on them
  pub none_unlayered : has_layer a s.version c ≡ false → below x (distances_at a (s.node c.id)) ≡ 0
  unfolding distances_at
  none_unlayered f =
      none_told (by s.version hash) count s s.tree c wells ids told (may.known told)
      (λ t e each. none_on_asked (by s.version hash) a t c x e each f)
