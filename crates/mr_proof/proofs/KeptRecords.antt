-- A tight cut of a tree has each record of the tree that is to be opened.
use Rattle.std.proofs.Common.{◌≡◌, ◌≢◌, ℕ, ◌<◌, ◌^◌, Bool, false, List, [], ◌∷◌, ◌++◌, map, refl, sym, ap, subst, ◌∙◌, arith}
use Rattle.std.specs.Prelude.{Option, Some, fold, filter, bit_or}
use Rattle.std.specs.List.{AllByRecursion}
use Rattle.std.proofs.lemmas.Bool.{false≢true}
use Rattle.std.proofs.lemmas.Nat.{or_lt, or_comm, pow_pos}
use Rattle.std.proofs.lemmas.List.Elements.{filter-append}
use Rattle.mr_geom.specs.Plane.{Inside}
use Rattle.mr_geom.specs.Rectangle.{Rectangle, IsOrdered, FitsMap, union, join, union_of}
use Rattle.mr_geom.proofs.Planes.{Inside-union_first, Inside-union_second, Inside-through}
use Rattle.mr_record.specs.Record.{IsRecord}
use Rattle.mr_record.specs.declared.record.Record.{Record}
use Rattle.mr_record.specs.declared.version.Version.{Version}
use Rattle.mr_record.specs.declared.version.Version.TheVariants.{One, Two}
use Rattle.mr_tree.specs.Tree as trees
use Rattle.mr_tree.specs.Tree.{mask_of, layer_bit}
use Rattle.mr_tree.specs.Digest.{Scheme}
use Rattle.mr_tree.specs.declared.tree.Tree.{Tree}
use Rattle.mr_tree.proofs.Equations.{records-Leaf, records-Inner}
use Rattle.mr_tree.proofs.Induction.{every_child}
use Rattle.mr_tree.proofs.Joins.{rects_of, rect_round}
use Rattle.mr_tree.proofs.Masks.{or_assoc, mask_of-cons}
use Rattle.mr_tree.proofs.Told.{mask_told}
use Rattle.mr_query.specs.Layers.{layer_mask}
use Rattle.mr_query.specs.Region.{record_key}
use Rattle.mr_query.specs.declared.key.Key.{Key}
use Rattle.mr_query.proofs.Masks.{or_twice, or_all_layers, layer_fits}
use Rattle.mr_proof.specs.Cut.{Cut, Cuts, Pruned, Leaf, Inner, no_more, first, records, all_records, CutOf, CutsOf}
use Rattle.mr_proof.specs.declared.way.Way.{Way}
use Rattle.mr_proof.specs.declared.way.Way.TheVariants as ways
use Rattle.mr_proof.specs.Tight.{key_at, mask_seen, is_open, opens_at, AreAmong, IsNarrow, IsTightCut, AreTightCuts}
use Rattle.mr_proof.proofs.Full.{IsFull, IsFullNode, there_tree, full_records, flat}

-- what does not open a part opens nothing in it
pub record MissesParts (way : Key → Way) : Type 0 where
  pub parts : (a b : Key) → IsOrdered a.rect → IsOrdered b.rect → FitsMap a.rect → FitsMap b.rect
      → Inside a.rect b.rect → AreAmong a.mask b.mask → opens_at way b ≡ false → opens_at way a ≡ false

not_open : (w : Way) → is_open w ≡ false → w ≢ ways.Open
not_open w f e = absurd (false≢true (sym f ∙ ap is_open e))

-- as all lawful ways are
pub narrow_misses : (way : Key → Way) → IsNarrow way → MissesParts way
narrow_misses way law = record {
  parts = λ a b o q f g inside among m.
      ap is_open (law a b o q f g inside among (not_open (way b) m)) ∙ m;
}

-- ---- the records of a tree lie in the rectangle round it

abbrev LiesIn : Rectangle → Record → Type 0
LiesIn whole r = Inside r.rect whole

inside_behind : (a : Rectangle) (rs : List Record) (whole : Rectangle)
    → fold join (Some a) (rects_of rs) ≡ Some whole → Inside a whole × AllByRecursion (LiesIn whole) rs
inside_behind a [] whole e = let same : a ≡ whole = cc in (subst (Inside a) same (λ p h. h), tt)
inside_behind a (r ∷ rs) whole e =
    let more = union a r.rect in
    let rest = inside_behind more rs whole e in (
      Inside-through a more whole (Inside-union_first a r.rect) rest.0,
      (Inside-through r.rect more whole (Inside-union_second a r.rect) rest.0, rest.1),
    )

inside_all : (rs : List Record) (whole : Rectangle) → union_of (rects_of rs) ≡ Some whole
    → AllByRecursion (LiesIn whole) rs
inside_all [] whole e = tt
inside_all (r ∷ rs) whole e = inside_behind r.rect rs whole e

-- ---- and their layers are among those that are seen of it

-- the masks of records are among this one
abbrev HasBitOf : ℕ → Record → Type 0
HasBitOf mask r = bit_or (layer_mask r) mask ≡ mask

among_more : (x b m : ℕ) → bit_or x m ≡ m → bit_or x (bit_or b m) ≡ bit_or b m
among_more x b m e =
    sym (or_assoc x b m) ∙ ap (λ (y : ℕ). bit_or y m) (or_comm x b) ∙ or_assoc b x m ∙ ap (bit_or b) e

each_more : (b m : ℕ) (rs : List Record) → AllByRecursion (HasBitOf m) rs
    → AllByRecursion (HasBitOf (bit_or b m)) rs
each_more b m [] all = tt
each_more b m (r ∷ rs) all = (among_more (layer_mask r) b m all.0, each_more b m rs all.1)

-- all layers of some records
abbrev layers_of : List Record → ℕ
layers_of rs = mask_of (map (layer_bit Two) rs)

has_bits : (rs : List Record) → AllByRecursion (HasBitOf (layers_of rs)) rs
has_bits [] = tt
has_bits (r ∷ rs) =
    let b = layer_mask r in
    subst (λ (m : ℕ). AllByRecursion (HasBitOf m) (r ∷ rs)) (sym (mask_of-cons b (map (layer_bit Two) rs)))
    (or_twice b (layers_of rs), each_more b (layers_of rs) rs (has_bits rs))

layers_fit : (rs : List Record) → AllByRecursion IsRecord rs → layers_of rs < 2 ^ 64
layers_fit [] all = pow_pos 64
layers_fit (r ∷ rs) all =
    subst (λ (m : ℕ). m < 2 ^ 64) (sym (mask_of-cons (layer_mask r) (map (layer_bit Two) rs)))
    (or_lt 64 (layer_mask r) (layers_of rs) (layer_fits r.layer all.0.layer) (layers_fit rs all.1))

abbrev IsAmong : ℕ → Record → Type 0
IsAmong mask r = AreAmong (layer_mask r) mask

of_bits : (m : ℕ) → m < 2 ^ 64 → (rs : List Record) → AllByRecursion (HasBitOf m) rs
    → AllByRecursion (IsAmong m) rs
of_bits m low [] all = tt
of_bits m low (r ∷ rs) all =
    (record { one = pow_pos r.layer; fits = low; among = all.0 }, of_bits m low rs all.1)

of_all_layers : (rs : List Record) → AllByRecursion IsRecord rs → AllByRecursion (IsAmong (mask_seen One 0)) rs
of_all_layers [] all = tt
of_all_layers (r ∷ rs) all = (
  record {
    one = pow_pos r.layer;
    fits = omega arith;
    among = or_all_layers (layer_mask r) (layer_fits r.layer all.0.layer);
  },
  of_all_layers rs all.1,
)

are_among : (v : Version) (rs : List Record) → AllByRecursion IsRecord rs
    → AllByRecursion (IsAmong (mask_seen v (mask_of (map (layer_bit v) rs)))) rs
are_among One rs all = of_all_layers rs all
are_among Two rs all = of_bits (layers_of rs) (layers_fit rs all) rs (has_bits rs)

-- ---- so they are missed where the tree is

abbrev met : (Key → Way) → Record → Bool
met way r = opens_at way (record_key r)

none_met : (way : Key → Way) → MissesParts way → (b : Key) → IsOrdered b.rect → FitsMap b.rect
    → opens_at way b ≡ false → (rs : List Record) → AllByRecursion IsRecord rs
    → AllByRecursion (LiesIn b.rect) rs → AllByRecursion (IsAmong b.mask) rs → filter (met way) rs ≡ []
none_met way law b o g f [] all inside among = refl
none_met way law b o g f (r ∷ rs) all inside among =
    let one = all.0 in
    let here : met way r ≡ false =
    law.parts (record_key r) b one.ordered o one.coordinates g inside.0 among.0 f in
    rw here (none_met way law b o g f rs all.1 inside.1 among.1)

abbrev some : Rectangle → Option Rectangle
some x = Some x

same_some : (x y : Rectangle) → some x ≡ some y → x ≡ y
same_some x y e = cc

missed_tree : (v : Version) (way : Key → Way) → MissesParts way → (t : Tree) → IsFull t → (r : Rectangle) (m : ℕ)
    → Some r ≡ trees.rect t → m ≡ trees.mask v t → opens_at way (key_at v m r) ≡ false
    → filter (met way) (trees.records t) ≡ []
missed_tree v way law t full r m e k f =
    let rs = trees.records t in
    let each = full_records t full in
    let there = there_tree t full in
    let same : there.at ≡ r = same_some there.at r (sym there.is ∙ sym e) in
    let told : trees.mask v t ≡ mask_of (map (layer_bit v) rs) = mask_told v t in
    none_met way law (key_at v m r) (subst IsOrdered same there.ordered) (subst FitsMap same there.fits) f rs each
    (inside_all rs r (sym (rect_round t) ∙ sym e))
    (subst (λ (n : ℕ). AllByRecursion (IsAmong (mask_seen v n)) rs) (sym (k ∙ told)) (are_among v rs each))

-- ---- all nodes

mutual
  pub kept : (s : Scheme) (way : Key → Way) → MissesParts way → (P : Cut) (t : Tree) → IsFull t
      → CutOf s P t → IsTightCut s.version way P
      → filter (met way) (records P) ≡ filter (met way) (trees.records t)
  kept s way law (Pruned x) t full c tight = sym (missed_tree s.version way law t full x.rect x.mask c.0 c.1 tight)
  kept s way law (Leaf rs) t full c tight =
      ap (filter (met way)) (sym (ap trees.records c ∙ records-Leaf rs))
  kept s way law (Inner cuts) t full c tight =
      all_kept s way law cuts c.0 (every_child IsFullNode c.0 (subst IsFull c.1 full)) c.2 tight.1
      ∙ ap (filter (met way)) (sym (ap trees.records c.1 ∙ records-Inner c.0))

  all_kept : (s : Scheme) (way : Key → Way) → MissesParts way → (Ps : Cuts) (ts : List Tree)
      → AllByRecursion IsFull ts → CutsOf s Ps ts → AreTightCuts s.version way Ps
      → filter (met way) (all_records Ps) ≡ filter (met way) (flat ts)
  all_kept s way law no_more ts full c tight = sym (ap (λ (us : List Tree). filter (met way) (flat us)) c)
  all_kept s way law (first P Ps) ts full c tight =
      let fulls = subst (AllByRecursion IsFull) c.2 full in
      filter-append (met way) (records P) (all_records Ps)
      ∙ (λ i. kept s way law P c.0 fulls.0 c.3 tight.0 i ++ all_kept s way law Ps c.1 fulls.1 c.4 tight.1 i)
      ∙ sym (filter-append (met way) (trees.records c.0) (flat c.1))
      ∙ sym (ap (λ (us : List Tree). filter (met way) (flat us)) c.2)
