-- What a proof shows as the map holds it.
use Rattle.std.proofs.Common.{◌≡◌, ℕ, List, [], ◌∷◌, ◌++◌, length, map, refl, sym, ap, ◌∙◌, append_assoc, arith}
use Rattle.std.specs.Prelude.{All, Option, Some, None, option_map, true, ◌&&◌}
use Rattle.std.specs.Ordering.{int_eq}
use Rattle.std.proofs.lemmas.Bool.{and_parts}
use Rattle.std.proofs.lemmas.Bool.Decides.{Decides-int_eq}
use Rattle.std.specs.List.{flat_map, AllByRecursion}
use Rattle.std.proofs.lemmas.List.Elements.{recursion_from_All}
use Rattle.mr_geom.specs.Rectangle.{Rectangle}
use Rattle.mr_record.specs.Record.{IsRecord, HasLayer, record_bytes}
use Rattle.mr_record.specs.declared.record.Record.{Record}
use Rattle.mr_record.specs.declared.version.Version.{Version}
use Rattle.mr_tree.specs.Digest.{Scheme}
use Rattle.mr_tree.specs.View.{Node, IsView, children_in, records_in, child_entry, level_of, preimage_of}
use Rattle.mr_tree.specs.declared.tree.Tree.TheOpen as node
use Rattle.mr_proof.specs.Cut.{Leaf}
use Rattle.mr_proof.specs.Fields.{leaf_tag}
use Rattle.mr_proof.specs.Spelling.{cut_bytes, FitsCut}
use Rattle.mr_proof.specs.Clash.{differ, or_else}
use Rattle.mr_proof.proofs.Spellings.{cons_parts, same_record}
use Rattle.mr_proof.proofs.Values.{bytes_same}
use Rattle.mr_clash.specs.private.Steps.{pair_of, string_over, leaf_summary, inner_summary, entry_with, HaveSum, Closed, WalkedLeaf}
use Rattle.mr_clash.specs.declared.summary.Summary.{Summary}
use Rattle.mr_clash.specs.declared.walked.Row.{Row}
use Rattle.mr_clash.proofs.Nodes.{leaf_said, owned_inner}

-- ---- records

record SameFront (rs ss : List Record) (x y : List ℕ) : Type 0 where
  all : rs ≡ ss
  rest : x ≡ y

abbrev text : Version → Record → List ℕ
text v r = record_bytes v r

abbrev AreRecords : List Record → Type 0
AreRecords rs = AllByRecursion IsRecord rs

abbrev HaveLayers : Version → List Record → Type 0
HaveLayers v rs = AllByRecursion (HasLayer v) rs

same_front : (v : Version) (rs ss : List Record) (x y : List ℕ) → AreRecords rs → HaveLayers v rs → AreRecords ss
    → HaveLayers v ss
    → length rs ≡ length ss → flat_map (text v) rs ++ x ≡ flat_map (text v) ss ++ y → SameFront rs ss x y
same_front v [] [] x y p k q l long e = record { all = refl; rest = e }
same_front v [] (s ∷ ss) x y p k q l long e = absurd (omega arith)
same_front v (r ∷ rs) [] x y p k q l long e = absurd (omega arith)
same_front v (r ∷ rs) (s ∷ ss) x y p k q l long e =
    let here = same_record v r s (flat_map (text v) rs ++ x) (flat_map (text v) ss ++ y) p.0 k.0 q.0 l.0
    (sym (append_assoc (text v r) (flat_map (text v) rs) x) ∙ e ∙ append_assoc (text v s) (flat_map (text v) ss) y) in
    let more = same_front v rs ss x y p.1 k.1 q.1 l.1 (omega arith) here.rest in
    record { all = λ i. here.one i ∷ more.all i; rest = more.rest }

-- two leaves with one spelling, and what follows them
same_leaf : (v : Version) (rs ss : List Record) (x y : List ℕ) → AreRecords rs → HaveLayers v rs → AreRecords ss
    → HaveLayers v ss
    → cut_bytes v (Leaf rs) ++ x ≡ cut_bytes v (Leaf ss) ++ y → SameFront rs ss x y
same_leaf v rs ss x y p k q l e =
    let tagged = cons_parts leaf_tag leaf_tag (length rs ∷ flat_map (text v) rs ++ x)
    (length ss ∷ flat_map (text v) ss ++ y) e
    in
    let counted = cons_parts (length rs) (length ss) (flat_map (text v) rs ++ x) (flat_map (text v) ss ++ y) tagged.1 in
    same_front v rs ss x y p k q l counted.0 counted.1

-- ---- rectangles

-- rectangles with the same sides
pub same_sides : (a b : Rectangle)
    → (int_eq a.x0 b.x0 && (int_eq a.y0 b.y0 && (int_eq a.x1 b.x1 && int_eq a.y1 b.y1))) ≡ true
    → ◌≡◌ {A = Option Rectangle} (Some a) (Some b)
same_sides a b e =
    let p = and_parts (int_eq a.x0 b.x0) _ e in
    let q = and_parts (int_eq a.y0 b.y0) _ p.1 in
    let r = and_parts (int_eq a.x1 b.x1) _ q.1 in
    λ i. Some (record {
      x0 = (Decides-int_eq a.x0 b.x0).0 p.0 i;
      y0 = (Decides-int_eq a.y0 b.y0).0 q.0 i;
      x1 = (Decides-int_eq a.x1 b.x1).0 r.0 i;
      y1 = (Decides-int_eq a.y1 b.y1).0 r.1 i;
    })

-- ---- nodes

none_differ : (x y : List ℕ) → x ≡ y → differ x (Some y) ≡ None
none_differ x y e = rw (bytes_same x y e) refl

-- a leaf that is the map's own
pub own_leaf : (scheme : Scheme) (n : Node) (rs : List Record) (rest before after digest : List ℕ)
    (all : Summary) → IsView n → All (HasLayer scheme.version) (records_in n) → n ≡ node.Leaf (records_in n)
    → FitsCut scheme.version 0 (Leaf rs) → before ≡ cut_bytes scheme.version (Leaf rs) ++ rest
    → before ≡ cut_bytes scheme.version (Leaf (records_in n)) ++ after
    → all ≡ leaf_summary scheme.version (records_in n) → scheme.of (preimage_of scheme.version n) ≡ digest
    → WalkedLeaf scheme rs rest (preimage_of scheme.version n)
    (record { entry = entry_with 0 all digest; clash = None }) after
own_leaf scheme node.Empty rs rest before after digest all view layers leaf fits is own says held = absurd view
own_leaf scheme (node.Inner cs) rs rest before after digest all view layers leaf fits is own says held = absurd cc
own_leaf scheme (node.Leaf ss) rs rest before after digest all view layers leaf fits is own says held =
    let v = scheme.version in
    let same = same_leaf v rs ss rest after (recursion_from_All IsRecord rs fits.each)
    (recursion_from_All (HasLayer v) rs fits.layers) (recursion_from_All IsRecord ss view.each)
    (recursion_from_All (HasLayer v) ss layers) (sym is ∙ own) in
    let string : cut_bytes v (Leaf ss) ≡ cut_bytes v (Leaf rs) = ap (λ xs. cut_bytes v (Leaf xs)) (sym same.all) in
    record {
      says = leaf_said scheme rs (entry_with 0 all digest) (cut_bytes v (Leaf ss))
          (λ i. entry_with 0 ((says ∙ ap (leaf_summary v) (sym same.all)) i) (sym held i)) string;
      behind = sym same.rest;
      pair = sym (none_differ (cut_bytes v (Leaf ss)) (cut_bytes v (Leaf rs)) string);
    }

-- an inner node over what the map holds of its children
pub own_inner : (scheme : Scheme) (n : Node) (v : ℕ) (digest : List ℕ) (all : Summary) (row : Row)
    → n ≡ node.Inner (children_in n) → v ≡ level_of n → row.entries.items ≡ map child_entry (children_in n)
    → (HaveSum row.entries.items → all ≡ inner_summary row.entries.items)
    → scheme.of (preimage_of scheme.version n) ≡ digest
    → Closed scheme v (preimage_of scheme.version n) row
    (record { entry = entry_with v all digest; clash = row.clash })
own_inner scheme n v digest all row inner level own says held =
    let u = scheme.version in
    let xs = row.entries.items in
    let string : string_over u v xs ≡ preimage_of u n =
    owned_inner u n (children_in n) v (map child_entry (children_in n)) xs inner level refl own in
    record {
      says = λ few. λ i. entry_with v (says few i) ((sym held ∙ ap scheme.of (sym string)) i);
      pair = sym (ap (λ o. or_else o (option_map pair_of row.clash))
          (none_differ (preimage_of u n) (string_over u v xs) (sym string)));
    }
