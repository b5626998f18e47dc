-- A node that is gathered from its records or its entries.
use Rattle.std.proofs.Common.{◌≡◌, ℕ, ◌+◌, ◌<◌, List, [], ◌∷◌, ◌++◌, length, map, take, get_or, refl, sym, ap, ◌∙◌, arith}
use Rattle.std.specs.Prelude.{Option, sum}
use Rattle.std.specs.List.{flat_map}
use Rattle.std.proofs.lemmas.List.{length-map, map_more}
use Rattle.std.proofs.lemmas.List.Folds.{flat_map-map}
use Rattle.std.proofs.lemmas.List.Sums.{sum_by-cons}
use Rattle.std.proofs.lemmas.Simd.{map-map}
use Rattle.mr_geom.specs.Rectangle.{Rectangle, union_of}
use Rattle.mr_record.specs.declared.record.Record.{Record}
use Rattle.mr_record.specs.declared.version.Version.{Version}
use Rattle.mr_record.specs.declared.version.Version.TheVariants.{One, Two}
use Rattle.mr_record.specs.Version.{told}
use Rattle.mr_tree.specs.Tree.{mask_of}
use Rattle.mr_tree.specs.Digest.{Scheme, entry_step, entry_bytes, level_over, leaf_tag, inner_tag}
use Rattle.mr_tree.specs.HasHashed.{Piece, of_record, of_entry, HasHashed}
use Rattle.mr_tree.specs.declared.entry.Entry.{Entry}
use Rattle.mr_tree.specs.declared.tree.Tree.TheOpen.{Leaf, Inner}
use Rattle.mr_tree.proofs.Told.{told_sum}

abbrev bytes : Piece → List ℕ
bytes p = p.bytes

abbrev rect : Piece → Option Rectangle
rect p = p.rect

abbrev mask : Piece → ℕ
mask p = p.mask

abbrev count : Piece → ℕ
count p = p.count

-- ---- all of a leaf

tallied : (v : Version) (rs : List Record) → sum (map count (map (of_record v) rs)) ≡ told v (length rs)
tallied One [] = refl
tallied Two [] = refl
tallied v (r ∷ rs) =
    sum_by-cons (λ k. k) (told v 1) (map count (map (of_record v) rs))
    ∙ ap (λ n. told v 1 + n) (tallied v rs) ∙ sym (told_sum v 1 (length rs)) ∙ ap (told v) (omega arith)

pub leaf_gathered : (s : Scheme) (holds : List ℕ → Type 0) (rs : List Record) (e : Entry) → e.level ≡ 0
    → HasHashed holds e.rect e.mask e.count (leaf_tag ∷ length rs ∷ []) (map (of_record s.version) rs)
    → ((fed : List ℕ) → holds fed → e.digest ≡ s.of fed) → e ≡ entry_step s (Leaf rs)
leaf_gathered s holds rs e low all digest = λ i. record {
  level = low i;
  rect = (all.round ∙ ap union_of (map-map rect (of_record s.version) rs)) i;
  mask = (all.layers ∙ ap mask_of (map-map mask (of_record s.version) rs)) i;
  count = (all.tally ∙ tallied s.version rs) i;
  digest = (digest _ all.fed ∙ ap (λ bs. s.of (leaf_tag ∷ length rs ∷ bs))
      (flat_map-map bytes (of_record s.version) rs)) i;
}

-- ---- all of an inner node

pub inner_gathered : {X : Type 0} (s : Scheme) (holds : List ℕ → Type 0) (f : X → Entry) (xs : List X) (level : ℕ)
    (e : Entry) → level ≡ level_over (map f xs) → e.level ≡ level
    → HasHashed holds e.rect e.mask e.count (inner_tag ∷ level ∷ length xs ∷ [])
    (map (λ x. of_entry s.version (f x)) xs)
    → ((fed : List ℕ) → holds fed → e.digest ≡ s.of fed) → e ≡ entry_step s (Inner (map f xs))
inner_gathered {X} s holds f xs level e at low all digest = λ i. record {
  level = (low ∙ at) i;
  rect = (all.round ∙ ap union_of (map-map rect piece xs ∙ both (λ (e : Entry). e.rect))) i;
  mask = (all.layers ∙ ap mask_of (map-map mask piece xs ∙ both (λ (e : Entry). e.mask))) i;
  count = (all.tally ∙ ap sum (map-map count piece xs ∙ both (λ (e : Entry). e.count))) i;
  digest = (digest _ all.fed ∙ (λ j. s.of (inner_tag ∷ at j ∷ sym (length-map xs f) j ∷ fed j))) i;
}
  where
    piece : X → Piece
    piece x = of_entry s.version (f x)

    both : {Y : Type 0} (part : Entry → Y) → map (λ x. part (f x)) xs ≡ map part (map f xs)
    both part = sym (map-map part f xs)

    fed : flat_map bytes (map piece xs) ≡ flat_map (entry_bytes s.version) (map f xs)
    fed = flat_map-map bytes piece xs ∙ sym (flat_map-map (entry_bytes s.version) f xs)

-- ---- one more

pub pieces_more : {X : Type 0} (piece : X → Piece) (xs : List X) (i : ℕ) (x : X) (p : Piece) → p ≡ piece x
    → x ≡ get_or xs i x → i < length xs → map piece (take i xs) ++ p ∷ [] ≡ map piece (take (i + 1) xs)
pieces_more piece xs i x p same is within =
    ap (λ q. map piece (take i xs) ++ q ∷ []) (same ∙ ap piece is) ∙ sym (map_more piece xs i x within)
