-- The nodes of a well-formed tree fit their pages.
use Rattle.std.proofs.Common.{◌≡◌, ℕ, zero, suc, ◌^◌, ◌<◌, ◌≤◌, Bool, true, false, List, [], ◌∷◌, length, map, refl, sym, ap, subst, ◌∙◌, arith, length-append}
use Rattle.std.specs.Prelude.{Option, Some, None, fold}
use Rattle.std.specs.List.{flat_map, AllByRecursion}
use Rattle.std.proofs.lemmas.List.Elements.{All-from_recursion}
use Rattle.mr_geom.specs.Rectangle.{Rectangle, IsOrdered, FitsMap, union, join, union_of}
use Rattle.mr_geom.proofs.Rectangles.{IsOrdered-union, FitsMap-union}
use Rattle.mr_record.specs.declared.record.Record.{Record}
use Rattle.mr_record.specs.Record.{IsRecord}
use Rattle.mr_tree.specs.Tree.{level, records, rect, first_level}
use Rattle.mr_tree.specs.Digest.{preimage, Scheme}
use Rattle.mr_tree.specs.Limits.{count_limit}
use Rattle.mr_tree.proofs.Told.{any_layers, may_tell}
use Rattle.mr_tree.specs.WellFormed.{HasOneLevel, IsFilled}
use Rattle.mr_tree.specs.declared.tree.Tree.{Tree}
use Rattle.mr_tree.specs.declared.tree.Tree.TheVariants as tree
use Rattle.mr_tree.specs.declared.tree.Tree.TheOpen.{Leaf, Inner}
use Rattle.mr_tree.specs.declared.tree.Tree.TheFolds.{every-Tree}
use Rattle.mr_tree.proofs.Equations.{level-Leaf, records-Inner, records-Leaf, rect-Inner, rect-Leaf, entry_level, entry_rect, digest_of_preimage}
use Rattle.mr_tree.proofs.Induction.{every_child}
use Rattle.mr_pages.specs.Page.{Link, Node, HasRect, IsLink, IsNode}
use Rattle.mr_pages.specs.Stands as placed
use Rattle.mr_pages.specs.Stands.{Placed, Row, no_more, first, tree_of, trees_of, pages_of, all_pages, page_of, link_of, links_of, IsWritten, AreWritten}
use Rattle.mr_pages.specs.Faults.{least_fill}
use Rattle.mr_pages.proofs.Lists.{all_left, all_right, all_weaker}
use Rattle.mr_pages.proofs.PageLaws.{FitsRecord}
use Rattle.mr_pages.proofs.Building.{FilledAs, leaf_filled, inner_filled, filled_below, below_levels, no_level_zero, length_row, of_images, leaf_few, inner_few}

-- ---- rectangles

joined : (a b : Option Rectangle) → HasRect a → HasRect b → HasRect (join a b)
joined None b h k = k
joined (Some a) None h k = h
joined (Some a) (Some b) h k =
    let left : a ≡ h.r = of_some a h.r h.is in
    let right : b ≡ k.r = of_some b k.r k.is in
    record {
      r = union a b;
      is = refl;
      ordered = IsOrdered-union a b (subst IsOrdered (sym left) h.ordered) (subst IsOrdered (sym right) k.ordered);
      coordinates = FitsMap-union a b (subst FitsMap (sym left) h.coordinates)
          (subst FitsMap (sym right) k.coordinates);
    }
  where
    of_some : (x y : Rectangle) → ◌≡◌ {A = Option Rectangle} (Some x) (Some y) → x ≡ y
    of_some x y e = cc

all_joined : (a : Option Rectangle) (rects : List (Option Rectangle)) → HasRect a → AllByRecursion HasRect rects →
    HasRect (fold join a rects)
all_joined a [] h all = h
all_joined a (r ∷ rects) h all = all_joined (join a r) rects (joined a r h all.0) all.1

-- the rectangle round some that are there, at least one
union_there : (rects : List (Option Rectangle)) → 0 < length rects → AllByRecursion HasRect rects →
    HasRect (union_of rects)
union_there [] some all = absurd (omega (arith, some))
union_there (r ∷ rects) some all = all_joined r rects all.0 all.1

rects_of_records : (rs : List Record) → AllByRecursion IsRecord rs →
    AllByRecursion HasRect (map (λ (r : Record). Some r.rect) rs)
rects_of_records [] all = tt
rects_of_records (r ∷ rs) all = (
  record { r = r.rect; is = refl; ordered = all.0.ordered; coordinates = all.0.coordinates },
  rects_of_records rs all.1,
)

-- ---- a node and what is said of it

-- each node fits its page, beside what is known of it there; what is said of the tree fits too, and it has a record
pub record Fits (hash : Scheme) (on : ℕ → Node → Type 0) (P : Placed) : Type 0 where
  pub both : IsWritten hash (λ p n. on p n × IsNode hash.version n) P
  pub said : IsLink hash.version (link_of hash P)
  pub some : 0 < length (records (tree_of P))

record RowFits (hash : Scheme) (on : ℕ → Node → Type 0) (n : ℕ) (Ps : Row) : Type 0 where
  both : AreWritten hash (λ p n. on p n × IsNode hash.version n) Ps
  said : AllByRecursion (IsLink hash.version) (links_of hash Ps)
  levels : AllByRecursion (λ (l : Link). l.entry.level ≡ n) (links_of hash Ps)
  rects : AllByRecursion HasRect (map rect (trees_of Ps))
  some : AllByRecursion (λ t. 0 < length (records t)) (trees_of Ps)

said_of : (hash : Scheme) → ((xs : List ℕ) → length (hash.of xs) ≡ 32) → (P : Placed) → page_of P < 2 ^ 32 →
    level (tree_of P) ≤ 7 → HasRect (rect (tree_of P)) → 0 < length (records (tree_of P)) →
    length (records (tree_of P)) ≤ count_limit → AllByRecursion (FitsRecord hash.version) (records (tree_of P)) →
    IsLink hash.version (link_of hash P)
said_of hash sized P low shallow there some few each = record {
  page = low;
  level = omega (arith, shallow, entry_level hash (tree_of P));
  rect = subst HasRect (sym (entry_rect hash (tree_of P))) there;
  told = may_tell hash (tree_of P) some few (any_layers hash.version (records (tree_of P))
      (λ k d within. (All-from_recursion (FitsRecord hash.version) (records (tree_of P)) each k d within).1));
  digest = ap length (digest_of_preimage hash (tree_of P)) ∙ sized (preimage hash (tree_of P));
}

first_link : (n : ℕ) (ls : List Link) → 0 < length ls → AllByRecursion (λ (l : Link). l.entry.level ≡ n) ls →
    first_level (map (λ (k : Link). k.entry.level) ls) ≡ n
first_link n [] some all = absurd (omega (arith, some))
first_link n (l ∷ ls) some all = all.0

some_records : (ts : List Tree) → 0 < length ts → AllByRecursion (λ t. 0 < length (records t)) ts →
    0 < length (flat_map records ts)
some_records [] some all = absurd (omega (arith, some))
some_records (t ∷ ts) some all = omega (arith, all.0, length-append (records t) (flat_map records ts))

images_length : {A B : Type 0} (f : A → B) (xs : List A) → length (map f xs) ≡ length xs
images_length f [] = refl
images_length f (x ∷ xs) = ap suc (images_length f xs)

module _ (hash : Scheme) (sized : (xs : List ℕ) → length (hash.of xs) ≡ 32) (on : ℕ → Node → Type 0) where
  abbrev IsLow : ℕ → Type 0
  IsLow p = p < 2 ^ 32

  abbrev Fitting : Record → Type 0
  Fitting = FitsRecord hash.version

  records_of : (rs : List Record) → AllByRecursion Fitting rs → AllByRecursion IsRecord rs
  records_of [] all = tt
  records_of (r ∷ rs) all = (all.0.0, records_of rs all.1)

  leaf_fits : (root : Bool) (p : ℕ) (rs : List Record) → on p (Leaf rs) → FilledAs root (tree.Leaf rs) →
      AllByRecursion Fitting (records (tree.Leaf rs)) → IsLow p → Fits hash on (placed.Leaf p rs)
  leaf_fits root p rs is filled each low =
      let full : 1 ≤ length rs = least_one root (leaf_filled root rs filled) in
      let all : AllByRecursion Fitting rs = subst (AllByRecursion Fitting) (records-Leaf rs) each in
      let some : 0 < length (records (tree.Leaf rs)) = omega (arith, full, ap length (records-Leaf rs)) in
      let images : length (map (λ (r : Record). Some r.rect) rs) ≡ length rs =
      images_length (λ (r : Record). Some r.rect) rs in
      record {
        both = (is, (full, leaf_few root rs filled, All-from_recursion Fitting rs all));
        said = said_of hash sized (placed.Leaf p rs) low (omega (arith, level-Leaf rs))
            (subst HasRect (sym (rect-Leaf rs)) (union_there _ (omega (arith, full, images))
            (rects_of_records rs (records_of rs all)))) some
            (omega (arith, leaf_few root rs filled, ap length (records-Leaf rs))) each;
        some = some;
      }
    where
      least_one : (b : Bool) → least_fill b (Leaf rs) ≤ length rs → 1 ≤ length rs
      least_one true h = h
      least_one false h = omega (arith, h)

  inner_fits : (root : Bool) (n p : ℕ) (Ps : Row) → on p (Inner (links_of hash Ps)) →
      FilledAs root (tree.Inner (trees_of Ps)) →
      level (tree.Inner (trees_of Ps)) ≡ suc n → suc n ≤ 7 → IsLow p →
      length (records (tree.Inner (trees_of Ps))) ≤ count_limit →
      AllByRecursion Fitting (records (tree.Inner (trees_of Ps))) → RowFits hash on n Ps →
      Fits hash on (placed.Inner p Ps)
  inner_fits root n p Ps is filled high shallow low many each r =
      let ts = trees_of Ps in
      let ls = links_of hash Ps in
      let same : length ts ≡ length ls = length_row hash Ps in
      let full : 1 ≤ length ls = least_one root (inner_filled root ls ts same filled) in
      let next : first_level (map (λ (k : Link). k.entry.level) ls) ≡ n = first_link n ls full r.levels in
      let images : length (map rect ts) ≡ length ts = images_length rect ts in
      let some : 0 < length (records (tree.Inner ts)) = subst (λ rs. 0 < length rs)
      (sym (records-Inner ts ∙ of_images ts)) (some_records ts (omega (arith, full, same)) r.some) in
      record {
        both = (
          (
            is,
            (
              full,
              inner_few root ls ts same filled,
              r.said,
              all_weaker (λ (l : Link). l.entry.level ≡ n)
                  (λ (l : Link). l.entry.level ≡ first_level (map (λ (k : Link). k.entry.level) ls))
                  (λ l e. e ∙ sym next) ls r.levels,
              omega (arith, next, shallow),
            ),
          ),
          r.both,
        );
        said = said_of hash sized (placed.Inner p Ps) low (omega (arith, high, shallow))
            (subst HasRect (sym (rect-Inner ts)) (union_there (map rect ts)
            (omega (arith, full, same, images)) r.rects)) some many each;
        some = some;
      }
    where
      least_one : (b : Bool) → least_fill b (Inner (links_of hash Ps)) ≤ length (links_of hash Ps) →
          1 ≤ length (links_of hash Ps)
      least_one true h = omega (arith, h)
      least_one false h = omega (arith, h)

  mutual
    pub fits : (P : Placed) (n : ℕ) (root : Bool) → IsWritten hash on P → every-Tree HasOneLevel (tree_of P) →
        level (tree_of P) ≡ n → n ≤ 7 → FilledAs root (tree_of P) → length (records (tree_of P)) ≤ count_limit →
        AllByRecursion Fitting (records (tree_of P)) → AllByRecursion IsLow (pages_of P) → Fits hash on P
    fits (placed.Leaf p rs) n root written levels is shallow filled many each low =
        leaf_fits root p rs written filled each low.0
    fits (placed.Inner p Ps) zero root written levels is shallow filled many each low =
        absurd (no_level_zero (trees_of Ps) is)
    fits (placed.Inner p Ps) (suc n) root written levels is shallow filled many each low =
        inner_fits root n p Ps written.0 filled is shallow low.0 many each
        (rows_fit Ps n written.1 (every_child HasOneLevel (trees_of Ps) levels) (below_levels n (trees_of Ps) levels is)
        (omega (arith, shallow)) (filled_below root (trees_of Ps) filled)
        (subst (λ rs. length rs ≤ count_limit) (records-Inner (trees_of Ps) ∙ of_images (trees_of Ps)) many)
        (subst (AllByRecursion Fitting) (records-Inner (trees_of Ps) ∙ of_images (trees_of Ps)) each) low.1)

    rows_fit : (Ps : Row) (n : ℕ) → AreWritten hash on Ps → AllByRecursion (every-Tree HasOneLevel) (trees_of Ps) →
        AllByRecursion (λ t. level t ≡ n) (trees_of Ps) → n ≤ 7 → AllByRecursion (every-Tree IsFilled) (trees_of Ps) →
        length (flat_map records (trees_of Ps)) ≤ count_limit →
        AllByRecursion Fitting (flat_map records (trees_of Ps)) → AllByRecursion IsLow (all_pages Ps) →
        RowFits hash on n Ps
    rows_fit no_more n written levels is shallow filled many each low =
        record { both = tt; said = tt; levels = tt; rects = tt; some = tt }
    rows_fit (first P Ps) n written levels is shallow filled many each low =
        let both = length-append (records (tree_of P)) (flat_map records (trees_of Ps)) in
        let one = fits P n false written.0 levels.0 is.0 shallow filled.0 (omega (arith, many, both))
        (all_left Fitting (records (tree_of P)) (flat_map records (trees_of Ps)) each)
        (all_left IsLow (pages_of P) (all_pages Ps) low) in
        let rest = rows_fit Ps n written.1 levels.1 is.1 shallow filled.1 (omega (arith, many, both))
        (all_right Fitting (records (tree_of P)) (flat_map records (trees_of Ps)) each)
        (all_right IsLow (pages_of P) (all_pages Ps) low) in
        record {
          both = (one.both, rest.both);
          said = (one.said, rest.said);
          levels = (entry_level hash (tree_of P) ∙ is.0, rest.levels);
          rects = (subst HasRect (entry_rect hash (tree_of P)) one.said.rect, rest.rects);
          some = (one.some, rest.some);
        }
