-- Proof that a page is an id: of each node of a map on pages, and of no other.
use Rattle.std.proofs.Common.{◌≡◌, ◌≢◌, ℕ, zero, suc, ◌<◌, ◌≤◌, Bool, true, false, List, [], ◌∷◌, ◌++◌, length, get_or, inl, inr, refl, sym, ap, ◌∙◌, arith}
use Rattle.std.specs.Prelude.{◌==◌, ◌⊎◌, ltb, nat_eq, Option, Some, None, option_map, IsSome, slice_get, AllPairs}
use Rattle.std.specs.Cmp.{nat_eq_equiv}
use Rattle.std.specs.List.{AllByRecursion, IsDistinct}
use Rattle.std.specs.Map.{lookup, keys_of}
use Rattle.std.proofs.lemmas.Bool.{eqb-true, ltb-true, ltb-false}
use Rattle.std.proofs.lemmas.List.{length-map, get_or-map}
use Rattle.std.proofs.lemmas.Option.{slice_get-map, slice_get-get_or, slice_get_within, get_or_from_slice_get}
use Rattle.std.proofs.lemmas.Map.Entries.{lookup_from_place, place_from_lookup}
use Rattle.mr_record.specs.declared.version.Version.{Version}
use Rattle.mr_tree.specs.Nodes.{HasIds, subtrees}
use Rattle.mr_tree.specs.declared.tree.Tree.{Tree}
use Rattle.mr_pages.specs.Stands.{Placed, Leaf, AreAllPages, whole_tree, whole_pages}
use Rattle.mr_pages.proofs.Lists.{Fresh, all_has, has_all, all_left, fresh_left, apart_fresh, fresh_apart, apart_distinct}
use Rattle.mr_pages.proofs.Chains.{all_within}
use Rattle.mr_store.specs.Parts.{whole_parts, tree_on, placed_model}
use Rattle.mr_store.specs.private.PartLaws.{below, whole_subtrees, whole_has, whole_fresh}

abbrev Inside : ℕ → ℕ → Type 0
Inside span p = (0 < p) × (p < span)

-- the pages of a map, each of one node, and all in the file
pub record ArePages (span : ℕ) (es : List (ℕ × Placed)) : Type 0 where
  pub distinct : IsDistinct ◌==◌ (keys_of es)
  pub apart : AllPairs (λ (p q : ℕ). p ≢ q) (keys_of es)
  pub inside : AllByRecursion (Inside span) (keys_of es)

pub are_pages : (span : ℕ) (po : Option Placed) (chain : List ℕ) →
    AreAllPages span (whole_pages po ++ chain) →
    ArePages span (whole_parts po)
are_pages span po chain all =
    let fresh : Fresh [] (keys_of (whole_parts po)) = whole_fresh po
    (fresh_left [] (whole_pages po) chain (apart_fresh (whole_pages po ++ chain) all.once)) in
    let apart = fresh_apart [] (keys_of (whole_parts po)) fresh in
    let inside = all_left (Inside span) (whole_pages po) chain (all_within
    span (whole_pages po ++ chain) all) in
    record {
      distinct = apart_distinct (keys_of (whole_parts po)) apart;
      apart = apart;
      inside = has_all (Inside span) (keys_of (whole_parts po)) (λ n e.
          all_has (Inside span) (whole_pages po) inside n (sym (whole_has n po) ∙ e));
    }

-- a node at a place is found by its page
pub found_at : (span : ℕ) (es : List (ℕ × Placed)) → ArePages span es → (k p : ℕ) (P : Placed) →
    slice_get es k ≡ Some (p, P) → lookup (nat_eq p) es ≡ Some P
found_at span es are k p P e = lookup_from_place nat_eq_equiv es k p P are.distinct e

pub all_at : (P : ℕ → Type 0) (ns : List ℕ) → AllByRecursion P ns → (k d : ℕ) → k < length ns →
    P (get_or ns k d)
all_at P [] all k d within = absurd (omega (arith, within))
all_at P (n ∷ ns) all zero d within = all.0
all_at P (n ∷ ns) all (suc k) d within = all_at P ns all.1 k d (omega (arith, within))

order : (j k : ℕ) → (j < k) ⊎ ((j ≡ k) ⊎ (k < j))
order j k = one (ltb j k) refl (ltb k j) refl
  where
    one : (a : Bool) → ltb j k ≡ a → (b : Bool) → ltb k j ≡ b → (j < k) ⊎ ((j ≡ k) ⊎ (k < j))
    one true e b f = inl (ltb-true j k e)
    one false e true f = inr (inr (ltb-true k j f))
    one false e false f =
        let p : k ≤ j = ltb-false j k e in
        let q : j ≤ k = ltb-false k j f in inr (inl (omega (arith, p, q)))

module _ (v : Version) (batch span : ℕ) (po : Option Placed) (are : ArePages span (whole_parts po))
  where
    abbrev es : List (ℕ × Placed)
    es = whole_parts po

    abbrev none : ℕ × Placed
    none = (0, Leaf 0 [])

    long : length (subtrees (whole_tree po)) ≡ length es
    long = ap length (sym (whole_subtrees po)) ∙ length-map es below

    abbrev id : ℕ → ℕ
    id k = get_or (keys_of es) k 0

    at : (k : ℕ) → k < length es → slice_get es k ≡ Some (get_or es k none)
    at k within = slice_get-get_or es k none within

    key : (k : ℕ) → k < length es → id k ≡ (get_or es k none).0
    key k within = get_or-map (λ (e : ℕ × Placed). e.0) es k none 0 within

    shows : (k : ℕ) → k < length es → tree_on es (id k) ≡ slice_get (subtrees (whole_tree po)) k
    shows k within =
        let e = get_or es k none in
        ap (tree_on es) (key k within)
        ∙ ap (option_map (λ P. below (e.0, P))) (found_at span es are k e.0 e.1 (at k within))
        ∙ ap (option_map below) (sym (at k within))
        ∙ sym (slice_get-map below es k)
        ∙ ap (λ ts. slice_get ts k) (whole_subtrees po)

    keys : length (keys_of es) ≡ length es
    keys = length-map es (λ (e : ℕ × Placed). e.0)

    others_at : (i : ℕ) (o : Option Placed) → lookup (nat_eq i) es ≡ o →
        IsSome (option_map (λ P. below (i, P)) o) →
        (k : ℕ) × (k < length (subtrees (whole_tree po))) × (id k ≡ i)
    others_at i None e some = let none : IsSome {T = Tree} None = some in cc
    others_at i (Some P) e some =
        let p = place_from_lookup (nat_eq i) es P e in
        let within : p.0 < length es = slice_get_within es p.0 (p.1, P) p.2 in (
          p.0,
          omega (arith, within, long),
          key p.0 within ∙ ap (λ (e : ℕ × Placed). e.0) (get_or_from_slice_get es p.0 (
            p.1,
            P,
          ) none p.2)
              ∙ sym (eqb-true i p.1 p.3),
        )

    pub ids : HasIds (placed_model v batch span po) (whole_tree po)
    ids = record {
      id = id;
      within = λ k h. inside k (omega (arith, h, long));
      shows = λ k h. shows k (omega (arith, h, long));
      apart = λ j k h l e. same j k (omega (arith, h, long)) (omega (arith, l, long)) e;
      others = λ i some. others_at i (lookup (nat_eq i) es) refl some;
    }
      where
        inside : (k : ℕ) → k < length es → (1 ≤ id k) × (id k < span)
        inside k within =
            let p = all_at (Inside span) (keys_of es) are.inside k 0 (omega (arith, within, keys))
            in
            (omega (arith, p.0), p.1)

        same : (j k : ℕ) → j < length es → k < length es → id j ≡ id k → j ≡ k
        same j k low high e = elim (order j k) [
          | inl less ↦ absurd (are.apart j k 0 less (omega (arith, high, keys)) e)
          | inr rest ↦ elim rest [
            | inl equal ↦ equal
            | inr more ↦ absurd (are.apart k j 0 more (omega (arith, low, keys)) (sym e))
          ]
        ]
