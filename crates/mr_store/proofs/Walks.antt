-- A walk over the nodes of a map: what stands below each child, and why it stops.
use Rattle.std.proofs.Common.{◌≡◌, ◌≢◌, ℕ, zero, suc, ◌+◌, ◌<◌, ◌≤◌, Bool, true, false, List, [], ◌∷◌, ◌++◌, length, map, get_or, take, drop, refl, sym, ap, subst, ◌∙◌, arith, append_assoc}
use Rattle.std.specs.Prelude.{◌&&◌, ◌||◌, ◌==◌, not, All, Option, Some, None, IfSome, IsSome, IsNone, IsSomeAnd, Result, Ok, Err, IfOk, IfErr, OnOk}
use Rattle.std.specs.List.{flat_map, AllByRecursion}
use Rattle.std.proofs.lemmas.Bool.{OnFalse_at, ltb-false, le-ltb, eqb-true, eq-eqb}
use Rattle.std.proofs.lemmas.List.{length-map, length-append, map-append, append-nil, take_more}
use Rattle.std.proofs.lemmas.List.Concat.{flat_map-append}
use Rattle.std.proofs.lemmas.List.Elements.{All-from_recursion, recursion_from_All, All-append, All-nil}
use Rattle.mr_outside.specs.Faults.{next_count}
use Rattle.mr_record.specs.Record.{IsRecord, HasLayer}
use Rattle.mr_record.specs.declared.record.Record.{Record}
use Rattle.mr_record.specs.declared.version.Version.{Version}
use Rattle.mr_tree.specs.Tree.{level, records, first_level}
use Rattle.mr_tree.specs.Digest.{Scheme, by, entry, entry_step}
use Rattle.mr_tree.specs.declared.entry.Entry.{Entry}
use Rattle.mr_tree.specs.WellFormed.{HasOneLevel, IsFilled}
use Rattle.mr_tree.specs.View as view
use Rattle.mr_tree.specs.View.{IsInner}
use Rattle.mr_tree.specs.Nodes.{MapModel, IsEntry, IsNodeOf, MayFetch, ShowsNode, HasFetchCause, subtrees}
use Rattle.mr_tree.specs.declared.child.Child.{Child}
use Rattle.mr_tree.specs.declared.nodes.NodesErr.{NodesErr}
use Rattle.mr_tree.specs.declared.nodes.NodesErr.TheVariants as errors
use Rattle.mr_tree.specs.declared.tree.Tree.{Tree}
use Rattle.mr_tree.specs.declared.tree.Tree.TheVariants as tree
use Rattle.mr_tree.specs.declared.tree.Tree.TheOpen.{Empty, Leaf, Inner}
use Rattle.mr_tree.specs.declared.tree.Tree.TheFolds.{every-Tree}
use Rattle.mr_tree.proofs.Equations.{entry_level, entry-Leaf, entry-Inner, records-Leaf, records-Inner}
use Rattle.mr_tree.proofs.Induction.{every-Leaf, every-Inner}
use Rattle.mr_tree.proofs.Subtrees.{subtrees-Leaf, subtrees-Inner}
use Rattle.mr_pages.specs.Faults.{numbers_of, repeats, same_rect, least_fill, size}
use Rattle.mr_pages.specs.private.Judging.{fills_node, has_said, fits_entry}
use Rattle.mr_pages.specs.Walking.{child_link, Saw, MeetsNumbers, page_node}
use Rattle.mr_pages.specs.declared.visited.Visited.{Visited}
use Rattle.mr_pages.proofs.Building.{FilledAs, leaf_there, inner_there, filled_leaf, filled_inner, first_is, one_of, leaf_filled, inner_filled, filled_below, of_images}
use Rattle.mr_pages.proofs.Fits.{first_of_both, second_of_both, level_known, rect_known, mask_known, count_known}
use Rattle.mr_pages.proofs.Lists.{Fresh, repeats_fresh, fresh_append, all_append, all_weaker, all_right, fresh_left, fresh_right, fresh_repeats}
use Rattle.mr_pages.proofs.PageLaws.{both_true}
use Rattle.mr_pages.proofs.Rules.{same_rect_is, same_rect_self}
use Rattle.mr_store.specs.private.Walk.{SuitsEntry, IsFine, IsCounted, IsFull, CanWalk, AddsNumbers, GathersAll, Walked, WalkedAll, StopsWalk, IsTwice}

-- ---- lists

pub first_same : {A : Type 0} (x y : A) (xs ys : List A) → x ∷ xs ≡ y ∷ ys → x ≡ y
first_same x y xs ys e = cc

pub rest_same : {A : Type 0} (x y : A) (xs ys : List A) → x ∷ xs ≡ y ∷ ys → xs ≡ ys
rest_same x y xs ys e = cc

pub some_same : {A : Type 0} (x y : A) → Some x ≡ Some y → x ≡ y
some_same x y e = cc

pub no_first : {A : Type 0} (x : A) (xs : List A) → x ∷ xs ≡ [] → ⊥
no_first x xs e = cc

somes : (ts us : List Tree) → map Some ts ≡ map Some us → ts ≡ us
somes [] [] e = refl
somes [] (u ∷ us) e = absurd (no_first (Some u) (map Some us) (sym e))
somes (t ∷ ts) [] e = absurd (no_first (Some t) (map Some ts) e)
somes (t ∷ ts) (u ∷ us) e =
    let one = some_same t u (first_same (Some t) (Some u) (map Some ts) (map Some us) e) in
    let rest = somes ts us (rest_same (Some t) (Some u) (map Some ts) (map Some us) e) in
    λ i. one i ∷ rest i

pub some_of : {A : Type 0} (o : Option A) (P : A → Type 0) → IsSomeAnd o P → IsSome o
some_of None P h = absurd h
some_of (Some x) P h = refl

-- ---- what is told of the node

pub told_leaf : (s : MapModel) (o : Option Tree) (rs : List Record) → IsSome o →
    IfSome o (λ t. IsNodeOf s t (Leaf rs)) → o ≡ Some (tree.Leaf rs)
told_leaf s None rs some node = let none : IsSome {T = Tree} None = some in cc
told_leaf s (Some t) rs some node = ap Some node

pub told_inner : (s : MapModel) (o : Option Tree) (cs : List Child) (us : List Tree) → IsSome o →
    IfSome o (λ t. IsNodeOf s t (Inner cs)) → map (λ (d : Child). s.node d.id) cs ≡ map Some us →
    o ≡ Some (tree.Inner us)
told_inner s None cs us some node same = let none : IsSome {T = Tree} None = some in cc
told_inner s (Some t) cs us some node same =
    ap Some (node.1 ∙ ap tree.Inner (somes node.0 us (sym node.2 ∙ same)))

pub both : (b : Bool) → b ≡ true → b ≡ false → ⊥
both true p q = cc
both false p q = cc

not_true : (b : Bool) → not b ≡ true → b ≡ false
not_true true e = cc
not_true false e = refl

-- ---- what is said of a node that a view shows

-- a node that was fetched and is fit suits
has_count : (root : Bool) (a b : ℕ) → (root || a == b) ≡ true → (root ≡ true → b ≡ a) → a ≡ b
has_count true a b e counted = sym (counted refl)
has_count false a b e counted = eqb-true a b e

-- a node that fits is as full as it has to be
fill_of : (v : Version) (root : Bool) (c : Child) (n : view.Node) → fits_entry v root c n ≡ true →
    least_fill root (page_node n) ≤ size (page_node n)
fill_of v root c n fit = ltb-false _ _ (not_true _ (second_of_both (has_said v root c n) (fills_node root n) fit))

pub suits_of : (v : Version) (hash : List ℕ → List ℕ) (s : MapModel) (root : Bool) (c : Child) (n : view.Node) →
    s.version ≡ v → ShowsNode hash s c n → view.IsView n → fits_entry v root c n ≡ true →
    IsCounted root c (view.count_over v n) → SuitsEntry (by v hash) root c n
suits_of v hash s root c n one shows is fit counted =
    let said = first_of_both (has_said v root c n) (fills_node root n) fit in
    let sums = second_of_both (same_rect (view.rect_of n) (Some c.rect)) _ said in
    record {
      fits = is;
      some = shows.some;
      told = subst (λ u. view.AreTold u n) one shows.told;
      known = λ i. record {
        level = (sym shows.level ∙ sym (level_known (by v hash) n)) i;
        rect = (sym (rect_known (by v hash) n ∙ same_rect_is (view.rect_of n) (Some c.rect)
            (first_of_both (same_rect (view.rect_of n) (Some c.rect)) _ said))) i;
        mask = (sym (mask_known (by v hash) n ∙ eqb-true (view.mask_over v n) c.mask
            (first_of_both (view.mask_over v n == c.mask) _ sums))) i;
        count = (sym (count_known (by v hash) n ∙ has_count root (view.count_over v n) c.count
            (second_of_both (view.mask_over v n == c.mask) _ sums) counted)) i;
        digest = (sym shows.digest ∙ ap (λ u. hash (view.preimage_of u n)) one) i;
      };
      full = fill_of v root c n fit;
    }

entries_told : (scheme : Scheme) (s : MapModel) (cs : List Child) (ts : List Tree) →
    map (λ (d : Child). s.node d.id) cs ≡ map Some ts →
    AllByRecursion (λ (d : Child). IsSomeAnd (s.node d.id) (λ t. view.child_entry d ≡ entry scheme t)) cs →
    map view.child_entry cs ≡ map (entry scheme) ts
entries_told scheme s [] [] e known = refl
entries_told scheme s [] (t ∷ ts) e known = cc
entries_told scheme s (c ∷ cs) [] e known = cc
entries_told scheme s (c ∷ cs) (t ∷ ts) e known =
    let one = subst (λ o. IsSomeAnd o (λ u. view.child_entry c ≡ entry scheme u))
    (first_same (s.node c.id) (Some t) (map (λ (d : Child). s.node d.id) cs) (map Some ts) e) known.0 in
    let rest = entries_told scheme s cs ts
    (rest_same (s.node c.id) (Some t) (map (λ (d : Child). s.node d.id) cs) (map Some ts) e) known.1 in
    λ i. one i ∷ rest i

told_entry : (scheme : Scheme) (s : MapModel) (t : Tree) (n : view.Node) → IsNodeOf s t n →
    AllByRecursion (λ (d : Child). IsSomeAnd (s.node d.id) (λ u. view.child_entry d ≡ entry scheme u))
    (view.children_in n) → entry scheme t ≡ view.entry_over scheme n
told_entry scheme s t Empty is known = absurd is
told_entry scheme s t (Leaf rs) is known = ap (entry scheme) is ∙ entry-Leaf scheme rs
told_entry scheme s t (Inner cs) is known =
    ap (entry scheme) is.1 ∙ entry-Inner scheme is.0
    ∙ ap (λ es. entry_step scheme (Inner es)) (sym (entries_told scheme s cs is.0 is.2 known))

all_known : (hash : List ℕ → List ℕ) (s : MapModel) → IsSome s.tree → (cs : List Child) →
    AllByRecursion (MayFetch hash s) cs → AllByRecursion (IsEntry hash s) cs
all_known hash s told [] may = tt
all_known hash s told (c ∷ cs) may = (may.0.known told, all_known hash s told cs may.1)

-- what is told of a map has what is said of it
either_true : (a b : Bool) → b ≡ true → (a || b) ≡ true
either_true true b e = refl
either_true false b e = e

said_told : (v : Version) (hash : List ℕ → List ℕ) (s : MapModel) (root : Bool) (c : Child) (n : view.Node) →
    s.version ≡ v → IsSome s.tree → MayFetch hash s c → ShowsNode hash s c n → has_said v root c n ≡ true
said_told v hash s root c n one told may shows = at (s.node c.id) (may.known told) shows.node
  where
    at : (o : Option Tree) → IsSomeAnd o (λ t. view.child_entry c ≡ entry (by s.version hash) t) →
        IfSome o (λ t. IsNodeOf s t n) → has_said v root c n ≡ true
    at None known node = absurd known
    at (Some t) known node =
        let same : view.child_entry c ≡ view.entry_over (by v hash) n =
        known ∙ told_entry (by s.version hash) s t n node
        (all_known hash s told (view.children_in n)
        (recursion_from_All (MayFetch hash s) (view.children_in n) shows.children))
        ∙ ap (λ u. view.entry_over (by u hash) n) one in
        let rect : Some c.rect ≡ view.rect_of n = ap (λ (e : Entry). e.rect) same ∙ rect_known (by v hash) n in
        both_true (same_rect (view.rect_of n) (Some c.rect))
        ((view.mask_over v n == c.mask) && (root || view.count_over v n == c.count))
        (ap (λ r. same_rect r (Some c.rect)) (sym rect) ∙ same_rect_self (Some c.rect))
        (both_true (view.mask_over v n == c.mask) (root || view.count_over v n == c.count)
        (eq-eqb (view.mask_over v n) c.mask (sym (ap (λ (e : Entry). e.mask) same ∙ mask_known (by v hash) n)))
        (either_true root (view.count_over v n == c.count)
        (eq-eqb (view.count_over v n) c.count (sym (ap (λ (e : Entry). e.count) same ∙ count_known (by v hash) n)))))

filled_told : (root : Bool) (s : MapModel) (t : Tree) (n : view.Node) → IsNodeOf s t n → FilledAs root t →
    fills_node root n ≡ true
filled_told root s t Empty is f = absurd is
filled_told root s t (Leaf rs) is f =
    ap not (le-ltb _ _ (leaf_filled root rs (subst (FilledAs root) is f)))
filled_told root s t (Inner cs) is f =
    let count : length is.0 ≡ length (map child_link cs) =
    sym (length-map is.0 Some) ∙ sym (ap length is.2) ∙ length-map cs (λ (d : Child). s.node d.id)
    ∙ sym (length-map cs child_link) in
    ap not (le-ltb _ _ (inner_filled root (map child_link cs) is.0 count (subst (FilledAs root) is.1 f)))

full_told : (hash : List ℕ → List ℕ) (s : MapModel) (root : Bool) (c : Child) (n : view.Node) → IsSome s.tree →
    MayFetch hash s c → ShowsNode hash s c n → IsFull s root c → fills_node root n ≡ true
full_told hash s root c n told may shows full = at (s.node c.id) refl (may.known told) shows.node
  where
    at : (o : Option Tree) → s.node c.id ≡ o → IsSomeAnd o (λ t. view.child_entry c ≡ entry (by s.version hash) t) →
        IfSome o (λ t. IsNodeOf s t n) → fills_node root n ≡ true
    at None e known node = absurd known
    at (Some t) e known node = filled_told root s t n node (full t e)

fit_told : (v : Version) (hash : List ℕ → List ℕ) (s : MapModel) (root : Bool) (c : Child) (n : view.Node) →
    s.version ≡ v → IsSome s.tree → MayFetch hash s c → ShowsNode hash s c n → IsFull s root c →
    fits_entry v root c n ≡ true
fit_told v hash s root c n one told may shows full =
    both_true (has_said v root c n) (fills_node root n) (said_told v hash s root c n one told may shows)
    (full_told hash s root c n told may shows full)

-- ---- a leaf

fine_leaf : (v : Version) (root : Bool) (rs : List Record) → least_fill root (Leaf rs) ≤ length rs → length rs ≤ 16 →
    All IsRecord rs → All (HasLayer v) rs → IsFine v root (tree.Leaf rs)
fine_leaf v root rs full few each layers = record {
  one_level = every-Leaf HasOneLevel rs tt;
  there = leaf_there rs;
  filled = filled_leaf root rs full few;
  each = subst (All IsRecord) (sym (records-Leaf rs)) each;
  layers = subst (All (HasLayer v)) (sym (records-Leaf rs)) layers;
}

pub next_count-≤ : (n : ℕ) → next_count n ≤ n + 1
next_count-≤ n = omega arith

pub leaf_walked : (x : Scheme) (hash : List ℕ → List ℕ) (s : MapModel) (root : Bool) (child : Child)
    (rs : List Record) (before after : Visited) (f f' : ℕ) (made : Tree → Type 0) → MayFetch hash s child →
    ShowsNode hash s child (Leaf rs) → x.of (view.preimage_of x.version (Leaf rs)) ≡ child.digest →
    s.version ≡ x.version → view.IsView (Leaf rs) → fits_entry x.version root child (Leaf rs) ≡ true →
    (IsCounted root child (view.count_over x.version (Leaf rs)) → SuitsEntry x root child (Leaf rs)) →
    f' ≡ next_count f → AddsNumbers before after rs → (SuitsEntry x root child (Leaf rs) → made (tree.Leaf rs)) →
    Walked x s root child before after f f' made
leaf_walked x hash s root child rs before after f f' made may shows digest one views fits suits count met is = record {
  under = tree.Leaf rs;
  digest = ap (λ (e : Entry). e.digest) (entry-Leaf x rs) ∙ digest;
  fine = fine_leaf x.version root rs (fill_of x.version root child (Leaf rs) fits) views.few views.each
      (subst (λ v. view.AreTold v (Leaf rs)) one shows.told).layers;
  met = subst (AddsNumbers before after) (sym (records-Leaf rs)) met;
  same = λ told. told_leaf s (s.node child.id) rs (some_of (s.node child.id) _ (may.known told)) shows.node;
  once = omega (arith, count, next_count-≤ f, ap length (subtrees-Leaf rs));
  is = λ counted.
      let same : (entry x (tree.Leaf rs)).count ≡ view.count_over x.version (Leaf rs) =
      ap (λ (e : Entry). e.count) (entry-Leaf x rs) ∙ count_known x (Leaf rs) in
      let fit = suits (λ r. counted r ∙ same) in
      record {
        known = fit.known ∙ sym (entry-Leaf x rs);
        made = is fit;
      };
}

-- ---- an inner node

levels_of : (x : Scheme) (n : ℕ) (cs : List Child) (us : List Tree) → map view.child_entry cs ≡ map (entry x) us →
    AllByRecursion (λ (c : Child). c.level + 1 ≡ n + 1) cs → AllByRecursion (λ t. level t ≡ n) us
levels_of x n cs [] e all = tt
levels_of x n [] (u ∷ us) e all = absurd (no_first (entry x u) (map (entry x) us) (sym e))
levels_of x n (c ∷ cs) (u ∷ us) e all =
    let one = first_same (view.child_entry c) (entry x u) (map view.child_entry cs) (map (entry x) us) e in
    let same : c.level ≡ level u = ap (λ (y : Entry). y.level) one ∙ entry_level x u in (
      omega (arith, same, all.0),
      levels_of x n cs us (rest_same (view.child_entry c) (entry x u) (map view.child_entry cs) (map (entry x) us) e)
          all.1,
    )

pub records_fine : (v : Version) (us : List Tree) → AllByRecursion (IsFine v false) us →
    All IsRecord (flat_map records us)
records_fine v [] fine = All-nil IsRecord
records_fine v (u ∷ us) fine =
    All-append IsRecord (records u) (flat_map records us) fine.0.each (records_fine v us fine.1)

layers_fine : (v : Version) (us : List Tree) → AllByRecursion (IsFine v false) us →
    All (HasLayer v) (flat_map records us)
layers_fine v [] fine = All-nil (HasLayer v)
layers_fine v (u ∷ us) fine =
    All-append (HasLayer v) (records u) (flat_map records us) fine.0.layers (layers_fine v us fine.1)

fine_inner : (x : Scheme) (root : Bool) (cs : List Child) (us : List Tree) → IsInner cs →
    map view.child_entry cs ≡ map (entry x) us →
    least_fill root (Inner (map child_link cs)) ≤ length (map child_link cs) → AllByRecursion
    (IsFine x.version false) us →
    IsFine x.version root (tree.Inner us)
fine_inner x root cs us fits known full fine =
    let v = x.version in
    let n = first_level (map (λ (c : Child). c.level) cs) in
    let count : length us ≡ length cs =
    sym (length-map us (entry x)) ∙ sym (ap length known) ∙ length-map cs view.child_entry in
    let links : length (map child_link cs) ≡ length cs = length-map cs child_link in
    let some : 0 < length us = omega (arith, count, fits.some) in
    let there = all_weaker (IsFine v false) (λ t. t ≢ tree.Empty) (λ t f. f.there) us fine in
    let same = levels_of x n cs us known
    (recursion_from_All (λ (c : Child). c.level + 1 ≡ n + 1) cs fits.alike) in
    record {
      one_level = every-Inner HasOneLevel us
          (all_weaker (IsFine v false) (every-Tree HasOneLevel) (λ t f. f.one_level) us fine)
          (All-from_recursion (λ t. (t ≢ tree.Empty) × (level t ≡ first_level (map level us))) us
          (one_of n us same there (first_level (map level us)) (first_is n us some same)));
      there = inner_there us;
      filled = filled_inner root (map child_link cs) us (count ∙ sym links) full (omega (arith, links, fits.few))
          (all_weaker (IsFine v false) (every-Tree IsFilled) (λ t f. f.filled) us fine);
      each = subst (All IsRecord) (sym (records-Inner us ∙ of_images us)) (records_fine v us fine);
      layers = subst (All (HasLayer v)) (sym (records-Inner us ∙ of_images us)) (layers_fine v us fine);
    }

pub inner_walked : (x : Scheme) (hash : List ℕ → List ℕ) (s : MapModel) (root : Bool) (child : Child)
    (children : List Child) (before after : Visited) (f f' : ℕ) (made : Tree → Type 0) (made_all : List Tree → Type 0) →
    MayFetch hash s child → ShowsNode hash s child (Inner children) →
    x.of (view.preimage_of x.version (Inner children)) ≡ child.digest → view.IsView (Inner children) →
    fits_entry x.version root child (Inner children) ≡ true →
    (IsCounted root child (view.count_over x.version (Inner children)) → SuitsEntry x root child (Inner children)) →
    WalkedAll x s children before after (f + 1) f' made_all →
    (SuitsEntry x root child (Inner children) → (us : List Tree) → made_all us → made (tree.Inner us)) →
    Walked x s root child before after f f' made
inner_walked x hash s root child children before after f f' made made_all may shows digest views fits suits all is =
    let us = all.below in
    let nodes = ap length (subtrees-Inner us) ∙ length-append (flat_map subtrees us) (tree.Inner us ∷ []) in
    record {
      under = tree.Inner us;
      digest = ap (λ (e : Entry). e.digest) (entry-Inner x us ∙ ap (λ es. entry_step x (Inner es)) (sym all.known))
          ∙ digest;
      fine = fine_inner x root children us views all.known (fill_of x.version root child (Inner children) fits)
          all.fine;
      met = subst (AddsNumbers before after) (sym (records-Inner us ∙ of_images us)) all.met;
      same = λ told. told_inner s (s.node child.id) children us (some_of (s.node child.id) _ (may.known told))
          shows.node (all.same told);
      once = omega (arith, nodes, all.once);
      is = λ counted.
          let same : (entry x (tree.Inner us)).count ≡ view.count_over x.version (Inner children) =
          ap (λ (e : Entry). e.count) (entry-Inner x us ∙ ap (λ es. entry_step x (Inner es)) (sym all.known))
          ∙ count_known x (Inner children) in
          let fit = suits (λ r. counted r ∙ same) in
          record {
            known = fit.known ∙ ap (λ es. entry_step x (Inner es)) all.known ∙ sym (entry-Inner x us);
            made = is fit us all.made;
          };
    }

-- ---- children one after another

-- the numbers of some records were met, none of them twice
pub adds_of : (before after : Visited) (rs qs : List Record) (twice : Bool) → qs ≡ rs → twice ≡ false →
    ((pages : ℕ) (ps ns : List ℕ) → Saw pages before ps ns → MeetsNumbers pages ps ns (numbers_of qs) twice after) →
    AddsNumbers before after rs
adds_of before after rs qs twice same off told = subst (AddsNumbers before after) same (λ pages ns saw.
    let met = told pages [] ns saw in
    (repeats_fresh ns (numbers_of qs) (sym met.0 ∙ off), OnFalse_at off met.1))

pub gathers_more : {S : Type 0} (g : S → S → Child → Tree → Type 0) (s t u : S) (cs : List Child) (ts : List Tree)
    (c : Child) (one : Tree) → GathersAll g s t cs ts → g t u c one →
    GathersAll g s u (cs ++ c ∷ []) (ts ++ one ∷ [])
unfolding GathersAll
gathers_more g s t u [] [] c one same h = (u, subst (λ y. g y u c one) same h, refl)
gathers_more g s t u (d ∷ cs) (w ∷ ts) c one all h =
    (all.0, all.1, gathers_more g all.0 t u cs ts c one all.2 h)
gathers_more g s t u [] (w ∷ ts) c one all h = absurd all
gathers_more g s t u (d ∷ cs) [] c one all h = absurd all

none_walked : (x : Scheme) (s : MapModel) (seen : Visited) (f f' : ℕ) (made : List Tree → Type 0) → f' ≤ f →
    made [] → WalkedAll x s [] seen seen f f' made
none_walked x s seen f f' made few is = record {
  below = [];
  known = refl;
  fine = tt;
  met = λ pages ns saw. (tt, subst (Saw pages seen []) (sym (append-nil ns)) saw);
  same = λ told. refl;
  once = omega (arith, few);
  made = is;
}

pub adds_more : (a b c : Visited) (xs ys : List Record) → AddsNumbers a b xs → AddsNumbers b c ys → AddsNumbers a c
    (xs ++ ys)
adds_more a b c xs ys f g = λ pages ns saw.
    let p = f pages ns saw in
    let q = g pages (ns ++ numbers_of xs) p.1 in
    let both = map-append (λ (r : Record). r.number) xs ys in (
      subst (Fresh ns) (sym both) (fresh_append ns (numbers_of xs) (numbers_of ys) p.0 q.0),
      subst (Saw pages c []) (append_assoc ns (numbers_of xs) (numbers_of ys) ∙ ap (λ zs. ns ++ zs) (sym both)) q.1,
    )

pub flat_more : {A : Type 0} (f : Tree → List A) (us : List Tree) (t : Tree) →
    flat_map f us ++ f t ≡ flat_map f (us ++ t ∷ [])
flat_more f us t =
    ap (λ xs. flat_map f us ++ xs) (sym (append-nil (f t))) ∙ sym (flat_map-append f us (t ∷ []))

pub begun : {S : Type 0} (x : Scheme) (s : MapModel) (seen : Visited) (into : S) (g : S → S → Child → Tree → Type 0)
    (f f' : ℕ) → f' ≤ f → WalkedAll x s [] seen seen f f' (GathersAll g into into [])
unfolding GathersAll
begun x s seen into g f f' few = none_walked x s seen f f' (GathersAll g into into []) few refl

-- a node below the root is the one that is said of
below_root : {A : Type 0} → (false ≡ true) → A
below_root e = absurd cc

pub next_walked : (x : Scheme) (s s' : MapModel) (cs : List Child) (d : Child) (i : ℕ) (a b e : Visited) (f g h : ℕ)
    (made made' : List Tree → Type 0) (one : Tree → Type 0) → s' ≡ s → i < length cs → d ≡ get_or cs i d →
    WalkedAll x s (take i cs) a b f g made → Walked x s' false d b e g h one →
    ((us : List Tree) (t : Tree) → made us → one t → made' (us ++ t ∷ [])) →
    WalkedAll x s (take (i + 1) cs) a e f h made'
next_walked x s s' cs d i a b e f g h made made' one same within here all next more =
    let us = all.below in
    let t = next.under in
    let nodes = λ (c : Child). s.node c.id in
    let list : take (i + 1) cs ≡ take i cs ++ d ∷ [] =
    take_more cs i d within ∙ ap (λ y. take i cs ++ y ∷ []) (sym here) in
    let told = subst (λ (y : MapModel). IsSome y.tree → y.node d.id ≡ Some t) same next.same in
    let below = next.is below_root in
    record {
      below = us ++ t ∷ [];
      known = ap (map view.child_entry) list ∙ map-append view.child_entry (take i cs) (d ∷ [])
          ∙ (λ k. all.known k ++ below.known k ∷ []) ∙ sym (map-append (entry x) us (t ∷ []));
      fine = all_append (IsFine x.version false) us (t ∷ []) all.fine (next.fine, tt);
      met = subst (AddsNumbers a e) (flat_more records us t)
          (adds_more a b e (flat_map records us) (records t) all.met next.met);
      same = λ is. ap (map nodes) list ∙ map-append nodes (take i cs) (d ∷ [])
          ∙ (λ k. all.same is k ++ told is k ∷ []) ∙ sym (map-append Some us (t ∷ []));
      once = omega (
        arith,
        all.once,
        next.once,
        sym (ap length (flat_more subtrees us t)) ∙ length-append (flat_map subtrees us) (subtrees t),
      );
      made = more us t all.made below.made;
    }

-- ---- why it stops

-- what less is known of
pub refuses_as : (s : MapModel) (a b : ℕ) (P Q : Type 0) (e : NodesErr) → (IsSome s.tree → Q → P) →
    StopsWalk s a b P e → StopsWalk s a b Q e
refuses_as s a b P Q (errors.Page page) f h = (h.0, h.1, λ told q. h.2 told (f told q))
refuses_as s a b P Q (errors.Changed page held found) f h = h
refuses_as s a b P Q (errors.Outside page) f h = h
refuses_as s a b P Q errors.Missing f h = h
refuses_as s a b P Q errors.Fault f h = h
refuses_as s a b P Q errors.NoMemory f h = h

-- a later call
pub refuses_along : (P : MapModel → Type 0) (Q : Type 0) (s s' : MapModel) (a b c : ℕ) (e : NodesErr) → s' ≡ s → b ≡ a →
    (IsSome s.tree → Q → P s) → StopsWalk s' b c (P s') e → StopsWalk s a c Q e
refuses_along P Q s s' a b c e same quiet f h =
    refuses_as s a c (P s) Q e f (subst (λ x. StopsWalk x a c (P x) e) same
    (subst (λ n. StopsWalk s' n c (P s') e) quiet h))

pub fetch_refuses : (hash : List ℕ → List ℕ) (s : MapModel) (c : Child) (a b : ℕ) (P : Type 0) (e : NodesErr) →
    MayFetch hash s c → HasFetchCause s c a b e → StopsWalk s a b P e
fetch_refuses hash s c a b P (errors.Changed page held found) may h =
    (h.0, (omega (arith, may.positive, h.1), omega (arith, may.within, h.1)), h.3, h.4)
fetch_refuses hash s c a b P (errors.Page page) may h =
    ((omega (arith, may.positive, h.1), omega (arith, may.within, h.1)), h.2, λ told p. told_not s.tree h.0 told)
  where
    told_not : (o : Option Tree) → IsNone o → IsSome o → ⊥
    told_not None none some = let is : IsSome {T = Tree} None = some in cc
    told_not (Some t) none some = let is : IsNone {T = Tree} (Some t) = none in cc
fetch_refuses hash s c a b P (errors.Outside page) may h = h
fetch_refuses hash s c a b P errors.Missing may h = h
fetch_refuses hash s c a b P errors.Fault may h = h
fetch_refuses hash s c a b P errors.NoMemory may h = h

pub unfit_refuses : (v : Version) (hash : List ℕ → List ℕ) (s : MapModel) (root : Bool) (c : Child) (n : view.Node)
    (a b : ℕ) → s.version ≡ v → MayFetch hash s c → ShowsNode hash s c n → b ≡ a → fits_entry v root c n ≡ false →
    StopsWalk s a b (IsFull s root c) (errors.Page c.id)
unfit_refuses v hash s root c n a b one may shows quiet unfit = (
  (may.positive, may.within),
  quiet,
  λ told full. both (fits_entry v root c n) (fit_told v hash s root c n one told may shows full) unfit,
)

pub memory_refuses : (s : MapModel) (a b : ℕ) (P : Type 0) (e : NodesErr) → e ≡ errors.NoMemory → StopsWalk s a b P e
memory_refuses s a b P e is = subst (StopsWalk s a b P) (sym is) tt

pub twice_refuses : (hash : List ℕ → List ℕ) (s : MapModel) (root : Bool) (c : Child) (rs : List Record)
    (before : Visited) (a b : ℕ) (e : NodesErr) → MayFetch hash s c → ShowsNode hash s c (Leaf rs) → b ≡ a →
    IsTwice c.id before rs e → StopsWalk s a b (CanWalk s root before c) e
twice_refuses hash s root c rs before a b (errors.Page page) may shows quiet twice = (
  (omega (arith, may.positive, twice.0), omega (arith, may.within, twice.0)),
  quiet,
  λ told can.
      let is = told_leaf s (s.node c.id) rs (some_of (s.node c.id) _ (may.known told)) shows.node in
      let fresh = subst (λ us. Fresh can.ns (numbers_of us)) (records-Leaf rs) (can.fresh (tree.Leaf rs) is) in
      both (repeats can.ns (numbers_of rs)) (twice.1 can.pages can.ns can.saw)
      (fresh_repeats can.ns (numbers_of rs) fresh),
)
twice_refuses hash s root c rs before a b (errors.Changed page held found) may shows quiet twice = absurd twice
twice_refuses hash s root c rs before a b (errors.Outside page) may shows quiet twice = absurd twice
twice_refuses hash s root c rs before a b errors.Missing may shows quiet twice = absurd twice
twice_refuses hash s root c rs before a b errors.Fault may shows quiet twice = absurd twice
twice_refuses hash s root c rs before a b errors.NoMemory may shows quiet twice = tt

-- ---- what is known of a child that comes next

pub may_next : (hash : List ℕ → List ℕ) (s s' : MapModel) (child d : Child) (children : List Child) (i : ℕ) → s' ≡ s →
    ShowsNode hash s child (Inner children) → i < length children → d ≡ get_or children i d → MayFetch hash s' d
may_next hash s s' child d children i same shows within is =
    subst (λ x. MayFetch hash x d) (sym same) (subst (MayFetch hash s) (sym is) (shows.children i d within))

pub split_list : {A : Type 0} (xs : List A) (i : ℕ) (x : A) → i < length xs → x ≡ get_or xs i x →
    xs ≡ take i xs ++ x ∷ drop (suc i) xs
split_list [] i x within is = absurd (omega (arith, within))
split_list (y ∷ ys) zero x within is = ap (λ z. z ∷ ys) (sym is)
split_list (y ∷ ys) (suc i) x within is = ap (λ zs. y ∷ zs) (split_list ys i x (omega (arith, within)) is)

pub split_some : (us : List Tree) (t : Tree) (os : List (Option Tree)) (ts : List Tree) →
    map Some us ++ Some t ∷ os ≡ map Some ts → (vs : List Tree) × (ts ≡ us ++ t ∷ vs)
split_some [] t os [] e = let no : ⊥ = cc in absurd no
split_some [] t os (u ∷ ts) e =
    (ts, ap (λ x. x ∷ ts) (sym (some_same t u (first_same (Some t) (Some u) os (map Some ts) e))))
split_some (v ∷ us) t os [] e = let no : ⊥ = cc in absurd no
split_some (v ∷ us) t os (u ∷ ts) e =
    let one = some_same v u (first_same (Some v) (Some u) (map Some us ++ Some t ∷ os) (map Some ts) e) in
    let rest = split_some us t os ts (rest_same (Some v) (Some u) (map Some us ++ Some t ∷ os) (map Some ts) e) in
    (rest.0, λ i. sym one i ∷ rest.1 i)

-- a tree that comes behind others in a row
pub record InRow (root : Bool) (ns : List ℕ) (us : List Tree) (t : Tree) : Type 0 where
  pub full : FilledAs false t
  pub fresh : Fresh (ns ++ numbers_of (flat_map records us)) (numbers_of (records t))

pub in_row : (root : Bool) (ns : List ℕ) (us vs ts : List Tree) (t : Tree) → ts ≡ us ++ t ∷ vs →
    FilledAs root (tree.Inner ts) → Fresh ns (numbers_of (records (tree.Inner ts))) → InRow root ns us t
in_row root ns us vs ts t is full fresh =
    let all = subst (AllByRecursion (every-Tree IsFilled)) is (filled_below root ts full) in
    let lists : records (tree.Inner ts) ≡ flat_map records us ++ (records t ++ flat_map records vs) =
    records-Inner ts ∙ of_images ts ∙ ap (flat_map records) is ∙ flat_map-append records us (t ∷ vs) in
    let numbers : numbers_of (records (tree.Inner ts))
    ≡ numbers_of (flat_map records us) ++ (numbers_of (records t) ++ numbers_of (flat_map records vs)) =
    ap numbers_of lists ∙ map-append (λ (r : Record). r.number) (flat_map records us) (records t ++ flat_map records vs)
    ∙ ap (λ xs. numbers_of (flat_map records us) ++ xs)
    (map-append (λ (r : Record). r.number) (records t) (flat_map records vs)) in
    record {
      full = (all_right (every-Tree IsFilled) us (t ∷ vs) all).0;
      fresh = fresh_left (ns ++ numbers_of (flat_map records us)) (numbers_of (records t))
          (numbers_of (flat_map records vs)) (fresh_right ns (numbers_of (flat_map records us))
          (numbers_of (records t) ++ numbers_of (flat_map records vs)) (subst (Fresh ns) numbers fresh));
    }

module _ (x : Scheme) (hash : List ℕ → List ℕ) (s : MapModel) (root : Bool) (child d : Child) (children : List Child)
    (i : ℕ) (before now : Visited) (f f' : ℕ) (made : List Tree → Type 0) (told : IsSome s.tree)
    (may : MayFetch hash s child) (shows : ShowsNode hash s child (Inner children)) (within : i < length children)
    (is : d ≡ get_or children i d) (all : WalkedAll x s (take i children) before now f f' made)
    (can : CanWalk s root before child) where
  row : (t : Tree) → s.node d.id ≡ Some t → InRow root can.ns all.below t
  row t e = at (s.node child.id) refl (may.known told) shows.node
    where
      at : (o : Option Tree) → s.node child.id ≡ o →
          IsSomeAnd o (λ u. view.child_entry child ≡ entry (by s.version hash) u) →
          IfSome o (λ u. IsNodeOf s u (Inner children)) → InRow root can.ns all.below t
      at None p known node = absurd known
      at (Some u) p known node =
          let us = all.below in
          let nodes = λ (c : Child). s.node c.id in
          let os = map nodes (drop (suc i) children) in
          let there : map Some us ++ Some t ∷ os ≡ map Some node.0 =
          sym (λ j. all.same told j ++ e j ∷ os) ∙ sym (map-append nodes (take i children) (d ∷ drop (suc i) children))
          ∙ ap (map nodes) (sym (split_list children i d within is)) ∙ node.2 in
          let parts = split_some us t os node.0 there in
          in_row root can.ns us parts.0 node.0 t parts.1 (subst (FilledAs root) node.1 (can.full u p))
          (subst (λ w. Fresh can.ns (numbers_of (records w))) node.1 (can.fresh u p))

  pub next_can : CanWalk s false now d
  next_can = record {
    pages = can.pages;
    ns = can.ns ++ numbers_of (flat_map records all.below);
    saw = (all.met can.pages can.ns can.saw).1;
    full = λ t e. (row t e).full;
    fresh = λ t e. (row t e).fresh;
  }

-- ---- what is answered, by cases

pub if_ok : {A E : Type 0} (r : Result A E) (P Q : A → Type 0) → ((a : A) → P a → Q a) → IfOk r P → IfOk r Q
if_ok (Ok a) P Q f h = f a h
if_ok (Err e) P Q f h = tt

pub if_err : {A E : Type 0} (r : Result A E) (P Q : E → Type 0) → ((e : E) → P e → Q e) → IfErr r P → IfErr r Q
if_err (Ok a) P Q f h = tt
if_err (Err e) P Q f h = f e h

pub on_ok : {A E : Type 0} (r : Result A E) (P Q : Type 0) → (P → Q) → OnOk r P → OnOk r Q
on_ok (Ok a) P Q f h = f h
on_ok (Err e) P Q f h = tt

pub leaf_ended : {A E : Type 0} (r : Result A E) (P R : A → Type 0) (Q : Type 0) → ((a : A) → P a × Q → R a) →
    IfOk r P → OnOk r Q → IfOk r R
leaf_ended (Ok a) P R Q f h k = f a (h, k)
leaf_ended (Err e) P R Q f h k = tt
