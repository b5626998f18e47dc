-- What is known beforehand of a child that is searched, and of what is left of a node then.
use Rattle.std.proofs.Common.{◌≡◌, Bool, true, false, ℕ, zero, suc, ◌<◌, ◌≤◌, List, [], ◌∷◌, ◌++◌, length, map, take, drop, get_or, refl, sym, ap, subst, ◌∙◌, arith}
use Rattle.std.specs.Prelude.{if◌then◌else◌, Option, IfSome}
use Rattle.std.specs.List.{AllByRecursion, flat_map}
use Rattle.std.proofs.lemmas.List.{length-map, length-append}
use Rattle.std.proofs.lemmas.List.Sorted.{length_permutation}
use Rattle.mr_geom.specs.Rectangle.{Rectangle}
use Rattle.mr_record.specs.Version.{told as told_by}
use Rattle.mr_record.specs.declared.record.Record.{Record}
use Rattle.mr_tree.specs.Digest.{Scheme}
use Rattle.mr_tree.specs.Tree.{records, level}
use Rattle.mr_tree.specs.WellFormed.{HasOneLevel, IsFilled, IsFilledRoot}
use Rattle.mr_tree.specs.declared.child.Child.{Child}
use Rattle.mr_tree.specs.declared.tree.Tree.{Tree}
use Rattle.mr_tree.specs.declared.tree.Tree.TheVariants as tree
use Rattle.mr_tree.specs.declared.tree.Tree.TheOpen as node
use Rattle.mr_tree.specs.declared.tree.Tree.TheFolds.{every-Tree}
use Rattle.mr_tree.proofs.Induction.{every_child, here-Inner}
use Rattle.mr_grow.specs.Found.{has}
use Rattle.mr_grow.specs.Shrink.{Rest, is_low, stays, shrunk}
use Rattle.mr_grow.proofs.Dropping.{shrunk_stands}
use Rattle.mr_grow.proofs.Shrunk.{shrunk_parted}
use Rattle.mr_pages.specs.Stands.{Placed, tree_of, IsChain}
use Rattle.mr_pages.specs.Walking.{child_link}
use Rattle.mr_pages.proofs.Building.{FilledAs, filled_below}
use Rattle.mr_edit.specs.PageMap.{PageMap, HasNode, HasFree}
use Rattle.mr_edit.specs.Held.{NamesTree, trees, pages, counted}
use Rattle.mr_edit.specs.Causes.{KnowsBelow}
use Rattle.mr_edit.specs.private.Removal.{HaveRect, IsOnce, RemovesRecord}
use Rattle.mr_edit.specs.private.Removable.{CanLeave, CanTakeOut}
use Rattle.mr_edit.proofs.Rows.{row_trees}
use Rattle.mr_edit.proofs.Zips.{same_length}
use Rattle.mr_edit.proofs.Descending.{tree_at, step_down, among_others}
use Rattle.mr_edit.proofs.Levels.{all_at}
use Rattle.mr_edit.proofs.Leaving.{placed_there}
use Rattle.mr_edit.proofs.Searching.{all_below}
use Rattle.mr_edit.proofs.Once.{once_below}
use Rattle.mr_edit.proofs.Removed.{rejoined, records_opened}
use Rattle.mr_edit.proofs.Sums.{count_named, counted_named, few_at, less_few, replaced_counted}

-- ---- a child

pub known_child : (scheme : Scheme) (root : Bool) (told told1 : Option PageMap) (free free1 : ℕ) (c : Child)
    (at : ℕ) (cs : List Child) (d : Child) → told1 ≡ told → free1 ≡ free →
    IfSome told (λ b. HasNode b c.id (node.Inner (map child_link cs))) → at < length cs → d ≡ get_or cs at d →
    KnowsBelow scheme root told free c → KnowsBelow scheme false told1 free1 d
known_child scheme root told told1 free free1 c at cs d same same_free reads within is_d k =
    let a = k.page_map in
    let P = k.placed in
    let has_node : HasNode a c.id (node.Inner (map child_link cs)) =
    subst (λ o. IfSome o (λ b. HasNode b c.id (node.Inner (map child_link cs)))) k.is reads in
    let st = step_down scheme a k.chain k.others P c cs at d k.names has_node within is_d k.owned in
    let Ps = st.parts in
    let x : Placed = st.child in
    let t_is = tree_at Ps at x st.inside st.child_is in
    let what : tree_of P ≡ tree.Inner (trees Ps) = ap tree_of st.is ∙ ap tree.Inner (row_trees Ps) in
    let size : at < length (trees Ps) = omega (arith, st.inside, length-map Ps tree_of) in
    record {
      page_map = a;
      is = same ∙ k.is;
      chain = k.chain;
      linked = subst (λ f. IsChain (HasFree a) f k.chain) (sym same_free) k.linked;
      placed = x;
      names = st.held;
      filled = subst (every-Tree IsFilled) (sym t_is) (all_at (every-Tree IsFilled) at (trees Ps) (tree_of x) size
          (filled_below root (trees Ps) (subst (FilledAs root) what k.filled)));
      others = c.id ∷ ((pages (take at Ps) ++ pages (drop (suc at) Ps)) ++ k.others);
      owned = st.owned;
      head = among_others 0 c.id (pages (take at Ps)) (pages (drop (suc at) Ps)) k.others k.head;
    }

pub sought_below : (scheme : Scheme) (root : Bool) (told told1 : Option PageMap) (free free1 : ℕ) (c : Child)
    (n : ℕ) (r : Rectangle) (at : ℕ) (cs : List Child) (d : Child) → told1 ≡ told → free1 ≡ free →
    IfSome told (λ b. HasNode b c.id (node.Inner (map child_link cs))) → at < length cs → d ≡ get_or cs at d →
    CanTakeOut scheme root told free c n r → CanTakeOut scheme false told1 free1 d n r
unfolding known_child
sought_below scheme root told told1 free free1 c n r at cs d same same_free reads within is_d t =
    let k = t.below in
    let a = k.page_map in
    let P = k.placed in
    let has_node : HasNode a c.id (node.Inner (map child_link cs)) =
    subst (λ o. IfSome o (λ b. HasNode b c.id (node.Inner (map child_link cs)))) k.is reads in
    let st = step_down scheme a k.chain k.others P c cs at d k.names has_node within is_d k.owned in
    let Ps = st.parts in
    let x : Placed = st.child in
    let t_is = tree_at Ps at x st.inside st.child_is in
    let what : tree_of P ≡ tree.Inner (trees Ps) = ap tree_of st.is ∙ ap tree.Inner (row_trees Ps) in
    let size : at < length (trees Ps) = omega (arith, st.inside, length-map Ps tree_of) in
    let each : HaveRect n r (flat_map records (trees Ps)) =
    subst (HaveRect n r) (records_opened P c.id Ps st.is) t.rects in
    record {
      below = known_child scheme root told told1 free free1 c at cs d same same_free reads within is_d k;
      one_level = subst (every-Tree HasOneLevel) (sym t_is) (all_at (every-Tree HasOneLevel) at (trees Ps) (tree_of x)
          size (every_child HasOneLevel (trees Ps) (subst (every-Tree HasOneLevel) what t.one_level)));
      rects = subst (λ u. HaveRect n r (records u)) (sym t_is)
          (all_below (λ (y : Record). y.number ≡ n → y.rect ≡ r) (trees Ps) at (tree_of x) size each);
      once = subst (λ u. IsOnce n (records u)) (sym t_is)
          (once_below n (trees Ps) at (tree_of x) size (subst (IsOnce n) (records_opened P c.id Ps st.is) t.once));
      few = omega (
        arith,
        t.few,
        ap length (records_opened P c.id Ps st.is),
        few_at (trees Ps) at (tree_of x) size t_is,
      );
    }

-- ---- what is left

trees_join : (P : Tree → Type 0) (xs ys : List Placed) → AllByRecursion P (trees xs) → AllByRecursion P (trees ys) →
    AllByRecursion P (trees (xs ++ ys))
trees_join P [] ys all more = more
trees_join P (x ∷ xs) ys all more = (all.0, trees_join P xs ys all.1 more)

trees_take : (P : Tree → Type 0) (n : ℕ) (xs : List Placed) → AllByRecursion P (trees xs) →
    AllByRecursion P (trees (take n xs))
trees_take P zero xs all = tt
trees_take P (suc n) [] all = tt
trees_take P (suc n) (x ∷ xs) all = (all.0, trees_take P n xs all.1)

trees_drop : (P : Tree → Type 0) (n : ℕ) (xs : List Placed) → AllByRecursion P (trees xs) →
    AllByRecursion P (trees (drop n xs))
trees_drop P zero xs all = all
trees_drop P (suc n) [] all = tt
trees_drop P (suc n) (x ∷ xs) all = trees_drop P n xs all.1

stays_all : (P : Tree → Type 0) (r : Rest) → (is_low r.tree ≡ false → P r.tree) → AllByRecursion P (stays r)
stays_all P r holds = at (is_low r.tree) refl
  where
    at : (b : Bool) → is_low r.tree ≡ b → AllByRecursion P (if b then [] else r.tree ∷ [])
    at true e = tt
    at false e = (holds e, tt)

-- what stays of a child is filled
stays_filled : (n : ℕ) (P : Placed) → every-Tree HasOneLevel (tree_of P) → every-Tree IsFilled (tree_of P) →
    has n (records (tree_of P)) ≡ true → AllByRecursion (every-Tree IsFilled) (stays (shrunk n (tree_of P)))
stays_filled n P levels filled there =
    stays_all (every-Tree IsFilled) (shrunk n (tree_of P))
    (λ e. (shrunk_stands n (tree_of P) (level (tree_of P))
    (record { here = refl; there = placed_there P; one_level = levels; filled = filled }) there e).filled)

-- and no more records than there were
stays_few : (n : ℕ) (t : Tree) → has n (records t) ≡ true →
    length (flat_map records (stays (shrunk n t))) ≤ length (records t)
stays_few n t there = at (is_low r.tree)
  where
    r : Rest
    r = shrunk n t

    most : length (records r.tree) ≤ length (records t)
    most = let p = shrunk_parted n t there in omega (
      arith,
      length_permutation (records t) (p.one ∷ (records r.tree ++ r.aside)) p.mixes,
      length-append (records r.tree) r.aside,
    )

    at : (b : Bool) → length (flat_map records (if b then [] else r.tree ∷ [])) ≤ length (records t)
    at true = omega arith
    at false = omega (arith, most, length-append (records r.tree) [])

-- a node has two children at least
two_or_more : (root : Bool) (ts : List Tree) → FilledAs root (tree.Inner ts) → 2 ≤ length ts
two_or_more true ts f = (subst IsFilledRoot (tree.outs-Inner ts) f).0
two_or_more false ts f = let fill = here-Inner IsFilled ts f in omega (arith, fill.0)

one_stays : {X : Type 0} (n : ℕ) (xs ys : List X) → n < length xs → 2 ≤ length xs →
    0 < length (take n xs ++ (ys ++ drop (suc n) xs))
one_stays n [] ys within many = absurd (omega (arith, within))
one_stays zero (x ∷ xs) ys within many = omega (arith, many, length-append ys xs)
one_stays (suc n) (x ∷ xs) ys within many = omega arith

pub leave_left : (scheme : Scheme) (root : Bool) (told told1 told2 : Option PageMap) (free free1 free2 : ℕ)
    (c : Child) (n : ℕ) (r : Rectangle) (at : ℕ) (cs new : List Child) (before : List Record) (d : Child) →
    told1 ≡ told → free1 ≡ free → IfSome told (λ b. HasNode b c.id (node.Inner (map child_link cs))) →
    at < length cs → d ≡ get_or cs at d → RemovesRecord scheme false told1 free1 told2 free2 d n r new before →
    CanTakeOut scheme root told free c n r →
    CanLeave scheme told2 free2 c.id (take at cs ++ (new ++ drop (suc at) cs))
leave_left scheme root told told1 told2 free free1 free2 c n r at cs new before d same same_free reads within is_d
    removes t =
    let k = t.below in
    let j = rejoined scheme told told1 told2 free free1 free2 c n r at cs new before d same same_free reads within is_d
    removes k.page_map k.chain k.placed k.others k.is k.names k.linked k.owned t.rects t.once in
    let Ps = j.parts in
    let o = j.left.outcome in
    let x = tree_of j.child in
    let size : at < length (trees Ps) = omega (arith, j.within, length-map Ps tree_of) in
    let what : tree_of k.placed ≡ tree.Inner (trees Ps) = ap tree_of j.opened ∙ ap tree.Inner (row_trees Ps) in
    let fill : FilledAs root (tree.Inner (trees Ps)) = subst (FilledAs root) what k.filled in
    let all = filled_below root (trees Ps) fill in
    let levels = every_child HasOneLevel (trees Ps) (subst (every-Tree HasOneLevel) what t.one_level) in
    let mine : AllByRecursion (every-Tree IsFilled) (trees o.parts) =
    subst (AllByRecursion (every-Tree IsFilled)) (sym o.stand)
    (stays_filled n j.child
    (subst (every-Tree HasOneLevel) (sym j.tree_is) (all_at (every-Tree HasOneLevel) at (trees Ps) x size levels))
    (subst (every-Tree IsFilled) (sym j.tree_is) (all_at (every-Tree IsFilled) at (trees Ps) x size all)) j.there) in
    record {
      page_map = o.page_map;
      is = o.is;
      parts = take at Ps ++ (o.parts ++ drop (suc at) Ps);
      named = j.named;
      chain = o.chain;
      linked = o.linked;
      others = k.others;
      owned = j.owned;
      head = k.head;
      filled = trees_join (every-Tree IsFilled) (take at Ps) (o.parts ++ drop (suc at) Ps)
          (trees_take (every-Tree IsFilled) at Ps all)
          (trees_join (every-Tree IsFilled) o.parts (drop (suc at) Ps) mine
          (trees_drop (every-Tree IsFilled) (suc at) Ps all));
      some = one_stays at cs new within (omega (
        arith,
        two_or_more root (trees Ps) fill,
        length-map Ps tree_of,
        same_length (NamesTree scheme k.page_map) cs Ps j.had,
      ));
      few = less_few scheme.version (counted (take at cs ++ (new ++ drop (suc at) cs))) d.count (counted cs)
          (counted new) (length (records (tree_of k.placed))) (length (records x))
          (length (flat_map records (stays (shrunk n x)))) (replaced_counted at cs new d within is_d)
          (counted_named scheme k.page_map cs Ps j.had
          ∙ ap (λ us. told_by scheme.version (length us)) (sym (records_opened k.placed c.id Ps j.opened)))
          (counted_named scheme o.page_map new o.parts o.named
          ∙ ap (λ us. told_by scheme.version (length (flat_map records us))) o.stand)
          (count_named scheme d j.child j.held.said) (stays_few n x j.there) t.few;
    }
