-- A copy of a map's nodes in a list: what each node adds.
use Rattle.std.proofs.Common.{◌≡◌, ℕ, Bool, true, false, ◌+◌, ◌≤◌, List, [], ◌∷◌, ◌++◌, length, map, refl, sym, ap, subst, ◌∙◌, arith, append_assoc}
use Rattle.std.specs.Prelude.{All, Result, Ok, Err, IfOk}
use Rattle.std.specs.List.{AllByRecursion}
use Rattle.std.proofs.lemmas.List.{length-map, map-append, append-nil, flat_map_more}
use Rattle.std.proofs.lemmas.List.Elements.{All-from_recursion, recursion_from_All, All-nil}
use Rattle.mr_record.specs.Record.{HasLayer}
use Rattle.mr_record.specs.declared.version.Version.{Version}
use Rattle.mr_record.specs.declared.version.Version.TheVariants.{Two}
use Rattle.mr_record.specs.declared.record.Record.{Record}
use Rattle.mr_tree.specs.Limits.{level_limit}
use Rattle.mr_tree.specs.Tree.{first_level}
use Rattle.mr_tree.specs.Digest.{Scheme, entry, entry_step}
use Rattle.mr_tree.specs.declared.entry.Entry.{Entry}
use Rattle.mr_tree.specs.View as view
use Rattle.mr_tree.specs.View.{IsInner}
use Rattle.mr_tree.specs.Nodes.{subtrees}
use Rattle.mr_tree.specs.Snapshot.{tree_at, trees, HasShape, IsLinked, AreLinked, IsPlaced}
use Rattle.mr_tree.specs.declared.child.Child.{Child}
use Rattle.mr_tree.specs.declared.stored.Stored.{Stored}
use Rattle.mr_tree.specs.declared.stored.Stored.TheVariants.{Records, Children}
use Rattle.mr_tree.specs.declared.tree.Tree.{Tree}
use Rattle.mr_tree.specs.declared.tree.Tree.TheVariants as tree
use Rattle.mr_tree.specs.declared.tree.Tree.TheOpen.{Leaf, Inner}
use Rattle.mr_tree.proofs.Equations.{entry-Leaf, entry-Inner}
use Rattle.mr_tree.proofs.Subtrees.{subtrees-Leaf}
use Rattle.mr_tree.proofs.Told.{told_counts}
use Rattle.mr_tree.proofs.Placements.{leaf_placed, inner_placed, placed_on, links_more, trees_before}
use Rattle.mr_pages.specs.declared.node.Node as owned_type
use Rattle.mr_pages.specs.Gathering.{SuitsEntry, IsCounted, CopiesNodes, AreMade, GathersAll, moved, tree_over}
use Rattle.mr_pages.specs.Walking.{owned}
use Rattle.mr_pages.specs.private.Copying.{trees_in, IsPut, ArePlaced}
use Rattle.mr_pages.proofs.Fits.{levels, count_known}
use Rattle.mr_pages.proofs.Visits.{MakesNode}

-- ---- lists

first_same : {A : Type 0} (x y : A) (xs ys : List A) → x ∷ xs ≡ y ∷ ys → x ≡ y
first_same x y xs ys e = cc

rest_same : {A : Type 0} (x y : A) (xs ys : List A) → x ∷ xs ≡ y ∷ ys → xs ≡ ys
rest_same x y xs ys e = cc

no_first : {A : Type 0} (x : A) (xs : List A) → x ∷ xs ≡ [] → ⊥
no_first x xs e = cc

pub if_ok : {A E : Type 0} (r : Result A E) (P Q : A → Type 0) → ((x : A) → P x → Q x) → IfOk r P → IfOk r Q
if_ok (Ok x) P Q f h = f x h
if_ok (Err e) P Q f h = tt

-- ---- a leaf

pub leaf_put : (x : Scheme) (root : Bool) (child : Child) (rs qs : List Record) (old new : List Stored) (id : ℕ) →
    qs ≡ rs → IsPut old new (Records qs) id → SuitsEntry x root child (Leaf rs) → AreLinked x old →
    IsPlaced x old new (moved id child) (tree.Leaf rs) (subtrees (tree.Leaf rs))
leaf_put x root child rs qs old new id same put suits linked =
    subst (λ ns. IsPlaced x old ns (moved id child) (tree.Leaf rs) (subtrees (tree.Leaf rs)))
    (sym (put.list ∙ ap (λ us. old ++ Records us ∷ []) same))
    (subst (IsPlaced x old (old ++ Records rs ∷ []) (moved id child) (tree.Leaf rs)) (sym (subtrees-Leaf rs))
    (leaf_placed x old rs (moved id child) linked (suits.some, suits.fits.few) suits.told.layers put.last
    suits.known))

-- ---- an inner node

alike_same : (n : ℕ) (cs ds : List Child) → map view.child_entry cs ≡ map view.child_entry ds →
    AllByRecursion (λ (c : Child). c.level + 1 ≡ n) ds → AllByRecursion (λ (c : Child). c.level + 1 ≡ n) cs
alike_same n [] ds e all = tt
alike_same n (c ∷ cs) [] e all = absurd (no_first (view.child_entry c) (map view.child_entry cs) e)
alike_same n (c ∷ cs) (d ∷ ds) e all = (
  ap (λ (x : Entry). x.level + 1)
      (first_same (view.child_entry c) (view.child_entry d) (map view.child_entry cs) (map view.child_entry ds) e) ∙
      all.0,
  alike_same n cs ds
      (rest_same (view.child_entry c) (view.child_entry d) (map view.child_entry cs) (map view.child_entry ds) e) all.1,
)

same_count : (cs ds : List Child) → map view.child_entry cs ≡ map view.child_entry ds → length cs ≡ length ds
same_count cs ds e = sym (length-map cs view.child_entry) ∙ ap length e ∙ length-map ds view.child_entry

tells_same : (v : Version) (cs ds : List Child) → map view.child_entry cs ≡ map view.child_entry ds →
    AllByRecursion (λ (c : Child). view.MayTell v c.mask c.count) ds →
    AllByRecursion (λ (c : Child). view.MayTell v c.mask c.count) cs
tells_same v [] ds e all = tt
tells_same v (c ∷ cs) [] e all = absurd (no_first (view.child_entry c) (map view.child_entry cs) e)
tells_same v (c ∷ cs) (d ∷ ds) e all = (
  subst (λ (y : Entry). view.MayTell v y.mask y.count)
      (sym (first_same (view.child_entry c) (view.child_entry d) (map view.child_entry cs) (map view.child_entry ds) e))
      all.0,
  tells_same v cs ds
      (rest_same (view.child_entry c) (view.child_entry d) (map view.child_entry cs) (map view.child_entry ds) e) all.1,
)

-- entries of which a view showed the same tell what they told there
told_same : (v : Version) (cs ds : List Child) → map view.child_entry cs ≡ map view.child_entry ds →
    view.AreTold v (Inner ds) → view.AreTold v (Inner cs)
told_same v cs ds e told = record {
  layers = All-nil (HasLayer v);
  children = All-from_recursion (λ (c : Child). view.MayTell v c.mask c.count) cs
      (tells_same v cs ds e (recursion_from_All (λ (c : Child). view.MayTell v c.mask c.count) ds told.children));
}

-- and have a node's shape
shape_same : (v : Version) (cs ds : List Child) → map view.child_entry cs ≡ map view.child_entry ds → IsInner ds →
    view.AreTold v (Inner cs) → HasShape (Inner cs)
shape_same v cs ds e fits told =
    let count = same_count cs ds e in
    let high : view.level_of (Inner cs) ≡ view.level_of (Inner ds) =
    ap (λ ns. first_level ns + 1) (sym (levels cs) ∙ ap (map (λ (y : Entry). y.level)) e ∙ levels ds) in
    record {
      some = omega (arith, count, fits.some);
      brief = omega arith;
      few = omega (arith, count, fits.few);
      low = subst (λ n. n ≤ level_limit) (sym high) fits.low;
      alike = subst (λ n. All (λ (c : Child). c.level + 1 ≡ n) cs) (sym high)
          (All-from_recursion (λ (c : Child). c.level + 1 ≡ view.level_of (Inner ds)) cs
          (alike_same (view.level_of (Inner ds)) cs ds e
          (recursion_from_All (λ (c : Child). c.level + 1 ≡ view.level_of (Inner ds)) ds fits.alike)));
      layers = All-nil (HasLayer Two);
      counts = told_counts v cs told.children;
    }

-- the entry and the place of a node whose children were placed before
inner_behind : (x : Scheme) (root : Bool) (child : Child) (cs ds : List Child) (us : List Tree)
    (old mid : List Stored) (id : ℕ) → id ≡ length mid + 1 → SuitsEntry x root child (Inner ds) →
    map view.child_entry cs ≡ map view.child_entry ds → ArePlaced x old mid cs us →
    IsPlaced x old (mid ++ Children cs ∷ []) (moved id child) (tree.Inner us) (subtrees (tree.Inner us))
inner_behind x root child cs ds us old mid id last suits same all =
    let c = moved id child in
    let new = mid ++ Children cs ∷ [] in
    let told = told_same x.version cs ds same suits.told in
    let p = inner_placed x mid cs c all.linked (shape_same x.version cs ds same suits.fits told) told all.links last
    (suits.known ∙ ap (λ es. entry_step x (Inner es)) (sym same)) in
    let here : trees_in (trees mid) cs ≡ us = sym all.are in
    let q = subst (λ ts. IsPlaced x mid new c (tree.Inner ts) (tree.Inner ts ∷ [])) here p in
    placed_on {E = Unit {0}} x old mid new (Ok c) (tree.Inner us) (tree.Inner us) us q all.grown refl refl

pub inner_put : (x : Scheme) (root : Bool) (child : Child) (cs qs ds : List Child) (us : List Tree)
    (old mid new : List Stored) (id : ℕ) → qs ≡ cs → IsPut mid new (Children qs) id → SuitsEntry x root child
    (Inner ds) →
    map view.child_entry cs ≡ map view.child_entry ds → (AreLinked x old → ArePlaced x old mid cs us) → AreLinked
    x old →
    IsPlaced x old new (moved id child) (tree.Inner us) (subtrees (tree.Inner us))
inner_put x root child cs qs ds us old mid new id items put suits same all linked =
    subst (λ ns. IsPlaced x old ns (moved id child) (tree.Inner us) (subtrees (tree.Inner us)))
    (sym (put.list ∙ ap (λ ws. mid ++ Children ws ∷ []) items))
    (inner_behind x root child cs ds us old mid id put.last suits same (all linked))

-- ---- one after another

none_placed : (x : Scheme) (old : List Stored) → AreLinked x old → ArePlaced x old old [] []
none_placed x old linked = record {
  linked = linked;
  grown = sym (append-nil (trees old));
  links = All-nil _;
  are = refl;
}

more_placed : (x : Scheme) (old ns ms : List Stored) (cs : List Child) (us : List Tree) (c : Child) (t : Tree) →
    ArePlaced x old ns cs us → IsPlaced x ns ms c t (subtrees t) → ArePlaced x old ms (cs ++ c ∷ []) (us ++ t ∷ [])
more_placed x old ns ms cs us c t all one =
    let same : trees_in (trees ms) cs ≡ us =
    ap (λ ts. trees_in ts cs) one.grown ∙ trees_before x (trees ns) (subtrees t) cs
    (recursion_from_All (IsLinked x (trees ns)) cs all.links) ∙ sym all.are in
    let now : trees_in (trees ms) (cs ++ c ∷ []) ≡ us ++ t ∷ [] =
    map-append (λ (y : Child). tree_at (trees ms) y.id) cs (c ∷ [])
    ∙ (λ i. same i ++ one.here i ∷ []) in
    record {
      linked = one.linked;
      grown = one.grown ∙ ap (λ ts. ts ++ subtrees t) all.grown ∙ flat_map_more subtrees (trees old) us t;
      links = links_more x ns ms cs (cs ++ c ∷ []) c t one all.links refl;
      are = sym now;
    }

-- what was added behind the nodes of some trees
module _ {S : Type 0} (x : Scheme) (nodes : S → List Stored) where
  abbrev pub Puts : S → S → Child → Tree → Type 0
  Puts s t c u = AreLinked x (nodes s) → IsPlaced x (nodes s) (nodes t) c u (subtrees u)

  behind_placed : (old : List Stored) (m u : S) (cs ds : List Child) (us ts : List Tree) →
      ArePlaced x old (nodes m) cs us → GathersAll Puts m u ds ts → ArePlaced x old (nodes u) (cs ++ ds) (us ++ ts)
  unfolding GathersAll
  behind_placed old m u cs [] us [] all same =
      subst (λ y. ArePlaced x old (nodes y) (cs ++ []) (us ++ [])) (sym same)
      (subst (λ ws. ArePlaced x old (nodes m) (cs ++ []) ws) (sym (append-nil us))
      (subst (λ es. ArePlaced x old (nodes m) es us) (sym (append-nil cs)) all))
  behind_placed old m u cs (d ∷ ds) us (t ∷ ts) all more =
      let next = more_placed x old (nodes m) (nodes more.0) cs us d t all (more.1 all.linked) in
      subst (λ ws. ArePlaced x old (nodes u) (cs ++ d ∷ ds) ws) (append_assoc us (t ∷ []) ts)
      (subst (λ es. ArePlaced x old (nodes u) es ((us ++ t ∷ []) ++ ts)) (append_assoc cs (d ∷ []) ds)
      (behind_placed old more.0 u (cs ++ d ∷ []) ds (us ++ t ∷ []) ts next more.2))
  behind_placed old m u cs [] us (t ∷ ts) all more = absurd more
  behind_placed old m u cs (d ∷ ds) us [] all more = absurd more

  pub all_placed : (s u : S) (cs : List Child) (ts : List Tree) → GathersAll Puts s u cs ts → AreLinked x (nodes s) →
      ArePlaced x (nodes s) (nodes u) cs ts
  all_placed s u cs ts all linked =
      behind_placed (nodes s) s u [] cs [] ts (none_placed x (nodes s) linked) all

-- ---- what a walk over pages puts there

not_root : (a b : ℕ) → ◌≡◌ {A = Bool} false true → a ≡ b
not_root a b e = absurd (no e)
  where
    no : ◌≡◌ {A = Bool} false true → ⊥
    no h = cc

-- the entries of nodes that stand there are those of the trees below them
entries_there : (x : Scheme) (all : List Tree) (cs : List Child) → AllByRecursion (IsLinked x all) cs →
    map view.child_entry cs ≡ map (entry x) (trees_in all cs)
entries_there x all [] links = refl
entries_there x all (c ∷ cs) links =
    let one = links.0.entry in
    let rest = entries_there x all cs links.1 in
    λ i. one i ∷ rest i

leaf_counted : (x : Scheme) (root : Bool) (c : Child) (rs : List Record) →
    IsCounted root c (entry x (tree.Leaf rs)).count → IsCounted root c (view.count_over x.version (Leaf rs))
leaf_counted x root c rs counted is =
    counted is ∙ ap (λ (e : Entry). e.count) (entry-Leaf x rs) ∙ count_known x (Leaf rs)

inner_counted : (x : Scheme) (root : Bool) (c : Child) (cs : List Child) (ts : List Tree) →
    map view.child_entry cs ≡ map (entry x) ts → IsCounted root c (entry x (tree.Inner ts)).count →
    IsCounted root c (view.count_over x.version (Inner cs))
inner_counted x root c cs ts same counted is =
    counted is ∙ ap (λ (e : Entry). e.count) (entry-Inner x ts ∙ ap (λ es. entry_step x (Inner es)) (sym same))
    ∙ count_known x (Inner cs)

module _ {S : Type 0} (nodes : S → List Stored) where
  abbrev pub Copies : Scheme → Bool → S → S → Child → Child → Tree → Type 0
  Copies x root s u c m t = CopiesNodes x root (nodes s) (nodes u) c m t

  gathered : (x : Scheme) (s u : S) (cs ms : List Child) (ts : List Tree) → AreMade (Copies x false) s u cs ms ts →
      GathersAll (Puts x nodes) s u ms ts × (map view.child_entry ms ≡ map view.child_entry cs)
  unfolding GathersAll
  gathered x s u [] [] [] all = (all, refl)
  gathered x s u (c ∷ cs) (m ∷ ms) (t ∷ ts) all =
      let rest = gathered x all.0 u cs ms ts all.2 in
      let one = all.1.same in (
        (all.0, (λ linked. all.1.placed (λ e. not_root _ _ e) linked), rest.0),
        (λ i. one i ∷ rest.1 i),
      )
  gathered x s u [] [] (t ∷ ts) all = absurd all
  gathered x s u [] (m ∷ ms) ts all = absurd all
  gathered x s u (c ∷ cs) [] ts all = absurd all
  gathered x s u (c ∷ cs) (m ∷ ms) [] all = absurd all

  pub leaf_copied : (c m : Child) (n : owned_type.Node) (rs qs : List Record) (mid after : S) (below : List Child) →
      owned n ≡ Leaf rs → ((ts : List Tree) → tree_over n ts ≡ tree.Leaf rs) →
      qs ≡ rs → IsPut (nodes mid) (nodes after) (Records qs) m.id → m ≡ moved m.id c →
      MakesNode Copies c n mid after below m
  leaf_copied c m n rs qs mid after below own top same put is x root before ts suits all =
      subst (Copies x root before after c m) (sym (top ts)) (at below ts
      (subst (λ k. AreMade (Copies x false) before mid (view.children_in k) below ts) own all))
    where
      suits_as : IsCounted root c (view.count_over x.version (Leaf rs)) → SuitsEntry x root c (Leaf rs)
      suits_as = subst (λ k. IsCounted root c (view.count_over x.version k) → SuitsEntry x root c k) own suits

      at : (ms : List Child) (us : List Tree) → AreMade (Copies x false) before mid [] ms us →
          Copies x root before after c m (tree.Leaf rs)
      at [] [] none = record {
        same = ap view.child_entry is;
        placed = λ counted linked.
            subst (λ k. IsPlaced x (nodes before) (nodes after) k (tree.Leaf rs)
            (subtrees (tree.Leaf rs))) (sym is)
            (leaf_put x root c rs qs (nodes before) (nodes after) m.id same
            (subst (λ s. IsPut (nodes s) (nodes after) (Records qs) m.id) none put)
            (suits_as (leaf_counted x root c rs counted)) linked);
      }
      at [] (u ∷ us) none = absurd none
      at (k ∷ ks) us none = absurd none

  pub inner_copied : (c m : Child) (n : owned_type.Node) (cs qs : List Child) (mid after : S) (below : List Child) →
      owned n ≡ Inner cs → ((ts : List Tree) → tree_over n ts ≡ tree.Inner ts) →
      qs ≡ below → IsPut (nodes mid) (nodes after) (Children qs) m.id → m ≡ moved m.id c →
      MakesNode Copies c n mid after below m
  inner_copied c m n cs qs mid after below own top same put is x root before ts suits all =
      let made = gathered x before mid cs below ts
      (subst (λ k. AreMade (Copies x false) before mid (view.children_in k) below ts) own all) in
      let suits_as : IsCounted root c (view.count_over x.version (Inner cs)) → SuitsEntry x root c (Inner cs) =
      subst (λ k. IsCounted root c (view.count_over x.version k) → SuitsEntry x root c k) own suits in
      subst (Copies x root before after c m) (sym (top ts)) (record {
        same = ap view.child_entry is;
        placed = λ counted linked.
            let placed = all_placed x nodes before mid below ts made.0 linked in
            let known : map view.child_entry cs ≡ map (entry x) ts =
            sym made.1 ∙ entries_there x (trees (nodes mid)) below
            (recursion_from_All (IsLinked x (trees (nodes mid))) below placed.links)
            ∙ ap (map (entry x)) (sym placed.are) in
            subst (λ k. IsPlaced x (nodes before) (nodes after) k (tree.Inner ts) (subtrees (tree.Inner ts))) (sym is)
            (inner_put x root c below qs cs ts (nodes before) (nodes mid) (nodes after) m.id same put
            (suits_as (inner_counted x root c cs ts known counted)) made.1
            (all_placed x nodes before mid below ts made.0) linked);
      })
