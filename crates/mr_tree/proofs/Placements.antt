-- Nodes that are put behind others leave what stands there as it is.
use Rattle.std.proofs.Common.{◌≡◌, ◌≢◌, ℕ, ◌+◌, ◌-◌, ◌<◌, ◌≤◌, List, [], ◌∷◌, ◌++◌, map, length, get_or, take, append_assoc, refl, sym, ap, subst, ◌∙◌, arith, length-append, ◌^◌}
use Rattle.std.specs.Prelude.{Some, IsSome, All, fold, Result, Ok, Err, IfOk}
use Rattle.std.specs.List.{AllByRecursion, flat_map}
use Rattle.std.proofs.Math.Seq.{get_or-append_seam}
use Rattle.std.proofs.lemmas.List.{length-map, map-append, take_more, flat_map_more, get_or_append_left}
use Rattle.std.proofs.lemmas.Simd.{map-map}
use Rattle.std.proofs.lemmas.List.Sums.{fold-append}
use Rattle.std.proofs.lemmas.List.Folds.{length-flat_map-take}
use Rattle.std.proofs.lemmas.List.Elements.{recursion_from_All, All-from_recursion, All-push}
use Rattle.mr_record.specs.declared.record.Record.{Record}
use Rattle.mr_tree.specs.Tree.{level, records, first_level}
use Rattle.mr_tree.specs.Digest.{Scheme, entry, entry_step, level_over}
use Rattle.mr_tree.specs.declared.entry.Entry.{Entry}
use Rattle.mr_record.specs.Record.{HasLayer}
use Rattle.mr_tree.specs.Limits.{count_limit}
use Rattle.mr_tree.specs.View.{children_in, MayTell, AreTold, HasCount, level_of, child_entry}
use Rattle.mr_tree.specs.WellFormed.{HasLayers}
use Rattle.mr_tree.specs.Nodes.{subtrees}
use Rattle.mr_tree.specs.Snapshot.{node_of, tree_at, tree_over, add_tree, trees, HasShape, IsLinked, IsNode, AreLinked, IsPlaced}
use Rattle.mr_tree.specs.private.Sound.{IsSound, IsSoundNode}
use Rattle.mr_tree.specs.declared.child.Child.{Child}
use Rattle.mr_tree.specs.declared.stored.Stored.{Stored}
use Rattle.mr_tree.specs.declared.stored.Stored.TheVariants.{Records, Children}
use Rattle.mr_tree.specs.declared.tree.Tree.{Tree}
use Rattle.mr_tree.specs.declared.tree.Tree.TheVariants as tree
use Rattle.mr_tree.specs.declared.tree.Tree.TheOpen.{Leaf, Inner}
use Rattle.mr_tree.proofs.Equations.{entry_level}
use Rattle.mr_tree.proofs.Told.{any_layers, may_tell}
use Rattle.mr_tree.proofs.Soundness.{some_records}
use Rattle.mr_tree.proofs.Folds.{fold-Leaf, fold-Inner}
use Rattle.mr_tree.proofs.Subtrees.{subtrees-Leaf, subtrees-Inner}
use Rattle.mr_tree.proofs.Induction.{here-Inner}
use Rattle.mr_tree.proofs.Filled.{union_is_some, of_records}

-- ---- one more node

pub trees_push : (ns : List Stored) (n : Stored) → trees (ns ++ n ∷ []) ≡ trees ns ++ tree_over (trees ns) n ∷ []
trees_push ns n = fold-append add_tree [] ns (n ∷ [])

length_from : (ts : List Tree) (ns : List Stored) → length (fold add_tree ts ns) ≡ length ts + length ns
length_from ts [] = omega arith
length_from ts (n ∷ ns) =
    let one : length (ts ++ tree_over ts n ∷ []) ≡ length ts + 1 = length-append ts (tree_over ts n ∷ []) in
    let rest = length_from (add_tree ts n) ns in
    omega (arith, one, rest)

pub length_trees : (ns : List Stored) → length (trees ns) ≡ length ns
length_trees ns = omega (arith, length_from [] ns)

module _ (hash : Scheme) (ts us : List Tree) where
  tree_before : (c : Child) → IsLinked hash ts c → tree_at (ts ++ us) c.id ≡ tree_at ts c.id
  tree_before c link = get_or_append_left ts us tree.Empty (c.id - 1) (omega (arith, link.positive, link.within))

  pub link_before : (c : Child) → IsLinked hash ts c → IsLinked hash (ts ++ us) c
  link_before c link = record {
    positive = link.positive;
    within = omega (arith, link.within, length-append ts us);
    entry = link.entry ∙ ap (entry hash) (sym (tree_before c link));
  }

  node_before : (n : Stored) → IsNode hash ts n → IsNode hash (ts ++ us) n
  node_before n here = record {
    shape = here.shape;
    told = here.told;
    links = λ k d within. link_before (get_or (children_in (node_of n)) k d) (here.links k d within);
  }

  pub trees_before : (cs : List Child) → AllByRecursion (IsLinked hash ts) cs →
      map (λ (c : Child). tree_at (ts ++ us) c.id) cs ≡ map (λ (c : Child). tree_at ts c.id) cs
  trees_before [] links = refl
  trees_before (c ∷ cs) links = λ i. tree_before c links.0 i ∷ trees_before cs links.1 i

  over_before : (n : Stored) → IsNode hash ts n → tree_over (ts ++ us) n ≡ tree_over ts n
  over_before (Records rs) here = refl
  over_before (Children cs) here =
      ap tree.Inner (trees_before cs (recursion_from_All (IsLinked hash ts) cs here.links))

  all_over : (ns : List Stored) → AllByRecursion (IsNode hash ts) ns →
      map (tree_over (ts ++ us)) ns ≡ map (tree_over ts) ns
  all_over [] all = refl
  all_over (n ∷ ns) all = λ i. over_before n all.0 i ∷ all_over ns all.1 i

put_linked : (hash : Scheme) (ns : List Stored) (n : Stored) → AreLinked hash ns →
    IsNode hash (trees ns) n → AreLinked hash (ns ++ n ∷ [])
put_linked hash ns n linked here =
    let ts = trees ns in
    let us = tree_over (trees ns) n ∷ [] in
    record {
      each = subst (λ vs. All (IsNode hash vs) (ns ++ n ∷ [])) (sym (trees_push ns n))
          (All-push (IsNode hash (ts ++ us)) ns n
          (λ k d within. node_before hash ts us (get_or ns k d) (linked.each k d within))
          (node_before hash ts us n here));
      over = subst (λ vs. map (tree_over vs) (ns ++ n ∷ []) ≡ vs) (sym (trees_push ns n))
          (map-append (tree_over (ts ++ us)) ns (n ∷ [])
          ∙ (λ i. (all_over hash ts us ns (recursion_from_All (IsNode hash ts) ns linked.each) ∙ linked.over) i
          ++ over_before hash ts us n here i ∷ []));
    }

put_here : (ns : List Stored) (n : Stored) → tree_at (trees (ns ++ n ∷ [])) (length ns + 1) ≡ tree_over (trees ns) n
put_here ns n =
    let place : length ns + 1 - 1 ≡ length (trees ns) = omega (arith, length_trees ns) in
    ap (λ vs. tree_at vs (length ns + 1)) (trees_push ns n)
    ∙ ap (λ k. get_or (trees ns ++ tree_over (trees ns) n ∷ []) k tree.Empty) place
    ∙ get_or-append_seam (trees ns) (tree_over (trees ns) n) [] tree.Empty

pub put_placed : (hash : Scheme) (ns : List Stored) (n : Stored) (c : Child) (t : Tree) → AreLinked hash ns →
    IsNode hash (trees ns) n → tree_over (trees ns) n ≡ t → c.id ≡ length ns + 1 → child_entry c ≡ entry hash t →
    IsPlaced hash ns (ns ++ n ∷ []) c t (t ∷ [])
put_placed hash ns n c t linked here is id same =
    let at : tree_at (trees (ns ++ n ∷ [])) c.id ≡ t =
    ap (tree_at (trees (ns ++ n ∷ []))) id ∙ put_here ns n ∙ is in
    record {
      linked = put_linked hash ns n linked here;
      grown = trees_push ns n ∙ ap (λ u. trees ns ++ u ∷ []) is;
      link = record {
        positive = omega (arith, id);
        within = omega (arith, id, length_trees (ns ++ n ∷ []), length-append ns (n ∷ []));
        entry = same ∙ ap (entry hash) (sym at);
      };
      here = at;
    }

-- ---- a leaf

pub leaf_placed : (hash : Scheme) (ns : List Stored) (rs : List Record) (c : Child) → AreLinked hash ns →
    IsSoundNode (Leaf rs) → All (HasLayer hash.version) rs → c.id ≡ length ns + 1 →
    child_entry c ≡ entry_step hash (Leaf rs) →
    IsPlaced hash ns (ns ++ Records rs ∷ []) c (tree.Leaf rs) (tree.Leaf rs ∷ [])
leaf_placed hash ns rs c linked sound layers id said =
    put_placed hash ns (Records rs) c (tree.Leaf rs) linked
    (record {
      shape = record {
        some = sound.0;
        brief = sound.1;
        few = omega arith;
        low = omega arith;
        alike = λ k d within. absurd (omega arith);
        layers = any_layers hash.version rs layers;
        counts = λ k d within. absurd (omega arith);
      };
      told = record { layers = layers; children = λ k d within. absurd (omega arith) };
      links = λ k d within. absurd (omega arith);
    })
    refl id (said ∙ sym (fold-Leaf Entry (entry_step hash) rs))

-- ---- an inner node

pub level_over_children : (cs : List Child) → level_of (Inner cs) ≡ level_over (map child_entry cs)
level_over_children cs = ap (λ ns. first_level ns + 1) (sym (map-map (λ (e : Entry). e.level) child_entry cs))

pub entries_of : (hash : Scheme) (ts : List Tree) (cs : List Child) → AllByRecursion (IsLinked hash ts) cs →
    map child_entry cs ≡ map (entry hash) (map (λ (c : Child). tree_at ts c.id) cs)
entries_of hash ts [] links = refl
entries_of hash ts (c ∷ cs) links = λ i. links.0.entry i ∷ entries_of hash ts cs links.1 i

pub inner_placed : (hash : Scheme) (ns : List Stored) (cs : List Child) (c : Child) → AreLinked hash ns →
    HasShape (Inner cs) → AreTold hash.version (Inner cs) → All (IsLinked hash (trees ns)) cs → c.id ≡ length ns + 1 →
    child_entry c ≡ entry_step hash (Inner (map child_entry cs)) →
    IsPlaced hash ns (ns ++ Children cs ∷ []) c (tree_over (trees ns) (Children cs))
    (tree_over (trees ns) (Children cs) ∷ [])
inner_placed hash ns cs c linked shape told links id said =
    put_placed hash ns (Children cs) c (tree_over (trees ns) (Children cs)) linked
    (record { shape = shape; links = links; told = told })
    refl id (said
    ∙ ap (λ es. entry_step hash (Inner es))
    (entries_of hash (trees ns) cs (recursion_from_All (IsLinked hash (trees ns)) cs links))
    ∙ sym (fold-Inner Entry (entry_step hash) (map (λ (c : Child). tree_at (trees ns) c.id) cs)))

-- ---- the loop over the children of a node

pub link_level : (hash : Scheme) (ts : List Tree) (c : Child) → IsLinked hash ts c →
    c.level ≡ level (tree_at ts c.id)
link_level hash ts c link = ap (λ (e : Entry). e.level) link.entry ∙ entry_level hash (tree_at ts c.id)

levels_of : (hash : Scheme) (ts : List Tree) (cs : List Child) → AllByRecursion (IsLinked hash ts) cs →
    map (λ (c : Child). c.level) cs ≡ map level (map (λ (c : Child). tree_at ts c.id) cs)
levels_of hash ts [] links = refl
levels_of hash ts (c ∷ cs) links = λ i. link_level hash ts c links.0 i ∷ levels_of hash ts cs links.1 i

alike_all : (hash : Scheme) (ts : List Tree) (n : ℕ) (cs : List Child) → AllByRecursion (IsLinked hash ts) cs →
    AllByRecursion (λ t. level t ≡ n) (map (λ (c : Child). tree_at ts c.id) cs) →
    AllByRecursion (λ (c : Child). c.level + 1 ≡ n + 1) cs
alike_all hash ts n [] links same = tt
alike_all hash ts n (c ∷ cs) links same =
    (ap (λ (k : ℕ). k + 1) (link_level hash ts c links.0 ∙ same.0), alike_all hash ts n cs links.1 same.1)

pub shape_over : (hash : Scheme) (ts us : List Tree) (cs : List Child) → All (IsLinked hash ts) cs →
    All HasCount cs → map (λ (c : Child). tree_at ts c.id) cs ≡ us → IsSound (tree.Inner us) → HasShape (Inner cs)
shape_over hash ts us cs links counts same sound =
    let here = here-Inner IsSoundNode us sound in
    let each = recursion_from_All (IsLinked hash ts) cs links in
    let count : length cs ≡ length us =
    sym (length-map cs (λ (c : Child). tree_at ts c.id)) ∙ ap length same in
    let levels : map (λ (c : Child). c.level) cs ≡ map level us = levels_of hash ts cs each ∙ ap (map level) same in
    let first : level_of (Inner cs) ≡ first_level (map level us) + 1 = ap (λ ls. first_level ls + 1) levels in
    let all : AllByRecursion (λ t. level t ≡ first_level (map level us)) us =
    recursion_from_All (λ t. level t ≡ first_level (map level us)) us (λ k d within. (here.3 k d within).1) in
    record {
      some = omega (arith, count, here.0);
      brief = omega arith;
      few = omega (arith, count, here.1);
      low = omega (arith, first, here.2);
      alike = subst (λ n. All (λ (c : Child). c.level + 1 ≡ n) cs) (sym first)
          (All-from_recursion (λ (c : Child). c.level + 1 ≡ first_level (map level us) + 1) cs
          (alike_all hash ts (first_level (map level us)) cs each
          (subst (AllByRecursion (λ t. level t ≡ first_level (map level us))) (sym same) all)));
      layers = λ k d within. absurd (omega arith);
      counts = counts;
    }

-- one child more tells what its version may
pub told_more : (hash : Scheme) (ns ms : List Stored) (cs ds : List Child) (c : Child) (t : Tree) →
    IsPlaced hash ns ms c t (subtrees t) → IsSound t → t ≢ tree.Empty → length (records t) ≤ count_limit →
    HasLayers hash.version t → All (λ (c : Child). MayTell hash.version c.mask c.count) cs → ds ≡ cs ++ c ∷ [] →
    All (λ (c : Child). MayTell hash.version c.mask c.count) ds
told_more hash ns ms cs ds c t placed sound filled few layers so_far e =
    let May : Child → Type 0 = λ c. MayTell hash.version c.mask c.count in
    subst (All May) (sym e) (All-push May cs c so_far
    (subst (λ (e : Entry). MayTell hash.version e.mask e.count)
    (sym (placed.link.entry ∙ ap (entry hash) placed.here))
    (may_tell hash t (some_records t sound filled) few (any_layers hash.version (records t) layers))))

pub links_more : (hash : Scheme) (ns ms : List Stored) (cs ds : List Child) (c : Child) (t : Tree) →
    IsPlaced hash ns ms c t (subtrees t) → All (IsLinked hash (trees ns)) cs → ds ≡ cs ++ c ∷ [] →
    All (IsLinked hash (trees ms)) ds
links_more hash ns ms cs ds c t placed links e =
    subst (λ ds. All (IsLinked hash (trees ms)) ds) (sym e)
    (All-push (IsLinked hash (trees ms)) cs c
    (subst (λ ts. All (IsLinked hash ts) cs) (sym placed.grown)
    (λ k d within. link_before hash (trees ns) (subtrees t) (get_or cs k d) (links k d within))) placed.link)

pub below_more : (hash : Scheme) (ns ms : List Stored) (cs ds : List Child) (c : Child) (ts : List Tree)
    (i : ℕ) (t : Tree) → IsPlaced hash ns ms c t (subtrees t) → All (IsLinked hash (trees ns)) cs → ds ≡ cs ++ c ∷ [] →
    t ≡ get_or ts i t → i < length ts → map (λ (c : Child). tree_at (trees ns) c.id) cs ≡ take i ts →
    map (λ (c : Child). tree_at (trees ms) c.id) ds ≡ take (i + 1) ts
below_more hash ns ms cs ds c ts i t placed links e is within so_far =
    ap (map (λ (c : Child). tree_at (trees ms) c.id)) e
    ∙ map-append (λ (c : Child). tree_at (trees ms) c.id) cs (c ∷ [])
    ∙ (λ j. (ap (λ us. map (λ (c : Child). tree_at us c.id) cs) placed.grown
    ∙ trees_before hash (trees ns) (subtrees t) cs (recursion_from_All (IsLinked hash (trees ns)) cs links) ∙ so_far) j
    ++ (placed.here ∙ is) j ∷ [])
    ∙ sym (take_more ts i t within)

pub grown_more : (hash : Scheme) (old ns ms : List Stored) (c : Child) (ts : List Tree) (i : ℕ) (t : Tree) →
    IsPlaced hash ns ms c t (subtrees t) → t ≡ get_or ts i t → i < length ts →
    trees ns ≡ trees old ++ flat_map subtrees (take i ts) → trees ms ≡ trees old ++ flat_map subtrees (take (i + 1) ts)
grown_more hash old ns ms c ts i t placed is within so_far =
    placed.grown ∙ ap (λ us. us ++ subtrees t) so_far
    ∙ flat_map_more subtrees (trees old) (take i ts) t
    ∙ ap (λ xs. trees old ++ flat_map subtrees xs)
    (ap (λ x. take i ts ++ x ∷ []) is ∙ sym (take_more ts i t within))

pub placed_on : {E : Type 0} (hash : Scheme) (old mid new : List Stored) (r : Result Child E) (u t : Tree)
    (ts : List Tree) → IfOk r (λ c. IsPlaced hash mid new c u (u ∷ [])) →
    trees mid ≡ trees old ++ flat_map subtrees ts → u ≡ tree.Inner ts → t ≡ tree.Inner ts →
    IfOk r (λ c. IsPlaced hash old new c t (subtrees t))
placed_on hash old mid new (Ok c) u t ts placed grown is at = record {
  linked = placed.linked;
  grown = placed.grown ∙ (λ i. grown i ++ is i ∷ [])
      ∙ append_assoc (trees old) (flat_map subtrees ts) (tree.Inner ts ∷ [])
      ∙ ap (λ us. trees old ++ us) (sym (subtrees-Inner ts) ∙ ap subtrees (sym at));
  link = placed.link;
  here = placed.here ∙ is ∙ sym at;
}
placed_on hash old mid new (Err e) u t ts placed grown is at = tt

-- the subtrees of a leaf are itself
pub leaf_on : {E : Type 0} (hash : Scheme) (old new : List Stored) (r : Result Child E) (t : Tree)
    (rs : List Record) → IfOk r (λ c. IsPlaced hash old new c (tree.Leaf rs) (tree.Leaf rs ∷ [])) → t ≡ tree.Leaf rs →
    IfOk r (λ c. IsPlaced hash old new c t (subtrees t))
leaf_on hash old new (Ok c) t rs placed at = record {
  linked = placed.linked;
  grown = placed.grown ∙ ap (λ us. trees old ++ us) (sym (subtrees-Leaf rs) ∙ ap subtrees (sym at));
  link = placed.link;
  here = placed.here ∙ sym at;
}
leaf_on hash old new (Err e) t rs placed at = tt

-- ---- there is a rectangle round each node

pub leaf_there : (hash : Scheme) (rs : List Record) → 1 ≤ length rs → IsSome (entry_step hash (Leaf rs)).rect
leaf_there hash rs some =
    union_is_some (map (λ (r : Record). Some r.rect) rs)
    (omega (arith, some, length-map rs (λ (r : Record). Some r.rect))) (of_records rs)

rects_there : (cs : List Child) → AllByRecursion IsSome (map (λ (e : Entry). e.rect) (map child_entry cs))
rects_there [] = tt
rects_there (c ∷ cs) = (refl, rects_there cs)

pub inner_there : (hash : Scheme) (cs : List Child) → 1 ≤ length cs →
    IsSome (entry_step hash (Inner (map child_entry cs))).rect
inner_there hash cs some =
    union_is_some (map (λ (e : Entry). e.rect) (map child_entry cs))
    (omega (arith, some, length-map (map child_entry cs) (λ (e : Entry). e.rect), length-map cs child_entry))
    (rects_there cs)

pub grown_all : (old mid : List Stored) (us ts : List Tree) → trees mid ≡ trees old ++ flat_map subtrees us → us ≡ ts →
    trees mid ≡ trees old ++ flat_map subtrees ts
grown_all old mid us ts grown all = grown ∙ ap (λ vs. trees old ++ flat_map subtrees vs) all

-- ---- ids of 32 bits

length_grown : (ns ms : List Stored) (ts : List Tree) → trees ms ≡ trees ns ++ ts → length ms ≡ length ns + length ts
length_grown ns ms ts e =
    sym (length_trees ms) ∙ ap length e ∙ length-append (trees ns) ts ∙ ap (λ n. n + length ts) (length_trees ns)

pub room_more : (old ns : List Stored) (ts items : List Tree) (t one : Tree) (i : ℕ) → items ≡ ts → t ≡ tree.Inner ts →
    length old + length (subtrees t) < 2 ^ 32 → trees ns ≡ trees old ++ flat_map subtrees (take i items) →
    one ≡ get_or items i one → i < length items → length ns + length (subtrees one) < 2 ^ 32
room_more old ns ts items t one i same at room grown is within =
    let here : length (subtrees t) ≡ length (flat_map subtrees items) + 1 =
    ap (λ t. length (subtrees t)) at ∙ ap length (subtrees-Inner ts)
    ∙ length-append (flat_map subtrees ts) (tree.Inner ts ∷ [])
    ∙ ap (λ us. length (flat_map subtrees us) + 1) (sym same) in
    let next : length (subtrees (get_or items i one)) ≡ length (subtrees one) =
    ap (λ t. length (subtrees t)) (sym is) in
    let rest = length-flat_map-take subtrees items i one within in
    omega (arith, room, here, next, rest, length_grown old ns (flat_map subtrees (take i items)) grown)

pub room_last : (old ns : List Stored) (ts us : List Tree) (t : Tree) → us ≡ ts → t ≡ tree.Inner ts →
    length old + length (subtrees t) < 2 ^ 32 → trees ns ≡ trees old ++ flat_map subtrees us → length ns + 1 < 2 ^ 32
room_last old ns ts us t same at room grown =
    let here : length (subtrees t) ≡ length (flat_map subtrees us) + 1 =
    ap (λ t. length (subtrees t)) at ∙ ap length (subtrees-Inner ts)
    ∙ length-append (flat_map subtrees ts) (tree.Inner ts ∷ [])
    ∙ ap (λ us. length (flat_map subtrees us) + 1) (sym same) in
    omega (arith, room, here, length_grown old ns (flat_map subtrees us) grown)

pub room_leaf : (old : List Stored) (rs : List Record) (t : Tree) → t ≡ tree.Leaf rs →
    length old + length (subtrees t) < 2 ^ 32 → length old + 1 < 2 ^ 32
room_leaf old rs t at room =
    omega (arith, room, ap (λ t. length (subtrees t)) at ∙ ap length (subtrees-Leaf rs))
