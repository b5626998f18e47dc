-- An insertion over told pages has room, and what it reads is there.
use Rattle.std.proofs.Common.{◌≡◌, ℕ, suc, ◌+◌, ◌^◌, ◌<◌, ◌≤◌, Bool, true, false, List, [], ◌∷◌, ◌++◌, length, map, take, drop, get_or, refl, sym, ap, subst, ◌∙◌, arith}
use Rattle.std.specs.Prelude.{Option, Some, None, option_map, IfSome, IsSomeAnd}
use Rattle.std.specs.List.{flat_map}
use Rattle.std.specs.Option.{option_to_list}
use Rattle.std.proofs.lemmas.List.{length-append, length-map, length-take, take-map, drop-map}
use Rattle.std.proofs.lemmas.List.Sorted.{length_permutation}
use Rattle.mr_record.specs.Version.{told as told_by}
use Rattle.mr_record.specs.declared.record.Record.{Record}
use Rattle.mr_tree.specs.Digest.{Scheme}
use Rattle.mr_tree.specs.Tree.{records, level}
use Rattle.mr_tree.specs.WellFormed.{IsFilled, IsFilledRoot}
use Rattle.mr_tree.specs.declared.child.Child.{Child}
use Rattle.mr_tree.specs.declared.tree.Tree.{Tree}
use Rattle.mr_tree.specs.declared.tree.Tree.TheVariants as tree
use Rattle.mr_tree.specs.declared.tree.Tree.TheOpen as node
use Rattle.mr_tree.specs.declared.tree.Tree.TheViews.{out-Tree}
use Rattle.mr_tree.specs.declared.tree.Tree.TheFolds.{every-Tree}
use Rattle.mr_tree.proofs.Equations.{entry_level, level-Inner}
use Rattle.mr_tree.proofs.Induction.{every_child}
use Rattle.mr_split.specs.Choice.{choose}
use Rattle.mr_grow.specs.Grow.{outline, grown, ins}
use Rattle.mr_grow.specs.Shrink.{all_in}
use Rattle.mr_grow.specs.Views.{HasRoom, IsRooted}
use Rattle.mr_grow.proofs.Dropping.{all_in_rooted, all_in_mixes}
use Rattle.mr_grow.proofs.Grown.{grown-Leaf}
use Rattle.mr_grow.proofs.Kept.{ins_mixes, records_below}
use Rattle.mr_grow.proofs.Sizes.{root_shallow, has_room}
use Rattle.mr_grow.proofs.Standing.{ins_root}
use Rattle.mr_pages.specs.Page.{Link, page_limit}
use Rattle.mr_pages.specs.Stands.{Placed, Leaf, tree_of, pages_of, link_of, IsWritten, whole_tree, whole_pages}
use Rattle.mr_pages.specs.Walking.{child_link}
use Rattle.mr_pages.proofs.Building.{FilledAs, filled_below}
use Rattle.mr_edit.specs.PageMap.{PageMap, HasNode, OwnsEachOnce}
use Rattle.mr_edit.specs.Held.{NameTrees, trees, pages, entries, counted, HaveFew}
use Rattle.mr_edit.specs.Causes.{KnowsBelow}
use Rattle.mr_edit.specs.Outcome.{Outcome, GrowsSubtree, UsesPages, TakesPage, CanTake, CanWrite, CanPut}
use Rattle.mr_edit.specs.Drafted.{Drafted}
use Rattle.mr_edit.specs.Deleted.{InsertsAll}
use Rattle.mr_edit.specs.Growing.{CanAdd, CanRaise, CanGrow, CanInsert}
use Rattle.mr_edit.specs.declared.inserted.Inserted.{Inserted}
use Rattle.mr_edit.proofs.Counts.{owned_length}
use Rattle.mr_edit.proofs.Frame.{times_first}
use Rattle.mr_edit.proofs.Places.{same_owned, owned_within}
use Rattle.mr_edit.proofs.Rows.{row_trees}
use Rattle.mr_edit.proofs.Sums.{count_named, counted_named, few_at, grown_length, more_few, named_few, replaced_counted}
use Rattle.mr_edit.proofs.Levels.{all_at}
use Rattle.mr_edit.proofs.Entries.{opens_leaf, outlines_are}
use Rattle.mr_edit.proofs.Descending.{tree_at, among_others, owned_up, Step, step_down, joined_trees}
use Rattle.mr_edit.proofs.Room.{all_nodes, nodes_pages, some_leaf, nodes_room, child_room, few_nodes, root_nodes}
use Rattle.mr_edit.proofs.Roots.{start_counts, last_counts, raise_counts, move_counts, none_placed, over_two, below_root}

-- ---- below an entry

-- a leaf that was read can be put on its page with one record more
pub leaf_put : (scheme : Scheme) (root : Bool) (told told1 : Option PageMap) (free : ℕ) (c : Child) (one : Record)
    (rs : List Record) → told1 ≡ told → IfSome told (λ b. HasNode b c.id (node.Leaf rs)) →
    CanGrow scheme root told free c one → CanPut told1 free c.id
leaf_put scheme root told told1 free c one rs same reads k =
    let b = k.below in
    let has : HasNode b.page_map c.id (node.Leaf rs) =
    subst (λ o. IfSome o (λ x. HasNode x c.id (node.Leaf rs))) b.is reads in
    let here : b.placed ≡ Leaf c.id rs = opens_leaf scheme b.page_map c rs b.placed b.names has in
    record {
      page_map = b.page_map;
      is = same ∙ b.is;
      chain = b.chain;
      linked = b.linked;
      others = b.others;
      owned = subst (λ Q. OwnsEachOnce b.page_map.size (pages_of Q ++ (b.chain ++ b.others))) here b.owned;
      few = omega (
        arith,
        k.room,
        some_leaf (rs ++ one ∷ []),
        ap (λ Q. all_nodes (grown one (tree_of Q))) here,
        ap all_nodes (grown-Leaf one rs),
      );
    }

module _ (scheme : Scheme) (root : Bool) (told told1 : Option PageMap) (free : ℕ) (c : Child) (one : Record)
    (at : ℕ) (cs : List Child) (d : Child) where
  abbrev Goes : CanGrow scheme root told free c one → Type 0
  Goes k = Step scheme k.below.page_map k.below.chain k.below.others k.below.placed c cs at d

  goes : IfSome told (λ b. HasNode b c.id (node.Inner (map child_link cs))) → at < length cs → d ≡ get_or cs at d →
      (k : CanGrow scheme root told free c one) → Goes k
  goes reads within is_d k =
      let b = k.below in
      let has : HasNode b.page_map c.id (node.Inner (map child_link cs)) =
      subst (λ o. IfSome o (λ x. HasNode x c.id (node.Inner (map child_link cs)))) b.is reads in
      step_down scheme b.page_map b.chain b.others b.placed c cs at d b.names has within is_d b.owned

  -- what the node would become, by the trees of its children
  all_grown : (k : CanGrow scheme root told free c one) (s : Goes k) →
      all_nodes (grown one (tree_of k.below.placed)) ≡ all_nodes (grown one (tree.Inner (trees s.parts)))
  all_grown k s = ap (λ Q. all_nodes (grown one (tree_of Q))) s.is
      ∙ ap (λ ts. all_nodes (grown one (tree.Inner ts))) (row_trees s.parts)

  chosen_tree : (k : CanGrow scheme root told free c one) (s : Goes k) →
      at ≡ choose (map (λ (e : Child). e.rect) cs) one.rect → at ≡ choose (map outline (trees s.parts)) one.rect
  chosen_tree k s chosen = chosen
      ∙ ap (λ rects. choose rects one.rect) (outlines_are scheme k.below.page_map cs s.parts s.named)

  child_filled : (k : CanGrow scheme root told free c one) (s : Goes k) → every-Tree IsFilled (tree_of s.child)
  child_filled k s =
      let ts = trees s.parts in
      let whole : FilledAs root (tree.Inner ts) = subst (λ us. FilledAs root (tree.Inner us)) (row_trees s.parts)
      (subst (λ Q. FilledAs root (tree_of Q)) s.is k.below.filled) in
      subst (every-Tree IsFilled) (sym (tree_at s.parts at s.child s.inside s.child_is))
      (all_at (every-Tree IsFilled) at ts (tree_of s.child) (omega (arith, s.inside, length-map s.parts tree_of))
      (filled_below root ts whole))

  -- its children's trees
  below : (k : CanGrow scheme root told free c one) (s : Goes k) →
      tree_of k.below.placed ≡ tree.Inner (trees s.parts)
  below k s = ap tree_of s.is ∙ ap tree.Inner (row_trees s.parts)

  child_roomy : (k : CanGrow scheme root told free c one) (s : Goes k) → every-Tree HasRoom (tree_of s.child)
  child_roomy k s =
      let ts = trees s.parts in
      subst (every-Tree HasRoom) (sym (tree_at s.parts at s.child s.inside s.child_is))
      (all_at (every-Tree HasRoom) at ts (tree_of s.child) (omega (arith, s.inside, length-map s.parts tree_of))
      (every_child HasRoom ts (subst (every-Tree HasRoom) (below k s) k.roomy)))

  all_below : (k : CanGrow scheme root told free c one) (s : Goes k) →
      length (records (tree_of k.below.placed)) ≡ length (flat_map records (trees s.parts))
  all_below k s = ap (λ t. length (records t)) (below k s) ∙ ap length (records_below (trees s.parts))

  -- the record can be put into the subtree of the child that takes it
  pub child_grow : told1 ≡ told → IfSome told (λ b. HasNode b c.id (node.Inner (map child_link cs))) →
      at ≡ choose (map (λ (e : Child). e.rect) cs) one.rect → at < length cs → d ≡ get_or cs at d →
      CanGrow scheme root told free c one → CanGrow scheme false told1 free d one
  child_grow same reads chosen within is_d k =
      let b = k.below in
      let s = goes reads within is_d k in
      let l = pages (take at s.parts) in
      let r = pages (drop (suc at) s.parts) in
      let ts = trees s.parts in
      record {
        below = record {
          page_map = b.page_map;
          is = same ∙ b.is;
          chain = b.chain;
          linked = b.linked;
          placed = s.child;
          names = s.held;
          filled = child_filled k s;
          others = c.id ∷ ((l ++ r) ++ b.others);
          owned = s.owned;
          head = among_others 0 c.id l r b.others b.head;
        };
        room = omega (
          arith,
          k.room,
          all_grown k s,
          child_room one ts at (tree_of s.child) (omega (arith, s.inside, length-map s.parts tree_of))
              (tree_at s.parts at s.child s.inside s.child_is) (chosen_tree k s chosen),
          length-append (l ++ r) b.others,
          length-append l r,
          nodes_pages (take at s.parts),
          nodes_pages (drop (suc at) s.parts),
          ap all_nodes (take-map tree_of at s.parts),
          ap all_nodes (drop-map tree_of (suc at) s.parts),
        );
        roomy = child_roomy k s;
        few = omega (
          arith,
          k.few,
          all_below k s,
          few_at ts at (tree_of s.child) (omega (arith, s.inside, length-map s.parts tree_of))
              (tree_at s.parts at s.child s.inside s.child_is),
        );
      }

  -- and its node can be put on its page, once the record went in below it
  pub inner_put : (told2 : Option PageMap) (free2 : ℕ) (new : List Child) → told1 ≡ told →
      IfSome told (λ b. HasNode b c.id (node.Inner (map child_link cs))) →
      at ≡ choose (map (λ (e : Child). e.rect) cs) one.rect → at < length cs → d ≡ get_or cs at d →
      GrowsSubtree scheme told1 free told2 free2 d one new → CanGrow scheme root told free c one →
      CanPut told2 free2 c.id × HaveFew (take at cs ++ (new ++ drop (suc at) cs))
  inner_put told2 free2 new same reads chosen within is_d grows k =
      let b = k.below in
      let s = goes reads within is_d k in
      let l = pages (take at s.parts) in
      let r = pages (drop (suc at) s.parts) in
      let o = grows b.page_map b.chain s.child (c.id ∷ ((l ++ r) ++ b.others)) (same ∙ b.is) s.held b.linked s.owned in
      let Qs = take at s.parts ++ (o.parts ++ drop (suc at) s.parts) in
      let v = scheme.version in
      let n = length (records (tree_of s.child)) in (
        record {
          page_map = o.page_map;
          is = o.is;
          chain = o.chain;
          linked = o.linked;
          others = pages Qs ++ b.others;
          owned = same_owned o.page_map.size (c.id ∷ (pages Qs ++ (o.chain ++ b.others))) _
              (λ q. sym (raise_counts q c.id (pages Qs) o.chain b.others))
              (owned_up o.page_map.size c.id at s.parts o.parts o.chain b.others o.owned);
          few = omega (
            arith,
            k.room,
            all_grown k s,
            ap all_nodes (joined_trees one s.parts o.parts at s.child s.inside s.child_is o.stand
                (chosen_tree k s chosen)),
            nodes_room (trees Qs),
            nodes_pages Qs,
            length-append (pages Qs) b.others,
          );
        },
        more_few v (counted (take at cs ++ (new ++ drop (suc at) cs))) d.count (counted cs) (counted new)
            (length (records (tree_of b.placed))) n (replaced_counted at cs new d within is_d)
            (counted_named scheme b.page_map cs s.parts s.named ∙ ap (told_by v) (sym (all_below k s)))
            (counted_named scheme o.page_map new o.parts o.named
            ∙ ap (λ us. told_by v (length (flat_map records us))) o.stand
            ∙ ap (told_by v) (grown_length one (tree_of s.child) (child_roomy k s)))
            (count_named scheme d s.child s.held.said) k.few,
      )

-- ---- a page that is taken and written

pub add_take : (told : Option PageMap) (free : ℕ) → CanAdd told free → CanTake told free
add_take told free k = record {
  page_map = k.page_map;
  is = k.is;
  chain = k.chain;
  linked = k.linked;
  room = λ none. omega (
    arith,
    owned_length k.page_map.size (k.chain ++ k.others) k.owned,
    length-append k.chain k.others,
    ap length none,
    k.few,
  );
}

pub add_write : (told told1 : Option PageMap) (free free1 page : ℕ) → TakesPage told free told1 free1 page →
    CanAdd told free → CanWrite told1 page
add_write told told1 free free1 page takes k =
    let t = takes k.page_map k.chain k.is k.linked in
    subst (λ o. IsSomeAnd o (λ b. page < b.size)) (sym t.is)
    (owned_within t.page_map.size page (page ∷ (t.chain ++ k.others)) (t.owned k.others k.owned)
    (times_first page (t.chain ++ k.others)))

pub raise_take : (told : Option PageMap) (free level : ℕ) → CanRaise told free level → CanTake told free
raise_take told free level k = add_take told free k.add

pub raise_write : (told told1 : Option PageMap) (free free1 page level : ℕ) → TakesPage told free told1 free1 page →
    CanRaise told free level → CanWrite told1 page
raise_write told told1 free free1 page level takes k = add_write told told1 free free1 page takes k.add

-- ---- the root

-- what is known of a map's tree: it stands below the root, and page 0 alone is another's
record KnowsRoot (scheme : Scheme) (told : Option PageMap) (free : ℕ) (c : Child) (t : Tree) : Type 0 where
  below : KnowsBelow scheme true told free c
  tree : tree_of below.placed ≡ t
  others : below.others ≡ 0 ∷ []

root_known : (scheme : Scheme) (told : Option PageMap) (free : ℕ) (c : Child) (t : Tree) →
    Drafted scheme told free (Some c) t → IsFilledRoot (out-Tree t) → KnowsRoot scheme told free c t
root_known scheme told free c t d filled = at d.placed d.tree d.root_is d.written d.owned
  where
    at : (o : Option Placed) → whole_tree o ≡ t → ◌≡◌ {A = Option Link} (Some (child_link c))
        (option_map (link_of scheme) o) → IfSome o (IsWritten scheme (HasNode d.page_map)) →
        OwnsEachOnce d.page_map.size (0 ∷ (whole_pages o ++ d.chain)) → KnowsRoot scheme told free c t
    at None is root written owned = cc
    at (Some P) is root written owned =
        let said : child_link c ≡ link_of scheme P = cc in
        record {
          below = record {
            page_map = d.page_map;
            is = d.is;
            chain = d.chain;
            linked = d.linked;
            placed = P;
            names = record { said = said; written = written };
            filled = subst (λ u. IsFilledRoot (out-Tree u)) (sym is) filled;
            others = 0 ∷ [];
            owned = same_owned d.page_map.size (0 ∷ (pages_of P ++ d.chain)) _
                (λ q. start_counts q (pages_of P) d.chain) owned;
            head = times_first 0 [];
          };
          tree = is;
          others = refl;
        }

-- there are few nodes after an insertion
few_after : (one : Record) (t : Tree) → IsRooted t → length (records t) + 1 ≤ 2 ^ 20 →
    all_nodes (grown one t) + 1 < page_limit
few_after one t rooted few = omega (
  arith,
  root_nodes (grown one t),
  few_nodes (ins one t) (ins_root one t rooted),
  length_permutation (one ∷ records t) (records (ins one t)) (ins_mixes one t (has_room t rooted)),
  few,
)

pub root_grow : (scheme : Scheme) (told : Option PageMap) (free : ℕ) (c : Child) (one : Record) →
    CanInsert scheme told free (Some c) 1 → CanGrow scheme true told free c one
root_grow scheme told free c one k =
    let r = root_known scheme told free c k.tree k.draft k.rooted.filled in
    record {
      below = r.below;
      room = omega (
        arith,
        few_after one k.tree k.rooted k.few,
        ap (λ u. all_nodes (grown one u)) r.tree,
        ap length r.others,
      );
      roomy = subst (every-Tree HasRoom) (sym r.tree) (has_room k.tree k.rooted);
      few = omega (arith, k.few, ap (λ u. length (records u)) r.tree);
    }

-- the first record
pub first_add : (scheme : Scheme) (told : Option PageMap) (free : ℕ) → CanInsert scheme told free None 1 →
    CanAdd told free
first_add scheme told free k =
    let d = k.draft in
    let none = none_placed scheme d.placed d.root_is in
    let owned : OwnsEachOnce d.page_map.size (0 ∷ ([] ++ d.chain)) = subst
    (λ o. OwnsEachOnce d.page_map.size (0 ∷ (whole_pages o ++ d.chain))) none d.owned in
    record {
      page_map = d.page_map;
      is = d.is;
      chain = d.chain;
      linked = d.linked;
      others = 0 ∷ [];
      owned = same_owned d.page_map.size (0 ∷ ([] ++ d.chain)) _ (λ q. last_counts q d.chain) owned;
      few = omega arith;
    }

first_low : (scheme : Scheme) (b : PageMap) (x y : Child) (Ps : List Placed) → NameTrees scheme b (x ∷ y ∷ []) Ps →
    level (tree.Inner (trees Ps)) ≡ x.level + 1
first_low scheme b x y [] named = absurd named
first_low scheme b x y (P ∷ Ps) named =
    level-Inner (trees (P ∷ Ps))
    ∙ ap (λ n. n + 1) (sym (ap (λ (l : Link). l.entry.level) named.0.said ∙ entry_level scheme (tree_of P)))

-- a root can be put above the two nodes of a root that was split
pub root_raise : (scheme : Scheme) (told told1 : Option PageMap) (free free1 : ℕ) (c : Child) (one : Record)
    (s : Inserted) (second : Child) → s.second ≡ Some second → GrowsSubtree scheme told free told1 free1 c one
    (entries s)
    →
    CanInsert scheme told free (Some c) 1 →
    CanRaise told1 free1 s.first.level × HaveFew (s.first ∷ second ∷ [])
root_raise scheme told told1 free free1 c one s second some grows k =
    let d = k.draft in
    let t = k.tree in
    let cs : List Child = s.first ∷ second ∷ [] in
    let both : entries s ≡ cs = ap (λ x. s.first ∷ option_to_list x) some in
    let o : Outcome scheme d.page_map (UsesPages d.page_map.size d.chain) told1 free1 (0 ∷ []) (grown one t) cs =
    subst (Outcome scheme d.page_map (UsesPages d.page_map.size d.chain) told1 free1 (0 ∷ []) (grown one t)) both
    (below_root scheme told told1 free free1 c one (entries s) grows t d).outcome in
    let high : tree.Inner (trees o.parts) ≡ ins one t = over_two scheme o.page_map s.first second o.parts (grown one t)
    o.named o.stand in
    let shallow = root_shallow (ins one t) (ins_root one t k.rooted) (omega (
      arith,
      length_permutation (one ∷ records t) (records (ins one t)) (ins_mixes one t (has_room t k.rooted)),
      k.few,
    )) in (
      record {
        add = record {
          page_map = o.page_map;
          is = o.is;
          chain = o.chain;
          linked = o.linked;
          others = pages o.parts ++ (0 ∷ []);
          owned = same_owned o.page_map.size (pages o.parts ++ (o.chain ++ (0 ∷ []))) _
              (λ q. move_counts q (pages o.parts) o.chain (0 ∷ [])) o.owned;
          few = omega (
            arith,
            few_after one t k.rooted k.few,
            length-append (pages o.parts) (0 ∷ []),
            nodes_pages o.parts,
            ap all_nodes o.stand,
          );
        };
        low = omega (arith, shallow, ap level high, first_low scheme o.page_map s.first second o.parts o.named);
      },
      named_few scheme o.page_map cs o.parts o.named (omega (
        arith,
        k.few,
        ap (λ us. length (flat_map records us)) o.stand,
        grown_length one t (has_room t k.rooted),
      )),
    )

-- ---- records one after another

-- the next one can be put in as well
pub next_insert : (scheme : Scheme) (told told1 : Option PageMap) (free free1 : ℕ) (root root1 : Option Child)
    (rs : List Record) (i : ℕ) → i < length rs →
    InsertsAll scheme told free root told1 free1 root1 (take i rs) →
    CanInsert scheme told free root (length rs) → CanInsert scheme told1 free1 root1 1
next_insert scheme told told1 free free1 root root1 rs i within inserts k =
    let first = take i rs in
    let r = inserts k.tree 0 k.draft.page_map.size 0 (record {
      draft = k.draft;
      no_fewer = omega arith;
      no_more = omega arith;
    }) in
    record {
      tree = all_in first k.tree;
      draft = r.draft;
      rooted = all_in_rooted first k.tree k.rooted;
      few = omega (
        arith,
        k.few,
        within,
        length-take i rs,
        length-append first (records k.tree),
        length_permutation (first ++ records k.tree) (records (all_in first k.tree))
            (all_in_mixes first k.tree k.rooted),
      );
    }

-- the root that is told, by its kind
pub at_root : (scheme : Scheme) (told : Option PageMap) (free count : ℕ) (root root1 : Option Child) →
    root ≡ root1 → CanInsert scheme told free root count → CanInsert scheme told free root1 count
at_root scheme told free count root root1 is = subst (λ r. CanInsert scheme told free r count) is
