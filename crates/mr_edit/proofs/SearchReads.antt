-- Where a record is taken out, each node is read twice at most: in the search, and where it is freed.
use Rattle.std.proofs.Common.{◌≡◌, ◌≢◌, Bool, true, false, ℕ, suc, ◌+◌, ◌-◌, ◌*◌, ◌<◌, ◌≤◌, List, [], ◌∷◌, ◌++◌, length, map, take, drop, get_or, refl, sym, ap, subst, ◌∙◌, arith}
use Rattle.std.specs.Prelude.{◌==◌, if◌then◌else◌, sum, Option, Some, None, IfSome}
use Rattle.std.specs.Option.{option_to_list}
use Rattle.std.proofs.lemmas.List.{length-map, length-append}
use Rattle.std.proofs.lemmas.List.Concat.{flat_map-append}
use Rattle.std.proofs.lemmas.List.Sums.{sum_by-cons}
use Rattle.mr_geom.specs.Rectangle.{Rectangle}
use Rattle.mr_record.specs.declared.record.Record.{Record}
use Rattle.mr_tree.specs.Digest.{Scheme}
use Rattle.mr_tree.specs.Tree.{records, nodes, nodes_step}
use Rattle.mr_tree.specs.declared.child.Child.{Child}
use Rattle.mr_tree.specs.declared.tree.Tree.TheOpen as node
use Rattle.mr_tree.proofs.Folds.{fold-Leaf, fold-Inner}
use Rattle.mr_grow.specs.Shrink.{Rest, is_low, stays, shrunk}
use Rattle.mr_grow.proofs.Shrunk.{shrunk-Leaf}
use Rattle.mr_pages.specs.Stands.{Placed, Leaf, tree_of, pages_of, IsChain}
use Rattle.mr_pages.specs.Walking.{child_link}
use Rattle.mr_edit.specs.PageMap.{PageMap, HasNode, HasFree, OwnsEachOnce}
use Rattle.mr_edit.specs.Counted.{ReadsNodesOnce, ReadsTwice, LeavesOnce, TakesTwice, nodes_left}
use Rattle.mr_edit.specs.Held.{NamesTree, NameTrees, trees, pages}
use Rattle.mr_edit.specs.private.Removal.{HaveRect, IsOnce, LeavesInner, RemovesRecord}
use Rattle.mr_edit.specs.declared.removal.Removal.{Removal}
use Rattle.mr_edit.proofs.Descending.{around, joined_pages, step_down, tree_at}
use Rattle.mr_edit.proofs.Entries.{opens_inner, opens_leaf}
use Rattle.mr_edit.proofs.FreeReads.{some_page, pages_nodes}
use Rattle.mr_edit.proofs.Once.{once_below}
use Rattle.mr_edit.proofs.Removed.{Rejoined, rejoined, records_opened, removes_below, left_of}
use Rattle.mr_edit.proofs.Rows.{row_pages}
use Rattle.mr_edit.proofs.Searching.{all_below}
use Rattle.mr_edit.proofs.Tries.{SeenOnce, TriedOnce, child_sum, pages_weighed, seen_within, tried_within, weights}

-- ---- what stays

few_left : (r : Rest) → nodes_left false r ≤ nodes r.tree
few_left r = at (is_low r.tree)
  where
    at : (b : Bool) → sum (map nodes (if b then [] else r.tree ∷ [])) ≤ nodes r.tree
    at true = omega arith
    at false = omega (arith, sum_by-cons (λ (k : ℕ). k) (nodes r.tree) [])

-- ---- the node alone

pub twice_looked : (scheme : Scheme) (told : Option PageMap) (free : ℕ) (c : Child) (n : ℕ) (rect : Rectangle)
    (r r' : ℕ) →
    r' ≤ r + 1 → ReadsTwice scheme told free c n rect r r'
twice_looked scheme told free c n rect r r' few a chain P others is names linked owned all once =
    omega (arith, few, some_page P)

pub takes_leaf : (scheme : Scheme) (root : Bool) (told : Option PageMap) (free : ℕ) (c : Child) (n : ℕ)
    (rect : Rectangle)
    (rs : List Record) (l : Removal) (r r' : ℕ) → IfSome told (λ b. HasNode b c.id (node.Leaf rs)) → r' ≤ r + 1 →
    TakesTwice scheme root told free c n rect r r' (Some l)
takes_leaf scheme true told free c n rect rs l r r' reads few a chain P others is names linked owned all once =
    omega (arith, few, some_page P)
takes_leaf scheme false told free c n rect rs l r r' reads few a chain P others is names linked owned all once =
    let has_node : HasNode a c.id (node.Leaf rs) = subst (λ o. IfSome o (λ b. HasNode b c.id (node.Leaf rs))) is reads
    in
    let here : P ≡ Leaf c.id rs = opens_leaf scheme a c rs P names has_node in
    let rest : Rest = shrunk n (tree_of P) in
    let one : nodes rest.tree ≡ 1 = ap (λ Q. nodes (shrunk n (tree_of Q)).tree) here
    ∙ ap (λ (x : Rest). nodes x.tree) (shrunk-Leaf n rs) ∙ fold-Leaf ℕ nodes_step _ in
    omega (arith, few, some_page P, few_left rest, one)

-- ---- a node and its children

-- the record is below none of them
pub once_searched : (scheme : Scheme) (told : Option PageMap) (c : Child) (cs : List Child) (turn i r0 r1 r2 : ℕ) →
    IfSome told (λ b. HasNode b c.id (node.Inner (map child_link cs))) → r1 ≤ r0 + 1 →
    TriedOnce scheme told cs turn i r1 r2 → ReadsNodesOnce scheme told c r0 r2
once_searched scheme told c cs turn i r0 r1 r2 reads looked tried a P is names =
    let has_node : HasNode a c.id (node.Inner (map child_link cs)) =
    subst (λ o. IfSome o (λ b. HasNode b c.id (node.Inner (map child_link cs)))) is reads in
    let op = opens_inner scheme a c cs P names has_node in
    let Ps = op.parts in
    let mine : pages_of P ≡ c.id ∷ pages Ps = ap pages_of op.is ∙ ap (λ ps. c.id ∷ ps) (row_pages Ps) in
    omega (
      arith,
      looked,
      tried a Ps is op.named,
      tried_within turn i (weights Ps),
      pages_weighed Ps,
      ap length mine,
    )

-- all below it are looked at
pub once_seen : (scheme : Scheme) (told : Option PageMap) (c : Child) (cs : List Child) (i r0 r1 r2 : ℕ) →
    IfSome told (λ b. HasNode b c.id (node.Inner (map child_link cs))) → r1 ≤ r0 + 1 → SeenOnce scheme told cs i r1 r2 →
    ReadsNodesOnce scheme told c r0 r2
once_seen scheme told c cs i r0 r1 r2 reads looked seen a P is names =
    let has_node : HasNode a c.id (node.Inner (map child_link cs)) =
    subst (λ o. IfSome o (λ b. HasNode b c.id (node.Inner (map child_link cs)))) is reads in
    let op = opens_inner scheme a c cs P names has_node in
    let Ps = op.parts in
    let mine : pages_of P ≡ c.id ∷ pages Ps = ap pages_of op.is ∙ ap (λ ps. c.id ∷ ps) (row_pages Ps) in
    omega (
      arith,
      looked,
      seen a Ps is op.named,
      seen_within i (weights Ps),
      pages_weighed Ps,
      ap length mine,
    )

pub once_twice : (scheme : Scheme) (told : Option PageMap) (free : ℕ) (c : Child) (n : ℕ) (rect : Rectangle)
    (r r' : ℕ) →
    ReadsNodesOnce scheme told c r r' → ReadsTwice scheme told free c n rect r r'
once_twice scheme told free c n rect r r' once a chain P others is names linked owned all alone =
    omega (arith, once a P is names)

module _ (scheme : Scheme) (told told1 : Option PageMap) (free free1 : ℕ) (c : Child) (n : ℕ) (rect : Rectangle)
    (at turn i : ℕ) (cs : List Child) (d : Child) (r0 r1 r2 r3 : ℕ) (same : told1 ≡ told) (same_free : free1 ≡ free)
    (reads : IfSome told (λ b. HasNode b c.id (node.Inner (map child_link cs)))) (within : at < length cs)
    (is_d : d ≡ get_or cs at d) (place : at ≡ (if i == 0 then turn else i - 1)) (other : i ≢ 0 → at ≢ turn)
    (looked : r1 ≤ r0 + 1) (tried : TriedOnce scheme told cs turn i r1 r2) where
  -- the search stopped below one of them
  pub twice_below : ReadsTwice scheme told1 free1 d n rect r2 r3 → ReadsTwice scheme told free c n rect r0 r3
  twice_below twice a chain P others is names linked owned all once =
      let has_node : HasNode a c.id (node.Inner (map child_link cs)) =
      subst (λ o. IfSome o (λ b. HasNode b c.id (node.Inner (map child_link cs)))) is reads in
      let st = step_down scheme a chain others P c cs at d names has_node within is_d owned in
      let Ps = st.parts in
      let x : Placed = st.child in
      let t_is = tree_at Ps at x st.inside st.child_is in
      let size : at < length (trees Ps) = omega (arith, st.inside, length-map Ps tree_of) in
      let here : HaveRect n rect (records (tree_of x)) = subst (λ u. HaveRect n rect (records u)) (sym t_is)
      (all_below (λ (y : Record). y.number ≡ n → y.rect ≡ rect) (trees Ps) at (tree_of x) size
      (subst (HaveRect n rect) (records_opened P c.id Ps st.is) all)) in
      let alone : IsOnce n (records (tree_of x)) = subst (λ u. IsOnce n (records u)) (sym t_is)
      (once_below n (trees Ps) at (tree_of x) size (subst (IsOnce n) (records_opened P c.id Ps st.is) once)) in
      let g = twice a chain x (c.id ∷ ((pages (take at Ps) ++ pages (drop (suc at) Ps)) ++ others)) (same ∙ is) st.held
      (subst (λ f. IsChain (HasFree a) f chain) (sym same_free) linked) st.owned here alone in
      let mine : pages_of P ≡ c.id ∷ pages Ps = ap pages_of st.is ∙ ap (λ ps. c.id ∷ ps) (row_pages Ps) in
      omega (
        arith,
        looked,
        g,
        tried a Ps is st.named,
        child_sum Ps turn i at x place other st.inside st.child_is,
        ap length mine,
      )

  -- the record was taken out below one of them
  module _ (told2 told' : Option PageMap) (free2 free' : ℕ) (l : Removal) (r4 : ℕ)
      (removes : RemovesRecord scheme false told1 free1 told2 free2 d n rect (option_to_list l.entry) l.aside.items)
      (took : TakesTwice scheme false told1 free1 d n rect r2 r3 (Some l))
      (leaves : LeavesOnce scheme told2 free2 c.id (take at cs ++ (option_to_list l.entry ++ drop (suc at) cs)) r3 r4)
    where
      -- what was read below it, and beside the node, but that of what is left there
      record Read (a : PageMap) (chain : List ℕ) (P : Placed) (others : List ℕ) : Type 0 where
        joined : Rejoined scheme a told2 free2 c n at cs (option_to_list l.entry) l.aside.items P others d rect chain
        rest : ℕ
        rest_is : rest ≡ length
            (pages (take at joined.parts ++ (joined.left.outcome.parts ++ drop (suc at) joined.parts)))
        so_far : r3 + (rest + 1) ≤ r0 + 2 * length (pages_of P)
        on : r4 ≤ r3 + rest

      read : (a : PageMap) (chain : List ℕ) (P : Placed) (others : List ℕ) → told ≡ Some a → NamesTree scheme a c P →
          IsChain (HasFree a) free chain → OwnsEachOnce a.size (pages_of P ++ (chain ++ others)) →
          HaveRect n rect (records (tree_of P)) → IsOnce n (records (tree_of P)) → Read a chain P others
      read a chain P others is names linked owned all once =
          let j = rejoined scheme told told1 told2 free free1 free2 c n rect at cs (option_to_list l.entry)
          l.aside.items
          d
          same same_free reads within is_d removes a chain P others is names linked owned all once in
          let Ps = j.parts in
          let x : Placed = j.child in
          let o = j.left.outcome in
          let g = took a chain x (c.id ∷ ((pages (take at Ps) ++ pages (drop (suc at) Ps)) ++ others)) (same ∙ is)
          j.held
          (subst (λ f. IsChain (HasFree a) f chain) (sym same_free) linked) j.apart j.rects j.once in
          let stay : length (pages o.parts) ≡ nodes_left false (shrunk n (tree_of x)) =
          pages_nodes o.parts ∙ ap (λ ts. sum (map nodes ts)) o.stand in
          let mine : pages_of P ≡ c.id ∷ pages Ps = ap pages_of j.opened ∙ ap (λ ps. c.id ∷ ps) (row_pages Ps) in
          let split : pages Ps ≡ pages (take at Ps) ++ (pages_of x ++ pages (drop (suc at) Ps)) =
          ap pages (around Ps at x j.within) ∙ flat_map-append pages_of (take at Ps) (get_or Ps at x ∷ drop (suc at) Ps)
          ∙ ap (λ y. pages (take at Ps) ++ (pages_of y ++ pages (drop (suc at) Ps))) (sym j.child_is) in
          let left = leaves o.page_map o.chain (take at Ps ++ (o.parts ++ drop (suc at) Ps)) others o.is j.named
          o.linked
          j.owned
          in
          record {
            joined = j;
            rest = length (pages (take at Ps ++ (o.parts ++ drop (suc at) Ps)));
            rest_is = refl;
            so_far = omega (
              arith,
              looked,
              g,
              stay,
              tried a Ps is j.had,
              child_sum Ps turn i at x place other j.within j.child_is,
              ap length mine,
              ap length split,
              length-append (pages (take at Ps)) (pages_of x ++ pages (drop (suc at) Ps)),
              length-append (pages_of x) (pages (drop (suc at) Ps)),
              ap length (joined_pages (take at Ps) o.parts (drop (suc at) Ps)),
              length-append (pages (take at Ps)) (pages o.parts ++ pages (drop (suc at) Ps)),
              length-append (pages o.parts) (pages (drop (suc at) Ps)),
            );
            on = left;
          }

      pub twice_left : ReadsTwice scheme told free c n rect r0 r4
      twice_left a chain P others is names linked owned all once =
          let x = read a chain P others is names linked owned all once in
          omega (arith, x.so_far, x.on)

      pub takes_below : (root : Bool) (out : Removal) →
          LeavesInner scheme root told2 free2 told' free' c.id
          (take at cs ++ (option_to_list l.entry ++ drop (suc at) cs)) l.aside.items (option_to_list out.entry)
          out.aside.items → (root ≡ false → IfSome out.entry (λ e. r4 ≡ r3)) →
          TakesTwice scheme root told free c n rect r0 r4 (Some out)
      takes_below true out inner still a chain P others is names linked owned all once =
          omega (arith, twice_left a chain P others is names linked owned all once)
      takes_below false out inner still a chain P others is names linked owned all once =
          let x = read a chain P others is names linked owned all once in
          let y = removes_below scheme false told told1 told2 told' free free1 free2 free' c n rect at cs
          (option_to_list l.entry) (option_to_list out.entry) l.aside.items out.aside.items d same same_free reads
          within
          is_d removes inner a chain P others is names linked owned all once in
          let v = y.1.outcome in
          let rest : Rest = shrunk n (tree_of P) in
          let high : nodes rest.tree ≡ x.rest + 1 =
          ap (λ (z : Rest). nodes z.tree) (sym (left_of scheme a told2 free2 c n at cs (option_to_list l.entry)
          l.aside.items P others d rect chain x.joined once)) ∙ fold-Inner ℕ nodes_step _
          ∙ ap (λ k. k + 1) (sym (pages_nodes (take at x.joined.parts
          ++ (x.joined.left.outcome.parts ++ drop (suc at) x.joined.parts))) ∙ sym x.rest_is) in
          by_entry v.page_map rest x.rest high v.parts out.entry v.named v.stand (still refl) x.so_far x.on
        where
          by_entry : (b : PageMap) (rest : Rest) (k : ℕ) → nodes rest.tree ≡ k + 1 → (Qs : List Placed)
              (o : Option Child) →
              NameTrees scheme b (option_to_list o) Qs → trees Qs ≡ stays rest → IfSome o (λ e. r4 ≡ r3) →
              r3 + (k + 1) ≤ r0 + 2 * length (pages_of P) → r4 ≤ r3 + k →
              r4 + nodes_left false rest ≤ r0 + 2 * length (pages_of P)
          by_entry b rest k high [] None named stand still far on =
              omega (arith, far, on, ap (λ ts. sum (map nodes ts)) (sym stand))
          by_entry b rest k high (Q ∷ Qs) None named stand still far on = absurd named
          by_entry b rest k high Qs (Some e) named stand still far on =
              omega (arith, far, still, few_left rest, high)
