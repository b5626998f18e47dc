-- The rounds of a search: what each fetch leaves to find and to fetch, and what is known at the
-- end.
use Rattle.std.proofs.Common.{◌≡◌, ℕ, ◌+◌, ◌<◌, ◌≤◌, ◌==◌, ◌&&◌, cond, ◌++◌, true, false, List, [], ◌∷◌, map, length, min, refl, sym, ap, subst, ◌∙◌, inl, inr, arith}
use Rattle.std.specs.Prelude.{Option, Some, None, IsSome, IsNone, IfSome, IsSomeAnd, Result, Ok, Err, IfOk, is_some, filter}
use Rattle.std.specs.List.{AllByRecursion, sum_by, sum, flat_map}
use Rattle.std.specs.List.Sorted.{IsPermutation}
use Rattle.std.proofs.Math.Dec.{eqb-suc-zero}
use Rattle.std.proofs.lemmas.Bool.{cases_Bool, le-leb}
use Rattle.std.proofs.lemmas.List.{map-append}
use Rattle.std.proofs.lemmas.List.Elements.{All-nil, All-head, All-tail, All-append, All-from_recursion, filter-append, recursion_from_All}
use Rattle.std.proofs.lemmas.List.Sorted.{All-permutation, sum_by-IsPermutation}
use Rattle.std.proofs.lemmas.List.Sums.{sum_by-cons, sum_by-append}
use Rattle.mr_geom.specs.Distance.{least_squared_distance}
use Rattle.mr_outside.specs.Faults.{next_count}
use Rattle.mr_record.specs.declared.record.Record.{Record}
use Rattle.mr_record.specs.declared.version.Version.{Version}
use Rattle.mr_tree.specs.Tree.{records}
use Rattle.mr_tree.specs.Digest.{Scheme, by, entry}
use Rattle.mr_tree.specs.View.{Node, records_in, children_in, child_entry}
use Rattle.mr_tree.specs.Nodes.{MapModel, HasIds, IsNodeOf, IsTop, MayFetch, ShowsNode, tree_under}
use Rattle.mr_tree.specs.WellFormed.{WellFormed}
use Rattle.mr_tree.specs.declared.child.Child.{Child}
use Rattle.mr_tree.specs.declared.nodes.Top.{Top}
use Rattle.mr_tree.specs.declared.tree.Tree.{Tree}
use Rattle.mr_tree.specs.declared.tree.Tree.TheOpen as node
use Rattle.mr_tree.proofs.Equations.{records-Leaf, records-Inner}
use Rattle.mr_query.specs.Layers.{is_on}
use Rattle.mr_query.specs.Nearest.{distance, distances, is_within}
use Rattle.mr_query.specs.Scan.{on_layers}
use Rattle.mr_query.specs.private.Radius.{below, IsRadius}
use Rattle.mr_query.proofs.Counts.{below-append, below-length, below-sum, below-rises}
use Rattle.mr_query.proofs.Kth.{kth_is_radius, radius_is_kth}
use Rattle.mr_proof.specs.Cut.{opened_nodes}
use Rattle.mr_proof.specs.declared.question.Around.{Around}
use Rattle.mr_proof.specs.Tight.{opens_at}
use Rattle.mr_proof.specs.Honest.{honest_cut}
use Rattle.mr_proof.proofs.Laws.{open_if}
use Rattle.mr_prove.specs.declared.waiting.Waiting.{Waiting}
use Rattle.mr_prove.specs.private.Parts.{child_key, opened_at}
use Rattle.mr_prove.specs.private.Search.{distances_on, kth_in, near_way, near_opened, IsNear, has_layer, waiting, waiting_of, distances_at, unseen, IsWaitingChild, Searching, Bounded, IsStart, IsReached}
use Rattle.mr_prove.proofs.Passing.{sum_of_some, sum_of_rest_none}
use Rattle.mr_prove.proofs.Pieces.{sum_by_map, sum_by_along, opened_met_at, opened_one_at}
use Rattle.mr_prove.proofs.Nearer.{none_below, none_unlayered}
use Rattle.mr_prove.proofs.Queue.{NoNearer}

-- ---- what is below x in a node that was fetched: in its records, and in its children

below_joined : (a : Around) (x : ℕ) (rs ss : List Record)
    → below x (distances_on a (rs ++ ss)) ≡ below x (distances_on a rs) + below x (distances_on a ss)
below_joined a x rs ss =
    let p = a.center in
    let first = on_layers a.layers rs in
    let rest = on_layers a.layers ss in
    ap (λ (rs : List Record). below x (distances p rs)) (filter-append (is_on a.layers) rs ss)
    ∙ ap (below x) (map-append (distance p) first rest)
    ∙ below-append x (distances p first) (distances p rest)

below_children : (a : Around) (x : ℕ) (ts : List Tree)
    → below x (distances_on a (flat_map (λ list. list) (map records ts)))
    ≡ sum_by (λ t. below x (distances_on a (records t))) ts
below_children a x [] = refl
below_children a x (t ∷ ts) =
    below_joined a x (records t) (flat_map (λ list. list) (map records ts))
    ∙ ap (λ n. below x (distances_on a (records t)) + n) (below_children a x ts)
    ∙ sym (sum_by-cons (λ t. below x (distances_on a (records t))) t ts)

below_node : (a : Around) (s : MapModel) (x : ℕ) (t : Tree) (n : Node) → IsNodeOf s t n
    → below x (distances_on a (records t)) ≡ below x (distances_on a (records_in n))
    + sum_by (λ (d : Child). below x (distances_at a (s.node d.id))) (children_in n)
unfolding distances_at
below_node a s x t node.Empty is = absurd is
below_node a s x t (node.Leaf rs) is =
    let same : below x (distances_on a (records t)) ≡ below x (distances_on a rs) =
    ap (λ t. below x (distances_on a (records t))) is ∙ ap (λ rs. below x (distances_on a rs)) (records-Leaf rs) in
    omega arith
below_node a s x t (node.Inner cs) is =
    let same : below x (distances_on a (records t))
    ≡ sum_by (λ (d : Child). below x (distances_at a (s.node d.id))) cs =
    ap (λ t. below x (distances_on a (records t))) is.1
    ∙ ap (λ rs. below x (distances_on a rs)) (records-Inner is.0)
    ∙ below_children a x is.0
    ∙ sym (sum_by_along (λ o. below x (distances_at a o)) (λ (d : Child). s.node d.id) Some cs is.0 is.2) in
    omega arith

below_at : (scheme : Scheme) (a : Around) (s : MapModel) (x : ℕ) (o : Option Tree) (c : Child) (n : Node)
    → IsSomeAnd o (λ t. child_entry c ≡ entry scheme t) → IfSome o (λ t. IsNodeOf s t n)
    → below x (distances_at a o) ≡ below x (distances_on a (records_in n))
    + sum_by (λ (d : Child). below x (distances_at a (s.node d.id))) (children_in n)
unfolding distances_at
below_at scheme a s x None c n known is = absurd known
below_at scheme a s x (Some t) c n known is = below_node a s x t n is

-- ---- what was kept, in place of all

-- what is kept below its radius is all that matters there
radius_of_all : (k r : ℕ) (all best : List ℕ) (u : ℕ → ℕ) → IsRadius k best (Some r)
    → ((x : ℕ) → min k (below x all) ≡ min k (below x best + u x)) → u r ≡ 0 → IsRadius k all (Some r)
radius_of_all k r all best u kept same none =
    let here = same r in
    let next = same (r + 1) in
    let low = kept.0 in
    let high = kept.1 in
    (omega arith, omega arith)

no_radius_of_all : (k : ℕ) (all best : List ℕ) → IsRadius k best None
    → ((x : ℕ) → min k (below x all) ≡ min k (below x best)) → IsRadius k all None
no_radius_of_all k all best kept same =
    let whole = below-sum all in
    let at = same (sum all + 1) in
    let short = below-length (sum all + 1) best in
    omega arith

no_less : (a b : ℕ) → (b < a → ⊥) → a ≤ b
no_less a b h = omega arith

-- what is unseen lies within the radius of all, as long as the radius of what was kept is not
-- reached
not_reached : (k far r : ℕ) (all best : List ℕ) (u : ℕ → ℕ) (radius : Option ℕ) → IsRadius k best radius
    → IsRadius k all (Some r) → ((x : ℕ) → min k (below x all) ≡ min k (below x best + u x))
    → ((x : ℕ) → x ≤ far → u x ≡ 0) → (IsReached radius far → ⊥) → far ≤ r
not_reached k far r all best u None kept whole same none not_yet = no_less far r (λ less.
    let at = same (r + 1) in
    let unseen = none (r + 1) (omega arith) in
    let short = below-length (r + 1) best in
    let high = whole.1 in
    omega arith)
not_reached k far r all best u (Some n) kept whole same none not_yet = no_less far r (λ less.
    let at = same (r + 1) in
    let unseen = none (r + 1) (omega arith) in
    let high = whole.1 in
    let low = kept.0 in
    let over : far < n = more n far not_yet in
    let rise = below-rises (r + 1) n best (omega arith) in
    omega arith)
  where
    more : (a b : ℕ) → (a ≤ b → ⊥) → b < a
    more a b h = omega arith

next_count-≤ : (n : ℕ) → next_count n ≤ n + 1
next_count-≤ n = omega arith

by_told : (o : Option Tree) (P : Tree → Type 0) → ((t : Tree) → o ≡ Some t → P t) → IfSome o P
by_told None P h = tt
by_told (Some t) P h = h t refl

-- ---- what waits of some children

-- what is known of each
each_waits : (hash : List ℕ → List ℕ) (a : Around) (s : MapModel) (cs : List Child)
    → AllByRecursion (MayFetch hash s) cs
    → AllByRecursion (IsWaitingChild hash a s) (waiting_of a s.version cs)
each_waits hash a s [] may = tt
each_waits hash a s (c ∷ cs) may =
    let v = s.version in
    let rest = each_waits hash a s cs may.1 in
    elim (cases_Bool (has_layer a v c)) [
      | inl t ↦
          subst (λ b. AllByRecursion (IsWaitingChild hash a s)
          (map (waiting a) (cond b (c ∷ filter (has_layer a v) cs) (filter (has_layer a v) cs)))) (sym t)
          (record { far = refl; may = may.0; layered = t }, rest)
      | inr f ↦
          subst (λ b. AllByRecursion (IsWaitingChild hash a s)
          (map (waiting a) (cond b (c ∷ filter (has_layer a v) cs) (filter (has_layer a v) cs)))) (sym f) rest
    ]

-- no more is counted of those that wait than of all
waiting_few : (a : Around) (v : Version) (n : Child → ℕ) (cs : List Child)
    → sum_by (λ (w : Waiting). n w.child) (waiting_of a v cs) ≤ sum_by n cs
waiting_few a v n cs =
    let mapped = sum_by_map (λ (w : Waiting). n w.child) (waiting a) (filter (has_layer a v) cs) in
    let few = sum_of_some n (has_layer a v) cs in
    omega arith

-- and as much where one without any of the layers counts nothing
waiting_same : (a : Around) (v : Version) (n : Child → ℕ) (cs : List Child)
    → AllByRecursion (λ (c : Child). has_layer a v c ≡ false → n c ≡ 0) cs
    → sum_by (λ (w : Waiting). n w.child) (waiting_of a v cs) ≡ sum_by n cs
waiting_same a v n cs none =
    let mapped = sum_by_map (λ (w : Waiting). n w.child) (waiting a) (filter (has_layer a v) cs) in
    let same = sum_of_rest_none n (has_layer a v) cs none in
    omega arith

-- a node within the radius that waits is one that the cut opens
near_opens : (a : Around) (v : Version) (r : Option ℕ) (c : Child) → is_within a.center r c.rect ≡ true
    → has_layer a v c ≡ true → opens_at (near_way a r) (child_key v c) ≡ true
near_opens a v r c within layered =
    open_if (is_within a.center r c.rect && has_layer a v c) ∙ (λ i. within i && layered i)

told_of : (o : Option Tree) (P : Tree → Type 0) → IfSome o P → (t : Tree) → o ≡ Some t → P t
told_of None P h t e = cc
told_of (Some u) P h t e = let same : u ≡ t = cc in subst P same h

-- ---- the queue in another order, the end, and the beginning of a map without a root

module _ (hash : List ℕ → List ℕ) (a : Around) (s : MapModel) where
  -- the queue in another order
  pub searching_moved : (pending moved : List Waiting) (best : List ℕ) → IsPermutation pending moved
      → Searching hash a s pending best → Searching hash a s moved best
  searching_moved pending moved best perm old = record {
    waits = All-permutation (IsWaitingChild hash a s) pending moved perm old.waits;
    found = λ t e x.
        let all = old.found t e x in
        let same = sum_by-IsPermutation (λ (w : Waiting). below x (distances_at a (s.node w.child.id)))
        pending moved perm in
        omega arith;
  }

  pub bounded_moved : (pending moved : List Waiting) (before now : ℕ) → IsPermutation pending moved
      → Bounded hash a s pending before now → Bounded hash a s moved before now
  bounded_moved pending moved before now perm old = record {
    few = λ t e.
        let few = old.few t e in
        let same = sum_by-IsPermutation
        (λ (w : Waiting). opened_at (by s.version hash) (near_way a (kth_in a t)) (s.node w.child.id)) pending moved
        perm in
        omega arith;
  }

  -- ---- the end

  -- nothing waits any more
  pub radius_at_end : (best : List ℕ) (radius : Option ℕ) → Searching hash a s [] best → IsRadius a.k best radius
      → (t : Tree) → s.tree ≡ Some t → IsRadius a.k (distances_on a (records t)) radius
  radius_at_end best None known kept t e =
      no_radius_of_all a.k (distances_on a (records t)) best kept (λ x. let all = known.found t e x in omega arith)
  radius_at_end best (Some r) known kept t e =
      radius_of_all a.k r (distances_on a (records t)) best (λ x. unseen a s x []) kept (known.found t e) refl

  pub fetched_so_far : (pending : List Waiting) (before now : ℕ) → Bounded hash a s pending before now
      → IfSome s.tree (λ t. now ≤ before + near_opened (by s.version hash) a t)
  fetched_so_far pending before now bounded =
      by_told s.tree (λ t. now ≤ before + near_opened (by s.version hash) a t) (λ t e. let few = bounded.few t e in
      omega arith)

  pub kth_found : {E : Type 0} (r : Result (Option ℕ) E) → 1 ≤ a.k
      → IfOk r (λ r. (t : Tree) → s.tree ≡ Some t → IsRadius a.k (distances_on a (records t)) r)
      → IfOk r (λ r. IfSome s.tree (λ t. r ≡ kth_in a t))
  kth_found (Err e) some known = tt
  kth_found (Ok r) some known =
      by_told s.tree (λ t. r ≡ kth_in a t)
      (λ t e. radius_is_kth a.k (distances_on a (records t)) r some (known t e))

  -- ---- the beginning

  pub searching_start : (queue : List Waiting) → IsStart hash a s queue → Searching hash a s queue []
  searching_start queue start = record {
    waits = start.waits;
    found = λ t e x. let all = start.all t e x in omega arith;
  }

  pub bounded_start : (queue : List Waiting) (fetches : ℕ) → IsStart hash a s queue
      → Bounded hash a s queue fetches fetches
  bounded_start queue fetches start = record { few = λ t e. let few = start.few t e in omega arith }

  -- the map has no root
  pub start_none : (top : Top) → IsTop hash s top → top.root ≡ None → IsStart hash a s []
  start_none top is none = record {
    waits = All-nil (IsWaitingChild hash a s);
    all = λ t e x. sym (ap (λ rs. below x (distances_on a rs)) (bare t e));
    few = λ t e. omega arith;
  }
    where
      no_records : (rs : List Record) → length rs ≡ 0 → rs ≡ []
      no_records [] e = refl
      no_records (r ∷ rs) e = absurd (omega arith)

      bare : (t : Tree) → s.tree ≡ Some t → records t ≡ []
      bare t e =
          let count = told_of s.tree (λ t. top.count ≡ length (records t)) is.count t e in
          let empty : top.count ≡ 0 = is.none.1 (subst IsNone (sym none) refl) in
          no_records (records t) (omega arith)

-- ---- one round after another

module _ (hash : List ℕ → List ℕ) (a : Around) (s : MapModel) (wells : IfSome s.tree (λ t. ∥ WellFormed t ∥₁))
    (ids : IfSome s.tree (HasIds s)) where
  unseen_far : (far x : ℕ) (pending : List Waiting) → IsSome s.tree
      → AllByRecursion (IsWaitingChild hash a s) pending
      → AllByRecursion (λ (w : Waiting). far ≤ w.far) pending → x ≤ far → unseen a s x pending ≡ 0
  unseen_far far x [] told waits above h = refl
  unseen_far far x (w ∷ ws) told waits above h =
      let near = above.0 in
      let apart = waits.0.far in
      let here = none_below hash a s w.child x wells ids told waits.0.may (omega arith) in
      let rest = unseen_far far x ws told waits.1 above.1 h in
      let first = sum_by-cons (λ (w : Waiting). below x (distances_at a (s.node w.child.id))) w ws in
      omega arith

  -- children without any of the layers have nothing to be seen
  unseen_none : (x : ℕ) (cs : List Child) → IsSome s.tree → AllByRecursion (MayFetch hash s) cs
      → AllByRecursion (λ (c : Child). has_layer a s.version c ≡ false
      → below x (distances_at a (s.node c.id)) ≡ 0) cs
  unseen_none x [] told may = tt
  unseen_none x (c ∷ cs) told may =
      ((λ f. none_unlayered hash a s c x wells ids told may.0 f), unseen_none x cs told may.1)

  unseen_of : (x : ℕ) (cs : List Child) → IsSome s.tree → AllByRecursion (MayFetch hash s) cs
      → unseen a s x (waiting_of a s.version cs)
      ≡ sum_by (λ (d : Child). below x (distances_at a (s.node d.id))) cs
  unseen_of x cs told may =
      waiting_same a s.version (λ (d : Child). below x (distances_at a (s.node d.id))) cs
      (unseen_none x cs told may)

  -- ---- one round

  pub visited : (next : Waiting) (rest pending : List Waiting) (n : Node) (best best_now : List ℕ)
      → Searching hash a s (next ∷ rest) best → ShowsNode hash s next.child n
      → ((x : ℕ) → min a.k (below x best_now) ≡ min a.k (below x best + below x (distances_on a (records_in n))))
      → IsPermutation (rest ++ waiting_of a s.version (children_in n)) pending
      → Searching hash a s pending best_now
  visited next rest pending n best best_now old shows least moved =
      let first = All-head (IsWaitingChild hash a s) next rest old.waits in
      let cs = children_in n in
      let may = recursion_from_All (MayFetch hash s) cs shows.children in
      record {
        waits = All-permutation (IsWaitingChild hash a s) _ pending moved
            (All-append (IsWaitingChild hash a s) rest _ (All-tail (IsWaitingChild hash a s) next rest old.waits)
            (All-from_recursion (IsWaitingChild hash a s) (waiting_of a s.version cs) (each_waits hash a s cs may)));
        found = λ t e x.
            let F : Waiting → ℕ = λ w. below x (distances_at a (s.node w.child.id)) in
            let all = old.found t e x in
            let cons = sum_by-cons F next rest in
            let here = below_at (by s.version hash) a s x (s.node next.child.id) next.child n (first.may.known (ap
            is_some e))
            shows.node in
            let perm = sum_by-IsPermutation F (rest ++ waiting_of a s.version cs) pending moved in
            let both = sum_by-append F rest (waiting_of a s.version cs) in
            let mapped = unseen_of x cs (ap is_some e) may in
            let kept = least x in
            omega arith;
      }

  module _ (next : Waiting) (rest : List Waiting) (best : List ℕ) (radius : Option ℕ)
      (known : Searching hash a s (next ∷ rest) best) (near : NoNearer next rest)
      (kept : IsRadius a.k best radius) where
    first : IsWaitingChild hash a s next
    first = All-head (IsWaitingChild hash a s) next rest known.waits

    none_unseen : IsSome s.tree → (x : ℕ) → x ≤ next.far → unseen a s x (next ∷ rest) ≡ 0
    none_unseen told x h =
        let le : next.far ≤ next.far = omega arith in
        unseen_far next.far x (next ∷ rest) told
        (recursion_from_All (IsWaitingChild hash a s) (next ∷ rest) known.waits) (le, near) h

    -- once the radius is reached, it is that of all
    pub radius_reached : IsReached radius next.far → (t : Tree) → s.tree ≡ Some t
        → IsRadius a.k (distances_on a (records t)) radius
    radius_reached reached t e = by_radius radius kept reached
      where
        by_radius : (radius : Option ℕ) → IsRadius a.k best radius → IsReached radius next.far
            → IsRadius a.k (distances_on a (records t)) radius
        by_radius None kept reached = absurd reached
        by_radius (Some r) kept reached =
            radius_of_all a.k r (distances_on a (records t)) best (λ x. unseen a s x (next ∷ rest)) kept
            (known.found t e) (none_unseen (ap is_some e) r reached)

    -- until then the nearest that waits lies within it
    lies_within : (IsReached radius next.far → ⊥) → (t : Tree) → s.tree ≡ Some t
        → (r : Option ℕ) → IsRadius a.k (distances_on a (records t)) r
        → is_within a.center r next.child.rect ≡ true
    lies_within not_yet t e None whole = refl
    lies_within not_yet t e (Some r) whole =
        let far = not_reached a.k next.far r (distances_on a (records t)) best (λ x. unseen a s x (next ∷ rest)) radius
        kept whole (known.found t e) (none_unseen (ap is_some e)) not_yet in
        let same = first.far in
        le-leb (least_squared_distance next.child.rect a.center) r (omega arith)

    is_near : (IsReached radius next.far → ⊥) → 1 ≤ a.k → (t : Tree) → s.tree ≡ Some t → IsNear a s next.child t
    is_near not_yet some t e =
        near_opens a s.version (kth_in a t) next.child
        (lies_within not_yet t e (kth_in a t) (kth_is_radius a.k (distances_on a (records t)) some)) first.layered

    pub fetched_near : (IsReached radius next.far → ⊥) → 1 ≤ a.k → IfSome s.tree (IsNear a s next.child)
    fetched_near not_yet some = by_told s.tree (IsNear a s next.child) (is_near not_yet some)

    pub bounded_visited : (IsReached radius next.far → ⊥) → 1 ≤ a.k → (n : Node) (pending : List Waiting)
        (before now after : ℕ) → ShowsNode hash s next.child n
        → IsPermutation (rest ++ waiting_of a s.version (children_in n)) pending → after ≡ next_count now
        → Bounded hash a s (next ∷ rest) before now → Bounded hash a s pending before after
    bounded_visited not_yet some n pending before now after shows moved one bounded = record {
      few = λ t e.
          let way = near_way a (kth_in a t) in
          let cs = children_in n in
          let F : Waiting → ℕ = λ w. opened_at (by s.version hash) way (s.node w.child.id) in
          let few = bounded.few t e in
          let here = opened_met_at (by s.version hash) way s (s.node next.child.id) next.child n
          (first.may.known (ap is_some e)) shows.node (is_near not_yet some t e) in
          let more = next_count-≤ now in
          let cons = sum_by-cons F next rest in
          let perm = sum_by-IsPermutation F (rest ++ waiting_of a s.version cs) pending moved in
          let both = sum_by-append F rest (waiting_of a s.version cs) in
          let fewer = waiting_few a s.version (λ (d : Child). opened_at (by s.version hash) way (s.node d.id)) cs in
          omega arith;
    }

    -- a fetch that failed was of a node within the radius
    pub bounded_spent : (IsReached radius next.far → ⊥) → 1 ≤ a.k → (before now after : ℕ)
        → after ≡ next_count now → Bounded hash a s (next ∷ rest) before now
        → Bounded hash a s [] before after
    bounded_spent not_yet some before now after one bounded = record {
      few = λ t e.
          let way = near_way a (kth_in a t) in
          let F : Waiting → ℕ = λ w. opened_at (by s.version hash) way (s.node w.child.id) in
          let few = bounded.few t e in
          let here = opened_one_at (by s.version hash) way (s.node next.child.id) next.child
          (first.may.known (ap is_some e)) (is_near not_yet some t e) in
          let more = next_count-≤ now in
          let cons = sum_by-cons F next rest in
          omega arith;
    }

  -- ---- the beginning of a map that has a root

  pub start_some : (top : Top) (c : Child) (queue : List Waiting) → IsTop hash s top → top.root ≡ Some c
      → IsPermutation (waiting_of a s.version (c ∷ [])) queue → IsStart hash a s queue
  unfolding distances_at opened_at
  start_some top c queue is root moved = record {
    waits = All-permutation (IsWaitingChild hash a s) waiting queue moved
        (All-from_recursion (IsWaitingChild hash a s) waiting (each_waits hash a s (c ∷ []) (may, tt)));
    all = λ t e x.
        let F : Waiting → ℕ = λ w. below x (distances_at a (s.node w.child.id)) in
        let G : Child → ℕ = λ d. below x (distances_at a (s.node d.id)) in
        let perm = sum_by-IsPermutation F waiting queue moved in
        let mapped = unseen_of x (c ∷ []) (ap is_some e) (may, tt) in
        let cons = sum_by-cons G c [] in
        let here : below x (distances_at a (s.node c.id)) ≡ below x (distances_on a (records t)) =
        ap (λ o. below x (distances_at a o)) (at t e) in
        omega arith;
    few = λ t e.
        let way = near_way a (kth_in a t) in
        let F : Waiting → ℕ = λ w. opened_at (by s.version hash) way (s.node w.child.id) in
        let G : Child → ℕ = λ d. opened_at (by s.version hash) way (s.node d.id) in
        let perm = sum_by-IsPermutation F waiting queue moved in
        let fewer = waiting_few a s.version G (c ∷ []) in
        let cons = sum_by-cons G c [] in
        let here : opened_at (by s.version hash) way (s.node c.id)
        ≡ opened_nodes (honest_cut (by s.version hash) way t) =
        ap (opened_at (by s.version hash) way) (at t e) in
        let all = something (records t) (opened_nodes (honest_cut (by s.version hash) way t)) (some t e) in
        omega arith;
  }
    where
      waiting : List Waiting
      waiting = waiting_of a s.version (c ∷ [])

      may : MayFetch hash s c
      may = subst (λ (o : Option Child). IfSome o (MayFetch hash s)) root is.root

      at : (t : Tree) → s.tree ≡ Some t → s.node c.id ≡ Some t
      at t e =
          sym (ap (tree_under s) root) ∙ told_of s.tree (λ t. tree_under s top.root ≡ Some t) is.tree t e

      some : (t : Tree) → s.tree ≡ Some t → length (records t) ≡ 0 → ⊥
      some t e z =
          let count = told_of s.tree (λ t. top.count ≡ length (records t)) is.count t e in
          let none = is.none.0 (omega arith) in
          cc

      something : (rs : List Record) (n : ℕ) → (length rs ≡ 0 → ⊥) → cond (length rs == 0) 0 n ≡ n
      something [] n full = absurd (full refl)
      something (x ∷ rs) n full = ap (λ b. cond b 0 n) (eqb-suc-zero (length rs))
