-- How many nodes a walk over a map fetches: each node of the tree once.
use Rattle.std.proofs.Common.{◌≡◌, ℕ, ◌+◌, ◌<◌, ◌≤◌, List, [], ◌∷◌, map, length, get_or, take, refl, sym, ap, subst, ◌∙◌, arith}
use Rattle.std.specs.Prelude.{Option, Some, None, IfSome, IsSome, IsSomeAnd}
use Rattle.std.specs.List.{flat_map, sum_by}
use Rattle.std.proofs.lemmas.List.{length-append, length-map}
use Rattle.std.proofs.lemmas.List.Concat.{length-flat_map}
use Rattle.std.proofs.lemmas.List.Sums.{sum_by-cons, sum_by_more, sum_by-take-le}
use Rattle.mr_geom.specs.Rectangle.{Rectangle}
use Rattle.mr_outside.specs.Faults.{next_count}
use Rattle.mr_tree.specs.Tree.{rect}
use Rattle.mr_tree.specs.Digest.{Scheme, by, entry}
use Rattle.mr_tree.specs.View.{Node, children_in, child_entry}
use Rattle.mr_tree.specs.Nodes.{MapModel, IsNodeOf, MayFetch, ShowsNode, subtrees}
use Rattle.mr_tree.specs.declared.child.Child.{Child}
use Rattle.mr_tree.specs.declared.entry.Entry.{Entry}
use Rattle.mr_tree.specs.declared.tree.Tree.{Tree}
use Rattle.mr_tree.specs.declared.tree.Tree.TheVariants as tree
use Rattle.mr_tree.specs.declared.tree.Tree.TheOpen.{Empty, Leaf, Inner}
use Rattle.mr_tree.proofs.Equations.{entry_rect, rect-Empty}
use Rattle.mr_tree.proofs.Induction.{tree_induction}
use Rattle.mr_tree.proofs.Subtrees.{subtrees-Leaf, subtrees-Inner}
use Rattle.mr_tree.specs.Snapshot.{IsSnapshot, tree_of, tree_over, trees}
use Rattle.mr_tree.specs.declared.nodes.Top.{Top}
use Rattle.mr_tree.specs.declared.stored.Stored.{Stored}
use Rattle.mr_store.specs.private.Walk.{nodes_at, nodes_in}
use Rattle.mr_store.proofs.Walks.{some_of, next_count-≤}

sum_by_map : {X Y : Type 0} (f : Y → ℕ) (g : X → Y) (xs : List X) → sum_by f (map g xs) ≡ sum_by (λ x. f (g x)) xs
sum_by_map f g [] = refl
sum_by_map f g (x ∷ xs) =
    sum_by-cons f (g x) (map g xs) ∙ ap (λ n. f (g x) + n) (sum_by_map f g xs)
    ∙ sym (sum_by-cons (λ y. f (g y)) x xs)

sum_by_along : {X Y Z : Type 0} (f : Z → ℕ) (g : X → Z) (h : Y → Z) (xs : List X) (ys : List Y) →
    map g xs ≡ map h ys → sum_by (λ x. f (g x)) xs ≡ sum_by (λ y. f (h y)) ys
sum_by_along f g h xs ys e = sym (sum_by_map f g xs) ∙ ap (sum_by f) e ∙ sum_by_map f h ys

-- ---- how many nodes a tree has

-- itself, and those below it
counted : (s : MapModel) (t : Tree) (n : Node) → IsNodeOf s t n →
    length (subtrees t) ≡ 1 + nodes_in s (children_in n)
unfolding nodes_at
counted s t Empty is = absurd is
counted s t (Leaf rs) is = ap (λ u. length (subtrees u)) is ∙ ap length (subtrees-Leaf rs)
counted s t (Inner cs) is =
    let all = ap (λ u. length (subtrees u)) is.1 ∙ ap length (subtrees-Inner is.0) in
    let both = length-append (flat_map subtrees is.0) (tree.Inner is.0 ∷ []) in
    let below = length-flat_map subtrees is.0
    ∙ sym (sum_by_along nodes_at (λ (d : Child). s.node d.id) Some cs is.0 is.2) in
    omega (arith, all, both, below)

counted_at : (s : MapModel) (o : Option Tree) (n : Node) → IsSome o → IfSome o (λ t. IsNodeOf s t n) →
    nodes_at o ≡ 1 + nodes_in s (children_in n)
unfolding nodes_at
counted_at s None n some node = let none : IsSome {T = Tree} None = some in cc
counted_at s (Some t) n some node = counted s t n node

some_nodes : (t : Tree) (r : Rectangle) → rect t ≡ Some r → 1 ≤ length (subtrees t)
some_nodes = tree_induction (λ t. (r : Rectangle) → rect t ≡ Some r → 1 ≤ length (subtrees t))
    (λ r e. let none : ◌≡◌ {A = Option Rectangle} None (Some r) = sym rect-Empty ∙ e in absurd cc)
    (λ rs r e. omega (arith, ap length (subtrees-Leaf rs)))
    (λ ts below r e.
    let all = ap length (subtrees-Inner ts) in
    let both = length-append (flat_map subtrees ts) (tree.Inner ts ∷ []) in
    omega (arith, all, both))

-- a tree of which a child is the entry
one_at : (scheme : Scheme) (o : Option Tree) (c : Child) → IsSomeAnd o (λ t. child_entry c ≡ entry scheme t) →
    1 ≤ nodes_at o
unfolding nodes_at
one_at scheme None c e = absurd e
one_at scheme (Some t) c e =
    some_nodes t c.rect (sym (entry_rect scheme t) ∙ ap (λ (x : Entry). x.rect) (sym e))

-- ---- how many of them were fetched

module _ (hash : List ℕ → List ℕ) (s : MapModel) (c : Child) (may : MayFetch hash s c) (told : IsSome s.tree) where
  -- the node itself
  pub one_fetch : (before now : ℕ) → now ≡ next_count before → now ≤ before + nodes_at (s.node c.id)
  one_fetch before now e =
      let one = one_at (by s.version hash) (s.node c.id) c (may.known told) in
      let more = next_count-≤ before in
      omega arith

  module _ (children cs : List Child) (are : cs ≡ children) (shows : ShowsNode hash s c (Inner children)) where
    -- and those below some of its children
    pub some_fetches : (i before now : ℕ) → now ≤ next_count before + nodes_in s (take i cs) →
        now ≤ before + nodes_at (s.node c.id)
    some_fetches i before now few =
        let all = counted_at s (s.node c.id) (Inner children) (some_of (s.node c.id) _ (may.known told)) shows.node in
        let same : nodes_in s cs ≡ nodes_in s children = ap (nodes_in s) are in
        let more = next_count-≤ before in
        let part = sum_by-take-le (λ (d : Child). nodes_at (s.node d.id)) cs i in
        omega arith

-- those below one child more
pub fetched_more : (s s' : MapModel) (cs : List Child) (i : ℕ) (d : Child) (old between new : ℕ) → s' ≡ s →
    d ≡ get_or cs i d → i < length cs → between ≤ old + nodes_in s (take i cs) →
    (IsSome s'.tree → new ≤ between + nodes_at (s'.node d.id)) → IsSome s.tree →
    new ≤ old + nodes_in s (take (i + 1) cs)
fetched_more s s' cs i d old between new stands is within a b told =
    let f : Child → ℕ = λ d. nodes_at (s.node d.id) in
    let more = sum_by_more f cs i d within in
    let same : f d ≡ f (get_or cs i d) = ap f is in
    let next : new ≤ between + f d =
    subst (λ (x : MapModel). IsSome x.tree → new ≤ between + nodes_at (x.node d.id)) stands b told in
    omega arith

-- the nodes of a map in memory are those of its tree
pub nodes_listed : (hash : List ℕ → List ℕ) (ns : List Stored) (top : Top) → IsSnapshot hash ns top
    → length (subtrees (tree_of ns top)) ≡ length ns
nodes_listed hash ns top is =
    sym (ap length is.whole) ∙ sym (ap length is.linked.over) ∙ length-map ns (tree_over (trees ns))
