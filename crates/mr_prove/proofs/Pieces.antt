-- The part of a node, by the node that a fetch shows and the parts of its children.
use Rattle.std.proofs.Common.{◌≡◌, ℕ, ◌+◌, ◌≤◌, Bool, true, false, List, [], ◌∷◌, ◌++◌, map, length, append-nil, refl, sym, ap, ◌∙◌, arith}
use Rattle.std.specs.Prelude.{Option, Some, None, IfSome, IsSomeAnd, option_map}
use Rattle.std.specs.List.{flat_map, sum_by}
use Rattle.std.proofs.lemmas.List.{length-map}
use Rattle.std.proofs.lemmas.List.Sums.{sum_by-cons}
use Rattle.mr_geom.specs.Rectangle.{Rectangle}
use Rattle.mr_record.specs.declared.record.Record.{Record}
use Rattle.mr_tree.specs.Tree.{rect, mask}
use Rattle.mr_tree.specs.Digest.{Scheme, entry}
use Rattle.mr_tree.specs.View.{Node, children_in, child_entry}
use Rattle.mr_tree.specs.Nodes.{MapModel, IsNodeOf}
use Rattle.mr_tree.specs.declared.child.Child.{Child}
use Rattle.mr_tree.specs.declared.entry.Entry.{Entry}
use Rattle.mr_tree.specs.declared.tree.Tree.{Tree}
use Rattle.mr_tree.specs.declared.tree.Tree.TheVariants as tree
use Rattle.mr_tree.specs.declared.tree.Tree.TheOpen as node
use Rattle.mr_tree.specs.declared.tree.Tree.TheViews.{out-Tree}
use Rattle.mr_tree.proofs.Equations.{entry_rect, entry_mask, rect-Empty}
use Rattle.mr_tree.proofs.Induction.{tree_induction}
use Rattle.mr_proof.specs.Fields.{inner_tag}
use Rattle.mr_proof.specs.Cut.{Leaf, Inner, pruned_cut, number_of_cuts, opened_nodes, all_opened}
use Rattle.mr_proof.specs.Spelling.{cut_bytes, cuts_bytes}
use Rattle.mr_proof.specs.declared.way.Way.{Way}
use Rattle.mr_query.specs.declared.key.Key.{Key}
use Rattle.mr_proof.specs.Tight.{key_at, opens_seen, opens_at}
use Rattle.mr_proof.specs.Honest.{honest_cut}
use Rattle.mr_proof.proofs.HonestCut.{meets, key_in, honest_cuts, honest_missed, honest_met}
use Rattle.mr_prove.specs.private.Parts.{child_key, node_bytes, part_at, opened_at, child_parts, opened_in}

-- ---- lists that are made of others

flat_map_map : {X Y A : Type 0} (f : Y → List A) (g : X → Y) (xs : List X)
    → flat_map f (map g xs) ≡ flat_map (λ x. f (g x)) xs
flat_map_map f g [] = refl
flat_map_map f g (x ∷ xs) = ap (λ ys. f (g x) ++ ys) (flat_map_map f g xs)

pub sum_by_map : {X Y : Type 0} (f : Y → ℕ) (g : X → Y) (xs : List X) → sum_by f (map g xs) ≡ sum_by (λ x. f (g x)) xs
sum_by_map f g [] = refl
sum_by_map f g (x ∷ xs) =
    sum_by-cons f (g x) (map g xs) ∙ ap (λ n. f (g x) + n) (sum_by_map f g xs)
    ∙ sym (sum_by-cons (λ y. f (g y)) x xs)

flat_map_along : {X Y Z A : Type 0} (f : Z → List A) (g : X → Z) (h : Y → Z) (xs : List X) (ys : List Y)
    → map g xs ≡ map h ys → flat_map (λ x. f (g x)) xs ≡ flat_map (λ y. f (h y)) ys
flat_map_along f g h xs ys e = sym (flat_map_map f g xs) ∙ ap (flat_map f) e ∙ flat_map_map f h ys

pub sum_by_along : {X Y Z : Type 0} (f : Z → ℕ) (g : X → Z) (h : Y → Z) (xs : List X) (ys : List Y)
    → map g xs ≡ map h ys → sum_by (λ x. f (g x)) xs ≡ sum_by (λ y. f (h y)) ys
sum_by_along f g h xs ys e = sym (sum_by_map f g xs) ∙ ap (sum_by f) e ∙ sum_by_map f h ys

-- ---- a tree of which the child is the entry

rect_is : (scheme : Scheme) (t : Tree) (c : Child) → child_entry c ≡ entry scheme t → rect t ≡ Some c.rect
rect_is scheme t c e = sym (entry_rect scheme t) ∙ ap (λ (x : Entry). x.rect) (sym e)

pub mask_is : (scheme : Scheme) (t : Tree) (c : Child) → child_entry c ≡ entry scheme t
    → mask scheme.version t ≡ c.mask
mask_is scheme t c e = sym (entry_mask scheme t) ∙ ap (λ (x : Entry). x.mask) (sym e)

module _ (scheme : Scheme) (way : Key → Way) where
  -- ---- the honest cuts of some trees

  count_cuts : (ts : List Tree) → number_of_cuts (honest_cuts scheme way ts) ≡ length ts
  count_cuts [] = refl
  count_cuts (t ∷ ts) = let rest = count_cuts ts in omega arith

  bytes_of_cuts : (ts : List Tree)
      → cuts_bytes scheme.version (honest_cuts scheme way ts)
      ≡ flat_map (λ t. cut_bytes scheme.version (honest_cut scheme way t)) ts
  bytes_of_cuts [] = refl
  bytes_of_cuts (t ∷ ts) =
      ap (λ xs. cut_bytes scheme.version (honest_cut scheme way t) ++ xs) (bytes_of_cuts ts)

  opened_of_cuts : (ts : List Tree)
      → all_opened (honest_cuts scheme way ts) ≡ sum_by (λ t. opened_nodes (honest_cut scheme way t)) ts
  opened_of_cuts [] = refl
  opened_of_cuts (t ∷ ts) =
      ap (λ n. opened_nodes (honest_cut scheme way t) + n) (opened_of_cuts ts)
      ∙ sym (sum_by-cons (λ t. opened_nodes (honest_cut scheme way t)) t ts)

  -- ---- a tree of which the child is the entry, opened or pruned

  -- whether the child's node is opened
  abbrev opens : Child → Bool
  opens c = opens_at way (child_key scheme.version c)

  key_is : (t : Tree) (c : Child) → child_entry c ≡ entry scheme t
      → key_in scheme.version t ≡ Some (child_key scheme.version c)
  key_is t c e = λ i. option_map (key_at scheme.version (mask_is scheme t c e i)) (rect_is scheme t c e i)

  meets_is : (t : Tree) (c : Child) (b : Bool) → child_entry c ≡ entry scheme t → opens c ≡ b
      → meets scheme.version way t ≡ b
  meets_is t c b e f = ap (opens_seen way) (key_is t c e) ∙ f

  cut_missed : (t : Tree) (c : Child) → child_entry c ≡ entry scheme t → opens c ≡ false
      → honest_cut scheme way t ≡ pruned_cut (child_entry c)
  cut_missed t c e f =
      honest_missed scheme way t (meets_is t c false e f) ∙ ap pruned_cut (sym e)

  pub missed_at : (o : Option Tree) (c : Child) → IsSomeAnd o (λ t. child_entry c ≡ entry scheme t)
      → opens c ≡ false
      → part_at scheme way o ≡ cut_bytes scheme.version (pruned_cut (child_entry c))
  unfolding part_at
  missed_at None c e f = absurd e
  missed_at (Some t) c e f = ap (cut_bytes scheme.version) (cut_missed t c e f)

  pub cut_leaf : (t : Tree) (rs : List Record) → t ≡ tree.Leaf rs → meets scheme.version way t ≡ true
      → honest_cut scheme way t ≡ Leaf rs
  cut_leaf t rs e m = honest_met scheme way t (node.Leaf rs) (ap out-Tree e ∙ tree.outs-Leaf rs) m

  pub cut_inner : (t : Tree) (ts : List Tree) → t ≡ tree.Inner ts → meets scheme.version way t ≡ true
      → honest_cut scheme way t ≡ Inner (honest_cuts scheme way ts)
  cut_inner t ts e m = honest_met scheme way t (node.Inner ts) (ap out-Tree e ∙ tree.outs-Inner ts) m

  same_length : (s : MapModel) (cs : List Child) (ts : List Tree)
      → map (λ (d : Child). s.node d.id) cs ≡ map Some ts → length ts ≡ length cs
  same_length s cs ts e =
      sym (length-map ts Some) ∙ sym (ap length e) ∙ length-map cs (λ (d : Child). s.node d.id)

  bytes_met : (s : MapModel) (t : Tree) (n : Node) → IsNodeOf s t n → meets scheme.version way t ≡ true
      → cut_bytes scheme.version (honest_cut scheme way t)
      ≡ node_bytes scheme.version n ++ child_parts scheme way s (children_in n)
  unfolding part_at
  bytes_met s t node.Empty is m = absurd is
  bytes_met s t (node.Leaf rs) is m =
      ap (cut_bytes scheme.version) (cut_leaf t rs is m) ∙ sym (append-nil (cut_bytes scheme.version (Leaf rs)))
  bytes_met s t (node.Inner cs) is m =
      ap (cut_bytes scheme.version) (cut_inner t is.0 is.1 m)
      ∙ (λ i. inner_tag ∷ (count_cuts is.0 ∙ same_length s cs is.0 is.2) i ∷ (bytes_of_cuts is.0
      ∙ sym (flat_map_along (part_at scheme way) (λ (d : Child). s.node d.id) Some cs is.0 is.2)) i)

  pub met_at : (s : MapModel) (o : Option Tree) (c : Child) (n : Node)
      → IsSomeAnd o (λ t. child_entry c ≡ entry scheme t) → IfSome o (λ t. IsNodeOf s t n)
      → opens c ≡ true
      → part_at scheme way o
      ≡ node_bytes scheme.version n ++ child_parts scheme way s (children_in n)
  unfolding part_at
  met_at s None c n e is m = absurd e
  met_at s (Some t) c n e is m = bytes_met s t n is (meets_is t c true e m)

  -- ---- the number of opened nodes

  opened_met : (s : MapModel) (t : Tree) (n : Node) → IsNodeOf s t n → meets scheme.version way t ≡ true
      → opened_nodes (honest_cut scheme way t)
      ≡ 1 + opened_in scheme way s (children_in n)
  unfolding opened_at
  opened_met s t node.Empty is m = absurd is
  opened_met s t (node.Leaf rs) is m = ap opened_nodes (cut_leaf t rs is m)
  opened_met s t (node.Inner cs) is m =
      let all = ap opened_nodes (cut_inner t is.0 is.1 m) in
      let same = opened_of_cuts is.0
      ∙ sym (sum_by_along (opened_at scheme way) (λ (d : Child). s.node d.id) Some cs is.0 is.2) in
      omega (arith, all, same)

  pub opened_met_at : (s : MapModel) (o : Option Tree) (c : Child) (n : Node)
      → IsSomeAnd o (λ t. child_entry c ≡ entry scheme t) → IfSome o (λ t. IsNodeOf s t n)
      → opens c ≡ true
      → opened_at scheme way o
      ≡ 1 + opened_in scheme way s (children_in n)
  unfolding opened_at
  opened_met_at s None c n e is m = absurd e
  opened_met_at s (Some t) c n e is m = opened_met s t n is (meets_is t c true e m)

  -- a tree that the region meets has a node
  opened_some : (t : Tree) → (r : Rectangle) → rect t ≡ Some r → meets scheme.version way t ≡ true
      → 1 ≤ opened_nodes (honest_cut scheme way t)
  opened_some = tree_induction (λ t. (r : Rectangle) → rect t ≡ Some r → meets scheme.version way t ≡ true
      → 1 ≤ opened_nodes (honest_cut scheme way t))
      (λ r e m. let none : ◌≡◌ {A = Option Rectangle} None (Some r) = sym rect-Empty ∙ e in absurd cc)
      (λ rs r e m. let one = ap opened_nodes (cut_leaf (tree.Leaf rs) rs refl m) in omega (arith, one))
      (λ ts below r e m. let more = ap opened_nodes (cut_inner (tree.Inner ts) ts refl m) in omega (arith, more))

  pub opened_one_at : (o : Option Tree) (c : Child) → IsSomeAnd o (λ t. child_entry c ≡ entry scheme t)
      → opens c ≡ true → 1 ≤ opened_at scheme way o
  unfolding opened_at
  opened_one_at None c e m = absurd e
  opened_one_at (Some t) c e m = opened_some t c.rect (rect_is scheme t c e) (meets_is t c true e m)
