-- The whole proof is the head, and the part of the root node where there is one.
use Rattle.std.proofs.Common.{◌≡◌, ◌≢◌, ℕ, ◌+◌, ◌*◌, ◌≤◌, List, [], ◌++◌, length, append-nil, refl, sym, ap, subst, ◌∙◌, arith}
use Rattle.std.specs.Prelude.{Option, Some, None, IsSome, IsNone, IfSome, IsSomeAnd, Result, Ok, Err, OnOk, OnErr}
use Rattle.mr_outside.specs.State.{Sunk}
use Rattle.mr_outside.specs.Told.{TakesBytes, TakesFront}
use Rattle.mr_outside.proofs.Taking.{TakesBytes-none, TakesBytes-append}
use Rattle.mr_tree.specs.Tree.{level, records}
use Rattle.mr_tree.specs.Digest.{Scheme, by, entry}
use Rattle.mr_tree.specs.View.{child_entry}
use Rattle.mr_tree.specs.Nodes.{MapModel, MayFetch, IsTop, tree_under, root_entry}
use Rattle.mr_tree.specs.declared.child.Child.{Child}
use Rattle.mr_tree.specs.declared.entry.Entry.{Entry}
use Rattle.mr_tree.specs.declared.nodes.Top.{Top}
use Rattle.mr_tree.specs.declared.tree.Tree.{Tree}
use Rattle.mr_tree.specs.declared.tree.Tree.TheVariants as tree
use Rattle.mr_tree.proofs.Equations.{entry_level, level-Empty, records-Empty}
use Rattle.mr_record.specs.declared.version.Version.{Version}
use Rattle.mr_record.specs.declared.version.Version.TheVariants.{One, Two}
use Rattle.mr_query.specs.Word.{asks}
use Rattle.mr_query.specs.declared.query.Query.{Query}
use Rattle.mr_query.specs.declared.query.Shape.{Shape}
use Rattle.mr_query.specs.declared.query.Shape.TheVariants.{Window, Nearest}
use Rattle.mr_proof.specs.declared.question.Around.{Around}
use Rattle.mr_proof.specs.declared.head.Head.{Head}
use Rattle.mr_proof.specs.Cut.{Cut}
use Rattle.mr_proof.specs.Spelling.{FitsRadius, FitsVersion, head_bytes, part_bytes}
use Rattle.mr_proof.specs.Tight.{Question, MayCome, question, radius_by, kind_of_shape, around_in}
use Rattle.mr_proof.specs.declared.head.Kind.{Kind}
use Rattle.mr_proof.specs.declared.head.Kind.TheVariants as kind
use Rattle.mr_proof.specs.Honest.{honest_cut, honest_head, honest_part, proof_for, proof, opened_of, opened_for, opened}
use Rattle.mr_proof.proofs.HonestCut.{some_part as some_there, no_part as none_there}
use Rattle.mr_prove.specs.Causes.{rounds}
use Rattle.mr_prove.specs.declared.error.ProveErr.{ProveErr}
use Rattle.mr_prove.specs.private.Search.{farthest, kth_in}
use Rattle.mr_prove.specs.private.Parts.{part_at, opened_at, head_by, proof_at, all_opened_at, IsRight}
use Rattle.mr_prove.proofs.Steps.{front_first, front_second}

-- ---- a map whose tree is told

-- what is known of the root by its entry
level_of_root : (scheme : Scheme) (o : Option Tree) (t : Tree) (c : Child)
    → IsSomeAnd o (λ t. child_entry c ≡ entry scheme t) → o ≡ Some t → c.level ≡ level t
level_of_root scheme None t c k e = cc
level_of_root scheme (Some u) t c k e =
    let same : u ≡ t = cc in
    ap (λ (x : Entry). x.level) k ∙ entry_level scheme u ∙ ap level same

head_with : (hash : List ℕ → List ℕ) (s : MapModel) (t : Tree) (top : Top) (q : Question) (r : Option ℕ)
    → top.version ≡ s.version → top.batch ≡ s.batch → top.count ≡ length (records t)
    → r ≡ radius_by q.around (records t) → (root_entry top.root).level ≡ level t
    → honest_head (by s.version hash) q t s.batch ≡ head_by top q r
head_with hash s t top q r v b n e l = λ i. record {
  version = sym v i;
  kind = q.kind;
  batch = sym b i;
  count = sym n i;
  radius = sym e i;
  level = sym l i;
}

-- the proof by its cut
proof_by : (scheme : Scheme) (batch : ℕ) (t : Tree) (top : Top) (q : Question) (r : Option ℕ) (P : Option Cut)
    → honest_head scheme q t batch ≡ head_by top q r → honest_part scheme q t ≡ P
    → proof_for scheme q t batch ≡ head_bytes (head_by top q r) ++ part_bytes scheme.version P
proof_by scheme batch t top q r P h p = λ i. head_bytes (h i) ++ part_bytes scheme.version (p i)

no_part : (scheme : Scheme) (q : Question) (t : Tree) → t ≡ tree.Empty → honest_part scheme q t ≡ None
no_part scheme q t e =
    let none : length (records t) ≡ 0 = ap length (ap records e ∙ records-Empty) in
    none_there scheme q t none

some_part : (scheme : Scheme) (q : Question) (r : Option ℕ) (t : Tree) → r ≡ radius_by q.around (records t)
    → length (records t) ≢ 0 → honest_part scheme q t ≡ Some (honest_cut scheme (q.way r) t)
some_part scheme q r t e some =
    some_there scheme q t (omega arith)
    ∙ ap (λ (o : Option ℕ). Some (honest_cut scheme (q.way o) t)) (sym e)

told_tree : (o : Option Tree) → IsSome o → (t : Tree) × (o ≡ Some t)
told_tree None told = cc
told_tree (Some t) told = (t, refl)

same_tree : (t u : Tree) → ◌≡◌ {A = Option Tree} (Some t) (Some u) → u ≡ t
same_tree t u e = cc

not_none : (c : Child) → IsNone (Some c) → ⊥
not_none c n = cc

-- what is said of a map with a root node
record Rooted (hash : List ℕ → List ℕ) (s : MapModel) (top : Top) (c : Child) (q : Question)
    (r : Option ℕ) : Type 0 where
  tree : Tree
  is : s.tree ≡ Some tree
  node : s.node c.id ≡ Some tree
  head : honest_head (by s.version hash) q tree s.batch ≡ head_by top q r
  part : honest_part (by s.version hash) q tree ≡ Some (honest_cut (by s.version hash) (q.way r) tree)

rooted : (hash : List ℕ → List ℕ) (s : MapModel) (top : Top) (c : Child) (q : Question) (r : Option ℕ)
    → IsTop hash s top → IsRight q s r → top.root ≡ Some c → IsSome s.tree → Rooted hash s top c q r
rooted hash s top c q r is right root told =
    let x = told_tree s.tree told in
    let count : top.count ≡ length (records x.0) =
    subst (λ (o : Option Tree). IfSome o (λ t. top.count ≡ length (records t))) x.1 is.count in
    let at : s.node c.id ≡ Some x.0 =
    ap (tree_under s) (sym root) ∙ subst (λ (o : Option Tree). IfSome o (λ t. tree_under s top.root ≡ Some t)) x.1
    is.tree in
    let may : MayFetch hash s c = subst (λ (o : Option Child). IfSome o (MayFetch hash s)) root is.root in
    let high : (root_entry top.root).level ≡ level x.0 =
    ap (λ o. (root_entry o).level) root ∙ level_of_root (by s.version hash) (s.node c.id) x.0 c (may.known told) at in
    let own : r ≡ radius_by q.around (records x.0) =
    subst (λ (o : Option Tree). IfSome o (λ t. r ≡ radius_by q.around (records t))) x.1 right in
    let some : length (records x.0) ≢ 0 =
    λ z. not_none c (subst (λ (o : Option Child). IsNone o) root (is.none.0 (count ∙ z))) in
    record {
      tree = x.0;
      is = x.1;
      node = at;
      head = head_with hash s x.0 top q r is.version is.batch count own high;
      part = some_part (by s.version hash) q r x.0 own some;
    }

pub proof_of_root : (hash : List ℕ → List ℕ) (s : MapModel) (top : Top) (c : Child) (q : Question) (r : Option ℕ)
    → IsTop hash s top → IsRight q s r → top.root ≡ Some c → IsSome s.tree
    → proof_at (by s.version hash) s.batch q s.tree
    ≡ head_bytes (head_by top q r) ++ part_at (by s.version hash) (q.way r) (s.node c.id)
unfolding proof_at part_at
proof_of_root hash s top c q r is right root told =
    let x = rooted hash s top c q r is right root told in
    ap (proof_at (by s.version hash) s.batch q) x.is
    ∙ proof_by (by s.version hash) s.batch x.tree top q r (Some (honest_cut (by s.version hash) (q.way r) x.tree))
    x.head x.part
    ∙ sym (ap (λ (o : Option Tree). head_bytes (head_by top q r) ++ part_at (by s.version hash) (q.way r) o)
    x.node)

pub opened_of_root : (hash : List ℕ → List ℕ) (s : MapModel) (top : Top) (c : Child) (q : Question) (r : Option ℕ)
    → IsTop hash s top → IsRight q s r → top.root ≡ Some c → IsSome s.tree
    → all_opened_at (by s.version hash) q s.tree ≡ opened_at (by s.version hash) (q.way r) (s.node c.id)
unfolding all_opened_at opened_at
opened_of_root hash s top c q r is right root told =
    let x = rooted hash s top c q r is right root told in
    ap (all_opened_at (by s.version hash) q) x.is ∙ ap opened_of x.part
    ∙ sym (ap (opened_at (by s.version hash) (q.way r)) x.node)

pub proof_of_empty : (hash : List ℕ → List ℕ) (s : MapModel) (top : Top) (q : Question) (r : Option ℕ)
    → IsTop hash s top → IsRight q s r → top.root ≡ None → IsSome s.tree
    → proof_at (by s.version hash) s.batch q s.tree ≡ head_bytes (head_by top q r)
unfolding proof_at
proof_of_empty hash s top q r is right root told =
    let x = told_tree s.tree told in
    let count : top.count ≡ length (records x.0) =
    subst (λ (o : Option Tree). IfSome o (λ t. top.count ≡ length (records t))) x.1 is.count in
    let at : Some tree.Empty ≡ Some x.0 =
    ap (tree_under s) (sym root) ∙ subst (λ (o : Option Tree). IfSome o (λ t. tree_under s top.root ≡ Some t)) x.1
    is.tree in
    let own : r ≡ radius_by q.around (records x.0) =
    subst (λ (o : Option Tree). IfSome o (λ t. r ≡ radius_by q.around (records t))) x.1 right in
    let empty : x.0 ≡ tree.Empty = same_tree tree.Empty x.0 at in
    let flat : (root_entry top.root).level ≡ level x.0 = ap (λ o. (root_entry o).level) root
    ∙ sym (ap level empty ∙ level-Empty) in
    ap (proof_at (by s.version hash) s.batch q) x.1
    ∙ proof_by (by s.version hash) s.batch x.0 top q r None
    (head_with hash s x.0 top q r is.version is.batch count own flat)
    (no_part (by s.version hash) q x.0 empty)
    ∙ append-nil (head_bytes (head_by top q r))

-- ---- what was written

-- of a map with a root node, where this head was written
module _ (hash : List ℕ → List ℕ) (s : MapModel) (top : Top) (c : Child) (q : Question) (r : Option ℕ) (h : Head)
    (is : IsTop hash s top) (right : IsRight q s r) (root : top.root ≡ Some c) (e : h ≡ head_by top q r) where
  abbrev here : List ℕ
  here = part_at (by s.version hash) (q.way h.radius) (s.node c.id)

  written_is : IsSome s.tree → head_bytes h ++ here ≡ proof_at (by s.version hash) s.batch q s.tree
  written_is told =
      ap (λ (h : Head). head_bytes h ++ part_at (by s.version hash) (q.way h.radius) (s.node c.id)) e
      ∙ sym (proof_of_root hash s top c q r is right root told)

  pub whole_with_root : (from mid to : Sunk) → TakesBytes from mid (head_bytes h)
      → (IsSome s.tree → TakesBytes mid to here)
      → IsSome s.tree → TakesBytes from to (proof_at (by s.version hash) s.batch q s.tree)
  whole_with_root from mid to first rest told =
      subst (TakesBytes from to) (written_is told)
      (TakesBytes-append from mid to (head_bytes h) here first (rest told))

  pub front_with_root : (from mid to : Sunk) → TakesBytes from mid (head_bytes h)
      → (IsSome s.tree → TakesFront mid to here)
      → IsSome s.tree → TakesFront from to (proof_at (by s.version hash) s.batch q s.tree)
  front_with_root from mid to first rest told =
      subst (TakesFront from to) (written_is told)
      (front_second from mid to (head_bytes h) here first (rest told))

  pub fetched_with_root : (before now : ℕ)
      → (IsSome s.tree → now ≤ before + opened_at (by s.version hash) (q.way h.radius) (s.node c.id))
      → IsSome s.tree → now ≤ before + all_opened_at (by s.version hash) q s.tree
  fetched_with_root before now few told =
      let all = opened_of_root hash s top c q r is right root told in
      let same : opened_at (by s.version hash) (q.way h.radius) (s.node c.id)
      ≡ opened_at (by s.version hash) (q.way r) (s.node c.id) =
      ap (λ (h : Head). opened_at (by s.version hash) (q.way h.radius) (s.node c.id)) e in
      let most = few told in
      omega (arith, all, same, most)

pub whole_of_empty : (hash : List ℕ → List ℕ) (s : MapModel) (top : Top) (q : Question) (r : Option ℕ) (h : Head) (from
    to : Sunk)
    → IsTop hash s top → IsRight q s r → top.root ≡ None → h ≡ head_by top q r → TakesBytes from to (head_bytes h)
    → IsSome s.tree → TakesBytes from to (proof_at (by s.version hash) s.batch q s.tree)
whole_of_empty hash s top q r h from to is right root e all told =
    subst (TakesBytes from to) (sym (proof_of_empty hash s top q r is right root told))
    (subst (λ (h : Head). TakesBytes from to (head_bytes h)) e all)

front_by : (hash : List ℕ → List ℕ) (s : MapModel) (top : Top) (q : Question) (r : Option ℕ) (from to : Sunk)
    (o : Option Child) → top.root ≡ o → IsTop hash s top → IsRight q s r → IsSome s.tree
    → TakesFront from to (head_bytes (head_by top q r))
    → TakesFront from to (proof_at (by s.version hash) s.batch q s.tree)
front_by hash s top q r from to None root is right told front =
    subst (TakesFront from to) (sym (proof_of_empty hash s top q r is right root told)) front
front_by hash s top q r from to (Some c) root is right told front =
    subst (TakesFront from to) (sym (proof_of_root hash s top c q r is right root told))
    (front_first from to (head_bytes (head_by top q r)) (part_at (by s.version hash) (q.way r) (s.node
    c.id)) front)

pub front_of_head : (hash : List ℕ → List ℕ) (s : MapModel) (top : Top) (q : Question) (r : Option ℕ) (h : Head)
    (from to
    : Sunk)
    → IsTop hash s top → IsRight q s r → h ≡ head_by top q r → TakesFront from to (head_bytes h)
    → IsSome s.tree → TakesFront from to (proof_at (by s.version hash) s.batch q s.tree)
front_of_head hash s top q r h from to is right e front told =
    front_by hash s top q r from to top.root refl is right told
    (subst (λ (h : Head). TakesFront from to (head_bytes h)) e front)

-- ---- of the tree that is told

pub whole_told : {A : Type 0} (scheme : Scheme) (batch : ℕ) (q : Question) (o : Option Tree) (from to : Sunk)
    (r : Result A ProveErr) → OnOk r (IsSome o → TakesBytes from to (proof_at scheme batch q o))
    → IfSome o (λ t. OnOk r (TakesBytes from to (proof_for scheme q t batch)))
unfolding proof_at
whole_told scheme batch q None from to r h = tt
whole_told scheme batch q (Some t) from to (Ok x) h = h refl
whole_told scheme batch q (Some t) from to (Err e) h = tt

pub front_told : {A : Type 0} (scheme : Scheme) (batch : ℕ) (q : Question) (o : Option Tree) (from to : Sunk)
    (r : Result A ProveErr) → OnErr r (IsSome o → TakesFront from to (proof_at scheme batch q o))
    → IfSome o (λ t. OnErr r (TakesFront from to (proof_for scheme q t batch)))
unfolding proof_at
front_told scheme batch q None from to r h = tt
front_told scheme batch q (Some t) from to (Ok x) h = tt
front_told scheme batch q (Some t) from to (Err e) h = h refl

pub fetched_told : (scheme : Scheme) (q : Question) (o : Option Tree) (before now : ℕ)
    → (IsSome o → now ≤ before + all_opened_at scheme q o) → IfSome o (λ t. now ≤ before + opened_for scheme q t)
unfolding all_opened_at
fetched_told scheme q None before now h = tt
fetched_told scheme q (Some t) before now h = h refl

-- where nothing was written, nothing is the front of the proof that was
pub front_none : {A : Type 0} (scheme : Scheme) (batch : ℕ) (q : Question) (o : Option Tree) (state : Sunk)
    (r : Result A ProveErr) → IfSome o (λ t. OnErr r (TakesFront state state (proof_for scheme q t batch)))
front_none scheme batch q None state r = tt
front_none scheme batch q (Some t) state (Ok x) = tt
front_none scheme batch q (Some t) state (Err e) = record
    { front = []; rest = proof_for scheme q t batch; whole = refl; takes = TakesBytes-none state }

-- ---- where heads have no radius, none is right

pub right_none : (q : Question) (s : MapModel) → q.around ≡ None → IsRight q s None
right_none q s e = right_in q.around s.tree e
  where
    right_in : (x : Option Around) (o : Option Tree) → x ≡ None → IfSome o (λ t. None ≡ radius_by x (records t))
    right_in None None e = tt
    right_in None (Some t) e = refl
    right_in (Some x) o e = absurd cc

-- ---- queries

-- what was written for this query
pub written_for : {A : Type 0} (scheme : Scheme) (batch : ℕ) (o : Option Tree) (q p : Query) (from to : Sunk)
    (r : Result A ProveErr) → q ≡ p → IfSome o (λ t. OnOk r (TakesBytes from to (proof scheme t batch p)))
    → IfSome o (λ t. OnOk r (TakesBytes from to (proof scheme t batch q)))
written_for scheme batch o q p from to r e h =
    subst (λ q. IfSome o (λ t. OnOk r (TakesBytes from to (proof scheme t batch q)))) (sym e) h

pub front_for : {A : Type 0} (scheme : Scheme) (batch : ℕ) (o : Option Tree) (q p : Query) (from to : Sunk)
    (r : Result A ProveErr) → q ≡ p → IfSome o (λ t. OnErr r (TakesFront from to (proof scheme t batch p)))
    → IfSome o (λ t. OnErr r (TakesFront from to (proof scheme t batch q)))
front_for scheme batch o q p from to r e h =
    subst (λ q. IfSome o (λ t. OnErr r (TakesFront from to (proof scheme t batch q)))) (sym e) h

-- what was fetched for a window
pub fetched_once : (scheme : Scheme) (o : Option Tree) (q p : Query) (before now : ℕ) → q ≡ p → rounds q ≡ 1
    → IfSome o (λ t. now ≤ before + opened scheme t p) → IfSome o (λ t. now ≤ before + rounds q * opened scheme t q)
fetched_once scheme None q p before now e once h = tt
fetched_once scheme (Some t) q p before now e once h =
    let few : now ≤ before + 1 * opened scheme t p = omega (arith, h) in
    subst (λ m. now ≤ before + m * opened scheme t q) (sym once)
    (subst (λ (q : Query). now ≤ before + 1 * opened scheme t q) (sym e) few)

-- what a query may come for, another with its mask may
pub may_asks : (q : Query) (shape : Shape) (v : Version) → MayCome (question q) v
    → MayCome (question (asks shape q.mask)) v
may_asks q shape One may = may
may_asks q shape Two may = tt

-- the proof for a query is of any version
pub query_version : (shape : Shape) (v : Version) → FitsVersion (kind_of_shape shape) v
query_version (Window w) v = tt
query_version (Nearest p k) v = tt

-- a query with a radius is for nearest records
pub near_radius : (layers : ℕ) (shape : Shape) (a : Around) (r : Option ℕ) → around_in layers shape ≡ Some a
    → IfSome r (λ n. n ≤ farthest) → FitsRadius (kind_of_shape shape) r
near_radius layers (Window w) a r e low = absurd cc
near_radius layers (Nearest p k) a r e low = low

pub right_near : (q : Question) (s : MapModel) (a : Around) (r : Option ℕ) → q.around ≡ Some a
    → IfSome s.tree (λ t. r ≡ kth_in a t) → IsRight q s r
right_near q s a r e h =
    subst (λ (o : Option Around). IfSome s.tree (λ t. r ≡ radius_by o (records t))) (sym e) h

-- a query by its shape
pub with_shape : (q : Query) (shape : Shape) → q.shape ≡ shape → q ≡ asks shape q.mask
with_shape q shape e = λ i. asks (e i) q.mask

pub ok_through : {A E : Type 0} (r : Result A E) (P Q : Type 0) → (P → Q) → OnOk r P → OnOk r Q
ok_through (Ok x) P Q f h = f h
ok_through (Err e) P Q f h = tt

pub err_through : {A E : Type 0} (r : Result A E) (P Q : Type 0) → (P → Q) → OnErr r P → OnErr r Q
err_through (Ok x) P Q f h = tt
err_through (Err e) P Q f h = f h

-- heads of every kind may be without a radius
pub no_radius_fits : (k : Kind) → FitsRadius k None
no_radius_fits kind.W = refl
no_radius_fits kind.K = tt
no_radius_fits (kind.Choice letter) = refl
