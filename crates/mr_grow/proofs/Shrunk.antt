-- What is left of each kind of node, and that no other record is lost.
use Rattle.std.proofs.Common.{◌≡◌, Bool, true, false, ℕ, zero, suc, ◌<◌, List, [], ◌∷◌, ◌++◌, length, map, take, drop, get_or, refl, sym, ap, subst, ◌∙◌, arith, append_assoc}
use Rattle.std.specs.Prelude.{if◌then◌else◌}
use Rattle.std.specs.List.{flat_map, remove, list_any, AllByRecursion}
use Rattle.std.specs.List.Sorted.{IsPermutation}
use Rattle.std.proofs.lemmas.List.{append-nil, get_or_default}
use Rattle.std.proofs.lemmas.List.Concat.{flat_map-append}
use Rattle.std.proofs.lemmas.List.Elements.{All-from_recursion}
use Rattle.std.proofs.lemmas.List.Sorted.{IsPermutation-refl, IsPermutation-trans, IsPermutation-cons, IsPermutation-append_left, IsPermutation-append_right, IsPermutation-append_comm, IsPermutation-remove}
use Rattle.mr_record.specs.declared.record.Record.{Record}
use Rattle.mr_tree.specs.Tree.{records, nodes}
use Rattle.mr_tree.specs.declared.tree.Tree.{Tree}
use Rattle.mr_tree.specs.declared.tree.Tree.TheVariants as tree
use Rattle.mr_tree.specs.declared.tree.Tree.TheOpen.{Leaf, Inner}
use Rattle.mr_tree.specs.declared.tree.Tree.TheFolds.{para-roll-Tree}
use Rattle.mr_tree.proofs.Equations.{records-Leaf, records-Empty}
use Rattle.mr_tree.proofs.Induction.{tree_induction}
use Rattle.mr_grow.specs.Grow.{in_place}
use Rattle.mr_grow.specs.Found.{has, is_numbered, place_of}
use Rattle.mr_grow.specs.Shrink.{Rest, is_low, at_position, stays, set_aside, shrunk, shrunk_step}
use Rattle.mr_grow.specs.private.Kept.{kept}
use Rattle.mr_grow.proofs.Below.{fewer_nodes}
use Rattle.mr_grow.proofs.Distinct.{numbers_same}
use Rattle.mr_grow.proofs.Cutting.{moved}
use Rattle.mr_grow.proofs.Found.{place_within, place_passes, any_flat}
use Rattle.mr_grow.proofs.Grown.{beside, in_place_is, rest_of_removed}
use Rattle.mr_grow.proofs.Kept.{records_below}

pub shrunk-Leaf : (n : ℕ) (rs : List Record) → shrunk n (tree.Leaf rs) ≡ record
    { tree = tree.Leaf (remove rs (place_of (is_numbered n) rs)); aside = [] }
shrunk-Leaf n rs = ap (shrunk n) (sym (tree.rolls-Leaf rs)) ∙ para-roll-Tree Rest (shrunk_step n) (Leaf rs)

-- the place of the first child that has the record
abbrev pub holder : ℕ → List Tree → ℕ
holder n ts = place_of (λ t. has n (records t)) ts

holder_beside : (n : ℕ) (f : Tree → Rest) (ts : List Tree) → place_of (λ (c : Tree × Rest). has n (records c.0))
    (beside f ts) ≡ holder n ts
holder_beside n f [] = refl
holder_beside n f (t ∷ ts) = ap (λ k. if has n (records t) then zero else suc k) (holder_beside n f ts)

stays_beside : (f : Tree → Rest) (ts : List Tree) → map (λ (c : Tree × Rest). (c.0, stays c.1)) (beside f ts) ≡ beside
    (λ t. stays (f t)) ts
stays_beside f [] = refl
stays_beside f (t ∷ ts) = ap (λ us. (t, stays (f t)) ∷ us) (stays_beside f ts)

aside_beside : (f : Tree → Rest) (k : ℕ) (ts : List Tree) (x : Tree) → k < length ts → x ≡ get_or ts k x → at_position k
    (λ (c : Tree × Rest). set_aside c.1) (beside f ts) ≡ set_aside (f x)
aside_beside f k [] x within is = absurd (omega (arith, within))
aside_beside f zero (t ∷ ts) x within is = ap (λ u. set_aside (f u)) (sym is)
aside_beside f (suc k) (t ∷ ts) x within is = aside_beside f k ts x (omega (arith, within)) is

pub shrunk-Inner : (n : ℕ) (ts : List Tree) (x : Tree) → holder n ts < length ts → x ≡ get_or ts (holder n ts) x →
    shrunk n (tree.Inner ts) ≡ record {
      tree = tree.Inner (take (holder n ts) ts ++ (stays (shrunk n x) ++ drop (suc (holder n ts)) ts));
      aside = set_aside (shrunk n x);
    }
shrunk-Inner n ts x within is =
    ap (shrunk n) (sym (tree.rolls-Inner ts)) ∙ para-roll-Tree Rest (shrunk_step n) (Inner ts)
    ∙ (λ i. record {
      tree = tree.Inner (in_place (holder_beside n (shrunk n) ts i) (stays_beside (shrunk n) ts i));
      aside = at_position (holder_beside n (shrunk n) ts i) (λ (c : Tree × Rest). set_aside c.1) (beside (shrunk n) ts);
    })
    ∙ (λ i. record {
      tree = tree.Inner (in_place_is (λ t. stays (shrunk n t)) (holder n ts) ts x within is i);
      aside = aside_beside (shrunk n) (holder n ts) ts x within is i;
    })

-- the code's way
pub kept_by_code : (n : ℕ) (ts items left : List Tree) (at : ℕ) (child parent : Tree) (rest : Rest) →
    parent ≡ tree.Inner ts → items ≡ ts → at ≡ holder n items → at < length items →
    child ≡ get_or items at child → left ≡ take at items ++ drop (suc at) items → rest ≡ shrunk n child → kept left at
    rest ≡ shrunk n parent
kept_by_code n ts items left at child parent rest is same here within there removed shrinks =
    let r = rest_of_removed at items within in
    (λ i. kept (removed i) at (shrinks i))
    ∙ (λ i. record {
      tree = tree.Inner (r.0 i ++ (stays (shrunk n child) ++ r.1 i));
      aside = set_aside
          (shrunk n child);
    })
    ∙ (λ i. record {
      tree = tree.Inner (take (here i) items ++ (stays (shrunk n child) ++ drop (suc (here i)) items));
      aside = set_aside (shrunk n child);
    })
    ∙ sym (shrunk-Inner n items child (subst (λ k. k < length items) here within)
    (subst (λ k. child ≡ get_or items k child) here there))
    ∙ ap (λ us. shrunk n (tree.Inner us)) same ∙ ap (shrunk n) (sym is)

pub has_below : (n : ℕ) (ts : List Tree) → has n (records (tree.Inner ts)) ≡ list_any (λ t. has n (records t)) ts
has_below n ts = ap (has n) (records_below ts) ∙ any_flat (is_numbered n) records ts

-- ---- no other record is lost

pub record Parted (n : ℕ) (all : List Record) (r : Rest) : Type 0 where
  pub one : Record
  pub numbered : one.number ≡ n
  pub mixes : IsPermutation all (one ∷ (records r.tree ++ r.aside))

leaf_parted : (n : ℕ) (rs : List Record) → has n rs ≡ true → Parted n rs
    (record { tree = tree.Leaf (remove rs (place_of (is_numbered n) rs)); aside = [] })
leaf_parted n [] e = cc
leaf_parted n (d ∷ rs) e =
    let all = d ∷ rs in
    let at = place_of (is_numbered n) all in
    let within = place_within (is_numbered n) all e in
    let one : Record = get_or all at d in
    record {
      one = one;
      numbered = numbers_same one n (place_passes (is_numbered n) all d e);
      mixes = subst (λ us. IsPermutation all (one ∷ us))
          (sym (append-nil (records (tree.Leaf (remove all at))) ∙ records-Leaf (remove all at)))
          (IsPermutation-remove all at one within (get_or_default all at d one within));
    }

around_mix : (ts : List Tree) (k : ℕ) (x : Tree) → k < length ts → x ≡ get_or ts k x →
    IsPermutation (flat_map records ts) (records x ++ (flat_map records (take k ts) ++ flat_map records
    (drop (suc k) ts)))
around_mix [] k x within is = absurd (omega (arith, within))
around_mix (t ∷ ts) zero x within is = subst (λ us. IsPermutation (us ++ flat_map records ts)
    (records x ++ flat_map records ts)) (ap records is) (IsPermutation-refl (records x ++ flat_map records ts))
around_mix (t ∷ ts) (suc k) x within is =
    let a = flat_map records (take k ts) in
    let b = flat_map records (drop (suc k) ts) in
    IsPermutation-trans (records t ++ flat_map records ts) (records t ++ (records x ++ (a ++ b)))
    (records x ++ ((records t ++ a) ++ b))
    (IsPermutation-append_right (records t) (flat_map records ts) (records x ++ (a ++ b))
    (around_mix ts k x (omega (arith, within)) is))
    (subst (λ us. IsPermutation (records t ++ (records x ++ (a ++ b))) (records x ++ us))
    (sym (append_assoc (records t) a b)) (moved (records t) (records x) (a ++ b)))

settled_mix : (b : Bool) (u : Tree) (s : List Record) (ls rs : List Tree) →
    IsPermutation ((records u ++ s) ++ (flat_map records ls ++ flat_map records rs))
    (flat_map records (ls ++ ((if b then [] else u ∷ []) ++ rs)) ++ (if b then records u ++ s else s))
settled_mix true u s ls rs =
    subst (λ us. IsPermutation ((records u ++ s) ++ (flat_map records ls ++ flat_map records rs))
    (us ++ (records u ++ s))) (sym (flat_map-append records ls rs))
    (IsPermutation-append_comm (records u ++ s) (flat_map records ls ++ flat_map records rs))
settled_mix false u s ls rs =
    let a = flat_map records ls in
    let b = flat_map records rs in
    subst (λ us. IsPermutation ((records u ++ s) ++ (a ++ b)) (us ++ s)) (sym (flat_map-append records ls (u ∷ rs)))
    (IsPermutation-trans ((records u ++ s) ++ (a ++ b)) ((records u ++ (a ++ b)) ++ s) ((a ++ (records u ++ b)) ++ s)
    (subst (λ us. IsPermutation us ((records u ++ (a ++ b)) ++ s)) (sym (append_assoc (records u) s (a ++ b)))
    (subst (IsPermutation (records u ++ (s ++ (a ++ b)))) (sym (append_assoc (records u) (a ++ b) s))
    (IsPermutation-append_right (records u) (s ++ (a ++ b)) ((a ++ b) ++ s) (IsPermutation-append_comm s (a ++ b)))))
    (IsPermutation-append_left s (records u ++ (a ++ b)) (a ++ (records u ++ b)) (moved (records u) a b)))

inner_parted : (n : ℕ) (ts : List Tree) (k : ℕ) (x : Tree) (r : Rest) → k < length ts → x ≡ get_or ts k x → Parted n
    (records x) r →
    Parted n (records (tree.Inner ts)) (record {
      tree = tree.Inner (take k ts ++ (stays r ++ drop (suc k) ts));
      aside = set_aside r;
    })
inner_parted n ts k x r within is below =
    let a = flat_map records (take k ts) in
    let b = flat_map records (drop (suc k) ts) in
    let new = take k ts ++ (stays r ++ drop (suc k) ts) in
    record {
      one = below.one;
      numbered = below.numbered;
      mixes =
          subst (λ us. IsPermutation us (below.one ∷ (records (tree.Inner new) ++ set_aside r)))
          (sym (records_below ts))
          (subst (λ us. IsPermutation (flat_map records ts) (below.one ∷ (us ++ set_aside r)))
          (sym (records_below new))
          (IsPermutation-trans (flat_map records ts) (records x ++ (a ++ b))
          (below.one ∷ (flat_map records new ++ set_aside r)) (around_mix ts k x within is)
          (IsPermutation-trans (records x ++ (a ++ b)) ((below.one ∷ (records r.tree ++ r.aside)) ++ (a ++ b))
          (below.one ∷ (flat_map records new ++ set_aside r))
          (IsPermutation-append_left (a ++ b) (records x) (below.one ∷ (records r.tree ++ r.aside)) below.mixes)
          (IsPermutation-cons below.one ((records r.tree ++ r.aside) ++ (a ++ b))
          (flat_map records new ++ set_aside r)
          (settled_mix (is_low r.tree) r.tree r.aside (take k ts) (drop (suc k) ts))))));
    }

abbrev Loses : ℕ → Tree → Type 0
Loses n t = has n (records t) ≡ true → Parted n (records t) (shrunk n t)

pub shrunk_parted : (n : ℕ) (t : Tree) → Loses n t
shrunk_parted n = tree_induction (Loses n)
    (λ e. none_of_empty (sym (ap (has n) records-Empty) ∙ e))
    (λ rs e. subst (λ us. Parted n us (shrunk n (tree.Leaf rs))) (sym (records-Leaf rs))
    (subst (Parted n rs) (sym (shrunk-Leaf n rs)) (leaf_parted n rs (sym (ap (has n) (records-Leaf rs)) ∙ e))))
    (λ ts below e. inner ts below (sym (has_below n ts) ∙ e))
  where
    none_of_empty : false ≡ true → Parted n (records tree.Empty) (shrunk n tree.Empty)
    none_of_empty e = cc

    inner : (ts : List Tree) → AllByRecursion (Loses n) ts → list_any (λ t. has n (records t)) ts ≡ true → Parted n
        (records (tree.Inner ts)) (shrunk n (tree.Inner ts))
    inner ts below e =
        let k = holder n ts in
        let within = place_within (λ t. has n (records t)) ts e in
        let x : Tree = get_or ts k tree.Empty in
        let is : x ≡ get_or ts k x = get_or_default ts k tree.Empty x within in
        subst (Parted n (records (tree.Inner ts))) (sym (shrunk-Inner n ts x within is))
        (inner_parted n ts k x (shrunk n x) within is (All-from_recursion (Loses n) ts below k tree.Empty within
        (place_passes (λ t. has n (records t)) ts tree.Empty e)))

-- ---- what the code asks

pub leaf_place : (n : ℕ) (rs items : List Record) (parent : Tree) → parent ≡ tree.Leaf rs → items ≡ rs → has n
    (records parent) ≡ true → place_of (is_numbered n) items < length items
leaf_place n rs items parent is same e = place_within (is_numbered n) items
    (ap (has n) (same ∙ sym (ap records is ∙ records-Leaf rs)) ∙ e)

pub child_place : (n : ℕ) (ts items : List Tree) (parent : Tree) → parent ≡ tree.Inner ts → items ≡ ts → has n
    (records parent) ≡ true → holder n items < length items
child_place n ts items parent is same e =
    place_within (λ t. has n (records t)) items (ap (list_any (λ t. has n (records t))) same ∙ sym (has_below n ts)
    ∙ sym (ap (λ t. has n (records t)) is) ∙ e)

pub record HasIt (n : ℕ) (child parent : Tree) : Type 0 where
  pub fewer : nodes child < nodes parent
  pub has_it : has n (records child) ≡ true

pub child_has : (n : ℕ) (ts items : List Tree) (at : ℕ) (child parent : Tree) → parent ≡ tree.Inner ts → items ≡ ts →
    at ≡ holder n items → child ≡ get_or items at child →
    has n (records parent) ≡ true → HasIt n child parent
child_has n ts items at child parent is same here there e =
    let among : list_any (λ t. has n (records t)) items ≡ true = ap (list_any (λ t. has n (records t))) same ∙ sym
    (has_below n ts) ∙ sym (ap (λ t. has n (records t)) is) ∙ e in
    let within : at < length items = omega (arith, here, place_within (λ t. has n (records t)) items among) in
    record {
      fewer = fewer_nodes ts items at child parent is same there within;
      has_it = ap (λ t. has n (records t)) (there ∙ ap (λ k. get_or items k child) here) ∙ place_passes
          (λ t. has n (records t)) items child among;
    }

pub leaf_left : (n : ℕ) (rs items left seen aside : List Record) {at : ℕ} (parent : Tree) → parent ≡ tree.Leaf rs →
    items ≡ rs → at ≡ place_of (is_numbered n) items → left ≡ remove items at →
    seen ≡ left → aside ≡ [] → ◌≡◌ {A = Rest} (record { tree = tree.Leaf seen; aside = aside }) (shrunk n parent)
leaf_left n rs items left seen aside parent is same here removed kept_items none =
    (λ i. record {
      tree = tree.Leaf
          ((kept_items ∙ removed ∙ ap (remove items) here ∙ ap (λ us. remove us (place_of (is_numbered n) us)) same) i);
      aside = none i;
    })
    ∙ sym (shrunk-Leaf n rs) ∙ ap (shrunk n) (sym is)
