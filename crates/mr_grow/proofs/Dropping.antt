-- A deletion keeps the fills and levels, and all other records.
use Rattle.std.proofs.Math.Seq.{drop-cons}
use Rattle.std.proofs.Common.{◌≡◌, ◌≢◌, ℕ, zero, suc, ◌+◌, ◌^◌, ◌<◌, ◌≤◌, Bool, true, false, List, [], ◌∷◌, ◌++◌, length, map, take, drop, get_or, refl, sym, ap, subst, ◌∙◌, arith}
use Rattle.std.specs.Prelude.{nat_lt, ◌==◌, if◌then◌else◌, AllPairs, All}
use Rattle.std.specs.List.{AllByRecursion, flat_map, list_any, remove}
use Rattle.std.specs.List.Sorted.{IsPermutation}
use Rattle.std.specs.Ordering.{is_lt, nat_cmp}
use Rattle.std.proofs.lemmas.Bool.Decides.{nat_tests}
use Rattle.std.proofs.lemmas.List.{length-append, map-id, get_or_default}
use Rattle.std.proofs.lemmas.List.Concat.{flat_map_single}
use Rattle.std.proofs.lemmas.List.Elements.{All-from_recursion, recursion_from_All}
use Rattle.std.proofs.lemmas.List.Sorted.{All-permutation, length_permutation, IsPermutation-refl, IsPermutation-trans, IsPermutation-sym, IsPermutation-cons, IsPermutation-append, IsPermutation-append_right, IsPermutation-append_comm, IsPermutation-middle}
use Rattle.mr_record.specs.Record.{IsRecord}
use Rattle.mr_record.specs.Sorting.{sorted_by, sorted_by_key}
use Rattle.mr_record.specs.declared.record.Record.{Record}
use Rattle.mr_record.proofs.Sorting.{sorted_mixes}
use Rattle.mr_tree.specs.Tree.{records, level, first_level}
use Rattle.mr_tree.specs.WellFormed.{WellFormed, IsFilled, IsFilledRoot}
use Rattle.mr_tree.specs.declared.tree.Tree.{Tree}
use Rattle.mr_tree.specs.declared.tree.Tree.TheVariants as tree
use Rattle.mr_tree.specs.declared.tree.Tree.TheFolds.{every-Tree}
use Rattle.mr_tree.proofs.Equations.{level-Inner, level-Leaf, records-Empty}
use Rattle.mr_tree.proofs.Induction.{tree_induction, here-Leaf, here-Inner, every_child}
use Rattle.mr_grow.specs.Found.{has, is_numbered, place_of}
use Rattle.mr_grow.specs.Grow.{ins}
use Rattle.mr_grow.specs.Shrink.{Rest, is_low, is_low_step, stays, shrunk, shortened, all_in, del, WithoutOne}
use Rattle.mr_grow.specs.Views.{IsRooted}
use Rattle.mr_split.proofs.Counts.{all_both}
use Rattle.mr_grow.proofs.Distinct.{Apart, apart_mixed}
use Rattle.mr_grow.proofs.Found.{place_within, place_passes}
use Rattle.mr_grow.proofs.Kept.{ins_mixes}
use Rattle.mr_grow.proofs.Shortened.{shortened_records, leaf_shortened, inner_shortened}
use Rattle.mr_grow.proofs.Shrunk.{holder, shrunk-Leaf, shrunk-Inner, shrunk_parted, has_below}
use Rattle.mr_grow.proofs.Sizes.{has_room, root_shallow, well_rooted}
use Rattle.mr_grow.proofs.Standing.{Stands, leaf_stands, inner_stands, below_stand, ins_root}

-- ---- the children that are left

all_taken : {X : Type 0} (P : X → Type 0) (n : ℕ) (xs : List X) → AllByRecursion P xs → AllByRecursion P (take n xs)
all_taken P zero xs all = tt
all_taken P (suc n) [] all = tt
all_taken P (suc n) (x ∷ xs) all = (all.0, all_taken P n xs all.1)

all_dropped : {X : Type 0} (P : X → Type 0) (n : ℕ) (xs : List X) → AllByRecursion P xs → AllByRecursion P (drop n xs)
all_dropped P zero xs all = all
all_dropped P (suc n) [] all = tt
all_dropped P (suc n) (x ∷ xs) all = all_dropped P n xs all.1

around_length : {X : Type 0} (n : ℕ) (xs ys : List X) → n < length xs → length (take n xs ++ (ys ++ drop (suc n) xs))
    + 1 ≡ length xs + length ys
around_length n [] ys within = absurd (omega (arith, within))
around_length zero (x ∷ xs) ys within = omega (arith, length-append ys xs)
around_length (suc n) (x ∷ xs) ys within = omega (arith, around_length n xs ys (omega (arith, within)))

at_most_one : (b : Bool) (t : Tree) → length (if b then [] else t ∷ []) ≤ 1
at_most_one true t = omega arith
at_most_one false t = omega arith

abbrev around : ℕ → List Tree → Rest → List Tree
around k ts r = take k ts ++ (stays r ++ drop (suc k) ts)

pub record Remain (k : ℕ) (size : ℕ) (ts : List Tree) : Type 0 where
  pub each : AllByRecursion (Stands k) ts
  pub at_least : size ≤ length ts + 1
  pub at_most : length ts ≤ size

remains : (k i : ℕ) (ts : List Tree) (r : Rest) → i < length ts → AllByRecursion (Stands k) ts →
    (is_low r.tree ≡ false → Stands k r.tree) → Remain k (length ts) (around i ts r)
remains k i ts r within all stands =
    let n = around_length i ts (stays r) within in
    record {
      each = all_both (Stands k) (take i ts) (stays r ++ drop (suc i) ts) (all_taken (Stands k) i ts all)
          (all_both (Stands k) (stays r) (drop (suc i) ts) (kept (is_low r.tree) refl)
          (all_dropped (Stands k) (suc i) ts all));
      at_least = omega (arith, n);
      at_most = omega (arith, n, at_most_one (is_low r.tree) r.tree);
    }
  where
    kept : (b : Bool) → is_low r.tree ≡ b → AllByRecursion (Stands k) (if b then [] else r.tree ∷ [])
    kept true e = tt
    kept false e = (stands e, tt)

-- ---- below the root

not_low_leaf : (rs : List Record) → is_low (tree.Leaf rs) ≡ false → 6 ≤ length rs
not_low_leaf rs e = let e2 : nat_lt (length rs) 6 ≡ false = sym (ap is_low_step (tree.outs-Leaf rs)) ∙ e in grind
    (arith, nat_tests, e2)

not_low_inner : (ts : List Tree) → is_low (tree.Inner ts) ≡ false → 24 ≤ length ts
not_low_inner ts e = let e2 : nat_lt (length ts) 24 ≡ false = sym (ap is_low_step (tree.outs-Inner ts)) ∙ e in grind
    (arith, nat_tests, e2)

removed_length : (rs : List Record) (i : ℕ) → length (remove rs i) ≤ length rs
removed_length [] zero = omega arith
removed_length [] (suc i) = omega arith
removed_length (r ∷ rs) zero = omega arith
removed_length (r ∷ rs) (suc i) = omega (arith, removed_length rs i)

abbrev StaysSound : ℕ → Tree → Type 0
StaysSound n t = (k : ℕ) → Stands k t → has n (records t) ≡ true → is_low (shrunk n t).tree ≡ false → Stands k
    (shrunk n t).tree

-- the child that has the record, and where it stands
pub record Holder (n : ℕ) (ts : List Tree) : Type 0 where
  pub child : Tree
  pub within : holder n ts < length ts
  pub is : child ≡ get_or ts (holder n ts) child
  pub has_it : has n (records child) ≡ true

pub holder_of : (n : ℕ) (ts : List Tree) → has n (records (tree.Inner ts)) ≡ true → Holder n ts
holder_of n ts e =
    let among : list_any (λ t. has n (records t)) ts ≡ true = sym (has_below n ts) ∙ e in
    let within = place_within (λ t. has n (records t)) ts among in
    let x : Tree = get_or ts (holder n ts) tree.Empty in
    record {
      child = x;
      within = within;
      is = get_or_default ts (holder n ts) tree.Empty x within;
      has_it = place_passes (λ t. has n (records t)) ts tree.Empty among;
    }

of_holder : (P : Tree → Type 0) (n : ℕ) (ts : List Tree) (h : Holder n ts) → AllByRecursion P ts → P h.child
of_holder P n ts h all = subst P (sym h.is) (All-from_recursion P ts all (holder n ts) h.child h.within)

children_remain : (n k : ℕ) (ts : List Tree) (h : Holder n ts) → AllByRecursion (StaysSound n) ts → AllByRecursion
    (Stands k) ts →
    Remain k (length ts) (around (holder n ts) ts (shrunk n h.child))
children_remain n k ts h below all =
    remains k (holder n ts) ts (shrunk n h.child) h.within all
    (λ e. of_holder (StaysSound n) n ts h below k (of_holder (Stands k) n ts h all) h.has_it e)

tree_of_inner : (n : ℕ) (ts : List Tree) (h : Holder n ts) → (shrunk n (tree.Inner ts)).tree ≡ tree.Inner
    (around (holder n ts) ts (shrunk n h.child))
tree_of_inner n ts h = ap (λ (r : Rest). r.tree) (shrunk-Inner n ts h.child h.within h.is)

tree_of_leaf : (n : ℕ) (rs : List Record) → (shrunk n (tree.Leaf rs)).tree ≡ tree.Leaf
    (remove rs (place_of (is_numbered n) rs))
tree_of_leaf n rs = ap (λ (r : Rest). r.tree) (shrunk-Leaf n rs)

pub shrunk_stands : (n : ℕ) (t : Tree) → StaysSound n t
shrunk_stands n = tree_induction (StaysSound n)
    (λ k s e low. absurd (s.there refl))
    (λ rs k s e low.
    let new = remove rs (place_of (is_numbered n) rs) in
    let is = tree_of_leaf n rs in
    let fill = here-Leaf IsFilled rs s.filled in
    subst (λ j. Stands j (shrunk n (tree.Leaf rs)).tree) (sym (level-Leaf rs) ∙ s.here)
    (subst (Stands 0) (sym is)
    (leaf_stands new (not_low_leaf new (sym (ap is_low is) ∙ low))
    (omega (arith, fill.1, removed_length rs (place_of (is_numbered n) rs))))))
    (λ ts below k s e low.
    let m = first_level (map level ts) in
    let h = holder_of n ts e in
    let is = tree_of_inner n ts h in
    let new = around (holder n ts) ts (shrunk n h.child) in
    let fill = here-Inner IsFilled ts s.filled in
    let r = children_remain n m ts h below (below_stand ts s.one_level (every_child IsFilled ts s.filled)) in
    subst (λ j. Stands j (shrunk n (tree.Inner ts)).tree) (sym (level-Inner ts) ∙ s.here)
    (subst (Stands (m + 1)) (sym is)
    (inner_stands m new (not_low_inner new (sym (ap is_low is) ∙ low)) (omega (arith, r.at_most, fill.1)) r.each)))

each_sound : (n : ℕ) (ts : List Tree) → AllByRecursion (StaysSound n) ts
each_sound n [] = tt
each_sound n (t ∷ ts) = (shrunk_stands n t, each_sound n ts)

-- ---- the root

pub shrunk_root : (n : ℕ) (t : Tree) → IsRooted t → has n (records t) ≡ true → IsRooted (shortened (shrunk n t).tree)
shrunk_root n = tree_induction (λ t. IsRooted t → has n (records t) ≡ true → IsRooted (shortened (shrunk n t).tree))
    (λ r e. none_of_empty (sym (ap (has n) records-Empty) ∙ e))
    (λ rs r e.
    let fill = subst IsFilledRoot (tree.outs-Leaf rs) r.filled in
    subst (λ t. IsRooted (shortened t)) (sym (tree_of_leaf n rs))
    (leaf_shortened (remove rs (place_of (is_numbered n) rs))
    (omega (arith, fill.1, removed_length rs (place_of (is_numbered n) rs)))))
    (λ ts below r e.
    let m = first_level (map level ts) in
    let h = holder_of n ts e in
    let fill = subst IsFilledRoot (tree.outs-Inner ts) r.filled in
    let left = children_remain n m ts h (each_sound n ts)
    (below_stand ts r.one_level (recursion_from_All (every-Tree IsFilled) ts fill.2)) in
    subst (λ t. IsRooted (shortened t)) (sym (tree_of_inner n ts h))
    (inner_shortened m (around (holder n ts) ts (shrunk n h.child)) (omega (arith, left.at_least, fill.0))
    (omega (arith, left.at_most, fill.1)) left.each))
  where
    none_of_empty : false ≡ true → IsRooted (shortened (shrunk n tree.Empty).tree)
    none_of_empty e = cc

-- ---- records that go in one after the other

pub all_in_rooted : (rs : List Record) (t : Tree) → IsRooted t → IsRooted (all_in rs t)
all_in_rooted [] t r = r
all_in_rooted (one ∷ rs) t r = all_in_rooted rs (ins one t) (ins_root one t r)

pub all_in_mixes : (rs : List Record) (t : Tree) → IsRooted t → IsPermutation (rs ++ records t)
    (records (all_in rs t))
all_in_mixes [] t r = IsPermutation-refl (records t)
all_in_mixes (one ∷ rs) t r =
    IsPermutation-trans (one ∷ (rs ++ records t)) (rs ++ one ∷ records t) (records (all_in rs (ins one t)))
    (IsPermutation-sym (rs ++ one ∷ records t) (one ∷ (rs ++ records t)) (IsPermutation-middle rs one (records t)))
    (IsPermutation-trans (rs ++ one ∷ records t) (rs ++ records (ins one t)) (records (all_in rs (ins one t)))
    (IsPermutation-append_right rs (one ∷ records t) (records (ins one t)) (ins_mixes one t (has_room t r)))
    (all_in_mixes rs (ins one t) (ins_root one t r)))

-- ---- the whole deletion

abbrev alone : Record → List Record
alone r = r ∷ []

singles : (rs : List Record) → flat_map alone rs ≡ rs
singles rs = flat_map_single (λ (r : Record). r) rs ∙ map-id rs

by_number_mixes : (rs : List Record) → IsPermutation rs (sorted_by_key (λ (r : Record). r.number) rs)
by_number_mixes rs =
    let before : Record → Record → Bool = λ a b. is_lt (nat_cmp a.number b.number) in
    subst (λ us. IsPermutation us (sorted_by before rs)) (singles rs)
    (subst (IsPermutation (flat_map alone rs)) (singles (sorted_by before rs)) (sorted_mixes before alone rs))

pub del_mixes : (n : ℕ) (t : Tree) → IsRooted t → has n (records t) ≡ true → WithoutOne n (records t)
    (records (del n t))
del_mixes n t r e =
    let p = shrunk_parted n t e in
    let rest = shrunk n t in
    let by_number = sorted_by_key (λ (r : Record). r.number) rest.aside in
    let short = shortened rest.tree in
    let again : IsPermutation (records rest.tree ++ rest.aside) (records (del n t)) =
    IsPermutation-trans (records rest.tree ++ rest.aside) (rest.aside ++ records rest.tree) (records (del n t))
    (IsPermutation-append_comm (records rest.tree) rest.aside)
    (IsPermutation-trans (rest.aside ++ records rest.tree) (by_number ++ records short) (records (del n t))
    (IsPermutation-append rest.aside by_number (records rest.tree) (records short) (by_number_mixes rest.aside)
    (subst (IsPermutation (records rest.tree)) (sym (shortened_records rest.tree))
    (IsPermutation-refl (records rest.tree))))
    (all_in_mixes by_number short (shrunk_root n t r e))) in
    record {
      one = p.one;
      numbered = p.numbered;
      mixes =
          IsPermutation-trans (records t) (p.one ∷ (records rest.tree ++ rest.aside)) (p.one ∷ records (del n t))
          p.mixes
          (IsPermutation-cons p.one (records rest.tree ++ rest.aside) (records (del n t)) again);
    }

pairs_behind : (one : Record) (rs : List Record) → AllPairs Apart (one ∷ rs) → AllPairs Apart rs
pairs_behind one rs pairs = λ i j d h within. pairs (suc i) (suc j) d (omega (arith, h)) (omega (arith, within))

all_behind : (P : Record → Type 0) (one : Record) (rs : List Record) → All P (one ∷ rs) → All P rs
all_behind P one rs all = All-from_recursion P rs (recursion_from_All P (one ∷ rs) all).1

pub del_well_formed : (n : ℕ) (t : Tree) → WellFormed t → has n (records t) ≡ true → WellFormed (del n t)
del_well_formed n t well e =
    let root = well_rooted t well in
    let m = del_mixes n t root e in
    let after = records (del n t) in
    let new = all_in_rooted (sorted_by_key (λ (r : Record). r.number) (shrunk n t).aside)
    (shortened (shrunk n t).tree) (shrunk_root n t root e) in
    let few : length after ≤ 2 ^ 20 = omega (arith, length_permutation (records t) (m.one ∷ after) m.mixes, well.few)
    in
    record {
      one_level = new.one_level;
      shallow = root_shallow (del n t) new few;
      filled = new.filled;
      distinct = pairs_behind m.one after (apart_mixed (records t) (m.one ∷ after) m.mixes well.distinct);
      each = all_behind IsRecord m.one after (All-permutation IsRecord (records t) (m.one ∷ after) m.mixes well.each);
      few = few;
    }

-- ---- what the code does

-- one record more goes in
pub one_in : (rs : List Record) (i : ℕ) (one : Record) (t new last : Tree) → i < length rs → one ≡ get_or rs i one →
    new ≡ ins one t →
    all_in (drop i rs) t ≡ last → all_in (drop (i + 1) rs) new ≡ last
one_in rs i one t new last within is grows so_far =
    let e : i + 1 ≡ suc i = omega arith in
    let here : drop i rs ≡ one ∷ drop (i + 1) rs = drop-cons rs i one within ∙ (λ k. sym is k ∷ drop (sym e k) rs) in
    ap (all_in (drop (i + 1) rs)) grows ∙ sym (ap (λ us. all_in us t) here) ∙ so_far

pub none_is : {X : Type 0} (seen xs : List X) (b : Bool) → seen ≡ xs → b ≡ (length seen == 0) → b ≡ true →
    length xs ≡ 0
none_is seen xs b same is e = let yes : (length seen == 0) ≡ true = sym is ∙ e in let none : length seen ≡ 0 = grind
    (arith, nat_tests, yes) in omega (arith, none, ap length same)

pub some_is : {X : Type 0} (seen xs : List X) (b : Bool) → seen ≡ xs → b ≡ (length seen == 0) → b ≡ false →
    length xs ≢ 0
some_is seen xs b same is e = λ none.
    let no : (length seen == 0) ≡ false = sym is ∙ e in
    let zero_length : length seen ≡ 0 = omega (arith, none, ap length same) in
    absurd (grind (arith, nat_tests, no, zero_length))
