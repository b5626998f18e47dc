-- The leaves of the first children of a node and their entries, and what they hold.
use Rattle.std.proofs.Common.{arith, ◌≡◌, ◌≤◌, ◌<◌, ℕ, ◌+◌, ◌++◌, List, [], ◌∷◌, map, take, drop, length, get_or, sym, ap, subst, ◌∙◌}
use Rattle.std.specs.List.{flat_map, AllByRecursion}
use Rattle.std.proofs.lemmas.List.{length-map, length-append, drop_more, flat_map_more, take_more, take_all}
use Rattle.std.proofs.Math.Seq.{take-append_seam, drop-append_seam}
use Rattle.std.proofs.lemmas.List.Folds.{flat_map-map}
use Rattle.mr_record.specs.declared.record.Record.{Record}
use Rattle.std.specs.Prelude.{All}
use Rattle.std.proofs.lemmas.List.Elements.{All-from_recursion}
use Rattle.mr_tree.specs.Tree.{records}
use Rattle.mr_tree.proofs.Equations.{records-Leaf, records-Inner}
use Rattle.mr_tree.specs.Digest.{Scheme}
use Rattle.mr_tree.specs.Leaves.{leaves, leaf_entry, leaf_entries}
use Rattle.mr_tree.specs.declared.entry.Entry.{Entry}
use Rattle.mr_tree.specs.private.Slim.{IsSlim, IsSlimNode}
use Rattle.mr_tree.specs.declared.tree.Tree.{Tree}
use Rattle.mr_tree.specs.declared.tree.Tree.TheVariants as tree
use Rattle.mr_tree.proofs.Leaves.{leaves-Empty, leaves-Leaf, leaves-Inner}
use Rattle.mr_tree.proofs.Induction.{tree_induction, here-Leaf, every_child}

-- The leaves of the children so far, and those of one more.

pub gathered_more : (before so_far after : List (List Record)) (ts : List Tree) (i : ℕ) (one : Tree) →
    so_far ≡ before ++ flat_map leaves (take i ts) → after ≡ so_far ++ leaves one →
    one ≡ get_or ts i one → i < length ts → after ≡ before ++ flat_map leaves (take (i + 1) ts)
gathered_more before so_far after ts i one all more is within =
    more ∙ ap (λ xs. xs ++ leaves one) all ∙ flat_map_more leaves before (take i ts) one
    ∙ ap (λ xs. before ++ flat_map leaves xs) (ap (λ x. take i ts ++ x ∷ []) is ∙ sym (take_more ts i one within))

pub gathered_all : (before all : List (List Record)) (t : Tree) (ts items : List Tree) (n : ℕ) →
    all ≡ before ++ flat_map leaves (take n items) → length items ≤ n → items ≡ ts → t ≡ tree.Inner ts →
    all ≡ before ++ leaves t
gathered_all before all t ts items n so_far end same is =
    so_far ∙ (λ j. before ++ flat_map leaves ((take_all n items end ∙ same) j))
    ∙ ap (λ xs. before ++ xs) (sym (leaves-Inner ts) ∙ ap leaves (sym is))

pub counted_none : (t : Tree) (ts items : List Tree) → items ≡ ts → t ≡ tree.Inner ts →
    0 + length (flat_map leaves (drop 0 items)) ≡ length (leaves t)
counted_none t ts items same is =
    let none : 0 + length (flat_map leaves (drop 0 items)) ≡ length (flat_map leaves (drop 0 items)) = omega arith in
    none ∙ ap (λ xs. length (flat_map leaves xs)) same ∙ ap length (sym (leaves-Inner ts) ∙ ap leaves (sym is))

pub counted_more : (sum n all : ℕ) (ts : List Tree) (i : ℕ) (one : Tree) →
    sum + length (flat_map leaves (drop i ts)) ≡ all → n ≡ length (leaves one) → one ≡ get_or ts i one →
    i < length ts → (sum + n) + length (flat_map leaves (drop (i + 1) ts)) ≡ all
counted_more sum n all ts i one so_far count is within =
    let rest = flat_map leaves (drop (i + 1) ts) in
    omega (
      arith,
      so_far,
      count,
      ap (λ xs. length (flat_map leaves xs)) (drop_more ts i one within) ∙ ap (λ x. length (leaves x ++ rest)) (sym is),
      length-append (leaves one) rest,
    )

-- The entries that are left begin with those of the next child.

next_child : (s : Scheme) (ts : List Tree) (i : ℕ) (one : Tree) (rest : List Entry) →
    one ≡ get_or ts i one → i < length ts → rest ≡ flat_map (leaf_entries s) (drop i ts) →
    rest ≡ leaf_entries s one ++ flat_map (leaf_entries s) (drop (i + 1) ts)
next_child s ts i one rest is within left =
    left ∙ ap (flat_map (leaf_entries s)) (drop_more ts i one within)
    ∙ ap (λ x. leaf_entries s x ++ flat_map (leaf_entries s) (drop (i + 1) ts)) (sym is)

pub child_fits : (s : Scheme) (ts : List Tree) (i : ℕ) (one : Tree) (rest : List Entry) →
    one ≡ get_or ts i one → i < length ts → rest ≡ flat_map (leaf_entries s) (drop i ts) →
    length (leaves one) ≤ length rest
child_fits s ts i one rest is within left =
    omega (
      arith,
      length-map (leaves one) (leaf_entry s),
      length-append (leaf_entries s one) (flat_map (leaf_entries s) (drop (i + 1) ts)),
      ap length (next_child s ts i one rest is within left),
    )

pub child_front : (s : Scheme) (ts : List Tree) (i : ℕ) (one : Tree) (rest : List Entry) →
    one ≡ get_or ts i one → i < length ts → rest ≡ flat_map (leaf_entries s) (drop i ts) →
    (n : ℕ) (front : List Entry) → n ≡ length (leaves one) → front ≡ take n rest → front ≡ leaf_entries s one
child_front s ts i one rest is within left n front count taken =
    taken
    ∙ (λ j. take ((count ∙ sym (length-map (leaves one) (leaf_entry s))) j)
    (next_child s ts i one rest is within left j))
    ∙ take-append_seam (leaf_entries s one) (flat_map (leaf_entries s) (drop (i + 1) ts))

pub child_back : (s : Scheme) (ts : List Tree) (i : ℕ) (one : Tree) (rest : List Entry) →
    one ≡ get_or ts i one → i < length ts → rest ≡ flat_map (leaf_entries s) (drop i ts) →
    (n : ℕ) (back : List Entry) → n ≡ length (leaves one) → back ≡ drop n rest →
    back ≡ flat_map (leaf_entries s) (drop (i + 1) ts)
child_back s ts i one rest is within left n back count dropped =
    dropped
    ∙ (λ j. drop ((count ∙ sym (length-map (leaves one) (leaf_entry s))) j)
    (next_child s ts i one rest is within left j))
    ∙ drop-append_seam (leaf_entries s one) (flat_map (leaf_entries s) (drop (i + 1) ts))

-- Each leaf of a slim tree has few records.

abbrev IsSmall : List Record → Type 0
IsSmall rs = length rs ≤ 16

both_small : (xs ys : List (List Record)) → AllByRecursion IsSmall xs → AllByRecursion IsSmall ys →
    AllByRecursion IsSmall (xs ++ ys)
both_small [] ys some others = others
both_small (x ∷ xs) ys some others = (some.0, both_small xs ys some.1 others)

abbrev HasSmallLeaves : Tree → Type 0
HasSmallLeaves t = IsSlim t → AllByRecursion IsSmall (leaves t)

all_small : (ts : List Tree) → AllByRecursion HasSmallLeaves ts → AllByRecursion IsSlim ts →
    AllByRecursion IsSmall (flat_map leaves ts)
all_small [] below slim = tt
all_small (t ∷ ts) below slim =
    both_small (leaves t) (flat_map leaves ts) (below.0 slim.0) (all_small ts below.1 slim.1)

pub leaves_small : (t : Tree) → IsSlim t → AllByRecursion IsSmall (leaves t)
leaves_small = tree_induction HasSmallLeaves
    (λ slim. subst (AllByRecursion IsSmall) (sym leaves-Empty) tt)
    (λ rs slim. subst (AllByRecursion IsSmall) (sym (leaves-Leaf rs)) (here-Leaf IsSlimNode rs slim, tt))
    (λ ts below slim. subst (AllByRecursion IsSmall) (sym (leaves-Inner ts))
    (all_small ts below (every_child IsSlimNode ts slim)))

-- What holds of each record holds in each leaf.

parted : (P : Record → Type 0) (xs ys : List Record) → AllByRecursion P (xs ++ ys) →
    AllByRecursion P xs × AllByRecursion P ys
parted P [] ys all = (tt, all)
parted P (x ∷ xs) ys all = let rest = parted P xs ys all.1 in ((all.0, rest.0), rest.1)

abbrev HoldsInLeaves : (Record → Type 0) → Tree → Type 0
HoldsInLeaves P t = AllByRecursion P (records t) → AllByRecursion (λ (rs : List Record). All P rs) (leaves t)

joined_leaves : (Q : List Record → Type 0) (xs ys : List (List Record)) → AllByRecursion Q xs → AllByRecursion Q ys →
    AllByRecursion Q (xs ++ ys)
joined_leaves Q [] ys some others = others
joined_leaves Q (x ∷ xs) ys some others = (some.0, joined_leaves Q xs ys some.1 others)

all_have : (P : Record → Type 0) (ts : List Tree) → AllByRecursion (HoldsInLeaves P) ts →
    AllByRecursion P (flat_map records ts) → AllByRecursion (λ (rs : List Record). All P rs) (flat_map leaves ts)
all_have P [] below all = tt
all_have P (t ∷ ts) below all =
    let two = parted P (records t) (flat_map records ts) all in
    joined_leaves (λ (rs : List Record). All P rs) (leaves t) (flat_map leaves ts) (below.0 two.0)
    (all_have P ts below.1 two.1)

pub leaves_have : (P : Record → Type 0) (t : Tree) → AllByRecursion P (records t) →
    AllByRecursion (λ (rs : List Record). All P rs) (leaves t)
leaves_have P = tree_induction (HoldsInLeaves P)
    (λ all. subst (AllByRecursion (λ (rs : List Record). All P rs)) (sym leaves-Empty) tt)
    (λ rs all. subst (AllByRecursion (λ (us : List Record). All P us)) (sym (leaves-Leaf rs))
    (All-from_recursion P rs (subst (AllByRecursion P) (records-Leaf rs) all), tt))
    (λ ts below all. subst (AllByRecursion (λ (rs : List Record). All P rs)) (sym (leaves-Inner ts))
    (all_have P ts below (subst (AllByRecursion P) (records-Inner ts ∙ flat_map-map (λ list. list) records ts) all)))

pub both_of : {X : Type 0} (P Q : X → Type 0) (xs : List X) → AllByRecursion P xs → AllByRecursion Q xs →
    AllByRecursion (λ x. P x × Q x) xs
both_of P Q [] p q = tt
both_of P Q (x ∷ xs) p q = ((p.0, q.0), both_of P Q xs p.1 q.1)

-- what holds of each image holds of each element, for the image
pub recursion_from_map : {X Y : Type 0} (P : Y → Type 0) (f : X → Y) (xs : List X) →
    AllByRecursion P (map f xs) → AllByRecursion (λ x. P (f x)) xs
recursion_from_map P f [] all = tt
recursion_from_map P f (x ∷ xs) all = (all.0, recursion_from_map P f xs all.1)
