-- What stands in the place of each kind of node.
use Rattle.std.proofs.Common.{◌≡◌, Bool, true, false, ◌≤◌, ℕ, zero, suc, ◌<◌, List, [], ◌∷◌, ◌++◌, length, map, take, drop, get_or, refl, sym, ap, ◌∙◌, arith}
use Rattle.std.specs.Prelude.{nat_lt, if◌then◌else◌}
use Rattle.std.proofs.lemmas.Bool.Decides.{nat_tests}
use Rattle.mr_record.specs.declared.record.Record.{Record}
use Rattle.mr_tree.specs.declared.tree.Tree.{Tree}
use Rattle.mr_tree.specs.declared.tree.Tree.TheVariants as tree
use Rattle.mr_tree.specs.declared.tree.Tree.TheOpen.{Empty, Leaf, Inner}
use Rattle.mr_tree.specs.declared.tree.Tree.TheFolds.{para-roll-Tree}
use Rattle.mr_split.specs.Choice.{choose}
use Rattle.mr_split.specs.Split.{sides}
use Rattle.mr_grow.specs.Parts.{first_part, second_part}
use Rattle.mr_grow.specs.Grow.{outline, grown, grown_step, in_place, leaves_over, nodes_over}

-- each item beside what f makes of it
abbrev pub beside : {X Y : Type 0} → (X → Y) → List X → List (X × Y)
beside f xs = map (λ x. (x, f x)) xs

pub grown-Empty : (one : Record) → grown one tree.Empty ≡ tree.Leaf (one ∷ []) ∷ []
grown-Empty one = ap (grown one) (sym tree.rolls-Empty) ∙ para-roll-Tree (List Tree) (grown_step one) Empty

pub grown-Leaf : (one : Record) (rs : List Record) → grown one (tree.Leaf rs) ≡ leaves_over (rs ++ one ∷ [])
grown-Leaf one rs = ap (grown one) (sym (tree.rolls-Leaf rs)) ∙ para-roll-Tree (List Tree) (grown_step one) (Leaf rs)

rects_beside : (f : Tree → List Tree) (ts : List Tree) → map (λ (c : Tree × List Tree). outline c.0) (beside f ts) ≡
    map outline ts
rects_beside f [] = refl
rects_beside f (t ∷ ts) = ap (λ us. outline t ∷ us) (rects_beside f ts)

pub grown-Inner : (one : Record) (ts : List Tree) → grown one (tree.Inner ts) ≡ nodes_over
    (in_place (choose (map outline ts) one.rect) (beside (grown one) ts))
grown-Inner one ts =
    ap (grown one) (sym (tree.rolls-Inner ts)) ∙ para-roll-Tree (List Tree) (grown_step one) (Inner ts)
    ∙ ap (λ rects. nodes_over (in_place (choose rects one.rect) (beside (grown one) ts)))
    (rects_beside (grown one) ts)

pub firsts : {X Y : Type 0} (f : X → Y) (xs : List X) → map (λ (c : X × Y). c.0) (beside f xs) ≡ xs
firsts f [] = refl
firsts f (x ∷ xs) = ap (λ us. x ∷ us) (firsts f xs)

pub in_place_is : {X : Type 0} (f : X → List X) (n : ℕ) (xs : List X) (x : X) → n < length xs → x ≡ get_or xs n x →
    in_place n (beside f xs) ≡ take n xs ++ (f x ++ drop (suc n) xs)
in_place_is f n [] x within is = absurd (omega (arith, within))
in_place_is f zero (y ∷ ys) x within is = λ i. f (sym is i) ++ firsts f ys i
in_place_is f (suc n) (y ∷ ys) x within is = ap (λ us. y ∷ us) (in_place_is f n ys x (omega (arith, within)) is)

pub rest_of_removed : {X : Type 0} (n : ℕ) (xs : List X) → n < length xs →
    (take n (take n xs ++ drop (suc n) xs) ≡ take n xs) × (drop n (take n xs ++ drop (suc n) xs) ≡ drop (suc n) xs)
rest_of_removed n [] within = absurd (omega (arith, within))
rest_of_removed zero (x ∷ xs) within = (refl, refl)
rest_of_removed (suc n) (x ∷ xs) within = let r = rest_of_removed n xs (omega (arith, within)) in
    (ap (λ us. x ∷ us) r.0, r.1)

-- the code's way: the child is taken out, and what stands in its place is put in
pub grown_with : (one : Record) (ts left back new : List Tree) (at : ℕ) (child : Tree) → at ≡ choose (map outline ts)
    one.rect → at < length ts → child ≡ get_or ts at child →
    left ≡ take at ts ++ drop (suc at) ts → new ≡ grown one child → back ≡ take at left ++ (new ++ drop at left) →
    nodes_over back ≡ grown one (tree.Inner ts)
grown_with one ts left back new at child here within is removed grows put =
    let rest = rest_of_removed at ts within in
    ap nodes_over
    (put ∙ (λ i. take at (removed i) ++ (grows i ++ drop at (removed i))) ∙
    (λ i. rest.0 i ++ (grown one child ++ rest.1 i))
    ∙ sym (in_place_is (grown one) at ts child within is) ∙ ap (λ n. in_place n (beside (grown one) ts)) here)
    ∙ sym (grown-Inner one ts)

-- without a split

pub leaves_one : (rs : List Record) → length rs ≤ 16 → leaves_over rs ≡ tree.Leaf rs ∷ []
leaves_one rs few = at (nat_lt 16 (length rs)) refl
  where
    at : (b : Bool) → nat_lt 16 (length rs) ≡ b →
        map (λ group. tree.Leaf group) (if b then first_part (sides (map (λ (r : Record). r.rect) rs) 6) rs ∷
        second_part (sides (map (λ (r : Record). r.rect) rs) 6) rs ∷ [] else rs ∷ []) ≡ tree.Leaf rs ∷ []
    at true e = absurd (grind (arith, nat_tests, few, e))
    at false e = refl

pub nodes_one : (ts : List Tree) → length ts ≤ 64 → nodes_over ts ≡ tree.Inner ts ∷ []
nodes_one ts few = at (nat_lt 64 (length ts)) refl
  where
    at : (b : Bool) → nat_lt 64 (length ts) ≡ b →
        map (λ group. tree.Inner group) (if b then first_part (sides (map outline ts) 24) ts ∷ second_part
        (sides (map outline ts) 24) ts ∷ [] else ts ∷ []) ≡ tree.Inner ts ∷ []
    at true e = absurd (grind (arith, nat_tests, few, e))
    at false e = refl

pub grown_of_empty : (one : Record) → grown one tree.Empty ≡ leaves_over (one ∷ [])
grown_of_empty one = grown-Empty one ∙ sym (leaves_one (one ∷ []) (omega arith))

pub grown_by_code : (one : Record) (ts items left back new : List Tree) (at : ℕ) (child parent : Tree)
    {seen : List Tree} → parent ≡ tree.Inner ts → items ≡ ts → seen ≡ items → at ≡ choose (map outline seen)
    one.rect → at < length items → child ≡ get_or items at child →
    left ≡ take at items ++ drop (suc at) items → new ≡ grown one child → back ≡ take at left ++ (new ++ drop at left)
    → nodes_over back ≡ grown one parent
grown_by_code one ts items left back new at child parent is same looked here within at_place removed grows put =
    grown_with one items left back new at child (here ∙ ap (λ us. choose (map outline us) one.rect) looked) within
    at_place removed grows put
    ∙ ap (λ us. grown one (tree.Inner us)) same ∙ ap (grown one) (sym is)

-- with a split

pub leaves_two : (rs : List Record) → 16 < length rs →
    let bs = sides (map (λ (r : Record). r.rect) rs) 6 in leaves_over rs ≡ tree.Leaf (first_part bs rs) ∷ tree.Leaf
    (second_part bs rs) ∷ []
leaves_two rs many = at (nat_lt 16 (length rs)) refl
  where
    at : (b : Bool) → nat_lt 16 (length rs) ≡ b →
        map (λ group. tree.Leaf group) (if b then first_part (sides (map (λ (r : Record). r.rect) rs) 6) rs ∷
        second_part (sides (map (λ (r : Record). r.rect) rs) 6) rs ∷ [] else rs ∷ [])
        ≡ tree.Leaf (first_part (sides (map (λ (r : Record). r.rect) rs) 6) rs) ∷ tree.Leaf
        (second_part (sides (map (λ (r : Record). r.rect) rs) 6) rs) ∷ []
    at true e = refl
    at false e = absurd (grind (arith, nat_tests, many, e))

pub nodes_two : (ts : List Tree) → 64 < length ts →
    let bs = sides (map outline ts) 24 in nodes_over ts ≡ tree.Inner (first_part bs ts) ∷ tree.Inner
    (second_part bs ts) ∷ []
nodes_two ts many = at (nat_lt 64 (length ts)) refl
  where
    at : (b : Bool) → nat_lt 64 (length ts) ≡ b →
        map (λ group. tree.Inner group) (if b then first_part (sides (map outline ts) 24) ts ∷ second_part
        (sides (map outline ts) 24) ts ∷ [] else ts ∷ [])
        ≡ tree.Inner (first_part (sides (map outline ts) 24) ts) ∷ tree.Inner (second_part (sides (map outline ts) 24)
        ts) ∷ []
    at true e = refl
    at false e = absurd (grind (arith, nat_tests, many, e))
