-- Lists cut into even groups, and groups into even slices. This file names nothing of the source.
use Rattle.std.specs.Prelude.{ℕ, zero, suc, ◌+◌, ◌*◌, ◌/◌, nat_le, List, [], ◌∷◌, ◌++◌, slice_range}
use Rattle.mr_pack.specs.Least.{least}

-- the list cut at some places: part i has the positions from `start i` up to, and without,
-- `start (i + 1)`
abbrev pub parts : {A : Type 0} → (start : ℕ → ℕ) → (count : ℕ) → List A → List (List A)
parts start zero xs = []
parts start (suc i) xs = parts start i xs ++ slice_range xs (start i) (start (i + 1)) ∷ []

-- how many groups of at most `capacity` entries n entries need
unfoldable pub group_count : (n capacity : ℕ) → ℕ
group_count n capacity = least (λ p. nat_le n (p * capacity)) n

-- how many slices p groups are cut into: the sides of the least square with as many places
unfoldable pub slice_count : (p : ℕ) → ℕ
slice_count p = least (λ s. nat_le p (s * s)) p

-- where group i of p groups of n entries begins, which is where the group before it ends
abbrev pub group_start : (n p i : ℕ) → ℕ
group_start n p i = i * n / p

-- where slice j of s slices begins: behind the first j * p / s groups
abbrev pub slice_start : (n p s j : ℕ) → ℕ
slice_start n p s j = group_start n p (j * p / s)
