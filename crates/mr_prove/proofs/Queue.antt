-- The queue of a search: its order, and that it grows lighter.
use Rattle.std.proofs.Common.{◌≡◌, ℕ, zero, suc, ◌+◌, ◌*◌, ◌^◌, ◌<◌, ◌≤◌, ◌++◌, true, false, cond, List, [], ◌∷◌, map, length, get_or, take, append_assoc, refl, sym, ap, subst, ◌∙◌, arith}
use Rattle.std.specs.Prelude.{All, filter}
use Rattle.std.specs.List.{AllByRecursion, sum_by}
use Rattle.std.specs.List.Sorted.{IsPermutation}
use Rattle.std.specs.BinaryHeap.{IsUpperBound}
use Rattle.std.specs.Ordering.{nat_cmp, is_lt}
use Rattle.std.proofs.lemmas.Bool.Decides.{nat_tests}
use Rattle.std.proofs.lemmas.Nat.{mul-le}
use Rattle.std.proofs.Math.Nat.{pow-suc, one-le-pow}
use Rattle.std.proofs.lemmas.List.{map-append, length-map}
use Rattle.std.proofs.lemmas.List.Elements.{All-map, filter_more}
use Rattle.std.proofs.lemmas.List.Sorted.{IsPermutation-refl, IsPermutation-trans, IsPermutation-append_comm, IsPermutation-append_right, sum_by-IsPermutation}
use Rattle.std.proofs.lemmas.List.Sums.{sum_by-cons, sum_by-append, sum_by-le}
use Rattle.mr_record.specs.declared.version.Version.{Version}
use Rattle.mr_tree.specs.declared.child.Child.{Child}
use Rattle.mr_proof.specs.declared.question.Around.{Around}
use Rattle.mr_prove.specs.declared.waiting.Waiting.{Waiting}
use Rattle.mr_prove.specs.private.Search.{has_layer, nearest_first, waiting, waiting_of, weight}
use Rattle.mr_prove.proofs.Passing.{sum_of_some}
use Rattle.mr_prove.proofs.Pieces.{sum_by_map}

-- ---- its order

-- none of these is nearer
abbrev pub NoNearer : Waiting → List Waiting → Type 0
NoNearer next pending = AllByRecursion (λ (w : Waiting). next.far ≤ w.far) pending

not_before : (a b : ℕ) → is_lt (nat_cmp a b) ≡ false → b ≤ a
not_before a b h = grind (arith, nat_tests)

pub near_from_bound : (next : Waiting) (rest : List Waiting) → IsUpperBound nearest_first next rest
    → NoNearer next rest
near_from_bound next [] bound = tt
near_from_bound next (w ∷ ws) bound = (not_before w.far next.far bound.0, near_from_bound next ws bound.1)

-- ---- one node more

moved_behind : {X : Type 0} (xs ys zs vs : List X) → IsPermutation xs ys → IsPermutation (vs ++ ys) zs
    → IsPermutation (xs ++ vs) zs
moved_behind xs ys zs vs h k =
    IsPermutation-trans (xs ++ vs) (vs ++ xs) zs (IsPermutation-append_comm xs vs)
    (IsPermutation-trans (vs ++ xs) (vs ++ ys) zs (IsPermutation-append_right vs xs ys h) k)

module _ (a : Around) (v : Version) where
  -- one that has none of the layers does not wait
  pub waits_not : (c : Child) (queue : List Waiting) → has_layer a v c ≡ false
      → IsPermutation (waiting_of a v (c ∷ []) ++ queue) queue
  waits_not c queue e =
      subst (λ (ws : List Waiting). IsPermutation (ws ++ queue) queue)
      (sym (ap (λ b. map (waiting a) (cond b (c ∷ []) [])) e)) (IsPermutation-refl queue)

  pub waits : (c : Child) (queue now : List Waiting) → has_layer a v c ≡ true
      → IsPermutation (waiting a c ∷ queue) now → IsPermutation (waiting_of a v (c ∷ []) ++ queue) now
  waits c queue now e moved =
      subst (λ (ws : List Waiting). IsPermutation (ws ++ queue) now)
      (sym (ap (λ b. map (waiting a) (cond b (c ∷ []) [])) e)) moved

  pub queued_more : (old queue now : List Waiting) (cs : List Child) (i : ℕ) (c : Child) → c ≡ get_or cs i c
      → i < length cs → IsPermutation (old ++ waiting_of a v (take i cs)) queue
      → IsPermutation (waiting_of a v (c ∷ []) ++ queue) now
      → IsPermutation (old ++ waiting_of a v (take (i + 1) cs)) now
  queued_more old queue now cs i c is within so_far moved =
      let test = has_layer a v in
      let first = waiting_of a v (take i cs) in
      let more : waiting_of a v (take (i + 1) cs) ≡ first ++ waiting_of a v (c ∷ []) =
      ap (map (waiting a)) (filter_more test cs i c within)
      ∙ map-append (waiting a) (filter test (take i cs)) (filter test (get_or cs i c ∷ []))
      ∙ ap (λ (d : Child). first ++ waiting_of a v (d ∷ [])) (sym is) in
      subst (λ (ws : List Waiting). IsPermutation ws now)
      (append_assoc old first (waiting_of a v (c ∷ [])) ∙ ap (λ ws. old ++ ws) (sym more))
      (moved_behind (old ++ first) queue now (waiting_of a v (c ∷ [])) so_far moved)

pub nothing_left : (ws : List Waiting) → length ws ≡ 0 → ws ≡ []
nothing_left [] e = refl
nothing_left (w ∷ ws) e = absurd (omega arith)

-- ---- it grows lighter

no_children : (c : Child) (cs : List Child) → c.level ≡ 0 → All (λ (d : Child). d.level + 1 ≡ c.level) cs → cs ≡ []
no_children c [] e lower = refl
no_children c (d ∷ ds) e lower = let first = lower 0 d (omega arith) in absurd (omega arith)

less_weight : (n m w sum : ℕ) → n ≤ 64 → 1 ≤ m → w ≡ m * 65 → sum ≤ n * m → sum < w
less_weight n m w sum few positive e h = let most : n * m ≤ 64 * m = mul-le n m 64 m few (omega arith) in omega arith

same_weight : (d : Child) (n : ℕ) → d.level ≡ n → 65 ^ d.level ≤ 65 ^ n
same_weight d n e = let same : 65 ^ d.level ≡ 65 ^ n = ap (λ n. 65 ^ n) e in omega arith

children_weight : (a : Around) (c : Child) (cs : List Child) (n : ℕ) → c.level ≡ n
    → All (λ (d : Child). d.level + 1 ≡ c.level) cs → length cs ≤ 64
    → sum_by weight (map (waiting a) cs) < 65 ^ c.level
children_weight a c cs zero e lower few =
    let none = no_children c cs e lower in
    let sum : sum_by weight (map (waiting a) cs) ≡ 0 = ap (λ ds. sum_by weight (map (waiting a) ds)) none in
    let power : 65 ^ c.level ≡ 1 = ap (λ n. 65 ^ n) e in
    omega arith
children_weight a c cs (suc n) e lower few =
    let each = All-map (λ (w : Waiting). weight w ≤ 65 ^ n) (waiting a) cs
    (λ i d inside. same_weight (get_or cs i d) n (let one = lower i d inside in omega arith)) in
    let sum = sum_by-le weight (65 ^ n) (map (waiting a) cs) each in
    let count = length-map cs (waiting a) in
    let power : 65 ^ c.level ≡ 65 ^ suc n = ap (λ n. 65 ^ n) e in
    less_weight (length (map (waiting a) cs)) (65 ^ n) (65 ^ c.level) (sum_by weight (map (waiting a) cs))
    (omega arith) (one-le-pow n 65 (omega arith)) (power ∙ pow-suc 65 n) sum

-- also where some of the children do not wait
waiting_weight : (a : Around) (v : Version) (c : Child) (cs : List Child)
    → All (λ (d : Child). d.level + 1 ≡ c.level) cs → length cs ≤ 64
    → sum_by weight (waiting_of a v cs) < 65 ^ c.level
waiting_weight a v c cs lower few =
    let all = children_weight a c cs c.level refl lower few in
    let whole = sum_by_map weight (waiting a) cs in
    let some = sum_by_map weight (waiting a) (filter (has_layer a v) cs) in
    let fewer = sum_of_some (λ (d : Child). weight (waiting a d)) (has_layer a v) cs in
    omega arith

pub lighter : (a : Around) (v : Version) (next : Waiting) (rest pending : List Waiting) (cs : List Child)
    → All (λ (d : Child). d.level + 1 ≡ next.child.level) cs → length cs ≤ 64
    → IsPermutation (rest ++ waiting_of a v cs) pending → sum_by weight pending < sum_by weight (next ∷ rest)
lighter a v next rest pending cs lower few moved =
    let perm = sum_by-IsPermutation weight (rest ++ waiting_of a v cs) pending moved in
    let both = sum_by-append weight rest (waiting_of a v cs) in
    let cons = sum_by-cons weight next rest in
    let light = waiting_weight a v next.child cs lower few in
    omega arith
