-- The levels of entries, and how many there are.
use Rattle.std.proofs.Common.{◌≡◌, Bool, true, false, ℕ, zero, suc, ◌+◌, ◌*◌, ◌<◌, ◌≤◌, List, [], ◌∷◌, ◌++◌, length, take, drop, get_or, sym, ap, subst, ◌∙◌, arith}
use Rattle.std.specs.Prelude.{Option, Some, None}
use Rattle.std.specs.List.{AllByRecursion}
use Rattle.std.specs.Option.{option_to_list}
use Rattle.std.proofs.lemmas.List.{length-append}
use Rattle.mr_geom.specs.Rectangle.{Rectangle}
use Rattle.mr_tree.specs.declared.child.Child.{Child}
use Rattle.mr_split.specs.Split.{sides}
use Rattle.mr_grow.specs.Parts.{first_part, second_part}
use Rattle.mr_grow.proofs.Cutting.{splits}
use Rattle.mr_edit.specs.Held.{entries}
use Rattle.mr_edit.specs.Outcome.{HalvesList}
use Rattle.mr_edit.specs.declared.inserted.Inserted.{Inserted}

pub all_append : {X : Type 0} (P : X → Type 0) (xs ys : List X) → AllByRecursion P xs → AllByRecursion P ys →
    AllByRecursion P (xs ++ ys)
all_append P [] ys all more = more
all_append P (x ∷ xs) ys all more = (all.0, all_append P xs ys all.1 more)

pub all_take : {X : Type 0} (P : X → Type 0) (n : ℕ) (xs : List X) → AllByRecursion P xs → AllByRecursion P (take n xs)
all_take P zero xs all = tt
all_take P (suc n) [] all = tt
all_take P (suc n) (x ∷ xs) all = (all.0, all_take P n xs all.1)

pub all_drop : {X : Type 0} (P : X → Type 0) (n : ℕ) (xs : List X) → AllByRecursion P xs → AllByRecursion P (drop n xs)
all_drop P zero xs all = all
all_drop P (suc n) [] all = tt
all_drop P (suc n) (x ∷ xs) all = all_drop P n xs all.1

pub all_at : {X : Type 0} (P : X → Type 0) (n : ℕ) (xs : List X) (d : X) → n < length xs → AllByRecursion P xs →
    P (get_or xs n d)
all_at P n [] d within all = absurd (omega (arith, within))
all_at P zero (x ∷ xs) d within all = all.0
all_at P (suc n) (x ∷ xs) d within all = all_at P n xs d (omega (arith, within)) all.1

abbrev pub AreBelow : ℕ → List Child → Type 0
AreBelow level cs = AllByRecursion (λ (c : Child). c.level + 1 ≡ level) cs

abbrev pub AreOf : ℕ → List Child → Type 0
AreOf level cs = AllByRecursion (λ (c : Child). c.level ≡ level) cs

one_up : (level k : ℕ) (cs : List Child) → k + 1 ≡ level → AreOf k cs → AreBelow level cs
one_up level k [] up all = tt
one_up level k (c ∷ cs) up all = (omega (arith, all.0, up), one_up level k cs up all.1)

-- what stands in an entry's place has its level
pub replaced_below : (level at : ℕ) (cs new : List Child) (d : Child) → AreBelow level cs → at < length cs →
    d ≡ get_or cs at d → AreOf d.level new →
    AreBelow level (take at cs ++ (new ++ drop (suc at) cs))
replaced_below level at cs new d all within is levels =
    let up : d.level + 1 ≡ level = subst (λ (c : Child). c.level + 1 ≡ level) (sym is)
    (all_at (λ (c : Child). c.level + 1 ≡ level) at cs d within all) in
    all_append (λ (c : Child). c.level + 1 ≡ level) (take at cs) (new ++ drop (suc at) cs)
    (all_take (λ (c : Child). c.level + 1 ≡ level) at cs all)
    (all_append (λ (c : Child). c.level + 1 ≡ level) new (drop (suc at) cs) (one_up level d.level new up levels)
    (all_drop (λ (c : Child). c.level + 1 ≡ level) (suc at) cs all))

-- what holds of the other entries and of these holds then of all
pub replaced_all : {X : Type 0} (P : X → Type 0) (at : ℕ) (xs new all : List X) →
    all ≡ take at xs ++ (new ++ drop (suc at) xs) → AllByRecursion P xs → AllByRecursion P new → AllByRecursion P all
replaced_all P at xs new all is old more =
    subst (AllByRecursion P) (sym is)
    (all_append P (take at xs) (new ++ drop (suc at) xs) (all_take P at xs old)
    (all_append P new (drop (suc at) xs) more (all_drop P (suc at) xs old)))

-- and there is one entry more at most
pub replaced_length : {X : Type 0} (at : ℕ) (xs new : List X) → at < length xs →
    length (take at xs ++ (new ++ drop (suc at) xs)) + 1 ≡ length xs + length new
replaced_length at [] new within = absurd (omega (arith, within))
replaced_length zero (x ∷ xs) new within = omega (arith, length-append new xs)
replaced_length (suc at) (x ∷ xs) new within = omega (arith, replaced_length at xs new (omega (arith, within)))

pub few_entries : (s : Inserted) → length (entries s) ≤ 2
few_entries s = at s.second
  where
    at : (o : Option Child) → length (s.first ∷ option_to_list o) ≤ 2
    at None = omega arith
    at (Some c) = omega arith

parts_length : {X : Type 0} (bs : List Bool) (xs : List X) → length (first_part bs xs) + length (second_part bs xs) ≤
    length xs
parts_length [] xs = omega arith
parts_length (b ∷ bs) [] = omega arith
parts_length (true ∷ bs) (x ∷ xs) = omega (arith, parts_length bs xs)
parts_length (false ∷ bs) (x ∷ xs) = omega (arith, parts_length bs xs)

-- the parts of a list that is split
pub halved : {X : Type 0} (least most : ℕ) (rects : List Rectangle) (xs front back : List X) (bs : List Bool) →
    length xs ≡ length rects → 1 ≤ least → 2 * least ≤ most → length xs ≡ most + 1 →
    bs ≡ sides rects least → front ≡ first_part bs xs → back ≡ second_part bs xs → HalvesList least most rects xs
    front back
halved least most rects xs front back bs same some half long is first' second' =
    let s = splits rects least xs same some (omega (arith, half, long)) in
    let n = parts_length (sides rects least) xs in
    let fronts : front ≡ first_part (sides rects least) xs = first' ∙ ap (λ cs. first_part cs xs) is in
    let backs : back ≡ second_part (sides rects least) xs = second' ∙ ap (λ cs. second_part cs xs) is in
    let f : length front ≡ length (first_part (sides rects least) xs) = ap length fronts in
    let b : length back ≡ length (second_part (sides rects least) xs) = ap length backs in
    record {
      first_is = fronts;
      second_is = backs;
      first_size = record { least_is = omega (arith, s.first, f); most_is = omega (arith, s.second, n, long, some, f) };
      second_size = record {
        least_is = omega (arith, s.second, b);
        most_is =
            omega (arith, s.first, n, long, some, b);
      };
    }

pub first_below : (level : ℕ) (bs : List Bool) (cs : List Child) → AreBelow level cs → AreBelow level (first_part bs cs)
first_below level [] cs all = all
first_below level (b ∷ bs) [] all = tt
first_below level (true ∷ bs) (c ∷ cs) all = first_below level bs cs all.1
first_below level (false ∷ bs) (c ∷ cs) all = (all.0, first_below level bs cs all.1)

pub second_below : (level : ℕ) (bs : List Bool) (cs : List Child) → AreBelow level cs →
    AreBelow level (second_part bs cs)
second_below level [] cs all = tt
second_below level (b ∷ bs) [] all = tt
second_below level (true ∷ bs) (c ∷ cs) all = (all.0, second_below level bs cs all.1)
second_below level (false ∷ bs) (c ∷ cs) all = second_below level bs cs all.1
