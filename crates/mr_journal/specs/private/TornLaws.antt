-- What a crash may leave after one write more.
use Rattle.std.proofs.Common.{◌≡◌, inl, inr, ⊎_elim, ℕ, ◌+◌, ◌<◌, ◌≤◌, min, max, cond, ◌&&◌, List, [], ◌∷◌, length, get_or, map, ltb, leb, refl, sym, ◌∙◌, arith}
use Rattle.std.proofs.lemmas.List.FromFn.{length-map-range_with_len, get_or-map-range_with_len}
use Rattle.std.specs.List.{range_with_len}
use Rattle.std.proofs.lemmas.Bool.{cases_lt, cond-true, cond-false, and_from, and_left, and_right, lt-ltb, le-leb, lt-leb, le-ltb}
use Rattle.mr_outside.specs.Files.{replaced}
use Rattle.mr_journal.specs.Torn.{Range, greatest, Torn, TornAt}
use Rattle.mr_journal.specs.private.ReplacedLaws.{length-replaced, replaced_before, replaced_behind}

pub greatest_le : (n : ℕ) (rs : List Range) → n ≤ greatest n rs
greatest_le n [] = omega arith
greatest_le n (r ∷ rs) = omega (arith, greatest_le n rs)

pub greatest_more : (m n : ℕ) (rs : List Range) → m ≤ n → greatest m rs ≤ greatest n rs
greatest_more m n [] le = le
greatest_more m n (r ∷ rs) le = omega (arith, greatest_more m n rs le)

pub greatest_from : (m n : ℕ) (rs : List Range) → greatest m rs ≤ max m (greatest n rs)
greatest_from m n [] = omega arith
greatest_from m n (r ∷ rs) = omega (arith, greatest_from m n rs)

pub torn_same : (rs : List Range) (m : List ℕ) → Torn rs m m
torn_same rs m = record {
  no_shorter = omega arith;
  no_longer = greatest_le (length m) rs;
  else_stays = λ i lt un. refl;
}

pub torn_trans : (rs : List Range) (a b c : List ℕ) → Torn rs a b → Torn rs b c → Torn rs a c
torn_trans rs a b c s t = record {
  no_shorter = omega (arith, s.no_shorter, t.no_shorter);
  no_longer = omega (
    arith,
    s.no_longer,
    t.no_longer,
    greatest_from (length b) (length a) rs,
    greatest_le (length a) rs,
  );
  else_stays = λ i lt un. t.else_stays i (omega (arith, s.no_shorter)) un ∙ s.else_stays i lt un;
}

-- one range more
pub torn_then : (rs : List Range) (at n : ℕ) (a b c : List ℕ) → Torn rs a b → TornAt at n b c
    → Torn ((at, n) ∷ rs) a c
torn_then rs at n a b c s t = record {
  no_shorter = omega (arith, s.no_shorter, t.no_shorter);
  no_longer = omega (arith, s.no_longer, t.no_longer);
  else_stays = λ i lt un. t.else_stays i (omega (arith, s.no_shorter))
      (λ x. ⊎_elim (λ y. un (inl y)) (λ y. y) x) ∙ s.else_stays i lt (λ x. un (inr x));
}

pub torn_put : (at n : ℕ) (bytes m : List ℕ) → length bytes ≤ n
    → TornAt at n m (replaced at bytes m)
torn_put at n bytes m le = record {
  no_shorter = omega (arith, length-replaced at bytes m);
  no_longer = omega (arith, length-replaced at bytes m);
  else_stays = λ i lt un. ⊎_elim
      (λ low. replaced_before at bytes m i low lt)
      (λ high. ⊎_elim (λ within. absurd (un (inl (high, within))))
      (λ past. replaced_behind at bytes m i (omega arith) (omega arith)) (cases_lt i (at + n)))
      (cases_lt i at);
}

-- what stood at a place before a write of one range came last
abbrev cell : ℕ → ℕ → List ℕ → List ℕ → ℕ → ℕ
cell at n a c i = cond (ltb i (length a) && (leb at i && ltb i (at + n))) (get_or a i 0)
    (get_or c i 0)

cell_touched : (at n : ℕ) (a c : List ℕ) (i : ℕ) → i < length a → at ≤ i → i < at + n
    → cell at n a c i ≡ get_or a i 0
cell_touched at n a c i x y z = cond-true (ltb i (length a) && (leb at i && ltb i (at + n))) _ _
    (and_from _ _ (lt-ltb _ _ x) (and_from _ _ (le-leb _ _ y) (lt-ltb _ _ z)))

cell_low : (at n : ℕ) (a c : List ℕ) (i : ℕ) → i < at → cell at n a c i ≡ get_or c i 0
cell_low at n a c i low = cond-false (ltb i (length a) && (leb at i && ltb i (at + n))) _ _
    (and_right (ltb i (length a)) _ (and_left _ _ (lt-leb at i low)))

cell_high : (at n : ℕ) (a c : List ℕ) (i : ℕ) → at + n ≤ i → cell at n a c i ≡ get_or c i 0
cell_high at n a c i high = cond-false (ltb i (length a) && (leb at i && ltb i (at + n))) _ _
    (and_right (ltb i (length a)) _ (and_right (leb at i) _ (le-ltb _ _ high)))

-- What a crash may leave after a write is what it might have left before, with that range torn.
pub torn_split : (rs : List Range) (at n : ℕ) (a c : List ℕ) → Torn ((at, n) ∷ rs) a c
    → (b : List ℕ) × Torn rs a b × TornAt at n b c
torn_split rs at n a c t =
    let size = min (length c) (greatest (length a) rs) in
    let b = map (cell at n a c) (range_with_len 0 size) in
    let long : length b ≡ size = length-map-range_with_len (cell at n a c) 0 size in
    let at_cell : (i : ℕ) → i < size → get_or b i 0
    ≡ cell at n a c i = λ i lt. get_or-map-range_with_len (cell at n a c) 0 size i i 0 lt
    (omega arith) in (
      b,
      record {
        no_shorter = omega (arith, long, t.no_shorter, greatest_le (length a) rs);
        no_longer = omega (arith, long);
        else_stays = λ i lt un. at_cell i (omega (arith, t.no_shorter, greatest_le (length a) rs))
            ∙ ⊎_elim
            (λ low. cell_low at n a c i low
            ∙ t.else_stays i lt (λ x. ⊎_elim (λ y. absurd (omega (arith, y.0))) un x))
            (λ high. ⊎_elim
            (λ within. cell_touched at n a c i lt high within)
            (λ past. cell_high at n a c i past
            ∙ t.else_stays i lt (λ x. ⊎_elim (λ y. absurd (omega (arith, y.1))) un x))
            (cases_lt i (at + n)))
            (cases_lt i at);
      },
      record {
        no_shorter = omega (arith, long);
        no_longer = omega (arith, long, t.no_longer);
        else_stays = λ i lt un. sym (at_cell i (omega (arith, long)) ∙ ⊎_elim
            (λ low. cell_low at n a c i low)
            (λ high. ⊎_elim (λ within. absurd (un (inl (high, within))))
            (λ past. cell_high at n a c i past) (cases_lt i (at + n)))
            (cases_lt i at));
      },
    )
