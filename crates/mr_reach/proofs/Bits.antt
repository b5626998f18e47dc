-- Marks as bits, in runs.
use Rattle.std.proofs.Common.{◌≡◌, ℕ, zero, suc, ◌+◌, ◌-◌, ◌*◌, ◌/◌, ◌%◌, ◌^◌, ◌≤◌, ◌<◌, count_ones, bit_and, Bool, true, false, cond, List, [], ◌∷◌, ◌++◌, length, get_or, take, drop, refl, sym, ap, subst, ◌∙◌, inl, inr, arith}
use Rattle.std.proofs.lemmas.Bool.{cases_lt}
use Rattle.std.proofs.lemmas.Nat.{and_mask, one_shl, mod-mul-add, div-add-mod', mod_below, pow_pos}
use Rattle.std.proofs.Math.Nat.{pow-succ', zero-mod, pow-le-pow_right}
use Rattle.std.proofs.lemmas.Simd.{ones-mask_l}
use Rattle.std.proofs.lemmas.List.{map-id, drop_more, take-take, drop-drop, take_all, length-drop, length-take, get_or_append_left, get_or_push, length_push}
use Rattle.std.proofs.lemmas.List.Sums.{count_by-le-length}
use Rattle.std.proofs.Math.Seq.{take-add}
use lib.Lanes.{mask_l}
use mir.Val.{bool_byte}
use Rattle.mr_reach.specs.private.Merging.{ones}
use Rattle.mr_reach.specs.private.Marks.{mask, run_rank, IsRank}
use Rattle.mr_reach.specs.declared.marks.Run.{Run}
use Rattle.mr_reach.proofs.Blocks.{ones_parts}

-- ---- bits

mask_is : (ms : List Bool) → mask ms ≡ mask_l ms
mask_is [] = refl
mask_is (b ∷ bs) = ap (λ (n : ℕ). cond b 1 0 + 2 * n) (mask_is bs)

pub ones_mask : (ms : List Bool) → count_ones (mask ms) ≡ ones ms
ones_mask ms =
    ap count_ones (mask_is ms ∙ ap mask_l (sym (map-id ms))) ∙ ones-mask_l (λ (b : Bool). b) ms

doubled : (c m p : ℕ) → c < 2 → 0 < p → (c + 2 * m) % (2 * p) ≡ c + 2 * (m % p)
doubled c m p low some =
    let low_rest : m % p < p = mod_below m p some in
    let within : c + 2 * (m % p) < 2 * p = omega arith in
    let parts : c + 2 * m ≡ m / p * (2 * p) + (c + 2 * (m % p)) = parts_are (m / p) (m % p) (div-add-mod' m p) in
    ap (λ (n : ℕ). n % (2 * p)) parts ∙ mod-mul-add (m / p) (2 * p) (c + 2 * (m % p)) within
  where
    parts_are : (q r : ℕ) → q * p + r ≡ m → c + 2 * m ≡ q * (2 * p) + (c + 2 * r)
    parts_are q r e =
        let twice : q * (2 * p) ≡ 2 * (q * p) = grind arith in
        omega arith

bit_low : (b : Bool) → cond b 1 0 < 2
bit_low true = omega arith
bit_low false = omega arith

pub byte_low : (b : Bool) → bool_byte b < 2
byte_low true = omega arith
byte_low false = omega arith

pub mask_take : (k : ℕ) (ms : List Bool) → mask ms % 2 ^ k ≡ mask (take k ms)
mask_take zero ms = omega arith
mask_take (suc k) [] = zero-mod (2 ^ suc k)
mask_take (suc k) (b ∷ bs) =
    ap (λ (p : ℕ). (cond b 1 0 + 2 * mask bs) % p) (pow-succ' 2 k)
    ∙ doubled (cond b 1 0) (mask bs) (2 ^ k) (bit_low b) (pow_pos k)
    ∙ ap (λ (n : ℕ). cond b 1 0 + 2 * n) (mask_take k bs)

mask_below : (ms : List Bool) → mask ms < 2 ^ length ms
mask_below [] = omega arith
mask_below (b ∷ bs) =
    let rest = mask_below bs in
    let low = bit_low b in
    let more = pow-succ' 2 (length bs) in
    omega arith

-- another bit fits, where there are at most 63
pub mask_fits : (marks : List Bool) (at : ℕ) → 0 < at → length marks ≤ 64 → mask (drop at marks) < 2 ^ 63
mask_fits marks at some short =
    let long : length (drop at marks) ≤ 63 = omega (arith, length-drop at marks) in
    let low = mask_below (drop at marks) in
    let high : 2 ^ length (drop at marks) ≤ 2 ^ 63 = pow-le-pow_right (omega arith) long in
    omega arith

pub mask_more : (marks : List Bool) (at : ℕ) (b : Bool) → 0 < at → at ≤ length marks → b ≡ get_or marks (at - 1) b
    → mask (drop (at - 1) marks) ≡ 2 * mask (drop at marks) + cond b 1 0
mask_more marks at b some within is =
    let below : at - 1 < length marks = omega arith in
    let next : at - 1 + 1 ≡ at = omega arith in
    ap mask (drop_more marks (at - 1) b below)
    ∙ (λ i. cond (sym is i) 1 0 + 2 * mask (drop (next i) marks))
    ∙ turned (cond b 1 0) (2 * mask (drop at marks))
  where
    turned : (m n : ℕ) → m + n ≡ n + m
    turned m n = omega arith

pub low_bits : (n k : ℕ) → k < 64 → bit_and n (1 * 2 ^ k % 2 ^ 64 - 1) ≡ n % 2 ^ k
low_bits n k low = ap (λ (m : ℕ). bit_and n (m - 1)) (one_shl k 64 low) ∙ and_mask n k

-- ---- runs

pub record IsRun (marks : List Bool) (j : ℕ) (run : Run) : Type 0 where
  pub before : run.before ≡ ones (take (64 * j) marks)
  pub bits : run.bits ≡ mask (take 64 (drop (64 * j) marks))

pub record RunsSome (marks rest : List Bool) (before : ℕ) (runs : List Run) : Type 0 where
  pub rest_is : rest ≡ drop (64 * length runs) marks
  pub within : 64 * length runs ≤ length marks
  pub before_is : before ≡ ones (take (64 * length runs) marks)
  pub each : (j : ℕ) (d : Run) → j < length runs → IsRun marks j (get_or runs j d)

pub runs_none : (marks : List Bool) → RunsSome marks marks 0 []
runs_none marks = record {
  rest_is = refl;
  within = omega arith;
  before_is = refl;
  each = λ j d low. absurd (omega arith);
}

each_more : (marks : List Bool) (runs : List Run) (run : Run)
    → ((j : ℕ) (d : Run) → j < length runs → IsRun marks j (get_or runs j d)) → IsRun marks (length runs) run
    → (j : ℕ) (d : Run) → j < length runs + 1 → IsRun marks j (get_or (runs ++ run ∷ []) j d)
each_more marks runs run each here j d low = elim (cases_lt j (length runs)) [
  | inl before ↦
      subst (IsRun marks j) (sym (get_or_append_left runs (run ∷ []) d j before)) (each j d before)
  | inr after ↦
      let is : length runs ≡ j = omega arith in
      subst (λ (i : ℕ). IsRun marks i (get_or (runs ++ run ∷ []) j d)) is
      (subst (IsRun marks (length runs)) (sym (get_or_push runs run d j is)) here)
]

pub runs_more : (marks rest row behind : List Bool) (before count after : ℕ) (runs new : List Run) (bits : ℕ)
    → RunsSome marks rest before runs → 64 ≤ length rest → row ≡ take 64 rest → behind ≡ drop 64 rest
    → bits ≡ mask row → new ≡ runs ++ record { before = before; bits = bits } ∷ [] → count ≡ count_ones bits
    → after ≡ before + count → RunsSome marks behind after new
runs_more marks rest row behind before count after runs new bits so some row_is behind_is bits_is new_is
    count_is after_is =
    let left = ap length so.rest_is ∙ length-drop (64 * length runs) marks in
    let grown : length new ≡ length runs + 1 = ap length new_is ∙ length_push runs run in
    let line : row ≡ take 64 (drop (64 * length runs) marks) = row_is ∙ ap (take 64) so.rest_is in
    let here : IsRun marks (length runs) run = record { before = so.before_is; bits = bits_is ∙ ap mask line } in
    let next : 64 * length runs + 64 ≡ 64 * length new = omega arith in
    record {
      rest_is = behind_is ∙ ap (drop 64) so.rest_is ∙ drop-drop 64 (64 * length runs) marks
          ∙ ap (λ (n : ℕ). drop n marks) next;
      within = omega arith;
      before_is = after_is ∙ (λ i. so.before_is i + (count_is ∙ ap count_ones bits_is ∙ ones_mask row ∙ ap ones line) i)
          ∙ sym (ones_parts (take (64 * length runs) marks) (take 64 (drop (64 * length runs) marks)))
          ∙ ap ones (sym (take-add (64 * length runs) 64 marks)) ∙ ap (λ (n : ℕ). ones (take n marks)) next;
      each = subst (λ (rs : List Run). (j : ℕ) (d : Run) → j < length rs → IsRun marks j (get_or rs j d)) (sym new_is)
          (λ j d low. each_more marks runs run so.each here j d (omega (arith, length_push runs run)));
    }
  where
    run : Run
    run = record { before = before; bits = bits }

-- how far the sum of the next run goes
pub runs_fit : (marks rest row : List Bool) (before count : ℕ) (runs : List Run) (bits : ℕ)
    → RunsSome marks rest before runs → row ≡ take 64 rest → bits ≡ mask row → count ≡ count_ones bits
    → before + count ≤ length marks
runs_fit marks rest row before count runs bits so row_is bits_is count_is =
    let left = ap length so.rest_is ∙ length-drop (64 * length runs) marks in
    let within = so.within in
    let many = so.before_is in
    let first = count_by-le-length (λ (b : Bool). b) (take (64 * length runs) marks) in
    let second = count_by-le-length (λ (b : Bool). b) row in
    let counted : count ≡ ones row = count_is ∙ ap count_ones bits_is ∙ ones_mask row in
    let short = ap length row_is ∙ length-take 64 rest in
    omega (arith, length-take (64 * length runs) marks)

pub runs_all : (marks rest : List Bool) (before : ℕ) (runs new : List Run) (bits : ℕ)
    → RunsSome marks rest before runs → length rest < 64 → bits ≡ mask rest
    → new ≡ runs ++ record { before = before; bits = bits } ∷ [] → IsRank marks new
runs_all marks rest before runs new bits so short bits_is new_is =
    let left = ap length so.rest_is ∙ length-drop (64 * length runs) marks in
    let grown : length new ≡ length runs + 1 = ap length new_is ∙ length_push runs run in
    let within = so.within in
    record {
      room = omega arith;
      is = λ at low.
          let below : at / 64 < length new = omega arith in
          by_run at low (get_or new (at / 64) (record { before = 0; bits = 0 }))
          (every (at / 64) (record { before = 0; bits = 0 }) below);
    }
  where
    run : Run
    run = record { before = before; bits = bits }

    here : IsRun marks (length runs) run
    here =
        let low : length rest ≤ 64 = omega arith in
        record {
          before = so.before_is;
          bits = bits_is ∙ ap mask (sym (take_all 64 rest low) ∙ ap (take 64) so.rest_is);
        }

    every : (j : ℕ) (d : Run) → j < length new → IsRun marks j (get_or new j d)
    every = subst (λ (rs : List Run). (j : ℕ) (d : Run) → j < length rs → IsRun marks j (get_or rs j d)) (sym new_is)
        (λ j d low. each_more marks runs run so.each here j d (omega (arith, length_push runs run)))

    by_run : (at : ℕ) → at ≤ length marks → (r : Run) → IsRun marks (at / 64) r
        → run_rank r (at % 64) ≡ ones (take at marks)
    by_run at low r is =
        let j = at / 64 in
        let k = at % 64 in
        let most : at % 64 ≤ 64 = omega arith in
        let whole : 64 * (at / 64) + at % 64 ≡ at = omega arith in
        (λ i. is.before i + count_ones (is.bits i % 2 ^ k))
        ∙ ap (λ (n : ℕ). ones (take (64 * j) marks) + count_ones n)
        (mask_take k (take 64 (drop (64 * j) marks)) ∙ ap mask (take-take k 64 (drop (64 * j) marks) most))
        ∙ ap (λ (n : ℕ). ones (take (64 * j) marks) + n) (ones_mask (take k (drop (64 * j) marks)))
        ∙ sym (ones_parts (take (64 * j) marks) (take k (drop (64 * j) marks)))
        ∙ ap ones (sym (take-add (64 * j) k marks)) ∙ ap (λ (n : ℕ). ones (take n marks)) whole
