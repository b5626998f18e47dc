-- The changed pages of a map, put into the old one, make the new one.
use Rattle.std.proofs.Common.{◌≡◌, ◌⊎◌, inl, inr, ℕ, zero, suc, ◌+◌, ◌-◌, ◌*◌, ◌<◌, ◌≤◌, ◌^◌, max, min, Bool, true, false, not, ◌==◌, ◌||◌, List, [], ◌∷◌, ◌++◌, length, take, drop, refl, sym, ap, ◌∙◌, subst, arith, cond, add-zero}
use Rattle.std.proofs.lemmas.List.{length-take, length-drop, take_all, drop_all, append-nil, append_assoc, take-append-drop, take_at, drop_at, drop-drop}
use Rattle.std.specs.Prelude.{bytes_eq, if◌then◌else◌}
use Rattle.std.specs.List.{flat_map}
use Rattle.std.proofs.Math.Seq.{take-add}
use Rattle.std.proofs.Math.Nat.{mul-le-mul_right}
use Rattle.std.proofs.lemmas.Bool.{cases_Bool, cases_lt, and_from}
use Rattle.std.proofs.lemmas.Slice.Eq.{bytes_eq-Decides}
use Rattle.mr_outside.specs.Files.{replaced}
use Rattle.mr_journal.specs.Format.{Page, fits, pages_fit, put_pages, page_of, page_size, is_version, ready, carried, spelled_number, spelled_page, spelled}
use Rattle.mr_journal.specs.Changed.{page_in, is_changed, changed, spelled_if, IsLonger, IsChange}
use Rattle.mr_journal.proofs.Paging.{fits_from}
use Rattle.mr_journal.proofs.Spelled.{spelled_ready, spelled_carried}

-- ---- the list, page by page

pub changed_none : (size : ℕ) (old new : List ℕ) (number : ℕ) → changed size old new number 0 ≡ []
unfolding changed
changed_none size old new number = refl

pub changed_taken : (size : ℕ) (old new : List ℕ) (number left : ℕ) → is_changed size number old new ≡ true
    → changed size old new number (suc left) ≡ page_of number (page_in size number new) ∷ changed size old new
    (number + 1) left
unfolding changed
changed_taken size old new number left is =
    ap (λ (b : Bool). cond b (page_of number (page_in size number new) ∷ changed size old new (number + 1) left)
    (changed size old new (number + 1) left)) is

pub changed_left : (size : ℕ) (old new : List ℕ) (number left : ℕ) → is_changed size number old new ≡ false
    → changed size old new number (suc left) ≡ changed size old new (number + 1) left
unfolding changed
changed_left size old new number left is =
    ap (λ (b : Bool). cond b (page_of number (page_in size number new) ∷ changed size old new (number + 1) left)
    (changed size old new (number + 1) left)) is

same_page : (size number : ℕ) (old new : List ℕ) → is_changed size number old new ≡ false
    → page_in size number old ≡ page_in size number new
same_page size number old new is = (bytes_eq-Decides (page_in size number old) (page_in size number new)).0
    (equal (number == 0) (bytes_eq (page_in size number old) (page_in size number new)) is)
  where
    equal : (zero same : Bool) → (zero || not same) ≡ false → same ≡ true
    equal true same is = cc
    equal false true is = refl
    equal false false is = cc

-- ---- the front of the new map, and behind it the old one

abbrev mixed : ℕ → List ℕ → List ℕ → List ℕ
mixed front old new = take front new ++ drop front old

take_more : (front size : ℕ) (xs : List ℕ) → take (front + size) xs ≡ take front xs ++ take size (drop front xs)
take_more front size xs = take-add front size xs

module _ (size : ℕ) (old new : List ℕ) (some : 1 ≤ size) where
  abbrev at : ℕ → ℕ
  at number = number * size

  next : (number : ℕ) → at (number + 1) ≡ at number + size
  next number = grind arith

  page_long : (number pages : ℕ) → number < pages → length new ≡ pages * size → length (page_in size number new) ≡ size
  page_long number pages lt whole =
      let below : number * size + size ≤ pages * size = below_pages number pages lt in
      omega (arith, length-take size (drop (number * size) new), length-drop (number * size) new, whole, below)
    where
      below_pages : (n p : ℕ) → n < p → n * size + size ≤ p * size
      below_pages n p lt = let le : (n + 1) * size ≤ p * size = mul-le-mul_right size (omega (arith, lt)) in omega
          (arith, le, next n)

  -- the page is put in
  put_in : (number : ℕ) → length (page_in size number new) ≡ size → at number ≤ length new
      → replaced (at number) (page_in size number new) (mixed (at number) old new) ≡ mixed (at (number + 1)) old new
  put_in number long within =
      let front : take (at number) (mixed (at number) old new) ≡ take (at number) new = take_at (take (at number) new)
      (drop (at number) old) (at number) (omega (arith, length-take (at number) new)) in
      let behind : drop (at number + length (page_in size number new)) (mixed (at number) old new)
      ≡ drop (at (number + 1)) old =
      ap (λ (k : ℕ). drop k (mixed (at number) old new)) (ap (λ (k : ℕ). at number + k) long)
      ∙ drop_behind (at number) size old new (omega (arith, length-take (at number) new))
      ∙ ap (λ (k : ℕ). drop k old) (sym (next number)) in
      (λ i. (front i ++ page_in size number new) ++ behind i)
      ∙ ap (λ (l : List ℕ). l ++ drop (at (number + 1)) old)
      (sym (take_more (at number) size new) ∙ ap (λ (k : ℕ). take k new) (sym (next number)))
    where
      drop_behind : (front size : ℕ) (old new : List ℕ) → length (take front new) ≡ front
          → drop (front + size) (mixed front old new) ≡ drop (front + size) old
      drop_behind front size old new long =
          sym (drop-drop size front (mixed front old new))
          ∙ ap (drop size) (drop_at (take front new) (drop front old) front long) ∙ drop-drop size front old

  -- the page is as it was
  left_in : (number : ℕ) → page_in size number old ≡ page_in size number new
      → mixed (at number) old new ≡ mixed (at (number + 1)) old new
  left_in number same =
      ap (λ (l : List ℕ). take (at number) new ++ l) (sym (take-append-drop size (drop (at number) old))
      ∙ (λ i. same i ++ drop size (drop (at number) old)))
      ∙ sym (append_assoc (take (at number) new) (page_in size number new) (drop size (drop (at number) old)))
      ∙ (λ i. sym (take_more (at number) size new) i ++ drop-drop size (at number) old i)
      ∙ ap (λ (k : ℕ). take k new ++ drop k old) (sym (next number))

  -- ---- the whole list

  low_enough : (n p : ℕ) → n ≤ p → n * size ≤ p * size
  low_enough n p le = mul-le-mul_right size le

  -- put into the old map the changed pages make the new one
  put_all : (number left : ℕ) → length new ≡ (number + left) * size → length old ≤ length new
      → put_pages size (changed size old new number left) (mixed (at number) old new) ≡ new
  put_all number zero whole longer =
      ap (λ (ps : List Page). put_pages size ps (mixed (at number) old new)) (changed_none size old new number)
      ∙ (λ i. take_all (at number) new (omega (arith, same)) i ++ drop_all (at number) old
      (omega (arith, same, longer)) i)
      ∙ append-nil new
    where
      same : length new ≡ at number
      same = whole ∙ ap (λ (k : ℕ). k * size) (add-zero number)
  put_all number (suc left) whole longer =
      let whole' : length new ≡ (number + 1 + left) * size = whole ∙ ap (λ (k : ℕ). k * size) (omega arith) in
      let more = put_all (number + 1) left whole' longer in
      let long : length (page_in size number new) ≡ size = page_long number (number + suc left) (omega arith) whole in
      let within : at number ≤ length new = omega (arith, whole, low_enough number (number + suc left) (omega arith)) in
      elim (cases_Bool (is_changed size number old new)) [
        | inl is ↦ ap (λ (ps : List Page). put_pages size ps (mixed (at number) old new))
            (changed_taken size old new number left is)
            ∙ ap (put_pages size (changed size old new (number + 1) left)) (put_in number long within)
            ∙ more
        | inr not ↦ ap (λ (ps : List Page). put_pages size ps (mixed (at number) old new))
            (changed_left size old new number left not)
            ∙ ap (put_pages size (changed size old new (number + 1) left))
            (left_in number (same_page size number old new not))
            ∙ more
      ]

  -- they stand where they may
  placed_all : (number left low reach : ℕ) → length new ≡ (number + left) * size → number + left ≤ 2 ^ 20 → low ≤ number
      → length old ≤ reach → at number ≤ reach
      → pages_fit size low reach (changed size old new number left) ≡ true
  placed_all number zero low reach whole few rises longer begins = ap (pages_fit size low reach)
      (changed_none size old new number)
  placed_all number (suc left) low reach whole few rises longer begins =
      let whole' : length new ≡ (number + 1 + left) * size = whole ∙ ap (λ (k : ℕ). k * size) (omega arith) in
      let long : length (page_in size number new) ≡ size = page_long number (number + suc left) (omega arith) whole in
      elim (cases_Bool (is_changed size number old new)) [
        | inl is ↦ ap (pages_fit size low reach) (changed_taken size old new number left is)
            ∙ and_from (fits size low reach (page_of number (page_in size number new))) _
            (fits_from size low reach (page_of number (page_in size number new))
            (record { whole = long; rises = rises; below = omega (arith, few); begins = begins }))
            (placed_all (number + 1) left (number + 1) (max reach (number * size + size)) whole' (omega (arith, few))
            (omega arith) (omega (arith, longer)) (omega (arith, next number)))
        | inr not ↦ ap (pages_fit size low reach) (changed_left size old new number left not)
            ∙ placed_all (number + 1) left low reach whole' (omega (arith, few)) (omega (arith, rises)) longer
            (omega (arith, next number, longer, there number long (same_page size number old new not)))
      ]
    where
      -- a page that is as it was lies in the old map
      there : (number : ℕ) → length (page_in size number new) ≡ size → page_in size number old ≡ page_in size number new
          → at number + size ≤ length old
      there number long same = omega (
        arith,
        some,
        ap length same,
        long,
        length-take size (drop (at number) old),
        length-drop (at number) old,
      )

count_all : (size : ℕ) (old new : List ℕ) (number left : ℕ) → length (changed size old new number left) ≤ left
count_all size old new number zero = omega (arith, ap length (changed_none size old new number))
count_all size old new number (suc left) =
    elim (cases_Bool (is_changed size number old new)) [
      | inl is ↦ omega (
        arith,
        ap length (changed_taken size old new number left is),
        count_all size old new
            (number + 1) left,
      )
      | inr not ↦ omega (
        arith,
        ap length (changed_left size old new number left not),
        count_all size old new
            (number + 1) left,
      )
    ]

-- page 0 is always among them
count_some : (size : ℕ) (old new : List ℕ) (pages : ℕ) → 1 ≤ pages → 1 ≤ length (changed size old new 0 pages)
count_some size old new zero some = absurd (omega arith)
count_some size old new (suc pages) some = omega (arith, ap length (changed_taken size old new 0 pages refl))

pub size_some : (version : ℕ) → is_version version ≡ true → 1 ≤ page_size version
unfolding page_size
size_some version known = elim (version == 2) as (λ b. 1 ≤ (if b then 8192 else 4096))
    [ true ↦ omega arith | false ↦ omega arith ]

-- the body that is spelled for them
pub is_change : (version pages : ℕ) (old new body : List ℕ) → is_version version ≡ true → 1 ≤ page_size version
    → IsLonger (page_size version) pages old new
    → body ≡ spelled version (changed (page_size version) old new 0 pages) → IsChange version old new body
is_change version pages old new body known size longer is =
    let size_of = page_size version in
    let ps = changed size_of old new 0 pages in
    let few : length ps ≤ 2 ^ 20 = omega (arith, count_all size_of old new 0 pages, longer.few) in
    let none : 0 * size_of ≡ 0 = grind arith in
    let whole : length new ≡ (0 + pages) * size_of = longer.whole ∙ ap (λ (k : ℕ). k * size_of) (omega arith) in
    let stand : pages_fit size_of 0 (length old) ps ≡ true = placed_all size_of old new size 0 pages 0
    (length old) whole
    (omega (arith, longer.few)) (omega arith) (omega arith) (omega arith) in
    record {
      pages = pages;
      whole = longer.whole;
      is = is;
      fit = ap (ready (length old)) is ∙ spelled_ready version (length old) ps known
          (count_some size_of old new pages longer.some) few stand;
      makes = ap (λ (b : List ℕ). carried b old) is ∙ spelled_carried version (length old) ps old few stand
          ∙ ap (λ (k : ℕ). put_pages size_of ps (mixed k old new)) (sym none)
          ∙ put_all size_of old new size 0 pages whole longer.longer;
    }

-- ---- one page more

step_by : (size : ℕ) (old new : List ℕ) (number left : ℕ) (b : Bool) → is_changed size number old new ≡ b
    → flat_map spelled_page (changed size old new number (suc left)) ≡ spelled_if b
    (page_of number (page_in size number new)) ++ flat_map spelled_page (changed size old new (number + 1) left)
step_by size old new number left true is = ap (flat_map spelled_page) (changed_taken size old new number left is)
step_by size old new number left false is = ap (flat_map spelled_page) (changed_left size old new number left is)

pub spelled_step : (size : ℕ) (old new : List ℕ) (number pages : ℕ) → number < pages
    → flat_map spelled_page (changed size old new number (pages - number))
    ≡ spelled_if (is_changed size number old new) (page_of number (page_in size number new)) ++ flat_map spelled_page
    (changed size old new (number + 1) (pages - (number + 1)))
spelled_step size old new number pages lt =
    ap (λ (k : ℕ). flat_map spelled_page (changed size old new number k)) (omega arith)
    ∙ step_by size old new number (pages - (number + 1)) (is_changed size number old new) refl

count_by : (size : ℕ) (old new : List ℕ) (number left : ℕ) (b : Bool) → is_changed size number old new ≡ b
    → length (changed size old new number (suc left)) ≡ (if b then 1 else 0) + length
    (changed size old new (number + 1) left)
count_by size old new number left true is = omega (arith, ap length (changed_taken size old new number left is))
count_by size old new number left false is = omega (arith, ap length (changed_left size old new number left is))

pub count_step : (size : ℕ) (old new : List ℕ) (number pages : ℕ) → number < pages
    → length (changed size old new number (pages - number)) ≡ (if is_changed size number old new then 1 else 0) + length
    (changed size old new (number + 1) (pages - (number + 1)))
count_step size old new number pages lt =
    ap (λ (k : ℕ). length (changed size old new number k)) (omega arith)
    ∙ count_by size old new number (pages - (number + 1)) (is_changed size number old new) refl

pub spelled_end : (size : ℕ) (old new : List ℕ) (number left : ℕ) → left ≡ 0
    → flat_map spelled_page (changed size old new number left) ≡ []
spelled_end size old new number left none = ap (λ (k : ℕ). flat_map spelled_page (changed size old new number k)) none
    ∙ ap (flat_map spelled_page) (changed_none size old new number)

pub count_end : (size : ℕ) (old new : List ℕ) (number left : ℕ) → left ≡ 0
    → length (changed size old new number left) ≡ 0
count_end size old new number left none = ap (λ (k : ℕ). length (changed size old new number k)) none
    ∙ ap length (changed_none size old new number)

-- the bytes of a page, cut at the end of the file
pub page_cut : (size number : ℕ) (bytes : List ℕ)
    → take (min (length (drop (min (number * size) (length bytes)) bytes)) size)
    (drop (min (number * size) (length bytes)) bytes) ≡ page_in size number bytes
page_cut size number bytes =
    ap (λ (l : List ℕ). take (min (length l) size) l) (drop_min (number * size) bytes)
    ∙ take_min size (drop (number * size) bytes)
  where
    drop_min : (n : ℕ) (xs : List ℕ) → drop (min n (length xs)) xs ≡ drop n xs
    drop_min n xs = elim (cases_lt n (length xs)) [
      | inl le ↦ ap (λ (k : ℕ). drop k xs) (omega (arith, le))
      | inr gt ↦ drop_all (min n (length xs)) xs (omega (arith, gt)) ∙ sym (drop_all n xs (omega (arith, gt)))
    ]

    take_min : (n : ℕ) (xs : List ℕ) → take (min (length xs) n) xs ≡ take n xs
    take_min n xs = elim (cases_lt n (length xs)) [
      | inl le ↦ ap (λ (k : ℕ). take k xs) (omega (arith, le))
      | inr gt ↦ take_all (min (length xs) n) xs (omega (arith, gt)) ∙ sym (take_all n xs (omega (arith, gt)))
    ]

-- a page more was looked at
pub count_next : (size : ℕ) (old new : List ℕ) (number pages count count' all : ℕ) → number < pages
    → count + length (changed size old new number (pages - number)) ≡ all → count ≤ number
    → ((is_changed size number old new ≡ true) × (count' ≡ count + 1))
    ⊎ ((is_changed size number old new ≡ false) × (count' ≡ count))
    → (number + 1 ≤ pages) × (count' + length (changed size old new (number + 1) (pages - (number + 1))) ≡ all)
    × (count' ≤ number + 1)
count_next size old new number pages count count' all lt so few (inl is) =
    let step = count_step size old new number pages lt
    ∙ ap (λ (b : Bool). (if b then 1 else 0) + length
    (changed size old new (number + 1) (pages - (number + 1)))) is.0 in
    (omega (arith, lt), omega (arith, step, so, is.1), omega (arith, few, is.1))
count_next size old new number pages count count' all lt so few (inr is) =
    let step = count_step size old new number pages lt
    ∙ ap (λ (b : Bool). (if b then 1 else 0) + length
    (changed size old new (number + 1) (pages - (number + 1)))) is.0 in
    (omega (arith, lt), omega (arith, step, so, is.1), omega (arith, few, is.1))

pub spelled_next : (size : ℕ) (old new : List ℕ) (number pages : ℕ) (body body' all : List ℕ) → number < pages
    → body ++ flat_map spelled_page (changed size old new number (pages - number)) ≡ all
    → body' ≡ body ++ spelled_if (is_changed size number old new) (page_of number (page_in size number new))
    → (number + 1 ≤ pages) × (body' ++ flat_map spelled_page
    (changed size old new (number + 1) (pages - (number + 1))) ≡ all)
spelled_next size old new number pages body body' all lt so put =
    let one = spelled_if (is_changed size number old new) (page_of number (page_in size number new)) in
    let more = flat_map spelled_page (changed size old new (number + 1) (pages - (number + 1))) in (
      omega (arith, lt),
      ap (λ (l : List ℕ). l ++ more) put ∙ append_assoc body one more
          ∙ ap (λ (l : List ℕ). body ++ l) (sym (spelled_step size old new number pages lt)) ∙ so,
    )

pub spelled_whole : (size : ℕ) (old new : List ℕ) (number left : ℕ) (body all : List ℕ) → left ≡ 0
    → body ++ flat_map spelled_page (changed size old new number left) ≡ all → body ≡ all
spelled_whole size old new number left body all none so = sym (append-nil body)
    ∙ ap (λ (l : List ℕ). body ++ l) (sym (spelled_end size old new number left none)) ∙ so

pub spelled_as : (version size size' pages : ℕ) (old new : List ℕ) (count : ℕ) (head body : List ℕ) → size ≡ size'
    → count ≡ length (changed size old new 0 pages)
    → head ≡ version ∷ spelled_number count → body ≡ head ++ flat_map spelled_page (changed size old new 0 pages)
    → body ≡ spelled version (changed size' old new 0 pages)
spelled_as version size size' pages old new count head body same counted begun is =
    subst (λ (k : ℕ). body ≡ spelled version (changed k old new 0 pages)) same
    (is ∙ ap (λ (l : List ℕ). l ++ flat_map spelled_page (changed size old new 0 pages))
    (begun ∙ ap (λ (k : ℕ). version ∷ spelled_number k) counted))
