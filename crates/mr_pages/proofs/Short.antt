-- Bytes that are no whole page, and pages that have a piece in front and zeros behind it.
use Rattle.std.proofs.Common.{◌≡◌, ◌≢◌, ℕ, zero, suc, ◌+◌, ◌-◌, ◌*◌, ◌<◌, ◌≤◌, ◌^◌, min, Bool, true, false, List, [], ◌++◌, length, take, drop, replicate, refl, sym, ap, ◌∙◌, inl, inr, arith, length-drop, length-take-le, take_all}
use Rattle.std.specs.Prelude.{◌&&◌, Result, Err, not, bytes_eq, if◌then◌else◌}
use Rattle.std.proofs.lemmas.Bool.{and_parts, cases_lt}
use Rattle.std.proofs.lemmas.List.{take_at, drop_at, drop_all, take-append-drop}
use Rattle.std.proofs.lemmas.Nat.{mul-le}
use Rattle.std.proofs.lemmas.Slice.Eq.{bytes_eq-Decides}
use Rattle.mr_pages.specs.declared.layout.Layout.{Layout}
use Rattle.mr_pages.specs.declared.rule.MapRule.{MapRule}
use Rattle.mr_pages.specs.declared.rule.MapRule.TheVariants as rule
use Rattle.mr_pages.specs.Page.{Head}
use Rattle.mr_pages.specs.PageBytes.{node_limit, filled, are_zeros, head_bytes, head_page, is_sealed, seal, seal_place}
use Rattle.mr_pages.proofs.PageLaws.{both_true, length-filled, filled_is, are_zeros-replicate}

-- ---- what is no whole page is read as nothing

pub different : (xs ys : List ℕ) → length xs ≢ length ys → bytes_eq xs ys ≡ false
different xs ys apart = at (bytes_eq xs ys) refl
  where
    at : (b : Bool) → bytes_eq xs ys ≡ b → b ≡ false
    at false e = refl
    at true e = absurd (apart (ap length ((bytes_eq-Decides xs ys).0 e)))

pub unsealed_if : (b : Bool) (r : Result Head MapRule) → b ≡ false →
    (if not b then Err rule.Unsealed else r) ≡ Err rule.Unsealed
unsealed_if b r e = ap (λ c. if not c then Err rule.Unsealed else r) e

pub odd_unsealed : (size : ℕ) (page : List ℕ) → 3618 ≤ size → length page ≢ size → is_sealed size page ≡ false
odd_unsealed size page room odd =
    different (drop (seal_place size) page) seal
    (λ e. odd (omega (arith, e, room, length-drop (seal_place size) page)))

-- ---- a piece in front, and zeros behind it

same_truth : (a b : Bool) → (a ≡ true → b ≡ true) → (b ≡ true → a ≡ true) → a ≡ b
same_truth true b to from = sym (to refl)
same_truth false true to from = from refl
same_truth false false to from = refl

pub filled_same : (page piece : List ℕ) → length piece ≤ length page →
    (bytes_eq piece (take (length piece) page) && are_zeros (drop (length piece) page))
    ≡ bytes_eq (filled (length page) piece) page
filled_same page piece room =
    let k : ℕ = length piece in
    let size : ℕ = length page in
    let zeros : List ℕ = replicate (size - k) 0 in
    let whole : take k page ++ drop k page ≡ page = take-append-drop k page in
    same_truth (bytes_eq piece (take k page) && are_zeros (drop k page)) (bytes_eq (filled size piece) page)
    (λ h.
    let p = and_parts (bytes_eq piece (take k page)) (are_zeros (drop k page)) h in
    let front : piece ≡ take k page = (bytes_eq-Decides piece (take k page)).0 p.0 in
    let all : piece ++ drop k page ≡ page = ap (λ (xs : List ℕ). xs ++ drop k page) front ∙ whole in
    (bytes_eq-Decides (filled size piece) page).1
    (sym (filled_is size piece (drop k page) (ap length all) p.1) ∙ all))
    (λ h.
    let same : filled size piece ≡ page = (bytes_eq-Decides (filled size piece) page).0 h in
    let front : piece ≡ take k page = sym (take_at piece zeros k refl) ∙ ap (take k) same in
    let behind : zeros ≡ drop k page = sym (drop_at piece zeros k refl) ∙ ap (drop k) same in
    both_true (bytes_eq piece (take k page)) (are_zeros (drop k page))
    ((bytes_eq-Decides piece (take k page)).1 front)
    (ap are_zeros (sym behind) ∙ are_zeros-replicate (size - k)))

-- page 0 with its seal is spelled as what stands before the seal
pub before_seal : (layout : Layout) (h : Head) (page : List ℕ) → node_limit layout.version ≤ layout.size →
    length (head_bytes layout.version h) ≤ seal_place layout.size → length page ≡ layout.size →
    is_sealed layout.size page ≡ true →
    bytes_eq (filled (seal_place layout.size) (head_bytes layout.version h)) (take (seal_place layout.size) page)
    ≡ bytes_eq (head_page layout h) page
before_seal layout h page room fits long sealed =
    let n : ℕ = seal_place layout.size in
    let body : List ℕ = filled n (head_bytes layout.version h) in
    let end : drop n page ≡ seal = (bytes_eq-Decides (drop n page) seal).0 sealed in
    let sized : length body ≡ n = length-filled n (head_bytes layout.version h) fits in
    same_truth (bytes_eq body (take n page)) (bytes_eq (body ++ seal) page)
    (λ t. (bytes_eq-Decides (body ++ seal) page).1
    ((λ i. (bytes_eq-Decides body (take n page)).0 t i ++ sym end i) ∙ take-append-drop n page))
    (λ t. (bytes_eq-Decides body (take n page)).1
    (sym (take_at body seal n sized) ∙ ap (take n) ((bytes_eq-Decides (body ++ seal) page).0 t)))

-- whether it stands there, as it is found out
pub is_filled_by : (page piece front behind : List ℕ) (same zeros : Bool) → length piece ≤ length page →
    front ≡ take (length piece) page → behind ≡ drop (length piece) page → same ≡ bytes_eq piece front →
    zeros ≡ are_zeros behind → (same && zeros) ≡ bytes_eq (filled (length page) piece) page
is_filled_by page piece front behind same zeros room front_is behind_is test rest =
    (λ i. (test ∙ ap (bytes_eq piece) front_is) i && (rest ∙ ap are_zeros behind_is) i) ∙ filled_same page piece room

pub spelled_by : (layout : Layout) (h : Head) (page body piece : List ℕ) (result : Bool) →
    node_limit layout.version ≤ layout.size →
    length piece ≤ 90 → length page ≡ layout.size → is_sealed layout.size page ≡ true →
    body ≡ take (seal_place layout.size) page → piece ≡ head_bytes layout.version h →
    result ≡ bytes_eq (filled (length body) piece) body → result ≡ bytes_eq (head_page layout h) page
spelled_by layout h page body piece result room few long sealed front is e =
    let n : ℕ = seal_place layout.size in
    let sized : length body ≡ n = ap length front ∙ length-take-le n page (omega (arith, long)) in
    e ∙ (λ i. bytes_eq (filled (sized i) (is i)) (front i))
    ∙ before_seal layout h page room (omega (arith, few, room, ap length is)) long sealed

-- ---- the page from a place on

pub past_end : (size at : ℕ) (bytes : List ℕ) → length bytes ≤ at → [] ≡ take size (drop at bytes)
past_end size at bytes far = sym (ap (take size) (drop_all at bytes far) ∙ take_all size [] (omega arith))

pub near_end : (size at least : ℕ) (bytes behind piece : List ℕ) → behind ≡ drop at bytes →
    least ≡ min (length behind) size → piece ≡ take least behind → piece ≡ take size (drop at bytes)
near_end size at least bytes behind piece is least_is front = front ∙ cut ∙ ap (take size) is
  where
    cut : take least behind ≡ take size behind
    cut = elim (cases_lt (length behind) size) [
      | inl short ↦ take_all least behind (omega (arith, least_is, short))
          ∙ sym (take_all size behind (omega (arith, short)))
      | inr long ↦ ap (λ k. take k behind) (let same : least ≡ size = omega (arith, least_is, long) in same)
    ]

-- where a page begins is a number of 64 bits
pub start_low : (page size : ℕ) → page < 2 ^ 32 → size ≤ 2 ^ 16 → page * size < 2 ^ 64
start_low page size low small =
    let at_most : page * size ≤ 2 ^ 32 * 2 ^ 16 = mul-le page size (2 ^ 32) (2 ^ 16) (omega (arith, low)) small in
    omega (arith, at_most)

pub at_least : (n size : ℕ) → 0 < n → size ≤ n * size
at_least zero size some = absurd (omega (arith, some))
at_least (suc n) size some = let sum : suc n * size ≡ size + n * size = grind arith in omega (arith, sum)
