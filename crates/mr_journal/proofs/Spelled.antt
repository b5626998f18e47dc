-- The body that is spelled for some pages has these pages.
use Rattle.std.proofs.Common.{◌≡◌, ℕ, ◌+◌, ◌*◌, ◌/◌, ◌%◌, ◌<◌, ◌≤◌, ◌^◌, max, true, nat_le, List, [], ◌∷◌, ◌++◌, length, take, drop, refl, ap, ◌∙◌, arith}
use Rattle.std.specs.List.{flat_map}
use Rattle.std.proofs.lemmas.List.{take_at, drop_at}
use Rattle.std.proofs.lemmas.Bool.{and_from, le-leb}
use Rattle.mr_journal.specs.Format.{Page, number_of, first_page, entries, pages_fit, put_pages, ready, carried, page_size, is_version, has_count, spelled_number, spelled_page, spelled}
use Rattle.mr_journal.proofs.Paging.{placed_parts, ready_from, carried_is}

digits : (n : ℕ) → n < 2 ^ 32 → n / 16777216 * 16777216 + n / 65536 % 256 * 65536 + n / 256 % 256 * 256 + n % 256 ≡ n
digits n lt = omega arith

number_again : (n : ℕ) (rest : List ℕ) → n < 2 ^ 32 → number_of (spelled_number n ++ rest) ≡ n
unfolding number_of
number_again n rest lt = digits n lt

page_again : (size : ℕ) (page : Page) (rest : List ℕ) → length page.bytes ≡ size → page.number < 2 ^ 32
    → first_page size (spelled_page page ++ rest) ≡ page
page_again size page rest long lt =
    let number : number_of (spelled_page page ++ rest) ≡ page.number = number_again page.number
    (page.bytes ++ rest) lt in
    let bytes : take size (page.bytes ++ rest) ≡ page.bytes = take_at page.bytes rest size long in
    λ i. record { number = number i; bytes = bytes i }

rest_again : (size : ℕ) (page : Page) (rest : List ℕ) → length page.bytes ≡ size
    → drop (4 + size) (spelled_page page ++ rest) ≡ rest
rest_again size page rest long = drop_at (spelled_page page) rest (4 + size) (omega (arith, long))

pub entries_again : (size low reach : ℕ) (pages : List Page) → pages_fit size low reach pages ≡ true
    → entries size (length pages) (flat_map spelled_page pages) ≡ pages
entries_again size low reach [] h = refl
entries_again size low reach (page ∷ pages) h =
    let p = placed_parts size low reach page pages h in
    let more = flat_map spelled_page pages in
    let first = page_again size page more p.0.whole (omega (arith, p.0.below)) in
    let next = ap (entries size (length pages)) (rest_again size page more p.0.whole)
    ∙ entries_again size (page.number + 1) (max reach (page.number * size + size)) pages p.1 in
    λ i. first i ∷ next i

-- where the pages stand where they may, the body is ready
pub spelled_ready : (version n : ℕ) (pages : List Page) → is_version version ≡ true → 1 ≤ length pages
    → length pages ≤ 2 ^ 20 → pages_fit (page_size version) 0 n pages ≡ true → ready n (spelled version pages) ≡ true
spelled_ready version n pages known some most h =
    let rest = spelled_number (length pages) ++ flat_map spelled_page pages in
    let count : number_of rest ≡ length pages = number_again (length pages) (flat_map spelled_page pages)
    (omega arith) in
    let same : entries (page_size version) (number_of rest) (drop 4 rest) ≡ pages =
    ap (λ (k : ℕ). entries (page_size version) k (drop 4 rest)) count ∙ entries_again (page_size version) 0 n pages h in
    ready_from n version rest known (ap has_count count
    ∙ and_from (nat_le 1 (length pages)) (nat_le (length pages) (2 ^ 20)) (le-leb _ _ some) (le-leb _ _ most))
    (ap (pages_fit (page_size version) 0 n) same ∙ h)

-- and puts these pages in
pub spelled_carried : (version n : ℕ) (pages : List Page) (map : List ℕ) → length pages ≤ 2 ^ 20
    → pages_fit (page_size version) 0 n pages ≡ true
    → carried (spelled version pages) map ≡ put_pages (page_size version) pages map
spelled_carried version n pages map most h =
    let rest = spelled_number (length pages) ++ flat_map spelled_page pages in
    let count : number_of rest ≡ length pages = number_again (length pages) (flat_map spelled_page pages)
    (omega arith) in
    carried_is version rest map
    ∙ ap (λ (ps : List Page). put_pages (page_size version) ps map)
    (ap (λ (k : ℕ). entries (page_size version) k (drop 4 rest)) count ∙ entries_again (page_size version) 0 n pages h)
