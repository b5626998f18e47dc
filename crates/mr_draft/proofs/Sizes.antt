-- Pages of a size that depends on the version: products with it, and that it is large enough.
use Rattle.std.proofs.Common.{◌≡◌, ℕ, ◌+◌, ◌-◌, ◌*◌, ◌<◌, ◌≤◌, List, take, drop, ap, arith}
use Rattle.mr_record.specs.declared.version.Version.{Version}
use Rattle.mr_record.specs.declared.version.Version.TheVariants.{One, Two}
use Rattle.mr_pages.specs.declared.layout.Layout.{Layout}
use Rattle.mr_pages.specs.PageBytes.{page_size, layout_by, IsLayout, node_limit}

-- ---- products

pub pages_sum : (p q size : ℕ) → (p + q) * size ≡ p * size + q * size
pages_sum p q size = grind arith

pub no_pages : (size : ℕ) → 0 * size ≡ 0
no_pages size = grind arith

pub first_page : (size : ℕ) (xs : List ℕ) → take size (drop (0 * size) xs) ≡ take size xs
first_page size xs = ap (λ k. take size (drop k xs)) (no_pages size)

pub one_page : (size : ℕ) → 1 * size ≡ size
one_page size = grind arith

pub pages_next : (p size : ℕ) → (p + 1) * size ≡ p * size + size
pages_next p size = omega (arith, pages_sum p 1 size, one_page size)

pub pages_most : (p q size : ℕ) → p ≤ q → p * size ≤ q * size
pages_most p q size most =
    let rest : ℕ = q - p in
    let all : q ≡ p + rest = omega (arith, most) in
    omega (arith, ap (λ n. n * size) all, pages_sum p rest size)

-- a page and those before it are no more than the pages
pub pages_within : (p q size : ℕ) → p < q → p * size + size ≤ q * size
pages_within p q size less = omega (arith, pages_next p size, pages_most (p + 1) q size (omega (arith, less)))

pub pages_some : (p size : ℕ) → 1 ≤ p → size ≤ p * size
pages_some p size some = omega (arith, pages_within 0 p size (omega (arith, some)), no_pages size)

-- those but page 0
pub pages_behind : (p size : ℕ) → 1 ≤ p → size + (p - 1) * size ≡ p * size
pages_behind p size some =
    let all : p ≡ (p - 1) + 1 = omega (arith, some) in
    omega (arith, ap (λ n. n * size) all, pages_next (p - 1) size)

-- ---- a layout that is its version's

size_by : (v : Version) (size : ℕ) → size ≡ (layout_by v).size → node_limit v ≤ size
size_by One size is = omega (arith, is)
size_by Two size is = omega (arith, is)

small_by : (v : Version) (size : ℕ) → size ≡ (layout_by v).size → size ≤ 8192
small_by One size is = omega (arith, is)
small_by Two size is = omega (arith, is)

large_by : (v : Version) (size : ℕ) → size ≡ (layout_by v).size → page_size ≤ size
large_by One size is = omega (arith, is)
large_by Two size is = omega (arith, is)

pub layout_fits : (layout : Layout) → layout.size ≡ (layout_by layout.version).size → IsLayout layout
layout_fits layout sized = record {
  room = size_by layout.version layout.size sized;
  small = small_by layout.version layout.size sized;
}

pub page_large : (layout : Layout) → layout.size ≡ (layout_by layout.version).size → page_size ≤ layout.size
page_large layout sized = large_by layout.version layout.size sized

layout_of : (v : Version) (size : ℕ) → size ≡ (layout_by v).size →
    ◌≡◌ {A = Layout} (record { size = size; version = v }) (layout_by v)
layout_of One size is = λ i. record { size = is i; version = One }
layout_of Two size is = λ i. record { size = is i; version = Two }

pub layout_is : (layout : Layout) → layout.size ≡ (layout_by layout.version).size →
    layout ≡ layout_by layout.version
layout_is layout sized = layout_of layout.version layout.size sized
