-- What stable sorts leave: the records in rising number, or by rising distance.
use Rattle.std.proofs.Common.{◌≡◌, List}
use Rattle.std.specs.Cmp.{IsStrictWeakOrder, then_total, on_total, nat_cmp_total}
use Rattle.std.specs.Ordering.{nat_cmp}
use Rattle.std.specs.List.Sorted.{IsStableByKey, IsSortedByKey}
use Rattle.std.proofs.lemmas.List.Sorted.{ranks_by}
use Rattle.mr_geom.specs.declared.point.Point.{Point}
use Rattle.mr_record.specs.declared.record.Record.{Record}
use Rattle.mr_record.proofs.Sorting.{sorted_by_key_is}
use Rattle.mr_query.specs.Nearest.{distance, is_nearer}
use Rattle.mr_query.specs.Scan.{by_number}

pub by_number_is : (xs ys : List Record) → IsSortedByKey (λ (r : Record). r.number) nat_cmp ys →
    IsStableByKey (λ (r : Record). r.number) nat_cmp xs ys → ys ≡ by_number xs
by_number_is = sorted_by_key_is (λ (r : Record). r.number)

pub nearer_order : (p : Point) → IsStrictWeakOrder (is_nearer p)
nearer_order p =
    ranks_by (then_total (on_total (λ (r : Record). distance p r) nat_cmp_total)
    (on_total (λ (r : Record). r.number) nat_cmp_total)) (λ (r : Record). r)
