-- What a query asks of a list of records.
use Rattle.std.specs.Prelude.{ℕ, List, filter}
use Rattle.mr_record.specs.declared.record.Record.{Record}
use Rattle.mr_record.specs.Sorting.{sorted_by_key}
use Rattle.mr_query.specs.declared.query.Query.{Query}
use Rattle.mr_query.specs.declared.query.Shape.{Shape}
use Rattle.mr_query.specs.declared.query.Shape.TheVariants.{Window, Nearest}
use Rattle.mr_query.specs.Region.{touches}
use Rattle.mr_query.specs.Layers.{asked_layers, is_on}
use Rattle.mr_query.specs.Nearest as near

-- the records in rising number; equal ones keep their order
abbrev pub by_number : List Record → List Record
by_number records = sorted_by_key (λ (r : Record). r.number) records

-- the records on some layers
abbrev pub on_layers : ℕ → List Record → List Record
on_layers layers records = filter (is_on layers) records

-- the answer of a scan of the records to a shape, whatever their layers: for a window those in it,
-- in rising number; or the k nearest to a point, the nearest first
unfoldable pub scan_shape : List Record → Shape → List Record
scan_shape records (Window w) = by_number (filter (λ r. touches w r.rect) records)
scan_shape records (Nearest p k) = near.nearest p k records

-- the answer to a query, of the records on the layers that it asks for
abbrev pub scan : List Record → Query → List Record
scan records q = scan_shape (on_layers (asked_layers q) records) q.shape
