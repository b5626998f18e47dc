-- The part of a map that a query asks for.
use Rattle.std.specs.Prelude.{ℕ, Bool, ◌&&◌, Option}
use Rattle.mr_geom.specs.Rectangle.{Rectangle}
pub use Rattle.mr_geom.specs.Plane.{touches}
use Rattle.mr_record.specs.declared.record.Record.{Record}
use Rattle.mr_query.specs.declared.key.Key.{Key}
use Rattle.mr_query.specs.declared.query.Query.{Query}
use Rattle.mr_query.specs.declared.query.Shape.{Shape}
use Rattle.mr_query.specs.declared.query.Shape.TheVariants.{Window, Nearest}
use Rattle.mr_query.specs.Layers.{asked_layers, share_layer, layer_mask}
use Rattle.mr_query.specs.Nearest.{is_within}

-- whether the region of a shape, for a squared radius or none, meets the rectangle: a window,
-- whatever the radius; or the closed circle round a point, or everything
unfoldable pub meets_region : Shape → Option ℕ → Rectangle → Bool
meets_region (Window w) radius r = touches w r
meets_region (Nearest p k) radius r = is_within p radius r

-- a record is a part with the one bit of its layer
abbrev pub record_key : Record → Key
record_key r = record { rect = r.rect; mask = layer_mask r }

-- whether a part is in reach of a query, for a squared radius or none: the region meets its
-- rectangle, and it has a layer that is asked for
abbrev pub reaches : Query → Option ℕ → Key → Bool
reaches q radius part =
    meets_region q.shape radius part.rect && share_layer part.mask (asked_layers q)
