-- The limits of a proof; those of a map are where trees are.
use Rattle.std.specs.Prelude.{ℕ, ◌-◌, ◌*◌, ◌^◌}
pub use Rattle.mr_record.specs.Record.{payload_limit}
pub use Rattle.mr_tree.specs.Limits.{count_limit, level_limit, leaf_limit, inner_limit}

-- the greatest squared distance of a point of a map to a rectangle in it
abbrev pub radius_limit : ℕ
radius_limit = 2 * ((2 ^ 32 - 1) * (2 ^ 32 - 1))

-- no field of a proof ends past this place
abbrev pub place_limit : ℕ
place_limit = 2 ^ 30
