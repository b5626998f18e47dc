-- The layers that a batch asks for.
use Rattle.std.specs.Prelude.{Bool, false, nat_lt, List}
use Rattle.std.specs.List.{list_any}
use Rattle.mr_record.specs.declared.version.Version.{Version}
use Rattle.mr_record.specs.declared.version.Version.TheVariants.{One, Two}
use Rattle.mr_batch.specs.declared.change.Change.{Change}
use Rattle.mr_batch.specs.declared.change.Change.TheVariants.{Add, Remove}

-- a record with a layer above 0 comes in
abbrev pub has_layer : Change → Bool
has_layer (Add r) = nat_lt 0 r.layer
has_layer (Remove n) = false

-- maps of this version have no layers, and one of the changes adds a record with one
abbrev pub lacks_layers : Version → List Change → Bool
lacks_layers One changes = list_any has_layer changes
lacks_layers Two changes = false
