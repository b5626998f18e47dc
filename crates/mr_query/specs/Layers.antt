-- The layers that a query asks for.
use Rattle.std.specs.Prelude.{ℕ, ◌-◌, ◌^◌, Bool, not, ◌==◌, bit_and, Option, Some, None}
use Rattle.mr_record.specs.declared.record.Record.{Record}
use Rattle.mr_query.specs.declared.query.Query.{Query}

-- a mask has a bit for each layer, from 0 to 63; this one has all
abbrev pub all_layers : ℕ
all_layers = 2 ^ 64 - 1

abbrev pub layers_named : Option ℕ → ℕ
layers_named None = all_layers
layers_named (Some mask) = mask

-- the mask of the layers that a query asks for: those that it names, or all
abbrev pub asked_layers : Query → ℕ
asked_layers q = layers_named q.mask

-- whether two masks share a layer
abbrev pub share_layer : ℕ → ℕ → Bool
share_layer a b = not (bit_and a b == 0)

-- the one bit of a record's layer
abbrev pub layer_mask : Record → ℕ
layer_mask r = 2 ^ r.layer

-- whether a record is on one of these layers
abbrev pub is_on : ℕ → Record → Bool
is_on layers r = share_layer (layer_mask r) layers
