-- Records with their numbers beside them. This serves private functions.
use Rattle.std.specs.Prelude.{ℕ, List, map}
use Rattle.mr_record.specs.declared.record.Record.{Record}
use Rattle.mr_command.specs.declared.list_command.Numbered.{Numbered}

abbrev pub numbered_values : Numbered → ℕ × Record
numbered_values e = (e.number, e.item.now)

abbrev pub numbered : Record → ℕ × Record
numbered r = (r.number, r)

-- the records alone
abbrev pub items_of : List Numbered → List Record
items_of es = map (λ (e : Numbered). e.item.now) es
