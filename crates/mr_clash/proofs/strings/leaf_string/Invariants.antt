use Rattle.std.proofs.Common.{◌≡◌, ◌∷◌, length, take}
use Rattle.std.specs.List.{flat_map}
use Rattle.mr_record.specs.Record.{record_bytes}
use Rattle.mr_tree.specs.Digest.{leaf_tag}
use Rattle.mr_clash.proofs.strings.leaf_string.Given as goal

-- the records so far stand in the string
abbrev pub invariant-loop-one : goal.invariant-loop-one
invariant-loop-one l = l.string.items
    ≡ leaf_tag ∷ length l.records ∷ flat_map (record_bytes l.version) (take l.one-index l.records)
