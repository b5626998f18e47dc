use Rattle.std.proofs.Common.{◌≡◌, ◌++◌, map, take}
use Rattle.std.specs.List.{flat_map}
use Rattle.mr_tree.specs.Tree.{records}
use Rattle.mr_command.specs.private.Listing.{numbered_values, numbered}
use Rattle.mr_command.proofs.list_command.+add_tree.Given as goal

-- the entries have grown by those of the children so far
abbrev pub invariant-loop-child : goal.invariant-loop-child
invariant-loop-child l =
    map numbered_values l.entries.items ≡ map numbered_values l.fn.entries.items
    ++ map numbered (flat_map (λ list. list) (map records (take l.child-index l.child-items)))
