use Rattle.std.proofs.Common.{◌∷◌, ◌++◌, [], length, take}
use Rattle.std.specs.List.{flat_map}
use Rattle.mr_tree.specs.Digest.{inner_tag, entry_bytes}
use Rattle.mr_clash.proofs.entry.inner_digest.Given as goal

-- the children so far were fed
abbrev pub invariant-loop-child : goal.invariant-loop-child
invariant-loop-child g l =
    g.H.Hashes.holds l.hasher ((inner_tag ∷ l.level ∷ length l.children ∷ [])
    ++ flat_map (entry_bytes l.version) (take l.child-index l.children))
