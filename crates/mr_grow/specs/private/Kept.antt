-- What the code of a deletion passes on.
use Rattle.std.specs.Prelude.{ℕ, List, ◌++◌, take, drop}
use Rattle.mr_tree.specs.declared.tree.Tree.{Tree}
use Rattle.mr_tree.specs.declared.tree.Tree.TheVariants as tree
use Rattle.mr_grow.specs.Shrink.{Rest, stays, set_aside}
use Rattle.mr_grow.specs.declared.deletion.Removal.{Removal}

abbrev pub removal_value : Removal → Rest
removal_value l = record { tree = l.tree; aside = l.aside.items }

-- the children that are left, with what is kept of another at this position
abbrev pub kept : List Tree → ℕ → Rest → Rest
kept ts at r =
    record { tree = tree.Inner (take at ts ++ (stays r ++ drop at ts)); aside = set_aside r }
