-- What is known of the leaves of a tree that is put on pages.
use Rattle.std.specs.Prelude.{◌≡◌, ◌⊎◌, List, [], ◌++◌}
use Rattle.mr_tree.specs.declared.entry.Entry.{Entry}

-- nothing is known, or first these entries
abbrev pub KnowsFirst : List Entry → (known : List Entry) → Type 0
KnowsFirst entries known = (known ≡ []) ⊎ ((rest : List Entry) × (known ≡ entries ++ rest))
