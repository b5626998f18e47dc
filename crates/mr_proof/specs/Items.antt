-- The items of a proof one by one: the bytes of a cut are those of its items.
use Rattle.std.specs.Prelude.{◌≡◌, ℕ, ◌≤◌, List, [], ◌∷◌, length}
use Rattle.mr_tree.specs.View.{level_of, records_in, child_entry}
use Rattle.mr_proof.specs.declared.item.Item.{Item}
use Rattle.mr_proof.specs.declared.item.Item.TheVariants as item
use Rattle.mr_record.specs.Version.{told}
use Rattle.mr_record.specs.declared.version.Version.{Version}
use Rattle.mr_proof.specs.Limits.{count_limit, leaf_limit, inner_limit}
use Rattle.mr_proof.specs.Fields.{inner_tag}
use Rattle.mr_proof.specs.Cut.{Leaf, pruned_cut}
use Rattle.mr_proof.specs.Spelling.{cut_bytes}

-- a pruned part and a leaf whole; of an inner node the tag and the number of its children
abbrev pub item_bytes : Version → Item → List ℕ
item_bytes v (item.Pruned child) = cut_bytes v (pruned_cut (child_entry child.now))
item_bytes v (item.Leaf view) = cut_bytes v (Leaf (records_in view.now))
item_bytes v (item.Inner count) = inner_tag ∷ count ∷ []

-- a pruned part of the second version has 1 to 2^20 records; a leaf is one, with 1 to 16 records;
-- an inner node has 1 to 64 children
abbrev pub FitsItem : Version → Item → Type 0
FitsItem v (item.Pruned child) = (told v 1 ≤ told v child.now.count)
    × (told v child.now.count ≤ count_limit)
FitsItem v (item.Leaf view) = (level_of view.now ≡ 0) × (1 ≤ length (records_in view.now)) ×
    (length (records_in view.now) ≤ leaf_limit)
FitsItem v (item.Inner count) = (1 ≤ count) × (count ≤ inner_limit)
