-- What the judge of one node answers.
use Rattle.std.specs.Prelude.{◌≡◌, ◌==◌, ◌&&◌, ◌||◌, Bool, not, nat_lt, [], Option, Some, None}
use Rattle.mr_record.specs.declared.version.Version.{Version}
use Rattle.mr_tree.specs.declared.child.Child.{Child}
use Rattle.mr_tree.specs.Digest.{Scheme}
use Rattle.mr_tree.specs.View as view
use Rattle.mr_pages.specs.declared.rule.MapRule.{MapRule}
use Rattle.mr_pages.specs.Page.{Link, Node}
use Rattle.mr_pages.specs.Faults.{node_faults, first_of, same_rect, size, least_fill}
use Rattle.mr_pages.specs.Walking.{page_node}

abbrev pub fills_node : (root : Bool) → view.Node → Bool
fills_node root n = not (nat_lt (size (page_node n)) (least_fill root (page_node n)))

-- the first rule that the node breaks against what is said of it
abbrev pub JudgesNode : Scheme → (root : Bool) → Link → Node → Option MapRule → Type 0
JudgesNode s root link node None = node_faults s root link (Some node) ≡ []
JudgesNode s root link node (Some r) =
    first_of (node_faults s root link (Some node)) ≡ Some (record { page = link.page; rule = r })

-- ---- a node that was fetched, beside its entry

-- whether the node has the rectangle that is said of it, and the mask and, unless it is the root,
-- the count as a version tells them: the count of a root is the head's
abbrev pub has_said : Version → (root : Bool) → Child → view.Node → Bool
has_said v root c n = same_rect (view.rect_of n) (Some c.rect)
    && ((view.mask_over v n == c.mask) && (root || view.count_over v n == c.count))

-- and it has as many entries as it has to, as a root or below it
abbrev pub fits_entry : Version → (root : Bool) → Child → view.Node → Bool
fits_entry v root c n = has_said v root c n && fills_node root n
