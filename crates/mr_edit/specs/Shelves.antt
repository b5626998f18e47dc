-- Why a change is refused by the shelf, or for want of memory.
use Rattle.std.specs.Prelude.{⊤, ℕ}
use Rattle.mr_outside.specs.Faults.{Rose}
use Rattle.mr_outside.specs.declared.shelf.ShelfErr.{ShelfErr}
use Rattle.mr_outside.specs.declared.shelf.ShelfErr.TheVariants as shelf
use Rattle.mr_tree.specs.declared.nodes.NodesErr.{NodesErr}
use Rattle.mr_tree.specs.declared.nodes.NodesErr.TheVariants as nodes
use Rattle.mr_pages.specs.declared.rule.MapRule.TheVariants as rule
use Rattle.mr_edit.specs.declared.error.EditErr.{EditErr}
use Rattle.mr_edit.specs.declared.error.EditErr.TheVariants as errors

-- between these counts of faults: no page is blamed, and what failed was counted
abbrev pub HasShelfCause : (before after : ℕ) → EditErr → Type 0
HasShelfCause before after (errors.Map fault) = ⊥
HasShelfCause before after errors.Missing = Rose before after
HasShelfCause before after errors.Fault = Rose before after
HasShelfCause before after errors.NoMemory = ⊤

-- a shelf's refusal in a change's own words
abbrev pub of_shelf : ShelfErr → EditErr
of_shelf shelf.Missing = errors.Missing
of_shelf shelf.Fault = errors.Fault
of_shelf shelf.NoMemory = errors.NoMemory

-- the same of a file that is made: that it is missing is a fault
abbrev pub of_made : ShelfErr → EditErr
of_made shelf.Missing = errors.Fault
of_made e = of_shelf e

-- what is said of a node that was read, in a change's own words
abbrev pub of_nodes : NodesErr → EditErr
of_nodes (nodes.Changed page held found) =
    errors.Map (record { page = page; rule = rule.Changed held found })
of_nodes (nodes.Page page) = errors.Map (record { page = page; rule = rule.Page })
of_nodes (nodes.Outside page) = errors.Map (record { page = page; rule = rule.Outside })
of_nodes nodes.Missing = errors.Missing
of_nodes nodes.Fault = errors.Fault
of_nodes nodes.NoMemory = errors.NoMemory
