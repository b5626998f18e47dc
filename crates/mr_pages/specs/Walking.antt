-- What the walk keeps, and what it answers.
use Rattle.std.specs.Prelude.{◌≡◌, ℕ, ◌<◌, ◌==◌, ◌||◌, nat_le, Bool, true, List, [], ◌∷◌, ◌++◌, map, length, slice_index_or, false, Option, Some, None, option_map, Result, Ok, Err}
use Rattle.std.specs.Bool.{OnFalse}
use Rattle.mr_tree.specs.declared.child.Child.{Child}
use Rattle.mr_tree.specs.declared.tree.Tree.TheOpen.{Empty, Leaf, Inner}
use Rattle.mr_tree.specs.View as view
use Rattle.mr_pages.specs.declared.rule.MapRule.{MapRule}
use Rattle.mr_pages.specs.declared.rule.MapRule.TheVariants as rule
use Rattle.mr_pages.specs.declared.rule.MapFault.{MapFault}
use Rattle.mr_pages.specs.declared.node.Node as owned_type
use Rattle.mr_pages.specs.declared.node.Node.TheVariants as owned_node
use Rattle.mr_pages.specs.declared.head.MapHead.{MapHead}
use Rattle.mr_pages.specs.declared.visited.Visited.{Visited}
use Rattle.mr_pages.specs.Page.{Link, Node, Head}
use Rattle.mr_pages.specs.Faults.{fault_if, has, repeats, lost_faults, first_of}
use Rattle.mr_pages.specs.private.Numbers.{Met}

-- what is said of a node, and a node, as the definitions have them
abbrev pub child_link : Child → Link
child_link c = record { page = c.id; entry = view.child_entry c }

abbrev pub page_node : view.Node → Node
page_node Empty = Empty
page_node (Leaf records) = Leaf records
page_node (Inner children) = Inner (map child_link children)

-- a node of one's own, as a view shows it
abbrev pub owned : owned_type.Node → view.Node
owned (owned_node.Leaf records) = Leaf records.items
owned (owned_node.Inner children) = Inner children.items

-- whether a view shows the node that is wanted
abbrev pub ShowsWanted : (shown : Bool) → view.Node → Option Node → Type 0
ShowsWanted true n wanted = wanted ≡ Some (page_node n)
ShowsWanted false n wanted = wanted ≡ None

-- ---- what was reached and met

-- these pages were reached, in a file of this many, and these numbers met, none of them twice
pub record Saw (pages : ℕ) (s : Visited) (ps ns : List ℕ) : Type 0 where
  pub count : length s.reached.items ≡ pages
  pub reached : (p : ℕ) → p < pages → slice_index_or s.reached.items p false ≡ has p ps
  pub met : Met s.numbers ns

-- the first two rules of a visit
abbrev pub enter_faults : ℕ → List ℕ → ℕ → List MapFault
enter_faults pages ps p =
    fault_if (p == 0 || nat_le pages p) p rule.Outside ++ fault_if (has p ps) p rule.Twice

-- what comes of coming to a page
abbrev pub EntersPage : ℕ → List ℕ → List ℕ → ℕ → Option MapRule → Visited → Type 0
EntersPage pages ps ns p None after =
    (enter_faults pages ps p ≡ []) × Saw pages after (ps ++ p ∷ []) ns
EntersPage pages ps ns p (Some r) after =
    first_of (enter_faults pages ps p) ≡ Some (record { page = p; rule = r })

-- what comes of meeting numbers
abbrev pub MeetsNumbers : ℕ → List ℕ → List ℕ → List ℕ → Bool → Visited → Type 0
MeetsNumbers pages ps ns new twice after =
    (twice ≡ repeats ns new) × OnFalse twice (Saw pages after ps (ns ++ new))

-- ---- what is answered

-- page 0
abbrev pub head_of : MapHead → Head
head_of h = record {
  batch = h.batch;
  count = h.count;
  pages = h.pages;
  root = option_map child_link h.root;
  free = h.free;
}

abbrev pub AnswersHead : Result MapHead MapRule → Result Head MapRule → Type 0
AnswersHead (Ok h) head = head ≡ Ok (head_of h)
AnswersHead (Err r) head = head ≡ Err r

-- the least page that was never reached
abbrev pub LosesPage : ℕ → List ℕ → Option MapFault → Type 0
LosesPage pages ps r = first_of (lost_faults pages ps) ≡ r
