-- The fault of a file as a map: the first rule that it breaks, on page 0, then along a walk over
-- the nodes, then in the count of records, then along the chain of free pages.
use Rattle.std.specs.Prelude.{ℕ, zero, suc, ◌-◌, ◌==◌, ◌||◌, ◌&&◌, not, nat_lt, nat_le, Bool, true, false, if◌then◌else◌, List, [], ◌∷◌, ◌++◌, map, length, Option, Some, None, is_none, unwrap_or, bytes_eq, Result, Ok, Err}
use Rattle.std.specs.List.{flat_map, list_any}
use Rattle.std.specs.Ordering.{int_eq}
use Rattle.mr_geom.specs.Rectangle.{Rectangle}
use Rattle.mr_record.specs.declared.record.Record.{Record}
use Rattle.mr_tree.specs.Limits.{leaf_fill, inner_fill, root_leaf_fill, root_inner_fill}
use Rattle.mr_tree.specs.Digest.{Scheme, by}
use Rattle.mr_tree.specs.declared.entry.Entry.{Entry}
use Rattle.mr_tree.specs.declared.tree.Tree.TheOpen.{Empty, Leaf, Inner}
use Rattle.mr_pages.specs.declared.rule.MapRule.{MapRule}
use Rattle.mr_pages.specs.declared.rule.MapFault.{MapFault}
use Rattle.mr_pages.specs.declared.rule.MapRule.TheVariants as rule
use Rattle.mr_pages.specs.Page.{Link, Node, level_of, node_entry, Head}
use Rattle.mr_pages.specs.File.{File}

abbrev pub fault_if : Bool → ℕ → MapRule → List MapFault
fault_if broken page r = if broken then record { page = page; rule = r } ∷ [] else []

-- the number stands in the list
abbrev pub has : ℕ → List ℕ → Bool
has n ns = list_any (λ m. n == m) ns

-- one of the numbers was met before: among the first ones or to its left
abbrev pub repeats : List ℕ → List ℕ → Bool
repeats before [] = false
repeats before (n ∷ ns) = has n before || repeats (before ++ n ∷ []) ns

abbrev pub same_rectangle : Rectangle → Rectangle → Bool
same_rectangle a b =
    int_eq a.x0 b.x0 && (int_eq a.y0 b.y0 && (int_eq a.x1 b.x1 && int_eq a.y1 b.y1))

abbrev pub same_rect : Option Rectangle → Option Rectangle → Bool
same_rect None None = true
same_rect None (Some b) = false
same_rect (Some a) None = false
same_rect (Some a) (Some b) = same_rectangle a b

-- ---- the walk: what it meets if nothing stops it, depth first

-- A node that the walk comes to, before its children, and to these from left to right: whether it
-- is the root, what is said of it, and the node, where its page spells one of the level that is
-- said.
pub record Visit : Type 0 where
  pub root : Bool
  pub link : Link
  pub node : Option Node

abbrev pub of_level : ℕ → Option Node → Option Node
of_level level None = None
of_level level (Some node) = if level_of node == level then Some node else None

-- the node that is found where a link leads
abbrev pub found : (ℕ → Option Node) → Link → Option Node
found at link = of_level link.entry.level (at link.page)

abbrev pub children : Option Node → List Link
children (Some (Inner links)) = links
children _ = []

abbrev pub records_in : Option Node → List Record
records_in (Some (Leaf records)) = records
records_in _ = []

abbrev pub visit : (ℕ → Option Node) → Bool → Link → Visit
visit at root link = record { root = root; link = link; node = found at link }

-- all visits below a link whose level is at most n
abbrev pub visits : (ℕ → Option Node) → ℕ → Bool → Link → List Visit
visits at zero root link = visit at root link ∷ []
visits at (suc n) root link =
    visit at root link ∷ flat_map (visits at n false) (children (found at link))

abbrev pub walk : (ℕ → Option Node) → Option Link → List Visit
walk at None = []
walk at (Some link) = visits at link.entry.level true link

-- ---- the rules of the walk

-- the pages that were reached
abbrev pub reached : List Visit → List ℕ
reached vs = map (λ (v : Visit). v.link.page) vs

-- the records that were met
abbrev pub all_records : List Visit → List Record
all_records vs = flat_map (λ (v : Visit). records_in v.node) vs

abbrev pub numbers_of : List Record → List ℕ
numbers_of rs = map (λ (r : Record). r.number) rs

-- how many entries a node has, and how many it has to have, as the root or below it
abbrev pub size : Node → ℕ
size Empty = 0
size (Leaf records) = length records
size (Inner links) = length links

abbrev pub least_fill : (root : Bool) → Node → ℕ
least_fill true (Inner links) = root_inner_fill
least_fill true _ = root_leaf_fill
least_fill false (Inner links) = inner_fill
least_fill false _ = leaf_fill

-- whether a node has the mask that is said of it and, unless it is the root, the count: that of the
-- root is the head's. Both are 0 in version 1.
abbrev pub same_sums : (root : Bool) → (found said : Entry) → Bool
same_sums root found said = found.mask == said.mask && (root || found.count == said.count)

-- the rules that a node breaks against what is said of it
abbrev pub node_faults : Scheme → (root : Bool) → Link → Option Node → List MapFault
node_faults s root link None = fault_if true link.page rule.Page
node_faults s root link (Some node) =
    fault_if (not (bytes_eq (node_entry s node).digest link.entry.digest)) link.page
    (rule.Digest link.entry.digest (node_entry s node).digest)
    ++ (fault_if (not (same_rect (node_entry s node).rect link.entry.rect)) link.page rule.Rect
    ++ (fault_if (not (same_sums root (node_entry s node) link.entry)) link.page rule.Sum
    ++ fault_if (nat_lt (size node) (least_fill root node)) link.page rule.Fill))

-- the rules that a visit breaks, in their order, behind these visits in a file of so many pages
abbrev pub visit_faults : Scheme → ℕ → List Visit → Visit → List MapFault
visit_faults s pages before v =
    fault_if (v.link.page == 0 || nat_le pages v.link.page) v.link.page rule.Outside
    ++ (fault_if (has v.link.page (reached before)) v.link.page rule.Twice
    ++ (node_faults s v.root v.link v.node
    ++ fault_if (repeats (numbers_of (all_records before)) (numbers_of (records_in v.node)))
    v.link.page rule.Number))

abbrev pub walk_faults : Scheme → ℕ → (before : List Visit) → List Visit → List MapFault
walk_faults s pages before [] = []
walk_faults s pages before (v ∷ vs) =
    visit_faults s pages before v ++ walk_faults s pages (before ++ v ∷ []) vs

-- ---- the chain of free pages

-- the pages that the chain names from f on, at most n, up to one that is no free page
abbrev pub chain : (ℕ → Option ℕ) → ℕ → ℕ → List ℕ
chain free zero f = []
chain free (suc n) f = if f == 0 then [] else f ∷ chain free n (unwrap_or (free f) 0)

-- not in the file, reached before, or no free page
abbrev pub chain_faults : (ℕ → Option ℕ) → ℕ → (before : List ℕ) → List ℕ → List MapFault
chain_faults free pages before [] = []
chain_faults free pages before (f ∷ fs) =
    fault_if (nat_le pages f || (has f before || is_none (free f))) f rule.Free
    ++ chain_faults free pages (before ++ f ∷ []) fs

-- n numbers from a on
abbrev pub count_from : ℕ → ℕ → List ℕ
count_from a zero = []
count_from a (suc n) = a ∷ count_from (suc a) n

-- the pages that were never reached
abbrev pub lost_faults : ℕ → (before : List ℕ) → List MapFault
lost_faults pages before =
    flat_map (λ p. fault_if (not (has p before)) p rule.Free) (count_from 1 (pages - 1))

-- ---- all of them

abbrev pub count_faults : ℕ → ℕ → List MapFault
count_faults held found = fault_if (not (held == found)) 0 (rule.Count held found)

abbrev pub free_faults : File → (walked chained : List ℕ) → List MapFault
free_faults file walked chained =
    chain_faults file.free file.pages walked chained ++ lost_faults file.pages (walked ++ chained)

-- behind page 0, whose walk meets this
abbrev pub head_faults : (List ℕ → List ℕ) → File → Head → List Visit → List MapFault
head_faults hash file head vs =
    walk_faults (by file.version hash) file.pages [] vs
    ++ (count_faults head.count (length (all_records vs))
    ++ free_faults file (reached vs) (chain file.free file.pages head.free))

abbrev pub file_faults : (List ℕ → List ℕ) → File → Result Head MapRule → List MapFault
file_faults hash file (Err r) = fault_if true 0 r
file_faults hash file (Ok head) = head_faults hash file head (walk file.node head.root)

-- all rules that the file breaks, in their order
abbrev pub faults : (List ℕ → List ℕ) → File → List MapFault
faults hash file = file_faults hash file file.head

abbrev pub first_of : List MapFault → Option MapFault
first_of [] = None
first_of (f ∷ fs) = Some f

-- the first rule that the file breaks, with its page
abbrev pub mapfault : (List ℕ → List ℕ) → File → Option MapFault
mapfault hash file = first_of (faults hash file)
