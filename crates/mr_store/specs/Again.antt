-- What a read of a node's page gives.
use Rattle.std.specs.Prelude.{◌≡◌, ◌≢◌, ⊤, ℕ, ◌*◌, ◌<◌, ◌≤◌, ◌==◌, ◌||◌, nat_le, if◌then◌else◌, List, [], ◌∷◌, length, bytes_eq, Option, Some, None, Result, Ok, Err}
use Rattle.mr_outside.specs.Faults.{Rose, next_count}
use Rattle.mr_outside.specs.State.{Shelved}
use Rattle.mr_outside.specs.Told.{MayMiss}
use Rattle.mr_tree.specs.View as view
use Rattle.mr_tree.specs.View.{AreTold, preimage_of}
use Rattle.mr_tree.specs.Snapshot.{HasShape}
use Rattle.mr_tree.specs.declared.child.Child.{Child}
use Rattle.mr_tree.specs.declared.nodes.NodesErr.{NodesErr}
use Rattle.mr_tree.specs.declared.nodes.NodesErr.TheVariants as errors
use Rattle.mr_tree.specs.Digest.{Scheme, by}
use Rattle.mr_tree.specs.declared.tree.Tree.TheOpen.{Empty, Leaf, Inner}
use Rattle.mr_pages.specs.Page.{Link, Node, Form, level_of, node_entry}
use Rattle.mr_pages.specs.File.{file_of}
use Rattle.mr_pages.specs.Faults.{of_level}
use Rattle.mr_pages.specs.Source.{IsPage}
use Rattle.mr_pages.specs.Walking.{page_node}
use Rattle.mr_store.specs.Kept.{AreInside}

-- this child's page is not in the file
pub record Outside (pages : ℕ) (n : view.Node) (page : ℕ) : Type 0 where
  pub far : 1 ≤ page → pages ≤ page
  pub broken : AreInside pages n → ⊥

-- ---- what a page gives

-- the first of these pages that is page 0, or not in a file of so many pages
abbrev pub outside_in : (pages : ℕ) → List Link → Option ℕ
outside_in pages [] = None
outside_in pages (l ∷ ls) =
    if l.page == 0 || nat_le pages l.page then Some l.page else outside_in pages ls

-- the same of the pages that a node names for its children
abbrev pub outside_of : (pages : ℕ) → Node → Option ℕ
outside_of pages Empty = None
outside_of pages (Leaf records) = None
outside_of pages (Inner links) = outside_in pages links

-- the node, unless it names a page outside
abbrev pub unless_outside : Node → Option ℕ → Result Node NodesErr
unless_outside m None = Ok m
unless_outside m (Some page) = Err (errors.Outside page)

-- a node that a page spells, if it is what is said of the child: if it has the digest, and then if
-- it names no page outside
abbrev pub judged_node : Scheme → (pages : ℕ) → Child → Option Node → Result Node NodesErr
judged_node s pages c None = Err (errors.Page c.id)
judged_node s pages c (Some m) =
    if bytes_eq c.digest (node_entry s m).digest
    then unless_outside m (outside_of pages m)
    else Err (errors.Changed c.id c.digest (node_entry s m).digest)

-- What the bytes of a page in a file of so many pages give as the node of the child: the node of
-- the child's level that they spell, or why it is refused.
abbrev pub judged : Form → (List ℕ → List ℕ) → (pages : ℕ) → Child → (page : List ℕ) →
    Result Node NodesErr
judged form hash pages c page =
    judged_node (by form.version hash) pages c (of_level c.level (form.node_in page))

-- just that is answered, and a node is shown
abbrev pub ShowsJudged : {A : Type 0} → Result A NodesErr → view.Node → Result Node NodesErr →
    Type 0
ShowsJudged (Ok _) n gives = gives ≡ Ok (page_node n)
ShowsJudged (Err e) n gives = gives ≡ Err e

-- some bytes of a page are refused just so
pub record GivenBySome (form : Form) (hash : List ℕ → List ℕ) (pages : ℕ) (c : Child)
    (e : NodesErr) : Type 0 where
  pub page : List ℕ
  pub is : IsPage form page
  pub gives : judged form hash pages c page ≡ Err e

-- what was read is refused as some bytes are
abbrev pub IsGiven : Form → (List ℕ → List ℕ) → (pages : ℕ) → Child → NodesErr → Type 0
IsGiven form hash pages c errors.Missing = ⊤
IsGiven form hash pages c errors.Fault = ⊤
IsGiven form hash pages c errors.NoMemory = ⊤
IsGiven form hash pages c e = GivenBySome form hash pages c e

-- ---- what follows of it

-- the view shows a node of the version with the level and the digest of the child, whose children
-- are in the file
pub record IsChildInFile (s : Scheme) (pages : ℕ) (c : Child) (n : view.Node) : Type 0 where
  pub shape : HasShape n
  pub level : view.level_of n ≡ c.level
  pub told : AreTold s.version n
  pub digest : s.of (preimage_of s.version n) ≡ c.digest
  pub inside : AreInside pages n

-- a page's node is what is said of the child
pub record IsSaid (s : Scheme) (pages : ℕ) (c : Child) (m : Node) : Type 0 where
  pub level : level_of m ≡ c.level
  pub digest : (node_entry s m).digest ≡ c.digest
  pub inside : (n : view.Node) → page_node n ≡ m → AreInside pages n

-- the node is shown, unless the shelf or the memory failed
abbrev pub TellsNode : {A : Type 0} → Node → Result A NodesErr → view.Node → Type 0
TellsNode m (Ok _) n = page_node n ≡ m
TellsNode m (Err (errors.Changed page held found)) n = ⊥
TellsNode m (Err (errors.Page page)) n = ⊥
TellsNode m (Err (errors.Outside page)) n = ⊥
TellsNode m (Err errors.Missing) n = ⊤
TellsNode m (Err errors.Fault) n = ⊤
TellsNode m (Err errors.NoMemory) n = ⊤

-- what a file of these bytes tells of the child
abbrev pub TellsAgain : {A : Type 0} → Form → (List ℕ → List ℕ) → ℕ → Child →
    Result A NodesErr → view.Node → List ℕ → Type 0
TellsAgain form hash pages c result n bytes =
    length bytes ≡ pages * form.size → c.id < pages → (m : Node) →
    (file_of form bytes).node c.id ≡ Some m → IsSaid (by form.version hash) pages c m →
    TellsNode m result n

-- a file of these bytes has on this page the node that is shown
abbrev pub HasNode : Form → (pages page : ℕ) → view.Node → List ℕ → Type 0
HasNode form pages page n bytes = length bytes ≡ pages * form.size → page < pages →
    (file_of form bytes).node page ≡ Some (page_node n)

-- why the page of the child is refused
abbrev pub IsBlamed : ℕ → Child → NodesErr → Type 0
IsBlamed pages c (errors.Changed page held found) =
    (page ≡ c.id) × (held ≡ c.digest) × (held ≢ found)
IsBlamed pages c (errors.Page page) = page ≡ c.id
IsBlamed pages c (errors.Outside page) = 1 ≤ page → pages ≤ page
IsBlamed pages c errors.Missing = ⊥
IsBlamed pages c errors.Fault = ⊥
IsBlamed pages c errors.NoMemory = ⊥

-- why it is not shown; what was read is blamed only where a read was counted, and no fault
abbrev pub IsFetchRefused : (pages : ℕ) → List ℕ → Child → Shelved → Shelved → NodesErr → Type 0
IsFetchRefused pages name c before after errors.Missing =
    MayMiss before.files name before.faults after.faults
IsFetchRefused pages name c before after errors.Fault = Rose before.faults after.faults
IsFetchRefused pages name c before after errors.NoMemory = ⊤
IsFetchRefused pages name c before after e = IsBlamed pages c e
    × (after.reads ≡ next_count before.reads) × (after.faults ≡ before.faults)

-- at most one read is counted, and no count falls
pub record ReadsOne (before after : Shelved) : Type 0 where
  pub files : after.files ≡ before.files
  pub faults : before.faults ≤ after.faults
  pub more : before.reads ≤ after.reads
  pub one : after.reads ≤ next_count before.reads

-- what was read is blamed only where a read was counted, or where their count stands at its last
-- value
abbrev pub Reread : (before after : ℕ) → NodesErr → Type 0
Reread before after errors.Missing = ⊤
Reread before after errors.Fault = ⊤
Reread before after errors.NoMemory = ⊤
Reread before after e = Rose before after
