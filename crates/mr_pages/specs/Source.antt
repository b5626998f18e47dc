-- What is known of the pages of a file while they are read one by one, and what a walk over them
-- leaves.
use Rattle.std.specs.Prelude.{◌≡◌, ⊤, ◌⊎◌, ℕ, ◌+◌, ◌*◌, ◌<◌, ◌≤◌, take, true, not, List, length, All, count_by, slice_index_or, drop, false, Option, Some, None, IfSome, IfOk, OnOk, Result, Ok, Err, IsErrOf}
use Rattle.mr_outside.specs.Faults.{Rose}
use Rattle.mr_outside.specs.Files.{Files, file}
use Rattle.mr_outside.specs.Bytes.{AreBytes}
use Rattle.mr_outside.specs.declared.shelf.ShelfErr.{ShelfErr}
use Rattle.mr_outside.specs.declared.shelf.ShelfErr.TheVariants as shelf
use Rattle.mr_tree.specs.View as view
use Rattle.mr_tree.specs.Snapshot.{HasShape}
use Rattle.mr_tree.specs.declared.child.Child.{Child}
use Rattle.mr_pages.specs.declared.error.MapErr.{MapErr}
use Rattle.mr_pages.specs.declared.error.MapErr.TheVariants as errors
use Rattle.mr_pages.specs.declared.head.MapHead.{MapHead}
use Rattle.mr_pages.specs.declared.node.Node as owned_type
use Rattle.mr_pages.specs.declared.rule.MapRule.{MapRule}
use Rattle.mr_pages.specs.declared.rule.MapRule.TheVariants as rule
use Rattle.mr_pages.specs.declared.visited.Visited.{Visited}
use Rattle.mr_pages.specs.Page.{Link, Form, IsHead}
use Rattle.mr_pages.specs.File.{File, page_at, pages_of, version_of}
use Rattle.mr_record.specs.declared.version.Version.{Version}
use Rattle.mr_pages.specs.Faults.{has, reached, walk, mapfault}
use Rattle.mr_pages.specs.Walking.{page_node, owned, head_of}
use Rattle.mr_pages.specs.declared.checking.Checked.{Checked}
use Rattle.mr_tree.specs.Digest.{Scheme, by}

-- where they come from: a file by its name, and all files where they are told; how its pages are
-- spelled; and the references to the shelf and to what is made, where they are not owned
pub record Origin : Type 0 where
  pub name : List ℕ
  pub files : Option Files
  pub form : Form
  pub lent : ℕ × ℕ

pub record Sourced : Type 0 where
  pub origin : Origin
  -- how many there are
  pub pages : ℕ
  -- what they are read as, where that is told
  pub file : Option File
  pub faults : ℕ
  pub reads : ℕ

-- the bytes of a file, where they are told
abbrev pub told_bytes : Option Files → List ℕ → Option (List ℕ)
told_bytes None name = None
told_bytes (Some files) name = file files name

-- these are the bytes of a page of a file of these bytes, if it is one of so many whole pages
abbrev pub TellsPage : Form → (page : ℕ) → (p bytes : List ℕ) → Type 0
TellsPage form page p bytes =
    (pages : ℕ) → length bytes ≡ pages * form.size → page < pages → p ≡ page_at form bytes page

-- these bytes stand in front of a file, as far as it goes
pub record IsFrontOfFile (bytes room : List ℕ) : Type 0 where
  pub version : version_of room ≡ version_of bytes
  pub starts : (n : ℕ) → n ≤ length room → n ≤ length bytes → take n room ≡ take n bytes

-- ---- what pages are read as, told or not

-- the bytes of a page
pub record IsPage (form : Form) (bytes : List ℕ) : Type 0 where
  pub size : length bytes ≡ form.size
  pub are : AreBytes bytes

-- the file has on this page what these bytes spell
pub record HasPage (form : Form) (file : File) (page : ℕ) (bytes : List ℕ) : Type 0 where
  pub node : file.node page ≡ form.node_in bytes
  pub free : file.free page ≡ form.free_in bytes

-- Q holds of the file that is told, and of each with the bytes that were read on this page
pub record GivesPage (s : Sourced) (page : ℕ) (Q : File → Type 0) : Type 0 where
  pub bytes : List ℕ
  pub is : IsPage s.origin.form bytes
  pub so : (f : File) → (s.file ≡ Some f) ⊎ HasPage s.origin.form f page bytes → Q f

-- the same of page 0
pub record GivesHead (s : Sourced) (Q : File → Type 0) : Type 0 where
  pub bytes : List ℕ
  pub is : IsPage s.origin.form bytes
  pub so : (f : File) →
      (s.file ≡ Some f) ⊎ (f.head ≡ s.origin.form.head_in s.pages bytes) → Q f

-- a call that reads one page at most
pub record ReadsPage {A : Type 0} (before after : Sourced) (result : Result A ShelfErr) : Type 0
  where
    pub from_ : after.origin ≡ before.origin
    pub count : after.pages ≡ before.pages
    pub same : after.file ≡ before.file
    pub missing : IsErrOf result shelf.Missing → Rose before.faults after.faults
    -- what is told is there
    pub untold : IsErrOf result shelf.Missing → before.origin.files ≡ None
    pub fault : IsErrOf result shelf.Fault → Rose before.faults after.faults
    pub later : before.faults ≤ after.faults
    pub quiet : OnOk result (after.faults ≡ before.faults)
    pub more : before.reads ≤ after.reads
    pub one : after.reads ≤ before.reads + 1

-- what page 0 says of a map, told or not
pub record SaysHead (v : Version) (pages : ℕ) (h : MapHead) : Type 0 where
  pub count : h.pages ≡ pages
  pub fits : IsHead v (head_of h)

-- each page that was kept is kept
abbrev pub Stay : (ℕ → Type 0) → (ℕ → Type 0) → Type 0
Stay before after = (page : ℕ) → before page → after page

-- a node as it was judged: with the level and the digest of the child
pub record MatchesChild (s : Scheme) (c : Child) (n : owned_type.Node) : Type 0 where
  pub shape : HasShape (owned n)
  pub told : view.AreTold s.version (owned n)
  pub level : view.level_of (owned n) ≡ c.level
  pub digest : s.of (view.preimage_of s.version (owned n)) ≡ c.digest

-- a node that may be kept: its children are in the file, and it is the one on its page
pub record MayKeep (hash : List ℕ →
    List ℕ) (s : Sourced) (c : Child) (n : owned_type.Node) : Type 0 where
  pub known : MatchesChild (by s.origin.form.version hash) c n
  pub low : 1 ≤ c.id
  pub place : c.id < s.pages
  pub inside : All (λ (d : Child). (1 ≤ d.id) × (d.id < s.pages)) (view.children_in (owned n))
  pub told : IfSome s.file (λ f. f.node c.id ≡ Some (page_node (owned n)))

-- ---- what a walk leaves, whatever the pages hold

-- how many pages behind page 0 were not reached
abbrev pub left : Visited → ℕ
left s = count_by not (drop 1 s.reached.items)

abbrev pub IsReached : Visited → ℕ → Type 0
IsReached s page = slice_index_or s.reached.items page false ≡ true

-- what coming to a page leaves: it was not reached before, and is now
pub record ReachesNewPage (before : Visited) (page : ℕ) (after : Visited) : Type 0 where
  pub low : 1 ≤ page
  pub inside : page < length before.reached.items
  pub size : length after.reached.items ≡ length before.reached.items
  pub one : left after + 1 ≡ left before
  pub others : (p : ℕ) → IsReached after p → IsReached before p ⊎ (p ≡ page)
  pub more : (p : ℕ) → IsReached before p → IsReached after p
  pub fresh : IsReached before page → ⊥
  pub here : IsReached after page

abbrev pub ReachesPage : Visited → ℕ → Option MapRule → Visited → Type 0
ReachesPage before page None after = ReachesNewPage before page after
ReachesPage before page (Some r) after = after.reached ≡ before.reached

-- no rule of a page that is read again
abbrev pub IsOfOneRead : MapRule → Type 0
IsOfOneRead (rule.Changed held found) = ⊥
IsOfOneRead _ = ⊤

abbrev pub SaysOnce : MapErr → Type 0
SaysOnce (errors.Map f) = IsOfOneRead f.rule
SaysOnce _ = ⊤

-- P of what is no failure
abbrev pub IfNotFailed : {A : Type 0} → Result A MapErr → Type 0 → Type 0
IfNotFailed (Ok _) P = P
IfNotFailed (Err (errors.Map f)) P = P
IfNotFailed (Err _) P = ⊤

-- Q holds of some bytes, read page by page
pub record GivesFile (s : Sourced) (Q : File → Type 0) : Type 0 where
  pub bytes : List ℕ
  pub are : AreBytes bytes
  pub size : length bytes ≡ s.pages * s.origin.form.size
  pub so : Q (pages_of s.origin.form s.pages bytes)

-- no more pages were read than were reached
pub record ReadsWithinRoom {A : Type 0} (before after : Sourced) (room rest : ℕ)
    (result : Result A MapErr)
    : Type 0 where
  pub from_ : after.origin ≡ before.origin
  pub count : after.pages ≡ before.pages
  pub same : after.file ≡ before.file
  pub missing : IsErrOf result errors.Missing → Rose before.faults after.faults
  pub untold : IsErrOf result errors.Missing → before.origin.files ≡ None
  pub fault : IsErrOf result errors.Fault → Rose before.faults after.faults
  pub later : before.faults ≤ after.faults
  pub quiet : IfNotFailed result (after.faults ≡ before.faults)
  pub more : before.reads ≤ after.reads
  pub few : after.reads + rest ≤ before.reads + room

-- ---- what is answered

-- page 0 of a file without a fault, or the first fault
abbrev pub ChecksFile : {M : Type 0} → (List ℕ → List ℕ) → File → Result (Checked M) MapErr → Type 0
ChecksFile hash file (Ok c) = (mapfault hash file ≡ None) × (file.head ≡ Ok (head_of c.head))
ChecksFile hash file (Err (errors.Map f)) = mapfault hash file ≡ Some f
ChecksFile hash file (Err _) = ⊤

-- the pages that the walk from a root reaches are kept
abbrev pub AllKept : File → Option Link → (ℕ → Type 0) → Type 0
AllKept file root keeps = (page : ℕ) → has page (reached (walk file.node root)) ≡ true → keeps page

-- what checking a file comes to, and what was made of the nodes
pub record CheckedWhole {M : Type 0} (v : Version) (hash : List ℕ → List ℕ)
    (makes : Option Child → Option M → File → Type 0) (pages : ℕ)
    (result : Result (Checked M) MapErr) (f : File) : Type 0 where
  pub checks : f.version ≡ v → f.pages ≡ pages → ChecksFile hash f result
  pub made : IfOk result (λ c. makes c.head.root c.made f)

-- the root's page is in the file
pub record IsRootIn (pages : ℕ) (c : Child) : Type 0 where
  pub positive : 1 ≤ c.id
  pub within : c.id < pages
