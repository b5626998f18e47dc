-- What is known of the pages of a file on a shelf, and what the parts of a walk over them come to.
-- This serves private functions.
use Rattle.std.specs.Prelude.{◌≡◌, ⊤, ◌⊎◌, ℕ, ◌/◌, ◌<◌, ◌≤◌, true, Bool, List, [], length, ◌∷◌, ◌++◌, nat_le, ◌||◌, is_none, false, Option, Some, None, option_map, IfSome, IsSome, MatchOption, IfOk, Result, Ok, Err, map}
use Rattle.mr_outside.specs.Files.{Files, file}
use Rattle.mr_outside.specs.State.{Shelved}
use Rattle.mr_outside.specs.Bytes.{AreBytes}
use Rattle.mr_tree.specs.declared.child.Child.{Child}
use Rattle.mr_pages.specs.declared.error.MapErr.{MapErr}
use Rattle.mr_pages.specs.declared.error.MapErr.TheVariants as errors
use Rattle.mr_pages.specs.declared.head.MapHead.{MapHead}
use Rattle.mr_pages.specs.declared.node.Node as owned_type
use Rattle.mr_pages.specs.declared.rule.MapRule.TheVariants as rule
use Rattle.mr_pages.specs.declared.visited.Visited.{Visited}
use Rattle.mr_pages.specs.Page.{Link, Node, Form, Head}
use Rattle.mr_pages.specs.File.{File, file_of, is_odd_size}
use Rattle.mr_record.specs.declared.version.Version.{Version}
use Rattle.mr_pages.specs.Stands.{tree_of, whole_tree}
use Rattle.mr_pages.specs.private.Spelled.{place, placed_at}
use Rattle.mr_pages.specs.Faults.{has, Visit, visits, reached, all_records, numbers_of, node_faults, found, walk_faults, walk, chain, chain_faults, mapfault, first_of}
use Rattle.mr_pages.specs.Walking.{child_link, page_node, owned, head_of, Saw}
use Rattle.mr_tree.specs.Digest.{Scheme}
use Rattle.mr_tree.specs.declared.tree.Tree.{Tree}
use Rattle.mr_pages.specs.Source.{Sourced, told_bytes, TellsPage, IsPage, HasPage, IsReached}
use Rattle.mr_pages.specs.declared.opening.Opened.{Opened}

-- a walk behind these visits met no fault among these, and this is what it keeps then
pub record Passed (s : Scheme) (pages : ℕ) (before vs : List Visit) (after : Visited)
    : Type 0 where
  pub none : walk_faults s pages before vs ≡ []
  pub saw : Saw pages after (reached (before ++ vs)) (numbers_of (all_records (before ++ vs)))

-- so many pages of a file on a shelf
abbrev pub on_shelf : Form → (lent : ℕ × ℕ) → (pages : ℕ) → Shelved → (name : List ℕ) → Sourced
on_shelf form lent pages s name = record {
  origin = record { name = name; files = s.files; form = form; lent = lent };
  pages = pages;
  file = option_map (file_of form) (told_bytes s.files name);
  faults = s.faults;
  reads = s.reads;
}

-- the file has so many whole pages
pub record HasWholePages (form : Form) (pages : ℕ) (bytes : List ℕ) : Type 0 where
  pub are : AreBytes bytes
  pub even : is_odd_size form.size (length bytes) ≡ false
  pub count : pages ≡ length bytes / form.size

-- where the files are told, it is there and has so many
pub record IsPaged (form : Form) (pages : ℕ) (told : Option Files) (name : List ℕ) : Type 0 where
  pub there : MatchOption told ⊤ (λ files. IsSome (file files name))
  pub file_ : IfSome (told_bytes told name) (HasWholePages form pages)

-- page 0, as it was read before
pub record HasFirst (form : Form) (told : Option Files) (name first : List ℕ) : Type 0 where
  pub is : IsPage form first
  pub tells : IfSome (told_bytes told name) (TellsPage form 0 first)

-- the file is the one that is told, or has the bytes that were read on each page which was reached
abbrev pub IsAsRead : Sourced → (before after : Visited) → (ℕ → List ℕ) → File → Type 0
IsAsRead s before after given f = (s.file ≡ Some f) ⊎ ((p : ℕ) → 1 ≤ p → IsReached after p →
    (IsReached before p → ⊥) → HasPage s.origin.form f p (given p))

-- pages were reached and read, and Q holds of each file that is as they were read
pub record GivesPages (s : Sourced) (before after : Visited) (Q : File → Type 0) : Type 0 where
  pub more : (p : ℕ) → IsReached before p → IsReached after p
  pub given : ℕ → List ℕ
  pub pages : (p : ℕ) → IsPage s.origin.form (given p)
  pub so : (f : File) → IsAsRead s before after given f → Q f

-- the same of all pages but page 0
pub record GivesAll (s : Sourced) (Q : File → Type 0) : Type 0 where
  pub given : ℕ → List ℕ
  pub pages : (p : ℕ) → IsPage s.origin.form (given p)
  pub so : (f : File) → (s.file ≡ Some f)
      ⊎ ((p : ℕ) → 1 ≤ p → p < s.pages → HasPage s.origin.form f p (given p)) → Q f

-- each page that was reached in a walk is kept
abbrev pub AreKept : Visited → Visited → (ℕ → Type 0) → Type 0
AreKept before after keeps = (page : ℕ) → IsReached after page → IsReached before page ⊎ keeps page

-- the node, of which nothing is broken, or the first rule that is
abbrev pub ReadsChecked : Scheme → (ℕ → Option Node) → Bool → Link →
    Result owned_type.Node MapErr → Type 0
ReadsChecked s at root link (Ok n) =
    (node_faults s root link (found at link) ≡ []) × (found at link ≡ Some (page_node (owned n)))
ReadsChecked s at root link (Err (errors.Map f)) =
    first_of (node_faults s root link (found at link)) ≡ Some f
ReadsChecked s at root link (Err _) = ⊤

-- no fault below a link, or the first one
abbrev pub WalksBelowLink : {A : Type 0} → Scheme → ℕ → (ℕ → Option Node) →
    (before : List Visit) → Bool → Link → Result A MapErr → Visited → Type 0
WalksBelowLink s pages at before root link (Ok _) after =
    Passed s pages before (visits at link.entry.level root link) after
WalksBelowLink s pages at before root link (Err (errors.Map f)) after =
    first_of (walk_faults s pages before (visits at link.entry.level root link)) ≡ Some f
WalksBelowLink s pages at before root link (Err _) after = ⊤

-- what a walk below a child comes to, and what was made of the nodes
pub record Walked {M : Type 0} (s : Scheme) (makes : M → Tree → Type 0) (pages : ℕ) (old : Visited)
    (root : Bool) (c : Child) (result : Result M MapErr) (new : Visited) (f : File) : Type 0 where
  pub walks : (before : List Visit) → Saw pages old (reached before)
      (numbers_of (all_records before)) →
      WalksBelowLink s pages f.node before root (child_link c) result new
  pub made : IfOk result (λ m. makes m (tree_of (place f.node c.level (child_link c))))

-- one step on the chain of free pages
abbrev pub StepsOnChain : (ℕ → Option ℕ) → ℕ → ℕ → List ℕ → List ℕ → Result ℕ MapErr → Visited →
    Type 0
StepsOnChain free pages p ps ns (Ok g) after =
    ((nat_le pages p || (has p ps || is_none (free p))) ≡ false)
    × (free p ≡ Some g)
    × Saw pages after (ps ++ p ∷ []) ns
StepsOnChain free pages p ps ns (Err (errors.Map f)) after =
    ((nat_le pages p || (has p ps || is_none (free p))) ≡ true)
    × (f ≡ record { page = p; rule = rule.Free })
StepsOnChain free pages p ps ns (Err _) after = ⊤

-- the chain was followed, or met this fault
abbrev pub FollowsChain : {A : Type 0} → (ℕ → Option ℕ) → ℕ → ℕ → List ℕ → List ℕ →
    Result A MapErr → Visited → Type 0
FollowsChain free pages f ps ns (Ok _) after =
    (chain_faults free pages ps (chain free pages f) ≡ [])
    × Saw pages after (ps ++ chain free pages f) ns
FollowsChain free pages f ps ns (Err (errors.Map e)) after =
    first_of (chain_faults free pages ps (chain free pages f)) ≡ Some e
FollowsChain free pages f ps ns (Err _) after = ⊤

-- the same, whatever was seen before
abbrev pub StepsOn : ℕ → ℕ → Visited → Result ℕ MapErr → Visited → File → Type 0
StepsOn pages page old result new f = (ps ns : List ℕ) → Saw pages old ps ns →
    StepsOnChain f.free pages page ps ns result new

abbrev pub ChainsOn : {A : Type 0} → ℕ → ℕ → Visited → Result A MapErr → Visited → File → Type 0
ChainsOn pages first old result new f = (ps ns : List ℕ) → Saw pages old ps ns →
    FollowsChain f.free pages first ps ns result new

-- no fault of a file behind page 0, or the first fault
abbrev pub ChecksBehind : {A : Type 0} → (List ℕ → List ℕ) → File → Result A MapErr → Type 0
ChecksBehind hash file (Ok _) = mapfault hash file ≡ None
ChecksBehind hash file (Err (errors.Map f)) = mapfault hash file ≡ Some f
ChecksBehind hash file (Err _) = ⊤

-- no fault from a root on, or the first one
abbrev pub WalksFromRoot : {A : Type 0} → Scheme → ℕ → (ℕ → Option Node) → Option Link →
    Result A MapErr → Visited → Type 0
WalksFromRoot s pages at root (Ok _) after = Passed s pages [] (walk at root) after
WalksFromRoot s pages at root (Err (errors.Map f)) after =
    first_of (walk_faults s pages [] (walk at root)) ≡ Some f
WalksFromRoot s pages at root (Err _) after = ⊤

-- what the walk from a root comes to, and what was made of the nodes
pub record WalkedAll {M : Type 0} (s : Scheme) (makes : M → File → Type 0) (pages : ℕ)
    (root : Option Link) (result : Result M MapErr) (new : Visited) (f : File) : Type 0 where
  pub visits_ : WalksFromRoot s pages f.node root result new
  pub made : IfOk result (λ m. makes m f)

-- what comes of all that is behind page 0, which says this, and what was made of the nodes
pub record CheckedBehind {M : Type 0} (v : Version) (hash : List ℕ → List ℕ)
    (makes : M → File → Type 0) (pages : ℕ) (h : MapHead) (result : Result M MapErr) (f : File)
    : Type 0 where
  pub checks : f.version ≡ v → f.pages ≡ pages → f.head ≡ Ok (head_of h) →
      ChecksBehind hash f result
  pub made : IfOk result (λ m. makes m f)

-- what opening a file answers: the map that its pages spell, where it has no fault
abbrev pub OpensFile : (List ℕ → List ℕ) → File → Result Opened MapErr → Type 0
OpensFile hash file (Ok map) =
    (mapfault hash file ≡ None)
    × (map.version ≡ file.version)
    × (h : Head) × (file.head ≡ Ok h)
    × (map.tree ≡ whole_tree (placed_at file.node h.root))
    × (map.batch ≡ h.batch)
OpensFile hash file (Err (errors.Map f)) = mapfault hash file ≡ Some f
OpensFile hash file (Err _) = ⊤
