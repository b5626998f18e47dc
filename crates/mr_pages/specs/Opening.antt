-- What opening a named file answers.
use Rattle.std.specs.Prelude.{◌≡◌, ⊤, ◌⊎◌, ℕ, ◌/◌, ◌≤◌, max, min, List, length, Some, Result, Ok, Err, IsErrOf}
use Rattle.mr_tree.specs.declared.tree.Tree.{Tree}
use Rattle.mr_outside.specs.Bytes.{AreBytes}
use Rattle.mr_record.specs.declared.version.Version.{Version}
use Rattle.mr_outside.specs.Faults.{Rose}
use Rattle.mr_outside.specs.State.{Shelved}
use Rattle.mr_outside.specs.Told.{MayMiss}
use Rattle.mr_outside.specs.declared.shelf.ShelfErr.{ShelfErr}
use Rattle.mr_outside.specs.declared.shelf.ShelfErr.TheVariants as shelf
use Rattle.mr_tree.specs.declared.hash.Hashes as hashes
use Rattle.mr_tree.specs.declared.snapshot.Snapshot.{Snapshot}
use Rattle.mr_tree.specs.Snapshot.{tree_of}
use Rattle.mr_tree.specs.declared.nodes.Top.{Top}
use Rattle.mr_tree.specs.declared.stored.Stored.{Stored}
use Rattle.mr_tree.specs.declared.nodes.NodesErr.{NodesErr}
use Rattle.mr_tree.specs.declared.nodes.NodesErr.TheVariants as nodes
use Rattle.mr_pages.specs.PageBytes.{page_size, form_by}
use Rattle.mr_pages.specs.declared.rule.MapRule.TheVariants as rule
use Rattle.mr_pages.specs.declared.rule.MapFault.{MapFault}
use Rattle.mr_pages.specs.declared.opening.Opened.{Opened}
use Rattle.mr_pages.specs.declared.error.MapErr.{MapErr}
use Rattle.mr_pages.specs.declared.error.MapErr.TheVariants as errors
use Rattle.mr_pages.specs.Page.{Form}
use Rattle.mr_pages.specs.File.{file_of, form_at}
use Rattle.mr_pages.specs.Faults.{mapfault}
use Rattle.mr_pages.specs.Law.{IsMap}

-- the same cause in a call's own words
abbrev pub of_shelf : ShelfErr → MapErr
of_shelf shelf.Missing = errors.Missing
of_shelf shelf.Fault = errors.Fault
of_shelf shelf.NoMemory = errors.NoMemory

-- why a node was not fetched, as what it says of the map's file
abbrev pub of_nodes : NodesErr → MapErr
of_nodes (nodes.Changed page held found) =
    errors.Map (record { page = page; rule = rule.Changed held found })
of_nodes (nodes.Page page) = errors.Map (record { page = page; rule = rule.Page })
of_nodes (nodes.Outside page) = errors.Map (record { page = page; rule = rule.Outside })
of_nodes nodes.Missing = errors.Missing
of_nodes nodes.Fault = errors.Fault
of_nodes nodes.NoMemory = errors.NoMemory

-- ---- what was opened

-- the map that is in memory, by its nodes and its head
abbrev pub opened_in : List Stored → Top → Opened
opened_in nodes top = record
    { tree = tree_of nodes top; version = top.version; batch = top.batch }

abbrev pub opened_of : {H : Type 0} {K : hashes.Ghosts H} → Snapshot H K → Opened
opened_of s = opened_in s.nodes.items s.top

-- the answer of a call whose values show this
abbrev pub opened_as : {A : Type 0} → (A → Opened) → Result A MapErr → Result Opened MapErr
opened_as shows (Ok made) = Ok (shows made)
opened_as shows (Err e) = Err e

-- how many pages a file of these bytes has, or 1 where what was read of it tells that it has none;
-- and of a file that is smaller than any page nothing is read
abbrev pub pages_in : List ℕ → ℕ
pages_in bytes = min (length bytes / page_size) (max 1 (length bytes / (form_at bytes).size))

-- ---- whether something was found out

-- the call failed, and says nothing of the file
abbrev pub FailsWithoutFault : Result Opened MapErr → Type 0
FailsWithoutFault (Ok map) = ⊥
FailsWithoutFault (Err (errors.Map f)) = ⊥
FailsWithoutFault (Err _) = ⊤

-- this is the answer, unless the call failed
abbrev pub OrFails : (result wanted : Result Opened MapErr) → Type 0
OrFails result wanted = (result ≡ wanted) ⊎ FailsWithoutFault result

-- ---- what was found out

-- what is answered of these bytes: the map that they stand for, or their fault
abbrev pub AnswersMap : Form → (List ℕ → List ℕ) → List ℕ → Result Opened MapErr → Type 0
AnswersMap form hash bytes (Ok map) =
    (map.version ≡ form.version) × IsMap form hash bytes map.tree map.batch
AnswersMap form hash bytes (Err (errors.Map f)) = mapfault hash (file_of form bytes) ≡ Some f
AnswersMap form hash bytes (Err _) = ⊤

-- the answer is that of some bytes
abbrev pub SomeBytes : Form → (List ℕ → List ℕ) → Result Opened MapErr → Type 0
SomeBytes form hash result = (bytes : List ℕ) × AreBytes bytes × AnswersMap form hash bytes result

-- that of some bytes, read in some version
abbrev pub SomeFile : (List ℕ → List ℕ) → Result Opened MapErr → Type 0
SomeFile hash result = (v : Version) × SomeBytes (form_by v) hash result

-- what is answered where the file has these bytes: nothing but their map or their fault, and that
-- it is, unless the call failed; and its cells are bytes
pub record TellsBytes (form : Form) (hash : List ℕ → List ℕ) (bytes : List ℕ)
    (result : Result Opened MapErr) : Type 0 where
  pub are : AreBytes bytes
  pub answers : AnswersMap form hash bytes result
  pub fault : (f : MapFault) → mapfault hash (file_of form bytes) ≡ Some f →
      OrFails result (Err (errors.Map f))
  pub map : (t : Tree) (b : ℕ) → IsMap form hash bytes t b →
      OrFails result (Ok (record { tree = t; version = form.version; batch = b }))

-- ---- why

-- each failure has its cause, and a call that says something of the file counts no fault
pub record MapCauses (name : List ℕ) (before after : Shelved) (result : Result Opened MapErr)
    : Type 0 where
  pub missing : IsErrOf result errors.Missing →
      MayMiss before.files name before.faults after.faults
  pub fault : IsErrOf result errors.Fault → Rose before.faults after.faults
  pub faults : before.faults ≤ after.faults
  pub quiet : (after.faults ≡ before.faults) ⊎ FailsWithoutFault result
