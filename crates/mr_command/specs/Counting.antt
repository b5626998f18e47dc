-- How many reads a command takes over files that are told: an input that is read whole takes its
-- pieces once, a map its pages once, and the nodes that are fetched beside; and of `apply` the map
-- its pages once more for the copy, and what the changes read.
use Rattle.std.specs.Prelude.{◌≡◌, ◌⊎◌, ⊤, false, ℕ, ◌+◌, ◌-◌, ◌*◌, ◌≤◌, ◌<◌, List, length, take, Option, Some, None, MatchOption, Ok}
use Rattle.mr_outside.specs.Files.{Files, file}
use Rattle.mr_outside.specs.Reading.{piece_count}
use Rattle.mr_outside.specs.State.{Shelved}
use Rattle.mr_outside.specs.Told.{OfFiles}
use Rattle.mr_tree.specs.Digest.{Scheme, by}
use Rattle.mr_tree.specs.Tree.{records}
use Rattle.mr_tree.specs.declared.tree.Tree.{Tree}
use Rattle.mr_record.specs.declared.version.Version.{Version}
use Rattle.mr_pages.specs.File.{version_of}
use Rattle.mr_pages.specs.Law.{IsMapFile, map_in}
use Rattle.mr_pages.specs.Opening.{pages_in}
use Rattle.mr_batch.specs.Applied.{IsAdmissible}
use Rattle.mr_batch.specs.BatchText.{batch_of_text}
use Rattle.mr_batch.specs.Changes.{Changes}
use Rattle.mr_query.specs.declared.query.Query.{Query}
use Rattle.mr_query.specs.declared.key.Key.{Key}
use Rattle.mr_proof.specs.declared.way.Way.{Way}
use Rattle.mr_proof.specs.Feeding.{IsUnsettled}
use Rattle.mr_proof.specs.Tight.{Question, question}
use Rattle.mr_proof.specs.Honest.{opened_for}
use Rattle.mr_prove.specs.Causes.{rounds}
use Rattle.mr_clash.specs.Finding.{opened_accepted}
use Rattle.mr_clash.specs.QuestionFindings.{opened_checked_by}
use Rattle.mr_edit.specs.Reads.{reads_along}
use Rattle.mr_store.specs.Kept.{room}
use Rattle.mr_plan.specs.Counts.{count_ways, count_question}
use Rattle.mr_plan.specs.Found.{Found, ShowsMap}
use Rattle.mr_plan.specs.Plan.{Input, Plan, comes, reads, opens, seeks}
use Rattle.mr_plan.specs.Say.{say, say_check, lacks_proof_for}
use Rattle.mr_plan.specs.declared.words.Command.{Command}
use Rattle.mr_plan.specs.declared.words.Command.TheVariants as commands

-- in how many pieces an input is read whole
abbrev pub pieces_of : Input → ℕ
pieces_of None = 0
pieces_of (Some bytes) = piece_count (length bytes)

-- in how many reads an input is read, by what follows on it: page by page what is opened as a map
abbrev pub reads_taken : Plan → Input → ℕ
reads_taken (opens v hash bytes next) input = pages_in bytes
reads_taken _ input = pieces_of input

-- a map of these bytes has more pages than are all kept
abbrev pub IsLarge : List ℕ → Type 0
IsLarge bytes = room + 1 < pages_in bytes

-- the pages of a map of these bytes, or of a large one that has a proof of what is asked besides,
-- so many times, the nodes that this opens
abbrev pub IsFewOf : (List ℕ → List ℕ) → (times : ℕ) → Question → List ℕ → ℕ → Type 0
IsFewOf hash times asked bytes n = (n ≤ pages_in bytes)
    ⊎ (IsLarge bytes × (lacks_proof_for (version_of bytes) asked ≡ false)
    × ((t : Tree) × (batch : ℕ) × IsMapFile hash bytes (map_in (version_of bytes) t batch)
    × (n ≤ pages_in bytes + times * opened_for (by (version_of bytes) hash) asked t)))

-- how many nodes bytes open, by the map against which they are a proof
abbrev pub Opens : Type 0
Opens = Scheme → Tree → (batch : ℕ) → List ℕ → ℕ

-- those of the proof of an answer to a query, where it is accepted
abbrev pub opens_for : Query → Opens
opens_for q s t batch bytes = opened_accepted s t batch q bytes

-- those of the proof of a count
abbrev pub opens_for_count : (Key → Way) → Opens
opens_for_count way s t batch bytes = opened_checked_by s t batch (count_question way) bytes

-- the nodes that a proof opens, where it is there
abbrev pub opened_beside : Opens → Scheme → Tree → (batch : ℕ) → Input → ℕ
opened_beside opened_nodes s t batch None = 0
opened_beside opened_nodes s t batch (Some bytes) = opened_nodes s t batch bytes

-- the pages of a file of these bytes; where it stands for a map the pieces of a proof besides, and
-- where that is large the nodes that the proof opens
abbrev pub IsFewBeside : (List ℕ → List ℕ) → Opens → List ℕ → Input → ℕ → Type 0
IsFewBeside hash opened_nodes bytes proof n = (n ≤ pages_in bytes)
    ⊎ ((t : Tree) × (batch : ℕ) × IsMapFile hash bytes (map_in (version_of bytes) t batch)
    × ((n ≤ pages_in bytes + pieces_of proof) ⊎ (IsLarge bytes
    × (n ≤ pages_in bytes + pieces_of proof
    + opened_beside opened_nodes (by (version_of bytes) hash) t batch proof))))

-- behind a batch: nothing, unless it may be applied; and then each page once more for the copy, and
-- what its changes read
abbrev pub IsFewBehind : (pages : ℕ) → Tree → (held : ℕ) → Changes → ℕ → Type 0
IsFewBehind pages t held batch n = (n ≡ 0)
    ⊎ (IsAdmissible (records t) held batch × (n ≤ pages + reads_along t batch.list))

-- behind the pieces of a batch: nothing, unless its text has no fault in the map's version
abbrev pub IsFewOfBatch : Version → (pages : ℕ) → Tree → (held : ℕ) → Input → ℕ → Type 0
IsFewOfBatch v pages t held None n = n ≡ 0
IsFewOfBatch v pages t held (Some text) n = (n ≡ 0)
    ⊎ ((batch : Changes) × (batch_of_text v text ≡ Ok batch) × IsFewBehind pages t held batch n)

-- the pages of a file of these bytes; where it stands for a map the pieces of a batch besides, and
-- what is read behind it
abbrev pub IsFewApplied : (List ℕ → List ℕ) → List ℕ → Input → ℕ → Type 0
IsFewApplied hash bytes batch n = (n ≤ pages_in bytes)
    ⊎ ((t : Tree) × (held : ℕ) × IsMapFile hash bytes (map_in (version_of bytes) t held)
    × (behind : ℕ) × (n ≤ pages_in bytes + pieces_of batch + behind)
    × IsFewOfBatch (version_of bytes) (pages_in bytes) t held batch behind)

-- so many reads of the map, for a proof that fetches its nodes so many times
abbrev pub AllowsProof : (List ℕ → List ℕ) → (map : List ℕ) → (times : ℕ) → Question → Files → ℕ
    → Type 0
AllowsProof hash map times asked files n =
    MatchOption (file files map) (n ≡ 0) (λ bytes. IsFewOf hash times asked bytes n)

-- and of the proof, for an audit
abbrev pub AllowsAudit : (List ℕ → List ℕ) → (map : List ℕ) → Opens → (proof : List ℕ) → Files
    → ℕ → Type 0
AllowsAudit hash map opened_nodes proof files n = MatchOption (file files map) (n ≡ 0)
    (λ bytes. IsFewBeside hash opened_nodes bytes (file files proof) n)

-- of the map, the batch and the new file, for `apply`
abbrev pub AllowsApply : (List ℕ → List ℕ) → (old batch : List ℕ) → Files → ℕ → Type 0
AllowsApply hash old batch files n =
    MatchOption (file files old) (n ≡ 0) (λ bytes. IsFewApplied hash bytes (file files batch) n)

-- So many pieces of a proof are read: none behind the one with which its verdict is a fault that is
-- that of all longer strings.
abbrev pub IsToFault : (List ℕ → List ℕ) → (root : List ℕ) → Query → Input → ℕ → Type 0
IsToFault hash root q None n = ⊤
IsToFault hash root q (Some bytes) n =
    (n ≤ 1) ⊎ IsUnsettled hash root (question q) (take ((n - 1) * 65536) bytes)

-- so many reads: each input once, and no more where the command stops; nothing is said from where a
-- journal is sought
abbrev pub AllowsReads : Plan → Files → ℕ → Type 0
AllowsReads (comes said) files n = n ≡ 0
AllowsReads (reads name next) files n = (here : ℕ) × (rest : ℕ) × (n ≡ here + rest)
    × (here ≤ reads_taken (next (file files name)) (file files name))
    × ((rest ≡ 0) ⊎ AllowsReads (next (file files name)) files rest)
AllowsReads (opens v hash bytes next) files n = (found : Found) × ShowsMap v hash bytes found
    × AllowsReads (next found) files n
AllowsReads (seeks name next) files n = ⊤

-- so many reads of a proof that is judged as it is read
abbrev pub AllowsCheck : (List ℕ → List ℕ) → (root : List ℕ) → Query → (proof : List ℕ) → Files
    → ℕ → Type 0
AllowsCheck hash root q proof files n = AllowsReads (say_check hash root q proof) files n
    × IsToFault hash root q (file files proof) n

-- so many reads of a command: what its plan takes, where it reads no page and no proof otherwise
abbrev pub MayRead : (List ℕ → List ℕ) → Option Command → Files → ℕ → Type 0
MayRead hash (Some (commands.Prove map q proof)) files n =
    AllowsProof hash map.now (rounds q) (question q) files n
MayRead hash (Some (commands.Audit map q proof)) files n =
    AllowsAudit hash map.now (opens_for q) proof.now files n
MayRead hash (Some (commands.Count map q proof)) files n =
    AllowsProof hash map.now 1 (count_question (count_ways q)) files n
MayRead hash (Some (commands.AuditCount map q proof)) files n =
    AllowsAudit hash map.now (opens_for_count (count_ways q)) proof.now files n
MayRead hash (Some (commands.Apply old batch new)) files n =
    AllowsApply hash old.now batch.now files n
MayRead hash (Some (commands.Check root q proof)) files n =
    AllowsCheck hash root q proof.now files n
MayRead hash command files n = AllowsReads (say hash command) files n

-- what was read in between, where the files are told
abbrev pub ReadsWithinPlan : (Files → ℕ → Type 0) → Shelved → Shelved → Type 0
ReadsWithinPlan allows before after = OfFiles before.files
    (λ files. (n : ℕ) × (after.reads ≤ before.reads + n) × allows files n)
