-- What a command may come to over files that are not told. Where it reads pages of a map again, a
-- page may be another one by then; over files that are told none ever is.
use Rattle.std.specs.Prelude.{◌≡◌, ◌≢◌, ◌⊎◌, ◌↔◌, ⊤, false, true, ℕ, ◌^◌, ◌<◌, ◌≤◌, Bool, nat_lt, List, [], ◌∷◌, length, Option, Some, None, IfSome, IsNone, Ok, Err}
use Rattle.std.specs.List.{list_any}
use Rattle.mr_outside.specs.Files.{Files}
use Rattle.mr_journal.specs.Images.{Image}
use Rattle.mr_outside.specs.Bytes.{AreBytes}
use Rattle.mr_record.specs.declared.record.Record.{Record}
use Rattle.mr_record.specs.declared.text_fault.TextFault.{TextFault}
use Rattle.mr_record.specs.declared.version.Version.{Version}
use Rattle.mr_record.specs.declared.version.Version.TheVariants.{One, Two}
use Rattle.mr_tree.specs.Tree.{records}
use Rattle.mr_tree.specs.Digest.{root_preimage}
use Rattle.mr_tree.specs.Limits.{count_limit, level_limit}
use Rattle.mr_tree.specs.Nodes.{MapModel, root_entry}
use Rattle.mr_tree.specs.View.{IsChild}
use Rattle.mr_tree.specs.declared.child.Child.{Child}
use Rattle.mr_tree.specs.declared.nodes.Top.{Top}
use Rattle.mr_pages.specs.Law.{IsMapFile, map_in, map_root}
use Rattle.mr_pages.specs.declared.opening.Opened.{Opened}
use Rattle.mr_pages.specs.Opening.{SomeFile}
use Rattle.mr_pages.specs.declared.error.MapErr.TheVariants as errors
use Rattle.mr_pages.specs.declared.rule.MapFault.{MapFault}
use Rattle.mr_pages.specs.declared.rule.MapRule.{MapRule}
use Rattle.mr_pages.specs.declared.rule.MapRule.TheVariants as rule
use Rattle.mr_batch.specs.Admissible.{batch_fault}
use Rattle.mr_batch.specs.Applied.{IsAdmissible}
use Rattle.mr_batch.specs.BatchText.{batch_of_text}
use Rattle.mr_batch.specs.Changes.{Changes}
use Rattle.mr_batch.specs.Replay.{replay}
use Rattle.mr_batch.specs.declared.change.Change.{Change}
use Rattle.mr_batch.specs.declared.change.Change.TheVariants.{Add, Remove}
use Rattle.mr_batch.specs.declared.admission.BatchFault.{BatchFault}
use Rattle.mr_query.specs.declared.query.Query.{Query}
use Rattle.mr_check.specs.Versions.{proof_version}
use Rattle.mr_clash.specs.Finding.{ShowsCollision, FindsFor}
use Rattle.mr_clash.specs.declared.finding.Finding.{Finding}
use Rattle.mr_query.specs.declared.key.Key.{Key}
use Rattle.mr_proof.specs.Tight.{Question, question}
use Rattle.mr_proof.specs.declared.way.Way.{Way}
use Rattle.mr_count.specs.Finding as choices
use Rattle.mr_count.specs.declared.finding.ChoiceFinding.{ChoiceFinding}
use Rattle.mr_plan.specs.Counts.{count_letter, count_question, count_ways}
use Rattle.mr_plan.specs.Found.{bad_map_line}
use Rattle.mr_plan.specs.Lines.{digest_line, needs_version_2_line, bad_text_line, bad_batch_line, recovered_line}
use Rattle.mr_plan.specs.Outcome.{Outcome}
use Rattle.mr_plan.specs.Outcome as content
use Rattle.mr_plan.specs.Plan.{LeadsToOutcome}
use Rattle.mr_plan.specs.Say.{say}
use Rattle.mr_plan.specs.Saying.{ends, says_missing, say_text, say_written, say_finding, say_count_finding, say_in_place}
use Rattle.mr_plan.specs.declared.status.Status.{Status}
use Rattle.mr_plan.specs.declared.status.Status.TheVariants.{Done, BadText, BadMap, BadBatch, NeedsVersion2}
use Rattle.mr_plan.specs.declared.words.Command.{Command}
use Rattle.mr_plan.specs.declared.words.Command.TheVariants as commands

-- a page that is read again is no node any more, names one outside the file, or has another digest
-- than before
abbrev pub IsOfAgain : MapRule → Type 0
IsOfAgain rule.Page = ⊤
IsOfAgain rule.Outside = ⊤
IsOfAgain (rule.Changed held found) = held ≢ found
IsOfAgain _ = ⊥

-- the fault is the first of some bytes as a map file of some version, or one of a page that is read
-- again
abbrev pub IsSomeFault : (List ℕ → List ℕ) → MapFault → Type 0
IsSomeFault hash fault =
    SomeFile hash (Err (errors.Map fault)) ⊎ IsOfAgain fault.rule

-- the file is refused as a map
abbrev pub IsBadMap : (List ℕ → List ℕ) → Outcome → Type 0
IsBadMap hash said = (fault : MapFault) × IsSomeFault hash fault
    × (said ≡ ends BadMap (bad_map_line fault))

-- it is missing, or is refused
abbrev pub IsRefused : (List ℕ → List ℕ) → (map : List ℕ) → Outcome → Type 0
IsRefused hash map said = (said ≡ says_missing map) ⊎ IsBadMap hash said

-- What was found of the bytes of a proof: by their verdict against the root digest of what some map
-- says of itself its fault, or its answer as sound; or, where it accepts, two byte strings that
-- differ and have one hash.
pub record IsFinding (hash : List ℕ → List ℕ) (query : Query) (bytes : List ℕ) (finding : Finding)
    : Type 0 where
  pub stands : MapModel
  pub are : AreBytes bytes
  pub top : Top
  pub judged : FindsFor hash stands top query bytes finding
  pub collides : ShowsCollision hash finding

-- the same of the bytes of a proof of a count
pub record IsCountFinding (hash : List ℕ → List ℕ) (way : Key → Way) (bytes : List ℕ)
    (finding : ChoiceFinding) : Type 0 where
  pub stands : MapModel
  pub are : AreBytes bytes
  pub top : Top
  pub judged : choices.FindsForChoice hash stands top count_letter way bytes finding
  pub collides : choices.ShowsCollision hash finding

-- only proofs of the second version may come of what is asked, of which a map of the first has none
abbrev pub LacksProof : Question → Outcome → Type 0
LacksProof asked said =
    (asked.two_only ≡ true) × (said ≡ ends NeedsVersion2 needs_version_2_line)

-- some text has this first fault as a batch of some version
abbrev pub IsBadText : Outcome → Type 0
IsBadText said = (v : Version) × (text : List ℕ) × AreBytes text × ((fault : TextFault)
    × (batch_of_text v text ≡ Err fault) × (said ≡ ends BadText (bad_text_line fault)))

-- the batch of some text may not be applied to some records at some batch, for this cause
abbrev pub IsBadBatch : Outcome → Type 0
IsBadBatch said = (v : Version) × (text : List ℕ) × AreBytes text × ((batch : Changes)
    × (batch_of_text v text ≡ Ok batch) × ((rs : List Record) × (held : ℕ) × ((fault : BatchFault)
    × (batch_fault rs held batch ≡ Some fault) × (said ≡ ends BadBatch (bad_batch_line fault)))))

-- the root digest of some version, batch, count and root node that a map may have
pub record IsRootOfSome (hash : List ℕ → List ℕ) (digest : List ℕ) : Type 0 where
  pub version : Version
  pub batch : ℕ
  pub low : batch < 2 ^ 64
  pub count : ℕ
  pub few : count ≤ count_limit
  pub root : Option Child
  pub none : (count ≡ 0) ↔ IsNone root
  pub level : IfSome root (λ (c : Child). c.level ≤ level_limit)
  pub node : IfSome root IsChild
  pub is : digest ≡ hash (root_preimage version batch count (root_entry root))

-- such a digest is printed, and the file has some bytes
abbrev pub IsSomeRoot : (List ℕ → List ℕ) → (new : List ℕ) → Outcome → Type 0
IsSomeRoot hash new said = (digest : List ℕ) × (length digest ≡ 32) × IsRootOfSome hash digest
    × ((bytes : List ℕ) × (said ≡ say_text (digest_line digest) new bytes))

-- ---- what is said of a map of which not all reads give the same bytes

-- it is refused, or lacks the proof, or some bytes are written
abbrev pub MaySayProof : (List ℕ → List ℕ) → (map : List ℕ) → Question → (proof : List ℕ)
    → Outcome → Type 0
MaySayProof hash map asked proof said = IsRefused hash map said ⊎ LacksProof asked said
    ⊎ ((bytes : List ℕ) × (said ≡ say_written proof bytes))

-- it is refused, or the proof is missing, or what was found of some bytes is said
abbrev pub MaySayBeside : (List ℕ → List ℕ) → (map proof : List ℕ) → (Outcome → Type 0) → Outcome
    → Type 0
MaySayBeside hash map proof finds said =
    IsRefused hash map said ⊎ (said ≡ says_missing proof) ⊎ finds said

-- of a query: in lines of their version
abbrev pub MaySayAudit : (List ℕ → List ℕ) → (map : List ℕ) → Query → (proof : List ℕ) → Outcome
    → Type 0
MaySayAudit hash map query proof = MaySayBeside hash map proof (λ said. (bytes : List ℕ)
    × (finding : Finding) × IsFinding hash query bytes finding
    × (said ≡ say_finding (proof_version bytes) finding))

-- of a count
abbrev pub MaySayAuditCount : (List ℕ → List ℕ) → (map : List ℕ) → (Key → Way) → (proof : List ℕ)
    → Outcome → Type 0
MaySayAuditCount hash map way proof = MaySayBeside hash map proof (λ said. (bytes : List ℕ)
    × (finding : ChoiceFinding) × IsCountFinding hash way bytes finding
    × (said ≡ say_count_finding way finding))

-- it is refused, or why some batch is not applied is said, or some root
abbrev pub MaySayApply : (List ℕ → List ℕ) → (old batch new : List ℕ) → Outcome → Type 0
MaySayApply hash old batch new said = IsRefused hash old said ⊎ (said ≡ says_missing batch)
    ⊎ IsBadText said ⊎ IsBadBatch said ⊎ IsSomeRoot hash new said

-- ---- what is said of a map in its own file

-- whatever the map and its journal were
abbrev pub IsSaidInPlace : Status → (text map : List ℕ) → Outcome → Type 0
IsSaidInPlace status text map said =
    (was : Image) × (said ≡ say_in_place status text map was None)

-- it is missing, or it is said whether its journal was open
abbrev pub MaySayRecover : (map : List ℕ) → Outcome → Type 0
MaySayRecover map said = (said ≡ says_missing map)
    ⊎ ((was : Bool) × IsSaidInPlace Done (recovered_line was) map said)

-- the first fault of some bytes as a map file
abbrev pub IsBadMapHere : (List ℕ → List ℕ) → (map : List ℕ) → Outcome → Type 0
IsBadMapHere hash map said = (fault : MapFault) × SomeFile hash (Err (errors.Map fault))
    × IsSaidInPlace BadMap (bad_map_line fault) map said

-- some bytes stand for this map
abbrev pub HoldsSome : (List ℕ → List ℕ) → Opened → Type 0
HoldsSome hash m = (bytes : List ℕ) × AreBytes bytes × IsMapFile hash bytes m

-- some text is of this batch, whose lines are of this version
abbrev pub SpellsBatch : Version → Changes → Type 0
SpellsBatch v batch = (text : List ℕ) × AreBytes text × (batch_of_text v text ≡ Ok batch)

-- a record on a layer above 0 comes in
abbrev pub adds_layer : Change → Bool
adds_layer (Add r) = nat_lt 0 r.layer
adds_layer (Remove n) = false

-- some bytes stand for a map of version 1, which has no layers, and the batch of some text of
-- version 2 asks for one
abbrev pub LacksLayersHere : (List ℕ → List ℕ) → (map : List ℕ) → Outcome → Type 0
LacksLayersHere hash map said = (batch : Changes) × SpellsBatch Two batch
    × (list_any adds_layer batch.list ≡ true) × ((m : Opened) × HoldsSome hash m
    × (m.version ≡ One) × IsSaidInPlace NeedsVersion2 needs_version_2_line map said)

-- why the batch of some text may not be applied to the map that some bytes stand for
abbrev pub IsBadBatchHere : (List ℕ → List ℕ) → (map : List ℕ) → Outcome → Type 0
IsBadBatchHere hash map said = (v : Version) × (batch : Changes) × SpellsBatch v batch
    × ((m : Opened) × HoldsSome hash m × ((fault : BatchFault)
    × (batch_fault (records m.tree) m.batch batch ≡ Some fault)
    × IsSaidInPlace BadBatch (bad_batch_line fault) map said))

-- The root digest of the map that some bytes stand for, after the batch of some text, which may be
-- applied to it. The file then holds bytes of that map.
abbrev pub IsRootHere : (List ℕ → List ℕ) → (map : List ℕ) → Outcome → Type 0
IsRootHere hash map said = (v : Version) × (batch : Changes) × SpellsBatch v batch
    × ((m : Opened) × HoldsSome hash m × IsAdmissible (records m.tree) m.batch batch
    × ((made : Opened) × (made ≡ map_in m.version (replay m.tree (batch ∷ [])) batch.number)
    × ((bytes : List ℕ) × IsMapFile hash bytes made × ((was : Image)
    × (said ≡ say_in_place Done (digest_line (map_root hash made)) map was
    (Some (content.text bytes)))))))

-- It is missing, or the batch is; or why some batch is not applied is said, or some root.
abbrev pub MaySayApplyHere : (List ℕ → List ℕ) → (map batch : List ℕ) → Outcome → Type 0
MaySayApplyHere hash map batch said = (said ≡ says_missing map) ⊎ (said ≡ says_missing batch)
    ⊎ IsBadText said ⊎ IsBadMapHere hash map said ⊎ LacksLayersHere hash map said
    ⊎ IsBadBatchHere hash map said ⊎ IsRootHere hash map said

-- ---- all commands

-- What may be said over files that are not told. What a command says that reads no page again is
-- what its plan leads to, by some content of each file.
abbrev pub MaySayUntold : (List ℕ → List ℕ) → Option Command → Outcome → Type 0
MaySayUntold hash (Some (commands.Prove map query proof)) said =
    MaySayProof hash map.now (question query) proof.now said
MaySayUntold hash (Some (commands.Audit map query proof)) said =
    MaySayAudit hash map.now query proof.now said
MaySayUntold hash (Some (commands.Count map query proof)) said =
    MaySayProof hash map.now (count_question (count_ways query)) proof.now said
MaySayUntold hash (Some (commands.AuditCount map query proof)) said =
    MaySayAuditCount hash map.now (count_ways query) proof.now said
MaySayUntold hash (Some (commands.Apply old batch new)) said =
    MaySayApply hash old.now batch.now new.now said
MaySayUntold hash (Some (commands.ApplyHere map batch)) said =
    MaySayApplyHere hash map.now batch.now said
MaySayUntold hash (Some (commands.Recover map)) said = MaySayRecover map.now said
MaySayUntold hash command said = LeadsToOutcome (say hash command) None said

-- what may be said: over files that are told what the plan leads to
abbrev pub MaySay : (List ℕ → List ℕ) → Option Command → Option Files → Outcome → Type 0
MaySay hash command None said = MaySayUntold hash command said
MaySay hash command (Some files) said = LeadsToOutcome (say hash command) (Some files) said
