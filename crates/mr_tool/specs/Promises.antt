-- What a run promises of inputs that are in order, of honest proofs and of accepted ones: theorems
-- over what it answers, in the form in which they are quoted. They speak of files that are told,
-- but for the commands that read none.
use Rattle.std.specs.Prelude.{◌≡◌, ◌⊎◌, ⊤, ℕ, List, [], ◌∷◌, ◌++◌, length, All, false, Option, Some, None, Ok}
use Rattle.std.specs.Borrow.{Bor}
use Rattle.mr_outside.specs.Files.{Files}
use Rattle.mr_outside.specs.Told.{TakesBytes}
use Rattle.mr_journal.specs.Format.{is_open}
use Rattle.mr_journal.specs.Recovered.{FilesHave, restored_in}
use Rattle.mr_journal.specs.Shelves.{bytes_or_none, image_on}
use Rattle.mr_record.specs.RecordText.{records_of_text}
use Rattle.mr_record.specs.declared.record.Record.{Record}
use Rattle.mr_record.specs.declared.version.Version.{Version}
use Rattle.mr_record.specs.declared.version.Version.TheVariants.{One, Two}
use Rattle.mr_tree.specs.Digest.{by}
use Rattle.mr_tree.specs.Tree.{records}
use Rattle.mr_tree.specs.declared.tree.Tree.{Tree}
use Rattle.mr_pages.specs.Law.{IsMapFile, map_root, map_in}
use Rattle.mr_batch.specs.Applied.{IsAdmissible}
use Rattle.mr_batch.specs.BatchText.{batch_of_text}
use Rattle.mr_batch.specs.Changes.{Changes}
use Rattle.mr_batch.specs.Replay.{replay}
use Rattle.mr_query.specs.Script.{queries_of_text}
use Rattle.mr_query.specs.declared.query.Query.{Query}
use Rattle.mr_proof.specs.Accepted.{ShowsCut, ProvesAnswer}
use Rattle.mr_proof.specs.Clash.{Pair, IsCollision}
use Rattle.mr_proof.specs.Honest.{IsProofFor}
use Rattle.mr_proof.specs.Spelling.{Parsed}
use Rattle.mr_proof.specs.Tight.{Question, MayCome, question}
use Rattle.mr_join.specs.Accepted.{Owned, join_proof}
use Rattle.mr_join.specs.declared.pair.Pair as joined
use Rattle.mr_bundle.specs.Bundle.{parts}
use Rattle.mr_bundle.specs.Proofs.{HasProofs}
use Rattle.mr_bundle.specs.Verdicts.{verdicts}
use Rattle.mr_command.specs.Answer.{World, IsWhole, HasStopped}
use Rattle.mr_plan.specs.Counts.{count_question, count_ways}
use Rattle.mr_plan.specs.Joins.{join_given, map_collision_lines, first_name, second_name}
use Rattle.mr_plan.specs.Judged.{IsAccepted}
use Rattle.mr_plan.specs.Outcome.{Outcome}
use Rattle.mr_plan.specs.Lines.{digest_line, recovered_line, sound_line, collision_lines}
use Rattle.mr_plan.specs.Say.{ends, prints}
use Rattle.mr_plan.specs.Words.{SpellsCommand, journal_of}
use Rattle.mr_plan.specs.declared.status.Status.{Status}
use Rattle.mr_plan.specs.declared.status.Status.TheVariants.{Done, Collision}
use Rattle.mr_plan.specs.declared.words.Command.{Command}
use Rattle.mr_plan.specs.declared.words.Command.TheVariants as commands
use Rattle.mr_tool.specs.Asked.{HoldsBytes, Asked, AreMaps, SpellsCheck, SpellsAuditOf, IsHonestOf, right_lines, IsAcceptedOf, Clash, clashes_of, NoneOf, AreGiven}

-- it holds a text of records of this version without a fault
pub record HoldsRecords (v : Version) (told : Option Files) (name : List ℕ) : Type 0 where
  pub bytes : List ℕ
  pub held : HoldsBytes told name bytes
  pub list : List Record
  pub right : records_of_text v bytes ≡ Ok list

-- it stands for a map of this version
pub record HoldsMap (v : Version) (hash : List ℕ → List ℕ) (told : Option Files) (name : List ℕ)
    : Type 0 where
  pub bytes : List ℕ
  pub held : HoldsBytes told name bytes
  pub tree : Tree
  pub batch : ℕ
  pub stands : IsMapFile hash bytes (map_in v tree batch)

-- for one of either version
abbrev pub HoldsAnyMap : (List ℕ → List ℕ) → Option Files → List ℕ → Type 0
HoldsAnyMap hash told name = (v : Version) × HoldsMap v hash told name

-- it proves an answer
pub record HoldsProof (hash : List ℕ → List ℕ) (told : Option Files) (root : List ℕ) (q : Query)
    (name : List ℕ) : Type 0 where
  pub bytes : List ℕ
  pub held : HoldsBytes told name bytes
  pub answer : List Record
  pub proves : ProvesAnswer hash root q bytes answer

-- it shows what is asked
pub record HoldsCut (hash : List ℕ → List ℕ) (told : Option Files) (root : List ℕ)
    (asked : Question) (name : List ℕ) : Type 0 where
  pub bytes : List ℕ
  pub held : HoldsBytes told name bytes
  pub said : Parsed
  pub shows : ShowsCut hash root asked bytes said

-- a map that has a proof for the query: one of version 2, or the query names no mask
pub record HoldsProvable (hash : List ℕ → List ℕ) (told : Option Files) (map : List ℕ) (q : Query)
    : Type 0 where
  pub version : Version
  pub on : HoldsMap version hash told map
  pub may : MayCome (question q) version

-- a map of either version, and the honest proof of what is asked of it
pub record HoldsHonest (hash : List ℕ → List ℕ) (told : Option Files) (map : List ℕ)
    (asked : Question) (name : List ℕ) : Type 0 where
  pub version : Version
  pub on : HoldsMap version hash told map
  pub bytes : List ℕ
  pub beside : HoldsBytes told name bytes
  pub own : IsProofFor (by version hash) asked on.tree on.batch bytes

-- a map of either version, and a text of a batch without a fault in that version, which may be
-- applied to it
pub record HoldsBatch (hash : List ℕ → List ℕ) (told : Option Files) (map : List ℕ)
    (name : List ℕ) : Type 0 where
  pub version : Version
  pub on : HoldsMap version hash told map
  pub text : List ℕ
  pub beside : HoldsBytes told name text
  pub changes : Changes
  pub right : batch_of_text version text ≡ Ok changes
  pub may : IsAdmissible (records on.tree) on.batch changes

-- a script without a fault, and a map that has a proof for each of its queries: one of version 2,
-- or they name no mask
pub record HoldsScript (hash : List ℕ → List ℕ) (told : Option Files) (map : List ℕ)
    (name : List ℕ) : Type 0 where
  pub version : Version
  pub on : HoldsMap version hash told map
  pub text : List ℕ
  pub beside : HoldsBytes told name text
  pub queries : List Query
  pub right : queries_of_text text ≡ Ok queries
  pub may : HasProofs version queries

-- a script without a fault, and a bundle for its queries that is not broken, each part of which is
-- accepted
pub record HoldsBundle (hash : List ℕ → List ℕ) (told : Option Files) (root : List ℕ)
    (script : List ℕ) (name : List ℕ) : Type 0 where
  pub text : List ℕ
  pub held : HoldsBytes told script text
  pub queries : List Query
  pub right : queries_of_text text ≡ Ok queries
  pub bytes : List ℕ
  pub beside : HoldsBytes told name bytes
  pub unbroken : (parts bytes (length queries)).broken ≡ None
  pub accepted : All IsAccepted
      (verdicts hash root queries bytes (parts bytes (length queries)).list)

-- two maps of version 2
pub record HoldsMaps (hash : List ℕ → List ℕ) (told : Option Files) (first second : List ℕ)
    : Type 0 where
  pub one : HoldsMap Two hash told first
  pub other : HoldsMap Two hash told second

-- the map, as its owner has it
abbrev pub owner_of : {v : Version} {hash : List ℕ → List ℕ} {told : Option Files} {name : List ℕ}
    → HoldsMap v hash told name → Owned
owner_of on = record { tree = on.tree; batch = on.batch }

-- it proves pairs of records of two maps
pub record HoldsPairs (hash : List ℕ → List ℕ) (told : Option Files) (first second : List ℕ)
    (name : List ℕ) : Type 0 where
  pub bytes : List ℕ
  pub held : HoldsBytes told name bytes
  pub pairs : List joined.Pair
  pub given : join_given hash first second bytes ≡ Ok pairs

-- two maps of version 2, and the honest proof of their join
pub record HoldsHonestJoin (hash : List ℕ → List ℕ) (told : Option Files) (first second : List ℕ)
    (name : List ℕ) : Type 0 where
  pub on : HoldsMaps hash told first second
  pub bytes : List ℕ
  pub beside : HoldsBytes told name bytes
  pub own : bytes ≡ join_proof hash hash (owner_of on.one) (owner_of on.other)

-- the named file is there
abbrev pub HoldsFile : Option Files → List ℕ → Type 0
HoldsFile told name = (bytes : List ℕ) × HoldsBytes told name bytes

-- the map as recovery would leave it, where the files are told
abbrev pub restored_on : Option Files → (map : List ℕ) → List ℕ
restored_on None map = []
restored_on (Some files) map = restored_in map (journal_of map) files

-- a map that is there, and as recovery would leave it stands for one of either version; and a text
-- of a batch without a fault in that version, which may be applied to it
pub record HoldsHere (hash : List ℕ → List ℕ) (told : Option Files) (map : List ℕ)
    (name : List ℕ) : Type 0 where
  pub there : HoldsFile told map
  pub version : Version
  pub tree : Tree
  pub batch : ℕ
  pub stands : IsMapFile hash (restored_on told map) (map_in version tree batch)
  pub text : List ℕ
  pub beside : HoldsBytes told name text
  pub changes : Changes
  pub right : batch_of_text version text ≡ Ok changes
  pub may : IsAdmissible (records tree) batch changes

-- the inputs of a command are there, and each is in order
abbrev pub IsInOrder : (List ℕ → List ℕ) → Option Files → Command → Type 0
IsInOrder hash told (commands.Root name) = HoldsRecords One told name.now
IsInOrder hash told (commands.Root2 name) = HoldsRecords Two told name.now
IsInOrder hash told (commands.Build map name) = HoldsRecords One told name.now
IsInOrder hash told (commands.Build2 map name) = HoldsRecords Two told name.now
IsInOrder hash told (commands.List map) = HoldsAnyMap hash told map.now
IsInOrder hash told (commands.Upgrade old new) = HoldsAnyMap hash told old.now
IsInOrder hash told (commands.Apply old batch new) = HoldsBatch hash told old.now batch.now
IsInOrder hash told (commands.ApplyHere map batch) = HoldsHere hash told map.now batch.now
IsInOrder hash told (commands.Recover map) = HoldsFile told map.now
IsInOrder hash told (commands.Prove map q proof) = HoldsProvable hash told map.now q
IsInOrder hash told (commands.Check root q proof) = HoldsProof hash told root q proof.now
IsInOrder hash told (commands.Audit map q proof) =
    HoldsHonest hash told map.now (question q) proof.now
IsInOrder hash told (commands.Count map q proof) = HoldsMap Two hash told map.now
IsInOrder hash told (commands.CheckCount root q proof) =
    HoldsCut hash told root (count_question (count_ways q)) proof.now
IsInOrder hash told (commands.AuditCount map q proof) =
    HoldsHonest hash told map.now (count_question (count_ways q)) proof.now
IsInOrder hash told (commands.Join first second proof) =
    HoldsMaps hash told first.now second.now
IsInOrder hash told (commands.CheckJoin first second proof) =
    HoldsPairs hash told first second proof.now
IsInOrder hash told (commands.AuditJoin first second proof) =
    HoldsHonestJoin hash told first.now second.now proof.now
IsInOrder hash told (commands.Serve map script bundle) =
    HoldsScript hash told map.now script.now
IsInOrder hash told (commands.CheckAll root script bundle) =
    HoldsBundle hash told root script.now bundle.now
IsInOrder hash told (commands.Make count seed records) = ⊤
IsInOrder hash told (commands.Demo count seed) = ⊤

-- a command whose inputs are in order ends with status 0, unless memory ran out or something
-- outside failed
abbrev pub CompletesWords : (List ℕ → List ℕ) → List (List ℕ) → World → World → Status → Type 0
CompletesWords hash words before after status =
    (command : Command) → SpellsCommand words command → IsInOrder hash before.shelf.files command
    → (status ≡ Done) ⊎ HasStopped before after status

-- all this was done, unless memory ran out or something outside failed
abbrev pub DeliversOutcome : Outcome → World → World → Status → Type 0
DeliversOutcome said before after status = IsWhole said before after status
    ⊎ HasStopped before after status

-- ---- proofs

-- A proof that an honest server gives is accepted, and what is printed is right: `check` prints what
-- a scan of the map's records gives, `check-count` how many of these lie inside the window and are
-- on the layers asked for, and `check-join` all pairs of records that meet. So it is for all maps,
-- and whatever is asked that has such a proof.
abbrev pub AnswersHonest : (List ℕ → List ℕ) → List (List ℕ) → World → World → Status → Type 0
AnswersHonest hash words before after status =
    (x : Asked) (proof : Bor (List ℕ)) (bytes : List ℕ)
    → AreMaps x → SpellsCheck hash x words proof → HoldsBytes before.shelf.files proof.now bytes
    → IsHonestOf hash x bytes → DeliversOutcome (prints (right_lines x)) before after status

-- the bytes are those that an honest server gives, and what was printed is right
pub record PrintsRight (hash : List ℕ → List ℕ) (x : Asked) (bytes : List ℕ) (before after : World)
    : Type 0 where
  pub own : IsHonestOf hash x bytes
  pub printed : TakesBytes before.sink after.sink (right_lines x)

-- the bytes are accepted; and no two strings stand at one place of a map and of the bytes and
-- differ, the bytes are the honest proof and what was printed is right, or the first two that do
-- differ are byte strings with one hash
pub record IsWorth (hash : List ℕ → List ℕ) (x : Asked) (bytes : List ℕ) (before after : World)
    : Type 0 where
  pub accepted : IsAcceptedOf hash x bytes
  pub worth : NoneOf hash (clashes_of hash x bytes) (PrintsRight hash x bytes before after)

-- What it is worth that bytes are accepted against the root digests of maps, for all maps, whatever
-- is asked, and all bytes. (A map of version 1 has no honest proof of a count, so there two strings
-- always have one hash.)
abbrev pub AcceptsHonestOrCollides : (List ℕ → List ℕ) → List (List ℕ) → World → World → Status
    → Type 0
AcceptsHonestOrCollides hash words before after status =
    (x : Asked) (proof : Bor (List ℕ)) (bytes : List ℕ)
    → AreMaps x → SpellsCheck hash x words proof → HoldsBytes before.shelf.files proof.now bytes
    → status ≡ Done → IsWorth hash x bytes before after

-- This holds, and all that is said was done. Or memory ran out or something outside failed: then it
-- holds if that is given of the bytes which a run that read them knows.
abbrev pub HoldsAndDelivers : (given holds : Type 0) → Outcome → World → World → Status → Type 0
HoldsAndDelivers given holds said before after status = (holds × IsWhole said before after status)
    ⊎ ((given → holds) × HasStopped before after status)

-- Where there are two strings that differ, they are a collision and are printed as one; where there
-- are none, the other thing is so.
abbrev pub SaysPairOr : (List ℕ → List ℕ) → (given : Type 0) → Option Pair → (Pair → List ℕ)
    → (other : Type 0) → World → World → Status → Type 0
SaysPairOr hash given None prints_as other before after status = other
SaysPairOr hash given (Some p) prints_as other before after status =
    HoldsAndDelivers given (IsCollision hash p) (ends Collision (prints_as p)) before after status

-- What an audit says of accepted bytes, by the first two strings that differ, of one map after the
-- other: that they are the honest proof, and then these lines; or the two strings, which have one
-- hash.
abbrev pub SaysSoundOrPair : (List ℕ → List ℕ) → (given own : Type 0) → (lines : List ℕ)
    → List Clash → World → World → Status → Type 0
SaysSoundOrPair hash given own lines [] before after status =
    HoldsAndDelivers given own (prints (sound_line ++ lines)) before after status
SaysSoundOrPair hash given own lines (one ∷ others) before after status =
    SaysPairOr hash given one.pair one.prints_as
    (SaysSoundOrPair hash given own lines others before after status) before after status

-- So it says of each proof that is accepted against the root digests of the maps that files stand
-- for, with the lines that are right.
abbrev pub AuditsAccepted : (List ℕ → List ℕ) → List (List ℕ) → World → World → Status → Type 0
AuditsAccepted hash words before after status =
    (x : Asked) (proof : Bor (List ℕ)) (bytes : List ℕ)
    → SpellsAuditOf hash x words before.shelf.files proof
    → HoldsBytes before.shelf.files proof.now bytes → IsAcceptedOf hash x bytes
    → SaysSoundOrPair hash (AreGiven x bytes) (IsHonestOf hash x bytes) (right_lines x)
    (clashes_of hash x bytes) before after status

-- as the audit prints two strings: of the one map, or of the first or the second one
abbrev pub PrintsPair : Command → Pair → (lines : List ℕ) → Type 0
PrintsPair (commands.Audit map q proof) p lines = lines ≡ collision_lines p.owned p.shown
PrintsPair (commands.AuditCount map q proof) p lines = lines ≡ collision_lines p.owned p.shown
PrintsPair (commands.AuditJoin first second proof) p lines =
    (lines ≡ map_collision_lines first_name p.owned p.shown)
    ⊎ (lines ≡ map_collision_lines second_name p.owned p.shown)
PrintsPair command p lines = ⊥

abbrev pub IsAudit : Command → Type 0
IsAudit (commands.Audit map q proof) = ⊤
IsAudit (commands.AuditCount map q proof) = ⊤
IsAudit (commands.AuditJoin first second proof) = ⊤
IsAudit command = ⊥

-- Two strings that an audit shows as a collision are bytes, differ and have one hash, whether files
-- are told or not; that they are the printed ones is known where the sink tells what it takes.
abbrev pub CollidesRightly : (List ℕ → List ℕ) → List (List ℕ) → World → World → Status → Type 0
CollidesRightly hash words before after status =
    (command : Command) → SpellsCommand words command → IsAudit command → status ≡ Collision
    → (p : Pair) × (lines : List ℕ) × PrintsPair command p lines × IsCollision hash p
    × TakesBytes before.sink after.sink lines

-- ---- changes

-- what `apply` prints and leaves of a batch on a map: the batch may be applied, the root digest of
-- the map after it is printed, and the new file stands for that
pub record IsApplied (v : Version) (hash : List ℕ → List ℕ) (t : Tree) (held : ℕ) (b : Changes)
    (new : List ℕ) (before after : World) : Type 0 where
  pub may : IsAdmissible (records t) held b
  pub printed : TakesBytes before.sink after.sink
      (digest_line (map_root hash (map_in v (replay t (b ∷ [])) b.number)))
  pub bytes : List ℕ
  pub there : HoldsBytes after.shelf.files new bytes
  pub stands : IsMapFile hash bytes (map_in v (replay t (b ∷ [])) b.number)

-- So it does in either version by the map alone, whatever the layout of its file: two files that
-- stand for one map give one root digest (`alike_after` of Layouts, for more batches than one).
abbrev pub AppliesAlike : (List ℕ → List ℕ) → List (List ℕ) → World → World → Status → Type 0
AppliesAlike hash words before after status =
    (v : Version) (t : Tree) (held : ℕ) (old batch new : Bor (List ℕ)) (bytes text : List ℕ)
    (b : Changes)
    → SpellsCommand words (commands.Apply old batch new) → HoldsBytes before.shelf.files
    old.now bytes
    → IsMapFile hash bytes (map_in v t held) → HoldsBytes before.shelf.files batch.now text
    → batch_of_text v text ≡ Ok b → status ≡ Done → IsApplied v hash t held b new.now before after

-- what `upgrade` prints and leaves of a map: the root digest of its tree and batch in the second
-- version is printed, and the new file stands for these in that version
pub record IsUpgraded (hash : List ℕ → List ℕ) (t : Tree) (batch : ℕ) (new : List ℕ)
    (before after : World) : Type 0 where
  pub printed : TakesBytes before.sink after.sink (digest_line (map_root hash (map_in Two t batch)))
  pub bytes : List ℕ
  pub there : HoldsBytes after.shelf.files new bytes
  pub stands : IsMapFile hash bytes (map_in Two t batch)

-- so it does of every map, whichever version its file has
abbrev pub UpgradesAll : (List ℕ → List ℕ) → List (List ℕ) → World → World → Status → Type 0
UpgradesAll hash words before after status =
    (v : Version) (t : Tree) (batch : ℕ) (old new : Bor (List ℕ)) (bytes : List ℕ)
    → SpellsCommand words (commands.Upgrade old new) → HoldsBytes before.shelf.files old.now bytes
    → IsMapFile hash bytes (map_in v t batch) → status ≡ Done
    → IsUpgraded hash t batch new.now before after

-- ---- a map in its own file

-- what `recover` prints and leaves of a map and its journal: whether that was open is printed; the
-- map's file holds what both restored to, and the journal is not open
pub record IsRecovered (map : List ℕ) (files : Files) (before after : World) : Type 0 where
  pub printed : TakesBytes before.sink after.sink
      (recovered_line (is_open (image_on map (journal_of map) files)))
  pub left : FilesHave after.shelf.files
      (λ new. (bytes_or_none new map ≡ restored_in map (journal_of map) files)
      × (is_open (image_on map (journal_of map) new) ≡ false))

-- so it does of whatever files there are
abbrev pub RecoversHere : List (List ℕ) → World → World → Status → Type 0
RecoversHere words before after status = (map : Bor (List ℕ)) (files : Files)
    → SpellsCommand words (commands.Recover map) → before.shelf.files ≡ Some files
    → status ≡ Done → IsRecovered map.now files before after

-- what `apply-here` prints and leaves of a batch on a map: the batch may be applied, the root
-- digest of the map after it is printed, the map's own file stands for that, and the journal is
-- not open
pub record IsAppliedHere (v : Version) (hash : List ℕ → List ℕ) (t : Tree) (held : ℕ) (b : Changes)
    (map : List ℕ) (before after : World) : Type 0 where
  pub may : IsAdmissible (records t) held b
  pub printed : TakesBytes before.sink after.sink
      (digest_line (map_root hash (map_in v (replay t (b ∷ [])) b.number)))
  pub left : FilesHave after.shelf.files
      (λ new. IsMapFile hash (bytes_or_none new map) (map_in v (replay t (b ∷ [])) b.number)
      × (is_open (image_on map (journal_of map) new) ≡ false))

-- So it does of each map that the file and its journal restore to, of either version.
abbrev pub AppliesHere : (List ℕ → List ℕ) → List (List ℕ) → World → World → Status → Type 0
AppliesHere hash words before after status =
    (v : Version) (t : Tree) (held : ℕ) (map batch : Bor (List ℕ)) (files : Files)
    (text : List ℕ) (b : Changes)
    → SpellsCommand words (commands.ApplyHere map batch) → before.shelf.files ≡ Some files
    → IsMapFile hash (restored_in map.now (journal_of map.now) files) (map_in v t held)
    → HoldsBytes before.shelf.files batch.now text → batch_of_text v text ≡ Ok b → status ≡ Done
    → IsAppliedHere v hash t held b map.now before after
