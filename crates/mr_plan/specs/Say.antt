-- What each command says. The hash function is any one.
use Rattle.std.specs.Prelude.{ℕ, Bool, if◌then◌else◌, List, [], ◌∷◌, Option, Some, None, Result, Ok, Err}
use Rattle.mr_record.specs.declared.record.Record.{Record}
use Rattle.mr_record.specs.declared.text_fault.TextFault.{TextFault}
use Rattle.mr_record.specs.RecordText.{records_of_text, text_of}
use Rattle.mr_record.specs.declared.version.Version.{Version}
use Rattle.mr_record.specs.declared.version.Version.TheVariants.{One, Two}
use Rattle.mr_tree.specs.Digest.{by}
use Rattle.mr_tree.specs.Tree.{records}
use Rattle.mr_tree.specs.declared.tree.Tree.{Tree}
use Rattle.mr_journal.specs.Format.{is_open, restored}
use Rattle.mr_journal.specs.Images.{Image}
use Rattle.mr_pack.specs.Pack.{pack}
use Rattle.mr_batch.specs.Admissible.{batch_fault}
use Rattle.mr_batch.specs.BatchText.{batch_of_text}
use Rattle.mr_batch.specs.Changes.{Changes}
use Rattle.mr_batch.specs.Peak.{peak}
use Rattle.mr_batch.specs.Replay.{replay}
use Rattle.mr_batch.specs.Workload.{generated}
use Rattle.mr_batch.specs.declared.admission.BatchFault.{BatchFault}
use Rattle.mr_query.specs.Scan.{by_number}
use Rattle.mr_query.specs.Script.{queries_of_text}
use Rattle.mr_query.specs.declared.query.Query.{Query}
use Rattle.mr_query.specs.declared.key.Key.{Key}
use Rattle.mr_proof.specs.declared.rule.Fault.{Fault}
use Rattle.mr_proof.specs.declared.way.Way.{Way}
use Rattle.mr_proof.specs.Honest.{proof_for}
use Rattle.mr_proof.specs.Reading.{verdict}
use Rattle.mr_proof.specs.Tight.{Question, question}
use Rattle.mr_check.specs.Versions.{proof_version}
use Rattle.mr_clash.specs.Finding.{found}
use Rattle.mr_count.specs.Chosen.{total_whole}
use Rattle.mr_count.specs.declared.taken.Taken.{Taken}
use Rattle.mr_join.specs.declared.fault.JoinFault.{JoinFault}
use Rattle.mr_join.specs.declared.pair.Pair.{Pair}
use Rattle.mr_plan.specs.Counts.{count_ways, count_question, count_found, count_verdict}
use Rattle.mr_plan.specs.Demo.{demo_lines}
use Rattle.mr_plan.specs.First.{pages_by}
use Rattle.mr_plan.specs.Found.{Found, bad_map_line}
use Rattle.mr_plan.specs.Joins.{join_of, join_given, joined_found, lacks_join, pair_lines, join_refused_line}
use Rattle.mr_plan.specs.Lines.{digest_line, bad_words_line, bad_text_line, bad_batch_line, counted_line, made_line, recovered_line, needs_version_2_line}
use Rattle.mr_plan.specs.Outcome.{Outcome, File, map_of, changed}
use Rattle.mr_plan.specs.Plan.{Input, Plan, comes, reads, opens, seeks}
pub use Rattle.mr_plan.specs.Saying.{ends, prints, says_missing, say_text, say_written}
pub use Rattle.mr_plan.specs.Saying.{lacks_proof, lacks_proof_for, unless_lacking}
pub use Rattle.mr_plan.specs.Saying.{journal_of, say_in_place}
pub use Rattle.mr_plan.specs.Saying.{say_finding, say_count_finding, say_join_finding}
pub use Rattle.mr_plan.specs.Saying.{say_bundle, opened_in}
pub use Rattle.mr_plan.specs.Saying.{say_serve_of, say_verdicts, say_parts_of}
use Rattle.mr_plan.specs.Refusal.{refused_line}
use Rattle.mr_pages.specs.File.{version_of}
use Rattle.mr_pages.specs.declared.opening.Opened.{Opened}
use Rattle.mr_pages.specs.Law.{map_root, map_in}
use Rattle.mr_plan.specs.declared.status.Status.TheVariants.{Done, BadWords, Refused, BadText, BadMap, BadBatch, NeedsVersion2}
use Rattle.mr_plan.specs.declared.words.Command.{Command}
use Rattle.mr_plan.specs.declared.words.Command.TheVariants as commands

-- what follows on a file's bytes, or the line on a missing file
abbrev pub given : List ℕ → (List ℕ → Plan) → Input → Plan
given name next None = comes (says_missing name)
given name next (Some bytes) = next bytes

-- a file that has to be there is read
abbrev pub needs : List ℕ → (List ℕ → Plan) → Plan
needs name next = reads name (given name next)

-- what follows on a map, or the line on the fault of a file that stands for none
abbrev pub given_map : (Opened → Plan) → Found → Plan
given_map next (Ok map) = next map
given_map next (Err fault) = comes (ends BadMap (bad_map_line fault))

-- a file that has to be there and to stand for a map, of either version, is read
abbrev pub needs_map : (List ℕ → List ℕ) → List ℕ → (Opened → Plan) → Plan
needs_map hash name next =
    needs name (λ bytes. opens (version_of bytes) hash bytes (given_map next))

-- the same, where what follows goes by the number of the file's pages besides
abbrev pub needs_sized_map : (List ℕ → List ℕ) → List ℕ → ((pages : ℕ) → Opened → Plan) → Plan
needs_sized_map hash name next = needs name (λ bytes. opens (version_of bytes) hash bytes
    (given_map (next (pages_by (version_of bytes) bytes))))

-- the root of the tree of the records of a text at batch 0, or the text's first fault
abbrev pub say_root_of : Version → (List ℕ → List ℕ) → Result (List Record) TextFault → Outcome
say_root_of v hash (Err fault) = ends BadText (bad_text_line fault)
say_root_of v hash (Ok records) = prints (digest_line (map_root hash (map_in v (pack records) 0)))

-- `root RECORDS`, in version 2 `root2 RECORDS`: the root of the records of a file
abbrev pub say_root : Version → (List ℕ → List ℕ) → List ℕ → Plan
say_root v hash records =
    needs records (λ text. comes (say_root_of v hash (records_of_text v text)))

-- the map of a tree at a batch in a file of this version, laid out with its nodes in preorder and
-- no free page, and its root
abbrev pub say_map : Version → (List ℕ → List ℕ) → List ℕ → Tree → ℕ → Outcome
say_map v hash map tree batch = record {
  status = Done;
  printed = digest_line (map_root hash (map_in v tree batch));
  written = File map (map_of v hash tree batch);
}

-- the map of the records of a text at batch 0 in a file, and its root; or the text's first fault
abbrev pub say_build_of : Version → (List ℕ → List ℕ) → List ℕ
    → Result (List Record) TextFault → Outcome
say_build_of v hash map (Err fault) = ends BadText (bad_text_line fault)
say_build_of v hash map (Ok records) = say_map v hash map (pack records) 0

-- `build MAP RECORDS`, in version 2 `build2 MAP RECORDS`: the map of the records of a file
abbrev pub say_build : Version → (List ℕ → List ℕ) → List ℕ → List ℕ → Plan
say_build v hash map records =
    needs records (λ text. comes (say_build_of v hash map (records_of_text v text)))

-- the records of a map in rising number, a line of the map's version for each
abbrev pub say_list_of : Opened → Outcome
say_list_of map = prints (text_of map.version (by_number (records map.tree)))

-- `list MAP`: the records of the map in a file
abbrev pub say_list : (List ℕ → List ℕ) → List ℕ → Plan
say_list hash name = needs_map hash name (λ map. comes (say_list_of map))

-- the tree and the batch of a map, in a file of version 2
abbrev pub say_upgrade_of : (List ℕ → List ℕ) → List ℕ → Opened → Outcome
say_upgrade_of hash new map = say_map Two hash new map.tree map.batch

-- `upgrade OLD NEW`: the map in a file, of either version, written to another one in version 2
abbrev pub say_upgrade : (List ℕ → List ℕ) → (old new : List ℕ) → Plan
say_upgrade hash old new = needs_map hash old (λ map. comes (say_upgrade_of hash new map))

-- the map of the tree after a batch in a file, at the batch's number, and its root. The file is
-- made by changes from one of so many pages.
abbrev pub say_changed : Version → (List ℕ → List ℕ) → List ℕ → (pages : ℕ) → Tree → Changes
    → Outcome
say_changed v hash new pages tree batch =
    let after = replay tree (batch ∷ []) in
    record {
      status = Done;
      printed = digest_line (map_root hash (map_in v after batch.number));
      written = File new (changed v hash pages (peak tree batch) after batch.number);
    }

-- the same, or why the batch may not be applied
abbrev pub say_admitted : Version → (List ℕ → List ℕ) → List ℕ → (pages : ℕ) → Tree → Changes
    → Option BatchFault → Outcome
say_admitted v hash new pages tree batch None = say_changed v hash new pages tree batch
say_admitted v hash new pages tree batch (Some fault) = ends BadBatch (bad_batch_line fault)

-- what is said of a batch for a map in a file of so many pages
abbrev pub say_batch : (List ℕ → List ℕ) → List ℕ → (pages : ℕ) → Opened → Changes → Outcome
say_batch hash new pages map batch =
    say_admitted map.version hash new pages map.tree batch
    (batch_fault (records map.tree) map.batch batch)

-- what is said of the batch of a text, or the text's first fault
abbrev pub say_apply_of : (List ℕ → List ℕ) → List ℕ → (pages : ℕ) → Opened
    → Result Changes TextFault → Outcome
say_apply_of hash new pages map (Err fault) = ends BadText (bad_text_line fault)
say_apply_of hash new pages map (Ok batch) = say_batch hash new pages map batch

-- what is said of the batch in a file, whose lines are of the map's version
abbrev pub say_change : (List ℕ → List ℕ) → (batch new : List ℕ) → (pages : ℕ) → Opened → Plan
say_change hash batch new pages map =
    needs batch (λ text. comes (say_apply_of hash new pages map (batch_of_text map.version text)))

-- `apply OLD BATCH NEW`: the map after the batch in a file, written to another one
abbrev pub say_apply : (List ℕ → List ℕ) → (old batch new : List ℕ) → Plan
say_apply hash old batch new = needs_sized_map hash old (say_change hash batch new)

-- the honest proof of what is asked of a map, in a file, and its length; or that there is none
unfoldable pub say_proof_of : (List ℕ → List ℕ) → Question → List ℕ → Opened → Outcome
say_proof_of hash asked proof map = unless_lacking (lacks_proof_for map.version asked)
    (say_written proof (proof_for (by map.version hash) asked map.tree map.batch))

-- that of the map in a file, written to another one
abbrev pub say_proof : (List ℕ → List ℕ) → List ℕ → Question → List ℕ → Plan
say_proof hash name asked proof =
    needs_map hash name (λ map. comes (say_proof_of hash asked proof map))

-- `prove MAP QUERY PROOF`: the proof for a query
abbrev pub say_prove : (List ℕ → List ℕ) → List ℕ → Query → List ℕ → Plan
say_prove hash name query proof = say_proof hash name (question query) proof

-- `count MAP QUERY PROOF`: the proof of how many records are taken whole
abbrev pub say_count : (List ℕ → List ℕ) → List ℕ → (Key → Way) → List ℕ → Plan
say_count hash name way proof = say_proof hash name (count_question way) proof

-- the answer that a proof of this version proves, a line of the version for each record, or its
-- fault
abbrev pub say_verdict : Version → Result (List Record) Fault → Outcome
say_verdict v (Ok answer) = prints (text_of v answer)
say_verdict v (Err fault) = ends Refused (refused_line fault)

-- what is said of the bytes of a proof
unfoldable pub say_check_of : (List ℕ → List ℕ) → List ℕ → Query → List ℕ → Outcome
say_check_of hash root query proof =
    say_verdict (proof_version proof) (verdict hash root query proof)

-- `check ROOT QUERY PROOF`: the answer that the proof in a file proves
abbrev pub say_check : (List ℕ → List ℕ) → List ℕ → Query → List ℕ → Plan
say_check hash root query proof =
    needs proof (λ bytes. comes (say_check_of hash root query bytes))

-- how many records are taken whole, by what the proof of a count gives; or its fault
abbrev pub say_count_verdict : (Key → Way) → Result Taken Fault → Outcome
say_count_verdict way (Ok taken) = prints (counted_line (total_whole way taken))
say_count_verdict way (Err fault) = ends Refused (refused_line fault)

-- what is said of the bytes of such a proof
unfoldable pub say_check_count_of : (List ℕ → List ℕ) → List ℕ → (Key → Way) → List ℕ → Outcome
say_check_count_of hash root way proof =
    say_count_verdict way (count_verdict hash root way proof)

-- `check-count ROOT QUERY PROOF`: the number that the proof in a file proves
abbrev pub say_check_count : (List ℕ → List ℕ) → List ℕ → (Key → Way) → List ℕ → Plan
say_check_count hash root way proof =
    needs proof (λ bytes. comes (say_check_count_of hash root way bytes))

-- what is said of the bytes of a file, by the map in another one
abbrev pub needs_beside : (List ℕ → List ℕ) → (map proof : List ℕ) → (Opened → List ℕ → Outcome)
    → Plan
needs_beside hash map proof said =
    needs_map hash map (λ held. needs proof (λ bytes. comes (said held bytes)))

-- what is said of the bytes of a proof and of a map
unfoldable pub say_audit_of : (List ℕ → List ℕ) → Query → Opened → List ℕ → Outcome
say_audit_of hash query map bytes = say_finding (proof_version bytes)
    (found (by map.version hash) map.tree map.batch query bytes)

-- `audit MAP QUERY PROOF`: what the proof in a file is worth against the map in another one
abbrev pub say_audit : (List ℕ → List ℕ) → List ℕ → Query → List ℕ → Plan
say_audit hash name query proof = needs_beside hash name proof (say_audit_of hash query)

-- what is said of the bytes of a proof of a count and of a map
unfoldable pub say_audit_count_of : (List ℕ → List ℕ) → (Key → Way) → Opened → List ℕ → Outcome
say_audit_count_of hash way map bytes = say_count_finding way
    (count_found (by map.version hash) map.tree map.batch way bytes)

-- `audit-count MAP QUERY PROOF`: what such a proof in a file is worth against the map in another
abbrev pub say_audit_count : (List ℕ → List ℕ) → List ℕ → (Key → Way) → List ℕ → Plan
say_audit_count hash name way proof = needs_beside hash name proof (say_audit_count_of hash way)

-- the honest proof of the join of two maps, in a file, and its length; or that one of them is of
-- the first version
unfoldable pub say_join_of : (List ℕ → List ℕ) → (proof : List ℕ) → (first second : Opened)
    → Outcome
say_join_of hash proof first second = unless_lacking (lacks_join first second)
    (say_written proof (join_of hash first second))

-- what follows on two maps in files, which are read in this order
abbrev pub needs_maps : (List ℕ → List ℕ) → (first second : List ℕ)
    → (Opened → Opened → Plan) → Plan
needs_maps hash first second next =
    needs_map hash first (λ m. needs_map hash second (λ n. next m n))

-- `join MAP MAP2 PROOF`: the proof of all pairs of records, one of each map in a file, that meet,
-- written to another one
abbrev pub say_join : (List ℕ → List ℕ) → (first second proof : List ℕ) → Plan
say_join hash first second proof =
    needs_maps hash first second (λ m n. comes (say_join_of hash proof m n))

-- the pairs that such a proof gives, or its fault
abbrev pub say_join_verdict : Result (List Pair) JoinFault → Outcome
say_join_verdict (Ok pairs) = prints (pair_lines pairs)
say_join_verdict (Err fault) = ends Refused (join_refused_line fault)

-- what is said of the bytes of one
unfoldable pub say_check_join_of : (List ℕ → List ℕ) → (first second : List ℕ) → List ℕ → Outcome
say_check_join_of hash first second proof =
    say_join_verdict (join_given hash first second proof)

-- `check-join ROOT ROOT2 PROOF`: the pairs that the proof in a file proves
abbrev pub say_check_join : (List ℕ → List ℕ) → (first second proof : List ℕ) → Plan
say_check_join hash first second proof =
    needs proof (λ bytes. comes (say_check_join_of hash first second bytes))

-- what is said of the bytes of a proof and of two maps
unfoldable pub say_audit_join_of : (List ℕ → List ℕ) → (first second : Opened) → List ℕ → Outcome
say_audit_join_of hash first second bytes =
    say_join_finding (joined_found hash first second bytes)

-- what follows on two maps of the second version, or that one of them is of the first
abbrev pub unless_first : Bool → Plan → Plan
unless_first lacks next =
    if lacks then comes (ends NeedsVersion2 needs_version_2_line) else next

-- what is said of the proof in a file, by two maps
abbrev pub say_beside_maps : (List ℕ → List ℕ) → (proof : List ℕ) → (first second : Opened) → Plan
say_beside_maps hash proof first second = unless_first (lacks_join first second)
    (needs proof (λ bytes. comes (say_audit_join_of hash first second bytes)))

-- `audit-join MAP MAP2 PROOF`: what such a proof in a file is worth against the maps in two others.
-- Where one of these is of the first version, the proof is not read.
abbrev pub say_audit_join : (List ℕ → List ℕ) → (first second proof : List ℕ) → Plan
say_audit_join hash first second proof =
    needs_maps hash first second (say_beside_maps hash proof)

-- the bundle for the script in a file on a map, in another file
abbrev pub say_script : (List ℕ → List ℕ) → (script bundle : List ℕ) → Opened → Plan
say_script hash script bundle map =
    needs script (λ text. comes (say_serve_of hash bundle map (queries_of_text text)))

-- `serve MAP SCRIPT BUNDLE`: the proofs for the queries of a script on the map in a file, written
-- to another one
abbrev pub say_serve : (List ℕ → List ℕ) → (map script bundle : List ℕ) → Plan
say_serve hash map script bundle = needs_map hash map (say_script hash script bundle)

-- what follows on the queries of a text, or the line on the text's first fault
abbrev pub given_queries : (List Query → Plan) → Result (List Query) TextFault → Plan
given_queries next (Ok queries) = next queries
given_queries next (Err fault) = comes (ends BadText (bad_text_line fault))

-- what is said of the bundle in a file, for some queries
abbrev pub say_parts : (List ℕ → List ℕ) → (root bundle : List ℕ) → List Query → Plan
say_parts hash root bundle queries =
    needs bundle (λ bytes. comes (say_parts_of hash root queries bytes))

-- `check-all ROOT SCRIPT BUNDLE`: the verdicts on the parts of the bundle in a file
abbrev pub say_check_all : (List ℕ → List ℕ) → (root script bundle : List ℕ) → Plan
say_check_all hash root script bundle = needs script
    (λ text. given_queries (say_parts hash root bundle) (queries_of_text text))

-- the text of generated records in a file, and how many they are
unfoldable pub say_make_of : (count seed : ℕ) → List ℕ → Outcome
say_make_of count seed records =
    say_text (made_line count) records (text_of One (generated count seed))

-- `make N SEED RECORDS`: the text of generated records, written to a file
abbrev pub say_make : (count seed : ℕ) → List ℕ → Plan
say_make count seed records = comes (say_make_of count seed records)

-- `demo N SEED`: what generated queries give on the map of generated records
abbrev pub say_demo : (List ℕ → List ℕ) → (count seed : ℕ) → Plan
say_demo hash count seed = comes (prints (demo_lines hash count seed))

-- ---- a map in its own file

-- the map and its journal by their bytes
abbrev pub beside : (map journal : List ℕ) → Image
beside map journal = record { map = map; journal = journal }

-- a map that has to be there, and the journal that may stand beside it, are read
abbrev pub needs_both : (map : List ℕ) → (Image → Plan) → Plan
needs_both map next =
    needs map (λ bytes. seeks (journal_of map) (λ journal. next (beside bytes journal)))

-- what is said of a map and its journal that are recovered
abbrev pub say_recovered : (map : List ℕ) → Image → Outcome
say_recovered map image = say_in_place Done (recovered_line (is_open image)) map image None

-- `recover MAP`: an update of the map in a file that a stop cut short is finished
abbrev pub say_recover : (map : List ℕ) → Plan
say_recover map = needs_both map (λ image. comes (say_recovered map image))

-- the map of the tree after a batch in its own file, at the batch's number, and its root; or why
-- the batch may not be applied, and the map recovered
abbrev pub say_admitted_here : Version → (List ℕ → List ℕ) → (map : List ℕ) → (was : Image) → Tree
    → Changes → Option BatchFault → Outcome
say_admitted_here v hash map was tree batch None =
    let after = replay tree (batch ∷ []) in
    say_in_place Done (digest_line (map_root hash (map_in v after batch.number))) map was
    (Some (changed v hash (pages_by v (restored was)) (peak tree batch) after batch.number))
say_admitted_here v hash map was tree batch (Some fault) =
    say_in_place BadBatch (bad_batch_line fault) map was None

-- what is said of a batch for a map in its own file, or of a file that stands for none
abbrev pub say_batch_here : Version → (List ℕ → List ℕ) → (map : List ℕ) → (was : Image) → Changes
    → Found → Outcome
say_batch_here v hash map was batch (Ok found) =
    say_admitted_here v hash map was found.tree batch
    (batch_fault (records found.tree) found.batch batch)
say_batch_here v hash map was batch (Err fault) =
    say_in_place BadMap (bad_map_line fault) map was None

-- what is said of the batch of a text, or the text's first fault, with which nothing is written
abbrev pub say_text_here : Version → (List ℕ → List ℕ) → (map : List ℕ) → (was : Image)
    → Result Changes TextFault → Plan
say_text_here v hash map was (Err fault) = comes (ends BadText (bad_text_line fault))
say_text_here v hash map was (Ok batch) =
    opens v hash (restored was) (λ found. comes (say_batch_here v hash map was batch found))

-- what is said of the text of a batch for a map beside its journal, in the version that the map has
-- once it is recovered
abbrev pub say_change_here : (List ℕ → List ℕ) → (map : List ℕ) → (was : Image) → (text : List ℕ)
    → Plan
say_change_here hash map was text = say_text_here (version_of (restored was)) hash map was
    (batch_of_text (version_of (restored was)) text)

-- `apply-here MAP BATCH`: the map after the batch in a file, written to its own file
abbrev pub say_apply_here : (List ℕ → List ℕ) → (map batch : List ℕ) → Plan
say_apply_here hash map batch =
    needs_both map (λ image. needs batch (say_change_here hash map image))

-- ---- all commands

-- what is said where words spell a command, and where they spell none
abbrev pub say : (List ℕ → List ℕ) → Option Command → Plan
say hash None = comes (ends BadWords bad_words_line)
say hash (Some (commands.Root records)) = say_root One hash records.now
say hash (Some (commands.Root2 records)) = say_root Two hash records.now
say hash (Some (commands.Build map records)) = say_build One hash map.now records.now
say hash (Some (commands.Build2 map records)) = say_build Two hash map.now records.now
say hash (Some (commands.Upgrade old new)) = say_upgrade hash old.now new.now
say hash (Some (commands.List map)) = say_list hash map.now
say hash (Some (commands.Apply old batch new)) = say_apply hash old.now batch.now new.now
say hash (Some (commands.ApplyHere map batch)) = say_apply_here hash map.now batch.now
say hash (Some (commands.Recover map)) = say_recover map.now
say hash (Some (commands.Prove map query proof)) = say_prove hash map.now query proof.now
say hash (Some (commands.Check root query proof)) = say_check hash root query proof.now
say hash (Some (commands.Audit map query proof)) = say_audit hash map.now query proof.now
say hash (Some (commands.Count map query proof)) =
    say_count hash map.now (count_ways query) proof.now
say hash (Some (commands.CheckCount root query proof)) =
    say_check_count hash root (count_ways query) proof.now
say hash (Some (commands.AuditCount map query proof)) =
    say_audit_count hash map.now (count_ways query) proof.now
say hash (Some (commands.Join first second proof)) =
    say_join hash first.now second.now proof.now
say hash (Some (commands.CheckJoin first second proof)) =
    say_check_join hash first second proof.now
say hash (Some (commands.AuditJoin first second proof)) =
    say_audit_join hash first.now second.now proof.now
say hash (Some (commands.Serve map script bundle)) =
    say_serve hash map.now script.now bundle.now
say hash (Some (commands.CheckAll root script bundle)) =
    say_check_all hash root script.now bundle.now
say hash (Some (commands.Make count seed records)) = say_make count seed records.now
say hash (Some (commands.Demo count seed)) = say_demo hash count seed
