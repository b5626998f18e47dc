-- A run on inputs that are in order is done, whatever its command.
use Rattle.std.proofs.Common.{◌≡◌, ℕ, List, [], ◌∷◌, refl, sym, ap, subst, ◌∙◌}
use Rattle.std.specs.Prelude.{false, Option, Some, None, option_map, Result, Ok}
use Rattle.std.specs.List.{AllByRecursion}
use Rattle.mr_outside.specs.Files.{Files, with_file}
use Rattle.mr_outside.proofs.Changes.{file-with_file}
use Rattle.mr_record.specs.RecordText.{records_of_text}
use Rattle.mr_record.specs.declared.record.Record.{Record}
use Rattle.mr_record.specs.declared.text_fault.TextFault.{TextFault}
use Rattle.mr_record.specs.declared.version.Version.{Version}
use Rattle.mr_record.specs.declared.version.Version.TheVariants.{One, Two}
use Rattle.mr_tree.specs.Digest.{by}
use Rattle.mr_tree.specs.Tree.{records}
use Rattle.mr_tree.specs.declared.tree.Tree.{Tree}
use Rattle.mr_query.specs.Script.{queries_of_text}
use Rattle.mr_query.specs.Word.{IsQuery}
use Rattle.mr_query.specs.declared.query.Query.{Query}
use Rattle.mr_proof.specs.Honest.{proof_for}
use Rattle.mr_proof.specs.Tight.{Question, MayCome, question}
use Rattle.mr_proof.proofs.PreimageBytes.{IsSized}
use Rattle.mr_proof.proofs.Completeness.{verdict_from}
use Rattle.mr_count.specs.Chosen.{taken_of}
use Rattle.mr_pages.specs.File.{version_of}
use Rattle.mr_pages.specs.Law.{IsMapFile, map_root, map_in}
use Rattle.mr_pages.proofs.Answered.{stands_version}
use Rattle.mr_batch.specs.Admissible.{batch_fault}
use Rattle.mr_batch.specs.Applied.{IsAdmissible}
use Rattle.mr_batch.specs.BatchText.{batch_of_text}
use Rattle.mr_batch.specs.Changes.{Changes}
use Rattle.mr_batch.specs.Replay.{replay}
use Rattle.mr_batch.specs.declared.admission.BatchFault.{BatchFault}
use Rattle.mr_command.specs.Ending.{EndsPlan, EndsAsSaid}
use Rattle.mr_plan.specs.Counts.{count_question, count_ways}
use Rattle.mr_plan.specs.First.{pages_by}
use Rattle.mr_plan.specs.Outcome.{Outcome, IsHeld}
use Rattle.mr_plan.specs.Plan.{Plan, comes, opens, LeadsToOutcome}
use Rattle.mr_plan.specs.Untold.{MaySayApply}
use Rattle.mr_tool.specs.Asked.{HoldsBytes}
use Rattle.mr_tool.specs.Promises.{HoldsRecords, HoldsMap, HoldsProof, HoldsCut, HoldsMaps, HoldsPairs, HoldsHonestJoin, owner_of, HoldsBatch, HoldsScript, HoldsBundle, IsInOrder}
use Rattle.mr_plan.specs.Say.{given_map, needs, needs_map, lacks_proof_for, unless_lacking, say_written, say, say_root_of, say_build_of, say_list_of, say_upgrade_of, say_admitted, say_batch, say_change, say_apply, say_apply_of, say_proof_of, say_check, say_check_of, say_check_count, say_check_count_of, say_audit_count_of, say_script, say_serve, say_serve_of, given_queries, say_parts, say_parts_of, say_check_all, say_make_of, needs_maps, say_join_of, say_check_join, say_check_join_of, say_audit_join, say_audit_join_of, say_beside_maps}
use Rattle.mr_plan.specs.Lines.{digest_line}
use Rattle.mr_plan.specs.Words.{IsWord, words_of}
use Rattle.mr_pages.specs.declared.opening.Opened.{Opened}
use Rattle.mr_plan.specs.declared.status.Status.{Status}
use Rattle.mr_plan.specs.declared.status.Status.TheVariants.{Done, BadBatch}
use Rattle.mr_plan.specs.declared.words.Command.{Command}
use Rattle.mr_plan.specs.declared.words.Command.TheVariants as commands
use Rattle.mr_command.proofs.Batches.{fits_if_none, says_applied}
use Rattle.mr_command.proofs.Bundles.{lacks_none, parts_done, served_done}
use Rattle.mr_command.proofs.Joined.{says_join_verdict}
use Rattle.mr_command.proofs.Verdicts.{says_verdict, says_count_verdict}
use Rattle.mr_tool.proofs.Here.{applies_to_end, recovers_to_end}
use Rattle.mr_tool.proofs.CountWorth.{count_shown, narrow_ways, own_found}
use Rattle.mr_tool.proofs.JoinWorth.{join_done, owned_map, own_said}
use Rattle.mr_tool.proofs.Ended.{may_be, told_ends, ends_on, opened_on, map_on, beside_on, layers_of}
use Rattle.mr_tool.proofs.Audited.{audit_done}

-- ---- inputs that are in order

not_bad : {A : Type 0} (status : Status) → status ≡ Done → status ≡ BadBatch → A
not_bad status done bad = absurd (cc)

has_of : (v : Version) (a : Question) → MayCome a v → lacks_proof_for v a ≡ false
has_of One a may = may
has_of Two a may = refl

proof_done : (hash : List ℕ → List ℕ) (a : Question) (name : List ℕ) (map : Opened) → MayCome a map.version
    → (say_proof_of hash a name map).status ≡ Done
unfolding say_proof_of
proof_done hash a name map may =
    ap (λ b. (unless_lacking b (say_written name (proof_for (by map.version hash) a map.tree map.batch))).status)
    (has_of map.version a may)

make_done : (count seed : ℕ) (records : List ℕ) → (say_make_of count seed records).status ≡ Done
unfolding say_make_of
make_done count seed records = refl

module _ (hash : List ℕ → List ℕ) (before after : Option Files) (status : Status) (text : List ℕ) where
  text_done : (v : Version) (name : List ℕ) (said : Result (List Record) TextFault → Outcome)
      (may : Outcome → Type 0) → ((list : List Record) → (said (Ok list)).status ≡ Done)
      → HoldsRecords v before name
      → EndsAsSaid (needs name (λ bytes. comes (said (records_of_text v bytes)))) may before after status text
      → status ≡ Done
  text_done v name said may done holds ends =
      let next : List ℕ → Plan = λ bytes. comes (said (records_of_text v bytes)) in
      let on = ends_on name holds.bytes before after status text holds.held next
      (told_ends before after name holds.bytes (needs name next) may status text holds.held ends) in
      on.0 ∙ ap (λ r. (said r).status) holds.right ∙ done holds.list

  map_done : (v : Version) (name : List ℕ) (next : Opened → Plan) (may : Outcome → Type 0)
      → (holds : HoldsMap v hash before name) → EndsAsSaid (needs_map hash name next) may before after status text
      → EndsPlan (next (map_in v holds.tree holds.batch)) before after status text
  map_done v name next may holds ends =
      map_on v hash name holds.bytes holds.tree holds.batch before after status text holds.held holds.stands next
      (told_ends before after name holds.bytes (needs_map hash name next) may status text holds.held ends)

  -- what `apply` came to, by the map and the batch
  pub applied_ends : (old name new : List ℕ) (v : Version) (t : Tree) (batch : ℕ) (bytes beside : List ℕ) (b : Changes)
      → HoldsBytes before old bytes → IsMapFile hash bytes (map_in v t batch) → HoldsBytes before name beside
      → batch_of_text v beside ≡ Ok b
      → EndsAsSaid (say_apply hash old name new) (MaySayApply hash old name new) before after status text
      → EndsPlan (comes (say_batch hash new (pages_by v bytes) (map_in v t batch) b)) before after status text
  applied_ends old name new v t batch bytes beside b held stands there right ends =
      let next : ℕ → Opened → Plan = say_change hash name new in
      let said : List ℕ → Plan =
      λ text. comes (say_apply_of hash new (pages_by v bytes) (map_in v t batch) (batch_of_text v text)) in
      let on = told_ends before after old bytes (say_apply hash old name new) (MaySayApply hash old name new) status
      text held ends in
      let opened = ends_on old bytes before after status text held
      (λ bytes. opens (version_of bytes) hash bytes (given_map (next (pages_by (version_of bytes) bytes)))) on in
      let mapped = opened_on v hash old bytes t batch before after status text held stands (next (pages_by v bytes))
      (subst (λ u. EndsPlan (opens u hash bytes (given_map (next (pages_by u bytes)))) before after status text)
      (stands_version v hash bytes t batch stands.stands) opened) in
      subst (λ r. EndsPlan (comes (say_apply_of hash new (pages_by v bytes) (map_in v t batch) r)) before
      after status text)
      right (ends_on name beside before after status text there said mapped)

  apply_done : (old name new : List ℕ) → HoldsBatch hash before old name
      → EndsAsSaid (say_apply hash old name new) (MaySayApply hash old name new) before after status text
      → status ≡ Done
  apply_done old name new holds ends =
      let v = holds.version in
      let map = map_in v holds.on.tree holds.on.batch in
      let last = applied_ends old name new v holds.on.tree holds.on.batch holds.on.bytes holds.text
      holds.changes holds.on.held
      holds.on.stands holds.beside holds.right ends in
      last.0
      ∙ ap (λ (o : Outcome). o.status) (says_applied hash new (pages_by v holds.on.bytes) map holds.changes holds.may)

  -- an outcome of `apply` that is done has the map after the batch in the file
  pub record HasApplied (v : Version) (t : Tree) (batch : ℕ) (b : Changes) (new : List ℕ) : Type 0 where
    pub may : IsAdmissible (records t) batch b
    pub text_is : text ≡ digest_line (map_root hash (map_in v (replay t (b ∷ [])) b.number))
    pub bytes : List ℕ
    pub there : HoldsBytes after new bytes
    pub is : IsMapFile hash bytes (map_in v (replay t (b ∷ [])) b.number)

  pub held_after : (files : Files) (name bytes : List ℕ) → before ≡ Some files → IsHeld name bytes before after
      → HoldsBytes after name bytes
  held_after files name bytes told is =
      subst (λ o. HoldsBytes o name bytes) (sym (is ∙ ap (option_map (with_file name bytes)) told))
      (file-with_file name bytes files)

  pub has_applied : (v : Version) (t : Tree) (batch : ℕ) (b : Changes) (new : List ℕ) (pages : ℕ) (files : Files)
      → before ≡ Some files → status ≡ Done
      → EndsPlan (comes (say_batch hash new pages (map_in v t batch) b)) before after status text
      → HasApplied v t batch b new
  has_applied v t batch b new pages files told done ends = by_fault (batch_fault (records t) batch b) refl ends
    where
      by_fault : (o : Option BatchFault) → batch_fault (records t) batch b ≡ o
          → EndsPlan (comes (say_admitted v hash new pages t b o)) before after status text → HasApplied v t batch b new
      by_fault None none ends = record {
        may = fits_if_none (records t) batch b none;
        text_is = ends.1;
        bytes = ends.2.0;
        there = held_after files new ends.2.0 told ends.2.2;
        is = ends.2.1.stands;
      }
      by_fault (Some fault) some ends = not_bad status done ends.0

  check_done : (root : List ℕ) (q : Query) (name : List ℕ) (may : Outcome → Type 0) → IsQuery q
      → HoldsProof hash before root q name
      → EndsAsSaid (say_check hash root q name) may before after status text → status ≡ Done
  check_done root q name may asked holds ends =
      let on = ends_on name holds.bytes before after status text holds.held
      (λ bytes. comes (say_check_of hash root q bytes))
      (told_ends before after name holds.bytes (say_check hash root q name) may status text holds.held ends) in
      let proved = verdict_from hash root q holds.bytes holds.answer asked holds.proves in
      on.0 ∙ ap (λ (o : Outcome). o.status) (says_verdict hash root q holds.bytes (Ok holds.answer) proved)

  check_count_done : (root : List ℕ) (q : Query) (name : List ℕ) (may : Outcome → Type 0)
      → HoldsCut hash before root (count_question (count_ways q)) name
      → EndsAsSaid (say_check_count hash root (count_ways q) name) may before after status text → status ≡ Done
  check_count_done root q name may holds ends =
      let way = count_ways q in
      let on = ends_on name holds.bytes before after status text holds.held
      (λ bytes. comes (say_check_count_of hash root way bytes))
      (told_ends before after name holds.bytes (say_check_count hash root way name) may status text holds.held ends) in
      on.0
      ∙ ap (λ (o : Outcome). o.status) (says_count_verdict hash root way holds.bytes (Ok (taken_of way holds.said))
      (count_shown hash root q holds.bytes holds.said holds.shows))

  -- two maps of version 2 were read
  maps_done : (first second : List ℕ) (next : Opened → Opened → Plan) (may : Outcome → Type 0)
      → (holds : HoldsMaps hash before first second)
      → EndsAsSaid (needs_maps hash first second next) may before after status text
      → EndsPlan (next (owned_map (owner_of holds.one)) (owned_map (owner_of holds.other))) before after status text
  maps_done first second next may holds ends =
      map_on Two hash second holds.other.bytes holds.other.tree holds.other.batch before after status text
      holds.other.held holds.other.stands (next (owned_map (owner_of holds.one)))
      (map_done Two first (λ m. needs_map hash second (next m)) may holds.one ends)

  check_join_done : (first second name : List ℕ) (may : Outcome → Type 0) → HoldsPairs hash before first second name
      → EndsAsSaid (say_check_join hash first second name) may before after status text → status ≡ Done
  check_join_done first second name may holds ends =
      let on = ends_on name holds.bytes before after status text holds.held
      (λ bytes. comes (say_check_join_of hash first second bytes))
      (told_ends before after name holds.bytes (say_check_join hash first second name) may status text holds.held
      ends) in
      on.0
      ∙ ap (λ (o : Outcome). o.status) (says_join_verdict hash first second holds.bytes (Ok holds.pairs) holds.given)

  audit_join_done : IsSized hash → (first second name : List ℕ) (may : Outcome → Type 0)
      → HoldsHonestJoin hash before first second name
      → EndsAsSaid (say_audit_join hash first second name) may before after status text → status ≡ Done
  audit_join_done sized first second name may holds ends =
      let one = holds.on.one in
      let other = holds.on.other in
      let m = owner_of one in
      let n = owner_of other in
      let on = ends_on name holds.bytes before after status text holds.beside
      (λ bytes. comes (say_audit_join_of hash (owned_map m) (owned_map n) bytes))
      (maps_done first second (say_beside_maps hash name) may holds.on ends) in
      on.0 ∙ ap (λ (o : Outcome). o.status) (own_said hash sized m n holds.bytes
      (record { well = one.stands.well; batch = one.stands.stands.batch_fits })
      (record { well = other.stands.well; batch = other.stands.stands.batch_fits }) holds.own)

  serve_done : (map script bundle : List ℕ) (may : Outcome → Type 0) → HoldsScript hash before map script
      → EndsAsSaid (say_serve hash map script bundle) may before after status text → status ≡ Done
  serve_done map script bundle may holds ends =
      let v = holds.version in
      let held = map_in v holds.on.tree holds.on.batch in
      let next = say_script hash script bundle in
      let said : List ℕ → Outcome = λ text. say_serve_of hash bundle held (queries_of_text text) in
      let mapped = map_on v hash map holds.on.bytes holds.on.tree holds.on.batch before after status text
      holds.on.held holds.on.stands
      next (told_ends before after map holds.on.bytes (say_serve hash map script bundle) may status text
      holds.on.held ends) in
      let last = ends_on script holds.text before after status text holds.beside (λ text. comes (said text)) mapped in
      last.0 ∙ ap (λ r. (say_serve_of hash bundle held r).status) holds.right
      ∙ served_done hash bundle held holds.queries (lacks_none v holds.queries holds.may)

  check_all_done : (root script bundle : List ℕ) (may : Outcome → Type 0) → HoldsBundle hash before root script bundle
      → EndsAsSaid (say_check_all hash root script bundle) may before after status text → status ≡ Done
  check_all_done root script bundle may holds ends =
      let next = say_parts hash root bundle in
      let on = ends_on script holds.text before after status text holds.held
      (λ text. given_queries next (queries_of_text text))
      (told_ends before after script holds.text (say_check_all hash root script bundle) may status text holds.held
      ends) in
      let asked = subst (λ r. EndsPlan (given_queries next r) before after status text) holds.right on in
      let last = ends_on bundle holds.bytes before after status text holds.beside
      (λ bytes. comes (say_parts_of hash root holds.queries bytes)) asked in
      last.0 ∙ parts_done hash root holds.queries holds.bytes holds.unbroken holds.accepted

  -- a command that reads no file ends so over any files
  unread_done : (said : Outcome) (told : Option Files)
      → EndsAsSaid (comes said) (LeadsToOutcome (comes said) None) told after status text → status ≡ said.status
  unread_done said None ends = ends.2 ∙ ap (λ (o : Outcome). o.status) ends.1
  unread_done said (Some files) ends = ends.0

  pub done : IsSized hash → (command : Command) → AllByRecursion IsWord (words_of command) →
      IsInOrder hash before command
      → EndsAsSaid (say hash (Some command)) (may_be hash command) before after status text → status ≡ Done
  done sized (commands.Root name) each holds ends =
      text_done One name.now (say_root_of One hash) (may_be hash (commands.Root name)) (λ list. refl) holds ends
  done sized (commands.Root2 name) each holds ends =
      text_done Two name.now (say_root_of Two hash) (may_be hash (commands.Root2 name)) (λ list. refl) holds ends
  done sized (commands.Build map name) each holds ends =
      text_done One name.now (say_build_of One hash map.now) (may_be hash (commands.Build map name)) (λ list. refl)
      holds ends
  done sized (commands.Build2 map name) each holds ends =
      text_done Two name.now (say_build_of Two hash map.now) (may_be hash (commands.Build2 map name)) (λ list. refl)
      holds ends
  done sized (commands.List map) each holds ends =
      (map_done holds.0 map.now (λ held. comes (say_list_of held)) (may_be hash (commands.List map)) holds.1 ends).0
  done sized (commands.Upgrade old new) each holds ends =
      (map_done holds.0 old.now (λ held. comes (say_upgrade_of hash new.now held))
      (may_be hash (commands.Upgrade old new)) holds.1 ends).0
  done sized (commands.Apply old name new) each holds ends = apply_done old.now name.now new.now holds ends
  done sized (commands.ApplyHere map name) each holds ends =
      applies_to_end hash map.now after status text (may_be hash (commands.ApplyHere map name)) name.now before holds
      ends
  done sized (commands.Recover map) each holds ends =
      recovers_to_end hash map.now after status text (may_be hash (commands.Recover map)) before holds ends
  done sized (commands.Prove map q name) each holds ends =
      (map_done holds.version map.now (λ m. comes (say_proof_of hash (question q) name.now m))
      (may_be hash (commands.Prove map q name)) holds.on ends).0
      ∙ proof_done hash (question q) name.now (map_in holds.version holds.on.tree holds.on.batch) holds.may
  done sized (commands.Check root q name) each holds ends =
      check_done root q name.now (may_be hash (commands.Check root q name)) each.1.1.0 holds ends
  done sized (commands.Audit map q name) each holds ends =
      audit_done holds.version hash before after status text map.now q name.now holds.on.tree holds.on.batch
      holds.on.bytes holds.bytes holds.on.held holds.on.stands holds.beside sized each.1.1.0 holds.own ends
  done sized (commands.Count map q name) each holds ends =
      let asked = count_question (count_ways q) in
      (map_done Two map.now (λ m. comes (say_proof_of hash asked name.now m)) (may_be hash (commands.Count map q name))
      holds ends).0
      ∙ proof_done hash asked name.now (map_in Two holds.tree holds.batch) tt
  done sized (commands.CheckCount root q name) each holds ends =
      check_count_done root q name.now (may_be hash (commands.CheckCount root q name)) holds ends
  done sized (commands.AuditCount map q name) each holds ends =
      (beside_on holds.version hash map.now holds.on.bytes holds.on.tree holds.on.batch before after status text
      holds.on.held holds.on.stands name.now holds.bytes holds.beside (say_audit_count_of hash (count_ways q))
      (may_be hash (commands.AuditCount map q name)) ends).0
      ∙ ap (λ (o : Outcome). o.status)
      (own_found holds.version hash sized (count_ways q) (narrow_ways q) holds.on.tree holds.on.batch holds.bytes
      holds.on.stands.well (layers_of holds.version hash holds.on.bytes holds.on.tree holds.on.batch holds.on.stands)
      holds.on.stands.stands.batch_fits holds.own)
  done sized (commands.Join first second name) each holds ends =
      (maps_done first.now second.now (λ m n. comes (say_join_of hash name.now m n))
      (may_be hash (commands.Join first second name)) holds ends).0
      ∙ join_done hash name.now (owner_of holds.one) (owner_of holds.other)
  done sized (commands.CheckJoin first second name) each holds ends =
      check_join_done first second name.now (may_be hash (commands.CheckJoin first second name)) holds ends
  done sized (commands.AuditJoin first second name) each holds ends =
      audit_join_done sized first.now second.now name.now (may_be hash (commands.AuditJoin first second name)) holds
      ends
  done sized (commands.Serve map script bundle) each holds ends =
      serve_done map.now script.now bundle.now (may_be hash (commands.Serve map script bundle)) holds ends
  done sized (commands.CheckAll root script bundle) each holds ends =
      check_all_done root script.now bundle.now (may_be hash (commands.CheckAll root script bundle)) holds ends
  done sized (commands.Make count seed records) each holds ends =
      unread_done (say_make_of count seed records.now) before ends ∙ make_done count seed records.now
  done sized (commands.Demo count seed) each holds ends = unread_done _ before ends
