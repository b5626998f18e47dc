-- `apply` on a map that is opened page by page: its batch, and the whole of it.
use Rattle.std.proofs.Common.{◌≡◌, ℕ, ◌+◌, ◌≤◌, List, length, refl, sym, ap, subst, ◌∙◌, inl, inr, arith}
use Rattle.std.specs.Prelude.{Option, Some, None, IfSome, IsSome, Result, Ok, Err}
use Rattle.std.specs.Global.{Vec}
use Rattle.std.specs.String.{string_bytes}
use Rattle.mr_outside.specs.Files.{Files, file}
use Rattle.mr_outside.specs.State.{Shelved}
use Rattle.mr_outside.specs.declared.shelf.Shelf as shelves
use Rattle.mr_outside.specs.Bytes.{AreBytes}
use Rattle.mr_record.specs.declared.record.Record.{Record}
use Rattle.mr_record.specs.Answer.{RefusesText}
use Rattle.mr_record.specs.declared.text_fault.TextErr.{TextErr}
use Rattle.mr_record.specs.declared.text_fault.TextErr.TheVariants as texts
use Rattle.mr_record.specs.declared.text_fault.TextFault.{TextFault}
use Rattle.mr_record.specs.declared.version.Version.{Version}
use Rattle.mr_tree.specs.Nodes.{MapModel}
use Rattle.mr_tree.specs.Tree.{records}
use Rattle.mr_tree.specs.WellFormed.{WellFormed}
use Rattle.mr_tree.specs.declared.hash.Hashes as hashes
use Rattle.mr_tree.specs.declared.tree.Tree.{Tree}
use Rattle.mr_pages.specs.File.{version_of}
use Rattle.mr_pages.specs.Law.{IsMapFile, map_in}
use Rattle.mr_pages.specs.Opening.{pages_in}
use Rattle.mr_pages.specs.PageBytes.{form_of}
use Rattle.mr_pages.specs.declared.error.MapErr.{MapErr}
use Rattle.mr_pages.specs.declared.head.MapHead.{MapHead}
use Rattle.mr_pages.specs.declared.opening.Opened.{Opened}
use Rattle.mr_store.specs.CachedFile.{name_of, page_form, OfBytes}
use Rattle.mr_store.specs.Opening.{OpensMap, RefusesMap, page_total}
use Rattle.mr_store.specs.Paged.{IsSameMap, shelved, stands_for}
use Rattle.mr_store.specs.Stored.{IsMapOf, read_map, told_bytes}
use Rattle.mr_store.specs.declared.paged.Paged.{Paged}
use Rattle.mr_edit.specs.Reads.{reads_along}
use Rattle.mr_batch.specs.Admissible.{batch_fault}
use Rattle.mr_batch.specs.Applied.{IsAdmissible}
use Rattle.mr_batch.specs.BatchText.{batch_of_text}
use Rattle.mr_batch.specs.Changes.{Changes}
use Rattle.mr_batch.specs.Directory.{DirectoryEntries, IsDirectoryOf, HaveNumbers}
use Rattle.mr_batch.specs.declared.admission.BatchFault.{BatchFault}
use Rattle.mr_batch.proofs.Replaying.{numbers_of}
use Rattle.mr_plan.specs.First.{pages_by}
use Rattle.mr_command.specs.private.Applying.{MayApply, ComesBehind, IsFewOfCopy, IsFewOfChanges, IsFewOfText, IsFewOfFile}
use Rattle.mr_command.specs.Counting.{pieces_of, AllowsApply, IsFewApplied, IsFewOfBatch, ReadsWithinPlan}
use Rattle.mr_command.specs.Ending.{ComesAsSaid, AreJudged, BlamesOutside, Came, EndsPlan, IsEndingOrHalt, GivesUpPlan, NoneFalls, printed_of}
use Rattle.mr_command.specs.private.Steps.{map_at, ComesBut, with_reads, GoesOn, ReadsInput, SaysRefusal}
use Rattle.mr_command.specs.private.Inputs.{ReadsValue, SaysText}
use Rattle.mr_plan.specs.Lines.{bad_batch_line, bad_text_line}
use Rattle.mr_plan.specs.Outcome.{Outcome}
use Rattle.mr_plan.specs.Plan.{Plan, Input, comes, opens, IsInput, LacksInput}
use Rattle.mr_plan.specs.Untold.{MaySayApply}
use Rattle.mr_plan.specs.Say.{ends, given, given_map, needs, needs_map, needs_sized_map, says_missing, say_admitted, say_apply_of, say_batch, say_change, say_changed}
use Rattle.mr_command.specs.declared.ending.Ending.{Ending}
use Rattle.mr_command.specs.declared.ending.Halt.{Halt}
use Rattle.mr_command.specs.declared.ending.Halt.TheVariants as halts
use Rattle.mr_plan.specs.declared.status.Status.TheVariants.{BadBatch, BadText}
use Rattle.mr_command.proofs.Audits.{reads_both, reads_but, says_unread, untold_from}
use Rattle.mr_command.proofs.Batches.{says_applied}
use Rattle.mr_command.proofs.Counting.{OnceFrom, few_stopped, taken_none}
use Rattle.mr_command.proofs.Drafts.{batch_in, by_some, at_some, behind_given, behind_halted}
use Rattle.mr_command.proofs.Going.{judged_needs}
use Rattle.mr_command.proofs.Inputs.{goes_needed, says_bytes}
use Rattle.mr_command.proofs.Pages.{HasMap, at_input, few_refused, few_there, file_has, files_told, has_map, pages_all, refused_blamed, refused_told, told_on, was_opened}
use Rattle.mr_command.proofs.Plans.{stays}
use Rattle.mr_command.proofs.Rereading.{comes_told, comes_untold, says_refused}

-- ---- a batch for the map

module _ {S H : Type 0} {G : shelves.Ghosts S} {K : hashes.Ghosts H} (hash : List ℕ → List ℕ)
    (map new batch : List ℕ) (p : Paged S H G K) (b : Changes) where
  abbrev before : Shelved
  before = shelved p

  abbrev standing : MapModel
  standing = stands_for p

  -- the map is that of its head
  batch_is : standing.batch ≡ p.head.batch
  batch_is = batch_in (page_form p.file) p.head (told_bytes before.files (name_of p.file))

  abbrev applies_batch : Outcome → Type 0
  applies_batch = MaySayApply hash map batch new

  abbrev said_of_batch : Opened → Outcome
  said_of_batch m = say_batch hash new p.head.pages m b

  abbrev few_of_batch : Shelved → Tree → Type 0
  few_of_batch after = IsFewOfChanges p.head.pages p.head.batch b before.reads after.reads

  -- nothing is read for what the batch is asked of the directory
  counts_asked : NoneFalls before before
  counts_asked = record { faults = omega arith; reads = omega arith }

  few_asked : IfSome standing.tree (few_of_batch before)
  few_asked = by_some standing.tree (few_of_batch before) (λ t told. (0, omega arith, inl refl))

  module _ (well : (t : Tree) → standing.tree ≡ Some t → WellFormed t) (dir : DirectoryEntries)
      (lists : IfSome standing.tree (λ t. IsDirectoryOf dir (records t))) (held : ℕ)
      (held_is : held ≡ standing.batch) where
    numbers : (t : Tree) → standing.tree ≡ Some t → HaveNumbers dir (records t)
    numbers t told =
        numbers_of dir (records t) (well t told).distinct
        (at_some standing.tree t (λ t. IsDirectoryOf dir (records t)) told lists)

    -- the batch may not be applied
    pub unadmitted : (text : List ℕ) (fault : BatchFault) (result : Result Ending Halt) → AreBytes text
        → batch_of_text standing.version text ≡ Ok b → ((rs : List Record) × HaveNumbers dir rs)
        → ((rs : List Record) → HaveNumbers dir rs → batch_fault rs held b ≡ Some fault)
        → IsEndingOrHalt (ends BadBatch (bad_batch_line fault)) result
        → ComesBehind applies_batch standing (λ m. comes (said_of_batch m)) (few_of_batch before) before before result
    unadmitted text fault result are is some exact gives =
        behind_given applies_batch standing said_of_batch (few_of_batch before) before before counts_asked few_asked
        (ends BadBatch (bad_batch_line fault)) result
        refl
        (λ t told. ap (say_admitted standing.version hash new p.head.pages t b)
        (subst (λ n. batch_fault (records t) n b ≡ Some fault) held_is (exact (records t) (numbers t told))))
        (λ none. inr (inr (inr (inl (
          standing.version,
          text,
          are,
          (b, is, (some.0, held, (fault, exact some.0 some.1, refl))),
        )))))
        refl refl gives

    -- it may
    admissible : ((rs : List Record) → HaveNumbers dir rs → IsAdmissible rs held b) → (t : Tree)
        → standing.tree ≡ Some t
        → IsAdmissible (records t) standing.batch b
    admissible fine t told = subst (λ n. IsAdmissible (records t) n b) held_is (fine (records t) (numbers t told))

    pub may_apply : ((rs : List Record) → HaveNumbers dir rs → IsAdmissible rs held b)
        → IfSome standing.tree (MayApply dir p.head.batch b)
    may_apply fine =
        by_some standing.tree (MayApply dir p.head.batch b) (λ t told. record {
          directory = at_some standing.tree t (λ t. IsDirectoryOf dir (records t)) told lists;
          admissible = subst (λ n. IsAdmissible (records t) n b) batch_is (admissible fine t told);
        })

    pub admitted : ((rs : List Record) → HaveNumbers dir rs → IsAdmissible rs held b) → (after : Shelved)
        (result : Result Ending Halt)
        → ComesBehind applies_batch standing
        (λ m. comes (say_changed m.version hash new p.head.pages m.tree b))
        (IsFewOfCopy p.head.pages b before.reads after.reads) before after result
        → ComesBehind applies_batch standing (λ m. comes (said_of_batch m)) (few_of_batch after) before after result
    admitted fine after result on = record {
      counts = on.counts;
      told = by_some standing.tree (λ t. ComesBut (comes (said_of_batch (map_at standing t))) before after result)
          (λ t told.
          subst (λ o. ComesBut (comes o) before after result)
          (sym (says_applied hash new p.head.pages (map_at standing t) b (admissible fine t told)))
          (at_some standing.tree t
          (λ t. ComesBut (comes (say_changed standing.version hash new p.head.pages t b)) before after result) told
          on.told));
      untold = on.untold;
      few_read = by_some standing.tree (few_of_batch after) (λ t told. (
        p.head.pages + reads_along t b.list,
        at_some standing.tree t (IsFewOfCopy p.head.pages b before.reads after.reads) told on.few_read,
        inr (subst (λ n. IsAdmissible (records t) n b) batch_is (admissible fine t told), omega arith),
      ));
    }

-- ---- the text of a batch

module _ (hash : List ℕ → List ℕ) (map new batch : List ℕ) (s : MapModel) (pages held : ℕ) (text : List ℕ)
    (before : Shelved) where
  abbrev applies_text : Outcome → Type 0
  applies_text = MaySayApply hash map batch new

  abbrev said_of_text : Opened → Outcome
  said_of_text m = say_apply_of hash new pages m (batch_of_text m.version text)

  abbrev few_of_text : Shelved → Tree → Type 0
  few_of_text after = IsFewOfText s.version pages held text before.reads after.reads

  batch_read : (b : Changes) (after : Shelved) (result : Result Ending Halt) → batch_of_text s.version text ≡ Ok b
      → ComesBehind applies_text s (λ m. comes (say_batch hash new pages m b))
      (IsFewOfChanges pages held b before.reads after.reads) before after result
      → ComesBehind applies_text s (λ m. comes (said_of_text m)) (few_of_text after) before after result
  batch_read b after result is on = record {
    counts = on.counts;
    told = by_some s.tree (λ t. ComesBut (comes (said_of_text (map_at s t))) before after result) (λ t told.
        subst (λ r. ComesBut (comes (say_apply_of hash new pages (map_at s t) r)) before after result) (sym is)
        (at_some s.tree t (λ t. ComesBut (comes (say_batch hash new pages (map_at s t) b)) before after result) told
        on.told));
    untold = on.untold;
    few_read = by_some s.tree (few_of_text after) (λ t told.
        let few = at_some s.tree t (IsFewOfChanges pages held b before.reads after.reads) told on.few_read in
        (few.0, few.1, inr (b, is, few.2)));
  }

  counts_none : NoneFalls before before
  counts_none = record { faults = omega arith; reads = omega arith }

  few_none : IfSome s.tree (few_of_text before)
  few_none = by_some s.tree (few_of_text before) (λ t told. (0, omega arith, inl refl))

  batch_bad : (fault : TextFault) (result : Result Ending Halt) → AreBytes text
      → batch_of_text s.version text ≡ Err fault → IsEndingOrHalt (ends BadText (bad_text_line fault)) result
      → ComesBehind applies_text s (λ m. comes (said_of_text m)) (few_of_text before) before before result
  batch_bad fault result are is gives =
      behind_given applies_text s said_of_text (few_of_text before) before before counts_none few_none
      (ends BadText (bad_text_line fault))
      result refl (λ t told. ap (say_apply_of hash new pages (map_at s t)) is)
      (λ none. inr (inr (inl (s.version, text, are, (fault, is, refl))))) refl refl gives

  batch_spent : ComesBehind applies_text s (λ m. comes (said_of_text m)) (few_of_text before) before before
      (Err halts.NoMemory)
  batch_spent =
      behind_halted applies_text s said_of_text (few_of_text before) before before counts_none few_none
      halts.NoMemory tt
      (λ t told. stays (said_of_text (map_at s t)).written before.files before.files refl) (λ none. refl)

  batch_refused : (error : TextErr) (result : Result Ending Halt) → AreBytes text
      → RefusesText error (batch_of_text s.version text) → SaysText error result
      → ComesBehind applies_text s (λ m. comes (said_of_text m)) (few_of_text before) before before result
  batch_refused (texts.Text fault) result are is says = batch_bad fault result are is says
  batch_refused texts.NoMemory result are is says =
      subst (ComesBehind applies_text s (λ m. comes (said_of_text m)) (few_of_text before) before before) (sym says)
      batch_spent

-- ---- the file of a batch

module _ {S H : Type 0} {G : shelves.Ghosts S} {K : hashes.Ghosts H} (hash : List ℕ → List ℕ)
    (map batch new : List ℕ) (p p' : Paged S H G K) (same : IsSameMap p p') where
  abbrev before_text : Shelved
  before_text = shelved p

  abbrev behind_text : Shelved
  behind_text = shelved p'

  abbrev standing_of_file : MapModel
  standing_of_file = stands_for p

  stands_same : stands_for p' ≡ stands_for p
  stands_same = λ i. read_map (form_of (same.file.layout i)) (same.head i)
      (told_bytes (same.files i) (string_bytes (same.file.name i)))

  -- what goes by the version of the map goes by it afterwards
  pub version_same : (P : Version → Type 0) → P standing_of_file.version → P (stands_for p').version
  version_same P has = subst (λ (st : MapModel). P st.version) (sym stands_same) has

  -- so does what goes by its records
  pub listed_same : (dir : DirectoryEntries) → IfSome standing_of_file.tree (λ t. IsDirectoryOf dir (records t))
      → IfSome (stands_for p').tree (λ t. IsDirectoryOf dir (records t))
  listed_same dir lists =
      subst (λ (st : MapModel). IfSome st.tree (λ t. IsDirectoryOf dir (records t))) (sym stands_same) lists

  abbrev applies_file : Outcome → Type 0
  applies_file = MaySayApply hash map batch new

  abbrev said_of_file : Tree → List ℕ → Outcome
  said_of_file t text =
      say_apply_of hash new p.head.pages (map_at standing_of_file t) (batch_of_text standing_of_file.version text)

  -- with the pieces of a file
  abbrev few_over : Option Files → Shelved → Tree → Type 0
  few_over told after = IsFewOfFile standing_of_file.version p.head.pages p.head.batch told batch before_text.reads
      after.reads

  abbrev few_of_file : Shelved → Tree → Type 0
  few_of_file = few_over before_text.files

  -- behind its text
  abbrev says_text : List ℕ → (pages : ℕ) → Opened → Plan
  says_text text pages m = comes (say_apply_of hash new pages m (batch_of_text m.version text))

  abbrev few_behind : Version → MapHead → List ℕ → Shelved → Tree → Type 0
  few_behind v h text after = IsFewOfText v h.pages h.batch text behind_text.reads after.reads

  abbrev behind_file : Shelved → Result Ending Halt → Type 0
  behind_file after result = ComesBehind applies_file standing_of_file (say_change hash batch new p.head.pages)
      (few_of_file after) before_text after result

  -- its text was read
  file_read : (text : Vec ℕ) (after : Shelved) (result : Result Ending Halt)
      → ReadsInput batch before_text behind_text (Ok text)
      → ComesBehind applies_file (stands_for p') (says_text text.items p'.head.pages)
      (few_behind (stands_for p').version p'.head text.items after) behind_text after result
      → behind_file after result
  file_read text after result is on = record {
    counts = record {
      faults = omega (arith, is.counts.faults, on.counts.faults);
      reads = omega (arith, is.counts.reads, on.counts.reads);
    };
    told = by_some standing_of_file.tree
        (λ t. ComesBut (say_change hash batch new p.head.pages (map_at standing_of_file t)) before_text after result)
        (λ t told. goes_needed batch (λ b. comes (said_of_file t b)) (with_reads after.reads before_text)
        (with_reads after.reads behind_text) (says_bytes (said_of_file t) before_text.files) (Ok text)
        (reads_both after.reads batch before_text behind_text text is) after result
        (at_some standing_of_file.tree t (λ t. ComesBut (comes (said_of_file t text.items)) behind_text after result)
        told own.told));
    untold = λ none.
        untold_from applies_file before_text behind_text after result is.files is.read.2 (on.untold (is.files ∙ none));
    few_read = by_some standing_of_file.tree (few_of_file after) (λ t told.
        by_files t before_text.files is.read.0 is.once
        (at_some standing_of_file.tree t (few_behind standing_of_file.version p.head text.items after) told
        own.few_read));
  }
    where
      own : ComesBehind applies_file standing_of_file (says_text text.items p.head.pages)
          (few_behind standing_of_file.version p.head text.items after) behind_text after result
      own =
          subst (λ (st : MapModel). ComesBehind applies_file st (says_text text.items p.head.pages)
          (few_behind st.version p.head text.items after) behind_text after result) stands_same
          (subst (λ (x : MapHead). ComesBehind applies_file (stands_for p') (says_text text.items x.pages)
          (few_behind (stands_for p').version x text.items after) behind_text after result) same.head on)

      by_files : (t : Tree) (o : Option Files) → IsInput o batch (Some text.items)
          → OnceFrom o batch before_text.reads behind_text.reads
          → few_behind standing_of_file.version p.head text.items after t → few_over o after t
      by_files t None input once few = tt
      by_files t (Some files) input once few = (
        few.0,
        omega (arith, once, few.1),
        subst (λ i. IsFewOfBatch standing_of_file.version p.head.pages t p.head.batch i few.0) (sym input) few.2,
      )

  -- nothing is read behind it
  few_alone : (result : Result (Vec ℕ) (Result Ending Halt)) → ReadsInput batch before_text behind_text result
      → IfSome standing_of_file.tree (few_of_file behind_text)
  few_alone result got =
      by_some standing_of_file.tree (few_of_file behind_text) (λ t told. by_files t before_text.files got.once)
    where
      by_files : (t : Tree) (o : Option Files) → OnceFrom o batch before_text.reads behind_text.reads
          → few_over o behind_text t
      by_files t None once = tt
      by_files t (Some files) once = (0, omega (arith, once), none_more (file files batch))
        where
          none_more : (input : Input) → IsFewOfBatch standing_of_file.version p.head.pages t p.head.batch input 0
          none_more None = refl
          none_more (Some text) = inl refl

  -- it was not read
  file_unread : (came : Result Ending Halt) → ReadsInput batch before_text behind_text (Err came)
      → behind_file behind_text came
  file_unread came got = record {
    counts = got.counts;
    told = by_some standing_of_file.tree
        (λ t. ComesBut (say_change hash batch new p.head.pages (map_at standing_of_file t)) before_text behind_text
        came)
        (λ t told. goes_needed batch (λ b. comes (said_of_file t b)) (with_reads behind_text.reads before_text)
        behind_text (says_bytes (said_of_file t) before_text.files) (Err came) (reads_but batch before_text behind_text
        came got));
    untold = λ none. says_unread applies_file batch before_text behind_text came (inr (inl refl)) none got;
    few_read = few_alone (Err came) got;
  }

  -- its batch was read
  pub file_read_as : (b : Changes) (after : Shelved) (result : Result Ending Halt)
      → ReadsValue (batch_of_text standing_of_file.version) batch before_text behind_text (Ok b)
      → ComesBehind applies_file (stands_for p')
      (λ m. comes (say_batch hash new p'.head.pages m b))
      (IsFewOfChanges p'.head.pages p'.head.batch b behind_text.reads after.reads) behind_text after result
      → behind_file after result
  file_read_as b after result got on =
      file_read got.0 after result got.1
      (batch_read hash map new batch (stands_for p') p'.head.pages p'.head.batch got.0.items behind_text b after
      result (version_same (λ v. batch_of_text v got.0.items ≡ Ok b) got.2) on)

  -- the command ends without it
  pub file_ended : (came : Result Ending Halt)
      → ReadsValue (batch_of_text standing_of_file.version) batch before_text behind_text (Err came)
      → behind_file behind_text came
  file_ended came (inl got) = file_unread came got
  file_ended came (inr none) =
      file_read none.text behind_text came none.read
      (batch_refused hash map new batch (stands_for p') p'.head.pages p'.head.batch none.text.items behind_text
      none.error came none.read.read.1
      (version_same (λ v. RefusesText none.error (batch_of_text v none.text.items)) none.refuses) none.says)

-- ---- a plan that goes by the size of the map's file

-- two plans that go on alike by what the file holds
module _ (name : List ℕ) (one other : List ℕ → Plan) (before after : Shelved) (files : Files)
    (told : before.files ≡ Some files)
    (agree : (input : Input) → file files name ≡ input → given name one input ≡ given name other input) where
  at_told : (input : Input) → IsInput before.files name input → given name one input ≡ given name other input
  at_told input is = agree input (subst (λ o. IsInput o name input) told is)

  like_judged : AreJudged (needs name one) before.files → AreJudged (needs name other) before.files
  like_judged judged input is = subst (λ p. AreJudged p before.files) (at_told input is) (judged input is)

  like_came : (n : ℕ) (result : Result Ending Halt) → Came (needs name one) (with_reads n before) after result
      → Came (needs name other) (with_reads n before) after result
  like_came n (Ok ending) came = (
    came.0,
    came.1,
    came.2,
    subst (λ p. EndsPlan p before.files after.files ending.status (printed_of ending)) (at_told came.0 came.1) came.3,
  )
  like_came n (Err halt) came = (
    came.0,
    elim came.1 [
      | inl same ↦ inl same
      | inr up ↦ inr (up.0, up.1, subst (λ p. GivesUpPlan p before.files after.files) (at_told up.0 up.1) up.2)
    ],
  )

  like_blames : (n : ℕ) (result : Result Ending Halt) → BlamesOutside (needs name one) (with_reads n before) after
      result
      → BlamesOutside (needs name other) (with_reads n before) after result
  like_blames n (Ok ending) blames = λ outside. elim (blames outside) [
    | inl rose ↦ inl rose
    | inr (inl absent) ↦ inr (inl absent)
    | inr (inr on) ↦ inr (inr (on.0, on.1, subst (λ p. LacksInput p before.files) (at_told on.0 on.1) on.2))
  ]
  like_blames n (Err halt) blames = tt

  pub comes_alike : (result : Result Ending Halt) → ComesBut (needs name one) before after result
      → ComesBut (needs name other) before after result
  comes_alike result on = record {
    counts = on.counts;
    judged = like_judged on.judged;
    came = like_came after.reads result on.came;
    outside = like_blames after.reads result on.outside;
    quiet = on.quiet;
    few = few_stopped before.files name other after.reads after.reads
        (taken_none before.files name other after.reads);
  }

-- how many pages a file has that may be missing
abbrev pub pages_found : Input → ℕ
pages_found None = 0
pages_found (Some bytes) = pages_by (version_of bytes) bytes

-- by the size of the file that is there
module _ (hash : List ℕ → List ℕ) (name : List ℕ) (next : ℕ → Opened → Plan) (before after : Shelved) (files : Files)
    (told : before.files ≡ Some files) where
  agree : (input : Input) → file files name ≡ input
      → given name (λ bytes. opens (version_of bytes) hash bytes (given_map (next (pages_found (file files name)))))
      input
      ≡ given name (λ bytes. opens (version_of bytes) hash bytes
      (given_map (next (pages_by (version_of bytes) bytes)))) input
  agree None is = refl
  agree (Some bytes) is = ap (λ x. opens (version_of bytes) hash bytes (given_map (next (pages_found x)))) is

  pub comes_sized : (result : Result Ending Halt)
      → ComesBut (needs_map hash name (next (pages_found (file files name)))) before after result
      → ComesBut (needs_sized_map hash name next) before after result
  comes_sized =
      comes_alike name
      (λ bytes. opens (version_of bytes) hash bytes (given_map (next (pages_found (file files name)))))
      (λ bytes. opens (version_of bytes) hash bytes (given_map (next (pages_by (version_of bytes) bytes)))) before after
      files told agree

-- ---- the whole of it

module _ (hash : List ℕ → List ℕ) (sized : (xs : List ℕ) → length (hash xs) ≡ 32) (old batch new : List ℕ)
    (before : Shelved) where
  abbrev applies : Outcome → Type 0
  applies = MaySayApply hash old batch new

  abbrev allows : Files → ℕ → Type 0
  allows = AllowsApply hash old batch

  abbrev plan : Plan
  plan = needs_sized_map hash old (say_change hash batch new)

  goes : (pages : ℕ) → GoesOn (say_change hash batch new pages) before.files
  goes pages m =
      judged_needs batch (λ text. say_apply_of hash new pages m (batch_of_text m.version text)) before.files

  -- the map was not opened
  few_unopened : (after : Shelved) (e : MapErr) → RefusesMap hash old before after e
      → ReadsWithinPlan allows before after
  few_unopened after e r =
      few_refused before.files old before.reads after.reads
      (λ files bytes n. IsFewApplied hash bytes (file files batch) n) (λ files bytes. inl (omega arith)) r.reads

  pub unopened_so : (after : Shelved) (e : MapErr) (result : Result Ending Halt) → RefusesMap hash old before after e
      → SaysRefusal old e result → ComesAsSaid plan applies allows before after result
  unopened_so after e result r says = by_files before.files refl
    where
      by_files : (o : Option Files) → before.files ≡ o → ComesAsSaid plan applies allows before after result
      by_files None none =
          comes_untold plan applies allows before after none (says_missing old, inl (inl refl)) result
          (record { faults = r.later; reads = r.more })
          (says_refused hash applies old (λ o is. inl is) before after r.files e result
          (refused_blamed hash sized old before after e r none) says)
      by_files (Some files) told =
          let pages = pages_found (file files old) in
          comes_told plan applies allows before after files told result r.more (few_unopened after e r)
          (comes_sized hash old (say_change hash batch new) before after files told result
          (refused_told hash sized old before after e r (say_change hash batch new pages) (goes pages) result says))

  -- it was
  module _ {S H : Type 0} {G : shelves.Ghosts S} {K : hashes.Ghosts H} (p : Paged S H G K) (end : Shelved)
      (o : OpensMap hash old before p) where
    abbrev opened : Shelved
    opened = shelved p

    abbrev standing_opened : MapModel
    standing_opened = stands_for p

    module _ (result : Result Ending Halt)
        (on : ComesBehind applies standing_opened (say_change hash batch new p.head.pages)
        (IsFewOfFile standing_opened.version p.head.pages p.head.batch opened.files batch opened.reads end.reads) opened
        end result) where
      all : NoneFalls before end
      all = record {
        faults = omega (arith, o.quiet, on.counts.faults);
        reads = omega (arith, o.more, on.counts.reads);
      }

      few_in : (bytes : List ℕ) (input : Input) (t : Tree) → IsMapFile hash bytes (map_at standing_opened t)
          → version_of bytes ≡ standing_opened.version → p.head.pages ≡ page_total bytes
          → opened.reads ≤ before.reads + pages_in bytes
          → (k : ℕ) × (end.reads ≤ opened.reads + pieces_of input + k)
          × IsFewOfBatch standing_opened.version p.head.pages t p.head.batch input k
          → (k : ℕ) × (end.reads ≤ before.reads + k) × IsFewApplied hash bytes input k
      few_in bytes input t stands own pages few behind = (
        pages_in bytes + pieces_of input + behind.0,
        omega (arith, few, behind.1),
        inr (
          t,
          standing_opened.batch,
          subst (λ v. IsMapFile hash bytes (map_in v t standing_opened.batch)) (sym own) stands,
          behind.0,
          omega arith,
          subst (λ v. IsFewOfBatch v (pages_in bytes) t standing_opened.batch input behind.0) (sym own)
              (subst (λ k. IsFewOfBatch standing_opened.version (pages_in bytes) t k input behind.0)
              (sym (batch_in (page_form p.file) p.head (told_bytes opened.files (name_of p.file))))
              (subst (λ k. IsFewOfBatch standing_opened.version k t p.head.batch input behind.0)
              (pages ∙ pages_all standing_opened.version hash bytes t standing_opened.batch stands own) behind.2)),
        ),
      )

      few_applied : (files : Files) → before.files ≡ Some files → HasMap hash sized old before standing_opened opened
          → ReadsWithinPlan allows before end
      few_applied files told has =
          let pages_are = at_input before.files files old has.bytes ⊥ (λ bytes. p.head.pages ≡ page_total bytes) told
          has.input o.pages in
          let few_are = at_input before.files files old has.bytes ⊥
          (λ bytes. opened.reads ≤ before.reads + pages_in bytes) told has.input o.reads in
          let own = at_some standing_opened.tree has.tree (IsFewOfFile standing_opened.version p.head.pages p.head.batch
          opened.files batch opened.reads end.reads) has.told on.few_read in
          few_there before.files files old has.bytes before.reads end.reads
          (λ files bytes n. IsFewApplied hash bytes (file files batch) n) told has.input
          (few_in has.bytes (file files batch) has.tree has.stands has.own pages_are few_are
          (subst (λ o. IsFewOfFile standing_opened.version p.head.pages p.head.batch o batch opened.reads end.reads
          has.tree) (o.files ∙ told) own))

      pub opened_so : ComesAsSaid plan applies allows before end result
      opened_so = by_files before.files refl
        where
          by_files : (o : Option Files) → before.files ≡ o → ComesAsSaid plan applies allows before end result
          by_files None none =
              comes_untold plan applies allows before end none (says_missing old, inl (inl refl)) result all
              (untold_from applies before opened end result o.files o.quiet (on.untold (o.files ∙ none)))
          by_files (Some files) told =
              let was = was_opened hash old before p o in
              let has = has_map hash sized old before standing_opened opened was files told in
              let pages_are = at_input before.files files old has.bytes ⊥ (λ bytes. p.head.pages ≡ page_total bytes)
              told has.input o.pages in
              let there : file files old ≡ Some has.bytes =
              subst (λ o. IsInput o old (Some has.bytes)) told has.input in
              let own = at_some standing_opened.tree has.tree
              (λ t. ComesBut (say_change hash batch new p.head.pages (map_at standing_opened t)) opened end result)
              has.told on.told in
              let same : p.head.pages ≡ pages_found (file files old) = pages_are ∙ sym (ap pages_found there) in
              comes_told plan applies allows before end files told result all.reads (few_applied files told has)
              (comes_sized hash old (say_change hash batch new) before end files told result
              (subst (λ k. ComesBut (needs_map hash old (say_change hash batch new k)) before end result) same
              (told_on hash sized old before standing_opened opened was (say_change hash batch new p.head.pages)
              (goes p.head.pages) has end result own)))

-- ---- the tree of an opened map is well formed

one_tree : (a b : Tree) → ◌≡◌ {A = Option Tree} (Some a) (Some b) → a ≡ b
one_tree a b e = cc

not_some : IsSome {T = Files} None → ⊥
not_some e = cc

pub well_in : {S H : Type 0} {G : shelves.Ghosts S} {K : hashes.Ghosts H} (hash : List ℕ → List ℕ) (p : Paged S H G K)
    → OfBytes p.file ⊥ (IsMapOf (page_form p.file) hash (stands_for p)) → (t : Tree) → (stands_for p).tree ≡ Some t
    → WellFormed t
well_in hash p is t at = by_files (shelved p).files refl (files_told p (subst IsSome (sym at) refl))
  where
    by_files : (o : Option Files) → (shelved p).files ≡ o → IsSome o → WellFormed t
    by_files None e some = absurd (not_some some)
    by_files (Some files) e some =
        let there =
        file_has (shelved p).files files (name_of p.file) (IsMapOf (page_form p.file) hash (stands_for p)) e is in
        let same : there.has.0 ≡ t = one_tree there.has.0 t (sym there.has.1 ∙ at) in
        subst WellFormed same there.has.2.well
