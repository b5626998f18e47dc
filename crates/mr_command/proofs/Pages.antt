-- Proofs that are made of a map that is opened page by page, or compared with it.
use Rattle.std.proofs.Common.{◌≡◌, ℕ, ◌+◌, ◌*◌, ◌/◌, ◌<◌, ◌≤◌, List, length, refl, sym, ap, subst, ◌∙◌, inl, inr, arith}
use Rattle.std.specs.Prelude.{⊤, ◌⊎◌, true, false, max, ltb, Option, Some, None, IfOk, IfErr, IfSome, IsSome, OnOk, MatchOption, Result, Ok, Err}
use Rattle.mr_outside.specs.Files.{Files, file}
use Rattle.mr_outside.specs.Faults.{last_count}
use Rattle.mr_outside.specs.State.{Shelved}
use Rattle.mr_outside.specs.Told.{OfFile, OfFiles, MayMiss}
use Rattle.mr_outside.specs.Bytes.{AreBytes}
use Rattle.mr_outside.specs.declared.shelf.Shelf as shelves
use Rattle.mr_record.specs.declared.version.Version.{Version}
use Rattle.mr_record.specs.declared.version.Version.TheVariants.{One, Two}
use Rattle.mr_tree.specs.Digest.{Scheme, by}
use Rattle.mr_tree.specs.Nodes.{MapModel, HasSomeCause}
use Rattle.mr_tree.specs.WellFormed.{HasLayers}
use Rattle.mr_tree.specs.declared.hash.Hashes as hashes
use Rattle.mr_tree.specs.declared.nodes.NodesErr.{NodesErr}
use Rattle.mr_tree.specs.declared.tree.Tree.{Tree}
use Rattle.mr_pages.specs.File.{form_at, version_of}
use Rattle.mr_pages.specs.Law.{AgreesWithFault, IsMap, IsMapFile, map_in}
use Rattle.mr_pages.specs.Opening.{FailsWithoutFault, SomeFile, TellsBytes, pages_in, of_nodes}
use Rattle.mr_pages.specs.Page.{Form}
use Rattle.mr_pages.specs.PageBytes.{form_by}
use Rattle.mr_pages.specs.declared.error.MapErr.{MapErr}
use Rattle.mr_pages.specs.declared.error.MapErr.TheVariants as errors
use Rattle.mr_pages.specs.declared.opening.Opened.{Opened}
use Rattle.std.proofs.lemmas.Bool.{cases_Bool, ltb-true, ltb-false}
use Rattle.mr_pages.proofs.Agreement.{agrees}
use Rattle.mr_pages.proofs.Answered.{form_by_is, stands_version}
use Rattle.mr_proof.specs.Tight.{Question}
use Rattle.mr_proof.specs.Honest.{proof_for, opened_for}
use Rattle.mr_pages.specs.declared.head.MapHead.{MapHead}
use Rattle.mr_store.specs.CachedFile.{name_of, page_form}
use Rattle.mr_store.specs.Kept.{room}
use Rattle.mr_store.specs.Opening.{OpensMap, RefusesMap, TellsMap, page_total}
use Rattle.mr_store.specs.Paged.{Keeps, ReadsFew as FewFetches, shelved, stands_for}
use Rattle.mr_store.specs.Stored.{read_map, told_bytes}
use Rattle.mr_store.specs.declared.paged.Paged.{Paged}
use Rattle.mr_command.specs.Counting.{pieces_of, Opens, opened_beside, AllowsProof, IsFewOf, IsFewBeside, ReadsWithinPlan}
use Rattle.mr_command.specs.Ending.{RunsPlan, ComesAsSaid, IsEndingOrHalt, NoneFalls, StopsCommand}
use Rattle.mr_command.specs.private.Steps.{ComesBut, with_reads, map_at, GoesOn, HasReadMap, IsBeside, IsJudged, KeepsProof, ReadsOpened, SaysRefusal}
use Rattle.mr_command.specs.private.Inputs.{IsUnopened, WasOpened}
use Rattle.mr_plan.specs.Lines.{needs_version_2_line}
use Rattle.mr_plan.specs.Outcome.{Outcome}
use Rattle.mr_plan.specs.Plan.{Plan, comes, Input, IsInput}
use Rattle.mr_plan.specs.Say.{ends, lacks_proof_for, unless_lacking, needs_map, say_proof_of, say_written, says_missing}
use Rattle.mr_plan.specs.Untold.{IsRefused, MaySayProof}
use Rattle.mr_plan.specs.declared.status.Status.TheVariants.{NeedsVersion2}
use Rattle.mr_command.specs.declared.ending.Ending.{Ending}
use Rattle.mr_command.specs.declared.ending.Halt.{Halt}
use Rattle.mr_bundle.specs.declared.text.Text.{Text}
use Rattle.mr_command.proofs.Counting.{AllowsFrom}
use Rattle.mr_command.proofs.Going.{Answered, is_judged, comes_given, comes_map, opens_map, opens_unopened, opens_halted, version_by}
use Rattle.mr_command.proofs.Rereading.{IsBlamed, comes_but, comes_told, comes_untold, fetch_blamed, fetch_stopped, says_given, says_last, says_refused, stops_with}
use Rattle.mr_command.proofs.Texts.{says_proof}
use Rattle.mr_command.proofs.Versions.{in_own}

-- ---- the bytes of the map's file

-- the file is told, and these are its bytes
pub record HasBytes (told : Option Files) (name : List ℕ) (P : List ℕ → Type 0) : Type 0 where
  pub bytes : List ℕ
  pub input : IsInput told name (Some bytes)
  pub has : P bytes

in_file : (files : Files) (name : List ℕ) (P : List ℕ → Type 0) (found : Option (List ℕ)) → file files name ≡ found
    → MatchOption found ⊥ P → HasBytes (Some files) name P
in_file files name P None is has = absurd has
in_file files name P (Some bytes) is has = record { bytes = bytes; input = is; has = has }

pub file_has : (told : Option Files) (files : Files) (name : List ℕ) (P : List ℕ → Type 0) → told ≡ Some files
    → OfFile told name ⊥ P → HasBytes told name P
file_has told files name P is has =
    subst (λ o. HasBytes o name P) (sym is)
    (in_file files name P (file files name) refl (subst (λ o. OfFile o name ⊥ P) is has))

-- what is known of the bytes of an input that is told
of_input : (told : Option Files) (files : Files) (name bytes : List ℕ) (P : Type 0) (Q : List ℕ → Type 0)
    → told ≡ Some files → IsInput told name (Some bytes) → Q bytes → OfFile told name P Q
of_input told files name bytes P Q is input has =
    subst (λ o. IsInput o name (Some bytes) → OfFile o name P Q) (sym is)
    (λ found. subst (λ f. MatchOption f P Q) (sym found) has) input

pub at_input : (told : Option Files) (files : Files) (name bytes : List ℕ) (P : Type 0) (Q : List ℕ → Type 0)
    → told ≡ Some files → IsInput told name (Some bytes) → OfFile told name P Q → Q bytes
at_input told files name bytes P Q is input has =
    subst (λ o. IsInput o name (Some bytes) → OfFile o name P Q → Q bytes) (sym is)
    (λ found all. subst (λ f. MatchOption f P Q) found all) input has

-- what is known of a file that is there
there_of : (told : Option Files) (name : List ℕ) (absent : Type 0) (P : List ℕ → Type 0) → OfFile told name ⊥ P
    → OfFile told name absent P
there_of None name absent P has = tt
there_of (Some files) name absent P has = by_found (file files name) has
  where
    by_found : (o : Option (List ℕ)) → MatchOption o ⊥ P → MatchOption o absent P
    by_found None has = absurd has
    by_found (Some bytes) has = has

-- what is known of a file's cells
are_of : (told : Option Files) (name : List ℕ) (P : Type 0) (Q : List ℕ → Type 0)
    → ((bytes : List ℕ) → Q bytes → AreBytes bytes) → OfFile told name P Q → OfFile told name ⊤ AreBytes
are_of None name P Q are has = tt
are_of (Some files) name P Q are has = by_found (file files name) has
  where
    by_found : (o : Option (List ℕ)) → MatchOption o P Q → MatchOption o ⊤ AreBytes
    by_found None has = tt
    by_found (Some bytes) has = are bytes has

-- what follows of cells that are bytes
judged_of : (told : Option Files) (name : List ℕ) (P : List ℕ → Type 0) → ((bytes : List ℕ) → AreBytes bytes → P bytes)
    → OfFile told name ⊤ AreBytes → OfFile told name ⊤ P
judged_of None name P all are = tt
judged_of (Some files) name P all are = by_found (file files name) are
  where
    by_found : (o : Option (List ℕ)) → MatchOption o ⊤ AreBytes → MatchOption o ⊤ P
    by_found None are = tt
    by_found (Some bytes) are = all bytes are

-- as many reads after as before
same_reads : (told : Option Files) (name : List ℕ) (n : ℕ)
    → OfFile told name (n ≡ n) (λ bytes. n ≤ n + pages_in bytes)
same_reads None name n = tt
same_reads (Some files) name n = by_found (file files name)
  where
    by_found : (o : Option (List ℕ)) → MatchOption o (n ≡ n) (λ bytes. n ≤ n + pages_in bytes)
    by_found None = refl
    by_found (Some bytes) = omega arith

err_is : (e f : MapErr) → ◌≡◌ {A = Result Opened MapErr} (Err e) (Err f) → e ≡ f
err_is e f is = cc

-- one count of reads stands for another, where the rest is as before
pub with_same : (n : ℕ) (a b : Shelved) → b.files ≡ a.files → b.faults ≡ a.faults → with_reads n b ≡ with_reads n a
with_same n a b files faults = λ i. record { files = files i; faults = faults i; reads = n }

-- an opened map, by what it stands for
pub was_opened : {S H : Type 0} {G : shelves.Ghosts S} {K : hashes.Ghosts H} (hash : List ℕ → List ℕ)
    (name : List ℕ) (before : Shelved) (p : Paged S H G K) → OpensMap hash name before p
    → WasOpened hash name before (shelved p) (stands_for p)
was_opened hash name before p o =
    record { answers = o.answers; files = o.files; quiet = o.quiet; more = o.more; reads = o.reads }

module _ (hash : List ℕ → List ℕ) (sized : (xs : List ℕ) → length (hash xs) ≡ 32) (map : List ℕ)
    (before : Shelved) where
  agreed : (bytes : List ℕ) → AreBytes bytes → AgreesWithFault (form_at bytes) hash bytes
  agreed bytes all = agrees (form_at bytes) (form_by_is (version_of bytes)) hash sized bytes all

  judged : OfFile before.files map ⊤ AreBytes → IsJudged hash before.files map
  judged are =
      is_judged hash before.files map
      (judged_of before.files map (λ bytes. AgreesWithFault (form_at bytes) hash bytes) agreed are) agreed

  -- ---- a map that is not opened

  module _ (after : Shelved) (e : MapErr) (r : RefusesMap hash map before after e) where
    refused_answer : Answered hash map (with_reads after.reads before) after (Err e)
    refused_answer = (
      r.answers,
      in_own hash (Err e) (λ v bytes t b. stands_version v hash bytes t b) r.some,
      record {
        missing = λ is. r.why.missing (err_is e errors.Missing is);
        fault = λ is. r.why.failed (err_is e errors.Fault is);
        faults = r.later;
        quiet = r.why.quiet;
      },
      r.files,
      omega arith,
      same_reads before.files map after.reads,
    )

    are_there : OfFile before.files map ⊤ AreBytes
    are_there = are_of before.files map (FailsWithoutFault (Err e))
        (λ bytes. TellsBytes (form_at bytes) hash bytes (Err e))
        (λ bytes tells. tells.are) r.answers

    -- over files that are told, what follows on a map is not reached
    pub refused_told : (next : Opened → Plan) → GoesOn next before.files → (result : Result Ending Halt)
        → SaysRefusal map e result → ComesBut (needs_map hash map next) before after result
    refused_told next goes result says =
        opens_unopened hash map (with_reads after.reads before) after (judged are_there) e result
        refused_answer says next goes

    -- over others each cause is outside
    pub refused_blamed : before.files ≡ None → IsBlamed hash before after e
    refused_blamed none = record {
      missing = λ is. subst (λ o. MayMiss o map before.faults after.faults) none (r.why.missing is);
      fault = r.why.failed;
      map = λ f is. (
        inl (subst (λ (x : MapErr). SomeFile hash (Err x)) is r.some),
        elim r.why.quiet [
          | inl same ↦ same
          | inr fails ↦ absurd (subst (λ (x : MapErr). FailsWithoutFault (Err x)) is fails)
        ],
      );
    }

    pub refused : (may_say : Outcome → Type 0) (allows : Files → ℕ → Type 0) (next : Opened → Plan)
        → GoesOn next before.files → ((said : Outcome) → IsRefused hash map said → may_say said)
        → ReadsWithinPlan allows before after → (result : Result Ending Halt) → SaysRefusal map e result
        → ComesAsSaid (needs_map hash map next) may_say allows before after result
    refused may_say allows next goes may few result says = by_files before.files refl
      where
        by_files : (o : Option Files) → before.files ≡ o
            → ComesAsSaid (needs_map hash map next) may_say allows before after result
        by_files None none =
            comes_untold (needs_map hash map next) may_say allows before after none
            (says_missing map, may (says_missing map) (inl refl)) result
            (record { faults = r.later; reads = r.more })
            (says_refused hash may_say map may before after r.files e result (refused_blamed none) says)
        by_files (Some files) told =
            comes_told (needs_map hash map next) may_say allows before after files told result r.more few
            (refused_told next goes result says)

  -- ---- a map that is opened

  -- what is known of it where its file is told
  pub record HasMap (s : MapModel) (after : Shelved) : Type 0 where
    pub tree : Tree
    pub told : s.tree ≡ Some tree
    pub bytes : List ℕ
    pub input : IsInput before.files map (Some bytes)
    -- it is read in the version that its bytes tell
    pub own : version_of bytes ≡ s.version
    pub stands : IsMapFile hash bytes (map_at s tree)
    pub holds : (n : ℕ) → HasReadMap hash map (with_reads n before) (with_reads n after) (map_at s tree)

  module _ (s : MapModel) (after : Shelved) (w : WasOpened hash map before after s) where
    are_opened : OfFile before.files map ⊤ AreBytes
    are_opened = are_of before.files map ⊥ (λ bytes. TellsMap (form_at bytes) hash s bytes)
        (λ bytes tells. tells.2.are) w.answers

    pub has_map : (files : Files) → before.files ≡ Some files → HasMap s after
    has_map files told =
        let there = file_has before.files files map (λ bytes. TellsMap (form_at bytes) hash s bytes) told w.answers in
        let t = there.has.0 in
        let m : Opened = map_at s t in
        let tells : TellsBytes (form_at there.bytes) hash there.bytes (Ok m) = there.has.2 in
        let own : version_of there.bytes ≡ s.version =
        sym (tells.answers.0 ∙ version_by (version_of there.bytes)) in
        let is : IsMapFile hash there.bytes m =
        subst (λ v. IsMap (form_by v) hash there.bytes t s.batch) own tells.answers.1 in
        record {
          tree = t;
          told = there.has.1;
          bytes = there.bytes;
          input = there.input;
          own = own;
          stands = is;
          holds = λ n.
              opens_map hash map (with_reads n before) (with_reads n after) (judged are_opened) m (
                of_input before.files files map there.bytes (FailsWithoutFault (Ok m))
                    (λ bytes. TellsBytes (form_at bytes) hash bytes (Ok m)) told there.input tells,
                (there.bytes, tells.are, tells.answers),
                record {
                  missing = λ is. absurd (cc);
                  fault = λ is. absurd (cc);
                  faults = omega (arith, w.quiet);
                  quiet = inl w.quiet;
                },
                w.files,
                omega arith,
                same_reads before.files map n,
              ) is.well (subst (λ v. HasLayers v t) (version_by s.version) is.layers) is.stands.batch_fits;
        }

    module _ (next : Opened → Plan) (goes : GoesOn next before.files) where
      -- what follows on the map
      pub told_on : (has : HasMap s after) (later : Shelved) (result : Result Ending Halt)
          → RunsPlan (next (map_at s has.tree)) (with_reads later.reads after) later result
          → ComesBut (needs_map hash map next) before later result
      told_on has later result on =
          comes_map hash map next (with_reads later.reads before) (with_reads later.reads after) later
          (map_at s has.tree) result (has.holds later.reads) goes on

      -- the store or memory failed
      pub told_halted : (later : Shelved) (halt : Halt) → later.files ≡ after.files → before.faults ≤ later.faults
          → StopsCommand before later halt → ComesBut (needs_map hash map next) before later (Err halt)
      told_halted later halt kept faults stops =
          opens_halted hash map (with_reads later.reads before) later (judged are_opened) halt
          (record { faults = faults; reads = omega arith }) (same_reads before.files map later.reads)
          (kept ∙ w.files) (stops_with later.reads before later halt stops) next goes

-- ---- how many reads

-- a tree is told only where files are
pub files_told : {S H : Type 0} {G : shelves.Ghosts S} {K : hashes.Ghosts H} (p : Paged S H G K)
    → IsSome (stands_for p).tree → IsSome (shelved p).files
files_told p = at (page_form p.file) p.head (shelved p).files (name_of p.file)
  where
    not_some : IsSome {T = Tree} None → ⊥
    not_some e = cc

    at : (form : Form) (h : MapHead) (o : Option Files) (name : List ℕ)
        → IsSome (read_map form h (told_bytes o name)).tree → IsSome o
    at form h None name told = absurd (not_some told)
    at form h (Some files) name told = refl

-- each page of a file that stands for a map is there to be read
pub pages_all : (v : Version) (hash : List ℕ → List ℕ) (bytes : List ℕ) (t : Tree) (batch : ℕ)
    → IsMapFile hash bytes (map_in v t batch) → version_of bytes ≡ v → page_total bytes ≡ pages_in bytes
pages_all One hash bytes t batch is own =
    let size = ap (λ v. (form_by v).size) own in
    let total = ap (λ n. length bytes / n) size in omega (arith, total)
pages_all Two hash bytes t batch is own =
    let size = ap (λ v. (form_by v).size) own in
    let total = ap (λ n. length bytes / n) size in omega (arith, total, is.stands.size, is.stands.some)

module _ {S H : Type 0} {G : shelves.Ghosts S} {K : hashes.Ghosts H} (hash : List ℕ → List ℕ)
    (sized : (xs : List ℕ) → length (hash xs) ≡ 32) (map : List ℕ) (before : Shelved) (p : Paged S H G K)
    (o : OpensMap hash map before p) where
  -- what is known of the reads of a map where its file is told
  pub record IsCounted (t : Tree) (bytes : List ℕ) : Type 0 where
    -- it is read in the version that its bytes tell
    pub own : version_of bytes ≡ (stands_for p).version
    pub stands : IsMapFile hash bytes (map_in (version_of bytes) t (stands_for p).batch)
    pub pages : p.head.pages ≡ pages_in bytes
    pub few : (shelved p).reads ≤ before.reads + pages_in bytes

  pub counted : (files : Files) → before.files ≡ Some files
      → (has : HasMap hash sized map before (stands_for p) (shelved p)) → IsCounted has.tree has.bytes
  counted files told has = record {
    own = has.own;
    stands = subst (λ v. IsMapFile hash has.bytes (map_in v has.tree (stands_for p).batch)) (sym has.own) has.stands;
    pages = at_input before.files files map has.bytes ⊥ (λ bytes. p.head.pages ≡ page_total bytes) told has.input
        o.pages ∙ pages_all (stands_for p).version hash has.bytes has.tree (stands_for p).batch has.stands has.own;
    few = at_input before.files files map has.bytes ⊥ (λ bytes. (shelved p).reads ≤ before.reads + pages_in bytes) told
        has.input o.reads;
  }

-- so few where a map is opened and its nodes are fetched for a proof
few_pages : (hash : List ℕ → List ℕ) (times : ℕ) (a : Question) (pages : ℕ) (bytes : List ℕ) (r m e f : ℕ)
    (t : Tree) (batch : ℕ)
    → IsMapFile hash bytes (map_in (version_of bytes) t batch) → lacks_proof_for (version_of bytes) a ≡ false
    → pages ≡ pages_in bytes → m ≤ r + pages_in bytes → (pages ≤ room + 1 → e ≡ m) → FewFetches m 0 e f
    → e ≤ max m last_count → f ≤ 0 + times * opened_for (by (version_of bytes) hash) a t
    → (n : ℕ) × (e ≤ r + n) × IsFewOf hash times a bytes n
few_pages hash times a pages bytes r m e f t batch stands has_proof pages_are few still fetched most bound =
    let all : ℕ = pages_in bytes + times * opened_for (by (version_of bytes) hash) a t in
    elim (cases_Bool (ltb (room + 1) pages)) [
      | inl large ↦ (
        all,
        elim fetched [
          | inl each ↦ omega (arith, few, each, bound)
          | inr last ↦ omega (arith, few, last, most, bound)
        ],
        inr (
          subst (λ n. room + 1 < n) pages_are (ltb-true (room + 1) pages large),
          has_proof,
          (t, batch, stands, omega arith),
        ),
      )
      | inr small ↦
          (pages_in bytes, omega (arith, few, still (ltb-false (room + 1) pages small)), inl (omega arith))
    ]

-- the same beside a proof, whose pieces come on top
pub few_beside : (hash : List ℕ → List ℕ) (opened_nodes : Opens) (pages : ℕ) (bytes : List ℕ) (proof : Input)
    (r m e : ℕ) (t : Tree) (batch : ℕ) → IsMapFile hash bytes (map_in (version_of bytes) t batch)
    → pages ≡ pages_in bytes → m ≤ r + pages_in bytes
    → IsBeside opened_nodes (by (version_of bytes) hash) t batch pages proof m e
    → (n : ℕ) × (e ≤ r + n) × IsFewBeside hash opened_nodes bytes proof n
few_beside hash opened_nodes pages bytes proof r m e t batch stands pages_are few (inl small) = (
  pages_in bytes + pieces_of proof,
  omega (arith, few, small),
  inr (t, batch, stands, inl (omega arith)),
)
few_beside hash opened_nodes pages bytes proof r m e t batch stands pages_are few (inr large) =
    let opened : ℕ = opened_beside opened_nodes (by (version_of bytes) hash) t batch proof in
    let all : ℕ = pages_in bytes + pieces_of proof + opened in (
      all,
      omega (arith, few, large.1),
      inr (t, batch, stands, inr (subst (λ n. room + 1 < n) pages_are large.0, omega arith)),
    )

-- how many reads the fetches of an audit take
pub reads_opened : {S H : Type 0} {G : shelves.Ghosts S} {K : hashes.Ghosts H} (hash : List ℕ → List ℕ)
    (opened_nodes : Opens) (bytes : List ℕ) (p p' : Paged S H G K) → Keeps p p'
    → IfSome (stands_for p).tree
    (λ t. p'.fetches ≤ p.fetches + opened_nodes (by (stands_for p).version hash) t (stands_for p).batch bytes)
    → p.fetches ≡ 0 → ReadsOpened hash opened_nodes (stands_for p) p.head.pages bytes (shelved p) (shelved p')
reads_opened hash opened_nodes bytes p p' kept fetched none = by_tree (stands_for p).tree refl fetched
  where
    batch : ℕ
    batch = (stands_for p).batch

    scheme : Scheme
    scheme = by (stands_for p).version hash

    few : (t : Tree) → IsSome (shelved p).files → p'.fetches ≤ p.fetches + opened_nodes scheme t batch bytes
        → ((shelved p').reads ≡ (shelved p).reads) ⊎ ((room + 1 < p.head.pages)
        × ((shelved p').reads ≤ (shelved p).reads + opened_nodes scheme t batch bytes))
    few t there bound = elim (cases_Bool (ltb (room + 1) p.head.pages)) [
      | inl large ↦ inr (
        ltb-true (room + 1) p.head.pages large,
        elim kept.few [
          | inl each ↦ omega (arith, each, bound, none)
          | inr last ↦ omega (arith, last, kept.most, bound, none)
        ],
      )
      | inr small ↦ inl (kept.still there (ltb-false (room + 1) p.head.pages small))
    ]

    by_tree : (o : Option Tree) → (stands_for p).tree ≡ o
        → IfSome o (λ t. p'.fetches ≤ p.fetches + opened_nodes scheme t batch bytes)
        → IfSome o (λ t. ((shelved p').reads ≡ (shelved p).reads) ⊎ ((room + 1 < p.head.pages)
        × ((shelved p').reads ≤ (shelved p).reads + opened_nodes scheme t batch bytes)))
    by_tree None is bound = tt
    by_tree (Some t) is bound = few t (files_told p (subst IsSome (sym is) refl)) bound

-- where it is not opened
pub few_refused : (told : Option Files) (name : List ℕ) (r e : ℕ) (P : Files → List ℕ → ℕ → Type 0)
    → ((files : Files) (bytes : List ℕ) → P files bytes (pages_in bytes))
    → OfFile told name (e ≡ r) (λ bytes. e ≤ r + pages_in bytes)
    → OfFiles told (λ files. (n : ℕ) × (e ≤ r + n) × MatchOption (file files name) (n ≡ 0) (λ bytes. P files bytes n))
few_refused None name r e P all few = tt
few_refused (Some files) name r e P all few = by_found (file files name) few
  where
    by_found : (o : Option (List ℕ)) → MatchOption o (e ≡ r) (λ bytes. e ≤ r + pages_in bytes)
        → (n : ℕ) × (e ≤ r + n) × MatchOption o (n ≡ 0) (λ bytes. P files bytes n)
    by_found None same = (0, omega (arith, same), refl)
    by_found (Some bytes) few = (pages_in bytes, few, all files bytes)

-- the count over the bytes that are there
pub few_there : (told : Option Files) (files : Files) (name bytes : List ℕ) (r e : ℕ) (P : Files → List ℕ → ℕ → Type 0)
    → told ≡ Some files → IsInput told name (Some bytes)
    → ((n : ℕ) × (e ≤ r + n) × P files bytes n)
    → OfFiles told (λ files. (n : ℕ) × (e ≤ r + n) × MatchOption (file files name) (n ≡ 0) (λ bytes. P files bytes n))
few_there told files name bytes r e P is input few =
    subst (λ o. IsInput o name (Some bytes) → OfFiles o (λ files. (n : ℕ) × (e ≤ r + n)
    × MatchOption (file files name) (n ≡ 0) (λ bytes. P files bytes n))) (sym is)
    (λ found. (few.0, few.1, subst (λ o. MatchOption o (few.0 ≡ 0) (λ bytes. P files bytes few.0)) (sym found) few.2))
    input

-- what is not read
unread_of : (told : Option Files) (files : Files) (said : Outcome) (r t : ℕ) → told ≡ Some files
    → AllowsFrom told (comes said) r t → r ≤ t → t ≡ r
unread_of told files said r t is few more =
    let on = subst (λ o. AllowsFrom o (comes said) r t) is few in omega (arith, on.1, on.2, more)

-- ---- a map that is not opened

pub unopened_map : (hash : List ℕ → List ℕ) (sized : (xs : List ℕ) → length (hash xs) ≡ 32) (map : List ℕ)
    (before : Shelved) (may_say : Outcome → Type 0) (allows : Files → ℕ → Type 0) (next : Opened → Plan)
    → GoesOn next before.files → ((said : Outcome) → IsRefused hash map said → may_say said) → (after : Shelved)
    (result : Result Ending Halt) → IsUnopened hash map before after result
    → (OfFile before.files map (after.reads ≡ before.reads) (λ bytes. after.reads ≤ before.reads + pages_in bytes)
    → ReadsWithinPlan allows before after)
    → ComesAsSaid (needs_map hash map next) may_say allows before after result
unopened_map hash sized map before may_say allows next goes may after result is few =
    refused hash sized map before after is.error is.refuses may_say allows next goes may (few is.refuses.reads) result
    is.says

-- ---- a proof that is made

pub proving_unopened : (hash : List ℕ → List ℕ) (map : List ℕ) (times : ℕ) (a : Question) (before after : Shelved)
    → OfFile before.files map (after.reads ≡ before.reads) (λ bytes. after.reads ≤ before.reads + pages_in bytes)
    → ReadsWithinPlan (AllowsProof hash map times a) before after
proving_unopened hash map times a before after few =
    few_refused before.files map before.reads after.reads (λ files bytes n. IsFewOf hash times a bytes n)
    (λ files bytes. inl (omega arith)) few

-- only of what has proofs of the second version alone there is none
two_only_of : (v : Version) (a : Question) → lacks_proof_for v a ≡ true → a.two_only ≡ true
two_only_of One a lacks = lacks
two_only_of Two a lacks = absurd cc

says_lacking : (hash : List ℕ → List ℕ) (a : Question) (name : List ℕ) (map : Opened)
    → lacks_proof_for map.version a ≡ true → ends NeedsVersion2 needs_version_2_line ≡ say_proof_of hash a name map
unfolding say_proof_of
says_lacking hash a name map lacks =
    ap (λ b. unless_lacking b (say_written name (proof_for (by map.version hash) a map.tree map.batch))) (sym lacks)

-- the map has no proof of what is asked, so none is made
pub unproved : {S H : Type 0} {G : shelves.Ghosts S} {K : hashes.Ghosts H} (hash : List ℕ → List ℕ)
    (sized : (xs : List ℕ) → length (hash xs) ≡ 32) (map : List ℕ) (times : ℕ) (a : Question) (proof : List ℕ)
    (before : Shelved) (p : Paged S H G K) → OpensMap hash map before p
    → lacks_proof_for (stands_for p).version a ≡ true
    → (result : Result Ending Halt) → IsEndingOrHalt (ends NeedsVersion2 needs_version_2_line) result
    → ComesAsSaid (needs_map hash map (λ m. comes (say_proof_of hash a proof m))) (MaySayProof hash map a proof)
    (AllowsProof hash map times a) before (shelved p) result
unproved hash sized map times a proof before p o lacks result gives = by_files before.files refl
  where
    mid : Shelved
    mid = shelved p

    said : Outcome
    said = ends NeedsVersion2 needs_version_2_line

    plan : Plan
    plan = needs_map hash map (λ m. comes (say_proof_of hash a proof m))

    may : MaySayProof hash map a proof said
    may = inr (inl (two_only_of (stands_for p).version a lacks, refl))

    few : ReadsWithinPlan (AllowsProof hash map times a) before mid
    few = proving_unopened hash map times a before mid (there_of before.files map (mid.reads ≡ before.reads)
        (λ bytes. mid.reads ≤ before.reads + pages_in bytes) o.reads)

    by_files : (f : Option Files) → before.files ≡ f
        → ComesAsSaid plan (MaySayProof hash map a proof) (AllowsProof hash map times a) before mid result
    by_files None none =
        comes_untold plan (MaySayProof hash map a proof) (AllowsProof hash map times a) before mid none (said, may)
        result (record { faults = omega (arith, o.quiet); reads = o.more })
        (says_given (MaySayProof hash map a proof) said before mid may refl o.files o.quiet result gives)
    by_files (Some files) told =
        let w = was_opened hash map before p o in
        let has = has_map hash sized map before (stands_for p) mid w files told in
        comes_told plan (MaySayProof hash map a proof) (AllowsProof hash map times a) before mid files told result
        o.more few
        (told_on hash sized map before (stands_for p) mid w (λ m. comes (say_proof_of hash a proof m)) (λ m. tt) has mid
        result
        (subst (λ o. RunsPlan (comes o) mid mid result)
        (says_lacking hash a proof (map_at (stands_for p) has.tree) lacks)
        (comes_given said mid result refl gives)))

module _ {S H : Type 0} {G : shelves.Ghosts S} {K : hashes.Ghosts H} (hash : List ℕ → List ℕ)
    (sized : (xs : List ℕ) → length (hash xs) ≡ 32) (map : List ℕ) (times : ℕ) (a : Question) (proof : List ℕ)
    (before after : Shelved) (p p' : Paged S H G K) (o : OpensMap hash map before p)
    (has_proof : lacks_proof_for (stands_for p).version a ≡ false) (kept : Keeps p p')
    (fetched : IfSome (stands_for p).tree
    (λ t. p'.fetches ≤ p.fetches + times * opened_for (by (stands_for p).version hash) a t)) where
  abbrev on_map : Opened → Plan
  on_map m = comes (say_proof_of hash a proof m)

  abbrev plan : Plan
  plan = needs_map hash map on_map

  abbrev may : Outcome → Type 0
  may = MaySayProof hash map a proof

  abbrev allows : Files → ℕ → Type 0
  allows = AllowsProof hash map times a

  abbrev s : MapModel
  s = stands_for p

  abbrev mid : Shelved
  mid = shelved p

  abbrev end : Shelved
  end = shelved p'

  w : WasOpened hash map before mid s
  w = was_opened hash map before p o

  -- the reads, as nothing is read for the output
  few_proved : after.reads ≡ end.reads → (files : Files) → before.files ≡ Some files
      → HasMap hash sized map before s mid
      → ReadsWithinPlan allows before after
  few_proved unread files told has =
      let is = counted hash sized map before p o files told has in
      let bound = subst (λ o. IfSome o (λ t. p'.fetches ≤ p.fetches + times * opened_for (by s.version hash) a t))
      has.told fetched in
      few_there before.files files map has.bytes before.reads after.reads
      (λ files bytes n. IsFewOf hash times a bytes n) told has.input
      (subst (λ e. (n : ℕ) × (e ≤ before.reads + n) × IsFewOf hash times a has.bytes n) (sym unread)
      (few_pages hash times a p.head.pages has.bytes before.reads mid.reads end.reads p'.fetches has.tree s.batch
      is.stands (subst (λ v. lacks_proof_for v a ≡ false) (sym is.own) has_proof) is.pages is.few
      (λ small. kept.still (subst IsSome (sym (o.files ∙ told)) refl) small)
      (subst (λ x. FewFetches mid.reads x end.reads p'.fetches) o.none kept.few) kept.most
      (subst (λ x. p'.fetches ≤ x + times * opened_for (by (version_of has.bytes) hash) a has.tree) o.none
      (subst (λ v. p'.fetches ≤ p.fetches + times * opened_for (by v hash) a has.tree) (sym is.own) bound))))

  pub proved : (made : Result Text NodesErr) (result : Result Ending Halt)
      → IfSome s.tree (λ t. IfOk made (λ text. text.bytes.items ≡ proof_for (by s.version hash) a t s.batch))
      → IfErr made (HasSomeCause s mid.faults end.faults) → OnOk made (end.faults ≡ mid.faults)
      → KeepsProof map proof made end after result
      → ComesAsSaid plan may allows before after result
  proved (Ok text) result written cause calm keeps = by_files before.files refl
    where
      counts : NoneFalls before after
      counts = record {
        faults = omega (arith, o.quiet, kept.faults, keeps.counts.faults);
        reads = omega (arith, o.more, kept.reads, keeps.counts.reads);
      }

      by_files : (f : Option Files) → before.files ≡ f
          → ComesAsSaid plan may allows before after result
      by_files None none =
          comes_untold plan may allows before after none (says_missing map, inl (inl refl)) result counts
          (says_last may (say_written proof text.bytes.items) before end after result
          (inr (inr (text.bytes.items, refl))) none (kept.files ∙ o.files) (calm ∙ o.quiet) keeps)
      by_files (Some files) told =
          let has = has_map hash sized map before s mid w files told in
          let m : Opened = map_at s has.tree in
          let own = subst (λ o. IfSome o (λ t. text.bytes.items ≡ proof_for (by s.version hash) a t s.batch))
          has.told written in
          let said = say_written proof text.bytes.items in
          let unread = unread_of end.files files said end.reads after.reads (kept.files ∙ o.files ∙ told) keeps.few
          keeps.counts.reads in
          comes_told plan may allows before after files told result counts.reads
          (few_proved unread files told has)
          (told_on hash sized map before s mid w on_map (λ m. tt) has after result
          (subst (λ o. RunsPlan (comes o) (with_reads after.reads mid) after result)
          (says_proof hash a proof m text.bytes.items has_proof own)
          (subst (λ w. RunsPlan (comes said) w after result) (with_same after.reads mid end kept.files calm)
          (comes_but said end after result keeps))))
  proved (Err e) result written cause calm keeps =
      subst (λ w. ComesAsSaid plan may allows before w result) (sym keeps.0)
      (by_files before.files refl)
    where
      shifted : HasSomeCause s before.faults end.faults e
      shifted = subst (λ n. HasSomeCause s n end.faults e) o.quiet cause

      counts : NoneFalls before end
      counts = record { faults = omega (arith, o.quiet, kept.faults); reads = omega (arith, o.more, kept.reads) }

      by_files : (f : Option Files) → before.files ≡ f
          → ComesAsSaid plan may allows before end result
      by_files None none =
          comes_untold plan may allows before end none (says_missing map, inl (inl refl)) result counts
          (says_refused hash may map (λ said is. inl is) before end (kept.files ∙ o.files)
          (of_nodes e) result (fetch_blamed hash s e before end shifted) keeps.1)
      by_files (Some files) told =
          let has = has_map hash sized map before s mid w files told in
          let stop = fetch_stopped map s has.tree e before end result has.told shifted keeps.1 in
          subst (ComesAsSaid plan may allows before end) (sym stop.is)
          (comes_told plan may allows before end files told (Err stop.halt)
          counts.reads
          (subst (λ w. ReadsWithinPlan allows before w) keeps.0
          (few_proved (ap (λ (w : Shelved). w.reads) keeps.0) files told has))
          (told_halted hash sized map before s mid w on_map (λ m. tt) end stop.halt kept.files
          counts.faults stop.stops))
