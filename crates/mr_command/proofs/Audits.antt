-- The audits, of an answer and of a count, on a map that is opened page by page.
use Rattle.std.proofs.Common.{◌≡◌, ℕ, ◌+◌, ◌<◌, ◌≤◌, List, length, refl, sym, ap, subst, ◌∙◌, inl, inr, arith}
use Rattle.std.specs.Prelude.{◌⊎◌, Option, Some, None, IfSome, Result, Ok, Err}
use Rattle.std.specs.Global.{Vec}
use Rattle.std.specs.String.{string_bytes}
use Rattle.mr_outside.specs.Files.{Files, file}
use Rattle.mr_outside.specs.Faults.{Rose}
use Rattle.mr_outside.specs.State.{Shelved}
use Rattle.mr_outside.specs.Told.{OfFile, OfFiles}
use Rattle.mr_outside.specs.declared.shelf.Shelf as shelves
use Rattle.mr_outside.specs.Bytes.{AreBytes}
use Rattle.mr_tree.specs.Digest.{by}
use Rattle.mr_tree.specs.Nodes.{MapModel, HasSomeCause}
use Rattle.mr_tree.specs.declared.hash.Hashes as hashes
use Rattle.mr_tree.specs.declared.nodes.NodesErr.{NodesErr}
use Rattle.mr_tree.specs.declared.tree.Tree.{Tree}
use Rattle.mr_pages.specs.Opening.{pages_in, of_nodes}
use Rattle.mr_pages.specs.PageBytes.{form_of}
use Rattle.mr_pages.specs.declared.opening.Opened.{Opened}
use Rattle.mr_query.specs.declared.key.Key.{Key}
use Rattle.mr_query.specs.declared.query.Query.{Query}
use Rattle.mr_proof.specs.declared.way.Way.{Way}
use Rattle.mr_check.specs.Versions.{proof_version}
use Rattle.mr_tree.specs.declared.nodes.Top.{Top}
use Rattle.mr_clash.specs.Finding.{found, ShowsCollision, FindsFor}
use Rattle.mr_clash.specs.declared.finding.Finding.{Finding}
use Rattle.mr_count.specs.Finding as choices
use Rattle.mr_count.specs.declared.finding.ChoiceFinding.{ChoiceFinding}
use Rattle.mr_store.specs.Kept.{room}
use Rattle.mr_store.specs.Opening.{OpensMap}
use Rattle.mr_store.specs.Paged.{IsSameMap, shelved, stands_for}
use Rattle.mr_store.specs.Stored.{read_map, told_bytes}
use Rattle.mr_store.specs.declared.paged.Paged.{Paged}
use Rattle.mr_command.specs.Counting.{Opens, opened_beside, AllowsAudit, IsFewBeside, ReadsWithinPlan}
use Rattle.mr_command.specs.Ending.{RunsPlan, ComesAsSaid, IsEndingOrHalt, NoneFalls, StopsCommand}
use Rattle.mr_command.specs.private.Steps.{ComesBut, with_reads, map_at, IsBeside, IsUnread, ReadsInput, ReadsBeside, ReadsOpened, SaysRefusal, SaysUntold}
use Rattle.mr_plan.specs.Outcome.{Outcome, Nothing, LeavesWritten, MayLeave}
use Rattle.mr_plan.specs.Plan.{Plan, comes, IsAbsent, IsInput}
use Rattle.mr_plan.specs.Counts.{count_letter, count_found}
use Rattle.mr_plan.specs.Say.{needs, needs_beside, say_audit_of, say_audit_count_of, say_finding, say_count_finding, says_missing}
use Rattle.mr_plan.specs.Untold.{IsRefused, MaySayAudit, MaySayAuditCount}
use Rattle.mr_command.specs.declared.ending.Ending.{Ending}
use Rattle.mr_command.specs.declared.ending.Halt.{Halt}
use Rattle.mr_command.specs.declared.ending.Halt.TheVariants as halts
use Rattle.mr_command.proofs.Counting.{OnceFrom, few_none, once_none}
use Rattle.mr_command.proofs.Going.{comes_given, judged_needs}
use Rattle.mr_command.proofs.Inputs.{goes_needed, says_bytes}
use Rattle.mr_command.proofs.Pages.{HasMap, counted, few_beside, few_refused, few_there, has_map, told_on, was_opened, with_same}
use Rattle.mr_command.proofs.Rereading.{comes_but, comes_told, comes_untold, fetch_blamed, fetch_stopped, says_given, says_refused, stops_with}
use Rattle.mr_command.proofs.Verdicts.{says_finding, says_count_finding, finding_writes, count_finding_writes}

-- the same map stands for the same
pub same_stands : {S H : Type 0} {G : shelves.Ghosts S} {K : hashes.Ghosts H} (p p' : Paged S H G K)
    → IsSameMap p p' → stands_for p ≡ stands_for p'
same_stands p p' same =
    sym (λ i. read_map (form_of (same.file.layout i)) (same.head i)
    (told_bytes (same.files i) (string_bytes (same.file.name i))))

if_some : {A : Type 0} (o : Option A) (P Q : A → Type 0) → ((x : A) → P x → Q x) → IfSome o P → IfSome o Q
if_some None P Q f p = tt
if_some (Some x) P Q f p = f x p

all_some : {A : Type 0} (o : Option A) (Q : A → Type 0) → ((x : A) → Q x) → IfSome o Q
all_some None Q f = tt
all_some (Some x) Q f = f x

-- ---- behind the bytes of a proof

-- whatever is said of them and of a map
module _ (map : List ℕ) (said_on : Opened → Outcome) (old new : Shelved) (s : MapModel)
    (files : new.files ≡ old.files) (faults : old.faults ≤ new.faults) where
  -- all but what was read
  at_end : (said : Outcome) (result : Result Ending Halt) → said.written ≡ Nothing → new.faults ≡ old.faults
      → IsEndingOrHalt said result → ComesBut (comes said) old new result
  at_end said result writes quiet gives =
      subst (λ w. RunsPlan (comes said) w new result) (with_same new.reads old new files quiet)
      (comes_but said new new result (comes_given said new result writes gives))

  halted : (said : Outcome) (halt : Halt) → said.written ≡ Nothing → StopsCommand old new halt
      → ComesBut (comes said) old new (Err halt)
  halted said halt writes stops = record {
    counts = record { faults = faults; reads = omega arith };
    judged = tt;
    came = (
      stops_with new.reads old new halt stops,
      subst (λ w. MayLeave w old.files new.files) (sym writes) files,
    );
    outside = tt;
    quiet = tt;
    few = few_none old.files said new.reads new.reads refl;
  }

  -- what was found is said
  pub said_told : (said : Outcome) (result : Result Ending Halt)
      → IfSome s.tree (λ t. said ≡ said_on (map_at s t)) → said.written ≡ Nothing → new.faults ≡ old.faults
      → IsEndingOrHalt said result → IfSome s.tree (λ t. ComesBut (comes (said_on (map_at s t))) old new result)
  said_told said result is writes quiet gives =
      if_some s.tree (λ t. said ≡ said_on (map_at s t)) (λ t. ComesBut (comes (said_on (map_at s t))) old new result)
      (λ t same. subst (λ said. ComesBut (comes said) old new result) same (at_end said result writes quiet gives)) is

  -- a node of the map was not fetched
  pub unfetched_told : ((m : Opened) → (said_on m).written ≡ Nothing) → (e : NodesErr) (result : Result Ending Halt)
      → HasSomeCause s old.faults new.faults e → SaysRefusal map (of_nodes e) result
      → IfSome s.tree (λ t. ComesBut (comes (said_on (map_at s t))) old new result)
  unfetched_told writes e result cause says = by_tree s.tree refl
    where
      by_tree : (o : Option Tree) → s.tree ≡ o
          → IfSome o (λ t. ComesBut (comes (said_on (map_at s t))) old new result)
      by_tree None told = tt
      by_tree (Some t) told =
          let stop = fetch_stopped map s t e old new result told cause says in
          subst (ComesBut (comes (said_on (map_at s t))) old new) (sym stop.is)
          (halted (said_on (map_at s t)) stop.halt (writes (map_at s t)) stop.stops)

pub unfetched_untold : (hash : List ℕ → List ℕ) (map : List ℕ) (may_say : Outcome → Type 0) (old new : Shelved)
    (s : MapModel) → ((said : Outcome) → IsRefused hash map said → may_say said) → new.files ≡ old.files
    → (e : NodesErr) (result : Result Ending Halt) → HasSomeCause s old.faults new.faults e
    → SaysRefusal map (of_nodes e) result → SaysUntold may_say old new result
unfetched_untold hash map may_say old new s may files e result cause says =
    says_refused hash may_say map may old new files (of_nodes e) result (fetch_blamed hash s e old new cause) says

-- of an answer
module _ (hash : List ℕ → List ℕ) (map : List ℕ) (q : Query) (proof bytes : List ℕ) (old new : Shelved) (s : MapModel)
    (files : new.files ≡ old.files) (faults : old.faults ≤ new.faults) where
  pub found_told : (f : Finding) (result : Result Ending Halt)
      → IfSome s.tree (λ t. f ≡ found (by s.version hash) t s.batch q bytes) → new.faults ≡ old.faults
      → IsEndingOrHalt (say_finding (proof_version bytes) f) result
      → IfSome s.tree (λ t. ComesBut (comes (say_audit_of hash q (map_at s t) bytes)) old new result)
  found_told f result is quiet gives =
      said_told map (λ m. say_audit_of hash q m bytes) old new s files faults (say_finding (proof_version bytes) f)
      result
      (if_some s.tree (λ t. f ≡ found (by s.version hash) t s.batch q bytes)
      (λ t. say_finding (proof_version bytes) f ≡ say_audit_of hash q (map_at s t) bytes)
      (λ t same. says_finding hash q (map_at s t) bytes f same) is)
      (finding_writes (proof_version bytes) f) quiet gives

  pub found_untold : (top : Top) (f : Finding) (result : Result Ending Halt) → AreBytes bytes
      → FindsFor hash s top q bytes f
      → ShowsCollision hash f → new.faults ≡ old.faults
      → IsEndingOrHalt (say_finding (proof_version bytes) f) result
      → SaysUntold (MaySayAudit hash map q proof) old new result
  found_untold top f result are judged collides quiet gives =
      says_given (MaySayAudit hash map q proof) (say_finding (proof_version bytes) f) old new
      (inr (inr (bytes, f, record { stands = s; top = top; are = are; judged = judged; collides = collides }, refl)))
      (finding_writes (proof_version bytes) f) files quiet result gives

-- of a count
module _ (hash : List ℕ → List ℕ) (map : List ℕ) (way : Key → Way) (proof bytes : List ℕ) (old new : Shelved)
    (s : MapModel)
    (files : new.files ≡ old.files) (faults : old.faults ≤ new.faults) where
  pub count_found_told : (f : ChoiceFinding) (result : Result Ending Halt)
      → IfSome s.tree (λ t. f ≡ count_found (by s.version hash) t s.batch way bytes) → new.faults ≡ old.faults
      → IsEndingOrHalt (say_count_finding way f) result
      → IfSome s.tree (λ t. ComesBut (comes (say_audit_count_of hash way (map_at s t) bytes)) old new result)
  count_found_told f result is quiet gives =
      said_told map (λ m. say_audit_count_of hash way m bytes) old new s files faults (say_count_finding way f) result
      (if_some s.tree (λ t. f ≡ count_found (by s.version hash) t s.batch way bytes)
      (λ t. say_count_finding way f ≡ say_audit_count_of hash way (map_at s t) bytes)
      (λ t same. says_count_finding hash way (map_at s t) bytes f same) is)
      (count_finding_writes way f) quiet gives

  pub count_found_untold : (top : Top) (f : ChoiceFinding) (result : Result Ending Halt) → AreBytes bytes
      → choices.FindsForChoice hash s top count_letter way bytes f → choices.ShowsCollision hash f
      → new.faults ≡ old.faults → IsEndingOrHalt (say_count_finding way f) result
      → SaysUntold (MaySayAuditCount hash map way proof) old new result
  count_found_untold top f result are judged collides quiet gives =
      says_given (MaySayAuditCount hash map way proof) (say_count_finding way f) old new
      (inr (inr (bytes, f, record { stands = s; top = top; are = are; judged = judged; collides = collides }, refl)))
      (count_finding_writes way f) files quiet result gives

-- ---- behind the file of a proof

pub reads_both : (n : ℕ) (name : List ℕ) (before after : Shelved) (bytes : Vec ℕ)
    → ReadsInput name before after (Ok bytes) → ReadsInput name (with_reads n before) (with_reads n after) (Ok bytes)
reads_both n name before after bytes got = record {
  counts = record { faults = got.counts.faults; reads = omega arith };
  files = got.files;
  read = got.read;
  once = once_none before.files name n;
}

pub reads_but : (name : List ℕ) (before after : Shelved) (came : Result Ending Halt)
    → ReadsInput name before after (Err came) → ReadsInput name (with_reads after.reads before) after (Err came)
reads_but name before after came got = record {
  counts = record { faults = got.counts.faults; reads = omega arith };
  files = got.files;
  read = same came got.read;
  once = once_none before.files name after.reads;
}
  where
    same : (came : Result Ending Halt) → IsUnread name before after came
        → IsUnread name (with_reads after.reads before) after came
    same (Ok ending) read = read
    same (Err halt) read = stops_with after.reads before after halt read

-- what may be said of a file that is not told and was not read
pub says_unread : (may_say : Outcome → Type 0) (name : List ℕ) (before after : Shelved) (came : Result Ending Halt)
    → may_say (says_missing name) → before.files ≡ None → ReadsInput name before after (Err came)
    → SaysUntold may_say before after came
says_unread may_say name before after (Ok ending) may none got = (
  says_missing name,
  may,
  got.read.2,
  got.read.3,
  got.files,
  λ outside. elim got.read.1 [
    | inl rose ↦ rose
    | inr absent ↦ absurd (subst (λ o. IsAbsent o name) none absent)
  ],
  λ settled. absurd (settled.0 got.read.2),
)
says_unread may_say name before after (Err halt) may none got = (got.read, got.files)

-- from before a step that counted no fault
stops_before : (old mid new : Shelved) (halt : Halt) → mid.faults ≡ old.faults → StopsCommand mid new halt
    → StopsCommand old new halt
stops_before old mid new halts.Words faults stops = stops
stops_before old mid new halts.Shelf faults stops = subst (λ n. Rose n new.faults) faults stops
stops_before old mid new halts.NoMemory faults stops = stops

pub untold_from : (may_say : Outcome → Type 0) (old mid new : Shelved) (result : Result Ending Halt)
    → mid.files ≡ old.files → mid.faults ≡ old.faults → SaysUntold may_say mid new result
    → SaysUntold may_say old new result
untold_from may_say old mid new (Ok ending) files faults says = (
  says.0,
  says.1,
  says.2,
  says.3,
  subst (λ o. LeavesWritten says.0.written o new.files) files says.4,
  λ outside. subst (λ n. Rose n new.faults) faults (says.5 outside),
  λ settled. says.6 settled ∙ faults,
)
untold_from may_say old mid new (Err halt) files faults says =
    (stops_before old mid new halt faults says.0, says.1 ∙ files)

-- ---- how many reads

module _ (hash : List ℕ → List ℕ) (opened_nodes : Opens) (s : MapModel) (pages : ℕ) (proof : List ℕ)
    (old mid new : Shelved) where
  -- the proof, and what is read of the map beside it
  pub read_beside : (bytes : Vec ℕ) → ReadsInput proof old mid (Ok bytes)
      → ReadsOpened hash opened_nodes s pages bytes.items mid new → ReadsBeside hash opened_nodes s pages proof old new
  read_beside bytes is opened =
      if_some s.tree (λ t. (new.reads ≡ mid.reads) ⊎ ((room + 1 < pages)
      × (new.reads ≤ mid.reads + opened_nodes (by s.version hash) t s.batch bytes.items)))
      (λ t. OfFiles old.files (λ files.
      IsBeside opened_nodes (by s.version hash) t s.batch pages (file files proof) old.reads new.reads))
      (λ t. by_files t old.files is.read.0 is.once) opened
    where
      by_files : (t : Tree) (o : Option Files) → IsInput o proof (Some bytes.items)
          → OnceFrom o proof old.reads mid.reads
          → (new.reads ≡ mid.reads) ⊎ ((room + 1 < pages)
          × (new.reads ≤ mid.reads + opened_nodes (by s.version hash) t s.batch bytes.items))
          → OfFiles o (λ files.
          IsBeside opened_nodes (by s.version hash) t s.batch pages (file files proof) old.reads new.reads)
      by_files t None input once opened = tt
      by_files t (Some files) input once (inl same) = inl (omega (arith, once, same))
      by_files t (Some files) input once (inr large) =
          let here = ap (opened_beside opened_nodes (by s.version hash) t s.batch) input in
          inr (large.0, omega (arith, once, large.1, here))

  -- nothing is read beside it
  pub alone_beside : (result : Result (Vec ℕ) (Result Ending Halt)) → ReadsInput proof old new result
      → ReadsBeside hash opened_nodes s pages proof old new
  alone_beside result got =
      all_some s.tree (λ t. OfFiles old.files (λ files.
      IsBeside opened_nodes (by s.version hash) t s.batch pages (file files proof) old.reads new.reads))
      (λ t. by_files t old.files got.once)
    where
      by_files : (t : Tree) (o : Option Files) → OnceFrom o proof old.reads new.reads
          → OfFiles o (λ files.
          IsBeside opened_nodes (by s.version hash) t s.batch pages (file files proof) old.reads new.reads)
      by_files t None once = tt
      by_files t (Some files) once = inl once

-- ---- what is said

module _ (said : Opened → List ℕ → Outcome) (may_say : Outcome → Type 0) (proof : List ℕ) (old mid new : Shelved)
    (s : MapModel) where
  abbrev said_of : Tree → List ℕ → Outcome
  said_of t bytes = said (map_at s t) bytes

  pub read_told : (bytes : Vec ℕ) (result : Result Ending Halt) → ReadsInput proof old mid (Ok bytes)
      → IfSome s.tree (λ t. ComesBut (comes (said_of t bytes.items)) mid new result)
      → IfSome s.tree (λ t. ComesBut (needs proof (λ b. comes (said_of t b))) old new result)
  read_told bytes result got on =
      if_some s.tree (λ t. ComesBut (comes (said_of t bytes.items)) mid new result)
      (λ t. ComesBut (needs proof (λ b. comes (said_of t b))) old new result)
      (λ t on. goes_needed proof (λ b. comes (said_of t b)) (with_reads new.reads old) (with_reads new.reads mid)
      (says_bytes (said_of t) old.files) (Ok bytes) (reads_both new.reads proof old mid bytes got) new result on) on

  pub read_untold : (bytes : Vec ℕ) (result : Result Ending Halt) → ReadsInput proof old mid (Ok bytes)
      → SaysUntold may_say mid new result → SaysUntold may_say old new result
  read_untold bytes result got says = untold_from may_say old mid new result got.files got.read.2 says

  -- where it was not read
  pub unread_told : (came : Result Ending Halt) → ReadsInput proof old new (Err came)
      → IfSome s.tree (λ t. ComesBut (needs proof (λ b. comes (said_of t b))) old new came)
  unread_told came got =
      all_some s.tree (λ t. ComesBut (needs proof (λ b. comes (said_of t b))) old new came)
      (λ t. goes_needed proof (λ b. comes (said_of t b)) (with_reads new.reads old) new
      (says_bytes (said_of t) old.files) (Err came) (reads_but proof old new came got))

  pub unread_untold : may_say (says_missing proof) → (came : Result Ending Halt) → ReadsInput proof old new (Err came)
      → old.files ≡ None → SaysUntold may_say old new came
  unread_untold may came got none = says_unread may_say proof old new came may none got

-- ---- the whole of it

pub auditing_unopened : (hash : List ℕ → List ℕ) (map : List ℕ) (opened_nodes : Opens) (proof : List ℕ)
    (before after : Shelved)
    → OfFile before.files map (after.reads ≡ before.reads) (λ bytes. after.reads ≤ before.reads + pages_in bytes)
    → ReadsWithinPlan (AllowsAudit hash map opened_nodes proof) before after
auditing_unopened hash map opened_nodes proof before after few =
    few_refused before.files map before.reads after.reads
    (λ files bytes n. IsFewBeside hash opened_nodes bytes (file files proof) n) (λ files bytes. inl (omega arith)) few

module _ {S H : Type 0} {G : shelves.Ghosts S} {K : hashes.Ghosts H} (hash : List ℕ → List ℕ)
    (sized : (xs : List ℕ) → length (hash xs) ≡ 32) (map : List ℕ) (opened_nodes : Opens)
    (said : Opened → List ℕ → Outcome) (may : Outcome → Type 0) (proof : List ℕ)
    (before end : Shelved) (p : Paged S H G K) (o : OpensMap hash map before p)
    (counts : NoneFalls (shelved p) end)
    (beside : ReadsBeside hash opened_nodes (stands_for p) p.head.pages proof (shelved p) end) where
  abbrev on_map : Opened → Plan
  on_map m = needs proof (λ bytes. comes (said m bytes))

  abbrev plan : Plan
  plan = needs_beside hash map proof said

  abbrev allows : Files → ℕ → Type 0
  allows = AllowsAudit hash map opened_nodes proof

  abbrev s : MapModel
  s = stands_for p

  abbrev mid : Shelved
  mid = shelved p

  few_audited : (files : Files) → before.files ≡ Some files → HasMap hash sized map before s mid
      → ReadsWithinPlan allows before end
  few_audited files told has =
      let is = counted hash sized map before p o files told has in
      few_there before.files files map has.bytes before.reads end.reads
      (λ files bytes n. IsFewBeside hash opened_nodes bytes (file files proof) n) told has.input
      (few_beside hash opened_nodes p.head.pages has.bytes (file files proof) before.reads mid.reads end.reads has.tree
      s.batch is.stands is.pages is.few
      (subst (λ v. IsBeside opened_nodes (by v hash) has.tree s.batch p.head.pages (file files proof) mid.reads
      end.reads)
      (sym is.own)
      (subst (λ o. OfFiles o (λ files. IsBeside opened_nodes (by s.version hash) has.tree s.batch p.head.pages
      (file files proof) mid.reads end.reads))
      (o.files ∙ told)
      (subst (λ o. IfSome o (λ t. OfFiles mid.files (λ files. IsBeside opened_nodes (by s.version hash) t s.batch
      p.head.pages (file files proof) mid.reads end.reads))) has.told beside))))

  pub audited : ((said : Outcome) → IsRefused hash map said → may said) → (result : Result Ending Halt)
      → IfSome s.tree (λ t. ComesBut (on_map (map_at s t)) mid end result)
      → (mid.files ≡ None → SaysUntold may mid end result)
      → ComesAsSaid plan may allows before end result
  audited may_refuse result told_so untold_so = by_files before.files refl
    where
      all : NoneFalls before end
      all = record { faults = omega (arith, o.quiet, counts.faults); reads = omega (arith, o.more, counts.reads) }

      by_files : (f : Option Files) → before.files ≡ f
          → ComesAsSaid plan may allows before end result
      by_files None none =
          comes_untold plan may allows before end none (says_missing map, may_refuse (says_missing map) (inl refl))
          result all (untold_from may before mid end result o.files o.quiet (untold_so (o.files ∙ none)))
      by_files (Some files) told =
          let w = was_opened hash map before p o in
          let has = has_map hash sized map before s mid w files told in
          comes_told plan may allows before end files told result all.reads
          (few_audited files told has)
          (told_on hash sized map before s mid w on_map
          (λ m. judged_needs proof (said m) before.files) has end result
          (subst (λ o. IfSome o (λ t. ComesBut (on_map (map_at s t)) mid end result)) has.told told_so))
