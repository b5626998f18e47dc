-- What a command comes to that reads a map page by page: over files that are told what its plan says, over others what
-- may be said.
use Rattle.std.proofs.Common.{◌⊎◌, ◌≡◌, ℕ, ◌+◌, ◌≤◌, List, refl, sym, subst, ◌∙◌, inl, inr, arith}
use Rattle.std.specs.Prelude.{⊤, Option, Some, None, IsNone, IsSome, Result, Ok, Err}
use Rattle.mr_outside.specs.Faults.{Rose}
use Rattle.mr_outside.specs.Files.{Files}
use Rattle.mr_outside.specs.State.{Shelved}
use Rattle.mr_outside.specs.Told.{OfFiles}
use Rattle.mr_tree.specs.Nodes.{MapModel, HasSomeCause}
use Rattle.mr_tree.specs.declared.nodes.NodesErr.{NodesErr}
use Rattle.mr_tree.specs.declared.nodes.NodesErr.TheVariants as nodes
use Rattle.mr_tree.specs.declared.tree.Tree.{Tree}
use Rattle.mr_pages.specs.declared.error.MapErr.{MapErr}
use Rattle.mr_pages.specs.declared.error.MapErr.TheVariants as errors
use Rattle.mr_pages.specs.declared.rule.MapFault.{MapFault}
use Rattle.mr_pages.specs.declared.rule.MapRule.TheVariants as rule
use Rattle.mr_command.specs.Counting.{AllowsReads, MayRead, ReadsWithinPlan}
use Rattle.mr_command.specs.Answer.{ChangesInPlace}
use Rattle.mr_command.specs.Ending.{RunsPlan, ComesAsSaid, Came, CameAsSaid, EndsPlan, EndsAsSaid, IsEndingOrHalt, GivesUpPlan, GivesUpAsSaid, AreJudged, BlamesOutside, ComesLoudly, IsCalm, IsCarriedOut, NoneFalls, StopsCommand, printed_of}
use Rattle.mr_command.specs.private.Steps.{ComesBut, with_reads, SaysRefusal, SaysUntold}
use Rattle.mr_pages.specs.Opening.{of_nodes}
use Rattle.mr_plan.specs.Found.{bad_map_line}
use Rattle.mr_plan.specs.Outcome.{Outcome, Nothing, LeavesWritten, MayLeave}
use Rattle.mr_plan.specs.Plan.{Plan, comes, LacksInput, LeadsToOutcome}
use Rattle.mr_plan.specs.Say.{ends, say, says_missing}
use Rattle.mr_plan.specs.Spelling.{AsksAs}
use Rattle.mr_plan.specs.Untold.{IsSomeFault, IsRefused, MaySayUntold}
use Rattle.mr_plan.specs.declared.words.Command.{Command}
use Rattle.mr_plan.specs.declared.words.Command.TheVariants as commands
use Rattle.mr_command.specs.declared.ending.Ending.{Ending}
use Rattle.mr_command.specs.declared.ending.Halt.{Halt}
use Rattle.mr_command.specs.declared.ending.Halt.TheVariants as halts
use Rattle.mr_plan.specs.declared.status.Status.TheVariants.{BadMap}
use Rattle.mr_plan.proofs.Asking.{as_words, asks_on}
use Rattle.mr_command.proofs.Counting.{few_none}
use Rattle.mr_command.proofs.Plans.{ended_so, lacks_none, last_leaves, leads_on, up_none}

-- ---- another count of reads

pub stops_with : (n : ℕ) (before after : Shelved) (halt : Halt) → StopsCommand before after halt
    → StopsCommand (with_reads n before) after halt
stops_with n before after halts.Words stops = stops
stops_with n before after halts.Shelf stops = stops
stops_with n before after halts.NoMemory stops = stops

stops_from : (n : ℕ) (before after : Shelved) (halt : Halt) → StopsCommand (with_reads n before) after halt
    → StopsCommand before after halt
stops_from n before after halts.Words stops = stops
stops_from n before after halts.Shelf stops = stops
stops_from n before after halts.NoMemory stops = stops

module _ (plan : Plan) (n : ℕ) (before after : Shelved) where
  came_with : (result : Result Ending Halt) → Came plan before after result
      → Came plan (with_reads n before) after result
  came_with (Ok ending) came = came
  came_with (Err halt) came = (stops_with n before after halt came.0, came.1)

  blames_with : (result : Result Ending Halt) → BlamesOutside plan before after result
      → BlamesOutside plan (with_reads n before) after result
  blames_with (Ok ending) blames = blames
  blames_with (Err halt) blames = tt

  calm_with : (result : Result Ending Halt) → IsCalm before after result → IsCalm (with_reads n before) after result
  calm_with (Ok ending) calm = calm
  calm_with (Err halt) calm = tt

-- the last step, which reads nothing
pub comes_but : (said : Outcome) (before after : Shelved) (result : Result Ending Halt)
    → RunsPlan (comes said) before after result → ComesBut (comes said) before after result
comes_but said before after result on = record {
  counts = record { faults = on.counts.faults; reads = omega arith };
  judged = tt;
  came = came_with (comes said) after.reads before after result on.came;
  outside = blames_with (comes said) after.reads before after result on.outside;
  quiet = calm_with (comes said) after.reads before after result on.quiet;
  few = few_none before.files said after.reads after.reads refl;
}

-- ---- over files that are told

module _ (plan : Plan) (may : Outcome → Type 0) (allows : Files → ℕ → Type 0) (before after : Shelved) where
  module _ (files : Files) (told : before.files ≡ Some files) where
    told_came : (result : Result Ending Halt) → Came plan (with_reads after.reads before) after result
        → CameAsSaid plan may before after result
    told_came (Ok ending) came =
        subst (λ o. EndsAsSaid plan may o after.files ending.status (printed_of ending)) (sym told)
        (subst (λ o. EndsPlan plan o after.files ending.status (printed_of ending)) told came)
    told_came (Err halt) came = (
      stops_from after.reads before after halt came.0,
      subst (λ o. GivesUpAsSaid plan may o after.files) (sym told)
          (subst (λ o. GivesUpPlan plan o after.files) told came.1),
    )

    told_blames : (result : Result Ending Halt) → BlamesOutside plan (with_reads after.reads before) after result
        → BlamesOutside plan before after result
    told_blames (Ok ending) blames = blames
    told_blames (Err halt) blames = tt

    told_calm : (result : Result Ending Halt) → IsCalm (with_reads after.reads before) after result
        → IsCalm before after result
    told_calm (Ok ending) calm = calm
    told_calm (Err halt) calm = tt

    pub comes_told : (result : Result Ending Halt) → before.reads ≤ after.reads → ReadsWithinPlan allows before after
        → ComesBut plan before after result → ComesAsSaid plan may allows before after result
    comes_told result reads few on = record {
      counts = record { faults = on.counts.faults; reads = reads };
      judged = subst (λ o. OfFiles o (λ files. AreJudged plan (Some files))) (sym told)
          (subst (AreJudged plan) told on.judged);
      came = told_came result on.came;
      outside = told_blames result on.outside;
      quiet = told_calm result on.quiet;
      few = few;
    }

  -- ---- over files that are not

  module _ (none : before.files ≡ None) (some : (said : Outcome) × may said) where
    untold_came : (result : Result Ending Halt) → SaysUntold may before after result
        → CameAsSaid plan may before after result
    untold_came (Ok ending) says =
        subst (λ o. EndsAsSaid plan may o after.files ending.status (printed_of ending)) (sym none)
        (says.0, says.1, says.2, says.3, subst (λ o. LeavesWritten says.0.written o after.files) none says.4)
    untold_came (Err halt) says =
        (says.0, subst (λ o. GivesUpAsSaid plan may o after.files) (sym none) ((says.1 ∙ none), some))

    untold_blames : (result : Result Ending Halt) → SaysUntold may before after result
        → BlamesOutside plan before after result
    untold_blames (Ok ending) says = λ outside. inl (says.5 outside)
    untold_blames (Err halt) says = tt

    untold_calm : (result : Result Ending Halt) → SaysUntold may before after result → IsCalm before after result
    untold_calm (Ok ending) says = says.6
    untold_calm (Err halt) says = tt

    pub comes_untold : (result : Result Ending Halt) → NoneFalls before after → SaysUntold may before after result
        → ComesAsSaid plan may allows before after result
    comes_untold result counts says = record {
      counts = counts;
      judged = subst (λ o. OfFiles o (λ files. AreJudged plan (Some files))) (sym none) tt;
      came = untold_came result says;
      outside = untold_blames result says;
      quiet = untold_calm result says;
      few = subst (λ o. OfFiles o (λ files. (n : ℕ) × (after.reads ≤ before.reads + n) × allows files n))
          (sym none) tt;
    }

-- the last step is what may be said
pub says_last : (may_say : Outcome → Type 0) (said : Outcome) (before between after : Shelved)
    (result : Result Ending Halt) → may_say said → before.files ≡ None → between.files ≡ before.files
    → between.faults ≡ before.faults
    → RunsPlan (comes said) between after result → SaysUntold may_say before after result
says_last may_say said before between after (Ok ending) may none files faults on = (
  said,
  may,
  on.came.0,
  on.came.1,
  subst (λ o. LeavesWritten said.written o after.files) files on.came.2,
  λ outside. elim (on.outside outside) [
    | inl rose ↦ subst (λ n. Rose n after.faults) faults rose
    | inr lacks ↦ absurd lacks
  ],
  λ settled. on.quiet settled ∙ faults,
)
says_last may_say said before between after (Err halt) may none files faults on = (
  stops_after halt on.came.0,
  last_leaves said.written before.files after.files none
      (subst (λ o. MayLeave said.written o after.files) files on.came.1),
)
  where
    stops_after : (halt : Halt) → StopsCommand between after halt → StopsCommand before after halt
    stops_after halts.Words stops = stops
    stops_after halts.Shelf stops = subst (λ n. Rose n after.faults) faults stops
    stops_after halts.NoMemory stops = stops

-- the same of an outcome that writes no file, where no fault was counted
pub says_given : (may_say : Outcome → Type 0) (said : Outcome) (before after : Shelved) → may_say said
    → said.written ≡ Nothing → after.files ≡ before.files → after.faults ≡ before.faults
    → (result : Result Ending Halt) → IsEndingOrHalt said result → SaysUntold may_say before after result
says_given may_say said before after may writes files quiet (Ok ending) gives = (
  said,
  may,
  gives.status,
  gives.printed,
  subst (λ w. LeavesWritten w before.files after.files) (sym writes) files,
  λ outside. absurd (gives.settled.0 outside),
  λ settled. quiet,
)
says_given may_say said before after may writes files quiet (Err halt) is =
    (subst (StopsCommand before after) (sym is) tt, files)

-- ---- a command that is its plan over any files

module _ (plan : Plan) (before after : Shelved) where
  but_reads : (result : Result Ending Halt) → RunsPlan plan before after result → ComesBut plan before after result
  but_reads result on = record {
    counts = record { faults = on.counts.faults; reads = omega arith };
    judged = on.judged;
    came = came_with plan after.reads before after result on.came;
    outside = blames_with plan after.reads before after result on.outside;
    quiet = calm_with plan after.reads before after result on.quiet;
    few = at_end before.files on.few;
  }
    where
      at_end : (o : Option Files)
          → OfFiles o (λ files. (n : ℕ) × (after.reads ≤ before.reads + n) × AllowsReads plan files n)
          → OfFiles o (λ files. (n : ℕ) × (after.reads ≤ after.reads + n) × AllowsReads plan files n)
      at_end None few = tt
      at_end (Some files) few = (few.0, omega arith, few.2)

  -- what it says over files that are not told
  says_plan : (result : Result Ending Halt) → before.files ≡ None → RunsPlan plan before after result
      → SaysUntold (LeadsToOutcome plan None) before after result
  says_plan (Ok ending) none on =
      let so = ended_so plan None after.files ending.status (printed_of ending)
      (subst (λ o. EndsPlan plan o after.files ending.status (printed_of ending)) none on.came) in (
        so.said,
        so.leads,
        so.status_is,
        so.text_is,
        subst (λ o. LeavesWritten so.said.written o after.files) (sym none) so.files,
        λ outside. elim (on.outside outside) [
          | inl rose ↦ rose
          | inr lacks ↦ absurd (lacks_none plan (subst (LacksInput plan) none lacks))
        ],
        on.quiet,
      )
  says_plan (Err halt) none on =
      (on.came.0, up_none plan after.files (subst (λ o. GivesUpPlan plan o after.files) none on.came.1) ∙ sym none)

  pub comes_plain : (may : Outcome → Type 0) (allows : Files → ℕ → Type 0) (result : Result Ending Halt)
      → ((said : Outcome) → LeadsToOutcome plan None said → may said)
      → ((files : Files) (n : ℕ) → AllowsReads plan files n → allows files n)
      → RunsPlan plan before after result → ComesAsSaid plan may allows before after result
  comes_plain may allows result says few on = by_files before.files refl
    where
      few_so : (o : Option Files)
          → OfFiles o (λ files. (n : ℕ) × (after.reads ≤ before.reads + n) × AllowsReads plan files n)
          → OfFiles o (λ files. (n : ℕ) × (after.reads ≤ before.reads + n) × allows files n)
      few_so None allowed = tt
      few_so (Some files) allowed = (allowed.0, allowed.1, few files allowed.0 allowed.2)

      may_so : (result : Result Ending Halt) → SaysUntold (LeadsToOutcome plan None) before after result
          → SaysUntold may before after result
      may_so (Ok ending) so = (so.0, says so.0 so.1, so.2, so.3, so.4, so.5, so.6)
      may_so (Err halt) so = so

      by_files : (o : Option Files) → before.files ≡ o → ComesAsSaid plan may allows before after result
      by_files None none =
          let some = leads_on plan None (subst (AreJudged plan) none on.judged) in
          comes_untold plan may allows before after none (some.0, says some.0 some.1) result on.counts
          (may_so result (says_plan result none on))
      by_files (Some files) told =
          comes_told plan may allows before after files told result on.counts.reads (few_so before.files on.few)
          (but_reads result on)

-- ---- a command with the same words

-- what goes by the words of a command
abbrev CarriesOut : (List ℕ → List ℕ) → Shelved → Shelved → Result Ending Halt → Option Command → Type 0
CarriesOut hash before after result None = Unit {0}
CarriesOut hash before after result (Some c) = IsCarriedOut hash c before after result

module _ (hash : List ℕ → List ℕ) (before after : Shelved) (result : Result Ending Halt) where
  to_words : (c : Command) → IsCarriedOut hash c before after result → IsCarriedOut hash (as_words c) before after
      result
  to_words (commands.Root records) on = on
  to_words c on = on

  from_words : (c : Command) → IsCarriedOut hash (as_words c) before after result → IsCarriedOut hash c before after
      result
  from_words (commands.Root records) on = on
  from_words c on = on

pub carried_alike : (hash : List ℕ → List ℕ) (a b : Command) (before after : Shelved) (result : Result Ending Halt)
    → AsksAs (Some a) (Some b) → IsCarriedOut hash b before after result → IsCarriedOut hash a before after result
carried_alike hash a b before after result =
    asks_on (CarriesOut hash before after result) (to_words hash before after result)
    (from_words hash before after result) (Some a) (Some b)

-- ---- a command that may seek a file which is absent

pub loudly : (plan : Plan) (may : Outcome → Type 0) (allows : Files → ℕ → Type 0) (before after : Shelved)
    (result : Result Ending Halt) → ComesAsSaid plan may allows before after result
    → ComesLoudly plan may allows before after result
loudly plan may allows before after result on = record {
  counts = on.counts;
  judged = on.judged;
  came = on.came;
  outside = on.outside;
  quiet = λ some. on.quiet;
  few = on.few;
}

-- a command comes to what is said of it, whatever it counts
abbrev pub IsCarriedLoudly : (List ℕ → List ℕ) → Command → Shelved → Shelved → Result Ending Halt → Type 0
IsCarriedLoudly hash c before after result =
    ComesLoudly (say hash (Some c)) (MaySayUntold hash (Some c)) (MayRead hash (Some c)) before after result

module _ (hash : List ℕ → List ℕ) (before after : Shelved) (result : Result Ending Halt) where
  pub loud_of : (c : Command) → IsCarriedOut hash c before after result → IsCarriedLoudly hash c before after result
  loud_of (commands.ApplyHere map batch) on = on
  loud_of (commands.Recover map) on = on
  loud_of (commands.Root records) on =
      let c : Command = commands.Root records in
      loudly (say hash (Some c)) (MaySayUntold hash (Some c)) (MayRead hash (Some c)) before after result on
  loud_of c on = loudly (say hash (Some c)) (MaySayUntold hash (Some c)) (MayRead hash (Some c)) before after result on

  told_or : (told : Option Files) (P Q : Type 0) → P → (IsSome told → Q) → (P × (told ≡ None)) ⊎ Q
  told_or None P Q p q = inl (p, refl)
  told_or (Some files) P Q p q = inr (q refl)

  pub calm_of : (c : Command) → IsCarriedOut hash c before after result
      → (ChangesInPlace c × (before.files ≡ None)) ⊎ IsCalm before after result
  calm_of (commands.ApplyHere map batch) on = told_or before.files ⊤ (IsCalm before after result) tt on.quiet
  calm_of (commands.Recover map) on = told_or before.files ⊤ (IsCalm before after result) tt on.quiet
  calm_of (commands.Root records) on = inr on.quiet
  calm_of c on = inr on.quiet

-- ---- a refusal

-- why a map is refused: its causes, and what is settled counts no fault
pub record IsBlamed (hash : List ℕ → List ℕ) (before after : Shelved) (error : MapErr) : Type 0 where
  pub missing : error ≡ errors.Missing → Rose before.faults after.faults
  pub fault : error ≡ errors.Fault → Rose before.faults after.faults
  pub map : (f : MapFault) → error ≡ errors.Map f → IsSomeFault hash f × (after.faults ≡ before.faults)

module _ (hash : List ℕ → List ℕ) (may_say : Outcome → Type 0) (map : List ℕ)
    (may : (said : Outcome) → IsRefused hash map said → may_say said)
    (before after : Shelved) (same : after.files ≡ before.files) where
  memory_out : (halt : Halt) → halt ≡ halts.NoMemory → SaysUntold may_say before after (Err halt)
  memory_out halt is = (subst (StopsCommand before after) (sym is) tt, same)

  pub says_refused : (error : MapErr) (result : Result Ending Halt) → IsBlamed hash before after error
      → SaysRefusal map error result → SaysUntold may_say before after result
  says_refused (errors.Map f) (Ok ending) why says =
      let is = why.map f refl in (
        ends BadMap (bad_map_line f),
        may (ends BadMap (bad_map_line f)) (inr (f, is.0, refl)),
        says.status,
        says.printed,
        same,
        λ outside. absurd (says.settled.0 outside),
        λ settled. is.1,
      )
  says_refused (errors.Map f) (Err halt) why says = memory_out halt says
  says_refused errors.Missing (Ok ending) why says = (
    says_missing map,
    may (says_missing map) (inl refl),
    says.0,
    says.1,
    same,
    λ outside. why.missing refl,
    λ settled. absurd (settled.0 says.0),
  )
  says_refused errors.Missing (Err halt) why says = memory_out halt says
  says_refused errors.Fault result why says =
      subst (SaysUntold may_say before after) (sym says) (why.fault refl, same)
  says_refused errors.NoMemory result why says = subst (SaysUntold may_say before after) (sym says) (tt, same)

fault_is : (f g : MapFault) → ◌≡◌ {A = MapErr} (errors.Map f) (errors.Map g) → f ≡ g
fault_is f g is = cc

pub page_blamed : (hash : List ℕ → List ℕ) (f : MapFault) (before after : Shelved) → IsSomeFault hash f
    → after.faults ≡ before.faults → IsBlamed hash before after (errors.Map f)
page_blamed hash f before after some same = record {
  missing = λ is. absurd (cc);
  fault = λ is. absurd (cc);
  map = λ g is. subst (λ (h : MapFault). IsSomeFault hash h × (after.faults ≡ before.faults)) (fault_is f g is)
      (some, same);
}

-- why a node was not fetched
pub fetch_blamed : (hash : List ℕ → List ℕ) (s : MapModel) (e : NodesErr) (before after : Shelved)
    → HasSomeCause s before.faults after.faults e → IsBlamed hash before after (of_nodes e)
fetch_blamed hash s (nodes.Changed page held found) before after cause =
    page_blamed hash (record { page = page; rule = rule.Changed held found }) before after (inr cause.2) cause.3
fetch_blamed hash s (nodes.Page page) before after cause =
    page_blamed hash (record { page = page; rule = rule.Page }) before after (inr tt) cause.2
fetch_blamed hash s (nodes.Outside page) before after cause =
    page_blamed hash (record { page = page; rule = rule.Outside }) before after (inr tt) cause.2
fetch_blamed hash s nodes.Missing before after cause =
    record { missing = λ is. cause.1; fault = λ is. absurd (cc); map = λ f is. absurd (cc) }
fetch_blamed hash s nodes.Fault before after cause =
    record { missing = λ is. absurd (cc); fault = λ is. cause; map = λ f is. absurd (cc) }
fetch_blamed hash s nodes.NoMemory before after cause =
    record { missing = λ is. absurd (cc); fault = λ is. absurd (cc); map = λ f is. absurd (cc) }

none_told : {A : Type 0} (o : Option Tree) (t : Tree) → o ≡ Some t → IsNone o → A
none_told None t told none = absurd (cc)
none_told (Some u) t told none = absurd (cc)

-- of a map that is told, only the store or memory fails
pub record IsStopped (before after : Shelved) (result : Result Ending Halt) : Type 0 where
  pub halt : Halt
  pub is : result ≡ Err halt
  pub stops : StopsCommand before after halt

pub fetch_stopped : (map : List ℕ) (s : MapModel) (t : Tree) (e : NodesErr) (before after : Shelved)
    (result : Result Ending Halt) → s.tree ≡ Some t → HasSomeCause s before.faults after.faults e
    → SaysRefusal map (of_nodes e) result → IsStopped before after result
fetch_stopped map s t (nodes.Changed page held found) before after result told cause says =
    none_told s.tree t told cause.0
fetch_stopped map s t (nodes.Page page) before after result told cause says = none_told s.tree t told cause.0
fetch_stopped map s t (nodes.Outside page) before after result told cause says = none_told s.tree t told cause.0
fetch_stopped map s t nodes.Missing before after result told cause says = none_told s.tree t told cause.0
fetch_stopped map s t nodes.Fault before after result told cause says =
    record { halt = halts.Shelf; is = says; stops = cause }
fetch_stopped map s t nodes.NoMemory before after result told cause says =
    record { halt = halts.NoMemory; is = says; stops = tt }
