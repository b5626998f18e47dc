-- A run, by what its command came to and how that was printed.
use Rattle.std.proofs.Common.{append-nil, ◌≡◌, ℕ, List, [], refl, sym, ap, subst, ◌∙◌, inl, inr}
use Rattle.std.specs.Prelude.{Option, Some, None, ◌⊎◌, Result, Ok, Err}
use Rattle.mr_outside.specs.Files.{Files}
use Rattle.mr_outside.specs.State.{Shelved}
use Rattle.mr_outside.specs.Told.{OfFiles, TakesBytes, TakesFront}
use Rattle.mr_outside.proofs.Taking.{TakesBytes-none}
use Rattle.mr_command.specs.Answer.{World, HasOutsideCause, IsAnswer, IsQuiet, IsSettled, IsStopped, IsWhole, ShelfFailed}
use Rattle.mr_command.specs.Ending.{AreJudged, EndsAsSaid, GivesUpAsSaid, IsCalm, printed_of}
use Rattle.mr_command.specs.private.Steps.{PrintsEnding, PrintsText}
use Rattle.mr_plan.specs.Lines.{bad_words_line, shelf_fault_line}
use Rattle.mr_plan.specs.Outcome.{Outcome, Written, Nothing, File, InPlace, LeavesWritten, MayLeave}
use Rattle.mr_plan.specs.Plan.{Plan, IsOutcomeOver}
use Rattle.mr_plan.specs.Say.{ends, say}
use Rattle.mr_plan.specs.Untold.{MaySay, MaySayUntold}
use Rattle.mr_command.specs.declared.ending.Ending.{Ending}
use Rattle.mr_command.specs.declared.ending.Halt.{Halt}
use Rattle.mr_command.specs.declared.ending.Halt.TheVariants as halts
use Rattle.mr_plan.specs.declared.status.Status.{Status}
use Rattle.mr_plan.specs.declared.status.Status.TheVariants.{BadWords, Outside, NoMemory}
use Rattle.mr_plan.specs.declared.words.Command.{Command}
use Rattle.mr_plan.proofs.InPlace.{mended_may}
use Rattle.mr_command.proofs.Rereading.{IsCarriedLoudly}
use Rattle.mr_command.proofs.Plans.{ended_so, given_up, one_outcome, stays}

-- over files that are told, it is the one that they give
told_said : (hash : List ℕ → List ℕ) (command : Option Command) (told : Option Files) (said : Outcome)
    → OfFiles told (λ files. AreJudged (say hash command) (Some files)) → MaySay hash command told said
    → OfFiles told (λ files. IsOutcomeOver (say hash command) files said)
told_said hash command None said judged leads = tt
told_said hash command (Some files) said judged leads = one_outcome (say hash command) files judged said leads

-- an outcome that may be said is answered
answers : (hash : List ℕ → List ℕ) (command : Option Command) (before after : World)
    → OfFiles before.shelf.files (λ files. AreJudged (say hash command) (Some files)) → (status : Status)
    (said : Outcome) → MaySay hash command before.shelf.files said
    → IsWhole said before after status ⊎ IsStopped said before after status
    → IsAnswer hash command before after status
answers hash command before after judged status said leads answer =
    record {
      said = said;
      leads = leads;
      told = told_said hash command before.shelf.files said judged leads;
      answer = answer;
    }

may_leave : (written : Written) (before after : Option Files) → LeavesWritten written before after
    → MayLeave written before after
may_leave Nothing before after left = left
may_leave (File name content) before after left = inr (left.0, inr left.1, left.2)
may_leave (InPlace map journal held content) before after left = mended_may map journal held content before after left

-- it was printed as it was meant, or a front of it
printed : (said : Outcome) (before after : World) (status meant : Status) (text : List ℕ)
    → meant ≡ said.status → text ≡ said.printed
    → LeavesWritten said.written before.shelf.files after.shelf.files
    → PrintsText meant text before.sink after.sink status
    → IsWhole said before after status ⊎ IsStopped said before after status
printed said before after status meant text meant-is text-is left (inl whole) = inl (record {
  status = whole.0 ∙ meant-is;
  printed = subst (TakesBytes before.sink after.sink) text-is whole.1;
  files = left;
})
printed said before after status meant text meant-is text-is left (inr stop) = inr (record {
  stopped = elim stop.0 [ inl e ↦ inl e | inr e ↦ inr (e.0, inr e.1) ];
  text = said.printed;
  line = inl refl;
  printed = subst (TakesFront before.sink after.sink) text-is stop.1;
  whole_line = λ outside calm. elim stop.0 [ inl e ↦ cc | inr e ↦ absurd (calm e.1) ];
  last = inr (inr left);
  files = may_leave said.written before.shelf.files after.shelf.files left;
})

-- the line on the shelf that failed was printed, or a front of it
stopped : (said : Outcome) (before after : World) (status : Status) → ShelfFailed before after
    → MayLeave said.written before.shelf.files after.shelf.files
    → PrintsText Outside shelf_fault_line before.sink after.sink status
    → IsStopped said before after status
stopped said before after status failed may (inl whole) = record {
  stopped = inr (whole.0, inl failed);
  text = shelf_fault_line;
  line = inr (failed, refl);
  printed = record {
    front = shelf_fault_line;
    rest = [];
    whole = sym (append-nil shelf_fault_line);
    takes = whole.1;
  };
  whole_line = λ outside calm. (refl, whole.1);
  last = inr (inl refl);
  files = may;
}
stopped said before after status failed may (inr stop) = record {
  stopped = elim stop.0 [ inl e ↦ inl e | inr e ↦ inr (e.0, inr e.1) ];
  text = shelf_fault_line;
  line = inr (failed, refl);
  printed = stop.1;
  whole_line = λ outside calm. elim stop.0 [ inl e ↦ cc | inr e ↦ absurd (calm e.1) ];
  last = inr (inl refl);
  files = may;
}

-- memory ran out before anything was printed
spent : (said : Outcome) (before after : World) (status : Status)
    → MayLeave said.written before.shelf.files after.shelf.files
    → status ≡ NoMemory → after.sink ≡ before.sink → IsStopped said before after status
spent said before after status may none same = record {
  stopped = inl none;
  text = said.printed;
  line = inl refl;
  printed = record {
    front = [];
    rest = said.printed;
    whole = refl;
    takes = subst
        (λ sink. TakesBytes before.sink sink []) (sym same) (TakesBytes-none before.sink);
  };
  whole_line = λ outside calm. cc;
  last = inl same;
  files = may;
}

-- an outcome of this status and text, with the files left as it says
record HasSaid (hash : List ℕ → List ℕ) (command : Option Command) (told left : Option Files) (status : Status)
    (text : List ℕ) : Type 0 where
  said : Outcome
  leads : MaySay hash command told said
  status_is : status ≡ said.status
  text_is : text ≡ said.printed
  files : LeavesWritten said.written told left

said_so : (hash : List ℕ → List ℕ) (command : Option Command) (told left : Option Files) (status : Status)
    (text : List ℕ) → EndsAsSaid (say hash command) (MaySayUntold hash command) told left status text
    → HasSaid hash command told left status text
said_so hash command None left status text ends = record
    { said = ends.0; leads = ends.1; status_is = ends.2; text_is = ends.3; files = ends.4 }
said_so hash command (Some files) left status text ends =
    let on = ended_so (say hash command) (Some files) left status text ends in
    record {
      said = on.said;
      leads = on.leads;
      status_is = on.status_is;
      text_is = on.text_is;
      files = on.files;
    }

-- an outcome that was not reached, with the files left as it allows
record HasLeft (hash : List ℕ → List ℕ) (command : Option Command) (told left : Option Files) : Type 0 where
  said : Outcome
  leads : MaySay hash command told said
  files : MayLeave said.written told left

left_so : (hash : List ℕ → List ℕ) (command : Option Command) (told left : Option Files)
    → OfFiles told (λ files. AreJudged (say hash command) (Some files))
    → GivesUpAsSaid (say hash command) (MaySayUntold hash command) told left → HasLeft hash command told left
left_so hash command None left judged up =
    record { said = up.1.0; leads = up.1.1; files = stays up.1.0.written None left up.0 }
left_so hash command (Some files) left judged up =
    let on = given_up (say hash command) (Some files) left judged up in
    record { said = on.said; leads = on.leads; files = on.files }

pub answer_of : (hash : List ℕ → List ℕ) (command : Command) (before after : World) (status : Status)
    (came : Result Ending Halt) → IsCarriedLoudly hash command before.shelf after.shelf came
    → PrintsEnding came before.sink after.sink status → IsAnswer hash (Some command) before after status
answer_of hash command before after status (Ok ending) comes ended =
    let on = said_so hash (Some command) before.shelf.files after.shelf.files ending.status (printed_of ending)
    comes.came in
    answers hash (Some command) before after comes.judged status on.said on.leads
    (printed on.said before after status ending.status (printed_of ending) on.status_is on.text_is
    on.files ended.printed)
answer_of hash command before after status (Err halts.Words) comes ended = absurd comes.came.0
answer_of hash command before after status (Err halts.Shelf) comes ended =
    let on = left_so hash (Some command) before.shelf.files after.shelf.files comes.judged comes.came.1 in
    answers hash (Some command) before after comes.judged status on.said on.leads
    (inr (stopped on.said before after status comes.came.0 on.files ended.printed))
answer_of hash command before after status (Err halts.NoMemory) comes ended =
    let on = left_so hash (Some command) before.shelf.files after.shelf.files comes.judged comes.came.1 in
    answers hash (Some command) before after comes.judged status on.said on.leads
    (inr (spent on.said before after status on.files ended.printed.0 ended.printed.1))

pub from_sink : (plan : Plan) (before after : World) (status meant : Status) (text : List ℕ)
    → PrintsText meant text before.sink after.sink status
    → (meant ≡ Outside → HasOutsideCause plan before after) → status ≡ Outside
    → HasOutsideCause plan before after
from_sink plan before after status meant text (inl whole) cause outside = cause
    (sym whole.0 ∙ outside)
from_sink plan before after status meant text (inr stop) cause outside = elim stop.0
    [ inl e ↦ absurd (cc) | inr e ↦ inr (inl e.1) ]

pub outside_of : (hash : List ℕ → List ℕ) (command : Command) (before after : World) (status : Status)
    (came : Result Ending Halt) → IsCarriedLoudly hash command before.shelf after.shelf came
    → PrintsEnding came before.sink after.sink status
    → status ≡ Outside → HasOutsideCause (say hash (Some command)) before after
outside_of hash command before after status (Ok ending) comes ended outside =
    from_sink (say hash (Some command)) before after status ending.status (printed_of ending) ended.printed
    (λ blamed. elim (comes.outside blamed) [
      | inl failed ↦ inl failed
      | inr lacks ↦ inr (inr lacks)
    ]) outside
outside_of hash command before after status (Err halts.Words) comes ended outside = absurd comes.came.0
outside_of hash command before after status (Err halts.Shelf) comes ended outside = inl comes.came.0
outside_of hash command before after status (Err halts.NoMemory) comes ended outside = absurd (cc)

pub quiet_of : (before after : World) (status : Status) (came : Result Ending Halt)
    → IsCalm before.shelf after.shelf came → PrintsEnding came before.sink after.sink status
    → (came ≡ Err halts.Words → ⊥) → IsQuiet status before after
quiet_of before after status (Ok ending) calm ended spelled settled = elim ended.printed [
  | inl whole ↦ (calm (subst IsSettled whole.0 settled), whole.2)
  | inr stop ↦ elim stop.0 [ inl e ↦ absurd (settled.1 e) | inr e ↦ absurd (settled.0 e.0) ]
]
quiet_of before after status (Err halts.Words) calm ended spelled settled = absurd (spelled refl)
quiet_of before after status (Err halts.Shelf) calm ended spelled settled = elim ended.printed [
  | inl whole ↦ absurd (settled.0 whole.0)
  | inr stop ↦ elim stop.0 [ inl e ↦ absurd (settled.1 e) | inr e ↦ absurd (settled.0 e.0) ]
]
quiet_of before after status (Err halts.NoMemory) calm ended spelled settled = absurd (settled.1 ended.printed.0)

-- a command is not given up for its words
pub spelled_of : (hash : List ℕ → List ℕ) (command : Command) (before after : Shelved) (came : Result Ending Halt)
    → IsCarriedLoudly hash command before after came → came ≡ Err halts.Words → ⊥
spelled_of hash command before after (Ok ending) comes is = cc
spelled_of hash command before after (Err halts.Words) comes is = comes.came.0
spelled_of hash command before after (Err halts.Shelf) comes is = cc
spelled_of hash command before after (Err halts.NoMemory) comes is = cc

-- the line on words that spell no command was printed, or a front of it
pub words_answered : (hash : List ℕ → List ℕ) (before after : World) (status : Status)
    → after.shelf ≡ before.shelf
    → PrintsText BadWords bad_words_line before.sink after.sink status
    → IsAnswer hash None before after status
words_answered hash before after status same ended =
    let said = ends BadWords bad_words_line in
    answers hash None before after (judged before.shelf.files) status said (leads before.shelf.files)
    (printed said before after status BadWords bad_words_line refl refl (ap (λ s. s.files) same)
    ended)
  where
    judged : (told : Option Files) → OfFiles told (λ files. AreJudged (say hash None) (Some files))
    judged None = tt
    judged (Some files) = tt

    leads : (told : Option Files) → MaySay hash None told (ends BadWords bad_words_line)
    leads None = refl
    leads (Some files) = refl
