-- All that is promised of a run, by what its command came to and how that was printed.
use Rattle.std.proofs.Common.{◌≡◌, ℕ, List, sym, ap, subst, arith, inl, inr}
use Rattle.std.specs.Prelude.{Option, Some, None, Result, Err}
use Rattle.mr_outside.specs.State.{Shelved}
use Rattle.mr_proof.proofs.PreimageBytes.{IsSized}
use Rattle.mr_query.specs.Word.{asks}
use Rattle.mr_query.specs.declared.query.Shape.TheVariants.{Window}
use Rattle.mr_outside.specs.Files.{Files}
use Rattle.mr_command.specs.Answer.{World, IsQuiet}
use Rattle.mr_command.specs.Counting.{AllowsReads, MayRead}
use Rattle.mr_command.specs.Ending.{ComesAsSaid, RunsPlan, IsCarriedOut}
use Rattle.mr_command.specs.private.Steps.{PrintsEnding, PrintsText}
use Rattle.mr_plan.specs.Lines.{bad_words_line}
use Rattle.mr_tool.specs.Run.{AnswersWords, BlamesRightly, IsRun, ReadsFewWords, StaysQuiet}
use Rattle.mr_plan.specs.Outcome.{Outcome}
use Rattle.mr_plan.specs.Plan.{LeadsToOutcome}
use Rattle.mr_plan.specs.Say.{ends, say}
use Rattle.mr_plan.specs.Spelling.{AsksAs, IsSpelled}
use Rattle.mr_plan.specs.Untold.{MaySayUntold}
use Rattle.mr_plan.specs.Words.{SpellsCommand}
use Rattle.mr_command.specs.declared.ending.Ending.{Ending}
use Rattle.mr_command.specs.declared.ending.Halt.{Halt}
use Rattle.mr_command.specs.declared.ending.Halt.TheVariants as halts
use Rattle.mr_plan.specs.declared.status.Status.{Status}
use Rattle.mr_plan.specs.declared.status.Status.TheVariants.{BadWords}
use Rattle.mr_plan.specs.declared.words.Command.{Command}
use Rattle.mr_plan.specs.declared.words.Command.TheVariants as commands
use Rattle.mr_command.proofs.Counting.{few_none}
use Rattle.mr_command.proofs.Rereading.{calm_of, loudly, carried_alike, comes_plain, loud_of}
use Rattle.mr_tool.proofs.Asked.{asked_honest, asked_worth, asked_audited, asked_collides}
use Rattle.mr_tool.proofs.Counts.{counted_honest, counted_worth, counted_audited, collided_rightly}
use Rattle.mr_tool.proofs.Joins.{joined_honest, joined_worth, joined_audited, joined_collided}
use Rattle.mr_tool.proofs.Promises.{completes, honest_answered, accepted_worth, accepted_audited, applied_alike, applied_here, recovered_here, upgraded_all}
use Rattle.mr_tool.proofs.Runs.{answer_of, from_sink, outside_of, quiet_of, spelled_of, words_answered}

-- what comes as is said is carried out
carried_of : (hash : List ℕ → List ℕ) (c : Command) (before after : Shelved) (result : Result Ending Halt)
    → ComesAsSaid (say hash (Some c)) (MaySayUntold hash (Some c)) (MayRead hash (Some c)) before after result
    → IsCarriedOut hash c before after result
carried_of hash (commands.ApplyHere map batch) before after result on =
    let c : Command = commands.ApplyHere map batch in
    loudly (say hash (Some c)) (MaySayUntold hash (Some c)) (MayRead hash (Some c)) before after result on
carried_of hash (commands.Recover map) before after result on =
    let c : Command = commands.Recover map in
    loudly (say hash (Some c)) (MaySayUntold hash (Some c)) (MayRead hash (Some c)) before after result on
carried_of hash (commands.Root records) before after result on = on
carried_of hash c before after result on = on

-- a command that is its plan over any files is carried out
pub as_plain : (hash : List ℕ → List ℕ) (command other : Command) (before after : Shelved)
    (result : Result Ending Halt) → command ≡ other
    → ((said : Outcome) → LeadsToOutcome (say hash (Some other)) None said → MaySayUntold hash (Some other) said)
    → ((files : Files) (n : ℕ) → AllowsReads (say hash (Some other)) files n → MayRead hash (Some other) files n)
    → RunsPlan (say hash (Some other)) before after result → IsCarriedOut hash command before after result
as_plain hash command other before after result is says few on =
    subst (λ c. IsCarriedOut hash c before after result) (sym is)
    (carried_of hash other before after result
    (comes_plain (say hash (Some other)) before after (MaySayUntold hash (Some other)) (MayRead hash (Some other))
    result says few on))

pub as_carried : (hash : List ℕ → List ℕ) (command other : Command) (before after : Shelved)
    (result : Result Ending Halt) → command ≡ other → IsCarriedOut hash other before after result
    → IsCarriedOut hash command before after result
as_carried hash command other before after result is =
    subst (λ c. IsCarriedOut hash c before after result) (sym is)

module _ (hash : List ℕ → List ℕ) (words : List (List ℕ)) (before after : World) (status : Status) where
  -- of words that spell a command
  pub run_of : (command : Command) (came : Result Ending Halt) → IsSized hash
      → ((c : Option Command) → IsSpelled words c → AsksAs c (Some command))
      → IsCarriedOut hash command before.shelf after.shelf came → PrintsEnding came before.sink after.sink status
      → IsRun hash words before after status
  run_of command came sized read comes ended =
      let carried : (c : Command) → SpellsCommand words c → IsCarriedOut hash c before.shelf after.shelf came =
      λ c spells. carried_alike hash c command before.shelf after.shelf came (read (Some c) spells) comes in
      let loud = loud_of hash before.shelf after.shelf came command comes in
      record {
        answer = answer carried;
        outside = outside carried;
        counts = record {
          shelf_faults = loud.counts.faults;
          reads = loud.counts.reads;
          sink_faults = ended.faults;
        };
        quiet = quiet carried;
        reads = reads carried;
        complete = completes hash words before after status came carried ended sized;
        honest = asked_honest hash words before after status
            (honest_answered hash words before after status came carried ended sized)
            (counted_honest hash words before after status came carried ended sized)
            (joined_honest hash words before after status came carried ended sized);
        worth = asked_worth hash words before after status
            (accepted_worth hash words before after status came carried ended sized)
            (counted_worth hash words before after status came carried ended sized)
            (joined_worth hash words before after status came carried ended sized);
        audited = asked_audited hash words before after status
            (accepted_audited hash words before after status came carried ended sized)
            (counted_audited hash words before after status came carried ended sized)
            (joined_audited hash words before after status came carried ended sized);
        collides = asked_collides hash words before after status
            (collided_rightly hash words before after status came carried ended sized)
            (joined_collided hash words before after status came carried ended sized);
        alike = applied_alike hash words before after status came carried ended;
        upgrades = upgraded_all hash words before after status came carried ended;
        recovers = recovered_here hash words before after status came carried ended;
        applies_here = applied_here hash words before after status came carried ended;
      }
    where
      not_none : {A : Type 0} → IsSpelled words None → A
      not_none spelled = let e = read None spelled in absurd (cc)

      answer : ((c : Command) → SpellsCommand words c → IsCarriedOut hash c before.shelf after.shelf came)
          → AnswersWords hash words before after status
      answer carried None spelled = not_none spelled
      answer carried (Some c) spelled = answer_of hash c before after status came
          (loud_of hash before.shelf after.shelf came c (carried c spelled)) ended

      outside : ((c : Command) → SpellsCommand words c → IsCarriedOut hash c before.shelf after.shelf came)
          → BlamesRightly hash words before after status
      outside carried None spelled is = not_none spelled
      outside carried (Some c) spelled is = outside_of hash c before after status came
          (loud_of hash before.shelf after.shelf came c (carried c spelled)) ended is

      quiet : ((c : Command) → SpellsCommand words c → IsCarriedOut hash c before.shelf after.shelf came)
          → StaysQuiet words before after status
      quiet carried None spelled = not_none spelled
      quiet carried (Some c) spelled = elim (calm_of hash before.shelf after.shelf came c (carried c spelled)) [
        | inl loud ↦ inl loud
        | inr calm ↦ inr (quiet_of before after status came calm ended (spelled_of hash c before.shelf after.shelf came
            (loud_of hash before.shelf after.shelf came c (carried c spelled))))
      ]

      reads : ((c : Command) → SpellsCommand words c → IsCarriedOut hash c before.shelf after.shelf came)
          → ReadsFewWords hash words before after
      reads carried None spelled = not_none spelled
      reads carried (Some c) spelled = (loud_of hash before.shelf after.shelf came c (carried c spelled)).few

  quiet_words : after.shelf ≡ before.shelf → PrintsText BadWords bad_words_line before.sink after.sink status
      → IsQuiet status before after
  quiet_words same printed settled = elim printed [
    | inl whole ↦ (ap (λ s. s.faults) same, whole.2)
    | inr stop ↦ elim stop.0 [ inl e ↦ absurd (settled.1 e) | inr e ↦ absurd (settled.0 e.0) ]
  ]

  -- of words that spell none
  pub run_of_none : after.shelf ≡ before.shelf → IsSpelled words None
      → PrintsEnding (Err halts.Words) before.sink after.sink status → IsRun hash words before after status
  run_of_none same none ended = record {
    answer = answer;
    outside = outside;
    counts = record {
      shelf_faults = omega (arith, ap (λ s. s.faults) same);
      reads = omega (arith, ap (λ s. s.reads) same);
      sink_faults = ended.faults;
    };
    quiet = λ command spelled. inr (quiet_words same ended.printed);
    reads = reads;
    complete = λ command spells order. absurd (none command spells);
    honest = asked_honest hash words before after status
        (λ v t batch root q name bytes well layers low is_root spells held own. absurd
        (none (commands.Check root q name) spells))
        (λ t batch root w mask name bytes well low is_root spells held own. absurd
        (none (commands.CheckCount root (asks (Window w) mask) name) spells))
        (λ m n first second name bytes own_m own_n is_first is_second spells held own. absurd
        (none (commands.CheckJoin first second name) spells));
    worth = asked_worth hash words before after status
        (λ v t batch root q name bytes well layers low is_root spells held done. absurd
        (none (commands.Check root q name) spells))
        (λ v t batch root w mask name bytes well layers low is_root spells held done. absurd
        (none (commands.CheckCount root (asks (Window w) mask) name) spells))
        (λ m n first second name bytes own_m own_n is_first is_second spells held done. absurd
        (none (commands.CheckJoin first second name) spells));
    audited = asked_audited hash words before after status
        (λ v t batch map q name held bytes answer spells map_held stands name_held proves. absurd
        (none (commands.Audit map q name) spells))
        (λ v t batch map w mask name held bytes said spells map_held stands name_held shows. absurd
        (none (commands.AuditCount map (asks (Window w) mask) name) spells))
        (λ m n first second name one other bytes pairs spells held_m stands_m held_n stands_n held given. absurd
        (none (commands.AuditJoin first second name) spells));
    collides = λ command spells audit is. absurd (none command spells);
    alike = λ v t held old batch new bytes text b spells there stands beside right done.
        absurd (none (commands.Apply old batch new) spells);
    upgrades = λ v t batch old new bytes spells held stands done. absurd (none (commands.Upgrade old new) spells);
    recovers = λ map files spells told done. absurd (none (commands.Recover map) spells);
    applies_here = λ v t held map batch files text b spells told stands beside right done.
        absurd (none (commands.ApplyHere map batch) spells);
  }
    where
      answer : AnswersWords hash words before after status
      answer None spelled = words_answered hash before after status same ended.printed
      answer (Some c) spelled = absurd (none c spelled)

      outside : BlamesRightly hash words before after status
      outside None spelled is = from_sink (say hash None) before after status BadWords bad_words_line ended.printed
          (λ e. absurd (cc)) is
      outside (Some c) spelled is = absurd (none c spelled)

      reads : ReadsFewWords hash words before after
      reads None spelled = few_none before.shelf.files (ends BadWords bad_words_line) before.shelf.reads
          after.shelf.reads (ap (λ s. s.reads) same)
      reads (Some c) spelled = absurd (none c spelled)
