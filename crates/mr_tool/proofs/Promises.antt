-- What a run promises of honest proofs and of accepted ones, of inputs that are in order and of changes: by what its
-- command came to, and how that was printed.
use Rattle.std.proofs.Common.{◌≡◌, ℕ, ◌<◌, ◌^◌, List, refl, ap, subst, ◌∙◌, inl, inr}
use Rattle.std.specs.Prelude.{Option, Some, None, Result, Ok, Err}
use Rattle.mr_outside.specs.Files.{Files}
use Rattle.mr_outside.specs.Told.{TakesBytes}
use Rattle.mr_outside.specs.Bytes.{AreBytes}
use Rattle.mr_record.specs.RecordText.{text_of}
use Rattle.mr_record.specs.declared.record.Record.{Record}
use Rattle.mr_record.specs.declared.version.Version.{Version}
use Rattle.mr_tree.specs.Digest.{by}
use Rattle.mr_tree.specs.Tree.{records}
use Rattle.mr_tree.specs.WellFormed.{WellFormed, HasLayers}
use Rattle.mr_tree.specs.declared.tree.Tree.{Tree}
use Rattle.mr_query.specs.Scan.{scan}
use Rattle.mr_query.specs.Word.{IsQuery}
use Rattle.mr_query.specs.declared.query.Query.{Query}
use Rattle.mr_proof.specs.declared.rule.Fault.{Fault}
use Rattle.mr_proof.specs.Clash.{clash}
use Rattle.mr_proof.specs.Headline.{IsHonest}
use Rattle.mr_proof.specs.Honest.{IsProof}
use Rattle.mr_proof.specs.Reading.{verdict}
use Rattle.mr_proof.proofs.PreimageBytes.{IsSized}
use Rattle.mr_proof.proofs.Complete.{accepts_honest}
use Rattle.mr_proof.proofs.Completeness.{verdict_from}
use Rattle.mr_proof.proofs.Halves.{accepts_just}
use Rattle.mr_proof.proofs.SameNodes.{none_more}
use Rattle.mr_proof.proofs.Worth.{headline, accepted_headline}
use Rattle.mr_pages.specs.Law.{map_root, map_in}
use Rattle.mr_pages.proofs.PageLaws.{from_bytes}
use Rattle.mr_command.specs.Answer.{World, IsWhole}
use Rattle.mr_command.specs.Ending.{EndsPlan, IsCarriedOut}
use Rattle.mr_command.specs.private.Steps.{PrintsEnding}
use Rattle.mr_plan.specs.First.{pages_by}
use Rattle.mr_plan.specs.Outcome.{Outcome}
use Rattle.mr_plan.specs.Plan.{Plan, comes, LeadsToOutcome}
use Rattle.mr_tool.specs.Asked.{HoldsBytes}
use Rattle.mr_tool.specs.Promises.{CompletesWords, IsApplied, AppliesAlike, IsUpgraded, UpgradesAll, AppliesHere, IsAppliedHere, IsRecovered, RecoversHere}
use Rattle.mr_tool.proofs.Statements.{AnswersHonest, PrintsScan, IsWorth, AcceptsHonestOrCollides, AuditsAccepted}
use Rattle.mr_plan.specs.Say.{say_apply_here, say_recover, prints, say, say_upgrade, say_upgrade_of, say_check, say_check_of}
use Rattle.mr_plan.specs.Words.{SpellsCommand}
use Rattle.mr_command.specs.declared.ending.Ending.{Ending}
use Rattle.mr_command.specs.declared.ending.Halt.{Halt}
use Rattle.mr_pages.specs.declared.opening.Opened.{Opened}
use Rattle.mr_plan.specs.declared.status.Status.{Status}
use Rattle.mr_plan.specs.declared.status.Status.TheVariants.{Done}
use Rattle.mr_plan.specs.declared.words.Command.{Command}
use Rattle.mr_plan.specs.declared.words.Command.TheVariants as commands
use Rattle.mr_command.proofs.Verdicts.{says_verdict}
use Rattle.mr_command.proofs.Rereading.{loud_of}
use Rattle.mr_tool.proofs.Here.{of_plan, was_applied, was_recovered}
use Rattle.mr_tool.proofs.Ended.{HasRun, may_be, IsRunOr, ran, told_ends, taken_on, ends_on, map_on, layers_of, not_stopped, not_refused}
use Rattle.mr_tool.proofs.Audited.{own_version, says_worth}
use Rattle.mr_tool.proofs.InOrder.{applied_ends, held_after, has_applied, done}

-- ---- the proofs of a map, checked against its root digest

module _ (v : Version) (hash : List ℕ → List ℕ) (sized : IsSized hash) (before after : World) (status : Status)
    (t : Tree) (batch : ℕ) (root : List ℕ) (q : Query) (name : List ℕ) (bytes : List ℕ) (well : WellFormed t)
    (layers : HasLayers v t) (low : batch < 2 ^ 64)
    (is_root : root ≡ map_root hash (map_in v t batch)) (asked : IsQuery q)
    (honest : IsProof (by v hash) t batch q bytes)
    (run : HasRun (say_check hash root q name) (LeadsToOutcome (say_check hash root q name) None) before after
    status) where
  says_honest : say_check_of hash root q bytes ≡ prints (text_of v (scan (records t) q))
  says_honest =
      says_verdict hash root q bytes (Ok (scan (records t) q))
      ((λ i. verdict hash (is_root i) q (honest.own i))
      ∙ accepts_honest (by v hash) sized q asked t batch honest.may_come well layers low)
      ∙ ap (λ v. prints (text_of v (scan (records t) q))) (own_version (by v hash) t batch q bytes honest)

  whole_honest : HoldsBytes before.shelf.files name bytes
      → IsWhole (prints (text_of v (scan (records t) q))) before after status
  whole_honest held =
      let on = ends_on name bytes before.shelf.files after.shelf.files status run.text held
      (λ bytes. comes (say_check_of hash root q bytes))
      (told_ends before.shelf.files after.shelf.files name bytes (say_check hash root q name)
      (LeadsToOutcome (say_check hash root q name) None) status run.text held run.ends) in
      let said : EndsPlan (comes (prints (text_of v (scan (records t) q)))) before.shelf.files after.shelf.files
      status
      run.text =
      subst (λ o. EndsPlan (comes o) before.shelf.files after.shelf.files status run.text) says_honest on in
      record {
        status = said.0;
        printed = subst (TakesBytes before.sink after.sink) said.1 run.printed;
        files = said.2;
      }

module _ (v : Version) (hash : List ℕ → List ℕ) (sized : IsSized hash) (before after : World) (status : Status)
    (t : Tree) (batch : ℕ) (root : List ℕ) (q : Query) (name : List ℕ) (well : WellFormed t)
    (layers : HasLayers v t) (low : batch < 2 ^ 64)
    (is_root : root ≡ map_root hash (map_in v t batch)) (asked : IsQuery q)
    (run : HasRun (say_check hash root q name) (LeadsToOutcome (say_check hash root q name) None) before after
    status) where
  -- by the verdict on the bytes
  worth_by : (bytes : List ℕ) → AreBytes bytes → status ≡ Done
      → EndsPlan (comes (say_check_of hash root q bytes)) before.shelf.files after.shelf.files status run.text
      → (r : Result (List Record) Fault) → verdict hash root q bytes ≡ r
      → IsWorth (by v hash) t batch q bytes before after
  worth_by bytes all done on (Err fault) e =
      not_refused status done (on.0 ∙ ap (λ (o : Outcome). o.status) (says_verdict hash root q bytes (Err fault) e))
  worth_by bytes all done on (Ok answer) e =
      let accepted : verdict hash (map_root hash (map_in v t batch)) q bytes ≡ Ok answer =
      subst (λ held. verdict hash held q bytes ≡ Ok answer) is_root e in
      let said = ap (λ (o : Outcome). o.printed) (says_verdict hash root q bytes (Ok answer) e) in
      record {
        answer = answer;
        proves = (accepts_just hash (map_root hash (map_in v t batch)) q bytes asked (from_bytes bytes all)
            answer).0 accepted;
        worth = none_more hash (clash (by v hash) t batch bytes) (IsHonest (by v hash) t batch q bytes answer)
            (PrintsScan (by v hash) t batch q bytes before after)
            (accepted_headline (by v hash) sized q bytes asked (from_bytes bytes all) t batch answer
            well layers low accepted)
            (λ own. record {
              own = own.own;
              printed = subst (TakesBytes before.sink after.sink)
                  (on.1 ∙ said
                  ∙ (λ i. text_of (own_version (by v hash) t batch q bytes own.own i) (own.complete i))) run.printed;
            });
      }

  worth : (bytes : List ℕ) → HoldsBytes before.shelf.files name bytes → status ≡ Done
      → IsWorth (by v hash) t batch q bytes before after
  worth bytes held done =
      let next : List ℕ → Plan = λ bytes. comes (say_check_of hash root q bytes) in
      let ends = told_ends before.shelf.files after.shelf.files name bytes (say_check hash root q name)
      (LeadsToOutcome (say_check hash root q name) None) status run.text held run.ends in
      worth_by bytes
      (taken_on name bytes before.shelf.files after.shelf.files status run.text held next ends) done
      (ends_on name bytes before.shelf.files after.shelf.files status run.text held next ends)
      (verdict hash root q bytes) refl

-- ---- whatever command the words spell

module _ (hash : List ℕ → List ℕ) (words : List (List ℕ)) (before after : World) (status : Status)
    (came : Result Ending Halt)
    (carried : (c : Command) → SpellsCommand words c → IsCarriedOut hash c before.shelf after.shelf came)
    (ended : PrintsEnding came before.sink after.sink status) where
  ran_as : (command : Command) → SpellsCommand words command → IsRunOr hash command before after status
  ran_as command spells = ran hash command before after status came
      (loud_of hash before.shelf after.shelf came command (carried command spells)) ended

  pub completes : IsSized hash → CompletesWords hash words before after status
  completes sized command spells order = elim (ran_as command spells) [
    | inl run ↦ inl (done hash before.shelf.files after.shelf.files status run.text sized command spells.each order
        run.ends)
    | inr stop ↦ inr stop
  ]

  pub honest_answered : IsSized hash → AnswersHonest hash words before after status
  honest_answered sized v t batch root q name bytes well layers low is_root spells held own =
      elim (ran_as (commands.Check root q name) spells) [
        | inl run ↦ inl (whole_honest v hash sized before after status t batch root q name.now bytes well layers low
            is_root spells.each.1.1.0 own run held)
        | inr stop ↦ inr stop
      ]

  pub accepted_worth : IsSized hash → AcceptsHonestOrCollides hash words before after status
  accepted_worth sized v t batch root q name bytes well layers low is_root spells held done =
      elim (ran_as (commands.Check root q name) spells) [
        | inl run ↦ worth v hash sized before after status t batch root q name.now well layers low is_root
            spells.each.1.1.0 run bytes held done
        | inr stop ↦ not_stopped before after status done stop
      ]

  pub accepted_audited : IsSized hash → AuditsAccepted hash words before after status
  accepted_audited sized v t batch map q name held bytes answer spells map_held stands name_held proves =
      says_worth v hash before after status map.now q name.now t batch held bytes answer map_held stands name_held
      (verdict_from hash (map_root hash (map_in v t batch)) q bytes answer spells.each.1.1.0 proves)
      (clash (by v hash) t batch bytes) refl
      (headline (by v hash) sized q bytes spells.each.1.1.0 t batch answer stands.well
      (layers_of v hash held t batch stands) stands.stands.batch_fits proves)
      (ran_as (commands.Audit map q name) spells)

  pub applied_alike : AppliesAlike hash words before after status
  applied_alike v t held old name new bytes text b spells map_held stands beside right done =
      elim (ran_as (commands.Apply old name new) spells) [
        | inl run ↦ by_files before.shelf.files refl run
        | inr stop ↦ not_stopped before after status done stop
      ]
    where
      by_files : (o : Option Files) → before.shelf.files ≡ o
          → HasRun (say hash (Some (commands.Apply old name new))) (may_be hash (commands.Apply old name new)) before
          after status
          → IsApplied v hash t held b new.now before after
      by_files None none run = absurd (subst (λ o. HoldsBytes o old.now bytes) none map_held)
      by_files (Some files) told run =
          let on = has_applied hash before.shelf.files after.shelf.files status run.text v t held b new.now
          (pages_by v bytes) files told done
          (applied_ends hash before.shelf.files after.shelf.files status run.text old.now name.now new.now v t held
          bytes text b map_held stands beside right run.ends) in
          record {
            may = on.may;
            printed = subst (TakesBytes before.sink after.sink) on.text_is run.printed;
            bytes = on.bytes;
            there = on.there;
            stands = on.is;
          }

  pub upgraded_all : UpgradesAll hash words before after status
  upgraded_all v t batch old new bytes spells held stands done =
      elim (ran_as (commands.Upgrade old new) spells) [
        | inl run ↦ by_files before.shelf.files refl run
        | inr stop ↦ not_stopped before after status done stop
      ]
    where
      by_files : (o : Option Files) → before.shelf.files ≡ o
          → HasRun (say hash (Some (commands.Upgrade old new))) (may_be hash (commands.Upgrade old new)) before after
          status
          → IsUpgraded hash t batch new.now before after
      by_files None none run = absurd (subst (λ o. HoldsBytes o old.now bytes) none held)
      by_files (Some files) told run =
          let next : Opened → Plan = λ map. comes (say_upgrade_of hash new.now map) in
          let on = map_on v hash old.now bytes t batch before.shelf.files after.shelf.files
          status run.text held stands next
          (told_ends before.shelf.files after.shelf.files old.now bytes (say_upgrade hash old.now new.now)
          (may_be hash (commands.Upgrade old new)) status run.text held run.ends) in
          record {
            printed = subst (TakesBytes before.sink after.sink) on.1 run.printed;
            bytes = on.2.0;
            there = held_after hash before.shelf.files after.shelf.files status run.text files new.now
                on.2.0 told on.2.2;
            stands = on.2.1.stands;
          }

  pub recovered_here : RecoversHere words before after status
  recovered_here map files spells told done = elim (ran_as (commands.Recover map) spells) [
    | inl run ↦ by_run run
    | inr stop ↦ not_stopped before after status done stop
  ]
    where
      by_run : HasRun (say hash (Some (commands.Recover map))) (may_be hash (commands.Recover map)) before after status
          → IsRecovered map.now files before after
      by_run run =
          let on = was_recovered hash map.now files after.shelf.files status run.text done
          (of_plan (say_recover map.now) (may_be hash (commands.Recover map)) files before.shelf.files
          after.shelf.files status run.text told run.ends) in
          record { printed = subst (TakesBytes before.sink after.sink) on.text_is run.printed; left = on.left }

  pub applied_here : AppliesHere hash words before after status
  applied_here v t held map name files text b spells told stands beside right done =
      elim (ran_as (commands.ApplyHere map name) spells) [
        | inl run ↦ by_run run
        | inr stop ↦ not_stopped before after status done stop
      ]
    where
      by_run : HasRun (say hash (Some (commands.ApplyHere map name))) (may_be hash (commands.ApplyHere map name)) before
          after status
          → IsAppliedHere v hash t held b map.now before after
      by_run run =
          let on = was_applied hash map.now files after.shelf.files status run.text v t held stands name.now text b
          (subst (λ o. HoldsBytes o name.now text) told beside) right done
          (of_plan (say_apply_here hash map.now name.now) (may_be hash (commands.ApplyHere map name)) files
          before.shelf.files after.shelf.files status run.text told run.ends) in
          record {
            may = on.may;
            printed = subst (TakesBytes before.sink after.sink) on.text_is run.printed;
            left = on.left;
          }
