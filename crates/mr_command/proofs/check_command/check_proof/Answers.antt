use Rattle.std.proofs.Common.{sym, ap, subst, ◌∙◌}
use Rattle.std.specs.Prelude.{All, Ok, Err}
use Rattle.mr_record.specs.RecordText.{text_of}
use Rattle.mr_record.specs.Record.{HasLayer}
use Rattle.mr_check.specs.Versions.{proof_version}
use Rattle.mr_command.specs.Ending.{IsEndingOf, IsEndingOrHalt}
use Rattle.mr_plan.specs.Say.{prints, say_check_of}
use Rattle.mr_command.proofs.Counting.{text_taken}
use Rattle.mr_command.proofs.Going.{comes_given, comes_on, judged_needs, missed_so, misses}
use Rattle.mr_command.proofs.Inputs.{goes_needed, says_bytes}
use Rattle.mr_plan.specs.Plan.{comes}
use Rattle.mr_command.proofs.Plain.{answer_layers}
use Rattle.mr_command.proofs.ToFault.{comes_judged, once_to_fault}
use Rattle.mr_command.proofs.Verdicts.{says_verdict, gives, check_writes}
use Rattle.mr_command.proofs.check_command.check_proof.Goals as goal

pub records-requires : goal.records-requires
records-requires g c =
    let is = c.in-Ok.ensures.judges.0 in
    subst (λ v. All (HasLayer v) c.in-Ok.records.items) (sym c.in-Ok.ensures.judges.1)
    (answer_layers g.H.Hashes.of c.args.root.now c.args.query.now is.bytes c.in-Ok.records.items is.are is.verdict_is)

pub returns-in-Ok : goal.returns-in-Ok
returns-in-Ok g c =
    let hash = g.H.Hashes.of in
    let said = say_check_of hash c.args.root.now c.args.query.now in
    let before = g.S.Shelf.state c.args.shelf.now in
    let after = g.S.Shelf.state c.judge_file.new.shelf in
    let is = c.in-Ok.ensures.judges.0 in
    let causes = c.in-Ok.ensures.causes in
    comes_judged hash c.args.root.now c.args.query.now c.args.name.now said before after _ c.judge_file.ensures.stops
    (comes_on c.args.name.now (λ b. comes (said b)) is.bytes before after after
    (record { counts = causes.counts; files = causes.files; faults = causes.cause })
    (text_taken before.files c.args.name.now said before.reads after.reads
    (once_to_fault hash c.args.root.now c.args.query.now c.args.name.now before after c.judge_file.ensures.stops))
    is.input is.are
    (judged_needs c.args.name.now said before.files) (Ok c.records.result)
    (comes_given (said is.bytes) after (Ok c.records.result)
    (check_writes hash c.args.root.now c.args.query.now is.bytes)
    (subst (λ outcome. IsEndingOf outcome c.records.result)
    (sym (says_verdict hash c.args.root.now c.args.query.now is.bytes (Ok c.in-Ok.records.items) is.verdict_is))
    (gives (prints (text_of (proof_version is.bytes) c.in-Ok.records.items)) c.records.result ((λ e. cc), (λ e. cc))
    c.records.ensures.status
    (c.records.ensures.printed ∙ ap (λ v. text_of v c.in-Ok.records.items) c.in-Ok.ensures.judges.1)))))

pub returns-in-Err-Refused : goal.returns-in-Err-Refused
returns-in-Err-Refused g c =
    let hash = g.H.Hashes.of in
    let said = say_check_of hash c.args.root.now c.args.query.now in
    let before = g.S.Shelf.state c.args.shelf.now in
    let after = g.S.Shelf.state c.judge_file.new.shelf in
    let is = rw c.in-Err-Refused.field-0-is at c.in-Err-Refused.ensures.judges in
    let causes = rw c.in-Err-Refused.field-0-is at c.in-Err-Refused.ensures.causes in
    comes_judged hash c.args.root.now c.args.query.now c.args.name.now said before after _ c.judge_file.ensures.stops
    (comes_on c.args.name.now (λ b. comes (said b)) is.bytes before after after
    (record { counts = causes.counts; files = causes.files; faults = causes.cause })
    (text_taken before.files c.args.name.now said before.reads after.reads
    (once_to_fault hash c.args.root.now c.args.query.now c.args.name.now before after c.judge_file.ensures.stops))
    is.input is.are
    (judged_needs c.args.name.now said before.files) c.refused.result
    (comes_given (said is.bytes) after c.refused.result
    (check_writes hash c.args.root.now c.args.query.now is.bytes)
    (subst (λ outcome. IsEndingOrHalt outcome c.refused.result)
    (sym (says_verdict hash c.args.root.now c.args.query.now is.bytes (Err c.in-Err-Refused.fault) is.verdict_is))
    c.refused.ensures)))

pub returns-in-Err-Missing : goal.returns-in-Err-Missing
returns-in-Err-Missing g c =
    let before = g.S.Shelf.state c.args.shelf.now in
    let after = g.S.Shelf.state c.judge_file.new.shelf in
    let causes = rw c.in-Err-Missing.field-0-is at c.in-Err-Missing.ensures.causes in
    let said = say_check_of g.H.Hashes.of c.args.root.now c.args.query.now in
    comes_judged g.H.Hashes.of c.args.root.now c.args.query.now c.args.name.now said before after _
    c.judge_file.ensures.stops
    (goes_needed c.args.name.now (λ bytes. comes (said bytes)) before after (says_bytes said before.files)
    (Err c.missing.result) (record {
      counts = causes.counts;
      files = causes.files;
      read = missed_so c.args.name.now before after c.missing.result
          (misses before.files c.args.name.now before.faults after.faults causes.cause) c.missing.ensures;
      once = once_to_fault g.H.Hashes.of c.args.root.now c.args.query.now c.args.name.now before after
          c.judge_file.ensures.stops;
    }))

pub returns-in-Err-Halted : goal.returns-in-Err-Halted
returns-in-Err-Halted g c =
    let causes = rw c.in-Err-Halted.field-0-is at c.in-Err-Halted.ensures.causes in
    let said = say_check_of g.H.Hashes.of c.args.root.now c.args.query.now in
    let before = g.S.Shelf.state c.args.shelf.now in
    let after = g.S.Shelf.state c.judge_file.new.shelf in
    comes_judged g.H.Hashes.of c.args.root.now c.args.query.now c.args.name.now said before after _
    c.judge_file.ensures.stops
    (goes_needed c.args.name.now (λ bytes. comes (said bytes)) before after (says_bytes said before.files)
    (Err (Err c.in-Err-Halted.halt)) (record {
      counts = causes.counts;
      files = causes.files;
      read = causes.cause;
      once = once_to_fault g.H.Hashes.of c.args.root.now c.args.query.now c.args.name.now before after
          c.judge_file.ensures.stops;
    }))
