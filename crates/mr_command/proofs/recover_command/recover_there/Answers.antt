use Rattle.std.proofs.Common.{subst, ◌∙◌}
use Rattle.mr_journal.specs.Recovered.{RecoversMap}
use Rattle.mr_journal.specs.Shelves.{KeepsBeside}
use Rattle.mr_command.proofs.InPlaceEnds.{recovers_so}
use Rattle.mr_command.proofs.recover_command.recover_there.Goals as goal

pub returns-in-Ok : goal.returns-in-Ok
returns-in-Ok g c =
    let map = c.args.map.now in
    let e = c.recover_files-recovered.ensures in
    let before = g.S.Shelf.state c.args.shelf in
    let after = g.S.Shelf.state c.recover_files-recovered.result.1 in
    let r = c.recover_files-recovered.result.0 in
    let named = c.as_str.ensures.value ∙ c.in-Ok.ensures in
    recovers_so map before after (record { faults = e.faults; reads = e.reads }) r c.say_recovered.result e.fault
    e.quiet
    (subst (λ j. KeepsBeside map j before.files after.files) named e.beside) e.clean
    (subst (λ j. RecoversMap map j before.files after.files r) named e.recovers) c.say_recovered.ensures
