use Rattle.std.proofs.Common.{length, ◌++◌, sym, ◌∙◌}
use Rattle.std.proofs.lemmas.Bool.{eqb-true}
use Rattle.mr_journal.proofs.Shelving.{grown_empty, grows_whole, grows_partly, turns_changed}
use Rattle.mr_journal.proofs.shelf_disk.append.Goals as goal

pub returns-then-is_empty-clause-done : goal.returns-then-is_empty-clause-done
returns-then-is_empty-clause-done g c = grown_empty c.args.name.now c.args.bytes.now _
    (eqb-true (length c.args.bytes.now) 0 (sym c.is_empty.ensures ∙ c.if-is_empty.true))

pub returns-then-is_empty-clause-grows : goal.returns-then-is_empty-clause-grows
returns-then-is_empty-clause-grows g c =
    grows_whole c.args.name.now c.args.bytes.now _ _
    (grown_empty c.args.name.now c.args.bytes.now _
    (eqb-true (length c.args.bytes.now) 0 (sym c.is_empty.ensures ∙ c.if-is_empty.true)))

pub returns-in-Ok-clause-done : goal.returns-in-Ok-clause-done
returns-in-Ok-clause-done g c = (turns_changed c.args.name.now (λ held. held ++ c.args.bytes.now) _ _ c.requires
    c.in-Ok.ensures.writes.whole).0

pub returns-in-Ok-clause-grows : goal.returns-in-Ok-clause-grows
returns-in-Ok-clause-grows g c =
    grows_whole c.args.name.now c.args.bytes.now _ _
    (turns_changed c.args.name.now (λ held. held ++ c.args.bytes.now) _ _ c.requires c.in-Ok.ensures.writes.whole).0

pub returns-in-Err-Fault-clause-grows : goal.returns-in-Err-Fault-clause-grows
returns-in-Err-Fault-clause-grows g c = grows_partly c.args.name.now c.args.bytes.now _ _ c.requires
    c.append.ensures.writes.front

pub returns-in-Err-NoMemory-clause-grows : goal.returns-in-Err-NoMemory-clause-grows
returns-in-Err-NoMemory-clause-grows g c = grows_partly c.args.name.now c.args.bytes.now _ _ c.requires
    c.append.ensures.writes.front
