use Rattle.std.proofs.Common.{ap, sym, ◌∙◌}
use Rattle.mr_journal.specs.Format.{opens}
use Rattle.mr_journal.proofs.Gating.{kept_done, shut_read, opened_read, carried_course, carried_done}
use Rattle.std.specs.Prelude.{option_map}
use Rattle.mr_journal.specs.private.Progress.{closed_by}
use Rattle.mr_journal.proofs.Leaving.{recovered_shut, recovered_open}
use Rattle.mr_journal.proofs.Quiet.{causes_as, causes_then}
use Rattle.mr_journal.proofs.Running.{answered}
use Rattle.mr_journal.proofs.recovery.redo.Goals as goal

pub returns-in-None-clause-done : goal.returns-in-None-clause-done
returns-in-None-clause-done g c only =
    let h = c.in_ok-held.held in
    kept_done _ _ _ _ (g.met.D.Disk.earlier c.read_journal.new.disk) c.read_journal.ensures.moves
    c.read_journal.ensures.contents only
    (shut_read h.journal.items h.map_length _ c.in_ok-held.ensures.held
    (ap (opens h.map_length) (sym c.as_slice.ensures.value) ∙ c.in-None.ensures))

pub returns-in_err-finish-in-Some-clause-any_moment : goal.returns-in_err-finish-in-Some-clause-any_moment
returns-in_err-finish-in-Some-clause-any_moment g c only =
    let h = c.in_ok-held.held in
    carried_course _ _ _ _ _ _ (g.met.D.Disk.earlier c.read_journal.new.disk) c.read_journal.ensures.moves
    c.in-Some.body.now c.finish.result (g.met.D.Disk.counts c.args.disk.now) only
    (opened_read h.journal.items h.map_length _ c.in-Some.body.now c.in_ok-held.ensures.held
    (sym c.as_slice.ensures.value ∙ c.in-Some.ensures.0) c.in-Some.ensures.1)
    c.finish.ensures.shut

pub returns-clause-any_moment : goal.returns-clause-any_moment
returns-clause-any_moment g c only =
    let h = c.in_ok-held.held in
    carried_course _ _ _ _ _ _ (g.met.D.Disk.earlier c.read_journal.new.disk) c.read_journal.ensures.moves
    c.in-Some.body.now c.finish.result (g.met.D.Disk.counts c.args.disk.now) only
    (opened_read h.journal.items h.map_length _ c.in-Some.body.now c.in_ok-held.ensures.held
    (sym c.as_slice.ensures.value ∙ c.in-Some.ensures.0) c.in-Some.ensures.1)
    c.finish.ensures.shut

pub returns-clause-done : goal.returns-clause-done
returns-clause-done g c only =
    let h = c.in_ok-held.held in
    carried_done _ _ _ _ _ _ (g.met.D.Disk.earlier c.read_journal.new.disk) c.read_journal.ensures.moves
    c.in-Some.body.now c.in_ok-finish-in-Some.field-0 only
    (opened_read h.journal.items h.map_length _ c.in-Some.body.now c.in_ok-held.ensures.held
    (sym c.as_slice.ensures.value ∙ c.in-Some.ensures.0) c.in-Some.ensures.1)
    c.in_ok-finish-in-Some.ensures.shut

pub returns-in-None-clause-left : goal.returns-in-None-clause-left
returns-in-None-clause-left g c =
    let h = c.in_ok-held.held in
    c.read_journal.ensures.contents
    ∙ recovered_shut (g.D.Disk.state c.args.disk.now).contents
    (shut_read h.journal.items h.map_length _ c.in_ok-held.ensures.held
    (ap (opens h.map_length) (sym c.as_slice.ensures.value) ∙ c.in-None.ensures))

pub returns-clause-left : goal.returns-clause-left
returns-clause-left g c =
    let h = c.in_ok-held.held in
    c.in_ok-finish-in-Some.ensures.left
    ∙ ap (option_map (closed_by c.in-Some.body.now)) c.read_journal.ensures.contents
    ∙ recovered_open c.in-Some.body.now (g.D.Disk.state c.args.disk.now).contents
    (opened_read h.journal.items h.map_length _ c.in-Some.body.now c.in_ok-held.ensures.held
    (sym c.as_slice.ensures.value ∙ c.in-Some.ensures.0) c.in-Some.ensures.1)

pub returns-clause-causes : goal.returns-clause-causes
returns-clause-causes g c =
    let done = c.in_ok-finish-in-Some.field-0 in
    causes_as _ _ done _
    (causes_then _ _ _ c.in_ok-held.held (answered done) c.in_ok-held.ensures.causes
    c.in_ok-finish-in-Some.ensures.causes)
