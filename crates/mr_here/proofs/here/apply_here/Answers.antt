use Rattle.std.specs.Prelude.{List, ℕ}
use Rattle.mr_pages.specs.Law.{IsMapFile}
use Rattle.mr_here.specs.Updated.{map_after, Becomes, IsRefusal}
use Rattle.mr_here.proofs.Moments.{here_course, here_done, here_refused, stands_either, ends_always}
use Rattle.mr_here.proofs.Answering.{after_of, recovered_says, handed_on, judged_not, judged_then, nothing_said, still_then}
use Rattle.std.proofs.Common.{◌∙◌}
use Rattle.mr_here.specs.private.Forming.{of_disk}
use Rattle.mr_here.proofs.here.apply_here.Goals as goal

pub returns-clause-any_moment : goal.returns-clause-any_moment
returns-clause-any_moment g c =
    let laws = g.met.D.Disk in
    here_course _ _ _ _ _ _ (Becomes g.H.Hashes.of c.args.batch.now) (laws.earlier c.apply_settled.new.disk)
    (laws.held c.args.disk.now) (laws.held c.apply_settled.new.disk) (laws.counts c.args.disk.now)
    c.recover.ensures.any_moment c.in_ok-recover.ensures.done c.apply_settled.ensures.any_moment

pub returns-clause-done : goal.returns-clause-done
returns-clause-done g c =
    let laws = g.met.D.Disk in
    here_done _ _ _ _ _ _ (Becomes g.H.Hashes.of c.args.batch.now) (laws.earlier c.apply_settled.new.disk)
    (laws.held c.args.disk.now) (laws.held c.apply_settled.new.disk) (laws.counts c.args.disk.now)
    c.recover.ensures.any_moment c.in_ok-recover.ensures.done c.apply_settled.ensures.any_moment c.apply_settled.result
    c.apply_settled.ensures.done

pub returns-clause-refused : goal.returns-clause-refused
returns-clause-refused g c =
    let laws = g.met.D.Disk in
    here_refused _ _ _ _ _ _ (Becomes g.H.Hashes.of c.args.batch.now) (laws.earlier c.apply_settled.new.disk)
    (laws.held c.args.disk.now) (laws.held c.apply_settled.new.disk) (laws.counts c.args.disk.now)
    c.recover.ensures.any_moment c.in_ok-recover.ensures.done c.apply_settled.ensures.any_moment c.apply_settled.result
    IsRefusal c.apply_settled.ensures.refused

pub returns-clause-answer : goal.returns-clause-answer
returns-clause-answer g c =
    recovered_says g.H.Hashes.of c.args.batch.now _ _ _ c.apply_settled.result c.in_ok-recover.ensures.left
    c.apply_settled.ensures.answer

pub returns-clause-stands : goal.returns-clause-stands
returns-clause-stands g c m all x since =
    let hash = g.H.Hashes.of in
    let b = c.args.batch.now in
    let laws = g.met.D.Disk in
    stands_either (λ (l : List ℕ). IsMapFile hash l m) (λ (l : List ℕ). IsMapFile hash l (map_after m b)) _ _ _ _
    (Becomes hash b) (λ old new made is. after_of hash b old new made m is)
    (here_course _ _ _ _ _ _ (Becomes hash b) (laws.earlier c.apply_settled.new.disk)
    (laws.held c.args.disk.now) (laws.held c.apply_settled.new.disk) (laws.counts c.args.disk.now)
    c.recover.ensures.any_moment c.in_ok-recover.ensures.done c.apply_settled.ensures.any_moment)
    all x since

pub returns-clause-ends : goal.returns-clause-ends
returns-clause-ends g c m all =
    let hash = g.H.Hashes.of in
    let b = c.args.batch.now in
    let laws = g.met.D.Disk in
    ends_always c.apply_settled.result (λ (l : List ℕ). IsMapFile hash l m)
    (λ (l : List ℕ). IsMapFile hash l (map_after m b)) (g.D.Disk.state c.args.disk.now)
    (g.D.Disk.state c.apply_settled.new.disk) (g.D.Disk.images c.args.disk.now)
    (g.D.Disk.images c.apply_settled.new.disk) (Becomes hash b) (λ old new made is. after_of hash b old new made m is)
    (laws.counts c.args.disk.now)
    (here_done _ _ _ _ _ _ (Becomes hash b) (laws.earlier c.apply_settled.new.disk)
    (laws.held c.args.disk.now) (laws.held c.apply_settled.new.disk) (laws.counts c.args.disk.now)
    c.recover.ensures.any_moment c.in_ok-recover.ensures.done c.apply_settled.ensures.any_moment c.apply_settled.result
    c.apply_settled.ensures.done)
    all

pub returns-in_err-recover-clause-quiet : goal.returns-in_err-recover-clause-quiet
returns-in_err-recover-clause-quiet g c some =
    let d = c.in_err-recover.field-0.0 in
    judged_not _ d c.from_residual.result
    (handed_on c.from_residual.result (of_disk d) c.from_residual.ensures.1)

pub returns-clause-quiet : goal.returns-clause-quiet
returns-clause-quiet g c some =
    judged_then _ _ _ c.apply_settled.result (c.in_ok-recover.ensures.causes.quiet some)
    (c.apply_settled.ensures.quiet (c.recover.ensures.causes.told ∙ some))

pub returns-in_err-recover-clause-still : goal.returns-in_err-recover-clause-still
returns-in_err-recover-clause-still g c =
    let d = c.in_err-recover.field-0.0 in
    nothing_said _ d c.from_residual.result
    (handed_on c.from_residual.result (of_disk d) c.from_residual.ensures.1)

pub returns-clause-still : goal.returns-clause-still
returns-clause-still g c =
    still_then (g.D.Disk.state c.args.disk.now).contents c.in_ok-recover.field-0 c.apply_settled.result _ _ _
    (g.met.D.Disk.still_on c.args.disk.now c.recover.new.disk c.apply_settled.new.disk) c.in_ok-recover.ensures.answer
    c.in_ok-recover.ensures.still c.apply_settled.ensures.still
