use Rattle.mr_journal.proofs.Running.{answered}
use Rattle.mr_here.specs.Updated.{Becomes}
use Rattle.mr_here.specs.private.Forming.{of_disk}
use Rattle.mr_here.proofs.Moments.{edit_course, edit_done, still_settled, body_at, makes_at}
use Rattle.mr_here.proofs.Answering.{disk_says, hindered_says, updated_says, formed_becomes, said_any, handed_on, begins_at, disk_some, nothing_said, hindered_some, updated_some, judged_any, judged_not}
use Rattle.std.proofs.Common.{◌∙◌}
use Rattle.mr_here.proofs.here.apply_settled.Goals as goal

pub returns-in_err-write_pages-clause-any_moment : goal.returns-in_err-write_pages-clause-any_moment
returns-in_err-write_pages-clause-any_moment g c map all =
    let hash = g.H.Hashes.of in
    let b = c.args.batch.now in
    let formed = c.in_ok-formed.ensures.formed in
    let laws = g.met.D.Disk in
    edit_course _ _ _ _ _ _ (Becomes hash b) (laws.earlier c.read_map.new.disk) (laws.earlier c.write_pages.new.disk)
    (laws.held c.write_pages.new.disk) (laws.counts c.args.disk.now) c.read_map.ensures.moves
    c.read_map.ensures.contents
    c.as_slice.result.now c.in_ok-map.map.items
    c.in_ok-map.ensures.map
    (body_at c.in_ok-map.map.items _ _ c.as_slice.ensures.value formed.change.fit)
    (makes_at (Becomes hash b) c.in_ok-map.map.items _ _ c.as_slice.ensures.value
    (formed_becomes hash b c.in_ok-map.map.items _ c.in_ok-formed.formed.root formed))
    c.write_pages.result c.write_pages.ensures.shut map all

pub returns-clause-any_moment : goal.returns-clause-any_moment
returns-clause-any_moment g c map all =
    let hash = g.H.Hashes.of in
    let b = c.args.batch.now in
    let formed = c.in_ok-formed.ensures.formed in
    let laws = g.met.D.Disk in
    edit_course _ _ _ _ _ _ (Becomes hash b) (laws.earlier c.read_map.new.disk) (laws.earlier c.write_pages.new.disk)
    (laws.held c.write_pages.new.disk) (laws.counts c.args.disk.now) c.read_map.ensures.moves
    c.read_map.ensures.contents
    c.as_slice.result.now c.in_ok-map.map.items
    c.in_ok-map.ensures.map
    (body_at c.in_ok-map.map.items _ _ c.as_slice.ensures.value formed.change.fit)
    (makes_at (Becomes hash b) c.in_ok-map.map.items _ _ c.as_slice.ensures.value
    (formed_becomes hash b c.in_ok-map.map.items _ c.in_ok-formed.formed.root formed))
    c.write_pages.result c.write_pages.ensures.shut map all

pub returns-clause-done : goal.returns-clause-done
returns-clause-done g c map all =
    let hash = g.H.Hashes.of in
    let b = c.args.batch.now in
    let formed = c.in_ok-formed.ensures.formed in
    let laws = g.met.D.Disk in
    edit_done _ _ _ _ _ _ (Becomes hash b) (laws.earlier c.read_map.new.disk) (laws.earlier c.write_pages.new.disk)
    (laws.held c.write_pages.new.disk) (laws.counts c.args.disk.now) c.read_map.ensures.moves
    c.read_map.ensures.contents
    c.as_slice.result.now c.in_ok-map.map.items
    c.in_ok-map.ensures.map
    (body_at c.in_ok-map.map.items _ _ c.as_slice.ensures.value formed.change.fit)
    (makes_at (Becomes hash b) c.in_ok-map.map.items _ _ c.as_slice.ensures.value
    (formed_becomes hash b c.in_ok-map.map.items _ c.in_ok-formed.formed.root formed))
    (answered c.in_ok-write_pages.field-0) c.in_ok-write_pages.ensures.shut map all

pub returns-in_err-formed-clause-refused : goal.returns-in_err-formed-clause-refused
returns-in_err-formed-clause-refused g c map all =
    said_any c.from_residual-in_err-formed.result _
    (still_settled _ _ _ _ map (g.met.D.Disk.earlier c.read_map.new.disk) c.read_map.ensures.moves
    c.read_map.ensures.contents all)

pub returns-in_err-formed-clause-answer : goal.returns-in_err-formed-clause-answer
returns-in_err-formed-clause-answer g c =
    let e = c.in_err-formed.field-0.0 in
    hindered_says g.H.Hashes.of c.args.batch.now _ _ c.in_ok-map.map.items e c.from_residual-in_err-formed.result
    c.read_map.ensures.contents
    c.in_ok-map.ensures.map
    c.in_err-formed.ensures.refused
    (handed_on c.from_residual-in_err-formed.result e c.from_residual-in_err-formed.ensures.1)

pub write_pages-requires-clause-begins : goal.write_pages-requires-clause-begins
write_pages-requires-clause-begins g c =
    let formed = c.in_ok-formed.ensures.formed in
    begins_at _ _ c.in_ok-map.map.items c.as_slice.result.now c.read_map.ensures.contents
    c.in_ok-map.ensures.map
    (body_at c.in_ok-map.map.items _ _ c.as_slice.ensures.value formed.change.fit)

pub returns-in_err-write_pages-clause-answer : goal.returns-in_err-write_pages-clause-answer
returns-in_err-write_pages-clause-answer g c =
    let d = c.in_err-write_pages.field-0.0 in
    disk_says g.H.Hashes.of c.args.batch.now _ _ d c.from_residual-in_err-write_pages.result
    (handed_on c.from_residual-in_err-write_pages.result (of_disk d) c.from_residual-in_err-write_pages.ensures.1)

pub returns-clause-answer : goal.returns-clause-answer
returns-clause-answer g c =
    updated_says g.H.Hashes.of c.args.batch.now _ _ _ c.in_ok-map.map.items c.in_ok-formed.formed.body.items
    c.as_slice.result.now c.in_ok-formed.formed.root c.read_map.ensures.contents c.as_slice.ensures.value
    c.in_ok-write_pages.ensures.left
    c.in_ok-map.ensures.map
    c.in_ok-formed.ensures.formed

pub returns-in_err-formed-clause-some : goal.returns-in_err-formed-clause-some
returns-in_err-formed-clause-some g c =
    let e = c.in_err-formed.field-0.0 in
    hindered_some g.H.Hashes.of c.args.batch.now c.in_ok-map.map.items e c.from_residual-in_err-formed.result
    c.form.ensures.bytes c.in_err-formed.ensures.refused
    (handed_on c.from_residual-in_err-formed.result e c.from_residual-in_err-formed.ensures.1)

pub returns-clause-some : goal.returns-clause-some
returns-clause-some g c =
    updated_some g.H.Hashes.of c.args.batch.now c.in_ok-map.map.items c.in_ok-formed.formed.body.items
    c.in_ok-formed.formed.root c.form.ensures.bytes c.in_ok-formed.ensures.formed

pub returns-in_err-write_pages-clause-refused : goal.returns-in_err-write_pages-clause-refused
returns-in_err-write_pages-clause-refused g c map all =
    let d = c.in_err-write_pages.field-0.0 in
    nothing_said _ d c.from_residual-in_err-write_pages.result
    (handed_on c.from_residual-in_err-write_pages.result (of_disk d) c.from_residual-in_err-write_pages.ensures.1)

pub returns-in_err-write_pages-clause-some : goal.returns-in_err-write_pages-clause-some
returns-in_err-write_pages-clause-some g c =
    let d = c.in_err-write_pages.field-0.0 in
    disk_some g.H.Hashes.of c.args.batch.now d c.from_residual-in_err-write_pages.result
    (handed_on c.from_residual-in_err-write_pages.result (of_disk d) c.from_residual-in_err-write_pages.ensures.1)

pub returns-in_err-write_pages-clause-kept : goal.returns-in_err-write_pages-clause-kept
returns-in_err-write_pages-clause-kept g c =
    g.met.D.Disk.kept_on c.args.disk.now c.read_map.new.disk c.write_pages.new.disk c.read_map.ensures.kept
    c.write_pages.ensures.kept

pub returns-clause-kept : goal.returns-clause-kept
returns-clause-kept g c =
    g.met.D.Disk.kept_on c.args.disk.now c.read_map.new.disk c.write_pages.new.disk c.read_map.ensures.kept
    c.write_pages.ensures.kept

pub returns-in_err-map-clause-quiet : goal.returns-in_err-map-clause-quiet
returns-in_err-map-clause-quiet g c some =
    let d = c.in_err-map.field-0.0 in
    judged_not _ d c.from_residual.result
    (handed_on c.from_residual.result (of_disk d) c.from_residual.ensures.1)

pub returns-in_err-formed-clause-quiet : goal.returns-in_err-formed-clause-quiet
returns-in_err-formed-clause-quiet g c some =
    judged_any c.from_residual-in_err-formed.result _ (c.in_ok-map.ensures.causes.quiet some)

pub returns-in_err-write_pages-clause-quiet : goal.returns-in_err-write_pages-clause-quiet
returns-in_err-write_pages-clause-quiet g c some =
    let d = c.in_err-write_pages.field-0.0 in
    judged_not _ d c.from_residual-in_err-write_pages.result
    (handed_on c.from_residual-in_err-write_pages.result (of_disk d) c.from_residual-in_err-write_pages.ensures.1)

pub returns-clause-quiet : goal.returns-clause-quiet
returns-clause-quiet g c some =
    c.in_ok-write_pages.ensures.causes.quiet (c.read_map.ensures.causes.told ∙ some)
    ∙ c.in_ok-map.ensures.causes.quiet some

pub returns-in_err-map-clause-still : goal.returns-in_err-map-clause-still
returns-in_err-map-clause-still g c =
    let d = c.in_err-map.field-0.0 in
    nothing_said _ d c.from_residual.result
    (handed_on c.from_residual.result (of_disk d) c.from_residual.ensures.1)

pub returns-in_err-formed-clause-still : goal.returns-in_err-formed-clause-still
returns-in_err-formed-clause-still g c = said_any c.from_residual-in_err-formed.result _ c.read_map.ensures.still

pub returns-in_err-write_pages-clause-still : goal.returns-in_err-write_pages-clause-still
returns-in_err-write_pages-clause-still g c =
    let d = c.in_err-write_pages.field-0.0 in
    nothing_said _ d c.from_residual-in_err-write_pages.result
    (handed_on c.from_residual-in_err-write_pages.result (of_disk d) c.from_residual-in_err-write_pages.ensures.1)
