use Rattle.std.proofs.Common.{subst, ◌^◌, ◌<◌}
use Rattle.std.specs.Prelude.{Ok, Err}
use Rattle.mr_pages.specs.File.{version_of}
use Rattle.mr_pages.specs.Opening.{opened_of}
use Rattle.mr_command.proofs.Going.{is_judged, opens_map, opens_unopened}
use Rattle.mr_command.proofs.Versions.{in_own}
use Rattle.mr_command.proofs.snapshots.take_map.Goals as goal

pub returns-in-Ok-clause-takes : goal.returns-in-Ok-clause-takes
returns-in-Ok-clause-takes g c =
    let hash = g.H.Hashes.of in
    let e = c.in-Ok.ensures in
    let before = g.S.Shelf.state c.args.shelf.now in
    let map = opened_of c.in-Ok.nodes in
    opens_map hash c.args.name.now before (g.S.Shelf.state c.open_snapshot.new.shelf)
    (is_judged hash before.files c.args.name.now e.agrees (λ bytes are. e.law (version_of bytes) bytes are))
    map (
      e.exact,
      in_own hash (Ok map) e.version e.of_some_bytes,
      e.causes,
      e.files,
      e.reads,
      e.reads_at_most,
    )
    e.well_formed.0 e.well_formed.1 (subst (λ n. n < 2 ^ 64) c.map_batch.ensures c.is_word.ensures)

pub returns-in-Err-clause-takes : goal.returns-in-Err-clause-takes
returns-in-Err-clause-takes g c =
    let hash = g.H.Hashes.of in
    let e = c.in-Err.ensures in
    let before = g.S.Shelf.state c.args.shelf.now in
    opens_unopened hash c.args.name.now before (g.S.Shelf.state c.open_snapshot.new.shelf)
    (is_judged hash before.files c.args.name.now e.agrees (λ bytes are. e.law (version_of bytes) bytes are))
    c.in-Err.error c.unopened.result (
      e.exact,
      in_own hash (Err c.in-Err.error) e.version e.of_some_bytes,
      e.causes,
      e.files,
      e.reads,
      e.reads_at_most,
    )
    c.unopened.ensures
