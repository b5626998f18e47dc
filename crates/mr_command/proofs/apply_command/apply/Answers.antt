use Rattle.std.proofs.Common.{◌≡◌, ℕ, List, length}
use Rattle.mr_command.proofs.Applied.{opened_so, unopened_so}
use Rattle.mr_command.proofs.apply_command.apply.Given
use Rattle.mr_command.proofs.apply_command.apply.Goals as goal

sized : (g : Given.Over) → (xs : List ℕ) → length (g.H.Hashes.of xs) ≡ 32
sized g = (g.met.H.Hashes g.world.𝓛 g.world.𝓜 g.world.𝓡 ((λ s x. x), (λ x. x), (λ x. x), λ x. x)).sized

pub returns-in-Err : goal.returns-in-Err
returns-in-Err g c =
    unopened_so g.H.Hashes.of (sized g) c.args.old.now c.args.batch.now c.args.new.now
    (g.S.Shelf.state c.args.shelf) (g.S.Shelf.state c.in-Err.shelf) c.in-Err.error c.unopened.result
    c.in-Err.ensures.opened c.unopened.ensures

pub returns-in-Ok : goal.returns-in-Ok
returns-in-Ok g c =
    opened_so g.H.Hashes.of (sized g) c.args.old.now c.args.batch.now c.args.new.now
    (g.S.Shelf.state c.args.shelf) c.in-Ok.paged (g.S.Shelf.state c.apply_file.result.1) c.in-Ok.ensures.opened
    c.apply_file.result.0 c.apply_file.ensures
