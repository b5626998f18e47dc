use Rattle.std.proofs.Common.{List, ℕ, sym, subst}
use Rattle.std.specs.Prelude.{Result}
use Rattle.mr_command.specs.Ending.{halt_of}
use Rattle.mr_command.specs.private.Steps.{SavesFile, done_of}
use Rattle.mr_command.specs.declared.ending.Halt.{Halt}
use Rattle.mr_plan.specs.Outcome.{map_of}
use Rattle.mr_command.proofs.Going.{IsSized, halted_is, saved_so, unsaved_by}
use Rattle.mr_command.proofs.saving.save.Given
use Rattle.mr_command.proofs.saving.save.Goals as goal

sized : (g : Given.Over) → IsSized g.H.Hashes.of
sized g = (g.met.H.Hashes g.world.𝓛 g.world.𝓜 g.world.𝓡 ((λ s x. x), (λ x. x), (λ x. x), λ x. x)).sized

pub returns-in_err-save_rooted-clause-saved : goal.returns-in_err-save_rooted-clause-saved
returns-in_err-save_rooted-clause-saved g c =
    let v = c.args.version in
    let hash = g.H.Hashes.of in
    let tree = c.args.tree.now in
    let before = g.S.Shelf.state c.args.shelf.now in
    let after = g.S.Shelf.state c.save_rooted.new.shelf in
    let error = c.in_err-save_rooted.field-0.0 in
    subst (λ (r : Result (List ℕ) Halt). SavesFile c.args.name.now (map_of v hash tree c.args.batch) before after
    (done_of r))
    (sym (halted_is c.from_residual.result (halt_of error) c.from_residual.ensures.1))
    (unsaved_by v hash (sized g) c.args.name.now tree c.args.batch before after c.requires.well_formed
    c.requires.layers c.ranges.batch.fits error c.save_rooted.ensures.reads c.in_err-save_rooted.ensures.causes
    c.save_rooted.ensures.left)

pub returns-clause-saved : goal.returns-clause-saved
returns-clause-saved g c =
    saved_so c.args.version g.H.Hashes.of (sized g) c.args.name.now c.args.tree.now c.args.batch
    (g.S.Shelf.state c.args.shelf.now) (g.S.Shelf.state c.save_rooted.new.shelf) c.requires.well_formed
    c.requires.layers c.ranges.batch.fits tt c.save_rooted.ensures.causes.faults c.save_rooted.ensures.reads
    c.in_ok-save_rooted.ensures.causes.quiet c.in_ok-save_rooted.ensures.whole
