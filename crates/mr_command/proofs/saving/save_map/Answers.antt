use Rattle.std.proofs.Common.{refl, sym, ap, subst}
use Rattle.mr_command.specs.Ending.{RunsPlan}
use Rattle.mr_plan.specs.Lines.{digest_line}
use Rattle.mr_plan.specs.Outcome.{map_of}
use Rattle.mr_plan.specs.Plan.{comes}
use Rattle.mr_plan.specs.Say.{prints, say_map}
use Rattle.mr_command.proofs.Going.{halted_is, comes_told, comes_unsaved}
use Rattle.mr_command.proofs.saving.save_map.Goals as goal

pub returns-in_err-root : goal.returns-in_err-root
returns-in_err-root g c =
    let hash = g.H.Hashes.of in
    let said = say_map c.args.version hash c.args.name.now c.args.tree.now c.args.batch in
    let before = g.S.Shelf.state c.args.shelf.now in
    let after = g.S.Shelf.state c.save.new.shelf in
    subst (RunsPlan (comes said) before after)
    (sym (halted_is c.from_residual.result c.in_err-root.field-0.0 c.from_residual.ensures.1))
    (comes_unsaved c.args.name.now (map_of c.args.version hash c.args.tree.now c.args.batch) said before after
    c.in_err-root.field-0.0 refl c.in_err-root.ensures.saved)

pub returns : goal.returns
returns g c =
    let hash = g.H.Hashes.of in
    let root = c.in_ok-root.root in
    comes_told c.args.name.now (map_of c.args.version hash c.args.tree.now c.args.batch)
    (say_map c.args.version hash c.args.name.now c.args.tree.now c.args.batch) (prints (digest_line root))
    (g.S.Shelf.state c.args.shelf.now) (g.S.Shelf.state c.save.new.shelf) tt c.say_root.result refl refl
    (ap digest_line c.in_ok-root.ensures.root) c.say_root.ensures.gives c.in_ok-root.ensures.saved
