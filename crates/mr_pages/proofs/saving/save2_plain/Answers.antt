use Rattle.mr_outside.proofs.Changes.{OfFile-put}
use Rattle.mr_pages.proofs.Written.{causes_kept, causes_done, failed}
use Rattle.mr_pages.proofs.saving.save2_plain.Goals as goal
use Rattle.mr_pages.specs.PageBytes.{second_form}
use Rattle.mr_pages.specs.Saved.{saved}
use Rattle.mr_pages.specs.Stands.{StandsForTree}

pub returns-in_err-save_named-clause-causes : goal.returns-in_err-save_named-clause-causes
returns-in_err-save_named-clause-causes g c =
    let before = g.S.Shelf.state c.args.shelf.now in
    let after = g.S.Shelf.state c.save_named.new.shelf in
    let e = c.in_err-save_named.field-0.0 in
    failed c.from_residual.result e before after c.from_residual.ensures.1
    (causes_kept before after e c.in_err-save_named.ensures.causes)

pub returns-clause-stands : goal.returns-clause-stands
returns-clause-stands g c =
    let hash = g.H.Hashes.of in
    OfFile-put c.args.name.now (saved second_form hash c.args.tree.now c.args.batch) ⊥
    (λ bytes. StandsForTree second_form hash bytes c.args.tree.now c.args.batch)
    (g.S.Shelf.state c.args.shelf.now).files
    (g.S.Shelf.state c.save_named.new.shelf).files c.in_ok-save_named.ensures.whole c.save_named.ensures.stands

pub returns-clause-causes : goal.returns-clause-causes
returns-clause-causes g c =
    causes_done (g.S.Shelf.state c.args.shelf.now) (g.S.Shelf.state c.save_named.new.shelf) _ tt
    c.in_ok-save_named.ensures.causes
