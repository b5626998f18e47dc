use Rattle.std.proofs.Common.{◌∙◌, ◌+◌, ◌≤◌, length, refl, subst, ap, arith}
use Rattle.std.specs.Prelude.{option_map}
use Rattle.mr_outside.specs.Files.{overwritten, replaced}
use Rattle.mr_outside.specs.Writing.{IsChangedPartly}
use Rattle.mr_outside.proofs.Changes.{IsChanged-overwritten}
use Rattle.mr_pages.proofs.Written.{untouched, room_there, not_over, over_whole, causes_there, failed, on_ok}
use Rattle.mr_pages.proofs.saving.seal.Goals as goal

pub returns-in_err-sync-clause-front : goal.returns-in_err-sync-clause-front
returns-in_err-sync-clause-front g c =
    not_over c.args.name.now c.args.head.now 0 (g.S.Shelf.state c.args.shelf.now).files
    (g.S.Shelf.state c.sync.new.self).files c.in_err-sync.ensures.files

pub returns-in_err-sync-clause-causes : goal.returns-in_err-sync-clause-causes
returns-in_err-sync-clause-causes g c =
    let before = g.S.Shelf.state c.args.shelf.now in
    let after = g.S.Shelf.state c.sync.new.self in
    let u = untouched before.files c.args.name.now _ c.requires in
    failed c.from_residual.result c.in_err-sync.field-0.0 before after c.from_residual.ensures.1
    (causes_there c.args.name.now u.0 before before after _ u.1 refl c.in_err-sync.ensures.causes)

pub write_at-requires : goal.write_at-requires
write_at-requires g c =
    room_there (g.S.Shelf.state c.args.shelf.now).files (g.S.Shelf.state c.sync.new.self).files c.args.name.now
    (λ held. length c.args.head.now ≤ length held) (λ held. 0 + length c.args.head.now ≤ length held)
    (λ held h. omega (arith, h)) c.in_ok-sync.ensures.files c.requires

pub returns-in_err-write_at-clause-front : goal.returns-in_err-write_at-clause-front
returns-in_err-write_at-clause-front g c =
    subst (λ o. IsChangedPartly (overwritten c.args.name.now 0) c.args.head.now o
    (g.S.Shelf.state c.write_at.new.self).files) c.in_ok-sync.ensures.files c.in_err-write_at.ensures.writes.front

pub returns-in_err-write_at-clause-causes : goal.returns-in_err-write_at-clause-causes
returns-in_err-write_at-clause-causes g c =
    let before = g.S.Shelf.state c.args.shelf.now in
    let now = g.S.Shelf.state c.sync.new.self in
    let after = g.S.Shelf.state c.write_at.new.self in
    let u = untouched before.files c.args.name.now _ c.requires in
    failed c.from_residual-in_err-write_at.result c.in_err-write_at.field-0.0 before after
    c.from_residual-in_err-write_at.ensures.1
    (causes_there c.args.name.now u.0 before now after _ (c.in_ok-sync.ensures.files ∙ u.1)
    c.in_ok-sync.ensures.causes.quiet c.in_err-write_at.ensures.causes)

pub returns-clause-whole : goal.returns-clause-whole
returns-clause-whole g c =
    on_ok c.sync-2.result
    (c.sync-2.ensures.files ∙ c.in_ok-write_at.ensures.writes.whole
    ∙ ap (option_map (overwritten c.args.name.now 0 c.args.head.now)) c.in_ok-sync.ensures.files)

pub returns-clause-front : goal.returns-clause-front
returns-clause-front g c =
    over_whole c.args.name.now c.args.head.now 0 (g.S.Shelf.state c.args.shelf.now).files
    (g.S.Shelf.state c.sync-2.new.self).files
    (c.sync-2.ensures.files ∙ c.in_ok-write_at.ensures.writes.whole
    ∙ ap (option_map (overwritten c.args.name.now 0 c.args.head.now)) c.in_ok-sync.ensures.files)

pub returns-clause-causes : goal.returns-clause-causes
returns-clause-causes g c =
    let name = c.args.name.now in
    let head = c.args.head.now in
    let before = g.S.Shelf.state c.args.shelf.now in
    let now = g.S.Shelf.state c.sync.new.self in
    let written = g.S.Shelf.state c.write_at.new.self in
    let u = untouched before.files name _ c.requires in
    causes_there name (replaced 0 head u.0) before written (g.S.Shelf.state c.sync-2.new.self) c.sync-2.result
    (IsChanged-overwritten name 0 u.0 head before.files now.files written.files (c.in_ok-sync.ensures.files ∙ u.1)
    c.in_ok-write_at.ensures.writes.whole)
    (c.in_ok-write_at.ensures.causes.quiet ∙ c.in_ok-sync.ensures.causes.quiet) c.sync-2.ensures.causes
