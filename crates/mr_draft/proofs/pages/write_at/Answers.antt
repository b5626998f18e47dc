use Rattle.std.proofs.Common.{◌*◌, refl, subst, arith}
use Rattle.mr_outside.specs.Files.{overwritten}
use Rattle.mr_outside.specs.Writing.{IsChanged}
use Rattle.mr_store.specs.CachedFile.{state_of, name_of}
use Rattle.mr_draft.proofs.Filed.{put_pages, put_others, put_whole, put_left, keeps}
use Rattle.mr_draft.proofs.Overwrites.{front_bytes, front_short}
use Rattle.mr_draft.proofs.pages.write_at.Goals as goal

pub returns-in-Ok-clause-pages : goal.returns-in-Ok-clause-pages
returns-in-Ok-clause-pages g c =
    let f = c.args.file.now in
    put_pages f.layout (state_of f).files (g.S.Shelf.state c.write_at.new.self).files (name_of f) f.pages c.args.page
    c.args.bytes.now c.requires.pages c.requires.low c.requires.within c.are_bytes.ensures
    (omega (arith, c.requires.size))
    (subst (λ n. IsChanged (overwritten n (c.args.page * f.layout.size)) c.args.bytes.now (state_of f).files
    (g.S.Shelf.state c.write_at.new.self).files) c.as_str.ensures.value c.in-Ok.ensures.writes.whole)

pub returns-in-Ok-clause-put : goal.returns-in-Ok-clause-put
returns-in-Ok-clause-put g c =
    let f = c.args.file.now in
    put_whole f.layout (state_of f).files (g.S.Shelf.state c.write_at.new.self).files (name_of f) f.pages c.args.page
    c.args.bytes.now c.requires.pages c.requires.low c.requires.within c.are_bytes.ensures
    (omega (arith, c.requires.size))
    (subst (λ n. IsChanged (overwritten n (c.args.page * f.layout.size)) c.args.bytes.now (state_of f).files
    (g.S.Shelf.state c.write_at.new.self).files) c.as_str.ensures.value c.in-Ok.ensures.writes.whole) c.requires.size

pub returns-in-Ok-clause-others : goal.returns-in-Ok-clause-others
returns-in-Ok-clause-others g c =
    let f = c.args.file.now in
    put_others f.layout (state_of f).files (g.S.Shelf.state c.write_at.new.self).files (name_of f) f.pages c.args.page
    c.args.bytes.now c.requires.pages c.requires.low c.requires.within c.are_bytes.ensures
    (omega (arith, c.requires.size))
    (subst (λ n. IsChanged (overwritten n (c.args.page * f.layout.size)) c.args.bytes.now (state_of f).files
    (g.S.Shelf.state c.write_at.new.self).files) c.as_str.ensures.value c.in-Ok.ensures.writes.whole)

pub returns-in-Ok-clause-kept : goal.returns-in-Ok-clause-kept
returns-in-Ok-clause-kept g c =
    let f = c.args.file.now in
    keeps f _ (record { name = refl; layout = refl; pages = refl })
    (put_left f.layout (state_of f).files (g.S.Shelf.state c.write_at.new.self).files (name_of f) f.pages c.args.page
    c.args.bytes.now c.requires.pages c.requires.low c.requires.within c.are_bytes.ensures
    (omega (arith, c.requires.size))
    (subst (λ n. IsChanged (overwritten n (c.args.page * f.layout.size)) c.args.bytes.now (state_of f).files
    (g.S.Shelf.state c.write_at.new.self).files) c.as_str.ensures.value c.in-Ok.ensures.writes.whole))
    c.in-Ok.ensures.causes.faults (omega (arith, c.in-Ok.ensures.writes.reads))

pub returns-in-Err-clause-pages : goal.returns-in-Err-clause-pages
returns-in-Err-clause-pages g c =
    let f = c.args.file.now in
    let p = c.in-Err.ensures.writes.front in
    put_pages f.layout (state_of f).files (g.S.Shelf.state c.write_at.new.self).files (name_of f) f.pages c.args.page
    p.front c.requires.pages c.requires.low c.requires.within
    (front_bytes c.args.bytes.now p.front p.rest p.whole c.are_bytes.ensures)
    (front_short f.layout.size c.args.bytes.now p.front p.rest p.whole c.requires.size)
    (subst (λ n. IsChanged (overwritten n (c.args.page * f.layout.size)) p.front (state_of f).files
    (g.S.Shelf.state c.write_at.new.self).files) c.as_str.ensures.value p.changed)

pub returns-in-Err-clause-others : goal.returns-in-Err-clause-others
returns-in-Err-clause-others g c =
    let f = c.args.file.now in
    let p = c.in-Err.ensures.writes.front in
    put_others f.layout (state_of f).files (g.S.Shelf.state c.write_at.new.self).files (name_of f) f.pages c.args.page
    p.front c.requires.pages c.requires.low c.requires.within
    (front_bytes c.args.bytes.now p.front p.rest p.whole c.are_bytes.ensures)
    (front_short f.layout.size c.args.bytes.now p.front p.rest p.whole c.requires.size)
    (subst (λ n. IsChanged (overwritten n (c.args.page * f.layout.size)) p.front (state_of f).files
    (g.S.Shelf.state c.write_at.new.self).files) c.as_str.ensures.value p.changed)

pub returns-in-Err-clause-kept : goal.returns-in-Err-clause-kept
returns-in-Err-clause-kept g c =
    let f = c.args.file.now in
    let p = c.in-Err.ensures.writes.front in
    keeps f _ (record { name = refl; layout = refl; pages = refl })
    (put_left f.layout (state_of f).files (g.S.Shelf.state c.write_at.new.self).files (name_of f) f.pages c.args.page
    p.front c.requires.pages c.requires.low c.requires.within
    (front_bytes c.args.bytes.now p.front p.rest p.whole c.are_bytes.ensures)
    (front_short f.layout.size c.args.bytes.now p.front p.rest p.whole c.requires.size)
    (subst (λ n. IsChanged (overwritten n (c.args.page * f.layout.size)) p.front (state_of f).files
    (g.S.Shelf.state c.write_at.new.self).files) c.as_str.ensures.value p.changed))
    c.in-Err.ensures.causes.faults (omega (arith, c.in-Err.ensures.writes.reads))
