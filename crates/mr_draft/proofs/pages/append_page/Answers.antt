use Rattle.std.proofs.Common.{[], refl, sym, ap, subst, ◌∙◌, append-nil, arith}
use Rattle.mr_outside.specs.Files.{grown}
use Rattle.mr_outside.specs.Writing.{IsChanged}
use Rattle.mr_store.specs.CachedFile.{state_of, name_of}
use Rattle.mr_draft.specs.Sheets.{zeros}
use Rattle.mr_draft.proofs.Filed.{add_pages, add_loses, add_more, add_longer, add_left, keeps}
use Rattle.mr_draft.proofs.Overwrites.{front_zeros}
use Rattle.mr_draft.proofs.pages.append_page.Goals as goal

pub returns-in-Ok-clause-more : goal.returns-in-Ok-clause-more
returns-in-Ok-clause-more g c =
    let f = c.args.file.now in
    add_more f.layout (state_of f).files (g.S.Shelf.state c.append.new.self).files (name_of f) f.pages
    c.clear.new.page c.requires.pages
    (subst (λ n. IsChanged (grown n) c.clear.new.page (state_of f).files
    (g.S.Shelf.state c.append.new.self).files) c.as_str.ensures.value c.in-Ok.ensures.writes.whole)
    c.requires.few (c.clear.ensures ∙ ap zeros c.split_at_mut-page.ensures.front_len)

pub returns-in-Ok-clause-pages : goal.returns-in-Ok-clause-pages
returns-in-Ok-clause-pages g c =
    let f = c.args.file.now in
    add_pages f.layout (state_of f).files (g.S.Shelf.state c.append.new.self).files (name_of f) f.pages
    c.clear.new.page c.requires.pages
    (subst (λ n. IsChanged (grown n) c.clear.new.page (state_of f).files
    (g.S.Shelf.state c.append.new.self).files) c.as_str.ensures.value c.in-Ok.ensures.writes.whole)
    (front_zeros f.layout.size c.clear.new.page c.clear.new.page [] (sym (append-nil c.clear.new.page))
    (c.clear.ensures ∙ ap zeros c.split_at_mut-page.ensures.front_len))

pub returns-in-Ok-clause-told : goal.returns-in-Ok-clause-told
returns-in-Ok-clause-told g c =
    let f = c.args.file.now in
    add_longer f.layout (state_of f).files (g.S.Shelf.state c.append.new.self).files (name_of f) f.pages
    c.clear.new.page c.requires.pages
    (subst (λ n. IsChanged (grown n) c.clear.new.page (state_of f).files
    (g.S.Shelf.state c.append.new.self).files) c.as_str.ensures.value c.in-Ok.ensures.writes.whole)
    (c.clear.ensures ∙ ap zeros c.split_at_mut-page.ensures.front_len)

pub returns-in-Ok-clause-kept : goal.returns-in-Ok-clause-kept
returns-in-Ok-clause-kept g c =
    let f = c.args.file.now in
    keeps f _ (record { name = refl; layout = refl; pages = refl })
    (add_left f.layout (state_of f).files (g.S.Shelf.state c.append.new.self).files (name_of f) f.pages
    c.clear.new.page c.requires.pages
    (subst (λ n. IsChanged (grown n) c.clear.new.page (state_of f).files
    (g.S.Shelf.state c.append.new.self).files) c.as_str.ensures.value c.in-Ok.ensures.writes.whole))
    c.in-Ok.ensures.causes.faults (omega (arith, c.in-Ok.ensures.writes.reads))

pub returns-in-Err-clause-pages : goal.returns-in-Err-clause-pages
returns-in-Err-clause-pages g c =
    let f = c.args.file.now in
    let p = c.in-Err.ensures.writes.front in
    add_pages f.layout (state_of f).files (g.S.Shelf.state c.append.new.self).files (name_of f) f.pages
    p.front c.requires.pages
    (subst (λ n. IsChanged (grown n) p.front (state_of f).files
    (g.S.Shelf.state c.append.new.self).files) c.as_str.ensures.value p.changed)
    (front_zeros f.layout.size c.clear.new.page p.front p.rest p.whole
    (c.clear.ensures ∙ ap zeros c.split_at_mut-page.ensures.front_len))

pub returns-in-Err-clause-loses : goal.returns-in-Err-clause-loses
returns-in-Err-clause-loses g c =
    let f = c.args.file.now in
    let p = c.in-Err.ensures.writes.front in
    add_loses f.layout (state_of f).files (g.S.Shelf.state c.append.new.self).files (name_of f) f.pages
    p.front c.requires.pages
    (subst (λ n. IsChanged (grown n) p.front (state_of f).files
    (g.S.Shelf.state c.append.new.self).files) c.as_str.ensures.value p.changed)

pub returns-in-Err-clause-kept : goal.returns-in-Err-clause-kept
returns-in-Err-clause-kept g c =
    let f = c.args.file.now in
    let p = c.in-Err.ensures.writes.front in
    keeps f _ (record { name = refl; layout = refl; pages = refl })
    (add_left f.layout (state_of f).files (g.S.Shelf.state c.append.new.self).files (name_of f) f.pages
    p.front c.requires.pages
    (subst (λ n. IsChanged (grown n) p.front (state_of f).files
    (g.S.Shelf.state c.append.new.self).files) c.as_str.ensures.value p.changed))
    c.in-Err.ensures.causes.faults (omega (arith, c.in-Err.ensures.writes.reads))
