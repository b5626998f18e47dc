use Rattle.std.proofs.Common.{◌≡◌, refl, ◌∙◌}
use Rattle.std.proofs.lemmas.Result.{err_from_is_err_and}
use Rattle.mr_tree.specs.declared.child.Child.{Child}
use Rattle.mr_tree.specs.declared.tree.Tree.{Tree}
use Rattle.mr_pages.specs.File.{file_of}
use Rattle.mr_pages.specs.Gathering.{MakesTree}
use Rattle.mr_pages.specs.PageBytes.{form_of}
use Rattle.mr_pages.proofs.HeadLaws.{form_is}
use Rattle.mr_pages.proofs.Answered.{told_err, told_ok, some_err, some_ok, tree_made}
use Rattle.mr_pages.proofs.whole.OpenedWhole.open_pages.Goals as goal

pub returns-in_err-checked-clause-told : goal.returns-in_err-checked-clause-told
returns-in_err-checked-clause-told g c =
    let p = err_from_is_err_and c.from_residual.result c.from_residual.ensures.1 in
    rw (p.1, p.2) (told_err (form_of c.args.layout) (form_is c.args.layout c.requires.layout) g.H.Hashes.of
    c.args.name.now (0, 0) c.args.pages (g.S.Shelf.state c.args.shelf.now)
    c.requires.paged Tree c.in_err-checked.field-0.0 c.in_err-checked.ensures.told)

pub returns-in_err-checked-clause-of_some_bytes : goal.returns-in_err-checked-clause-of_some_bytes
returns-in_err-checked-clause-of_some_bytes g c =
    let p = err_from_is_err_and c.from_residual.result c.from_residual.ensures.1 in
    rw (p.1, p.2) (some_err (form_of c.args.layout) (form_is c.args.layout c.requires.layout) g.H.Hashes.of
    c.args.name.now _ c.args.pages (g.S.Shelf.state c.args.shelf.now)
    c.requires.paged c.requires.some c.requires.few Tree _ c.in_err-checked.field-0.0 g.met.H.Hashes.sized
    c.in_err-checked.ensures.of_some_bytes)

pub returns-clause-told : goal.returns-clause-told
returns-clause-told g c =
    let form = form_of c.args.layout in
    told_ok form (form_is c.args.layout c.requires.layout) g.H.Hashes.of c.args.name.now (0, 0)
    c.args.pages (g.S.Shelf.state c.args.shelf.now) c.requires.paged Tree
    (MakesTree (λ (a b : Unit {0}) (d : Child) (m t : Tree). m ≡ t) tt tt)
    c.in_ok-checked.checked _ (record {
      version = refl;
      batch = refl;
      tree = λ bytes are checks made. c.tree_of.ensures ∙ tree_made tt tt c.in_ok-checked.checked.head.root
          c.in_ok-checked.checked.made (file_of form bytes) made;
    }) c.in_ok-checked.ensures.told c.in_ok-checked.ensures.made

pub returns-clause-of_some_bytes : goal.returns-clause-of_some_bytes
returns-clause-of_some_bytes g c =
    let form = form_of c.args.layout in
    some_ok form (form_is c.args.layout c.requires.layout) g.H.Hashes.of c.args.name.now _
    c.args.pages (g.S.Shelf.state c.args.shelf.now) c.requires.paged
    c.requires.some c.requires.few Tree
    (MakesTree (λ (a b : Unit {0}) (d : Child) (m t : Tree). m ≡ t) tt tt) c.in_ok-checked.checked _ (record {
      version = refl;
      batch = refl;
      tree = λ bytes are checks made. c.tree_of.ensures ∙ tree_made tt tt c.in_ok-checked.checked.head.root
          c.in_ok-checked.checked.made (file_of form bytes) made;
    }) c.in_ok-checked.ensures.of_some_bytes
