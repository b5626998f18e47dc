use Rattle.std.proofs.Common.{◌≡◌, ◌∙◌, sym, subst, ap, refl}
use Rattle.std.specs.Prelude.{IfOk, OnOk}
use Rattle.mr_outside.specs.Files.{with_file}
use Rattle.mr_outside.specs.Writing.{IsChanged}
use Rattle.mr_record.specs.declared.version.Version.{Version}
use Rattle.mr_record.specs.declared.version.Version.TheVariants.{One, Two}
use Rattle.mr_tree.specs.Digest.{by, root}
use Rattle.mr_tree.specs.Leaves.{leaf_entries}
use Rattle.mr_tree.specs.WellFormed.{HasLayers}
use Rattle.mr_pages.specs.declared.layout.Layout.{Layout}
use Rattle.mr_pages.specs.Leaves.{KnowsFirst}
use Rattle.mr_pages.specs.PageBytes.{form_of, form_by, layout_by}
use Rattle.mr_pages.specs.Saved.{saved, MayStand, LeavesFile}
use Rattle.mr_pages.specs.Stands.{StandsForTree}
use Rattle.mr_pages.proofs.Imaged.{file_stands}
use Rattle.mr_pages.proofs.saving.save_rooted.Goals as goal

of_version : (v : Version) → (layout_by v).version ≡ v
of_version One = refl
of_version Two = refl

-- the layout is that of its version
same_version : (v : Version) (layout : Layout) → layout ≡ layout_by v → layout.version ≡ v
same_version v layout is = ap (λ (l : Layout). l.version) is ∙ of_version v

pub save_named-requires-clause-by_version : goal.save_named-requires-clause-by_version
save_named-requires-clause-by_version g c =
    let is = c.by.ensures.layout in is ∙ ap layout_by (sym (same_version c.args.version c.by.result is))

pub save_named-requires-clause-layers : goal.save_named-requires-clause-layers
save_named-requires-clause-layers g c =
    subst (λ (v : Version). HasLayers v c.args.tree.now)
    (sym (same_version c.args.version c.by.result c.by.ensures.layout)) c.requires.layers

pub save_named-requires-clause-known : goal.save_named-requires-clause-known
save_named-requires-clause-known g c =
    subst (λ (v : Version). KnowsFirst (leaf_entries (by v g.H.Hashes.of) c.args.tree.now) c.args.leaves.now)
    (sym (same_version c.args.version c.by.result c.by.ensures.layout)) c.requires.known

pub returns-clause-root : goal.returns-clause-root
returns-clause-root g c =
    subst (λ (v : Version). IfOk c.save_named.result (λ d. d ≡ root (by v g.H.Hashes.of) c.args.tree.now c.args.batch))
    (same_version c.args.version c.by.result c.by.ensures.layout) c.save_named.ensures.root

pub returns-clause-stands : goal.returns-clause-stands
returns-clause-stands g c =
    let hash = g.H.Hashes.of in
    let tree = c.args.tree.now in
    let batch = c.args.batch in
    let before = (g.S.Shelf.state c.args.shelf.now).files in
    let after = (g.S.Shelf.state c.save_named.new.shelf).files in
    file_stands (form_by c.args.version) hash tree batch c.args.name.now before after c.save_named.result
    (subst (λ (l : Layout). OnOk c.save_named.result (IsChanged (with_file c.args.name.now)
    (saved (form_of l) hash tree batch) before after)) c.by.ensures.layout c.save_named.ensures.whole)
    (subst (λ (l : Layout). StandsForTree (form_of l) hash (saved (form_of l) hash tree batch) tree batch)
    c.by.ensures.layout c.save_named.ensures.stands)

pub returns-clause-whole : goal.returns-clause-whole
returns-clause-whole g c =
    subst (λ (l : Layout). OnOk c.save_named.result (IsChanged (with_file c.args.name.now)
    (saved (form_of l) g.H.Hashes.of c.args.tree.now c.args.batch) (g.S.Shelf.state c.args.shelf.now).files
    (g.S.Shelf.state c.save_named.new.shelf).files)) c.by.ensures.layout c.save_named.ensures.whole

pub returns-clause-left : goal.returns-clause-left
returns-clause-left g c =
    subst (λ (l : Layout). LeavesFile (MayStand (form_of l) g.H.Hashes.of c.args.tree.now c.args.batch)
    c.args.name.now (g.S.Shelf.state c.args.shelf.now).files (g.S.Shelf.state c.save_named.new.shelf).files)
    c.by.ensures.layout c.save_named.ensures.left
