use Rattle.std.proofs.Common.{◌≤◌, ◌^◌, ◌<◌, ◌∙◌, ℕ, List, length, refl, ap, arith}
use Rattle.std.specs.Prelude.{Result, Ok, Err}
use Rattle.mr_outside.proofs.Changes.{OfFile-put}
use Rattle.mr_outside.specs.declared.shelf.ShelfErr.{ShelfErr}
use Rattle.mr_outside.specs.declared.shelf.ShelfErr.TheVariants as shelf
use Rattle.mr_pages.specs.Making.{IsBegun}
use Rattle.mr_pages.specs.PageBytes.{form_of, head_page}
use Rattle.mr_pages.specs.Saved.{MayStand, saved_pages}
use Rattle.mr_pages.proofs.HeadLaws.{form_is}
use Rattle.mr_pages.proofs.Imaged.{begun_stands, seal_leaves, seal_whole, leaves_as, head_is}
use Rattle.mr_pages.proofs.SavedStands.{saved_stands}
use Rattle.mr_pages.proofs.Short.{at_least}
use Rattle.mr_pages.proofs.Rooted.{root_said}
use Rattle.mr_pages.proofs.Written.{causes_from, causes_given_up, causes_no_memory, causes_kept, causes_done, failed}
use Rattle.mr_pages.proofs.saving.save_named.Goals as goal

pub returns-in_err-first-clause-stands : goal.returns-in_err-first-clause-stands
returns-in_err-first-clause-stands g c =
    let low : c.args.batch < 2 ^ 64 = omega (arith, c.ranges.batch) in
    saved_stands (form_of c.args.layout) (form_is c.args.layout c.requires.layout) g.H.Hashes.of
    g.met.H.Hashes.sized c.args.tree.now c.args.batch c.requires.well c.requires.layers low

pub returns-in_err-first-clause-causes : goal.returns-in_err-first-clause-causes
returns-in_err-first-clause-causes g c =
    let before = g.S.Shelf.state c.args.shelf.now in
    failed c.from_residual.result shelf.NoMemory before before c.from_residual.ensures.1
    (causes_no_memory before before refl)

pub returns-in_err-root-clause-stands : goal.returns-in_err-root-clause-stands
returns-in_err-root-clause-stands g c =
    let low : c.args.batch < 2 ^ 64 = omega (arith, c.ranges.batch) in
    saved_stands (form_of c.args.layout) (form_is c.args.layout c.requires.layout) g.H.Hashes.of
    g.met.H.Hashes.sized c.args.tree.now c.args.batch c.requires.well c.requires.layers low

pub returns-in_err-root-clause-left : goal.returns-in_err-root-clause-left
returns-in_err-root-clause-left g c =
    let form = form_of c.args.layout in
    leaves_as (IsBegun c.args.layout.size) (MayStand form g.H.Hashes.of c.args.tree.now c.args.batch)
    (begun_stands c.args.layout c.requires.layout c.requires.by_version g.H.Hashes.of c.args.tree.now c.args.batch)
    c.args.name.now (g.S.Shelf.state c.args.shelf.now).files (g.S.Shelf.state c.make_nodes.new.shelf).files
    c.in_err-root.ensures.left

pub returns-in_err-root-clause-causes : goal.returns-in_err-root-clause-causes
returns-in_err-root-clause-causes g c =
    let before = g.S.Shelf.state c.args.shelf.now in
    let after = g.S.Shelf.state c.make_nodes.new.shelf in
    let e = c.in_err-root.field-0.0 in
    failed c.from_residual-in_err-root.result e before after c.from_residual-in_err-root.ensures.1
    (causes_given_up c.args.layout.size c.args.name.now before after e c.in_err-root.ensures)

pub seal-requires : goal.seal-requires
seal-requires g c =
    let made = c.in_ok-root.ensures in
    OfFile-put c.args.name.now made.bytes ⊥ (λ held. length c.deref.result.now ≤ length held)
    (g.S.Shelf.state c.args.shelf.now).files (g.S.Shelf.state c.make_nodes.new.shelf).files made.made.files
    (omega (
      arith,
      ap length c.deref.ensures.value,
      c.put_first.ensures.size,
      made.image.size,
      at_least (saved_pages c.args.tree.now) c.args.layout.size (omega arith),
    ))

pub returns-in_err-seal-clause-stands : goal.returns-in_err-seal-clause-stands
returns-in_err-seal-clause-stands g c =
    let low : c.args.batch < 2 ^ 64 = omega (arith, c.ranges.batch) in
    saved_stands (form_of c.args.layout) (form_is c.args.layout c.requires.layout) g.H.Hashes.of
    g.met.H.Hashes.sized c.args.tree.now c.args.batch c.requires.well c.requires.layers low

pub returns-in_err-seal-clause-left : goal.returns-in_err-seal-clause-left
returns-in_err-seal-clause-left g c =
    let form = form_of c.args.layout in
    let made = c.in_ok-root.ensures in
    let head = c.deref.ensures.value ∙ c.put_first.ensures.page ∙ ap (head_page c.args.layout)
    (head_is form g.H.Hashes.of c.args.tree.now c.args.batch c.count.result c.in_ok-root.pages made.bytes
    c.in_ok-root.root made.image c.count.ensures made.count) in
    seal_leaves c.args.layout c.requires.layout c.requires.by_version g.H.Hashes.of c.args.tree.now
    c.args.batch made.bytes
    c.deref.result.now c.in_ok-root.root made.image head (ap length c.deref.ensures.value ∙ c.put_first.ensures.size)
    c.args.name.now (g.S.Shelf.state c.args.shelf.now).files (g.S.Shelf.state c.make_nodes.new.shelf).files
    (g.S.Shelf.state c.seal.new.shelf).files made.made.files c.seal.ensures.front

pub returns-in_err-seal-clause-causes : goal.returns-in_err-seal-clause-causes
returns-in_err-seal-clause-causes g c =
    let before = g.S.Shelf.state c.args.shelf.now in
    let after = g.S.Shelf.state c.seal.new.shelf in
    let e = c.in_err-seal.field-0.0 in
    failed c.from_residual-in_err-seal.result e before after c.from_residual-in_err-seal.ensures.1
    (causes_kept before after e
    (causes_from c.args.name.now c.in_ok-root.ensures.bytes before (g.S.Shelf.state c.make_nodes.new.shelf) after
    (Err e)
    c.in_ok-root.ensures.made.files c.in_ok-root.ensures.made.faults
    c.in_err-seal.ensures.causes))

pub returns-clause-whole : goal.returns-clause-whole
returns-clause-whole g c =
    let form = form_of c.args.layout in
    let made = c.in_ok-root.ensures in
    let head = c.deref.ensures.value ∙ c.put_first.ensures.page ∙ ap (head_page c.args.layout)
    (head_is form g.H.Hashes.of c.args.tree.now c.args.batch c.count.result c.in_ok-root.pages made.bytes
    c.in_ok-root.root made.image c.count.ensures made.count) in
    let answer : Result (List ℕ) ShelfErr = Ok c.head_root.result in
    seal_whole c.args.layout c.requires.layout c.requires.by_version g.H.Hashes.of c.args.tree.now
    c.args.batch made.bytes
    c.deref.result.now c.in_ok-root.root made.image head (ap length c.deref.ensures.value ∙ c.put_first.ensures.size)
    c.args.name.now (g.S.Shelf.state c.args.shelf.now).files (g.S.Shelf.state c.make_nodes.new.shelf).files
    (g.S.Shelf.state c.seal.new.shelf).files made.made.files answer c.in_ok-seal.ensures.whole

pub returns-clause-stands : goal.returns-clause-stands
returns-clause-stands g c =
    let low : c.args.batch < 2 ^ 64 = omega (arith, c.ranges.batch) in
    saved_stands (form_of c.args.layout) (form_is c.args.layout c.requires.layout) g.H.Hashes.of
    g.met.H.Hashes.sized c.args.tree.now c.args.batch c.requires.well c.requires.layers low

pub returns-clause-left : goal.returns-clause-left
returns-clause-left g c =
    let form = form_of c.args.layout in
    let made = c.in_ok-root.ensures in
    let head = c.deref.ensures.value ∙ c.put_first.ensures.page ∙ ap (head_page c.args.layout)
    (head_is form g.H.Hashes.of c.args.tree.now c.args.batch c.count.result c.in_ok-root.pages made.bytes
    c.in_ok-root.root made.image c.count.ensures made.count) in
    seal_leaves c.args.layout c.requires.layout c.requires.by_version g.H.Hashes.of c.args.tree.now
    c.args.batch made.bytes
    c.deref.result.now c.in_ok-root.root made.image head (ap length c.deref.ensures.value ∙ c.put_first.ensures.size)
    c.args.name.now (g.S.Shelf.state c.args.shelf.now).files (g.S.Shelf.state c.make_nodes.new.shelf).files
    (g.S.Shelf.state c.seal.new.shelf).files made.made.files c.seal.ensures.front

pub returns-clause-causes : goal.returns-clause-causes
returns-clause-causes g c =
    let before = g.S.Shelf.state c.args.shelf.now in
    let after = g.S.Shelf.state c.seal.new.shelf in
    causes_done before after tt c.head_root.result
    (causes_from c.args.name.now c.in_ok-root.ensures.bytes before (g.S.Shelf.state c.make_nodes.new.shelf) after
    (Ok tt)
    c.in_ok-root.ensures.made.files c.in_ok-root.ensures.made.faults
    c.in_ok-seal.ensures.causes)

pub returns-clause-root : goal.returns-clause-root
returns-clause-root g c =
    let made = c.in_ok-root.ensures in
    root_said (form_of c.args.layout) g.H.Hashes.of c.args.tree.now c.args.batch c.count.result made.bytes
    c.head_root.result c.in_ok-root.root c.requires.well made.image c.count.ensures c.head_root.ensures
