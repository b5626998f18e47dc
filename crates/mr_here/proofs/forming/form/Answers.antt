use Rattle.std.proofs.Common.{◌≡◌, List, ℕ, ap, subst, ◌∙◌}
use Rattle.std.specs.Prelude.{codes, Some, Result, OnOk}
use Rattle.mr_outside.specs.Files.{file}
use Rattle.mr_here.specs.declared.error.HereErr.{HereErr}
use Rattle.mr_here.specs.private.Forming.{EditsFile}
use Rattle.mr_here.proofs.InMemory.{formed_of, longer_of}
use Rattle.mr_here.proofs.forming.form.Goals as goal

pub returns-in-Err-clause-refused : goal.returns-in-Err-clause-refused
returns-in-Err-clause-refused g c =
    subst (λ (r : Result (List ℕ) HereErr). EditsFile g.H.Hashes.of (codes "new") c.args.batch.now c.args.map.items
    (Some c.edit_file-edited.result.1.files) r) c.in-Err.is
    (c.edit_file-edited.ensures.edits c.args.map.items (c.in_ok-shelf.ensures ∙ ap Some c.as_slice-2.ensures.value))

pub body_in-requires : goal.body_in-requires
body_in-requires g c =
    let hash = g.H.Hashes.of in
    let still : file c.edit_file-edited.result.1.files (codes "map") ≡ Some c.args.map.items =
    subst (λ (r : Result (List ℕ) HereErr). OnOk r
    (file c.edit_file-edited.result.1.files (codes "map") ≡ file c.in_ok-shelf.shelf.files (codes "map"))) c.in-Ok.is
    c.edit_file-edited.ensures.stays ∙ (c.in_ok-shelf.ensures ∙ ap Some c.as_slice-2.ensures.value) in
    let told = Some c.edit_file-edited.result.1.files in
    let made = subst (λ (r : Result (List ℕ) HereErr). EditsFile hash (codes "new") c.args.batch.now c.args.map.items
    told r) c.in-Ok.is (c.edit_file-edited.ensures.edits c.args.map.items
    (c.in_ok-shelf.ensures ∙ ap Some c.as_slice-2.ensures.value)) in (
      c.args.map.items,
      made.bytes,
      still,
      made.held,
      (
        made.pages,
        longer_of hash (codes "new") c.args.batch.now c.args.map.items told c.in-Ok.root
            made,
      ),
    )

pub returns-clause-formed : goal.returns-clause-formed
returns-clause-formed g c =
    let hash = g.H.Hashes.of in
    let still : file c.edit_file-edited.result.1.files (codes "map") ≡ Some c.args.map.items =
    subst (λ (r : Result (List ℕ) HereErr). OnOk r
    (file c.edit_file-edited.result.1.files (codes "map") ≡ file c.in_ok-shelf.shelf.files (codes "map"))) c.in-Ok.is
    c.edit_file-edited.ensures.stays ∙ (c.in_ok-shelf.ensures ∙ ap Some c.as_slice-2.ensures.value) in
    let told = Some c.edit_file-edited.result.1.files in
    let made = subst (λ (r : Result (List ℕ) HereErr). EditsFile hash (codes "new") c.args.batch.now c.args.map.items
    told r) c.in-Ok.is (c.edit_file-edited.ensures.edits c.args.map.items
    (c.in_ok-shelf.ensures ∙ ap Some c.as_slice-2.ensures.value)) in
    formed_of hash (codes "new") c.args.batch.now c.args.map.items _ told c.in-Ok.root made
    (c.in_ok-body-in-Ok.ensures c.args.map.items made.bytes still made.held)
