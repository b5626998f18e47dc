use Rattle.std.proofs.Common.{◌≤◌, ◌+◌, length, rules}
use Rattle.mr_outside.specs.Files.{replaced}
use Rattle.mr_outside.proofs.Changes.{there, of_held}
use Rattle.mr_outside.proofs.NamedFiles.{file-found, file-absent, files_of-changed}
use Rattle.mr_outside.proofs.mem_shelf.overwrite.Goals as goal

pub replace-requires : goal.replace-requires
replace-requires c =
    of_held c.args.name.now _ c.in-Some.held.now.cells.items (λ held. c.args.at + length c.args.bytes.now ≤ length held)
    (file-found c.args.files.now c.args.name.now c.in-Some.held.now c.in-Some.ensures.value) c.requires

pub returns-in-Some-clause-done : goal.returns-in-Some-clause-done
returns-in-Some-clause-done c =
    let new = c.replace.new.self in
    files_of-changed c.args.files.now (c.get_mut.follows.lender new) c.args.name.now c.in-Some.held.now new
    (replaced c.args.at c.args.bytes.now) c.in-Some.ensures.value ((c.get_mut.follows.holds new).3 (search rules))
    c.replace.ensures

pub returns-in-Some-clause-there : goal.returns-in-Some-clause-there
returns-in-Some-clause-there c =
    there c.args.name.now _ _ (file-found c.args.files.now c.args.name.now c.in-Some.held.now c.in-Some.ensures.value)

pub returns-in-None-clause-missing : goal.returns-in-None-clause-missing
returns-in-None-clause-missing c = file-absent c.args.files.now c.args.name.now c.in-None.ensures.value
