use Rattle.std.proofs.Common.{◌++◌, rules}
use Rattle.mr_outside.proofs.Changes.{there}
use Rattle.mr_outside.proofs.NamedFiles.{file-found, file-absent, files_of-changed, files_of-kept}
use Rattle.mr_outside.proofs.mem_shelf.grow.Goals as goal

pub returns-in_err-extend-in-Some-clause-refused : goal.returns-in_err-extend-in-Some-clause-refused
returns-in_err-extend-in-Some-clause-refused c =
    let kept = files_of-kept c.args.files.now (c.get_mut.follows.lender c.extend.new.self) c.args.name.now
    c.in-Some.held.now c.extend.new.self
    c.in-Some.ensures.value ((c.get_mut.follows.holds c.extend.new.self).3 (search rules)) (search rules)
    in search rules

pub returns-in_ok-extend-in-Some-clause-grown : goal.returns-in_ok-extend-in-Some-clause-grown
returns-in_ok-extend-in-Some-clause-grown c =
    files_of-changed c.args.files.now (c.get_mut.follows.lender c.extend.new.self) c.args.name.now
    c.in-Some.held.now c.extend.new.self
    (λ held. held ++ c.args.bytes.now) c.in-Some.ensures.value
    ((c.get_mut.follows.holds c.extend.new.self).3 (search rules)) (search rules)

pub returns-in_ok-extend-in-Some-clause-there : goal.returns-in_ok-extend-in-Some-clause-there
returns-in_ok-extend-in-Some-clause-there c =
    there c.args.name.now _ _ (file-found c.args.files.now c.args.name.now c.in-Some.held.now c.in-Some.ensures.value)

pub returns-in-None-clause-missing : goal.returns-in-None-clause-missing
returns-in-None-clause-missing c = λ e. file-absent c.args.files.now c.args.name.now c.in-None.ensures.value
