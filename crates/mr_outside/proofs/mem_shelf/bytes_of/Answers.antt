use Rattle.std.proofs.Common.{◌∙◌, sym, ap, Some, option_map}
use Rattle.mr_outside.proofs.NamedFiles.{file-files_of, files_of-bytes}
use Rattle.mr_outside.proofs.mem_shelf.bytes_of.Goals as goal

pub returns-in-Some-clause-found : goal.returns-in-Some-clause-found
returns-in-Some-clause-found c =
    ap Some c.as_slice.ensures ∙ ap (option_map (λ v. v.cells.items)) c.in-Some.ensures.value
    ∙ sym (file-files_of c.args.files.now c.args.name.now)

pub returns-in-Some-clause-bytes : goal.returns-in-Some-clause-bytes
returns-in-Some-clause-bytes c = files_of-bytes c.args.files.now c.args.name.now

pub returns-in-Some-clause-every : goal.returns-in-Some-clause-every
returns-in-Some-clause-every c = files_of-bytes c.args.files.now

pub returns-in-None-clause-found : goal.returns-in-None-clause-found
returns-in-None-clause-found c =
    ap (option_map (λ v. v.cells.items)) c.in-None.ensures.value
    ∙ sym (file-files_of c.args.files.now c.args.name.now)

pub returns-in-None-clause-bytes : goal.returns-in-None-clause-bytes
returns-in-None-clause-bytes c = files_of-bytes c.args.files.now c.args.name.now

pub returns-in-None-clause-every : goal.returns-in-None-clause-every
returns-in-None-clause-every c = files_of-bytes c.args.files.now
