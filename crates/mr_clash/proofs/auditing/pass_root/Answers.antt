use Rattle.std.proofs.Common.{[], append-nil, sym, ◌∙◌}
use Rattle.mr_proof.specs.Spelling.{cut_bytes}
use Rattle.mr_clash.proofs.auditing.pass_root.Goals as goal

pub returns : goal.returns
returns g c = λ P low fits is.
    (c.in_ok-entry.ensures P [] low fits (is ∙ sym (append-nil (cut_bytes c.args.version P)))).says
