use Rattle.std.proofs.Common.{sym, ◌∙◌}
use Rattle.mr_record.proofs.Fronts.{number_in_front}
use Rattle.mr_record.proofs.front.number_before.Goals as goal

pub returns : goal.returns
returns c =
    number_in_front c.args.line.now c.args.at c.args.number c.requires.within c.requires.space c.requires.digits
    c.requires.value c.ranges.number.fits (sym c.begins_canonical.ensures ∙ c.if-not-begins_canonical.false)
