use Rattle.std.specs.Prelude.{None}
use Rattle.std.proofs.lemmas.List.Elements.{recursion_from_All}
use Rattle.mr_record.specs.Record.{IsRecord}
use Rattle.mr_tree.specs.Digest.{by}
use Rattle.mr_count.specs.Chosen.{chosen}
use Rattle.mr_count.specs.Inside.{inside_way}
use Rattle.mr_count.specs.private.InsideLaws.{lies_inside}
use Rattle.mr_count.proofs.HonestChoices.{accepted}
use Rattle.mr_count.proofs.InsideCounts.{number_inside, count_true}
use Rattle.mr_count.proofs.inside.inside_is_counted.Goals as goal

pub returns-clause-sides : goal.returns-clause-sides
returns-clause-sides g c = λ r o. lies_inside r c.args.one.now.window o

pub returns-clause-number : goal.returns-clause-number
returns-clause-number g c = λ rs all.
    number_inside c.args.one.now.window c.args.one.now.mask rs (recursion_from_All IsRecord rs all)

pub returns-clause-accepted : goal.returns-clause-accepted
returns-clause-accepted g c = λ v.
    let w = c.args.one.now.window in
    let layers = c.args.one.now.mask in
    let way = inside_way w layers in
    let s = by v g.H.Hashes.of in
    let law = c.choice_is_lawful.ensures in
    count_true s c.args.kind w layers c.args.proof.now
    (accepted s c.args.kind way c.args.proof.now (law.narrow None)
    (c.accepted_matches_honest.ensures v (chosen c.args.kind way) law))
