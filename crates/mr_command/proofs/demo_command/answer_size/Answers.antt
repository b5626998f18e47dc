use Rattle.std.proofs.Common.{◌≡◌, length, rules}
use Rattle.mr_record.specs.declared.version.Version.TheVariants.{One}
use Rattle.mr_check.specs.declared.error.CheckErr.TheVariants as errors
use Rattle.mr_proof.specs.Reading.{verdict}
use Rattle.mr_query.specs.Scan.{scan}
use Rattle.mr_tree.specs.Tree.{records}
use Rattle.mr_command.proofs.Verdicts.{accepted_scan, answer_length, checks_as, no_fault}
use Rattle.mr_command.proofs.demo_command.answer_size.Goals as goal

pub unreachable-requires : goal.unreachable-requires
unreachable-requires g c =
    let hash = g.H.Hashes.of in
    let was = checks_as hash c.args.root.now c.args.query.now c.args.bytes.now _ (errors.Fault c.in-Err-Fault.field-0-0)
    c.in-Err-Fault.field-0-is c.in-Err-Fault.ensures.exact in
    no_fault (verdict hash c.args.root.now c.args.query.now c.args.bytes.now) c.in-Err-Fault.field-0-0 _ was
    (accepted_scan hash c.args.query.now c.args.tree.now c.args.root.now c.args.bytes.now
    (c.in-Err-Fault.ensures.complete One) c.requires.may_come
    c.requires.well_formed c.requires.layers c.requires.root c.requires.own)

pub returns-in-Ok : goal.returns-in-Ok
returns-in-Ok g c =
    let hash = g.H.Hashes.of in
    let long : length c.in-Ok.answer.items ≡ length (scan (records c.args.tree.now) c.args.query.now) =
    answer_length (verdict hash c.args.root.now c.args.query.now c.args.bytes.now) c.in-Ok.answer.items _
    c.in-Ok.ensures.exact
    (accepted_scan hash c.args.query.now c.args.tree.now c.args.root.now c.args.bytes.now
    (c.in-Ok.ensures.complete One) c.requires.may_come
    c.requires.well_formed c.requires.layers c.requires.root c.requires.own) in
    search (rules, long)
