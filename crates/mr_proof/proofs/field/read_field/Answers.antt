use Rattle.std.proofs.Common.{◌∙◌, arith}
use Rattle.mr_record.proofs.Encodings.{IsBytes}
use Rattle.mr_proof.proofs.Forms.{forms}
use Rattle.mr_proof.proofs.FieldLaws.{written_so, read_again}
use Rattle.mr_proof.proofs.field.read_field.Goals as goal

pub returns-clause-form : goal.returns-clause-form
returns-clause-form c = rw c.value_of.ensures (forms c.args.want.now c.args.bytes.now c.requires.size)

pub returns-clause-written : goal.returns-clause-written
returns-clause-written c =
    let fits : IsBytes c.args.bytes.now = λ i. omega (arith, c.type_inv.bytes i) in
    rw c.value_of.ensures (written_so c.args.want.now c.args.bytes.now c.requires.size fits)

pub returns-clause-read : goal.returns-clause-read
returns-clause-read c =
    λ f is has e. c.value_of.ensures ∙ read_again c.args.want.now f c.args.bytes.now is has e
