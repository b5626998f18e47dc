use Rattle.std.proofs.Common.{append_assoc}
use Rattle.mr_proof.proofs.write.put_radius.Goals as goal

pub returns-in-Some-clause-value : goal.returns-in-Some-clause-value
returns-in-Some-clause-value c =
    rw (c.put-in-Some-2.ensures, c.put-in-Some.ensures, c.to_be_bytes.ensures, c.in-K.is, c.in-Some.is)
    (simp append_assoc)
