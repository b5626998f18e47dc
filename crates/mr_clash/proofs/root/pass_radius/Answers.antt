use Rattle.std.proofs.Common.{◌≡◌, ◌++◌, subst}
use Rattle.mr_proof.specs.declared.head.Kind.{Kind}
use Rattle.mr_proof.specs.Spelling.{radius_bytes}
use Rattle.mr_clash.specs.private.Steps.{left}
use Rattle.mr_clash.proofs.Taking.{radius_passed, flag_passed}
use Rattle.mr_clash.proofs.root.pass_radius.Goals as goal

pub returns-then-byte-eq1 : goal.returns-then-byte-eq1
returns-then-byte-eq1 c = λ r rest here.
    radius_passed r rest c.byte.result _ _ _
    (subst (λ (k : Kind). left c.args.from.now ≡ radius_bytes k r ++ rest) c.in-K.is here) c.byte.ensures
    c.if-byte-eq1.true (λ x behind long. (λ e. (c.take-radius.ensures x behind long e).1))

pub returns-else-byte-eq1 : goal.returns-else-byte-eq1
returns-else-byte-eq1 c = λ r rest here.
    flag_passed r rest c.byte.result _ _
    (subst (λ (k : Kind). left c.args.from.now ≡ radius_bytes k r ++ rest) c.in-K.is here) c.byte.ensures
    c.if-byte-eq1.false
