-- How many records the open nodes count so far.
use Rattle.std.proofs.Common.{◌≡◌, ◌+◌, ◌≤◌, List, [], ◌∷◌, ap, arith}
use Rattle.mr_record.specs.Version.{told}
use Rattle.mr_record.specs.declared.version.Version.{Version}
use Rattle.mr_record.specs.declared.version.Version.TheVariants.{One, Two}
use Rattle.mr_check.specs.declared.frame.Frame.{Frame}
use Rattle.mr_check.specs.private.Machine.{counts_of}

-- those of a stack with this one on top
pub counts_popped : {H : Type 0} (before after : List (Frame H)) (f : Frame H) → before ≡ f ∷ after
    → counts_of before ≡ f.node.count + counts_of after
counts_popped before after f e = ap counts_of e

pub counts_none : {H : Type 0} (fs : List (Frame H)) → fs ≡ [] → counts_of fs ≡ 0
counts_none fs e = ap counts_of e

-- a record adds one at most
pub one_told : (u : Version) → told u 1 ≤ 1
one_told One = omega arith
one_told Two = omega arith
