use Rattle.std.proofs.Common.{ℕ}
use Rattle.std.specs.BTreeMap.{get}
use Rattle.std.specs.Ordering.{nat_cmp}
use Rattle.mr_batch.specs.Changes.{numbers}
use Rattle.mr_batch.specs.Earlier.{IsLastBelow}
use Rattle.mr_batch.proofs.Linking.{AreLinks}
use Rattle.mr_batch.proofs.links.links.Given as goal

abbrev pub invariant-loop-i : goal.invariant-loop-i
invariant-loop-i l = record {
  so_far : AreLinks l.changes l.i l.links.items;
  places : (n : ℕ) → IsLastBelow l.i n (numbers l.changes) (get nat_cmp l.places n);
}
