use Rattle.std.proofs.Common.{◌≡◌, ℕ, List, ◌++◌, ◌+◌, ◌*◌, ◌≤◌, length}
use Rattle.mr_tree.specs.Digest.{by}
use Rattle.mr_tree.specs.Limits.{level_limit}
use Rattle.mr_proof.specs.Cut.{Cuts, number_of_cuts}
use Rattle.mr_proof.specs.Spelling.{cuts_bytes, FitCuts}
use Rattle.mr_clash.specs.private.Steps.{left}
use Rattle.mr_clash.proofs.Taking.{PassedSome}
use Rattle.mr_clash.proofs.items.+items.Given as goal

abbrev pub decreases-pass_inner : goal.decreases-pass_inner
decreases-pass_inner g l = 3 * l.level

abbrev pub decreases-pass_item : goal.decreases-pass_item
decreases-pass_item g l = 3 * l.level + 1

abbrev pub decreases-pass_items : goal.decreases-pass_items
decreases-pass_items g l = 3 * l.level + 2

-- so many items were passed over
abbrev pub invariant-pass_items-loop : goal.invariant-pass_items-loop
invariant-pass_items-loop g l = record {
  passed : (Ps : Cuts) (rest : List ℕ) → l.level ≤ level_limit → FitCuts l.version l.level Ps
      → number_of_cuts Ps ≡ l.count → left l.initial.from ≡ cuts_bytes l.version Ps ++ rest
      → PassedSome (by l.version g.H.Hashes.of) l.level Ps rest l.counter l.list.items (left l.from);
  few : length l.list.items ≡ l.counter;
}
