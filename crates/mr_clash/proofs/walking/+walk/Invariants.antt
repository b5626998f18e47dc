use Rattle.std.proofs.Common.{◌≡◌, ℕ, List, ◌++◌, ◌+◌, ◌*◌, ◌≤◌, length}
use Rattle.std.specs.Prelude.{option_map}
use Rattle.mr_tree.specs.Digest.{by}
use Rattle.mr_proof.specs.Cut.{Cuts, number_of_cuts, all_opened}
use Rattle.mr_proof.specs.Spelling.{cuts_bytes, FitCuts}
use Rattle.mr_clash.specs.private.Steps.{left, pair_of}
use Rattle.mr_clash.proofs.Rows.{WalkedSome}
use Rattle.mr_clash.proofs.Taking.{drop_cuts}
use Rattle.mr_clash.proofs.walking.+walk.Given as goal

abbrev pub decreases-walk : goal.decreases-walk
decreases-walk g l = 3 * l.child.now.level + 1

abbrev pub decreases-walk_children : goal.decreases-walk_children
decreases-walk_children g l = 3 * l.level

abbrev pub decreases-walk_all : goal.decreases-walk_all
decreases-walk_all g l = 3 * l.level + 2

-- so many items were passed over beside their nodes
abbrev pub invariant-walk_all-loop-child : goal.invariant-walk_all-loop-child
invariant-walk_all-loop-child g l = record {
  kept : g.N.Nodes.kept l.fn.nodes l.nodes;
  still : g.N.Nodes.faults l.nodes ≡ g.N.Nodes.faults l.fn.nodes;
  unrefused : g.N.Nodes.refusal l.nodes ≡ g.N.Nodes.refusal l.fn.nodes;
  fetched : (Ps : Cuts) (rest : List ℕ) → FitCuts l.version l.level Ps → number_of_cuts Ps ≡ length l.children
      → left l.initial.from ≡ cuts_bytes l.version Ps ++ rest
      → g.N.Nodes.fetches l.nodes + all_opened (drop_cuts l.child-index Ps)
      ≤ g.N.Nodes.fetches l.fn.nodes + all_opened Ps;
  count : length l.entries.items ≡ l.child-index;
  some : (Ps : Cuts) (rest : List ℕ) → FitCuts l.version l.level Ps → number_of_cuts Ps ≡ length l.children
      → left l.initial.from ≡ cuts_bytes l.version Ps ++ rest
      → WalkedSome (by l.version g.N.Hash.Hashes.of) (g.N.Nodes.stands l.fn.nodes)
      l.level l.children Ps rest l.child-index
      l.entries.items (option_map pair_of l.clash) (left l.from);
}
