-- What is known of the leaves of a packed tree, where it is put on pages.
use Rattle.std.proofs.Common.{◌≡◌, ℕ, List, sym, ◌∙◌}
use Rattle.std.specs.Prelude.{IfOk, Result, Ok, Err}
use Rattle.std.specs.Global.{Vec}
use Rattle.mr_record.specs.declared.version.Version.{Version}
use Rattle.mr_record.specs.declared.version.Version.TheVariants.{One}
use Rattle.mr_tree.specs.Digest.{by}
use Rattle.mr_tree.specs.Leaves.{leaf_entries}
use Rattle.mr_tree.specs.declared.entry.Entry.{Entry}
use Rattle.mr_tree.specs.declared.tree.Tree.{Tree}
use Rattle.mr_pages.specs.Leaves.{KnowsFirst}
use Rattle.mr_pages.proofs.LeafEntries.{known_whole}

pub leaves_known : {E : Type 0} (v : Version) (hash : List ℕ → List ℕ) (t : Tree)
    (result : Result (Tree × Vec Entry) E) → v ≡ One → IfOk result (λ p. p.0 ≡ t)
    → IfOk result (λ p. p.1.items ≡ leaf_entries (by One hash) t)
    → IfOk result (λ p. KnowsFirst (leaf_entries (by v hash) p.0) p.1.items)
leaves_known v hash t (Ok p) is exact leaves =
    let here : p.1.items ≡ leaf_entries (by v hash) p.0 =
    leaves ∙ (λ i. leaf_entries (by (sym is i) hash) (sym exact i)) in
    known_whole (leaf_entries (by v hash) p.0) p.1.items here
leaves_known v hash t (Err e) is exact leaves = tt
