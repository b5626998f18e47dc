-- Proofs of counts, of a map of version 2 that is opened page by page.
use Rattle.std.proofs.Common.{◌≡◌, ℕ, ◌+◌, ◌*◌, ◌≤◌, List, length, refl, sym, ap, subst, arith}
use Rattle.std.specs.Prelude.{false, Option, Some, None, IfOk, IfErr, IfSome, OnOk, Result}
use Rattle.mr_outside.specs.State.{Shelved}
use Rattle.mr_outside.specs.declared.shelf.Shelf as shelves
use Rattle.mr_record.specs.declared.version.Version.{Version}
use Rattle.mr_record.specs.declared.version.Version.TheVariants.{One, Two}
use Rattle.mr_tree.specs.Digest.{by}
use Rattle.mr_tree.specs.Nodes.{HasSomeCause}
use Rattle.mr_tree.specs.declared.hash.Hashes as hashes
use Rattle.mr_tree.specs.declared.nodes.NodesErr.{NodesErr}
use Rattle.mr_tree.specs.declared.tree.Tree.{Tree}
use Rattle.mr_query.specs.declared.key.Key.{Key}
use Rattle.mr_proof.specs.Honest.{proof_for, opened_for}
use Rattle.mr_proof.specs.declared.way.Way.{Way}
use Rattle.mr_store.specs.Opening.{OpensMap}
use Rattle.mr_store.specs.Paged.{Keeps, shelved, stands_for}
use Rattle.mr_store.specs.declared.paged.Paged.{Paged}
use Rattle.mr_bundle.specs.declared.text.Text.{Text}
use Rattle.mr_command.specs.Counting.{AllowsProof}
use Rattle.mr_command.specs.Ending.{ComesAsSaid}
use Rattle.mr_command.specs.private.Steps.{KeepsProof}
use Rattle.mr_plan.specs.Counts.{count_question}
use Rattle.mr_plan.specs.Say.{lacks_proof_for, say_count}
use Rattle.mr_plan.specs.Untold.{MaySayProof}
use Rattle.mr_command.specs.declared.ending.Ending.{Ending}
use Rattle.mr_command.specs.declared.ending.Halt.{Halt}
use Rattle.mr_command.proofs.Pages.{proved}

-- a map that has such a proof is of version 2
pub second_of : (v : Version) (way : Key → Way) → lacks_proof_for v (count_question way) ≡ false → v ≡ Two
second_of One way has = absurd cc
second_of Two way has = refl

-- each node once
once : (o : Option Tree) (opened : Tree → ℕ) (before after : ℕ) → IfSome o (λ t. after ≤ before + opened t)
    → IfSome o (λ t. after ≤ before + 1 * opened t)
once None opened before after few = tt
once (Some t) opened before after few = omega (arith, few)

module _ {S H : Type 0} {G : shelves.Ghosts S} {K : hashes.Ghosts H} (hash : List ℕ → List ℕ)
    (sized : (xs : List ℕ) → length (hash xs) ≡ 32) (map : List ℕ) (way : Key → Way) (proof : List ℕ)
    (before after : Shelved) (p p' : Paged S H G K) (o : OpensMap hash map before p)
    (second : (stands_for p).version ≡ Two) (kept : Keeps p p')
    (fetched : IfSome (stands_for p).tree
    (λ t. p'.fetches ≤ p.fetches + opened_for (by Two hash) (count_question way) t)) where
  pub count_proved : (made : Result Text NodesErr) (result : Result Ending Halt)
      → IfSome (stands_for p).tree (λ t. IfOk made (λ text. text.bytes.items
      ≡ proof_for (by Two hash) (count_question way) t (stands_for p).batch))
      → IfErr made (HasSomeCause (stands_for p) (shelved p).faults (shelved p').faults)
      → OnOk made ((shelved p').faults ≡ (shelved p).faults)
      → KeepsProof map proof made (shelved p') after result
      → ComesAsSaid (say_count hash map way proof) (MaySayProof hash map (count_question way) proof)
      (AllowsProof hash map 1 (count_question way)) before after result
  count_proved made result written cause calm keeps =
      proved hash sized map 1 (count_question way) proof before after p p' o
      (ap (λ v. lacks_proof_for v (count_question way)) second) kept
      (subst (λ v. IfSome (stands_for p).tree
      (λ t. p'.fetches ≤ p.fetches + 1 * opened_for (by v hash) (count_question way) t)) (sym second)
      (once (stands_for p).tree (opened_for (by Two hash) (count_question way)) p.fetches p'.fetches fetched))
      made result
      (subst (λ v. IfSome (stands_for p).tree (λ t. IfOk made (λ text. text.bytes.items
      ≡ proof_for (by v hash) (count_question way) t (stands_for p).batch))) (sym second) written) cause calm keeps
