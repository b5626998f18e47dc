-- How many nodes of the map are fetched beside the items of a proof.
use Rattle.std.proofs.Common.{◌≡◌, ℕ, suc, ◌+◌, ◌≤◌, ◌<◌, false, List, [], ◌++◌, append_assoc, append-nil, sym, ap, subst, ◌∙◌, arith}
use Rattle.std.specs.Prelude.{Option, Some, None, IfSome}
use Rattle.mr_record.specs.declared.version.Version.{Version}
use Rattle.mr_tree.specs.Digest.{Scheme}
use Rattle.mr_tree.specs.declared.tree.Tree.{Tree}
use Rattle.mr_proof.specs.declared.head.Head.{Head}
use Rattle.mr_proof.specs.Cut.{Cut, Cuts, Pruned, Leaf, Inner, number_of_cuts, opened_nodes, all_opened}
use Rattle.mr_proof.specs.Spelling.{cut_bytes, cuts_bytes, part_bytes, FitsCut, FitCuts, IsSpelled}
use Rattle.mr_proof.specs.Honest.{opened_of}
use Rattle.mr_clash.specs.private.Steps.{is_pruned, FetchesItem, FetchesChildren}
use Rattle.mr_clash.proofs.Taking.{drop_cuts, next_cut}

-- an item that is not pruned opens its node
pub opened_one : (P : Cut) → is_pruned P ≡ false → 1 ≤ opened_nodes P
opened_one (Pruned part) is = absurd cc
opened_one (Leaf rs) is = omega arith
opened_one (Inner Ps) is = omega arith

-- an inner node and what is fetched below it
pub opened_inner : (u : Version) (v : ℕ) (P : Cut) (rest before : List ℕ) (old mid new : ℕ) → (v ≡ 0 → ⊥)
    → is_pruned P ≡ false
    → FitsCut u v P → before ≡ cut_bytes u P ++ rest → mid ≤ old + 1 → FetchesChildren u v before mid new
    → new ≤ old + opened_nodes P
opened_inner u v (Pruned part) rest before old mid new above is fits e one few = absurd cc
opened_inner u v (Leaf rs) rest before old mid new above is fits e one few = absurd (above fits.at_leaf)
opened_inner u v (Inner Ps) rest before old mid new above is fits e one few =
    let below = few Ps rest fits e in omega (arith, below, one)

-- one more of some items side by side
pub fetched_more : (scheme : Scheme) (v w : ℕ) (Ps : Cuts) (rest : List ℕ) (i : ℕ) (bytes : List ℕ)
    (old mid new : ℕ) → i < number_of_cuts Ps → FitCuts scheme.version w Ps
    → bytes ≡ cuts_bytes scheme.version (drop_cuts i Ps) ++ rest → v ≡ w
    → FetchesItem scheme.version v bytes mid new → mid + all_opened (drop_cuts i Ps) ≤ old + all_opened Ps
    → new + all_opened (drop_cuts (i + 1) Ps) ≤ old + all_opened Ps
fetched_more scheme v w Ps rest i bytes old mid new lt fits here level few so_far =
    let n = next_cut scheme w Ps i lt fits in
    let Qs = drop_cuts (suc i) Ps in
    let own = few n.cut (cuts_bytes scheme.version Qs ++ rest)
    (subst (λ k. FitsCut scheme.version k n.cut) (sym level) n.fits)
    (here ∙ ap (λ Qs. cuts_bytes scheme.version Qs ++ rest) n.here
    ∙ append_assoc (cut_bytes scheme.version n.cut) (cuts_bytes scheme.version Qs) rest) in
    let sum = ap all_opened n.here in
    let plus = ap (λ k. all_opened (drop_cuts k Ps)) (suc_is i) in
    omega (arith, own, sum, plus, so_far)
  where
    suc_is : (i : ℕ) → suc i ≡ i + 1
    suc_is i = omega arith

-- the root item
pub fetched_root : (h : Head) (P : Option Cut) (bytes : List ℕ) (v w : ℕ) (before : List ℕ) (old new : ℕ)
    → IsSpelled h P bytes → (h.count ≡ 0 → ⊥) → v ≡ w → w ≡ h.level → before ≡ part_bytes h.version P
    → FetchesItem h.version v before old new → new ≤ old + opened_of P
fetched_root h None bytes v w before old new spelled some one level here few = absurd (some spelled.part)
fetched_root h (Some P) bytes v w before old new spelled some one level here few =
    few P [] (subst (λ k. FitsCut h.version k P) (sym (one ∙ level)) spelled.part.1)
    (here ∙ sym (append-nil (cut_bytes h.version P)))

-- ---- the whole

-- nothing is fetched for bytes that are refused
pub none_fetched : (o : Option Tree) (n : ℕ) (bound : Tree → ℕ) → IfSome o (λ t. n ≤ n + bound t)
none_fetched None n bound = tt
none_fetched (Some t) n bound = omega arith
