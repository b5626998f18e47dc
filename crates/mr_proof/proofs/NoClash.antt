-- A cut of a tree shows no pair, and so the honest proof shows none.
use Rattle.std.proofs.Common.{◌≡◌, ℕ, ◌-◌, List, refl, sym, ap, subst, ◌∙◌}
use Rattle.std.specs.Prelude.{Option, Some, None, IfSome}
use Rattle.mr_tree.specs.Tree.{level}
use Rattle.mr_tree.specs.Digest.{Scheme, node_preimage}
use Rattle.mr_tree.specs.declared.entry.Entry.{Entry}
use Rattle.mr_tree.specs.Digest as digests
use Rattle.mr_tree.specs.WellFormed.{WellFormed, HasOneLevel}
use Rattle.mr_tree.specs.declared.tree.Tree.{Tree}
use Rattle.mr_tree.specs.declared.tree.Tree.TheVariants as tree
use Rattle.mr_tree.specs.declared.tree.Tree.TheOpen as node
use Rattle.mr_tree.specs.declared.tree.Tree.TheFolds.{every-Tree}
use Rattle.mr_tree.proofs.Induction.{every_child}
use Rattle.mr_query.specs.Word.{IsQuery}
use Rattle.mr_query.specs.declared.query.Query.{Query}
use Rattle.mr_query.specs.declared.query.Shape.{Shape}
use Rattle.mr_query.specs.declared.query.Shape.TheVariants.{Window, Nearest}
use Rattle.mr_proof.specs.declared.head.Kind.{Kind}
use Rattle.mr_proof.specs.Cut.{Cut, Cuts, Pruned, Leaf, Inner, no_more, first, entries, CutOf, CutsOf}
use Rattle.mr_proof.specs.Tight.{Question, IsLawful, kind_of, kind_of_shape, question}
use Rattle.mr_proof.specs.Accepted.{proof_preimage}
use Rattle.mr_proof.specs.Honest.{honest_head, honest_part, proof_for, proof}
use Rattle.mr_proof.specs.Halves.{IsQueried}
use Rattle.mr_proof.specs.Reading.{kind_in}
use Rattle.mr_proof.specs.Clash.{differ, or_else, children, children_in, node_clash, children_clash, part_clash, pair_clash, if_said, clash_of}
use Rattle.mr_proof.specs.Headline.{HonestProofIsQuiet, HonestIsQuiet}
use Rattle.mr_proof.proofs.Values.{bytes_same}
use Rattle.mr_proof.proofs.PreimageBytes.{IsSized, preimage-Leaf, preimage-Inner}
use Rattle.mr_proof.proofs.Laws.{is_lawful}
use Rattle.mr_proof.proofs.Complete.{Levels, Even, below_levels, entry_cuts, root_same, honest_stands}
use Rattle.mr_proof.proofs.Pairs.{kind_spelled, pair_found_of}

differ_same : (x y : List ℕ) → x ≡ y → differ x (Some y) ≡ None
differ_same x y e = rw (bytes_same x y e) refl

mutual
  pub no_clash : (s : Scheme) (v : ℕ) (P : Cut) (t : Tree) → CutOf s P t
      → every-Tree HasOneLevel t → level t ≡ v → node_clash s s v t P ≡ None
  no_clash s v (Pruned x) t c even e = refl
  no_clash s v (Leaf rs) t c even e =
      differ_same (digests.preimage s t) (node_preimage s.version (node.Leaf rs))
      (ap (digests.preimage s) c ∙ preimage-Leaf s rs)
  no_clash s v (Inner cuts) t c even e =
      let evens = subst (every-Tree HasOneLevel) c.1 even in
      let levels = below_levels v c.0 evens (ap level (sym c.1) ∙ e) in
      let below = node_preimage s.version (node.Inner (entries s (v - 1) cuts)) in
      let same : digests.preimage s t ≡ below =
      ap (digests.preimage s) c.1 ∙ preimage-Inner s c.0
      ∙ ap (λ (es : List Entry). node_preimage s.version (node.Inner es)) (sym (entry_cuts s (v - 1) cuts c.0 c.2
      (every_child HasOneLevel c.0 evens) levels)) in
      let own : children t ≡ c.0 = ap children c.1 ∙ ap children_in (tree.outs-Inner c.0) in
      (λ i. or_else (differ_same (digests.preimage s t) below same i) (children_clash s s (v - 1) (own i) cuts))
      ∙ no_clashes s (v - 1) cuts c.0 c.2 (every_child HasOneLevel c.0 evens) levels

  no_clashes : (s : Scheme) (v : ℕ) (Ps : Cuts) (ts : List Tree) → CutsOf s Ps ts
      → Even ts → Levels v ts → children_clash s s v ts Ps ≡ None
  no_clashes s v no_more ts c even e = refl
  no_clashes s v (first P Ps) ts c even e =
      let evens = subst Even c.2 even in
      let es = subst (Levels v) c.2 e in
      ap (λ (us : List Tree). children_clash s s v us (first P Ps)) c.2
      ∙ (λ i. or_else (no_clash s v P c.0 c.3 evens.0 es.0 i)
      (no_clashes s v Ps c.1 c.4 evens.1 es.1 i))

-- ---- the honest proof

part_quiet : (s : Scheme) (t : Tree) (P : Option Cut) → WellFormed t
    → IfSome P (λ C. CutOf s C t) → part_clash s s (level t) t P ≡ None
part_quiet s t None well c = refl
part_quiet s t (Some P) well c = no_clash s (level t) P t c well.one_level refl

pub own_quiet : (s : Scheme) → IsSized s.of → (a : Question) → IsLawful a → HonestProofIsQuiet s a
own_quiet s h a law = λ t b may well layers low.
    let own = honest_stands s h a law t b may well layers low in
    let head = honest_head s a t b in
    let part = honest_part s a t in
    let same = root_same s a t b part well own.spelled.part own.cut in
    ap (λ o. if_said o (pair_clash s t b)) (pair_found_of a.kind head part (proof_for s a t b) refl own.spelled)
    ∙ (λ i. or_else (differ_same (digests.root_preimage_of s t b) (proof_preimage s.of head part) same i)
    (part_quiet s t part well own.cut i))

pub queried_shape : (x : Shape) → IsQueried (kind_of_shape x)
queried_shape (Window w) = tt
queried_shape (Nearest p k) = tt

pub honest_quiet : (s : Scheme) → IsSized s.of → (q : Query) → IsQuery q → HonestIsQuiet s q
honest_quiet s h q is = λ t b may well layers low.
    let a = question q in
    let law = is_lawful q is in
    let own = honest_stands s h a law t b may well layers low in
    let kind : kind_in (proof s t b q) ≡ kind_of q =
    kind_spelled (honest_head s a t b) (honest_part s a t) (proof s t b q) (queried_shape q.shape) own.spelled
    in
    ap (λ (k : Kind). clash_of k s t b (proof s t b q)) kind ∙ own_quiet s h a law t b may well layers low
