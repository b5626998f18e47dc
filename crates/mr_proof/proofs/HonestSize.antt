-- A cut of a tree takes few bytes for each record of the tree.
use Rattle.std.proofs.Common.{◌≡◌, ℕ, ◌+◌, ◌*◌, ◌≤◌, List, [], ◌∷◌, ◌++◌, length, ap, subst, ◌∙◌, arith}
use Rattle.std.specs.List.{flat_map, AllByRecursion}
use Rattle.std.proofs.lemmas.List.{length-append}
use Rattle.mr_record.specs.Record.{IsRecord, record_bytes, rectangle_bytes}
use Rattle.mr_record.proofs.RecordFields.{length-record_bytes}
use Rattle.mr_record.specs.declared.record.Record.{Record}
use Rattle.mr_record.specs.declared.version.Version.{Version}
use Rattle.mr_record.specs.declared.version.Version.TheVariants.{One, Two}
use Rattle.mr_tree.specs.Tree.{records}
use Rattle.mr_tree.specs.Digest.{Scheme, word_bytes, preimage}
use Rattle.mr_tree.specs.declared.tree.Tree.{Tree}
use Rattle.mr_tree.proofs.Equations.{records-Leaf, records-Inner, digest_of_preimage}
use Rattle.mr_tree.proofs.RootLengths.{length-word_bytes}
use Rattle.mr_tree.proofs.Induction.{here-Leaf, here-Inner, every_child}
use Rattle.mr_proof.specs.Cut.{Cut, Cuts, Pruned, Leaf, Inner, no_more, first, CutOf, CutsOf}
use Rattle.mr_proof.specs.Spelling.{cut_bytes, cuts_bytes}
use Rattle.mr_tree.proofs.Told.{told_le}
use Rattle.mr_proof.proofs.Values.{rectangle_long}
use Rattle.mr_proof.proofs.Full.{IsFull, IsFullNode, some_record, flat}

record_short : (v : Version) (r : Record) → IsRecord r → length (record_bytes v r) ≤ 226
record_short One r fit = omega (arith, fit.payload, length-record_bytes One r)
record_short Two r fit = omega (arith, fit.payload, length-record_bytes Two r)

records_short : (v : Version) (rs : List Record) → AllByRecursion IsRecord rs
    → length (flat_map (record_bytes v) rs) ≤ 226 * length rs
records_short v [] all = omega arith
records_short v (r ∷ rs) all =
    let here = record_short v r all.0 in
    let rest = records_short v rs all.1 in
    omega (arith, length-append (record_bytes v r) (flat_map (record_bytes v) rs))

mutual
  pub cut_short : (s : Scheme) → ((m : List ℕ) → length (s.of m) ≡ 32) → (P : Cut) (t : Tree) → IsFull t → CutOf s P t
      → length (cut_bytes s.version P) + 2 ≤ 230 * length (records t)
  cut_short s sized (Pruned x) t full c =
      let some = some_record t full in
      let v = s.version in
      let long : length x.digest ≡ 32 =
      ap length (c.3 ∙ digest_of_preimage s t) ∙ sized (preimage s t) in
      let told = word_bytes v x.count ++ x.digest in
      omega (
        arith,
        some,
        long,
        length-append (rectangle_bytes x.rect) (word_bytes v x.mask ++ told),
        length-append (word_bytes v x.mask) told,
        length-append (word_bytes v x.count) x.digest,
        rectangle_long x.rect,
        length-word_bytes v x.mask,
        length-word_bytes v x.count,
        told_le v 8,
      )
  cut_short s sized (Leaf rs) t full c =
      let own = ap length (ap records c ∙ records-Leaf rs) in
      let node = here-Leaf IsFullNode rs (subst IsFull c full) in
      let some = node.0 in
      omega (arith, records_short s.version rs node.1)
  cut_short s sized (Inner cuts) t full c =
      let fulls = subst IsFull c.1 full in
      let own = ap length (ap records c.1 ∙ records-Inner c.0) in
      let two = here-Inner IsFullNode c.0 fulls in
      let all = cuts_short s sized cuts c.0 (every_child IsFullNode c.0 fulls) c.2 in
      omega (arith, all)

  cuts_short : (s : Scheme) → ((m : List ℕ) → length (s.of m) ≡ 32) → (Ps : Cuts) (ts : List Tree)
      → AllByRecursion IsFull ts → CutsOf s Ps ts → length (cuts_bytes s.version Ps) + 2 * length ts
      ≤ 230 * length (flat ts)
  cuts_short s sized no_more ts full c = let none = ap length c in omega arith
  cuts_short s sized (first P Ps) ts full c =
      let fulls = subst (AllByRecursion IsFull) c.2 full in
      let here = cut_short s sized P c.0 fulls.0 c.3 in
      let rest = cuts_short s sized Ps c.1 fulls.1 c.4 in
      let long = ap length c.2 in
      let own = ap (λ (us : List Tree). length (flat us)) c.2 in
      omega (
        arith,
        here,
        rest,
        length-append (cut_bytes s.version P) (cuts_bytes s.version Ps),
        length-append (records c.0) (flat c.1),
      )
