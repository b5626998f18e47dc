-- A node of the map beside the cut of it that a proof shows.
use Rattle.std.proofs.Common.{◌≡◌, ℕ, ◌+◌, ◌-◌, ◌≤◌, true, false, List, [], ◌∷◌, ◌++◌, length, map, refl, sym, ap, subst, ◌∙◌, inl, inr, arith}
use Rattle.std.specs.Prelude.{Option, Some, None, IfSome, IsSome, IsSomeAnd, option_map, All, Result, Ok, Err, IfOk, bytes_eq}
use Rattle.std.proofs.lemmas.Bool.{cases_Bool, false≢true}
use Rattle.std.proofs.lemmas.List.Elements.{recursion_from_All}
use Rattle.std.specs.List.{flat_map, AllByRecursion}
use Rattle.mr_record.specs.declared.record.Record.{Record}
use Rattle.mr_record.specs.declared.version.Version.{Version}
use Rattle.mr_tree.specs.Digest.{Scheme, by, entry_bytes, level_over, node_preimage}
use Rattle.mr_tree.specs.declared.entry.Entry.{Entry}
use Rattle.mr_tree.specs.Digest as digests
use Rattle.mr_tree.specs.Limits.{level_limit}
use Rattle.mr_tree.specs.Nodes.{MapModel, IsEntry, IsNodeOf, MayFetch, ShowsNode}
use Rattle.mr_tree.specs.View.{Node, IsChild, IsInner, IsView, children_in, child_entry, preimage_of}
use Rattle.mr_tree.specs.declared.child.Child.{Child}
use Rattle.mr_tree.specs.declared.tree.Tree.{Tree}
use Rattle.mr_tree.specs.declared.tree.Tree.TheVariants as tree
use Rattle.mr_tree.specs.declared.tree.Tree.TheOpen as node
use Rattle.mr_proof.specs.declared.pruned_entry.PrunedEntry.{PrunedEntry}
use Rattle.mr_proof.specs.Cut.{Cut, Cuts, Pruned, Leaf, Inner, no_more, first, entry, entries, digest, preimage}
use Rattle.mr_proof.specs.Spelling.{cut_bytes, FitsCut, FitCuts}
use Rattle.mr_proof.specs.Clash.{Pair, differ, or_else, children, children_in as trees_in, node_clash, children_clash}
use Rattle.mr_proof.proofs.Values.{same_bytes, bytes_same}
use Rattle.mr_proof.proofs.PreimageBytes.{preimage-Leaf, preimage-Inner}
use Rattle.mr_proof.proofs.SameNodes.{IsNamed, entry_front, named_cut}
use Rattle.mr_clash.specs.private.Steps.{pair_of, held_of, shown_digests, is_pruned, string_over, IsClash, Passed, Compared, ComparedAll, WalkedOne, WalkedAll, WalkedLeaf, Closed}
use Rattle.mr_clash.specs.declared.finding.Clash.{Clash}
use Rattle.mr_clash.specs.declared.walked.Row.{Row}
use Rattle.mr_clash.specs.declared.walked.Walked.{Walked}
use Rattle.mr_clash.proofs.Nodes.{inner_passed, inner_string_shown, item_pruned}

-- ---- two lists of entries with one string

named_children : (cs : List Child) → AllByRecursion IsChild cs → AllByRecursion IsNamed (map child_entry cs)
named_children [] all = tt
named_children (c ∷ cs) all = (
  record {
    there = record { at = c.rect; is = refl; ordered = all.0.ordered; fits = all.0.coordinates };
    long = all.0.digest;
  },
  named_children cs all.1,
)

named_entries : (scheme : Scheme) → ((m : List ℕ) → length (scheme.of m) ≡ 32) → (w : ℕ) (Ps : Cuts)
    → FitCuts scheme.version w Ps → AllByRecursion IsNamed (entries scheme w Ps)
named_entries scheme sized w no_more fits = tt
named_entries scheme sized w (first P Ps) fits = (
  named_cut scheme sized w P fits.0,
  named_entries scheme sized w
      Ps fits.1,
)

same_digests : (v : Version) (es fs : List Entry) → AllByRecursion IsNamed es → AllByRecursion IsNamed fs
    → length es ≡ length fs
    → flat_map (entry_bytes v) es ≡ flat_map (entry_bytes v) fs → shown_digests es ≡ shown_digests fs
same_digests v [] [] p q n e = refl
same_digests v [] (f ∷ fs) p q n e = absurd (omega arith)
same_digests v (x ∷ es) [] p q n e = absurd (omega arith)
same_digests v (x ∷ es) (f ∷ fs) p q n e =
    let c = entry_front v x f (flat_map (entry_bytes v) es) (flat_map (entry_bytes v) fs) p.0 q.0 e in
    let rest = same_digests v es fs p.1 q.1 (omega arith) c.rest in
    λ i. c.here.digest i ∷ rest i

held_shown : (cs : List Child) → held_of cs ≡ shown_digests (map child_entry cs)
held_shown [] = refl
held_shown (c ∷ cs) = ap (λ ds. c.digest ∷ ds) (held_shown cs)

record Behind (n m : ℕ) (x y : List ℕ) : Type 0 where
  count : n ≡ m
  rest : x ≡ y

behind : (a b c d n m : ℕ) (x y : List ℕ) → a ∷ c ∷ n ∷ x ≡ b ∷ d ∷ m ∷ y → Behind n m x y
behind a b c d n m x y e = record { count = cc; rest = cc }

-- the children of a node and those of a cut of it with one string
pub same_children : (scheme : Scheme) → ((m : List ℕ) → length (scheme.of m) ≡ 32) → (w : ℕ) (cs : List Child)
    (Ps : Cuts) → AllByRecursion IsChild cs → FitCuts scheme.version w Ps
    → node_preimage scheme.version (node.Inner (map child_entry cs)) ≡ node_preimage scheme.version
    (node.Inner (entries scheme w
    Ps)) → held_of cs ≡ shown_digests (entries scheme w Ps)
same_children scheme sized w cs Ps are fits e =
    let es = map child_entry cs in
    let fs = entries scheme w Ps in
    let b = behind 0x4e 0x4e (level_over es) (level_over fs) (length es) (length fs)
    (flat_map (entry_bytes scheme.version) es) (flat_map (entry_bytes scheme.version) fs) e in
    held_shown cs
    ∙ same_digests scheme.version es fs (named_children cs are) (named_entries scheme sized w Ps fits) b.count b.rest

-- ---- a node whose tree is told

pub head_is : {A : Type 0} (a b : A) (xs ys : List A) → a ∷ xs ≡ b ∷ ys → a ≡ b
head_is a b xs ys e = cc

pub tail_is : {A : Type 0} (a b : A) (xs ys : List A) → a ∷ xs ≡ b ∷ ys → xs ≡ ys
tail_is a b xs ys e = cc

entries_told : (scheme : Scheme) (s : MapModel) → s.version ≡ scheme.version → (cs : List Child) (ts : List Tree)
    → map (λ (c : Child). s.node c.id) cs ≡ map Some ts → AllByRecursion (IsEntry scheme.of s) cs
    → map child_entry cs ≡ map (digests.entry scheme) ts
entries_told scheme s one [] [] e all = refl
entries_told scheme s one [] (t ∷ ts) e all = absurd cc
entries_told scheme s one (c ∷ cs) [] e all = absurd cc
entries_told scheme s one (c ∷ cs) (t ∷ ts) e all =
    let here : s.node c.id ≡ Some t = head_is (s.node c.id) (Some t) _ _ e in
    let own : child_entry c ≡ digests.entry scheme t =
    subst (λ (o : Option Tree). IsSomeAnd o (λ t. child_entry c ≡ digests.entry scheme t)) here
    (subst (λ (v : Version). IsSomeAnd (s.node c.id) (λ t. child_entry c ≡ digests.entry (by v scheme.of) t))
    one all.0) in
    let rest = entries_told scheme s one cs ts (tail_is (s.node c.id) (Some t) _ _ e) all.1 in
    λ i. own i ∷ rest i

-- the string of the node is that of its tree
pub preimage_told : (scheme : Scheme) (s : MapModel) → s.version ≡ scheme.version → (t : Tree) (n : Node)
    → IsNodeOf s t n
    → AllByRecursion (IsEntry scheme.of s) (children_in n) → digests.preimage scheme t ≡ preimage_of scheme.version n
preimage_told scheme s one t node.Empty is all = absurd is
preimage_told scheme s one t (node.Leaf rs) is all =
    ap (digests.preimage scheme) is ∙ preimage-Leaf scheme rs
preimage_told scheme s one t (node.Inner cs) is all =
    ap (digests.preimage scheme) is.1 ∙ preimage-Inner scheme is.0
    ∙ ap (λ es. node_preimage scheme.version (node.Inner es)) (sym (entries_told scheme s one cs is.0 is.2 all))

pub known_children : (scheme : Scheme) (s : MapModel) (cs : List Child) → IsSome s.tree
    → AllByRecursion (MayFetch scheme.of s) cs → AllByRecursion (IsEntry scheme.of s) cs
known_children scheme s [] told all = tt
known_children scheme s (c ∷ cs) told all = (all.0.known told, known_children scheme s cs told all.1)

-- ---- one node

-- the string of an opened cut has its digest
pub digest_shown : (scheme : Scheme) (v : ℕ) (P : Cut) (y : List ℕ) → preimage scheme v P ≡ Some y
    → (entry scheme v P).digest ≡ scheme.of y
digest_shown scheme v (Pruned part) y e = absurd cc
digest_shown scheme v (Leaf rs) y e = ap scheme.of (same_some (node_preimage scheme.version (node.Leaf rs)) y e)
  where
    same_some : (a b : List ℕ) → ◌≡◌ {A = Option (List ℕ)} (Some a) (Some b) → a ≡ b
    same_some a b e = cc
digest_shown scheme v (Inner cuts) y e =
    ap scheme.of (same_some (node_preimage scheme.version (node.Inner (entries scheme (v - 1) cuts))) y e)
  where
    same_some : (a b : List ℕ) → ◌≡◌ {A = Option (List ℕ)} (Some a) (Some b) → a ≡ b
    same_some a b e = cc

strings_clash : (hash : List ℕ → List ℕ) (x y : List ℕ) → hash x ≡ hash y → IfSome (differ x (Some y)) (IsClash hash)
strings_clash hash x y e = elim (cases_Bool (bytes_eq x y)) [
  | inl t ↦ rw t tt
  | inr f ↦ rw f (record { apart = λ is. false≢true (sym f ∙ bytes_same x y is); same = e })
]

-- two strings with one digest that differ have one hash
pub node_collides : (hash : List ℕ → List ℕ) (x y digest : List ℕ) (pair : Option Pair) → hash x ≡ digest
    → digest ≡ hash y → pair ≡ differ x (Some y) → IfSome pair (IsClash hash)
node_collides hash x y digest pair p q e =
    subst (λ (o : Option Pair). IfSome o (IsClash hash)) (sym e) (strings_clash hash x y (p ∙ q))

-- the pair of a node comes first
clash_here : (scheme : Scheme) (v : ℕ) (t : Tree) (P : Cut) (y : List ℕ) (p : Pair)
    → preimage scheme v P ≡ Some y → differ (digests.preimage scheme t) (Some y) ≡ Some p
    → node_clash scheme scheme v t P ≡ Some p
clash_here scheme v t (Pruned part) y p e d = absurd cc
clash_here scheme v t (Leaf rs) y p e d = ap (differ (digests.preimage scheme t)) e ∙ d
clash_here scheme v t (Inner cuts) y p e d =
    ap (λ o. or_else o (children_clash scheme scheme (v - 1) (children t) cuts))
    (ap (differ (digests.preimage scheme t)) e ∙ d)

module _ (scheme : Scheme) (s : MapModel) (c : Child) (P : Cut) where
  -- nothing is compared with what is pruned
  pub pruned_compared : is_pruned P ≡ true → Compared scheme s c.id c.level P None
  pruned_compared is = record { collides = tt; told = λ told. of_node (s.node c.id) P is }
    where
      of_node : (o : Option Tree) (P : Cut) → is_pruned P ≡ true → IfSome o
          (λ t. None ≡ node_clash scheme scheme c.level t P)
      of_node None P is = tt
      of_node (Some t) (Pruned part) is = refl
      of_node (Some t) (Leaf rs) is = absurd cc
      of_node (Some t) (Inner cuts) is = absurd cc

module _ (scheme : Scheme) (s : MapModel) (one : s.version ≡ scheme.version) (c : Child) (n : Node)
    (shows : ShowsNode scheme.of s c n) (may : AllByRecursion (MayFetch scheme.of s) (children_in n)) where
  strings_told : (t : Tree) → IsSome s.tree → IsNodeOf s t n → digests.preimage scheme t ≡ preimage_of scheme.version n
  strings_told t told is = preimage_told scheme s one t n is (known_children scheme s (children_in n) told may)

  -- the two strings of a node differ
  pub clash_compared : (P : Cut) (y : List ℕ) (p : Pair) → preimage scheme c.level P ≡ Some y
      → c.digest ≡ digest scheme c.level P → Some p ≡ differ (preimage_of scheme.version n) (Some y)
      → Compared scheme s c.id c.level P (Some p)
  clash_compared P y p e same d = record {
    collides = node_collides scheme.of (preimage_of scheme.version n) y c.digest (Some p)
        (subst (λ v. scheme.of (preimage_of v n) ≡ c.digest) one shows.digest)
        (same ∙ digest_shown scheme c.level P y e) d;
    told = λ told. of_node told (s.node c.id) shows.node;
  }
    where
      of_node : IsSome s.tree → (o : Option Tree) → IfSome o (λ t. IsNodeOf s t n)
          → IfSome o (λ t. Some p ≡ node_clash scheme scheme c.level t P)
      of_node told None is = tt
      of_node told (Some t) is =
          sym (clash_here scheme c.level t P y p e (ap (λ x. differ x (Some y)) (strings_told t told is) ∙ sym d))

  -- the strings of a leaf are one
  pub leaf_compared : (rs : List Record)
      → None ≡ differ (preimage_of scheme.version n) (Some (node_preimage scheme.version (node.Leaf rs)))
      → Compared scheme s c.id c.level (Leaf rs) None
  leaf_compared rs d = record { collides = tt; told = λ told. of_node told (s.node c.id) shows.node }
    where
      of_node : IsSome s.tree → (o : Option Tree) → IfSome o (λ t. IsNodeOf s t n)
          → IfSome o (λ t. None ≡ node_clash scheme scheme c.level t (Leaf rs))
      of_node told None is = tt
      of_node told (Some t) is =
          d ∙ ap (λ x. differ x (Some (node_preimage scheme.version (node.Leaf rs)))) (sym (strings_told t told is))

  -- the strings of an inner node are one, and its children were compared
  pub inner_compared : (cs : List Child) (Ps : Cuts) (pair : Option Pair) → n ≡ node.Inner cs
      → None ≡ differ (preimage_of scheme.version n)
      (Some (node_preimage scheme.version (node.Inner (entries scheme (c.level - 1) Ps))))
      → ComparedAll scheme s (c.level - 1) cs Ps pair → Compared scheme s c.id c.level (Inner Ps) pair
  inner_compared cs Ps pair is d all = record {
    collides = all.collides;
    told = λ told. of_node told (s.node c.id) shows.node;
  }
    where
      of_node : IsSome s.tree → (o : Option Tree) → IfSome o (λ t. IsNodeOf s t n)
          → IfSome o (λ t. pair ≡ node_clash scheme scheme c.level t (Inner Ps))
      of_node told None of = tt
      of_node told (Some t) of =
          let inner : IsNodeOf s t (node.Inner cs) = subst (IsNodeOf s t) is of in
          let own : children t ≡ inner.0 = ap children inner.1 ∙ ap trees_in (tree.outs-Inner inner.0) in
          let y = node_preimage scheme.version (node.Inner (entries scheme (c.level - 1) Ps)) in
          let none : differ (digests.preimage scheme t) (Some y) ≡ None =
          ap (λ x. differ x (Some y)) (strings_told t told of) ∙ sym d in
          all.told told inner.0 inner.2
          ∙ sym (λ i. or_else (none i) (children_clash scheme scheme (c.level - 1) (own i) Ps))

pub some_node : (o : Option Tree) (t : Tree) (Q : Tree → Type 0) → o ≡ Some t → IfSome o Q → Q t
some_node None t Q e h = absurd cc
some_node (Some u) t Q e h = subst Q (same u t e) h
  where
    same : (u t : Tree) → ◌≡◌ {A = Option Tree} (Some u) (Some t) → u ≡ t
    same u t e = cc

-- ---- what a walk comes to

pub same_strings : (x y : List ℕ) → None ≡ differ x (Some y) → x ≡ y
same_strings x y e = elim (cases_Bool (bytes_eq x y)) [
  | inl t ↦ same_bytes x y t
  | inr f ↦ absurd (not_none x y f e)
]
  where
    not_none : (x y : List ℕ) → bytes_eq x y ≡ false → None ≡ differ x (Some y) → ⊥
    not_none x y f e = let d : differ x (Some y) ≡ Some (record { owned = x; shown = y }) = rw f refl in cc

-- two strings that were compared, under other names
pub pair_as : {E : Type 0} (r : Result (Option Clash) E) (a b y z : List ℕ) → a ≡ b → y ≡ z
    → IfOk r (λ o. option_map pair_of o ≡ differ a (Some y)) → IfOk r (λ o. option_map pair_of o ≡ differ b (Some z))
pair_as (Ok o) a b y z p q h = h ∙ (λ i. differ (p i) (Some (q i)))
pair_as (Err f) a b y z p q h = tt

-- the digest of a string beside the owner's
pub digest_beside : (hash : List ℕ → List ℕ) (owned shown held digest : List ℕ) (o : Option Clash) → o ≡ None
    → hash owned ≡ held → option_map pair_of o ≡ differ owned (Some shown) → digest ≡ held → digest ≡ hash shown
digest_beside hash owned shown held digest o none is pair own =
    own ∙ sym is ∙ ap hash (same_strings owned shown (sym (ap (option_map pair_of) none) ∙ pair))

-- what is pruned
pub pruned_walked : (scheme : Scheme) (s : MapModel) (c : Child) (P : Cut) (rest before after : List ℕ)
    (x : Entry) → is_pruned P ≡ true → before ≡ cut_bytes scheme.version P ++ rest → FitsCut scheme.version c.level P
    → ((part : PrunedEntry) → FitsCut scheme.version c.level (Pruned part)
    → before ≡ cut_bytes scheme.version (Pruned part) ++ rest
    → Passed scheme c.level (Pruned part) rest x after)
    → WalkedOne scheme s c c.level P rest (record { entry = x; clash = None }) after
pruned_walked scheme s c P rest before after x is e fits passed =
    let p = item_pruned scheme c.level P rest before after x is e fits passed in
    record { says = p.says; behind = p.behind; compared = λ same. pruned_compared scheme s c P is }

module _ (scheme : Scheme) (s : MapModel) (one : s.version ≡ scheme.version) (c : Child) (n : Node)
    (shows : ShowsNode scheme.of s c n) where
  may_all : AllByRecursion (MayFetch scheme.of s) (children_in n)
  may_all = recursion_from_All (MayFetch scheme.of s) (children_in n) shows.children

  -- a leaf
  pub leaf_walked : (P : Cut) (rest before after owned : List ℕ) (w : Walked) → FitsCut scheme.version c.level P
      → c.level ≡ 0
      → is_pruned P ≡ false → before ≡ cut_bytes scheme.version P ++ rest → owned ≡ preimage_of scheme.version n
      → ((rs : List Record) → FitsCut scheme.version 0 (Leaf rs) → before ≡ cut_bytes scheme.version (Leaf rs) ++ rest
      → WalkedLeaf scheme rs rest owned w after)
      → WalkedOne scheme s c c.level P rest w after
  leaf_walked (Pruned part) rest before after owned w fits flat not_pruned e is walked = absurd cc
  leaf_walked (Inner Ps) rest before after owned w fits flat not_pruned e is walked =
      let above = fits.0.above in absurd (omega (arith, above, flat))
  leaf_walked (Leaf rs) rest before after owned w fits flat not_pruned e is walked =
      let y = node_preimage scheme.version (node.Leaf rs) in
      let x = walked rs
      (record { at_leaf = refl; some = fits.some; few = fits.few; each = fits.each; layers = fits.layers }) e in
      record {
        says = x.says;
        behind = x.behind;
        compared = λ same. subst (Compared scheme s c.id c.level (Leaf rs))
            (sym (x.pair ∙ ap (λ o. differ o (Some y)) is))
            (by_pair (differ (preimage_of scheme.version n) (Some y)) refl same);
      }
    where
      by_pair : (o : Option Pair) → differ (preimage_of scheme.version n)
          (Some (node_preimage scheme.version (node.Leaf rs))) ≡ o
          → c.digest ≡ digest scheme c.level (Leaf rs) → Compared scheme s c.id c.level (Leaf rs) o
      by_pair None d same = leaf_compared scheme s one c n shows may_all rs (sym d)
      by_pair (Some p) d same =
          clash_compared scheme s one c n shows may_all (Leaf rs) (node_preimage scheme.version (node.Leaf rs))
          p refl same
          (sym d)

  -- an inner node
  pub inner_walked : ((m : List ℕ) → length (scheme.of m) ≡ 32) → c.level ≤ level_limit → (P : Cut) (cs : List Child)
      (rest before after owned : List ℕ) (row : Row) (w : Walked) → FitsCut scheme.version c.level P → (c.level ≡ 0 → ⊥)
      → is_pruned P ≡ false → before ≡ cut_bytes scheme.version P ++ rest → owned ≡ preimage_of scheme.version n
      → IsView n
      → n ≡ node.Inner (children_in n) → cs ≡ children_in n
      → ((Ps : Cuts) → FitsCut scheme.version c.level (Inner Ps) → before ≡ cut_bytes scheme.version (Inner Ps) ++ rest
      → WalkedAll scheme s (c.level - 1) cs Ps rest row after)
      → Closed scheme c.level owned row w → WalkedOne scheme s c c.level P rest w after
  inner_walked sized deep (Pruned part) cs rest before after owned row w fits above not_pruned e is view inner own
      walked closed = absurd cc
  inner_walked sized deep (Leaf rs) cs rest before after owned row w fits above not_pruned e is view inner own
      walked closed = absurd (above fits.at_leaf)
  inner_walked sized deep (Inner Ps) cs rest before after owned row w fits above not_pruned e is view inner own
      walked closed =
      let v = c.level - 1 in
      let es = row.entries.items in
      let all = walked Ps fits e in
      let above = fits.0.above in
      let up : c.level ≡ v + 1 = omega (arith, above) in
      let shown : string_over scheme.version c.level es ≡ node_preimage scheme.version
      (node.Inner (entries scheme v Ps)) =
      inner_string_shown scheme v c.level Ps es up fits.0.some fits.1 all.say in
      let passed = inner_passed scheme v c.level Ps rest es es w.entry after up deep fits fits.1 all.say refl
      closed.says all.behind in
      let is_inner : n ≡ node.Inner cs = inner ∙ ap node.Inner (sym own) in
      record {
        says = passed.says;
        behind = passed.behind;
        compared = λ same. subst (Compared scheme s c.id c.level (Inner Ps))
            (sym (closed.pair ∙ (λ i. or_else (differ (is i) (Some (shown i))) (option_map pair_of row.clash))))
            (by_pair (differ (preimage_of scheme.version n)
            (Some (node_preimage scheme.version (node.Inner (entries scheme v Ps))))) refl
            is_inner all.compared same);
      }
    where
      children_of : (n : Node) (cs : List Child) → n ≡ node.Inner cs → IsView n → All IsChild cs
      children_of n cs e view = let v : IsInner cs = subst IsView e view in v.each

      by_pair : (o : Option Pair)
          → differ (preimage_of scheme.version n)
          (Some (node_preimage scheme.version (node.Inner (entries scheme (c.level - 1) Ps)))) ≡ o
          → n ≡ node.Inner cs
          → (held_of cs ≡ shown_digests (entries scheme (c.level - 1) Ps)
          → ComparedAll scheme s (c.level - 1) cs Ps (option_map pair_of row.clash))
          → c.digest ≡ digest scheme c.level (Inner Ps)
          → Compared scheme s c.id c.level (Inner Ps) (or_else o (option_map pair_of row.clash))
      by_pair (Some p) d is_inner all same = clash_compared scheme s one c n shows may_all (Inner Ps)
          (node_preimage scheme.version (node.Inner (entries scheme (c.level - 1) Ps))) p refl same (sym d)
      by_pair None d is_inner all same =
          let strings = sym (ap (preimage_of scheme.version) is_inner) ∙ same_strings _ _ (sym d) in
          let each = recursion_from_All IsChild cs (children_of n cs is_inner view) in
          let held = same_children scheme sized (c.level - 1) cs Ps each fits.1 strings in
          inner_compared scheme s one c n shows may_all cs Ps (option_map pair_of row.clash) is_inner (sym d) (all held)
