-- The roots of the map and of what a proof spells.
use Rattle.std.proofs.Common.{◌≡◌, ℕ, zero, suc, ◌≤◌, ◌<◌, ◌^◌, List, [], length, append-nil, refl, sym, ap, subst, ◌∙◌, arith}
use Rattle.std.specs.Prelude.{Option, Some, None, IfSome, IsSome, IsSomeAnd, IsNone, option_map, Result, Ok, Err, IfOk}
use Rattle.mr_tree.specs.Tree.{records}
use Rattle.mr_tree.specs.Digest.{Scheme, by, root_preimage}
use Rattle.mr_tree.specs.declared.entry.Entry.{Entry}
use Rattle.mr_tree.specs.Digest as digests
use Rattle.mr_tree.specs.Limits.{level_limit}
use Rattle.mr_tree.specs.Nodes.{MapModel, IsTop, MayFetch, tree_under, root_entry}
use Rattle.mr_tree.specs.View.{child_entry}
use Rattle.mr_tree.specs.declared.child.Child.{Child}
use Rattle.mr_tree.specs.declared.nodes.Top.{Top}
use Rattle.mr_tree.specs.declared.tree.Tree.{Tree}
use Rattle.mr_proof.specs.declared.head.Head.{Head}
use Rattle.mr_proof.specs.Cut.{Cut, rect, mask, digest, entry}
use Rattle.mr_proof.specs.Spelling.{cut_bytes, part_bytes, FitsCut, IsSpelled}
use Rattle.mr_proof.specs.Accepted.{proof_preimage, root_found}
use Rattle.mr_proof.specs.Clash.{Pair, differ, or_else, node_clash, part_clash, pair_clash, if_said, clash_of}
use Rattle.mr_proof.proofs.CutLevels.{entry_at_level}
use Rattle.mr_proof.proofs.Full.{IsThere}
use Rattle.mr_proof.proofs.Pairs.{pair_found_of}
use Rattle.mr_proof.proofs.Preimages.{entry-rect, entry-mask}
use Rattle.mr_proof.proofs.SameNodes.{named_cut}
use Rattle.mr_proof.proofs.SameRoots.{same_root, empty_filled}
use Rattle.mr_proof.proofs.Worth.{version_said}
use Rattle.mr_clash.specs.Finding.{root_at}
use Rattle.mr_clash.specs.private.Steps.{pair_of, PassesRoot, WalksCut, WalkedOne, WalkedRoot, Compared, ComparedMap}
use Rattle.mr_clash.specs.declared.walked.Walked.{Walked}
use Rattle.mr_clash.proofs.Walks.{node_collides, same_strings, some_node}

-- ---- the strings of the roots

-- that of a cut, by what is said of its node
pub root_of_cut : (hash : List ℕ → List ℕ) (h : Head) (P : Cut) (x : Entry) → FitsCut h.version h.level P
    → x ≡ entry (by h.version hash) h.level P
    → root_preimage h.version h.batch h.count x ≡ proof_preimage hash h (Some P)
root_of_cut hash h P x fits e = λ i. root_preimage h.version h.batch h.count (record {
  level = (ap (λ (e : Entry). e.level) e ∙ entry_at_level (by h.version hash) h.level P fits) i;
  rect = (ap (λ (e : Entry). e.rect) e ∙ entry-rect (by h.version hash) h.level P) i;
  mask = (ap (λ (e : Entry). e.mask) e ∙ entry-mask (by h.version hash) h.level P) i;
  count = x.count;
  digest = ap (λ (e : Entry). e.digest) e i;
})

-- that of no cut
pub root_of_none : (hash : List ℕ → List ℕ) (h : Head) (e : Entry) → h.count ≡ 0
    → root_preimage h.version h.batch h.count e ≡ proof_preimage hash h None
root_of_none hash h e none = λ i. root_preimage h.version h.batch (none i) e

-- that of what the map says of itself
pub is_said : (hash : List ℕ → List ℕ) (s : MapModel) (top said : Top) → top ≡ said → IsTop hash s top
    → IsTop hash s said
is_said hash s top said says is = subst (IsTop hash s) says is

pub root_said : (hash : List ℕ → List ℕ) (top said : Top) (root : List ℕ) → top ≡ said → root ≡ hash (root_at top)
    → root ≡ hash (root_at said)
root_said hash top said root says is = is ∙ ap (λ (t : Top). hash (root_at t)) says

-- that of the map, where its tree is told
pub root_told : (hash : List ℕ → List ℕ) (s : MapModel) (top : Top) (t : Tree) → IsTop hash s top → s.tree ≡ Some t
    → root_at top ≡ digests.root_preimage_of (by s.version hash) t s.batch
root_told hash s top t is told =
    let count : top.count ≡ length (records t) =
    subst (λ (o : Option Tree). IfSome o (λ t. top.count ≡ length (records t))) told is.count in
    let under : tree_under s top.root ≡ Some t =
    subst (λ (o : Option Tree). IfSome o (λ t. tree_under s top.root ≡ Some t)) told is.tree in
    by_root top.root refl count under
  where
    same_some : (u t : Tree) → ◌≡◌ {A = Option Tree} (Some u) (Some t) → u ≡ t
    same_some u t e = cc

    by_root : (r : Option Child) → top.root ≡ r → top.count ≡ length (records t) → tree_under s top.root ≡ Some t
        → root_at top ≡ digests.root_preimage_of (by s.version hash) t s.batch
    by_root None r count under =
        let none : top.count ≡ 0 = is.none.1 (subst IsNone (sym r) refl) in
        (λ i. root_preimage (is.version i) (is.batch i) (none i) (root_entry top.root))
        ∙ (λ i. root_preimage s.version s.batch ((sym none ∙ count) i) (digests.entry (by s.version hash) t))
    by_root (Some c) r count under =
        let may : MayFetch hash s c = subst (λ (o : Option Child). IfSome o (MayFetch hash s)) r is.root in
        let some : IsSome s.tree = subst IsSome (sym told) refl in
        let at : s.node c.id ≡ Some t = sym (ap (tree_under s) r) ∙ under in
        let own : child_entry c ≡ digests.entry (by s.version hash) t = known_at (s.node c.id) at (may.known some) in
        (λ i. root_preimage (is.version i) (is.batch i) (count i) (root_entry (r i)))
        ∙ ap (root_preimage s.version s.batch (length (records t))) own
      where
        known_at : (o : Option Tree) → o ≡ Some t → IsSomeAnd o
            (λ t. child_entry c ≡ digests.entry (by s.version hash) t)
            → child_entry c ≡ digests.entry (by s.version hash) t
        known_at None e k = cc
        known_at (Some u) e k = subst (λ (u : Tree). child_entry c ≡ digests.entry (by s.version hash) u)
            (same_some u t e) k

-- ---- roots that are one

-- the map is of the head's version, and the cut one of the root node's level with its digest
pub record RootCut (hash : List ℕ → List ℕ) (top : Top) (c : Child) (h : Head) (P : Cut) : Type 0 where
  pub one : top.version ≡ h.version
  pub level : h.level ≡ c.level
  pub same : c.digest ≡ digest (by h.version hash) c.level P

-- what a root preimage says of the root node of a cut
abbrev said_of : (List ℕ → List ℕ) → Head → Cut → Entry
said_of hash h P = record {
  level = h.level;
  rect = rect P;
  mask = mask h.version P;
  count = 0;
  digest = digest (by h.version hash) h.level P;
}

-- a map with records and a proof of one
pub root_cut : (hash : List ℕ → List ℕ) → ((m : List ℕ) → length (hash m) ≡ 32) → (top : Top) (c : Child) (h : Head)
    (P : Cut) (bytes : List ℕ) → top.root ≡ Some c → top.batch < 2 ^ 64 → top.count < 2 ^ 64 → 1 ≤ top.count
    → IsThere (Some c.rect) → IsSpelled h (Some P) bytes → root_at top ≡ proof_preimage hash h (Some P)
    → RootCut hash top c h P
root_cut hash sized top c h P bytes root batch count some there spelled e =
    let own : root_entry top.root ≡ child_entry c = ap root_entry root in
    let place : (entry (by h.version hash) h.level P).rect ≡ rect P = entry-rect (by h.version hash) h.level P in
    let same = same_root top.version h.version top.batch top.count h.batch h.count (child_entry c)
    (said_of hash h P)
    batch count spelled.head.batch (omega (arith, spelled.head.count)) some (omega (arith, spelled.part.0)) there
    (subst IsThere place (named_cut (by h.version hash) sized h.level P spelled.part.1).there)
    (ap (root_preimage top.version top.batch top.count) (sym own) ∙ e) in
    let level : h.level ≡ c.level = sym same.level in
    record {
      one = same.version;
      level = level;
      same = same.same.digest ∙ ap (λ v. digest (by h.version hash) v P) level;
    }

-- ---- no root node

-- an empty map and a cut have two roots
pub no_root_cut : (hash : List ℕ → List ℕ) (top : Top) (h : Head) (P : Cut) → top.count ≡ 0 → 1 ≤ h.count
    → root_at top ≡ proof_preimage hash h (Some P) → ⊥
no_root_cut hash top h P none some e =
    empty_filled top.version h.version top.batch h.batch h.count (root_entry top.root)
    (said_of hash h P) some
    ((λ i. root_preimage top.version top.batch (sym none i) (root_entry top.root)) ∙ e)

some_records : (hash : List ℕ → List ℕ) (s : MapModel) (top : Top) (c : Child) → IsTop hash s top
    → top.root ≡ Some c → 1 ≤ top.count
some_records hash s top c is root = by_count top.count refl
  where
    by_count : (n : ℕ) → top.count ≡ n → 1 ≤ top.count
    by_count zero e = absurd (not_none (subst IsNone root (is.none.0 e)))
      where
        not_none : IsNone (Some c) → ⊥
        not_none e = cc
    by_count (suc n) e = omega (arith, e)

-- ---- the whole

clash_spelled : (h : Scheme) (t : Tree) (batch : ℕ) (head : Head) (P : Option Cut) (bytes : List ℕ)
    → IsSpelled head P bytes → clash_of head.kind h t batch bytes
    ≡ or_else (differ (digests.root_preimage_of h t batch) (Some (proof_preimage h.of head P)))
    (part_clash h (by head.version h.of) head.level t P)
clash_spelled h t batch head P bytes spelled =
    ap (λ o. if_said o (pair_clash h t batch)) (pair_found_of head.kind head P bytes refl spelled)

told_of : (hash : List ℕ → List ℕ) (s : MapModel) (top : Top) (h : Head) (P : Option Cut) (bytes : List ℕ)
    (pair : Option Pair) → IsTop hash s top → IsSpelled h P bytes
    → ((t : Tree) → s.tree ≡ Some t
    → pair ≡ or_else (differ (root_at top) (Some (proof_preimage hash h P)))
    (part_clash (by h.version hash) (by h.version hash) h.level t P))
    → IfSome s.tree (λ t. pair ≡ clash_of h.kind (by s.version hash) t s.batch bytes)
told_of hash s top h P bytes pair is spelled so = by_tree s.tree refl
  where
    by_tree : (o : Option Tree) → s.tree ≡ o → IfSome o (λ t. pair ≡ clash_of h.kind (by s.version hash) t s.batch
        bytes)
    by_tree None told = tt
    by_tree (Some t) told =
        so t told
        ∙ ap (λ x. or_else (differ x (Some (proof_preimage hash h P)))
        (part_clash (by h.version hash) (by h.version hash) h.level t P))
        (root_told hash s top t is told)
        ∙ by_pair (differ (digests.root_preimage_of (by s.version hash) t s.batch)
        (Some (proof_preimage hash h P))) refl
        ∙ sym (clash_spelled (by s.version hash) t s.batch h P bytes spelled)
      where
        -- where the strings of the roots are one, the map is of the head's version
        by_pair : (o : Option Pair)
            → differ (digests.root_preimage_of (by s.version hash) t s.batch) (Some (proof_preimage hash h P)) ≡ o
            → or_else (differ (digests.root_preimage_of (by s.version hash) t s.batch) (Some (proof_preimage hash h P)))
            (part_clash (by h.version hash) (by h.version hash) h.level t P)
            ≡ or_else (differ (digests.root_preimage_of (by s.version hash) t s.batch) (Some (proof_preimage hash h P)))
            (part_clash (by s.version hash) (by h.version hash) h.level t P)
        by_pair (Some p) d =
            ap (λ o. or_else o (part_clash (by h.version hash) (by h.version hash) h.level t P)) d
            ∙ sym (ap (λ o. or_else o (part_clash (by s.version hash) (by h.version hash) h.level t P)) d)
        by_pair None d =
            ap (λ v. or_else (differ (digests.root_preimage_of (by s.version hash) t s.batch)
            (Some (proof_preimage hash h P)))
            (part_clash (by v hash) (by h.version hash) h.level t P))
            (sym (version_said (by s.version hash) t s.batch h P (same_strings _ _ (sym d))))

-- the strings of the roots differ
pub roots_differ : (hash : List ℕ → List ℕ) (s : MapModel) (top : Top) (h : Head) (P : Option Cut) (bytes : List ℕ)
    (p : Pair) → IsTop hash s top → IsSpelled h P bytes → root_found hash h P ≡ hash (root_at top)
    → Some p ≡ differ (root_at top) (Some (proof_preimage hash h P)) → ComparedMap hash s h.kind bytes (Some p)
roots_differ hash s top h P bytes p is spelled held d = record {
  collides = node_collides hash (root_at top) (proof_preimage hash h P) (hash (root_at top)) (Some p) refl (sym held) d;
  told = told_of hash s top h P bytes (Some p) is spelled
      (λ t told. ap (λ o. or_else o (part_clash (by h.version hash) (by h.version hash) h.level t P)) d);
}

-- they are one, and the root node was compared with the cut
pub nodes_compared : (hash : List ℕ → List ℕ) (s : MapModel) (top : Top) (c : Child) (h : Head) (P : Cut)
    (bytes : List ℕ) (pair : Option Pair) → IsTop hash s top → top.root ≡ Some c → IsSpelled h (Some P) bytes
    → None ≡ differ (root_at top) (Some (proof_preimage hash h (Some P))) → h.level ≡ c.level
    → Compared (by h.version hash) s c.id c.level P pair → ComparedMap hash s h.kind bytes pair
nodes_compared hash s top c h P bytes pair is root spelled d level so = record {
  collides = so.collides;
  told = told_of hash s top h (Some P) bytes pair is spelled (λ t told.
      let under : tree_under s top.root ≡ Some t =
      subst (λ (o : Option Tree). IfSome o (λ t. tree_under s top.root ≡ Some t)) told is.tree in
      let at : s.node c.id ≡ Some t = sym (ap (tree_under s) root) ∙ under in
      let own : pair ≡ node_clash (by h.version hash) (by h.version hash) c.level t P =
      some_node (s.node c.id) t (λ t. pair ≡ node_clash (by h.version hash) (by h.version hash) c.level t P) at
      (so.told (subst IsSome (sym told) refl)) in
      own ∙ ap (λ v. node_clash (by h.version hash) (by h.version hash) v t P) (sym level)
      ∙ ap (λ o. or_else o (node_clash (by h.version hash) (by h.version hash) h.level t P)) d);
}

-- ---- the root item

-- there is none
pub none_walked : (hash : List ℕ → List ℕ) (s : MapModel) (top : Top) (h : Head) (P : Option Cut) (bytes : List ℕ)
    (x : Entry) → IsTop hash s top → IsSpelled h P bytes → h.count ≡ 0
    → WalkedRoot hash s top h P bytes (record { entry = x; clash = None })
none_walked hash s top h None bytes x is spelled none = record {
  root = root_of_none hash h x none;
  compared = λ d. record {
    collides = tt;
    told = told_of hash s top h None bytes None is spelled (λ t told. ap (λ o. or_else o None) d);
  };
}
none_walked hash s top h (Some P) bytes x is spelled none =
    let some = spelled.part.0 in absurd (omega (arith, some, none))

-- its node has none of the map at its place
alone : {E : Type 0} (hash : List ℕ → List ℕ) (s : MapModel) (top : Top) (h : Head) (P : Option Cut) (bytes : List ℕ)
    (v : ℕ) (before : List ℕ) (r : Result Walked E) → IsSpelled h P bytes → (h.count ≡ 0 → ⊥) → v ≡ h.level
    → before ≡ part_bytes h.version P
    → ((P : Cut) → IsSpelled h (Some P) bytes → None ≡ differ (root_at top) (Some (proof_preimage hash h (Some P))) → ⊥)
    → PassesRoot (by h.version hash) v before r → IfOk r (WalkedRoot hash s top h P bytes)
alone hash s top h None bytes v before r spelled some level is apart passes = absurd (some spelled.part)
alone hash s top h (Some P) bytes v before r spelled some level is apart passes =
    passed r (passes P (subst (λ k. k ≤ level_limit) (sym level) spelled.head.level)
    (subst (λ k. FitsCut h.version k P) (sym level) spelled.part.1) is)
  where
    passed : {E : Type 0} (r : Result Walked E) → IfOk r (λ w. w.entry ≡ entry (by h.version hash) v P)
        → IfOk r (WalkedRoot hash s top h (Some P) bytes)
    passed (Ok w) says = record {
      root = root_of_cut hash h P w.entry spelled.part.1 (says ∙ ap (λ k. entry (by h.version hash) k P) level);
      compared = λ d. absurd (apart P spelled d);
    }
    passed (Err f) says = tt

-- the map has no root node
pub root_alone : {E : Type 0} (hash : List ℕ → List ℕ) (s : MapModel) (top : Top) (h : Head) (P : Option Cut)
    (bytes : List ℕ) (v : ℕ) (before : List ℕ) (r : Result Walked E) → IsTop hash s top → top.root ≡ None
    → IsSpelled h P bytes → (h.count ≡ 0 → ⊥) → v ≡ h.level → before ≡ part_bytes h.version P
    → PassesRoot (by h.version hash) v before r
    → IfOk r (WalkedRoot hash s top h P bytes)
root_alone hash s top h P bytes v before r is root spelled some level here passes =
    alone hash s top h P bytes v before r spelled some level here
    (λ Q spelled d. let few = spelled.part.0 in
    no_root_cut hash top h Q (is.none.1 (subst IsNone (sym root) refl)) (omega (arith, few)) (same_strings _ _ d))
    passes

-- that of the map has another level
pub other_level : {E : Type 0} (hash : List ℕ → List ℕ) → ((m : List ℕ) → length (hash m) ≡ 32) → (s : MapModel)
    (top : Top) (c : Child) (h : Head) (P : Option Cut) (bytes : List ℕ) (v : ℕ) (before : List ℕ)
    (r : Result Walked E) → IsTop hash s top → top.root ≡ Some c → top.batch < 2 ^ 64 → top.count < 2 ^ 64
    → IsThere (Some c.rect) → (top.version ≡ h.version → c.level ≡ v → ⊥) → IsSpelled h P bytes
    → (h.count ≡ 0 → ⊥) → v ≡ h.level
    → before ≡ part_bytes h.version P → PassesRoot (by h.version hash) v before r
    → IfOk r (WalkedRoot hash s top h P bytes)
other_level hash sized s top c h P bytes v before r is root batch count there other spelled some level here passes =
    alone hash s top h P bytes v before r spelled some level here
    (λ Q spelled d. let x = root_cut hash sized top c h Q bytes root batch count (some_records hash s top c is root)
    there spelled (same_strings _ _ d) in
    other x.one (sym x.level ∙ sym level))
    passes

-- the root node was walked beside the item
pub root_walked : {E : Type 0} (hash : List ℕ → List ℕ) → ((m : List ℕ) → length (hash m) ≡ 32) → (s : MapModel)
    (top : Top) (c : Child) (h : Head) (P : Option Cut) (bytes : List ℕ) (v : ℕ) (before after : List ℕ)
    (r : Result Walked E) → IsTop hash s top → top.root ≡ Some c → top.batch < 2 ^ 64 → top.count < 2 ^ 64
    → IsThere (Some c.rect) → c.level ≡ v → IsSpelled h P bytes → (h.count ≡ 0 → ⊥) → v ≡ h.level
    → before ≡ part_bytes h.version P → WalksCut (by h.version hash) s c before after r
    → IfOk r (WalkedRoot hash s top h P bytes)
root_walked hash sized s top c h None bytes v before after r is root batch count there one spelled some level here
    walked = absurd (some spelled.part)
root_walked hash sized s top c h (Some P) bytes v before after r is root batch count there one spelled some level here
    walked =
    walked_on r (walked P [] (subst (λ k. FitsCut h.version k P) (sym own) spelled.part.1)
    (here ∙ sym (append-nil (cut_bytes h.version P))))
  where
    own : c.level ≡ h.level
    own = one ∙ level

    walked_on : {E : Type 0} (r : Result Walked E)
        → IfOk r (λ w. WalkedOne (by h.version hash) s c c.level P [] w after)
        → IfOk r (WalkedRoot hash s top h (Some P) bytes)
    walked_on (Ok w) so = record {
      root = root_of_cut hash h P w.entry spelled.part.1 (so.says ∙ ap (λ k. entry (by h.version hash) k P) own);
      compared = λ d.
          let x = root_cut hash sized top c h P bytes root batch count (some_records hash s top c is root) there spelled
          (same_strings _ _ d) in
          nodes_compared hash s top c h P bytes (option_map pair_of w.clash) is root spelled d x.level
          (so.compared x.same);
    }
    walked_on (Err f) so = tt

-- the strings of the roots, and what is below
pub map_compared : (hash : List ℕ → List ℕ) (s : MapModel) (top : Top) (h : Head) (P : Option Cut) (bytes : List ℕ)
    (w : Walked) (roots pair : Option Pair) → IsTop hash s top → IsSpelled h P bytes
    → root_found hash h P ≡ hash (root_at top) → roots ≡ differ (root_at top) (Some (proof_preimage hash h P))
    → WalkedRoot hash s top h P bytes w → pair ≡ or_else roots (option_map pair_of w.clash)
    → ComparedMap hash s h.kind bytes pair
map_compared hash s top h P bytes w None pair is spelled held d walked e =
    subst (ComparedMap hash s h.kind bytes) (sym e) (walked.compared d)
map_compared hash s top h P bytes w (Some p) pair is spelled held d walked e =
    subst (ComparedMap hash s h.kind bytes) (sym e) (roots_differ hash s top h P bytes p is spelled held d)
