-- The children of a node of the map beside the items of a proof.
use Rattle.std.proofs.Common.{◌≡◌, ℕ, zero, suc, ◌+◌, ◌≤◌, ◌<◌, List, [], ◌∷◌, ◌++◌, length, map, drop, get_or, refl, sym, ap, subst, ◌∙◌, append_assoc, append-nil, arith}
use Rattle.std.specs.Prelude.{Option, Some, None, IfSome, IsSome, option_map, All}
use Rattle.std.proofs.lemmas.List.Elements.{recursion_from_All}
use Rattle.std.specs.List.{AllByRecursion}
use Rattle.std.proofs.lemmas.List.{length-map}
use Rattle.mr_tree.specs.Digest.{Scheme}
use Rattle.mr_tree.specs.declared.entry.Entry.{Entry}
use Rattle.mr_tree.specs.Nodes.{MapModel}
use Rattle.mr_tree.specs.declared.child.Child.{Child}
use Rattle.mr_tree.specs.declared.tree.Tree.{Tree}
use Rattle.mr_proof.specs.Cut.{Cut, Cuts, no_more, first, number_of_cuts, entries, digest}
use Rattle.mr_proof.specs.Spelling.{cut_bytes, cuts_bytes, FitsCut, FitCuts}
use Rattle.mr_proof.specs.Clash.{Pair, or_else, node_clash, children_clash}
use Rattle.mr_proof.proofs.CutLevels.{length-entries}
use Rattle.mr_clash.specs.private.Steps.{pair_of, held_of, shown_digests, IsClash, PassedAll, Compared, WalkedOne, WalkedAll}
use Rattle.mr_clash.specs.declared.walked.Row.{Row}
use Rattle.mr_clash.specs.declared.walked.Walked.{Walked}
use Rattle.mr_clash.proofs.Taking.{drop_cuts, drop_all}
use Rattle.mr_clash.proofs.Walks.{head_is, tail_is, some_node}

-- the child at this place, and the cut of it
record ChildCut (scheme : Scheme) (w : ℕ) (cs : List Child) (Ps : Cuts) (i : ℕ) (c : Child) : Type 0 where
  cut : Cut
  fits : FitsCut scheme.version w cut
  here : drop_cuts i Ps ≡ first cut (drop_cuts (suc i) Ps)
  same : held_of cs ≡ shown_digests (entries scheme w Ps) → c.digest ≡ digest scheme w cut

child_cut : (scheme : Scheme) (w : ℕ) (cs : List Child) (Ps : Cuts) (i : ℕ) (c : Child) → i < length cs
    → c ≡ get_or cs i c → number_of_cuts Ps ≡ length cs → FitCuts scheme.version w Ps → ChildCut scheme w cs Ps i c
child_cut scheme w [] Ps i c lt is count fits = absurd (omega arith)
child_cut scheme w (d ∷ cs) no_more i c lt is count fits = absurd (omega (arith, count))
child_cut scheme w (d ∷ cs) (first P Ps) zero c lt is count fits = record {
  cut = P;
  fits = fits.0;
  here = refl;
  same = λ e. ap (λ (c : Child). c.digest) is ∙ head_is d.digest (digest scheme w P) _ _ e;
}
child_cut scheme w (d ∷ cs) (first P Ps) (suc i) c lt is count fits =
    let n = child_cut scheme w cs Ps i c (omega arith) is (omega (arith, count)) fits.1 in
    record {
      cut = n.cut;
      fits = n.fits;
      here = n.here;
      same = λ e. n.same (tail_is d.digest (digest scheme w P) _ _ e);
    }

-- and the tree under it
record ChildTree (s : MapModel) (ts : List Tree) (i : ℕ) (c : Child) : Type 0 where
  tree_at : Tree
  node_at : s.node c.id ≡ Some tree_at
  here : drop i ts ≡ tree_at ∷ drop (suc i) ts

child_tree : (s : MapModel) (cs : List Child) (ts : List Tree) (i : ℕ) (c : Child) → i < length cs
    → c ≡ get_or cs i c → map (λ (c : Child). s.node c.id) cs ≡ map Some ts → ChildTree s ts i c
child_tree s [] ts i c lt is e = absurd (omega arith)
child_tree s (d ∷ cs) [] i c lt is e = absurd cc
child_tree s (d ∷ cs) (t ∷ ts) zero c lt is e = record {
  tree_at = t;
  node_at = ap (λ (c : Child). s.node c.id) is ∙ head_is (s.node d.id) (Some t) _ _ e;
  here = refl;
}
child_tree s (d ∷ cs) (t ∷ ts) (suc i) c lt is e =
    let n = child_tree s cs ts i c (omega arith) is (tail_is (s.node d.id) (Some t) _ _ e) in
    record { tree_at = n.tree_at; node_at = n.node_at; here = n.here }

-- ---- pairs one after the other

or_else_assoc : (a b c : Option Pair) → or_else (or_else a b) c ≡ or_else a (or_else b c)
or_else_assoc None b c = refl
or_else_assoc (Some p) b c = refl

or_none : (a : Option Pair) → or_else a None ≡ a
or_none None = refl
or_none (Some p) = refl

first_collides : (scheme : Scheme) (a b : Option Pair) → IfSome a (IsClash scheme.of)
    → IfSome b (IsClash scheme.of) → IfSome (or_else a b) (IsClash scheme.of)
first_collides scheme None b p q = q
first_collides scheme (Some x) b p q = p

-- the pair of so many of them, where what is said of all is one
pub record FirstOf (scheme : Scheme) (s : MapModel) (w : ℕ) (cs : List Child) (Ps : Cuts) (i : ℕ)
    (pair : Option Pair) : Type 0 where
  pub collides : IfSome pair (IsClash scheme.of)
  pub told : IsSome s.tree → (ts : List Tree) → map (λ (c : Child). s.node c.id) cs ≡ map Some ts
      → children_clash scheme scheme w ts Ps
      ≡ or_else pair (children_clash scheme scheme w (drop i ts) (drop_cuts i Ps))

-- so many of them were passed over
pub record WalkedSome (scheme : Scheme) (s : MapModel) (w : ℕ) (cs : List Child) (Ps : Cuts) (rest : List ℕ)
    (i : ℕ) (xs : List Entry) (pair : Option Pair) (bytes : List ℕ) : Type 0 where
  pub say : entries scheme w Ps ≡ xs ++ entries scheme w (drop_cuts i Ps)
  pub left_is : bytes ≡ cuts_bytes scheme.version (drop_cuts i Ps) ++ rest
  pub compared : held_of cs ≡ shown_digests (entries scheme w Ps) → FirstOf scheme s w cs Ps i pair

pub none_walked : (scheme : Scheme) (s : MapModel) (w : ℕ) (cs : List Child) (Ps : Cuts)
    (rest bytes : List ℕ) → bytes ≡ cuts_bytes scheme.version Ps ++ rest
    → WalkedSome scheme s w cs Ps rest 0 [] None bytes
none_walked scheme s w cs Ps rest bytes e = record {
  say = refl;
  left_is = e;
  compared = λ same. record { collides = tt; told = λ told ts is. refl };
}

-- what the walk of an item comes to, at its level
abbrev pub WalkedAt : Scheme → MapModel → Child → ℕ → (before after : List ℕ) → Walked → Type 0
WalkedAt scheme s c v before after one =
    (P : Cut) (rest : List ℕ) → FitsCut scheme.version v P → before ≡ cut_bytes scheme.version P ++ rest
    → WalkedOne scheme s c v P rest one after

pub walked_at : (scheme : Scheme) (s t : MapModel) (c : Child) (w : ℕ) (before after : List ℕ)
    (one : Walked) → s ≡ t → c.level ≡ w → WalkedAt scheme s c c.level before after one
    → WalkedAt scheme t c w before after one
walked_at scheme s t c w before after one same level walked =
    subst (λ v. WalkedAt scheme t c v before after one) level
    (subst (λ (s : MapModel). WalkedAt scheme s c c.level before after one) same walked)

-- one more was passed over
pub walked_more : (scheme : Scheme) (s : MapModel) (w : ℕ) (cs : List Child) (Ps : Cuts) (rest : List ℕ)
    (i : ℕ) (c : Child) (xs more : List Entry) (pair pairs : Option Pair) (bytes after : List ℕ) (one : Walked)
    → i < length cs → c ≡ get_or cs i c → number_of_cuts Ps ≡ length cs → FitCuts scheme.version w Ps
    → WalkedSome scheme s w cs Ps rest i xs pair bytes → WalkedAt scheme s c w bytes after one
    → more ≡ xs ++ one.entry ∷ [] → pairs ≡ or_else pair (option_map pair_of one.clash)
    → WalkedSome scheme s w cs Ps rest (i + 1) more pairs after
walked_more scheme s w cs Ps rest i c xs more pair pairs bytes after one lt is count fits so walked pushed joined =
    let n = child_cut scheme w cs Ps i c lt is count fits in
    let plus : suc i ≡ i + 1 = omega arith in
    let Qs = drop_cuts (i + 1) Ps in
    let here : drop_cuts i Ps ≡ first n.cut Qs = n.here ∙ ap (λ k. first n.cut (drop_cuts k Ps)) plus in
    let own = walked n.cut (cuts_bytes scheme.version Qs ++ rest) n.fits
    (so.left_is ∙ ap (λ Qs. cuts_bytes scheme.version Qs ++ rest) here ∙ append_assoc (cut_bytes scheme.version n.cut)
    (cuts_bytes scheme.version Qs) rest) in
    let others = entries scheme w Qs in
    record {
      say = so.say ∙ ap (λ Qs. xs ++ entries scheme w Qs) here
          ∙ ap (λ x. xs ++ x ∷ others) (sym own.says) ∙ sym (append_assoc xs (one.entry ∷ []) others)
          ∙ ap (λ l. l ++ others) (sym pushed);
      left_is = own.behind;
      compared = λ same. subst (FirstOf scheme s w cs Ps (i + 1)) (sym joined)
          (more_compared here (so.compared same) (own.compared (n.same same)));
    }
  where
    more_compared : {cut : Cut} → drop_cuts i Ps ≡ first cut (drop_cuts (i + 1) Ps) → FirstOf scheme s w cs Ps i pair
        → Compared scheme s c.id w cut (option_map pair_of one.clash)
        → FirstOf scheme s w cs Ps (i + 1) (or_else pair (option_map pair_of one.clash))
    more_compared {cut} here before own = record {
      collides = first_collides scheme pair (option_map pair_of one.clash) before.collides own.collides;
      told = λ told ts e.
          let t = child_tree s cs ts i c lt is e in
          let plus : suc i ≡ i + 1 = omega arith in
          let trees : drop i ts ≡ t.tree_at ∷ drop (i + 1) ts = t.here ∙ ap (λ k. t.tree_at ∷ drop k ts) plus in
          let rest = children_clash scheme scheme w (drop (i + 1) ts) (drop_cuts (i + 1) Ps) in
          let pair_is : option_map pair_of one.clash ≡ node_clash scheme scheme w t.tree_at cut =
          some_node (s.node c.id) t.tree_at
          (λ t. option_map pair_of one.clash ≡ node_clash scheme scheme w t cut) t.node_at (own.told told) in
          before.told told ts e
          ∙ (λ j. or_else pair (children_clash scheme scheme w (trees j) (here j)))
          ∙ ap (λ o. or_else pair (or_else o rest)) (sym pair_is)
          ∙ sym (or_else_assoc pair (option_map pair_of one.clash) rest);
    }

-- all of them were passed over
drop_cuts_end : (scheme : Scheme) (w : ℕ) (ts : List Tree) (Ps : Cuts) (i : ℕ) → number_of_cuts Ps ≤ i
    → children_clash scheme scheme w (drop i ts) (drop_cuts i Ps) ≡ None
drop_cuts_end scheme w ts no_more zero le = refl
drop_cuts_end scheme w ts no_more (suc i) le = refl
drop_cuts_end scheme w ts (first P Ps) zero le = absurd (omega arith)
drop_cuts_end scheme w [] (first P Ps) (suc i) le = none_of_none (drop_cuts i Ps)
  where
    none_of_none : (Qs : Cuts) → children_clash scheme scheme w [] Qs ≡ None
    none_of_none no_more = refl
    none_of_none (first Q Qs) = refl
drop_cuts_end scheme w (t ∷ ts) (first P Ps) (suc i) le = drop_cuts_end scheme w ts Ps i (omega arith)

pub all_walked : (scheme : Scheme) (s : MapModel) (w : ℕ) (cs : List Child) (Ps : Cuts) (rest : List ℕ)
    (i : ℕ) (row : Row) (bytes : List ℕ) → length cs ≤ i → number_of_cuts Ps ≡ length cs
    → WalkedSome scheme s w cs Ps rest i row.entries.items (option_map pair_of row.clash) bytes
    → WalkedAll scheme s w cs Ps rest row bytes
all_walked scheme s w cs Ps rest i row bytes le count so =
    let all : number_of_cuts Ps ≤ i = omega (arith, le, count) in
    let none = drop_all Ps i all in
    record {
      say = sym (so.say ∙ ap (λ Qs. row.entries.items ++ entries scheme w Qs) none
          ∙ append-nil row.entries.items);
      behind = so.left_is ∙ ap (λ Qs. cuts_bytes scheme.version Qs ++ rest) none;
      compared = λ same. let f = so.compared same in
          record {
            collides = f.collides;
            told = λ told ts e. sym (f.told told ts e
                ∙ ap (or_else (option_map pair_of row.clash)) (drop_cuts_end scheme w ts Ps i all)
                ∙ or_none (option_map pair_of row.clash));
          };
    }

-- as many items as a node has no children
pub other_count : (scheme : Scheme) (s : MapModel) (w : ℕ) (cs : List Child) (Ps : Cuts) (rest : List ℕ)
    (row : Row) (after : List ℕ) → (number_of_cuts Ps ≡ length cs → ⊥) → PassedAll scheme w Ps rest
    row.entries.items after
    → WalkedAll scheme s w cs Ps rest row after
other_count scheme s w cs Ps rest row after other passed = record {
  say = passed.say;
  behind = passed.behind;
  compared = λ same. absurd (other (sym (length-map (entries scheme w Ps) (λ (e : Entry). e.digest)
      ∙ length-entries scheme w Ps) ∙ sym (ap length same) ∙ length-map cs (λ (c : Child). c.digest)));
}

-- ---- one of several

pub child_level : (w : ℕ) (cs : List Child) (i : ℕ) (c : Child) → i < length cs → c ≡ get_or cs i c
    → All (λ (d : Child). d.level ≡ w) cs → c.level ≡ w
child_level w cs i c lt is all = at cs i lt is (recursion_from_All (λ (d : Child). d.level ≡ w) cs all)
  where
    at : (cs : List Child) (i : ℕ) → i < length cs → c ≡ get_or cs i c
        → AllByRecursion (λ (d : Child). d.level ≡ w) cs → c.level ≡ w
    at [] i lt is all = absurd (omega arith)
    at (d ∷ cs) zero lt is all = ap (λ (d : Child). d.level) is ∙ all.0
    at (d ∷ cs) (suc i) lt is all = at cs i (omega arith) is all.1
