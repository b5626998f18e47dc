-- What stands in a node's place after something was taken out of it.
use Rattle.std.proofs.Common.{◌≡◌, ◌≢◌, ℕ, ◌<◌, ◌≤◌, Bool, true, false, List, [], ◌∷◌, ◌++◌, length, map, get_or, refl, sym, ap, subst, ◌∙◌, arith}
use Rattle.std.specs.Prelude.{if◌then◌else◌, Option, Some, IfSome}
use Rattle.std.proofs.lemmas.Bool.{lt-ltb, le-ltb}
use Rattle.std.proofs.lemmas.List.{append-nil, length-map}
use Rattle.mr_record.specs.declared.record.Record.{Record}
use Rattle.mr_tree.specs.Digest.{Scheme}
use Rattle.mr_tree.specs.Tree.{records}
use Rattle.mr_tree.specs.declared.child.Child.{Child}
use Rattle.mr_tree.specs.declared.tree.Tree.{Tree}
use Rattle.mr_tree.specs.declared.tree.Tree.TheVariants as tree
use Rattle.mr_tree.specs.declared.tree.Tree.TheOpen as node
use Rattle.mr_tree.specs.declared.tree.Tree.TheViews.{out-Tree}
use Rattle.mr_tree.proofs.Equations.{records-Leaf}
use Rattle.mr_tree.proofs.Induction.{tree_induction}
use Rattle.mr_grow.specs.Shrink.{Rest, is_low, is_low_step, shortened}
use Rattle.mr_grow.proofs.Kept.{records_below}
use Rattle.mr_grow.proofs.Shortened.{empty_leaf, some_leaf, one_child, other_children}
use Rattle.mr_pages.specs.Stands.{Placed, Leaf, Inner, tree_of, trees_of, pages_of, IsChain}
use Rattle.mr_pages.specs.Walking.{child_link}
use Rattle.mr_edit.specs.PageMap.{PageMap, HasNode, HasFree, OwnsEachOnce, count_in}
use Rattle.mr_edit.specs.Held.{NamesTree, NameTrees, trees, pages}
use Rattle.mr_edit.specs.Outcome.{Same, Outcome, WritesNode}
use Rattle.mr_edit.specs.private.Removal.{Freed, FreesPage, FreesSubtrees, LeavesSubtree, LeavesLeaf, LeavesInner, ShortensRoot, topped, topped_step}
use Rattle.mr_edit.proofs.Zips.{same_length, zip_at}
use Rattle.mr_edit.proofs.Frame.{agree_left, agree_right, frame, frame_all}
use Rattle.mr_edit.proofs.Places.{same_owned}
use Rattle.mr_edit.proofs.Rows.{row_trees, row_pages}
use Rattle.mr_edit.proofs.Entries.{opens_inner, opens_leaf}
use Rattle.mr_edit.proofs.Writes.{leaf_written, inner_written, weaker}
use Rattle.mr_edit.proofs.Freed.{turn_counts, back_counts}

low_leaf : (rs : List Record) → length rs < 6 → is_low (tree.Leaf rs) ≡ true
low_leaf rs few = ap is_low_step (tree.outs-Leaf rs) ∙ lt-ltb (length rs) 6 few

full_leaf : (rs : List Record) → 6 ≤ length rs → is_low (tree.Leaf rs) ≡ false
full_leaf rs many = ap is_low_step (tree.outs-Leaf rs) ∙ le-ltb (length rs) 6 many

low_inner : (ts : List Tree) → length ts < 24 → is_low (tree.Inner ts) ≡ true
low_inner ts few = ap is_low_step (tree.outs-Inner ts) ∙ lt-ltb (length ts) 24 few

full_inner : (ts : List Tree) → 24 ≤ length ts → is_low (tree.Inner ts) ≡ false
full_inner ts many = ap is_low_step (tree.outs-Inner ts) ∙ le-ltb (length ts) 24 many

-- too little is left: the pages are free, and the records set aside
gone : (scheme : Scheme) (a : PageMap) (told : Option PageMap) (free : ℕ) (others : List ℕ) (r : Rest)
    (aside : List Record) →
    is_low r.tree ≡ true → Freed a told free others → aside ≡ records r.tree ++ r.aside →
    LeavesSubtree scheme false a told free others r [] aside
gone scheme a told free others r aside low f is = record {
  outcome = subst (λ ts. Outcome scheme a (λ size chain. size ≡ a.size) told free others ts [])
      (sym (ap (λ b. if b then [] else r.tree ∷ []) low)) (record {
        page_map = f.page_map;
        is = f.is;
        parts = [];
        named = tt;
        stand = refl;
        chain = f.chain;
        linked = f.linked;
        owned = f.owned;
        kept = f.kept;
        use_ = f.size;
      });
  aside_is = is ∙ sym (ap (λ b. if b then records r.tree ++ r.aside else r.aside) low);
}

-- enough is left, and is written
stayed : (scheme : Scheme) (a : PageMap) (chain : List ℕ) (told : Option PageMap) (free : ℕ) (others : List ℕ)
    (r : Rest)
    (c : Child) (aside : List Record) → is_low r.tree ≡ false →
    Outcome scheme a (Same a.size chain) told free others (r.tree ∷ []) (c ∷ []) → aside ≡ r.aside →
    LeavesSubtree scheme false a told free others r (c ∷ []) aside
stayed scheme a chain told free others r c aside full o is = record {
  outcome = subst (λ ts. Outcome scheme a (λ size ch. size ≡ a.size) told free others ts (c ∷ []))
      (sym (ap (λ b. if b then [] else r.tree ∷ []) full))
      (weaker scheme a (Same a.size chain) (λ size ch. size ≡ a.size) told free others (r.tree ∷ []) (c ∷ [])
      (λ s ch same. same.0) o);
  aside_is = is ∙ sym (ap (λ b. if b then records r.tree ++ r.aside else r.aside) full);
}

leaf_gone : (scheme : Scheme) (told told' : Option PageMap) (free free' page : ℕ) (rs : List Record) → length rs < 6 →
    FreesPage told free told' free' page →
    LeavesLeaf scheme false told free told' free' page rs [] rs
leaf_gone scheme told told' free free' page rs few frees a chain others told_is linked owned =
    gone scheme a told' free' others (record { tree = tree.Leaf rs; aside = [] }) rs (low_leaf rs few) (frees a chain
    others told_is linked owned)
    (sym (append-nil (records (tree.Leaf rs)) ∙ records-Leaf rs))

leaf_stayed : (scheme : Scheme) (told told' : Option PageMap) (free free' page : ℕ) (rs aside : List Record)
    (c : Child) → 6 ≤ length rs → aside ≡ [] →
    WritesNode scheme told free told' free' page (node.Leaf rs) c →
    LeavesLeaf scheme false told free told' free' page rs (c ∷ []) aside
leaf_stayed scheme told told' free free' page rs aside c many is w a chain others told_is linked owned =
    stayed scheme a chain told' free' others (record { tree = tree.Leaf rs; aside = [] }) c aside (full_leaf rs many)
    (leaf_written scheme told told' free free' page rs c w a chain others told_is linked owned) is

pub inner_gone : (scheme : Scheme) (told told1 told' : Option PageMap) (free free1 free' page : ℕ) (cs : List Child)
    (before list aside : List Record) → length cs < 24 → aside ≡ list ++ before →
    FreesPage told free told1 free1 page → FreesSubtrees scheme told1 free1 told' free' cs [] list →
    LeavesInner scheme false told free told' free' page cs before [] aside
inner_gone scheme told told1 told' free free1 free' page cs before list aside few is frees rest a chain
    Ps others told_is named linked owned =
    let f = frees a chain (pages Ps ++ others) told_is linked (same_owned a.size
    (page ∷ (pages Ps ++ (chain ++ others))) _ (λ q. turn_counts q page (pages Ps) chain others) owned) in
    let there : NameTrees scheme f.page_map cs Ps = frame_all scheme a f.page_map cs Ps
    (agree_left a f.page_map (pages Ps) others f.kept) named in
    let g = rest f.page_map f.chain Ps others f.is there f.linked
    (same_owned f.page_map.size (f.chain ++ (pages Ps ++ others))
    _ (λ q. back_counts q (pages Ps) f.chain others) f.owned) in
    let all : Freed a told' free' others = record {
      page_map = g.0.page_map;
      is = g.0.is;
      chain = g.0.chain;
      linked = g.0.linked;
      owned = g.0.owned;
      kept = λ q some. g.0.kept q some ∙ agree_right a f.page_map (pages Ps) others f.kept q some;
      size = g.0.size ∙ f.size;
    } in
    let size : length (trees Ps) < 24 = omega (
      arith,
      few,
      length-map Ps tree_of,
      same_length (NamesTree scheme a) cs Ps named,
    ) in
    gone scheme a told' free' others (record { tree = tree.Inner (trees Ps); aside = before }) aside
    (low_inner (trees Ps) size) all
    (is ∙ ap (λ us. us ++ before) (g.1 ∙ sym (records_below (trees Ps))))

pub inner_stayed : (scheme : Scheme) (told told' : Option PageMap) (free free' page : ℕ) (cs : List Child)
    (before : List Record) (c : Child) → 24 ≤ length cs →
    WritesNode scheme told free told' free' page (node.Inner (map child_link cs)) c →
    LeavesInner scheme false told free told' free' page cs before (c ∷ []) before
inner_stayed scheme told told' free free' page cs before c many w a chain Ps others told_is named linked owned =
    let size : 24 ≤ length (trees Ps) = omega (
      arith,
      many,
      length-map Ps tree_of,
      same_length (NamesTree scheme a) cs Ps named,
    ) in
    stayed scheme a chain told' free' others (record { tree = tree.Inner (trees Ps); aside = before }) c before
    (full_inner (trees Ps) size)
    (inner_written scheme told told' free free' page cs c w a chain Ps others told_is named linked owned) refl

-- ---- a root

topped_leaf : (rs : List Record) → topped (tree.Leaf rs) ≡ tree.Leaf rs ∷ []
topped_leaf rs = ap (λ o. topped_step o (tree.Leaf rs)) (tree.outs-Leaf rs)

topped_inner : (ts : List Tree) → topped (tree.Inner ts) ≡ tree.Inner ts ∷ []
topped_inner ts = ap (λ o. topped_step o (tree.Inner ts)) (tree.outs-Inner ts)

topped_empty : topped tree.Empty ≡ []
topped_empty = ap (λ o. topped_step o tree.Empty) tree.outs-Empty

-- a tree that is not empty
pub topped_some : (t : Tree) → t ≢ tree.Empty → topped t ≡ t ∷ []
topped_some = tree_induction (λ t. t ≢ tree.Empty → topped t ≡ t ∷ []) (λ there. absurd (there refl))
    (λ rs there. topped_leaf rs) (λ ts all there. topped_inner ts)

pub topped_none : (t : Tree) → topped t ≡ [] → t ≡ tree.Empty
topped_none = tree_induction (λ t. topped t ≡ [] → t ≡ tree.Empty) (λ e. refl)
    (λ rs e. absurd (no (tree.Leaf rs) (sym (topped_leaf rs) ∙ e)))
    (λ ts all e. absurd (no (tree.Inner ts) (sym (topped_inner ts) ∙ e)))
  where
    no : (t : Tree) → t ∷ [] ≡ [] → ⊥
    no t e = cc

pub topped_one : (t u : Tree) → topped t ≡ u ∷ [] → t ≡ u
topped_one = tree_induction (λ t. (u : Tree) → topped t ≡ u ∷ [] → t ≡ u) (λ u e. absurd (no u (sym topped_empty ∙ e)))
    (λ rs u e. one (tree.Leaf rs) u (sym (topped_leaf rs) ∙ e))
    (λ ts all u e. one (tree.Inner ts) u (sym (topped_inner ts) ∙ e))
  where
    no : (u : Tree) → [] ≡ u ∷ [] → ⊥
    no u e = cc

    one : (t u : Tree) → t ∷ [] ≡ u ∷ [] → t ≡ u
    one t u e = cc

top_leaf_gone : (scheme : Scheme) (told told' : Option PageMap) (free free' page : ℕ) (rs aside : List Record) →
    length rs ≡ 0 → aside ≡ [] → FreesPage told free told' free' page →
    LeavesLeaf scheme true told free told' free' page rs [] aside
top_leaf_gone scheme told told' free free' page rs aside none is frees a chain others told_is linked owned =
    let f = frees a chain others told_is linked owned in
    record {
      outcome = subst (λ ts. Outcome scheme a (λ size ch. size ≡ a.size) told' free' others ts [])
          (sym (ap topped (sym (empty_leaf rs (tree.Leaf rs) refl none)) ∙ topped_empty)) (record {
            page_map = f.page_map;
            is = f.is;
            parts = [];
            named = tt;
            stand = refl;
            chain = f.chain;
            linked = f.linked;
            owned = f.owned;
            kept = f.kept;
            use_ = f.size;
          });
      aside_is = is;
    }

top_leaf_stayed : (scheme : Scheme) (told told' : Option PageMap) (free free' page : ℕ) (rs aside : List Record)
    (c : Child) → length rs ≢ 0 → aside ≡ [] →
    WritesNode scheme told free told' free' page (node.Leaf rs) c →
    LeavesLeaf scheme true told free told' free' page rs (c ∷ []) aside
top_leaf_stayed scheme told told' free free' page rs aside c some is w a chain others told_is linked owned = record {
  outcome = subst (λ ts. Outcome scheme a (λ size ch. size ≡ a.size) told' free' others ts (c ∷ []))
      (sym (ap topped (sym (some_leaf rs (tree.Leaf rs) refl some)) ∙ topped_leaf rs))
      (weaker scheme a (Same a.size chain) (λ size ch. size ≡ a.size) told' free' others (tree.Leaf rs ∷ []) (c ∷ [])
      (λ s ch same. same.0)
      (leaf_written scheme told told' free free' page rs c w a chain others told_is linked owned));
  aside_is = is;
}

no_records : (rs : List Record) → length rs < 1 → rs ≡ []
no_records [] few = refl
no_records (r ∷ rs) few = absurd (omega (arith, few))

-- of a leaf, as the root or below it
pub any_leaf_gone : (scheme : Scheme) (root : Bool) (told told' : Option PageMap) (free free' page : ℕ)
    (rs : List Record) → length rs < (if root then 1 else 6) → FreesPage told free told' free' page →
    LeavesLeaf scheme root told free told' free' page rs [] rs
any_leaf_gone scheme true told told' free free' page rs few frees =
    top_leaf_gone scheme told told' free free' page rs rs (omega (arith, few)) (no_records rs few) frees
any_leaf_gone scheme false told told' free free' page rs few frees =
    leaf_gone scheme told told' free free' page rs few frees

pub any_leaf_stayed : (scheme : Scheme) (root : Bool) (told told' : Option PageMap) (free free' page : ℕ)
    (rs aside : List Record) (c : Child) → (if root then 1 else 6) ≤ length rs → aside ≡ [] →
    WritesNode scheme told free told' free' page (node.Leaf rs) c →
    LeavesLeaf scheme root told free told' free' page rs (c ∷ []) aside
any_leaf_stayed scheme true told told' free free' page rs aside c many is w =
    top_leaf_stayed scheme told told' free free' page rs aside c (λ none. omega (arith, many, none)) is w
any_leaf_stayed scheme false told told' free free' page rs aside c many is w =
    leaf_stayed scheme told told' free free' page rs aside c many is w

pub top_inner_stayed : (scheme : Scheme) (told told' : Option PageMap) (free free' page : ℕ) (cs : List Child)
    (before : List Record) (c : Child) → length cs ≢ 1 →
    WritesNode scheme told free told' free' page (node.Inner (map child_link cs)) c →
    LeavesInner scheme true told free told' free' page cs before (c ∷ []) before
top_inner_stayed scheme told told' free free' page cs before c some w a chain Ps others told_is named linked owned =
    let size : length (trees Ps) ≢ 1 = λ one. some (omega (
      arith,
      one,
      length-map Ps tree_of,
      same_length (NamesTree scheme a) cs Ps named,
    )) in
    record {
      outcome = subst (λ ts. Outcome scheme a (λ size ch. size ≡ a.size) told' free' others ts (c ∷ []))
          (sym (ap topped (sym (other_children (trees Ps) (trees Ps) (tree.Inner (trees Ps)) refl refl size))
          ∙ topped_inner (trees Ps)))
          (weaker scheme a (Same a.size chain) (λ size ch. size ≡ a.size) told' free' others
          (tree.Inner (trees Ps) ∷ []) (c ∷ []) (λ s ch same. same.0)
          (inner_written scheme told told' free free' page cs c w a chain Ps others told_is named linked owned));
      aside_is = refl;
    }

-- a tree that has a page is not empty
pub placed_there : (P : Placed) → tree_of P ≢ tree.Empty
placed_there (Leaf p rs) e = let opened : ◌≡◌ {A = node.Tree-F Tree} (node.Leaf rs) node.Empty = sym (tree.outs-Leaf rs)
    ∙ ap out-Tree e ∙ tree.outs-Empty in cc
placed_there (Inner p R) e = let opened : ◌≡◌ {A = node.Tree-F Tree} (node.Inner (trees_of R)) node.Empty =
    sym (tree.outs-Inner (trees_of R)) ∙ ap out-Tree e ∙ tree.outs-Empty in cc

-- nothing is done
unchanged : (scheme : Scheme) (a : PageMap) (told : Option PageMap) (free : ℕ) (chain others : List ℕ) (c : Child)
    (P : Placed) → told ≡ Some a → NamesTree scheme a c P → IsChain (HasFree a) free chain →
    OwnsEachOnce a.size (pages_of P ++ (chain ++ others)) → tree_of P ≡ shortened (tree_of P) →
    Outcome scheme a (λ size ch. size ≡ a.size) told free others (shortened (tree_of P) ∷ []) (c ∷ [])
unchanged scheme a told free chain others c P is names linked owned stays_so = record {
  page_map = a;
  is = is;
  parts = P ∷ [];
  named = (names, tt);
  stand = ap (λ t. t ∷ []) stays_so;
  chain = chain;
  linked = linked;
  owned = subst (λ ps. OwnsEachOnce a.size (ps ++ (chain ++ others))) (sym (append-nil (pages_of P))) owned;
  kept = λ q some. refl;
  use_ = refl;
}

-- ---- a root that gives way to its one child

-- the root's page is freed, and its one child is shortened
pub gives_way : (scheme : Scheme) (told told1 told' : Option PageMap) (free free1 free' page : ℕ) (cs : List Child)
    (d out : Child) → length cs ≡ 1 → d ≡ get_or cs 0 d → FreesPage told free told1 free1 page →
    ShortensRoot scheme told1 free1 told' free' d out → (a : PageMap) (chain : List ℕ) (Ps : List Placed)
    (others : List ℕ) →
    told ≡ Some a → NameTrees scheme a cs Ps → IsChain (HasFree a) free chain →
    OwnsEachOnce a.size (page ∷ (pages Ps ++ (chain ++ others))) → Outcome scheme a (λ size ch. size ≡ a.size)
    told' free'
    others (shortened (tree.Inner (trees Ps)) ∷ []) (out ∷ [])
gives_way scheme told told1 told' free free1 free' page cs d out one at frees shortens a chain
    [] others told_is named linked owned = absurd (omega (arith, one, same_length (NamesTree scheme a) cs [] named))
gives_way scheme told told1 told' free free1 free' page cs d out one at frees shortens a chain
    (P ∷ Q ∷ Ps) others told_is named linked owned = absurd (omega (
      arith,
      one,
      same_length (NamesTree scheme a) cs (P ∷ Q ∷ Ps) named,
    ))
gives_way scheme told told1 told' free free1 free' page cs d out one at frees shortens a chain
    (P ∷ []) others told_is named linked owned =
    let f = frees a chain (pages (P ∷ []) ++ others) told_is linked
    (same_owned a.size (page ∷ (pages (P ∷ []) ++ (chain ++ others))) _
    (λ q. turn_counts q page (pages (P ∷ [])) chain others) owned) in
    let some : 0 < length cs = omega (arith, one) in
    let mine : NamesTree scheme a d P = subst (λ e. NamesTree scheme a e P) (sym at)
    (zip_at (NamesTree scheme a) cs (P ∷ []) 0 d P named some) in
    let there : NamesTree scheme f.page_map d P = record {
      said = mine.said;
      written = frame scheme a f.page_map P (agree_left a f.page_map (pages_of P) []
          (agree_left a f.page_map (pages (P ∷ [])) others f.kept)) mine.written;
    } in
    let o = shortens f.page_map f.chain P others f.is there f.linked
    (same_owned f.page_map.size (f.chain ++ (pages (P ∷ []) ++ others)) _ (λ q. back_counts q (pages_of P) f.chain
    others ∙ ap (λ us. count_in q (f.chain ++ (us ++ others))) (sym (append-nil (pages_of P)))) f.owned) in
    record {
      page_map = o.page_map;
      is = o.is;
      parts = o.parts;
      named = o.named;
      stand = o.stand ∙ ap (λ t. t ∷ []) (one_child (tree_of P ∷ []) (tree_of P ∷ []) (tree_of P)
          (tree.Inner (tree_of P ∷ [])) (shortened (tree_of P)) refl refl refl refl refl);
      chain = o.chain;
      linked = o.linked;
      owned = o.owned;
      kept = λ q some_of. o.kept q some_of ∙ agree_right a f.page_map (pages (P ∷ [])) others f.kept q some_of;
      use_ = o.use_ ∙ f.size;
    }

pub top_inner_short : (scheme : Scheme) (told told1 told' : Option PageMap) (free free1 free' page : ℕ)
    (cs : List Child)
    (before : List Record) (d out : Child) → length cs ≡ 1 → d ≡ get_or cs 0 d → FreesPage told free told1 free1 page →
    ShortensRoot scheme told1 free1 told' free' d out → LeavesInner scheme true told free told' free' page cs before
    (out ∷ []) before
top_inner_short scheme told told1 told' free free1 free' page cs before d out one at frees shortens a chain
    Ps others told_is named linked owned =
    let o = gives_way scheme told told1 told' free free1 free' page cs d out one at frees shortens a chain
    Ps others told_is named linked owned in
    let t = shortened (tree.Inner (trees Ps)) in
    record {
      outcome = subst (λ ts. Outcome scheme a (λ size ch. size ≡ a.size) told' free' others ts (out ∷ []))
          (sym (topped_some t (stands_there o.page_map t o.parts o.named o.stand))) o;
      aside_is = refl;
    }
  where
    stands_there : (b : PageMap) (t : Tree) (Qs : List Placed) → NameTrees scheme b (out ∷ []) Qs → trees Qs ≡ t ∷ [] →
        t ≢ tree.Empty
    stands_there b t [] all e = absurd all
    stands_there b t (Q ∷ R ∷ Qs) all e = absurd all.1
    stands_there b t (Q ∷ []) all e = let is : tree_of Q ≡ t = cc in λ none. placed_there Q (is ∙ none)

-- ---- shortening

pub shortens_leaf : (scheme : Scheme) (told told' : Option PageMap) (free : ℕ) (c : Child) (rs : List Record) →
    told' ≡ told → IfSome told (λ b. HasNode b c.id (node.Leaf rs)) → length rs ≢ 0 →
    ShortensRoot scheme told free told' free c c
shortens_leaf scheme told told' free c rs same reads some a chain P others is names linked owned =
    let has_node : HasNode a c.id (node.Leaf rs) = subst (λ o. IfSome o (λ b. HasNode b c.id (node.Leaf rs))) is reads
    in
    let here = opens_leaf scheme a c rs P names has_node in
    unchanged scheme a told' free chain others c P (same ∙ is) names linked owned
    (ap tree_of here ∙ some_leaf rs (tree_of P) (ap tree_of here) some)

pub shortens_many : (scheme : Scheme) (told told' : Option PageMap) (free : ℕ) (c : Child) (cs : List Child) →
    told' ≡ told → IfSome told (λ b. HasNode b c.id (node.Inner (map child_link cs))) → length cs ≢ 1 →
    ShortensRoot scheme told free told' free c c
shortens_many scheme told told' free c cs same reads some a chain P others is names linked owned =
    let has_node : HasNode a c.id (node.Inner (map child_link cs)) =
    subst (λ o. IfSome o (λ b. HasNode b c.id (node.Inner (map child_link cs)))) is reads in
    let op = opens_inner scheme a c cs P names has_node in
    let what : tree_of P ≡ tree.Inner (trees op.parts) = ap tree_of op.is ∙ ap tree.Inner (row_trees op.parts) in
    let size : length (trees op.parts) ≢ 1 = λ one. some (omega (
      arith,
      one,
      length-map op.parts tree_of,
      same_length (NamesTree scheme a) cs op.parts op.named,
    )) in
    unchanged scheme a told' free chain others c P (same ∙ is) names linked owned (what
    ∙ other_children (trees op.parts) (trees op.parts) (tree_of P) what refl size)

pub shortens_one : (scheme : Scheme) (told told1 told2 told' : Option PageMap) (free free2 free' : ℕ) (c : Child)
    (cs : List Child) (d out : Child) → told1 ≡ told → IfSome told
    (λ b. HasNode b c.id (node.Inner (map child_link cs))) → length cs ≡ 1 →
    d ≡ get_or cs 0 d → FreesPage told1 free told2 free2 c.id → ShortensRoot scheme told2 free2 told' free' d out →
    ShortensRoot scheme told free told' free' c out
shortens_one scheme told told1 told2 told' free free2 free' c cs d out same reads one at frees shortens a chain
    P others is names linked owned =
    let has_node : HasNode a c.id (node.Inner (map child_link cs)) =
    subst (λ o. IfSome o (λ b. HasNode b c.id (node.Inner (map child_link cs)))) is reads in
    let op = opens_inner scheme a c cs P names has_node in
    let mine : pages_of P ≡ c.id ∷ pages op.parts = ap pages_of op.is ∙ ap (λ ps. c.id ∷ ps) (row_pages op.parts) in
    subst (λ t. Outcome scheme a (λ size ch. size ≡ a.size) told' free' others (shortened t ∷ []) (out ∷ []))
    (sym (ap tree_of op.is ∙ ap tree.Inner (row_trees op.parts)))
    (gives_way scheme told1 told2 told' free free2 free' c.id cs d out one at frees shortens a chain
    op.parts others (same ∙ is) op.named linked
    (subst (λ ps. OwnsEachOnce a.size (ps ++ (chain ++ others))) mine owned))
