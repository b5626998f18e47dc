-- What a node that was written stands for.
use Rattle.std.proofs.Common.{◌≡◌, ℕ, inl, inr, List, [], ◌∷◌, ◌++◌, map, refl, sym, ap, subst, ◌∙◌, arith}
use Rattle.std.specs.Prelude.{Option, Some, option_map}
use Rattle.std.proofs.lemmas.List.{append-nil}
use Rattle.mr_record.specs.declared.record.Record.{Record}
use Rattle.mr_tree.specs.Digest.{Scheme}
use Rattle.mr_tree.specs.declared.child.Child.{Child}
use Rattle.mr_tree.specs.declared.tree.Tree.{Tree}
use Rattle.mr_tree.specs.declared.tree.Tree.TheVariants as tree
use Rattle.mr_tree.specs.declared.tree.Tree.TheOpen as node
use Rattle.mr_pages.specs.Page.{node_entry}
use Rattle.mr_pages.specs.Stands.{Placed, Leaf, Inner, all_pages, links_of, IsChain}
use Rattle.mr_pages.specs.Walking.{child_link}
use Rattle.mr_edit.specs.PageMap.{PageContent, PageMap, HasFree, OwnsEachOnce, Agree, with_content, node_content}
use Rattle.mr_edit.specs.Held.{NameTrees, trees, pages}
use Rattle.mr_edit.specs.Outcome.{UsesPages, Same, Outcome, WritesNode}
use Rattle.mr_edit.proofs.Rows.{row_of, row_trees, row_pages, row_links}
use Rattle.mr_edit.proofs.Frame.{agree_left, agree_right, frame_all, frame_chain}
use Rattle.mr_edit.proofs.Places.{content_here, kept_by_write}
use Rattle.mr_edit.proofs.Entries.{said_leaf, said_inner, links_are, named_row}

-- ---- how pages are used

pub same_uses : (size : ℕ) (chain : List ℕ) (size' : ℕ) (chain' : List ℕ) → Same size chain size' chain' →
    UsesPages size chain size' chain'
same_uses size chain size' chain' same = record {
  grew = inl same.0;
  none = λ e. same.1 ∙ e;
  more =
      omega (arith, same.0);
}

pub uses_as : (s : ℕ) (c : List ℕ) (s1 : ℕ) (c1 : List ℕ) (s2 : ℕ) (c2 : List ℕ) → UsesPages s c s1 c1 → s2 ≡ s1 → c2
    ≡ c1 →
    UsesPages s c s2 c2
uses_as s c s1 c1 s2 c2 u size chain = subst (λ k. UsesPages s c k c2) (sym size)
    (subst (UsesPages s c s1) (sym chain) u)

pub uses_both : (s : ℕ) (c : List ℕ) (s1 : ℕ) (c1 : List ℕ) (s2 : ℕ) (c2 : List ℕ) → UsesPages s c s1 c1 → UsesPages s1
    c1 s2 c2 →
    UsesPages s c s2 c2
uses_both s c s1 c1 s2 c2 u v = record {
  grew = elim v.grew [
    | inl same ↦ elim u.grew [
      | inl before ↦ inl (same ∙ before)
      | inr gone ↦ inr (v.none gone)
    ]
    | inr gone ↦ inr gone
  ];
  none = λ e. v.none (u.none e);
  more = omega (arith, u.more, v.more);
}

pub weaker : (scheme : Scheme) (a : PageMap) (U V : ℕ → List ℕ → Type 0) (told : Option PageMap) (free : ℕ)
    (others : List ℕ)
    (ts : List Tree) (cs : List Child) →
    ((s : ℕ) (c : List ℕ) → U s c → V s c) → Outcome scheme a U told free others ts cs →
    Outcome scheme a V told free others ts cs
weaker scheme a U V told free others ts cs f o = record {
  page_map = o.page_map;
  is = o.is;
  parts = o.parts;
  named = o.named;
  stand = o.stand;
  chain = o.chain;
  linked = o.linked;
  owned = o.owned;
  kept = o.kept;
  use_ = f o.page_map.size o.chain o.use_;
}

-- ---- one node is written

pub leaf_written : (scheme : Scheme) (told told' : Option PageMap) (free free' x : ℕ) (rs : List Record) (e : Child) →
    WritesNode scheme told free told' free' x (node.Leaf rs) e →
    (a : PageMap) (chain others : List ℕ) → told ≡ Some a → IsChain (HasFree a) free chain →
    OwnsEachOnce a.size (x ∷ (chain ++ others)) →
    Outcome scheme a (Same a.size chain) told' free' others (tree.Leaf rs ∷ []) (e ∷ [])
leaf_written scheme told told' free free' x rs e w a chain others is linked owned =
    let s = node_content (node.Leaf rs) in
    let b : PageMap = with_content x s a in
    let kept : Agree a b (chain ++ others) = kept_by_write a x s (chain ++ others) owned in
    record {
      page_map = b;
      is = w.put ∙ ap (option_map (with_content x s)) is;
      parts = Leaf x rs ∷ [];
      named = (
        record {
          said = w.said ∙ (λ i. record { page = x; entry = said_leaf scheme rs i });
          written =
              ap (λ (t : PageContent). t.node) (content_here x s a);
        },
        tt,
      );
      stand = refl;
      chain = chain;
      linked = frame_chain a b free' chain (agree_left a b chain others kept)
          (subst (λ f. IsChain (HasFree a) f chain) (sym w.same) linked);
      owned = owned;
      kept = agree_right a b chain others kept;
      use_ = (refl, refl);
    }

pub inner_written : (scheme : Scheme) (told told' : Option PageMap) (free free' x : ℕ) (cs : List Child) (e : Child) →
    WritesNode scheme told free told' free' x (node.Inner (map child_link cs)) e →
    (a : PageMap) (chain : List ℕ) (Ps : List Placed) (others : List ℕ) → told ≡ Some a → NameTrees scheme a cs Ps →
    IsChain (HasFree a) free chain →
    OwnsEachOnce a.size (x ∷ (pages Ps ++ (chain ++ others))) →
    Outcome scheme a (Same a.size chain) told' free' others (tree.Inner (trees Ps) ∷ []) (e ∷ [])
inner_written scheme told told' free free' x cs e w a chain Ps others is named linked owned =
    let s = node_content (node.Inner (map child_link cs)) in
    let b : PageMap = with_content x s a in
    let R = row_of Ps in
    let kept : Agree a b (pages Ps ++ (chain ++ others)) = kept_by_write a x s (pages Ps ++ (chain ++ others)) owned in
    let rest : Agree a b (chain ++ others) = agree_right a b (pages Ps) (chain ++ others) kept in
    let links : map child_link cs ≡ links_of scheme R = links_are scheme a cs Ps named ∙ sym (row_links scheme Ps) in
    record {
      page_map = b;
      is = w.put ∙ ap (option_map (with_content x s)) is;
      parts = Inner x R ∷ [];
      named = (
        record {
          said = w.said ∙ (λ i. record {
            page = x;
            entry = (ap (λ ls. node_entry scheme (node.Inner ls)) links
                ∙ said_inner scheme R) i;
          });
          written = (
            ap (λ (t : PageContent). t.node) (content_here x s a) ∙ ap (λ ls. Some (node.Inner ls)) links,
            named_row scheme b cs Ps (frame_all scheme a b cs Ps (agree_left a b (pages Ps) (chain ++ others) kept)
                named),
          );
        },
        tt,
      );
      stand = ap (λ ts. tree.Inner ts ∷ []) (row_trees Ps);
      chain = chain;
      linked = frame_chain a b free' chain (agree_left a b chain others rest)
          (subst (λ f. IsChain (HasFree a) f chain) (sym w.same) linked);
      owned = subst (λ ps. OwnsEachOnce a.size (x ∷ (ps ++ (chain ++ others))))
          (sym (append-nil (all_pages (row_of Ps)) ∙ row_pages Ps)) owned;
      kept = agree_right a b chain others rest;
      use_ = (refl, refl);
    }
