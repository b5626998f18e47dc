-- Pages that are free again.
use Rattle.std.proofs.Common.{◌≡◌, ℕ, ◌+◌, ◌<◌, List, [], ◌∷◌, ◌++◌, length, map, take, get_or, refl, sym, ap, subst, ◌∙◌, arith, append_assoc}
use Rattle.std.specs.Prelude.{Option, IfSome, option_map}
use Rattle.std.specs.List.{flat_map}
use Rattle.std.proofs.lemmas.List.{append-nil, map-append, take_more}
use Rattle.std.proofs.lemmas.List.Concat.{flat_map-append}
use Rattle.mr_record.specs.declared.record.Record.{Record}
use Rattle.mr_tree.specs.Digest.{Scheme}
use Rattle.mr_tree.specs.Tree.{records}
use Rattle.mr_tree.specs.declared.child.Child.{Child}
use Rattle.mr_tree.specs.declared.tree.Tree.TheVariants as tree
use Rattle.mr_tree.specs.declared.tree.Tree.TheOpen as node
use Rattle.mr_tree.proofs.Equations.{records-Leaf}
use Rattle.mr_grow.proofs.Kept.{records_below}
use Rattle.mr_pages.specs.Stands.{Leaf, tree_of, pages_of}
use Rattle.mr_pages.specs.Walking.{child_link}
use Rattle.mr_edit.specs.PageMap.{PageContent, PageMap, HasNode, OwnsEachOnce, Agree, count_in, with_content, free_content}
use Rattle.mr_edit.specs.Held.{NamesTree, NameTrees, trees, pages}
use Rattle.mr_edit.specs.private.Removal.{FreesPage, FreesSubtrees}
use Rattle.mr_edit.proofs.Rows.{row_trees, row_pages}
use Rattle.mr_edit.proofs.Zips.{zip_split}
use Rattle.mr_edit.proofs.Frame.{count_in-append, agree_left, agree_right, frame_all, frame_chain}
use Rattle.mr_edit.proofs.Places.{content_here, kept_by_write, same_owned, times_cons}
use Rattle.mr_edit.proofs.Entries.{opens_inner, opens_leaf}

-- one page
pub page_freed : (told told' : Option PageMap) (free page : ℕ) → 0 < page →
    told' ≡ option_map (with_content page (free_content free)) told → FreesPage told free told' page page
page_freed told told' free page some put a chain others is linked owned =
    let s = free_content free in
    let b : PageMap = with_content page s a in
    let kept : Agree a b (chain ++ others) = kept_by_write a page s (chain ++ others) owned in
    record {
      page_map = b;
      is = put ∙ ap (option_map (with_content page s)) is;
      chain = page ∷ chain;
      linked = (
        free,
        refl,
        (some, ap (λ (t : PageContent). t.free) (content_here page s a)),
        frame_chain a b free chain
            (agree_left a b chain others kept) linked,
      );
      owned = owned;
      kept = agree_right a b chain others kept;
      size = refl;
    }

-- no subtree
pub frees_none : (scheme : Scheme) (told : Option PageMap) (free : ℕ) (before : List Record) →
    FreesSubtrees scheme told free told free [] before before
frees_none scheme told free before a chain [] others is named linked owned = (
  record { page_map = a; is = is; chain = chain; linked = linked; owned = owned; kept = λ q some. refl; size = refl },
  sym (append-nil before),
)
frees_none scheme told free before a chain (P ∷ Ps) others is named linked owned = absurd named

front_counts : (q : ℕ) (x r f o : List ℕ) → count_in q (x ++ (f ++ (r ++ o))) ≡ count_in q ((x ++ r) ++ (f ++ o))
front_counts q x r f o = omega (
  arith,
  count_in-append q x (f ++ (r ++ o)),
  count_in-append q f (r ++ o),
  count_in-append q r o,
  count_in-append q (x ++ r) (f ++ o),
  count_in-append q x r,
  count_in-append q f o,
)

pub back_counts : (q : ℕ) (r f o : List ℕ) → count_in q (r ++ (f ++ o)) ≡ count_in q (f ++ (r ++ o))
back_counts q r f o = omega (
  arith,
  count_in-append q r (f ++ o),
  count_in-append q f o,
  count_in-append q f (r ++ o),
  count_in-append q r o,
)

pub turn_counts : (q x : ℕ) (p f o : List ℕ) → count_in q (x ∷ (f ++ (p ++ o))) ≡ count_in q (x ∷ (p ++ (f ++ o)))
turn_counts q x p f o = omega (
  arith,
  times_cons q x (f ++ (p ++ o)),
  times_cons q x (p ++ (f ++ o)),
  count_in-append q f (p ++ o),
  count_in-append q p o,
  count_in-append q p (f ++ o),
  count_in-append q f o,
)

pub take_counts : (q : ℕ) (p l r f o : List ℕ) → p ≡ l ++ r → count_in q (l ++ (f ++ (r ++ o))) ≡ count_in q
    (p ++ (f ++ o))
take_counts q p l r f o is = front_counts q l r f o ∙ ap (λ us. count_in q (us ++ (f ++ o))) (sym is)

-- some subtrees, and then others
pub frees_both : (scheme : Scheme) (told told1 told2 : Option PageMap) (free free1 free2 : ℕ) (cs ds : List Child)
    (before so_far after : List Record) →
    FreesSubtrees scheme told free told1 free1 cs before so_far → FreesSubtrees scheme told1 free1 told2 free2 ds so_far
    after →
    FreesSubtrees scheme told free told2 free2 (cs ++ ds) before after
frees_both scheme told told1 told2 free free1 free2 cs ds before so_far after first' second' a chain
    Ps others is named linked owned =
    let s = zip_split (NamesTree scheme a) cs ds Ps named in
    let ls = s.left in
    let rs = s.right in
    let whole : pages Ps ≡ pages ls ++ pages rs = ap pages s.is ∙ flat_map-append pages_of ls rs in
    let f = first' a chain ls (pages rs ++ others) is s.front linked
    (same_owned a.size (pages Ps ++ (chain ++ others)) _ (λ q. take_counts q (pages Ps) (pages ls) (pages rs) chain
    others whole) owned) in
    let m : PageMap = f.0.page_map in
    let there : NameTrees scheme m ds rs = frame_all scheme a m ds rs (agree_left a m (pages rs) others f.0.kept)
    s.back in
    let g = second' m f.0.chain rs others f.0.is there f.0.linked
    (same_owned m.size (f.0.chain ++ (pages rs ++ others)) _ (λ q. back_counts q (pages rs) f.0.chain others)
    f.0.owned) in (
      record {
        page_map = g.0.page_map;
        is = g.0.is;
        chain = g.0.chain;
        linked = g.0.linked;
        owned = g.0.owned;
        kept = λ q some. g.0.kept q some ∙ agree_right a m (pages rs) others f.0.kept q some;
        size = g.0.size ∙ f.0.size;
      },
      g.1 ∙ ap (λ us. us ++ flat_map records (trees rs)) f.1 ∙ append_assoc before (flat_map records (trees ls))
          (flat_map records (trees rs))
          ∙ ap (λ us. before ++ us) (sym (flat_map-append records (trees ls) (trees rs))
          ∙ ap (flat_map records) (sym (map-append tree_of ls rs) ∙ ap trees (sym s.is))),
    )

-- one subtree more
pub frees_more : (scheme : Scheme) (told told1 told2 : Option PageMap) (free free1 free2 : ℕ) (cs : List Child) (i : ℕ)
    (d : Child) (before so_far after : List Record) → i < length cs → d ≡ get_or cs i d →
    FreesSubtrees scheme told free told1 free1 (take i cs) before so_far →
    FreesSubtrees scheme told1 free1 told2 free2 (d ∷ []) so_far after →
    FreesSubtrees scheme told free told2 free2 (take (i + 1) cs) before after
frees_more scheme told told1 told2 free free1 free2 cs i d before so_far after within is first' second' =
    subst (λ us. FreesSubtrees scheme told free told2 free2 us before after)
    (sym (take_more cs i d within ∙ ap (λ x. take i cs ++ x ∷ []) (sym is)))
    (frees_both scheme told told1 told2 free free1 free2 (take i cs) (d ∷ []) before so_far after first' second')

-- a leaf
pub frees_leaf : (scheme : Scheme) (told told1 told' : Option PageMap) (free free' : ℕ) (c : Child)
    (rs before after : List Record) → told1 ≡ told → IfSome told (λ b. HasNode b c.id (node.Leaf rs)) →
    FreesPage told1 free told' free' c.id → after ≡ before ++ rs →
    FreesSubtrees scheme told free told' free' (c ∷ []) before after
frees_leaf scheme told told1 told' free free' c rs before after same reads frees listed a chain
    [] others is named linked owned = absurd named
frees_leaf scheme told told1 told' free free' c rs before after same reads frees listed a chain
    (P ∷ Q ∷ Ps) others is named linked owned = absurd named.1
frees_leaf scheme told told1 told' free free' c rs before after same reads frees listed a chain
    (P ∷ []) others is named linked owned =
    let has : HasNode a c.id (node.Leaf rs) = subst (λ o. IfSome o (λ b. HasNode b c.id (node.Leaf rs))) is reads in
    let here : P ≡ Leaf c.id rs = opens_leaf scheme a c rs P named.0 has in (
      frees a chain others (same ∙ is) linked
          (subst (λ Q. OwnsEachOnce a.size (pages (Q ∷ []) ++ (chain ++ others))) here
          owned),
      listed ∙ ap (λ us. before ++ us) (sym (records-Leaf rs) ∙ sym (append-nil (records (tree.Leaf rs)))
          ∙ ap (λ Q. records (tree_of Q) ++ []) (sym here)),
    )

-- an inner node
pub frees_inner : (scheme : Scheme) (told told1 told2 told' : Option PageMap) (free free2 free' : ℕ) (c : Child)
    (cs : List Child) (before after : List Record) → told1 ≡ told →
    IfSome told (λ b. HasNode b c.id (node.Inner (map child_link cs))) → FreesPage told1 free told2 free2 c.id →
    FreesSubtrees scheme told2 free2 told' free' cs before after → FreesSubtrees scheme told free told' free' (c ∷ [])
    before after
frees_inner scheme told told1 told2 told' free free2 free' c cs before after same reads frees rest a chain
    [] others is named linked owned = absurd named
frees_inner scheme told told1 told2 told' free free2 free' c cs before after same reads frees rest a chain
    (P ∷ Q ∷ Ps) others is named linked owned = absurd named.1
frees_inner scheme told told1 told2 told' free free2 free' c cs before after same reads frees rest a chain
    (P ∷ []) others is named linked owned =
    let has : HasNode a c.id (node.Inner (map child_link cs)) =
    subst (λ o. IfSome o (λ b. HasNode b c.id (node.Inner (map child_link cs)))) is reads in
    let op = opens_inner scheme a c cs P named.0 has in
    let Ps = op.parts in
    let mine : pages (P ∷ []) ≡ c.id ∷ pages Ps = append-nil (pages_of P) ∙ ap pages_of op.is
    ∙ ap (λ ps. c.id ∷ ps) (row_pages Ps) in
    let had : OwnsEachOnce a.size (c.id ∷ (pages Ps ++ (chain ++ others))) =
    subst (λ ps. OwnsEachOnce a.size (ps ++ (chain ++ others))) mine owned in
    let f = frees a chain (pages Ps ++ others) (same ∙ is) linked
    (same_owned a.size (c.id ∷ (pages Ps ++ (chain ++ others))) _ (λ q. turn_counts q c.id (pages Ps) chain others)
    had) in
    let there : NameTrees scheme f.page_map cs Ps = frame_all scheme a f.page_map cs Ps
    (agree_left a f.page_map (pages Ps) others f.kept) op.named in
    let g = rest f.page_map f.chain Ps others f.is there f.linked
    (same_owned f.page_map.size (f.chain ++ (pages Ps ++ others))
    _ (λ q. back_counts q (pages Ps) f.chain others) f.owned) in (
      record {
        page_map = g.0.page_map;
        is = g.0.is;
        chain = g.0.chain;
        linked = g.0.linked;
        owned = g.0.owned;
        kept = λ q some. g.0.kept q some ∙ agree_right a f.page_map (pages Ps) others f.kept q some;
        size = g.0.size ∙ f.size;
      },
      g.1 ∙ ap (λ us. before ++ us) (sym (records_below (trees Ps))
          ∙ ap (λ ts. records (tree.Inner ts)) (sym (row_trees Ps)) ∙ ap (λ Q. records (tree_of Q)) (sym op.is)
          ∙ sym (append-nil (records (tree_of P)))),
    )
