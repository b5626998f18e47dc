-- A node that is split takes another page.
use Rattle.std.proofs.Common.{◌≡◌, Bool, true, false, ℕ, ◌+◌, ◌<◌, ◌≤◌, List, [], ◌∷◌, ◌++◌, length, map, sym, ap, subst, ◌∙◌, arith}
use Rattle.std.specs.Prelude.{Option}
use Rattle.std.proofs.lemmas.List.{length-map, map-append}
use Rattle.std.proofs.lemmas.List.Concat.{flat_map-append}
use Rattle.mr_record.specs.declared.record.Record.{Record}
use Rattle.mr_tree.specs.Digest.{Scheme}
use Rattle.mr_tree.specs.declared.child.Child.{Child}
use Rattle.mr_tree.specs.declared.tree.Tree.{Tree}
use Rattle.mr_tree.specs.declared.tree.Tree.TheVariants as tree
use Rattle.mr_tree.specs.declared.tree.Tree.TheOpen as node
use Rattle.mr_split.specs.Split.{sides}
use Rattle.mr_grow.specs.Grow.{outline}
use Rattle.mr_grow.specs.Parts.{first_part, second_part}
use Rattle.mr_grow.proofs.Grown.{leaves_one, leaves_two, nodes_one, nodes_two}
use Rattle.mr_pages.specs.Stands.{Placed, tree_of, pages_of}
use Rattle.mr_pages.specs.Walking.{child_link}
use Rattle.mr_edit.specs.PageMap.{PageContent, PageMap, OwnsEachOnce, count_in}
use Rattle.mr_edit.specs.Held.{NamesTree, NameTrees, trees, pages}
use Rattle.mr_edit.specs.Outcome.{UsesPages, Same, Outcome, HalvesList, PutsLeaf, PutsInner, Taken, TakesPage, WritesNode}
use Rattle.mr_edit.proofs.Zips.{same_length, zip_both, zip_first, zip_second, map_first, map_second}
use Rattle.mr_edit.proofs.Frame.{count_in-append, agree_left, agree_right, frame_all}
use Rattle.mr_edit.proofs.Places.{same_owned, times_cons}
use Rattle.mr_edit.proofs.Entries.{outlines_are}
use Rattle.mr_edit.proofs.Writes.{leaf_written, inner_written, weaker, same_uses, uses_as}

-- ---- without a split

pub leaf_whole : (scheme : Scheme) (told told' : Option PageMap) (free free' x : ℕ) (rs : List Record) (e : Child) →
    length rs ≤ 16 → WritesNode scheme told free told' free' x (node.Leaf rs) e →
    PutsLeaf scheme told free told' free' x rs (e ∷ [])
leaf_whole scheme told told' free free' x rs e few w a chain others is linked owned =
    subst (λ ts. Outcome scheme a (UsesPages a.size chain) told' free' others ts (e ∷ [])) (sym (leaves_one rs few))
    (weaker scheme a (Same a.size chain) (UsesPages a.size chain) told' free' others _ (e ∷ []) (same_uses a.size chain)
    (leaf_written scheme told told' free free' x rs e w a chain others is linked owned))

pub inner_whole : (scheme : Scheme) (told told' : Option PageMap) (free free' x : ℕ) (cs : List Child) (e : Child) →
    length cs ≤ 64 → WritesNode scheme told free told' free' x (node.Inner (map child_link cs)) e →
    PutsInner scheme told free told' free' x cs (e ∷ [])
inner_whole scheme told told' free free' x cs e few w a chain Ps others is named linked owned =
    let size : length (trees Ps) ≤ 64 = omega (
      arith,
      few,
      length-map Ps tree_of,
      same_length (NamesTree scheme a) cs Ps named,
    ) in
    subst (λ ts. Outcome scheme a (UsesPages a.size chain) told' free' others ts (e ∷ []))
    (sym (nodes_one (trees Ps) size))
    (weaker scheme a (Same a.size chain) (UsesPages a.size chain) told' free' others _ (e ∷ []) (same_uses a.size chain)
    (inner_written scheme told told' free free' x cs e w a chain Ps others is named linked owned))

-- ---- a page is taken, and two nodes are written

join_counts : (q : ℕ) (x y f o : List ℕ) → count_in q ((x ++ y) ++ (f ++ o)) ≡ count_in q (y ++ (f ++ (x ++ o)))
join_counts q x y f o = omega (
  arith,
  count_in-append q (x ++ y) (f ++ o),
  count_in-append q x y,
  count_in-append q f o,
  count_in-append q y (f ++ (x ++ o)),
  count_in-append q f (x ++ o),
  count_in-append q x o,
)

pub two_written : (scheme : Scheme) (a : PageMap) (chain : List ℕ) (told1 told2 told3 : Option PageMap)
    (free1 free2 free3 y : ℕ) (more others : List ℕ) (ts us : List Tree) (es fs : List Child) →
    ((q : ℕ) → 0 < count_in q others → 0 < count_in q more) → (t : Taken a chain told1 free1 y) →
    (o : Outcome scheme t.page_map (Same t.page_map.size t.chain) told2 free2 more ts es) →
    Outcome scheme o.page_map (Same o.page_map.size o.chain) told3 free3 (pages o.parts ++ others) us fs →
    Outcome scheme a (UsesPages a.size chain) told3 free3 others (ts ++ us) (es ++ fs)
two_written scheme a chain told1 told2 told3 free1 free2 free3 y more others ts us es fs among t o w = record {
  page_map = w.page_map;
  is = w.is;
  parts = o.parts ++ w.parts;
  named = zip_both (NamesTree scheme w.page_map) es fs o.parts w.parts
      (frame_all scheme o.page_map w.page_map es o.parts
      (agree_left o.page_map w.page_map (pages o.parts) others w.kept) o.named)
      w.named;
  stand = map-append tree_of o.parts w.parts ∙ (λ i. o.stand i ++ w.stand i);
  chain = w.chain;
  linked = w.linked;
  owned = same_owned w.page_map.size (pages w.parts ++ (w.chain ++ (pages o.parts ++ others))) _
      (λ q. ap (λ ps. count_in q (ps ++ (w.chain ++ others))) (flat_map-append pages_of o.parts w.parts)
      ∙ join_counts q (pages o.parts) (pages w.parts) w.chain others)
      w.owned;
  kept = λ q some. agree_right o.page_map w.page_map (pages o.parts) others w.kept q some ∙ o.kept q (among q some)
      ∙ ap (λ (s : ℕ → PageContent). s q) t.same;
  use_ = uses_as a.size chain t.page_map.size t.chain w.page_map.size w.chain
      t.use_ (w.use_.0 ∙ o.use_.0) (w.use_.1 ∙ o.use_.1);
}

-- ---- a leaf

first_counts : (q x : ℕ) (f o : List ℕ) → count_in q (f ++ (x ∷ o)) ≡ count_in q (x ∷ (f ++ o))
first_counts q x f o = omega (
  arith,
  count_in-append q f (x ∷ o),
  times_cons q x o,
  times_cons q x (f ++ o),
  count_in-append q f o,
)

swap_counts : (q x y : ℕ) (f o : List ℕ) → count_in q (x ∷ (f ++ (y ∷ o))) ≡ count_in q (y ∷ (f ++ (x ∷ o)))
swap_counts q x y f o = omega (
  arith,
  times_cons q x (f ++ (y ∷ o)),
  count_in-append q f (y ∷ o),
  times_cons q y o,
  times_cons q y (f ++ (x ∷ o)),
  count_in-append q f (x ∷ o),
  times_cons q x o,
)

next_counts : (q y : ℕ) (x f o : List ℕ) → count_in q (y ∷ (f ++ (x ++ o))) ≡ count_in q (x ++ (f ++ (y ∷ o)))
next_counts q y x f o = omega (
  arith,
  times_cons q y (f ++ (x ++ o)),
  count_in-append q f (x ++ o),
  count_in-append q x o,
  count_in-append q x (f ++ (y ∷ o)),
  count_in-append q f (y ∷ o),
  times_cons q y o,
)

pub leaf_split : (scheme : Scheme) (told told1 told2 told3 : Option PageMap) (free free1 free2 free3 x y : ℕ)
    (rs front back : List Record) (e f : Child) →
    16 < length rs → HalvesList 6 16 (map (λ (r : Record). r.rect) rs) rs front back →
    TakesPage told free told1 free1 y → WritesNode scheme told1 free1 told2 free2 x (node.Leaf front) e →
    WritesNode scheme told2 free2 told3 free3 y (node.Leaf back) f →
    PutsLeaf scheme told free told3 free3 x rs (e ∷ f ∷ [])
leaf_split scheme told told1 told2 told3 free free1 free2 free3 x y rs front back e f many h takes first' second' a
    chain others is linked owned =
    let t = takes a chain is linked in
    let had : OwnsEachOnce a.size (chain ++ (x ∷ others)) = same_owned a.size (x ∷ (chain ++ others)) _
    (λ q. first_counts q x chain others) owned in
    let ready : OwnsEachOnce t.page_map.size (x ∷ (t.chain ++ (y ∷ others))) =
    same_owned t.page_map.size (y ∷ (t.chain ++ (x ∷ others))) _ (λ q. swap_counts q x y t.chain others)
    (t.owned (x ∷ others) had) in
    let o = leaf_written scheme told1 told2 free1 free2 x front e first' t.page_map t.chain
    (y ∷ others) t.is t.linked ready in
    let w = leaf_written scheme told2 told3 free2 free3 y back f second' o.page_map o.chain
    (pages o.parts ++ others) o.is o.linked
    (same_owned o.page_map.size (pages o.parts ++ (o.chain ++ (y ∷ others))) _
    (λ q. next_counts q y (pages o.parts) o.chain
    others) o.owned) in
    subst (λ ts. Outcome scheme a (UsesPages a.size chain) told3 free3 others ts (e ∷ f ∷ []))
    ((λ i. tree.Leaf (h.first_is i) ∷ tree.Leaf (h.second_is i) ∷ []) ∙ sym (leaves_two rs many))
    (two_written scheme a chain told1 told2 told3 free1 free2 free3 y (y ∷ others) others (tree.Leaf front ∷ [])
    (tree.Leaf back ∷ []) (e ∷ []) (f ∷ [])
    (λ q some. omega (arith, some, times_cons q y others)) t o w)

-- ---- an inner node

part_counts : (q : ℕ) (bs : List Bool) (Ps : List Placed) → count_in q (pages Ps) ≡ count_in q
    (pages (first_part bs Ps)) +
    count_in q (pages (second_part bs Ps))
part_counts q [] Ps = omega arith
part_counts q (b ∷ bs) [] = omega arith
part_counts q (true ∷ bs) (P ∷ Ps) =
    omega (
      arith,
      count_in-append q (pages_of P) (pages Ps),
      count_in-append q (pages_of P) (pages (second_part bs Ps)),
      part_counts q bs Ps,
    )
part_counts q (false ∷ bs) (P ∷ Ps) =
    omega (
      arith,
      count_in-append q (pages_of P) (pages Ps),
      count_in-append q (pages_of P) (pages (first_part bs Ps)),
      part_counts q bs Ps,
    )

give_counts : (q x : ℕ) (p f o : List ℕ) → count_in q (f ++ (x ∷ (p ++ o))) ≡ count_in q (x ∷ (p ++ (f ++ o)))
give_counts q x p f o = omega (
  arith,
  count_in-append q f (x ∷ (p ++ o)),
  times_cons q x (p ++ o),
  count_in-append q p o,
  times_cons q x (p ++ (f ++ o)),
  count_in-append q p (f ++ o),
  count_in-append q f o,
)

ready_counts : (q x y : ℕ) (p l r f o : List ℕ) → count_in q p ≡ count_in q l + count_in q r →
    count_in q (x ∷ (l ++ (f ++ (y ∷ (r ++ o))))) ≡ count_in q (y ∷ (f ++ (x ∷ (p ++ o))))
ready_counts q x y p l r f o both = omega (
  arith,
  both,
  times_cons q x (l ++ (f ++ (y ∷ (r ++ o)))),
  count_in-append q l (f ++ (y ∷ (r ++ o))),
  count_in-append q f (y ∷ (r ++ o)),
  times_cons q y (r ++ o),
  count_in-append q r o,
  times_cons q y (f ++ (x ∷ (p ++ o))),
  count_in-append q f (x ∷ (p ++ o)),
  times_cons q x (p ++ o),
  count_in-append q p o,
)

last_counts : (q y : ℕ) (r n f o : List ℕ) → count_in q (y ∷ (r ++ (f ++ (n ++ o)))) ≡ count_in q
    (n ++ (f ++ (y ∷ (r ++ o))))
last_counts q y r n f o = omega (
  arith,
  times_cons q y (r ++ (f ++ (n ++ o))),
  count_in-append q r (f ++ (n ++ o)),
  count_in-append q f (n ++ o),
  count_in-append q n o,
  count_in-append q n (f ++ (y ∷ (r ++ o))),
  count_in-append q f (y ∷ (r ++ o)),
  times_cons q y (r ++ o),
  count_in-append q r o,
)

pub inner_split : (scheme : Scheme) (told told1 told2 told3 : Option PageMap) (free free1 free2 free3 x y : ℕ)
    (cs front back : List Child) (e f : Child) →
    64 < length cs → HalvesList 24 64 (map (λ (c : Child). c.rect) cs) cs front back →
    TakesPage told free told1 free1 y → WritesNode scheme told1 free1 told2 free2 x
    (node.Inner (map child_link front)) e →
    WritesNode scheme told2 free2 told3 free3 y (node.Inner (map child_link back)) f →
    PutsInner scheme told free told3 free3 x cs (e ∷ f ∷ [])
inner_split scheme told told1 told2 told3 free free1 free2 free3 x y cs front back e f many h takes first' second' a
    chain Ps others is named linked owned =
    let bs = sides (map (λ (c : Child). c.rect) cs) 24 in
    let ls = first_part bs Ps in
    let rs = second_part bs Ps in
    let ts = trees Ps in
    let t = takes a chain is linked in
    let m : PageMap = t.page_map in
    let had : OwnsEachOnce a.size (chain ++ (x ∷ (pages Ps ++ others))) =
    same_owned a.size (x ∷ (pages Ps ++ (chain ++ others))) _ (λ q. give_counts q x (pages Ps) chain others) owned in
    let here : NameTrees scheme m cs Ps = frame_all scheme a m cs Ps
    (λ q some. ap (λ (s : ℕ → PageContent). s q) t.same) named in
    let o = inner_written scheme told1 told2 free1 free2 x front e first' m t.chain ls (y ∷ (pages rs ++ others)) t.is
    (subst (λ us. NameTrees scheme m us ls) (sym h.first_is) (zip_first (NamesTree scheme m) bs cs Ps here)) t.linked
    (same_owned m.size (y ∷ (t.chain ++ (x ∷ (pages Ps ++ others)))) _
    (λ q. ready_counts q x y (pages Ps) (pages ls) (pages rs) t.chain others (part_counts q bs Ps))
    (t.owned (x ∷ (pages Ps ++ others)) had)) in
    let there : NameTrees scheme o.page_map back rs =
    frame_all scheme m o.page_map back rs (λ q some. o.kept q (omega (
      arith,
      some,
      times_cons q y (pages rs ++ others),
      count_in-append q (pages rs) others,
    )))
    (subst (λ us. NameTrees scheme m us rs) (sym h.second_is) (zip_second (NamesTree scheme m) bs cs Ps here)) in
    let w = inner_written scheme told2 told3 free2 free3 y back f second' o.page_map o.chain
    rs (pages o.parts ++ others) o.is there o.linked
    (same_owned o.page_map.size (pages o.parts ++ (o.chain ++ (y ∷ (pages rs ++ others)))) _
    (λ q. last_counts q y (pages rs) (pages o.parts) o.chain others) o.owned) in
    let same : bs ≡ sides (map outline ts) 24 = ap (λ us. sides us 24) (outlines_are scheme a cs Ps named) in
    let size : 64 < length ts = omega (
      arith,
      many,
      length-map Ps tree_of,
      same_length (NamesTree scheme a) cs Ps
          named,
    ) in
    subst (λ us. Outcome scheme a (UsesPages a.size chain) told3 free3 others us (e ∷ f ∷ []))
    ((λ i. tree.Inner ((map_first tree_of bs Ps ∙ ap (λ ss. first_part ss ts) same) i) ∷ tree.Inner
    ((map_second tree_of bs Ps ∙ ap (λ ss. second_part ss ts) same) i) ∷ []) ∙ sym (nodes_two ts size))
    (two_written scheme a chain told1 told2 told3 free1 free2 free3 y (y ∷ (pages rs ++ others)) others
    (tree.Inner (trees ls) ∷ []) (tree.Inner (trees rs) ∷ []) (e ∷ []) (f ∷ [])
    (λ q some. omega (arith, some, times_cons q y (pages rs ++ others), count_in-append q (pages rs) others)) t o w)
