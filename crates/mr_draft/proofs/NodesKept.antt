-- The nodes of a file under edit that are kept.
use Rattle.std.proofs.Common.{◌≡◌, ℕ, ◌<◌, ◌≤◌, ◌^◌, Bool, true, List, [], ◌∷◌, inl, inr, refl, sym, ap, subst, ◌∙◌, arith}
use Rattle.std.specs.Prelude.{⊤, ◌⊎◌, map, Contains, Option, Some, None, option_map, IfSome, Result, Ok, Err, OnOk}
use Rattle.std.specs.List.{AllByRecursion}
use Rattle.std.proofs.lemmas.List.Elements.{All-from_recursion, All-nil}
use Rattle.mr_record.specs.declared.record.Record.{Record}
use Rattle.mr_record.specs.declared.version.Version.{Version}
use Rattle.mr_tree.specs.Digest.{Scheme, by}
use Rattle.mr_tree.specs.View as view
use Rattle.mr_tree.specs.Snapshot.{HasShape}
use Rattle.mr_tree.specs.declared.child.Child.{Child}
use Rattle.mr_tree.specs.declared.entry.Entry.{Entry}
use Rattle.mr_tree.specs.declared.nodes.NodesErr.{NodesErr}
use Rattle.mr_tree.specs.declared.nodes.NodesErr.TheVariants as nodes
use Rattle.mr_tree.specs.declared.tree.Tree.TheOpen as node
use Rattle.mr_pages.specs.declared.layout.Layout.{Layout}
use Rattle.mr_pages.specs.Page.{Form, Link, Node, IsNode, node_entry}
use Rattle.mr_pages.specs.PageBytes.{form_of, IsLayout}
use Rattle.mr_pages.specs.Stands as stands
use Rattle.mr_pages.specs.Stands.{Placed, Row, no_more, first, pages_of, all_pages, page_of, tree_of, link_of, links_of, IsWritten}
use Rattle.mr_pages.specs.Walking.{child_link, page_node}
use Rattle.mr_pages.proofs.Building.{level_is}
use Rattle.mr_pages.proofs.ViewPages.{view_fits}
use Rattle.mr_pages.proofs.Visits.{shape_of}
use Rattle.mr_outside.specs.Files.{Files}
use Rattle.mr_outside.specs.State.{Shelved}
use Rattle.mr_outside.specs.Told.{OfFile}
use Rattle.mr_store.specs.Again.{IsFetchRefused, IsSaid, TellsAgain, TellsNode}
use Rattle.mr_store.specs.Kept.{CacheEntries, IsFound, FindsNode, Forgets, KeepsEntries, GainsNode, AreInside}
use Rattle.mr_store.specs.private.Told.{level_known, digest_known}
use Rattle.mr_store.specs.declared.cached_node.CachedNode.{CachedNode}
use Rattle.mr_store.proofs.Caches.{found_among, found_there}
use Rattle.mr_edit.specs.PageMap.{PageContent, PageMap, HasNode, node_content, free_content, with_content, longer, count_in}
use Rattle.mr_edit.specs.Causes.{CanRead, HasEditCause}
use Rattle.mr_edit.specs.Held.{IsEntryOf}
use Rattle.mr_edit.specs.Outcome.{NeverMap}
use Rattle.mr_edit.specs.Shelves.{of_nodes}
use Rattle.mr_edit.specs.declared.error.EditErr.{EditErr}
use Rattle.mr_edit.specs.declared.error.EditErr.TheVariants as errors
use Rattle.mr_draft.specs.Sheets.{content_of, page_map_on, AreOn, AreKept, IsFiled, RefusesRead, ChangesPage, LosesPages}
use Rattle.mr_draft.proofs.Filed.{absent_rose}
use Rattle.mr_draft.proofs.ReadPages.{page_map_size, node_of_page, of_there, told_page_map}
use Rattle.mr_edit.proofs.Entries.{said_leaf, said_inner}
use Rattle.mr_edit.proofs.Frame.{times_first, times_rest, count_in-append}
use Rattle.mr_edit.proofs.Places.{content_here}
use Rattle.mr_draft.proofs.ZeroPages.{content_of_node, content_of_free}

-- ---- what is kept after a call

module _ (s : Scheme) (told : Option PageMap) (es : CacheEntries) (cap : ℕ) (k : AreKept s told es cap) where
  fewer : (es' : CacheEntries) (cap' : ℕ) → ((e : ℕ × CachedNode) → Contains es' e → Contains es e) → cap' ≡ cap →
      AreKept s told es' cap'
  fewer es' cap' among same = record {
    cap_is = same ∙ k.cap_is;
    each = λ e there. k.each e (among e there);
    on = at told k.on;
  }
    where
      at : (o : Option PageMap) → IfSome o (AreOn es) → IfSome o (AreOn es')
      at None on = tt
      at (Some b) on = λ e there. on e (among e there)

  pub still_kept : (es' : CacheEntries) (cap' : ℕ) → KeepsEntries es es' → cap' ≡ cap → AreKept s told es' cap'
  still_kept es' cap' stays same = fewer es' cap' stays.none_new same

  -- a page was written of which nothing is kept
  pub kept_elsewhere : (page : ℕ) (told' : Option PageMap) (es' : CacheEntries) (cap' : ℕ) → Forgets page es es' → cap'
      ≡ cap →
      ChangesPage page told told' → AreKept s told' es' cap'
  kept_elsewhere page told' es' cap' f same changes = record {
    cap_is = same ∙ k.cap_is;
    each = λ e there. k.each e (f.none_new e there);
    on = at told' changes;
  }
    where
      old : (a : PageMap) → told ≡ Some a → AreOn es a
      old a is = subst (λ o. IfSome o (AreOn es)) is k.on

      at : (o : Option PageMap) → ChangesPage page told o → IfSome o (AreOn es')
      at None c = tt
      at (Some b) c = λ e there.
          ap (λ (x : PageContent). x.node) (c.2 e.0 (f.gone e there)) ∙ old c.0 c.1 e (f.none_new e there)

  -- the pages are told no more, or one was added
  pub kept_lost : (told' : Option PageMap) → LosesPages told told' → AreKept s told' es cap
  kept_lost told' loses = record {
    cap_is = k.cap_is;
    each = k.each;
    on = elim loses [
      | inl none ↦ subst (λ o. IfSome o (AreOn es)) (sym none) tt
      | inr same ↦ subst (λ o. IfSome o (AreOn es)) (sym same) k.on
    ];
  }

  pub kept_longer : (told' : Option PageMap) → told' ≡ option_map longer told → AreKept s told' es cap
  kept_longer told' more = record {
    cap_is = k.cap_is;
    each = k.each;
    on = subst (λ o. IfSome o (AreOn es)) (sym more) (at told k.on);
  }
    where
      at : (o : Option PageMap) → IfSome o (AreOn es) → IfSome (option_map longer o) (AreOn es)
      at None on = tt
      at (Some b) on = on

  -- what is found
  found_kept : (c : Child) (n : view.Node) (f : IsFound es c n) → Contains es (c.id, f.kept)
  found_kept c n f = found_among es c.id f.kept (sym f.there)

  pub found_level : (c : Child) (n : view.Node) → IsFound es c n → view.level_of n ≡ c.level
  found_level c n f = ap view.level_of f.node ∙ (k.each (c.id, f.kept) (found_kept c n f)).level ∙ f.that.level

  pub found_some : (c : Child) (n : view.Node) → IsFound es c n → 1 ≤ view.size n
  found_some c n f = subst (λ m. 1 ≤ view.size m) (sym f.node) (k.each (c.id, f.kept) (found_kept c n f)).shape.some

  pub found_told : (c : Child) (n : view.Node) → IsFound es c n → view.AreTold s.version n
  found_told c n f = subst (view.AreTold s.version) (sym f.node) (k.each (c.id, f.kept) (found_kept c n f)).told

  pub found_node : (c : Child) (n : view.Node) → IsFound es c n → IfSome told (λ b. HasNode b c.id (page_node n))
  found_node c n f = at told k.on
    where
      at : (o : Option PageMap) → IfSome o (AreOn es) → IfSome o (λ b. HasNode b c.id (page_node n))
      at None on = tt
      at (Some b) on = subst (λ m. HasNode b c.id (page_node m)) (sym f.node) (on (c.id, f.kept) (found_kept c n f))

  -- a node is kept
  pub kept_more : (c : Child) (n : view.Node) (cap0 : ℕ) (es' : CacheEntries) (cap' : ℕ) → HasShape n →
      view.AreTold s.version n → view.level_of n ≡ c.level → s.of (view.preimage_of s.version n) ≡ c.digest →
      IfSome told (λ b. HasNode b c.id (page_node n)) → GainsNode cap0 es es' c n → cap' ≡ cap →
      AreKept s told es' cap'
  kept_more c n cap0 es' cap' shape may level digest node gains same = record {
    cap_is = same ∙ k.cap_is;
    each = λ e there. elim (gains.each e there) [
      | inl old ↦ k.each e old
      | inr new' ↦ record {
        shape = subst HasShape (sym new'.node) shape;
        level = ap view.level_of new'.node ∙ level ∙ sym new'.that.level;
        told = subst (view.AreTold s.version) (sym new'.node) may;
        digest = ap (λ m. s.of (view.preimage_of s.version m)) new'.node ∙ digest ∙ sym new'.that.digest;
      }
    ];
    on = at told k.on node;
  }
    where
      at : (o : Option PageMap) → IfSome o (AreOn es) → IfSome o (λ b. HasNode b c.id (page_node n)) → IfSome o
          (AreOn es')
      at None on node = tt
      at (Some b) on node = λ e there. elim (gains.each e there) [
        | inl old ↦ on e old
        | inr new' ↦
            (λ i. (b.content (new'.page i)).node) ∙ node ∙ ap (λ m. Some (page_node m)) (sym new'.node)
      ]

pub finds_it : (es : CacheEntries) (c : Child) (b : Bool) (n : view.Node) → b ≡ true → FindsNode es c b n → IsFound
    es c n
finds_it = found_there

-- ---- a node is written

pub put_node : (told told' : Option PageMap) (page : ℕ) (n : Node) →
    told' ≡ option_map (with_content page (node_content n)) told → IfSome told' (λ b. HasNode b page n)
put_node None told' page n put = subst (λ o. IfSome o (λ b. HasNode b page n)) (sym put) tt
put_node (Some a) told' page n put =
    subst (λ o. IfSome o (λ b. HasNode b page n)) (sym put)
    (ap (λ (x : PageContent). x.node) (content_here page (node_content n) a))

-- a page that spells this was put
pub put_as : (layout : Layout) → IsLayout layout → (told told' : Option PageMap) (page : ℕ) (bytes : List ℕ)
    (n : Node) →
    bytes ≡ (form_of layout).node_page n → IsNode layout.version n →
    told' ≡ option_map (with_content page (content_of (form_of layout) bytes)) told →
    told' ≡ option_map (with_content page (node_content n)) told
put_as layout room told told' page bytes n is fits put =
    put ∙ ap (λ x. option_map (with_content page x) told)
    (ap (content_of (form_of layout)) is ∙ content_of_node layout room n fits)

pub free_as : (layout : Layout) (told told' : Option PageMap) (page : ℕ) (bytes : List ℕ) (next : ℕ) →
    bytes ≡ (form_of layout).free_page next → next < 2 ^ 32 →
    told' ≡ option_map (with_content page (content_of (form_of layout) bytes)) told →
    told' ≡ option_map (with_content page (free_content next)) told
free_as layout told told' page bytes next is low put =
    put ∙ ap (λ x. option_map (with_content page x) told)
    (ap (content_of (form_of layout)) is ∙ content_of_free layout next low)

pub if_ok : {A E P Q : Type 0} (r : Result A E) → (P → Q) → OnOk r P → OnOk r Q
if_ok (Ok a) f p = f p
if_ok (Err e) f p = tt

pub said_level : (s : Scheme) (c : Child) (n : view.Node) → IsEntryOf s c n → view.level_of n ≡ c.level
said_level s c n said = level_known s n ∙ sym (ap (λ (l : Link). l.entry.level) said)

pub said_digest : (s : Scheme) (c : Child) (n : view.Node) → IsEntryOf s c n →
    s.of (view.preimage_of s.version n) ≡ c.digest
said_digest s c n said = digest_known s n ∙ sym (ap (λ (l : Link). l.entry.digest) said)

pub view_shape : (v : Version) (n : view.Node) → view.IsView n → 1 ≤ view.size n → view.AreTold v n → HasShape n
view_shape v n is some may = shape_of v n is (view_fits v n is some may) may

-- ---- where the pages are told, a node that is held is on its page

top_times : (P : Placed) → 0 < count_in (page_of P) (pages_of P)
top_times (stands.Leaf p rs) = times_first p []
top_times (stands.Inner p Ps) = times_first p (all_pages Ps)

module _ (layout : Layout) (pages : ℕ) (hash : List ℕ → List ℕ) where
  abbrev form : Form
  form = form_of layout

  abbrev scheme : Scheme
  scheme = by layout.version hash

  -- the children of the node of a tree stand on pages of the file, where all its nodes do
  inside_row : (cs : List Child) (Ps : Row) → map child_link cs ≡ links_of scheme Ps →
      ((q : ℕ) → 0 < count_in q (all_pages Ps) → (1 ≤ q) × (q < pages)) →
      AllByRecursion (λ (c : Child). (1 ≤ c.id) × (c.id < pages)) cs
  inside_row [] Ps e inside = tt
  inside_row (c ∷ cs) no_more e inside = absurd (no e)
    where
      no : ◌≡◌ {A = List Link} (child_link c ∷ map child_link cs) [] → ⊥
      no h = cc
  inside_row (c ∷ cs) (first P Ps) e inside =
      let one : child_link c ≡ link_of scheme P = cc in
      let rest : map child_link cs ≡ links_of scheme Ps = cc in
      let page : c.id ≡ page_of P = ap (λ (l : Link). l.page) one in (
        subst (λ q. (1 ≤ q) × (q < pages)) (sym page)
            (inside (page_of P) (omega (arith, top_times P, count_in-append (page_of P) (pages_of P) (all_pages Ps)))),
        inside_row cs Ps rest (λ q there. inside q
            (omega (arith, there, count_in-append q (pages_of P) (all_pages Ps)))),
      )

  inner_inside : (Ps : Row) → ((q : ℕ) → 0 < count_in q (all_pages Ps) → (1 ≤ q) × (q < pages)) → (n : view.Node) →
      page_node n ≡ node.Inner (links_of scheme Ps) → AreInside pages n
  inner_inside Ps inside node.Empty e = All-nil _
  inner_inside Ps inside (node.Leaf rs) e = All-nil _
  inner_inside Ps inside (node.Inner cs) e =
      All-from_recursion (λ (c : Child). (1 ≤ c.id) × (c.id < pages)) cs (inside_row cs Ps (of_inner e) inside)
    where
      of_inner : ◌≡◌ {A = Node} (node.Inner (map child_link cs)) (node.Inner (links_of scheme Ps)) →
          map child_link cs ≡ links_of scheme Ps
      of_inner h = cc

  leaf_inside : (rs : List Record) (n : view.Node) → page_node n ≡ node.Leaf rs → AreInside pages n
  leaf_inside rs node.Empty e = All-nil _
  leaf_inside rs (node.Leaf qs) e = All-nil _
  leaf_inside rs (node.Inner cs) e = absurd (no e)
    where
      no : ◌≡◌ {A = Node} (node.Inner (map child_link cs)) (node.Leaf rs) → ⊥
      no h = cc

  -- the node on the page of a child that can be read
  record IsThere (told : Option PageMap) (c : Child) : Type 0 where
    positive : 1 ≤ c.id
    within : c.id < pages
    node : Node
    there : IfSome told (λ b. HasNode b c.id node)
    said : IsSaid scheme pages c node

  said_of : (c : Child) (n : Node) (e : Entry) → node_entry scheme n ≡ e → view.child_entry c ≡ e →
      ((m : view.Node) → page_node m ≡ n → AreInside pages m) → IsSaid scheme pages c n
  said_of c n e known said inside = record {
    level = sym (level_is scheme n) ∙ ap (λ (x : Entry). x.level) (known ∙ sym said);
    digest = ap (λ (x : Entry). x.digest) (known ∙ sym said);
    inside = inside;
  }

  on_its_page : (b : PageMap) (c : Child) (P : Placed) → child_link c ≡ link_of scheme P →
      IsWritten scheme (HasNode b) P → ((q : ℕ) → 0 < count_in q (pages_of P) → (1 ≤ q) × (q < pages)) →
      IsThere (Some b) c
  on_its_page b c (stands.Leaf p rs) link w inside =
      let page : c.id ≡ p = ap (λ (l : Link). l.page) link in
      let top = inside p (times_first p []) in
      record {
        positive = omega (arith, page, top.0);
        within = omega (arith, page, top.1);
        node = node.Leaf rs;
        there = ap (λ q. (b.content q).node) page ∙ w;
        said = said_of c (node.Leaf rs) _ (said_leaf scheme rs) (ap (λ (l : Link). l.entry) link)
            (leaf_inside rs);
      }
  on_its_page b c (stands.Inner p Ps) link w inside =
      let page : c.id ≡ p = ap (λ (l : Link). l.page) link in
      let top = inside p (times_first p (all_pages Ps)) in
      record {
        positive = omega (arith, page, top.0);
        within = omega (arith, page, top.1);
        node = node.Inner (links_of scheme Ps);
        there = ap (λ q. (b.content q).node) page ∙ w.0;
        said = said_of c (node.Inner (links_of scheme Ps)) _ (said_inner scheme Ps)
            (ap (λ (l : Link). l.entry) link)
            (inner_inside Ps (λ q there. inside q (times_rest q p (all_pages Ps) there)));
      }

  is_there : (told : Option PageMap) (c : Child) → ((b : PageMap) → told ≡ Some b → b.size ≡ pages) →
      CanRead scheme told c → IsThere told c
  is_there told c size can =
      let whole = size can.page_map can.is in
      subst (λ o. IsThere o c) (sym can.is)
      (on_its_page can.page_map c can.placed can.names.said can.names.written
      (λ q there. let h = can.inside q there in (h.0, omega (arith, h.1, whole))))

  -- what is outside is no child that can be read
  pub outside_none : (told : Option PageMap) (c : Child) → ((b : PageMap) → told ≡ Some b → b.size ≡ pages) →
      (c.id ≡ 0) ⊎ (pages ≤ c.id) → CanRead scheme told c → ⊥
  outside_none told c size out can =
      let t = is_there told c size can in
      elim out [ inl zero_id ↦ omega (arith, zero_id, t.positive) | inr far ↦ omega (arith, far, t.within) ]

  -- nor is it blamed
  tells_none : (A : Type 0) (e : NodesErr) (n : view.Node) (P : Type 0) →
      (P → (m : Node) × TellsNode {A = A} m (Err e) n) → NeverMap (of_nodes e) P
  tells_none A (nodes.Changed page held found) n P t = λ p. (t p).1
  tells_none A (nodes.Page page) n P t = λ p. (t p).1
  tells_none A (nodes.Outside page) n P t = λ p. (t p).1
  tells_none A nodes.Missing n P t = tt
  tells_none A nodes.Fault n P t = tt
  tells_none A nodes.NoMemory n P t = tt

  pub never_blamed : (A : Type 0) (files : Option Files) (name : List ℕ) (c : Child) (e : NodesErr) (r : EditErr)
      (n : view.Node) → OfFile files name ⊤ (TellsAgain {A = A} form hash pages c (Err e) n) → r ≡ of_nodes e →
      NeverMap r (CanRead scheme (page_map_on form files name pages) c)
  never_blamed A files name c e r n tells is =
      let told : Option PageMap = page_map_on form files name pages in
      subst (λ x. NeverMap x (CanRead scheme told c)) (sym is)
      (tells_none A e n (CanRead scheme told c) (λ can.
      let t = is_there told c (page_map_size layout files name pages) can in
      let b = told_page_map layout files name pages can.page_map can.is in (
        t.node,
        of_there layout files name pages (TellsAgain {A = A} form hash pages c (Err e) n) tells b.bytes b.found
            b.page_map.whole t.within t.node
            (node_of_page layout files name pages can.page_map c.id t.node can.is
            (subst (λ o. IfSome o (λ x. HasNode x c.id t.node)) can.is t.there)) t.said,
      )))

-- ---- why a read is refused

module _ (form : Form) (hash : List ℕ → List ℕ) (pages : ℕ) (c : Child) where
  pub memory_refuses : RefusesRead form hash pages c errors.NoMemory
  memory_refuses = record { error = nodes.NoMemory; is = refl; given = inl tt }

  pub outside_refuses : (c.id ≡ 0) ⊎ (pages ≤ c.id) →
      RefusesRead form hash pages c (of_nodes (nodes.Outside c.id))
  outside_refuses out = record {
    error = nodes.Outside c.id;
    is = refl;
    given = inr (refl, λ some. elim out [ inl none ↦ absurd (omega (arith, some, none)) | inr high ↦ high ]);
  }

-- what was read is blamed without a fault, and what failed was counted
pub refused_cause : (pages : ℕ) (name : List ℕ) (c : Child) (before after : Shelved) (e : NodesErr) (r : EditErr) →
    IsFiled before.files name → IsFetchRefused pages name c before after e → r ≡ of_nodes e →
    HasEditCause before.faults after.faults r
refused_cause pages name c before after e r there refused is =
    subst (HasEditCause before.faults after.faults) (sym is) (at e refused)
  where
    at : (e : NodesErr) → IsFetchRefused pages name c before after e → HasEditCause before.faults after.faults
        (of_nodes e)
    at (nodes.Changed page held found) h = (h.0.2, h.2)
    at (nodes.Page page) h = (tt, h.2)
    at (nodes.Outside page) h = (tt, h.2)
    at nodes.Missing h = absent_rose before.files name before.faults after.faults there h
    at nodes.Fault h = h
    at nodes.NoMemory h = tt
