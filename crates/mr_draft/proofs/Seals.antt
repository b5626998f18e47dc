-- A file under edit before it is sealed, when page 0 was written in part, and sealed.
use Rattle.std.proofs.Common.{◌≡◌, ◌≢◌, ℕ, zero, suc, ◌+◌, ◌*◌, ◌<◌, ◌≤◌, ◌^◌, Bool, true, false, List, [], ◌∷◌, ◌++◌, length, take, drop, inl, inr, refl, sym, ap, subst, ◌∙◌, append-nil, length-append, take-append-drop, arith}
use Rattle.std.specs.Prelude.{⊤, ◌==◌, if◌then◌else◌, Option, Some, None, option_map, IfSome, IsSome, MatchOption}
use Rattle.std.specs.Option.{option_and_then}
use Rattle.std.proofs.lemmas.Bool.{cases_lt, eqb-true}
use Rattle.std.proofs.lemmas.List.{take_at}
use Rattle.std.specs.List.{flat_map, AllByRecursion}
use Rattle.std.proofs.lemmas.List.Elements.{All-take, All-drop, All-from_recursion, recursion_from_All}
use Rattle.mr_outside.specs.Bytes.{AreBytes}
use Rattle.mr_record.specs.Record.{HasLayer}
use Rattle.mr_record.specs.declared.version.Version.{Version}
use Rattle.mr_outside.specs.Files.{Files, file, with_file, replaced, overwritten}
use Rattle.mr_outside.specs.State.{Shelved}
use Rattle.mr_outside.specs.Writing.{IsChanged, IsChangedPartly}
use Rattle.mr_outside.proofs.Changes.{with_change-found, overwritten-none}
use Rattle.mr_tree.specs.Digest.{Scheme, by, entry, root, root_preimage, no_entry}
use Rattle.mr_tree.specs.Nodes.{root_entry}
use Rattle.mr_tree.specs.Tree.{records}
use Rattle.mr_tree.specs.View.{child_entry}
use Rattle.mr_tree.specs.WellFormed.{WellFormed, HasLayers}
use Rattle.mr_tree.specs.declared.child.Child.{Child}
use Rattle.mr_tree.specs.declared.tree.Tree.{Tree}
use Rattle.mr_tree.specs.declared.tree.Tree.TheVariants as tree
use Rattle.mr_tree.specs.declared.tree.Tree.TheOpen as node
use Rattle.mr_tree.proofs.Equations.{records-Empty, records-Leaf}
use Rattle.mr_grow.proofs.Kept.{records_below}
use Rattle.mr_pages.specs.Law.{IsMap}
use Rattle.mr_pages.specs.declared.layout.Layout.{Layout}
use Rattle.mr_pages.specs.Page.{Form, Link, Node, Head, IsForm, IsNode}
use Rattle.mr_pages.specs.PageBytes.{layout_by, form_of, IsLayout}
use Rattle.mr_pages.specs.File.{page_at}
use Rattle.mr_pages.specs.Saved.{IsUnsealed}
use Rattle.mr_pages.specs.Source.{told_bytes}
use Rattle.mr_pages.specs.Stands as stands
use Rattle.mr_pages.specs.Stands.{Placed, Row, no_more, first, tree_of, trees_of, IsWritten, AreWritten, IsChain, AreAllPages, link_of, whole_tree, whole_pages, StandsForTree}
use Rattle.mr_pages.specs.Walking.{child_link, head_of}
use Rattle.mr_pages.specs.declared.head.MapHead.{MapHead}
use Rattle.mr_pages.proofs.Agreement.{written_as, chain_as}
use Rattle.mr_pages.proofs.HeadLaws.{form_is}
use Rattle.mr_pages.proofs.Imaged.{front_unsealed, head_front_says, part_unsealed}
use Rattle.mr_pages.proofs.Lists.{all_append}
use Rattle.mr_edit.specs.PageMap.{PageContent, PageMap, HasNode, HasFree, OwnsEachOnce}
use Rattle.mr_draft.specs.Draft.{DraftState, DraftOf, head_in_draft, IsSealed, SealsMap, MayBeSealed, SealFails}
use Rattle.mr_edit.specs.Drafted.{Drafted}
use Rattle.mr_edit.specs.Shelves.{HasShelfCause}
use Rattle.mr_draft.specs.Sheets.{content_of, page_map_in, zeros, HasUnsealedPages, ArePages, IsFrontOfZeros}
use Rattle.mr_edit.specs.declared.error.EditErr.{EditErr}
use Rattle.mr_draft.proofs.Copies.{content_node, content_free, pages_in}
use Rattle.mr_draft.proofs.Overwrites.{piece_behind, length_replaced}
use Rattle.mr_draft.proofs.Sizes.{first_page, layout_fits, layout_is, page_large, pages_some}
use Rattle.mr_edit.proofs.OwnedOnce.{all_of_owned}
use Rattle.mr_draft.proofs.ZeroPages.{no_content, content_in_zeros, length_zeros}

-- ---- a page of zeros in front

zero_front : (size : ℕ) (held : List ℕ) → take size held ≡ zeros size → held ≡ zeros size ++ drop size held
zero_front size held blank = sym (take-append-drop size held) ∙ ap (λ xs. xs ++ drop size held) blank

-- ---- not sealed yet

module _ (layout : Layout) (sized : layout.size ≡ (layout_by layout.version).size) (hash : List ℕ → List ℕ) where
  front_of : (bytes rest nodes : List ℕ) → zeros layout.size ++ nodes ≡ bytes ++ rest → IsUnsealed hash bytes
  unfolding zeros
  front_of bytes rest nodes e = front_unsealed layout.size (page_large layout sized) hash bytes rest nodes e

  part_of : (h : Head) (front rest held nodes : List ℕ) → held ≡ zeros layout.size ++ nodes →
      length front < layout.size → (form_of layout).head_page h ≡ front ++ rest →
      IsUnsealed hash (replaced 0 front held)
  unfolding zeros
  part_of h front rest held nodes e short whole =
      part_unsealed layout (layout_is layout sized) (layout_fits layout sized) hash (replaced 0 front held) front held
      nodes e short (head_front_says layout h front rest whole) refl

  pub unsealed_front : (bytes : List ℕ) → IsFrontOfZeros layout.size bytes → IsUnsealed hash bytes
  unsealed_front bytes f = front_of bytes f.1 f.0 f.2

  pub unsealed_none : IsUnsealed hash []
  unsealed_none = unsealed_front [] ([], zeros layout.size ++ [], refl)

  pub unsealed_pages : (pages : ℕ) (held : List ℕ) → HasUnsealedPages (form_of layout) pages held → IsUnsealed hash held
  unsealed_pages pages held have =
      unsealed_front held (
        drop layout.size held,
        [],
        sym (zero_front layout.size held (sym (first_page layout.size held) ∙ have.blank)) ∙ sym (append-nil held),
      )

-- ---- the layers of the records on pages

mutual
  -- where each page's node has the layers of a version
  layers_on : (v : Version) (s : Scheme) (on : ℕ → Node → Type 0) → ((p : ℕ) (n : Node) → on p n → IsNode v n) →
      (P : Placed) → IsWritten s on P → AllByRecursion (HasLayer v) (records (tree_of P))
  layers_on v s on fits (stands.Leaf p rs) w =
      subst (AllByRecursion (HasLayer v)) (sym (records-Leaf rs))
      (recursion_from_All (HasLayer v) rs (λ k d within. ((fits p (node.Leaf rs) w).2 k d within).1))
  layers_on v s on fits (stands.Inner p Ps) w =
      subst (AllByRecursion (HasLayer v)) (sym (records_below (trees_of Ps))) (row_layers_on v s on fits Ps w.1)

  row_layers_on : (v : Version) (s : Scheme) (on : ℕ → Node → Type 0) →
      ((p : ℕ) (n : Node) → on p n → IsNode v n) → (Ps : Row) → AreWritten s on Ps →
      AllByRecursion (HasLayer v) (flat_map records (trees_of Ps))
  row_layers_on v s on fits no_more w = tt
  row_layers_on v s on fits (first P Ps) w =
      all_append (HasLayer v) (records (tree_of P)) (flat_map records (trees_of Ps)) (layers_on v s on fits P w.0)
      (row_layers_on v s on fits Ps w.1)

-- ---- the pages are those of a map

page_map_is : (form : Form) (pages : ℕ) (held : List ℕ) (b : PageMap) → page_map_in form pages held ≡ Some b →
    (length held ≡ pages * form.size) × (pages_in form pages held ≡ b)
page_map_is form pages held b e = at (length held == pages * form.size) refl e
  where
    at : (t : Bool) → (length held == pages * form.size) ≡ t →
        (if t then Some (pages_in form pages held) else None) ≡ Some b →
        (length held ≡ pages * form.size) × (pages_in form pages held ≡ b)
    at true test e = (eqb-true (length held) (pages * form.size) test, cc)
    at false test e = absurd cc

module _ (layout : Layout) (room : IsLayout layout) (hash : List ℕ → List ℕ) (pages free : ℕ) (top : Option Child)
    (count batch : ℕ) (t : Tree) (held page : List ℕ) (have : HasUnsealedPages (form_of layout) pages held)
    (d : Drafted (by layout.version hash) (page_map_in (form_of layout) pages held) free top t)
    (well : WellFormed t) (counted : count ≡ length (records t)) (low : batch < 2 ^ 64) where
  abbrev form : Form
  form = form_of layout

  abbrev size : ℕ
  size = layout.size

  abbrev v : Version
  v = layout.version

  abbrev scheme : Scheme
  scheme = by layout.version hash

  is_form : IsForm form
  is_form = form_is layout room

  abbrev head : Head
  head = record {
    batch = batch;
    count = count;
    pages = pages;
    root = option_map child_link top;
    free = free;
  }

  module _ (is : page ≡ form.head_page head) (whole_page : length page ≡ size) where
    abbrev after : List ℕ
    after = replaced 0 page held

    whole : length held ≡ pages * size
    whole = (page_map_is form pages held d.page_map d.is).0

    page_map : pages_in form pages held ≡ d.page_map
    page_map = (page_map_is form pages held d.page_map d.is).1

    size_after : length after ≡ pages * size
    size_after = length_replaced 0 page held
        (omega (arith, whole_page, whole, pages_some pages size have.some)) ∙ whole

    page_after : (q : ℕ) → q ≢ 0 → page_at form after q ≡ page_at form held q
    page_after q some = ap (take size)
        (piece_behind held page (q * size) 0 (omega (arith, whole_page, pages_some q size (omega (arith, some))))
        (omega arith))

    node_held : (p : ℕ) (n : Node) → HasNode d.page_map p n → form.node_in (page_at form held p) ≡ Some n
    node_held p n e =
        sym (content_node form (page_at form held p)) ∙ ap (λ (b : PageMap). (b.content p).node) page_map ∙ e

    free_held : (p g : ℕ) → (d.page_map.content p).free ≡ Some g → form.free_in (page_at form held p) ≡ Some g
    free_held p g e =
        sym (content_free form (page_at form held p)) ∙ ap (λ (b : PageMap). (b.content p).free) page_map ∙ e

    bytes_of : (p : ℕ) → AreBytes (page_at form held p)
    bytes_of p = All-take (λ b. b < 2 ^ 8) size (drop (p * size) held) (All-drop (λ b. b < 2 ^ 8)
        (p * size) held have.are)

    -- no node stands on page 0
    no_first : (n : Node) → HasNode d.page_map 0 n → ⊥
    no_first n e =
        let none : content_of form (page_at form held 0) ≡ no_content = ap (content_of form) have.blank ∙
        zero_content in
        let both : None ≡ Some n =
        sym (ap (λ (s : PageContent). s.node) none) ∙ ap (λ (b : PageMap). (b.content 0).node) page_map ∙ e in
        absurd cc
      where
        zero_content : content_of form (zeros size) ≡ no_content
        zero_content = ap (content_of form) (sym (take_at (zeros size) [] size (length_zeros size))
            ∙ ap (take size) (append-nil (zeros size))) ∙ content_in_zeros layout size 0 size

    node_as : (p : ℕ) (n : Node) → HasNode d.page_map p n → stands.HasNode form after p n
    node_as zero n e = absurd (no_first n e)
    node_as (suc p) n e =
        page_after (suc p) (λ same. omega (arith, same))
        ∙ sym (is_form.nodes.spelled (page_at form held (suc p)) n (bytes_of (suc p)) (node_held
        (suc p) n e)).1

    free_as : (p g : ℕ) → HasFree d.page_map p g → stands.HasFree form after p g
    free_as p g e =
        page_after p (λ same. omega (arith, same, e.0))
        ∙ sym (is_form.frees.spelled (page_at form held p) g (bytes_of p) (free_held p g e.1)).1

    written : (po : Option Placed) → IfSome po (IsWritten scheme (HasNode d.page_map)) →
        IfSome po (IsWritten scheme (stands.HasNode form after))
    written None w = tt
    written (Some P) w = written_as scheme (HasNode d.page_map) (stands.HasNode form after) node_as P w

    sealed_stands : StandsForTree form hash after t batch
    sealed_stands = record {
      head = head;
      size = size_after;
      some = have.some;
      few = have.few;
      sealed = first_page size after ∙ ap (λ n. take n (page ++ drop (0 + length page) held)) (sym whole_page)
          ∙ take_at page (drop (0 + length page) held) (length page) refl ∙ is;
      at_batch = refl;
      batch_fits = low;
      count = counted;
      placed = d.placed;
      root = d.root_is;
      tree = d.tree;
      lies = record {
        written = written d.placed d.written;
        chain = d.chain;
        linked = chain_as (HasFree d.page_map) (stands.HasFree form after) free_as free d.chain d.linked;
        all = all_of_owned pages (whole_pages d.placed ++ d.chain)
            (subst (λ (b : PageMap). OwnsEachOnce b.size (0 ∷ (whole_pages d.placed ++ d.chain))) (sym page_map)
            d.owned);
      };
    }

    -- and their records have the layers of its version
    fits_held : (p : ℕ) (n : Node) → HasNode d.page_map p n → IsNode v n
    fits_held p n e =
        (is_form.nodes.spelled (page_at form held p) n (bytes_of p) (node_held p n e)).0

    layered : (po : Option Placed) → IfSome po (IsWritten scheme (HasNode d.page_map)) →
        HasLayers v (whole_tree po)
    layered None w = All-from_recursion (HasLayer v) (records tree.Empty)
        (subst (AllByRecursion (HasLayer v)) (sym records-Empty) tt)
    layered (Some P) w = All-from_recursion (HasLayer v) (records (tree_of P))
        (layers_on v scheme (HasNode d.page_map) fits_held P w)

    pub sealed_map : IsMap form hash after t batch
    sealed_map = record {
      well = well;
      layers = subst (HasLayers v) d.tree (layered d.placed d.written);
      stands = sealed_stands;
    }

    pub sealed_size : length after ≡ pages * size
    sealed_size = size_after

-- ---- the root digest

some_link : (c : Child) (l : Link) → Some (child_link c) ≡ Some l → child_link c ≡ l
some_link c l e = cc

root_said : (s : Scheme) (top : Option Child) (po : Option Placed) (t : Tree) (count batch : ℕ) →
    option_map child_link top ≡ option_map (link_of s) po → whole_tree po ≡ t →
    count ≡ length (records t) →
    s.of (root_preimage s.version batch count (root_entry top)) ≡ root s t batch
root_said s None None t count batch said same counted =
    let none : length (records t) ≡ 0 = ap (λ u. length (records u)) (sym same) ∙ ap length records-Empty in
    ap (λ n. s.of (root_preimage s.version batch n no_entry)) (counted ∙ none)
    ∙ ap (λ n. s.of (root_preimage s.version batch n (entry s t))) (sym none)
root_said s None (Some P) t count batch said same counted =
    let no : ◌≡◌ {A = Option Link} None (Some (link_of s P)) = said in absurd cc
root_said s (Some c) None t count batch said same counted =
    let no : ◌≡◌ {A = Option Link} (Some (child_link c)) None = said in absurd cc
root_said s (Some c) (Some P) t count batch said same counted =
    let known : child_entry c ≡ entry s t =
    ap (λ (l : Link). l.entry) (some_link c (link_of s P) said) ∙ ap (entry s) same in
    λ i. s.of (root_preimage s.version batch (counted i) (known i))

-- ---- what the calls of a seal leave

-- page 0 was written in part or whole
record FirstPut (told after : Option Files) (name front : List ℕ) : Type 0 where
  bytes : List ℕ
  files : IsChanged (with_file name) bytes told after
  held : (xs : List ℕ) → told_bytes told name ≡ Some xs → bytes ≡ replaced 0 front xs
  none : told ≡ None → bytes ≡ []

first_put : (told after : Option Files) (name front : List ℕ) →
    MatchOption told ⊤ (λ files. IsSome (file files name)) → IsChanged (overwritten name 0) front told after →
    FirstPut told after name front
first_put None after name front there put = record {
  bytes = [];
  files = put;
  held = λ xs e. let no : ◌≡◌ {A = Option (List ℕ)} None (Some xs) = e in absurd cc;
  none = λ e. refl;
}
first_put (Some files) after name front there put = at (file files name) refl there
  where
    at : (o : Option (List ℕ)) → file files name ≡ o → IsSome o → FirstPut (Some files) after name front
    at None found some = let none : IsSome {T = List ℕ} None = some in absurd cc
    at (Some xs) found some = record {
      bytes = replaced 0 front xs;
      files = put ∙ ap Some (with_change-found name (replaced 0 front) files xs found);
      held = λ ys e. ap (replaced 0 front) (let same : xs ≡ ys = cc (found, e) in same);
      none = λ e. let no : ◌≡◌ {A = Option Files} (Some files) None = e in absurd cc;
    }

module _ (hash : List ℕ → List ℕ) (d : DraftState) (sized : d.layout.size ≡ (layout_by d.layout.version).size)
    (page : List ℕ) (low : d.batch < 2 ^ 64) (is : page ≡ (form_of d.layout).head_page (head_in_draft d))
    (size : length page ≡ d.layout.size) (are : ArePages (form_of d.layout) d.shelf.files d.name d.pages) where
  abbrev of_form : Form
  of_form = form_of d.layout

  abbrev of_scheme : Scheme
  of_scheme = by d.layout.version hash

  fits : IsLayout d.layout
  fits = layout_fits d.layout sized

  pages_told : (xs : List ℕ) → told_bytes d.shelf.files d.name ≡ Some xs → HasUnsealedPages of_form d.pages xs
  pages_told xs e = subst (λ o. IfSome o (HasUnsealedPages of_form d.pages)) e are.have

  sealed_at : (xs : List ℕ) → told_bytes d.shelf.files d.name ≡ Some xs → (t : Tree) → DraftOf hash d t →
      IsSealed hash d t (replaced 0 page xs)
  sealed_at xs e t of =
      let have = pages_told xs e in
      let draft : Drafted of_scheme (page_map_in of_form d.pages xs) d.free d.root t =
      subst (λ o. Drafted of_scheme o d.free d.root t) (ap (option_and_then (page_map_in of_form d.pages)) e)
      of.drafted in
      record {
        map = sealed_map d.layout fits hash d.pages d.free d.root d.count d.batch t xs page have draft of.well
            of.counted
            low is size;
        size = sealed_size d.layout fits hash d.pages d.free d.root d.count d.batch t xs page have draft of.well
            of.counted
            low is size;
      }

  -- a file that is not told has no draft on it
  none_told : (t : Tree) → DraftOf hash d t → told_bytes d.shelf.files d.name ≡ None → ⊥
  none_told t of e =
      let no : None ≡ Some of.drafted.page_map =
      sym (ap (option_and_then (page_map_in of_form d.pages)) e) ∙ of.drafted.is in
      absurd cc

  sealed_any : (o : Option (List ℕ)) → told_bytes d.shelf.files d.name ≡ o → (bytes : List ℕ) →
      ((xs : List ℕ) → told_bytes d.shelf.files d.name ≡ Some xs → bytes ≡ replaced 0 page xs) →
      (t : Tree) → DraftOf hash d t → IsSealed hash d t bytes
  sealed_any None e bytes held t of = absurd (none_told t of e)
  sealed_any (Some xs) e bytes held t of =
      subst (IsSealed hash d t) (sym (held xs e)) (sealed_at xs e t of)

  pub seals : (digest : List ℕ) (after : Shelved) → IsChanged (overwritten d.name 0) page d.shelf.files after.files →
      after.faults ≡ d.shelf.faults →
      digest ≡ hash (root_preimage d.layout.version d.batch d.count (root_entry d.root)) →
      SealsMap hash d digest after
  seals digest after put quiet said =
      let f = first_put d.shelf.files after.files d.name page are.there put in
      record {
        bytes = f.bytes;
        files = f.files;
        map = λ t of. sealed_any (told_bytes d.shelf.files d.name) refl f.bytes f.held t of;
        digest_is = λ t of. said
            ∙ root_said of_scheme d.root of.drafted.placed t d.count d.batch of.drafted.root_is of.drafted.tree
            of.counted;
        quiet = quiet;
      }

  may_be : (front rest : List ℕ) → page ≡ front ++ rest → (o : Option (List ℕ)) →
      told_bytes d.shelf.files d.name ≡ o → (bytes : List ℕ) →
      ((xs : List ℕ) → told_bytes d.shelf.files d.name ≡ Some xs → bytes ≡ replaced 0 front xs) →
      (told_bytes d.shelf.files d.name ≡ None → bytes ≡ []) → MayBeSealed hash d bytes
  may_be front rest whole None e bytes held none =
      inl (subst (IsUnsealed hash) (sym (none e)) (unsealed_none d.layout sized hash))
  may_be front rest whole (Some xs) e bytes held none = elim (cases_lt (length front) d.layout.size) [
    | inl short ↦
        inl (subst (IsUnsealed hash) (sym (held xs e))
        (part_of d.layout sized hash (head_in_draft d) front rest xs (drop d.layout.size xs)
        (zero_front d.layout.size xs (sym (first_page d.layout.size xs) ∙ (pages_told xs e).blank)) short
        (sym is ∙ whole)))
    | inr long ↦
        let all : page ≡ front = whole_front front rest whole (omega (
          arith,
          long,
          size,
          ap length whole,
          length-append front rest,
        )) in
        inr (λ t of. sealed_any (Some xs) e bytes (λ ys e'. held ys e' ∙ ap (λ p. replaced 0 p ys) (sym all)) t of)
  ]
    where
      none_of : (ys : List ℕ) → length ys ≡ 0 → ys ≡ []
      none_of [] e = refl
      none_of (y ∷ ys) e = absurd (omega (arith, e))

      whole_front : (front rest : List ℕ) → page ≡ front ++ rest → length rest ≡ 0 → page ≡ front
      whole_front front rest whole e = whole ∙ ap (λ ys. front ++ ys) (none_of rest e) ∙ append-nil front

  pub seal_fails : (after : Shelved) (e : EditErr) → IsChangedPartly
      (overwritten d.name 0) page d.shelf.files after.files →
      HasShelfCause d.shelf.faults after.faults e → d.shelf.faults ≤ after.faults → SealFails hash d after e
  seal_fails after e p cause later =
      let f = first_put d.shelf.files after.files d.name p.front are.there p.changed in
      record {
        left = inr (
          f.bytes,
          may_be p.front p.rest p.whole (told_bytes d.shelf.files d.name) refl f.bytes f.held
              (λ none. f.none (untold d.shelf.files are.there none)),
          f.files,
        );
        cause = cause;
        later = later;
      }
    where
      untold : (o : Option Files) → MatchOption o ⊤ (λ files. IsSome (file files d.name)) → told_bytes o d.name ≡ None →
          o ≡ None
      untold None there e = refl
      untold (Some files) there e =
          let none : IsSome {T = List ℕ} None = subst (IsSome {T = List ℕ}) e there in absurd cc

-- page 0 says how many pages there are
pub head_pages : (h : MapHead) (pages : ℕ) → h.pages ≡ pages → head_of h ≡ record {
  batch = h.batch;
  count = h.count;
  pages = pages;
  root = option_map child_link h.root;
  free = h.free;
}
head_pages h pages same = λ i. record {
  batch = h.batch;
  count = h.count;
  pages = same i;
  root = option_map child_link h.root;
  free = h.free;
}

-- nothing was written
pub none_written : (name : List ℕ) (page : List ℕ) (told end : Option Files) → end ≡ told →
    IsChangedPartly (overwritten name 0) page told end
none_written name page told end same = record {
  front = [];
  rest = page;
  whole = refl;
  changed = same ∙ at told;
}
  where
    at : (o : Option Files) → o ≡ option_map (overwritten name 0 []) o
    at None = refl
    at (Some files) = ap Some (sym (overwritten-none name 0 files))
