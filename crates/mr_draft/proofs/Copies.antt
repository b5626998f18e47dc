-- What a copy of a map's file has on its pages: the draft over it is of the map's tree.
use Rattle.std.proofs.Common.{◌≡◌, ◌≢◌, ℕ, ◌+◌, ◌-◌, ◌*◌, ◌<◌, ◌≤◌, ◌^◌, List, [], ◌∷◌, ◌++◌, length, take, drop, refl, sym, ap, subst, ◌∙◌, length-append, length-drop, arith}
use Rattle.std.specs.Prelude.{if◌then◌else◌, max, Contains, Option, Some, None, option_map, IfSome, IsSome}
use Rattle.std.specs.Option.{option_and_then}
use Rattle.std.proofs.lemmas.Bool.{eq-eqb}
use Rattle.std.proofs.lemmas.List.{drop-drop, take_at, take_all}
use Rattle.std.proofs.lemmas.List.Elements.{All-append, All-drop}
use Rattle.std.proofs.Math.Seq.{drop-append-add}
use Rattle.lru.proofs.Splits.{Contains-nil}
use Rattle.mr_outside.specs.Files.{Files, with_file}
use Rattle.mr_outside.specs.State.{Shelved}
use Rattle.mr_outside.specs.Writing.{IsChanged}
use Rattle.mr_outside.proofs.Changes.{file-with_file}
use Rattle.mr_tree.specs.Digest.{Scheme, by}
use Rattle.mr_pages.specs.declared.layout.Layout.{Layout}
use Rattle.mr_pages.specs.Page.{Form, IsForm, page_limit}
use Rattle.mr_pages.specs.PageBytes.{form_of, IsLayout}
use Rattle.mr_pages.specs.File.{file_of, page_at}
use Rattle.mr_pages.specs.Source.{told_bytes}
use Rattle.mr_pages.specs.Stands.{Placed, IsWritten, IsChain, AreAllPages, pages_of, whole_tree, whole_pages}
use Rattle.mr_pages.specs.Walking.{head_of}
use Rattle.mr_pages.specs.declared.head.MapHead.{MapHead}
use Rattle.mr_pages.proofs.Agreement.{head_read, written_as}
use Rattle.mr_pages.proofs.Building.{IsRead}
use Rattle.mr_pages.proofs.Chains.{ReadsChain}
use Rattle.mr_pages.proofs.HeadLaws.{form_is}
use Rattle.mr_store.specs.Kept.{CacheEntries, room}
use Rattle.mr_store.specs.private.Laws.{opened}
use Rattle.mr_store.specs.Stored.{IsOpen, IsStored, nodes_on_pages, read_map}
use Rattle.mr_edit.specs.PageMap.{PageContent, PageMap, HasNode, HasFree, OwnsEachOnce, count_in}
use Rattle.mr_draft.specs.Draft.{DraftState, DraftOf}
use Rattle.mr_edit.specs.Drafted.{Drafted}
use Rattle.mr_draft.specs.Sheets.{content_of, page_map_in, page_map_on, zeros, HasUnsealedPages, ArePages, AreOn, AreKept, HasCopied, IsFiled}
use Rattle.mr_draft.proofs.Copied.{set_there}
use Rattle.mr_edit.proofs.Frame.{frame, count_in-append, times_first, times_rest}
use Rattle.mr_edit.proofs.OwnedOnce.{owned_of_all}
use Rattle.mr_edit.proofs.Places.{apart}
use Rattle.mr_draft.proofs.Sizes.{first_page, pages_behind, pages_some}
use Rattle.mr_draft.proofs.ZeroPages.{length_zeros, bytes_zeros}

pub content_node : (form : Form) (page : List ℕ) → (content_of form page).node ≡ form.node_in page
unfolding content_of
content_node form page = refl

pub content_free : (form : Form) (page : List ℕ) → (content_of form page).free ≡ form.free_in page
unfolding content_of
content_free form page = refl

-- so many pages of these bytes
abbrev pub pages_in : Form → ℕ → List ℕ → PageMap
pages_in form pages bytes = record { size = pages; content = λ p. content_of form (page_at form bytes p) }

pub page_map_whole : (form : Form) (pages : ℕ) (bytes : List ℕ) → length bytes ≡ pages * form.size →
    page_map_in form pages bytes ≡ Some (pages_in form pages bytes)
page_map_whole form pages bytes whole =
    ap (λ b. if b then Some (pages_in form pages bytes) else None)
    (eq-eqb (length bytes) (pages * form.size) whole)

-- ---- the bytes of a copy

abbrev copy_of : (size : ℕ) → List ℕ → List ℕ
copy_of size bytes = zeros size ++ drop size bytes

copy_page : (form : Form) (bytes : List ℕ) (q : ℕ) → q ≢ 0 →
    page_at form (copy_of form.size bytes) q ≡ page_at form bytes q
copy_page form bytes q some =
    let size : ℕ = form.size in
    let least : size ≤ q * size = pages_some q size (omega (arith, some)) in
    let more : ℕ = q * size - size in
    let at : q * size ≡ length (zeros size) + more = omega (arith, least, length_zeros size) in
    let there : size + more ≡ q * size = omega (arith, least) in
    ap (λ k. take size (drop k (copy_of size bytes))) at
    ∙ ap (take size) (drop-append-add (zeros size) (drop size bytes) more)
    ∙ ap (take size) (drop-drop more size bytes)
    ∙ ap (λ k. take size (drop k bytes)) there

module _ (layout : Layout) (fits : IsLayout layout) (hash : List ℕ → List ℕ) (h : MapHead) (es : CacheEntries)
    (bytes : List ℕ) (op : IsOpen (form_of layout) hash h es bytes) where
  abbrev form : Form
  form = form_of layout

  abbrev size : ℕ
  size = layout.size

  abbrev scheme : Scheme
  scheme = by layout.version hash

  is_form : IsForm form
  is_form = form_is layout fits

  abbrev copy : List ℕ
  copy = copy_of size bytes

  record Spans : Type 0 where
    whole : length bytes ≡ h.pages * size
    some : 1 ≤ h.pages
    few : h.pages ≤ page_limit

  spans : Spans
  spans =
      let o = opened form is_form hash h es bytes op in
      let head = head_read form is_form bytes op.are (head_of h) op.head in
      record {
        whole = o.whole;
        some = omega (arith, head.whole.some, head.same);
        few = omega (arith, head.whole.few, head.same);
      }

  length_copy : length (copy) ≡ h.pages * size
  length_copy = omega (
    arith,
    spans.whole,
    pages_some h.pages size spans.some,
    length-append (zeros size) (drop size bytes),
    length_zeros size,
    length-drop size bytes,
  )

  pub has_copy : HasUnsealedPages form h.pages (copy)
  has_copy = record {
    some = spans.some;
    few = spans.few;
    are = All-append (λ b. b < 2 ^ 8) (zeros size) (drop size bytes) (bytes_zeros size)
        (All-drop (λ b. b < 2 ^ 8) size bytes op.are);
    long = omega (arith, length_copy);
    blank = first_page size copy ∙ take_at (zeros size) (drop size bytes) size (length_zeros size);
  }

  pub whole_nodes : (nodes : List ℕ) → nodes ≡ take ((max 1 h.pages - 1) * size) (drop size bytes) →
      nodes ≡ drop size bytes
  whole_nodes nodes e =
      let most : max 1 h.pages ≡ h.pages = omega (arith, spans.some) in
      e ∙ take_all ((max 1 h.pages - 1) * size) (drop size bytes)
      (omega (
        arith,
        spans.whole,
        pages_behind h.pages size spans.some,
        ap (λ n. (n - 1) * size) most,
        length-drop size bytes,
      ))

  pub whole_copy : (nodes : List ℕ) → nodes ≡ take ((max 1 h.pages - 1) * size) (drop size bytes) →
      zeros size ++ nodes ≡ copy
  whole_copy nodes e = ap (λ xs. zeros size ++ xs) (whole_nodes nodes e)

  -- ---- the draft over it

  reads_as : (po : Option Placed) → IfSome po (IsRead scheme (file_of form bytes).node) →
      IfSome po (IsWritten scheme (HasNode (pages_in form h.pages bytes)))
  reads_as None w = tt
  reads_as (Some P) w =
      written_as scheme (λ p n. (file_of form bytes).node p ≡ Some n) (HasNode (pages_in form h.pages bytes))
      (λ p n e. content_node form (page_at form bytes p) ∙ e) P w

  abbrev new : PageMap
  new = pages_in form h.pages (copy)

  same_content : (q : ℕ) → q ≢ 0 → new.content q ≡ (pages_in form h.pages bytes).content q
  same_content q some = ap (content_of form) (copy_page form bytes q some)

  copied_as : (po : Option Placed) (chain : List ℕ) → OwnsEachOnce h.pages (0 ∷ (whole_pages po ++ chain)) →
      IfSome po (IsWritten scheme (HasNode (pages_in form h.pages bytes))) →
      IfSome po (IsWritten scheme (HasNode new))
  copied_as None chain owned w = tt
  copied_as (Some P) chain owned w =
      frame scheme (pages_in form h.pages bytes) new P
      (λ q there. same_content q (apart h.pages 0 (pages_of P ++ chain) q owned
      (omega (arith, there, count_in-append q (pages_of P) chain)))) w

  chain_as : (f : ℕ) (ps : List ℕ) → ((q : ℕ) → 0 < count_in q ps → q ≢ 0) →
      ReadsChain (file_of form bytes).free f ps → IsChain (HasFree new) f ps
  chain_as f [] low c = c
  chain_as f (p ∷ ps) low c =
      let some : p ≢ 0 = low p (times_first p ps) in (
        c.0,
        c.1,
        (
          omega (arith, some),
          ap (λ (s : PageContent). s.free) (same_content p some) ∙ content_free form (page_at form bytes p) ∙ c.2,
        ),
        chain_as c.0 ps (λ q there. low q (times_rest q p ps there)) c.3,
      )

  pub drafted : (told : Option PageMap) → told ≡ Some new →
      Drafted scheme told h.free h.root (whole_tree (nodes_on_pages form h bytes))
  drafted told is =
      let r = (opened form is_form hash h es bytes op).reads in
      let head = head_read form is_form bytes op.are (head_of h) op.head in
      let po = nodes_on_pages form h bytes in
      let owned : OwnsEachOnce h.pages (0 ∷ (whole_pages po ++ r.lies.chain)) =
      owned_of_all h.pages (whole_pages po ++ r.lies.chain) spans.some
      (subst (λ n. AreAllPages n (whole_pages po ++ r.lies.chain)) (sym head.same) r.lies.all) in
      record {
        page_map = new;
        is = is;
        placed = po;
        tree = refl;
        root_is = r.root;
        written = copied_as po r.lies.chain owned (reads_as po r.lies.written);
        chain = r.lies.chain;
        linked = chain_as h.free r.lies.chain
            (λ q there. apart h.pages 0 (whole_pages po ++ r.lies.chain) q owned
            (omega (arith, there, count_in-append q (whole_pages po) r.lies.chain))) r.lies.linked;
        owned = owned;
      }

-- ---- the copy of a map that was opened

set_bytes : (name bytes : List ℕ) (told after : Option Files) (files : Files) → told ≡ Some files →
    IsChanged (with_file name) bytes told after → told_bytes after name ≡ Some bytes
set_bytes name bytes told after files is put =
    ap (λ o. told_bytes o name) (put ∙ ap (option_map (with_file name bytes)) is) ∙ file-with_file name bytes files

module _ (layout : Layout) (fits : IsLayout layout) (hash : List ℕ → List ℕ) (h : MapHead) (es : CacheEntries) (cap : ℕ)
    (old name : List ℕ) (before after : Shelved) (store : IsStored (form_of layout) hash before.files old h es cap)
    (c : HasCopied (form_of layout) old name h.pages (max 1 h.pages) before after) where
  abbrev the_form : Form
  the_form = form_of layout

  abbrev long : ℕ
  long = layout.size

  abbrev Opened : List ℕ → Type 0
  Opened bytes = IsOpen the_form hash h es bytes

  -- the bytes of the copy, where they are told
  record Told (bytes : List ℕ) : Type 0 where
    there : told_bytes after.files name ≡ Some (copy_of long bytes)

  told_at : (files : Files) → before.files ≡ Some files → (bytes : List ℕ) → told_bytes before.files old ≡ Some bytes →
      Opened bytes → Told bytes
  told_at files is bytes found op = record {
    there = set_bytes name (zeros long ++ c.nodes) before.files after.files files is c.files
        ∙ ap Some (whole_copy layout fits hash h es bytes op c.nodes
        (c.so_far bytes found (spans layout fits hash h es bytes op).whole));
  }

  -- each page but page 0 is as before
  same_at : (o : Option (List ℕ)) → told_bytes before.files old ≡ o → IfSome o Opened →
      IfSome o (λ was. c.nodes ≡ drop long was)
  same_at None found op = tt
  same_at (Some bytes) found op =
      whole_nodes layout fits hash h es bytes op c.nodes
      (c.so_far bytes found (spans layout fits hash h es bytes op).whole)

  pub copy_same : IfSome (told_bytes before.files old) (λ was. c.nodes ≡ drop long was)
  copy_same = same_at (told_bytes before.files old) refl store.open_

  have_at : (files : Option Files) → before.files ≡ files → (o : Option (List ℕ)) → told_bytes before.files old ≡ o →
      IfSome o Opened → IsFiled files old → IfSome (told_bytes after.files name) (HasUnsealedPages the_form h.pages)
  have_at None is o found op there =
      subst (λ x. IfSome x (HasUnsealedPages the_form h.pages))
      (sym (ap (λ x. told_bytes x name)
      (c.files ∙ ap (option_map (with_file name (zeros long ++ c.nodes))) is))) tt
  have_at (Some files) is None found op there =
      let none : IsSome {T = List ℕ} None =
      subst (IsSome {T = List ℕ}) (ap (λ x. told_bytes x old) (sym is) ∙ found) there in absurd cc
  have_at (Some files) is (Some bytes) found op there =
      subst (λ x. IfSome x (HasUnsealedPages the_form h.pages)) (sym (told_at files is bytes found op).there)
      (has_copy layout fits hash h es bytes op)

  pub copy_pages : ArePages the_form after.files name h.pages
  copy_pages = record {
    there = set_there name (zeros long ++ c.nodes) before.files after.files c.files;
    have = have_at before.files refl (told_bytes before.files old) refl store.open_ store.there;
  }

  abbrev pub the_draft : DraftState
  the_draft = record {
    shelf = after;
    name = name;
    layout = layout;
    pages = h.pages;
    free = h.free;
    root = h.root;
    count = h.count;
    batch = h.batch;
  }

  pub copy_draft : IfSome (read_map the_form h (told_bytes before.files old)).tree
      (DraftOf hash the_draft)
  copy_draft = at before.files refl (told_bytes before.files old) refl store.open_ store.there
    where
      of_bytes : (files : Files) → before.files ≡ Some files → (bytes : List ℕ) →
          told_bytes before.files old ≡ Some bytes → Opened bytes →
          DraftOf hash the_draft (whole_tree (nodes_on_pages the_form h bytes))
      of_bytes files is bytes found op =
          let r = (opened the_form (form_is layout fits) hash h es bytes op).reads in
          record {
            drafted = drafted layout fits hash h es bytes op (page_map_on the_form after.files name h.pages)
                (ap (option_and_then (page_map_in the_form h.pages)) (told_at files is bytes found op).there
                ∙ page_map_whole the_form h.pages (copy_of long bytes) (length_copy layout fits hash h es bytes op));
            well = r.well;
            counted = r.count;
          }

      at : (files : Option Files) → before.files ≡ files → (o : Option (List ℕ)) → told_bytes before.files old ≡ o →
          IfSome o Opened → IsFiled files old → IfSome (read_map the_form h o).tree
          (DraftOf hash the_draft)
      at files is None found op there = tt
      at None is (Some bytes) found op there =
          let no : ◌≡◌ {A = Option (List ℕ)} None (Some bytes) = ap (λ x. told_bytes x old) (sym is) ∙ found in
          absurd cc
      at (Some files) is (Some bytes) found op there = of_bytes files is bytes found op

-- nothing is kept yet
pub none_kept : (s : Scheme) (told : Option PageMap) (es : CacheEntries) (cap : ℕ) → es ≡ [] → cap ≡ room →
    AreKept s told es cap
none_kept s told es cap none is = record {
  cap_is = is;
  each = λ e there. absurd (Contains-nil e (subst (λ xs. Contains xs e) none there));
  on = at told;
}
  where
    at : (o : Option PageMap) → IfSome o (AreOn es)
    at None = tt
    at (Some b) = λ e there. absurd (Contains-nil e (subst (λ xs. Contains xs e) none there))
