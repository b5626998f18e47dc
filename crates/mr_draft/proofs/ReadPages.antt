-- What a page that was read says of the pages of a file that is told.
use Rattle.std.proofs.Common.{◌≡◌, ℕ, ◌*◌, ◌<◌, ◌≤◌, Bool, true, false, List, length, refl, sym, ap, subst, ◌∙◌, arith}
use Rattle.std.specs.Prelude.{⊤, ◌==◌, if◌then◌else◌, Option, Some, None, IfSome, IsSomeAnd, MatchOption}
use Rattle.std.specs.Option.{option_and_then}
use Rattle.std.proofs.lemmas.Bool.{eqb-true}
use Rattle.mr_outside.specs.Files.{Files}
use Rattle.mr_outside.specs.Told.{OfFile}
use Rattle.mr_pages.specs.declared.layout.Layout.{Layout}
use Rattle.mr_pages.specs.Page.{Form, Node}
use Rattle.mr_pages.specs.PageBytes.{form_of}
use Rattle.mr_pages.specs.File.{file_of, page_at}
use Rattle.mr_pages.specs.Source.{TellsPage, told_bytes}
use Rattle.mr_pages.specs.Walking.{page_node}
use Rattle.mr_store.specs.Again as again
use Rattle.mr_tree.specs.View as view
use Rattle.mr_edit.specs.PageMap.{PageContent, PageMap, HasNode, HasFree}
use Rattle.mr_draft.specs.Sheets.{content_of, page_map_in, page_map_on, HasUnsealedPages, ArePages}
use Rattle.mr_draft.proofs.Copies.{content_node, content_free, pages_in}
use Rattle.mr_draft.proofs.ZeroPages.{no_content, content_behind}

-- so many pages, where they are told
pub record IsPageMap (form : Form) (pages : ℕ) (bytes : List ℕ) (b : PageMap) : Type 0 where
  pub whole : length bytes ≡ pages * form.size
  pub is : pages_in form pages bytes ≡ b

pub is_page_map : (form : Form) (pages : ℕ) (bytes : List ℕ) (b : PageMap) → page_map_in form pages bytes ≡ Some b →
    IsPageMap form pages bytes b
is_page_map form pages bytes b e = at (length bytes == pages * form.size) refl e
  where
    at : (t : Bool) → (length bytes == pages * form.size) ≡ t →
        (if t then Some (pages_in form pages bytes) else None) ≡ Some b →
        IsPageMap form pages bytes b
    at true test e = record { whole = eqb-true (length bytes) (pages * form.size) test; is = cc }
    at false test e = absurd cc

module _ (layout : Layout) (told : Option Files) (name : List ℕ) (pages : ℕ) where
  abbrev form : Form
  form = form_of layout

  -- the bytes of the pages that are told
  pub record Told (b : PageMap) : Type 0 where
    pub bytes : List ℕ
    pub found : told_bytes told name ≡ Some bytes
    pub page_map : IsPageMap form pages bytes b

  pub told_page_map : (b : PageMap) → page_map_on form told name pages ≡ Some b → Told b
  told_page_map b e = at (told_bytes told name) refl e
    where
      at : (o : Option (List ℕ)) → told_bytes told name ≡ o → option_and_then (page_map_in form pages) o ≡ Some b →
          Told b
      at None found e = absurd cc
      at (Some bytes) found e = record { bytes = bytes; found = found; page_map = is_page_map form pages bytes b e }

  pub page_map_size : (b : PageMap) → page_map_on form told name pages ≡ Some b → b.size ≡ pages
  page_map_size b e = sym (ap (λ (x : PageMap). x.size) (told_page_map b e).page_map.is)

  -- a page behind the end is neither a node nor free
  pub none_behind : (b : PageMap) → page_map_on form told name pages ≡ Some b → (q : ℕ) → pages ≤ q → b.content q ≡
      no_content
  none_behind b e q past =
      let t = told_page_map b e in
      sym (ap (λ (x : PageMap). x.content q) t.page_map.is) ∙ content_behind layout t.bytes pages t.page_map.whole
      q past

  of_file : (P : List ℕ → Type 0) → OfFile told name ⊥ P → (bytes : List ℕ) → told_bytes told name ≡ Some bytes →
      P bytes
  of_file P h bytes e = at told h e
    where
      at : (o : Option Files) → OfFile o name ⊥ P → told_bytes o name ≡ Some bytes → P bytes
      at None h e = let no : ◌≡◌ {A = Option (List ℕ)} None (Some bytes) = e in absurd cc
      at (Some files) h e = subst (λ x. MatchOption x ⊥ P) e h

  pub read_content : (page : ℕ) (p : List ℕ) → page < pages → OfFile told name ⊥ (TellsPage form page p) →
      IfSome (page_map_on form told name pages) (λ b. b.content page ≡ content_of form p)
  read_content page p within h = at (page_map_on form told name pages) refl
    where
      at : (o : Option PageMap) → page_map_on form told name pages ≡ o → IfSome o
          (λ b. b.content page ≡ content_of form p)
      at None e = tt
      at (Some b) e =
          let t = told_page_map b e in
          sym (ap (λ (x : PageMap). x.content page) t.page_map.is)
          ∙ ap (content_of form) (sym (of_file (TellsPage form page p) h t.bytes t.found pages t.page_map.whole within))

  pub of_there : (P : List ℕ → Type 0) → OfFile told name ⊤ P → (bytes : List ℕ) → told_bytes told name ≡ Some bytes →
      P bytes
  of_there P h bytes e = at told h e
    where
      at : (o : Option Files) → OfFile o name ⊤ P → told_bytes o name ≡ Some bytes → P bytes
      at None h e = let no : ◌≡◌ {A = Option (List ℕ)} None (Some bytes) = e in absurd cc
      at (Some files) h e = subst (λ x. MatchOption x ⊤ P) e h

  -- the node on a page, by the bytes of the file
  pub node_of_page : (b : PageMap) (page : ℕ) (m : Node) (e : page_map_on form told name pages ≡ Some b) →
      HasNode b page m → (file_of form (told_page_map b e).bytes).node page ≡ Some m
  node_of_page b page m e has =
      let t = told_page_map b e in
      sym (content_node form (page_at form t.bytes page))
      ∙ ap (λ (x : PageMap). (x.content page).node) t.page_map.is ∙ has

  -- and of a node that was read
  pub node_as_read : (page : ℕ) (n : view.Node) → page < pages →
      OfFile told name ⊤ (again.HasNode form pages page n) →
      IfSome (page_map_on form told name pages) (λ b. HasNode b page (page_node n))
  node_as_read page n within h = at (page_map_on form told name pages) refl
    where
      at : (o : Option PageMap) → page_map_on form told name pages ≡ o → IfSome o (λ b. HasNode b page (page_node n))
      at None e = tt
      at (Some b) e =
          let t = told_page_map b e in
          sym (ap (λ (x : PageMap). (x.content page).node) t.page_map.is)
          ∙ content_node form (page_at form t.bytes page)
          ∙ of_there (again.HasNode form pages page n) h t.bytes t.found t.page_map.whole within

-- ---- free pages

pub read_next : (form : Form) (told : Option PageMap) (page : ℕ) (p : List ℕ) (next : ℕ) → 1 ≤ page →
    IfSome told (λ b. b.content page ≡ content_of form p) → Some next ≡ form.free_in p →
    IfSome told (λ b. HasFree b page next)
read_next f None page p next low content is = tt
read_next f (Some b) page p next low content is =
    (low, ap (λ (s : PageContent). s.free) content ∙ content_free f p ∙ sym is)

pub no_next : (form : Form) (told : Option PageMap) (page : ℕ) (p : List ℕ) →
    IfSome told (λ b. b.content page ≡ content_of form p) →
    None ≡ form.free_in p → IsSomeAnd told (λ b. (next : ℕ) × HasFree b page next) → ⊥
no_next f None page p content is can = can
no_next f (Some b) page p content is can =
    let both : None ≡ Some can.0 = is ∙ sym (content_free f p) ∙ sym (ap (λ (s : PageContent). s.free) content) ∙
    can.1.1 in
    absurd cc

pub no_next_behind : (told : Option PageMap) (pages page : ℕ) →
    ((b : PageMap) → told ≡ Some b → (q : ℕ) → pages ≤ q → b.content q ≡ no_content) → pages ≤ page →
    IsSomeAnd told (λ b. (next : ℕ) × HasFree b page next) → ⊥
no_next_behind None pages page behind past can = can
no_next_behind (Some b) pages page behind past can =
    let both : None ≡ Some can.0 = sym (ap (λ (s : PageContent). s.free) (behind b refl page past)) ∙ can.1.1 in
    absurd cc

-- ---- the number of pages

pub last_page : (layout : Layout) (told : Option Files) (name : List ℕ) (pages : ℕ) →
    IfSome (page_map_on (form_of layout) told name pages) (λ b. pages ≡ b.size)
last_page layout told name pages = at (page_map_on (form_of layout) told name pages) refl
  where
    at : (o : Option PageMap) → page_map_on (form_of layout) told name pages ≡ o → IfSome o (λ b. pages ≡ b.size)
    at None e = tt
    at (Some b) e = sym (page_map_size layout told name pages b e)

pub none_paged : (form : Form) (told : Option Files) (name : List ℕ) (pages : ℕ) (P : PageMap → Type 0) →
    ArePages form told name pages → pages ≡ 0 → IsSomeAnd (page_map_on form told name pages) P → ⊥
none_paged form told name pages P are zero_pages can = at (told_bytes told name) are.have can
  where
    at : (o : Option (List ℕ)) → IfSome o (HasUnsealedPages form pages) →
        IsSomeAnd (option_and_then (page_map_in form pages) o) P → ⊥
    at None have can = can
    at (Some bytes) have can = omega (arith, have.some, zero_pages)
