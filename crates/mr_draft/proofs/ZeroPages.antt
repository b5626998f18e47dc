-- What is read of zeros: no node, and no free page; and what of the pages that spell these.
use Rattle.std.proofs.Common.{◌≡◌, ℕ, zero, suc, ◌+◌, ◌*◌, ◌-◌, ◌<◌, ◌≤◌, ◌^◌, Bool, true, false, List, [], ◌∷◌, ◌++◌, length, take, drop, replicate, inl, inr, refl, sym, ap, ◌∙◌, append-nil, add-one, length-append, length-drop, arith}
use Rattle.std.specs.Prelude.{◌==◌, if◌then◌else◌, Option, Some, None, option_map}
use Rattle.std.proofs.lemmas.Bool.{cases_lt, eq-eqb, eqb-true, ne_eqb}
use Rattle.std.proofs.lemmas.List.{take-append-le, drop-append-le, drop-replicate, drop_all, length-replicate}
use Rattle.std.proofs.lemmas.List.Elements.{All-append, All-nil, All-cons}
use Rattle.std.proofs.Math.Seq.{drop-append-add}
use Rattle.mr_outside.specs.Bytes.{AreBytes}
use Rattle.mr_tree.specs.declared.tree.Tree.TheOpen.{Empty, Leaf, Inner}
use Rattle.mr_pages.specs.declared.layout.Layout.{Layout}
use Rattle.mr_pages.specs.Page.{Form, Node, IsNode, page_limit}
use Rattle.mr_pages.specs.PageBytes.{form_of, IsLayout, node_in, node_page, free_in, free_page}
use Rattle.mr_pages.specs.File.{page_at}
use Rattle.mr_pages.proofs.HeadLaws.{free_again}
use Rattle.mr_pages.proofs.PageLaws.{node_again}
use Rattle.mr_edit.specs.PageMap.{PageContent, PageMap, node_content, free_content, longer}
use Rattle.mr_draft.specs.Sheets.{content_of, page_map_in, zeros, HasUnsealedPages, LosesPages}
use Rattle.mr_draft.proofs.Sizes.{no_pages, pages_most, pages_next, pages_some, pages_within}

-- what is neither
abbrev pub no_content : PageContent
no_content = record { node = None; free = None }

none_both : (b : Bool) → ◌≡◌ {A = Option Node} (if b then None else None) None
none_both true = refl
none_both false = refl

-- ---- the first byte tells

node_of_zero : (layout : Layout) (rest : List ℕ) → node_in layout (0 ∷ rest) ≡ None
node_of_zero layout rest = none_both (length (0 ∷ rest) == layout.size)

node_of_none : (layout : Layout) → node_in layout [] ≡ None
node_of_none layout = none_both (length {A = ℕ} [] == layout.size)

node_of_free : (layout : Layout) (size next : ℕ) → node_in layout (free_page size next) ≡ None
node_of_free layout size next = none_both (length (free_page size next) == layout.size)

free_of_zero : (size : ℕ) (rest : List ℕ) → free_in size (0 ∷ rest) ≡ None
free_of_zero size rest = refl

free_of_none : (size : ℕ) → free_in size [] ≡ None
free_of_none size = refl

free_of_node : (size : ℕ) (layout : Layout) (n : Node) → IsNode layout.version n →
    free_in size (node_page layout n) ≡ None
free_of_node size layout Empty is = absurd is
free_of_node size layout (Leaf rs) is = refl
free_of_node size layout (Inner links) is = refl

content_of_zeros : (layout : Layout) (n : ℕ) → content_of (form_of layout) (replicate n 0) ≡ no_content
unfolding content_of
content_of_zeros layout zero = λ i. record { node = node_of_none layout i; free = free_of_none layout.size i }
content_of_zeros layout (suc n) = λ i. record {
  node = node_of_zero layout (replicate n 0) i;
  free = free_of_zero layout.size (replicate n 0) i;
}

pub content_of_node : (layout : Layout) → IsLayout layout → (n : Node) → IsNode layout.version n →
    content_of (form_of layout) ((form_of layout).node_page n) ≡ node_content n
unfolding content_of
content_of_node layout fits n is = λ i. record {
  node = node_again layout n fits.room is i;
  free = free_of_node layout.size layout n is i;
}

pub content_of_free : (layout : Layout) (next : ℕ) → next < 2 ^ 32 →
    content_of (form_of layout) ((form_of layout).free_page next) ≡ free_content next
unfolding content_of
content_of_free layout next low = λ i. record {
  node = node_of_free layout layout.size next i;
  free = free_again layout.size next low i;
}

-- ---- a piece of zeros is zeros

record AreZeros (xs : List ℕ) : Type 0 where
  count : ℕ
  is : xs ≡ replicate count 0

take_zeros : (n m : ℕ) → AreZeros (take n (replicate m 0))
take_zeros zero m = record { count = 0; is = refl }
take_zeros (suc n) zero = record { count = 0; is = refl }
take_zeros (suc n) (suc m) =
    let rest = take_zeros n m in
    record { count = suc rest.count; is = ap (λ xs. 0 ∷ xs) rest.is }

piece_of_zeros : (n k m : ℕ) → AreZeros (take n (drop k (replicate m 0)))
piece_of_zeros n k m =
    let z = take_zeros n (m - k) in
    record { count = z.count; is = ap (take n) (drop-replicate {X = ℕ} k m 0) ∙ z.is }

pub content_in_zeros : (layout : Layout) (n k m : ℕ) →
    content_of (form_of layout) (take n (drop k (zeros m))) ≡ no_content
unfolding zeros
content_in_zeros layout n k m =
    let z = piece_of_zeros n k m in ap (content_of (form_of layout)) z.is ∙ content_of_zeros layout z.count

take_none : (n : ℕ) → take {A = ℕ} n [] ≡ []
take_none zero = refl
take_none (suc n) = refl

pub content_none : (layout : Layout) → content_of (form_of layout) [] ≡ no_content
content_none layout = content_of_zeros layout 0

pub length_zeros : (n : ℕ) → length (zeros n) ≡ n
unfolding zeros
length_zeros n = length-replicate {A = ℕ} n 0

replicated : (n : ℕ) → AreBytes (replicate n 0)
replicated zero = All-nil (λ b. b < 2 ^ 8)
replicated (suc n) = All-cons (λ b. b < 2 ^ 8) 0 (replicate n 0) (omega arith) (replicated n)

pub bytes_zeros : (n : ℕ) → AreBytes (zeros n)
unfolding zeros
bytes_zeros n = replicated n

-- ---- pages behind the end

module _ (layout : Layout) (held : List ℕ) (pages : ℕ) where
  abbrev form : Form
  form = form_of layout

  abbrev size : ℕ
  size = layout.size

  -- a page of the front stays
  pub page_of_front : (more : List ℕ) (q : ℕ) → q * size + size ≤ length held →
      page_at form (held ++ more) q ≡ page_at form held q
  page_of_front more q within =
      ap (take size) (drop-append-le (q * size) held more (omega (arith, within)))
      ∙ take-append-le size (drop (q * size) held) more (omega (arith, within, length-drop (q * size) held))

  pub content_behind : length held ≡ pages * size → (q : ℕ) → pages ≤ q →
      content_of form (page_at form held q) ≡ no_content
  content_behind exact q past =
      ap (λ xs. content_of form (take size xs))
      (drop_all (q * size) held (omega (arith, exact, pages_most pages q size past)))
      ∙ ap (content_of form) (take_none size) ∙ content_none layout

  content_more : length held ≡ pages * size → (q : ℕ) → content_of form (page_at form (held ++ zeros size) q)
      ≡ content_of form (page_at form held q)
  content_more exact q = elim (cases_lt q pages) [
    | inl within ↦
        ap (content_of form) (page_of_front (zeros size) q (omega (arith, exact, pages_within q pages size within)))
    | inr past ↦
        let more : ℕ = q * size - length held in
        let at : q * size ≡ length held + more = omega (arith, exact, pages_most pages q size past) in
        ap (λ k. content_of form (take size (drop k (held ++ zeros size)))) at
        ∙ ap (λ xs. content_of form (take size xs)) (drop-append-add held (zeros size) more)
        ∙ content_in_zeros layout size more size ∙ sym (content_behind exact q past)
  ]

  module _ (have : HasUnsealedPages form pages held) where
    first_within : 0 * size + size ≤ length held
    first_within = omega (arith, have.long, no_pages size, pages_some pages size have.some)

    pub has_grown : (front : List ℕ) → AreBytes front → HasUnsealedPages form pages (held ++ front)
    has_grown front new = record {
      some = have.some;
      few = have.few;
      are = All-append (λ b. b < 2 ^ 8) held front have.are new;
      long = omega (arith, have.long, length-append held front);
      blank = page_of_front front 0 first_within ∙ have.blank;
    }

    pub has_more : pages < page_limit → HasUnsealedPages form (pages + 1) (held ++ zeros size)
    has_more few = record {
      some = omega arith;
      few = omega (arith, few);
      are = All-append (λ b. b < 2 ^ 8) held (zeros size) have.are (bytes_zeros size);
      long = omega (arith, have.long, length-append held (zeros size), length_zeros size, pages_next pages size);
      blank = page_of_front (zeros size) 0 first_within ∙ have.blank;
    }

  same_test : (length (held ++ zeros size) == (pages + 1) * size) ≡ (length held == pages * size)
  same_test = at (length held == pages * size) refl
    where
      at : (b : Bool) → (length held == pages * size) ≡ b →
          (length (held ++ zeros size) == (pages + 1) * size) ≡ b
      at true e =
          let exact : length held ≡ pages * size = eqb-true (length held) (pages * size) e in
          eq-eqb (length (held ++ zeros size)) ((pages + 1) * size)
          (omega (arith, exact, length-append held (zeros size), length_zeros size, pages_next pages size))
      at false e = ne_eqb (length (held ++ zeros size)) ((pages + 1) * size) (λ same.
          no (sym e ∙ eq-eqb (length held) (pages * size)
          (omega (arith, same, length-append held (zeros size), length_zeros size, pages_next pages size))))
        where
          no : false ≡ true → ⊥
          no h = cc

  pub page_map_more : page_map_in form (pages + 1) (held ++ zeros size) ≡ option_map longer
      (page_map_in form pages held)
  page_map_more =
      ap (λ b. if b then Some (record {
        size = pages + 1;
        content = λ p. content_of form (page_at form (held ++ zeros size) p);
      }) else None) same_test
      ∙ at (length held == pages * size) refl
    where
      at : (b : Bool) → (length held == pages * size) ≡ b →
          ◌≡◌ {A = Option PageMap}
          (if b then Some (record {
            size = pages + 1;
            content = λ p. content_of form (page_at form (held ++ zeros size) p);
          }) else None)
          (option_map longer (if b then Some (record {
            size = pages;
            content = λ p. content_of form (page_at form held p);
          }) else None))
      at true e =
          let exact : length held ≡ pages * size = eqb-true (length held) (pages * size) e in
          λ i. Some (record { size = add-one pages i; content = λ q. content_more exact q i })
      at false e = refl

  pub page_map_loses : (front : List ℕ) → pages * size ≤ length held →
      LosesPages (page_map_in form pages held) (page_map_in form pages (held ++ front))
  page_map_loses front long = at (length (held ++ front) == pages * size) refl
    where
      none : (xs : List ℕ) → length xs ≡ 0 → xs ≡ []
      none [] e = refl
      none (x ∷ xs) e = absurd (omega (arith, e))

      at : (b : Bool) → (length (held ++ front) == pages * size) ≡ b →
          LosesPages (page_map_in form pages held) (page_map_in form pages (held ++ front))
      at true e =
          let exact : length (held ++ front) ≡ pages * size =
          eqb-true (length (held ++ front)) (pages * size) e in
          let empty : front ≡ [] = none front (omega (arith, exact, long, length-append held front)) in
          inr (ap (λ xs. page_map_in form pages (held ++ xs)) empty ∙ ap (page_map_in form pages) (append-nil held))
      at false e = inl (ap (λ b. if b then Some (record {
        size = pages;
        content = λ p. content_of form (page_at form (held ++ front) p);
      }) else None) e)
