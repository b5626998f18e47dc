-- The pages of a file after one of them was written, in part or whole, and after one was added.
use Rattle.std.proofs.Common.{◌≡◌, ◌≢◌, ℕ, ◌+◌, ◌-◌, ◌*◌, ◌<◌, ◌≤◌, ◌^◌, Bool, true, false, List, ◌++◌, length, take, drop, inl, inr, refl, sym, ap, subst, ◌∙◌, append_assoc, length-append, length-drop, take-append-drop, arith}
use Rattle.std.specs.Prelude.{◌==◌, if◌then◌else◌, Some, None, option_map}
use Rattle.std.proofs.lemmas.Bool.{cases_lt, eq-eqb, eqb-true}
use Rattle.std.proofs.lemmas.List.{take-append-le, drop-append-le, drop-drop, take_at, drop_at, length-take-le}
use Rattle.std.proofs.lemmas.List.Elements.{All-append, All-take, All-drop}
use Rattle.std.proofs.Math.Seq.{drop-append-add}
use Rattle.mr_outside.specs.Bytes.{AreBytes}
use Rattle.mr_outside.specs.Files.{replaced}
use Rattle.mr_pages.specs.declared.layout.Layout.{Layout}
use Rattle.mr_pages.specs.Page.{Form}
use Rattle.mr_pages.specs.PageBytes.{form_of}
use Rattle.mr_pages.specs.File.{page_at}
use Rattle.mr_edit.specs.PageMap.{PageMap, with_content}
use Rattle.mr_draft.specs.Sheets.{content_of, page_map_in, zeros, HasUnsealedPages, ChangesPage}
use Rattle.mr_draft.proofs.Sizes.{pages_within}
use Rattle.mr_draft.proofs.ZeroPages.{bytes_zeros}

-- ---- a piece of a list of which another piece was replaced

module _ (size : ℕ) (held : List ℕ) where
  -- before it
  before_it : (k n : ℕ) (rest : List ℕ) → k + size ≤ n → n ≤ length held →
      take size (drop k (take n held ++ rest)) ≡ take size (drop k (take n held))
  before_it k n rest room within =
      let front : List ℕ = take n held in
      let long : length front ≡ n = length-take-le n held within in
      ap (take size) (drop-append-le k front rest (omega (arith, long, room)))
      ∙ take-append-le size (drop k front) rest (omega (arith, long, room, length-drop k front))

  pub piece_before : (k n : ℕ) (rest : List ℕ) → k + size ≤ n → n ≤ length held →
      take size (drop k (take n held ++ rest)) ≡ take size (drop k held)
  piece_before k n rest room within =
      before_it k n rest room within ∙ sym (before_it k n (drop n held) room within)
      ∙ ap (λ xs. take size (drop k xs)) (take-append-drop n held)

-- behind it
pub piece_behind : (held front : List ℕ) (k n : ℕ) → n + length front ≤ k → n ≤ length held →
    drop k (take n held ++ front ++ drop (n + length front) held) ≡ drop k held
piece_behind held front k n past within =
    let all : List ℕ = take n held ++ front in
    let more : ℕ = k - (n + length front) in
    let long : length all ≡ n + length front =
    length-append (take n held) front ∙ ap (λ m. m + length front) (length-take-le n held within) in
    let at : k ≡ length all + more = omega (arith, long, past) in
    let there : (n + length front) + more ≡ k = omega (arith, past) in
    ap (λ j. drop j (all ++ drop (n + length front) held)) at
    ∙ drop-append-add all (drop (n + length front) held) more
    ∙ drop-drop more (n + length front) held
    ∙ ap (λ j. drop j held) there

-- and itself
pub piece_here : (held front rest : List ℕ) (n : ℕ) → n ≤ length held →
    take (length front) (drop n (take n held ++ front ++ rest)) ≡ front
piece_here held front rest n within =
    ap (λ xs. take (length front) (drop n xs)) (append_assoc (take n held) front rest)
    ∙ ap (take (length front)) (drop_at (take n held) (front ++ rest) n (length-take-le n held within))
    ∙ take_at front rest (length front) refl

pub length_replaced : (n : ℕ) (front held : List ℕ) → n + length front ≤ length held →
    length (replaced n front held) ≡ length held
length_replaced n front held room =
    omega (
      arith,
      room,
      length-append (take n held ++ front) (drop (n + length front) held),
      length-append (take n held) front,
      length-take-le n held (omega (arith, room)),
      length-drop (n + length front) held,
    )

pub bytes_replaced : (n : ℕ) (front held : List ℕ) → AreBytes front → AreBytes held → AreBytes (replaced n front held)
bytes_replaced n front held new old =
    All-append (λ b. b < 2 ^ 8) (take n held ++ front) (drop (n + length front) held)
    (All-append (λ b. b < 2 ^ 8) (take n held) front (All-take (λ b. b < 2 ^ 8) n held old) new)
    (All-drop (λ b. b < 2 ^ 8) (n + length front) held old)

-- ---- a page is written

module _ (layout : Layout) (pages page : ℕ) (held front : List ℕ) (have : HasUnsealedPages (form_of layout) pages held)
    (low : 1 ≤ page) (within : page < pages) (short : length front ≤ layout.size) where
  abbrev form : Form
  form = form_of layout

  abbrev size : ℕ
  size = layout.size

  abbrev after : List ℕ
  after = replaced (page * size) front held

  room : page * size + length front ≤ length held
  room = omega (arith, have.long, pages_within page pages size within, short)

  start : page * size ≤ length held
  start = omega (arith, room)

  same_length : length after ≡ length held
  same_length = length_replaced (page * size) front held room

  pub other_page : (q : ℕ) → q ≢ page → page_at form after q ≡ page_at form held q
  other_page q other = elim (cases_lt q page) [
    | inl before ↦
        ap (λ xs. take size (drop (q * size) xs))
        (append_assoc (take (page * size) held) front (drop (page * size + length front) held))
        ∙ piece_before size held (q * size) (page * size)
        (front ++ drop (page * size + length front) held)
        (omega (arith, pages_within q page size before)) start
    | inr past ↦
        let behind : page < q = omega (arith, past, other) in
        ap (take size)
        (piece_behind held front (q * size) (page * size)
        (omega (arith, pages_within page q size behind, short)) start)
  ]

  pub has_replaced : AreBytes front → HasUnsealedPages form pages after
  has_replaced new = record {
    some = have.some;
    few = have.few;
    are = bytes_replaced (page * size) front held new have.are;
    long = omega (arith, have.long, same_length);
    blank = other_page 0 (λ e. omega (arith, e, low)) ∙ have.blank;
  }

  pub this_page : length front ≡ size → page_at form after page ≡ front
  this_page whole =
      ap (λ n. take n (drop (page * size) after)) (sym whole)
      ∙ piece_here held front (drop (page * size + length front) held) (page * size) start

  same_test : (length after == pages * size) ≡ (length held == pages * size)
  same_test = ap (λ n. n == pages * size) same_length

  content_after : length front ≡ size → (q : ℕ) → content_of form (page_at form after q)
      ≡ (if q == page then content_of form front else content_of form (page_at form held q))
  content_after whole q = at (q == page) refl
    where
      at : (b : Bool) → (q == page) ≡ b → content_of form (page_at form after q)
          ≡ (if b then content_of form front else content_of form (page_at form held q))
      at true e =
          ap (λ p. content_of form (page_at form after p)) (eqb-true q page e)
          ∙ ap (content_of form) (this_page whole)
      at false e = ap (content_of form) (other_page q (λ same. no (sym e ∙ eq-eqb q page same)))
        where
          no : false ≡ true → ⊥
          no h = cc

  -- the pages as they are read then
  pub page_map_put : length front ≡ size →
      page_map_in form pages after ≡ option_map (with_content page (content_of form front))
      (page_map_in form pages held)
  page_map_put whole =
      ap (λ b. if b then Some (told_page_map after) else None) same_test ∙ at (length held == pages * size)
    where
      told_page_map : List ℕ → PageMap
      told_page_map bytes = record { size = pages; content = λ p. content_of form (page_at form bytes p) }

      at : (b : Bool) → (if b then Some (told_page_map after) else None)
          ≡ option_map (with_content page (content_of form front)) (if b then Some (told_page_map held) else None)
      at true = λ i. Some (record { size = pages; content = λ q. content_after whole q i })
      at false = refl

  -- and whatever was written of it
  pub page_map_others : ChangesPage page (page_map_in form pages held) (page_map_in form pages after)
  page_map_others = at (length held == pages * size) same_test
    where
      told_page_map : List ℕ → PageMap
      told_page_map bytes = record { size = pages; content = λ p. content_of form (page_at form bytes p) }

      at : (b : Bool) → (length after == pages * size) ≡ b →
          ChangesPage page (if b then Some (told_page_map held) else None) (page_map_in form pages after)
      at true e = subst (λ t. ChangesPage page (Some (told_page_map held))
          (if t then Some (told_page_map after) else None))
          (sym e) (told_page_map held, refl, λ q other. ap (content_of form) (other_page q other))
      at false e = subst (λ t. ChangesPage page None (if t then Some (told_page_map after) else None)) (sym e) tt

-- ---- a front of what was to be written

pub front_bytes : (whole front rest : List ℕ) → whole ≡ front ++ rest → AreBytes whole → AreBytes front
front_bytes whole front rest is all =
    subst AreBytes (ap (take (length front)) is ∙ take_at front rest (length front) refl)
    (All-take (λ b. b < 2 ^ 8) (length front) whole all)

pub front_short : (n : ℕ) (whole front rest : List ℕ) → whole ≡ front ++ rest → length whole ≡ n → length front ≤ n
front_short n whole front rest is size = omega (arith, size, ap length is, length-append front rest)

pub front_zeros : (n : ℕ) (whole front rest : List ℕ) → whole ≡ front ++ rest → whole ≡ zeros n → AreBytes front
front_zeros n whole front rest is zero_page =
    front_bytes whole front rest is (subst AreBytes (sym zero_page) (bytes_zeros n))
