-- The pages of a map's file before page 0 is written, and when it was written in part.
use Rattle.std.proofs.Common.{◌≡◌, ◌≢◌, ℕ, suc, ◌+◌, ◌-◌, ◌*◌, ◌/◌, ◌<◌, ◌≤◌, Bool, true, false, List, [], ◌∷◌, ◌++◌, length, take, drop, replicate, refl, sym, ap, subst, ◌∙◌, arith, append_assoc, length-append, inl, inr, ◌⊎◌}
use Rattle.mr_tree.specs.Digest.{by}
use Rattle.std.specs.Prelude.{Option, Some, None, option_map, Result, Ok, Err, OnOk, bytes_eq, if◌then◌else◌}
use Rattle.std.specs.List.{flat_map, AllByRecursion}
use Rattle.std.proofs.lemmas.Slice.Eq.{bytes_eq-Decides}
use Rattle.std.proofs.lemmas.Bool.{cases_lt}
use Rattle.std.proofs.lemmas.List.{append-nil, replicate-append-replicate, length-replicate, take_at, drop_at, take-append-le, drop-append-le, drop-drop, drop-replicate}
use Rattle.std.proofs.lemmas.List.Elements.{recursion_from_All}
use Rattle.std.proofs.Math.Nat.{mul-div_cancel}
use Rattle.std.proofs.Math.Seq.{drop-append-add}
use Rattle.mr_tree.specs.Tree.{records}
use Rattle.mr_tree.specs.WellFormed.{WellFormed, IsFilled, IsFilledRoot}
use Rattle.mr_tree.specs.declared.child.Child.{Child}
use Rattle.mr_tree.specs.declared.tree.Tree.{Tree}
use Rattle.mr_tree.specs.declared.tree.Tree.TheVariants as tree
use Rattle.mr_tree.specs.declared.tree.Tree.TheViews.{out-Tree}
use Rattle.mr_tree.specs.declared.tree.Tree.TheFolds.{every-Tree}
use Rattle.mr_tree.proofs.Induction.{tree_induction, here-Leaf, here-Inner, every_child, every-Empty, every-Leaf, every-Inner}
use Rattle.mr_outside.specs.Files.{Files, with_file, replaced, overwritten}
use Rattle.mr_outside.specs.Told.{OfFile}
use Rattle.mr_outside.specs.Writing.{IsChanged, IsChangedPartly}
use Rattle.mr_outside.proofs.Changes.{OfFile-put, IsChanged-overwritten}
use Rattle.mr_record.specs.declared.version.Version.{Version}
use Rattle.mr_record.specs.declared.version.Version.TheVariants.{One, Two}
use Rattle.mr_pages.specs.declared.rule.MapRule.TheVariants as rule
use Rattle.mr_pages.specs.Page.{Form, Head, page_limit}
use Rattle.mr_pages.specs.declared.layout.Layout.{Layout}
use Rattle.mr_pages.specs.PageBytes.{page_size, first_layout, layout_by, form_of, first_form, form_by, IsLayout, head_bytes, head_page, head_in, seal, seal_place}
use Rattle.mr_pages.specs.File.{page_at, is_odd_size, file_of, version_of, form_at}
use Rattle.mr_pages.specs.Stands.{StandsForTree, Placed, pages_of, whole_pages, link_of}
use Rattle.mr_pages.specs.Faults.{file_faults, first_of, mapfault}
use Rattle.mr_pages.specs.Walking.{child_link}
use Rattle.mr_pages.specs.Saved.{whole_nodes, numbered, unless_empty, numbered_whole, saved_pages, saved_head, saved_nodes, saved, IsUnsealed, MayStand, LeavesFile}
use Rattle.mr_pages.specs.private.Putting.{HasEntries, CanBePut, IsPut, IsImage}
use Rattle.mr_pages.specs.Making.{IsBegun}
use Rattle.mr_pages.proofs.Agreement.{whole_pages_are}
use Rattle.mr_pages.proofs.Numbered.{tree_numbered, whole_numbered}
use Rattle.mr_pages.proofs.SavedStands.{whole_few}
use Rattle.mr_pages.proofs.HeadLaws.{first_layout_is}
use Rattle.mr_pages.proofs.Short.{unsealed_if, at_least}
use Rattle.mr_pages.proofs.Answered.{odd_fault}

-- ---- a well-formed tree can be put

entries_below : (ts : List Tree) → AllByRecursion (λ t. every-Tree IsFilled t → every-Tree HasEntries t) ts →
    AllByRecursion (every-Tree IsFilled) ts → AllByRecursion (every-Tree HasEntries) ts
entries_below [] f all = tt
entries_below (t ∷ ts) f all = (f.0 all.0, entries_below ts f.1 all.1)

filled_entries : (t : Tree) → every-Tree IsFilled t → every-Tree HasEntries t
filled_entries = tree_induction (λ t. every-Tree IsFilled t → every-Tree HasEntries t)
    (λ filled. every-Empty HasEntries tt)
    (λ rs filled. let full = here-Leaf IsFilled rs filled in every-Leaf HasEntries rs (omega (arith, full.0), full.1))
    (λ ts below filled.
    let full = here-Inner IsFilled ts filled in
    every-Inner HasEntries ts (entries_below ts below (every_child IsFilled ts filled)) (omega (arith, full.0), full.1))

all_entries : (ts : List Tree) → AllByRecursion (every-Tree IsFilled) ts → AllByRecursion (every-Tree HasEntries) ts
all_entries [] all = tt
all_entries (t ∷ ts) all = (filled_entries t all.0, all_entries ts all.1)

root_entries : (t : Tree) → IsFilledRoot (out-Tree t) → every-Tree HasEntries t
root_entries = tree_induction (λ t. IsFilledRoot (out-Tree t) → every-Tree HasEntries t)
    (λ filled. every-Empty HasEntries tt)
    (λ rs filled. every-Leaf HasEntries rs (subst IsFilledRoot (tree.outs-Leaf rs) filled))
    (λ ts below filled.
    let full = subst IsFilledRoot (tree.outs-Inner ts) filled in
    every-Inner HasEntries ts (all_entries ts (recursion_from_All (every-Tree IsFilled) ts full.2))
    (omega (arith, full.0), full.1))

pub can_be_put : (t : Tree) → WellFormed t → t ≢ tree.Empty → CanBePut t
can_be_put t well there = record {
  there = there;
  one_level = well.one_level;
  entries = root_entries t well.filled;
  shallow = well.shallow;
}

pub put_room : (t : Tree) → WellFormed t → t ≢ tree.Empty → 1 + length (pages_of (numbered t 1)) ≤ page_limit
put_room t well there =
    omega (arith, whole_few (Some (numbered t 1)) t well (tree_numbered t well.one_level there 1).trees)

-- ---- the image of a map

pub whole_some : (t : Tree) (P : Placed) → t ≢ tree.Empty → unless_empty (out-Tree t) P ≡ Some P
whole_some t P = tree_induction (λ u. u ≢ tree.Empty → unless_empty (out-Tree u) P ≡ Some P)
    (λ there. absurd (there refl))
    (λ rs there. ap (λ x. unless_empty x P) (tree.outs-Leaf rs))
    (λ ts below there. ap (λ x. unless_empty x P) (tree.outs-Inner ts)) t

pub image_empty : (form : Form) (hash : List ℕ → List ℕ) (t : Tree) (pages : List ℕ) → t ≡ tree.Empty →
    pages ≡ replicate form.size 0 →
    IsImage form hash t pages None
image_empty form hash t pages is zeros =
    let none : numbered_whole t ≡ None =
    ap (λ u. unless_empty (out-Tree u) (numbered t 1)) is
    ∙ ap (λ x. unless_empty x (numbered t 1)) tree.outs-Empty in
    record {
      bytes = zeros ∙ sym (append-nil (replicate form.size 0))
          ∙ ap (λ po. replicate form.size 0 ++ flat_map form.node_page (whole_nodes (by form.version hash) po))
          (sym none);
      size = omega (
        arith,
        ap length zeros,
        length-replicate {A = ℕ} form.size 0,
        ap
            (λ po. suc (length (whole_pages po)) * form.size) none,
      );
      link = ap (option_map (link_of (by form.version hash))) (sym none);
    }

pub image_some : (form : Form) (hash : List ℕ → List ℕ) (t : Tree) (old pages : List ℕ) (child : Child) →
    t ≢ tree.Empty →
    old ≡ replicate form.size 0 → IsPut form hash t 1 old pages child → IsImage form hash t pages (Some child)
image_some form hash t old pages child there zeros put =
    let some : numbered_whole t ≡ Some (numbered t 1) = whole_some t (numbered t 1) there in
    record {
      bytes = put.pages ∙ (λ i. zeros i ++ flat_map form.node_page (whole_nodes (by form.version hash) (sym some i)));
      size =
          let below : ℕ = length (pages_of (numbered t 1)) in
          let long : length old ≡ form.size = ap length zeros ∙ length-replicate {A = ℕ} form.size 0 in
          let sum : suc below * form.size ≡ form.size + below * form.size = grind arith in
          omega (arith, put.size, long, sum, ap (λ po. suc (length (whole_pages po)) * form.size) some);
      link = ap Some put.link ∙ ap (option_map (link_of (by form.version hash))) (sym some);
    }

-- ---- page 0 written in part

pub no_seal : (xs : List ℕ) → xs ≡ replicate 4 0 → bytes_eq xs seal ≡ false
no_seal xs e = ap (λ ys. bytes_eq ys seal) e

-- bytes that are no map in this form
abbrev IsUnsealedIn : Form → (List ℕ → List ℕ) → (bytes : List ℕ) → Type 0
IsUnsealedIn form hash bytes =
    (mapfault hash (file_of form bytes) ≡ Some (record { page = 0; rule = rule.Size }))
    ⊎ (mapfault hash (file_of form bytes) ≡ Some (record { page = 0; rule = rule.Unsealed }))

module _ (layout : Layout) (fit : IsLayout layout) (hash : List ℕ → List ℕ) where
  abbrev form : Form
  form = form_of layout

  abbrev size : ℕ
  size = layout.size

  first_at : (bytes : List ℕ) → page_at form bytes 0 ≡ take size bytes
  first_at bytes = ap (λ n. take size (drop n bytes)) (let none : 0 * size ≡ 0 = omega arith in none)

  -- page 0 has no seal: what is read then
  unsealed_page : (bytes page : List ℕ) → is_odd_size size (length bytes) ≡ false →
      page_at form bytes 0 ≡ page → bytes_eq (drop (seal_place size) page) seal ≡ false → IsUnsealedIn form hash bytes
  unsealed_page bytes page even here open' =
      let n = length bytes / size in
      inr (
      ap (λ b. first_of (file_faults hash (file_of form bytes)
      (if b then Err rule.Size else head_in layout n (page_at form bytes 0)))) even
      ∙ ap (λ o. first_of (file_faults hash (file_of form bytes) o))
      (ap (head_in layout n) here ∙ unsealed_if (bytes_eq (drop (seal_place size) page) seal) _ open'))

  by_size : (bytes : List ℕ) →
      (is_odd_size size (length bytes) ≡ false → IsUnsealedIn form hash bytes) → IsUnsealedIn form hash bytes
  by_size bytes f = at (is_odd_size size (length bytes)) refl
    where
      at : (b : Bool) → is_odd_size size (length bytes) ≡ b → IsUnsealedIn form hash bytes
      at true odd = inl (odd_fault form hash bytes odd)
      at false even = f even

  -- the front of the pages, while page 0 is zeros
  front_in : (bytes rest nodes : List ℕ) → replicate size 0 ++ nodes ≡ bytes ++ rest →
      IsUnsealedIn form hash bytes
  front_in bytes rest nodes whole = by_size bytes (λ even.
      let w = whole_pages_are size (length bytes) (omega (arith, fit.room)) even in
      let long : size ≤ length bytes = omega (arith, w.whole, at_least (length bytes / size) size w.some) in
      let zeros : List ℕ = replicate size 0 in
      let here : take size bytes ≡ zeros =
      sym (take-append-le size bytes rest long) ∙ ap (take size) (sym whole)
      ∙ take_at zeros nodes size (length-replicate {A = ℕ} size 0) in
      unsealed_page bytes zeros even (first_at bytes ∙ here) (no_seal (drop (seal_place size) zeros)
      (drop-replicate {X = ℕ} (seal_place size) size 0
      ∙ ap (λ k. replicate k 0) (let four : size - seal_place size ≡ 4 = omega (arith, fit.room) in four))))

  -- the last byte of page 0 is not there yet
  last_zero : (front : List ℕ) → length front < size → bytes_eq
      (drop (seal_place size) (front ++ replicate (size - length front) 0)) seal ≡ false
  last_zero front short = at (bytes_eq (drop (seal_place size) (front ++ replicate (size - length front) 0)) seal) refl
    where
      differ : ◌≡◌ {A = List ℕ} (0 ∷ []) (0x4c ∷ []) → ⊥
      differ q = cc

      at : (b : Bool) → bytes_eq (drop (seal_place size) (front ++ replicate (size - length front) 0)) seal ≡ b →
          b ≡ false
      at false e = refl
      at true e =
          let zeros : List ℕ = replicate (size - length front) 0 in
          let n = size - 1 - length front in
          let same : drop (seal_place size) (front ++ zeros) ≡ seal =
          (bytes_eq-Decides (drop (seal_place size) (front ++ zeros)) seal).0 e in
          let there : length front + n ≡ size - 1 = omega (arith, short, fit.room) in
          let one : size - length front - n ≡ 1 = omega (arith, short, fit.room) in
          let end : size - 1 ≡ seal_place size + 3 = omega (arith, fit.room) in
          let last : drop (size - 1) (front ++ zeros) ≡ 0 ∷ [] =
          ap (λ k. drop k (front ++ zeros)) (sym there) ∙ drop-append-add front zeros n
          ∙ drop-replicate {X = ℕ} n (size - length front) 0 ∙ ap (λ k. replicate k 0) one in
          absurd (differ (sym last ∙ ap (λ k. drop k (front ++ zeros)) end
          ∙ sym (drop-drop 3 (seal_place size) (front ++ zeros)) ∙ ap (drop 3) same))

  -- page 0 begins like the head, and goes on with zeros
  part_in : (bytes front pages nodes : List ℕ) → pages ≡ replicate size 0 ++ nodes →
      length front < size →
      bytes ≡ replaced 0 front pages → IsUnsealedIn form hash bytes
  part_in bytes front pages nodes image short is = by_size bytes (λ even.
      let zeros : List ℕ = replicate size 0 in
      let left : List ℕ = replicate (size - length front) 0 in
      let none : 0 + length front ≡ length front = omega arith in
      let behind : drop (0 + length front) pages ≡ left ++ nodes =
      ap (λ n. drop n pages) none ∙ ap (drop (length front)) image
      ∙ drop-append-le (length front) zeros nodes (omega (arith, short, length-replicate {A = ℕ} size 0))
      ∙ ap (λ bs. bs ++ nodes) (drop-replicate {X = ℕ} (length front) size 0) in
      let whole : bytes ≡ (front ++ left) ++ nodes =
      is ∙ (λ i. front ++ behind i) ∙ sym (append_assoc front left nodes) in
      let long : length (front ++ left) ≡ size =
      omega (arith, short, length-append front left, length-replicate {A = ℕ} (size - length front) 0) in
      unsealed_page bytes (front ++ left) even
      (first_at bytes ∙ ap (take size) whole ∙ take_at (front ++ left) nodes size long)
      (last_zero front short))

-- ---- which version they say

-- byte 4 is not there
short_says : (bytes : List ℕ) → length bytes ≤ 4 → version_of bytes ≡ One
short_says [] few = refl
short_says (a ∷ []) few = refl
short_says (a ∷ b ∷ []) few = refl
short_says (a ∷ b ∷ c ∷ []) few = refl
short_says (a ∷ b ∷ c ∷ d ∷ []) few = refl
short_says (a ∷ b ∷ c ∷ d ∷ e ∷ bytes) few = absurd (omega (arith, few))

-- it stands in front
front_says : (front rest : List ℕ) → 4 < length front → version_of (front ++ rest) ≡ version_of front
front_says [] rest more = absurd (omega (arith, more))
front_says (a ∷ []) rest more = absurd (omega (arith, more))
front_says (a ∷ b ∷ []) rest more = absurd (omega (arith, more))
front_says (a ∷ b ∷ c ∷ []) rest more = absurd (omega (arith, more))
front_says (a ∷ b ∷ c ∷ d ∷ []) rest more = absurd (omega (arith, more))
front_says (a ∷ b ∷ c ∷ d ∷ e ∷ front) rest more = refl

-- it is one of the zeros behind a shorter front
zeros_say : (front behind : List ℕ) → length front ≤ 4 →
    version_of (front ++ drop (length front) (replicate 5 0 ++ behind)) ≡ One
zeros_say [] behind few = refl
zeros_say (a ∷ []) behind few = refl
zeros_say (a ∷ b ∷ []) behind few = refl
zeros_say (a ∷ b ∷ c ∷ []) behind few = refl
zeros_say (a ∷ b ∷ c ∷ d ∷ []) behind few = refl
zeros_say (a ∷ b ∷ c ∷ d ∷ e ∷ front) behind few = absurd (omega (arith, few))

-- so many zeros, and then the others
more_zeros : (n all : ℕ) (behind : List ℕ) → n ≤ all →
    replicate all 0 ++ behind ≡ replicate n 0 ++ (replicate (all - n) 0 ++ behind)
more_zeros n all behind most =
    let sum : n + (all - n) ≡ all = omega (arith, most) in
    ap (λ k. replicate k 0 ++ behind) (sym sum)
    ∙ ap (λ xs. xs ++ behind) (sym (replicate-append-replicate {A = ℕ} n (all - n) 0))
    ∙ append_assoc (replicate n 0) (replicate (all - n) 0) behind

head_says : (layout : Layout) (h : Head) → version_of (head_page layout h) ≡ layout.version
unfolding head_bytes
head_says layout h = at layout.version
  where
    at : (v : Version) → version_of (head_page (record layout { version = v }) h) ≡ v
    at One = refl
    at Two = refl

-- a front of page 0 with its version in it
pub head_front_says : (layout : Layout) (h : Head) (front rest : List ℕ) → head_page layout h ≡ front ++ rest →
    4 < length front → version_of front ≡ layout.version
head_front_says layout h front rest whole more =
    sym (front_says front rest more) ∙ ap version_of (sym whole) ∙ head_says layout h

said_in : (hash : List ℕ → List ℕ) (bytes : List ℕ) (f : Form) → form_at bytes ≡ f →
    IsUnsealedIn f hash bytes → IsUnsealed hash bytes
said_in hash bytes f same u = subst (λ (g : Form). IsUnsealedIn g hash bytes) (sym same) u

-- the front of the pages, while page 0 is zeros
pub front_unsealed : (long : ℕ) → page_size ≤ long → (hash : List ℕ → List ℕ) (bytes rest nodes : List ℕ) →
    replicate long 0 ++ nodes ≡ bytes ++ rest → IsUnsealed hash bytes
front_unsealed long room hash bytes rest nodes whole =
    said_in hash bytes first_form (ap form_by says)
    (front_in first_layout first_layout_is hash bytes rest (replicate (long - page_size) 0 ++ nodes)
    (sym (more_zeros page_size long nodes room) ∙ whole))
  where
    says : version_of bytes ≡ One
    says = elim (cases_lt 4 (length bytes)) [
      | inl more ↦
          sym (front_says bytes rest more)
          ∙ ap version_of (sym whole ∙ more_zeros 5 long nodes (omega (arith, room)))
          ∙ zeros_say [] (replicate (long - 5) 0 ++ nodes) (omega arith)
      | inr few ↦ short_says bytes few
    ]

module _ (layout : Layout) (by_version : layout ≡ layout_by layout.version) where
  at_least_a_page : page_size ≤ layout.size
  at_least_a_page = omega (arith, ap (λ (l : Layout). l.size) by_version, at layout.version)
    where
      at : (v : Version) → page_size ≤ (layout_by v).size
      at One = omega arith
      at Two = omega arith

  -- page 0 begins with this front, which has its version if it is so long, and goes on with zeros
  pub part_unsealed : IsLayout layout → (hash : List ℕ → List ℕ) (bytes front pages nodes : List ℕ) →
      pages ≡ replicate layout.size 0 ++ nodes → length front < layout.size →
      (4 < length front → version_of front ≡ layout.version) → bytes ≡ replaced 0 front pages → IsUnsealed hash bytes
  part_unsealed fit hash bytes front pages nodes image short says is = elim (cases_lt 4 (length front)) [
    | inl more ↦
        said_in hash bytes (form_of layout)
        (ap form_by (ap version_of is ∙ front_says front (drop (0 + length front) pages) more ∙ says more)
        ∙ ap form_of (sym by_version))
        (part_in layout fit hash bytes front pages nodes image short is)
    | inr few ↦
        let none : 0 + length front ≡ length front = omega arith in
        let zeros : version_of bytes ≡ One =
        ap version_of (is ∙ ap (λ n. front ++ drop n pages) none
        ∙ ap (λ ps. front ++ drop (length front) ps)
        (image ∙ more_zeros 5 layout.size nodes (omega (arith, at_least_a_page))))
        ∙ zeros_say front (replicate (layout.size - 5) 0 ++ nodes) few in
        said_in hash bytes first_form (ap form_by zeros)
        (part_in first_layout first_layout_is hash bytes front pages
        (replicate (layout.size - page_size) 0 ++ nodes)
        (image ∙ more_zeros page_size layout.size nodes at_least_a_page) (omega (arith, few)) is)
  ]

-- ---- what may stand

module _ (layout : Layout) (fit : IsLayout layout) (by_version : layout ≡ layout_by layout.version)
    (hash : List ℕ → List ℕ) where
  pub saved_is : (t : Tree) (batch : ℕ) (pages head : List ℕ) (root : Option Child) →
      IsImage (form_of layout) hash t pages root →
      head ≡ head_page layout (saved_head (form_of layout) hash t batch) → length head ≡ layout.size →
      replaced 0 head pages ≡ saved (form_of layout) hash t batch
  saved_is t batch pages head root image is long =
      let whole : 0 + length head ≡ layout.size = omega (arith, long) in
      let behind : drop (0 + length head) pages ≡ saved_nodes (form_of layout) hash t =
      ap (λ n. drop n pages) whole ∙ ap (drop layout.size) image.bytes
      ∙ drop_at (replicate layout.size 0) (saved_nodes (form_of layout) hash t) layout.size
      (length-replicate {A = ℕ} layout.size 0) in
      (λ i. head ++ behind i) ∙ ap (λ h. h ++ saved_nodes (form_of layout) hash t) is

  -- page 0 is zeros as far as it is there
  pub begun_stands : (t : Tree) (batch : ℕ) (bytes : List ℕ) → IsBegun layout.size bytes →
      MayStand (form_of layout) hash t batch bytes
  begun_stands t batch bytes b =
      inl (front_unsealed layout.size (at_least_a_page layout by_version) hash bytes b.1 b.0 b.2)

  pub sealed_stands : (t : Tree) (batch : ℕ) (pages head : List ℕ) (root : Option Child) →
      IsImage (form_of layout) hash t pages root →
      head ≡ head_page layout (saved_head (form_of layout) hash t batch) → length head ≡ layout.size →
      (front rest : List ℕ) → head ≡ front ++ rest → MayStand (form_of layout) hash t batch (replaced 0 front pages)
  sealed_stands t batch pages head root image is long front [] whole =
      let same : front ≡ head = sym (append-nil front) ∙ sym whole in
      inr (ap (λ f. replaced 0 f pages) same ∙ saved_is t batch pages head root image is long)
  sealed_stands t batch pages head root image is long front (r ∷ rest) whole =
      inl (part_unsealed layout by_version fit hash (replaced 0 front pages) front pages
      (saved_nodes (form_of layout) hash t) image.bytes
      (omega (arith, long, ap length whole, length-append front (r ∷ rest)))
      (head_front_says layout (saved_head (form_of layout) hash t batch) front (r ∷ rest) (sym is ∙ whole)) refl)

  -- the file of the pages, with page 0 written over them
  module _ (t : Tree) (batch : ℕ) (pages head : List ℕ) (root : Option Child)
      (image : IsImage (form_of layout) hash t pages root)
      (is : head ≡ head_page layout (saved_head (form_of layout) hash t batch)) (long : length head ≡ layout.size)
      (name : List ℕ) (before between after : Option Files)
      (put : IsChanged (with_file name) pages before between) where
    pub seal_leaves : IsChangedPartly (overwritten name 0) head between after →
        LeavesFile (MayStand (form_of layout) hash t batch) name before after
    seal_leaves p =
        inr (
          replaced 0 p.front pages,
          sealed_stands t batch pages head root image is long p.front p.rest p.whole,
          IsChanged-overwritten name 0 pages p.front before between after put p.changed,
        )

    pub seal_whole : {A E : Type 0} (r : Result A E) → OnOk r (IsChanged (overwritten name 0) head between after) →
        OnOk r (IsChanged (with_file name) (saved (form_of layout) hash t batch) before after)
    seal_whole (Ok a) over =
        IsChanged-overwritten name 0 pages head before between after put over
        ∙ ap (λ bs. option_map (with_file name bs) before) (saved_is t batch pages head root image is long)
    seal_whole (Err e) over = tt

pub leaves_as : (P Q : List ℕ → Type 0) → ((bytes : List ℕ) → P bytes → Q bytes) →
    (name : List ℕ) (before after : Option Files) →
    LeavesFile P name before after → LeavesFile Q name before after
leaves_as P Q f name before after (inl same) = inl same
leaves_as P Q f name before after (inr h) = inr (h.0, f h.0 h.1, h.2)

-- what page 0 is to say
pub head_is : (form : Form) (hash : List ℕ → List ℕ) (t : Tree) (batch count pages : ℕ) (bytes : List ℕ)
    (root : Option Child) → IsImage form hash t bytes root →
    count ≡ length (records t) → pages ≡ saved_pages t →
    ◌≡◌ {A = Head} (record { batch = batch; count = count; pages = pages; root = option_map child_link root; free = 0 })
    (saved_head form hash t batch)
head_is form hash t batch count pages bytes root image many same =
    λ i. record { batch = batch; count = many i; pages = same i; root = image.link i; free = 0 }

pub pages_count : (form : Form) (hash : List ℕ → List ℕ) (t : Tree) (bytes : List ℕ) (root : Option Child) →
    0 < form.size → IsImage form hash t bytes root → length bytes / form.size ≡ saved_pages t
pages_count form hash t bytes root some image =
    ap (λ n. n / form.size) image.size ∙ mul-div_cancel (saved_pages t) some

pub pages_fit : (form : Form) (hash : List ℕ → List ℕ) (t : Tree) (bytes : List ℕ) (root : Option Child) →
    WellFormed t → 0 < form.size → IsImage form hash t bytes root → length bytes / form.size ≤ page_limit
pages_fit form hash t bytes root well some image =
    omega (
      arith,
      pages_count form hash t bytes root some image,
      whole_few (numbered_whole t) t well (whole_numbered t well.one_level).trees,
    )

-- the file that was made stands for the map
pub file_stands : {A E : Type 0} (form : Form) (hash : List ℕ → List ℕ) (t : Tree) (batch : ℕ) (name : List ℕ)
    (before after : Option Files)
    (r : Result A E) → OnOk r (IsChanged (with_file name) (saved form hash t batch) before after) →
    StandsForTree form hash (saved form hash t batch) t batch →
    OnOk r (OfFile after name ⊥ (λ bytes. StandsForTree form hash bytes t batch))
file_stands form hash t batch name before after (Ok a) put s =
    OfFile-put name (saved form hash t batch) ⊥ (λ bytes. StandsForTree form hash bytes t batch) before after put s
file_stands form hash t batch name before after (Err e) put s = tt
