-- What a file's bytes spell is what they are read as; so a file has no fault just where it stands for a map.
use Rattle.std.proofs.Common.{◌≡◌, ◌≢◌, ℕ, zero, suc, ◌*◌, ◌/◌, ◌%◌, ◌<◌, ◌≤◌, ◌^◌, Bool, true, false, List, [], ◌∷◌, ◌++◌, length, drop, refl, sym, ap, subst, ◌∙◌, arith}
use Rattle.mr_tree.specs.Digest.{Scheme, by}
use Rattle.std.specs.Prelude.{◌==◌, ◌||◌, not, nat_lt, All, Option, Some, None, option_map, IfSome, Result, Ok, Err, if◌then◌else◌}
use Rattle.std.specs.List.{AllByRecursion}
use Rattle.std.specs.Result.{result_ok}
use Rattle.std.proofs.lemmas.Bool.{eqb-true, eqb-false, eq-eqb, ne_eqb, ltb-false, le-ltb, or_parts, or_from, not-false, not_from_true}
use Rattle.std.proofs.lemmas.List.Elements.{All-take, All-drop, recursion_from_All}
use Rattle.std.proofs.lemmas.Nat.{div-add-mod'}
use Rattle.std.proofs.Math.Nat.{mul-mod_left, mul-div_cancel, mul-pos}
use Rattle.mr_outside.specs.Bytes.{AreBytes}
use Rattle.mr_record.specs.Version.{told}
use Rattle.mr_tree.specs.Limits.{count_limit}
use Rattle.mr_tree.proofs.Told.{count_told}
use Rattle.mr_tree.specs.Tree.{level, records}
use Rattle.mr_tree.specs.WellFormed.{WellFormed, HasLayers, HasOneLevel, IsFilledRoot}
use Rattle.mr_tree.specs.declared.tree.Tree.{Tree}
use Rattle.mr_tree.specs.declared.tree.Tree.TheViews.{out-Tree}
use Rattle.mr_tree.specs.declared.tree.Tree.TheFolds.{every-Tree}
use Rattle.mr_tree.proofs.Equations.{records-Empty, entry_count}
use Rattle.mr_pages.specs.declared.rule.MapRule.{MapRule}
use Rattle.mr_pages.specs.declared.rule.MapRule.TheVariants as rule
use Rattle.mr_pages.specs.Page.{Node, Head, page_limit, IsNode, IsRoot, IsHead, Form, IsForm}
use Rattle.mr_pages.specs.File.{File, IsFile, page_at, is_odd_size, file_of}
use Rattle.mr_pages.specs.Stands.{Placed, Row, Leaf, Inner, no_more, first, tree_of, pages_of, page_of, link_of, IsWritten, AreWritten, IsChain, AreAllPages, whole_tree, whole_pages, HasNode, HasFree, StandsForTree}
use Rattle.mr_pages.specs.Law.{AgreesWithFault}
use Rattle.mr_pages.proofs.Lists.{all_left, all_right, all_weaker}
use Rattle.mr_pages.proofs.Chains.{all_within}
use Rattle.mr_pages.proofs.Building.{IsRead}
use Rattle.mr_pages.proofs.AsRead.{StandsRead, stands_without_fault, no_fault_where_it_stands, one_map}
use Rattle.mr_pages.proofs.Fitting.{fits}
use Rattle.mr_pages.proofs.PageLaws.{FitsRecord}

-- ---- whole pages

pub record IsWhole (size n : ℕ) : Type 0 where
  pub whole : n ≡ (n / size) * size
  pub some : 1 ≤ n / size
  pub few : n / size ≤ page_limit

positive : (q size n : ℕ) → q * size ≡ n → n ≢ 0 → 1 ≤ q
positive zero size n e some = absurd (some (sym e ∙ omega arith))
positive (suc q) size n e some = omega arith

smaller : (p q size : ℕ) → 0 < size → p * size ≤ q * size → p ≤ q
smaller p q size some h = grind arith

pub whole_pages_are : (size n : ℕ) → 0 < size → is_odd_size size n ≡ false → IsWhole size n
whole_pages_are size n some e =
    let parts = or_parts (n == 0) (not (n % size == 0) || nat_lt (page_limit * size) n) e in
    let more = or_parts (not (n % size == 0)) (nat_lt (page_limit * size) n) parts.1 in
    let left : n % size ≡ 0 = eqb-true (n % size) 0 (not-false _ more.0) in
    let whole : n / size * size ≡ n = omega (arith, div-add-mod' n size, left) in
    let within : n ≤ page_limit * size = ltb-false (page_limit * size) n more.1 in
    record {
      whole = sym whole;
      some = positive (n / size) size n whole (eqb-false n 0 parts.0);
      few = smaller (n / size) page_limit size some (omega (arith, whole, within));
    }

larger : (p q size : ℕ) → p ≤ q → p * size ≤ q * size
larger p q size h = grind arith

not_none : (p size : ℕ) → 0 < p → 0 < size → p * size ≢ 0
not_none p size a b e = let some : 0 < p * size = mul-pos a b in omega (arith, some, e)

pub are_whole_pages : (size n p : ℕ) → 0 < size → n ≡ p * size → 1 ≤ p → p ≤ page_limit → is_odd_size size n ≡ false
are_whole_pages size n p some e low high =
    subst (λ m. is_odd_size size m ≡ false) (sym e)
    (or_from (p * size == 0) _ (ne_eqb (p * size) 0 (not_none p size low some))
    (or_from (not (p * size % size == 0)) _ (not_from_true _ (eq-eqb (p * size % size) 0 (mul-mod_left p size)))
    (le-ltb (page_limit * size) (p * size) (larger p page_limit size high))))

-- ---- what is read is what is spelled

module _ (form : Form) (is : IsForm form) (bytes : List ℕ) where
  abbrev pub file : File
  file = file_of form bytes

  pub record HeadRead (h : Head) : Type 0 where
    pub whole : IsWhole form.size (length bytes)
    pub same : h.pages ≡ length bytes / form.size
    pub fits_head : IsHead form.version h
    pub spelled : form.head_page h ≡ page_at form bytes 0

  page_bytes : AreBytes bytes → (p : ℕ) → AreBytes (page_at form bytes p)
  page_bytes all p = All-take (λ b. b < 2 ^ 8) form.size (drop (p * form.size) bytes)
      (All-drop (λ b. b < 2 ^ 8) (p * form.size) bytes all)

  pub head_read : AreBytes bytes → (h : Head) → file.head ≡ Ok h → HeadRead h
  head_read all h e = at (is_odd_size form.size (length bytes)) refl e
    where
      at : (b : Bool) → is_odd_size form.size (length bytes) ≡ b →
          ◌≡◌ {A = Result Head MapRule} (if b then Err rule.Size else form.head_in (length bytes / form.size)
          (page_at form bytes 0)) (Ok h) → HeadRead h
      at true odd got = cc
      at false odd got =
          let w = whole_pages_are form.size (length bytes) is.some odd in
          let s = (is.heads (length bytes / form.size) w.some w.few).spelled (page_at form bytes 0) h (page_bytes all 0)
          (ap result_ok got) in
          record { whole = w; same = s.0.1; fits_head = s.0.0; spelled = s.1 }

  pub is_file : AreBytes bytes → IsFile file
  is_file all = record {
    some = λ h e. (head_read all h e).whole.some;
    head_fits = λ h e. (head_read all h e).fits_head;
    nodes_fit = λ p node e. (is.nodes.spelled (page_at form bytes p) node (page_bytes all p) e).0;
  }

-- ---- from what is read to what is spelled, and back

mutual
  pub written_as : (hash : Scheme) (on as' : ℕ → Node → Type 0) → ((p : ℕ) (n : Node) → on p n → as' p n) →
      (P : Placed) →
      IsWritten hash on P → IsWritten hash as' P
  written_as hash on as' f (Leaf p rs) w = f p _ w
  written_as hash on as' f (Inner p Ps) w = (f p _ w.0, row_as hash on as' f Ps w.1)

  pub row_as : (hash : Scheme) (on as' : ℕ → Node → Type 0) → ((p : ℕ) (n : Node) → on p n → as' p n) →
      (Ps : Row) →
      AreWritten hash on Ps → AreWritten hash as' Ps
  row_as hash on as' f no_more w = tt
  row_as hash on as' f (first P Ps) w = (written_as hash on as' f P w.0, row_as hash on as' f Ps w.1)

pub chain_as : (names as' : ℕ → ℕ → Type 0) → ((p g : ℕ) → names p g → as' p g) →
    (f : ℕ) (ps : List ℕ) → IsChain names f ps → IsChain as' f ps
chain_as names as' k f [] c = c
chain_as names as' k f (p ∷ ps) c = (c.0, c.1, k p c.0 c.2, chain_as names as' k c.0 ps c.3)

abbrev IsLow : ℕ → Type 0
IsLow p = p < 2 ^ 32

-- a chain of low pages begins at a low number, 0 if it is empty
begins_low : (names : ℕ → ℕ → Type 0) (f : ℕ) (ps : List ℕ) → IsChain names f ps → AllByRecursion IsLow ps → IsLow f
begins_low names f [] c low = omega (arith, c)
begins_low names f (p ∷ ps) c low = omega (arith, c.1, low.0)

chain_low_as : (names : ℕ → ℕ → Type 0) (f : ℕ) (ps : List ℕ) → IsChain names f ps → AllByRecursion IsLow ps →
    IsChain (λ p g. names p g × IsLow g) f ps
chain_low_as names f [] c low = c
chain_low_as names f (p ∷ ps) c low =
    (c.0, c.1, (c.2, begins_low names c.0 ps c.3 low.1), chain_low_as names c.0 ps c.3 low.1)

ok_again : (r : Result Head MapRule) (h : Head) → result_ok r ≡ Some h → r ≡ Ok h
ok_again (Ok g) h e = cc
ok_again (Err x) h e = cc

module _ (form : Form) (is : IsForm form) (hash : List ℕ → List ℕ) (bytes : List ℕ) where
  pub spelled_as_read : AreBytes bytes → (t : Tree) (b : ℕ) → StandsRead hash (file_of form bytes) t b →
      StandsForTree form hash bytes t b
  spelled_as_read all t b s =
      let h = head_read form is bytes all s.head s.sealed in
      record {
        head = s.head;
        size = h.whole.whole ∙ ap (λ n. n * form.size) (sym h.same);
        some = omega (arith, h.whole.some, h.same);
        few = omega (arith, h.whole.few, h.same);
        sealed = sym h.spelled;
        at_batch = s.at_batch;
        batch_fits = omega (arith, h.fits_head.batch, s.at_batch);
        count = s.count;
        placed = s.placed;
        root = s.root;
        tree = s.tree;
        lies = record {
          written = written s.placed s.lies.written;
          chain = s.lies.chain;
          linked = chain_as (λ p g. form.free_in (page_at form bytes p) ≡ Some g) (HasFree form bytes)
              (λ p g e. sym (is.frees.spelled (page_at form bytes p) g (page_bytes form is bytes all p) e).1)
              s.head.free s.lies.chain s.lies.linked;
          all = subst (λ n. AreAllPages n (whole_pages s.placed ++ s.lies.chain)) (sym h.same) s.lies.all;
        };
      }
    where
      written : (po : Option Placed) → IfSome po (IsRead (by form.version hash) (file_of form bytes).node) →
          IfSome po (IsWritten (by form.version hash) (HasNode form bytes))
      written None w = tt
      written (Some P) w =
          written_as (by form.version hash) (λ p n. form.node_in (page_at form bytes p) ≡ Some n) (HasNode form bytes)
          (λ p n e. sym (is.nodes.spelled (page_at form bytes p) n (page_bytes form is bytes all p) e).1) P w

  record WholeFits (count : ℕ) (po : Option Placed) : Type 0 where
    read : IfSome po (IsRead (by form.version hash) (file_of form bytes).node)
    root : IsRoot form.version count (option_map (link_of (by form.version hash)) po)

  read_as : ((xs : List ℕ) → length (hash xs) ≡ 32) → (count pages : ℕ) (t : Tree) → WellFormed t →
      HasLayers form.version t →
      count ≡ length (records t) → (po : Option Placed) → whole_tree po ≡ t →
      IfSome po (IsWritten (by form.version hash) (HasNode form bytes)) →
      AllByRecursion (λ p. (0 < p) × (p < pages)) (whole_pages po) →
      pages ≤ page_limit → WholeFits count po
  read_as sized count pages t well layers many None same written inside few = record {
    read = tt;
    root = many ∙ ap length (ap records (sym same) ∙ records-Empty);
  }
  read_as sized count pages t well layers many (Some P) same written inside few =
      let f = fits (by form.version hash) sized (HasNode form bytes) P _ true written
      (subst (every-Tree HasOneLevel) (sym same) well.one_level) refl
      (subst (λ u. level u ≤ 7) (sym same) well.shallow)
      (subst (λ u. IsFilledRoot (out-Tree u)) (sym same) well.filled)
      (subst (λ u. length (records u) ≤ count_limit) (sym same) well.few)
      (recursion_from_All (FitsRecord form.version) (records (tree_of P))
      (subst (λ u. All (FitsRecord form.version) (records u)) (sym same)
      (λ k d within. (well.each k d within, layers k d within))))
      (all_weaker (λ p. (0 < p) × (p < pages)) IsLow (λ p h. omega (arith, h.1, few)) (pages_of P) inside) in
      record {
        read = written_as (by form.version hash) (λ p n. HasNode form bytes p n × IsNode form.version n)
            (λ p n. form.node_in (page_at form bytes p) ≡ Some n)
            (λ p n both. ap form.node_in both.0 ∙ is.nodes.read_again n both.1) P f.both;
        root = (
          omega (arith, many, f.some, ap (λ u. length (records u)) same),
          not_first P inside,
          entry_count (by form.version hash) (tree_of P) ∙ count_told form.version (tree_of P)
              ∙ ap (told form.version) (ap (λ u. length (records u)) same ∙ sym many),
          f.said,
        );
      }
    where
      not_first : (P : Placed) → AllByRecursion (λ p. (0 < p) × (p < pages)) (pages_of P) → page_of P ≢ 0
      not_first (Leaf p rs) all e = let low : 0 < p = all.0.0 in omega (arith, low, e)
      not_first (Inner p Ps) all e = let low : 0 < p = all.0.0 in omega (arith, low, e)

  pub read_as_spelled : ((xs : List ℕ) → length (hash xs) ≡ 32) →
      (t : Tree) (b : ℕ) → WellFormed t → HasLayers form.version t → StandsForTree form hash bytes t b →
      StandsRead hash (file_of form bytes) t b
  read_as_spelled sized t b well layers s =
      let n = s.head.pages in
      let even : is_odd_size form.size (length bytes) ≡ false =
      are_whole_pages form.size (length bytes) n is.some s.size s.some s.few in
      let pages : length bytes / form.size ≡ n = ap (λ m. m / form.size) s.size ∙ mul-div_cancel n is.some in
      let inside = all_within n (whole_pages s.placed ++ s.lies.chain) s.lies.all in
      let w = read_as sized s.head.count n t well layers s.count s.placed s.tree s.lies.written
      (all_left (λ p. (0 < p) × (p < n)) (whole_pages s.placed) s.lies.chain inside) s.few in
      let low : AllByRecursion IsLow s.lies.chain = all_weaker (λ p. (0 < p) × (p < n)) IsLow
      (λ p h. omega (arith, h.1, s.few)) s.lies.chain
      (all_right (λ p. (0 < p) × (p < n)) (whole_pages s.placed) s.lies.chain inside) in
      let good : IsHead form.version s.head = record {
        batch = omega (arith, s.batch_fits, s.at_batch);
        count = omega (arith, s.count, well.few);
        pages = (s.some, s.few);
        root = subst (IsRoot form.version s.head.count) (sym s.root) w.root;
        free = begins_low (HasFree form bytes) s.head.free s.lies.chain s.lies.linked low;
      } in
      record {
        head = s.head;
        sealed = ap (λ o. if o then Err rule.Size else form.head_in (length bytes / form.size) (page_at form bytes 0))
            even
            ∙ (λ i. form.head_in (pages i) (s.sealed i))
            ∙ ok_again _ s.head ((is.heads n s.some s.few).read_again s.head (good, refl));
        at_batch = s.at_batch;
        count = s.count;
        placed = s.placed;
        tree = s.tree;
        root = s.root;
        lies = record {
          written = w.read;
          chain = s.lies.chain;
          linked = chain_as (λ p g. HasFree form bytes p g × IsLow g)
              (λ p g. form.free_in (page_at form bytes p) ≡ Some g)
              (λ p g both. ap form.free_in both.0 ∙ is.frees.read_again g both.1) s.head.free s.lies.chain
              (chain_low_as (HasFree form bytes) s.head.free s.lies.chain s.lies.linked low);
          all = subst (λ m. AreAllPages m (whole_pages s.placed ++ s.lies.chain)) (sym pages) s.lies.all;
        };
      }

-- ---- the law

pub agrees : (form : Form) → IsForm form → (hash : List ℕ → List ℕ) → ((xs : List ℕ) → length (hash xs) ≡ 32) →
    (bytes : List ℕ) → AreBytes bytes → AgreesWithFault form hash bytes
agrees form is hash sized bytes all =
    let good = is_file form is bytes all in
    record {
      map = λ e.
          let s = stands_without_fault hash (file_of form bytes) good e in (
            s.t,
            s.b,
            record {
              well = s.well;
              layers = s.layers;
              stands =
                  spelled_as_read form is hash bytes all s.t s.b s.stands;
            },
          );
      none = λ t b m. no_fault_where_it_stands hash (file_of form bytes) good t b m.well
          (read_as_spelled form is hash bytes sized t b m.well m.layers m.stands);
      only = λ t b m u c k.
          let one = one_map hash (file_of form bytes) good t u b c m.well k.well
          (read_as_spelled form is hash bytes sized t b m.well m.layers m.stands)
          (read_as_spelled form is hash bytes sized u c k.well k.layers k.stands) in
          (one.trees, one.batches);
    }
