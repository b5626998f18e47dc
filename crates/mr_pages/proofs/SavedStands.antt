-- The file that a map is saved as stands for it.
use Rattle.std.proofs.Common.{◌≡◌, ◌≢◌, ℕ, suc, ◌+◌, ◌*◌, ◌<◌, ◌≤◌, ◌^◌, true, List, [], ◌++◌, length, take, refl, sym, ap, subst, ◌∙◌, arith, append_assoc, length-append}
use Rattle.mr_tree.specs.Digest.{Scheme, by}
use Rattle.std.specs.Prelude.{⊤, All, Option, Some, None, option_map, IfSome}
use Rattle.std.specs.List.{flat_map, AllByRecursion}
use Rattle.std.proofs.lemmas.List.{append-nil, drop_at, take_at}
use Rattle.std.proofs.lemmas.List.Concat.{flat_map-append}
use Rattle.std.proofs.lemmas.List.Elements.{recursion_from_All}
use Rattle.mr_record.specs.Version.{told}
use Rattle.mr_tree.specs.Limits.{count_limit}
use Rattle.mr_tree.proofs.Told.{count_told}
use Rattle.mr_tree.specs.Tree.{level, records}
use Rattle.mr_tree.specs.WellFormed.{WellFormed, HasLayers, HasOneLevel, IsFilled, IsFilledRoot}
use Rattle.mr_tree.specs.declared.tree.Tree.{Tree}
use Rattle.mr_tree.specs.declared.tree.Tree.TheVariants as tree
use Rattle.mr_tree.specs.declared.tree.Tree.TheOpen as node
use Rattle.mr_tree.specs.declared.tree.Tree.TheViews.{out-Tree}
use Rattle.mr_tree.specs.declared.tree.Tree.TheFolds.{every-Tree}
use Rattle.mr_tree.proofs.Equations.{records-Inner, records-Leaf, records-Empty, entry_count}
use Rattle.mr_tree.proofs.Induction.{here-Leaf, here-Inner, every_child}
use Rattle.mr_pages.specs.Page.{Node, page_limit, IsNode, IsRoot, IsHead, Form, IsForm}
use Rattle.mr_pages.specs.File.{page_at}
use Rattle.mr_pages.specs.Stands as placed
use Rattle.mr_pages.specs.Stands.{Placed, Row, no_more, first, tree_of, trees_of, pages_of, all_pages, page_of, link_of, links_of, IsWritten, AreWritten, AreAllPages, whole_tree, whole_pages, HasNode, StandsForTree}
use Rattle.mr_pages.specs.Saved.{numbered_whole, nodes_of, all_nodes, whole_nodes, saved_head, saved_nodes, saved}
use Rattle.mr_pages.proofs.Lists.{all_left, all_weaker}
use Rattle.mr_pages.proofs.Chains.{all_within}
use Rattle.mr_pages.proofs.Building.{FilledAs, filled_below, of_images}
use Rattle.mr_pages.proofs.Fitting.{Fits, fits}
use Rattle.mr_pages.proofs.PageLaws.{FitsRecord}
use Rattle.mr_pages.proofs.Numbered.{IsNumbered, AreNumbered, whole_numbered}

-- ---- a tree has at most a fifth as many nodes as records, give or take the root

mutual
  few_nodes : (P : Placed) → every-Tree IsFilled (tree_of P) →
      5 * length (pages_of P) + 1 ≤ length (records (tree_of P))
  few_nodes (placed.Leaf p rs) filled =
      let full = (here-Leaf IsFilled rs filled).0 in
      omega (arith, full, ap length (records-Leaf rs))
  few_nodes (placed.Inner p Ps) filled =
      let full = (here-Inner IsFilled (trees_of Ps) filled).0 in
      let row = few_in_row Ps (every_child IsFilled (trees_of Ps) filled) in
      omega (arith, full, row, ap length (records-Inner (trees_of Ps) ∙ of_images (trees_of Ps)))

  few_in_row : (Ps : Row) → AllByRecursion (every-Tree IsFilled) (trees_of Ps) →
      5 * length (all_pages Ps) + length (trees_of Ps) ≤ length (flat_map records (trees_of Ps))
  few_in_row no_more filled = omega arith
  few_in_row (first P Ps) filled =
      let one = few_nodes P filled.0 in
      let rest = few_in_row Ps filled.1 in
      omega (
        arith,
        one,
        rest,
        length-append (pages_of P) (all_pages Ps),
        length-append (records (tree_of P))
            (flat_map records (trees_of Ps)),
      )

few_pages : (P : Placed) → FilledAs true (tree_of P) → 5 * length (pages_of P) ≤ length (records (tree_of P)) + 4
few_pages (placed.Leaf p rs) filled =
    let full = (subst IsFilledRoot (tree.outs-Leaf rs) filled).0 in
    omega (arith, full, ap length (records-Leaf rs))
few_pages (placed.Inner p Ps) filled =
    let full = (subst IsFilledRoot (tree.outs-Inner (trees_of Ps)) filled).0 in
    let row = few_in_row Ps (filled_below true (trees_of Ps) filled) in
    omega (arith, full, row, ap length (records-Inner (trees_of Ps) ∙ of_images (trees_of Ps)))

pub whole_few : (po : Option Placed) (t : Tree) → WellFormed t → whole_tree po ≡ t →
    suc (length (whole_pages po)) ≤ page_limit
whole_few None t well same = omega arith
whole_few (Some P) t well same =
    let most = few_pages P (subst (λ u. IsFilledRoot (out-Tree u)) (sym same) well.filled) in
    omega (arith, most, ap (λ u. length (records u)) same, well.few)

-- ---- the pages of the nodes

-- nothing is asked of what stands on a page
mutual
  anywhere : (hash : Scheme) (P : Placed) → IsWritten hash (λ p n. ⊤) P
  anywhere hash (placed.Leaf p rs) = tt
  anywhere hash (placed.Inner p Ps) = (tt, anywhere_all hash Ps)

  anywhere_all : (hash : Scheme) (Ps : Row) → AreWritten hash (λ p n. ⊤) Ps
  anywhere_all hash no_more = tt
  anywhere_all hash (first P Ps) = (anywhere hash P, anywhere_all hash Ps)

module _ (form : Form) (is : IsForm form) (hash : List ℕ → List ℕ) where
  abbrev spelled : List Node → List ℕ
  spelled = flat_map form.node_page

  page_between : (front page back : List ℕ) (p : ℕ) → length front ≡ p * form.size → length page ≡ form.size →
      page_at form (front ++ (page ++ back)) p ≡ page
  page_between front page back p before long =
      ap (take form.size) (drop_at front (page ++ back) (p * form.size) before) ∙ take_at page back form.size long

  record PutAt (bytes : List ℕ) (P : Placed) : Type 0 where
    written : IsWritten (by form.version hash) (HasNode form bytes) P
    long : length (spelled (nodes_of (by form.version hash) P)) ≡ length (pages_of P) * form.size

  record RowPutAt (bytes : List ℕ) (Ps : Row) : Type 0 where
    written : AreWritten (by form.version hash) (HasNode form bytes) Ps
    long : length (spelled (all_nodes (by form.version hash) Ps)) ≡ length (all_pages Ps) * form.size

  one_more : (m : ℕ) → suc m * form.size ≡ m * form.size + form.size
  one_more m = grind arith

  together : (m n : ℕ) → (m + n) * form.size ≡ m * form.size + n * form.size
  together m n = grind arith

  mutual
    put_at : (P : Placed) (n : ℕ) (front back bytes : List ℕ) → IsNumbered n P →
        IsWritten (by form.version hash) (λ p nd. ⊤ × IsNode form.version nd) P →
        length front ≡ n * form.size → bytes ≡ front ++ (spelled (nodes_of (by form.version hash) P) ++ back) →
        PutAt bytes P
    put_at (placed.Leaf p rs) n front back bytes at fit before whole =
        let page = form.node_page (node.Leaf rs) in
        let size = is.nodes.sized (node.Leaf rs) fit.1 in
        let here : page_at form bytes p ≡ page =
        (λ i. page_at form (whole i) (at i)) ∙ ap (λ one. page_at form (front ++ (one ++ back)) n) (append-nil page)
        ∙ page_between front page back n before size in
        record { written = here; long = ap length (append-nil page) ∙ size ∙ omega arith }
    put_at (placed.Inner p Ps) n front back bytes at fit before whole =
        let nd = node.Inner (links_of (by form.version hash) Ps) in
        let page = form.node_page nd in
        let size = is.nodes.sized nd fit.0.1 in
        let below = spelled (all_nodes (by form.version hash) Ps) in
        let split : bytes ≡ front ++ (page ++ (below ++ back)) =
        whole ∙ ap (λ bs. front ++ bs) (append_assoc page below back) in
        let r = row_put_at Ps (suc n) (front ++ page) back bytes at.1 fit.1
        (length-append front page ∙ (λ i. before i + size i) ∙ sym (one_more n))
        (split ∙ sym (append_assoc front page (below ++ back))) in
        record {
          written = (
            (λ i. page_at form (split i) (at.0 i))
                ∙ page_between front page (below ++ back) n before size,
            r.written,
          );
          long = length-append page below ∙ omega (arith, size, r.long, one_more (length (all_pages Ps)));
        }

    row_put_at : (Ps : Row) (n : ℕ) (front back bytes : List ℕ) → AreNumbered n Ps →
        AreWritten (by form.version hash) (λ p nd. ⊤ × IsNode form.version nd) Ps →
        length front ≡ n * form.size → bytes ≡ front ++ (spelled (all_nodes (by form.version hash) Ps) ++ back) →
        RowPutAt bytes Ps
    row_put_at no_more n front back bytes at fit before whole = record { written = tt; long = omega arith }
    row_put_at (first P Ps) n front back bytes at fit before whole =
        let one = spelled (nodes_of (by form.version hash) P) in
        let rest = spelled (all_nodes (by form.version hash) Ps) in
        let both : spelled (nodes_of (by form.version hash) P ++ all_nodes (by form.version hash) Ps) ≡ one ++ rest =
        flat_map-append form.node_page (nodes_of (by form.version hash) P) (all_nodes (by form.version hash) Ps) in
        let split : bytes ≡ front ++ (one ++ (rest ++ back)) =
        whole ∙ ap (λ bs. front ++ (bs ++ back)) both ∙ ap (λ bs. front ++ bs) (append_assoc one rest back) in
        let p = put_at P n front (rest ++ back) bytes at.0 fit.0 before split in
        let m = length (pages_of P) in
        let q = row_put_at Ps (n + m) (front ++ one) back bytes at.1 fit.1
        (length-append front one ∙ (λ i. before i + p.long i) ∙ sym (together n m))
        (split ∙ sym (append_assoc front one (rest ++ back))) in
        record {
          written = (p.written, q.written);
          long = ap length both ∙ length-append one rest ∙ (λ i. p.long i + q.long i)
              ∙ sym (together m (length (all_pages Ps)))
              ∙ ap (λ k. k * form.size) (sym (length-append (pages_of P) (all_pages Ps)));
        }

  -- ---- the whole file

  record WholePut (bytes : List ℕ) (po : Option Placed) : Type 0 where
    written : IfSome po (IsWritten (by form.version hash) (HasNode form bytes))
    long : length (spelled (whole_nodes (by form.version hash) po)) ≡ length (whole_pages po) * form.size

  whole_fits : ((xs : List ℕ) → length (hash xs) ≡ 32) → (t : Tree) → WellFormed t → HasLayers form.version t →
      (P : Placed) → tree_of P ≡ t →
      AreAllPages (suc (length (pages_of P))) (pages_of P ++ []) → Fits (by form.version hash) (λ p n. ⊤) P
  whole_fits sized t well layers P same all =
      fits (by form.version hash) sized (λ p n. ⊤) P _ true (anywhere (by form.version hash) P)
      (subst (every-Tree HasOneLevel) (sym same) well.one_level) refl
      (subst (λ u. level u ≤ 7) (sym same) well.shallow) (subst (λ u. IsFilledRoot (out-Tree u)) (sym same) well.filled)
      (subst (λ u. length (records u) ≤ count_limit) (sym same) well.few)
      (recursion_from_All (FitsRecord form.version) (records (tree_of P))
      (subst (λ u. All (FitsRecord form.version) (records u)) (sym same)
      (λ k d within. (well.each k d within, layers k d within))))
      (all_weaker (λ p. (0 < p) × (p < suc (length (pages_of P)))) (λ p. p < 2 ^ 32)
      (λ p h. omega (arith, h.1, whole_few (Some P) t well same)) (pages_of P)
      (all_left (λ p. (0 < p) × (p < suc (length (pages_of P)))) (pages_of P) []
      (all_within (suc (length (pages_of P))) (pages_of P ++ []) all)))

  -- what is known of the head, before its page is spelled
  whole_root : ((xs : List ℕ) → length (hash xs) ≡ 32) → (t : Tree) → WellFormed t → HasLayers form.version t →
      (po : Option Placed) → whole_tree po ≡ t →
      AreAllPages (suc (length (whole_pages po))) (whole_pages po ++ []) →
      IsRoot form.version (length (records t)) (option_map (link_of (by form.version hash)) po)
  whole_root sized t well layers None same all = ap (λ u. length (records u)) (sym same) ∙ ap length records-Empty
  whole_root sized t well layers (Some P) same all =
      let f = whole_fits sized t well layers P same all in
      let low = (all_left (λ p. (0 < p) × (p < suc (length (pages_of P)))) (pages_of P) []
      (all_within (suc (length (pages_of P))) (pages_of P ++ []) all)) in (
        omega (arith, f.some, ap (λ u. length (records u)) same),
        not_first P (suc (length (pages_of P))) low,
        entry_count (by form.version hash) (tree_of P) ∙ count_told form.version (tree_of P)
            ∙ ap (told form.version) (ap (λ u. length (records u)) same),
        f.said,
      )
    where
      not_first : (P : Placed) (m : ℕ) → AllByRecursion (λ p. (0 < p) × (p < m)) (pages_of P) → page_of P ≢ 0
      not_first (placed.Leaf p rs) m all e = let low : 0 < p = all.0.0 in omega (arith, low, e)
      not_first (placed.Inner p Ps) m all e = let low : 0 < p = all.0.0 in omega (arith, low, e)

  whole_put : ((xs : List ℕ) → length (hash xs) ≡ 32) → (t : Tree) → WellFormed t → HasLayers form.version t →
      (head bytes : List ℕ) → length head ≡ form.size →
      (po : Option Placed) → whole_tree po ≡ t → IfSome po (IsNumbered 1) →
      AreAllPages (suc (length (whole_pages po))) (whole_pages po ++ []) →
      bytes ≡ head ++ spelled (whole_nodes (by form.version hash) po) →
      WholePut bytes po
  whole_put sized t well layers head bytes long None same at all whole = record { written = tt; long = omega arith }
  whole_put sized t well layers head bytes long (Some P) same at all whole =
      let f = whole_fits sized t well layers P same all in
      let p = put_at P 1 head [] bytes at f.both (long ∙ omega arith)
      (whole ∙ ap (λ bs. head ++ bs) (sym (append-nil (spelled (nodes_of (by form.version hash) P))))) in
      record { written = p.written; long = p.long }

  pub saved_head_fits : ((xs : List ℕ) → length (hash xs) ≡ 32) →
      (t : Tree) (batch : ℕ) → WellFormed t → HasLayers form.version t → batch < 2 ^ 64 →
      IsHead form.version (saved_head form hash t batch)
  saved_head_fits sized t batch well layers low =
      let w = whole_numbered t well.one_level in
      let po = numbered_whole t in
      record {
        batch = low;
        count = well.few;
        pages = (omega arith, whole_few po t well w.trees);
        root = whole_root sized t well layers po w.trees w.all;
        free = omega arith;
      }

  pub saved_stands : ((xs : List ℕ) → length (hash xs) ≡ 32) → (t : Tree) (batch : ℕ) → WellFormed t →
      HasLayers form.version t → batch < 2 ^ 64 → StandsForTree form hash (saved form hash t batch) t batch
  saved_stands sized t batch well layers low =
      let w = whole_numbered t well.one_level in
      let po = numbered_whole t in
      let head = saved_head form hash t batch in
      let few = whole_few po t well w.trees in
      let good = saved_head_fits sized t batch well layers low in
      let law = is.heads head.pages (omega arith) few in
      let page = form.head_page head in
      let size = law.sized head (good, refl) in
      let bytes = saved form hash t batch in
      let p = whole_put sized t well layers page bytes size po w.trees w.is w.all refl in
      record {
        head = head;
        size = length-append page (saved_nodes form hash t)
            ∙ omega (arith, size, p.long, one_more (length (whole_pages po)));
        some = omega arith;
        few = few;
        sealed = page_between [] page (saved_nodes form hash t) 0 (omega arith) size;
        at_batch = refl;
        batch_fits = low;
        count = refl;
        placed = po;
        root = refl;
        tree = w.trees;
        lies = record { written = p.written; chain = []; linked = refl; all = w.all };
      }
