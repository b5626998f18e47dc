-- Trees with their pages side by side, as rows and as lists.
use Rattle.std.proofs.Common.{◌≡◌, List, [], ◌∷◌, ◌++◌, map, refl, ap}
use Rattle.mr_tree.specs.Digest.{Scheme}
use Rattle.mr_pages.specs.Stands.{Placed, Row, no_more, first, tree_of, trees_of, pages_of, all_pages, link_of, links_of}
use Rattle.mr_edit.specs.Held.{trees, pages}

abbrev pub row_of : List Placed → Row
row_of [] = no_more
row_of (P ∷ Ps) = first P (row_of Ps)

abbrev pub parts_of : Row → List Placed
parts_of no_more = []
parts_of (first P R) = P ∷ parts_of R

pub row_again : (R : Row) → row_of (parts_of R) ≡ R
row_again no_more = refl
row_again (first P R) = ap (first P) (row_again R)

pub row_trees : (Ps : List Placed) → trees_of (row_of Ps) ≡ trees Ps
row_trees [] = refl
row_trees (P ∷ Ps) = ap (λ ts. tree_of P ∷ ts) (row_trees Ps)

pub row_pages : (Ps : List Placed) → all_pages (row_of Ps) ≡ pages Ps
row_pages [] = refl
row_pages (P ∷ Ps) = ap (λ ps. pages_of P ++ ps) (row_pages Ps)

pub row_links : (scheme : Scheme) (Ps : List Placed) → links_of scheme (row_of Ps) ≡ map (link_of scheme) Ps
row_links scheme [] = refl
row_links scheme (P ∷ Ps) = ap (λ ls. link_of scheme P ∷ ls) (row_links scheme Ps)
