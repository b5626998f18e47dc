-- The pages of a tree's nodes, put one behind the other.
use Rattle.std.proofs.Common.{◌≡◌, ◌≢◌, ℕ, suc, ◌+◌, ◌*◌, ◌<◌, ◌≤◌, List, [], ◌∷◌, ◌++◌, length, map, take, drop, get_or, replicate, refl, sym, ap, subst, ◌∙◌, arith, append_assoc, length-append}
use Rattle.mr_tree.specs.Digest.{Scheme, by}
use Rattle.std.specs.Prelude.{All}
use Rattle.std.specs.List.{flat_map, AllByRecursion}
use Rattle.std.proofs.lemmas.List.{append-nil, map-append, map_more, length-replicate, take_at, drop_at, take-append-drop, length-map}
use Rattle.std.proofs.lemmas.List.Concat.{flat_map-append}
use Rattle.std.proofs.lemmas.List.Elements.{recursion_from_All, All-from_recursion}
use Rattle.mr_record.specs.declared.record.Record.{Record}
use Rattle.mr_record.specs.declared.version.Version.{Version}
use Rattle.mr_tree.specs.Limits.{level_limit, inner_limit, leaf_limit}
use Rattle.mr_tree.specs.Tree.{level, first_level}
use Rattle.mr_tree.specs.WellFormed.{HasOneLevel}
use Rattle.mr_tree.specs.View as view
use Rattle.mr_tree.specs.View.{MayTell}
use Rattle.mr_tree.specs.declared.child.Child.{Child}
use Rattle.mr_tree.specs.declared.tree.Tree.{Tree}
use Rattle.mr_tree.specs.declared.tree.Tree.TheVariants as tree
use Rattle.mr_tree.specs.declared.tree.Tree.TheOpen as node
use Rattle.mr_tree.specs.declared.tree.Tree.TheViews.{out-Tree}
use Rattle.mr_tree.specs.declared.tree.Tree.TheFolds.{every-Tree}
use Rattle.mr_tree.proofs.Equations.{level-Inner, entry_level}
use Rattle.mr_tree.proofs.Induction.{here-Leaf, here-Inner, every_child}
use Rattle.mr_pages.specs.Page.{Link, Form, page_limit, node_entry}
use Rattle.mr_pages.specs.Stands as placed
use Rattle.mr_pages.specs.Stands.{Placed, Row, no_more, first, pages_of, all_pages, links_of, trees_of}
use Rattle.std.proofs.Math.Seq.{take-length}
use Rattle.mr_pages.proofs.Lists.{all_weaker}
use Rattle.mr_pages.specs.Saved.{number_row, numbered, nodes_of, all_nodes}
use Rattle.mr_pages.specs.Walking.{child_link, page_node}
use Rattle.mr_pages.specs.private.Putting.{AreSiblings, HasEntries, CanBePut, IsPut, some_row, PutSoFar}
use Rattle.mr_pages.proofs.Building.{entry_leaf, entry_inner, inner_there, length_row}
use Rattle.mr_pages.proofs.Numbered.{numbered-Leaf, numbered-Inner, tree_numbered}

-- ---- rows side by side

abbrev pub beside : Row → Row → Row
beside no_more Qs = Qs
beside (first P Ps) Qs = first P (beside Ps Qs)

pub pages_beside : (Ps Qs : Row) → all_pages (beside Ps Qs) ≡ all_pages Ps ++ all_pages Qs
pages_beside no_more Qs = refl
pages_beside (first P Ps) Qs =
    ap (λ ps. pages_of P ++ ps) (pages_beside Ps Qs) ∙ sym (append_assoc (pages_of P) (all_pages Ps) (all_pages Qs))

pub nodes_beside : (hash : Scheme) (Ps Qs : Row) →
    all_nodes hash (beside Ps Qs) ≡ all_nodes hash Ps ++ all_nodes hash Qs
nodes_beside hash no_more Qs = refl
nodes_beside hash (first P Ps) Qs =
    ap (λ ns. nodes_of hash P ++ ns) (nodes_beside hash Ps Qs)
    ∙ sym (append_assoc (nodes_of hash P) (all_nodes hash Ps) (all_nodes hash Qs))

pub links_beside : (hash : Scheme) (Ps Qs : Row) →
    links_of hash (beside Ps Qs) ≡ links_of hash Ps ++ links_of hash Qs
links_beside hash no_more Qs = refl
links_beside hash (first P Ps) Qs = ap (λ ls. placed.link_of hash P ∷ ls) (links_beside hash Ps Qs)

pub row_beside : (n : ℕ) (fs gs : List (ℕ → Placed)) →
    number_row n (fs ++ gs) ≡ beside (number_row n fs) (number_row (n + length (all_pages (number_row n fs))) gs)
row_beside n [] gs = let same : n ≡ n + 0 = omega arith in ap (λ m. number_row m gs) same
row_beside n (f ∷ fs) gs =
    let m = length (pages_of (f n)) in
    let rest = number_row (n + m) fs in
    let same : (n + m) + length (all_pages rest) ≡ n + length (pages_of (f n) ++ all_pages rest) =
    omega (arith, length-append (pages_of (f n)) (all_pages rest)) in
    ap (first (f n)) (row_beside (n + m) fs gs ∙ ap (λ k. beside rest (number_row k gs)) same)

-- ---- pages in bytes

sum_times : (a b size : ℕ) → (a + b) * size ≡ a * size + b * size
sum_times a b size = grind arith

added : (a b c : ℕ) → (a + b) + c ≡ a + (b + c)
added a b c = omega arith

-- ---- a leaf

pub leaf_entries : (t : Tree) (rs : List Record) → CanBePut t → t ≡ tree.Leaf rs →
    (1 ≤ length rs) × (length rs ≤ leaf_limit)
leaf_entries t rs can is = here-Leaf HasEntries rs (subst (every-Tree HasEntries) is can.entries)

pub leaf_put : (form : Form) (hash : List ℕ → List ℕ) (t : Tree) (rs : List Record) (page : ℕ) (old new : List ℕ)
    (child : Child) →
    t ≡ tree.Leaf rs → new ≡ old ++ form.node_page (node.Leaf rs) → length new ≡ length old + form.size →
    child_link child ≡ record { page = page; entry = node_entry (by form.version hash) (node.Leaf rs) } →
    IsPut form hash t page old new child
leaf_put form hash t rs page old new child is put long said =
    let made : numbered t page ≡ placed.Leaf page rs = ap (λ u. numbered u page) is
    ∙ ap (λ f. f page) (numbered-Leaf rs) in
    record {
      pages = put ∙ ap (λ bs. old ++ bs) (sym (append-nil (form.node_page (node.Leaf rs)))
          ∙ ap (λ P. flat_map form.node_page (nodes_of (by form.version hash) P)) (sym made));
      size = omega (arith, long, ap (λ P. length (pages_of P) * form.size) made);
      link = said ∙ (λ i. record { page = page; entry = entry_leaf (by form.version hash) rs i })
          ∙ ap (placed.link_of (by form.version hash)) (sym made);
    }

-- put in the place of the zeros that stood there
pub leaf_put_at : {shows : view.Node} {slice : List ℕ} (form : Form) (hash : List ℕ → List ℕ) (t : Tree)
    (rs : List Record) (page : ℕ) (old now new : List ℕ) (place : ℕ) (child : Child) → t ≡ tree.Leaf rs →
    length old ≡ place → now ≡ old ++ replicate form.size 0 → shows ≡ node.Leaf rs → slice ≡ now →
    new ≡ (take place slice ++ form.node_page (page_node shows)) ++ drop (place + form.size) slice →
    length new ≡ length slice →
    child_link child ≡ record { page = page; entry = node_entry (by form.version hash) (page_node shows) } →
    IsPut form hash t page old new child
leaf_put_at {slice = slice} form hash t rs page old now new place child is here zeros shows_is slice_is put long said =
    let zero : List ℕ = replicate form.size 0 in
    let mine : List ℕ = form.node_page (node.Leaf rs) in
    let all : slice ≡ old ++ zero = slice_is ∙ zeros in
    let none : old ++ zero ≡ (old ++ zero) ++ [] = sym (append-nil (old ++ zero)) in
    let front : take place slice ≡ old = ap (take place) all ∙ take_at old zero place here in
    let back : drop (place + form.size) slice ≡ [] =
    ap (drop (place + form.size)) (all ∙ none)
    ∙ drop_at (old ++ zero) [] (place + form.size)
    (omega (arith, length-append old zero, length-replicate {A = ℕ} form.size 0, here)) in
    let whole : new ≡ old ++ mine =
    put ∙ (λ i. (front i ++ form.node_page (page_node (shows_is i))) ++ back i) ∙ append-nil (old ++ mine) in
    leaf_put form hash t rs page old new child is whole
    (omega (arith, long, ap length all, length-append old zero, length-replicate {A = ℕ} form.size 0))
    (said ∙ (λ i. record { page = page; entry = node_entry (by form.version hash) (page_node (shows_is i)) }))

-- ---- an inner node, child by child

pub put_none : (form : Form) (hash : List ℕ → List ℕ) (ts : List Tree) (page : ℕ) (old now : List ℕ)
    (links : List Child) → now ≡ old ++ replicate form.size 0 → links ≡ [] →
    PutSoFar form hash ts 0 page old now links
put_none form hash ts page old now links put none = record {
  pages = put ∙ sym (append-nil (old ++ replicate form.size 0));
  links_are = ap (map child_link) none;
  size = omega (
    arith,
    ap length put,
    length-append old (replicate form.size 0),
    length-replicate {A = ℕ} form.size 0,
  );
}

-- so many pages stand behind the node's parent, where the next child begins
pub next_behind : (form : Form) (hash : List ℕ → List ℕ) (ts : List Tree) (i page at : ℕ) (old now long : List ℕ)
    (links : List Child) → length old ≡ at → long ≡ now → PutSoFar form hash ts i page old now links →
    length long ≡ at + suc (length (all_pages (some_row (suc page) ts i))) * form.size
next_behind form hash ts i page at old now long links here same so_far =
    ap length same ∙ so_far.size ∙ (λ k. here k + suc (length (all_pages (some_row (suc page) ts i))) * form.size)

-- the zeros that stand for the node's page are there
pub room_for : (form : Form) (hash : List ℕ → List ℕ) (ts : List Tree) (i page : ℕ) (old now : List ℕ)
    (links : List Child) → PutSoFar form hash ts i page old now links → length old + form.size ≤ length now
room_for form hash ts i page old now links so_far =
    let zeros : List ℕ = replicate form.size 0 in
    omega (
      arith,
      ap length so_far.pages,
      length-append (old ++ zeros) (flat_map form.node_page
          (all_nodes (by form.version hash) (some_row (suc page) ts i))),
      length-append old zeros,
      length-replicate {A = ℕ} form.size 0,
    )

split_row : (n : ℕ) (ts : List Tree) (i : ℕ) (t : Tree) → i < length ts → t ≡ get_or ts i t →
    some_row n ts (i + 1) ≡ beside (some_row n ts i) (first
    (numbered t (n + length (all_pages (some_row n ts i)))) no_more)
split_row n ts i t within is =
    ap (number_row n) (map_more numbered ts i t within ∙ ap (λ u. map numbered (take i ts) ++ numbered u ∷ []) (sym is))
    ∙ row_beside n (map numbered (take i ts)) (numbered t ∷ [])

pub one_longer : (n : ℕ) (ts : List Tree) (i : ℕ) (t : Tree) → i < length ts → t ≡ get_or ts i t →
    length (all_pages (some_row n ts (i + 1)))
    ≡ length (all_pages (some_row n ts i)) + length (pages_of (numbered t (n + length (all_pages (some_row n ts i)))))
one_longer n ts i t within is =
    let P = numbered t (n + length (all_pages (some_row n ts i))) in
    ap (λ R. length (all_pages R)) (split_row n ts i t within is)
    ∙ ap length (pages_beside (some_row n ts i) (first P no_more))
    ∙ length-append (all_pages (some_row n ts i)) (pages_of P ++ [])
    ∙ ap (λ ps. length (all_pages (some_row n ts i)) + length ps) (append-nil (pages_of P))

no_longer : (n : ℕ) (ts : List Tree) (i : ℕ) →
    length (all_pages (some_row n ts i)) ≤ length (all_pages (number_row n (map numbered ts)))
no_longer n ts i =
    let front = map numbered (take i ts) in
    let rest = map numbered (drop i ts) in
    let back = number_row (n + length (all_pages (number_row n front))) rest in
    let whole : map numbered ts ≡ front ++ rest = ap (map numbered) (sym (take-append-drop i ts))
    ∙ map-append numbered (take i ts) (drop i ts) in
    let split : all_pages (number_row n (map numbered ts)) ≡ all_pages (number_row n front) ++ all_pages back =
    ap (λ fs. all_pages (number_row n fs)) whole ∙ ap all_pages (row_beside n front rest)
    ∙ pages_beside (number_row n front) back in
    omega (arith, ap length split, length-append (all_pages (number_row n front)) (all_pages back))

pub inner_pages : (ts : List Tree) (page : ℕ) →
    length (pages_of (numbered (tree.Inner ts) page)) ≡ suc
    (length (all_pages (number_row (suc page) (map numbered ts))))
inner_pages ts page = ap (λ f. length (pages_of (f page))) (numbered-Inner ts)

pub child_room : (t : Tree) (ts : List Tree) (page i next : ℕ) (one : Tree) → t ≡ tree.Inner ts → i < length ts →
    one ≡ get_or ts i one →
    next ≡ suc page + length (all_pages (some_row (suc page) ts i)) →
    page + length (pages_of (numbered t page)) ≤ page_limit →
    next + length (pages_of (numbered one next)) ≤ page_limit
child_room t ts page i next one is within at same room =
    let all : length (pages_of (numbered t page)) ≡ suc (length (all_pages (number_row (suc page) (map numbered ts)))) =
    ap (λ u. length (pages_of (numbered u page))) is ∙ inner_pages ts page in
    let more = one_longer (suc page) ts i one within at in
    let most = no_longer (suc page) ts (i + 1) in
    omega (arith, same, room, all, more, most, ap (λ n. length (pages_of (numbered one n))) same)

pub child_can : (t : Tree) (ts : List Tree) (i : ℕ) (one : Tree) → t ≡ tree.Inner ts → CanBePut t → i < length ts →
    one ≡ get_or ts i one → CanBePut one
child_can t ts i one is can within at =
    let levels = subst (every-Tree HasOneLevel) is can.one_level in
    let here = here-Inner HasOneLevel ts levels i one within in
    let high : level (tree.Inner ts) ≤ level_limit = subst (λ u. level u ≤ level_limit) is can.shallow in
    let same : level (get_or ts i one) ≡ first_level (map level ts) = here.1 in
    record {
      there = subst (λ u. u ≢ tree.Empty) (sym at) here.0;
      one_level = subst (every-Tree HasOneLevel) (sym at)
          (All-from_recursion (every-Tree HasOneLevel) ts (every_child HasOneLevel ts levels) i one within);
      entries = subst (every-Tree HasEntries) (sym at)
          (All-from_recursion (every-Tree HasEntries) ts
          (every_child HasEntries ts (subst (every-Tree HasEntries) is can.entries)) i one within);
      shallow = omega (arith, same, high, level-Inner ts, ap level at);
    }

pub child_lower : (t : Tree) (ts : List Tree) (i : ℕ) (one : Tree) → t ≡ tree.Inner ts → CanBePut t → i < length ts →
    one ≡ get_or ts i one → level one < level t
child_lower t ts i one is can within at =
    let levels = subst (every-Tree HasOneLevel) is can.one_level in
    let same : level (get_or ts i one) ≡ first_level (map level ts) =
    (here-Inner HasOneLevel ts levels i one within).1 in
    omega (arith, same, level-Inner ts, ap level at, ap level is)

pub put_one : (form : Form) (hash : List ℕ → List ℕ) (ts : List Tree) (i page next : ℕ) (old now more : List ℕ)
    (links links' : List Child) (one : Tree) (child : Child) →
    i < length ts → one ≡ get_or ts i one → next ≡ suc page + length (all_pages (some_row (suc page) ts i)) →
    PutSoFar form hash ts i page old now links → IsPut form hash one next now more child →
    links' ≡ links ++ child ∷ [] →
    PutSoFar form hash ts (i + 1) page old more links'
put_one form hash ts i page next old now more links links' one child within at same so_far put push =
    let n = suc page in
    let R = some_row n ts i in
    let P = numbered one (n + length (all_pages R)) in
    let there : numbered one next ≡ P = ap (numbered one) same in
    let split = split_row n ts i one within at in
    record {
      pages = put.pages
          ∙ (λ k. so_far.pages k ++ flat_map form.node_page (nodes_of (by form.version hash) (there k)))
          ∙ append_assoc (old ++ replicate form.size 0) (flat_map form.node_page (all_nodes (by form.version hash) R))
          (flat_map form.node_page (nodes_of (by form.version hash) P))
          ∙ ap (λ bs. (old ++ replicate form.size 0) ++ bs)
          (sym (flat_map-append form.node_page (all_nodes (by form.version hash) R) (nodes_of (by form.version hash) P))
          ∙ ap (λ ns. flat_map form.node_page (all_nodes (by form.version hash) R ++ ns))
          (sym (append-nil (nodes_of (by form.version hash) P)))
          ∙ ap (flat_map form.node_page) (sym (nodes_beside (by form.version hash) R (first P no_more))
          ∙ ap (all_nodes (by form.version hash)) (sym split)));
      links_are = ap (map child_link) push ∙ map-append child_link links (child ∷ [])
          ∙ (λ k. so_far.links_are k ++ (put.link ∙ ap (placed.link_of (by form.version hash)) there) k ∷ [])
          ∙ sym (links_beside (by form.version hash) R (first P no_more))
          ∙ ap (links_of (by form.version hash)) (sym split);
      size =
          let before = suc (length (all_pages R)) in
          let more_pages = length (pages_of P) in
          let all : before + more_pages ≡ suc (length (all_pages (some_row n ts (i + 1)))) =
          omega (arith, one_longer n ts i one within at) in
          put.size ∙ (λ k. so_far.size k + length (pages_of (there k)) * form.size)
          ∙ added (length old) (before * form.size) (more_pages * form.size)
          ∙ ap (λ m. length old + m) (sym (sum_times before more_pages form.size) ∙ ap (λ m. m * form.size) all);
    }

-- ---- an inner node, whole

levels_of : (hash : Scheme) (n : ℕ) (Ps : Row) (cs : List Child) → map child_link cs ≡ links_of hash Ps →
    AllByRecursion (λ t. level t ≡ n) (trees_of Ps) → AllByRecursion (λ (c : Child). c.level ≡ n) cs
levels_of hash n no_more [] e all = tt
levels_of hash n no_more (c ∷ cs) e all = cc
levels_of hash n (first P Ps) [] e all = cc
levels_of hash n (first P Ps) (c ∷ cs) e all =
    let one : child_link c ≡ placed.link_of hash P = cc in
    let rest : map child_link cs ≡ links_of hash Ps = cc in (
      ap (λ (l : Link). l.entry.level) one ∙ entry_level hash (placed.tree_of P)
          ∙ all.0,
      levels_of hash n Ps cs rest all.1,
    )

inner_same : (xs ys : List Tree) → tree.Inner xs ≡ tree.Inner ys → xs ≡ ys
inner_same xs ys e =
    let opened : ◌≡◌ {A = node.Tree-F Tree} (node.Inner xs) (node.Inner ys) =
    sym (tree.outs-Inner xs) ∙ ap out-Tree e ∙ tree.outs-Inner ys in
    cc

-- the children are the trees that were put
pub row_trees : (ts : List Tree) (page : ℕ) → placed.tree_of (numbered (tree.Inner ts) page) ≡ tree.Inner ts →
    trees_of (number_row (suc page) (map numbered ts)) ≡ ts
row_trees ts page e = inner_same _ ts (sym (ap (λ f. placed.tree_of (f page)) (numbered-Inner ts)) ∙ e)

-- the children of an inner node, once all were put
pub record AllPut (ts : List Tree) (links : List Child) : Type 0 where
  pub count : length links ≡ length ts
  pub levels : AllByRecursion (λ (c : Child). c.level + 1 ≡ level (tree.Inner ts)) links
  pub few : (1 ≤ length ts) × (length ts ≤ inner_limit)
  pub high : (1 ≤ level (tree.Inner ts)) × (level (tree.Inner ts) ≤ level_limit)

all_put : (form : Form) (hash : List ℕ → List ℕ) (t : Tree) (ts : List Tree) (page : ℕ) (old now : List ℕ)
    (links : List Child) →
    t ≡ tree.Inner ts → CanBePut t → PutSoFar form hash ts (length ts) page old now links → AllPut ts links
all_put form hash t ts page old now links is can so_far =
    let levels = subst (every-Tree HasOneLevel) is can.one_level in
    let high : level (tree.Inner ts) ≤ level_limit = subst (λ u. level u ≤ level_limit) is can.shallow in
    let entries = here-Inner HasEntries ts (subst (every-Tree HasEntries) is can.entries) in
    let numbers = tree_numbered (tree.Inner ts) levels (inner_there ts) page in
    let R = number_row (suc page) (map numbered ts) in
    let all : some_row (suc page) ts (length ts) ≡ R = ap (λ us. number_row (suc page) (map numbered us))
    (take-length ts) in
    let links_are : map child_link links ≡ links_of (by form.version hash) R = so_far.links_are
    ∙ ap (links_of (by form.version hash)) all in
    let trees : trees_of R ≡ ts = row_trees ts page numbers.trees in
    let each : AllByRecursion (λ t. level t ≡ first_level (map level ts)) ts =
    recursion_from_All (λ t. level t ≡ first_level (map level ts)) ts
    (λ k d within. (here-Inner HasOneLevel ts levels k d within).1) in
    record {
      count = sym (length-map links child_link) ∙ ap length links_are ∙ sym (length_row (by form.version hash) R)
          ∙ ap length trees;
      levels = all_weaker (λ (c : Child). c.level ≡ first_level (map level ts))
          (λ (c : Child). c.level + 1 ≡ level (tree.Inner ts))
          (λ c e. omega (arith, e, level-Inner ts)) links
          (levels_of (by form.version hash) (first_level (map level ts)) R links links_are
          (subst (AllByRecursion (λ t. level t ≡ first_level (map level ts))) (sym trees) each));
      few = entries;
      high = (omega (arith, level-Inner ts), high);
    }

inner_put_at : (form : Form) (hash : List ℕ → List ℕ) (t : Tree) (ts : List Tree) (page : ℕ) (old now new : List ℕ)
    (place : ℕ) (links : List Child) (child : Child) →
    t ≡ tree.Inner ts → CanBePut t → PutSoFar form hash ts (length ts) page old now links →
    length old ≡ place →
    new ≡ (take place now ++ form.node_page (node.Inner (map child_link links))) ++ drop
    (place + form.size) now →
    length new ≡ length now →
    child_link child ≡ record
    { page = page; entry = node_entry (by form.version hash) (node.Inner (map child_link links)) } →
    IsPut form hash t page old new child
inner_put_at form hash t ts page old now new place links child is can so_far here put long said =
    let R = number_row (suc page) (map numbered ts) in
    let all : some_row (suc page) ts (length ts) ≡ R = ap (λ us. number_row (suc page) (map numbered us))
    (take-length ts) in
    let links_are : map child_link links ≡ links_of (by form.version hash) R = so_far.links_are
    ∙ ap (links_of (by form.version hash)) all in
    let made : numbered t page ≡ placed.Inner page R = ap (λ u. numbered u page) is
    ∙ ap (λ f. f page) (numbered-Inner ts) in
    let zeros : List ℕ = replicate form.size 0 in
    let below = flat_map form.node_page (all_nodes (by form.version hash) R) in
    let whole : now ≡ (old ++ zeros) ++ below =
    so_far.pages ∙ ap (λ Q. (old ++ zeros) ++ flat_map form.node_page (all_nodes (by form.version hash) Q)) all in
    let front : take place now ≡ old =
    ap (take place) (whole ∙ append_assoc old zeros below) ∙ take_at old (zeros ++ below) place here in
    let back : drop (place + form.size) now ≡ below =
    ap (drop (place + form.size)) whole
    ∙ drop_at (old ++ zeros) below (place + form.size)
    (omega (arith, length-append old zeros, length-replicate {A = ℕ} form.size 0, here)) in
    let mine = form.node_page (node.Inner (links_of (by form.version hash) R)) in
    record {
      pages = put
          ∙ (λ i. (front i ++ form.node_page (node.Inner (links_are i))) ++ back i)
          ∙ append_assoc old mine below
          ∙ ap (λ P. old ++ flat_map form.node_page (nodes_of (by form.version hash) P)) (sym made);
      size =
          long ∙ so_far.size ∙ ap (λ Q. length old + suc (length (all_pages Q)) * form.size) all
          ∙ ap (λ P. length old + length (pages_of P) * form.size) (sym made);
      link = said
          ∙ (λ i. record {
            page = page;
            entry = (ap (λ ls. node_entry (by form.version hash) (node.Inner ls)) links_are
                ∙ entry_inner (by form.version hash) R) i;
          })
          ∙ ap (placed.link_of (by form.version hash)) (sym made);
    }

pub put_whole : (form : Form) (hash : List ℕ → List ℕ) (t : Tree) (ts : List Tree) (i page : ℕ) (old now : List ℕ)
    (links : List Child) →
    t ≡ tree.Inner ts → CanBePut t → PutSoFar form hash ts i page old now links → i ≡ length ts → AllPut ts links
put_whole form hash t ts i page old now links is can so_far end =
    all_put form hash t ts page old now links is can
    (subst (λ j. PutSoFar form hash ts j page old now links) end so_far)

-- the first of them is of the level below
pub first_below : {v : Version} {links : List Child} (are : AreSiblings v links) (d : Child) →
    d ≡ get_or links 0 d → d.level + 1 ≡ are.above
first_below are d is =
    subst (λ (c : Child). c.level + 1 ≡ are.above) (sym is) (are.below 0 d (omega (arith, are.some)))

-- and so are all
pub all_below : {v : Version} {links : List Child} (are : AreSiblings v links) (d : Child) →
    All (λ (c : Child). c.level + 1 ≡ (get_or links 0 d).level + 1) links
all_below are d = λ k e within. are.below k e within ∙ sym (are.below 0 d (omega (arith, are.some)))

-- what a page may name of them
pub siblings : (v : Version) (ts : List Tree) (links : List Child) → AllPut ts links →
    All (λ (c : Child). MayTell v c.mask c.count) links → AreSiblings v links
siblings v ts links all told = record {
  some = omega (arith, all.count, all.few.0);
  few = omega (arith, all.count, all.few.1);
  above = level (tree.Inner ts);
  low = all.high.0;
  high = all.high.1;
  below = All-from_recursion (λ (c : Child). c.level + 1 ≡ level (tree.Inner ts)) links all.levels;
  told = told;
}

pub inner_put : {shows : view.Node} {slice : List ℕ} (form : Form) (hash : List ℕ → List ℕ) (t : Tree) (ts : List Tree)
    (i page : ℕ)
    (old now new : List ℕ) (place : ℕ) (links shown : List Child) (child : Child) →
    t ≡ tree.Inner ts → CanBePut t → PutSoFar form hash ts i page old now links → i ≡ length ts →
    length old ≡ place →
    shown ≡ links → shows ≡ node.Inner shown → slice ≡ now →
    new ≡ (take place slice ++ form.node_page (page_node shows)) ++ drop (place + form.size) slice →
    length new ≡ length slice →
    child_link child ≡ record { page = page; entry = node_entry (by form.version hash) (page_node shows) } →
    IsPut form hash t page old new child
inner_put {shows = shows} {slice = slice} form hash t ts i page old now new place links shown child is can so_far end
    here same
    shows_is slice_is put long said =
    let node_is : page_node shows ≡ node.Inner (map child_link links) =
    ap page_node shows_is ∙ ap (λ cs. node.Inner (map child_link cs)) same in
    inner_put_at form hash t ts page old now new place links child is can
    (subst (λ j. PutSoFar form hash ts j page old now links) end so_far) here
    (put ∙ (λ k. (take place (slice_is k) ++ form.node_page (node_is k)) ++ drop (place + form.size)
    (slice_is k)))
    (long ∙ ap length slice_is)
    (said ∙ (λ k. record { page = page; entry = node_entry (by form.version hash) (node_is k) }))

-- a list whose first cells were written through a slice of all of them
pub written_whole : (len : ℕ) (new items : List ℕ) → length new ≡ len → take len (new ++ drop (length new) items) ≡ new
written_whole len new items e = take_at new (drop (length new) items) len e
