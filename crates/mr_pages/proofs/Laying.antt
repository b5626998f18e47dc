-- What may be told of the nodes of a tree that is put on pages.
use Rattle.std.proofs.Common.{◌≡◌, ◌≢◌, ℕ, suc, ◌<◌, ◌≤◌, List, [], ◌∷◌, length, map, get_or, refl, sym, ap, subst, ◌∙◌, arith, length-append}
use Rattle.std.specs.Prelude.{All}
use Rattle.std.specs.List.{flat_map, AllByRecursion}
use Rattle.std.proofs.Math.Seq.{take-length}
use Rattle.std.proofs.lemmas.List.Elements.{recursion_from_All, All-from_recursion}
use Rattle.mr_record.specs.Record.{HasLayer}
use Rattle.mr_record.specs.declared.version.Version.{Version}
use Rattle.mr_tree.specs.Limits.{count_limit}
use Rattle.mr_tree.specs.Digest.{Scheme, by}
use Rattle.mr_tree.specs.Tree.{records}
use Rattle.mr_tree.specs.View.{MayTell}
use Rattle.mr_tree.specs.WellFormed.{HasOneLevel, HasLayers}
use Rattle.mr_tree.specs.declared.child.Child.{Child}
use Rattle.mr_tree.specs.declared.tree.Tree.{Tree}
use Rattle.mr_tree.specs.declared.tree.Tree.TheVariants as tree
use Rattle.mr_tree.specs.declared.tree.Tree.TheFolds.{every-Tree}
use Rattle.mr_tree.proofs.Equations.{records-Inner, records-Leaf}
use Rattle.mr_tree.proofs.Induction.{tree_induction, here-Leaf, here-Inner, every_child}
use Rattle.mr_tree.proofs.Told.{any_layers, may_tell}
use Rattle.mr_pages.specs.Page.{Link, Form}
use Rattle.mr_pages.specs.Stands as placed
use Rattle.mr_pages.specs.Stands.{Row, no_more, first, trees_of, links_of}
use Rattle.mr_pages.specs.Saved.{number_row, numbered}
use Rattle.mr_pages.specs.Walking.{child_link}
use Rattle.mr_pages.specs.private.Putting.{HasEntries, CanBePut, PutSoFar, some_row}
use Rattle.mr_pages.proofs.Lists.{all_left, all_right}
use Rattle.mr_pages.proofs.Building.{of_images, inner_there}
use Rattle.mr_pages.proofs.Numbered.{tree_numbered}
use Rattle.mr_pages.proofs.Put.{row_trees}

-- ---- the records below an inner node

below_inner : (t : Tree) (ts : List Tree) → t ≡ tree.Inner ts → records t ≡ flat_map records ts
below_inner t ts is = ap records is ∙ records-Inner ts ∙ of_images ts

layers_below : (v : Version) (ts : List Tree) → AllByRecursion (HasLayer v) (flat_map records ts) →
    AllByRecursion (HasLayers v) ts
layers_below v [] all = tt
layers_below v (t ∷ ts) all = (
  All-from_recursion (HasLayer v) (records t) (all_left (HasLayer v) (records t) (flat_map records ts) all),
  layers_below v ts (all_right (HasLayer v) (records t) (flat_map records ts) all),
)

few_below : (n : ℕ) (ts : List Tree) → length (flat_map records ts) ≤ n →
    AllByRecursion (λ t. length (records t) ≤ n) ts
few_below n [] few = tt
few_below n (t ∷ ts) few =
    let all = length-append (records t) (flat_map records ts) in
    (omega (arith, few, all), few_below n ts (omega (arith, few, all)))

all_layers : (v : Version) (t : Tree) (ts : List Tree) → t ≡ tree.Inner ts → HasLayers v t →
    AllByRecursion (HasLayers v) ts
all_layers v t ts is layers = layers_below v ts (recursion_from_All (HasLayer v) (flat_map records ts)
    (subst (λ rs. All (HasLayer v) rs) (below_inner t ts is) layers))

all_few : (t : Tree) (ts : List Tree) → t ≡ tree.Inner ts → length (records t) ≤ count_limit →
    AllByRecursion (λ u. length (records u) ≤ count_limit) ts
all_few t ts is few = few_below count_limit ts (subst (λ rs. length rs ≤ count_limit) (below_inner t ts is) few)

pub child_layers : (v : Version) (t : Tree) (ts : List Tree) (i : ℕ) (one : Tree) → t ≡ tree.Inner ts →
    HasLayers v t → i < length ts → one ≡ get_or ts i one → HasLayers v one
child_layers v t ts i one is layers within at =
    subst (HasLayers v) (sym at) (All-from_recursion (HasLayers v) ts (all_layers v t ts is layers) i one within)

pub child_few : (t : Tree) (ts : List Tree) (i : ℕ) (one : Tree) → t ≡ tree.Inner ts →
    length (records t) ≤ count_limit → i < length ts → one ≡ get_or ts i one → length (records one) ≤ count_limit
child_few t ts i one is few within at =
    subst (λ u. length (records u) ≤ count_limit) (sym at)
    (All-from_recursion (λ u. length (records u) ≤ count_limit) ts (all_few t ts is few) i one within)

-- ---- a tree with entries has records

some_below : (ts : List Tree) → 1 ≤ length ts → AllByRecursion (λ t. 1 ≤ length (records t)) ts →
    1 ≤ length (flat_map records ts)
some_below [] some all = some
some_below (t ∷ ts) some all = omega (arith, all.0, length-append (records t) (flat_map records ts))

each_some : (ts : List Tree) →
    AllByRecursion (λ t. every-Tree HasEntries t → every-Tree HasOneLevel t → t ≢ tree.Empty →
    1 ≤ length (records t)) ts → AllByRecursion (every-Tree HasEntries) ts →
    AllByRecursion (every-Tree HasOneLevel) ts →
    AllByRecursion (λ t. t ≢ tree.Empty) ts → AllByRecursion (λ t. 1 ≤ length (records t)) ts
each_some [] f entries levels there = tt
each_some (t ∷ ts) f entries levels there =
    (f.0 entries.0 levels.0 there.0, each_some ts f.1 entries.1 levels.1 there.1)

there_below : (ts : List Tree) → every-Tree HasOneLevel (tree.Inner ts) → AllByRecursion (λ t. t ≢ tree.Empty) ts
there_below ts levels = recursion_from_All (λ t. t ≢ tree.Empty) ts
    (λ k d within. (here-Inner HasOneLevel ts levels k d within).0)

has_records : (t : Tree) → every-Tree HasEntries t → every-Tree HasOneLevel t → t ≢ tree.Empty →
    1 ≤ length (records t)
has_records = tree_induction (λ t. every-Tree HasEntries t → every-Tree HasOneLevel t → t ≢ tree.Empty →
    1 ≤ length (records t))
    (λ entries levels there. absurd (there refl))
    (λ rs entries levels there.
    let full = here-Leaf HasEntries rs entries in omega (arith, full.0, ap length (records-Leaf rs)))
    (λ ts below entries levels there.
    let full = here-Inner HasEntries ts entries in
    let all = some_below ts full.0 (each_some ts below (every_child HasEntries ts entries)
    (every_child HasOneLevel ts levels) (there_below ts levels)) in
    omega (arith, all, ap length (records-Inner ts ∙ of_images ts)))

all_records_there : (ts : List Tree) → AllByRecursion (every-Tree HasEntries) ts →
    AllByRecursion (every-Tree HasOneLevel) ts → AllByRecursion (λ t. t ≢ tree.Empty) ts →
    AllByRecursion (λ t. 1 ≤ length (records t)) ts
all_records_there [] entries levels there = tt
all_records_there (t ∷ ts) entries levels there =
    (has_records t entries.0 levels.0 there.0, all_records_there ts entries.1 levels.1 there.1)

-- ---- so its version may tell of each child what is told of it

row_told : (s : Scheme) (Ps : Row) (cs : List Child) → map child_link cs ≡ links_of s Ps →
    AllByRecursion (λ t. 1 ≤ length (records t)) (trees_of Ps) →
    AllByRecursion (λ t. length (records t) ≤ count_limit) (trees_of Ps) →
    AllByRecursion (HasLayers s.version) (trees_of Ps) →
    AllByRecursion (λ (c : Child). MayTell s.version c.mask c.count) cs
row_told s no_more [] e some few layers = tt
row_told s no_more (c ∷ cs) e some few layers = cc
row_told s (first P Ps) [] e some few layers = cc
row_told s (first P Ps) (c ∷ cs) e some few layers =
    let one : child_link c ≡ placed.link_of s P = cc in
    let rest : map child_link cs ≡ links_of s Ps = cc in
    let t = placed.tree_of P in (
      subst (λ (l : Link). MayTell s.version l.entry.mask l.entry.count) (sym one)
          (may_tell s t some.0 few.0 (any_layers s.version (records t) layers.0)),
      row_told s Ps cs rest some.1 few.1 layers.1,
    )

pub links_told : (form : Form) (hash : List ℕ → List ℕ) (t : Tree) (ts : List Tree) (i page : ℕ) (old now : List ℕ)
    (links : List Child) → t ≡ tree.Inner ts → CanBePut t → HasLayers form.version t →
    length (records t) ≤ count_limit → PutSoFar form hash ts i page old now links → i ≡ length ts →
    All (λ (c : Child). MayTell form.version c.mask c.count) links
links_told form hash t ts i page old now links is can layers few so_far end =
    let s = by form.version hash in
    let levels = subst (every-Tree HasOneLevel) is can.one_level in
    let numbers = tree_numbered (tree.Inner ts) levels (inner_there ts) page in
    let R = number_row (suc page) (map numbered ts) in
    let all : some_row (suc page) ts i ≡ R = ap (λ k. some_row (suc page) ts k) end
    ∙ ap (λ us. number_row (suc page) (map numbered us)) (take-length ts) in
    let trees : ts ≡ trees_of R = sym (row_trees ts page numbers.trees) in
    All-from_recursion (λ (c : Child). MayTell form.version c.mask c.count) links
    (row_told s R links (so_far.links_are ∙ ap (links_of s) all)
    (subst (AllByRecursion (λ u. 1 ≤ length (records u))) trees
    (all_records_there ts (every_child HasEntries ts (subst (every-Tree HasEntries) is can.entries))
    (every_child HasOneLevel ts levels) (there_below ts levels)))
    (subst (AllByRecursion (λ u. length (records u) ≤ count_limit)) trees (all_few t ts is few))
    (subst (AllByRecursion (HasLayers form.version)) trees (all_layers form.version t ts is layers)))
