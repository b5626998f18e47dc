-- The tree that sound visits build, and that a tree on its pages has sound visits and is what they build.
use Rattle.std.proofs.Common.{◌≡◌, ◌≢◌, ℕ, zero, suc, ◌+◌, ◌<◌, ◌≤◌, Bool, true, false, List, [], ◌∷◌, ◌++◌, length, map, refl, sym, ap, subst, ◌∙◌, arith}
use Rattle.mr_tree.specs.declared.entry.Entry.{Entry}
use Rattle.std.specs.Prelude.{◌==◌, Option, Some, None, All, if◌then◌else◌}
use Rattle.std.specs.List.{flat_map, AllByRecursion}
use Rattle.std.proofs.lemmas.Bool.{eqb-true, eq-eqb}
use Rattle.std.proofs.lemmas.List.{map-append, append-nil}
use Rattle.std.proofs.lemmas.List.Concat.{flat_map-append}
use Rattle.std.proofs.lemmas.List.Elements.{All-from_recursion, recursion_from_All, All-append, All-nil}
use Rattle.mr_record.specs.declared.record.Record.{Record}
use Rattle.mr_tree.specs.Tree.{level, records, first_level}
use Rattle.mr_tree.specs.Digest.{entry, entry_step, Scheme}
use Rattle.mr_tree.specs.WellFormed.{HasOneLevel, IsFilled, IsFilledRoot}
pub use Rattle.mr_tree.specs.WellFormed.{FilledAs}
use Rattle.mr_tree.specs.declared.tree.Tree.{Tree}
use Rattle.mr_tree.specs.declared.tree.Tree.TheVariants as tree
use Rattle.mr_tree.specs.declared.tree.Tree.TheOpen.{Tree-F, Empty, Leaf, Inner}
use Rattle.mr_tree.specs.declared.tree.Tree.TheViews.{out-Tree}
use Rattle.mr_tree.specs.declared.tree.Tree.TheFolds.{every-Tree}
use Rattle.mr_tree.proofs.Equations.{level-Inner, level-Leaf, records-Inner, records-Leaf, entry_level, entry-Inner, entry-Leaf}
use Rattle.mr_tree.proofs.Induction.{every-Leaf, every-Inner, here-Leaf, here-Inner, every_child}
use Rattle.mr_pages.specs.Page.{Link, Node, level_of, node_entry, IsNode}
use Rattle.mr_pages.specs.Stands as placed
use Rattle.mr_pages.specs.Stands.{Placed, Row, no_more, first, tree_of, trees_of, pages_of, all_pages, page_of, link_of, links_of, IsWritten, AreWritten}
use Rattle.mr_pages.specs.Faults.{Visit, of_level, found, children, records_in, visit, visits, reached, all_records, size, least_fill}
use Rattle.mr_pages.specs.private.Spelled.{row, place}
use Rattle.mr_pages.proofs.Lists.{all_append, all_left, all_right, all_weaker}
use Rattle.mr_pages.proofs.Rules.{IsSound}
use Rattle.mr_pages.proofs.PageLaws.{FitsRecord}

-- a tree with its pages, as a file's pages are read
abbrev pub IsRead : Scheme → (ℕ → Option Node) → Placed → Type 0
IsRead hash at = IsWritten hash (λ p n. at p ≡ Some n)

abbrev pub AreRead : Scheme → (ℕ → Option Node) → Row → Type 0
AreRead hash at = AreWritten hash (λ p n. at p ≡ Some n)

-- ---- what a parent knows of a tree

entries_of : (hash : Scheme) (Ps : Row) → map (λ (l : Link). l.entry) (links_of hash Ps)
    ≡ map (entry hash) (trees_of Ps)
entries_of hash no_more = refl
entries_of hash (first P Ps) = ap (λ es. entry hash (tree_of P) ∷ es) (entries_of hash Ps)

-- an inner node's entry is that of its tree
pub entry_inner : (hash : Scheme) (Ps : Row) → node_entry hash (Inner (links_of hash Ps))
    ≡ entry hash (tree.Inner (trees_of Ps))
entry_inner hash Ps = ap (λ es. entry_step hash (Inner es)) (entries_of hash Ps) ∙ sym (entry-Inner hash (trees_of Ps))

pub entry_leaf : (hash : Scheme) (rs : List Record) → node_entry hash (Leaf rs) ≡ entry hash (tree.Leaf rs)
entry_leaf hash rs = sym (entry-Leaf hash rs)

pub leaf_there : (rs : List Record) → tree.Leaf rs ≢ tree.Empty
leaf_there rs e = let opened : ◌≡◌ {A = Tree-F Tree} (Leaf rs) Empty =
    sym (tree.outs-Leaf rs) ∙ ap out-Tree e ∙ tree.outs-Empty in cc

pub inner_there : (ts : List Tree) → tree.Inner ts ≢ tree.Empty
inner_there ts e = let opened : ◌≡◌ {A = Tree-F Tree} (Inner ts) Empty =
    sym (tree.outs-Inner ts) ∙ ap out-Tree e ∙ tree.outs-Empty in cc

-- ---- the tree that the pages below a link spell

pub place_page : (at : ℕ → Option Node) (n : ℕ) (link : Link) → page_of (place at n link) ≡ link.page
place_page at zero link = refl
place_page at (suc n) link = refl

-- ---- what is found

pub record Found (at : ℕ → Option Node) (link : Link) (node : Node) : Type 0 where
  pub there : at link.page ≡ Some node
  pub level : level_of node ≡ link.entry.level

pub what_is_found : (at : ℕ → Option Node) (link : Link) (node : Node) → found at link ≡ Some node → Found at link node
what_is_found at link node e = here (at link.page) refl
  where
    test : (m : Node) (b : Bool) → (level_of m == link.entry.level) ≡ b → at link.page ≡ Some m → Found at link node
    test m true same is =
        let got : ◌≡◌ {A = Option Node} (Some m) (Some node) =
        ap (λ b. if b then Some m else None) (sym same) ∙ ap (of_level link.entry.level) (sym is) ∙ e in
        let equal : m ≡ node = cc in
        record { there = is ∙ got; level = ap level_of (sym equal) ∙ eqb-true (level_of m) link.entry.level same }
    test m false same is =
        let got : ◌≡◌ {A = Option Node} None (Some node) =
        ap (λ b. if b then Some m else None) (sym same) ∙ ap (of_level link.entry.level) (sym is) ∙ e in
        absurd (nothing got)
      where
        nothing : ◌≡◌ {A = Option Node} None (Some node) → ⊥
        nothing h = cc

    here : (o : Option Node) → at link.page ≡ o → Found at link node
    here None is = absurd (nothing (ap (of_level link.entry.level) (sym is) ∙ e))
      where
        nothing : ◌≡◌ {A = Option Node} None (Some node) → ⊥
        nothing h = cc
    here (Some m) is = test m (level_of m == link.entry.level) refl is

is_found : (at : ℕ → Option Node) (link : Link) (node : Node) → at link.page ≡ Some node →
    level_of node ≡ link.entry.level → found at link ≡ Some node
is_found at link node is same = ap (of_level link.entry.level) is
    ∙ ap (λ b. if b then Some node else None) (eq-eqb (level_of node) link.entry.level same)

levels_all : (ls : List Link) → map (λ (e : Entry). e.level) (map (λ (l : Link). l.entry) ls)
    ≡ map (λ (l : Link). l.entry.level) ls
levels_all [] = refl
levels_all (l ∷ ls) = ap (λ ns. l.entry.level ∷ ns) (levels_all ls)

pub level_is : (hash : Scheme) (node : Node) → (node_entry hash node).level ≡ level_of node
level_is hash Empty = refl
level_is hash (Leaf rs) = refl
level_is hash (Inner ls) = ap (λ ns. first_level ns + 1) (levels_all ls)

-- a sound node's entry is what is said of it
said : (hash : Scheme) (at : ℕ → Option Node) (link : Link) (node : Node) → Found at link node →
    (node_entry hash node).digest ≡ link.entry.digest → (node_entry hash node).rect ≡ link.entry.rect →
    (node_entry hash node).mask ≡ link.entry.mask → (node_entry hash node).count ≡ link.entry.count →
    node_entry hash node ≡ link.entry
said hash at link node f d r m c = λ i. record {
  level = (level_is hash node ∙ f.level) i;
  rect = r i;
  mask = m i;
  count = c i;
  digest = d i;
}

-- ---- how full nodes are

pub filled_leaf : (root : Bool) (rs : List Record) → least_fill root (Leaf rs) ≤ length rs → length rs ≤ 16 →
    FilledAs root (tree.Leaf rs)
filled_leaf true rs full few = subst IsFilledRoot (sym (tree.outs-Leaf rs)) (full, few)
filled_leaf false rs full few = every-Leaf IsFilled rs (full, few)

pub leaf_filled : (root : Bool) (rs : List Record) → FilledAs root (tree.Leaf rs) → least_fill root (Leaf rs) ≤
    length rs
leaf_filled true rs f = (subst IsFilledRoot (tree.outs-Leaf rs) f).0
leaf_filled false rs f = (here-Leaf IsFilled rs f).0

pub filled_inner : (root : Bool) (ls : List Link) (ts : List Tree) → length ts ≡ length ls →
    least_fill root (Inner ls) ≤ length ls → length ls ≤ 64 → AllByRecursion (every-Tree IsFilled) ts →
    FilledAs root (tree.Inner ts)
filled_inner true ls ts e full few all =
    subst IsFilledRoot (sym (tree.outs-Inner ts)) (
      omega (arith, e, full),
      omega (arith, e, few),
      All-from_recursion
          (every-Tree IsFilled) ts all,
    )
filled_inner false ls ts e full few all = every-Inner IsFilled ts all (omega (arith, e, full), omega (arith, e, few))

pub leaf_few : (root : Bool) (rs : List Record) → FilledAs root (tree.Leaf rs) → length rs ≤ 16
leaf_few true rs f = (subst IsFilledRoot (tree.outs-Leaf rs) f).1
leaf_few false rs f = (here-Leaf IsFilled rs f).1

pub inner_few : (root : Bool) (ls : List Link) (ts : List Tree) → length ts ≡ length ls →
    FilledAs root (tree.Inner ts) →
    length ls ≤ 64
inner_few true ls ts e f = omega (arith, e, (subst IsFilledRoot (tree.outs-Inner ts) f).1)
inner_few false ls ts e f = omega (arith, e, (here-Inner IsFilled ts f).1)

pub inner_filled : (root : Bool) (ls : List Link) (ts : List Tree) → length ts ≡ length ls →
    FilledAs root (tree.Inner ts) →
    least_fill root (Inner ls) ≤ length ls
inner_filled true ls ts e f = omega (arith, e, (subst IsFilledRoot (tree.outs-Inner ts) f).0)
inner_filled false ls ts e f = omega (arith, e, (here-Inner IsFilled ts f).0)

pub filled_below : (root : Bool) (ts : List Tree) → FilledAs root (tree.Inner ts) →
    AllByRecursion (every-Tree IsFilled) ts
filled_below true ts f = recursion_from_All (every-Tree IsFilled) ts (subst IsFilledRoot (tree.outs-Inner ts) f).2
filled_below false ts f = every_child IsFilled ts f

-- ---- sound visits build a tree

abbrev vis : Bool → Link → Option Node → Visit
vis root link o = record { root = root; link = link; node = o }

-- the tree is what the link says, stands on its pages, and is well formed so far
pub record Built (hash : Scheme) (at : ℕ → Option Node) (root : Bool) (link : Link) (P : Placed)
    (vs : List Visit) : Type 0 where
  pub written : IsRead hash at P
  -- the count of the root is told elsewhere
  pub known : (root ≡ true → (entry hash (tree_of P)).count ≡ link.entry.count) → entry hash (tree_of P) ≡ link.entry
  pub on : pages_of P ≡ reached vs
  pub lists : records (tree_of P) ≡ all_records vs
  pub one_level : every-Tree HasOneLevel (tree_of P)
  pub there : tree_of P ≢ tree.Empty
  pub filled : FilledAs root (tree_of P)
  pub each : All (FitsRecord hash.version) (records (tree_of P))

record RowBuilt (hash : Scheme) (at : ℕ → Option Node) (n : ℕ) (ls : List Link) (Ps : Row)
    (vs : List Visit) : Type 0 where
  written : AreRead hash at Ps
  named : links_of hash Ps ≡ ls
  on : all_pages Ps ≡ reached vs
  lists : flat_map records (trees_of Ps) ≡ all_records vs
  levels : AllByRecursion (λ t. level t ≡ n) (trees_of Ps)
  one_level : AllByRecursion (every-Tree HasOneLevel) (trees_of Ps)
  there : AllByRecursion (λ t. t ≢ tree.Empty) (trees_of Ps)
  filled : AllByRecursion (every-Tree IsFilled) (trees_of Ps)
  each : All (FitsRecord hash.version) (flat_map records (trees_of Ps))

record SaidOf (hash : Scheme) (root : Bool) (link : Link) (node : Node) : Type 0 where
  known : (root ≡ true → (node_entry hash node).count ≡ link.entry.count) → node_entry hash node ≡ link.entry
  full : least_fill root node ≤ size node
  good : IsNode hash.version node

built_leaf : (hash : Scheme) (at : ℕ → Option Node) (root : Bool) (link : Link) (rs : List Record) →
    at link.page ≡ Some (Leaf rs) → SaidOf hash root link (Leaf rs) →
    Built hash at root link (placed.Leaf link.page rs) (vis root link (Some (Leaf rs)) ∷ [])
built_leaf hash at root link rs is s = record {
  written = is;
  known = λ c. entry-Leaf hash rs ∙ s.known (λ one. sym (ap (λ (e : Entry). e.count) (entry-Leaf hash rs)) ∙ c one);
  on = refl;
  lists = records-Leaf rs ∙ sym (append-nil rs);
  one_level = every-Leaf HasOneLevel rs tt;
  there = leaf_there rs;
  filled = filled_leaf root rs s.full s.good.1;
  each = subst (All (FitsRecord hash.version)) (sym (records-Leaf rs)) s.good.2;
}

pub length_row : (hash : Scheme) (Ps : Row) → length (trees_of Ps) ≡ length (links_of hash Ps)
length_row hash no_more = refl
length_row hash (first P Ps) = ap suc (length_row hash Ps)

pub first_is : (n : ℕ) (ts : List Tree) → 0 < length ts → AllByRecursion (λ t. level t ≡ n) ts →
    first_level (map level ts) ≡ n
first_is n [] some all = absurd (omega (arith, some))
first_is n (t ∷ ts) some all = all.0

pub one_of : (n : ℕ) (ts : List Tree) → AllByRecursion (λ t. level t ≡ n) ts → AllByRecursion (λ t. t ≢ tree.Empty) ts →
    (m : ℕ) → m ≡ n → AllByRecursion (λ t. (t ≢ tree.Empty) × (level t ≡ m)) ts
one_of n [] levels there m e = tt
one_of n (t ∷ ts) levels there m e = ((there.0, levels.0 ∙ sym e), one_of n ts levels.1 there.1 m e)

pub of_images : (ts : List Tree) → flat_map (λ list. list) (map records ts) ≡ flat_map records ts
of_images [] = refl
of_images (t ∷ ts) = ap (λ rs. records t ++ rs) (of_images ts)

built_inner : (hash : Scheme) (at : ℕ → Option Node) (root : Bool) (n : ℕ) (link : Link) (ls : List Link)
    (Ps : Row) (vs : List Visit) → at link.page ≡ Some (Inner ls) → SaidOf hash root link (Inner ls) →
    RowBuilt hash at n ls Ps vs → Built hash at root link (placed.Inner link.page Ps)
    (vis root link (Some (Inner ls)) ∷ vs)
built_inner hash at root n link ls Ps vs is s r =
    let ts = trees_of Ps in
    let size_is : length ts ≡ length ls = length_row hash Ps ∙ ap length r.named in
    let some : 0 < length ts = omega (arith, size_is, s.good.0) in
    let same : entry hash (tree.Inner ts) ≡ node_entry hash (Inner ls) =
    sym (entry_inner hash Ps) ∙ ap (λ ks. node_entry hash (Inner ks)) r.named in
    record {
      written = (is ∙ ap (λ ks. Some (Inner ks)) (sym r.named), r.written);
      known = λ c. same ∙ s.known (λ one. sym (ap (λ (e : Entry). e.count) same) ∙ c one);
      on = ap (λ ps. link.page ∷ ps) r.on;
      lists = records-Inner ts ∙ of_images ts ∙ r.lists;
      one_level = every-Inner HasOneLevel ts r.one_level
          (All-from_recursion (λ t. (t ≢ tree.Empty) × (level t ≡ first_level (map level ts))) ts
          (one_of n ts r.levels r.there (first_level (map level ts)) (first_is n ts some r.levels)));
      there = inner_there ts;
      filled = filled_inner root ls ts size_is s.full s.good.1 r.filled;
      each = subst (All (FitsRecord hash.version)) (sym (records-Inner ts ∙ of_images ts)) r.each;
    }

built_row : (hash : Scheme) (at : ℕ → Option Node) (pages n : ℕ) →
    ((l : Link) → l.entry.level ≡ n → AllByRecursion (IsSound hash pages) (visits at n false l) →
    Built hash at false l (place at n l) (visits at n false l)) →
    (ls : List Link) → AllByRecursion (λ (l : Link). l.entry.level ≡ n) ls →
    AllByRecursion (IsSound hash pages) (flat_map (visits at n false) ls) →
    RowBuilt hash at n ls (row (place at n) ls) (flat_map (visits at n false) ls)
built_row hash at pages n one [] levels sound = record {
  written = tt;
  named = refl;
  on = refl;
  lists = refl;
  levels = tt;
  one_level = tt;
  there = tt;
  filled = tt;
  each =
      All-nil (FitsRecord hash.version);
}
built_row hash at pages n one (l ∷ ls) levels sound =
    let b = one l levels.0 (all_left _ (visits at n false l) (flat_map (visits at n false) ls) sound) in
    let known : entry hash (tree_of (place at n l)) ≡ l.entry = b.known (λ e. absurd cc) in
    let r = built_row hash at pages n one ls levels.1 (all_right _ (visits at n false l)
    (flat_map (visits at n false) ls) sound) in
    record {
      written = (b.written, r.written);
      named = λ i. record { page = place_page at n l i; entry = known i } ∷ r.named i;
      on = (λ i. b.on i ++ r.on i) ∙ sym (map-append (λ (v : Visit). v.link.page) (visits at n false l)
          (flat_map (visits at n false) ls));
      lists = (λ i. b.lists i ++ r.lists i) ∙ sym (flat_map-append (λ (v : Visit). records_in v.node)
          (visits at n false l) (flat_map (visits at n false) ls));
      levels = (
        sym (entry_level hash (tree_of (place at n l))) ∙ ap (λ (e : Entry). e.level) known
            ∙ levels.0,
        r.levels,
      );
      one_level = (b.one_level, r.one_level);
      there = (b.there, r.there);
      filled = (b.filled, r.filled);
      each = All-append (FitsRecord hash.version) _ _ b.each r.each;
    }

built_zero : (hash : Scheme) (at : ℕ → Option Node) (root : Bool) (link : Link) → link.entry.level ≡ 0 →
    (node : Node) → found at link ≡ Some node → Found at link node → SaidOf hash root link node →
    Built hash at root link (place at zero link) (visits at zero root link)
built_zero hash at root link low Empty e f s = absurd s.good
built_zero hash at root link low (Leaf rs) e f s =
    subst (λ o. Built hash at root link (placed.Leaf link.page (records_in o)) (vis root link o ∷ [])) (sym e)
    (built_leaf hash at root link rs f.there s)
built_zero hash at root link low (Inner ls) e f s = absurd (omega (arith, low, f.level))

built_suc : (hash : Scheme) (at : ℕ → Option Node) (pages n : ℕ) →
    ((l : Link) → l.entry.level ≡ n → AllByRecursion (IsSound hash pages) (visits at n false l) →
    Built hash at false l (place at n l) (visits at n false l)) →
    (root : Bool) (link : Link) → link.entry.level ≡ suc n →
    AllByRecursion (IsSound hash pages) (flat_map (visits at n false) (children (found at link))) →
    (node : Node) → found at link ≡ Some node → Found at link node → SaidOf hash root link node →
    Built hash at root link (place at (suc n) link) (visits at (suc n) root link)
built_suc hash at pages n one root link high below Empty e f s = absurd s.good
built_suc hash at pages n one root link high below (Leaf rs) e f s = absurd (omega (arith, high, f.level))
built_suc hash at pages n one root link high below (Inner ls) e f s =
    let next : first_level (map (λ (k : Link). k.entry.level) ls) ≡ n = omega (arith, high, f.level) in
    subst (λ o. Built hash at root link (placed.Inner link.page (row (place at n) (children o)))
    (vis root link o ∷ flat_map (visits at n false) (children o))) (sym e)
    (built_inner hash at root n link ls (row (place at n) ls) (flat_map (visits at n false) ls) f.there s
    (built_row hash at pages n one ls
    (all_weaker (λ (l : Link). l.entry.level ≡ first_level (map (λ (k : Link). k.entry.level) ls))
    (λ (l : Link). l.entry.level ≡ n) (λ l q. q ∙ next) ls s.good.3)
    (subst (λ o. AllByRecursion (IsSound hash pages) (flat_map (visits at n false) (children o))) e below)))

said_of : (hash : Scheme) (at : ℕ → Option Node) (pages : ℕ) →
    ((p : ℕ) (node : Node) → at p ≡ Some node → IsNode hash.version node) →
    (root : Bool) (link : Link) (s : IsSound hash pages (visit at root link)) → SaidOf hash root link s.node
said_of hash at pages good root link s =
    let f = what_is_found at link s.node s.is in
    record {
      known = λ c. said hash at link s.node f s.digest s.rect s.sums.mask (count_of root s.sums.count c);
      full = s.full;
      good = good link.page s.node f.there;
    }
  where
    count_of : (root : Bool) {a b : ℕ} → (root ≡ false → a ≡ b) → (root ≡ true → a ≡ b) → a ≡ b
    count_of true f g = g refl
    count_of false f g = f refl

pub built : (hash : Scheme) (at : ℕ → Option Node) (pages : ℕ) →
    ((p : ℕ) (node : Node) → at p ≡ Some node → IsNode hash.version node) →
    (n : ℕ) (root : Bool) (link : Link) → link.entry.level ≡ n →
    AllByRecursion (IsSound hash pages) (visits at n root link) →
    Built hash at root link (place at n link) (visits at n root link)
built hash at pages good zero root link low sound =
    built_zero hash at root link low sound.0.node sound.0.is (what_is_found at link sound.0.node sound.0.is)
    (said_of hash at pages good root link sound.0)
built hash at pages good (suc n) root link high sound =
    built_suc hash at pages n (λ l. built hash at pages good n false l) root link high sound.1 sound.0.node sound.0.is
    (what_is_found at link sound.0.node sound.0.is) (said_of hash at pages good root link sound.0)

-- ---- a tree on its pages has sound visits

abbrev Inside : ℕ → ℕ → Type 0
Inside pages p = (0 < p) × (p < pages)

pub record Unfolds (hash : Scheme) (at : ℕ → Option Node) (pages n : ℕ) (root : Bool)
    (P : Placed) : Type 0 where
  pub same : place at n (link_of hash P) ≡ P
  pub sound : AllByRecursion (IsSound hash pages) (visits at n root (link_of hash P))

record RowUnfolds (hash : Scheme) (at : ℕ → Option Node) (pages n : ℕ) (Ps : Row) : Type 0 where
  same : row (place at n) (links_of hash Ps) ≡ Ps
  sound : AllByRecursion (IsSound hash pages) (flat_map (visits at n false) (links_of hash Ps))

unfolds_leaf : (hash : Scheme) (at : ℕ → Option Node) (pages n : ℕ) (root : Bool) (p : ℕ) (rs : List Record) →
    at p ≡ Some (Leaf rs) → level (tree.Leaf rs) ≡ n → FilledAs root (tree.Leaf rs) →
    Inside pages p → Unfolds hash at pages n root (placed.Leaf p rs)
unfolds_leaf hash at pages zero root p rs is low filled inside =
    let link = link_of hash (placed.Leaf p rs) in
    let f : found at link ≡ Some (Leaf rs) = is_found at link (Leaf rs) is
    (sym (level-Leaf rs) ∙ sym (entry_level hash (tree.Leaf rs))) in
    record {
      same = ap (λ o. placed.Leaf p (records_in o)) f;
      sound = (
        record {
          node = Leaf rs;
          is = f;
          low = inside.0;
          inside = inside.1;
          digest = ap (λ (e : Entry). e.digest) (entry_leaf hash rs);
          rect = ap (λ (e : Entry). e.rect) (entry_leaf hash rs);
          sums = record {
            mask = ap (λ (e : Entry). e.mask) (entry_leaf hash rs);
            count = λ _. ap (λ (e : Entry). e.count) (entry_leaf hash rs);
          };
          full = leaf_filled root rs filled;
        },
        tt,
      );
    }
unfolds_leaf hash at pages (suc n) root p rs is low filled inside = absurd (omega (arith, low, level-Leaf rs))

unfolds_inner : (hash : Scheme) (at : ℕ → Option Node) (pages n : ℕ) (root : Bool) (p : ℕ) (Ps : Row) →
    at p ≡ Some (Inner (links_of hash Ps)) → level (tree.Inner (trees_of Ps)) ≡ suc n →
    FilledAs root (tree.Inner (trees_of Ps)) → Inside pages p → RowUnfolds hash at pages n Ps →
    Unfolds hash at pages (suc n) root (placed.Inner p Ps)
unfolds_inner hash at pages n root p Ps is high filled inside r =
    let link = link_of hash (placed.Inner p Ps) in
    let f : found at link ≡ Some (Inner (links_of hash Ps)) =
    is_found at link (Inner (links_of hash Ps)) is (sym (level_is hash (Inner (links_of hash Ps)))
    ∙ ap (λ (e : Entry). e.level) (entry_inner hash Ps)) in
    record {
      same = ap (λ o. placed.Inner p (row (place at n) (children o))) f ∙ ap (placed.Inner p) r.same;
      sound = (
        record {
          node = Inner (links_of hash Ps);
          is = f;
          low = inside.0;
          inside = inside.1;
          digest = ap (λ (e : Entry). e.digest) (entry_inner hash Ps);
          rect = ap (λ (e : Entry). e.rect) (entry_inner hash Ps);
          sums = record {
            mask = ap (λ (e : Entry). e.mask) (entry_inner hash Ps);
            count = λ _. ap (λ (e : Entry). e.count) (entry_inner hash Ps);
          };
          full = inner_filled root (links_of hash Ps) (trees_of Ps) (length_row hash Ps) filled;
        },
        subst (λ o. AllByRecursion (IsSound hash pages) (flat_map (visits at n false) (children o))) (sym f) r.sound,
      );
    }

pub below_levels : (n : ℕ) (ts : List Tree) → every-Tree HasOneLevel (tree.Inner ts) → level (tree.Inner ts) ≡ suc n →
    AllByRecursion (λ t. level t ≡ n) ts
below_levels n ts levels high =
    let next : first_level (map level ts) ≡ n = omega (arith, high, level-Inner ts) in
    recursion_from_All (λ t. level t ≡ n) ts (λ k d within. (here-Inner HasOneLevel ts levels k d within).1 ∙ next)

pub no_level_zero : (ts : List Tree) → level (tree.Inner ts) ≡ 0 → ⊥
no_level_zero ts e = omega (arith, e, level-Inner ts)

mutual
  pub unfolds : (hash : Scheme) (at : ℕ → Option Node) (pages : ℕ) (P : Placed) (n : ℕ) (root : Bool) →
      IsRead hash at P → every-Tree HasOneLevel (tree_of P) → level (tree_of P) ≡ n →
      FilledAs root (tree_of P) → AllByRecursion (Inside pages) (pages_of P) → Unfolds hash at pages n root P
  unfolds hash at pages (placed.Leaf p rs) n root written levels is filled inside =
      unfolds_leaf hash at pages n root p rs written is filled inside.0
  unfolds hash at pages (placed.Inner p Ps) zero root written levels is filled inside =
      absurd (no_level_zero (trees_of Ps) is)
  unfolds hash at pages (placed.Inner p Ps) (suc n) root written levels is filled inside =
      unfolds_inner hash at pages n root p Ps written.0 is filled inside.0
      (rows_unfold hash at pages Ps n written.1 (every_child HasOneLevel (trees_of Ps) levels)
      (below_levels n (trees_of Ps) levels is) (filled_below root (trees_of Ps) filled) inside.1)

  rows_unfold : (hash : Scheme) (at : ℕ → Option Node) (pages : ℕ) (Ps : Row) (n : ℕ) → AreRead hash at Ps →
      AllByRecursion (every-Tree HasOneLevel) (trees_of Ps) →
      AllByRecursion (λ t. level t ≡ n) (trees_of Ps) → AllByRecursion (every-Tree IsFilled) (trees_of Ps) →
      AllByRecursion (Inside pages) (all_pages Ps) → RowUnfolds hash at pages n Ps
  rows_unfold hash at pages no_more n written levels is filled inside = record { same = refl; sound = tt }
  rows_unfold hash at pages (first P Ps) n written levels is filled inside =
      let one = unfolds hash at pages P n false written.0 levels.0 is.0 filled.0
      (all_left (Inside pages) (pages_of P) (all_pages Ps) inside) in
      let rest = rows_unfold hash at pages Ps n written.1 levels.1 is.1 filled.1
      (all_right (Inside pages) (pages_of P) (all_pages Ps) inside) in
      record {
        same = λ i. first (one.same i) (rest.same i);
        sound = all_append (IsSound hash pages) (visits at n false (link_of hash P))
            (flat_map (visits at n false) (links_of hash Ps)) one.sound rest.sound;
      }
