-- What a map that is told has on the pages of its nodes.
use Rattle.std.proofs.Common.{◌≡◌, ℕ, zero, suc, ◌+◌, ◌<◌, ◌≤◌, List, [], ◌∷◌, ◌++◌, length, map, get_or, refl, sym, ap, subst, ◌∙◌, append_assoc, arith}
use Rattle.std.specs.Prelude.{⊤, nat_eq, Option, Some, None, option_map, IfSome, IsSomeAnd, slice_get}
use Rattle.std.specs.List.{AllByRecursion}
use Rattle.std.specs.Map.{lookup, keys_of}
use Rattle.std.proofs.lemmas.Bool.{eqb-true}
use Rattle.std.proofs.lemmas.List.{length-map, get_or-map, append-nil}
use Rattle.std.proofs.lemmas.List.Elements.{All-from_recursion, recursion_from_All, All-nil}
use Rattle.std.proofs.lemmas.Map.Entries.{place_from_lookup}
use Rattle.std.proofs.lemmas.Option.{slice_get_within, get_or_from_slice_get}
use Rattle.mr_record.specs.declared.record.Record.{Record}
use Rattle.mr_tree.specs.Limits.{level_limit}
use Rattle.mr_tree.specs.declared.entry.Entry.{Entry}
use Rattle.mr_tree.specs.Digest.{Scheme, entry}
use Rattle.mr_tree.specs.View as view
use Rattle.mr_tree.specs.Nodes.{MapModel, IsEntry, MayFetch, IsNodeOf, ShowsNode, tree_under}
use Rattle.mr_tree.specs.Snapshot.{HasShape}
use Rattle.mr_tree.specs.declared.child.Child.{Child}
use Rattle.mr_tree.specs.declared.tree.Tree.{Tree}
use Rattle.mr_tree.specs.declared.tree.Tree.TheVariants as tree
use Rattle.mr_tree.specs.declared.tree.Tree.TheOpen as node
use Rattle.mr_pages.specs.Page.{Link, Node, node_entry}
use Rattle.mr_pages.specs.Stands.{Placed, Row, Leaf, Inner, no_more, first, tree_of, trees_of, page_of, link_of, links_of, whole_tree}
use Rattle.mr_pages.specs.private.Spelled.{place, placed_at}
use Rattle.mr_pages.specs.Walking.{child_link, page_node}
use Rattle.mr_pages.proofs.Building.{IsRead, AreRead, entry_leaf, entry_inner, level_is}
use Rattle.mr_pages.proofs.Judged.{entry_same, level_same}
use Rattle.mr_pages.proofs.Lists.{all_append}
use Rattle.mr_store.specs.Parts.{parts, all_parts, whole_parts, tree_on, placed_model}
use Rattle.mr_store.specs.private.PartLaws.{last_is, before_last}
use Rattle.mr_store.specs.private.Ids.{ArePages, found_at, all_at}
use Rattle.mr_store.specs.Kept.{AreInside}
use Rattle.mr_store.specs.Stored.{IsRootOf}

-- ---- what a view shows, as what is to be said of it

pub level_known : (hash : Scheme) (n : view.Node) →
    view.level_of n ≡ (node_entry hash (page_node n)).level
level_known hash n = level_same n ∙ sym (level_is hash (page_node n))

pub digest_known : (hash : Scheme) (n : view.Node) →
    hash.of (view.preimage_of hash.version n) ≡ (node_entry hash (page_node n)).digest
digest_known hash n = ap (λ (k : Entry). k.digest) (entry_same hash n)

-- ---- each node of the map is on its page, and its children are nodes of the map

abbrev pub rows_of : Placed → Row
rows_of (Leaf p rs) = no_more
rows_of (Inner p Ps) = Ps

-- these stand among those, each at its page
abbrev pub AreAmong : List (ℕ × Placed) → Row → Type 0
AreAmong es no_more = ⊤
AreAmong es (first P Ps) = (lookup (nat_eq (page_of P)) es ≡ Some P) × AreAmong es Ps

pub record IsPart (hash : Scheme) (at : ℕ → Option Node) (es : List (ℕ × Placed))
    (e : ℕ × Placed)
    : Type 0 where
  pub page : page_of e.1 ≡ e.0
  pub read : IsRead hash at e.1
  pub below : AreAmong es (rows_of e.1)

get_middle : {A : Type 0} (xs : List A) (x : A) (ys : List A) →
    slice_get (xs ++ x ∷ ys) (length xs) ≡ Some x
get_middle [] x ys = refl
get_middle (y ∷ xs) x ys = get_middle xs x ys

module _ (hash : Scheme) (at : ℕ → Option Node) (span : ℕ)
    (es : List (ℕ × Placed)) (are : ArePages span es)
  where
    -- a tree that stands among them is found
    pub one_among : (P : Placed) (us vs : List (ℕ × Placed)) → es ≡ us ++ (parts P ++ vs) →
        lookup (nat_eq (page_of P)) es ≡ Some P
    one_among P us vs is =
        let front = us ++ before_last P in
        let there : es ≡ front ++ (page_of P, P) ∷ vs =
        is ∙ ap (λ ps. us ++ (ps ++ vs)) (last_is P)
        ∙ ap (λ xs. us ++ xs) (append_assoc (before_last P) ((page_of P, P) ∷ []) vs)
        ∙ sym (append_assoc us (before_last P) ((page_of P, P) ∷ vs)) in
        found_at span es are (length front) (page_of P) P
        (ap (λ xs. slice_get xs (length front)) there ∙ get_middle front (page_of P, P) vs)

    among : (Ps : Row) (us vs : List (ℕ × Placed)) → es ≡ us ++ (all_parts Ps ++ vs) →
        AreAmong es Ps
    among no_more us vs is = tt
    among (first P Ps) us vs is = (
      one_among P us (all_parts Ps ++ vs) (is ∙
          ap (λ xs. us ++ xs) (append_assoc (parts P) (all_parts Ps) vs)),
      among Ps (us ++ parts P) vs (is ∙
          ap (λ xs. us ++ xs) (append_assoc (parts P) (all_parts Ps) vs)
          ∙ sym (append_assoc us (parts P) (all_parts Ps ++ vs))),
    )

    mutual
      pub parts_are : (P : Placed) → IsRead hash at P → (us vs : List (ℕ × Placed)) →
          es ≡ us ++ (parts P ++ vs) →
          AllByRecursion (IsPart hash at es) (parts P)
      parts_are (Leaf p rs) read us vs is = (record { page = refl; read = read; below = tt }, tt)
      parts_are (Inner p Ps) read us vs is =
          let row : es ≡ us ++ (all_parts Ps ++ ((p, Inner p Ps) ∷ vs)) =
          is ∙ ap (λ xs. us ++ xs) (append_assoc (all_parts Ps) ((p, Inner p Ps) ∷ []) vs) in
          all_append (IsPart hash at es) (all_parts Ps) ((p, Inner p Ps) ∷ [])
          (rows_are Ps read.1 us ((p, Inner p Ps) ∷ vs) row)
          (record { page = refl; read = read; below = among Ps us ((p, Inner p Ps) ∷ vs) row }, tt)

      pub rows_are : (Ps : Row) → AreRead hash at Ps → (us vs : List (ℕ × Placed)) →
          es ≡ us ++ (all_parts Ps ++ vs) →
          AllByRecursion (IsPart hash at es) (all_parts Ps)
      rows_are no_more read us vs is = tt
      rows_are (first P Ps) read us vs is =
          let one = is ∙ ap (λ xs. us ++ xs) (append_assoc (parts P) (all_parts Ps) vs) in
          all_append (IsPart hash at es) (parts P) (all_parts Ps)
          (parts_are P read.0 us (all_parts Ps ++ vs) one)
          (rows_are Ps read.1 (us ++ parts P) vs (one ∙
          sym (append_assoc us (parts P) (all_parts Ps ++ vs))))

pub whole_parts_are : (hash : Scheme) (at : ℕ →
    Option Node) (span : ℕ) (po : Option Placed) →
    ArePages span (whole_parts po) → IfSome po (IsRead hash at) →
    AllByRecursion (IsPart hash at (whole_parts po)) (whole_parts po)
whole_parts_are hash at span None are read = tt
whole_parts_are hash at span (Some P) are read =
    parts_are hash at span (parts P) are P read [] [] (sym (append-nil (parts P)))

-- ---- what is found of a child that may be fetched

-- what a page is to hold of a child, and what is shown then
pub record IsOn (hash : Scheme) (at : ℕ →
    Option Node) (s : MapModel) (c : Child) : Type 0 where
  pub node : Node
  pub there : at c.id ≡ Some node
  pub known : node_entry hash node ≡ view.child_entry c
  pub inside : (n : view.Node) → page_node n ≡ node → AreInside s.span n
  pub shows : (n : view.Node) → page_node n ≡ node → HasShape n → view.AreTold hash.version n →
      c.level ≤ level_limit → ShowsNode hash.of s c n

pub record IsChildOf (hash : Scheme) (s : MapModel) (c : Child) : Type 0 where
  pub positive : 1 ≤ c.id
  pub within : c.id < s.span
  pub known : IsEntry hash.of s c

record Below (hash : Scheme) (s : MapModel) (cs : List Child) (ts : List Tree) : Type 0
  where
    each : AllByRecursion (IsChildOf hash s) cs
    ids : map (λ (c : Child). s.node c.id) cs ≡ map Some ts

first_same : {A : Type 0} (x y : A) (xs ys : List A) → x ∷ xs ≡ y ∷ ys → x ≡ y
first_same x y xs ys e = cc

rest_same : {A : Type 0} (x y : A) (xs ys : List A) → x ∷ xs ≡ y ∷ ys → xs ≡ ys
rest_same x y xs ys e = cc

each_at : {A : Type 0} (P : A → Type 0) (xs : List A) → AllByRecursion P xs → (k : ℕ) (d : A) →
    k < length xs →
    P (get_or xs k d)
each_at P [] all k d within = absurd (omega (arith, within))
each_at P (x ∷ xs) all zero d within = all.0
each_at P (x ∷ xs) all (suc k) d within = each_at P xs all.1 k d (omega (arith, within))

module _ (hash : Scheme) (at : ℕ → Option Node) (batch span : ℕ) (po : Option Placed)
    (are : ArePages span (whole_parts po)) where
  abbrev all : List (ℕ × Placed)
  all = whole_parts po

  abbrev s : MapModel
  s = placed_model hash.version batch span po

  -- a page that is found is in the file
  inside_at : (p : ℕ) (P : Placed) → lookup (nat_eq p) all ≡ Some P → (0 < p) × (p < span)
  inside_at p P e =
      let q = place_from_lookup (nat_eq p) all P e in
      let within : q.0 < length all = slice_get_within all q.0 (q.1, P) q.2 in
      let key : get_or (keys_of all) q.0 0 ≡ p =
      get_or-map (λ (e : ℕ × Placed). e.0) all q.0 (0, P) 0 within
      ∙ ap (λ (e : ℕ × Placed). e.0) (get_or_from_slice_get all q.0 (q.1, P) (0, P) q.2)
      ∙ sym (eqb-true p q.1 q.3) in
      subst (λ k. (0 < k) × (k < span)) key
      (all_at (λ k. (0 < k) × (k < span)) (keys_of all) are.inside q.0 0
      (omega (arith, within, length-map all (λ (e : ℕ × Placed). e.0))))

  pub child_is : (c : Child) (P : Placed) → child_link c ≡ link_of hash P →
      lookup (nat_eq (page_of P)) all ≡ Some P →
      IsChildOf hash s c
  child_is c P e found =
      let page : c.id ≡ page_of P = ap (λ (l : Link). l.page) e in
      let inside = inside_at (page_of P) P found in
      record {
        positive = omega (arith, page, inside.0);
        within = omega (arith, page, inside.1);
        known = subst (λ p. IsSomeAnd (tree_on all p) (λ t. view.child_entry c ≡ entry hash
            t)) (sym page)
            (subst (λ o. IsSomeAnd (option_map tree_of o) (λ t. view.child_entry c ≡ entry hash t))
            (sym found)
            (ap (λ (l : Link). l.entry) e));
      }

  pub child_on : (c : Child) (P : Placed) → child_link c ≡ link_of hash P →
      lookup (nat_eq (page_of P)) all ≡ Some P →
      s.node c.id ≡ Some (tree_of P)
  child_on c P e found = ap (tree_on all) (ap (λ (l : Link). l.page) e) ∙
      ap (option_map tree_of) found

  below_is : (cs : List Child) (Ps : Row) → map child_link cs ≡ links_of hash Ps →
      AreAmong all Ps →
      Below hash s cs (trees_of Ps)
  below_is [] no_more e among = record { each = tt; ids = refl }
  below_is [] (first P Ps) e among = absurd (no e)
    where
      no : ◌≡◌ {A = List Link} [] (link_of hash P ∷ links_of hash Ps) → ⊥
      no h = cc
  below_is (c ∷ cs) no_more e among = absurd (no e)
    where
      no : ◌≡◌ {A = List Link} (child_link c ∷ map child_link cs) [] → ⊥
      no h = cc
  below_is (c ∷ cs) (first P Ps) e among =
      let here = first_same (child_link c) (link_of hash P) (map child_link cs) (links_of
      hash Ps) e in
      let rest = below_is cs Ps (rest_same (child_link c) (link_of hash P) (map child_link
      cs) (links_of hash Ps) e)
      among.1 in
      record {
        each = (child_is c P here among.0, rest.each);
        ids = λ i. child_on c P here among.0 i ∷ rest.ids i;
      }

  may : (n : ℕ) (cs : List Child) → n ≤ level_limit → AllByRecursion (IsChildOf hash s) cs →
      AllByRecursion (λ (c : Child). c.level + 1 ≡ n) cs → AllByRecursion (MayFetch hash.of s) cs
  may n [] low each alike = tt
  may n (c ∷ cs) low each alike = (
    record {
      positive = each.0.positive;
      within = each.0.within;
      low = omega (arith, alike.0, low);
      known = λ told. each.0.known;
    },
    may n cs low each.1 alike.1,
  )

  insides : (cs : List Child) → AllByRecursion (IsChildOf hash s) cs →
      AllByRecursion (λ (c : Child). (1 ≤ c.id) × (c.id < span)) cs
  insides [] each = tt
  insides (c ∷ cs) each = ((each.0.positive, each.0.within), insides cs each.1)

  level_is_known : (c : Child) (n : view.Node) (m : Node) → page_node n ≡ m →
      node_entry hash m ≡ view.child_entry c →
      view.level_of n ≡ c.level
  level_is_known c n m e known = level_known hash n ∙ ap (λ k. (node_entry hash k).level) e
      ∙ ap (λ (x : Entry). x.level) known

  digest_is_known : (c : Child) (n : view.Node) (m : Node) → page_node n ≡ m →
      node_entry hash m ≡ view.child_entry c →
      hash.of (view.preimage_of hash.version n) ≡ c.digest
  digest_is_known c n m e known = digest_known hash n ∙
      ap (λ k. (node_entry hash k).digest) e
      ∙ ap (λ (x : Entry). x.digest) known

  leaf_shows : (c : Child) (rs : List Record) → s.node c.id ≡ Some (tree.Leaf rs) →
      node_entry hash (node.Leaf rs) ≡ view.child_entry c →
      (n : view.Node) → page_node n ≡ node.Leaf rs → HasShape n → view.AreTold hash.version n →
      ShowsNode hash.of s c n
  leaf_shows c rs here known node.Empty e shape told = absurd (no e)
    where
      no : ◌≡◌ {A = Node} node.Empty (node.Leaf rs) → ⊥
      no h = cc
  leaf_shows c rs here known (node.Inner cs) e shape told = absurd (no e)
    where
      no : ◌≡◌ {A = Node} (node.Inner (map child_link cs)) (node.Leaf rs) → ⊥
      no h = cc
  leaf_shows c rs here known (node.Leaf qs) e shape told =
      let same : qs ≡ rs = of_leaf e in
      record {
        some = shape.some;
        told = told;
        level = level_is_known c (node.Leaf qs) (node.Leaf rs) e known;
        digest = digest_is_known c (node.Leaf qs) (node.Leaf rs) e known;
        children = All-nil (MayFetch hash.of s);
        node = subst (λ o. IfSome o (λ t. IsNodeOf s t (node.Leaf qs))) (sym here) (ap tree.Leaf
            (sym same));
      }
    where
      of_leaf : ◌≡◌ {A = Node} (node.Leaf qs) (node.Leaf rs) → qs ≡ rs
      of_leaf h = cc

  inner_shows : (c : Child) (Ps : Row) → s.node c.id ≡ Some (tree.Inner (trees_of Ps)) →
      AreAmong all Ps →
      node_entry hash (node.Inner (links_of hash Ps)) ≡ view.child_entry c →
      (n : view.Node) → page_node n ≡ node.Inner (links_of hash Ps) → HasShape n →
      view.AreTold hash.version n → c.level ≤ level_limit →
      ShowsNode hash.of s c n
  inner_shows c Ps here among known node.Empty e shape told low = absurd (no e)
    where
      no : ◌≡◌ {A = Node} node.Empty (node.Inner (links_of hash Ps)) → ⊥
      no h = cc
  inner_shows c Ps here among known (node.Leaf rs) e shape told low = absurd (no e)
    where
      no : ◌≡◌ {A = Node} (node.Leaf rs) (node.Inner (links_of hash Ps)) → ⊥
      no h = cc
  inner_shows c Ps here among known (node.Inner cs) e shape told low =
      let b = below_is cs Ps (of_inner e) among in
      let level = level_is_known c (node.Inner cs) (node.Inner (links_of hash Ps)) e known
      in
      record {
        some = shape.some;
        told = told;
        level = level;
        digest = digest_is_known c (node.Inner cs) (node.Inner (links_of hash Ps)) e known;
        children = All-from_recursion (MayFetch hash.of s) cs (may (view.level_of (node.Inner cs))
            cs
            (omega (arith, level, low)) b.each
            (recursion_from_All (λ (d : Child). d.level + 1 ≡ view.level_of (node.Inner cs)) cs
            shape.alike));
        node = subst (λ o. IfSome o (λ t. IsNodeOf s t (node.Inner cs))) (sym here) (
          trees_of Ps,
          refl,
          b.ids,
        );
      }
    where
      of_inner : ◌≡◌ {A = Node} (node.Inner (map child_link cs)) (node.Inner (links_of hash
          Ps)) →
          map child_link cs ≡ links_of hash Ps
      of_inner h = cc

  inner_inside : (Ps : Row) → AreAmong all Ps → (n : view.Node) →
      page_node n ≡ node.Inner (links_of hash Ps) →
      AreInside span n
  inner_inside Ps among node.Empty e = All-nil _
  inner_inside Ps among (node.Leaf rs) e = All-nil _
  inner_inside Ps among (node.Inner cs) e =
      All-from_recursion (λ (c : Child). (1 ≤ c.id) × (c.id < span)) cs
      (insides cs (below_is cs Ps (of_inner e) among).each)
    where
      of_inner : ◌≡◌ {A = Node} (node.Inner (map child_link cs)) (node.Inner (links_of hash
          Ps)) →
          map child_link cs ≡ links_of hash Ps
      of_inner h = cc

  leaf_inside : (rs : List Record) (n : view.Node) → page_node n ≡ node.Leaf rs → AreInside span n
  leaf_inside rs node.Empty e = All-nil _
  leaf_inside rs (node.Leaf qs) e = All-nil _
  leaf_inside rs (node.Inner cs) e = absurd (no e)
    where
      no : ◌≡◌ {A = Node} (node.Inner (map child_link cs)) (node.Leaf rs) → ⊥
      no h = cc

  on_part : (c : Child) (P : Placed) → s.node c.id ≡ Some (tree_of P) → page_of P ≡ c.id →
      IsRead hash at P →
      AreAmong all (rows_of P) → view.child_entry c ≡ entry hash (tree_of P) →
      IsOn hash at s c
  on_part c (Leaf p rs) here page read among known = record {
    node = node.Leaf rs;
    there = ap at (sym page) ∙ read;
    known = entry_leaf hash rs ∙ sym known;
    inside = leaf_inside rs;
    shows = λ n e shape told low. leaf_shows c rs here (entry_leaf hash rs ∙
        sym known) n e shape told;
  }
  on_part c (Inner p Ps) here page read among known = record {
    node = node.Inner (links_of hash Ps);
    there = ap at (sym page) ∙ read.0;
    known = entry_inner hash Ps ∙ sym known;
    inside = inner_inside Ps among;
    shows = inner_shows c Ps here among (entry_inner hash Ps ∙ sym known);
  }

  part_at : AllByRecursion (IsPart hash at all) all → (p : ℕ) (P : Placed) →
      lookup (nat_eq p) all ≡ Some P →
      IsPart hash at all (p, P)
  part_at each p P e =
      let q = place_from_lookup (nat_eq p) all P e in
      let within : q.0 < length all = slice_get_within all q.0 (q.1, P) q.2 in
      subst (IsPart hash at all)
      (get_or_from_slice_get all q.0 (q.1, P) (p, P) q.2 ∙ ap (λ k. (
        k,
        P,
      )) (sym (eqb-true p q.1 q.3)))
      (each_at (IsPart hash at all) all each q.0 (p, P) within)

  -- what is found of a child that is the entry of one of the map's nodes
  pub is_on : IfSome po (IsRead hash at) → (c : Child) → IsEntry hash.of s c →
      IsOn hash at s c
  is_on read c known = here (lookup (nat_eq c.id) all) refl known
    where
      here : (o : Option Placed) → lookup (nat_eq c.id) all ≡ o →
          IsSomeAnd (option_map tree_of o) (λ t. view.child_entry c ≡ entry hash t) →
          IsOn hash at s c
      here None e k = absurd k
      here (Some P) e k =
          let part = part_at (whole_parts_are hash at span po are read) c.id P e in
          on_part c P (ap (option_map tree_of) e) part.page part.read part.below k

-- ---- the root

pub record IsRoot (hash : Scheme) (s : MapModel) (root : Option Child) (t : Tree) : Type 0 where
  pub may : IfSome root (MayFetch hash.of s)
  pub tree : tree_under s root ≡ Some t

pub root_on : (hash : Scheme) (at : ℕ →
    Option Node) (batch span : ℕ) (root : Option Child) →
    option_map child_link root ≡ option_map (link_of hash) (placed_at at (option_map
    child_link root)) →
    ArePages span (whole_parts (placed_at at (option_map child_link root))) →
    (count : ℕ) → IfSome root (IsRootOf hash.version count span) →
    IsRoot hash (placed_model hash.version batch span
    (placed_at at (option_map child_link root))) root
    (whole_tree (placed_at at (option_map child_link root)))
root_on hash at batch span None e are count known = record { may = tt; tree = refl }
root_on hash at batch span (Some c) e are count known =
    let P = place at c.level (child_link c) in
    let link : child_link c ≡ link_of hash P =
    of_some (child_link c) (link_of hash P) e in
    let found = one_among hash at span (parts P) are P [] [] (sym (append-nil (parts P))) in
    record {
      may = record {
        positive = known.positive;
        within = known.within;
        low = known.low;
        known = λ told. (child_is hash at batch span (Some P) are c P link found).known;
      };
      tree = child_on hash at batch span (Some P) are c P link found;
    }
  where
    of_some : (l m : Link) → Some l ≡ Some m → l ≡ m
    of_some l m h = cc
