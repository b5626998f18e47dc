-- The search for a record below an entry: only where its rectangle lies in the entry's.
use Rattle.std.proofs.Common.{◌≡◌, ◌≢◌, Bool, true, false, ◌||◌, ℕ, zero, suc, ◌+◌, ◌-◌, ◌<◌, ◌≤◌, List, [], ◌∷◌, ◌++◌, length, map, take, drop, get_or, refl, sym, ap, subst, ◌∙◌, arith}
use Rattle.std.specs.Prelude.{◌==◌, if◌then◌else◌, Option, Some, None, IfSome}
use Rattle.std.specs.List.{flat_map, list_any, AllByRecursion}
use Rattle.std.specs.Option.{option_to_list}
use Rattle.std.proofs.lemmas.Bool.{eqb-true, eqb-false}
use Rattle.std.proofs.lemmas.List.{length-map, get_or-map, get_or_default}
use Rattle.mr_geom.specs.Rectangle.{Rectangle, union, join, union_of}
use Rattle.mr_geom.proofs.Rectangles.{union_comm, union_same, join_assoc, fold_join}
use Rattle.mr_record.specs.declared.record.Record.{Record}
use Rattle.mr_tree.specs.Digest.{Scheme}
use Rattle.mr_tree.specs.Tree.{records}
use Rattle.mr_tree.specs.declared.child.Child.{Child}
use Rattle.mr_tree.specs.declared.tree.Tree.{Tree}
use Rattle.mr_tree.specs.declared.tree.Tree.TheVariants as tree
use Rattle.mr_tree.specs.declared.tree.Tree.TheOpen as node
use Rattle.mr_tree.proofs.Equations.{entry_rect}
use Rattle.mr_tree.proofs.Joins.{rects_of, rect_round}
use Rattle.mr_grow.specs.Found.{has, place_of}
use Rattle.mr_grow.proofs.Kept.{records_below}
use Rattle.mr_grow.proofs.Shrunk.{has_below}
use Rattle.mr_pages.specs.Page.{Link}
use Rattle.mr_pages.specs.Stands.{Placed, Leaf, tree_of}
use Rattle.mr_pages.specs.Walking.{child_link}
use Rattle.mr_edit.specs.PageMap.{PageMap, HasNode}
use Rattle.mr_edit.specs.Held.{NamesTree, NameTrees, trees}
use Rattle.mr_edit.specs.private.Removal.{HaveRect, LacksRecord}
use Rattle.mr_edit.proofs.Zips.{same_length, zip_at}
use Rattle.mr_edit.proofs.Rows.{row_trees}
use Rattle.mr_edit.proofs.Entries.{opens_inner}

-- ---- a rectangle that stands in a list changes nothing in the union

join_comm : (a b : Option Rectangle) → join a b ≡ join b a
join_comm None None = refl
join_comm None (Some b) = refl
join_comm (Some a) None = refl
join_comm (Some a) (Some b) = ap Some (union_comm a b)

join_same : (a : Option Rectangle) → join a a ≡ a
join_same None = refl
join_same (Some a) = ap Some (union_same a)

here_again : (a u : Option Rectangle) → join (join a u) a ≡ join a u
here_again a u = join_assoc a u a ∙ ap (join a) (join_comm u a) ∙ sym (join_assoc a a u)
    ∙ ap (λ b. join b u) (join_same a)

pub absorbed : (n : ℕ) (r : Rectangle) (rs : List Record) → HaveRect n r rs → has n rs ≡ true →
    join (union_of (rects_of rs)) (Some r) ≡ union_of (rects_of rs)
absorbed n r [] all e = cc
absorbed n r (one ∷ rs) all e = at (one.number == n) refl e (absorbed n r rs all.1)
  where
    whole : union_of (rects_of (one ∷ rs)) ≡ join (Some one.rect) (union_of (rects_of rs))
    whole = fold_join (Some one.rect) (rects_of rs)

    at : (b : Bool) → (one.number == n) ≡ b → (b || has n rs) ≡ true →
        (has n rs ≡ true → join (union_of (rects_of rs)) (Some r) ≡ union_of (rects_of rs)) →
        join (union_of (rects_of (one ∷ rs))) (Some r) ≡ union_of (rects_of (one ∷ rs))
    at true is h rest =
        let same : one.rect ≡ r = all.0 (eqb-true one.number n is) in
        ap (λ u. join u (Some r)) (whole ∙ ap (λ x. join (Some x) (union_of (rects_of rs))) same)
        ∙ here_again (Some r) (union_of (rects_of rs)) ∙ ap (λ x. join (Some x) (union_of (rects_of rs))) (sym same)
        ∙ sym whole
    at false is h rest =
        ap (λ u. join u (Some r)) whole ∙ join_assoc (Some one.rect) (union_of (rects_of rs)) (Some r)
        ∙ ap (join (Some one.rect)) (rest h) ∙ sym whole

-- an entry in whose rectangle the record's does not lie
pub outside : (scheme : Scheme) (told : Option PageMap) (c : Child) (n : ℕ) (r : Rectangle) → union c.rect r ≢ c.rect →
    LacksRecord scheme told c n r
outside scheme told c n r far a P is names all = at (has n (records (tree_of P))) refl
  where
    round : Some c.rect ≡ union_of (rects_of (records (tree_of P)))
    round = ap (λ (l : Link). l.entry.rect) names.said ∙ entry_rect scheme (tree_of P) ∙ rect_round (tree_of P)

    at : (b : Bool) → has n (records (tree_of P)) ≡ b → has n (records (tree_of P)) ≡ false
    at false e = e
    at true e =
        let both : ◌≡◌ {A = Option Rectangle} (Some (union c.rect r)) (Some c.rect) =
        ap (λ u. join u (Some r)) round ∙ absorbed n r (records (tree_of P)) all e ∙ sym round in
        let same : union c.rect r ≡ c.rect = cc in
        absurd (far same)

-- ---- entry after entry

abbrev pub holds : ℕ → Tree → Bool
holds n t = has n (records t)

-- the first ones do not have it
abbrev pub NoneYet : Scheme → (told : Option PageMap) → List Child → ℕ → Rectangle → ℕ → Type 0
NoneYet scheme told cs n r i =
    (a : PageMap) (Ps : List Placed) → told ≡ Some a → NameTrees scheme a cs Ps → HaveRect n r
    (flat_map records (trees Ps)) →
    list_any (holds n) (take i (trees Ps)) ≡ false

pub none_first : (scheme : Scheme) (told : Option PageMap) (cs : List Child) (n : ℕ) (r : Rectangle) →
    NoneYet scheme told cs n r 0
none_first scheme told cs n r a Ps is named all = refl

one_more : {X : Type 0} (f : X → Bool) (xs : List X) (i : ℕ) (d : X) → i < length xs → list_any f (take i xs) ≡ false →
    f (get_or xs i d) ≡ false → list_any f (take (suc i) xs) ≡ false
one_more f [] i d within so_far here = absurd (omega (arith, within))
one_more f (x ∷ xs) zero d within so_far here = ap (λ b. b || false) here
one_more {X} f (x ∷ xs) (suc i) d within so_far here = at (f x) so_far
    (λ e. one_more f xs i d (omega (arith, within)) e here)
  where
    at : (b : Bool) → (b || list_any f (take i xs)) ≡ false → (list_any f (take i xs) ≡ false →
        list_any f (take (suc i) xs) ≡ false) → (b || list_any f (take (suc i) xs)) ≡ false
    at true e rest = cc
    at false e rest = rest e

left_part : (P : Record → Type 0) (xs ys : List Record) → AllByRecursion P (xs ++ ys) → AllByRecursion P xs
left_part P [] ys all = tt
left_part P (x ∷ xs) ys all = (all.0, left_part P xs ys all.1)

right_part : (P : Record → Type 0) (xs ys : List Record) → AllByRecursion P (xs ++ ys) → AllByRecursion P ys
right_part P [] ys all = all
right_part P (x ∷ xs) ys all = right_part P xs ys all.1

-- what holds of the records of all holds of those of one
pub all_below : (P : Record → Type 0) (ts : List Tree) (i : ℕ) (d : Tree) → i < length ts →
    AllByRecursion P (flat_map records ts) → AllByRecursion P (records (get_or ts i d))
all_below P [] i d within all = absurd (omega (arith, within))
all_below P (t ∷ ts) zero d within all = left_part P (records t) (flat_map records ts) all
all_below P (t ∷ ts) (suc i) d within all = all_below P ts i d (omega (arith, within))
    (right_part P (records t) (flat_map records ts) all)

-- the tree of an entry among others
pub record Among (scheme : Scheme) (a : PageMap) (c : Child) (Ps : List Placed) (i : ℕ) : Type 0 where
  pub part : Placed
  pub within : i < length Ps
  pub is : part ≡ get_or Ps i part
  pub names : NamesTree scheme a c part
  pub tree : tree_of part ≡ get_or (trees Ps) i (tree_of part)

pub among : (scheme : Scheme) (a : PageMap) (cs : List Child) (Ps : List Placed) (i : ℕ) (c : Child) →
    NameTrees scheme a cs Ps → i < length cs → c ≡ get_or cs i c → Among scheme a c Ps i
among scheme a cs Ps i c named within is =
    let none : Placed = Leaf 0 [] in
    let inside : i < length Ps = omega (arith, within, same_length (NamesTree scheme a) cs Ps named) in
    let x : Placed = get_or Ps i none in
    let here : x ≡ get_or Ps i x = get_or_default Ps i none x inside in
    record {
      part = x;
      within = inside;
      is = here;
      names = subst (λ e. NamesTree scheme a e x) (sym is) (zip_at (NamesTree scheme a) cs Ps i c none named within);
      tree = ap tree_of here ∙ sym (get_or-map tree_of Ps i x (tree_of x) inside);
    }

pub none_more : (scheme : Scheme) (told : Option PageMap) (cs : List Child) (n : ℕ) (r : Rectangle) (i : ℕ)
    (c : Child) →
    i < length cs → c ≡ get_or cs i c → LacksRecord scheme told c n r → NoneYet scheme told cs n r i →
    NoneYet scheme told cs n r (i + 1)
none_more scheme told cs n r i c within is lacks none a Ps told_is named all =
    let m = among scheme a cs Ps i c named within is in
    let t : Tree = tree_of m.part in
    let size : i < length (trees Ps) = omega (arith, m.within, length-map Ps tree_of) in
    let mine : HaveRect n r (records t) = subst (λ u. HaveRect n r (records u)) (sym m.tree)
    (all_below (λ (x : Record). x.number ≡ n → x.rect ≡ r) (trees Ps) i t size all) in
    let here : holds n (get_or (trees Ps) i t) ≡ false = subst (λ u. holds n u ≡ false) m.tree
    (lacks a m.part told_is m.names mine) in
    let up : suc i ≡ i + 1 = omega arith in
    subst (λ k. list_any (holds n) (take k (trees Ps)) ≡ false) up
    (one_more (holds n) (trees Ps) i t size (none a Ps told_is named all) here)

-- after the nth try: that of the child to which a way turns, or of the next one
pub none_tried : (scheme : Scheme) (told : Option PageMap) (cs : List Child) (n : ℕ) (r : Rectangle)
    (i turn at : ℕ) (c : Child) → at ≡ (if i == 0 then turn else i - 1) → at < length cs → c ≡ get_or cs at c →
    LacksRecord scheme told c n r → NoneYet scheme told cs n r (i - 1) → NoneYet scheme told cs n r (i + 1 - 1)
none_tried scheme told cs n r i turn at c tried within is lacks none = by_case (i == 0) refl tried
  where
    by_case : (b : Bool) → (i == 0) ≡ b → at ≡ (if b then turn else i - 1) → NoneYet scheme told cs n r (i + 1 - 1)
    by_case true e here =
        let first : i ≡ 0 = eqb-true i 0 e in
        let same : i - 1 ≡ i + 1 - 1 = omega (arith, first) in
        subst (NoneYet scheme told cs n r) same none
    by_case false e here =
        let later : i ≢ 0 = eqb-false i 0 e in
        let next : at + 1 ≡ i + 1 - 1 = omega (arith, here, later) in
        subst (NoneYet scheme told cs n r) next (none_more scheme told cs n r at c within is lacks
        (subst (NoneYet scheme told cs n r) (sym here) none))

-- no more entries stand where one or none stands in the place of one
pub replaced_few : {X : Type 0} (at : ℕ) (cs : List X) (o : Option X) → at < length cs →
    length (take at cs ++ (option_to_list o ++ drop (suc at) cs)) ≤ length cs
replaced_few at [] o within = absurd (omega (arith, within))
replaced_few zero (c ∷ cs) None within = omega arith
replaced_few zero (c ∷ cs) (Some x) within = omega arith
replaced_few (suc at) (c ∷ cs) o within =
    let rest : length (take at cs ++ (option_to_list o ++ drop (suc at) cs)) ≤ length cs =
    replaced_few at cs o (omega (arith, within)) in
    omega (arith, rest)

take_whole : {X : Type 0} (i : ℕ) (xs : List X) → length xs ≤ i → take i xs ≡ xs
take_whole {X} i [] past = gone i
  where
    gone : (i : ℕ) → take {A = X} i [] ≡ []
    gone zero = refl
    gone (suc i) = refl
take_whole zero (x ∷ xs) past = absurd (omega (arith, past))
take_whole (suc i) (x ∷ xs) past = ap (λ us. x ∷ us) (take_whole i xs (omega (arith, past)))

-- none of them has it
pub lacks_inner : (scheme : Scheme) (told : Option PageMap) (c : Child) (cs : List Child) (n : ℕ) (r : Rectangle)
    (i : ℕ) →
    IfSome told (λ b. HasNode b c.id (node.Inner (map child_link cs))) → length cs ≤ i →
    NoneYet scheme told cs n r i → LacksRecord scheme told c n r
lacks_inner scheme told c cs n r i reads past none a P is names all =
    let has_node : HasNode a c.id (node.Inner (map child_link cs)) =
    subst (λ o. IfSome o (λ b. HasNode b c.id (node.Inner (map child_link cs)))) is reads in
    let op = opens_inner scheme a c cs P names has_node in
    let Ps = op.parts in
    let what : records (tree_of P) ≡ flat_map records (trees Ps) = ap (λ Q. records (tree_of Q)) op.is
    ∙ ap (λ ts. records (tree.Inner ts)) (row_trees Ps) ∙ records_below (trees Ps) in
    let size : length (trees Ps) ≤ i = omega (
      arith,
      past,
      length-map Ps tree_of,
      same_length (NamesTree scheme a) cs Ps op.named,
    ) in
    ap (λ Q. has n (records (tree_of Q))) op.is ∙ ap (λ ts. has n (records (tree.Inner ts))) (row_trees Ps)
    ∙ has_below n (trees Ps)
    ∙ ap (list_any (holds n)) (sym (take_whole i (trees Ps) size))
    ∙ none a Ps is op.named (subst (HaveRect n r) what all)

-- the first that has it
pub place_found : {X : Type 0} (f : X → Bool) (xs : List X) (i : ℕ) (d : X) → i < length xs →
    list_any f (take i xs) ≡ false → f (get_or xs i d) ≡ true → place_of f xs ≡ i
place_found f [] i d within before here = absurd (omega (arith, within))
place_found f (x ∷ xs) zero d within before here = ap (λ b. if b then zero else suc (place_of f xs)) here
place_found {X} f (x ∷ xs) (suc i) d within before here = at (f x) before
    (λ e. place_found f xs i d (omega (arith, within)) e here)
  where
    at : (b : Bool) → (b || list_any f (take i xs)) ≡ false → (list_any f (take i xs) ≡ false → place_of f xs ≡ i) →
        (if b then zero else suc (place_of f xs)) ≡ suc i
    at true e rest = cc
    at false e rest = ap suc (rest e)
