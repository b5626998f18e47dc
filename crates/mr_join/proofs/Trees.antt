-- A tree in a list: what bounds say, how a tree is made of two, and what is not in reach.
use Rattle.std.proofs.Common.{◌≡◌, ℕ, zero, suc, ◌+◌, ◌/◌, ◌<◌, ◌≤◌, ℤ, ◌≤ℤ◌, ◌<ℤ◌, Bool, true, false, List, [], ◌∷◌, ◌++◌, length, get_or, take, drop, map, refl, sym, ap, subst, ◌∙◌, inl, inr, arith, append-nil, append_assoc, length-append}
use Rattle.std.specs.Prelude.{int_lt, int_le}
use Rattle.std.specs.List.{AllByRecursion}
use Rattle.std.proofs.lemmas.Bool.{cases_Bool, false≢true, and_parts}
use Rattle.std.proofs.lemmas.Int.{ints, by_lt_z}
use Rattle.std.proofs.lemmas.List.{drop_more, take-append-drop, length-take-le}
use Rattle.mr_geom.specs.Plane.{touches}
use Rattle.mr_geom.proofs.Planes.{sides-touches}
use Rattle.mr_geom.proofs.Rectangles.{true_from_T}
use Rattle.std.proofs.lemmas.Float.{T_from_true}
use Rattle.mr_join.specs.declared.entry.Entry.{Entry}
use Rattle.mr_join.specs.declared.pair.Pair.{Pair}
use Rattle.mr_join.specs.declared.bounds.Bounds.{Bounds}
use Rattle.mr_join.specs.declared.query.Query.{Query}
use Rattle.mr_join.specs.declared.searching.Node.{Node}
use Rattle.mr_join.specs.private.Sweeping.{is_met, pair_by, found_by, Within, Wider, reaches, own_entry, AllWithin, IsTreeTo, IsTree, Searched}

-- ---- bounds of one entry

pub ended : (x : ℤ) (b : Bounds) (e : Entry) → e.rect.x1 <ℤ x → Within x b e
ended x b e gone = λ on _. absurd (both gone on)
  where
    both : e.rect.x1 <ℤ x → x ≤ℤ e.rect.x1 → ⊥
    both p q = omega (arith, ints)

pub not_due : (x : ℤ) (b : Bounds) (e : Entry) → b.due ≤ℤ e.rect.x0 → Within x b e
not_due x b e late = λ _ due. absurd (both late due)
  where
    both : b.due ≤ℤ e.rect.x0 → e.rect.x0 <ℤ b.due → ⊥
    both p q = omega (arith, ints)

pub within_wider : (x : ℤ) (a b : Bounds) (e : Entry) → Wider a b → Within x a e → Within x b e
within_wider x a b e wider within = λ on due.
    let wide = wider.due in
    let low = wider.low in
    let high = wider.high in
    let before : e.rect.x0 <ℤ a.due = omega (arith, ints) in
    let lies = within on before in
    let under : a.low ≤ℤ e.rect.y0 = lies.0 in
    let over : e.rect.y1 ≤ℤ a.high = lies.1 in
    (omega (arith, ints), omega (arith, ints))

pub within_later : (x y : ℤ) (b : Bounds) (e : Entry) → x ≤ℤ y → Within x b e → Within y b e
within_later x y b e up within = λ on due. let before : x ≤ℤ e.rect.x1 = omega (arith, ints) in within before due

-- ---- bounds of several

all_weaker : {A : Type 0} (P Q : A → Type 0) → ((x : A) → P x → Q x) → (xs : List A) → AllByRecursion P xs
    → AllByRecursion Q xs
all_weaker P Q up [] all = tt
all_weaker P Q up (x ∷ xs) all = (up x all.0, all_weaker P Q up xs all.1)

all_both : {A : Type 0} (P : A → Type 0) (xs ys : List A) → AllByRecursion P xs → AllByRecursion P ys
    → AllByRecursion P (xs ++ ys)
all_both P [] ys all more = more
all_both P (x ∷ xs) ys all more = (all.0, all_both P xs ys all.1 more)

all_wider : (x : ℤ) (a b : Bounds) (ns : List Node) → Wider a b → AllWithin x a ns → AllWithin x b ns
all_wider x a b ns wider all =
    all_weaker (λ (n : Node). Within x a n.entry) (λ (n : Node). Within x b n.entry)
    (λ n. within_wider x a b n.entry wider) ns all

pub all_round : (x : ℤ) (f b s o r : Bounds) (front : List Node) (n : Node) (back : List Node)
    → AllWithin x f front → AllWithin x b back → Within x o n.entry → Wider f s → Wider b s → Wider o r → Wider s r
    → AllWithin x r (front ++ n ∷ back)
all_round x f b s o r front n back before behind own p q u w =
    all_both (λ (m : Node). Within x r m.entry) front (n ∷ back)
    (all_wider x s r front w (all_wider x f s front p before))
    (within_wider x o r n.entry u own, all_wider x s r back w (all_wider x b s back q behind))

-- ---- trees

append_same : {A : Type 0} (xs ys us vs : List A) → length xs ≡ length us → xs ++ ys ≡ us ++ vs
    → (xs ≡ us) × (ys ≡ vs)
append_same [] ys [] vs long same = (refl, same)
append_same [] ys (u ∷ us) vs long same = absurd cc
append_same (x ∷ xs) ys [] vs long same = absurd cc
append_same (x ∷ xs) ys (u ∷ us) vs long same =
    let rest = append_same xs ys us vs (let l : length xs ≡ length us = cc in l)
    (let e : xs ++ ys ≡ us ++ vs = cc in e) in
    let first : x ≡ u = cc in
    (λ i. first i ∷ rest.0 i, rest.1)

pub parts : (x : ℤ) (ns front : List Node) (n : Node) (back : List Node) → ns ≡ front ++ n ∷ back
    → length front ≡ length ns / 2 → IsTree x ns → IsTree x front × IsTree x back
parts x ns front n back same half tree = (
  λ d. (tree (suc d) front n back same half).1,
  λ d. (tree (suc d) front n back same half).2,
)

pub tree_of : (x : ℤ) (front : List Node) (n : Node) (back : List Node)
    → length front ≡ length (front ++ n ∷ back) / 2 → AllWithin x n.bounds (front ++ n ∷ back)
    → IsTree x front → IsTree x back → IsTree x (front ++ n ∷ back)
tree_of x front n back half all left right zero = tt
tree_of x front n back half all left right (suc d) = λ fs m bs same long.
    let cut = append_same front (n ∷ back) fs (m ∷ bs) (half ∙ sym long) same in
    let root : n ≡ m = cc in
    let rest : back ≡ bs = cc in (
      subst (λ (k : Node). AllWithin x k.bounds (front ++ n ∷ back)) root all,
      subst (IsTreeTo x d) cut.0 (left d),
      subst (IsTreeTo x d) rest (right d),
    )

tree_later_to : (x y : ℤ) → x ≤ℤ y → (d : ℕ) (ns : List Node) → IsTreeTo x d ns → IsTreeTo y d ns
tree_later_to x y up zero ns tree = tt
tree_later_to x y up (suc d) ns tree = λ front n back same half.
    let was = tree front n back same half in (
      all_weaker (λ (m : Node). Within x n.bounds m.entry) (λ (m : Node). Within y n.bounds m.entry)
          (λ m. within_later x y n.bounds m.entry up) ns was.0,
      tree_later_to x y up d front was.1,
      tree_later_to x y up d back was.2,
    )

pub tree_later : (x y : ℤ) (ns : List Node) → x ≤ℤ y → IsTree x ns → IsTree y ns
tree_later x y ns up tree = λ d. tree_later_to x y up d ns (tree d)

pub root_bounds : (x : ℤ) (ns : List Node) (m : Node) → IsTree x ns
    → AllWithin x (get_or ns (length ns / 2) m).bounds ns
root_bounds x [] m tree = tt
root_bounds x (first ∷ others) m tree =
    let low : length (first ∷ others) / 2 < length (first ∷ others) = omega arith in
    at_root (first ∷ others) (length (first ∷ others) / 2) refl low tree
  where
    at_root : (ns : List Node) (k : ℕ) → k ≡ length ns / 2 → k < length ns → IsTree x ns
        → AllWithin x (get_or ns k m).bounds ns
    at_root ns k half low t =
        let within : k ≤ length ns = omega arith in
        let same : ns ≡ take k ns ++ get_or ns k m ∷ drop (k + 1) ns =
        sym (take-append-drop k ns) ∙ ap (λ (zs : List Node). take k ns ++ zs) (drop_more ns k m low) in
        (t 1 (take k ns) (get_or ns k m) (drop (k + 1) ns) same (length-take-le k ns within ∙ half)).0

-- ---- out of reach

reaches_due : (q : Query) (b : Bounds) → b.due <ℤ q.until → reaches q b ≡ true
reaches_due q b due = rw (true_from_T (int_lt b.due q.until) due.lt) refl

reaches_lying : (q : Query) (b : Bounds) → b.low ≤ℤ q.rect.y1 → q.rect.y0 ≤ℤ b.high → reaches q b ≡ true
reaches_lying q b low high = elim (cases_Bool (int_lt b.due q.until)) [
  | inl t ↦ rw t refl
  | inr f ↦ rw (f, true_from_T (int_le b.low q.rect.y1) low.le, true_from_T (int_le q.rect.y0 b.high) high.le) refl
]

-- an entry that meets has bounds in reach
met_reaches : (q : Query) (b : Bounds) (e : Entry) → Within q.rect.x0 b e → is_met q e ≡ true → reaches q b ≡ true
met_reaches q b e within met =
    let both = and_parts (int_lt e.rect.x0 q.until) (touches q.rect e.rect) met in
    let begun : e.rect.x0 <ℤ q.until = record { lt = T_from_true (int_lt e.rect.x0 q.until) both.0 } in
    let sides = sides-touches q.rect e.rect both.1 in
    by_lt_z b.due q.until (reaches_due q b)
    (λ late.
    let due : e.rect.x0 <ℤ b.due = omega (arith, ints) in
    let lies = within sides.left due in
    let under : b.low ≤ℤ e.rect.y0 = lies.0 in
    let over : e.rect.y1 ≤ℤ b.high = lies.1 in
    let low : e.rect.y0 ≤ℤ q.rect.y1 = sides.high in
    let high : q.rect.y0 ≤ℤ e.rect.y1 = sides.low in
    reaches_lying q b (omega (arith, ints)) (omega (arith, ints)))

missed : (q : Query) (b : Bounds) (e : Entry) → reaches q b ≡ false → Within q.rect.x0 b e → is_met q e ≡ false
missed q b e far within = elim (cases_Bool (is_met q e)) [
  | inl t ↦ absurd (false≢true (sym far ∙ met_reaches q b e within t))
  | inr f ↦ f
]

none_met : (q : Query) (b : Bounds) (ns : List Node) → reaches q b ≡ false → AllWithin q.rect.x0 b ns
    → found_by (map own_entry ns) q ≡ []
none_met q b [] far all = refl
none_met q b (n ∷ ns) far all = rw (missed q b n.entry far all.0) (none_met q b ns far all.1)

-- ---- what a search finds

found_both : (es fs : List Entry) (q : Query) → found_by (es ++ fs) q ≡ found_by es q ++ found_by fs q
found_both [] fs q = refl
found_both (e ∷ es) fs q = by_test (is_met q e) refl (found_both es fs q)
  where
    by_test : (b : Bool) → is_met q e ≡ b → found_by (es ++ fs) q ≡ found_by es q ++ found_by fs q
        → found_by ((e ∷ es) ++ fs) q ≡ found_by (e ∷ es) q ++ found_by fs q
    by_test true m rest = rw m (ap (λ (ps : List Pair). pair_by q e ∷ ps) rest)
    by_test false m rest = rw m rest

entries_both : (ns ms : List Node) → map own_entry (ns ++ ms) ≡ map own_entry ns ++ map own_entry ms
entries_both [] ms = refl
entries_both (n ∷ ns) ms = ap (λ (es : List Entry). n.entry ∷ es) (entries_both ns ms)

found_three : (front : List Node) (n : Node) (back : List Node) (q : Query)
    → found_by (map own_entry (front ++ n ∷ back)) q
    ≡ (found_by (map own_entry front) q ++ found_by (n.entry ∷ []) q) ++ found_by (map own_entry back) q
found_three front n back q =
    ap (λ (es : List Entry). found_by es q) (entries_both front (n ∷ back))
    ∙ found_both (map own_entry front) (n.entry ∷ map own_entry back) q
    ∙ ap (λ (ps : List Pair). found_by (map own_entry front) q ++ ps)
    (found_both (n.entry ∷ []) (map own_entry back) q)
    ∙ sym (append_assoc (found_by (map own_entry front) q) (found_by (n.entry ∷ []) q)
    (found_by (map own_entry back) q))

same_length : (ns ms : List Node) → map own_entry ns ≡ map own_entry ms → length ns ≡ length ms
same_length [] [] same = refl
same_length [] (m ∷ ms) same = absurd cc
same_length (n ∷ ns) [] same = absurd cc
same_length (n ∷ ns) (m ∷ ms) same =
    let rest : map own_entry ns ≡ map own_entry ms = cc in ap (λ (k : ℕ). suc k) (same_length ns ms rest)

pub searched_none : (q : Query) (b : Bounds) (ns : List Node) (pairs : List Pair) → reaches q b ≡ false
    → IsTree q.rect.x0 ns → AllWithin q.rect.x0 b ns → Searched q ns ns pairs pairs
searched_none q b ns pairs far tree all = record {
  tree = tree;
  entries = refl;
  found = sym (append-nil pairs) ∙ ap (λ (ps : List Pair). pairs ++ ps) (sym (none_met q b ns far all));
}

pub searched_all : (q : Query) (ns front : List Node) (n : Node) (back left right : List Node) (r : Bounds)
    (before mid next after : List Pair) → ns ≡ front ++ n ∷ back → length front ≡ length ns / 2
    → Searched q front left before mid → next ≡ mid ++ found_by (n.entry ∷ []) q
    → Searched q back right next after
    → AllWithin q.rect.x0 r (left ++ record { entry = n.entry; bounds = r } ∷ right)
    → Searched q ns (left ++ record { entry = n.entry; bounds = r } ∷ right) before after
searched_all q ns front n back left right r before mid next after same half a here b all = record {
  tree =
      let at_left : length left ≡ length front = same_length left front a.entries in
      let at_right : length right ≡ length back = same_length right back b.entries in
      let long : length ns ≡ length front + suc (length back) =
      ap (λ (ms : List Node). length ms) same ∙ length-append front (n ∷ back) in
      let wide : length (left ++ m ∷ right) ≡ length left + suc (length right) = length-append left (m ∷ right) in
      tree_of q.rect.x0 left m right (omega arith) all a.tree b.tree;
  entries =
      entries_both left (m ∷ right) ∙ (λ i. a.entries i ++ n.entry ∷ b.entries i)
      ∙ sym (entries_both front (n ∷ back)) ∙ ap (map own_entry) (sym same);
  found =
      b.found ∙ ap (λ (ps : List Pair). ps ++ found_by (map own_entry back) q) (here ∙ ap (λ (ps : List Pair). ps
      ++ found_by (n.entry ∷ []) q) a.found)
      ∙ joined before (found_by (map own_entry front) q) (found_by (n.entry ∷ []) q) (found_by (map own_entry back) q)
      ∙ ap (λ (ps : List Pair). before ++ ps) (sym (found_three front n back q)
      ∙ ap (λ (ms : List Node). found_by (map own_entry ms) q) (sym same));
}
  where
    m : Node
    m = record { entry = n.entry; bounds = r }

    joined : (ps qs us vs : List Pair) → ((ps ++ qs) ++ us) ++ vs ≡ ps ++ ((qs ++ us) ++ vs)
    joined ps qs us vs = simp append_assoc
