-- The fault of a walk, piece by piece.
use Rattle.std.proofs.Common.{◌≡◌, ℕ, zero, suc, ◌+◌, ◌-◌, ◌<◌, length, get_or, take, drop, Bool, true, false, List, [], ◌∷◌, ◌++◌, map, refl, sym, ap, subst, ◌∙◌, append_assoc, arith}
use Rattle.mr_tree.specs.Digest.{Scheme}
use Rattle.std.specs.Prelude.{◌==◌, ◌||◌, nat_le, Option, Some}
use Rattle.std.specs.List.{flat_map, AllByRecursion}
use Rattle.std.proofs.lemmas.List.{append-nil, flat_map_more, take_more, map_more}
use Rattle.mr_record.specs.declared.record.Record.{Record}
use Rattle.mr_tree.specs.declared.tree.Tree.TheOpen.{Leaf, Inner}
use Rattle.mr_pages.specs.declared.rule.MapFault.{MapFault}
use Rattle.mr_pages.specs.declared.rule.MapRule.TheVariants as rule
use Rattle.mr_pages.specs.declared.visited.Visited.{Visited}
use Rattle.mr_tree.specs.declared.child.Child.{Child}
use Rattle.mr_pages.specs.Page.{Link, Node}
use Rattle.mr_pages.specs.Stands as placed
use Rattle.mr_pages.specs.Stands.{Placed, tree_of, trees_of}
use Rattle.mr_pages.specs.private.Spelled.{row, place}
use Rattle.mr_pages.specs.Faults.{fault_if, has, repeats, found, children, Visit, records_in, visit, visits, reached, all_records, numbers_of, node_faults, visit_faults, walk_faults, first_of}
use Rattle.mr_pages.specs.Walking.{child_link, enter_faults, Saw}
use Rattle.mr_pages.specs.private.Walks.{Passed}
use Rattle.mr_pages.proofs.Lists.{nil_both, no_fault}
use Rattle.mr_pages.proofs.Rules.{reached_more, numbers_more}
use Rattle.mr_pages.proofs.Building.{what_is_found}

pub first_front : (xs ys : List MapFault) (f : MapFault) → first_of xs ≡ Some f → first_of (xs ++ ys) ≡ Some f
first_front [] ys f e = cc
first_front (x ∷ xs) ys f e = e

pub first_behind : (xs ys : List MapFault) (f : MapFault) → xs ≡ [] → first_of ys ≡ Some f →
    first_of (xs ++ ys) ≡ Some f
first_behind xs ys f none e = ap (λ zs. first_of (zs ++ ys)) none ∙ e

pub walk_append : (hash : Scheme) (pages : ℕ) (before xs ys : List Visit) →
    walk_faults hash pages before (xs ++ ys) ≡ walk_faults hash pages before xs ++ walk_faults hash pages
    (before ++ xs) ys
walk_append hash pages before [] ys = ap (λ b. walk_faults hash pages b ys) (sym (append-nil before))
walk_append hash pages before (x ∷ xs) ys =
    ap (λ fs. visit_faults hash pages before x ++ fs)
    (walk_append hash pages (before ++ x ∷ []) xs ys ∙ ap
    (λ b. walk_faults hash pages (before ++ x ∷ []) xs ++ walk_faults hash pages b ys)
    (append_assoc before (x ∷ []) xs))
    ∙ sym (append_assoc (visit_faults hash pages before x) (walk_faults hash pages (before ++ x ∷ []) xs)
    (walk_faults hash pages (before ++ x ∷ xs) ys))

-- a visit's rules as the code tries them
pub visit_steps : (hash : Scheme) (pages : ℕ) (before : List Visit) (v : Visit) →
    visit_faults hash pages before v ≡ enter_faults pages (reached before) v.link.page
    ++ (node_faults hash v.root v.link v.node ++ fault_if
    (repeats (numbers_of (all_records before)) (numbers_of (records_in v.node))) v.link.page rule.Number)
visit_steps hash pages before v =
    sym (append_assoc (fault_if (v.link.page == 0 || nat_le pages v.link.page) v.link.page rule.Outside)
    (fault_if (has v.link.page (reached before)) v.link.page rule.Twice)
    (node_faults hash v.root v.link v.node ++ fault_if (repeats (numbers_of (all_records before))
    (numbers_of (records_in v.node))) v.link.page rule.Number))

-- ---- the visits below a link, by what is found there

abbrev below : (ℕ → Option Node) → ℕ → Link → List Visit
below at zero link = []
below at (suc n) link = flat_map (visits at n false) (children (found at link))

visits_head : (at : ℕ → Option Node) (n : ℕ) (root : Bool) (link : Link) →
    visits at n root link ≡ visit at root link ∷ below at n link
visits_head at zero root link = refl
visits_head at (suc n) root link = refl

-- what is met at a leaf, and what it spells
pub record AtLeaf (at : ℕ → Option Node) (root : Bool) (link : Link) (rs : List Record) : Type 0 where
  pub met : visits at link.entry.level root link ≡ visit at root link ∷ []
  pub spelled : place at link.entry.level link ≡ placed.Leaf link.page rs

pub at_leaf : (at : ℕ → Option Node) (root : Bool) (link : Link) (rs : List Record) → found at link ≡ Some (Leaf rs) →
    AtLeaf at root link rs
at_leaf at root link rs is =
    let low : 0 ≡ link.entry.level = (what_is_found at link (Leaf rs) is).level in
    record {
      met = ap (λ n. visits at n root link) (sym low);
      spelled = ap (λ n. place at n link) (sym low) ∙ ap (λ o. placed.Leaf link.page (records_in o)) is;
    }

-- what is met at an inner node, and what it spells
pub record AtInner (at : ℕ → Option Node) (root : Bool) (link : Link) (ls : List Link) : Type 0 where
  pub next : suc (link.entry.level - 1) ≡ link.entry.level
  pub met : visits at link.entry.level root link ≡ visit at root link ∷ flat_map
      (visits at (link.entry.level - 1) false) ls
  pub spelled : place at link.entry.level link ≡ placed.Inner link.page (row (place at (link.entry.level - 1)) ls)
  pub levels : AllByRecursion (λ (l : Link). l.entry.level ≡ link.entry.level - 1) ls

-- ---- the first fault, step by step

module _ (hash : Scheme) (pages : ℕ) (at : ℕ → Option Node) (before : List Visit) (root : Bool)
    (link : Link) where
  abbrev numbers_met : List ℕ
  numbers_met = numbers_of (all_records before)

  abbrev number_fault : List MapFault
  number_fault = fault_if (repeats numbers_met (numbers_of (records_in (found at link)))) link.page rule.Number

  -- a fault of the first visit is the walk's
  of_visit : (f : MapFault) → first_of (enter_faults pages
      (reached before) link.page ++ (node_faults hash root link (found at link) ++ number_fault)) ≡ Some f →
      first_of (walk_faults hash pages before (visits at link.entry.level root link)) ≡ Some f
  of_visit f e =
      ap (λ vs. first_of (walk_faults hash pages before vs)) (visits_head at link.entry.level root link)
      ∙ first_front (visit_faults hash pages before (visit at root link))
      (walk_faults hash pages (before ++ visit at root link ∷ []) (below at link.entry.level link)) f
      (ap first_of (visit_steps hash pages before (visit at root link)) ∙ e)

  pub refused_at_entry : (f : MapFault) → first_of (enter_faults pages (reached before) link.page) ≡ Some f →
      first_of (walk_faults hash pages before (visits at link.entry.level root link)) ≡ Some f
  refused_at_entry f e = of_visit f (first_front (enter_faults pages (reached before) link.page)
      (node_faults hash root link (found at link) ++ number_fault) f e)

  pub refused_by_look : (f : MapFault) → enter_faults pages (reached before) link.page ≡ [] →
      first_of (node_faults hash root link (found at link)) ≡ Some f →
      first_of (walk_faults hash pages before (visits at link.entry.level root link)) ≡ Some f
  refused_by_look f none e =
      of_visit f (first_behind (enter_faults pages (reached before) link.page)
      (node_faults hash root link (found at link) ++ number_fault) f none
      (first_front (node_faults hash root link (found at link)) number_fault f e))

  pub refused_by_number : enter_faults pages (reached before) link.page ≡ [] →
      node_faults hash root link (found at link) ≡ [] →
      repeats numbers_met (numbers_of (records_in (found at link))) ≡ true →
      first_of (walk_faults hash pages before (visits at link.entry.level root link))
      ≡ Some (record { page = link.page; rule = rule.Number })
  refused_by_number none sound twice =
      of_visit (record { page = link.page; rule = rule.Number })
      (first_behind (enter_faults pages (reached before) link.page)
      (node_faults hash root link (found at link) ++ number_fault) _ none
      (first_behind (node_faults hash root link (found at link)) number_fault _ sound
      (ap (λ b. first_of (fault_if b link.page rule.Number)) twice)))

  pub visit_passes : enter_faults pages (reached before) link.page ≡ [] →
      node_faults hash root link (found at link) ≡ [] →
      repeats numbers_met (numbers_of (records_in (found at link))) ≡ false →
      walk_faults hash pages before (visit at root link ∷ []) ≡ []
  visit_passes none sound once =
      nil_both (visit_faults hash pages before (visit at root link)) []
      (visit_steps hash pages before (visit at root link)
      ∙ nil_both (enter_faults pages (reached before) link.page)
      (node_faults hash root link (found at link) ++ number_fault) none
      (nil_both (node_faults hash root link (found at link)) number_fault sound
      (no_fault _ link.page rule.Number once)))
      refl

-- ---- what a walk keeps

pub saw_visit : (pages : ℕ) (s : Visited) (before : List Visit) (v : Visit) →
    Saw pages s (reached before ++ v.link.page ∷ []) (numbers_of (all_records before) ++ numbers_of (records_in v.node))
    →
    Saw pages s (reached (before ++ v ∷ [])) (numbers_of (all_records (before ++ v ∷ [])))
saw_visit pages s before v saw =
    subst (λ ps. Saw pages s ps (numbers_of (all_records (before ++ v ∷ [])))) (sym (reached_more before v))
    (subst (Saw pages s (reached before ++ v.link.page ∷ [])) (sym (numbers_more before v)) saw)

pub passed_more : (hash : Scheme) (pages : ℕ) (before vs us : List Visit) (s r : Visited) →
    Passed hash pages before vs s → Passed hash pages (before ++ vs) us r → Passed hash pages before (vs ++ us) r
passed_more hash pages before vs us s r p q = record {
  none = walk_append hash pages before vs us ∙ nil_both (walk_faults hash pages before vs)
      (walk_faults hash pages (before ++ vs) us) p.none q.none;
  saw = subst (λ ws. Saw pages r (reached ws) (numbers_of (all_records ws))) (append_assoc before vs us) q.saw;
}

-- a fault below a later child
pub refused_below : (hash : Scheme) (pages : ℕ) (before vs us ws all : List Visit) (f : MapFault) →
    all ≡ vs ++ (us ++ ws) → walk_faults hash pages before vs ≡ [] →
    first_of (walk_faults hash pages (before ++ vs) us) ≡ Some f →
    first_of (walk_faults hash pages before all) ≡ Some f
refused_below hash pages before vs us ws all f is none e =
    ap (λ xs. first_of (walk_faults hash pages before xs)) is
    ∙ ap first_of (walk_append hash pages before vs (us ++ ws))
    ∙ first_behind (walk_faults hash pages before vs) (walk_faults hash pages (before ++ vs) (us ++ ws)) f none
    (ap first_of (walk_append hash pages (before ++ vs) us ws)
    ∙ first_front (walk_faults hash pages (before ++ vs) us) (walk_faults hash pages ((before ++ vs) ++ us) ws) f e)

pub trees_of_row : (f : Link → Placed) (ls : List Link) → trees_of (row f ls) ≡ map (λ l. tree_of (f l)) ls
trees_of_row f [] = refl
trees_of_row f (l ∷ ls) = ap (λ ts. tree_of (f l) ∷ ts) (trees_of_row f ls)

pub repeats_append : (b xs ys : List ℕ) → repeats b (xs ++ ys) ≡ (repeats b xs || repeats (b ++ xs) ys)
repeats_append b [] ys = ap (λ c. repeats c ys) (sym (append-nil b))
repeats_append b (x ∷ xs) ys =
    ap (λ t. has x b || t) (repeats_append (b ++ x ∷ []) xs ys
    ∙ ap (λ c. repeats (b ++ x ∷ []) xs || repeats c ys) (append_assoc b (x ∷ []) xs))
    ∙ assoc (has x b) (repeats (b ++ x ∷ []) xs) (repeats (b ++ x ∷ xs) ys)
  where
    assoc : (p q r : Bool) → (p || (q || r)) ≡ ((p || q) || r)
    assoc true q r = refl
    assoc false q r = refl

-- ---- what the code finds at each step, as it answers

pub number_refused : (hash : Scheme) (pages : ℕ) (at : ℕ → Option Node) (before : List Visit) (root : Bool)
    (link : Link) (rs news : List Record) (twice : Bool) →
    enter_faults pages (reached before) link.page ≡ [] → node_faults hash root link (found at link) ≡ [] →
    found at link ≡ Some (Leaf rs) → news ≡ rs →
    twice ≡ repeats (numbers_of (all_records before)) (numbers_of news) → twice ≡ true →
    first_of (walk_faults hash pages before (visits at link.entry.level root link))
    ≡ Some (record { page = link.page; rule = rule.Number })
number_refused hash pages at before root link rs news twice none sound is same test yes' =
    refused_by_number hash pages at before root link none sound
    (ap (λ o. repeats (numbers_of (all_records before)) (numbers_of (records_in o))) is
    ∙ ap (λ xs. repeats (numbers_of (all_records before)) (numbers_of xs)) (sym same) ∙ sym test ∙ yes')

pub inner_starts : (hash : Scheme) (pages : ℕ) (at : ℕ → Option Node) (before : List Visit) (root : Bool)
    (link : Link) (ls : List Link) (s : Visited) →
    enter_faults pages (reached before) link.page ≡ [] →
    Saw pages s (reached before ++ link.page ∷ []) (numbers_of (all_records before)) →
    node_faults hash root link (found at link) ≡ [] → found at link ≡ Some (Inner ls) →
    Passed hash pages before (visit at root link ∷ []) s
inner_starts hash pages at before root link ls s none saw sound is = record {
  none = visit_passes hash pages at before root link none sound
      (ap (λ o. repeats (numbers_of (all_records before)) (numbers_of (records_in o))) is);
  saw = saw_visit pages s before (visit at root link)
      (subst (λ o. Saw pages s (reached before ++ link.page ∷ [])
      (numbers_of (all_records before) ++ numbers_of (records_in o))) (sym is)
      (subst (Saw pages s (reached before ++ link.page ∷ []))
      (sym (append-nil (numbers_of (all_records before)))) saw));
}

pub child_level : (m : ℕ) (items : List Child) → AllByRecursion (λ (l : Link). l.entry.level ≡ m)
    (map child_link items) → (i : ℕ) (one : Child) → i < length items → one ≡ get_or items i one → one.level ≡ m
child_level m [] all i one within is = absurd (omega (arith, within))
child_level m (c ∷ cs) all zero one within is = ap (λ (k : Child). k.level) is ∙ all.0
child_level m (c ∷ cs) all (suc i) one within is = child_level m cs all.1 i one (omega (arith, within)) is

pub split_at : {A B : Type 0} (f : A → List B) (xs : List A) (i : ℕ) (x : A) → i < length xs → x ≡ get_or xs i x →
    flat_map f xs ≡ flat_map f (take i xs) ++ (f x ++ flat_map f (drop (suc i) xs))
split_at f [] i x within is = absurd (omega (arith, within))
split_at f (y ∷ ys) zero x within is = ap (λ z. f z ++ flat_map f ys) (sym is)
split_at f (y ∷ ys) (suc i) x within is =
    ap (λ zs. f y ++ zs) (split_at f ys i x (omega (arith, within)) is)
    ∙ sym (append_assoc (f y) (flat_map f (take i ys)) (f x ++ flat_map f (drop (suc i) ys)))

pub of_links : {B : Type 0} (f : Link → List B) (cs : List Child) →
    flat_map f (map child_link cs) ≡ flat_map (λ (c : Child). f (child_link c)) cs
of_links f [] = refl
of_links f (c ∷ cs) = ap (λ xs. f (child_link c) ++ xs) (of_links f cs)

pub one_more : {A B : Type 0} (f : A → List B) (xs : List A) (i : ℕ) (x : A) → i < length xs → x ≡ get_or xs i x →
    flat_map f (take i xs) ++ f x ≡ flat_map f (take (i + 1) xs)
one_more f xs i x within is = flat_map_more f [] (take i xs) x
    ∙ ap (flat_map f) (ap (λ y. take i xs ++ y ∷ []) is ∙ sym (take_more xs i x within))

pub map_one_more : {A B : Type 0} (f : A → B) (xs : List A) (i : ℕ) (x : A) → i < length xs → x ≡ get_or xs i x →
    map f (take i xs) ++ f x ∷ [] ≡ map f (take (i + 1) xs)
map_one_more f xs i x within is = ap (λ y. map f (take i xs) ++ f y ∷ []) is ∙ sym (map_more f xs i x within)
