-- A walk over pages, step by step: what it meets, and what it leaves.
use Rattle.std.proofs.Common.{◌≡◌, ℕ, suc, ◌+◌, ◌-◌, ◌<◌, length, get_or, take, drop, Bool, true, false, List, [], ◌∷◌, ◌++◌, map, refl, sym, ap, subst, ◌∙◌, arith}
use Rattle.std.specs.Prelude.{Option, Some, None, Result, Ok, Err, All, IfSome}
use Rattle.std.specs.List.{flat_map, AllByRecursion}
use Rattle.std.proofs.lemmas.Bool.{OnFalse_at}
use Rattle.std.proofs.lemmas.List.{take_more}
use Rattle.std.proofs.lemmas.List.Elements.{All-nil, recursion_from_All}
use Rattle.mr_record.specs.declared.record.Record.{Record}
use Rattle.mr_record.specs.declared.version.Version.{Version}
use Rattle.mr_tree.proofs.Told.{any_layers, told_counts}
use Rattle.mr_tree.specs.View as view
use Rattle.mr_tree.specs.Digest.{Scheme}
use Rattle.mr_tree.specs.declared.entry.Entry.{Entry}
use Rattle.mr_tree.specs.declared.tree.Tree.{Tree}
use Rattle.mr_tree.specs.declared.tree.Tree.TheVariants as tree
use Rattle.mr_tree.specs.Snapshot.{HasShape}
use Rattle.mr_tree.specs.declared.child.Child.{Child}
use Rattle.mr_tree.specs.declared.tree.Tree.TheOpen.{Empty, Leaf, Inner}
use Rattle.mr_pages.specs.declared.error.MapErr.{MapErr}
use Rattle.mr_pages.specs.declared.error.MapErr.TheVariants as errors
use Rattle.mr_pages.specs.declared.node.Node as owned_type
use Rattle.mr_pages.specs.declared.visited.Visited.{Visited}
use Rattle.mr_pages.specs.Page.{Link, Node, level_of, IsNode}
use Rattle.mr_pages.specs.File.{File}
use Rattle.mr_pages.specs.Faults.{repeats, found, children, Visit, records_in, visit, visits, reached, all_records, numbers_of, node_faults, walk_faults, first_of}
use Rattle.mr_pages.specs.Walking.{child_link, page_node, owned, enter_faults, Saw, MeetsNumbers}
use Rattle.mr_pages.specs.private.Walks.{Passed}
use Rattle.mr_pages.specs.Source.{Sourced, MatchesChild, ReadsWithinRoom}
use Rattle.mr_pages.specs.Gathering.{AreMade, SuitsChild, SuitsEntry, IsCounted, tree_over}
use Rattle.mr_pages.specs.private.Walks.{ReadsChecked, WalksBelowLink}
use Rattle.mr_tree.specs.Tree.{first_level}
use Rattle.mr_pages.specs.Stands as placed
use Rattle.mr_pages.specs.Stands.{tree_of}
use Rattle.mr_pages.specs.private.Spelled.{row, place}
use Rattle.mr_pages.proofs.Building.{what_is_found}
use Rattle.mr_pages.proofs.Fits.{level_known, count_known}
use Rattle.mr_pages.proofs.Judged.{entry_same, level_same}
use Rattle.mr_pages.proofs.ViewPages.{node_tells}
use Rattle.mr_pages.proofs.Rules.{node_sound}
use Rattle.mr_pages.proofs.Walks.{AtInner, at_leaf, refused_by_look, visit_passes, saw_visit, passed_more, refused_below, child_level, split_at, of_links, one_more, map_one_more, trees_of_row}

-- ---- one node

pub shape_of : (s : Version) (n : view.Node) → view.IsView n → IsNode s (page_node n) → view.AreTold s n → HasShape n
shape_of s Empty v fits told = absurd v
shape_of s (Leaf rs) v fits told = record {
  some = fits.0;
  brief = v.few;
  few = omega arith;
  low = omega arith;
  alike = All-nil _;
  layers = any_layers s rs told.layers;
  counts = All-nil _;
}
shape_of s (Inner cs) v fits told = record {
  some = v.some;
  brief = omega arith;
  few = v.few;
  low = v.low;
  alike = v.alike;
  layers = All-nil _;
  counts = told_counts s cs told.children;
}

pub knows_of : (hash : Scheme) (c : Child) (root : Bool) (n : view.Node) (o : owned_type.Node) →
    view.IsView n → IsNode hash.version (page_node n) × (level_of (page_node n) ≡ c.level) →
    node_faults hash root (child_link c) (Some (page_node n)) ≡ [] → owned o ≡ n → MatchesChild hash c o
knows_of hash c root n o v fits none is = record {
  shape = subst HasShape (sym is) (shape_of hash.version n v fits.0 (node_tells hash.version n fits.0));
  told = subst (view.AreTold hash.version) (sym is) (node_tells hash.version n fits.0);
  level = ap view.level_of is ∙ level_same n ∙ fits.1;
  digest = ap (λ m. hash.of (view.preimage_of hash.version m)) is ∙ ap (λ (k : Entry). k.digest) (entry_same hash n)
      ∙ (node_sound hash root (child_link c) (page_node n) none).digest;
}

-- the same as its entry, where a root has the count that is said of it
has_count : (root : Bool) (a b : ℕ) → (root ≡ false → a ≡ b) → (root ≡ true → b ≡ a) → a ≡ b
has_count true a b below counted = sym (counted refl)
has_count false a b below counted = below refl

pub suits_of : (hash : Scheme) (c : Child) (root : Bool) (n : view.Node) (o : owned_type.Node) →
    view.IsView n → IsNode hash.version (page_node n) × (level_of (page_node n) ≡ c.level) →
    node_faults hash root (child_link c) (Some (page_node n)) ≡ [] → owned o ≡ n → SuitsChild hash root c o
suits_of hash c root n o v fits none is =
    subst (λ m. IsCounted root c (view.count_over hash.version m) → SuitsEntry hash root c m) (sym is) suits
  where
    suits : IsCounted root c (view.count_over hash.version n) → SuitsEntry hash root c n
    suits counted =
        let told = node_tells hash.version n fits.0 in
        let sound = node_sound hash root (child_link c) (page_node n) none in
        let same = entry_same hash n in
        record {
          fits = v;
          some = (shape_of hash.version n v fits.0 told).some;
          told = told;
          known = λ i. record {
            level = (sym (level_known hash n ∙ level_same n ∙ fits.1)) i;
            rect = (sym (ap (λ (e : Entry). e.rect) same ∙ sound.rect)) i;
            mask = (sym (ap (λ (e : Entry). e.mask) same ∙ sound.sums.mask)) i;
            count = (sym (has_count root (view.entry_over hash n).count c.count
                (λ below. ap (λ (e : Entry). e.count) same ∙ sound.sums.count below)
                (λ is_root. counted is_root ∙ sym (count_known hash n)))) i;
            digest = (sym (ap (λ (e : Entry). e.digest) same ∙ sound.digest)) i;
          };
          full = sound.full;
        }

-- ---- what is met

pub look_refuses : (A : Type 0) (hash : Scheme) (pages : ℕ) (at : ℕ → Option Node) (before : List Visit)
    (root : Bool) (link : Link) (e : MapErr) (s : Visited) → enter_faults pages (reached before) link.page ≡ [] →
    ReadsChecked hash at root link (Err e) → WalksBelowLink {A = A} hash pages at before root link (Err e) s
look_refuses A hash pages at before root link (errors.Map f) s none e =
    refused_by_look hash pages at before root link f none e
look_refuses A hash pages at before root link errors.NoMemory s none e = tt
look_refuses A hash pages at before root link errors.Missing s none e = tt
look_refuses A hash pages at before root link errors.Fault s none e = tt

pub leaf_passes : (hash : Scheme) (pages : ℕ) (at : ℕ → Option Node) (before : List Visit) (root : Bool)
    (link : Link) (rs news : List Record) (twice : Bool) (s : Visited) →
    enter_faults pages (reached before) link.page ≡ [] → node_faults hash root link (found at link) ≡ [] →
    found at link ≡ Some (Leaf rs) → news ≡ rs →
    MeetsNumbers pages (reached before ++ link.page ∷ []) (numbers_of (all_records before)) (numbers_of news) twice s →
    twice ≡ false → Passed hash pages before (visits at link.entry.level root link) s
leaf_passes hash pages at before root link rs news twice s none sound is same count no' =
    let l = at_leaf at root link rs is in
    let once : repeats (numbers_of (all_records before)) (numbers_of (records_in (found at link))) ≡ false =
    ap (λ o. repeats (numbers_of (all_records before)) (numbers_of (records_in o))) is
    ∙ ap (λ xs. repeats (numbers_of (all_records before)) (numbers_of xs)) (sym same) ∙ sym count.0 ∙ no' in
    let saw : Saw pages s (reached before ++ link.page ∷ [])
    (numbers_of (all_records before) ++ numbers_of (records_in (found at link))) =
    subst (λ o. Saw pages s (reached before ++ link.page ∷ [])
    (numbers_of (all_records before) ++ numbers_of (records_in o))) (sym is)
    (subst (λ xs. Saw pages s (reached before ++ link.page ∷ []) (numbers_of (all_records before) ++ numbers_of xs))
    same (OnFalse_at no' count.1)) in
    subst (λ vs. Passed hash pages before vs s) (sym l.met) (record {
      none = visit_passes hash pages at before root link none sound once;
      saw = saw_visit pages s before (visit at root link) saw;
    })

-- the walk is below this many children
abbrev pub PassedBelow : Scheme → ℕ → (ℕ → Option Node) → (before : List Visit) → Bool → Link →
    List Child → Visited → Type 0
PassedBelow hash pages at before root link items s = Passed hash pages before (visit at root link ∷ flat_map
    (λ (c : Child). visits at (link.entry.level - 1) false (child_link c)) items) s

-- the visits before a child
abbrev pub before_child : (ℕ → Option Node) → (before : List Visit) → Bool → Link → List Child → List Visit
before_child at before root link items = before ++ (visit at root link ∷ flat_map
    (λ (c : Child). visits at (link.entry.level - 1) false (child_link c)) items)

pub child_refuses : (A B : Type 0) (hash : Scheme) (pages : ℕ) (at : ℕ → Option Node) (before : List Visit)
    (root : Bool) (link : Link) (cs items : List Child) (s r : Visited) (i : ℕ) (one : Child) (e : MapErr) →
    AtInner at root link (map child_link cs) → items ≡ cs → i < length items → one ≡ get_or items i one →
    PassedBelow hash pages at before root link (take i items) s →
    WalksBelowLink {A = A} hash pages at (before_child at before root link (take i items)) false (child_link one)
    (Err e) r →
    WalksBelowLink {A = B} hash pages at before root link (Err e) r
child_refuses A B hash pages at before root link cs items s r i one errors.NoMemory inner same within is p w = tt
child_refuses A B hash pages at before root link cs items s r i one errors.Missing inner same within is p w = tt
child_refuses A B hash pages at before root link cs items s r i one errors.Fault inner same within is p w = tt
child_refuses A B hash pages at before root link cs items s r i one (errors.Map f) inner same within is p w =
    let m = link.entry.level - 1 in
    let g : Child → List Visit = λ c. visits at m false (child_link c) in
    let high : one.level ≡ m = child_level m items (subst
    (λ xs. AllByRecursion (λ (l : Link). l.entry.level ≡ m) (map child_link xs)) (sym same) inner.levels) i one
    within is in
    let all : visits at link.entry.level root link ≡ (visit at root link ∷ flat_map g (take i items))
    ++ (g one ++ flat_map g (drop (suc i) items)) =
    inner.met ∙ ap (λ xs. visit at root link ∷ xs) (of_links (visits at m false) cs ∙ ap (flat_map g) (sym same)
    ∙ split_at g items i one within is) in
    refused_below hash pages before (visit at root link ∷ flat_map g (take i items)) (g one)
    (flat_map g (drop (suc i) items)) (visits at link.entry.level root link) f all p.none
    (subst (λ n. first_of (walk_faults hash pages (before ++ (visit at root link ∷ flat_map g (take i items)))
    (visits at n false (child_link one))) ≡ Some f) high w)

pub child_passes : (hash : Scheme) (pages : ℕ) (at : ℕ → Option Node) (before : List Visit) (root : Bool)
    (link : Link) (cs items : List Child) (s r : Visited) (i : ℕ) (one : Child) →
    AtInner at root link (map child_link cs) → items ≡ cs → i < length items → one ≡ get_or items i one →
    PassedBelow hash pages at before root link (take i items) s →
    Passed hash pages (before_child at before root link (take i items)) (visits at one.level false (child_link one)) r →
    PassedBelow hash pages at before root link (take (i + 1) items) r
child_passes hash pages at before root link cs items s r i one inner same within is p w =
    let m = link.entry.level - 1 in
    let g : Child → List Visit = λ c. visits at m false (child_link c) in
    let high : one.level ≡ m = child_level m items (subst
    (λ xs. AllByRecursion (λ (l : Link). l.entry.level ≡ m) (map child_link xs)) (sym same) inner.levels) i one
    within is in
    let next : Passed hash pages (before ++ (visit at root link ∷ flat_map g (take i items))) (g one) r =
    subst (λ n. Passed hash pages (before ++ (visit at root link ∷ flat_map g (take i items)))
    (visits at n false (child_link one)) r) high w in
    subst (λ vs. Passed hash pages before vs r)
    (ap (λ xs. visit at root link ∷ xs) (one_more g items i one within is))
    (passed_more hash pages before (visit at root link ∷ flat_map g (take i items)) (g one) s r p next)

pub inner_passes : (hash : Scheme) (pages : ℕ) (at : ℕ → Option Node) (before : List Visit) (root : Bool)
    (link : Link) (cs items : List Child) (s : Visited) (n : ℕ) →
    AtInner at root link (map child_link cs) → items ≡ cs → take n items ≡ items →
    PassedBelow hash pages at before root link (take n items) s →
    Passed hash pages before (visits at link.entry.level root link) s
inner_passes hash pages at before root link cs items s n inner same all p =
    let m = link.entry.level - 1 in
    let g : Child → List Visit = λ c. visits at m false (child_link c) in
    subst (λ vs. Passed hash pages before vs s) (ap (λ xs. visit at root link ∷ flat_map g xs) (all ∙ same)
    ∙ ap (λ xs. visit at root link ∷ xs) (sym (of_links (visits at m false) cs)) ∙ sym inner.met) p

-- ---- an inner node, by what is known of it

pub inner_at : (at : ℕ → Option Node) (root : Bool) (link : Link) (cs : List Child) →
    found at link ≡ Some (Inner (map child_link cs)) → All (λ (c : Child). c.level + 1 ≡ link.entry.level) cs →
    AtInner at root link (map child_link cs)
inner_at at root link cs is alike =
    let f = what_is_found at link (Inner (map child_link cs)) is in
    let high : first_level (map (λ (k : Link). k.entry.level) (map child_link cs)) + 1 ≡ link.entry.level = f.level in
    let next : suc (link.entry.level - 1) ≡ link.entry.level = omega (arith, high) in
    record {
      next = next;
      met = ap (λ n. visits at n root link) (sym next) ∙ ap
          (λ o. visit at root link ∷ flat_map (visits at (link.entry.level - 1) false) (children o)) is;
      spelled = ap (λ n. place at n link) (sym next) ∙ ap
          (λ o. placed.Inner link.page (row (place at (link.entry.level - 1)) (children o))) is;
      levels = below link.entry.level cs (recursion_from_All (λ (c : Child). c.level + 1 ≡ link.entry.level) cs alike);
    }
  where
    below : (n : ℕ) (ds : List Child) → AllByRecursion (λ (c : Child). c.level + 1 ≡ n) ds →
        AllByRecursion (λ (l : Link). l.entry.level ≡ n - 1) (map child_link ds)
    below n [] all = tt
    below n (d ∷ ds) all = (let one : d.level + 1 ≡ n = all.0 in omega (arith, one), below n ds all.1)

pub inner_known : (hash : Scheme) (at : ℕ → Option Node) (root : Bool) (c : Child) (n : owned_type.Node)
    (cs : List Child) → MatchesChild hash c n → owned n ≡ Inner cs → found at (child_link c) ≡ Some
    (page_node (owned n)) →
    AtInner at root (child_link c) (map child_link cs)
inner_known hash at root c n cs k is f =
    inner_at at root (child_link c) cs (f ∙ ap (λ m. Some (page_node m)) is)
    (subst (λ m. All (λ (d : Child). d.level + 1 ≡ m) cs) k.level
    (subst (λ m. All (λ (d : Child). d.level + 1 ≡ view.level_of (owned n)) (view.children_in m)) is k.shape.alike))

-- ---- what is made

pub made_more : {S M : Type 0} (makes : S → S → Child → M → Tree → Type 0) (s u v : S) (cs : List Child) (ms : List M)
    (ts : List Tree) (c : Child) (m : M) (t : Tree) → AreMade makes s u cs ms ts → makes u v c m t →
    AreMade makes s v (cs ++ c ∷ []) (ms ++ m ∷ []) (ts ++ t ∷ [])
made_more makes s u v [] [] [] c m t all one = (v, subst (λ w. makes w v c m t) all one, refl)
made_more makes s u v (d ∷ ds) (n ∷ ns) (r ∷ rs) c m t all one =
    (all.0, all.1, made_more makes all.0 u v ds ns rs c m t all.2 one)
made_more makes s u v [] [] (r ∷ rs) c m t all one = absurd all
made_more makes s u v [] (n ∷ ns) ts c m t all one = absurd all
made_more makes s u v (d ∷ ds) [] ts c m t all one = absurd all
made_more makes s u v (d ∷ ds) (n ∷ ns) [] c m t all one = absurd all

-- trees are what they stand for
pub made_are : {S : Type 0} (s u : S) (cs : List Child) (ms ts : List Tree) →
    AreMade (λ (s u : S) (c : Child) (m t : Tree). m ≡ t) s u cs ms ts → ms ≡ ts
made_are s u [] [] [] all = refl
made_are s u (c ∷ cs) (m ∷ ms) (t ∷ ts) all = λ i. all.1 i ∷ made_are all.0 u cs ms ts all.2 i
made_are s u [] [] (t ∷ ts) all = absurd all
made_are s u [] (m ∷ ms) ts all = absurd all
made_are s u (c ∷ cs) [] ts all = absurd all
made_are s u (c ∷ cs) (m ∷ ms) [] all = absurd all

-- the trees below this many children
abbrev pub trees_below : (ℕ → Option Node) → Link → List Child → List Tree
trees_below at link items = map (λ (c : Child). tree_of (place at (link.entry.level - 1) (child_link c))) items

-- what is made of a node, from what was made of its children
abbrev pub MakesNode : {S M : Type 0} → (Scheme → Bool → S → S → Child → M → Tree → Type 0) → Child →
    owned_type.Node → (mid after : S) → List M → M → Type 0
MakesNode {S} makes c n mid after below m = (x : Scheme) (root : Bool) (before : S) (ts : List Tree) →
    SuitsChild x root c n → AreMade (makes x false) before mid (view.children_in (owned n)) below ts →
    makes x root before after c m (tree_over n ts)

module _ {S M : Type 0} (x : Scheme) (makes : Scheme → Bool → S → S → Child → M → Tree → Type 0) (at : ℕ → Option Node)
    (root : Bool) (c : Child) where
  abbrev link : Link
  link = child_link c

  pub leaf_made : (n : owned_type.Node) (rs : List Record) (before mid after : S) (below : List M) (m : M) →
      found at link ≡ Some (Leaf rs) → owned n ≡ Leaf rs → ((ts : List Tree) → tree_over n ts ≡ tree.Leaf rs) →
      below ≡ [] → mid ≡ before → SuitsChild x root c n → MakesNode makes c n mid after below m →
      makes x root before after c m (tree_of (place at c.level link))
  leaf_made n rs before mid after below m is own top none same suits made =
      subst (makes x root before after c m) (top [] ∙ ap tree_of (sym (at_leaf at root link rs is).spelled))
      (made x root before [] suits
      (subst (λ k. AreMade (makes x false) before mid (view.children_in k) below []) (sym own)
      (subst (λ ms. AreMade (makes x false) before mid [] ms []) (sym none) same)))

  pub child_made : (cs items : List Child) (before mid after : S) (below more : List M) (m : M) (i : ℕ) (one : Child) →
      AtInner at root link (map child_link cs) → items ≡ cs → i < length items → one ≡ get_or items i one →
      AreMade (makes x false) before mid (take i items) below (trees_below at link (take i items)) →
      makes x false mid after one m (tree_of (place at one.level (child_link one))) → more ≡ below ++ m ∷ [] →
      AreMade (makes x false) before after (take (i + 1) items) more (trees_below at link (take (i + 1) items))
  child_made cs items before mid after below more m i one inner same within is all made push =
      let low : one.level ≡ link.entry.level - 1 = child_level (link.entry.level - 1) items (subst
      (λ xs. AllByRecursion (λ (l : Link). l.entry.level ≡ link.entry.level - 1) (map child_link xs)) (sym same)
      inner.levels) i one within is in
      let here : Tree = tree_of (place at (link.entry.level - 1) (child_link one)) in
      let ds : take (i + 1) items ≡ take i items ++ one ∷ [] =
      take_more items i one within ∙ ap (λ y. take i items ++ y ∷ []) (sym is) in
      subst (λ xs. AreMade (makes x false) before after (take (i + 1) items) xs
      (trees_below at link (take (i + 1) items))) (sym push)
      (subst (AreMade (makes x false) before after (take (i + 1) items) (below ++ m ∷ []))
      (map_one_more (λ (d : Child). tree_of (place at (link.entry.level - 1) (child_link d))) items i one within is)
      (subst (λ ys. AreMade (makes x false) before after ys (below ++ m ∷ [])
      (trees_below at link (take i items) ++ here ∷ [])) (sym ds)
      (made_more (makes x false) before mid after (take i items) below (trees_below at link (take i items)) one m here
      all (subst (λ n. makes x false mid after one m (tree_of (place at n (child_link one)))) low made))))

  pub inner_made : (n : owned_type.Node) (cs items : List Child) (before mid after : S) (below : List M) (m : M)
      (i : ℕ) → AtInner at root link (map child_link cs) → items ≡ cs → take i items ≡ items → owned n ≡ Inner items →
      ((ts : List Tree) → tree_over n ts ≡ tree.Inner ts) →
      AreMade (makes x false) before mid (take i items) below (trees_below at link (take i items)) →
      SuitsChild x root c n → MakesNode makes c n mid after below m →
      makes x root before after c m (tree_of (place at c.level link))
  inner_made n cs items before mid after below m i inner same whole own top all suits made =
      subst (makes x root before after c m)
      (top (trees_below at link (take i items)) ∙ ap tree.Inner (ap (trees_below at link) (whole ∙ same) ∙ images cs
      ∙ sym (trees_of_row (place at (link.entry.level - 1)) (map child_link cs))) ∙ ap tree_of (sym inner.spelled))
      (made x root before (trees_below at link (take i items)) suits
      (subst (λ k. AreMade (makes x false) before mid (view.children_in k) below
      (trees_below at link (take i items))) (sym own)
      (subst (λ ys. AreMade (makes x false) before mid ys below (trees_below at link (take i items))) whole all)))
    where
      images : (xs : List Child) → trees_below at link xs
          ≡ map (λ l. tree_of (place at (link.entry.level - 1) l)) (map child_link xs)
      images [] = refl
      images (y ∷ ys) = ap (λ ts. tree_of (place at (link.entry.level - 1) (child_link y)) ∷ ts) (images ys)

-- what a walk comes to below some of a node's children, and what was made of these
pub record WalkedBelow {S M : Type 0} (hash : Scheme) (makes : S → S → Child → M → Tree → Type 0) (s u : S)
    (pages : ℕ) (old : Visited) (root : Bool)
    (link : Link) (cs items : List Child) (below : List M) (new' : Visited) (f : File) : Type 0 where
  pub inner : AtInner f.node root link (map child_link cs)
  pub passed : (before : List Visit) → Saw pages old (reached before) (numbers_of (all_records before)) →
      PassedBelow hash pages f.node before root link items new'
  pub made : AreMade makes s u items below (trees_below f.node link items)

-- ---- what a walk leaves

pub goes_first : {A : Type 0} (r : A) (a b : Sourced) (x y : ℕ) → ReadsWithinRoom a b 1 0 (Ok r) → y + 1 ≡ x →
    ReadsWithinRoom {A = Unit {0}} a b x y (Ok tt)
goes_first r a b x y p one = record {
  from_ = p.from_;
  count = p.count;
  same = p.same;
  missing = λ e. cc;
  untold = λ e. cc;
  fault = λ e. cc;
  later = p.later;
  quiet = p.quiet;
  more = p.more;
  few = omega (arith, p.few, one);
}

-- nothing was read yet
pub goes_none : (a : Sourced) (x : ℕ) → ReadsWithinRoom {A = Unit {0}} a a x x (Ok tt)
goes_none a x = record {
  from_ = refl;
  count = refl;
  same = refl;
  missing = λ e. cc;
  untold = λ e. cc;
  fault = λ e. cc;
  later = omega arith;
  quiet = refl;
  more = omega arith;
  few = omega arith;
}

pub along : (A : Type 0) (was hash : Scheme) (m n : ℕ) (at : ℕ → Option Node) (before : List Visit) (root : Bool)
    (link : Link) (r : Result A MapErr) (s s' : Visited) (ps ns : List ℕ) → was ≡ hash → m ≡ n →
    (Saw m s ps ns → WalksBelowLink {A = A} was m at before root link r s') → Saw n s ps ns →
    WalksBelowLink {A = A} hash n at before root link r s'
along A was hash m n at before root link r s s' ps ns h e f saw =
    subst (λ k. WalksBelowLink {A = A} hash k at before root link r s') e
    (subst (λ k. WalksBelowLink {A = A} k m at before root link r s') h (f (subst (λ k. Saw k s ps ns) (sym e) saw)))

pub if_some : {A : Type 0} (o : Option A) (P : A → Type 0) → ((x : A) → o ≡ Some x → P x) → IfSome o P
if_some None P f = tt
if_some (Some x) P f = f x refl

pub goes_step : {B : Type 0} (r : B) (a b c : Sourced) (x y z : ℕ) → ReadsWithinRoom {A = Unit {0}} a b x y (Ok tt) →
    ReadsWithinRoom b c y z (Ok r) → ReadsWithinRoom {A = Unit {0}} a c x z (Ok tt)
goes_step r a b c x y z p q = record {
  from_ = q.from_ ∙ p.from_;
  count = q.count ∙ p.count;
  same = q.same ∙ p.same;
  missing = λ e. cc;
  untold = λ e. cc;
  fault = λ e. cc;
  later = omega (arith, p.later, q.later);
  quiet = q.quiet ∙ p.quiet;
  more = omega (arith, p.more, q.more);
  few = omega (arith, p.few, q.few);
}
