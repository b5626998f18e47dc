-- What is judged of a page that was read.
use Rattle.std.proofs.Common.{◌≡◌, ℕ, zero, suc, ◌+◌, ◌<◌, ◌≤◌, Bool, true, false, List, [], ◌∷◌, map, length, get_or, take, inl, inr, refl, sym, ap, subst, ◌∙◌, arith}
use Rattle.std.specs.Prelude.{◌==◌, ◌||◌, ◌⊎◌, ⊤, nat_le, bytes_eq, All, Option, Some, None, Result, Ok, Err, IfErr, OnOk, MatchOption, if◌then◌else◌}
use Rattle.std.specs.List.{AllByRecursion}
use Rattle.std.proofs.lemmas.Bool.{ne_eqb, le-leb, leb-true}
use Rattle.std.proofs.lemmas.List.{take_all}
use Rattle.std.proofs.lemmas.List.Elements.{recursion_from_All, All-more}
use Rattle.mr_outside.specs.Files.{Files, file}
use Rattle.mr_outside.specs.Told.{OfFile}
use Rattle.mr_tree.specs.View as view
use Rattle.mr_tree.specs.declared.child.Child.{Child}
use Rattle.mr_tree.specs.declared.nodes.NodesErr.{NodesErr}
use Rattle.mr_tree.specs.declared.nodes.NodesErr.TheVariants as errors
use Rattle.mr_tree.specs.declared.tree.Tree.TheOpen.{Empty, Leaf, Inner}
use Rattle.mr_outside.specs.declared.shelf.ShelfErr.{ShelfErr}
use Rattle.mr_outside.specs.declared.shelf.ShelfErr.TheVariants as shelf
use Rattle.mr_tree.specs.Nodes.{of_shelf}
use Rattle.mr_pages.specs.Page.{Node, Form, level_of, node_entry}
use Rattle.mr_pages.specs.PageBytes.{SpellsNode}
use Rattle.mr_pages.specs.Source.{IsPage, TellsPage}
use Rattle.mr_pages.specs.Faults.{of_level}
use Rattle.mr_pages.specs.Walking.{child_link, page_node, ShowsWanted}
use Rattle.mr_tree.specs.Digest.{Scheme, by}
use Rattle.mr_pages.proofs.Judged.{level_same}
use Rattle.mr_pages.proofs.ViewPages.{node_tells}
use Rattle.mr_pages.proofs.Visits.{shape_of}
use Rattle.mr_store.specs.private.Told.{digest_known}
use Rattle.mr_store.specs.Kept.{AreInside}
use Rattle.mr_store.specs.Again.{outside_in, outside_of, unless_outside, judged_node, judged, ShowsJudged, IsGiven, IsChildInFile, IsSaid, TellsNode, TellsAgain, HasNode}

-- ---- the node

at_level : (level : ℕ) (m : Node) (n : view.Node) → of_level level (Some m) ≡ Some (page_node n) → page_node n ≡ m
at_level level m n e = here (level_of m == level) e
  where
    here : (b : Bool) → ◌≡◌ {A = Option Node} (if b then Some m else None) (Some (page_node n)) → page_node n ≡ m
    here true e = cc
    here false e = cc

-- what is shown is what the page spells
pub shown_is : (shown : Bool) (n : view.Node) (level : ℕ) (o : Option Node) (m : Node) →
    ShowsWanted shown n (of_level level o) →
    shown ≡ true → o ≡ Some m → page_node n ≡ m
shown_is true n level o m s yes' e = at_level level m n (ap (of_level level) (sym e) ∙ s)
shown_is false n level o m s yes' e = cc

pub digest_shown : (hash : Scheme) (pages : ℕ) (c : Child) (n : view.Node) (m : Node) (found : List ℕ) →
    page_node n ≡ m → IsSaid hash pages c m → found ≡ hash.of (view.preimage_of hash.version n) → c.digest ≡ found
digest_shown hash pages c n m found e said is =
    sym said.digest ∙ ap (λ k. (node_entry hash k).digest) (sym e) ∙ sym (digest_known hash n) ∙ sym is

pub read_of : (form : Form) (hash : List ℕ → List ℕ) (pages : ℕ) (c : Child) (n : view.Node) (page found : List ℕ) →
    view.IsView n → SpellsNode form c.level page (page_node n) → found ≡ hash (view.preimage_of form.version n) →
    c.digest ≡ found → AreInside pages n → IsChildInFile (by form.version hash) pages c n
read_of form hash pages c n page found v is digest same inside = record {
  shape = shape_of form.version n v is.fits (node_tells form.version n is.fits);
  told = node_tells form.version n is.fits;
  level = level_same n ∙ is.level;
  digest = sym digest ∙ sym same;
  inside = inside;
}

-- ---- what a file tells

module _ {A : Type 0} (form : Form) (name : List ℕ) (pages : ℕ) (c : Child) (p : List ℕ) (r : Result A NodesErr)
    (n : view.Node) where
  pub again_told : (hash : List ℕ → List ℕ) (told : Option Files) → OfFile told name ⊥ (TellsPage form c.id p) →
      ((m : Node) → form.node_in p ≡ Some m → IsSaid (by form.version hash) pages c m → TellsNode m r n) →
      OfFile told name ⊤ (TellsAgain form hash pages c r n)
  again_told hash None t j = tt
  again_told hash (Some files) t j = here (file files name) t
    where
      here : (o : Option (List ℕ)) → MatchOption o ⊥ (TellsPage form c.id p) →
          MatchOption o ⊤ (TellsAgain {A = A} form hash pages c r n)
      here None t = tt
      here (Some bytes) t = λ whole within m there said.
          j m (ap form.node_in (t pages whole within) ∙ there) said

  -- the file has what was read
  pub has_node : (told : Option Files) → OfFile told name ⊥ (TellsPage form c.id p) →
      form.node_in p ≡ Some (page_node n) → OfFile told name ⊤ (HasNode form pages c.id n)
  has_node None t is = tt
  has_node (Some files) t is = here (file files name) t
    where
      here : (o : Option (List ℕ)) → MatchOption o ⊥ (TellsPage form c.id p) →
          MatchOption o ⊤ (HasNode form pages c.id n)
      here None t = tt
      here (Some bytes) t = λ whole within. ap form.node_in (sym (t pages whole within)) ∙ is

-- what follows of a node that is shown
pub if_shown : {A E : Type 0} (r : Result A E) (P Q : Type 0) → (P → Q) → OnOk r P → OnOk r Q
if_shown (Ok a) P Q f p = f p
if_shown (Err e) P Q f p = tt

-- ---- the first child whose page is outside

module _ (pages : ℕ) where
  abbrev far : ℕ → Bool
  far page = page == 0 || nat_le pages page

  abbrev IsIn : Child → Type 0
  IsIn c = (1 ≤ c.id) × (c.id < pages)

  or_true : (b : Bool) → b || true ≡ true
  or_true true = refl
  or_true false = refl

  is_far : (page : ℕ) → (page ≡ 0) ⊎ (pages ≤ page) → far page ≡ true
  is_far page (inl none) = subst (λ p. far p ≡ true) (sym none) refl
  is_far page (inr high) = ap (λ b. page == 0 || b) (le-leb pages page high) ∙ or_true (page == 0)

  not_far : (page : ℕ) → 1 ≤ page → page < pages → far page ≡ false
  not_far page low within =
      ap (λ b. b || nat_le pages page) (ne_eqb page 0 (λ e. omega (arith, e, low))) ∙ at_test (nat_le pages page) refl
    where
      at_test : (b : Bool) → nat_le pages page ≡ b → nat_le pages page ≡ false
      at_test true e = absurd (omega (arith, leb-true pages page e, within))
      at_test false e = e

  none_in : (cs : List Child) → AllByRecursion IsIn cs → outside_in pages (map child_link cs) ≡ None
  none_in [] all = refl
  none_in (c ∷ cs) all = rw (not_far c.id all.0.0 all.0.1) (none_in cs all.1)

  first_in : (cs : List Child) (i : ℕ) (d : Child) → AllByRecursion IsIn (take i cs) → i < length cs →
      d ≡ get_or cs i d → far d.id ≡ true → outside_in pages (map child_link cs) ≡ Some d.id
  first_in [] i d all within is out = absurd (omega (arith, within))
  first_in (c ∷ cs) zero d all within is out =
      rw (ap (λ (x : Child). far x.id) (sym is) ∙ out) (ap (λ (x : Child). Some x.id) (sym is))
  first_in (c ∷ cs) (suc i) d all within is out =
      rw (not_far c.id all.0.0 all.0.1) (first_in cs i d all.1 (omega (arith, within)) is out)

  -- the children so far, and one more, are in the file
  pub more_in : (cs : List Child) (i : ℕ) (d : Child) → i < length cs → d ≡ get_or cs i d → All IsIn (take i cs) →
      (d.id ≡ 0 → ⊥) → d.id < pages → All IsIn (take (i + 1) cs)
  more_in cs i d within is all some low =
      All-more IsIn cs i d within all (subst IsIn is (omega (arith, some), low))

  pub all_in : (n : view.Node) (cs : List Child) (i : ℕ) → cs ≡ view.children_in n → length cs ≤ i →
      All IsIn (take i cs) → AreInside pages n
  all_in n cs i are done all = subst (All IsIn) (take_all i cs done ∙ are) all

  -- all children are in the file
  pub none_outside : (n : view.Node) → AreInside pages n → outside_of pages (page_node n) ≡ None
  none_outside Empty inside = refl
  none_outside (Leaf rs) inside = refl
  none_outside (Inner cs) inside = none_in cs (recursion_from_All IsIn cs inside)

  -- this is the first one that is not
  pub first_outside : (n : view.Node) (cs : List Child) (i : ℕ) (d : Child) → cs ≡ view.children_in n →
      All IsIn (take i cs) → i < length cs → d ≡ get_or cs i d → (d.id ≡ 0) ⊎ (pages ≤ d.id) →
      outside_of pages (page_node n) ≡ Some d.id
  first_outside n cs i d are inside within is out = of_node n are
    where
      in_list : outside_in pages (map child_link cs) ≡ Some d.id
      in_list = first_in cs i d (recursion_from_All IsIn (take i cs) inside) within is (is_far d.id out)

      of_node : (n : view.Node) → cs ≡ view.children_in n → outside_of pages (page_node n) ≡ Some d.id
      of_node Empty e = absurd (omega (arith, within, ap length e))
      of_node (Leaf rs) e = absurd (omega (arith, within, ap length e))
      of_node (Inner ds) e = ap (λ xs. outside_in pages (map child_link xs)) (sym e) ∙ in_list

-- ---- what a page gives

module _ (form : Form) (hash : List ℕ → List ℕ) (pages : ℕ) (c : Child) (page : List ℕ) where
  -- it spells no node of the child's level
  pub none_judged : (shown : Bool) (n : view.Node) → ShowsWanted shown n (of_level c.level (form.node_in page)) →
      shown ≡ false → judged form hash pages c page ≡ Err (errors.Page c.id)
  none_judged true n s e = cc
  none_judged false n s e = ap (judged_node (by form.version hash) pages c) s

  wanted : (shown : Bool) (n : view.Node) (o : Option Node) → ShowsWanted shown n o → shown ≡ true → o ≡ Some
      (page_node n)
  wanted true n o s e = s
  wanted false n o s e = cc

  -- it spells the node of a view
  module _ (shown : Bool) (n : view.Node) (found : List ℕ)
      (shows : ShowsWanted shown n (of_level c.level (form.node_in page))) (is : shown ≡ true)
      (digest : found ≡ hash (view.preimage_of form.version n)) where
    at_test : (b : Bool) → bytes_eq c.digest found ≡ b → judged form hash pages c page
        ≡ (if b then unless_outside (page_node n) (outside_of pages (page_node n))
        else Err (errors.Changed c.id c.digest found))
    at_test b e =
        ap (judged_node (by form.version hash) pages c) (wanted shown n (of_level c.level (form.node_in page)) shows is)
        ∙ ap (λ d. if bytes_eq c.digest d then unless_outside (page_node n) (outside_of pages (page_node n))
        else Err (errors.Changed c.id c.digest d)) (sym (digest ∙ digest_known (by form.version hash) n))
        ∙ ap (λ t. if t then unless_outside (page_node n) (outside_of pages (page_node n))
        else Err (errors.Changed c.id c.digest found)) e

    pub changed_judged : bytes_eq c.digest found ≡ false →
        judged form hash pages c page ≡ Err (errors.Changed c.id c.digest found)
    changed_judged e = at_test false e

    pub same_judged : (o : Option ℕ) → bytes_eq c.digest found ≡ true → o ≡ outside_of pages (page_node n) →
        judged form hash pages c page ≡ unless_outside (page_node n) o
    same_judged o e out = at_test true e ∙ ap (unless_outside (page_node n)) (sym out)

  -- what is answered of a page that was read
  pub given_by : {A : Type 0} (r : Result A NodesErr) (n : view.Node) → IsPage form page →
      ShowsJudged r n (judged form hash pages c page) → IfErr r (IsGiven form hash pages c)
  given_by (Ok a) n is j = tt
  given_by (Err (errors.Changed p held found)) n is j = record { page = page; is = is; gives = j }
  given_by (Err (errors.Page p)) n is j = record { page = page; is = is; gives = j }
  given_by (Err (errors.Outside p)) n is j = record { page = page; is = is; gives = j }
  given_by (Err errors.Missing) n is j = tt
  given_by (Err errors.Fault) n is j = tt
  given_by (Err errors.NoMemory) n is j = tt

-- nothing is said of a page by a read that failed
pub failed_given : (form : Form) (hash : List ℕ → List ℕ) (pages : ℕ) (c : Child) (error : ShelfErr) (e : NodesErr) →
    e ≡ of_shelf error → IsGiven form hash pages c e
failed_given form hash pages c shelf.Missing e r = subst (IsGiven form hash pages c) (sym r) tt
failed_given form hash pages c shelf.Fault e r = subst (IsGiven form hash pages c) (sym r) tt
failed_given form hash pages c shelf.NoMemory e r = subst (IsGiven form hash pages c) (sym r) tt
