-- What a call that reads a page answered is what the page spells, and it answers what a page spells.
use Rattle.std.proofs.Common.{◌≡◌, ◌≢◌, ℕ, ◌≤◌, Bool, true, false, eqb, List, length, Result, Ok, Err, Option, Some, None, refl, sym, ap, ◌∙◌}
use Rattle.std.specs.Prelude.{IfOk, MatchResult, if◌then◌else◌}
use Rattle.std.specs.Result.{result_ok}
use Rattle.std.proofs.lemmas.Bool.{eqb-true, eq-eqb, ne_eqb}
use Rattle.mr_record.proofs.Encodings.{IsBytes}
use Rattle.mr_tree.specs.View as view
use Rattle.mr_pages.specs.declared.rule.MapRule.{MapRule}
use Rattle.mr_pages.specs.declared.head.MapHead.{MapHead}
use Rattle.mr_pages.specs.Page.{Node, level_of, Head, page_limit}
use Rattle.mr_pages.specs.declared.layout.Layout.{Layout}
use Rattle.mr_pages.specs.PageBytes.{form_of, node_limit, node_in, tagged_in, head_in, SpellsNode, SpellsHead}
use Rattle.mr_pages.specs.Faults.{of_level}
use Rattle.mr_pages.specs.Walking.{page_node, ShowsWanted, head_of, AnswersHead}
use Rattle.mr_pages.proofs.PageLaws.{chosen, node_again, node_is}
use Rattle.mr_pages.proofs.HeadLaws.{head_again, head_is}
use Rattle.mr_pages.proofs.ManyReads.{of_same}

-- ---- nodes

of_level_some : (level : ℕ) (o : Option Node) (n : Node) → of_level level o ≡ Some n →
    (o ≡ Some n) × (level_of n ≡ level)
of_level_some level None n e = absurd cc
of_level_some level (Some m) n e =
    let p = chosen (eqb (level_of m) level) (Some m) n e in
    let same : m ≡ n = cc in
    (p.1, ap level_of (sym same) ∙ eqb-true (level_of m) level p.0)

pub node_written : (layout : Layout) (page : List ℕ) (level : ℕ) (shown : Bool) (n : view.Node) → IsBytes page
    → ShowsWanted shown n (of_level level (node_in layout page)) → shown ≡ true →
    SpellsNode (form_of layout) level page (page_node n)
node_written layout page level true n fits s t =
    let p = of_level_some level (node_in layout page) (page_node n) s in
    let q = node_is layout page (page_node n) fits p.0 in
    record { fits = q.0; level = p.1; is = sym q.1 }
node_written layout page level false n fits s t = absurd cc

pub node_found : (layout : Layout) (page : List ℕ) (level : ℕ) (shown : Bool) (n : view.Node) (m : Node) →
    node_limit layout.version ≤ layout.size → ShowsWanted shown n (of_level level (node_in layout page)) →
    SpellsNode (form_of layout) level page m → (shown ≡ true) × (page_node n ≡ m)
node_found layout page level shown n m room s is =
    let there : node_in layout page ≡ Some m = ap (node_in layout) is.is ∙ node_again layout m room is.fits in
    let found : of_level level (node_in layout page) ≡ Some m =
    of_same level (node_in layout page) (λ k e. let same : k ≡ m =
    some_same k m (sym e ∙ there) in ap level_of same ∙ is.level) ∙ there in
    shows_it shown n m (of_level level (node_in layout page)) s found
  where
    some_same : (k m : Node) → Some k ≡ Some m → k ≡ m
    some_same k m e = cc

    shows_it : (shown : Bool) (n : view.Node) (m : Node) (o : Option Node) → ShowsWanted shown n o → o ≡ Some m →
        (shown ≡ true) × (page_node n ≡ m)
    shows_it true n m o s e = (refl, some_same (page_node n) m (sym s ∙ e))
    shows_it false n m o s e = let none : None ≡ Some m = sym s ∙ e in absurd cc

-- a page of another size spells no node, one of this size what stands behind its tag
abbrev if_sized : Layout → List ℕ → ℕ → Bool → Option Node
if_sized layout page level sized = of_level level (if sized then tagged_in layout.version page else None)

pub odd_node : (layout : Layout) (page : List ℕ) (level : ℕ) → length page ≢ layout.size →
    of_level level (node_in layout page) ≡ None
odd_node layout page level odd = ap (if_sized layout page level) (ne_eqb (length page) layout.size odd)

pub sized_node : (layout : Layout) (page : List ℕ) (level : ℕ) → length page ≡ layout.size →
    of_level level (tagged_in layout.version page) ≡ of_level level (node_in layout page)
sized_node layout page level even = sym (ap (if_sized layout page level) (eq-eqb (length page) layout.size even))

-- ---- page 0

pub head_written : (layout : Layout) (pages : ℕ) (page : List ℕ) (r : Result MapHead MapRule) →
    node_limit layout.version ≤ layout.size → IsBytes page → AnswersHead r (head_in layout pages page) → 1 ≤ pages →
    pages ≤ page_limit
    → IfOk r (λ h. SpellsHead (form_of layout) pages page (head_of h))
head_written layout pages page (Ok h) room fits e some few =
    let p = head_is layout pages page (head_of h) room some few fits (ap result_ok e) in
    record { fits = p.0; is = sym p.1 }
head_written layout pages page (Err rule) room fits e some few = tt

pub head_found : (layout : Layout) (pages : ℕ) (page : List ℕ) (r : Result MapHead MapRule) (h : Head) →
    node_limit layout.version ≤ layout.size → AnswersHead r (head_in layout pages page) →
    SpellsHead (form_of layout) pages page h
    → MatchResult r (λ found. head_of found ≡ h) (λ rule. ⊥)
head_found layout pages page r h room e is =
    judge r (ap (head_in layout pages) is.is ∙ head_again layout pages h room is.fits.0 is.fits.1) e
  where
    judge : (r : Result MapHead MapRule) → head_in layout pages page ≡ Ok h →
        AnswersHead r (head_in layout pages page) → MatchResult r (λ found. head_of found ≡ h) (λ rule. ⊥)
    judge (Ok found) there e = let same : Ok (head_of found) ≡ Ok h = sym e ∙ there in cc
    judge (Err rule) there e = let none : Err rule ≡ Ok h = sym e ∙ there in absurd cc
