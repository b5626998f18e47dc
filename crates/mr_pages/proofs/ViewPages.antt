-- What a view shows, as a page spells it.
use Rattle.std.proofs.Common.{◌≡◌, ℕ, suc, ◌+◌, ◌-◌, ◌*◌, ◌<◌, ◌≤◌, Bool, true, cond, List, [], ◌∷◌, ◌++◌, length, length-append, get_or, take, drop, refl, sym, ap, subst, ◌∙◌, arith}
use Rattle.std.specs.Int.{w32, to_be_bytes}
use Rattle.mr_record.proofs.RecordFields.{length-rectangle_bytes}
use Rattle.mr_record.specs.Record.{rectangle_bytes}
use Rattle.mr_record.specs.Version.{told}
use Rattle.mr_tree.specs.Digest.{word_bytes}
use Rattle.std.specs.Prelude.{map, option_map, None}
use Rattle.std.specs.List.{flat_map, AllByRecursion}
use Rattle.std.specs.Option.{option_and_then}
use Rattle.std.proofs.lemmas.List.{take_rest, flat_map_more, map_more}
use Rattle.std.proofs.lemmas.List.Elements.{recursion_from_All, All-from_recursion}
use Rattle.mr_tree.specs.Limits.{level_limit, inner_limit}
use Rattle.mr_tree.specs.Digest.{inner_tag}
use Rattle.mr_tree.specs.declared.child.Child.{Child}
use Rattle.mr_tree.specs.declared.tree.Tree.TheOpen.{Empty, Leaf, Inner}
use Rattle.mr_tree.specs.View as view
use Rattle.mr_tree.specs.View.{MayTell}
use Rattle.mr_record.specs.declared.version.Version.{Version}
use Rattle.mr_record.specs.declared.version.Version.TheVariants.{One, Two}
use Rattle.mr_pages.specs.Page.{Link, level_below, IsLink, IsNode}
use Rattle.mr_pages.specs.PageBytes.{link_bytes, link_size, root_size, node_limit, node_bytes, many, link_field, from_one_to, before_zeros, inner_in}
use Rattle.mr_pages.specs.Walking.{child_link, page_node}
use Rattle.mr_pages.proofs.PageLaws.{both_true, twice, length-word_bytes, spelled_root}

length_links : (cs : List Child) → length (map child_link cs) ≡ length cs
length_links [] = refl
length_links (c ∷ cs) = ap (λ n. suc n) (length_links cs)

level_links : (cs : List Child) → level_below (map child_link cs) + 1 ≡ view.level_of (Inner cs)
level_links [] = refl
level_links (c ∷ cs) = refl

links_are : (v : Version) (cs : List Child) → AllByRecursion view.IsChild cs →
    AllByRecursion (λ (c : Child). c.level ≤ level_limit) cs →
    AllByRecursion (λ (c : Child). MayTell v c.mask c.count) cs → AllByRecursion (IsLink v) (map child_link cs)
links_are v [] each low told = tt
links_are v (c ∷ cs) each low told = (
  record {
    page = each.0.id;
    level = low.0;
    rect = record { r = c.rect; is = refl; ordered = each.0.ordered; coordinates = each.0.coordinates };
    told = told.0;
    digest = each.0.digest;
  },
  links_are v cs each.1 low.1 told.1,
)

lower : (cs : List Child) (k : ℕ) → k ≤ level_limit → AllByRecursion (λ (c : Child). c.level + 1 ≡ k) cs →
    AllByRecursion (λ (c : Child). c.level ≤ level_limit) cs
lower [] k few all = tt
lower (c ∷ cs) k few all = (let at : c.level + 1 ≡ k = all.0 in omega arith, lower cs k few all.1)

alike_links : (cs : List Child) (k : ℕ) → AllByRecursion (λ (c : Child). c.level + 1 ≡ k + 1) cs →
    AllByRecursion (λ (l : Link). l.entry.level ≡ k) (map child_link cs)
alike_links [] k all = tt
alike_links (c ∷ cs) k all = (let at : c.level + 1 ≡ k + 1 = all.0 in omega arith, alike_links cs k all.1)

-- a view with a record or a child, of which its version may tell this, is a node that fits a page
pub view_fits : (v : Version) (n : view.Node) → view.IsView n → 1 ≤ view.size n → view.AreTold v n →
    IsNode v (page_node n)
view_fits v Empty is some told = absurd is
view_fits v (Leaf rs) is some told = (some, is.few, λ k d within. (is.each k d within, told.layers k d within))
view_fits v (Inner cs) is some told =
    let below : level_below (map child_link cs) + 1 ≡ view.level_of (Inner cs) = level_links cs in
    let alike : AllByRecursion (λ (c : Child). c.level + 1 ≡ view.level_of (Inner cs)) cs =
    recursion_from_All (λ (c : Child). c.level + 1 ≡ view.level_of (Inner cs)) cs is.alike in
    let low : view.level_of (Inner cs) ≤ level_limit = is.low in (
      omega (arith, length_links cs, is.some),
      omega (arith, length_links cs, is.few),
      links_are v cs (recursion_from_All view.IsChild cs is.each) (lower cs (view.level_of (Inner cs)) low alike)
          (recursion_from_All (λ (c : Child). MayTell v c.mask c.count) cs told.children),
      alike_links cs (level_below (map child_link cs)) (subst
          (λ (k : ℕ). AllByRecursion (λ (c : Child). c.level + 1 ≡ k) cs) (sym below) alike),
      omega (arith, below, low),
    )

tells_of : (v : Version) (cs : List Child) → AllByRecursion (IsLink v) (map child_link cs) →
    AllByRecursion (λ (c : Child). MayTell v c.mask c.count) cs
tells_of v [] each = tt
tells_of v (c ∷ cs) each = (each.0.told, tells_of v cs each.1)

-- and the other way round
pub node_tells : (v : Version) (n : view.Node) → IsNode v (page_node n) → view.AreTold v n
node_tells v Empty is = absurd is
node_tells v (Leaf rs) is = record {
  layers = λ k d within. (is.2 k d within).1;
  children = λ k d within. absurd (omega arith);
}
node_tells v (Inner cs) is = record {
  layers = λ k d within. absurd (omega arith);
  children = All-from_recursion (λ (c : Child). MayTell v c.mask c.count) cs (tells_of v cs is.2);
}

-- the bytes of an inner node
pub inner_bytes : (v : Version) (n : view.Node) (cs : List Child) (level len : ℕ) → n ≡ Inner cs →
    level ≡ view.level_of n →
    len ≡ view.size n
    → inner_tag ∷ level ∷ len ∷ flat_map (link_bytes v) (map child_link cs) ≡ node_bytes v (page_node n)
inner_bytes v n cs level len same at size =
    (λ i. inner_tag ∷ (at ∙ ap view.level_of same ∙ sym (level_links cs)) i
    ∷ (size ∙ ap view.size same ∙ sym (length_links cs)) i ∷ flat_map (link_bytes v) (map child_link cs))
    ∙ ap (λ (m : view.Node). node_bytes v (page_node m)) (sym same)

two_more : (v : Version) (bytes : List ℕ) → 2 ≤ length bytes → from_one_to level_limit (get_or bytes 0 0) ≡ true →
    from_one_to inner_limit (get_or bytes 1 0) ≡ true
    → inner_in v bytes ≡ option_map Inner (option_and_then before_zeros
    (many (link_field v (get_or bytes 0 0 - 1)) (get_or bytes 1 0) (drop 2 bytes)))
two_more v [] long a b = absurd (omega arith)
two_more v (up ∷ []) long a b = absurd (omega arith)
two_more v (up ∷ count ∷ rest) long a b =
    ap (λ (t : Bool). cond t (option_map Inner (option_and_then before_zeros (many (link_field v (up - 1)) count rest)))
    None)
    (both_true (from_one_to level_limit up) (from_one_to inner_limit count) a b)

pub inner_in_range : (v : Version) (bytes : List ℕ) → 2 ≤ length bytes →
    from_one_to level_limit (get_or bytes 0 0) ≡ true →
    from_one_to inner_limit (get_or bytes 1 0) ≡ true
    → inner_in v bytes ≡ option_map Inner (option_and_then before_zeros
    (many (link_field v (get_or bytes 0 0 - 1)) (get_or bytes 1 0) (take (length bytes - 2) (drop 2 bytes))))
inner_in_range v bytes long a b =
    two_more v bytes long a b
    ∙ ap (λ (rest : List ℕ). option_map Inner (option_and_then before_zeros
    (many (link_field v (get_or bytes 0 0 - 1)) (get_or bytes 1 0) rest))) (sym (take_rest bytes 2))

-- one child more on a page
pub links_more : (v : Version) (cs : List Child) (i : ℕ) (c : Child) (front : List ℕ) → i < length cs →
    c ≡ get_or cs i c →
    (front ++ flat_map (link_bytes v) (map child_link (take i cs))) ++ link_bytes v (child_link c)
    ≡ front ++ flat_map (link_bytes v) (map child_link (take (i + 1) cs))
links_more v cs i c front within is =
    flat_map_more (link_bytes v) front (map child_link (take i cs)) (child_link c)
    ∙ ap (λ (ls : List Link). front ++ flat_map (link_bytes v) ls)
    (sym (map_more child_link cs i c within ∙ ap (λ d. map child_link (take i cs) ++ child_link d ∷ []) (sym is)))

-- a child takes this much room on a page
pub length_child : (v : Version) (c : Child) → length c.digest ≡ 32 → length (link_bytes v (child_link c)) ≡ link_size v
unfolding link_bytes
length_child v c long =
    let C : List ℕ = word_bytes v c.count ++ c.digest in
    let W : List ℕ = word_bytes v c.mask ++ C in
    omega (
      arith,
      long,
      twice v,
      length-word_bytes v c.mask,
      length-word_bytes v c.count,
      length-rectangle_bytes c.rect,
      length-append (word_bytes v c.count) c.digest,
      length-append (word_bytes v c.mask) C,
      length-append (rectangle_bytes c.rect) W,
      length-append (to_be_bytes w32 c.id) (rectangle_bytes c.rect ++ W),
    )

-- so does a root on page 0
pub length_root : (v : Version) (c : Child) → length c.digest ≡ 32 →
    length (spelled_root v (child_link c)) ≡ root_size v
length_root v c long =
    let W : List ℕ = word_bytes v c.mask ++ c.digest in
    omega (
      arith,
      long,
      length-word_bytes v c.mask,
      length-rectangle_bytes c.rect,
      length-append (word_bytes v c.mask) c.digest,
      length-append (rectangle_bytes c.rect) W,
      length-append (to_be_bytes w32 c.id) (rectangle_bytes c.rect ++ W),
    )

-- what a view holds has room on a page
pub leaf_fits : (v : Version) (k : ℕ) → k ≤ 16 → 2 + 226 * k ≤ node_limit v
leaf_fits One k few = omega arith
leaf_fits Two k few = omega arith

pub inner_fits : (v : Version) (k : ℕ) → k ≤ 64 → 3 + link_size v * k ≤ node_limit v
inner_fits One k few = omega arith
inner_fits Two k few = omega arith
