-- The front of a leaf's page is what the digest of the leaf is of.
use Rattle.std.proofs.Common.{◌≡◌, ℕ, ◌+◌, ◌-◌, ◌<◌, List, [], ◌∷◌, ◌++◌, length, get_or, take, replicate, sym, ap, ◌∙◌, arith, length-append}
use Rattle.std.specs.List.{flat_map}
use Rattle.std.proofs.lemmas.List.{take_at, take_more, flat_map_more}
use Rattle.mr_record.specs.Record.{record_bytes}
use Rattle.mr_record.specs.declared.record.Record.{Record}
use Rattle.mr_tree.specs.declared.tree.Tree.TheOpen.{Leaf}
use Rattle.mr_tree.specs.View as view
use Rattle.mr_pages.specs.declared.layout.Layout.{Layout}
use Rattle.mr_pages.specs.PageBytes.{node_page, node_bytes}
use Rattle.mr_record.specs.declared.version.Version.{Version}
use Rattle.mr_pages.specs.Walking.{page_node}

pub front_of_leaf : (layout : Layout) (page front : List ℕ) (n : view.Node) (rs : List Record) (width : ℕ) →
    page ≡ node_page layout (page_node n) → n ≡ Leaf rs → width ≡ length (flat_map (record_bytes layout.version) rs) →
    front ≡ take (2 + width) page → front ≡ view.preimage_of layout.version n
front_of_leaf layout page front n rs width is same wide cut =
    let v : Version = layout.version in
    let long : length (node_bytes v (Leaf rs)) ≡ 2 + width = omega (arith, wide) in
    cut ∙ ap (take (2 + width)) (is ∙ ap (λ (m : view.Node). node_page layout (page_node m)) same)
    ∙ take_at (node_bytes v (Leaf rs)) (replicate (layout.size - length (node_bytes v (Leaf rs))) 0) (2 + width) long
    ∙ sym (ap (view.preimage_of v) same)

-- one record more
pub wider : (v : Version) (rs : List Record) (i all more : ℕ) (r : Record) → i < length rs → r ≡ get_or rs i r →
    all ≡ length (flat_map (record_bytes v) (take i rs)) → more ≡ length (record_bytes v r) →
    all + more ≡ length (flat_map (record_bytes v) (take (i + 1) rs))
wider v rs i all more r within here is one =
    let front = flat_map (record_bytes v) (take i rs) in
    let sum : all + more ≡ length (front ++ record_bytes v r) =
    omega (arith, is, one, length-append front (record_bytes v r)) in
    sum ∙ ap (λ (bs : List ℕ). length bs) (flat_map_more (record_bytes v) [] (take i rs) r)
    ∙ ap (λ (us : List Record). length (flat_map (record_bytes v) us))
    (ap (λ (one : Record). take i rs ++ one ∷ []) here ∙ sym (take_more rs i r within))
