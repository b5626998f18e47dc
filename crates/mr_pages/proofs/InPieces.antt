-- The pages of a map's nodes, added to its file child by child.
use Rattle.std.proofs.Common.{◌≡◌, ℕ, suc, ◌+◌, ◌*◌, ◌/◌, ◌<◌, ◌≤◌, List, [], ◌∷◌, ◌++◌, length, map, take, drop, get_or, replicate, refl, sym, ap, subst, ◌∙◌, arith, append_assoc, length-append}
use Rattle.std.specs.Prelude.{All, Option, Some}
use Rattle.std.specs.List.{flat_map}
use Rattle.std.proofs.Math.Seq.{take-length}
use Rattle.std.proofs.lemmas.List.{length-replicate, replicate-append-replicate}
use Rattle.mr_outside.specs.Files.{replaced}
use Rattle.mr_outside.specs.State.{Shelved}
use Rattle.mr_tree.specs.Digest.{by}
use Rattle.mr_tree.specs.View as view
use Rattle.mr_tree.specs.WellFormed.{WellFormed, HasLayers}
use Rattle.mr_tree.specs.declared.child.Child.{Child}
use Rattle.mr_tree.specs.declared.tree.Tree.{Tree}
use Rattle.mr_tree.specs.declared.tree.Tree.TheVariants as tree
use Rattle.mr_tree.specs.declared.tree.Tree.TheOpen as node
use Rattle.mr_pages.specs.Page.{Form, page_limit, node_entry}
use Rattle.mr_pages.specs.Making.{HasMade, RowMade, HasMadePages}
use Rattle.mr_pages.specs.private.Putting.{CanBePut, IsPut, IsImage, PutSoFar, some_row}
use Rattle.mr_pages.specs.Saved.{number_row, numbered, all_nodes, saved_pages}
use Rattle.mr_pages.specs.Stands.{pages_of, all_pages, whole_pages}
use Rattle.mr_pages.specs.Walking.{child_link, page_node}
use Rattle.mr_pages.proofs.Building.{inner_there}
use Rattle.mr_pages.proofs.Imaged.{can_be_put, put_room, image_some, pages_count, whole_some}
use Rattle.mr_pages.proofs.Put.{put_none, put_one, one_longer, inner_pages, child_room, inner_put, AllPut, put_whole}
use Rattle.mr_pages.proofs.Laying.{links_told}
use Rattle.mr_pages.proofs.Written.{length_replaced}

-- ---- the row of the root's children

-- the zeros of two pages
pub two_pages : (size : ℕ) (bytes : List ℕ) → bytes ≡ replicate (2 * size) 0 →
    bytes ≡ replicate size 0 ++ replicate size 0
two_pages size bytes is =
    is ∙ ap (λ n. replicate n 0) (let two : 2 * size ≡ size + size = omega arith in two)
    ∙ sym (replicate-append-replicate {A = ℕ} size size 0)

pub row_begun : (form : Form) (hash : List ℕ → List ℕ) (ts : List Tree) (name : List ℕ) (before now : Shelved)
    (bytes : List ℕ) (links : List Child) → HasMade name bytes before now →
    bytes ≡ replicate form.size 0 ++ replicate form.size 0 → links ≡ [] →
    RowMade form hash ts 0 name before now links 2
row_begun form hash ts name before now bytes links made is none = record {
  bytes = bytes;
  put = put_none form hash ts 1 (replicate form.size 0) bytes links is none;
  made = made;
  place = omega arith;
}

-- what stands behind the zeros of page 0
abbrev pub behind_zeros : (form : Form) (hash : List ℕ → List ℕ) (ts : List Tree) (i : ℕ) → List ℕ
behind_zeros form hash ts i = replicate form.size 0
    ++ flat_map form.node_page (all_nodes (by form.version hash) (some_row 2 ts i))

pub row_begins : (form : Form) (hash : List ℕ → List ℕ) (ts : List Tree) (i : ℕ) (bytes : List ℕ)
    (links : List Child) → PutSoFar form hash ts i 1 (replicate form.size 0) bytes links →
    bytes ≡ replicate form.size 0 ++ behind_zeros form hash ts i
row_begins form hash ts i bytes links put =
    put.pages ∙ append_assoc (replicate form.size 0) (replicate form.size 0)
    (flat_map form.node_page (all_nodes (by form.version hash) (some_row 2 ts i)))

-- a child's pages are behind what the file had
put_behind : (form : Form) (hash : List ℕ → List ℕ) (one : Tree) (page : ℕ) (held pages : List ℕ) (child : Child) →
    IsPut form hash one page [] pages child → IsPut form hash one page held (held ++ pages) child
put_behind form hash one page held pages child put = record {
  pages = ap (λ bs. held ++ bs) put.pages;
  size = length-append held pages ∙ ap (λ n. length held + n)
      (put.size ∙ (let none : 0 + length (pages_of (numbered one page)) * form.size
      ≡ length (pages_of (numbered one page)) * form.size = omega arith in none));
  link = put.link;
}

-- there is room for it
pub row_room : (ts : List Tree) (i next : ℕ) (one : Tree) → WellFormed (tree.Inner ts) → i < length ts →
    one ≡ get_or ts i one → next ≡ 2 + length (all_pages (some_row 2 ts i)) →
    next + length (pages_of (numbered one next)) ≤ page_limit
row_room ts i next one well within at place =
    child_room (tree.Inner ts) ts 1 i next one refl within at place
    (put_room (tree.Inner ts) well (inner_there ts))

pub inner_can : (ts : List Tree) → WellFormed (tree.Inner ts) → CanBePut (tree.Inner ts)
inner_can ts well = can_be_put (tree.Inner ts) well (inner_there ts)

pub row_more : (form : Form) (hash : List ℕ → List ℕ) (ts : List Tree) (i : ℕ) (name : List ℕ)
    (before now after : Shelved) (links links' : List Child) (one : Tree) (child : Child) (next next' : ℕ)
    (pages : List ℕ) → i < length ts → one ≡ get_or ts i one →
    (row : RowMade form hash ts i name before now links next) → IsPut form hash one next [] pages child →
    HasMade name (row.bytes ++ pages) before after → links' ≡ links ++ child ∷ [] →
    next' ≡ next + length (pages_of (numbered one next)) →
    RowMade form hash ts (i + 1) name before after links' next'
row_more form hash ts i name before now after links links' one child next next' pages within at row put made push
    count = record {
      bytes = row.bytes ++ pages;
      put = put_one form hash ts i 1 next (replicate form.size 0) row.bytes (row.bytes ++ pages) links links' one child
          within at row.place row.put (put_behind form hash one next row.bytes pages child put) push;
      made = made;
      place = omega (
        arith,
        row.place,
        count,
        ap (λ n. length (pages_of (numbered one n))) row.place,
        one_longer 2 ts i one within at,
      );
    }

-- ---- the root

pub links_there : (form : Form) (hash : List ℕ → List ℕ) (ts : List Tree) (bytes : List ℕ) (links : List Child) →
    WellFormed (tree.Inner ts) → PutSoFar form hash ts (length ts) 1 (replicate form.size 0) bytes links →
    AllPut ts links
links_there form hash ts bytes links well put =
    put_whole form hash (tree.Inner ts) ts (length ts) 1 (replicate form.size 0) bytes links refl
    (inner_can ts well) put
    refl

pub links_may_tell : (form : Form) (hash : List ℕ → List ℕ) (ts : List Tree) (bytes : List ℕ) (links : List Child) →
    WellFormed (tree.Inner ts) → HasLayers form.version (tree.Inner ts) →
    PutSoFar form hash ts (length ts) 1 (replicate form.size 0) bytes links →
    All (λ (c : Child). view.MayTell form.version c.mask c.count) links
links_may_tell form hash ts bytes links well layers put =
    links_told form hash (tree.Inner ts) ts (length ts) 1 (replicate form.size 0) bytes links refl (inner_can ts well)
    layers well.few put refl

-- the root's page is put over its zeros
pub root_made : {shows : view.Node} (form : Form) (hash : List ℕ → List ℕ) (ts : List Tree) (name : List ℕ)
    (before now after : Shelved) (links shown : List Child) (next : ℕ) (page : List ℕ) (child : Child) →
    WellFormed (tree.Inner ts) → (row : RowMade form hash ts (length ts) name before now links next) →
    HasMade name (replaced form.size page row.bytes) before after →
    shown ≡ links → shows ≡ node.Inner shown → page ≡ form.node_page (page_node shows) → length page ≡ form.size →
    form.size + form.size ≤ length row.bytes →
    child_link child ≡ record { page = 1; entry = node_entry (by form.version hash) (page_node shows) } →
    HasMadePages form hash (tree.Inner ts) name before after (Some child) next
root_made {shows = shows} form hash ts name before now after links shown next page child well row made same
    shows_is page_is long
    room said =
    let t = tree.Inner ts in
    let size = form.size in
    let zeros : List ℕ = replicate size 0 in
    let bytes = replaced size page row.bytes in
    let there = inner_there ts in
    let front : List ℕ = take size row.bytes in
    let back : List ℕ = drop (size + size) row.bytes in
    let put : bytes ≡ (front ++ form.node_page (page_node shows)) ++ back =
    ap (λ n. (front ++ page) ++ drop (size + n) row.bytes) long ∙ ap (λ bs. (front ++ bs) ++ back) page_is in
    let whole = image_some form hash t zeros bytes child there refl
    (inner_put {shows = shows} {slice = row.bytes} form hash t ts (length ts) 1 zeros row.bytes bytes size links shown
    child refl (inner_can ts well) row.put refl (length-replicate {A = ℕ} size 0) same shows_is refl put
    (length_replaced size page row.bytes (omega (arith, room, long))) said) in
    let all : length (all_pages (some_row 2 ts (length ts))) ≡ length (all_pages (number_row 2 (map numbered ts))) =
    ap (λ us. length (all_pages (number_row 2 (map numbered us)))) (take-length ts) in
    let count : saved_pages t ≡ suc (length (pages_of (numbered t 1))) =
    ap (λ po. suc (length (whole_pages po))) (whole_some t (numbered t 1) there) in
    record {
      bytes = bytes;
      image = whole;
      made = made;
      count = omega (arith, row.place, all, count, inner_pages ts 1);
    }

-- there are as many zeros as two pages have
pub row_long : (form : Form) (hash : List ℕ → List ℕ) (ts : List Tree) (i : ℕ) (bytes : List ℕ) (links : List Child) →
    PutSoFar form hash ts i 1 (replicate form.size 0) bytes links → form.size + form.size ≤ length bytes
row_long form hash ts i bytes links put =
    let zeros : List ℕ = replicate form.size 0 in
    let rest = flat_map form.node_page (all_nodes (by form.version hash) (some_row 2 ts i)) in
    omega (
      arith,
      ap length put.pages,
      length-append (zeros ++ zeros) rest,
      length-append zeros zeros,
      length-replicate {A = ℕ} form.size 0,
    )

-- ---- at once

pub made_at_once : (form : Form) (hash : List ℕ → List ℕ) (t : Tree) (name : List ℕ) (before after : Shelved)
    (bytes shown : List ℕ) (root : Option Child) (pages : ℕ) → 0 < form.size → IsImage form hash t bytes root →
    shown ≡ bytes → HasMade name shown before after → pages ≡ length bytes / form.size →
    HasMadePages form hash t name before after root pages
made_at_once form hash t name before after bytes shown root pages some image same made many = record {
  bytes = bytes;
  image = image;
  made = subst (λ bs. HasMade name bs before after) same made;
  count = many ∙ pages_count form hash t bytes root some image;
}
