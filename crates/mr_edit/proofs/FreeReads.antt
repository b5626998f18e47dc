-- Subtrees that are freed are read once.
use Rattle.std.proofs.Common.{◌≡◌, ℕ, ◌+◌, ◌<◌, ◌≤◌, List, [], ◌∷◌, ◌++◌, length, map, take, drop, get_or, sym, ap, subst, ◌∙◌, arith}
use Rattle.std.specs.Prelude.{sum, Option, IfSome}
use Rattle.std.proofs.lemmas.List.{append-nil, length-append, take_more, take-append-drop}
use Rattle.std.proofs.lemmas.List.Concat.{flat_map-append}
use Rattle.mr_record.specs.declared.record.Record.{Record}
use Rattle.mr_tree.specs.Digest.{Scheme}
use Rattle.mr_tree.specs.Tree.{nodes}
use Rattle.mr_tree.specs.declared.child.Child.{Child}
use Rattle.mr_tree.specs.declared.tree.Tree.TheOpen as node
use Rattle.mr_pages.specs.Stands.{Placed, Leaf, Inner, pages_of}
use Rattle.mr_pages.specs.Walking.{child_link}
use Rattle.mr_edit.specs.PageMap.{PageMap, HasNode, OwnsEachOnce}
use Rattle.mr_edit.specs.Counted.{ReadsNodesOnce, FreesOnce, LeavesOnce}
use Rattle.mr_edit.specs.Held.{NamesTree, NameTrees, trees, pages}
use Rattle.mr_edit.specs.private.Removal.{FreesPage, FreesSubtrees}
use Rattle.mr_edit.proofs.Counts.{pages_each}
use Rattle.mr_edit.proofs.Entries.{opens_inner}
use Rattle.mr_edit.proofs.Frame.{agree_left, frame_all}
use Rattle.mr_edit.proofs.Freed.{take_counts, back_counts, turn_counts}
use Rattle.mr_edit.proofs.Owners.{one_item}
use Rattle.mr_edit.proofs.Places.{same_owned}
use Rattle.mr_edit.proofs.Rows.{row_of, row_trees, row_pages}
use Rattle.mr_edit.proofs.Zips.{zip_split}

-- ---- the pages of trees

pub some_page : (P : Placed) → 1 ≤ length (pages_of P)
some_page (Leaf p rs) = omega arith
some_page (Inner p R) = omega arith

-- as many as there are nodes
pub pages_nodes : (Ps : List Placed) → length (pages Ps) ≡ sum (map nodes (trees Ps))
pages_nodes Ps =
    sym (ap length (row_pages Ps)) ∙ pages_each (row_of Ps) ∙ ap (λ ts. sum (map nodes ts)) (row_trees Ps)

-- ---- one node

pub once_looked : (scheme : Scheme) (told : Option PageMap) (c : Child) (r r' : ℕ) → r' ≤ r + 1 →
    ReadsNodesOnce scheme told c r r'
once_looked scheme told c r r' few a P is names = omega (arith, few, some_page P)

pub frees_looked : (scheme : Scheme) (told : Option PageMap) (free : ℕ) (c : Child) (r r' : ℕ) → r' ≤ r + 1 →
    FreesOnce scheme told free (c ∷ []) r r'
frees_looked scheme told free c r r' few a chain [] others is named linked owned = absurd named
frees_looked scheme told free c r r' few a chain (P ∷ Ps) others is named linked owned =
    omega (arith, few, some_page P, length-append (pages_of P) (pages Ps))

-- ---- some subtrees, and then others

pub frees_nothing : (scheme : Scheme) (told : Option PageMap) (free r : ℕ) → FreesOnce scheme told free [] r r
frees_nothing scheme told free r a chain Ps others is named linked owned = omega arith

frees_on : (scheme : Scheme) (told told1 : Option PageMap) (free free1 : ℕ) (cs ds : List Child)
    (before so_far : List Record) (r r1 r2 : ℕ) → FreesSubtrees scheme told free told1 free1 cs before so_far →
    FreesOnce scheme told free cs r r1 → FreesOnce scheme told1 free1 ds r1 r2 →
    FreesOnce scheme told free (cs ++ ds) r r2
frees_on scheme told told1 free free1 cs ds before so_far r r1 r2 frees first' second' a chain Ps others is named linked
    owned =
    let s = zip_split (NamesTree scheme a) cs ds Ps named in
    let ls = s.left in
    let rs = s.right in
    let whole : pages Ps ≡ pages ls ++ pages rs = ap pages s.is ∙ flat_map-append pages_of ls rs in
    let mine : OwnsEachOnce a.size (pages ls ++ (chain ++ (pages rs ++ others))) =
    same_owned a.size (pages Ps ++ (chain ++ others)) _ (λ q. take_counts q (pages Ps) (pages ls) (pages rs) chain
    others whole) owned in
    let f = frees a chain ls (pages rs ++ others) is s.front linked mine in
    let m : PageMap = f.0.page_map in
    let there : NameTrees scheme m ds rs = frame_all scheme a m ds rs (agree_left a m (pages rs) others f.0.kept)
    s.back in
    let b = first' a chain ls (pages rs ++ others) is s.front linked mine in
    let g = second' m f.0.chain rs others f.0.is there f.0.linked
    (same_owned m.size (f.0.chain ++ (pages rs ++ others)) _ (λ q. back_counts q (pages rs) f.0.chain others)
    f.0.owned) in
    omega (arith, b, g, ap length whole, length-append (pages ls) (pages rs))

-- one subtree more
pub frees_next : (scheme : Scheme) (told told1 : Option PageMap) (free free1 : ℕ) (cs : List Child) (i : ℕ) (d : Child)
    (before so_far : List Record) (r r1 r2 : ℕ) → i < length cs → d ≡ get_or cs i d →
    FreesSubtrees scheme told free told1 free1 (take i cs) before so_far → FreesOnce scheme told free (take i cs) r r1 →
    FreesOnce scheme told1 free1 (d ∷ []) r1 r2 → FreesOnce scheme told free (take (i + 1) cs) r r2
frees_next scheme told told1 free free1 cs i d before so_far r r1 r2 within is frees first' second' =
    subst (λ us. FreesOnce scheme told free us r r2)
    (sym (take_more cs i d within ∙ ap (λ x. take i cs ++ x ∷ []) (sym is)))
    (frees_on scheme told told1 free free1 (take i cs) (d ∷ []) before so_far r r1 r2 frees first' second')

-- of all, where only the first ones were read
pub frees_part : (scheme : Scheme) (told : Option PageMap) (free : ℕ) (cs : List Child) (i r r' : ℕ) →
    FreesOnce scheme told free (take i cs) r r' → FreesOnce scheme told free cs r r'
frees_part scheme told free cs i r r' part a chain Ps others is named linked owned =
    let both : NameTrees scheme a (take i cs ++ drop i cs) Ps =
    subst (λ us. NameTrees scheme a us Ps) (sym (take-append-drop i cs)) named in
    let s = zip_split (NamesTree scheme a) (take i cs) (drop i cs) Ps both in
    let whole : pages Ps ≡ pages s.left ++ pages s.right = ap pages s.is ∙ flat_map-append pages_of s.left s.right in
    let mine : OwnsEachOnce a.size (pages s.left ++ (chain ++ (pages s.right ++ others))) =
    same_owned a.size (pages Ps ++ (chain ++ others)) _ (λ q. take_counts q (pages Ps) (pages s.left) (pages s.right)
    chain others whole) owned in
    let b = part a chain s.left (pages s.right ++ others) is s.front linked mine in
    omega (arith, b, ap length whole, length-append (pages s.left) (pages s.right))

-- a node, and what is below it
pub frees_below : (scheme : Scheme) (told told1 told2 : Option PageMap) (free free2 : ℕ) (c : Child) (cs : List Child)
    (r r1 r2 : ℕ) → told1 ≡ told → IfSome told (λ b. HasNode b c.id (node.Inner (map child_link cs))) →
    FreesPage told1 free told2 free2 c.id → r1 ≤ r + 1 → FreesOnce scheme told2 free2 cs r1 r2 →
    FreesOnce scheme told free (c ∷ []) r r2
frees_below scheme told told1 told2 free free2 c cs r r1 r2 same reads frees looked rest a chain [] others is named
    linked owned = absurd named
frees_below scheme told told1 told2 free free2 c cs r r1 r2 same reads frees looked rest a chain (P ∷ Q ∷ Ps) others is
    named linked owned = absurd named.1
frees_below scheme told told1 told2 free free2 c cs r r1 r2 same reads frees looked rest a chain (P ∷ []) others is
    named linked owned =
    let has : HasNode a c.id (node.Inner (map child_link cs)) =
    subst (λ o. IfSome o (λ b. HasNode b c.id (node.Inner (map child_link cs)))) is reads in
    let op = opens_inner scheme a c cs P named.0 has in
    let Ps = op.parts in
    let mine : pages (P ∷ []) ≡ c.id ∷ pages Ps = append-nil (pages_of P) ∙ ap pages_of op.is
    ∙ ap (λ ps. c.id ∷ ps) (row_pages Ps) in
    let had : OwnsEachOnce a.size (c.id ∷ (pages Ps ++ (chain ++ others))) =
    subst (λ ps. OwnsEachOnce a.size (ps ++ (chain ++ others))) mine owned in
    let f = frees a chain (pages Ps ++ others) (same ∙ is) linked
    (same_owned a.size (c.id ∷ (pages Ps ++ (chain ++ others))) _ (λ q. turn_counts q c.id (pages Ps) chain others)
    had) in
    let there : NameTrees scheme f.page_map cs Ps = frame_all scheme a f.page_map cs Ps
    (agree_left a f.page_map (pages Ps) others f.kept) op.named in
    let g = rest f.page_map f.chain Ps others f.is there f.linked
    (same_owned f.page_map.size (f.chain ++ (pages Ps ++ others))
    _ (λ q. back_counts q (pages Ps) f.chain others) f.owned) in
    omega (arith, g, looked, ap length mine)

-- the only one among some
pub frees_only : (scheme : Scheme) (told : Option PageMap) (free : ℕ) (cs : List Child) (d : Child) (r r' : ℕ) →
    length cs ≡ 1 → d ≡ get_or cs 0 d → FreesOnce scheme told free (d ∷ []) r r' → FreesOnce scheme told free cs r r'
frees_only scheme told free cs d r r' one is =
    subst (λ us. FreesOnce scheme told free us r r') (sym (one_item cs d one is))

-- ---- beside a page

pub beside_none : (scheme : Scheme) (told : Option PageMap) (free page : ℕ) (cs : List Child) (r r' : ℕ) → r' ≡ r →
    LeavesOnce scheme told free page cs r r'
beside_none scheme told free page cs r r' same a chain Ps others is named linked owned = omega (arith, same)

pub beside_freed : (scheme : Scheme) (told told1 : Option PageMap) (free free1 page : ℕ) (cs : List Child)
    (r r1 r2 : ℕ) →
    FreesPage told free told1 free1 page → r1 ≡ r → FreesOnce scheme told1 free1 cs r1 r2 →
    LeavesOnce scheme told free page cs r r2
beside_freed scheme told told1 free free1 page cs r r1 r2 frees same rest a chain Ps others is named linked owned =
    let f = frees a chain (pages Ps ++ others) is linked (same_owned a.size
    (page ∷ (pages Ps ++ (chain ++ others))) _ (λ q. turn_counts q page (pages Ps) chain others) owned) in
    let there : NameTrees scheme f.page_map cs Ps = frame_all scheme a f.page_map cs Ps
    (agree_left a f.page_map (pages Ps) others f.kept) named in
    let g = rest f.page_map f.chain Ps others f.is there f.linked
    (same_owned f.page_map.size (f.chain ++ (pages Ps ++ others))
    _ (λ q. back_counts q (pages Ps) f.chain others) f.owned) in
    omega (arith, g, same)
