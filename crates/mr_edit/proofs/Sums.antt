-- What entries tell together, all layers and the number of records, and what is told of a node that is written.
use Rattle.std.proofs.Common.{◌≡◌, Bool, true, false, ℕ, zero, suc, ◌+◌, ◌^◌, ◌<◌, ◌≤◌, List, [], ◌∷◌, ◌++◌, length, map, take, drop, get_or, refl, sym, ap, subst, ◌∙◌, arith, length-append}
use Rattle.std.specs.Prelude.{All, bit_or, sum}
use Rattle.std.specs.List.{AllByRecursion, flat_map}
use Rattle.std.proofs.lemmas.Nat.{or_lt, le_or_l, pow_pos}
use Rattle.std.proofs.lemmas.List.{map_more, take_more}
use Rattle.std.proofs.lemmas.List.Elements.{recursion_from_All}
use Rattle.std.proofs.lemmas.List.Sums.{sum_by-cons}
use Rattle.std.proofs.lemmas.List.Sorted.{length_permutation}
use Rattle.mr_record.specs.Record.{HasLayer}
use Rattle.mr_record.specs.Version.{told}
use Rattle.mr_record.specs.declared.record.Record.{Record}
use Rattle.mr_record.specs.declared.version.Version.{Version}
use Rattle.mr_record.specs.declared.version.Version.TheVariants.{One, Two}
use Rattle.mr_tree.specs.Digest.{Scheme, entry}
use Rattle.mr_tree.specs.Limits.{count_limit, leaf_limit}
use Rattle.mr_tree.specs.Tree.{records, mask_of}
use Rattle.mr_tree.specs.View as view
use Rattle.mr_tree.specs.View.{AreTold, MayTell}
use Rattle.mr_tree.specs.declared.child.Child.{Child}
use Rattle.mr_tree.specs.declared.entry.Entry.{Entry}
use Rattle.mr_tree.specs.declared.tree.Tree.{Tree}
use Rattle.mr_tree.specs.declared.tree.Tree.TheVariants as tree
use Rattle.mr_tree.specs.declared.tree.Tree.TheOpen as node
use Rattle.mr_tree.specs.declared.tree.Tree.TheFolds.{every-Tree}
use Rattle.mr_tree.proofs.Equations.{entry_count, records-Leaf}
use Rattle.mr_tree.proofs.Masks.{mask_of-append, mask_of-cons}
use Rattle.mr_tree.proofs.Told.{any_layers, count_told, may_tell, told_le, told_sum}
use Rattle.mr_grow.specs.Grow.{grown}
use Rattle.mr_grow.specs.Parts.{first_part, second_part}
use Rattle.mr_grow.specs.Views.{HasRoom}
use Rattle.mr_grow.proofs.Kept.{grown_mixes}
use Rattle.mr_pages.specs.Page.{Link, node_entry}
use Rattle.mr_pages.specs.Stands.{Placed, tree_of, link_of}
use Rattle.mr_pages.specs.Walking.{child_link, page_node}
use Rattle.mr_pages.proofs.Judged.{entry_same}
use Rattle.mr_edit.specs.PageMap.{PageMap}
use Rattle.mr_edit.specs.Held.{NameTrees, IsTold, trees, counted, HaveFew}
use Rattle.mr_edit.proofs.Entries.{said_leaf}

-- ---- a version tells more of more

pub told_none : (v : Version) → told v 0 ≡ 0
told_none One = refl
told_none Two = refl

pub told_most : (v : Version) (m n : ℕ) → m ≤ n → told v m ≤ told v n
told_most One m n low = omega arith
told_most Two m n low = low

-- ---- the masks of entries

abbrev pub layers_below : List Child → ℕ
layers_below cs = mask_of (map (λ (c : Child). c.mask) cs)

abbrev pub masks : List Child → List ℕ
masks cs = map (λ (c : Child). c.mask) cs

-- one more
pub masks_more : (cs : List Child) (i all : ℕ) (c : Child) → i < length cs → c ≡ get_or cs i c →
    all ≡ layers_below (take i cs) → bit_or all c.mask ≡ layers_below (take (i + 1) cs)
masks_more cs i all c within is so_far =
    ap (λ m. bit_or m c.mask) so_far
    ∙ sym (mask_of-append (masks (take i cs)) (c.mask ∷ []))
    ∙ ap (λ (one : Child). mask_of (masks (take i cs) ++ one.mask ∷ [])) is
    ∙ sym (ap mask_of (map_more (λ (d : Child). d.mask) cs i c within))

mask_some : (v : Version) (cs : List Child) → 1 ≤ length cs → AllByRecursion (IsTold v) cs →
    told v 1 ≤ layers_below cs
mask_some v [] some all = absurd (omega (arith, some))
mask_some v (c ∷ cs) some all =
    omega (arith, all.0.some, le_or_l c.mask (layers_below cs), mask_of-cons c.mask (masks cs))

mask_fits : (v : Version) (cs : List Child) → AllByRecursion (IsTold v) cs → layers_below cs < 2 ^ told v 64
mask_fits v [] all = pow_pos (told v 64)
mask_fits v (c ∷ cs) all =
    subst (λ m. m < 2 ^ told v 64) (sym (mask_of-cons c.mask (masks cs)))
    (or_lt (told v 64) c.mask (layers_below cs) all.0.fits (mask_fits v cs all.1))

-- ---- the counts of entries

counted_cons : (c : Child) (cs : List Child) → counted (c ∷ cs) ≡ c.count + counted cs
counted_cons c cs = sum_by-cons (λ n. n) c.count (map (λ (d : Child). d.count) cs)

counted_append : (cs ds : List Child) → counted (cs ++ ds) ≡ counted cs + counted ds
counted_append [] ds = omega arith
counted_append (c ∷ cs) ds = omega (arith, counted_cons c (cs ++ ds), counted_cons c cs, counted_append cs ds)

-- one more
pub counted_more : (cs : List Child) (i : ℕ) (c : Child) → i < length cs → c ≡ get_or cs i c →
    counted (take (i + 1) cs) ≡ counted (take i cs) + c.count
counted_more cs i c within is = omega (
  arith,
  ap counted (take_more cs i c within),
  counted_append (take i cs) (get_or cs i c ∷ []),
  counted_cons (get_or cs i c) [],
  ap (λ (d : Child). d.count) is,
)

-- dealt out to two
pub parts_counted : (bs : List Bool) (cs : List Child) →
    counted (first_part bs cs) + counted (second_part bs cs) ≡ counted cs
parts_counted [] cs = omega arith
parts_counted (b ∷ bs) [] = refl
parts_counted (true ∷ bs) (c ∷ cs) = omega (
  arith,
  parts_counted bs cs,
  counted_cons c cs,
  counted_cons c (second_part bs cs),
)
parts_counted (false ∷ bs) (c ∷ cs) = omega (
  arith,
  parts_counted bs cs,
  counted_cons c cs,
  counted_cons c (first_part bs cs),
)

pub first_few : (bs : List Bool) (cs front : List Child) → front ≡ first_part bs cs → HaveFew cs → HaveFew front
first_few bs cs front is few = omega (arith, few, parts_counted bs cs, ap counted is)

pub second_few : (bs : List Bool) (cs back : List Child) → back ≡ second_part bs cs → HaveFew cs → HaveFew back
second_few bs cs back is few = omega (arith, few, parts_counted bs cs, ap counted is)

-- others in the place of one
pub replaced_counted : (at : ℕ) (cs new : List Child) (d : Child) → at < length cs → d ≡ get_or cs at d →
    counted (take at cs ++ (new ++ drop (suc at) cs)) + d.count ≡ counted cs + counted new
replaced_counted at [] new d within is = absurd (omega (arith, within))
replaced_counted zero (c ∷ cs) new d within is =
    omega (arith, counted_append new cs, counted_cons c cs, ap (λ (x : Child). x.count) is)
replaced_counted (suc at) (c ∷ cs) new d within is = omega (
  arith,
  counted_cons c (take at cs ++ (new ++ drop (suc at) cs)),
  counted_cons c cs,
  replaced_counted at cs new d (omega (arith, within)) is,
)

-- ---- entries that stand for trees

pub count_named : (scheme : Scheme) (c : Child) (P : Placed) → child_link c ≡ link_of scheme P →
    c.count ≡ told scheme.version (length (records (tree_of P)))
count_named scheme c P said =
    ap (λ (l : Link). l.entry.count) said ∙ entry_count scheme (tree_of P) ∙ count_told scheme.version (tree_of P)

pub counted_named : (scheme : Scheme) (b : PageMap) (cs : List Child) (Ps : List Placed) → NameTrees scheme b cs Ps →
    counted cs ≡ told scheme.version (length (flat_map records (trees Ps)))
counted_named scheme b [] [] named = sym (told_none scheme.version)
counted_named scheme b [] (P ∷ Ps) named = absurd named
counted_named scheme b (c ∷ cs) [] named = absurd named
counted_named scheme b (c ∷ cs) (P ∷ Ps) named =
    counted_cons c cs
    ∙ ap (λ n. n + counted cs) (count_named scheme c P named.0.said)
    ∙ ap (λ n. told scheme.version (length (records (tree_of P))) + n) (counted_named scheme b cs Ps named.1)
    ∙ sym (told_sum scheme.version (length (records (tree_of P))) (length (flat_map records (trees Ps))))
    ∙ ap (told scheme.version) (sym (length-append (records (tree_of P)) (flat_map records (trees Ps))))

-- they are few where the trees have few records
pub named_few : (scheme : Scheme) (b : PageMap) (cs : List Child) (Ps : List Placed) → NameTrees scheme b cs Ps →
    length (flat_map records (trees Ps)) ≤ count_limit → HaveFew cs
named_few scheme b cs Ps named few = omega (
  arith,
  counted_named scheme b cs Ps named,
  told_le scheme.version (length (flat_map records (trees Ps))),
  few,
)

-- an insertion adds a record
pub grown_length : (one : Record) (t : Tree) → every-Tree HasRoom t →
    length (flat_map records (grown one t)) ≡ length (records t) + 1
grown_length one t every = omega (
  arith,
  length_permutation (one ∷ records t) (flat_map records (grown one t)) (grown_mixes one t every),
)

-- a child has no more records than the node
pub few_at : (ts : List Tree) (at : ℕ) (t : Tree) → at < length ts → t ≡ get_or ts at t →
    length (records t) ≤ length (flat_map records ts)
few_at [] at t within is = absurd (omega (arith, within))
few_at (u ∷ ts) zero t within is =
    omega (arith, ap (λ x. length (records x)) is, length-append (records u) (flat_map records ts))
few_at (u ∷ ts) (suc at) t within is =
    omega (arith, few_at ts at t (omega (arith, within)) is, length-append (records u) (flat_map records ts))

-- with one record more below a child, or fewer, the entries of a node count as few as its records are
pub more_few : (v : Version) (l d old new n m : ℕ) → l + d ≡ old + new → old ≡ told v n → new ≡ told v (m + 1) →
    d ≡ told v m → n + 1 ≤ count_limit → l ≤ count_limit
more_few v l d old new n m all olds news mine few =
    omega (arith, all, olds, news, mine, told_sum v m 1, told_sum v n 1, told_le v (n + 1), few)

pub less_few : (v : Version) (l d old new n m k : ℕ) → l + d ≡ old + new → old ≡ told v n → new ≡ told v k →
    d ≡ told v m → k ≤ m → n ≤ count_limit → l ≤ count_limit
less_few v l d old new n m k all olds news mine less few =
    omega (arith, all, olds, news, mine, told_most v k m less, told_le v n, few)

-- ---- what is told of a node that is written

few_told : (v : Version) (cs : List Child) → AllByRecursion (IsTold v) cs → HaveFew cs →
    counted cs ≤ told v count_limit
few_told Two cs all few = few
few_told One [] all few = omega arith
few_told One (c ∷ cs) all few = omega (
  arith,
  counted_cons c cs,
  all.0.few,
  few_told One cs all.1 (omega (arith, counted_cons c cs, few)),
)

count_some : (v : Version) (cs : List Child) → 1 ≤ length cs → AllByRecursion (IsTold v) cs →
    told v 1 ≤ counted cs
count_some v [] some all = absurd (omega (arith, some))
count_some v (c ∷ cs) some all = omega (arith, all.0.counted, counted_cons c cs)

entry_masks : (cs : List Child) → map (λ (e : Entry). e.mask) (map view.child_entry cs) ≡ masks cs
entry_masks [] = refl
entry_masks (c ∷ cs) = ap (λ ms. c.mask ∷ ms) (entry_masks cs)

entry_counts : (cs : List Child) →
    map (λ (e : Entry). e.count) (map view.child_entry cs) ≡ map (λ (c : Child). c.count) cs
entry_counts [] = refl
entry_counts (c ∷ cs) = ap (λ ns. c.count ∷ ns) (entry_counts cs)

pub inner_mask : (scheme : Scheme) (n : view.Node) (cs : List Child) → n ≡ node.Inner cs →
    (view.entry_over scheme n).mask ≡ layers_below cs
inner_mask scheme n cs is = ap (λ m. (view.entry_over scheme m).mask) is ∙ ap mask_of (entry_masks cs)

pub inner_count : (scheme : Scheme) (n : view.Node) (cs : List Child) → n ≡ node.Inner cs →
    (view.entry_over scheme n).count ≡ counted cs
inner_count scheme n cs is = ap (λ m. (view.entry_over scheme m).count) is ∙ ap sum (entry_counts cs)

may_be : (v : Version) (m n mask count : ℕ) → mask ≡ m → count ≡ n → MayTell v m n → MayTell v mask count
may_be v m n mask count masks_are counts_are may =
    subst (λ x. MayTell v x count) (sym masks_are) (subst (MayTell v m) (sym counts_are) may)

-- the entry is told of, where that of the node may be
said_told : (scheme : Scheme) (n : view.Node) (c : Child) (page : ℕ) →
    child_link c ≡ record { page = page; entry = node_entry scheme (page_node n) } →
    MayTell scheme.version (view.entry_over scheme n).mask (view.entry_over scheme n).count → IsTold scheme.version c
said_told scheme n c page said =
    let is : view.child_entry c ≡ view.entry_over scheme n =
    ap (λ (l : Link). l.entry) said ∙ sym (entry_same scheme n) in
    may_be scheme.version (view.entry_over scheme n).mask (view.entry_over scheme n).count c.mask c.count
    (ap (λ (e : Entry). e.mask) is) (ap (λ (e : Entry). e.count) is)

pub leaf_said : (scheme : Scheme) (n : view.Node) (rs : List Record) (c : Child) (page : ℕ) → n ≡ node.Leaf rs →
    1 ≤ length rs → length rs ≤ leaf_limit → All (HasLayer scheme.version) rs →
    child_link c ≡ record { page = page; entry = node_entry scheme (page_node n) } → IsTold scheme.version c
leaf_said scheme n rs c page is some few layers said =
    let t = tree.Leaf rs in
    let mine : records t ≡ rs = records-Leaf rs in
    let same : view.entry_over scheme n ≡ entry scheme t =
    ap (view.entry_over scheme) is ∙ said_leaf scheme rs in
    said_told scheme n c page said
    (may_be scheme.version (entry scheme t).mask (entry scheme t).count (view.entry_over scheme n).mask
    (view.entry_over scheme n).count (ap (λ (e : Entry). e.mask) same) (ap (λ (e : Entry). e.count) same)
    (may_tell scheme t (omega (arith, some, ap length mine)) (omega (arith, few, ap length mine))
    (subst (All (HasLayer Two)) (sym mine) (any_layers scheme.version rs layers))))

pub inner_said : (scheme : Scheme) (n : view.Node) (cs : List Child) (c : Child) (page : ℕ) → n ≡ node.Inner cs →
    1 ≤ length cs → All (IsTold scheme.version) cs → HaveFew cs →
    child_link c ≡ record { page = page; entry = node_entry scheme (page_node n) } → IsTold scheme.version c
inner_said scheme n cs c page is some all few said =
    let v = scheme.version in
    let each = recursion_from_All (IsTold v) cs all in
    said_told scheme n c page said
    (may_be v (layers_below cs) (counted cs) (view.entry_over scheme n).mask (view.entry_over scheme n).count
    (inner_mask scheme n cs is) (inner_count scheme n cs is) (record {
      some = mask_some v cs some each;
      fits = mask_fits v cs each;
      counted = count_some v cs some each;
      few = few_told v cs each few;
    }))
