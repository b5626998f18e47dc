-- What a version tells of the layers and the number of a tree's records.
use Rattle.std.proofs.Common.{◌≡◌, ℕ, ◌+◌, ◌^◌, ◌<◌, ◌≤◌, subst, get_or, take, List, [], ◌∷◌, ◌++◌, length, map, refl, sym, ap, ◌∙◌, arith, length-append}
use Rattle.std.specs.Prelude.{sum, bit_or, All}
use Rattle.std.specs.List.{flat_map, AllByRecursion}
use Rattle.std.proofs.lemmas.Nat.{or_lt, le_or_l, pow_pos, pow_below}
use Rattle.std.proofs.lemmas.List.Elements.{recursion_from_All}
use Rattle.std.proofs.lemmas.List.{map-append, map_more}
use Rattle.std.proofs.lemmas.List.Sums.{sum_by-cons}
use Rattle.mr_record.specs.declared.record.Record.{Record}
use Rattle.mr_record.specs.declared.version.Version.{Version}
use Rattle.mr_record.specs.declared.version.Version.TheVariants.{One, Two}
use Rattle.mr_record.specs.Version.{told}
use Rattle.mr_record.specs.Record.{HasLayer}
use Rattle.mr_tree.specs.Limits.{count_limit}
use Rattle.mr_tree.specs.WellFormed.{HasLayers}
use Rattle.mr_tree.specs.View.{MayTell, HasCount}
use Rattle.mr_tree.specs.declared.child.Child.{Child}
use Rattle.mr_tree.specs.Tree.{records, records_step, mask_of, layer_bit, mask, mask_step, count, count_step}
use Rattle.mr_tree.specs.declared.tree.Tree.{Tree}
use Rattle.mr_tree.specs.declared.tree.Tree.TheOpen.{Empty, Leaf, Inner}
use Rattle.mr_tree.specs.Digest.{Scheme, entry}
use Rattle.mr_tree.proofs.Folds.{Fuses, fold_fused}
use Rattle.mr_tree.proofs.Equations.{entry_count, entry_mask}
use Rattle.mr_tree.proofs.Masks.{mask_of-append, mask_of-cons}

pub told_sum : (v : Version) (a b : ℕ) → told v (a + b) ≡ told v a + told v b
told_sum One a b = refl
told_sum Two a b = refl

pub told_le : (v : Version) (n : ℕ) → told v n ≤ n
told_le One n = omega arith
told_le Two n = omega arith

abbrev all : List (List Record) → List Record
all lists = flat_map (λ list. list) lists

-- ---- the number of records

abbrev counted : Version → List Record → ℕ
counted v rs = told v (length rs)

count_all : (v : Version) (lists : List (List Record)) → counted v (all lists) ≡ sum (map (counted v) lists)
count_all One [] = refl
count_all Two [] = refl
count_all v (rs ∷ lists) =
    ap (told v) (length-append rs (all lists)) ∙ told_sum v (length rs) (length (all lists))
    ∙ ap (λ n. counted v rs + n) (count_all v lists) ∙ sym (sum_by-cons (λ n. n) (counted v rs) (map (counted v) lists))

count_fuses : (v : Version) → Fuses (List Record) ℕ records_step (count_step v) (counted v)
count_fuses One Empty = refl
count_fuses Two Empty = refl
count_fuses v (Leaf rs) = refl
count_fuses v (Inner lists) = count_all v lists

pub count_told : (v : Version) (t : Tree) → count v t ≡ told v (length (records t))
count_told v t = sym (fold_fused (List Record) ℕ records_step (count_step v) (counted v) (count_fuses v) t)

-- no more than there are
pub entry_count_le : (s : Scheme) (t : Tree) → (entry s t).count ≤ length (records t)
entry_count_le s t = omega (arith, entry_count s t, count_told s.version t, told_le s.version (length (records t)))

-- ---- their layers

abbrev layers : Version → List Record → ℕ
layers v rs = mask_of (map (layer_bit v) rs)

-- one record more
pub layers_more : (v : Version) (rs : List Record) (i all : ℕ) (r : Record) → i < length rs → r ≡ get_or rs i r →
    all ≡ layers v (take i rs) → bit_or all (layer_bit v r) ≡ layers v (take (i + 1) rs)
layers_more v rs i all r within is so_far =
    ap (λ m. bit_or m (layer_bit v r)) so_far
    ∙ sym (mask_of-append (map (layer_bit v) (take i rs)) (layer_bit v r ∷ []))
    ∙ ap (λ (one : Record). mask_of (map (layer_bit v) (take i rs) ++ layer_bit v one ∷ [])) is
    ∙ sym (ap mask_of (map_more (layer_bit v) rs i r within))

mask_all : (v : Version) (lists : List (List Record)) → layers v (all lists) ≡ mask_of (map (layers v) lists)
mask_all v [] = refl
mask_all v (rs ∷ lists) =
    ap mask_of (map-append (layer_bit v) rs (all lists))
    ∙ mask_of-append (map (layer_bit v) rs) (map (layer_bit v) (all lists))
    ∙ ap (bit_or (layers v rs)) (mask_all v lists) ∙ sym (mask_of-cons (layers v rs) (map (layers v) lists))

mask_fuses : (v : Version) → Fuses (List Record) ℕ records_step (mask_step v) (layers v)
mask_fuses v Empty = refl
mask_fuses v (Leaf rs) = refl
mask_fuses v (Inner lists) = mask_all v lists

-- the mask of a tree has the bit of each record's layer
pub mask_told : (v : Version) (t : Tree) → mask v t ≡ mask_of (map (layer_bit v) (records t))
mask_told v t = sym (fold_fused (List Record) ℕ records_step (mask_step v) (layers v) (mask_fuses v) t)

-- ---- what may be told of a tree with records

pub any_layer : (v : Version) (r : Record) → HasLayer v r → HasLayer Two r
any_layer One r low = omega arith
any_layer Two r low = low

pub any_layers : (v : Version) (rs : List Record) → All (HasLayer v) rs → All (HasLayer Two) rs
any_layers v rs layers k d within = any_layer v (get_or rs k d) (layers k d within)

told_more : (v : Version) (m n : ℕ) → m ≤ n → told v m ≤ told v n
told_more One m n low = omega arith
told_more Two m n low = low

layers_some : (v : Version) (rs : List Record) → 1 ≤ length rs → told v 1 ≤ layers v rs
layers_some v [] some = absurd (omega arith)
layers_some v (r ∷ rs) some =
    let here : told v 1 ≤ layer_bit v r = told_more v 1 (2 ^ r.layer) (pow_pos r.layer) in
    let more : layer_bit v r ≤ bit_or (layer_bit v r) (layers v rs) = le_or_l (layer_bit v r) (layers v rs) in
    omega (arith, here, more, mask_of-cons (layer_bit v r) (map (layer_bit v) rs))

bit_fits : (v : Version) (r : Record) → HasLayer Two r → layer_bit v r < 2 ^ told v 64
bit_fits One r low = omega arith
bit_fits Two r low = pow_below r.layer 64 (omega (arith, low))

layers_fit : (v : Version) (rs : List Record) → AllByRecursion (HasLayer Two) rs → layers v rs < 2 ^ told v 64
layers_fit v [] each = pow_pos (told v 64)
layers_fit v (r ∷ rs) each =
    subst (λ m. m < 2 ^ told v 64) (sym (mask_of-cons (layer_bit v r) (map (layer_bit v) rs)))
    (or_lt (told v 64) (layer_bit v r) (layers v rs) (bit_fits v r each.0) (layers_fit v rs each.1))

pub may_tell : (s : Scheme) (t : Tree) → 1 ≤ length (records t) → length (records t) ≤ count_limit → HasLayers Two t →
    MayTell s.version (entry s t).mask (entry s t).count
may_tell s t some few layered =
    let v = s.version in
    let mask_is : (entry s t).mask ≡ layers v (records t) = entry_mask s t ∙ mask_told v t in
    let count_is : (entry s t).count ≡ told v (length (records t)) = entry_count s t ∙ count_told v t in
    record {
      some = omega (arith, mask_is, layers_some v (records t) some);
      fits = subst (λ m. m < 2 ^ told v 64) (sym mask_is)
          (layers_fit v (records t) (recursion_from_All (HasLayer Two) (records t) layered));
      counted = omega (arith, count_is, told_more v 1 (length (records t)) some);
      few = omega (arith, count_is, told_more v (length (records t)) count_limit few);
    }

-- so it is a count that a map may have
pub told_count : (v : Version) (c : Child) → MayTell v c.mask c.count → HasCount c
told_count v c may = omega (arith, may.few, told_le v count_limit)

pub told_counts : (v : Version) (cs : List Child) → All (λ (c : Child). MayTell v c.mask c.count) cs → All HasCount cs
told_counts v cs may k d within = told_count v (get_or cs k d) (may k d within)
