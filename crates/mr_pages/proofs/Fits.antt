-- A node that a view shows, beside what is said of it: part by part, and by its entry.
use Rattle.std.proofs.Common.{◌≡◌, ◌+◌, Bool, true, false, [], ◌∷◌, List, map, refl, sym, ap, ◌∙◌}
use Rattle.std.specs.Prelude.{◌==◌, ◌&&◌, ◌||◌, sum, Some}
use Rattle.mr_geom.specs.Rectangle.{union_of}
use Rattle.mr_record.specs.declared.version.Version.{Version}
use Rattle.mr_tree.specs.Digest.{Scheme}
use Rattle.mr_tree.specs.Tree.{first_level, mask_of}
use Rattle.mr_tree.specs.View as view
use Rattle.mr_tree.specs.declared.child.Child.{Child}
use Rattle.mr_tree.specs.declared.entry.Entry.{Entry}
use Rattle.mr_tree.specs.declared.tree.Tree.TheOpen.{Empty, Leaf, Inner}
use Rattle.mr_pages.specs.Faults.{same_rect, same_sums}
use Rattle.mr_pages.specs.private.Judging.{fills_node, has_said, fits_entry}
use Rattle.mr_pages.proofs.PageLaws.{both_true}

pub first_of_both : (a b : Bool) → (a && b) ≡ true → a ≡ true
first_of_both true b e = refl
first_of_both false b e = e

pub second_of_both : (a b : Bool) → (a && b) ≡ true → b ≡ true
second_of_both true b e = e
second_of_both false b e = cc

-- ---- the parts of the entry

pub levels : (cs : List Child) →
    map (λ (e : Entry). e.level) (map view.child_entry cs) ≡ map (λ (c : Child). c.level) cs
levels [] = refl
levels (c ∷ cs) = ap (λ ns. c.level ∷ ns) (levels cs)

rects : (cs : List Child) → map (λ (e : Entry). e.rect) (map view.child_entry cs) ≡ map (λ (c : Child). Some c.rect) cs
rects [] = refl
rects (c ∷ cs) = ap (λ rs. Some c.rect ∷ rs) (rects cs)

masks : (cs : List Child) → map (λ (e : Entry). e.mask) (map view.child_entry cs) ≡ map (λ (c : Child). c.mask) cs
masks [] = refl
masks (c ∷ cs) = ap (λ ms. c.mask ∷ ms) (masks cs)

counts : (cs : List Child) → map (λ (e : Entry). e.count) (map view.child_entry cs) ≡ map (λ (c : Child). c.count) cs
counts [] = refl
counts (c ∷ cs) = ap (λ ns. c.count ∷ ns) (counts cs)

pub level_known : (x : Scheme) (n : view.Node) → (view.entry_over x n).level ≡ view.level_of n
level_known x Empty = refl
level_known x (Leaf rs) = refl
level_known x (Inner cs) = ap (λ ns. first_level ns + 1) (levels cs)

pub rect_known : (x : Scheme) (n : view.Node) → (view.entry_over x n).rect ≡ view.rect_of n
rect_known x Empty = refl
rect_known x (Leaf rs) = refl
rect_known x (Inner cs) = ap union_of (rects cs)

pub mask_known : (x : Scheme) (n : view.Node) → (view.entry_over x n).mask ≡ view.mask_over x.version n
mask_known x Empty = refl
mask_known x (Leaf rs) = refl
mask_known x (Inner cs) = ap mask_of (masks cs)

pub count_known : (x : Scheme) (n : view.Node) → (view.entry_over x n).count ≡ view.count_over x.version n
count_known x Empty = refl
count_known x (Leaf rs) = refl
count_known x (Inner cs) = ap sum (counts cs)

-- ---- what fits

sums_are : (x : Scheme) (root : Bool) (c : Child) (n : view.Node) → same_sums root (view.entry_over x n)
    (view.child_entry c)
    ≡ ((view.mask_over x.version n == c.mask) && (root || view.count_over x.version n == c.count))
sums_are x root c n = λ i. (mask_known x n i == c.mask) && (root || count_known x n i == c.count)

pub fit_rect : (v : Version) (root : Bool) (c : Child) (n : view.Node) → fits_entry v root c n ≡ true →
    same_rect (view.rect_of n) (Some c.rect) ≡ true
fit_rect v root c n fit =
    first_of_both (same_rect (view.rect_of n) (Some c.rect)) _
    (first_of_both (has_said v root c n) (fills_node root n) fit)

pub fit_sums : (x : Scheme) (root : Bool) (c : Child) (n : view.Node) → fits_entry x.version root c n ≡ true →
    same_sums root (view.entry_over x n) (view.child_entry c) ≡ true
fit_sums x root c n fit =
    sums_are x root c n ∙ second_of_both (same_rect (view.rect_of n) (Some c.rect)) _
    (first_of_both (has_said x.version root c n) (fills_node root n) fit)

pub fit_full : (v : Version) (root : Bool) (c : Child) (n : view.Node) → fits_entry v root c n ≡ true →
    fills_node root n ≡ true
fit_full v root c n fit = second_of_both (has_said v root c n) (fills_node root n) fit

pub all_fit : (x : Scheme) (root : Bool) (c : Child) (n : view.Node) → same_rect (view.rect_of n) (Some c.rect) ≡ true →
    same_sums root (view.entry_over x n) (view.child_entry c) ≡ true → fills_node root n ≡ true →
    fits_entry x.version root c n ≡ true
all_fit x root c n rect sums full =
    both_true (has_said x.version root c n) (fills_node root n)
    (both_true (same_rect (view.rect_of n) (Some c.rect))
    ((view.mask_over x.version n == c.mask) && (root || view.count_over x.version n == c.count)) rect
    (sym (sums_are x root c n) ∙ sums)) full
