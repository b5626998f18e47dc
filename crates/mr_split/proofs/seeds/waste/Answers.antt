use mir.Syntax.{w128}
use mir.Val.{to_z, of_z}
use Rattle.std.proofs.Common.{◌≡◌, ℕ, ◌≤◌, ◌*◌, ◌-◌, ◌^◌, ap, ◌∙◌, arith}
use Rattle.std.specs.Prelude.{ℤ, pos, ◌-ℤ◌}
use Rattle.std.proofs.lemmas.Int.{ints}
use Rattle.mr_geom.specs.Rectangle.{area, union}
use Rattle.mr_split.specs.Choice.{rect_at}
use Rattle.mr_split.specs.Seeds.{waste}
use Rattle.mr_split.proofs.Comparing.{rect_is}
use Rattle.mr_split.proofs.seeds.waste.Goals as goal

-- the sum as the code computes it, which fits
wasted : (f g h : ℤ) (l m n : ℕ) (u x y : ℤ) → f ≡ pos l → g ≡ pos m → h ≡ pos n → pos l ≡ u → pos m ≡ x → pos n ≡ y →
    l ≤ (2 ^ 32 - 1) * (2 ^ 32 - 1) → m ≤ (2 ^ 32 - 1) * (2 ^ 32 - 1) → n ≤ (2 ^ 32 - 1) * (2 ^ 32 - 1) →
    to_z w128 (of_z w128 (to_z w128 (of_z w128 (to_z w128 (of_z w128 f) -ℤ to_z w128 (of_z w128 g))) -ℤ to_z w128
    (of_z w128 h))) ≡ (u -ℤ x) -ℤ y
wasted f g h l m n u x y p q r a b c lf mf nf = omega (arith, ints)

pub returns : goal.returns
unfolding waste
returns c =
    let a : c.index-list-pair.result ≡ rect_at c.args.list.now c.args.pair.first = rect_is c.args.list.now
    c.args.pair.first c.index-list-pair.result c.requires.first c.index-list-pair.is in
    let b : c.index-list-pair-2.result ≡ rect_at c.args.list.now c.args.pair.second = rect_is c.args.list.now
    c.args.pair.second c.index-list-pair-2.result c.requires.second c.index-list-pair-2.is in
    let u : pos c.area.result ≡ area (union (rect_at c.args.list.now c.args.pair.first)
    (rect_at c.args.list.now c.args.pair.second)) =
    c.area.ensures.value ∙ ap area c.union.ensures.value ∙ (λ i. area (union (a i) (b i))) in
    let x : pos c.area-2.result ≡ area (rect_at c.args.list.now c.args.pair.first) = c.area-2.ensures.value ∙ ap area
    a in
    let y : pos c.area-3.result ≡ area (rect_at c.args.list.now c.args.pair.second) = c.area-3.ensures.value ∙ ap area
    b in
    wasted c.from.result c.from-2.result c.from-3.result c.area.result c.area-2.result c.area-3.result _ _ _
    c.from.ensures c.from-2.ensures c.from-3.ensures u x y c.area.ensures.bound c.area-2.ensures.bound
    c.area-3.ensures.bound
