use Rattle.std.proofs.Common.{ℕ, ◌≡◌, ◌<◌, List, length, get_or, ap, ◌∙◌, arith}
use Rattle.std.proofs.lemmas.List.{get_or_default, get_or_read}
use Rattle.mr_pack.specs.Repeats.{occurrences}
use Rattle.mr_pack.specs.private.Remains.{IsIndexed}
use Rattle.mr_pack.proofs.Remains.{StandsAt, stands_at, fewer_by_one}
use Rattle.mr_pack.proofs.gathering.take_one.Goals as goal

-- the place that is read is where the number stands
read_at : (n place count : ℕ) (ns places : List ℕ) → IsIndexed count ns places → 0 < occurrences n ns →
    place ≡ get_or places n place → StandsAt n place ns places
read_at n place count ns places indexed some is =
    let known = (stands_at n (get_or places n 0) count ns places indexed some (λ i. get_or places n 0)).known in
    stands_at n place count ns places indexed some (is ∙ get_or_default places n place 0 known)

pub index-place-requires : goal.index-place-requires
index-place-requires g c =
    let at = stands_at c.args.number (get_or c.args.remains.now.places.items c.args.number 0) _
    c.args.remains.now.numbers.items c.args.remains.now.places.items c.requires.indexed c.requires.there
    (λ i. get_or c.args.remains.now.places.items c.args.number 0) in
    omega (arith, at.known)

pub swap_remove-item-requires : goal.swap_remove-item-requires
swap_remove-item-requires g c =
    let at = read_at c.args.number c.index-place.result.now _ c.args.remains.now.numbers.items
    c.args.remains.now.places.items c.requires.indexed c.requires.there c.index-place.ensures in
    omega (arith, at.within, c.requires.indexed.as_many)

pub swap_remove-requires : goal.swap_remove-requires
swap_remove-requires g c =
    let at = read_at c.args.number c.index-place.result.now _ c.args.remains.now.numbers.items
    c.args.remains.now.places.items c.requires.indexed c.requires.there c.index-place.ensures in
    omega (arith, at.within)

pub returns-then-place-len-clause-fewer : goal.returns-then-place-len-clause-fewer
returns-then-place-len-clause-fewer g c = λ n.
    let at = read_at c.args.number c.index-place.result.now _ c.args.remains.now.numbers.items
    c.args.remains.now.places.items c.requires.indexed c.requires.there c.index-place.ensures in
    fewer_by_one n c.index-place.result.now c.args.number c.swap_remove.result c.args.remains.now.numbers.items
    c.swap_remove.new.self.items at.within c.swap_remove.ensures.value at.here c.swap_remove.ensures.items

pub returns-else-place-len-clause-fewer : goal.returns-else-place-len-clause-fewer
returns-else-place-len-clause-fewer g c = λ n.
    let at = read_at c.args.number c.index-place.result.now _ c.args.remains.now.numbers.items
    c.args.remains.now.places.items c.requires.indexed c.requires.there c.index-place.ensures in
    fewer_by_one n c.index-place.result.now c.args.number c.swap_remove.result c.args.remains.now.numbers.items
    c.swap_remove.new.self.items at.within c.swap_remove.ensures.value at.here c.swap_remove.ensures.items

pub returns-then-place-len-clause-item : goal.returns-then-place-len-clause-item
returns-then-place-len-clause-item g c = λ all d numbered.
    let at = read_at c.args.number c.index-place.result.now _ c.args.remains.now.numbers.items
    c.args.remains.now.places.items c.requires.indexed c.requires.there c.index-place.ensures in
    let low : c.index-place.result.now < length c.args.remains.now.items.items = omega
    (arith, at.within, c.requires.indexed.as_many) in
    get_or_read c.args.remains.now.items.items c.index-place.result.now c.swap_remove-item.result low
    c.swap_remove-item.ensures.value d
    ∙ numbered c.index-place.result.now d low
    ∙ ap (λ m. get_or all m d) at.here

pub returns-else-place-len-clause-item : goal.returns-else-place-len-clause-item
returns-else-place-len-clause-item g c = λ all d numbered.
    let at = read_at c.args.number c.index-place.result.now _ c.args.remains.now.numbers.items
    c.args.remains.now.places.items c.requires.indexed c.requires.there c.index-place.ensures in
    let low : c.index-place.result.now < length c.args.remains.now.items.items = omega
    (arith, at.within, c.requires.indexed.as_many) in
    get_or_read c.args.remains.now.items.items c.index-place.result.now c.swap_remove-item.result low
    c.swap_remove-item.ensures.value d
    ∙ numbered c.index-place.result.now d low
    ∙ ap (λ m. get_or all m d) at.here
