use Rattle.std.proofs.Common.{◌≡◌, ℕ, ◌+◌, ◌<◌, List, ◌++◌, ◌∷◌, [], get_or, length, map, take, sym, ap, ◌∙◌}
use Rattle.std.proofs.lemmas.List.{map_more, take_all}
use Rattle.mr_fork_join.proofs.halves.in_order.Goals as goal

-- what one piece more gives stands behind what the pieces so far give
one_more : {X Y : Type 0} (f : X → Y) (pieces : List X) (i : ℕ) (piece : X) (found : Y) (all more : List Y)
    → i < length pieces → piece ≡ get_or pieces i piece → found ≡ f piece → all ≡ map f (take i pieces)
    → more ≡ all ++ found ∷ [] → more ≡ map f (take (i + 1) pieces)
one_more f pieces i piece found all more low at is so_far put =
    put ∙ (λ j. so_far j ++ is j ∷ []) ∙ ap (λ p. map f (take i pieces) ++ f p ∷ []) at
    ∙ sym (map_more f pieces i piece low)

pub loop-i-preserved : goal.loop-i-preserved
loop-i-preserved g c =
    one_more (g.W.Work.gives c.args.work.now) c.args.pieces.now c.loop-i.i c.index-pieces-i.result
    c.in_ok-found.found c.loop-i.all.items c.push.new.self.items c.loop-i-test.true c.index-pieces-i.is
    c.in_ok-found.ensures c.loop-i.invariant c.in_ok-push.ensures.items

pub returns : goal.returns
returns g c =
    c.loop-i.invariant
    ∙ ap (map (g.W.Work.gives c.args.work.now)) (take_all c.loop-i.i c.args.pieces.now c.loop-i-test.false)
