use Rattle.std.proofs.Common.{◌≡◌, map, sym, ap, ◌∙◌}
use Rattle.std.proofs.lemmas.List.{length-map}
use Rattle.mr_split.specs.Split.{sides}
use Rattle.mr_edit.proofs.Results.{if_both}
use Rattle.mr_edit.proofs.Levels.{halved}
use Rattle.mr_edit.proofs.putting.halve.Goals as goal

pub returns : goal.returns
returns g c =
    let xs = c.args.entries.items in
    let rect = g.T.HasRect.rect_of in
    let least = c.args.least in
    let rects : c.deref-2.result.now ≡ map rect xs =
    c.deref-2.ensures.value ∙ c.in_ok-rects.ensures ∙ ap (map rect) c.deref.ensures.value in
    let bs : c.deref-3.result.now ≡ sides (map rect xs) least =
    c.deref-3.ensures.value ∙ c.in_ok-sides.ensures.exact ∙ ap (λ us. sides us least) rects in
    if_both c.part.result _ _ _
    (λ p front back. halved least c.args._most (map rect xs) xs p.0.items p.1.items c.deref-3.result.now
    (sym (length-map xs rect)) c.requires.some c.requires.enough c.requires.long bs front back)
    c.part.ensures.first c.part.ensures.second
