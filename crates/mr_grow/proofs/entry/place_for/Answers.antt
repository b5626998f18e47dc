use Rattle.std.proofs.Common.{length, ap, ◌∙◌, arith}
use Rattle.std.proofs.lemmas.List.{length-map}
use Rattle.mr_split.specs.Choice.{choose}
use Rattle.mr_grow.proofs.entry.place_for.Goals as goal

pub choose-requires : goal.choose-requires
choose-requires g c =
    omega (
      arith,
      c.requires,
      ap length (c.deref.ensures.value ∙ c.in_ok-rects.ensures),
      length-map c.args.entries.now g.T.HasRect.rect_of,
    )

pub returns-clause-value : goal.returns-clause-value
returns-clause-value g c =
    c.choose.ensures.exact
    ∙ ap (λ rects. choose rects c.args.one.now.rect) (c.deref.ensures.value ∙ c.in_ok-rects.ensures)

pub returns-clause-within : goal.returns-clause-within
returns-clause-within g c =
    omega (
      arith,
      c.choose.ensures.within,
      ap length (c.deref.ensures.value ∙ c.in_ok-rects.ensures),
      length-map c.args.entries.now g.T.HasRect.rect_of,
    )
