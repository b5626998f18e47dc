use Rattle.std.proofs.Common.{ap, subst, sym, ◌≤◌, ◌^◌, ◌∙◌}
use Rattle.mr_clash.proofs.Versions.{no_layer, one_layer, all_told}
use Rattle.mr_clash.proofs.leaf.pass_layer.Goals as goal

pub returns-in-One : goal.returns-in-One
returns-in-One c = λ layer rest low is. no_layer c.args.version layer rest _ c.in-One.is is

pub returns-in-Two : goal.returns-in-Two
returns-in-Two c = λ layer rest low is.
    let whole = one_layer c.args.version layer rest _ c.in-Two.is low is in
    let b = c.byte.ensures layer rest whole.1 in (
      c.layer_bit.ensures (subst (λ n. n ≤ 63) (sym b.0) whole.0) ∙ ap (λ n. 2 ^ n) b.0
          ∙ all_told c.args.version (2 ^ layer) c.in-Two.is,
      b.1,
    )
