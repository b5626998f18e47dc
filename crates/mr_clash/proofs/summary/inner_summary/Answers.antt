use Rattle.std.proofs.Common.{◌≡◌, ℕ, ◌-◌, ◌<◌, ◌^◌, ◌∙◌, arith}
use Rattle.std.specs.Prelude.{min}
use Rattle.mr_clash.proofs.summary.inner_summary.Goals as goal

word_is : (n : ℕ) → n < 2 ^ 64 → min n (2 ^ 64 - 1) ≡ n
word_is n low = omega (arith, low)

pub returns : goal.returns
returns c = λ few. λ i. record {
  rect = c.bounds.ensures i;
  mask = c.masks.ensures i;
  count = (c.tally.ensures ∙ word_is _ few) i;
}
