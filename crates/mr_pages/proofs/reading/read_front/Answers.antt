use Rattle.std.proofs.Common.{◌≡◌, ◌++◌, ◌-◌, List, ℕ, min, length, take, replicate, length-append, ap, ◌∙◌, arith}
use Rattle.mr_outside.proofs.Pieces.{OfFile-both, OfFile-map}
use Rattle.mr_pages.proofs.FrontReads.{is_front, is_filled_front}
use Rattle.mr_pages.proofs.reading.read_front.Goals as goal

pub returns-clause-told : goal.returns-clause-told
returns-clause-told g c =
    let front = c.read_filled.new.into in
    let size = c.split_at_mut-front.ensures.front_len in
    OfFile-map _ _ _ _ (λ file piece long.
    let k : c.min.result ≡ min (length file) 8192 = omega (arith, long, c.min.ensures) in
    is_front file front _ (length c.split_at_mut-front.result.1.now) c.min.result k
    (piece (omega (arith, size, k)) ∙ ap (λ (n : ℕ). take n file) size)
    (ap (λ (t : List ℕ). front ++ t) (c.fill.ensures.after (λ y e. e)))
    (omega (
      arith,
      length-append front c.fill.new.self,
      c.read_filled.auto.into,
      size,
      c.told-room,
      c.split_at_mut-front.ensures.back_len,
      c.fill.auto.self,
    ))) c.in_ok-read_filled.ensures.bytes

pub returns-clause-exact : goal.returns-clause-exact
returns-clause-exact g c =
    let front = c.read_filled.new.into in
    let n = c.in_ok-read_filled.field-0 in
    let long = length c.split_at_mut-front.result.1.now in
    let size = c.split_at_mut-front.ensures.front_len in
    OfFile-map _ _ _ _ (λ file both. is_filled_front file front _ c.args.size n c.min.result
    (omega (arith, c.min.ensures))
    (both.0 ∙ ap (λ (k : ℕ). min k (length file - 0)) size)
    both.1
    (c.in_ok-read_filled.ensures.rest ∙ ap (λ (k : ℕ). replicate (k - n) 0) size)
    (ap (λ (t : List ℕ). front ++ t) (c.fill.ensures.after (λ y e. e)
    ∙ ap (λ (k : ℕ). replicate k 0) (omega (
      arith,
      size,
      c.told-room,
      c.split_at_mut-front.ensures.back_len,
      c.fill.auto.self,
    )))))
    (OfFile-both _ _ _ _ c.in_ok-read_filled.ensures.count c.in_ok-read_filled.ensures.front)
