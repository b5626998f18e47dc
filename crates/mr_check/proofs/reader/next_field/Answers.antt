use Rattle.std.proofs.Common.{◌≡◌, ℕ, ◌+◌, ◌-◌, ◌≤◌, ◌<◌, ◌++◌, List, length, take, drop, Option, sym, ap, ◌∙◌, subst, arith}
use Rattle.std.proofs.lemmas.List.{length-append, take-append-drop}
use Rattle.mr_proof.specs.declared.want.Want.{Want}
use Rattle.mr_proof.specs.Limits.{place_limit}
use Rattle.mr_proof.specs.Fields.{size_of, field_of}
use Rattle.mr_check.specs.private.Stages.{size_in, room_in}
use Rattle.mr_check.proofs.Turning.{turn_more, turn_broken, turn_whole, takes_some}
use Rattle.mr_check.proofs.reader.next_field.Goals as goal

pub returns-then-piece-missing-clause-turns : goal.returns-then-piece-missing-clause-turns
returns-then-piece-missing-clause-turns g c = λ s at.
    let within : c.args.r.now.at + size_of c.args.want.now ≤ place_limit = subst
    (λ (z : Option Want). c.args.r.now.at + size_in z ≤ place_limit) c.requires.wants c.requires.fits.place in
    let less : length (c.args.r.now.held ++ c.args.piece.now) < size_of c.args.want.now = omega (
      arith,
      c.if-piece-missing.true,
      c.size-size.ensures.value,
      ap length c.as_slice.ensures.bytes,
      length-append c.args.r.now.held c.args.piece.now,
    ) in
    turn_more g.H.Hashes.of g.H.Hashes.holds (g.A.AsQuestion.question c.args.q.now) c.args.r.now c.args.want.now s
    c.args.piece.now c.put.new.self
    c.requires.wants within
    c.put.ensures less at

pub returns-in-Err-clause-turns : goal.returns-in-Err-clause-turns
returns-in-Err-clause-turns g c = λ s at.
    let within : c.args.r.now.at + size_of c.args.want.now ≤ place_limit = subst
    (λ (z : Option Want). c.args.r.now.at + size_in z ≤ place_limit) c.requires.wants c.requires.fits.place in
    let n = c.size-size.result - length c.as_slice.result.now in
    let front = c.split_at.ensures.front in
    let held : length c.args.r.now.held < size_of c.args.want.now =
    subst (λ (z : Option Want). length c.args.r.now.held < room_in z) c.requires.wants c.requires.fits.held in
    let long : length (c.args.r.now.held ++ take n c.args.piece.now) ≡ size_of c.args.want.now = omega (
      arith,
      c.if-piece-missing.false,
      c.size-size.ensures.value,
      ap length c.as_slice.ensures.bytes,
      c.split_at.ensures.front_len,
      ap length front,
      length-append c.args.r.now.held (take n c.args.piece.now),
    ) in
    let broken = ap (λ (f : List ℕ). field_of c.args.want.now (c.args.r.now.held ++ f)) (sym front)
    ∙ sym c.in-Err.ensures.exact in
    rw c.fail.ensures.value (turn_broken g.H.Hashes.of g.H.Hashes.holds (g.A.AsQuestion.question c.args.q.now)
    c.args.r.now c.args.want.now s
    (take n c.args.piece.now) (drop n c.args.piece.now) c.args.piece.now c.in-Err.rule c.requires.wants within
    (take-append-drop n c.args.piece.now) long broken at)

pub returns-in-Ok-clause-takes : goal.returns-in-Ok-clause-takes
returns-in-Ok-clause-takes g c =
    let held : length c.args.r.now.held < size_of c.args.want.now =
    subst (λ (z : Option Want). length c.args.r.now.held < room_in z) c.requires.wants c.requires.fits.held in
    takes_some (c.size-size.result - length c.as_slice.result.now) (length c.args.piece.now) c.behind_field.result
    c.behind_field.ensures.takes
    (omega (arith, c.size-size.ensures.value, ap length c.as_slice.ensures.bytes))
    (omega (arith, c.if-piece-missing.false))

pub returns-in-Ok-clause-turns : goal.returns-in-Ok-clause-turns
returns-in-Ok-clause-turns g c = λ s at.
    let within : c.args.r.now.at + size_of c.args.want.now ≤ place_limit = subst
    (λ (z : Option Want). c.args.r.now.at + size_in z ≤ place_limit) c.requires.wants c.requires.fits.place in
    let n = c.size-size.result - length c.as_slice.result.now in
    let held : length c.args.r.now.held < size_of c.args.want.now =
    subst (λ (z : Option Want). length c.args.r.now.held < room_in z) c.requires.wants c.requires.fits.held in
    let size : length c.args.r.now.held + n ≡ size_of c.args.want.now = omega
    (arith, c.size-size.ensures.value, ap length c.as_slice.ensures.bytes) in
    let value = ap (λ (f : List ℕ). field_of c.args.want.now (c.args.r.now.held ++ f)) (sym c.split_at.ensures.front)
    ∙ sym c.in-Ok.ensures.exact in
    turn_whole g.H.Hashes.of g.H.Hashes.holds (g.A.AsQuestion.question c.args.q.now) c.args.r.now c.behind_field.new.r
    c.args.want.now s
    c.args.piece.now n c.size-size.result
    c.in-Ok.field c.behind_field.result c.requires.wants within
    (omega (arith, c.size-size.ensures.value, ap length c.as_slice.ensures.bytes))
    (omega (arith, c.if-piece-missing.false)) size c.size-size.ensures.value value c.behind_field.ensures.behind at
