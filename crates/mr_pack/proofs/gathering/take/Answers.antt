use Rattle.std.proofs.Common.{◌+◌, refl, ap, sym, ◌∙◌, arith, get_or}
use Rattle.std.proofs.lemmas.List.{take_all}
use Rattle.mr_pack.specs.Repeats.{occurrences}
use Rattle.mr_pack.specs.private.Remains.{picked}
use Rattle.mr_pack.proofs.Remains.{is_there, more_taken, more_picked}
use Rattle.mr_pack.proofs.gathering.take.Goals as goal

pub take_one-requires-clause-there : goal.take_one-requires-clause-there
take_one-requires-clause-there g c =
    let number = get_or c.args.numbers.now c.loop-number.number-index 0 in
    is_there c.loop-number.number-index number c.args.numbers.now c.args.remains.now.numbers.items
    c.loop-number.remains.numbers.items (omega arith) refl (c.requires.there number)
    (c.loop-number.invariant.fewer number)

pub loop-number-preserved : goal.loop-number-preserved
loop-number-preserved g c =
    let i = c.loop-number.number-index in
    record {
      indexed = c.take_one.ensures.indexed;
      fewer = λ n. more_taken n i c.args.numbers.now c.args.remains.now.numbers.items
          c.loop-number.remains.numbers.items c.take_one.new.remains.numbers.items (omega arith)
          (c.loop-number.invariant.fewer n) (c.take_one.ensures.fewer n);
      items = λ all d numbered. more_picked all d i c.args.numbers.now c.loop-number.taken.items c.push.new.self.items
          c.take_one.result (omega arith) (c.loop-number.invariant.items all d numbered)
          (c.take_one.ensures.item all d (c.loop-number.invariant.numbered all numbered))
          c.in_ok-push.ensures.items;
      numbered = λ all numbered. c.take_one.ensures.numbered all (c.loop-number.invariant.numbered all numbered);
    }

pub returns-clause-fewer : goal.returns-clause-fewer
returns-clause-fewer g c = λ n.
    ap (λ ns. occurrences n ns + occurrences n c.loop-number.remains.numbers.items)
    (sym (take_all c.loop-number.number-index c.args.numbers.now (omega arith)))
    ∙ c.loop-number.invariant.fewer n

pub returns-clause-items : goal.returns-clause-items
returns-clause-items g c = λ all d numbered.
    c.loop-number.invariant.items all d numbered
    ∙ ap (picked all d) (take_all c.loop-number.number-index c.args.numbers.now (omega arith))
