use Rattle.std.proofs.Common.{◌≡◌, ◌+◌, ℕ, List, length, take}
use Rattle.mr_pack.specs.Repeats.{occurrences}
use Rattle.mr_pack.specs.private.Remains.{IsIndexed, AreNumbered, picked}
use Rattle.mr_pack.proofs.gathering.take.Given as goal

abbrev pub invariant-loop-number : goal.invariant-loop-number
invariant-loop-number g l = record {
  indexed : IsIndexed (length l.remains.items.items) l.remains.numbers.items l.remains.places.items;
  fewer : (n : ℕ) → occurrences n (take l.number-index l.numbers) + occurrences n l.remains.numbers.items
      ≡ occurrences n l.fn.remains.numbers.items;
  items : (all : List g.row.T.Denot) (d : g.row.T.Denot)
      → AreNumbered all l.fn.remains.items.items l.fn.remains.numbers.items
      → l.taken.items ≡ picked all d (take l.number-index l.numbers);
  numbered : (all : List g.row.T.Denot)
      → AreNumbered all l.fn.remains.items.items l.fn.remains.numbers.items
      → AreNumbered all l.remains.items.items l.remains.numbers.items;
}
