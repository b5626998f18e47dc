use Rattle.std.proofs.Common.{◌≡◌, ℕ, List, ◌++◌, take, false}
use Rattle.mr_pages.specs.Faults.{repeats, numbers_of}
use Rattle.mr_pages.specs.Walking.{Saw}
use Rattle.mr_pages.proofs.visited.Visited.meet.Given as goal

-- no number of the records so far came twice
abbrev pub invariant-loop-record : goal.invariant-loop-record
invariant-loop-record l = record {
  same : l.self.reached ≡ l.fn.self.reached;
  told : (pages : ℕ) (ps ns : List ℕ) → Saw pages l.fn.self ps ns → record {
    none : repeats ns (numbers_of (take l.record-index l.records)) ≡ false;
    saw : Saw pages l.self ps (ns ++ numbers_of (take l.record-index l.records));
  };
}
