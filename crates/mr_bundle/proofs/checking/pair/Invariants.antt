use Rattle.std.proofs.Common.{◌≡◌, map, take}
use Rattle.std.specs.Prelude.{All}
use Rattle.mr_query.specs.Word.{IsAskable}
use Rattle.mr_bundle.specs.Verdicts.{asked, asked_values}
use Rattle.mr_bundle.specs.declared.checking.Asked.{Asked}
use Rattle.mr_bundle.proofs.checking.pair.Given as goal

-- the parts so far
abbrev pub invariant-loop-i : goal.invariant-loop-i
invariant-loop-i l =
    (map asked_values l.all.items ≡ take l.i (asked l.queries l.bundle l.parts))
    × All (λ (one : Asked). IsAskable one.query.now) l.all.items
