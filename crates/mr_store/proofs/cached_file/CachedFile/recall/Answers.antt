use Rattle.std.proofs.Common.{subst, sym}
use Rattle.mr_store.specs.CachedFile.{entries_of}
use Rattle.mr_store.specs.Kept.{IsHeld}
use Rattle.mr_store.proofs.Caches.{found_there, held_promoted}
use Rattle.mr_store.proofs.cached_file.CachedFile.recall.Goals as goal

pub returns-clause-caches : goal.returns-clause-caches
returns-clause-caches g c = λ is.
    subst (λ es. IsHeld es c.args.child.now) (sym c.touch.ensures.uses)
    (held_promoted (entries_of c.args.self.now) c.args.child.now c.find.new.into
    (found_there (entries_of c.args.self.now) c.args.child.now c.find.result c.find.new.into c.if-not-find.false
    c.find.ensures))
