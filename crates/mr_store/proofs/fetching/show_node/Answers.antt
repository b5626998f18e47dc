use Rattle.std.proofs.Common.{ap, refl, subst, sym, arith}
use Rattle.mr_store.specs.CachedFile.{entries_of}
use Rattle.mr_store.specs.Kept as cache
use Rattle.mr_store.proofs.Caches.{found_there, not_found, held_promoted}
use Rattle.mr_store.proofs.Stores.{are_shown, shows_found, store_touched}
use Rattle.mr_store.proofs.fetching.show_node.Goals as goal

pub find-requires : goal.find-requires
find-requires g c = are_shown g.H.Hashes.of c.args.file.now c.args.head.now c.requires.store

pub read_and_keep-requires-clause-missed : goal.read_and_keep-requires-clause-missed
read_and_keep-requires-clause-missed g c =
    not_found (entries_of c.args.file.now) (entries_of c.args.file.now) c.args.child.now c.find.result c.find.new.into
    c.if-find.false c.find.ensures (λ e. refl)

pub returns-then-find-clause-store : goal.returns-then-find-clause-store
returns-then-find-clause-store g c =
    store_touched g.H.Hashes.of c.args.file.now c.args.head.now c.requires.store c.args.child.now c.requires.may
    c.touch.new.self c.touch.ensures.only c.touch.ensures.stays

pub returns-then-find-clause-same : goal.returns-then-find-clause-same
returns-then-find-clause-same g c = c.touch.ensures.only.file

pub returns-then-find-clause-shows : goal.returns-then-find-clause-shows
returns-then-find-clause-shows g c =
    shows_found g.H.Hashes.of c.args.file.now c.args.head.now c.requires.store c.args.child.now c.requires.may
    c.find.new.into
    (found_there (entries_of c.args.file.now) c.args.child.now c.find.result c.find.new.into c.if-find.true
    c.find.ensures)

pub returns-then-find-clause-caches : goal.returns-then-find-clause-caches
returns-then-find-clause-caches g c =
    subst (λ es. cache.IsHeld es c.args.child.now) (sym c.touch.ensures.uses)
    (held_promoted (entries_of c.args.file.now) c.args.child.now c.find.new.into
    (found_there (entries_of c.args.file.now) c.args.child.now c.find.result c.find.new.into c.if-find.true
    c.find.ensures))

pub returns-then-find-clause-quiet : goal.returns-then-find-clause-quiet
returns-then-find-clause-quiet g c = ap (λ x. (g.S.Shelf.state x).faults) c.touch.ensures.only.shelf

pub returns-then-find-clause-one : goal.returns-then-find-clause-one
returns-then-find-clause-one g c =
    let same = ap (λ x. g.S.Shelf.state x) c.touch.ensures.only.shelf in
    record {
      files = ap (λ s. s.files) same;
      faults = omega (arith, ap (λ s. s.faults) same);
      more = omega (arith, ap (λ s. s.reads) same);
      one = omega (arith, ap (λ s. s.reads) same);
    }

pub returns-then-find-clause-held : goal.returns-then-find-clause-held
returns-then-find-clause-held g c = λ held. (refl, ap (λ x. (g.S.Shelf.state x).reads) c.touch.ensures.only.shelf)

pub returns-then-find-clause-uses : goal.returns-then-find-clause-uses
returns-then-find-clause-uses g c = λ held. c.touch.ensures.uses

pub returns-then-find-clause-still : goal.returns-then-find-clause-still
returns-then-find-clause-still g c = λ told small. ap (λ x. (g.S.Shelf.state x).reads) c.touch.ensures.only.shelf
