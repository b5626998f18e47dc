use Rattle.std.proofs.Common.{◌++◌, ◌∷◌, [], ℕ, List, subst}
use Rattle.mr_outside.specs.Told.{TakesBytes, TakesFront}
use Rattle.mr_tree.specs.Digest.{by}
use Rattle.mr_proof.specs.Honest.{proof_for}
use Rattle.mr_count.specs.Chosen.{chosen}
use Rattle.mr_join.specs.Meets.{meets_way}
use Rattle.mr_join.specs.Verdict.{letter}
use Rattle.mr_join.specs.Accepted.{owned}
use Rattle.mr_join.specs.private.Parts.{alone_bytes}
use Rattle.mr_join.proofs.Written.{for_each, on_ok_then, on_err_then, alone_line, part_few}
use Rattle.mr_join.proofs.proving.write_alone.Goals as goal

pub returns-clause-written : goal.returns-clause-written
returns-clause-written g c =
    let h = g.N.Hash.Hashes.of in
    let v = g.N.Nodes.stands c.args.nodes.now in
    let from = g.W.Sink.state c.args.out.now in
    let to = g.W.Sink.state c.write_behind.new.out in
    let ms = c.in_ok-meets.meets in
    let front : List ℕ = 77 ∷ 82 ∷ 74 ∷ 78 ∷ 0 ∷ [] in
    for_each v.tree _ _ (λ u.
    on_ok_then c.write_behind.result
    (TakesBytes from to (front ++ proof_for (by v.version h) (chosen letter (meets_way ms)) u v.batch))
    (TakesBytes from to (alone_bytes h (owned v u)))
    (subst (TakesBytes from to) (alone_line h v u ms c.requires c.in_ok-meets.ensures))) c.write_behind.ensures.written

pub returns-clause-front : goal.returns-clause-front
returns-clause-front g c =
    let h = g.N.Hash.Hashes.of in
    let v = g.N.Nodes.stands c.args.nodes.now in
    let from = g.W.Sink.state c.args.out.now in
    let to = g.W.Sink.state c.write_behind.new.out in
    let ms = c.in_ok-meets.meets in
    let front : List ℕ = 77 ∷ 82 ∷ 74 ∷ 78 ∷ 0 ∷ [] in
    for_each v.tree _ _ (λ u.
    on_err_then c.write_behind.result
    (TakesFront from to (front ++ proof_for (by v.version h) (chosen letter (meets_way ms)) u v.batch))
    (TakesFront from to (alone_bytes h (owned v u)))
    (subst (TakesFront from to) (alone_line h v u ms c.requires c.in_ok-meets.ensures))) c.write_behind.ensures.front

pub returns-clause-fetched : goal.returns-clause-fetched
returns-clause-fetched g c =
    part_few g.N.Hash.Hashes.of (g.N.Nodes.stands c.args.nodes.now) c.in_ok-meets.meets []
    (g.N.Nodes.fetches c.args.nodes.now) (g.N.Nodes.fetches c.write_behind.new.nodes) c.requires c.in_ok-meets.ensures
    c.write_behind.ensures.fetched
