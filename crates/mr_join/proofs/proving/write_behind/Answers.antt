use Rattle.std.proofs.Common.{◌++◌}
use Rattle.std.specs.Prelude.{OnErr}
use Rattle.mr_outside.specs.Told.{TakesFront}
use Rattle.mr_tree.specs.Digest.{by}
use Rattle.mr_tree.specs.declared.tree.Tree.{Tree}
use Rattle.mr_proof.specs.Honest.{proof_for}
use Rattle.mr_count.specs.Chosen.{chosen}
use Rattle.mr_join.specs.Meets.{meets_way}
use Rattle.mr_join.specs.Verdict.{letter}
use Rattle.mr_join.proofs.Written.{for_all, for_each, on_err, on_err_then, front_more, front_behind}
use Rattle.mr_join.proofs.proving.write_behind.Goals as goal

pub returns-in_err-write_all-clause-front : goal.returns-in_err-write_all-clause-front
returns-in_err-write_all-clause-front g c =
    let s = g.N.Nodes.stands c.args.nodes.now in
    let from = g.W.Sink.state c.args.out.now in
    let to = g.W.Sink.state c.write_all.new.out in
    let r = c.from_residual.result in
    for_all s.tree (λ (t : Tree). OnErr r (TakesFront from to (c.args.front.now
    ++ proof_for (by s.version g.N.Hash.Hashes.of) (chosen letter (meets_way c.args.meets.now)) t s.batch))) (λ
    (t : Tree).
    let proof = proof_for (by s.version g.N.Hash.Hashes.of) (chosen letter (meets_way c.args.meets.now)) t s.batch in
    on_err r (TakesFront from to (c.args.front.now ++ proof))
    (front_more from to c.args.front.now proof c.write_all.ensures.front))

pub returns-clause-front : goal.returns-clause-front
returns-clause-front g c =
    let s = g.N.Nodes.stands c.args.nodes.now in
    let from = g.W.Sink.state c.args.out.now in
    let mid = g.W.Sink.state c.write_all.new.out in
    let to = g.W.Sink.state c.prove_choice.new.out in
    for_each s.tree _ _ (λ (t : Tree).
    let proof = proof_for (by s.version g.N.Hash.Hashes.of) (chosen letter (meets_way c.args.meets.now)) t s.batch in
    on_err_then c.prove_choice.result (TakesFront mid to proof) (TakesFront from to (c.args.front.now ++ proof))
    (front_behind from mid to c.args.front.now proof c.in_ok-write_all.ensures.whole))
    c.prove_choice.ensures.front
