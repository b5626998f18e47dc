use Rattle.std.specs.Prelude.{IsSome}
use Rattle.mr_outside.specs.Told.{TakesBytes, TakesFront}
use Rattle.mr_tree.specs.Digest.{by}
use Rattle.mr_prove.specs.private.Parts.{part_at, proof_at}
use Rattle.mr_prove.proofs.Steps.{on_err}
use Rattle.mr_prove.proofs.Whole.{whole_with_root, front_with_root, whole_of_empty, front_of_head, fetched_with_root, ok_through, err_through}
use Rattle.mr_prove.proofs.proving.write_proof.Goals as goal

pub returns-in_err-write_head-clause-front : goal.returns-in_err-write_head-clause-front
returns-in_err-write_head-clause-front g c =
    let s = g.N.Nodes.stands c.args.nodes.now in
    on_err c.from_residual.result (IsSome s.tree → TakesFront (g.W.Sink.state c.args.out.now)
    (g.W.Sink.state c.write_head.new.out) (proof_at (by s.version g.N.Hash.Hashes.of) s.batch
    (g.A.AsQuestion.question c.args.q.now) s.tree))
    (front_of_head g.N.Hash.Hashes.of s c.top-top.result (g.A.AsQuestion.question c.args.q.now) c.args.radius
    c.head_of-head.result
    (g.W.Sink.state c.args.out.now) (g.W.Sink.state c.write_head.new.out) c.top-top.ensures.is c.requires.right
    c.head_of-head.ensures
    c.write_head.ensures.front)

pub returns-in-None-clause-whole : goal.returns-in-None-clause-whole
returns-in-None-clause-whole g c =
    whole_of_empty g.N.Hash.Hashes.of (g.N.Nodes.stands c.args.nodes.now) c.top-top.result
    (g.A.AsQuestion.question c.args.q.now) c.args.radius
    c.head_of-head.result
    (g.W.Sink.state c.args.out.now) (g.W.Sink.state c.write_head.new.out) c.top-top.ensures.is c.requires.right
    c.in-None.is
    c.head_of-head.ensures c.in_ok-write_head.ensures.whole

pub returns-in-Some-clause-whole : goal.returns-in-Some-clause-whole
returns-in-Some-clause-whole g c =
    let s = g.N.Nodes.stands c.args.nodes.now in
    let hash = g.N.Hash.Hashes.of in
    let q = g.A.AsQuestion.question c.args.q.now in
    let part = part_at (by s.version hash) (q.way c.head_of-head.result.radius) (s.node c.in-Some.root.id) in
    ok_through c.write_part.result
    (IsSome s.tree → TakesBytes (g.W.Sink.state c.write_head.new.out) (g.W.Sink.state c.write_part.new.out) part)
    (IsSome s.tree → TakesBytes (g.W.Sink.state c.args.out.now) (g.W.Sink.state c.write_part.new.out)
    (proof_at (by s.version hash) s.batch q s.tree))
    (whole_with_root hash s c.top-top.result c.in-Some.root q c.args.radius c.head_of-head.result c.top-top.ensures.is
    c.requires.right c.in-Some.is c.head_of-head.ensures (g.W.Sink.state c.args.out.now)
    (g.W.Sink.state c.write_head.new.out) (g.W.Sink.state c.write_part.new.out) c.in_ok-write_head.ensures.whole)
    (rw c.in-Some.root-is at c.write_part.ensures.whole)

pub returns-in-Some-clause-front : goal.returns-in-Some-clause-front
returns-in-Some-clause-front g c =
    let s = g.N.Nodes.stands c.args.nodes.now in
    let hash = g.N.Hash.Hashes.of in
    let q = g.A.AsQuestion.question c.args.q.now in
    let part = part_at (by s.version hash) (q.way c.head_of-head.result.radius) (s.node c.in-Some.root.id) in
    err_through c.write_part.result
    (IsSome s.tree → TakesFront (g.W.Sink.state c.write_head.new.out) (g.W.Sink.state c.write_part.new.out) part)
    (IsSome s.tree → TakesFront (g.W.Sink.state c.args.out.now) (g.W.Sink.state c.write_part.new.out)
    (proof_at (by s.version hash) s.batch q s.tree))
    (front_with_root hash s c.top-top.result c.in-Some.root q c.args.radius c.head_of-head.result c.top-top.ensures.is
    c.requires.right c.in-Some.is c.head_of-head.ensures (g.W.Sink.state c.args.out.now)
    (g.W.Sink.state c.write_head.new.out) (g.W.Sink.state c.write_part.new.out) c.in_ok-write_head.ensures.whole)
    (rw c.in-Some.root-is at c.write_part.ensures.front)

pub returns-in-Some-clause-fetched : goal.returns-in-Some-clause-fetched
returns-in-Some-clause-fetched g c =
    fetched_with_root g.N.Hash.Hashes.of (g.N.Nodes.stands c.args.nodes.now) c.top-top.result c.in-Some.root
    (g.A.AsQuestion.question c.args.q.now) c.args.radius c.head_of-head.result c.top-top.ensures.is c.requires.right
    c.in-Some.is c.head_of-head.ensures (g.N.Nodes.fetches c.args.nodes.now)
    (g.N.Nodes.fetches c.write_part.new.nodes) (rw c.in-Some.root-is at c.write_part.ensures.fetched)
