use Rattle.std.proofs.Common.{◌≤◌, ◌+◌, sym, subst}
use Rattle.std.specs.Prelude.{IsSome, OnOk, OnErr}
use Rattle.mr_outside.specs.Told.{TakesBytes, TakesFront}
use Rattle.mr_tree.specs.Digest.{by}
use Rattle.mr_tree.specs.Nodes.{MapModel}
use Rattle.mr_query.specs.Layers.{asked_layers}
use Rattle.mr_proof.specs.Tight.{question}
use Rattle.mr_prove.specs.private.Parts.{proof_at, all_opened_at, IsRight}
use Rattle.mr_prove.proofs.Whole.{whole_told, front_told, fetched_told, front_none, query_version, near_radius, right_near}
use Rattle.mr_prove.proofs.Sums.{all_fetched, some_fetched}
use Rattle.mr_prove.proofs.proving.prove_nearest.Goals as goal

pub returns-in_err-radius-clause-fetched : goal.returns-in_err-radius-clause-fetched
returns-in_err-radius-clause-fetched g c =
    let s = g.N.Nodes.stands c.args.nodes.now in
    some_fetched (by s.version g.N.Hash.Hashes.of) c.args.q.now c.args.around.now s.tree
    (g.N.Nodes.fetches c.args.nodes.now) (g.N.Nodes.fetches c.kth_distance.new.nodes) c.requires.around
    c.kth_distance.ensures.fetched

pub returns-in_err-radius-clause-front : goal.returns-in_err-radius-clause-front
returns-in_err-radius-clause-front g c =
    let s = g.N.Nodes.stands c.args.nodes.now in
    front_none (by s.version g.N.Hash.Hashes.of) s.batch (question c.args.q.now) s.tree
    (g.W.Sink.state c.args.out.now) c.from_residual.result

pub returns-clause-written : goal.returns-clause-written
returns-clause-written g c =
    let s = g.N.Nodes.stands c.args.nodes.now in
    let hash = g.N.Hash.Hashes.of in
    let q = question c.args.q.now in
    let same = g.met.N.Nodes.kept_stands c.args.nodes.now c.kth_distance.new.nodes c.kth_distance.ensures.kept in
    whole_told (by s.version hash) s.batch q s.tree (g.W.Sink.state c.args.out.now)
    (g.W.Sink.state c.write_proof.new.out) c.write_proof.result
    (subst (λ (s : MapModel). OnOk c.write_proof.result (IsSome s.tree → TakesBytes (g.W.Sink.state c.args.out.now)
    (g.W.Sink.state c.write_proof.new.out) (proof_at (by s.version hash) s.batch q s.tree))) same
    c.write_proof.ensures.whole)

pub returns-clause-front : goal.returns-clause-front
returns-clause-front g c =
    let s = g.N.Nodes.stands c.args.nodes.now in
    let hash = g.N.Hash.Hashes.of in
    let q = question c.args.q.now in
    let same = g.met.N.Nodes.kept_stands c.args.nodes.now c.kth_distance.new.nodes c.kth_distance.ensures.kept in
    front_told (by s.version hash) s.batch q s.tree (g.W.Sink.state c.args.out.now)
    (g.W.Sink.state c.write_proof.new.out) c.write_proof.result
    (subst (λ (s : MapModel). OnErr c.write_proof.result (IsSome s.tree → TakesFront (g.W.Sink.state c.args.out.now)
    (g.W.Sink.state c.write_proof.new.out) (proof_at (by s.version hash) s.batch q s.tree))) same
    c.write_proof.ensures.front)

pub returns-clause-fetched : goal.returns-clause-fetched
returns-clause-fetched g c =
    let s = g.N.Nodes.stands c.args.nodes.now in
    let hash = g.N.Hash.Hashes.of in
    let q = question c.args.q.now in
    let same = g.met.N.Nodes.kept_stands c.args.nodes.now c.kth_distance.new.nodes c.kth_distance.ensures.kept in
    all_fetched (by s.version hash) c.args.q.now c.args.around.now s.tree (g.N.Nodes.fetches c.args.nodes.now)
    (g.N.Nodes.fetches c.kth_distance.new.nodes) (g.N.Nodes.fetches c.write_proof.new.nodes) c.requires.around
    c.kth_distance.ensures.fetched
    (fetched_told (by s.version hash) q s.tree (g.N.Nodes.fetches c.kth_distance.new.nodes)
    (g.N.Nodes.fetches c.write_proof.new.nodes)
    (subst (λ (s : MapModel). IsSome s.tree → g.N.Nodes.fetches c.write_proof.new.nodes ≤ g.N.Nodes.fetches
    c.kth_distance.new.nodes + all_opened_at (by s.version hash) q s.tree) same c.write_proof.ensures.fetched))

pub write_proof-requires-clause-version : goal.write_proof-requires-clause-version
write_proof-requires-clause-version g c =
    query_version c.args.q.now.shape (g.N.Nodes.stands c.kth_distance.new.nodes).version

pub write_proof-requires-clause-right : goal.write_proof-requires-clause-right
write_proof-requires-clause-right g c =
    let same = g.met.N.Nodes.kept_stands c.args.nodes.now c.kth_distance.new.nodes c.kth_distance.ensures.kept in
    subst (λ (s : MapModel). IsRight (question c.args.q.now) s c.in_ok-radius.radius) (sym same)
    (right_near (question c.args.q.now) (g.N.Nodes.stands c.args.nodes.now) c.args.around.now c.in_ok-radius.radius
    c.requires.around c.in_ok-radius.ensures.radius)

pub write_proof-requires-clause-fits : goal.write_proof-requires-clause-fits
write_proof-requires-clause-fits g c =
    near_radius (asked_layers c.args.q.now) c.args.q.now.shape c.args.around.now c.in_ok-radius.radius
    c.requires.around c.in_ok-radius.ensures.low
