use Rattle.std.proofs.Common.{Some, sym, ap, ◌∙◌}
use Rattle.mr_tree.specs.Digest.{by}
use Rattle.mr_query.specs.Layers.{asked_layers}
use Rattle.mr_query.specs.Word.{asks}
use Rattle.mr_query.specs.declared.query.Shape.TheVariants.{Window}
use Rattle.mr_proof.specs.Tight.{around_in}
use Rattle.mr_prove.specs.Causes.{rounds_for}
use Rattle.mr_prove.proofs.Whole.{written_for, front_for, fetched_once, with_shape, may_asks}
use Rattle.mr_prove.proofs.proving.prove.Goals as goal

pub prove_window-requires : goal.prove_window-requires
prove_window-requires g c =
    may_asks c.args.q.now (Window c.in-Window.window) (g.N.Nodes.stands c.args.nodes.now).version c.requires.may_come

pub returns-in-Window-clause-written : goal.returns-in-Window-clause-written
returns-in-Window-clause-written g c =
    let s = g.N.Nodes.stands c.args.nodes.now in
    let q = c.args.q.now in
    written_for (by s.version g.N.Hash.Hashes.of) s.batch s.tree q (asks (Window c.in-Window.window) q.mask)
    (g.W.Sink.state c.args.out.now) (g.W.Sink.state c.prove_window.new.out) c.prove_window.result
    (with_shape q (Window c.in-Window.window) c.in-Window.is) c.prove_window.ensures.written

pub returns-in-Window-clause-front : goal.returns-in-Window-clause-front
returns-in-Window-clause-front g c =
    let s = g.N.Nodes.stands c.args.nodes.now in
    let q = c.args.q.now in
    front_for (by s.version g.N.Hash.Hashes.of) s.batch s.tree q (asks (Window c.in-Window.window) q.mask)
    (g.W.Sink.state c.args.out.now) (g.W.Sink.state c.prove_window.new.out) c.prove_window.result
    (with_shape q (Window c.in-Window.window) c.in-Window.is) c.prove_window.ensures.front

pub returns-in-Window-clause-fetched : goal.returns-in-Window-clause-fetched
returns-in-Window-clause-fetched g c =
    let s = g.N.Nodes.stands c.args.nodes.now in
    let q = c.args.q.now in
    fetched_once (by s.version g.N.Hash.Hashes.of) s.tree q (asks (Window c.in-Window.window) q.mask)
    (g.N.Nodes.fetches c.args.nodes.now) (g.N.Nodes.fetches c.prove_window.new.nodes)
    (with_shape q (Window c.in-Window.window) c.in-Window.is) (ap rounds_for c.in-Window.is)
    c.prove_window.ensures.fetched

pub prove_nearest-requires-clause-around : goal.prove_nearest-requires-clause-around
prove_nearest-requires-clause-around g c =
    ap (around_in (asked_layers c.args.q.now)) c.in-Nearest.is
    ∙ (λ i. Some (record { center = c.in-Nearest.center; k = c.in-Nearest.k; layers = sym c.layers.ensures i }))
