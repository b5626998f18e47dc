use Rattle.std.proofs.Common.{subst}
use Rattle.mr_proof.specs.declared.head.Kind.{Kind}
use Rattle.mr_proof.specs.Spelling.{part_bytes}
use Rattle.std.specs.Prelude.{option_map}
use Rattle.mr_clash.specs.private.Steps.{pair_of, ComparedMap}
use Rattle.mr_clash.proofs.Roots.{map_compared}
use Rattle.mr_clash.proofs.auditing.compare_map.Goals as goal

pub returns-clause-compared : goal.returns-clause-compared
returns-clause-compared g c = λ h P kind spelled held.
    let said = c.read_head-said.ensures h (part_bytes h.version P) kind spelled.head spelled.whole in
    let node = c.in_ok-node.ensures.walked h P c.args.proof.now spelled said.version said.count said.level
    said.behind in
    subst (λ (k : Kind). ComparedMap g.N.Hash.Hashes.of (g.N.Nodes.stands c.args.nodes.now) k c.args.proof.now
    (option_map pair_of c.first_of.result)) kind
    (map_compared g.N.Hash.Hashes.of (g.N.Nodes.stands c.args.nodes.now) c.args.top.now h P c.args.proof.now
    c.in_ok-node.node (option_map pair_of c.in_ok-roots.roots) (option_map pair_of c.first_of.result) c.requires
    spelled held (c.in_ok-roots.ensures g.N.Hash.Hashes.of h P said.version said.batch said.count node.root) node
    c.first_of.ensures)

pub returns-in_err-node-clause-fetched : goal.returns-in_err-node-clause-fetched
returns-in_err-node-clause-fetched g c = λ h P kind spelled.
    let said = c.read_head-said.ensures h (part_bytes h.version P) kind spelled.head spelled.whole in
    c.in_err-node.ensures.fetched h P c.args.proof.now spelled said.version said.count said.level said.behind

pub returns-in_err-roots-clause-fetched : goal.returns-in_err-roots-clause-fetched
returns-in_err-roots-clause-fetched g c = λ h P kind spelled.
    let said = c.read_head-said.ensures h (part_bytes h.version P) kind spelled.head spelled.whole in
    c.in_ok-node.ensures.fetched h P c.args.proof.now spelled said.version said.count said.level said.behind

pub returns-clause-fetched : goal.returns-clause-fetched
returns-clause-fetched g c = λ h P kind spelled.
    let said = c.read_head-said.ensures h (part_bytes h.version P) kind spelled.head spelled.whole in
    c.in_ok-node.ensures.fetched h P c.args.proof.now spelled said.version said.count said.level said.behind
