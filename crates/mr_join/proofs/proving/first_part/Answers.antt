use Rattle.std.proofs.Common.{◌≡◌, ◌∷◌, [], List, ℕ, Ok, subst}
use Rattle.mr_clash.specs.Finding.{root_at}
use Rattle.mr_count.specs.Chosen.{verdict_for}
use Rattle.mr_join.specs.Meets.{meets_way}
use Rattle.mr_join.specs.Verdict.{letter}
use Rattle.mr_join.proofs.Written.{first_given, part_few}
use Rattle.mr_join.proofs.proving.first_part.Goals as goal

pub returns-clause-given : goal.returns-clause-given
returns-clause-given g c =
    let hash = g.N.Hash.Hashes.of in
    let honest = c.honest_proof_is_accepted.ensures in
    let ms = c.in_ok-meets.meets in
    first_given hash (g.N.Nodes.stands c.args.nodes.now) c.top-top.result c.args.rect.now ms
    c.in_ok-part.part.bytes.items c.in_ok-taken.taken
    (record { accepts = honest.accepted; honest = honest.honest; quiet = honest.quiet }) c.top-top.ensures.is c.requires
    c.is_word.ensures c.in_ok-meets.ensures
    (subst (λ (bytes : List ℕ). verdict_for hash (hash (root_at c.top-top.result)) letter (meets_way ms) bytes
    ≡ Ok c.in_ok-taken.taken) c.deref.ensures.value c.in_ok-taken.ensures)
    c.in_ok-part.ensures.written

pub returns-clause-fetched : goal.returns-clause-fetched
returns-clause-fetched g c =
    part_few g.N.Hash.Hashes.of (g.N.Nodes.stands c.args.nodes.now) c.in_ok-meets.meets (c.args.rect.now ∷ [])
    (g.N.Nodes.fetches c.args.nodes.now) (g.N.Nodes.fetches c.part_of.new.nodes) c.requires c.in_ok-meets.ensures
    c.in_ok-part.ensures.fetched

pub returns-in_err-part-clause-fetched : goal.returns-in_err-part-clause-fetched
returns-in_err-part-clause-fetched g c =
    part_few g.N.Hash.Hashes.of (g.N.Nodes.stands c.args.nodes.now) c.in_ok-meets.meets (c.args.rect.now ∷ [])
    (g.N.Nodes.fetches c.args.nodes.now) (g.N.Nodes.fetches c.part_of.new.nodes) c.requires c.in_ok-meets.ensures
    c.in_err-part.ensures.fetched

pub returns-in_err-taken-clause-fetched : goal.returns-in_err-taken-clause-fetched
returns-in_err-taken-clause-fetched g c =
    part_few g.N.Hash.Hashes.of (g.N.Nodes.stands c.args.nodes.now) c.in_ok-meets.meets (c.args.rect.now ∷ [])
    (g.N.Nodes.fetches c.args.nodes.now) (g.N.Nodes.fetches c.part_of.new.nodes) c.requires c.in_ok-meets.ensures
    c.in_ok-part.ensures.fetched
