use Rattle.mr_tool.proofs.program.gives_digests.Goals as goal

pub returns-clause-sized : goal.returns-clause-sized
returns-clause-sized g c =
    (g.met.H.Hashes g.world.𝓛 g.world.𝓜 g.world.𝓡 ((λ s x. x), (λ x. x), (λ x. x), λ x. x)).sized

pub returns-clause-bytes : goal.returns-clause-bytes
returns-clause-bytes g c =
    (g.met.H.Hashes g.world.𝓛 g.world.𝓜 g.world.𝓡 ((λ s x. x), (λ x. x), (λ x. x), λ x. x)).bytes
