use Rattle.mr_store.proofs.opening.are_sized.Goals as goal

pub returns : goal.returns
returns g c = g.met.H.Hashes.sized
