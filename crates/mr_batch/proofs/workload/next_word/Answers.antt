use Rattle.rand_xoshiro.specs.SplitMix64.{mix_u64}
use Rattle.mr_batch.specs.Workload.{words}
use Rattle.mr_batch.proofs.Workloads.{first_and_rest}
use Rattle.mr_batch.proofs.workload.next_word.Goals as goal

pub returns : goal.returns
unfolding words
returns c k = first_and_rest mix_u64 k _ _ _ c.next_word.ensures
