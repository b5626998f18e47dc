use Rattle.std.proofs.Common.{◌≡◌, ◌-◌, ◌≤◌, ◌++◌, All, length}
use Rattle.std.specs.Vec.{vec_len, vec_capacity}
use Rattle.mr_query.specs.Word.{IsAskable}
use Rattle.mr_batch.specs.Workload.{words, of_each, query_of_word, generated_queries}
use Rattle.mr_batch.proofs.workload.generate_queries.Given as goal

abbrev pub invariant-loop-place : goal.invariant-loop-place
invariant-loop-place l = record {
  exact : l.queries.items ++ of_each query_of_word l.place (words (l.n - l.place) l.generator)
      ≡ generated_queries l.n l.start;
  each : All IsAskable l.queries.items;
  count : length l.queries.items ≡ l.place;
  len : vec_len l.queries ≡ l.place;
  room : l.n ≤ vec_capacity l.queries;
}
