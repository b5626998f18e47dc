-- What `demo` prints: a map of generated records at batch 0, and 64 generated queries that are
-- proved and checked on it.
use Rattle.std.specs.Prelude.{ℕ, List, ◌++◌, length, sum_by, codes}
use Rattle.mr_tree.specs.Digest.{root}
use Rattle.mr_tree.specs.Tree.{level, records}
use Rattle.mr_tree.specs.declared.tree.Tree.{Tree}
use Rattle.mr_pack.specs.Pack.{pack}
use Rattle.mr_batch.specs.Workload.{generated, generated_queries}
use Rattle.mr_pages.specs.Law.{map_root}
use Rattle.mr_query.specs.Scan.{scan}
use Rattle.mr_query.specs.declared.query.Query.{Query}
use Rattle.mr_proof.specs.Honest.{proof}
use Rattle.mr_plan.specs.First.{first, first_map}
use Rattle.mr_plan.specs.Lines.{count_line, digest_line}

-- how many queries there are
abbrev pub demo_queries : ℕ
demo_queries = 64

-- the lengths of the answers to some queries on a map, added
abbrev pub all_answers : Tree → List Query → ℕ
all_answers t queries = sum_by (λ q. length (scan (records t) q)) queries

-- the lengths of their proofs, added
abbrev pub all_bytes : (List ℕ → List ℕ) → Tree → List Query → ℕ
all_bytes hash t queries = sum_by (λ q. length (proof (first hash) t 0 q)) queries

-- the map: how many records it has, the level of its root node, and its root digest
abbrev pub map_lines : (count level : ℕ) → (root : List ℕ) → List ℕ
map_lines count level root =
    count_line (codes "records") count ++ count_line (codes "level") level
    ++ (codes "root " ++ digest_line root)

-- the queries, all of which are accepted
abbrev pub query_lines : (queries : ℕ) → List ℕ
query_lines queries =
    count_line (codes "queries") queries ++ count_line (codes "accepted") queries

-- the lengths of all answers and of all proofs
abbrev pub total_lines : (answers bytes : ℕ) → List ℕ
total_lines answers bytes = count_line (codes "answers") answers ++ count_line (codes "bytes") bytes

-- what some queries give on a map
unfoldable pub tried_lines : (List ℕ → List ℕ) → (count : ℕ) → Tree → List Query → List ℕ
tried_lines hash count t queries =
    map_lines count (level t) (map_root hash (first_map t 0)) ++ query_lines (length queries)
    ++ total_lines (all_answers t queries) (all_bytes hash t queries)

-- what 64 generated queries give on the map of generated records
unfoldable pub demo_lines : (List ℕ → List ℕ) → (count seed : ℕ) → List ℕ
demo_lines hash count seed =
    tried_lines hash count (pack (generated count seed)) (generated_queries demo_queries seed)
