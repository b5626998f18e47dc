-- Counts: how many records of a map lie inside the window of a query and are on one of the layers
-- that it asks for.
use Rattle.std.specs.Prelude.{ℕ, List, Result}
use Rattle.mr_query.specs.Layers.{asked_layers}
use Rattle.mr_query.specs.declared.key.Key.{Key}
use Rattle.mr_query.specs.declared.query.Query.{Query}
use Rattle.mr_query.specs.declared.query.Shape.{Shape}
use Rattle.mr_query.specs.declared.query.Shape.TheVariants.{Window, Nearest}
use Rattle.mr_tree.specs.Digest.{Scheme}
use Rattle.mr_tree.specs.declared.tree.Tree.{Tree}
use Rattle.mr_proof.specs.Tight.{Question}
use Rattle.mr_proof.specs.declared.rule.Fault.{Fault}
use Rattle.mr_proof.specs.declared.way.Way.{Way}
use Rattle.mr_proof.specs.declared.way.Way.TheVariants as ways
use Rattle.mr_count.specs.Chosen.{chosen, verdict_for}
use Rattle.mr_count.specs.Finding.{found_for}
use Rattle.mr_count.specs.Inside.{inside_way}
use Rattle.mr_count.specs.declared.finding.ChoiceFinding.{ChoiceFinding}
use Rattle.mr_count.specs.declared.taken.Taken.{Taken}

-- what is asked of each part of a map, where a query counts what lies inside its window. (By one
-- for the nearest records no command counts.)
abbrev pub shape_ways : (layers : ℕ) → Shape → Key → Way
shape_ways layers (Window w) = inside_way w layers
shape_ways layers (Nearest p k) = λ part. ways.Skip

abbrev pub count_ways : Query → Key → Way
count_ways q = shape_ways (asked_layers q) q.shape

-- the letter of the proofs of counts, `C`
abbrev pub count_letter : ℕ
count_letter = 67

-- what such a proof has to show
abbrev pub count_question : (Key → Way) → Question
count_question way = chosen count_letter way

-- what the bytes of one give, or their fault
abbrev pub count_verdict : (List ℕ → List ℕ) → (root : List ℕ) → (Key → Way) → List ℕ
    → Result Taken Fault
count_verdict hash root way bytes = verdict_for hash root count_letter way bytes

-- what the audit of the bytes finds, on the map of a tree at a batch
abbrev pub count_found : Scheme → Tree → (batch : ℕ) → (Key → Way) → List ℕ → ChoiceFinding
count_found s t batch way bytes = found_for s t batch count_letter way bytes
