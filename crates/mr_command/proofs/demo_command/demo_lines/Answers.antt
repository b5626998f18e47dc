use Rattle.std.proofs.Common.{ℕ, List, [], ◌∷◌, map, refl, sym, subst, ◌∙◌}
use Rattle.std.specs.List.{AllByRecursion, enumerate_from}
use Rattle.std.proofs.lemmas.List.Elements.{All-from_recursion}
use Rattle.mr_record.specs.declared.version.Version.TheVariants.{One}
use Rattle.mr_batch.specs.Workload.{of_each, words, query_of_word, generated_queries}
use Rattle.mr_proof.specs.Tight.{MayCome, question}
use Rattle.mr_bundle.specs.Proofs.{HasProofs}
use Rattle.mr_command.proofs.demo_command.demo_lines.Goals as goal

-- generated queries name no mask
each_may_come : (ps : List (ℕ × ℕ)) → AllByRecursion (λ q. MayCome (question q) One)
    (map (λ (p : ℕ × ℕ). query_of_word p.0 p.1) ps)
each_may_come [] = tt
each_may_come (p ∷ ps) = (refl, each_may_come ps)

have_proofs : (n start : ℕ) → HasProofs One (generated_queries n start)
unfolding generated_queries of_each
have_proofs n start =
    All-from_recursion (λ q. MayCome (question q) One) (generated_queries n start)
    (each_may_come (enumerate_from 0 (words n start)))

pub tried-requires-clause-may_come : goal.tried-requires-clause-may_come
tried-requires-clause-may_come g c κs within =
    subst (HasProofs One) (sym (c.deref.ensures.value ∙ c.in_ok-queries.ensures.exact)) (have_proofs _ _)
