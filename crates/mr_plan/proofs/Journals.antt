-- The name of a map's journal.
use Rattle.std.proofs.Common.{◌≡◌, ◌≢◌, ℕ, Bool, true, false, List, ◌++◌, sym, ap, ◌∙◌}
use Rattle.std.specs.Prelude.{bytes_eq, codes}
use Rattle.std.proofs.lemmas.Bool.{false_from_ne_true}
use Rattle.std.proofs.lemmas.List.{append_cancel_left}
use Rattle.std.proofs.lemmas.Slice.Eq.{bytes_eq-Decides}
use Rattle.mr_plan.specs.Words.{journal_of}

-- no name that the map's begins
pub no_front : (name map : List ℕ) → ((rest : List ℕ) → name ≢ map ++ rest) → false ≡ bytes_eq name (journal_of map)
no_front name map none =
    sym (false_from_ne_true (bytes_eq name (journal_of map))
    (λ t. none (codes ".journal") ((bytes_eq-Decides name (journal_of map)).0 t)))

-- what is behind it decides
pub by_rest : (name map rest : List ℕ) (b : Bool) → name ≡ map ++ rest → b ≡ bytes_eq rest (codes ".journal")
    → b ≡ bytes_eq name (journal_of map)
by_rest name map rest true is same =
    sym ((bytes_eq-Decides name (journal_of map)).1
    (is ∙ ap (λ l. map ++ l) ((bytes_eq-Decides rest (codes ".journal")).0 (sym same))))
by_rest name map rest false is same =
    sym (false_from_ne_true (bytes_eq name (journal_of map)) (λ t.
    let whole : map ++ rest ≡ map ++ codes ".journal" = sym is ∙ (bytes_eq-Decides name (journal_of map)).0 t in
    let there = (bytes_eq-Decides rest (codes ".journal")).1 (append_cancel_left map rest (codes ".journal") whole) in
    differs (same ∙ there)))
  where
    differs : false ≡ true → ⊥
    differs e = cc
