-- What is taken off a stack. This serves private functions.
use Rattle.std.specs.Prelude.{◌≡◌, ℕ, ◌+◌, List, [], ◌∷◌, Option, Some, None}

abbrev pub PopsFrame : {F : Type 0} → Option F → List F → List F → ℕ → ℕ → Type 0
PopsFrame None before after deep shallow = (before ≡ []) × (after ≡ []) × (shallow ≡ deep)
PopsFrame (Some f) before after deep shallow = (before ≡ f ∷ after) × (deep ≡ shallow + 1)
