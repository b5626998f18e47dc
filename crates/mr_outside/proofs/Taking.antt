-- What a sink took in one call and in the next.
use Rattle.std.proofs.Common.{ℕ, List, [], ◌++◌, Option, Some, None, option_map, ◌≡◌, refl, sym, ap, ◌∙◌, append_assoc, append-nil, ◌+◌, take, drop, take-append-drop}
use Rattle.std.proofs.Math.Seq.{take-add}
use Rattle.mr_outside.specs.State.{Sunk}
use Rattle.mr_outside.specs.Told.{TakesBytes, TakesFront}

added_none : (taken : Option (List ℕ)) → taken ≡ option_map (λ xs. xs ++ []) taken
added_none None = refl
added_none (Some taken) = ap Some (sym (append-nil taken))

pub TakesBytes-none : (s : Sunk) → TakesBytes s s []
TakesBytes-none s = added_none s.taken

added_twice : (taken : Option (List ℕ)) (first second : List ℕ)
    → option_map (λ xs. xs ++ second) (option_map (λ xs. xs ++ first) taken)
    ≡ option_map (λ xs. xs ++ (first ++ second)) taken
added_twice None first second = refl
added_twice (Some taken) first second = ap Some (append_assoc taken first second)

pub TakesBytes-append : (before between after : Sunk) (first second : List ℕ) → TakesBytes before between first
    → TakesBytes between after second → TakesBytes before after (first ++ second)
TakesBytes-append before between after first second e f =
    f ∙ ap (option_map (λ xs. xs ++ second)) e ∙ added_twice before.taken first second

-- one piece more of a list that is taken from the front
pub TakesBytes-more : (before between after : Sunk) (bytes : List ℕ) (done n : ℕ) → TakesBytes before between
    (take done bytes)
    → TakesBytes between after (take n (drop done bytes)) → TakesBytes before after (take (done + n) bytes)
TakesBytes-more before between after bytes done n e f =
    rw (take-add done n bytes) (TakesBytes-append before between after _ _ e f)

-- a refusal takes nothing
pub TakesBytes-refused : (before between after : Sunk) (bytes : List ℕ) → TakesBytes before between bytes
    → after.taken ≡ between.taken → TakesBytes before after bytes
TakesBytes-refused before between after bytes e f = f ∙ e

-- a front by its length
pub TakesFront-take : (before after : Sunk) (bytes : List ℕ) (done : ℕ) → TakesBytes before after (take done bytes)
    → TakesFront before after bytes
TakesFront-take before after bytes done e =
    record { front = take done bytes; rest = drop done bytes; whole = sym (take-append-drop done bytes); takes = e }
