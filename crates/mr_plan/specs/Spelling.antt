-- The command that words spell, if any.
use Rattle.std.specs.Prelude.{◌≡◌, ℕ, List, Option, Some, None, option_map}
use Rattle.mr_plan.specs.Words.{SpellsCommand, words_of}
use Rattle.mr_plan.specs.declared.words.Command.{Command}

-- the words spell this command, or none at all
abbrev pub IsSpelled : List (List ℕ) → Option Command → Type 0
IsSpelled words (Some command) = SpellsCommand words command
IsSpelled words None = (command : Command) → SpellsCommand words command → ⊥

-- the two ask for the same: they have the same words
abbrev pub AsksAs : Option Command → Option Command → Type 0
AsksAs a b = option_map words_of a ≡ option_map words_of b
