-- What goes by the words of a command: two commands with the same words ask for the same, wherever their words lie.
use Rattle.std.proofs.Common.{◌≡◌, ℕ, List, Option, Some, None, refl, sym, ap, subst, ◌∙◌}
use Rattle.mr_plan.specs.Outcome.{Outcome}
use Rattle.mr_plan.specs.Say.{say}
use Rattle.mr_plan.specs.Spelling.{AsksAs}
use Rattle.mr_plan.specs.Untold.{MaySayUntold}
use Rattle.mr_plan.specs.Words.{words_of}
use Rattle.mr_plan.specs.declared.words.Command.{Command}
use Rattle.mr_plan.specs.declared.words.Command.TheVariants as commands
use Rattle.mr_plan.proofs.Spelling.{command_of_words}

-- the command that its words stand for
abbrev pub as_words : Command → Command
as_words command = command_of_words (words_of command)

some_is : {A : Type 0} (a b : A) → ◌≡◌ {A = Option A} (Some a) (Some b) → a ≡ b
some_is a b e = cc

-- P goes over to a command with the same words, where it goes by words alone
pub asks_on : (P : Option Command → Type 0) → ((c : Command) → P (Some c) → P (Some (as_words c)))
    → ((c : Command) → P (Some (as_words c)) → P (Some c)) → (a b : Option Command) → AsksAs a b → P b → P a
asks_on P to from None None e p = p
asks_on P to from None (Some b) e p = absurd (cc)
asks_on P to from (Some a) None e p = absurd (cc)
asks_on P to from (Some a) (Some b) e p =
    from a (subst (λ c. P (Some c)) (sym (ap command_of_words (some_is (words_of a) (words_of b) e))) (to b p))

-- so does what is said
said_words : (hash : List ℕ → List ℕ) (c : Command) → say hash (Some (as_words c)) ≡ say hash (Some c)
said_words hash (commands.Root records) = refl
said_words hash c = refl

pub asks_plan : (hash : List ℕ → List ℕ) (a b : Option Command) → AsksAs a b → say hash b ≡ say hash a
asks_plan hash a b e =
    asks_on (λ c. say hash b ≡ say hash c) (λ c is. is ∙ sym (said_words hash c)) (λ c is. is ∙ said_words hash c)
    a b e refl

-- and what may be said
module _ (hash : List ℕ → List ℕ) (said : Outcome) where
  to_words : (c : Command) → MaySayUntold hash (Some c) said → MaySayUntold hash (Some (as_words c)) said
  to_words (commands.Root records) may = may
  to_words c may = may

  from_words : (c : Command) → MaySayUntold hash (Some (as_words c)) said → MaySayUntold hash (Some c) said
  from_words (commands.Root records) may = may
  from_words c may = may

  pub asks_untold : (a b : Option Command) → AsksAs a b → MaySayUntold hash b said → MaySayUntold hash a said
  asks_untold = asks_on (λ c. MaySayUntold hash c said) to_words from_words
