-- The line on a proof that is refused.
use Rattle.std.specs.Prelude.{ℕ, List, [], ◌∷◌, ◌++◌, codes, decimal}
use Rattle.hex.specs.Hex.{encode_lower}
use Rattle.mr_proof.specs.declared.rule.Rule.{Rule}
use Rattle.mr_proof.specs.declared.rule.Rule.TheVariants as rule
use Rattle.mr_proof.specs.declared.rule.Fault.{Fault}
use Rattle.mr_proof.specs.RuleNames.{rule_text}

-- the root digest that was computed, where it is another than the held one
abbrev pub found_text : Rule → List ℕ
found_text (rule.WrongRoot found) = codes " found " ++ encode_lower found
found_text _ = []

-- `refused RULE at PLACE`, and the digest that was found
unfoldable pub refused_line : Fault → List ℕ
refused_line fault = codes "refused " ++ rule_text fault.rule ++ codes " at " ++ decimal fault.at
    ++ found_text fault.rule ++ 10 ∷ []
