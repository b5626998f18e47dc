-- The names of rules.
use Rattle.std.specs.Prelude.{ℕ, List, codes}
use Rattle.mr_proof.specs.declared.rule.Rule.{Rule}
use Rattle.mr_proof.specs.declared.rule.Rule.TheVariants as rule

-- the name of a rule
abbrev pub rule_text : Rule → List ℕ
rule_text rule.Long = codes "Long"
rule_text rule.Short = codes "Short"
rule_text rule.BadMagic = codes "BadMagic"
rule_text rule.BadVersion = codes "BadVersion"
rule_text rule.WrongKind = codes "WrongKind"
rule_text rule.BadCount = codes "BadCount"
rule_text rule.BadFlag = codes "BadFlag"
rule_text rule.BadRadius = codes "BadRadius"
rule_text rule.BadLevel = codes "BadLevel"
rule_text rule.BadTag = codes "BadTag"
rule_text rule.BadEntries = codes "BadEntries"
rule_text rule.BadRect = codes "BadRect"
rule_text rule.BadLength = codes "BadLength"
rule_text rule.Hidden = codes "Hidden"
rule_text rule.Needless = codes "Needless"
rule_text rule.Trailing = codes "Trailing"
rule_text (rule.WrongRoot found) = codes "WrongRoot"
rule_text rule.WrongRadius = codes "WrongRadius"
rule_text rule.WrongTally = codes "WrongTally"
rule_text rule.BadLayer = codes "BadLayer"
