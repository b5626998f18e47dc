-- The names of the frame's rules.
use Rattle.std.specs.Prelude.{ℕ, List, codes}
use Rattle.mr_join.specs.declared.fault.FrameRule.{FrameRule}
use Rattle.mr_join.specs.declared.fault.FrameRule.TheVariants as rule

-- the name of a rule
abbrev pub rule_text : FrameRule → List ℕ
rule_text rule.Short = codes "Short"
rule_text rule.BadMagic = codes "BadMagic"
rule_text rule.BadFlag = codes "BadFlag"
rule_text rule.BadRect = codes "BadRect"
rule_text rule.WrongFlag = codes "WrongFlag"
rule_text rule.WrongRect = codes "WrongRect"
