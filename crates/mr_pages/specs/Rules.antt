-- The names of the rules of a map file, as they are printed.
use Rattle.std.specs.Prelude.{ℕ, List, codes}
use Rattle.mr_pages.specs.declared.rule.MapRule.{MapRule}
use Rattle.mr_pages.specs.declared.rule.MapRule.TheVariants.{Size, Unsealed, Header, Page, Outside, Twice, Digest, Rect, Sum, Fill, Number, Count, Free, Changed}

abbrev pub map_rule_name : MapRule → List ℕ
map_rule_name Size = codes "Size"
map_rule_name Unsealed = codes "Unsealed"
map_rule_name Header = codes "Header"
map_rule_name Page = codes "Page"
map_rule_name Outside = codes "Outside"
map_rule_name Twice = codes "Twice"
map_rule_name (Digest held found) = codes "Digest"
map_rule_name Rect = codes "Rect"
map_rule_name Sum = codes "Sum"
map_rule_name Fill = codes "Fill"
map_rule_name Number = codes "Number"
map_rule_name (Count held found) = codes "Count"
map_rule_name Free = codes "Free"
map_rule_name (Changed held found) = codes "Changed"
