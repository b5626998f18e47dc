-- What is found in the bytes of a file that is read as a map.
use Rattle.std.specs.Prelude.{◌≡◌, ℕ, List, [], ◌∷◌, ◌++◌, Some, Result, Ok, Err, codes, decimal}
use Rattle.hex.specs.Hex.{encode_lower}
use Rattle.mr_record.specs.declared.version.Version.{Version}
use Rattle.mr_pages.specs.PageBytes.{form_by}
use Rattle.mr_pages.specs.File.{file_of}
use Rattle.mr_pages.specs.Faults.{mapfault}
use Rattle.mr_pages.specs.Law.{IsMapFile, map_in}
use Rattle.mr_pages.specs.Rules.{map_rule_name}
use Rattle.mr_pages.specs.declared.rule.MapRule.{MapRule}
use Rattle.mr_pages.specs.declared.rule.MapRule.TheVariants as rule
use Rattle.mr_pages.specs.declared.rule.MapFault.{MapFault}
use Rattle.mr_pages.specs.declared.opening.Opened.{Opened}

-- a map, or the first rule that is broken
abbrev pub Found : Type 0
Found = Result Opened MapFault

-- read in this version, the bytes stand for this map; or they stand for none, and this is their
-- fault
abbrev pub ShowsMap : Version → (List ℕ → List ℕ) → List ℕ → Found → Type 0
ShowsMap v hash bytes (Ok map) =
    (map.version ≡ v) × IsMapFile hash bytes (map_in v map.tree map.batch)
ShowsMap v hash bytes (Err fault) = mapfault hash (file_of (form_by v) bytes) ≡ Some fault

-- ---- the line on a fault

-- the digests or the numbers of records that differ
abbrev pub kept_text : MapRule → List ℕ
kept_text (rule.Digest held found) =
    codes " held " ++ encode_lower held ++ codes " found " ++ encode_lower found
kept_text (rule.Count held found) =
    codes " held " ++ decimal held ++ codes " found " ++ decimal found
kept_text (rule.Changed held found) =
    codes " held " ++ encode_lower held ++ codes " found " ++ encode_lower found
kept_text _ = []

-- `bad map page PAGE RULE`, and what differs
unfoldable pub bad_map_line : MapFault → List ℕ
bad_map_line fault = codes "bad map page " ++ decimal fault.page ++ codes " "
    ++ map_rule_name fault.rule ++ kept_text fault.rule ++ 10 ∷ []
