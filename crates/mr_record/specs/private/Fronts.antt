-- Fields in front of a line, which were read in one pass.
use Rattle.std.specs.Prelude.{◌≡◌, ℕ, ℤ, List, Option, Some}
use Rattle.mr_record.specs.declared.version.Version.{Version}
use Rattle.mr_record.specs.declared.version.Version.TheVariants.{One, Two}
use Rattle.mr_record.specs.Decimal.{i32_of}
use Rattle.mr_record.specs.Lines.{IsCutAt}
use Rattle.mr_record.specs.RecordText.{layer_of}

-- in front of the line's first space stands a field that spells the value, and behind it the rest
pub record StandsInFront {A : Type 0} (spelled : List ℕ → Option A) (value : A) (line rest : List ℕ)
    : Type 0 where
  pub field : List ℕ
  pub spells : spelled field ≡ Some value
  pub cut : IsCutAt 32 line field rest

-- in front of the line stand two fields that spell coordinates, and behind them the rest
pub record HasPointInFront (x y : ℤ) (line rest : List ℕ) : Type 0 where
  pub between : List ℕ
  pub first : StandsInFront i32_of x line between
  pub second : StandsInFront i32_of y between rest

-- in front of the line stands the layer, where the version has one, and behind it the rest
abbrev pub HasLayerInFront : Version → ℕ → (line rest : List ℕ) → Type 0
HasLayerInFront One layer line rest = (layer ≡ 0) × (line ≡ rest)
HasLayerInFront Two layer line rest = StandsInFront layer_of layer line rest
