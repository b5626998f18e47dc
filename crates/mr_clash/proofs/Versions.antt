-- Bytes that only the second version spells, taken from the front of what is left.
use Rattle.std.proofs.Common.{◌≡◌, ℕ, ◌≤◌, ◌<◌, ◌^◌, List, ◌∷◌, ◌++◌, refl, arith}
use Rattle.std.specs.Int.{w64, to_be_bytes}
use Rattle.mr_record.specs.Record.{layer_bytes}
use Rattle.mr_record.specs.Version.{version_byte, highest_layer, told}
use Rattle.mr_record.specs.declared.version.Version.{Version}
use Rattle.mr_record.specs.declared.version.Version.TheVariants.{One, Two}
use Rattle.mr_tree.specs.Digest.{word_bytes}

-- ---- the version

pub two_is : (v : Version) → version_byte v ≡ 2 → Two ≡ v
two_is One e = absurd (omega (arith, e))
two_is Two e = refl

pub one_is : (v : Version) → (version_byte v ≡ 2 → ⊥) → One ≡ v
one_is One other = refl
one_is Two other = absurd (other refl)

-- ---- a word

pub no_word : (v : Version) (x : ℕ) (rest before : List ℕ) → v ≡ One → x < 2 ^ told v 64
    → before ≡ word_bytes v x ++ rest → (0 ≡ x) × (before ≡ rest)
no_word One x rest before one low is = (omega (arith, low), is)
no_word Two x rest before one low is = absurd cc

pub one_word : (v : Version) (x : ℕ) (rest before : List ℕ) → v ≡ Two → x < 2 ^ told v 64
    → before ≡ word_bytes v x ++ rest → (x < 2 ^ 64) × (before ≡ to_be_bytes w64 x ++ rest)
one_word One x rest before two low is = absurd cc
one_word Two x rest before two low is = (low, is)

-- ---- a layer

pub no_layer : (v : Version) (l : ℕ) (rest before : List ℕ) → v ≡ One → before ≡ layer_bytes v l ++ rest
    → (0 ≡ told v (2 ^ l)) × (before ≡ rest)
no_layer One l rest before one is = (refl, is)
no_layer Two l rest before one is = absurd cc

pub one_layer : (v : Version) (l : ℕ) (rest before : List ℕ) → v ≡ Two → l ≤ highest_layer v
    → before ≡ layer_bytes v l ++ rest → (l ≤ 63) × (before ≡ l ∷ rest)
one_layer One l rest before two low is = absurd cc
one_layer Two l rest before two low is = (low, is)

pub all_told : (v : Version) (n : ℕ) → v ≡ Two → n ≡ told v n
all_told One n two = absurd cc
all_told Two n two = refl
