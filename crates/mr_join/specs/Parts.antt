-- What the reading of a join's parts is worth, whatever is asked of them.
use Rattle.std.specs.Prelude.{◌≡◌, ℕ, List, Ok}
use Rattle.mr_geom.specs.Rectangle.{Rectangle}
use Rattle.mr_proof.specs.declared.head.Kind.TheVariants as kind
use Rattle.mr_proof.specs.Halves.{ShowsJust, FaultsJust, StaysRefused, SpellsOneOf, FindsPairOf}
use Rattle.mr_count.specs.Chosen.{chosen}
use Rattle.mr_join.specs.Meets.{meets_way}
use Rattle.mr_join.specs.Frame.{Frame, frame_of}
use Rattle.mr_join.specs.Verdict.{Held, letter}

-- Of a part, for whatever rectangles: its verdict is what the bytes show, or the first of all that
-- is broken, which stays so behind whatever follows; and they spell one head and cut at most, which
-- reading finds.
pub record IsReadPart (h : Held) (bytes : List ℕ) : Type 0 where
  pub shows : (list : List Rectangle) → ShowsJust h.of h.root (chosen letter (meets_way list)) bytes
  pub faults : (list : List Rectangle)
      → FaultsJust h.of h.root (chosen letter (meets_way list)) bytes
  pub longer : (list : List Rectangle)
      → StaysRefused h.of h.root (chosen letter (meets_way list)) bytes
  pub one_pair : SpellsOneOf (kind.Choice letter) bytes
  pub pair : FindsPairOf (kind.Choice letter) bytes

-- of the parts of a join's proof
abbrev pub ReadsParts : Held → Held → List ℕ → Type 0
ReadsParts h g bytes =
    (x : Frame) → frame_of bytes ≡ Ok x → IsReadPart h x.first × IsReadPart g x.second
