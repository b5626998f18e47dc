-- Maps after batches, whatever the layout of their files: what they stand for goes by the map and
-- the batches alone. With proof.
use Rattle.std.specs.Prelude.{◌≡◌, ℕ, List, [], ◌∷◌}
use Rattle.std.proofs.Common.{sym, subst}
use Rattle.mr_record.specs.declared.version.Version.{Version}
use Rattle.mr_tree.specs.declared.tree.Tree.{Tree}
use Rattle.mr_pages.specs.Law.{IsMapFile, map_in}
use Rattle.mr_batch.specs.Changes.{Changes}
use Rattle.mr_batch.specs.Replay.{replay}

-- whatever map the old bytes stand for, the new ones stand for the map after the batch, in the same
-- version
abbrev pub IsAfter : (List ℕ → List ℕ) → (old : List ℕ) → Changes → (new : List ℕ) → Type 0
IsAfter hash old batch new = (v : Version) (t : Tree) (held : ℕ)
    → IsMapFile hash old (map_in v t held)
    → IsMapFile hash new (map_in v (replay t (batch ∷ [])) batch.number)

-- files one after the other, each after one batch more
abbrev pub IsAfterAll : (List ℕ → List ℕ) → (old : List ℕ) → List Changes → (new : List ℕ) → Type 0
IsAfterAll hash old [] new = new ≡ old
IsAfterAll hash old (batch ∷ batches) new = (between : List ℕ) × IsAfter hash old batch between
    × IsAfterAll hash between batches new

-- the batch at which a map then stands
abbrev pub number_after : (held : ℕ) → List Changes → ℕ
number_after held [] = held
number_after held (batch ∷ batches) = number_after batch.number batches

-- the last of them stands for the map after all batches
pub stands_after : (hash : List ℕ → List ℕ) (batches : List Changes) (old new : List ℕ) →
    IsAfterAll hash old batches new → (v : Version) (t : Tree) (held : ℕ) →
    IsMapFile hash old (map_in v t held) →
    IsMapFile hash new (map_in v (replay t batches) (number_after held batches))
stands_after hash [] old new same v t held is =
    subst (λ bytes. IsMapFile hash bytes (map_in v t held)) (sym same) is
stands_after hash (batch ∷ batches) old new on v t held is =
    stands_after hash batches on.0 new on.2 v (replay t (batch ∷ [])) batch.number
    (on.1 v t held is)

-- So two files that stand for one map stand for one map after the same batches: then both have its
-- one root digest.
pub record StandAlike (hash : List ℕ → List ℕ) (one other : List ℕ) (v : Version) (t : Tree)
    (batch : ℕ) : Type 0 where
  pub one_is : IsMapFile hash one (map_in v t batch)
  pub other_is : IsMapFile hash other (map_in v t batch)

pub alike_after : (hash : List ℕ → List ℕ) (batches : List Changes) (one other one' other' : List ℕ)
    (v : Version) (t : Tree) (held : ℕ) → StandAlike hash one other v t held →
    IsAfterAll hash one batches one' → IsAfterAll hash other batches other' →
    StandAlike hash one' other' v (replay t batches) (number_after held batches)
alike_after hash batches one other one' other' v t held alike first second = record {
  one_is = stands_after hash batches one one' first v t held alike.one_is;
  other_is = stands_after hash batches other other' second v t held alike.other_is;
}
