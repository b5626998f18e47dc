-- What the bytes of a join's proof give: the pairs, or the first fault.
use Rattle.std.specs.Prelude.{◌≡◌, ℕ, ◌==◌, ◌&&◌, Bool, false, if◌then◌else◌, List, [], ◌∷◌, length, Option, Some, None, Result, Ok, Err, ⊤}
use Rattle.mr_geom.specs.Rectangle.{Rectangle}
use Rattle.mr_record.specs.Results.{◌>>=◌}
use Rattle.mr_record.specs.declared.record.Record.{Record}
use Rattle.mr_proof.specs.declared.rule.Fault.{Fault}
use Rattle.mr_count.specs.Chosen.{verdict_for, MayBreak}
use Rattle.mr_count.specs.Inside.{lies_in}
use Rattle.mr_count.specs.declared.taken.Taken.{Taken}
use Rattle.mr_join.specs.declared.fault.FrameRule.TheVariants as rule
use Rattle.mr_join.specs.declared.fault.JoinErr.{JoinErr}
use Rattle.mr_join.specs.declared.fault.JoinErr.TheVariants as errors
use Rattle.mr_join.specs.declared.fault.JoinFault.{JoinFault}
use Rattle.mr_join.specs.declared.fault.JoinFault.TheVariants as faults
use Rattle.mr_join.specs.declared.pair.Pair.{Pair}
use Rattle.mr_join.specs.Meets.{meets_way, rects_of}
use Rattle.mr_join.specs.Pairs.{pairs_of}
use Rattle.mr_join.specs.Frame.{Frame, frame_fault, frame_of}

-- `J`, the letter of both proofs
abbrev pub letter : ℕ
letter = 74

-- a hash function and the root digest of a map by it, which a client holds
pub record Held : Type 0 where
  pub of : List ℕ → List ℕ
  pub root : List ℕ

-- the verdict on the proof of a map for some rectangles
abbrev pub part_verdict : Held → List Rectangle → List ℕ → Result Taken Fault
part_verdict h list bytes = verdict_for h.of h.root letter (meets_way list) bytes

abbrev pub as_first : Result Taken Fault → Result Taken JoinFault
as_first (Ok x) = Ok x
as_first (Err f) = Err (faults.First f)

abbrev pub as_second : Result Taken Fault → Result Taken JoinFault
as_second (Ok x) = Ok x
as_second (Err f) = Err (faults.Second f)

-- the records of the first map that meet the second map's rectangle; none where it has none
abbrev pub first_records : Held → Option Rectangle → List ℕ → Result (List Record) JoinFault
first_records h None bytes = Ok []
first_records h (Some w) bytes =
    as_first (part_verdict h (w ∷ []) bytes) >>= λ x. Ok x.records

-- what the proof of the second map gives of the records that meet these
abbrev pub second_taken : Held → List Record → List ℕ → Result Taken JoinFault
second_taken h rs bytes = as_second (part_verdict h (rects_of rs) bytes)

-- whether the rectangle is this one, so that each lies in the other
abbrev pub is_rect : Rectangle → Option Rectangle → Bool
is_rect w None = false
is_rect w (Some r) = lies_in w r && lies_in r w

-- the pairs of these records and those of the second map, where the frame says of that map what
-- its proof does; the place is the length of the whole
abbrev pub pairs_behind : Option Rectangle → (at : ℕ) → List Record → Taken
    → Result (List Pair) JoinFault
pairs_behind None at rs y =
    if y.count == 0 then Ok (pairs_of rs y.records) else Err (frame_fault rule.WrongFlag at)
pairs_behind (Some w) at rs y =
    if is_rect w y.rect then Ok (pairs_of rs y.records) else Err (frame_fault rule.WrongRect at)

-- of the frame's parts
abbrev pub frame_verdict : Held → Held → (at : ℕ) → Frame → Result (List Pair) JoinFault
frame_verdict h g at x =
    first_records h x.rect x.first >>= λ rs. second_taken g rs x.second >>= λ y.
    pairs_behind x.rect at rs y

-- The pairs that the bytes prove against the root digests of two maps, or the first fault: of the
-- frame's fields, of the first map's proof, of the second map's proof, and of what the frame says
-- of the second map.
unfoldable pub join_verdict : Held → Held → List ℕ → Result (List Pair) JoinFault
join_verdict h g bytes = frame_of bytes >>= λ x. frame_verdict h g (length bytes) x

-- what is answered for bytes of this verdict: the verdict, unless memory ran out
abbrev pub AnswersJoin : Result (List Pair) JoinErr → Result (List Pair) JoinFault → Type 0
AnswersJoin (Ok pairs) verdict = verdict ≡ Ok pairs
AnswersJoin (Err (errors.Fault f)) verdict = verdict ≡ Err f
AnswersJoin (Err errors.NoMemory) verdict = ⊤

-- the rules that it may break: of either part any but those on a flag and a squared radius, which
-- it does not have
abbrev pub MayBreakJoin : JoinFault → Type 0
MayBreakJoin (faults.Frame broken at) = ⊤
MayBreakJoin (faults.First f) = MayBreak f.rule
MayBreakJoin (faults.Second f) = MayBreak f.rule
