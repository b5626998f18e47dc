-- A proof in a file that is read in pieces and judged as they come.
use Rattle.std.proofs.Common.{◌≡◌, ℕ, ◌+◌, ◌-◌, ◌≤◌, ◌<◌, min, List, [], ◌++◌, length, take, drop, Option, Some, None, MatchOption, Ok, Err, refl, sym, ap, subst, ◌∙◌, inl, inr, arith, length-append}
use Rattle.std.specs.Prelude.{◌⊎◌, ◌^◌, ⊤}
use Rattle.std.proofs.lemmas.List.{append-nil, take-append-drop, take-append-le}
use Rattle.std.proofs.lemmas.List.Elements.{All-append}
use Rattle.mr_outside.specs.Faults.{Rose}
use Rattle.mr_outside.specs.Files.{Files, file}
use Rattle.mr_outside.specs.Told.{OfFile, MayMiss}
use Rattle.mr_outside.proofs.Pieces.{HasFront, FrontOfFile, FrontOfFile-none, FrontOfFile-more, FrontOfFile-short, FrontOfFile-whole, OfFile-map}
use Rattle.mr_outside.specs.Bytes.{AreBytes}
use Rattle.mr_tree.specs.declared.hash.Hashes.{Ghosts}
use Rattle.mr_query.specs.declared.query.Query.{Query}
use Rattle.mr_proof.specs.Feeding.{IsUnsettled}
use Rattle.mr_proof.specs.Tight.{question}
use Rattle.mr_proof.specs.Reading.{verdict}
use Rattle.mr_check.specs.Judged.{IsTaken}
use Rattle.mr_check.specs.declared.piece_check.PieceCheck.{PieceCheck}
use Rattle.mr_plan.specs.Plan.{IsInput, IsAbsent}
use Rattle.mr_outside.specs.Reading.{FillsFront, GivesFrom}
use Rattle.mr_check.specs.Answers.{AnswersVerdict}
use Rattle.mr_check.specs.Judged.{IsStopped}
use Rattle.mr_check.proofs.Judging.{refused}
use Rattle.mr_check.specs.declared.error.CheckErr.{CheckErr}
use Rattle.mr_check.specs.declared.error.CheckErr.TheVariants as errors
use Rattle.std.proofs.Common.{length-take-le, length-drop}
use Rattle.std.proofs.Math.Seq.{take-append_seam}
use Rattle.mr_command.specs.private.Taking.{IsPiece, StopsNext, TakesNext, StopsFile, IsAllTaken, stop_of_check}
use Rattle.mr_command.specs.declared.pieces.Stop.{Stop}
use Rattle.mr_command.specs.declared.pieces.Stop.TheVariants as stops

-- so much of the file was read, from its front, and taken in
pub record HasTaken {H : Type 0} {G : Ghosts H} (hash : List ℕ → List ℕ) (holds : H → List ℕ → Type 0)
    (root : List ℕ) (q : Query) (told : Option Files) (name : List ℕ) (size at : ℕ) (i : PieceCheck H G) : Type 0 where
  pub front : List ℕ
  pub long : length front ≡ at
  pub are : AreBytes front
  pub taken : IsTaken hash holds root q i front
  pub whole : FrontOfFile told name size front

-- a front of a told file is continued to the whole of it, and one that is not told is an input itself
pub record Continues (told : Option Files) (name front : List ℕ) : Type 0 where
  pub more : List ℕ
  pub input : IsInput told name (Some (front ++ more))
  pub are : AreBytes (front ++ more)

-- the bytes of a file that was found
found_whole : (found : Option (List ℕ)) (size : ℕ) (front : List ℕ) → MatchOption found ⊥ (HasFront size front)
    → MatchOption found ⊤ AreBytes → (more : List ℕ) × (found ≡ Some (front ++ more)) × AreBytes (front ++ more)
found_whole None size front h bytes = absurd h
found_whole (Some all) size front h bytes =
    let whole : front ++ drop (length front) all ≡ all =
    ap (λ (z : List ℕ). z ++ drop (length front) all) h.front_is ∙ take-append-drop (length front) all in
    (drop (length front) all, ap Some (sym whole), subst AreBytes (sym whole) bytes)

pub continued : (told : Option Files) (name : List ℕ) (size : ℕ) (front : List ℕ) → FrontOfFile told name size front
    → AreBytes front → OfFile told name ⊤ AreBytes → Continues told name front
continued None name size front whole are bytes =
    record {
      more = [];
      input = subst AreBytes (sym (append-nil front)) are;
      are = subst AreBytes
          (sym (append-nil front)) are;
    }
continued (Some files) name size front whole are bytes =
    let x = found_whole (file files name) size front whole bytes in
    record { more = x.0; input = x.1; are = x.2 }

-- a front that is all of the file
is_input_found : (found : Option (List ℕ)) (front : List ℕ) → MatchOption found ⊥ (λ bytes. front ≡ bytes)
    → found ≡ Some front
is_input_found None front h = absurd h
is_input_found (Some bytes) front h = ap Some (sym h)

pub is_input : (told : Option Files) (name : List ℕ) (front : List ℕ) → OfFile told name ⊥ (λ bytes. front ≡ bytes)
    → AreBytes front → IsInput told name (Some front)
is_input None name front h are = are
is_input (Some files) name front h are = is_input_found (file files name) front h

-- a file that was not found
pub is_missing : (told : Option Files) (name : List ℕ) (before after : ℕ) → MayMiss told name before after
    → IsInput told name None × (Rose before after ⊎ IsAbsent told name)
is_missing None name before after miss = (tt, inl miss)
is_missing (Some files) name before after miss = (miss, inr miss)

module _ {H : Type 0} {G : Ghosts H} (hash : List ℕ → List ℕ) (holds : H → List ℕ → Type 0) (root : List ℕ) (q : Query)
    (told : Option Files) (name : List ℕ) (size : ℕ) where
  pub nothing_taken : (i : PieceCheck H G) → OfFile told name ⊥ (λ bytes. size ≡ length bytes)
      → IsTaken hash holds root q i [] → HasTaken hash holds root q told name size 0 i
  nothing_taken i is taken = record {
    front = [];
    long = refl;
    are = λ k d within. absurd (omega (arith, within));
    taken = taken;
    whole = FrontOfFile-none told name size is;
  }

  -- and the piece that follows
  pub piece_taken : (i j : PieceCheck H G) (at wanted count : ℕ) (had : HasTaken hash holds root q told name size at i)
      → TakesNext hash holds root q told name at wanted had.front (Ok (j, count))
      → HasTaken hash holds root q told name size (at + count) j
  piece_taken i j at wanted count had next =
      let front = had.front in
      let p = next.0 in
      let is = next.1 in
      let place = had.long in
      record {
        front = front ++ p;
        long = length-append front p ∙ ap (λ n. n + length p) place ∙ ap (λ n. at + n) is.long;
        are = All-append (λ b. b < 2 ^ 8) front p had.are is.are;
        taken = next.2;
        whole = FrontOfFile-more told name size front (front ++ p) wanted count had.whole
            (OfFile-map told name _ _ (λ all e. subst (λ n. count ≡ min wanted (length all - n)) (sym place) e)
            is.count_is)
            (OfFile-map told name _ _ (λ all e. ap (λ (z : List ℕ). front ++ z)
            (e ∙ ap (λ n. take count (drop n all)) (sym place))) is.bytes_are);
      }

  -- and that no fault is fixed by what was read then
  pub piece_unsettled : (i j : PieceCheck H G) (at wanted count : ℕ)
      (had : HasTaken hash holds root q told name size at i)
      → TakesNext hash holds root q told name at wanted had.front (Ok (j, count))
      → OfFile told name ⊥ (λ bytes. IsUnsettled hash root (question q) (take (at + count) bytes))
  unfolding piece_taken
  piece_unsettled i j at wanted count had next =
      let now = piece_taken i j at wanted count had next in
      OfFile-map told name _ _
      (λ all h. subst (IsUnsettled hash root (question q)) (h.front_is ∙ ap (λ n. take n all) now.long) next.3)
      now.whole

  -- all of it is taken, since it is as long as the file, or since less came than was asked for
  pub file_taken : (i : PieceCheck H G) (at : ℕ) → size ≤ at → HasTaken hash holds root q told name size at i
      → IsAllTaken hash holds root q told name i
  file_taken i at all had = record {
    bytes = had.front;
    input = is_input told name had.front
        (FrontOfFile-whole told name size had.front (omega (arith, all, had.long)) had.whole) had.are;
    are = had.are;
    taken = had.taken;
  }

  pub short_taken : (i j : PieceCheck H G) (at wanted count : ℕ) (had : HasTaken hash holds root q told name size at i)
      → wanted ≤ size - at → count < wanted
      → TakesNext hash holds root q told name at wanted had.front (Ok (j, count))
      → IsAllTaken hash holds root q told name j
  short_taken i j at wanted count had room short next =
      let now = piece_taken i j at wanted count had next in
      let count_is = OfFile-map told name _ _ (λ all e. subst (λ n. count ≡ min wanted (length all - n))
      (sym had.long) e)
      next.1.count_is in
      record {
        bytes = now.front;
        input = is_input told name now.front (FrontOfFile-short told name size had.front wanted count _ had.whole
            count_is
            (omega (arith, room, had.long)) short) now.are;
        are = now.are;
        taken = now.taken;
      }

  -- where the piece that follows stops it
  pub file_stops : (i : PieceCheck H G) (at wanted : ℕ) (had : HasTaken hash holds root q told name size at i)
      → OfFile told name ⊤ AreBytes → (e : Stop) → StopsNext hash root q told name at wanted had.front e
      → StopsFile hash root q told name e
  file_stops i at wanted had bytes (stops.Refused f) next =
      let count = next.0 in
      let piece = next.1 in
      let is = next.2 in
      let front = had.front ++ piece in
      let whole = FrontOfFile-more told name size had.front front wanted count had.whole
      (OfFile-map told name _ _ (λ all e. subst (λ n. count ≡ min wanted (length all - n)) (sym had.long) e)
      is.count_is)
      (OfFile-map told name _ _ (λ all e. ap (λ (z : List ℕ). had.front ++ z)
      (e ∙ ap (λ n. take count (drop n all)) (sym had.long))) is.bytes_are) in
      let rest = continued told name size front whole (All-append (λ b. b < 2 ^ 8) had.front piece had.are is.are)
      bytes in
      record {
        bytes = front ++ rest.more;
        input = rest.input;
        are = rest.are;
        verdict_is = next.3 rest.more;
      }
  file_stops i at wanted had bytes stops.Missing next = tt
  file_stops i at wanted had bytes (stops.Halted halt) next = tt

  -- what the client answers at the end of the file
  pub ended : (i : PieceCheck H G) → (all : IsAllTaken hash holds root q told name i) (e : CheckErr)
      → AnswersVerdict (Err e) (verdict hash root q all.bytes) → StopsFile hash root q told name (stop_of_check e)
  ended i all (errors.Fault f) is =
      record { bytes = all.bytes; input = all.input; are = all.are; verdict_is = is }
  ended i all errors.NoMemory is = tt

-- what came of a read, where so many bytes were asked for
pub came_piece : (told : Option Files) (name : List ℕ) (at wanted count : ℕ) (before after behind : List ℕ)
    → length before ≡ wanted → length after ≡ length before → FillsFront before after count
    → OfFile told name ⊥ (GivesFrom at before after count)
    → AreBytes (take count (after ++ behind)) → IsPiece told name at wanted count (take count (after ++ behind))
came_piece told name at wanted count before after behind room same fills gives are =
    let low : count ≤ length after = omega (arith, fills.within, same) in
    let front : take count (after ++ behind) ≡ take count after = take-append-le count after behind low in
    record {
      long = ap length front ∙ length-take-le count after low;
      within = omega (arith, fills.within, room);
      are = are;
      count_is = OfFile-map told name _ _ (λ bytes g. subst (λ n. count ≡ min n (length bytes - at)) room g.count_is)
          gives;
      bytes_are = OfFile-map told name _ _
          (λ bytes g.
          let here = take count (drop at bytes) in
          let long : length here ≡ count =
          length-take-le count (drop at bytes) (omega (arith, g.count_is, length-drop at bytes)) in
          front ∙ ap (take count) g.bytes_are
          ∙ subst (λ n. take n (here ++ drop count before) ≡ here) long (take-append_seam here (drop count before)))
          gives;
    }

-- a piece with which the proof has a fault
pub next_stops : (hash : List ℕ → List ℕ) (root : List ℕ) (q : Query) (told : Option Files) (name : List ℕ)
    (at wanted count : ℕ) (front piece : List ℕ) → IsPiece told name at wanted count piece → (e : CheckErr)
    → IsStopped hash root (question q) (front ++ piece) e → StopsNext hash root q told name at wanted front
    (stop_of_check e)
next_stops hash root q told name at wanted count front piece is (errors.Fault f) stopped =
    (count, piece, is, λ more. refused hash root q ((front ++ piece) ++ more) f (stopped more))
next_stops hash root q told name at wanted count front piece is errors.NoMemory stopped = tt
