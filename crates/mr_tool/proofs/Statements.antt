-- What a run promises of the proofs of answers, of counts and of joins, each by itself: the cases of
-- what is promised of all that may be asked.
use Rattle.std.specs.Prelude.{◌≡◌, ◌⊎◌, ℕ, ◌^◌, ◌<◌, List, ◌++◌, Option, Some, None, Ok}
use Rattle.std.specs.Borrow.{Bor}
use Rattle.mr_geom.specs.Rectangle.{Rectangle}
use Rattle.mr_outside.specs.Told.{TakesBytes}
use Rattle.mr_outside.specs.Bytes.{AreBytes}
use Rattle.mr_record.specs.RecordText.{text_of}
use Rattle.mr_record.specs.declared.record.Record.{Record}
use Rattle.mr_record.specs.declared.version.Version.{Version}
use Rattle.mr_record.specs.declared.version.Version.TheVariants.{Two}
use Rattle.mr_tree.specs.Digest.{Scheme, by}
use Rattle.mr_tree.specs.Digest as digests
use Rattle.mr_tree.specs.Tree.{records}
use Rattle.mr_tree.specs.WellFormed.{WellFormed, HasLayers}
use Rattle.mr_tree.specs.declared.tree.Tree.{Tree}
use Rattle.mr_pages.specs.Law.{IsMapFile, map_root, map_in}
use Rattle.mr_query.specs.Layers.{layers_named}
use Rattle.mr_query.specs.Scan.{scan}
use Rattle.mr_query.specs.Word.{asks}
use Rattle.mr_query.specs.declared.query.Query.{Query}
use Rattle.mr_query.specs.declared.query.Shape.TheVariants.{Window}
use Rattle.mr_proof.specs.Accepted.{ShowsCut, ProvesAnswer}
use Rattle.mr_proof.specs.Clash.{Pair, clash_of, clash, IsCollision, NoneAnd}
use Rattle.mr_proof.specs.Honest.{IsProofFor, IsProof}
use Rattle.mr_proof.specs.Spelling.{Parsed}
use Rattle.mr_proof.specs.declared.head.Kind.TheVariants as kind
use Rattle.mr_count.specs.Inside.{inside_way, count_inside}
use Rattle.mr_join.specs.Accepted.{Owned, IsOwned, join_proof, map_pairs, first_clash, second_clash}
use Rattle.mr_join.specs.declared.pair.Pair as joined
use Rattle.mr_command.specs.Answer.{World}
use Rattle.mr_plan.specs.Counts.{count_letter, count_question}
use Rattle.mr_plan.specs.Joins.{join_given, pair_lines, map_collision_lines, first_name, second_name}
use Rattle.mr_plan.specs.Lines.{counted_line, sound_line, collision_lines}
use Rattle.mr_plan.specs.Say.{ends, prints}
use Rattle.mr_plan.specs.Words.{SpellsCommand}
use Rattle.mr_plan.specs.declared.status.Status.{Status}
use Rattle.mr_plan.specs.declared.status.Status.TheVariants.{Done, Collision}
use Rattle.mr_plan.specs.declared.words.Command.TheVariants as commands
use Rattle.mr_tool.specs.Asked.{HoldsBytes, owned_root}
use Rattle.mr_tool.specs.Promises.{DeliversOutcome, HoldsAndDelivers}

-- `check` of the proof that an honest server gives, against the root digest of its map, prints
-- what a scan of the map's records gives, in lines of the map's version; for every map of either
-- version, and every query that has such a proof.
abbrev pub AnswersHonest : (List ℕ → List ℕ) → List (List ℕ) → World → World → Status → Type 0
AnswersHonest hash words before after status =
    (v : Version) (t : Tree) (batch : ℕ) (root : List ℕ) (q : Query) (proof : Bor (List ℕ))
    (bytes : List ℕ)
    → WellFormed t → HasLayers v t → batch < 2 ^ 64 → root ≡ map_root hash (map_in v t batch)
    → SpellsCommand words (commands.Check root q proof) → HoldsBytes before.shelf.files
    proof.now bytes
    → IsProof (by v hash) t batch q bytes
    → DeliversOutcome (prints (text_of v (scan (records t) q))) before after status

-- the bytes are those that an honest server gives, and what was printed is what a scan of the map's
-- records gives, in lines of the map's version
pub record PrintsScan (s : Scheme) (t : Tree) (batch : ℕ) (q : Query)
    (bytes : List ℕ) (before after : World) : Type 0 where
  pub own : IsProof s t batch q bytes
  pub printed : TakesBytes before.sink after.sink (text_of s.version (scan (records t) q))

-- the bytes prove an answer; and no two strings stand at one place of the map and of the bytes and
-- differ, the bytes are the honest proof and what was printed is the scan, or the first two that do
-- differ are byte strings with one hash
pub record IsWorth (s : Scheme) (t : Tree) (batch : ℕ) (q : Query)
    (bytes : List ℕ) (before after : World) : Type 0 where
  pub answer : List Record
  pub proves : ProvesAnswer s.of (digests.root s t batch) q bytes answer
  pub worth : NoneAnd s.of (clash s t batch bytes) (PrintsScan s t batch q bytes before after)

-- What it is worth that `check` accepts bytes against the root digest of a map, for every map of
-- either version, query and bytes.
abbrev pub AcceptsHonestOrCollides : (List ℕ → List ℕ) → List (List ℕ) → World → World → Status
    → Type 0
AcceptsHonestOrCollides hash words before after status =
    (v : Version) (t : Tree) (batch : ℕ) (root : List ℕ) (q : Query) (proof : Bor (List ℕ))
    (bytes : List ℕ)
    → WellFormed t → HasLayers v t → batch < 2 ^ 64 → root ≡ map_root hash (map_in v t batch)
    → SpellsCommand words (commands.Check root q proof) → HoldsBytes before.shelf.files
    proof.now bytes
    → status ≡ Done → IsWorth (by v hash) t batch q bytes before after

-- What an audit says of accepted bytes, by the first two strings that differ: that they are the
-- honest proof, and then these lines; or the two strings, which have one hash.
abbrev pub SaysSoundOrPair : (List ℕ → List ℕ) → (own : Type 0) → (lines : List ℕ) → Option Pair
    → World → World → Status → Type 0
SaysSoundOrPair hash own lines None before after status =
    own × DeliversOutcome (prints (sound_line ++ lines)) before after status
SaysSoundOrPair hash own lines (Some p) before after status = IsCollision hash p
    × DeliversOutcome (ends Collision (collision_lines p.owned p.shown)) before after status

-- `audit` says the scan
abbrev pub SaysWorth : Scheme → Tree → (batch : ℕ) → Query → List ℕ → Option Pair
    → World → World → Status → Type 0
SaysWorth s t batch q bytes pair before after status = SaysSoundOrPair s.of (IsProof s t batch q
    bytes) (text_of s.version (scan (records t) q)) pair before after status

-- So it says of each proof that is accepted against the root digest of the map, of either version,
-- that a file stands for.
abbrev pub AuditsAccepted : (List ℕ → List ℕ) → List (List ℕ) → World → World → Status → Type 0
AuditsAccepted hash words before after status =
    (v : Version) (t : Tree) (batch : ℕ) (map : Bor (List ℕ)) (q : Query) (proof : Bor (List ℕ))
    (held bytes : List ℕ) (answer : List Record)
    → SpellsCommand words (commands.Audit map q proof) → HoldsBytes before.shelf.files map.now held
    → IsMapFile hash held (map_in v t batch) → HoldsBytes before.shelf.files proof.now bytes
    → ProvesAnswer hash (map_root hash (map_in v t batch)) q bytes answer
    → SaysWorth (by v hash) t batch q bytes (clash (by v hash) t batch bytes) before after status

-- the words spell an audit of the proof of an answer, or of a count
abbrev pub SpellsAudit : List (List ℕ) → (map : Bor (List ℕ)) → Query → (proof : Bor (List ℕ))
    → Type 0
SpellsAudit words map q proof = SpellsCommand words (commands.Audit map q proof)
    ⊎ SpellsCommand words (commands.AuditCount map q proof)

-- Two strings that an audit shows as a collision are bytes, differ and have one hash, whether files
-- are told or not; that they are the printed ones is known where the sink tells what it takes.
abbrev pub CollidesRightly : (List ℕ → List ℕ) → List (List ℕ) → World → World → Status → Type 0
CollidesRightly hash words before after status =
    (map : Bor (List ℕ)) (q : Query) (proof : Bor (List ℕ)) → SpellsAudit words map q proof
    → status ≡ Collision
    → (p : Pair) × IsCollision hash p
    × TakesBytes before.sink after.sink (collision_lines p.owned p.shown)

-- ---- counts

-- `check-count` of the proof that an honest server gives, against the root digest of its map of
-- version 2, prints how many of the map's records lie inside the window and are on one of the
-- layers asked for.
abbrev pub CountsHonest : (List ℕ → List ℕ) → List (List ℕ) → World → World → Status → Type 0
CountsHonest hash words before after status =
    (t : Tree) (batch : ℕ) (root : List ℕ) (window : Rectangle) (mask : Option ℕ)
    (proof : Bor (List ℕ)) (bytes : List ℕ)
    → WellFormed t → batch < 2 ^ 64 → root ≡ map_root hash (map_in Two t batch)
    → SpellsCommand words (commands.CheckCount root (asks (Window window) mask) proof)
    → HoldsBytes before.shelf.files proof.now bytes
    → IsProofFor (by Two hash) (count_question (inside_way window (layers_named mask))) t batch
    bytes
    → DeliversOutcome (prints (counted_line (count_inside window (layers_named mask) (records t))))
    before after status

-- the bytes are those that an honest server gives, and what was printed is how many of the map's
-- records lie inside the window and are on one of the layers
pub record PrintsCount (s : Scheme) (t : Tree) (batch : ℕ) (window : Rectangle) (layers : ℕ)
    (bytes : List ℕ) (before after : World) : Type 0 where
  pub own : IsProofFor s (count_question (inside_way window layers)) t batch bytes
  pub printed : TakesBytes before.sink after.sink
      (counted_line (count_inside window layers (records t)))

-- the bytes show what is asked; and no two strings stand at one place of the map and of the bytes
-- and differ, the bytes are the honest proof and what was printed is the number, or the first two
-- that do differ have one hash
pub record IsCountWorth (s : Scheme) (t : Tree) (batch : ℕ) (window : Rectangle) (layers : ℕ)
    (bytes : List ℕ) (before after : World) : Type 0 where
  pub said : Parsed
  pub shows : ShowsCut s.of (digests.root s t batch) (count_question (inside_way window layers))
      bytes said
  pub worth : NoneAnd s.of (clash_of (kind.Choice count_letter) s t batch bytes)
      (PrintsCount s t batch window layers bytes before after)

-- What it is worth that `check-count` accepts bytes against the root digest of a map, for every map
-- of either version, window, mask and bytes. (A map of version 1 has no honest proof of a count, so
-- there two strings always have one hash.)
abbrev pub CountsOrCollides : (List ℕ → List ℕ) → List (List ℕ) → World → World → Status → Type 0
CountsOrCollides hash words before after status =
    (v : Version) (t : Tree) (batch : ℕ) (root : List ℕ) (window : Rectangle) (mask : Option ℕ)
    (proof : Bor (List ℕ)) (bytes : List ℕ)
    → WellFormed t → HasLayers v t → batch < 2 ^ 64 → root ≡ map_root hash (map_in v t batch)
    → SpellsCommand words (commands.CheckCount root (asks (Window window) mask) proof)
    → HoldsBytes before.shelf.files proof.now bytes
    → status ≡ Done
    → IsCountWorth (by v hash) t batch window (layers_named mask) bytes before after

-- What `audit-count` says of each proof of a count that is accepted against the root digest of the
-- map, of either version, that a file stands for: that it is the honest proof, and the number; or
-- the first two strings that differ, which have one hash.
abbrev pub AuditsAcceptedCount : (List ℕ → List ℕ) → List (List ℕ) → World → World → Status → Type 0
AuditsAcceptedCount hash words before after status =
    (v : Version) (t : Tree) (batch : ℕ) (map : Bor (List ℕ)) (window : Rectangle)
    (mask : Option ℕ) (proof : Bor (List ℕ)) (held bytes : List ℕ) (said : Parsed)
    → SpellsCommand words (commands.AuditCount map (asks (Window window) mask) proof)
    → HoldsBytes before.shelf.files map.now held
    → IsMapFile hash held (map_in v t batch) → HoldsBytes before.shelf.files proof.now bytes
    → ShowsCut hash (map_root hash (map_in v t batch))
    (count_question (inside_way window (layers_named mask))) bytes said
    → SaysSoundOrPair hash
    (IsProofFor (by v hash) (count_question (inside_way window (layers_named mask))) t batch bytes)
    (counted_line (count_inside window (layers_named mask) (records t)))
    (clash_of (kind.Choice count_letter) (by v hash) t batch bytes) before after status

-- ---- joins

-- `check-join` of the proof that an honest server gives, against the root digests of its two maps
-- of version 2, prints all pairs of their records whose rectangles meet, a line for each.
abbrev pub JoinsHonest : (List ℕ → List ℕ) → List (List ℕ) → World → World → Status → Type 0
JoinsHonest hash words before after status =
    (m n : Owned) (first second : List ℕ) (proof : Bor (List ℕ)) (bytes : List ℕ)
    → IsOwned m → IsOwned n → first ≡ owned_root hash m → second ≡ owned_root hash n
    → SpellsCommand words (commands.CheckJoin first second proof)
    → HoldsBytes before.shelf.files proof.now bytes → bytes ≡ join_proof hash hash m n
    → DeliversOutcome (prints (pair_lines (map_pairs m n))) before after status

-- the bytes are those that an honest server gives, and what was printed are exactly the pairs of
-- one record of each map whose rectangles meet
pub record PrintsPairs (hash : List ℕ → List ℕ) (m n : Owned) (bytes : List ℕ)
    (before after : World) : Type 0 where
  pub own : bytes ≡ join_proof hash hash m n
  pub printed : TakesBytes before.sink after.sink (pair_lines (map_pairs m n))

-- The bytes prove pairs. And no two strings stand at one place of the first map and of its part of
-- the bytes and differ, nor of the second map, the bytes are the honest proof and what was printed
-- are all pairs; or the first two that do differ, of the first map or else of the second, have one
-- hash.
pub record IsJoinWorth (hash : List ℕ → List ℕ) (m n : Owned) (bytes : List ℕ)
    (before after : World) : Type 0 where
  pub pairs : List joined.Pair
  pub given : join_given hash (owned_root hash m) (owned_root hash n) bytes ≡ Ok pairs
  pub worth : NoneAnd hash (first_clash (by Two hash) m bytes)
      (NoneAnd hash (second_clash (by Two hash) n bytes) (PrintsPairs hash m n bytes before after))

-- What it is worth that `check-join` accepts bytes against the root digests of two maps of version
-- 2, for every two maps and bytes.
abbrev pub JoinsOrCollides : (List ℕ → List ℕ) → List (List ℕ) → World → World → Status → Type 0
JoinsOrCollides hash words before after status =
    (m n : Owned) (first second : List ℕ) (proof : Bor (List ℕ)) (bytes : List ℕ)
    → IsOwned m → IsOwned n → first ≡ owned_root hash m → second ≡ owned_root hash n
    → SpellsCommand words (commands.CheckJoin first second proof)
    → HoldsBytes before.shelf.files proof.now bytes → status ≡ Done
    → IsJoinWorth hash m n bytes before after

-- What an audit says of an accepted join, by the first two strings of either map that differ: that
-- the bytes are the honest proof, and then these lines; or the two strings, which have one hash.
abbrev pub SaysJoinOrPair : (List ℕ → List ℕ) → (are own : Type 0) → (lines : List ℕ)
    → (first second : Option Pair) → World → World → Status → Type 0
SaysJoinOrPair hash are own lines None None before after status =
    HoldsAndDelivers are own (prints (sound_line ++ lines)) before after status
SaysJoinOrPair hash are own lines None (Some p) before after status =
    HoldsAndDelivers are (IsCollision hash p)
    (ends Collision (map_collision_lines second_name p.owned p.shown)) before after status
SaysJoinOrPair hash are own lines (Some p) second before after status =
    HoldsAndDelivers are (IsCollision hash p)
    (ends Collision (map_collision_lines first_name p.owned p.shown)) before after status

-- So `audit-join` says of each proof that is accepted against the root digests of the two maps of
-- version 2 that files stand for.
abbrev pub AuditsAcceptedJoin : (List ℕ → List ℕ) → List (List ℕ) → World → World → Status → Type 0
AuditsAcceptedJoin hash words before after status =
    (m n : Owned) (first second proof : Bor (List ℕ)) (one other bytes : List ℕ)
    (pairs : List joined.Pair)
    → SpellsCommand words (commands.AuditJoin first second proof)
    → HoldsBytes before.shelf.files first.now one → IsMapFile hash one (map_in Two m.tree m.batch)
    → HoldsBytes before.shelf.files second.now other
    → IsMapFile hash other (map_in Two n.tree n.batch)
    → HoldsBytes before.shelf.files proof.now bytes
    → join_given hash (owned_root hash m) (owned_root hash n) bytes ≡ Ok pairs
    → SaysJoinOrPair hash (AreBytes bytes) (bytes ≡ join_proof hash hash m n)
    (pair_lines (map_pairs m n)) (first_clash (by Two hash) m bytes)
    (second_clash (by Two hash) n bytes) before after status

-- Two strings that it shows as a collision, of the first map or of the second, are bytes, differ
-- and have one hash, whether files are told or not; that they are the printed ones is known where
-- the sink tells what it takes.
abbrev pub JoinsCollideRightly : (List ℕ → List ℕ) → List (List ℕ) → World → World → Status
    → Type 0
JoinsCollideRightly hash words before after status =
    (first second proof : Bor (List ℕ))
    → SpellsCommand words (commands.AuditJoin first second proof) → status ≡ Collision
    → (name : List ℕ) × ((name ≡ first_name) ⊎ (name ≡ second_name)) × ((p : Pair)
    × IsCollision hash p
    × TakesBytes before.sink after.sink (map_collision_lines name p.owned p.shown))
