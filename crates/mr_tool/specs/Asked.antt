-- What a proof is asked to show, of one map or of two: the records that a query finds, the number of
-- those inside a window, or the pairs of two maps. And what there is of each: who checks and audits
-- its proofs, which of them is the honest one, what is printed then, and where bytes differ from the
-- maps. A promise on proofs is said once, of all of them.
use Rattle.std.specs.Prelude.{◌≡◌, ⊤, ℕ, ◌^◌, ◌<◌, List, [], ◌∷◌, Option, Some, None, Ok}
use Rattle.std.specs.Borrow.{Bor}
use Rattle.mr_geom.specs.Rectangle.{Rectangle}
use Rattle.mr_outside.specs.Bytes.{AreBytes}
use Rattle.mr_outside.specs.Files.{Files, file}
use Rattle.mr_record.specs.RecordText.{text_of}
use Rattle.mr_record.specs.declared.record.Record.{Record}
use Rattle.mr_record.specs.declared.version.Version.{Version}
use Rattle.mr_record.specs.declared.version.Version.TheVariants.{Two}
use Rattle.mr_tree.specs.Digest.{by}
use Rattle.mr_tree.specs.Tree.{records}
use Rattle.mr_tree.specs.WellFormed.{WellFormed, HasLayers}
use Rattle.mr_tree.specs.declared.tree.Tree.{Tree}
use Rattle.mr_pages.specs.Law.{IsMapFile, map_root, map_in}
use Rattle.mr_query.specs.Layers.{layers_named}
use Rattle.mr_query.specs.Scan.{scan}
use Rattle.mr_query.specs.Word.{asks}
use Rattle.mr_query.specs.declared.query.Query.{Query}
use Rattle.mr_query.specs.declared.query.Shape.TheVariants.{Window}
use Rattle.mr_proof.specs.Accepted.{ShowsCut, ProvesAnswer}
use Rattle.mr_proof.specs.Clash.{Pair, clash_of, clash, NoneAnd}
use Rattle.mr_proof.specs.Honest.{IsProofFor, IsProof}
use Rattle.mr_proof.specs.Spelling.{Parsed}
use Rattle.mr_proof.specs.Tight.{Question}
use Rattle.mr_proof.specs.declared.head.Kind.TheVariants as kind
use Rattle.mr_count.specs.Inside.{inside_way, count_inside}
use Rattle.mr_join.specs.Accepted.{Owned, IsOwned, join_proof, map_pairs, first_clash, second_clash}
use Rattle.mr_join.specs.declared.pair.Pair as joined
use Rattle.mr_plan.specs.Counts.{count_letter, count_question}
use Rattle.mr_plan.specs.Joins.{join_given, pair_lines, map_collision_lines, first_name, second_name}
use Rattle.mr_plan.specs.Lines.{counted_line, collision_lines}
use Rattle.mr_plan.specs.Words.{SpellsCommand}
use Rattle.mr_plan.specs.declared.words.Command.TheVariants as commands

-- the files are told, and the named one holds these bytes
abbrev pub HoldsBytes : Option Files → List ℕ → List ℕ → Type 0
HoldsBytes None name bytes = ⊥
HoldsBytes (Some files) name bytes = file files name ≡ Some bytes

-- the root digest of a map of version 2
abbrev pub owned_root : (List ℕ → List ℕ) → Owned → List ℕ
owned_root hash m = map_root hash (map_in Two m.tree m.batch)

-- Of the map of a version, with a tree and at a batch, the answer to a query; or how many of its
-- records lie inside a window and are on one of the layers that a mask names. Or of two maps of
-- version 2 all pairs of their records that meet.
pub data Asked : Type 0 where
  answer : Version → Tree → (batch : ℕ) → Query → Asked
  number : Version → Tree → (batch : ℕ) → (window : Rectangle) → (mask : Option ℕ) → Asked
  pairs : Owned → Owned → Asked

-- The maps are such as there may be. Of version 2 the layers are so in each well-formed tree.
abbrev pub AreMaps : Asked → Type 0
AreMaps (answer v t batch q) = WellFormed t × HasLayers v t × (batch < 2 ^ 64)
AreMaps (number v t batch w mask) = WellFormed t × HasLayers v t × (batch < 2 ^ 64)
AreMaps (pairs m n) = IsOwned m × IsOwned n

-- the words spell the check of the proof in a file, against the root digests of the maps
abbrev pub SpellsCheck : (List ℕ → List ℕ) → Asked → List (List ℕ) → (proof : Bor (List ℕ)) → Type 0
SpellsCheck hash (answer v t batch q) words proof =
    SpellsCommand words (commands.Check (map_root hash (map_in v t batch)) q proof)
SpellsCheck hash (number v t batch w mask) words proof =
    SpellsCommand words
    (commands.CheckCount (map_root hash (map_in v t batch)) (asks (Window w) mask) proof)
SpellsCheck hash (pairs m n) words proof =
    SpellsCommand words (commands.CheckJoin (owned_root hash m) (owned_root hash n) proof)

-- the file stands for the map
pub record HoldsTheMap (hash : List ℕ → List ℕ) (told : Option Files) (v : Version) (t : Tree)
    (batch : ℕ) (name : List ℕ) : Type 0 where
  pub bytes : List ℕ
  pub held : HoldsBytes told name bytes
  pub stands : IsMapFile hash bytes (map_in v t batch)

-- the words spell the audit of the proof in a file, beside files that stand for the maps
abbrev pub SpellsAuditOf : (List ℕ → List ℕ) → Asked → List (List ℕ) → Option Files
    → (proof : Bor (List ℕ)) → Type 0
SpellsAuditOf hash (answer v t batch q) words told proof = (map : Bor (List ℕ))
    × SpellsCommand words (commands.Audit map q proof)
    × HoldsTheMap hash told v t batch map.now
SpellsAuditOf hash (number v t batch w mask) words told proof = (map : Bor (List ℕ))
    × SpellsCommand words (commands.AuditCount map (asks (Window w) mask) proof)
    × HoldsTheMap hash told v t batch map.now
SpellsAuditOf hash (pairs m n) words told proof = (first : Bor (List ℕ)) × (second : Bor (List ℕ))
    × SpellsCommand words (commands.AuditJoin first second proof)
    × HoldsTheMap hash told Two m.tree m.batch first.now
    × HoldsTheMap hash told Two n.tree n.batch second.now

-- what is asked of the proof of a count
abbrev pub inside_question : Rectangle → (mask : Option ℕ) → Question
inside_question w mask = count_question (inside_way w (layers_named mask))

-- The bytes are the proof that an honest server gives. There is none of a map of version 1 where a
-- mask is named, nor for a count.
abbrev pub IsHonestOf : (List ℕ → List ℕ) → Asked → List ℕ → Type 0
IsHonestOf hash (answer v t batch q) bytes = IsProof (by v hash) t batch q bytes
IsHonestOf hash (number v t batch w mask) bytes =
    IsProofFor (by v hash) (inside_question w mask) t batch bytes
IsHonestOf hash (pairs m n) bytes = bytes ≡ join_proof hash hash m n

-- What is right, as lines: the records of a scan of the map, in lines of its version; their number;
-- the pairs.
abbrev pub right_lines : Asked → List ℕ
right_lines (answer v t batch q) = text_of v (scan (records t) q)
right_lines (number v t batch w mask) =
    counted_line (count_inside w (layers_named mask) (records t))
right_lines (pairs m n) = pair_lines (map_pairs m n)

-- the bytes are accepted against the root digests of the maps, with whatever they show
abbrev pub IsAcceptedOf : (List ℕ → List ℕ) → Asked → List ℕ → Type 0
IsAcceptedOf hash (answer v t batch q) bytes =
    (list : List Record) × ProvesAnswer hash (map_root hash (map_in v t batch)) q bytes list
IsAcceptedOf hash (number v t batch w mask) bytes =
    (said : Parsed)
    × ShowsCut hash (map_root hash (map_in v t batch)) (inside_question w mask) bytes said
IsAcceptedOf hash (pairs m n) bytes =
    (list : List joined.Pair)
    × (join_given hash (owned_root hash m) (owned_root hash n) bytes ≡ Ok list)

-- The first two strings that stand at one place of a map and of its part of the bytes and differ,
-- where there are two; and how an audit prints them.
pub record Clash : Type 0 where
  pub pair : Option Pair
  pub prints_as : Pair → List ℕ

abbrev pub of_one : Option Pair → Clash
of_one pair = record { pair = pair; prints_as = λ p. collision_lines p.owned p.shown }

abbrev pub of_named : (name : List ℕ) → Option Pair → Clash
of_named name pair = record {
  pair = pair;
  prints_as = λ p. map_collision_lines name p.owned p.shown;
}

-- of each map, in the order in which they are told
abbrev pub clashes_of : (List ℕ → List ℕ) → Asked → List ℕ → List Clash
clashes_of hash (answer v t batch q) bytes = of_one (clash (by v hash) t batch bytes) ∷ []
clashes_of hash (number v t batch w mask) bytes =
    of_one (clash_of (kind.Choice count_letter) (by v hash) t batch bytes) ∷ []
clashes_of hash (pairs m n) bytes =
    of_named first_name (first_clash (by Two hash) m bytes)
    ∷ of_named second_name (second_clash (by Two hash) n bytes) ∷ []

-- no map has two such strings and the fact holds; or the first two that there are, are a collision
abbrev pub NoneOf : (List ℕ → List ℕ) → List Clash → Type 0 → Type 0
NoneOf hash [] fact = fact
NoneOf hash (one ∷ others) fact = NoneAnd hash one.pair (NoneOf hash others fact)

-- What is known of the bytes of the file where a run stopped before it could have read them: of a
-- join's proof that they are bytes has to be given then.
abbrev pub AreGiven : Asked → List ℕ → Type 0
AreGiven (answer v t batch q) bytes = ⊤
AreGiven (number v t batch w mask) bytes = ⊤
AreGiven (pairs m n) bytes = AreBytes bytes
