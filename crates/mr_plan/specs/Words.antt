-- The words of the program's commands.
use Rattle.std.specs.Prelude.{◌≡◌, ◌≢◌, ℕ, ◌-◌, ◌^◌, ◌<◌, ◌≤◌, List, [], ◌∷◌, ◌++◌, length, map, codes, decimal, ⊤}
use Rattle.std.specs.List.{AllByRecursion}
use Rattle.hex.specs.Hex.{encode_lower}
use Rattle.mr_outside.specs.Bytes.{AreBytes}
use Rattle.mr_tree.specs.Limits.{count_limit}
use Rattle.mr_query.specs.Word.{IsQuery, word_of}
use Rattle.mr_query.specs.declared.query.Query.{Query}
use Rattle.mr_query.specs.declared.query.Shape.{Shape}
use Rattle.mr_query.specs.declared.query.Shape.TheVariants.{Window, Nearest}
use Rattle.mr_plan.specs.declared.words.Command.{Command}
use Rattle.mr_plan.specs.declared.words.Command.TheVariants as commands

-- a word, by what it stands for
pub data Word : Type 0 where
  -- the name of a command
  key : (name : List ℕ) → Word
  -- a file, by the bytes of its name
  file : (name : List ℕ) → Word
  digest : (bytes : List ℕ) → Word
  query : (asked : Query) → Word
  -- a query for a window
  window : (asked : Query) → Word
  -- a number from the one to the other of two bounds
  number : (least most value : ℕ) → Word

-- its one spelling: a digest is written in lower-case hexadecimal, a number in decimal
abbrev pub spelled : Word → List ℕ
spelled (key name) = name
spelled (file name) = name
spelled (digest bytes) = encode_lower bytes
spelled (query asked) = word_of asked
spelled (window asked) = word_of asked
spelled (number least most value) = decimal value

-- 32 bytes
pub record IsDigest (bytes : List ℕ) : Type 0 where
  pub size : length bytes ≡ 32
  pub each : AreBytes bytes

-- a window is asked for, and not the nearest records
abbrev pub IsWindow : Shape → Type 0
IsWindow (Window w) = ⊤
IsWindow (Nearest p k) = ⊥

-- what such a word may stand for: a file's name is not empty
abbrev pub IsWord : Word → Type 0
IsWord (key name) = ⊤
IsWord (file name) = 0 < length name
IsWord (digest bytes) = IsDigest bytes
IsWord (query asked) = IsQuery asked
IsWord (window asked) = IsQuery asked × IsWindow asked.shape
IsWord (number least most value) = (least ≤ value) × (value ≤ most)

-- the most records of a demonstration
abbrev pub demo_limit : ℕ
demo_limit = 2 ^ 16

-- where generated words may start: any number of 64 bits
abbrev pub seed_word : ℕ → Word
seed_word seed = number 0 (2 ^ 64 - 1) seed

-- the words of each command
abbrev pub words_of : Command → List Word
words_of (commands.Root records) = key (codes "root") ∷ file records.now ∷ []
words_of (commands.Root2 records) = key (codes "root2") ∷ file records.now ∷ []
words_of (commands.Build map records) =
    key (codes "build") ∷ file map.now ∷ file records.now ∷ []
words_of (commands.Build2 map records) =
    key (codes "build2") ∷ file map.now ∷ file records.now ∷ []
words_of (commands.Upgrade old new) =
    key (codes "upgrade") ∷ file old.now ∷ file new.now ∷ []
words_of (commands.List map) = key (codes "list") ∷ file map.now ∷ []
words_of (commands.Apply old batch new) =
    key (codes "apply") ∷ file old.now ∷ file batch.now ∷ file new.now ∷ []
words_of (commands.ApplyHere map batch) =
    key (codes "apply-here") ∷ file map.now ∷ file batch.now ∷ []
words_of (commands.Recover map) = key (codes "recover") ∷ file map.now ∷ []
words_of (commands.Prove map asked proof) =
    key (codes "prove") ∷ file map.now ∷ query asked ∷ file proof.now ∷ []
words_of (commands.Check root asked proof) =
    key (codes "check") ∷ digest root ∷ query asked ∷ file proof.now ∷ []
words_of (commands.Audit map asked proof) =
    key (codes "audit") ∷ file map.now ∷ query asked ∷ file proof.now ∷ []
words_of (commands.Count map asked proof) =
    key (codes "count") ∷ file map.now ∷ window asked ∷ file proof.now ∷ []
words_of (commands.CheckCount root asked proof) =
    key (codes "check-count") ∷ digest root ∷ window asked ∷ file proof.now ∷ []
words_of (commands.AuditCount map asked proof) =
    key (codes "audit-count") ∷ file map.now ∷ window asked ∷ file proof.now ∷ []
words_of (commands.Join first second proof) =
    key (codes "join") ∷ file first.now ∷ file second.now ∷ file proof.now ∷ []
words_of (commands.CheckJoin first second proof) =
    key (codes "check-join") ∷ digest first ∷ digest second ∷ file proof.now ∷ []
words_of (commands.AuditJoin first second proof) =
    key (codes "audit-join") ∷ file first.now ∷ file second.now ∷ file proof.now ∷ []
words_of (commands.Serve map script bundle) =
    key (codes "serve") ∷ file map.now ∷ file script.now ∷ file bundle.now ∷ []
words_of (commands.CheckAll root script bundle) =
    key (codes "check-all") ∷ digest root ∷ file script.now ∷ file bundle.now ∷ []
words_of (commands.Make count seed records) =
    key (codes "make") ∷ number 0 count_limit count ∷ seed_word seed ∷ file records.now ∷ []
words_of (commands.Demo count seed) =
    key (codes "demo") ∷ number 1 demo_limit count ∷ seed_word seed ∷ []

-- the files among some words, by their names
abbrev pub file_names : List Word → List (List ℕ)
file_names [] = []
file_names (file name ∷ words) = name ∷ file_names words
file_names (key name ∷ words) = file_names words
file_names (digest bytes ∷ words) = file_names words
file_names (query asked ∷ words) = file_names words
file_names (window asked ∷ words) = file_names words
file_names (number least most value ∷ words) = file_names words

-- the name of the journal beside a map's file
abbrev pub journal_of : List ℕ → List ℕ
journal_of map = map ++ codes ".journal"

-- the files that a command reads or writes and no word names
abbrev pub unnamed : Command → List (List ℕ)
unnamed (commands.ApplyHere map batch) = journal_of map.now ∷ []
unnamed (commands.Recover map) = journal_of map.now ∷ []
unnamed command = []

-- all files of a command
abbrev pub files_of : Command → List (List ℕ)
files_of command = file_names (words_of command) ++ unnamed command

-- no two of them are one
abbrev pub AreApart : List (List ℕ) → Type 0
AreApart [] = ⊤
AreApart (name ∷ names) = AllByRecursion (λ other. name ≢ other) names × AreApart names

-- the words spell this command
pub record SpellsCommand (words : List (List ℕ)) (command : Command) : Type 0 where
  pub each : AllByRecursion IsWord (words_of command)
  -- the files of a command are different ones
  pub apart : AreApart (files_of command)
  pub spelled : words ≡ map spelled (words_of command)
