-- Commands by their words: the words spell one command at most, and it is the one that is read.
use Rattle.std.proofs.Common.{append-nil, ◌≡◌, ◌≢◌, ℕ, ◌≤◌, Bool, true, false, ◌&&◌, leb, get_or, List, [], ◌∷◌, ◌++◌, length, map, Option, Some, None, refl, sym, ap, subst, ◌∙◌, arith}
use Rattle.std.specs.Prelude.{bytes_eq, codes, if◌then◌else◌}
use Rattle.std.specs.Borrow.{Bor}
use Rattle.std.specs.List.{AllByRecursion, list_all}
use Rattle.std.proofs.lemmas.Bool.{and_parts, both_ways, leb-true}
use Rattle.std.proofs.lemmas.List.{length-append}
use Rattle.mr_query.specs.declared.query.Query.{Query}
use Rattle.mr_plan.specs.private.Kinds.{Reading, kinds_of, name_of, no_query, first_word, start, all_next, past_all, is_complete, spares, spares_any, GivesCommand}
use Rattle.mr_plan.specs.Spelling.{IsSpelled, AsksAs}
use Rattle.mr_plan.specs.Words.{Word, key, file, digest, query, window, number, spelled, words_of, IsWord, AreApart, file_names, files_of, journal_of, unnamed, SpellsCommand}
use Rattle.mr_plan.specs.declared.words.Command.{Command}
use Rattle.mr_plan.specs.declared.words.Command.TheVariants as commands
use Rattle.mr_plan.proofs.Reading.{AreNew, differ, is_low, keeps_apart, stand, read_again, read_whole, apart_new, new_apart, names_named}

-- ---- the table: a command by its words, the first of which is its name

-- what stands at a place of some words, by what it stands for
abbrev bytes_in : Word → List ℕ
bytes_in (key name) = name
bytes_in (file name) = name
bytes_in (digest bytes) = bytes
bytes_in (query asked) = []
bytes_in (window asked) = []
bytes_in (number least most value) = []

abbrev query_in : Word → Query
query_in (query asked) = asked
query_in (window asked) = asked
query_in word = no_query

abbrev value_in : Word → ℕ
value_in (number least most value) = value
value_in word = 0

abbrev bytes_at : ℕ → List Word → List ℕ
bytes_at place words = bytes_in (get_or words place (key []))

abbrev query_at : ℕ → List Word → Query
query_at place words = query_in (get_or words place (key []))

abbrev value_at : ℕ → List Word → ℕ
value_at place words = value_in (get_or words place (key []))

-- all texts lie at one place
abbrev text_at : ℕ → List Word → Bor (List ℕ)
text_at place words = record { ref_ptr = (0, 0); now = bytes_at place words }

record Row : Type 0 where
  name : List ℕ
  made : List Word → Command

abbrev row : List ℕ → (List Word → Command) → Row
row name made = record { name = name; made = made }

abbrev rows : List Row
rows =
    row (codes "root") (λ ws. commands.Root (text_at 1 ws)) ∷
    row (codes "root2") (λ ws. commands.Root2 (text_at 1 ws)) ∷
    row (codes "build") (λ ws. commands.Build (text_at 1 ws) (text_at 2 ws)) ∷
    row (codes "build2") (λ ws. commands.Build2 (text_at 1 ws) (text_at 2 ws)) ∷
    row (codes "list") (λ ws. commands.List (text_at 1 ws)) ∷
    row (codes "upgrade") (λ ws. commands.Upgrade (text_at 1 ws) (text_at 2 ws)) ∷
    row (codes "apply") (λ ws. commands.Apply (text_at 1 ws) (text_at 2 ws) (text_at 3 ws)) ∷
    row (codes "apply-here") (λ ws. commands.ApplyHere (text_at 1 ws) (text_at 2 ws)) ∷
    row (codes "recover") (λ ws. commands.Recover (text_at 1 ws)) ∷
    row (codes "prove") (λ ws. commands.Prove (text_at 1 ws) (query_at 2 ws) (text_at 3 ws)) ∷
    row (codes "check") (λ ws. commands.Check (bytes_at 1 ws) (query_at 2 ws) (text_at 3 ws)) ∷
    row (codes "audit") (λ ws. commands.Audit (text_at 1 ws) (query_at 2 ws) (text_at 3 ws)) ∷
    row (codes "count") (λ ws. commands.Count (text_at 1 ws) (query_at 2 ws) (text_at 3 ws)) ∷
    row (codes "check-count") (λ ws. commands.CheckCount (bytes_at 1 ws) (query_at 2 ws) (text_at 3 ws)) ∷
    row (codes "audit-count") (λ ws. commands.AuditCount (text_at 1 ws) (query_at 2 ws) (text_at 3 ws)) ∷
    row (codes "join") (λ ws. commands.Join (text_at 1 ws) (text_at 2 ws) (text_at 3 ws)) ∷
    row (codes "check-join") (λ ws. commands.CheckJoin (bytes_at 1 ws) (bytes_at 2 ws) (text_at 3 ws)) ∷
    row (codes "audit-join") (λ ws. commands.AuditJoin (text_at 1 ws) (text_at 2 ws) (text_at 3 ws)) ∷
    row (codes "serve") (λ ws. commands.Serve (text_at 1 ws) (text_at 2 ws) (text_at 3 ws)) ∷
    row (codes "check-all") (λ ws. commands.CheckAll (bytes_at 1 ws) (text_at 2 ws) (text_at 3 ws)) ∷
    row (codes "make") (λ ws. commands.Make (value_at 1 ws) (value_at 2 ws) (text_at 3 ws)) ∷
    row (codes "demo") (λ ws. commands.Demo (value_at 1 ws) (value_at 2 ws)) ∷ []

abbrev made_of : List Row → List ℕ → List Word → Command
made_of [] name words = commands.Demo 0 0
made_of (r ∷ rs) name words = if bytes_eq r.name name then r.made words else made_of rs name words

-- the command that these words stand for
abbrev pub command_of_words : List Word → Command
command_of_words words = made_of rows (bytes_at 0 words) words

-- what its words have to be goes by its name
kinds_named : (command : Command) → kinds_of command ≡ kinds_of (made_of rows (name_of command) [])
kinds_named (commands.Root records) = refl
kinds_named command = refl

same_kinds : (a b : Command) → name_of a ≡ name_of b → kinds_of a ≡ kinds_of b
same_kinds a b name = kinds_named a ∙ ap (λ n. kinds_of (made_of rows n [])) name ∙ sym (kinds_named b)

-- the first word is the name of no command
pub no_command : (old new : Reading) (name : List ℕ) → name ≡ first_word old.words
    → (name ≡ codes "root" → ⊥)
    → (name ≡ codes "root2" → ⊥)
    → (name ≡ codes "build" → ⊥)
    → (name ≡ codes "build2" → ⊥)
    → (name ≡ codes "list" → ⊥)
    → (name ≡ codes "upgrade" → ⊥)
    → (name ≡ codes "apply" → ⊥)
    → (name ≡ codes "apply-here" → ⊥)
    → (name ≡ codes "recover" → ⊥)
    → (name ≡ codes "prove" → ⊥)
    → (name ≡ codes "check" → ⊥)
    → (name ≡ codes "audit" → ⊥)
    → (name ≡ codes "count" → ⊥)
    → (name ≡ codes "check-count" → ⊥)
    → (name ≡ codes "audit-count" → ⊥)
    → (name ≡ codes "join" → ⊥)
    → (name ≡ codes "check-join" → ⊥)
    → (name ≡ codes "audit-join" → ⊥)
    → (name ≡ codes "serve" → ⊥)
    → (name ≡ codes "check-all" → ⊥)
    → (name ≡ codes "make" → ⊥)
    → (name ≡ codes "demo" → ⊥)
    → GivesCommand old None new
no_command old new name same a b c d e f g h j k l m n o p q r s t u v w (commands.Root records) is = a (same ∙ sym is)
no_command old new name same a b c d e f g h j k l m n o p q r s t u v w command is = search (same ∙ sym is)

-- ---- for all commands

-- a command has three files at most, and its numbers fit 64 bits
abbrev is_plain : List Word → Bool
is_plain words = leb (length (file_names words)) 3 && list_all is_low words

plain : (command : Command) → is_plain (words_of command) ≡ true
plain (commands.Root records) = refl
plain command = refl

few_files : (command : Command) → length (file_names (words_of command)) ≤ 3
few_files command = leb-true _ _ (and_parts _ _ (plain command)).0

low_numbers : (command : Command) → list_all is_low (words_of command) ≡ true
low_numbers command = (and_parts _ _ (plain command)).1

-- ---- files that no word names

front_apart : (a b : List (List ℕ)) → AreApart (a ++ b) → AreApart a
front_apart [] b apart = tt
front_apart (x ∷ a) b apart = (front_each (λ other. x ≢ other) a b apart.0, front_apart a b apart.1)
  where
    front_each : (P : List ℕ → Type 0) (a b : List (List ℕ)) → AllByRecursion P (a ++ b) → AllByRecursion P a
    front_each P [] b each = tt
    front_each P (x ∷ a) b each = (each.0, front_each P a b each.1)

-- a journal has another name than its map
longer_name : (map : List ℕ) → map ≢ journal_of map
longer_name map same = omega (arith, ap length same, length-append map (codes ".journal"))

spared : (command : Command) → AreApart (file_names (words_of command)) → spares command ≡ true
    → AreApart (files_of command)
spared (commands.ApplyHere map batch) apart is =
    ((apart.0.0, (longer_name map.now, tt)), ((differ batch.now (journal_of map.now) is, tt), (tt, tt)))
spared (commands.Recover map) apart is = ((longer_name map.now, tt), (tt, tt))
spared command apart is = subst AreApart (sym (append-nil (file_names (words_of command)))) apart

spares_so : (command : Command) → AreApart (files_of command) → spares command ≡ true
spares_so (commands.ApplyHere map batch) apart = keeps_apart batch.now (journal_of map.now) apart.1.0.0
spares_so (commands.Recover map) apart = refl
spares_so command apart = refl

-- it goes by the words
spares_words : (command : Command) → spares command ≡ spares (command_of_words (words_of command))
spares_words (commands.ApplyHere map batch) = refl
spares_words command = refl

spares_same : (a b : Command) → words_of a ≡ words_of b → spares a ≡ spares b
spares_same a b same = spares_words a ∙ ap (λ ws. spares (command_of_words ws)) same ∙ sym (spares_words b)

-- words that spell a command are read as its words
found_words : (words : List (List ℕ)) (command : Command) → SpellsCommand words command
    → all_next (kinds_of command) (start words) ≡ words_of command
found_words words command spells =
    subst (λ ws. all_next (kinds_of command) (start ws) ≡ words_of command) (sym spells.spelled)
    (read_again (words_of command) [] [] true (low_numbers command) spells.each)

-- and each of them is what it has to be
found_whole : (words : List (List ℕ)) (command : Command) → SpellsCommand words command
    → is_complete (past_all (kinds_of command) (start words)) ≡ true
found_whole words command spells =
    subst (λ ws. is_complete (past_all (kinds_of command) (start ws)) ≡ true) (sym spells.spelled)
    (read_whole (words_of command) [] [] true refl (low_numbers command) spells.each
    (new_apart (file_names (words_of command)) (few_files command) (names_named (words_of command) spells.each)
    (front_apart (file_names (words_of command)) (unnamed command) spells.apart)))

ask_same : (words : List (List ℕ)) (a b : Command) → SpellsCommand words a → SpellsCommand words b
    → AsksAs (Some a) (Some b)
ask_same words a b spells_a spells_b =
    let kinds = same_kinds a b (ap first_word (sym spells_a.spelled ∙ spells_b.spelled)) in
    ap Some (sym (found_words words a spells_a) ∙ ap (λ kinds. all_next kinds (start words)) kinds
    ∙ found_words words b spells_b)

-- the words spell one command at most
pub one_command : (words : List (List ℕ)) (a b : Option Command) → IsSpelled words a
    → IsSpelled words b → AsksAs a b
one_command words None None spelled_a spelled_b = refl
one_command words (Some a) (Some b) spelled_a spelled_b = ask_same words a b spelled_a spelled_b
one_command words (Some a) None spelled_a spelled_b = absurd (spelled_b a spelled_a)
one_command words None (Some b) spelled_a spelled_b = absurd (spelled_a b spelled_b)

-- no word stands for a command
none_named : (words : List (List ℕ)) (old new : Reading) → old ≡ start words → GivesCommand old None new
    → IsSpelled words None
none_named words old new is gives = λ command spells.
    gives command (sym (ap first_word spells.spelled) ∙ ap (λ (r : Reading). first_word r.words) (sym is))

-- words that were read as they have to be spell the command
read_right : (words : List (List ℕ)) (old new : Reading) (command : Command) → old ≡ start words
    → GivesCommand old (Some command) new → is_complete new ≡ true → spares command ≡ true → SpellsCommand words command
read_right words old new command is gives whole spare =
    let past : new ≡ past_all (kinds_of command) (start words) =
    gives.goes_past ∙ ap (past_all (kinds_of command)) is in
    let all = stand (kinds_of command) words [] [] true (sym (ap is_complete past) ∙ whole) in
    let same : words_of command ≡ all_next (kinds_of command) (start words) =
    gives.are_next ∙ ap (all_next (kinds_of command)) is in
    record {
      each = subst (λ ws. AllByRecursion IsWord ws) (sym same) all.each;
      apart = spared command (apart_new (file_names (words_of command)) (few_files command)
          (subst (λ ws. AreNew [] [] (file_names ws)) (sym same) all.new)) spare;
      spelled = all.spelled_so ∙ ap (map spelled) (sym same);
    }

-- others spell no command
read_wrong : (words : List (List ℕ)) (old new : Reading) (read : Command) → old ≡ start words
    → GivesCommand old (Some read) new → is_complete new ≡ false → IsSpelled words None
read_wrong words old new read is gives broken = λ command spells.
    let name : name_of command ≡ name_of read = sym (ap first_word spells.spelled)
    ∙ ap (λ (r : Reading). first_word r.words) (sym is) ∙ sym gives.bears_name in
    let kinds = same_kinds command read name in
    let past : new ≡ past_all (kinds_of command) (start words) = gives.goes_past
    ∙ ap (past_all (kinds_of read)) is ∙ ap (λ k. past_all k (start words)) (sym kinds) in
    both_ways (is_complete new) broken (ap is_complete past ∙ found_whole words command spells)

-- a file of theirs is one that the command changes besides: they spell no command
read_over : (words : List (List ℕ)) (old new : Reading) (read : Command) → old ≡ start words
    → GivesCommand old (Some read) new → spares read ≡ false → IsSpelled words None
read_over words old new read is gives over = λ command spells.
    let name : name_of command ≡ name_of read = sym (ap first_word spells.spelled)
    ∙ ap (λ (r : Reading). first_word r.words) (sym is) ∙ sym gives.bears_name in
    let kinds = same_kinds command read name in
    let same : words_of read ≡ words_of command =
    gives.are_next ∙ ap (all_next (kinds_of read)) is ∙ ap (λ k. all_next k (start words)) (sym kinds)
    ∙ found_words words command spells in
    both_ways (spares read) over (spares_same read command same ∙ spares_so command spells.apart)

-- what was read is what the words spell, if they were read as they have to be, and else they spell nothing
pub spelled_whole : (words : List (List ℕ)) (old new : Reading) (command : Option Command) (whole spare : Bool)
    → old ≡ start words → GivesCommand old command new → whole ≡ is_complete new → whole ≡ true
    → spare ≡ spares_any command → spare ≡ true → IsSpelled words command
spelled_whole words old new None whole spare is gives e right f apart = none_named words old new is gives
spelled_whole words old new (Some command) whole spare is gives e right f apart =
    read_right words old new command is gives (sym e ∙ right) (sym f ∙ apart)

pub spelled_not : (words : List (List ℕ)) (old new : Reading) (command : Option Command) (whole : Bool)
    → old ≡ start words → GivesCommand old command new → whole ≡ is_complete new → whole ≡ false
    → IsSpelled words None
spelled_not words old new None whole is gives e wrong = none_named words old new is gives
spelled_not words old new (Some command) whole is gives e wrong =
    read_wrong words old new command is gives (sym e ∙ wrong)

pub spelled_over : (words : List (List ℕ)) (old new : Reading) (command : Option Command) (spare : Bool)
    → old ≡ start words → GivesCommand old command new → spare ≡ spares_any command → spare ≡ false
    → IsSpelled words None
spelled_over words old new None spare is gives f over = none_named words old new is gives
spelled_over words old new (Some command) spare is gives f over =
    read_over words old new command is gives (sym f ∙ over)
