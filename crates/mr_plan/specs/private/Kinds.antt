-- How the words of a command are read, one after the other, each as what it has to be. Nothing of
-- this has to be believed: no public contract cites it.
use Rattle.std.specs.Prelude.{◌≡◌, ℕ, pos, nat_eq, nat_le, Bool, true, false, not, ◌&&◌, if◌then◌else◌, List, [], ◌∷◌, length, map, replicate, bytes_eq, string_bytes, Option, Some, None, is_some, is_ok, unwrap_or, Result, Ok, Err}
use Rattle.std.specs.Result.{result_unwrap_or}
use Rattle.mr_record.specs.Decimal.{u64_of}
use Rattle.mr_query.specs.Word.{asks, query_of}
use Rattle.mr_query.specs.declared.query.Query.{Query}
use Rattle.mr_query.specs.declared.query.Shape.{Shape}
use Rattle.mr_query.specs.declared.query.Shape.TheVariants as shapes
use Rattle.mr_query.specs.declared.query.QueryFault.{QueryFault}
use Rattle.mr_plan.specs.private.Asking.{digest_of_word}
use Rattle.mr_plan.specs.Words.{Word, key, file, digest, query, window, number, spelled, words_of, journal_of}
use Rattle.mr_plan.specs.declared.reader.Reader.{Reader}
use Rattle.mr_plan.specs.declared.words.Command.{Command}
use Rattle.mr_plan.specs.declared.words.Command.TheVariants as commands

-- what a word has to be
pub data Kind : Type 0 where
  key_word : Kind
  file_word : Kind
  digest_word : Kind
  query_word : Kind
  window_word : Kind
  number_word : (least most : ℕ) → Kind

abbrev pub kind_of : Word → Kind
kind_of (key name) = key_word
kind_of (file name) = file_word
kind_of (digest bytes) = digest_word
kind_of (query asked) = query_word
kind_of (window asked) = window_word
kind_of (number least most value) = number_word least most

-- what the words of a command have to be
abbrev pub kinds_of : Command → List Kind
kinds_of command = map kind_of (words_of command)

abbrev pub first_word : List (List ℕ) → List ℕ
first_word [] = []
first_word (word ∷ words) = word

abbrev pub other_words : List (List ℕ) → List (List ℕ)
other_words [] = []
other_words (word ∷ words) = words

abbrev pub has_words : List (List ℕ) → Bool
has_words [] = false
has_words (word ∷ words) = true

-- the name of a command
abbrev pub name_of : Command → List ℕ
name_of command = first_word (map spelled (words_of command))

-- ---- how far reading has come

-- the words that are left; the last file so far and the one before it, by a name of no bytes where
-- there is none; and whether each word so far was what it had to be
pub record Reading : Type 0 where
  pub words : List (List ℕ)
  pub last : List ℕ
  pub earlier : List ℕ
  pub is_right : Bool

unfoldable pub reading_of : Reader → Reading
reading_of r = record {
  words = map string_bytes r.words.now;
  last = r.last.now;
  earlier = r.earlier.now;
  is_right = r.is_right;
}

-- nothing is read yet
abbrev pub start : List (List ℕ) → Reading
start words = record { words = words; last = []; earlier = []; is_right = true }

-- a word is taken, which has to be there
abbrev pub taken : Reading → Reading
taken r = record {
  words = other_words r.words;
  last = r.last;
  earlier = r.earlier;
  is_right = has_words r.words && r.is_right;
}

-- the word that was taken is what it has to be, or not
abbrev pub noted : Bool → Reading → Reading
noted was_right r = record {
  words = r.words;
  last = r.last;
  earlier = r.earlier;
  is_right = was_right && r.is_right;
}

-- this was the name of a file
abbrev pub named : List ℕ → Reading → Reading
named name r = record { words = r.words; last = name; earlier = r.last; is_right = r.is_right }

-- each word was what it had to be, and none is left
unfoldable pub is_complete : Reading → Bool
is_complete r = r.is_right && nat_eq (length r.words) 0

-- ---- one word

-- the name is not empty, and none of two others
abbrev pub is_fresh : (name last earlier : List ℕ) → Bool
is_fresh name last earlier =
    not (nat_eq (length name) 0) && (not (bytes_eq name last) && not (bytes_eq name earlier))

-- the number, if it is from the one to the other
abbrev pub within : (least most : ℕ) → Option ℕ → Option ℕ
within least most None = None
within least most (Some n) = if nat_le least n && nat_le n most then Some n else None

abbrev pub is_window : Shape → Bool
is_window (shapes.Window w) = true
is_window (shapes.Nearest p k) = false

-- the query of a word, if it is for a window
abbrev pub if_window : Result Query QueryFault → Option Query
if_window (Ok q) = if is_window q.shape then Some q else None
if_window (Err fault) = None

-- the word is what it has to be, where these were the last two files
abbrev pub fits : Kind → (word last earlier : List ℕ) → Bool
fits key_word word last earlier = true
fits file_word word last earlier = is_fresh word last earlier
fits digest_word word last earlier = is_some (digest_of_word word)
fits query_word word last earlier = is_ok (query_of word)
fits window_word word last earlier = is_some (if_window (query_of word))
fits (number_word least most) word last earlier = is_some (within least most (u64_of word))

-- what stands where a word is no query, or none for a window
abbrev pub no_query : Query
no_query = asks (shapes.Nearest (record { x = pos 0; y = pos 0 }) 1) None

-- what the word is read as; this means nothing where it is not what it has to be
abbrev pub word_in : Kind → List ℕ → Word
word_in key_word word = key word
word_in file_word word = file word
word_in digest_word word = digest (unwrap_or (digest_of_word word) (replicate 32 0))
word_in query_word word = query (result_unwrap_or (query_of word) no_query)
word_in window_word word = window (unwrap_or (if_window (query_of word)) no_query)
word_in (number_word least most) word =
    number least most (unwrap_or (within least most (u64_of word)) 0)

-- the word that is read next
unfoldable pub word_next : Kind → Reading → Word
word_next kind r = word_in kind (first_word r.words)

-- the last two files behind a word
abbrev pub last_behind : Kind → (word last : List ℕ) → List ℕ
last_behind file_word word last = word
last_behind _ word last = last

abbrev pub earlier_behind : Kind → (last earlier : List ℕ) → List ℕ
earlier_behind file_word last earlier = last
earlier_behind _ last earlier = earlier

-- how far reading has come behind that word
unfoldable pub past : Kind → Reading → Reading
past kind r = record {
  words = other_words r.words;
  last = last_behind kind (first_word r.words) r.last;
  earlier = earlier_behind kind r.last r.earlier;
  is_right = fits kind (first_word r.words) r.last r.earlier && (has_words r.words && r.is_right);
}

-- the next word was read as this one
pub record HasReadWord (word : Word) (old new : Reading) : Type 0 where
  pub is_next : word ≡ word_next (kind_of word) old
  pub goes_past : new ≡ past (kind_of word) old

-- ---- all words of a command

abbrev pub all_next : List Kind → Reading → List Word
all_next [] r = []
all_next (kind ∷ kinds) r = word_next kind r ∷ all_next kinds (past kind r)

abbrev pub past_all : List Kind → Reading → Reading
past_all [] r = r
past_all (kind ∷ kinds) r = past_all kinds (past kind r)

-- the words of this command were read, whether or not they are what they have to be
pub record IsReadOff (command : Command) (old new : Reading) : Type 0 where
  pub bears_name : name_of command ≡ first_word old.words
  pub are_next : words_of command ≡ all_next (kinds_of command) old
  pub goes_past : new ≡ past_all (kinds_of command) old

-- they were read, or the first word is the name of no command
abbrev pub GivesCommand : Reading → Option Command → Reading → Type 0
GivesCommand old (Some command) new = IsReadOff command old new
GivesCommand old None new = (command : Command) → name_of command ≡ first_word old.words → ⊥

-- ---- files that no word names

-- a batch that is applied in place does not stand in the map's journal
abbrev pub spares : Command → Bool
spares (commands.ApplyHere map batch) = not (bytes_eq batch.now (journal_of map.now))
spares command = true

abbrev pub spares_any : Option Command → Bool
spares_any None = true
spares_any (Some command) = spares command
