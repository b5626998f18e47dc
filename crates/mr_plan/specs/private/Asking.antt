-- What a command that is read may ask for, and the digest that a word writes. This serves private
-- functions.
use Rattle.std.specs.Prelude.{◌≢◌, ℕ, ◌≤◌, nat_eq, ◌&&◌, if◌then◌else◌, List, length, ⊤, Option, None}
use Rattle.std.specs.List.{list_all}
use Rattle.hex.specs.Hex.{decode_of}
use Rattle.mr_record.specs.RecordText.{is_lower_digit, ok_bytes}
use Rattle.mr_plan.specs.Words.{demo_limit, IsWindow}
use Rattle.mr_tree.specs.Limits.{count_limit}
use Rattle.mr_query.specs.Word.{IsAskable}
use Rattle.mr_plan.specs.declared.words.Command.{Command}
use Rattle.mr_plan.specs.declared.words.Command.TheVariants as commands

-- the query of a command, if it has one, is a window or asks for 1 to 1,024 records, and of a count
-- it is a window; the number of records that it is to generate is in its range, and a map is not
-- changed in its own file
abbrev pub MayBeAsked : Command → Type 0
MayBeAsked (commands.Apply old batch new) = old.now ≢ new.now
MayBeAsked (commands.Prove map q proof) = IsAskable q
MayBeAsked (commands.Check root q proof) = IsAskable q
MayBeAsked (commands.Audit map q proof) = IsAskable q
MayBeAsked (commands.Count map q proof) = IsWindow q.shape
MayBeAsked (commands.CheckCount root q proof) = IsWindow q.shape
MayBeAsked (commands.AuditCount map q proof) = IsWindow q.shape
MayBeAsked (commands.Make count seed records) = count ≤ count_limit
MayBeAsked (commands.Demo count seed) = count ≤ demo_limit
MayBeAsked _ = ⊤

-- the digest that 64 lower-case hexadecimal digits write
unfoldable pub digest_of_word : List ℕ → Option (List ℕ)
digest_of_word word =
    if nat_eq (length word) 64 && list_all is_lower_digit word then ok_bytes (decode_of word)
    else None
