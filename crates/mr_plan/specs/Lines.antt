-- The lines that are printed: digests, lengths and numbers, and what is said of words, texts,
-- batches and files that are refused.
use Rattle.std.specs.Prelude.{ℕ, Bool, if◌then◌else◌, List, [], ◌∷◌, ◌++◌, codes, decimal}
use Rattle.hex.specs.Hex.{encode_lower}
use Rattle.mr_record.specs.declared.text_fault.TextFault.{TextFault}
use Rattle.mr_record.specs.Rules.{text_rule_name}
use Rattle.mr_batch.specs.declared.admission.BatchFault.{BatchFault}
use Rattle.mr_batch.specs.declared.admission.BatchFault.TheVariants.{OutOfOrder, Present, Absent, Full}

-- a digest in hexadecimal, and a line feed
abbrev pub digest_line : List ℕ → List ℕ
digest_line digest = encode_lower digest ++ 10 ∷ []

-- the words spell no command
abbrev pub bad_words_line : List ℕ
bad_words_line = codes "bad words" ++ 10 ∷ []

-- the map is of the first version, and what is asked for has proofs of the second one alone
abbrev pub needs_version_2_line : List ℕ
needs_version_2_line = codes "needs version 2" ++ 10 ∷ []

-- `bad text line LINE RULE`
unfoldable pub bad_text_line : TextFault → List ℕ
bad_text_line fault = codes "bad text line " ++ decimal fault.line ++ codes " "
    ++ text_rule_name fault.rule ++ 10 ∷ []

-- the number that a map has, and that of the batch
abbrev pub numbers_text : (held given : ℕ) → List ℕ
numbers_text held given = codes " held " ++ decimal held ++ codes " given " ++ decimal given

-- why a batch may not be applied
abbrev pub batch_fault_text : BatchFault → List ℕ
batch_fault_text (OutOfOrder held given) = codes "OutOfOrder" ++ numbers_text held given
batch_fault_text (Present line) = codes "line " ++ decimal line ++ codes " Present"
batch_fault_text (Absent line) = codes "line " ++ decimal line ++ codes " Absent"
batch_fault_text (Full line) = codes "line " ++ decimal line ++ codes " Full"

-- `bad batch OutOfOrder held HELD given GIVEN`, or `bad batch line LINE RULE`
unfoldable pub bad_batch_line : BatchFault → List ℕ
bad_batch_line fault = codes "bad batch " ++ batch_fault_text fault ++ 10 ∷ []

-- `missing NAME`
unfoldable pub missing_line : List ℕ → List ℕ
missing_line name = codes "missing " ++ name ++ 10 ∷ []

-- `proof LENGTH`
unfoldable pub proof_line : ℕ → List ℕ
proof_line size = codes "proof " ++ decimal size ++ 10 ∷ []

-- it is the honest proof
abbrev pub sound_line : List ℕ
sound_line = codes "sound" ++ 10 ∷ []

-- two strings that differ and have one hash, the owner's first, each in hexadecimal on a line of
-- its own
unfoldable pub collision_lines : (owned shown : List ℕ) → List ℕ
collision_lines owned shown = codes "collision" ++ 10 ∷ encode_lower owned
    ++ 10 ∷ encode_lower shown ++ 10 ∷ []

-- `served QUERIES LENGTH`
unfoldable pub served_line : (queries size : ℕ) → List ℕ
served_line queries size =
    codes "served " ++ decimal queries ++ codes " " ++ decimal size ++ 10 ∷ []

-- a name and a number, as `records 5`
abbrev pub count_line : (name : List ℕ) → ℕ → List ℕ
count_line name n = name ++ 32 ∷ decimal n ++ 10 ∷ []

-- `count NUMBER`
unfoldable pub counted_line : ℕ → List ℕ
counted_line n = count_line (codes "count") n

-- `made NUMBER`
unfoldable pub made_line : ℕ → List ℕ
made_line n = count_line (codes "made") n

-- `recovered` or `clean`: whether there was an update to finish
abbrev pub recovered_line : Bool → List ℕ
recovered_line was = (if was then codes "recovered" else codes "clean") ++ 10 ∷ []

-- the shelf failed
abbrev pub shelf_fault_line : List ℕ
shelf_fault_line = codes "shelf fault" ++ 10 ∷ []
