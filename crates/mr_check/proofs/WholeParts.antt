-- A pruned part of which a piece has the whole.
use Rattle.std.proofs.Common.{◌≡◌, ℕ, ◌-◌, ◌+◌, ◌<◌, ◌≤◌, false, List, [], ◌∷◌, ◌++◌, length, take, drop, Ok, refl, sym, ap, subst, ◌∙◌, inl, add_assoc, add-zero, take-add, drop-drop, length-take, length-drop, length-take-le, arith}
use Rattle.std.specs.Prelude.{slice_index}
use Rattle.mr_record.specs.declared.version.Version.{Version}
use Rattle.mr_record.specs.declared.version.Version.TheVariants.{One, Two}
use Rattle.mr_query.specs.declared.key.Key.{Key}
use Rattle.mr_proof.specs.declared.way.Way.{Way}
use Rattle.mr_proof.specs.declared.want.Want.{Want}
use Rattle.mr_proof.specs.declared.want.Want.TheVariants as want
use Rattle.mr_proof.specs.declared.field.Field.{Field}
use Rattle.mr_proof.specs.declared.field.Field.TheVariants as field
use Rattle.mr_proof.specs.declared.pruned_entry.PrunedEntry.{PrunedEntry}
use Rattle.mr_proof.specs.Limits.{place_limit}
use Rattle.mr_proof.specs.Fields.{pruned_tag, size_of}
use Rattle.mr_proof.specs.Cut.{Cut, Pruned}
use Rattle.mr_proof.specs.Spelling.{Parsed}
use Rattle.mr_proof.specs.Tight.{key_at, opens_at}
use Rattle.mr_proof.specs.Grammar.{Grammar, reads, unopened, number_in, tag_in, rect_in, bytes_in}
use Rattle.mr_proof.specs.Layout.{Cursor}
use Rattle.mr_proof.specs.Handed.{handed}
use Rattle.mr_proof.proofs.FieldValues.{tag_value}
use Rattle.mr_check.specs.private.Machine.{node_next, shown_next, behind_mask, behind_tally}
use Rattle.mr_check.specs.private.Reads.{digest_place, part_size, value_at, BeginsWithPart}
use Rattle.mr_check.proofs.Noting.{short_handed}
use Rattle.mr_check.proofs.WholeRecords.{On, stand, on_both, field_on}

-- so far into the bytes of a part that stands at this place, with so many more of them to come
abbrev within_part : ℕ → List ℕ → (place last more : ℕ) → Cursor
within_part at bytes place last more = stand (at + place) last (take more (drop place bytes))

-- the next field of the part
value_on : {A : Type 0} (w : Want) (next : Field → Grammar A) (at last place more : ℕ) (bytes : List ℕ) (v : Field)
    → place + size_of w ≤ length bytes → at + (place + size_of w) ≤ place_limit → value_at place w bytes ≡ Ok v
    → On (reads w next) (within_part at bytes place last (size_of w + more)) (next v)
    (within_part at bytes (place + size_of w) (at + place) more)
value_on w next at last place more bytes v long within is =
    let n = size_of w in
    let raw = take n (drop place bytes) in
    let rest = take more (drop (place + n) bytes) in
    let size : length raw ≡ n = length-take-le n (drop place bytes) (omega (arith, length-drop place bytes)) in
    let parts : raw ++ rest ≡ take (n + more) (drop place bytes) = sym (take-add n more (drop place bytes)
    ∙ ap (λ (xs : List ℕ). raw ++ take more xs) (drop-drop n place bytes)) in
    subst (λ (z : ℕ × List ℕ). On (reads w next) (stand (at + place) last z.1) (next v) (stand z.0 (at + place) rest))
    (λ i. (add_assoc at place n i, parts i))
    (field_on w next (at + place) last raw rest v size (omega arith) is)

-- a part that is not to be opened is read on
unopened_on : {A : Type 0} (way : Key → Way) (part : Key) (next : Grammar A) (s : Cursor)
    → opens_at way part ≡ false → On (unopened way part next) s next s
unopened_on way part next s missed = record { stops = rw missed refl; hands = rw missed refl }

-- ---- the fields of a pruned part

first_tag : (level : ℕ) (bytes : List ℕ) → 1 ≤ length bytes → slice_index bytes 0 ≡ pruned_tag
    → value_at 0 (want.Tag level) bytes ≡ Ok (field.Tag pruned_tag)
first_tag level [] some is = absurd (omega arith)
first_tag level (b ∷ bytes) some is = tag_value level b (inl is) ∙ ap (λ (n : ℕ). Ok (field.Tag n)) is

-- the tag and the rectangle
shown_on : (v : Version) (way : Key → Way) (level : ℕ) (next : Cut → Grammar Parsed) (at last more : ℕ)
    (bytes : List ℕ) (part : PrunedEntry) → BeginsWithPart v bytes part → at + part_size v ≤ place_limit
    → On (reads (want.Tag level) (λ t. node_next v way level next (tag_in t)))
    (within_part at bytes 0 last (1 + (16 + more))) (shown_next v way next part.rect)
    (within_part at bytes 17 (at + 1) more)
shown_on v way level next at last more bytes part is within =
    let tag = value_on (want.Tag level) (λ t. node_next v way level next (tag_in t)) at last 0 (16 + more) bytes
    (field.Tag pruned_tag) (omega (arith, is.long)) (omega arith)
    (first_tag level bytes (omega (arith, is.long)) is.tag) in
    let rect = value_on want.Rect (λ r. shown_next v way next (rect_in r)) at (at + 0) 1 more bytes
    (field.Rect part.rect) (omega (arith, is.long)) (omega arith) is.rect in
    on_both _ _ _ _ _ _ tag rect

-- with so many bytes of the digest
abbrev with_digest : Version → ℕ → ℕ
with_digest One k = 1 + (16 + k)
with_digest Two k = 1 + (16 + (8 + (8 + k)))

-- the place of the field before the digest
abbrev place_before : Version → ℕ
place_before One = 1
place_before Two = 25

-- all before the digest
front_on : (v : Version) (way : Key → Way) (level : ℕ) (next : Cut → Grammar Parsed) (at last k : ℕ)
    (bytes : List ℕ) (part : PrunedEntry) → BeginsWithPart v bytes part
    → opens_at way (key_at v part.mask part.rect) ≡ false → at + part_size v ≤ place_limit
    → On (reads (want.Tag level) (λ t. node_next v way level next (tag_in t)))
    (within_part at bytes 0 last (with_digest v k)) (behind_tally next part.rect part.mask part.count)
    (within_part at bytes (digest_place v) (at + place_before v) k)
front_on One way level next at last k bytes part is missed within =
    let shown = shown_on One way level next at last k bytes part is within in
    let pruned = unopened_on way (key_at One 0 part.rect) (behind_tally next part.rect 0 0)
    (within_part at bytes 17 (at + 1) k) missed in
    subst (λ (z : ℕ × ℕ). On (reads (want.Tag level) (λ t. node_next One way level next (tag_in t)))
    (within_part at bytes 0 last (1 + (16 + k))) (behind_tally next part.rect z.0 z.1)
    (within_part at bytes 17 (at + 1) k)) (λ i. (sym is.tells.0 i, sym is.tells.1 i))
    (on_both _ _ _ _ _ _ shown pruned)
front_on Two way level next at last k bytes part is missed within =
    let shown = shown_on Two way level next at last (8 + (8 + k)) bytes part is within in
    let mask = value_on want.Mask (λ m. behind_mask way next part.rect (number_in m)) at (at + 1) 17 (8 + k) bytes
    (field.Num part.mask) (omega (arith, is.long)) (omega arith) is.tells.0 in
    let pruned = unopened_on way (key_at Two part.mask part.rect)
    (reads want.Tally (λ c. behind_tally next part.rect part.mask (number_in c)))
    (within_part at bytes 25 (at + 17) (8 + k)) missed in
    let tally = value_on want.Tally (λ c. behind_tally next part.rect part.mask (number_in c)) at (at + 17) 25 k bytes
    (field.Num part.count) (omega (arith, is.long)) (omega arith) is.tells.1 in
    on_both _ _ _ _ _ _ shown (on_both _ _ _ _ _ _ mask (on_both _ _ _ _ _ _ pruned tally))

-- ---- all of it

whole_size : (v : Version) → with_digest v 32 ≡ part_size v
whole_size One = refl
whole_size Two = refl

-- with all of its bytes the part is read
pub part_on : (v : Version) (way : Key → Way) (level : ℕ) (next : Cut → Grammar Parsed) (at last : ℕ)
    (bytes : List ℕ) (part : PrunedEntry) → BeginsWithPart v bytes part
    → opens_at way (key_at v part.mask part.rect) ≡ false → at + part_size v ≤ place_limit
    → On (reads (want.Tag level) (λ t. node_next v way level next (tag_in t)))
    (stand at last (take (part_size v) bytes))
    (next (Pruned part)) (stand (at + part_size v) (at + digest_place v) [])
part_on v way level next at last bytes part is missed within =
    let g = reads (want.Tag level) (λ t. node_next v way level next (tag_in t)) in
    let front = front_on v way level next at last 32 bytes part is missed within in
    let digest = value_on want.Digest (λ d. next (Pruned (record part { digest = bytes_in d }))) at
    (at + place_before v) (digest_place v) 0 bytes (field.Digest part.digest) is.long within is.digest in
    subst (λ (z : ℕ × ℕ). On g (stand z.0 last (take z.1 bytes)) (next (Pruned part))
    (stand (at + part_size v) (at + digest_place v) [])) (λ i. (add-zero at i, whole_size v i))
    (on_both _ _ _ _ _ _ front digest)

short_size : (v : Version) → with_digest v 31 ≡ part_size v - 1
short_size One = refl
short_size Two = refl

-- without the last of its bytes it is not
pub quiet_part : (v : Version) (way : Key → Way) (level : ℕ) (next : Cut → Grammar Parsed) (at last : ℕ)
    (bytes : List ℕ) (part : PrunedEntry) → BeginsWithPart v bytes part
    → opens_at way (key_at v part.mask part.rect) ≡ false → at + part_size v ≤ place_limit
    → handed (reads (want.Tag level) (λ t. node_next v way level next (tag_in t)))
    (stand at last (take (part_size v - 1) bytes)) ≡ []
quiet_part v way level next at last bytes part is missed within =
    let g = reads (want.Tag level) (λ t. node_next v way level next (tag_in t)) in
    let rest = take 31 (drop (digest_place v) bytes) in
    let short : length rest < 32 = omega (arith, length-take 31 (drop (digest_place v) bytes)) in
    subst (λ (z : ℕ × ℕ). handed g (stand z.0 last (take z.1 bytes)) ≡ [])
    (λ i. (add-zero at i, short_size v i))
    ((front_on v way level next at last 31 bytes part is missed within).hands
    ∙ short_handed want.Digest (λ d. next (Pruned (record part { digest = bytes_in d })))
    (stand (at + digest_place v) (at + place_before v) rest) short)
