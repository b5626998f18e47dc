-- The bytes of a field's value are read as it.
use Rattle.std.proofs.Common.{◌≡◌, ◌⊎◌, ℕ, ◌<◌, ◌≤◌, ◌^◌, Bool, true, false, List, [], ◌∷◌, Ok, refl, ap, ◌∙◌, inl, inr, arith}
use Rattle.std.specs.Prelude.{◌==◌, nat_le, not, ◌&&◌, ◌||◌}
use Rattle.std.specs.Int.{w64, w128, to_be_bytes, from_be_bytes}
use Rattle.std.proofs.lemmas.Bool.{le-leb, eq-eqb, or_right}
use Rattle.std.proofs.lemmas.Nat.{from_be_bytes-to_be_bytes_8}
use Rattle.mr_geom.specs.Rectangle.{Rectangle, IsOrdered, FitsMap, in_order}
use Rattle.mr_geom.proofs.Rectangles.{is_in_order}
use Rattle.mr_record.specs.Record.{rectangle_bytes}
use Rattle.mr_record.specs.Version.{version_byte, highest_layer}
use Rattle.mr_record.specs.declared.version.Version.TheVariants.{One, Two}
use Rattle.mr_record.proofs.Encodings.{sides_again}
use Rattle.mr_proof.specs.declared.head.Kind.{Kind}
use Rattle.mr_proof.specs.declared.head.Kind.TheVariants as kind
use Rattle.mr_proof.specs.declared.rule.Rule.{Rule}
use Rattle.mr_proof.specs.declared.rule.Rule.TheVariants as rule
use Rattle.mr_proof.specs.declared.want.Want.TheVariants as want
use Rattle.mr_proof.specs.declared.field.Field.{Field}
use Rattle.mr_proof.specs.declared.field.Field.TheVariants as field
use Rattle.mr_proof.specs.Limits.{count_limit, radius_limit, level_limit, leaf_limit, inner_limit}
use Rattle.mr_proof.specs.Fields.{field_of, only_if, magic, kind_byte, pruned_tag, opened_tag, IsVersionByte}
use Rattle.mr_proof.proofs.Wide.{wide_again}

pub number_value : (n : ℕ) → n < 2 ^ 64 → field_of want.Number (to_be_bytes w64 n) ≡ Ok (field.Num n)
unfolding field_of
number_value n lt = ap (λ (k : ℕ). Ok (field.Num k)) (from_be_bytes-to_be_bytes_8 n lt)

pub batch_value : (n : ℕ) → n < 2 ^ 64 → field_of want.Batch (to_be_bytes w64 n) ≡ Ok (field.Num n)
unfolding field_of
batch_value n lt = ap (λ (k : ℕ). Ok (field.Num k)) (from_be_bytes-to_be_bytes_8 n lt)

passes : (b : Bool) (v : Field) (d : Rule) → b ≡ true → only_if b v d ≡ Ok v
passes true v d t = refl
passes false v d t = absurd cc

pub count_value : (n : ℕ) → n ≤ count_limit → field_of want.Count (to_be_bytes w64 n) ≡ Ok (field.Num n)
unfolding field_of
count_value n le =
    let same : from_be_bytes w64 (to_be_bytes w64 n) ≡ n = from_be_bytes-to_be_bytes_8 n (omega arith) in
    ap (λ (k : ℕ). only_if (nat_le k count_limit) (field.Num k) rule.BadCount) same
    ∙ passes (nat_le n count_limit) (field.Num n) rule.BadCount (le-leb n count_limit le)

pub level_value : (n : ℕ) → n ≤ level_limit → field_of want.Level (n ∷ []) ≡ Ok (field.Num n)
unfolding field_of
level_value n le = passes (nat_le n level_limit) (field.Num n) rule.BadLevel (le-leb n level_limit le)

pub layer_value : (n : ℕ) → n ≤ highest_layer Two → field_of want.Layer (n ∷ []) ≡ Ok (field.Num n)
unfolding field_of
layer_value n le = passes (nat_le n 63) (field.Num n) rule.BadLayer (le-leb n 63 le)

pub mask_value : (n : ℕ) → n < 2 ^ 64 → field_of want.Mask (to_be_bytes w64 n) ≡ Ok (field.Num n)
unfolding field_of
mask_value n lt = ap (λ (k : ℕ). Ok (field.Num k)) (from_be_bytes-to_be_bytes_8 n lt)

pub tally_value : (n : ℕ) → 1 ≤ n → n ≤ count_limit → field_of want.Tally (to_be_bytes w64 n) ≡ Ok (field.Num n)
unfolding field_of
tally_value n low high =
    let same : from_be_bytes w64 (to_be_bytes w64 n) ≡ n = from_be_bytes-to_be_bytes_8 n (omega arith) in
    ap (λ (k : ℕ). only_if (nat_le 1 k && nat_le k count_limit) (field.Num k) rule.BadCount) same
    ∙ passes (nat_le 1 n && nat_le n count_limit) (field.Num n) rule.BadCount
    (rw (le-leb 1 n low, le-leb n count_limit high) refl)

pub length_value : (n : ℕ) → n ≤ 200 → field_of want.Length (n ∷ []) ≡ Ok (field.Num n)
unfolding field_of
length_value n le = passes (nat_le n 200) (field.Num n) rule.BadLength (le-leb n 200 le)

entries_value : (most n : ℕ) → 1 ≤ n → n ≤ most
    → only_if (nat_le 1 n && nat_le n most) (field.Num n) rule.BadEntries ≡ Ok (field.Num n)
entries_value most n low high =
    passes (nat_le 1 n && nat_le n most) (field.Num n) rule.BadEntries (rw (le-leb 1 n low, le-leb n most high) refl)

pub leaf_count_value : (n : ℕ) → 1 ≤ n → n ≤ leaf_limit → field_of want.LeafCount (n ∷ []) ≡ Ok (field.Num n)
unfolding field_of
leaf_count_value n low high = entries_value leaf_limit n low high

pub inner_count_value : (n : ℕ) → 1 ≤ n → n ≤ inner_limit → field_of want.InnerCount (n ∷ []) ≡ Ok (field.Num n)
unfolding field_of
inner_count_value n low high = entries_value inner_limit n low high

pub rect_value : (r : Rectangle) → IsOrdered r → FitsMap r → field_of want.Rect (rectangle_bytes r) ≡ Ok (field.Rect r)
unfolding field_of
rect_value r ordered coordinates =
    ap (λ (k : Rectangle). only_if (in_order k) (field.Rect k) rule.BadRect) (sides_again r coordinates)
    ∙ passes (in_order r) (field.Rect r) rule.BadRect (is_in_order r ordered)

pub payload_value : (n : ℕ) (p : List ℕ) → field_of (want.Payload n) p ≡ Ok (field.Payload p)
unfolding field_of
payload_value n p = refl

pub digest_value : (d : List ℕ) → field_of want.Digest d ≡ Ok (field.Digest d)
unfolding field_of
digest_value d = refl

either_tag : (b c d : ℕ) → (b ≡ c) ⊎ (b ≡ d) → (b == c || b == d) ≡ true
either_tag b c d (inl p) = rw (eq-eqb b c p) refl
either_tag b c d (inr p) = or_right (b == c) (b == d) (eq-eqb b d p)

pub tag_value : (v b : ℕ) → (b ≡ pruned_tag) ⊎ (b ≡ opened_tag v) → field_of (want.Tag v) (b ∷ []) ≡ Ok (field.Tag b)
unfolding field_of
tag_value v b is =
    passes (b == pruned_tag || b == opened_tag v) (field.Tag b) rule.BadTag (either_tag b pruned_tag (opened_tag v) is)

pub magic_value : field_of want.Magic magic ≡ Ok field.Plain
unfolding field_of
magic_value = refl

-- the byte is one that may come
pub version_value : (two_only : Bool) (n : ℕ) → IsVersionByte two_only n
    → field_of (want.Version two_only) (n ∷ []) ≡ Ok (field.Num n)
unfolding field_of
version_value two_only n (inl two) =
    passes (n == version_byte Two || (not two_only && n == version_byte One)) (field.Num n) rule.BadVersion
    (rw (eq-eqb n (version_byte Two) two) refl)
version_value two_only n (inr one) =
    passes (n == version_byte Two || (not two_only && n == version_byte One)) (field.Num n) rule.BadVersion
    (or_right (n == version_byte Two) (not two_only && n == version_byte One)
    (rw (one.0, eq-eqb n (version_byte One) one.1) refl))

pub kind_value : (k : Kind) → field_of (want.Kind k) (kind_byte k ∷ []) ≡ Ok field.Plain
unfolding field_of
kind_value kind.W = refl
kind_value kind.K = refl
kind_value (kind.Choice letter) = rw (eq-eqb letter letter refl) refl

pub flag_value : (n : ℕ) → n ≤ 1 → field_of want.Flag (n ∷ []) ≡ Ok (field.Num n)
unfolding field_of
flag_value n le = passes (nat_le n 1) (field.Num n) rule.BadFlag (le-leb n 1 le)

pub radius_value : (n : ℕ) → n ≤ radius_limit → field_of want.Radius (to_be_bytes w128 n) ≡ Ok (field.Wide n)
unfolding field_of
radius_value n le =
    let same : from_be_bytes w128 (to_be_bytes w128 n) ≡ n = wide_again n (omega arith) in
    ap (λ (k : ℕ). only_if (nat_le k radius_limit) (field.Wide k) rule.BadRadius) same
    ∙ passes (nat_le n radius_limit) (field.Wide n) rule.BadRadius (le-leb n radius_limit le)
