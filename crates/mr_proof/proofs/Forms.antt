-- Which values a field may have.
use Rattle.std.proofs.Common.{◌≡◌, ℕ, ◌≤◌, Bool, true, false, List, length, refl, inl, inr}
use Rattle.std.specs.Prelude.{IfOk, ◌&&◌, ◌==◌, nat_le, slice_index}
use Rattle.std.specs.Int.{w64, w128, from_be_bytes}
use Rattle.std.proofs.lemmas.Bool.{and_parts, or_cases, leb-true, eqb-true}
use Rattle.mr_proof.specs.declared.rule.Rule.{Rule}
use Rattle.mr_proof.specs.declared.rule.Rule.TheVariants as rule
use Rattle.mr_proof.specs.declared.want.Want.{Want}
use Rattle.mr_proof.specs.declared.want.Want.TheVariants as want
use Rattle.mr_proof.specs.declared.field.Field.{Field}
use Rattle.mr_proof.specs.declared.field.Field.TheVariants as field
use Rattle.mr_proof.specs.Limits.{count_limit, radius_limit, level_limit, leaf_limit, inner_limit}
use Rattle.mr_record.specs.Record.{sides_of}
use Rattle.mr_proof.proofs.FieldsTaken.{may_come_byte}
use Rattle.mr_proof.specs.Fields.{size_of, field_of, HasForm, only_if, pruned_tag, opened_tag}

-- a value that stands only where a test passes has what the test says
if_passed : (w : Want) (test : Bool) (value : Field) (broken : Rule) → (test ≡ true → HasForm w value)
    → IfOk (only_if test value broken) (HasForm w)
if_passed w true value broken has = has refl
if_passed w false value broken has = tt

within : (most n : ℕ) → (nat_le 1 n && nat_le n most) ≡ true → (1 ≤ n) × (n ≤ most)
within most n t = let both = and_parts (nat_le 1 n) (nat_le n most) t in (leb-true 1 n both.0, leb-true n most both.1)

pub forms : (w : Want) (bytes : List ℕ) → length bytes ≡ size_of w → IfOk (field_of w bytes) (HasForm w)
unfolding field_of
forms want.Magic bytes e = if_passed want.Magic _ field.Plain rule.BadMagic (λ _. refl)
forms (want.Version two_only) bytes e =
    if_passed (want.Version two_only) _ (field.Num (slice_index bytes 0)) rule.BadVersion
    (may_come_byte two_only (slice_index bytes 0))
forms (want.Kind k) bytes e = if_passed (want.Kind k) _ field.Plain rule.WrongKind (λ _. refl)
forms want.Batch bytes e = tt
forms want.Count bytes e =
    if_passed want.Count _ (field.Num (from_be_bytes w64 bytes)) rule.BadCount
    (λ t. leb-true (from_be_bytes w64 bytes) count_limit t)
forms want.Flag bytes e =
    if_passed want.Flag _ (field.Num (slice_index bytes 0)) rule.BadFlag (λ t. leb-true (slice_index bytes 0) 1 t)
forms want.Radius bytes e =
    if_passed want.Radius _ (field.Wide (from_be_bytes w128 bytes)) rule.BadRadius
    (λ t. leb-true (from_be_bytes w128 bytes) radius_limit t)
forms want.Level bytes e =
    if_passed want.Level _ (field.Num (slice_index bytes 0)) rule.BadLevel
    (λ t. leb-true (slice_index bytes 0) level_limit t)
forms (want.Tag level) bytes e =
    if_passed (want.Tag level) _ (field.Tag (slice_index bytes 0)) rule.BadTag
    (λ t. elim (or_cases (slice_index bytes 0 == pruned_tag) (slice_index bytes 0 == opened_tag level) t) [
      | inl p ↦ inl (eqb-true (slice_index bytes 0) pruned_tag p)
      | inr o ↦ inr (eqb-true (slice_index bytes 0) (opened_tag level) o)
    ])
forms want.LeafCount bytes e =
    if_passed want.LeafCount _ (field.Num (slice_index bytes 0)) rule.BadEntries
    (within leaf_limit (slice_index bytes 0))
forms want.InnerCount bytes e =
    if_passed want.InnerCount _ (field.Num (slice_index bytes 0)) rule.BadEntries
    (within inner_limit (slice_index bytes 0))
forms want.Number bytes e = tt
forms want.Rect bytes e = if_passed want.Rect _ (field.Rect (sides_of bytes)) rule.BadRect (λ t. t)
forms want.Layer bytes e =
    if_passed want.Layer _ (field.Num (slice_index bytes 0)) rule.BadLayer (λ t. leb-true (slice_index bytes 0) 63 t)
forms want.Length bytes e =
    if_passed want.Length _ (field.Num (slice_index bytes 0)) rule.BadLength (λ t. leb-true (slice_index bytes 0) 200 t)
forms (want.Payload n) bytes e = e
forms want.Mask bytes e = tt
forms want.Tally bytes e =
    if_passed want.Tally _ (field.Num (from_be_bytes w64 bytes)) rule.BadCount
    (within count_limit (from_be_bytes w64 bytes))
forms want.Digest bytes e = e
