-- A field that is read is written so, and what was written is read again.
use Rattle.std.proofs.Common.{◌≡◌, ℕ, List, length, Result, Ok, Err, sym, subst, ◌∙◌, ap, refl}
use Rattle.std.specs.Prelude.{IfOk}
use Rattle.mr_geom.proofs.Rectangles.{in_order_is}
use Rattle.mr_record.proofs.Encodings.{IsBytes}
use Rattle.mr_proof.specs.declared.rule.Rule.{Rule}
use Rattle.mr_proof.specs.declared.want.Want.{Want}
use Rattle.mr_proof.specs.declared.want.Want.TheVariants as want
use Rattle.mr_proof.specs.declared.field.Field.{Field}
use Rattle.mr_proof.specs.declared.field.Field.TheVariants as field
use Rattle.mr_proof.specs.Fields.{size_of, field_of, field_bytes, IsField, HasForm, NumberWith}
use Rattle.mr_proof.proofs.FieldsTaken.{length_meant, level_meant, flag_meant, leaf_count_meant, inner_count_meant, number_meant, batch_meant, count_meant, radius_meant, rect_meant, payload_meant, digest_meant, tag_meant, magic_meant, version_meant, kind_meant, layer_meant, mask_meant, tally_meant}
use Rattle.mr_proof.proofs.FieldValues.{number_value, batch_value, count_value, level_value, length_value, leaf_count_value, inner_count_value, rect_value, payload_value, digest_value, tag_value, magic_value, version_value, kind_value, flag_value, radius_value, layer_value, mask_value, tally_value}

-- ---- what is read is written so

spelled_so : (w : Want) (raw : List ℕ) (f : Field) → length raw ≡ size_of w → IsBytes raw → field_of w raw ≡ Ok f
    → raw ≡ field_bytes w f
unfolding field_bytes
spelled_so want.Magic raw f long fits e = (magic_meant raw f long fits e).0
spelled_so (want.Version two_only) raw f long fits e = (version_meant two_only raw f long fits e).0
spelled_so (want.Kind k) raw f long fits e = (kind_meant k raw f long fits e).0
spelled_so want.Batch raw f long fits e = (batch_meant raw f long fits e).0
spelled_so want.Count raw f long fits e = (count_meant raw f long fits e).0
spelled_so want.Flag raw f long fits e = (flag_meant raw f long fits e).0
spelled_so want.Radius raw f long fits e = (radius_meant raw f long fits e).0
spelled_so want.Level raw f long fits e = (level_meant raw f long fits e).0
spelled_so (want.Tag level) raw f long fits e = (tag_meant level raw f long fits e).0
spelled_so want.LeafCount raw f long fits e = (leaf_count_meant raw f long fits e).0
spelled_so want.InnerCount raw f long fits e = (inner_count_meant raw f long fits e).0
spelled_so want.Number raw f long fits e = (number_meant raw f long fits e).0
spelled_so want.Rect raw f long fits e = (rect_meant raw f long fits e).0
spelled_so want.Layer raw f long fits e = (layer_meant raw f long fits e).0
spelled_so want.Length raw f long fits e = (length_meant raw f long fits e).0
spelled_so (want.Payload n) raw f long fits e = (payload_meant n raw f long fits e).0
spelled_so want.Mask raw f long fits e = (mask_meant raw f long fits e).0
spelled_so want.Tally raw f long fits e = (tally_meant raw f long fits e).0
spelled_so want.Digest raw f long fits e = (digest_meant raw f long fits e).0

if_ok : (r : Result Field Rule) (P : Field → Type 0) → ((f : Field) → r ≡ Ok f → P f) → IfOk r P
if_ok (Ok f) P has = has f refl
if_ok (Err d) P has = tt

pub written_so : (w : Want) (raw : List ℕ) → length raw ≡ size_of w → IsBytes raw
    → IfOk (field_of w raw) (λ f. raw ≡ field_bytes w f)
written_so w raw long fits =
    if_ok (field_of w raw) (λ f. raw ≡ field_bytes w f) (λ f e. spelled_so w raw f long fits e)

-- ---- what was written is read again

by_number : (P : ℕ → Type 0) (Q : Field → Type 0) (f : Field) → NumberWith P f
    → ((n : ℕ) → P n → Q (field.Num n)) → Q f
by_number P Q field.Plain has so = absurd has
by_number P Q (field.Num n) has so = so n has
by_number P Q (field.Wide n) has so = absurd has
by_number P Q (field.Tag b) has so = absurd has
by_number P Q (field.Rect r) has so = absurd has
by_number P Q (field.Payload bytes) has so = absurd has
by_number P Q (field.Digest bytes) has so = absurd has

-- the value's bytes are read as it
abbrev Again : Want → Field → Type 0
Again w f = IsField f → field_of w (field_bytes w f) ≡ Ok f

plain_again : (w : Want) (f : Field) → f ≡ field.Plain → Again w field.Plain → Again w f
plain_again w f e so = subst (Again w) (sym e) so

wide_again : (f : Field) → HasForm want.Radius f → Again want.Radius f
unfolding field_bytes
wide_again field.Plain has = absurd has
wide_again (field.Num n) has = absurd has
wide_again (field.Wide n) has = λ is. radius_value n has
wide_again (field.Tag b) has = absurd has
wide_again (field.Rect r) has = absurd has
wide_again (field.Payload bytes) has = absurd has
wide_again (field.Digest bytes) has = absurd has

tag_again : (level : ℕ) (f : Field) → HasForm (want.Tag level) f → Again (want.Tag level) f
unfolding field_bytes
tag_again level field.Plain has = absurd has
tag_again level (field.Num n) has = absurd has
tag_again level (field.Wide n) has = absurd has
tag_again level (field.Tag b) has = λ is. tag_value level b has
tag_again level (field.Rect r) has = absurd has
tag_again level (field.Payload bytes) has = absurd has
tag_again level (field.Digest bytes) has = absurd has

rect_again : (f : Field) → HasForm want.Rect f → Again want.Rect f
unfolding field_bytes
rect_again field.Plain has = absurd has
rect_again (field.Num n) has = absurd has
rect_again (field.Wide n) has = absurd has
rect_again (field.Tag b) has = absurd has
rect_again (field.Rect r) has = λ is. rect_value r (in_order_is r has) is
rect_again (field.Payload bytes) has = absurd has
rect_again (field.Digest bytes) has = absurd has

payload_again : (n : ℕ) (f : Field) → HasForm (want.Payload n) f → Again (want.Payload n) f
unfolding field_bytes
payload_again n field.Plain has = absurd has
payload_again n (field.Num m) has = absurd has
payload_again n (field.Wide m) has = absurd has
payload_again n (field.Tag b) has = absurd has
payload_again n (field.Rect r) has = absurd has
payload_again n (field.Payload bytes) has = λ is. payload_value n bytes
payload_again n (field.Digest bytes) has = absurd has

digest_again : (f : Field) → HasForm want.Digest f → Again want.Digest f
unfolding field_bytes
digest_again field.Plain has = absurd has
digest_again (field.Num m) has = absurd has
digest_again (field.Wide m) has = absurd has
digest_again (field.Tag b) has = absurd has
digest_again (field.Rect r) has = absurd has
digest_again (field.Payload bytes) has = absurd has
digest_again (field.Digest bytes) has = λ is. digest_value bytes

value_again : (w : Want) (f : Field) → HasForm w f → Again w f
unfolding field_bytes
value_again want.Magic f has = plain_again want.Magic f has (λ is. magic_value)
value_again (want.Version two_only) f has =
    by_number _ (Again (want.Version two_only)) f has (λ n may is. version_value two_only n may)
value_again (want.Kind k) f has = plain_again (want.Kind k) f has (λ is. kind_value k)
value_again want.Batch f has = by_number _ (Again want.Batch) f has (λ n _ is. batch_value n is)
value_again want.Count f has = by_number _ (Again want.Count) f has (λ n low is. count_value n low)
value_again want.Flag f has = by_number _ (Again want.Flag) f has (λ n low is. flag_value n low)
value_again want.Radius f has = wide_again f has
value_again want.Level f has = by_number _ (Again want.Level) f has (λ n low is. level_value n low)
value_again (want.Tag level) f has = tag_again level f has
value_again want.LeafCount f has =
    by_number _ (Again want.LeafCount) f has (λ n both is. leaf_count_value n both.0 both.1)
value_again want.InnerCount f has =
    by_number _ (Again want.InnerCount) f has (λ n both is. inner_count_value n both.0 both.1)
value_again want.Number f has = by_number _ (Again want.Number) f has (λ n _ is. number_value n is)
value_again want.Rect f has = rect_again f has
value_again want.Layer f has = by_number _ (Again want.Layer) f has (λ n low is. layer_value n low)
value_again want.Length f has = by_number _ (Again want.Length) f has (λ n low is. length_value n low)
value_again (want.Payload n) f has = payload_again n f has
value_again want.Mask f has = by_number _ (Again want.Mask) f has (λ n _ is. mask_value n is)
value_again want.Tally f has = by_number _ (Again want.Tally) f has (λ n both is. tally_value n both.0 both.1)
value_again want.Digest f has = digest_again f has

pub read_again : (w : Want) (f : Field) (raw : List ℕ) → IsField f → HasForm w f → raw ≡ field_bytes w f
    → field_of w raw ≡ Ok f
read_again w f raw is has e = ap (field_of w) e ∙ value_again w f has is
