-- Single fields of a proof, taken from the front of a byte string: what the bytes mean.
use Rattle.std.proofs.Common.{◌≡◌, ◌⊎◌, ℕ, ◌+◌, ◌<◌, ◌≤◌, ◌^◌, Bool, true, false, cond, List, [], ◌∷◌, ◌++◌, length, take, Result, Ok, Err, refl, sym, ap, subst, ◌∙◌, inl, inr, arith, append_assoc}
use Rattle.std.specs.Prelude.{if◌then◌else◌, ◌==◌, nat_lt, nat_le, not, ◌&&◌, ◌||◌, slice_index, bytes_eq, ⊤}
use Rattle.std.specs.Int.{w64, w128, to_be_bytes, from_be_bytes}
use Rattle.std.proofs.lemmas.Bool.{eqb-true, ltb-false, leb-true, and_parts, or_cases}
use Rattle.std.proofs.lemmas.List.{take-append-drop, length-take-le, length-append}
use Rattle.mr_geom.specs.Rectangle.{Rectangle, IsOrdered, FitsMap}
use Rattle.mr_outside.specs.Bytes.{AreBytes}
use Rattle.mr_record.specs.Record.{rectangle_bytes}
use Rattle.mr_record.specs.Version.{version_byte, highest_layer}
use Rattle.mr_record.specs.declared.version.Version.TheVariants.{One, Two}
use Rattle.mr_proof.specs.declared.head.Kind.{Kind}
use Rattle.mr_proof.specs.declared.rule.Rule.{Rule}
use Rattle.mr_proof.specs.declared.rule.Rule.TheVariants as rule
use Rattle.mr_proof.specs.declared.rule.Fault.{Fault}
use Rattle.mr_proof.specs.declared.want.Want.{Want}
use Rattle.mr_proof.specs.declared.want.Want.TheVariants as want
use Rattle.mr_proof.specs.declared.field.Field.{Field}
use Rattle.mr_proof.specs.declared.field.Field.TheVariants as field
use Rattle.mr_proof.specs.Limits.{count_limit, radius_limit, level_limit, leaf_limit, inner_limit, place_limit}
use Rattle.mr_proof.specs.Fields.{size_of, field_of, only_if, magic, kind_byte, pruned_tag, opened_tag, IsVersionByte}
use Rattle.mr_geom.specs.Rectangle.{in_order}
use Rattle.mr_record.specs.Record.{sides_of}
use Rattle.mr_proof.specs.Grammar.{Grammar, reads, number_in, version_in, wide_in, tag_in, rect_in, bytes_in}
use Rattle.mr_proof.specs.Layout.{fault, Cursor, behind, field_or_fault, field_at}
use Rattle.mr_proof.specs.Reading.{◌>>=◌, walk}
use Rattle.mr_record.proofs.Encodings.{IsBytes, IsBytes-take, IsBytes-drop, AreBytes-from, word_is, word_below, sides_are, sides_fit}
use Rattle.mr_geom.proofs.Rectangles.{in_order_is}
use Rattle.mr_proof.proofs.Values.{single, same_bytes, same_value}
use Rattle.mr_proof.proofs.Wide.{wide_is}

-- this text was taken from the front, and no field in it ends past the limit
pub record Took (text : List ℕ) (s t : Cursor) : Type 0 where
  pub parts : s.rest ≡ text ++ t.rest
  pub place : t.at ≡ s.at + length text
  pub fits : IsBytes t.rest
  pub within : t.at ≤ place_limit

pub took_none : (s : Cursor) → IsBytes s.rest → s.at ≤ place_limit → Took [] s s
took_none s fits within = record { parts = refl; place = omega arith; fits = fits; within = within }

pub took_both : (x y : List ℕ) (s t u : Cursor) → Took x s t → Took y t u → Took (x ++ y) s u
took_both x y s t u p q = record {
  parts = p.parts ∙ ap (λ (z : List ℕ). x ++ z) q.parts ∙ sym (append_assoc x y u.rest);
  place = omega (arith, p.place, q.place, length-append x y);
  fits = q.fits;
  within = q.within;
}

pub took_as : (x y : List ℕ) (s t : Cursor) → x ≡ y → Took x s t → Took y s t
took_as x y s t e p = subst (λ (z : List ℕ). Took z s t) e p

-- ---- one field

record TookField (w : Want) (s : Cursor) (x : Field × Cursor) : Type 0 where
  raw : List ℕ
  long : length raw ≡ size_of w
  bytes : IsBytes raw
  value : field_of w raw ≡ Ok x.0
  took : Took raw s x.1

field_or : (w : Want) (s : Cursor) (r : Result Field Rule) (x : Field × Cursor) → field_or_fault w s r ≡ Ok x
    → (r ≡ Ok x.0) × (x.1 ≡ behind w s)
field_or w s (Ok v) x e =
    let p = same_value (v, behind w s) x e in
    (ap (λ (y : Field × Cursor). Ok y.0) p, ap (λ (y : Field × Cursor). y.1) (sym p))
field_or w s (Err d) x e = absurd cc

not_err : (b : Bool) (f : Fault) (r : Result (Field × Cursor) Fault) (x : Field × Cursor) → cond b (Err f) r ≡ Ok x
    → (b ≡ false) × (r ≡ Ok x)
not_err true f r x e = absurd cc
not_err false f r x e = (refl, e)

take_field : (w : Want) (s : Cursor) (x : Field × Cursor) → IsBytes s.rest → field_at w s ≡ Ok x → TookField w s x
unfolding field_at
take_field w s x fits e =
    let a = not_err (nat_lt place_limit (s.at + size_of w)) (fault rule.Long s.at)
    (if nat_lt (length s.rest) (size_of w) then Err (fault rule.Short s.at) else field_or_fault w s
    (field_of w (take (size_of w) s.rest))) x e in
    let b = not_err (nat_lt (length s.rest) (size_of w)) (fault rule.Short s.at)
    (field_or_fault w s (field_of w (take (size_of w) s.rest))) x a.1 in
    let c = field_or w s (field_of w (take (size_of w) s.rest)) x b.1 in
    let short : s.at + size_of w ≤ place_limit = ltb-false place_limit (s.at + size_of w) a.0 in
    let enough : size_of w ≤ length s.rest = ltb-false (length s.rest) (size_of w) b.0 in
    let long : length (take (size_of w) s.rest) ≡ size_of w = length-take-le (size_of w) s.rest enough in
    let took : Took (take (size_of w) s.rest) s (behind w s) = record {
      parts = sym (take-append-drop (size_of w) s.rest);
      place = omega (arith, long);
      fits = IsBytes-drop (size_of w) s.rest fits;
      within = short;
    } in
    record {
      raw = take (size_of w) s.rest;
      long = long;
      bytes = IsBytes-take (size_of w) s.rest fits;
      value = c.0;
      took = subst (λ (t : Cursor). Took (take (size_of w) s.rest) s t) (sym c.1) took;
    }

-- ---- a part and what follows it

-- the part has a value with this fact, of which the text taken is the spelling, and what follows it gives the same
pub record Taken {A B X : Type 0} (heeds : Bool) (e : A → Cursor → Result B Fault) (spell : X → List ℕ)
    (Good : X → Type 0) (next : X → Grammar A) (s : Cursor) (a : B) : Type 0 where
  pub value : X
  pub end : Cursor
  pub good : Good value
  pub took : Took (spell value) s end
  pub rest : walk heeds e (next value) end ≡ Ok a

pub behind_step : {A B : Type 0} (r : Result A Fault) (f : A → Result B Fault) (y : B) → (r >>= f) ≡ Ok y
    → (x : A) × (r ≡ Ok x) × (f x ≡ Ok y)
behind_step (Ok x) f y e = (x, refl, e)
behind_step (Err d) f y e = absurd cc

pub take_reads : {A B X : Type 0} (heeds : Bool) (e : A → Cursor → Result B Fault) (w : Want) (m : Field → X)
    (spell : X → List ℕ) (Good : X → Type 0)
    (meant : (raw : List ℕ) (f : Field) → length raw ≡ size_of w → IsBytes raw → field_of w raw ≡ Ok f
    → (raw ≡ spell (m f)) × Good (m f))
    (next : X → Grammar A) (s : Cursor) (a : B) → IsBytes s.rest → walk heeds e (reads w (λ f. next (m f))) s ≡ Ok a
    → Taken heeds e spell Good next s a
take_reads heeds e w m spell Good meant next s a fits is =
    let x = behind_step (field_at w s) (λ x. walk heeds e (next (m x.0)) x.1) a is in
    let t = take_field w s x.0 fits x.1 in
    let v = meant t.raw x.0.0 t.long t.bytes t.value in
    record {
      value = m x.0.0;
      end = x.0.1;
      good = v.1;
      took = took_as t.raw
          (spell (m x.0.0)) s x.0.1 v.0 t.took;
      rest = x.2;
    }

abbrev known : Field → Result Field Rule
known v = Ok v

same_field : (v f : Field) → known v ≡ known f → v ≡ f
same_field v f e = cc

pub passed : (b : Bool) (v f : Field) (d : Rule) → only_if b v d ≡ Ok f → (b ≡ true) × (v ≡ f)
passed true v f d e = (refl, same_field v f e)
passed false v f d e = absurd cc

-- ---- what the fields mean

-- a field of one byte, of a number with a test
byte_meant : (raw : List ℕ) (b : Bool) (f : Field) (d : Rule) → length raw ≡ 1
    → only_if b (field.Num (slice_index raw 0)) d ≡ Ok f
    → (raw ≡ number_in f ∷ []) × (b ≡ true) × (number_in f ≡ slice_index raw 0)
byte_meant raw b f d long e =
    let p = passed b (field.Num (slice_index raw 0)) f d e in
    let n : slice_index raw 0 ≡ number_in f = ap number_in p.1 in
    (single raw long ∙ ap (λ (k : ℕ). k ∷ []) n, p.0, sym n)

pub layer_meant : (raw : List ℕ) (f : Field) → length raw ≡ size_of want.Layer → IsBytes raw
    → field_of want.Layer raw ≡ Ok f → (raw ≡ number_in f ∷ []) × (number_in f ≤ highest_layer Two)
unfolding field_of
layer_meant raw f long fits e =
    let p = byte_meant raw (nat_le (slice_index raw 0) 63) f rule.BadLayer long e in
    let le : slice_index raw 0 ≤ 63 = leb-true (slice_index raw 0) 63 p.1 in
    (p.0, rw p.2 le)

pub length_meant : (raw : List ℕ) (f : Field) → length raw ≡ size_of want.Length → IsBytes raw
    → field_of want.Length raw ≡ Ok f → (raw ≡ number_in f ∷ []) × (number_in f ≤ 200)
unfolding field_of
length_meant raw f long fits e =
    let p = byte_meant raw (nat_le (slice_index raw 0) 200) f rule.BadLength long e in
    let le : slice_index raw 0 ≤ 200 = leb-true (slice_index raw 0) 200 p.1 in
    (p.0, rw p.2 le)

pub level_meant : (raw : List ℕ) (f : Field) → length raw ≡ size_of want.Level → IsBytes raw
    → field_of want.Level raw ≡ Ok f → (raw ≡ number_in f ∷ []) × (number_in f ≤ level_limit)
unfolding field_of
level_meant raw f long fits e =
    let p = byte_meant raw (nat_le (slice_index raw 0) level_limit) f rule.BadLevel long e in
    let le : slice_index raw 0 ≤ level_limit = leb-true (slice_index raw 0) level_limit p.1 in
    (p.0, rw p.2 le)

pub flag_meant : (raw : List ℕ) (f : Field) → length raw ≡ size_of want.Flag → IsBytes raw
    → field_of want.Flag raw ≡ Ok f
    → (raw ≡ number_in f ∷ []) × (number_in f ≤ 1)
unfolding field_of
flag_meant raw f long fits e =
    let p = byte_meant raw (nat_le (slice_index raw 0) 1) f rule.BadFlag long e in
    let le : slice_index raw 0 ≤ 1 = leb-true (slice_index raw 0) 1 p.1 in
    (p.0, rw p.2 le)

entries_meant : (most : ℕ) (raw : List ℕ) (f : Field) → length raw ≡ 1
    → only_if (nat_le 1 (slice_index raw 0) && nat_le (slice_index raw 0) most)
    (field.Num (slice_index raw 0)) rule.BadEntries ≡ Ok f
    → (raw ≡ number_in f ∷ []) × ((1 ≤ number_in f) × (number_in f ≤ most))
entries_meant most raw f long e =
    let p = byte_meant raw (nat_le 1 (slice_index raw 0) && nat_le (slice_index raw 0) most) f rule.BadEntries long e in
    let both = and_parts (nat_le 1 (slice_index raw 0)) (nat_le (slice_index raw 0) most) p.1 in
    let low : 1 ≤ slice_index raw 0 = leb-true 1 (slice_index raw 0) both.0 in
    let high : slice_index raw 0 ≤ most = leb-true (slice_index raw 0) most both.1 in
    (p.0, rw p.2 (low, high))

pub leaf_count_meant : (raw : List ℕ) (f : Field) → length raw ≡ size_of want.LeafCount → IsBytes raw
    → field_of want.LeafCount raw ≡ Ok f → (raw ≡ number_in f ∷ []) × ((1 ≤ number_in f) × (number_in f ≤ leaf_limit))
unfolding field_of
leaf_count_meant raw f long fits e = entries_meant leaf_limit raw f long e

pub inner_count_meant : (raw : List ℕ) (f : Field) → length raw ≡ size_of want.InnerCount → IsBytes raw
    → field_of want.InnerCount raw ≡ Ok f → (raw ≡ number_in f ∷ []) × ((1 ≤ number_in f) × (number_in f ≤ inner_limit))
unfolding field_of
inner_count_meant raw f long fits e = entries_meant inner_limit raw f long e

pub number_meant : (raw : List ℕ) (f : Field) → length raw ≡ size_of want.Number → IsBytes raw
    → field_of want.Number raw ≡ Ok f → (raw ≡ to_be_bytes w64 (number_in f)) × (number_in f < 2 ^ 64)
unfolding field_of
number_meant raw f long fits e =
    let n : from_be_bytes w64 raw ≡ number_in f = ap number_in (same_field (field.Num (from_be_bytes w64 raw)) f e) in
    (word_is raw long fits ∙ ap (to_be_bytes w64) n, subst (λ (k : ℕ). k < 2 ^ 64) n (word_below raw fits))

pub batch_meant : (raw : List ℕ) (f : Field) → length raw ≡ size_of want.Batch → IsBytes raw
    → field_of want.Batch raw ≡ Ok f → (raw ≡ to_be_bytes w64 (number_in f)) × (number_in f < 2 ^ 64)
unfolding field_of
batch_meant raw f long fits e =
    let n : from_be_bytes w64 raw ≡ number_in f = ap number_in (same_field (field.Num (from_be_bytes w64 raw)) f e) in
    (word_is raw long fits ∙ ap (to_be_bytes w64) n, subst (λ (k : ℕ). k < 2 ^ 64) n (word_below raw fits))

pub mask_meant : (raw : List ℕ) (f : Field) → length raw ≡ size_of want.Mask → IsBytes raw
    → field_of want.Mask raw ≡ Ok f → (raw ≡ to_be_bytes w64 (number_in f)) × (number_in f < 2 ^ 64)
unfolding field_of
mask_meant raw f long fits e =
    let n : from_be_bytes w64 raw ≡ number_in f = ap number_in (same_field (field.Num (from_be_bytes w64 raw)) f e) in
    (word_is raw long fits ∙ ap (to_be_bytes w64) n, subst (λ (k : ℕ). k < 2 ^ 64) n (word_below raw fits))

pub tally_meant : (raw : List ℕ) (f : Field) → length raw ≡ size_of want.Tally → IsBytes raw
    → field_of want.Tally raw ≡ Ok f
    → (raw ≡ to_be_bytes w64 (number_in f)) × ((1 ≤ number_in f) × (number_in f ≤ count_limit))
unfolding field_of
tally_meant raw f long fits e =
    let word = from_be_bytes w64 raw in
    let p = passed (nat_le 1 word && nat_le word count_limit) (field.Num word) f rule.BadCount e in
    let both = and_parts (nat_le 1 word) (nat_le word count_limit) p.0 in
    let n : word ≡ number_in f = ap number_in p.1 in (
      word_is raw long fits ∙ ap (to_be_bytes w64) n,
      subst (λ (k : ℕ). (1 ≤ k) × (k ≤ count_limit)) n
          (leb-true 1 word both.0, leb-true word count_limit both.1),
    )

pub count_meant : (raw : List ℕ) (f : Field) → length raw ≡ size_of want.Count → IsBytes raw
    → field_of want.Count raw ≡ Ok f → (raw ≡ to_be_bytes w64 (number_in f)) × (number_in f ≤ count_limit)
unfolding field_of
count_meant raw f long fits e =
    let p = passed (nat_le (from_be_bytes w64 raw) count_limit) (field.Num (from_be_bytes w64 raw)) f rule.BadCount e in
    let n : from_be_bytes w64 raw ≡ number_in f = ap number_in p.1 in (
      word_is raw long fits ∙ ap (to_be_bytes w64) n,
      subst (λ (k : ℕ). k ≤ count_limit) n
          (leb-true (from_be_bytes w64 raw) count_limit p.0),
    )

pub radius_meant : (raw : List ℕ) (f : Field) → length raw ≡ size_of want.Radius → IsBytes raw
    → field_of want.Radius raw ≡ Ok f → (raw ≡ to_be_bytes w128 (wide_in f)) × (wide_in f ≤ radius_limit)
unfolding field_of
radius_meant raw f long fits e =
    let p = passed (nat_le (from_be_bytes w128 raw) radius_limit)
    (field.Wide (from_be_bytes w128 raw)) f rule.BadRadius e in
    let n : from_be_bytes w128 raw ≡ wide_in f = ap wide_in p.1 in (
      wide_is raw long fits ∙ ap (to_be_bytes w128) n,
      subst (λ (k : ℕ). k ≤ radius_limit) n
          (leb-true (from_be_bytes w128 raw) radius_limit p.0),
    )

pub rect_meant : (raw : List ℕ) (f : Field) → length raw ≡ size_of want.Rect → IsBytes raw
    → field_of want.Rect raw ≡ Ok f
    → (raw ≡ rectangle_bytes (rect_in f)) × (IsOrdered (rect_in f) × FitsMap (rect_in f))
unfolding field_of
rect_meant raw f long fits e =
    let p = passed (in_order (sides_of raw)) (field.Rect (sides_of raw)) f rule.BadRect e in
    let r : sides_of raw ≡ rect_in f = ap rect_in p.1 in (
      sides_are raw long fits ∙ ap rectangle_bytes r,
      subst (λ (k : Rectangle). IsOrdered k × FitsMap k) r
          (in_order_is (sides_of raw) p.0, sides_fit raw fits),
    )

pub payload_meant : (n : ℕ) (raw : List ℕ) (f : Field) → length raw ≡ size_of (want.Payload n) → IsBytes raw
    → field_of (want.Payload n) raw ≡ Ok f → (raw ≡ bytes_in f) × ((length (bytes_in f) ≡ n) × AreBytes (bytes_in f))
unfolding field_of
payload_meant n raw f long fits e =
    let b : raw ≡ bytes_in f = ap bytes_in (same_field (field.Payload raw) f e) in
    (b, subst (λ (k : List ℕ). (length k ≡ n) × AreBytes k) b (long, AreBytes-from raw fits))

pub digest_meant : (raw : List ℕ) (f : Field) → length raw ≡ size_of want.Digest → IsBytes raw
    → field_of want.Digest raw ≡ Ok f → (raw ≡ bytes_in f) × ((length (bytes_in f) ≡ 32) × AreBytes (bytes_in f))
unfolding field_of
digest_meant raw f long fits e =
    let b : raw ≡ bytes_in f = ap bytes_in (same_field (field.Digest raw) f e) in
    (b, subst (λ (k : List ℕ). (length k ≡ 32) × AreBytes k) b (long, AreBytes-from raw fits))

pub tag_meant : (v : ℕ) (raw : List ℕ) (f : Field) → length raw ≡ size_of (want.Tag v) → IsBytes raw
    → field_of (want.Tag v) raw ≡ Ok f → (raw ≡ tag_in f ∷ []) × ((tag_in f ≡ pruned_tag) ⊎ (tag_in f ≡ opened_tag v))
unfolding field_of
tag_meant v raw f long fits e =
    let p = passed (slice_index raw 0 == pruned_tag || slice_index raw 0 == opened_tag v)
    (field.Tag (slice_index raw 0)) f rule.BadTag e in
    let b : slice_index raw 0 ≡ tag_in f = ap tag_in p.1 in (
      single raw long ∙ ap (λ (k : ℕ). k ∷ []) b,
      elim (or_cases (slice_index raw 0 == pruned_tag) (slice_index raw 0 == opened_tag v) p.0) [
        | inl t ↦ inl (sym b ∙ eqb-true (slice_index raw 0) pruned_tag t)
        | inr t ↦ inr (sym b ∙ eqb-true (slice_index raw 0) (opened_tag v) t)
      ],
    )

pub magic_meant : (raw : List ℕ) (f : Field) → length raw ≡ size_of want.Magic → IsBytes raw
    → field_of want.Magic raw ≡ Ok f → (raw ≡ magic) × ⊤
unfolding field_of
magic_meant raw f long fits e = (same_bytes raw magic (passed (bytes_eq raw magic) field.Plain f rule.BadMagic e).0, tt)

not_true : (b : Bool) → not b ≡ true → b ≡ false
not_true true e = absurd cc
not_true false e = refl

-- a byte that passes is one that may come
pub may_come_byte : (two_only : Bool) (n : ℕ)
    → (n == version_byte Two || (not two_only && n == version_byte One)) ≡ true → IsVersionByte two_only n
may_come_byte two_only n t = elim (or_cases (n == version_byte Two) (not two_only && n == version_byte One) t) [
  | inl two ↦ inl (eqb-true n (version_byte Two) two)
  | inr both ↦
      let p = and_parts (not two_only) (n == version_byte One) both in
      inr (not_true two_only p.0, eqb-true n (version_byte One) p.1)
]

pub version_meant : (two_only : Bool) (raw : List ℕ) (f : Field) → length raw ≡ size_of (want.Version two_only)
    → IsBytes raw → field_of (want.Version two_only) raw ≡ Ok f
    → (raw ≡ number_in f ∷ []) × IsVersionByte two_only (number_in f)
unfolding field_of
version_meant two_only raw f long fits e =
    let b = slice_index raw 0 in
    let p = byte_meant raw (b == version_byte Two || (not two_only && b == version_byte One)) f rule.BadVersion long e
    in
    (p.0, subst (IsVersionByte two_only) (sym p.2) (may_come_byte two_only b p.1))

-- such a byte is that of the version that is read
pub byte_of_version : (two_only : Bool) (f : Field) → IsVersionByte two_only (number_in f)
    → number_in f ≡ version_byte (version_in f)
byte_of_version two_only f (inl two) =
    two ∙ ap (λ (n : ℕ). version_byte (if n == version_byte One then One else Two)) (sym two)
byte_of_version two_only f (inr one) =
    one.1 ∙ ap (λ (n : ℕ). version_byte (if n == version_byte One then One else Two)) (sym one.1)

-- which is one that may come
pub version_may_come : (two_only : Bool) (f : Field) → IsVersionByte two_only (number_in f)
    → version_in f ≡ One → two_only ≡ false
version_may_come two_only f (inl two) one =
    let same : 1 ≡ version_byte (version_in f) = ap version_byte (sym one) in
    absurd (omega (arith, byte_of_version two_only f (inl two)))
version_may_come two_only f (inr one) is = one.0

-- the version and the byte that are read of the field
pub version_taken : (two_only : Bool) (raw : List ℕ) (f : Field) → length raw ≡ size_of (want.Version two_only)
    → IsBytes raw → field_of (want.Version two_only) raw ≡ Ok f
    → (raw ≡ version_byte (version_in f) ∷ []) × (version_in f ≡ One → two_only ≡ false)
version_taken two_only raw f long fits e =
    let p = version_meant two_only raw f long fits e in (
      p.0 ∙ ap (λ (n : ℕ). n ∷ []) (byte_of_version two_only f p.1),
      version_may_come two_only f p.1,
    )

pub kind_meant : (k : Kind) (raw : List ℕ) (f : Field) → length raw ≡ size_of (want.Kind k) → IsBytes raw
    → field_of (want.Kind k) raw ≡ Ok f → (raw ≡ kind_byte k ∷ []) × ⊤
unfolding field_of
kind_meant k raw f long fits e = (
  single raw long ∙ ap (λ (b : ℕ). b ∷ [])
      (eqb-true (slice_index raw 0) (kind_byte k)
      (passed (slice_index raw 0 == kind_byte k) field.Plain f rule.WrongKind e).0),
  tt,
)
