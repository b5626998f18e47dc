-- What was found in some bytes, read in some version, is found in bytes of that version: a map says its own version,
-- and each fault of bytes of another one is that of page 0 alone, which bytes of this one have as well.
use Rattle.std.proofs.Common.{◌≡◌, ℕ, zero, suc, ◌+◌, ◌-◌, ◌*◌, ◌/◌, ◌<◌, ◌≤◌, ◌^◌, Bool, true, false, List, [], ◌∷◌, ◌++◌, length, take, drop, replicate, refl, sym, ap, subst, ◌∙◌, arith, append_assoc, length-append, take_all, inl, inr}
use Rattle.std.specs.Prelude.{◌⊎◌, ◌&&◌, Option, Some, Result, Ok, Err, not, bytes_eq, slice_index_or, if◌then◌else◌}
use Rattle.std.proofs.lemmas.Bool.{and_parts}
use Rattle.std.proofs.lemmas.Slice.Eq.{bytes_eq-Decides}
use Rattle.std.proofs.lemmas.List.{length-replicate, drop_at, drop-replicate, take-append-drop}
use Rattle.std.proofs.lemmas.List.Elements.{All-nil, All-cons, All-append, All-from_recursion}
use Rattle.std.proofs.Math.Seq.{drop-append-add}
use Rattle.mr_outside.specs.Bytes.{AreBytes}
use Rattle.mr_record.specs.Version.{version_byte}
use Rattle.mr_record.specs.declared.version.Version.{Version}
use Rattle.mr_record.specs.declared.version.Version.TheVariants.{One, Two}
use Rattle.mr_tree.specs.declared.tree.Tree.{Tree}
use Rattle.mr_pages.specs.Faults.{mapfault, file_faults, first_of}
use Rattle.mr_pages.specs.File.{file_of, form_at, is_odd_size, page_at, version_of}
use Rattle.mr_pages.specs.Opening.{AnswersMap, SomeFile}
use Rattle.mr_pages.specs.Page.{Form, Head}
use Rattle.mr_pages.specs.PageBytes.{form_by, layout_by, fields_in, head_bytes, head_in, head_page, is_head, is_sealed, seal, seal_place}
use Rattle.mr_pages.specs.Stands.{StandsForTree}
use Rattle.mr_pages.specs.declared.error.MapErr.{MapErr}
use Rattle.mr_pages.specs.declared.error.MapErr.TheVariants as errors
use Rattle.mr_pages.specs.declared.opening.Opened.{Opened}
use Rattle.mr_pages.specs.declared.rule.MapFault.{MapFault}
use Rattle.mr_pages.specs.declared.rule.MapRule.{MapRule}
use Rattle.mr_pages.specs.declared.rule.MapRule.TheVariants as rule
use Rattle.mr_pages.proofs.Answered.{odd_fault}
use Rattle.mr_pages.proofs.Imaged.{no_seal}

-- the fault of page 0 by this rule
abbrev at_head : MapRule → MapFault
at_head r = record { page = 0; rule = r }

-- some bytes that are read in this version have this fault
abbrev HasFault : (List ℕ → List ℕ) → MapFault → Type 0
HasFault hash f = (bytes : List ℕ) × AreBytes bytes × (mapfault hash (file_of (form_at bytes) bytes) ≡ Some f)

zeros_are : (n : ℕ) → AreBytes (replicate n 0)
zeros_are zero = All-nil (λ b. b < 2 ^ 8)
zeros_are (suc n) = All-cons (λ b. b < 2 ^ 8) 0 (replicate n 0) (omega arith) (zeros_are n)

and_false : (b : Bool) → (b && false) ≡ false
and_false true = refl
and_false false = refl

same_fault : (f g : MapFault) → ◌≡◌ {A = Option MapFault} (Some f) (Some g) → f ≡ g
same_fault f g e = cc

abbrev size_of : Version → ℕ
size_of v = (layout_by v).size

roomy : (v : Version) → 4096 ≤ size_of v
roomy One = omega arith
roomy Two = omega arith

-- a page of a version has a whole size
whole : (v : Version) → is_odd_size (form_by v).size (size_of v) ≡ false
whole One = refl
whole Two = refl

-- what stands in front: no magic, and the byte of the version
abbrev front : Version → List ℕ
front v = 0 ∷ 0 ∷ 0 ∷ 0 ∷ version_byte v ∷ []

front_are : (v : Version) → AreBytes (front v)
front_are v = All-from_recursion (λ b. b < 2 ^ 8) (front v) (
  omega arith,
  (
    omega arith,
    (
      omega arith,
      (
        omega arith,
        (small v, tt),
      ),
    ),
  ),
)
  where
    small : (u : Version) → version_byte u < 2 ^ 8
    small One = omega arith
    small Two = omega arith

front_version : (v : Version) (rest : List ℕ) → version_of (front v ++ rest) ≡ v
front_version One rest = refl
front_version Two rest = refl

-- too few bytes
odd_bytes : (v : Version) → is_odd_size (form_by v).size (length (front v)) ≡ true
odd_bytes One = refl
odd_bytes Two = refl

seal_are : AreBytes seal
seal_are = All-from_recursion (λ b. b < 2 ^ 8) seal (omega arith, (omega arith, (omega arith, (omega arith, tt))))

-- page 0 of a map begins with its magic, and then the byte of the version
other_front : (v : Version) (h : Head) (rest : List ℕ) → head_page (layout_by v) h ≡ front v ++ rest → ⊥
unfolding head_bytes
other_front One h rest e = absurd (omega (arith, ap (λ (xs : List ℕ). slice_index_or xs 0 0) e))
other_front Two h rest e = absurd (omega (arith, ap (λ (xs : List ℕ). slice_index_or xs 0 0) e))

other_page : (v : Version) (h : Head) (rest : List ℕ)
    → bytes_eq (head_page (layout_by v) h) (front v ++ rest) ≡ false
other_page v h rest = at (bytes_eq (head_page (layout_by v) h) (front v ++ rest)) refl
  where
    at : (b : Bool) → bytes_eq (head_page (layout_by v) h) (front v ++ rest) ≡ b → b ≡ false
    at false e = refl
    at true e = absurd (other_front v h rest ((bytes_eq-Decides (head_page (layout_by v) h) (front v ++ rest)).0 e))

headed : (v : Version) (bytes : List ℕ) (h : Head) → page_at (form_by v) bytes 0 ≡ head_page (layout_by v) h
    → version_of bytes ≡ v
unfolding head_bytes
headed One bytes h is =
    ap (λ (xs : List ℕ). version_of xs) (sym (take-append-drop 4096 bytes)
    ∙ ap (λ (p : List ℕ). p ++ drop 4096 bytes) is)
headed Two bytes h is =
    ap (λ (xs : List ℕ). version_of xs) (sym (take-append-drop 8192 bytes)
    ∙ ap (λ (p : List ℕ). p ++ drop 8192 bytes) is)

module _ (v : Version) (hash : List ℕ → List ℕ) where
  abbrev size : ℕ
  size = size_of v

  abbrev form : Form
  form = form_by v

  -- the fault of one page that has this front, by what it is read as
  page_fault : (rest : List ℕ) (r : MapRule) → length (front v ++ rest) ≡ size
      → head_in (layout_by v) (length (front v ++ rest) / size) (front v ++ rest) ≡ Err r
      → mapfault hash (file_of form (front v ++ rest)) ≡ Some (at_head r)
  page_fault rest r long is =
      let bytes : List ℕ = front v ++ rest in
      let n = length bytes / size in
      let even : is_odd_size size (length bytes) ≡ false = ap (is_odd_size size) long ∙ whole v in
      let none : 0 * size ≡ 0 = omega arith in
      let here : page_at form bytes 0 ≡ bytes =
      ap (λ k. take size (drop k bytes)) none ∙ take_all size bytes (omega (arith, long)) in
      ap (λ b. first_of (file_faults hash (file_of form bytes)
      (if b then Err rule.Size else head_in (layout_by v) n (page_at form bytes 0)))) even
      ∙ ap (λ p. first_of (file_faults hash (file_of form bytes) (head_in (layout_by v) n p))) here
      ∙ ap (λ o. first_of (file_faults hash (file_of form bytes) o)) is

  has_fault : (rest : List ℕ) (f : MapFault) → AreBytes rest
      → mapfault hash (file_of form (front v ++ rest)) ≡ Some f → HasFault hash f
  has_fault rest f are is = (
    front v ++ rest,
    All-append (λ b. b < 2 ^ 8) (front v) rest (front_are v) are,
    subst (λ u. mapfault hash (file_of (form_by u) (front v ++ rest)) ≡ Some f) (sym (front_version v rest)) is,
  )

  -- a file of an odd size
  has_size : HasFault hash (at_head rule.Size)
  has_size = has_fault [] (at_head rule.Size) (All-nil (λ b. b < 2 ^ 8)) (odd_fault form hash (front v) (odd_bytes v))

  -- a page of zeros behind the front
  has_unsealed : HasFault hash (at_head rule.Unsealed)
  has_unsealed =
      let rest : List ℕ = replicate (size - 5) 0 in
      let room = roomy v in
      let long : length (front v ++ rest) ≡ size =
      omega (arith, room, length-append (front v) rest, length-replicate {A = ℕ} (size - 5) 0) in
      let place : seal_place size ≡ length (front v) + (size - 9) = omega (arith, room) in
      let four : size - 5 - (size - 9) ≡ 4 = omega (arith, room) in
      let end : drop (seal_place size) (front v ++ rest) ≡ replicate 4 0 =
      ap (λ k. drop k (front v ++ rest)) place ∙ drop-append-add (front v) rest (size - 9)
      ∙ drop-replicate {X = ℕ} (size - 9) (size - 5) 0 ∙ ap (λ k. replicate k 0) four in
      has_fault rest (at_head rule.Unsealed) (zeros_are (size - 5))
      (page_fault rest rule.Unsealed long
      (ap (λ b. if not b then Err rule.Unsealed
      else if is_head (length (front v ++ rest) / size) (fields_in (layout_by v).version (front v ++ rest)) && bytes_eq
      (head_page (layout_by v) (fields_in (layout_by v).version (front v ++ rest))) (front v ++ rest)
      then Ok (fields_in (layout_by v).version (front v ++ rest)) else Err rule.Header) (no_seal _ end)))

  -- a page with its seal that has no magic
  has_header : HasFault hash (at_head rule.Header)
  has_header =
      let zeros : List ℕ = replicate (size - 9) 0 in
      let rest : List ℕ = zeros ++ seal in
      let bytes : List ℕ = front v ++ rest in
      let room = roomy v in
      let head = fields_in (layout_by v).version bytes in
      let n = length bytes / size in
      let long : length bytes ≡ size =
      omega (
        arith,
        room,
        length-append (front v) rest,
        length-append zeros seal,
        length-replicate {A = ℕ}
            (size - 9) 0,
      ) in
      let before : length (front v ++ zeros) ≡ seal_place size =
      omega (arith, room, length-append (front v) zeros, length-replicate {A = ℕ} (size - 9) 0) in
      let end : drop (seal_place size) bytes ≡ seal =
      ap (drop (seal_place size)) (sym (append_assoc (front v) zeros seal))
      ∙ drop_at (front v ++ zeros) seal (seal_place size) before in
      let sealed : is_sealed size bytes ≡ true =
      (bytes_eq-Decides (drop (seal_place size) bytes) seal).1 end in
      let other : bytes_eq (head_page (layout_by v) head) bytes ≡ false = other_page v head rest in
      has_fault rest (at_head rule.Header) (All-append (λ b. b < 2 ^ 8) zeros seal (zeros_are (size - 9)) seal_are)
      (page_fault rest rule.Header long
      (ap (λ b. if not b then Err rule.Unsealed else if is_head n head && bytes_eq (head_page (layout_by v) head) bytes
      then Ok head else Err rule.Header) sealed
      ∙ ap (λ b. if is_head n head && b then Ok head else Err rule.Header) other
      ∙ ap (λ b. if b then Ok head else Err rule.Header) (and_false (is_head n head))))

  -- ---- what any bytes have

  -- page 0 as a head, else the rule that it breaks
  by_head : (bytes page : List ℕ) (n : ℕ) (f : MapFault) → page_at form bytes 0 ≡ page → (r : Result Head MapRule)
      → head_in (layout_by v) n page ≡ r → first_of (file_faults hash (file_of form bytes) r) ≡ Some f
      → HasFault hash f ⊎ (version_of bytes ≡ v)
  by_head bytes page n f here r is fault =
      by_seal (is_sealed size page) refl
    where
      head : Head
      head = fields_in (layout_by v).version page

      by_page : (b : Bool) → (is_head n head && bytes_eq (head_page (layout_by v) head) page) ≡ b
          → is_sealed size page ≡ true → HasFault hash f ⊎ (version_of bytes ≡ v)
      by_page false e sealed =
          let header : r ≡ Err rule.Header =
          sym is ∙ ap (λ c. if not c then Err rule.Unsealed
          else if is_head n head && bytes_eq (head_page (layout_by v) head) page then Ok head else Err
          rule.Header) sealed
          ∙ ap (λ c. if c then Ok head else Err rule.Header) e in
          inl (subst (HasFault hash) (same_fault (at_head rule.Header) f
          (sym (ap (λ o. first_of (file_faults hash (file_of form bytes) o)) header) ∙ fault)) has_header)
      by_page true e sealed =
          let same = (bytes_eq-Decides (head_page (layout_by v) head) page).0
          (and_parts (is_head n head) (bytes_eq (head_page (layout_by v) head) page) e).1 in
          inr (headed v bytes head (here ∙ sym same))

      by_seal : (b : Bool) → is_sealed size page ≡ b → HasFault hash f ⊎ (version_of bytes ≡ v)
      by_seal false e =
          let unsealed : r ≡ Err rule.Unsealed =
          sym is ∙ ap (λ c. if not c then Err rule.Unsealed
          else if is_head n head && bytes_eq (head_page (layout_by v) head) page then Ok head else Err rule.Header) e in
          inl (subst (HasFault hash) (same_fault (at_head rule.Unsealed) f
          (sym (ap (λ o. first_of (file_faults hash (file_of form bytes) o)) unsealed) ∙ fault)) has_unsealed)
      by_seal true e = by_page (is_head n head && bytes_eq (head_page (layout_by v) head) page) refl e

  by_size : (bytes : List ℕ) (f : MapFault) → mapfault hash (file_of form bytes) ≡ Some f
      → HasFault hash f ⊎ (version_of bytes ≡ v)
  by_size bytes f fault = at (is_odd_size size (length bytes)) refl
    where
      at : (b : Bool) → is_odd_size size (length bytes) ≡ b → HasFault hash f ⊎ (version_of bytes ≡ v)
      at true odd = inl (subst (HasFault hash)
          (same_fault (at_head rule.Size) f (sym (odd_fault form hash bytes odd) ∙ fault)) has_size)
      at false even =
          let n = length bytes / size in
          by_head bytes (page_at form bytes 0) n f refl (head_in (layout_by v) n (page_at form bytes 0)) refl
          (sym (ap (λ b. first_of (file_faults hash (file_of form bytes)
          (if b then Err rule.Size else head_in (layout_by v) n (page_at form bytes 0)))) even) ∙ fault)

  own_fault : (bytes : List ℕ) (f : MapFault) → AreBytes bytes → mapfault hash (file_of form bytes) ≡ Some f
      → HasFault hash f
  own_fault bytes f are fault = elim (by_size bytes f fault) [
    | inl has ↦ has
    | inr same ↦ (bytes, are, subst (λ u. mapfault hash (file_of (form_by u) bytes) ≡ Some f) (sym same) fault)
  ]

-- what was found in bytes of some version, as found in bytes of their own one
pub in_own : (hash : List ℕ → List ℕ) (result : Result Opened MapErr)
    → ((v : Version) (bytes : List ℕ) (t : Tree) (b : ℕ) → StandsForTree (form_by v) hash bytes t b → version_of
    bytes ≡ v)
    → SomeFile hash result
    → (bytes : List ℕ) × AreBytes bytes × AnswersMap (form_at bytes) hash bytes result
in_own hash (Ok map) own some =
    let v = some.0 in
    let bytes = some.1.0 in
    let same = own v bytes map.tree map.batch some.1.2.1.stands in
    (bytes, some.1.1, subst (λ u. AnswersMap (form_by u) hash bytes (Ok map)) (sym same) some.1.2)
in_own hash (Err (errors.Map f)) own some = own_fault some.0 hash some.1.0 f some.1.1 some.1.2
in_own hash (Err errors.Missing) own some = ([], All-nil (λ b. b < 2 ^ 8), tt)
in_own hash (Err errors.Fault) own some = ([], All-nil (λ b. b < 2 ^ 8), tt)
in_own hash (Err errors.NoMemory) own some = ([], All-nil (λ b. b < 2 ^ 8), tt)
