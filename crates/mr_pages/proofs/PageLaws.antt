-- The pages of a node are read from the bytes that spell them, and from no others.
use Rattle.std.proofs.Common.{◌≡◌, ℕ, zero, suc, ◌+◌, ◌-◌, ◌*◌, ◌^◌, ◌<◌, ◌≤◌, Bool, true, false, cond, eqb, List, [], ◌∷◌, ◌++◌, length, take, drop, replicate, Result, Ok, Err, Option, Some, None, refl, sym, ap, subst, ◌∙◌, inl, inr, arith, append_assoc, length-append}
use Rattle.std.specs.Prelude.{slice_range, nat_le, ◌&&◌, option_map, ok_or}
use Rattle.std.specs.List.{flat_map, AllByRecursion}
use Rattle.std.specs.Option.{option_and_then}
use Rattle.std.specs.Int.{w32, w64, from_be_bytes, to_be_bytes}
use Rattle.std.proofs.lemmas.Bool.{le-leb, leb-true, eq-eqb, eqb-true, cases_Bool, and_parts, cases_lt}
use Rattle.std.proofs.lemmas.List.{take_at, drop_at, length-take-le, length-drop, length-replicate, get_or_past, take-append-drop, append-nil}
use Rattle.std.proofs.lemmas.List.Folds.{drop_split}
use Rattle.std.proofs.lemmas.List.Elements.{recursion_from_All, All-from_recursion}
use Rattle.std.proofs.lemmas.Nat.{be_bytes_4, from_be_bytes-to_be_bytes_4, from_be_bytes-to_be_bytes_8}
use Rattle.mr_geom.specs.Rectangle.{Rectangle}
use Rattle.mr_outside.specs.Bytes.{AreBytes}
use Rattle.mr_record.specs.Record.{IsRecord, HasLayer, record_bytes, rectangle_bytes, rectangle_of_bytes}
use Rattle.mr_record.specs.declared.version.Version.{Version}
use Rattle.mr_record.specs.declared.version.Version.TheVariants.{One, Two}
use Rattle.mr_record.specs.Version.{told}
use Rattle.mr_record.specs.RecordField.{record_in, broken}
use Rattle.mr_record.specs.declared.record.Record.{Record}
use Rattle.mr_record.specs.declared.record_fault.RecordFault.{RecordFault}
use Rattle.mr_record.specs.declared.record_fault.RecordRule.TheVariants.{BadRect}
use Rattle.mr_record.proofs.Encodings.{IsBytes, IsBytes-take, IsBytes-drop, rectangle_read, word_is, word_below}
use Rattle.mr_record.proofs.RecordFields.{record_again, record_is, rectangle_is, length-record_bytes, length-rectangle_bytes}
use Rattle.mr_tree.specs.Limits.{count_limit, level_limit, leaf_limit, inner_limit}
use Rattle.mr_tree.specs.View.{MayTell}
use Rattle.mr_tree.proofs.Told.{told_sum}
use Rattle.mr_tree.specs.Digest.{leaf_tag, inner_tag, rect_bytes, word_bytes, root_entry_bytes}
use Rattle.mr_tree.specs.declared.tree.Tree.TheOpen.{Empty, Leaf, Inner}
use Rattle.mr_pages.specs.Page.{Link, Node, level_below, IsLink, IsNode}
use Rattle.mr_pages.specs.declared.layout.Layout.{Layout}
use Rattle.mr_pages.specs.PageBytes.{filled, link_bytes, link_size, root_size, root_link_in, node_limit, link_with, node_bytes, node_page, Reader, many, found_record, record_field, word_in, may_tell, if_told, link_in, link_field, are_zeros, from_one_to, before_zeros, leaf_in, inner_in, tagged_in, node_in}

-- ---- bytes

pub from_bytes : (bytes : List ℕ) → AreBytes bytes → IsBytes bytes
from_bytes bytes h i = elim (cases_lt i (length bytes)) [
  | inl lt ↦ h i 0 lt
  | inr le ↦ rw (get_or_past bytes i 0 le) (omega arith)
]

pub quarter_is : (raw : List ℕ) → length raw ≡ 4 → IsBytes raw → raw ≡ to_be_bytes w32 (from_be_bytes w32 raw)
quarter_is raw long fits = sym (be_bytes_4 raw (from_be_bytes w32 raw) long fits refl)

pub quarter_below : (raw : List ℕ) → IsBytes raw → from_be_bytes w32 raw < 2 ^ 32
quarter_below raw fits = omega (arith, fits 0, fits 1, fits 2, fits 3)

-- ---- options

pub bound_some : {A B : Type 0} (f : A → Option B) (o : Option A) (y : B) → option_and_then f o ≡ Some y →
    (x : A) × (o ≡ Some x) × (f x ≡ Some y)
bound_some f None y e = absurd cc
bound_some f (Some x) y e = (x, refl, e)

pub mapped_some : {A B : Type 0} (f : A → B) (o : Option A) (y : B) → option_map f o ≡ Some y →
    (x : A) × (o ≡ Some x) × (f x ≡ y)
mapped_some f None y e = absurd cc
mapped_some f (Some x) y e = (x, refl, cc)

pub chosen : {A : Type 0} (b : Bool) (o : Option A) (y : A) → cond b o None ≡ Some y → (b ≡ true) × (o ≡ Some y)
chosen true o y e = (refl, e)
chosen false o y e = absurd cc

-- ---- readers

-- a value is read from its spelling, whatever stands behind it, and from no other bytes
pub record IsReader {A : Type 0} (Fits : A → Type 0) (spell : A → List ℕ) (read : Reader A) : Type 0 where
  pub again : (a : A) (rest : List ℕ) → Fits a → read (spell a ++ rest) ≡ Some (a, rest)
  pub spelled : (bytes : List ℕ) (a : A) (rest : List ℕ) → IsBytes bytes → read bytes ≡ Some (a, rest) →
      Fits a × (bytes ≡ spell a ++ rest)

rest_fits : (front rest bytes : List ℕ) → IsBytes bytes → bytes ≡ front ++ rest → IsBytes rest
rest_fits front rest bytes fits e =
    subst IsBytes (ap (drop (length front)) e ∙ drop_at front rest (length front) refl)
    (IsBytes-drop (length front) bytes fits)

pub many_again : {A : Type 0} (Fits : A → Type 0) (spell : A → List ℕ) (read : Reader A) → IsReader Fits spell read
    → (vs : List A) (rest : List ℕ) → AllByRecursion Fits vs →
    many read (length vs) (flat_map spell vs ++ rest) ≡ Some (vs, rest)
many_again Fits spell read is [] rest all = refl
many_again Fits spell read is (a ∷ vs) rest all =
    ap (many read (suc (length vs))) (append_assoc (spell a) (flat_map spell vs) rest)
    ∙ ap (option_and_then (λ x. option_map (λ xs. (x.0 ∷ xs.0, xs.1)) (many read (length vs) x.1)))
    (is.again a (flat_map spell vs ++ rest) all.0)
    ∙ ap (option_map (λ xs. (a ∷ xs.0, xs.1))) (many_again Fits spell read is vs rest all.1)

pub record Many {A : Type 0} (Fits : A → Type 0) (spell : A → List ℕ) (n : ℕ) (bytes : List ℕ) (vs : List A)
    (rest : List ℕ) : Type 0 where
  pub count : length vs ≡ n
  pub fits : AllByRecursion Fits vs
  pub spelled : bytes ≡ flat_map spell vs ++ rest

pub many_is : {A : Type 0} (Fits : A → Type 0) (spell : A → List ℕ) (read : Reader A) → IsReader Fits spell read
    → (n : ℕ) (bytes : List ℕ) (x : List A × List ℕ) → IsBytes bytes → many read n bytes ≡ Some x →
    Many Fits spell n bytes x.0 x.1
many_is {A = A} Fits spell read is zero bytes x fits e =
    let same : ([], bytes) ≡ x = cc in
    subst (λ (y : List A × List ℕ). Many Fits spell zero bytes y.0 y.1) same
    (record { count = refl; fits = tt; spelled = refl })
many_is {A = A} Fits spell read is (suc n) bytes x fits e =
    let p = bound_some (λ x. option_map (λ xs. (x.0 ∷ xs.0, xs.1)) (many read n x.1)) (read bytes) x e in
    let q = mapped_some (λ xs. (p.0.0 ∷ xs.0, xs.1)) (many read n p.0.1) x p.2 in
    let one = is.spelled bytes p.0.0 p.0.1 fits p.1 in
    let rest = many_is Fits spell read is n p.0.1 q.0 (rest_fits (spell p.0.0) p.0.1 bytes fits one.1) q.1 in
    subst (λ (y : List A × List ℕ). Many Fits spell (suc n) bytes y.0 y.1) q.2 (record {
      count = ap (λ k. suc k) rest.count;
      fits = (one.0, rest.fits);
      spelled = one.1 ∙ ap (λ (t : List ℕ). spell p.0.0 ++ t) rest.spelled
          ∙ sym (append_assoc (spell p.0.0) (flat_map spell q.0.0) q.0.1);
    })

pub both_true : (a b : Bool) → a ≡ true → b ≡ true → (a && b) ≡ true
both_true a b p q = ap (λ t. t && b) p ∙ q

-- ---- records

-- a record of this version
abbrev pub FitsRecord : Version → Record → Type 0
FitsRecord v r = IsRecord r × HasLayer v r

found_is : (v : Version) (bytes : List ℕ) (r : Result (Record × ℕ) RecordFault) (a : Record) (rest : List ℕ) →
    IsBytes bytes → record_in v bytes ≡ r → found_record bytes r ≡ Some (a, rest) →
    FitsRecord v a × (bytes ≡ record_bytes v a ++ rest)
found_is v bytes (Ok p) a rest fits e h =
    let s = record_is v bytes p.0 p.1 fits e in
    let same : (p.0, drop p.1 bytes) ≡ (a, rest) = cc in
    subst (λ (y : Record × List ℕ). FitsRecord v y.0 × (bytes ≡ record_bytes v y.0 ++ y.1)) same
    ((s.is, s.layer), s.spelled)
found_is v bytes (Err f) a rest fits e h = absurd cc

pub record_reader : (v : Version) → IsReader (FitsRecord v) (record_bytes v) (record_field v)
record_reader v = record {
  again = λ r rest is.
      ap (found_record (record_bytes v r ++ rest)) (record_again v r rest is.0 is.1)
      ∙ ap (λ (t : List ℕ). Some (r, t)) (drop_at (record_bytes v r) rest (length (record_bytes v r)) refl);
  spelled = λ bytes a rest fits e. found_is v bytes (record_in v bytes) a rest fits refl e;
}

-- ---- children

pub record IsLinkAt (v : Version) (level : ℕ) (l : Link) : Type 0 where
  pub link : IsLink v l
  pub at : l.entry.level ≡ level

slice_at : (front raw back : List ℕ) (at end : ℕ) → length front ≡ at → at + length raw ≡ end →
    slice_range (front ++ (raw ++ back)) at end ≡ raw
slice_at front raw back at end p q =
    ap (take (end - at)) (drop_at front (raw ++ back) at p) ∙ take_at raw back (end - at) (omega arith)

-- what a version may tell

may_tell_is : (v : Version) (mask count : ℕ) → mask < 2 ^ 64 → (v ≡ One → (mask ≡ 0) × (count ≡ 0)) →
    may_tell v mask count ≡ true → MayTell v mask count
may_tell_is One mask count low none h =
    let zero = none refl in
    record {
      some = omega arith;
      fits = omega (arith, zero.0);
      counted = omega arith;
      few = omega (arith, zero.1);
    }
may_tell_is Two mask count low none h =
    let p = and_parts (nat_le 1 mask) (nat_le 1 count && nat_le count count_limit) h in
    let q = and_parts (nat_le 1 count) (nat_le count count_limit) p.1 in
    record {
      some = leb-true 1 mask p.0;
      fits = low;
      counted = leb-true 1 count q.0;
      few = leb-true count count_limit q.1;
    }

pub tells_again : (v : Version) (mask count : ℕ) → MayTell v mask count → may_tell v mask count ≡ true
tells_again One mask count told = refl
tells_again Two mask count told =
    both_true (nat_le 1 mask) (nat_le 1 count && nat_le count count_limit)
    (le-leb 1 mask told.some)
    (both_true (nat_le 1 count) (nat_le count count_limit) (le-leb 1 count told.counted)
    (le-leb count count_limit told.few))

-- ---- what stands behind the rectangle of a link

whole : (xs : List ℕ) (n : ℕ) → length xs ≡ n → take n xs ≡ xs
whole xs n e = ap (take n) (sym (append-nil xs)) ∙ take_at xs [] n e

-- the mask at place 20, and the digest from a place to the end
pub record HasTail (v : Version) (from end m : ℕ) (digest raw : List ℕ) : Type 0 where
  pub mask : word_in v 20 raw ≡ m
  pub digest_ : slice_range raw from end ≡ digest

word_of : (n : ℕ) (front rest : List ℕ) → length front ≡ 20 → n < 2 ^ 64 →
    word_in Two 20 (front ++ (to_be_bytes w64 n ++ rest)) ≡ n
word_of n front rest long below =
    ap (from_be_bytes w64) (slice_at front (to_be_bytes w64 n) rest 20 28 long refl)
    ∙ from_be_bytes-to_be_bytes_8 n below

last_of : (front digest : List ℕ) (from end : ℕ) → length front ≡ from → from + length digest ≡ end →
    slice_range (front ++ digest) from end ≡ digest
last_of front digest from end long size =
    ap (take (end - from)) (drop_at front digest from long) ∙ whole digest (end - from) (omega (arith, size))

-- the tail of a root
root_tail : (v : Version) (mask count : ℕ) (front digest : List ℕ) → length front ≡ 20 → length digest ≡ 32 →
    MayTell v mask count →
    HasTail v (20 + told v 8) (root_size v) mask digest (front ++ (word_bytes v mask ++ digest))
root_tail One mask count front digest long size may = record {
  mask = omega (arith, may.fits);
  digest_ = last_of front digest 20 52 long (omega (arith, size));
}
root_tail Two mask count front digest long size may =
    let M : List ℕ = to_be_bytes w64 mask in
    record {
      mask = word_of mask front digest long may.fits;
      digest_ = ap (λ (t : List ℕ). slice_range t 28 60) (sym (append_assoc front M digest))
          ∙ last_of (front ++ M) digest 28 60 (omega (arith, length-append front M)) (omega (arith, size));
    }

-- that of a child
child_tail : (v : Version) (mask count : ℕ) (front digest : List ℕ) → length front ≡ 20 → length digest ≡ 32 →
    MayTell v mask count →
    HasTail v (20 + told v 16) (link_size v) mask digest
    (front ++ (word_bytes v mask ++ (word_bytes v count ++ digest)))
child_tail One mask count front digest long size may = record {
  mask = omega (arith, may.fits);
  digest_ = last_of front digest 20 52 long (omega (arith, size));
}
child_tail Two mask count front digest long size may =
    let M : List ℕ = to_be_bytes w64 mask in
    let C : List ℕ = to_be_bytes w64 count in
    record {
      mask = word_of mask front (C ++ digest) long may.fits;
      digest_ = ap (λ (t : List ℕ). slice_range t 36 68) (sym (append_assoc front M (C ++ digest))
          ∙ sym (append_assoc (front ++ M) C digest))
          ∙ last_of ((front ++ M) ++ C) digest 36 68
          (omega (arith, length-append front M, length-append (front ++ M) C)) (omega (arith, size));
    }

child_count : (v : Version) (mask count : ℕ) (front digest : List ℕ) → length front ≡ 20 → MayTell v mask count →
    word_in v 28 (front ++ (word_bytes v mask ++ (word_bytes v count ++ digest))) ≡ count
child_count One mask count front digest long may = omega (arith, may.few)
child_count Two mask count front digest long may =
    let M : List ℕ = to_be_bytes w64 mask in
    let C : List ℕ = to_be_bytes w64 count in
    ap (λ (t : List ℕ). from_be_bytes w64 (slice_range t 28 36)) (sym (append_assoc front M (C ++ digest)))
    ∙ ap (from_be_bytes w64) (slice_at (front ++ M) C digest 28 36 (omega (arith, length-append front M)) refl)
    ∙ from_be_bytes-to_be_bytes_8 count (omega (arith, may.few))

-- the words and the digest of a child's bytes
child_words : (v : Version) (raw : List ℕ) → length raw ≡ link_size v → IsBytes raw →
    drop 20 raw ≡ word_bytes v (word_in v 20 raw) ++ (word_bytes v (word_in v 28 raw)
    ++ slice_range raw (20 + told v 16) (link_size v))
child_words One raw long fits = sym (whole (drop 20 raw) 32 (omega (arith, length-drop 20 raw)))
child_words Two raw long fits =
    let m : slice_range raw 20 28 ≡ to_be_bytes w64 (word_in Two 20 raw) =
    word_is (slice_range raw 20 28) (length-take-le 8 (drop 20 raw) (omega (arith, length-drop 20 raw)))
    (IsBytes-take 8 (drop 20 raw) (IsBytes-drop 20 raw fits)) in
    let c : slice_range raw 28 36 ≡ to_be_bytes w64 (word_in Two 28 raw) =
    word_is (slice_range raw 28 36) (length-take-le 8 (drop 28 raw) (omega (arith, length-drop 28 raw)))
    (IsBytes-take 8 (drop 28 raw) (IsBytes-drop 28 raw fits)) in
    let d : drop 36 raw ≡ slice_range raw 36 68 = sym (whole (drop 36 raw) 32 (omega (arith, length-drop 36 raw))) in
    drop_split raw 20 28 (omega arith) ∙ ap (λ (t : List ℕ). slice_range raw 20 28 ++ t)
    (drop_split raw 28 36 (omega arith) ∙ ap (λ (t : List ℕ). slice_range raw 28 36 ++ t) d)
    ∙ (λ i. m i ++ (c i ++ slice_range raw 36 68))

-- those of a root's bytes
root_words : (v : Version) (raw : List ℕ) → length raw ≡ root_size v → IsBytes raw →
    drop 20 raw ≡ word_bytes v (word_in v 20 raw) ++ slice_range raw (20 + told v 8) (root_size v)
root_words One raw long fits = sym (whole (drop 20 raw) 32 (omega (arith, length-drop 20 raw)))
root_words Two raw long fits =
    let m : slice_range raw 20 28 ≡ to_be_bytes w64 (word_in Two 20 raw) =
    word_is (slice_range raw 20 28) (length-take-le 8 (drop 20 raw) (omega (arith, length-drop 20 raw)))
    (IsBytes-take 8 (drop 20 raw) (IsBytes-drop 20 raw fits)) in
    let d : drop 28 raw ≡ slice_range raw 28 60 = sym (whole (drop 28 raw) 32 (omega (arith, length-drop 28 raw))) in
    drop_split raw 20 28 (omega arith) ∙ ap (λ (t : List ℕ). slice_range raw 20 28 ++ t) d
    ∙ (λ i. m i ++ slice_range raw 28 60)

word_below_of : (v : Version) (at : ℕ) (raw : List ℕ) → IsBytes raw → word_in v at raw < 2 ^ 64
word_below_of One at raw fits = omega arith
word_below_of Two at raw fits =
    word_below (slice_range raw at (at + 8)) (IsBytes-take (at + 8 - at) (drop at raw) (IsBytes-drop at raw fits))

no_word : (v : Version) (at : ℕ) (raw : List ℕ) → v ≡ One → word_in v at raw ≡ 0
no_word One at raw e = refl
no_word Two at raw e = absurd cc

not_told : (v : Version) (count : ℕ) → v ≡ One → told v count ≡ 0
not_told One count e = refl
not_told Two count e = absurd cc

-- ---- links, of children and of roots

-- a link is read from its page, its rectangle and what stands behind them
linked : (v : Version) (level : ℕ) (l : Link) (raw tail : List ℕ) (count from end : ℕ) → IsLink v l →
    l.entry.level ≡ level →
    raw ≡ to_be_bytes w32 l.page ++ (rect_bytes l.entry.rect ++ tail) → count ≡ l.entry.count →
    ((front : List ℕ) → length front ≡ 20 → HasTail v from end l.entry.mask l.entry.digest (front ++ tail)) →
    option_and_then (λ (r : Rectangle). if_told v (link_with v level count from end raw r))
    (rectangle_of_bytes (slice_range raw 4 20)) ≡ Some l
linked v level l raw tail count from end is at made counted tails =
    let h = is.rect in
    let e = l.entry in
    let N : List ℕ = to_be_bytes w32 l.page in
    let R : List ℕ = rectangle_bytes h.r in
    let same : raw ≡ N ++ (R ++ tail) = made ∙ ap (λ (o : Option Rectangle). N ++ (rect_bytes o ++ tail)) h.is in
    let wide : length R ≡ 16 = length-rectangle_bytes h.r in
    let number : from_be_bytes w32 (take 4 raw) ≡ l.page =
    ap (λ (t : List ℕ). from_be_bytes w32 (take 4 t)) same ∙ from_be_bytes-to_be_bytes_4 l.page is.page in
    let sides : slice_range raw 4 20 ≡ R = ap (λ (t : List ℕ). slice_range t 4 20) same
    ∙ slice_at N R tail 4 20 refl (omega (arith, wide)) in
    let rect : rectangle_of_bytes (slice_range raw 4 20) ≡ Some h.r =
    rectangle_read (slice_range raw 4 20) h.r h.ordered h.coordinates sides in
    let words : HasTail v from end e.mask e.digest raw = subst (HasTail v from end e.mask e.digest)
    (append_assoc N R tail ∙ sym same) (tails (N ++ R) (omega (arith, length-append N R, wide))) in
    ap (option_and_then (λ (r : Rectangle). if_told v (link_with v level count from end raw r))) rect
    ∙ (λ i. if_told v (record {
      page = number i;
      entry = record {
        level = sym at i;
        rect = sym h.is i;
        mask = words.mask i;
        count = counted i;
        digest = words.digest_ i;
      };
    }))
    ∙ ap (λ (b : Bool). cond b (Some l) None) (tells_again v e.mask e.count is.told)

-- what a link is that was read
record IsLinked (v : Version) (level n from end : ℕ) (raw : List ℕ) (l : Link) : Type 0 where
  link : IsLink v l
  at : l.entry.level ≡ level
  mask : l.entry.mask ≡ word_in v 20 raw
  count : l.entry.count ≡ n
  digest : l.entry.digest ≡ slice_range raw from end
  front : raw ≡ to_be_bytes w32 l.page ++ (rect_bytes l.entry.rect ++ drop 20 raw)

linked_is : (v : Version) (level count from end : ℕ) (raw : List ℕ) (l : Link) → level ≤ level_limit → from + 32 ≡ end →
    length raw ≡ end → 20 ≤ from → IsBytes raw → (v ≡ One → count ≡ 0) →
    option_and_then (λ (r : Rectangle). if_told v (link_with v level count from end raw r))
    (rectangle_of_bytes (slice_range raw 4 20)) ≡ Some l → IsLinked v level count from end raw l
linked_is v level count from end raw l low size long room fits none e =
    let p = bound_some (λ (r : Rectangle). if_told v (link_with v level count from end raw r))
    (rectangle_of_bytes (slice_range raw 4 20)) l e in
    let made : Link = link_with v level count from end raw p.0 in
    let t = chosen (may_tell v (word_in v 20 raw) count) (Some made) l p.2 in
    let is_made : made ≡ l = cc in
    let wide : 20 ≤ length raw = omega (arith, long, size, room) in
    let page : take 4 raw ≡ to_be_bytes w32 (from_be_bytes w32 (take 4 raw)) =
    quarter_is (take 4 raw) (length-take-le 4 raw (omega (arith, wide))) (IsBytes-take 4 raw fits) in
    let mid : length (slice_range raw 4 20) ≡ 16 =
    length-take-le 16 (drop 4 raw) (omega (arith, length-drop 4 raw, wide)) in
    let last : length (slice_range raw from end) ≡ 32 =
    length-take-le (end - from) (drop from raw) (omega (arith, length-drop from raw, long)) ∙ (omega (arith, size)) in
    let rect = rectangle_is (slice_range raw 4 20) p.0 mid (IsBytes-take 16 (drop 4 raw) (IsBytes-drop 4 raw fits))
    (ap (λ (o : Option Rectangle). ok_or o (broken BadRect 8)) p.1) in
    subst (IsLinked v level count from end raw) is_made (
    record {
      link = record {
        page = quarter_below (take 4 raw) (IsBytes-take 4 raw fits);
        level = low;
        rect = record { r = p.0; is = refl; ordered = rect.ordered; coordinates = rect.fits };
        told = may_tell_is v (word_in v 20 raw) count (word_below_of v 20 raw fits)
            (λ one. (no_word v 20 raw one, none one)) t.0;
        digest = last;
      };
      at = refl;
      mask = refl;
      count = refl;
      digest = refl;
      front = drop_split raw 0 4 (omega arith)
          ∙ ap (λ (t : List ℕ). take 4 raw ++ t) (drop_split raw 4 20 (omega arith))
          ∙ (λ i. page i ++ (rect.spelled i ++ drop 20 raw));
    }
    )

pub length-word_bytes : (v : Version) (n : ℕ) → length (word_bytes v n) ≡ told v 8
length-word_bytes One n = refl
length-word_bytes Two n = refl

pub twice : (v : Version) → told v 16 ≡ told v 8 + told v 8
twice One = refl
twice Two = refl

-- a page, a rectangle that is there and what stands behind them
length_linked : (l : Link) (tail : List ℕ) (v : Version) → IsLink v l →
    length (to_be_bytes w32 l.page ++ (rect_bytes l.entry.rect ++ tail)) ≡ 20 + length tail
length_linked l tail v is =
    let R : List ℕ = rectangle_bytes is.rect.r in
    ap (λ (o : Option Rectangle). length (to_be_bytes w32 l.page ++ (rect_bytes o ++ tail))) is.rect.is
    ∙ omega (
      arith,
      length-rectangle_bytes is.rect.r,
      length-append R tail,
      length-append (to_be_bytes w32 l.page) (R ++ tail),
    )

-- ---- children

pub link_again : (v : Version) (level : ℕ) (l : Link) → IsLinkAt v level l → link_in v level (link_bytes v l) ≡ Some l
unfolding link_bytes link_in
link_again v level l is =
    let e = l.entry in
    let tail : List ℕ = word_bytes v e.mask ++ (word_bytes v e.count ++ e.digest) in
    let raw : List ℕ = to_be_bytes w32 l.page ++ (rect_bytes e.rect ++ tail) in
    let h = is.link.rect in
    let N : List ℕ = to_be_bytes w32 l.page in
    let R : List ℕ = rectangle_bytes h.r in
    let same : raw ≡ (N ++ R) ++ tail = ap (λ (o : Option Rectangle). N ++ (rect_bytes o ++ tail)) h.is
    ∙ sym (append_assoc N R tail) in
    let count : word_in v 28 raw ≡ e.count = ap (word_in v 28) same
    ∙ child_count v e.mask e.count (N ++ R) e.digest
    (omega (arith, length-append N R, length-rectangle_bytes h.r)) is.link.told
    in
    linked v level l raw tail (word_in v 28 raw) (20 + told v 16) (link_size v) is.link is.at refl count
    (λ front long. child_tail v e.mask e.count front e.digest long is.link.digest is.link.told)

pub length-link_bytes : (v : Version) (l : Link) → IsLink v l → length (link_bytes v l) ≡ link_size v
unfolding link_bytes
length-link_bytes v l is =
    let e = l.entry in
    let C : List ℕ = word_bytes v e.count ++ e.digest in
    omega (
      arith,
      length_linked l (word_bytes v e.mask ++ C) v is,
      is.digest,
      twice v,
      length-word_bytes v e.mask,
      length-word_bytes v e.count,
      length-append (word_bytes v e.count) e.digest,
      length-append (word_bytes v e.mask) C,
    )

pub link_is : (v : Version) (level : ℕ) (raw : List ℕ) (l : Link) → level ≤ level_limit → length raw ≡ link_size v →
    IsBytes raw → link_in v level raw ≡ Some l → IsLinkAt v level l × (raw ≡ link_bytes v l)
unfolding link_in link_bytes
link_is v level raw l low long fits e =
    let s = linked_is v level (word_in v 28 raw) (20 + told v 16) (link_size v) raw l low (omega arith) long
    (omega arith) fits
    (no_word v 28 raw) e in (
      record { link = s.link; at = s.at },
      s.front ∙ ap (λ (t : List ℕ). to_be_bytes w32 l.page ++ (rect_bytes l.entry.rect ++ t))
          (child_words v raw long fits
          ∙ (λ i. word_bytes v (sym s.mask i) ++ (word_bytes v (sym s.count i) ++ sym s.digest i))),
    )

pub level_read : (v : Version) (level : ℕ) (raw : List ℕ) (l : Link) → link_in v level raw ≡ Some l →
    l.entry.level ≡ level
unfolding link_in
level_read v level raw l e =
    let made = link_with v level (word_in v 28 raw) (20 + told v 16) (link_size v) raw in
    let p = bound_some (λ (r : Rectangle). if_told v (made r)) (rectangle_of_bytes (slice_range raw 4 20)) l e in
    let t = chosen (may_tell v (word_in v 20 raw) (word_in v 28 raw)) (Some (made p.0)) l p.2 in
    let same : made p.0 ≡ l = cc in
    sym (ap (λ (x : Link). x.entry.level) same)

-- ---- roots

-- what page 0 says of a root
abbrev pub spelled_root : Version → Link → List ℕ
spelled_root v l = to_be_bytes w32 l.page ++ root_entry_bytes v l.entry

pub root_link_again : (v : Version) (count : ℕ) (l : Link) → IsLink v l → l.entry.count ≡ told v count →
    root_link_in v count l.entry.level (spelled_root v l) ≡ Some l
unfolding root_link_in
root_link_again v count l is counted =
    let e = l.entry in
    linked v e.level l (spelled_root v l) (word_bytes v e.mask ++ e.digest) (told v count) (20 + told v 8) (root_size v)
    is refl refl (sym counted)
    (λ front long. root_tail v e.mask e.count front e.digest long is.digest is.told)

pub length-root_link : (v : Version) (l : Link) → IsLink v l → length (spelled_root v l) ≡ root_size v
length-root_link v l is =
    let e = l.entry in
    omega (
      arith,
      length_linked l (word_bytes v e.mask ++ e.digest) v is,
      is.digest,
      length-word_bytes v e.mask,
      length-append (word_bytes v e.mask) e.digest,
    )

-- a root that was read
pub record IsRootLink (v : Version) (n level : ℕ) (raw : List ℕ) (l : Link) : Type 0 where
  pub link : IsLink v l
  pub at : l.entry.level ≡ level
  pub count : l.entry.count ≡ told v n
  pub spelled : raw ≡ spelled_root v l

pub root_link_is : (v : Version) (count level : ℕ) (raw : List ℕ) (l : Link) → level ≤ level_limit →
    length raw ≡ root_size v → IsBytes raw → root_link_in v count level raw ≡ Some l → IsRootLink v count level raw l
unfolding root_link_in
root_link_is v count level raw l low long fits e =
    let s = linked_is v level (told v count) (20 + told v 8) (root_size v) raw l low (omega arith) long
    (omega arith) fits
    (not_told v count) e in
    record {
      link = s.link;
      at = s.at;
      count = s.count;
      spelled =
          s.front ∙ ap (λ (t : List ℕ). to_be_bytes w32 l.page ++ (rect_bytes l.entry.rect ++ t))
          (root_words v raw long fits
          ∙ (λ i. word_bytes v (sym s.mask i) ++ sym s.digest i));
    }

pub root_level_read : (v : Version) (count level : ℕ) (raw : List ℕ) (l : Link) →
    root_link_in v count level raw ≡ Some l →
    l.entry.level ≡ level
unfolding root_link_in
root_level_read v count level raw l e =
    let made = link_with v level (told v count) (20 + told v 8) (root_size v) raw in
    let p = bound_some (λ (r : Rectangle). if_told v (made r)) (rectangle_of_bytes (slice_range raw 4 20)) l e in
    let t = chosen (may_tell v (word_in v 20 raw) (told v count)) (Some (made p.0)) l p.2 in
    let same : made p.0 ≡ l = cc in
    sym (ap (λ (x : Link). x.entry.level) same)

pub link_reader : (v : Version) (level : ℕ) → level ≤ level_limit →
    IsReader (IsLinkAt v level) (link_bytes v) (link_field v level)
link_reader v level low =
    let n : ℕ = link_size v in
    record {
      again = λ l rest is.
          let long : length (link_bytes v l) ≡ n = length-link_bytes v l is.link in
          let test : nat_le n (length (link_bytes v l ++ rest)) ≡ true =
          le-leb n (length (link_bytes v l ++ rest)) (omega (arith, length-append (link_bytes v l) rest, long)) in
          let got : link_in v level (take n (link_bytes v l ++ rest)) ≡ Some l =
          ap (link_in v level) (take_at (link_bytes v l) rest n long) ∙ link_again v level l is in
          ap (λ (b : Bool). cond b (option_map (λ (x : Link). (x, drop n (link_bytes v l ++ rest)))
          (link_in v level (take n (link_bytes v l ++ rest)))) None) test
          ∙ ap (option_map (λ (x : Link). (x, drop n (link_bytes v l ++ rest)))) got
          ∙ ap (λ (t : List ℕ). Some (l, t)) (drop_at (link_bytes v l) rest n long);
      spelled = λ bytes l rest fits e.
          let p = chosen (nat_le n (length bytes)) (option_map (λ (x : Link). (x, drop n bytes))
          (link_in v level (take n bytes))) (l, rest) e in
          let within : n ≤ length bytes = leb-true n (length bytes) p.0 in
          let q = mapped_some (λ (x : Link). (x, drop n bytes)) (link_in v level (take n bytes)) (l, rest) p.1 in
          let is = link_is v level (take n bytes) q.0 low (length-take-le n bytes within)
          (IsBytes-take n bytes fits) q.1 in
          subst (λ (y : Link × List ℕ). IsLinkAt v level y.0 × (bytes ≡ link_bytes v y.0 ++ y.1)) q.2
          (is.0, sym (take-append-drop n bytes) ∙ ap (λ (t : List ℕ). t ++ drop n bytes) is.1);
    }

-- ---- zeros

pub zeros_are : (t : List ℕ) → are_zeros t ≡ true → t ≡ replicate (length t) 0
zeros_are [] h = refl
zeros_are (b ∷ t) h =
    let p = and_parts (eqb b 0) (are_zeros t) h in
    λ i. eqb-true b 0 p.0 i ∷ zeros_are t p.1 i

pub are_zeros-replicate : (n : ℕ) → are_zeros (replicate n 0) ≡ true
are_zeros-replicate zero = refl
are_zeros-replicate (suc n) = are_zeros-replicate n

pub filled_is : (size : ℕ) (front left : List ℕ) → length (front ++ left) ≡ size → are_zeros left ≡ true →
    front ++ left ≡ filled size front
filled_is size front left long h =
    ap (λ (z : List ℕ). front ++ z) (zeros_are left h ∙ ap (λ (n : ℕ). replicate n 0)
    (let e : length left ≡ size - length front = omega (arith, length-append front left) in e))

pub length-filled : (size : ℕ) (front : List ℕ) → length front ≤ size → length (filled size front) ≡ size
length-filled size front fits = omega (
  arith,
  length-append front
      (replicate (size - length front) 0),
  length-replicate {A = ℕ} (size - length front) 0,
)

-- ---- nodes

in_range : (limit n : ℕ) → 1 ≤ n → n ≤ limit → from_one_to limit n ≡ true
in_range limit n some few = both_true (nat_le 1 n) (nat_le n limit) (le-leb 1 n some) (le-leb n limit few)

range_is : (limit n : ℕ) → from_one_to limit n ≡ true → (1 ≤ n) × (n ≤ limit)
range_is limit n h =
    let p = and_parts (nat_le 1 n) (nat_le n limit) h in
    (leb-true 1 n p.0, leb-true n limit p.1)

-- what is read before zeros
pub ended : {A : Type 0} (o : Option (A × List ℕ)) (a : A) (zeros : List ℕ) → o ≡ Some (a, zeros) →
    are_zeros zeros ≡ true → option_and_then before_zeros o ≡ Some a
ended o a zeros e h = ap (option_and_then before_zeros) e ∙ ap (λ (b : Bool). cond b (Some a) None) h

end_is : {A : Type 0} (x : A × List ℕ) (a : A) → before_zeros x ≡ Some a → (are_zeros x.1 ≡ true) × (x.0 ≡ a)
end_is x a e = let p = chosen (are_zeros x.1) (Some x.0) a e in (p.0, cc)

first_at : (links : List Link) (level : ℕ) → 1 ≤ length links →
    AllByRecursion (λ (l : Link). l.entry.level ≡ level) links → level_below links ≡ level
first_at [] level some all = absurd (omega arith)
first_at (l ∷ links) level some all = all.0

module _ (v : Version) where
  -- what a page of a node is
  pub record Spells (page : List ℕ) (n : Node) : Type 0 where
    pub fits : IsNode v n
    pub left : List ℕ
    pub is : page ≡ node_bytes v n ++ left
    pub zeros : are_zeros left ≡ true

  leaf_again : (rs : List Record) (zeros : List ℕ) → IsNode v (Leaf rs) → are_zeros zeros ≡ true →
      leaf_in v (length rs ∷ (flat_map (record_bytes v) rs ++ zeros)) ≡ Some (Leaf rs)
  leaf_again rs zeros is h =
      ap (λ (b : Bool). cond b (option_map Leaf (option_and_then before_zeros
      (many (record_field v) (length rs) (flat_map (record_bytes v) rs ++ zeros)))) None)
      (in_range leaf_limit (length rs) is.0 is.1)
      ∙ ap (option_map Leaf) (ended (many (record_field v) (length rs) (flat_map (record_bytes v) rs ++ zeros)) rs zeros
      (many_again (FitsRecord v) (record_bytes v) (record_field v) (record_reader v) rs zeros
      (recursion_from_All (FitsRecord v) rs is.2)) h)

  leaf_is : (bytes : List ℕ) (n : Node) → IsBytes bytes → leaf_in v bytes ≡ Some n → Spells (leaf_tag ∷ bytes) n
  leaf_is [] n fits e = absurd cc
  leaf_is (count ∷ rest) n fits e =
      let p = chosen (from_one_to leaf_limit count) (option_map Leaf
      (option_and_then before_zeros (many (record_field v) count rest))) n e in
      let r = range_is leaf_limit count p.0 in
      let q = mapped_some Leaf (option_and_then before_zeros (many (record_field v) count rest)) n p.1 in
      let o = bound_some before_zeros (many (record_field v) count rest) q.0 q.1 in
      let z = end_is o.0 q.0 o.2 in
      let m = many_is (FitsRecord v) (record_bytes v) (record_field v) (record_reader v) count rest o.0
      (λ i. fits (suc i)) o.1 in
      let done : Spells (leaf_tag ∷ count ∷ rest) (Leaf o.0.0) = record {
        fits = (omega (arith, m.count), omega (arith, m.count), All-from_recursion (FitsRecord v) o.0.0 m.fits);
        left = o.0.1;
        is = λ i. leaf_tag ∷ sym m.count i ∷ m.spelled i;
        zeros = z.0;
      } in
      subst (Spells (leaf_tag ∷ count ∷ rest)) (ap Leaf z.1 ∙ q.2) done

  zipped : (links : List Link) (level : ℕ) → AllByRecursion (IsLink v) links →
      AllByRecursion (λ (l : Link). l.entry.level ≡ level) links → AllByRecursion (IsLinkAt v level) links
  zipped [] level a b = tt
  zipped (l ∷ links) level a b = (record { link = a.0; at = b.0 }, zipped links level a.1 b.1)

  links_of : (links : List Link) (level : ℕ) → AllByRecursion (IsLinkAt v level) links →
      AllByRecursion (IsLink v) links × AllByRecursion (λ (l : Link). l.entry.level ≡ level) links
  links_of [] level a = (tt, tt)
  links_of (l ∷ links) level a = let p = links_of links level a.1 in ((a.0.link, p.0), (a.0.at, p.1))

  inner_again : (links : List Link) (zeros : List ℕ) → IsNode v (Inner links) → are_zeros zeros ≡ true →
      inner_in v ((level_below links + 1) ∷ length links ∷ (flat_map (link_bytes v) links ++ zeros)) ≡
      Some (Inner links)
  inner_again links zeros is h =
      let level : ℕ = level_below links in
      let F : List ℕ = flat_map (link_bytes v) links ++ zeros in
      let below : level < level_limit = is.4 in
      let test : (from_one_to level_limit (level + 1) && from_one_to inner_limit (length links)) ≡ true =
      both_true (from_one_to level_limit (level + 1)) (from_one_to inner_limit (length links))
      (in_range level_limit (level + 1) (omega arith) (omega arith))
      (in_range inner_limit (length links) is.0 is.1) in
      let back : level + 1 - 1 ≡ level = omega arith in
      ap (λ (b : Bool). cond b (option_map Inner (option_and_then before_zeros
      (many (link_field v (level + 1 - 1)) (length links) F))) None) test
      ∙ ap (λ (k : ℕ). option_map Inner (option_and_then before_zeros (many (link_field v k) (length links) F))) back
      ∙ ap (option_map Inner) (ended (many (link_field v level) (length links) F) links zeros
      (many_again (IsLinkAt v level) (link_bytes v) (link_field v level) (link_reader v level (omega arith)) links zeros
      (zipped links level is.2 is.3)) h)

  pub inner_is : (bytes : List ℕ) (n : Node) → IsBytes bytes → inner_in v bytes ≡ Some n → Spells (inner_tag ∷ bytes) n
  inner_is [] n fits e = absurd cc
  inner_is (one ∷ []) n fits e = absurd cc
  inner_is (up ∷ count ∷ rest) n fits e =
      let read = option_and_then before_zeros (many (link_field v (up - 1)) count rest) in
      let p = chosen (from_one_to level_limit up && from_one_to inner_limit count) (option_map Inner read) n e in
      let t = and_parts (from_one_to level_limit up) (from_one_to inner_limit count) p.0 in
      let l = range_is level_limit up t.0 in
      let r = range_is inner_limit count t.1 in
      let q = mapped_some Inner read n p.1 in
      let o = bound_some before_zeros (many (link_field v (up - 1)) count rest) q.0 q.1 in
      let z = end_is o.0 q.0 o.2 in
      let m = many_is (IsLinkAt v (up - 1)) (link_bytes v) (link_field v (up - 1))
      (link_reader v (up - 1) (omega arith)) count rest o.0 (λ i. fits (suc (suc i))) o.1 in
      let all = links_of o.0.0 (up - 1) m.fits in
      let some : 1 ≤ length o.0.0 = omega (arith, m.count) in
      let low : level_below o.0.0 ≡ up - 1 = first_at o.0.0 (up - 1) some all.1 in
      let height : up ≡ level_below o.0.0 + 1 = omega arith in
      let done : Spells (inner_tag ∷ up ∷ count ∷ rest) (Inner o.0.0) = record {
        fits = (
          some,
          omega (arith, m.count),
          all.0,
          subst
              (λ (k : ℕ). AllByRecursion (λ (l : Link). l.entry.level ≡ k) o.0.0) (sym low) all.1,
          omega arith,
        );
        left = o.0.1;
        is = λ i. inner_tag ∷ height i ∷ sym m.count i ∷ m.spelled i;
        zeros = z.0;
      } in
      subst (Spells (inner_tag ∷ up ∷ count ∷ rest)) (ap Inner z.1 ∙ q.2) done

  -- ---- whole pages

  -- a node takes no more room than a page has
  none_told : (v : Version) → told v 0 ≡ 0
  none_told One = refl
  none_told Two = refl

  record_room : (rs : List Record) → AllByRecursion (FitsRecord v) rs →
      length (flat_map (record_bytes v) rs) ≤ 225 * length rs + told v (length rs)
  record_room [] all = omega (arith, none_told v)
  record_room (r ∷ rs) all =
      let more = record_room rs all.1 in
      let step : told v 1 + told v (length rs) ≡ told v (length (r ∷ rs)) =
      sym (told_sum v 1 (length rs)) ∙ ap (told v) (omega arith) in
      omega (
        arith,
        step,
        length-append (record_bytes v r) (flat_map (record_bytes v) rs),
        length-record_bytes v r,
        all.0.0.payload,
        more,
      )

  link_room : (links : List Link) → AllByRecursion (IsLink v) links →
      length (flat_map (link_bytes v) links) ≡ 52 * length links + told v (16 * length links)
  link_room [] all = omega (arith, none_told v)
  link_room (l ∷ links) all =
      let more = link_room links all.1 in
      let step : told v 16 + told v (16 * length links) ≡ told v (16 * length (l ∷ links)) =
      sym (told_sum v 16 (16 * length links)) ∙ ap (told v) (omega arith) in
      omega (
        arith,
        step,
        length-append (link_bytes v l) (flat_map (link_bytes v) links),
        length-link_bytes v l all.0,
        more,
      )

  pub node_room : (n : Node) → IsNode v n → length (node_bytes v n) ≤ node_limit v
  node_room Empty is = absurd is
  node_room (Leaf rs) is =
      omega (arith, record_room rs (recursion_from_All (FitsRecord v) rs is.2), within v (length rs) is.1)
    where
      within : (v : Version) (k : ℕ) → k ≤ 16 → 2 + 225 * k + told v k ≤ node_limit v
      within One k few = omega arith
      within Two k few = omega arith
  node_room (Inner links) is = omega (arith, link_room links is.2, within v (length links) is.1)
    where
      within : (v : Version) (k : ℕ) → k ≤ 64 → 3 + 52 * k + told v (16 * k) ≤ node_limit v
      within One k few = omega arith
      within Two k few = omega arith

  tagged_again : (n : Node) (zeros : List ℕ) → IsNode v n → are_zeros zeros ≡ true →
      tagged_in v (node_bytes v n ++ zeros) ≡ Some n
  tagged_again Empty zeros is h = absurd is
  tagged_again (Leaf rs) zeros is h = leaf_again rs zeros is h
  tagged_again (Inner links) zeros is h = inner_again links zeros is h

  tagged_is : (page : List ℕ) (n : Node) → IsBytes page → tagged_in v page ≡ Some n → Spells page n
  tagged_is [] n fits e = absurd cc
  tagged_is (tag ∷ rest) n fits e = elim (cases_Bool (eqb tag leaf_tag)) [
    | inl t ↦
        subst (λ (k : ℕ). Spells (k ∷ rest) n) (sym (eqb-true tag leaf_tag t))
        (leaf_is rest n (λ i. fits (suc i)) (subst (λ (b : Bool). cond b (leaf_in v rest)
        (cond (eqb tag inner_tag) (inner_in v rest) None) ≡ Some n) t e))
    | inr f ↦
        let p = chosen (eqb tag inner_tag) (inner_in v rest) n
        (subst (λ (b : Bool). cond b (leaf_in v rest) (cond (eqb tag inner_tag) (inner_in v rest) None) ≡
        Some n) f e) in
        subst (λ (k : ℕ). Spells (k ∷ rest) n) (sym (eqb-true tag inner_tag p.0))
        (inner_is rest n (λ i. fits (suc i)) p.1)
  ]

pub node_again : (layout : Layout) (n : Node) → node_limit layout.version ≤ layout.size → IsNode layout.version n →
    node_in layout (node_page layout n) ≡ Some n
node_again layout n big is =
    let v : Version = layout.version in
    let size : ℕ = layout.size in
    let page : List ℕ = node_page layout n in
    let long : length page ≡ size = length-filled size (node_bytes v n) (omega (arith, node_room v n is, big)) in
    ap (λ (b : Bool). cond b (tagged_in v page) None) (eq-eqb (length page) size long)
    ∙ tagged_again v n (replicate (size - length (node_bytes v n)) 0) is
    (are_zeros-replicate (size - length (node_bytes v n)))

pub node_is : (layout : Layout) (page : List ℕ) (n : Node) → IsBytes page → node_in layout page ≡ Some n →
    IsNode layout.version n × (node_page layout n ≡ page)
node_is layout page n fits e =
    let v : Version = layout.version in
    let p = chosen (eqb (length page) layout.size) (tagged_in v page) n e in
    let s = tagged_is v page n fits p.1 in
    let long : length (node_bytes v n ++ s.left) ≡ layout.size =
    ap length (sym s.is) ∙ eqb-true (length page) layout.size p.0 in
    (s.fits, sym (s.is ∙ filled_is layout.size (node_bytes v n) s.left long s.zeros))
