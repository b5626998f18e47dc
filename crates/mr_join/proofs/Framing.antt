-- A frame is read from the bytes that spell it, and from no others.
use Rattle.std.proofs.Common.{◌≡◌, ℕ, ◌^◌, ◌<◌, ◌≤◌, Bool, true, false, List, [], ◌∷◌, ◌++◌, length, take, drop, Option, Some, None, Result, Ok, Err, refl, sym, ap, subst, ◌∙◌, arith}
use Rattle.std.specs.Prelude.{◌==◌, nat_lt, nat_le, slice_index, bytes_eq, if◌then◌else◌, IfSome}
use Rattle.std.specs.Int.{w32, from_be_bytes, to_be_bytes}
use Rattle.std.proofs.lemmas.Bool.{false≢true, ltb-false, le-ltb, leb-true, eqb-true, eq-eqb}
use Rattle.std.proofs.lemmas.List.{take_at, drop_at, take-append-drop, length-take-le, length-append}
use Rattle.std.proofs.lemmas.Nat.{be_bytes_4, from_be_bytes-to_be_bytes_4}
use Rattle.mr_geom.specs.Rectangle.{Rectangle, IsOrdered, FitsMap}
use Rattle.mr_record.specs.Record.{rectangle_bytes, rectangle_of_bytes}
use Rattle.mr_record.specs.Results.{◌>>=◌}
use Rattle.mr_record.proofs.Encodings.{IsBytes, IsBytes-take, IsBytes-drop, rectangle_written, rectangle_read}
use Rattle.mr_record.proofs.RecordFields.{length-rectangle_bytes}
use Rattle.mr_record.proofs.Results.{bind_ok}
use Rattle.mr_proof.proofs.Values.{same_bytes}
use Rattle.mr_join.specs.declared.fault.FrameRule.TheVariants as rule
use Rattle.mr_join.specs.declared.fault.JoinFault.{JoinFault}
use Rattle.mr_join.specs.Frame.{Frame, magic, field, frame_fault, past_magic, flag_at, parts_behind, both_parts, parts_at, frame_of, parts_bytes, frame_bytes, FitsParts, FitsFrame}

-- ---- one field

-- a field that is there is a front of so many bytes
pub record Cuts (size : ℕ) (bytes : List ℕ) (x : List ℕ × List ℕ) : Type 0 where
  pub front : x.0 ≡ take size bytes
  pub back : x.1 ≡ drop size bytes
  pub long : size ≤ length bytes

abbrev pair : List ℕ → List ℕ → List ℕ × List ℕ
pair a b = (a, b)

abbrev good : {A : Type 0} → A → Result A JoinFault
good x = Ok x

same_good : {A : Type 0} (x y : A) → good x ≡ good y → x ≡ y
same_good x y e = cc

if_good : {A : Type 0} (t : Bool) (x y : A) (f : JoinFault) → (if t then good x else Err f) ≡ good y
    → (t ≡ true) × (x ≡ y)
if_good true x y f e = (refl, same_good x y e)
if_good false x y f e = absurd cc

unless_good : {A : Type 0} (t : Bool) (x y : A) (f : JoinFault) → (if t then Err f else good x) ≡ good y
    → (t ≡ false) × (x ≡ y)
unless_good false x y f e = (refl, same_good x y e)
unless_good true x y f e = absurd cc

field_cuts : (size at : ℕ) (bytes : List ℕ) (x : List ℕ × List ℕ) → field size at bytes ≡ Ok x → Cuts size bytes x
field_cuts size at bytes x e =
    let read = unless_good (nat_lt (length bytes) size) (pair (take size bytes) (drop size bytes)) x
    (frame_fault rule.Short at) e in
    record {
      front = sym (ap (λ (p : List ℕ × List ℕ). p.0) read.1);
      back = sym (ap (λ (p : List ℕ × List ℕ). p.1) read.1);
      long = ltb-false (length bytes) size read.0;
    }

whole_of : (size : ℕ) (bytes : List ℕ) (x : List ℕ × List ℕ) → Cuts size bytes x → bytes ≡ x.0 ++ x.1
whole_of size bytes x c = sym (take-append-drop size bytes) ∙ λ i. sym c.front i ++ sym c.back i

long_of : (size : ℕ) (bytes : List ℕ) (x : List ℕ × List ℕ) → Cuts size bytes x → length x.0 ≡ size
long_of size bytes x c = ap length c.front ∙ length-take-le size bytes c.long

front_bytes : (size : ℕ) (bytes : List ℕ) (x : List ℕ × List ℕ) → Cuts size bytes x → IsBytes bytes → IsBytes x.0
front_bytes size bytes x c fits = subst IsBytes (sym c.front) (IsBytes-take size bytes fits)

back_bytes : (size : ℕ) (bytes : List ℕ) (x : List ℕ × List ℕ) → Cuts size bytes x → IsBytes bytes → IsBytes x.1
back_bytes size bytes x c fits = subst IsBytes (sym c.back) (IsBytes-drop size bytes fits)

-- the field that stands in front of others
field_front : (size at : ℕ) (front back : List ℕ) → length front ≡ size
    → field size at (front ++ back) ≡ Ok (pair front back)
field_front size at front back long =
    let wide = length-append front back in
    let low : nat_lt (length (front ++ back)) size ≡ false = le-ltb (length (front ++ back)) size (omega arith) in
    rw low (λ i. Ok (pair (take_at front back size long i) (drop_at front back size long i)))

-- ---- reading

-- without a rectangle there is no first part
abbrev pub NoFirst : Option Rectangle → List ℕ → Type 0
NoFirst None first = first ≡ []
NoFirst (Some w) first = Unit {0}

-- the parts behind the flag
pub record Parts (bytes : List ℕ) (x : Frame) : Type 0 where
  pub whole : bytes ≡ parts_bytes x.rect x.first x.second
  pub none : NoFirst x.rect x.first

abbrev both : Rectangle → List ℕ → List ℕ → Frame
both w first second = record { rect = Some w; first = first; second = second }

abbrev alone : List ℕ → Frame
alone second = record { rect = None; first = []; second = second }

behind_rect : (o : Option Rectangle) (raw rest : List ℕ) (x : Frame) → length raw ≡ 16 → IsBytes raw → IsBytes rest
    → rectangle_of_bytes raw ≡ o → parts_behind o rest ≡ Ok x → Parts (1 ∷ (raw ++ rest)) x
behind_rect None raw rest x long fits others read e = absurd cc
behind_rect (Some w) raw rest x long fits others read e =
    let n = bind_ok (field 4 21 rest)
    (λ n. field (from_be_bytes w32 n.0) 25 n.1 >>= λ y. Ok (both w y.0 y.1)) x e in
    let size = field_cuts 4 21 rest n.0 n.1 in
    let y = bind_ok (field (from_be_bytes w32 n.0.0) 25 n.0.1) (λ y. good (both w y.0 y.1)) x n.2 in
    let parts = field_cuts (from_be_bytes w32 n.0.0) 25 n.0.1 y.0 y.1 in
    let same : both w y.0.0 y.0.1 ≡ x = same_good (both w y.0.0 y.0.1) x y.2 in
    let told : length y.0.0 ≡ from_be_bytes w32 n.0.0 = long_of (from_be_bytes w32 n.0.0) n.0.1 y.0 parts in
    let word : to_be_bytes w32 (length y.0.0) ≡ n.0.0 =
    be_bytes_4 n.0.0 (length y.0.0) (long_of 4 rest n.0 size) (front_bytes 4 rest n.0 size others) told in
    let spelled : raw ≡ rectangle_bytes w = subst (λ (o : Option Rectangle). IfSome o (λ q. raw
    ≡ rectangle_bytes q)) read
    (rectangle_written raw long fits) in
    let line : rest ≡ to_be_bytes w32 (length y.0.0) ++ (y.0.0 ++ y.0.1) = whole_of 4 rest n.0 size
    ∙ λ i. sym word i ++ whole_of (from_be_bytes w32 n.0.0) n.0.1 y.0 parts i in
    subst (Parts (1 ∷ (raw ++ rest))) same (record {
      whole = λ i. 1 ∷ (spelled i ++ line i);
      none = tt;
    })

behind_flag : (flag : ℕ) (rest : List ℕ) (x : Frame) → flag ≤ 1 → IsBytes rest → parts_at flag rest ≡ Ok x
    → Parts (flag ∷ rest) x
behind_flag flag rest x low fits e = by_test (flag == 0) refl
  where
    by_test : (t : Bool) → (flag == 0) ≡ t → Parts (flag ∷ rest) x
    by_test true z =
        let zero_flag : flag ≡ 0 = eqb-true flag 0 z in
        let own : good (alone rest) ≡ good x = rw z at e in
        let same : alone rest ≡ x = same_good (alone rest) x own in
        subst (Parts (flag ∷ rest)) same (record { whole = λ i. zero_flag i ∷ rest; none = refl })
    by_test false z =
        let ne : flag ≡ 0 → ⊥ = λ zero_flag. false≢true (sym z ∙ eq-eqb flag 0 zero_flag) in
        let one : flag ≡ 1 = omega arith in
        let read : both_parts rest ≡ Ok x = rw z at e in
        let raw = bind_ok (field 16 5 rest) (λ y. parts_behind (rectangle_of_bytes y.0) y.1) x read in
        let cut = field_cuts 16 5 rest raw.0 raw.1 in
        let parts = behind_rect (rectangle_of_bytes raw.0.0) raw.0.0 raw.0.1 x (long_of 16 rest raw.0 cut)
        (front_bytes 16 rest raw.0 cut fits) (back_bytes 16 rest raw.0 cut fits) refl raw.2 in
        record { whole = (λ i. one i ∷ whole_of 16 rest raw.0 cut i) ∙ parts.whole; none = parts.none }

one_cell : (xs ys : List ℕ) → length xs ≡ 1 → xs ++ ys ≡ slice_index xs 0 ∷ ys
one_cell [] ys long = absurd (omega arith)
one_cell (x ∷ []) ys long = refl
one_cell (x ∷ y ∷ xs) ys long = absurd (omega arith)

-- what the bytes of a frame are
pub record Reads (bytes : List ℕ) (x : Frame) : Type 0 where
  pub whole : bytes ≡ frame_bytes x
  pub none : NoFirst x.rect x.first

pub frame_reads : (bytes : List ℕ) (x : Frame) → IsBytes bytes → frame_of bytes ≡ Ok x → Reads bytes x
unfolding frame_of
frame_reads bytes x fits e =
    let rest = bind_ok (past_magic bytes) (λ rest. flag_at rest >>= λ y. parts_at y.0 y.1) x e in
    let m = bind_ok (field 4 0 bytes) (λ y. if bytes_eq y.0 magic then good y.1 else Err (frame_fault rule.BadMagic 0))
    rest.0 rest.1 in
    let front = field_cuts 4 0 bytes m.0 m.1 in
    let test = if_good (bytes_eq m.0.0 magic) m.0.1 rest.0 (frame_fault rule.BadMagic 0) m.2 in
    let is_magic : m.0.0 ≡ magic = same_bytes m.0.0 magic test.0 in
    let others : IsBytes rest.0 = subst IsBytes test.1 (back_bytes 4 bytes m.0 front fits) in
    let y = bind_ok (flag_at rest.0) (λ y. parts_at y.0 y.1) x rest.2 in
    let f = bind_ok (field 1 4 rest.0)
    (λ z. if nat_le (slice_index z.0 0) 1 then good (flag_pair (slice_index z.0 0) z.1)
    else Err (frame_fault rule.BadFlag 4)) y.0 y.1 in
    let cut = field_cuts 1 4 rest.0 f.0 f.1 in
    let flag = if_good (nat_le (slice_index f.0.0 0) 1) (flag_pair (slice_index f.0.0 0) f.0.1) y.0
    (frame_fault rule.BadFlag 4) f.2 in
    let low : slice_index f.0.0 0 ≤ 1 = leb-true (slice_index f.0.0 0) 1 flag.0 in
    let read : parts_at (slice_index f.0.0 0) f.0.1 ≡ Ok x =
    ap (λ (z : ℕ × List ℕ). parts_at z.0 z.1) flag.1 ∙ y.2 in
    let parts = behind_flag (slice_index f.0.0 0) f.0.1 x low (back_bytes 1 rest.0 f.0 cut others) read in
    let tail : rest.0 ≡ slice_index f.0.0 0 ∷ f.0.1 =
    whole_of 1 rest.0 f.0 cut ∙ one_cell f.0.0 f.0.1 (long_of 1 rest.0 f.0 cut) in
    record {
      whole = whole_of 4 bytes m.0 front ∙ (λ i. is_magic i ++ (test.1 ∙ tail ∙ parts.whole) i);
      none = parts.none;
    }
  where
    flag_pair : ℕ → List ℕ → ℕ × List ℕ
    flag_pair n rest = (n, rest)

-- ---- writing

abbrev flag_step : List ℕ × List ℕ → Result (ℕ × List ℕ) JoinFault
flag_step x = if nat_le (slice_index x.0 0) 1 then Ok (slice_index x.0 0, x.1) else Err (frame_fault rule.BadFlag 4)

abbrev after_magic : List ℕ → Result Frame JoinFault
after_magic rest = flag_at rest >>= λ y. parts_at y.0 y.1

both_again : (w : Rectangle) (first second : List ℕ) → IsOrdered w → FitsMap w → length first < 2 ^ 32
    → both_parts (rectangle_bytes w ++ (to_be_bytes w32 (length first) ++ (first ++ second)))
    ≡ Ok (both w first second)
both_again w first second ordered fits low =
    let size = to_be_bytes w32 (length first) in
    ap (λ (r : Result (List ℕ × List ℕ) JoinFault). r >>= λ y. parts_behind (rectangle_of_bytes y.0) y.1)
    (field_front 16 5 (rectangle_bytes w) (size ++ (first ++ second)) (length-rectangle_bytes w))
    ∙ ap (λ (o : Option Rectangle). parts_behind o (size ++ (first ++ second)))
    (rectangle_read (rectangle_bytes w) w ordered fits refl)
    ∙ ap (λ (r : Result (List ℕ × List ℕ) JoinFault). r >>= λ n. field (from_be_bytes w32 n.0) 25 n.1
    >>= λ y. Ok (both w y.0 y.1)) (field_front 4 21 size (first ++ second) refl)
    ∙ ap (λ (n : ℕ). field n 25 (first ++ second) >>= λ y. good (both w y.0 y.1))
    (from_be_bytes-to_be_bytes_4 (length first) low)
    ∙ ap (λ (r : Result (List ℕ × List ℕ) JoinFault). r >>= λ y. good (both w y.0 y.1))
    (field_front (length first) 25 first second refl)

parts_again : (o : Option Rectangle) (first second : List ℕ) → FitsParts o first
    → after_magic (parts_bytes o first second) ≡ Ok (record { rect = o; first = first; second = second })
parts_again None first second none =
    ap (λ (r : Result (List ℕ × List ℕ) JoinFault). (r >>= flag_step) >>= λ y. parts_at y.0 y.1)
    (field_front 1 4 (0 ∷ []) second refl)
    ∙ λ i. Ok (record { rect = None; first = sym none i; second = second })
parts_again (Some w) first second fits =
    ap (λ (r : Result (List ℕ × List ℕ) JoinFault). (r >>= flag_step) >>= λ y. parts_at y.0 y.1)
    (field_front 1 4 (1 ∷ []) (rectangle_bytes w ++ (to_be_bytes w32 (length first) ++ (first ++ second))) refl)
    ∙ both_again w first second fits.0 fits.1 fits.2

pub frame_again : (x : Frame) → FitsFrame x → frame_of (frame_bytes x) ≡ Ok x
unfolding frame_of
frame_again x fits =
    ap (λ (r : Result (List ℕ × List ℕ) JoinFault). (r >>= λ y. if bytes_eq y.0 magic then Ok y.1
    else Err (frame_fault rule.BadMagic 0)) >>= after_magic)
    (field_front 4 0 magic (parts_bytes x.rect x.first x.second) refl)
    ∙ parts_again x.rect x.first x.second fits
