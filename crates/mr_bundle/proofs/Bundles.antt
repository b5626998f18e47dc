-- A bundle is read as its proofs, and what is read unbroken is the bundle of what its parts hold.
use Rattle.std.proofs.Common.{◌≡◌, ℕ, zero, suc, ◌+◌, ◌-◌, ◌^◌, ◌<◌, ◌≤◌, Bool, true, false, List, [], ◌∷◌, ◌++◌, length, take, drop, refl, sym, ap, subst, ◌∙◌, inl, inr, arith, append_assoc, length-append}
use Rattle.std.specs.Prelude.{All, IfOk, Option, Some, None, Result, Ok, Err, nat_le, ◌&&◌, if◌then◌else◌, slice_range}
use Rattle.std.specs.Int.{w32, from_be_bytes, to_be_bytes}
use Rattle.std.proofs.lemmas.Bool.{and_parts, cases_lt, le-leb, leb-true}
use Rattle.std.proofs.lemmas.List.{take_at, drop_at, drop_all, drop-drop, length-drop, length-map, length-take-le, take-append-drop}
use Rattle.std.proofs.lemmas.List.Elements.{All-cons, All-head, All-nil, All-tail}
use Rattle.std.proofs.lemmas.List.Folds.{drop_split}
use Rattle.std.proofs.lemmas.Nat.{be_bytes_4, from_be_bytes-to_be_bytes_4}
use Rattle.mr_record.proofs.Encodings.{IsBytes, IsBytes-drop, IsBytes-take, quarter_below}
use Rattle.mr_tree.specs.Digest.{Scheme}
use Rattle.mr_tree.specs.declared.tree.Tree.{Tree}
use Rattle.mr_query.specs.declared.query.Query.{Query}
use Rattle.mr_proof.specs.Honest.{proof}
use Rattle.mr_bundle.specs.Bundle.{AreRead, Cutting, IsBundleOf, IsFrontOf, IsShort, bundle_of, bytes_of, end_at, go_on, bytes_of_parts, part_at, part_bytes, parts, parts_from, size_at, stopped_at}
use Rattle.mr_bundle.specs.Proofs.{bundle, proofs}
use Rattle.mr_bundle.specs.declared.reading.Part.{Part}
use Rattle.mr_bundle.specs.declared.reading.Parts.{Parts}
use Rattle.mr_bundle.proofs.Cutting.{none_left, some_left}

-- ---- what is written is read

-- this proof stands at the place, and the rest behind it
record StandsAt (bytes : List ℕ) (at : ℕ) (proof rest : List ℕ) : Type 0 where
  found : part_at bytes at ≡ Some (record { start = at + 4; end = at + 4 + length proof })
  text : slice_range bytes (at + 4) (at + 4 + length proof) ≡ proof
  place : at + 4 + length proof ≤ length bytes
  behind : drop (at + 4 + length proof) bytes ≡ rest

-- the part at a place, by the length that is said there
abbrev by_width : (size at width : ℕ) → Option Part
by_width size at width =
    if nat_le (at + 4) size && nat_le (at + 4 + width) size
    then Some (record { start = at + 4; end = at + 4 + width }) else None

stands : (bytes : List ℕ) (at : ℕ) (proof rest : List ℕ) → at ≤ length bytes → IsShort proof
    → drop at bytes ≡ part_bytes proof ++ rest → StandsAt bytes at proof rest
unfolding part_at
stands bytes at proof rest low short e =
    let n : ℕ = length proof in
    let N : List ℕ = to_be_bytes w32 n in
    let all : drop at bytes ≡ N ++ (proof ++ rest) = e ∙ append_assoc N proof rest in
    let size : size_at bytes at ≡ n =
    ap (λ d. from_be_bytes w32 (take 4 d)) all ∙ from_be_bytes-to_be_bytes_4 n short in
    let tail : drop (at + 4) bytes ≡ proof ++ rest = sym (drop-drop 4 at bytes) ∙ ap (drop 4) all in
    let long : length (drop at bytes) ≡ suc (suc (suc (suc (length (proof ++ rest))))) = ap length all in
    let place : at + 4 + n ≤ length bytes = omega (arith, length-drop at bytes, long, length-append proof rest) in
    let width : (at + 4 + n) - (at + 4) ≡ n = omega arith in
    let start : at + 4 ≤ length bytes = omega (arith, place) in
    let fits : by_width (length bytes) at n ≡ Some (record { start = at + 4; end = at + 4 + n }) =
    rw (le-leb (at + 4) (length bytes) start) (rw (le-leb (at + 4 + n) (length bytes) place) refl) in
    record {
      found = ap (by_width (length bytes) at) size ∙ fits;
      text = ap (λ m. take m (drop (at + 4) bytes)) width ∙ ap (take n) tail ∙ take_at proof rest n refl;
      place = place;
      behind = sym (drop-drop n (at + 4) bytes) ∙ ap (drop n) tail ∙ drop_at proof rest n refl;
    }

reads : (bytes : List ℕ) (proofs : List (List ℕ)) (at : ℕ) → at ≤ length bytes → All IsShort proofs
    → drop at bytes ≡ bundle_of proofs
    → AreRead bytes (parts_from bytes (length proofs) at).list (parts_from bytes (length proofs) at).broken proofs
unfolding parts_from bundle_of
reads bytes [] at low short e =
    let none : length (drop at bytes) ≡ 0 = ap length e in
    record { whole = none_left at (length bytes) (omega (arith, length-drop at bytes, none)); held = refl }
reads bytes (proof ∷ proofs) at low short e =
    let one = stands bytes at proof (bundle_of proofs) low (All-head IsShort proof proofs short) e in
    let rest = reads bytes proofs (at + 4 + length proof) one.place (All-tail IsShort proof proofs short) one.behind in
    let others = parts_from bytes (length proofs) in
    subst (λ o. AreRead bytes (go_on at o others).list (go_on at o others).broken (proof ∷ proofs)) (sym one.found)
    (record { whole = rest.whole; held = λ i. one.text i ∷ rest.held i })

-- ---- what is read is written

-- what is left from a place on is the bundle of these proofs, one for each of so many queries
record Leaves (bytes : List ℕ) (queries at : ℕ) (proofs : List (List ℕ)) : Type 0 where
  count : length proofs ≡ queries
  short : All IsShort proofs
  spelled : drop at bytes ≡ bundle_of proofs

-- the part is that at the place
record IsPartAt (bytes : List ℕ) (at : ℕ) (part : Part) : Type 0 where
  place : part.end ≤ length bytes
  short : IsShort (bytes_of bytes part)
  spelled : drop at bytes ≡ part_bytes (bytes_of bytes part) ++ drop part.end bytes

chosen : (b : Bool) (x y : Part) → ◌≡◌ {A = Option Part} (if b then Some x else None) (Some y) → (b ≡ true) × (x ≡ y)
chosen true x y e = let same : x ≡ y = cc in (refl, same)
chosen false x y e = absurd cc

part_here : (bytes : List ℕ) (at : ℕ) → IsBytes bytes → at + 4 ≤ length bytes → end_at bytes at ≤ length bytes
    → IsPartAt bytes at (record { start = at + 4; end = end_at bytes at })
part_here bytes at fits start place =
    let m : ℕ = size_at bytes at in
    let head : List ℕ = take 4 (drop at bytes) in
    let proof : List ℕ = slice_range bytes (at + 4) (at + 4 + m) in
    let four : length head ≡ 4 = length-take-le 4 (drop at bytes) (omega (arith, length-drop at bytes, start)) in
    let small : IsBytes head = IsBytes-take 4 (drop at bytes) (IsBytes-drop at bytes fits) in
    let low : m < 2 ^ 32 = quarter_below head small in
    let width : (at + 4 + m) - (at + 4) ≡ m = omega arith in
    let room : (at + 4 + m) - (at + 4) ≤ length (drop (at + 4) bytes) =
    omega (arith, length-drop (at + 4) bytes, place, width) in
    let long : length proof ≡ m = length-take-le ((at + 4 + m) - (at + 4)) (drop (at + 4) bytes) room ∙ width in
    let first : head ≡ to_be_bytes w32 (length proof) =
    sym (be_bytes_4 head m four small refl) ∙ ap (to_be_bytes w32) (sym long) in
    let tail : drop 4 (drop at bytes) ≡ proof ++ drop (at + 4 + m) bytes =
    drop-drop 4 at bytes ∙ drop_split bytes (at + 4) (at + 4 + m) (omega arith) in
    record {
      place = place;
      short = omega (arith, long, low);
      spelled = sym (take-append-drop 4 (drop at bytes)) ∙ (λ i. first i ++ tail i)
          ∙ sym (append_assoc (to_be_bytes w32 (length proof)) proof (drop (at + 4 + m) bytes));
    }

part_is : (bytes : List ℕ) (at : ℕ) (part : Part) → IsBytes bytes → part_at bytes at ≡ Some part
    → IsPartAt bytes at part
unfolding part_at
part_is bytes at part fits found =
    let one = chosen _ _ part found in
    let both = and_parts _ _ one.0 in
    subst (IsPartAt bytes at) one.1
    (part_here bytes at fits (leb-true (at + 4) (length bytes) both.0)
    (leb-true (end_at bytes at) (length bytes) both.1))

step : (bytes : List ℕ) (queries at : ℕ) → IsBytes bytes → (o : Option Part) → part_at bytes at ≡ o
    → (go_on at o (parts_from bytes queries)).broken ≡ None
    → ((next : ℕ) → next ≤ length bytes → (parts_from bytes queries next).broken ≡ None
    → Leaves bytes queries next (bytes_of_parts bytes (parts_from bytes queries next).list))
    → Leaves bytes (suc queries) at (bytes_of_parts bytes (go_on at o (parts_from bytes queries)).list)
unfolding bundle_of
step bytes queries at fits None found whole rest = absurd cc
step bytes queries at fits (Some part) found whole rest =
    let one = part_is bytes at part fits found in
    let others = rest part.end one.place whole in
    record {
      count = ap suc others.count;
      short = All-cons IsShort (bytes_of bytes part) (bytes_of_parts bytes (parts_from bytes queries part.end).list)
          one.short others.short;
      spelled = one.spelled ∙ ap (λ r. part_bytes (bytes_of bytes part) ++ r) others.spelled;
    }

leaves : (bytes : List ℕ) (queries at : ℕ) → IsBytes bytes → at ≤ length bytes
    → (parts_from bytes queries at).broken ≡ None
    → Leaves bytes queries at (bytes_of_parts bytes (parts_from bytes queries at).list)
unfolding parts_from bundle_of
leaves bytes zero at fits low whole = record {
  count = refl;
  short = All-nil IsShort;
  spelled = elim (cases_lt at (length bytes)) [
    | inl some ↦ let odd : Some at ≡ None = sym (some_left at (length bytes) some) ∙ whole in absurd cc
    | inr past ↦ drop_all at bytes past
  ];
}
leaves bytes (suc queries) at fits low whole =
    step bytes queries at fits (part_at bytes at) refl whole
    (λ next low whole. leaves bytes queries next fits low whole)

-- ---- up to where reading stopped

-- what is left from a place on begins with the bundle of these parts, up to where reading stopped
record Runs (bytes : List ℕ) (at : ℕ) (x : Cutting) : Type 0 where
  within : stopped_at bytes x.broken ≤ length bytes
  short : All IsShort (bytes_of_parts bytes x.list)
  spelled : drop at bytes ≡ bundle_of (bytes_of_parts bytes x.list) ++ drop (stopped_at bytes x.broken) bytes

-- no part more
runs_out : (bytes : List ℕ) (at : ℕ) (broken : Option ℕ) → stopped_at bytes broken ≤ length bytes
    → drop at bytes ≡ drop (stopped_at bytes broken) bytes → Runs bytes at (record { list = []; broken = broken })
unfolding bundle_of
runs_out bytes at broken within same = record { within = within; short = All-nil IsShort; spelled = same }

runs_step : (bytes : List ℕ) (queries at : ℕ) → IsBytes bytes → at ≤ length bytes → (o : Option Part)
    → part_at bytes at ≡ o
    → ((next : ℕ) → next ≤ length bytes → Runs bytes next (parts_from bytes queries next))
    → Runs bytes at (go_on at o (parts_from bytes queries))
unfolding bundle_of
runs_step bytes queries at fits low None found rest = runs_out bytes at (Some at) low refl
runs_step bytes queries at fits low (Some part) found rest =
    let one = part_is bytes at part fits found in
    let others = rest part.end one.place in
    let held = bytes_of_parts bytes (parts_from bytes queries part.end).list in
    let end = stopped_at bytes (parts_from bytes queries part.end).broken in
    record {
      within = others.within;
      short = All-cons IsShort (bytes_of bytes part) held one.short others.short;
      spelled = one.spelled ∙ ap (λ r. part_bytes (bytes_of bytes part) ++ r) others.spelled
          ∙ sym (append_assoc (part_bytes (bytes_of bytes part)) (bundle_of held) (drop end bytes));
    }

runs : (bytes : List ℕ) (queries at : ℕ) → IsBytes bytes → at ≤ length bytes
    → Runs bytes at (parts_from bytes queries at)
unfolding parts_from
runs bytes zero at fits low = elim (cases_lt at (length bytes)) [
  | inl some ↦ subst (λ o. Runs bytes at (record { list = []; broken = o })) (sym (some_left at (length bytes) some))
      (runs_out bytes at (Some at) low refl)
  | inr past ↦ subst (λ o. Runs bytes at (record { list = []; broken = o })) (sym (none_left at (length bytes) past))
      (runs_out bytes at None (omega arith)
      (drop_all at bytes past ∙ sym (drop_all (length bytes) bytes (omega arith))))
]
runs bytes (suc queries) at fits low =
    runs_step bytes queries at fits low (part_at bytes at) refl (λ next low. runs bytes queries next fits low)

front_is : (bytes : List ℕ) (x : Cutting) → Runs bytes 0 x → IsFrontOf bytes x.list x.broken
front_is bytes x is =
    let end = stopped_at bytes x.broken in
    let held = bundle_of (bytes_of_parts bytes x.list) in
    let all : bytes ≡ held ++ drop end bytes = is.spelled in
    let size : length bytes ≡ length (held ++ drop end bytes) = ap length all in
    let low : end ≤ length bytes = is.within in
    let long : length held ≡ end = omega (arith, size, length-append held (drop end bytes), length-drop end bytes, low)
    in
    record {
      short = is.short;
      front = ap (take end) all ∙ take_at held (drop end bytes) end long;
      place = sym long;
    }

-- ---- the answer

pub answer_front : {E : Type 0} (bytes : List ℕ) (queries : ℕ) (answer : Result Parts E) → IsBytes bytes
    → IfOk answer (λ p. p.list ≡ (parts bytes queries).list)
    → IfOk answer (λ p. p.broken ≡ (parts bytes queries).broken)
    → IfOk answer (λ p. IsFrontOf bytes p.list p.broken)
answer_front bytes queries (Ok p) fits list broken =
    let all = front_is bytes (parts bytes queries) (runs bytes queries 0 fits (omega arith)) in
    subst (λ (l : List Part). IsFrontOf bytes l p.broken) (sym list)
    (subst (λ (o : Option ℕ). IsFrontOf bytes (parts bytes queries).list o) (sym broken) all)
answer_front bytes queries (Err e) fits list broken = tt

pub answer_written : {E : Type 0} (bytes : List ℕ) (queries : ℕ) (answer : Result Parts E) → IsBytes bytes
    → IfOk answer (λ p. p.list ≡ (parts bytes queries).list)
    → IfOk answer (λ p. p.broken ≡ (parts bytes queries).broken)
    → IfOk answer (λ p. p.broken ≡ None → IsBundleOf bytes queries (bytes_of_parts bytes p.list))
answer_written bytes queries (Ok p) fits list broken = λ whole.
    let all = leaves bytes queries 0 fits (omega arith) (sym broken ∙ whole) in
    subst (λ l. IsBundleOf bytes queries (bytes_of_parts bytes l)) (sym list)
    (record { count = all.count; short = all.short; spelled = all.spelled })
answer_written bytes queries (Err e) fits list broken = tt

read_again : (bytes : List ℕ) (queries : ℕ) (proofs : List (List ℕ)) → IsBundleOf bytes queries proofs
    → AreRead bytes (parts bytes queries).list (parts bytes queries).broken proofs
read_again bytes queries proofs is =
    subst (λ n. AreRead bytes (parts bytes n).list (parts bytes n).broken proofs) is.count
    (reads bytes proofs 0 (omega arith) is.short is.spelled)

pub answer_read : {E : Type 0} (bytes : List ℕ) (queries : ℕ) (answer : Result Parts E)
    → IfOk answer (λ p. p.list ≡ (parts bytes queries).list)
    → IfOk answer (λ p. p.broken ≡ (parts bytes queries).broken)
    → (proofs : List (List ℕ)) → IsBundleOf bytes queries proofs
    → IfOk answer (λ p. AreRead bytes p.list p.broken proofs)
answer_read bytes queries (Ok p) list broken proofs is =
    let all = read_again bytes queries proofs is in
    record { whole = broken ∙ all.whole; held = ap (bytes_of_parts bytes) list ∙ all.held }
answer_read bytes queries (Err e) list broken proofs is = tt

-- the bundle of the honest proofs for some queries is read as these proofs
pub served_again : (s : Scheme) (t : Tree) (batch : ℕ) (queries : List Query) → All IsShort (proofs s t batch queries)
    → AreRead (bundle s t batch queries) (parts (bundle s t batch queries) (length queries)).list
    (parts (bundle s t batch queries) (length queries)).broken (proofs s t batch queries)
unfolding bundle
served_again s t batch queries short =
    read_again (bundle s t batch queries) (length queries) (proofs s t batch queries)
    (record { count = length-map queries (proof s t batch); short = short; spelled = refl })
