-- What is read without a fault is spelled so, byte by byte; and where notes are heeded, its cut is
-- tight.
use Rattle.std.proofs.Common.{◌≡◌, ◌⊎◌, ℕ, zero, suc, ◌+◌, ◌-◌, ◌<◌, ◌≤◌, ◌^◌, Bool, true, false, cond, eqb, List, [], ◌∷◌, ◌++◌, length, Result, Ok, Err, Option, Some, None, refl, sym, ap, subst, ◌∙◌, inl, inr, arith, append_assoc}
use Rattle.std.specs.Prelude.{if◌then◌else◌, ◌==◌, not, nat_lt, bytes_eq, ⊤, IfSome}
use Rattle.std.specs.List.{flat_map, AllByRecursion}
use Rattle.std.specs.Int.{w64, w128, to_be_bytes}
use Rattle.std.proofs.lemmas.Bool.{cases_Bool, false≢true, eqb-true, eqb-false, ltb-false}
use Rattle.std.proofs.lemmas.List.{nil_from_length, append-nil}
use Rattle.std.proofs.lemmas.List.Concat.{flat_map-cons}
use Rattle.std.proofs.lemmas.List.Elements.{All-from_recursion}
use Rattle.mr_geom.specs.Rectangle.{Rectangle, IsOrdered, FitsMap}
use Rattle.mr_outside.specs.Bytes.{AreBytes}
use Rattle.mr_record.specs.Record.{IsRecord, HasLayer, record_bytes, rectangle_bytes, layer_bytes}
use Rattle.mr_record.specs.Version.{version_byte, highest_layer, told}
use Rattle.mr_record.specs.declared.version.Version.{Version}
use Rattle.mr_record.specs.declared.version.Version.TheVariants.{One, Two}
use Rattle.mr_tree.specs.Digest.{word_bytes}
use Rattle.mr_tree.proofs.Told.{any_layer}
use Rattle.mr_record.specs.declared.record.Record.{Record}
use Rattle.mr_query.specs.Word.{IsQuery}
use Rattle.mr_query.specs.Scan.{scan}
use Rattle.mr_query.specs.declared.query.Query.{Query}
use Rattle.mr_query.specs.declared.key.Key.{Key}
use Rattle.std.proofs.Math.Dec.{eqb-suc-zero}
use Rattle.mr_proof.specs.declared.head.Kind.{Kind}
use Rattle.mr_proof.specs.declared.head.Kind.TheVariants as kind
use Rattle.mr_proof.specs.declared.head.Head.{Head}
use Rattle.mr_proof.specs.declared.rule.Rule.{Rule}
use Rattle.mr_proof.specs.declared.rule.Rule.TheVariants as rule
use Rattle.mr_proof.specs.declared.rule.Fault.{Fault}
use Rattle.mr_proof.specs.declared.want.Want.TheVariants as want
use Rattle.mr_proof.specs.Limits.{count_limit, radius_limit, level_limit, leaf_limit, inner_limit, place_limit}
use Rattle.mr_proof.specs.Fields.{magic, kind_byte, pruned_tag, leaf_tag, inner_tag, opened_tag}
use Rattle.mr_proof.specs.Cut.{Cut, Cuts, Pruned, Leaf, Inner, no_more, first, number_of_cuts}
use Rattle.mr_proof.specs.Spelling.{cut_bytes, cuts_bytes, FitsShown, FitsLeaf, FitsInner, FitsCut, FitCuts, radius_bytes, level_bytes, head_bytes, FitsRadius, FitsProofHead, Parsed, said, opened_records, part_bytes, FitsPart, IsSpelled}
use Rattle.mr_proof.specs.declared.way.Way.{Way}
use Rattle.mr_proof.specs.Tight.{key_at, key_of, opens_seen, opens_at, keeps_record, Question, question, needs_two, IsLawful, IsTightCut, AreTightCuts}
use Rattle.mr_proof.specs.Accepted.{root_found, ShowsCut, ProvesAnswer}
use Rattle.mr_proof.specs.Grammar.{must, opens, Grammar, done, reads, notes, number_in, version_in, wide_in, tag_in, rect_in, bytes_in, payload, layer, one_record, some_records, opened, leaf, some_items, inner, unopened, layers_and_count, pruned, item, radius, level, head, part, whole}
use Rattle.mr_proof.specs.Layout.{fault, Cursor, start}
use Rattle.mr_proof.specs.Refused.{has_other_radius, has_other_count}
use Rattle.mr_proof.specs.Reading.{past, walk, ending, checked, verdict}
use Rattle.mr_record.proofs.Encodings.{IsBytes, AreBytes-from}
use Rattle.mr_proof.proofs.Laws.{fits_version, may_come, count_right, right_radius, is_lawful}
use Rattle.mr_proof.proofs.Values.{record_of, part_of, head_of, same_bytes, same_value, tail}
use Rattle.mr_proof.proofs.FieldsTaken.{Took, took_none, took_both, took_as, Taken, behind_step, take_reads, length_meant, layer_meant, mask_meant, tally_meant, level_meant, flag_meant, leaf_count_meant, inner_count_meant, number_meant, batch_meant, count_meant, radius_meant, rect_meant, payload_meant, digest_meant, tag_meant, magic_meant, version_taken, kind_meant}

-- ---- records

take_payload : {A B : Type 0} (heeds : Bool) (e : A → Cursor → Result B Fault) (n : ℕ) (next : List ℕ → Grammar A)
    (s : Cursor) (a : B) → IsBytes s.rest → s.at ≤ place_limit → walk heeds e (payload n next) s ≡ Ok a
    → Taken heeds e (λ p. p) (λ p. (length p ≡ n) × AreBytes p) next s a
take_payload heeds e n next s a fits within is = elim (cases_Bool (eqb n 0)) [
  | inl t ↦
      let none : 0 ≡ n = sym (eqb-true n 0 t) in
      record {
        value = [];
        end = s;
        good = (none, AreBytes-from [] (λ i. omega arith));
        took = took_none s fits
            within;
        rest = rw t at is;
      }
  | inr f ↦ take_reads heeds e (want.Payload n) bytes_in (λ p. p) (λ p. (length p ≡ n) × AreBytes p)
      (payload_meant n) next s a fits (rw f at is)
]

-- the layer of a record, where the version tells it
take_layer : {A B : Type 0} (v : Version) (heeds : Bool) (e : A → Cursor → Result B Fault) (next : ℕ → Grammar A)
    (s : Cursor) (a : B) → IsBytes s.rest → s.at ≤ place_limit → walk heeds e (layer v next) s ≡ Ok a
    → Taken heeds e (layer_bytes v) (λ i. i ≤ highest_layer v) next s a
take_layer One heeds e next s a fits within is = record
    { value = 0; end = s; good = omega arith; took = took_none s fits within; rest = is }
take_layer Two heeds e next s a fits within is =
    take_reads heeds e want.Layer number_in (λ i. i ∷ []) (λ i. i ≤ highest_layer Two) layer_meant next s a fits is

-- a length of one byte, and as many bytes
counted_took : (n : ℕ) (x : List ℕ) (s t u : Cursor) → length x ≡ n → Took (n ∷ []) s t → Took x t u
    → Took (length x ∷ x) s u
counted_took n x s t u long p q =
    took_both (length x ∷ []) x s t u
    (took_as (n ∷ []) (length x ∷ []) s t (ap (λ (k : ℕ). k ∷ []) (sym long)) p) q

-- a record of a version
abbrev IsOf : Version → Record → Type 0
IsOf v r = IsRecord r × HasLayer v r

take_record : {A B : Type 0} (v : Version) (heeds : Bool) (e : A → Cursor → Result B Fault) (next : Record → Grammar A)
    (s : Cursor) (a : B) → IsBytes s.rest → walk heeds e (one_record v next) s ≡ Ok a
    → Taken heeds e (record_bytes v) (IsOf v) next s a
unfolding record_bytes
take_record v heeds e next s a fits is =
    let n = take_reads heeds e want.Number number_in (to_be_bytes w64) (λ n. n < 2 ^ 64) number_meant
    (λ n. reads want.Rect (λ r. layer v (λ i. reads want.Length
    (λ l. payload (number_in l) (λ p. next (record_of n (rect_in r) i p)))))) s a fits is in
    let r = take_reads heeds e want.Rect rect_in rectangle_bytes (λ r. IsOrdered r × FitsMap r) rect_meant
    (λ r. layer v (λ i. reads want.Length (λ l. payload (number_in l)
    (λ p. next (record_of n.value r i p))))) n.end a n.took.fits n.rest in
    let i = take_layer v heeds e
    (λ i. reads want.Length (λ l. payload (number_in l) (λ p. next (record_of n.value r.value i p)))) r.end a
    r.took.fits r.took.within r.rest in
    let l = take_reads heeds e want.Length number_in (λ l. l ∷ []) (λ l. l ≤ 200) length_meant
    (λ l. payload l (λ p. next (record_of n.value r.value i.value p))) i.end a i.took.fits i.rest in
    let p = take_payload heeds e l.value (λ p. next (record_of n.value r.value i.value p)) l.end a l.took.fits
    l.took.within l.rest in
    let front = to_be_bytes w64 n.value ++ rectangle_bytes r.value in
    let stratum = layer_bytes v i.value in
    let few : length p.value ≤ 200 = let long = p.good.0 in let le = l.good in omega arith in
    let tail = counted_took l.value p.value i.end l.end p.end p.good.0 l.took p.took in
    let one = record_of n.value r.value i.value p.value in
    record {
      value = one;
      end = p.end;
      good = (
        record {
          number = n.good;
          ordered = r.good.0;
          coordinates = r.good.1;
          layer = any_layer v one i.good;
          payload = few;
          bytes = p.good.1;
        },
        i.good,
      );
      took = took_both (front ++ stratum) (length p.value ∷ p.value) s i.end p.end
          (took_both front stratum s r.end i.end
          (took_both (to_be_bytes w64 n.value) (rectangle_bytes r.value) s n.end r.end n.took r.took) i.took) tail;
      rest = p.rest;
    }

-- as many records of a version
abbrev AreOf : Version → ℕ → List Record → Type 0
AreOf v n rs = (length rs ≡ n) × AllByRecursion IsRecord rs × AllByRecursion (HasLayer v) rs

take_records : {A B : Type 0} (v : Version) (heeds : Bool) (e : A → Cursor → Result B Fault) (way : Key → Way) (n : ℕ)
    (next : List Record → Grammar A)
    (s : Cursor) (a : B) → IsBytes s.rest → s.at ≤ place_limit → walk heeds e (some_records v way n next) s ≡ Ok a
    → Taken heeds e (flat_map (record_bytes v)) (AreOf v n) next s a
take_records v heeds e way zero next s a fits within is = record
    { value = []; end = s; good = (refl, tt, tt); took = took_none s fits within; rest = is }
take_records v heeds e way (suc n) next s a fits within is =
    let text = record_bytes v in
    let r = take_record v heeds e (λ r. notes (opens r (keeps_record way r))
    (some_records v way n (λ rs. next (r ∷ rs)))) s a fits is in
    let rs = take_records v heeds e way n (λ rs. next (r.value ∷ rs)) r.end a r.took.fits r.took.within r.rest in
    record {
      value = r.value ∷ rs.value;
      end = rs.end;
      good = (ap suc rs.good.0, (r.good.0, rs.good.1), (r.good.1, rs.good.2));
      took = took_as (text r.value ++ flat_map text rs.value) (flat_map text (r.value ∷ rs.value)) s rs.end
          (sym (flat_map-cons text r.value rs.value))
          (took_both (text r.value) (flat_map text rs.value) s r.end rs.end r.took rs.took);
      rest = rs.rest;
    }

-- ---- items

-- a cut of this level that is spelled, and, where notes are heeded, is tight for the ways
abbrev pub IsGood : Version → Bool → (Key → Way) → ℕ → Cut → Type 0
IsGood v heeds way l P = FitsCut v l P × (heeds ≡ true → IsTightCut v way P)

abbrev pub AreGood : Version → Bool → (Key → Way) → ℕ → ℕ → Cuts → Type 0
AreGood v heeds way l n Ps = (number_of_cuts Ps ≡ n) × FitCuts v l Ps × (heeds ≡ true → AreTightCuts v way Ps)

-- a note was passed
note_passed : {B : Type 0} (heeds : Bool) (broken : Rule) (b : Bool) (at : ℕ) (r : Result B Fault) (a : B)
    → past heeds (must broken b) at r ≡ Ok a
    → (heeds ≡ true → b ≡ true) × (r ≡ Ok a)
note_passed true broken true at r a is = (λ _. refl, is)
note_passed true broken false at r a is = absurd cc
note_passed false broken b at r a is = (λ f. absurd (false≢true f), is)

not_true : (b : Bool) → not b ≡ true → b ≡ false
not_true true e = absurd (false≢true e)
not_true false e = refl

take_leaf : {A B : Type 0} (v : Version) (heeds : Bool) (e : A → Cursor → Result B Fault) (way : Key → Way)
    (next : Cut → Grammar A) (s : Cursor) (a : B) → IsBytes s.rest → s.at ≤ place_limit
    → walk heeds e (leaf v way next) s ≡ Ok a
    → (P : Cut) × (t : Cursor) × IsGood v heeds way 0 P × (cut_bytes v P ≡ leaf_tag ∷ tail v P) × Took (tail v P) s t
    × (walk heeds e (next P) t ≡ Ok a)
take_leaf v heeds e way next s a fits within is =
    let n = take_reads heeds e want.LeafCount number_in (λ n. n ∷ []) (λ n. (1 ≤ n) × (n ≤ leaf_limit)) leaf_count_meant
    (λ n. some_records v way n (λ rs. opened v way (Leaf rs) next)) s a fits is in
    let rs = take_records v heeds e way n.value (λ rs. opened v way (Leaf rs) next) n.end a n.took.fits n.took.within
    n.rest
    in
    let met = note_passed heeds rule.Needless (opens_seen way (key_of v (Leaf rs.value))) rs.end.last
    (walk heeds e (next (Leaf rs.value)) rs.end) a rs.rest in
    let long = rs.good.0 in
    let low = n.good.0 in
    let high = n.good.1 in
    let fine : FitsLeaf v 0 rs.value = record {
      at_leaf = refl;
      some = omega arith;
      few = omega
          arith;
      each = All-from_recursion IsRecord rs.value rs.good.1;
      layers = All-from_recursion (HasLayer v) rs.value rs.good.2;
    } in (
      Leaf rs.value,
      rs.end,
      (fine, met.0),
      refl,
      took_both (length rs.value ∷ []) (flat_map (record_bytes v) rs.value) s n.end rs.end
          (took_as (n.value ∷ []) (length rs.value ∷ []) s n.end (ap (λ (k : ℕ). k ∷ []) (sym rs.good.0)) n.took)
          rs.took,
      met.1,
    )

-- the mask and the count of a part that was to be pruned, where the version tells them
record TakenWords {A B : Type 0} (v : Version) (heeds : Bool) (e : A → Cursor → Result B Fault) (way : Key → Way)
    (x : Rectangle) (next : ℕ → ℕ → Grammar A) (s : Cursor) (a : B) : Type 0 where
  mask : ℕ
  count : ℕ
  end : Cursor
  fits : mask < 2 ^ told v 64
  some : told v 1 ≤ count
  few : count ≤ told v count_limit
  missed : heeds ≡ true → opens_at way (key_at v mask x) ≡ false
  took : Took (word_bytes v mask ++ word_bytes v count) s end
  rest : walk heeds e (next mask count) end ≡ Ok a

take_words : {A B : Type 0} (v : Version) (heeds : Bool) (e : A → Cursor → Result B Fault) (way : Key → Way)
    (x : Rectangle) (next : ℕ → ℕ → Grammar A) (s : Cursor) (a : B) → IsBytes s.rest → s.at ≤ place_limit
    → walk heeds e (layers_and_count v way x next) s ≡ Ok a → TakenWords v heeds e way x next s a
take_words One heeds e way x next s a fits within is =
    let missed = note_passed heeds rule.Hidden (not (opens_at way (key_at One 0 x))) s.last
    (walk heeds e (next 0 0) s) a is in
    record {
      mask = 0;
      count = 0;
      end = s;
      fits = omega arith;
      some = omega arith;
      few = omega arith;
      missed = λ h. not_true (opens_at way (key_at One 0 x)) (missed.0 h);
      took = took_none s fits within;
      rest = missed.1;
    }
take_words Two heeds e way x next s a fits within is =
    let m = take_reads heeds e want.Mask number_in (to_be_bytes w64) (λ n. n < 2 ^ 64) mask_meant
    (λ m. unopened way (key_at Two m x) (reads want.Tally (λ c. next m (number_in c)))) s a fits is in
    let missed = note_passed heeds rule.Hidden (not (opens_at way (key_at Two m.value x))) m.end.last
    (walk heeds e (reads want.Tally (λ c. next m.value (number_in c))) m.end) a m.rest in
    let c = take_reads heeds e want.Tally number_in (to_be_bytes w64) (λ n. (1 ≤ n) × (n ≤ count_limit)) tally_meant
    (λ c. next m.value c) m.end a m.took.fits missed.1 in
    record {
      mask = m.value;
      count = c.value;
      end = c.end;
      fits = m.good;
      some = c.good.0;
      few = c.good.1;
      missed = λ h. not_true (opens_at way (key_at Two m.value x)) (missed.0 h);
      took = took_both (to_be_bytes w64 m.value) (to_be_bytes w64 c.value) s m.end c.end m.took c.took;
      rest = c.rest;
    }

take_pruned : {A B : Type 0} (v : Version) (heeds : Bool) (e : A → Cursor → Result B Fault) (way : Key → Way) (l : ℕ)
    (next : Cut → Grammar A) (s : Cursor) (a : B) → IsBytes s.rest → walk heeds e (pruned v way next) s ≡ Ok a
    → (P : Cut) × (t : Cursor) × IsGood v heeds way l P × (cut_bytes v P ≡ pruned_tag ∷ tail v P) × Took (tail v P) s t
    × (walk heeds e (next P) t ≡ Ok a)
take_pruned v heeds e way l next s a fits is =
    let behind = λ (x : Rectangle) (m c : ℕ). reads want.Digest (λ d. next (Pruned (part_of x m c (bytes_in d)))) in
    let r = take_reads heeds e want.Rect rect_in rectangle_bytes (λ r. IsOrdered r × FitsMap r) rect_meant
    (λ r. layers_and_count v way r (behind r)) s a fits is in
    let w = take_words v heeds e way r.value (behind r.value) r.end a r.took.fits r.took.within r.rest in
    let d = take_reads heeds e want.Digest bytes_in (λ d. d) (λ d. (length d ≡ 32) × AreBytes d) digest_meant
    (λ d. next (Pruned (part_of r.value w.mask w.count d))) w.end a w.took.fits w.rest in
    let x = part_of r.value w.mask w.count d.value in
    let fine : FitsShown v x = record {
      ordered = r.good.0;
      coordinates = r.good.1;
      mask = w.fits;
      counted = w.some;
      few = w.few;
      digest = d.good.0;
      bytes = d.good.1;
    } in
    let words = word_bytes v w.mask in
    let tally = word_bytes v w.count in (
      Pruned x,
      d.end,
      (fine, w.missed),
      refl,
      took_as (rectangle_bytes r.value ++ ((words ++ tally) ++ d.value))
          (rectangle_bytes r.value ++ (words ++ (tally ++ d.value))) s d.end
          (ap (λ (y : List ℕ). rectangle_bytes r.value ++ y) (append_assoc words tally d.value))
          (took_both (rectangle_bytes r.value) ((words ++ tally) ++ d.value) s r.end d.end r.took
          (took_both (words ++ tally) d.value r.end w.end d.end w.took d.took)),
      d.rest,
    )

-- an item by its tag
abbrev Items : {A B : Type 0} → Version → Bool → (A → Cursor → Result B Fault) → (Key → Way) → ℕ
    → ((Cut → Grammar A) → Grammar A) → Type 0
Items {A} {B} v heeds e way l one =
    (next : Cut → Grammar A) (s : Cursor) (a : B) → IsBytes s.rest → walk heeds e (one next) s ≡ Ok a
    → Taken heeds e (cut_bytes v) (IsGood v heeds way l) next s a

take_items : {A B : Type 0} (v : Version) (heeds : Bool) (e : A → Cursor → Result B Fault) (way : Key → Way) (l : ℕ)
    (one : (Cut → Grammar A) → Grammar A) → Items v heeds e way l one
    → (n : ℕ) (next : Cuts → Grammar A) (s : Cursor) (a : B) → IsBytes s.rest → s.at ≤ place_limit
    → walk heeds e (some_items one n next) s ≡ Ok a → Taken heeds e (cuts_bytes v) (AreGood v heeds way l n) next s a
take_items v heeds e way l one take_one zero next s a fits within is = record
    { value = no_more; end = s; good = (refl, tt, λ h. tt); took = took_none s fits within; rest = is }
take_items v heeds e way l one take_one (suc n) next s a fits within is =
    let P = take_one (λ P. some_items one n (λ Ps. next (first P Ps))) s a fits is in
    let Ps = take_items v heeds e way l one take_one n
    (λ Ps. next (first P.value Ps)) P.end a P.took.fits P.took.within P.rest in
    record {
      value = first P.value Ps.value;
      end = Ps.end;
      good = (let so_far = Ps.good.0 in omega arith, (P.good.0, Ps.good.1), λ h. (P.good.1 h, Ps.good.2 h));
      took = took_both (cut_bytes v P.value) (cuts_bytes v Ps.value) s P.end Ps.end P.took Ps.took;
      rest = Ps.rest;
    }

take_inner : {A B : Type 0} (v : Version) (heeds : Bool) (e : A → Cursor → Result B Fault) (way : Key → Way) (l : ℕ)
    (one : (Cut → Grammar A) → Grammar A) → Items v heeds e way l one
    → (next : Cut → Grammar A) (s : Cursor) (a : B) → IsBytes s.rest → walk heeds e (inner v way one next) s ≡ Ok a
    → (P : Cut) × (t : Cursor) × IsGood v heeds way (suc l) P × (cut_bytes v P ≡ inner_tag ∷ tail v P)
    × Took (tail v P) s t × (walk heeds e (next P) t ≡ Ok a)
take_inner v heeds e way l one take_one next s a fits is =
    let n = take_reads heeds e want.InnerCount number_in (λ n. n ∷ [])
    (λ n. (1 ≤ n) × (n ≤ inner_limit)) inner_count_meant
    (λ n. some_items one n (λ Ps. opened v way (Inner Ps) next)) s a fits is in
    let Ps = take_items v heeds e way l one take_one n.value
    (λ Ps. opened v way (Inner Ps) next) n.end a n.took.fits n.took.within n.rest in
    let met = note_passed heeds rule.Needless (opens_seen way (key_of v (Inner Ps.value))) Ps.end.last
    (walk heeds e (next (Inner Ps.value)) Ps.end) a Ps.rest in
    let long = Ps.good.0 in
    let low = n.good.0 in
    let high = n.good.1 in
    let below : suc l - 1 ≡ l = omega arith in
    let fine : FitsInner (suc l) (number_of_cuts Ps.value) = record
    { above = omega arith; some = omega arith; few = omega arith } in (
      Inner Ps.value,
      Ps.end,
      ((fine, subst (λ (k : ℕ). FitCuts v k Ps.value) (sym below) Ps.good.1), λ h. (met.0 h, Ps.good.2 h)),
      refl,
      took_both (number_of_cuts Ps.value ∷ []) (cuts_bytes v Ps.value) s n.end Ps.end
          (took_as (n.value ∷ []) (number_of_cuts Ps.value ∷ []) s n.end (ap (λ (k : ℕ). k ∷ []) (sym Ps.good.0))
          n.took)
          Ps.took,
      met.1,
    )

tagged : (v : Version) (b c : ℕ) (P : Cut) (s t u : Cursor) → b ≡ c → cut_bytes v P ≡ c ∷ tail v P
    → Took (b ∷ []) s t → Took (tail v P) t u → Took (cut_bytes v P) s u
tagged v b c P s t u e bytes p q =
    took_as (b ∷ tail v P) (cut_bytes v P) s u (ap (λ (k : ℕ). k ∷ tail v P) e ∙ sym bytes)
    (took_both (b ∷ []) (tail v P) s t u p q)

-- a tag that is not that of a pruned part is that of an opened node
other_tag : (b c d : ℕ) → (b ≡ c) ⊎ (b ≡ d) → eqb b c ≡ false → b ≡ d
other_tag b c d (inl p) f = absurd (eqb-false b c f p)
other_tag b c d (inr p) f = p

inner_tag_is : (l : ℕ) → opened_tag (suc l) ≡ inner_tag
inner_tag_is l = rw (eqb-suc-zero l) refl

take_item : {A B : Type 0} (v : Version) (heeds : Bool) (e : A → Cursor → Result B Fault) (way : Key → Way) (l : ℕ)
    → Items v heeds e way l (item v way l)
take_item v heeds e way zero next s a fits is =
    let t = take_reads heeds e (want.Tag 0) tag_in (λ b. b ∷ []) (λ b. (b ≡ pruned_tag) ⊎ (b ≡ opened_tag 0))
    (tag_meant 0) (λ b. if b == pruned_tag then pruned v way next else leaf v way next) s a fits is in
    elim (cases_Bool (eqb t.value pruned_tag)) [
      | inl p ↦
          let x = take_pruned v heeds e way 0 next t.end a t.took.fits (rw p at t.rest) in
          record {
            value = x.0;
            end = x.1;
            good = x.2;
            took = tagged v t.value pruned_tag x.0 s t.end x.1
                (eqb-true t.value pruned_tag p) x.3 t.took x.4;
            rest = x.5;
          }
      | inr o ↦
          let x = take_leaf v heeds e way next t.end a t.took.fits t.took.within (rw o at t.rest) in
          record {
            value = x.0;
            end = x.1;
            good = x.2;
            took = tagged v t.value leaf_tag x.0 s t.end x.1
                (other_tag t.value pruned_tag leaf_tag t.good o) x.3 t.took x.4;
            rest = x.5;
          }
    ]
take_item v heeds e way (suc l) next s a fits is =
    let t = take_reads heeds e (want.Tag (suc l)) tag_in (λ b. b ∷ [])
    (λ b. (b ≡ pruned_tag) ⊎ (b ≡ opened_tag (suc l))) (tag_meant (suc l))
    (λ b. if b == pruned_tag then pruned v way next else inner v way (item v way l) next) s a fits is in
    elim (cases_Bool (eqb t.value pruned_tag)) [
      | inl p ↦
          let x = take_pruned v heeds e way (suc l) next t.end a t.took.fits (rw p at t.rest) in
          record {
            value = x.0;
            end = x.1;
            good = x.2;
            took = tagged v t.value pruned_tag x.0 s t.end x.1
                (eqb-true t.value pruned_tag p) x.3 t.took x.4;
            rest = x.5;
          }
      | inr o ↦
          let x = take_inner v heeds e way l (item v way l) (take_item v heeds e way l) next t.end a t.took.fits
          (rw o at t.rest) in
          record {
            value = x.0;
            end = x.1;
            good = x.2;
            took = tagged v t.value inner_tag x.0 s t.end x.1
                (other_tag t.value pruned_tag (opened_tag (suc l)) t.good o ∙ inner_tag_is l) x.3 t.took x.4;
            rest = x.5;
          }
    ]

-- ---- the head

take_level : {A B : Type 0} (heeds : Bool) (e : A → Cursor → Result B Fault) (count : ℕ) (next : ℕ → Grammar A)
    (s : Cursor) (a : B) → IsBytes s.rest → s.at ≤ place_limit → walk heeds e (level count next) s ≡ Ok a
    → Taken heeds e (level_bytes count) (λ v. (v ≤ level_limit) × (count ≡ 0 → v ≡ 0)) next s a
take_level heeds e count next s a fits within is = elim (cases_Bool (eqb count 0)) [
  | inl t ↦ record {
    value = 0;
    end = s;
    good = (omega arith, λ _. refl);
    took = let nothing : [] ≡ level_bytes count 0 = rw t refl in
        took_as [] (level_bytes count 0) s s nothing (took_none s fits within);
    rest = rw t at is;
  }
  | inr f ↦
      let l = take_reads heeds e want.Level number_in (λ l. l ∷ []) (λ l. l ≤ level_limit) level_meant next s a fits
      (rw f at is) in
      record {
        value = l.value;
        end = l.end;
        good = (l.good, λ z. absurd (eqb-false count 0 f z));
        took = let one : l.value ∷ [] ≡ level_bytes count l.value = rw f refl in
            took_as (l.value ∷ []) (level_bytes count l.value) s l.end one l.took;
        rest = l.rest;
      }
]

take_radius : {A B : Type 0} (heeds : Bool) (e : A → Cursor → Result B Fault) (k : Kind) (next : Option ℕ → Grammar A)
    (s : Cursor) (a : B) → IsBytes s.rest → s.at ≤ place_limit → walk heeds e (radius k next) s ≡ Ok a
    → Taken heeds e (radius_bytes k) (FitsRadius k) next s a
take_radius heeds e kind.W next s a fits within is = record
    { value = None; end = s; good = refl; took = took_none s fits within; rest = is }
take_radius heeds e (kind.Choice letter) next s a fits within is = record
    { value = None; end = s; good = refl; took = took_none s fits within; rest = is }
take_radius heeds e kind.K next s a fits within is =
    let f = take_reads heeds e want.Flag number_in (λ f. f ∷ []) (λ f. f ≤ 1) flag_meant
    (λ f. if f == 0 then next None else reads want.Radius (λ r. next (Some (wide_in r)))) s a fits is in
    elim (cases_Bool (eqb f.value 0)) [
      | inl t ↦ record {
        value = None;
        end = f.end;
        good = tt;
        took = took_as (f.value ∷ []) (0 ∷ []) s f.end (ap (λ (k : ℕ). k ∷ []) (eqb-true f.value 0 t)) f.took;
        rest = rw t at f.rest;
      }
      | inr o ↦
          let r = take_reads heeds e want.Radius wide_in (to_be_bytes w128) (λ r. r ≤ radius_limit) radius_meant
          (λ r. next (Some r)) f.end a f.took.fits (rw o at f.rest) in
          let one : f.value ≡ 1 = let le = f.good in let some : (f.value ≡ 0 → ⊥) = eqb-false f.value 0 o in
          omega arith in
          record {
            value = Some r.value;
            end = r.end;
            good = r.good;
            took = took_both (1 ∷ []) (to_be_bytes w128 r.value) s f.end r.end
                (took_as (f.value ∷ []) (1 ∷ []) s f.end (ap (λ (k : ℕ). k ∷ []) one) f.took) r.took;
            rest = r.rest;
          }
    ]

-- the version of a head, and what stands before the batch
record TakenOpening {A B : Type 0} (heeds : Bool) (e : A → Cursor → Result B Fault) (k : Kind) (two_only : Bool)
    (g : Version → Grammar A) (s : Cursor) (a : B) : Type 0 where
  version : Version
  end : Cursor
  may_come : version ≡ One → two_only ≡ false
  took : Took (magic ++ version_byte version ∷ kind_byte k ∷ []) s end
  rest : walk heeds e (g version) end ≡ Ok a

take_opening : {A B : Type 0} (heeds : Bool) (e : A → Cursor → Result B Fault) (k : Kind) (two_only : Bool)
    (g : Version → Grammar A) (s : Cursor) (a : B) → IsBytes s.rest
    → walk heeds e (reads want.Magic
    (λ _. reads (want.Version two_only) (λ v. reads (want.Kind k) (λ _. g (version_in v))))) s ≡ Ok a
    → TakenOpening heeds e k two_only g s a
take_opening heeds e k two_only g s a fits is =
    let m = take_reads heeds e want.Magic (λ _. tt) (λ (_ : Unit {0}). magic) (λ _. ⊤) magic_meant
    (λ _. reads (want.Version two_only) (λ v. reads (want.Kind k) (λ _. g (version_in v)))) s a fits is in
    let v = take_reads heeds e (want.Version two_only) version_in (λ (v : Version). version_byte v ∷ [])
    (λ (v : Version). v ≡ One → two_only ≡ false) (version_taken two_only)
    (λ v. reads (want.Kind k) (λ _. g v)) m.end a m.took.fits m.rest in
    let b = take_reads heeds e (want.Kind k) (λ _. tt) (λ (_ : Unit {0}). kind_byte k ∷ []) (λ _. ⊤) (kind_meant k)
    (λ _. g v.value) v.end a v.took.fits v.rest in
    record {
      version = v.value;
      end = b.end;
      may_come = v.good;
      took = took_both magic (version_byte v.value ∷ kind_byte k ∷ []) s m.end b.end m.took
          (took_both (version_byte v.value ∷ []) (kind_byte k ∷ []) m.end v.end b.end v.took b.took);
      rest = b.rest;
    }

-- a head of this kind that may come
abbrev IsHead : Kind → Bool → Head → Type 0
IsHead k two_only h = (h.kind ≡ k) × (h.version ≡ One → two_only ≡ false) × FitsProofHead h

take_head : {A B : Type 0} (heeds : Bool) (e : A → Cursor → Result B Fault) (k : Kind) (two_only : Bool)
    (next : Head → Grammar A) (s : Cursor) (a : B) → (needs_two k ≡ true → two_only ≡ true) → IsBytes s.rest
    → walk heeds e (head k two_only next) s ≡ Ok a → Taken heeds e head_bytes (IsHead k two_only) next s a
take_head heeds e k two_only next s a two fits is =
    let o = take_opening heeds e k two_only (λ v. reads want.Batch
    (λ b. reads want.Count (λ c. radius k (λ r. level (number_in c)
    (λ l. next (head_of v k (number_in b) (number_in c) r l)))))) s a fits is in
    let v = o.version in
    let b = take_reads heeds e want.Batch number_in (to_be_bytes w64) (λ n. n < 2 ^ 64) batch_meant
    (λ b. reads want.Count (λ c. radius k (λ r. level (number_in c)
    (λ l. next (head_of v k b (number_in c) r l))))) o.end a o.took.fits o.rest in
    let c = take_reads heeds e want.Count number_in (to_be_bytes w64) (λ n. n ≤ count_limit) count_meant
    (λ c. radius k (λ r. level c (λ l. next (head_of v k b.value c r l)))) b.end a b.took.fits b.rest in
    let r = take_radius heeds e k (λ r. level c.value (λ l. next (head_of v k b.value c.value r l))) c.end a c.took.fits
    c.took.within c.rest in
    let l = take_level heeds e c.value (λ l. next (head_of v k b.value c.value r.value l)) r.end a r.took.fits
    r.took.within r.rest in
    let behind_count = took_both (radius_bytes k r.value)
    (level_bytes c.value l.value) c.end r.end l.end r.took l.took in
    let behind_batch = took_both (to_be_bytes w64 c.value)
    (radius_bytes k r.value ++ level_bytes c.value l.value) b.end c.end l.end c.took behind_count in
    let behind_kind = took_both (to_be_bytes w64 b.value)
    (to_be_bytes w64 c.value ++ (radius_bytes k r.value ++ level_bytes c.value l.value)) o.end b.end l.end b.took
    behind_batch in
    record {
      value = head_of v k b.value c.value r.value l.value;
      end = l.end;
      good = (
        refl,
        o.may_come,
        record {
          version = fits_version k two_only v two o.may_come;
          batch = b.good;
          count = c.good;
          radius = r.good;
          level = l.good.0;
          empty = l.good.1;
        },
      );
      took = took_both (magic ++ version_byte v ∷ kind_byte k ∷ [])
          (to_be_bytes w64 b.value ++ (to_be_bytes w64 c.value ++
          (radius_bytes k r.value ++ level_bytes c.value l.value))) s o.end l.end o.took behind_kind;
      rest = l.rest;
    }

-- ---- the whole

-- what a walk through a whole proof took: a head of the kind that may come, and a cut; and what the
-- ending gives behind them
pub record TakenWhole {B : Type 0} (heeds : Bool) (e : Parsed → Cursor → Result B Fault) (k : Kind) (two_only : Bool)
    (way : Option ℕ → Key → Way) (bytes : List ℕ) (a : B) : Type 0 where
  pub value : Parsed
  pub end : Cursor
  pub kind : value.head.kind ≡ k
  pub may_come : value.head.version ≡ One → two_only ≡ false
  pub fits : FitsProofHead value.head
  pub part : FitsPart value.head value.part
  pub tight : heeds ≡ true → IfSome value.part (IsTightCut value.head.version (way value.head.radius))
  pub took : Took (head_bytes value.head ++ part_bytes value.head.version value.part) (start bytes) end
  pub rest : e value end ≡ Ok a

pub take_whole : {B : Type 0} (heeds : Bool) (e : Parsed → Cursor → Result B Fault) (k : Kind) (two_only : Bool)
    (way : Option ℕ → Key → Way) (bytes : List ℕ) (a : B) → (needs_two k ≡ true → two_only ≡ true) → IsBytes bytes
    → walk heeds e (whole k two_only way) (start bytes) ≡ Ok a → TakenWhole heeds e k two_only way bytes a
take_whole heeds e k two_only way bytes a two fits is =
    let h = take_head heeds e k two_only (part way) (start bytes) a two fits is in
    elim (cases_Bool (eqb h.value.count 0)) [
      | inl t ↦ record {
        value = said h.value None;
        end = h.end;
        kind = h.good.0;
        may_come = h.good.1;
        fits = h.good.2;
        part = eqb-true h.value.count 0 t;
        tight = λ _. tt;
        took = took_as (head_bytes h.value) (head_bytes h.value ++ []) (start bytes) h.end
            (sym (append-nil (head_bytes h.value))) h.took;
        rest = rw t at h.rest;
      }
      | inr f ↦
          let P = take_item h.value.version heeds e (way h.value.radius) h.value.level
          (λ P. done (said h.value (Some P))) h.end a h.took.fits (rw f at h.rest) in
          let some : (h.value.count ≡ 0 → ⊥) = eqb-false h.value.count 0 f in
          record {
            value = said h.value (Some P.value);
            end = P.end;
            kind = h.good.0;
            may_come = h.good.1;
            fits = h.good.2;
            part = (omega arith, P.good.0);
            tight = P.good.1;
            took = took_both (head_bytes h.value) (cut_bytes h.value.version P.value) (start bytes) h.end P.end h.took
                P.took;
            rest = P.rest;
          }
    ]

-- where nothing is left, the whole of the bytes was taken
pub spelled_whole : {B : Type 0} (heeds : Bool) (e : Parsed → Cursor → Result B Fault) (k : Kind) (two_only : Bool)
    (way : Option ℕ → Key → Way) (bytes : List ℕ) (a : B) (x : TakenWhole heeds e k two_only way bytes a)
    → x.end.rest ≡ []
    → IsSpelled x.value.head x.value.part bytes
spelled_whole heeds e k two_only way bytes a x none =
    let text = head_bytes x.value.head ++ part_bytes x.value.head.version x.value.part in
    let all : bytes ≡ text = x.took.parts ∙ ap (λ (r : List ℕ). text ++ r) none ∙ append-nil text in
    let long : length bytes ≡ length text = ap length all in
    let place = x.took.place in
    let within = x.took.within in
    record { head = x.fits; part = x.part; whole = all; short = omega arith }

-- ---- the verdict

pub not_failed : {B : Type 0} (b : Bool) (f : Fault) (r : Result B Fault) (a : B) → cond b (Err f) r ≡ Ok a
    → (b ≡ false) × (r ≡ Ok a)
not_failed true f r a e = absurd cc
not_failed false f r a e = (refl, e)

not_false : (b : Bool) → not b ≡ false → b ≡ true
not_false true e = refl
not_false false e = absurd (false≢true (sym e))

pub nothing_left : (rest : List ℕ) → nat_lt 0 (length rest) ≡ false → rest ≡ []
nothing_left rest e = let none : length rest ≤ 0 = ltb-false 0 (length rest) e in nil_from_length rest (omega arith)

pub take_end : (hash : List ℕ → List ℕ) (root : List ℕ) (a : Question) (x : Parsed) (s : Cursor) (y : Parsed)
    → ending hash root a x s ≡ Ok y
    → (s.rest ≡ []) × (root_found hash x.head x.part ≡ root)
    × (has_other_radius a.around x.head.radius (opened_records x.part) ≡ false) × (has_other_count x ≡ false)
    × (x ≡ y)
unfolding ending
take_end hash root a x s y is =
    let found = root_found hash x.head x.part in
    let end = s.at + length s.rest in
    let other = has_other_radius a.around x.head.radius (opened_records x.part) in
    let uncounted = has_other_count x in
    let t = not_failed (nat_lt 0 (length s.rest)) (fault rule.Trailing s.at)
    (if not (bytes_eq found root) then Err (fault (rule.WrongRoot found) end) else if other then Err
    (fault rule.WrongRadius end) else if uncounted then Err (fault rule.WrongTally end) else Ok x) y is in
    let r = not_failed (not (bytes_eq found root)) (fault (rule.WrongRoot found) end)
    (if other then Err (fault rule.WrongRadius end) else if uncounted then Err (fault rule.WrongTally end) else Ok x) y
    t.1 in
    let o = not_failed other (fault rule.WrongRadius end)
    (if uncounted then Err (fault rule.WrongTally end) else Ok x) y r.1 in
    let c = not_failed uncounted (fault rule.WrongTally end) (Ok x) y o.1 in
    (nothing_left s.rest t.0, same_bytes found root (not_false (bytes_eq found root) r.0), o.0, c.0, same_value x y c.1)

-- the head and cut of accepted bytes are shown by them
pub shows_from : (hash : List ℕ → List ℕ) (root : List ℕ) (a : Question) (bytes : List ℕ) (y : Parsed)
    → IsLawful a → IsBytes bytes → checked hash root a bytes ≡ Ok y → ShowsCut hash root a bytes y
unfolding checked
shows_from hash root a bytes y law fits is =
    let x = take_whole true (ending hash root a) a.kind a.two_only a.way bytes y law.two_only fits is in
    let z = take_end hash root a x.value x.end y x.rest in
    subst (ShowsCut hash root a bytes) z.4 (record {
      spelled = spelled_whole true (ending hash root a) a.kind a.two_only a.way bytes y x z.0;
      kind = x.kind;
      version = may_come a x.value.head.version x.may_come;
      tight = record {
        parts = x.tight refl;
        radius = right_radius a x.value.head (opened_records x.value.part) law x.kind x.fits z.2;
        counted = count_right x.value.head x.value.part z.3;
      };
      held = z.1;
    })

pub proves_from : (hash : List ℕ → List ℕ) (root : List ℕ) (q : Query) (bytes : List ℕ) (answer : List Record)
    → IsQuery q → IsBytes bytes → verdict hash root q bytes ≡ Ok answer → ProvesAnswer hash root q bytes answer
unfolding verdict
proves_from hash root q bytes answer is fits e =
    let c = behind_step (checked hash root (question q) bytes) (λ x. Ok (scan (opened_records x.part) q)) answer e in
    record {
      said = c.0;
      shows = shows_from hash root (question q) bytes c.0 (is_lawful q is) fits c.1;
      scanned = sym (same_value (scan (opened_records c.0.part) q) answer c.2);
    }
