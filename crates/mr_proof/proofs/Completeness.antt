-- What is spelled is read again without a fault; where notes are heeded, if its cut is tight.
use Rattle.std.proofs.Common.{◌≡◌, ℕ, zero, suc, ◌+◌, ◌-◌, ◌<◌, ◌≤◌, ◌^◌, Bool, true, false, cond, eqb, ltb, List, [], ◌∷◌, ◌++◌, length, take, drop, Result, Ok, Option, Some, None, refl, sym, ap, subst, ◌∙◌, inl, inr, arith, append_assoc}
use Rattle.std.specs.Prelude.{if◌then◌else◌, ◌==◌, not, IfSome}
use Rattle.std.specs.List.{flat_map, AllByRecursion}
use Rattle.std.specs.Int.{w64, w128, to_be_bytes}
use Rattle.std.proofs.lemmas.Bool.{false≢true, eqb-true, le-ltb, eq-eqb, ne_eqb}
use Rattle.std.proofs.lemmas.List.{append-nil, length-append, take_at, drop_at}
use Rattle.std.proofs.lemmas.List.Concat.{flat_map-cons}
use Rattle.std.proofs.lemmas.List.Elements.{recursion_from_All}
use Rattle.mr_record.specs.Record.{IsRecord, HasLayer, record_bytes, rectangle_bytes, layer_bytes}
use Rattle.mr_record.specs.Version.{version_byte, highest_layer}
use Rattle.mr_record.specs.declared.version.Version.{Version}
use Rattle.mr_record.specs.declared.version.Version.TheVariants.{One, Two}
use Rattle.mr_tree.specs.Digest.{word_bytes}
use Rattle.mr_record.specs.declared.record.Record.{Record}
use Rattle.mr_query.specs.Word.{IsQuery}
use Rattle.mr_query.specs.declared.query.Query.{Query}
use Rattle.mr_query.specs.declared.key.Key.{Key}
use Rattle.std.proofs.Math.Dec.{eqb-suc-zero}
use Rattle.mr_proof.specs.declared.head.Kind.{Kind}
use Rattle.mr_proof.specs.declared.head.Kind.TheVariants as kind
use Rattle.mr_proof.specs.declared.head.Head.{Head}
use Rattle.mr_proof.specs.declared.rule.Rule.{Rule}
use Rattle.mr_proof.specs.declared.rule.Rule.TheVariants as rule
use Rattle.mr_proof.specs.declared.rule.Fault.{Fault}
use Rattle.mr_proof.specs.declared.want.Want.{Want}
use Rattle.mr_proof.specs.declared.want.Want.TheVariants as want
use Rattle.mr_proof.specs.declared.field.Field.{Field}
use Rattle.mr_proof.specs.declared.field.Field.TheVariants as field
use Rattle.mr_proof.specs.declared.pruned_entry.PrunedEntry.{PrunedEntry}
use Rattle.mr_proof.specs.Limits.{count_limit, level_limit, place_limit}
use Rattle.mr_proof.specs.Fields.{size_of, field_of, magic, kind_byte, pruned_tag, leaf_tag, inner_tag, opened_tag, IsVersionByte}
use Rattle.mr_proof.specs.Cut.{Cut, Cuts, Pruned, Leaf, Inner, no_more, first, number_of_cuts}
use Rattle.mr_proof.specs.Spelling.{shown_bytes, cut_bytes, cuts_bytes, FitsShown, FitsLeaf, FitsInner, FitsCut, FitCuts, radius_bytes, level_bytes, head_bytes, FitsRadius, FitsProofHead, Parsed, said, opened_records, part_bytes, FitsPart, IsSpelled}
use Rattle.mr_proof.specs.declared.way.Way.{Way}
use Rattle.mr_proof.specs.Tight.{key_at, key_of, opens_seen, opens_at, keeps_record, Question, question, IsLawful, IsTightCut, AreTightCuts}
use Rattle.mr_proof.specs.Accepted.{root_found, ShowsCut, ProvesAnswer}
use Rattle.mr_proof.specs.Grammar.{must, opens, Grammar, done, reads, notes, number_in, version_in, wide_in, tag_in, rect_in, bytes_in, payload, layer, one_record, some_records, opened, leaf, some_items, inner, unopened, layers_and_count, pruned, item, radius, level, head, part, whole}
use Rattle.mr_proof.specs.Layout.{Cursor, start, behind, field_at}
use Rattle.mr_proof.specs.Refused.{has_other_radius, has_other_count}
use Rattle.mr_proof.specs.Reading.{walk, ending, checked, verdict}
use Rattle.mr_proof.proofs.Laws.{either_comes, radius_stands, count_stands, is_lawful}
use Rattle.mr_proof.proofs.Values.{record_of, part_of, head_of, bytes_same, word_long, wide_long, rectangle_long, tail}
use Rattle.mr_proof.proofs.FieldValues.{number_value, batch_value, count_value, level_value, length_value, leaf_count_value, inner_count_value, rect_value, payload_value, digest_value, tag_value, magic_value, version_value, kind_value, flag_value, radius_value, layer_value, mask_value, tally_value}

-- the text is read from the front, and what follows it is read behind it
pub record Comes {A B : Type 0} (heeds : Bool) (e : A → Cursor → Result B Fault) (g k : Grammar A) (s : Cursor)
    (text rest : List ℕ) : Type 0 where
  pub end : Cursor
  pub left : end.rest ≡ rest
  pub place : end.at ≡ s.at + length text
  pub same : walk heeds e g s ≡ walk heeds e k end

comes_none : {A B : Type 0} (heeds : Bool) (e : A → Cursor → Result B Fault) (g : Grammar A) (s : Cursor)
    (rest : List ℕ)
    → s.rest ≡ rest → Comes heeds e g g s [] rest
comes_none heeds e g s rest left = record { end = s; left = left; place = omega arith; same = refl }

comes_both : {A B : Type 0} (heeds : Bool) (e : A → Cursor → Result B Fault) (g k l : Grammar A) (s : Cursor)
    (x y rest : List ℕ) (p : Comes heeds e g k s x (y ++ rest)) → Comes heeds e k l p.end y rest
    → Comes heeds e g l s (x ++ y) rest
comes_both heeds e g k l s x y rest p q = record {
  end = q.end;
  left = q.left;
  place = omega (arith, p.place, q.place, length-append x y);
  same = p.same ∙ q.same;
}

comes_as : {A B : Type 0} (heeds : Bool) (e : A → Cursor → Result B Fault) (g k : Grammar A) (s : Cursor)
    (x y rest : List ℕ) → x ≡ y → Comes heeds e g k s x rest → Comes heeds e g k s y rest
comes_as heeds e g k s x y rest is p = subst (λ (z : List ℕ). Comes heeds e g k s z rest) is p

-- ---- one field

field_again : (w : Want) (s : Cursor) (raw rest : List ℕ) (f : Field) → length raw ≡ size_of w → field_of w raw ≡ Ok f
    → s.rest ≡ raw ++ rest → s.at + length raw ≤ place_limit
    → field_at w s ≡ Ok (f, behind w s)
unfolding field_at
field_again w s raw rest f long value parts within =
    let inside : ltb place_limit (s.at + size_of w) ≡ false = le-ltb place_limit (s.at + size_of w) (omega arith) in
    let enough : ltb (length s.rest) (size_of w) ≡ false = le-ltb (length s.rest) (size_of w)
    (omega (arith, ap length parts, length-append raw rest)) in
    let front : take (size_of w) s.rest ≡ raw = ap (take (size_of w)) parts ∙ take_at raw rest (size_of w) long in
    rw (inside, enough, front, value) refl

reads_again : {A B X : Type 0} (heeds : Bool) (e : A → Cursor → Result B Fault) (w : Want) (m : Field → X)
    (next : X → Grammar A) (s : Cursor) (raw rest : List ℕ) (f : Field)
    → length raw ≡ size_of w → field_of w raw ≡ Ok f → s.rest ≡ raw ++ rest → s.at + length raw ≤ place_limit
    → Comes heeds e (reads w (λ f. next (m f))) (next (m f)) s raw rest
reads_again heeds e w m next s raw rest f long value parts within = record {
  end = behind w s;
  left = ap (drop (size_of w)) parts ∙ drop_at raw rest (size_of w) long;
  place = omega arith;
  same = rw (field_again w s raw rest f long value parts within) refl;
}

-- ---- records

payload_again : {A B : Type 0} (heeds : Bool) (e : A → Cursor → Result B Fault) (next : List ℕ → Grammar A) (s : Cursor)
    (p rest : List ℕ) → s.rest ≡ p ++ rest → s.at + length p ≤ place_limit
    → Comes heeds e (payload (length p) next) (next p) s p rest
payload_again heeds e next s [] rest parts within = comes_none heeds e (next []) s rest parts
payload_again heeds e next s (b ∷ p) rest parts within =
    let some : eqb (length (b ∷ p)) 0 ≡ false = ne_eqb (length (b ∷ p)) 0 (λ z. omega arith) in
    subst (λ (c : Bool). Comes heeds e (cond c (next [])
    (reads (want.Payload (length (b ∷ p))) (λ f. next (bytes_in f)))) (next (b ∷ p)) s (b ∷ p) rest) (sym some)
    (reads_again heeds e (want.Payload (length (b ∷ p))) bytes_in next s (b ∷ p) rest (field.Payload (b ∷ p)) refl
    (payload_value (length (b ∷ p)) (b ∷ p)) parts within)

-- the layer of a record, where the version tells it
layer_again : {A B : Type 0} (v : Version) (heeds : Bool) (e : A → Cursor → Result B Fault) (next : ℕ → Grammar A)
    (s : Cursor) (i : ℕ) (rest : List ℕ) → i ≤ highest_layer v → s.rest ≡ layer_bytes v i ++ rest
    → s.at + length (layer_bytes v i) ≤ place_limit
    → Comes heeds e (layer v next) (next i) s (layer_bytes v i) rest
layer_again One heeds e next s i rest low parts within =
    let lowest : i ≤ 0 = low in
    let flat : 0 ≡ i = omega arith in
    subst (λ (i : ℕ). Comes heeds e (next 0) (next i) s [] rest) flat (comes_none heeds e (next 0) s rest parts)
layer_again Two heeds e next s i rest low parts within =
    reads_again heeds e want.Layer number_in next s (i ∷ []) rest (field.Num i) refl (layer_value i low) parts within

-- what follows the rectangle of a record
rest_again : {A B : Type 0} (v : Version) (heeds : Bool) (e : A → Cursor → Result B Fault)
    (next : ℕ → List ℕ → Grammar A) (s : Cursor) (i : ℕ) (p rest : List ℕ) → i ≤ highest_layer v → length p ≤ 200
    → s.rest ≡ layer_bytes v i ++ (length p ∷ p ++ rest)
    → s.at + (length (layer_bytes v i) + (1 + length p)) ≤ place_limit
    → Comes heeds e (layer v (λ i. reads want.Length (λ l. payload (number_in l) (next i)))) (next i p) s
    (layer_bytes v i ++ (length p ∷ p)) rest
rest_again v heeds e next s i p rest low few parts within =
    let size = length-append (layer_bytes v i) (length p ∷ p) in
    let x = layer_again v heeds e (λ i. reads want.Length (λ l. payload (number_in l) (next i))) s i
    (length p ∷ p ++ rest) low parts (omega arith) in
    let a = x.place in
    let l = reads_again heeds e want.Length number_in (λ l. payload l (next i)) x.end (length p ∷ []) (p ++ rest)
    (field.Num (length p)) refl (length_value (length p) few) x.left (omega arith) in
    let b = l.place in
    let q = payload_again heeds e (next i) l.end p rest l.left (omega arith) in
    let c = q.place in
    record { end = q.end; left = q.left; place = omega arith; same = x.same ∙ l.same ∙ q.same }

record_again : {A B : Type 0} (v : Version) (heeds : Bool) (e : A → Cursor → Result B Fault) (next : Record → Grammar A)
    (s : Cursor) (r : Record) (rest : List ℕ) → IsRecord r → HasLayer v r → s.rest ≡ record_bytes v r ++ rest
    → s.at + length (record_bytes v r) ≤ place_limit
    → Comes heeds e (one_record v next) (next r) s (record_bytes v r) rest
unfolding record_bytes
record_again v heeds e next s r rest fine low parts within =
    let number = to_be_bytes w64 r.number in
    let place = rectangle_bytes r.rect in
    let stratum = layer_bytes v r.layer in
    let tail = length r.payload ∷ r.payload in
    let one : s.rest ≡ number ++ (place ++ (stratum ++ (tail ++ rest))) = parts
    ∙ append_assoc ((number ++ place) ++ stratum) tail rest
    ∙ append_assoc (number ++ place) stratum (tail ++ rest) ∙ append_assoc number place (stratum ++ (tail ++ rest)) in
    let size : length (((number ++ place) ++ stratum) ++ tail) ≡ 8 + 16 + (length stratum + (1 + length r.payload)) =
    omega (
      arith,
      length-append ((number ++ place) ++ stratum) tail,
      length-append (number ++ place) stratum,
      length-append number place,
      word_long r.number,
      rectangle_long r.rect,
    ) in
    let both = length-append stratum tail in
    let wide = word_long r.number in
    let square = rectangle_long r.rect in
    let n = reads_again heeds e want.Number number_in
    (λ n. reads want.Rect (λ x. layer v (λ i. reads want.Length
    (λ l. payload (number_in l) (λ p. next (record_of n (rect_in x) i p)))))) s
    number (place ++ (stratum ++ (tail ++ rest))) (field.Num r.number) (word_long r.number)
    (number_value r.number fine.number) one (omega arith) in
    let a = n.place in
    let x = reads_again heeds e want.Rect rect_in
    (λ x. layer v (λ i. reads want.Length (λ l. payload (number_in l)
    (λ p. next (record_of r.number x i p))))) n.end place (stratum ++ (tail ++ rest))
    (field.Rect r.rect) (rectangle_long r.rect) (rect_value r.rect fine.ordered fine.coordinates) n.left
    (omega arith) in
    let b = x.place in
    let q = rest_again v heeds e (λ i p. next (record_of r.number r.rect i p)) x.end r.layer r.payload rest low
    fine.payload x.left (omega arith) in
    let c = q.place in
    record { end = q.end; left = q.left; place = omega arith; same = n.same ∙ x.same ∙ q.same }

records_again : {A B : Type 0} (v : Version) (heeds : Bool) (e : A → Cursor → Result B Fault) (way : Key → Way)
    (next : List Record → Grammar A)
    (s : Cursor) (rs : List Record) (rest : List ℕ) → AllByRecursion IsRecord rs → AllByRecursion (HasLayer v) rs
    → s.rest ≡ flat_map (record_bytes v) rs ++ rest
    → s.at + length (flat_map (record_bytes v) rs) ≤ place_limit
    → Comes heeds e (some_records v way (length rs) next) (next rs) s (flat_map (record_bytes v) rs) rest
records_again v heeds e way next s [] rest fine low parts within = comes_none heeds e (next []) s rest parts
records_again v heeds e way next s (r ∷ rs) rest fine low parts within =
    let text = record_bytes v in
    let whole : flat_map text (r ∷ rs) ≡ text r ++ flat_map text rs = flat_map-cons text r rs in
    let size : length (flat_map text (r ∷ rs)) ≡ length (text r) + length (flat_map text rs) =
    ap length whole ∙ length-append (text r) (flat_map text rs) in
    let regrouped : s.rest ≡ text r ++ (flat_map text rs ++ rest) = parts
    ∙ ap (λ (x : List ℕ). x ++ rest) whole ∙ append_assoc (text r) (flat_map text rs) rest in
    let one = record_again v heeds e (λ r. notes (opens r (keeps_record way r))
    (some_records v way (length rs) (λ rs. next (r ∷ rs)))) s r
    (flat_map text rs ++ rest) fine.0 low.0 regrouped (omega arith) in
    let a = one.place in
    let behind_one = records_again v heeds e way (λ rs. next (r ∷ rs)) one.end rs rest fine.1 low.1 one.left
    (omega arith) in
    let others : Comes heeds e (notes (opens r (keeps_record way r))
    (some_records v way (length rs) (λ rs. next (r ∷ rs))))
    (next (r ∷ rs)) one.end (flat_map text rs) rest = record
    { end = behind_one.end; left = behind_one.left; place = behind_one.place; same = behind_one.same } in
    comes_as heeds e (some_records v way (length (r ∷ rs)) next) (next (r ∷ rs)) s
    (text r ++ flat_map text rs) (flat_map text (r ∷ rs)) rest (sym whole)
    (comes_both heeds e (some_records v way (length (r ∷ rs)) next)
    (notes (opens r (keeps_record way r)) (some_records v way (length rs) (λ rs. next (r ∷ rs)))) (next (r ∷ rs))
    s (text r) (flat_map text rs) rest one others)

-- ---- items

note_again : {A B : Type 0} (heeds : Bool) (e : A → Cursor → Result B Fault) (broken : Rule) (b : Bool) (g : Grammar A)
    (s : Cursor) (rest : List ℕ) → (heeds ≡ true → b ≡ true) → s.rest ≡ rest
    → Comes heeds e (notes (must broken b) g) g s [] rest
note_again true e broken true g s rest passed left = record { end = s; left = left; place = omega arith; same = refl }
note_again true e broken false g s rest passed left = absurd (false≢true (passed refl))
note_again false e broken b g s rest passed left = record { end = s; left = left; place = omega arith; same = refl }

-- where notes are heeded, the cut is tight
abbrev Passes : Version → Bool → (Key → Way) → Cut → Type 0
Passes v heeds way P = heeds ≡ true → IsTightCut v way P

leaf_again : {A B : Type 0} (v : Version) (heeds : Bool) (e : A → Cursor → Result B Fault) (way : Key → Way)
    (next : Cut → Grammar A) (s : Cursor) (rs : List Record) (rest : List ℕ) → FitsLeaf v 0 rs
    → Passes v heeds way (Leaf rs)
    → s.rest ≡ tail v (Leaf rs) ++ rest → s.at + length (tail v (Leaf rs)) ≤ place_limit
    → Comes heeds e (leaf v way next) (next (Leaf rs)) s (tail v (Leaf rs)) rest
leaf_again v heeds e way next s rs rest fine tight parts within =
    let text = flat_map (record_bytes v) rs in
    let n = reads_again heeds e want.LeafCount number_in
    (λ n. some_records v way n (λ rs. opened v way (Leaf rs) next)) s
    (length rs ∷ []) (text ++ rest) (field.Num (length rs)) refl
    (leaf_count_value (length rs) fine.some fine.few) parts (omega arith) in
    let a = n.place in
    let all = records_again v heeds e way (λ rs. opened v way (Leaf rs) next) n.end rs rest
    (recursion_from_All IsRecord rs fine.each) (recursion_from_All (HasLayer v) rs fine.layers) n.left
    (omega arith) in
    let b = all.place in
    let met = note_again heeds e rule.Needless (opens_seen way (key_of v (Leaf rs)))
    (next (Leaf rs)) all.end rest tight all.left in
    let c = met.place in
    record { end = met.end; left = met.left; place = omega arith; same = n.same ∙ all.same ∙ met.same }

is_not : (b : Bool) → b ≡ false → not b ≡ true
is_not b e = rw e refl

-- the mask and the count of a part, where the version tells them
layers_again : {A B : Type 0} (v : Version) (heeds : Bool) (e : A → Cursor → Result B Fault) (way : Key → Way)
    (next : ℕ → ℕ → Grammar A) (s : Cursor) (x : PrunedEntry) (rest : List ℕ) → FitsShown v x
    → Passes v heeds way (Pruned x) → s.rest ≡ word_bytes v x.mask ++ (word_bytes v x.count ++ rest)
    → s.at + length (word_bytes v x.mask ++ word_bytes v x.count) ≤ place_limit
    → Comes heeds e (layers_and_count v way x.rect next) (next x.mask x.count) s
    (word_bytes v x.mask ++ word_bytes v x.count) rest
layers_again One heeds e way next s x rest fine missed parts within =
    let no_layer : x.mask < 1 = fine.mask in
    let none : x.count ≤ 0 = fine.few in
    let both : ◌≡◌ {A = ℕ × ℕ} (0, 0) (x.mask, x.count) =
    let empty : 0 ≡ x.mask = omega arith in let zero : 0 ≡ x.count = omega arith in λ i. (empty i, zero i) in
    subst (λ (n : ℕ × ℕ). Comes heeds e (layers_and_count One way x.rect next) (next n.0 n.1) s [] rest) both
    (note_again heeds e rule.Hidden (not (opens_at way (key_at One 0 x.rect))) (next 0 0) s rest
    (λ h. is_not (opens_at way (key_at One 0 x.rect)) (missed h)) parts)
layers_again Two heeds e way next s x rest fine missed parts within =
    let layers = to_be_bytes w64 x.mask in
    let tally = to_be_bytes w64 x.count in
    let size = length-append layers tally in
    let wide = word_long x.mask in
    let long = word_long x.count in
    let m = reads_again heeds e want.Mask number_in
    (λ m. unopened way (key_at Two m x.rect) (reads want.Tally (λ c. next m (number_in c)))) s layers (tally ++ rest)
    (field.Num x.mask) wide (mask_value x.mask fine.mask) parts (omega arith) in
    let a = m.place in
    let n = note_again heeds e rule.Hidden (not (opens_at way (key_at Two x.mask x.rect)))
    (reads want.Tally (λ c. next x.mask (number_in c))) m.end (tally ++ rest)
    (λ h. is_not (opens_at way (key_at Two x.mask x.rect)) (missed h)) m.left in
    let b = n.place in
    let c = reads_again heeds e want.Tally number_in (λ c. next x.mask c) n.end tally rest (field.Num x.count) long
    (tally_value x.count fine.counted fine.few) n.left (omega arith) in
    let d = c.place in
    record { end = c.end; left = c.left; place = omega arith; same = m.same ∙ n.same ∙ c.same }

pruned_again : {A B : Type 0} (v : Version) (heeds : Bool) (e : A → Cursor → Result B Fault) (way : Key → Way)
    (next : Cut → Grammar A) (s : Cursor) (x : PrunedEntry) (rest : List ℕ) → FitsShown v x
    → Passes v heeds way (Pruned x) → s.rest ≡ shown_bytes v x ++ rest
    → s.at + length (shown_bytes v x) ≤ place_limit
    → Comes heeds e (pruned v way next) (next (Pruned x)) s (shown_bytes v x) rest
pruned_again v heeds e way next s x rest fine missed parts within =
    let place = rectangle_bytes x.rect in
    let layers = word_bytes v x.mask in
    let tally = word_bytes v x.count in
    let square = rectangle_long x.rect in
    let size : length (shown_bytes v x) ≡ 16 + (length layers + (length tally + length x.digest)) = omega (
      arith,
      length-append place (layers ++ (tally ++ x.digest)),
      length-append layers (tally ++ x.digest),
      length-append tally x.digest,
    ) in
    let regrouped : s.rest ≡ place ++ (layers ++ (tally ++ (x.digest ++ rest))) = parts
    ∙ append_assoc place (layers ++ (tally ++ x.digest)) rest
    ∙ ap (λ (y : List ℕ). place ++ y) (append_assoc layers (tally ++ x.digest) rest
    ∙ ap (λ (y : List ℕ). layers ++ y) (append_assoc tally x.digest rest)) in
    let both = length-append layers tally in
    let r = reads_again heeds e want.Rect rect_in
    (λ r. layers_and_count v way r (λ m c. reads want.Digest (λ d. next (Pruned (part_of r m c (bytes_in d)))))) s
    place (layers ++ (tally ++ (x.digest ++ rest))) (field.Rect x.rect) square
    (rect_value x.rect fine.ordered fine.coordinates) regrouped (omega arith) in
    let a = r.place in
    let t = layers_again v heeds e way
    (λ m c. reads want.Digest (λ d. next (Pruned (part_of x.rect m c (bytes_in d))))) r.end x (x.digest ++ rest) fine
    missed r.left (omega arith) in
    let b = t.place in
    let d = reads_again heeds e want.Digest bytes_in
    (λ d. next (Pruned (part_of x.rect x.mask x.count d))) t.end
    x.digest rest (field.Digest x.digest) fine.digest (digest_value x.digest) t.left (omega arith) in
    let c = d.place in
    record { end = d.end; left = d.left; place = omega arith; same = r.same ∙ t.same ∙ d.same }

-- an item that is spelled, and tight where notes are heeded, is read again
abbrev ItemsAgain : {A B : Type 0} → Version → Bool → (A → Cursor → Result B Fault) → (Key → Way) → ℕ
    → ((Cut → Grammar A) → Grammar A) → Type 0
ItemsAgain {A} {B} v heeds e way l one =
    (next : Cut → Grammar A) (s : Cursor) (P : Cut) (rest : List ℕ) → FitsCut v l P → Passes v heeds way P
    → s.rest ≡ cut_bytes v P ++ rest → s.at + length (cut_bytes v P) ≤ place_limit
    → Comes heeds e (one next) (next P) s (cut_bytes v P) rest

items_again : {A B : Type 0} (v : Version) (heeds : Bool) (e : A → Cursor → Result B Fault) (way : Key → Way) (l : ℕ)
    (one : (Cut → Grammar A) → Grammar A) → ItemsAgain v heeds e way l one
    → (next : Cuts → Grammar A) (s : Cursor) (Ps : Cuts) (n : ℕ) (rest : List ℕ) → number_of_cuts Ps ≡ n
    → FitCuts v l Ps
    → (heeds ≡ true → AreTightCuts v way Ps) → s.rest ≡ cuts_bytes v Ps ++ rest
    → s.at + length (cuts_bytes v Ps) ≤ place_limit
    → Comes heeds e (some_items one n next) (next Ps) s (cuts_bytes v Ps) rest
items_again v heeds e way l one again next s no_more zero rest count fit tight parts within =
    comes_none heeds e (next no_more) s rest parts
items_again v heeds e way l one again next s no_more (suc n) rest count fit tight parts within = absurd (omega arith)
items_again v heeds e way l one again next s (first P Ps) zero rest count fit tight parts within = absurd (omega arith)
items_again v heeds e way l one again next s (first P Ps) (suc n) rest count fit tight parts within =
    let size = length-append (cut_bytes v P) (cuts_bytes v Ps) in
    let a = again (λ P. some_items one n (λ Ps. next (first P Ps))) s P (cuts_bytes v Ps ++ rest) fit.0
    (λ h. (tight h).0)
    (parts ∙ append_assoc (cut_bytes v P) (cuts_bytes v Ps) rest) (omega arith) in
    let p = a.place in
    let b = items_again v heeds e way l one again (λ Ps. next (first P Ps)) a.end Ps n rest (omega arith) fit.1
    (λ h. (tight h).1) a.left (omega arith) in
    comes_both heeds e (some_items one (suc n) next) (some_items one n (λ Ps. next (first P Ps))) (next (first P Ps)) s
    (cut_bytes v P) (cuts_bytes v Ps) rest a b

inner_again : {A B : Type 0} (v : Version) (heeds : Bool) (e : A → Cursor → Result B Fault) (way : Key → Way) (l : ℕ)
    (one : (Cut → Grammar A) → Grammar A) → ItemsAgain v heeds e way l one
    → (next : Cut → Grammar A) (s : Cursor) (Ps : Cuts) (rest : List ℕ) → FitsInner (suc l) (number_of_cuts Ps) →
    FitCuts v l Ps
    → Passes v heeds way (Inner Ps)
    → s.rest ≡ tail v (Inner Ps) ++ rest → s.at + length (tail v (Inner Ps)) ≤ place_limit
    → Comes heeds e (inner v way one next) (next (Inner Ps)) s (tail v (Inner Ps)) rest
inner_again v heeds e way l one again next s Ps rest fine fit tight parts within =
    let n = reads_again heeds e want.InnerCount number_in (λ n. some_items one n (λ Ps. opened v way (Inner Ps) next))
    s (number_of_cuts Ps ∷ []) (cuts_bytes v Ps ++ rest) (field.Num (number_of_cuts Ps)) refl
    (inner_count_value (number_of_cuts Ps) fine.some fine.few) parts (omega arith) in
    let a = n.place in
    let all = items_again v heeds e way l one again (λ Ps. opened v way (Inner Ps) next) n.end Ps
    (number_of_cuts Ps) rest refl fit (λ h. (tight h).1) n.left (omega arith) in
    let b = all.place in
    let met = note_again heeds e rule.Needless (opens_seen way (key_of v (Inner Ps))) (next (Inner Ps)) all.end rest
    (λ h. (tight h).0) all.left in
    let c = met.place in
    record { end = met.end; left = met.left; place = omega arith; same = n.same ∙ all.same ∙ met.same }

inner_tag_is : (l : ℕ) → inner_tag ≡ opened_tag (suc l)
inner_tag_is l = rw (eqb-suc-zero l) refl

item_again : {A B : Type 0} (v : Version) (heeds : Bool) (e : A → Cursor → Result B Fault) (way : Key → Way) (l : ℕ)
    → ItemsAgain v heeds e way l (item v way l)
item_again v heeds e way zero next s (Pruned x) rest fit tight parts within =
    let t = reads_again heeds e (want.Tag 0) tag_in
    (λ b. if b == pruned_tag then pruned v way next else leaf v way next) s (pruned_tag ∷ [])
    (tail v (Pruned x) ++ rest) (field.Tag pruned_tag) refl (tag_value 0 pruned_tag (inl refl)) parts (omega arith) in
    let a = t.place in
    comes_both heeds e (item v way 0 next) (pruned v way next) (next (Pruned x)) s (pruned_tag ∷ [])
    (tail v (Pruned x)) rest t (pruned_again v heeds e way next t.end x rest fit tight t.left (omega arith))
item_again v heeds e way zero next s (Leaf rs) rest fit tight parts within =
    let t = reads_again heeds e (want.Tag 0) tag_in
    (λ b. if b == pruned_tag then pruned v way next else leaf v way next) s (leaf_tag ∷ [])
    (tail v (Leaf rs) ++ rest) (field.Tag leaf_tag) refl (tag_value 0 leaf_tag (inr refl)) parts (omega arith) in
    let a = t.place in
    comes_both heeds e (item v way 0 next) (leaf v way next) (next (Leaf rs)) s (leaf_tag ∷ [])
    (tail v (Leaf rs)) rest t (leaf_again v heeds e way next t.end rs rest fit tight t.left (omega arith))
item_again v heeds e way zero next s (Inner Ps) rest fit tight parts within =
    let above = fit.0.above in absurd (omega arith)
item_again v heeds e way (suc l) next s (Pruned x) rest fit tight parts within =
    let t = reads_again heeds e (want.Tag (suc l))
    tag_in (λ b. if b == pruned_tag then pruned v way next else inner v way (item v way l) next) s
    (pruned_tag ∷ []) (tail v (Pruned x) ++ rest) (field.Tag pruned_tag) refl
    (tag_value (suc l) pruned_tag (inl refl)) parts (omega arith) in
    let a = t.place in
    comes_both heeds e (item v way (suc l) next) (pruned v way next) (next (Pruned x)) s (pruned_tag ∷ [])
    (tail v (Pruned x)) rest t (pruned_again v heeds e way next t.end x rest fit tight t.left (omega arith))
item_again v heeds e way (suc l) next s (Leaf rs) rest fit tight parts within =
    let level = fit.at_leaf in absurd (omega arith)
item_again v heeds e way (suc l) next s (Inner Ps) rest fit tight parts within =
    let t = reads_again heeds e (want.Tag (suc l))
    tag_in (λ b. if b == pruned_tag then pruned v way next else inner v way (item v way l) next) s
    (inner_tag ∷ []) (tail v (Inner Ps) ++ rest) (field.Tag inner_tag) refl
    (tag_value (suc l) inner_tag (inr (inner_tag_is l))) parts (omega arith) in
    let a = t.place in
    let below : suc l - 1 ≡ l = omega arith in
    let inside = subst (λ (k : ℕ). FitCuts v k Ps) below fit.1 in
    comes_both heeds e (item v way (suc l) next) (inner v way (item v way l) next) (next (Inner Ps)) s
    (inner_tag ∷ []) (tail v (Inner Ps)) rest t
    (inner_again v heeds e way l (item v way l)
    (item_again v heeds e way l) next t.end Ps rest fit.0 inside tight t.left (omega arith))

-- ---- the head

level_by : {A B : Type 0} (heeds : Bool) (e : A → Cursor → Result B Fault) (count : ℕ) (none : Bool) → eqb count 0
    ≡ none
    → (next : ℕ → Grammar A) (s : Cursor) (l : ℕ) (rest : List ℕ) → l ≤ level_limit → (count ≡ 0 → l ≡ 0)
    → s.rest ≡ level_bytes count l ++ rest → s.at + length (level_bytes count l) ≤ place_limit
    → Comes heeds e (level count next) (next l) s (level_bytes count l) rest
level_by heeds e count true is next s l rest le empty parts within =
    let zero_level : l ≡ 0 = empty (eqb-true count 0 is) in
    let nothing : level_bytes count l ≡ [] = rw is refl in
    record {
      end = s;
      left = parts ∙ ap (λ (x : List ℕ). x ++ rest) nothing;
      place = omega (arith, ap length nothing);
      same = rw (is, zero_level) refl;
    }
level_by heeds e count false is next s l rest le empty parts within =
    let one : level_bytes count l ≡ l ∷ [] = rw is refl in
    let size : length (level_bytes count l) ≡ 1 = ap length one in
    let x = reads_again heeds e want.Level number_in next s (l ∷ []) rest (field.Num l) refl (level_value l le)
    (parts ∙ ap (λ (y : List ℕ). y ++ rest) one) (omega arith) in
    let p = x.place in
    let there : walk heeds e (level count next) s ≡ walk heeds e
    (reads want.Level (λ l. next (number_in l))) s = rw is refl in
    record { end = x.end; left = x.left; place = omega arith; same = there ∙ x.same }

level_again : {A B : Type 0} (heeds : Bool) (e : A → Cursor → Result B Fault) (count : ℕ) (next : ℕ → Grammar A)
    (s : Cursor) (l : ℕ) (rest : List ℕ) → l ≤ level_limit → (count ≡ 0 → l ≡ 0)
    → s.rest ≡ level_bytes count l ++ rest → s.at + length (level_bytes count l) ≤ place_limit
    → Comes heeds e (level count next) (next l) s (level_bytes count l) rest
level_again heeds e count next s l rest le empty parts within =
    level_by heeds e count (eqb count 0) refl next s l rest le empty parts within

radius_again : {A B : Type 0} (heeds : Bool) (e : A → Cursor → Result B Fault) (k : Kind) (next : Option ℕ → Grammar A)
    (s : Cursor) (r : Option ℕ) (rest : List ℕ) → FitsRadius k r
    → s.rest ≡ radius_bytes k r ++ rest → s.at + length (radius_bytes k r) ≤ place_limit
    → Comes heeds e (radius k next) (next r) s (radius_bytes k r) rest
radius_again heeds e kind.W next s r rest fits parts within =
    subst (λ (r : Option ℕ). Comes heeds e (next None) (next r) s [] rest) (sym fits)
    (comes_none heeds e (next None) s rest parts)
radius_again heeds e (kind.Choice letter) next s r rest fits parts within =
    subst (λ (r : Option ℕ). Comes heeds e (next None) (next r) s [] rest) (sym fits)
    (comes_none heeds e (next None) s rest parts)
radius_again heeds e kind.K next s None rest fits parts within =
    reads_again heeds e want.Flag number_in (λ f. if f == 0 then next None else reads want.Radius
    (λ r. next (Some (wide_in r)))) s (0 ∷ []) rest (field.Num 0) refl (flag_value 0 (omega arith)) parts within
radius_again heeds e kind.K next s (Some r) rest fits parts within =
    let f = reads_again heeds e want.Flag number_in
    (λ f. if f == 0 then next None else reads want.Radius (λ r. next (Some (wide_in r)))) s (1 ∷ [])
    (to_be_bytes w128 r ++ rest) (field.Num 1) refl (flag_value 1 (omega arith)) parts (omega arith) in
    let a = f.place in
    let w = reads_again heeds e want.Radius wide_in (λ r. next (Some r)) f.end (to_be_bytes w128 r) rest (field.Wide r)
    (wide_long r) (radius_value r fits) f.left (omega arith) in
    comes_both heeds e (radius kind.K next) (reads want.Radius (λ r. next (Some (wide_in r)))) (next (Some r)) s
    (1 ∷ []) (to_be_bytes w128 r) rest f w

-- of a field that says nothing more than that it is right
abbrev no_value : Field → Unit {0}
no_value f = tt

-- what stands before the batch
abbrev opening_bytes : Version → Kind → List ℕ
opening_bytes v k = magic ++ version_byte v ∷ kind_byte k ∷ []

-- a version that may come has a byte that may
byte_comes : (two_only : Bool) (v : Version) → (v ≡ One → two_only ≡ false) → IsVersionByte two_only (version_byte v)
byte_comes two_only One may = inr (may refl, refl)
byte_comes two_only Two may = inl refl

version_back : (v : Version) → version_in (field.Num (version_byte v)) ≡ v
version_back One = refl
version_back Two = refl

version_again : {A B : Type 0} (heeds : Bool) (e : A → Cursor → Result B Fault) (two_only : Bool) (v : Version)
    (next : Version → Grammar A) (s : Cursor) (rest : List ℕ) → (v ≡ One → two_only ≡ false)
    → s.rest ≡ version_byte v ∷ rest → s.at + 1 ≤ place_limit
    → Comes heeds e (reads (want.Version two_only) (λ f. next (version_in f))) (next v) s (version_byte v ∷ []) rest
version_again heeds e two_only v next s rest may parts within =
    subst (λ (u : Version). Comes heeds e (reads (want.Version two_only) (λ f. next (version_in f))) (next u) s
    (version_byte v ∷ []) rest) (version_back v)
    (reads_again heeds e (want.Version two_only) version_in next s (version_byte v ∷ []) rest
    (field.Num (version_byte v)) refl (version_value two_only (version_byte v) (byte_comes two_only v may)) parts
    within)

opening_again : {A B : Type 0} (heeds : Bool) (e : A → Cursor → Result B Fault) (two_only : Bool) (v : Version)
    (k : Kind) (g : Version → Grammar A) (s : Cursor) (rest : List ℕ) → (v ≡ One → two_only ≡ false)
    → s.rest ≡ opening_bytes v k ++ rest → s.at + 6 ≤ place_limit
    → Comes heeds e
    (reads want.Magic (λ _. reads (want.Version two_only) (λ f. reads (want.Kind k) (λ _. g (version_in f))))) (g v) s
    (opening_bytes v k) rest
opening_again heeds e two_only v k g s rest may parts within =
    let m = reads_again heeds e want.Magic no_value
    (λ _. reads (want.Version two_only) (λ f. reads (want.Kind k) (λ _. g (version_in f)))) s magic
    (version_byte v ∷ kind_byte k ∷ rest) field.Plain refl magic_value parts (omega arith) in
    let m1 = m.place in
    let x = version_again heeds e two_only v (λ v. reads (want.Kind k) (λ _. g v)) m.end
    (kind_byte k ∷ rest) may m.left (omega arith) in
    let x1 = x.place in
    let b = reads_again heeds e (want.Kind k) no_value (λ _. g v) x.end (kind_byte k ∷ []) rest field.Plain refl
    (kind_value k) x.left (omega arith) in
    let b1 = b.place in
    let mv : walk heeds e
    (reads want.Magic (λ _. reads (want.Version two_only) (λ f. reads (want.Kind k) (λ _. g (version_in f))))) s
    ≡ walk heeds e (reads (want.Kind k) (λ _. g v)) x.end = m.same ∙ x.same in
    record { end = b.end; left = b.left; place = omega arith; same = mv ∙ b.same }

-- the bytes of a radius and a level
abbrev last_bytes : Kind → Option ℕ → ℕ → ℕ → List ℕ
last_bytes k r c l = radius_bytes k r ++ level_bytes c l

last_again : {A B : Type 0} (heeds : Bool) (e : A → Cursor → Result B Fault) (k : Kind)
    (made : Option ℕ → ℕ → Grammar A)
    (s : Cursor) (r : Option ℕ) (c l : ℕ) (rest : List ℕ) → FitsRadius k r → l ≤ level_limit → (c ≡ 0 → l ≡ 0)
    → s.rest ≡ last_bytes k r c l ++ rest → s.at + length (last_bytes k r c l) ≤ place_limit
    → Comes heeds e (radius k (λ r. level c (made r))) (made r l) s (last_bytes k r c l) rest
last_again heeds e k made s r c l rest fits low empty parts within =
    let size = length-append (radius_bytes k r) (level_bytes c l) in
    let x = radius_again heeds e k (λ r. level c (made r)) s r (level_bytes c l ++ rest) fits
    (parts ∙ append_assoc (radius_bytes k r) (level_bytes c l) rest) (omega arith) in
    let x1 = x.place in
    let y = level_again heeds e c (made r) x.end l rest low empty x.left (omega arith) in
    comes_both heeds e (radius k (λ r. level c (made r))) (level c (made r)) (made r l) s (radius_bytes k r)
    (level_bytes c l) rest x y

counts_again : {A B : Type 0} (heeds : Bool) (e : A → Cursor → Result B Fault) (k : Kind)
    (made : ℕ → Option ℕ → ℕ → Grammar A) (s : Cursor) (r : Option ℕ) (c l : ℕ) (rest : List ℕ) → c ≤ count_limit
    → FitsRadius k r → l ≤ level_limit → (c ≡ 0 → l ≡ 0)
    → s.rest ≡ (to_be_bytes w64 c ++ last_bytes k r c l) ++ rest
    → s.at + (8 + length (last_bytes k r c l)) ≤ place_limit
    → Comes heeds e (reads want.Count (λ f. radius k (λ r. level (number_in f) (made (number_in f) r)))) (made c r l) s
    (to_be_bytes w64 c ++ last_bytes k r c l) rest
counts_again heeds e k made s r c l rest few fits low empty parts within =
    let x = reads_again heeds e want.Count number_in (λ c. radius k (λ r. level c (made c r))) s (to_be_bytes w64 c)
    (last_bytes k r c l ++ rest) (field.Num c) (word_long c) (count_value c few)
    (parts ∙ append_assoc (to_be_bytes w64 c) (last_bytes k r c l) rest) (omega arith) in
    let x1 = x.place in
    let y = last_again heeds e k (made c) x.end r c l rest fits low empty x.left (omega arith) in
    comes_both heeds e (reads want.Count (λ f. radius k (λ r. level (number_in f) (made (number_in f) r))))
    (radius k (λ r. level c (made c r))) (made c r l) s (to_be_bytes w64 c) (last_bytes k r c l) rest x y

-- the bytes behind the kind
abbrev number_bytes : Kind → Option ℕ → ℕ → ℕ → ℕ → List ℕ
number_bytes k r b c l = to_be_bytes w64 b ++ (to_be_bytes w64 c ++ last_bytes k r c l)

numbers_again : {A B : Type 0} (heeds : Bool) (e : A → Cursor → Result B Fault) (k : Kind)
    (made : ℕ → ℕ → Option ℕ → ℕ → Grammar A) (s : Cursor) (r : Option ℕ) (b c l : ℕ) (rest : List ℕ) → b < 2 ^ 64
    → c ≤ count_limit → FitsRadius k r → l ≤ level_limit → (c ≡ 0 → l ≡ 0)
    → s.rest ≡ number_bytes k r b c l ++ rest → s.at + (8 + (8 + length (last_bytes k r c l))) ≤ place_limit
    → Comes heeds e (reads want.Batch (λ f. reads want.Count
    (λ g. radius k (λ r. level (number_in g) (made (number_in f) (number_in g) r))))) (made b c r l) s
    (number_bytes k r b c l) rest
numbers_again heeds e k made s r b c l rest small few fits low empty parts within =
    let x = reads_again heeds e want.Batch number_in
    (λ b. reads want.Count (λ g. radius k (λ r. level (number_in g) (made b (number_in g) r)))) s
    (to_be_bytes w64 b) ((to_be_bytes w64 c ++ last_bytes k r c l) ++ rest) (field.Num b) (word_long b)
    (batch_value b small) (parts ∙ append_assoc (to_be_bytes w64 b) (to_be_bytes w64 c ++ last_bytes k r c l) rest)
    (omega arith) in
    let x1 = x.place in
    let y = counts_again heeds e k (made b) x.end r c l rest few fits low empty x.left (omega arith) in
    comes_both heeds e (reads want.Batch (λ f. reads want.Count
    (λ g. radius k (λ r. level (number_in g) (made (number_in f) (number_in g) r)))))
    (reads want.Count (λ g. radius k (λ r. level (number_in g) (made b (number_in g) r)))) (made b c r l) s
    (to_be_bytes w64 b) (to_be_bytes w64 c ++ last_bytes k r c l) rest x y

abbrev made_by : {A : Type 0} → (Head → Grammar A) → Version → Kind → ℕ → ℕ → Option ℕ → ℕ → Grammar A
made_by next v k b c r l = next (head_of v k b c r l)

head_long : (h : Head) → length (head_bytes h) ≡ 6 + (8 + (8 + length (last_bytes h.kind h.radius h.count h.level)))
head_long h =
    let last = last_bytes h.kind h.radius h.count h.level in
    omega (
      arith,
      length-append (to_be_bytes w64 h.batch) (to_be_bytes w64 h.count ++ last),
      length-append
          (to_be_bytes w64 h.count) last,
      word_long h.batch,
      word_long h.count,
    )

head_again : {A B : Type 0} (heeds : Bool) (e : A → Cursor → Result B Fault) (two_only : Bool) (next : Head → Grammar A)
    (s : Cursor) (h : Head) (rest : List ℕ) → (h.version ≡ One → two_only ≡ false) → FitsProofHead h
    → s.rest ≡ head_bytes h ++ rest → s.at + length (head_bytes h) ≤ place_limit
    → Comes heeds e (head h.kind two_only next) (next h) s (head_bytes h) rest
head_again heeds e two_only next s h rest may fine parts within =
    let numbers = number_bytes h.kind h.radius h.batch h.count h.level in
    let g = λ (v : Version). reads want.Batch (λ f. reads want.Count
    (λ g. radius h.kind (λ r. level (number_in g) (made_by next v h.kind (number_in f) (number_in g) r)))) in
    let size = head_long h in
    let a = opening_again heeds e two_only h.version h.kind g s (numbers ++ rest) may parts (omega arith) in
    let p = a.place in
    let b = numbers_again heeds e h.kind (made_by next h.version h.kind) a.end h.radius h.batch h.count h.level rest
    fine.batch fine.count fine.radius fine.level fine.empty a.left (omega arith) in
    comes_both heeds e (head h.kind two_only next) (g h.version) (next h) s (opening_bytes h.version h.kind) numbers
    rest a b

-- ---- the whole

part_again : {B : Type 0} (heeds : Bool) (e : Parsed → Cursor → Result B Fault) (way : Option ℕ → Key → Way)
    (h : Head) (P : Option Cut) (s : Cursor) → FitsPart h P
    → (heeds ≡ true → IfSome P (IsTightCut h.version (way h.radius)))
    → s.rest ≡ part_bytes h.version P → s.at + length (part_bytes h.version P) ≤ place_limit
    → Comes heeds e (part way h) (done (said h P)) s (part_bytes h.version P) []
part_again heeds e way h None s fit tight parts within =
    let none : eqb h.count 0 ≡ true = eq-eqb h.count 0 fit in
    subst (λ (c : Bool). Comes heeds e (if c then done (said h None) else item h.version (way h.radius) h.level
    (λ P. done (said h (Some P)))) (done (said h None)) s [] []) (sym none)
    (comes_none heeds e (done (said h None)) s [] parts)
part_again heeds e way h (Some P) s fit tight parts within =
    let v = h.version in
    let filled = fit.0 in
    let some : eqb h.count 0 ≡ false = ne_eqb h.count 0 (λ z. omega arith) in
    subst (λ (c : Bool). Comes heeds e (if c then done (said h None) else item v (way h.radius) h.level
    (λ P. done (said h (Some P)))) (done (said h (Some P))) s (cut_bytes v P) []) (sym some)
    (item_again v heeds e (way h.radius) h.level (λ P. done (said h (Some P))) s P [] fit.1 tight
    (parts ∙ sym (append-nil (cut_bytes v P))) within)

-- what is spelled, of a version that may come, and tight where notes are heeded, is read again, by any ending
pub whole_again : {B : Type 0} (heeds : Bool) (e : Parsed → Cursor → Result B Fault) (two_only : Bool)
    (way : Option ℕ → Key → Way) (bytes : List ℕ) (h : Head) (P : Option Cut) → (h.version ≡ One → two_only ≡ false)
    → IsSpelled h P bytes → (heeds ≡ true → IfSome P (IsTightCut h.version (way h.radius)))
    → Comes heeds e (whole h.kind two_only way) (done (said h P)) (start bytes)
    (head_bytes h ++ part_bytes h.version P) []
whole_again heeds e two_only way bytes h P may spelled tight =
    let cut = part_bytes h.version P in
    let size : length bytes ≡ length (head_bytes h) + length cut = ap length spelled.whole
    ∙ length-append (head_bytes h) cut in
    let short = spelled.short in
    let none = append-nil cut in
    let parts : bytes ≡ head_bytes h ++ (cut ++ []) = spelled.whole
    ∙ ap (λ (x : List ℕ). head_bytes h ++ x) (sym none) in
    let a = head_again heeds e two_only (part way) (start bytes) h (cut ++ []) may spelled.head parts (omega arith) in
    let p = a.place in
    let b = part_again heeds e way h P a.end spelled.part tight (a.left ∙ none) (omega arith) in
    comes_both heeds e (whole h.kind two_only way) (part way h) (done (said h P)) (start bytes) (head_bytes h)
    cut [] a b

ending_again : (hash : List ℕ → List ℕ) (root : List ℕ) (a : Question) (x : Parsed) (s : Cursor) → s.rest ≡ []
    → root_found hash x.head x.part ≡ root → has_other_radius a.around x.head.radius (opened_records x.part) ≡ false
    → has_other_count x ≡ false → ending hash root a x s ≡ Ok x
unfolding ending
ending_again hash root a x s left same right counted =
    rw (left, bytes_same (root_found hash x.head x.part) root same, right, counted) refl

-- what bytes show is accepted
pub checked_from : (hash : List ℕ → List ℕ) (root : List ℕ) (a : Question) (bytes : List ℕ) (y : Parsed)
    → IsLawful a → (p : ShowsCut hash root a bytes y) → checked hash root a bytes ≡ Ok y
unfolding checked
checked_from hash root a bytes y law p =
    let x = whole_again true (ending hash root a) a.two_only a.way bytes y.head y.part
    (either_comes a y.head.version p.version) p.spelled (λ _. p.tight.parts) in
    let of_kind : walk true (ending hash root a) (whole y.head.kind a.two_only a.way) (start bytes) ≡ Ok y =
    x.same ∙ ending_again hash root a y x.end x.left p.held
    (radius_stands a y.head.radius (opened_records y.part) law p.tight.radius)
    (count_stands y.head y.part p.tight.counted) in
    subst (λ (k : Kind). walk true (ending hash root a) (whole k a.two_only a.way) (start bytes) ≡ Ok y) p.kind of_kind

pub verdict_from : (hash : List ℕ → List ℕ) (root : List ℕ) (q : Query) (bytes : List ℕ) (answer : List Record)
    → IsQuery q → ProvesAnswer hash root q bytes answer → verdict hash root q bytes ≡ Ok answer
unfolding verdict
verdict_from hash root q bytes answer is p =
    rw (checked_from hash root (question q) bytes p.said (is_lawful q is) p.shows)
    (ap (λ (x : List Record). Ok x) (sym p.scanned))
