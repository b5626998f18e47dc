-- Bytes, records and cuts taken from the front of what is left.
use Rattle.std.proofs.Common.{◌≡◌, ℕ, zero, suc, ◌+◌, ◌≤◌, ◌<◌, List, [], ◌∷◌, ◌++◌, length, map, take, drop, refl, sym, ap, subst, ◌∙◌, append_assoc, arith}
use Rattle.std.specs.Prelude.{All, Option, Some, None, bit_or}
use Rattle.std.specs.Int.{w64, w128, to_be_bytes}
use Rattle.std.specs.List.{flat_map, AllByRecursion}
use Rattle.std.proofs.lemmas.List.Elements.{recursion_from_All}
use Rattle.std.proofs.lemmas.Nat.{or_comm}
use Rattle.std.proofs.Math.Seq.{take-append_seam}
use Rattle.mr_geom.specs.Rectangle.{Rectangle, join}
use Rattle.mr_geom.proofs.Rectangles.{join_assoc, join_none, fold_join}
use Rattle.mr_record.specs.Record.{IsRecord, HasLayer, record_bytes, rectangle_bytes, layer_bytes}
use Rattle.mr_record.specs.Version.{told}
use Rattle.mr_record.specs.declared.version.Version.{Version}
use Rattle.mr_record.specs.declared.record.Record.{Record}
use Rattle.mr_tree.specs.Tree.{rect_step, mask_step, layer_bit}
use Rattle.mr_tree.specs.Digest.{Scheme, word_bytes}
use Rattle.mr_tree.proofs.Masks.{or_assoc, mask_of-cons}
use Rattle.mr_tree.specs.declared.tree.Tree.TheOpen as node
use Rattle.mr_tree.specs.declared.entry.Entry.{Entry}
use Rattle.mr_proof.specs.declared.head.Kind.TheVariants as kind
use Rattle.mr_proof.specs.Cut.{Cut, Cuts, no_more, first, number_of_cuts, entry, entries}
use Rattle.mr_proof.specs.declared.pruned_entry.PrunedEntry.{PrunedEntry}
use Rattle.mr_proof.specs.Spelling.{shown_bytes, cut_bytes, cuts_bytes, radius_bytes, FitsCut, FitCuts}
use Rattle.mr_proof.proofs.CutLevels.{length-entries}
use Rattle.mr_clash.specs.private.Steps.{record_summary, leaf_summary, Passed, PassedAll}
use Rattle.mr_clash.specs.declared.summary.Summary.{Summary}

pub take_front : (n : ℕ) (x rest : List ℕ) → length x ≡ n → take n (x ++ rest) ≡ x
take_front n x rest e = subst (λ k. take k (x ++ rest) ≡ x) e (take-append_seam x rest)

take-all : {X : Type 0} (i : ℕ) (xs : List X) → length xs ≤ i → take i xs ≡ xs
take-all zero [] le = refl
take-all (suc i) [] le = refl
take-all zero (x ∷ xs) le = absurd (omega arith)
take-all (suc i) (x ∷ xs) le = ap (λ ys. x ∷ ys) (take-all i xs (omega arith))

drop-all : {X : Type 0} (i : ℕ) (xs : List X) → length xs ≤ i → drop i xs ≡ []
drop-all zero [] le = refl
drop-all (suc i) [] le = refl
drop-all zero (x ∷ xs) le = absurd (omega arith)
drop-all (suc i) (x ∷ xs) le = drop-all i xs (omega arith)

-- ---- records

-- the bytes of a record, field by field
fields : (number rect layer payload rest : List ℕ) (size : ℕ)
    → (number ++ rect ++ layer ++ size ∷ payload) ++ rest
    ≡ number ++ (rect ++ (layer ++ (size ∷ (payload ++ rest))))
fields number rect layer payload rest size =
    append_assoc (number ++ rect ++ layer) (size ∷ payload) rest
    ∙ append_assoc (number ++ rect) layer (size ∷ (payload ++ rest))
    ∙ append_assoc number rect (layer ++ (size ∷ (payload ++ rest)))

pub record_fields : (v : Version) (r : Record) (rest : List ℕ) → record_bytes v r ++ rest
    ≡ to_be_bytes w64 r.number
    ++ (rectangle_bytes r.rect ++ (layer_bytes v r.layer ++ (length r.payload ∷ (r.payload ++ rest))))
unfolding record_bytes
record_fields v r rest =
    fields (to_be_bytes w64 r.number) (rectangle_bytes r.rect) (layer_bytes v r.layer) r.payload rest (length r.payload)

-- so many of them were passed over, with this rectangle round them and this mask of their layers
pub record PassedRecords (v : Version) (rs : List Record) (rest : List ℕ) (i : ℕ) (rect : Option Rectangle) (mask : ℕ)
    (bytes : List ℕ) : Type 0 where
  pub round : rect_step (node.Leaf rs) ≡ join rect (rect_step (node.Leaf (drop i rs)))
  pub layers : mask_step v (node.Leaf rs) ≡ bit_or mask (mask_step v (node.Leaf (drop i rs)))
  pub left_is : bytes ≡ flat_map (record_bytes v) (drop i rs) ++ rest

-- the record at this place
pub record NextRecord (v : Version) (rs : List Record) (rest : List ℕ) (i : ℕ) (bytes : List ℕ) : Type 0 where
  pub one : Record
  pub is : IsRecord one
  pub layer : HasLayer v one
  pub more : drop i rs ≡ one ∷ drop (i + 1) rs
  pub here : bytes ≡ record_bytes v one ++ (flat_map (record_bytes v) (drop (i + 1) rs) ++ rest)

record Next (v : Version) (rs : List Record) (i : ℕ) : Type 0 where
  one : Record
  is : IsRecord one
  layer : HasLayer v one
  more : drop i rs ≡ one ∷ drop (suc i) rs

next : (v : Version) (rs : List Record) (i : ℕ) → i < length rs → AllByRecursion IsRecord rs
    → AllByRecursion (HasLayer v) rs → Next v rs i
next v [] i lt all low = absurd (omega arith)
next v (r ∷ rs) zero lt all low = record { one = r; is = all.0; layer = low.0; more = refl }
next v (r ∷ rs) (suc i) lt all low =
    let n = next v rs i (omega arith) all.1 low.1 in
    record { one = n.one; is = n.is; layer = n.layer; more = n.more }

pub next_record : (v : Version) (rs : List Record) (rest : List ℕ) (i : ℕ) (bytes : List ℕ) → i < length rs
    → All IsRecord rs → All (HasLayer v) rs → bytes ≡ flat_map (record_bytes v) (drop i rs) ++ rest
    → NextRecord v rs rest i bytes
next_record v rs rest i bytes lt all low e =
    let n = next v rs i lt (recursion_from_All IsRecord rs all) (recursion_from_All (HasLayer v) rs low) in
    let plus : suc i ≡ i + 1 = omega arith in
    let more : drop i rs ≡ n.one ∷ drop (i + 1) rs = n.more ∙ ap (λ k. n.one ∷ drop k rs) plus in
    record {
      one = n.one;
      is = n.is;
      layer = n.layer;
      more = more;
      here = e ∙ ap (λ xs. flat_map (record_bytes v) xs ++ rest) more
          ∙ append_assoc (record_bytes v n.one) (flat_map (record_bytes v) (drop (i + 1) rs)) rest;
    }

round_first : (r : Record) (rs : List Record)
    → rect_step (node.Leaf (r ∷ rs)) ≡ join (Some r.rect) (rect_step (node.Leaf rs))
round_first r rs = fold_join (Some r.rect) (map (λ (r : Record). Some r.rect) rs)

layers_first : (v : Version) (r : Record) (rs : List Record)
    → mask_step v (node.Leaf (r ∷ rs)) ≡ bit_or (layer_bit v r) (mask_step v (node.Leaf rs))
layers_first v r rs = mask_of-cons (layer_bit v r) (map (layer_bit v) rs)

-- one more was passed over
pub record_more : (v : Version) (rs : List Record) (rest : List ℕ) (i : ℕ) (rect more : Option Rectangle)
    (mask bits : ℕ) (one : Summary) (bytes after : List ℕ) → PassedRecords v rs rest i rect mask bytes
    → (n : NextRecord v rs rest i bytes) → one ≡ record_summary v n.one → more ≡ join rect one.rect
    → bits ≡ bit_or mask one.mask → after ≡ flat_map (record_bytes v) (drop (i + 1) rs) ++ rest
    → PassedRecords v rs rest (i + 1) more bits after
record_more v rs rest i rect more mask bits one bytes after so n is joined united behind =
    let others = rect_step (node.Leaf (drop (i + 1) rs)) in
    let below = mask_step v (node.Leaf (drop (i + 1) rs)) in
    record {
      round = so.round ∙ ap (λ xs. join rect (rect_step (node.Leaf xs))) n.more
          ∙ ap (join rect) (round_first n.one (drop (i + 1) rs)) ∙ sym (join_assoc rect (Some n.one.rect) others)
          ∙ ap (λ o. join o others) (sym (joined ∙ ap (λ (x : Summary). join rect x.rect) is));
      layers = so.layers ∙ ap (λ xs. bit_or mask (mask_step v (node.Leaf xs))) n.more
          ∙ ap (bit_or mask) (layers_first v n.one (drop (i + 1) rs))
          ∙ sym (or_assoc mask (layer_bit v n.one) below)
          ∙ ap (λ m. bit_or m below) (sym (united ∙ ap (λ (x : Summary). bit_or mask x.mask) is));
      left_is = behind;
    }

-- all of them were passed over
pub all_records : (v : Version) (rs : List Record) (rest : List ℕ) (i : ℕ) (rect : Option Rectangle) (mask count : ℕ)
    (bytes : List ℕ) → length rs ≤ i → PassedRecords v rs rest i rect mask bytes → count ≡ told v (length rs)
    → (record { rect = rect; mask = mask; count = count } ≡ leaf_summary v rs) × (bytes ≡ rest)
all_records v rs rest i rect mask count bytes le so counted =
    let none = drop-all i rs le in
    let round : rect ≡ rect_step (node.Leaf rs) =
    sym (so.round ∙ ap (λ xs. join rect (rect_step (node.Leaf xs))) none ∙ join_none rect) in
    let layers : mask ≡ mask_step v (node.Leaf rs) =
    sym (so.layers ∙ ap (λ xs. bit_or mask (mask_step v (node.Leaf xs))) none ∙ or_comm mask 0) in (
      λ j. record { rect = round j; mask = layers j; count = counted j },
      so.left_is ∙ ap (λ xs. flat_map (record_bytes v) xs ++ rest) none,
    )

-- ---- a pruned part

-- its bytes, field by field
pub shown_fields : (v : Version) (part : PrunedEntry) (rest : List ℕ) → shown_bytes v part ++ rest
    ≡ rectangle_bytes part.rect
    ++ (word_bytes v part.mask ++ (word_bytes v part.count ++ (part.digest ++ rest)))
shown_fields v part rest =
    let mask = word_bytes v part.mask in
    let count = word_bytes v part.count in
    append_assoc (rectangle_bytes part.rect) (mask ++ (count ++ part.digest)) rest
    ∙ ap (λ xs. rectangle_bytes part.rect ++ xs) (append_assoc mask (count ++ part.digest) rest
    ∙ ap (λ xs. mask ++ xs) (append_assoc count part.digest rest))

-- ---- a radius

-- a flag and a radius were passed over
pub radius_passed : (r : Option ℕ) (rest : List ℕ) (flag : ℕ) (before mid after : List ℕ)
    → before ≡ radius_bytes kind.K r ++ rest
    → ((x : ℕ) (behind : List ℕ) → before ≡ x ∷ behind → (flag ≡ x) × (mid ≡ behind)) → flag ≡ 1
    → ((x behind : List ℕ) → length x ≡ 16 → mid ≡ x ++ behind → after ≡ behind) → after ≡ rest
radius_passed None rest flag before mid after here byte one took =
    let t = byte 0 rest here in absurd (omega (arith, t.0, one))
radius_passed (Some n) rest flag before mid after here byte one took =
    let t = byte 1 (to_be_bytes w128 n ++ rest) here in took (to_be_bytes w128 n) rest refl t.1

-- a flag that says that there is none
pub flag_passed : (r : Option ℕ) (rest : List ℕ) (flag : ℕ) (before mid : List ℕ)
    → before ≡ radius_bytes kind.K r ++ rest
    → ((x : ℕ) (behind : List ℕ) → before ≡ x ∷ behind → (flag ≡ x) × (mid ≡ behind)) → (flag ≡ 1 → ⊥) → mid ≡ rest
flag_passed None rest flag before mid here byte none = (byte 0 rest here).1
flag_passed (Some n) rest flag before mid here byte none =
    absurd (none (byte 1 (to_be_bytes w128 n ++ rest) here).0)

-- ---- cuts

-- without the first ones
abbrev pub drop_cuts : ℕ → Cuts → Cuts
drop_cuts zero Ps = Ps
drop_cuts (suc i) no_more = no_more
drop_cuts (suc i) (first P Ps) = drop_cuts i Ps

pub record NextCut (scheme : Scheme) (w : ℕ) (Ps : Cuts) (i : ℕ) : Type 0 where
  pub cut : Cut
  pub fits : FitsCut scheme.version w cut
  pub here : drop_cuts i Ps ≡ first cut (drop_cuts (suc i) Ps)
  pub more : take (suc i) (entries scheme w Ps) ≡ take i (entries scheme w Ps)
      ++ entry scheme w cut ∷ []

pub next_cut : (scheme : Scheme) (w : ℕ) (Ps : Cuts) (i : ℕ) → i < number_of_cuts Ps → FitCuts scheme.version w Ps
    → NextCut scheme w Ps i
next_cut scheme w no_more i lt fits = absurd (omega arith)
next_cut scheme w (first P Ps) zero lt fits = record { cut = P; fits = fits.0; here = refl; more = refl }
next_cut scheme w (first P Ps) (suc i) lt fits =
    let n = next_cut scheme w Ps i (omega arith) fits.1 in
    record { cut = n.cut; fits = n.fits; here = n.here; more = ap (λ xs. entry scheme w P ∷ xs) n.more }

-- so many of them were passed over
pub record PassedSome (scheme : Scheme) (w : ℕ) (Ps : Cuts) (rest : List ℕ) (i : ℕ) (xs : List Entry)
    (bytes : List ℕ) : Type 0 where
  pub say : xs ≡ take i (entries scheme w Ps)
  pub left_is : bytes ≡ cuts_bytes scheme.version (drop_cuts i Ps) ++ rest

pub record NextItem (scheme : Scheme) (w : ℕ) (Ps : Cuts) (rest : List ℕ) (i : ℕ) (bytes : List ℕ)
    : Type 0 where
  pub cut : Cut
  pub fits : FitsCut scheme.version w cut
  pub here : bytes ≡ cut_bytes scheme.version cut ++ (cuts_bytes scheme.version (drop_cuts (i + 1) Ps) ++ rest)
  pub more : take (i + 1) (entries scheme w Ps) ≡ take i (entries scheme w Ps)
      ++ entry scheme w cut ∷ []

pub next_item : (scheme : Scheme) (w : ℕ) (Ps : Cuts) (rest : List ℕ) (i : ℕ) (bytes : List ℕ)
    → i < number_of_cuts Ps → FitCuts scheme.version w Ps → bytes ≡ cuts_bytes scheme.version (drop_cuts i Ps) ++ rest
    → NextItem scheme w Ps rest i bytes
next_item scheme w Ps rest i bytes lt fits e =
    let n = next_cut scheme w Ps i lt fits in
    let plus : suc i ≡ i + 1 = omega arith in
    record {
      cut = n.cut;
      fits = n.fits;
      here = e ∙ ap (λ Qs. cuts_bytes scheme.version Qs ++ rest) n.here
          ∙ append_assoc (cut_bytes scheme.version n.cut) (cuts_bytes scheme.version (drop_cuts (suc i) Ps)) rest
          ∙ ap (λ k. cut_bytes scheme.version n.cut ++ (cuts_bytes scheme.version (drop_cuts k Ps) ++ rest)) plus;
      more = ap (λ k. take k (entries scheme w Ps)) (sym plus) ∙ n.more;
    }

-- one more was passed over
pub passed_more : (scheme : Scheme) (w : ℕ) (Ps : Cuts) (rest : List ℕ) (i : ℕ) (xs more : List Entry)
    (bytes after : List ℕ) (x : Entry) → PassedSome scheme w Ps rest i xs bytes
    → (n : NextItem scheme w Ps rest i bytes)
    → Passed scheme w n.cut (cuts_bytes scheme.version (drop_cuts (i + 1) Ps) ++ rest) x after → more ≡ xs ++ x ∷ []
    → PassedSome scheme w Ps rest (i + 1) more after
passed_more scheme w Ps rest i xs more bytes after x so n one pushed = record {
  say = pushed ∙ (λ j. so.say j ++ one.says j ∷ []) ∙ sym n.more;
  left_is = one.behind;
}

pub drop_all : (Ps : Cuts) (i : ℕ) → number_of_cuts Ps ≤ i → drop_cuts i Ps ≡ no_more
drop_all no_more zero le = refl
drop_all no_more (suc i) le = refl
drop_all (first P Ps) zero le = absurd (omega arith)
drop_all (first P Ps) (suc i) le = drop_all Ps i (omega arith)

-- all of them were passed over
pub all_passed : (scheme : Scheme) (w : ℕ) (Ps : Cuts) (rest : List ℕ) (i : ℕ) (xs : List Entry)
    (bytes : List ℕ) → number_of_cuts Ps ≤ i → PassedSome scheme w Ps rest i xs bytes
    → PassedAll scheme w Ps rest xs bytes
all_passed scheme w Ps rest i xs bytes le so = record {
  say = so.say ∙ take-all i (entries scheme w Ps) (omega (arith, le, length-entries scheme w Ps));
  behind = so.left_is ∙ ap (λ Qs. cuts_bytes scheme.version Qs ++ rest) (drop_all Ps i le);
}
