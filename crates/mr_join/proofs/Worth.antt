-- What the bytes of a join's proof are worth that are accepted, and that the honest ones are.
use Rattle.std.proofs.Common.{◌≡◌, ℕ, ℤ, ◌≤ℤ◌, ◌^◌, ◌<◌, Bool, true, false, List, [], ◌∷◌, length, map, Option, Some, None, Result, Ok, Err, refl, sym, ap, subst, ◌∙◌, arith}
use Rattle.std.specs.Prelude.{◌==◌, ◌&&◌, if◌then◌else◌, filter, int_le}
use Rattle.std.specs.List.{AllByRecursion}
use Rattle.std.proofs.lemmas.Bool.{and_parts, eqb-true, eq-eqb}
use Rattle.std.proofs.lemmas.Float.{T_from_true}
use Rattle.std.proofs.lemmas.Int.{ints}
use Rattle.std.proofs.lemmas.List.Elements.{recursion_from_All}
use Rattle.mr_geom.specs.Rectangle.{Rectangle, IsOrdered, FitsMap, union_of}
use Rattle.mr_record.specs.Record.{IsRecord}
use Rattle.mr_record.specs.Results.{◌>>=◌}
use Rattle.mr_record.specs.declared.record.Record.{Record}
use Rattle.mr_record.specs.declared.version.Version.{Version}
use Rattle.mr_record.specs.declared.version.Version.TheVariants.{Two}
use Rattle.mr_record.proofs.Encodings.{IsBytes}
use Rattle.mr_record.proofs.Results.{bind_ok}
use Rattle.mr_tree.specs.Tree as trees
use Rattle.mr_tree.specs.Digest.{by, root}
use Rattle.mr_tree.specs.WellFormed.{WellFormed, HasLayers}
use Rattle.mr_tree.specs.declared.tree.Tree.{Tree}
use Rattle.mr_tree.proofs.Joins.{rect_round}
use Rattle.mr_proof.specs.declared.rule.Fault.{Fault}
use Rattle.mr_proof.specs.Spelling.{Parsed}
use Rattle.mr_proof.specs.Honest.{honest_said}
use Rattle.mr_proof.specs.Reading.{checked}
use Rattle.mr_proof.specs.Tight.{Question, MayCome, IsLawful}
use Rattle.mr_proof.specs.Halves.{AcceptsHonestProof, IsHonestProof}
use Rattle.mr_proof.specs.Headline.{AcceptedMatchesHonest, HonestProofIsQuiet}
use Rattle.mr_proof.specs.Clash.{NoneAnd}
use Rattle.mr_proof.proofs.Full.{there_records}
use Rattle.mr_proof.proofs.SameNodes.{none_more}
use Rattle.mr_count.specs.declared.taken.Taken.{Taken}
use Rattle.mr_count.specs.Chosen.{chosen, taken_of, opens_record, IsChosen}
use Rattle.mr_count.specs.Inside.{lies_in}
use Rattle.mr_count.specs.Accepted.{IsHonestChoice, AcceptedChoiceIsHonest}
use Rattle.mr_count.specs.private.InsideLaws.{lies_inside}
use Rattle.mr_count.proofs.HonestChoices.{lawful, accepted, honest_chosen, layers_two, same_taken}
use Rattle.mr_join.specs.declared.fault.FrameRule.TheVariants as rule
use Rattle.mr_join.specs.declared.fault.JoinFault.{JoinFault}
use Rattle.mr_join.specs.declared.pair.Pair.{Pair}
use Rattle.mr_join.specs.Meets.{meets_way, rects_of}
use Rattle.mr_join.specs.private.MeetsLaws.{meets_narrow}
use Rattle.mr_join.specs.Pairs.{pairs_of}
use Rattle.mr_join.specs.Frame.{Frame, frame_fault, frame_of, frame_bytes, FitsFrame}
use Rattle.mr_join.specs.Verdict.{Held, letter, part_verdict, as_first, as_second, first_records, second_taken, is_rect, pairs_behind, frame_verdict, join_verdict}
use Rattle.mr_join.specs.Accepted.{Owned, IsOwned, held, part_proof, part_taken, frame_for, honest_frame, join_proof, map_pairs, part_clash, first_part_clash, first_of_frame, second_of_frame, IsHonestJoin, AcceptedJoinIsHonest, AcceptsHonestJoin}
use Rattle.mr_join.proofs.AllPairs.{lie_within, no_records, all_given, none_given}
use Rattle.mr_join.proofs.Framing.{Reads, frame_reads, frame_again}

-- ---- one part

abbrev question : List Rectangle → Question
question list = chosen letter (meets_way list)

pub asks_lawfully : (list : List Rectangle) → IsLawful (chosen letter (meets_way list))
asks_lawfully list = lawful letter (meets_way list) (omega arith) (meets_narrow list)

-- what is known of all bytes of one part, and of all honest proofs
abbrev pub Matches : (List ℕ → List ℕ) → List ℕ → Type 0
Matches hash bytes = (v : Version) (a : Question) → IsLawful a → AcceptedMatchesHonest (by v hash) a bytes

pub record Honest (hash : List ℕ → List ℕ) : Type 0 where
  pub accepts : (v : Version) (a : Question) → IsLawful a → AcceptsHonestProof (by v hash) a
  pub honest : (v : Version) (a : Question) → IsLawful a → (t : Tree) (batch : ℕ)
      → MayCome a v → WellFormed t → HasLayers v t → batch < 2 ^ 64 → IsHonestProof (by v hash) t batch a
  pub quiet : (v : Version) (a : Question) → IsLawful a → HonestProofIsQuiet (by v hash) a

worth : (hash : List ℕ → List ℕ) (list : List Rectangle) (bytes : List ℕ) → Matches hash bytes
    → AcceptedChoiceIsHonest (by Two hash) letter (meets_way list) bytes
worth hash list bytes all =
    accepted (by Two hash) letter (meets_way list) bytes (meets_narrow list) (all Two (question list)
    (asks_lawfully list))

-- the honest part is accepted, as that of its head and cut
pub honest_parsed : (hash : List ℕ → List ℕ) (m : Owned) (list : List Rectangle) → Honest hash → IsOwned m
    → checked hash (root (by Two hash) m.tree m.batch) (question list) (part_proof hash m list)
    ≡ Ok (honest_said (by Two hash) (question list) m.tree m.batch)
honest_parsed hash m list all own =
    all.accepts Two (question list) (asks_lawfully list) m.tree m.batch tt own.well (layers_two m.tree own.well)
    own.batch

pub part_again : (hash : List ℕ → List ℕ) (m : Owned) (list : List Rectangle) → Honest hash → IsOwned m
    → part_verdict (held (by Two hash) m) list (part_proof hash m list) ≡ Ok (part_taken hash m list)
part_again hash m list all own =
    ap (λ (r : Result Parsed Fault). r >>= λ x. Ok (taken_of (meets_way list) x))
    (honest_parsed hash m list all own)

-- and so are the records that it gives
pub records_again : (hash : List ℕ → List ℕ) (m : Owned) (w : Rectangle) → Honest hash → IsOwned m
    → first_records (held (by Two hash) m) (Some w) (part_proof hash m (w ∷ []))
    ≡ Ok (part_taken hash m (w ∷ [])).records
records_again hash m w all own =
    ap (λ (r : Result Taken Fault). as_first r >>= λ x. Ok x.records) (part_again hash m (w ∷ []) all own)

part_given : (hash : List ℕ → List ℕ) (m : Owned) (list : List Rectangle) → IsOwned m
    → IsChosen m.tree (meets_way list) (part_taken hash m list)
part_given hash m list own =
    honest_chosen (by Two hash) refl m.tree m.batch letter (meets_way list) (meets_narrow list) own.well

part_quiet : (hash : List ℕ → List ℕ) (m : Owned) (list : List Rectangle) → Honest hash → IsOwned m
    → part_clash (by Two hash) m (part_proof hash m list) ≡ None
part_quiet hash m list all own =
    all.quiet Two (question list) (asks_lawfully list) m.tree m.batch tt own.well (layers_two m.tree own.well)
    own.batch

part_short : (hash : List ℕ → List ℕ) (m : Owned) (list : List Rectangle) → Honest hash → IsOwned m
    → length (part_proof hash m list) < 2 ^ 32
part_short hash m list all own =
    let short = (all.honest Two (question list) (asks_lawfully list) m.tree m.batch tt own.well
    (layers_two m.tree own.well) own.batch).short in
    omega (arith, short)

pub first_was : (r : Result Taken Fault) (x : Taken) → as_first r ≡ Ok x → r ≡ Ok x
first_was (Ok y) x e = cc
first_was (Err f) x e = absurd cc

pub second_was : (r : Result Taken Fault) (x : Taken) → as_second r ≡ Ok x → r ≡ Ok x
second_was (Ok y) x e = cc
second_was (Err f) x e = absurd cc

-- ---- rectangles

same_sides : (a b : Rectangle) → lies_in a b ≡ true → lies_in b a ≡ true → a ≡ b
same_sides a b in_b in_a =
    let x0 = and_parts (int_le b.x0 a.x0) (int_le a.x1 b.x1 && (int_le b.y0 a.y0 && int_le a.y1 b.y1)) in_b in
    let x1 = and_parts (int_le a.x1 b.x1) (int_le b.y0 a.y0 && int_le a.y1 b.y1) x0.1 in
    let y = and_parts (int_le b.y0 a.y0) (int_le a.y1 b.y1) x1.1 in
    let u0 = and_parts (int_le a.x0 b.x0) (int_le b.x1 a.x1 && (int_le a.y0 b.y0 && int_le b.y1 a.y1)) in_a in
    let u1 = and_parts (int_le b.x1 a.x1) (int_le a.y0 b.y0 && int_le b.y1 a.y1) u0.1 in
    let v = and_parts (int_le a.y0 b.y0) (int_le b.y1 a.y1) u1.1 in
    let west = same_number a.x0 b.x0 u0.0 x0.0 in
    let east = same_number a.x1 b.x1 x1.0 u1.0 in
    let south = same_number a.y0 b.y0 v.0 y.0 in
    let north = same_number a.y1 b.y1 y.1 v.1 in
    λ i. record { x0 = west i; y0 = south i; x1 = east i; y1 = north i }
  where
    same_number : (p q : ℤ) → int_le p q ≡ true → int_le q p ≡ true → p ≡ q
    same_number p q low high =
        let below : p ≤ℤ q = record { le = T_from_true (int_le p q) low } in
        let above : q ≤ℤ p = record { le = T_from_true (int_le q p) high } in
        omega (arith, ints)

is_rect_some : (w : Rectangle) (o : Option Rectangle) → is_rect w o ≡ true → o ≡ Some w
is_rect_some w None t = absurd cc
is_rect_some w (Some r) t =
    let both = and_parts (lies_in w r) (lies_in r w) t in ap Some (sym (same_sides w r both.0 both.1))

own_rect : (w : Rectangle) → IsOrdered w → is_rect w (Some w) ≡ true
own_rect w o = let here : lies_in w w ≡ true = (lies_inside w w o).1 (λ p h. h) in rw here refl

record_rect : (rs : List Record) (w : Rectangle) → AllByRecursion IsRecord rs
    → union_of (map (λ (r : Record). Some r.rect) rs) ≡ Some w → IsOrdered w × FitsMap w
record_rect [] w all e = absurd cc
record_rect (r ∷ rs) w all e =
    let there = there_records (r ∷ rs) (omega arith) all in
    let same : there.at ≡ w = same_rect there.at w (sym there.is ∙ e) in
    (subst IsOrdered same there.ordered, subst FitsMap same there.fits)
  where
    same_rect : (a b : Rectangle) → Some a ≡ Some b → a ≡ b
    same_rect a b s = cc

map_rect : (t : Tree) (w : Rectangle) → WellFormed t → trees.rect t ≡ Some w → IsOrdered w × FitsMap w
map_rect t w well e =
    record_rect (trees.records t) w (recursion_from_All IsRecord (trees.records t) well.each) (sym (rect_round t) ∙ e)

no_rect : (t : Tree) → trees.records t ≡ [] → trees.rect t ≡ None
no_rect t none = rect_round t ∙ ap (λ (rs : List Record). union_of (map (λ (r : Record). Some r.rect) rs)) none

empty_list : (rs : List Record) → length rs ≡ 0 → rs ≡ []
empty_list [] e = refl
empty_list (r ∷ rs) e = absurd (omega arith)

-- ---- the whole

abbrev good : {A : Type 0} → A → Result A JoinFault
good x = Ok x

if_good : {A : Type 0} (t : Bool) (x y : A) (f : JoinFault) → (if t then good x else Err f) ≡ good y
    → (t ≡ true) × (x ≡ y)
if_good true x y f e = (refl, cc)
if_good false x y f e = absurd cc

pub by_frame : (h k : Held) (bytes : List ℕ) (x : Frame) → frame_of bytes ≡ Ok x
    → join_verdict h k bytes ≡ frame_verdict h k (length bytes) x
unfolding join_verdict
by_frame h k bytes x e =
    ap (λ (r : Result Frame JoinFault). r >>= λ x. frame_verdict h k (length bytes) x) e

pub no_frame : (h k : Held) (bytes : List ℕ) (f : JoinFault) → frame_of bytes ≡ Err f → join_verdict h k bytes ≡ Err f
unfolding join_verdict
no_frame h k bytes f e =
    ap (λ (r : Result Frame JoinFault). r >>= λ x. frame_verdict h k (length bytes) x) e

-- the honest frame of a map whose rectangle is this one
frame_by : (f g : List ℕ → List ℕ) (m n : Owned) (o : Option Rectangle) → trees.rect n.tree ≡ o
    → frame_for f g m n o ≡ honest_frame f g m n
frame_by f g m n o e = ap (frame_for f g m n) (sym e)

-- bytes of a frame without a rectangle
alone_worth : (f g : List ℕ → List ℕ) (bytes second : List ℕ) (m n : Owned) (pairs : List Pair) → IsOwned n
    → Matches g second → bytes ≡ frame_bytes (record { rect = None; first = []; second = second })
    → frame_verdict (held (by Two f) m) (held (by Two g) n) (length bytes)
    (record { rect = None; first = []; second = second }) ≡ Ok pairs
    → NoneAnd g (part_clash (by Two g) n second) (IsHonestJoin f g m n bytes pairs)
alone_worth f g bytes second m n pairs own match line e =
    let y = bind_ok (second_taken (held (by Two g) n) [] second) (λ y. pairs_behind None (length bytes) [] y) pairs e
    in
    let test = if_good (y.0.count == 0) (pairs_of [] y.0.records) pairs (frame_fault rule.WrongFlag
    (length bytes)) y.2 in
    let part = second_was (part_verdict (held (by Two g) n) [] second) y.0 y.1 in
    none_more g (part_clash (by Two g) n second) (IsHonestChoice (by Two g) n.tree n.batch letter
    (meets_way []) second y.0)
    (IsHonestJoin f g m n bytes pairs)
    (worth g [] second match n.tree n.batch y.0 own.well (layers_two n.tree own.well) own.batch part)
    (λ o.
    let count : length (trees.records n.tree) ≡ 0 = sym o.given.count ∙ eqb-true y.0.count 0 test.0 in
    let none = empty_list (trees.records n.tree) count in
    record {
      own = line ∙ ap frame_bytes
          ((λ i. record { rect = None; first = []; second = o.own.own i })
          ∙ frame_by f g m n None (no_rect n.tree none));
      whole = sym test.1 ∙ none_given (trees.records m.tree) (trees.records n.tree) y.0.records none;
    })

-- bytes of a frame with one
both_worth : (f g : List ℕ → List ℕ) (bytes first second : List ℕ) (w : Rectangle) (m n : Owned) (pairs : List Pair)
    → IsOwned m → IsOwned n → Honest f → Matches f first → Matches g second
    → bytes ≡ frame_bytes (record { rect = Some w; first = first; second = second })
    → frame_verdict (held (by Two f) m) (held (by Two g) n) (length bytes)
    (record { rect = Some w; first = first; second = second })
    ≡ Ok pairs
    → NoneAnd f (part_clash (by Two f) m first) (NoneAnd g (part_clash (by Two g) n second)
    (IsHonestJoin f g m n bytes pairs))
both_worth f g bytes first second w m n pairs own_m own_n honest match_f match_g line e =
    let rs = bind_ok (first_records (held (by Two f) m) (Some w) first)
    (λ rs. second_taken (held (by Two g) n) rs second >>= λ y. pairs_behind (Some w) (length bytes) rs y) pairs e in
    let x = bind_ok (as_first (part_verdict (held (by Two f) m) (w ∷ []) first)) (λ x. good x.records) rs.0 rs.1 in
    let first_part = first_was (part_verdict (held (by Two f) m) (w ∷ []) first) x.0 x.1 in
    let given : x.0.records ≡ rs.0 = same_records x.0.records rs.0 x.2 in
    let y = bind_ok (second_taken (held (by Two g) n) rs.0 second) (λ y. pairs_behind (Some w)
    (length bytes) rs.0 y) pairs
    rs.2 in
    let second_part = second_was (part_verdict (held (by Two g) n) (rects_of rs.0) second) y.0 y.1 in
    let test = if_good (is_rect w y.0.rect) (pairs_of rs.0 y.0.records) pairs
    (frame_fault rule.WrongRect (length bytes)) y.2 in
    none_more f (part_clash (by Two f) m first) (IsHonestChoice (by Two f) m.tree m.batch letter (meets_way
    (w ∷ [])) first x.0)
    (NoneAnd g (part_clash (by Two g) n second) (IsHonestJoin f g m n bytes pairs))
    (worth f (w ∷ []) first match_f m.tree m.batch x.0 own_m.well (layers_two m.tree own_m.well) own_m.batch
    first_part)
    (λ o.
    none_more g (part_clash (by Two g) n second)
    (IsHonestChoice (by Two g) n.tree n.batch letter (meets_way (rects_of rs.0)) second y.0)
    (IsHonestJoin f g m n bytes pairs)
    (worth g (rects_of rs.0) second match_g n.tree n.batch y.0 own_n.well (layers_two n.tree own_n.well) own_n.batch
    second_part)
    (λ q.
    let rect : trees.rect n.tree ≡ Some w = sym q.given.rect ∙ is_rect_some w y.0.rect test.0 in
    let opened = ap (filter (opens_record (meets_way (w ∷ [])))) (sym given) ∙ o.given.opened in
    let taken : x.0 ≡ part_taken f m (w ∷ []) = same_taken x.0 (part_taken f m (w ∷ []))
    (sym first_part ∙ ap (part_verdict (held (by Two f) m) (w ∷ [])) o.own.own ∙ part_again f m
    (w ∷ []) honest own_m) in
    let list : rs.0 ≡ (part_taken f m (w ∷ [])).records = sym given ∙ ap (λ (z : Taken). z.records) taken in
    record {
      own = line ∙ ap frame_bytes
          ((λ i. record {
            rect = Some w;
            first = o.own.own i;
            second = (q.own.own ∙ ap (λ (l : List Record). part_proof g n (rects_of l)) list) i;
          })
          ∙ frame_by f g m n (Some w) rect);
      whole = sym test.1 ∙ all_given w (trees.records m.tree) (trees.records n.tree) rs.0 y.0.records
          (lie_within n.tree w rect) opened q.given.opened;
    }))
  where
    same_records : (a b : List Record) → good a ≡ good b → a ≡ b
    same_records a b s = cc

frame_worth : (f g : List ℕ → List ℕ) (bytes : List ℕ) (o : Option Rectangle) (first second : List ℕ) (m n : Owned)
    (pairs : List Pair) → IsOwned m → IsOwned n → Honest f → Matches f first → Matches g second
    → Reads bytes (record { rect = o; first = first; second = second })
    → frame_verdict (held (by Two f) m) (held (by Two g) n) (length bytes)
    (record { rect = o; first = first; second = second }) ≡ Ok pairs
    → NoneAnd f (first_part_clash (by Two f) m o first) (NoneAnd g (part_clash (by Two g) n second)
    (IsHonestJoin f g m n bytes pairs))
frame_worth f g bytes None first second m n pairs own_m own_n honest match_f match_g reads e =
    alone_worth f g bytes second m n pairs own_n match_g
    (reads.whole ∙ ap frame_bytes (λ i. record { rect = None; first = reads.none i; second = second }))
    (ap (λ (l : List ℕ). frame_verdict (held (by Two f) m) (held (by Two g) n) (length bytes)
    (record { rect = None; first = l; second = second })) (sym reads.none) ∙ e)
frame_worth f g bytes (Some w) first second m n pairs own_m own_n honest match_f match_g reads e =
    both_worth f g bytes first second w m n pairs own_m own_n honest match_f match_g reads.whole e

-- what accepted bytes are worth
pub join_worth : (f g : List ℕ → List ℕ) (bytes : List ℕ) (x : Frame) → Honest f → IsBytes bytes
    → frame_of bytes ≡ Ok x → Matches f x.first → Matches g x.second → AcceptedJoinIsHonest f g bytes
join_worth f g bytes x honest fits read match_f match_g = λ m n pairs own_m own_n e.
    subst (λ (r : Result Frame JoinFault). NoneAnd f (first_of_frame (by Two f) m r)
    (NoneAnd g (second_of_frame (by Two g) n r) (IsHonestJoin f g m n bytes pairs))) (sym read)
    (frame_worth f g bytes x.rect x.first x.second m n pairs own_m own_n honest match_f match_g
    (frame_reads bytes x fits read) (sym (by_frame (held (by Two f) m) (held (by Two g) n) bytes x read) ∙ e))

pub unread_worth : (f g : List ℕ → List ℕ) (bytes : List ℕ) (d : JoinFault) → frame_of bytes ≡ Err d
    → AcceptedJoinIsHonest f g bytes
unread_worth f g bytes d read = λ m n pairs own_m own_n e.
    absurd (apart pairs (sym (no_frame (held (by Two f) m) (held (by Two g) n) bytes d read) ∙ e))
  where
    apart : (pairs : List Pair) → Err d ≡ good pairs → ⊥
    apart pairs s = cc

-- ---- the honest proof

alone_accepted : (f g : List ℕ → List ℕ) (m n : Owned) (at : ℕ) → Honest g → IsOwned n → trees.rect n.tree ≡ None
    → frame_verdict (held (by Two f) m) (held (by Two g) n) at (frame_for f g m n None) ≡ Ok (map_pairs m n)
alone_accepted f g m n at honest own none =
    let given = part_given g n [] own in
    let empty = no_records n.tree none in
    let count : (part_taken g n []).count ≡ 0 = given.count ∙ ap length empty in
    ap (λ (r : Result Taken Fault). as_second r >>= λ y. pairs_behind None at [] y) (part_again g n [] honest own)
    ∙ ap (λ (t : Bool). if t then good (pairs_of [] (part_taken g n []).records)
    else Err (frame_fault rule.WrongFlag at)) (eq-eqb (part_taken g n []).count 0 count)
    ∙ ap good (none_given (trees.records m.tree) (trees.records n.tree) (part_taken g n []).records empty)

both_accepted : (f g : List ℕ → List ℕ) (m n : Owned) (at : ℕ) (w : Rectangle) → Honest f → Honest g → IsOwned m
    → IsOwned n → trees.rect n.tree ≡ Some w
    → frame_verdict (held (by Two f) m) (held (by Two g) n) at (frame_for f g m n (Some w)) ≡ Ok (map_pairs m n)
both_accepted f g m n at w honest_f honest_g own_m own_n rect =
    let rs = (part_taken f m (w ∷ [])).records in
    let y = part_taken g n (rects_of rs) in
    let first = part_given f m (w ∷ []) own_m in
    let second = part_given g n (rects_of rs) own_n in
    let there : is_rect w y.rect ≡ true =
    ap (is_rect w) (second.rect ∙ rect) ∙ own_rect w (map_rect n.tree w own_n.well rect).0 in
    ap (λ (r : Result Taken Fault). (as_first r >>= λ x. good x.records) >>= λ rs. second_taken (held (by Two g) n) rs
    (part_proof g n (rects_of (part_taken f m (w ∷ [])).records)) >>= λ y. pairs_behind (Some w) at rs y)
    (part_again f m (w ∷ []) honest_f own_m)
    ∙ ap (λ (r : Result Taken Fault). as_second r >>= λ y. pairs_behind (Some w) at rs y)
    (part_again g n (rects_of rs) honest_g own_n)
    ∙ ap (λ (t : Bool). if t then good (pairs_of rs y.records) else Err (frame_fault rule.WrongRect at)) there
    ∙ ap good (all_given w (trees.records m.tree) (trees.records n.tree) rs y.records (lie_within n.tree w rect)
    first.opened second.opened)

by_rect_accepted : (f g : List ℕ → List ℕ) (m n : Owned) (at : ℕ) (o : Option Rectangle) → Honest f → Honest g
    → IsOwned m → IsOwned n → trees.rect n.tree ≡ o
    → frame_verdict (held (by Two f) m) (held (by Two g) n) at (frame_for f g m n o) ≡ Ok (map_pairs m n)
by_rect_accepted f g m n at None honest_f honest_g own_m own_n e = alone_accepted f g m n at honest_g own_n e
by_rect_accepted f g m n at (Some w) honest_f honest_g own_m own_n e =
    both_accepted f g m n at w honest_f honest_g own_m own_n e

frame_fits : (f g : List ℕ → List ℕ) (m n : Owned) (o : Option Rectangle) → Honest f → IsOwned m → IsOwned n
    → trees.rect n.tree ≡ o → FitsFrame (frame_for f g m n o)
frame_fits f g m n None honest own_m own_n e = refl
frame_fits f g m n (Some w) honest own_m own_n e =
    let fits = map_rect n.tree w own_n.well e in (fits.0, fits.1, part_short f m (w ∷ []) honest own_m)

first_quiet : (f g : List ℕ → List ℕ) (m n : Owned) (o : Option Rectangle) → Honest f → IsOwned m
    → first_part_clash (by Two f) m (frame_for f g m n o).rect (frame_for f g m n o).first ≡ None
first_quiet f g m n None honest own = refl
first_quiet f g m n (Some w) honest own = part_quiet f m (w ∷ []) honest own

second_quiet : (f g : List ℕ → List ℕ) (m n : Owned) (o : Option Rectangle) → Honest g → IsOwned n
    → part_clash (by Two g) n (frame_for f g m n o).second ≡ None
second_quiet f g m n None honest own = part_quiet g n [] honest own
second_quiet f g m n (Some w) honest own =
    part_quiet g n (rects_of (part_taken f m (w ∷ [])).records) honest own

pub honest_read : (f g : List ℕ → List ℕ) (m n : Owned) → Honest f → IsOwned m → IsOwned n
    → frame_of (join_proof f g m n) ≡ Ok (honest_frame f g m n)
honest_read f g m n honest own_m own_n =
    frame_again (honest_frame f g m n) (frame_fits f g m n (trees.rect n.tree) honest own_m own_n refl)

pub honest_accepted : (f g : List ℕ → List ℕ) → Honest f → Honest g → AcceptsHonestJoin f g
honest_accepted f g honest_f honest_g = λ m n own_m own_n.
    let o = trees.rect n.tree in
    let x = honest_frame f g m n in
    let bytes = join_proof f g m n in
    let read : frame_of bytes ≡ Ok x = honest_read f g m n honest_f own_m own_n in
    record {
      accepted = by_frame (held (by Two f) m) (held (by Two g) n) bytes x read
          ∙ by_rect_accepted f g m n (length bytes) o honest_f honest_g own_m own_n refl;
      first = ap (first_of_frame (by Two f) m) read ∙ first_quiet f g m n o honest_f own_m;
      second = ap (second_of_frame (by Two g) n) read ∙ second_quiet f g m n o honest_g own_n;
    }
