-- What each field leads to.
use Rattle.std.proofs.Common.{◌≡◌, ℕ, zero, suc, ◌-◌, ◌+◌, ◌≤◌, ◌<◌, Bool, true, false, eqb, List, [], ◌∷◌, ◌++◌, length, map, reverse, Ok, Err, Option, Some, None, refl, sym, ap, subst, ◌∙◌, append_assoc, arith, inl, inr}
use Rattle.std.specs.Prelude.{filter, option_map, if◌then◌else◌, not, ◌==◌}
use Rattle.std.proofs.lemmas.Bool.{cases_Bool, eqb-true, ne_eqb}
use Rattle.std.proofs.lemmas.List.{append-nil, map-append, length-append}
use Rattle.std.proofs.lemmas.List.Elements.{filter-append}
use Rattle.mr_geom.specs.Rectangle.{Rectangle}
use Rattle.mr_record.specs.declared.record.Record.{Record}
use Rattle.mr_tree.specs.Digest.{leaf_tag, inner_tag, no_entry}
use Rattle.mr_tree.specs.HasHashed.{Piece, of_record}
use Rattle.mr_tree.specs.declared.entry.Entry.{Entry}
use Rattle.mr_record.specs.Version.{told}
use Rattle.mr_record.specs.declared.version.Version.{Version}
use Rattle.mr_record.specs.declared.version.Version.TheVariants.{One, Two}
use Rattle.mr_tree.specs.declared.node_hasher.NodeHasher.{NodeHasher}
use Rattle.mr_check.specs.private.OpenNodes.{Gathered}
use Rattle.mr_tree.proofs.Gathered.{leaf_gathered}
use Rattle.mr_proof.specs.declared.head.Head.{Head}
use Rattle.mr_proof.specs.declared.rule.Rule.{Rule}
use Rattle.mr_proof.specs.declared.rule.Rule.TheVariants as rule
use Rattle.mr_proof.specs.declared.want.Want.{Want}
use Rattle.mr_proof.specs.declared.want.Want.TheVariants as want
use Rattle.mr_proof.specs.declared.field.Field.{Field}
use Rattle.mr_proof.specs.Fields.{pruned_tag}
use Rattle.mr_proof.specs.Cut.{Cut, Cuts, Pruned, Leaf, Inner, entry_shown}
use Rattle.mr_proof.specs.declared.pruned_entry.PrunedEntry.{PrunedEntry}
use Rattle.mr_proof.specs.Spelling.{Parsed, said}
use Rattle.mr_proof.specs.declared.way.Way.{Way}
use Rattle.mr_query.specs.declared.key.Key.{Key}
use Rattle.mr_proof.specs.Tight.{key_at, key_of, opens_seen, Question, opens_at, keeps_record}
use Rattle.mr_proof.specs.Grammar.{Grammar, done, reads, notes, opens, number_in, tag_in, bytes_in, some_records, opened, unopened, some_items, item, part}
use Rattle.mr_check.specs.declared.frame.Frame.{Frame}
use Rattle.mr_check.specs.declared.frame.Stack.{Stack}
use Rattle.mr_check.specs.declared.stage.HeadField.{HeadField}
use Rattle.mr_check.specs.declared.stage.Stage.{Stage}
use Rattle.mr_check.specs.declared.stage.Stage.TheVariants as stage
use Rattle.mr_check.specs.declared.counts.Counts.{Counts}
use Rattle.mr_check.specs.declared.radius_counts.RadiusCounts.{RadiusCounts}
use Rattle.mr_check.specs.declared.machine.Machine.{Machine}
use Rattle.mr_check.specs.declared.machine.StepResult.TheVariants as stepped
use Rattle.mr_check.specs.private.Stops.{past_notes, noted}
use Rattle.mr_check.specs.Whole.{whole_of}
use Rattle.mr_check.specs.private.Counting.{capped, CountsRecords}
use Rattle.mr_check.specs.private.Heads.{head_left}
use Rattle.mr_check.specs.private.Machine.{Open, Above, after, after_record, node_next, shown_next, behind_tally, stage_of, stage_behind, opened_item, behind_number, behind_rect, behind_sides, behind_layer, behind_length, head_next, ways_at, is_handed_out, frames_of, AreFrames, IsLeaf, so_far, whole_so_far, scheme, InTree, InHead, HasReadCut, LeafRead, WaitsForField, WaitsPast, StepsPastField, ClosesNode, stepped_by, found_by, plus}
use Rattle.mr_check.proofs.Opening.{IsClosing, item_waits, seen_by, after_quiet, past_met, past_missed}

-- ---- a step from what it waits for

waits_on : {H : Type 0} (hash : List ℕ → List ℕ) (holds : H → List ℕ → Type 0) (q : Question) (m : Machine H)
    (given : List Record) (g next : Grammar Parsed) → noted g ≡ [] → past_notes g ≡ Ok next
    → WaitsForField hash holds q m given next → StepsPastField hash holds q m given g stepped.On
waits_on hash holds q m given g next quiet past waits =
    (quiet, record { next = next; past = past; waits = waits })

-- a close gives a step
pub close_steps : {H : Type 0} (hash : List ℕ → List ℕ) (holds : H → List ℕ → Type 0) (q : Question) (m : Machine H)
    (given : List Record) (g : Grammar Parsed) (broken : Option Rule) → noted g ≡ []
    → ClosesNode hash holds q m given g broken → StepsPastField hash holds q m given g (stepped_by broken)
close_steps hash holds q m given g None quiet w = (quiet, w)
close_steps hash holds q m given g (Some d) quiet w = w

-- ---- the head

-- neither version tells of records where there are none
nothing_told : (u : Version) → not (0 == told u 0) ≡ false
nothing_told One = refl
nothing_told Two = refl

behind_head : {H : Type 0} (hash : List ℕ → List ℕ) (holds : H → List ℕ → Type 0) (q : Question) (m : Machine H)
    (given : List Record) (h : Head) → h.kind ≡ m.head.kind
    → InHead q m.head (frames_of m) m.tally given
    → StepsPastField hash holds q (record m { head = h; stage = stage_behind h None }) given (part q.way h) stepped.On
behind_head hash holds q m given h kind is = elim (cases_Bool (eqb h.count 0)) [
  | inl t ↦
      let none : h.count ≡ 0 = eqb-true h.count 0 t in
      let here : stage_behind h None ≡ stage.End no_entry = rw t refl in
      let there : part q.way h ≡ done (said h None) = rw t refl in
      let steps : StepsPastField hash holds q (record m { head = h; stage = stage.End no_entry }) given
      (done (said h None))
      stepped.On =
      waits_on hash holds q (record m { head = h; stage = stage.End no_entry }) given (done (said h None))
      (done (said h None)) refl refl (record {
        above = record { nodes = []; records = [] };
        whole = None;
        waits = refl;
        is_open = record {
          root = rw none refl;
          rect = refl;
          counted = rw none (nothing_told h.version);
          kept = is.nothing;
          tally = rw is.nothing (is.tally h.radius);
          whole = is.whole;
        };
      }) in
      rw (here, there) steps
  | inr f ↦
      let here : stage_behind h None ≡ stage.Tag h.level = rw f refl in
      let way = q.way h.radius in
      let next = after way h h.level [] in
      let there : part q.way h ≡ reads (want.Tag h.level) (λ t. node_next h.version way h.level next (tag_in t)) =
      (rw f refl) ∙ item_waits h.version way h.level next in
      let g = reads (want.Tag h.level) (λ t. node_next h.version way h.level next (tag_in t)) in
      let steps : StepsPastField hash holds q (record m { head = h; stage = stage.Tag h.level }) given g stepped.On =
      waits_on hash holds q (record m { head = h; stage = stage.Tag h.level }) given g g refl refl (record {
        above = record { nodes = []; records = [] };
        whole = None;
        waits = refl;
        is_open = (
          refl,
          record {
            depth = omega arith;
            frames = subst (λ (fs : List (Frame _)). AreFrames (scheme hash h) holds h.level fs []) (sym is.frames) tt;
            kept = is.nothing;
            tally = rw is.nothing (is.tally h.radius);
            whole = is.whole;
          },
        );
      }) in
      rw (here, there) steps
]

behind_left : {H : Type 0} (hash : List ℕ → List ℕ) (holds : H → List ℕ → Type 0) (q : Question) (m : Machine H)
    (given : List Record) (h : Head) (next : Option HeadField) → h.kind ≡ m.head.kind
    → InHead q m.head (frames_of m) m.tally given
    → StepsPastField hash holds q (record m { head = h; stage = stage_behind h next }) given
    (head_left q.way h next) stepped.On
behind_left hash holds q m given h None kind is = behind_head hash holds q m given h kind is
behind_left hash holds q m given h (Some f) kind is =
    let g = head_left q.way h (Some f) in
    waits_on hash holds q (record m { head = h; stage = stage.Head f }) given g g refl refl (record {
      above = record { nodes = []; records = [] };
      whole = None;
      waits = refl;
      is_open = record {
        kind = kind ∙ is.kind;
        frames = is.frames;
        nothing = is.nothing;
        tally = is.tally;
        whole = is.whole;
      };
    })

pub headed : {H : Type 0} (hash : List ℕ → List ℕ) (holds : H → List ℕ → Type 0) (q : Question) (m : Machine H)
    (given : List Record) (h : Head) (next : Option HeadField) (at : HeadField) (v : Field) → h.kind ≡ m.head.kind
    → ((way : Option ℕ → Key → Way) → head_next way m.head at v ≡ head_left way h next)
    → InHead q m.head (frames_of m) m.tally given
    → StepsPastField hash holds q (record m { head = h; stage = stage_behind h next }) given
    (head_next q.way m.head at v) stepped.On
headed hash holds q m given h next at v kind goes is =
    subst (λ (g : Grammar Parsed). StepsPastField hash holds q (record m { head = h; stage = stage_behind h next })
    given g
    stepped.On) (sym (goes q.way)) (behind_left hash holds q m given h next kind is)

-- ---- items

opened_steps : {H : Type 0} (hash : List ℕ → List ℕ) (holds : H → List ℕ → Type 0) (q : Question) (m : Machine H)
    (v : ℕ) (given : List Record) (a : Above) → a.records ≡ []
    → InTree hash holds q m.head (frames_of m) m.tally v given a
    → StepsPastField hash holds q (record m { stage = (if v == 0 then stage.Records else stage.Entries (v - 1)) }) given
    (opened_item m.head.version (ways_at q m.head) v (after (ways_at q m.head) m.head v a.nodes)) stepped.On
opened_steps hash holds q m zero given a none is =
    let g = opened_item m.head.version (ways_at q m.head) 0 (after (ways_at q m.head) m.head 0 a.nodes) in
    waits_on hash holds q (record m { stage = stage.Records }) given g g refl refl
    (record { above = a; whole = None; waits = refl; is_open = (none, is) })
opened_steps hash holds q m (suc w) given a none is =
    let way = ways_at q m.head in
    let below : suc w - 1 ≡ w = omega arith in
    let up : suc w ≡ w + 1 = omega arith in
    let not_leaf : eqb (suc w) 0 ≡ false = ne_eqb (suc w) 0 (λ e. omega arith) in
    let u = m.head.version in
    let g = opened_item u way (suc w) (after way m.head (suc w) a.nodes) in
    let k = opened_item u way (suc w) (after way m.head (w + 1) a.nodes) in
    let same : k ≡ g = ap (λ (n : ℕ). opened_item u way (suc w) (after way m.head n a.nodes)) (sym up) in
    let steps : StepsPastField hash holds q (record m { stage = stage.Entries w }) given k stepped.On =
    waits_on hash holds q (record m { stage = stage.Entries w }) given k k refl refl (record {
      above = a;
      whole = None;
      waits = refl;
      is_open = (none, subst (λ (n : ℕ). InTree hash holds q m.head (frames_of m) m.tally n given a) up is);
    }) in
    let here : stage.Entries w ≡ (if suc w == 0 then stage.Records else stage.Entries (suc w - 1)) =
    rw (not_leaf, below) refl in
    subst (λ (s : Stage). StepsPastField hash holds q (record m { stage = s }) given g stepped.On) here
    (subst (λ (x : Grammar Parsed). StepsPastField hash holds q (record m { stage = stage.Entries w }) given x
    stepped.On) same
    steps)

pub tagged : {H : Type 0} (hash : List ℕ → List ℕ) (holds : H → List ℕ → Type 0) (q : Question) (m : Machine H)
    (v t : ℕ) (given : List Record) (a : Above) → a.records ≡ []
    → InTree hash holds q m.head (frames_of m) m.tally v given a
    → StepsPastField hash holds q (record m { stage = stage_of v t }) given
    (node_next m.head.version (ways_at q m.head) v (after (ways_at q m.head) m.head v a.nodes) t) stepped.On
tagged hash holds q m v t given a none is = elim (cases_Bool (eqb t pruned_tag)) [
  | inl p ↦ rw p
      (waits_on hash holds q (record m { stage = stage.Shown v }) given
      (node_next m.head.version (ways_at q m.head) v (after (ways_at q m.head) m.head v a.nodes) pruned_tag)
      (node_next m.head.version (ways_at q m.head) v (after (ways_at q m.head) m.head v a.nodes) pruned_tag) refl refl
      (record { above = a; whole = None; waits = refl; is_open = (none, is) }))
  | inr o ↦ rw o (opened_steps hash holds q m v given a none is)
]

-- a part that is to be opened stops the reading, and one that is not is read on
pub unopened_met : (way : Key → Way) (part : Key) (next : Grammar Parsed) → opens_at way part ≡ true
    → past_notes (unopened way part next) ≡ Err rule.Hidden
unopened_met way part next met = rw met refl

pub unopened_missed : {H : Type 0} (hash : List ℕ → List ℕ) (holds : H → List ℕ → Type 0) (q : Question)
    (m : Machine H) (way : Key → Way) (part : Key) (given : List Record) (w : Want) (next : Field → Grammar Parsed)
    → opens_at way part ≡ false → WaitsForField hash holds q m given (reads w next)
    → StepsPastField hash holds q m given (unopened way part (reads w next)) stepped.On
unopened_missed hash holds q m way part given w next missed waits =
    let past : past_notes (unopened way part (reads w next)) ≡ Ok (reads w next) = rw missed refl in
    waits_on hash holds q m given (unopened way part (reads w next)) (reads w next) refl past waits

-- the fields of a pruned part that are not its last
pub mask_on : {H : Type 0} (hash : List ℕ → List ℕ) (holds : H → List ℕ → Type 0) (q : Question) (m : Machine H)
    (v : ℕ) (r : Rectangle) (given : List Record) (a : Above) → a.records ≡ []
    → InTree hash holds q m.head (frames_of m) m.tally v given a
    → StepsPastField hash holds q (record m { stage = stage.Mask v r }) given
    (shown_next Two (ways_at q m.head) (after (ways_at q m.head) m.head v a.nodes) r) stepped.On
mask_on hash holds q m v r given a none is =
    let g = shown_next Two (ways_at q m.head) (after (ways_at q m.head) m.head v a.nodes) r in
    waits_on hash holds q (record m { stage = stage.Mask v r }) given g g refl refl
    (record { above = a; whole = None; waits = refl; is_open = (none, is) })

pub tally_waits : {H : Type 0} (hash : List ℕ → List ℕ) (holds : H → List ℕ → Type 0) (q : Question) (m : Machine H)
    (v : ℕ) (r : Rectangle) (n : ℕ) (given : List Record) (a : Above) → a.records ≡ []
    → InTree hash holds q m.head (frames_of m) m.tally v given a
    → WaitsForField hash holds q (record m { stage = stage.Tally v r n }) given
    (reads want.Tally (λ c. behind_tally (after (ways_at q m.head) m.head v a.nodes) r n (number_in c)))
tally_waits hash holds q m v r n given a none is =
    record { above = a; whole = None; waits = refl; is_open = (none, is) }

pub digest_waits : {H : Type 0} (hash : List ℕ → List ℕ) (holds : H → List ℕ → Type 0) (q : Question) (m : Machine H)
    (v : ℕ) (r : Rectangle) (n c : ℕ) (given : List Record) (a : Above) → a.records ≡ []
    → InTree hash holds q m.head (frames_of m) m.tally v given a
    → WaitsForField hash holds q (record m { stage = stage.Digest v r n c }) given
    (behind_tally (after (ways_at q m.head) m.head v a.nodes) r n c)
digest_waits hash holds q m v r n c given a none is =
    record { above = a; whole = None; waits = refl; is_open = (none, is) }

pub digest_on : {H : Type 0} (hash : List ℕ → List ℕ) (holds : H → List ℕ → Type 0) (q : Question) (m : Machine H)
    (v : ℕ) (r : Rectangle) (n c : ℕ) (given : List Record) (a : Above) → a.records ≡ []
    → InTree hash holds q m.head (frames_of m) m.tally v given a
    → StepsPastField hash holds q (record m { stage = stage.Digest v r n c }) given
    (behind_tally (after (ways_at q m.head) m.head v a.nodes) r n c) stepped.On
digest_on hash holds q m v r n c given a none is =
    let g = behind_tally (after (ways_at q m.head) m.head v a.nodes) r n c in
    waits_on hash holds q (record m { stage = stage.Digest v r n c }) given g g refl refl
    (digest_waits hash holds q m v r n c given a none is)

-- a pruned part was read whole, and counted if it is asked for whole
pub pruned_read : {H : Type 0} (hash : List ℕ → List ℕ) (holds : H → List ℕ → Type 0) (q : Question) (h : Head)
    (fs : List (Frame H)) (t : Counts) (w v : ℕ) (part : PrunedEntry) (x : Entry) (given : List Record) (a : Above)
    → x ≡ entry_shown v part
    → w ≡ capped (whole_so_far h.version (ways_at q h) a.nodes + whole_of h.version (ways_at q h) (Pruned part))
    → a.records ≡ [] → InTree hash holds q h fs t v given a
    → HasReadCut hash holds q h fs (record t { whole = w }) x given a.nodes (Pruned part)
pruned_read hash holds q h fs t w v part x given a says counts none is =
    let low : x.level ≡ v = ap (λ (y : Entry). y.level) says in
    record {
      says = ap (λ (k : ℕ). entry_shown k part) low ∙ sym says;
      depth = omega (arith, is.depth, low);
      frames = subst (λ (k : ℕ). AreFrames (scheme hash h) holds k fs a.nodes) (sym low) is.frames;
      kept = is.kept ∙ ap (λ (rs : List Record). filter (is_handed_out q h) (so_far a.nodes ++ rs)) none;
      tally = is.tally;
      whole = counts;
    }

-- what a node of this level that was read whole leads to, where it is said of by its own level
pub closed_at : {H : Type 0} (hash : List ℕ → List ℕ) (holds : H → List ℕ → Type 0) (q : Question) (m : Machine H)
    (h : Head) (given : List Record) (way : Key → Way) (v w : ℕ) (os : List Open) (P : Cut) (broken : Option Rule)
    → w ≡ v → ClosesNode hash holds q m given (after way h w os P) broken
    → ClosesNode hash holds q m given (after way h v os P) broken
closed_at hash holds q m h given way v w os P broken e c =
    subst (λ (k : ℕ). ClosesNode hash holds q m given (after way h k os P) broken) e c

pub inner_opened : {H : Type 0} (hash : List ℕ → List ℕ) (holds : H → List ℕ → Type 0) (q : Question) (m : Machine H)
    (s : Stack (Frame H)) (x : NodeHasher H) (w n : ℕ) (given : List Record) (a : Above) → 1 ≤ n
    → Gathered holds x (inner_tag ∷ (w + 1) ∷ n ∷ []) []
    → reverse s.list.items ≡ record { node = x; left = n - 1 } ∷ frames_of m
    → a.records ≡ [] → InTree hash holds q m.head (frames_of m) m.tally (w + 1) given a
    → StepsPastField hash holds q (record m { frames = s; stage = stage.Tag w }) given
    (some_items (item m.head.version (ways_at q m.head) w) n (λ Ps. opened m.head.version (ways_at q m.head) (Inner Ps)
    (after (ways_at q m.head) m.head (w + 1) a.nodes))) stepped.On
inner_opened hash holds q m s x w n given a some gathers there none is =
    let way = ways_at q m.head in
    let u = m.head.version in
    let X = λ (Ps : Cuts). opened u way (Inner Ps) (after way m.head (w + 1) a.nodes) in
    let o : Open = record { front = []; left = n - 1 } in
    let next = after way m.head w (o ∷ a.nodes) in
    let g = reads (want.Tag w) (λ t. node_next u way w next (tag_in t)) in
    let count : n ≡ suc (n - 1) = omega arith in
    let reads_on : some_items (item u way w) n X ≡ g = ap (λ (k : ℕ). some_items (item u way w) k X) count
    ∙ item_waits u way w next in
    let total : n ≡ 0 + ((n - 1) + 1) = omega arith in
    let before = whole_so_far u way a.nodes in
    let none_more : before ≡ before + 0 = omega arith in
    waits_on hash holds q (record m { frames = s; stage = stage.Tag w }) given (some_items (item u way w) n X) g
    (ap noted reads_on) (ap past_notes reads_on) (record {
      above = record { nodes = o ∷ a.nodes; records = [] };
      whole = None;
      waits = refl;
      is_open = (
        refl,
        record {
          depth = omega (arith, is.depth);
          frames = subst (λ (gs : List (Frame _)). AreFrames (scheme hash m.head) holds w gs (o ∷ a.nodes))
              (sym there) (
                record {
                  left = refl;
                  gathers = subst (λ (k : ℕ). Gathered holds x (inner_tag ∷ (w + 1) ∷ k ∷ []) []) total
                      gathers;
                  level = λ lt. absurd (omega arith);
                },
                is.frames,
              );
          kept = is.kept ∙ ap (filter (is_handed_out q m.head))
              (ap (λ (rs : List Record). so_far a.nodes ++ rs) none
              ∙ sym (append-nil (so_far a.nodes ++ [])));
          tally = is.tally;
          whole = is.whole ∙ ap capped none_more;
        },
      );
    })

-- ---- records

record_waits : (way : Key → Way) (h : Head) (n : ℕ) (os : List Open) (rs : List Record) (r : Record)
    → some_records h.version way (suc n) (λ ts. opened h.version way (Leaf (rs ++ r ∷ ts)) (after way h 0 os))
    ≡ reads want.Number (λ v. behind_number h.version (after_record way h n os (rs ++ r ∷ [])) (number_in v))
record_waits way h n os rs r =
    λ j. reads want.Number (λ v. behind_number h.version (λ (x : Record). notes (opens x (keeps_record way x))
    (some_records h.version way n (λ ts. opened h.version way (Leaf (sym (append_assoc rs (r ∷ []) (x ∷ ts)) j))
    (after way h 0 os)))) (number_in v))

first_waits : (way : Key → Way) (h : Head) (n : ℕ) (os : List Open)
    → some_records h.version way (suc n) (λ ts. opened h.version way (Leaf ts) (after way h 0 os))
    ≡ reads want.Number (λ v. behind_number h.version (after_record way h n os []) (number_in v))
first_waits way h n os = refl

pub leaf_opened : {H : Type 0} (hash : List ℕ → List ℕ) (holds : H → List ℕ → Type 0) (q : Question) (m : Machine H)
    (x : NodeHasher H) (n : ℕ) (given : List Record) (a : Above) → 1 ≤ n
    → Gathered holds x (leaf_tag ∷ n ∷ []) []
    → a.records ≡ [] → InTree hash holds q m.head (frames_of m) m.tally 0 given a
    → StepsPastField hash holds q (record m { leaf = record { node = x; left = n - 1 }; stage = stage.Number })
    given (some_records m.head.version (ways_at q m.head) n (λ rs. opened m.head.version (ways_at q m.head) (Leaf rs)
    (after (ways_at q m.head) m.head 0 a.nodes))) stepped.On
leaf_opened hash holds q m x n given a some gathers none is =
    let way = ways_at q m.head in
    let u = m.head.version in
    let X = λ (rs : List Record). opened u way (Leaf rs) (after way m.head 0 a.nodes) in
    let g = reads want.Number (λ v. behind_number u (after_record way m.head (n - 1) a.nodes []) (number_in v)) in
    let count : n ≡ suc (n - 1) = omega arith in
    let reads_on : some_records u way n X ≡ g = ap (λ (k : ℕ). some_records u way k X) count
    ∙ first_waits way m.head (n - 1) a.nodes in
    let total : n ≡ 0 + ((n - 1) + 1) = omega arith in
    waits_on hash holds q (record m { leaf = record { node = x; left = n - 1 }; stage = stage.Number })
    given (some_records u way n X) g (ap noted reads_on) (ap past_notes reads_on) (record {
      above = record { nodes = a.nodes; records = [] };
      whole = None;
      waits = refl;
      is_open = (
        subst (λ (k : ℕ). Gathered holds x (leaf_tag ∷ k ∷ []) []) total gathers,
        record {
          depth = is.depth;
          frames = is.frames;
          kept = is.kept ∙ ap (λ (rs : List Record). filter (is_handed_out q m.head) (so_far a.nodes ++ rs)) none;
          tally = is.tally;
          whole = is.whole;
        },
      );
    })

-- a record that is met is handed out
pub kept_more : (q : Question) (h : Head) (handed_on : Bool) (given rs : List Record) (r : Record) → handed_on
    ≡ is_handed_out q h r
    → given ≡ filter (is_handed_out q h) rs → plus handed_on given r ≡ filter (is_handed_out q h) (rs ++ r ∷ [])
kept_more q h true given rs r handed_on kept =
    let one : filter (is_handed_out q h) (r ∷ []) ≡ r ∷ [] = rw (sym handed_on) refl in
    ap (λ (xs : List Record). xs ++ r ∷ []) kept ∙ ap (λ (xs : List Record). filter (is_handed_out q h) rs ++ xs)
    (sym one)
    ∙ sym (filter-append (is_handed_out q h) rs (r ∷ []))
kept_more q h false given rs r handed_on kept =
    let none : filter (is_handed_out q h) (r ∷ []) ≡ [] = rw (sym handed_on) refl in
    kept ∙ sym (append-nil (filter (is_handed_out q h) rs)) ∙ ap (λ (xs : List Record). filter (is_handed_out q h) rs ++
    xs) (sym none)
    ∙ sym (filter-append (is_handed_out q h) rs (r ∷ []))

-- a step that hands out the record where it is met
found_steps : {H : Type 0} (hash : List ℕ → List ℕ) (holds : H → List ℕ → Type 0) (q : Question) (m : Machine H)
    (given : List Record) (handed_on : Bool) (r : Record) (g : Grammar Parsed) → m.latest ≡ r → noted g ≡ []
    → WaitsPast hash holds q m (plus handed_on given r) g
    → StepsPastField hash holds q m given (notes (opens r handed_on) g) (found_by None handed_on)
found_steps hash holds q m given true r g is quiet w = (
  (λ i. sym is i ∷ quiet i),
  record {
    next = w.next;
    past = w.past;
    waits = subst (λ (x : Record). WaitsForField hash holds q m (given ++ x ∷ []) w.next) (sym is) w.waits;
  },
)
found_steps hash holds q m given false r g is quiet w =
    (quiet, record { next = w.next; past = w.past; waits = w.waits })

-- a record more was added
abbrev pub AddsRecord : {H : Type 0} → Version → (H → List ℕ → Type 0) → NodeHasher H → NodeHasher H → Record
    → Type 0
AddsRecord u holds m n r =
    (head : List ℕ) (pieces : List Piece) → Gathered holds m head pieces
    → Gathered holds n head (pieces ++ of_record u r ∷ [])

-- what is gathered of a leaf with one record more
added : {H : Type 0} (u : Version) (holds : H → List ℕ → Type 0) (m n : NodeHasher H) (r : Record)
    (rs : List Record) (k j : ℕ) → k ≡ j → AddsRecord u holds m n r
    → Gathered holds m (leaf_tag ∷ k ∷ []) (map (of_record u) rs)
    → Gathered holds n (leaf_tag ∷ j ∷ []) (map (of_record u) (rs ++ r ∷ []))
added u holds m n r rs k j e adds is =
    subst (λ (x : ℕ × List Piece). Gathered holds n (leaf_tag ∷ x.0 ∷ []) x.1)
    (λ i. (e i, sym (map-append (of_record u) rs (r ∷ [])) i))
    (adds (leaf_tag ∷ k ∷ []) (map (of_record u) rs) is)

pub record_on : {H : Type 0} (hash : List ℕ → List ℕ) (holds : H → List ℕ → Type 0) (q : Question) (m : Machine H)
    (n : NodeHasher H) (t : RadiusCounts) (handed_on : Bool) (given : List Record) (a : Above)
    → AddsRecord m.head.version holds m.leaf.node n m.latest → 0 < m.leaf.left
    → handed_on ≡ is_handed_out q m.head m.latest
    → CountsRecords q.around m.head.radius (plus handed_on given m.latest) t
    → IsLeaf m.head.version holds m.leaf a.records → InTree hash holds q m.head (frames_of m) m.tally 0 given a
    → StepsPastField hash holds q (record m {
      leaf = record { node = n; left = m.leaf.left - 1 };
      tally = record m.tally { radius = t };
      stage = stage.Number;
    })
    given (after_record (ways_at q m.head) m.head m.leaf.left a.nodes a.records m.latest) (found_by None handed_on)
record_on hash holds q m n t handed_on given a adds some is_met counts leaf is =
    let way = ways_at q m.head in
    let r = m.latest in
    let left = m.leaf.left in
    let all = a.records ++ r ∷ [] in
    let u = m.head.version in
    let X = λ (ts : List Record). opened u way (Leaf (a.records ++ r ∷ ts)) (after way m.head 0 a.nodes) in
    let k = reads want.Number (λ v. behind_number u (after_record way m.head (left - 1) a.nodes all) (number_in v)) in
    let count : left ≡ suc (left - 1) = omega arith in
    let reads_on : some_records u way left X ≡ k = ap (λ (n : ℕ). some_records u way n X) count
    ∙ record_waits way m.head (left - 1) a.nodes a.records r in
    let total : length a.records + (left + 1) ≡ length all + ((left - 1) + 1) = omega
    (arith, length-append a.records (r ∷ [])) in
    let after_it = record m {
      leaf = record { node = n; left = left - 1 };
      tally = record m.tally { radius = t };
      stage = stage.Number;
    } in
    let w : WaitsPast hash holds q after_it (plus handed_on given r) (some_records u way left X) = record {
      next = k;
      past = ap past_notes reads_on;
      waits = record {
        above = record { nodes = a.nodes; records = all };
        whole = None;
        waits = refl;
        is_open = (
          added u holds m.leaf.node n r a.records (length a.records + (left + 1)) (length all + ((left - 1) + 1)) total
              adds leaf,
          record {
            depth = is.depth;
            frames = is.frames;
            kept = kept_more q m.head handed_on given (so_far a.nodes ++ a.records) r is_met is.kept
                ∙ ap (filter (is_handed_out q m.head)) (append_assoc (so_far a.nodes) a.records (r ∷ []));
            tally = counts;
            whole = is.whole;
          },
        );
      };
    } in
    subst (λ (b : Bool). StepsPastField hash holds q after_it given (notes (opens r b) (some_records u way left X))
    (found_by None handed_on)) is_met
    (found_steps hash holds q after_it given handed_on r (some_records u way left X) refl (ap noted reads_on) w)

-- the last record of a leaf
pub leaf_read : {H : Type 0} (hash : List ℕ → List ℕ) (holds : H → List ℕ → Type 0) (q : Question) (h : Head)
    (fs : List (Frame H)) (old : Counts) (new : RadiusCounts) (f : Frame H) (n : NodeHasher H) (handed_on : Bool)
    (r : Record) (given : List Record) (a : Above) → AddsRecord h.version holds f.node n r → f.left ≡ 0
    → handed_on ≡ is_handed_out q h r
    → CountsRecords q.around h.radius (plus handed_on given r) new
    → IsLeaf h.version holds f a.records → InTree hash holds q h fs old 0 given a
    → LeafRead hash holds q h fs (record old { radius = new }) (record { node = n; left = f.left })
    (plus handed_on given r) a r
leaf_read hash holds q h fs old new f n handed_on r given a adds none is_met counts leaf is =
    let total : length a.records + (f.left + 1) ≡ length (a.records ++ r ∷ []) = omega
    (arith, length-append a.records (r ∷ [])) in
    record {
      gathers = added h.version holds f.node n r a.records (length a.records + (f.left + 1))
          (length (a.records ++ r ∷ [])) total adds leaf;
      depth = omega (arith, is.depth);
      frames = is.frames;
      kept = kept_more q h handed_on given (so_far a.nodes ++ a.records) r is_met is.kept
          ∙ ap (filter (is_handed_out q h)) (append_assoc (so_far a.nodes) a.records (r ∷ []));
      tally = counts;
      whole = is.whole;
    }

pub leaf_said : {H : Type 0} (hash : List ℕ → List ℕ) (holds : H → List ℕ → Type 0) (q : Question) (h : Head)
    (fs : List (Frame H)) (t : Counts) (f : Frame H) (x : Entry) (given : List Record) (a : Above) (r : Record)
    → IsClosing (scheme hash h) holds f.node 0 x
    → LeafRead hash holds q h fs t f given a r
    → HasReadCut hash holds q h fs t x given a.nodes (Leaf (a.records ++ r ∷ []))
leaf_said hash holds q h fs t f x given a r c is =
    let all = a.records ++ r ∷ [] in
    let before = whole_so_far h.version (ways_at q h) a.nodes in
    let none_more : before ≡ before + 0 = omega arith in
    record {
      says = sym (leaf_gathered (scheme hash h) (holds f.node.hasher) all x c.level (record {
        fed = is.gathers.fed;
        round = c.rect ∙ is.gathers.round;
        layers = c.mask ∙ is.gathers.layers;
        tally = c.count ∙ is.gathers.tally;
      }) c.digest);
      depth = omega (arith, is.depth, c.level);
      frames = subst (λ (k : ℕ). AreFrames (scheme hash h) holds k fs a.nodes) (sym c.level) is.frames;
      kept = is.kept;
      tally = is.tally;
      whole = is.whole ∙ ap capped none_more;
    }

leaf_rect : {H : Type 0} (hash : List ℕ → List ℕ) (holds : H → List ℕ → Type 0) (q : Question) (h : Head)
    (fs : List (Frame H)) (t : Counts) (f : Frame H) (x : Entry) (given : List Record) (a : Above) (r : Record)
    (b : Bool)
    → IsClosing (scheme hash h) holds f.node 0 x
    → opens_seen (ways_at q h) (option_map (key_at h.version x.mask) x.rect) ≡ b
    → LeafRead hash holds q h fs t f given a r
    → opens_seen (ways_at q h) (key_of h.version (Leaf (a.records ++ r ∷ []))) ≡ b
leaf_rect hash holds q h fs t f x given a r b c handed_on is =
    seen_by (scheme hash h) (ways_at q h) x.level (Leaf (a.records ++ r ∷ [])) x
    (leaf_said hash holds q h fs t f x given a r c is).says ∙ handed_on

pub leaf_missed : {H : Type 0} (hash : List ℕ → List ℕ) (holds : H → List ℕ → Type 0) (q : Question) (h : Head)
    (fs : List (Frame H)) (t : Counts) (f : Frame H) (x : Entry) (given : List Record) (a : Above) (r : Record)
    → IsClosing (scheme hash h) holds f.node 0 x
    → opens_seen (ways_at q h) (option_map (key_at h.version x.mask) x.rect) ≡ false
    → LeafRead hash holds q h fs t f given a r
    → past_notes (after_record (ways_at q h) h 0 a.nodes a.records r) ≡ Err rule.Needless
leaf_missed hash holds q h fs t f x given a r c missed is =
    past_missed h.version (ways_at q h) (Leaf (a.records ++ r ∷ [])) (after (ways_at q h) h 0 a.nodes)
    (leaf_rect hash holds q h fs t f x given a r false c missed is)

leaf_found : {H : Type 0} (hash : List ℕ → List ℕ) (holds : H → List ℕ → Type 0) (q : Question) (m : Machine H)
    (given : List Record) (handed_on : Bool) (r : Record) (g k : Grammar Parsed) (broken : Option Rule) → m.latest ≡ r
    → noted g ≡ [] → past_notes g ≡ past_notes k
    → ClosesNode hash holds q m (plus handed_on given r) k broken
    → StepsPastField hash holds q m given (notes (opens r handed_on) g) (found_by broken handed_on)
leaf_found hash holds q m given handed_on r g k None same quiet e w =
    found_steps hash holds q m given handed_on r g same quiet (record {
      next = w.next;
      past = e
          ∙ w.past;
      waits = w.waits;
    })
leaf_found hash holds q m given handed_on r g k (Some d) same quiet e w = e ∙ w

pub leaf_closed : {H : Type 0} (hash : List ℕ → List ℕ) (holds : H → List ℕ → Type 0) (q : Question) (h : Head)
    (fs : List (Frame H)) (t : Counts) (m : Machine H) (f : Frame H) (x : Entry) (handed_on : Bool)
    (given : List Record)
    (a : Above) (r : Record) (broken : Option Rule) → m.latest ≡ r → IsClosing (scheme hash h) holds f.node 0 x
    → opens_seen (ways_at q h) (option_map (key_at h.version x.mask) x.rect) ≡ true → handed_on ≡ is_handed_out q h r
    → ((os : List Open) (P : Cut) → HasReadCut hash holds q h fs t x (plus handed_on given r) os P
    → ClosesNode hash holds q m (plus handed_on given r) (after (ways_at q h) h x.level os P) broken)
    → LeafRead hash holds q h fs t f (plus handed_on given r) a r
    → StepsPastField hash holds q m given (after_record (ways_at q h) h 0 a.nodes a.records r)
    (found_by broken handed_on)
leaf_closed hash holds q h fs t m f x handed_on given a r broken same c meets is_met behind_it is =
    let way = ways_at q h in
    let all = a.records ++ r ∷ [] in
    let behind = opened h.version way (Leaf all) (after way h 0 a.nodes) in
    subst (λ (b : Bool). StepsPastField hash holds q m given (notes (opens r b) behind) (found_by broken handed_on))
    is_met
    (leaf_found hash holds q m given handed_on r behind (after way h 0 a.nodes (Leaf all)) broken same
    (after_quiet way h 0 a.nodes (Leaf all))
    (past_met h.version way (Leaf all) (after way h 0 a.nodes)
    (leaf_rect hash holds q h fs t f x (plus handed_on given r) a r true c meets is))
    (closed_at hash holds q m h (plus handed_on given r) way 0 x.level a.nodes (Leaf all) broken c.level
    (behind_it a.nodes (Leaf all) (leaf_said hash holds q h fs t f x (plus handed_on given r) a r c is))))

-- a field of a record that is not its last
pub sides_on : {H : Type 0} (hash : List ℕ → List ℕ) (holds : H → List ℕ → Type 0) (q : Question) (m : Machine H)
    (n : ℕ) (given : List Record) (a : Above) → IsLeaf m.head.version holds m.leaf a.records
    → InTree hash holds q m.head (frames_of m) m.tally 0 given a
    → StepsPastField hash holds q (record m { stage = stage.Sides n }) given
    (behind_number m.head.version (after_record (ways_at q m.head) m.head m.leaf.left a.nodes a.records) n) stepped.On
sides_on hash holds q m n given a leaf is =
    let g = behind_number m.head.version (after_record (ways_at q m.head) m.head m.leaf.left a.nodes a.records) n in
    waits_on hash holds q (record m { stage = stage.Sides n }) given g g refl refl
    (record { above = a; whole = None; waits = refl; is_open = (leaf, is) })

-- behind the rectangle, where the version that is told stands in the head
pub layer_on : {H : Type 0} (hash : List ℕ → List ℕ) (holds : H → List ℕ → Type 0) (q : Question) (m : Machine H)
    (u : Version) (n : ℕ) (r : Rectangle) (given : List Record) (a : Above)
    → IsLeaf m.head.version holds m.leaf a.records
    → InTree hash holds q m.head (frames_of m) m.tally 0 given a
    → StepsPastField hash holds q (record m { stage = behind_rect u n r }) given
    (behind_sides u (after_record (ways_at q m.head) m.head m.leaf.left a.nodes a.records) n r) stepped.On
layer_on hash holds q m One n r given a leaf is =
    let g = behind_sides One (after_record (ways_at q m.head) m.head m.leaf.left a.nodes a.records) n r in
    waits_on hash holds q (record m { stage = stage.Length n r 0 }) given g g refl refl
    (record { above = a; whole = None; waits = refl; is_open = (leaf, is) })
layer_on hash holds q m Two n r given a leaf is =
    let g = behind_sides Two (after_record (ways_at q m.head) m.head m.leaf.left a.nodes a.records) n r in
    waits_on hash holds q (record m { stage = stage.Layer n r }) given g g refl refl
    (record { above = a; whole = None; waits = refl; is_open = (leaf, is) })

pub length_on : {H : Type 0} (hash : List ℕ → List ℕ) (holds : H → List ℕ → Type 0) (q : Question) (m : Machine H)
    (n : ℕ) (r : Rectangle) (y : ℕ) (given : List Record) (a : Above) → IsLeaf m.head.version holds m.leaf a.records
    → InTree hash holds q m.head (frames_of m) m.tally 0 given a
    → StepsPastField hash holds q (record m { stage = stage.Length n r y }) given
    (behind_layer (after_record (ways_at q m.head) m.head m.leaf.left a.nodes a.records) n r y) stepped.On
length_on hash holds q m n r y given a leaf is =
    let g = behind_layer (after_record (ways_at q m.head) m.head m.leaf.left a.nodes a.records) n r y in
    waits_on hash holds q (record m { stage = stage.Length n r y }) given g g refl refl
    (record { above = a; whole = None; waits = refl; is_open = (leaf, is) })

pub payload_on : {H : Type 0} (hash : List ℕ → List ℕ) (holds : H → List ℕ → Type 0) (q : Question) (m : Machine H)
    (n : ℕ) (r : Rectangle) (y l : ℕ) (given : List Record) (a : Above) → 0 < l
    → IsLeaf m.head.version holds m.leaf a.records
    → InTree hash holds q m.head (frames_of m) m.tally 0 given a
    → StepsPastField hash holds q (record m { stage = stage.Payload n r y l }) given
    (behind_length (after_record (ways_at q m.head) m.head m.leaf.left a.nodes a.records) n r y l) stepped.On
payload_on hash holds q m n r y l given a some leaf is =
    let next = after_record (ways_at q m.head) m.head m.leaf.left a.nodes a.records in
    let is_not : eqb l 0 ≡ false = ne_eqb l 0 (λ e. omega arith) in
    let g = reads (want.Payload l) (λ p. next (record { number = n; rect = r; layer = y; payload = bytes_in p })) in
    let here : behind_length next n r y l ≡ g = rw is_not refl in
    waits_on hash holds q (record m { stage = stage.Payload n r y l }) given (behind_length next n r y l) g
    (ap noted here) (ap past_notes here)
    (record { above = a; whole = None; waits = refl; is_open = (leaf, is) })
