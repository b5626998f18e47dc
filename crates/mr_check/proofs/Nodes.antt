-- Nodes that were read whole.
use Rattle.std.proofs.Common.{◌≡◌, ℕ, ◌-◌, ◌+◌, ◌<◌, true, false, List, [], ◌∷◌, reverse, Err, Option, Some, None, refl, sym, ap, subst, ◌∙◌, arith}
use Rattle.std.specs.Prelude.{filter, option_map, not, ◌==◌}
use Rattle.mr_record.specs.declared.record.Record.{Record}
use Rattle.mr_tree.specs.Digest.{root_preimage}
use Rattle.mr_tree.specs.declared.entry.Entry.{Entry}
use Rattle.mr_tree.specs.declared.node_hasher.NodeHasher.{NodeHasher}
use Rattle.mr_proof.specs.declared.head.Head.{Head}
use Rattle.mr_proof.specs.declared.rule.Rule.{Rule}
use Rattle.mr_proof.specs.declared.rule.Rule.TheVariants as rule
use Rattle.mr_proof.specs.declared.want.Want.TheVariants as want
use Rattle.mr_proof.specs.Cut.{Cut, rect, mask, count, digest}
use Rattle.mr_proof.specs.Spelling.{Parsed, said}
use Rattle.mr_record.specs.Version.{told}
use Rattle.mr_proof.specs.Tight.{key_at, key_of, opens_seen, Question}
use Rattle.mr_proof.specs.Grammar.{Grammar, done, reads, tag_in}
use Rattle.mr_proof.proofs.Preimages.{entry-rect, entry-mask, entry-count}
use Rattle.mr_check.specs.declared.frame.Frame.{Frame}
use Rattle.mr_check.specs.declared.frame.Stack.{Stack}
use Rattle.mr_check.specs.declared.stage.Stage.TheVariants as stage
use Rattle.mr_check.specs.declared.counts.Counts.{Counts}
use Rattle.mr_check.specs.declared.machine.Machine.{Machine}
use Rattle.mr_check.specs.Whole.{whole_of}
use Rattle.mr_check.specs.private.Stops.{past_notes}
use Rattle.mr_check.specs.private.Counting.{capped}
use Rattle.mr_check.specs.private.Machine.{Open, after, node_next, ways_at, is_handed_out, scheme, AreFrames, HasReadCut, WaitsPast, ClosesNode}
use Rattle.mr_check.proofs.WholeCounts.{whole_on, whole_closed}
use Rattle.mr_check.proofs.Opening.{Adds, IsClosing, grown, one_on, stays_open, closed, said_closed, seen_by, records_closed, records_on, item_waits, after_more, after_last, past_met, past_missed}

-- the root node
pub closed_root : {H : Type 0} (hash : List ℕ → List ℕ) (holds : H → List ℕ → Type 0) (q : Question) (m : Machine H)
    (s : Stack (Frame H)) (node : Entry) (given : List Record) (os : List Open) (P : Cut)
    → HasReadCut hash holds q m.head [] m.tally node given os P
    → WaitsPast hash holds q (record m { frames = s; stage = stage.End node }) given
    (after (ways_at q m.head) m.head node.level os P)
closed_root hash holds q m s node given [] P r =
    let at : node.level ≡ m.head.level = omega (arith, r.depth) in
    let place : node.rect ≡ rect P = sym (ap (λ (y : Entry). y.rect) r.says)
    ∙ entry-rect (scheme hash m.head) node.level P in
    let layers : node.mask ≡ mask m.head.version P = sym (ap (λ (y : Entry). y.mask) r.says)
    ∙ entry-mask (scheme hash m.head) node.level P in
    let tallied : node.count ≡ count m.head.version P = sym (ap (λ (y : Entry). y.count) r.says)
    ∙ entry-count (scheme hash m.head) node.level P in
    let same : node.digest ≡ digest (scheme hash m.head) m.head.level P =
    sym (ap (λ (y : Entry). y.digest) r.says) ∙ ap (λ (k : ℕ). digest (scheme hash m.head) k P) at in
    let alone : 0 + whole_of m.head.version (ways_at q m.head) P ≡ whole_of m.head.version (ways_at q m.head) P =
    omega arith in
    record {
      next = done (said m.head (Some P));
      past = refl;
      waits = record {
        above = record { nodes = []; records = [] };
        whole = Some P;
        waits = refl;
        is_open = record {
          root = λ i. root_preimage m.head.version m.head.batch m.head.count (record
              { level = at i; rect = place i; mask = layers i; count = node.count; digest = same i });
          rect = place;
          counted = ap (λ (n : ℕ). not (n == told m.head.version m.head.count)) tallied;
          kept = r.kept;
          tally = r.tally;
          whole = r.whole ∙ ap capped alone;
        };
      };
    }
closed_root hash holds q m s node given (o ∷ os) P r = absurd r.frames

-- a child with others behind it
pub closed_child : {H : Type 0} (hash : List ℕ → List ℕ) (holds : H → List ℕ → Type 0) (q : Question) (m : Machine H)
    (s : Stack (Frame H)) (f : Frame H) (n : NodeHasher H) (fs : List (Frame H)) (node : Entry) (given : List Record)
    (os : List Open) (P : Cut) → Adds m.head.version holds f.node n node → 0 < f.left
    → reverse s.list.items ≡ record { node = n; left = f.left - 1 } ∷ fs
    → HasReadCut hash holds q m.head (f ∷ fs) m.tally node given os P
    → WaitsPast hash holds q (record m { frames = s; stage = stage.Tag node.level }) given
    (after (ways_at q m.head) m.head node.level os P)
closed_child hash holds q m s f n fs node given [] P adds some there r = absurd r.frames
closed_child hash holds q m s f n fs node given (o ∷ os) P adds some there r =
    let way = ways_at q m.head in
    let v = node.level in
    let more = grown (scheme hash m.head) holds f n o P node r.frames.0 r.says adds in
    let on : 0 < o.left = omega (arith, r.frames.0.left) in
    let next = after way m.head v (one_on o P ∷ os) in
    let reads_on : after way m.head v (o ∷ os) P
    ≡ reads (want.Tag v) (λ t. node_next m.head.version way v next (tag_in t)) =
    after_more way m.head v o os P on ∙ item_waits m.head.version way v next in
    record {
      next = reads (want.Tag v) (λ t. node_next m.head.version way v next (tag_in t));
      past = ap past_notes reads_on;
      waits = record {
        above = record { nodes = one_on o P ∷ os; records = [] };
        whole = None;
        waits = refl;
        is_open = (
          refl,
          record {
            depth = r.depth;
            frames = subst (λ (gs : List (Frame _)). AreFrames (scheme hash m.head) holds v gs (one_on o P ∷ os))
                (sym there)
                (stays_open (scheme hash m.head) holds f n o P v more r.frames.0.left some, r.frames.1);
            kept = r.kept ∙ ap (filter (is_handed_out q m.head)) (records_on os o P);
            tally = r.tally;
            whole = r.whole ∙ ap capped (whole_on m.head.version way os o P);
          },
        );
      };
    }

-- the last child of a node that the region misses
pub missed_parent : {H : Type 0} (hash : List ℕ → List ℕ) (holds : H → List ℕ → Type 0) (q : Question) (h : Head)
    (t : Counts) (f : Frame H) (n : NodeHasher H) (fs : List (Frame H)) (node x : Entry) (given : List Record)
    (os : List Open) (P : Cut) → Adds h.version holds f.node n node → f.left ≡ 0
    → IsClosing (scheme hash h) holds n (node.level + 1) x
    → opens_seen (ways_at q h) (option_map (key_at h.version x.mask) x.rect) ≡ false
    → HasReadCut hash holds q h (f ∷ fs) t node given os P
    → past_notes (after (ways_at q h) h node.level os P) ≡ Err rule.Needless
missed_parent hash holds q h t f n fs node x given [] P adds none c missed r = absurd r.frames
missed_parent hash holds q h t f n fs node x given (o ∷ os) P adds none c missed r =
    let way = ways_at q h in
    let v = node.level in
    let more = grown (scheme hash h) holds f n o P node r.frames.0 r.says adds in
    let whole : o.left ≡ 0 = sym r.frames.0.left ∙ none in
    let here : opens_seen way (key_of h.version (closed o P)) ≡ false =
    seen_by (scheme hash h) way x.level (closed o P) x (said_closed (scheme hash h) holds n o P v x more whole c)
    ∙ missed in
    ap past_notes (after_last way h v o os P whole)
    ∙ past_missed h.version way (closed o P) (after way h (v + 1) os) here

closes_as : {H : Type 0} (hash : List ℕ → List ℕ) (holds : H → List ℕ → Type 0) (q : Question) (m : Machine H)
    (given : List Record) (g k : Grammar Parsed) (result : Option Rule) → past_notes g ≡ past_notes k
    → ClosesNode hash holds q m given k result → ClosesNode hash holds q m given g result
closes_as hash holds q m given g k None e w = record { next = w.next; past = e ∙ w.past; waits = w.waits }
closes_as hash holds q m given g k (Some d) e w = e ∙ w

-- the last child of a node that the region meets, which is then whole itself
pub closed_parent : {H : Type 0} (hash : List ℕ → List ℕ) (holds : H → List ℕ → Type 0) (q : Question) (h : Head)
    (t : Counts) (m : Machine H) (f : Frame H) (n : NodeHasher H) (fs : List (Frame H)) (node x : Entry)
    (given : List Record) (result : Option Rule) (os : List Open) (P : Cut) → Adds h.version holds f.node n node
    → f.left ≡ 0
    → IsClosing (scheme hash h) holds n (node.level + 1) x
    → opens_seen (ways_at q h) (option_map (key_at h.version x.mask) x.rect) ≡ true
    → ((os : List Open) (P : Cut) → HasReadCut hash holds q h fs t x given os P
    → ClosesNode hash holds q m given (after (ways_at q h) h x.level os P) result)
    → HasReadCut hash holds q h (f ∷ fs) t node given os P
    → ClosesNode hash holds q m given (after (ways_at q h) h node.level os P) result
closed_parent hash holds q h t m f n fs node x given result [] P adds none c met behind_it r = absurd r.frames
closed_parent hash holds q h t m f n fs node x given result (o ∷ os) P adds none c met behind_it r =
    let way = ways_at q h in
    let v = node.level in
    let more = grown (scheme hash h) holds f n o P node r.frames.0 r.says adds in
    let whole : o.left ≡ 0 = sym r.frames.0.left ∙ none in
    let here : opens_seen way (key_of h.version (closed o P)) ≡ true =
    seen_by (scheme hash h) way x.level (closed o P) x (said_closed (scheme hash h) holds n o P v x more whole c)
    ∙ met in
    closes_as hash holds q m given (after way h v (o ∷ os) P) (after way h x.level os (closed o P)) result
    (ap past_notes (after_last way h v o os P whole)
    ∙ past_met h.version way (closed o P) (after way h (v + 1) os) here
    ∙ ap (λ (k : ℕ). past_notes (after way h k os (closed o P))) (sym c.level))
    (behind_it os (closed o P) (record {
      says = said_closed (scheme hash h) holds n o P v x more whole c;
      depth = omega (arith, r.depth, c.level);
      frames = subst (λ (k : ℕ). AreFrames (scheme hash h) holds k fs os) (sym c.level) r.frames.1;
      kept = r.kept ∙ ap (filter (is_handed_out q h)) (records_closed os o P);
      tally = r.tally;
      whole = r.whole ∙ ap capped (whole_closed h.version way os o P);
    }))
