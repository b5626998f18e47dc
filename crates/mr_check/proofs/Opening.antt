-- Open nodes: what is known of them once one more child, or record, was read.
use Rattle.std.proofs.Common.{◌≡◌, ℕ, zero, suc, ◌-◌, ◌+◌, ◌<◌, true, false, List, [], ◌∷◌, ◌++◌, length, Err, refl, sym, ap, subst, ◌∙◌, append_assoc, arith}
use Rattle.std.specs.Prelude.{option_map}
use Rattle.std.specs.List.{flat_map}
use Rattle.std.proofs.lemmas.List.{append-nil, map-append, length-append}
use Rattle.std.proofs.lemmas.Grind.{flat_map-append}
use Rattle.mr_record.specs.declared.record.Record.{Record}
use Rattle.mr_tree.specs.Tree.{first_level}
use Rattle.mr_tree.specs.Digest.{Scheme, entry_step, level_over, inner_tag}
use Rattle.mr_tree.specs.HasHashed.{HasHashed, Piece, of_entry}
use Rattle.mr_tree.specs.declared.entry.Entry.{Entry}
use Rattle.mr_record.specs.declared.version.Version.{Version}
use Rattle.mr_tree.specs.declared.node_hasher.NodeHasher.{NodeHasher}
pub use Rattle.mr_check.specs.private.OpenNodes.{Adds}
use Rattle.mr_check.specs.private.OpenNodes.{Gathered}
use Rattle.mr_tree.specs.declared.tree.Tree.TheOpen as node
use Rattle.mr_tree.proofs.Gathered.{inner_gathered}
use Rattle.mr_proof.specs.declared.head.Head.{Head}
use Rattle.mr_proof.specs.declared.rule.Rule.TheVariants as rule
use Rattle.mr_proof.specs.declared.want.Want.TheVariants as want
use Rattle.mr_proof.specs.Cut.{Cut, Cuts, Inner, no_more, first, cuts_of, rect, mask, entry, entries, records, all_records}
use Rattle.mr_proof.specs.Spelling.{Parsed}
use Rattle.mr_proof.specs.declared.way.Way.{Way}
use Rattle.mr_query.specs.declared.key.Key.{Key}
use Rattle.mr_proof.specs.Tight.{key_at, key_of, opens_seen}
use Rattle.mr_proof.specs.Grammar.{Grammar, reads, opened, some_items, item, tag_in}
use Rattle.mr_proof.proofs.Preimages.{entry-rect, entry-mask}
use Rattle.mr_check.specs.declared.frame.Frame.{Frame}
use Rattle.mr_check.specs.private.Stops.{past_notes, noted}
use Rattle.mr_check.specs.private.Machine.{Open, with_front, after, node_next, said_of, levels_of, pieces_of_cuts, IsFrame, so_far}

-- ---- cuts of children

pub with_front-append : (front : List Cut) (P : Cut) (Ps : Cuts)
    → with_front front (first P Ps) ≡ with_front (front ++ P ∷ []) Ps
with_front-append [] P Ps = refl
with_front-append (Q ∷ front) P Ps = ap (first Q) (with_front-append front P Ps)

pub with_front-none : (front : List Cut) → with_front front no_more ≡ cuts_of front
with_front-none [] = refl
with_front-none (P ∷ front) = ap (first P) (with_front-none front)

entries-cuts_of : (s : Scheme) (w : ℕ) (front : List Cut) → entries s w (cuts_of front) ≡ said_of s w front
entries-cuts_of s w [] = refl
entries-cuts_of s w (P ∷ front) = ap (λ (es : List Entry). entry s w P ∷ es) (entries-cuts_of s w front)

pub records-cuts_of : (front : List Cut) → all_records (cuts_of front) ≡ flat_map records front
records-cuts_of [] = refl
records-cuts_of (P ∷ front) = ap (λ (rs : List Record). records P ++ rs) (records-cuts_of front)

-- the level of the first child is that of the first read
first_stays : (w : ℕ) (es : List Entry) (x : Entry) → (0 < length es → first_level (levels_of es) ≡ w)
    → x.level ≡ w → first_level (levels_of (es ++ x ∷ [])) ≡ w
first_stays w [] x so is = is
first_stays w (e ∷ es) x so is = so (omega arith)

length-said : (s : Scheme) (w : ℕ) (front : List Cut) → length (said_of s w front) ≡ length front
length-said s w [] = refl
length-said s w (P ∷ front) = ap suc (length-said s w front)

-- ---- one more child

-- what is gathered of an open node, once a cut of the child under way was read
pub record Grown {H : Type 0} (s : Scheme) (holds : H → List ℕ → Type 0) (n : NodeHasher H) (o : Open) (P : Cut)
    (w : ℕ) : Type 0 where
  pub gathers : Gathered holds n (inner_tag ∷ (w + 1) ∷ (length o.front + (o.left + 1)) ∷ [])
      (pieces_of_cuts s w (o.front ++ P ∷ []))
  pub level : first_level (levels_of (said_of s w (o.front ++ P ∷ []))) ≡ w

pub grown : {H : Type 0} (s : Scheme) (holds : H → List ℕ → Type 0) (f : Frame H) (n : NodeHasher H) (o : Open)
    (P : Cut) (x : Entry) → IsFrame s holds x.level f o → entry s x.level P ≡ x
    → Adds s.version holds f.node n x
    → Grown s holds n o P x.level
grown s holds f n o P x is says adds =
    let w = x.level in
    let es = said_of s w o.front in
    let new : said_of s w (o.front ++ P ∷ []) ≡ es ++ x ∷ [] = map-append (entry s w) o.front (P ∷ [])
    ∙ ap (λ (e : Entry). es ++ e ∷ []) says in
    let parts : pieces_of_cuts s w o.front ++ of_entry s.version x ∷ [] ≡ pieces_of_cuts s w (o.front ++ P ∷ []) =
    (λ i. pieces_of_cuts s w o.front ++ of_entry s.version (sym says i) ∷ [])
    ∙ sym (map-append (λ (P : Cut). of_entry s.version (entry s w P)) o.front (P ∷ [])) in
    record {
      gathers = subst (Gathered holds n (inner_tag ∷ (w + 1) ∷ (length o.front + (o.left + 1)) ∷ []))
          parts (adds _ _ is.gathers);
      level = ap (λ (es : List Entry). first_level (levels_of es)) new
          ∙ first_stays w es x (λ lt. is.level (omega (arith, length-said s w o.front))) refl;
    }

-- the open node behind that child
abbrev pub one_on : Open → Cut → Open
one_on o P = record { front = o.front ++ P ∷ []; left = o.left - 1 }

pub stays_open : {H : Type 0} (s : Scheme) (holds : H → List ℕ → Type 0) (f : Frame H) (n : NodeHasher H) (o : Open)
    (P : Cut) (w : ℕ) → Grown s holds n o P w → f.left ≡ o.left → 0 < f.left
    → IsFrame s holds w (record { node = n; left = f.left - 1 }) (one_on o P)
stays_open s holds f n o P w is left some =
    let count : length o.front + (o.left + 1) ≡ length (o.front ++ P ∷ []) + ((o.left - 1) + 1) = omega
    (arith, left, length-append o.front (P ∷ [])) in
    record {
      left = ap (λ (n : ℕ). n - 1) left;
      gathers = subst (λ (k : ℕ). Gathered holds n (inner_tag ∷ (w + 1) ∷ k ∷ [])
          (pieces_of_cuts s w (o.front ++ P ∷ []))) count is.gathers;
      level = λ _. is.level;
    }

-- the node with that child as its last
abbrev pub closed : Open → Cut → Cut
closed o P = Inner (cuts_of (o.front ++ P ∷ []))

-- what is said of it
pub record IsClosing {H : Type 0} (s : Scheme) (holds : H → List ℕ → Type 0) (n : NodeHasher H) (w : ℕ)
    (x : Entry) : Type 0 where
  pub level : x.level ≡ w
  pub rect : x.rect ≡ n.rect
  pub mask : x.mask ≡ n.mask
  pub count : x.count ≡ n.count
  pub digest : (fed : List ℕ) → holds n.hasher fed → x.digest ≡ s.of fed

pub said_closed : {H : Type 0} (s : Scheme) (holds : H → List ℕ → Type 0) (n : NodeHasher H) (o : Open)
    (P : Cut) (w : ℕ) (x : Entry) → Grown s holds n o P w → o.left ≡ 0 → IsClosing s holds n (w + 1) x
    → entry s x.level (closed o P) ≡ x
said_closed s holds n o P w x is none c =
    let all = o.front ++ P ∷ [] in
    let long : length o.front + (o.left + 1) ≡ length all = omega (arith, length-append o.front (P ∷ [])) in
    let below : x.level - 1 ≡ w = omega (arith, c.level) in
    let children : entries s (x.level - 1) (cuts_of all) ≡ said_of s w all =
    ap (λ (k : ℕ). entries s k (cuts_of all)) below ∙ entries-cuts_of s w all in
    let level_is : w + 1 ≡ level_over (said_of s w all) = ap (λ (n : ℕ). n + 1) (sym is.level) in
    let gathers : HasHashed (holds n.hasher) x.rect x.mask x.count (inner_tag ∷ (w + 1) ∷ length all ∷ [])
    (pieces_of_cuts s w all) = record {
      fed = subst (λ (k : ℕ). holds n.hasher ((inner_tag ∷ (w + 1) ∷ k ∷ [])
          ++ flat_map (λ (p : Piece). p.bytes) (pieces_of_cuts s w all))) long is.gathers.fed;
      round = c.rect ∙ is.gathers.round;
      layers = c.mask ∙ is.gathers.layers;
      tally = c.count ∙ is.gathers.tally;
    } in
    ap (λ (es : List Entry). entry_step s (node.Inner es)) children
    ∙ sym (inner_gathered s (holds n.hasher) (entry s w) all (w + 1) x level_is c.level gathers c.digest)

-- what is seen of a cut of which this is said
pub seen_by : (s : Scheme) (way : Key → Way) (v : ℕ) (P : Cut) (x : Entry) → entry s v P ≡ x
    → opens_seen way (key_of s.version P) ≡ opens_seen way (option_map (key_at s.version x.mask) x.rect)
seen_by s way v P x says =
    let place : rect P ≡ x.rect = sym (entry-rect s v P) ∙ ap (λ (y : Entry). y.rect) says in
    let layers : mask s.version P ≡ x.mask = sym (entry-mask s v P) ∙ ap (λ (y : Entry). y.mask) says in
    λ i. opens_seen way (option_map (key_at s.version (layers i)) (place i))

pub records_closed : (os : List Open) (o : Open) (P : Cut)
    → so_far (o ∷ os) ++ records P ≡ so_far os ++ records (closed o P)
records_closed os o P =
    let last : flat_map records (P ∷ []) ≡ records P = append-nil (records P) in
    append_assoc (so_far os) (flat_map records o.front) (records P)
    ∙ ap (λ (rs : List Record). so_far os ++ rs)
    (ap (λ (rs : List Record). flat_map records o.front ++ rs) (sym last)
    ∙ sym (flat_map-append records o.front (P ∷ []))
    ∙ sym (records-cuts_of (o.front ++ P ∷ [])))

pub records_on : (os : List Open) (o : Open) (P : Cut)
    → so_far (o ∷ os) ++ records P ≡ so_far (one_on o P ∷ os) ++ []
records_on os o P =
    records_closed os o P ∙ ap (λ (rs : List Record). so_far os ++ rs) (records-cuts_of (o.front ++ P ∷ []))
    ∙ sym (append-nil (so_far (one_on o P ∷ os)))

-- ---- what follows a node

pub item_waits : (u : Version) (way : Key → Way) (v : ℕ) (next : Cut → Grammar Parsed)
    → item u way v next ≡ reads (want.Tag v) (λ t. node_next u way v next (tag_in t))
item_waits u way zero next = refl
item_waits u way (suc v) next = refl

items_more : (u : Version) (way : Key → Way) (w n : ℕ) (front : List Cut) (P : Cut) (X : Cuts → Grammar Parsed)
    → some_items (item u way w) (suc n) (λ Ps. X (with_front front (first P Ps)))
    ≡ item u way w (λ Q. some_items (item u way w) n (λ Ps. X (with_front (front ++ P ∷ []) (first Q Ps))))
items_more u way w n front P X =
    λ j. item u way w (λ Q. some_items (item u way w) n (λ Ps. X (with_front-append front P (first Q Ps) j)))

-- where more children follow, the next one's item does
pub after_more : (way : Key → Way) (h : Head) (w : ℕ) (o : Open) (os : List Open) (P : Cut) → 0 < o.left
    → after way h w (o ∷ os) P ≡ item h.version way w (after way h w (one_on o P ∷ os))
after_more way h w o os P some =
    let e : o.left ≡ suc (o.left - 1) = omega arith in
    let X = λ (Ps : Cuts). opened h.version way (Inner Ps) (after way h (w + 1) os) in
    ap (λ (n : ℕ). some_items (item h.version way w) n (λ Ps. X (with_front o.front (first P Ps)))) e
    ∙ items_more h.version way w (o.left - 1) o.front P X

-- where none does, the node is whole
pub after_last : (way : Key → Way) (h : Head) (w : ℕ) (o : Open) (os : List Open) (P : Cut) → o.left ≡ 0
    → after way h w (o ∷ os) P ≡ opened h.version way (closed o P) (after way h (w + 1) os)
after_last way h w o os P none =
    let X = λ (Ps : Cuts). opened h.version way (Inner Ps) (after way h (w + 1) os) in
    ap (λ (n : ℕ). some_items (item h.version way w) n (λ Ps. X (with_front o.front (first P Ps)))) none
    ∙ ap X (with_front-append o.front P no_more ∙ with_front-none (o.front ++ P ∷ []))

items_quiet : (u : Version) (way : Key → Way) (w n : ℕ) (X : Cuts → Grammar Parsed)
    → ((Ps : Cuts) → noted (X Ps) ≡ []) → noted (some_items (item u way w) n X) ≡ []
items_quiet u way w zero X quiet = quiet no_more
items_quiet u way w (suc n) X quiet =
    ap noted (item_waits u way w (λ P. some_items (item u way w) n (λ Ps. X (first P Ps))))

-- no record is noted behind a node
pub after_quiet : (way : Key → Way) (h : Head) (w : ℕ) (os : List Open) (P : Cut)
    → noted (after way h w os P) ≡ []
after_quiet way h w [] P = refl
after_quiet way h w (o ∷ os) P =
    items_quiet h.version way w o.left
    (λ Ps. opened h.version way (Inner (with_front o.front (first P Ps))) (after way h (w + 1) os))
    (λ Ps. after_quiet way h (w + 1) os (Inner (with_front o.front (first P Ps))))

-- past an opened node that the region meets, or misses
pub past_met : (u : Version) (way : Key → Way) (P : Cut) (next : Cut → Grammar Parsed)
    → opens_seen way (key_of u P) ≡ true → past_notes (opened u way P next) ≡ past_notes (next P)
past_met u way P next met = rw met refl

pub past_missed : (u : Version) (way : Key → Way) (P : Cut) (next : Cut → Grammar Parsed)
    → opens_seen way (key_of u P) ≡ false → past_notes (opened u way P next) ≡ Err rule.Needless
past_missed u way P next missed = rw missed refl
