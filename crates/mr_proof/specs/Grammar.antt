-- Which field comes next in a proof, by the fields before it, and what is noted between them.
use Rattle.std.specs.Prelude.{ℕ, zero, suc, Bool, not, ◌==◌, if◌then◌else◌, List, [], ◌∷◌, Option, Some, None}
use Rattle.mr_geom.specs.Rectangle.{Rectangle}
use Rattle.mr_record.specs.declared.record.Record.{Record}
use Rattle.mr_record.specs.declared.version.Version.{Version}
use Rattle.mr_record.specs.declared.version.Version.TheVariants.{One, Two}
use Rattle.mr_proof.specs.declared.head.Kind.{Kind}
use Rattle.mr_proof.specs.declared.head.Kind.TheVariants as kind
use Rattle.mr_proof.specs.declared.head.Head.{Head}
use Rattle.mr_proof.specs.declared.rule.Rule.{Rule}
use Rattle.mr_proof.specs.declared.rule.Rule.TheVariants as rule
use Rattle.mr_proof.specs.declared.want.Want.{Want}
use Rattle.mr_proof.specs.declared.want.Want.TheVariants as want
use Rattle.mr_proof.specs.declared.field.Field.{Field}
use Rattle.mr_proof.specs.Fields.{pruned_tag}
pub use Rattle.mr_proof.specs.Fields.{number_in, version_in, wide_in, tag_in, rect_in, bytes_in}
use Rattle.mr_proof.specs.Cut.{Cut, Cuts, Pruned, Leaf, Inner, no_more, first}
use Rattle.mr_proof.specs.Spelling.{Parsed, said}
use Rattle.mr_proof.specs.declared.way.Way.{Way}
use Rattle.mr_query.specs.declared.key.Key.{Key}
use Rattle.mr_proof.specs.Tight.{key_at, key_of, opens_seen, opens_at, keeps_record}

-- What the fields so far say: that the rule is broken, unless this test passes; or that the record
-- was opened, and whether it is not left out. A note stands at the last field before it.
pub data Note : Type 0 where
  must : Rule → Bool → Note
  opens : Record → Bool → Note

-- what comes next: nothing more; a field, whose value says what follows it; or a note, which is no
-- field
pub data Grammar (A : Type 0) : Type 0 where
  done : A → Grammar A
  reads : Want → (Field → Grammar A) → Grammar A
  notes : Note → Grammar A → Grammar A

-- ---- records and items, and what follows them

-- a payload of n bytes; none is no field
abbrev pub payload : {A : Type 0} → ℕ → (List ℕ → Grammar A) → Grammar A
payload n next = if n == 0 then next [] else reads (want.Payload n) (λ p. next (bytes_in p))

-- the layer of a record, which the first version does not tell
abbrev pub layer : {A : Type 0} → Version → (ℕ → Grammar A) → Grammar A
layer One next = next 0
layer Two next = reads want.Layer (λ l. next (number_in l))

abbrev pub one_record : {A : Type 0} → Version → (Record → Grammar A) → Grammar A
one_record v next =
    reads want.Number (λ n. reads want.Rect
    (λ r. layer v (λ i. reads want.Length (λ l. payload (number_in l) (λ p.
    next (record { number = number_in n; rect = rect_in r; layer = i; payload = p }))))))

-- n records of a leaf
abbrev pub some_records : {A : Type 0} → Version → (Key → Way) → ℕ → (List Record → Grammar A)
    → Grammar A
some_records v way zero next = next []
some_records v way (suc n) next =
    one_record v (λ r. notes (opens r (keeps_record way r))
    (some_records v way n (λ rs. next (r ∷ rs))))

-- a node that was opened, and was to be
abbrev pub opened : {A : Type 0} → Version → (Key → Way) → Cut → (Cut → Grammar A) → Grammar A
opened v way P next = notes (must rule.Needless (opens_seen way (key_of v P))) (next P)

-- a leaf, behind its tag
abbrev pub leaf : {A : Type 0} → Version → (Key → Way) → (Cut → Grammar A) → Grammar A
leaf v way next =
    reads want.LeafCount (λ n. some_records v way (number_in n)
    (λ rs. opened v way (Leaf rs) next))

-- n items, each of this grammar
abbrev pub some_items : {A : Type 0} → ((Cut → Grammar A) → Grammar A) → ℕ → (Cuts → Grammar A)
    → Grammar A
some_items one zero next = next no_more
some_items one (suc n) next = one (λ P. some_items one n (λ Ps. next (first P Ps)))

-- an inner node, behind its tag, with items of this grammar
abbrev pub inner : {A : Type 0} → Version → (Key → Way) → ((Cut → Grammar A) → Grammar A)
    → (Cut → Grammar A) → Grammar A
inner v way one next =
    reads want.InnerCount (λ n. some_items one (number_in n) (λ Ps. opened v way (Inner Ps) next))

-- a part of this key was to be pruned
abbrev pub unopened : {A : Type 0} → (Key → Way) → Key → Grammar A → Grammar A
unopened way part next = notes (must rule.Hidden (not (opens_at way part))) next

-- the mask and the count of a part with this rectangle, which was to be pruned; the first version
-- tells neither
abbrev pub layers_and_count : {A : Type 0} → Version → (Key → Way) → Rectangle
    → (ℕ → ℕ → Grammar A) → Grammar A
layers_and_count One way r next = unopened way (key_at One 0 r) (next 0 0)
layers_and_count Two way r next =
    reads want.Mask (λ m. unopened way (key_at Two (number_in m) r)
    (reads want.Tally (λ c. next (number_in m) (number_in c))))

-- a pruned part, behind its tag
abbrev pub pruned : {A : Type 0} → Version → (Key → Way) → (Cut → Grammar A) → Grammar A
pruned v way next =
    reads want.Rect (λ r. layers_and_count v way (rect_in r) (λ m c. reads want.Digest (λ d.
    next (Pruned (record { rect = rect_in r; mask = m; count = c; digest = bytes_in d })))))

-- an item of this level
abbrev pub item : {A : Type 0} → Version → (Key → Way) → ℕ → (Cut → Grammar A) → Grammar A
item v way zero next =
    reads (want.Tag 0) (λ t. if tag_in t == pruned_tag then pruned v way next else leaf v way
    next)
item v way (suc level) next =
    reads (want.Tag (suc level)) (λ t. if tag_in t == pruned_tag then pruned v way next else inner
    v way (item v way level) next)

-- ---- the head, and the whole proof

-- the squared radius behind its flag, in a proof for nearest records
abbrev pub radius : {A : Type 0} → Kind → (Option ℕ → Grammar A) → Grammar A
radius kind.W next = next None
radius (kind.Choice letter) next = next None
radius kind.K next =
    reads want.Flag (λ f. if number_in f == 0 then next None else reads want.Radius
    (λ r. next (Some (wide_in r))))

-- the level, where there are records
abbrev pub level : {A : Type 0} → ℕ → (ℕ → Grammar A) → Grammar A
level count next = if count == 0 then next 0 else reads want.Level (λ l. next (number_in l))

-- a head of this kind, where only the second version may come of that
abbrev pub head : {A : Type 0} → Kind → (two_only : Bool) → (Head → Grammar A) → Grammar A
head k two_only next =
    reads want.Magic (λ _. reads (want.Version two_only)
    (λ v. reads (want.Kind k) (λ _. reads want.Batch (λ b. reads want.Count (λ c.
    radius k (λ r. level (number_in c) (λ l.
    next (record {
      version = version_in v;
      kind = k;
      batch = number_in b;
      count = number_in c;
      radius = r;
      level = l;
    }))))))))

-- what follows the head: where there are records, an item of the head's level
abbrev pub part : (Option ℕ → Key → Way) → Head → Grammar Parsed
part way h =
    if h.count == 0 then done (said h None) else item h.version (way h.radius) h.level
    (λ P. done (said h (Some P)))

-- a whole proof of this kind, of the second version where only that may come, in which parts have
-- these ways by the head's radius
abbrev pub whole : Kind → (two_only : Bool) → (Option ℕ → Key → Way) → Grammar Parsed
whole k two_only way = head k two_only (part way)
