-- The progress of a reader of bytes, from field to field.
use Rattle.std.proofs.Common.{◌≡◌, ℕ, ◌-◌, ◌+◌, ◌<◌, ◌≤◌, Bool, true, false, ltb, List, [], ◌∷◌, ◌++◌, length, take, drop, Ok, Err, Option, Some, None, refl, sym, ap, subst, ◌∙◌, append_assoc, arith}
use Rattle.std.proofs.lemmas.Bool.{ltb-true, ltb-false}
use Rattle.std.proofs.lemmas.List.{append-nil, length-append, take-append-drop, take-append-le, take_all, take-take, length-take-le}
use Rattle.mr_record.specs.Record.{record_bytes}
use Rattle.mr_record.specs.declared.record.Record.{Record}
use Rattle.mr_proof.specs.declared.rule.Rule.{Rule}
use Rattle.mr_proof.specs.declared.rule.Rule.TheVariants as rule
use Rattle.mr_proof.specs.declared.rule.Fault.{Fault}
use Rattle.mr_proof.specs.declared.want.Want.{Want}
use Rattle.mr_proof.specs.declared.want.Want.TheVariants as want
use Rattle.mr_proof.specs.declared.field.Field.{Field}
use Rattle.mr_proof.specs.declared.head.Head.{Head}
use Rattle.mr_proof.specs.Limits.{place_limit}
use Rattle.mr_proof.specs.Fields.{size_of, field_of}
use Rattle.mr_proof.specs.Cut.{Cut, Pruned}
use Rattle.mr_proof.specs.declared.pruned_entry.PrunedEntry.{PrunedEntry}
use Rattle.mr_proof.specs.Spelling.{Parsed, said}
use Rattle.mr_proof.specs.declared.way.Way.{Way}
use Rattle.mr_query.specs.declared.key.Key.{Key}
use Rattle.mr_proof.specs.Tight.{Question}
use Rattle.mr_proof.specs.Grammar.{Grammar, done, reads, number_in, tag_in, whole}
use Rattle.mr_proof.specs.Layout.{fault, Cursor, start}
use Rattle.mr_check.specs.declared.stage.Stage.{Stage}
use Rattle.mr_check.specs.declared.stage.Stage.TheVariants as stage
use Rattle.mr_check.specs.declared.reader.Reader.{Reader}
use Rattle.mr_check.specs.declared.reader.Progress.{Progress}
use Rattle.mr_check.specs.declared.reader.Progress.TheVariants as turns
use Rattle.mr_proof.specs.Handed.{is_fixed, handed, handed_out}
use Rattle.mr_check.specs.private.Stops.{Stop, waits, fails, stop, longer, cursor_at, resume, noted, stop_of}
use Rattle.mr_check.specs.private.Stages.{want_at, size_in, room_in}
use Rattle.mr_check.specs.private.Machine.{Above, IsOpen, WaitsForField, WaitsPast, after, after_record, node_next, behind_number, next_at, left_at, ways_at}
use Rattle.mr_check.specs.private.Reads.{want_of, last_field, digest_place, part_size, IsWholePart, IsWhole, StandsAt, WaitsBehind, Behind, MakesProgress, TakesSome, TakesJust}
use Rattle.mr_check.proofs.WholeRecords.{On, stand, record_on, quiet_on}
use Rattle.mr_check.proofs.WholeParts.{part_on, quiet_part}
use Rattle.mr_check.proofs.Stopping.{stop_more, handed_on, handed_more}
use Rattle.mr_check.proofs.Noting.{read_stop, read_handed, broken_stop, broken_handed, short_stop, short_handed, long_stop, long_fixed, short_fixed, end_stop, trailing_stop, past_stop, unless, past_handed}

-- ---- in front of the field under way

left_stop : (way : Option ℕ → Key → Way) (h : Head) (left : ℕ) (a : Above) (p : Option Cut) (w : Option Want)
    (s : Stage) (at last : ℕ) → 1 ≤ room_in w → at + size_in w ≤ place_limit
    → stop (left_at way h left a p w s) (cursor_at at last) ≡ waits (left_at way h left a p w s) (cursor_at at last)
left_stop way h left a p None s at last some within = end_stop (said h p) (cursor_at at last) refl
left_stop way h left a p (Some w) s at last some within =
    short_stop w (next_at way h left a s) (cursor_at at last) within some

left_fixed : (way : Option ℕ → Key → Way) (h : Head) (left : ℕ) (a : Above) (p : Option Cut) (w : Option Want)
    (s : Stage) (at : ℕ) → at + size_in w ≤ place_limit → is_fixed (left_at way h left a p w s) at ≡ false
left_fixed way h left a p None s at within = refl
left_fixed way h left a p (Some w) s at within = short_fixed w (next_at way h left a s) at within

left_handed : (way : Option ℕ → Key → Way) (h : Head) (left : ℕ) (a : Above) (p : Option Cut) (w : Option Want)
    (s : Stage) (at last : ℕ) → 1 ≤ room_in w → handed (left_at way h left a p w s) (cursor_at at last) ≡ []
left_handed way h left a p None s at last some = refl
left_handed way h left a p (Some w) s at last some =
    short_handed w (next_at way h left a s) (cursor_at at last) some

left_long : (way : Option ℕ → Key → Way) (h : Head) (left : ℕ) (a : Above) (p : Option Cut) (w : Option Want)
    (s : Stage) (at last : ℕ) → at ≤ place_limit → place_limit < at + size_in w
    → (stop (left_at way h left a p w s) (cursor_at at last) ≡ fails (fault rule.Long at))
    × (is_fixed (left_at way h left a p w s) at ≡ true)
left_long way h left a p None s at last low past = absurd (omega arith)
left_long way h left a p (Some w) s at last low past = (
  long_stop w (next_at way h left a s) (cursor_at at last) past,
  long_fixed w (next_at way h left a s) at past,
)

-- ---- behind a field

-- the next field ends past the limit
pub behind_long : {H : Type 0} (hash : List ℕ → List ℕ) (holds : H → List ℕ → Type 0) (q : Question) (r : Reader H)
    (given : List Record) (g : Grammar Parsed) (last : ℕ) → 1 ≤ room_in (want_of r) → r.at ≤ place_limit
    → ltb place_limit (r.at + size_in (want_of r)) ≡ true → WaitsPast hash holds q r.machine given g
    → (handed g (cursor_at r.at last) ≡ []) × (stop g (cursor_at r.at last) ≡ fails (fault rule.Long r.at))
behind_long hash holds q r given g last some low long w =
    let way = q.way in
    let m = r.machine in
    let a = w.waits.above in
    let p = w.waits.whole in
    let past = ltb-true place_limit (r.at + size_in (want_of r)) long in
    let both = left_long way m.head m.leaf.left a p (want_of r) m.stage r.at last low past in
    let none : handed w.next (cursor_at r.at last) ≡ [] = ap (λ (k : Grammar Parsed). handed k (cursor_at r.at last))
    w.waits.waits ∙ left_handed way m.head m.leaf.left a p (want_of r) m.stage r.at last some in
    let fixed : is_fixed w.next r.at ≡ true = ap (λ (k : Grammar Parsed). is_fixed k r.at) w.waits.waits ∙ both.1 in (
      past_handed g w.next (cursor_at r.at last) w.past none
          ∙ ap (λ (b : Bool). unless b (noted g)) fixed,
      past_stop g w.next (cursor_at r.at last) w.past
          ∙ ap (λ (k : Grammar Parsed). stop k (cursor_at r.at last)) w.waits.waits ∙ both.0,
    )

-- it does not
pub behind_short : {H : Type 0} (hash : List ℕ → List ℕ) (holds : H → List ℕ → Type 0) (q : Question) (r : Reader H)
    (given : List Record) (g : Grammar Parsed) (last : ℕ) → 1 ≤ room_in (want_of r)
    → ltb place_limit (r.at + size_in (want_of r)) ≡ false → r.held ≡ []
    → WaitsPast hash holds q r.machine given g
    → (handed g (cursor_at r.at last) ≡ noted g) × WaitsBehind hash holds q given r.at last r g
behind_short hash holds q r given g last some short empty w =
    let way = q.way in
    let m = r.machine in
    let a = w.waits.above in
    let p = w.waits.whole in
    let within = ltb-false place_limit (r.at + size_in (want_of r)) short in
    let none : handed w.next (cursor_at r.at last) ≡ [] = ap (λ (k : Grammar Parsed). handed k (cursor_at r.at last))
    w.waits.waits ∙ left_handed way m.head m.leaf.left a p (want_of r) m.stage r.at last some in
    let open_here : is_fixed w.next r.at ≡ false = ap (λ (k : Grammar Parsed). is_fixed k r.at) w.waits.waits
    ∙ left_fixed way m.head m.leaf.left a p (want_of r) m.stage r.at within in
    let next_stop : stop w.next (cursor_at r.at last) ≡ waits w.next (cursor_at r.at last) =
    subst (λ (k : Grammar Parsed). stop k (cursor_at r.at last) ≡ waits k (cursor_at r.at last)) (sym w.waits.waits)
    (left_stop way m.head m.leaf.left a p (want_of r) m.stage r.at last some within) in (
      past_handed g w.next (cursor_at r.at last) w.past none
          ∙ ap (λ (b : Bool). unless b (noted g)) open_here,
      record {
        next = w.next;
        stops = past_stop g w.next (cursor_at r.at last) w.past ∙ next_stop;
        waits = w.waits;
        at_field = refl;
        empty = empty;
      },
    )

-- ---- progress

-- reading goes on where it waited
goes_on : (q : Question) (s more : List ℕ) (g : Grammar Parsed) (t : Cursor) → stop_of q s ≡ waits g t
    → stop_of q (s ++ more) ≡ stop g (longer more t)
unfolding stop_of
goes_on q s more g t e =
    stop_more more (whole q.kind q.two_only q.way) (start s) ∙ ap (λ (z : Stop Parsed). resume z more) e

hands_on : (q : Question) (s more : List ℕ) (g : Grammar Parsed) (t : Cursor) → stop_of q s ≡ waits g t
    → handed_out q (s ++ more) ≡ handed_out q s ++ handed g (longer more t)
unfolding handed_out stop_of
hands_on q s more g t e =
    handed_more more (whole q.kind q.two_only q.way) (start s)
    ∙ ap (λ (z : Stop Parsed). handed (whole q.kind q.two_only q.way) (start s) ++ handed_on z more) e

-- a fault stays, and nothing more is handed out
pub stays : (q : Question) (s more : List ℕ) (f : Fault) → stop_of q s ≡ fails f
    → (stop_of q (s ++ more) ≡ fails f) × (handed_out q (s ++ more) ≡ handed_out q s)
unfolding handed_out stop_of
stays q s more f e = (
  stop_more more (whole q.kind q.two_only q.way) (start s) ∙ ap (λ (z : Stop Parsed). resume z more) e,
  handed_more more (whole q.kind q.two_only q.way) (start s)
      ∙ ap (λ (z : Stop Parsed). handed (whole q.kind q.two_only q.way) (start s) ++ handed_on z more) e
      ∙ append-nil (handed (whole q.kind q.two_only q.way) (start s)),
)

-- the field that is under way, of a reader that stands
pub record StandsIn {H : Type 0} (hash : List ℕ → List ℕ) (holds : H → List ℕ → Type 0) (q : Question) (r : Reader H)
    (s : List ℕ) (g : Above → Option Cut → Grammar Parsed) : Type 0 where
  pub above : Above
  pub part : Option Cut
  pub last : ℕ
  pub stops : stop_of q s ≡ waits (g above part) (record { at = r.at; last = last; rest = r.held })
  pub is_open : IsOpen hash holds q r.machine r.machine.stage (handed_out q s) above part

pub stands_in : {H : Type 0} (hash : List ℕ → List ℕ) (holds : H → List ℕ → Type 0) (q : Question) (r : Reader H)
    (s : List ℕ) (w : Option Want) → want_of r ≡ w → StandsAt hash holds q r s
    → StandsIn hash holds q r s (λ a p. left_at q.way r.machine.head r.machine.leaf.left a p w
    r.machine.stage)
stands_in hash holds q r s w e at = record {
  above = at.waits.above;
  part = at.waits.whole;
  last = at.last;
  stops = at.stops ∙ ap (λ (g : Grammar Parsed). waits g (record { at = r.at; last = at.last; rest = r.held }))
      (at.waits.waits ∙ ap (λ (z : Option Want). left_at q.way r.machine.head r.machine.leaf.left
      at.waits.above at.waits.whole z r.machine.stage) e);
  is_open = at.waits.is_open;
}

-- the piece is less than what the field lacks
pub turn_more : {H : Type 0} (hash : List ℕ → List ℕ) (holds : H → List ℕ → Type 0) (q : Question) (r : Reader H)
    (w : Want) (s piece held : List ℕ) → want_of r ≡ Some w → r.at + size_of w ≤ place_limit
    → held ≡ r.held ++ piece → length (r.held ++ piece) < size_of w → StandsAt hash holds q r s
    → StandsAt hash holds q (record r { held = held }) (s ++ piece) × (handed_out q (s ++ piece) ≡ handed_out q s)
turn_more hash holds q r w s piece held wants within more less at =
    let i = stands_in hash holds q r s (Some w) wants at in
    let t : Cursor = record { at = r.at; last = i.last; rest = r.held } in
    let next = next_at q.way r.machine.head r.machine.leaf.left i.above r.machine.stage in
    let quiet : handed_out q (s ++ piece) ≡ handed_out q s =
    hands_on q s piece (reads w next) t i.stops
    ∙ ap (λ (rs : List Record). handed_out q s ++ rs) (short_handed w next (longer piece t) less)
    ∙ append-nil (handed_out q s) in
    let same : reads w next ≡ left_at q.way r.machine.head r.machine.leaf.left i.above i.part
    (want_of r) r.machine.stage =
    ap (λ (z : Option Want). left_at q.way r.machine.head r.machine.leaf.left i.above i.part z
    r.machine.stage) (sym wants) in (
      record {
        next = reads w next;
        last = i.last;
        stops = goes_on q s piece (reads w next) t i.stops ∙ short_stop w next (longer piece t) within less
            ∙ ap (λ (bytes : List ℕ). waits (reads w next) (record { at = r.at; last = i.last; rest = bytes }))
            (sym more);
        waits = subst (λ (rs : List Record). WaitsForField hash holds q r.machine rs (reads w next)) (sym quiet)
            (record { above = i.above; whole = i.part; waits = same; is_open = i.is_open });
      },
      quiet,
    )

rejoined : (s front back piece : List ℕ) → front ++ back ≡ piece → (s ++ front) ++ back ≡ s ++ piece
rejoined s front back piece e = append_assoc s front back ∙ ap (λ (x : List ℕ). s ++ x) e

-- a fault that the front of a piece shows is that of the whole piece
fault_on : (q : Question) (s front back piece : List ℕ) (f : Fault) → front ++ back ≡ piece
    → stop_of q (s ++ front) ≡ fails f → handed_out q (s ++ front) ≡ handed_out q s
    → (stop_of q (s ++ piece) ≡ fails f) × (handed_out q (s ++ piece) ≡ handed_out q s)
fault_on q s front back piece f e stops quiet =
    let on = stays q (s ++ front) back f stops in
    let joined = rejoined s front back piece e in (
      ap (λ (x : List ℕ). stop_of q x) (sym joined) ∙ on.0,
      ap (λ (x : List ℕ). handed_out q x) (sym joined) ∙ on.1 ∙ quiet,
    )

-- the bytes of the field break its rule
pub turn_broken : {H : Type 0} (hash : List ℕ → List ℕ) (holds : H → List ℕ → Type 0) (q : Question) (r : Reader H)
    (w : Want) (s front back piece : List ℕ) (d : Rule) → want_of r ≡ Some w → r.at + size_of w ≤ place_limit
    → front ++ back ≡ piece → length (r.held ++ front) ≡ size_of w → field_of w (r.held ++ front) ≡ Err d
    → StandsAt hash holds q r s
    → (stop_of q (s ++ piece) ≡ fails (fault d r.at)) × (handed_out q (s ++ piece) ≡ handed_out q s)
turn_broken hash holds q r w s front back piece d wants within parts long broken at =
    let i = stands_in hash holds q r s (Some w) wants at in
    let t : Cursor = record { at = r.at; last = i.last; rest = r.held } in
    let next = next_at q.way r.machine.head r.machine.leaf.left i.above r.machine.stage in
    fault_on q s front back piece (fault d r.at) parts
    (goes_on q s front (reads w next) t i.stops ∙ broken_stop w next t front d within long broken)
    (hands_on q s front (reads w next) t i.stops
    ∙ ap (λ (rs : List Record). handed_out q s ++ rs) (broken_handed w next t front d within long broken)
    ∙ append-nil (handed_out q s))

-- where the front of a piece ends a field, by what stands behind it
settled : {H : Type 0} (hash : List ℕ → List ℕ) (holds : H → List ℕ → Type 0) (q : Question) (r : Reader H)
    (s given : List ℕ) (rs : List Record) (g : Grammar Parsed) (at last : ℕ)
    → stop_of q given ≡ stop g (cursor_at at last) → handed_out q given ≡ rs
    → WaitsBehind hash holds q rs at last r g → StandsAt hash holds q r given
settled hash holds q r s given rs g at last stops out w = record {
  next = w.next;
  last = last;
  stops = stops ∙ w.stops ∙ (λ i. waits w.next (record { at = sym w.at_field i; last = last; rest = sym w.empty i }));
  waits = subst (λ (xs : List Record). WaitsForField hash holds q r.machine xs w.next) (sym out) w.waits;
}

turn_behind : {H : Type 0} (hash : List ℕ → List ℕ) (holds : H → List ℕ → Type 0) (q : Question) (r : Reader H)
    (s piece back : List ℕ) (n at last : ℕ) (g : Grammar Parsed) (turn : Progress) → take n piece ++ back ≡ piece
    → stop_of q (s ++ take n piece) ≡ stop g (cursor_at at last)
    → handed_out q (s ++ take n piece) ≡ handed_out q s ++ handed g (cursor_at at last)
    → handed_out q (s ++ take (n - 1) piece) ≡ handed_out q s
    → Behind hash holds q (handed_out q s) at last n r g turn
    → MakesProgress hash holds q s piece r turn
turn_behind hash holds q r s piece back n at last g turns.More parts stops out before b = absurd b
turn_behind hash holds q r s piece back n at last g (turns.Took taken) parts stops out before b =
    let quiet : handed_out q (s ++ take n piece) ≡ handed_out q s =
    out ∙ ap (λ (rs : List Record). handed_out q s ++ rs) b.1 ∙ append-nil (handed_out q s) in
    subst (λ (k : ℕ). StandsAt hash holds q r (s ++ take k piece)
    × (handed_out q (s ++ take k piece) ≡ handed_out q s)) (sym b.0)
    (settled hash holds q r s (s ++ take n piece) (handed_out q s) g at last stops quiet b.2, quiet)
turn_behind hash holds q r s piece back n at last g (turns.Found taken) parts stops out before b =
    let x = r.machine.latest in
    let found : handed_out q (s ++ take n piece) ≡ handed_out q s ++ x ∷ [] =
    out ∙ ap (λ (rs : List Record). handed_out q s ++ rs) b.1 in
    subst (λ (k : ℕ). StandsAt hash holds q r (s ++ take k piece)
    × (handed_out q (s ++ take k piece) ≡ handed_out q s ++ x ∷ [])
    × (handed_out q (s ++ take (k - 1) piece) ≡ handed_out q s)) (sym b.0)
    (settled hash holds q r s (s ++ take n piece) (handed_out q s ++ x ∷ []) g at last stops found b.2, found, before)
turn_behind hash holds q r s piece back n at last g (turns.Broken f) parts stops out before b =
    fault_on q s (take n piece) back piece f parts (stops ∙ b.1)
    (out ∙ ap (λ (rs : List Record). handed_out q s ++ rs) b.0 ∙ append-nil (handed_out q s))

-- the field is whole and breaks no rule of its own
pub turn_whole : {H : Type 0} (hash : List ℕ → List ℕ) (holds : H → List ℕ → Type 0) (q : Question) (r new : Reader H)
    (w : Want) (s piece : List ℕ) (n z : ℕ) (v : Field) (turn : Progress) → want_of r ≡ Some w
    → r.at + size_of w ≤ place_limit → 1 ≤ n → n ≤ length piece → length r.held + n ≡ size_of w → z ≡ size_of w
    → field_of w (r.held ++ take n piece) ≡ Ok v
    → ((given : List Record) (a : Above) (p : Option Cut) → IsOpen hash holds q r.machine r.machine.stage given a p
    → Behind hash holds q given (r.at + z) r.at n new
    (next_at q.way r.machine.head r.machine.leaf.left a r.machine.stage v) turn)
    → StandsAt hash holds q r s → MakesProgress hash holds q s piece new turn
turn_whole hash holds q r new w s piece n z v turn wants within some fits size same value behind at =
    let i = stands_in hash holds q r s (Some w) wants at in
    let t : Cursor = record { at = r.at; last = i.last; rest = r.held } in
    let next = next_at q.way r.machine.head r.machine.leaf.left i.above r.machine.stage in
    let front = take n piece in
    let taken : length front ≡ n = length-take-le n piece fits in
    let fewer : length (take (n - 1) piece) ≡ n - 1 = length-take-le (n - 1) piece (omega arith) in
    let long : length (r.held ++ front) ≡ size_of w = omega (arith, length-append r.held front) in
    let less : length (r.held ++ take (n - 1) piece) < size_of w = omega
    (arith, length-append r.held (take (n - 1) piece)) in
    turn_behind hash holds q new s piece (drop n piece) n (r.at + size_of w) r.at (next v) turn
    (take-append-drop n piece)
    (goes_on q s front (reads w next) t i.stops ∙ read_stop w next t front v within long value)
    (hands_on q s front (reads w next) t i.stops
    ∙ ap (λ (rs : List Record). handed_out q s ++ rs) (read_handed w next t front v within long value))
    (hands_on q s (take (n - 1) piece) (reads w next) t i.stops
    ∙ ap (λ (rs : List Record). handed_out q s ++ rs)
    (short_handed w next (longer (take (n - 1) piece) t) less)
    ∙ append-nil (handed_out q s))
    (subst (λ (k : ℕ). Behind hash holds q (handed_out q s) (r.at + k) r.at n new (next v) turn) same
    (behind (handed_out q s) i.above i.part i.is_open))

-- ---- what a piece has whole

-- the field that is under way in this stage, with nothing of it held
record WaitsIn {H : Type 0} (hash : List ℕ → List ℕ) (holds : H → List ℕ → Type 0) (q : Question) (r : Reader H)
    (s : List ℕ) (x : Stage) (w : Want) : Type 0 where
  pub above : Above
  pub part : Option Cut
  pub last : ℕ
  pub stops : stop_of q s ≡ waits (reads w (next_at q.way r.machine.head r.machine.leaf.left above x))
      (cursor_at r.at last)
  pub is_open : IsOpen hash holds q r.machine x (handed_out q s) above part

waits_in : {H : Type 0} (hash : List ℕ → List ℕ) (holds : H → List ℕ → Type 0) (q : Question) (r : Reader H)
    (s : List ℕ) (x : Stage) (w : Want) → r.machine.stage ≡ x → want_at r.machine.head.kind x ≡ Some w → r.held ≡ []
    → StandsAt hash holds q r s → WaitsIn hash holds q r s x w
waits_in hash holds q r s x w is wants none at =
    let i = stands_in hash holds q r s (Some w) (ap (λ (z : Stage). want_at r.machine.head.kind z) is ∙ wants) at in
    record {
      above = i.above;
      part = i.part;
      last = i.last;
      stops = i.stops ∙ (λ j. waits (reads w (next_at q.way r.machine.head r.machine.leaf.left i.above (is j)))
          (record { at = r.at; last = i.last; rest = none j }));
      is_open = subst (λ (z : Stage). IsOpen hash holds q r.machine z (handed_out q s) i.above i.part) is i.is_open;
    }

-- bytes in front of a piece are read at once, and hand out nothing without their last one
turn_read : {H : Type 0} (hash : List ℕ → List ℕ) (holds : H → List ℕ → Type 0) (q : Question) (r : Reader H)
    (s piece : List ℕ) (n from before at last : ℕ) (g k : Grammar Parsed) (turn : Progress)
    → stop_of q s ≡ waits g (cursor_at from before)
    → On g (stand from before (take n piece)) k (cursor_at at last)
    → handed g (stand from before (take (n - 1) piece)) ≡ []
    → Behind hash holds q (handed_out q s) at last n r k turn
    → MakesProgress hash holds q s piece r turn
turn_read hash holds q r s piece n from before at last g k turn stops read quiet behind =
    let t = cursor_at from before in
    turn_behind hash holds q r s piece (drop n piece) n at last k turn (take-append-drop n piece)
    (goes_on q s (take n piece) g t stops ∙ read.stops)
    (hands_on q s (take n piece) g t stops ∙ ap (λ (rs : List Record). handed_out q s ++ rs) read.hands)
    (hands_on q s (take (n - 1) piece) g t stops ∙ ap (λ (rs : List Record). handed_out q s ++ rs) quiet
    ∙ append-nil (handed_out q s)) behind

-- a record
pub turn_record : {H : Type 0} (hash : List ℕ → List ℕ) (holds : H → List ℕ → Type 0) (q : Question) (r new : Reader H)
    (s piece : List ℕ) (n : ℕ) (one : Record) (turn : Progress) → IsWhole r piece one n
    → ((given : List Record) (a : Above) (p : Option Cut) → IsOpen hash holds q r.machine stage.Number given a p
    → Behind hash holds q given (r.at + n) (last_field r.machine.head.version r.at one) n new
    (after_record (ways_at q r.machine.head) r.machine.head r.machine.leaf.left a.nodes a.records one) turn)
    → StandsAt hash holds q r s → MakesProgress hash holds q s piece new turn
turn_record hash holds q r new s piece n one turn w behind at =
    let i = waits_in hash holds q r s stage.Number want.Number w.stage refl w.held at in
    let X = after_record (ways_at q r.machine.head) r.machine.head r.machine.leaf.left i.above.nodes i.above.records
    in
    let u = r.machine.head.version in
    let bytes = record_bytes u one in
    let g = reads want.Number (λ v. behind_number u X (number_in v)) in
    let within : r.at + length bytes ≤ place_limit = omega (arith, w.sized, w.place) in
    let front : take n piece ≡ bytes = ap (take n) w.bytes
    ∙ take-append-le n bytes (drop n piece) (omega (arith, w.sized))
    ∙ take_all n bytes (omega (arith, w.sized)) in
    let less : take (n - 1) piece ≡ take (length bytes - 1) bytes =
    sym (take-take (n - 1) n piece (omega arith)) ∙ (λ j. take (w.sized j - 1) (front j)) in
    let last = last_field u r.at one in
    let read : On g (stand r.at i.last (take n piece)) (X one) (cursor_at (r.at + n) last) =
    subst (λ (z : ℕ × List ℕ). On g (stand r.at i.last z.1) (X one) (cursor_at (r.at + z.0) last))
    (λ j. (sym w.sized j, sym front j)) (record_on u X one r.at i.last w.is_record w.layer within) in
    let quiet : handed g (stand r.at i.last (take (n - 1) piece)) ≡ [] =
    ap (λ (raw : List ℕ). handed g (stand r.at i.last raw)) less
    ∙ quiet_on u X one r.at i.last w.is_record w.layer within in
    turn_read hash holds q new s piece n r.at i.last (r.at + n) last g (X one) turn i.stops read quiet
    (behind (handed_out q s) i.above i.part i.is_open)

-- a pruned part
pub turn_part : {H : Type 0} (hash : List ℕ → List ℕ) (holds : H → List ℕ → Type 0) (q : Question) (r new : Reader H)
    (s piece : List ℕ) (n last level : ℕ) (part : PrunedEntry) (turn : Progress) → IsWholePart q r piece level part
    → n ≡ part_size r.machine.head.version → last ≡ r.at + digest_place r.machine.head.version
    → ((given : List Record) (a : Above) (p : Option Cut) → IsOpen hash holds q r.machine (stage.Tag level) given a p
    → Behind hash holds q given (r.at + n) last n new
    (after (ways_at q r.machine.head) r.machine.head level a.nodes (Pruned part)) turn)
    → StandsAt hash holds q r s → MakesProgress hash holds q s piece new turn
turn_part hash holds q r new s piece n last level part turn w sized placed behind at =
    let i = waits_in hash holds q r s (stage.Tag level) (want.Tag level) w.stage refl w.held at in
    let way = ways_at q r.machine.head in
    let u = r.machine.head.version in
    let X = after way r.machine.head level i.above.nodes in
    let g = reads (want.Tag level) (λ t. node_next u way level X (tag_in t)) in
    let read : On g (stand r.at i.last (take n piece)) (X (Pruned part)) (cursor_at (r.at + n) last) =
    subst (λ (z : ℕ × ℕ). On g (stand r.at i.last (take z.0 piece)) (X (Pruned part)) (cursor_at (r.at + z.0) z.1))
    (λ j. (sym sized j, sym placed j)) (part_on u way level X r.at i.last piece part w.begins w.unopened w.place) in
    let quiet : handed g (stand r.at i.last (take (n - 1) piece)) ≡ [] =
    subst (λ (z : ℕ). handed g (stand r.at i.last (take (z - 1) piece)) ≡ []) (sym sized)
    (quiet_part u way level X r.at i.last piece part w.begins w.unopened w.place) in
    turn_read hash holds q new s piece n r.at i.last (r.at + n) last g (X (Pruned part)) turn i.stops read quiet
    (behind (handed_out q s) i.above i.part i.is_open)

-- ---- behind the last field

pub turn_trailing : {H : Type 0} (hash : List ℕ → List ℕ) (holds : H → List ℕ → Type 0) (q : Question) (r : Reader H)
    (s piece : List ℕ) → want_of r ≡ None → 0 < length piece → StandsAt hash holds q r s
    → (stop_of q (s ++ piece) ≡ fails (fault rule.Trailing r.at)) × (handed_out q (s ++ piece) ≡ handed_out q s)
turn_trailing hash holds q r s piece ends some at =
    let i = stands_in hash holds q r s None ends at in
    let t : Cursor = record { at = r.at; last = i.last; rest = r.held } in
    let x = said r.machine.head i.part in
    let more : 0 < length (r.held ++ piece) = omega (arith, length-append r.held piece) in (
      goes_on q s piece (done x) t i.stops ∙ trailing_stop x (longer piece t) more,
      hands_on q s piece (done x) t i.stops ∙ append-nil (handed_out q s),
    )

pub turn_none : {H : Type 0} (hash : List ℕ → List ℕ) (holds : H → List ℕ → Type 0) (q : Question) (r : Reader H)
    (s piece : List ℕ) → length piece ≡ 0 → StandsAt hash holds q r s
    → StandsAt hash holds q r (s ++ piece) × (handed_out q (s ++ piece) ≡ handed_out q s)
turn_none hash holds q r s [] none at =
    let same : s ++ [] ≡ s = append-nil s in
    (subst (λ (x : List ℕ). StandsAt hash holds q r x) (sym same) at, ap (λ (x : List ℕ). handed_out q x) same)
turn_none hash holds q r s (b ∷ bs) none at = absurd (omega arith)

-- ---- how many bytes were taken

pub takes_some : (n long : ℕ) (turn : Progress) → TakesJust n turn → 1 ≤ n → n ≤ long → TakesSome long turn
takes_some n long turns.More is some fits = tt
takes_some n long (turns.Took m) is some fits = (omega (arith, is), omega (arith, is))
takes_some n long (turns.Found m) is some fits = (omega (arith, is), omega (arith, is))
takes_some n long (turns.Broken f) is some fits = tt
