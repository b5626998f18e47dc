-- From where reading stops to the verdict.
use Rattle.std.proofs.Common.{◌≡◌, ◌≢◌, ℕ, ◌+◌, ◌<◌, Bool, true, false, cond, ltb, List, [], ◌∷◌, ◌++◌, length, take, reverse, Result, Ok, Err, Option, Some, None, refl, sym, ap, subst, ◌∙◌, inl, inr, arith}
use Rattle.std.specs.Prelude.{not, ◌&&◌, bytes_eq, filter}
use Rattle.std.proofs.lemmas.Bool.{cases_Bool, le-ltb}
use Rattle.mr_record.specs.declared.record.Record.{Record}
use Rattle.mr_query.specs.declared.key.Key.{Key}
use Rattle.mr_query.specs.Layers.{is_on}
use Rattle.mr_query.specs.Nearest.{is_within}
use Rattle.mr_query.specs.Region.{record_key}
use Rattle.mr_query.specs.Scan.{on_layers, scan}
use Rattle.mr_query.specs.Word.{IsQuery}
use Rattle.mr_query.specs.declared.query.Query.{Query}
use Rattle.mr_proof.specs.declared.head.Head.{Head}
use Rattle.mr_proof.specs.declared.head.Kind.{Kind}
use Rattle.mr_proof.specs.declared.rule.Rule.TheVariants as rule
use Rattle.mr_proof.specs.declared.rule.Fault.{Fault}
use Rattle.mr_proof.specs.declared.want.Want.{Want}
use Rattle.mr_proof.specs.declared.want.Want.TheVariants as want
use Rattle.mr_proof.specs.Cut.{Cut}
use Rattle.mr_proof.specs.Spelling.{Parsed, said, opened_records}
use Rattle.mr_proof.specs.declared.question.Around.{Around}
use Rattle.mr_proof.specs.declared.way.Way.{Way}
use Rattle.mr_proof.specs.Tight.{Question, IsCircle, IsLawful, is_kept, keeps_record, around_of, question}
use Rattle.mr_proof.specs.Accepted.{root_found}
use Rattle.mr_proof.specs.Grammar.{Grammar, whole}
use Rattle.mr_proof.specs.Layout.{fault, Cursor, field_at}
use Rattle.mr_proof.specs.Refused.{is_other_radius, has_other_radius, is_other_count, has_other_count}
use Rattle.mr_proof.specs.Reading.{ending, checked, verdict}
use Rattle.mr_proof.specs.Halves.{IsSettled}
use Rattle.mr_proof.proofs.Laws.{kept_if, other_asked, scan_asked, radius_stands, is_lawful}
use Rattle.mr_proof.proofs.Soundness.{shows_from}
use Rattle.mr_record.proofs.Encodings.{IsBytes}
use Rattle.mr_proof.proofs.Values.{same_bytes, bytes_same}
use Rattle.mr_check.specs.declared.frame.Frame.{Frame}
use Rattle.mr_check.specs.declared.frame.Stack.{Stack}
use Rattle.mr_tree.specs.declared.entry.Entry.{Entry}
use Rattle.mr_record.specs.declared.version.Version.TheVariants.{One}
use Rattle.mr_tree.specs.declared.node_hasher.NodeHasher.{NodeHasher}
use Rattle.mr_check.specs.declared.stage.HeadField.TheVariants as field
use Rattle.mr_check.specs.declared.stage.Stage.{Stage}
use Rattle.mr_check.specs.declared.stage.Stage.TheVariants as stage
use Rattle.mr_check.specs.declared.reader.Reader.{Reader}
use Rattle.mr_check.specs.declared.fed.Fed.{Fed}
use Rattle.mr_check.specs.declared.fed.Fed.TheVariants as fed
use Rattle.mr_proof.specs.Handed.{handed_out}
use Rattle.mr_check.specs.private.Stops.{Stop, waits, fails, stop_of}
use Rattle.mr_proof.specs.Feeding.{IsUnsettled, IsFinal, HandsOut, EndsFeeding}
use Rattle.mr_check.specs.declared.outline.Outline.{Outline}
use Rattle.mr_check.specs.Judged.{EndsAs}
use Rattle.mr_check.specs.Answers.{taken_of, FeedsPiece}
use Rattle.mr_check.specs.private.Stages.{head_want, want_at, room_in}
use Rattle.mr_check.specs.private.Counting.{no_counts, other_radius}
use Rattle.mr_check.specs.private.Machine.{is_handed_out, IsOpen, AtEnd}
use Rattle.mr_check.specs.private.Reads.{want_of, StandsAt, StandsBy, FedBy, FaultFed, found_at, EndsAt}
use Rattle.mr_check.proofs.Stopping.{ends_at, checked_stop, fault_settled}
use Rattle.mr_check.proofs.WholeCounts.{whole_exact}
use Rattle.mr_check.proofs.Turning.{stays, stands_in}

abbrev failed : {A : Type 0} → Fault → Result A Fault
failed f = Err f

same_fault : {A : Type 0} (f g : Fault) → failed {A = A} f ≡ failed g → f ≡ g
same_fault f g e = cc

-- ---- a fault

pub checked_fails : (hash : List ℕ → List ℕ) (root : List ℕ) (q : Question) (bytes : List ℕ) (f : Fault)
    → stop_of q bytes ≡ fails f → checked hash root q bytes ≡ Err f
checked_fails hash root q bytes f e =
    (checked_stop hash root q bytes ∙ ap (λ (z : Stop Parsed). ends_at (ending hash root q) z) e)

pub final : (hash : List ℕ → List ℕ) (root : List ℕ) (q : Question) (s piece : List ℕ) (f : Fault)
    → stop_of q (s ++ piece) ≡ fails f → handed_out q (s ++ piece) ≡ handed_out q s
    → IsFinal hash root q s piece f
final hash root q s piece f e quiet = record {
  settled = fault_settled q (s ++ piece) f e;
  all = λ more. checked_fails hash root q ((s ++ piece) ++ more) f (stays q (s ++ piece) more f e).0;
  none = quiet;
}

-- ---- no fault so far

-- the ending of bytes that reach the last field and end there
ends_unsettled : (c d b : Bool) (w r t f : Fault) (x : Parsed) → (IsSettled w.rule → ⊥) → (IsSettled r.rule → ⊥)
    → (IsSettled t.rule → ⊥)
    → cond (not c) (Err w) (cond d (Err r) (cond b (Err t) (Ok x))) ≡ Err f → IsSettled f.rule → ⊥
ends_unsettled true true b w r t f x no_w no_r no_t e settled =
    no_r (subst (λ (h : Fault). IsSettled h.rule) (sym (same_fault r f e)) settled)
ends_unsettled true false true w r t f x no_w no_r no_t e settled =
    no_t (subst (λ (h : Fault). IsSettled h.rule) (sym (same_fault t f e)) settled)
ends_unsettled true false false w r t f x no_w no_r no_t e settled = absurd cc
ends_unsettled false d b w r t f x no_w no_r no_t e settled =
    no_w (subst (λ (h : Fault). IsSettled h.rule) (sym (same_fault w f e)) settled)

ending_unsettled : (hash : List ℕ → List ℕ) (root : List ℕ) (q : Question) (x : Parsed) (s : Cursor) (f : Fault)
    → length s.rest ≡ 0 → ending hash root q x s ≡ Err f → IsSettled f.rule → ⊥
unfolding ending
ending_unsettled hash root q x s f none e settled =
    let nothing : ltb 0 (length s.rest) ≡ false = le-ltb 0 (length s.rest) (omega arith) in
    ends_unsettled (bytes_eq (root_found hash x.head x.part) root)
    (has_other_radius q.around x.head.radius (opened_records x.part)) (has_other_count x)
    (fault (rule.WrongRoot (root_found hash x.head x.part)) (s.at + length s.rest))
    (fault rule.WrongRadius (s.at + length s.rest)) (fault rule.WrongTally (s.at + length s.rest)) f x (λ h. h) (λ h. h)
    (λ h. h) (rw nothing at e) settled

checked_waits : (hash : List ℕ → List ℕ) (root : List ℕ) (q : Question) (bytes : List ℕ) (g : Grammar Parsed)
    (t : Cursor)
    → stop_of q bytes ≡ waits g t → checked hash root q bytes ≡ ends_at (ending hash root q) (waits g t)
checked_waits hash root q bytes g t e =
    checked_stop hash root q bytes ∙ ap (λ (z : Stop Parsed). ends_at (ending hash root q) z) e

unsettled_by : {H : Type 0} (hash : List ℕ → List ℕ) (holds : H → List ℕ → Type 0) (root : List ℕ) (q : Question)
    (r : Reader H) (bytes : List ℕ) (w : Option Want) → want_of r ≡ w → length r.held < room_in w
    → StandsAt hash holds q r bytes → IsUnsettled hash root q bytes
unsettled_by hash holds root q r bytes None ends short at = λ f e settled.
    let i = stands_in hash holds q r bytes None ends at in
    ending_unsettled hash root q (said r.machine.head i.part) (record { at = r.at; last = i.last; rest = r.held }) f
    (omega arith) (sym (checked_waits hash root q bytes _ _ i.stops) ∙ e) settled
unsettled_by hash holds root q r bytes (Some w) wants short at = λ f e settled.
    let i = stands_in hash holds q r bytes (Some w) wants at in
    let same : fault rule.Short r.at ≡ f = same_fault {A = Parsed} (fault rule.Short r.at) f
    (sym (checked_waits hash root q bytes _ _ i.stops) ∙ e) in
    subst (λ (h : Fault). IsSettled h.rule) (sym same) settled

pub unsettled : {H : Type 0} (hash : List ℕ → List ℕ) (holds : H → List ℕ → Type 0) (root : List ℕ) (q : Question)
    (r : Reader H) (bytes : List ℕ) → length r.held < room_in (want_of r) → StandsAt hash holds q r bytes
    → IsUnsettled hash root q bytes
unsettled hash holds root q r bytes short at = unsettled_by hash holds root q r bytes (want_of r) refl short at

-- ---- a piece

pub fed_feeds : {H : Type 0} (hash : List ℕ → List ℕ) (holds : H → List ℕ → Type 0) (root : List ℕ) (q : Question)
    (r : Reader H) (s piece : List ℕ) (result : Fed) → length r.held < room_in (want_of r)
    → FedBy hash holds q s piece r result → FeedsPiece hash root q s piece result
fed_feeds hash holds root q r s piece fed.More short b = (unsettled hash holds root q r (s ++ piece) short b.0, b.1)
fed_feeds hash holds root q r s piece (fed.Found n x) short b =
    (unsettled hash holds root q r (s ++ take n piece) short b.0, b.1)
fed_feeds hash holds root q r s piece (fed.Fault f) short b = final hash root q s piece f b.0 b.1

pub fed_stands : {H : Type 0} (hash : List ℕ → List ℕ) (holds : H → List ℕ → Type 0) (q : Question) (r : Reader H)
    (s piece : List ℕ) (z : Option Fault) (result : Fed) → FaultFed z result → FedBy hash holds q s piece r result
    → StandsBy hash holds q r z (s ++ taken_of result piece)
fed_stands hash holds q r s piece z fed.More is b =
    subst (λ (y : Option Fault). StandsBy hash holds q r y (s ++ piece)) (sym is) b.0
fed_stands hash holds q r s piece z (fed.Found n x) is b =
    subst (λ (y : Option Fault). StandsBy hash holds q r y (s ++ take n piece)) (sym is) b.0
fed_stands hash holds q r s piece z (fed.Fault f) is b =
    subst (λ (y : Option Fault). StandsBy hash holds q r y (s ++ piece)) (sym is) b.0

pub fault_known : {H : Type 0} (hash : List ℕ → List ℕ) (holds : H → List ℕ → Type 0) (q : Question) (r : Reader H)
    (s : List ℕ) (z : Option Fault) (f : Fault) → z ≡ Some f → StandsBy hash holds q r z s → stop_of q s ≡ fails f
fault_known hash holds q r s z f is b = subst (λ (y : Option Fault). StandsBy hash holds q r y s) is b

pub fault_stands : {H : Type 0} (hash : List ℕ → List ℕ) (holds : H → List ℕ → Type 0) (q : Question) (r : Reader H)
    (s more : List ℕ) (z : Option Fault) (f : Fault) → z ≡ Some f → StandsBy hash holds q r z s
    → StandsBy hash holds q r z (s ++ more)
fault_stands hash holds q r s more z f is b =
    subst (λ (y : Option Fault). StandsBy hash holds q r y (s ++ more)) (sym is)
    (stays q s more f (fault_known hash holds q r s z f is b)).0

pub fault_final : {H : Type 0} (hash : List ℕ → List ℕ) (holds : H → List ℕ → Type 0) (root : List ℕ) (q : Question)
    (r : Reader H) (s piece : List ℕ) (z : Option Fault) (f : Fault) → z ≡ Some f → StandsBy hash holds q r z s
    → IsFinal hash root q s piece f
fault_final hash holds root q r s piece z f is b =
    let on = stays q s piece f (fault_known hash holds q r s z f is b) in
    final hash root q s piece f on.0 on.1

-- ---- nothing fed

abbrev fresh : {H : Type 0} → Question → Stack (Frame H) → NodeHasher H → Record → Reader H
fresh q s x one = record {
  machine = record {
    head = record { version = One; kind = q.kind; batch = 0; count = 0; radius = None; level = 0 };
    stage = stage.Head (field.Magic q.two_only);
    frames = s;
    leaf = record { node = x; left = 0 };
    tally = record { radius = no_counts; whole = 0 };
    latest = one;
  };
  held = [];
  at = 0;
  fault = None;
}

pub none_out : (q : Question) → handed_out q [] ≡ []
unfolding handed_out field_at
none_out q = refl

pub fresh_stands : {H : Type 0} (hash : List ℕ → List ℕ) (holds : H → List ℕ → Type 0) (q : Question)
    (s : Stack (Frame H))
    (x : NodeHasher H) (one : Record) → s.list.items ≡ [] → StandsAt hash holds q (fresh q s x one) []
unfolding stop_of
fresh_stands hash holds q s x one none = record {
  next = whole q.kind q.two_only q.way;
  last = 0;
  stops = refl;
  waits = record {
    above = record { nodes = []; records = [] };
    whole = None;
    waits = refl;
    is_open = record {
      kind = refl;
      frames = ap reverse none;
      nothing = none_out q;
      tally = λ radius. record { found = refl; nearer = refl; within = refl };
      whole = refl;
    };
  };
}

-- ---- the end

pub end_short : {H : Type 0} (hash : List ℕ → List ℕ) (holds : H → List ℕ → Type 0) (root : List ℕ) (q : Question)
    (r : Reader H) (bytes : List ℕ) (w : Want) → want_of r ≡ Some w → StandsAt hash holds q r bytes
    → checked hash root q bytes ≡ Err (fault rule.Short r.at)
end_short hash holds root q r bytes w wants at =
    let i = stands_in hash holds q r bytes (Some w) wants at in checked_waits hash root q bytes _ _ i.stops

-- behind the last field
record Ended {H : Type 0} (hash : List ℕ → List ℕ) (root : List ℕ) (q : Question) (r : Reader H) (node : Entry)
    (bytes : List ℕ) : Type 0 where
  part : Option Cut
  stand : Cursor
  empty : length stand.rest ≡ 0
  place : stand.at + length stand.rest ≡ r.at
  there : checked hash root q bytes ≡ ending hash root q (said r.machine.head part) stand
  at_end : AtEnd hash q r.machine.head r.machine.tally node (handed_out q bytes) part

ended : {H : Type 0} (hash : List ℕ → List ℕ) (holds : H → List ℕ → Type 0) (root : List ℕ) (q : Question)
    (r : Reader H) (node : Entry) (bytes : List ℕ) → r.machine.stage ≡ stage.End node
    → length r.held < room_in (want_of r) → StandsAt hash holds q r bytes → Ended hash root q r node bytes
ended hash holds root q r node bytes is short at =
    let none : want_of r ≡ None = ap (λ (s : Stage). want_at r.machine.head.kind s) is in
    let i = stands_in hash holds q r bytes None none at in
    let few : length r.held < 1 = subst (λ (w : Option Want). length r.held < room_in w) none short in
    let here : IsOpen hash holds q r.machine (stage.End node) (handed_out q bytes) i.above i.part =
    subst (λ (s : Stage). IsOpen hash holds q r.machine s (handed_out q bytes) i.above i.part) is i.is_open in
    record {
      part = i.part;
      stand = record { at = r.at; last = i.last; rest = r.held };
      empty = omega arith;
      place = omega arith;
      there = checked_waits hash root q bytes _ _ i.stops;
      at_end = here;
    }

not_same : (xs ys : List ℕ) → xs ≢ ys → bytes_eq xs ys ≡ false
not_same xs ys ne = elim (cases_Bool (bytes_eq xs ys)) [
  | inl t ↦ absurd (ne (same_bytes xs ys t))
  | inr f ↦ f
]

ends_wrong_root : (hash : List ℕ → List ℕ) (root : List ℕ) (q : Question) (x : Parsed) (s : Cursor)
    → length s.rest ≡ 0 → root_found hash x.head x.part ≢ root
    → ending hash root q x s ≡ Err (fault (rule.WrongRoot (root_found hash x.head x.part)) (s.at + length s.rest))
unfolding ending
ends_wrong_root hash root q x s none ne =
    let nothing : ltb 0 (length s.rest) ≡ false = le-ltb 0 (length s.rest) (omega arith) in
    let other : bytes_eq (root_found hash x.head x.part) root ≡ false = not_same (root_found hash x.head x.part) root ne
    in
    rw (nothing, other) refl

ends_wrong_radius : (hash : List ℕ → List ℕ) (root : List ℕ) (q : Question) (x : Parsed) (s : Cursor)
    → length s.rest ≡ 0 → root_found hash x.head x.part ≡ root
    → has_other_radius q.around x.head.radius (opened_records x.part) ≡ true
    → ending hash root q x s ≡ Err (fault rule.WrongRadius (s.at + length s.rest))
unfolding ending
ends_wrong_radius hash root q x s none same wrong =
    let nothing : ltb 0 (length s.rest) ≡ false = le-ltb 0 (length s.rest) (omega arith) in
    let right : bytes_eq (root_found hash x.head x.part) root ≡ true = bytes_same (root_found hash x.head x.part) root
    same in
    rw (nothing, right, wrong) refl

ends_wrong_tally : (hash : List ℕ → List ℕ) (root : List ℕ) (q : Question) (x : Parsed) (s : Cursor)
    → length s.rest ≡ 0 → root_found hash x.head x.part ≡ root
    → has_other_radius q.around x.head.radius (opened_records x.part) ≡ false → has_other_count x ≡ true
    → ending hash root q x s ≡ Err (fault rule.WrongTally (s.at + length s.rest))
unfolding ending
ends_wrong_tally hash root q x s none same right wrong =
    let nothing : ltb 0 (length s.rest) ≡ false = le-ltb 0 (length s.rest) (omega arith) in
    let held : bytes_eq (root_found hash x.head x.part) root ≡ true = bytes_same (root_found hash x.head x.part) root
    same in
    rw (nothing, held, right, wrong) refl

ends_well : (hash : List ℕ → List ℕ) (root : List ℕ) (q : Question) (x : Parsed) (s : Cursor)
    → length s.rest ≡ 0 → root_found hash x.head x.part ≡ root
    → has_other_radius q.around x.head.radius (opened_records x.part) ≡ false → has_other_count x ≡ false
    → ending hash root q x s ≡ Ok x
unfolding ending
ends_well hash root q x s none same right counted =
    let nothing : ltb 0 (length s.rest) ≡ false = le-ltb 0 (length s.rest) (omega arith) in
    let held : bytes_eq (root_found hash x.head x.part) root ≡ true = bytes_same (root_found hash x.head x.part) root
    same in
    rw (nothing, held, right, counted) refl

-- where heads have a radius, the records that are handed out are on the layers that it is of
second_of_both : (a b : Bool) → (a && b) ≡ true → b ≡ true
second_of_both true b e = e
second_of_both false b e = cc

kept_on : (x : Around) (way : Option ℕ → Key → Way) → IsCircle (Some x) way → (radius : Option ℕ) (r : Record)
    → keeps_record (way radius) r ≡ true → is_on x.layers r ≡ true
kept_on x way law radius r kept =
    second_of_both (is_within x.center radius r.rect) (is_on x.layers r)
    (sym (kept_if (is_within x.center radius r.rect && is_on x.layers r))
    ∙ sym (ap is_kept (law radius (record_key r))) ∙ kept)

all_on : (x : Around) (way : Option ℕ → Key → Way) → IsCircle (Some x) way → (radius : Option ℕ) (rs : List Record)
    → on_layers x.layers (filter (keeps_record (way radius)) rs) ≡ filter (keeps_record (way radius)) rs
all_on x way law radius [] = refl
all_on x way law radius (r ∷ rs) = at (all_on x way law radius rs) (keeps_record (way radius) r) refl
  where
    kept : List Record
    kept = filter (keeps_record (way radius)) rs

    at : on_layers x.layers kept ≡ kept → (b : Bool) → keeps_record (way radius) r ≡ b
        → on_layers x.layers (cond b (r ∷ kept) kept) ≡ cond b (r ∷ kept) kept
    at rest true e =
        ap (λ (b : Bool). cond b (r ∷ on_layers x.layers kept) (on_layers x.layers kept)) (kept_on x way law radius r e)
        ∙ ap (λ (ts : List Record). r ∷ ts) rest
    at rest false e = rest

other_handed : (x : Option Around) (way : Option ℕ → Key → Way) → IsCircle x way → (radius : Option ℕ)
    (rs : List Record)
    → other_radius x radius (filter (keeps_record (way radius)) rs)
    ≡ has_other_radius x radius (filter (keeps_record (way radius)) rs)
other_handed None way law radius rs = refl
other_handed (Some x) way law radius rs = ap (is_other_radius x radius) (sym (all_on x way law radius rs))

-- of the records that were handed out, and of all that are opened, the radius is another or not alike
other_alike : (q : Question) (h : Head) (given : List Record) (part : Option Cut) → IsLawful q
    → given ≡ filter (is_handed_out q h) (opened_records part)
    → other_radius q.around h.radius given ≡ has_other_radius q.around h.radius (opened_records part)
other_alike q h given part law kept =
    ap (other_radius q.around h.radius) kept
    ∙ other_handed q.around q.way law.circle h.radius (opened_records part)
    ∙ other_asked q h.radius (opened_records part) law

pub end_last : {H : Type 0} (hash : List ℕ → List ℕ) (holds : H → List ℕ → Type 0) (root : List ℕ) (q : Question)
    (r : Reader H) (node : Entry) (bytes : List ℕ) (result : Result Outline Fault) → r.machine.stage ≡ stage.End node
    → length r.held < room_in (want_of r) → IsLawful q → EndsAt hash root q r node result
    → StandsAt hash holds q r bytes → EndsAs hash root q bytes result
end_last hash holds root q r node bytes (Ok o) is short law ends at =
    let z = ended hash holds root q r node bytes is short at in
    let h = r.machine.head in
    let same : root_found hash h z.part ≡ root = ap hash (sym z.at_end.root) ∙ ends.0 in
    let given_right = ends.1 (handed_out q bytes) z.at_end.tally in
    let right : has_other_radius q.around h.radius (opened_records z.part) ≡ false =
    sym (other_alike q h (handed_out q bytes) z.part law z.at_end.kept) ∙ given_right in
    let counted : is_other_count h z.part ≡ false = sym z.at_end.counted ∙ ends.2 in
    let there : checked hash root q bytes ≡ Ok (said h z.part) =
    z.there ∙ ends_well hash root q (said h z.part) z.stand z.empty same right counted in
    record {
      said = said h z.part;
      hands = record { is_read = there; all = z.at_end.kept };
      outline = record {
        head = ap (λ (x : Outline). x.head) ends.4;
        rect = ap (λ (x : Outline). x.rect) ends.4 ∙ z.at_end.rect;
        whole = ap (λ (x : Outline). x.whole) ends.4 ∙ z.at_end.whole
            ∙ whole_exact h (q.way h.radius) z.part ends.3 counted;
      };
    }
end_last hash holds root q r node bytes (Err f) is short law (inl wrong) at =
    let z = ended hash holds root q r node bytes is short at in
    let h = r.machine.head in
    let found : root_found hash h z.part ≡ found_at hash h node = ap hash (sym z.at_end.root) in
    let ne : root_found hash h z.part ≢ root = λ e. wrong.1 (sym found ∙ e) in
    z.there ∙ ends_wrong_root hash root q (said h z.part) z.stand z.empty ne
    ∙ (λ i. Err (fault (rule.WrongRoot (found i)) (z.place i)))
    ∙ ap (λ (g : Fault). Err g) (sym wrong.0)
end_last hash holds root q r node bytes (Err f) is short law (inr (inl wrong)) at =
    let z = ended hash holds root q r node bytes is short at in
    let h = r.machine.head in
    let same : root_found hash h z.part ≡ root = ap hash (sym z.at_end.root) ∙ wrong.1 in
    let given_wrong = wrong.2 (handed_out q bytes) z.at_end.tally in
    let other : has_other_radius q.around h.radius (opened_records z.part) ≡ true =
    sym (other_alike q h (handed_out q bytes) z.part law z.at_end.kept) ∙ given_wrong in
    z.there ∙ ends_wrong_radius hash root q (said h z.part) z.stand z.empty same other
    ∙ (λ i. Err (fault rule.WrongRadius (z.place i)))
    ∙ ap (λ (g : Fault). Err g) (sym wrong.0)
end_last hash holds root q r node bytes (Err f) is short law (inr (inr wrong)) at =
    let z = ended hash holds root q r node bytes is short at in
    let h = r.machine.head in
    let same : root_found hash h z.part ≡ root = ap hash (sym z.at_end.root) ∙ wrong.1 in
    let given_right = wrong.2 (handed_out q bytes) z.at_end.tally in
    let right : has_other_radius q.around h.radius (opened_records z.part) ≡ false =
    sym (other_alike q h (handed_out q bytes) z.part law z.at_end.kept) ∙ given_right in
    let other : is_other_count h z.part ≡ true = sym z.at_end.counted ∙ wrong.3 in
    z.there ∙ ends_wrong_tally hash root q (said h z.part) z.stand z.empty same right other
    ∙ (λ i. Err (fault rule.WrongTally (z.place i)))
    ∙ ap (λ (g : Fault). Err g) (sym wrong.0)

pub end_fault : {H : Type 0} (hash : List ℕ → List ℕ) (holds : H → List ℕ → Type 0) (root : List ℕ) (q : Question)
    (r : Reader H) (bytes : List ℕ) (z : Option Fault) (f : Fault) → z ≡ Some f → StandsBy hash holds q r z bytes
    → checked hash root q bytes ≡ Err f
end_fault hash holds root q r bytes z f is b =
    checked_fails hash root q bytes f (fault_known hash holds q r bytes z f is b)

-- ---- queries

-- what it asks accepted, the query is answered
pub accepted : (hash : List ℕ → List ℕ) (root : List ℕ) (q : Query) (bytes : List ℕ) (x : Parsed)
    → checked hash root (question q) bytes ≡ Ok x → verdict hash root q bytes ≡ Ok (scan (opened_records x.part) q)
unfolding verdict
accepted hash root q bytes x e = rw e refl

-- a fault of what it asks is that of the query
pub refused : (hash : List ℕ → List ℕ) (root : List ℕ) (q : Query) (bytes : List ℕ) (f : Fault)
    → checked hash root (question q) bytes ≡ Err f → verdict hash root q bytes ≡ Err f
unfolding verdict
refused hash root q bytes f e = rw e refl

-- the radius of accepted bytes is right
right_of : (hash : List ℕ → List ℕ) (root : List ℕ) (q : Query) (bytes : List ℕ) (x : Parsed) → IsQuery q
    → IsBytes bytes → checked hash root (question q) bytes ≡ Ok x
    → has_other_radius (around_of q) x.head.radius (opened_records x.part) ≡ false
right_of hash root q bytes x is fits e =
    radius_stands (question q) x.head.radius (opened_records x.part) (is_lawful q is)
    (shows_from hash root (question q) bytes x (is_lawful q is) fits e).tight.radius

pub handed_scan : (hash : List ℕ → List ℕ) (root : List ℕ) (q : Query) (bytes : List ℕ) (x : Parsed)
    → IsQuery q → IsBytes bytes → HandsOut hash root (question q) bytes x
    → verdict hash root q bytes ≡ Ok (scan (handed_out (question q) bytes) q)
handed_scan hash root q bytes x is fits h =
    accepted hash root q bytes x h.is_read
    ∙ ap (λ (rs : List Record). Ok rs) (sym (scan_asked q x.head.radius (opened_records x.part) is
    (right_of hash root q bytes x is fits h.is_read)) ∙ ap (λ (rs : List Record). scan rs q) (sym h.all))

pub query_ends : (hash : List ℕ → List ℕ) (root : List ℕ) (q : Query) (bytes : List ℕ)
    (result : Result Outline Fault) → IsQuery q → IsBytes bytes → EndsAs hash root (question q) bytes result
    → EndsFeeding hash root q bytes result
query_ends hash root q bytes (Ok o) is fits c = record {
  said = c.said;
  hands = c.hands;
  answer = handed_scan hash root q bytes c.said is fits c.hands;
}
query_ends hash root q bytes (Err f) is fits c = refused hash root q bytes f c

-- before the last field one is under way
pub some_want : (k : Kind) (s : Stage) → ((x : Entry) → s ≡ stage.End x → ⊥) → (w : Want) × (want_at k s ≡ Some w)
some_want k (stage.Head f) other = (head_want k f, refl)
some_want k (stage.Tag v) other = (want.Tag v, refl)
some_want k (stage.Shown v) other = (want.Rect, refl)
some_want k (stage.Mask v r) other = (want.Mask, refl)
some_want k (stage.Tally v r n) other = (want.Tally, refl)
some_want k (stage.Digest v r n c) other = (want.Digest, refl)
some_want k (stage.Entries w) other = (want.InnerCount, refl)
some_want k stage.Records other = (want.LeafCount, refl)
some_want k stage.Number other = (want.Number, refl)
some_want k (stage.Sides n) other = (want.Rect, refl)
some_want k (stage.Layer n r) other = (want.Layer, refl)
some_want k (stage.Length n r y) other = (want.Length, refl)
some_want k (stage.Payload n r y l) other = (want.Payload l, refl)
some_want k (stage.End x) other = absurd (other x refl)
