-- What the audit of a join's proof finds of maps that need not be told.
use Rattle.std.proofs.Common.{◌≡◌, ℕ, List, [], ◌∷◌, Bool, true, false, length, Option, Some, None, Result, Ok, Err, refl, sym, ap, subst, ◌∙◌}
use Rattle.std.specs.Prelude.{IfOk, if◌then◌else◌, nat_lt, nat_le, slice_index, bytes_eq, take, drop, ◌==◌}
use Rattle.std.specs.Int.{w32, from_be_bytes}
use Rattle.mr_geom.specs.Rectangle.{Rectangle}
use Rattle.mr_record.specs.Record.{rectangle_of_bytes}
use Rattle.mr_record.specs.Results.{◌>>=◌}
use Rattle.mr_record.specs.declared.record.Record.{Record}
use Rattle.mr_tree.specs.Nodes.{MapModel, IsTop}
use Rattle.mr_tree.specs.declared.nodes.Top.{Top}
use Rattle.mr_proof.specs.declared.rule.Fault.{Fault}
use Rattle.mr_proof.specs.Clash as clashes
use Rattle.mr_clash.specs.Finding.{root_at}
use Rattle.mr_clash.specs.declared.error.AuditErr.{AuditErr}
use Rattle.mr_count.specs.Chosen.{verdict_for, MayBreak}
use Rattle.mr_count.specs.Finding as choices
use Rattle.mr_count.specs.declared.finding.ChoiceFinding.{ChoiceFinding}
use Rattle.mr_count.specs.declared.taken.Taken.{Taken}
use Rattle.mr_count.proofs.Rules.{verdict_breaks}
use Rattle.mr_join.specs.declared.fault.FrameRule.{FrameRule}
use Rattle.mr_join.specs.declared.fault.FrameRule.TheVariants as rule
use Rattle.mr_join.specs.declared.fault.JoinErr.{JoinErr}
use Rattle.mr_join.specs.declared.fault.JoinErr.TheVariants as errors
use Rattle.mr_join.specs.declared.fault.JoinFault.{JoinFault}
use Rattle.mr_join.specs.declared.fault.JoinFault.TheVariants as faults
use Rattle.mr_join.specs.declared.finding.JoinFinding.{JoinFinding}
use Rattle.mr_join.specs.declared.finding.JoinFinding.TheVariants as findings
use Rattle.mr_join.specs.declared.finding.Worth.{Worth}
use Rattle.mr_join.specs.declared.finding.Worth.TheVariants as worths
use Rattle.mr_join.specs.declared.joining.Joined.{Joined}
use Rattle.mr_join.specs.declared.pair.Pair.{Pair}
use Rattle.mr_join.specs.Meets.{meets_way, rects_of}
use Rattle.mr_join.specs.Pairs.{pairs_of}
use Rattle.mr_join.specs.Frame.{Frame, magic, field, frame_fault, past_magic, flag_at, parts_behind, both_parts, parts_at, frame_of}
use Rattle.mr_join.specs.Verdict.{Held, letter, part_verdict, as_first, as_second, first_records, second_taken, is_rect, pairs_behind, frame_verdict, join_verdict, MayBreakJoin}
use Rattle.mr_join.specs.Finding.{finding_by, finding_of, said_by, BreaksNoFlag, FindsForJoin}
use Rattle.mr_join.specs.private.Answers.{GivesJoined}
use Rattle.mr_join.specs.private.Judging.{WorthFor, FirstWorthFor, FindsBy, FindsParts, FindsFrameFor}
use Rattle.mr_join.specs.private.Worths.{worth_of, worth_by, behind, Declines}
use Rattle.mr_join.proofs.Audited.{worth_found}
use Rattle.mr_join.proofs.Worth.{by_frame, no_frame}

-- ---- one part

pub part_judged : (hash : List ℕ → List ℕ) (s : MapModel) (top : Top) (ms list : List Rectangle) (bytes : List ℕ)
    (finding : ChoiceFinding) (w : Worth) → w ≡ worth_of finding
    → choices.FindsForChoice hash s top letter (meets_way ms) bytes finding → meets_way ms ≡ meets_way list
    → WorthFor hash top list bytes w
part_judged hash s top ms list bytes finding w is (is_top, pair, e) same = record {
  clash = pair;
  found = is ∙ ap worth_of e ∙ worth_found (verdict_for hash (hash (root_at top)) letter (meets_way ms) bytes) pair
      ∙ λ i. worth_by (verdict_for hash (hash (root_at top)) letter (same i) bytes) pair;
}

worth_refused : (r : Result Taken Fault) (p : Option clashes.Pair) (f : Fault) → worths.Refused f ≡ worth_by r p
    → r ≡ Err f
worth_refused (Err d) p f e = let same : f ≡ d = cc in λ i. Err (sym same i)
worth_refused (Ok x) None f e = absurd cc
worth_refused (Ok x) (Some p) f e = absurd cc

no_refusal : (f : Fault) → worths.Refused f ≡ worths.Sound → ⊥
no_refusal f e = cc

no_strings : (a b : List ℕ) → worths.Collision a b ≡ worths.Sound → ⊥
no_strings a b e = cc

-- ---- a frame

-- a fault of the first part is that of the frame, whatever the second map
first_refused : (h k : Held) (at : ℕ) (w : Rectangle) (first second : List ℕ) (f : Fault)
    → part_verdict h (w ∷ []) first ≡ Err f
    → frame_verdict h k at (record { rect = Some w; first = first; second = second }) ≡ Err (faults.First f)
first_refused h k at w first second f e =
    ap (λ (r : Result Taken Fault). (as_first r >>= λ x. Ok x.records) >>= λ rs. second_taken k rs second >>= λ y.
    pairs_behind (Some w) at rs y) e

-- so is one of the second part, behind a first part that gives these records
second_refused : (h k : Held) (at : ℕ) (x : Frame) (rs : List Record) (f : Fault)
    → first_records h x.rect x.first ≡ Ok rs → part_verdict k (rects_of rs) x.second ≡ Err f
    → frame_verdict h k at x ≡ Err (faults.Second f)
second_refused h k at x rs f given e =
    ap (λ (r : Result (List Record) JoinFault). r >>= λ rs. second_taken k rs x.second >>= λ y.
    pairs_behind x.rect at rs y) given
    ∙ ap (λ (r : Result Taken Fault). as_second r >>= λ y. pairs_behind x.rect at rs y) e

abbrev no_pair : Option clashes.Pair
no_pair = None

module _ (f g : List ℕ → List ℕ) (top other : Top) (at : ℕ) where
  finds : (x : Frame) (finding : JoinFinding) (c d : Option clashes.Pair)
      → finding ≡ finding_of (frame_verdict (said_by f top) (said_by g other) at x) c d
      → FindsFrameFor f g top other at x finding
  finds x finding c d e = record { first = c; second = d; found = e }

  finds_given : (x : Frame) (finding : JoinFinding) (c d : Option clashes.Pair) (pairs : List Pair)
      → frame_verdict (said_by f top) (said_by g other) at x ≡ Ok pairs → finding ≡ finding_by pairs c d
      → FindsFrameFor f g top other at x finding
  finds_given x finding c d pairs gives e =
      finds x finding c d
      (e ∙ ap (λ (q : Result (List Pair) JoinFault). finding_of q c d) (sym gives))

  finds_refused : (x : Frame) (finding : JoinFinding) (e : JoinFault)
      → frame_verdict (said_by f top) (said_by g other) at x ≡ Err e → finding ≡ findings.Refused e
      → FindsFrameFor f g top other at x finding
  finds_refused x finding e gives found =
      finds x finding no_pair no_pair
      (found ∙ ap (λ (q : Result (List Pair) JoinFault). finding_of q no_pair no_pair) (sym gives))

  -- by the worth of the second part
  behind_judged : (x : Frame) (rs : List Record) (pairs : List Pair)
      → first_records (said_by f top) x.rect x.first ≡ Ok rs
      → frame_verdict (said_by f top) (said_by g other) at x ≡ Ok pairs → (w : Worth)
      → WorthFor g other (rects_of rs) x.second w → (finding : JoinFinding) → finding ≡ behind w pairs
      → FindsFrameFor f g top other at x finding
  behind_judged x rs pairs given gives (worths.Refused e) worth finding found =
      finds_refused x finding (faults.Second e)
      (second_refused (said_by f top) (said_by g other) at x rs e given
      (worth_refused (part_verdict (said_by g other) (rects_of rs) x.second) worth.clash e worth.found)) found
  behind_judged x rs pairs given gives worths.Sound worth finding found =
      finds_given x finding no_pair no_pair pairs gives found
  behind_judged x rs pairs given gives (worths.Collision a b) worth finding found =
      finds_given x finding no_pair (Some (record { owned = a; shown = b })) pairs gives found

  -- by that of both
  parts_by : (o : Option Rectangle) (first second : List ℕ) (rs : List Record) (pairs : List Pair)
      → first_records (said_by f top) o first ≡ Ok rs
      → frame_verdict (said_by f top) (said_by g other) at (record { rect = o; first = first; second = second })
      ≡ Ok pairs
      → (w : Worth) → FirstWorthFor f top o first w → (finding : JoinFinding)
      → FindsBy g other (rects_of rs) second pairs w finding
      → FindsFrameFor f g top other at (record { rect = o; first = first; second = second }) finding
  parts_by None first second rs pairs given gives (worths.Refused e) worth finding found =
      absurd (no_refusal e worth)
  parts_by (Some r) first second rs pairs given gives (worths.Refused e) worth finding found =
      finds_refused (record { rect = Some r; first = first; second = second }) finding (faults.First e)
      (first_refused (said_by f top) (said_by g other) at r first second e
      (worth_refused (part_verdict (said_by f top) (r ∷ []) first) worth.clash e worth.found)) found
  parts_by o first second rs pairs given gives (worths.Collision a b) worth finding found =
      finds_given (record { rect = o; first = first; second = second }) finding
      (Some (record { owned = a; shown = b })) no_pair pairs gives found
  parts_by o first second rs pairs given gives worths.Sound worth finding found =
      behind_judged (record { rect = o; first = first; second = second }) rs pairs given gives found.second
      found.is_second finding found.found

then_ok : {A E : Type 0} (r : Result A E) (P Q : A → Type 0) → ((x : A) → P x → Q x) → IfOk r P → IfOk r Q
then_ok (Ok x) P Q up h = up x h
then_ok (Err e) P Q up h = tt

module _ (f g : List ℕ → List ℕ) (top other : Top) (a b : List ℕ) (first : a ≡ f (root_at top))
    (second : b ≡ g (root_at other)) (at : ℕ) (x : Frame) (r : Result JoinFinding AuditErr) where
  said_both : (p : Result Joined JoinErr)
      → GivesJoined (record { of = f; root = a }) (record { of = g; root = b }) at x p
      → GivesJoined (said_by f top) (said_by g other) at x p
  said_both p gives =
      subst (λ (c : List ℕ). GivesJoined (said_by f top) (record { of = g; root = c }) at x p) second
      (subst (λ (c : List ℕ). GivesJoined (record { of = f; root = c }) (record { of = g; root = b }) at x p) first
      gives)

  pub parts_judged : (j : Joined)
      → GivesJoined (record { of = f; root = a }) (record { of = g; root = b }) at x (Ok j)
      → IfOk r (FindsParts f g top other x (rects_of j.records) j.pairs) → IfOk r (FindsFrameFor f g top other at x)
  parts_judged j gives found =
      let said = said_both (Ok j) gives in
      then_ok r (FindsParts f g top other x (rects_of j.records) j.pairs) (FindsFrameFor f g top other at x)
      (λ z parts. parts_by f g top other at x.rect x.first x.second j.records j.pairs said.0 said.1
      parts.one parts.is_one z parts.found) found

  pub declined_judged : (e : JoinErr) → Declines e r
      → GivesJoined (record { of = f; root = a }) (record { of = g; root = b }) at x (Err e)
      → IfOk r (FindsFrameFor f g top other at x)
  declined_judged (errors.Fault d) declines gives =
      subst (λ (r : Result JoinFinding AuditErr). IfOk r (FindsFrameFor f g top other at x)) (sym declines)
      (finds_refused f g top other at x (findings.Refused d) d (said_both (Err (errors.Fault d)) gives) refl)
  declined_judged errors.NoMemory declines gives =
      subst (λ (r : Result JoinFinding AuditErr). IfOk r (FindsFrameFor f g top other at x)) (sym declines) tt

-- ---- the whole

pub unread_judged : (f g : List ℕ → List ℕ) (s v : MapModel) (top other : Top) (bytes : List ℕ) (d : JoinFault)
    → IsTop f s top → IsTop g v other → frame_of bytes ≡ Err d
    → FindsForJoin f g s v top other bytes (findings.Refused d)
unread_judged f g s v top other bytes d is own read = record {
  is_top = is;
  is_other = own;
  first = None;
  second = None;
  found = sym (ap (λ (q : Result (List Pair) JoinFault). finding_of q no_pair no_pair)
      (no_frame (said_by f top) (said_by g other) bytes d read));
}

pub read_judged : (f g : List ℕ → List ℕ) (s v : MapModel) (top other : Top) (bytes : List ℕ) (x : Frame)
    (r : Result JoinFinding AuditErr) → IsTop f s top → IsTop g v other → frame_of bytes ≡ Ok x
    → IfOk r (FindsFrameFor f g top other (length bytes) x) → IfOk r (FindsForJoin f g s v top other bytes)
read_judged f g s v top other bytes x r is own read found =
    then_ok r (FindsFrameFor f g top other (length bytes) x) (FindsForJoin f g s v top other bytes) (λ z h. record {
      is_top = is;
      is_other = own;
      first = h.first;
      second = h.second;
      found = h.found ∙ ap (λ (q : Result (List Pair) JoinFault). finding_of q h.first h.second)
          (sym (by_frame (said_by f top) (said_by g other) bytes x read));
    }) found

-- ---- the rules that may be broken

abbrev Breaks : {A : Type 0} → Result A JoinFault → Type 0
Breaks r = (f : JoinFault) → r ≡ Err f → MayBreakJoin f

good_breaks : {A : Type 0} (x : A) → Breaks {A = A} (Ok x)
good_breaks x f e = absurd cc

step_breaks : {A B : Type 0} (r : Result A JoinFault) (next : A → Result B JoinFault) → Breaks r
    → ((x : A) → Breaks (next x)) → Breaks (r >>= next)
step_breaks (Ok x) next one other f e = other x f e
step_breaks (Err d) next one other f e = let same : d ≡ f = cc in subst MayBreakJoin same (one d refl)

frame_breaks : {A : Type 0} (broken : FrameRule) (at : ℕ) → Breaks {A = A} (Err (frame_fault broken at))
frame_breaks broken at f e = let same : frame_fault broken at ≡ f = cc in subst MayBreakJoin same tt

if_breaks : {A : Type 0} (t : Bool) (p q : Result A JoinFault) → Breaks p → Breaks q → Breaks (if t then p else q)
if_breaks true p q one other = one
if_breaks false p q one other = other

field_breaks : (size at : ℕ) (bytes : List ℕ) → Breaks (field size at bytes)
field_breaks size at bytes =
    if_breaks (nat_lt (length bytes) size) (Err (frame_fault rule.Short at)) (Ok (take size bytes, drop size bytes))
    (frame_breaks rule.Short at) (good_breaks (take size bytes, drop size bytes))

magic_breaks : (bytes : List ℕ) → Breaks (past_magic bytes)
magic_breaks bytes =
    step_breaks (field 4 0 bytes) (λ x. if bytes_eq x.0 magic then Ok x.1 else Err (frame_fault rule.BadMagic 0))
    (field_breaks 4 0 bytes)
    (λ x. if_breaks (bytes_eq x.0 magic) (Ok x.1) (Err (frame_fault rule.BadMagic 0)) (good_breaks x.1)
    (frame_breaks rule.BadMagic 0))

flag_breaks : (bytes : List ℕ) → Breaks (flag_at bytes)
flag_breaks bytes =
    step_breaks (field 1 4 bytes)
    (λ x. if nat_le (slice_index x.0 0) 1 then Ok (slice_index x.0 0, x.1) else Err (frame_fault rule.BadFlag 4))
    (field_breaks 1 4 bytes)
    (λ x. if_breaks (nat_le (slice_index x.0 0) 1) (Ok (slice_index x.0 0, x.1)) (Err (frame_fault rule.BadFlag 4))
    (good_breaks (slice_index x.0 0, x.1)) (frame_breaks rule.BadFlag 4))

behind_breaks : (o : Option Rectangle) (bytes : List ℕ) → Breaks (parts_behind o bytes)
behind_breaks None bytes = frame_breaks rule.BadRect 5
behind_breaks (Some w) bytes =
    step_breaks (field 4 21 bytes) (λ n. field (from_be_bytes w32 n.0) 25 n.1 >>= λ x. Ok (both w x))
    (field_breaks 4 21 bytes)
    (λ n. step_breaks (field (from_be_bytes w32 n.0) 25 n.1) (λ x. Ok (both w x))
    (field_breaks (from_be_bytes w32 n.0) 25 n.1) (λ x. good_breaks (both w x)))
  where
    both : Rectangle → List ℕ × List ℕ → Frame
    both w x = record { rect = Some w; first = x.0; second = x.1 }

both_breaks : (bytes : List ℕ) → Breaks (both_parts bytes)
both_breaks bytes =
    step_breaks (field 16 5 bytes) (λ x. parts_behind (rectangle_of_bytes x.0) x.1) (field_breaks 16 5 bytes)
    (λ x. behind_breaks (rectangle_of_bytes x.0) x.1)

parts_breaks : (flag : ℕ) (bytes : List ℕ) → Breaks (parts_at flag bytes)
parts_breaks flag bytes =
    if_breaks (flag == 0) (Ok (record { rect = None; first = []; second = bytes })) (both_parts bytes)
    (good_breaks (record { rect = None; first = []; second = bytes })) (both_breaks bytes)

frame_of_breaks : (bytes : List ℕ) → Breaks (frame_of bytes)
unfolding frame_of
frame_of_breaks bytes =
    step_breaks (past_magic bytes) (λ rest. flag_at rest >>= λ x. parts_at x.0 x.1) (magic_breaks bytes)
    (λ rest. step_breaks (flag_at rest) (λ x. parts_at x.0 x.1) (flag_breaks rest)
    (λ x. parts_breaks x.0 x.1))

as_first_breaks : (r : Result Taken Fault) → ((f : Fault) → r ≡ Err f → MayBreak f.rule) → Breaks (as_first r)
as_first_breaks (Ok x) may f e = good_breaks x f e
as_first_breaks (Err d) may f e = let same : faults.First d ≡ f = cc in subst MayBreakJoin same (may d refl)

as_second_breaks : (r : Result Taken Fault) → ((f : Fault) → r ≡ Err f → MayBreak f.rule) → Breaks (as_second r)
as_second_breaks (Ok x) may f e = good_breaks x f e
as_second_breaks (Err d) may f e = let same : faults.Second d ≡ f = cc in subst MayBreakJoin same (may d refl)

first_breaks : (h : Held) (o : Option Rectangle) (bytes : List ℕ) → Breaks (first_records h o bytes)
first_breaks h None bytes = good_breaks []
first_breaks h (Some w) bytes =
    step_breaks (as_first (part_verdict h (w ∷ []) bytes)) (λ x. Ok x.records)
    (as_first_breaks (part_verdict h (w ∷ []) bytes) (verdict_breaks h.of h.root letter (meets_way (w ∷ [])) bytes))
    (λ x. good_breaks x.records)

second_breaks : (k : Held) (rs : List Record) (bytes : List ℕ) → Breaks (second_taken k rs bytes)
second_breaks k rs bytes =
    as_second_breaks (part_verdict k (rects_of rs) bytes)
    (verdict_breaks k.of k.root letter (meets_way (rects_of rs)) bytes)

pairs_break : (o : Option Rectangle) (at : ℕ) (rs : List Record) (y : Taken) → Breaks (pairs_behind o at rs y)
pairs_break None at rs y =
    if_breaks (y.count == 0) (Ok (pairs_of rs y.records)) (Err (frame_fault rule.WrongFlag at))
    (good_breaks (pairs_of rs y.records)) (frame_breaks rule.WrongFlag at)
pairs_break (Some w) at rs y =
    if_breaks (is_rect w y.rect) (Ok (pairs_of rs y.records)) (Err (frame_fault rule.WrongRect at))
    (good_breaks (pairs_of rs y.records)) (frame_breaks rule.WrongRect at)

frame_verdict_breaks : (h k : Held) (at : ℕ) (x : Frame) → Breaks (frame_verdict h k at x)
frame_verdict_breaks h k at x =
    step_breaks (first_records h x.rect x.first)
    (λ rs. second_taken k rs x.second >>= λ y. pairs_behind x.rect at rs y) (first_breaks h x.rect x.first)
    (λ rs. step_breaks (second_taken k rs x.second) (λ y. pairs_behind x.rect at rs y) (second_breaks k rs x.second)
    (λ y. pairs_break x.rect at rs y))

pub join_breaks : (h k : Held) (bytes : List ℕ) (f : JoinFault) → join_verdict h k bytes ≡ Err f → MayBreakJoin f
unfolding join_verdict
join_breaks h k bytes =
    step_breaks (frame_of bytes) (λ x. frame_verdict h k (length bytes) x) (frame_of_breaks bytes)
    (λ x. frame_verdict_breaks h k (length bytes) x)

breaks_by : (q : Result (List Pair) JoinFault) (c d : Option clashes.Pair) → Breaks q → BreaksNoFlag (finding_of q c d)
breaks_by (Err f) c d may = may f refl
breaks_by (Ok pairs) (Some p) d may = tt
breaks_by (Ok pairs) None (Some p) may = tt
breaks_by (Ok pairs) None None may = tt

pub finding_breaks : (f g : List ℕ → List ℕ) (s v : MapModel) (top other : Top) (bytes : List ℕ)
    (r : Result JoinFinding AuditErr) → IfOk r (FindsForJoin f g s v top other bytes) → IfOk r BreaksNoFlag
finding_breaks f g s v top other bytes r found =
    then_ok r (FindsForJoin f g s v top other bytes) BreaksNoFlag (λ z h.
    let q = join_verdict (said_by f top) (said_by g other) bytes in
    subst BreaksNoFlag (sym h.found)
    (breaks_by q h.first h.second (join_breaks (said_by f top) (said_by g other) bytes))) found
