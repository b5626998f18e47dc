-- What the audit of a join's proof finds.
use Rattle.std.proofs.Common.{◌≡◌, ℕ, List, [], ◌∷◌, Option, Some, None, Result, Ok, Err, length, refl, sym, ap, subst, ◌∙◌}
use Rattle.std.proofs.Math.Logic.{∥∥₁_elim}
use Rattle.std.proofs.Props.{props}
use Rattle.std.specs.Coded.{Coded-set as set, coded_list}
use Rattle.std.specs.Prelude.{IfSome, IfOk, ◌^◌, ◌<◌}
use Rattle.mr_geom.specs.Rectangle.{Rectangle}
use Rattle.mr_record.specs.Results.{◌>>=◌}
use Rattle.mr_record.specs.declared.record.Record.{Record}
use Rattle.mr_record.specs.declared.version.Version.TheVariants.{Two}
use Rattle.mr_record.proofs.Results.{bind_ok}
use Rattle.mr_tree.specs.Digest.{Scheme, by, root}
use Rattle.mr_tree.specs.Nodes.{MapModel, IsTop}
use Rattle.mr_tree.specs.WellFormed.{WellFormed}
use Rattle.mr_tree.specs.declared.nodes.Top.{Top}
use Rattle.mr_tree.specs.declared.tree.Tree.{Tree}
use Rattle.mr_proof.specs.declared.rule.Fault.{Fault}
use Rattle.mr_proof.specs.Clash as clashes
use Rattle.mr_proof.specs.Clash.{NoneAnd}
use Rattle.mr_clash.specs.Finding.{root_at}
use Rattle.mr_clash.specs.declared.error.AuditErr.{AuditErr}
use Rattle.mr_clash.proofs.Roots.{root_told}
use Rattle.mr_count.specs.Chosen.{verdict_for}
use Rattle.mr_count.specs.Finding as choices
use Rattle.mr_count.specs.declared.finding.ChoiceFinding.{ChoiceFinding}
use Rattle.mr_count.specs.declared.taken.Taken.{Taken}
use Rattle.mr_join.specs.declared.fault.JoinErr.{JoinErr}
use Rattle.mr_join.specs.declared.fault.JoinErr.TheVariants as errors
use Rattle.mr_join.specs.declared.fault.JoinFault.{JoinFault}
use Rattle.mr_join.specs.declared.finding.JoinFinding.{JoinFinding}
use Rattle.mr_join.specs.declared.finding.JoinFinding.TheVariants as findings
use Rattle.mr_join.specs.declared.finding.Worth.{Worth}
use Rattle.mr_join.specs.declared.joining.Joined.{Joined}
use Rattle.mr_join.specs.contracts.pair.Pair.{the_row as row}
use Rattle.mr_join.specs.declared.pair.Pair.{Pair}
use Rattle.mr_join.specs.Meets.{meets_way, rects_of}
use Rattle.mr_join.specs.Frame.{Frame, frame_of}
use Rattle.mr_join.specs.Verdict.{Held, letter, part_verdict, as_first, first_records, second_taken, pairs_behind, frame_verdict, join_verdict}
use Rattle.mr_join.specs.Accepted.{Owned, IsOwned, owned, held, join_proof, map_pairs, part_clash, first_part_clash, first_of_frame, second_of_frame, first_clash, second_clash, IsHonestJoin, AcceptedJoinIsHonest, AcceptsHonestJoin}
use Rattle.mr_join.specs.Finding.{finding_by, finding_of, join_found, IsSound, FindsHonestJoin}
use Rattle.mr_join.specs.private.Answers.{GivesJoined}
use Rattle.mr_join.specs.private.Worths.{worth_of, worth_by, part_worth, first_worth, behind, finding_of_worths, Declines, FindsFrame}
use Rattle.mr_join.proofs.Worth.{first_was, second_was, by_frame, no_frame}

-- ---- one part

pub worth_found : (r : Result Taken Fault) (p : Option clashes.Pair) → worth_of (choices.finding_of r p) ≡ worth_by r p
worth_found (Err f) p = refl
worth_found (Ok x) None = refl
worth_found (Ok x) (Some p) = refl

pub part_found : (s : Scheme) (t : Tree) (batch : ℕ) (ms list : List Rectangle) (bytes : List ℕ)
    (finding : ChoiceFinding) (w : Worth) → w ≡ worth_of finding
    → finding ≡ choices.found_for s t batch letter (meets_way ms) bytes → meets_way ms ≡ meets_way list
    → w ≡ part_worth s (record { tree = t; batch = batch }) list bytes
part_found s t batch ms list bytes finding w is e same =
    let m : Owned = record { tree = t; batch = batch } in
    is ∙ ap worth_of e
    ∙ worth_found (verdict_for s.of (root s t batch) letter (meets_way ms) bytes) (part_clash s m bytes)
    ∙ λ i. worth_by (verdict_for s.of (root s t batch) letter (same i) bytes) (part_clash s m bytes)

-- ---- both parts, which give pairs

same_records : (a b : List Record) → ◌≡◌ {A = Result (List Record) JoinFault} (Ok a) (Ok b) → a ≡ b
same_records a b e = cc

second_by : (x : Taken) (c : Option clashes.Pair) (pairs : List Pair)
    → behind (worth_by (Ok x) c) pairs ≡ finding_by pairs None c
second_by x None pairs = refl
second_by x (Some q) pairs = refl

first_by : (x : Taken) (c d : Option clashes.Pair) (pairs : List Pair) (y : Taken)
    → finding_of_worths (worth_by (Ok x) c) (worth_by (Ok y) d) pairs ≡ finding_by pairs c d
first_by x None d pairs y = second_by y d pairs
first_by x (Some p) d pairs y = refl

-- the second part is accepted where there are pairs
pub second_accepted : (h k : Held) (at : ℕ) (o : Option Rectangle) (first second : List ℕ) (rs : List Record)
    (pairs : List Pair) → first_records h o first ≡ Ok rs
    → frame_verdict h k at (record { rect = o; first = first; second = second }) ≡ Ok pairs
    → (y : Taken) × (part_verdict k (rects_of rs) second ≡ Ok y)
second_accepted h k at o first second rs pairs given e =
    let us = bind_ok (first_records h o first)
    (λ us. second_taken k us second >>= λ y. pairs_behind o at us y) pairs e in
    let same : us.0 ≡ rs = same_records us.0 rs (sym us.1 ∙ given) in
    let y = bind_ok (second_taken k us.0 second) (λ y. pairs_behind o at us.0 y) pairs us.2 in (
      y.0,
      subst (λ (zs : List Record). part_verdict k (rects_of zs) second ≡ Ok y.0) same
          (second_was (part_verdict k (rects_of us.0) second) y.0 y.1),
    )

pub first_accepted : (h : Held) (w : Rectangle) (first : List ℕ) (rs : List Record)
    → first_records h (Some w) first ≡ Ok rs → (x : Taken) × (part_verdict h (w ∷ []) first ≡ Ok x)
first_accepted h w first rs given =
    let x = bind_ok (as_first (part_verdict h (w ∷ []) first)) (λ x. Ok x.records) rs given in
    (x.0, first_was (part_verdict h (w ∷ []) first) x.0 x.1)

pub worths_found : (s v : Scheme) (m n : Owned) (at : ℕ) (o : Option Rectangle) (first second : List ℕ)
    (rs : List Record) (pairs : List Pair) → first_records (held s m) o first ≡ Ok rs
    → frame_verdict (held s m) (held v n) at (record { rect = o; first = first; second = second }) ≡ Ok pairs
    → finding_of_worths (first_worth s m o first) (part_worth v n (rects_of rs) second) pairs
    ≡ finding_by pairs (first_part_clash s m o first) (part_clash v n second)
worths_found s v m n at None first second rs pairs given e =
    let y = second_accepted (held s m) (held v n) at None first second rs pairs given e in
    ap (λ (r : Result Taken Fault). behind (worth_by r (part_clash v n second)) pairs) y.1
    ∙ second_by y.0 (part_clash v n second) pairs
worths_found s v m n at (Some w) first second rs pairs given e =
    let x = first_accepted (held s m) w first rs given in
    let y = second_accepted (held s m) (held v n) at (Some w) first second rs pairs given e in
    (λ i. finding_of_worths (worth_by (x.1 i) (part_clash s m first)) (worth_by (y.1 i) (part_clash v n second)) pairs)
    ∙ first_by x.0 (part_clash s m first) (part_clash v n second) pairs y.0

-- ---- by the root digests of maps that are told

pub held_told : (hash : List ℕ → List ℕ) (s : MapModel) (top : Top) (t : Tree) (digest : List ℕ) → IsTop hash s top
    → s.tree ≡ Some t → digest ≡ hash (root_at top)
    → record { of = hash; root = digest } ≡ held (by s.version hash) (owned s t)
held_told hash s top t digest is told e =
    λ i. record { of = hash; root = (e ∙ ap hash (root_told hash s top t is told)) i }

declined_frame : (h k : Held) (at : ℕ) (x : Frame) (e : JoinErr) (r : Result JoinFinding AuditErr)
    (c d : Option clashes.Pair) → Declines e r → GivesJoined h k at x (Err e)
    → IfOk r (λ z. z ≡ finding_of (frame_verdict h k at x) c d)
declined_frame h k at x (errors.Fault f) r c d declines gives =
    subst (λ (r : Result JoinFinding AuditErr). IfOk r (λ z. z ≡ finding_of (frame_verdict h k at x) c d))
    (sym declines) (ap (λ (q : Result (List Pair) JoinFault). finding_of q c d) (sym gives))
declined_frame h k at x errors.NoMemory r c d declines gives =
    subst (λ (r : Result JoinFinding AuditErr). IfOk r (λ z. z ≡ finding_of (frame_verdict h k at x) c d))
    (sym declines) tt

then_ok : {A E : Type 0} (r : Result A E) (P Q : A → Type 0) → ((x : A) → P x → Q x) → IfOk r P → IfOk r Q
then_ok (Ok x) P Q up h = up x h
then_ok (Err e) P Q up h = tt

joined_frame : (s v : Scheme) (m n : Owned) (at : ℕ) (x : Frame) (j : Joined) (r : Result JoinFinding AuditErr)
    → GivesJoined (held s m) (held v n) at x (Ok j)
    → IfOk r (λ z. z ≡ finding_of_worths (first_worth s m x.rect x.first) (part_worth v n (rects_of j.records) x.second)
    j.pairs)
    → IfOk r (FindsFrame s v m n at x)
joined_frame s v m n at x j r gives told =
    then_ok r (λ z. z ≡ finding_of_worths (first_worth s m x.rect x.first)
    (part_worth v n (rects_of j.records) x.second) j.pairs) (FindsFrame s v m n at x)
    (λ z e. e ∙ worths_found s v m n at x.rect x.first x.second j.records j.pairs gives.0 gives.1
    ∙ ap (λ (q : Result (List Pair) JoinFault). finding_of q (first_part_clash s m x.rect x.first)
    (part_clash v n x.second)) (sym gives.1)) told

module _ (f g : List ℕ → List ℕ) (s v : MapModel) (top other : Top) (a b : List ℕ) (is : IsTop f s top)
    (own : IsTop g v other) (first : a ≡ f (root_at top)) (second : b ≡ g (root_at other)) (at : ℕ) (x : Frame)
    (r : Result JoinFinding AuditErr) where
  both_held : (t u : Tree) → s.tree ≡ Some t → v.tree ≡ Some u → (p : Result Joined JoinErr)
      → GivesJoined (record { of = f; root = a }) (record { of = g; root = b }) at x p
      → GivesJoined (held (by s.version f) (owned s t)) (held (by v.version g) (owned v u)) at x p
  both_held t u told knows p gives =
      subst (λ (k : Held). GivesJoined (held (by s.version f) (owned s t)) k at x p)
      (held_told g v other u b own knows second)
      (subst (λ (h : Held). GivesJoined h (record { of = g; root = b }) at x p)
      (held_told f s top t a is told first) gives)

  pub declined_told : (e : JoinErr) → Declines e r
      → GivesJoined (record { of = f; root = a }) (record { of = g; root = b }) at x (Err e)
      → IfSome s.tree (λ t. IfSome v.tree (λ u. IfOk r
      (FindsFrame (by s.version f) (by v.version g) (owned s t) (owned v u) at x)))
  declined_told e declines gives = by_trees s.tree v.tree refl refl
    where
      by_trees : (o q : Option Tree) → s.tree ≡ o → v.tree ≡ q → IfSome o (λ t. IfSome q (λ u. IfOk r
          (FindsFrame (by s.version f) (by v.version g) (owned s t) (owned v u) at x)))
      by_trees None q told knows = tt
      by_trees (Some t) None told knows = tt
      by_trees (Some t) (Some u) told knows =
          declined_frame (held (by s.version f) (owned s t)) (held (by v.version g) (owned v u)) at x e r
          (first_part_clash (by s.version f) (owned s t) x.rect x.first) (part_clash (by v.version g)
          (owned v u) x.second)
          declines (both_held t u told knows (Err e) gives)

  pub joined_told : (j : Joined)
      → GivesJoined (record { of = f; root = a }) (record { of = g; root = b }) at x (Ok j)
      → IfSome s.tree (λ t. IfSome v.tree (λ u. IfOk r (λ z. z ≡ finding_of_worths
      (first_worth (by s.version f) (owned s t) x.rect x.first)
      (part_worth (by v.version g) (owned v u) (rects_of j.records) x.second) j.pairs)))
      → IfSome s.tree (λ t. IfSome v.tree (λ u. IfOk r
      (FindsFrame (by s.version f) (by v.version g) (owned s t) (owned v u) at x)))
  joined_told j gives found = by_trees s.tree v.tree refl refl found
    where
      by_trees : (o q : Option Tree) → s.tree ≡ o → v.tree ≡ q
          → IfSome o (λ t. IfSome q (λ u. IfOk r (λ z. z ≡ finding_of_worths
          (first_worth (by s.version f) (owned s t) x.rect x.first)
          (part_worth (by v.version g) (owned v u) (rects_of j.records) x.second) j.pairs)))
          → IfSome o (λ t. IfSome q (λ u. IfOk r
          (FindsFrame (by s.version f) (by v.version g) (owned s t) (owned v u) at x)))
      by_trees None q told knows h = tt
      by_trees (Some t) None told knows h = tt
      by_trees (Some t) (Some u) told knows h =
          joined_frame (by s.version f) (by v.version g) (owned s t) (owned v u) at x j r
          (both_held t u told knows (Ok j) gives) h

-- ---- the whole

pub unread_found : (s v : Scheme) (m n : Owned) (bytes : List ℕ) (d : JoinFault) → frame_of bytes ≡ Err d
    → findings.Refused d ≡ join_found s v m n bytes
unread_found s v m n bytes d read =
    sym (ap (λ (q : Result (List Pair) JoinFault). finding_of q (first_clash s m bytes) (second_clash v n bytes))
    (no_frame (held s m) (held v n) bytes d read))

pub read_found : (s v : Scheme) (m n : Owned) (bytes : List ℕ) (at : ℕ) (x : Frame) (z : JoinFinding)
    → at ≡ length bytes → frame_of bytes ≡ Ok x → FindsFrame s v m n at x z → z ≡ join_found s v m n bytes
read_found s v m n bytes at x z long read found =
    found ∙ ap (λ (k : ℕ). finding_of (frame_verdict (held s m) (held v n) k x) (first_part_clash s m x.rect x.first)
    (part_clash v n x.second)) long
    ∙ λ i. finding_of (sym (by_frame (held s m) (held v n) bytes x read) i) (first_of_frame s m (sym read i))
    (second_of_frame v n (sym read i))

-- of maps of version 2
sound_by : (f g : List ℕ → List ℕ) (m n : Owned) (bytes : List ℕ) (q : Result (List Pair) JoinFault)
    (c d : Option clashes.Pair)
    → ((pairs : List Pair) → q ≡ Ok pairs → NoneAnd f c (NoneAnd g d (IsHonestJoin f g m n bytes pairs)))
    → (pairs : List Pair) → finding_of q c d ≡ findings.Sound pairs → IsHonestJoin f g m n bytes pairs
sound_by f g m n bytes (Err e) c d worth pairs is = absurd cc
sound_by f g m n bytes (Ok ps) (Some p) d worth pairs is = absurd cc
sound_by f g m n bytes (Ok ps) None (Some p) worth pairs is = absurd cc
sound_by f g m n bytes (Ok ps) None None worth pairs is =
    let same : ps ≡ pairs = cc in worth pairs (ap (λ (xs : List Pair). Ok xs) same)

sound_some : (z : JoinFinding) → IsSound z → (pairs : List Pair) × (z ≡ findings.Sound pairs)
sound_some (findings.Refused f) is = absurd is
sound_some (findings.Sound pairs) is = (pairs, refl)
sound_some (findings.First a b) is = absurd is
sound_some (findings.Second a b) is = absurd is

pub finds_honest : (f g : List ℕ → List ℕ) (m n : Owned) (bytes : List ℕ) (z : JoinFinding) → IsOwned m → IsOwned n
    → AcceptedJoinIsHonest f g bytes → AcceptsHonestJoin f g → z ≡ join_found (by Two f) (by Two g) m n bytes
    → FindsHonestJoin f g m n bytes z
finds_honest f g m n bytes z own_m own_n accepted complete found = record {
  just = (
    λ is. let some = sound_some z is in (honest some.0 (sym found ∙ some.1)).own,
    λ own. subst IsSound (sym (found ∙ sound own)) tt,
  );
  whole = λ pairs is. (honest pairs (sym found ∙ is)).whole;
}
  where
    honest : (pairs : List Pair) → join_found (by Two f) (by Two g) m n bytes ≡ findings.Sound pairs
        → IsHonestJoin f g m n bytes pairs
    honest pairs is =
        sound_by f g m n bytes (join_verdict (held (by Two f) m) (held (by Two g) n) bytes)
        (first_clash (by Two f) m bytes) (second_clash (by Two g) n bytes)
        (λ ps e. accepted m n ps own_m own_n e) pairs is

    sound : bytes ≡ join_proof f g m n
        → join_found (by Two f) (by Two g) m n bytes ≡ findings.Sound (map_pairs m n)
    sound own =
        let is = complete m n own_m own_n in
        ap (join_found (by Two f) (by Two g) m n) own
        ∙ λ i. finding_of (is.accepted i) (is.first i) (is.second i)

finds_prop : (f g : List ℕ → List ℕ) (m n : Owned) (bytes : List ℕ) (z : JoinFinding)
    → IsProp (FindsHonestJoin f g m n bytes z)
finds_prop f g m n bytes (findings.Refused d) = hlevel (props, set (coded_list row.coded))
finds_prop f g m n bytes (findings.Sound pairs) = hlevel (props, set (coded_list row.coded))
finds_prop f g m n bytes (findings.First owned shown) = hlevel (props, set (coded_list row.coded))
finds_prop f g m n bytes (findings.Second owned shown) = hlevel (props, set (coded_list row.coded))

found_prop : (f g : List ℕ → List ℕ) (m n : Owned) (bytes : List ℕ) (r : Result JoinFinding AuditErr)
    → IsProp (IfOk r (FindsHonestJoin f g m n bytes))
found_prop f g m n bytes (Ok z) = finds_prop f g m n bytes z
found_prop f g m n bytes (Err e) = hlevel props

-- so of maps that are told, which are well formed
pub honest_told : (f g : List ℕ → List ℕ) (s v : MapModel) (top other : Top) (bytes : List ℕ)
    (r : Result JoinFinding AuditErr) → IsTop f s top → IsTop g v other → top.batch < 2 ^ 64 → other.batch < 2 ^ 64
    → AcceptedJoinIsHonest f g bytes → AcceptsHonestJoin f g → IfSome s.tree (λ t. ∥ WellFormed t ∥₁)
    → IfSome v.tree (λ u. ∥ WellFormed u ∥₁)
    → IfSome s.tree (λ t. IfSome v.tree (λ u. IfOk r (λ z. z
    ≡ join_found (by s.version f) (by v.version g) (owned s t) (owned v u) bytes)))
    → IfSome s.tree (λ t. IfSome v.tree (λ u. s.version ≡ Two → v.version ≡ Two
    → IfOk r (FindsHonestJoin f g (owned s t) (owned v u) bytes)))
honest_told f g s v top other bytes r is own low few accepted complete wells fines found =
    by_trees s.tree v.tree wells fines found
  where
    by_trees : (o q : Option Tree) → IfSome o (λ t. ∥ WellFormed t ∥₁) → IfSome q (λ u. ∥ WellFormed u ∥₁)
        → IfSome o (λ t. IfSome q (λ u. IfOk r (λ z. z
        ≡ join_found (by s.version f) (by v.version g) (owned s t) (owned v u) bytes)))
        → IfSome o (λ t. IfSome q (λ u. s.version ≡ Two → v.version ≡ Two
        → IfOk r (FindsHonestJoin f g (owned s t) (owned v u) bytes)))
    by_trees None q well fine h = tt
    by_trees (Some t) None well fine h = tt
    by_trees (Some t) (Some u) well fine h = λ two dos.
        ∥∥₁_elim well (found_prop f g (owned s t) (owned v u) bytes r) (λ sound.
        ∥∥₁_elim fine (found_prop f g (owned s t) (owned v u) bytes r) (λ good.
        then_ok r (λ z. z ≡ join_found (by s.version f) (by v.version g) (owned s t) (owned v u) bytes)
        (FindsHonestJoin f g (owned s t) (owned v u) bytes)
        (λ z e. finds_honest f g (owned s t) (owned v u) bytes z
        (record { well = sound; batch = subst (λ (b : ℕ). b < 2 ^ 64) is.batch low })
        (record { well = good; batch = subst (λ (b : ℕ). b < 2 ^ 64) own.batch few }) accepted complete
        (e ∙ λ i. join_found (by (two i) f) (by (dos i) g) (owned s t) (owned v u) bytes)) h))

module _ (f g : List ℕ → List ℕ) (s v : MapModel) (bytes : List ℕ) (r : Result JoinFinding AuditErr) where
  -- what is found by what the frame's bytes are
  pub read_told : (x : Frame) → frame_of bytes ≡ Ok x
      → IfSome s.tree (λ t. IfSome v.tree (λ u. IfOk r
      (FindsFrame (by s.version f) (by v.version g) (owned s t) (owned v u) (length bytes) x)))
      → IfSome s.tree (λ t. IfSome v.tree (λ u. IfOk r (λ z. z
      ≡ join_found (by s.version f) (by v.version g) (owned s t) (owned v u) bytes)))
  read_told x read found = by_trees s.tree v.tree found
    where
      by_trees : (o q : Option Tree)
          → IfSome o (λ t. IfSome q (λ u. IfOk r
          (FindsFrame (by s.version f) (by v.version g) (owned s t) (owned v u) (length bytes) x)))
          → IfSome o (λ t. IfSome q (λ u. IfOk r (λ z. z
          ≡ join_found (by s.version f) (by v.version g) (owned s t) (owned v u) bytes)))
      by_trees None q h = tt
      by_trees (Some t) None h = tt
      by_trees (Some t) (Some u) h =
          then_ok r (FindsFrame (by s.version f) (by v.version g) (owned s t) (owned v u) (length bytes) x)
          (λ z. z ≡ join_found (by s.version f) (by v.version g) (owned s t) (owned v u) bytes)
          (λ z e. read_found (by s.version f) (by v.version g) (owned s t) (owned v u) bytes
          (length bytes) x z refl read e)
          h

  pub unread_told : (d : JoinFault) → frame_of bytes ≡ Err d → r ≡ Ok (findings.Refused d)
      → IfSome s.tree (λ t. IfSome v.tree (λ u. IfOk r (λ z. z
      ≡ join_found (by s.version f) (by v.version g) (owned s t) (owned v u) bytes)))
  unread_told d read is = by_trees s.tree v.tree
    where
      by_trees : (o q : Option Tree) → IfSome o (λ t. IfSome q (λ u. IfOk r (λ z. z
          ≡ join_found (by s.version f) (by v.version g) (owned s t) (owned v u) bytes)))
      by_trees None q = tt
      by_trees (Some t) None = tt
      by_trees (Some t) (Some u) =
          subst (λ (p : Result JoinFinding AuditErr). IfOk p (λ z. z
          ≡ join_found (by s.version f) (by v.version g) (owned s t) (owned v u) bytes)) (sym is)
          (unread_found (by s.version f) (by v.version g) (owned s t) (owned v u) bytes d read)
