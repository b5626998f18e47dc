-- What is written of a join's proof, and what its first part gives.
use Rattle.std.proofs.Common.{◌≡◌, ℕ, ◌^◌, ◌<◌, List, [], ◌∷◌, ◌++◌, length, Option, Some, None, Result, Ok, Err, refl, sym, ap, subst, ◌∙◌, ◌+◌, ◌≤◌, drop, append_assoc, arith}
use Rattle.std.specs.Prelude.{option_map, IsSome, IsSomeAnd, IfSome, OnOk, OnErr}
use Rattle.std.specs.Int.{w32, to_be_bytes}
use Rattle.std.proofs.Props.{props}
use Rattle.std.proofs.Math.Bridge.{le_prop}
use Rattle.std.proofs.Math.Logic.{∥∥₁_elim}
use Rattle.std.proofs.Math.Seq.{drop-append_seam}
use Rattle.mr_geom.specs.Rectangle.{Rectangle}
use Rattle.mr_outside.specs.State.{Sunk}
use Rattle.mr_outside.specs.Told.{TakesBytes, TakesFront}
use Rattle.mr_record.specs.Record.{rectangle_bytes}
use Rattle.mr_record.specs.declared.record.Record.{Record}
use Rattle.mr_record.specs.declared.version.Version.{Version}
use Rattle.mr_record.specs.declared.version.Version.TheVariants.{Two}
use Rattle.mr_tree.specs.Tree as trees
use Rattle.mr_tree.specs.Digest.{by, entry, root}
use Rattle.mr_tree.specs.Nodes.{MapModel, IsTop, MayFetch, tree_under}
use Rattle.mr_tree.specs.View.{child_entry}
use Rattle.mr_tree.specs.WellFormed.{WellFormed}
use Rattle.mr_tree.specs.declared.nodes.Top.{Top}
use Rattle.mr_tree.specs.declared.child.Child.{Child}
use Rattle.mr_tree.specs.declared.entry.Entry.{Entry}
use Rattle.mr_tree.specs.declared.tree.Tree.{Tree}
use Rattle.mr_tree.specs.declared.tree.Tree.TheVariants as tree
use Rattle.mr_tree.proofs.Equations.{rect-Empty, entry_rect}
use Rattle.mr_proof.specs.Honest.{proof_for, opened_for}
use Rattle.mr_prove.specs.declared.error.ProveErr.{ProveErr}
use Rattle.mr_clash.specs.Finding.{root_at}
use Rattle.mr_clash.proofs.Roots.{root_told}
use Rattle.mr_count.specs.declared.taken.Taken.{Taken}
use Rattle.mr_count.specs.Chosen.{chosen, verdict_for}
use Rattle.mr_count.proofs.HonestChoices.{same_taken}
use Rattle.mr_join.specs.Meets.{meets_way, rects_of}
use Rattle.mr_join.specs.Frame.{magic, frame_bytes}
use Rattle.mr_join.specs.Verdict.{letter, part_verdict}
use Rattle.mr_join.specs.Accepted.{Owned, IsOwned, owned, held, part_proof, part_taken, frame_for, join_proof}
use Rattle.mr_join.specs.Fetches.{part_opens, second_opens}
use Rattle.mr_join.specs.private.Parts.{IsFirstPart, alone_bytes, rect_in}
use Rattle.mr_join.proofs.Worth.{Honest, part_again}

-- ---- what a sink takes

joined : (o p q : Option (List ℕ)) (a b : List ℕ) → p ≡ option_map (λ t. t ++ a) o → q ≡ option_map (λ t. t ++ b) p
    → q ≡ option_map (λ t. t ++ (a ++ b)) o
joined None p q a b e h = h ∙ ap (option_map (λ (t : List ℕ). t ++ b)) e
joined (Some xs) p q a b e h = h ∙ ap (option_map (λ (t : List ℕ). t ++ b)) e ∙ ap Some (append_assoc xs a b)

pub takes_both : (from mid to : Sunk) (a b : List ℕ) → TakesBytes from mid a → TakesBytes mid to b
    → TakesBytes from to (a ++ b)
takes_both from mid to a b e h = joined from.taken mid.taken to.taken a b e h

pub front_more : (from to : Sunk) (a b : List ℕ) → TakesFront from to a → TakesFront from to (a ++ b)
front_more from to a b f = record {
  front = f.front;
  rest = f.rest ++ b;
  whole = ap (λ (xs : List ℕ). xs ++ b) f.whole ∙ append_assoc f.front f.rest b;
  takes = f.takes;
}

pub front_behind : (from mid to : Sunk) (a b : List ℕ) → TakesBytes from mid a → TakesFront mid to b
    → TakesFront from to (a ++ b)
front_behind from mid to a b e f = record {
  front = a ++ f.front;
  rest = f.rest;
  whole = ap (λ (xs : List ℕ). a ++ xs) f.whole ∙ sym (append_assoc a f.front f.rest);
  takes = takes_both from mid to a f.front e f.takes;
}

pub for_all : {A : Type 0} (o : Option A) (P : A → Type 0) → ((x : A) → P x) → IfSome o P
for_all None P all = tt
for_all (Some x) P all = all x

pub for_each : {A : Type 0} (o : Option A) (P Q : A → Type 0) → ((x : A) → P x → Q x) → IfSome o P → IfSome o Q
for_each None P Q up h = tt
for_each (Some x) P Q up h = up x h

pub on_err : {A E : Type 0} (r : Result A E) (P : Type 0) → P → OnErr r P
on_err (Ok x) P h = tt
on_err (Err e) P h = h

pub on_err_then : {A E : Type 0} (r : Result A E) (P Q : Type 0) → (P → Q) → OnErr r P → OnErr r Q
on_err_then (Ok x) P Q up h = tt
on_err_then (Err e) P Q up h = up h

pub on_ok_then : {A E : Type 0} (r : Result A E) (P Q : Type 0) → (P → Q) → OnOk r P → OnOk r Q
on_ok_then (Ok x) P Q up h = up h
on_ok_then (Err e) P Q up h = tt

-- ---- the first part

-- the root digest of a map of version 2 that is told
pub root_held : (hash : List ℕ → List ℕ) (s : MapModel) (top : Top) (t : Tree) → IsTop hash s top → s.tree ≡ Some t
    → s.version ≡ Two → hash (root_at top) ≡ root (by Two hash) t s.batch
root_held hash s top t is told two =
    ap hash (root_told hash s top t is told) ∙ ap (λ (v : Version). root (by v hash) t s.batch) two

pub is_owned : (hash : List ℕ → List ℕ) (s : MapModel) (top : Top) (t : Tree) → IsTop hash s top → top.batch < 2 ^ 64
    → WellFormed t → IsOwned (record { tree = t; batch = s.batch })
is_owned hash s top t is low well = record { well = well; batch = subst (λ (b : ℕ). b < 2 ^ 64) is.batch low }

first_of : (hash : List ℕ → List ℕ) (s : MapModel) (top : Top) (w : Rectangle) (ms : List Rectangle) (bytes : List ℕ)
    (x : Taken) (t : Tree) → Honest hash → IsTop hash s top → s.version ≡ Two → top.batch < 2 ^ 64
    → meets_way ms ≡ meets_way (w ∷ []) → s.tree ≡ Some t
    → verdict_for hash (hash (root_at top)) letter (meets_way ms) bytes ≡ Ok x
    → bytes ≡ proof_for (by s.version hash) (chosen letter (meets_way ms)) t s.batch → WellFormed t
    → IsFirstPart hash (record { tree = t; batch = s.batch }) w bytes x.records
first_of hash s top w ms bytes x t honest is two low same told verdict written well =
    let m : Owned = record { tree = t; batch = s.batch } in
    let own : bytes ≡ part_proof hash m (w ∷ []) = written
    ∙ λ i. proof_for (by (two i) hash) (chosen letter (same i)) t s.batch in
    let held_root = root_held hash s top t is told two in
    let here : part_verdict (held (by Two hash) m) (w ∷ []) bytes ≡ Ok x =
    sym (λ i. verdict_for hash (held_root i) letter (same i) bytes) ∙ verdict in
    let taken : x ≡ part_taken hash m (w ∷ []) = same_taken x (part_taken hash m (w ∷ []))
    (sym here ∙ ap (part_verdict (held (by Two hash) m) (w ∷ [])) own
    ∙ part_again hash m (w ∷ []) honest (is_owned hash s top t is low well)) in
    record { own = own; given = ap (λ (z : Taken). z.records) taken }

pub first_given : (hash : List ℕ → List ℕ) (s : MapModel) (top : Top) (w : Rectangle) (ms : List Rectangle)
    (bytes : List ℕ) (x : Taken) → Honest hash → IsTop hash s top → s.version ≡ Two → top.batch < 2 ^ 64
    → meets_way ms ≡ meets_way (w ∷ [])
    → verdict_for hash (hash (root_at top)) letter (meets_way ms) bytes ≡ Ok x
    → IfSome s.tree (λ t. bytes ≡ proof_for (by s.version hash) (chosen letter (meets_way ms)) t s.batch)
    → IfSome s.tree (λ t. WellFormed t → IsFirstPart hash (record { tree = t; batch = s.batch }) w bytes x.records)
first_given hash s top w ms bytes x honest is two low same verdict written = by_tree s.tree refl written
  where
    by_tree : (o : Option Tree) → s.tree ≡ o
        → IfSome o (λ t. bytes ≡ proof_for (by s.version hash) (chosen letter (meets_way ms)) t s.batch)
        → IfSome o (λ t. WellFormed t → IsFirstPart hash (record { tree = t; batch = s.batch }) w bytes x.records)
    by_tree None told wrote = tt
    by_tree (Some t) told wrote =
        first_of hash s top w ms bytes x t honest is two low same told verdict wrote

-- ---- both parts

both_line : (w : Rectangle) (part second : List ℕ)
    → (magic ++ (1 ∷ (rectangle_bytes w ++ (to_be_bytes w32 (length part) ++ part)))) ++ second
    ≡ frame_bytes (record { rect = Some w; first = part; second = second })
both_line w part second =
    let size = to_be_bytes w32 (length part) in
    ap (λ (zs : List ℕ). 77 ∷ 82 ∷ 74 ∷ 78 ∷ 1 ∷ zs) (append_assoc (rectangle_bytes w) (size ++ part) second
    ∙ ap (λ (zs : List ℕ). rectangle_bytes w ++ zs) (append_assoc size part second))

pub frame_line : (f g : List ℕ → List ℕ) (s v : MapModel) (t u : Tree) (w : Rectangle) (ms list : List Rectangle)
    (part front : List ℕ) (records : List Record) → v.version ≡ Two → IsFirstPart f (owned s t) w part records
    → front ≡ magic ++ (1 ∷ (rectangle_bytes w ++ (to_be_bytes w32 (length part) ++ part)))
    → list ≡ rects_of records → meets_way ms ≡ meets_way list
    → front ++ proof_for (by v.version g) (chosen letter (meets_way ms)) u v.batch
    ≡ frame_bytes (frame_for f g (owned s t) (owned v u) (Some w))
frame_line f g s v t u w ms list part front records two first is rects same =
    let ways : meets_way ms ≡ meets_way (rects_of (part_taken f (owned s t) (w ∷ [])).records) = same
    ∙ ap meets_way (rects ∙ ap rects_of first.given) in
    let second = part_proof g (owned v u) (rects_of (part_taken f (owned s t) (w ∷ [])).records) in
    (λ i. is i ++ proof_for (by (two i) g) (chosen letter (ways i)) u v.batch)
    ∙ both_line w part second
    ∙ λ i. frame_bytes (record { rect = Some w; first = first.own i; second = second })

pub alone_line : (g : List ℕ → List ℕ) (v : MapModel) (u : Tree) (ms : List Rectangle) → v.version ≡ Two
    → meets_way ms ≡ meets_way []
    → (77 ∷ 82 ∷ 74 ∷ 78 ∷ 0 ∷ []) ++ proof_for (by v.version g) (chosen letter (meets_way ms)) u v.batch
    ≡ alone_bytes g (owned v u)
alone_line g v u ms two same =
    λ i. 77 ∷ 82 ∷ 74 ∷ 78 ∷ 0 ∷ proof_for (by (two i) g) (chosen letter (same i)) u v.batch

-- ---- the second map's rectangle

pub top_rect : (hash : List ℕ → List ℕ) (s : MapModel) (top : Top) (u : Tree) → IsTop hash s top → s.tree ≡ Some u
    → trees.rect u ≡ rect_in top.root
top_rect hash s top u is told = by_root top.root refl under
  where
    under : tree_under s top.root ≡ Some u
    under = subst (λ (o : Option Tree). IfSome o (λ t. tree_under s top.root ≡ Some t)) told is.tree

    same_some : (x y : Tree) → ◌≡◌ {A = Option Tree} (Some x) (Some y) → x ≡ y
    same_some x y e = cc

    known_at : (c : Child) (o : Option Tree) → o ≡ Some u → IsSomeAnd o (λ t. child_entry c ≡ entry
        (by s.version hash) t)
        → child_entry c ≡ entry (by s.version hash) u
    known_at c None e k = absurd cc
    known_at c (Some x) e k = subst (λ (y : Tree). child_entry c ≡ entry (by s.version hash) y) (same_some x u e) k

    by_root : (r : Option Child) → top.root ≡ r → tree_under s r ≡ Some u → trees.rect u ≡ rect_in r
    by_root None r e = ap trees.rect (sym (same_some tree.Empty u e)) ∙ rect-Empty
    by_root (Some c) r e =
        let may : MayFetch hash s c = subst (λ (o : Option Child). IfSome o (MayFetch hash s)) r is.root in
        let some : IsSome s.tree = subst IsSome (sym told) refl in
        sym (entry_rect (by s.version hash) u)
        ∙ sym (ap (λ (x : Entry). x.rect) (known_at c (s.node c.id) e (may.known some)))

-- ---- what holds of each well formed tree

pub for_two : {A : Type 0} (o : Option A) (P Q R : A → Type 0) → ((x : A) → P x → Q x → R x) → IfSome o P → IfSome o Q
    → IfSome o R
for_two None P Q R up h k = tt
for_two (Some x) P Q R up h k = up x h k

pub told_prop : (o : Option Tree) (r : Result (Unit {0}) ProveErr) (from to : Sunk) (bytes : Tree → List ℕ)
    → IsProp (IfSome o (λ u. OnOk r (TakesBytes from to (bytes u))))
told_prop None r from to bytes = hlevel
told_prop (Some u) (Ok x) from to bytes = hlevel props
told_prop (Some u) (Err e) from to bytes = hlevel

-- ---- the whole

-- of a tree that is well formed, and one whose rectangle is known
pub whole_bytes : (f g : List ℕ → List ℕ) (s v : MapModel) (t u : Tree) (top : Top) (o : Option Rectangle)
    → IsTop g v top → v.tree ≡ Some u → o ≡ rect_in top.root
    → frame_bytes (frame_for f g (owned s t) (owned v u) o) ≡ join_proof f g (owned s t) (owned v u)
whole_bytes f g s v t u top o is told root =
    ap (λ (r : Option Rectangle). frame_bytes (frame_for f g (owned s t) (owned v u) r))
    (root ∙ sym (top_rect g v top u is told))

module _ (f g : List ℕ → List ℕ) (s v : MapModel) (top : Top) (o : Option Rectangle) (is : IsTop g v top)
    (root : o ≡ rect_in top.root) (P : List ℕ → Type 0) where
  -- what is said of the frame's bytes is said of the proof
  pub second_told : (t : Tree) (p : Option Tree) → v.tree ≡ p
      → IfSome p (λ u. P (frame_bytes (frame_for f g (owned s t) (owned v u) o)))
      → IfSome p (λ u. P (join_proof f g (owned s t) (owned v u)))
  second_told t None told h = tt
  second_told t (Some u) told h = subst P (whole_bytes f g s v t u top o is told root) h

  pub both_told : (q : Option Tree)
      → IfSome q (λ t. WellFormed t
      → IfSome v.tree (λ u. P (frame_bytes (frame_for f g (owned s t) (owned v u) o))))
      → IfSome q (λ t. WellFormed t → IfSome v.tree (λ u. P (join_proof f g (owned s t) (owned v u))))
  both_told None h = tt
  both_told (Some t) h = λ well. second_told t v.tree refl (h well)

-- of a proposition the tree need not be known to be well formed
pub without_wells : (q : Option Tree) (P : Tree → Type 0) → ((t : Tree) → IsProp (P t))
    → IfSome q (λ t. ∥ WellFormed t ∥₁) → IfSome q (λ t. WellFormed t → P t) → IfSome q P
without_wells None P once wells h = tt
without_wells (Some t) P once wells h = ∥∥₁_elim wells (once t) (λ well. h well)

-- ---- fronts, whatever is known of the tree

-- the front that was taken, by what the sink held before and holds now
abbrev taken_front : (before now : Option (List ℕ)) → List ℕ
taken_front None now = []
taken_front (Some xs) None = []
taken_front (Some xs) (Some ys) = drop (length xs) ys

same_list : (xs ys : List ℕ) → ◌≡◌ {A = Option (List ℕ)} (Some xs) (Some ys) → xs ≡ ys
same_list xs ys e = cc

not_there : (xs : List ℕ) → ◌≡◌ {A = Option (List ℕ)} None (Some xs) → ⊥
not_there xs e = cc

taken_whole : (o p : Option (List ℕ)) (bytes front rest : List ℕ) → bytes ≡ front ++ rest
    → p ≡ option_map (λ t. t ++ front) o
    → (bytes ≡ taken_front o p ++ drop (length (taken_front o p)) bytes)
    × (p ≡ option_map (λ t. t ++ taken_front o p) o)
taken_whole None p bytes front rest whole e = (refl, e)
taken_whole (Some xs) None bytes front rest whole e = absurd (not_there (xs ++ front) e)
taken_whole (Some xs) (Some ys) bytes front rest whole e =
    let long = same_list ys (xs ++ front) e in
    let same : drop (length xs) ys ≡ front = ap (drop (length xs)) long ∙ drop-append_seam xs front in
    let left : drop (length front) bytes ≡ rest = ap (drop (length front)) whole ∙ drop-append_seam front rest in (
      whole ∙ (λ i. sym same i ++ (sym left ∙ ap (λ (zs : List ℕ). drop (length zs) bytes) (sym same)) i),
      ap Some (long ∙ ap (λ (zs : List ℕ). xs ++ zs) (sym same)),
    )

front_once : {W : Type 0} (from to : Sunk) (bytes : List ℕ) → ∥ W ∥₁ → (W → TakesFront from to bytes)
    → TakesFront from to bytes
front_once from to bytes once h = record {
  front = taken_front from.taken to.taken;
  rest = drop (length (taken_front from.taken to.taken)) bytes;
  whole = ∥∥₁_elim once (hlevel props) (λ w. (taken_whole from.taken to.taken bytes (h w).front (h w).rest (h w).whole
      (h w).takes).0);
  takes = ∥∥₁_elim once (hlevel props) (λ w. (taken_whole from.taken to.taken bytes (h w).front (h w).rest (h w).whole
      (h w).takes).1);
}

pub fronts_once : (q o : Option Tree) (r : Result (Unit {0}) ProveErr) (from to : Sunk) (bytes : Tree → Tree → List ℕ)
    → IfSome q (λ t. ∥ WellFormed t ∥₁)
    → IfSome q (λ t. WellFormed t → IfSome o (λ u. OnErr r (TakesFront from to (bytes t u))))
    → IfSome q (λ t. IfSome o (λ u. OnErr r (TakesFront from to (bytes t u))))
fronts_once None o r from to bytes wells h = tt
fronts_once (Some t) None r from to bytes wells h = tt
fronts_once (Some t) (Some u) (Ok x) from to bytes wells h = tt
fronts_once (Some t) (Some u) (Err e) from to bytes wells h = front_once from to (bytes t u) wells h

-- ---- fetches

pub few_once : (q o : Option Tree) (before after : ℕ) (opens : Tree → Tree → ℕ) → IfSome q (λ t. ∥ WellFormed t ∥₁)
    → IfSome q (λ t. WellFormed t → IfSome o (λ u. after ≤ before + opens t u))
    → IfSome q (λ t. IfSome o (λ u. after ≤ before + opens t u))
few_once None o before after opens wells h = tt
few_once (Some t) None before after opens wells h = tt
few_once (Some t) (Some u) before after opens wells h = ∥∥₁_elim wells le_prop h

-- what is not asked fetches nothing
pub none_more : (n k : ℕ) → n ≤ n + k
none_more n k = omega arith

pub none_fetched : (q : Option Tree) (n : ℕ) (opens : Tree → ℕ) → IfSome q (λ t. n ≤ n + opens t)
none_fetched q n opens = for_all q (λ t. n ≤ n + opens t) (λ t. none_more n (opens t))

pub neither_fetched : (q o : Option Tree) (n : ℕ) (opens : Tree → Tree → ℕ)
    → IfSome q (λ t. IfSome o (λ u. n ≤ n + opens t u))
neither_fetched q o n opens =
    for_all q (λ t. IfSome o (λ u. n ≤ n + opens t u)) (λ t. none_fetched o n (opens t))

-- behind a tree that is well formed
pub second_unasked : (q o : Option Tree) (n : ℕ) (opens : Tree → Tree → ℕ)
    → IfSome q (λ t. WellFormed t → IfSome o (λ u. n ≤ n + opens t u))
second_unasked q o n opens =
    for_all q (λ t. WellFormed t → IfSome o (λ u. n ≤ n + opens t u)) (λ t well. none_fetched o n (opens t))

-- of a map of version 2, for rectangles of which the choice is the same
pub part_few : (hash : List ℕ → List ℕ) (s : MapModel) (ms list : List Rectangle) (before after : ℕ)
    → s.version ≡ Two → meets_way ms ≡ meets_way list
    → IfSome s.tree (λ t. after ≤ before + opened_for (by s.version hash) (chosen letter (meets_way ms)) t)
    → IfSome s.tree (λ t. after ≤ before + part_opens hash (owned s t) list)
part_few hash s ms list before after two same few =
    for_each s.tree (λ t. after ≤ before + opened_for (by s.version hash) (chosen letter (meets_way ms)) t)
    (λ t. after ≤ before + part_opens hash (owned s t) list)
    (λ t h. subst (λ n. after ≤ before + n) (λ i. opened_for (by (two i) hash) (chosen letter (same i)) t) h) few

-- for the records that the first part gives
pub second_few : (f g : List ℕ → List ℕ) (s v : MapModel) (w : Rectangle) (ms list : List Rectangle)
    (records : List Record) (before after : ℕ) (bytes : List ℕ) → v.version ≡ Two → list ≡ rects_of records
    → meets_way ms ≡ meets_way list
    → IfSome s.tree (λ t. WellFormed t → IsFirstPart f (owned s t) w bytes records)
    → IfSome v.tree (λ u. after ≤ before + opened_for (by v.version g) (chosen letter (meets_way ms)) u)
    → IfSome s.tree (λ t. WellFormed t → IfSome v.tree (λ u. after ≤ before
    + second_opens f g (owned s t) (owned v u) (Some w)))
second_few f g s v w ms list records before after bytes two rects same given few =
    for_each s.tree (λ t. WellFormed t → IsFirstPart f (owned s t) w bytes records)
    (λ t. WellFormed t → IfSome v.tree (λ u. after ≤ before + second_opens f g (owned s t) (owned v u) (Some w)))
    (λ t first well. part_few g v ms (rects_of (part_taken f (owned s t) (w ∷ [])).records) before after two
    (same ∙ ap meets_way (rects ∙ ap rects_of (first well).given)) few) given

-- by the rectangle that the second map says of its root node
pub rect_known : (g : List ℕ → List ℕ) (v : MapModel) (top : Top) (o : Option Rectangle) → IsTop g v top
    → o ≡ rect_in top.root → (P : Tree → Option Rectangle → Type 0) → IfSome v.tree (λ u. P u o)
    → IfSome v.tree (λ u. P u (trees.rect u))
rect_known g v top o is root P h = by_tree v.tree refl h
  where
    by_tree : (p : Option Tree) → v.tree ≡ p → IfSome p (λ u. P u o) → IfSome p (λ u. P u (trees.rect u))
    by_tree None told h = tt
    by_tree (Some u) told h = subst (P u) (root ∙ sym (top_rect g v top u is told)) h
