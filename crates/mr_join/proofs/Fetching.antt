-- How many nodes the audit of a join's proof fetches.
use Rattle.std.proofs.Common.{◌≡◌, ℕ, ◌+◌, ◌≤◌, ◌<◌, ◌^◌, List, [], ◌∷◌, length, Option, Some, None, Result, Ok, refl, sym, ap, subst, ◌∙◌, inl, inr, arith}
use Rattle.std.specs.Prelude.{IfSome}
use Rattle.std.proofs.Math.Bridge.{le_prop}
use Rattle.std.proofs.Math.Logic.{∥∥₁_elim}
use Rattle.mr_geom.specs.Rectangle.{Rectangle}
use Rattle.mr_record.specs.declared.record.Record.{Record}
use Rattle.mr_record.specs.declared.version.Version.TheVariants.{Two}
use Rattle.mr_tree.specs.Tree as trees
use Rattle.mr_tree.specs.Digest.{by}
use Rattle.mr_tree.specs.Nodes.{IsTop}
use Rattle.mr_tree.specs.WellFormed.{WellFormed}
use Rattle.mr_tree.specs.declared.nodes.Top.{Top}
use Rattle.mr_tree.specs.declared.tree.Tree.{Tree}
use Rattle.mr_proof.specs.Reading.{checked}
use Rattle.mr_clash.specs.Finding.{root_at}
use Rattle.mr_clash.specs.QuestionFindings.{opened_checked, FetchesFor}
use Rattle.mr_count.specs.Chosen.{chosen}
use Rattle.mr_join.specs.declared.fault.JoinFault.{JoinFault}
use Rattle.mr_join.specs.declared.joining.Joined.{Joined}
use Rattle.mr_join.specs.declared.pair.Pair.{Pair}
use Rattle.mr_join.specs.Meets.{meets_way, rects_of}
use Rattle.mr_join.specs.Frame.{Frame, frame_of}
use Rattle.mr_join.specs.Verdict.{letter, first_records, frame_verdict, join_verdict}
use Rattle.mr_join.specs.Accepted.{Owned, IsOwned, owned, held, part_proof, part_taken, frame_for, join_proof, map_pairs}
use Rattle.mr_join.specs.Causes.{Watched}
use Rattle.mr_join.specs.Finding.{said_by}
use Rattle.mr_join.specs.Fetches.{part_opens, first_opens, second_opens, part_opened, first_opened, second_opened, first_in, second_in, if_accepted, join_first_opened, join_second_opened, FetchesForJoin}
use Rattle.mr_join.specs.private.Answers.{GivesJoined}
use Rattle.mr_join.specs.private.Judging.{MayFetchPart, FirstFetches, FrameFetches}
use Rattle.mr_join.proofs.Audited.{held_told}
use Rattle.mr_join.proofs.Worth.{Honest, by_frame, honest_parsed, records_again, honest_read, honest_accepted}
use Rattle.mr_join.proofs.Written.{is_owned}

-- ---- one part

pub part_few : (hash : List ℕ → List ℕ) (a : Watched) (top : Top) (ms list : List Rectangle) (bytes : List ℕ)
    → FetchesFor hash a.map top (chosen letter (meets_way ms)) bytes a.before a.after
    → meets_way ms ≡ meets_way list → MayFetchPart hash a top list bytes
part_few hash a top ms list bytes (is, few) same =
    inr
    (subst (λ way. a.after ≤ a.before + opened_checked (checked hash (hash (root_at top)) (chosen letter way) bytes))
    same few)

-- no more is fetched than a part opens, also where the map is not asked
part_within : (hash : List ℕ → List ℕ) (a : Watched) (top : Top) (list : List Rectangle) (bytes : List ℕ)
    → MayFetchPart hash a top list bytes → a.after ≤ a.before + part_opened (said_by hash top) list bytes
part_within hash a top list bytes (inl none) = omega (arith, none)
part_within hash a top list bytes (inr some) = some

first_within : (hash : List ℕ → List ℕ) (a : Watched) (top : Top) (o : Option Rectangle) (bytes : List ℕ)
    → FirstFetches hash a top o bytes → a.after ≤ a.before + first_opened (said_by hash top) o bytes
first_within hash a top None bytes none = omega (arith, none)
first_within hash a top (Some w) bytes some = part_within hash a top (w ∷ []) bytes some

-- ---- a frame

more_none : (a b n : ℕ) → a ≤ b → a ≤ b + n
more_none a b n few = omega (arith, few)

module _ (f g : List ℕ → List ℕ) (a b : Watched) (top other : Top) (at : ℕ) (x : Frame) where
  -- nothing is fetched
  pub frame_still : a.after ≤ a.before → b.after ≤ b.before → FrameFetches f g a b top other at x
  frame_still still quiet = record {
    first = more_none a.after a.before (if_accepted (frame_verdict (said_by f top) (said_by g other) at x)
        (first_opened (said_by f top) x.rect x.first)) still;
    second = more_none b.after b.before (if_accepted (frame_verdict (said_by f top) (said_by g other) at x)
        (second_opened (said_by g other) (first_records (said_by f top) x.rect x.first) x.second)) quiet;
  }

  -- both parts are accepted
  pub frame_few : (c d : List ℕ) → c ≡ f (root_at top) → d ≡ g (root_at other) → (j : Joined)
      → GivesJoined (record { of = f; root = c }) (record { of = g; root = d }) at x (Ok j)
      → FirstFetches f a top x.rect x.first → MayFetchPart g b other (rects_of j.records) x.second
      → FrameFetches f g a b top other at x
  frame_few c d first second j gives one two =
      let said : GivesJoined (said_by f top) (said_by g other) at x (Ok j) =
      subst (λ (e : List ℕ). GivesJoined (said_by f top) (record { of = g; root = e }) at x (Ok j)) second
      (subst (λ (e : List ℕ). GivesJoined (record { of = f; root = e }) (record { of = g; root = d }) at x (Ok j))
      first gives) in
      let few = first_within f a top x.rect x.first one in
      let fewer = part_within g b other (rects_of j.records) x.second two in
      record {
        first = subst (λ n. a.after ≤ a.before + n)
            (sym (ap (λ (r : Result (List Pair) JoinFault). if_accepted r
            (first_opened (said_by f top) x.rect x.first)) said.1)) few;
        second = subst (λ n. b.after ≤ b.before + n)
            (sym ((λ i. if_accepted (said.1 i) (second_opened (said_by g other) (said.0 i) x.second)))) fewer;
      }

-- ---- the whole

module _ (f g : List ℕ → List ℕ) (a b : Watched) (bytes : List ℕ) (top other : Top) (is : IsTop f a.map top)
    (own : IsTop g b.map other) where
  pub read_few : (x : Frame) → frame_of bytes ≡ Ok x → FrameFetches f g a b top other (length bytes) x
      → FetchesForJoin f g a b top other bytes
  read_few x read h =
      let line = by_frame (said_by f top) (said_by g other) bytes x read in
      record {
        is_top = is;
        is_other = own;
        first = subst (λ n. a.after ≤ a.before + n)
            (sym (λ i. if_accepted (line i) (first_in (said_by f top) (read i)))) h.first;
        second = subst (λ n. b.after ≤ b.before + n)
            (sym (λ i. if_accepted (line i) (second_in (said_by f top) (said_by g other) (read i)))) h.second;
      }

  pub unread_few : a.after ≤ a.before → b.after ≤ b.before → FetchesForJoin f g a b top other bytes
  unread_few still quiet = record {
    is_top = is;
    is_other = own;
    first = more_none a.after a.before (join_first_opened (said_by f top) (said_by g other) bytes) still;
    second = more_none b.after b.before (join_second_opened (said_by f top) (said_by g other) bytes) quiet;
  }

-- ---- where the trees are told

module _ (f g : List ℕ → List ℕ) (a b : Watched) (top other : Top) (bytes : List ℕ)
    (h : FetchesForJoin f g a b top other bytes) where
  both_said : (t u : Tree) → a.map.tree ≡ Some t → b.map.tree ≡ Some u
      → (said_by f top ≡ held (by a.map.version f) (owned a.map t))
      × (said_by g other ≡ held (by b.map.version g) (owned b.map u))
  both_said t u told knows = (
    held_told f a.map top t (f (root_at top)) h.is_top told refl,
    held_told g b.map other u (g (root_at other)) h.is_other knows refl,
  )

  abbrev FirstTold : Tree → Tree → Type 0
  FirstTold t u = a.after ≤ a.before + join_first_opened (held (by a.map.version f) (owned a.map t))
      (held (by b.map.version g) (owned b.map u)) bytes

  abbrev SecondTold : Tree → Tree → Type 0
  SecondTold t u = b.after ≤ b.before + join_second_opened (held (by a.map.version f) (owned a.map t))
      (held (by b.map.version g) (owned b.map u)) bytes

  first_of_told : (t u : Tree) → a.map.tree ≡ Some t → b.map.tree ≡ Some u → FirstTold t u
  first_of_told t u told knows =
      let same = both_said t u told knows in
      subst (λ n. a.after ≤ a.before + n) (λ i. join_first_opened (same.0 i) (same.1 i) bytes) h.first

  second_of_told : (t u : Tree) → a.map.tree ≡ Some t → b.map.tree ≡ Some u → SecondTold t u
  second_of_told t u told knows =
      let same = both_said t u told knows in
      subst (λ n. b.after ≤ b.before + n) (λ i. join_second_opened (same.0 i) (same.1 i) bytes) h.second

  pub first_told : IfSome a.map.tree (λ t. IfSome b.map.tree (λ u. FirstTold t u))
  first_told = by_trees a.map.tree b.map.tree refl refl
    where
      by_trees : (o q : Option Tree) → a.map.tree ≡ o → b.map.tree ≡ q
          → IfSome o (λ t. IfSome q (λ u. FirstTold t u))
      by_trees None q told knows = tt
      by_trees (Some t) None told knows = tt
      by_trees (Some t) (Some u) told knows = first_of_told t u told knows

  pub second_told : IfSome a.map.tree (λ t. IfSome b.map.tree (λ u. SecondTold t u))
  second_told = by_trees a.map.tree b.map.tree refl refl
    where
      by_trees : (o q : Option Tree) → a.map.tree ≡ o → b.map.tree ≡ q
          → IfSome o (λ t. IfSome q (λ u. SecondTold t u))
      by_trees None q told knows = tt
      by_trees (Some t) None told knows = tt
      by_trees (Some t) (Some u) told knows = second_of_told t u told knows

-- ---- the honest proof

-- what the honest part opens
part_honest : (hash : List ℕ → List ℕ) (m : Owned) (list : List Rectangle) → Honest hash → IsOwned m
    → part_opened (held (by Two hash) m) list (part_proof hash m list) ≡ part_opens hash m list
part_honest hash m list all own = ap opened_checked (honest_parsed hash m list all own)

first_honest : (f g : List ℕ → List ℕ) (m n : Owned) (o : Option Rectangle) → Honest f → IsOwned m
    → first_opened (held (by Two f) m) (frame_for f g m n o).rect (frame_for f g m n o).first ≡ first_opens f m o
first_honest f g m n None honest own = refl
first_honest f g m n (Some w) honest own = part_honest f m (w ∷ []) honest own

second_honest : (f g : List ℕ → List ℕ) (m n : Owned) (o : Option Rectangle) → Honest f → Honest g → IsOwned m
    → IsOwned n
    → second_opened (held (by Two g) n)
    (first_records (held (by Two f) m) (frame_for f g m n o).rect (frame_for f g m n o).first)
    (frame_for f g m n o).second
    ≡ second_opens f g m n o
second_honest f g m n None honest_f honest_g own_m own_n = part_honest g n [] honest_g own_n
second_honest f g m n (Some w) honest_f honest_g own_m own_n =
    let rects = rects_of (part_taken f m (w ∷ [])).records in
    ap (λ (r : Result (List Record) JoinFault). second_opened (held (by Two g) n) r (part_proof g n rects))
    (records_again f m w honest_f own_m)
    ∙ part_honest g n rects honest_g own_n

module _ (f g : List ℕ → List ℕ) (m n : Owned) (honest_f : Honest f) (honest_g : Honest g) (own_m : IsOwned m)
    (own_n : IsOwned n) where
  accepts : join_verdict (held (by Two f) m) (held (by Two g) n) (join_proof f g m n) ≡ Ok (map_pairs m n)
  accepts = (honest_accepted f g honest_f honest_g m n own_m own_n).accepted

  join_first_honest : join_first_opened (held (by Two f) m) (held (by Two g) n) (join_proof f g m n)
      ≡ first_opens f m (trees.rect n.tree)
  join_first_honest =
      (λ i. if_accepted (accepts i) (first_in (held (by Two f) m) (honest_read f g m n honest_f own_m own_n i)))
      ∙ first_honest f g m n (trees.rect n.tree) honest_f own_m

  join_second_honest : join_second_opened (held (by Two f) m) (held (by Two g) n) (join_proof f g m n)
      ≡ second_opens f g m n (trees.rect n.tree)
  join_second_honest =
      (λ i. if_accepted (accepts i) (second_in (held (by Two f) m) (held (by Two g) n)
      (honest_read f g m n honest_f own_m own_n i)))
      ∙ second_honest f g m n (trees.rect n.tree) honest_f honest_g own_m own_n

module _ (f g : List ℕ → List ℕ) (a b : Watched) (bytes : List ℕ) (top other : Top) (honest_f : Honest f)
    (honest_g : Honest g) (is : IsTop f a.map top) (own : IsTop g b.map other) (low : top.batch < 2 ^ 64)
    (few : other.batch < 2 ^ 64) (h : FetchesForJoin f g a b top other bytes)
    (wells : IfSome a.map.tree (λ t. ∥ WellFormed t ∥₁)) (fines : IfSome b.map.tree (λ u. ∥ WellFormed u ∥₁)) where
  abbrev IsHonestOf : Tree → Tree → Type 0 → Type 0
  IsHonestOf t u P =
      a.map.version ≡ Two → b.map.version ≡ Two → bytes ≡ join_proof f g (owned a.map t) (owned b.map u) → P

  abbrev FirstFew : Tree → Tree → Type 0
  FirstFew t u = IsHonestOf t u (a.after ≤ a.before + first_opens f (owned a.map t) (trees.rect u))

  abbrev SecondFew : Tree → Tree → Type 0
  SecondFew t u =
      IsHonestOf t u (b.after ≤ b.before + second_opens f g (owned a.map t) (owned b.map u) (trees.rect u))

  first_of_few : (t u : Tree) → FirstTold f g a b top other bytes h t u → ∥ WellFormed t ∥₁ → ∥ WellFormed u ∥₁
      → FirstFew t u
  first_of_few t u told well fine two dos line =
      ∥∥₁_elim well le_prop (λ sound. ∥∥₁_elim fine le_prop (λ good.
      let m = owned a.map t in
      let n = owned b.map u in
      subst (λ k. a.after ≤ a.before + k)
      ((λ i. join_first_opened (held (by (two i) f) m) (held (by (dos i) g) n) (line i))
      ∙ join_first_honest f g m n honest_f honest_g (is_owned f a.map top t is low sound)
      (is_owned g b.map other u own few good)) told))

  second_of_few : (t u : Tree) → SecondTold f g a b top other bytes h t u → ∥ WellFormed t ∥₁ → ∥ WellFormed u ∥₁
      → SecondFew t u
  second_of_few t u told well fine two dos line =
      ∥∥₁_elim well le_prop (λ sound. ∥∥₁_elim fine le_prop (λ good.
      let m = owned a.map t in
      let n = owned b.map u in
      subst (λ k. b.after ≤ b.before + k)
      ((λ i. join_second_opened (held (by (two i) f) m) (held (by (dos i) g) n) (line i))
      ∙ join_second_honest f g m n honest_f honest_g (is_owned f a.map top t is low sound)
      (is_owned g b.map other u own few good)) told))

  pub first_few : IfSome a.map.tree (λ t. IfSome b.map.tree (λ u. FirstFew t u))
  first_few = by_trees a.map.tree b.map.tree wells fines (first_told f g a b top other bytes h)
    where
      by_trees : (o q : Option Tree) → IfSome o (λ t. ∥ WellFormed t ∥₁) → IfSome q (λ u. ∥ WellFormed u ∥₁)
          → IfSome o (λ t. IfSome q (λ u. FirstTold f g a b top other bytes h t u))
          → IfSome o (λ t. IfSome q (λ u. FirstFew t u))
      by_trees None q well fine told = tt
      by_trees (Some t) None well fine told = tt
      by_trees (Some t) (Some u) well fine told = first_of_few t u told well fine

  pub second_few : IfSome a.map.tree (λ t. IfSome b.map.tree (λ u. SecondFew t u))
  second_few = by_trees a.map.tree b.map.tree wells fines (second_told f g a b top other bytes h)
    where
      by_trees : (o q : Option Tree) → IfSome o (λ t. ∥ WellFormed t ∥₁) → IfSome q (λ u. ∥ WellFormed u ∥₁)
          → IfSome o (λ t. IfSome q (λ u. SecondTold f g a b top other bytes h t u))
          → IfSome o (λ t. IfSome q (λ u. SecondFew t u))
      by_trees None q well fine told = tt
      by_trees (Some t) None well fine told = tt
      by_trees (Some t) (Some u) well fine told = second_of_few t u told well fine
