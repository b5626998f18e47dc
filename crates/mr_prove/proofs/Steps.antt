-- Steps of the walk: what was written and how often was fetched, so far and in all.
use Rattle.std.proofs.Common.{◌≡◌, ℕ, ◌+◌, ◌<◌, ◌≤◌, Bool, true, false, List, [], ◌∷◌, ◌++◌, length, take, drop, get_or, append_assoc, take-append-drop, sym, ap, subst, ◌∙◌, arith}
use Rattle.std.specs.Prelude.{IsSome, Result, Ok, Err, OnErr}
use Rattle.std.proofs.Math.Seq.{take-length}
use Rattle.std.specs.List.{flat_map, sum_by}
use Rattle.std.proofs.lemmas.List.{take_more, drop_more, flat_map_more}
use Rattle.std.proofs.lemmas.List.Concat.{flat_map-append}
use Rattle.std.proofs.lemmas.List.Sums.{sum_by_more, sum_by-take-le}
use Rattle.mr_outside.specs.State.{Sunk}
use Rattle.mr_outside.specs.Told.{TakesBytes, TakesFront}
use Rattle.mr_outside.specs.Faults.{next_count}
use Rattle.mr_outside.proofs.Taking.{TakesBytes-append}
use Rattle.mr_tree.specs.Digest.{by}
use Rattle.mr_record.specs.Version.{told as told_by}
use Rattle.mr_record.specs.declared.version.Version.{Version}
use Rattle.mr_record.specs.declared.version.Version.TheVariants.{One, Two}
use Rattle.mr_tree.specs.Limits.{count_limit}
use Rattle.mr_tree.specs.View.{Node, MayTell, children_in, child_entry}
use Rattle.mr_tree.specs.Nodes.{MapModel, MayFetch, ShowsNode}
use Rattle.mr_tree.specs.declared.child.Child.{Child}
use Rattle.mr_proof.specs.Cut.{pruned_cut}
use Rattle.mr_proof.specs.Spelling.{cut_bytes}
use Rattle.mr_proof.specs.declared.way.Way.{Way}
use Rattle.mr_query.specs.declared.key.Key.{Key}
use Rattle.mr_proof.specs.Tight.{is_open, opens_at}
use Rattle.mr_prove.specs.private.Parts.{child_key, node_bytes, part_at, opened_at, child_parts, opened_in}
use Rattle.mr_prove.proofs.Pieces.{missed_at, met_at, opened_met_at, opened_one_at}

pub on_err : {T E : Type 0} (r : Result T E) (P : Type 0) → P → OnErr r P
on_err (Ok x) P h = tt
on_err (Err e) P h = h

-- ---- fronts

pub front_first : (old new : Sunk) (a b : List ℕ) → TakesFront old new a → TakesFront old new (a ++ b)
front_first old new a b h = record {
  front = h.front;
  rest = h.rest ++ b;
  whole = ap (λ x. x ++ b) h.whole ∙ append_assoc h.front h.rest b;
  takes = h.takes;
}

pub front_second : (old mid new : Sunk) (a b : List ℕ) → TakesBytes old mid a → TakesFront mid new b
    → TakesFront old new (a ++ b)
front_second old mid new a b taken h = record {
  front = a ++ h.front;
  rest = h.rest;
  whole = ap (λ x. a ++ x) h.whole ∙ sym (append_assoc a h.front h.rest);
  takes = TakesBytes-append old mid new a h.front taken h.takes;
}

-- ---- one more of a list of pieces

flat_more : {X : Type 0} (f : X → List ℕ) (xs : List X) (i : ℕ) (x : X) → x ≡ get_or xs i x → i < length xs
    → flat_map f (take i xs) ++ f x ≡ flat_map f (take (i + 1) xs)
flat_more f xs i x is within =
    flat_map_more f [] (take i xs) x
    ∙ ap (flat_map f) (ap (λ y. take i xs ++ y ∷ []) is ∙ sym (take_more xs i x within))

pub written_more : {X : Type 0} (f : X → List ℕ) (xs : List X) (i : ℕ) (x : X) (old between new : Sunk)
    → x ≡ get_or xs i x → i < length xs → TakesBytes old between (flat_map f (take i xs)) → TakesBytes between new (f x)
    → TakesBytes old new (flat_map f (take (i + 1) xs))
written_more f xs i x old between new is within a b =
    subst (TakesBytes old new) (flat_more f xs i x is within)
    (TakesBytes-append old between new (flat_map f (take i xs)) (f x) a b)

pub fetched_more : {X : Type 0} (f : X → ℕ) (xs : List X) (i : ℕ) (x : X) (old between new : ℕ) → x ≡ get_or xs i x
    → i < length xs → between ≤ old + sum_by f (take i xs) → new ≤ between + f x
    → new ≤ old + sum_by f (take (i + 1) xs)
fetched_more f xs i x old between new is within a b =
    let more = sum_by_more f xs i x within in
    let same : f x ≡ f (get_or xs i x) = ap f is in
    omega arith

split_flat : {X : Type 0} (f : X → List ℕ) (xs : List X) (i : ℕ) (x : X) → x ≡ get_or xs i x → i < length xs
    → flat_map f (take i xs) ++ (f x ++ flat_map f (drop (i + 1) xs)) ≡ flat_map f xs
split_flat f xs i x is within =
    sym (flat_map-append f (take i xs) (x ∷ drop (i + 1) xs))
    ∙ ap (flat_map f) (ap (λ ys. take i xs ++ ys) (ap (λ y. y ∷ drop (i + 1) xs) is ∙ sym (drop_more xs i x within))
    ∙ take-append-drop i xs)

pub front_more : {X : Type 0} (f : X → List ℕ) (xs : List X) (i : ℕ) (x : X) (old between new : Sunk)
    → x ≡ get_or xs i x → i < length xs → TakesBytes old between (flat_map f (take i xs)) → TakesFront between new (f x)
    → TakesFront old new (flat_map f xs)
front_more f xs i x old between new is within a h =
    subst (TakesFront old new) (split_flat f xs i x is within)
    (front_second old between new (flat_map f (take i xs)) (f x ++ flat_map f (drop (i + 1) xs)) a
    (front_first between new (f x) (flat_map f (drop (i + 1) xs)) h))

next_count-≤ : (n : ℕ) → next_count n ≤ n + 1
next_count-≤ n = omega arith

-- ---- what a version may tell of a part fits its item

pub told_fits : (v : Version) (mask count : ℕ) → MayTell v mask count
    → (told_by v 1 ≤ told_by v count) × (told_by v count ≤ count_limit)
told_fits One mask count may = (omega arith, omega arith)
told_fits Two mask count may = let some = may.counted in let few = may.few in (omega arith, omega arith)

-- ---- what is chosen by the key of a part

pub chosen_by : (way : Key → Way) (key own : Key) (chosen : Way) (tested b : Bool) → key ≡ own → chosen ≡ way key
    → tested ≡ is_open chosen → tested ≡ b → opens_at way own ≡ b
chosen_by way key own chosen tested b same by_key is e =
    sym (ap (λ (k : Key). is_open (way k)) same) ∙ sym (ap is_open by_key) ∙ sym is ∙ e

-- ---- one node, in a map of this version

module _ (hash : List ℕ → List ℕ) (way : Key → Way) (v : Version) (s : MapModel) (same : v ≡ s.version) (c : Child)
    (may : MayFetch hash s c) (told : IsSome s.tree) where
  abbrev here : List ℕ
  here = part_at (by s.version hash) way (s.node c.id)

  -- whether it is opened
  abbrev opens : Version → Bool
  opens v = opens_at way (child_key v c)

  opens_as : (b : Bool) → opens v ≡ b → opens s.version ≡ b
  opens_as b e = subst (λ (v : Version). opens v ≡ b) same e

  missed_is : opens v ≡ false → cut_bytes v (pruned_cut (child_entry c)) ≡ here
  missed_is f =
      ap (λ (v : Version). cut_bytes v (pruned_cut (child_entry c))) same
      ∙ sym (missed_at (by s.version hash) way (s.node c.id) c (may.known told) (opens_as false f))

  pub pruned_whole : (old new : Sunk) → opens v ≡ false
      → TakesBytes old new (cut_bytes v (pruned_cut (child_entry c))) → TakesBytes old new here
  pruned_whole old new f taken = subst (TakesBytes old new) (missed_is f) taken

  pub pruned_front : (old new : Sunk) → opens v ≡ false
      → TakesFront old new (cut_bytes v (pruned_cut (child_entry c))) → TakesFront old new here
  pruned_front old new f taken = subst (TakesFront old new) (missed_is f) taken

  whole_is : (n : Node) → ShowsNode hash s c n → opens v ≡ true
      → node_bytes v n ++ child_parts (by s.version hash) way s (children_in n) ≡ here
  whole_is n shows m =
      ap (λ (v : Version). node_bytes v n ++ child_parts (by s.version hash) way s (children_in n)) same
      ∙ sym (met_at (by s.version hash) way s (s.node c.id) c n (may.known told) shows.node (opens_as true m))

  pub node_front : (n : Node) (old new : Sunk) → ShowsNode hash s c n → opens v ≡ true
      → TakesFront old new (node_bytes v n) → TakesFront old new here
  node_front n old new shows m taken =
      subst (TakesFront old new) (whole_is n shows m)
      (front_first old new (node_bytes v n) (child_parts (by s.version hash) way s (children_in n)) taken)

  pub met_whole : (n : Node) (cs : List Child) (i : ℕ) (old mid new : Sunk) → cs ≡ children_in n → ShowsNode hash s c n
      → opens v ≡ true → i ≡ length cs → TakesBytes old mid (node_bytes v n)
      → TakesBytes mid new (child_parts (by s.version hash) way s (take i cs)) → TakesBytes old new here
  met_whole n cs i old mid new are shows m end first rest =
      let all : take i cs ≡ children_in n = ap (λ k. take k cs) end ∙ take-length cs ∙ are in
      subst (TakesBytes old new)
      (ap (λ ds. node_bytes v n ++ child_parts (by s.version hash) way s ds) all ∙ whole_is n shows m)
      (TakesBytes-append old mid new (node_bytes v n) (child_parts (by s.version hash) way s (take i cs)) first rest)

  pub met_front : (n : Node) (cs : List Child) (i : ℕ) (d : Child) (old mid between new : Sunk) → cs ≡ children_in n
      → ShowsNode hash s c n → opens v ≡ true → d ≡ get_or cs i d → i < length cs
      → TakesBytes old mid (node_bytes v n) → TakesBytes mid between (child_parts (by s.version hash) way s (take i cs))
      → TakesFront between new (part_at (by s.version hash) way (s.node d.id)) → TakesFront old new here
  met_front n cs i d old mid between new are shows m is within first so_far next =
      subst (TakesFront old new)
      (ap (λ ds. node_bytes v n ++ child_parts (by s.version hash) way s ds) are ∙ whole_is n shows m)
      (front_second old mid new (node_bytes v n) (child_parts (by s.version hash) way s cs) first
      (front_more (λ (d : Child). part_at (by s.version hash) way (s.node d.id)) cs i d mid between new is within
      so_far next))

  -- the node itself is fetched
  pub one_fetch : (before now : ℕ) → opens v ≡ true → now ≡ next_count before
      → now ≤ before + opened_at (by s.version hash) way (s.node c.id)
  one_fetch before now m e =
      let one = opened_one_at (by s.version hash) way (s.node c.id) c (may.known told) (opens_as true m) in
      let more = next_count-≤ before in
      omega arith

  -- and some of its children
  pub some_fetches : (n : Node) (cs : List Child) (i before mid now : ℕ) → cs ≡ children_in n → ShowsNode hash s c n
      → opens v ≡ true → mid ≡ next_count before
      → now ≤ mid + opened_in (by s.version hash) way s (take i cs)
      → now ≤ before + opened_at (by s.version hash) way (s.node c.id)
  some_fetches n cs i before mid now are shows m e few =
      let all = opened_met_at (by s.version hash) way s (s.node c.id) c n (may.known told) shows.node
      (opens_as true m) in
      let alike : opened_in (by s.version hash) way s cs ≡ opened_in (by s.version hash) way s (children_in n) =
      ap (opened_in (by s.version hash) way s) are in
      let more = next_count-≤ before in
      let part = sum_by-take-le (λ (d : Child). opened_at (by s.version hash) way (s.node d.id)) cs i in
      omega arith
