-- How many records of a tree a tight cut of it takes whole, and which of them it opens.
use Rattle.std.proofs.Common.{◌≡◌, ◌≢◌, ◌+◌, Bool, true, false, List, [], ◌∷◌, ◌++◌, length, refl, sym, ap, subst, ◌∙◌, inl, inr, arith}
use Rattle.std.specs.Prelude.{filter, not}
use Rattle.std.specs.List.{Contains, AllByRecursion}
use Rattle.std.proofs.lemmas.Bool.{false≢true}
use Rattle.std.proofs.lemmas.List.{length-append}
use Rattle.std.proofs.lemmas.List.Elements.{filter-append, Contains-append_left, Contains-append_right, Contains-append_cases}
use Rattle.mr_record.specs.declared.record.Record.{Record}
use Rattle.mr_record.specs.declared.version.Version.{Version}
use Rattle.mr_record.specs.declared.version.Version.TheVariants.{Two}
use Rattle.mr_record.specs.Version.{told}
use Rattle.mr_tree.specs.Tree as trees
use Rattle.mr_tree.specs.Digest.{Scheme}
use Rattle.mr_tree.specs.declared.tree.Tree.{Tree}
use Rattle.mr_tree.proofs.Equations.{records-Leaf, records-Inner}
use Rattle.mr_tree.proofs.Induction.{every_child}
use Rattle.mr_tree.proofs.Told.{count_told}
use Rattle.mr_query.specs.Region.{record_key}
use Rattle.mr_query.specs.declared.key.Key.{Key}
use Rattle.mr_proof.specs.declared.pruned_entry.PrunedEntry.{PrunedEntry}
use Rattle.mr_proof.specs.declared.way.Way.{Way}
use Rattle.mr_proof.specs.declared.way.Way.TheVariants as ways
use Rattle.mr_proof.specs.Cut.{Cut, Cuts, Pruned, Leaf, Inner, no_more, first, records, all_records, CutOf, CutsOf}
use Rattle.mr_proof.specs.Tight.{key_at, is_open, is_kept, way_if, opens_at, keeps_record, IsNarrow, IsTightCut, AreTightCuts}
use Rattle.mr_proof.proofs.Full.{IsFull, IsFullNode, flat}
use Rattle.mr_proof.proofs.KeptRecords.{MissesParts, kept}
use Rattle.mr_proof.proofs.Laws.{open_if}
use Rattle.mr_check.specs.Whole.{is_whole, whole_of, wholes_of}
use Rattle.mr_count.specs.Chosen.{opens_record, takes_whole, number_whole}

-- ---- a part that is pruned

-- ways that open just what is not left out, and just what is not taken whole
abbrev opening_kept : (Key → Way) → Key → Way
opening_kept way part = way_if (is_kept (way part))

abbrev opening_rest : (Key → Way) → Key → Way
opening_rest way part = way_if (not (is_whole (way part)))

left_out : (w : Way) → is_kept w ≡ false → w ≢ ways.Open
left_out ways.Skip f e = absurd cc
left_out ways.Whole f e = absurd cc
left_out ways.Open f e = absurd cc

taken_whole : (w : Way) → not (is_whole w) ≡ false → w ≢ ways.Open
taken_whole ways.Skip f e = absurd cc
taken_whole ways.Whole f e = absurd cc
taken_whole ways.Open f e = absurd cc

kept_misses : (way : Key → Way) → IsNarrow way → MissesParts (opening_kept way)
kept_misses way law = record {
  parts = λ a b o q f g inside among missed.
      let none : is_kept (way b) ≡ false = sym (open_if (is_kept (way b))) ∙ missed in
      open_if (is_kept (way a)) ∙ ap is_kept (law a b o q f g inside among (left_out (way b) none)) ∙ none;
}

rest_misses : (way : Key → Way) → IsNarrow way → MissesParts (opening_rest way)
rest_misses way law = record {
  parts = λ a b o q f g inside among missed.
      let all : not (is_whole (way b)) ≡ false = sym (open_if (not (is_whole (way b)))) ∙ missed in
      open_if (not (is_whole (way a)))
      ∙ ap (λ (w : Way). not (is_whole w)) (law a b o q f g inside among (taken_whole (way b) all)) ∙ all;
}

abbrev opened_by : (Key → Way) → Record → Bool
opened_by way r = opens_at way (record_key r)

some_record : (r : Record) (rs : List Record) → r ∷ rs ≡ [] → ⊥
some_record r rs e = cc

-- where none is kept, none is taken whole
number_none : (way : Key → Way) (rs : List Record) → filter (opened_by (opening_kept way)) rs ≡ []
    → number_whole way rs ≡ 0
number_none way [] none = refl
number_none way (r ∷ rs) none = by_way (way (record_key r)) refl (number_none way rs)
  where
    by_way : (w : Way) → way (record_key r) ≡ w
        → (filter (opened_by (opening_kept way)) rs ≡ [] → number_whole way rs ≡ 0)
        → number_whole way (r ∷ rs) ≡ 0
    by_way ways.Skip e rest = rw e (rest (rw e at none))
    by_way ways.Whole e rest = absurd (some_record r _ (rw e at none))
    by_way ways.Open e rest = absurd (some_record r _ (rw e at none))

-- where all are taken whole, there are as many as records
number_all : (way : Key → Way) (rs : List Record) → filter (opened_by (opening_rest way)) rs ≡ []
    → number_whole way rs ≡ length rs
number_all way [] none = refl
number_all way (r ∷ rs) none = by_way (way (record_key r)) refl (number_all way rs)
  where
    by_way : (w : Way) → way (record_key r) ≡ w
        → (filter (opened_by (opening_rest way)) rs ≡ [] → number_whole way rs ≡ length rs)
        → number_whole way (r ∷ rs) ≡ length (r ∷ rs)
    by_way ways.Skip e rest = absurd (some_record r _ (rw e at none))
    by_way ways.Whole e rest =
        let same : number_whole way rs ≡ length rs = rest (rw e at none) in rw e (omega arith)
    by_way ways.Open e rest = absurd (some_record r _ (rw e at none))

pruned_whole : (s : Scheme) → s.version ≡ Two → (way : Key → Way) → IsNarrow way → (x : PrunedEntry) (t : Tree)
    → IsFull t → CutOf s (Pruned x) t → IsTightCut s.version way (Pruned x)
    → number_whole way (trees.records t) ≡ whole_of s.version way (Pruned x)
pruned_whole s two way law x t full c tight = by_way (way part) refl
  where
    part : Key
    part = key_at s.version x.mask x.rect

    counted : x.count ≡ length (trees.records t)
    counted = c.2 ∙ count_told s.version t ∙ ap (λ (v : Version). told v (length (trees.records t))) two

    by_way : (w : Way) → way part ≡ w
        → number_whole way (trees.records t) ≡ whole_of s.version way (Pruned x)
    by_way ways.Skip e =
        rw e (number_none way (trees.records t)
        (sym (kept s (opening_kept way) (kept_misses way law) (Pruned x) t full c (rw e refl))))
    by_way ways.Whole e =
        rw e (number_all way (trees.records t)
        (sym (kept s (opening_rest way) (rest_misses way law) (Pruned x) t full c (rw e refl))) ∙ sym counted)
    by_way ways.Open e = absurd (false≢true (sym tight ∙ ap is_open e))

-- ---- all parts

number_both : (way : Key → Way) (rs ss : List Record)
    → number_whole way (rs ++ ss) ≡ number_whole way rs + number_whole way ss
number_both way rs ss =
    ap length (filter-append (takes_whole way) rs ss)
    ∙ length-append (filter (takes_whole way) rs) (filter (takes_whole way) ss)

mutual
  -- as many of the tree's records are taken whole as of the opened ones and in the pruned parts
  pub counted : (s : Scheme) → s.version ≡ Two → (way : Key → Way) → IsNarrow way → (P : Cut) (t : Tree) → IsFull t
      → CutOf s P t → IsTightCut s.version way P
      → number_whole way (trees.records t) ≡ whole_of s.version way P + number_whole way (records P)
  counted s two way law (Pruned x) t full c tight =
      let same = pruned_whole s two way law x t full c tight in omega arith
  counted s two way law (Leaf rs) t full c tight =
      let same = ap (number_whole way) (ap trees.records c ∙ records-Leaf rs) in omega arith
  counted s two way law (Inner cuts) t full c tight =
      ap (number_whole way) (ap trees.records c.1 ∙ records-Inner c.0)
      ∙ all_counted s two way law cuts c.0 (every_child IsFullNode c.0 (subst IsFull c.1 full)) c.2 tight.1

  all_counted : (s : Scheme) → s.version ≡ Two → (way : Key → Way) → IsNarrow way → (Ps : Cuts) (ts : List Tree)
      → AllByRecursion IsFull ts → CutsOf s Ps ts → AreTightCuts s.version way Ps
      → number_whole way (flat ts) ≡ wholes_of s.version way Ps + number_whole way (all_records Ps)
  all_counted s two way law no_more ts full c tight =
      let none = ap (λ (us : List Tree). number_whole way (flat us)) c in omega arith
  all_counted s two way law (first P Ps) ts full c tight =
      let fulls = subst (AllByRecursion IsFull) c.2 full in
      let here = counted s two way law P c.0 fulls.0 c.3 tight.0 in
      let rest = all_counted s two way law Ps c.1 fulls.1 c.4 tight.1 in
      let trees_both = number_both way (trees.records c.0) (flat c.1) in
      let cuts_both = number_both way (records P) (all_records Ps) in
      let own : number_whole way (flat ts) ≡ number_whole way (flat (c.0 ∷ c.1)) =
      ap (λ (us : List Tree). number_whole way (flat us)) c.2 in
      omega arith

-- ---- the records of a cut are the tree's

none_within : (r : Record) → Contains [] r → ⊥
none_within r within = let low = within.1 in omega arith

mutual
  pub among : (s : Scheme) (P : Cut) (t : Tree) → CutOf s P t → (r : Record) → Contains (records P) r
      → Contains (trees.records t) r
  among s (Pruned x) t c r within = absurd (none_within r within)
  among s (Leaf rs) t c r within =
      subst (λ (xs : List Record). Contains xs r) (sym (ap trees.records c ∙ records-Leaf rs)) within
  among s (Inner cuts) t c r within =
      subst (λ (xs : List Record). Contains xs r) (sym (ap trees.records c.1 ∙ records-Inner c.0))
      (all_among s cuts c.0 c.2 r within)

  all_among : (s : Scheme) (Ps : Cuts) (ts : List Tree) → CutsOf s Ps ts → (r : Record) → Contains (all_records Ps) r
      → Contains (flat ts) r
  all_among s no_more ts c r within = absurd (none_within r within)
  all_among s (first P Ps) ts c r within =
      subst (λ (us : List Tree). Contains (flat us) r) (sym c.2)
      (elim (Contains-append_cases (records P) (all_records Ps) r within) [
        | inl here ↦ Contains-append_left (trees.records c.0) (flat c.1) r (among s P c.0 c.3 r here)
        | inr behind ↦ Contains-append_right (trees.records c.0) (flat c.1) r (all_among s Ps c.1 c.4 r behind)
      ])

pub filter_within : (p : Record → Bool) (rs : List Record) (x : Record) → Contains (filter p rs) x → Contains rs x
filter_within p [] x within = within
filter_within p (r ∷ rs) x within = by_test (p r) refl (filter_within p rs x)
  where
    by_test : (b : Bool) → p r ≡ b → (Contains (filter p rs) x → Contains rs x) → Contains (r ∷ rs) x
    by_test true e rest =
        let here : Contains (r ∷ filter p rs) x = rw e at within in
        elim (Contains-append_cases (r ∷ []) (filter p rs) x here) [
          | inl one ↦ Contains-append_left (r ∷ []) rs x one
          | inr more ↦ Contains-append_right (r ∷ []) rs x (rest more)
        ]
    by_test false e rest =
        let here : Contains (filter p rs) x = rw e at within in
        Contains-append_right (r ∷ []) rs x (rest here)

-- ---- what is taken whole or opened is not left out

pub kept_whole : (way : Key → Way) (rs : List Record)
    → number_whole way (filter (keeps_record way) rs) ≡ number_whole way rs
kept_whole way [] = refl
kept_whole way (r ∷ rs) = by_way (way (record_key r)) refl (kept_whole way rs)
  where
    by_way : (w : Way) → way (record_key r) ≡ w
        → number_whole way (filter (keeps_record way) rs) ≡ number_whole way rs
        → number_whole way (filter (keeps_record way) (r ∷ rs)) ≡ number_whole way (r ∷ rs)
    by_way ways.Skip e rest = rw e rest
    by_way ways.Whole e rest = rw (e, e) (omega arith)
    by_way ways.Open e rest = rw (e, e) rest

pub kept_opened : (way : Key → Way) (rs : List Record)
    → filter (opens_record way) (filter (keeps_record way) rs) ≡ filter (opens_record way) rs
kept_opened way [] = refl
kept_opened way (r ∷ rs) = by_way (way (record_key r)) refl (kept_opened way rs)
  where
    by_way : (w : Way) → way (record_key r) ≡ w
        → filter (opens_record way) (filter (keeps_record way) rs) ≡ filter (opens_record way) rs
        → filter (opens_record way) (filter (keeps_record way) (r ∷ rs)) ≡ filter (opens_record way) (r ∷ rs)
    by_way ways.Skip e rest = rw e rest
    by_way ways.Whole e rest = rw (e, e) rest
    by_way ways.Open e rest = rw (e, e) (ap (λ (xs : List Record). r ∷ xs) rest)
