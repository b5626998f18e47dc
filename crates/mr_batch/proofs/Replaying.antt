-- The tree and its records on the way through the changes of a batch.
use Rattle.std.proofs.Common.{◌≡◌, ℕ, ◌+◌, ◌<◌, ◌≤◌, true, false, eqb, List, [], ◌∷◌, length, get_or, drop, Option, Some, None, IsSome, is_some, refl, sym, ap, subst, ◌∙◌, ⊎_elim}
use Rattle.std.proofs.lemmas.Bool.{cases_Bool}
use Rattle.std.specs.List.Sorted.{IsPermutation}
use Rattle.std.proofs.lemmas.List.Sorted.{IsPermutation-refl, IsPermutation-trans}
use Rattle.mr_record.specs.declared.record.Record.{Record}
use Rattle.mr_record.specs.RecordText.{has_number}
use Rattle.mr_tree.specs.Tree.{records}
use Rattle.mr_tree.specs.WellFormed.{WellFormed}
use Rattle.mr_tree.specs.declared.tree.Tree.{Tree}
use Rattle.mr_grow.specs.Shrink.{WithoutOne}
use Rattle.mr_batch.specs.declared.change.Change.{Change}
use Rattle.mr_batch.specs.declared.change.Change.TheVariants.{Remove}
use Rattle.mr_batch.specs.Changes.{Changes}
use Rattle.mr_batch.specs.Applied.{may_make, made, applied, IsAdmissible}
use Rattle.mr_batch.specs.Admissible.{batch_fault}
use Rattle.mr_batch.specs.declared.admission.BatchFault.{BatchFault}
use Rattle.mr_batch.specs.Directory.{DirectoryEntries, rect_in, IsDirectoryOf, HaveNumbers}
use Rattle.mr_batch.specs.Replay.{changed, replayed, LeavesRecords}
use Rattle.mr_batch.proofs.Numbered.{Apart}
use Rattle.mr_batch.proofs.Permuted.{removal_leaves, made_then, applied_permuted, some_same}
use Rattle.mr_batch.proofs.Walking.{rest_of, drop_all}

-- ---- one change

pub removal_mixes : (n : ℕ) (old new : List Record) → Apart old → WithoutOne n old new →
    IsPermutation (made old (Remove n)) new
removal_mixes n old new apart is =
    subst (λ k. IsPermutation (made old (Remove k)) new) is.numbered (removal_leaves old new is.one apart is.mixes)

-- ---- the directory of records

is_there : (rs : List Record) (n : ℕ) → is_some (rect_in rs n) ≡ has_number n rs
is_there [] n = refl
is_there (r ∷ rs) n =
    ⊎_elim (λ (t : eqb r.number n ≡ true). rw t refl) (λ (f : eqb r.number n ≡ false). rw f (is_there rs n))
    (cases_Bool (eqb r.number n))

pub numbers_of : (entries : DirectoryEntries) (rs : List Record) → Apart rs → IsDirectoryOf entries rs → HaveNumbers
    entries rs
numbers_of entries rs apart is =
    record { same = λ n. ap is_some (is.rects n) ∙ is_there rs n; apart = apart }

-- ---- the changes so far

-- the tree so far, from which the changes that are left lead where all of them lead
pub record IsOnTheWay (before : Tree) (cs : List Change) (i : ℕ) (t : Tree) : Type 0 where
  pub well_formed : WellFormed t
  pub leads : replayed t (drop i cs) ≡ replayed before cs
  pub all : List Record
  pub makes : applied (records before) cs ≡ Some all
  pub rest : List Record
  pub applies : applied (records t) (drop i cs) ≡ Some rest
  pub same : IsPermutation all rest

left_so_far : (before t : Tree) (cs : List Change) (i : ℕ) (c : Change) → i < length cs → c ≡ get_or cs i c →
    (way : IsOnTheWay before cs i t) → applied (records t) (c ∷ drop (i + 1) cs) ≡ Some way.rest
left_so_far before t cs i c low e way = ap (applied (records t)) (sym (rest_of cs i c low e)) ∙ way.applies

parts_of : (rs : List Record) (c : Change) (cs : List Change) (rest : List Record) →
    applied rs (c ∷ cs) ≡ Some rest → (may_make rs c ≡ true) × (applied (made rs c) cs ≡ Some rest)
unfolding applied
parts_of rs c cs rest e = made_then (may_make rs c) (applied (made rs c) cs) rest e

replayed_on : (t : Tree) (c : Change) (cs : List Change) → replayed (changed t c) cs ≡ replayed t (c ∷ cs)
unfolding replayed
replayed_on t c cs = refl

the_list : (o : Option (List Record)) → IsSome o → (l : List Record) × (o ≡ Some l)
the_list (Some l) some = (l, refl)
the_list None some = absurd cc

pub at_start : (t : Tree) (held : ℕ) (b : Changes) → WellFormed t → IsAdmissible (records t) held b →
    IsOnTheWay t b.list 0 t
at_start t held b well is =
    let found = the_list (applied (records t) b.list) is.made in
    record {
      well_formed = well;
      leads = refl;
      all = found.0;
      makes = found.1;
      rest = found.0;
      applies = found.1;
      same = IsPermutation-refl found.0;
    }

-- the next change may be made
pub next_may : (before t : Tree) (cs : List Change) (i : ℕ) (c : Change) → i < length cs → c ≡ get_or cs i c →
    IsOnTheWay before cs i t → may_make (records t) c ≡ true
next_may before t cs i c low e way =
    (parts_of (records t) c (drop (i + 1) cs) way.rest (left_so_far before t cs i c low e way)).0

pub after_next : (before t new : Tree) (cs : List Change) (i : ℕ) (c : Change) → i < length cs → c ≡ get_or cs i c →
    new ≡ changed t c → WellFormed new → IsPermutation (made (records t) c) (records new) →
    IsOnTheWay before cs i t → IsOnTheWay before cs (i + 1) new
after_next before t new cs i c low e is well mixes way =
    let more : List Change = drop (i + 1) cs in
    let parts = parts_of (records t) c more way.rest (left_so_far before t cs i c low e way) in
    let both = applied_permuted (made (records t) c) (records new) more way.rest mixes parts.1 in
    record {
      well_formed = well;
      leads = ap (λ u. replayed u more) is ∙ replayed_on t c more ∙ ap (replayed t) (sym (rest_of cs i c low e))
          ∙ way.leads;
      all = way.all;
      makes = way.makes;
      rest = both.other;
      applies = both.applies;
      same = IsPermutation-trans way.all way.rest both.other way.same both.same;
    }

replayed_none : (t : Tree) → replayed t [] ≡ t
unfolding replayed
replayed_none t = refl

applied_none : (rs : List Record) → applied rs [] ≡ Some rs
unfolding applied
applied_none rs = refl

pub tree_at_end : (before t : Tree) (cs : List Change) (i : ℕ) → length cs ≤ i → IsOnTheWay before cs i t →
    t ≡ replayed before cs
tree_at_end before t cs i all way =
    sym (replayed_none t) ∙ ap (replayed t) (sym (drop_all cs i all)) ∙ way.leads

pub records_at_end : (before t : Tree) (cs : List Change) (i : ℕ) → length cs ≤ i → IsOnTheWay before cs i t →
    LeavesRecords (records before) cs (records t)
records_at_end before t cs i all way =
    let none : applied (records t) [] ≡ Some way.rest = ap (applied (records t)) (sym (drop_all cs i all))
    ∙ way.applies in
    let same : records t ≡ way.rest = some_same (records t) way.rest (sym (applied_none (records t)) ∙ none) in
    record {
      list = way.all;
      makes = way.makes;
      same = subst (IsPermutation way.all) (sym same) way.same;
    }

-- ---- the fault by a directory of the records

numbers_alike : (entries : DirectoryEntries) (rs tree_rs : List Record) → Apart tree_rs → rs ≡ tree_rs
    → IsDirectoryOf entries rs →
    HaveNumbers entries tree_rs
numbers_alike entries rs tree_rs apart same is =
    numbers_of entries tree_rs apart (subst (IsDirectoryOf entries) same is)

pub none_is_meant : (entries : DirectoryEntries) (rs tree_rs : List Record) (held : ℕ) (b : Changes) → Apart tree_rs →
    rs ≡ tree_rs → IsDirectoryOf entries rs →
    ((rs : List Record) → HaveNumbers entries rs → batch_fault rs held b ≡ None) → None ≡ batch_fault tree_rs held b
none_is_meant entries rs tree_rs held b apart same is meant =
    sym (meant tree_rs (numbers_alike entries rs tree_rs apart same is))

pub some_is_meant : (entries : DirectoryEntries) (rs tree_rs : List Record) (held : ℕ) (b : Changes)
    (fault : BatchFault) →
    Apart tree_rs → rs ≡ tree_rs → IsDirectoryOf entries rs →
    ((rs : List Record) → HaveNumbers entries rs → batch_fault rs held b ≡ Some fault) →
    Some fault ≡ batch_fault tree_rs held b
some_is_meant entries rs tree_rs held b fault apart same is meant =
    sym (meant tree_rs (numbers_alike entries rs tree_rs apart same is))
