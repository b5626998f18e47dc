-- `apply-here` over files that are told: from what an update in place answers to what the plan asks.
use Rattle.std.proofs.Common.{◌≡◌, ◌⊎◌, ℕ, zero, suc, ◌≤◌, Bool, true, false, ◌||◌, List, [], ◌∷◌, Option, Some, None, Result, Ok, Err, refl, sym, ap, subst, ◌∙◌, inl, inr, arith}
use Rattle.std.specs.Prelude.{All, nat_lt}
use Rattle.std.specs.List.{list_any}
use Rattle.std.proofs.lemmas.List.Elements.{All-head, All-tail}
use Rattle.mr_outside.specs.Files.{Files}
use Rattle.mr_record.specs.declared.version.Version.{Version}
use Rattle.mr_record.specs.declared.version.Version.TheVariants.{One, Two}
use Rattle.mr_tree.specs.Tree.{records}
use Rattle.mr_pages.specs.Faults.{mapfault}
use Rattle.mr_pages.specs.File.{file_of, form_at, version_of}
use Rattle.mr_pages.specs.Law.{AgreesWithFault}
use Rattle.mr_pages.specs.PageBytes.{form_by}
use Rattle.mr_pages.specs.declared.opening.Opened.{Opened}
use Rattle.mr_batch.specs.Admissible.{batch_fault}
use Rattle.mr_batch.specs.Changes.{Changes}
use Rattle.mr_batch.specs.declared.admission.BatchFault.{BatchFault}
use Rattle.mr_batch.specs.declared.change.Change.{Change}
use Rattle.mr_batch.specs.declared.change.Change.TheVariants.{Add, Remove}
use Rattle.mr_edit.specs.Replayed.{IsOfVersion}
use Rattle.mr_journal.specs.Format.{changed_by, is_open, recovered, restored}
use Rattle.mr_journal.specs.Images.{Image}
use Rattle.mr_journal.specs.Recovered.{restored_in}
use Rattle.mr_journal.specs.Shelves.{image_on, KeepsBeside}
use Rattle.mr_here.specs.Layers.{has_layer, lacks_layers}
use Rattle.mr_here.specs.OnFiles.{AppliesTo}
use Rattle.mr_here.specs.Updated.{Answers, Becomes, IsOneMap, MakesNext}
use Rattle.mr_here.specs.declared.error.HereErr.{HereErr}
use Rattle.mr_here.specs.declared.error.HereErr.TheVariants as errors
use Rattle.mr_plan.specs.Found.{Found, bad_map_line}
use Rattle.mr_plan.specs.Lines.{bad_batch_line, digest_line}
use Rattle.mr_plan.specs.Outcome.{Nothing, File, InPlace, LeavesWritten, MayLeave, Written}
use Rattle.mr_plan.specs.Plan.{Plan, comes, opens}
use Rattle.mr_plan.specs.Say.{say_admitted_here, say_batch_here}
use Rattle.mr_plan.specs.Saying.{journal_of}
use Rattle.mr_plan.specs.declared.status.Status.TheVariants.{BadBatch, BadMap, Done}
use Rattle.mr_plan.proofs.InPlace.{mended_may, recovered_map}
use Rattle.mr_command.specs.Ending.{EndsPlan, GivesUpPlan, printed_of}
use Rattle.mr_command.specs.private.Here.{SaysApplied}
use Rattle.mr_command.specs.declared.ending.Ending.{Ending}
use Rattle.mr_command.proofs.Batches.{no_fault}
use Rattle.mr_command.proofs.HereEnds.{ends_done, ends_faulty, ends_refused, own, same_image, shows, whole}
use Rattle.mr_command.proofs.Showing.{found_in}

-- ---- a batch of the map's version asks for no layers that it has not

flat : (c : Change) → IsOfVersion One c → has_layer c ≡ false
flat (Add r) low = flat_at r.layer low
  where
    flat_at : (n : ℕ) → n ≤ 0 → nat_lt 0 n ≡ false
    flat_at zero low = refl
    flat_at (suc n) low = absurd (omega (arith, low))
flat (Remove n) low = refl

all_flat : (xs : List Change) → All (IsOfVersion One) xs → list_any has_layer xs ≡ false
all_flat [] all = refl
all_flat (c ∷ xs) all =
    ap (λ b. b || list_any has_layer xs) (flat c (All-head (IsOfVersion One) c xs all))
    ∙ all_flat xs (All-tail (IsOfVersion One) c xs all)

pub has_layers : (v : Version) (xs : List Change) → All (IsOfVersion v) xs → lacks_layers v xs ≡ false
has_layers One xs all = all_flat xs all
has_layers Two xs all = refl

-- ---- what is left at the end may be left by what stopped

may_leave : (w : Written) (before after : Option Files) → LeavesWritten w before after → MayLeave w before after
may_leave Nothing before after left = left
may_leave (File name content) before after left = inr (left.0, inr left.1, left.2)
may_leave (InPlace map journal was content) before after left =
    mended_may map journal was content before after left

up_of : (v : Version) (hash : List ℕ → List ℕ) (map : List ℕ) (was : Image) (b : Changes)
    (before after : Option Files) (status : _) (text : List ℕ)
    → EndsPlan (opens v hash (restored was) (λ found. comes (say_batch_here v hash map was b found))) before after
    status text
    → GivesUpPlan (opens v hash (restored was) (λ found. comes (say_batch_here v hash map was b found))) before after
up_of v hash map was b before after status text ends =
    (ends.0, ends.1.0, may_leave (say_batch_here v hash map was b ends.0).written before after ends.3.2)

module _ (hash : List ℕ → List ℕ) (map : List ℕ) (b : Changes) (files : Files)
    (agrees : AgreesWithFault (form_by (version_of (restored_in map (journal_of map) files))) hash
    (restored_in map (journal_of map) files))
    (layers : lacks_layers (version_of (restored_in map (journal_of map) files)) b.list ≡ false)
    (new : Files) (kept : KeepsBeside map (journal_of map) (Some files) (Some new)) where
  abbrev held : List ℕ
  held = restored_in map (journal_of map) files

  abbrev was : Image
  was = image_on map (journal_of map) files

  abbrev is_now : Image
  is_now = image_on map (journal_of map) new

  abbrev plan : Plan
  plan = opens (version_of held) hash held (λ found. comes (say_batch_here (version_of held) hash map was b found))

  -- where no file was changed, and none was made, unless the journal was open
  abbrev IsClean : Type 0
  IsClean = is_open was ≡ false → new ≡ files

  -- the map was recovered, and nothing else
  left_none : is_now ≡ recovered was → IsClean
      → LeavesWritten (InPlace map (journal_of map) was None) (Some files) (Some new)
  left_none same clean = (kept, same, λ shut. ap (λ f. Some f) (clean shut))

  no_layer : (m : Opened) → IsOneMap hash (recovered was).map m → lacks_layers m.version b.list ≡ true → ⊥
  no_layer m one lacks =
      let one' = subst (λ old. IsOneMap hash old m) (recovered_map was) one in
      both (lacks_layers m.version b.list) lacks
      (ap (λ v. lacks_layers v b.list) (sym (own hash was m one')) ∙ layers)
    where
      both : (x : Bool) → x ≡ true → x ≡ false → ⊥
      both x t f = cc

  ends_ok : (digest : List ℕ) → Answers hash b (recovered was) (Some is_now) (Ok digest)
      → EndsPlan plan (Some files) (Some new) Done (digest_line digest)
  ends_ok digest a =
      let makes = subst (λ old. MakesNext hash b a.map old a.made digest) (recovered_map was) a.makes in
      ends_done hash was a.map makes.one map b a.made digest makes files new kept a.body a.change
      (same_image is_now (changed_by a.body (recovered was)) a.left) Done (digest_line digest) refl refl

  ends_map : (fault : _) → Answers hash b (recovered was) (Some is_now) (Err (errors.Map fault)) → IsClean
      → EndsPlan plan (Some files) (Some new) BadMap (bad_map_line fault)
  ends_map fault a clean =
      ends_faulty hash was agrees fault
      (subst (λ old. mapfault hash (file_of (form_at old) old) ≡ Some fault) (recovered_map was) a.0) map b files
      (Some new) (left_none (same_image is_now (recovered was) (a.1 tt)) clean) BadMap (bad_map_line fault) refl refl

  ends_batch : (fault : BatchFault) → Answers hash b (recovered was) (Some is_now) (Err (errors.Batch fault)) → IsClean
      → EndsPlan plan (Some files) (Some new) BadBatch (bad_batch_line fault)
  ends_batch fault a clean =
      let one = subst (λ old. IsOneMap hash old a.0.0) (recovered_map was) a.0.1 in
      ends_refused hash was a.0.0 one map b fault a.0.3 files (Some new)
      (left_none (same_image is_now (recovered was) (a.1 tt)) clean) BadBatch (bad_batch_line fault) refl refl

  -- ---- the plan comes to its end

  pub ends_applied : (r : Result (List ℕ) HereErr) → AppliesTo hash map (journal_of map) b (Some files) (Some new) r
      → (ending : Ending) → SaysApplied r (Ok ending)
      → EndsPlan plan (Some files) (Some new) ending.status (printed_of ending)
  ends_applied (Ok digest) a ending says =
      subst (λ s. EndsPlan plan (Some files) (Some new) s (printed_of ending)) (sym says.status)
      (subst (λ t. EndsPlan plan (Some files) (Some new) Done t) (sym says.printed) (ends_ok digest a.0))
  ends_applied (Err (errors.Map fault)) a ending says =
      subst (λ s. EndsPlan plan (Some files) (Some new) s (printed_of ending)) (sym says.status)
      (subst (λ t. EndsPlan plan (Some files) (Some new) BadMap t) (sym says.printed) (ends_map fault a.0 (a.2 tt)))
  ends_applied (Err errors.Layer) a ending says = absurd (no_layer a.0.0.0 a.0.0.1 a.0.0.2)
  ends_applied (Err (errors.Batch fault)) a ending says =
      subst (λ s. EndsPlan plan (Some files) (Some new) s (printed_of ending)) (sym says.status)
      (subst (λ t. EndsPlan plan (Some files) (Some new) BadBatch t) (sym says.printed) (ends_batch fault a.0 (a.2 tt)))
  ends_applied (Err errors.Fault) a ending says = absurd (cc)
  ends_applied (Err errors.NoMemory) a ending says = absurd (cc)

  -- ---- it is given up

  may_hold : restored_in map (journal_of map) new ≡ held → (found : Found)
      → MayLeave (say_batch_here (version_of held) hash map was b found).written (Some files) (Some new)
  may_hold same (Ok m) = by_fault (batch_fault (records m.tree) m.batch b)
    where
      by_fault : (f : Option BatchFault)
          → MayLeave (say_admitted_here (version_of held) hash map was m.tree b f).written (Some files) (Some new)
      by_fault None = inr (kept, inl same)
      by_fault (Some f) = inr (kept, inl same)
  may_hold same (Err fault) = inr (kept, inl same)

  up_stopped : (restored_in map (journal_of map) new ≡ held)
      ⊎ Becomes hash b held (restored_in map (journal_of map) new)
      → GivesUpPlan plan (Some files) (Some new)
  up_stopped (inl same) =
      let found = found_in (version_of held) hash held agrees in (found.0, found.1, may_hold same found.0)
  up_stopped (inr becomes) =
      let m = becomes.0 in
      let makes = becomes.2 in (
        Ok m,
        shows hash was m makes.one,
        subst (λ f. MayLeave (say_admitted_here (version_of held) hash map was m.tree b f).written (Some files)
            (Some new))
            (sym (no_fault (records m.tree) m.batch b makes.may))
            (inr (
              kept,
              inr (whole hash was m makes.one map b (restored_in map (journal_of map) new) becomes.1 makes),
            )),
      )

  pub up_applied : (r : Result (List ℕ) HereErr) → AppliesTo hash map (journal_of map) b (Some files) (Some new) r
      → GivesUpPlan plan (Some files) (Some new)
  up_applied (Ok digest) a =
      up_of (version_of held) hash map was b (Some files) (Some new) Done (digest_line digest) (ends_ok digest a.0)
  up_applied (Err e) a = up_stopped a.1
