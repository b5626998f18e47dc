-- What an update in place answers, and what it leaves of the contents.
use Rattle.std.proofs.Common.{◌≡◌, ℕ, Bool, true, false, List, [], length, arith, sym, ap, subst, ◌∙◌}
use Rattle.std.specs.Prelude.{Option, Some, None, option_map, IfSome, IfErr, IsErrAnd, Result, Ok, Err}
use Rattle.mr_record.specs.Version.{version_byte}
use Rattle.mr_outside.specs.Bytes.{AreBytes}
use Rattle.mr_pages.specs.Law.{IsMapFile}
use Rattle.mr_pages.specs.declared.opening.Opened.{Opened}
use Rattle.mr_batch.specs.Changes.{Changes}
use Rattle.mr_journal.specs.Changed.{IsChange}
use Rattle.mr_journal.specs.Format.{ready, carried, changed_by, is_open, recovered}
use Rattle.mr_journal.specs.Images.{Image}
use Rattle.mr_journal.specs.declared.disk.DiskErr.{DiskErr}
use Rattle.mr_journal.specs.declared.disk.DiskErr.TheVariants as disks
use Rattle.mr_here.specs.Updated.{map_after, Becomes, MakesNext, IsHindered, MayRefuse, IsRefusal, Answers, AnswersSome, WhereJudged}
use Rattle.mr_here.specs.private.Forming.{of_disk, IsFormed}
use Rattle.mr_here.specs.declared.error.HereErr.{HereErr}
use Rattle.mr_here.specs.declared.error.HereErr.TheVariants as errors

-- whatever map the old bytes stand for, the new ones stand for the map after the batch
pub after_of : (hash : List ℕ → List ℕ) (b : Changes) (old new : List ℕ) → Becomes hash b old new → (m : Opened)
    → IsMapFile hash old m → IsMapFile hash new (map_after m b)
after_of hash b old new is m stands =
    subst (λ n. IsMapFile hash new (map_after n b)) (sym (is.2.one.only m stands)) is.2.next.stands

-- the body of a journal makes the map after the batch
pub formed_becomes : (hash : List ℕ → List ℕ) (b : Changes) (old body digest : List ℕ) → IsFormed hash b old body digest
    → Becomes hash b old (carried body old)
formed_becomes hash b old body digest formed =
    subst (Becomes hash b old) (sym formed.change.makes) (formed.map, digest, formed.makes)

-- ---- a refusal of the disk says nothing of the map

disk_may : (hash : List ℕ → List ℕ) (b : Changes) (old : List ℕ) (d : DiskErr) → MayRefuse hash b old (of_disk d)
disk_may hash b old disks.Fault = tt
disk_may hash b old disks.NoMemory = tt

disk_unsaid : (d : DiskErr) → IsRefusal (of_disk d) → ⊥
disk_unsaid disks.Fault said = said
disk_unsaid disks.NoMemory said = said

pub nothing_said : (Q : Type 0) (d : DiskErr) (r : Result (List ℕ) HereErr) → r ≡ Err (of_disk d)
    → IfErr r (λ e. IsRefusal e → Q)
nothing_said Q d r is =
    subst (λ (x : Result (List ℕ) HereErr). IfErr x (λ e. IsRefusal e → Q)) (sym is)
    (λ said. absurd (disk_unsaid d said))

disk_answer : (hash : List ℕ → List ℕ) (b : Changes) (was : Image) (after : Option Image) (d : DiskErr)
    (r : Result (List ℕ) HereErr) → r ≡ Err (of_disk d) → Answers hash b was after r
disk_answer hash b was after d r is =
    subst (Answers hash b was after) (sym is) (disk_may hash b was.map d, λ said. absurd (disk_unsaid d said))

pub disk_says : (hash : List ℕ → List ℕ) (b : Changes) (o after : Option Image) (d : DiskErr)
    (r : Result (List ℕ) HereErr) → r ≡ Err (of_disk d) → IfSome o (λ k. Answers hash b k after r)
disk_says hash b None after d r is = tt
disk_says hash b (Some k) after d r is = disk_answer hash b k after d r is

pub disk_restores : (hash : List ℕ → List ℕ) (b : Changes) (o after : Option Image) (d : DiskErr)
    (r : Result (List ℕ) HereErr) → r ≡ Err (of_disk d) → IfSome o (λ k. Answers hash b (recovered k) after r)
disk_restores hash b None after d r is = tt
disk_restores hash b (Some k) after d r is = disk_answer hash b (recovered k) after d r is

-- whatever is refused, this holds
pub said_any : (r : Result (List ℕ) HereErr) (Q : Type 0) → Q → IfErr r (λ e. IsRefusal e → Q)
said_any (Ok v) Q q = tt
said_any (Err e) Q q = λ said. q

pub judged_any : (r : Result (List ℕ) HereErr) (P : Type 0) → P → WhereJudged r P
judged_any (Ok v) P p = p
judged_any (Err e) P p = λ said. p

pub judged_not : (P : Type 0) (d : DiskErr) (r : Result (List ℕ) HereErr) → r ≡ Err (of_disk d) → WhereJudged r P
judged_not P d r is =
    subst (λ (x : Result (List ℕ) HereErr). WhereJudged x P) (sym is) (λ said. absurd (disk_unsaid d said))

-- a count that stays, behind one that stayed
pub judged_then : (a b c : ℕ) (r : Result (List ℕ) HereErr) → b ≡ a → WhereJudged r (c ≡ b) → WhereJudged r (c ≡ a)
judged_then a b c r first second = subst (λ n. WhereJudged r (c ≡ n)) first second

-- nothing was written behind a recovery that left all as it was
pub still_then : (o : Option Image) (was : Bool) (r : Result (List ℕ) HereErr) (A B C : Type 0) → (A → B → C)
    → IfSome o (λ k. was ≡ is_open k) → (was ≡ false → A) → IfErr r (λ e. IsRefusal e → B)
    → IfErr r (λ e. IsRefusal e → IfSome o (λ k. is_open k ≡ false → C))
still_then o was (Ok v) A B C on is first second = tt
still_then None was (Err e) A B C on is first second = λ said. tt
still_then (Some k) was (Err e) A B C on is first second = λ said shut. on (first (is ∙ shut)) (second said)

-- a refusal that is handed on
pub handed_on : {A : Type 0} (r : Result A HereErr) (e : HereErr) → IsErrAnd r (λ h. h ≡ e) → r ≡ Err e
handed_on (Ok v) e is = absurd is
handed_on (Err h) e is = ap (λ x. Err x) is

-- ---- what is said of the map

hindered_may : (hash : List ℕ → List ℕ) (b : Changes) (old : List ℕ) (e : HereErr) → IsHindered hash b old e
    → MayRefuse hash b old e
hindered_may hash b old (errors.Map f) h = h
hindered_may hash b old errors.Layer h = h
hindered_may hash b old (errors.Batch f) h = h
hindered_may hash b old errors.Fault h = tt
hindered_may hash b old errors.NoMemory h = h

pub hindered_says : (hash : List ℕ → List ℕ) (b : Changes) (o after : Option Image) (loaded : List ℕ) (e : HereErr)
    (r : Result (List ℕ) HereErr) → after ≡ o → IfSome o (λ k. loaded ≡ k.map) → IsHindered hash b loaded e → r ≡ Err e
    → IfSome o (λ k. Answers hash b k after r)
hindered_says hash b None after loaded e r same is hinders handed = tt
hindered_says hash b (Some k) after loaded e r same is hinders handed =
    subst (Answers hash b k after) (sym handed)
    (hindered_may hash b k.map e (subst (λ old. IsHindered hash b old e) is hinders), λ said. same)

-- what was loaded is the map
of_loaded : (o : Option Image) (loaded : List ℕ) (P : List ℕ → Type 0) → IfSome o (λ k. loaded ≡ k.map) → P loaded
    → IfSome o (λ k. P k.map)
of_loaded None loaded P is p = tt
of_loaded (Some k) loaded P is p = subst P is p

-- the pages were carried out
pub updated_says : (hash : List ℕ → List ℕ) (b : Changes) (o middle after : Option Image)
    (loaded body now digest : List ℕ) → middle ≡ o → now ≡ body → after ≡ option_map (changed_by now) middle
    → IfSome o (λ k. loaded ≡ k.map) → IsFormed hash b loaded body digest
    → IfSome o (λ k. Answers hash b k after (Ok digest))
updated_says hash b None middle after loaded body now digest same spelled left is formed = tt
updated_says hash b (Some k) middle after loaded body now digest same spelled left is formed = record {
  map = formed.map;
  made = formed.made;
  makes = subst (λ old. MakesNext hash b formed.map old formed.made digest) is formed.makes;
  body = body;
  change = subst (λ old. IsChange (version_byte formed.map.version) old formed.made body) is formed.change;
  left = left ∙ ap (option_map (changed_by now)) same ∙ ap (λ l. Some (changed_by l k)) spelled;
}

-- what is so of the contents behind recovery is so of what it leaves
pub recovered_says : (hash : List ℕ → List ℕ) (b : Changes) (o middle after : Option Image)
    (r : Result (List ℕ) HereErr) → middle ≡ option_map recovered o → IfSome middle (λ k. Answers hash b k after r)
    → IfSome o (λ k. Answers hash b (recovered k) after r)
recovered_says hash b None middle after r left says = tt
recovered_says hash b (Some k) middle after r left says =
    subst (λ (x : Option Image). IfSome x (λ i. Answers hash b i after r)) left says

pub begins_at : (o o' : Option Image) (loaded body : List ℕ) → o' ≡ o → IfSome o (λ k. loaded ≡ k.map)
    → ready (length loaded) body ≡ true → IfSome o' (λ k. ready (length k.map) body ≡ true)
begins_at o o' loaded body same is fit =
    subst (λ (x : Option Image). IfSome x (λ k. ready (length k.map) body ≡ true)) (sym same)
    (of_loaded o loaded (λ old. ready (length old) body ≡ true) is fit)

-- ---- the same of some bytes

no_bytes : AreBytes []
no_bytes k d within = absurd (omega (arith, within))

pub disk_some : (hash : List ℕ → List ℕ) (b : Changes) (d : DiskErr) (r : Result (List ℕ) HereErr) → r ≡ Err (of_disk d)
    → AnswersSome hash b r
disk_some hash b d r is = subst (AnswersSome hash b) (sym is) ([], no_bytes, disk_may hash b [] d)

pub none_some : (hash : List ℕ → List ℕ) (b : Changes) → AnswersSome hash b (Err errors.NoMemory)
none_some hash b = ([], no_bytes, tt)

pub hindered_some : (hash : List ℕ → List ℕ) (b : Changes) (old : List ℕ) (e : HereErr) (r : Result (List ℕ) HereErr)
    → AreBytes old → IsHindered hash b old e → r ≡ Err e → AnswersSome hash b r
hindered_some hash b old e r are hinders is =
    subst (AnswersSome hash b) (sym is) (old, are, hindered_may hash b old e hinders)

pub updated_some : (hash : List ℕ → List ℕ) (b : Changes) (old body digest : List ℕ) → AreBytes old
    → IsFormed hash b old body digest → AnswersSome hash b (Ok digest)
updated_some hash b old body digest are formed = (old, are, (formed.map, formed.made, formed.makes))
