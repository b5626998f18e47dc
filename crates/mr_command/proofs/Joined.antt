-- Two maps that are taken into memory, one behind the other, and the proof of their join.
use Rattle.std.proofs.Common.{◌≡◌, ℕ, Bool, true, false, List, refl, sym, ap, subst, ◌∙◌}
use Rattle.std.specs.Prelude.{◌||◌, ⊤, Option, Some, None, MatchOption, Result, Ok, Err}
use Rattle.mr_outside.specs.Files.{Files, file}
use Rattle.mr_outside.specs.Told.{OfFile}
use Rattle.mr_outside.specs.Bytes.{AreBytes}
use Rattle.mr_record.specs.declared.version.Version.{Version}
use Rattle.mr_record.specs.declared.version.Version.TheVariants.{One, Two}
use Rattle.mr_pages.specs.File.{form_at}
use Rattle.mr_pages.specs.Law.{AgreesWithFault}
use Rattle.mr_pages.specs.declared.opening.Opened.{Opened}
use Rattle.mr_join.specs.declared.finding.JoinFinding.{JoinFinding}
use Rattle.mr_join.specs.declared.finding.JoinFinding.TheVariants as findings
use Rattle.mr_join.specs.declared.fault.JoinFault.{JoinFault}
use Rattle.mr_join.specs.declared.pair.Pair.{Pair}
use Rattle.mr_command.specs.Ending.{AreJudged}
use Rattle.mr_command.specs.private.Steps.{GoesOn, IsJudged}
use Rattle.mr_plan.specs.Joins.{is_first, join_given, join_of, joined_found, lacks_join}
use Rattle.mr_plan.specs.Lines.{needs_version_2_line}
use Rattle.mr_plan.specs.Outcome.{Nothing}
use Rattle.mr_plan.specs.Plan.{Plan, comes}
use Rattle.mr_plan.specs.Say.{ends, needs, needs_map, say_audit_join_of, say_beside_maps, say_check_join_of, say_join_finding, say_join_of, say_join_verdict, say_written, unless_first, unless_lacking}
use Rattle.mr_plan.specs.declared.status.Status.TheVariants.{NeedsVersion2}
use Rattle.mr_command.proofs.Going.{judged_map, judged_needs}

-- ---- what the second map's bytes stand for

-- each told file is of bytes, and bytes stand for one map or have one fault
pub judged_any : (hash : List ℕ → List ℕ) (told : Option Files) (name : List ℕ) → OfFile told name ⊤ AreBytes
    → ((bytes : List ℕ) → AreBytes bytes → AgreesWithFault (form_at bytes) hash bytes) → IsJudged hash told name
judged_any hash None name are law bytes is = law bytes is
judged_any hash (Some files) name are law bytes is = law bytes (by_found (file files name) is are)
  where
    by_found : (o : Option (List ℕ)) → o ≡ Some bytes → MatchOption o ⊤ AreBytes → AreBytes bytes
    by_found None e are = absurd (cc)
    by_found (Some held) e are = subst (λ (o : Option (List ℕ)). MatchOption o ⊤ AreBytes) e are

-- whatever the first map, the second one is judged, and what follows on both
pub goes_second : (hash : List ℕ → List ℕ) (name : List ℕ) (next : Opened → Opened → Plan) (told : Option Files)
    → IsJudged hash told name → ((one : Opened) → GoesOn (next one) told)
    → GoesOn (λ one. needs_map hash name (next one)) told
goes_second hash name next told judged goes one = judged_map hash name (next one) told judged (goes one)

-- ---- version 1

pub says_first : (hash : List ℕ → List ℕ) (proof : List ℕ) (one other : Opened) → lacks_join one other ≡ true
    → ends NeedsVersion2 needs_version_2_line ≡ say_join_of hash proof one other
unfolding say_join_of
says_first hash proof one other lacks =
    ap (λ b. unless_lacking b (say_written proof (join_of hash one other))) (sym lacks)

pub says_joined : (hash : List ℕ → List ℕ) (proof : List ℕ) (one other : Opened) (bytes : List ℕ)
    → lacks_join one other ≡ false → bytes ≡ join_of hash one other
    → say_written proof bytes ≡ say_join_of hash proof one other
unfolding say_join_of
says_joined hash proof one other bytes has is =
    ap (say_written proof) is
    ∙ ap (λ b. unless_lacking b (say_written proof (join_of hash one other))) (sym has)

-- both are of version 2
no_first : (v : Version) → is_first v ≡ false → v ≡ Two
no_first One e = absurd (cc)
no_first Two e = refl

parts_false : (a b : Bool) → (a || b) ≡ false → (a ≡ false) × (b ≡ false)
parts_false false false e = (refl, refl)
parts_false false true e = absurd (cc)
parts_false true b e = absurd (cc)

pub both_two : (one other : Opened) → lacks_join one other ≡ false → (one.version ≡ Two) × (other.version ≡ Two)
both_two one other has =
    let parts = parts_false (is_first one.version) (is_first other.version) has in
    (no_first one.version parts.0, no_first other.version parts.1)

-- ---- the audit

pub beside_first : (hash : List ℕ → List ℕ) (proof : List ℕ) (one other : Opened) → lacks_join one other ≡ true
    → comes (ends NeedsVersion2 needs_version_2_line) ≡ say_beside_maps hash proof one other
beside_first hash proof one other lacks =
    ap (λ b. unless_first b (needs proof (λ bytes. comes (say_audit_join_of hash one other bytes)))) (sym lacks)

pub beside_second : (hash : List ℕ → List ℕ) (proof : List ℕ) (one other : Opened) → lacks_join one other ≡ false
    → needs proof (λ bytes. comes (say_audit_join_of hash one other bytes)) ≡ say_beside_maps hash proof one other
beside_second hash proof one other has =
    ap (λ b. unless_first b (needs proof (λ bytes. comes (say_audit_join_of hash one other bytes)))) (sym has)

-- whatever follows on both maps opens nothing
pub goes_beside : (hash : List ℕ → List ℕ) (proof : List ℕ) (told : Option Files) (one : Opened)
    → GoesOn (say_beside_maps hash proof one) told
goes_beside hash proof told one other = by_lacks (lacks_join one other)
  where
    by_lacks : (b : Bool)
        → AreJudged (unless_first b (needs proof (λ bytes. comes (say_audit_join_of hash one other bytes)))) told
    by_lacks true = tt
    by_lacks false = judged_needs proof (say_audit_join_of hash one other) told

-- ---- what is said writes no file

join_verdict_writes : (v : Result (List Pair) JoinFault) → (say_join_verdict v).written ≡ Nothing
join_verdict_writes (Ok pairs) = refl
join_verdict_writes (Err fault) = refl

pub check_join_writes : (hash : List ℕ → List ℕ) (first second bytes : List ℕ)
    → (say_check_join_of hash first second bytes).written ≡ Nothing
unfolding say_check_join_of
check_join_writes hash first second bytes = join_verdict_writes (join_given hash first second bytes)

pub says_join_verdict : (hash : List ℕ → List ℕ) (first second bytes : List ℕ) (v : Result (List Pair) JoinFault)
    → join_given hash first second bytes ≡ v → say_check_join_of hash first second bytes ≡ say_join_verdict v
unfolding say_check_join_of
says_join_verdict hash first second bytes v is = ap say_join_verdict is

join_finding_writes : (f : JoinFinding) → (say_join_finding f).written ≡ Nothing
join_finding_writes (findings.Refused fault) = refl
join_finding_writes (findings.Sound pairs) = refl
join_finding_writes (findings.First owned shown) = refl
join_finding_writes (findings.Second owned shown) = refl

pub audit_join_writes : (hash : List ℕ → List ℕ) (one other : Opened) (bytes : List ℕ)
    → (say_audit_join_of hash one other bytes).written ≡ Nothing
unfolding say_audit_join_of
audit_join_writes hash one other bytes = join_finding_writes (joined_found hash one other bytes)

pub says_join_finding : (hash : List ℕ → List ℕ) (one other : Opened) (bytes : List ℕ) (f : JoinFinding)
    → f ≡ joined_found hash one other bytes → say_join_finding f ≡ say_audit_join_of hash one other bytes
unfolding say_audit_join_of
says_join_finding hash one other bytes f is = ap say_join_finding is
