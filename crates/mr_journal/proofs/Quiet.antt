-- Why a call may be refused, and what it counts, behind a call that was answered.
use Rattle.std.proofs.Common.{◌≡◌, ℕ, List, Option, Some, None, is_some, IsSome, Result, Ok, Err, OnOk, refl, ap, subst, ◌∙◌, arith}
use Rattle.std.specs.Prelude.{option_map}
use Rattle.mr_outside.specs.Files.{Files}
use Rattle.mr_outside.proofs.Rises.{later_then_rose}
use Rattle.mr_journal.specs.declared.disk.DiskErr.{DiskErr}
use Rattle.mr_journal.specs.Images.{DiskState}
use Rattle.mr_journal.specs.Moments.{DiskCauses}
use Rattle.mr_journal.specs.private.FileChanges.{ChangesFile}
use Rattle.mr_journal.proofs.Running.{answered}

-- what an answered call counts goes for any answer
pub causes_as : {A B : Type 0} (a b : DiskState) (x : A) (y : B) → DiskCauses a b (answered x)
    → DiskCauses a b (answered y)
causes_as a b x y c =
    record { fault = λ e. absurd (cc); faults = c.faults; told = c.told; quiet = c.quiet }

-- first a call that is answered, then another one
pub causes_then : {A B : Type 0} (a b c : DiskState) (x : A) (r : Result B DiskErr) → DiskCauses a b (answered x)
    → DiskCauses b c r → DiskCauses a c r
causes_then a b c x r first second = record {
  fault = λ e. later_then_rose a.faults b.faults c.faults first.faults (second.fault e);
  faults = omega (arith, first.faults, second.faults);
  told = second.told ∙ first.told;
  quiet = λ some. subst (λ n. OnOk r (c.faults ≡ n)) (first.quiet some) (second.quiet (first.told ∙ some));
}

-- what is seen of a value is there just where the value is
pub some_map : {A B : Type 0} (f : A → B) (o : Option A) → is_some (option_map f o) ≡ is_some o
some_map f None = refl
some_map f (Some x) = refl

-- two calls of a shelf, of which the first is answered
pub quiet_then : {A : Type 0} (told told' : Option Files) (a b c : ℕ) (r : Result A DiskErr)
    → is_some told' ≡ is_some told → (IsSome told → b ≡ a) → (IsSome told' → OnOk r (c ≡ b)) → IsSome told
    → OnOk r (c ≡ a)
quiet_then told told' a b c r same first second some =
    subst (λ n. OnOk r (c ≡ n)) (first some) (second (same ∙ some))

-- a file that is changed is told as before
pub told_turned : (name : List ℕ) (change : List ℕ → List ℕ) (a b : Option Files) → ChangesFile name change a b
    → is_some b ≡ is_some a
told_turned name change None b turns = ap is_some turns
told_turned name change (Some files) b turns = ap is_some turns.1

-- what is known of an answer alone
pub on_answer : {A : Type 0} (r : Result A DiskErr) (P : Type 0) → ((x : A) → r ≡ answered x → P) → OnOk r P
on_answer (Ok x) P known = known x refl
on_answer (Err e) P known = tt
