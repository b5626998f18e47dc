-- A refusal that blames another page.
use Rattle.std.proofs.Common.{◌≡◌, ℕ, refl, sym, subst}
use Rattle.std.specs.Prelude.{Result, IfErr, Ok, Err}
use Rattle.std.specs.Result.{IsErrAnd}
use Rattle.std.proofs.lemmas.Result.{err_from_is_err_and}
use Rattle.mr_edit.specs.Causes.{HasEditCause, IsOfPages}
use Rattle.mr_edit.specs.Outcome.{NeverMap, IsAlike, IsOfRoot}
use Rattle.mr_edit.specs.declared.error.EditErr.{EditErr}
use Rattle.mr_edit.specs.declared.error.EditErr.TheVariants as errors

pub alike_never : (e f : EditErr) (P : Type 0) → IsAlike e f → NeverMap e P → NeverMap f P
alike_never (errors.Map fault) f P same denies = subst (λ x. NeverMap x P) (sym same.1) denies
alike_never errors.Missing f P same denies = subst (λ x. NeverMap x P) (sym same) tt
alike_never errors.Fault f P same denies = subst (λ x. NeverMap x P) (sym same) tt
alike_never errors.NoMemory f P same denies = subst (λ x. NeverMap x P) (sym same) tt

pub alike_cause : (before after : ℕ) (e f : EditErr) → IsAlike e f → HasEditCause before after e →
    HasEditCause before after f
alike_cause before after (errors.Map fault) f same cause =
    subst (HasEditCause before after) (sym same.1) (subst IsOfPages (sym same.2) cause.0, cause.1)
alike_cause before after errors.Missing f same cause = subst (HasEditCause before after) (sym same) cause
alike_cause before after errors.Fault f same cause = subst (HasEditCause before after) (sym same) cause
alike_cause before after errors.NoMemory f same cause = subst (HasEditCause before after) (sym same) cause

-- where there is no root
pub of_no_root : {A : Type 0} (r : Result A EditErr) → IfErr r (IsOfRoot 0)
of_no_root (Ok a) = tt
of_no_root (Err (errors.Map fault)) = λ is first. refl
of_no_root (Err errors.Missing) = tt
of_no_root (Err errors.Fault) = tt
of_no_root (Err errors.NoMemory) = tt

-- a refusal that is handed on
pub handed_on : {T : Type 0} (r : Result T EditErr) (e : EditErr) (Q : EditErr → Type 0) → IsErrAnd r (λ y. y ≡ e) →
    Q e → IfErr r Q
handed_on r e Q is held =
    let p = err_from_is_err_and r is in subst (λ x. IfErr x Q) (sym p.1) (subst Q (sym p.2) held)
