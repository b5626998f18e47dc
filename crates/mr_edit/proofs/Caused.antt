-- A refusal that is handed on after calls that were answered has its cause.
use Rattle.std.proofs.Common.{◌≡◌, ℕ, sym, subst}
use Rattle.std.specs.Prelude.{Result, IfErr}
use Rattle.std.specs.Result.{IsErrAnd}
use Rattle.std.proofs.lemmas.Result.{err_from_is_err_and}
use Rattle.mr_edit.specs.Causes.{HasEditCause}
use Rattle.mr_edit.specs.declared.error.EditErr.{EditErr}

pub handed_cause : {T : Type 0} (r : Result T EditErr) (e : EditErr) (a b c : ℕ) → IsErrAnd r (λ y. y ≡ e) → b ≡ a →
    HasEditCause b c e → IfErr r (HasEditCause a c)
handed_cause r e a b c is quiet cause =
    let p = err_from_is_err_and r is in
    subst (λ x. IfErr x (HasEditCause a c)) (sym p.1)
    (subst (HasEditCause a c) (sym p.2) (subst (λ n. HasEditCause n c e) quiet cause))
