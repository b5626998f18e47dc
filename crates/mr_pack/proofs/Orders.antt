-- The two orders of entries.
use Rattle.std.specs.Prelude.{Result, Ok, Err, OnOk, IfOk}
use Rattle.std.specs.Cmp.{IsStrictWeakOrder, then_total, on_total, int_cmp_total, nat_cmp_total}
use Rattle.std.proofs.lemmas.List.Sorted.{ranks_by}
use Rattle.mr_pack.specs.Entries.{is_left, is_below}
use Rattle.mr_pack.specs.declared.placed.Placed.{Placed}

pub left_order : {T : Type 0} → IsStrictWeakOrder (is_left {T = T})
left_order {T} =
    ranks_by (then_total (on_total (λ (e : Placed T). e.x) int_cmp_total)
    (on_total (λ (e : Placed T). e.tie) nat_cmp_total)) (λ (e : Placed T). e)

pub below_order : {T : Type 0} → IsStrictWeakOrder (is_below {T = T})
below_order {T} =
    ranks_by (then_total (on_total (λ (e : Placed T). e.y) int_cmp_total)
    (on_total (λ (e : Placed T). e.tie) nat_cmp_total)) (λ (e : Placed T). e)

-- from one fact of an `Ok` another
pub on_ok : {T E P Q : Type 0} (r : Result T E) → (P → Q) → OnOk r P → OnOk r Q
on_ok (Ok x) f p = f p
on_ok (Err e) f p = tt

pub if_ok : {T E : Type 0} {P Q : T → Type 0} (r : Result T E) → ((x : T) → P x → Q x) → IfOk r P → IfOk r Q
if_ok (Ok x) f p = f x p
if_ok (Err e) f p = tt

pub both_ok : {T E : Type 0} {P Q R : T → Type 0} (r : Result T E) → ((x : T) → P x → Q x → R x) → IfOk r P →
    IfOk r Q → IfOk r R
both_ok (Ok x) f p q = f x p q
both_ok (Err e) f p q = tt
