use Rattle.std.proofs.Common.{◌≡◌, ℕ, List, ◌++◌, map, take, drop, sym, ap, subst, ◌∙◌}
use Rattle.std.proofs.lemmas.List.{map-append, take-append-drop}
use Rattle.std.specs.Prelude.{Result, Ok, IfOk}
use Rattle.std.specs.Global.{Vec}
use Rattle.mr_fork_join.proofs.halves.+halves.Goals as goal

-- what two parts of a list give is what all of it gives
joined : {X Y E : Type 0} (f : X → Y) (pieces front back : List X) (n : ℕ) (some others : Result (Vec Y) E)
    (all rest : Vec Y) (both : List Y) → front ≡ take n pieces → back ≡ drop n pieces
    → IfOk some (λ v. v.items ≡ map f front) → IfOk others (λ v. v.items ≡ map f back)
    → some ≡ Ok all → others ≡ Ok rest → both ≡ all.items ++ rest.items → both ≡ map f pieces
joined f pieces front back n some others all rest both is_front is_back first second was then is =
    let a : all.items ≡ map f front = subst (λ r. IfOk r (λ v. v.items ≡ map f front)) was first in
    let b : rest.items ≡ map f back = subst (λ r. IfOk r (λ v. v.items ≡ map f back)) then second in
    is ∙ (λ i. a i ++ b i) ∙ sym (map-append f front back)
    ∙ ap (map f) ((λ i. is_front i ++ is_back i) ∙ take-append-drop n pieces)

pub returns : goal.returns
returns g t c =
    joined (g.W.Work.gives c.args.work.now) c.args.pieces.now c.split_at.result.0.now c.split_at.result.1.now _
    c.join-some.result.0 c.join-some.result.1 c.in_ok-all.all c.in_ok-rest.rest c.append.new.self.items
    c.split_at.ensures.front c.split_at.ensures.back c.join-some.ensures.first c.join-some.ensures.second
    c.in_ok-all.was c.in_ok-rest.was c.in_ok-append.ensures.items
