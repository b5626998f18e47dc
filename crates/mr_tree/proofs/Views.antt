-- What stands in the first places of a view.
use Rattle.std.proofs.Common.{◌≡◌, ℕ, zero, suc, ◌+◌, ◌<◌, ◌≤◌, Bool, cond, List, [], ◌∷◌, length, take, refl, sym, ap, ◌∙◌, arith}
use Rattle.std.specs.Prelude.{All}
use Rattle.std.proofs.Math.Dec.{eqb-suc-zero}
use Rattle.std.proofs.lemmas.List.{length-take-le}
use Rattle.mr_record.specs.Record.{IsRecord}
use Rattle.mr_record.specs.declared.record.Record.{Record}
use Rattle.mr_tree.specs.View.{Node, IsView, IsChild, records_in, children_in, size, level_of, shown, IsKept}
use Rattle.mr_tree.specs.declared.child.Child.{Child}
use Rattle.mr_tree.specs.declared.tree.Tree.TheOpen.{Empty, Leaf, Inner}

first_is : (level : ℕ) (ds : List Child) → 1 ≤ length ds → All (λ (c : Child). c.level + 1 ≡ level) ds →
    level_of (Inner ds) ≡ level
first_is level [] some h = absurd (omega arith)
first_is level (d ∷ ds) some h = h 0 d (omega arith)

shown_inner : (l len : ℕ) (records : List Record) (children : List Child) →
    shown (suc l) len records children ≡ Inner (take len children)
shown_inner l len records children =
    ap (λ (b : Bool). let n : Node = cond b (Leaf (take len records)) (Inner (take len children)) in n) (eqb-suc-zero l)

pub level_shown : (level len : ℕ) (records : List Record) (children : List Child) → IsKept level len records children →
    level_of (shown level len records children) ≡ level
level_shown zero len records children k = refl
level_shown (suc l) len records children k =
    let some : 1 ≤ len = k.some (omega arith) in
    ap level_of (shown_inner l len records children)
    ∙ first_is (suc l) (take len children) (omega (
      arith,
      k.room.1,
      k.few,
      length-take-le len children
          (omega (arith, k.room.1, k.few)),
    )) (k.below (omega arith))

pub size_shown : (level len : ℕ) (records : List Record) (children : List Child) → IsKept level len records children →
    size (shown level len records children) ≡ len
size_shown zero len records children k = length-take-le len records (omega (arith, k.room.0, k.brief refl))
size_shown (suc l) len records children k =
    ap size (shown_inner l len records children) ∙ length-take-le len children (omega (arith, k.room.1, k.few))

pub records_shown : (level len : ℕ) (records : List Record) (children : List Child) → IsKept level len records children
    → (length (records_in (shown level len records children)) ≤ 16)
    × (level_of (shown level len records children) ≡ 0 →
    shown level len records children ≡ Leaf (records_in (shown level len records children)))
records_shown zero len records children k = (
  omega (
    arith,
    k.brief refl,
    k.room.0,
    length-take-le len records
        (omega (arith, k.room.0, k.brief refl)),
  ),
  λ _. refl,
)
records_shown (suc l) len records children k =
    let none : records_in (shown (suc l) len records children) ≡ [] =
    ap records_in (shown_inner l len records children) in
    (omega (arith, ap length none), λ e. absurd (omega (arith, level_shown (suc l) len records children k, e)))

pub children_shown : (level len : ℕ) (records : List Record) (children : List Child) → IsKept level len records children
    → (length (children_in (shown level len records children)) ≤ 64)
    × (0 < level_of (shown level len records children) →
    shown level len records children ≡ Inner (children_in (shown level len records children)))
children_shown zero len records children k = (omega arith, λ h. absurd (omega arith))
children_shown (suc l) len records children k =
    let same : children_in (shown (suc l) len records children) ≡ take len children =
    ap children_in (shown_inner l len records children) in (
      omega (arith, ap length same, k.few, k.room.1, length-take-le len children (omega (arith, k.room.1, k.few))),
      λ _. shown_inner l len records children ∙ ap Inner (sym same),
    )

-- ---- what the calls on a view tell of its node

pub record Told (n : Node) : Type 0 where
  pub records : All IsRecord (records_in n)
  pub brief : length (records_in n) ≤ 16
  pub leaf : level_of n ≡ 0 → n ≡ Leaf (records_in n)
  pub children : All IsChild (children_in n)
  pub few : length (children_in n) ≤ 64
  pub inner : 0 < level_of n → n ≡ Inner (children_in n)
  pub some : 0 < level_of n → 1 ≤ length (children_in n)
  pub alike : All (λ (c : Child). c.level + 1 ≡ level_of n) (children_in n)
  pub low : level_of n ≤ 7

pub view_told : (n : Node) → Told n → IsView n
view_told Empty t = let h : Empty ≡ Leaf [] = t.leaf refl in absurd cc
view_told (Leaf rs) t = record { few = t.brief; each = t.records }
view_told (Inner cs) t = record {
  some = t.some (omega arith);
  few = t.few;
  low = t.low;
  each = t.children;
  alike = t.alike;
}
