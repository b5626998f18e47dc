-- How many nodes a search and then a walk fetch.
use Rattle.std.proofs.Common.{◌≡◌, ℕ, ◌+◌, ◌*◌, ◌≤◌, eqb, length, Option, Some, None, refl, subst, arith, inl, inr}
use Rattle.std.specs.Prelude.{IfSome}
use Rattle.std.proofs.lemmas.Bool.{cases_Bool}
use Rattle.mr_geom.specs.declared.point.Point.{Point}
use Rattle.mr_tree.specs.Tree.{records}
use Rattle.mr_tree.specs.Digest.{Scheme}
use Rattle.mr_tree.specs.declared.tree.Tree.{Tree}
use Rattle.mr_query.specs.Layers.{layers_named}
use Rattle.mr_query.specs.Region.{meets_region}
use Rattle.mr_query.specs.Word.{asks}
use Rattle.mr_query.specs.declared.query.Query.{Query}
use Rattle.mr_query.specs.declared.query.Shape.{Shape}
use Rattle.mr_query.specs.declared.query.Shape.TheVariants.{Window, Nearest}
use Rattle.mr_proof.specs.declared.question.Around.{Around}
use Rattle.mr_proof.specs.Tight.{around_in, around_of}
use Rattle.mr_proof.specs.Honest.{opened}
use Rattle.mr_prove.specs.private.Search.{near_opened}

abbrev around_at : Point → ℕ → (layers : ℕ) → Around
around_at p k layers = record { center = p; k = k; layers = layers }

near_at : (scheme : Scheme) (p : Point) (k : ℕ) (mask : Option ℕ) (t : Tree)
    → near_opened scheme (around_at p k (layers_named mask)) t ≡ opened scheme t (asks (Nearest p k) mask)
unfolding meets_region
near_at scheme p k mask t = elim (cases_Bool (eqb (length (records t)) 0)) [
  | inl e ↦ rw e refl
  | inr e ↦ rw e refl
]

near_by : (scheme : Scheme) (a : Around) (t : Tree) (shape : Shape) (mask : Option ℕ)
    → around_in (layers_named mask) shape ≡ Some a → near_opened scheme a t ≡ opened scheme t (asks shape mask)
near_by scheme a t (Window w) mask e = absurd cc
near_by scheme a t (Nearest p k) mask e =
    let same : around_at p k (layers_named mask) ≡ a = cc in
    subst (λ (a : Around). near_opened scheme a t ≡ opened scheme t (asks (Nearest p k) mask)) same
    (near_at scheme p k mask t)

near_is : (scheme : Scheme) (q : Query) (a : Around) (t : Tree) → around_of q ≡ Some a
    → near_opened scheme a t ≡ opened scheme t q
near_is scheme q a t e = near_by scheme a t q.shape q.mask e

-- each node within the radius is fetched twice
pub all_fetched : (scheme : Scheme) (q : Query) (a : Around) (o : Option Tree) (before mid now : ℕ)
    → around_of q ≡ Some a → IfSome o (λ t. mid ≤ before + near_opened scheme a t)
    → IfSome o (λ t. now ≤ mid + opened scheme t q)
    → IfSome o (λ t. now ≤ before + 2 * opened scheme t q)
all_fetched scheme q a None before mid now is first second = tt
all_fetched scheme q a (Some t) before mid now is first second = let same = near_is scheme q a t is in omega arith

-- a search that failed
pub some_fetched : (scheme : Scheme) (q : Query) (a : Around) (o : Option Tree) (before mid : ℕ)
    → around_of q ≡ Some a → IfSome o (λ t. mid ≤ before + near_opened scheme a t)
    → IfSome o (λ t. mid ≤ before + 2 * opened scheme t q)
some_fetched scheme q a None before mid is first = tt
some_fetched scheme q a (Some t) before mid is first = let same = near_is scheme q a t is in omega arith
