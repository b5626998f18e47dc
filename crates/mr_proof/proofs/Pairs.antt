-- Bytes spell at most one pair of a head and a cut, and reading finds it.
use Rattle.std.proofs.Common.{◌≡◌, ℕ, Bool, true, false, List, length, Result, Ok, Err, Option, Some, refl, sym, ap, subst, ◌∙◌}
use Rattle.std.specs.Prelude.{if◌then◌else◌, ◌==◌, nat_lt, slice_index}
use Rattle.std.proofs.lemmas.Bool.{false≢true}
use Rattle.mr_proof.specs.declared.head.Kind.{Kind}
use Rattle.mr_proof.specs.declared.head.Kind.TheVariants as kind
use Rattle.mr_proof.specs.declared.head.Head.{Head}
use Rattle.mr_proof.specs.declared.rule.Rule.TheVariants as rule
use Rattle.mr_proof.specs.declared.rule.Fault.{Fault}
use Rattle.mr_proof.specs.Fields.{kind_byte}
use Rattle.mr_proof.specs.Cut.{Cut}
use Rattle.mr_record.specs.declared.version.Version.{Version}
use Rattle.mr_record.specs.declared.version.Version.TheVariants.{One, Two}
use Rattle.mr_proof.specs.Spelling.{Parsed, said, FitsVersion, IsSpelled}
use Rattle.mr_proof.specs.Tight.{needs_two}
use Rattle.mr_proof.specs.Grammar.{whole}
use Rattle.mr_proof.specs.Layout.{fault, start}
use Rattle.mr_proof.specs.Reading.{walk, kind_in, at_end, if_spelled, anywhere, pair_of, pair_in}
use Rattle.mr_proof.specs.Halves.{SpellsOneOf, FindsPairOf, IsQueried, SpellsOne, FindsPair}
use Rattle.mr_record.proofs.Encodings.{IsBytes}
use Rattle.mr_proof.proofs.Soundness.{take_whole, spelled_whole, not_failed, nothing_left}
use Rattle.mr_proof.proofs.Completeness.{whole_again}

-- ---- the kind of a proof for a query stands at the sixth byte

kind_back : (k : Kind) → IsQueried k → (if kind_byte k == kind_byte kind.K then kind.K else kind.W) ≡ k
kind_back kind.W of = refl
kind_back kind.K of = refl
kind_back (kind.Choice letter) of = absurd of

pub kind_spelled : (h : Head) (P : Option Cut) (bytes : List ℕ) → IsQueried h.kind → IsSpelled h P bytes
    → kind_in bytes ≡ h.kind
kind_spelled h P bytes of s = ap kind_in s.whole ∙ kind_back h.kind of

queried_if : (b : Bool) → IsQueried (if b then kind.K else kind.W)
queried_if true = tt
queried_if false = tt

-- ---- what is spelled is found

-- a head of a kind that proofs of the second version alone have is of that version
two_alone : (k : Kind) (v : Version) → FitsVersion k v → v ≡ One → needs_two k ≡ false
two_alone kind.W v fits e = refl
two_alone kind.K v fits e = refl
two_alone (kind.Choice letter) v fits e = let never : One ≡ Two = sym e ∙ fits in absurd cc

-- the pair that bytes spell is found in them, tight or not
pub pair_found_of : (k : Kind) (h : Head) (P : Option Cut) (bytes : List ℕ) → h.kind ≡ k → IsSpelled h P bytes
    → pair_of k bytes ≡ Some (said h P)
unfolding pair_of
pair_found_of k h P bytes e s =
    let x = whole_again false at_end (needs_two h.kind) anywhere bytes h P
    (two_alone h.kind h.version s.head.version) s (λ f. absurd (false≢true f)) in
    let of_kind : if_spelled (walk false at_end (whole h.kind (needs_two h.kind) anywhere) (start bytes))
    ≡ Some (said h P) = ap if_spelled x.same ∙ (rw x.left refl) in
    subst (λ (k : Kind). if_spelled (walk false at_end (whole k (needs_two k) anywhere) (start bytes))
    ≡ Some (said h P)) e of_kind

pub pair_found : (h : Head) (P : Option Cut) (bytes : List ℕ) → IsQueried h.kind → IsSpelled h P bytes
    → pair_in bytes ≡ Some (said h P)
pair_found h P bytes of s = pair_found_of (kind_in bytes) h P bytes (sym (kind_spelled h P bytes of s)) s

-- ---- what is found is spelled

abbrev pub some : Parsed → Option Parsed
some x = Some x

same_pair : (x y : Parsed) → some x ≡ some y → x ≡ y
same_pair x y e = cc

read_pair : (r : Result Parsed Fault) (x : Parsed) → if_spelled r ≡ Some x → r ≡ Ok x
read_pair (Ok y) x e = ap (λ (z : Parsed). Ok z) (same_pair y x e)
read_pair (Err f) x e = absurd cc

abbrev found : Parsed → Result Parsed Fault
found x = Ok x

same_found : (x y : Parsed) → found x ≡ found y → x ≡ y
same_found x y e = cc

-- bytes spell the pair that is found in them
pub pair_spelled : (k : Kind) (bytes : List ℕ) (x : Parsed) → IsBytes bytes → pair_of k bytes ≡ Some x
    → (x.head.kind ≡ k) × IsSpelled x.head x.part bytes
unfolding pair_of
pair_spelled k bytes x fits e =
    let t = take_whole false at_end k (needs_two k) anywhere bytes x (λ two. two) fits
    (read_pair (walk false at_end (whole k (needs_two k) anywhere) (start bytes)) x e) in
    let z = not_failed (nat_lt 0 (length t.end.rest)) (fault rule.Trailing t.end.at) (Ok t.value) x t.rest in
    let same = same_found t.value x z.1 in (
      subst (λ (y : Parsed). y.head.kind ≡ k) same t.kind,
      subst (λ (y : Parsed). IsSpelled y.head y.part bytes) same
          (spelled_whole false at_end k (needs_two k) anywhere bytes x t (nothing_left t.end.rest z.0)),
    )

pub finds_pair_of : (k : Kind) (bytes : List ℕ) → IsBytes bytes → FindsPairOf k bytes
finds_pair_of k bytes fits = λ h P.
    (λ s. pair_found_of k h P bytes s.0 s.1, λ e. pair_spelled k bytes (said h P) fits e)

pub finds_pair : (bytes : List ℕ) → IsBytes bytes → FindsPair bytes
finds_pair bytes fits = λ h P. (
  λ s. pair_found h P bytes s.0 s.1,
  λ e. let p = pair_spelled (kind_in bytes) bytes (said h P) fits e in
      (subst IsQueried (sym p.0) (queried_if (slice_index bytes 5 == kind_byte kind.K)), p.1),
)

-- ---- there is one

pub one_pair_of : (k : Kind) (bytes : List ℕ) → SpellsOneOf k bytes
one_pair_of k bytes = λ h g P Q e f s t.
    let same : said h P ≡ said g Q = same_pair (said h P) (said g Q)
    (sym (pair_found_of k h P bytes e s) ∙ pair_found_of k g Q bytes f t) in
    (ap (λ (x : Parsed). x.head) same, ap (λ (x : Parsed). x.part) same)

pub one_pair : (bytes : List ℕ) → SpellsOne bytes
one_pair bytes = λ h g P Q of ofg s t.
    one_pair_of (kind_in bytes) bytes h g P Q (sym (kind_spelled h P bytes of s)) (sym (kind_spelled g Q bytes ofg t))
    s t
