-- Values read one behind the other: one more, or none where the next one is missing.
use Rattle.std.proofs.Common.{◌≡◌, ◌≢◌, ℕ, zero, suc, ◌+◌, ◌<◌, ◌≤◌, List, [], ◌∷◌, ◌++◌, length, get_or, take, drop, Bool, true, false, cond, inl, inr, Option, Some, None, refl, sym, ap, ◌∙◌, arith, add-one}
use Rattle.std.specs.Prelude.{map, option_map, nat_le, All}
use Rattle.std.specs.Option.{option_and_then}
use Rattle.std.proofs.Math.Seq.{take-suc-set}
use Rattle.std.specs.List.{AllByRecursion}
use Rattle.std.proofs.Math.ListN.{set}
use Rattle.std.proofs.lemmas.Bool.{le-leb, eq-eqb, ne_eqb}
use Rattle.std.proofs.lemmas.Bool.Decides.{leb_tells}
use Rattle.std.proofs.lemmas.List.{map-append}
use Rattle.mr_record.specs.declared.record.Record.{Record}
use Rattle.mr_record.proofs.Encodings.{IsBytes}
use Rattle.mr_record.specs.declared.version.Version.{Version}
use Rattle.mr_tree.specs.Limits.{leaf_limit}
use Rattle.mr_tree.specs.Digest.{leaf_tag, inner_tag}
use Rattle.mr_tree.specs.declared.child.Child.{Child}
use Rattle.mr_tree.specs.declared.tree.Tree.TheOpen.{Empty, Leaf, Inner}
use Rattle.mr_pages.specs.Page.{Link, Node, level_of, IsNode}
use Rattle.mr_pages.specs.PageBytes.{Reader, many, record_field, link_in, link_size, link_field, are_zeros, from_one_to, before_zeros, leaf_in, inner_in, node_bytes}
use Rattle.mr_pages.specs.Faults.{of_level}
use Rattle.mr_pages.specs.Walking.{child_link}
use Rattle.std.proofs.lemmas.List.Elements.{All-from_recursion}
use Rattle.mr_record.specs.Record.{HasLayer, record_bytes}
use Rattle.mr_record.specs.declared.version.Version.TheVariants.{Two}
use Rattle.mr_pages.proofs.PageLaws.{bound_some, mapped_some, chosen, ended, inner_is, level_read, many_is, FitsRecord, record_reader}

more : {A : Type 0} (read : Reader A) (i : ℕ) (bytes : List ℕ) (xs : List A) (rest : List ℕ) (x : A) (behind : List ℕ)
    → many read i bytes ≡ Some (xs, rest) → read rest ≡ Some (x, behind) →
    many read (suc i) bytes ≡ Some (xs ++ x ∷ [], behind)
more {A = A} read zero bytes xs rest x behind e f =
    let p : ([], bytes) ≡ (xs, rest) = cc in
    let none : [] ≡ xs = ap (λ (y : List A × List ℕ). y.0) p in
    let same : bytes ≡ rest = ap (λ (y : List A × List ℕ). y.1) p in
    ap (option_and_then (λ y. option_map (λ ys. (y.0 ∷ ys.0, ys.1)) (many read zero y.1))) (ap read same ∙ f)
    ∙ ap (λ (ys : List A). Some (ys ++ x ∷ [], behind)) none
more {A = A} read (suc i) bytes xs rest x behind e f =
    let p = bound_some (λ y. option_map (λ ys. (y.0 ∷ ys.0, ys.1)) (many read i y.1)) (read bytes) (xs, rest) e in
    let q = mapped_some (λ ys. (p.0.0 ∷ ys.0, ys.1)) (many read i p.0.1) (xs, rest) p.2 in
    let left : q.0.1 ≡ rest = ap (λ (y : List A × List ℕ). y.1) q.2 in
    let all : p.0.0 ∷ q.0.0 ≡ xs = ap (λ (y : List A × List ℕ). y.0) q.2 in
    let next : many read (suc i) p.0.1 ≡ Some (q.0.0 ++ x ∷ [], behind) =
    more read i p.0.1 q.0.0 q.0.1 x behind q.1 (ap read left ∙ f) in
    ap (option_and_then (λ y. option_map (λ ys. (y.0 ∷ ys.0, ys.1)) (many read (suc i) y.1))) p.1
    ∙ ap (option_map (λ ys. (p.0.0 ∷ ys.0, ys.1))) next
    ∙ ap (λ (ys : List A). Some (ys ++ x ∷ [], behind)) all

pub many_more : {A : Type 0} (read : Reader A) (i : ℕ) (bytes : List ℕ) (xs : List A) (rest : List ℕ) (x : A)
    (behind : List ℕ)
    → many read i bytes ≡ Some (xs, rest) → read rest ≡ Some (x, behind) →
    many read (i + 1) bytes ≡ Some (xs ++ x ∷ [], behind)
many_more read i bytes xs rest x behind e f = ap (λ n. many read n bytes) (add-one i)
    ∙ more read i bytes xs rest x behind e f

pub many_stops : {A : Type 0} (read : Reader A) (i n : ℕ) (bytes : List ℕ) (xs : List A) (rest : List ℕ)
    → many read i bytes ≡ Some (xs, rest) → read rest ≡ None → i < n → many read n bytes ≡ None
many_stops read i zero bytes xs rest e f lt = absurd (omega arith)
many_stops {A = A} read zero (suc n) bytes xs rest e f lt =
    let p : ([], bytes) ≡ (xs, rest) = cc in
    let same : bytes ≡ rest = ap (λ (y : List A × List ℕ). y.1) p in
    ap (option_and_then (λ y. option_map (λ ys. (y.0 ∷ ys.0, ys.1)) (many read n y.1))) (ap read same ∙ f)
many_stops {A = A} read (suc i) (suc n) bytes xs rest e f lt =
    let p = bound_some (λ y. option_map (λ ys. (y.0 ∷ ys.0, ys.1)) (many read i y.1)) (read bytes) (xs, rest) e in
    let q = mapped_some (λ ys. (p.0.0 ∷ ys.0, ys.1)) (many read i p.0.1) (xs, rest) p.2 in
    let left : q.0.1 ≡ rest = ap (λ (y : List A × List ℕ). y.1) q.2 in
    ap (option_and_then (λ y. option_map (λ ys. (y.0 ∷ ys.0, ys.1)) (many read n y.1))) p.1
    ∙ ap (option_map (λ ys. (p.0.0 ∷ ys.0, ys.1))) (many_stops read i n p.0.1 q.0.0 q.0.1 q.1 (ap read left ∙ f)
    (omega arith))

-- the same for places that are filled one by one
placed : {X : Type 0} (places : List X) (i : ℕ) (x : X) → i < length places →
    take (i + 1) (set places i x) ≡ take i places ++ x ∷ []
placed places i x within = ap (λ n. take n (set places i x)) (add-one i) ∙ take-suc-set places i x within

pub placed_more : {A : Type 0} (read : Reader A) (i : ℕ) (bytes : List ℕ) (places : List A) (rest : List ℕ) (x : A)
    (behind : List ℕ)
    → i < length places → many read i bytes ≡ Some (take i places, rest) → read rest ≡ Some (x, behind)
    → many read (i + 1) bytes ≡ Some (take (i + 1) (set places i x), behind)
placed_more {A = A} read i bytes places rest x behind within e g =
    many_more read i bytes (take i places) rest x behind e g
    ∙ ap (λ (xs : List A). Some (xs, behind)) (sym (placed places i x within))

pub mapped_more : {X A : Type 0} (f : X → A) (read : Reader A) (i : ℕ) (bytes : List ℕ) (places : List X)
    (rest : List ℕ) (x : X) (behind : List ℕ)
    → i < length places → many read i bytes ≡ Some (map f (take i places), rest) → read rest ≡ Some (f x, behind)
    → many read (i + 1) bytes ≡ Some (map f (take (i + 1) (set places i x)), behind)
mapped_more {A = A} f read i bytes places rest x behind within e g =
    many_more read i bytes (map f (take i places)) rest (f x) behind e g
    ∙ ap (λ (xs : List A). Some (xs, behind)) (sym (ap (map f) (placed places i x within)
    ∙ map-append f (take i places) (x ∷ [])))

-- ---- children

pub link_short : (v : Version) (level : ℕ) (rest : List ℕ) → length rest < link_size v → link_field v level rest ≡ None
link_short v level rest short = elim (leb_tells (link_size v) (length rest)) [
  | inl long ↦ absurd (omega (arith, long.1))
  | inr is ↦ ap (λ (b : Bool). cond b (option_map (λ (l : Link). (l, drop (link_size v) rest))
      (link_in v level (take (link_size v) rest))) None) is.0
]

pub link_there : (v : Version) (level : ℕ) (rest raw behind : List ℕ) (o : Option Link) → link_size v ≤ length rest →
    raw ≡ take (link_size v) rest → behind ≡ drop (link_size v) rest
    → o ≡ link_in v level raw → link_field v level rest ≡ option_map (λ (l : Link). (l, behind)) o
link_there v level rest raw behind o long front back e =
    let n : ℕ = link_size v in
    ap (λ (b : Bool). cond b (option_map (λ (l : Link). (l, drop n rest)) (link_in v level (take n rest))) None)
    (le-leb n (length rest) long)
    ∙ (λ i. option_map (λ (l : Link). (l, sym back i)) (link_in v level (sym front i)))
    ∙ ap (option_map (λ (l : Link). (l, behind))) (sym e)

-- the children are of the level at which they were read
pub levels_read : (v : Version) (k n : ℕ) (bytes : List ℕ) (cs : List Child) (rest : List ℕ) →
    many (link_field v k) n bytes ≡ Some (map child_link cs, rest)
    → AllByRecursion (λ (c : Child). c.level + 1 ≡ k + 1) cs
levels_read v k n bytes [] rest e = tt
levels_read v k zero bytes (c ∷ cs) rest e =
    let p : ([], bytes) ≡ (map child_link (c ∷ cs), rest) = cc in
    let none : 0 ≡ suc (length (map child_link cs)) = ap (λ (y : List Link × List ℕ). length y.0) p in
    absurd (omega arith)
levels_read v k (suc n) bytes (c ∷ cs) rest e =
    let p = bound_some (λ y. option_map (λ ys. (y.0 ∷ ys.0, ys.1)) (many (link_field v k) n y.1)) (link_field v k bytes)
    (map child_link (c ∷ cs), rest) e in
    let q = mapped_some (λ ys. (p.0.0 ∷ ys.0, ys.1)) (many (link_field v k) n p.0.1)
    (map child_link (c ∷ cs), rest) p.2 in
    let left : q.0.1 ≡ rest = ap (λ (y : List Link × List ℕ). y.1) q.2 in
    let all : p.0.0 ∷ q.0.0 ≡ child_link c ∷ map child_link cs = ap (λ (y : List Link × List ℕ). y.0) q.2 in
    let first : p.0.0 ≡ child_link c = cc in
    let others : q.0.0 ≡ map child_link cs = cc in
    let t = chosen (nat_le (link_size v) (length bytes)) (option_map (λ (l : Link). (l, drop (link_size v) bytes))
    (link_in v k (take (link_size v) bytes))) p.0 p.1 in
    let l = mapped_some (λ (l : Link). (l, drop (link_size v) bytes))
    (link_in v k (take (link_size v) bytes)) p.0 t.1 in
    let same : l.0 ≡ p.0.0 = ap (λ (y : Link × List ℕ). y.0) l.2 in
    let level : l.0.entry.level ≡ k = level_read v k (take (link_size v) bytes) l.0 l.1 in
    let at : c.level ≡ k = ap (λ (x : Link). x.entry.level) (sym first ∙ sym same) ∙ level in
    (ap (λ m. m + 1) at, levels_read v k n p.0.1 cs rest (q.1 ∙ (λ i. Some (others i, left i))))

-- the records have layers
pub layers_read : (v : Version) (n : ℕ) (bytes : List ℕ) (rs : List Record) (rest : List ℕ) → IsBytes bytes →
    many (record_field v) n bytes ≡ Some (rs, rest) → All (HasLayer Two) rs
layers_read v n bytes rs rest fits e =
    let m = many_is (FitsRecord v) (record_bytes v) (record_field v) (record_reader v) n bytes (rs, rest) fits e in
    λ k d within. (All-from_recursion (FitsRecord v) rs m.fits k d within).0.layer

-- ---- what is read before zeros

pub whole_shown : {A : Type 0} (make : List A → Node) (o : Option (List A × List ℕ)) (xs : List A) (rest : List ℕ) →
    o ≡ Some (xs, rest) → are_zeros rest ≡ true
    → option_map make (option_and_then before_zeros o) ≡ Some (make xs)
whole_shown make o xs rest e h = ap (option_map make) (ended o xs rest e h)

pub not_zeros : {A : Type 0} (make : List A → Node) (o : Option (List A × List ℕ)) (xs : List A) (rest : List ℕ) →
    o ≡ Some (xs, rest) → are_zeros rest ≡ false
    → option_map make (option_and_then before_zeros o) ≡ None
not_zeros {A = A} make o xs rest e h =
    ap (λ (p : Option (List A × List ℕ)). option_map make (option_and_then before_zeros p)) e
    ∙ ap (λ (b : Bool). option_map make (cond b (Some xs) None)) h

pub none_read : {A : Type 0} (make : List A → Node) (o : Option (List A × List ℕ)) → o ≡ None →
    option_map make (option_and_then before_zeros o) ≡ None
none_read {A = A} make o e = ap (λ (p : Option (List A × List ℕ)). option_map make (option_and_then before_zeros p)) e

-- ---- levels

pub of_same : (level : ℕ) (o : Option Node) → ((n : Node) → o ≡ Some n → level_of n ≡ level) → of_level level o ≡ o
of_same level None same = refl
of_same level (Some n) same = ap (λ (b : Bool). cond b (Some n) None) (eq-eqb (level_of n) level (same n refl))

pub of_none : (level : ℕ) (o : Option Node) → ((n : Node) → o ≡ Some n → level_of n ≢ level) → of_level level o ≡ None
of_none level None other = refl
of_none level (Some n) other = ap (λ (b : Bool). cond b (Some n) None) (ne_eqb (level_of n) level (other n refl))

spelled_level : (v : Version) (bytes : List ℕ) (n : Node) (left : List ℕ) → IsNode v n →
    inner_tag ∷ bytes ≡ node_bytes v n ++ left →
    level_of n ≡ get_or bytes 0 0
spelled_level v bytes Empty left fits e = absurd fits
spelled_level v bytes (Leaf rs) left fits e = let tags : inner_tag ≡ leaf_tag =
    ap (λ (l : List ℕ). get_or l 0 0) e in absurd (omega arith)
spelled_level v bytes (Inner links) left fits e = sym (ap (λ (l : List ℕ). get_or l 1 0) e)

-- a node's level stands behind its tag
pub inner_level : (v : Version) (bytes : List ℕ) (n : Node) → IsBytes bytes → inner_in v bytes ≡ Some n →
    level_of n ≡ get_or bytes 0 0
inner_level v bytes n fits e = let s = inner_is v bytes n fits e in spelled_level v bytes n s.left s.fits s.is

leaf_made : (o : Option (List Record)) (n : Node) → option_map Leaf o ≡ Some n → level_of n ≡ 0
leaf_made None n e = absurd cc
leaf_made (Some rs) n e = let same : Leaf rs ≡ n = cc in ap level_of (sym same)

pub leaf_level : (v : Version) (bytes : List ℕ) (n : Node) → leaf_in v bytes ≡ Some n → level_of n ≡ 0
leaf_level v [] n e = absurd cc
leaf_level v (count ∷ rest) n e =
    let p = chosen (from_one_to leaf_limit count) (option_map Leaf
    (option_and_then before_zeros (many (record_field v) count rest))) n e in
    leaf_made (option_and_then before_zeros (many (record_field v) count rest)) n p.1
