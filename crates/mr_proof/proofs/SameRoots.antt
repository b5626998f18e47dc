-- Two roots with one preimage are of one version, batch, count, level, rectangle, mask and digest.
use Rattle.std.proofs.Common.{◌≡◌, ℕ, ◌<◌, ◌≤◌, ◌^◌, List, ◌∷◌, ◌++◌, length, eqb, refl, sym, ap, ◌∙◌, inl, inr, arith, append_assoc}
use Rattle.std.specs.Int.{w64, to_be_bytes}
use Rattle.std.proofs.lemmas.Bool.{cases_Bool, ne_eqb}
use Rattle.mr_tree.specs.Digest.{rect_bytes, word_bytes, root_entry_bytes, root_preimage, root_tag, empty_tag}
use Rattle.mr_tree.specs.declared.entry.Entry.{Entry}
use Rattle.mr_record.specs.Version.{version_byte}
use Rattle.mr_record.specs.declared.version.Version.{Version}
use Rattle.mr_record.specs.declared.version.Version.TheVariants.{One, Two}
use Rattle.mr_tree.proofs.RootLengths.{length-word_bytes}
use Rattle.mr_proof.proofs.Full.{IsThere}
use Rattle.mr_proof.proofs.Spellings.{fronts, cons_parts, same_word}
use Rattle.mr_proof.proofs.SameNodes.{same_rect, rect_long}

-- the bytes behind the tag and the version
tail_of : Version → ℕ → ℕ → Entry → List ℕ
tail_of v b c e = to_be_bytes w64 b ++ to_be_bytes w64 c ++ e.level ∷ root_entry_bytes v e

filled_root : (v : Version) (b c : ℕ) (e : Entry) → 1 ≤ c
    → root_preimage v b c e ≡ root_tag ∷ version_byte v ∷ tail_of v b c e
unfolding tail_of
filled_root v b c e some = rw (ne_eqb c 0 (λ z. omega arith)) refl

-- two entries of which a root preimage says the same
pub record SameRootEntry (v : Version) (e f : Entry) : Type 0 where
  pub rect : e.rect ≡ f.rect
  pub mask : word_bytes v e.mask ≡ word_bytes v f.mask
  pub digest : e.digest ≡ f.digest

pub record SameRoot (v w : Version) (b c d k : ℕ) (e f : Entry) : Type 0 where
  pub version : v ≡ w
  pub batch : b ≡ d
  pub count : c ≡ k
  pub level : e.level ≡ f.level
  pub same : SameRootEntry v e f

-- of two versions with one byte
same_version : (v w : Version) → version_byte v ≡ version_byte w → v ≡ w
same_version One One e = refl
same_version One Two e = absurd (omega (arith, e))
same_version Two One e = absurd (omega (arith, e))
same_version Two Two e = refl

behind_two : (l m v w : ℕ) (x y : List ℕ) → l ∷ v ∷ x ≡ m ∷ w ∷ y → (v ≡ w) × (x ≡ y)
behind_two l m v w x y e = (cc, cc)

record Parts (a b c d : List ℕ) (m n : ℕ) (x y : List ℕ) : Type 0 where
  batch : a ≡ b
  count : c ≡ d
  level : m ≡ n
  rest : x ≡ y

parts : (a b c d : List ℕ) (m n : ℕ) (x y : List ℕ) → length a ≡ length b → length c ≡ length d
    → a ++ c ++ m ∷ x ≡ b ++ d ++ n ∷ y → Parts a b c d m n x y
parts a b c d m n x y p q e =
    let left : a ++ (c ++ (m ∷ x)) ≡ a ++ c ++ m ∷ x = simp append_assoc in
    let right : b ++ (d ++ (n ∷ y)) ≡ b ++ d ++ n ∷ y = simp append_assoc in
    let f = fronts a b (c ++ (m ∷ x)) (d ++ (n ∷ y)) p (left ∙ e ∙ sym right) in
    let g = fronts c d (m ∷ x) (n ∷ y) q f.rest in
    let l = cons_parts m n x y g.rest in
    record { batch = f.front; count = g.front; level = l.0; rest = l.1 }

-- what stands behind the rectangle
abbrev two_only : Version → Entry → List ℕ
two_only v e = word_bytes v e.mask ++ e.digest

tails : (v : Version) (b c d k : ℕ) (e f : Entry) → b < 2 ^ 64 → c < 2 ^ 64 → d < 2 ^ 64 → k < 2 ^ 64
    → IsThere e.rect → IsThere f.rect → tail_of v b c e ≡ tail_of v d k f → SameRoot v v b c d k e f
unfolding tail_of
tails v b c d k e f bl cl dl kl p q is =
    let x = parts (to_be_bytes w64 b) (to_be_bytes w64 d) (to_be_bytes w64 c) (to_be_bytes w64 k) e.level f.level
    (root_entry_bytes v e) (root_entry_bytes v f) refl refl is in
    let y = fronts (rect_bytes e.rect) (rect_bytes f.rect) (two_only v e) (two_only v f)
    (rect_long e.rect p ∙ sym (rect_long f.rect q)) x.rest in
    let z = fronts (word_bytes v e.mask) (word_bytes v f.mask) e.digest f.digest
    (length-word_bytes v e.mask ∙ sym (length-word_bytes v f.mask)) y.rest in
    record {
      version = refl;
      batch = same_word b d bl dl x.batch;
      count = same_word c k cl kl x.count;
      level = x.level;
      same = record { rect = same_rect e.rect f.rect p q y.front; mask = z.front; digest = z.rest };
    }

-- of maps with records
pub same_root : (v w : Version) (b c d k : ℕ) (e f : Entry) → b < 2 ^ 64 → c < 2 ^ 64 → d < 2 ^ 64 → k < 2 ^ 64
    → 1 ≤ c → 1 ≤ k → IsThere e.rect → IsThere f.rect → root_preimage v b c e ≡ root_preimage w d k f
    → SameRoot v w b c d k e f
same_root v w b c d k e f bl cl dl kl some few p q is =
    let behind = behind_two root_tag root_tag (version_byte v) (version_byte w) (tail_of v b c e) (tail_of w d k f)
    (sym (filled_root v b c e some) ∙ is ∙ filled_root w d k f few) in
    let one = same_version v w behind.0 in
    let x = tails v b c d k e f bl cl dl kl p q (behind.1 ∙ ap (λ (u : Version). tail_of u d k f) (sym one)) in
    record { version = one; batch = x.batch; count = x.count; level = x.level; same = x.same }

letters : (x y : List ℕ) → (0x45 ∷ x) ≡ (0x52 ∷ y) → ⊥
letters x y e = let h = (cons_parts 0x45 0x52 x y e).0 in omega arith

-- the empty map's root preimage is no other map's
pub empty_filled : (v w : Version) (b d k : ℕ) (e f : Entry) → 1 ≤ k
    → root_preimage v b 0 e ≡ root_preimage w d k f → ⊥
empty_filled v w b d k e f some is =
    letters (version_byte v ∷ to_be_bytes w64 b) (version_byte w ∷ tail_of w d k f) (is ∙ filled_root w d k f some)

pub same_empty : (v w : Version) (b d : ℕ) (e f : Entry) → b < 2 ^ 64 → d < 2 ^ 64
    → root_preimage v b 0 e ≡ root_preimage w d 0 f → b ≡ d
same_empty v w b d e f p q is =
    same_word b d p q (behind_two empty_tag empty_tag (version_byte v) (version_byte w) (to_be_bytes w64 b)
    (to_be_bytes w64 d) is).1

-- ---- whether there are records or not

front : (v : Version) (b c : ℕ) (e : Entry)
    → (tag : ℕ) × (rest : List ℕ) × (root_preimage v b c e ≡ tag ∷ version_byte v ∷ rest)
front v b c e = elim (cases_Bool (eqb c 0)) [
  | inl t ↦ (empty_tag, to_be_bytes w64 b, rw t refl)
  | inr f ↦ (
    root_tag,
    to_be_bytes w64 b ++ to_be_bytes w64 c ++ e.level ∷ root_entry_bytes v e,
    rw f refl,
  )
]

pub one_version : (v w : Version) (b c d k : ℕ) (e f : Entry) → root_preimage v b c e ≡ root_preimage w d k f → v ≡ w
one_version v w b c d k e f is =
    let x = front v b c e in
    let y = front w d k f in
    same_version v w (behind_two x.0 y.0 (version_byte v) (version_byte w) x.1 y.1 (sym x.2 ∙ is ∙ y.2)).0
