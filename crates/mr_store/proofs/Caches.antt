-- What stays in a cache.
use Rattle.std.proofs.Common.{◌≡◌, ◌≢◌, ℕ, ◌-◌, ◌<◌, Bool, true, false, List, [], ◌∷◌, length, take, inl, inr, refl, sym, ap, subst, ◌∙◌, arith}
use Rattle.std.specs.Prelude.{◌⊎◌, nat_eq, option_map, cond, Contains, Option, Some, None, IsSome, IsSomeAnd}
use Rattle.std.specs.Cmp.{nat_eq_equiv}
use Rattle.std.specs.List.{IsDistinct}
use Rattle.std.specs.Map.{lookup, lookup_entry, remove_entry, keys_of}
use Rattle.std.specs.Option.{option_map_or}
use Rattle.std.proofs.lemmas.Bool.{eqb-true, eq-eqb, ne_eqb}
use Rattle.std.proofs.lemmas.Map.{lookup-remove_entry}
use Rattle.std.proofs.lemmas.List.{take_all}
use Rattle.lru.specs.LruCache.{LruCache, promoted, put_entries}
use Rattle.lru.proofs.Pairs.{lookup-lookup_entry}
use Rattle.lru.proofs.CallerLemmas.{Contains-remove_entry, Contains-lookup_entry, Contains-promoted, Contains-put_entries, Contains-lookup, lookup-put_entries}
use Rattle.lru.proofs.Splits.{Contains-cons, Contains-nil}
use Rattle.mr_tree.specs.View.{Node}
use Rattle.mr_tree.specs.declared.child.Child.{Child}
use Rattle.mr_store.specs.declared.cached_node.CachedNode.{CachedNode}
use Rattle.mr_store.specs.Kept.{CacheEntries, node_of, IsThat, IsHeld, IsShown, IsFound, FindsNode, Forgets, KeepsEntries, GainsNode}

-- ---- an entry is moved or put in its place

module _ {K V : Type 0} (s t : K → Bool) where
  step : (f e : K × V) (fs : List (K × V)) (a b : Bool) → s f.0 ≡ a → t f.0 ≡ b →
      (lookup_entry s fs ≡ Some e → IsSome (lookup t fs) → (t e.0 ≡ true) ⊎ IsSome (lookup t (remove_entry s fs))) →
      lookup_entry s (f ∷ fs) ≡ Some e → IsSome (lookup t (f ∷ fs)) →
      (t e.0 ≡ true) ⊎ IsSome (lookup t (remove_entry s (f ∷ fs)))
  step f e fs true true p q on h some =
      let h' = rw p at h in let same : f ≡ e = cc in inl (subst (λ g. t g.0 ≡ true) same q)
  step f e fs true false p q on h some = inr (rw p (rw q at some))
  step f e fs false true p q on h some = inr (rw p (rw q refl))
  step f e fs false false p q on h some = elim (on (rw p at h) (rw q at some)) [
    | inl yes' ↦ inl yes'
    | inr rest ↦ inr (rw p (rw q rest))
  ]

  left : (es : List (K × V)) (e : K × V) → lookup_entry s es ≡ Some e → IsSome (lookup t es) →
      (t e.0 ≡ true) ⊎ IsSome (lookup t (remove_entry s es))
  left [] e h some = let none : IsSome {T = V} None = some in cc
  left (f ∷ fs) e h some = step f e fs (s f.0) (t f.0) refl refl (left fs e) h some

  at_front : (e : K × V) (v : V) (es : List (K × V)) → (t e.0 ≡ true) ⊎ IsSome (lookup t es) →
      IsSome (lookup t ((e.0, v) ∷ es))
  at_front e v es (inl yes') = rw yes' refl
  at_front e v es (inr some) = here (t e.0) refl
    where
      here : (a : Bool) → t e.0 ≡ a → IsSome (cond a (Some v) (lookup t es))
      here true p = refl
      here false p = some

  front : (es : List (K × V)) (o : Option (K × V)) → lookup_entry s es ≡ o → IsSome (lookup t es) →
      IsSome (lookup t (option_map_or (λ e. e ∷ remove_entry s es) o es))
  front es None h some = some
  front es (Some e) h some = at_front e e.1 (remove_entry s es) (left es e h some)

  -- what is there is there after a move to the front
  pub promoted_keeps : (es : List (K × V)) → IsSome (lookup t es) → IsSome (lookup t (promoted s es))
  promoted_keeps es some = front es (lookup_entry s es) refl some

pub stays_promoted : (es : CacheEntries) (page : ℕ) → KeepsEntries es (promoted (nat_eq page) es)
stays_promoted es page = record {
  none_new = Contains-promoted (nat_eq page) es;
  none_lost = λ q some. promoted_keeps (nat_eq page) (nat_eq q) es some;
}

-- ---- an entry is put

module _ (c : LruCache ℕ CachedNode) (k : ℕ) (v : CachedNode) where
  put : (t : ℕ → Bool) (o : Option (ℕ × CachedNode)) → lookup_entry (nat_eq k) c.entries ≡ o →
      IsSome (lookup (nat_eq k) c.entries) ⊎ (length c.entries < c.cap) → IsSome (lookup t c.entries) →
      IsSome (lookup t (option_map_or (λ e. (e.0, v) ∷ remove_entry (nat_eq k) c.entries) o
      ((k, v) ∷ take (c.cap - 1) c.entries)))
  put t None h (inl there) some =
      let none : lookup (nat_eq k) c.entries ≡ None = sym (lookup-lookup_entry (nat_eq k) c.entries)
      ∙ ap (option_map (λ (e : ℕ × CachedNode). e.1)) h in
      let is : IsSome {T = CachedNode} None = subst (IsSome {T = CachedNode}) none there in cc
  put t None h (inr room) some =
      at_front (nat_eq k) t (k, v) v (take (c.cap - 1) c.entries)
      (inr (subst (λ es. IsSome (lookup t es)) (sym (take_all (c.cap - 1) c.entries (omega (arith, room)))) some))
  put t (Some e) h room some =
      at_front (nat_eq k) t e v (remove_entry (nat_eq k) c.entries) (left (nat_eq k) t c.entries e h some)

  pub put_keeps : (t : ℕ → Bool) → IsSome (lookup (nat_eq k) c.entries) ⊎ (length c.entries < c.cap) →
      IsSome (lookup t c.entries) →
      IsSome (lookup t (put_entries nat_eq c k v))
  put_keeps t room some = put t (lookup_entry (nat_eq k) c.entries) refl room some

-- the node of a child was put
pub gains_put : (c : LruCache ℕ CachedNode) (child : Child) (n : Node) (k : CachedNode) → IsThat child k → node_of
    k.node ≡ n →
    GainsNode c.cap c.entries (put_entries nat_eq c child.id k) child n
gains_put c child n k that is = record {
  each = λ e d. elim (Contains-put_entries nat_eq c child.id k e d) [
    | inl old ↦ inl old
    | inr new' ↦ inr (record {
      page = elim new'.1 [ inl same ↦ same | inr other ↦ sym (eqb-true child.id e.0 other.2) ];
      that = subst (IsThat child) (sym new'.0) that;
      node = ap (λ (x : CachedNode). node_of x.node) new'.0 ∙ is;
    })
  ];
  put = subst (IsSome {T = CachedNode}) (sym (lookup-put_entries nat_eq c child.id k nat_eq_equiv)) refl;
  held = subst (λ o. IsSomeAnd o (IsThat child)) (sym (lookup-put_entries nat_eq c child.id k nat_eq_equiv)) that;
  none_lost = λ room page some. put_keeps c child.id k (nat_eq page) room some;
}

-- ---- what is found

module _ (es : CacheEntries) (page : ℕ) (k : CachedNode) (there : Some k ≡ lookup (nat_eq page) es) where
  pub found_among : Contains es (page, k)
  found_among =
      let q = Contains-lookup (nat_eq page) es k (sym there) in
      subst (λ p. Contains es (p, k)) (sym (eqb-true page q.0 q.2)) q.1

  pub found_shown : ((e : ℕ × CachedNode) → Contains es e → IsShown e.1) → IsShown k
  found_shown all = all (page, k) found_among

pub not_there : (es : CacheEntries) (c : Child) → None ≡ lookup (nat_eq c.id) es → IsHeld es c → ⊥
not_there es c none h = subst (λ o. IsSomeAnd o (IsThat c)) (sym none) h

pub not_that : (es : CacheEntries) (c : Child) (k : CachedNode) → Some k ≡ lookup (nat_eq c.id) es → (IsThat c k → ⊥) →
    IsHeld es c → ⊥
not_that es c k there other h = other (subst (λ o. IsSomeAnd o (IsThat c)) (sym there) h)

pub found_there : (es : CacheEntries) (c : Child) (b : Bool) (n : Node) → b ≡ true → FindsNode es c b n → IsFound es c n
found_there es c true n e f = f
found_there es c false n e f = cc

pub not_found : (es es' : CacheEntries) (c : Child) (b : Bool) (n : Node) → b ≡ false → FindsNode es c b n →
    (b ≡ false → es' ≡ es) → IsHeld es' c → ⊥
not_found es es' c true n e f same h = cc
not_found es es' c false n e f same h = f (subst (λ xs. IsHeld xs c) (same refl) h)

-- ---- what was found is there after a move to the front

module _ {K V : Type 0} (test : K → Bool) (es : List (K × V)) where
  first : (o : Option (K × V)) → lookup_entry test es ≡ o →
      lookup test (option_map_or (λ e. e ∷ remove_entry test es) o es) ≡ lookup test es
  first None h = refl
  first (Some e) h =
      rw ((Contains-lookup_entry test es e h).1)
      (sym (sym (lookup-lookup_entry test es) ∙ ap (option_map (λ (f : K × V). f.1)) h))

  promoted_finds : lookup test (promoted test es) ≡ lookup test es
  promoted_finds = first (lookup_entry test es) refl

pub held_promoted : (es : CacheEntries) (c : Child) (n : Node) → IsFound es c n → IsHeld (promoted (nat_eq c.id) es) c
held_promoted es c n f =
    subst (λ o. IsSomeAnd o (IsThat c)) (sym (promoted_finds (nat_eq c.id) es ∙ f.there)) f.that

-- ---- nothing is kept of a page any more

not_here : (page : ℕ) (f e : ℕ × CachedNode) (es : CacheEntries) (b : Bool) → nat_eq page f.0 ≡ b →
    cond b (Some f.1) (lookup (nat_eq page) es) ≡ None →
    (lookup (nat_eq page) es ≡ None → Contains es e → e.0 ≢ page) → Contains (f ∷ es) e → e.0 ≢ page
not_here page f e es true test none rest there = absurd cc
not_here page f e es false test none rest there = elim (Contains-cons f es e there) [
  | inl same ↦ λ is. no (sym (eq-eqb page f.0 (sym is ∙ sym (ap (λ (x : ℕ × CachedNode). x.0) same))) ∙ test)
  | inr behind ↦ rest none behind
]
  where
    no : true ≡ false → ⊥
    no h = cc

not_among : (page : ℕ) (es : CacheEntries) → lookup (nat_eq page) es ≡ None → (e : ℕ × CachedNode) → Contains es e → e.0
    ≢ page
not_among page [] none e there = absurd (Contains-nil e there)
not_among page (f ∷ es) none e there =
    not_here page f e es (nat_eq page f.0) refl none (λ n c. not_among page es n e c) there

pub forgets : (page : ℕ) (es : CacheEntries) → IsDistinct nat_eq (keys_of es) →
    Forgets page es (remove_entry (nat_eq page) es)
forgets page es apart = record {
  none_new = Contains-remove_entry (nat_eq page) es;
  gone = not_among page (remove_entry (nat_eq page) es)
      (lookup-remove_entry nat_eq_equiv (nat_eq page) (λ x y p. one x y p) page es apart
      ∙ ap (λ b. cond b None (lookup (nat_eq page) es)) (nat_eq_equiv.refl page));
  others = λ other apart_.
      lookup-remove_entry nat_eq_equiv (nat_eq page) (λ x y p. one x y p) other es apart
      ∙ ap (λ b. cond b None (lookup (nat_eq other) es))
      (ne_eqb page other (λ same. apart_ (sym same)));
}
  where
    one : (x y : ℕ) → nat_eq page x ≡ true → nat_eq page y ≡ nat_eq x y
    one x y p = ap (λ n. nat_eq n y) (eqb-true page x p)
