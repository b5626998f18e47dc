-- A walk meets no fault just where each node is sound by itself, and no page and no number comes twice.
use Rattle.std.proofs.Common.{◌≡◌, ◌≢◌, ℕ, ◌<◌, ◌≤◌, Bool, true, false, List, [], ◌∷◌, ◌++◌, refl, sym, ap, subst, ◌∙◌, arith}
use Rattle.mr_tree.specs.Digest.{Scheme}
use Rattle.mr_tree.specs.declared.entry.Entry.{Entry}
use Rattle.std.specs.Prelude.{◌==◌, ◌||◌, not, Option, Some, None, bytes_eq, nat_le}
use Rattle.std.specs.List.{AllByRecursion}
use Rattle.std.specs.Ordering.{int_eq}
use Rattle.std.proofs.lemmas.Bool.{eqb-true, eqb-false, eq-eqb, ne_eqb, leb-false, ltb-false, le-ltb, lt-leb, or_parts, or_from, and_parts, and_from, not-false, not_from_true}
use Rattle.std.proofs.lemmas.Bool.Decides.{Decides-int_eq}
use Rattle.std.proofs.lemmas.Slice.Eq.{bytes_eq-Decides}
use Rattle.std.proofs.lemmas.List.{map-append, append-nil}
use Rattle.std.proofs.lemmas.List.Concat.{flat_map-append}
use Rattle.mr_geom.specs.Rectangle.{Rectangle}
use Rattle.mr_record.specs.declared.record.Record.{Record}
use Rattle.mr_pages.specs.Page.{Link, Node, node_entry}
use Rattle.mr_pages.specs.declared.rule.MapRule.TheVariants as rule
use Rattle.mr_pages.specs.Faults.{fault_if, has, same_rectangle, same_rect, same_sums, Visit, records_in, reached, all_records, numbers_of, size, least_fill, node_faults, visit_faults, walk_faults}
use Rattle.mr_pages.proofs.Lists.{nil_left, nil_right, nil_both, not_broken, no_fault, Fresh, fresh_append, fresh_left, fresh_right, repeats_fresh, fresh_repeats}

-- ---- rectangles that are there or not

same_rectangle_is : (a b : Rectangle) → same_rectangle a b ≡ true → a ≡ b
same_rectangle_is a b e =
    let p = and_parts (int_eq a.x0 b.x0) _ e in
    let q = and_parts (int_eq a.y0 b.y0) _ p.1 in
    let r = and_parts (int_eq a.x1 b.x1) _ q.1 in
    λ i. record {
      x0 = (Decides-int_eq a.x0 b.x0).0 p.0 i;
      y0 = (Decides-int_eq a.y0 b.y0).0 q.0 i;
      x1 = (Decides-int_eq a.x1 b.x1).0 r.0 i;
      y1 = (Decides-int_eq a.y1 b.y1).0 r.1 i;
    }

same_rectangle_self : (a : Rectangle) → same_rectangle a a ≡ true
same_rectangle_self a =
    and_from _ _ ((Decides-int_eq a.x0 a.x0).1 refl) (and_from _ _ ((Decides-int_eq a.y0 a.y0).1 refl)
    (and_from _ _ ((Decides-int_eq a.x1 a.x1).1 refl) ((Decides-int_eq a.y1 a.y1).1 refl)))

pub same_rect_is : (a b : Option Rectangle) → same_rect a b ≡ true → a ≡ b
same_rect_is None None e = refl
same_rect_is None (Some b) e = cc
same_rect_is (Some a) None e = cc
same_rect_is (Some a) (Some b) e = ap Some (same_rectangle_is a b e)

pub same_rect_self : (a : Option Rectangle) → same_rect a a ≡ true
same_rect_self None = refl
same_rect_self (Some a) = same_rectangle_self a

-- ---- a visit by itself

-- the mask and, but for the root, the count
pub record HasSums (root : Bool) (found said : Entry) : Type 0 where
  pub mask : found.mask ≡ said.mask
  pub count : root ≡ false → found.count ≡ said.count

counts_are : (root : Bool) (a b : ℕ) → (root || a == b) ≡ true → root ≡ false → a ≡ b
counts_are true a b e none = absurd cc
counts_are false a b e none = eqb-true a b e

are_counts : (root : Bool) (a b : ℕ) → (root ≡ false → a ≡ b) → (root || a == b) ≡ true
are_counts true a b same = refl
are_counts false a b same = eq-eqb a b (same refl)

pub same_sums_is : (root : Bool) (found said : Entry) → same_sums root found said ≡ true → HasSums root found said
same_sums_is root found said e =
    let p = and_parts (found.mask == said.mask) (root || found.count == said.count) e in
    record {
      mask = eqb-true found.mask said.mask p.0;
      count = counts_are root found.count said.count p.1;
    }

pub is_same_sums : (root : Bool) (found said : Entry) → HasSums root found said → same_sums root found said ≡ true
is_same_sums root found said s =
    and_from (found.mask == said.mask) (root || found.count == said.count) (eq-eqb found.mask said.mask s.mask)
    (are_counts root found.count said.count s.count)

-- a visit breaks no rule that it can break by itself
pub record IsSound (hash : Scheme) (pages : ℕ) (v : Visit) : Type 0 where
  pub node : Node
  pub is : v.node ≡ Some node
  pub low : 0 < v.link.page
  pub inside : v.link.page < pages
  pub digest : (node_entry hash node).digest ≡ v.link.entry.digest
  pub rect : (node_entry hash node).rect ≡ v.link.entry.rect
  pub sums : HasSums v.root (node_entry hash node) v.link.entry
  pub full : least_fill v.root node ≤ size node

pub record NodeIsSound (hash : Scheme) (root : Bool) (link : Link) (node : Node) : Type 0 where
  pub digest : (node_entry hash node).digest ≡ link.entry.digest
  pub rect : (node_entry hash node).rect ≡ link.entry.rect
  pub sums : HasSums root (node_entry hash node) link.entry
  pub full : least_fill root node ≤ size node

pub node_sound : (hash : Scheme) (root : Bool) (link : Link) (node : Node) →
    node_faults hash root link (Some node) ≡ [] → NodeIsSound hash root link node
node_sound hash root link node e =
    let e1 = nil_right (fault_if (not (bytes_eq (node_entry hash node).digest link.entry.digest)) link.page
    (rule.Digest link.entry.digest (node_entry hash node).digest)) _ e in
    let e2 = nil_right (fault_if (not (same_rect (node_entry hash node).rect link.entry.rect)) link.page
    rule.Rect) _ e1 in
    record {
      digest = (bytes_eq-Decides _ _).0 (not-false _ (not_broken _ _ _ (nil_left _ _ e)));
      rect = same_rect_is _ _ (not-false _ (not_broken _ _ _ (nil_left _ _ e1)));
      sums = same_sums_is root (node_entry hash node) link.entry (not-false _ (not_broken _ _ _ (nil_left _ _ e2)));
      full = ltb-false _ _ (not_broken _ _ _ (nil_right
          (fault_if (not (same_sums root (node_entry hash node) link.entry)) link.page rule.Sum) _ e2));
    }

sound_node : (hash : Scheme) (root : Bool) (link : Link) (node : Node) → NodeIsSound hash root link node →
    node_faults hash root link (Some node) ≡ []
sound_node hash root link node s =
    nil_both _ _ (no_fault _ _ _ (not_from_true _ ((bytes_eq-Decides _ _).1 s.digest)))
    (nil_both _ _ (no_fault _ _ _ (not_from_true _ (subst (λ r. same_rect (node_entry hash node).rect r ≡ true) s.rect
    (same_rect_self (node_entry hash node).rect))))
    (nil_both _ _ (no_fault _ _ _ (not_from_true _ (is_same_sums root (node_entry hash node) link.entry s.sums)))
    (no_fault _ _ _ (le-ltb _ _ s.full))))

pub record VisitIsSound (hash : Scheme) (pages : ℕ) (before : List Visit) (v : Visit) : Type 0 where
  pub sound : IsSound hash pages v
  pub page : has v.link.page (reached before) ≡ false
  pub numbers : Fresh (numbers_of (all_records before)) (numbers_of (records_in v.node))

-- what the node of the visit is, by cases
sound_alone : (hash : Scheme) (pages : ℕ) (v : Visit) (o : Option Node) → v.node ≡ o →
    (v.link.page == 0 || nat_le pages v.link.page) ≡ false → node_faults hash v.root v.link o ≡ [] →
    IsSound hash pages v
sound_alone hash pages v None is out e = absurd (no_page e)
  where
    no_page : fault_if true v.link.page rule.Page ≡ [] → ⊥
    no_page h = cc
sound_alone hash pages v (Some node) is out e =
    let s = node_sound hash v.root v.link node e in
    let parts = or_parts (v.link.page == 0) (nat_le pages v.link.page) out in
    let apart : v.link.page ≢ 0 = eqb-false v.link.page 0 parts.0 in
    record {
      node = node;
      is = is;
      low = omega (arith, apart);
      inside = leb-false pages v.link.page parts.1;
      digest = s.digest;
      rect = s.rect;
      sums = s.sums;
      full = s.full;
    }

pub visit_sound : (hash : Scheme) (pages : ℕ) (before : List Visit) (v : Visit) →
    visit_faults hash pages before v ≡ [] → VisitIsSound hash pages before v
visit_sound hash pages before v e =
    let e1 = nil_right (fault_if (v.link.page == 0 || nat_le pages v.link.page) v.link.page rule.Outside) _ e in
    let e2 = nil_right (fault_if (has v.link.page (reached before)) v.link.page rule.Twice) _ e1 in
    record {
      sound = sound_alone hash pages v v.node refl (not_broken _ _ _ (nil_left _ _ e)) (nil_left _ _ e2);
      page = not_broken _ _ _ (nil_left _ _ e1);
      numbers = repeats_fresh _ _ (not_broken _ _ _ (nil_right (node_faults hash v.root v.link v.node) _ e2));
    }

pub sound_visit : (hash : Scheme) (pages : ℕ) (before : List Visit) (v : Visit) →
    VisitIsSound hash pages before v → visit_faults hash pages before v ≡ []
sound_visit hash pages before v s =
    let some : 0 < v.link.page = s.sound.low in
    let apart : v.link.page ≢ 0 = λ same. omega (arith, some, same) in
    nil_both _ _ (no_fault _ _ _ (or_from (v.link.page == 0) _ (ne_eqb v.link.page 0 apart)
    (lt-leb pages v.link.page s.sound.inside)))
    (nil_both _ _ (no_fault _ _ _ s.page)
    (nil_both _ _
    (subst (λ n. node_faults hash v.root v.link n ≡ []) (sym s.sound.is)
    (sound_node hash v.root v.link s.sound.node (record
    { digest = s.sound.digest; rect = s.sound.rect; sums = s.sound.sums; full = s.sound.full })))
    (no_fault _ _ _ (fresh_repeats _ _ s.numbers))))

-- ---- a walk

pub reached_more : (before : List Visit) (v : Visit) → reached (before ++ v ∷ []) ≡ reached before ++ v.link.page ∷ []
reached_more before v = map-append (λ (u : Visit). u.link.page) before (v ∷ [])

numbers_both : (xs ys : List Record) → numbers_of (xs ++ ys) ≡ numbers_of xs ++ numbers_of ys
numbers_both xs ys = map-append (λ (r : Record). r.number) xs ys

pub numbers_more : (before : List Visit) (v : Visit) → numbers_of (all_records (before ++ v ∷ []))
    ≡ numbers_of (all_records before) ++ numbers_of (records_in v.node)
numbers_more before v =
    ap numbers_of (flat_map-append (λ (u : Visit). records_in u.node) before (v ∷ []))
    ∙ numbers_both (all_records before) (records_in v.node ++ [])
    ∙ ap (λ rs. numbers_of (all_records before) ++ numbers_of rs) (append-nil (records_in v.node))

pub record WalkIsSound (hash : Scheme) (pages : ℕ) (before vs : List Visit) : Type 0 where
  pub each : AllByRecursion (IsSound hash pages) vs
  pub apart : Fresh (reached before) (reached vs)
  pub numbers : Fresh (numbers_of (all_records before)) (numbers_of (all_records vs))

pub walk_sound : (hash : Scheme) (pages : ℕ) (before vs : List Visit) → walk_faults hash pages before vs ≡ [] →
    WalkIsSound hash pages before vs
walk_sound hash pages before [] e = record { each = tt; apart = tt; numbers = tt }
walk_sound hash pages before (v ∷ vs) e =
    let here = visit_sound hash pages before v (nil_left (visit_faults hash pages before v)
    (walk_faults hash pages (before ++ v ∷ []) vs) e) in
    let rest = walk_sound hash pages (before ++ v ∷ []) vs
    (nil_right (visit_faults hash pages before v) (walk_faults hash pages (before ++ v ∷ []) vs) e) in
    record {
      each = (here.sound, rest.each);
      apart = (here.page, subst (λ ps. Fresh ps (reached vs)) (reached_more before v) rest.apart);
      numbers = subst (Fresh (numbers_of (all_records before)))
          (sym (numbers_both (records_in v.node) (all_records vs)))
          (fresh_append _ _ _ here.numbers (subst (λ ns. Fresh ns (numbers_of (all_records vs)))
          (numbers_more before v) rest.numbers));
    }

pub sound_walk : (hash : Scheme) (pages : ℕ) (before vs : List Visit) → WalkIsSound hash pages before vs →
    walk_faults hash pages before vs ≡ []
sound_walk hash pages before [] s = refl
sound_walk hash pages before (v ∷ vs) s =
    let numbers = subst (Fresh (numbers_of (all_records before)))
    (numbers_both (records_in v.node) (all_records vs)) s.numbers in
    nil_both (visit_faults hash pages before v) (walk_faults hash pages (before ++ v ∷ []) vs)
    (sound_visit hash pages before v (record {
      sound = s.each.0;
      page = s.apart.0;
      numbers = fresh_left _ _ _ numbers;
    }))
    (sound_walk hash pages (before ++ v ∷ []) vs (record {
      each = s.each.1;
      apart = subst (λ ps. Fresh ps (reached vs)) (sym (reached_more before v)) s.apart.1;
      numbers = subst (λ ns. Fresh ns (numbers_of (all_records vs))) (sym (numbers_more before v))
          (fresh_right _ _ _ numbers);
    }))
