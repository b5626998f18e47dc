-- A proof for a choice breaks no rule on a flag or on a squared radius.
use Rattle.std.proofs.Common.{◌≡◌, ℕ, zero, suc, ◌+◌, Bool, true, false, List, [], ◌∷◌, length, Option, Some, None, Result, Ok, Err, refl, subst}
use Rattle.std.specs.Prelude.{⊤, not, ◌==◌, if◌then◌else◌, nat_lt, bytes_eq}
use Rattle.mr_record.specs.declared.record.Record.{Record}
use Rattle.mr_record.specs.declared.version.Version.{Version}
use Rattle.mr_record.specs.declared.version.Version.TheVariants.{One, Two}
use Rattle.mr_query.specs.declared.key.Key.{Key}
use Rattle.mr_proof.specs.declared.head.Head.{Head}
use Rattle.mr_proof.specs.declared.head.Kind.TheVariants as kind
use Rattle.mr_proof.specs.declared.rule.Rule.{Rule}
use Rattle.mr_proof.specs.declared.rule.Rule.TheVariants as rule
use Rattle.mr_proof.specs.declared.rule.Fault.{Fault}
use Rattle.mr_proof.specs.declared.want.Want.{Want}
use Rattle.mr_proof.specs.declared.want.Want.TheVariants as want
use Rattle.mr_proof.specs.declared.field.Field.{Field}
use Rattle.mr_proof.specs.declared.way.Way.{Way}
use Rattle.mr_proof.specs.Accepted.{root_found}
use Rattle.mr_proof.specs.Cut.{Cut, Cuts, Leaf, Inner, no_more, first}
use Rattle.mr_proof.specs.Fields.{only_if, size_of, field_of, pruned_tag}
use Rattle.mr_proof.specs.Grammar.{must, opens, Grammar, done, reads, notes, number_in, version_in, tag_in, rect_in, bytes_in, payload, layer, one_record, some_records, leaf, some_items, opened, inner, pruned, item, level, part, whole}
use Rattle.mr_proof.specs.Layout.{fault, Cursor, start, field_or_fault, field_at}
use Rattle.mr_proof.specs.Limits.{place_limit}
use Rattle.mr_proof.specs.Reading.{◌>>=◌, walk, ending, checked}
use Rattle.mr_proof.specs.Refused.{has_other_count}
use Rattle.mr_proof.specs.Spelling.{Parsed, said}
use Rattle.mr_proof.specs.Tight.{keeps_record}
use Rattle.mr_count.specs.Chosen.{chosen, taken_of, verdict_for, MayBreak}

abbrev Breaks : Fault → Type 0
Breaks f = MayBreak f.rule

-- ---- one field

abbrev HasNoFlag : Want → Type 0
HasNoFlag want.Flag = ⊥
HasNoFlag want.Radius = ⊥
HasNoFlag _ = ⊤

only_breaks : (passes : Bool) (value : Field) (q r : Rule) → MayBreak q → only_if passes value q ≡ Err r → MayBreak r
only_breaks true value q r may e = absurd cc
only_breaks false value q r may e = let same : q ≡ r = cc in subst MayBreak same may

field_breaks : (w : Want) (bytes : List ℕ) (r : Rule) → HasNoFlag w → field_of w bytes ≡ Err r → MayBreak r
unfolding field_of
field_breaks want.Magic bytes r none e = only_breaks _ _ rule.BadMagic r tt e
field_breaks (want.Version two_only) bytes r none e = only_breaks _ _ rule.BadVersion r tt e
field_breaks (want.Kind k) bytes r none e = only_breaks _ _ rule.WrongKind r tt e
field_breaks want.Batch bytes r none e = absurd cc
field_breaks want.Count bytes r none e = only_breaks _ _ rule.BadCount r tt e
field_breaks want.Flag bytes r none e = absurd none
field_breaks want.Radius bytes r none e = absurd none
field_breaks want.Level bytes r none e = only_breaks _ _ rule.BadLevel r tt e
field_breaks (want.Tag v) bytes r none e = only_breaks _ _ rule.BadTag r tt e
field_breaks want.LeafCount bytes r none e = only_breaks _ _ rule.BadEntries r tt e
field_breaks want.InnerCount bytes r none e = only_breaks _ _ rule.BadEntries r tt e
field_breaks want.Number bytes r none e = absurd cc
field_breaks want.Rect bytes r none e = only_breaks _ _ rule.BadRect r tt e
field_breaks want.Layer bytes r none e = only_breaks _ _ rule.BadLayer r tt e
field_breaks want.Length bytes r none e = only_breaks _ _ rule.BadLength r tt e
field_breaks (want.Payload n) bytes r none e = absurd cc
field_breaks want.Mask bytes r none e = absurd cc
field_breaks want.Tally bytes r none e = only_breaks _ _ rule.BadCount r tt e
field_breaks want.Digest bytes r none e = absurd cc

abbrev failed : {B : Type 0} → Fault → Result B Fault
failed f = Err f

-- a fault is the one that is met
stops : {B : Type 0} (d f : Fault) → Breaks d → failed {B = B} d ≡ failed f → Breaks f
stops d f may e = let same : d ≡ f = cc in subst Breaks same may

at_by : (long short : Bool) (w : Want) (s : Cursor) (o : Result Field Rule) (f : Fault)
    → ((r : Rule) → o ≡ Err r → MayBreak r)
    → (if long then Err (fault rule.Long s.at) else if short then Err (fault rule.Short s.at)
    else field_or_fault w s o) ≡ Err f → Breaks f
at_by true short w s o f may e = stops (fault rule.Long s.at) f tt e
at_by false true w s o f may e = stops (fault rule.Short s.at) f tt e
at_by false false w s (Ok value) f may e = absurd cc
at_by false false w s (Err r) f may e = stops (fault r s.at) f (may r refl) e

at_breaks : (w : Want) (s : Cursor) (f : Fault) → HasNoFlag w → field_at w s ≡ Err f → Breaks f
unfolding field_at
at_breaks w s f none e = at_by (nat_lt place_limit (s.at + size_of w)) (nat_lt (length s.rest) (size_of w)) w s
    (field_of w _) f (λ r. field_breaks w _ r none) e

-- ---- a walk

-- no flag or radius is read, and no note is on them
abbrev IsFlagless : {A : Type 0} → Grammar A → Type 0
IsFlagless (done x) = ⊤
IsFlagless (reads w next) = HasNoFlag w × ((f : Field) → IsFlagless (next f))
IsFlagless (notes (must r passes) next) = MayBreak r × IsFlagless next
IsFlagless (notes (opens r met) next) = IsFlagless next

step_breaks : {A B : Type 0} (o : Result A Fault) (next : A → Result B Fault) → ((f : Fault) → o ≡ Err f → Breaks f)
    → ((x : A) (f : Fault) → next x ≡ Err f → Breaks f) → (f : Fault) → (o >>= next) ≡ Err f → Breaks f
step_breaks (Ok x) next own behind f e = behind x f e
step_breaks (Err d) next own behind f e = stops d f (own d refl) e

note_breaks : {B : Type 0} (passes : Bool) (r : Rule) (at : ℕ) (rest : Result B Fault) → MayBreak r
    → ((f : Fault) → rest ≡ Err f → Breaks f) → (f : Fault) → (if passes then rest else Err (fault r at)) ≡ Err f
    → Breaks f
note_breaks true r at rest may behind f e = behind f e
note_breaks false r at rest may behind f e = stops (fault r at) f may e

walk_breaks : {A B : Type 0} (end : A → Cursor → Result B Fault)
    → ((x : A) (s : Cursor) (f : Fault) → end x s ≡ Err f → Breaks f) → (g : Grammar A) → IsFlagless g
    → (s : Cursor) (f : Fault) → walk true end g s ≡ Err f → Breaks f
walk_breaks end ends (done x) none s f e = ends x s f e
walk_breaks end ends (reads w next) none s f e =
    step_breaks (field_at w s) (λ x. walk true end (next x.0) x.1) (λ d is. at_breaks w s d none.0 is)
    (λ x d is. walk_breaks end ends (next x.0) (none.1 x.0) x.1 d is) f e
walk_breaks end ends (notes (must r passes) next) none s f e =
    note_breaks passes r s.last (walk true end next s) none.0
    (λ d is. walk_breaks end ends next none.1 s d is) f e
walk_breaks end ends (notes (opens r met) next) none s f e = walk_breaks end ends next none s f e

end_by : (trails held other : Bool) (x : Parsed) (at last : ℕ) (found : List ℕ) (f : Fault)
    → (if trails then Err (fault rule.Trailing at) else if not held then Err (fault (rule.WrongRoot found) last)
    else if other then Err (fault rule.WrongTally last) else Ok x) ≡ Err f → Breaks f
end_by true held other x at last found f e = stops (fault rule.Trailing at) f tt e
end_by false false other x at last found f e = stops (fault (rule.WrongRoot found) last) f tt e
end_by false true true x at last found f e = stops (fault rule.WrongTally last) f tt e
end_by false true false x at last found f e = absurd cc

end_breaks : (hash : List ℕ → List ℕ) (root : List ℕ) (letter : ℕ) (way : Key → Way) (x : Parsed) (s : Cursor)
    (f : Fault) → ending hash root (chosen letter way) x s ≡ Err f → Breaks f
unfolding ending
end_breaks hash root letter way x s f e =
    end_by (nat_lt 0 (length s.rest)) (bytes_eq (root_found hash x.head x.part) root) (has_other_count x) x s.at
    (s.at + length s.rest) (root_found hash x.head x.part) f e

-- ---- the grammar of a choice

either : {A : Type 0} (b : Bool) (g h : Grammar A) → IsFlagless g → IsFlagless h → IsFlagless (if b then g else h)
either true g h one other = one
either false g h one other = other

module _ {A : Type 0} where
  payload_reads : (n : ℕ) (next : List ℕ → Grammar A) → ((p : List ℕ) → IsFlagless (next p))
      → IsFlagless (payload n next)
  payload_reads n next more =
      either (n == 0) (next []) (reads (want.Payload n) (λ p. next (bytes_in p))) (more [])
      (tt, λ p. more (bytes_in p))

  layer_reads : (v : Version) (next : ℕ → Grammar A) → ((l : ℕ) → IsFlagless (next l)) → IsFlagless (layer v next)
  layer_reads One next more = more 0
  layer_reads Two next more = (tt, λ l. more (number_in l))

  record_reads : (v : Version) (next : Record → Grammar A) → ((r : Record) → IsFlagless (next r))
      → IsFlagless (one_record v next)
  record_reads v next more = (
    tt,
    λ n. (
      tt,
      λ r. layer_reads v (λ i. reads want.Length (λ l. payload (number_in l) (λ p.
          next (record { number = number_in n; rect = rect_in r; layer = i; payload = p })))) (λ i. (
            tt,
            λ l. payload_reads (number_in l) (λ p.
                next (record { number = number_in n; rect = rect_in r; layer = i; payload = p })) (λ p.
                more (record { number = number_in n; rect = rect_in r; layer = i; payload = p })),
          )),
    ),
  )

  records_read : (v : Version) (way : Key → Way) (n : ℕ) (next : List Record → Grammar A)
      → ((rs : List Record) → IsFlagless (next rs)) → IsFlagless (some_records v way n next)
  records_read v way zero next more = more []
  records_read v way (suc n) next more =
      record_reads v (λ r. notes (opens r (keeps_record way r)) (some_records v way n (λ rs. next (r ∷ rs))))
      (λ r. records_read v way n (λ rs. next (r ∷ rs)) (λ rs. more (r ∷ rs)))

  leaf_reads : (v : Version) (way : Key → Way) (next : Cut → Grammar A) → ((P : Cut) → IsFlagless (next P))
      → IsFlagless (leaf v way next)
  leaf_reads v way next more =
      (tt, λ n. records_read v way (number_in n) (λ rs. opened v way (Leaf rs) next) (λ rs. (tt, more (Leaf rs))))

  abbrev Reads : ((Cut → Grammar A) → Grammar A) → Type 0
  Reads one = (next : Cut → Grammar A) → ((P : Cut) → IsFlagless (next P)) → IsFlagless (one next)

  items_read : (one : (Cut → Grammar A) → Grammar A) → Reads one → (n : ℕ) (next : Cuts → Grammar A)
      → ((Ps : Cuts) → IsFlagless (next Ps)) → IsFlagless (some_items one n next)
  items_read one each zero next more = more no_more
  items_read one each (suc n) next more =
      each (λ P. some_items one n (λ Ps. next (first P Ps)))
      (λ P. items_read one each n (λ Ps. next (first P Ps)) (λ Ps. more (first P Ps)))

  inner_reads : (v : Version) (way : Key → Way) (one : (Cut → Grammar A) → Grammar A) → Reads one
      → (next : Cut → Grammar A) → ((P : Cut) → IsFlagless (next P)) → IsFlagless (inner v way one next)
  inner_reads v way one each next more =
      (tt, λ n. items_read one each (number_in n) (λ Ps. opened v way (Inner Ps) next) (λ Ps. (tt, more (Inner Ps))))

  pruned_reads : (v : Version) (way : Key → Way) (next : Cut → Grammar A) → ((P : Cut) → IsFlagless (next P))
      → IsFlagless (pruned v way next)
  pruned_reads One way next more = (tt, λ r. (tt, (tt, λ d. more _)))
  pruned_reads Two way next more = (tt, λ r. (tt, λ m. (tt, (tt, λ c. (tt, λ d. more _)))))

  item_reads : (v : Version) (way : Key → Way) (l : ℕ) → Reads (item v way l)
  item_reads v way zero next more = (
    tt,
    λ t. either (tag_in t == pruned_tag) (pruned v way next) (leaf v way next) (pruned_reads v way next more)
        (leaf_reads v way next more),
  )
  item_reads v way (suc l) next more = (
    tt,
    λ t. either (tag_in t == pruned_tag) (pruned v way next) (inner v way (item v way l) next)
        (pruned_reads v way next more) (inner_reads v way (item v way l) (item_reads v way l) next more),
  )

  level_reads : (count : ℕ) (next : ℕ → Grammar A) → ((l : ℕ) → IsFlagless (next l)) → IsFlagless (level count next)
  level_reads count next more =
      either (count == 0) (next 0) (reads want.Level (λ l. next (number_in l))) (more 0) (tt, λ l. more (number_in l))

part_reads : (way : Option ℕ → Key → Way) (h : Head) → IsFlagless (part way h)
part_reads way h =
    either (h.count == 0) (done (said h None)) (item h.version (way h.radius) h.level (λ P. done (said h (Some P)))) tt
    (item_reads h.version (way h.radius) h.level (λ P. done (said h (Some P))) (λ P. tt))

whole_reads : (letter : ℕ) (two_only : Bool) (way : Option ℕ → Key → Way)
    → IsFlagless (whole (kind.Choice letter) two_only way)
whole_reads letter two_only way = (
  tt,
  λ m. (
    tt,
    λ v. (
      tt,
      λ k. (
        tt,
        λ b. (
          tt,
          λ c.
              level_reads (number_in c) (λ l. part way (head_of v b c l)) (λ l. part_reads way (head_of v b c l)),
        ),
      ),
    ),
  ),
)
  where
    head_of : Field → Field → Field → ℕ → Head
    head_of v b c l = record {
      version = version_in v;
      kind = kind.Choice letter;
      batch = number_in b;
      count = number_in c;
      radius = None;
      level = l;
    }

checked_breaks : (hash : List ℕ → List ℕ) (root : List ℕ) (letter : ℕ) (way : Key → Way) (bytes : List ℕ) (f : Fault)
    → checked hash root (chosen letter way) bytes ≡ Err f → Breaks f
unfolding checked
checked_breaks hash root letter way bytes f e =
    walk_breaks (ending hash root (chosen letter way)) (end_breaks hash root letter way)
    (whole (kind.Choice letter) true (λ radius part. way part))
    (whole_reads letter true (λ radius part. way part)) (start bytes) f e

pub verdict_breaks : (hash : List ℕ → List ℕ) (root : List ℕ) (letter : ℕ) (way : Key → Way) (bytes : List ℕ)
    (f : Fault) → verdict_for hash root letter way bytes ≡ Err f → Breaks f
verdict_breaks hash root letter way bytes f e =
    step_breaks (checked hash root (chosen letter way) bytes) (λ x. Ok (taken_of way x))
    (checked_breaks hash root letter way bytes) (λ x d is. absurd cc) f e
