-- The parts of a bundle, read from the front.
use Rattle.std.proofs.Common.{◌≡◌, ℕ, zero, suc, ◌+◌, ◌-◌, ◌<◌, ◌≤◌, List, [], ◌∷◌, ◌++◌, length, refl, sym, ap, ◌∙◌, inl, inr, arith, append_assoc, append-nil}
use Rattle.std.specs.Prelude.{All, Option, Some, None, nat_lt, if◌then◌else◌}
use Rattle.std.proofs.lemmas.Bool.{cases_Bool, ltb-true, ltb-false}
use Rattle.std.proofs.lemmas.List.{length_push}
use Rattle.std.proofs.lemmas.List.Elements.{All-push, All-nil}
use Rattle.mr_bundle.specs.Bundle.{Cutting, LiesIn, go_on, part_at, parts, parts_from}
use Rattle.mr_bundle.specs.declared.reading.Part.{Part}

-- where bytes are left, or none are
pub some_left : (at size : ℕ) → at < size → (if nat_lt at size then Some at else None) ≡ Some at
some_left at size low = elim (cases_Bool (nat_lt at size)) [
  | inl over ↦ rw over refl
  | inr not ↦ let past = ltb-false at size not in absurd (omega arith)
]

pub none_left : (at size : ℕ) → size ≤ at → ◌≡◌ {A = Option ℕ} (if nat_lt at size then Some at else None) None
none_left at size past = elim (cases_Bool (nat_lt at size)) [
  | inl over ↦ let low = ltb-true at size over in absurd (omega arith)
  | inr not ↦ rw not refl
]

-- the parts that were read, in front of what follows
abbrev pub in_front : List Part → Cutting → Cutting
in_front list rest = record { list = list ++ rest.list; broken = rest.broken }

-- these parts were read, and so many queries are left
pub record IsRead (bytes : List ℕ) (queries : ℕ) (list : List Part) (left at : ℕ) : Type 0 where
  pub whole : parts bytes queries ≡ in_front list (parts_from bytes left at)
  pub lie : All (LiesIn (length bytes)) list
  pub place : at ≤ length bytes
  pub few : length list + left ≤ queries

pub none_read : (bytes : List ℕ) (queries : ℕ) → IsRead bytes queries [] queries 0
none_read bytes queries =
    record { whole = refl; lie = All-nil (LiesIn (length bytes)); place = omega arith; few = omega arith }

less : (n : ℕ) → n ≡ suc n - 1
less n = omega arith

step : (bytes : List ℕ) (left at : ℕ) → 0 < left
    → parts_from bytes left at ≡ go_on at (part_at bytes at) (parts_from bytes (left - 1))
unfolding parts_from
step bytes zero at some = absurd (omega arith)
step bytes (suc left) at some = ap (λ n. go_on at (part_at bytes at) (parts_from bytes n)) (less left)

at_end : (bytes : List ℕ) (left at : ℕ) → left ≡ 0
    → parts_from bytes left at
    ≡ record { list = []; broken = if nat_lt at (length bytes) then Some at else None }
unfolding parts_from
at_end bytes zero at none = refl
at_end bytes (suc left) at none = absurd (omega arith)

module _ (bytes : List ℕ) (queries : ℕ) (list : List Part) (left at : ℕ) (is : IsRead bytes queries list left at) where
  here : 0 < left → (found : Option Part) → part_at bytes at ≡ found
      → parts bytes queries ≡ in_front list (go_on at found (parts_from bytes (left - 1)))
  here some found e =
      is.whole ∙ ap (in_front list) (step bytes left at some
      ∙ ap (λ o. go_on at o (parts_from bytes (left - 1))) e)

  -- one part more
  pub more_read : 0 < left → (part : Part) → part_at bytes at ≡ Some part → LiesIn (length bytes) part
      → IsRead bytes queries (list ++ part ∷ []) (left - 1) part.end
  more_read some part e lies =
      let rest = parts_from bytes (left - 1) part.end in
      record {
        whole = here some (Some part) e
            ∙ ap (λ l. record { list = l; broken = rest.broken }) (sym (append_assoc list (part ∷ []) rest.list));
        lie = All-push (LiesIn (length bytes)) list part is.lie lies;
        place = lies.within;
        few = omega (arith, length_push list part, is.few);
      }

  -- a part that is not whole
  pub stopped : 0 < left → part_at bytes at ≡ None
      → parts bytes queries ≡ record { list = list; broken = Some at }
  stopped some e = here some None e ∙ ap (λ l. record { list = l; broken = Some at }) (append-nil list)

  -- behind the last part
  pub ended : left ≡ 0
      → parts bytes queries
      ≡ record { list = list; broken = if nat_lt at (length bytes) then Some at else None }
  ended none =
      is.whole ∙ ap (in_front list) (at_end bytes left at none)
      ∙ ap (λ l. record { list = l; broken = if nat_lt at (length bytes) then Some at else None }) (append-nil list)
