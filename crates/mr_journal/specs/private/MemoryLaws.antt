-- The laws of a disk in memory.
use Rattle.std.proofs.Common.{◌≡◌, ℕ, ◌/◌, ◌≤◌, IsTrue, IsSome, Bool, true, false, List, [], ◌∷◌, length, Some, fold, if◌then◌else◌, refl, sym, subst, arith}
use Rattle.std.proofs.lemmas.List.{take_all, length-take}
use Rattle.mr_journal.specs.declared.disk.Area.{Area}
use Rattle.mr_journal.specs.declared.disk.Area.TheVariants.{Map, Journal}
use Rattle.mr_journal.specs.declared.mem_disk.Call.{Call}
use Rattle.mr_journal.specs.declared.mem_disk.Call.TheVariants.{Asked, Wrote, Synced}
use Rattle.mr_journal.specs.Images.{Image}
use Rattle.mr_journal.specs.MemoryDisk.{AreaState, at_rest, same_area, carried_out, wrote, change, area_after, contents_after, MayBeLeft, IsImage, memory_state, left_since}
use Rattle.mr_journal.specs.private.TornLaws.{torn_same, torn_then, torn_put}

-- the contents are one of the images
abbrev pub IsFine : AreaState → Type 0
IsFine s = MayBeLeft s s.held

pub carried_out_short : (whole : Bool) (bytes : List ℕ)
    → length (carried_out whole bytes) ≤ length bytes
carried_out_short true bytes = omega arith
carried_out_short false bytes = omega (arith, length-take (length bytes / 2) bytes)

pub fine_rest : (bytes : List ℕ) → IsFine (at_rest bytes)
fine_rest bytes = torn_same [] bytes

fine_wrote : (s : AreaState) (place : ℕ) (bytes : List ℕ) (whole : Bool) → IsFine s
    → IsFine (wrote place bytes whole s)
fine_wrote s place bytes whole fine =
    torn_then s.touched place (length bytes) s.synced s.held _ fine
    (torn_put place (length bytes) (carried_out whole bytes) s.held (carried_out_short whole bytes))

fine_change : (area : Area) (s : AreaState) (call : Call) → IsFine s → IsFine (change area s call)
fine_change area s Asked fine = fine
fine_change area s (Wrote w) fine =
    elim (same_area w.area area) as
    (λ b. IsFine (if b then wrote w.at w.bytes.items w.whole s else s)) [
      | true ↦ fine_wrote s w.at w.bytes.items w.whole fine
      | false ↦ fine
    ]
fine_change area s (Synced a) fine =
    elim (same_area a area) as (λ b. IsFine (if b then at_rest s.held else s))
    [ true ↦ fine_rest s.held | false ↦ fine ]

fine_all : (area : Area) (calls : List Call) (s : AreaState) → IsFine s
    → IsFine (fold (change area) s calls)
fine_all area [] s fine = fine
fine_all area (call ∷ calls) s fine = fine_all area calls (change area s call)
    (fine_change area s call fine)

pub fine_stored : (area : Area) (first : List ℕ) (calls : List Call)
    → IsFine (area_after area first calls)
unfolding area_after
fine_stored area first calls = fine_all area calls (at_rest first) (fine_rest first)

pub contents_are_image : (first : Image) (calls : List Call)
    → IsImage first calls (contents_after first calls)
contents_are_image first calls = (
  fine_stored Map first.map calls,
  fine_stored Journal first.journal
      calls,
)

same_some : (a b : Image) → Some a ≡ Some b → a ≡ b
same_some a b e = cc

-- the laws of the trait
pub earlier_is : (first : Image) (calls : List Call) (t u : ℕ) (c : Image) → t ≤ u
    → left_since first calls u c → left_since first calls t c
earlier_is first calls t u c le x = (x.0, omega (arith, x.1), x.2, x.3)

pub contents_count : (first : Image) (calls : List Call) (faults : ℕ) (k : Image)
    → (memory_state first calls faults).contents ≡ Some k → left_since first calls (length calls) k
contents_count first calls faults k is = (
  length calls,
  omega arith,
  omega arith,
  subst (λ (cs : List Call). IsImage first cs k) (sym (take_all (length calls) calls (omega arith)))
      (subst (λ (i : Image). IsImage first calls i) (same_some (contents_after first calls) k is)
      (contents_are_image first calls)),
)

pub is_told : (first : Image) (calls : List Call) (faults : ℕ)
    → IsTrue (memory_state first calls faults).tells_images
    → IsSome (memory_state first calls faults).contents
is_told first calls faults t = refl

pub is_held : (first : Image) (calls : List Call) (faults t : ℕ) (c : Image)
    → left_since first calls t c → IsSome (memory_state first calls faults).contents
is_held first calls faults t c x = refl
