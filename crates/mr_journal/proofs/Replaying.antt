-- One call more that a disk in memory keeps.
use Rattle.std.proofs.Common.{◌≡◌, inl, inr, ⊎_elim, ℕ, ◌+◌, ◌<◌, ◌≤◌, Bool, List, [], ◌∷◌, ◌++◌, length, take, get_or, Vec, Some, Result, Ok, Err, IsErrOf, OnErr, refl, sym, ap, ◌∙◌, subst, arith, length-append}
use Rattle.std.proofs.lemmas.List.{take_all, take-append-le, ext_get_or}
use Rattle.std.proofs.lemmas.Grind.{fold-append}
use Rattle.std.proofs.lemmas.List.Sums.{fold_more}
use Rattle.mr_outside.proofs.Rises.{next_count-Rose}
use Rattle.mr_journal.proofs.Running.{answered}
use Rattle.mr_journal.proofs.Quiet.{on_answer}
use Rattle.std.proofs.lemmas.Bool.{cases_lt}
use Rattle.std.specs.declared.alloc.Global.{Global}
use Rattle.mr_outside.specs.Faults.{Rose, next_count}
use Rattle.mr_journal.specs.declared.disk.Area.{Area}
use Rattle.mr_journal.specs.declared.disk.Area.TheVariants.{Map, Journal}
use Rattle.mr_journal.specs.declared.disk.DiskErr.{DiskErr}
use Rattle.mr_journal.specs.declared.disk.DiskErr.TheVariants.{Fault}
use Rattle.mr_journal.specs.declared.mem_disk.Call.{Call}
use Rattle.mr_journal.specs.declared.mem_disk.Call.TheVariants.{Asked, Synced}
use Rattle.mr_journal.specs.Images.{Image, part, written, InArea, Unchanged}
use Rattle.mr_journal.specs.Torn.{Torn, TornAt}
use Rattle.mr_journal.specs.Moments.{AddsSteps, TakesTime, IsDurable, IsDiskCall, KeepsImages}
use Rattle.mr_journal.specs.MemoryDisk.{AreaState, at_rest, carried_out, change, area_after, contents_after, MayBeLeft, IsImage, memory_state, left_since, first_image}
use Rattle.mr_journal.specs.private.Traced.{write_call}
use Rattle.mr_journal.specs.private.TornLaws.{torn_same, torn_put, torn_split}
use Rattle.mr_journal.specs.private.MemoryLaws.{fine_stored}

pub stored_more : (area : Area) (first : List ℕ) (calls : List Call) (call : Call)
    → area_after area first (calls ++ call ∷ []) ≡ change area (area_after area first calls) call
unfolding area_after
stored_more area first calls call = fold-append (change area) (at_rest first) calls (call ∷ [])

image_more : (first : Image) (calls : List Call) (call : Call) (c : Image) → IsImage first (calls ++ call ∷ []) c
    → MayBeLeft (change Map (area_after Map first.map calls) call) c.map
    × MayBeLeft (change Journal (area_after Journal first.journal calls) call) c.journal
image_more first calls call c i = (
  subst (λ (s : AreaState). MayBeLeft s c.map) (stored_more Map first.map calls call) i.0,
  subst (λ (s : AreaState). MayBeLeft s c.journal) (stored_more Journal first.journal calls call) i.1,
)

abbrev pub Steps : Image → List Call → Call → (Image → Image → Type 0) → Type 0
Steps first calls call step = (c : Image) → IsImage first (calls ++ call ∷ []) c
    → (d : Image) × IsImage first calls d × step d c

pub moves_more : (first : Image) (calls : List Call) (call : Call) (f g : ℕ) (step : Image → Image → Type 0)
    → Steps first calls call step
    → AddsSteps (memory_state first calls f) (memory_state first (calls ++ call ∷ []) g) (left_since first calls)
    (left_since first (calls ++ call ∷ [])) step
moves_more first calls call f g step steps =
    let long = length-append calls (call ∷ []) in
    record {
      later = omega (arith, long);
      tells_images = refl;
      told = refl;
      added = λ t c le x. ⊎_elim
          (λ before. inl (
            x.0,
            x.1,
            omega arith,
            subst (λ (cs : List Call). IsImage first cs c)
                (take-append-le x.0 calls (call ∷ []) (omega arith)) x.3,
          ))
          (λ after.
          let whole : IsImage first (calls ++ call ∷ []) c = subst (λ (cs : List Call). IsImage first cs c)
          (take_all x.0 (calls ++ call ∷ []) (omega (arith, long))) x.3 in
          let d = steps c whole in
          inr (
            d.0,
            (
              length calls,
              omega arith,
              omega arith,
              subst (λ (cs : List Call). IsImage first cs d.0)
                  (sym (take_all (length calls) calls (omega arith))) d.1,
            ),
            d.2,
          ))
          (cases_lt x.0 (length calls + 1));
    }

pub ticks_more : {A : Type 0} (first : Image) (calls : List Call) (call : Call) (f g : ℕ) (r : Result A DiskErr)
    → TakesTime (memory_state first calls f) (memory_state first (calls ++ call ∷ []) g) (left_since first calls)
    (left_since first (calls ++ call ∷ [])) r
ticks_more first calls call f g r =
    let long = length-append calls (call ∷ []) in
    record {
      rises = λ t n. omega (arith, long);
      keeps = λ tells_images t c le x. (
        x.0,
        x.1,
        omega (arith, long),
        subst (λ (cs : List Call). IsImage first cs c)
            (sym (take-append-le x.0 calls (call ∷ []) x.2)) x.3,
      );
    }

-- a call that changes nothing
pub asked_steps : (first : Image) (calls : List Call) → Steps first calls Asked Unchanged
asked_steps first calls c i = (c, image_more first calls Asked c i, refl)

pub asked_held : (first : Image) (calls : List Call)
    → contents_after first (calls ++ Asked ∷ []) ≡ contents_after first calls
asked_held first calls = λ i. record {
  map = (stored_more Map first.map calls Asked i).held;
  journal =
      (stored_more Journal first.journal calls Asked i).held;
}

pub wrote_steps : (first : Image) (calls : List Call) (area : Area) (at : ℕ) (bytes : Vec ℕ Global) (whole : Bool)
    → Steps first calls (write_call area at bytes whole) (InArea area (TornAt at (length bytes.items)))
wrote_steps first calls Map at bytes whole c i =
    let m = image_more first calls (write_call Map at bytes whole) c i in
    let s = area_after Map first.map calls in
    let b = torn_split s.touched at (length bytes.items) s.synced c.map m.0 in
    (record { map = b.0; journal = c.journal }, (b.1, m.1), (b.2, refl))
wrote_steps first calls Journal at bytes whole c i =
    let m = image_more first calls (write_call Journal at bytes whole) c i in
    let s = area_after Journal first.journal calls in
    let b = torn_split s.touched at (length bytes.items) s.synced c.journal m.1 in
    (record { map = c.map; journal = b.0 }, (m.0, b.1), (b.2, refl))

pub wrote_held : (first : Image) (calls : List Call) (area : Area) (at : ℕ) (bytes : Vec ℕ Global) (whole : Bool)
    → contents_after first (calls ++ write_call area at bytes whole ∷ []) ≡ written area at
    (carried_out whole bytes.items) (contents_after first calls)
wrote_held first calls Map at bytes whole = λ i. record {
  map = (stored_more Map first.map calls (write_call Map at bytes whole) i).held;
  journal = (stored_more Journal first.journal calls (write_call Map at bytes whole) i).held;
}
wrote_held first calls Journal at bytes whole = λ i. record {
  map = (stored_more Map first.map calls (write_call Journal at bytes whole) i).held;
  journal = (stored_more Journal first.journal calls (write_call Journal at bytes whole) i).held;
}

pub written_torn : (area : Area) (at n : ℕ) (bytes : List ℕ) (k : Image) → length bytes ≤ n
    → InArea area (TornAt at n) k (written area at bytes k)
written_torn Map at n bytes k le = (torn_put at n bytes k.map le, refl)
written_torn Journal at n bytes k le = (torn_put at n bytes k.journal le, refl)

torn_nothing : (a c : List ℕ) → Torn [] a c → c ≡ a
torn_nothing a c t = ext_get_or 0 c a (omega (arith, t.no_shorter, t.no_longer))
    (λ i lt. t.else_stays i (omega (arith, t.no_shorter, t.no_longer)) (λ x. x))

pub synced_steps : (first : Image) (calls : List Call) (area : Area) → Steps first calls (Synced area) Unchanged
synced_steps first calls Map c i =
    let m = image_more first calls (Synced Map) c i in
    let s = area_after Map first.map calls in
    (c, (subst (MayBeLeft s) (sym (torn_nothing s.held c.map m.0)) (fine_stored Map first.map calls), m.1), refl)
synced_steps first calls Journal c i =
    let m = image_more first calls (Synced Journal) c i in
    let s = area_after Journal first.journal calls in (
      c,
      (
        m.0,
        subst (MayBeLeft s) (sym (torn_nothing s.held c.journal m.1))
            (fine_stored Journal first.journal calls),
      ),
      refl,
    )

pub synced_held : (first : Image) (calls : List Call) (area : Area)
    → contents_after first (calls ++ Synced area ∷ []) ≡ contents_after first calls
synced_held first calls Map = λ i. record {
  map = (stored_more Map first.map calls (Synced Map) i).held;
  journal =
      (stored_more Journal first.journal calls (Synced Map) i).held;
}
synced_held first calls Journal = λ i. record {
  map = (stored_more Map first.map calls (Synced Journal) i).held;
  journal
      = (stored_more Journal first.journal calls (Synced Journal) i).held;
}

synced_part : (first : Image) (calls : List Call) (area : Area) (c : Image)
    → IsImage first (calls ++ Synced area ∷ []) c → part area c ≡ part area (contents_after first calls)
synced_part first calls Map c i = torn_nothing _ c.map (image_more first calls (Synced Map) c i).0
synced_part first calls Journal c i = torn_nothing _ c.journal (image_more first calls (Synced Journal) c i).1

pub synced_durable : (first : Image) (calls : List Call) (area : Area) (f : ℕ)
    → IsDurable area (memory_state first (calls ++ Synced area ∷ []) f) (left_since first (calls ++ Synced area ∷ []))
synced_durable first calls area f c x =
    let whole : IsImage first (calls ++ Synced area ∷ []) c = subst (λ (cs : List Call). IsImage first cs c)
    (take_all x.0 (calls ++ Synced area ∷ []) (omega (arith, x.1))) x.3 in
    synced_part first calls area c whole ∙ ap (part area) (sym (synced_held first calls area))

pub stored_next : (area : Area) (first : List ℕ) (calls : List Call) (i : ℕ) (call : Call) (s t : AreaState)
    → i < length calls → call ≡ get_or calls i call → t ≡ change area s call
    → s ≡ area_after area first (take i calls) → t ≡ area_after area first (take (i + 1) calls)
unfolding area_after
stored_next area first calls i call s t lt read step so =
    step ∙ (λ k. change area (so k) (read k)) ∙ sym (fold_more (change area) (at_rest first) calls i call lt)

pub stored_none : (area : Area) (first : List ℕ) → area_after area first [] ≡ at_rest first
unfolding area_after
stored_none area first = refl

pub kept_passes : {A : Type 0} (m j m' j' : List ℕ) (calls calls' : List Call) (call : Call) (f f' : ℕ)
    (r : Result A DiskErr) (step : Image → Image → Type 0) → m' ≡ m → j' ≡ j → calls' ≡ calls ++ call ∷ []
    → Steps (first_image m j) calls call step → (IsErrOf r Fault → Rose f f') → f ≤ f'
    → ((x : A) → r ≡ answered x → f' ≡ f)
    → IsDiskCall (memory_state (first_image m j) calls f) (memory_state (first_image m' j') calls' f')
    (left_since (first_image m j) calls) (left_since (first_image m' j') calls') r step
kept_passes m j m' j' calls calls' call f f' r step p q e steps fault faults quiet =
    let first = first_image m j in
    let P : Image → List Call → Type 0 = λ i cs. IsDiskCall (memory_state first calls f) (memory_state i cs f')
    (left_since first calls) (left_since i cs) r step in
    subst (λ (cs : List Call). P (first_image m' j') cs) (sym e)
    (subst (λ (l : List ℕ). P (first_image l j') (calls ++ call ∷ [])) (sym p)
    (subst (λ (l : List ℕ). P (first_image m l) (calls ++ call ∷ [])) (sym q)
    (record {
      moves = moves_more first calls call f f' step steps;
      ticks = ticks_more first calls call f f' r;
      causes = record {
        fault = fault;
        faults = faults;
        told = refl;
        quiet = λ some. on_answer r (f' ≡ f) quiet;
      };
    })))

pub kept_held : (m j m' j' : List ℕ) (calls calls' : List Call) (call : Call) → m' ≡ m → j' ≡ j
    → calls' ≡ calls ++ call ∷ []
    → contents_after (first_image m' j') calls' ≡ contents_after (first_image m j) (calls ++ call ∷ [])
kept_held m j m' j' calls calls' call p q e = λ i. contents_after (first_image (p i) (q i)) (e i)

pub kept_durable : (m j m' j' : List ℕ) (calls calls' : List Call) (area : Area) (f' : ℕ) → m' ≡ m → j' ≡ j
    → calls' ≡ calls ++ Synced area ∷ []
    → IsDurable area (memory_state (first_image m' j') calls' f') (left_since (first_image m' j') calls')
kept_durable m j m' j' calls calls' area f' p q e =
    let P : Image → List Call → Type 0 = λ i cs. IsDurable area (memory_state i cs f') (left_since i cs) in
    subst (λ (cs : List Call). P (first_image m' j') cs) (sym e)
    (subst (λ (l : List ℕ). P (first_image l j') (calls ++ Synced area ∷ [])) (sym p)
    (subst (λ (l : List ℕ). P (first_image m l) (calls ++ Synced area ∷ [])) (sym q)
    (synced_durable (first_image m j) calls area f')))

pub torn_stays : (area : Area) (at n : ℕ) (k : Image) → InArea area (TornAt at n) k k
torn_stays Map at n k = (torn_same ((at, n) ∷ []) k.map, refl)
torn_stays Journal at n k = (torn_same ((at, n) ∷ []) k.journal, refl)

pub rose_next : (f f' : ℕ) → f' ≡ next_count f → Rose f f'
rose_next f f' e = subst (Rose f) (sym e) (next_count-Rose f)

pub more_next : (f f' : ℕ) → f' ≡ next_count f → f ≤ f'
more_next f f' e = omega (arith, e)

pub no_fault : {A : Type 0} (x : A) (e : DiskErr) → IsErrOf (answered x) e → ⊥
no_fault x e is = cc

pub wrote_steps_at : (first : Image) (calls : List Call) (area : Area) (at : ℕ) (bytes : Vec ℕ Global) (whole : Bool)
    (n : ℕ) → length bytes.items ≡ n
    → Steps first calls (write_call area at bytes whole) (InArea area (TornAt at n))
wrote_steps_at first calls area at bytes whole n is =
    subst (λ (k : ℕ). Steps first calls (write_call area at bytes whole) (InArea area (TornAt at k))) is
    (wrote_steps first calls area at bytes whole)

-- a refused write that did nothing
pub untouched : (area : Area) (at n : ℕ) (m j m' j' : List ℕ) (calls calls' : List Call) (r : Result (Unit {0}) DiskErr)
    → m' ≡ m → j' ≡ j → calls' ≡ calls
    → OnErr r ((x : Image) × (Some (contents_after (first_image m' j') calls') ≡ Some x)
    × InArea area (TornAt at n) (contents_after (first_image m j) calls) x)
untouched area at n m j m' j' calls calls' (Ok v) p q e = tt
untouched area at n m j m' j' calls calls' (Err d) p q e = (
  contents_after (first_image m j) calls,
  ap Some (λ i. contents_after (first_image (p i) (q i)) (e i)),
  torn_stays
      area at n (contents_after (first_image m j) calls),
)

-- a call that changes nothing leaves each image
asked_image : (first : Image) (calls : List Call) (c : Image) → IsImage first calls c
    → IsImage first (calls ++ Asked ∷ []) c
asked_image first calls c i = (
  subst (λ (s : AreaState). MayBeLeft s c.map) (sym (stored_more Map first.map calls Asked)) i.0,
  subst (λ (s : AreaState). MayBeLeft s c.journal) (sym (stored_more Journal first.journal calls Asked)) i.1,
)

asked_stays : (first : Image) (calls : List Call) (c : Image) → left_since first calls (length calls) c
    → left_since first (calls ++ Asked ∷ []) (length (calls ++ Asked ∷ [])) c
asked_stays first calls c x =
    let more = calls ++ Asked ∷ [] in (
      length more,
      omega arith,
      omega arith,
      subst (λ (cs : List Call). IsImage first cs c) (sym (take_all (length more) more (omega arith)))
          (asked_image first calls c
          (subst (λ (cs : List Call). IsImage first cs c) (take_all x.0 calls (omega (arith, x.1))) x.3)),
    )

pub kept_stays : (m j m' j' : List ℕ) (calls calls' : List Call) (f f' : ℕ) → m' ≡ m → j' ≡ j
    → calls' ≡ calls ++ Asked ∷ []
    → KeepsImages (memory_state (first_image m j) calls f) (memory_state (first_image m' j') calls' f')
    (left_since (first_image m j) calls) (left_since (first_image m' j') calls')
kept_stays m j m' j' calls calls' f f' p q e =
    let P : Image → List Call → Type 0 = λ i cs. KeepsImages (memory_state (first_image m j) calls f)
    (memory_state i cs f') (left_since (first_image m j) calls) (left_since i cs) in
    subst (λ (cs : List Call). P (first_image m' j') cs) (sym e)
    (subst (λ (l : List ℕ). P (first_image l j') (calls ++ Asked ∷ [])) (sym p)
    (subst (λ (l : List ℕ). P (first_image m l) (calls ++ Asked ∷ [])) (sym q)
    (asked_stays (first_image m j) calls)))
