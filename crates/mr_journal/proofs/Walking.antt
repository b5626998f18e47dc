-- On the way through the pages of a journal.
use Rattle.std.proofs.Common.{◌≡◌, ℕ, zero, suc, ◌+◌, ◌-◌, ◌*◌, ◌<◌, ◌≤◌, max, true, List, [], ◌∷◌, ◌++◌, length, take, drop, Option, Some, None, IsSome, IfSome, option_map, refl, sym, ap, ◌∙◌, subst, arith, append_assoc}
use Rattle.mr_outside.specs.Files.{replaced}
use Rattle.mr_journal.specs.declared.disk.Area.TheVariants.{Map}
use Rattle.mr_journal.specs.Images.{Image, DiskState, written, InArea}
use Rattle.mr_journal.specs.Torn.{Torn, TornAt}
use Rattle.mr_journal.specs.Moments.{ImagesSince, IsAfterStep, AddsSteps}
use Rattle.mr_journal.specs.Format.{Page, number_of, first_page, entries, pages_fit}
use Rattle.mr_journal.specs.private.Parsed.{places, with_pages}
use Rattle.mr_journal.specs.private.ReplacedLaws.{length-replaced}
use Rattle.mr_journal.specs.private.TornLaws.{torn_trans}
use Rattle.mr_journal.proofs.Paging.{placed_parts, torn_page}
use Rattle.mr_journal.proofs.Running.{Earlier, course_start, moves_then}

pub record OnTheWay (a b : DiskState) (s u : ImagesSince) (size : ℕ) (all : List Page) (left : ℕ) (rest : List ℕ)
    : Type 0 where
  pub front : List Page
  pub split : all ≡ front ++ entries size left rest
  pub low : ℕ
  pub reach : ℕ
  pub whole : pages_fit size low reach (entries size left rest) ≡ true
  pub begins : IfSome b.contents (λ k. pages_fit size low (length k.map) (entries size left rest) ≡ true)
  pub makes : option_map (with_pages size (entries size left rest)) b.contents ≡ option_map
      (with_pages size all) a.contents
  pub moves : AddsSteps a b s u (InArea Map (Torn (places size all)))
  pub faults : a.faults ≤ b.faults
  pub quiet : IsSome a.contents → b.faults ≡ a.faults

pub way_start : (a : DiskState) (s : ImagesSince) (size count : ℕ) (bytes : List ℕ) (reach : ℕ)
    → pages_fit size 0 reach (entries size count bytes) ≡ true
    → IfSome a.contents (λ k. pages_fit size 0 (length k.map) (entries size count bytes) ≡ true)
    → OnTheWay a a s s size (entries size count bytes) count bytes
way_start a s size count bytes reach whole begins = record {
  front = [];
  split = refl;
  low = 0;
  reach = reach;
  whole = whole;
  begins = begins;
  makes = refl;
  moves = course_start a s (IsAfterStep a s (InArea Map (Torn (places size (entries size count bytes)))));
  faults = omega arith;
  quiet = λ some. refl;
}

pub way_begins : (size low left : ℕ) (rest : List ℕ) (o : Option Image) → 0 < left
    → IfSome o (λ k. pages_fit size low (length k.map) (entries size left rest) ≡ true)
    → IfSome o (λ k. number_of rest * size ≤ length k.map)
way_begins size low left rest None more h = h
way_begins size low zero rest (Some k) more h = absurd (omega arith)
way_begins size low (suc n) rest (Some k) more h =
    (placed_parts size low (length k.map) (first_page size rest) (entries size n (drop (4 + size) rest)) h).0.begins

begins_next : (size low : ℕ) (page : Page) (tail : List Page) (o : Option Image)
    → IfSome o (λ k. pages_fit size low (length k.map) (page ∷ tail) ≡ true)
    → IfSome (option_map (written Map (page.number * size) page.bytes) o)
    (λ k. pages_fit size (page.number + 1) (length k.map) tail ≡ true)
begins_next size low page tail None h = h
begins_next size low page tail (Some k) h =
    let p = placed_parts size low (length k.map) page tail h in
    let f = p.0 in
    let long : max (length k.map) (page.number * size + size) ≡ length (replaced (page.number * size) page.bytes k.map)
    = omega (arith, f.whole, f.begins, length-replaced (page.number * size) page.bytes k.map) in
    subst (λ (n : ℕ). pages_fit size (page.number + 1) n tail ≡ true) long p.1

makes_next : (size : ℕ) (page : Page) (tail : List Page) (o : Option Image)
    → option_map (with_pages size tail) (option_map (written Map (page.number * size) page.bytes) o) ≡ option_map
    (with_pages size (page ∷ tail)) o
makes_next size page tail None = refl
makes_next size page tail (Some k) = refl

pub way_moves : (a b c : DiskState) (s u w : ImagesSince) (size left : ℕ) (all : List Page) (rest : List ℕ) → 0 < left
    → Earlier u → OnTheWay a b s u size all left rest
    → AddsSteps b c u w (InArea Map (TornAt (number_of rest * size) size))
    → AddsSteps a c s w (InArea Map (Torn (places size all)))
way_moves a b c s u w size zero all rest more earlier way moves = absurd (omega arith)
way_moves a b c s u w size (suc n) all rest more earlier way moves =
    let page = first_page size rest in
    let tail = entries size n (drop (4 + size) rest) in
    let torn : (x y : List ℕ) → TornAt (number_of rest * size) size x y → Torn (places size all) x y =
    λ x y t. subst (λ (ps : List Page). Torn (places size ps) x y) (sym way.split)
    (torn_page size way.front page tail x y t) in
    moves_then a b c s u w (InArea Map (Torn (places size all))) (InArea Map (TornAt (number_of rest * size) size))
    (InArea Map (Torn (places size all))) earlier way.moves moves
    (λ d x t. t) (λ d x t. (torn d.map x.map t.0, t.1))
    (λ d e x t r. (torn_trans (places size all) d.map e.map x.map t.0 (torn e.map x.map r.0), r.1 ∙ t.1))

pub way_step : (a b c : DiskState) (s u w : ImagesSince) (size left : ℕ) (all : List Page) (rest after : List ℕ)
    → 0 < left → Earlier u → OnTheWay a b s u size all left rest
    → after ≡ drop (4 + size) rest → c.contents ≡ option_map
    (written Map (number_of rest * size) (take size (drop 4 rest))) b.contents
    → AddsSteps b c u w (InArea Map (TornAt (number_of rest * size) size)) → b.faults ≤ c.faults
    → (IsSome b.contents → c.faults ≡ b.faults) → OnTheWay a c s w size all (left - 1) after
way_step a b c s u w size zero all rest after more earlier way is put moves faults quiet = absurd (omega arith)
way_step a b c s u w size (suc n) all rest after more earlier way is put moves faults quiet =
    let page = first_page size rest in
    let tail = entries size n (drop (4 + size) rest) in
    let p = placed_parts size way.low way.reach page tail way.whole in
    let count : n ≡ suc n - 1 = omega arith in
    let step : OnTheWay a c s w size all n (drop (4 + size) rest) = record {
      front = way.front ++ page ∷ [];
      split = way.split ∙ sym (append_assoc way.front (page ∷ []) tail);
      low = number_of rest + 1;
      reach = max way.reach (number_of rest * size + size);
      whole = p.1;
      begins = subst (λ (o : Option Image). IfSome o
          (λ k. pages_fit size (number_of rest + 1) (length k.map) tail ≡ true))
          (sym put) (begins_next size way.low page tail b.contents way.begins);
      makes = ap (option_map (with_pages size tail)) put ∙ makes_next size page tail b.contents ∙ way.makes;
      moves = way_moves a b c s u w size (suc n) all rest more earlier way moves;
      faults = omega (arith, way.faults, faults);
      quiet = λ some. quiet (way.moves.told ∙ some) ∙ way.quiet some;
    } in
    subst (λ (l : List ℕ). OnTheWay a c s w size all (suc n - 1) l) (sym is)
    (subst (λ (k : ℕ). OnTheWay a c s w size all k (drop (4 + size) rest)) count step)

nothing_put : (size : ℕ) (o : Option Image) → option_map (with_pages size []) o ≡ o
nothing_put size None = refl
nothing_put size (Some k) = refl

pub way_end : (a b : DiskState) (s u : ImagesSince) (size left : ℕ) (all : List Page) (rest : List ℕ) → left ≡ 0
    → OnTheWay a b s u size all left rest → b.contents ≡ option_map (with_pages size all) a.contents
way_end a b s u size left all rest none way =
    sym (nothing_put size b.contents) ∙ ap (λ (n : ℕ). option_map (with_pages size (entries size n rest)) b.contents)
    (sym none) ∙ way.makes

pub if_some : (o : Option Image) (P Q : Image → Type 0) → ((k : Image) → P k → Q k) → IfSome o P → IfSome o Q
if_some None P Q more h = h
if_some (Some k) P Q more h = more k h
