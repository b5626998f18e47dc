-- The laws of a disk over a shelf.
use Rattle.std.proofs.Common.{◌≡◌, ℕ, ◌≤◌, List, Option, Some, None, IsTrue, IsSome, refl, sym, subst, ◌∙◌, arith}
use Rattle.mr_outside.specs.Files.{Files}
use Rattle.mr_outside.specs.State.{Shelved}
use Rattle.mr_journal.specs.Images.{Image}
use Rattle.mr_journal.specs.Shelves.{disk_state, images_on, KeepsBeside, KeepsShelf}

pub earlier_is : (m j : List ℕ) (s : Shelved) (t u : ℕ) (c : Image) → t ≤ u → images_on m j s u c
    → images_on m j s t c
earlier_is m j s t u c le is = is

pub counts_is : (m j : List ℕ) (s : Shelved) (k : Image) → (disk_state m j s).contents ≡ Some k
    → images_on m j s 0 k
counts_is m j s k is = is

pub held_is : (m j : List ℕ) (s : Shelved) (t : ℕ) (c : Image) → images_on m j s t c
    → IsSome (disk_state m j s).contents
held_is m j s t c is = subst (λ (o : Option Image). IsSome o) (sym is) refl

pub told_is : (m j : List ℕ) (s : Shelved) → IsTrue (disk_state m j s).tells_images
    → IsSome (disk_state m j s).contents
told_is m j s is = cc

beside_self : (m j : List ℕ) (told : Option Files) → KeepsBeside m j told told
beside_self m j None = refl
beside_self m j (Some files) = (files, refl, λ q x y. refl)

beside_on : (m j : List ℕ) (a b c : Option Files) → KeepsBeside m j a b → KeepsBeside m j b c
    → KeepsBeside m j a c
beside_on m j None b c first second = subst (λ (o : Option Files). KeepsBeside m j o c) first second
beside_on m j (Some files) b c first second =
    let then = subst (λ (o : Option Files). KeepsBeside m j o c) first.1 second in
    (then.0, then.1, λ q x y. then.2 q x y ∙ first.2 q x y)

pub keeps_self : (m j : List ℕ) (s : Shelved) → KeepsShelf m m j j s s
keeps_self m j s = record {
  map = refl;
  journal = refl;
  beside = beside_self m j s.files;
  faults = omega arith;
  reads = omega arith;
}

pub keeps_on : (m m' m'' j j' j'' : List ℕ) (s s' s'' : Shelved) → KeepsShelf m m' j j' s s'
    → KeepsShelf m' m'' j' j'' s' s'' → KeepsShelf m m'' j j'' s s''
keeps_on m m' m'' j j' j'' s s' s'' a b = record {
  map = b.map ∙ a.map;
  journal = b.journal ∙ a.journal;
  beside = beside_on m j s.files s'.files s''.files a.beside
      (subst (λ (n : List ℕ). KeepsBeside n j s'.files s''.files) a.map
      (subst (λ (n : List ℕ). KeepsBeside m' n s'.files s''.files) a.journal b.beside));
  faults = omega (arith, a.faults, b.faults);
  reads = omega (arith, a.reads, b.reads);
}
