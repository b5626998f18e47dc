-- The rule on the radius, by counts that stand still at the end of their type.
use Rattle.std.proofs.Common.{◌≡◌, ℕ, ◌-◌, ◌^◌, ◌<◌, ◌≤◌, min, Bool, true, false, leb, ltb, ◌||◌, List, Some, refl, sym, ◌∙◌, inl, inr, arith}
use Rattle.std.proofs.lemmas.Bool.{cases_Bool, ltb-true, ltb-false, le-leb, lt-leb, le-ltb, lt-ltb}
use Rattle.mr_geom.specs.declared.point.Point.{Point}
use Rattle.mr_record.specs.declared.record.Record.{Record}
use Rattle.mr_query.specs.Nearest.{nearer_than, not_farther_than}
use Rattle.mr_proof.specs.declared.question.Around.{Around}
use Rattle.mr_check.specs.declared.radius_counts.RadiusCounts.{RadiusCounts}
use Rattle.mr_check.specs.private.Counting.{CountsRecords, other_radius}

abbrev pub near : Point → (k layers : ℕ) → Around
near p k l = record { center = p; k = k; layers = l }

same_less : (a b k : ℕ) → k ≤ 2 ^ 16 → a ≡ min b (2 ^ 64 - 1) → ltb a k ≡ ltb b k
same_less a b k few e = elim (cases_Bool (ltb b k)) [
  | inl t ↦ let less : b < k = ltb-true b k t in lt-ltb a k (omega arith) ∙ sym t
  | inr f ↦ let more : k ≤ b = ltb-false b k f in le-ltb a k (omega arith) ∙ sym f
]

first_of_two : (a b : Bool) → a ≡ true → (a || b) ≡ true
first_of_two a b e = rw e refl

second_of_two : (a b : Bool) → a ≡ false → (a || b) ≡ b
second_of_two a b e = rw e refl

pub enough_nearer : (p : Point) (k l n : ℕ) (rs : List Record) (t : RadiusCounts) → k < 2 ^ 16
    → CountsRecords (Some (near p k l)) (Some n) rs t → k ≤ t.nearer
    → leb k t.nearer ≡ other_radius (Some (near p k l)) (Some n) rs
enough_nearer p k l n rs t few c more =
    let one : k ≤ nearer_than p n rs = omega (arith, c.nearer) in
    le-leb k t.nearer more
    ∙ sym (first_of_two (leb k (nearer_than p n rs)) (ltb (not_farther_than p n rs) k)
    (le-leb k (nearer_than p n rs) one))

pub few_nearer : (p : Point) (k l n : ℕ) (rs : List Record) (t : RadiusCounts) → k < 2 ^ 16
    → CountsRecords (Some (near p k l)) (Some n) rs t → t.nearer < k
    → ltb t.within k ≡ other_radius (Some (near p k l)) (Some n) rs
few_nearer p k l n rs t few c less =
    let one : nearer_than p n rs < k = omega (arith, c.nearer) in
    same_less t.within (not_farther_than p n rs) k (omega arith) c.within
    ∙ sym (second_of_two (leb k (nearer_than p n rs)) (ltb (not_farther_than p n rs) k)
    (lt-leb k (nearer_than p n rs) one))
