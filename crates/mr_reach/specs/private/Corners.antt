-- Points, and how many of them lie low and to the left.
use Rattle.std.specs.Prelude.{◌≡◌, ℕ, ℤ, int_le, ◌&&◌, List, length, take, map}
use Rattle.std.specs.List.{count_by}
use Rattle.mr_geom.specs.declared.point.Point.{Point}
use Rattle.mr_reach.specs.private.Ranks.{at_most, Ranks}
use Rattle.mr_reach.specs.private.Levels.{HasLevels}
use Rattle.mr_reach.specs.declared.levels.Level.{Level}

-- how many lie at most so far to the right and so high
abbrev pub corner_count : ℤ → ℤ → List Point → ℕ
corner_count x y ps = count_by (λ (p : Point). int_le p.x x && int_le p.y y) ps

abbrev pub xs_in : List Point → List ℤ
xs_in ps = map (λ (p : Point). p.x) ps

abbrev pub ys_in : List Point → List ℤ
ys_in ps = map (λ (p : Point). p.y) ps

-- the first and the second numbers of points, from left to right
pub record Axes : Type 0 where
  pub xs : List ℤ
  pub ys : List ℤ

-- of points with these numbers: as many of the first as lie at most so far to the right
abbrev pub axes_count : ℤ → ℤ → Axes → ℕ
axes_count x y a = at_most y (take (at_most x a.xs) a.ys)

-- these count as the points do
abbrev pub CountsCorners : List Point → Axes → Type 0
CountsCorners ps a = (x y : ℤ) → axes_count x y a ≡ corner_count x y ps

-- the first numbers are in order, and the second ones stand in levels
pub record HasAxes (xs ys heights : List ℤ) (levels : List Level) : Type 0 where
  pub long : length xs ≡ length ys
  pub left : Ranks (λ v. at_most v xs) xs
  pub low : HasLevels ys heights levels
