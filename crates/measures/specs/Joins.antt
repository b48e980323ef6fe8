-- Values that are made of points, from the value of no points by joining one point after another.
use Rattle.std.specs.Prelude.{◌≡◌, ℕ, zero, suc, ◌≤◌, cond, List, [], ◌∷◌, length}
use Rattle.tasks.specs.declared.points.Point.{Point}
use Rattle.tasks.specs.Choices.{Choice}

module _ {V : Type 0} (none : V) (join : V → Point → V) where
  -- the points of a list joined, the last one of the list first
  abbrev pub joined : List Point → V
  joined [] = none
  joined (p ∷ ps) = join (joined ps) p

  -- v is the value of n points at most
  pub record Reached (n : ℕ) (v : V) : Type 0 where
    pub points : List Point
    pub many : length points ≤ n
    pub is : v ≡ joined points

  -- the value of the chosen points before block k (by index), joined in rising order; `point i` is the point at index i
  abbrev pub measured : (ℕ → Point) → Choice → ℕ → V
  measured point c zero = none
  measured point c (suc k) = cond (c k) (join (measured point c k) (point k)) (measured point c k)
