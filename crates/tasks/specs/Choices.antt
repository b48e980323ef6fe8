-- A choice of a task's points, and what it makes of the task.
-- Index i is block i + 1, and point i + 1, which lies between the blocks i and i + 1 (by index).
use Rattle.std.specs.Prelude.{ℕ, zero, suc, ◌+◌, ◌/◌, ◌%◌, ◌^◌, max, Bool, cond, List, [], ◌∷◌, ◌++◌, ◌==◌}
use Rattle.tasks.specs.declared.points.Point.{Point}

-- the set of the points that are chosen, as a test on their indices
abbrev pub Choice : Type 0
Choice = ℕ → Bool

-- the choice that a word tells: bit i for the point at index i, which is point i + 1
abbrev pub told : ℕ → Choice
told word i = word / 2 ^ i % 2 == 1

-- The rest is over a task whose block at index i costs `cost i` and whose point at index i is `point i`.
module _ (cost : ℕ → ℕ) (point : ℕ → Point) (c : Choice) where
  -- The lengths of the stretches (non-preemptive regions) of the blocks up to index k, the last stretch first.
  -- That one goes on for `more` ticks behind block k. A stretch begins at the task's start or at a chosen point, whose ticks it has too.
  abbrev pub stretches : ℕ → ℕ → List ℕ
  stretches zero more = (cost 0 + more) ∷ []
  stretches (suc k) more = cond (c k) (((point k).ticks + (cost (suc k) + more)) ∷ stretches k 0) (stretches k (cost (suc k) + more))

  -- the cost of the blocks up to index k and of the chosen points between them
  abbrev pub total : ℕ → ℕ
  total zero = cost 0
  total (suc k) = total k + cost (suc k) + cond (c k) (point k).ticks 0

-- the numbers of the chosen points before block k (by index), rising
abbrev pub rising : Choice → ℕ → List ℕ
rising c zero = []
rising c (suc k) = rising c k ++ cond (c k) (suc k ∷ []) []

abbrev pub greatest : List ℕ → ℕ
greatest [] = 0
greatest (x ∷ xs) = max x (greatest xs)
